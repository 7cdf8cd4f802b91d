-- Atoms of a step, and those among which each is.
use Rattle.std.proofs.Common.{◌≡◌, ◌∙◌, ◌+◌, ◌<◌, ◌++◌, ◌∷◌, List, Option, Some, [], ap, arith, drop, get_or, inl, inr, length, map, slice_get, suc, sym, take, zero, ℕ}
use Rattle.std.proofs.lemmas.Option.{slice_get-get_or}
use Rattle.htn_model.specs.Instances.{value_of}
use Rattle.htn_model.specs.PlanFile.{IsIn}
use Rattle.htn_task.specs.Views.{term_of, terms_of}
use Rattle.htn_task.specs.declared.term.Term.{Term as RustTerm}
use Rattle.plan_lines.specs.Given.{Extends, object_of}
use Rattle.plan_lines.proofs.Narrowed.{mapped_at, mapped_long, stands_for}

-- the argument at a place is the object for which the term there stands
pub argument_is : (given : List (Option ℕ)) (values : List ℕ) (terms : List RustTerm) (i : ℕ) (d : RustTerm) (o : ℕ) → i < length terms
    → object_of given (term_of (get_or terms i d)) ≡ Some o → Extends values given → slice_get (map (value_of values) (terms_of terms)) i ≡ Some o
argument_is given values terms i d o below is h =
    let e = mapped_long (value_of values) (terms_of terms) in
    let f = mapped_long term_of terms in
    slice_get-get_or (map (value_of values) (terms_of terms)) i 0 (omega (arith, e, f, below)) ∙ ap Some (mapped_at values terms i d below ∙ stands_for values given (term_of (get_or terms i d)) o h is)

-- what stands at a place of a list is at that place of what it is mapped to
pub mapped_get : {X Y : Type 0} (f : X → Y) (xs : List X) (n : ℕ) (x : X) → n < length xs → x ≡ get_or xs n x → slice_get (map f xs) n ≡ Some (f x)
mapped_get f [] n x below is = absurd (omega (arith, below))
mapped_get f (y ∷ xs) zero x below is = λ i. Some (f (sym is i))
mapped_get f (y ∷ xs) (suc n) x below is = mapped_get f xs n x (omega (arith, below)) is

-- what is left of a list without one item was in it
pub in_removed : {X Y : Type 0} (f : X → Y) (xs : List X) (n : ℕ) (y : Y) → IsIn y (map f (take n xs ++ drop (suc n) xs)) → IsIn y (map f xs)
in_removed f [] zero y i = i
in_removed f [] (suc n) y i = i
in_removed f (x ∷ xs) zero y i = inr i
in_removed f (x ∷ xs) (suc n) y (inl e) = inl e
in_removed f (x ∷ xs) (suc n) y (inr i) = inr (in_removed f xs n y i)
