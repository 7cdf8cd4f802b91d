-- Literals and atoms with the argument at a place moved behind the others.
use Rattle.std.proofs.Common.{◌≡◌, ℕ, Bool, true, false, not, cond, ◌||◌, ◌&&◌, List, [], ◌∷◌, ◌++◌, ◌⊎◌, inl, inr, Some, suc, map, length, take, drop, ltb, ◌<◌, refl, sym, ap, ◌∙◌, arith}
use Rattle.std.specs.Prelude.{nat_eq, nat_lt}
use Rattle.std.specs.List.{filter, list_any, remove, take-map, drop-map}
use Rattle.std.specs.FinMap.{contains_key-keys}
use Rattle.std.specs.Cmp.{tied_itself}
use Rattle.std.specs.Ordering.{is_eq}
use Rattle.std.specs.Option.{unwrap_or}
use Rattle.std.proofs.lemmas.Bool.{or_cases}
use Rattle.std.proofs.lemmas.Bool.Decides.{nat_tests}
use Rattle.std.proofs.lemmas.List.{length-map, map-append}
use Rattle.htn_model.specs.Atom.{Atom}
use Rattle.htn_model.specs.AtomOrder.{atom_cmp-total}
use Rattle.htn_model.specs.State.{State, atoms_of, contains}
use Rattle.htn_model.specs.Literal.{atom, literal_holds}
use Rattle.htn_model.specs.Instances.{value_of}
use Rattle.htn_model.proofs.Sets.{contains-set_of, is_same, same_as}
use Rattle.htn_task.specs.Views.{terms_of}
use Rattle.htn_ground.specs.declared.candidates.Candidates.{Candidates}
use Rattle.htn_ground.specs.declared.fixed.FixedLiteral.{FixedLiteral}
use Rattle.htn_ground.specs.Candidates.{AgreesWith, atom_of, moved_atom, moved_atoms, moved_last, rows_of}
use Rattle.htn_ground.specs.Search.{fixed_atom}

-- images are moved as their members are
pub map-moved_last : {X Y : Type 0} (f : X → Y) (place : ℕ) (xs : List X) → map f (moved_last place xs) ≡ moved_last place (map f xs)
map-moved_last f place xs =
    map-append f (remove xs place) (take 1 (drop place xs))
    ∙ (λ i. removed i ++ last i)
  where
    removed : map f (remove xs place) ≡ remove (map f xs) place
    removed = map-append f (take place xs) (drop (suc place) xs) ∙ (λ i. sym (take-map f place xs) i ++ sym (drop-map f (suc place) xs) i)

    last : map f (take 1 (drop place xs)) ≡ take 1 (drop place (map f xs))
    last = sym (take-map f 1 (drop place xs)) ∙ ap (take 1) (sym (drop-map f place xs))

-- an atom of a list is among those moved
moved_found : (place : ℕ) (fits : Atom → Bool) (q : Atom) (xs : List Atom) → fits q ≡ true → list_any (is_same q) xs ≡ true
    → list_any (is_same (moved_atom place q)) (map (moved_atom place) (filter fits xs)) ≡ true
moved_found place fits q [] fit any = any
moved_found place fits q (x ∷ xs) fit any = by (or_cases (is_same q x) (list_any (is_same q) xs) any) (moved_found place fits q xs fit)
  where
    rest : List Atom
    rest = filter fits xs

    whole : List Atom → Bool
    whole l = list_any (is_same (moved_atom place q)) (map (moved_atom place) l)

    later : (b : Bool) → whole rest ≡ true → whole (cond b (x ∷ rest) rest) ≡ true
    later true h = or_true (is_same (moved_atom place q) (moved_atom place x)) (whole rest) h
      where
        or_true : (a b : Bool) → b ≡ true → (a || b) ≡ true
        or_true true b e = refl
        or_true false b e = e
    later false h = h

    by : (is_same q x ≡ true) ⊎ (list_any (is_same q) xs ≡ true) → (list_any (is_same q) xs ≡ true → whole rest ≡ true) → whole (cond (fits x) (x ∷ rest) rest) ≡ true
    by (inl e) more =
        let same : q ≡ x = same_as q x e in
        let itself : is_same (moved_atom place q) (moved_atom place x) ≡ true =
        ap (λ (a : Atom). is_same (moved_atom place q) (moved_atom place a)) (sym same) ∙ ap is_eq (tied_itself atom_cmp-total (moved_atom place q)) in
        ap (λ b. whole (cond b (x ∷ rest) rest)) (ap fits (sym same) ∙ fit) ∙ ap (λ b. b || whole rest) itself
    by (inr e) more = later (fits x) (more e)

-- a true atom stands among the moved ones
moved_true : (state : State) (predicate place : ℕ) (q : Atom) → nat_eq q.predicate predicate ≡ true → nat_lt place (length q.arguments) ≡ true
    → contains state q ≡ true → contains (moved_atoms state predicate place) (moved_atom place q) ≡ true
moved_true state predicate place q of long is =
    let fits : Atom → Bool = λ a. nat_eq a.predicate predicate && nat_lt place (length a.arguments) in
    contains-set_of (map (moved_atom place) (filter fits (atoms_of state))) (moved_atom place q)
    ∙ moved_found place fits q (atoms_of state) (λ i. of i && long i) (sym (contains_key-keys state q) ∙ is)

-- what implies something false is false
false_by : (a b : Bool) → (a ≡ true → b ≡ true) → not b ≡ true → a ≡ false
false_by true b h e = absurd (let yes : b ≡ true = h refl in cc)
false_by false b h e = refl

-- a plain literal holds where its atom is true
pub positive_holds : (state : State) (positive : Bool) (a : Atom) → positive ≡ true → literal_holds state (atom positive a) ≡ contains state a
positive_holds state true a e = refl
positive_holds state false a e = absurd cc

-- the atoms in another order agree
pub agrees_moved : (state : State) (l : FixedLiteral) (c : Candidates) (place : ℕ) → l.is_positive ≡ true → place < length l.arguments.items → c.rows ≡ Some (moved_atoms state l.predicate place) → c.predicate ≡ l.predicate
    → terms_of c.arguments.items ≡ moved_last place (terms_of l.arguments.items) → AgreesWith state l c
agrees_moved state l c place positive inside rows named terms values o e =
    let all = values ++ o ∷ [] in
    let q = fixed_atom all l in
    let same : moved_atom place q ≡ atom_of all c =
    λ i. record { predicate = sym named i; arguments = (sym (map-moved_last (value_of all) place (terms_of l.arguments.items)) ∙ ap (map (value_of all)) (sym terms)) i } in
    let long : length q.arguments ≡ length l.arguments.items = length-map (terms_of l.arguments.items) (value_of all) ∙ length-map l.arguments.items _ in
    positive_holds state l.is_positive q positive
    ∙ false_by (contains state q) (contains (rows_of state c) (atom_of all c))
    (λ is. ap (λ r. contains (unwrap_or r state) (atom_of all c)) rows ∙ ap (contains (moved_atoms state l.predicate place)) (sym same)
    ∙ moved_true state l.predicate place q (itself l.predicate) (fits place (length q.arguments) (omega arith)) is) e
  where
    itself : (n : ℕ) → nat_eq n n ≡ true
    itself n = grind (arith, nat_tests)

    fits : (m n : ℕ) → m < n → ltb m n ≡ true
    fits m n h = grind (arith, nat_tests)
