-- When an atom or a task fails, by its name and its arguments.
use Rattle.std.proofs.Common.{◌≡◌, ◌⊎◌, ℕ, zero, suc, ◌+◌, ◌<◌, ◌≤◌, List, [], ◌∷◌, ◌++◌, map, Option, Some, None, refl, sym, ap, subst, ◌∙◌, inl, inr, take, get_or, length, arith}
use Rattle.std.specs.List.{zip}
use Rattle.std.proofs.lemmas.List.{take_more, length-map}
use Rattle.hddl_words.specs.declared.term.Term.{Term}
use Rattle.hddl_words.specs.declared.domain.DomainText.{DomainText}
use Rattle.hddl_words.specs.declared.problem.ProblemText.{ProblemText}
use Rattle.hddl_meaning.specs.Mentions.{Text, Typed, IsIn, folded}
use Rattle.hddl_meaning.specs.Names.{object_names}
use Rattle.hddl_meaning.specs.Uses.{Use, TermUse, Variable}
use Rattle.hddl_meaning.specs.Items.{IsUnknownTerm, Signature, declaration_in}
use Rattle.hddl_meaning.specs.declared.fault.Source.{Source}
use Rattle.hddl_meaning.specs.declared.fault.CheckFault.{CheckFault}
use Rattle.hddl_meaning.proofs.Listed.{at_head, at_tail, in_cases, in_nothing, in_map}
use Rattle.hddl_scope.specs.Findings.{AnyOf, Finds, IsOneOf}
use Rattle.hddl_uses.specs.Parts.{ArgumentFailsIn, UseFails}
use Rattle.hddl_uses.specs.Tables.{as_parameter}
use Rattle.hddl_scope.proofs.Finding.{Finds-append, Finds-list, Finds-none, Finds-same, Finds-single, Finds-some, mapped}

-- ## Pairs of two lists

-- where both lists have a value, they have the pair
pub zip_at : {X Y : Type 0} (xs : List X) (ys : List Y) (k : ℕ) (x : X) (y : Y) → k < length xs → k < length ys → x ≡ get_or xs k x → y ≡ get_or ys k y
    → (k < length (zip xs ys)) × ((x, y) ≡ get_or (zip xs ys) k (x, y))
zip_at [] ys k x y lx ly ex ey = absurd (omega (arith, lx))
zip_at (a ∷ xs) [] k x y lx ly ex ey = absurd (omega (arith, ly))
zip_at (a ∷ xs) (b ∷ ys) zero x y lx ly ex ey = (omega arith, λ i. (ex i, ey i))
zip_at (a ∷ xs) (b ∷ ys) (suc k) x y lx ly ex ey =
    let (below, is) = zip_at xs ys k x y (omega (arith, lx)) (omega (arith, ly)) ex ey in (omega (arith, below), is)

-- there are no more pairs than values in the first list
pub zip_short : {X Y : Type 0} (xs : List X) (ys : List Y) → length (zip xs ys) ≤ length xs
zip_short [] ys = omega arith
zip_short (x ∷ xs) [] = omega arith
zip_short (x ∷ xs) (y ∷ ys) = let le = zip_short xs ys in omega (arith, le)

-- the first of a pair is in the first list
zip_left : {X Y : Type 0} (xs : List X) (ys : List Y) (z : X × Y) → IsIn z (zip xs ys) → IsIn z.0 xs
zip_left [] ys z at = absurd (in_nothing z at)
zip_left (x ∷ xs) [] z at = absurd (in_nothing z at)
zip_left (x ∷ xs) (y ∷ ys) z at = elim (in_cases (x, y) z (zip xs ys) at) [
  | inl is ↦ subst (λ a. IsIn a (x ∷ xs)) (ap (λ w. w.0) is) (at_head x xs)
  | inr later ↦ at_tail x z.0 xs (zip_left xs ys z later)
]

-- with the second list's items as parameters
pub zip_parameters : {X : Type 0} (xs : List X) (ts : List Typed) (x : X) (t : Typed) → IsIn {X = X × Typed} (x, t) (zip xs ts) → IsIn {X = X × Variable} (x, as_parameter t) (zip xs (map as_parameter ts))
zip_parameters [] ts x t at = absurd (in_nothing (x, t) at)
zip_parameters (a ∷ xs) [] x t at = absurd (in_nothing (x, t) at)
zip_parameters {X} (a ∷ xs) (b ∷ ts) x t at = elim (in_cases {X = X × Typed} (a, b) (x, t) (zip xs ts) at) [
  | inl is ↦ subst (λ (w : X × Typed). IsIn {X = X × Variable} (w.0, as_parameter w.1) ((a, as_parameter b) ∷ zip xs (map as_parameter ts))) is (at_head (a, as_parameter b) (zip xs (map as_parameter ts)))
  | inr later ↦ at_tail (a, as_parameter b) (x, as_parameter t) (zip xs (map as_parameter ts)) (zip_parameters xs ts x t later)
]

-- a pair with a parameter is one with its declaration
pub zip_typed : {X : Type 0} (xs : List X) (ts : List Typed) (z : X × Variable) → IsIn z (zip xs (map as_parameter ts)) → IsIn {X = X × Typed} (z.0, z.1.typed) (zip xs ts)
zip_typed [] ts z at = absurd (in_nothing z at)
zip_typed (a ∷ xs) [] z at = absurd (in_nothing z at)
zip_typed {X} (a ∷ xs) (b ∷ ts) z at = elim (in_cases {X = X × Variable} (a, as_parameter b) z (zip xs (map as_parameter ts)) at) [
  | inl is ↦ subst (λ (w : X × Variable). IsIn {X = X × Typed} (w.0, w.1.typed) ((a, b) ∷ zip xs ts)) is (at_head (a, b) (zip xs ts))
  | inr later ↦ at_tail (a, b) (z.0, z.1.typed) (zip xs ts) (zip_typed xs ts z later)
]

-- the first items of two joined lists
pub take_front : {X : Type 0} (xs ys : List X) → take (length xs) (xs ++ ys) ≡ xs
take_front [] ys = refl
take_front (x ∷ xs) ys = ap (λ l. x ∷ l) (take_front xs ys)
