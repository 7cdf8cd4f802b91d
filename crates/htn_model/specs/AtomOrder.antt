-- The order of atoms is total and distinguishes all atoms; two states are equal where they have the same atoms.
use Rattle.std.specs.Prelude.{◌≡◌, ℕ, Bool, true, ◌&&◌, List, Option, Some, None, is_some, refl}
use Rattle.std.specs.Bool.{Decides}
use Rattle.std.specs.declared.cmp.Ordering.TheVariants.{Equal}
use Rattle.std.specs.FinMap.{same_map, contains_key-keys}
use Rattle.std.specs.List.{list_any}
use Rattle.std.specs.Ordering.{nat_cmp, eq_by_cmp}
use Rattle.std.specs.Cmp.{IsTotalOrder, IsEquivalence, IsPartialEquivalence, nat_cmp_total, then_total, on_total, partial_equiv_from_equiv, unsigned_Decides, decided, first_so, second_so}
use Rattle.std.specs.Cmp.Lexicographic.{pointwise_decides, nat_list_cmp_total, slice_cmp}
use Rattle.std.proofs.Common.{ap, sym, ◌∙◌}
use Rattle.std.proofs.lemmas.Map.Lookups.{exact_pairs, exact_unsigned, exact_bytes}
use Rattle.htn_model.specs.Atom.{Atom, atom_cmp, atom_eq}
use Rattle.htn_model.specs.State.{State, contains, atoms_of, state_eq}

-- the order of atoms is total
pub atom_cmp-total : IsTotalOrder atom_cmp
atom_cmp-total = then_total (on_total (λ a. a.predicate) nat_cmp_total) (on_total (λ a. a.arguments) nat_list_cmp_total)

-- atoms that compare as equal are equal
pub atom_cmp-same : (x y : Atom) → atom_cmp x y ≡ Equal → x ≡ y
atom_cmp-same x y tie =
    ap (λ (p : ℕ × List ℕ). record { predicate = p.0; arguments = p.1 })
    (exact_pairs nat_cmp (slice_cmp nat_cmp) exact_unsigned exact_bytes (x.predicate, x.arguments) (y.predicate, y.arguments) tie)

-- two tests that hold are a conjunction that holds
pub both_true : (a b : Bool) → a ≡ true → b ≡ true → (a && b) ≡ true
both_true a b h g = λ i. h i && g i

-- the test of atoms is true exactly of equal atoms
pub atom_eq-decides : (x y : Atom) → Decides (atom_eq x y) (x ≡ y)
atom_eq-decides x y = (
  λ e. let predicate = (unsigned_Decides x.predicate y.predicate).0 (first_so _ _ e) in
      let arguments = (pointwise_decides unsigned_Decides x.arguments y.arguments).0 (second_so _ _ e) in
      λ i. record { predicate = predicate i; arguments = arguments i },
  λ e. both_true _ _ ((unsigned_Decides x.predicate y.predicate).1 (ap (λ (a : Atom). a.predicate) e)) ((pointwise_decides unsigned_Decides x.arguments y.arguments).1 (ap (λ (a : Atom). a.arguments) e)),
)

-- the test of atoms is an equivalence
pub atom_eq-laws : IsEquivalence atom_eq
atom_eq-laws = decided atom_eq atom_eq-decides

-- the test of atoms is an equivalence in the sense of `PartialEq`
pub atom_eq-partial : IsPartialEquivalence atom_eq
atom_eq-partial = partial_equiv_from_equiv atom_eq-laws

-- ## States

-- two marks are equal where both are present or neither is
marks : (x y : Option (Unit {0})) → is_some x ≡ is_some y → x ≡ y
marks None None e = refl
marks None (Some u) e = cc
marks (Some t) None e = cc
marks (Some t) (Some u) e = refl

-- two states in which the same atoms are true are equal
pub same_state : (s t : State) → ((q : Atom) → contains s q ≡ contains t q) → s ≡ t
same_state s t alike = same_map atom_cmp-total atom_cmp-same s t (λ q. marks _ _ (alike q))

-- states with the same atoms are equal
pub same_atoms : (s t : State) → atoms_of s ≡ atoms_of t → s ≡ t
same_atoms s t e = same_state s t (λ q. contains_key-keys s q ∙ ap (list_any (eq_by_cmp atom_cmp q)) e ∙ sym (contains_key-keys t q))

-- the test of states is true exactly of equal states
pub state_eq-decides : (s t : State) → Decides (state_eq s t) (s ≡ t)
state_eq-decides s t =
    let atoms = pointwise_decides atom_eq-decides (atoms_of s) (atoms_of t) in
    (λ e. same_atoms s t (atoms.0 e), λ e. atoms.1 (ap atoms_of e))

-- the test of states is an equivalence
pub state_eq-laws : IsEquivalence state_eq
state_eq-laws = decided state_eq state_eq-decides

-- the test of states is an equivalence in the sense of `PartialEq`
pub state_eq-partial : IsPartialEquivalence state_eq
state_eq-partial = partial_equiv_from_equiv state_eq-laws
