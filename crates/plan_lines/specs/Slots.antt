-- The test of slots is true exactly of equal slots.
use Rattle.std.specs.Prelude.{◌≡◌, ◌&&◌, ℕ, Bool, nat_eq}
use Rattle.std.specs.Bool.{Decides}
use Rattle.std.specs.Cmp.{IsEquivalence, IsPartialEquivalence, partial_equiv_from_equiv, unsigned_Decides, decided, first_so, second_so}
use Rattle.std.specs.Hash.{Alike, same_Alike}
use Rattle.std.proofs.Common.{ap}
use Rattle.htn_model.specs.AtomOrder.{both_true}
use Rattle.plan_lines.specs.EverTrue.{slot_eq, slot_hash}
use Rattle.plan_lines.specs.declared.ever_true.Slot.{Slot}
use Rattle.plan_lines.specs.declared.ever_true.Slot.TheVariants.{Predicate, Argument}

-- the test is true exactly of equal slots
pub slot_eq-decides : (x y : Slot) → Decides (slot_eq x y) (x ≡ y)
slot_eq-decides (Predicate p) (Predicate q) = let d = unsigned_Decides p q in (λ e. ap Predicate (d.0 e), λ e. d.1 (let same : p ≡ q = cc in same))
slot_eq-decides (Predicate p) (Argument q j r) = (λ e. absurd cc, λ e. absurd cc)
slot_eq-decides (Argument p i o) (Predicate q) = (λ e. absurd cc, λ e. absurd cc)
slot_eq-decides (Argument p i o) (Argument q j r) =
    let ps = unsigned_Decides p q in
    let is = unsigned_Decides i j in
    let os = unsigned_Decides o r in (
      λ e.
          let a : p ≡ q = ps.0 (first_so _ _ e) in
          let b : i ≡ j = is.0 (first_so _ _ (second_so _ _ e)) in
          let c : o ≡ r = os.0 (second_so _ _ (second_so _ _ e)) in
          λ k. Argument (a k) (b k) (c k),
      λ e.
          let a : p ≡ q = cc in
          let b : i ≡ j = cc in
          let c : o ≡ r = cc in
          both_true _ _ (ps.1 a) (both_true _ _ (is.1 b) (os.1 c)),
    )

-- the test has the laws of an equality
pub slot_eq-laws : IsEquivalence slot_eq
slot_eq-laws = decided slot_eq slot_eq-decides

-- the test has the laws of a partial equality
pub slot_eq-partial : IsPartialEquivalence slot_eq
slot_eq-partial = partial_equiv_from_equiv slot_eq-laws

-- equal slots feed a hasher alike
pub slot_hash-Alike : Alike slot_eq slot_hash
slot_hash-Alike = same_Alike slot_hash slot_eq-decides
