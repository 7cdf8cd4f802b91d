-- The states for which masked sets stand.
use Rattle.std.proofs.Common.{◌≡◌, ℕ, Bool, true, false, not, cond, ◌||◌, ◌&&◌, inl, inr, List, Some, slice_get, refl, sym, ap, ap₂, ◌∙◌}
use Rattle.htn_model.specs.Atom.{Atom}
use Rattle.htn_model.specs.AtomOrder.{same_state}
use Rattle.htn_model.specs.State.{contains}
use Rattle.call_rules.specs.Frame.{IsInside, within, lift}
use Rattle.call_rules.proofs.Parts.{contains-within, contains-lift}
use Rattle.state_table.specs.Bits.{has}
use Rattle.state_table.specs.Table.{Table, IsTable, is_fluent, state_of}
use Rattle.state_table.proofs.States.{numbered, numbered_is, unnumbered_is}
use Rattle.call_proof.specs.Masks.{frame_of}

module _ (t : Table) (table : IsTable t) (mask : List ℕ) where
  -- a numbered atom is in the frame where the mask has its number
  pub framed_at : (q : Atom) (k : ℕ) → slice_get t.atoms k ≡ Some q → frame_of t mask q ≡ has mask k
  framed_at q k at =
      ap (λ b. not b || contains (state_of t mask) q) (table.fluent k q at) ∙ numbered_is t table mask q k at

  -- the state of a set within a mask is the part in the frame
  pub masked : (set words : List ℕ) → ((x : ℕ) → has words x ≡ (has set x && has mask x))
      → state_of t words ≡ within (frame_of t mask) (state_of t set)
  masked set words alike = same_state (state_of t words) (within (frame_of t mask) (state_of t set)) (λ q. at q)
    where
      beside : (f b : Bool) → b ≡ (b && (f || b))
      beside true true = refl
      beside true false = refl
      beside false true = refl
      beside false false = refl

      at : (q : Atom) → contains (state_of t words) q ≡ contains (within (frame_of t mask) (state_of t set)) q
      at q = elim (numbered q t.atoms) [
        | inl found ↦
            numbered_is t table words q found.0 found.1 ∙ alike found.0
            ∙ sym (ap₂ (λ b c. b && c) (numbered_is t table set q found.0 found.1) (framed_at q found.0 found.1))
            ∙ sym (contains-within (frame_of t mask) (state_of t set) q)
        | inr none ↦
            unnumbered_is t table words q none
            ∙ beside (not (is_fluent t q)) (contains t.statics q)
            ∙ sym (ap₂ (λ b c. b && (not (is_fluent t q) || c)) (unnumbered_is t table set q none)
            (unnumbered_is t table mask q none))
            ∙ sym (contains-within (frame_of t mask) (state_of t set) q)
      ]

  -- the state of a set with another's within a mask is lifted
  pub masked_lift : (set part words : List ℕ) → ((x : ℕ) → has words x ≡ cond (has mask x) (has part x) (has set x))
      → state_of t words ≡ lift (frame_of t mask) (state_of t set) (state_of t part)
  masked_lift set part words alike =
      same_state (state_of t words) (lift (frame_of t mask) (state_of t set) (state_of t part)) (λ q. at q)
    where
      either : (f b : Bool) → b ≡ cond f b b
      either true b = refl
      either false b = refl

      at : (q : Atom)
          → contains (state_of t words) q ≡ contains (lift (frame_of t mask) (state_of t set) (state_of t part)) q
      at q = elim (numbered q t.atoms) [
        | inl found ↦
            numbered_is t table words q found.0 found.1 ∙ alike found.0
            ∙ sym (ap₂ (λ b c. cond (has mask found.0) b c) (numbered_is t table part q found.0 found.1)
            (numbered_is t table set q found.0 found.1))
            ∙ sym (ap (λ b. cond b (contains (state_of t part) q) (contains (state_of t set) q))
            (framed_at q found.0 found.1))
            ∙ sym (contains-lift (frame_of t mask) (state_of t set) (state_of t part) q)
        | inr none ↦
            unnumbered_is t table words q none
            ∙ either (frame_of t mask q) (contains t.statics q)
            ∙ sym (ap₂ (λ b c. cond (frame_of t mask q) b c) (unnumbered_is t table part q none)
            (unnumbered_is t table set q none))
            ∙ sym (contains-lift (frame_of t mask) (state_of t set) (state_of t part) q)
      ]

-- where the numbers of one mask are in another, so is its frame
pub masks_inside : (t : Table) → IsTable t → (inner outer : List ℕ)
    → ((x : ℕ) → has inner x ≡ true → has outer x ≡ true) → IsInside (frame_of t inner) (frame_of t outer)
masks_inside t table inner outer each q is = elim (numbered q t.atoms) [
  | inl found ↦
      framed_at t table outer q found.0 found.1
      ∙ each found.0 (sym (framed_at t table inner q found.0 found.1) ∙ is)
  | inr none ↦
      ap (λ b. not (is_fluent t q) || b)
      (unnumbered_is t table outer q none ∙ sym (unnumbered_is t table inner q none))
      ∙ is
]

-- the frame of the numbers of two masks
pub masks_united : (t : Table) → IsTable t → (one other words : List ℕ)
    → ((x : ℕ) → has words x ≡ (has one x || has other x)) → (q : Atom)
    → frame_of t words q ≡ (frame_of t one q || frame_of t other q)
masks_united t table one other words alike q = elim (numbered q t.atoms) [
  | inl found ↦
      framed_at t table words q found.0 found.1 ∙ alike found.0
      ∙ sym (ap₂ (λ b c. b || c) (framed_at t table one q found.0 found.1) (framed_at t table other q found.0 found.1))
  | inr none ↦
      ap (λ b. not (is_fluent t q) || b) (unnumbered_is t table words q none)
      ∙ twice (not (is_fluent t q) || contains t.statics q)
      ∙ sym (ap₂ (λ b c. (not (is_fluent t q) || b) || (not (is_fluent t q) || c)) (unnumbered_is t table one q none)
      (unnumbered_is t table other q none))
]
  where
    twice : (b : Bool) → b ≡ (b || b)
    twice true = refl
    twice false = refl
