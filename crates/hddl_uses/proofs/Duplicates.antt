-- Faults of names that stand again, as they are listed.
use Rattle.std.proofs.Common.{◌≡◌, ◌⊎◌, ℕ, List, [], ◌∷◌, map, refl, sym, subst, inl, inr, take, zero, suc, ◌<◌, length, get_or, arith}
use Rattle.std.specs.List.{fold}
use Rattle.hddl_meaning.specs.Mentions.{Mention, IsIn}
use Rattle.hddl_meaning.specs.declared.fault.Source.{Source}
use Rattle.hddl_meaning.specs.declared.fault.CheckFault.{CheckFault}
use Rattle.hddl_meaning.specs.declared.fault.CheckFault.TheVariants.{Duplicate}
use Rattle.hddl_meaning.proofs.Listed.{at_tail, in_cases, in_map, in_nothing}
use Rattle.hddl_scope.specs.Findings.{Adds, Faulted, Kept, keep}
use Rattle.hddl_scope.specs.Repeats.{AreRepeats, IsRepeatOfFirst}
use Rattle.hddl_scope.proofs.Finding.{mapped}
use Rattle.hddl_scope.proofs.Repeating.{no_repeat}
use Rattle.hddl_uses.specs.Contexts.{duplicate_at}

-- what stands below the length of a list is the same for each default
pub any_default : {X : Type 0} (xs : List X) (k : ℕ) (d e : X) → k < length xs → get_or xs k d ≡ get_or xs k e
any_default [] k d e lt = absurd (omega (arith, lt))
any_default (x ∷ xs) zero d e lt = refl
any_default (x ∷ xs) (suc k) d e lt = any_default xs k d e (omega (arith, lt))

-- a mapped list is empty where the list is
empty_mapped : {X Y : Type 0} (f : X → Y) (xs : List X) → map f xs ≡ [] → xs ≡ []
empty_mapped f [] e = refl
empty_mapped f (x ∷ xs) e = cc

module _ (text : Source) (ms : List Mention) (places : List ℕ) where
  -- each listed place is one of a repeat
  listed_sound : (start : ℕ) → AreRepeats start ms places → (f : CheckFault) → IsIn f (map (duplicate_at text) places) → Faulted Duplicate text (IsRepeatOfFirst ms) f
  listed_sound start h f at = let (place, in', is) = mapped (duplicate_at text) places f at in (place, is, h.sound place in')

  -- a listed place is among the faults
  listed_in : (place : ℕ) (f : CheckFault) → f ≡ duplicate_at text place → IsIn place places → IsIn f (map (duplicate_at text) places)
  listed_in place f e i = subst (λ x. IsIn x (map (duplicate_at text) places)) (sym e) (in_map (duplicate_at text) place places i)

  -- the repeats of a whole list
  pub repeats_added : {O : CheckFault → Type 0} {before after : Kept} → AreRepeats 0 ms places
      → after ≡ fold keep before (map (duplicate_at text) places) → Adds O (Faulted Duplicate text (IsRepeatOfFirst ms)) before after
  repeats_added h is = record {
    added = map (duplicate_at text) places;
    sound = listed_sound 0 h;
    complete = λ f (place, e, r). inl (listed_in place f e (listed place r));
    none = λ e f (place, _, r). in_nothing place (subst (IsIn place) (empty_mapped (duplicate_at text) places e) (listed place r));
    is = is;
  }
    where
      listed : (place : ℕ) → IsRepeatOfFirst ms place → IsIn place places
      listed place r = elim (h.complete place r) [ inl i ↦ i | inr before ↦ absurd (no_repeat place before) ]

  -- the repeats past the first so many, with one that is known
  pub repeats_among : {before after : Kept} (start known : ℕ) → IsRepeatOfFirst ms known → AreRepeats start ms places
      → after ≡ fold keep before (duplicate_at text known ∷ map (duplicate_at text) places)
      → Adds (Faulted Duplicate text (IsRepeatOfFirst (take start ms))) (Faulted Duplicate text (IsRepeatOfFirst ms)) before after
  repeats_among start known one h is = record {
    added = duplicate_at text known ∷ map (duplicate_at text) places;
    sound = λ f at. elim (in_cases (duplicate_at text known) f (map (duplicate_at text) places) at) [
      | inl e ↦ (known, sym e, one)
      | inr later ↦ listed_sound start h f later
    ];
    complete = λ f (place, e, r). elim (h.complete place r) [
      | inl i ↦ inl (at_tail (duplicate_at text known) f (map (duplicate_at text) places) (listed_in place f e i))
      | inr before ↦ inr (place, e, before)
    ];
    none = λ e. cc;
    is = is;
  }
