-- Files whose lines are a forest have no wrong numbers, and others have some, or lines that aren't reached.
use Rattle.std.proofs.Common.{◌≡◌, ◌⊎◌, ℕ, List, [], ◌∷◌, inl, inr, refl, sym, subst}
use Rattle.htn_model.specs.PlanFile.{IsForest, IsIn, IsReached, IsWithoutRepeats, PlanFile, defined_ids, listed_ids}
use Rattle.htn_model.proofs.Proper.{same_members}
use Rattle.htn_model.proofs.Rearranged.{distinct_rearranged, in_arranged, in_rearranged}
use Rattle.plan_causes.specs.declared.structure.WrongIds.{WrongIds}
use Rattle.plan_causes.specs.Structure.{AreExactly, AreNone, AreWrong, IsRepeated}
use Rattle.plan_causes.proofs.Sets.{is_there}

-- where there are no such numbers the list is empty
none_left : (IsOne : ℕ → Type 0) (ids : List ℕ) → AreExactly IsOne ids → ((id : ℕ) → IsOne id → ⊥) → ids ≡ []
none_left IsOne [] exact none = refl
none_left IsOne (id ∷ ids) exact none = absurd (none id ((exact.exactly id).0 (inl refl)))

-- and where it is empty there are none
none_there : (IsOne : ℕ → Type 0) (ids : List ℕ) → AreExactly IsOne ids → ids ≡ [] → (id : ℕ) → IsOne id → ⊥
none_there IsOne ids exact empty id one = subst (IsIn id) empty ((exact.exactly id).1 one)

-- without repeats nothing is repeated
not_repeated : (ids : List ℕ) → IsWithoutRepeats ids → (id : ℕ) → IsRepeated ids id → ⊥
not_repeated [] once id r = r
not_repeated (x ∷ ids) once id (inl r) = once.0 (subst (λ z. IsIn z ids) r.0 r.1)
not_repeated (x ∷ ids) once id (inr r) = not_repeated ids once.1 id r

-- and where nothing is repeated there are no repeats
without_repeats : (ids : List ℕ) → ((id : ℕ) → IsRepeated ids id → ⊥) → IsWithoutRepeats ids
without_repeats [] none = tt
without_repeats (x ∷ ids) none = ((λ i. none x (inl (refl, i))), without_repeats ids (λ id r. none id (inr r)))

-- the lines of a forest
pub forests : (file : PlanFile) (wrong : WrongIds) → AreWrong file wrong → IsForest file → AreNone wrong
forests file wrong are forest = record {
  defined_twice = none_left _ wrong.defined_twice.items are.defined_twice (not_repeated (defined_ids file) forest.defined_once);
  listed_twice = none_left _ wrong.listed_twice.items are.listed_twice
      (not_repeated (listed_ids file) (distinct_rearranged (defined_ids file) (listed_ids file) forest.listed_once forest.defined_once));
  undefined = none_left _ wrong.undefined.items are.undefined (λ id m. m.1 (in_arranged id (defined_ids file) (listed_ids file) forest.listed_once m.0));
  unlisted = none_left _ wrong.unlisted.items are.unlisted (λ id m. m.1 (in_rearranged id (defined_ids file) (listed_ids file) forest.listed_once m.0));
}

-- lines without wrong numbers, each of which is reached
pub others : (file : PlanFile) (wrong : WrongIds) → AreWrong file wrong → AreNone wrong
    → ((id : ℕ) → IsIn id (defined_ids file) → IsReached file id) → IsForest file
others file wrong are none reached =
    let once = without_repeats (defined_ids file) (none_there _ wrong.defined_twice.items are.defined_twice none.defined_twice) in
    let lists_once = without_repeats (listed_ids file) (none_there _ wrong.listed_twice.items are.listed_twice none.listed_twice) in
    record {
      defined_once = once;
      listed_once = same_members (defined_ids file) (listed_ids file) once lists_once
          (λ id i. is_there id (listed_ids file) (λ n. none_there _ wrong.unlisted.items are.unlisted none.unlisted id (i, n)))
          (λ id i. is_there id (defined_ids file) (λ n. none_there _ wrong.undefined.items are.undefined none.undefined id (i, n)));
      reached = reached;
    }
