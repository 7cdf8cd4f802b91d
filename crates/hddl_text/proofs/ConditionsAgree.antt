-- Conditions, effects and constraints: each reader agrees with its phrase.
use Rattle.std.proofs.Common.{◌≡◌, ℕ, suc, ◌<◌, true, false, List, [], length, refl, ap, arith}
use Rattle.hddl_words.specs.declared.class.Class.{Class}
use Rattle.hddl_words.specs.declared.class.Class.TheVariants as class
use Rattle.hddl_words.specs.Words.{Word}
use Rattle.hddl_words.specs.Reading.{Outcome, read, failed, Reader, and_then, pure, run, next}
use Rattle.hddl_words.specs.Reading as reading
use Rattle.hddl_words.specs.Phrase.{Phrase}
use Rattle.hddl_words.proofs.Agree.{Agrees, ItemAgrees, reads, nothing, agrees_seq, agrees_map}
use Rattle.hddl_words.proofs.AgreeMore.{agrees_at, agrees_word}
use Rattle.hddl_words.specs.declared.condition.LiteralText.{LiteralText}
use Rattle.hddl_words.specs.declared.condition.EqualityText.{EqualityText}
use Rattle.hddl_words.specs.declared.condition.Condition.{Condition}
use Rattle.hddl_words.specs.declared.condition.Condition.TheVariants as condition
use Rattle.hddl_words.specs.Names.{name_of}
use Rattle.hddl_text.specs.Grammar.{IsNegated, IsConditionPart, IsEffectPart, IsConstraintPart, IsRest, IsRestWithin, IsCondition, IsEffect, IsConstraint}
use Rattle.hddl_text.specs.Readers.{opening, closing, parameters, negated_part, negated_condition, forall_rest, condition_part, effect_part, constraint_part, condition_rest, effect_rest, constraint_rest, whole_condition, whole_effect, whole_constraint, body}
use Rattle.hddl_text.proofs.TermsAgree.{out, agrees_shorter, opening_agrees, closing_agrees, parameters_agree, atom_rest_agrees, equality_rest_agrees, literal_agrees, equality_agrees}
use Rattle.hddl_text.proofs.Nesting.{PartAgrees, rest_agrees, rest_is}

-- ---- the parts of conditions

-- the reader of what stands after `not` agrees with its rule
negated_part_agrees : (N : ℕ) → ItemAgrees N suc out IsNegated negated_part
negated_part_agrees N class.Name w = reads (λ k h. h) (agrees_map _ (atom_rest_agrees N (name_of w)))
negated_part_agrees N class.Equal w = reads (λ k h. h) (agrees_map _ (equality_rest_agrees N false))
negated_part_agrees N class.Forall w = nothing N _ _ out true
negated_part_agrees N class.Reserved w = nothing N _ _ out true
negated_part_agrees N c w = nothing N _ _ out false

-- the reader of a condition's part agrees with its rule if that of inner parts does
condition_part_agrees : (N : ℕ) (P : List Condition → Phrase (List Condition)) (p : List Condition → Reader (List Condition)) → ((xs : List Condition) → Agrees N suc out (P xs) (p xs)) → ItemAgrees N suc out (IsConditionPart P) (condition_part p)
unfolding negated_condition forall_rest
condition_part_agrees N P p g class.Name w = reads (λ k h. h) (agrees_map _ (atom_rest_agrees N (name_of w)))
condition_part_agrees N P p g class.Equal w = reads (λ k h. h) (agrees_map _ (equality_rest_agrees N true))
condition_part_agrees N P p g class.Not w =
    reads (λ k h. h) (agrees_seq (λ k. omega arith) (opening_agrees N suc) (λ _. agrees_seq (λ k. omega arith) (agrees_at suc (agrees_word (negated_part_agrees N))) (λ c. agrees_map (λ _. c) (closing_agrees N out))))
condition_part_agrees N P p g class.Forall w =
    reads (λ k h. h) (agrees_seq (λ k. omega arith) (parameters_agree N) (λ vs. agrees_seq (λ k. omega arith) (opening_agrees N suc)
    (λ _. agrees_seq (λ k. omega arith) (agrees_at suc (g [])) (λ cs. agrees_map (λ _. condition.Forall vs cs) (closing_agrees N out)))))
condition_part_agrees N P p g class.Reserved w = nothing N _ _ out true
condition_part_agrees N P p g c w = nothing N _ _ out false

-- a part is one by weaker rules for inner parts
condition_part_map : (P Q : List Condition → Phrase (List Condition)) → ((xs : List Condition) (ws rest : List Word) (ys : List Condition) → P xs ws ys rest → Q xs ws ys rest) → (c : Class) (w : Word) (ws rest : List Word) (a : Condition) → IsConditionPart P c w ws a rest → IsConditionPart Q c w ws a rest
condition_part_map P Q to class.Name w ws rest a r = r
condition_part_map P Q to class.Equal w ws rest a r = r
condition_part_map P Q to class.Not w ws rest a r = r
condition_part_map P Q to class.Forall w ws rest a r =
    (r.0, r.1, r.2, (r.3.0, r.3.1, r.3.2, (r.3.3.0, r.3.3.1, to [] r.3.1 r.3.3.1 r.3.3.0 r.3.3.2, r.3.3.3)))
condition_part_map P Q to _ w ws rest a r = absurd r

-- a part of any depth is one of some depth
condition_part_bound : (c : Class) (w : Word) (ws rest : List Word) (a : Condition) → IsConditionPart (IsRest IsConditionPart) c w ws a rest → (n : ℕ) × IsConditionPart (IsRestWithin IsConditionPart n) c w ws a rest
condition_part_bound class.Name w ws rest a r = (0, r)
condition_part_bound class.Equal w ws rest a r = (0, r)
condition_part_bound class.Not w ws rest a r = (0, r)
condition_part_bound class.Forall w ws rest a r =
    (r.3.3.2.0, (r.0, r.1, r.2, (r.3.0, r.3.1, r.3.2, (r.3.3.0, r.3.3.1, r.3.3.2.1, r.3.3.3))))
condition_part_bound _ w ws rest a r = absurd r

-- readings that go on alike end alike
and_then_same : {A B : Type 0} (o : Outcome A) (f g : A → Reader B) → ((a : A) (ws : List Word) → o ≡ read a ws → f a ws ≡ g a ws) → and_then o f ≡ and_then o g
and_then_same (read a ws) f g same = same a ws refl
and_then_same (failed s) f g same = refl

-- a `forall` is read alike by readers that read its body alike
forall_same : (N : ℕ) (p q : List Condition → Reader (List Condition)) → ((xs : List Condition) (ws : List Word) → length ws < N → p xs ws ≡ q xs ws) → (ws : List Word) → length ws < N → forall_rest p ws ≡ forall_rest q ws
unfolding forall_rest
forall_same N p q same ws short =
    and_then_same (parameters ws) _ _ (λ vs ms e.
    let less = agrees_shorter (parameters_agree N) ws ms vs short e in
    and_then_same (opening ms) _ _ (λ u ns f.
    let less' = agrees_shorter (opening_agrees N suc) ms ns u (omega arith) f in
    ap (λ o. and_then o (λ cs. reading.◌>>◌ closing (pure (condition.Forall vs cs)))) (same [] ns (omega arith))))

-- a part is read alike by readers that read inner parts alike
condition_part_same : (N : ℕ) (p q : List Condition → Reader (List Condition)) → ((xs : List Condition) (ws : List Word) → length ws < N → p xs ws ≡ q xs ws) → (c : Class) (w : Word) (ws : List Word) → length ws < N → run (condition_part p c w) ws ≡ run (condition_part q c w) ws
condition_part_same N p q same class.Forall w ws short = forall_same N p q same ws short
condition_part_same N p q same _ w ws short = refl

-- the reader of a condition's parts agrees with its rule
condition_parts : PartAgrees IsConditionPart condition_part
condition_parts = record { agrees = condition_part_agrees; maps = condition_part_map; bounds = condition_part_bound; same = condition_part_same }

-- ---- the parts of effects and constraints, which don't nest by themselves

-- the reader of an effect's parts agrees with its rule
effect_parts : PartAgrees IsEffectPart effect_part
effect_parts = record { agrees = λ N P p g. literal_agrees N; maps = λ P Q to c w ws rest a r. r; bounds = λ c w ws rest a r. (0, r); same = λ N p q same c w ws short. refl }

-- the reader of a constraint's parts agrees with its rule
constraint_parts : PartAgrees IsConstraintPart constraint_part
constraint_parts = record { agrees = λ N P p g. equality_agrees N; maps = λ P Q to c w ws rest a r. r; bounds = λ c w ws rest a r. (0, r); same = λ N p q same c w ws short. refl }

-- ---- whole conditions, effects and constraints

-- the reader of a condition after its bracket agrees with its rule
pub condition_rest_agrees : (N : ℕ) (xs : List Condition) → Agrees N suc out (IsRest IsConditionPart xs) (condition_rest xs)
unfolding condition_rest
condition_rest_agrees N xs = rest_agrees IsConditionPart condition_part condition_parts N xs

-- the reader of an effect after its bracket agrees with its rule
pub effect_rest_agrees : (N : ℕ) (xs : List LiteralText) → Agrees N suc out (IsRest IsEffectPart xs) (effect_rest xs)
unfolding effect_rest
effect_rest_agrees N xs = rest_agrees IsEffectPart effect_part effect_parts N xs

-- the reader of a constraint after its bracket agrees with its rule
pub constraint_rest_agrees : (N : ℕ) (xs : List EqualityText) → Agrees N suc out (IsRest IsConstraintPart xs) (constraint_rest xs)
unfolding constraint_rest
constraint_rest_agrees N xs = rest_agrees IsConstraintPart constraint_part constraint_parts N xs

-- a condition is read word by word, its inner ones in the same way
pub condition_rest_is : (xs : List Condition) (ws : List Word) → condition_rest xs ws ≡ next (body (condition_part condition_rest) condition_rest xs) ws
unfolding condition_rest
condition_rest_is xs ws = rest_is IsConditionPart condition_part condition_parts xs ws

-- an effect is read word by word, its inner ones in the same way
pub effect_rest_is : (xs : List LiteralText) (ws : List Word) → effect_rest xs ws ≡ next (body (effect_part effect_rest) effect_rest xs) ws
unfolding effect_rest
effect_rest_is xs ws = rest_is IsEffectPart effect_part effect_parts xs ws

-- a constraint is read word by word, its inner ones in the same way
pub constraint_rest_is : (xs : List EqualityText) (ws : List Word) → constraint_rest xs ws ≡ next (body (constraint_part constraint_rest) constraint_rest xs) ws
unfolding constraint_rest
constraint_rest_is xs ws = rest_is IsConstraintPart constraint_part constraint_parts xs ws

module _ (N : ℕ) where
  -- the reader of a condition agrees with its rule
  pub condition_agrees : Agrees N suc suc IsCondition whole_condition
  unfolding whole_condition
  condition_agrees = agrees_seq (λ k. omega arith) (opening_agrees N suc) (λ _. agrees_at suc (condition_rest_agrees N []))

  -- the reader of an effect agrees with its rule
  pub effect_agrees : Agrees N suc suc IsEffect whole_effect
  unfolding whole_effect
  effect_agrees = agrees_seq (λ k. omega arith) (opening_agrees N suc) (λ _. agrees_at suc (effect_rest_agrees N []))

  -- the reader of a constraint agrees with its rule
  pub constraint_agrees : Agrees N suc suc IsConstraint whole_constraint
  unfolding whole_constraint
  constraint_agrees = agrees_seq (λ k. omega arith) (opening_agrees N suc) (λ _. agrees_at suc (constraint_rest_agrees N []))
