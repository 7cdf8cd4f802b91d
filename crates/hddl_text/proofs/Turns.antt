-- What one turn of each loop of the readers does.
use Rattle.std.proofs.Common.{◌≡◌, true, false, List, suc}
use Rattle.hddl_words.specs.declared.cursor.Stop.{Stop}
use Rattle.hddl_words.specs.Words.{Word}
use Rattle.hddl_words.specs.Class.{class_of}
use Rattle.hddl_words.specs.Reading.{Item, take_word, read, failed, run, until, is_close, opened}
use Rattle.hddl_words.specs.Phrase.{Next, Opened, ◌>>=◌}
use Rattle.hddl_words.proofs.AgreeMore.{agrees_at, agrees_opened}
use Rattle.hddl_words.proofs.Loops.{ListTurns, DraftTurns, list_turns, draft_turns}
use Rattle.hddl_text.specs.Grammar.{IsNameItem, IsVariableItem, IsTerm, IsConditionPart, IsEffectPart, IsConstraintPart, IsRest, IsSubtaskRest, IsPairBody, IsRequirement, IsPredicateRest, IsTaskPart, IsActionPart, IsDomainSection, IsHtnPart, IsAtomRest, AnyName}
use Rattle.hddl_text.specs.Readers.{nested, name_item, variable_item, term_item, condition_rest, effect_rest, constraint_rest, subtask_rest, pair_rest, requirement_item, predicate_rest, task_part, action_part, domain_section, htn_part, init_rest}
use Rattle.hddl_text.proofs.TermsAgree.{name_item_agrees, variable_item_agrees, term_agrees}
use Rattle.hddl_text.proofs.ConditionsAgree.{condition_rest_agrees, effect_rest_agrees, constraint_rest_agrees}
use Rattle.hddl_text.proofs.NetworksAgree.{subtask_agrees, pair_agrees}
use Rattle.hddl_text.proofs.SectionsAgree.{requirement_agrees, predicate_agrees, task_part_agrees, action_part_agrees, domain_section_agrees, htn_part_agrees, init_rest_agrees}

-- what one turn of a loop does, of loops with a parameter
pub record FamilyTurns {B D : Type 0} (item : B → D → Item D) : Type 0 where
  pub fails : (b : B) (d : D) (ws : List Word) (e : Stop) → take_word ws ≡ failed e → until (item b) d ws ≡ failed e
  pub closes : (b : B) (d : D) (ws rest : List Word) (w : Word) → take_word ws ≡ read w rest → is_close (class_of w) ≡ true → until (item b) d ws ≡ read d rest
  pub item_fails : (b : B) (d : D) (ws rest : List Word) (w : Word) (e : Stop) → take_word ws ≡ read w rest → is_close (class_of w) ≡ false → run (item b d (class_of w) w) rest ≡ failed e → until (item b) d ws ≡ failed e
  pub goes_on : (b : B) (d f : D) (ws rest mid : List Word) (w : Word) → take_word ws ≡ read w rest → is_close (class_of w) ≡ false → run (item b d (class_of w) w) rest ≡ read f mid → until (item b) d ws ≡ until (item b) f mid

-- each turn over a list of names goes on, or ends at the bracket
pub name_turns : FamilyTurns name_item
name_turns = record {
  fails = λ b. (draft_turns IsNameItem (name_item b) (λ N. name_item_agrees N b)).fails;
  closes = λ b. (draft_turns IsNameItem (name_item b) (λ N. name_item_agrees N b)).closes;
  item_fails = λ b. (draft_turns IsNameItem (name_item b) (λ N. name_item_agrees N b)).item_fails;
  goes_on = λ b. (draft_turns IsNameItem (name_item b) (λ N. name_item_agrees N b)).goes_on;
}

-- each turn over a list of variables goes on, or ends at the bracket
pub variable_turns : DraftTurns variable_item
variable_turns = draft_turns IsVariableItem variable_item variable_item_agrees

-- each turn over terms goes on, or ends at the bracket
pub term_turns : ListTurns term_item
term_turns = list_turns IsTerm term_item term_agrees

-- each turn over parts of a condition goes on, or ends at the bracket
pub condition_turns : DraftTurns (nested condition_rest)
unfolding nested
condition_turns = draft_turns (λ xs. Opened (IsRest IsConditionPart xs)) (nested condition_rest) (λ N xs. agrees_opened (agrees_at suc (condition_rest_agrees N xs)))

-- each turn over parts of an effect goes on, or ends at the bracket
pub effect_turns : DraftTurns (nested effect_rest)
unfolding nested
effect_turns = draft_turns (λ xs. Opened (IsRest IsEffectPart xs)) (nested effect_rest) (λ N xs. agrees_opened (agrees_at suc (effect_rest_agrees N xs)))

-- each turn over parts of a constraint goes on, or ends at the bracket
pub constraint_turns : DraftTurns (nested constraint_rest)
unfolding nested
constraint_turns = draft_turns (λ xs. Opened (IsRest IsConstraintPart xs)) (nested constraint_rest) (λ N xs. agrees_opened (agrees_at suc (constraint_rest_agrees N xs)))

-- each turn over subtasks goes on, or ends at the bracket
pub subtask_turns : ListTurns (opened subtask_rest)
subtask_turns = list_turns (Opened IsSubtaskRest) (opened subtask_rest) (λ N. agrees_opened (agrees_at suc (subtask_agrees N)))

-- each turn over orderings goes on, or ends at the bracket
pub pair_turns : ListTurns (opened pair_rest)
pair_turns = list_turns (Opened (Next IsPairBody)) (opened pair_rest) (λ N. agrees_opened (agrees_at suc (pair_agrees N)))

-- each turn over requirements goes on, or ends at the bracket
pub requirement_turns : ListTurns requirement_item
requirement_turns = list_turns IsRequirement requirement_item requirement_agrees

-- each turn over predicates goes on, or ends at the bracket
pub predicate_turns : ListTurns (opened predicate_rest)
predicate_turns = list_turns (Opened IsPredicateRest) (opened predicate_rest) (λ N. agrees_opened (agrees_at suc (predicate_agrees N)))

-- each turn over sections of a task goes on, or ends at the bracket
pub task_turns : DraftTurns task_part
task_turns = draft_turns IsTaskPart task_part task_part_agrees

-- each turn over sections of an action goes on, or ends at the bracket
pub action_turns : DraftTurns action_part
action_turns = draft_turns IsActionPart action_part action_part_agrees

-- each turn over sections of a domain goes on, or ends at the bracket
pub domain_turns : DraftTurns domain_section
domain_turns = draft_turns IsDomainSection domain_section domain_section_agrees

-- each turn over sections of `:htn` goes on, or ends at the bracket
pub htn_turns : DraftTurns htn_part
htn_turns = draft_turns IsHtnPart htn_part htn_part_agrees

-- each turn over initial atoms goes on, or ends at the bracket
pub init_turns : ListTurns (opened init_rest)
init_turns = list_turns (Opened (AnyName >>= IsAtomRest)) (opened init_rest) (λ N. agrees_opened (agrees_at suc (init_rest_agrees N)))
