-- Words ask for one request at most.
use Rattle.std.proofs.Common.{◌≡◌, ◌∙◌, ap, sym, List, Option, Some}
use Rattle.std.specs.Prelude.{option_map, unwrap_or}
use Rattle.clap.specs.Walk.{Row, Text}
use Rattle.htn_command.specs.Request.{AreAlike, IsGiven, RequestsAreUnique, command_of}
use Rattle.htn_command.specs.declared.request.Request.{Request}
use Rattle.htn_command.specs.declared.request.Request.TheVariants.{Plan, Verify, Check, Explain, Tree}
use Rattle.htn_command.proofs.Matches.{check_is_not_plan, check_is_not_tree, check_is_not_verify, explain_is_not_check, explain_is_not_plan, explain_is_not_tree, explain_is_not_verify, given_rows, one_if_any, one_number, plan_is_not_tree, plan_is_not_verify, verify_is_not_tree}

-- an option holds one value
one_value : (text : Option Text) (a b : Text) → text ≡ Some a → text ≡ Some b → a ≡ b
one_value text a b is also = ap (λ o. unwrap_or o b) (sym is ∙ also)

-- so does one of a pair
one_pair : (found : Option (Text × List Row)) (a b : Text × List Row) → found ≡ Some a → found ≡ Some b → a ≡ b
one_pair found a b is also = ap (λ o. unwrap_or o b) (sym is ∙ also)

-- a word names one thing
one_named : {X : Type 0} → (named : Option X) (a b : X) → named ≡ Some a → named ≡ Some b → a ≡ b
one_named named a b is also = ap (λ o. unwrap_or o b) (sym is ∙ also)

-- a command's rows give one request
rows_give_one : (rows : List Row) (request other : Request) → command_of request ≡ command_of other → IsGiven rows request → IsGiven rows other
    → AreAlike request other
rows_give_one rows (Plan domain problem bounds seconds has_progress) (Plan other second limits time is_shown) same h k = (
  one_value _ _ _ h.0 k.0,
  one_value _ _ _ h.1 k.1,
  one_number _ _ _ h.2 k.2,
  one_number _ _ _ h.3 k.3,
  one_number _ _ _ h.4 k.4,
  one_if_any _ seconds time h.6 k.6,
  one_named _ _ _ h.7 k.7,
)
rows_give_one rows (Verify domain problem plan) (Verify other second third) same h k =
    (one_value _ _ _ h.0 k.0, one_value _ _ _ h.1 k.1, one_value _ _ _ h.2 k.2)
rows_give_one rows (Check domain problem format limit is_strict colour) (Check other second form most strict when) same h k =
    (one_value _ _ _ h.0 k.0, sym h.1 ∙ k.1, one_named _ _ _ h.2 k.2, one_number _ _ _ h.3 k.3, one_named _ _ _ h.5 k.5, one_named _ _ _ h.6 k.6)
rows_give_one rows (Tree domain problem plan drawing has_details colour) (Tree other second third drawn are_shown when) same h k =
    (one_value _ _ _ h.0 k.0, one_value _ _ _ h.1 k.1, one_value _ _ _ h.2 k.2, one_named _ _ _ h.3 k.3, one_named _ _ _ h.4 k.4, one_named _ _ _ h.5 k.5)
rows_give_one rows (Plan domain problem bounds seconds has_progress) (Tree other second third drawn are_shown when) same h k = plan_is_not_tree same
rows_give_one rows (Verify domain problem plan) (Tree other second third drawn are_shown when) same h k = verify_is_not_tree same
rows_give_one rows (Check domain problem format limit is_strict colour) (Tree other second third drawn are_shown when) same h k = check_is_not_tree same
rows_give_one rows (Tree domain problem plan drawing has_details colour) (Plan other second limits time is_shown) same h k = plan_is_not_tree (sym same)
rows_give_one rows (Tree domain problem plan drawing has_details colour) (Verify other second third) same h k = verify_is_not_tree (sym same)
rows_give_one rows (Tree domain problem plan drawing has_details colour) (Check other second form most strict when) same h k = check_is_not_tree (sym same)
rows_give_one rows (Plan domain problem bounds seconds has_progress) (Verify other second third) same h k = plan_is_not_verify same
rows_give_one rows (Plan domain problem bounds seconds has_progress) (Check other second form most strict when) same h k = check_is_not_plan (sym same)
rows_give_one rows (Verify domain problem plan) (Plan other second limits time is_shown) same h k = plan_is_not_verify (sym same)
rows_give_one rows (Verify domain problem plan) (Check other second form most strict when) same h k = check_is_not_verify (sym same)
rows_give_one rows (Check domain problem format limit is_strict colour) (Plan other second limits time is_shown) same h k = check_is_not_plan same
rows_give_one rows (Check domain problem format limit is_strict colour) (Verify other second third) same h k = check_is_not_verify same
rows_give_one rows (Explain domain problem plan format has_states colour) (Explain other second third form are_shown when) same h k =
    (one_value _ _ _ h.0 k.0, one_value _ _ _ h.1 k.1, one_value _ _ _ h.2 k.2, one_named _ _ _ h.3 k.3, one_named _ _ _ h.4 k.4, one_named _ _ _ h.5 k.5)
rows_give_one rows (Explain domain problem plan format has_states colour) (Plan other second limits time is_shown) same h k = explain_is_not_plan same
rows_give_one rows (Plan domain problem bounds seconds has_progress) (Explain other second third form are_shown when) same h k = explain_is_not_plan (sym same)
rows_give_one rows (Explain domain problem plan format has_states colour) (Verify other second third) same h k = explain_is_not_verify same
rows_give_one rows (Verify domain problem plan) (Explain other second third form are_shown when) same h k = explain_is_not_verify (sym same)
rows_give_one rows (Explain domain problem plan format has_states colour) (Check other second form most strict when) same h k = explain_is_not_check same
rows_give_one rows (Check domain problem format limit is_strict colour) (Explain other second third form are_shown when) same h k = explain_is_not_check (sym same)
rows_give_one rows (Explain domain problem plan format has_states colour) (Tree other second third drawn are_shown when) same h k = explain_is_not_tree same
rows_give_one rows (Tree domain problem plan drawing has_details colour) (Explain other second third form are_shown when) same h k = explain_is_not_tree (sym same)

-- words ask for one request at most
pub requests_are_unique : RequestsAreUnique
requests_are_unique words request other h k =
    let rows = k.given.0 in
    let same = one_pair _ _ _ h.given.1 k.given.1 in
    rows_give_one rows request other (ap (λ p. p.0) same) (given_rows _ rows request h.given (ap (option_map (λ p. p.1)) k.given.1)) k.given.2
