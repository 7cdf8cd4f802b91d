use Rattle.htn_model.proofs.Endless.{endless_tasks}
use Rattle.htn_model.proofs.Examples.{adds_come_last, steps_are_tested_in_place, least_code_answers, order_goes_through_empty_tasks, children_inherit_order, numbers_are_chosen}
use Rattle.htn_model.proofs.worked_examples_hold.Goals as goal

pub returns : goal.returns
returns c = record {
  adds = adds_come_last;
  steps = steps_are_tested_in_place;
  codes = least_code_answers;
  through = order_goes_through_empty_tasks;
  children = children_inherit_order;
  endless = endless_tasks;
  numbers = numbers_are_chosen;
}
