use Rattle.std.proofs.Common.{◌∙◌, Some, slice_get, sym, ap}
use Rattle.htn_model.specs.State.{atoms_of}
use Rattle.state_table.proofs.Effects.{numbers_later}
use Rattle.state_table.proofs.Words.{same_words}
use Rattle.state_table.proofs.Keys.{one_place, slice_get-append}
use Rattle.state_table.proofs.States.{later_itself, later_more, later_set, later_state, told_apart}
use Rattle.state_table.proofs.laws.numbers_stand_for_states.Goals as goal

pub returns : goal.returns
returns c = record {
  itself = later_itself;
  onward = later_more;
  set = later_set;
  state = later_state;
  literals = λ t later grown c literals compiled after more. compiled after (later_more t later after grown more);
  action = λ t later grown c action compiled. record {
    precondition = λ after more. compiled.precondition after (later_more t later after grown more);
    deletes = numbers_later t later grown c.deletes.items (atoms_of action.deletes) compiled.deletes;
    adds = numbers_later t later grown c.adds.items (atoms_of action.adds) compiled.adds;
  };
  same_set = same_words;
  one_set = told_apart;
  one_number = λ t table states distinct sets i j v w at_v at_w alike.
      one_place states distinct i j v at_v (at_w ∙ ap Some (sym (told_apart t table v w (sets i v at_v) (sets j w at_w) alike)));
  kept = λ xs ys grown i a at. ap (λ l. slice_get l i) grown.1 ∙ slice_get-append xs grown.0 i a at;
}
