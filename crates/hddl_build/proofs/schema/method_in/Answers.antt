use Rattle.std.proofs.Common.{◌≡◌, ◌∙◌, List, ap, ap₂, sym, subst, map}
use Rattle.hddl_words.specs.declared.condition.Condition.{Condition}
use Rattle.hddl_words.specs.declared.term.VariableGroup.{VariableGroup}
use Rattle.hddl_meaning.specs.Mentions.{Text}
use Rattle.hddl_meaning.specs.Building.{IsMethodOf, IsNetworkOf, equality_of, formulas_of, subtask_of, types_of, variables_of}
use Rattle.hddl_build.proofs.schema.method_in.Goals as goal

pub returns : goal.returns
returns c =
    let v = c.args.vocabulary.now in
    let m = c.args.method.now in
    let scope : c.args.scope.now ≡ variables_of m.parameters = c.requires.in_force in
    let after : c.formulas_of.new.scope ≡ variables_of m.parameters = c.in_ok-precondition.ensures.kept ∙ scope in
    subst (IsMethodOf v m) (sym c.new.ensures) (record {
      name = c.in_ok-head.ensures.name;
      parameters = c.in_ok-head.ensures.types ∙ ap (λ (l : List VariableGroup). types_of v l) c.as_slice-2.ensures;
      task = c.in_ok-task.ensures ∙ ap (λ (names : List Text). subtask_of v names m.task) scope;
      precondition = c.in_ok-precondition.ensures.value ∙ ap₂ (λ (names : List Text) (l : List Condition). formulas_of v names l) scope c.as_slice.ensures;
      constraints = c.in_ok-body.ensures.constraints ∙ ap (λ (names : List Text). map (equality_of v names) m.network.constraints) after;
      network = subst (λ (names : List Text). IsNetworkOf v names m.network c.in_ok-body.body.1) after c.in_ok-body.ensures.network;
    })
