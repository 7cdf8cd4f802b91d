use Rattle.std.proofs.Common.{◌∙◌, ap, subst}
use Rattle.htn_model.specs.Literal.{Action}
use Rattle.htn_model.specs.State.{atoms_of}
use Rattle.state_table.specs.Compiled.{AreNumbers, AreCompiled, IsCompiled}
use Rattle.state_table.proofs.Effects.{fluent_effects, numbers_later}
use Rattle.state_table.proofs.States.{later_more}
use Rattle.state_table.proofs.compiled.CompiledAction.of.Goals as goal

pub returns-clause-compiled : goal.returns-clause-compiled
returns-clause-compiled c =
    let one = c.of.new.table in
    let two = c.numbers_of.new.table in
    let three = c.numbers_of-2.new.table in
    let last = c.in_ok-adds.ensures.later in
    subst (λ (a : Action). IsCompiled three (record { precondition = c.in_ok-precondition.precondition; deletes = c.in_ok-deletes.deletes; adds = c.in_ok-adds.adds }) a) c.action.view_is (record {
      precondition = subst (AreCompiled three c.in_ok-precondition.precondition) c.as_slice.ensures
          (λ later grown words. c.in_ok-precondition.ensures.compiled later (later_more one two later c.in_ok-deletes.ensures.later (later_more two three later last grown)) words);
      deletes = subst (AreNumbers three c.in_ok-deletes.deletes.items) c.atoms.ensures.value
          (numbers_later two three last c.in_ok-deletes.deletes.items c.atoms.result.now c.in_ok-deletes.ensures.numbers);
      adds = subst (AreNumbers three c.in_ok-adds.adds.items) c.atoms-2.ensures.value c.in_ok-adds.ensures.numbers;
    })

pub numbers_of-requires : goal.numbers_of-requires
numbers_of-requires c =
    fluent_effects c.args.table.now c.of.new.table c.args.action.now.deletes c.atoms.result.now c.in_ok-precondition.ensures.later.fluents
    (c.atoms.ensures.value ∙ ap (λ (a : Action). atoms_of a.deletes) c.action.view_is) c.requires.deletes

pub numbers_of-requires-2 : goal.numbers_of-requires-2
numbers_of-requires-2 c =
    fluent_effects c.args.table.now c.numbers_of.new.table c.args.action.now.adds c.atoms-2.result.now
    (c.in_ok-deletes.ensures.later.fluents ∙ c.in_ok-precondition.ensures.later.fluents)
    (c.atoms-2.ensures.value ∙ ap (λ (a : Action). atoms_of a.adds) c.action.view_is) c.requires.adds
