use Rattle.std.proofs.Common.{◌≡◌, true, false, cond, Some, None, sym, ap, ◌∙◌}
use Rattle.htn_model.specs.Literal.{after, holds}
use Rattle.state_table.specs.Table.{state_of}
use Rattle.task_machine.proofs.tables.Tables.acted.Goals as goal

pub returns-then-not-applies-clause-leads : goal.returns-then-not-applies-clause-leads
returns-then-not-applies-clause-leads c = λ model compiled.
    let tables = c.args.self.now in
    let state = state_of tables.atoms c.args.before.now in
    let is = c.applies.ensures tables.atoms model c.requires.table compiled in
    let test = c.if-not-applies.true in
    let fails : holds state model.precondition ≡ false = cc in
    sym (ap (λ b. cond b (Some (after state model)) None) fails)

pub returns-clause-set : goal.returns-clause-set
returns-clause-set c =
    c.in_ok-after.ensures.within c.args.self.now.atoms c.requires.compiled.0 c.requires.compiled.1 c.requires.set

pub returns-clause-leads : goal.returns-clause-leads
returns-clause-leads c = λ model compiled.
    let tables = c.args.self.now in
    let state = state_of tables.atoms c.args.before.now in
    let is = c.applies.ensures tables.atoms model c.requires.table compiled in
    let test = c.if-not-applies.false in
    let holds : holds state model.precondition ≡ true = cc in
    let next = c.in_ok-after.ensures.state tables.atoms model c.requires.table compiled in
    ap Some next ∙ sym (ap (λ b. cond b (Some (after state model)) None) holds)
