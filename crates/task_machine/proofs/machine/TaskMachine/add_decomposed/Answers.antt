use Rattle.std.proofs.Common.{◌≡◌, ℕ, ◌<◌, ◌∙◌, length, subst, arith}
use Rattle.std.proofs.lemmas.Option.{slice_get-get_or}
use Rattle.task_machine.specs.Site.{HasMade}
use Rattle.task_machine.proofs.Results.{on_error}
use Rattle.task_machine.proofs.machine.TaskMachine.add_decomposed.Goals as goal

pub add_known-requires-clause-known : goal.add_known-requires-clause-known
add_known-requires-clause-known c =
    let number = c.loop-number.number in
    let inside : number < length c.args.networks.now = c.loop-number-test.true in
    c.requires.known number _ (slice_get-get_or c.args.networks.now number 0 inside)

pub add_known-requires-clause-leads : goal.add_known-requires-clause-leads
add_known-requires-clause-leads c =
    let number = c.loop-number.number in
    let inside : number < length c.args.networks.now = c.loop-number-test.true in
    c.requires.leads number _ (slice_get-get_or c.args.networks.now number 0 inside)

pub returns-in_err-add_known-clause-refused : goal.returns-in_err-add_known-clause-refused
returns-in_err-add_known-clause-refused c =
    let made = c.loop-number.invariant in
    on_error c.from_residual.result (made.more, c.in_err-add_known.ensures.refused ∙ made.pushed)

pub returns-then-branch-clause-taken : goal.returns-then-branch-clause-taken
returns-then-branch-clause-taken c = record {
  whole = tt;
  ends = c.in_ok-add_known.ensures.taken.ends c.if-branch.true c.args.successors.now.items c.loop-number.invariant;
}

pub loop-number-preserved : goal.loop-number-preserved
loop-number-preserved c =
    c.in_ok-add_known.ensures.taken.goes_on c.if-branch.false c.args.successors.now.items c.loop-number.invariant

pub returns-clause-taken : goal.returns-clause-taken
returns-clause-taken c =
    let m = c.args.self.now in
    let all : c.loop-number.number ≡ length c.args.networks.now =
    omega (arith, c.loop-number-test.false, c.loop-number.auto.number-end) in
    record {
      whole = subst (λ (n : ℕ). HasMade m.task.now m.sizes m.prospects c.args.site.now n c.args.successors.now.items c.loop-number.successors.items)
          all c.loop-number.invariant;
      ends = tt;
    }
