use Rattle.std.proofs.Common.{◌<◌, All, arith, length, subst, sym}
use Rattle.std.proofs.lemmas.List.Elements.{All-push}
use Rattle.std.proofs.lemmas.Option.{MatchOption-at_some}
use Rattle.network_table.specs.Drafts.{IsFound}
use Rattle.network_table.proofs.Remembering.{found_right}
use Rattle.network_table.proofs.table.NetworkTable.assemble_part.Goals as goal

pub loop-number-preserved : goal.loop-number-preserved
loop-number-preserved c =
    let t = c.args.self.now in
    let jobs = c.args.jobs.now in
    let inside : c.loop-number.number < length jobs = omega (arith, c.loop-number-test.true, c.min-number-end.ensures, c.min.ensures) in
    let right = found_right t jobs c.loop-number.number c.index-jobs-number.result c.in-Some.expansion inside c.index-jobs-number.is (MatchOption-at_some _ _ _ c.in-Some.is c.in_ok-expansion.ensures) in
    subst (All (IsFound t jobs)) (sym c.in_ok-push.ensures.items) (All-push (IsFound t jobs) c.loop-number.found.items _ c.loop-number.invariant right)
