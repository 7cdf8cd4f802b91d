use Rattle.std.proofs.Common.{◌*◌, ◌/◌, ◌+◌, ◌<◌, ◌≤◌, arith}
use Rattle.std.proofs.Math.Nat.{lt-div-mul-add}
use Rattle.word_machine.proofs.advance.block_len.Goals as goal

pub returns-clause-some : goal.returns-clause-some
returns-clause-some c =
    let few : c.args.piece ≤ 32768 = omega arith in
    let most : 32768 < 32768 / c.args.piece * c.args.piece + c.args.piece = lt-div-mul-add c.requires in
    omega (arith, few, most)
