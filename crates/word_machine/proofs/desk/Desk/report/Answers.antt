use Rattle.std.proofs.Common.{arith}
use Rattle.word_machine.proofs.Keeps.{reports_keep}
use Rattle.word_machine.proofs.Passes.{table_same}
use Rattle.word_machine.proofs.desk.Desk.report.Goals as goal

pub fetch_min-requires : goal.fetch_min-requires
fetch_min-requires c =
    let seat = c.pass.inside.seat in
    let table = c.self.inside.table.shared in
    let words = c.self.invariant.0 in (
      table_same c.args.pass.now c.args.self.now seat.me.0 seat.table_id table.table_id c.pass.inside.ended c.self.inside.size c.pass.view_is c.requires.own c.self.view_is,
      omega arith,
      reports_keep table.key table.table_id.slots seat.id seat.me c.pass.invariant.1 c.args.place c.requires.place,
    )
