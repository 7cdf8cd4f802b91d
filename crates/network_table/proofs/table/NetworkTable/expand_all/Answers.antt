use Rattle.network_table.proofs.Remembering.{expanded_then, remembered_after}
use Rattle.network_table.proofs.table.NetworkTable.expand_all.Goals as goal

pub returns-clause-grown : goal.returns-clause-grown
returns-clause-grown g c =
    let s = c.args.self.now in
    let t = c.note_all.new.self in
    let u = c.remember_all.new.self in
    let jobs = c.args.jobs.now in
    (expanded_then s u c.expand_each-2.new.self jobs c.requires.whole c.requires.known
    (remembered_after s t u jobs c.requires.whole c.in_ok-noted.ensures.whole c.requires.known c.in_ok-noted.ensures.more c.in_ok-remember_all.ensures) c.in_ok-expand_each-2.ensures).grown

pub returns-clause-sound : goal.returns-clause-sound
returns-clause-sound g c =
    let s = c.args.self.now in
    let t = c.note_all.new.self in
    let u = c.remember_all.new.self in
    let jobs = c.args.jobs.now in
    (expanded_then s u c.expand_each-2.new.self jobs c.requires.whole c.requires.known
    (remembered_after s t u jobs c.requires.whole c.in_ok-noted.ensures.whole c.requires.known c.in_ok-noted.ensures.more c.in_ok-remember_all.ensures) c.in_ok-expand_each-2.ensures).sound
