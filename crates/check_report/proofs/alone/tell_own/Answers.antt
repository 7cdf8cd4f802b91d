use Rattle.check_report.proofs.Warned.{own_before}
use Rattle.check_report.proofs.alone.tell_own.Goals as goal

pub returns : goal.returns
returns c =
    own_before c.args.texts.now c.args.texts.now.domain_tree.now c.args.faults.now c.has_faults.result c.in_ok-told.told.items c.args.errors.items _ c.has_faults.ensures.some
    c.has_faults.ensures.none c.in_ok-told.ensures.none c.in_ok-told.ensures.all c.in_ok-append.ensures.items
