use Rattle.std.proofs.Common.{◌≡◌, rules, subst, sym}
use Rattle.std.specs.Prelude.{filter}
use Rattle.std.proofs.lemmas.Fn.{filter_same}
use Rattle.check_report.specs.Alone.{is_own}
use Rattle.check_report.specs.Texts.{AreOwnFaults}
use Rattle.check_report.proofs.Own.{own_faults}
use Rattle.check_report.proofs.alone.own_faults.Goals as goal

pub returns : goal.returns
returns c =
    let test = is_own c.in_ok-arguments.arguments.keys in
    let all = c.in_ok-faults.faults.items in
    let left : c.retain.new.self.items ≡ filter test all = filter_same _ test _ (λ x b f' k. search rules) _ _ c.retain.ensures.filtered in
    subst (AreOwnFaults c.args.text.now c.args.domain.now c.args.empty.now) (sym left)
    (own_faults c.args.text.now c.in_ok-arguments.arguments.keys c.in_ok-arguments.ensures c.args.domain.now c.args.empty.now all
    c.in_ok-faults.ensures.sound c.in_ok-faults.ensures.complete c.in_ok-faults.ensures.order)
