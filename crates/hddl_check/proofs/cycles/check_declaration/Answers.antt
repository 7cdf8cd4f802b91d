use Rattle.std.proofs.Common.{◌∙◌, ap, refl, sym, subst, true≢false}
use Rattle.hddl_scope.specs.Findings.{keep}
use Rattle.hddl_check.proofs.Cyclic.{off_cycle, on_cycle}
use Rattle.hddl_names.specs.Cycles.{typed_name}
use Rattle.hddl_check.proofs.cycles.check_declaration.Goals as goal

pub returns-then-not-cyclic : goal.returns-then-not-cyclic
returns-then-not-cyclic c =
    off_cycle c.args.types.now (typed_name c.args.parent.now c.args.name.now)
    (λ on. true≢false (sym (c.in_ok-cyclic.ensures.1 on) ∙ c.if-not-cyclic.true)) refl

pub returns : goal.returns
returns c =
    on_cycle c.args.types.now c.args.parent.now c.args.name.now (c.in_ok-cyclic.ensures.0 c.if-not-cyclic.false)
    (c.in_ok-push.ensures ∙ ap (keep c.args.found.now) c.cycle_at.ensures) c.in_ok-push_parent.ensures
