use Rattle.std.proofs.Common.{◌∙◌, ◌||◌, false, get_or, nat_eq, ap, arith}
use Rattle.htn_task.proofs.Flags.{flag_set, false_pushed}
use Rattle.htn_task.proofs.fluents.set_flag.Goals as goal

pub loop-flags-preserved : goal.loop-flags-preserved
loop-flags-preserved c = λ p. ap (λ l. get_or l p false) c.in_ok-push.ensures.items ∙ false_pushed c.loop-flags.flags.items p ∙ c.loop-flags.invariant p

pub returns : goal.returns
returns c = λ p.
    flag_set c.loop-flags.flags.items c.args.predicate p (omega arith)
    ∙ ap (λ b. b || nat_eq c.args.predicate p) (c.loop-flags.invariant p)
