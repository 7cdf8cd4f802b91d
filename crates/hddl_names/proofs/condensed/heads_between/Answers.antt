use Rattle.std.proofs.Common.{sym, subst}
use Rattle.hddl_names.specs.Heads.{AreHeads}
use Rattle.hddl_names.proofs.condensed.heads_between.Goals.{then-not-is_marked+in_ok-give_heads, else-not-is_marked}
use Rattle.hddl_names.proofs.condensed.heads_between.Goals as goal

pub loop-number-preserved : goal.loop-number-preserved
loop-number-preserved c = λ pairs up down.
    elim c.if-not-is_marked.branch [
      | then-not-is_marked+in_ok-give_heads w ↦
          subst (λ v. AreHeads pairs c.args.size v.items) (sym w.heads-is)
          (w.in_ok-give_heads.ensures pairs up down c.args.size c.loop-number-test.true (c.loop-number.invariant pairs up down))
      | else-not-is_marked w ↦ subst (λ v. AreHeads pairs c.args.size v.items) (sym w.heads-is) (c.loop-number.invariant pairs up down)
    ]
