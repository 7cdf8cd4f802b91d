use Rattle.std.proofs.Common.{◌∙◌, refl}
use Rattle.htn_ground.proofs.NarrowedBy.{narrows_more}
use Rattle.htn_ground.proofs.narrowed.narrow_domains.Goals as goal

pub loop-literal-init : goal.loop-literal-init
loop-literal-init c = record { narrows = λ relations shown passes make ignores kept. refl; ascending = c.requires; long = refl }

pub loop-literal-preserved : goal.loop-literal-preserved
loop-literal-preserved c = record {
  narrows =
      narrows_more c.args.state.now c.args.literals.now c.loop-literal.literal-index c.literal-item.result c.args.domains.now.items c.loop-literal.domains.items c.narrow_by.new.domains.items
      c.loop-literal-test.true c.literal-item.is c.loop-literal.invariant.narrows c.in_ok-narrow_by.ensures.narrows;
  ascending = c.in_ok-narrow_by.ensures.ascending;
  long = c.in_ok-narrow_by.ensures.long ∙ c.loop-literal.invariant.long;
}
