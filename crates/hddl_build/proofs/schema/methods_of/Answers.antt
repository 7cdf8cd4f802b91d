use Rattle.hddl_meaning.specs.Building.{IsMethodOf}
use Rattle.hddl_build.proofs.Steps.{zip_step}
use Rattle.hddl_build.proofs.schema.methods_of.Goals as goal

pub loop-method-preserved : goal.loop-method-preserved
loop-method-preserved c =
    zip_step (IsMethodOf c.args.vocabulary.now) c.args.methods.now c.loop-method.method-index c.method-item.result c.loop-method.found.items c.push.new.self.items
    c.in_ok-method_of.field-0 c.loop-method-test.true c.method-item.is c.loop-method.invariant c.in_ok-push.ensures.items c.in_ok-method_of.ensures
