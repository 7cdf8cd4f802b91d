use Rattle.std.proofs.Common.{◌∙◌, arith}
use Rattle.std.proofs.lemmas.List.{take_all}
use Rattle.plan_lines.proofs.Seeded.{inserted}
use Rattle.plan_lines.proofs.history.set_of.Goals as goal

pub loop-atom-preserved : goal.loop-atom-preserved
loop-atom-preserved c =
    inserted c.args.atoms.now c.loop-atom.set.keys c.insert.new.self.keys c.loop-atom.atom-index c.atom-item.result c.in_ok-clone.field-0 c.requires c.loop-atom-test.true c.atom-item.is
    c.in_ok-clone.ensures.cases c.loop-atom.invariant c.in_ok-insert.ensures.keys

pub returns : goal.returns
returns c = c.loop-atom.invariant ∙ take_all c.loop-atom.atom-index c.args.atoms.now (omega (arith, c.loop-atom-test.false))
