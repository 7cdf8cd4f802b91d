use Rattle.std.proofs.Common.{◌∙◌, ◌+◌, Some, sym, ap, take, subst, List, ℕ}
use Rattle.state_table.specs.Compiled.{AreNumbers}
use Rattle.state_table.proofs.Effects.{numbers_later, numbers_more}
use Rattle.state_table.proofs.States.{later_more}
use Rattle.state_table.proofs.compiled.numbers_of.Goals as goal

pub loop-atom-preserved : goal.loop-atom-preserved
loop-atom-preserved c =
    let i = c.loop-atom.invariant in
    let more = c.in_ok-number.ensures.later in
    let atoms = c.args.atoms.now in record {
      later = later_more c.args.table.now c.loop-atom.table c.number.new.self i.later more;
      numbers = subst (λ (l : List ℕ). AreNumbers c.number.new.self l (take (c.loop-atom.atom-index + 1) atoms)) (sym {A = List ℕ} c.in_ok-push.ensures.items)
          (numbers_more c.number.new.self c.loop-atom.numbers.items c.in_ok-number.field-0 atoms c.loop-atom.atom-index c.atom-item.result c.loop-atom-test.true
          (numbers_later c.loop-atom.table c.number.new.self more c.loop-atom.numbers.items (take c.loop-atom.atom-index atoms) i.numbers)
          (c.in_ok-number.ensures.number ∙ ap Some c.atom-item.is));
    }
