use Rattle.std.proofs.Common.{◌≡◌, ◌∙◌, ◌+◌, true, Bool, Some, get_or, sym, ap, take, filter, subst, List, ℕ}
use Rattle.state_table.specs.Table.{is_fluent, is_fluent_by}
use Rattle.state_table.specs.Compiled.{AreNumbers}
use Rattle.state_table.proofs.Effects.{numbers_later, numbers_kept}
use Rattle.state_table.proofs.States.{later_more}
use Rattle.state_table.proofs.initial.fluent_numbers.Goals as goal

pub loop-atom-preserved : goal.loop-atom-preserved
loop-atom-preserved c =
    let i = c.loop-atom.invariant in
    let more = c.in_ok-number.ensures.later in
    let atoms = c.args.atoms.now in
    let old = c.args.table.now in
    let passes : is_fluent old (get_or atoms c.loop-atom.atom-index c.atom-item.result) ≡ true =
    ap (is_fluent old) (sym c.atom-item.is) ∙ ap (λ (l : List Bool). is_fluent_by l c.atom-item.result) (sym i.later.fluents) ∙ sym c.is_fluent.ensures ∙ c.if-not-is_fluent.false in
    record {
      later = later_more old c.loop-atom.table c.number.new.self i.later more;
      numbers = subst (λ (l : List ℕ). AreNumbers c.number.new.self l (filter (is_fluent old) (take (c.loop-atom.atom-index + 1) atoms))) (sym {A = List ℕ} c.in_ok-push.ensures.items)
          (numbers_kept c.number.new.self (is_fluent old) c.loop-atom.numbers.items c.in_ok-number.field-0 atoms c.loop-atom.atom-index c.atom-item.result c.loop-atom-test.true passes
          (numbers_later c.loop-atom.table c.number.new.self more c.loop-atom.numbers.items (filter (is_fluent old) (take c.loop-atom.atom-index atoms)) i.numbers)
          (c.in_ok-number.ensures.number ∙ ap Some c.atom-item.is));
    }
