use Rattle.std.proofs.Common.{◌≡◌, ◌∙◌, true, false, ap, sym}
use Rattle.std.proofs.lemmas.List.{take_all}
use Rattle.hddl_meaning.specs.Names.{is_same_text}
use Rattle.hddl_scope.specs.Numbers.{number_at, numbered}
use Rattle.hddl_scope.proofs.Entries.{first_of_few, none_more}
use Rattle.hddl_scope.proofs.numbers.number_among.Goals as goal

pub returns-then-is_same : goal.returns-then-is_same
returns-then-is_same c =
    let same : is_same_text c.args.text.now c.one-item.result.text.items ≡ true =
    ap (is_same_text c.args.text.now) (sym c.as_slice.ensures) ∙ sym c.is_same.ensures ∙ c.if-is_same.true in
    sym (first_of_few c.args.few.now c.args.text.now c.loop-one.one-index c.one-item.result c.loop-one-test.true c.one-item.is c.loop-one.invariant same)

pub loop-one-preserved : goal.loop-one-preserved
loop-one-preserved c =
    let differs : is_same_text c.args.text.now c.one-item.result.text.items ≡ false =
    ap (is_same_text c.args.text.now) (sym c.as_slice.ensures) ∙ sym c.is_same.ensures ∙ c.if-is_same.false in
    none_more c.args.few.now c.args.text.now c.loop-one.one-index c.one-item.result c.loop-one-test.true c.one-item.is c.loop-one.invariant differs

pub returns : goal.returns
returns c =
    sym c.loop-one.invariant ∙ ap (λ ns. number_at (numbered ns) c.args.text.now) (take_all c.loop-one.one-index c.args.few.now c.loop-one-test.false)
