use Rattle.std.proofs.Common.{◌≡◌, ◌^◌, ◌-◌, ◌∙◌, ap, sym, length, ltb, true}
use Rattle.htn_model.specs.Machine.{origin}
use Rattle.htn_model.specs.Problem.{is_before}
use Rattle.htn_order.specs.BitRows.{is_set}
use Rattle.htn_order.proofs.RowWords.{and_true, row_inside, row_outside}
use Rattle.htn_order.proofs.WordBits.{is_set-ones}
use Rattle.htn_order.proofs.order.word_inside.Goals as goal

pub returns-then-from-at : goal.returns-then-from-at
returns-then-from-at c =
    let order = c.args.order.now in
    let inner = c.args.inner.now in
    let m = length inner in
    let inside : origin c.args.at m c.args.a ≡ c.args.at = sym c.requires.stood ∙ c.if-from-at.true in
    λ b. c.row_word.ensures b ∙ row_inside order c.args.at m inner c.args.a b c.size-count.ensures.square inside

pub returns-then-is_before : goal.returns-then-is_before
returns-then-is_before c =
    let order = c.args.order.now in
    let inner = c.args.inner.now in
    let m = length inner in
    let word : c.ones.result ≡ 2 ^ m - 1 = c.ones.ensures ∙ ap (λ k. 2 ^ k - 1) c.size-count.ensures.value in
    let before : is_before order (origin c.args.at m c.args.a) c.args.at ≡ true =
    ap (λ u. is_before order u c.args.at) (sym c.requires.stood) ∙ sym c.is_before.ensures ∙ c.if-is_before.true in
    λ b. ap (λ w. is_set w b) word ∙ is_set-ones m b ∙ sym (and_true (ltb b m))
    ∙ row_outside order c.args.at m inner c.args.a b true (λ e. c.if-from-at.false (c.requires.stood ∙ e)) before
