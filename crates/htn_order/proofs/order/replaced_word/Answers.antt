use Rattle.std.proofs.Common.{◌≡◌, ℕ, ◌∙◌, ap, length}
use Rattle.htn_model.specs.Machine.{origin}
use Rattle.htn_model.specs.Problem.{is_before}
use Rattle.htn_order.specs.BitRows.{is_set}
use Rattle.htn_order.specs.Words.{is_set_spliced}
use Rattle.htn_order.proofs.RowWords.{row_spliced}
use Rattle.htn_order.proofs.order.replaced_word.Goals as goal

pub returns : goal.returns
returns c =
    let order = c.args.order.now in
    let inner = c.args.inner.now in
    let at = c.args.at in
    let m = length inner in
    let count = c.size-count.ensures.value in
    let from : c.origin-from.result ≡ origin at m c.args.a = c.origin-from.ensures ∙ ap (λ k. origin at k c.args.a) count in
    let word = c.row_word.result in
    let middle = c.word_inside-middle.result in
    let outer : (k : ℕ) → is_set word k ≡ is_before order (origin at m c.args.a) k =
    λ k. c.row_word.ensures k ∙ ap (λ u. is_before order u k) from in
    λ b low. c.spliced.ensures b low ∙ ap (λ k. is_set_spliced word at k middle b) count
    ∙ row_spliced order at m inner c.args.a b word middle outer c.word_inside-middle.ensures
