use Rattle.std.proofs.Common.{◌<◌, ◌∙◌, ap, length, arith}
use Rattle.std.proofs.lemmas.List.{get_or_read}
use Rattle.htn_model.specs.Problem.{is_before}
use Rattle.htn_order.specs.BitRows.{bit, is_set, words_per_row}
use Rattle.htn_order.proofs.RowWords.{one_each, word_row}
use Rattle.htn_order.proofs.Tables.{table_size}
use Rattle.htn_order.proofs.bit_rows.BitRows.row_word.Goals as goal

pub index-requires : goal.index-requires
index-requires c =
    let n = c.self.inside.size in
    let size = table_size n (bit (words_per_row n) c.self.inside.words.items) in
    let view = ap length c.self.view_is in
    let few : n < 64 = omega (arith, size, view, c.requires.few) in
    omega (arith, size, view, c.requires.row, one_each n c.self.inside.words.items few c.self.invariant, c.self.inside.words.ok.0)

pub returns : goal.returns
returns c =
    let n = c.self.inside.size in
    let words = c.self.inside.words.items in
    let size = table_size n (bit (words_per_row n) words) in
    let view = ap length c.self.view_is in
    let few : n < 64 = omega (arith, size, view, c.requires.few) in
    let row : c.args.a < n = omega (arith, size, view, c.requires.row) in
    let fits : c.args.a < length words = (let e = one_each n words few c.self.invariant in omega arith) in
    λ b. ap (λ w. is_set w b) (get_or_read words c.args.a c.index.result.now fits c.index.ensures 0)
    ∙ word_row n words c.args.a b few row c.self.invariant
    ∙ ap (λ order. is_before order c.args.a b) c.self.view_is
