use Rattle.std.proofs.Common.{◌≡◌, ◌<◌, ◌+◌, ◌*◌, length, get_or, ap, sym, subst, ◌∙◌, arith}
use Rattle.std.specs.Int.{bit_at}
use Rattle.std.proofs.lemmas.List.{get_or_read}
use Rattle.htn_model.specs.Problem.{is_before}
use Rattle.htn_order.specs.BitRows.{bit, words_per_row}
use Rattle.htn_order.specs.Counts.{AreColumnCounts}
use Rattle.htn_order.proofs.Columns.{flag, row_fits, row_more, row_value, rows_low}
use Rattle.htn_order.proofs.Packed.{place_lt}
use Rattle.htn_order.proofs.Tables.{table_size}
use Rattle.htn_order.proofs.bit_rows.BitRows.count_column.Goals as goal

pub overflow_add-a : goal.overflow_add-a
overflow_add-a c =
    let n = c.self.inside.size in
    let words = c.self.inside.words.items in
    let size : length c.args.self.now ≡ n = sym (ap length c.self.view_is) ∙ table_size n (bit (words_per_row n) words) in
    let column : c.args.k < words_per_row n = subst (λ m. c.args.k < words_per_row m) size c.requires.column in
    let fits = place_lt n (words_per_row n) c.loop-a.a c.args.k words c.self.invariant.whole c.loop-a-test.true column in
    let place : c.loop-a.a * c.words_per_row-width.result + c.args.k ≡ c.loop-a.a * words_per_row n + c.args.k = ap (λ w. c.loop-a.a * w + c.args.k) c.words_per_row-width.ensures in
    let many = c.self.inside.words.ok in
    let few = c.self.inside.words.small in omega (arith, fits, place)

pub index-word-requires : goal.index-word-requires
index-word-requires c =
    let n = c.self.inside.size in
    let words = c.self.inside.words.items in
    let size : length c.args.self.now ≡ n = sym (ap length c.self.view_is) ∙ table_size n (bit (words_per_row n) words) in
    let column : c.args.k < words_per_row n = subst (λ m. c.args.k < words_per_row m) size c.requires.column in
    let fits = place_lt n (words_per_row n) c.loop-a.a c.args.k words c.self.invariant.whole c.loop-a-test.true column in
    let place : c.loop-a.a * c.words_per_row-width.result + c.args.k ≡ c.loop-a.a * words_per_row n + c.args.k = ap (λ w. c.loop-a.a * w + c.args.k) c.words_per_row-width.ensures in
    let many = c.self.inside.words.ok.0 in omega (arith, fits, place)

pub add_to_lanes-requires : goal.add_to_lanes-requires
add_to_lanes-requires c j low =
    let n = c.self.inside.size in
    let words = c.self.inside.words.items in
    let rows = rows_low n words c.self.invariant.whole in
    let many = c.self.inside.words.ok.0 in
    let few = c.self.inside.words.small in
    row_fits c.args.self.now (64 * c.args.k) c.loop-a.a n c.loop-a.lanes c.loop-a.invariant c.loop-a-test.true (omega arith) j low

pub loop-a-preserved : goal.loop-a-preserved
loop-a-preserved c =
    let n = c.self.inside.size in
    let words = c.self.inside.words.items in
    let a = c.loop-a.a in
    let k = c.args.k in
    let size : length c.args.self.now ≡ n = sym (ap length c.self.view_is) ∙ table_size n (bit (words_per_row n) words) in
    let column : k < words_per_row n = subst (λ m. k < words_per_row m) size c.requires.column in
    let fits = place_lt n (words_per_row n) a k words c.self.invariant.whole c.loop-a-test.true column in
    let place : a * c.words_per_row-width.result + k ≡ a * words_per_row n + k = ap (λ w. a * w + k) c.words_per_row-width.ensures in
    let word : c.index-word.result.now ≡ get_or words (a * words_per_row n + k) 0 =
    get_or_read words (a * c.words_per_row-width.result + k) c.index-word.result.now (omega (arith, fits, place)) c.index-word.ensures 0 ∙ ap (λ p. get_or words p 0) place in
    row_more c.args.self.now (64 * k) a c.index-word.result.now c.loop-a.lanes c.add_to_lanes.new.words c.add_to_lanes.auto.words c.loop-a.invariant c.add_to_lanes.ensures
    (λ j low. ap (λ w. bit_at w j) word ∙ row_value n words c.self.invariant a k j c.loop-a-test.true column low
    ∙ ap (λ order. flag (is_before order a (64 * k + j))) c.self.view_is)

pub returns : goal.returns
returns c =
    let n = c.self.inside.size in
    let size : length c.args.self.now ≡ n = sym (ap length c.self.view_is) ∙ table_size n (bit (words_per_row n) c.self.inside.words.items) in
    let end : c.loop-a.a ≡ length c.args.self.now = (let past = c.loop-a-test.false in let near = c.loop-a.auto.a-end in omega arith) in
    subst (λ m. AreColumnCounts c.args.self.now (64 * c.args.k) m c.loop-a.lanes) end c.loop-a.invariant
