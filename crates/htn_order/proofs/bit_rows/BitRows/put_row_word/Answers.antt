use Rattle.std.proofs.Common.{◌≡◌, ◌<◌, ◌%◌, ◌^◌, ◌||◌, ◌&&◌, ◌∙◌, ap, ap₂, sym, eqb, ltb, length, subst, arith, bit_and}
use Rattle.std.proofs.lemmas.List.{with_items_is, length-set}
use Rattle.std.proofs.lemmas.Nat.{and_mask}
use Rattle.std.specs.Vec.{with_items}
use Rattle.htn_model.specs.Problem.{IsSquare, is_before}
use Rattle.htn_model.proofs.Splices.{table_square}
use Rattle.htn_order.specs.BitRows.{IsPacked, bit, is_set, rows_of, words_per_row}
use Rattle.htn_order.specs.Words.{with_bits}
use Rattle.htn_order.proofs.RowWords.{one_each, with_bits_entries, with_bits_packed}
use Rattle.htn_order.proofs.Tables.{table_size}
use Rattle.htn_order.proofs.bit_rows.BitRows.put_row_word.Goals as goal

pub ones-requires : goal.ones-requires
ones-requires c =
    let n = c.self.inside.size in
    let size = table_size n (bit (words_per_row n) c.self.inside.words.items) in
    let view = ap length c.self.view_is in
    omega (arith, size, view, c.requires.few)

pub add_bits-requires : goal.add_bits-requires
add_bits-requires c =
    let n = c.self.inside.size in
    let words = c.self.inside.words.items in
    let size = table_size n (bit (words_per_row n) words) in
    let view = ap length c.self.view_is in
    let few : n < 64 = omega (arith, size, view, c.requires.few) in
    omega (arith, size, view, c.requires.row, one_each n words few c.self.invariant, ap length c.deref_mut.ensures.value)

pub invariant_of-self : goal.invariant_of-self
invariant_of-self c =
    let n = c.self.inside.size in
    let words = c.self.inside.words.items in
    let size = table_size n (bit (words_per_row n) words) in
    let view = ap length c.self.view_is in
    let few : n < 64 = omega (arith, size, view, c.requires.few) in
    let row : c.args.a < n = omega (arith, size, view, c.requires.row) in
    let more : bit_and c.args.word c.ones.result ≡ c.args.word % 2 ^ n = ap (bit_and c.args.word) c.ones.ensures ∙ and_mask c.args.word n in
    let is : c.add_bits.new.words ≡ with_bits words c.args.a (c.args.word % 2 ^ n) =
    c.add_bits.ensures ∙ ap₂ (λ ws m. with_bits ws c.args.a m) c.deref_mut.ensures.value more in
    let long : length c.add_bits.new.words ≡ length words = ap length is ∙ length-set words _ _ in
    subst (IsPacked n) (sym (with_items_is c.self.inside.words c.add_bits.new.words (long ∙ sym c.self.inside.words.ok.0) ∙ is))
    (with_bits_packed n words c.args.a c.args.word few row c.self.invariant)

pub returns-clause-entries : goal.returns-clause-entries
returns-clause-entries c =
    let n = c.self.inside.size in
    let words = c.self.inside.words.items in
    let size = table_size n (bit (words_per_row n) words) in
    let view = ap length c.self.view_is in
    let few : n < 64 = omega (arith, size, view, c.requires.few) in
    let row : c.args.a < n = omega (arith, size, view, c.requires.row) in
    let more : bit_and c.args.word c.ones.result ≡ c.args.word % 2 ^ n = ap (bit_and c.args.word) c.ones.ensures ∙ and_mask c.args.word n in
    let is : c.add_bits.new.words ≡ with_bits words c.args.a (c.args.word % 2 ^ n) =
    c.add_bits.ensures ∙ ap₂ (λ ws m. with_bits ws c.args.a m) c.deref_mut.ensures.value more in
    let long : length c.add_bits.new.words ≡ length words = ap length is ∙ length-set words _ _ in
    let written : (with_items c.self.inside.words c.add_bits.new.words).items ≡ with_bits words c.args.a (c.args.word % 2 ^ n) =
    with_items_is c.self.inside.words c.add_bits.new.words (long ∙ sym c.self.inside.words.ok.0) ∙ is in
    λ x y. ap (λ ws. is_before (rows_of n ws) x y) written
    ∙ with_bits_entries n words c.args.a c.args.word few row c.self.invariant x y
    ∙ ap₂ (λ order m. is_before order x y || (eqb x c.args.a && (ltb y m && is_set c.args.word y))) c.self.view_is (sym size ∙ view)

pub returns-clause-square : goal.returns-clause-square
returns-clause-square c =
    let n = c.self.inside.size in
    let size : n ≡ length c.args.self.now = sym (table_size n (bit (words_per_row n) c.self.inside.words.items)) ∙ ap length c.self.view_is in
    let new = (with_items c.self.inside.words c.add_bits.new.words).items in
    subst (λ m. IsSquare m (rows_of n new)) size (table_square n (bit (words_per_row n) new))
