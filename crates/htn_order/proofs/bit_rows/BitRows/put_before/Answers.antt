use Rattle.std.proofs.Common.{◌≡◌, ◌<◌, ◌/◌, ◌||◌, ◌&&◌, ◌∙◌, ap, ap₂, sym, eqb, length, subst, arith}
use Rattle.std.proofs.lemmas.List.{with_items_is, length-set}
use Rattle.std.specs.Vec.{with_items}
use Rattle.htn_model.specs.Problem.{IsSquare, is_before}
use Rattle.htn_model.proofs.Splices.{table_square}
use Rattle.htn_order.specs.BitRows.{IsPacked, bit, rows_of, with_bit, words_per_row}
use Rattle.htn_order.proofs.Tables.{table_size}
use Rattle.htn_order.proofs.Packed.{below_width, put_entries, put_packed}
use Rattle.htn_order.proofs.bit_rows.BitRows.put_before.Goals as goal

pub set_bit-requires-clause-row : goal.set_bit-requires-clause-row
set_bit-requires-clause-row c =
    let size = table_size c.self.inside.size (bit (words_per_row c.self.inside.size) c.self.inside.words.items) in
    let view = ap length c.self.view_is in
    omega (arith, size, view, c.requires.first)

pub set_bit-requires-clause-column : goal.set_bit-requires-clause-column
set_bit-requires-clause-column c =
    let n = c.self.inside.size in
    let size = table_size n (bit (words_per_row n) c.self.inside.words.items) in
    let view = ap length c.self.view_is in
    let second : c.args.b < n = omega (arith, size, view, c.requires.second) in
    subst (λ w. c.args.b / 64 < w) (sym c.words_per_row-width.ensures) (below_width n c.args.b second)

pub invariant_of-self : goal.invariant_of-self
invariant_of-self c =
    let n = c.self.inside.size in
    let words = c.self.inside.words.items in
    let size = table_size n (bit (words_per_row n) words) in
    let view = ap length c.self.view_is in
    let first : c.args.a < n = omega (arith, size, view, c.requires.first) in
    let second : c.args.b < n = omega (arith, size, view, c.requires.second) in
    let is : c.set_bit.new.words ≡ with_bit (words_per_row n) words c.args.a c.args.b =
    c.set_bit.ensures ∙ ap₂ (λ w ws. with_bit w ws c.args.a c.args.b) c.words_per_row-width.ensures c.deref_mut.ensures.value in
    let long : length c.set_bit.new.words ≡ length words = ap length is ∙ length-set words _ _ in
    subst (IsPacked n) (sym (with_items_is c.self.inside.words c.set_bit.new.words (long ∙ sym c.self.inside.words.ok.0) ∙ is))
    (put_packed n words c.args.a c.args.b c.self.invariant first second)

pub returns-clause-entries : goal.returns-clause-entries
returns-clause-entries c =
    let n = c.self.inside.size in
    let words = c.self.inside.words.items in
    let size = table_size n (bit (words_per_row n) words) in
    let view = ap length c.self.view_is in
    let first : c.args.a < n = omega (arith, size, view, c.requires.first) in
    let second : c.args.b < n = omega (arith, size, view, c.requires.second) in
    let is : c.set_bit.new.words ≡ with_bit (words_per_row n) words c.args.a c.args.b =
    c.set_bit.ensures ∙ ap₂ (λ w ws. with_bit w ws c.args.a c.args.b) c.words_per_row-width.ensures c.deref_mut.ensures.value in
    let long : length c.set_bit.new.words ≡ length words = ap length is ∙ length-set words _ _ in
    let written : (with_items c.self.inside.words c.set_bit.new.words).items ≡ with_bit (words_per_row n) words c.args.a c.args.b =
    with_items_is c.self.inside.words c.set_bit.new.words (long ∙ sym c.self.inside.words.ok.0) ∙ is in
    λ x y. ap (λ ws. is_before (rows_of n ws) x y) written
    ∙ put_entries n words c.args.a c.args.b c.self.invariant.whole first second x y
    ∙ ap (λ order. is_before order x y || (eqb x c.args.a && eqb y c.args.b)) c.self.view_is

pub returns-clause-square : goal.returns-clause-square
returns-clause-square c =
    let n = c.self.inside.size in
    let size : n ≡ length c.args.self.now = sym (table_size n (bit (words_per_row n) c.self.inside.words.items)) ∙ ap length c.self.view_is in
    let new = (with_items c.self.inside.words c.set_bit.new.words).items in
    subst (λ m. IsSquare m (rows_of n new)) size (table_square n (bit (words_per_row n) new))
