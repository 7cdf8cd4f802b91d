use Rattle.std.proofs.Common.{◌≡◌, ◌<◌, ◌&&◌, ◌||◌, ◌∙◌, ap, sym, length, subst, eqb, arith}
use Rattle.std.proofs.lemmas.List.{with_items_is}
use Rattle.std.specs.Vec.{with_items}
use Rattle.htn_model.specs.Problem.{IsSquare, is_before}
use Rattle.htn_model.proofs.Splices.{table_square}
use Rattle.htn_order.specs.BitRows.{IsPacked, bit, rows_of, words_per_row}
use Rattle.htn_order.proofs.Tables.{table_size}
use Rattle.htn_order.proofs.Packed.{united_entries}
use Rattle.htn_order.proofs.Uniting.{united_packed, united_words}
use Rattle.htn_order.proofs.bit_rows.BitRows.put_before_row.Goals as goal

pub unite-requires-clause-first : goal.unite-requires-clause-first
unite-requires-clause-first c =
    let size = table_size c.self.inside.size (bit (words_per_row c.self.inside.size) c.self.inside.words.items) in
    let view = ap length c.self.view_is in
    omega (arith, size, view, c.requires.first)

pub unite-requires-clause-second : goal.unite-requires-clause-second
unite-requires-clause-second c =
    let size = table_size c.self.inside.size (bit (words_per_row c.self.inside.size) c.self.inside.words.items) in
    let view = ap length c.self.view_is in
    omega (arith, size, view, c.requires.second)

pub invariant_of-self : goal.invariant_of-self
invariant_of-self c =
    let n = c.self.inside.size in
    let words = c.self.inside.words.items in
    let size = table_size n (bit (words_per_row n) words) in
    let view = ap length c.self.view_is in
    let second : c.args.b < n = omega (arith, size, view, c.requires.second) in
    let long : length c.unite.new.words ≡ length words = c.unite.auto.words ∙ ap length c.deref_mut.ensures.value in
    subst (IsPacked n) (sym (with_items_is c.self.inside.words c.unite.new.words (long ∙ sym c.self.inside.words.ok.0)))
    (united_packed n words c.unite.new.words c.args.a c.args.b second c.self.invariant long
    (united_words n words c.deref_mut.result.now c.unite.new.words c.words_per_row-width.result c.args.a c.args.b c.words_per_row-width.ensures c.deref_mut.ensures.value c.unite.ensures))

pub returns-clause-entries : goal.returns-clause-entries
returns-clause-entries c =
    let n = c.self.inside.size in
    let words = c.self.inside.words.items in
    let size = table_size n (bit (words_per_row n) words) in
    let view = ap length c.self.view_is in
    let first : c.args.a < n = omega (arith, size, view, c.requires.first) in
    let second : c.args.b < n = omega (arith, size, view, c.requires.second) in
    let long : length c.unite.new.words ≡ length words = c.unite.auto.words ∙ ap length c.deref_mut.ensures.value in
    λ x y. ap (λ ws. is_before (rows_of n ws) x y) (with_items_is c.self.inside.words c.unite.new.words (long ∙ sym c.self.inside.words.ok.0))
    ∙ united_entries n words c.unite.new.words c.args.a c.args.b first second
    (united_words n words c.deref_mut.result.now c.unite.new.words c.words_per_row-width.result c.args.a c.args.b c.words_per_row-width.ensures c.deref_mut.ensures.value c.unite.ensures) x y
    ∙ ap (λ order. is_before order x y || (eqb x c.args.a && is_before order c.args.b y)) c.self.view_is

pub returns-clause-square : goal.returns-clause-square
returns-clause-square c =
    let n = c.self.inside.size in
    let size : n ≡ length c.args.self.now = sym (table_size n (bit (words_per_row n) c.self.inside.words.items)) ∙ ap length c.self.view_is in
    let new = (with_items c.self.inside.words c.unite.new.words).items in
    subst (λ m. IsSquare m (rows_of n new)) size (table_square n (bit (words_per_row n) new))
