use Rattle.std.proofs.Common.{◌≡◌, ◌+◌, ◌*◌, ◌/◌, ◌%◌, ◌∙◌, ap, sym, get_or, arith}
use Rattle.std.proofs.lemmas.List.{get_or_read}
use Rattle.htn_model.specs.Problem.{is_before}
use Rattle.htn_model.proofs.Splices.{table_past_left, table_past_right, table_within}
use Rattle.htn_order.specs.BitRows.{bit, is_set, words_per_row}
use Rattle.htn_order.proofs.Bits.{read_bit}
use Rattle.htn_order.proofs.Packed.{below_width, place_lt}
use Rattle.htn_order.proofs.bit_rows.BitRows.is_before.Goals as goal
use Rattle.htn_order.proofs.bit_rows.BitRows.is_before.Goals.{then-a-self-via-then-a-self, then-a-self-via-else-a-self+then-b-self}

pub returns-then-a-self : goal.returns-then-a-self
returns-then-a-self c =
    let n = c.self.inside.size in
    let f = bit (words_per_row n) c.self.inside.words.items in
    elim c.then-a-self.branch [
      | then-a-self-via-then-a-self w ↦ sym (ap (λ order. is_before order c.args.a c.args.b) (sym c.self.view_is) ∙ table_past_left n f c.args.a c.args.b w.if-a-self.true)
      | then-a-self-via-else-a-self+then-b-self w ↦ sym (ap (λ order. is_before order c.args.a c.args.b) (sym c.self.view_is) ∙ table_past_right n f c.args.a c.args.b w.if-b-self.true)
    ]

pub returns : goal.returns
returns c =
    let n = c.self.inside.size in
    let words = c.self.inside.words.items in
    let width = words_per_row n in
    let at = c.args.a * c.words_per_row.result + c.args.b / 64 in
    let place : at ≡ c.args.a * width + c.args.b / 64 = ap (λ w. c.args.a * w + c.args.b / 64) c.words_per_row.ensures in
    let fits = place_lt n width c.args.a (c.args.b / 64) words c.self.invariant.whole c.if-a-self.false (below_width n c.args.b c.if-b-self.false) in
    let word : c.index-word.result.now ≡ get_or words at 0 = get_or_read words at c.index-word.result.now (omega (arith, fits, place)) c.index-word.ensures 0 in
    read_bit c.index-word.result.now (c.args.b % 64)
    ∙ ap (λ w. is_set w (c.args.b % 64)) (word ∙ ap (λ p. get_or words p 0) place)
    ∙ sym (table_within n (bit width words) c.args.a c.args.b c.if-a-self.false c.if-b-self.false)
    ∙ ap (λ order. is_before order c.args.a c.args.b) c.self.view_is
