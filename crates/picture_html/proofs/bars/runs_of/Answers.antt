use Rattle.std.proofs.Common.{◌≡◌, ◌+◌, ◌-◌, ◌<◌, ◌∷◌, length, get_or, drop, sym, ap, ◌∙◌, arith}
use Rattle.std.proofs.lemmas.List.{drop_more}
use Rattle.picture_html.specs.Runs.{with_number, runs_of}
use Rattle.picture_html.proofs.bars.runs_of.Goals as goal

pub loop-left-preserved : goal.loop-left-preserved
loop-left-preserved c =
    let numbers = c.args.numbers.now in
    let left = c.loop-left.left in
    let test = c.loop-left-test.true in
    let within = c.loop-left.invariant.within in
    let low : left - 1 < length numbers = omega arith in
    let next : left - 1 + 1 ≡ left = omega arith in
    let more : drop (left - 1) numbers ≡ get_or numbers (left - 1) 0 ∷ drop left numbers = drop_more numbers (left - 1) 0 low ∙ ap (λ k. get_or numbers (left - 1) 0 ∷ drop k numbers) next in
    record {
      within = omega arith;
      so_far = c.in_ok-cover.ensures ∙ ap (with_number (get_or numbers (left - 1) 0)) c.loop-left.invariant.so_far ∙ sym (ap runs_of more);
    }

pub returns : goal.returns
returns c =
    let none : c.loop-left.left ≡ 0 = omega arith in
    c.reverse.ensures.items ∙ c.loop-left.invariant.so_far ∙ ap (λ k. runs_of (drop k c.args.numbers.now)) none
