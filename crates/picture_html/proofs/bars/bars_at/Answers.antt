use Rattle.std.proofs.Common.{ℕ, sym, ap, ◌∙◌}
use Rattle.std.proofs.lemmas.List.Sorted.{IsNonDecreasingBy-from_sort}
use Rattle.picture_html.specs.Runs.{runs_of}
use Rattle.picture_html.proofs.Sorting.{found_first, none_first}
use Rattle.picture_html.proofs.bars.bars_at.Goals as goal

pub returns-then-has_bars : goal.returns-then-has_bars
returns-then-has_bars c =
    let sorted = c.sort.new.self.items in
    found_first c.args.actions c.args.rows.now c.args.place c.index-rows-place.result c.in_ok-positions.positions.items sorted c.in_ok-bars.bars.items c.requires c.index-rows-place.is
    (sym c.has_bars.ensures ∙ c.if-has_bars.true) c.in_ok-positions.ensures c.in_ok-sort.ensures.permutation (IsNonDecreasingBy-from_sort (λ (n : ℕ). n) sorted c.in_ok-sort.ensures.sorted)
    (c.in_ok-bars.ensures ∙ ap runs_of c.as_slice.ensures.value)

pub returns : goal.returns
returns c =
    none_first c.args.actions c.args.rows.now c.args.place c.index-rows-place.result c.new.result.items c.requires c.index-rows-place.is (sym c.has_bars.ensures ∙ c.if-has_bars.false)
    c.new.ensures.items
