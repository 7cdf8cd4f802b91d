use Rattle.std.proofs.Common.{◌≡◌, ◌<◌, ◌≤◌, ℕ, List, length, get_or, subst, sym, ◌∙◌, ap, rules, of_calls, ltb, arith}
use Rattle.std.proofs.lemmas.Bool.{ltb-true, ltb-false}
use Rattle.std.proofs.lemmas.Fn.{always_returns_same}
use Rattle.std.proofs.lemmas.List.Sorted.{IsPartitionedBy-ltb, IsNonDecreasingBy-from_default}
use Rattle.std.specs.List.Sorted.{IsPartitionedBy}
use Rattle.diagnostics.specs.Places.{feeds_from}
use Rattle.diagnostics.proofs.Feeds.{Parts, parts_once, parts_of, rise_le, feeds_rise}
use Rattle.diagnostics.proofs.text_lines.Lines.feeds_before.Goals as goal

pub returns : goal.returns
returns c =
    let text = c.args.self.now in
    let place = c.args.place in
    let fs = c.as_slice.result.now in
    let same : fs ≡ feeds_from 0 text = c.as_slice.ensures.value ∙ c.self.invariant ∙ ap (feeds_from 0) c.self.view_is in
    let rise : (i j : ℕ) → i ≤ j → j < length fs → get_or fs i 0 ≤ get_or fs j 0 = λ i j le lt. subst (λ (l : List ℕ). (i j : ℕ) → i ≤ j → j < length l → get_or l i 0 ≤ get_or l j 0) (sym same) (rise_le (feeds_from 0 text) (feeds_rise 0 text)) i j le lt in
    let parted : IsPartitionedBy (λ f. ltb f place) fs = IsPartitionedBy-ltb (λ f. f) fs place (IsNonDecreasingBy-from_default (λ f. f) fs 0 rise) in
    let point = c.partition_point.ensures.partitioned (λ f. ltb f place) (always_returns_same _ _ _ (λ a r f k. search (rules, of_calls))) parted in
    let found : Parts fs place c.partition_point.result = record { within = c.partition_point.ensures.bound; below = λ i lt. ltb-true _ place (point.0 i 0 (omega arith) lt); above = λ i le lt. ltb-false _ place (point.1 i 0 le lt) } in
    parts_once (feeds_from 0 text) place _ _ (subst (λ l. Parts l place c.partition_point.result) same found) (parts_of text place c.requires)
