use Rattle.std.proofs.Common.{sym, ◌∙◌, ap, ◌&&◌, ◌++◌, ◌∷◌, [], nat_lt, length, take, if◌then◌else◌, subst, ◌≤◌, None, List, ℕ, map}
use Rattle.diagnostics.specs.Near.{names_of, score_of, least_of, is_score, indices_from}
use Rattle.diagnostics.proofs.FirstThree.{offered_few, next_index, last_index}
use Rattle.diagnostics.proofs.Leasts.{indices-least}
use Rattle.diagnostics.proofs.offers.nearest.Goals as goal

pub loop-index-preserved : goal.loop-index-preserved
loop-index-preserved c =
    let found = c.loop-index.found.items in
    let new = c.in_ok-offer.ensures ∙ ap (λ b. if b && nat_lt (length found) 3 then found ++ c.loop-index.index ∷ [] else found) c.is_least.ensures in
    let IsFew : List ℕ → Type 0 = λ xs. length xs ≤ 3 in
    record {
      few = subst IsFew (sym new) (offered_few _ found c.loop-index.index c.loop-index.invariant.few);
      rest = next_index (is_score c.least-least.result) c.deref-score-items.result.now c.loop-index.index None found c.offer.new.found.items _ c.loop-index-test.true c.loop-index.invariant.few new c.loop-index.invariant.rest;
    }

pub returns : goal.returns
returns c =
    let name = c.args.name.now in
    let names = names_of c.args.candidates.now in
    let last = last_index (is_score c.least-least.result) c.deref-score-items.result.now c.loop-index.index c.loop-index.found.items _ c.loop-index-test.false c.loop-index.invariant.few c.loop-index.invariant.rest in
    let scores = c.deref-score-items.ensures.value ∙ c.in_ok-scores.ensures in
    let least = c.least-least.ensures ∙ ap least_of (c.as_slice.ensures.value ∙ c.in_ok-scores.ensures) in
    last
    ∙ ap (λ l. take 3 (indices_from (is_score l) 0 c.deref-score-items.result.now)) least
    ∙ ap (λ xs. take 3 (indices_from (is_score (least_of (map (score_of name) names))) 0 xs)) scores
    ∙ ap (take 3) (indices-least name names)
