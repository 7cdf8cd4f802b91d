use Rattle.std.proofs.Common.{◌≡◌, ◌∙◌, [], ap, false, length, refl, sym, true, ℕ}
use Rattle.std.specs.List.{filter}
use Rattle.htn_ground.specs.Counted.{fitting}
use Rattle.htn_ground.specs.Search.{completions, relation_singles, some_starts_at}
use Rattle.htn_ground.proofs.Alike.{counted_once, run_none}
use Rattle.htn_ground.proofs.counts.count_run.Goals as goal

pub returns-in_default-clause-count : goal.returns-in_default-clause-count
returns-in_default-clause-count c =
    let relations = c.args.relations.now in
    let values = c.args.values.now in
    let run = c.args.run.now in
    let starts : some_starts_at relations (length values) ≡ false = ap (some_starts_at relations) (sym c.len-depth.ensures) ∙ sym c.if-not-some_starts_at.ensures in
    let none : filter (relation_singles relations values (length values)) run ≡ [] =
    (λ i. filter (relation_singles relations (sym c.as_slice.ensures i) (sym c.len-depth.ensures i)) run) ∙ c.in_default.ensures.none in
    ap fitting (sym (run_none c.args.domains.now relations values starts run none))

pub returns-then-not-some_starts_at-clause-count : goal.returns-then-not-some_starts_at-clause-count
returns-then-not-some_starts_at-clause-count c =
    let relations = c.args.relations.now in
    let values = c.args.values.now in
    let run = c.args.run.now in
    let starts : some_starts_at relations (length values) ≡ false = ap (some_starts_at relations) (sym c.len-depth.ensures) ∙ sym c.if-not-some_starts_at.ensures in
    let allows : relation_singles relations values (length values) c.in-Some.object ≡ true =
    (λ i. relation_singles relations (sym c.as_slice.ensures i) (sym c.len-depth.ensures i) c.in-Some.object) ∙ c.in-Some.ensures.some in
    let many : c.count_allowed-allowed.result ≡ length (filter (relation_singles relations values (length values)) run) =
    c.count_allowed-allowed.ensures ∙ (λ i. length (filter (relation_singles relations (c.as_slice-then-not-some_starts_at.ensures i) (c.len-depth.ensures i)) run)) in
    let each : ℕ = length (completions c.args.domains.now relations c.push.new.self) in
    c.product_of-count.ensures each c.in_ok-each.ensures.count
    ∙ ap fitting (counted_once c.args.domains.now relations values starts c.in-Some.object c.count_allowed-allowed.result each run c.push.new.self allows many c.in_ok-push.ensures.ok refl)
