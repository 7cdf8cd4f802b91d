use Rattle.std.proofs.Common.{◌∙◌, ◌++◌, List, ap, ℕ}
use Rattle.htn_ground.specs.Distinct.{gathered}
use Rattle.htn_ground.specs.Search.{completions}
use Rattle.htn_ground.proofs.Completions.{completions_all}
use Rattle.htn_ground.proofs.distinct.distinct_assignments.Goals as goal

pub returns : goal.returns
returns c =
    let domains = c.args.domains.now in
    let relations = c.args.relations.now in
    λ passes make ignores kept.
    c.in_ok-complete_distinct.ensures.found passes make ignores kept
    ∙ ap (λ (l : List (List ℕ)). gathered passes make kept (l ++ completions domains relations c.new-values.result)) c.new-found.ensures.items
    ∙ ap (λ (v : List ℕ). gathered passes make kept (completions domains relations v)) c.new-values.ensures
    ∙ ap (gathered passes make kept) (completions_all domains relations)
