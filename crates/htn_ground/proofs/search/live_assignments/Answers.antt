use Rattle.std.proofs.Common.{◌∙◌, ap, List, ℕ, ◌++◌, ◌+◌, Option, length, map}
use Rattle.htn_ground.specs.Counted.{fitted, fitting}
use Rattle.htn_ground.specs.Search.{completions}
use Rattle.htn_ground.specs.Search.{live_from}
use Rattle.htn_ground.proofs.Completions.{completions_all}
use Rattle.htn_ground.proofs.search.live_assignments.Goals as goal

pub returns-clause-found : goal.returns-clause-found
returns-clause-found c =
    let domains = c.args.domains.now in
    let relations = c.args.relations.now in
    λ n start.
    let live : List (List ℕ) → List (Option ℕ × List ℕ) = λ l. map fitted (live_from c.args.state.now c.args.literals.now n l) in
    c.in_ok-complete_live.ensures.found n start
    ∙ ap (λ (l : List (Option ℕ × List ℕ)). l ++ live (completions domains relations c.new-values.result)) c.new-found.ensures.items
    ∙ ap (λ (v : List ℕ). live (completions domains relations v)) c.new-values.ensures
    ∙ ap live (completions_all domains relations)

pub returns-clause-next : goal.returns-clause-next
returns-clause-next c =
    let domains = c.args.domains.now in
    let relations = c.args.relations.now in
    λ n start.
    c.in_ok-complete_live.ensures.number n start
    ∙ ap (λ (v : List ℕ). fitting (n + length (completions domains relations v))) c.new-values.ensures
    ∙ ap (λ (l : List (List ℕ)). fitting (n + length l)) (completions_all domains relations)
