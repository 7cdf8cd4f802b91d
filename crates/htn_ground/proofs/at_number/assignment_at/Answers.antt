use Rattle.std.proofs.Common.{◌≡◌, ◌∙◌, List, ℕ, [], ap, arith, length, slice_get, sym}
use Rattle.std.proofs.lemmas.Option.{slice_get_past}
use Rattle.htn_ground.specs.Counted.{fitting}
use Rattle.htn_ground.specs.Search.{completions, matches}
use Rattle.htn_ground.proofs.AtNumber.{leaf_at}
use Rattle.htn_ground.proofs.Completions.{completions_all}
use Rattle.htn_ground.proofs.at_number.assignment_at.Goals as goal

pub returns-in-Some-clause-found : goal.returns-in-Some-clause-found
returns-in-Some-clause-found c =
    let domains = c.args.domains.now in
    let relations = c.args.relations.now in
    let all : completions domains relations c.new-values.result ≡ matches domains relations =
    ap (completions domains relations) c.new-values.ensures ∙ completions_all domains relations in
    let past = c.in-Some.ensures.past (length (matches domains relations)) (c.in_ok-count.ensures.count ∙ ap (λ (l : List (List ℕ)). fitting (length l)) all) in
    sym (slice_get_past (matches domains relations) c.args.number.now (omega (arith, past)))

pub returns-in-Some-clause-past : goal.returns-in-Some-clause-past
returns-in-Some-clause-past c =
    let domains = c.args.domains.now in
    let relations = c.args.relations.now in
    let all : completions domains relations c.new-values.result ≡ matches domains relations =
    ap (completions domains relations) c.new-values.ensures ∙ completions_all domains relations in
    c.in-Some.ensures.past (length (matches domains relations)) (c.in_ok-count.ensures.count ∙ ap (λ (l : List (List ℕ)). fitting (length l)) all)

pub loop-values-init : goal.loop-values-init
loop-values-init c =
    let domains = c.args.domains.now in
    let relations = c.args.relations.now in
    let begun : c.count_completions.new.values ≡ [] = c.in_ok-count.ensures.values ∙ c.new-values.ensures in
    let counted : c.in_ok-count.count ≡ fitting (length (completions domains relations c.count_completions.new.values)) =
    c.in_ok-count.ensures.count ∙ ap (λ (v : List ℕ). fitting (length (completions domains relations v))) (sym c.in_ok-count.ensures.values) in
    record {
      small = omega (arith, ap length begun);
      within = c.in_default.ensures.within (length (completions domains relations c.count_completions.new.values)) counted;
      same = ap (λ (l : List (List ℕ)). slice_get l c.args.number.now) (ap (completions domains relations) begun ∙ completions_all domains relations);
    }

pub loop-values-preserved : goal.loop-values-preserved
loop-values-preserved c = record {
  small = omega (arith, c.in_ok-push_next.ensures.longer, c.loop-values-test.true);
  within = c.in_ok-push_next.ensures.within;
  same = c.in_ok-push_next.ensures.same ∙ c.loop-values.invariant.same;
}

pub returns-clause-found : goal.returns-clause-found
returns-clause-found c =
    let long : length c.loop-values.values ≡ length c.args.domains.now = omega (arith, c.loop-values.invariant.small, c.loop-values-test.false) in
    sym (leaf_at c.args.domains.now c.args.relations.now c.loop-values.values c.loop-values.number c.requires.relations long c.loop-values.invariant.within) ∙ c.loop-values.invariant.same
