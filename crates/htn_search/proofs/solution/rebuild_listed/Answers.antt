use Rattle.std.proofs.Common.{◌≡◌, ◌<◌, ◌∷◌, Some, slice_get, option_map, sym, ap, ◌∙◌, subst}
use Rattle.std.proofs.lemmas.Option.{slice_get_within, slice_get-map, get_or_from_slice_get}
use Rattle.htn_model.specs.Grounding.{problem_of}
use Rattle.htn_model.specs.Instance.{Instance}
use Rattle.htn_model.specs.Instances.{initials}
use Rattle.htn_model.specs.Machine.{start}
use Rattle.htn_model.specs.Tree.{nodes_of}
use Rattle.htn_ground.specs.Trees.{number_of, solution_of}
use Rattle.htn_walk.specs.Listed.{listing_machine}
use Rattle.htn_walk.specs.Rebuilt.{IsSolutionOf}
use Rattle.htn_walk.specs.Told.{told, told_word}
use Rattle.htn_walk.proofs.Closing.{initial_number_is}
use Rattle.htn_walk.proofs.Told.{begun_at, rank_within}
use Rattle.word_machine.specs.Machine.{IsFinishing}
use Rattle.htn_search.proofs.solution.rebuild_listed.Goals as goal

pub swap_remove-initial-requires : goal.swap_remove-initial-requires
swap_remove-initial-requires c =
    let t = c.args.task.now in
    subst (λ n. c.in-Some.rank.now < n) (sym c.in_ok-listed.listed.ok.0)
    (rank_within t c.in-Some.rank.now c.in-Some.ranks.now c.in_ok-listed.listed.items (subst (IsFinishing (listing_machine t)) c.in-Some.ensures.cases.0 c.requires.finishing) c.in_ok-listed.ensures)

pub walk_listed-requires-clause-initial : goal.walk_listed-requires-clause-initial
walk_listed-requires-clause-initial c =
    let t = c.args.task.now in
    let y = c.swap_remove-initial.result in
    let b = begun_at t c.in-Some.rank.now c.in-Some.ranks.now c.in_ok-listed.listed.items (subst (IsFinishing (listing_machine t)) c.in-Some.ensures.cases.0 c.requires.finishing) c.in_ok-listed.ensures y c.swap_remove-initial.ensures.value in
    (b.number, slice_get_within (initials t) b.number y b.among, get_or_from_slice_get (initials t) b.number y y b.among)

pub walk_listed-requires-clause-finishes : goal.walk_listed-requires-clause-finishes
walk_listed-requires-clause-finishes c =
    let t = c.args.task.now in
    (begun_at t c.in-Some.rank.now c.in-Some.ranks.now c.in_ok-listed.listed.items (subst (IsFinishing (listing_machine t)) c.in-Some.ensures.cases.0 c.requires.finishing) c.in_ok-listed.ensures
    c.swap_remove-initial.result c.swap_remove-initial.ensures.value).finishes

pub returns : goal.returns
returns c =
    let t = c.args.task.now in
    let problem = problem_of t in
    let rank = c.in-Some.rank.now in
    let ranks = c.in-Some.ranks.now in
    let y = c.swap_remove-initial.result in
    let b = begun_at t rank ranks c.in_ok-listed.listed.items (subst (IsFinishing (listing_machine t)) c.in-Some.ensures.cases.0 c.requires.finishing) c.in_ok-listed.ensures y c.swap_remove-initial.ensures.value in
    let among : slice_get problem.initials b.number ≡ Some y.network =
    slice_get-map (λ (i : Instance). i.network) (initials t) b.number ∙ ap (option_map (λ (i : Instance). i.network)) b.among in
    let same_number = sym (initial_number_is t c.objects-typed.ensures.typed y b.number b.among) in
    let same_trees = sym (c.in_ok-trees.ensures (number_of t)) in
    let own = solution_of t (record { initial = y; trees = c.in_ok-trees.trees; linearisation = c.in_ok-walk.walk.visits }) in
    subst (λ w. IsSolutionOf problem w own) (sym b.word ∙ ap (told_word t) (sym c.in-Some.ensures.cases.0))
    (subst (λ s. IsSolutionOf problem (b.number ∷ told t (start problem y.network) ranks) s)
    (λ i. record {
      number = same_number i;
      trees = nodes_of (same_trees i);
      linearisation = own.linearisation;
    })
    (c.in_ok-walk.ensures.solved b.number among))
