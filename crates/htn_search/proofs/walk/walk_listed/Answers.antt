use Rattle.std.proofs.Common.{◌≡◌, ◌+◌, ◌∷◌, [], get_or, drop, sym, refl, ap, ◌∙◌, subst}
use Rattle.std.proofs.lemmas.List.{drop_more, drop_all}
use Rattle.htn_model.specs.Grounding.{problem_of}
use Rattle.htn_model.specs.Machine.{FinishesFrom, start}
use Rattle.htn_model.proofs.Grounded.{tasks_are_grounded}
use Rattle.htn_walk.specs.Listed.{number_of}
use Rattle.htn_ground.specs.Trees as trees
use Rattle.htn_walk.specs.Places.{open_places, places_view}
use Rattle.htn_walk.specs.Told.{FinishesListed, told}
use Rattle.htn_walk.specs.Walk.{recorded}
use Rattle.htn_walk.proofs.Told.{finishes_told, next_chooses, one_told}
use Rattle.htn_walk.proofs.Way.{IsUnderWay, way_begins, walk_on}
use Rattle.htn_walk.proofs.Solved.{solved}
use Rattle.htn_search.proofs.walk.walk_listed.Goals as goal

pub loop-rank-init : goal.loop-rank-init
loop-rank-init c =
    let t = c.args.task.now in
    let ranks = c.args.ranks.now in
    let network = c.args.initial.now.network in
    let walk = c.in_ok-walk.walk in
    let begins = c.in_ok-walk.ensures in
    record {
      way = way_begins (trees.number_of t) (problem_of t) (told t walk.config ranks) network walk begins
          (subst (λ x. FinishesFrom (problem_of t) (told t x ranks) (start (problem_of t) network)) (sym begins.config) (finishes_told t ranks (start (problem_of t) network) c.requires.finishes));
      leads = subst (λ x. FinishesListed t x ranks) (sym begins.config) c.requires.finishes;
    }

pub follow_listed-requires-clause-chosen : goal.follow_listed-requires-clause-chosen
follow_listed-requires-clause-chosen c =
    let t = c.args.task.now in
    let ranks = c.args.ranks.now in
    let i = c.loop-rank.rank-index in
    let left : drop i ranks ≡ get_or ranks i 0 ∷ drop (i + 1) ranks = drop_more ranks i 0 c.loop-rank-test.true in
    next_chooses t c.loop-rank.walk.config (get_or ranks i 0) (drop (i + 1) ranks) (subst (FinishesListed t c.loop-rank.walk.config) left c.loop-rank.invariant.leads)

pub loop-rank-preserved : goal.loop-rank-preserved
loop-rank-preserved c =
    let t = c.args.task.now in
    let problem = problem_of t in
    let ranks = c.args.ranks.now in
    let first = c.in_ok-walk.walk.config in
    let word = told t first ranks in
    let roots = open_places c.in_ok-walk.walk.places.items in
    let old = c.loop-rank.walk in
    let new = c.in_ok-walk-2.walk in
    let i = c.loop-rank.rank-index in
    let rank = get_or ranks i 0 in
    let later = drop (i + 1) ranks in
    let left : drop i ranks ≡ rank ∷ later = drop_more ranks i 0 c.loop-rank-test.true in
    let leads = subst (FinishesListed t old.config) left c.loop-rank.invariant.leads in
    let one = c.in_ok-walk-2.ensures in
    let number = number_of t old.config rank in
    let on = one_told t old.config rank later one.choice new.config leads one.chooses one.config in
    let rest = told t new.config later in
    let split : told t old.config (drop i ranks) ≡ number ∷ rest = ap (told t old.config) left ∙ on.0 in
    let way : IsUnderWay (trees.number_of t) problem word first roots (number ∷ rest) old.config old.trail.items (open_places old.places.items) (places_view old.visits.items) =
    subst (λ l. IsUnderWay (trees.number_of t) problem word first roots l old.config old.trail.items (open_places old.places.items) (places_view old.visits.items)) split c.loop-rank.invariant.way in
    record {
      way = subst (λ x. IsUnderWay (trees.number_of t) problem word first roots rest x new.trail.items (open_places new.places.items) (places_view new.visits.items)) (sym one.config)
          (walk_on (trees.number_of t) problem old.config number one.choice one.chooses one.last one.is_move rest word first roots
          old.trail.items new.trail.items (open_places old.places.items) (open_places new.places.items) (places_view old.visits.items) (places_view new.visits.items)
          way one.trail one.places one.visits);
      leads = on.1;
    }

pub returns-clause-within : goal.returns-clause-within
returns-clause-within c =
    let t = c.args.task.now in
    let ranks = c.args.ranks.now in
    let first = c.in_ok-walk.walk.config in
    let roots = open_places c.in_ok-walk.walk.places.items in
    let old = c.loop-rank.walk in
    let none : drop c.loop-rank.rank-index ranks ≡ [] = drop_all c.loop-rank.rank-index ranks c.loop-rank-test.false in
    (subst (λ l. IsUnderWay (trees.number_of t) (problem_of t) (told t first ranks) first roots (told t old.config l) old.config old.trail.items (open_places old.places.items) (places_view old.visits.items)) none c.loop-rank.invariant.way).within

pub returns-clause-solved : goal.returns-clause-solved
returns-clause-solved c =
    let t = c.args.task.now in
    let problem = problem_of t in
    let ranks = c.args.ranks.now in
    let network = c.args.initial.now.network in
    let first = c.in_ok-walk.walk.config in
    let roots = open_places c.in_ok-walk.walk.places.items in
    let old = c.loop-rank.walk in
    let none : drop c.loop-rank.rank-index ranks ≡ [] = drop_all c.loop-rank.rank-index ranks c.loop-rank-test.false in
    let numbers = told t (start problem network) ranks in
    let way : IsUnderWay (trees.number_of t) problem numbers first roots [] old.config old.trail.items (open_places old.places.items) (places_view old.visits.items) =
    subst (λ w. IsUnderWay (trees.number_of t) problem w first roots [] old.config old.trail.items (open_places old.places.items) (places_view old.visits.items)) (ap (λ x. told t x ranks) c.in_ok-walk.ensures.config)
    (subst (λ l. IsUnderWay (trees.number_of t) problem (told t first ranks) first roots (told t old.config l) old.config old.trail.items (open_places old.places.items) (places_view old.visits.items)) none c.loop-rank.invariant.way) in
    λ number is.
    solved (trees.number_of t) problem (tasks_are_grounded t c.objects-typed.ensures.typed) number numbers (network, is, finishes_told t ranks (start problem network) c.requires.finishes) network is first roots
    c.in_ok-walk.ensures.config c.in_ok-walk.ensures.places
    old.config old.trail.items (open_places old.places.items) (places_view old.visits.items) way (recorded t number old) refl refl refl
