use Rattle.std.proofs.Common.{◌≡◌, ◌+◌, ◌∷◌, [], get_or, drop, sym, refl, ◌∙◌, subst}
use Rattle.std.proofs.lemmas.List.{drop_more, drop_all}
use Rattle.htn_model.specs.Grounding.{problem_of}
use Rattle.htn_model.proofs.Grounded.{tasks_are_grounded}
use Rattle.htn_ground.specs.Trees.{number_of}
use Rattle.htn_walk.specs.Places.{open_places, places_view}
use Rattle.htn_walk.specs.Walk.{recorded}
use Rattle.htn_walk.proofs.Way.{IsUnderWay, way_begins, walk_on}
use Rattle.htn_walk.proofs.Solved.{solved}
use Rattle.htn_net.proofs.rebuilding.walk_along.Goals as goal

pub loop-number-init : goal.loop-number-init
loop-number-init c = record {
  way = way_begins (number_of c.args.task.now) (problem_of c.args.task.now) c.args.numbers.now c.args.initial.now.network c.in_ok-walk.walk c.in_ok-walk.ensures c.requires.finishes;
  same = c.in_ok-config.ensures ∙ sym c.in_ok-walk.ensures.config;
}

pub loop-number-preserved : goal.loop-number-preserved
loop-number-preserved c =
    let problem = problem_of c.args.task.now in
    let numbers = c.args.numbers.now in
    let first = c.in_ok-walk.walk.config in
    let roots = open_places c.in_ok-walk.walk.places.items in
    let old = c.loop-number.walk in
    let new = c.in_ok-walk-2.field-0-0 in
    let i = c.loop-number.number-index in
    let left : drop i numbers ≡ get_or numbers i 0 ∷ drop (i + 1) numbers = drop_more numbers i 0 c.loop-number-test.true in
    let way : IsUnderWay (number_of c.args.task.now) problem numbers first roots (get_or numbers i 0 ∷ drop (i + 1) numbers) old.config old.trail.items (open_places old.places.items) (places_view old.visits.items) =
    subst (λ l. IsUnderWay (number_of c.args.task.now) problem numbers first roots l old.config old.trail.items (open_places old.places.items) (places_view old.visits.items)) left c.loop-number.invariant.way in
    let one = c.in_ok-walk-2.ensures.one in
    record {
      way = subst (λ x. IsUnderWay (number_of c.args.task.now) problem numbers first roots (drop (i + 1) numbers) x new.trail.items (open_places new.places.items) (places_view new.visits.items)) (sym one.config)
          (walk_on (number_of c.args.task.now) problem old.config (get_or numbers i 0) one.choice one.chooses one.last one.is_move (drop (i + 1) numbers) numbers first roots
          old.trail.items new.trail.items (open_places old.places.items) (open_places new.places.items) (places_view old.visits.items) (places_view new.visits.items)
          way one.trail one.places one.visits);
      same = c.in_ok-walk-2.ensures.same;
    }

pub returns-clause-solved : goal.returns-clause-solved
returns-clause-solved c =
    let problem = problem_of c.args.task.now in
    let numbers = c.args.numbers.now in
    let network = c.args.initial.now.network in
    let first = c.in_ok-walk.walk.config in
    let roots = open_places c.in_ok-walk.walk.places.items in
    let old = c.loop-number.walk in
    let none : drop c.loop-number.number-index numbers ≡ [] = drop_all c.loop-number.number-index numbers c.loop-number-test.false in
    λ number is.
    solved (number_of c.args.task.now) problem (tasks_are_grounded c.args.task.now c.objects-typed.ensures.typed) number numbers (network, is, c.requires.finishes) network is first roots
    c.in_ok-walk.ensures.config c.in_ok-walk.ensures.places
    old.config old.trail.items (open_places old.places.items) (places_view old.visits.items)
    (subst (λ l. IsUnderWay (number_of c.args.task.now) problem numbers first roots l old.config old.trail.items (open_places old.places.items) (places_view old.visits.items)) none c.loop-number.invariant.way)
    (recorded c.args.task.now number old) refl refl refl

pub returns-clause-within : goal.returns-clause-within
returns-clause-within c =
    let problem = problem_of c.args.task.now in
    let numbers = c.args.numbers.now in
    let first = c.in_ok-walk.walk.config in
    let roots = open_places c.in_ok-walk.walk.places.items in
    let old = c.loop-number.walk in
    let none : drop c.loop-number.number-index numbers ≡ [] = drop_all c.loop-number.number-index numbers c.loop-number-test.false in
    (subst (λ l. IsUnderWay (number_of c.args.task.now) problem numbers first roots l old.config old.trail.items (open_places old.places.items) (places_view old.visits.items)) none c.loop-number.invariant.way).within
