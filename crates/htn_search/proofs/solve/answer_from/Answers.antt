use Rattle.std.proofs.Common.{sym, subst}
use Rattle.htn_ground.specs.Trees.{solution_of}
use Rattle.htn_model.specs.Grounding.{problem_of}
use Rattle.htn_model.proofs.Grounded.{tasks_are_grounded}
use Rattle.word_machine.specs.Answer.{IsAnswer, IsLeastFinishing}
use Rattle.word_machine.specs.Machine.{IsFinishing}
use Rattle.htn_walk.specs.Listed.{listing_machine}
use Rattle.htn_walk.specs.Rebuilt.{IsSolutionOf}
use Rattle.htn_walk.specs.Told.{told_word}
use Rattle.word_machine.specs.declared.found.Found.TheVariants.{None, Unsolvable}
use Rattle.htn_walk.proofs.Answers.{answered}
use Rattle.htn_search.proofs.Answering.{plan_answers, none_answers, unsolvable_answers}
use Rattle.htn_walk.proofs.Told.{told_answer, told_solution}
use Rattle.htn_search.proofs.solve.answer_from.Goals as goal

pub returns-in_ok-rebuild_listed-in-Word : goal.returns-in_ok-rebuild_listed-in-Word
returns-in_ok-rebuild_listed-in-Word c = λ bound found.
    let t = c.args.task.now in
    let grounded = tasks_are_grounded t c.objects-typed.ensures.typed in
    let plan = c.in_ok-rebuild_listed-in-Word.field-0 in
    let least = subst (IsAnswer (listing_machine t) bound) c.in-Word.is found in
    plan_answers t bound grounded plan
    (told_solution t grounded bound c.in-Word.ranks.items (solution_of t plan) least
    (subst (λ w. IsSolutionOf (problem_of t) (told_word t w) (solution_of t plan)) c.deref.ensures.value c.in_ok-rebuild_listed-in-Word.ensures))

pub returns-in-None : goal.returns-in-None
returns-in-None c = λ bound found.
    let t = c.args.task.now in
    let grounded = tasks_are_grounded t c.objects-typed.ensures.typed in
    let own = answered (problem_of t) bound None grounded
    (told_answer t grounded bound None None (subst (IsAnswer (listing_machine t) bound) c.in-None.is found) tt) in
    none_answers t bound own.0 own.1

pub returns-in-Unsolvable : goal.returns-in-Unsolvable
returns-in-Unsolvable c = λ bound found.
    let t = c.args.task.now in
    let grounded = tasks_are_grounded t c.objects-typed.ensures.typed in
    let own = answered (problem_of t) bound Unsolvable grounded
    (told_answer t grounded bound Unsolvable Unsolvable (subst (IsAnswer (listing_machine t) bound) c.in-Unsolvable.is found) tt) in
    unsolvable_answers t bound own.0 own.1

pub rebuild_listed-requires-clause-finishing : goal.rebuild_listed-requires-clause-finishing
rebuild_listed-requires-clause-finishing c =
    let t = c.args.task.now in
    let bound = c.requires.found.0 in
    let least : IsLeastFinishing (listing_machine t) bound c.in-Word.ranks.items = subst (IsAnswer (listing_machine t) bound) c.in-Word.is c.requires.found.1 in
    subst (IsFinishing (listing_machine t)) (sym c.deref.ensures.value) least.finishes
