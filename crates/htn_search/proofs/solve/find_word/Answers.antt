use Rattle.std.proofs.Common.{◌≡◌, sym, subst}
use Rattle.htn_walk.proofs.Answers.{answered, exact}
use Rattle.htn_model.specs.Grounding.{problem_of}
use Rattle.htn_model.proofs.Grounded.{tasks_are_grounded}
use Rattle.word_machine.specs.Answer.{IsAnswer, IsEnding, IsLeastFinishing}
use Rattle.word_machine.specs.Machine.{IsFinishing}
use Rattle.word_machine.specs.declared.found.Found.TheVariants.{Word, None, Unsolvable}
use Rattle.htn_walk.specs.Listed.{listing_machine}
use Rattle.htn_walk.specs.Told.{told_word}
use Rattle.htn_walk.proofs.Told.{told_answer}
use Rattle.htn_search.proofs.solve.find_word.Goals as goal

pub returns-in_ok-word_of_ranks-in-Word-clause-answered : goal.returns-in_ok-word_of_ranks-in-Word-clause-answered
returns-in_ok-word_of_ranks-in-Word-clause-answered g c =
    let t = c.args.task.now in
    let grounded = tasks_are_grounded t c.objects-typed.ensures.typed in
    let word = c.in_ok-word_of_ranks-in-Word.field-0 in
    answered (problem_of t) c.args.bounds.nodes (Word word) grounded
    (told_answer t grounded c.args.bounds.nodes (Word c.in-Word.ranks) (Word word) (subst (IsAnswer (listing_machine t) c.args.bounds.nodes) c.in-Word.is (subst (IsEnding (listing_machine t) c.args.bounds.nodes) c.in-Answer.is c.in_ok-ending.ensures.ending))
    (subst (λ w. word.items ≡ told_word t w) c.deref.ensures.value c.in_ok-word_of_ranks-in-Word.ensures))

pub returns-in_ok-word_of_ranks-in-Word-clause-exact : goal.returns-in_ok-word_of_ranks-in-Word-clause-exact
returns-in_ok-word_of_ranks-in-Word-clause-exact g c =
    let t = c.args.task.now in
    let grounded = tasks_are_grounded t c.objects-typed.ensures.typed in
    let word = c.in_ok-word_of_ranks-in-Word.field-0 in
    exact (problem_of t) c.args.bounds.nodes (Word word) grounded
    (told_answer t grounded c.args.bounds.nodes (Word c.in-Word.ranks) (Word word) (subst (IsAnswer (listing_machine t) c.args.bounds.nodes) c.in-Word.is (subst (IsEnding (listing_machine t) c.args.bounds.nodes) c.in-Answer.is c.in_ok-ending.ensures.ending))
    (subst (λ w. word.items ≡ told_word t w) c.deref.ensures.value c.in_ok-word_of_ranks-in-Word.ensures))

pub returns-in-None-clause-answered : goal.returns-in-None-clause-answered
returns-in-None-clause-answered g c =
    let t = c.args.task.now in
    let grounded = tasks_are_grounded t c.objects-typed.ensures.typed in
    answered (problem_of t) c.args.bounds.nodes None grounded
    (told_answer t grounded c.args.bounds.nodes None None (subst (IsAnswer (listing_machine t) c.args.bounds.nodes) c.in-None.is (subst (IsEnding (listing_machine t) c.args.bounds.nodes) c.in-Answer.is c.in_ok-ending.ensures.ending)) tt)

pub returns-in-None-clause-exact : goal.returns-in-None-clause-exact
returns-in-None-clause-exact g c =
    let t = c.args.task.now in
    let grounded = tasks_are_grounded t c.objects-typed.ensures.typed in
    exact (problem_of t) c.args.bounds.nodes None grounded
    (told_answer t grounded c.args.bounds.nodes None None (subst (IsAnswer (listing_machine t) c.args.bounds.nodes) c.in-None.is (subst (IsEnding (listing_machine t) c.args.bounds.nodes) c.in-Answer.is c.in_ok-ending.ensures.ending)) tt)

pub returns-in-Unsolvable-clause-answered : goal.returns-in-Unsolvable-clause-answered
returns-in-Unsolvable-clause-answered g c =
    let t = c.args.task.now in
    let grounded = tasks_are_grounded t c.objects-typed.ensures.typed in
    answered (problem_of t) c.args.bounds.nodes Unsolvable grounded
    (told_answer t grounded c.args.bounds.nodes Unsolvable Unsolvable (subst (IsAnswer (listing_machine t) c.args.bounds.nodes) c.in-Unsolvable.is (subst (IsEnding (listing_machine t) c.args.bounds.nodes) c.in-Answer.is c.in_ok-ending.ensures.ending)) tt)

pub returns-in-Unsolvable-clause-exact : goal.returns-in-Unsolvable-clause-exact
returns-in-Unsolvable-clause-exact g c =
    let t = c.args.task.now in
    let grounded = tasks_are_grounded t c.objects-typed.ensures.typed in
    exact (problem_of t) c.args.bounds.nodes Unsolvable grounded
    (told_answer t grounded c.args.bounds.nodes Unsolvable Unsolvable (subst (IsAnswer (listing_machine t) c.args.bounds.nodes) c.in-Unsolvable.is (subst (IsEnding (listing_machine t) c.args.bounds.nodes) c.in-Answer.is c.in_ok-ending.ensures.ending)) tt)

pub word_of_ranks-requires : goal.word_of_ranks-requires
word_of_ranks-requires g c =
    let t = c.args.task.now in
    let least : IsLeastFinishing (listing_machine t) c.args.bounds.nodes c.in-Word.ranks.items = subst (IsAnswer (listing_machine t) c.args.bounds.nodes) c.in-Word.is (subst (IsEnding (listing_machine t) c.args.bounds.nodes) c.in-Answer.is c.in_ok-ending.ensures.ending) in
    subst (IsFinishing (listing_machine t)) (sym c.deref.ensures.value) least.finishes
