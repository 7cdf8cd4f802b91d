use Rattle.std.proofs.Common.{◌≡◌}
use Rattle.std.proofs.lemmas.Result.{err_from_is_err_and}
use Rattle.htn_model.proofs.Grounded.{tasks_are_grounded}
use Rattle.word_machine.specs.declared.found.SearchFault.TheVariants.{NoThread, OutOfMemory}
use Rattle.htn_search.proofs.Answering.{none_below}
use Rattle.htn_search.proofs.solve.search_watched.Goals as goal

-- want of memory is not want of a thread
is_other : {P : Type 0} → OutOfMemory ≡ NoThread → P
is_other e = absurd (cc)

pub find_in_stages-requires-clause-hears : goal.find_in_stages-requires-clause-hears
find_in_stages-requires-clause-hears g c = λ _ _.
    λ n none. c.requires.hears n (none_below c.args.task.now (tasks_are_grounded c.args.task.now c.objects-typed.ensures.typed) n none)

pub returns-in_err-known-clause-no_thread : goal.returns-in_err-known-clause-no_thread
returns-in_err-known-clause-no_thread g c =
    let p = err_from_is_err_and c.from_residual-in_err-known.result c.from_residual-in_err-known.ensures.1 in
    rw (p.1, p.2) (λ same. is_other same)
