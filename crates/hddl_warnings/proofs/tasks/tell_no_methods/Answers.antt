use Rattle.std.specs.Prelude.{option_map}
use Rattle.hddl_warnings.specs.Used.{decomposed_names, name_texts, subtask_names}
use Rattle.hddl_warnings.proofs.tasks.tell_no_methods.Goals as goal

pub returns : goal.returns
returns c =
    let d = c.args.domain.now in
    let p = option_map (λ p. p.now) c.args.problem in
    c.in_ok-tell_undone.ensures (name_texts (subtask_names d p)) (name_texts (decomposed_names d)) c.in_ok-asked.ensures c.in_ok-done.ensures
