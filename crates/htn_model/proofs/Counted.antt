-- The numbers that a configuration can choose from.
use Rattle.std.proofs.Common.{◌≡◌, ℕ, ◌<◌, length, Some, ◌⊎◌, inl, inr, sym, subst}
use Rattle.std.proofs.lemmas.Option.{slice_get_within}
use Rattle.htn_model.specs.Problem.{is_before, Problem}
use Rattle.htn_model.specs.Choice.{passing, is_free}
use Rattle.htn_model.specs.Machine.{Config, Choice, step_by}
use Rattle.htn_model.specs.Levels.{method_count, choice_count_by, choice_count}
use Rattle.htn_model.proofs.Steps.{Decomposes, Executes, chosen, step_choice}

-- a number that has a step is below the count
pub step_counted : (problem : Problem) (c next : Config) (n : ℕ) → step_by problem c n ≡ Some next → n < choice_count problem c
step_counted problem c next n h =
    let made = step_choice problem c next n h in
    by made.0 (chosen problem c n made.0 made.1)
  where
    by : (choice : Choice) → Decomposes problem c n choice ⊎ Executes problem c n choice → n < choice_count problem c
    by choice (inl d) =
        subst (λ o. n < choice_count_by problem c o) (sym d.first)
        (subst (λ x. n < method_count problem x) (sym d.is_task) (slice_get_within (problem.methods_of d.name) n choice.network d.method))
    by choice (inr e) =
        subst (λ o. n < choice_count_by problem c o) (sym e.none)
        (slice_get_within (passing (is_free (length c.open_nodes) (is_before c.order)) (length c.open_nodes)) n choice.position e.nth)
