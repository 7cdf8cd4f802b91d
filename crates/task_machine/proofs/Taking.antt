-- Numbers taken one after another from a configuration that is expanded.
use Rattle.std.proofs.Common.{◌≡◌, ℕ, ◌≤◌, ◌++◌, ◌∷◌, [], List, true, false, true≢false, Option, Some, None, refl, sym, arith}
use Rattle.std.specs.Prelude.{IfNone}
use Rattle.htn_model.specs.Grounding.{problem_of}
use Rattle.htn_model.specs.Levels.{is_done}
use Rattle.htn_model.specs.Machine.{Config}
use Rattle.htn_model.specs.Task.{Task}
use Rattle.htn_walk.specs.Listed.{listing_machine}
use Rattle.heuristics.specs.declared.prospects.Prospects.{Prospects}
use Rattle.network_table.specs.Networks.{expansion_at}
use Rattle.network_table.specs.declared.expansion.Expansion.{Expansion}
use Rattle.heuristics.specs.Sizes.{size_of}
use Rattle.heuristics.specs.declared.tree_sizes.TreeSizes.{TreeSizes}
use Rattle.word_machine.specs.Meaning.{AreMeasured, AreSuccessors, successors_of}
use Rattle.word_machine.specs.declared.closed.Measured.{Measured}
use Rattle.word_machine.specs.declared.closed.Origin.TheVariants.{Step as Stepped}
use Rattle.task_machine.specs.Bounds.{BelongsTo, belonging_lawful, left_by, lies_beyond}
use Rattle.task_machine.specs.Meaning.{allows, knows, meaning, point, point_of}
use Rattle.task_machine.specs.Site.{AreTaken, IsSite, LeadsTo, Takes}
use Rattle.task_machine.specs.Steps.{rank_count}
use Rattle.task_machine.specs.Tables.{AreTables}
use Rattle.task_machine.specs.declared.configuration.Reached.{Reached}
use Rattle.task_machine.specs.declared.expand.Site.{Site}
use Rattle.task_machine.specs.declared.machine.TaskMachine.{TaskMachine}
use Rattle.task_machine.proofs.Performing.{leads_nowhere}
use Rattle.task_machine.proofs.Prefixes.{made_done, made_more, made_past, made_skip, made_whole}

-- what a number leads to is one of the machine's
pub belongs_there : (m : TaskMachine) (site : Site) → IsSite m.task.now m.prospects site → (number : ℕ) (to : Config)
    → LeadsTo m.task.now site number (Some to) → BelongsTo m.task.now m.prospects to
belongs_there m site is number to leads =
    (belonging_lawful m.task.now (size_of m.sizes) m.prospects m.grounded m.known).stays (point site.tables.now site.from)
    to number is.belongs leads

module _ (t : Task) (sizes : TreeSizes) (p : Prospects) (site : Site) (number : ℕ) (old : List (Measured Reached)) where
  -- more steps are left than the horizon has
  abbrev far : Config → Type 0
  far = lies_beyond t sizes p site.horizon

  -- how many are left by the horizon's measure
  abbrev measure : Config → ℕ
  measure = left_by t sizes p site.horizon.measure

  -- a number that leads nowhere adds nothing
  pub takes_none : LeadsTo t site number None → Takes t sizes p site number false old old
  takes_none nowhere = record {
    goes_on = λ no first made.
        made_skip (listing_machine t) (meaning site.tables.now) far measure (λ at n. refl) site.rank site.from number first
        old made nowhere;
    ends = λ yes first made. absurd (true≢false (sym yes));
  }

  module _ (to : Config) (leads : LeadsTo t site number (Some to)) where
    -- one that leads to what is done is the least
    pub takes_done : (new : List (Measured Reached)) → is_done (problem_of t) to ≡ true
        → Takes t sizes p site number true old new
    takes_done new done = record {
      goes_on = λ no first made. absurd (true≢false no);
      ends = λ yes first made.
          made_done (listing_machine t) (meaning site.tables.now) far measure (λ at n. refl) site.rank site.from number
          first old made to leads done;
    }

    -- one that leads past the horizon adds nothing
    pub takes_past : is_done (problem_of t) to ≡ false → far to
        → Takes t sizes p site number false old old
    takes_past unfinished past = record {
      goes_on = λ no first made.
          made_past (listing_machine t) (meaning site.tables.now) far measure (λ at n. refl) site.rank site.from number
          first old made to leads unfinished past;
      ends = λ yes first made. absurd (true≢false (sym yes));
    }

    -- any other adds what it leads to
    pub takes_more : is_done (problem_of t) to ≡ false → (q : Reached) → allows site.tables.now q
        → point_of site.tables.now q ≡ to → (left : ℕ) → left ≡ measure to
        → Takes t sizes p site number false old
        (old ++ record { successor = record { origin = Stepped site.rank number; configuration = q }; left = left } ∷ [])
    takes_more unfinished q may same left measured = record {
      goes_on = λ no first made.
          made_more (listing_machine t) (meaning site.tables.now) far measure (λ at n. refl) site.rank site.from number
          first old made to leads unfinished q may same left measured;
      ends = λ yes first made. absurd (true≢false (sym yes));
    }

module _ (t : Task) (sizes : TreeSizes) (p : Prospects) (site : Site) (old new : List (Measured Reached)) where
  -- after all numbers, where none led to a done one, all successors are there
  pub taken_whole : (done : Option ℕ) (n : ℕ) → AreTaken t sizes p site n old new done → (e : Expansion)
      → n ≡ rank_count e → AreTables t site.tables.now → knows site.tables.now site.from
      → expansion_at site.tables.now.networks site.from.network ≡ Some e
      → IfNone done ((more : List (Measured Reached)) × (new ≡ old ++ more)
      × AreSuccessors (listing_machine t) (meaning site.tables.now) (lies_beyond t sizes p site.horizon) site.rank site.from (successors_of more)
      × AreMeasured (left_by t sizes p site.horizon.measure) (meaning site.tables.now) more)
  taken_whole None n taken e all own known at =
      made_whole (listing_machine t) (meaning site.tables.now) (lies_beyond t sizes p site.horizon)
      (left_by t sizes p site.horizon.measure) (λ at n. refl) site.rank site.from n old new taken.whole
      (λ k past. leads_nowhere t site.tables.now own site.from known e at k (let far : rank_count e ≤ k = omega arith in far))
  taken_whole (Some number) n taken e all own known at = tt
