-- The configuration that is expanded, and what taking its numbers one after another makes of a list.
use Rattle.std.specs.Prelude.{◌≡◌, ℕ, ◌+◌, Bool, true, false, [], List, get_or, Option, IfNone, IfSome, IsSome}
use Rattle.htn_walk.specs.Listed.{listing_machine}
use Rattle.htn_model.specs.Machine.{Config}
use Rattle.htn_model.specs.Task.{Task}
use Rattle.network_table.specs.Expansions.{IsKnownRemoval}
use Rattle.network_table.specs.declared.expansion.Removal.{Removal}
use Rattle.heuristics.specs.declared.prospects.Prospects.{Prospects}
use Rattle.heuristics.specs.declared.tree_sizes.TreeSizes.{TreeSizes}
use Rattle.word_machine.specs.Expansion.{IsLeastDone}
use Rattle.word_machine.specs.Machine.{IsDone, IsLiveStep}
use Rattle.word_machine.specs.declared.closed.Measured.{Measured}
use Rattle.task_machine.specs.Bounds.{BelongsTo, left_by, lies_beyond}
use Rattle.task_machine.specs.Meaning.{knows, meaning, point, state_at}
use Rattle.task_machine.specs.Prefix.{IsMade}
use Rattle.task_machine.specs.Steps.{removed}
use Rattle.task_machine.specs.Tables.{slot}
use Rattle.task_machine.specs.declared.configuration.Reached.{Reached}
use Rattle.task_machine.specs.declared.expand.Site.{Site}

-- the configuration is one of the machine's, and its state is this
pub record IsSite (t : Task) (p : Prospects) (site : Site) : Type 0 where
  pub known : knows site.tables.now site.from
  pub words : site.before.now ≡ get_or site.tables.now.states site.from.state []
  pub belongs : BelongsTo t p (point site.tables.now site.from)

-- the same state with another network
abbrev pub point_at : Site → ℕ → Config
point_at site network = point site.tables.now (record { state = site.from.state; network = network })

-- the number leads from the site's configuration to this one, or nowhere
abbrev pub LeadsTo : Task → Site → ℕ → Option Config → Type 0
LeadsTo t site number to = (listing_machine t).step (point site.tables.now site.from) number ≡ to

-- the number carries out this free node, which is compiled
pub record LeadsBy (t : Task) (site : Site) (number : ℕ) (removal : Removal) : Type 0 where
  pub known : IsKnownRemoval site.tables.now.networks removal
  pub performer : IsSome (slot site.tables.now.performers.items removal.node)
  pub leads : LeadsTo t site number (removed t site.tables.now.networks (state_at site.tables.now site.from.state) removal)

module _ (t : Task) (sizes : TreeSizes) (p : Prospects) (site : Site) where
  -- a list got the successors by the numbers below a bound
  abbrev pub HasMade : ℕ → List (Measured Reached) → List (Measured Reached) → Type 0
  HasMade bound old new =
      IsMade (listing_machine t) (meaning site.tables.now) (lies_beyond t sizes p site.horizon)
      (left_by t sizes p site.horizon.measure) site.rank site.from bound old new

  -- the number is the least that leads to a done one
  abbrev pub EndsAt : ℕ → Type 0
  EndsAt number =
      IsLeastDone (IsLiveStep (listing_machine t)) (IsDone (listing_machine t)) (point site.tables.now site.from) number

  -- the next number was taken: it leads to a done configuration, or the list has the successors by the numbers up to it
  pub record Takes (number : ℕ) (is_done : Bool) (old new : List (Measured Reached)) : Type 0 where
    pub goes_on : is_done ≡ false → (first : List (Measured Reached)) → HasMade number first old → HasMade (number + 1) first new
    pub ends : is_done ≡ true → (first : List (Measured Reached)) → HasMade number first old → EndsAt number

  -- all numbers below a bound were taken, or one of them is the least that leads to a done one
  pub record AreTaken (bound : ℕ) (old new : List (Measured Reached)) (done : Option ℕ) : Type 0 where
    pub whole : IfNone done (HasMade bound old new)
    pub ends : IfSome done EndsAt
