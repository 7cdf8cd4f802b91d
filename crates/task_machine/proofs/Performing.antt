-- What a free node makes of a state.
use Rattle.std.proofs.Common.{◌≡◌, ℕ, zero, suc, ◌<◌, ◌≤◌, List, [], ◌∷◌, get_or, length, Bool, true, false, true≢false, cond, Option, Some, None, option_map, option_and_then, sym, ap, ◌∙◌, arith}
use Rattle.std.specs.Prelude.{IsSome}
use Rattle.std.proofs.lemmas.List.{get_or_read}
use Rattle.std.proofs.lemmas.Option.{slice_get_past}
use Rattle.htn_model.specs.Choice.{child_of}
use Rattle.htn_model.specs.Grounding.{problem_of}
use Rattle.htn_model.specs.Literal.{Literal, Action as ModelAction, holds}
use Rattle.htn_model.specs.Machine.{Config}
use Rattle.htn_model.specs.Problem.{Child, GroundTask, precondition, action, perform, perform_action}
use Rattle.htn_model.specs.State.{State}
use Rattle.htn_model.specs.Task.{Task}
use Rattle.htn_walk.specs.Listed.{listing_machine}
use Rattle.network_table.specs.Networks.{children, expansion_at, network_at}
use Rattle.network_table.specs.Numbered.{config_at}
use Rattle.network_table.specs.declared.expansion.Expansion.{Expansion}
use Rattle.network_table.specs.declared.expansion.Expansion.TheVariants.{Decomposed, Performed}
use Rattle.network_table.specs.declared.expansion.Removal.{Removal}
use Rattle.network_table.specs.declared.table.NetworkTable.{NetworkTable}
use Rattle.task_machine.specs.Meaning.{knows, point, state_at}
use Rattle.task_machine.specs.Steps.{rank_count, removed, step_after}
use Rattle.task_machine.specs.Tables.{AreTables, IsPerformer, slot}
use Rattle.task_machine.specs.declared.configuration.Configuration.{Configuration}
use Rattle.task_machine.specs.declared.performer.Performer.{Performer}
use Rattle.task_machine.specs.declared.tables.Tables.{Tables}
use Rattle.task_machine.proofs.Stepping.{ranks_lead}

module _ (t : Task) (networks : NetworkTable) (state : State) (r : Removal) where
  -- the node that goes
  abbrev node : Child
  node = child_of (children networks) r.node

  -- with the network without it
  abbrev to : State → Config
  to next = config_at next (network_at networks r.network)

  -- the same of a node
  abbrev goes : Child → Option Config
  goes x = option_map to (perform (problem_of t) state x)

  -- a step leads on where its literals hold
  step_leads : (literals : List Literal) (hold : Bool) → node ≡ precondition literals → holds state literals ≡ hold
      → option_map to (cond hold (Some state) None) ≡ removed t networks state r
  step_leads literals hold is told =
      sym (ap goes is ∙ ap (λ b. option_map to (cond b (Some state) None)) told)

  -- a step whose literals hold leaves the state
  pub step_goes : (literals : List Literal) → node ≡ precondition literals → holds state literals ≡ true
      → Some (to state) ≡ removed t networks state r
  step_goes literals is hold = step_leads literals true is hold

  -- a step of which one does not
  pub step_stays : (literals : List Literal) → node ≡ precondition literals → holds state literals ≡ false
      → None ≡ removed t networks state r
  step_stays literals is fail = step_leads literals false is fail

  -- an action with an instance
  pub acts : (g : GroundTask) (model : ModelAction) → node ≡ action g → (problem_of t).action_of g ≡ Some model
      → option_map to (perform_action state (Some model)) ≡ removed t networks state r
  acts g model is instance = sym (ap goes is ∙ ap (λ o. option_map to (perform_action state o)) instance)

  -- a node that is never performed
  pub never : perform (problem_of t) state node ≡ None → None ≡ removed t networks state r
  never none = sym (ap (option_map to) none)

-- something stands at a number only within the slots
slot_within : {A : Type 0} (slots : List (Option A)) (n : ℕ) → IsSome (slot slots n) → n < length slots
slot_within [] n some = absurd (true≢false (sym some))
slot_within (x ∷ slots) zero some = omega arith
slot_within (x ∷ slots) (suc n) some = let low : n < length slots = slot_within slots n some in omega arith

module _ (t : Task) (tables : Tables) (own : AreTables t tables) where
  module _ (from : Configuration) (known : knows tables from) (e : Expansion)
      (at : expansion_at tables.networks from.network ≡ Some e) where
    -- where a rank leads
    pub leads_after : (rank : ℕ) → (listing_machine t).step (point tables from) rank
        ≡ step_after t tables.networks (state_at tables from.state) e rank
    leads_after = ranks_lead t tables.networks from.network e (own.sound from.network e known.1 at)
        (state_at tables from.state)

    -- past the last rank nothing is led to
    pub leads_nowhere : (n : ℕ) → rank_count e ≤ n → (listing_machine t).step (point tables from) n ≡ None
    leads_nowhere n past = leads_after n ∙ by e past
      where
        by : (x : Expansion) → rank_count x ≤ n
            → step_after t tables.networks (state_at tables from.state) x n ≡ None
        by (Decomposed position successors) low =
            ap (option_map (λ m. config_at (state_at tables from.state) (network_at tables.networks m)))
            (slice_get_past successors.items n low)
        by (Performed removals) low =
            ap (option_and_then (removed t tables.networks (state_at tables from.state)))
            (slice_get_past removals.items n low)

  -- what stands at the number of a node is its performer
  pub performer_of : (n : ℕ) (found : Option Performer) (p : Performer) → IsSome (slot tables.performers.items n)
      → found ≡ get_or tables.performers.items n found → found ≡ Some p
      → IsPerformer t tables.atoms (child_of (children tables.networks) n) p
  performer_of n found p some read is =
      let inside = slot_within tables.performers.items n some in
      (own.performers n p (sym (get_or_read tables.performers.items n found inside read None) ∙ is)).1

  module _ (i : ℕ) (states : List (List ℕ)) (words : List ℕ) (inside : i < length tables.states)
      (same : states ≡ tables.states) (read : words ≡ get_or states i words) where
    -- the words of a state that has a number
    pub words_at : words ≡ get_or tables.states i []
    words_at = get_or_read tables.states i words inside (read ∙ ap (λ l. get_or l i words) same) []
