-- Calls by numbers, as the mathematics sees them.
use Rattle.std.specs.Prelude.{◌≡◌, ℕ, ◌+◌, ◌≤◌, ◌⊎◌, List, map, Option, option_map, Contains, IfSome, nat_eq}
use Rattle.indexmap.specs.IndexMap.{IndexMap, get}
use Rattle.htn_calls.specs.Calls as model
use Rattle.call_table.specs.Lists.{Lists, list_at, nodes_of}
use Rattle.call_table.specs.Sites.{site_eq}
use Rattle.call_table.specs.declared.call.Exit.{Exit}
use Rattle.call_table.specs.declared.call.Rule.{Rule}
use Rattle.call_table.specs.declared.call.Place.{Place}
use Rattle.call_table.specs.declared.call.Call.{Call}
use Rattle.call_table.specs.declared.call.CallTable.{CallTable}
use Rattle.call_table.specs.declared.site.Site.{Site}

-- an exit and a summary
abbrev pub exit_view : Exit → model.Exit ℕ
exit_view e = record { state = e.state; cost = e.cost }

abbrev pub summary_view : Call → model.Summary ℕ
summary_view c = record { exits = map exit_view c.exits.items; floor = c.floor }

-- the call of a block in a state, if the table has one
abbrev pub call_at : CallTable → ℕ → ℕ → Option Call
call_at t s b = get site_eq t.calls (record { state = s; number = b })

-- the summaries that calls list
abbrev pub listing : CallTable → model.Table ℕ ℕ
listing t s b = option_map summary_view (call_at t s b)

module _ (l : Lists) where
  -- a rule and a place
  abbrev pub rule_view : Rule → model.Rule ℕ ℕ
  rule_view r = record { state = r.state; blocks = list_at l r.blocks }

  abbrev pub place_view : Place → model.Place ℕ ℕ
  place_view p = record { state = p.state; blocks = list_at l p.blocks; distance = p.distance }

  abbrev pub places_view : Call → List (model.Place ℕ ℕ)
  places_view c = map place_view c.places.items

  -- the rules that calls list
  abbrev pub numbers : CallTable → model.Rules ℕ ℕ
  numbers t s b = option_map (λ c. map rule_view c.rules.items) (call_at t s b)

  -- blocks in a state are met at the places of a call
  abbrev pub IsMetAt : Call → ℕ → List ℕ → ℕ → Type 0
  IsMetAt c s blocks steps =
      (c.floor ≤ steps + nodes_of l.counts blocks)
      ⊎ ((p : model.Place ℕ ℕ) × Contains (places_view c) p × (p.state ≡ s) × (p.blocks ≡ blocks) × (p.distance ≤ steps))

-- ## Look-ups

-- what is looked up is a place of the call
abbrev pub ArePlaces : {S : Type 0} → Call → IndexMap Site ℕ S → Type 0
ArePlaces c m = (q : Site) → IfSome (get site_eq m q) (λ d. Contains c.places.items (record { state = q.state; blocks = q.number; distance = d }))

-- what is looked up is an exit of the call
abbrev pub AreExits : {S : Type 0} → Call → IndexMap ℕ ℕ S → Type 0
AreExits c m = (s : ℕ) → IfSome (get nat_eq m s) (λ cost. Contains c.exits.items (record { state = s; cost = cost }))
