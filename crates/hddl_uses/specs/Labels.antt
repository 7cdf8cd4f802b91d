-- The names of subtasks in orderings, and the pairs of positions that orderings give.
use Rattle.std.specs.Prelude.{◌≡◌, ℕ, List, [], ◌∷◌, None}
use Rattle.std.specs.List.{position}
use Rattle.hddl_words.specs.Names.{Name}
use Rattle.hddl_words.specs.declared.network.NetworkText.{NetworkText}
use Rattle.htn_order.specs.Closure.{Precedes}
use Rattle.hddl_meaning.specs.declared.fault.Source.{Source}
use Rattle.hddl_meaning.specs.declared.fault.CheckFault.{CheckFault}
use Rattle.hddl_meaning.specs.declared.fault.CheckFault.TheVariants.{UnknownSubtask}
use Rattle.hddl_scope.specs.Findings.{Faulted}
use Rattle.hddl_words.specs.declared.network.OrderingText.{OrderingText}
use Rattle.hddl_meaning.specs.Mentions.{Text, folded}
use Rattle.hddl_meaning.specs.Networks.{pair_of, is_text}
use Rattle.hddl_scope.specs.Numbers.{Entries, number_at}

-- the pair of positions that an ordering gives, if both names are those of subtasks
abbrev pub pairs_of : Entries → OrderingText → List (ℕ × ℕ)
pairs_of numbers o = pair_of (number_at numbers (folded o.before.text)) (number_at numbers (folded o.after.text))

-- each name has the position of the first subtask that has it
abbrev pub IsNumbering : NetworkText → Entries → Type 0
IsNumbering n numbers = (t : Text) → number_at numbers t ≡ position (λ s. is_text t s.label) n.subtasks

-- a name in an ordering that has no number
abbrev pub IsUnknownLabel : Source → Entries → Name → CheckFault → Type 0
IsUnknownLabel text numbers name = Faulted UnknownSubtask text (λ place. (number_at numbers (folded name.text) ≡ None) × (place ≡ name.place))

-- both names of an ordering
abbrev pub names_of : OrderingText → List Name
names_of o = o.before ∷ o.after ∷ []

-- some position leads to itself
abbrev pub Circles : List (ℕ × ℕ) → Type 0
Circles pairs = (a : ℕ) × Precedes pairs a a
