-- What is known of the variables in force.
use Rattle.std.specs.Prelude.{◌≡◌, ◌≤◌, ℕ, List, map, take, length, slice_get, Option, Some}
use Rattle.std.specs.List.{position}
use Rattle.hddl_meaning.specs.Mentions.{Text}
use Rattle.hddl_meaning.specs.Items.{variable_mentions}
use Rattle.hddl_meaning.specs.Uses.{Variable}
use Rattle.hddl_scope.specs.Findings.{Finds}
use Rattle.hddl_scope.specs.Numbers.{Entries, number_at}
use Rattle.hddl_scope.specs.Repeats.{IsRepeatOfFirst}
use Rattle.hddl_scope.specs.Scopes.{has_text}
use Rattle.hddl_scope.specs.declared.in_force.Entry.{Entry}

-- the position of the first variable of each text, and one whose text stood before
pub record AreNoted (known : Entries) (variables : List Variable) (repeat : Option ℕ) : Type 0 where
  pub positions : (t : Text) → number_at known t ≡ position (has_text t) variables
  pub repeats : Finds (IsRepeatOfFirst (variable_mentions variables)) repeat

-- the variables of the entries, in their order
abbrev pub variables_of : List Entry → List Variable
variables_of entries = map (λ e. e.variable) entries

-- each entry has what was known before it
pub record IsScope (entries : List Entry) (known : Entries) (repeat : Option ℕ) : Type 0 where
  pub whole : AreNoted known (variables_of entries) repeat
  pub before : (k : ℕ) (e : Entry) → slice_get entries k ≡ Some e → AreNoted (take e.texts known) (variables_of (take k entries)) e.repeat
  pub rising : (k j : ℕ) (e f : Entry) → slice_get entries k ≡ Some e → slice_get entries j ≡ Some f → k ≤ j → e.texts ≤ f.texts
  pub within : (k : ℕ) (e : Entry) → slice_get entries k ≡ Some e → e.texts ≤ length known
