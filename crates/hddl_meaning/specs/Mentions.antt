-- Names and variables as they are compared: in lower case, each with its place in the text.
use Rattle.std.specs.Prelude.{ℕ, List, Option, map, option_map, Contains}
use Rattle.std.specs.List.{flat_map}
use Rattle.std.specs.Char.{to_ascii_lowercase}
use Rattle.hddl_words.specs.Names.{Name, Variable}
use Rattle.hddl_words.specs.declared.term.NameGroup.{NameGroup}
use Rattle.hddl_words.specs.declared.term.VariableGroup.{VariableGroup}

-- the bytes of a name or a variable in lower case
abbrev pub Text : Type 0
Text = List ℕ

-- bytes in lower case
abbrev pub folded : List ℕ → Text
folded bytes = map to_ascii_lowercase bytes

-- a name in lower case, with its place
pub record Mention : Type 0 where
  pub text : Text
  pub place : ℕ

-- the mention of a name
abbrev pub mention_of : Name → Mention
mention_of x = record { text = folded x.text; place = x.place }

-- the mention of a variable
abbrev pub variable_mention : Variable → Mention
variable_mention x = record { text = folded x.text; place = x.place }

-- a declaration in a typed list, with the type that is written for it
pub record Typed : Type 0 where
  pub mention : Mention
  pub of_type : Option Mention

-- each name of a typed list with the type of its group
abbrev pub typed_names : List NameGroup → List Typed
typed_names groups = flat_map (λ g. map (λ x. record { mention = mention_of x; of_type = option_map mention_of g.of_type }) g.names) groups

-- each variable of a typed list with the type of its group
abbrev pub typed_variables : List VariableGroup → List Typed
typed_variables groups = flat_map (λ g. map (λ x. record { mention = variable_mention x; of_type = option_map mention_of g.of_type }) g.variables) groups

-- the mentions of typed names, without types
abbrev pub mentions_of : List Typed → List Mention
mentions_of ts = map (λ t. t.mention) ts

-- the texts of mentions, without places
abbrev pub texts : List Mention → List Text
texts mentions = map (λ m. m.text) mentions

-- a value is in a list
abbrev pub IsIn : {X : Type 0} → X → List X → Type 0
IsIn x xs = Contains xs x
