-- The variables that are looked at.
use Rattle.std.specs.Prelude.{ℕ, List, map}
use Rattle.std.specs.List.{flat_map}
use Rattle.hddl_words.specs.declared.term.VariableGroup.{VariableGroup}
use Rattle.hddl_meaning.specs.Mentions.{IsIn, Text, folded, mentions_of, texts, typed_variables}
use Rattle.pair_messages.specs.declared.variables.Binding.{Binding}

-- the variables of a typed list, in lower case
abbrev pub group_texts : List VariableGroup → List Text
group_texts groups = texts (mentions_of (typed_variables groups))

-- the variables of a typed list, as they are written
abbrev pub variables_in : List VariableGroup → List (List ℕ)
variables_in groups = flat_map (λ g. map (λ x. x.text) g.variables) groups

-- what is in the one list is in the other
abbrev pub AreAllIn : List Text → List Text → Type 0
AreAllIn these those = (t : Text) → IsIn t these → IsIn t those

-- a variable that has one of these texts
abbrev pub IsBindingIn : List Text → Binding → Type 0
IsBindingIn names b = IsIn (folded b.variable.now.text) names
