-- The variables that a typed list puts in force.
use Rattle.std.specs.Prelude.{Bool, List, map, option_map}
use Rattle.hddl_words.specs.declared.term.VariableGroup.{VariableGroup}
use Rattle.hddl_meaning.specs.Mentions.{Text, mention_of, variable_mention}
use Rattle.hddl_meaning.specs.Names.{is_same_text}
use Rattle.hddl_meaning.specs.Uses.{Variable}

-- the variables of one group, all of its type
abbrev pub group_variables : Bool → VariableGroup → List Variable
group_variables quantified g =
    map (λ x. record { typed = record { mention = variable_mention x; of_type = option_map mention_of g.of_type }; is_quantified = quantified }) g.variables

-- whether a variable has that text
abbrev pub has_text : Text → Variable → Bool
has_text text v = is_same_text text v.typed.mention.text
