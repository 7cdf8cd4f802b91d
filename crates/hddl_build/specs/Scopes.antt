-- Variables in force as their texts.
use Rattle.std.specs.Prelude.{List, map}
use Rattle.hddl_meaning.specs.Mentions.{Text}
use Rattle.hddl_meaning.specs.Uses.{Variable}

-- the texts of variables in force, in their order
abbrev pub texts_of : List Variable → List Text
texts_of variables = map (λ v. v.typed.mention.text) variables
