use Rattle.std.proofs.Common.{◌≡◌, ◌++◌, map, take}
use Rattle.std.specs.List.{flat_map}
use Rattle.std.specs.Option.{option_map}
use Rattle.hddl_meaning.specs.Mentions.{mention_of}
use Rattle.hddl_meaning.specs.Names.{number_in}
use Rattle.hddl_meaning.specs.Types.{text_or_object}
use Rattle.hddl_build.proofs.types.types_of.Given as goal

abbrev pub invariant-loop-group : goal.invariant-loop-group
invariant-loop-group l =
    l.types.items
    ≡ l.initial.types.items ++ flat_map (λ g. map (λ _. number_in l.vocabulary.types (text_or_object (option_map mention_of g.of_type))) g.variables) (take l.group-index l.groups)
