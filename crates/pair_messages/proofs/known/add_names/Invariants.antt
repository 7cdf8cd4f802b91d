use Rattle.std.proofs.Common.{◌≡◌, take}
use Rattle.std.specs.List.{fold}
use Rattle.hddl_meaning.specs.Mentions.{texts, mentions_of, typed_names}
use Rattle.hddl_meaning.specs.Names.{with_name}
use Rattle.pair_messages.proofs.known.add_names.Given as goal

abbrev pub invariant-loop-group : goal.invariant-loop-group
invariant-loop-group l = l.names ≡ fold with_name l.initial.names (texts (mentions_of (typed_names (take l.group-index l.groups))))
