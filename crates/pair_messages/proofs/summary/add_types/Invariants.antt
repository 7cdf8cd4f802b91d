use Rattle.std.proofs.Common.{◌≡◌, take}
use Rattle.std.specs.List.{fold}
use Rattle.hddl_meaning.specs.Mentions.{texts}
use Rattle.hddl_meaning.specs.Names.{with_name}
use Rattle.hddl_names.specs.Texts.{mentions_in}
use Rattle.pair_messages.proofs.summary.add_types.Given as goal

abbrev pub invariant-loop-group : goal.invariant-loop-group
invariant-loop-group l = l.names ≡ fold with_name l.initial.names (texts (mentions_in (take l.group-index l.groups)))
