use Rattle.std.proofs.Common.{◌≡◌, take}
use Rattle.std.specs.List.{flat_map}
use Rattle.std.specs.Io.KnownBytes.{Appends}
use Rattle.plan_text.specs.Parts.{action_text}
use Rattle.plan_text.proofs.writer.put_actions.Given as goal

abbrev pub invariant-loop-line : goal.invariant-loop-line
invariant-loop-line g l = record {
  taken : Appends (g.O.Out.contents l.initial.out) (g.O.Out.contents l.out) (flat_map action_text (take l.line-index l.lines));
  works : g.O.Out.has_failed l.out ≡ g.O.Out.has_failed l.initial.out;
}
