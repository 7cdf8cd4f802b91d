use Rattle.std.proofs.Common.{map, take}
use Rattle.hddl_warnings.specs.Known.{Knows}
use Rattle.hddl_warnings.specs.Tells.{Tells}
use Rattle.hddl_warnings.specs.Warnings.{IsOpposed}
use Rattle.hddl_warnings.specs.Effects.{effect_text}
use Rattle.hddl_warnings.proofs.effects.tell_action.Given as goal

abbrev pub invariant-loop-literal : goal.invariant-loop-literal
invariant-loop-literal l = record {
  known : Knows l.known (map (λ l. effect_text l.is_positive l.atom) (take l.literal-index l.effects));
  told : Tells l.initial.out.items l.out.items (IsOpposed (take l.literal-index l.effects));
}
