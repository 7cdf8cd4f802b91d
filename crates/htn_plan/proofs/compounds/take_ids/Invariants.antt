use Rattle.std.proofs.Common.{◌≡◌, take, drop, reverse}
use Rattle.htn_plan.specs.Gathered.{somes}
use Rattle.htn_plan.proofs.compounds.take_ids.Given as goal

abbrev pub invariant-loop-step : goal.invariant-loop-step
invariant-loop-step l = (l.taken.items ≡ somes (take l._step (reverse l.fn.ids.items))) × (reverse l.ids.items ≡ drop l._step (reverse l.fn.ids.items))
