use Rattle.std.proofs.Common.{◌≡◌, false}
use Rattle.std.specs.List.{AllWithin}
use Rattle.htn_model.specs.Instance.{Instance, instance_eq}
use Rattle.htn_net.proofs.numbers.place_of.Given as goal

-- none so far is the same
abbrev pub invariant-loop-place : goal.invariant-loop-place
invariant-loop-place l = AllWithin (λ (i : Instance). instance_eq i l.instance ≡ false) l.instances 0 l.place
