use Rattle.std.proofs.Common.{◌≡◌, ℕ, Option, false}
use Rattle.std.specs.List.{AllWithin}
use Rattle.htn_model.specs.Instance.{Instance, instance_eq}
use Rattle.htn_net.proofs.numbers.place_among.Given as goal

-- none so far is the same
abbrev pub invariant-loop-place : goal.invariant-loop-place
invariant-loop-place l = AllWithin (λ (p : Option ℕ × Instance). instance_eq p.1 l.instance ≡ false) l.numbered 0 l.place
