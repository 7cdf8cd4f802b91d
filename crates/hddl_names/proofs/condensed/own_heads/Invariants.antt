use Rattle.std.proofs.Common.{◌≡◌, ℕ, length}
use Rattle.hddl_names.specs.Heads.{head_at}
use Rattle.hddl_names.proofs.condensed.own_heads.Given as goal

abbrev pub invariant-loop-number : goal.invariant-loop-number
invariant-loop-number l = record {
  size : length l.heads.items ≡ l.number;
  own : (t : ℕ) → head_at l.heads.items t ≡ t;
}
