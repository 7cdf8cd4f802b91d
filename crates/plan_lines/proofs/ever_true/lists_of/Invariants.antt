use Rattle.std.proofs.Common.{◌≡◌, ◌<◌, Some, ℕ, length, slice_get}
use Rattle.htn_model.specs.Atom.{Atom}
use Rattle.plan_lines.specs.EverTrue.{IsListed}
use Rattle.plan_lines.specs.Turns.{IsEverTrue}
use Rattle.plan_lines.proofs.ever_true.lists_of.Given as goal

abbrev pub invariant-loop-place : goal.invariant-loop-place
invariant-loop-place l = record {
  as_many : length l.lists.atoms.items ≡ length l.lists.slots.keys;
  each : (k : ℕ) (a : Atom) → k < l.place → slice_get l.atoms.keys k ≡ Some a → IsEverTrue l.turns a → IsListed l.lists a;
}
