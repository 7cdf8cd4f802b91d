use Rattle.std.proofs.Common.{◌≡◌, ◌&&◌, ℕ, eqb, not, take}
use Rattle.std.specs.List.{list_any}
use Rattle.state_table.specs.Bits.{has, AreSmall, has_changed}
use Rattle.state_table.proofs.bit_state.BitState.changed.Given as goal

abbrev pub invariant-loop-number : goal.invariant-loop-number
invariant-loop-number l = AreSmall l.words.items × ((x : ℕ) → has l.words.items x ≡ (has l.self x && not (list_any (eqb x) (take l.number-index l.deletes))))

abbrev pub invariant-loop-number-2 : goal.invariant-loop-number-2
invariant-loop-number-2 l = AreSmall l.words.items × ((x : ℕ) → has l.words.items x ≡ has_changed l.self l.deletes (take l.number-index l.adds) x)
