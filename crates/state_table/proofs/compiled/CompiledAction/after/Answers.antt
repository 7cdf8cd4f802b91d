use Rattle.std.proofs.Common.{◌≡◌, ◌∙◌, ℕ, List, ap₂}
use Rattle.state_table.specs.Bits.{has, has_changed}
use Rattle.state_table.proofs.Effects.{after_is, after_within}
use Rattle.state_table.proofs.compiled.CompiledAction.after.Goals as goal

-- which bits the next state has: those that are kept, and those that are added
next_has : (c : goal.In_ok-next) → (x : ℕ) → has c.in_ok-next.next x ≡ has_changed c.args.state.now c.args.self.now.deletes.items c.args.self.now.adds.items x
next_has c x =
    c.in_ok-next.ensures.has x
    ∙ ap₂ (λ (deletes adds : List ℕ). has_changed c.args.state.now deletes adds x) c.deref.ensures.value c.deref-2.ensures.value

pub returns-clause-state : goal.returns-clause-state
returns-clause-state c = λ t action table compiled.
    after_is t c.args.state.now c.in_ok-next.next c.args.self.now.deletes.items c.args.self.now.adds.items action compiled.deletes compiled.adds (next_has c) table

pub returns-clause-within : goal.returns-clause-within
returns-clause-within c = λ t action compiled set.
    after_within t c.args.state.now c.in_ok-next.next c.args.self.now.deletes.items c.args.self.now.adds.items action compiled.deletes compiled.adds (next_has c) c.in_ok-next.ensures.bits set
