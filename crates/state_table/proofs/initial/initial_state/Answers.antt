use Rattle.std.proofs.Common.{◌≡◌, ◌∙◌, ℕ, [], List, ap, ap₂, filter, subst, not, ◌&&◌}
use Rattle.htn_model.specs.State.{State, contains, atoms_of}
use Rattle.htn_model.specs.Atom.{Atom}
use Rattle.state_table.specs.Bits.{has, has_changed}
use Rattle.state_table.specs.Table.{is_fluent}
use Rattle.state_table.specs.Compiled.{AreNumbers}
use Rattle.state_table.proofs.Effects.{initial_is, initial_within}
use Rattle.state_table.proofs.initial.initial_state.Goals as goal

-- the state has exactly the bits of the numbers that were put in
put : (c : goal.After-drop-numbers-2) → (x : ℕ) → has c.in_ok-state.state x ≡ has_changed [] [] c.in_ok-numbers.numbers.items x
put c x =
    c.in_ok-state.ensures.has x ∙ ap₂ (λ (words adds : List ℕ). has_changed words [] adds x) c.new.ensures c.deref.ensures.value

-- the numbers are those of the initial atoms that are fluent
numbers : (c : goal.After-drop-numbers-2) → AreNumbers c.fluent_numbers.new.table c.in_ok-numbers.numbers.items (filter (is_fluent c.args.table.now) (atoms_of c.args.initial.now))
numbers c = subst (λ (l : List Atom). AreNumbers c.fluent_numbers.new.table c.in_ok-numbers.numbers.items (filter (is_fluent c.args.table.now) l)) c.atoms.ensures.value c.in_ok-numbers.ensures.numbers

-- the table's static atoms are the initial ones that aren't fluent
statics : (c : goal.After-drop-numbers-2) → (a : Atom) → contains c.fluent_numbers.new.table.statics a ≡ (contains c.args.initial.now a && not (is_fluent c.args.table.now a))
statics c a = ap (λ (s : State). contains s a) c.in_ok-numbers.ensures.later.statics ∙ c.requires a

pub returns-clause-state : goal.returns-clause-state
returns-clause-state c =
    initial_is c.fluent_numbers.new.table c.args.initial.now c.args.table.now.fluents c.in_ok-numbers.ensures.later.fluents (statics c) c.in_ok-numbers.numbers.items c.in_ok-state.state (numbers c) (put c)
    c.in_ok-numbers.ensures.later.table

pub returns-clause-within : goal.returns-clause-within
returns-clause-within c =
    initial_within c.fluent_numbers.new.table c.args.initial.now c.args.table.now.fluents c.in_ok-numbers.ensures.later.fluents (statics c) c.in_ok-numbers.numbers.items c.in_ok-state.state (numbers c) (put c)
    c.in_ok-state.ensures.bits
