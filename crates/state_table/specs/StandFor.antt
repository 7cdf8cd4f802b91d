-- What numbers of atoms and of states stand for stays as tables grow, and no state has two numbers.
use Rattle.std.specs.Prelude.{◌≡◌, ℕ, List, Some, slice_get}
use Rattle.htn_model.specs.Literal.{Literal, Action}
use Rattle.state_table.specs.declared.compiled.CompiledLiterals.{CompiledLiterals}
use Rattle.state_table.specs.declared.compiled.CompiledAction.{CompiledAction}
use Rattle.state_table.specs.Compiled.{AreCompiled, IsCompiled}
use Rattle.htn_model.specs.PlanFile.{IsWithoutRepeats}
use Rattle.state_table.specs.Numberings.{IsExtension}
use Rattle.state_table.specs.Bits.{has, IsBits}
use Rattle.state_table.specs.Table.{Table, IsTable, IsLater, IsSetOf, state_of}

-- the laws of tables that grow
pub record NumbersStandForStates : Type 0 where
  -- later tables
  pub itself : (t : Table) → IsTable t → IsLater t t
  pub onward : (t u v : Table) → IsLater t u → IsLater u v → IsLater t v
  pub set : (t later : Table) → IsLater t later → (words : List ℕ) → IsSetOf t words → IsSetOf later words
  pub state : (t later : Table) → IsLater t later → (words : List ℕ) → IsSetOf t words
      → state_of later words ≡ state_of t words
  pub literals : (t later : Table) → IsLater t later → (c : CompiledLiterals) (literals : List Literal)
      → AreCompiled t c literals → AreCompiled later c literals
  pub action : (t later : Table) → IsLater t later → (c : CompiledAction) (action : Action)
      → IsCompiled t c action → IsCompiled later c action
  -- sets with the same numbers have the same words
  pub same_set : (v w : List ℕ) → IsBits v → IsBits w → ((x : ℕ) → has v x ≡ has w x) → v ≡ w
  -- a set for each state, and a number for each set
  pub one_set : (t : Table) → IsTable t → (v w : List ℕ) → IsSetOf t v → IsSetOf t w
      → state_of t v ≡ state_of t w → v ≡ w
  pub one_number : (t : Table) → IsTable t → (states : List (List ℕ)) → IsWithoutRepeats states
      → ((i : ℕ) (v : List ℕ) → slice_get states i ≡ Some v → IsSetOf t v)
      → (i j : ℕ) (v w : List ℕ) → slice_get states i ≡ Some v → slice_get states j ≡ Some w
      → state_of t v ≡ state_of t w → i ≡ j
  pub kept : (xs ys : List (List ℕ)) → IsExtension xs ys
      → (i : ℕ) (a : List ℕ) → slice_get xs i ≡ Some a → slice_get ys i ≡ Some a
