-- Literals and actions by the numbers of their atoms.
use Rattle.std.specs.Prelude.{◌≡◌, ℕ, Bool, not, ◌&&◌, List, Some, map, slice_get}
use Rattle.std.specs.List.{list_all}
use Rattle.htn_model.specs.Atom.{Atom}
use Rattle.htn_model.specs.State.{atoms_of}
use Rattle.htn_model.specs.Literal.{Literal, Action, holds, literal_holds}
use Rattle.state_table.specs.Bits.{has}
use Rattle.state_table.specs.Table.{Table, IsLater, state_of}
use Rattle.state_table.specs.declared.compiled.CompiledLiterals.{CompiledLiterals}
use Rattle.state_table.specs.declared.compiled.CompiledAction.{CompiledAction}
use Rattle.state_table.specs.declared.literal.CompiledLiteral.{CompiledLiteral}
use Rattle.state_table.specs.declared.literal.CompiledLiteral.TheVariants.{Decided, Positive, Negative}

-- whether a compiled literal holds in a set
abbrev pub is_met : List ℕ → CompiledLiteral → Bool
is_met words (Decided holds_always) = holds_always
is_met words (Positive number) = has words number
is_met words (Negative number) = not (has words number)

-- a compiled literal holds in a set exactly where the literal holds in the state that the set stands for, by this table
-- and later ones
abbrev pub IsCompiledLiteral : Table → CompiledLiteral → Literal → Type 0
IsCompiledLiteral t c l = (later : Table) → IsLater t later → (words : List ℕ) → is_met words c ≡ literal_holds (state_of later words) l

-- whether the compiled literals hold in a set
abbrev pub all_hold : List ℕ → CompiledLiterals → Bool
all_hold words c =
    not c.is_never && (list_all (has words) c.positives.items && list_all (λ x. not (has words x)) c.negatives.items)

-- compiled literals hold in a set exactly where the literals hold in the state that the set stands for, by this table
-- and later ones
abbrev pub AreCompiled : Table → CompiledLiterals → List Literal → Type 0
AreCompiled t c literals =
    (later : Table) → IsLater t later → (words : List ℕ) → all_hold words c ≡ holds (state_of later words) literals

-- the numbers of these atoms, in their order
abbrev pub AreNumbers : Table → List ℕ → List Atom → Type 0
AreNumbers t numbers atoms = map (slice_get t.atoms) numbers ≡ map Some atoms

-- its literals compiled, and its effects by their numbers
pub record IsCompiled (t : Table) (c : CompiledAction) (action : Action) : Type 0 where
  pub precondition : AreCompiled t c.precondition action.precondition
  pub deletes : AreNumbers t c.deletes.items (atoms_of action.deletes)
  pub adds : AreNumbers t c.adds.items (atoms_of action.adds)
