-- The parts of conditions.
use Rattle.std.specs.Prelude.{◌≡◌, List, ◌++◌, map}
use Rattle.std.specs.List.{flat_map}
use Rattle.hddl_words.specs.declared.condition.Condition.{Condition, fold-Condition}
use Rattle.hddl_words.specs.declared.term.AtomText.{AtomText}
use Rattle.hddl_words.specs.declared.term.Term.{Term}
use Rattle.hddl_words.specs.declared.term.VariableGroup.{VariableGroup}
use Rattle.hddl_meaning.specs.Uses.{Variable, Use, TermUse, Quantifier, Schema, atoms_in, atoms_step, quantifiers_in, quantifiers_step, sides_in, sides_step}
use Rattle.hddl_warnings.specs.declared.parts.Parts.{Parts}

-- the atoms of parts
abbrev pub atoms : Parts → List AtomText
atoms parts = map (λ x. x.now) parts.atoms.items

-- the sides of parts
abbrev pub sides : Parts → List Term
sides parts = map (λ x. x.now) parts.sides.items

-- the quantified variables of parts
abbrev pub groups : Parts → List VariableGroup
groups parts = map (λ x. x.now) parts.groups.items

-- the atoms in a condition
abbrev pub condition_atoms : List Variable → Condition → List AtomText
condition_atoms variables c = map (λ u. u.atom) (fold-Condition (List Variable → List Use) atoms_step c variables)

-- the sides of equalities in a condition
abbrev pub condition_sides : List Variable → Condition → List Term
condition_sides variables c = map (λ u. u.term) (fold-Condition (List Variable → List TermUse) sides_step c variables)

-- the quantified variables in a condition
abbrev pub condition_groups : List Variable → Condition → List VariableGroup
condition_groups variables c = flat_map (λ q. q.own) (fold-Condition (List Variable → List Quantifier) quantifiers_step c variables)

-- the parts of conditions at the end, whatever variables are in force
pub record AddsEach (old new : Parts) (conditions : List Condition) : Type 0 where
  pub atoms : (v : List Variable) → atoms new ≡ atoms old ++ flat_map (condition_atoms v) conditions
  pub sides : (v : List Variable) → sides new ≡ sides old ++ flat_map (condition_sides v) conditions
  pub groups : (v : List Variable) → groups new ≡ groups old ++ flat_map (condition_groups v) conditions

-- the parts of one condition were added
pub record AddsParts (old new : Parts) (c : Condition) : Type 0 where
  pub atoms : (v : List Variable) → atoms new ≡ atoms old ++ condition_atoms v c
  pub sides : (v : List Variable) → sides new ≡ sides old ++ condition_sides v c
  pub groups : (v : List Variable) → groups new ≡ groups old ++ condition_groups v c

-- the parts of conditions were added, as the warnings define them
pub record AddsConditions (old new : Parts) (conditions : List Condition) : Type 0 where
  pub atoms : (v : List Variable) → atoms new ≡ atoms old ++ map (λ u. u.atom) (atoms_in v conditions)
  pub sides : (v : List Variable) → sides new ≡ sides old ++ map (λ u. u.term) (sides_in v conditions)
  pub groups : (v : List Variable) → groups new ≡ groups old ++ flat_map (λ q. q.own) (quantifiers_in v conditions)

-- the parts of conditions
pub record HasParts (parts : Parts) (conditions : List Condition) : Type 0 where
  pub atoms : (v : List Variable) → atoms parts ≡ map (λ u. u.atom) (atoms_in v conditions)
  pub sides : (v : List Variable) → sides parts ≡ map (λ u. u.term) (sides_in v conditions)

-- the atoms, the tasks and the sides of a method or an action
pub record IsOfSchema (parts : Parts) (s : Schema) : Type 0 where
  pub atoms : atoms parts ≡ map (λ u. u.atom) (s.atoms ++ s.decomposed ++ s.subtasks)
  pub sides : sides parts ≡ map (λ u. u.term) s.sides
