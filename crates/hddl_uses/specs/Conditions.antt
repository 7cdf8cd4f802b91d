-- What one part of a condition uses and declares.
use Rattle.std.specs.Prelude.{List, ◌++◌, map}
use Rattle.std.specs.List.{flat_map}
use Rattle.hddl_words.specs.declared.condition.Condition.{Condition, fold-Condition}
use Rattle.hddl_meaning.specs.Uses.{Variable, Use, TermUse, Quantifier, quantifiers_step, atoms_step, sides_step}
use Rattle.hddl_uses.specs.Parts.{Part, Atom, Side, quantifier_parts}

-- each `forall` in a condition with the variables in force around it
abbrev pub quantifiers_of : List Variable → Condition → List Quantifier
quantifiers_of variables c = fold-Condition (List Variable → List Quantifier) quantifiers_step c variables

-- each atom in a condition with the variables in force at it
abbrev pub atoms_of : List Variable → Condition → List Use
atoms_of variables c = fold-Condition (List Variable → List Use) atoms_step c variables

-- each side of an equality in a condition with the variables in force at it
abbrev pub sides_of : List Variable → Condition → List TermUse
sides_of variables c = fold-Condition (List Variable → List TermUse) sides_step c variables

-- what has to fit at each `forall` in a condition
abbrev pub quantifier_parts_of : List Variable → Condition → List Part
quantifier_parts_of variables c = flat_map quantifier_parts (quantifiers_of variables c)

-- what has to fit at each atom in a condition
abbrev pub atom_parts_of : List Variable → Condition → List Part
atom_parts_of variables c = map Atom (atoms_of variables c)

-- what has to fit at each side of an equality in a condition
abbrev pub side_parts_of : List Variable → Condition → List Part
side_parts_of variables c = map Side (sides_of variables c)

-- what one condition uses and declares
abbrev pub condition_parts : List Variable → Condition → List Part
condition_parts variables c = atom_parts_of variables c ++ (quantifier_parts_of variables c ++ side_parts_of variables c)
