-- Declarations at a place, and the place of a term.
use Rattle.std.specs.Prelude.{◌≡◌, ℕ, List, Some}
use Rattle.hddl_words.specs.Names.{Name, Variable}
use Rattle.hddl_words.specs.declared.term.NameGroup.{NameGroup}
use Rattle.hddl_words.specs.declared.term.Term.{Term}
use Rattle.hddl_words.specs.declared.term.Term.TheVariants as term
use Rattle.hddl_words.specs.declared.term.VariableGroup.{VariableGroup}
use Rattle.hddl_meaning.specs.Mentions.{IsIn}

-- the place of a term
abbrev pub term_place : Term → ℕ
term_place (term.Variable x) = x.place
term_place (term.Object x) = x.place

-- a name of a typed list
abbrev pub DeclaresName : List NameGroup → ℕ → Type 0
DeclaresName groups place = (g : NameGroup) × IsIn g groups × ((n : Name) × IsIn n g.names × (n.place ≡ place))

-- a type that is written in a typed list
abbrev pub WritesType : List NameGroup → ℕ → Type 0
WritesType groups place = (g : NameGroup) × IsIn g groups × ((n : Name) × (g.of_type ≡ Some n) × (n.place ≡ place))

-- a variable of a typed list
abbrev pub DeclaresVariable : List VariableGroup → ℕ → Type 0
DeclaresVariable groups place = (g : VariableGroup) × IsIn g groups × ((x : Variable) × IsIn x g.variables × (x.place ≡ place))
