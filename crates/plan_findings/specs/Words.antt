-- Atoms and literals as they are written.
use Rattle.std.specs.Prelude.{ℕ, Bool, true, false, List, [], ◌∷◌, ◌++◌, map, get_or, codes}
use Rattle.std.specs.List.{flat_map}
use Rattle.htn_model.specs.Atom.{Atom}
use Rattle.htn_model.specs.Literal.{Literal, atom, equality}
use Rattle.htn_model.specs.PlanFile.{Word}
use Rattle.htn_model.specs.Task.{Task, predicate_names}
use Rattle.htn_ground.specs.Naming.{object_name, unnamed}

-- a word after a blank
abbrev pub spaced : Word → List ℕ
spaced word = 32 ∷ word

-- a word and others in brackets
abbrev pub bracketed : Word → List Word → List ℕ
bracketed name words = codes "(" ++ name ++ flat_map spaced words ++ codes ")"

-- the name of a predicate
abbrev pub predicate_name : Task → ℕ → Word
predicate_name t p = get_or (predicate_names t) p unnamed

-- an atom, as `(at truck junction)`
abbrev pub atom_text : Task → Atom → List ℕ
atom_text t a = bracketed (predicate_name t a.predicate) (map (object_name t) a.arguments)

-- what a literal says to be true or false, as `(at truck junction)` or `(= a b)`
abbrev pub core_text : Task → Literal → List ℕ
core_text t (atom positive a) = atom_text t a
core_text t (equality positive x y) = bracketed (codes "=") (object_name t x ∷ object_name t y ∷ [])

-- a text, under `not` unless it is positive
abbrev pub signed : Bool → List ℕ → List ℕ
signed true text = text
signed false text = codes "(not " ++ text ++ codes ")"

-- whether a literal is positive
abbrev pub is_positive : Literal → Bool
is_positive (atom positive a) = positive
is_positive (equality positive x y) = positive

-- a literal, as `(at truck junction)` or `(not (full box))`
abbrev pub literal_text : Task → Literal → List ℕ
literal_text t l = signed (is_positive l) (core_text t l)
