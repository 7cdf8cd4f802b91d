-- Where the literals of a precondition or a goal are written.
use Rattle.std.specs.Prelude.{◌≡◌, ℕ, List, [], ◌∷◌, ◌++◌, map}
use Rattle.std.specs.List.{flat_map}
use Rattle.hddl_words.specs.declared.condition.Condition.{Condition, fold-Condition}
use Rattle.hddl_words.specs.declared.condition.Condition.TheOpen.{Condition-F}
use Rattle.hddl_words.specs.declared.term.Term.{Term}
use Rattle.hddl_words.specs.declared.term.Term.TheVariants.{Variable, Object}
use Rattle.htn_model.specs.PlanFile.{IsIn}

-- where a term stands
abbrev pub term_place : Term → ℕ
term_place (Variable variable) = variable.place
term_place (Object name) = name.place

-- a literal stands where its name does, an equality where its first term does; a `forall` has its body's places
abbrev pub places_step : Condition-F (List ℕ) → List ℕ
places_step (Condition-F.Literal l) = l.atom.name.place ∷ []
places_step (Condition-F.Equality e) = term_place e.left ∷ []
places_step (Condition-F.Forall groups body) = flat_map (λ places. places) body

-- where the literals of a condition stand
abbrev pub places_in : Condition → List ℕ
places_in = fold-Condition (List ℕ) places_step

-- where those of some conditions stand
abbrev pub places_of : List Condition → List ℕ
places_of conditions = flat_map (λ places. places) (map places_in conditions)

-- each number of a list stands in another one
pub record AreAmong (places all : List ℕ) : Type 0 where
  pub each : (place : ℕ) → IsIn place places → IsIn place all

-- numbers of another list are added
pub record AddsAmong (old new all : List ℕ) : Type 0 where
  pub added : List ℕ
  pub is : new ≡ old ++ added
  pub among : AreAmong added all
