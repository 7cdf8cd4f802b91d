-- The program's places and conditions as the model's.
use Rattle.std.specs.Prelude.{List, map, refl, true, ℕ, ◌∷◌, []}
use Rattle.std.specs.Coded.{Coded, code_by, coded×, coded_ℕ, coded_list}
use Rattle.std.specs.List.{filter}
use Rattle.htn_model.specs.Schema.{Term, EqualitySchema, object}
use Rattle.htn_model.specs.Instances.{Conditions, is_among}
use Rattle.htn_model.specs.TaskCode.{term_code, equality_schema_code}
use Rattle.htn_task.specs.Views.{term_of}
use Rattle.htn_ground.specs.declared.conditions.Place.{Place}

-- a place as the definitions have it: its term and its type
abbrev pub place_of : Place → Term × ℕ
place_of p = (term_of p.term, p.type_number)

-- places as the definitions have them
abbrev pub places_of : List Place → List (Term × ℕ)
places_of places = map place_of places

-- the places of parameters and objects
abbrev pub among : ℕ → List (Term × ℕ) → List (Term × ℕ)
among count places = filter (λ p. is_among count p.0) places

-- conditions as values of the logic, by their parts
abbrev pub conditions_code : Coded Conditions
conditions_code =
    code_by (List ℕ × (List EqualitySchema × List (Term × ℕ)))
    (coded× (coded_list coded_ℕ) (coded× (coded_list equality_schema_code) (coded_list (coded× term_code coded_ℕ))))
    (λ c. (c.parameters, (c.equalities, c.places))) (λ p. record { parameters = p.0; equalities = p.1.0; places = p.1.1 }) (λ _. refl)

-- each term is the object beside it
abbrev pub pinned : List Term → List ℕ → List EqualitySchema
pinned [] objects = []
pinned (x ∷ terms) [] = []
pinned (x ∷ terms) (o ∷ objects) = record { is_positive = true; left = x; right = object o } ∷ pinned terms objects
