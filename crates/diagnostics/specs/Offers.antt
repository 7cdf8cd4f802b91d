-- The names that messages ask for: those after `did you mean`.
use Rattle.std.specs.Prelude.{ℕ, Bool, false, if◌then◌else◌, nat_eq, List, [], ◌∷◌, map, codes, Option, Some, None, option_map, unwrap_or}
use Rattle.std.specs.List.{flat_map, starts_with}
use Rattle.diagnostics.specs.declared.diagnostic.Part.{Part}
use Rattle.diagnostics.specs.declared.diagnostic.Part.TheVariants.{Words, Number}
use Rattle.diagnostics.specs.declared.diagnostic.Part.TheVariants as part
use Rattle.diagnostics.specs.declared.diagnostic.Remark.{Remark}

-- the name of a text that a part of a message is
abbrev pub name_in : Part → List (List ℕ)
name_in (Words bytes) = []
name_in (part.Name bytes) = bytes.now ∷ []
name_in (Number n) = []

-- the names of texts in a message, in their order
abbrev pub named : List Part → List (List ℕ)
named parts = flat_map name_in parts

-- the words that a message begins with
abbrev pub opening : List Part → Option (List ℕ)
opening [] = None
opening (Words bytes ∷ parts) = Some bytes.now
opening (part.Name bytes ∷ parts) = None
opening (Number n ∷ parts) = None

-- whether words begin a question for a name
abbrev pub begins_question : List ℕ → Bool
begins_question words = starts_with nat_eq words (codes "did you mean ")

-- whether a message asks `did you mean`
abbrev pub is_question : List Part → Bool
is_question parts = unwrap_or (option_map begins_question (opening parts)) false

-- the names that a message offers: those of a question
abbrev pub offered_by : List Part → List (List ℕ)
offered_by parts = if is_question parts then named parts else []

-- the messages of remarks
abbrev pub messages : List Remark → List (List Part)
messages remarks = map (λ r. r.message.items) remarks

-- the names that remarks offer
abbrev pub offered : List Remark → List (List ℕ)
offered remarks = flat_map offered_by (messages remarks)
