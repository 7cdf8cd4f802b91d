-- Methods or actions of a domain, and where their names stand.
use Rattle.std.specs.Prelude.{◌≡◌, ℕ, List, map, Option, option_map, slice_get}
use Rattle.hddl_words.specs.declared.domain.ActionText.{ActionText}
use Rattle.hddl_words.specs.declared.domain.MethodText.{MethodText}
use Rattle.check_report.specs.declared.causes.Schema.{Schema}
use Rattle.check_report.specs.declared.schemas.Schemas.{Schemas}
use Rattle.check_report.specs.declared.schemas.Schemas.TheVariants.{Methods, Actions}

-- where their names stand
abbrev pub places : Schemas → List ℕ
places (Methods methods) = map (λ m. m.name.place) methods.now
places (Actions actions) = map (λ a. a.name.place) actions.now

-- the one at a place of a list of names, by the place of its name
abbrev pub IsSchemaAt : List ℕ → ℕ → Option Schema → Type 0
IsSchemaAt names place o = option_map (λ s. s.name.now.place) o ≡ slice_get names place
