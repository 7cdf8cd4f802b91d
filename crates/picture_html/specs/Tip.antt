-- What a solution says of a line, as it is shown where one points at its row.
use Rattle.std.specs.Prelude.{ℕ, Bool, false, List, [], ◌++◌, codes, Option, Some, None}
use Rattle.std.specs.List.{flat_map, list_any}
use Rattle.std.specs.Option.{is_some}
use Rattle.htn_model.specs.PlanFile.{Word}
use Rattle.plan_text.specs.Forest.{lists_of}
use Rattle.picture_text.specs.declared.detail.Setting.{Setting}
use Rattle.picture_text.specs.declared.detail.Condition.{Condition}
use Rattle.picture_text.specs.declared.detail.Detail.{Detail}
use Rattle.picture_text.specs.Details.{moment}
use Rattle.picture_html.specs.Label.{clean}

-- a parameter and its value, on a line of their own
abbrev pub setting_line : Setting → List ℕ
setting_line setting = clean setting.name.items ++ (codes " = " ++ (clean setting.object.items ++ codes "\n"))

-- a literal on a line of its own
abbrev pub literal_line : Word → List ℕ
literal_line literal = clean literal ++ codes "\n"

-- when the precondition of a line's method is tested, and its literals, if it has one
abbrev pub condition_lines : Option Condition → List ℕ
condition_lines None = []
condition_lines (Some condition) = codes "precondition" ++ (moment condition.gap ++ (codes ":\n" ++ flat_map literal_line (lists_of condition.literals.items)))

-- what a solution says of a line, if anything is known of it
abbrev pub tip : Option Detail → List ℕ
tip None = []
tip (Some detail) = codes "<span class=\"tip\">" ++ (flat_map setting_line detail.settings.items ++ (condition_lines detail.condition ++ codes "</span>"))

-- whether a line's method has a precondition
abbrev pub is_tested : Detail → Bool
is_tested detail = is_some detail.condition

-- whether that of some line has one
abbrev pub are_tested : Option (List Detail) → Bool
are_tested None = false
are_tested (Some details) = list_any is_tested details
