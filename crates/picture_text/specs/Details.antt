-- What a solution says of the lines of a plan, beyond what the plan's file says.
use Rattle.std.specs.Prelude.{ℕ, zero, suc, ◌-◌, nat_lt, if◌then◌else◌, List, [], ◌∷◌, ◌++◌, map, codes, Option, Some, None, slice_get}
use Rattle.std.specs.List.{flat_map}
use Rattle.std.specs.Fmt.{decimal}
use Rattle.htn_model.specs.PlanFile.{Word}
use Rattle.diagnostics.specs.Shown.{shown}
use Rattle.plan_text.specs.Forest.{lists_of}
use Rattle.picture_text.specs.declared.detail.Setting.{Setting}
use Rattle.picture_text.specs.declared.detail.Condition.{Condition}
use Rattle.picture_text.specs.declared.detail.Detail.{Detail}
use Rattle.picture_text.specs.Words.{spaced}

-- what is said of the line with a number, if anything is: the first detail is that of the first line behind the actions
abbrev pub detail_at : Option (List Detail) → ℕ → ℕ → Option Detail
detail_at None actions number = None
detail_at (Some details) actions number = if nat_lt number actions then None else slice_get details (number - actions)

-- the parameters of a line's method that its task does not show
abbrev pub settings_of : Option Detail → List Setting
settings_of None = []
settings_of (Some detail) = detail.settings.items

-- the precondition of a line's method
abbrev pub condition_of : Option Detail → Option Condition
condition_of None = None
condition_of (Some detail) = detail.condition

-- a parameter and its value, with a sign between the two
abbrev pub setting_words : List ℕ → Setting → List ℕ
setting_words sign setting = map shown setting.name.items ++ (sign ++ map shown setting.object.items)

-- words with a blank between any two
abbrev pub joined : List Word → List ℕ
joined [] = []
joined (word ∷ words) = map shown word ++ flat_map spaced words

-- when a precondition is tested: at the start, or after the last of the actions that are carried out before it
abbrev pub moment : ℕ → List ℕ
moment zero = codes " at the start"
moment (suc last) = codes " after " ++ decimal last

-- a precondition, and when it is tested
abbrev pub condition_words : Condition → List ℕ
condition_words condition = joined (lists_of condition.literals.items) ++ moment condition.gap
