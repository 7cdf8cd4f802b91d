-- How many variables are in force at once.
use Rattle.std.specs.Prelude.{◌≡◌, ℕ, ◌+◌, ◌≤◌, ◌&&◌, Bool, true, nat_le, List, length}
use Rattle.std.specs.List.{list_all}
use Rattle.hddl_words.specs.declared.term.VariableGroup.{VariableGroup}
use Rattle.hddl_words.specs.declared.condition.Condition.{Condition, fold-Condition}
use Rattle.hddl_words.specs.declared.condition.Condition.TheOpen.{Condition-F}
use Rattle.hddl_meaning.specs.Building.{variables_of}

-- the most variables whose places fit sixteen bits
abbrev pub most_in_force : ℕ
most_in_force = 65536

-- whether the limit holds everywhere in a condition that has n variables in force around it
abbrev pub fits_step : Condition-F (ℕ → Bool) → ℕ → Bool
fits_step (Condition-F.Literal l) n = true
fits_step (Condition-F.Equality e) n = true
fits_step (Condition-F.Forall groups body) n =
    nat_le (n + length (variables_of groups)) most_in_force && list_all (λ part. part (n + length (variables_of groups))) body

-- no more variables than the limit are in force anywhere in a condition, where there are n around it
abbrev pub fits : ℕ → Condition → Bool
fits n c = fold-Condition (ℕ → Bool) fits_step c n

-- no more variables than the limit are in force anywhere in these conditions, where there are n around them
abbrev pub all_fit : ℕ → List Condition → Bool
all_fit n conditions = list_all (fits n) conditions

-- no more variables than the limit are in force anywhere in the conditions of a schema
pub record IsBounded (groups : List VariableGroup) (conditions : List Condition) : Type 0 where
  pub parameters : length (variables_of groups) ≤ most_in_force
  pub inside : all_fit (length (variables_of groups)) conditions ≡ true
