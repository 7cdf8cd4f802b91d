-- The program's formulas as the model's.
use Rattle.std.specs.Prelude.{List, map}
use Rattle.htn_model.specs.Schema as model
use Rattle.htn_task.specs.declared.formula.Formula.{Formula, fold-Formula}
use Rattle.htn_task.specs.declared.formula.Formula.TheOpen.{Formula-F}

-- one level, with each formula of a body already seen as the model's
abbrev pub formula_step : Formula-F model.Formula → model.Formula
formula_step (Formula-F.Literal positive a) = model.literal positive a
formula_step (Formula-F.Equation e) = model.equation e
formula_step (Formula-F.ForAll types body) = model.for_all types.items (model.formulas_of body.items)

-- a formula as the model has it, from its leaves up
abbrev pub formula_of : Formula → model.Formula
formula_of = fold-Formula model.Formula formula_step

-- each formula as the model has it
abbrev pub formulas_view : List Formula → List model.Formula
formulas_view formulas = map formula_of formulas
