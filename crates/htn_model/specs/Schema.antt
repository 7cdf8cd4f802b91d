-- Schemas: atoms, tasks, formulas and networks over the parameters of a method, an action or the initial network.
use Rattle.std.specs.Prelude.{ℕ, Bool, List, [], ◌∷◌}
use Rattle.htn_model.specs.Problem.{Order}

-- the bytes of a name, in lower case
abbrev pub Name : Type 0
Name = List ℕ

-- a parameter or a quantified variable by its place, or an object by its number
pub data Term : Type 0 where
  parameter : ℕ → Term
  object : ℕ → Term

-- a predicate at terms
pub record AtomSchema : Type 0 where
  pub predicate : ℕ
  pub arguments : List Term

-- two terms that are to be the same object, or different ones
pub record EqualitySchema : Type 0 where
  pub is_positive : Bool
  pub left : Term
  pub right : Term

-- a compound task or an action at terms
pub record TaskSchema : Type 0 where
  pub name : ℕ
  pub arguments : List Term

mutual
  -- one part of a conjunction. The variables of a `for_all`, given by their types, are numbered on after
  -- the parameters and the variables of each `for_all` around it
  pub data Formula : Type 0 where
    literal : (is_positive : Bool) → AtomSchema → Formula
    equation : EqualitySchema → Formula
    for_all : (types : List ℕ) → (body : Formulas) → Formula

  -- a list of formulas
  pub data Formulas : Type 0 where
    no_formulas : Formulas
    formula : Formula → Formulas → Formulas

-- the formulas as a list, and back
abbrev pub list_of : Formulas → List Formula
list_of no_formulas = []
list_of (formula f fs) = f ∷ list_of fs

-- a list of formulas as a body
abbrev pub formulas_of : List Formula → Formulas
formulas_of [] = no_formulas
formulas_of (f ∷ fs) = formula f (formulas_of fs)

-- the subtasks in declared order, and their closed order
pub record NetworkSchema : Type 0 where
  pub subtasks : List TaskSchema
  pub order : Order
