-- Why a plan file has its verdict, as errors.
use Rattle.std.specs.Prelude.{◌≡◌, ℕ, List, [], ◌∷◌, ◌++◌, map, codes, slice_get, Option, Some, None}
use Rattle.std.specs.List.{AllZip, flat_map}
use Rattle.std.specs.Option.{option_to_list}
use Rattle.diagnostics.specs.declared.diagnostic.Diagnostic.{Diagnostic}
use Rattle.diagnostics.specs.declared.diagnostic.Remark.{Remark}
use Rattle.hddl_meaning.specs.declared.fault.Source.TheVariants as side
use Rattle.pair_messages.specs.Counts.{numbers_of}
use Rattle.pair_messages.specs.Heads as pair
use Rattle.diagnostics.specs.Offers.{named}
use Rattle.plan_causes.specs.declared.structure.WrongIds.{WrongIds}
use Rattle.plan_causes.specs.declared.reason.Cause.{Cause}
use Rattle.plan_causes.specs.declared.reason.Cause.TheVariants as cause
use Rattle.plan_causes.specs.declared.reason.FailedAction.{FailedAction}
use Rattle.plan_causes.specs.declared.literals.FalseLiteral.{FalseLiteral}
use Rattle.plan_messages.specs.Mentions.{defined_at, listed_at}
use Rattle.plan_messages.specs.declared.placed_plan.PlacedPlan.{PlacedPlan}
use Rattle.plan_messages.specs.Errors.{IsError}
use Rattle.plan_messages.specs.Places.{IsOnLineOf, IsOnLineWith}
use Rattle.plan_messages.specs.declared.texts.PlanTexts.{PlanTexts}

-- ## Numbers of lines

-- an error about a line of a number, which its message gives
pub record IsNumberError (p : PlacedPlan) (lines : List (ℕ × ℕ)) (id : ℕ) (d : Diagnostic) : Type 0 where
  pub error : IsError (codes "Structure") d
  pub about : IsOnLineWith p lines id d.about
  pub number : numbers_of d.message.items ≡ id ∷ []

-- one error for each number: at lines that have those that two lines have, that are listed nowhere or that no root
-- reaches, and at lines that list those that are listed twice or that no line has
pub record ExplainsStructure (p : PlacedPlan) (wrong : WrongIds) (unreached : Option ℕ) (ds : List Diagnostic) : Type 0 where
  pub defined_twice : List Diagnostic
  pub listed_twice : List Diagnostic
  pub undefined : List Diagnostic
  pub unlisted : List Diagnostic
  pub last : List Diagnostic
  pub whole : ds ≡ (((defined_twice ++ listed_twice) ++ undefined) ++ unlisted) ++ last
  pub of_defined_twice : AllZip (IsNumberError p (defined_at p)) wrong.defined_twice.items defined_twice
  pub of_listed_twice : AllZip (IsNumberError p (listed_at p)) wrong.listed_twice.items listed_twice
  pub of_undefined : AllZip (IsNumberError p (listed_at p)) wrong.undefined.items undefined
  pub of_unlisted : AllZip (IsNumberError p (defined_at p)) wrong.unlisted.items unlisted
  pub of_unreached : AllZip (IsNumberError p (defined_at p)) (option_to_list unreached) last

-- ## Runs

-- the texts that remarks name
abbrev pub named_in : List Remark → List (List ℕ)
named_in remarks = flat_map (λ r. named r.message.items) remarks

-- the texts of literals
abbrev pub texts_of : List FalseLiteral → List (List ℕ)
texts_of literals = map (λ l. l.text.items) literals

-- An error about the line of an action. Its message and its last remarks name the action and, in turn, exactly the
-- literals that are false.
pub record IsActionError (p : PlacedPlan) (failed : FailedAction) (d : Diagnostic) : Type 0 where
  pub error : IsError (codes "NotExecutable") d
  pub about : IsOnLineOf p (slice_get p.places.now.actions.items failed.number) d.about
  pub before : List Remark
  pub others : List Remark
  pub remarks : d.remarks.items ≡ before ++ others
  pub names : named d.message.items ++ named_in others ≡ failed.text.items ∷ texts_of failed.literals.items

-- an error about the place of a literal of the goal, which its message names
pub record IsGoalError (t : PlanTexts) (l : FalseLiteral) (d : Diagnostic) : Type 0 where
  pub error : IsError (codes "GoalFails") d
  pub about : pair.IsAbout t.pair (Some (record { source = side.Problem; place = l.place })) d.about
  pub names : named d.message.items ≡ l.text.items ∷ []

-- ## All

-- an error of a line without an instance: about the line of a number, or the root line
abbrev pub IsInstanceError : PlacedPlan → Option ℕ → Diagnostic → Type 0
IsInstanceError p (Some id) d = IsError (codes "NoInstance") d × IsOnLineWith p (defined_at p) id d.about
IsInstanceError p None d = IsError (codes "NoInstance") d × IsOnLineOf p (slice_get p.places.now.roots.items 0) d.about

-- an error of lines that can't be arranged: about the root line
abbrev pub IsArrangementError : PlacedPlan → Diagnostic → Type 0
IsArrangementError p d = IsError (codes "NoArrangement") d × IsOnLineOf p (slice_get p.places.now.roots.items 0) d.about

-- just one error
abbrev pub IsAlone : (Diagnostic → Type 0) → List Diagnostic → Type 0
IsAlone IsSo ds = (d : Diagnostic) × (ds ≡ d ∷ []) × IsSo d

-- the errors that say why a plan file has its verdict
abbrev pub Explains : PlanTexts → Cause → List Diagnostic → Type 0
Explains t (cause.Structure wrong unreached) ds = ExplainsStructure t.plan wrong unreached ds
Explains t (cause.NoInstance line) ds = IsAlone (IsInstanceError t.plan line) ds
Explains t (cause.NotExecutable failed) ds = IsAlone (IsActionError t.plan failed) ds
Explains t (cause.GoalFails literals) ds = AllZip (IsGoalError t) literals.items ds
Explains t cause.NoArrangement ds = IsAlone (IsArrangementError t.plan) ds
Explains t cause.Valid ds = ds ≡ []
