-- Warnings of methods and actions that no plan uses, and the numbers of the lines that count what a plan may use.
use Rattle.std.specs.Prelude.{◌≡◌, ℕ, ◌==◌, ◌&&◌, Bool, true, false, not, if◌then◌else◌, List, [], ◌∷◌, ◌++◌, map, codes, length, Option, Some, None, slice_get, count_by}
use Rattle.std.specs.List.{AllZip, flat_map}
use Rattle.hddl_meaning.specs.declared.fault.At.{At}
use Rattle.hddl_meaning.specs.declared.fault.Source.TheVariants as side
use Rattle.hddl_words.specs.declared.domain.DomainText.{DomainText}
use Rattle.diagnostics.specs.declared.diagnostic.Diagnostic.{Diagnostic}
use Rattle.diagnostics.specs.declared.diagnostic.Severity.TheVariants.{Warning}
use Rattle.pair_messages.specs.Heads as pair
use Rattle.pair_messages.specs.declared.texts.PairTexts.{PairTexts}
use Rattle.never_applied.specs.declared.answer.Cause.{Cause}
use Rattle.never_applied.specs.declared.answer.Cause.TheVariants as cause
use Rattle.never_applied.specs.declared.answer.Findings.{Findings}
use Rattle.never_applied.specs.declared.answer.NoPlan.{NoPlan}
use Rattle.never_applied.specs.declared.answer.Unused.{Unused}

-- ## Warnings

-- the codes of the warnings
abbrev pub never_applied_code : List ℕ
never_applied_code = codes "NeverApplied"

abbrev pub no_plan_code : List ℕ
no_plan_code = codes "NoPlan"

-- a warning with this code about a place of the texts
pub record IsWarningAt (kind : List ℕ) (texts : PairTexts) (at : At) (d : Diagnostic) : Type 0 where
  pub severity : d.severity ≡ Warning
  pub code : d.code.now ≡ kind
  pub about : pair.IsAbout texts (Some at) d.about

-- whether a method or an action is unused for a reason of its own
abbrev pub is_cause : Cause → Bool
is_cause cause.Follows = false
is_cause cause.NoInstance = true
is_cause (cause.Literal place instances) = true
is_cause (cause.EachInstance instances) = true

-- the places of the names of the methods and of the actions
abbrev pub method_places : DomainText → List ℕ
method_places d = map (λ m. m.name.place) d.methods

abbrev pub action_places : DomainText → List ℕ
action_places d = map (λ a. a.name.place) d.actions

-- a place, if there is one
abbrev pub listed : Option ℕ → List ℕ
listed None = []
listed (Some place) = place ∷ []

-- the place of the name of a method or an action, if it is unused for a reason of its own
abbrev pub cause_place : List ℕ → Unused → List ℕ
cause_place names u = if is_cause u.cause then listed (slice_get names u.place) else []

-- the places of the names of those that are unused for a reason of their own
abbrev pub causes : List ℕ → List Unused → List ℕ
causes names unused = flat_map (cause_place names) unused

-- a warning of a method or an action whose name is at this place of the domain
abbrev pub IsNeverAppliedWarning : PairTexts → ℕ → Diagnostic → Type 0
IsNeverAppliedWarning texts place = IsWarningAt never_applied_code texts (record { source = side.Domain; place = place })

-- a warning at this place of the problem that it has no plan
abbrev pub IsNoPlanWarning : PairTexts → ℕ → Diagnostic → Type 0
IsNoPlanWarning texts place = IsWarningAt no_plan_code texts (record { source = side.Problem; place = place })

-- the warning that there is no plan, where there is none
abbrev pub AreNoPlanWarnings : PairTexts → Option NoPlan → List Diagnostic → Type 0
AreNoPlanWarnings texts None ds = ds ≡ []
AreNoPlanWarnings texts (Some why) ds = (place : ℕ) × (d : Diagnostic) × (ds ≡ d ∷ []) × IsNoPlanWarning texts place d

-- the warnings of the findings: of methods, of actions, and of the problem
pub record AreReachWarnings (texts : PairTexts) (f : Findings) (ds : List Diagnostic) : Type 0 where
  pub methods : List Diagnostic
  pub actions : List Diagnostic
  pub last : List Diagnostic
  pub whole : ds ≡ (methods ++ actions) ++ last
  pub of_methods : AllZip (IsNeverAppliedWarning texts) (causes (method_places texts.domain_tree.now) f.methods.items) methods
  pub of_actions : AllZip (IsNeverAppliedWarning texts) (causes (action_places texts.domain_tree.now) f.actions.items) actions
  pub of_problem : AreNoPlanWarnings texts f.no_plan last

-- ## Counts

-- how many methods or actions follow from others
abbrev pub following : List Unused → ℕ
following unused = count_by (λ u. not (is_cause u.cause)) unused

-- methods and actions that follow from others, where there are some
abbrev pub following_counts : ℕ → ℕ → List (List ℕ)
following_counts methods actions = if (methods == 0) && (actions == 0) then [] else ((methods ∷ actions ∷ []) ∷ [])

-- actions, method instances and facts that a plan may use, unless there is no plan
abbrev pub usable_counts : Findings → Option NoPlan → List (List ℕ)
usable_counts f None = (length f.usable.actions.keys ∷ f.usable.instances ∷ f.facts ∷ []) ∷ []
usable_counts f (Some why) = [] ∷ []

-- the numbers of the lines about what a plan may use; none in the line that this is too much to list
abbrev pub reach_counts : Option Findings → List (List ℕ)
reach_counts None = [] ∷ []
reach_counts (Some f) = following_counts (following f.methods.items) (following f.actions.items) ++ usable_counts f f.no_plan
