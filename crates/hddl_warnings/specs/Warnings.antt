-- When a domain and a problem have a warning: two lines for each kind, over flat lists of what is used and declared.
use Rattle.std.specs.Prelude.{◌≡◌, ◌⊎◌, ℕ, not, List, [], ◌∷◌, ◌++◌, map, Option, Some, IsSomeAnd}
use Rattle.hddl_words.specs.declared.condition.LiteralText.{LiteralText}
use Rattle.hddl_words.specs.declared.domain.ActionText.{ActionText}
use Rattle.hddl_words.specs.declared.domain.DomainText.{DomainText}
use Rattle.hddl_words.specs.declared.problem.ProblemText.{ProblemText}
use Rattle.hddl_meaning.specs.Mentions.{Text, Mention, IsIn, folded, mention_of, mentions_of, texts, typed_names, typed_variables}
use Rattle.hddl_meaning.specs.Names.{object}
use Rattle.hddl_meaning.specs.Uses.{Schema, domain_schemas}
use Rattle.hddl_meaning.specs.declared.fault.Source.TheVariants as source
use Rattle.hddl_warnings.specs.Used.{decomposed_names, name_texts, predicates_of, set_atoms, subtask_names, term_texts, tested_atoms, used_types}
use Rattle.hddl_warnings.specs.Effects.{atom_text}
use Rattle.hddl_warnings.specs.declared.warning.WarningKind.{WarningKind}
use Rattle.hddl_warnings.specs.declared.warning.WarningKind.TheVariants as kind
use Rattle.hddl_warnings.specs.declared.warning.Warning.{Warning}

-- a warning at a place of the domain
abbrev pub in_domain : WarningKind → ℕ → Warning
in_domain k place = record { kind = k; at = record { source = source.Domain; place = place } }

-- a warning at a place of the problem
abbrev pub in_problem : WarningKind → ℕ → Warning
in_problem k place = record { kind = k; at = record { source = source.Problem; place = place } }

-- a declared name that isn't among those that are used
abbrev pub IsUnused : WarningKind → List Mention → List Text → Warning → Type 0
IsUnused k declared used w = (m : Mention) × IsIn m declared × (IsIn m.text used → ⊥) × (w ≡ in_domain k m.place)

-- a declared name that is among the first, and not among the second
abbrev pub IsUsedBut : WarningKind → List Mention → List Text → List Text → Warning → Type 0
IsUsedBut k declared used wanted w =
    (m : Mention) × IsIn m declared × IsIn m.text used × (IsIn m.text wanted → ⊥) × (w ≡ in_domain k m.place)

-- the problem names another domain
abbrev pub IsOtherDomain : DomainText → ProblemText → Warning → Type 0
IsOtherDomain d p w = (folded p.domain.text ≡ folded d.name.text → ⊥) × (w ≡ in_problem kind.OtherDomain p.domain.place)

-- a parameter of a method or action that is none of its terms
abbrev pub IsUnusedParameter : DomainText → Warning → Type 0
IsUnusedParameter d w =
    (s : Schema) × IsIn s (domain_schemas d) × IsUnused kind.UnusedParameter (mentions_of (typed_variables s.parameters)) (term_texts s) w

-- an effect after one of the opposite sign on the same atom
abbrev pub IsOpposed : List LiteralText → Warning → Type 0
IsOpposed effect w =
    (before : List LiteralText) × (l : LiteralText) × (after : List LiteralText) × (m : LiteralText) × (effect ≡ before ++ l ∷ after) × IsIn m before
    × (m.is_positive ≡ not l.is_positive) × (atom_text m.atom ≡ atom_text l.atom) × (w ≡ in_domain kind.AddedAndDeleted l.atom.name.place)

-- an action adds and deletes one atom
abbrev pub IsAddedAndDeleted : DomainText → Warning → Type 0
IsAddedAndDeleted d w = (a : ActionText) × IsIn a d.actions × IsOpposed a.effect w

-- a task that is a subtask, and that no method decomposes
abbrev pub IsNoMethod : DomainText → Option ProblemText → Warning → Type 0
IsNoMethod d p w =
    IsUsedBut kind.NoMethod (map (λ x. mention_of x.name) d.tasks) (name_texts (subtask_names d p)) (name_texts (decomposed_names d)) w

-- a type that is written for nothing; `object`, which is above each type, is used
abbrev pub IsUnusedType : DomainText → ProblemText → Warning → Type 0
IsUnusedType d p w = IsUnused kind.UnusedType (mentions_of (typed_names d.types)) (name_texts (used_types d p) ++ object ∷ []) w

-- a predicate that no atom names
abbrev pub IsUnusedPredicate : DomainText → ProblemText → Warning → Type 0
IsUnusedPredicate d p w =
    IsUnused kind.UnusedPredicate (map (λ x. mention_of x.name) d.predicates) (predicates_of (tested_atoms d p ++ set_atoms d p)) w

-- a predicate that an atom names, but none of a precondition or of the goal
abbrev pub IsUntestedPredicate : DomainText → ProblemText → Warning → Type 0
IsUntestedPredicate d p w =
    IsUsedBut kind.UntestedPredicate (map (λ x. mention_of x.name) d.predicates) (predicates_of (tested_atoms d p ++ set_atoms d p))
    (predicates_of (tested_atoms d p)) w

-- a task that is no subtask
abbrev pub IsUnusedTask : DomainText → ProblemText → Warning → Type 0
IsUnusedTask d p w = IsUnused kind.UnusedTask (map (λ x. mention_of x.name) d.tasks) (name_texts (subtask_names d (Some p))) w

-- an action that is no subtask
abbrev pub IsUnusedAction : DomainText → ProblemText → Warning → Type 0
IsUnusedAction d p w = IsUnused kind.UnusedAction (map (λ x. mention_of x.name) d.actions) (name_texts (subtask_names d (Some p))) w

-- a name of a list that is among some names or stands before it in the list
abbrev pub IsAgain : List Text → List Mention → Mention → Type 0
IsAgain known declared m =
    (before : List Mention) × (after : List Mention) × (declared ≡ before ++ m ∷ after) × IsIn m.text (known ++ texts before)

-- a constant or object that is declared before; the constants come before the objects
abbrev pub IsDeclaredAgain : DomainText → ProblemText → Warning → Type 0
IsDeclaredAgain d p w =
    ((m : Mention) × IsAgain [] constants m × (w ≡ in_domain kind.DeclaredAgain m.place))
    ⊎ ((m : Mention) × IsAgain (texts constants) (mentions_of (typed_names p.objects)) m × (w ≡ in_problem kind.DeclaredAgain m.place))
  where
    constants : List Mention
    constants = mentions_of (typed_names d.constants)

-- a warning that is looked for with a problem alone
abbrev pub IsWarningOfPair : DomainText → ProblemText → Warning → Type 0
IsWarningOfPair d p w =
    IsUnusedType d p w ⊎ IsUnusedPredicate d p w ⊎ IsUntestedPredicate d p w ⊎ IsUnusedTask d p w ⊎ IsUnusedAction d p w ⊎ IsDeclaredAgain d p w

-- a warning of a domain and, if one is there, of a problem, but for that of another domain
abbrev pub IsWarning : DomainText → Option ProblemText → Warning → Type 0
IsWarning d p w = IsUnusedParameter d w ⊎ IsAddedAndDeleted d w ⊎ IsNoMethod d p w ⊎ IsSomeAnd p (λ q. IsWarningOfPair d q w)
