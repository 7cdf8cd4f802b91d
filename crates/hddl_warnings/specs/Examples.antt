-- Small trees and what they warn of.
use Rattle.std.specs.Prelude.{[], ◌∷◌, codes, Some, None}
use Rattle.hddl_words.specs.declared.domain.DomainText.{DomainText}
use Rattle.hddl_meaning.specs.Examples.{action, called, empty_domain, empty_problem, no_predicate, no_type, untyped, variable}
use Rattle.hddl_warnings.specs.Warnings.{IsWarning, in_domain}
use Rattle.hddl_warnings.specs.declared.warning.WarningKind.TheVariants as kind
use Rattle.hddl_warnings.specs.declared.warning.Warning.{Warning}

-- `(define (domain d) (:action a :parameters (?x)))`
abbrev pub one_parameter : DomainText
one_parameter = record empty_domain { actions = action (called 28 (codes "a")) (untyped (variable 43 (codes "?x"))) [] ∷ [] }

-- what small trees warn of, and one that warns of nothing
pub record WarningsHold : Type 0 where
  -- `(define (domain d) (:action a :parameters (?x)))`
  pub unused_parameter : IsWarning one_parameter None (in_domain kind.UnusedParameter 43)
  -- `(define (domain d) (:predicates (p ?x - t)))`
  pub unused_predicate : IsWarning no_type (Some empty_problem) (in_domain kind.UnusedPredicate 33)
  -- `(define (domain d) (:action a :precondition (p)))`
  pub unused_action : IsWarning no_predicate (Some empty_problem) (in_domain kind.UnusedAction 28)
  -- `(define (domain d))`
  pub no_warning : (w : Warning) → IsWarning empty_domain (Some empty_problem) w → ⊥
