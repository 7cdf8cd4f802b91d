-- What fits in a pair that fits together.
use Rattle.std.proofs.Common.{◌≡◌, sym, subst, arith, get_or}
use Rattle.std.specs.List.{All}
use Rattle.htn_order.specs.Closure.{IsAcyclic}
use Rattle.hddl_words.specs.declared.domain.DomainText.{DomainText}
use Rattle.hddl_words.specs.declared.problem.ProblemText.{ProblemText}
use Rattle.hddl_meaning.specs.Items.{IsWellTypedPair}
use Rattle.hddl_meaning.specs.Building.{Vocabulary, vocabulary_of}
use Rattle.hddl_meaning.specs.Networks.{order_pairs}
use Rattle.hddl_meaning.proofs.Limits.{types_limit, objects_limit, predicate_names_limit, task_names_limit, method_order_acyclic}
use Rattle.std.proofs.lemmas.List.Elements.{All-contains_itself}
use Rattle.hddl_build.specs.Vocabularies.{IsNumbered}

-- in a pair that fits together the names of each kind have numbers that fit
pub numbered : (d : DomainText) (p : ProblemText) (v : Vocabulary) → IsWellTypedPair d p → v ≡ vocabulary_of d p → IsNumbered v
numbered d p v fits same = subst IsNumbered (sym same) (record {
  types = omega (arith, types_limit d p fits);
  objects = omega (arith, objects_limit d p fits);
  predicates = omega (arith, predicate_names_limit d p fits);
  tasks = omega (arith, task_names_limit d p fits);
})

-- in a pair that fits together the orderings of methods have no cycle
pub methods_acyclic : (d : DomainText) (p : ProblemText) → IsWellTypedPair d p → All (λ m. IsAcyclic (order_pairs m.network)) d.methods
methods_acyclic d p fits k m h = method_order_acyclic d p fits (get_or d.methods k m) (All-contains_itself d.methods k m h)
