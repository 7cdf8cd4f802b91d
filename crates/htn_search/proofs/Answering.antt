-- A plan, none and unsolvable exclude one another; and below what no word reaches there is no solution.
use Rattle.std.proofs.Common.{◌≡◌, ℕ, zero, suc, ◌+◌, ◌<◌, Some, None, refl, ap, ◌∙◌, subst, arith}
use Rattle.std.proofs.lemmas.Option.{same_Some}
use Rattle.htn_model.specs.Problem.{Problem, IsGrounded}
use Rattle.htn_model.specs.Grounding.{problem_of}
use Rattle.htn_model.specs.Task.{Task}
use Rattle.htn_model.specs.Tree as tree
use Rattle.htn_model.specs.Answer.{IsAnswer}
use Rattle.htn_model.specs.Tree.{total_size}
use Rattle.htn_model.specs.Exhaustion.{IsMet, IsUnsolvable}
use Rattle.htn_model.proofs.Answers.{least_word_answers}
use Rattle.htn_ground.specs.declared.node.Solution.{Solution}
use Rattle.htn_ground.specs.Trees.{solution_of}
use Rattle.htn_search.specs.declared.answer.Answer.TheVariants.{Plan, None as NoPlan, Unsolvable}
use Rattle.htn_search.specs.Answer.{Answers, HasNoneBelow}
use Rattle.htn_walk.specs.Listed.{listing_machine}
use Rattle.htn_walk.proofs.Told.{none_within}
use Rattle.word_machine.specs.Answer.{NoneFinishesBefore}

module _ (t : Task) (bound : ℕ) where
  -- the problem of the task
  abbrev problem : Problem
  problem = problem_of t

  -- there is no answer where there is none
  not_both : (s : tree.Solution) → IsAnswer problem bound (Some s) → IsAnswer problem bound None → ⊥
  not_both s answer none = let over = none s answer.0 in let within = answer.1 in omega arith

  -- a plan that answers for the bound excludes the others
  pub plan_answers : IsGrounded problem → (plan : Solution) → IsAnswer problem bound (Some (solution_of t plan)) → Answers t bound (Plan plan)
  plan_answers grounded plan answer = record {
    plan = λ s. (λ is. (let same : plan ≡ is.0 = (let e = is.1 in cc) in subst (λ x. IsAnswer problem bound (Some x)) (ap (solution_of t) same ∙ is.2) answer), λ other. (plan, refl, same_Some _ _ ((least_word_answers problem grounded).one_answer bound (Some (solution_of t plan)) (Some s) answer other)));
    none = (λ e. absurd cc, λ other. absurd (not_both (solution_of t plan) answer other.0));
    unsolvable = (λ e. absurd cc, λ other. absurd (other.0 (solution_of t plan) answer.0));
  }

  -- so does none, where the bound was met
  pub none_answers : IsAnswer problem bound None → IsMet problem bound → Answers t bound NoPlan
  none_answers none met = record {
    plan = λ s. (λ is. (let e = is.1 in absurd cc), λ other. absurd (not_both s other none));
    none = (λ e. (none, met), λ other. refl);
    unsolvable = (λ e. absurd cc, λ other. absurd (other.1 met));
  }

  -- and unsolvable, where it was not
  pub unsolvable_answers : IsUnsolvable problem → (IsMet problem bound → ⊥) → Answers t bound Unsolvable
  unsolvable_answers never not_met = record {
    plan = λ s. (λ is. (let e = is.1 in absurd cc), λ other. absurd (never s other.0));
    none = (λ e. absurd cc, λ other. absurd (not_met other.1));
    unsolvable = (λ e. (never, not_met), λ other. refl);
  }

module _ (t : Task) (grounded : IsGrounded (problem_of t)) where
  -- where no word of ranks finishes in fewer steps, no solution has fewer nodes
  pub none_below : (nodes : ℕ) → NoneFinishesBefore (listing_machine t) nodes → HasNoneBelow t nodes
  none_below zero none s solves = omega arith
  none_below (suc nodes) none s solves =
      let same : suc nodes ≡ nodes + 1 = omega arith in
      let over : nodes < total_size s.trees = none_within t grounded nodes (subst (NoneFinishesBefore (listing_machine t)) same none) s solves in
      omega arith
