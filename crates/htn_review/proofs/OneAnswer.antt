-- Two texts and a bound have one answer.
use Rattle.std.proofs.Common.{◌≡◌, ℕ, List, Some, None, refl, sym, ap, ◌∙◌, subst, arith}
use Rattle.hddl_text.proofs.Laws.{domain_laws, problem_laws}
use Rattle.hddl_meaning.specs.Items.{FailsAt}
use Rattle.hddl_meaning.specs.Building.{IsTaskOf}
use Rattle.hddl_meaning.proofs.OneTask.{tasks_are_unique}
use Rattle.hddl_meaning.proofs.WellTyped.{tasks_are_well_typed}
use Rattle.htn_model.specs.Task.{Task}
use Rattle.htn_model.specs.Tree.{Solution}
use Rattle.htn_model.specs.Problem.{IsGrounded}
use Rattle.htn_model.specs.Answer.{IsAnswer}
use Rattle.htn_model.specs.Grounding.{problem_of}
use Rattle.htn_model.specs.Numbered.{numbered}
use Rattle.htn_model.proofs.Answers.{least_word_answers}
use Rattle.htn_model.proofs.Grounded.{tasks_are_grounded}
use Rattle.htn_ground.specs.Naming.{naming_of}
use Rattle.plan_text.specs.Written.{written}
use Rattle.htn_review.specs.declared.outcome.Outcome.{Outcome}
use Rattle.htn_review.specs.declared.outcome.Outcome.TheVariants.{Found, NoPlan, Unsolvable}
use Rattle.htn_review.specs.declared.outcome.RunFault.TheVariants as fault
use Rattle.htn_review.specs.Headline.{IsTaskOfTexts, Says}
use Rattle.htn_review.specs.Laws.{AnswersAreUnique, FaultyHaveNoAnswer, TextsHaveOneTask}

-- ## The texts

-- a text spells one domain
same_domain : (domain problem : List ℕ) (t u : Task) (is : IsTaskOfTexts domain problem t) (also : IsTaskOfTexts domain problem u) → is.domain_tree ≡ also.domain_tree
same_domain domain problem t u is also = domain_laws.one domain is.domain_tree also.domain_tree is.domain_spelled also.domain_spelled

-- a text spells one problem
same_problem : (domain problem : List ℕ) (t u : Task) (is : IsTaskOfTexts domain problem t) (also : IsTaskOfTexts domain problem u) → is.problem_tree ≡ also.problem_tree
same_problem domain problem t u is also = problem_laws.one problem is.problem_tree also.problem_tree is.problem_spelled also.problem_spelled

-- two texts have one task
pub texts_have_one_task : TextsHaveOneTask
texts_have_one_task domain problem t u is also =
    tasks_are_unique also.domain_tree also.problem_tree t u
    (subst (λ p. IsTaskOf also.domain_tree p t) (same_problem domain problem t u is also)
    (subst (λ d. IsTaskOf d is.problem_tree t) (same_domain domain problem t u is also) is.is_task))
    also.is_task

-- the problem of the task of two texts is grounded
pub is_grounded : (domain problem : List ℕ) (t : Task) → IsTaskOfTexts domain problem t → IsGrounded (problem_of t)
is_grounded domain problem t is = tasks_are_grounded t (tasks_are_well_typed is.domain_tree is.problem_tree t is.fits is.is_task)

-- ## One task

module _ (t : Task) (grounded : IsGrounded (problem_of t)) (bound : ℕ) where
  -- two plans that answer are the same
  one_plan : (s r : Solution) → IsAnswer (problem_of t) bound (Some s) → IsAnswer (problem_of t) bound (Some r) → s ≡ r
  one_plan s r h g = let same : Some s ≡ Some r = (least_word_answers (problem_of t) grounded).one_answer bound (Some s) (Some r) h g in cc

  -- a plan and none don't both answer
  a_plan_or_none : (s : Solution) → IsAnswer (problem_of t) bound (Some s) → IsAnswer (problem_of t) bound None → ⊥
  a_plan_or_none s h none = let beyond = none s h.0 in let within = h.1 in omega arith

  -- a task and a bound have one outcome with one text
  one_saying : (outcome other : Outcome) (text second : List ℕ) → Says t bound outcome text → Says t bound other second → (outcome ≡ other) × (text ≡ second)
  one_saying Found Found text second (s, h, e) (r, g, f) = (refl, e ∙ ap (λ x. written (numbered (naming_of t) x)) (one_plan s r h g) ∙ sym f)
  one_saying Found NoPlan text second (s, h, e) g = absurd (a_plan_or_none s h g.0)
  one_saying Found Unsolvable text second (s, h, e) g = absurd (g.0 s h.0)
  one_saying NoPlan Found text second h (r, g, f) = absurd (a_plan_or_none r g h.0)
  one_saying NoPlan NoPlan text second h g = (refl, h.2 ∙ sym g.2)
  one_saying NoPlan Unsolvable text second h g = absurd (g.1 h.1)
  one_saying Unsolvable Found text second h (r, g, f) = absurd (h.0 r g.0)
  one_saying Unsolvable NoPlan text second h g = absurd (h.1 g.1)
  one_saying Unsolvable Unsolvable text second h g = (refl, h.2 ∙ sym g.2)

-- ## Answers

-- two texts and a bound have one answer
pub answers_are_unique : AnswersAreUnique
answers_are_unique domain problem bound outcome other text second (t, is, says) (u, also, said) =
    one_saying t (is_grounded domain problem t is) bound outcome other text second says
    (subst (λ x. Says x bound other second) (texts_have_one_task domain problem u t also is) said)

-- texts with a fault have no answer
pub faulty_have_no_answer : FaultyHaveNoAnswer
faulty_have_no_answer domain problem bounds (fault.Domain f) bound outcome text of refuses (t, is, says) = refuses.0 is.domain_tree is.domain_spelled
faulty_have_no_answer domain problem bounds (fault.Problem f) bound outcome text of (d, spelled, faulty) (t, is, says) = faulty.0 is.problem_tree is.problem_spelled
faulty_have_no_answer domain problem bounds (fault.Check f) bound outcome text of (d, p, spelled, spelled_too, fails) (t, is, says) =
    is.fits f
    (subst (λ x. FailsAt is.domain_tree x f) (problem_laws.one problem p is.problem_tree spelled_too is.problem_spelled)
    (subst (λ x. FailsAt x p f) (domain_laws.one domain d is.domain_tree spelled is.domain_spelled) fails))
faulty_have_no_answer domain problem bounds (fault.Plan f) bound outcome text of refuses answers = refuses
faulty_have_no_answer domain problem bounds fault.OutOfMemory bound outcome text of refuses answers = of
faulty_have_no_answer domain problem bounds fault.NoThread bound outcome text of refuses answers = of
faulty_have_no_answer domain problem bounds fault.Output bound outcome text of refuses answers = of
