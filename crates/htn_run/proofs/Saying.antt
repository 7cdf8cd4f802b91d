-- What the text of an answer says.
use Rattle.std.proofs.Common.{◌≡◌, ℕ, List, Option, None, IfSome, codes, refl, sym, subst}
use Rattle.htn_model.specs.Task.{Task}
use Rattle.htn_model.specs.PlanFile.{PlanFile}
use Rattle.htn_model.specs.Grounding.{problem_of}
use Rattle.htn_model.specs.Numbered.{numbered}
use Rattle.htn_model.specs.Tree.{AreTrees}
use Rattle.htn_ground.specs.declared.node.Solution.{Solution}
use Rattle.htn_ground.specs.Trees.{solution_of}
use Rattle.htn_ground.specs.Naming.{naming_of}
use Rattle.plan_text.specs.Written.{written}
use Rattle.plan_text.specs.Out.{TakesBeginning}
use Rattle.htn_search.specs.Answer.{Answers}
use Rattle.htn_search.specs.declared.answer.Answer.{Answer}
use Rattle.htn_search.specs.declared.answer.Answer.TheVariants as answer
use Rattle.htn_model.specs.Answer.{IsAnswer}
use Rattle.htn_review.specs.Headline.{IsCutShort, IsWatchedCutShort, Says, SaysWatched, unknown_text}
use Rattle.htn_review.specs.declared.outcome.Watched.{Watched}
use Rattle.htn_review.specs.declared.outcome.Watched.TheVariants.{Known, Unknown}
use Rattle.htn_review.specs.declared.outcome.Outcome.{Outcome}
use Rattle.htn_review.specs.declared.outcome.Outcome.TheVariants.{Found, NoPlan, Unsolvable}

module _ (task : Task) (bound : ℕ) (found : Answer) (answers : Answers task bound found) where
  -- a plan that is found answers by its file's text
  pub says_plan : (plan : Solution) (file : PlanFile) → found ≡ answer.Plan plan
      → (AreTrees (problem_of task) (solution_of task plan).trees → file ≡ numbered (naming_of task) (solution_of task plan))
      → Says task bound Found (written file)
  says_plan plan file is value =
      let own = (answers.plan (solution_of task plan)).0 (plan, is, refl) in
      subst (λ f. Says task bound Found (written f)) (sym (value own.0.are_trees)) (solution_of task plan, own, refl)

  -- where there is none within a bound that was met, `none` answers
  pub says_none : found ≡ answer.None → Says task bound NoPlan (codes "none\n")
  says_none is = let h = answers.none.0 is in (h.0, h.1, refl)

  -- where there is no plan of any size, `unsolvable` answers
  pub says_unsolvable : found ≡ answer.Unsolvable → Says task bound Unsolvable (codes "unsolvable\n")
  says_unsolvable is = let h = answers.unsolvable.0 is in (h.0, h.1, refl)

-- an output that took a beginning of the answer's text was cut short
pub cut_short : (task : Task) (bound : ℕ) (outcome : Outcome) (text : List ℕ) (old new : Option (List ℕ)) → Says task bound outcome text
    → TakesBeginning old new text → IsCutShort task bound old new
cut_short task bound outcome text old new says begun = record { outcome = outcome; text = text; says = says; begun = begun }

-- ## A search that may be stopped

-- what may stop it may be named otherwise
pub says_more : (task : Task) (bound : ℕ) (A B : Type 0) (watched : Watched) (text : List ℕ) → (A → B) → SaysWatched task bound A watched text → SaysWatched task bound B watched text
says_more task bound A B (Known outcome) text more says = says
says_more task bound A B (Unknown none_within) text more says = (more says.0, says.1, says.2)

-- also where the answer is cut short
pub cut_more : (task : Task) (bound : ℕ) (A B : Type 0) (old new : Option (List ℕ)) → (A → B) → IsWatchedCutShort task bound A old new → IsWatchedCutShort task bound B old new
cut_more task bound A B old new more h = record { watched = h.watched; text = h.text; says = says_more task bound A B h.watched h.text more h.says; begun = h.begun }

-- a search that is not stopped has an answer
pub cut_known : (task : Task) (bound : ℕ) (A : Type 0) (old new : Option (List ℕ)) → (A → ⊥) → IsWatchedCutShort task bound A old new → IsCutShort task bound old new
cut_known task bound A old new never h = by h.watched h.says
  where
    by : (watched : Watched) → SaysWatched task bound A watched h.text → IsCutShort task bound old new
    by (Known outcome) says = record { outcome = outcome; text = h.text; says = says; begun = h.begun }
    by (Unknown none_within) says = absurd (never says.0)

-- a beginning of the answer's text is one
pub cut_watched : (task : Task) (bound : ℕ) (A : Type 0) (old new : Option (List ℕ)) → IsCutShort task bound old new → IsWatchedCutShort task bound A old new
cut_watched task bound A old new h = record { watched = Known h.outcome; text = h.text; says = h.says; begun = h.begun }

-- a beginning of the text that says what is known is one
pub cut_unknown : (task : Task) (bound : ℕ) (A : Type 0) (none_within : Option ℕ) (old new : Option (List ℕ)) → A → IfSome none_within (λ nodes. IsAnswer (problem_of task) nodes None)
    → TakesBeginning old new (unknown_text none_within) → IsWatchedCutShort task bound A old new
cut_unknown task bound A none_within old new may known begun = record { watched = Unknown none_within; text = unknown_text none_within; says = (may, known, refl); begun = begun }
