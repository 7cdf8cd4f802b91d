-- The lines that report the progress of a search, and the state of an output that got them.
use Rattle.std.specs.Prelude.{◌≡◌, ◌⊎◌, ℕ, Bool, false, List, [], ◌∷◌, ◌++◌, Option, Some, None, IfSome, codes, ⊤}
use Rattle.std.specs.Fmt.{decimal}
use Rattle.htn_model.specs.Answer.{IsAnswer}
use Rattle.htn_model.specs.Grounding.{problem_of}
use Rattle.htn_model.specs.Task.{Task}
use Rattle.htn_review.specs.Headline.{IsTaskOfTexts, SaysWatched, number_text, within_text}
use Rattle.htn_run.specs.Lines.{GetsLine}
use Rattle.htn_review.specs.declared.outcome.Outcome.TheVariants.{Found, NoPlan, Unsolvable}
use Rattle.htn_review.specs.declared.outcome.Watched.{Watched}
use Rattle.htn_review.specs.declared.outcome.Watched.TheVariants.{Known, Unknown}

-- the end of a line of progress, from the word `configurations` on, with a number of nodes that no solution is within,
-- if one is known
abbrev pub found_text : Option ℕ → List ℕ
found_text none_within = codes " configurations" ++ (within_text (codes ", none within ") none_within ++ codes "\n")

-- the end of a line of progress, from the number of configurations on
abbrev pub count_text : ℕ → Option ℕ → List ℕ
count_text configurations none_within = number_text (codes " nodes, ") configurations ++ found_text none_within

-- the end of a line of progress, from the bound on the nodes on
abbrev pub reach_text : ℕ → ℕ → Option ℕ → List ℕ
reach_text bound configurations none_within = number_text (codes " s, plans of up to ") bound ++ count_text configurations none_within

-- the line that says for how many seconds a search has run, its bound, and how many configurations it has
abbrev pub progress_line : ℕ → ℕ → ℕ → Option ℕ → List ℕ
progress_line seconds bound configurations none_within =
    number_text (codes "progress: ") seconds ++ reach_text bound configurations none_within

-- the end of the last line: the answer of the search, or that it was stopped
abbrev pub end_text : Watched → List ℕ
end_text (Known Found) = codes " s, plan found\n"
end_text (Known NoPlan) = codes " s, none\n"
end_text (Known Unsolvable) = codes " s, unsolvable\n"
end_text (Unknown none_within) = codes " s, stopped\n"

-- the last line: for how many seconds the search has run, and how it ended
abbrev pub end_line : ℕ → Watched → List ℕ
end_line seconds watched = number_text (codes "progress: ") seconds ++ end_text watched

-- a line of progress of a search of the task, whose claims on the task are true
abbrev pub IsProgress : Task → List ℕ → Type 0
IsProgress task line =
    ((seconds bound configurations : ℕ) × (none_within : Option ℕ) × (line ≡ progress_line seconds bound configurations none_within)
    × IfSome none_within (λ nodes. IsAnswer (problem_of task) nodes None))
    ⊎ ((seconds bound : ℕ) × (watched : Watched) × (text : List ℕ) × (line ≡ end_line seconds watched) × SaysWatched task bound ⊤ watched text)

module _ {E : Type 0} (contents : E → Option (List ℕ)) (has_failed : E → Bool) (IsLine : List ℕ → Type 0) where
  -- the lines were added to the output one after another; if a line was refused, a beginning of it was added, and the
  -- output has failed
  abbrev pub GetsLines : E → List (List ℕ) → E → Type 0
  GetsLines old [] new = new ≡ old
  GetsLines old (line ∷ lines) new =
      (next : E) × IsLine line × GetsLine (contents old) (contents next) (has_failed next) line × GetsLines next lines new

  -- some lines of progress were added to the output, and none where none are to be shown
  abbrev pub Shows : Bool → E → E → Type 0
  Shows is_shown old new = (lines : List (List ℕ)) × (is_shown ≡ false → lines ≡ []) × GetsLines old lines new

-- the lines of progress for the task of two texts were added to the output; none where they have no task
abbrev pub ShowsOfTexts : {E : Type 0} → (E → Option (List ℕ)) → (E → Bool) → List ℕ → List ℕ → Bool → E → E → Type 0
ShowsOfTexts contents has_failed domain problem is_shown old new =
    (new ≡ old) ⊎ ((task : Task) × IsTaskOfTexts domain problem task × Shows contents has_failed (IsProgress task) is_shown old new)
