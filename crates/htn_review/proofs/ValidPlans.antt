-- The text of a plan that is found is valid.
use Rattle.std.proofs.Common.{◌≡◌, ℕ, suc, ◌≤◌, ◌<◌, Bool, true, false, cond, List, [], ◌∷◌, ◌++◌, length, map, flat_map, sym, refl, subst, arith}
use Rattle.std.specs.List.{AllByRecursion}
use Rattle.std.proofs.lemmas.List.{length-append}
use Rattle.htn_model.specs.Grounding.{problem_of}
use Rattle.htn_model.specs.Numbered.{action_line_at, action_places, compound_places, numbered_places, decomposition_line_at, id_in, is_same_place, numbered, position}
use Rattle.htn_model.specs.PlanFile.{Word, PlanFile}
use Rattle.htn_model.specs.Shadow.{ids_of, IsAccepted}
use Rattle.htn_model.specs.Task.{Task}
use Rattle.htn_model.specs.Tree.{Place, Solution, IsSolution}
use Rattle.htn_model.proofs.Numbered.{numbered_is_shadow}
use Rattle.htn_model.proofs.Rooms.{valid_is_acceptance}
use Rattle.htn_ground.specs.Naming.{naming_of}
use Rattle.htn_plan.proofs.Named.{names_nodes}
use Rattle.hddl_meaning.proofs.WellTyped.{tasks_are_well_typed}
use Rattle.plan_text.specs.Piece.{max_bytes}
use Rattle.plan_text.specs.PlanFile.{IsActionLine, IsDecompositionLine, IsId, IsPlanFile}
use Rattle.plan_text.specs.FileText.{FileText, end_marker}
use Rattle.plan_text.specs.Written.{action_words, decomposition_words, line_of, root_words, spaced, written, written_lines}
use Rattle.plan_text.proofs.RoundTrip.{reads_back}
use Rattle.htn_review.specs.Headline.{IsTaskOfTexts}
use Rattle.htn_review.specs.Laws.{LongPlansAreRefused, PlansAreValid}
use Rattle.htn_review.proofs.NamedTasks.{IsNamed, task_is_named, task_word, object_words, method_word}

-- ## As many bytes as lines, and as many lines as ids

-- a line has a byte
line_long : (words : List Word) → 1 ≤ length (line_of words)
line_long [] = omega arith
line_long (w ∷ words) = let whole = length-append (w ++ flat_map spaced words) (10 ∷ []) in omega (arith, whole)

-- so lines have as many
lines_long : (lines : List (List Word)) → length lines ≤ length (flat_map line_of lines)
lines_long [] = omega arith
lines_long (line ∷ lines) =
    let here = line_long line in let more = lines_long lines in let whole = length-append (line_of line) (flat_map line_of lines) in omega (arith, here, more, whole)

-- a function makes as many
length_map : {X Y : Type 0} (f : X → Y) (xs : List X) → length (map f xs) ≡ length xs
length_map f [] = refl
length_map f (x ∷ xs) = let more = length_map f xs in omega (arith, more)

-- a position is within the list
position_low : (p : Place) (ps : List Place) → position p ps ≤ length ps
position_low p [] = omega arith
position_low p (q ∷ ps) = by (is_same_place p q) (position_low p ps)
  where
    by : (b : Bool) → position p ps ≤ length ps → cond b 0 (suc (position p ps)) ≤ length (q ∷ ps)
    by true low = omega arith
    by false low = omega (arith, low)

module _ (domain problem : List ℕ) (t : Task) (is : IsTaskOfTexts domain problem t) (s : Solution) (short : length (written (numbered (naming_of t) s)) ≤ max_bytes) where
  -- the plan file of the solution
  abbrev file : PlanFile
  file = numbered (naming_of t) s

  -- its names are words
  is_named : IsNamed t
  is_named = task_is_named domain problem t is

  -- there are more lines than ids
  lines_over : length (numbered_places s) < length (written_lines file)
  lines_over =
      let actions = map action_words file.actions in
      let decompositions = map decomposition_words file.decompositions in
      let all = length-append (actions ++ root_words file.roots ∷ decompositions) ((end_marker ∷ []) ∷ []) in
      let two = length-append actions (root_words file.roots ∷ decompositions) in
      let places = length-append (action_places s) (compound_places s) in
      let a = length_map action_words file.actions in
      let b = length_map (action_line_at (naming_of t) s) (action_places s) in
      let c = length_map decomposition_words file.decompositions in
      let d = length_map (decomposition_line_at (naming_of t) s) (compound_places s) in
      omega (arith, all, two, places, a, b, c, d)

  -- every id is small
  small_id : (p : Place) → IsId (id_in s p)
  small_id p =
      let low = position_low p (numbered_places s) in
      let over = lines_over in
      let long = lines_long (written_lines file) in
      omega (arith, low, over, long, short)

  -- so are those of a list
  small_ids : (ps : List Place) → AllByRecursion IsId (ids_of (id_in s) ps)
  small_ids [] = tt
  small_ids (p ∷ ps) = (small_id p, small_ids ps)

  -- action lines can be written
  actions_fit : (ps : List Place) → AllByRecursion IsActionLine (map (action_line_at (naming_of t) s) ps)
  actions_fit [] = tt
  actions_fit (p ∷ ps) = (record { id = small_id p; name = task_word t is_named _; arguments = object_words t is_named _ }, actions_fit ps)

  -- so can decomposition lines
  decompositions_fit : (ps : List Place) → AllByRecursion IsDecompositionLine (map (decomposition_line_at (naming_of t) s) ps)
  decompositions_fit [] = tt
  decompositions_fit (p ∷ ps) = (
    record {
      id = small_id p;
      task = task_word t is_named _;
      arguments = object_words t is_named _;
      method = method_word t is_named _ _;
      children = small_ids _;
    },
    decompositions_fit ps,
  )

  -- and the file
  is_plan_file : IsPlanFile (numbered (naming_of t) s)
  is_plan_file = record { actions = actions_fit (action_places s); roots = small_ids _; decompositions = decompositions_fit (compound_places s) }

  -- it reads back as the file that was written
  pub holds_plan : FileText (numbered (naming_of t) s) (written (numbered (naming_of t) s))
  holds_plan = reads_back (numbered (naming_of t) s) is_plan_file short

-- the file of a solution is accepted
accepted : (domain problem : List ℕ) (t : Task) → IsTaskOfTexts domain problem t → (s : Solution) → IsSolution (problem_of t) s
    → IsAccepted (naming_of t) (problem_of t) (numbered (naming_of t) s)
accepted domain problem t is s solves = record {
  solution = s;
  solves = solves;
  shadow =
      numbered_is_shadow (naming_of t) (problem_of t) s solves
      (names_nodes t s (tasks_are_well_typed is.domain_tree is.problem_tree t is.fits is.is_task) solves);
}

-- a plan that is found is valid
pub plans_are_valid : PlansAreValid
plans_are_valid domain problem bound text (t, is, (s, answer, text_is)) short = (
  t,
  is,
  (
    numbered (naming_of t) s,
    subst (FileText (numbered (naming_of t) s)) (sym text_is) (holds_plan domain problem t is s (subst (λ x. length x ≤ max_bytes) text_is short)),
    (valid_is_acceptance (naming_of t) (problem_of t) (numbered (naming_of t) s)).1 (accepted domain problem t is s answer.0),
    refl,
  ),
)

-- one that is too long is refused
pub long_plans_are_refused : LongPlansAreRefused
long_plans_are_refused domain problem bound text (t, is, found) long = (
  t,
  is,
  ((λ file holds. let short = holds.short in omega arith), (λ e. cc), (long, refl)),
)
