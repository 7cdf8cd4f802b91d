-- The small plan files' verdicts, computed.
use Rattle.std.proofs.Common.{◌≡◌, ℕ, zero, suc, ◌<◌, ◌≤◌, Bool, true, false, List, [], ◌∷◌, ◌++◌, length, Option, Some, None, slice_get, option_map, option_and_then, inl, inr, sym, refl, ap, ◌∙◌, subst, arith}
use Rattle.std.proofs.lemmas.List.{length-append}
use Rattle.htn_model.specs.Atom.{Atom}
use Rattle.htn_model.specs.State.{State, set_of}
use Rattle.htn_model.specs.Literal.{Literal, atom, holds}
use Rattle.htn_model.specs.Problem.{GroundTask, action, is_before, task}
use Rattle.htn_model.specs.PlanFile.{Word, ActionLine, PlanFile, IsForest, IsIn, IsReached, from_root, from_parent, IsRearrangementOf}
use Rattle.htn_model.specs.Verdict as lines
use Rattle.htn_model.specs.Verdict.{HasInstance, AllHave, AreNamed, subtasks, an_action, a_task, run_lines, Ends, decomposition_line, root_line, structure, no_instance, not_executable, goal_fails, no_arrangement, valid, IsVerdict}
use Rattle.htn_model.specs.Fits.{action_at, decomposition, PlanTrees, no_plans, plan, HasRoom, AllFit, StepsFit, Fits, ForestFits}
use Rattle.htn_model.specs.Shown.{ShowTrees}
use Rattle.htn_model.specs.Sketch.{Sketch, look_up, sketched}
use Rattle.htn_model.specs.Examples.{named, two_unordered, three_in_order, nothing}
use Rattle.htn_model.specs.WorkedFiles.{work_with, backwards, errand, problem, number_in, rest, work, reverse_work, method_names, names, action_line, errand_line, file_of, rested, unlike_initial, beside_circle, listed_twice, FilesHaveVerdicts}
use Rattle.htn_model.proofs.Between.{lines_run}
use Rattle.htn_model.proofs.Grounds.{grounded_from}
use Rattle.htn_model.proofs.Pending.{not_nothing}
use Rattle.htn_model.proofs.Rooms.{room_is_verdict}
use Rattle.htn_model.proofs.Sketches.{shown_holds, holds_shown, shown_action, action_shown}

-- ## Lines over lists of atoms

-- the atoms that lines leave
abbrev shown_lines : Sketch → List Atom → List ActionLine → Option (List Atom)
shown_lines k atoms [] = Some atoms
shown_lines k atoms (line ∷ lines) = option_and_then (λ next. shown_lines k next lines) (shown_action atoms (look_up k.actions (named (number_in line.name))))

-- lines over a set run as over its list
lines_shown : (k : Sketch) (lines : List ActionLine) (atoms : List Atom) → run_lines names (sketched k) (set_of atoms) lines ≡ option_map set_of (shown_lines k atoms lines)
lines_shown k [] atoms = refl
lines_shown k (line ∷ lines) atoms =
    ap (option_and_then (λ next. run_lines names (sketched k) next lines)) (action_shown atoms (look_up k.actions (named (number_in line.name))))
    ∙ by (shown_action atoms (look_up k.actions (named (number_in line.name)))) (lines_shown k lines)
  where
    by : (o : Option (List Atom)) → ((next : List Atom) → run_lines names (sketched k) (set_of next) lines ≡ option_map set_of (shown_lines k next lines))
        → option_and_then (λ next. run_lines names (sketched k) next lines) (option_map set_of o) ≡ option_map set_of (option_and_then (λ next. shown_lines k next lines) o)
    by None later = refl
    by (Some next) later = later next

-- the run ends in these atoms
ends_in : (file : PlanFile) (atoms : List Atom) (b : Bool) → shown_lines errand errand.initial_atoms file.actions ≡ Some atoms → shown_holds atoms errand.goal ≡ b
    → Ends names problem file b
ends_in file atoms b runs goal = (set_of atoms, lines_shown errand file.actions errand.initial_atoms ∙ ap (option_map set_of) runs, holds_shown atoms errand.goal ∙ goal)

-- ## The forest

-- the four ids are defined, listed and reached, whatever the names are
forest_of : (x y : ℕ) (method : Word) → IsForest (file_of x y method)
forest_of x y method = record {
  defined_once = (
    (λ h. elim h [ inl e ↦ omega arith | inr h ↦ elim h [ inl e ↦ omega arith | inr h ↦ elim h [ inl e ↦ omega arith | inr n ↦ n ] ] ]),
    ((λ h. elim h [ inl e ↦ omega arith | inr h ↦ elim h [ inl e ↦ omega arith | inr n ↦ n ] ]), ((λ h. elim h [ inl e ↦ omega arith | inr n ↦ n ]), ((λ h. h), tt))),
  );
  listed_once = (1 ∷ 3 ∷ 2 ∷ [], [], refl, ([], 3 ∷ 2 ∷ [], refl, (3 ∷ [], [], refl, ([], [], refl, refl))));
  reached = by;
}
  where
    three : IsReached (file_of x y method) 3
    three = from_root 3 (inr (inl refl))

    by : (id : ℕ) → IsIn id (0 ∷ 1 ∷ 2 ∷ 3 ∷ []) → IsReached (file_of x y method) id
    by id (inl e) = subst (IsReached (file_of x y method)) (sym e) (from_parent 0 (errand_line 3 method (2 ∷ 0 ∷ [])) (inl refl) three (inr (inl refl)))
    by id (inr (inl e)) = subst (IsReached (file_of x y method)) (sym e) (from_root 1 (inl refl))
    by id (inr (inr (inl e))) = subst (IsReached (file_of x y method)) (sym e) (from_parent 2 (errand_line 3 method (2 ∷ 0 ∷ [])) (inl refl) three (inl refl))
    by id (inr (inr (inr (inl e)))) = subst (IsReached (file_of x y method)) (sym e) three
    by id (inr (inr (inr (inr n)))) = absurd n

-- ## Instances

-- the root line's tasks are those of the initial network, in the other order
roots_fit : (x y : ℕ) (method : Word) → HasInstance names problem (file_of x y method) (root_line (1 ∷ 3 ∷ []))
roots_fit x y method = (
  0,
  _,
  refl,
  (
    3 ∷ 1 ∷ [],
    (3 ∷ [], [], refl, ([], [], refl, refl)),
    (a_task (errand_line 3 method (2 ∷ 0 ∷ [])) (named 0) (inl refl) refl, (an_action (action_line 1 3) (named 3) (inr (inl refl)) refl, refl)),
  ),
)

-- the file where the fact is made first
worked_have : AllHave names problem (file_of 1 2 work)
worked_have = (
  (named 1, _, refl, refl),
  (
    (named 3, _, refl, refl),
    (
      (named 2, _, refl, refl),
      (
        (
          named 0,
          2,
          work_with 1,
          refl,
          refl,
          refl,
          (
            0 ∷ 2 ∷ [],
            (0 ∷ [], [], refl, ([], [], refl, refl)),
            (an_action (action_line 0 1) (named 1) (inl refl) refl, (an_action (action_line 2 2) (named 2) (inr (inr (inl refl))) refl, refl)),
          ),
        ),
        (roots_fit 1 2 work, tt),
      ),
    ),
  ),
)

-- the same with the children as they are declared
reversed_have : AllHave names problem (file_of 1 2 reverse_work)
reversed_have = (
  (named 1, _, refl, refl),
  (
    (named 3, _, refl, refl),
    (
      (named 2, _, refl, refl),
      (
        (
          named 0,
          3,
          backwards,
          refl,
          refl,
          refl,
          (
            2 ∷ 0 ∷ [],
            ([], 0 ∷ [], refl, ([], [], refl, refl)),
            (an_action (action_line 2 2) (named 2) (inr (inr (inl refl))) refl, (an_action (action_line 0 1) (named 1) (inl refl) refl, refl)),
          ),
        ),
        (roots_fit 1 2 reverse_work, tt),
      ),
    ),
  ),
)

-- ## Plans

-- the lines below the errand
abbrev below : PlanTrees
below = plan (action_at (named 2) 2) (plan (action_at (named 1) 0) no_plans)

-- the plan trees of a file by that method
abbrev plans_by : Word → PlanTrees
plans_by method = plan (action_at (named 3) 1) (plan (decomposition (named 0) method below) no_plans)

-- the lines show them
shown_by : (method : Word) → ShowTrees names (file_of 1 2 method) (1 ∷ 3 ∷ []) (plans_by method)
shown_by method = (
  (action_line 1 3, refl, refl, refl),
  (
    (
      errand_line 3 method (2 ∷ 0 ∷ []),
      inl refl,
      refl,
      refl,
      refl,
      ((action_line 2 2, refl, refl, refl), ((action_line 0 1, refl, refl, refl), refl)),
    ),
    refl,
  ),
)

-- ## Valid: the first instance's tool is never at hand, the second one's is

-- the fact is made
made : Ends names problem (file_of 1 2 work) true
made = ends_in (file_of 1 2 work) _ true refl refl

-- where each child of the work starts and finishes: the step in gap 0, the actions around lines 0 and 2
abbrev starts : ℕ → ℕ
starts zero = 0
starts (suc zero) = 0
starts (suc (suc zero)) = 2
starts (suc (suc (suc a))) = 0

-- where each position has finished
abbrev finishes : ℕ → ℕ
finishes zero = 0
finishes (suc zero) = 1
finishes (suc (suc zero)) = 3
finishes (suc (suc (suc a))) = 0

-- each child starts before it finishes
forward : (a : ℕ) → starts a ≤ finishes a
forward zero = omega arith
forward (suc zero) = omega arith
forward (suc (suc zero)) = omega arith
forward (suc (suc (suc a))) = omega arith

-- and finishes within the plan
within : (a : ℕ) → finishes a ≤ 3
within zero = omega arith
within (suc zero) = omega arith
within (suc (suc zero)) = omega arith
within (suc (suc (suc a))) = omega arith

-- in their order
ordered : (a b : ℕ) → is_before three_in_order a b ≡ true → finishes a ≤ starts b
ordered zero b h = omega arith
ordered (suc zero) zero h = absurd cc
ordered (suc zero) (suc zero) h = absurd cc
ordered (suc zero) (suc (suc zero)) h = omega arith
ordered (suc zero) (suc (suc (suc b))) h = absurd cc
ordered (suc (suc zero)) zero h = absurd cc
ordered (suc (suc zero)) (suc zero) h = absurd cc
ordered (suc (suc zero)) (suc (suc zero)) h = absurd cc
ordered (suc (suc zero)) (suc (suc (suc b))) h = absurd cc
ordered (suc (suc (suc a))) b h = absurd cc

-- the roots have no order
none_before : (a b : ℕ) → is_before two_unordered a b ≡ true → ⊥
none_before zero zero h = cc
none_before zero (suc zero) h = cc
none_before zero (suc (suc b)) h = cc
none_before (suc zero) zero h = cc
none_before (suc zero) (suc zero) h = cc
none_before (suc zero) (suc (suc b)) h = cc
none_before (suc (suc a)) b h = cc

-- a state for each gap
abbrev States : Type 0
States = ℕ → State

-- the second tool is at hand
abbrev tool_at_hand : List Literal
tool_at_hand = atom true (record { predicate = 1; arguments = 1 ∷ [] }) ∷ []

-- the tool is at hand in gap 0
at_hand : (states : States) → states 0 ≡ set_of errand.initial_atoms → holds (states 0) tool_at_hand ≡ true
at_hand states first = ap (λ s. holds s tool_at_hand) first ∙ holds_shown errand.initial_atoms tool_at_hand

-- the work's step, and no other child, is one that needs room
steps_fit : (states : States) → states 0 ≡ set_of errand.initial_atoms → StepsFit states (work_with 1).children starts finishes
steps_fit states first zero literals h =
    let same : tool_at_hand ≡ literals = cc in
    (0, omega arith, omega arith, subst (λ ls. holds (states 0) ls ≡ true) same (at_hand states first))
steps_fit states first (suc zero) literals h = absurd cc
steps_fit states first (suc (suc zero)) literals h = absurd cc
steps_fit states first (suc (suc (suc a))) literals h = absurd cc

-- the work has room in the whole plan, by the instance whose tool is at hand
work_fits : (states : States) → states 0 ≡ set_of errand.initial_atoms → Fits names problem states (decomposition (named 0) work below) 0 3
work_fits states first = (
  2,
  work_with 1,
  refl,
  refl,
  (
    2 ∷ 1 ∷ [],
    record { each_once = (1 ∷ [], [], refl, ([], [], refl, refl)); stand = (refl, (refl, refl)) },
    starts,
    finishes,
    record { from = λ a. omega arith; to = within; forward = forward; ordered = ordered },
    steps_fit states first,
    ((omega arith, omega arith), ((omega arith, omega arith), tt)),
  ),
)

-- the roots have no step
no_steps : (states : States) (start finish : ℕ → ℕ) → StepsFit states (task (named 0) ∷ action (named 3) ∷ []) start finish
no_steps states start finish zero literals h = absurd cc
no_steps states start finish (suc zero) literals h = absurd cc
no_steps states start finish (suc (suc a)) literals h = absurd cc

-- and so have the roots
errand_fits : (states : States) → states 0 ≡ set_of errand.initial_atoms → ForestFits names problem states (plans_by work) 3
errand_fits states first = (
  0,
  _,
  refl,
  (
    1 ∷ 0 ∷ [],
    record { each_once = (0 ∷ [], [], refl, ([], [], refl, refl)); stand = (refl, (refl, refl)) },
    (λ a. 0),
    (λ a. 3),
    record { from = λ a. omega arith; to = λ a. omega arith; forward = λ a. omega arith; ordered = λ a b h. absurd (none_before a b h) },
    no_steps states (λ a. 0) (λ a. 3),
    ((omega arith, omega arith), (work_fits states first, tt)),
  ),
)

-- so the file is valid
worked : IsVerdict names problem (file_of 1 2 work) valid
worked =
    let run = lines_run names problem (file_of 1 2 work) made in
    ((room_is_verdict names problem (grounded_from errand refl)).is_valid (file_of 1 2 work) _ (plans_by work) (forest_of 1 2 work) run (shown_by work)).0
    (errand_fits _ run.starts)

-- ## No arrangement: to use the fact before it is made

-- the lines run as before
reversed_made : Ends names problem (file_of 1 2 reverse_work) true
reversed_made = ends_in (file_of 1 2 reverse_work) _ true refl refl

-- what is used stands at the first position, what makes it at the second
use_first : (a : ℕ) → slice_get backwards.children a ≡ Some (action (named 2)) → a ≡ 0
use_first zero h = refl
use_first (suc zero) h = let e : named 1 ≡ named 2 = cc in let n = ap (λ g. g.name) e in omega arith
use_first (suc (suc a)) h = absurd cc

-- and what makes it at the second
make_second : (a : ℕ) → slice_get backwards.children a ≡ Some (action (named 1)) → a ≡ 1
make_second zero h = let e : named 2 ≡ named 1 = cc in let n = ap (λ g. g.name) e in omega arith
make_second (suc zero) h = refl
make_second (suc (suc a)) h = absurd cc

-- line 2 would have to finish before line 0 starts
backwards_never : (states : States) (g h : ℕ) → HasRoom states backwards below (λ positions start finish. AllFit names problem states positions below start finish) g h → ⊥
backwards_never states g h ([], matching, start, finish, spans, steps, fit) = matching.stand
backwards_never states g h (a ∷ [], matching, start, finish, spans, steps, fit) = matching.stand.1
backwards_never states g h (a ∷ b ∷ more, matching, start, finish, spans, steps, fit) =
    let first = use_first a matching.stand.0 in
    let second = make_second b matching.stand.1.0 in
    let before = spans.ordered 0 1 refl in
    let used : 2 < finish 0 = subst (λ x. 2 < finish x) first fit.0.1 in
    let made : start 1 ≤ 0 = subst (λ x. start x ≤ 0) second fit.1.0.0 in
    omega arith

-- so the errand has no room
reversed_never : (states : States) (g h : ℕ) → Fits names problem states (decomposition (named 0) reverse_work below) g h → ⊥
reversed_never states g h (zero, network, is, named_so, room) = absurd cc
reversed_never states g h (suc zero, network, is, named_so, room) = absurd cc
reversed_never states g h (suc (suc zero), network, is, named_so, room) = absurd cc
reversed_never states g h (suc (suc (suc zero)), network, is, named_so, room) =
    let same : backwards ≡ network = cc in
    backwards_never states g h (subst (λ n. HasRoom states n below (λ positions start finish. AllFit names problem states positions below start finish) g h) (sym same) room)
reversed_never states g h (suc (suc (suc (suc number))), network, is, named_so, room) = absurd cc

-- nor have the roots
no_room : (states : States) → ForestFits names problem states (plans_by reverse_work) 3 → ⊥
no_room states (number, network, is, ([], matching, start, finish, spans, steps, fit)) = fit
no_room states (number, network, is, (a ∷ [], matching, start, finish, spans, steps, fit)) = fit.1
no_room states (number, network, is, (a ∷ b ∷ more, matching, start, finish, spans, steps, fit)) = reversed_never states (start b) (finish b) fit.1.0

-- so there is no arrangement
reversed : IsVerdict names problem (file_of 1 2 reverse_work) no_arrangement
reversed =
    let run = lines_run names problem (file_of 1 2 reverse_work) reversed_made in
    ((room_is_verdict names problem (grounded_from errand refl)).is_not (file_of 1 2 reverse_work) _ (plans_by reverse_work) (forest_of 1 2 reverse_work) reversed_have reversed_made run
    (shown_by reverse_work)).0 (no_room _)

-- ## The goal fails: nobody makes the fact

-- its lines are a forest
rested_forest : IsForest rested
rested_forest = record {
  defined_once = ((λ h. elim h [ inl e ↦ omega arith | inr n ↦ n ]), ((λ h. h), tt));
  listed_once = (3 ∷ [], [], refl, ([], [], refl, refl));
  reached = by;
}
  where
    by : (id : ℕ) → IsIn id (1 ∷ 3 ∷ []) → IsReached rested id
    by id (inl e) = from_root id (inr (inl e))
    by id (inr (inl e)) = from_root id (inl e)
    by id (inr (inr n)) = absurd n

-- with instances
rested_have : AllHave names problem rested
rested_have = (
  (named 3, _, refl, refl),
  (
    (named 0, 0, nothing, refl, refl, refl, ([], refl, refl)),
    (
      (
        0,
        _,
        refl,
        (
          3 ∷ 1 ∷ [],
          ([], 1 ∷ [], refl, ([], [], refl, refl)),
          (a_task (errand_line 3 rest []) (named 0) (inl refl) refl, (an_action (action_line 1 3) (named 3) (inl refl) refl, refl)),
        ),
      ),
      tt,
    ),
  ),
)

-- ## Not executable: line 0 uses what line 2 makes

-- its lines have instances
late_have : AllHave names problem (file_of 2 1 work)
late_have = (
  (named 2, _, refl, refl),
  (
    (named 3, _, refl, refl),
    (
      (named 1, _, refl, refl),
      (
        (
          named 0,
          2,
          work_with 1,
          refl,
          refl,
          refl,
          (
            2 ∷ 0 ∷ [],
            ([], 0 ∷ [], refl, ([], [], refl, refl)),
            (an_action (action_line 2 1) (named 1) (inr (inr (inl refl))) refl, (an_action (action_line 0 2) (named 2) (inl refl) refl, refl)),
          ),
        ),
        (roots_fit 2 1 work, tt),
      ),
    ),
  ),
)

-- but line 0 comes too early
late : IsVerdict names problem (file_of 2 1 work) (not_executable 0)
late = (
  forest_of 2 1 work,
  late_have,
  record {
    before = [];
    line = action_line 0 2;
    others = action_line 1 3 ∷ action_line 2 1 ∷ [];
    lines = refl;
    state = set_of errand.initial_atoms;
    reaches = refl;
    fails = action_shown errand.initial_atoms (look_up errand.actions (named 2));
    id_is = refl;
  },
)

-- ## No instance: rest has no subtasks, and an action alone isn't the initial network

-- an id is no rearrangement of none
none_arranged : (id : ℕ) (ids : List ℕ) (file : PlanFile) (arranged : List ℕ) → AreNamed names file arranged [] → IsRearrangementOf (id ∷ ids) arranged → ⊥
none_arranged id ids file [] h (left, right, e, more) = not_nothing left id right e
none_arranged id ids file (a ∷ arranged) h r = not_none a arranged h
  where
    not_none : (a : ℕ) (arranged : List ℕ) → AreNamed names file (a ∷ arranged) [] → ⊥
    not_none a arranged h = h

-- rest has no instance with two subtasks
rest_has_none : HasInstance names problem (file_of 1 2 rest) (decomposition_line (errand_line 3 rest (2 ∷ 0 ∷ []))) → ⊥
rest_has_none (t, number, network, named_so, is, method, more) =
    let same : named 0 ≡ t = cc in by number (subst (λ u. slice_get (problem.methods_of u) number ≡ Some network) (sym same) is) method more
  where
    by : (number : ℕ) → slice_get (problem.methods_of (named 0)) number ≡ Some network → rest ≡ method_names number
        → (arranged : List ℕ) × IsRearrangementOf (2 ∷ 0 ∷ []) arranged × AreNamed names (file_of 1 2 rest) arranged (subtasks network.children) → ⊥
    by zero is method (arranged, rearranged, tasks) =
        let same : nothing ≡ network = cc in
        none_arranged 2 (0 ∷ []) (file_of 1 2 rest) arranged (subst (λ n. AreNamed names (file_of 1 2 rest) arranged (subtasks n.children)) (sym same) tasks) rearranged
    by (suc zero) is method more = absurd cc
    by (suc (suc zero)) is method more = absurd cc
    by (suc (suc (suc number))) is method more = absurd cc

-- so line 3 is the first faulty one
resting : IsVerdict names problem (file_of 1 2 rest) (no_instance (Some 3))
resting = (
  forest_of 1 2 rest,
  record {
    before = lines.action_line (action_line 0 1) ∷ lines.action_line (action_line 1 3) ∷ lines.action_line (action_line 2 2) ∷ [];
    line = decomposition_line (errand_line 3 rest (2 ∷ 0 ∷ []));
    others = root_line (1 ∷ 3 ∷ []) ∷ [];
    lines = refl;
    fine = ((named 1, _, refl, refl), ((named 3, _, refl, refl), ((named 2, _, refl, refl), tt)));
    faulty = rest_has_none;
    name_is = refl;
  },
)

-- one root is a forest
unlike_forest : IsForest unlike_initial
unlike_forest = record { defined_once = ((λ h. h), tt); listed_once = ([], [], refl, refl); reached = by }
  where
    by : (id : ℕ) → IsIn id (0 ∷ []) → IsReached unlike_initial id
    by id (inl e) = from_root id (inl e)
    by id (inr n) = absurd n

-- rearrangements have one length
longer : {X : Type 0} (xs ys : List X) → IsRearrangementOf xs ys → length xs ≡ length ys
longer [] ys e = ap length (sym e)
longer (x ∷ xs) ys (left, right, e, more) =
    let rest = longer xs (left ++ right) more in
    let whole = ap length e in
    let a = length-append left (x ∷ right) in
    let b = length-append left right in
    omega arith

-- as many ids as tasks
as_many_named : (file : PlanFile) (ids : List ℕ) (tasks : List GroundTask) → AreNamed names file ids tasks → length ids ≡ length tasks
as_many_named file [] tasks h = ap length (sym h)
as_many_named file (id ∷ ids) [] h = absurd h
as_many_named file (id ∷ ids) (t ∷ tasks) h = ap suc (as_many_named file ids tasks h.1)

-- one task is not the two of the initial network
unlike_none : HasInstance names problem unlike_initial (root_line (0 ∷ [])) → ⊥
unlike_none (zero, network, is, (arranged, rearranged, tasks)) =
    let children : (task (named 0) ∷ action (named 3) ∷ []) ≡ network.children = cc in
    let one : 1 ≡ length arranged = longer (0 ∷ []) arranged rearranged in
    let two : length arranged ≡ 2 = as_many_named unlike_initial arranged (named 0 ∷ named 3 ∷ []) (subst (λ cs. AreNamed names unlike_initial arranged (subtasks cs)) (sym children) tasks) in
    omega arith
unlike_none (suc number, network, is, more) = absurd cc

-- so the root line is the first faulty one
unlike : IsVerdict names problem unlike_initial (no_instance None)
unlike = (
  unlike_forest,
  record {
    before = lines.action_line (action_line 0 1) ∷ [];
    line = root_line (0 ∷ []);
    others = [];
    lines = refl;
    fine = ((named 1, _, refl, refl), tt);
    faulty = unlike_none;
    name_is = refl;
  },
)

-- ## No forest

-- nothing that is reached is in the circle
outside_circle : (id : ℕ) → IsReached beside_circle id → id ≡ 9 → ⊥
outside_circle id (from_root _ (inl e)) nine = omega arith
outside_circle id (from_root _ (inr (inl e))) nine = omega arith
outside_circle id (from_root _ (inr (inr n))) nine = n
outside_circle id (from_parent _ line stands above below) nine = by stands (outside_circle line.id above) below
  where
    by : IsIn line beside_circle.decompositions → (line.id ≡ 9 → ⊥) → IsIn id line.children → ⊥
    by (inl e) not_nine below = two_none (subst (IsIn id) (ap (λ l. l.children) e) below)
      where
        two_none : IsIn id (2 ∷ 0 ∷ []) → ⊥
        two_none (inl e) = omega arith
        two_none (inr (inl e)) = omega arith
        two_none (inr (inr n)) = n
    by (inr (inl e)) not_nine below = not_nine (ap (λ l. l.id) e)
    by (inr (inr n)) not_nine below = n

-- so the circle is no part of a forest
circle_unreached : IsVerdict names problem beside_circle structure
circle_unreached forest = outside_circle 9 (forest.reached 9 (inr (inr (inr (inr (inl refl)))))) refl

-- five listed ids are not four
twice_listed : IsVerdict names problem listed_twice structure
twice_listed forest = unequal 4 5 refl refl (longer (0 ∷ 1 ∷ 2 ∷ 3 ∷ []) (1 ∷ 3 ∷ 1 ∷ 2 ∷ 0 ∷ []) forest.listed_once)
  where
    unequal : (a b : ℕ) → a ≡ 4 → b ≡ 5 → a ≡ b → ⊥
    unequal a b four five e = omega arith

-- all verdicts
pub files_have_verdicts : FilesHaveVerdicts
files_have_verdicts = record {
  arranged = worked;
  turned_round = reversed;
  never_made = (rested_forest, rested_have, ends_in rested _ false refl refl);
  made_late = late;
  no_rest = resting;
  no_errand = unlike;
  unreached = circle_unreached;
  repeated = twice_listed;
}
