-- The small plan files' details, computed.
use Rattle.std.proofs.Common.{◌≡◌, ℕ, zero, suc, ◌≤◌, true, false, List, [], ◌∷◌, Option, Some, None, slice_get, option_map, option_and_then, inl, inr, sym, refl, ap, ◌∙◌, subst, arith}
use Rattle.std.proofs.lemmas.Bool.{both_ways, cases_lt}
use Rattle.htn_model.specs.Atom.{Atom}
use Rattle.htn_model.specs.State.{State, set_of}
use Rattle.htn_model.specs.Literal.{Literal, atom, holds}
use Rattle.htn_model.specs.Problem.{Network, Child, precondition, action, is_before, task}
use Rattle.htn_model.specs.PlanFile.{ActionLine, DecompositionLine, IsForest, IsIn, IsReached, from_root, from_parent}
use Rattle.htn_model.specs.Verdict.{perform_line, run_lines, Ends}
use Rattle.htn_model.specs.Fits.{AreSpans}
use Rattle.htn_model.specs.Shown.{LinesRun}
use Rattle.htn_model.specs.Sketch.{Sketch, look_up, sketched}
use Rattle.htn_model.specs.Examples.{fact, named, two_unordered, two_in_order, three_in_order, nothing}
use Rattle.htn_model.specs.WorkedFiles.{work_with, errand, problem, number_in, work, method_names, names, action_line, errand_line, file_of}
use Rattle.htn_model.proofs.Between.{lines_run}
use Rattle.htn_model.proofs.Grounds.{grounded_from}
use Rattle.htn_model.proofs.Sketches.{shown_holds, holds_shown, shown_action, action_shown}
use Rattle.htn_model.proofs.WorkedFiles.{files_have_verdicts}
use Rattle.line_details.specs.Details.{Details, AreDetails}
use Rattle.line_details.specs.Certificate.{Spans, AllSpans, IsPlaced, ArePlaced, HasRoomBy, LineHasRoomBy, IsCertificate}
use Rattle.line_details.specs.Worked.{once, waiting, waiting_problem, waited, HasDetail, FilesHaveDetails}
use Rattle.line_details.proofs.Decided.{certificates_decide}
use Rattle.line_details.proofs.Solved.{certified_details}
use Rattle.line_details.proofs.Detailed.{lines_are_detailed}

-- two nodes have no order
none_before : (a b : ℕ) → is_before two_unordered a b ≡ true → ⊥
none_before zero zero h = cc
none_before zero (suc zero) h = cc
none_before zero (suc (suc b)) h = cc
none_before (suc zero) zero h = cc
none_before (suc zero) (suc zero) h = cc
none_before (suc zero) (suc (suc b)) h = cc
none_before (suc (suc a)) b h = cc

-- two children in no order that may be anywhere in the plan
abbrev anywhere : ℕ → List ℕ → Spans
anywhere n positions = record { from = 0; to = n; positions = positions; start = λ a. 0; finish = λ a. n }

-- they keep to their spans
anywhere_spans : (n : ℕ) → AreSpans two_unordered (λ a. 0) (λ a. n) 0 n
anywhere_spans n = record { from = λ a. omega arith; to = λ a. omega arith; forward = λ a. omega arith; ordered = λ a b h. absurd (none_before a b h) }

-- ## The errand whose tool is at hand

-- where each child of the work starts: the step in gap 0, the actions around lines 0 and 2
abbrev starts : ℕ → ℕ
starts zero = 0
starts (suc zero) = 0
starts (suc (suc zero)) = 2
starts (suc (suc (suc a))) = 0

-- where each position has finished
abbrev finishes : ℕ → ℕ
finishes zero = 0
finishes (suc zero) = 1
finishes (suc (suc zero)) = 3
finishes (suc (suc (suc a))) = 0

-- each child starts before it finishes
forward : (a : ℕ) → starts a ≤ finishes a
forward zero = omega arith
forward (suc zero) = omega arith
forward (suc (suc zero)) = omega arith
forward (suc (suc (suc a))) = omega arith

-- and finishes within the plan
within : (a : ℕ) → finishes a ≤ 3
within zero = omega arith
within (suc zero) = omega arith
within (suc (suc zero)) = omega arith
within (suc (suc (suc a))) = omega arith

-- in their order
ordered : (a b : ℕ) → is_before three_in_order a b ≡ true → finishes a ≤ starts b
ordered zero b h = omega arith
ordered (suc zero) zero h = absurd cc
ordered (suc zero) (suc zero) h = absurd cc
ordered (suc zero) (suc (suc zero)) h = omega arith
ordered (suc zero) (suc (suc (suc b))) h = absurd cc
ordered (suc (suc zero)) zero h = absurd cc
ordered (suc (suc zero)) (suc zero) h = absurd cc
ordered (suc (suc zero)) (suc (suc zero)) h = absurd cc
ordered (suc (suc zero)) (suc (suc (suc b))) h = absurd cc
ordered (suc (suc (suc a))) b h = absurd cc

-- the details of the errand: the instance whose tool is at hand
abbrev errand_details : Details
errand_details = record { initial = 0; number = λ id. 2; gap = λ id a. 0 }

-- and its spans
abbrev errand_spans : AllSpans
errand_spans = record {
  root = anywhere 3 (1 ∷ 0 ∷ []);
  line = λ id. record { from = 0; to = 3; positions = 2 ∷ 1 ∷ []; start = starts; finish = finishes };
}

-- the second tool is at hand
abbrev tool_at_hand : List Literal
tool_at_hand = atom true (record { predicate = 1; arguments = 1 ∷ [] }) ∷ []

-- a state for each gap
abbrev States : Type 0
States = ℕ → State

-- the work's step holds in gap 0
work_steps : (states : States) → states 0 ≡ set_of errand.initial_atoms → (a : ℕ) (literals : List Literal) → slice_get (work_with 1).children a ≡ Some (precondition literals)
    → (starts a ≡ finishes a) × (holds (states (starts a)) literals ≡ true)
work_steps states first zero literals h =
    let same : tool_at_hand ≡ literals = cc in
    (refl, subst (λ ls. holds (states 0) ls ≡ true) same (ap (λ s. holds s tool_at_hand) first ∙ holds_shown errand.initial_atoms tool_at_hand))
work_steps states first (suc zero) literals h = absurd cc
work_steps states first (suc (suc zero)) literals h = absurd cc
work_steps states first (suc (suc (suc a))) literals h = absurd cc

-- which is the gap of its details
work_gaps : (a : ℕ) (literals : List Literal) → slice_get (work_with 1).children a ≡ Some (precondition literals) → errand_details.gap 3 a ≡ starts a
work_gaps zero literals h = refl
work_gaps (suc zero) literals h = absurd cc
work_gaps (suc (suc zero)) literals h = absurd cc
work_gaps (suc (suc (suc a))) literals h = absurd cc

-- two subtasks have no step
no_step : (c d : Child) → ((literals : List Literal) → c ≡ precondition literals → ⊥) → ((literals : List Literal) → d ≡ precondition literals → ⊥)
    → (a : ℕ) (literals : List Literal) → slice_get (c ∷ d ∷ []) a ≡ Some (precondition literals) → ⊥
no_step c d first second zero literals h = first literals cc
no_step c d first second (suc zero) literals h = second literals cc
no_step c d first second (suc (suc a)) literals h = absurd cc

-- the only line has room
errand_line_placed : (states : States) → states 0 ≡ set_of errand.initial_atoms → (line : DecompositionLine) → IsIn line (file_of 1 2 work).decompositions
    → LineHasRoomBy names problem (file_of 1 2 work) states errand_details errand_spans line
errand_line_placed states first line (inr i) = absurd i
errand_line_placed states first line (inl same) = subst (LineHasRoomBy names problem (file_of 1 2 work) states errand_details errand_spans) (sym same) (record {
  t = named 0;
  network = work_with 1;
  named = refl;
  is_instance = refl;
  method = refl;
  children = record {
    each_once = (1 ∷ [], [], refl, ([], [], refl, refl));
    children = (
      (action (named 2), refl, (2, action_line 2 2, refl, refl, refl, omega arith, omega arith)),
      ((action (named 1), refl, (0, action_line 0 1, refl, refl, refl, omega arith, omega arith)), refl),
    );
    spans = record { from = λ a. omega arith; to = within; forward = forward; ordered = ordered };
    steps = work_steps states first;
  };
  gaps = work_gaps;
})

-- so the details have a certificate
errand_certificate : (states : States) → states 0 ≡ set_of errand.initial_atoms → IsCertificate names problem (file_of 1 2 work) states errand_details errand_spans
errand_certificate states first = record {
  network = record { children = task (named 0) ∷ action (named 3) ∷ []; order = two_unordered };
  is_initial = refl;
  whole = omega arith;
  roots = record {
    each_once = (0 ∷ [], [], refl, ([], [], refl, refl));
    children = (
      (action (named 3), refl, (1, action_line 1 3, refl, refl, refl, omega arith, omega arith)),
      ((task (named 0), refl, (errand_line 3 work (2 ∷ 0 ∷ []), inl refl, refl, refl, omega arith, omega arith)), refl),
    );
    spans = anywhere_spans 3;
    steps = λ a literals h. absurd (no_step (task (named 0)) (action (named 3)) (λ l e. absurd cc) (λ l e. absurd cc) a literals h);
  };
  lines = errand_line_placed states first;
}

-- and its details are those
errand_detail : HasDetail names problem (file_of 1 2 work) 3 2 0
errand_detail =
    let verdict = files_have_verdicts.arranged in
    let run = lines_run names problem (file_of 1 2 work) verdict.2 in (
      errand_details,
      certified_details names problem (grounded_from errand refl) (file_of 1 2 work) _ errand_details errand_spans verdict.0 run (errand_certificate _ run.starts),
      refl,
      refl,
    )

-- ## The errand that waits

-- the atoms that lines leave
abbrev shown_lines : Sketch → List Atom → List ActionLine → Option (List Atom)
shown_lines k atoms [] = Some atoms
shown_lines k atoms (line ∷ lines) = option_and_then (λ next. shown_lines k next lines) (shown_action atoms (look_up k.actions (named (number_in line.name))))

-- lines over a set run as over its list
lines_shown : (k : Sketch) (lines : List ActionLine) (atoms : List Atom) → run_lines names (sketched k) (set_of atoms) lines ≡ option_map set_of (shown_lines k atoms lines)
lines_shown k [] atoms = refl
lines_shown k (line ∷ lines) atoms =
    ap (option_and_then (λ next. run_lines names (sketched k) next lines)) (action_shown atoms (look_up k.actions (named (number_in line.name))))
    ∙ by (shown_action atoms (look_up k.actions (named (number_in line.name)))) (lines_shown k lines)
  where
    by : (o : Option (List Atom)) → ((next : List Atom) → run_lines names (sketched k) (set_of next) lines ≡ option_map set_of (shown_lines k next lines))
        → option_and_then (λ next. run_lines names (sketched k) next lines) (option_map set_of o) ≡ option_map set_of (option_and_then (λ next. shown_lines k next lines) o)
    by None later = refl
    by (Some next) later = later next

-- the fact is made
waited_ends : Ends names waiting_problem waited true
waited_ends =
    (set_of (fact 0 ∷ []), lines_shown waiting waited.actions [], holds_shown (fact 0 ∷ []) waiting.goal)

-- its lines are a forest
waited_forest : IsForest waited
waited_forest = record {
  defined_once = (
    (λ h. elim h [ inl e ↦ omega arith | inr h ↦ elim h [ inl e ↦ omega arith | inr n ↦ n ] ]),
    ((λ h. elim h [ inl e ↦ omega arith | inr n ↦ n ]), ((λ h. h), tt)),
  );
  listed_once = (2 ∷ [], 1 ∷ [], refl, (2 ∷ [], [], refl, ([], [], refl, refl)));
  reached = by;
}
  where
    two : IsReached waited 2
    two = from_root 2 (inl refl)

    by : (id : ℕ) → IsIn id (0 ∷ 1 ∷ 2 ∷ []) → IsReached waited id
    by id (inl e) = subst (IsReached waited) (sym e) (from_root 0 (inr (inl refl)))
    by id (inr (inl e)) = subst (IsReached waited) (sym e) (from_parent 1 (errand_line 2 work (1 ∷ [])) (inl refl) two (inl refl))
    by id (inr (inr (inl e))) = subst (IsReached waited) (sym e) two
    by id (inr (inr (inr n))) = absurd n

-- the fact stands before the errand's step from gap 1 on
abbrev waits_at : List Literal
waits_at = atom true (fact 0) ∷ []

-- where each child of the errand has finished
abbrev wait_finishes : ℕ → ℕ
wait_finishes zero = 1
wait_finishes (suc a) = 2

-- no child finishes before gap 1
wait_forward : (a : ℕ) → 1 ≤ wait_finishes a
wait_forward zero = omega arith
wait_forward (suc a) = omega arith

-- and each within the plan
wait_within : (a : ℕ) → wait_finishes a ≤ 2
wait_within zero = omega arith
wait_within (suc a) = omega arith

-- in their order
wait_ordered : (a b : ℕ) → is_before two_in_order a b ≡ true → wait_finishes a ≤ 1
wait_ordered zero b h = omega arith
wait_ordered (suc zero) zero h = absurd cc
wait_ordered (suc zero) (suc zero) h = absurd cc
wait_ordered (suc zero) (suc (suc b)) h = absurd cc
wait_ordered (suc (suc a)) b h = absurd cc

-- the instance whose fact is made, in gap 1
abbrev waiting_details : Details
waiting_details = record { initial = 0; number = λ id. 2; gap = λ id a. 1 }

-- and its spans, from gap 1 on
abbrev waiting_spans : AllSpans
waiting_spans = record {
  root = anywhere 2 (1 ∷ 0 ∷ []);
  line = λ id. record { from = 1; to = 2; positions = 1 ∷ []; start = λ a. 1; finish = wait_finishes };
}

-- the states around the two lines
record AreKnown (states : States) : Type 0 where
  first : states 0 ≡ set_of []
  second : states 1 ≡ set_of (fact 0 ∷ [])
  third : states 2 ≡ set_of (fact 0 ∷ [])

-- are known
states_known : (states : States) → LinesRun names waiting_problem waited states → AreKnown states
states_known states run =
    let first = run.starts in
    let makes = run.performs 0 (action_line 0 1) refl in
    let idles = run.performs 1 (action_line 1 3) refl in
    let made : perform_line names waiting_problem (set_of []) (action_line 0 1) ≡ Some (set_of (fact 0 ∷ [])) = action_shown [] (look_up waiting.actions (named 1)) in
    let stays : perform_line names waiting_problem (set_of (fact 0 ∷ [])) (action_line 1 3) ≡ Some (set_of (fact 0 ∷ [])) = action_shown (fact 0 ∷ []) (look_up waiting.actions (named 3)) in
    let next : Some (states 1) ≡ Some (set_of (fact 0 ∷ [])) = sym makes ∙ ap (λ s. perform_line names waiting_problem s (action_line 0 1)) first ∙ made in
    let second : states 1 ≡ set_of (fact 0 ∷ []) = cc in
    let last : Some (states 2) ≡ Some (set_of (fact 0 ∷ [])) = sym idles ∙ ap (λ s. perform_line names waiting_problem s (action_line 1 3)) second ∙ stays in
    record { first = first; second = second; third = cc }

-- the step holds in gap 1
wait_steps : (states : States) → AreKnown states → (a : ℕ) (literals : List Literal) → slice_get (once 0).children a ≡ Some (precondition literals)
    → (1 ≡ wait_finishes a) × (holds (states 1) literals ≡ true)
wait_steps states known zero literals h =
    let same : waits_at ≡ literals = cc in
    (refl, subst (λ ls. holds (states 1) ls ≡ true) same (ap (λ s. holds s waits_at) known.second ∙ holds_shown (fact 0 ∷ []) waits_at))
wait_steps states known (suc zero) literals h = absurd cc
wait_steps states known (suc (suc a)) literals h = absurd cc

-- the only line has room
waited_line_placed : (states : States) → AreKnown states → (line : DecompositionLine) → IsIn line waited.decompositions
    → LineHasRoomBy names waiting_problem waited states waiting_details waiting_spans line
waited_line_placed states known line (inr i) = absurd i
waited_line_placed states known line (inl same) = subst (LineHasRoomBy names waiting_problem waited states waiting_details waiting_spans) (sym same) (record {
  t = named 0;
  network = once 0;
  named = refl;
  is_instance = refl;
  method = refl;
  children = record {
    each_once = ([], [], refl, refl);
    children = ((action (named 3), refl, (1, action_line 1 3, refl, refl, refl, omega arith, omega arith)), refl);
    spans = record { from = λ a. omega arith; to = wait_within; forward = wait_forward; ordered = wait_ordered };
    steps = wait_steps states known;
  };
  gaps = λ a literals h. refl;
})

-- so the details have a certificate
waiting_certificate : (states : States) → AreKnown states → IsCertificate names waiting_problem waited states waiting_details waiting_spans
waiting_certificate states known = record {
  network = record { children = action (named 1) ∷ task (named 0) ∷ []; order = two_unordered };
  is_initial = refl;
  whole = omega arith;
  roots = record {
    each_once = (0 ∷ [], [], refl, ([], [], refl, refl));
    children = (
      (task (named 0), refl, (errand_line 2 work (1 ∷ []), inl refl, refl, refl, omega arith, omega arith)),
      ((action (named 1), refl, (0, action_line 0 1, refl, refl, refl, omega arith, omega arith)), refl),
    );
    spans = anywhere_spans 2;
    steps = λ a literals h. absurd (no_step (action (named 1)) (task (named 0)) (λ l e. absurd cc) (λ l e. absurd cc) a literals h);
  };
  lines = waited_line_placed states known;
}

-- the states of its run
waited_runs : (states : States) × LinesRun names waiting_problem waited states
waited_runs = (_, lines_run names waiting_problem waited waited_ends)

-- its details are those
waited_detail : HasDetail names waiting_problem waited 2 2 1
waited_detail =
    let (states, run) = waited_runs in (
      waiting_details,
      certified_details names waiting_problem (grounded_from waiting refl) waited states waiting_details waiting_spans waited_forest run (waiting_certificate states (states_known states run)),
      refl,
      refl,
    )

-- what a list of atoms fails does not hold in its set
fails : (state : State) (atoms : List Atom) (literals : List Literal) → state ≡ set_of atoms → shown_holds atoms literals ≡ false → holds state literals ≡ true → ⊥
fails state atoms literals is shown h = both_ways (holds state literals) (ap (λ s. holds s literals) is ∙ holds_shown atoms literals ∙ shown) h

-- fact 1 is in no gap
never : (states : States) → AreKnown states → (gap : ℕ) → gap ≤ 2 → holds (states gap) (atom true (fact 1) ∷ []) ≡ true → ⊥
never states known zero low = fails (states 0) [] (atom true (fact 1) ∷ []) known.first refl
never states known (suc zero) low = fails (states 1) (fact 0 ∷ []) (atom true (fact 1) ∷ []) known.second refl
never states known (suc (suc zero)) low = fails (states 2) (fact 0 ∷ []) (atom true (fact 1) ∷ []) known.third refl
never states known (suc (suc (suc gap))) low = absurd (omega arith)

-- so the instance that needs fact 1 is none of the line's, and fact 0 isn't there at first
only_these : (states : States) → AreKnown states → (number gap : ℕ) (network : Network) → slice_get (nothing ∷ once 1 ∷ once 0 ∷ []) number ≡ Some network
    → work ≡ method_names number
    → ((literals : List Literal) → slice_get network.children 0 ≡ Some (precondition literals) → (gap ≤ 2) × (holds (states gap) literals ≡ true))
    → (number ≡ 2) × (gap ≡ 0 → ⊥)
only_these states known zero gap network is method steps = absurd cc
only_these states known (suc zero) gap network is method steps =
    let same : once 1 ≡ network = cc in
    let (low, h) = steps (atom true (fact 1) ∷ []) (ap (λ n. slice_get n.children 0) (sym same)) in
    absurd (never states known gap low h)
only_these states known (suc (suc zero)) gap network is method steps =
    let same : once 0 ≡ network = cc in
    let (low, h) = steps waits_at (ap (λ n. slice_get n.children 0) (sym same)) in
    (refl, λ none. fails (states 0) [] waits_at known.first refl (subst (λ k. holds (states k) waits_at ≡ true) none h))
only_these states known (suc (suc (suc number))) gap network is method steps = absurd cc

-- the action line of idling is the second one
idle_line : (i : ℕ) (line : ActionLine) → slice_get waited.actions i ≡ Some line → line.id ≡ 1 → i ≡ 1
idle_line zero line stands is = let same : action_line 0 1 ≡ line = cc in let id = ap (λ l. l.id) same in absurd (omega arith)
idle_line (suc zero) line stands is = refl
idle_line (suc (suc i)) line stands is = absurd cc

-- a line with this id is no decomposition line
no_decomposition : (line : DecompositionLine) → IsIn line waited.decompositions → line.id ≡ 1 → ⊥
no_decomposition line (inl same) is = let id = ap (λ l. l.id) same in omega arith
no_decomposition line (inr i) is = i

-- the child of an errand that idles starts by line 1
idle_starts : (states : States) (details : Details) (all_spans : AllSpans) (l : Spans)
    → HasRoomBy names waiting_problem waited states details all_spans (once 0) (1 ∷ []) l → l.start 1 ≤ 1
idle_starts states details all_spans l laid = by l.positions laid.children
  where
    by : (positions : List ℕ) → ArePlaced names waiting_problem waited states details all_spans (once 0).children l positions (1 ∷ []) → l.start 1 ≤ 1
    by [] placed = absurd placed
    by (zero ∷ positions) ((child, is, placed), more) =
        let same : precondition waits_at ≡ child = cc in
        absurd (subst (λ c. IsPlaced names waiting_problem waited states details all_spans c 1 (l.start 0) (l.finish 0)) (sym same) placed)
    by (suc zero ∷ positions) ((child, is, placed), more) =
        let same : action (named 3) ≡ child = cc in
        let (i, line, stands, id, names_it, low, high) = subst (λ c. IsPlaced names waiting_problem waited states details all_spans c 1 (l.start 1) (l.finish 1)) (sym same) placed in
        let second = idle_line i line stands id in
        omega arith
    by (suc (suc a) ∷ positions) ((child, is, placed), more) = absurd cc

-- so the step holds by then
only_gap : (states : States) (details : Details) → (all_spans : AllSpans) × IsCertificate names waiting_problem waited states details all_spans → details.number 2 ≡ 2 → details.gap 2 0 ≤ 1
only_gap states details (all_spans, certificate) number =
    let line = errand_line 2 work (1 ∷ []) in
    let l = all_spans.line 2 in
    let placed = certificate.lines line (inl refl) in
    let tasks : Some (named 0) ≡ Some placed.t = placed.named in
    let t : placed.t ≡ named 0 = cc in
    let there : slice_get (waiting_problem.methods_of (named 0)) 2 ≡ Some placed.network =
    subst (λ k. slice_get (waiting_problem.methods_of (named 0)) k ≡ Some placed.network) number
    (subst (λ u. slice_get (waiting_problem.methods_of u) (details.number 2) ≡ Some placed.network) t placed.is_instance) in
    let same : once 0 ≡ placed.network = cc in
    let laid = subst (λ n. HasRoomBy names waiting_problem waited states details all_spans n (1 ∷ []) l) (sym same) placed.children in
    let idles = idle_starts states details all_spans l laid in
    let before = laid.spans.ordered 0 1 refl in
    let step = (laid.steps 0 waits_at refl).0 in
    let gap = placed.gaps 0 waits_at (ap (λ n. slice_get n.children 0) (sym same)) in
    omega arith

-- whatever the details are
only_details : (details : Details) → AreDetails names waiting_problem waited details → (details.number 2 ≡ 2) × (details.gap 2 0 ≡ 1)
only_details details are =
    let (states, run) = waited_runs in
    let d = lines_are_detailed names waiting_problem waited states details run are (errand_line 2 work (1 ∷ [])) (inl refl) in
    let tasks : Some (named 0) ≡ Some d.t = d.named in
    let t : d.t ≡ named 0 = cc in
    let only = only_these states (states_known states run) (details.number 2) (details.gap 2 0) d.network
    (subst (λ u. slice_get (waiting_problem.methods_of u) (details.number 2) ≡ Some d.network) t d.is_instance) d.method (d.steps 0) in
    let late = only_gap states details ((certificates_decide names waiting_problem (grounded_from waiting refl) waited states details waited_forest run).1 are) only.0 in
    (only.0, elim (cases_lt (details.gap 2 0) 1) [ inl none ↦ absurd (only.1 (omega arith)) | inr some ↦ omega arith ])

-- the files have these details
pub files_have_details : FilesHaveDetails
files_have_details = record { at_hand = errand_detail; waits = waited_detail; only = only_details }
