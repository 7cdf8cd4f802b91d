-- Whether the lines of a plan file are a forest and have instances can be decided.
use Rattle.std.proofs.Common.{◌≡◌, ℕ, zero, suc, ◌≤◌, List, [], ◌∷◌, ◌++◌, length, Option, Some, None, slice_get, option_and_then, bytes_eq, ◌⊎◌, inl, inr, sym, refl, ap, ◌∙◌, subst, arith}
use Rattle.std.proofs.lemmas.List.{length-append}
use Rattle.std.proofs.lemmas.Slice.Eq.{bytes_eq-Decides}
use Rattle.htn_model.specs.Equality.{ground_task_eq-decides}
use Rattle.htn_model.specs.Literal.{Action}
use Rattle.htn_model.specs.State.{State}
use Rattle.htn_model.specs.PlanFile.{Word, ActionLine, DecompositionLine, PlanFile, Naming, IsRearrangementOf, IsIn, IsReached, from_root, from_parent, IsForest, defined_ids, listed_ids}
use Rattle.htn_model.specs.Problem.{GroundTask, ground_task_eq, Network, Problem}
use Rattle.htn_model.specs.Verdict.{Line, action_line, decomposition_line, root_line, Names, an_action, a_task, subtasks, AreNamed, AreSubtasks, HasInstance, perform_line, run_lines}
use Rattle.htn_model.proofs.Ascending.{in_left, in_right, in_split}
use Rattle.htn_model.proofs.Rearranged.{in_narrower, in_wider, split_in}
use Rattle.htn_review.proofs.Decided.{Decided, by_test, both, either, likewise, numbers_equal, some_in, each_in, some_at, number_in, without_repeats, Split, some_split, rearranged}

-- ## A forest

-- Ids that are reached so far: all are, and the lines below them that are not yet gone through remain.
record Walk (file : PlanFile) (reached : List ℕ) (remaining : List DecompositionLine) : Type 0 where
  sound : (id : ℕ) → IsIn id reached → IsReached file id
  roots : (id : ℕ) → IsIn id file.roots → IsIn id reached
  some : (line : DecompositionLine) → IsIn line remaining → IsIn line file.decompositions
  others : (line : DecompositionLine) → IsIn line file.decompositions → IsIn line remaining ⊎ ((id : ℕ) → IsIn id line.children → IsIn id reached)

-- exactly these ids are reached
abbrev AreReached : PlanFile → List ℕ → Type 0
AreReached file reached = ((id : ℕ) → IsIn id reached → IsReached file id) × ((id : ℕ) → IsReached file id → IsIn id reached)

-- a walk that finds no line below what is reached has reached all
walked : (file : PlanFile) (reached : List ℕ) (remaining : List DecompositionLine) → Walk file reached remaining
    → ((line : DecompositionLine) → IsIn line remaining → IsIn line.id reached → ⊥) → (id : ℕ) → IsReached file id → IsIn id reached
walked file reached remaining walk none id (from_root _ i) = walk.roots id i
walked file reached remaining walk none id (from_parent _ line there above i) =
    elim (walk.others line there) [
      | inl left ↦ absurd (none line left (walked file reached remaining walk none line.id above))
      | inr gone ↦ gone id i
    ]

-- one more line is gone through
onward : (file : PlanFile) (reached : List ℕ) (left : List DecompositionLine) (line : DecompositionLine) (right : List DecompositionLine)
    → IsIn line.id reached → Walk file reached (left ++ line ∷ right) → Walk file (reached ++ line.children) (left ++ right)
onward file reached left line right here walk =
    let there : IsIn line file.decompositions = walk.some line (in_right line left (line ∷ right) (inl refl)) in
    record {
      sound = λ id i. elim (in_split id reached line.children i) [
        | inl old ↦ walk.sound id old
        | inr new ↦ from_parent id line there (walk.sound line.id here) new
      ];
      roots = λ id i. in_left id reached line.children (walk.roots id i);
      some = λ other i. walk.some other (in_wider other line left right i);
      others = λ other i. elim (walk.others other i) [
        | inl stays ↦ elim (in_narrower other line left right stays) [
          | inl same ↦ inr (λ id j. in_right id reached line.children (subst (λ (l : DecompositionLine). IsIn id l.children) same j))
          | inr still ↦ inl still
        ]
        | inr gone ↦ inr (λ id j. in_left id reached line.children (gone id j))
      ];
    }

-- the ids that are reached are a list
reach : (file : PlanFile) (steps : ℕ) (reached : List ℕ) (remaining : List DecompositionLine) → length remaining ≤ steps → Walk file reached remaining
    → (all : List ℕ) × AreReached file all
reach file zero reached [] short walk = (reached, (walk.sound, walked file reached [] walk (λ line i h. i)))
reach file zero reached (line ∷ remaining) short walk = absurd (omega arith)
reach file (suc steps) reached remaining short walk =
    by (some_split (λ left line right. IsIn line.id reached) (λ left line right. number_in line.id reached) remaining)
    (λ left line right is. reach file steps (reached ++ line.children) (left ++ right) (shorter left line right is))
  where
    shorter : (left : List DecompositionLine) (line : DecompositionLine) (right : List DecompositionLine) → remaining ≡ left ++ line ∷ right → length (left ++ right) ≤ steps
    shorter left line right is =
        let a = ap length is ∙ length-append left (line ∷ right) in
        let b = length-append left right in omega (arith, a, b, short)

    by : Decided (Split (λ left line right. IsIn line.id reached) remaining)
        → ((left : List DecompositionLine) (line : DecompositionLine) (right : List DecompositionLine) → remaining ≡ left ++ line ∷ right
        → Walk file (reached ++ line.children) (left ++ right) → (all : List ℕ) × AreReached file all)
        → (all : List ℕ) × AreReached file all
    by (inl (left, line, right, is, here)) more = more left line right is (onward file reached left line right here (subst (Walk file reached) is walk))
    by (inr none) more = (
      reached,
      (walk.sound, walked file reached remaining walk (λ line i h. let s = split_in line remaining i in none (s.left, line, s.right, s.is, h))),
    )

-- the lines of a file are a forest
pub forest_decided : (file : PlanFile) → Decided (IsForest file)
forest_decided file =
    likewise (λ h. record { defined_once = h.0; listed_once = h.1; reached = h.2 }) (λ f. (f.defined_once, f.listed_once, f.reached))
    (both_of (without_repeats (defined_ids file)) (both (rearranged (defined_ids file) (listed_ids file))
    (each_in (IsReached file) (λ id. likewise (all.1.0 id) (all.1.1 id) (number_in id all.0)) (defined_ids file))))
  where
    all : (all : List ℕ) × AreReached file all
    all = reach file (length file.decompositions) file.roots file.decompositions (omega arith)
        (record { sound = λ id i. from_root id i; roots = λ id i. i; some = λ line i. i; others = λ line i. inl i })

    both_of : {A B C : Type 0} → Decided A → Decided (B × C) → Decided (A × B × C)
    both_of a bc = likewise (λ h. (h.0, h.1.0, h.1.1)) (λ h. (h.0, (h.1, h.2))) (both a bc)

-- ## Lines with instances

-- an option has a given task
is_task : (o : Option GroundTask) (g : GroundTask) → Decided (o ≡ Some g)
is_task None g = inr (λ e. absurd cc)
is_task (Some h) g = likewise (λ e. ap Some e) (λ e. (let same : h ≡ g = cc in same)) (by_test (ground_task_eq h g) (ground_task_eq-decides h g))

-- an option has something with a property
with_some : {X : Type 0} (P : X → Type 0) → ((x : X) → Decided (P x)) → (o : Option X) → Decided ((x : X) × (o ≡ Some x) × P x)
with_some P d None = inr (λ h. let none : None ≡ Some h.0 = h.1 in absurd cc)
with_some {X = X} P d (Some y) = by (d y)
  where
    by : Decided (P y) → Decided ((x : X) × (Some y ≡ Some x) × P x)
    by (inl h) = inl (y, refl, h)
    by (inr never) = inr (λ h. never (let is : Some y ≡ Some h.0 = h.1 in let same : h.0 ≡ y = cc in subst P same h.2))

module _ (naming : Naming) (problem : Problem) (file : PlanFile) where
  -- a line of either kind with the id that names the task
  abbrev HasLine : ℕ → GroundTask → Type 0
  HasLine id g =
      ((line : ActionLine) × IsIn line file.actions × ((line.id ≡ id) × (naming.named line.name line.arguments ≡ Some g)))
      ⊎ ((line : DecompositionLine) × IsIn line file.decompositions × ((line.id ≡ id) × (naming.named line.task line.arguments ≡ Some g)))

  -- the line that names a task
  line_named : (id : ℕ) (g : GroundTask) → Names naming file id g → HasLine id g
  line_named id g (an_action line _ there named) = inl (line, there, (refl, named))
  line_named id g (a_task line _ there named) = inr (line, there, (refl, named))

  -- and back
  named_line : (id : ℕ) (g : GroundTask) → HasLine id g → Names naming file id g
  named_line id g (inl (line, there, h)) = subst (λ k. Names naming file k g) h.0 (an_action line g there h.1)
  named_line id g (inr (line, there, h)) = subst (λ k. Names naming file k g) h.0 (a_task line g there h.1)

  -- the line with an id has a task
  named : (id : ℕ) (g : GroundTask) → Decided (Names naming file id g)
  named id g =
      likewise (named_line id g) (line_named id g)
      (either
      (some_in (λ (line : ActionLine). (line.id ≡ id) × (naming.named line.name line.arguments ≡ Some g))
      (λ line. both (numbers_equal line.id id) (is_task (naming.named line.name line.arguments) g)) file.actions)
      (some_in (λ (line : DecompositionLine). (line.id ≡ id) × (naming.named line.task line.arguments ≡ Some g))
      (λ line. both (numbers_equal line.id id) (is_task (naming.named line.task line.arguments) g)) file.decompositions))

  -- the tasks of ids, cut where the ids are
  cut_tasks : (left : List ℕ) (id : ℕ) (right : List ℕ) (tasks : List GroundTask) → AreNamed naming file (left ++ id ∷ right) tasks
      → Split (λ before g after. Names naming file id g × AreNamed naming file (left ++ right) (before ++ after)) tasks
  cut_tasks [] id right [] h = absurd h
  cut_tasks [] id right (g ∷ tasks) h = ([], g, tasks, refl, h)
  cut_tasks (k ∷ left) id right [] h = absurd h
  cut_tasks (k ∷ left) id right (g ∷ tasks) h =
      let (before, t, after, is, names) = cut_tasks left id right tasks h.1 in
      (g ∷ before, t, after, ap (λ ts. g ∷ ts) is, (names.0, (h.0, names.1)))

  -- and the ids, cut where the tasks are
  cut_ids : (before : List GroundTask) (g : GroundTask) (after : List GroundTask) (id : ℕ) (ids : List ℕ) → Names naming file id g → AreNamed naming file ids (before ++ after)
      → (left : List ℕ) × (right : List ℕ) × (ids ≡ left ++ right) × AreNamed naming file (left ++ id ∷ right) (before ++ g ∷ after)
  cut_ids [] g after id ids here h = ([], ids, refl, (here, h))
  cut_ids (t ∷ before) g after id [] here h = absurd (let e : t ∷ before ++ after ≡ [] = h in cc)
  cut_ids (t ∷ before) g after id (k ∷ ids) here h =
      let (left, right, is, names) = cut_ids before g after id ids here h.1 in
      (k ∷ left, right, ap (λ ks. k ∷ ks) is, (h.0, names))

  -- some rearrangement of ids names tasks
  abbrev Arranged : List ℕ → List GroundTask → Type 0
  Arranged ids tasks = (arranged : List ℕ) × IsRearrangementOf ids arranged × AreNamed naming file arranged tasks

  -- whether numbers, rearranged, name these tasks can be decided
  arranged : (ids : List ℕ) (tasks : List GroundTask) → Decided (Arranged ids tasks)
  arranged [] [] = inl ([], refl, refl)
  arranged [] (g ∷ tasks) = inr (λ h. let none : g ∷ tasks ≡ [] = subst (λ ids. AreNamed naming file ids (g ∷ tasks)) h.1 h.2 in absurd cc)
  arranged (id ∷ ids) tasks =
      likewise to back
      (some_split (λ before g after. Names naming file id g × Arranged ids (before ++ after)) (λ before g after. both (named id g) (arranged ids (before ++ after))) tasks)
    where
      to : Split (λ before g after. Names naming file id g × Arranged ids (before ++ after)) tasks → Arranged (id ∷ ids) tasks
      to (before, g, after, is, (here, (rest, r, names))) =
          let (left, right, cut, all) = cut_ids before g after id rest here names in
          (left ++ id ∷ right, (left, right, refl, subst (IsRearrangementOf ids) cut r), subst (AreNamed naming file (left ++ id ∷ right)) (sym is) all)

      back : Arranged (id ∷ ids) tasks → Split (λ before g after. Names naming file id g × Arranged ids (before ++ after)) tasks
      back (all, (left, right, is, r), names) =
          let (before, g, after, cut, parts) = cut_tasks left id right tasks (subst (λ ks. AreNamed naming file ks tasks) is names) in
          (before, g, after, cut, (parts.0, (left ++ right, r, parts.1)))

  -- two words are equal
  words_equal : (v w : Word) → Decided (v ≡ w)
  words_equal v w = by_test (bytes_eq v w) (bytes_eq-Decides v w)

  -- a line has an instance
  pub instance_decided : (line : Line) → Decided (HasInstance naming problem file line)
  instance_decided (action_line line) =
      likewise (λ h. (h.0, h.2.0, h.1, h.2.1)) (λ h. (h.0, h.2, (h.1, h.3)))
      (with_some (λ g. (a : Action) × (problem.action_of g ≡ Some a)) (λ g. action_there (problem.action_of g)) (naming.named line.name line.arguments))
    where
      action_there : (o : Option Action) → Decided ((a : Action) × (o ≡ Some a))
      action_there None = inr (λ h. let none : None ≡ Some h.0 = h.1 in absurd cc)
      action_there (Some a) = inl (a, refl)
  instance_decided (decomposition_line line) =
      likewise (λ h. (h.0, h.2.0, h.2.1, h.1, h.2.2, h.2.3.0, h.2.3.1)) (λ h. (h.0, h.3, (h.1, h.2, h.4, (h.5, h.6))))
      (with_some
      (λ t. (number : ℕ) × (network : Network) × (slice_get (problem.methods_of t) number ≡ Some network) × ((line.method ≡ naming.method_name t number) × AreSubtasks naming file line.children network))
      (λ t. some_at (λ number network. (line.method ≡ naming.method_name t number) × AreSubtasks naming file line.children network) (problem.methods_of t)
      (λ number network is. both (words_equal line.method (naming.method_name t number)) (arranged line.children (subtasks network.children))))
      (naming.named line.task line.arguments))
  instance_decided (root_line ids) =
      some_at (λ number network. AreSubtasks naming file ids network) problem.initials (λ number network is. arranged ids (subtasks network.children))

  -- ## Their run

  -- lines run from a state to another, or one of them is the first that can't
  pub line_run : (state : State) (lines : List ActionLine)
      → ((end : State) × (run_lines naming problem state lines ≡ Some end))
      ⊎ Split (λ before line others. (reached : State) × (run_lines naming problem state before ≡ Some reached) × (perform_line naming problem reached line ≡ None)) lines
  line_run state [] = inl (state, refl)
  line_run state (line ∷ lines) = by (perform_line naming problem state line) refl (λ next. line_run next lines)
    where
      by : (o : Option State) → perform_line naming problem state line ≡ o
          → ((next : State)
          → ((end : State) × (run_lines naming problem next lines ≡ Some end))
          ⊎ Split (λ before other others. (reached : State) × (run_lines naming problem next before ≡ Some reached) × (perform_line naming problem reached other ≡ None)) lines)
          → ((end : State) × (run_lines naming problem state (line ∷ lines) ≡ Some end))
          ⊎ Split (λ before other others. (reached : State) × (run_lines naming problem state before ≡ Some reached) × (perform_line naming problem reached other ≡ None)) (line ∷ lines)
      by None e more = inr ([], line, lines, refl, (state, refl, e))
      by (Some next) e more = elim (more next) [
        | inl ends ↦ inl (ends.0, ap (option_and_then (λ s. run_lines naming problem s lines)) e ∙ ends.1)
        | inr fails ↦ inr (
          line ∷ fails.0,
          fails.1,
          fails.2,
          ap (λ ls. line ∷ ls) fails.3,
          (fails.4.0, ap (option_and_then (λ s. run_lines naming problem s fails.0)) e ∙ fails.4.1, fails.4.2),
        )
      ]
