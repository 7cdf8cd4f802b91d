-- The table of what lines name, and the tasks in it.
use Rattle.std.proofs.Common.{◌≡◌, ℕ, zero, suc, ◌+◌, ◌<◌, List, [], ◌∷◌, ◌++◌, length, map, take, get_or, Option, Some, None, slice_get, refl, sym, ap, ◌∙◌, arith, ap₂}
use Rattle.std.specs.List.{AllByRecursion, flat_map}
use Rattle.std.specs.Option.{option_to_list}
use Rattle.std.proofs.lemmas.List.{append-nil, get_or-map, length-append, length-map}
use Rattle.std.proofs.lemmas.Option.{slice_get_within}
use Rattle.htn_model.specs.Problem.{GroundTask, Problem}
use Rattle.htn_model.specs.PlanFile.{ActionLine, DecompositionLine, PlanFile, Naming}
use Rattle.htn_model.specs.Verdict.{HasInstance, AllHave, action_lines, decomposition_lines, root_line}
use Rattle.plan_text.specs.Plans.{AreTasks}
use Rattle.htn_verify.specs.Named.{action_task, decomposition_task, named_tasks, named_at}
use Rattle.htn_verify.specs.Runs.{AreTasksOf}
use Rattle.htn_verify.specs.Tasks.{AreNamedAs, task_at}

-- what stands at a place of a mapped list
mapped_at : {X Y : Type 0} (f : X → Y) (xs : List X) (more : List Y) (d : Y) (i : ℕ) (x : X) → slice_get xs i ≡ Some x → get_or (map f xs ++ more) i d ≡ f x
mapped_at f [] more d i x at = absurd cc
mapped_at f (y ∷ xs) more d zero x at = let same : y ≡ x = cc in ap f same
mapped_at f (y ∷ xs) more d (suc i) x at = mapped_at f xs more d i x at

-- and past it
mapped_past : {X Y : Type 0} (f : X → Y) (xs : List X) (more : List Y) (d : Y) (j : ℕ) → get_or (map f xs ++ more) (length xs + j) d ≡ get_or more j d
mapped_past f [] more d j = ap (λ n. get_or more n d) (omega arith)
mapped_past f (x ∷ xs) more d j =
    let e : length (x ∷ xs) + j ≡ suc (length xs + j) = omega arith in
    ap (λ n. get_or (map f (x ∷ xs) ++ more) n d) e ∙ mapped_past f xs more d j

-- the table is what the lines name
pub are_named : (naming : Naming) (file : PlanFile) → AreNamedAs naming file (named_at (named_tasks naming file))
are_named naming file =
    let first = action_task naming in
    let second = decomposition_task naming in
    let more = map second file.decompositions in
    record {
      actions = λ i line at. sym (mapped_at first file.actions more None i line at);
      decompositions = λ j line at. sym
          (mapped_past first file.actions more None j
          ∙ ap (λ ts. get_or ts j None) (sym (append-nil more)) ∙ mapped_at second file.decompositions [] None j line at);
    }

-- ## Tasks alone

-- each entry is a task
abbrev AreSome : List (Option GroundTask) → Type 0
AreSome named = AllByRecursion (λ o. (t : GroundTask) × (o ≡ Some t)) named

-- nothing is left out where each is a task
kept : (named : List (Option GroundTask)) → AreSome named → map Some (flat_map option_to_list named) ≡ named
kept [] all = refl
kept (None ∷ named) all = absurd cc
kept (Some t ∷ named) all = ap (λ ts. Some t ∷ ts) (kept named all.1)

-- what holds of two lists holds of both together
pub all_joined : {X : Type 0} (P : X → Type 0) (xs ys : List X) → AllByRecursion P xs → AllByRecursion P ys → AllByRecursion P (xs ++ ys)
all_joined P [] ys first second = second
all_joined P (x ∷ xs) ys first second = (first.0, all_joined P xs ys first.1 second)

-- the first part of such a list
pub all_first : {X : Type 0} (P : X → Type 0) (xs ys : List X) → AllByRecursion P (xs ++ ys) → AllByRecursion P xs
all_first P [] ys all = tt
all_first P (x ∷ xs) ys all = (all.0, all_first P xs ys all.1)

-- and the second
pub all_second : {X : Type 0} (P : X → Type 0) (xs ys : List X) → AllByRecursion P (xs ++ ys) → AllByRecursion P ys
all_second P [] ys all = all
all_second P (x ∷ xs) ys all = all_second P xs ys all.1

module _ (naming : Naming) (problem : Problem) (file : PlanFile) where
  -- action lines with instances name tasks
  actions_named : (lines : List ActionLine) → AllByRecursion (HasInstance naming problem file) (action_lines lines) → AreSome (map (action_task naming) lines)
  actions_named [] all = tt
  actions_named (line ∷ lines) all = ((all.0.0, all.0.2), actions_named lines all.1)

  -- and decomposition lines do
  decompositions_named : (lines : List DecompositionLine) → AllByRecursion (HasInstance naming problem file) (decomposition_lines lines)
      → AreSome (map (decomposition_task naming) lines)
  decompositions_named [] all = tt
  decompositions_named (line ∷ lines) all = ((all.0.0, all.0.3), decompositions_named lines all.1)

  -- so nothing is left out of their table
  pub all_named : AllHave naming problem file → (named : List (Option GroundTask)) (tasks : List GroundTask) → named ≡ named_tasks naming file
      → tasks ≡ flat_map option_to_list named → map Some tasks ≡ named_tasks naming file
  all_named all named tasks is alone =
      let Has = HasInstance naming problem file in
      let lines = action_lines file.actions in
      let others = decomposition_lines file.decompositions in
      let own = all_first Has (lines ++ others) (root_line file.roots ∷ []) all in
      let some = all_joined _ (map (action_task naming) file.actions) (map (decomposition_task naming) file.decompositions)
      (actions_named file.actions (all_first Has lines others own)) (decompositions_named file.decompositions (all_second Has lines others own)) in
      ap (map Some) (alone ∙ ap (flat_map option_to_list) is) ∙ kept (named_tasks naming file) some

module _ (naming : Naming) (file : PlanFile) (tasks : List GroundTask) (is : map Some tasks ≡ named_tasks naming file) where
  -- as many tasks as lines
  pub task_count : length tasks ≡ length file.actions + length file.decompositions
  task_count =
      sym (length-map tasks Some) ∙ ap length is ∙ length-append (map (action_task naming) file.actions) (map (decomposition_task naming) file.decompositions)
      ∙ ap₂ ◌+◌ (length-map file.actions (action_task naming)) (length-map file.decompositions (decomposition_task naming))

  -- what stands at a place of the table is that task
  one_named : (i : ℕ) → i < length tasks → named_at (named_tasks naming file) i ≡ Some (task_at tasks i)
  one_named i low = ap (λ ts. get_or ts i None) (sym is) ∙ get_or-map Some tasks i (record { name = 0; arguments = [] }) None low

  -- the lines have these tasks
  pub are_tasks : AreTasks naming file (task_at tasks)
  are_tasks =
      let named = are_named naming file in
      let count = task_count in
      record {
        actions = λ i line at. (let low = slice_get_within file.actions i line at in named.actions i line at ∙ one_named i (omega arith));
        decompositions = λ j line at. (let low = slice_get_within file.decompositions j line at in named.decompositions j line at ∙ one_named (length file.actions + j) (omega arith));
      }

-- the first tasks are those of the first lines
first_of : (naming : Naming) (lines : List ActionLine) (more : List (Option GroundTask)) (tasks : List GroundTask) → map Some tasks ≡ map (action_task naming) lines ++ more
    → AreTasksOf naming lines (take (length lines) tasks)
first_of naming [] more tasks is = refl
first_of naming (line ∷ lines) more [] is = absurd cc
first_of naming (line ∷ lines) more (t ∷ tasks) is =
    let head : Some t ≡ action_task naming line = cc in
    let tail : map Some tasks ≡ map (action_task naming) lines ++ more = cc in
    (sym head, first_of naming lines more tasks tail)

-- so the action lines have the first ones
pub action_tasks : (naming : Naming) (file : PlanFile) (tasks : List GroundTask) → map Some tasks ≡ named_tasks naming file
    → AreTasksOf naming file.actions (take (length file.actions) tasks)
action_tasks naming file tasks is = first_of naming file.actions (map (decomposition_task naming) file.decompositions) tasks is
