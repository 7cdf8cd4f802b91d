-- Taking the children's tasks from what is left, one subtask at a time.
use Rattle.std.proofs.Common.{◌≡◌, ◌↔◌, ◌∙◌, ◌+◌, ◌<◌, ◌≤◌, ◌++◌, ◌∷◌, ℕ, zero, suc, Bool, true, false, List, [], IfNone, IfSome, Option, Some, None, ap, arith, get_or, length, map, nat_eq, refl, slice_get, subst, sym, take}
use Rattle.std.specs.Cmp.{unsigned_Decides}
use Rattle.std.proofs.lemmas.List.{map-append}
use Rattle.std.proofs.lemmas.Option.{slice_get-get_or}
use Rattle.htn_model.specs.Equality.{ground_task_eq-decides}
use Rattle.htn_model.specs.Instances.{Conditions, ground_task, is_instance, value_of}
use Rattle.htn_model.specs.Problem.{GroundTask, ground_task_eq}
use Rattle.htn_model.specs.Schema.{TaskSchema}
use Rattle.htn_model.specs.Task.{Task}
use Rattle.plan_lines.specs.Allowed.{HasInstanceWith}
use Rattle.plan_lines.specs.Given.{Extends}
use Rattle.plan_lines.specs.Left.{Fill, ShowsWith, left_of, once, times}
use Rattle.plan_lines.proofs.Left.{at_place, left_there, mapped_more, place_of}
use Rattle.plan_lines.proofs.Times.{times-append, times_itself}

-- ## Schemas whose tasks are taken

-- subtasks that are taken from what is left leave just those that are kept
pub settled : (tasks : List GroundTask) (old new : List ℕ) (schemas kept : List TaskSchema) (values : List ℕ)
    → ((g : GroundTask) → times g (map (ground_task values) schemas) + left_of tasks new g ≡ times g (map (ground_task values) kept) + left_of tasks old g)
    → Fill tasks old schemas values ↔ Fill tasks new kept values
settled tasks old new schemas kept values taken = (
  λ fill g. let a = taken g in let b = fill g in omega (arith, a, b),
  λ fill g. let a = taken g in let b = fill g in omega (arith, a, b),
)

-- equal tasks count once
pub once_same : (g h : GroundTask) → g ≡ h → once (ground_task_eq g h) ≡ 1
once_same g h e = ap once ((ground_task_eq-decides g h).1 e)

-- ## Schemas one by one

module _ {S : Type 0} (at : S → TaskSchema) (values : List ℕ) (schemas : List S) where
  -- the ground tasks of schemas
  abbrev pub grounded : List S → List GroundTask
  grounded xs = map (ground_task values) (map at xs)

  -- the first of them stand there no more often than all
  part : (g : GroundTask) (n : ℕ) (xs : List S) → times g (grounded (take n xs)) ≤ times g (grounded xs)
  part g zero xs = omega arith
  part g (suc n) [] = omega arith
  part g (suc n) (x ∷ xs) = let e = part g n xs in omega (arith, e)

  -- one schema more counts its own task
  pub one_more : (g : GroundTask) (i : ℕ) (s : S) → i < length schemas → s ≡ get_or schemas i s
      → times g (grounded (take (i + 1) schemas)) ≡ times g (grounded (take i schemas)) + once (ground_task_eq g (ground_task values (at s)))
  one_more g i s below is =
      let e : grounded (take (i + 1) schemas) ≡ grounded (take i schemas) ++ ground_task values (at s) ∷ [] =
      ap (map (ground_task values)) (mapped_more at schemas i s below is) ∙ map-append (ground_task values) (map at (take i schemas)) (at s ∷ []) in
      let f = ap (times g) e in
      let h = times-append g (grounded (take i schemas)) (ground_task values (at s) ∷ []) in
      omega (arith, f, h)

  -- what was taken so far
  abbrev pub Taken : List GroundTask → List ℕ → List ℕ → List TaskSchema → ℕ → Type 0
  Taken tasks old new kept i = (g : GroundTask) → times g (grounded (take i schemas)) + left_of tasks new g ≡ times g (map (ground_task values) kept) + left_of tasks old g

  -- a schema whose task isn't left
  pub missing : (tasks : List GroundTask) (old new : List ℕ) (kept : List TaskSchema) (i : ℕ) (s : S) (x : GroundTask) → i < length schemas → s ≡ get_or schemas i s
      → ground_task values (at s) ≡ x → Taken tasks old new kept i → left_of tasks new x ≡ 0 → Fill tasks old (map at schemas) values → ⊥
  missing tasks old new kept i s x below is same taken none fill =
      let a = one_more x i s below is in
      let b : once (ground_task_eq x (ground_task values (at s))) ≡ 1 = once_same x (ground_task values (at s)) (sym same) in
      let e = taken x in
      let f = fill x in
      let h = part x (i + 1) schemas in
      absurd (omega (arith, a, b, e, f, h, none))

  -- a schema whose task is taken
  pub taken_more : (tasks : List GroundTask) (old now new : List ℕ) (kept : List TaskSchema) (i : ℕ) (s : S) (x : GroundTask) → i < length schemas → s ≡ get_or schemas i s
      → ground_task values (at s) ≡ x → Taken tasks old now kept i → ((g : GroundTask) → left_of tasks now g ≡ once (ground_task_eq g x) + left_of tasks new g) → Taken tasks old new kept (i + 1)
  taken_more tasks old now new kept i s x below is same taken less g =
      let a = one_more g i s below is in
      let b : once (ground_task_eq g (ground_task values (at s))) ≡ once (ground_task_eq g x) = ap (λ h. once (ground_task_eq g h)) same in
      let e = taken g in
      let f = less g in
      omega (arith, a, b, e, f)

  -- a schema that is kept
  pub kept_more : (tasks : List GroundTask) (old new : List ℕ) (kept more : List TaskSchema) (i : ℕ) (s : S) → i < length schemas → s ≡ get_or schemas i s
      → more ≡ kept ++ at s ∷ [] → Taken tasks old new kept i → Taken tasks old new more (i + 1)
  kept_more tasks old new kept more i s below is pushed taken g =
      let a = one_more g i s below is in
      let e = taken g in
      let f = ap (λ l. times g (map (ground_task values) l)) pushed in
      let h = ap (times g) (map-append (ground_task values) kept (at s ∷ [])) in
      let m = times-append g (map (ground_task values) kept) (ground_task values (at s) ∷ []) in
      omega (arith, a, e, f, h, m)

-- ## A schema that is one of the children

-- a task with the schema's name and arguments is its own
pub same_task : (task : GroundTask) (schema : TaskSchema) (values : List ℕ) → task.name ≡ schema.name → map (value_of values) schema.arguments ≡ task.arguments → ground_task values schema ≡ task
same_task task schema values name arguments = λ i. record { name = sym name i; arguments = arguments i }

-- the first subtask is matched with one that is left
pub placed : (tasks : List GroundTask) (left fewer : List ℕ) (first : TaskSchema) (rest : List TaskSchema) (values : List ℕ) (c : GroundTask) → ground_task values first ≡ c
    → ((g : GroundTask) → left_of tasks left g ≡ once (ground_task_eq g c) + left_of tasks fewer g) → Fill tasks left (first ∷ rest) values ↔ Fill tasks fewer rest values
placed tasks left fewer first rest values c same taken = (
  λ fill g. let a = fill g in let b = taken g in let e : once (ground_task_eq g (ground_task values first)) ≡ once (ground_task_eq g c) = ap (λ h. once (ground_task_eq g h)) same in omega (arith, a, b, e),
  λ fill g. let a = fill g in let b = taken g in let e : once (ground_task_eq g (ground_task values first)) ≡ once (ground_task_eq g c) = ap (λ h. once (ground_task_eq g h)) same in omega (arith, a, b, e),
)

-- the first schema's task is one of the children, and left
pub first_left : (tasks : List GroundTask) (left : List ℕ) (first : TaskSchema) (rest : List TaskSchema) (values : List ℕ) → Fill tasks left (first ∷ rest) values
    → 0 < left_of tasks left (ground_task values first)
first_left tasks left first rest values fill =
    let a = times_itself (ground_task values first) (map (ground_task values) rest) in let b = fill (ground_task values first) in omega (arith, a, b)

-- the first subtask is one of the tasks
pub first_there : (tasks : List GroundTask) (left : List ℕ) (first : TaskSchema) (rest : List TaskSchema) (values : List ℕ) → length left ≡ length tasks
    → Fill tasks left (first ∷ rest) values → (number : ℕ) × (number < length tasks) × (slice_get tasks number ≡ Some (ground_task values first))
first_there tasks left first rest values long fill =
    let g = ground_task values first in
    let within = left_there tasks left g long (first_left tasks left first rest values fill) in
    (place_of tasks g, within, slice_get-get_or tasks (place_of tasks g) g within ∙ ap Some (sym (at_place tasks g g within)))

-- ## Nothing is left

-- nothing is left where each task was used up
pub used_up : (tasks : List GroundTask) (left : List ℕ) → length left ≡ length tasks → ((k : ℕ) (g : GroundTask) → k < length tasks → slice_get tasks k ≡ Some g → left_of tasks left g ≡ 0)
    → (g : GroundTask) → left_of tasks left g ≡ 0
used_up tasks left long none g = by (left_of tasks left g) refl
  where
    by : (n : ℕ) → left_of tasks left g ≡ n → left_of tasks left g ≡ 0
    by zero e = e
    by (suc n) e =
        let within = left_there tasks left g long (omega (arith, e)) in
        none (place_of tasks g) g within (slice_get-get_or tasks (place_of tasks g) g within ∙ ap Some (sym (at_place tasks g g within)))

-- ## Showing

-- equivalences in turn
pub iff_trans : {A B C : Type 0} → A ↔ B → B ↔ C → A ↔ C
iff_trans f g = (λ a. g.0 (f.0 a), λ c. f.1 (g.1 c))

-- what holds of what is there
pub if_some : {X : Type 0} (P : X → Type 0) (o : Option X) (x : X) → o ≡ Some x → IfSome o P → P x
if_some P o x e h = subst (λ p. IfSome p P) e h

-- false tells that it isn't so
pub none_true : {A : Type 0} → (A → ⊥) → (false ≡ true) ↔ A
none_true f = (λ e. absurd cc, λ a. absurd (f a))

-- true tells that it is
pub some_true : {A : Type 0} → A → (true ≡ true) ↔ A
some_true a = (λ e. a, λ b. refl)

-- what is false where something else is false
pub turned_off : {A : Type 0} (b : Bool) → b ≡ false → (b ≡ true) ↔ A → A → ⊥
turned_off b e h a = let clash : true ≡ false = sym (h.1 a) ∙ e in absurd cc

-- a list of no members is empty
pub no_items : {X : Type 0} (xs : List X) → length xs ≡ 0 → xs ≡ []
no_items [] e = refl
no_items (x ∷ xs) e = absurd (omega arith)

-- what holds where nothing is there
pub if_none : {X : Type 0} (P : Type 0) (o : Option X) → o ≡ None → IfNone o P → P
if_none P o e h = subst (λ p. IfNone p P) e h

module _ (t : Task) (c : Conditions) (tasks : List GroundTask) (given : List (Option ℕ)) where
  -- an instance is shown by what is kept exactly where it is by all
  pub shows_kept : (old new : List ℕ) (schemas kept : List TaskSchema) → ((values : List ℕ) → Extends values given → Fill tasks old schemas values ↔ Fill tasks new kept values)
      → ShowsWith t c tasks new kept given ↔ ShowsWith t c tasks old schemas given
  shows_kept old new schemas kept same = (
    λ h. (h.0, h.1, h.2, (same h.0 h.1).1 h.3),
    λ h. (h.0, h.1, h.2, (same h.0 h.1).0 h.3),
  )

  -- none is shown where the subtasks can't be filled
  pub shows_none : (old : List ℕ) (schemas : List TaskSchema) → ((values : List ℕ) → Extends values given → Fill tasks old schemas values → ⊥) → ShowsWith t c tasks old schemas given → ⊥
  shows_none old schemas none h = none h.0 h.1 h.3

  -- nothing is left, and there is an instance
  pub finished : (left : List ℕ) (b : Bool) → ((g : GroundTask) → left_of tasks left g ≡ 0) → (b ≡ true) ↔ HasInstanceWith t c given → (b ≡ true) ↔ ShowsWith t c tasks left [] given
  finished left b none h = (λ e. let i = h.0 e in (i.0, i.1.0, i.1.1, λ g. sym (none g)), λ s. h.1 (s.0, (s.1, s.2)))

  -- none is shown without subtasks where something is left
  pub unfinished : (left : List ℕ) → (((g : GroundTask) → left_of tasks left g ≡ 0) → ⊥) → ShowsWith t c tasks left [] given → ⊥
  unfinished left some h = some (λ g. sym (h.3 g))

  module _ (left : List ℕ) (first : TaskSchema) (rest : List TaskSchema) where
    -- no instance has the first schema's task as one of the first so many children
    abbrev pub NoneTried : ℕ → Type 0
    NoneTried n =
        (values : List ℕ) → Extends values given → is_instance t c values ≡ true → Fill tasks left (first ∷ rest) values
        → (j : ℕ) → j < n → slice_get tasks j ≡ Some (ground_task values first) → ⊥

    -- where each task was tried in vain there is no instance
    pub none_shows : length left ≡ length tasks → NoneTried (length tasks) → ShowsWith t c tasks left (first ∷ rest) given → ⊥
    none_shows long tried h =
        let there = first_there tasks left first rest h.0 long h.3 in
        tried h.0 h.1 h.2 h.3 there.0 there.1 there.2

    -- one task more that was tried in vain
    pub tried_more : (n : ℕ) → NoneTried n → ((values : List ℕ) → Extends values given → is_instance t c values ≡ true → Fill tasks left (first ∷ rest) values → slice_get tasks n ≡ Some (ground_task values first) → ⊥)
        → NoneTried (n + 1)
    tried_more n before here values h is fill j below at = by (nat_eq j n) refl
      where
        by : (b : Bool) → nat_eq j n ≡ b → ⊥
        by true e = here values h is fill (ap (slice_get tasks) (sym ((unsigned_Decides j n).0 e)) ∙ at)
        by false e =
            let apart : j ≡ n → ⊥ = λ same. let yes : nat_eq j n ≡ true = (unsigned_Decides j n).1 same in absurd cc in
            before values h is fill j (omega (arith, below, apart)) at

    -- a child that is not left
    pub none_left : (n : ℕ) → ((values : List ℕ) → Extends values given → slice_get tasks n ≡ Some (ground_task values first) → left_of tasks left (ground_task values first) ≡ 0) → NoneTried n → NoneTried (n + 1)
    none_left n none before =
        tried_more n before (λ values h is fill at. let e = none values h at in let f = first_left tasks left first rest values fill in absurd (omega (arith, e, f)))

    module _ (n : ℕ) (more : List (Option ℕ)) (fewer : List ℕ)
        (matches : (values : List ℕ) → Extends values more ↔ (Extends values given × (slice_get tasks n ≡ Some (ground_task values first))))
        (takes : (g task : GroundTask) → slice_get tasks n ≡ Some task → left_of tasks left g ≡ once (ground_task_eq g task) + left_of tasks fewer g) where
      -- an instance with the first schema at the child
      pub shows_matched : ShowsWith t c tasks fewer rest more → ShowsWith t c tasks left (first ∷ rest) given
      shows_matched h =
          let m = (matches h.0).0 h.1 in
          (h.0, m.0, h.2, (placed tasks left fewer first rest h.0 (ground_task h.0 first) refl (λ g. takes g (ground_task h.0 first) m.1)).1 h.3)

      pub none_matched : (ShowsWith t c tasks fewer rest more → ⊥) → NoneTried n → NoneTried (n + 1)
      none_matched none before =
          tried_more n before
          (λ values h is fill at.
          none (values, (matches values).1 (h, at), is, (placed tasks left fewer first rest values (ground_task values first) refl (λ g. takes g (ground_task values first) at)).0 fill))

-- the same of equal tasks, lists and values
pub shows_same : (t u : Task) (c d : Conditions) (tasks : List GroundTask) (left new : List ℕ) (schemas others : List TaskSchema) (given more : List (Option ℕ)) (b : Bool)
    → t ≡ u → c ≡ d → left ≡ new → schemas ≡ others → given ≡ more → (b ≡ true) ↔ ShowsWith t c tasks left schemas given → (b ≡ true) ↔ ShowsWith u d tasks new others more
shows_same t u c d tasks left new schemas others given more b e f g h k shown =
    subst (λ (x : List (Option ℕ)). (b ≡ true) ↔ ShowsWith u d tasks new others x) k
    (subst (λ (x : List TaskSchema). (b ≡ true) ↔ ShowsWith u d tasks new x given) h
    (subst (λ (x : List ℕ). (b ≡ true) ↔ ShowsWith u d tasks x schemas given) g
    (subst (λ (x : Conditions). (b ≡ true) ↔ ShowsWith u x tasks left schemas given) f
    (subst (λ (x : Task). (b ≡ true) ↔ ShowsWith x c tasks left schemas given) e shown))))
