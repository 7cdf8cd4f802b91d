-- A leaf or step of a linearisation has its slot by the leaves that come before it.
use Rattle.std.proofs.Common.{◌≡◌, ℕ, suc, ◌+◌, ◌≤◌, Bool, true, false, cond, List, [], ◌∷◌, length, Option, Some, None, slice_get, option_and_then, inl, inr, sym, refl, ap, ◌∙◌, subst, arith}
use Rattle.std.proofs.lemmas.Bool.{both_ways}
use Rattle.htn_model.specs.State.{State}
use Rattle.htn_model.specs.Literal.{Literal, holds}
use Rattle.htn_model.specs.Problem.{GroundTask, Problem, Order, perform_action}
use Rattle.htn_model.specs.Tree.{Node, leaf, step, compound, Nodes, Place, node_at, before, primitives_from, IsRearrangement, Respects, run, perform_at}
use Rattle.htn_model.specs.PlanFile.{ActionLine, PlanFile, Naming, IsIn}
use Rattle.htn_model.specs.Placement.{IsPrimitive, duration}
use Rattle.htn_model.specs.Decoupling.{ForestKeeps}
use Rattle.htn_model.specs.Shadow.{AreActionLines, end, action_line, no_line, IsStep}
use Rattle.htn_model.specs.Numbered.{is_same_place}
use Rattle.htn_model.specs.Shown.{LinesRun}
use Rattle.htn_model.proofs.Ascending.{all_in}
use Rattle.htn_model.proofs.Orders.{before_irreflexive}
use Rattle.htn_model.proofs.Numbered.{same_place_itself, same_place, in_primitives, in_arranged}

module _ (trees : Nodes) where
  -- the slot of a place: how many leaves of the list come before it, and a number more
  abbrev pub slot_in : ℕ → List Place → Place → ℕ
  slot_in i [] p = i
  slot_in i (q ∷ qs) p = cond (is_same_place p q) i (slot_in (duration (node_at trees q) + i) qs p)

  -- how many places of a list are leaves
  abbrev pub leaves : List Place → ℕ
  leaves [] = 0
  leaves (q ∷ qs) = duration (node_at trees q) + leaves qs

  -- at the head, or later
  pub data Met (i : ℕ) (q : Place) (qs : List Place) (p : Place) : Type 0 where
    here : p ≡ q → slot_in i (q ∷ qs) p ≡ i → Met i q qs p
    later : IsIn p qs → slot_in i (q ∷ qs) p ≡ slot_in (duration (node_at trees q) + i) qs p → Met i q qs p

  -- a place of the list is its first or a later one
  pub met : (i : ℕ) (q : Place) (qs : List Place) (p : Place) → IsIn p (q ∷ qs) → Met i q qs p
  met i q qs p h = by (is_same_place p q) refl h
    where
      by : (b : Bool) → is_same_place p q ≡ b → IsIn p (q ∷ qs) → Met i q qs p
      by true e h = here (same_place p q e) (ap (λ b. cond b i (slot_in (duration (node_at trees q) + i) qs p)) e)
      by false e (inl same) = absurd (both_ways (is_same_place p q) e (subst (λ r. is_same_place p r ≡ true) same (same_place_itself p)))
      by false e (inr h) = later h (ap (λ b. cond b i (slot_in (duration (node_at trees q) + i) qs p)) e)

  -- no slot is before the first
  pub slot_from : (i : ℕ) (qs : List Place) (p : Place) → i ≤ slot_in i qs p
  slot_from i [] p = omega arith
  slot_from i (q ∷ qs) p = by (is_same_place p q) (slot_from (duration (node_at trees q) + i) qs p)
    where
      by : (b : Bool) → duration (node_at trees q) + i ≤ slot_in (duration (node_at trees q) + i) qs p → i ≤ cond b i (slot_in (duration (node_at trees q) + i) qs p)
      by true h = omega arith
      by false h = omega arith

  -- a leaf or a step ends among the leaves
  pub slot_ends : (i : ℕ) (qs : List Place) (p : Place) → IsIn p qs → duration (node_at trees p) + slot_in i qs p ≤ i + leaves qs
  slot_ends i [] p h = absurd h
  slot_ends i (q ∷ qs) p h = by (met i q qs p h) (slot_ends (duration (node_at trees q) + i) qs p)
    where
      by : Met i q qs p
          → (IsIn p qs → duration (node_at trees p) + slot_in (duration (node_at trees q) + i) qs p ≤ (duration (node_at trees q) + i) + leaves qs)
          → duration (node_at trees p) + slot_in i (q ∷ qs) p ≤ i + leaves (q ∷ qs)
      by (here same at) more = let e : duration (node_at trees p) ≡ duration (node_at trees q) = ap (λ r. duration (node_at trees r)) same in omega arith
      by (later i at) more = let m = more i in omega arith

  -- slots along a list keep the order that it respects
  pub slots_keep : (precedes : Place → Place → Bool) → ((p : Place) → precedes p p ≡ false) → (i : ℕ) (qs : List Place) (p q : Place) → Respects precedes qs
      → IsIn p qs → IsIn q qs → precedes p q ≡ true → duration (node_at trees p) + slot_in i qs p ≤ slot_in i qs q
  slots_keep precedes irreflexive i [] p q r hp hq e = absurd hp
  slots_keep precedes irreflexive i (x ∷ qs) p q r hp hq e =
      by (met i x qs p hp) (met i x qs q hq) (λ a b. slots_keep precedes irreflexive (duration (node_at trees x) + i) qs p q r.1 a b e)
    where
      by : Met i x qs p → Met i x qs q
          → (IsIn p qs → IsIn q qs → duration (node_at trees p) + slot_in (duration (node_at trees x) + i) qs p ≤ slot_in (duration (node_at trees x) + i) qs q)
          → duration (node_at trees p) + slot_in i (x ∷ qs) p ≤ slot_in i (x ∷ qs) q
      by (here sp at_p) (here sq at_q) more = absurd (both_ways (precedes p p) (irreflexive p) (subst (λ y. precedes p y ≡ true) (sq ∙ sym sp) e))
      by (here sp at_p) (later iq at_q) more =
          let up = slot_from (duration (node_at trees x) + i) qs q in
          let d : duration (node_at trees p) ≡ duration (node_at trees x) = ap (λ y. duration (node_at trees y)) sp in omega arith
      by (later ip at_p) (here sq at_q) more =
          absurd (both_ways (precedes p q) (subst (λ y. precedes p y ≡ false) (sym sq) (all_in (λ y. precedes y x ≡ false) p qs r.0 ip)) e)
      by (later ip at_p) (later iq at_q) more = let m = more ip iq in omega arith

  -- a step takes no time
  step_lasts : (n : Option Node) → IsStep n → duration n ≡ 0
  step_lasts None h = absurd h
  step_lasts (Some (leaf g)) h = absurd h
  step_lasts (Some (step literals)) h = refl
  step_lasts (Some (compound t number nodes)) h = absurd h

  -- there are as many leaves as lines
  pub as_many : (naming : Naming) (id_at : Place → ℕ) (qs : List Place) (lines : List ActionLine) → AreActionLines naming trees id_at qs lines → leaves qs ≡ length lines
  as_many naming id_at qs lines end = refl
  as_many naming id_at qs lines (action_line p ps g line others is id named more) =
      let e = as_many naming id_at ps others more in let one : duration (node_at trees p) ≡ 1 = ap duration is in omega arith
  as_many naming id_at qs lines (no_line p ps others is more) =
      let e = as_many naming id_at ps others more in let none = step_lasts (node_at trees p) is in omega arith

-- ## With the states between the lines

module _ (naming : Naming) (problem : Problem) (file : PlanFile) (states : ℕ → State) (runs : LinesRun naming problem file states)
    (trees : Nodes) (id_at : Place → ℕ) where
  -- the lines are those of the file from a number on
  abbrev From : ℕ → List ActionLine → Type 0
  From i lines = (k : ℕ) → slice_get lines k ≡ slice_get file.actions (i + k)

  -- the first of the lines from i on
  first_line : (i : ℕ) (line : ActionLine) (lines : List ActionLine) → From i (line ∷ lines) → slice_get file.actions i ≡ Some line
  first_line i line lines from = ap (slice_get file.actions) (let e : i ≡ i + 0 = omega arith in e) ∙ sym (from 0)

  -- the lines after it
  other_lines : (i : ℕ) (line : ActionLine) (lines : List ActionLine) → From i (line ∷ lines) → From (suc i) lines
  other_lines i line lines from k = from (suc k) ∙ ap (slice_get file.actions) (let e : i + suc k ≡ suc i + k = omega arith in e)

  -- a leaf's line comes at its slot
  acts : (i : ℕ) (p : Place) (g : GroundTask) (line : ActionLine) (lines : List ActionLine) → From i (line ∷ lines) → node_at trees p ≡ Some (leaf g)
      → naming.named line.name line.arguments ≡ Some g → perform_at problem (states i) (node_at trees p) ≡ Some (states (suc i))
  acts i p g line lines from is named =
      ap (perform_at problem (states i)) is ∙ sym (ap (λ m. perform_action (states i) (option_and_then problem.action_of m)) named)
      ∙ runs.performs i line (first_line i line lines from)

  -- what a leaf's line is
  pub record LineOf (slot : ℕ) (p : Place) (g : GroundTask) : Type 0 where
    pub line : ActionLine
    pub stands : slice_get file.actions slot ≡ Some line
    pub is : line.id ≡ id_at p
    pub named : naming.named line.name line.arguments ≡ Some g

  -- a line along an equation of slots
  moved_line : (i j : ℕ) (p : Place) (g : GroundTask) → i ≡ j → LineOf i p g → LineOf j p g
  moved_line i j p g e = subst (λ k. LineOf k p g) e

  -- a leaf's line is the one at its slot
  pub line_of_leaf : (qs : List Place) (lines : List ActionLine) → AreActionLines naming trees id_at qs lines → (i : ℕ) → From i lines
      → (p : Place) (g : GroundTask) → IsIn p qs → node_at trees p ≡ Some (leaf g) → LineOf (slot_in trees i qs p) p g
  line_of_leaf qs lines end i from p g h e = absurd h
  line_of_leaf qs lines (action_line q ps t line others is id named more) i from p g h e = by (met trees i q ps p h) (line_of_leaf ps others more (suc i) (other_lines i line others from) p g)
    where
      by : Met trees i q ps p → (IsIn p ps → node_at trees p ≡ Some (leaf g) → LineOf (slot_in trees (suc i) ps p) p g) → LineOf (slot_in trees i (q ∷ ps) p) p g
      by (here same at) deeper =
          let both : Some (leaf g) ≡ Some (leaf t) = sym e ∙ ap (node_at trees) same ∙ is in
          let tasks : t ≡ g = cc in
          moved_line i _ p g (sym at) (record {
            line = line;
            stands = first_line i line others from;
            is = id ∙ ap id_at (sym same);
            named = named ∙ ap Some tasks;
          })
      by (later j at) deeper =
          let one : duration (node_at trees q) ≡ 1 = ap duration is in
          let next : suc i ≡ duration (node_at trees q) + i = omega arith in
          moved_line (slot_in trees (suc i) ps p) _ p g (ap (λ k. slot_in trees k ps p) next ∙ sym at) (deeper j e)
  line_of_leaf qs lines (no_line q ps others is more) i from p g h e = by (met trees i q ps p h) (line_of_leaf ps others more i from p g)
    where
      by : Met trees i q ps p → (IsIn p ps → node_at trees p ≡ Some (leaf g) → LineOf (slot_in trees i ps p) p g) → LineOf (slot_in trees i (q ∷ ps) p) p g
      by (here same at) deeper = absurd (subst IsStep (ap (node_at trees) (sym same) ∙ e) is)
      by (later j at) deeper =
          let none = step_lasts trees (node_at trees q) is in
          let next : i ≡ duration (node_at trees q) + i = omega arith in
          moved_line (slot_in trees i ps p) _ p g (ap (λ k. slot_in trees k ps p) next ∙ sym at) (deeper j e)

  -- a step that runs holds, and the state stays
  step_runs : (i : ℕ) (q : Place) (qs : List Place) (last : State) → IsStep (node_at trees q) → run problem trees (states i) (q ∷ qs) ≡ Some last
      → (literals : List Literal) × (node_at trees q ≡ Some (step literals)) × (holds (states i) literals ≡ true) × (run problem trees (states i) qs ≡ Some last)
  step_runs i q qs last is runs_on = by (node_at trees q) refl is
    where
      by : (n : Option Node) → node_at trees q ≡ n → IsStep n
          → (literals : List Literal) × (node_at trees q ≡ Some (step literals)) × (holds (states i) literals ≡ true) × (run problem trees (states i) qs ≡ Some last)
      by None e h = absurd h
      by (Some (leaf g)) e h = absurd h
      by (Some (step literals)) e h = cases (holds (states i) literals) refl (ap (λ m. option_and_then (λ next. run problem trees next qs) (perform_at problem (states i) m)) (sym e) ∙ runs_on)
        where
          cases : (b : Bool) → holds (states i) literals ≡ b → option_and_then (λ next. run problem trees next qs) (cond (holds (states i) literals) (Some (states i)) None) ≡ Some last
              → (literals : List Literal) × (node_at trees q ≡ Some (step literals)) × (holds (states i) literals ≡ true) × (run problem trees (states i) qs ≡ Some last)
          cases true f g = (literals, e, f, ap (λ b. option_and_then (λ next. run problem trees next qs) (cond b (Some (states i)) None)) (sym f) ∙ g)
          cases false f g =
              let none : None ≡ Some last = ap (λ b. option_and_then (λ next. run problem trees next qs) (cond b (Some (states i)) None)) (sym f) ∙ g in absurd cc
      by (Some (compound t number nodes)) e h = absurd h

  -- literals along an equation of gaps
  moved_state : (i j : ℕ) (literals : List Literal) → i ≡ j → holds (states i) literals ≡ true → holds (states j) literals ≡ true
  moved_state i j literals e = subst (λ k. holds (states k) literals ≡ true) e

  -- the literals of a step hold in its gap
  pub steps_hold : (qs : List Place) (lines : List ActionLine) → AreActionLines naming trees id_at qs lines → (i : ℕ) → From i lines → (last : State)
      → run problem trees (states i) qs ≡ Some last
      → (p : Place) (literals : List Literal) → IsIn p qs → node_at trees p ≡ Some (step literals) → holds (states (slot_in trees i qs p)) literals ≡ true
  steps_hold qs lines end i from last runs_on p literals h e = absurd h
  steps_hold qs lines (action_line q ps t line others is id named more) i from last runs_on p literals h e =
      by (met trees i q ps p h)
      (steps_hold ps others more (suc i) (other_lines i line others from) last
      (ap (option_and_then (λ next. run problem trees next ps)) (sym (acts i q t line others from is named)) ∙ runs_on) p literals)
    where
      by : Met trees i q ps p → (IsIn p ps → node_at trees p ≡ Some (step literals) → holds (states (slot_in trees (suc i) ps p)) literals ≡ true)
          → holds (states (slot_in trees i (q ∷ ps) p)) literals ≡ true
      by (here same at) deeper = let both : Some (step literals) ≡ Some (leaf t) = sym e ∙ ap (node_at trees) same ∙ is in absurd cc
      by (later j at) deeper =
          let one : duration (node_at trees q) ≡ 1 = ap duration is in
          let next : suc i ≡ duration (node_at trees q) + i = omega arith in
          moved_state (slot_in trees (suc i) ps p) _ literals (ap (λ k. slot_in trees k ps p) next ∙ sym at) (deeper j e)
  steps_hold qs lines (no_line q ps others is more) i from last runs_on p literals h e =
      by (step_runs i q ps last is runs_on) (met trees i q ps p h) (λ go. steps_hold ps others more i from last go p literals)
    where
      by : (ls : List Literal) × (node_at trees q ≡ Some (step ls)) × (holds (states i) ls ≡ true) × (run problem trees (states i) ps ≡ Some last) → Met trees i q ps p
          → (run problem trees (states i) ps ≡ Some last → IsIn p ps → node_at trees p ≡ Some (step literals) → holds (states (slot_in trees i ps p)) literals ≡ true)
          → holds (states (slot_in trees i (q ∷ ps) p)) literals ≡ true
      by found (here same at) deeper =
          let is_step = found.1 in
          let both : Some (step found.0) ≡ Some (step literals) = sym is_step ∙ ap (node_at trees) (sym same) ∙ e in
          let alike : found.0 ≡ literals = cc in
          moved_state i _ literals (sym at) (subst (λ l. holds (states i) l ≡ true) alike found.2)
      by found (later j at) deeper =
          let none = step_lasts trees (node_at trees q) is in
          let next : i ≡ duration (node_at trees q) + i = omega arith in
          moved_state (slot_in trees i ps p) _ literals (ap (λ k. slot_in trees k ps p) next ∙ sym at) (deeper found.3 j e)

  -- the slots by a linearisation keep the order
  pub list_keeps : (order : Order) (list : List Place) (last : State) → IsRearrangement list (primitives_from [] 0 trees) → Respects (before problem order trees) list
      → AreActionLines naming trees id_at list file.actions → run problem trees (states 0) list ≡ Some last
      → ForestKeeps problem states (slot_in trees 0 list) order trees (length file.actions)
  list_keeps order list last rearranged respects lines runs_on =
      let there : (p : Place) → IsPrimitive (node_at trees p) → IsIn p list = λ p h. in_arranged p list _ rearranged (in_primitives trees p h) in
      let from : From 0 file.actions = λ k. ap (slice_get file.actions) (let e : k ≡ 0 + k = omega arith in e) in
      record {
        ends = λ p h. let e = slot_ends trees 0 list p (there p h) in let l = as_many trees naming id_at list file.actions lines in omega arith;
        keeps = λ p q hp hq e. slots_keep trees (before problem order trees) (before_irreflexive problem order trees) 0 list p q respects (there p hp) (there q hq) e;
        steps = λ p literals e. steps_hold list file.actions lines 0 from last runs_on p literals (there p (subst IsPrimitive (sym e) tt)) e;
      }
