-- What stands at a position, and when it has room.
use Rattle.std.proofs.Common.{◌≡◌, ℕ, ◌+◌, ◌-◌, ◌≤◌, ◌<◌, ◌&&◌, inl, inr, Bool, true, false, cond, eqb, ltb, List, length, get_or, Some, None, option_map, slice_get, sym, refl, ap, ◌∙◌, subst, arith}
use Rattle.std.proofs.lemmas.Bool.{both_ways, cases_lt, cases_eq, lt-ltb, le-ltb, ltb-true, ltb-false, eq-eqb, ne_eqb}
use Rattle.std.proofs.lemmas.Option.{slice_get-map, slice_get_read, slice_get_past}
use Rattle.htn_model.specs.State.{State}
use Rattle.htn_model.specs.Literal.{Literal, holds}
use Rattle.htn_model.specs.Problem as model
use Rattle.htn_model.specs.Problem.{GroundTask, Network, precondition, action, task, child_eq, ground_task_eq}
use Rattle.htn_model.specs.Fits.{PlanTree, action_at, decomposition, child_of, Fits}
use Rattle.htn_ground.specs.Views.{child_view, children_of}
use Rattle.htn_ground.specs.declared.child.Child.{Child}
use Rattle.plan_room.specs.Placing.{IsFinish, IsFirst}
use Rattle.plan_room.specs.Lines.{Lines, AreLines, task_of, IsNextGap}
use Rattle.plan_room.specs.Seats.{FitAt, LineFits, is_child_at, is_step_at, suits_at, ChoiceRoom}
use Rattle.plan_room.specs.Steps.{IsStepRoom}
use Rattle.plan_room.specs.declared.rooms.Finish.{Finish}
use Rattle.plan_room.specs.declared.rooms.Finish.TheVariants.{Unknown, Never, At}

-- ## What is read

-- a node that was looked up is that of the position
pub looked : (xs : List Child) (nodes : List model.Child) (position : ℕ) (v : Child) → children_of xs ≡ nodes → true ≡ ltb position (length xs) → v ≡ get_or xs position v
    → slice_get nodes position ≡ Some (child_view v)
looked xs nodes position v e low is = subst (λ ns. slice_get ns position ≡ Some (child_view v)) e
    (slice_get-map child_view xs position ∙ ap (option_map child_view) (slice_get_read xs (length xs) position v refl (ltb-true position (length xs) (sym low)) is))

-- past the nodes there is none
pub missed : (xs : List Child) (nodes : List model.Child) (position : ℕ) → children_of xs ≡ nodes → false ≡ ltb position (length xs) → slice_get nodes position ≡ None
missed xs nodes position e high = subst (λ ns. slice_get ns position ≡ None) e
    (slice_get-map child_view xs position ∙ ap (option_map child_view) (slice_get_past xs position (ltb-false position (length xs) (sym high))))

-- ## Lines

module _ (l : Lines) (are : AreLines l) (line : ℕ) where
  -- an action line is an action
  pub action_line : line < l.actions → child_of (l.plan_of line) ≡ action (task_of (l.plan_of line))
  action_line low = ap child_of (are.action_lines line low)

  -- a decomposition line is a compound task
  pub task_line : l.actions ≤ line → line < l.count → child_of (l.plan_of line) ≡ task (task_of (l.plan_of line))
  task_line high low =
      let (t, method, is) = are.decomposition_lines line high low in
      ap child_of is ∙ ap task (sym (ap task_of is))

  -- an action suits an action line by its task
  pub is_action_line : (t : GroundTask) → line < l.actions → child_eq (action t) (child_of (l.plan_of line)) ≡ ground_task_eq t (task_of (l.plan_of line))
  is_action_line t low = ap (child_eq (action t)) (action_line low)

  -- and no decomposition line
  pub is_no_action_line : (t : GroundTask) → l.actions ≤ line → line < l.count → child_eq (action t) (child_of (l.plan_of line)) ≡ false
  is_no_action_line t high low = ap (child_eq (action t)) (task_line high low)

  -- a compound task suits a decomposition line by its task
  pub is_task_line : (t : GroundTask) → l.actions ≤ line → line < l.count → child_eq (task t) (child_of (l.plan_of line)) ≡ ground_task_eq t (task_of (l.plan_of line))
  is_task_line t high low = ap (child_eq (task t)) (task_line high low)

  -- and no action line
  pub is_no_task_line : (t : GroundTask) → line < l.actions → child_eq (task t) (child_of (l.plan_of line)) ≡ false
  is_no_task_line t low = ap (child_eq (task t)) (action_line low)

-- a step suits no line
pub is_no_step_line : (literals : List Literal) (p : PlanTree) → child_eq (precondition literals) (child_of p) ≡ false
is_no_step_line literals (action_at g i) = refl
is_no_step_line literals (decomposition t method plans) = refl

-- ## Choices

module _ (l : Lines) (children : List ℕ) (network : Network) (a c : ℕ) where
  -- nothing suits a position that isn't there
  pub suits_none : slice_get network.children a ≡ None → suits_at l children network a c ≡ false
  suits_none e = subst (λ o. cond (ltb c (length children)) (is_child_at o (child_of (l.plan_of (get_or children c 0)))) (is_step_at o && eqb c (length children + a)) ≡ false) (sym e)
      (both (ltb c (length children)))
    where
      both : (b : Bool) → cond b false false ≡ false
      both true = refl
      both false = refl

  -- a child suits a position by what its line is
  pub suits_child : (x : model.Child) → slice_get network.children a ≡ Some x → c < length children → suits_at l children network a c ≡ child_eq x (child_of (l.plan_of (get_or children c 0)))
  suits_child x e low = ap (λ b. cond b (is_child_at (slice_get network.children a) (child_of (l.plan_of (get_or children c 0)))) (is_step_at (slice_get network.children a) && eqb c (length children + a)))
      (lt-ltb c (length children) low) ∙ ap (λ o. is_child_at o (child_of (l.plan_of (get_or children c 0)))) e

  -- a step suits its own position
  pub suits_step : (x : model.Child) → slice_get network.children a ≡ Some x → length children ≤ c → suits_at l children network a c ≡ (is_step_at (Some x) && eqb c (length children + a))
  suits_step x e high = ap (λ b. cond b (is_child_at (slice_get network.children a) (child_of (l.plan_of (get_or children c 0)))) (is_step_at (slice_get network.children a) && eqb c (length children + a)))
      (le-ltb c (length children) high) ∙ ap (λ o. is_step_at o && eqb c (length children + a)) e

  -- a step's choice has the number of its position past the children
  pub same_place : length children ≤ c → eqb (c - length children) a ≡ eqb c (length children + a)
  same_place high = elim (cases_eq (c - length children) a) [
    | inl same ↦ eq-eqb (c - length children) a same ∙ sym (eq-eqb c (length children + a) (omega arith))
    | inr other ↦ ne_eqb (c - length children) a other ∙ sym (ne_eqb c (length children + a) (λ e. other (omega arith)))
  ]

-- ## Room

-- a finish of one is that of another that holds just where it does
pub finish_so : (A B : ℕ → Type 0) (n : ℕ) (f : Finish) → ((k : ℕ) → A k → B k) → ((k : ℕ) → B k → A k) → IsFinish A n f → IsFinish B n f
finish_so A B n (Unknown q) to from is = tt
finish_so A B n Never to from is = λ k low room. is k low (from k room)
finish_so A B n (At h) to from is = record { within = is.within; fits = to h is.fits; least = λ k room. is.least k (from k room) }

module _ (l : Lines) (children : List ℕ) (network : Network) (choice start : ℕ) where
  -- the finish of a child's line is that of the choice
  pub child_finish : (f : Finish) → choice < length children → IsFinish (Fits l.naming l.problem l.states (l.plan_of (get_or children choice 0)) start) l.actions f
      → IsFinish (ChoiceRoom l children network choice start) l.actions f
  child_finish f low = finish_so (Fits l.naming l.problem l.states (l.plan_of (get_or children choice 0)) start) (ChoiceRoom l children network choice start) l.actions f
      (λ k fits. ((λ inside. fits), (λ past. absurd (omega arith)))) (λ k room. room.0 low)

  -- the finish of a step is that of the choice
  pub step_finishes : (x : model.Child) (f : Finish) → length children ≤ choice → slice_get network.children (choice - length children) ≡ Some x
      → IsFinish (IsStepRoom l.states x start) l.actions f → IsFinish (ChoiceRoom l children network choice start) l.actions f
  step_finishes x f high e = finish_so (IsStepRoom l.states x start) (ChoiceRoom l children network choice start) l.actions f
      (λ k room. (
        (λ inside. absurd (omega arith)),
        (λ past. let (forward, (literals, is, fits)) = room in (forward, (literals, e ∙ ap Some is, fits))),
      ))
      (λ k room. let (forward, (literals, is, fits)) = room.1 high in (forward, (literals, (let same : x ≡ precondition literals = cc in same), fits)))

  -- a choice that is neither has no room
  pub no_step : length children ≤ choice → slice_get network.children (choice - length children) ≡ None → (k : ℕ) → ChoiceRoom l children network choice start k → ⊥
  no_step high e k room = let (forward, (literals, is, fits)) = room.1 high in let f : None ≡ Some (precondition literals) = sym e ∙ is in cc

-- a step finishes at the next gap in which its literals hold
pub step_first : (states : ℕ → State) (n start gap : ℕ) (literals : List Literal) → IsNextGap states n literals start (Some gap) → IsFirst (IsStepRoom states (precondition literals) start) n gap
step_first states n start gap literals (from, within, there, before) = record {
  within = within;
  fits = (from, (literals, refl, (gap, from, (let e : gap ≤ gap = omega arith in e), there)));
  least = λ k room. (let (forward, (others, is, (at, after, to, then))) = room in
      let same : others ≡ literals = cc in
      elim (cases_lt at gap) [
        | inl less ↦ absurd (both_ways (holds (states at) literals) (before at after less) (subst (λ ls. holds (states at) ls ≡ true) same then))
        | inr more ↦ omega arith
      ]);
}

-- and never, where there is none
pub step_never : (states : ℕ → State) (n start : ℕ) (literals : List Literal) → IsNextGap states n literals start None → (k : ℕ) → k ≤ n → IsStepRoom states (precondition literals) start k → ⊥
step_never states n start literals none k low (forward, (others, is, (at, after, to, then))) =
    let same : others ≡ literals = cc in
    both_ways (holds (states at) literals) (none at after (omega arith)) (subst (λ ls. holds (states at) ls ≡ true) same then)

-- what is known of a line is the finish of its plan
pub line_known : (l : Lines) (line gap : ℕ) (f : Finish) → line < l.count → IsFinish (LineFits l line gap) l.actions f → IsFinish (Fits l.naming l.problem l.states (l.plan_of line) gap) l.actions f
line_known l line gap f low is = subst (λ b. IsFinish (FitAt b l line gap) l.actions f) (lt-ltb line l.count low) is
