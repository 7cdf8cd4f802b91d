-- Leaves and steps that keep their slots run, one after another by their slots, along the action lines.
use Rattle.std.proofs.Common.{◌≡◌, ℕ, zero, suc, ◌+◌, ◌≤◌, ◌<◌, Bool, true, false, cond, ltb, ◌||◌, List, [], ◌∷◌, length, Option, Some, None, slice_get, option_and_then, ◌⊎◌, inl, inr, sym, refl, ap, ap₂, ◌∙◌, subst, arith}
use Rattle.std.proofs.lemmas.Bool.{both_ways, cases_lt, lt-ltb, le-ltb, or_cases}
use Rattle.std.specs.List.{AllByRecursion}
use Rattle.htn_model.specs.State.{State}
use Rattle.htn_model.specs.Literal.{Literal, holds}
use Rattle.htn_model.specs.Problem.{GroundTask, Problem, IsGrounded, Order, IsClosed, perform_action}
use Rattle.htn_model.specs.Tree.{Node, leaf, step, compound, Nodes, Place, node_at, before, Respects, run, perform_at}
use Rattle.htn_model.specs.PlanFile.{ActionLine, PlanFile, Naming, IsIn, IsWithoutRepeats}
use Rattle.htn_model.specs.Verdict.{perform_line}
use Rattle.htn_model.specs.Placement.{Slots, IsPrimitive, duration}
use Rattle.htn_model.specs.Decoupling.{ForestKeeps}
use Rattle.htn_model.specs.Shadow.{AreActionLines, end, action_line, no_line, IsStep}
use Rattle.htn_model.specs.Shown.{LinesRun}
use Rattle.htn_model.proofs.Ascending.{all_in, all_from}
use Rattle.htn_model.proofs.Orders.{before_irreflexive, before_transitive}
use Rattle.htn_model.proofs.Pending.{all_map}
use Rattle.htn_model.proofs.Laid.{AllMarks}
use Rattle.htn_model.proofs.Marked.{leaf_line}

-- ## Lines by their places

-- a line below the count
pub line_at : (lines : List ActionLine) (i : ℕ) → i < length lines → (line : ActionLine) × (slice_get lines i ≡ Some line)
line_at [] i h = absurd (omega arith)
line_at (l ∷ lines) zero h = (l, refl)
line_at (l ∷ lines) (suc i) h = line_at lines i (omega arith)

-- a line stands below the count
pub line_within : (lines : List ActionLine) (i : ℕ) (line : ActionLine) → slice_get lines i ≡ Some line → i < length lines
line_within [] i line e = absurd cc
line_within (l ∷ lines) zero line e = omega arith
line_within (l ∷ lines) (suc i) line e = let more = line_within lines i line e in omega arith

-- ## Keys

-- what a test of numbers says
below_or_not : (x y : ℕ) → ltb x y ≡ true → x < y
below_or_not x y e = elim (cases_lt x y) [ inl less ↦ less | inr other ↦ absurd (both_ways (ltb x y) (le-ltb x y other) e) ]

-- the first of two tests
or_left : (a b : Bool) → a ≡ true → (a || b) ≡ true
or_left true b e = refl
or_left false b e = absurd cc

-- the second of two tests
or_right : (a b : Bool) → b ≡ true → (a || b) ≡ true
or_right true b e = refl
or_right false b e = e

-- neither of two tests
neither : (a b : Bool) → (a || b) ≡ false → (a ≡ false) × (b ≡ false)
neither true b e = absurd cc
neither false b e = (refl, e)

module _ (problem : Problem) (order : Order) (trees : Nodes) (slots : Slots) where
  -- twice a step's gap, and one more than twice a leaf's line
  abbrev pub key : Place → ℕ
  key p = duration (node_at trees p) + (slots p + slots p)

  -- which place comes before which: by its key, and among equal keys by the inherited order
  abbrev pub precedes : Place → Place → Bool
  precedes p q = ltb (key p) (key q) || before problem order trees p q

  -- no place precedes itself
  pub precedes_irreflexive : (p : Place) → precedes p p ≡ false
  precedes_irreflexive p = ap₂ ◌||◌ (le-ltb (key p) (key p) (let e : key p ≤ key p = omega arith in e)) (before_irreflexive problem order trees p)

  -- what a place that precedes not has
  pub not_preceding : (p q : Place) → precedes p q ≡ false → (key q ≤ key p) × (before problem order trees p q ≡ false)
  not_preceding p q e =
      let parts = neither (ltb (key p) (key q)) (before problem order trees p q) e in
      (elim (cases_lt (key p) (key q)) [ inl less ↦ absurd (both_ways (ltb (key p) (key q)) parts.0 (lt-ltb (key p) (key q) less)) | inr other ↦ other ], parts.1)

  -- a leaf or step stands at a place
  abbrev pub Stands : Place → Type 0
  Stands p = IsPrimitive (node_at trees p)

  module _ (grounded : IsGrounded problem) (closed : IsClosed order) (states : ℕ → State) (n : ℕ) (keeps : ForestKeeps problem states slots order trees n) where
    -- what the inherited order puts before another has no greater key
    key_kept : (p q : Place) → Stands p → Stands q → before problem order trees p q ≡ true → key p ≤ key q
    key_kept p q hp hq e = let k = keeps.keeps p q hp hq e in omega arith

    -- what comes before what comes before another comes before that
    pub precedes_transitive : (p q r : Place) → Stands p → Stands q → Stands r → precedes p q ≡ true → precedes q r ≡ true → precedes p r ≡ true
    precedes_transitive p q r hp hq hr a b =
        by (or_cases (ltb (key p) (key q)) (before problem order trees p q) a) (or_cases (ltb (key q) (key r)) (before problem order trees q r) b)
      where
        by : (ltb (key p) (key q) ≡ true) ⊎ (before problem order trees p q ≡ true) → (ltb (key q) (key r) ≡ true) ⊎ (before problem order trees q r ≡ true)
            → precedes p r ≡ true
        by (inl x) (inl y) =
            let u = below_or_not (key p) (key q) x in let v = below_or_not (key q) (key r) y in
            or_left (ltb (key p) (key r)) _ (lt-ltb (key p) (key r) (omega arith))
        by (inl x) (inr y) =
            let u = below_or_not (key p) (key q) x in let v = key_kept q r hq hr y in
            or_left (ltb (key p) (key r)) _ (lt-ltb (key p) (key r) (omega arith))
        by (inr x) (inl y) =
            let u = key_kept p q hp hq x in let v = below_or_not (key q) (key r) y in
            or_left (ltb (key p) (key r)) _ (lt-ltb (key p) (key r) (omega arith))
        by (inr x) (inr y) = or_right (ltb (key p) (key r)) _ (before_transitive problem grounded order trees closed p q r x y)

  -- a list sorted so respects the order
  pub respects_order : (ps : List Place) → Respects precedes ps → Respects (before problem order trees) ps
  respects_order [] r = tt
  respects_order (p ∷ ps) r =
      (all_map (λ q. precedes q p ≡ false) (λ q. before problem order trees q p ≡ false) ps (λ q e. (not_preceding q p e).1) r.0, respects_order ps r.1)

-- ## Along the lines

module _ (naming : Naming) (problem : Problem) (file : PlanFile) (states : ℕ → State) (runs : LinesRun naming problem file states)
    (order : Order) (trees : Nodes) (slots : Slots) (ids : Place → ℕ) (marks : AllMarks naming file slots ids 0 trees)
    (keeps : ForestKeeps problem states slots order trees (length file.actions))
    (leaf_of : (i : ℕ) (line : ActionLine) → slice_get file.actions i ≡ Some line → (p : Place) × (g : GroundTask) × (node_at trees p ≡ Some (leaf g)) × (slots p ≡ i))
    (one_leaf : (p q : Place) (g h : GroundTask) → node_at trees p ≡ Some (leaf g) → node_at trees q ≡ Some (leaf h) → slots p ≡ slots q → p ≡ q) where
  -- how many action lines there are
  abbrev n : ℕ
  n = length file.actions

  -- the key by which a place is put in sequence
  abbrev key_of : Place → ℕ
  key_of = key problem order trees slots

  -- a place isn't before another
  abbrev Later : Place → Place → Type 0
  Later p q = precedes problem order trees slots q p ≡ false

  -- the places from here on, with the lines from line i on
  pub record Waits (i : ℕ) (lines : List ActionLine) (qs : List Place) : Type 0 where
    pub are_lines : (k : ℕ) → slice_get lines k ≡ slice_get file.actions (i + k)
    pub up_to : i ≤ n
    pub stand : AllByRecursion (λ q. IsPrimitive (node_at trees q)) qs
    pub sorted : Respects (precedes problem order trees slots) qs
    pub distinct : IsWithoutRepeats qs
    pub low : AllByRecursion (λ q. i + i ≤ key_of q) qs
    pub complete : (p : Place) (g : GroundTask) → node_at trees p ≡ Some (leaf g) → i ≤ slots p → IsIn p qs

  -- the places show the lines, and run to the last state
  pub record Executes (i : ℕ) (lines : List ActionLine) (qs : List Place) : Type 0 where
    pub shown : AreActionLines naming trees ids qs lines
    pub ends : run problem trees (states i) qs ≡ Some (states n)

  -- a leaf's key
  key_leaf : (p : Place) (g : GroundTask) → node_at trees p ≡ Some (leaf g) → key_of p ≡ suc (slots p + slots p)
  key_leaf p g e = let one : duration (node_at trees p) ≡ 1 = ap duration e in omega arith

  -- a step's key
  key_step : (p : Place) (literals : List Literal) → node_at trees p ≡ Some (step literals) → key_of p ≡ slots p + slots p
  key_step p literals e = let none : duration (node_at trees p) ≡ 0 = ap duration e in omega arith

  -- no later leaf or step is before the next line
  next_up : (p : Place) (qs : List Place) (i : ℕ) (lines : List ActionLine) (w : Waits i lines (p ∷ qs)) → i < n → key_of p ≤ suc (i + i)
  next_up p qs i lines w low =
      let (line, there) = line_at file.actions i low in
      let (q, g, is, at) = leaf_of i line there in
      let k = key_leaf q g is in
      elim (w.complete q g is (omega arith)) [
        | inl same ↦ (let e : key_of q ≡ key_of p = ap key_of same in omega arith)
        | inr later ↦ (let l = (not_preceding problem order trees slots q p (all_in (Later p) q qs w.sorted.0 later)).0 in omega arith)
      ]

  -- no line is left where no place is
  no_lines : (i : ℕ) (lines : List ActionLine) → Waits i lines [] → i ≡ n
  no_lines i lines w = elim (cases_lt i n) [
    | inl low ↦ (let (line, there) = line_at file.actions i low in let (q, g, is, at) = leaf_of i line there in absurd (w.complete q g is (omega arith)))
    | inr up ↦ (let u = w.up_to in omega arith)
  ]

  -- nothing is left
  ended : (i : ℕ) (lines : List ActionLine) → Waits i lines [] → Executes i lines []
  ended i [] w = record { shown = end; ends = ap (λ k. Some (states k)) (no_lines i [] w) }
  ended i (line ∷ lines) w =
      let e = no_lines i (line ∷ lines) w in
      let there : slice_get file.actions (i + 0) ≡ Some line = sym (w.are_lines 0) in
      let within = line_within file.actions (i + 0) line there in absurd (omega arith)

  -- past a step
  after_step : (p : Place) (qs : List Place) (i : ℕ) (lines : List ActionLine) (literals : List Literal) → node_at trees p ≡ Some (step literals)
      → Waits i lines (p ∷ qs) → Waits i lines qs
  after_step p qs i lines literals is w = record {
    are_lines = w.are_lines;
    up_to = w.up_to;
    stand = w.stand.1;
    sorted = w.sorted.1;
    distinct = w.distinct.1;
    low = w.low.1;
    complete = λ q g e up. elim (w.complete q g e up) [
      | inl same ↦ (let both : Some (leaf g) ≡ Some (step literals) = sym e ∙ ap (node_at trees) same ∙ is in absurd cc)
      | inr later ↦ later
    ];
  }

  -- a step in front is in the next gap
  step_slot : (p : Place) (qs : List Place) (i : ℕ) (lines : List ActionLine) (literals : List Literal) → node_at trees p ≡ Some (step literals)
      → Waits i lines (p ∷ qs) → slots p ≡ i
  step_slot p qs i lines literals is w =
      let k = key_step p literals is in
      let low = w.low.0 in
      elim (cases_lt i n) [
        | inl below ↦ (let up = next_up p qs i lines w below in omega arith)
        | inr past ↦ (let u = w.up_to in let e = keeps.ends p w.stand.0 in omega arith)
      ]

  -- a step in front is carried out
  execute_step : (p : Place) (qs : List Place) (i : ℕ) (lines : List ActionLine) (literals : List Literal) → node_at trees p ≡ Some (step literals)
      → Waits i lines (p ∷ qs) → Executes i lines qs → Executes i lines (p ∷ qs)
  execute_step p qs i lines literals is w more =
      let holds_there : holds (states i) literals ≡ true = subst (λ k. holds (states k) literals ≡ true) (step_slot p qs i lines literals is w) (keeps.steps p literals is) in
      let stays : perform_at problem (states i) (node_at trees p) ≡ Some (states i) =
      ap (perform_at problem (states i)) is ∙ ap (λ b. cond b (Some (states i)) None) holds_there in
      record {
        shown = no_line p qs lines (subst IsStep (sym is) tt) more.shown;
        ends = ap (option_and_then (λ next. run problem trees next qs)) stays ∙ more.ends;
      }

  -- past a leaf
  leaf_slot : (p : Place) (qs : List Place) (i : ℕ) (lines : List ActionLine) (g : GroundTask) → node_at trees p ≡ Some (leaf g) → Waits i lines (p ∷ qs) → (slots p ≡ i) × (i < n)
  leaf_slot p qs i lines g is w =
      let k = key_leaf p g is in
      let low = w.low.0 in
      let e = keeps.ends p w.stand.0 in
      let one : duration (node_at trees p) ≡ 1 = ap duration is in
      let below : i < n = omega arith in
      let up = next_up p qs i lines w below in
      (omega arith, below)

  -- what comes after a leaf has no smaller slot
  later_low : (p : Place) (qs : List Place) (i : ℕ) (lines : List ActionLine) (g : GroundTask) → node_at trees p ≡ Some (leaf g) → Waits i lines (p ∷ qs)
      → (q : Place) → IsIn q qs → suc i + suc i ≤ key_of q
  later_low p qs i lines g is w q j = by (node_at trees q) refl (all_in (λ r. IsPrimitive (node_at trees r)) q qs w.stand.1 j)
    where
      at_p : slots p ≡ i
      at_p = (leaf_slot p qs i lines g is w).0

      up : key_of p ≤ key_of q
      up = (not_preceding problem order trees slots q p (all_in (Later p) q qs w.sorted.0 j)).0

      by : (m : Option Node) → node_at trees q ≡ m → IsPrimitive m → suc i + suc i ≤ key_of q
      by None e h = absurd h
      by (Some (leaf t)) e h =
          let k = key_leaf p g is in let l = key_leaf q t e in let a = at_p in let u = up in
          let other : slots p ≡ slots q → ⊥ = λ same. w.distinct.0 (subst (λ r. IsIn r qs) (sym (one_leaf p q g t is e same)) j) in
          elim (cases_lt i (slots q)) [ inl less ↦ omega arith | inr not_less ↦ absurd (other (omega arith)) ]
      by (Some (step literals)) e h = let k = key_leaf p g is in let l = key_step q literals e in let a = at_p in let u = up in omega arith
      by (Some (compound t number nodes)) e h = absurd h

  -- after a leaf in front the next line comes
  after_leaf : (p : Place) (qs : List Place) (i : ℕ) (line : ActionLine) (lines : List ActionLine) (g : GroundTask) → node_at trees p ≡ Some (leaf g)
      → Waits i (line ∷ lines) (p ∷ qs) → Waits (suc i) lines qs
  after_leaf p qs i line lines g is w =
      let (at, below) = leaf_slot p qs i (line ∷ lines) g is w in
      record {
        are_lines = λ k. w.are_lines (suc k) ∙ ap (slice_get file.actions) (let e : i + suc k ≡ suc i + k = omega arith in e);
        up_to = omega arith;
        stand = w.stand.1;
        sorted = w.sorted.1;
        distinct = w.distinct.1;
        low = all_from (λ q. suc i + suc i ≤ key_of q) qs (later_low p qs i (line ∷ lines) g is w);
        complete = λ q h e up. elim (w.complete q h e (omega arith)) [
          | inl same ↦ (let there : slots q ≡ slots p = ap slots same in absurd (omega arith))
          | inr later ↦ later
        ];
      }

  -- a leaf in front is carried out with its line
  execute_leaf : (p : Place) (qs : List Place) (i : ℕ) (line : ActionLine) (lines : List ActionLine) (g : GroundTask) → node_at trees p ≡ Some (leaf g)
      → Waits i (line ∷ lines) (p ∷ qs) → Executes (suc i) lines qs → Executes i (line ∷ lines) (p ∷ qs)
  execute_leaf p qs i line lines g is w more =
      let (at, below) = leaf_slot p qs i (line ∷ lines) g is w in
      let l = leaf_line naming file slots ids trees marks p g is in
      let there : slice_get file.actions i ≡ Some l.line = subst (λ k. slice_get file.actions k ≡ Some l.line) at l.stands in
      let own : Some line ≡ slice_get file.actions i = w.are_lines 0 ∙ ap (slice_get file.actions) (let e : i + 0 ≡ i = omega arith in e) in
      let same : l.line ≡ line = cc in
      let does : perform_line naming problem (states i) l.line ≡ Some (states (suc i)) = runs.performs i l.line there in
      let acts : perform_at problem (states i) (node_at trees p) ≡ Some (states (suc i)) =
      ap (perform_at problem (states i)) is ∙ sym (ap (λ m. perform_action (states i) (option_and_then problem.action_of m)) l.named) ∙ does in
      record {
        shown = action_line p qs g line lines is (ap (λ x. x.id) (sym same) ∙ l.is) (subst (λ x. naming.named x.name x.arguments ≡ Some g) same l.named) more.shown;
        ends = ap (option_and_then (λ next. run problem trees next qs)) acts ∙ more.ends;
      }

  -- where no line is left there is no leaf
  no_line_left : (p : Place) (qs : List Place) (i : ℕ) (g : GroundTask) → node_at trees p ≡ Some (leaf g) → Waits i [] (p ∷ qs) → ⊥
  no_line_left p qs i g is w =
      let (at, below) = leaf_slot p qs i [] g is w in
      let (line, there) = line_at file.actions i below in
      let none : None ≡ slice_get file.actions i = w.are_lines 0 ∙ ap (slice_get file.actions) (let e : i + 0 ≡ i = omega arith in e) in
      cc

  -- so all are carried out
  pub executes : (qs : List Place) (i : ℕ) (lines : List ActionLine) → Waits i lines qs → Executes i lines qs
  executes [] i lines w = ended i lines w
  executes (p ∷ qs) i lines w = by (node_at trees p) refl w.stand.0 lines w (executes qs)
    where
      by : (m : Option Node) → node_at trees p ≡ m → IsPrimitive m → (lines : List ActionLine) → Waits i lines (p ∷ qs)
          → ((i : ℕ) (lines : List ActionLine) → Waits i lines qs → Executes i lines qs) → Executes i lines (p ∷ qs)
      by None e h lines w more = absurd h
      by (Some (leaf g)) e h [] w more = absurd (no_line_left p qs i g e w)
      by (Some (leaf g)) e h (line ∷ lines) w more = execute_leaf p qs i line lines g e w (more (suc i) lines (after_leaf p qs i line lines g e w))
      by (Some (step literals)) e h lines w more = execute_step p qs i lines literals e w (more i lines (after_step p qs i lines literals e w))
      by (Some (compound t number nodes)) e h lines w more = absurd h
