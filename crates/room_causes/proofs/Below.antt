-- The actions below a line, as they are gone over.
use Rattle.std.proofs.Common.{◌≡◌, ℕ, ◌+◌, ◌≤◌, ◌<◌, ◌⊎◌, inl, inr, List, [], ◌∷◌, ◌++◌, length, Option, Some, None, sym, refl, ap, subst, arith}
use Rattle.htn_model.specs.PlanFile.{IsIn}
use Rattle.htn_model.specs.Fits.{PlanTree, action_at, decomposition}
use Rattle.std.proofs.lemmas.Bool.{lt-ltb}
use Rattle.std.proofs.lemmas.List.Elements.{All-get_or}
use Rattle.plan_room.proofs.Own.{place_in}
use Rattle.plan_room.specs.Deepest.{IsBelow, IsChildOf}
use Rattle.plan_room.specs.Deepest.IsBelow.{child, further}
use Rattle.plan_room.specs.Frames.{plan_size, plans_size}
use Rattle.plan_room.specs.Lines.{Lines, AreLines, plans_of}
use Rattle.plan_room.specs.Seats.{children_at, children_of}
use Rattle.room_causes.specs.Nodes.{HasAction, IsSpan, IsWidened}
use Rattle.room_causes.specs.declared.actions.Span.{Span}

-- ## Lists

-- what is in a list is in a longer one
pub in_left : (x : ℕ) (xs ys : List ℕ) → IsIn x xs → IsIn x (xs ++ ys)
in_left x [] ys there = absurd there
in_left x (y ∷ xs) ys (inl same) = inl same
in_left x (y ∷ xs) ys (inr there) = inr (in_left x xs ys there)

pub in_right : (x : ℕ) (xs ys : List ℕ) → IsIn x ys → IsIn x (xs ++ ys)
in_right x [] ys there = there
in_right x (y ∷ xs) ys there = inr (in_right x xs ys there)

-- and what is in two lists together is in one of them
pub in_either : (x : ℕ) (xs ys : List ℕ) → IsIn x (xs ++ ys) → IsIn x xs ⊎ IsIn x ys
in_either x [] ys there = inr there
in_either x (y ∷ xs) ys (inl same) = inl (inl same)
in_either x (y ∷ xs) ys (inr there) = elim (in_either x xs ys there) [
  | inl here ↦ inl (inr here)
  | inr past ↦ inr past
]

-- the sizes of the plans of two lists add up
pub sizes_add : (f : ℕ → PlanTree) (xs ys : List ℕ) → plans_size (plans_of f (xs ++ ys)) ≡ plans_size (plans_of f xs) + plans_size (plans_of f ys)
sizes_add f [] ys = omega arith
sizes_add f (x ∷ xs) ys = (let more = sizes_add f xs ys in omega arith)

-- a list without elements is the empty one
pub none_left : (xs : List ℕ) → length xs ≡ 0 → xs ≡ []
none_left [] e = refl
none_left (x ∷ xs) e = absurd (omega arith)

-- ## Lines

-- a line is another one or below it
abbrev pub IsHere : Lines → (top line : ℕ) → Type 0
IsHere l top line = (line < l.count) × ((line ≡ top) ⊎ IsBelow l top line)

-- each action is within a span, or below a line that waits
abbrev pub IsSeen : Lines → (line : ℕ) → List ℕ → Option Span → Type 0
IsSeen l line waiting None = (action : ℕ) → HasAction l line action → (x : ℕ) × IsIn x waiting × HasAction l x action
IsSeen l line waiting (Some span) = HasAction l line span.first × HasAction l line span.last
    × ((action : ℕ) → HasAction l line action → ((span.first ≤ action) × (action ≤ span.last)) ⊎ ((x : ℕ) × IsIn x waiting × HasAction l x action))

module _ (l : Lines) (are : AreLines l) where
  -- the children of a decomposition line are those that are listed
  pub listed : (top : ℕ) → top < l.count → children_of l top ≡ l.children top
  listed top low = ap (λ b. children_at b l top) (lt-ltb top l.count low)

  -- what is below a line's child is below the line
  pub here_below : (line top c : ℕ) → IsHere l line top → l.actions ≤ top → IsIn c (l.children top) → IsBelow l line c
  here_below line top c (low, is) high there =
      let is_child : IsChildOf l top c = ((high, (let e : top ≤ l.count = omega arith in e)), subst (IsIn c) (sym (listed top low)) there) in
      elim is [
        | inl same ↦ subst (λ t. IsBelow l t c) same (child top c is_child)
        | inr below ↦ lower_still line top c below is_child
      ]
    where
      lower_still : (top line c : ℕ) → IsBelow l top line → IsChildOf l line c → IsBelow l top c
      lower_still top line c (child _ _ is_child) next = further top line c is_child (child line c next)
      lower_still top line c (further _ d _ is_child below) next = further top d c is_child (lower_still d line c below next)

  -- so a child of a line that is here is here
  pub child_of_here : (line top c : ℕ) → IsHere l line top → l.actions ≤ top → IsIn c (l.children top) → IsHere l line c
  child_of_here line top c here high there =
      let (j, low, is) = place_in c (l.children top) there in
      (subst (λ x. x < l.count) is (All-get_or (λ x. x < l.count) (l.children top) j 0 low (are.children_low top high here.0)), inr (here_below line top c here high there))

  -- an action below a decomposition line is below one of its children
  pub action_lower : (top action : ℕ) → top < l.count → l.actions ≤ top → HasAction l top action → (c : ℕ) × IsIn c (l.children top) × HasAction l c action
  action_lower top action low high (is_action, inl same) = absurd (omega arith)
  action_lower top action low high (is_action, inr below) = by below
    where
      by : IsBelow l top action → (c : ℕ) × IsIn c (l.children top) × HasAction l c action
      by (child _ _ is_child) = (action, subst (IsIn action) (listed top low) is_child.1, (is_action, inl refl))
      by (further _ c _ is_child lower) = (c, subst (IsIn c) (listed top low) is_child.1, (is_action, inr lower))

  -- an action line has no action but itself
  pub action_itself : (top action : ℕ) → top < l.actions → HasAction l top action → action ≡ top
  action_itself top action small (is_action, inl same) = same
  action_itself top action small (is_action, inr below) = by below
    where
      by : IsBelow l top action → action ≡ top
      by (child _ _ is_child) = absurd (let high = is_child.0.0 in omega arith)
      by (further _ c _ is_child lower) = absurd (let high = is_child.0.0 in omega arith)

  -- a plan has at least one node
  size_some : (p : PlanTree) → 0 < plan_size p
  size_some (action_at g i) = omega arith
  size_some (decomposition t method plans) = omega arith

  -- ## Steps

  module _ (line next : ℕ) (rest : List ℕ) where
    -- an action line is done with
    pub smaller_action : plans_size (plans_of l.plan_of rest) < plans_size (plans_of l.plan_of (rest ++ next ∷ []))
    smaller_action =
        let whole = sizes_add l.plan_of rest (next ∷ []) in
        let some = size_some (l.plan_of next) in
        omega arith

    -- a decomposition line gives way to its children
    pub smaller_children : next < l.count → l.actions ≤ next → plans_size (plans_of l.plan_of (rest ++ l.children next)) < plans_size (plans_of l.plan_of (rest ++ next ∷ []))
    smaller_children low high =
        let whole = sizes_add l.plan_of rest (next ∷ []) in
        let parts = sizes_add l.plan_of rest (l.children next) in
        let (t, method, is) = are.decomposition_lines next high low in
        let one = ap plan_size is in
        omega arith

    -- what is seen once an action line is
    pub seen_action : (span : Option Span) (new : Span) → IsHere l line next → next < l.actions → IsWidened span next new → IsSeen l line (rest ++ next ∷ []) span → IsSeen l line rest (Some new)
    seen_action None new here small (first, last) seen = (
      subst (HasAction l line) (sym first) (small, here.1),
      subst (HasAction l line) (sym last) (small, here.1),
      λ action is. (let (x, there, has) = seen action is in elim (in_either x rest (next ∷ []) there) [
        | inl waits ↦ inr (x, waits, has)
        | inr now ↦ inl (let same = action_itself next action small (subst (λ t. HasAction l t action) (only x next now) has) in (omega arith, omega arith))
      ]),
    )
      where
        only : (x next : ℕ) → IsIn x (next ∷ []) → x ≡ next
        only x next (inl same) = same
        only x next (inr none) = absurd none
    seen_action (Some old) new here small (first, last, a, b, c, d) (has_first, has_last, each) = (
      elim first [ inl same ↦ subst (HasAction l line) (sym same) has_first | inr same ↦ subst (HasAction l line) (sym same) (small, here.1) ],
      elim last [ inl same ↦ subst (HasAction l line) (sym same) has_last | inr same ↦ subst (HasAction l line) (sym same) (small, here.1) ],
      λ action is. elim (each action is) [
        | inl within ↦ inl (let low = within.0 in let high = within.1 in (omega arith, omega arith))
        | inr more ↦ (let (x, there, has) = more in elim (in_either x rest (next ∷ []) there) [
          | inl waits ↦ inr (x, waits, has)
          | inr now ↦ inl (let same = action_itself next action small (subst (λ t. HasAction l t action) (only x next now) has) in (omega arith, omega arith))
        ])
      ],
    )
      where
        only : (x next : ℕ) → IsIn x (next ∷ []) → x ≡ next
        only x next (inl same) = same
        only x next (inr none) = absurd none

    -- an action that is below a line that waits is so once a decomposition line has given way to its children
    moved : (action : ℕ) → next < l.count → l.actions ≤ next → (x : ℕ) × IsIn x (rest ++ next ∷ []) × HasAction l x action
        → (x : ℕ) × IsIn x (rest ++ l.children next) × HasAction l x action
    moved action low high (x, there, has) = elim (in_either x rest (next ∷ []) there) [
      | inl waits ↦ (x, in_left x rest (l.children next) waits, has)
      | inr now ↦ (let (c, listed_there, lower) = action_lower next action low high (subst (λ t. HasAction l t action) (only x next now) has) in
          (c, in_right c rest (l.children next) listed_there, lower))
    ]
      where
        only : (x next : ℕ) → IsIn x (next ∷ []) → x ≡ next
        only x next (inl same) = same
        only x next (inr none) = absurd none

    -- so what is seen is so then
    pub seen_children : (span : Option Span) → next < l.count → l.actions ≤ next → IsSeen l line (rest ++ next ∷ []) span → IsSeen l line (rest ++ l.children next) span
    seen_children None low high seen = λ action is. moved action low high (seen action is)
    seen_children (Some span) low high (has_first, has_last, each) = (
      has_first,
      has_last,
      λ action is. elim (each action is) [
        | inl within ↦ inl within
        | inr more ↦ inr (moved action low high more)
      ],
    )

  -- once no line waits the span is that of all actions
  pub all_seen : (line : ℕ) (span : Option Span) → IsSeen l line [] span → IsSpan l line span
  all_seen line None seen = λ action is. (seen action is).1
  all_seen line (Some span) (has_first, has_last, each) = (
    (has_first, λ other is. elim (each other is) [ inl within ↦ within.0 | inr more ↦ absurd more.1 ]),
    (has_last, λ other is. elim (each other is) [ inl within ↦ within.1 | inr more ↦ absurd more.1 ]),
  )
