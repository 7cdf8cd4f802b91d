-- Values in parts of states are no more than the estimate by the lifted table.
use Rattle.std.proofs.Common.{◌≡◌, ℕ, suc, ◌+◌, ◌≤◌, ◌||◌, Bool, true, false, cond, List, [], ◌∷◌, map, Option, Some, inl, inr, refl, sym, ap, ◌∙◌, subst, arith}
use Rattle.std.specs.Prelude.{Contains}
use Rattle.htn_model.specs.State.{State}
use Rattle.htn_model.specs.Problem.{Network}
use Rattle.htn_calls.specs.Calls.{Exit, Summary, Table, over_exits, by_summary, estimate}
use Rattle.call_rules.specs.Frame.{Frame, IsInside, within, lift}
use Rattle.call_rules.proofs.Parts.{narrowed_part, agreed_lift}
use Rattle.call_rules.specs.Framed.{IsPart, lifted_exit, lifted_summary, IsFramed}
use Rattle.call_rules.specs.FramedValues.{list_frame, IsFromCall, AreValuesIn, IsGoalIn, FramedValuesBelow}

-- the first of two that holds makes either hold, and so does the second
either_first : (x y : Bool) → x ≡ true → (x || y) ≡ true
either_first true y h = refl
either_first false y h = cc

either_second : (x y : Bool) → y ≡ true → (x || y) ≡ true
either_second true y h = refl
either_second false y h = h

-- a number is no less than itself
no_less : (n : ℕ) → n ≤ n
no_less n = omega arith

-- a number that no exit lowers is no more than the least over them
below_exits : {S : Type 0} (to : Exit ℕ → Exit S) (onward : S → ℕ) (least floor : ℕ) → least ≤ floor
    → (exits : List (Exit ℕ))
    → ((e : Exit ℕ) → Contains exits e → least ≤ (to e).cost + onward (to e).state)
    → least ≤ over_exits onward floor (map to exits)
below_exits to onward least floor h [] each = h
below_exits to onward least floor h (e ∷ exits) each =
    let one = each e (0, omega arith, refl) in
    let others =
    below_exits to onward least floor h exits
    (λ x there. each x (suc there.0, (let l = there.1 in omega arith), there.2)) in
    omega arith

module _ (state : ℕ → State) (block : ℕ → Network) (frame : ℕ → Frame) (goal_frame : Frame) (listing : Table ℕ ℕ)
    (table : Table State Network) (total : List ℕ → ℕ) (least : List Network → ℕ) (goal : State → Bool) (cap : ℕ)
    (value : List ℕ → ℕ → ℕ) (stands : IsFramed state block frame listing table)
    (counted : (blocks : List ℕ) → total blocks ≤ least (map block blocks)) (reads : IsGoalIn goal_frame goal)
    (values : AreValuesIn state frame goal_frame listing total goal cap value) where
  -- the frame of a list
  abbrev frame_of : List ℕ → Frame
  frame_of = list_frame frame goal_frame

  -- the estimate of blocks
  abbrev estimated : List ℕ → State → ℕ
  estimated blocks = estimate table (λ s. least) least goal cap (map block blocks)

  -- the frames of its first block and of the others are inside
  first_inside : (j : ℕ) (rest : List ℕ) → IsInside (frame j) (frame_of (j ∷ rest))
  first_inside j rest a h = either_first (frame j a) (frame_of rest a) h

  rest_inside : (j : ℕ) (rest : List ℕ) → IsInside (frame_of rest) (frame_of (j ∷ rest))
  rest_inside j rest a h = either_second (frame j a) (frame_of rest a) h

  module _ (i j : ℕ) (rest : List ℕ) (s : State) (part : IsPart (frame_of (j ∷ rest)) s (state i)) where
    -- a part in an inner frame is that of the whole state
    part_in : (inner : Frame) → IsInside inner (frame_of (j ∷ rest)) → within inner (state i) ≡ within inner s
    part_in inner inside =
        ap (within inner) part ∙ narrowed_part (frame_of (j ∷ rest)) inner s inside

    -- what a value follows from, it is no more than
    from_call : (least_of : ℕ) → IsFromCall state frame goal_frame listing total goal cap value i j rest least_of
        → ((k : ℕ) (t : State) → IsPart (frame_of rest) t (state k) → value rest k ≤ estimated rest t)
        → least_of ≤ by_summary (table s (block j)) (least (map block rest)) (estimated rest)
    from_call least_of h later =
        let at : table s (block j) ≡ Some (lifted_summary state block frame j s h.summary) =
        stands.listed h.part j h.summary s h.listed (h.is_part ∙ part_in (frame j) (first_inside j rest)) in
        let floor : least_of ≤ h.summary.floor + least (map block rest) =
        (let l = h.floor in let c = counted rest in omega arith) in
        let bound : least_of ≤ over_exits (estimated rest) (h.summary.floor + least (map block rest))
        (map (lifted_exit state block frame j s) h.summary.exits) =
        below_exits (lifted_exit state block frame j s) (estimated rest) least_of
        (h.summary.floor + least (map block rest)) floor h.summary.exits
        (λ e there.
        (let next = h.exits e there in
        let same : within (frame_of rest) (lift (frame j) (state i) (state e.state))
        ≡ within (frame_of rest) (lift (frame j) s (state e.state)) =
        agreed_lift (frame_of rest) (frame j) (state i) s (state e.state)
        (part_in (frame_of rest) (rest_inside j rest)) in
        let l = later next.0 (lift (frame j) s (state e.state)) (next.1 ∙ same) in
        let v = next.2 in
        omega arith)) in
        subst (λ (o : Option (Summary State)). least_of ≤ by_summary o (least (map block rest)) (estimated rest)) (sym at)
        bound

  -- so are all
  values_below : (blocks : List ℕ) (i : ℕ) (s : State) → IsPart (frame_of blocks) s (state i)
      → value blocks i ≤ estimated blocks s
  values_below [] i s part =
      let here = values.ended i in
      let same : goal (state i) ≡ goal s = ap goal part ∙ sym (reads s) in
      subst (λ b. value [] i ≤ cond b 0 cap) same here
  values_below (j ∷ rest) i s part = elim (values.called i j rest) [
    | inl small ↦ (let l = counted (j ∷ rest) in omega arith)
    | inr call ↦ (let l = from_call i j rest s part (value (j ∷ rest) i) call (values_below rest) in omega arith)
  ]

-- values in parts of states are no more than the estimate
pub framed_values_below : FramedValuesBelow
framed_values_below = values_below
