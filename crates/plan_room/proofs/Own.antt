-- A line that has room gives room to each line below it.
use Rattle.std.proofs.Common.{◌≡◌, ℕ, zero, suc, ◌≤◌, ◌<◌, ◌⊎◌, ◌↔◌, inl, inr, Bool, true, false, ltb, List, [], ◌∷◌, length, get_or, Option, Some, None, sym, refl, subst, arith}
use Rattle.std.proofs.lemmas.Bool.{both_ways, lt-ltb, cases_lt}
use Rattle.std.specs.Option.{is_some}
use Rattle.htn_model.specs.PlanFile.{IsIn}
use Rattle.htn_model.specs.Fits.{Fits, AllFit}
use Rattle.htn_model.proofs.Monotone.{fits_monotone, network_monotone}
use Rattle.plan_room.specs.Deepest.{HasOwnRoom, IsChildOf, IsBelow, IsDeepest, RoomIsPassedOn, DeepestBlock, DeepestExist}
use Rattle.plan_room.specs.Deepest.IsBelow.{child, further}
use Rattle.plan_room.specs.Ends.{IsEnd}
use Rattle.plan_room.specs.Frames.{IsLine, line_size}
use Rattle.plan_room.specs.Lines.{Lines, AreLines, FileFits, plans_of}
use Rattle.plan_room.specs.Memo.{answer}
use Rattle.plan_room.specs.Placing.{IsFinish}
use Rattle.plan_room.specs.declared.rooms.Question.{Question}
use Rattle.plan_room.specs.Seats.{FitAt, LineFits, children_of}
use Rattle.plan_room.proofs.Unrolled.{unrolled, child_low, smaller, root_fits, fits_root}

-- what is in a list stands at a place of it
pub place_in : (x : ℕ) (xs : List ℕ) → IsIn x xs → (j : ℕ) × (j < length xs) × (get_or xs j 0 ≡ x)
place_in x [] there = absurd there
place_in x (y ∷ ys) (inl same) = (0, (omega arith), sym same)
place_in x (y ∷ ys) (inr there) = let (j, low, is) = place_in x ys there in (suc j, (omega arith), is)

-- and what stands at a place is in the list
pub in_at : (xs : List ℕ) (j : ℕ) → j < length xs → IsIn (get_or xs j 0) xs
in_at [] j low = absurd (omega arith)
in_at (x ∷ xs) zero low = inl refl
in_at (x ∷ xs) (suc j) low = inr (in_at xs j (omega arith))

module _ (l : Lines) where
  -- a plan of several that have room has it at one of their positions
  pub one_fits : (positions lines : List ℕ) (start finish : ℕ → ℕ) → AllFit l.naming l.problem l.states positions (plans_of l.plan_of lines) start finish
      → (j : ℕ) → j < length lines → (a : ℕ) × Fits l.naming l.problem l.states (l.plan_of (get_or lines j 0)) (start a) (finish a)
  one_fits positions [] start finish all j low = absurd (omega arith)
  one_fits [] (c ∷ lines) start finish all j low = absurd all
  one_fits (a ∷ positions) (c ∷ lines) start finish all zero low = (a, all.0)
  one_fits (a ∷ positions) (c ∷ lines) start finish all (suc j) low = one_fits positions lines start finish all.1 j (omega arith)

  -- a line's room is that of its plan
  pub own_of_plan : (c : ℕ) → c < l.count → Fits l.naming l.problem l.states (l.plan_of c) 0 l.actions → HasOwnRoom l c
  own_of_plan c low fits = subst (λ b. FitAt b l c 0 l.actions) (sym (lt-ltb c l.count low)) fits

module _ (l : Lines) (are : AreLines l) where
  -- a child is a line
  pub child_is_low : (top line : ℕ) → IsChildOf l top line → line < l.count
  child_is_low top line (is_line, there) =
      let (j, low, is) = place_in line (children_of l top) there in
      subst (λ c. c < l.count) is (child_low l are top j is_line low)

  -- and has fewer lines
  pub child_smaller : (top line : ℕ) → IsChildOf l top line → line_size l line < line_size l top
  child_smaller top line (is_line, there) =
      let (j, low, is) = place_in line (children_of l top) there in
      subst (λ c. line_size l c < line_size l top) is (smaller l are top j is_line low)

  -- a child that is no action line is a decomposition line
  pub child_line : (top line : ℕ) → IsChildOf l top line → l.actions ≤ line → IsLine l line
  child_line top line is_child high = (high, (let low = child_is_low top line is_child in omega arith))

  -- an action line has room
  pub action_own : (c : ℕ) → c < l.actions → HasOwnRoom l c
  action_own c low = own_of_plan l c (let first = are.first in omega arith)
      (subst (λ p. Fits l.naming l.problem l.states p 0 l.actions) (sym (are.action_lines c low)) ((let e : 0 ≤ c = omega arith in e), low))

  -- a child of what has room has room
  pub passed_to_child : (top line : ℕ) → IsChildOf l top line → HasOwnRoom l top → HasOwnRoom l line
  passed_to_child top line is_child room =
      let (network, is_one, fits) = unrolled l are top 0 l.actions is_child.0 room in
      let (positions, matching, start, finish, spans, steps, all) = fits in
      let (j, low, is) = place_in line (children_of l top) is_child.1 in
      let (a, fits) = one_fits l positions (children_of l top) start finish all j low in
      own_of_plan l line (child_is_low top line is_child) (subst (λ c. Fits l.naming l.problem l.states (l.plan_of c) 0 l.actions) is
      (fits_monotone l.naming l.problem l.states (l.plan_of (get_or (children_of l top) j 0)) (start a) (finish a) 0 l.actions (omega arith) (spans.to a) fits))

  -- and so has each line below
  pub passed_on : RoomIsPassedOn l
  passed_on top line (child _ _ is_child) room = passed_to_child top line is_child room
  passed_on top line (further _ c _ is_child below) room = passed_on c line below (passed_to_child top c is_child room)

  -- all below a line has room where its children have
  pub all_below : (top : ℕ) → ((c : ℕ) → IsIn c (children_of l top) → HasOwnRoom l c) → (line : ℕ) → IsBelow l top line → HasOwnRoom l line
  all_below top all line (child _ _ is_child) = all line is_child.1
  all_below top all line (further _ c _ is_child below) = passed_on c line below (all c is_child.1)

  -- a line below a line below another is below that
  pub lower_still : (top line c : ℕ) → IsBelow l top line → IsChildOf l line c → IsBelow l top c
  lower_still top line c (child _ _ is_child) next = further top line c is_child (child line c next)
  lower_still top line c (further _ d _ is_child below) next = further top d c is_child (lower_still d line c below next)

  -- so is a child of the root line or of a line below it
  pub stands_lower : (line c : ℕ) → (line ≡ l.count) ⊎ IsBelow l l.count line → IsChildOf l line c → (c ≡ l.count) ⊎ IsBelow l l.count c
  stands_lower line c (inl same) next = inr (child l.count c (subst (λ i. IsChildOf l i c) same next))
  stands_lower line c (inr below) next = inr (lower_still l.count line c below next)

  -- the root line
  pub root_line : IsLine l l.count
  root_line = (are.first, (let e : l.count ≤ l.count = omega arith in e))

  -- where the root line has room the file has, and the other way round
  pub root_own : HasOwnRoom l l.count → FileFits l
  root_own room = root_fits l are l.actions room (omega arith)

  -- a deepest line without room leaves none for the file
  pub deepest_blocks : DeepestBlock l
  deepest_blocks i deepest fits = elim deepest.stands [
    | inl same ↦ deepest.blocked (subst (HasOwnRoom l) (sym same) (fits_root l are fits))
    | inr below ↦ deepest.blocked (passed_on l.count i below (fits_root l are fits))
  ]

  -- ## Answers

  -- whether a line has room by its end
  pub own_decided : (i : ℕ) (end : Option ℕ) (b : Bool) → IsEnd l i 0 end → b ≡ is_some end → (b ≡ true) ↔ HasOwnRoom l i
  own_decided i None b never is = (
    (λ yes. absurd (both_ways b is yes)),
    (λ room. absurd (never l.actions (omega arith) room)),
  )
  own_decided i (Some h) b first is = (
    (λ yes. line_later i h first.within first.fits),
    (λ room. is),
  )
    where
      line_later : (i h : ℕ) → h ≤ l.actions → LineFits l i 0 h → HasOwnRoom l i
      line_later i h low fits = by (ltb i l.count) fits
        where
          by : (b : Bool) → FitAt b l i 0 h → FitAt b l i 0 l.actions
          by true here = fits_monotone l.naming l.problem l.states (l.plan_of i) 0 h 0 l.actions (omega arith) low here
          by false (network, initial, room) =
              (network, initial, network_monotone l.naming l.problem l.states network (plans_of l.plan_of l.roots) 0 h 0 l.actions (omega arith) low room)

  -- ## A deepest line

  module _ (decided : (i : ℕ) → IsLine l i → HasOwnRoom l i ⊎ (HasOwnRoom l i → ⊥)) where
    -- all lines of a list have room, or a decomposition line among them has none
    search_blocked : (lines : List ℕ) → ((c : ℕ) → IsIn c lines → c < l.count)
        → ((c : ℕ) → IsIn c lines → HasOwnRoom l c) ⊎ ((c : ℕ) × IsIn c lines × (l.actions ≤ c) × (HasOwnRoom l c → ⊥))
    search_blocked [] low = inl (λ c there. absurd there)
    search_blocked (x ∷ lines) low = elim (search_blocked lines (λ c there. low c (inr there))) [
      | inr (c, there, high, none) ↦ inr (c, inr there, high, none)
      | inl all ↦ elim (cases_lt x l.actions) [
        | inl less ↦ inl (all_of x lines (action_own x less) all)
        | inr more ↦ elim (decided x (more, (let e = low x (inl refl) in omega arith))) [
          | inl room ↦ inl (all_of x lines room all)
          | inr none ↦ inr (x, inl refl, more, none)
        ]
      ]
    ]
      where
        all_of : (x : ℕ) (lines : List ℕ) → HasOwnRoom l x → ((c : ℕ) → IsIn c lines → HasOwnRoom l c) → (c : ℕ) → IsIn c (x ∷ lines) → HasOwnRoom l c
        all_of x lines room all c (inl same) = subst (HasOwnRoom l) (sym same) room
        all_of x lines room all c (inr there) = all c there

    -- from a line without room on downwards there is a deepest one
    search_deepest : (size i : ℕ) → line_size l i < size → IsLine l i → (i ≡ l.count) ⊎ IsBelow l l.count i → (HasOwnRoom l i → ⊥) → (j : ℕ) × IsDeepest l j
    search_deepest zero i small line stands none = absurd (omega arith)
    search_deepest (suc size) i small line stands none = elim (search_blocked (children_of l i) (λ c there. child_is_low i c (line, there))) [
      | inl all ↦ (i, record { line = line; stands = stands; blocked = none; below = all_below i all })
      | inr (c, there, high, blocked) ↦
          let is_child : IsChildOf l i c = (line, there) in
          let less = child_smaller i c is_child in
          search_deepest size c (omega arith) (child_line i c is_child high) (stands_lower i c stands is_child) blocked
    ]

  pub deepest_exist : DeepestExist l
  deepest_exist decided none =
      search_deepest decided (suc (line_size l l.count)) l.count (omega arith) root_line (inl refl) (λ room. none (root_own room))

-- an answer is the end that it names
pub end_of : (l : Lines) (i g : ℕ) (q : Question) (end : Option ℕ) → IsFinish (LineFits l i g) l.actions (answer q (Some end)) → IsEnd l i g end
end_of l i g q None is = is
end_of l i g q (Some h) is = is
