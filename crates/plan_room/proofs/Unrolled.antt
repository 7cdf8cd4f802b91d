-- A line has room exactly where its children have in one of its networks.
use Rattle.std.proofs.Common.{◌≡◌, ℕ, zero, suc, ◌≤◌, ◌<◌, Bool, true, false, ltb, List, [], ◌∷◌, length, get_or, sym, refl, ap, ◌∙◌, subst, arith}
use Rattle.std.proofs.lemmas.Bool.{lt-ltb, le-ltb, ltb-true}
use Rattle.std.proofs.lemmas.List.Elements.{All-get_or}
use Rattle.htn_model.specs.Problem.{Network, IsNetwork}
use Rattle.htn_model.specs.Fits.{decomposition, Fits, NetworkFits}
use Rattle.htn_model.proofs.Monotone.{network_monotone}
use Rattle.plan_room.specs.Lines.{Lines, AreLines, FileFits, plans_of}
use Rattle.plan_room.specs.Seats.{children_at, children_of, IsOneAt, IsOneOf, FitAt, LineFits}
use Rattle.plan_room.specs.Frames.{IsLine, NetworkHasRoom, plan_size, plans_size, size_at, line_size}

module _ (l : Lines) (are : AreLines l) where
  -- ## Networks

  -- by whether it is a line or the roots: what has room has it in one of its networks
  unrolled_at : (b : Bool) (i g h : ℕ) → b ≡ ltb i l.count → l.actions ≤ i → FitAt b l i g h → (network : Network) × IsOneAt b l i network × NetworkHasRoom l (children_at b l i) network g h
  unrolled_at true i g h e low fits =
      let (t, method, is) = are.decomposition_lines i low (ltb-true i l.count (sym e)) in
      let (number, network, found, name, room) = subst (λ p. Fits l.naming l.problem l.states p g h) is fits in
      (network, (t, method, plans_of l.plan_of (l.children i), number, is, found, name), room)
  unrolled_at false i g h e low (network, initial, room) = (network, initial, room)

  -- a line that has room has it in one of its networks
  pub unrolled : (i g h : ℕ) → IsLine l i → LineFits l i g h → (network : Network) × IsOneOf l i network × NetworkHasRoom l (children_of l i) network g h
  unrolled i g h line = unrolled_at (ltb i l.count) i g h refl line.0

  -- by whether it is a line or the roots: a network with room gives room
  rolled_at : (b : Bool) (i g h : ℕ) → b ≡ ltb i l.count → l.actions ≤ i → (network : Network) → IsOneAt b l i network → NetworkHasRoom l (children_at b l i) network g h → FitAt b l i g h
  rolled_at true i g h e low network (t, method, plans, number, is, found, name) room =
      let (u, other, other_is) = are.decomposition_lines i low (ltb-true i l.count (sym e)) in
      let both : decomposition u other (plans_of l.plan_of (l.children i)) ≡ decomposition t method plans = sym other_is ∙ is in
      let same : plans_of l.plan_of (l.children i) ≡ plans = cc in
      subst (λ p. Fits l.naming l.problem l.states p g h) (sym is) (number, network, found, name, subst (λ ps. NetworkFits l.naming l.problem l.states network ps g h) same room)
  rolled_at false i g h e low network initial room = (network, initial, room)

  -- a line has room where one of its networks has
  pub rolled : (i g h : ℕ) → IsLine l i → (network : Network) → IsOneOf l i network → NetworkHasRoom l (children_of l i) network g h → LineFits l i g h
  rolled i g h line = rolled_at (ltb i l.count) i g h refl line.0

  -- by whether it is a line or the roots: each is a network of the problem
  is_network_at : (b : Bool) (i : ℕ) (network : Network) → IsOneAt b l i network → IsNetwork network
  is_network_at true i network (t, method, plans, number, is, found, name) = are.grounded.methods t number network found
  is_network_at false i network (number, found) = are.grounded.initials number network found

  -- a line's networks are ones of the problem
  pub is_network : (i : ℕ) (network : Network) → IsOneOf l i network → IsNetwork network
  is_network i = is_network_at (ltb i l.count) i

  -- ## Children

  -- by whether it is a line or the roots: the children are lines
  low_at : (b : Bool) (i j : ℕ) → b ≡ ltb i l.count → l.actions ≤ i → j < length (children_at b l i) → get_or (children_at b l i) j 0 < l.count
  low_at true i j e low inside = All-get_or (λ c. c < l.count) (l.children i) j 0 inside (are.children_low i low (ltb-true i l.count (sym e)))
  low_at false i j e low inside = All-get_or (λ c. c < l.count) l.roots j 0 inside are.roots_low

  -- a line's children are lines
  pub child_low : (i j : ℕ) → IsLine l i → j < length (children_of l i) → get_or (children_of l i) j 0 < l.count
  child_low i j line = low_at (ltb i l.count) i j refl line.0

  -- a plan tree is no larger than all of a list
  member_size : (lines : List ℕ) (j : ℕ) → j < length lines → plan_size (l.plan_of (get_or lines j 0)) ≤ plans_size (plans_of l.plan_of lines)
  member_size [] j low = absurd (omega arith)
  member_size (c ∷ lines) zero low = omega arith
  member_size (c ∷ lines) (suc j) low = let more = member_size lines j (omega arith) in omega arith

  -- by whether it is a line or the roots: a child is smaller
  smaller_at : (b : Bool) (i j : ℕ) → b ≡ ltb i l.count → l.actions ≤ i → j < length (children_at b l i) → plan_size (l.plan_of (get_or (children_at b l i) j 0)) < size_at b l i
  smaller_at true i j e low inside =
      let (t, method, is) = are.decomposition_lines i low (ltb-true i l.count (sym e)) in
      let whole = ap plan_size is in let part = member_size (l.children i) j inside in omega arith
  smaller_at false i j e low inside = let part = member_size l.roots j inside in omega arith

  -- a child has fewer lines
  pub smaller : (i j : ℕ) → IsLine l i → j < length (children_of l i) → line_size l (get_or (children_of l i) j 0) < line_size l i
  smaller i j line inside = subst (λ b. size_at b l (get_or (children_of l i) j 0) < line_size l i) (sym (lt-ltb (get_or (children_of l i) j 0) l.count (child_low i j line inside)))
      (smaller_at (ltb i l.count) i j refl line.0 inside)

  -- ## The root

  -- where the roots have room, the file has
  pub root_fits : (h : ℕ) → LineFits l l.count 0 h → h ≤ l.actions → FileFits l
  root_fits h fits low =
      let (network, initial, room) = subst (λ b. FitAt b l l.count 0 h) (le-ltb l.count l.count (omega arith)) fits in
      (initial.0, network, initial.1, network_monotone l.naming l.problem l.states network (plans_of l.plan_of l.roots) 0 h 0 l.actions (omega arith) low room)

  -- and the other way round
  pub fits_root : FileFits l → LineFits l l.count 0 l.actions
  fits_root (number, network, found, room) = subst (λ b. FitAt b l l.count 0 l.actions) (sym (le-ltb l.count l.count (omega arith))) (network, (number, found), room)
