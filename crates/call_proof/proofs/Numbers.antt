-- What the numbers of nodes and states stand for, and the estimate by them.
use Rattle.std.proofs.Common.{◌≡◌, ◌∙◌, ℕ, zero, suc, ◌+◌, ◌<◌, ◌≤◌, Bool, true, cond, List, [], ◌∷◌, ◌++◌, length, map, get_or, slice_get, take, IfSome, Option, Some, None, unwrap_or, sym, ap, subst, arith}
use Rattle.std.specs.List.{sum_by}
use Rattle.std.proofs.lemmas.List.{map-append, take_more}
use Rattle.std.proofs.lemmas.List.Sums.{sum_by-cons}
use Rattle.std.proofs.lemmas.Option.{none-some, same_Some, slice_get-get_or}
use Rattle.indexmap.specs.IndexMap.{IndexMap}
use Rattle.htn_model.specs.Choice.{child_of}
use Rattle.htn_model.specs.PlanFile.{IsWithoutRepeats}
use Rattle.htn_model.specs.Problem.{Child, precondition, Network}
use Rattle.htn_calls.specs.Ordered.{lone}
use Rattle.state_table.specs.Table.{IsTable, Table, state_of}
use Rattle.state_table.proofs.Keys.{one_place}
use Rattle.state_table.proofs.States.{told_apart}
use Rattle.call_table.specs.Estimates.{AreEstimates, ends_in, estimate_of, stored_at, value_at}
use Rattle.call_table.specs.Lists.{Lists, count_of, list_at, nodes_of}
use Rattle.call_table.specs.declared.call.CallTable.{CallTable}
use Rattle.call_table.specs.declared.site.Site.{Site}
use Rattle.call_nodes.specs.Nodes.{AreSetsOf}

-- ## Sizes

-- a size that is listed for a place is no more than that of the node there
count_below : (size : Child → ℕ) (xs : List Child) (j : ℕ) → get_or (map size xs) j 0 ≤ size (child_of xs j)
count_below size [] j = omega arith
count_below size (x ∷ xs) zero = omega arith
count_below size (x ∷ xs) (suc j) = count_below size xs j

-- nodes by number have at least the sizes that are counted for their numbers
pub sizes_below : (size : Child → ℕ) (xs : List Child) (counts : List ℕ) → counts ≡ map size xs → (blocks : List ℕ)
    → nodes_of counts blocks ≤ sum_by size (map (child_of xs) blocks)
sizes_below size xs counts are [] = omega arith
sizes_below size xs counts are (j ∷ blocks) =
    let here : count_of counts j ≤ size (child_of xs j) =
    subst (λ (cs : List ℕ). get_or cs j 0 ≤ size (child_of xs j)) (sym are) (count_below size xs j) in
    let rest = sizes_below size xs counts are blocks in
    let both = sum_by-cons size (child_of xs j) (map (child_of xs) blocks) in
    omega arith

-- ## Numbers that are apart

-- of a state
pub one_state : (atoms : Table) (sets : List (List ℕ)) → IsTable atoms → AreSetsOf atoms sets → IsWithoutRepeats sets
    → (i j : ℕ) → i < length sets → j < length sets
    → state_of atoms (get_or sets i []) ≡ state_of atoms (get_or sets j []) → i ≡ j
one_state atoms sets table are apart i j inside beside same =
    let at_i = slice_get-get_or sets i [] inside in
    let at_j = slice_get-get_or sets j [] beside in
    let words = told_apart atoms table (get_or sets i []) (get_or sets j []) (are i (get_or sets i []) at_i)
    (are j (get_or sets j []) at_j) same in
    one_place sets apart i j (get_or sets i []) at_i (at_j ∙ ap Some (sym words))

-- of a node
pub one_node : (xs : List Child) → IsWithoutRepeats xs → (i j : ℕ) → i < length xs → j < length xs
    → lone (child_of xs i) ≡ lone (child_of xs j) → i ≡ j
one_node xs apart i j inside beside same =
    let nodes : child_of xs i ≡ child_of xs j = ap (λ (n : Network). child_of n.children 0) same in
    let at_i : slice_get xs i ≡ Some (child_of xs i) = slice_get-get_or xs i (precondition []) inside in
    let at_j : slice_get xs j ≡ Some (child_of xs j) = slice_get-get_or xs j (precondition []) beside in
    one_place xs apart i j (child_of xs i) at_i (at_j ∙ ap Some (sym nodes))

-- ## The goal

-- in a state past those that are listed the goal may hold; in the others it holds where the list says so
pub ends_below : (holds : List ℕ → Bool) (sets : List (List ℕ)) (cap i : ℕ)
    → cond (ends_in (map holds sets) i) 0 cap ≤ cond (holds (get_or sets i [])) 0 cap
ends_below holds [] cap i = omega arith
ends_below holds (s ∷ sets) cap zero = no_less (cond (holds s) 0 cap)
  where
    no_less : (n : ℕ) → n ≤ n
    no_less n = omega arith
ends_below holds (s ∷ sets) cap (suc i) = ends_below holds sets cap i

pub ends_hold : (holds : List ℕ → Bool) (sets : List (List ℕ)) (i : ℕ) → slice_get (map holds sets) i ≡ Some true
    → holds (get_or sets i []) ≡ true
ends_hold holds [] i at = absurd (none-some true at)
ends_hold holds (s ∷ sets) zero at = same_Some (holds s) true at
ends_hold holds (s ∷ sets) (suc i) at = ends_hold holds sets i at

-- the sizes of lists add up
pub nodes_of-append : (counts xs ys : List ℕ) → nodes_of counts (xs ++ ys) ≡ nodes_of counts xs + nodes_of counts ys
nodes_of-append counts [] ys = omega arith
nodes_of-append counts (x ∷ xs) ys = let rest = nodes_of-append counts xs ys in omega arith

-- ## The estimate

module _ {S : Type 0} (l : Lists) (table : CallTable) (values : IndexMap Site ℕ S) (ends : List Bool) (cap : ℕ) where
  -- it is no less than the sizes
  pub nodes_below : (nodes : List ℕ) (state : ℕ) → nodes_of l.counts nodes ≤ estimate_of l table ends cap nodes state
  nodes_below [] state = omega arith
  nodes_below (x ∷ xs) state = omega arith

  -- and no less than the values, where these are estimates
  pub value_below : AreEstimates l table ends cap values → (number state : ℕ)
      → value_at l values number state ≤ estimate_of l table ends cap (list_at l number) state
  value_below are number state = by (stored_at values number state) (are (record { state = state; number = number }))
    where
      by : (o : Option ℕ) → IfSome o (λ v. v ≤ estimate_of l table ends cap (list_at l number) state)
          → unwrap_or o (nodes_of l.counts (list_at l number)) ≤ estimate_of l table ends cap (list_at l number) state
      by None h = nodes_below (list_at l number) state
      by (Some v) h = h

  -- where the sizes of two lists are more than some steps, more are left of both
  pub sizes_left : (left front back state : ℕ) (xs ys : List ℕ) → front ≤ nodes_of l.counts xs → back ≤ nodes_of l.counts ys
      → left < front + back → left + 1 ≤ estimate_of l table ends cap (xs ++ ys) state
  sizes_left left front back state xs ys few some less =
      let both = nodes_of-append l.counts xs ys in
      let least = nodes_below (xs ++ ys) state in
      omega arith

-- one more is mapped
pub mapped_more : {A B : Type 0} (f : A → B) (xs : List A) (i : ℕ) (x : A) (ys : List B) (y : B) → i < length xs
    → x ≡ get_or xs i x → ys ≡ map f (take i xs) → y ≡ f x → ys ++ y ∷ [] ≡ map f (take (i + 1) xs)
mapped_more f xs i x ys y inside at before is =
    ap (λ zs. zs ++ y ∷ []) before ∙ ap (λ z. map f (take i xs) ++ z ∷ []) (is ∙ ap f at)
    ∙ sym (map-append f (take i xs) (get_or xs i x ∷ [])) ∙ ap (map f) (sym (take_more xs i x inside))
