-- The table for which calls in frames stand.
use Rattle.std.proofs.Common.{◌≡◌, ℕ, zero, suc, ◌⊎◌, Bool, true, false, cond, ◌&&◌, List, [], ◌∷◌, Option, Some, None, option_map, inl, inr, sym, refl, ap, ◌∙◌, true≢false, arith}
use Rattle.std.specs.Prelude.{Contains}
use Rattle.std.proofs.lemmas.Bool.{and_parts, and_from}
use Rattle.std.proofs.lemmas.Option.{none-some, same_Some}
use Rattle.htn_model.specs.AtomOrder.{state_eq-decides}
use Rattle.htn_model.specs.Equality.{network_eq-decides}
use Rattle.htn_model.specs.State.{State, state_eq}
use Rattle.htn_model.specs.Problem.{Network, network_eq}
use Rattle.htn_calls.specs.Calls.{Summary, Table}
use Rattle.call_rules.specs.Frame.{Frame, within}
use Rattle.call_rules.specs.Framed.{IsPart, lifted_summary, framed, FramedTablesStand}

-- what is among a list is its first or among the others
stands_where : {X : Type 0} (x : X) (xs : List X) (p : X) → Contains (x ∷ xs) p → (x ≡ p) ⊎ Contains xs p
stands_where x xs p (zero, low, is) = inl is
stands_where x xs p (suc k, low, is) = inr (k, omega arith, is)

-- what is among the others is among all
stands_later : {X : Type 0} (x : X) (xs : List X) (p : X) → Contains xs p → Contains (x ∷ xs) p
stands_later x xs p (k, low, is) = (suc k, omega arith, is)

-- an image that is there is that of something
mapped : {A B : Type 0} (f : A → B) (o : Option A) (y : B) → option_map f o ≡ Some y
    → (x : A) × (o ≡ Some x) × (f x ≡ y)
mapped f None y h = absurd (none-some y h)
mapped f (Some x) y h = (x, refl, same_Some (f x) y h)

module _ (state : ℕ → State) (block : ℕ → Network) (frame : ℕ → Frame) (listing : Table ℕ ℕ) where
  -- what is listed at a site, lifted
  abbrev listed_at : ℕ × ℕ → State → Option (Summary State)
  listed_at p s = option_map (lifted_summary state block frame p.1 s) (listing p.0 p.1)

  -- whether a site stands for a block in a state
  abbrev is_site : ℕ × ℕ → State → Network → Bool
  is_site p s b = state_eq (state p.0) (within (frame p.1) s) && network_eq (block p.1) b

  -- it does just where its block is that one, and its state the part in its frame
  site_of : (p : ℕ × ℕ) (s : State) (b : Network) → is_site p s b ≡ true
      → IsPart (frame p.1) s (state p.0) × (block p.1 ≡ b)
  site_of p s b is =
      let parts = and_parts (state_eq (state p.0) (within (frame p.1) s)) (network_eq (block p.1) b) is in
      ((state_eq-decides (state p.0) (within (frame p.1) s)).0 parts.0, (network_eq-decides (block p.1) b).0 parts.1)

  is_own : (p q : ℕ × ℕ) (s : State) → p ≡ q → IsPart (frame q.1) s (state q.0) → is_site p s (block q.1) ≡ true
  is_own p q s same part =
      ap (λ (r : ℕ × ℕ). is_site r s (block q.1)) same
      ∙ and_from (state_eq (state q.0) (within (frame q.1) s)) (network_eq (block q.1) (block q.1))
      ((state_eq-decides (state q.0) (within (frame q.1) s)).1 part)
      ((network_eq-decides (block q.1) (block q.1)).1 refl)

  -- no other number of these sites stands for the state or the block of this one
  abbrev IsAlone : List (ℕ × ℕ) → ℕ × ℕ → Type 0
  IsAlone sites p =
      (q : ℕ × ℕ) → Contains sites q → (state q.0 ≡ state p.0 → q.0 ≡ p.0) × (block q.1 ≡ block p.1 → q.1 ≡ p.1)

  -- a site that stands for the same as this one is this one
  same_site : (sites : List (ℕ × ℕ)) (p q : ℕ × ℕ) (s : State) → IsAlone sites p → Contains sites q
      → IsPart (frame p.1) s (state p.0) → IsPart (frame q.1) s (state q.0) → block q.1 ≡ block p.1 → q ≡ p
  same_site sites p q s alone stands part other blocks =
      let number : q.1 ≡ p.1 = (alone q stands).1 blocks in
      let states : q.0 ≡ p.0 =
      (alone q stands).0 (other ∙ ap (λ k. within (frame k) s) number ∙ sym part) in
      λ i. (states i, number i)

  -- the table has at a site what is listed there
  table_at : (sites : List (ℕ × ℕ)) (p : ℕ × ℕ) (s : State) → Contains sites p → IsAlone sites p
      → IsPart (frame p.1) s (state p.0) → framed state block frame listing sites s (block p.1) ≡ listed_at p s
  table_at [] p s (k, low, is) alone part = absurd (omega arith)
  table_at (x ∷ xs) p s stands alone part = by (is_site x s (block p.1)) refl (table_at xs p s)
    where
      by : (b : Bool) → is_site x s (block p.1) ≡ b
          → (Contains xs p → IsAlone xs p → IsPart (frame p.1) s (state p.0)
          → framed state block frame listing xs s (block p.1) ≡ listed_at p s)
          → cond b (listed_at x s) (framed state block frame listing xs s (block p.1)) ≡ listed_at p s
      by true is later =
          let parts = site_of x s (block p.1) is in
          let first : Contains (x ∷ xs) x = (0, omega arith, refl) in
          ap (λ (q : ℕ × ℕ). listed_at q s) (same_site (x ∷ xs) p x s alone first part parts.0 parts.1)
      by false is later = elim (stands_where x xs p stands) [
        | inl same ↦ absurd (true≢false (sym (is_own x p s same part) ∙ is))
        | inr other ↦ later other (λ q there. alone q (stands_later x xs q there)) part
      ]

  -- a call that is listed for a block in a part of a state
  abbrev HasCall : State → Network → Summary State → Type 0
  HasCall s b u =
      (i : ℕ) × (j : ℕ) × (v : Summary ℕ) × IsPart (frame j) s (state i) × (block j ≡ b) × (listing i j ≡ Some v)
      × (lifted_summary state block frame j s v ≡ u)

  -- it has nothing else
  table_only : (sites : List (ℕ × ℕ)) (s : State) (b : Network) (u : Summary State)
      → framed state block frame listing sites s b ≡ Some u → HasCall s b u
  table_only [] s b u h = absurd (none-some u h)
  table_only (x ∷ xs) s b u h = by (is_site x s b) refl (table_only xs s b u) h
    where
      by : (t : Bool) → is_site x s b ≡ t
          → (framed state block frame listing xs s b ≡ Some u → HasCall s b u)
          → cond t (listed_at x s) (framed state block frame listing xs s b) ≡ Some u → HasCall s b u
      by true is later h =
          let parts = site_of x s b is in
          let call = mapped (lifted_summary state block frame x.1 s) (listing x.0 x.1) u h in
          (x.0, x.1, call.0, parts.0, parts.1, call.1, call.2)
      by false is later h = later h

-- the table of sites has, lifted, the calls that are listed, and no others
pub framed_tables_stand : FramedTablesStand
framed_tables_stand state block frame listing sites are = record {
  listed = λ i j u s at part.
      (let stands = are.listed i j u at in
      table_at state block frame listing sites (i, j) s stands
      (λ q there. (λ same. are.states q (i, j) there stands same, λ same. are.blocks q (i, j) there stands same)) part
      ∙ ap (option_map (lifted_summary state block frame j s)) at);
  only = table_only state block frame listing sites;
}
