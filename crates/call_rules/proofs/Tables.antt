-- A table by numbers as a table of what they stand for.
use Rattle.std.proofs.Common.{◌≡◌, ℕ, zero, suc, ◌⊎◌, Bool, true, false, cond, ◌&&◌, List, [], ◌∷◌, Option, Some, None, option_map, inl, inr, sym, refl, ap, ◌∙◌, true≢false, arith}
use Rattle.std.specs.Prelude.{Contains}
use Rattle.std.proofs.lemmas.Bool.{and_parts, and_from}
use Rattle.std.proofs.lemmas.Option.{none-some, same_Some}
use Rattle.htn_model.specs.AtomOrder.{state_eq-decides}
use Rattle.htn_model.specs.Equality.{network_eq-decides}
use Rattle.htn_model.specs.State.{State, state_eq}
use Rattle.htn_model.specs.Problem.{Network, network_eq}
use Rattle.htn_calls.specs.Calls.{Summary, Table}
use Rattle.htn_calls.specs.Numbered.{summary_of}
use Rattle.call_rules.specs.Tables.{table_of, TablesStand}

-- what is among a list is its first or among the others
stands_where : {X : Type 0} (x : X) (xs : List X) (p : X) → Contains (x ∷ xs) p → (x ≡ p) ⊎ Contains xs p
stands_where x xs p (zero, low, is) = inl is
stands_where x xs p (suc k, low, is) = inr (k, omega arith, is)

-- what is among the others is among all
stands_later : {X : Type 0} (x : X) (xs : List X) (p : X) → Contains xs p → Contains (x ∷ xs) p
stands_later x xs p (k, low, is) = (suc k, omega arith, is)

-- an image that is there is that of something
mapped : {A B : Type 0} (f : A → B) (o : Option A) (y : B) → option_map f o ≡ Some y
    → (x : A) × (o ≡ Some x) × (f x ≡ y)
mapped f None y h = absurd (none-some y h)
mapped f (Some x) y h = (x, refl, same_Some (f x) y h)

module _ (state : ℕ → State) (block : ℕ → Network) (listing : Table ℕ ℕ) where
  -- what a summary stands for
  abbrev meant : Summary ℕ → Summary State
  meant = summary_of state block

  -- whether a site stands for a block in a state
  abbrev is_site : ℕ × ℕ → State → Network → Bool
  is_site p s b = state_eq (state p.0) s && network_eq (block p.1) b

  -- it does just where its state and its block are those
  site_of : (p : ℕ × ℕ) (s : State) (b : Network) → is_site p s b ≡ true → (state p.0 ≡ s) × (block p.1 ≡ b)
  site_of p s b is =
      let parts = and_parts (state_eq (state p.0) s) (network_eq (block p.1) b) is in
      ((state_eq-decides (state p.0) s).0 parts.0, (network_eq-decides (block p.1) b).0 parts.1)

  is_own : (p q : ℕ × ℕ) → p ≡ q → is_site p (state q.0) (block q.1) ≡ true
  is_own p q same =
      and_from (state_eq (state p.0) (state q.0)) (network_eq (block p.1) (block q.1))
      ((state_eq-decides (state p.0) (state q.0)).1 (ap (λ (r : ℕ × ℕ). state r.0) same))
      ((network_eq-decides (block p.1) (block q.1)).1 (ap (λ (r : ℕ × ℕ). block r.1) same))

  -- no other of some sites stands for what this one does
  abbrev IsAlone : List (ℕ × ℕ) → ℕ × ℕ → Type 0
  IsAlone sites p = (q : ℕ × ℕ) → Contains sites q → state q.0 ≡ state p.0 → block q.1 ≡ block p.1 → q ≡ p

  -- the table has at a site what is listed there
  table_at : (sites : List (ℕ × ℕ)) (p : ℕ × ℕ) → Contains sites p → IsAlone sites p
      → table_of state block listing sites (state p.0) (block p.1) ≡ option_map meant (listing p.0 p.1)
  table_at [] p (k, low, is) alone = absurd (omega arith)
  table_at (x ∷ xs) p stands alone = by (is_site x (state p.0) (block p.1)) refl (table_at xs p)
    where
      by : (b : Bool) → is_site x (state p.0) (block p.1) ≡ b
          → (Contains xs p → IsAlone xs p
          → table_of state block listing xs (state p.0) (block p.1) ≡ option_map meant (listing p.0 p.1))
          → cond b (option_map meant (listing x.0 x.1)) (table_of state block listing xs (state p.0) (block p.1))
          ≡ option_map meant (listing p.0 p.1)
      by true is later =
          let parts = site_of x (state p.0) (block p.1) is in
          let first : Contains (x ∷ xs) x = (0, omega arith, refl) in
          ap (λ (q : ℕ × ℕ). option_map meant (listing q.0 q.1)) (alone x first parts.0 parts.1)
      by false is later = elim (stands_where x xs p stands) [
        | inl same ↦ absurd (true≢false (sym (is_own x p same) ∙ is))
        | inr other ↦ later other (λ q there. alone q (stands_later x xs q there))
      ]

  -- a call that is listed for a block in a state
  abbrev HasCall : State → Network → Summary State → Type 0
  HasCall s b u =
      (i : ℕ) × (j : ℕ) × (v : Summary ℕ) × (state i ≡ s) × (block j ≡ b) × (listing i j ≡ Some v) × (meant v ≡ u)

  -- it has nothing else
  table_only : (sites : List (ℕ × ℕ)) (s : State) (b : Network) (u : Summary State)
      → table_of state block listing sites s b ≡ Some u → HasCall s b u
  table_only [] s b u h = absurd (none-some u h)
  table_only (x ∷ xs) s b u h = by (is_site x s b) refl (table_only xs s b u) h
    where
      by : (t : Bool) → is_site x s b ≡ t
          → (table_of state block listing xs s b ≡ Some u → HasCall s b u)
          → cond t (option_map meant (listing x.0 x.1)) (table_of state block listing xs s b) ≡ Some u
          → HasCall s b u
      by true is later h =
          let parts = site_of x s b is in
          let call = mapped meant (listing x.0 x.1) u h in
          (x.0, x.1, call.0, parts.0, parts.1, call.1, call.2)
      by false is later h = later h

-- the table of sites has the calls that are listed, and no others
pub tables_stand : TablesStand
tables_stand state block listing sites are = record {
  listed = λ i j u at.
      (let stands = are.listed i j u at in
      table_at state block listing sites (i, j) stands
      (λ q there states blocks. are.apart q (i, j) there stands states blocks)
      ∙ ap (option_map (summary_of state block)) at);
  only = table_only state block listing sites;
}
