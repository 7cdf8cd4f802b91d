-- The first of each kind among numbered elements, in order.
use Rattle.std.proofs.Common.{◌≡◌, ℕ, zero, suc, ◌+◌, ◌<◌, ◌≤◌, ◌⊎◌, Bool, true, false, ◌||◌, cond, List, [], ◌∷◌, ◌++◌, map, filter, slice_get, Some, refl, ap, subst, ◌∙◌, inl, inr, arith}
use Rattle.std.specs.List.{list_any, enumerate_from}
use Rattle.std.proofs.lemmas.List.{map-append}
use Rattle.std.proofs.lemmas.Option.{none-some, same_Some}
use Rattle.indexmap.specs.IndexSet.{insert_key, insert_all}
use Rattle.htn_walk.proofs.Once.{In, In-at}

module _ {X : Type 0} where
  -- the numbers rise, from a on
  abbrev pub Rises : ℕ → List (ℕ × X) → Type 0
  Rises a [] = Unit {0}
  Rises a (p ∷ ps) = (a ≤ p.0) × Rises (suc p.0) ps

  -- all numbers are below n
  abbrev AllBelow : ℕ → List (ℕ × X) → Type 0
  AllBelow n [] = Unit {0}
  AllBelow n (p ∷ ps) = (p.0 < n) × AllBelow n ps

  -- numbers below one are below a greater one
  below_more : (m n : ℕ) (ps : List (ℕ × X)) → m ≤ n → AllBelow m ps → AllBelow n ps
  below_more m n [] most below = tt
  below_more m n (p ∷ ps) most below = ((let h : p.0 < m = below.0 in omega arith), below_more m n ps most below.1)

  -- with one more that is below
  below_push : (n : ℕ) (ps : List (ℕ × X)) (p : ℕ × X) → AllBelow n ps → p.0 < n → AllBelow n (ps ++ p ∷ [])
  below_push n [] p below low = (low, tt)
  below_push n (q ∷ ps) p below low = (below.0, below_push n ps p below.1 low)

  -- numbers that rise from b on rise from a smaller one on
  rises_from : (a b : ℕ) (ps : List (ℕ × X)) → a ≤ b → Rises b ps → Rises a ps
  rises_from a b [] most rises = tt
  rises_from a b (p ∷ ps) most rises = ((let h : b ≤ p.0 = rises.0 in omega arith), rises.1)

  -- with one more that is above all others
  rises_push : (a : ℕ) (ps : List (ℕ × X)) (p : ℕ × X) → Rises a ps → AllBelow p.0 ps → a ≤ p.0 → Rises a (ps ++ p ∷ [])
  rises_push a [] p rises below low = (low, tt)
  rises_push a (q ∷ ps) p rises below low = (rises.0, rises_push (suc q.0) ps p rises.1 below.1 below.0)

  -- none of them is below the start
  rises_low : (a : ℕ) (ps : List (ℕ × X)) → Rises a ps → (p : ℕ × X) → In p ps → a ≤ p.0
  rises_low a [] rises p inside = absurd inside
  rises_low a (q ∷ ps) rises p inside =
      elim inside [
        | inl here ↦ subst (λ (r : ℕ × X). a ≤ r.0) here rises.0
        | inr later ↦ (let h : suc q.0 ≤ p.0 = rises_low (suc q.0) ps rises.1 p later in let low : a ≤ q.0 = rises.0 in omega arith)
      ]

  -- of two places the first has the lower number
  pub rises_at : (a : ℕ) (ps : List (ℕ × X)) → Rises a ps → (i j : ℕ) (p q : ℕ × X) → i < j → slice_get ps i ≡ Some p → slice_get ps j ≡ Some q → p.0 < q.0
  rises_at a [] rises i j p q less x y = absurd (none-some p x)
  rises_at a (r ∷ ps) rises i zero p q less x y = absurd (omega arith)
  rises_at a (r ∷ ps) rises zero (suc j) p q less x y =
      subst (λ (s : ℕ × X). s.0 < q.0) (same_Some r p x) (rises_low (suc r.0) ps rises.1 q (In-at ps j q y))
  rises_at a (r ∷ ps) rises (suc i) (suc j) p q less x y = rises_at (suc r.0) ps rises.1 i j p q (omega arith) x y

  -- numbers of members rise
  pub rises_numbered : (a : ℕ) (xs : List X) → Rises a (enumerate_from a xs)
  rises_numbered a [] = tt
  rises_numbered a (x ∷ xs) = (omega arith, subst (λ n. Rises n (enumerate_from (a + 1) xs)) (let e : a + 1 ≡ suc a = omega arith in e) (rises_numbered (a + 1) xs))

  -- and so do those of members that pass
  pub rises_filter : (keeps : ℕ × X → Bool) (a : ℕ) (ps : List (ℕ × X)) → Rises a ps → Rises a (filter keeps ps)
  rises_filter keeps a [] rises = tt
  rises_filter keeps a (p ∷ ps) rises = by (keeps p) (rises_filter keeps (suc p.0) ps rises.1)
    where
      by : (b : Bool) → Rises (suc p.0) (filter keeps ps) → Rises a (cond b (p ∷ filter keeps ps) (filter keeps ps))
      by true rest = (rises.0, rest)
      by false rest = rises_from a (suc p.0) (filter keeps ps) (let low : a ≤ p.0 = rises.0 in omega arith) rest

  -- a member, with one more, is one before or that one
  In-push : (ps : List (ℕ × X)) (p q : ℕ × X) → In q (ps ++ p ∷ []) → In q ps ⊎ (p ≡ q)
  In-push [] p q inside = elim inside [ inl here ↦ inr here | inr none ↦ absurd none ]
  In-push (r ∷ ps) p q inside =
      elim inside [ inl here ↦ inl (inl here) | inr later ↦ elim (In-push ps p q later) [ inl left ↦ inl (inr left) | inr last ↦ inr last ] ]

  -- the one more is a member
  In-pushed : (ps : List (ℕ × X)) (p : ℕ × X) → In p (ps ++ p ∷ [])
  In-pushed [] p = inl refl
  In-pushed (r ∷ ps) p = inr (In-pushed ps p)

  -- and so are those before
  In-front : (ps : List (ℕ × X)) (p q : ℕ × X) → In q ps → In q (ps ++ p ∷ [])
  In-front [] p q inside = absurd inside
  In-front (r ∷ ps) p q inside = elim inside [ inl here ↦ inl here | inr later ↦ inr (In-front ps p q later) ]

  -- where some member passes there is one
  any_In : (same : ℕ × X → Bool) (ps : List (ℕ × X)) → list_any same ps ≡ true → (q : ℕ × X) × In q ps × (same q ≡ true)
  any_In same [] h = absurd cc
  any_In same (p ∷ ps) h = by (same p) refl h (any_In same ps)
    where
      by : (b : Bool) → same p ≡ b → (b || list_any same ps) ≡ true → (list_any same ps ≡ true → (q : ℕ × X) × In q ps × (same q ≡ true)) → (q : ℕ × X) × In q (p ∷ ps) × (same q ≡ true)
      by true is h rest = (p, inl refl, is)
      by false is h rest = (let at = rest h in (at.0, inr at.1, at.2))

module _ {X : Type 0} (same : X → X → Bool) where
  -- the same but for their numbers
  abbrev pub same_second : ℕ × X → ℕ × X → Bool
  same_second p q = same p.1 q.1

  -- the kept ones rise, and each of the others is like a kept one of a lower number
  pub record IsKept (kept rest : List (ℕ × X)) (all : List (ℕ × X)) : Type 0 where
    pub rises : Rises 0 all
    pub each : (q : ℕ × X) → In q all → In q kept ⊎ In q rest
    pub stays : (q : ℕ × X) → In q kept → In q all
    pub first : (p : ℕ × X) → In p rest → (q : ℕ × X) × In q all × ((p ≡ q) ⊎ (same p.1 q.1 ≡ true)) × (q.0 ≤ p.0)

  -- what a set keeps of numbered members is the first of each kind
  pub kept_first : (a : ℕ) (kept rest : List (ℕ × X)) → Rises 0 kept → AllBelow a kept → Rises a rest → IsKept kept rest (insert_all same_second kept rest)
  kept_first a kept [] low below rises = record { rises = low; each = λ q inside. inl inside; stays = λ q inside. inside; first = λ p inside. absurd inside }
  kept_first a kept (p ∷ rest) low below rises = by (list_any (same_second p) kept) refl
      (kept_first (suc p.0) kept rest low (below_more a (suc p.0) kept (let h : a ≤ p.0 = rises.0 in omega arith) below) rises.1)
      (kept_first (suc p.0) (kept ++ p ∷ []) rest (rises_push 0 kept p low (below_more a p.0 kept rises.0 below) (omega arith))
      (below_push (suc p.0) kept p (below_more a (suc p.0) kept (let h : a ≤ p.0 = rises.0 in omega arith) below) (omega arith)) rises.1)
    where
      by : (b : Bool) → list_any (same_second p) kept ≡ b → IsKept kept rest (insert_all same_second kept rest) → IsKept (kept ++ p ∷ []) rest (insert_all same_second (kept ++ p ∷ []) rest)
          → IsKept kept (p ∷ rest) (insert_all same_second (cond b kept (kept ++ p ∷ [])) rest)
      by true is there more = record {
        rises = there.rises;
        each = λ q inside. elim (there.each q inside) [ inl left ↦ inl left | inr right ↦ inr (inr right) ];
        stays = there.stays;
        first = λ q inside. elim inside [
          | inl here ↦ (let at = any_In (same_second p) kept is in
              let lower : at.0.0 < a = below_at kept below at.0 at.1 in
              let low : a ≤ p.0 = rises.0 in
              subst (λ (r : ℕ × X). (s : ℕ × X) × In s (insert_all same_second kept rest) × ((r ≡ s) ⊎ (same r.1 s.1 ≡ true)) × (s.0 ≤ r.0)) here
              (at.0, there.stays at.0 at.1, inr at.2, omega arith))
          | inr later ↦ there.first q later
        ];
      }
        where
          below_at : (ps : List (ℕ × X)) → AllBelow a ps → (q : ℕ × X) → In q ps → q.0 < a
          below_at [] below q inside = absurd inside
          below_at (r ∷ ps) below q inside = elim inside [ inl here ↦ subst (λ (s : ℕ × X). s.0 < a) here below.0 | inr later ↦ below_at ps below.1 q later ]
      by false is there more = record {
        rises = more.rises;
        each = λ q inside. elim (more.each q inside) [
          | inl left ↦ elim (In-push kept p q left) [ inl old ↦ inl old | inr new ↦ inr (inl new) ]
          | inr right ↦ inr (inr right)
        ];
        stays = λ q inside. more.stays q (In-front kept p q inside);
        first = λ q inside. elim inside [
          | inl here ↦ (q, more.stays q (subst (λ (r : ℕ × X). In r (kept ++ p ∷ [])) here (In-pushed kept p)), inl refl, omega arith)
          | inr later ↦ more.first q later
        ];
      }

  -- whether one is the same as some, with numbers or without
  any_seconds : (x : X) (n : ℕ) (ps : List (ℕ × X)) → list_any (same_second (n, x)) ps ≡ list_any (same x) (map (λ (p : ℕ × X). p.1) ps)
  any_seconds x n [] = refl
  any_seconds x n (p ∷ ps) = ap (λ b. same x p.1 || b) (any_seconds x n ps)

  -- without the numbers they are the first of each kind among the elements
  pub seconds_kept : (kept rest : List (ℕ × X)) → map (λ (p : ℕ × X). p.1) (insert_all same_second kept rest) ≡ insert_all same (map (λ (p : ℕ × X). p.1) kept) (map (λ (p : ℕ × X). p.1) rest)
  seconds_kept kept [] = refl
  seconds_kept kept (p ∷ rest) =
      seconds_kept (insert_key same_second kept p) rest
      ∙ ap (λ l. insert_all same l (map (λ (q : ℕ × X). q.1) rest))
      (by (list_any (same_second p) kept)
      ∙ ap (λ b. cond b (map (λ (q : ℕ × X). q.1) kept) (map (λ (q : ℕ × X). q.1) kept ++ p.1 ∷ [])) (any_seconds p.1 p.0 kept))
    where
      by : (b : Bool) → map (λ (q : ℕ × X). q.1) (cond b kept (kept ++ p ∷ [])) ≡ cond b (map (λ (q : ℕ × X). q.1) kept) (map (λ (q : ℕ × X). q.1) kept ++ p.1 ∷ [])
      by true = refl
      by false = map-append (λ (q : ℕ × X). q.1) kept (p ∷ [])
