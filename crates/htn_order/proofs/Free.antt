-- The free positions, one after another.
use Rattle.std.proofs.Common.{◌≡◌, ℕ, zero, suc, ◌+◌, ◌<◌, ◌≤◌, inl, inr, ◌≢◌, leb, length, ap₂, Bool, true, false, cond, List, [], ◌∷◌, ◌++◌, ◌-◌, min, slice_get, Some, None, filter, map, map-id, sym, refl, ap, ap₂, ◌∙◌, subst, arith}
use Rattle.std.specs.List.{range_with_len}
use Rattle.std.proofs.lemmas.List.{append-nil}
use Rattle.std.proofs.lemmas.List.FromFn.{filter_of_map_range_with_len_more}
use Rattle.htn_model.specs.Choice.{is_empty, passing, is_free}
use Rattle.htn_model.proofs.Passing.{found}
use Rattle.htn_model.specs.Problem.{is_before}
use Rattle.htn_order.specs.Shapes.{chain}
use Rattle.htn_order.proofs.Chains.{before_chain, chain_size, not_before_chain}
use Rattle.htn_order.specs.Free.{HasNoneFree}
use Rattle.std.proofs.lemmas.Bool.{cases_lt, le-leb, lt-leb}

-- the positions that pass, with one more looked at
passing_more : (test : ℕ → Bool) (n : ℕ) → passing test (n + 1) ≡ passing test n ++ cond (test n) (n ∷ []) []
passing_more test n =
    ap (filter test) (sym (map-id (range_with_len 0 (n + 1))))
    ∙ filter_of_map_range_with_len_more test (λ (x : ℕ). x) 0 n n (omega arith)
    ∙ ap (λ xs. filter test xs ++ cond (test n) (n ∷ []) []) (map-id (range_with_len 0 n))

-- one more that passes comes at the end
pub one_passes : (test : ℕ → Bool) (n : ℕ) → test n ≡ true → passing test (n + 1) ≡ passing test n ++ n ∷ []
one_passes test n h = passing_more test n ∙ ap (λ b. passing test n ++ cond b (n ∷ []) []) h

-- one more that fails changes nothing
pub one_fails : (test : ℕ → Bool) (n : ℕ) → test n ≡ false → passing test (n + 1) ≡ passing test n
one_fails test n h = passing_more test n ∙ ap (λ b. passing test n ++ cond b (n ∷ []) []) h ∙ append-nil (passing test n)

-- where none passes, there are no positions
pub none_pass : (test : ℕ → Bool) (n : ℕ) → ((k : ℕ) → k < n → test k ≡ false) → passing test n ≡ []
none_pass test zero h = refl
none_pass test (suc n) h =
    ap (passing test) (let e : suc n ≡ n + 1 = omega arith in e) ∙ one_fails test n (h n (omega arith)) ∙ none_pass test n (λ k low. h k (omega arith))

-- a list with a value at a place isn't empty
not_empty : (xs : List ℕ) (k j : ℕ) → Rattle.std.specs.List.slice_get xs k ≡ Rattle.std.proofs.Common.Some j → is_empty xs ≡ false
not_empty [] k j h = absurd cc
not_empty (x ∷ xs) k j h = refl

-- a node with another before it isn't free
pub some_before : (n : ℕ) (precedes : ℕ → ℕ → Bool) (i k : ℕ) → k < n → precedes k i ≡ true → false ≡ is_free n precedes i
some_before n precedes i k low h = let at = found (λ k. precedes k i) n k low h in sym (not_empty (passing (λ k. precedes k i) n) at.0 k at.1)

-- a node with none before it is free
pub none_before : (n : ℕ) (precedes : ℕ → ℕ → Bool) (i k : ℕ) → passing (λ k. precedes k i) k ≡ [] → k ≡ n → true ≡ is_free n precedes i
none_before n precedes i k none all = sym (ap is_empty (subst (λ m. passing (λ k. precedes k i) m ≡ []) all none))

-- ## Free positions of a chain

-- the first node of a chain is free
pub chain_first_free : (n : ℕ) → true ≡ is_free n (is_before (chain n)) 0
chain_first_free n = none_before n (is_before (chain n)) 0 n (none_pass (λ k. is_before (chain n) k 0) n (λ k h. not_before_chain n k 0 (inr (omega arith)))) refl

-- past the end of a chain nothing comes before a position
pub chain_past_free : (n i : ℕ) → n ≤ i → true ≡ is_free n (is_before (chain n)) i
chain_past_free n i past = none_before n (is_before (chain n)) i n (none_pass (λ k. is_before (chain n) k i) n (λ k h. not_before_chain n k i (inl past))) refl

-- no later node of a chain is free
pub chain_not_free : (n i : ℕ) → 0 < i → i < n → false ≡ is_free n (is_before (chain n)) i
chain_not_free n i low high = some_before n (is_before (chain n)) i 0 (omega arith) (before_chain n 0 i low high)

-- from the second node of a chain on none is free
pub chain_none_free : (n i : ℕ) → min n 1 ≤ i → i < n → is_free n (is_before (chain n)) i ≡ false
chain_none_free n i from high = sym (chain_not_free n i (omega arith) high)

-- ## The free positions from one on

-- the positions that pass among m from a on
abbrev pub rest : (ℕ → Bool) → ℕ → ℕ → List ℕ
rest test a m = filter test (range_with_len a m)

-- where none of them passes, there are no positions
rest_nothing : (test : ℕ → Bool) (a m : ℕ) → ((i : ℕ) → a ≤ i → i < a + m → test i ≡ false) → rest test a m ≡ []
rest_nothing test a zero none = refl
rest_nothing test a (suc m) none =
    ap (λ b. cond b (a ∷ rest test (a + 1) m) (rest test (a + 1) m)) (none a (omega arith) (omega arith)) ∙ rest_nothing test (a + 1) m (λ i low high. none i (omega arith) (omega arith))

-- where none passes further on, the end may be cut off
pub rest_cut : (test : ℕ → Bool) (a m d : ℕ) → ((i : ℕ) → a + m ≤ i → i < a + m + d → test i ≡ false) → rest test a (m + d) ≡ rest test a m
rest_cut test a zero d none =
    ap (rest test a) (let e : 0 + d ≡ d = omega arith in e) ∙ rest_nothing test a d (λ i low high. none i (omega arith) (omega arith))
rest_cut test a (suc m) d none =
    ap (rest test a) (let e : suc m + d ≡ suc (m + d) = omega arith in e)
    ∙ ap (λ xs. cond (test a) (a ∷ xs) xs) (rest_cut test (a + 1) m d (λ i low high. none i (omega arith) (omega arith)))

-- where none is free from a position on, those before it are all
pub rest_until : (test : ℕ → Bool) (n end from : ℕ) → end ≤ n → ((i : ℕ) → end ≤ i → i < n → test i ≡ false) → rest test from (n - from) ≡ rest test from (end - from)
rest_until test n end from within none =
    ap (rest test from) (let e : n - from ≡ (end - from) + ((n - from) - (end - from)) = omega arith in e)
    ∙ rest_cut test from (end - from) ((n - from) - (end - from)) (λ i low high. none i (omega arith) (omega arith))

-- a position that passes is the first of those from it on
pub rest_pass : (test : ℕ → Bool) (a end : ℕ) → a < end → test a ≡ true → rest test a (end - a) ≡ a ∷ rest test (a + 1) (end - (a + 1))
rest_pass test a end low h =
    ap (rest test a) (let e : end - a ≡ suc (end - (a + 1)) = omega arith in e)
    ∙ ap (λ b. cond b (a ∷ rest test (a + 1) (end - (a + 1))) (rest test (a + 1) (end - (a + 1)))) h

-- a position that fails isn't among those from it on
pub rest_fail : (test : ℕ → Bool) (a end : ℕ) → a < end → test a ≡ false → rest test a (end - a) ≡ rest test (a + 1) (end - (a + 1))
rest_fail test a end low h =
    ap (rest test a) (let e : end - a ≡ suc (end - (a + 1)) = omega arith in e)
    ∙ ap (λ b. cond b (a ∷ rest test (a + 1) (end - (a + 1))) (rest test (a + 1) (end - (a + 1)))) h

-- from the end on there are no positions
pub rest_end : (test : ℕ → Bool) (a end : ℕ) → end ≤ a → rest test a (end - a) ≡ []
rest_end test a end past = ap (rest test a) (let e : end - a ≡ 0 = omega arith in e)

-- where none passes from a position on, it is enough to look up to there
pub passing_until : (test : ℕ → Bool) (n end : ℕ) → end ≤ n → ((i : ℕ) → end ≤ i → i < n → test i ≡ false) → passing test n ≡ passing test end
passing_until test n end within none =
    ap (passing test) (let e : n ≡ end + (n - end) = omega arith in e) ∙ rest_cut test 0 end (n - end) (λ i low high. none i (omega arith) (omega arith))

-- the free ones still to be counted
pub nth_start : (test : ℕ → Bool) (n end number : ℕ) → end ≤ n → ((i : ℕ) → end ≤ i → i < n → test i ≡ false)
    → slice_get (passing test n) number ≡ slice_get (rest test 0 (end - 0)) number
nth_start test n end number within none =
    ap (λ xs. slice_get xs number) (passing_until test n end within none ∙ ap (rest test 0) (let e : end ≡ end - 0 = omega arith in e))

-- from its second node on a chain has none free
pub chain_none_free_from : (n end : ℕ) → end ≡ min n 1 → HasNoneFree (chain n) end
chain_none_free_from n end is i from high =
    let size = chain_size n in
    ap (λ m. is_free m (is_before (chain n)) i) size ∙ chain_none_free n i (omega arith) (omega arith)

-- the first position of a chain is free
pub chain_free_first : (n i : ℕ) → i ≡ 0 → true ≡ is_free (length (chain n)) (is_before (chain n)) i
chain_free_first n i z = chain_first_free n ∙ sym (ap₂ (λ m k. is_free m (is_before (chain n)) k) (chain_size n) z)

-- a later position is free exactly where it is past the end
pub chain_free_later : (n i : ℕ) → (i ≡ 0 → ⊥) → leb n i ≡ is_free (length (chain n)) (is_before (chain n)) i
chain_free_later n i later =
    let apart : i ≢ 0 = later in
    (elim (cases_lt i n) [
      | inl low ↦ lt-leb n i low ∙ chain_not_free n i (omega arith) low
      | inr past ↦ le-leb n i past ∙ chain_past_free n i past
    ]) ∙ sym (ap (λ m. is_free m (is_before (chain n)) i) (chain_size n))

-- ## The next free position

-- where none up to a position passes, nor it, none up to the next does
pub one_more_not_free : (test : ℕ → Bool) (from k : ℕ) → ((i : ℕ) → from ≤ i → i < k → test i ≡ false) → test k ≡ false → (i : ℕ) → from ≤ i → i < k + 1 → test i ≡ false
one_more_not_free test from k so_far here i low high = elim (cases_lt i k) [
  | inl before ↦ so_far i low before
  | inr now ↦ (let e : i ≡ k = omega arith in ap test e ∙ here)
]

-- where none from here to there passes, nor any from there on, none from here on does
pub none_free_on : (test : ℕ → Bool) (from k end n : ℕ) → end ≤ k → ((i : ℕ) → from ≤ i → i < k → test i ≡ false) → ((i : ℕ) → end ≤ i → i < n → test i ≡ false)
    → (i : ℕ) → from ≤ i → i < n → test i ≡ false
none_free_on test from k end n past so_far none i low high = elim (cases_lt i k) [
  | inl before ↦ so_far i low before
  | inr on ↦ none i (omega arith) high
]

-- the first number that passes, found by looking at one after another
pub first_passing : (test : ℕ → Bool) (n i : ℕ) → i < n → test i ≡ true → ((j : ℕ) → j < i → test j ≡ false) → slice_get (passing test n) 0 ≡ Some i
first_passing test n i low passes before =
    ap (λ xs. slice_get xs 0)
    (ap (passing test) (let e : n ≡ n - 0 = omega arith in e) ∙ skip i 0 (omega arith) (λ j down up. before j (omega arith)) ∙ ap (λ k. rest test k (n - k)) (let e : 0 + i ≡ i = omega arith in e) ∙ rest_pass test i n low passes)
  where
    skip : (d a : ℕ) → a + d ≤ n → ((j : ℕ) → a ≤ j → j < a + d → test j ≡ false) → rest test a (n - a) ≡ rest test (a + d) (n - (a + d))
    skip zero a fits none = ap (λ k. rest test k (n - k)) (let e : a ≡ a + 0 = omega arith in e)
    skip (suc d) a fits none =
        rest_fail test a n (omega arith) (none a (omega arith) (omega arith))
        ∙ skip d (a + 1) (omega arith) (λ j down up. none j (omega arith) (omega arith))
        ∙ ap (λ k. rest test k (n - k)) (let e : a + 1 + d ≡ a + suc d = omega arith in e)

-- where none passes, none is the first to pass
pub none_passing : (test : ℕ → Bool) (n : ℕ) → ((j : ℕ) → j < n → test j ≡ false) → slice_get (passing test n) 0 ≡ None
none_passing test n none = ap (λ xs. slice_get xs 0) (none_pass test n none)
