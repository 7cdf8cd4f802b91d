-- A list with others in one element's place, and the table of an order.
use Rattle.std.proofs.Common.{◌≡◌, ℕ, zero, suc, ◌+◌, ◌-◌, ◌<◌, ◌≤◌, Bool, false, List, [], ◌∷◌, ◌++◌, length, map, get_or, take, drop, ◌⊎◌, inl, inr, sym, refl, ap, ◌∙◌, append_assoc, arith}
use Rattle.std.proofs.lemmas.Bool.{cases_lt, lt-ltb, le-ltb}
use Rattle.std.proofs.lemmas.List.{length-take-le, length-append, length-drop, take_at, drop_at, map-append, take-map, drop-map, set-get_or, set_split, get_or_append_left, get_or-append_right, get_or-take, get_or-drop, get_or_past, ext_get_or}
use Rattle.std.proofs.lemmas.List.FromFn.{get_or-map-range_with_len, length-map-range_with_len}
use Rattle.std.specs.List.{range_with_len, AllByRecursion}
use Rattle.htn_model.specs.Problem.{Order, is_before, IsSquare}
use Rattle.htn_model.specs.Choice.{splice}
use Rattle.htn_model.specs.Machine.{table, origin}

-- ## Splices

-- a list is what stands before a position, the value there, and what stands after it
pub split_at : {X : Type 0} (i : ℕ) (xs : List X) (d : X) → i < length xs → xs ≡ take i xs ++ get_or xs i d ∷ drop (suc i) xs
split_at i xs d h = sym (set-get_or xs i d) ∙ set_split xs i (get_or xs i d) h

-- what stands before the position stays
pub take_splice : {X : Type 0} (i : ℕ) (ys xs : List X) → i ≤ length xs → take i (splice i ys xs) ≡ take i xs
take_splice i ys xs h = take_at (take i xs) (ys ++ drop (suc i) xs) i (length-take-le i xs h)

-- from the position on stand the others and then what followed
pub drop_splice : {X : Type 0} (i : ℕ) (ys xs : List X) → i ≤ length xs → drop i (splice i ys xs) ≡ ys ++ drop (suc i) xs
drop_splice i ys xs h = drop_at (take i xs) (ys ++ drop (suc i) xs) i (length-take-le i xs h)

-- at the position stand the others
pub middle_splice : {X : Type 0} (i m : ℕ) (ys xs : List X) → i ≤ length xs → length ys ≡ m → take m (drop i (splice i ys xs)) ≡ ys
middle_splice i m ys xs h e = ap (take m) (drop_splice i ys xs h) ∙ take_at ys (drop (suc i) xs) m e

-- behind the others stands what followed
pub after_splice : {X : Type 0} (i m : ℕ) (ys xs : List X) → i ≤ length xs → length ys ≡ m → drop (i + m) (splice i ys xs) ≡ drop (suc i) xs
after_splice i m ys xs h e =
    ap (drop (i + m)) (sym (append_assoc (take i xs) ys (drop (suc i) xs)))
    ∙ drop_at (take i xs ++ ys) (drop (suc i) xs) (i + m) (length-append (take i xs) ys ∙ (let k = length-take-le i xs h in omega (arith, k, e)))

-- a mapped list has the mapped others
pub map_splice : {X Y : Type 0} (f : X → Y) (i : ℕ) (ys xs : List X) → map f (splice i ys xs) ≡ splice i (map f ys) (map f xs)
map_splice f i ys xs = simp (map-append, take-map, drop-map)

-- the list is longer by the others without the one
pub length_splice : {X : Type 0} (i : ℕ) (ys xs : List X) → i < length xs → suc (length (splice i ys xs)) ≡ length xs + length ys
length_splice i ys xs h = omega (arith, length-append (take i xs) (ys ++ drop (suc i) xs), length-append ys (drop (suc i) xs), length-take-le i xs (omega arith), length-drop (suc i) xs)

-- ## Where an element of a splice stood

-- a position before comes from itself
pub origin_below : (i m a : ℕ) → a < i → origin i m a ≡ a
origin_below i m a h = rw (lt-ltb a i h) refl

-- a position among the others comes from the one
pub origin_inside : (i m a : ℕ) → i ≤ a → a < i + m → origin i m a ≡ i
origin_inside i m a h g = rw (le-ltb a i h, lt-ltb a (i + m) g) refl

-- a position behind comes from further back
pub origin_above : (i m a : ℕ) → i + m ≤ a → origin i m a ≡ a + 1 - m
origin_above i m a h = rw (le-ltb a i (omega arith), le-ltb a (i + m) h) refl

-- a position is among the others
pub record Inside {X : Type 0} (i : ℕ) (ys xs : List X) (d : X) (a : ℕ) : Type 0 where
  pub offset : ℕ
  pub is : a ≡ i + offset
  pub within : offset < length ys
  pub from : origin i (length ys) a ≡ i
  pub element : get_or (splice i ys xs) a d ≡ get_or ys offset d

-- a position is before or behind them
pub record Outside {X : Type 0} (i : ℕ) (ys xs : List X) (d : X) (a : ℕ) : Type 0 where
  pub side : ((a < i) × (origin i (length ys) a ≡ a)) ⊎ ((i + length ys ≤ a) × (origin i (length ys) a ≡ a + 1 - length ys))
  pub from : origin i (length ys) a ≡ i → ⊥
  pub within : a < length (splice i ys xs) → origin i (length ys) a < length xs
  pub element : get_or (splice i ys xs) a d ≡ get_or xs (origin i (length ys) a) d

-- a smaller position is before them
below_place : {X : Type 0} (i : ℕ) (ys xs : List X) (d : X) (a : ℕ) → i < length xs → a < i → Outside i ys xs d a
below_place i ys xs d a h low =
    let o = origin_below i (length ys) a low in
    record {
      side = inl (low, o);
      from = λ e. omega arith;
      within = λ within. omega arith;
      element = get_or_append_left (take i xs) (ys ++ drop (suc i) xs) d a (let k = length-take-le i xs (omega arith) in omega arith) ∙ get_or-take i xs a d low ∙ ap (λ b. get_or xs b d) (sym o);
    }

-- a position from there on, as many as the others are, is among them
inside_place : {X : Type 0} (i : ℕ) (ys xs : List X) (d : X) (a : ℕ) → i < length xs → i ≤ a → a < i + length ys → Inside i ys xs d a
inside_place i ys xs d a h low high = record {
  offset = a - i;
  is = omega arith;
  within = omega arith;
  from = origin_inside i (length ys) a low high;
  element = get_or-append_right (take i xs) (ys ++ drop (suc i) xs) i a d (length-take-le i xs (omega arith)) low ∙ get_or_append_left ys (drop (suc i) xs) d (a - i) (omega arith);
}

-- a position past them is behind them
above_place : {X : Type 0} (i : ℕ) (ys xs : List X) (d : X) (a : ℕ) → i < length xs → i + length ys ≤ a → Outside i ys xs d a
above_place i ys xs d a h low =
    let o = origin_above i (length ys) a low in
    record {
      side = inr (low, o);
      from = λ e. omega arith;
      within = λ within. (let l = length_splice i ys xs h in omega arith);
      element =
          get_or-append_right (take i xs) (ys ++ drop (suc i) xs) i a d (length-take-le i xs (omega arith)) (omega arith)
          ∙ get_or-append_right ys (drop (suc i) xs) (length ys) (a - i) d refl (omega arith)
          ∙ get_or-drop (suc i) xs (a - i - length ys) d
          ∙ ap (λ b. get_or xs b d) (let e : suc i + (a - i - length ys) ≡ origin i (length ys) a = omega arith in e);
    }

-- each position is among the others, or before or behind them
pub places_of_splice : {X : Type 0} (i : ℕ) (ys xs : List X) (d : X) (a : ℕ) → i < length xs → Inside i ys xs d a ⊎ Outside i ys xs d a
places_of_splice i ys xs d a h = elim (cases_lt a i) [
  | inl low ↦ inr (below_place i ys xs d a h low)
  | inr up ↦ elim (cases_lt a (i + length ys)) [
    | inl within ↦ inl (inside_place i ys xs d a h up within)
    | inr above ↦ inr (above_place i ys xs d a h above)
  ]
]

-- two elements that stood outside did not stand in one place
pub outside_once : {X : Type 0} (i : ℕ) (ys xs : List X) (d : X) (a b : ℕ) → Outside i ys xs d a → Outside i ys xs d b
    → origin i (length ys) a ≡ origin i (length ys) b → a ≡ b
outside_once i ys xs d a b p q same = let s = p.side in let t = q.side in omega arith

-- ## Tables

-- an entry of a table is its test's
pub table_within : (n : ℕ) (f : ℕ → ℕ → Bool) (a b : ℕ) → a < n → b < n → is_before (table n f) a b ≡ f a b
table_within n f a b h g =
    ap (λ row. get_or row b false) (get_or-map-range_with_len (λ k. map (f k) (range_with_len 0 n)) 0 n a a [] h (omega arith))
    ∙ get_or-map-range_with_len (f a) 0 n b b false g (omega arith)

-- past the rows no entry is set
pub table_past_left : (n : ℕ) (f : ℕ → ℕ → Bool) (a b : ℕ) → n ≤ a → is_before (table n f) a b ≡ false
table_past_left n f a b h =
    ap (λ row. get_or row b false) (get_or_past (map (λ k. map (f k) (range_with_len 0 n)) (range_with_len 0 n)) a []
    (let l = length-map-range_with_len (λ k. map (f k) (range_with_len 0 n)) 0 n in omega arith))

-- past the end of a row no entry is set
row_past : (row : List Bool) (n b : ℕ) → length row ≡ n → n ≤ b → get_or row b false ≡ false
row_past row n b e h = get_or_past row b false (omega arith)

-- past the columns no entry is set
pub table_past_right : (n : ℕ) (f : ℕ → ℕ → Bool) (a b : ℕ) → n ≤ b → is_before (table n f) a b ≡ false
table_past_right n f a b h = elim (cases_lt a n) [
  | inl low ↦ ap (λ row. get_or row b false) (get_or-map-range_with_len (λ k. map (f k) (range_with_len 0 n)) 0 n a a [] low (omega arith))
      ∙ row_past (map (f a) (range_with_len 0 n)) n b (length-map-range_with_len (f a) 0 n) h
  | inr past ↦ table_past_left n f a b past
]

-- ## Square orders

-- rows made of numbers have one length
rows_map : (g : ℕ → List Bool) (n : ℕ) (ks : List ℕ) → ((k : ℕ) → length (g k) ≡ n) → AllByRecursion (λ row. length row ≡ n) (map g ks)
rows_map g n [] h = tt
rows_map g n (k ∷ ks) h = (h k, rows_map g n ks h)

-- a table is square
pub table_square : (n : ℕ) (f : ℕ → ℕ → Bool) → IsSquare n (table n f)
table_square n f = (
  length-map-range_with_len (λ a. map (f a) (range_with_len 0 n)) 0 n,
  rows_map (λ a. map (f a) (range_with_len 0 n)) n (range_with_len 0 n) (λ a. length-map-range_with_len (f a) 0 n),
)

-- a row of a square table has its length
row_length : (n : ℕ) (order : Order) (a : ℕ) → AllByRecursion (λ row. length row ≡ n) order → a < length order → length (get_or order a []) ≡ n
row_length n [] a h low = absurd (omega arith)
row_length n (row ∷ rows) zero h low = h.0
row_length n (row ∷ rows) (suc a) h low = row_length n rows a h.1 (omega arith)

-- past the rows of a square table no entry is set
pub square_past_left : (n : ℕ) (order : Order) (a b : ℕ) → IsSquare n order → n ≤ a → is_before order a b ≡ false
square_past_left n order a b s h = ap (λ row. get_or row b false) (get_or_past order a [] (let e = s.0 in omega arith))

-- past the columns of a square table no entry is set
pub square_past_right : (n : ℕ) (order : Order) (a b : ℕ) → IsSquare n order → n ≤ b → is_before order a b ≡ false
square_past_right n order a b s h = elim (cases_lt a n) [
  | inl low ↦ row_past (get_or order a []) n b (row_length n order a s.1 (let e = s.0 in omega arith)) h
  | inr past ↦ square_past_left n order a b s past
]

-- two square orders are equal where they order alike
pub same_order : (n : ℕ) (r s : Order) → IsSquare n r → IsSquare n s → ((a b : ℕ) → is_before r a b ≡ is_before s a b) → r ≡ s
same_order n r s p q alike =
    ext_get_or [] r s (p.0 ∙ sym q.0) (λ a low.
    ext_get_or false (get_or r a []) (get_or s a [])
    (row_length n r a p.1 low ∙ sym (row_length n s a q.1 (let e = p.0 in let f = q.0 in omega arith)))
    (λ b high. alike a b))
