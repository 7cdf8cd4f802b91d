-- The loop that puts each position up to one before each from another on.
use Rattle.std.proofs.Common.{◌≡◌, ◌≢◌, ℕ, ◌+◌, ◌<◌, ◌≤◌, ◌||◌, ◌&&◌, Bool, true, false, eqb, ltb, inl, inr, length, refl, sym, ap, ap₂, ◌∙◌, subst, arith}
use Rattle.std.proofs.lemmas.Bool.{cases_eq, cases_lt, eq-eqb, ne_eqb, lt-ltb, le-ltb, both_ways}
use Rattle.htn_model.specs.Problem.{Order, is_before, IsSquare}
use Rattle.htn_model.proofs.Splices.{square_past_left}
use Rattle.htn_order.specs.Closing.{joined}
use Rattle.htn_order.proofs.Joining.{UpTo, at_or_before}

-- the positions below k are joined
abbrev pub JoinedBelow : Order → ℕ → ℕ → ℕ → Order → Type 0
JoinedBelow old a b k order =
    IsSquare (length old) order
    × ((x y : ℕ) → is_before order x y ≡ (is_before old x y || (ltb x k && ((eqb x a || is_before old x a) && (eqb y b || is_before old b y)))))

-- with what fails, either is the other
or_false : (p : Bool) → (p || false) ≡ p
or_false true = refl
or_false false = refl

-- before the loop nothing is joined
pub below_start : (old : Order) (a b : ℕ) → IsSquare (length old) old → JoinedBelow old a b 0 old
below_start old a b square = (
  square,
  λ x y. sym (ap (λ p. is_before old x y || (p && ((eqb x a || is_before old x a) && (eqb y b || is_before old b y)))) (le-ltb x 0 (omega arith)) ∙ or_false (is_before old x y)),
)

-- a position that is not below k has its old row
pub untouched : (old : Order) (a b k : ℕ) (order : Order) → JoinedBelow old a b k order → (x y : ℕ) → k ≤ x → is_before order x y ≡ is_before old x y
untouched old a b k order so_far x y up =
    so_far.1 x y ∙ ap (λ p. is_before old x y || (p && ((eqb x a || is_before old x a) && (eqb y b || is_before old b y)))) (le-ltb x k up) ∙ or_false (is_before old x y)

-- position b keeps its row, as it is neither a nor before a
pub b_untouched : (old : Order) (a b k : ℕ) (order : Order) → a ≢ b → is_before old b a ≡ false → JoinedBelow old a b k order → (y : ℕ) → is_before order b y ≡ is_before old b y
b_untouched old a b k order apart behind so_far y =
    so_far.1 b y ∙ ap₂ (λ p q. is_before old b y || (ltb b k && ((p || q) && (eqb y b || is_before old b y)))) (ne_eqb b a (λ e. apart (sym e))) behind ∙ gone (is_before old b y) (ltb b k)
  where
    gone : (p r : Bool) → (p || (r && false)) ≡ p
    gone true r = refl
    gone false true = refl
    gone false false = refl

-- so it is not among those that are put before b
pub not_b : (old : Order) (a b k : ℕ) (order : Order) → a ≢ b → is_before old b a ≡ false → JoinedBelow old a b k order → (eqb k a || is_before order k a) ≡ true → k ≡ b → ⊥
not_b old a b k order apart behind so_far h e = refuse (at_or_before order k a h)
  where
    refuse : UpTo order k a → ⊥
    refuse (inl f) = apart (sym f ∙ e)
    refuse (inr r) = both_ways (is_before old b a) behind (sym (b_untouched old a b k order apart behind so_far a) ∙ subst (λ u. is_before order u a ≡ true) e r)

-- a number other than k is below k exactly where it is below the one after
ltb_more : (x k : ℕ) → (x ≡ k → ⊥) → ltb x (k + 1) ≡ ltb x k
ltb_more x k other = elim (cases_lt x k) [
  | inl low ↦ lt-ltb x (k + 1) (omega arith) ∙ sym (lt-ltb x k low)
  | inr up ↦ (let apart : x ≢ k = other in le-ltb x (k + 1) (omega arith) ∙ sym (le-ltb x k up))
]

-- which of three is asked first doesn't matter
turn : (p q r : Bool) → ((p || q) || r) ≡ (p || (r || q))
turn true q r = refl
turn false true true = refl
turn false true false = refl
turn false false true = refl
turn false false false = refl

-- a position up to the first of the pair is put before all from the second on
pub below_put : (old : Order) (a b k : ℕ) (order mid new : Order) → k < length old → a ≢ b → is_before old b a ≡ false → JoinedBelow old a b k order
    → (eqb k a || is_before order k a) ≡ true → IsSquare (length old) new
    → ((x y : ℕ) → is_before mid x y ≡ (is_before order x y || (eqb x k && is_before order b y)))
    → ((x y : ℕ) → is_before new x y ≡ (is_before mid x y || (eqb x k && eqb y b))) → JoinedBelow old a b (k + 1) new
below_put old a b k order mid new low apart behind so_far here square row last = (
  square,
  λ x y. elim (cases_eq x k) [
    | inl same ↦
        last x y ∙ ap (λ p. p || (eqb x k && eqb y b)) (row x y)
        ∙ ap (λ q. (is_before order x y || (q && is_before order b y)) || (q && eqb y b)) (eq-eqb x k same)
        ∙ turn (is_before order x y) (is_before order b y) (eqb y b)
        ∙ ap₂ (λ p q. p || (eqb y b || q)) (untouched old a b k order so_far x y (omega arith)) (b_untouched old a b k order apart behind so_far y)
        ∙ sym (ap₂ (λ p q. is_before old x y || (p && (q && (eqb y b || is_before old b y)))) (lt-ltb x (k + 1) (omega arith)) (first x same))
    | inr other ↦
        last x y ∙ ap (λ p. p || (eqb x k && eqb y b)) (row x y)
        ∙ ap (λ q. (is_before order x y || (q && is_before order b y)) || (q && eqb y b)) (ne_eqb x k other)
        ∙ or_false (is_before order x y || false) ∙ or_false (is_before order x y)
        ∙ so_far.1 x y
        ∙ ap (λ p. is_before old x y || (p && ((eqb x a || is_before old x a) && (eqb y b || is_before old b y)))) (sym (ltb_more x k other))
  ],
)
  where
    first : (x : ℕ) → x ≡ k → (eqb x a || is_before old x a) ≡ true
    first x e = subst (λ u. (eqb u a || is_before old u a) ≡ true) (sym e) (ap (λ p. eqb k a || p) (sym (untouched old a b k order so_far k a (omega arith))) ∙ here)

-- any other position is left as it is
pub below_skip : (old : Order) (a b k : ℕ) (order : Order) → JoinedBelow old a b k order → (eqb k a || is_before order k a) ≡ false → JoinedBelow old a b (k + 1) order
below_skip old a b k order so_far out = (
  so_far.0,
  λ x y. so_far.1 x y ∙ (elim (cases_eq x k) [
    | inl same ↦ (let no_up : (eqb x a || is_before old x a) ≡ false =
        subst (λ u. (eqb u a || is_before old u a) ≡ false) (sym same) (ap (λ p. eqb k a || p) (sym (untouched old a b k order so_far k a (omega arith))) ∙ out) in
        ap (λ q. is_before old x y || (ltb x k && (q && (eqb y b || is_before old b y)))) no_up
        ∙ neither (is_before old x y) (ltb x k) (ltb x (k + 1))
        ∙ sym (ap (λ q. is_before old x y || (ltb x (k + 1) && (q && (eqb y b || is_before old b y)))) no_up))
    | inr other ↦ ap (λ p. is_before old x y || (p && ((eqb x a || is_before old x a) && (eqb y b || is_before old b y)))) (sym (ltb_more x k other))
  ]),
)
  where
    neither : (p q r : Bool) → (p || (q && false)) ≡ (p || (r && false))
    neither p true true = refl
    neither p true false = refl
    neither p false true = refl
    neither p false false = refl

-- after the loop all are joined
pub below_end : (old : Order) (a b k : ℕ) (order : Order) → a < length old → IsSquare (length old) old → length old ≤ k → JoinedBelow old a b k order
    → (x y : ℕ) → is_before order x y ≡ joined old a b x y
below_end old a b k order first square past so_far x y = so_far.1 x y ∙ (elim (cases_lt x k) [
  | inl low ↦ ap (λ p. is_before old x y || (p && ((eqb x a || is_before old x a) && (eqb y b || is_before old b y)))) (lt-ltb x k low)
  | inr up ↦ (let no_up : (eqb x a || is_before old x a) ≡ false = ap₂ (λ p q. p || q) (ne_eqb x a (λ e. omega arith)) (square_past_left (length old) old x a square (omega arith)) in
      ap₂ (λ p q. is_before old x y || (p && (q && (eqb y b || is_before old b y)))) (le-ltb x k up) no_up
      ∙ sym (ap (λ q. is_before old x y || (q && (eqb y b || is_before old b y))) no_up))
])

-- where no position is before a, only a is joined
pub alone : (old mid new : Order) (a b : ℕ) → ((x : ℕ) → is_before old x a ≡ false) → ((x y : ℕ) → is_before mid x y ≡ (is_before old x y || (eqb x a && is_before old b y)))
    → ((x y : ℕ) → is_before new x y ≡ (is_before mid x y || (eqb x a && eqb y b))) → (x y : ℕ) → is_before new x y ≡ joined old a b x y
alone old mid new a b first row last x y =
    last x y ∙ ap (λ p. p || (eqb x a && eqb y b)) (row x y) ∙ spread (is_before old x y) (eqb x a) (is_before old b y) (eqb y b)
    ∙ ap (λ q. is_before old x y || ((eqb x a || q) && (eqb y b || is_before old b y))) (sym (first x))
  where
    spread : (p e q r : Bool) → ((p || (e && q)) || (e && r)) ≡ (p || ((e || false) && (r || q)))
    spread p true q r = turn p q r
    spread p false q r = or_false (p || false)
