-- An order with a pair more, and what follows from it.
use Rattle.std.proofs.Common.{◌≡◌, ◌≢◌, ℕ, ◌+◌, ◌<◌, ◌≤◌, ◌||◌, ◌&&◌, Bool, true, false, eqb, ◌⊎◌, inl, inr, List, [], length, get_or, set, Vec, refl, sym, ap, ◌∙◌, subst, arith, ⊎_elim, get_or-set_same, get_or-set_other}
use Rattle.std.proofs.lemmas.Bool.{cases_eq, cases_lt, and_parts, and_from, or_cases, or_left, or_right, or_parts, eq-eqb, eqb-true, eqb-false, both_ways, false_from_ne_true}
use Rattle.std.proofs.lemmas.List.{length-set, get_or_past, get_or_default, with_items_is}
use Rattle.std.specs.List.{Contains}
use Rattle.std.proofs.lemmas.List.Elements.{Contains-get_or, All-get_or}
use Rattle.htn_model.specs.Problem.{Order, is_before, IsClosed, IsSquare}
use Rattle.htn_model.proofs.Splices.{same_order, table_square}
use Rattle.htn_order.specs.Shapes.{unordered}
use Rattle.htn_order.proofs.Tables.{table_size, within}
use Rattle.htn_order.proofs.Chains.{unordered_closed}
use Rattle.std.specs.Vec.{with_items}
use Rattle.htn_order.specs.Closure.{Precedes, Direct, Through, AreBelow, IsAcyclic, IsClosureOf}
use Rattle.htn_order.specs.Closing.{Grows, HasPair, IsClosing, joined}
use Rattle.htn_order.specs.Faults.{IsOnCycle}
use Rattle.htn_order.specs.declared.closure.OrderFault.TheVariants.{Cycle}

-- x is a or before it
abbrev pub UpTo : Order → ℕ → ℕ → Type 0
UpTo order x a = (x ≡ a) ⊎ (is_before order x a ≡ true)

-- y is b or behind it
abbrev pub OnFrom : Order → ℕ → ℕ → Type 0
OnFrom order b y = (y ≡ b) ⊎ (is_before order b y ≡ true)

-- a test tells that a position is another or before it
pub at_or_before : (order : Order) (x a : ℕ) → (eqb x a || is_before order x a) ≡ true → UpTo order x a
at_or_before order x a h = ⊎_elim (λ e. inl (eqb-true x a e)) (λ r. inr r) (or_cases (eqb x a) (is_before order x a) h)

-- in the joined order one comes before another as before, or across the pair
pub joined_cases : (order : Order) (a b x y : ℕ) → joined order a b x y ≡ true → (is_before order x y ≡ true) ⊎ (UpTo order x a × OnFrom order b y)
joined_cases order a b x y h =
    ⊎_elim (λ old. inl old)
    (λ new. let parts = and_parts (eqb x a || is_before order x a) (eqb y b || is_before order b y) new in
    inr (at_or_before order x a parts.0, ⊎_elim (λ e. inl (eqb-true y b e)) (λ r. inr r) (or_cases (eqb y b) (is_before order b y) parts.1)))
    (or_cases (is_before order x y) ((eqb x a || is_before order x a) && (eqb y b || is_before order b y)) h)

-- what came before still does
pub joined_old : (order : Order) (a b x y : ℕ) → is_before order x y ≡ true → joined order a b x y ≡ true
joined_old order a b x y h = or_left (is_before order x y) ((eqb x a || is_before order x a) && (eqb y b || is_before order b y)) h

-- what is up to the first of the pair comes before what is from the second on
pub joined_new : (order : Order) (a b x y : ℕ) → UpTo order x a → OnFrom order b y → joined order a b x y ≡ true
joined_new order a b x y up on =
    let first : (eqb x a || is_before order x a) ≡ true =
    ⊎_elim (λ e. or_left (eqb x a) (is_before order x a) (eq-eqb x a e)) (λ r. or_right (eqb x a) (is_before order x a) r) up in
    let second : (eqb y b || is_before order b y) ≡ true =
    ⊎_elim (λ e. or_left (eqb y b) (is_before order b y) (eq-eqb y b e)) (λ r. or_right (eqb y b) (is_before order b y) r) on in
    or_right (is_before order x y) ((eqb x a || is_before order x a) && (eqb y b || is_before order b y))
    (and_from (eqb x a || is_before order x a) (eqb y b || is_before order b y) first second)

-- ## Closed again

module _ (old new : Order) (a b : ℕ) (closed : IsClosed old) (apart : a ≢ b) (behind : is_before old b a ≡ false)
    (is : (x y : ℕ) → is_before new x y ≡ joined old a b x y) where
  -- the second of the pair doesn't come before the first
  back : is_before old b a ≡ true → ⊥
  back t = both_ways (is_before old b a) behind t

  -- nothing is both up to the first and from the second on
  never : (y : ℕ) → UpTo old y a → OnFrom old b y → ⊥
  never y (inl e) (inl f) = apart (sym e ∙ f)
  never y (inl e) (inr r) = back (subst (λ u. is_before old b u ≡ true) e r)
  never y (inr l) (inl f) = back (subst (λ u. is_before old u a ≡ true) f l)
  never y (inr l) (inr r) = back (closed.transitive b y a r l)

  -- what comes before a position that is up to the first is so too
  before_up : (x y : ℕ) → is_before old x y ≡ true → UpTo old y a → UpTo old x a
  before_up x y h (inl e) = inr (subst (λ u. is_before old x u ≡ true) e h)
  before_up x y h (inr l) = inr (closed.transitive x y a h l)

  -- what comes after a position that is from the second on is so too
  on_behind : (y z : ℕ) → OnFrom old b y → is_before old y z ≡ true → OnFrom old b z
  on_behind y z (inl e) h = inr (subst (λ u. is_before old u z ≡ true) e h)
  on_behind y z (inr r) h = inr (closed.transitive b y z r h)

  -- in the new order one comes before another as in the old, or across the pair
  cases : (x y : ℕ) → is_before new x y ≡ true → (is_before old x y ≡ true) ⊎ (UpTo old x a × OnFrom old b y)
  cases x y h = joined_cases old a b x y (sym (is x y) ∙ h)

  -- nothing comes before itself
  not_itself : (x : ℕ) → (is_before old x x ≡ true) ⊎ (UpTo old x a × OnFrom old b x) → ⊥
  not_itself x (inl h) = both_ways (is_before old x x) (closed.irreflexive x) h
  not_itself x (inr (up, on)) = never x up on

  -- what comes before a position that comes before another comes before that
  along : (x y z : ℕ) → (is_before old x y ≡ true) ⊎ (UpTo old x a × OnFrom old b y) → (is_before old y z ≡ true) ⊎ (UpTo old y a × OnFrom old b z) → joined old a b x z ≡ true
  along x y z (inl h) (inl g) = joined_old old a b x z (closed.transitive x y z h g)
  along x y z (inl h) (inr (up, on)) = joined_new old a b x z (before_up x y h up) on
  along x y z (inr (up, on)) (inl g) = joined_new old a b x z up (on_behind y z on g)
  along x y z (inr (up, on)) (inr (further, last)) = absurd (never y further on)

  -- the new order is closed
  pub joined_closed : IsClosed new
  joined_closed = record {
    irreflexive = λ x. false_from_ne_true (is_before new x x) (λ t. not_itself x (cases x x t));
    transitive = λ x y z h g. is x z ∙ along x y z (cases x y h) (cases y z g);
  }

-- ## No more than the pairs lead to

-- a way along pairs, and one on from its end, are one way
pub follow : (pairs : List (ℕ × ℕ)) (x y z : ℕ) → Precedes pairs x y → Precedes pairs y z → Precedes pairs x z
follow pairs _ _ z (Direct x y h) r = Through x y z h r
follow pairs _ y z (Through x m _ h q) r = Through x m z h (follow pairs m y z q r)

module _ (pairs : List (ℕ × ℕ)) (old : Order) (sound : (x y : ℕ) → is_before old x y ≡ true → Precedes pairs x y) where
  -- a pair leads to what is from its second on
  behind_pair : (a b y : ℕ) → Contains {X = ℕ × ℕ} pairs (a, b) → OnFrom old b y → Precedes pairs a y
  behind_pair a b y pair (inl e) = subst (Precedes pairs a) (sym e) (Direct a b pair)
  behind_pair a b y pair (inr r) = Through a b y pair (sound b y r)

  -- what comes before another, across a pair or not, leads to it along the pairs
  across : (a b x y : ℕ) → Contains {X = ℕ × ℕ} pairs (a, b) → (is_before old x y ≡ true) ⊎ (UpTo old x a × OnFrom old b y) → Precedes pairs x y
  across a b x y pair (inl h) = sound x y h
  across a b x y pair (inr (inl e, on)) = subst (λ u. Precedes pairs u y) (sym e) (behind_pair a b y pair on)
  across a b x y pair (inr (inr l, on)) = follow pairs x a y (sound x a l) (behind_pair a b y pair on)

  -- in the joined order what comes before another leads to it along the pairs
  pub joined_sound : (new : Order) (a b : ℕ) → Contains {X = ℕ × ℕ} pairs (a, b) → ((x y : ℕ) → is_before new x y ≡ joined old a b x y)
      → (x y : ℕ) → is_before new x y ≡ true → Precedes pairs x y
  joined_sound new a b pair is x y h = across a b x y pair (joined_cases old a b x y (sym (is x y) ∙ h))

  -- a pair whose second position is its first, or before it, is on a cycle
  pub around : (a b : ℕ) → Contains {X = ℕ × ℕ} pairs (a, b) → UpTo old b a → Precedes pairs a a
  around a b pair (inl e) = subst (Precedes pairs a) e (Direct a b pair)
  around a b pair (inr r) = Through a b a pair (sound b a r)

-- ## Marks

-- a mark stays when another is set
set_keeps : (entered : List Bool) (b y : ℕ) → get_or entered y false ≡ true → get_or (set entered b true) y false ≡ true
set_keeps entered b y h = elim (cases_eq y b) [
  | inl same ↦ elim (cases_lt b (length entered)) [
    | inl low ↦ ap (λ k. get_or (set entered b true) k false) same ∙ get_or-set_same entered b true false low
    | inr past ↦ absurd (both_ways (get_or entered y false) (get_or_past entered y false (omega arith)) h)
  ]
  | inr other ↦ get_or-set_other entered b y true false other ∙ h
]

-- in the joined order each position that comes after another is marked
joined_marked : (old new : Order) (entered : List Bool) (a b : ℕ) → b < length entered → ((x y : ℕ) → is_before old x y ≡ true → get_or entered y false ≡ true)
    → ((x y : ℕ) → is_before new x y ≡ joined old a b x y) → (x y : ℕ) → is_before new x y ≡ true → get_or (set entered b true) y false ≡ true
joined_marked old new entered a b low marked is x y h = mark (joined_cases old a b x y (sym (is x y) ∙ h))
  where
    mark : (is_before old x y ≡ true) ⊎ (UpTo old x a × OnFrom old b y) → get_or (set entered b true) y false ≡ true
    mark (inl old_one) = set_keeps entered b y (marked x y old_one)
    mark (inr (up, inl e)) = ap (λ k. get_or (set entered b true) k false) e ∙ get_or-set_same entered b true false low
    mark (inr (up, inr r)) = set_keeps entered b y (marked b y r)

-- nothing comes before a position that isn't marked
pub unmarked : (pairs : List (ℕ × ℕ)) (order : Order) (entered : List Bool) (a : ℕ) → IsClosing pairs order entered → get_or entered a false ≡ false → (x : ℕ) → is_before order x a ≡ false
unmarked pairs order entered a closing out x = false_from_ne_true (is_before order x a) (λ t. both_ways (get_or entered a false) out (closing.marked x a t))

-- ## A pair is added

-- a pair of the list is of positions below n
pub pair_below : (pairs : List (ℕ × ℕ)) (n k a b : ℕ) → AreBelow n pairs → k < length pairs → get_or pairs k (0, 0) ≡ (a, b) → (a < n) × (b < n)
pair_below pairs n k a b below low is = subst (λ p. (p.0 < n) × (p.1 < n)) is (All-get_or (λ p. (p.0 < n) × (p.1 < n)) pairs k (0, 0) low below)

-- a pair at a place of the list is in it
pub pair_among : (pairs : List (ℕ × ℕ)) (k a b : ℕ) → k < length pairs → get_or pairs k (0, 0) ≡ (a, b) → Contains {X = ℕ × ℕ} pairs (a, b)
pair_among pairs k a b low is = subst (Contains pairs) is (Contains-get_or pairs k (0, 0) low)

-- the order so far with one pair more
pub closing_more : (pairs : List (ℕ × ℕ)) (k a b : ℕ) (old new : Order) (entered : List Bool) → IsClosing pairs old entered → k < length pairs → get_or pairs k (0, 0) ≡ (a, b)
    → (eqb b a || is_before old b a) ≡ false → IsSquare (length old) new → ((x y : ℕ) → is_before new x y ≡ joined old a b x y)
    → IsClosing pairs new (set entered b true)
closing_more pairs k a b old new entered closing low at out square is =
    let size : length new ≡ length old = square.0 in
    let parts = or_parts (eqb b a) (is_before old b a) out in
    let apart : a ≢ b = (λ e. eqb-false b a parts.0 (sym e)) in
    let pair = pair_among pairs k a b low at in
    let bounds = pair_below pairs (length old) k a b closing.below low at in
    record {
      below = subst (λ n. AreBelow n pairs) (sym size) closing.below;
      square = subst (λ n. IsSquare n new) (sym size) square;
      wide = length-set entered b true ∙ closing.wide ∙ sym size;
      closed = joined_closed old new a b closing.closed apart parts.1 is;
      sound = joined_sound pairs old closing.sound new a b pair is;
      marked = joined_marked old new entered a b (let e = closing.wide in let lt = bounds.1 in omega arith) closing.marked is;
    }

-- joining a pair takes nothing away
pub joined_grows : (old new : Order) (a b : ℕ) → ((x y : ℕ) → is_before new x y ≡ joined old a b x y) → Grows old new
joined_grows old new a b is x y h = is x y ∙ joined_old old a b x y h

-- after it is joined, the pair is in the order
pub joined_has : (pairs : List (ℕ × ℕ)) (k a b : ℕ) (old new : Order) → get_or pairs k (0, 0) ≡ (a, b) → ((x y : ℕ) → is_before new x y ≡ joined old a b x y) → HasPair new (get_or pairs k (0, 0))
joined_has pairs k a b old new at is = subst (HasPair new) (sym at) (is a b ∙ joined_new old a b a b (inl refl) (inl refl))

-- a pair whose second comes before its first is on a cycle of the pairs
pub on_cycle : (pairs : List (ℕ × ℕ)) (k a b : ℕ) (old : Order) (entered : List Bool) → IsClosing pairs old entered → k < length pairs → get_or pairs k (0, 0) ≡ (a, b)
    → (eqb b a || is_before old b a) ≡ true → IsOnCycle [] pairs (Cycle k)
on_cycle pairs k a b old entered closing low at out = (
  low,
  subst (λ p. Precedes pairs p.0 p.0) (sym at) (around pairs old closing.sound a b (pair_among pairs k a b low at) (at_or_before old b a out)),
)

-- ## All pairs

-- the order has the first k pairs
abbrev pub HasPairs : List (ℕ × ℕ) → ℕ → Order → Type 0
HasPairs pairs k order = (j : ℕ) → j < k → j < length pairs → HasPair order (get_or pairs j (0, 0))

-- the order has one pair more
pub has_more : (pairs : List (ℕ × ℕ)) (k : ℕ) (old new : Order) → HasPairs pairs k old → Grows old new → (k < length pairs → HasPair new (get_or pairs k (0, 0))) → HasPairs pairs (k + 1) new
has_more pairs k old new so_far grows here j low fits = elim (cases_lt j k) [
  | inl before ↦ grows (get_or pairs j (0, 0)).0 (get_or pairs j (0, 0)).1 (so_far j before fits)
  | inr now ↦ (let e : k ≡ j = omega arith in subst (λ i. i < length pairs → HasPair new (get_or pairs i (0, 0))) e here fits)
]

-- at the end the order has all pairs
pub has_all : (pairs : List (ℕ × ℕ)) (k : ℕ) (order : Order) → length pairs ≤ k → HasPairs pairs k order → (x y : ℕ) → Contains {X = ℕ × ℕ} pairs (x, y) → is_before order x y ≡ true
has_all pairs k order past has x y (j, low, is) =
    let at : get_or pairs j (0, 0) ≡ (x, y) = get_or_default pairs j (0, 0) (x, y) low ∙ is in
    subst (HasPair order) at (has j (omega arith) low)

-- in a closed order that has the pairs, what they lead to comes after
pub leads : (pairs : List (ℕ × ℕ)) (order : Order) → IsClosed order → ((x y : ℕ) → Contains {X = ℕ × ℕ} pairs (x, y) → is_before order x y ≡ true)
    → (x y : ℕ) → Precedes pairs x y → is_before order x y ≡ true
leads pairs order closed each _ _ (Direct x y h) = each x y h
leads pairs order closed each _ z (Through x y _ h r) = closed.transitive x y z (each x y h) (leads pairs order closed each y z r)

-- a closed order with the pairs, and nothing but what they lead to, is their closure
pub closure_of : (pairs : List (ℕ × ℕ)) (order : Order) → IsClosed order → ((x y : ℕ) → is_before order x y ≡ true → Precedes pairs x y)
    → ((x y : ℕ) → Contains {X = ℕ × ℕ} pairs (x, y) → is_before order x y ≡ true) → IsClosureOf pairs order
closure_of pairs order closed sound each x y = (sound x y, leads pairs order closed each x y)

-- pairs that a closed order has are on no cycle
pub acyclic_of : (pairs : List (ℕ × ℕ)) (order : Order) → IsClosed order → ((x y : ℕ) → Contains {X = ℕ × ℕ} pairs (x, y) → is_before order x y ≡ true) → IsAcyclic pairs
acyclic_of pairs order closed each x r = both_ways (is_before order x x) (closed.irreflexive x) (leads pairs order closed each x x r)

-- ## The loops over the pairs

-- in no order at all nothing comes before another
nothing_before : (n x y : ℕ) → is_before (unordered n) x y ≡ true → ⊥
nothing_before n x y h = both_ways false refl (within n (λ a b. false) x y h).2

-- no order at all is the order of no pairs
pub closing_start : (pairs : List (ℕ × ℕ)) (n : ℕ) (order : Order) (entered : List Bool) → AreBelow n pairs → order ≡ unordered n → length entered ≡ n → IsClosing pairs order entered
closing_start pairs n order entered below is wide =
    let size : length order ≡ n = ap length is ∙ table_size n (λ a b. false) in
    record {
      below = subst (λ m. AreBelow m pairs) (sym size) below;
      square = subst (λ m. IsSquare m order) (sym size) (subst (IsSquare n) (sym is) (table_square n (λ a b. false)));
      wide = wide ∙ sym size;
      closed = subst IsClosed (sym is) (unordered_closed n);
      sound = λ x y h. absurd (nothing_before n x y (subst (λ o. is_before o x y ≡ true) is h));
      marked = λ x y h. absurd (nothing_before n x y (subst (λ o. is_before o x y ≡ true) is h));
    }

-- the marks as a vector has them after a call
pub closing_marks : {A : Type 0} (pairs : List (ℕ × ℕ)) (old new : Order) (entered : Vec Bool A) (marks : List Bool) → IsClosing pairs old entered.items → length new ≡ length old
    → IsClosing pairs new marks → IsClosing pairs new (with_items entered marks).items
closing_marks pairs old new entered marks before size closing =
    subst (IsClosing pairs new) (sym (with_items_is entered marks (closing.wide ∙ size ∙ sym before.wide ∙ sym entered.ok.0))) closing

-- before the first pair the order has those that were read
pub no_pairs_yet : (pairs : List (ℕ × ℕ)) (order : Order) → HasPairs pairs 0 order
no_pairs_yet pairs order j low fits = absurd (omega arith)

-- ## One closure

-- pairs have one closure on so many positions
pub same_closure : (n : ℕ) (pairs : List (ℕ × ℕ)) (r s : Order) → IsSquare n r → IsSquare n s → IsClosureOf pairs r → IsClosureOf pairs s → r ≡ s
same_closure n pairs r s p q first second = same_order n r s p q (λ a b. alike (is_before r a b) (is_before s a b) (λ t. (second a b).1 ((first a b).0 t)) (λ t. (first a b).1 ((second a b).0 t)))
  where
    alike : (x y : Bool) → (x ≡ true → y ≡ true) → (y ≡ true → x ≡ true) → x ≡ y
    alike true y there back = sym (there refl)
    alike false true there back = back refl
    alike false false there back = refl
