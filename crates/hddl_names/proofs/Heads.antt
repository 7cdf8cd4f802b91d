-- What heads and their closure tell.
use Rattle.std.proofs.Common.{◌≡◌, ℕ, ◌+◌, Bool, true, false, not, ◌<◌, ◌≤◌, ◌⊎◌, ◌↔◌, List, [], ◌∷◌, ◌++◌, take, map, refl, sym, ap, subst, ◌∙◌, arith, inl, inr, ⊎_elim, length, get_or, nat_eq, Option, Some, None, IfSome}
use Rattle.std.specs.List.{Contains, filter}
use Rattle.std.proofs.lemmas.Bool.{cases_lt, eqb-true}
use Rattle.std.proofs.lemmas.List.{get_or_past, get_or_push, length-append, take_all, take_more}
use Rattle.std.proofs.Math.ListN.{get_or-append}
use Rattle.std.proofs.lemmas.List.Elements.{All-contains, All-from_get_or, Contains-append_left, Contains-get_or, Contains-push}
use Rattle.htn_order.specs.Closure.{Precedes, Direct, Through, AreBelow}
use Rattle.hddl_names.specs.Closures.{Closure, LeadsTo, Meet, Tells}
use Rattle.hddl_names.specs.Heads.{AreHeads, Condensed, HeadLeads, HeadsMeet, TellsAll, differs, head_at, head_pair, head_pairs, is_level}
use Rattle.hddl_names.specs.Reach.{IsReached, Reaches}
use Rattle.hddl_names.specs.Rows.{AreRows, turned}
use Rattle.hddl_names.proofs.Junctions.{joined, reaches_more}
use Rattle.hddl_names.proofs.Parents.{unturn-reaches}
use Rattle.hddl_names.proofs.Within.{kept, mapped, unkept, unmapped}

-- a number is 0, or above it
zero_or_above : (n : ℕ) → (n ≡ 0) ⊎ (0 < n)
zero_or_above n = ⊎_elim (λ lt. inr lt) (λ le. inl (omega (arith, le))) (cases_lt 0 n)

-- ## Heads

-- what is in the first of a list is in more of them
take_longer : (xs : List ℕ) (x i : ℕ) → Contains (take i xs) x → Contains (take (i + 1) xs) x
take_longer xs x i h =
    ⊎_elim (λ lt. subst (λ l. Contains l x) (sym (take_more xs i 0 lt)) (Contains-append_left (take i xs) (get_or xs i 0 ∷ []) x h))
    (λ le. subst (λ l. Contains l x) (take_all i xs le ∙ sym (take_all (i + 1) xs (omega (arith, le)))) h) (cases_lt i (length xs))

-- each number is its own head
pub own_heads : (pairs : List (ℕ × ℕ)) (count : ℕ) (heads : List ℕ) → ((t : ℕ) → head_at heads t ≡ t) → AreHeads pairs count heads
own_heads pairs count heads own = record {
  small = λ a lt. subst (λ h. h < count) (sym (own a)) lt;
  up = λ a. inl (sym (own a));
  down = λ a. inl (own a);
}

-- one more number that is its own head
pub own_push : (heads : List ℕ) (n : ℕ) → length heads ≡ n → ((t : ℕ) → head_at heads t ≡ t) → (t : ℕ) → head_at (heads ++ n ∷ []) t ≡ t
own_push heads n size own t =
    ⊎_elim (λ lt. get_or-append heads (n ∷ []) t t (omega (arith, lt, size)) ∙ own t)
    (λ le. ⊎_elim (λ past. get_or_past (heads ++ n ∷ []) t t (let long = length-append heads (n ∷ []) in omega (arith, long, past, size)))
    (λ least. let is : n ≡ t = omega (arith, le, least) in get_or_push heads n t t (size ∙ is) ∙ is) (cases_lt n t))
    (cases_lt t n)

-- the new head of each number is its old one, or this one where the number is in both lists
abbrev pub IsGiven : List ℕ → List ℕ → List ℕ → List ℕ → ℕ → Type 0
IsGiven old new these those head = (t : ℕ) → (head_at new t ≡ head_at old t) ⊎ ((head_at new t ≡ head) × Contains these t × Contains those t)

-- nothing is given at first
pub given_start : (heads these : List ℕ) (head : ℕ) → IsGiven heads heads these [] head
given_start heads these head t = inl refl

-- what is given of the first of a list is given of more of them
pub given_more : (old new these those : List ℕ) (i head : ℕ) → IsGiven old new these (take i those) head → IsGiven old new these (take (i + 1) those) head
given_more old new these those i head given t =
    ⊎_elim (λ same. inl same) (λ (is, here, there). inr (is, here, take_longer those t i there)) (given t)

-- one more number of the list, which is in the other one, is given the head
pub given_one : (old now new these those : List ℕ) (i n head : ℕ) → i < length those → n ≡ get_or those i n → Contains these n → IsGiven old now these (take i those) head
    → ((t : ℕ) → (head_at new t ≡ head_at now t) ⊎ ((t ≡ n) × (head_at new t ≡ head))) → IsGiven old new these (take (i + 1) those) head
given_one old now new these those i n head lt is here given put t =
    ⊎_elim (λ same. ⊎_elim (λ old_same. inl (same ∙ old_same)) (λ (given, here, there). inr (same ∙ given, here, take_longer those t i there)) (given t))
    (λ (at, head_is). inr (
      head_is,
      subst (Contains these) (sym at) here,
      subst (Contains (take (i + 1) those)) (sym at) (subst (λ l. Contains l n) (sym (take_more those i n lt ∙ ap (λ x. take i those ++ x ∷ []) (sym is))) (Contains-push (take i those) n)),
    ))
    (put t)

-- a number is made the head of some that it leads to and that lead to it
pub given_head : (pairs : List (ℕ × ℕ)) (count head : ℕ) (up down : List (List ℕ)) (above below old new : List ℕ) → head < count → AreRows pairs up → AreRows (turned pairs) down
    → IsReached up head above → IsReached down head below
    → ((t : ℕ) → (head_at new t ≡ head_at old t) ⊎ ((head_at new t ≡ head) × Contains above t × Contains below t))
    → AreHeads pairs count old → AreHeads pairs count new
given_head pairs count head up down above below old new lt up_rows down_rows is_above is_below changed are = record {
  small = λ a small. ⊎_elim (λ same. subst (λ h. h < count) (sym same) (are.small a small)) (λ given. subst (λ h. h < count) (sym given.0) lt) (changed a);
  up = λ a. ⊎_elim (λ same. subst (Reaches pairs a) (sym same) (are.up a))
      (λ given. subst (Reaches pairs a) (sym given.0) (unturn-reaches pairs a head ((is_below (turned pairs) down_rows a).0 given.2))) (changed a);
  down = λ a. ⊎_elim (λ same. subst (λ h. Reaches pairs h a) (sym same) (are.down a))
      (λ given. subst (λ h. Reaches pairs h a) (sym given.0) ((is_above pairs up_rows a).0 given.1)) (changed a);
}

-- heads along pairs of one rank are heads along all
pub level_heads : (pairs : List (ℕ × ℕ)) (count : ℕ) (ranks heads : List ℕ) → AreHeads (filter (is_level ranks) pairs) count heads → AreHeads pairs count heads
level_heads pairs count ranks heads are = record { small = are.small; up = λ a. more a (head_at heads a) (are.up a); down = λ a. more (head_at heads a) a (are.down a) }
  where
    more : (a b : ℕ) → Reaches (filter (is_level ranks) pairs) a b → Reaches pairs a b
    more = reaches_more (filter (is_level ranks) pairs) pairs (λ a b h. (unkept (is_level ranks) pairs (a, b) h).0)

-- the pairs of one rank are below the same bound
pub level_below : (n : ℕ) (ranks : List ℕ) (pairs : List (ℕ × ℕ)) → AreBelow n pairs → AreBelow n (filter (is_level ranks) pairs)
level_below n ranks pairs below =
    All-from_get_or (λ (p : ℕ × ℕ). (p.0 < n) × (p.1 < n)) (filter (is_level ranks) pairs) (0, 0)
    (λ i lt. All-contains (λ (p : ℕ × ℕ). (p.0 < n) × (p.1 < n)) pairs (get_or (filter (is_level ranks) pairs) i (0, 0)) below
    (unkept (is_level ranks) pairs (get_or (filter (is_level ranks) pairs) i (0, 0)) (Contains-get_or (filter (is_level ranks) pairs) i (0, 0) lt)).0)

-- so are the pairs of heads
pub heads_below : (n : ℕ) (heads : List ℕ) (pairs : List (ℕ × ℕ)) → ((a : ℕ) → a < n → head_at heads a < n) → AreBelow n pairs → AreBelow n (head_pairs heads pairs)
heads_below n heads pairs small below =
    All-from_get_or (λ (p : ℕ × ℕ). (p.0 < n) × (p.1 < n)) (head_pairs heads pairs) (0, 0)
    (λ i lt. one (get_or (head_pairs heads pairs) i (0, 0)) (Contains-get_or (head_pairs heads pairs) i (0, 0) lt))
  where
    one : (q : ℕ × ℕ) → Contains {X = ℕ × ℕ} (head_pairs heads pairs) q → (q.0 < n) × (q.1 < n)
    one q h =
        let p = unmapped (head_pair heads) pairs q (unkept differs (map (head_pair heads) pairs) q h).0 in
        let both = All-contains (λ (p : ℕ × ℕ). (p.0 < n) × (p.1 < n)) pairs p.0 below p.1 in
        subst (λ (q : ℕ × ℕ). (q.0 < n) × (q.1 < n)) p.2 (small p.0.0 both.0, small p.0.1 both.1)

-- ## Ways between heads

module _ (pairs : List (ℕ × ℕ)) (count : ℕ) (heads : List ℕ) (are : AreHeads pairs count heads) where
  -- the pairs of heads
  abbrev between : List (ℕ × ℕ)
  between = head_pairs heads pairs

  -- a pair of heads is a way
  lower_pair : (x y : ℕ) → Contains {X = ℕ × ℕ} between (x, y) → Reaches pairs x y
  lower_pair x y h =
      let p = unmapped (head_pair heads) pairs (x, y) (unkept differs (map (head_pair heads) pairs) (x, y) h).0 in
      let way : Reaches pairs (head_at heads p.0.0) (head_at heads p.0.1) =
      joined pairs (head_at heads p.0.0) p.0.0 (head_at heads p.0.1) (are.down p.0.0)
      (joined pairs p.0.0 p.0.1 (head_at heads p.0.1) (inr (Direct p.0.0 p.0.1 p.1)) (are.up p.0.1)) in
      subst (λ (q : ℕ × ℕ). Reaches pairs q.0 q.1) p.2 way

  -- so is a way along pairs of heads
  lower_way : (x y : ℕ) → Precedes between x y → Reaches pairs x y
  lower_way _ _ (Direct x y pair) = lower_pair x y pair
  lower_way _ _ (Through x m y pair rest) = joined pairs x m y (lower_pair x m pair) (lower_way m y rest)

  -- what heads reach along their pairs they reach
  pub lower : (x y : ℕ) → Reaches between x y → Reaches pairs x y
  lower x y (inl is) = inl is
  lower x y (inr r) = lower_way x y r

  -- the heads of a pair are one, or a pair
  raise_pair : (a b : ℕ) → Contains {X = ℕ × ℕ} pairs (a, b) → Reaches between (head_at heads a) (head_at heads b)
  raise_pair a b pair = by (nat_eq (head_at heads a) (head_at heads b)) refl
    where
      by : (t : Bool) → nat_eq (head_at heads a) (head_at heads b) ≡ t → Reaches between (head_at heads a) (head_at heads b)
      by true e = inl (eqb-true (head_at heads a) (head_at heads b) e)
      by false e =
          inr (Direct (head_at heads a) (head_at heads b)
          (kept differs (map (head_pair heads) pairs) (head_at heads a, head_at heads b) (mapped (head_pair heads) pairs (a, b) pair) (ap not e)))

  -- a way is one between heads
  raise_way : (a b : ℕ) → Precedes pairs a b → Reaches between (head_at heads a) (head_at heads b)
  raise_way _ _ (Direct a b pair) = raise_pair a b pair
  raise_way _ _ (Through a m b pair rest) = joined between (head_at heads a) (head_at heads m) (head_at heads b) (raise_pair a m pair) (raise_way m b rest)

  -- the head of a number reaches those of all that the number reaches
  pub raise : (a b : ℕ) → Reaches pairs a b → Reaches between (head_at heads a) (head_at heads b)
  raise a b (inl is) = inl (ap (head_at heads) is)
  raise a b (inr r) = raise_way a b r

-- ## What is told

module _ (pairs between : List (ℕ × ℕ)) (count : ℕ) (heads : List ℕ) (c : Closure) (are : AreHeads pairs count heads) (root : (a : ℕ) → a < count → Reaches pairs a 0)
    (lower : (x y : ℕ) → Reaches between x y → Reaches pairs x y) (raise : (a b : ℕ) → Reaches pairs a b → Reaches between (head_at heads a) (head_at heads b))
    (told : Tells between count c) where
  -- the heads and the closure
  abbrev all : Condensed
  all = record { heads = heads; closure = c }

  -- all lead to a number whose head is 0
  to_zero : (a b : ℕ) → a < count → head_at heads b ≡ 0 → Reaches pairs a b
  to_zero a b lt is = joined pairs a 0 b (root a lt) (subst (λ h. Reaches pairs h b) is (are.down b))

  -- a way between heads is one between numbers
  between_heads : (a b : ℕ) → Reaches pairs (head_at heads a) (head_at heads b) → Reaches pairs a b
  between_heads a b r = joined pairs a (head_at heads a) b (are.up a) (joined pairs (head_at heads a) (head_at heads b) b r (are.down b))

  -- what leads to what
  leads : (a b : ℕ) → a < count → b < count → HeadLeads all a b ↔ Reaches pairs a b
  leads a b small small_b = (to, from)
    where
      to : HeadLeads all a b → Reaches pairs a b
      to (inl is) = to_zero a b small is
      to (inr l) =
          ⊎_elim (λ is. to_zero a b small is)
          (λ positive. between_heads a b (lower (head_at heads a) (head_at heads b) ((told.leads (head_at heads a) (head_at heads b) (are.small a small) positive (are.small b small_b)).0 l)))
          (zero_or_above (head_at heads b))

      from : Reaches pairs a b → HeadLeads all a b
      from r =
          ⊎_elim (λ is. inl is)
          (λ positive. inr ((told.leads (head_at heads a) (head_at heads b) (are.small a small) positive (are.small b small_b)).1 (raise a b r)))
          (zero_or_above (head_at heads b))

  -- whether something leads to both
  meet : (a b : ℕ) → a < count → b < count → HeadsMeet all a b ↔ ((s : ℕ) × (s < count) × Reaches pairs s a × Reaches pairs s b)
  meet a b small small_b = (to, from)
    where
      Both : Type 0
      Both = (s : ℕ) × (s < count) × Reaches pairs s a × Reaches pairs s b

      -- where the head of one is 0 the other leads to both
      first : head_at heads a ≡ 0 → Both
      first is = (b, small_b, to_zero b a small_b is, inl refl)

      second : head_at heads b ≡ 0 → Both
      second is = (a, small, inl refl, to_zero a b small is)

      apart : Meet c (head_at heads a) (head_at heads b) → 0 < head_at heads a → 0 < head_at heads b → Both
      apart m positive positive_b =
          let s = (told.meet (head_at heads a) (head_at heads b) positive (are.small a small) positive_b (are.small b small_b)).0 m in (
            s.0,
            s.1,
            joined pairs s.0 (head_at heads a) a (lower s.0 (head_at heads a) s.2) (are.down a),
            joined pairs s.0 (head_at heads b) b (lower s.0 (head_at heads b) s.3) (are.down b),
          )

      to : HeadsMeet all a b → Both
      to (inl is) = first is
      to (inr (inl is)) = second is
      to (inr (inr m)) =
          ⊎_elim first (λ positive. ⊎_elim second (λ positive_b. apart m positive positive_b) (zero_or_above (head_at heads b))) (zero_or_above (head_at heads a))

      from : Both → HeadsMeet all a b
      from (s, lt, one, two) =
          ⊎_elim (λ is. inl is)
          (λ positive. ⊎_elim (λ is. inr (inl is))
          (λ positive_b. inr (inr ((told.meet (head_at heads a) (head_at heads b) positive (are.small a small) positive_b (are.small b small_b)).1
          (head_at heads s, are.small s lt, raise s a one, raise s b two))))
          (zero_or_above (head_at heads b)))
          (zero_or_above (head_at heads a))

  -- all is told
  pub tells_all : TellsAll pairs count all
  tells_all = record { leads = leads; meet = meet }

-- the closure of the pairs themselves tells all, where each number is its own head
pub tells_own : (pairs : List (ℕ × ℕ)) (count : ℕ) (c : Closure) → ((a : ℕ) → a < count → Reaches pairs a 0) → Tells pairs count c → TellsAll pairs count (record { heads = []; closure = c })
tells_own pairs count c root told = tells_all pairs pairs count [] c (own_heads pairs count [] (λ t. refl)) root (λ x y r. r) (λ a b r. r) told

-- so does that of heads
pub tells_heads : (pairs : List (ℕ × ℕ)) (count : ℕ) (heads : List ℕ) (c : Closure) → AreHeads pairs count heads → ((a : ℕ) → a < count → Reaches pairs a 0)
    → Tells (head_pairs heads pairs) count c → TellsAll pairs count (record { heads = heads; closure = c })
tells_heads pairs count heads c are root told =
    tells_all pairs (head_pairs heads pairs) count heads c are root (lower pairs count heads are) (raise pairs count heads are) told

-- where no head is 0, what the closure tells of two heads is told of the numbers
pub meet_apart : (c : Condensed) (a b one other : ℕ) (result : Bool) → one ≡ head_at c.heads a → other ≡ head_at c.heads b → (one ≡ 0 → ⊥) → (other ≡ 0 → ⊥)
    → (result ≡ true) ↔ Meet c.closure one other → (result ≡ true) ↔ HeadsMeet c a b
meet_apart c a b one other result one_is other_is some_one some_other both =
    (λ h. inr (inr (subst (λ x. Meet c.closure x (head_at c.heads b)) one_is (subst (λ y. Meet c.closure one y) other_is (both.0 h)))), from)
  where
    from : HeadsMeet c a b → result ≡ true
    from (inl is) = absurd (some_one (one_is ∙ is))
    from (inr (inl is)) = absurd (some_other (other_is ∙ is))
    from (inr (inr m)) = both.1 (subst (λ x. Meet c.closure x other) (sym one_is) (subst (λ y. Meet c.closure (head_at c.heads a) y) (sym other_is) m))
