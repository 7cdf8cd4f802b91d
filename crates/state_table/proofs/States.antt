-- Which atoms are true in the state that a set of numbers stands for.
use Rattle.std.proofs.Common.{◌≡◌, ℕ, zero, suc, ◌+◌, ◌<◌, ◌≤◌, ◌^◌, Bool, true, false, cond, not, ◌||◌, ◌&&◌, ◌⊎◌, inl, inr, List, [], ◌∷◌, ◌++◌, Some, length, slice_get, filter, refl, sym, ap, subst, ◌∙◌, arith}
use Rattle.std.proofs.lemmas.List.{append-nil, append_assoc, length-append}
use Rattle.std.specs.List.{list_any}
use Rattle.std.proofs.lemmas.Bool.{true≢false}
use Rattle.std.specs.Ordering.{is_eq}
use Rattle.std.specs.Cmp.{tied_itself, both_ways}
use Rattle.htn_model.specs.Atom.{Atom, atom_eq}
use Rattle.htn_model.specs.State.{State, contains, set_of, atoms_of, union}
use Rattle.htn_model.specs.AtomOrder.{atom_cmp-total, atom_eq-decides}
use Rattle.htn_model.proofs.Sets.{contains-set_of, contains-union, is_same, same_as, set_of-atoms_of}
use Rattle.state_table.specs.Bits.{has}
use Rattle.state_table.specs.Table.{Table, is_fluent, is_fluent_by, IsTable, IsLater, chosen, state_of, IsSetOf}
use Rattle.state_table.proofs.Words.{same_words}
use Rattle.state_table.proofs.Keys.{some_same, not_true, at_push, slice_get-append, numbering_none, numbering_push, one_place}

-- an atom is the same as itself
pub is_itself : (q : Atom) → is_same q q ≡ true
is_itself q = ap is_eq (tied_itself atom_cmp-total q)

-- ## Whether an atom has a number

-- it has one, or none
pub numbered : (q : Atom) (atoms : List Atom) → ((k : ℕ) × (slice_get atoms k ≡ Some q)) ⊎ ((k : ℕ) → slice_get atoms k ≡ Some q → ⊥)
numbered q [] = inr (λ k at. cc)
numbered q (a ∷ atoms) =
    elim (atom_eq a q) as (λ b. atom_eq a q ≡ b → ((k : ℕ) × (slice_get (a ∷ atoms) k ≡ Some q)) ⊎ ((k : ℕ) → slice_get (a ∷ atoms) k ≡ Some q → ⊥)) [
      | true ↦ λ e. inl (0, ap Some ((atom_eq-decides a q).0 e))
      | false ↦ λ e. elim (numbered q atoms) [
        | inl found ↦ inl (suc found.0, found.1)
        | inr none ↦ inr (λ k at. absent q a atoms k at e none)
      ]
    ] refl
  where
    absent : (q a : Atom) (atoms : List Atom) (k : ℕ) → slice_get (a ∷ atoms) k ≡ Some q → atom_eq a q ≡ false → ((k : ℕ) → slice_get atoms k ≡ Some q → ⊥) → ⊥
    absent q a atoms zero at e none = true≢false (sym ((atom_eq-decides a q).1 (some_same a q at)) ∙ e)
    absent q a atoms (suc k) at e none = none k at

-- ## The chosen atoms

-- each chosen atom has a number whose bit is set
pub chosen_true : (q : Atom) (words : List ℕ) (i : ℕ) (atoms : List Atom) → list_any (is_same q) (chosen words i atoms) ≡ true
    → (k : ℕ) × (slice_get atoms k ≡ Some q) × (has words (i + k) ≡ true)
chosen_true q words i [] any = cc
chosen_true q words i (a ∷ atoms) any =
    elim (has words i) as (λ b. has words i ≡ b → list_any (is_same q) (cond b (a ∷ chosen words (i + 1) atoms) (chosen words (i + 1) atoms)) ≡ true → (k : ℕ) × (slice_get (a ∷ atoms) k ≡ Some q) × (has words (i + k) ≡ true)) [
      | true ↦ λ set any.
          elim (is_same q a) as (λ b. is_same q a ≡ b → (b || list_any (is_same q) (chosen words (i + 1) atoms)) ≡ true → (k : ℕ) × (slice_get (a ∷ atoms) k ≡ Some q) × (has words (i + k) ≡ true)) [
            | true ↦ λ same _. (0, ap Some (sym (same_as q a same)), (let z : i + 0 ≡ i = omega arith in ap (has words) z) ∙ set)
            | false ↦ λ _ any. later q a words atoms i (chosen_true q words (i + 1) atoms any)
          ] refl any
      | false ↦ λ _ any. later q a words atoms i (chosen_true q words (i + 1) atoms any)
    ] refl any
  where
    later : (q a : Atom) (words : List ℕ) (atoms : List Atom) (i : ℕ) → ((k : ℕ) × (slice_get atoms k ≡ Some q) × (has words (i + 1 + k) ≡ true)) → (k : ℕ) × (slice_get (a ∷ atoms) k ≡ Some q) × (has words (i + k) ≡ true)
    later q a words atoms i (k, at, set) = (suc k, at, (let e : i + suc k ≡ i + 1 + k = omega arith in ap (has words) e) ∙ set)

-- and each atom of such a number is chosen
pub true_chosen : (q : Atom) (words : List ℕ) (i : ℕ) (atoms : List Atom) (k : ℕ) → slice_get atoms k ≡ Some q → has words (i + k) ≡ true → list_any (is_same q) (chosen words i atoms) ≡ true
true_chosen q words i [] k at set = cc
true_chosen q words i (a ∷ atoms) zero at set =
    let z : i + 0 ≡ i = omega arith in
    let here : has words i ≡ true = ap (has words) (sym z) ∙ set in
    ap (λ b. list_any (is_same q) (cond b (a ∷ chosen words (i + 1) atoms) (chosen words (i + 1) atoms))) here
    ∙ ap (λ b. b || list_any (is_same q) (chosen words (i + 1) atoms)) (ap (is_same q) (some_same a q at) ∙ is_itself q)
true_chosen q words i (a ∷ atoms) (suc k) at set =
    let e : i + 1 + k ≡ i + suc k = omega arith in
    more q a (chosen words (i + 1) atoms) (has words i) (true_chosen q words (i + 1) atoms k at (ap (has words) e ∙ set))
  where
    more : (q a : Atom) (rest : List Atom) (b : Bool) → list_any (is_same q) rest ≡ true → list_any (is_same q) (cond b (a ∷ rest) rest) ≡ true
    more q a rest true any = ap (λ b. is_same q a || b) any ∙ or_true (is_same q a)
      where
        or_true : (b : Bool) → (b || true) ≡ true
        or_true true = refl
        or_true false = refl
    more q a rest false any = any

-- a static atom is true, and a chosen one
contains-state_of : (t : Table) (words : List ℕ) (q : Atom) → contains (state_of t words) q ≡ (contains t.statics q || list_any (is_same q) (chosen words 0 t.atoms))
contains-state_of t words q = contains-union t.statics _ q ∙ ap (λ b. contains t.statics q || b) (contains-set_of _ q)

module _ (t : Table) (table : IsTable t) (words : List ℕ) (q : Atom) where
  -- a numbered atom is true where its bit is set
  pub numbered_is : (k : ℕ) → slice_get t.atoms k ≡ Some q → contains (state_of t words) q ≡ has words k
  numbered_is k at =
      contains-state_of t words q
      ∙ ap (λ b. b || list_any (is_same q) (chosen words 0 t.atoms)) (not_true _ (λ static. true≢false (sym (table.fluent k q at) ∙ table.static q static)))
      ∙ both_ways _ _
      (λ any. (
      let found = chosen_true q words 0 t.atoms any in
      let here : k ≡ found.0 = one_place t.atoms table.numbering.distinct k found.0 q at found.1 in
      let e : k ≡ 0 + found.0 = omega (arith, here) in ap (has words) e ∙ found.2))
      (λ set. (let e : 0 + k ≡ k = omega arith in true_chosen q words 0 t.atoms k at (ap (has words) e ∙ set)))

  -- another one is true where it is static
  pub unnumbered_is : ((k : ℕ) → slice_get t.atoms k ≡ Some q → ⊥) → contains (state_of t words) q ≡ contains t.statics q
  unnumbered_is none =
      contains-state_of t words q
      ∙ ap (λ b. contains t.statics q || b) (not_true _ (λ any. none (chosen_true q words 0 t.atoms any).0 (chosen_true q words 0 t.atoms any).1))
      ∙ or_false (contains t.statics q)
    where
      or_false : (b : Bool) → (b || false) ≡ b
      or_false true = refl
      or_false false = refl

  -- an atom that is not fluent is true where it is static
  pub static_is : is_fluent t q ≡ false → contains (state_of t words) q ≡ contains t.statics q
  static_is static = unnumbered_is (λ k at. true≢false (sym (table.fluent k q at) ∙ static))

-- ## Growth

-- an atom keeps its number
pub later_at : (t later : Table) → IsLater t later → (k : ℕ) (a : Atom) → slice_get t.atoms k ≡ Some a → slice_get later.atoms k ≡ Some a
later_at t later more k a at = ap (λ l. slice_get l k) more.atoms ∙ slice_get-append t.atoms more.more k a at

-- ## Tables that grow

-- numbers past the end choose nothing
chosen-append : (words : List ℕ) (i : ℕ) (xs ys : List Atom) → ((k : ℕ) → i + length xs ≤ k → has words k ≡ true → ⊥) → chosen words i (xs ++ ys) ≡ chosen words i xs
chosen-append words i [] [] none = refl
chosen-append words i [] (y ∷ ys) none =
    ap (λ b. cond b (y ∷ chosen words (i + 1) ys) (chosen words (i + 1) ys)) (not_true (has words i) (none i (omega arith)))
    ∙ chosen-append words (i + 1) [] ys (λ k past. none k (omega arith))
chosen-append words i (x ∷ xs) ys none = ap (λ l. cond (has words i) (x ∷ l) l) (chosen-append words (i + 1) xs ys (λ k past. none k (omega arith)))

-- a set of numbers stands for what it stood for
pub later_state : (t later : Table) → IsLater t later → (words : List ℕ) → IsSetOf t words → state_of later words ≡ state_of t words
later_state t later more words set =
    ap (λ s. union s (set_of (chosen words 0 later.atoms))) more.statics
    ∙ ap (λ l. union t.statics (set_of (chosen words 0 l))) more.atoms
    ∙ ap (λ l. union t.statics (set_of l)) (chosen-append words 0 t.atoms more.more (λ k past is. (let within = set.within k is in absurd (omega arith))))

-- a set of a table is one of later tables
pub later_set : (t later : Table) → IsLater t later → (words : List ℕ) → IsSetOf t words → IsSetOf later words
later_set t later more words set = record {
  bits = set.bits;
  within = λ x is. (let within = set.within x is in let long = ap length more.atoms in omega (arith, long, length-append t.atoms more.more));
}

-- a table is no earlier than itself
pub later_itself : (t : Table) → IsTable t → IsLater t t
later_itself t table = record { fluents = refl; statics = refl; more = []; atoms = sym (append-nil t.atoms); table = table }

-- later than later is later
pub later_more : (t u v : Table) → IsLater t u → IsLater u v → IsLater t v
later_more t u v one two = record {
  fluents = two.fluents ∙ one.fluents;
  statics = two.statics ∙ one.statics;
  more = one.more ++ two.more;
  atoms = two.atoms ∙ ap (λ l. l ++ two.more) one.atoms ∙ append_assoc t.atoms one.more two.more;
  table = two.table;
}

-- a fluent atom that has no number gets the next one
pub one_more : (t : Table) → IsTable t → length t.atoms < 2 ^ 32 → (q : Atom) → is_fluent t q ≡ true → ((n : ℕ) → slice_get t.atoms n ≡ Some q → ⊥)
    → IsTable (record { fluents = t.fluents; statics = t.statics; atoms = t.atoms ++ q ∷ [] })
one_more t table room q fluent none = record {
  numbering = numbering_push t.atoms q table.numbering room none;
  fluent = λ i a at. elim (at_push t.atoms q i a at) [
    | inl before ↦ table.fluent i a before
    | inr here ↦ ap (is_fluent t) (sym here.1) ∙ fluent
  ];
  static = table.static;
}

-- and the table is later
pub later_one_more : (t : Table) → IsTable t → length t.atoms < 2 ^ 32 → (q : Atom) → is_fluent t q ≡ true → ((n : ℕ) → slice_get t.atoms n ≡ Some q → ⊥)
    → IsLater t (record { fluents = t.fluents; statics = t.statics; atoms = t.atoms ++ q ∷ [] })
later_one_more t table room q fluent none = record { fluents = refl; statics = refl; more = q ∷ []; atoms = refl; table = one_more t table room q fluent none }

-- ## The first table

-- an atom is among those that pass where it is among all and passes
pub filter_any : (keep : Atom → Bool) (q : Atom) (xs : List Atom) → list_any (is_same q) (filter keep xs) ≡ (list_any (is_same q) xs && keep q)
filter_any keep q [] = refl
filter_any keep q (x ∷ xs) =
    elim (keep x) as (λ b. keep x ≡ b → list_any (is_same q) (cond b (x ∷ filter keep xs) (filter keep xs)) ≡ ((is_same q x || list_any (is_same q) xs) && keep q)) [
      | true ↦ λ kept. ap (λ b. is_same q x || b) (filter_any keep q xs) ∙ kept_one (is_same q x) (list_any (is_same q) xs) (keep q) (λ e. ap keep (same_as q x e) ∙ kept)
      | false ↦ λ dropped. filter_any keep q xs ∙ dropped_one (is_same q x) (list_any (is_same q) xs) (keep q) (λ e. ap keep (same_as q x e) ∙ dropped)
    ] refl
  where
    kept_one : (a b k : Bool) → (a ≡ true → k ≡ true) → (a || (b && k)) ≡ ((a || b) && k)
    kept_one true b k h = sym (h refl)
    kept_one false b k h = refl

    and_false : (b : Bool) → (b && false) ≡ false
    and_false true = refl
    and_false false = refl

    dropped_one : (a b k : Bool) → (a ≡ true → k ≡ false) → (b && k) ≡ ((a || b) && k)
    dropped_one true b k h = subst (λ v. (b && v) ≡ v) (sym (h refl)) (and_false b)
    dropped_one false b k h = refl

-- the static atoms of a state
pub statics_of : (fluents : List Bool) (s : State) (q : Atom) → contains (set_of (filter (λ a. not (is_fluent_by fluents a)) (atoms_of s))) q ≡ (contains s q && not (is_fluent_by fluents q))
statics_of fluents s q =
    contains-set_of _ q ∙ filter_any (λ a. not (is_fluent_by fluents a)) q (atoms_of s)
    ∙ ap (λ b. b && not (is_fluent_by fluents q)) (sym (contains-set_of (atoms_of s) q) ∙ ap (λ (t : State). contains t q) (set_of-atoms_of s))

-- a table of no numbers
pub first_table : (fluents : List Bool) (s statics : State) → ((q : Atom) → contains statics q ≡ (contains s q && not (is_fluent_by fluents q))) → IsTable (record { fluents = fluents; statics = statics; atoms = [] })
first_table fluents s statics is = record {
  numbering = numbering_none;
  fluent = λ i a at. absurd (nothing_at i a at);
  static = λ a h. second (contains s a) (is_fluent_by fluents a) (sym (is a) ∙ h);
}
  where
    nothing_at : (i : ℕ) (a : Atom) → slice_get [] i ≡ Some a → ⊥
    nothing_at i a at = cc

    second : (b f : Bool) → (b && not f) ≡ true → f ≡ false
    second true true h = absurd (true≢false (sym h))
    second true false h = refl
    second false f h = absurd (true≢false (sym h))

-- ## One set for each state

-- there is one at each place
item_at : (xs : List Atom) (k : ℕ) → k < length xs → (a : Atom) × (slice_get xs k ≡ Some a)
item_at [] k less = absurd (omega arith)
item_at (x ∷ xs) zero less = (x, refl)
item_at (x ∷ xs) (suc k) less = item_at xs k (omega arith)

-- sets that stand for one state have the same words
pub told_apart : (t : Table) → IsTable t → (vs ws : List ℕ) → IsSetOf t vs → IsSetOf t ws → state_of t vs ≡ state_of t ws → vs ≡ ws
told_apart t table vs ws v w alike =
    same_words vs ws v.bits w.bits (λ x. both_ways (has vs x) (has ws x)
    (λ is. (let a = item_at t.atoms x (v.within x is) in sym (numbered_is t table ws a.0 x a.1) ∙ sym (ap (λ (s : State). contains s a.0) alike) ∙ numbered_is t table vs a.0 x a.1 ∙ is))
    (λ is. (let a = item_at t.atoms x (w.within x is) in sym (numbered_is t table vs a.0 x a.1) ∙ ap (λ (s : State). contains s a.0) alike ∙ numbered_is t table ws a.0 x a.1 ∙ is)))
