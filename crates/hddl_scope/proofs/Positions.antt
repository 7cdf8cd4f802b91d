-- Positions of names among distinct names.
use Rattle.std.proofs.Common.{◌≡◌, ◌⊎◌, ℕ, ◌+◌, ◌<◌, suc, not, true≢false, slice_get, option_and_then, Option, nat_lt, length, ◌↔◌, arith, Bool, true, false, List, [], ◌∷◌, ◌++◌, Some, None, refl, sym, ap, subst, ◌∙◌, inl, inr, cond, is_some, ◌||◌}
use Rattle.std.specs.List.{find, list_any, position, position_from, position_or_len, fold}
use Rattle.std.proofs.lemmas.Bool.{cases_lt}
use Rattle.std.proofs.lemmas.Bool.Decides.{nat_tests, Decides-ltb}
use Rattle.std.proofs.lemmas.Iterator.Adapters.{position_from-zero}
use Rattle.std.proofs.lemmas.Option.{slice_get_past}
use Rattle.std.proofs.lemmas.List.Folds.{find_at, list_any-append}
use Rattle.hddl_meaning.specs.Mentions.{Text, IsIn}
use Rattle.hddl_meaning.specs.Names.{distinct, with_name, is_same_text}
use Rattle.hddl_meaning.proofs.Listed.{at_head, at_tail, texts_decide, in_distinct}
use Rattle.hddl_meaning.proofs.Numbers.{first_below}
use Rattle.hddl_scope.specs.Numbers.{Entries, number_at}

-- where no value passes, the position is past the end
none_pass : {X : Type 0} (p : X → Bool) (xs : List X) → list_any p xs ≡ false → position_or_len p xs ≡ length xs
none_pass p [] none = refl
none_pass p (x ∷ xs) none = by (p x) none (none_pass p xs)
  where
    by : (b : Bool) → (b || list_any p xs) ≡ false → (list_any p xs ≡ false → position_or_len p xs ≡ length xs)
        → cond (not b) (1 + position_or_len p xs) 0 ≡ suc (length xs)
    by true none rest = cc
    by false none rest = let e = rest none in omega (arith, e)

-- there is a position exactly where a value passes
pub has_position : {X : Type 0} (p : X → Bool) (xs : List X) → is_some (position p xs) ≡ list_any p xs
has_position p xs = by (list_any p xs) refl
  where
    by : (b : Bool) → list_any p xs ≡ b → is_some (position p xs) ≡ b
    by true some =
        let lt : position_or_len p xs < length xs = first_below p xs some in
        let test : nat_lt (position_or_len p xs) (length xs) ≡ true = (Decides-ltb (position_or_len p xs) (length xs)).1 lt in
        ap (λ t. is_some (cond t (Some (position_or_len p xs)) None)) test
    by false none =
        let e : position_or_len p xs ≡ length xs = none_pass p xs none in
        let test : nat_lt (position_or_len p xs) (length xs) ≡ false = grind (arith, nat_tests) in
        ap (λ t. is_some (cond t (Some (position_or_len p xs)) None)) test

-- a text among names with one more is among them or is that one
named_cases : (acc : List Text) (x t : Text) → list_any (is_same_text t) (with_name acc x) ≡ true → (list_any (is_same_text t) acc ≡ true) ⊎ (x ≡ t)
named_cases acc x t h = by (list_any (is_same_text x) acc) h
  where
    last : (b c : Bool) → is_same_text t x ≡ c → (b || (c || false)) ≡ true → (b ≡ true) ⊎ (x ≡ t)
    last true c is h = inl refl
    last false true is h = inr (sym ((texts_decide t x).0 is))
    last false false is h = cc

    by : (b : Bool) → list_any (is_same_text t) (cond b acc (acc ++ x ∷ [])) ≡ true → (list_any (is_same_text t) acc ≡ true) ⊎ (x ≡ t)
    by true h = inl h
    by false h = last (list_any (is_same_text t) acc) (is_same_text t x) refl (sym (list_any-append (is_same_text t) acc (x ∷ [])) ∙ h)

-- a text among the distinct names is one of those that they were made from
in_folded : (acc ts : List Text) (t : Text) → list_any (is_same_text t) (fold with_name acc ts) ≡ true → (list_any (is_same_text t) acc ≡ true) ⊎ IsIn t ts
in_folded acc [] t h = inl h
in_folded acc (x ∷ ts) t h =
    elim (in_folded (with_name acc x) ts t h) [
      | inl old ↦ elim (named_cases acc x t old) [ inl is ↦ inl is | inr is ↦ inr (subst (λ z. IsIn z (x ∷ ts)) is (at_head x ts)) ]
      | inr later ↦ inr (at_tail x t ts later)
    ]

-- a text among the distinct names is one of the names
pub of_distinct : (ts : List Text) (t : Text) → list_any (is_same_text t) (distinct ts) ≡ true → IsIn t ts
of_distinct ts t h = elim (in_folded [] ts t h) [ inl none ↦ cc | inr at ↦ at ]

-- a name has a number exactly where it is among the names
pub is_number_of : (ts : List Text) (t : Text) → (is_some (position (is_same_text t) (distinct ts)) ≡ true) ↔ IsIn t ts
is_number_of ts t = (
  λ h. of_distinct ts t (sym (has_position (is_same_text t) (distinct ts)) ∙ h),
  λ at. has_position (is_same_text t) (distinct ts) ∙ in_distinct ts t at,
)

-- ## Positions that grow

-- the position in a list with one value more is the old one, or else that of the value
pub push_from : {X : Type 0} (p : X → Bool) (i : ℕ) (xs : List X) (x : X)
    → position_from p i (xs ++ x ∷ []) ≡ cond (is_some (position_from p i xs)) (position_from p i xs) (cond (p x) (Some (i + length xs)) None)
push_from p i [] x = ap (λ n. cond (p x) (Some n) None) (omega arith)
push_from p i (y ∷ xs) x = by (p y) (push_from p (i + 1) xs x)
  where
    rest : Option ℕ
    rest = position_from p (i + 1) xs

    by : (b : Bool) → position_from p (i + 1) (xs ++ x ∷ []) ≡ cond (is_some rest) rest (cond (p x) (Some (i + 1 + length xs)) None)
        → cond b (Some i) (position_from p (i + 1) (xs ++ x ∷ []))
        ≡ cond (is_some (cond b (Some i) rest)) (cond b (Some i) rest) (cond (p x) (Some (i + suc (length xs))) None)
    by true e = refl
    by false e = e ∙ (let n : i + 1 + length xs ≡ i + suc (length xs) = omega arith in ap (λ n. cond (is_some rest) rest (cond (p x) (Some n) None)) n)

-- what a text's number is after a name was given one, unless it had one
abbrev pub next_number : Entries → Text → ℕ → Text → Option ℕ
next_number es u n t = cond (is_some (number_at es t)) (number_at es t) (cond (is_same_text t u) (Some n) None)

-- where the name has a number, nothing is added
pub kept_number : (es : Entries) (u : Text) (n : ℕ) → is_some (number_at es u) ≡ true → (t : Text) → number_at es t ≡ next_number es u n t
kept_number es u n some t = by (number_at es t) refl
  where
    fresh : number_at es t ≡ None → (b : Bool) → is_same_text t u ≡ b → None ≡ cond b (Some n) None
    fresh none true same =
        let gone : number_at es u ≡ None = ap (number_at es) (sym ((texts_decide t u).0 same)) ∙ none in
        absurd (true≢false (sym some ∙ ap is_some gone))
    fresh none false same = refl

    by : (o : Option ℕ) → number_at es t ≡ o → o ≡ cond (is_some o) o (cond (is_same_text t u) (Some n) None)
    by None none = fresh none (is_same_text t u) refl
    by (Some k) is = refl

-- the same from the start of the list
pub position_push : {X : Type 0} (p : X → Bool) (xs : List X) (x : X)
    → position p (xs ++ x ∷ []) ≡ cond (is_some (position p xs)) (position p xs) (cond (p x) (Some (length xs)) None)
position_push p xs x =
    let wide : 0 + length xs ≡ length xs = omega arith in
    position_from-zero p (xs ++ x ∷ []) ∙ push_from p 0 xs x
    ∙ (λ i. cond (is_some (sym (position_from-zero p xs) i)) (sym (position_from-zero p xs) i) (cond (p x) (Some (wide i)) None))

-- numbers by position stay so with one more item
pub numbers_more : {X : Type 0} (name : X → Text) (xs : List X) (x : X) (es : Entries) (n : ℕ) (next : Text → Option ℕ) → n ≡ length xs
    → ((t : Text) → next t ≡ next_number es (name x) n t) → ((t : Text) → number_at es t ≡ position (λ y. is_same_text t (name y)) xs)
    → (t : Text) → next t ≡ position (λ y. is_same_text t (name y)) (xs ++ x ∷ [])
numbers_more name xs x es n next long step old t =
    step t ∙ (λ i. cond (is_some (old t i)) (old t i) (cond (is_same_text t (name x)) (Some (long i)) None))
    ∙ sym (position_push (λ y. is_same_text t (name y)) xs x)

-- ## What stands at a position

-- where there is a position, it is the first
pub first_is : {X : Type 0} (p : X → Bool) (xs : List X) (k : ℕ) → position p xs ≡ Some k → position_or_len p xs ≡ k
first_is p xs k e = by (nat_lt (position_or_len p xs) (length xs)) e
  where
    by : (b : Bool) → cond b (Some (position_or_len p xs)) None ≡ Some k → position_or_len p xs ≡ k
    by true e = cc
    by false e = cc

-- the value that is found is the one at the position
pub found_at : {X : Type 0} (p : X → Bool) (xs : List X) (k : ℕ) → position p xs ≡ Some k → find p xs ≡ slice_get xs k
found_at p xs k e = find_at p xs ∙ ap (slice_get xs) (first_is p xs k e)

-- where there is no position, nothing is found
pub found_nowhere : {X : Type 0} (p : X → Bool) (xs : List X) → position p xs ≡ None → find p xs ≡ None
found_nowhere p xs e =
    find_at p xs
    ∙ elim (cases_lt (position_or_len p xs) (length xs)) [
      | inl lt ↦
          let test : nat_lt (position_or_len p xs) (length xs) ≡ true = (Decides-ltb (position_or_len p xs) (length xs)).1 lt in
          let some : Some (position_or_len p xs) ≡ None = sym (ap (λ b. cond b (Some (position_or_len p xs)) None) test) ∙ e in cc
      | inr past ↦ slice_get_past xs (position_or_len p xs) past
    ]

-- what stands at the position, where there is one, is the value that is found
pub found_by_position : {X : Type 0} (p : X → Bool) (xs : List X) → option_and_then (slice_get xs) (position p xs) ≡ find p xs
found_by_position p xs = by (position p xs) refl
  where
    by : (o : Option ℕ) → position p xs ≡ o → option_and_then (slice_get xs) o ≡ find p xs
    by (Some k) is = sym (found_at p xs k is)
    by None is = sym (found_nowhere p xs is)
