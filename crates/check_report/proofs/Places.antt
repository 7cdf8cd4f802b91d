-- The places of names that aren't the first words in their brackets, as a loop finds them.
use Rattle.std.proofs.Common.{◌≡◌, ◌≢◌, ◌⊎◌, ◌∙◌, inl, inr, ◌+◌, ◌<◌, ◌≤◌, arith, Bool, true, false, cond, zero, suc, get_or, None, ◌||◌, nat_eq, ℕ, List, [], ◌∷◌, ◌++◌, Option, Some, ap, refl, sym, subst, length}
use Rattle.std.specs.Prelude.{◌↔◌, map, option_map, slice_get, unwrap_or}
use Rattle.std.specs.List.{list_any}
use Rattle.std.proofs.Math.Nat.{eq-or-lt_of_le}
use Rattle.std.proofs.lemmas.Bool.{eq-eqb, eqb-true}
use Rattle.std.proofs.lemmas.List.Folds.{list_any-append}
use Rattle.std.proofs.lemmas.Option.{slice_get-get_or, slice_get-map, slice_get_read, slice_get_within}
use Rattle.std.specs.Option.{option_map_or}
use Rattle.indexmap.specs.IndexSet.{insert_key}
use Rattle.hddl_words.specs.Words.{Word, word_of}
use Rattle.hddl_words.specs.declared.token.Kind.{Kind}
use Rattle.hddl_words.specs.declared.token.Kind.TheVariants as kind
use Rattle.hddl_words.specs.declared.token.Token.{Token}
use Rattle.check_report.specs.Alone.{ArePlaces, StandsInside}

-- one more number among some
any_insert : (keys : List ℕ) (x y : ℕ) → list_any (nat_eq x) (insert_key nat_eq keys y) ≡ true → (list_any (nat_eq x) keys ≡ true) ⊎ (x ≡ y)
any_insert keys x y h = by (list_any (nat_eq y) keys) h
  where
    split : (a b : Bool) → (a || (b || false)) ≡ true → (b ≡ true → x ≡ y) → (a ≡ true) ⊎ (x ≡ y)
    split true b is eq = inl refl
    split false true is eq = inr (eq refl)
    split false false is eq = absurd cc

    by : (there : Bool) → list_any (nat_eq x) (cond there keys (keys ++ y ∷ [])) ≡ true → (list_any (nat_eq x) keys ≡ true) ⊎ (x ≡ y)
    by true is = inl is
    by false is = split (list_any (nat_eq x) keys) (nat_eq x y) (sym (list_any-append (nat_eq x) keys (y ∷ [])) ∙ is) (eqb-true x y)

-- what was among them stays
kept_insert : (keys : List ℕ) (x y : ℕ) → list_any (nat_eq x) keys ≡ true → list_any (nat_eq x) (insert_key nat_eq keys y) ≡ true
kept_insert keys x y h = by (list_any (nat_eq y) keys)
  where
    by : (there : Bool) → list_any (nat_eq x) (cond there keys (keys ++ y ∷ [])) ≡ true
    by true = h
    by false = list_any-append (nat_eq x) keys (y ∷ []) ∙ ap (λ b. b || (nat_eq x y || false)) h

-- and the new one is among them
new_insert : (keys : List ℕ) (x : ℕ) → list_any (nat_eq x) (insert_key nat_eq keys x) ≡ true
new_insert keys x = by (list_any (nat_eq x) keys) refl
  where
    right : (a b : Bool) → b ≡ true → (a || (b || false)) ≡ true
    right true b is = refl
    right false true is = refl
    right false false is = absurd cc

    by : (there : Bool) → list_any (nat_eq x) keys ≡ there → list_any (nat_eq x) (cond there keys (keys ++ x ∷ [])) ≡ true
    by true is = is
    by false is = list_any-append (nat_eq x) keys (x ∷ []) ∙ right (list_any (nat_eq x) keys) (nat_eq x x) (eq-eqb x x refl)

-- a number below the one after the next is below the next, or the one before it
last_or_before : (b j : ℕ) → suc b < suc (suc j) → (suc b < suc j) ⊎ (b ≡ j)
last_or_before b j less = elim (eq-or-lt_of_le (omega arith)) [ inl last ↦ inr last | inr before ↦ inl (omega arith) ]

-- the word at a token's number is that of the token
pub word_here : (tokens : List Token) (k : ℕ) (t : Token) → k < length tokens → t ≡ get_or tokens k t → slice_get (map word_of tokens) k ≡ Some (word_of t)
word_here tokens k t less is = slice_get-map word_of tokens k ∙ ap (option_map word_of) (slice_get_read tokens (length tokens) k t refl less is)

module _ (ws : List Word) where
  -- a name below a word's number, which isn't the first word in its brackets
  abbrev pub StandsBefore : ℕ → ℕ → Type 0
  StandsBefore k place = (s : StandsInside ws place) × (suc s.before < k)

  -- what a loop found before a word
  abbrev pub Found : ℕ → List ℕ → Type 0
  Found k keys = (place : ℕ) → (list_any (nat_eq place) keys ≡ true) ↔ StandsBefore k place

  -- nothing stands before the first word
  pub none_found : Found 0 []
  none_found place = (λ any. absurd cc, λ s. let less = s.1 in absurd (omega arith))

  -- two words at one number are one
  one_word : (k : ℕ) (u v : Word) → slice_get ws k ≡ Some u → slice_get ws k ≡ Some v → u ≡ v
  one_word k u v at there = ap (λ o. unwrap_or o v) (sym at ∙ there)

  module _ (j : ℕ) (u v : Word) (keys : List ℕ) (before : slice_get ws j ≡ Some u) (here : slice_get ws (suc j) ≡ Some v) (found : Found (suc j) keys) where
    -- a name at the next number, which isn't the first word in its brackets
    pub found_one : u.kind ≢ kind.Open → v.kind ≡ kind.Name → Found (suc (suc j)) (insert_key nat_eq keys v.place)
    found_one inside named place = (into, from)
      where
        into : list_any (nat_eq place) (insert_key nat_eq keys v.place) ≡ true → StandsBefore (suc (suc j)) place
        into any = elim (any_insert keys place v.place any) [
          | inl old ↦ let s = (found place).0 old in let less = s.1 in (s.0, omega arith)
          | inr is ↦ (
            record { before = j; word_before = u; name = v; is_before = before; is_name = here; inside = inside; named = named; here = sym is },
            omega arith,
          )
        ]

        from : StandsBefore (suc (suc j)) place → list_any (nat_eq place) (insert_key nat_eq keys v.place) ≡ true
        from s = elim (last_or_before s.0.before j s.1) [
          | inl less ↦ kept_insert keys place v.place ((found place).1 (s.0, less))
          | inr last ↦
              let same : s.0.name ≡ v = one_word (suc j) s.0.name v (subst (λ n. slice_get ws (suc n) ≡ Some s.0.name) last s.0.is_name) here in
              let at : v.place ≡ place = ap (λ (w : Word). w.place) (sym same) ∙ s.0.here in
              subst (λ n. list_any (nat_eq n) (insert_key nat_eq keys v.place) ≡ true) at (new_insert keys v.place)
        ]

    -- any other word there
    pub found_no_more : (u.kind ≢ kind.Open → v.kind ≡ kind.Name → ⊥) → Found (suc (suc j)) keys
    found_no_more other place = (
      λ any. let s = (found place).0 any in let less = s.1 in (s.0, omega arith),
      λ s. elim (last_or_before s.0.before j s.1) [
        | inl less ↦ (found place).1 (s.0, less)
        | inr last ↦
            let name : s.0.name ≡ v = one_word (suc j) s.0.name v (subst (λ n. slice_get ws (suc n) ≡ Some s.0.name) last s.0.is_name) here in
            let first : s.0.word_before ≡ u = one_word j s.0.word_before u (subst (λ n. slice_get ws n ≡ Some s.0.word_before) last s.0.is_before) before in
            absurd (other (subst (λ (w : Word). w.kind ≢ kind.Open) first s.0.inside) (subst (λ (w : Word). w.kind ≡ kind.Name) name s.0.named))
      ],
    )

  -- the kind of the word before one, or that of a bracket
  abbrev pub kind_before : ℕ → Kind
  kind_before zero = kind.Open
  kind_before (suc j) = option_map_or (λ (w : Word). w.kind) (slice_get ws j) kind.Open

  -- the kind of a word is the one before the next
  pub kind_of_last : (k : ℕ) (v : Word) → slice_get ws k ≡ Some v → v.kind ≡ kind_before (suc k)
  kind_of_last k v here = sym (ap (λ o. option_map_or (λ (w : Word). w.kind) o kind.Open) here)

  -- a word is looked at
  module _ (k : ℕ) (v : Word) (before : Kind) (keys : List ℕ) (here : slice_get ws k ≡ Some v) (is : before ≡ kind_before k) (found : Found k keys) where
    -- a name that isn't the first word in its brackets
    pub look_name : before ≢ kind.Open → v.kind ≡ kind.Name → Found (suc k) (insert_key nat_eq keys v.place)
    look_name inside named = by k here is found
      where
        by : (k : ℕ) → slice_get ws k ≡ Some v → before ≡ kind_before k → Found k keys → Found (suc k) (insert_key nat_eq keys v.place)
        by zero here is found = absurd (inside is)
        by (suc j) here is found = after (slice_get ws j) refl here is found
          where
            after : (o : Option Word) → slice_get ws j ≡ o → slice_get ws (suc j) ≡ Some v → before ≡ option_map_or (λ (w : Word). w.kind) (slice_get ws j) kind.Open
                → Found (suc j) keys → Found (suc (suc j)) (insert_key nat_eq keys v.place)
            after None at here is found = absurd (inside (is ∙ ap (λ o. option_map_or (λ (w : Word). w.kind) o kind.Open) at))
            after (Some u) at here is found =
                found_one j u v keys at here found (subst (λ x. x ≢ kind.Open) (is ∙ ap (λ o. option_map_or (λ (w : Word). w.kind) o kind.Open) at) inside) named

    -- any other word
    pub look_other : (before ≢ kind.Open → v.kind ≡ kind.Name → ⊥) → Found (suc k) keys
    look_other other = by k here is found
      where
        nothing : Found 0 keys → Found 1 keys
        nothing found place = (λ any. let s = (found place).0 any in let less = s.1 in absurd (omega arith), λ s. let less = s.1 in absurd (omega arith))

        by : (k : ℕ) → slice_get ws k ≡ Some v → before ≡ kind_before k → Found k keys → Found (suc k) keys
        by zero here is found = nothing found
        by (suc j) here is found = after (slice_get ws j) refl here is found
          where
            after : (o : Option Word) → slice_get ws j ≡ o → slice_get ws (suc j) ≡ Some v → before ≡ option_map_or (λ (w : Word). w.kind) (slice_get ws j) kind.Open
                → Found (suc j) keys → Found (suc (suc j)) keys
            after None at here is found =
                let within = slice_get_within ws (suc j) v here in
                let past : slice_get ws j ≡ Some (get_or ws j v) = slice_get-get_or ws j v (omega (arith, within)) in
                let bad : None ≡ Some (get_or ws j v) = sym at ∙ past in
                absurd cc
            after (Some u) at here is found =
                found_no_more j u v keys at here found
                (λ inside. other (subst (λ x. x ≢ kind.Open) (sym (is ∙ ap (λ o. option_map_or (λ (w : Word). w.kind) o kind.Open) at)) inside))

  -- what was found before the end are the places
  pub all_found : (k : ℕ) (keys : List ℕ) → length ws ≤ k → Found k keys → ArePlaces ws keys
  all_found k keys end found place = (
    λ any. ((found place).0 any).0,
    λ s. let within = slice_get_within ws (suc s.before) s.name s.is_name in (found place).1 (s, omega arith),
  )
