-- The first variable of a text among those in front of a position.
use Rattle.std.proofs.Common.{◌≡◌, ◌⊎◌, ℕ, zero, suc, ◌+◌, ◌-◌, ◌<◌, ◌≤◌, Bool, true, false, cond, List, [], ◌∷◌, ◌++◌, Option, Some, None, option_map, slice_get, refl, sym, ap, subst, ◌∙◌, inl, inr, arith, take, length, true≢false, map, get_or}
use Rattle.std.specs.List.{position, position_from}
use Rattle.std.proofs.lemmas.Iterator.Adapters.{position_from-zero}
use Rattle.hddl_meaning.specs.Mentions.{Mention, Text, IsIn}
use Rattle.hddl_meaning.specs.Names.{is_same_text}
use Rattle.hddl_meaning.specs.Uses.{Variable}
use Rattle.hddl_meaning.specs.Items.{variable_mentions}
use Rattle.hddl_meaning.proofs.Listed.{at_head, at_tail, in_cases, in_nothing, in_left, texts_decide}
use Rattle.hddl_scope.specs.Repeats.{AreRepeats, IsFirstOf, IsRepeatOfFirst, repeat_of}
use Rattle.hddl_scope.specs.Scopes.{has_text}
use Rattle.std.proofs.lemmas.List.{length-map, take_all, take_more}
use Rattle.std.proofs.lemmas.Option.{slice_get-get_or, slice_get-map}
use Rattle.hddl_scope.proofs.InForce.{take_front}
use Rattle.hddl_scope.proofs.Repeating.{Listed, Listed-more, with_place}

-- what is in the front of a list is in the list
pub in_front : {X : Type 0} (n : ℕ) (xs : List X) (x : X) → IsIn x (take n xs) → IsIn x xs
in_front zero xs x at = absurd (in_nothing x at)
in_front (suc n) [] x at = absurd (in_nothing x at)
in_front (suc n) (y ∷ xs) x at = elim (in_cases y x (take n xs) at) [
  | inl is ↦ subst (λ z. IsIn z (y ∷ xs)) is (at_head y xs)
  | inr later ↦ at_tail y x xs (in_front n xs x later)
]

-- the front of a list that has a value ends past it
take_past : {X : Type 0} (xs : List X) (x : X) (ys : List X) (k : ℕ) → length xs < k → (rest : List X) × (take k (xs ++ x ∷ ys) ≡ xs ++ x ∷ rest)
take_past [] x ys zero lt = absurd (omega (arith, lt))
take_past [] x ys (suc k) lt = (take k ys, refl)
take_past (y ∷ xs) x ys zero lt = absurd (omega (arith, lt))
take_past (y ∷ xs) x ys (suc k) lt =
    let (rest, is) = take_past xs x ys k (let more : suc (length xs) < suc k = lt in omega (arith, more)) in (rest, ap (λ l. y ∷ l) is)

module _ (t : Text) where
  -- where a variable of the text stands, and that it is the first
  record Stands (vs : List Variable) (j : ℕ) : Type 0 where
    before : List Mention
    m : Mention
    after : List Mention
    cut : variable_mentions vs ≡ before ++ m ∷ after
    long : length before ≡ j
    same : m.text ≡ t
    place : option_map (λ (v : Variable). v.typed.mention.place) (slice_get vs j) ≡ Some m.place
    none : (x : Mention) → IsIn x before → x.text ≡ t → ⊥

  -- a position that is found is that of the first
  scanned : (vs : List Variable) (i f : ℕ) → position_from (has_text t) i vs ≡ Some f → (j : ℕ) × (f ≡ i + j) × Stands vs j
  scanned [] i f e = cc
  scanned (v ∷ vs) i f e = by (has_text t v) refl e (scanned vs (i + 1) f)
    where
      by : (b : Bool) → has_text t v ≡ b → cond b (Some i) (position_from (has_text t) (i + 1) vs) ≡ Some f
          → (position_from (has_text t) (i + 1) vs ≡ Some f → (j : ℕ) × (f ≡ i + 1 + j) × Stands vs j) → (j : ℕ) × (f ≡ i + j) × Stands (v ∷ vs) j
      by true same e rest = (
        0,
        let is : i ≡ f = cc in omega (arith, is),
        record {
          before = [];
          m = v.typed.mention;
          after = variable_mentions vs;
          cut = refl;
          long = refl;
          same = sym ((texts_decide t v.typed.mention.text).0 same);
          place = refl;
          none = λ x at _. in_nothing x at;
        },
      )
      by false differs e rest =
          let (j, is, s) = rest e in (
            suc j,
            omega (arith, is),
            record {
              before = v.typed.mention ∷ s.before;
              m = s.m;
              after = s.after;
              cut = ap (λ l. v.typed.mention ∷ l) s.cut;
              long = ap suc s.long;
              same = s.same;
              place = s.place;
              none = λ x at same. elim (in_cases v.typed.mention x s.before at) [
                | inl e' ↦ true≢false (sym ((texts_decide t v.typed.mention.text).1 (sym (ap (λ (y : Mention). y.text) e' ∙ same))) ∙ differs)
                | inr later ↦ s.none x later same
              ];
            },
          )

  -- where no position is found, no variable has the text
  scanned_none : (vs : List Variable) (i : ℕ) → position_from (has_text t) i vs ≡ None → (x : Mention) → IsIn x (variable_mentions vs) → x.text ≡ t → ⊥
  scanned_none [] i e x at same = in_nothing x at
  scanned_none (v ∷ vs) i e x at same = by (has_text t v) refl e (scanned_none vs (i + 1))
    where
      by : (b : Bool) → has_text t v ≡ b → cond b (Some i) (position_from (has_text t) (i + 1) vs) ≡ None
          → (position_from (has_text t) (i + 1) vs ≡ None → (x : Mention) → IsIn x (variable_mentions vs) → x.text ≡ t → ⊥) → ⊥
      by true here e rest = cc
      by false differs e rest =
          elim (in_cases v.typed.mention x (variable_mentions vs) at) [
            | inl e' ↦ true≢false (sym ((texts_decide t v.typed.mention.text).1 (sym (ap (λ (y : Mention). y.text) e' ∙ same))) ∙ differs)
            | inr later ↦ rest e x later same
          ]

  -- no variable has the text
  pub nowhere : (vs : List Variable) (k : ℕ) → position (has_text t) vs ≡ None → IsFirstOf (take k (variable_mentions vs)) t None
  nowhere vs k e x at same = scanned_none vs 0 (sym (position_from-zero (has_text t) vs) ∙ e) x (in_front k (variable_mentions vs) x at) same

  -- none in front of a position that isn't past the first one
  pub not_before : (vs : List Variable) (k f : ℕ) → position (has_text t) vs ≡ Some f → k ≤ f → IsFirstOf (take k (variable_mentions vs)) t None
  not_before vs k f e le x at same =
      let (j, is, s) = scanned vs 0 f (sym (position_from-zero (has_text t) vs) ∙ e) in
      let short : k ≤ length s.before = let long = s.long in omega (arith, le, is, long) in
      s.none x (in_front k s.before x (subst (IsIn x) (ap (take k) s.cut ∙ take_front k s.before (s.m ∷ s.after) short) at)) same

  -- the first one, in front of a position past it
  pub first_before : (vs : List Variable) (k f : ℕ) → position (has_text t) vs ≡ Some f → f < k
      → IsFirstOf (take k (variable_mentions vs)) t (option_map (λ (v : Variable). v.typed.mention.place) (slice_get vs f))
  first_before vs k f e lt =
      let (j, is, s) = scanned vs 0 f (sym (position_from-zero (has_text t) vs) ∙ e) in
      let past : length s.before < k = let long = s.long in omega (arith, lt, is, long) in
      let (rest, cut) = take_past s.before s.m s.after k past in
      let j_is : j ≡ f = omega (arith, is) in
      subst (IsFirstOf (take k (variable_mentions vs)) t) (sym (ap (λ n. option_map (λ (v : Variable). v.typed.mention.place) (slice_get vs n)) (sym j_is) ∙ s.place))
      (s.before, s.m, rest, ap (take k) s.cut ∙ cut, s.same, refl, s.none)

-- the mention at a position is that of the variable there
pub mention_at : (vs : List Variable) (k : ℕ) (v : Variable) (m : Mention) → slice_get vs k ≡ Some v → slice_get (variable_mentions vs) k ≡ Some m → v.typed.mention ≡ m
mention_at vs k v m at e =
    let both : Some v.typed.mention ≡ Some m = sym (ap (option_map (λ (v : Variable). v.typed.mention)) at) ∙ sym (slice_get-map (λ (v : Variable). v.typed.mention) vs k) ∙ e in cc

-- one variable further
pub Listed-step : (E : ℕ → Type 0) (vs : List Variable) (k : ℕ) (here : Option ℕ) (places next : List ℕ) → k < length vs
    → ((m : Mention) → slice_get (variable_mentions vs) k ≡ Some m → (first : Option ℕ) × IsFirstOf (take k (variable_mentions vs)) m.text first × (here ≡ repeat_of first m.place))
    → next ≡ with_place places here → Listed E (take k (variable_mentions vs)) places → Listed E (take (k + 1) (variable_mentions vs)) next
Listed-step E vs k here places next lt told then old =
    let ms : List Mention = variable_mentions vs in
    let none : Mention = record { text = []; place = 0 } in
    let long : length ms ≡ length vs = length-map vs (λ (v : Variable). v.typed.mention) in
    let below : k < length ms = omega (arith, lt, long) in
    let m : Mention = get_or ms k none in
    let (first, is_first, is) = told m (slice_get-get_or ms k none below) in
    subst (λ l. Listed E l next) (sym (take_more ms k none below))
    (subst (Listed E (take k ms ++ m ∷ [])) (sym (then ∙ ap (with_place places) is)) (Listed-more E (take k ms) m first places is_first old))

-- what is listed up to the end is listed of all variables
pub Listed-whole : (vs : List Variable) (start k : ℕ) (places : List ℕ) → length vs ≤ k
    → Listed (IsRepeatOfFirst (take start (variable_mentions vs))) (take k (variable_mentions vs)) places → AreRepeats start (variable_mentions vs) places
Listed-whole vs start k places le h =
    let ms : List Mention = variable_mentions vs in
    let long : length ms ≡ length vs = length-map vs (λ (v : Variable). v.typed.mention) in
    let h' = subst (λ l. Listed (IsRepeatOfFirst (take start ms)) l places) (take_all k ms (omega (arith, le, long))) h in
    record { sound = h'.sound; complete = h'.complete }
