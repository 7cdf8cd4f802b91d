-- The places of names that were read, and the first name that stood before.
use Rattle.std.proofs.Common.{◌≡◌, ◌⊎◌, ℕ, ◌<◌, ◌≤◌, Bool, true, false, cond, max, List, [], ◌∷◌, ◌++◌, Option, Some, None, is_some, refl, sym, ap, subst, ◌∙◌, inl, inr, arith, ◌+◌, take, get_or, length, IsSome, append_assoc, true≢false}
use Rattle.std.specs.Cmp.Lexicographic.{same_text}
use Rattle.std.proofs.lemmas.List.{take_more}
use Rattle.std.proofs.lemmas.Cmp.{nat_list_eq_equiv}
use Rattle.std.proofs.lemmas.List.Elements.{Contains-append_left, Contains-append_right, Contains-append_cases, Contains-push, Contains-push_cases}
use Rattle.hddl_meaning.specs.Mentions.{Text, Mention, IsIn}
use Rattle.hddl_meaning.specs.Names.{is_same_text}
use Rattle.hddl_scope.specs.Numbers.{Entries, number_at}
use Rattle.hddl_scope.specs.Repeats.{AreRepeats, IsFirstOf, IsOvertaken, IsRepeat, IsRepeatOfFirst, noted, repeat_of}
use Rattle.std.proofs.lemmas.Bool.{cases_lt}
use Rattle.hddl_meaning.proofs.Listed.{at_head, at_tail, in_cases, in_nothing, texts_decide}

-- a text has the same bytes as itself
pub same_itself : (t : Text) → is_same_text t t ≡ true
same_itself t = nat_list_eq_equiv.refl t

-- what a text's number is after one more entry
pub number_at-push : (es : Entries) (u : Text) (n : ℕ) (t : Text)
    → number_at (es ++ (u, n) ∷ []) t ≡ cond (is_some (number_at es t)) (number_at es t) (cond (is_same_text t u) (Some n) None)
number_at-push [] u n t = refl
number_at-push (e ∷ es) u n t = by (is_same_text t e.0) (number_at-push es u n t)
  where
    last : Option ℕ
    last = cond (is_same_text t u) (Some n) None

    by : (b : Bool) → number_at (es ++ (u, n) ∷ []) t ≡ cond (is_some (number_at es t)) (number_at es t) last
        → cond b (Some e.1) (number_at (es ++ (u, n) ∷ []) t)
        ≡ cond (is_some (cond b (Some e.1) (number_at es t))) (cond b (Some e.1) (number_at es t)) last
    by true rest = refl
    by false rest = rest

-- a text that has a number keeps it when another entry comes
pub number_at-kept : (es : Entries) (u : Text) (n : ℕ) (t : Text) (m : ℕ) → number_at es t ≡ Some m → number_at (es ++ (u, n) ∷ []) t ≡ Some m
number_at-kept es u n t m e =
    number_at-push es u n t ∙ ap (λ o. cond (is_some o) o (cond (is_same_text t u) (Some n) None)) e

-- a text without a number gets the one of its new entry
pub number_at-new : (es : Entries) (u : Text) (n : ℕ) → number_at es u ≡ None → number_at (es ++ (u, n) ∷ []) u ≡ Some n
number_at-new es u n e =
    number_at-push es u n u ∙ ap (λ o. cond (is_some o) o (cond (is_same_text u u) (Some n) None)) e
    ∙ ap (λ b. cond b (Some n) None) (same_itself u)

-- an entry is an old one, or the new one
pub number_at-cases : (es : Entries) (u : Text) (n : ℕ) (t : Text) (m : ℕ) → number_at (es ++ (u, n) ∷ []) t ≡ Some m
    → (number_at es t ≡ Some m) ⊎ ((t ≡ u) × (n ≡ m))
number_at-cases es u n t m e = by (number_at es t) refl
  where
    whole : cond (is_some (number_at es t)) (number_at es t) (cond (is_same_text t u) (Some n) None) ≡ Some m
    whole = sym (number_at-push es u n t) ∙ e

    fresh : (b : Bool) → is_same_text t u ≡ b → cond b (Some n) None ≡ Some m → (number_at es t ≡ Some m) ⊎ ((t ≡ u) × (n ≡ m))
    fresh true same is = inr (same_text t u (sym same), cc)
    fresh false same is = cc

    by : (o : Option ℕ) → number_at es t ≡ o → (number_at es t ≡ Some m) ⊎ ((t ≡ u) × (n ≡ m))
    by None none = fresh (is_same_text t u) refl (sym (ap (λ o. cond (is_some o) o (cond (is_same_text t u) (Some n) None)) none) ∙ whole)
    by (Some k) some = inl (some ∙ (sym (ap (λ o. cond (is_some o) o (cond (is_same_text t u) (Some n) None)) some) ∙ whole))

-- a text that has a number has one when another entry comes
pub number_at-still : (es : Entries) (u : Text) (n : ℕ) (t : Text) → IsSome (number_at es t) → IsSome (number_at (es ++ (u, n) ∷ []) t)
number_at-still es u n t some =
    ap is_some (number_at-push es u n t) ∙ ap (λ b. is_some (cond b (number_at es t) (cond (is_same_text t u) (Some n) None))) some ∙ some

-- a list with one more item, cut before an item: that is the last one, or the rest is cut there
pub snoc_cases : {X : Type 0} (ms : List X) (m : X) (before : List X) (second : X) (after : List X) → ms ++ m ∷ [] ≡ before ++ second ∷ after
    → ((before ≡ ms) × (second ≡ m)) ⊎ ((rest : List X) × (ms ≡ before ++ second ∷ rest))
snoc_cases [] m [] second after e = inl (refl, cc)
snoc_cases [] m (b ∷ []) second after e = cc
snoc_cases [] m (b ∷ (c ∷ bs)) second after e = cc
snoc_cases (x ∷ ms) m [] second after e = inr (ms, let same : x ≡ second = cc in ap (λ y. y ∷ ms) same)
snoc_cases (x ∷ ms) m (b ∷ bs) second after e =
    let same : x ≡ b = cc in
    elim (snoc_cases ms m bs second after (let rest : ms ++ m ∷ [] ≡ bs ++ second ∷ after = cc in rest)) [
      | inl (is, last) ↦ inl ((λ i. sym same i ∷ is i), last)
      | inr (rest, is) ↦ inr (rest, λ i. same i ∷ is i)
    ]

-- a value in the middle of a list is in it
pub Contains-middle : {X : Type 0} (before after : List X) (x : X) → IsIn x (before ++ x ∷ after)
Contains-middle before after x = Contains-append_right before (x ∷ after) x (Contains-append_left (x ∷ []) after x (Contains-push [] x))

-- in an empty list nothing stands again
pub no_repeat : (place : ℕ) → IsRepeatOfFirst [] place → ⊥
no_repeat place ([], m, after, first, e, is_first, is) = cc
no_repeat place (b ∷ bs, m, after, first, e, is_first, is) = cc

-- what stands again in a list does so with one mention more
pub more : (ms : List Mention) (m : Mention) (place : ℕ) → IsRepeatOfFirst ms place → IsRepeatOfFirst (ms ++ m ∷ []) place
more ms m place (before, second, after, first, e, is_first, is) =
    (before, second, after ++ m ∷ [], first, ap (λ l. l ++ m ∷ []) e ∙ append_assoc before (second ∷ after) (m ∷ []), is_first, is)

-- the first mention of a text is another of that text, or stands before it
first_or_before : (front rest before after : List Mention) (m first : Mention) → front ++ m ∷ rest ≡ before ++ first ∷ after
    → ((x : Mention) → IsIn x front → x.text ≡ first.text → ⊥) → (m ≡ first) ⊎ IsIn m before
first_or_before [] rest [] after m first e none = inl cc
first_or_before [] rest (b ∷ bs) after m first e none = inr (let same : m ≡ b = cc in subst (λ x. IsIn x (b ∷ bs)) (sym same) (at_head b bs))
first_or_before (f ∷ fs) rest [] after m first e none = absurd (none f (at_head f fs) (let same : f ≡ first = cc in ap (λ (x : Mention). x.text) same))
first_or_before (f ∷ fs) rest (b ∷ bs) after m first e none =
    elim (first_or_before fs rest bs after m first (let tails : fs ++ m ∷ rest ≡ bs ++ first ∷ after = cc in tails) (λ x at. none x (at_tail f x fs at))) [
      | inl is ↦ inl is
      | inr at ↦ inr (at_tail b m bs at)
    ]

-- of two places the later is one of them
later_is : (a b : ℕ) → ((max a b ≡ b) × (a ≤ b)) ⊎ ((max a b ≡ a) × (b < a))
later_is a b = elim (cases_lt b a) [ inl lt ↦ inr (omega (arith, lt), lt) | inr le ↦ inl (omega (arith, le), le) ]

-- the first mention of a text has one place
first_unique : (ms : List Mention) (t : Text) (place : ℕ) (o : Option ℕ) → IsFirstOf ms t (Some place) → IsFirstOf ms t o → o ≡ Some place
first_unique ms t place None (front, m, rest, cut, same, at, none) other =
    absurd (other m (subst (IsIn m) (sym cut) (Contains-middle front rest m)) same)
first_unique ms t place (Some k) (front, m, rest, cut, same, at, none) (front', n, rest', cut', same', at', none') =
    elim (first_or_before front rest front' rest' m n (sym cut ∙ cut') (λ x i e. none x i (e ∙ same'))) [
      | inl is ↦ ap Some (sym at' ∙ ap (λ (x : Mention). x.place) (sym is) ∙ at)
      | inr i ↦ absurd (none' m i same)
    ]

module _ (ms : List Mention) (m : Mention) (found : Option ℕ) (is_first : IsFirstOf ms m.text found) where
  -- where the mention stands again, it repeats the first one before
  pub repeats_here : (place : ℕ) → repeat_of found m.place ≡ Some place → IsRepeatOfFirst (ms ++ m ∷ []) place
  repeats_here place e = by found is_first e
    where
      by : (o : Option ℕ) → IsFirstOf ms m.text o → repeat_of o m.place ≡ Some place → IsRepeatOfFirst (ms ++ m ∷ []) place
      by None none e = cc
      by (Some n) first e = (ms, m, [], n, refl, first, let is : max n m.place ≡ place = cc in sym is)

  -- what stands again in the list with it is the mention, or stood again before
  pub repeat_cases : (place : ℕ) → IsRepeatOfFirst (ms ++ m ∷ []) place → (repeat_of found m.place ≡ Some place) ⊎ IsRepeatOfFirst ms place
  repeat_cases place (before, second, after, n, e, first, is) =
      elim (snoc_cases ms m before second after e) [
        | inl (all, last) ↦
            let here : IsFirstOf ms m.text (Some n) = subst (λ (x : Mention). IsFirstOf ms x.text (Some n)) last (subst (λ l. IsFirstOf l second.text (Some n)) all first) in
            inl
            (ap (λ o. repeat_of o m.place) (first_unique ms m.text n found here is_first) ∙ ap Some (ap (λ (x : Mention). max n x.place) (sym last) ∙ sym is))
        | inr (rest, e') ↦ inr (before, second, rest, n, e', first, is)
      ]

-- the repeats that are listed of the first mentions, but for those that were listed elsewhere
pub record Listed (Elsewhere : ℕ → Type 0) (ms : List Mention) (places : List ℕ) : Type 0 where
  pub sound : (place : ℕ) → IsIn place places → IsRepeatOfFirst ms place
  pub complete : (place : ℕ) → IsRepeatOfFirst ms place → IsIn place places ⊎ Elsewhere place

-- the places after one mention more
abbrev pub with_place : List ℕ → Option ℕ → List ℕ
with_place places None = places
with_place places (Some place) = places ++ place ∷ []

-- one mention more
pub Listed-more : (E : ℕ → Type 0) (ms : List Mention) (m : Mention) (found : Option ℕ) (places : List ℕ) → IsFirstOf ms m.text found
    → Listed E ms places → Listed E (ms ++ m ∷ []) (with_place places (repeat_of found m.place))
Listed-more E ms m found places is_first old = by (repeat_of found m.place) refl
  where
    by : (o : Option ℕ) → repeat_of found m.place ≡ o → Listed E (ms ++ m ∷ []) (with_place places o)
    by None e = record {
      sound = λ place i. more ms m place (old.sound place i);
      complete = λ place r. elim (repeat_cases ms m found is_first place r) [ inl here ↦ let gone = sym e ∙ here in cc | inr before ↦ old.complete place before ];
    }
    by (Some n) e = record {
      sound = λ place i. elim (Contains-push_cases places n place i) [
        | inl there ↦ more ms m place (old.sound place there)
        | inr is ↦ repeats_here ms m found is_first place (e ∙ ap Some is)
      ];
      complete = λ place r. elim (repeat_cases ms m found is_first place r) [
        | inl here ↦ inl (subst (λ k. IsIn k (places ++ n ∷ [])) (let is : n ≡ place = let both = sym e ∙ here in cc in is) (Contains-push places n))
        | inr before ↦ elim (old.complete place before) [ inl i ↦ inl (Contains-append_left places (n ∷ []) place i) | inr rest ↦ inr rest ]
      ];
    }

-- ## Names that are read in turn

-- each text has the place of its first mention, and the repeats are listed
pub record Read (known : Entries) (ms : List Mention) (places : List ℕ) : Type 0 where
  pub firsts : (t : Text) → IsFirstOf ms t (number_at known t)
  pub listed : Listed (λ _. ⊥) ms places

-- before anything is read nothing is known or listed
pub Read-start : Read [] [] []
Read-start = record {
  firsts = λ t m at same. in_nothing m at;
  listed = record { sound = λ place i. absurd (in_nothing place i); complete = λ place r. absurd (no_repeat place r) };
}

-- the first mention of a text stays it with one mention more
first_kept : (ms : List Mention) (m : Mention) (t : Text) (place : ℕ) → IsFirstOf ms t (Some place) → IsFirstOf (ms ++ m ∷ []) t (Some place)
first_kept ms m t place (front, first, rest, cut, same, at, none) =
    (front, first, rest ++ m ∷ [], ap (λ l. l ++ m ∷ []) cut ∙ append_assoc front (first ∷ rest) (m ∷ []), same, at, none)

-- a mention of another text is the first of none that has none
first_other : (ms : List Mention) (m : Mention) (t : Text) → (m.text ≡ t → ⊥) → IsFirstOf ms t None → IsFirstOf (ms ++ m ∷ []) t None
first_other ms m t differs none x at same =
    elim (Contains-push_cases ms m x at) [ inl i ↦ none x i same | inr is ↦ differs (ap (λ (y : Mention). y.text) is ∙ same) ]

-- where nothing has the text, the mention is the first
first_new : (ms : List Mention) (m : Mention) → IsFirstOf ms m.text None → IsFirstOf (ms ++ m ∷ []) m.text (Some m.place)
first_new ms m none = (ms, m, [], refl, refl, refl, none)

-- the first mentions with one more
firsts_more : (known : Entries) (ms : List Mention) (m : Mention) → ((t : Text) → IsFirstOf ms t (number_at known t)) → (t : Text) → IsFirstOf (ms ++ m ∷ []) t (number_at (noted known m) t)
firsts_more known ms m old t = by (number_at known m.text) refl (old m.text)
  where
    -- the entries after the mention, where its text has that number
    after : Option ℕ → Entries
    after o = cond (is_some o) known (known ++ (m.text, m.place) ∷ [])

    there : (n : ℕ) → number_at known m.text ≡ Some n → (o : Option ℕ) → number_at known t ≡ o → IsFirstOf ms t o → IsFirstOf (ms ++ m ∷ []) t o
    there n some None none is = first_other ms m t (λ same. let gone = sym some ∙ ap (number_at known) same ∙ none in cc) is
    there n some (Some k) e is = first_kept ms m t k is

    fresh : number_at known m.text ≡ None → IsFirstOf ms m.text None → (b : Bool) → is_same_text t m.text ≡ b → (o : Option ℕ) → number_at known t ≡ o → IsFirstOf ms t o
        → IsFirstOf (ms ++ m ∷ []) t (cond (is_some o) o (cond b (Some m.place) None))
    fresh none new true same None e is = subst (λ u. IsFirstOf (ms ++ m ∷ []) u (Some m.place)) (sym ((texts_decide t m.text).0 same)) (first_new ms m new)
    fresh none new false same None e is =
        first_other ms m t (λ eq. true≢false (sym ((texts_decide t m.text).1 (sym eq)) ∙ same)) is
    fresh none new b same (Some k) e is = first_kept ms m t k is

    by : (o : Option ℕ) → number_at known m.text ≡ o → IsFirstOf ms m.text o → IsFirstOf (ms ++ m ∷ []) t (number_at (after o) t)
    by None none new =
        subst (IsFirstOf (ms ++ m ∷ []) t) (sym (number_at-push known m.text m.place t))
        (fresh none new (is_same_text t m.text) refl (number_at known t) refl (old t))
    by (Some n) some is = there n some (number_at known t) refl (old t)

-- what is read with one mention more
pub Read-more : (known : Entries) (ms : List Mention) (m : Mention) (places : List ℕ) → Read known ms places
    → Read (noted known m) (ms ++ m ∷ []) (with_place places (repeat_of (number_at known m.text) m.place))
Read-more known ms m places old = record {
  firsts = firsts_more known ms m old.firsts;
  listed = Listed-more (λ _. ⊥) ms m (number_at known m.text) places (old.firsts m.text) old.listed;
}

-- the step of a loop over the mentions
pub Read-step : (known after : Entries) (ms : List Mention) (i : ℕ) (m : Mention) (found : Option ℕ) (places next : List ℕ) → i < length ms → m ≡ get_or ms i m
    → found ≡ number_at known m.text → next ≡ with_place places (repeat_of found m.place) → after ≡ noted known m
    → Read known (take i ms) places → Read after (take (i + 1) ms) next
Read-step known after ms i m found places next lt is told then put old =
    let e : take i ms ++ m ∷ [] ≡ take (i + 1) ms = ap (λ x. take i ms ++ x ∷ []) is ∙ sym (take_more ms i m lt) in
    subst (λ l. Read after l next) e
    (subst (λ a. Read a (take i ms ++ m ∷ []) next) (sym put)
    (subst (Read (noted known m) (take i ms ++ m ∷ [])) (sym (then ∙ ap (λ o. with_place places (repeat_of o m.place)) told)) (Read-more known (take i ms) m places old)))

-- what is listed of a whole list
pub Listed-repeats : (ms : List Mention) (places : List ℕ) → Listed (λ _. ⊥) ms places → AreRepeats 0 ms places
Listed-repeats ms places h = record {
  sound = h.sound;
  complete = λ place r. elim (h.complete place r) [ inl i ↦ inl i | inr gone ↦ absurd gone ];
}

-- ## Any two names of one text

-- a text is mentioned first somewhere, or not at all
first_of : (ms : List Mention) (t : Text) → (o : Option ℕ) × IsFirstOf ms t o
first_of [] t = (None, λ m at same. in_nothing m at)
first_of (m ∷ ms) t = by (is_same_text m.text t) refl (first_of ms t)
  where
    by : (b : Bool) → is_same_text m.text t ≡ b → (o : Option ℕ) × IsFirstOf ms t o → (o : Option ℕ) × IsFirstOf (m ∷ ms) t o
    by true same rest = (Some m.place, ([], m, ms, refl, (texts_decide m.text t).0 same, refl, λ x at _. in_nothing x at))
    by false differs (o, is) = (o, later o is)
      where
        differ : m.text ≡ t → ⊥
        differ e = true≢false (sym ((texts_decide m.text t).1 e) ∙ differs)

        behind : (xs : List Mention) → ((x : Mention) → IsIn x xs → x.text ≡ t → ⊥) → (x : Mention) → IsIn x (m ∷ xs) → x.text ≡ t → ⊥
        behind xs none x at same = elim (in_cases m x xs at) [ inl is ↦ differ (ap (λ (y : Mention). y.text) is ∙ same) | inr i ↦ none x i same ]

        later : (o : Option ℕ) → IsFirstOf ms t o → IsFirstOf (m ∷ ms) t o
        later None none = behind ms none
        later (Some place) (front, first, rest, cut, same, at, none) = (m ∷ front, first, rest, ap (λ l. m ∷ l) cut, same, at, behind front none)

-- a repeat of the first mention is one of two mentions of one text
pub of_two : (ms : List Mention) (place : ℕ) → IsRepeatOfFirst ms place → IsRepeat ms place
of_two ms place (before, m, after, n, cut, (front, first, rest, cut', same, at, none), is) =
    (front, first, rest, m, after, cut ∙ ap (λ l. l ++ m ∷ after) cut', same, is ∙ ap (λ k. max k m.place) (sym at))

-- where two mentions have one text, one repeats the first
pub some_repeat : (ms : List Mention) (place : ℕ) → IsRepeat ms place → (other : ℕ) × IsRepeatOfFirst ms other
some_repeat ms place (before, first, middle, second, after, e, same, is) = by (first_of (before ++ first ∷ middle) second.text)
  where
    by : (o : Option ℕ) × IsFirstOf (before ++ first ∷ middle) second.text o → (other : ℕ) × IsRepeatOfFirst ms other
    by (None, none) = absurd (none first (Contains-middle before middle first) same)
    by (Some n, is_first) = (max n second.place, (before ++ first ∷ middle, second, after, n, e, is_first, refl))

-- a repeat of two mentions is one of the first of their text, or is overtaken by that
pub repeat_or_overtaken : (ms : List Mention) (place : ℕ) → IsRepeat ms place → IsRepeatOfFirst ms place ⊎ IsOvertaken ms place
repeat_or_overtaken ms place (before, first, middle, second, after, e, same, is) = by (first_of before first.text)
  where
    by : (o : Option ℕ) × IsFirstOf before first.text o → IsRepeatOfFirst ms place ⊎ IsOvertaken ms place
    by (None, none) = inl (before ++ first ∷ middle, second, after, first.place, e, (before, first, middle, refl, same, refl, λ x i t. none x i (t ∙ sym same)), is)
    by (Some n, (front, third, rest, cut, text, at, none)) =
        elim (cases_lt place third.place) [
          | inl lt ↦ inr (before, first, middle, second, after, third, e, same, is, subst (IsIn third) (sym cut) (Contains-middle front rest third), text, lt)
          | inr le ↦ elim (later_is first.place second.place) [
            | inl (last, _) ↦
                inl (
                  before ++ first ∷ middle,
                  second,
                  after,
                  n,
                  e,
                  (front, third, rest ++ first ∷ middle, ap (λ l. l ++ first ∷ middle) cut ∙ append_assoc front (third ∷ rest) (first ∷ middle), text ∙ same, at, λ x i t. none x i (t ∙ sym same)),
                  omega (arith, at, le, is, last),
                )
            | inr (last, _) ↦
                inl (
                  before,
                  first,
                  middle ++ second ∷ after,
                  n,
                  e ∙ append_assoc before (first ∷ middle) (second ∷ after),
                  (front, third, rest, cut, text, at, none),
                  omega (arith, at, le, is, last),
                )
          ]
        ]
