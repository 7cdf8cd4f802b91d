-- Variables in force: one more of them, and some taken back.
use Rattle.std.proofs.Common.{◌≡◌, ◌⊎◌, ℕ, zero, suc, ◌<◌, ◌≤◌, ◌+◌, min, Bool, true, false, cond, List, [], ◌∷◌, ◌++◌, Option, Some, None, IfSome, option_map, slice_get, refl, sym, ap, subst, ◌∙◌, inl, inr, arith, take, length, true≢false, length-append}
use Rattle.std.proofs.lemmas.List.{map-append, length-take, length-map}
use Rattle.std.proofs.lemmas.Option.{slice_get_within}
use Rattle.hddl_meaning.specs.Mentions.{Mention, Text, IsIn}
use Rattle.hddl_meaning.specs.Names.{is_same_text}
use Rattle.hddl_meaning.specs.Uses.{Variable}
use Rattle.hddl_meaning.specs.Items.{variable_in, variable_mentions}
use Rattle.hddl_meaning.proofs.Listed.{in_cases, in_nothing, texts_decide}
use Rattle.hddl_scope.specs.Findings.{Finds, IsOneOf}
use Rattle.hddl_scope.specs.Numbers.{Entries, number_at}
use Rattle.hddl_scope.specs.Repeats.{IsFirstOf, IsRepeatOfFirst, repeat_of}
use Rattle.hddl_scope.specs.InForce.{AreNoted, IsScope, variables_of}
use Rattle.hddl_scope.specs.declared.in_force.Entry.{Entry}
use Rattle.hddl_scope.proofs.Finding.{IfSome-weaker, sound-one}
use Rattle.hddl_scope.proofs.Positions.{next_number, numbers_more}
use Rattle.hddl_scope.proofs.Repeating.{more, no_repeat, repeat_cases, repeats_here}

-- the text of a variable
abbrev text_of : Variable → Text
text_of v = v.typed.mention.text

-- the place of the variable in force that has a text
abbrev pub place_in : List Variable → Text → Option ℕ
place_in vs t = option_map (λ v. v.typed.mention.place) (variable_in vs t)

-- ## Lists

-- taking the first of what was taken
pub take_take : {X : Type 0} (n m : ℕ) (xs : List X) → n ≤ m → take n (take m xs) ≡ take n xs
take_take zero m xs le = refl
take_take (suc n) zero xs le = absurd (omega arith)
take_take (suc n) (suc m) [] le = refl
take_take (suc n) (suc m) (x ∷ xs) le = ap (λ l. x ∷ l) (take_take n m xs (omega arith))

-- the front of a list with more after it is that of the list
pub take_front : {X : Type 0} (n : ℕ) (xs ys : List X) → n ≤ length xs → take n (xs ++ ys) ≡ take n xs
take_front zero xs ys le = refl
take_front (suc n) [] ys le = absurd (let none : suc n ≤ 0 = le in omega (arith, none))
take_front (suc n) (x ∷ xs) ys le = ap (λ l. x ∷ l) (take_front n xs ys (let more : suc n ≤ suc (length xs) = le in omega (arith, more)))

-- a list is the front of it with more after it
pub take_whole : {X : Type 0} (xs ys : List X) → take (length xs) (xs ++ ys) ≡ xs
take_whole [] ys = refl
take_whole (x ∷ xs) ys = ap (λ l. x ∷ l) (take_whole xs ys)

-- what keeps a longer front keeps a shorter one
pub kept_on : {X : Type 0} (xs now after more : List X) → now ≡ xs ++ more → take (length now) after ≡ now → take (length xs) after ≡ xs
kept_on xs now after more is kept =
    let long : length now ≡ length xs + length more = ap length is ∙ length-append xs more in
    sym (take_take (length xs) (length now) after (omega (arith, long))) ∙ ap (take (length xs)) (kept ∙ is) ∙ take_whole xs more

-- what stands in the front of a list stands there in the list
taken : {X : Type 0} (n : ℕ) (xs : List X) (k : ℕ) (x : X) → slice_get (take n xs) k ≡ Some x → (k < n) × (slice_get xs k ≡ Some x)
taken zero xs k x e = cc
taken (suc n) [] k x e = cc
taken (suc n) (y ∷ xs) zero x e = (omega arith, e)
taken (suc n) (y ∷ xs) (suc k) x e = let r = taken n xs k x e in let lt = r.0 in (omega (arith, lt), r.1)

-- what stands in a list with one value more stands there in the list, or is that value
pushed_at : {X : Type 0} (xs : List X) (x : X) (k : ℕ) (y : X) → slice_get (xs ++ x ∷ []) k ≡ Some y → (slice_get xs k ≡ Some y) ⊎ ((k ≡ length xs) × (x ≡ y))
pushed_at [] x zero y e = inr (refl, cc)
pushed_at [] x (suc k) y e = cc
pushed_at (z ∷ xs) x zero y e = inl e
pushed_at (z ∷ xs) x (suc k) y e = elim (pushed_at xs x k y e) [ inl h ↦ inl h | inr h ↦ inr (ap suc h.0, h.1) ]

-- ## The first variable of a text

-- the variable that is found is the first that mentions the text
found_first : (vs : List Variable) (t : Text) → IsFirstOf (variable_mentions vs) t (place_in vs t)
found_first [] t = λ m at same. in_nothing m at
found_first (w ∷ vs) t = by (is_same_text t (text_of w)) refl (variable_in vs t) (found_first vs t)
  where
    by : (b : Bool) → is_same_text t (text_of w) ≡ b → (o : Option Variable) → IsFirstOf (variable_mentions vs) t (option_map (λ v. v.typed.mention.place) o)
        → IsFirstOf (variable_mentions (w ∷ vs)) t (option_map (λ v. v.typed.mention.place) (cond b (Some w) o))
    by true same o rest = ([], w.typed.mention, variable_mentions vs, refl, sym ((texts_decide t (text_of w)).0 same), refl, λ x at _. in_nothing x at)
    by false differs o rest = later o rest
      where
        behind : (xs : List Mention) → ((x : Mention) → IsIn x xs → x.text ≡ t → ⊥) → (x : Mention) → IsIn x (w.typed.mention ∷ xs) → x.text ≡ t → ⊥
        behind xs none x at same = elim (in_cases w.typed.mention x xs at) [
          | inl is ↦ true≢false (sym ((texts_decide t (text_of w)).1 (sym (ap (λ (y : Mention). y.text) is ∙ same))) ∙ differs)
          | inr i ↦ none x i same
        ]

        later : (o : Option Variable) → IsFirstOf (variable_mentions vs) t (option_map (λ v. v.typed.mention.place) o)
            → IsFirstOf (variable_mentions (w ∷ vs)) t (option_map (λ v. v.typed.mention.place) o)
        later None none = behind (variable_mentions vs) none
        later (Some v) (front, m, rest, cut, same, at, none) = (w.typed.mention ∷ front, m, rest, ap (λ l. w.typed.mention ∷ l) cut, same, at, behind front none)

-- ## One more variable

module _ (vs : List Variable) (v : Variable) where
  -- the mentions of the variables in force
  abbrev ms : List Mention
  ms = variable_mentions vs

  -- the mention of the variable that comes
  abbrev m : Mention
  m = v.typed.mention

  -- with the variable, its mention comes at the end
  pushed : variable_mentions (vs ++ v ∷ []) ≡ ms ++ m ∷ []
  pushed = map-append (λ (v : Variable). v.typed.mention) vs (v ∷ [])

  -- a repeat that is found with one variable more
  repeats_more : (found here next : Option ℕ) → Finds (IsRepeatOfFirst ms) found → here ≡ repeat_of (place_in vs m.text) m.place → IsOneOf found here next
      → Finds (IsRepeatOfFirst (variable_mentions (vs ++ v ∷ []))) next
  repeats_more found here next old is one =
      subst (λ l. Finds (IsRepeatOfFirst l) next) (sym pushed) (by here is one)
    where
      kept : IfSome found (IsRepeatOfFirst (ms ++ m ∷ []))
      kept = IfSome-weaker (IsRepeatOfFirst ms) (IsRepeatOfFirst (ms ++ m ∷ [])) (more ms m) found old.sound

      by : (h : Option ℕ) → h ≡ repeat_of (place_in vs m.text) m.place → IsOneOf found h next → Finds (IsRepeatOfFirst (ms ++ m ∷ [])) next
      by None is one = record {
        sound = sound-one (IsRepeatOfFirst (ms ++ m ∷ [])) kept tt one;
        complete = λ e place r. elim (repeat_cases ms m (place_in vs m.text) (found_first vs m.text) place r) [
          | inl again ↦ let gone = is ∙ again in cc
          | inr before ↦ old.complete (one.none e).0 place before
        ];
      }
      by (Some place) is one = record {
        sound =
            sound-one (IsRepeatOfFirst (ms ++ m ∷ [])) kept (repeats_here ms m (place_in vs m.text) (found_first vs m.text) place (sym is)) one;
        complete = λ e. let none = (one.none e).1 in cc;
      }

  -- what is known of the variables in force, with one variable more
  pub noted_more : (known after : Entries) (found here next : Option ℕ) → ((t : Text) → number_at after t ≡ next_number known m.text (length vs) t)
      → here ≡ repeat_of (place_in vs m.text) m.place → IsOneOf found here next → AreNoted known vs found → AreNoted after (vs ++ v ∷ []) next
  noted_more known after found here next step is one old = record {
    positions = numbers_more text_of vs v known (length vs) (number_at after) refl step old.positions;
    repeats = repeats_more found here next old.repeats is one;
  }

-- ## The scope

-- no variables, of which nothing is known
pub scope_none : IsScope [] [] None
scope_none = record {
  whole = record {
    positions = λ t. refl;
    repeats = record { sound = tt; complete = λ e. no_repeat };
  };
  before = λ k e at. cc;
  rising = λ k j e f at_k at_j le. cc;
  within = λ k e at. cc;
}

-- one more entry, which has what was known before it
pub scope_more : (entries : List Entry) (e : Entry) (known after : Entries) (found here next : Option ℕ) → e.texts ≡ length known → e.repeat ≡ found
    → ((t : Text) → number_at after t ≡ next_number known (text_of e.variable) (length entries) t) → take (length known) after ≡ known
    → here ≡ repeat_of (place_in (variables_of entries) (text_of e.variable)) e.variable.typed.mention.place → IsOneOf found here next
    → IsScope entries known found → IsScope (entries ++ e ∷ []) after next
scope_more entries e known after found here next texts repeat step kept is one old = record {
  whole =
      subst (λ l. AreNoted after l next) (sym (map-append (λ (e : Entry). e.variable) entries (e ∷ [])))
      (noted_more (variables_of entries) e.variable known after found here next
      (λ t. step t ∙ ap (λ n. next_number known (text_of e.variable) n t) (sym (length-map entries (λ (e : Entry). e.variable)))) is one old.whole);
  before = λ k f at. elim (pushed_at entries e k f at) [
    | inl there ↦
        let lt : k < length entries = slice_get_within entries k f there in
        let within = old.within k f there in
        subst (λ l. AreNoted (take f.texts after) (variables_of l) f.repeat) (sym (take_front k entries (e ∷ []) (omega (arith, lt))))
        (subst (λ l. AreNoted l (variables_of (take k entries)) f.repeat) (ap (take f.texts) (sym kept) ∙ take_take f.texts (length known) after within)
        (old.before k f there))
    | inr last ↦
        subst (λ (g : Entry). AreNoted (take g.texts after) (variables_of (take k (entries ++ e ∷ []))) g.repeat) last.1
        (subst (λ n. AreNoted (take n after) (variables_of (take k (entries ++ e ∷ []))) e.repeat) (sym texts)
        (subst (λ l. AreNoted l (variables_of (take k (entries ++ e ∷ []))) e.repeat) (sym kept)
        (subst (λ r. AreNoted known (variables_of (take k (entries ++ e ∷ []))) r) (sym repeat)
        (subst (λ l. AreNoted known (variables_of l) found) (sym (ap (λ n. take n (entries ++ e ∷ [])) last.0 ∙ take_whole entries (e ∷ []))) old.whole))))
  ];
  rising = λ k j f g at_k at_j le. elim (pushed_at entries e k f at_k) [
    | inl there_k ↦ elim (pushed_at entries e j g at_j) [
      | inl there_j ↦ old.rising k j f g there_k there_j le
      | inr last_j ↦ subst (λ (g : Entry). f.texts ≤ g.texts) last_j.1 (let within = old.within k f there_k in omega (arith, within, texts))
    ]
    | inr last_k ↦ elim (pushed_at entries e j g at_j) [
      | inl there_j ↦ let lt = slice_get_within entries j g there_j in let at = last_k.0 in absurd (omega (arith, lt, at, le))
      | inr last_j ↦ let same : f.texts ≡ g.texts = ap (λ (x : Entry). x.texts) (sym last_k.1 ∙ last_j.1) in omega (arith, same)
    ]
  ];
  within = λ k f at.
      let long : length known ≡ min (length known) (length after) = ap length (sym kept) ∙ length-take (length known) after in
      elim (pushed_at entries e k f at) [
        | inl there ↦ let within = old.within k f there in omega (arith, within, long)
        | inr last ↦ let same : e.texts ≡ f.texts = ap (λ (x : Entry). x.texts) last.1 in omega (arith, same, texts, long)
      ];
}

-- the first entries, with what was known before the next one
pub scope_front : (entries : List Entry) (n : ℕ) (first : Entry) (known : Entries) (found : Option ℕ) → slice_get entries n ≡ Some first
    → IsScope entries known found → IsScope (take n entries) (take first.texts known) first.repeat
scope_front entries n first known found at old = record {
  whole = old.before n first at;
  before = λ k f at_k.
      let (lt, there) = taken n entries k f at_k in
      let rise : f.texts ≤ first.texts = old.rising k n f first there at (omega (arith, lt)) in
      subst (λ l. AreNoted (take f.texts (take first.texts known)) (variables_of l) f.repeat) (sym (take_take k n entries (omega (arith, lt))))
      (subst (λ l. AreNoted l (variables_of (take k entries)) f.repeat) (sym (take_take f.texts first.texts known rise)) (old.before k f there));
  rising = λ k j f g at_k at_j le. old.rising k j f g (taken n entries k f at_k).1 (taken n entries j g at_j).1 le;
  within = λ k f at_k.
      let (lt, there) = taken n entries k f at_k in
      let rise : f.texts ≤ first.texts = old.rising k n f first there at (omega (arith, lt)) in
      let within : first.texts ≤ length known = old.within n first at in
      let long : length (take first.texts known) ≡ min first.texts (length known) = length-take first.texts known in
      omega (arith, rise, within, long);
}
