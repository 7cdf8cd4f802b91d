-- Names that are counted once.
use Rattle.std.proofs.Common.{◌≡◌, ◌↔◌, ℕ, ◌+◌, ◌<◌, ◌≤◌, Bool, List, [], ◌∷◌, ◌++◌, Some, None, is_some, length, ap, refl, sym, ◌∙◌, inl, inr, subst, cond, true, false, true≢false, ◌||◌, map, take, drop, get_or, append_assoc, append-nil, length-append, arith, ◌⊎◌}
use Rattle.std.specs.List.{list_any}
use Rattle.std.proofs.lemmas.List.{map-append, length-map, take_more, take_all}
use Rattle.hddl_meaning.specs.Mentions.{Text, Mention, IsIn, texts}
use Rattle.hddl_meaning.specs.Names.{is_same_text, distinct}
use Rattle.hddl_meaning.proofs.Listed.{distinct_push, in_distinct}
use Rattle.hddl_scope.specs.Findings.{Finds}
use Rattle.hddl_scope.specs.Numbers.{Entries, number_at}
use Rattle.hddl_scope.specs.Repeats.{AreNamesOf, IsPastAfter, noted}
use Rattle.hddl_scope.proofs.Cuts.{cut_at}
use Rattle.hddl_scope.proofs.Finding.{Finds-some, Finds-none, none_from}
use Rattle.hddl_scope.proofs.Repeating.{snoc_cases}
use Rattle.hddl_scope.proofs.Positions.{of_distinct}

-- a text has a number exactly where it stands among the entries
any_number : (es : Entries) (t : Text) → is_some (number_at es t) ≡ list_any (is_same_text t) (map (λ e. e.0) es)
any_number [] t = refl
any_number (e ∷ es) t = by (is_same_text t e.0) (any_number es t)
  where
    by : (b : Bool) → is_some (number_at es t) ≡ list_any (is_same_text t) (map (λ e. e.0) es)
        → is_some (cond b (Some e.1) (number_at es t)) ≡ (b || list_any (is_same_text t) (map (λ e. e.0) es))
    by true rest = refl
    by false rest = rest

-- the entries of a list with one mention more: a new name is added
pub names-noted : (known : Entries) (ms : List Mention) (m : Mention) → AreNamesOf known ms → AreNamesOf (noted known m) (ms ++ m ∷ [])
names-noted known ms m are =
    by (is_some (number_at known m.text))
    ∙ (λ i. cond (test i) (are i) (are i ++ m.text ∷ []))
    ∙ sym (distinct_push (texts ms) m.text) ∙ ap distinct (sym (map-append (λ m. m.text) ms (m ∷ [])))
  where
    test : is_some (number_at known m.text) ≡ list_any (is_same_text m.text) (distinct (texts ms))
    test = any_number known m.text ∙ ap (list_any (is_same_text m.text)) are

    by : (b : Bool) → map (λ e. e.0) (cond b known (known ++ (m.text, m.place) ∷ [])) ≡ cond b (map (λ e. e.0) known) (map (λ e. e.0) known ++ m.text ∷ [])
    by true = refl
    by false = map-append (λ e. e.0) known ((m.text, m.place) ∷ [])

-- the same one mention further in the list
pub names-next : (known after : Entries) (first ms : List Mention) (k : ℕ) (m : Mention) → k < length ms → m ≡ get_or ms k m → after ≡ noted known m
    → AreNamesOf known (first ++ take k ms) → AreNamesOf after (first ++ take (k + 1) ms)
names-next known after first ms k m lt is put are =
    ap (map (λ e. e.0)) put ∙ names-noted known (first ++ take k ms) m are
    ∙ ap (λ l. distinct (texts l)) (append_assoc first (take k ms) (m ∷ []) ∙ ap (λ l. first ++ l) (ap (λ y. take k ms ++ y ∷ []) is ∙ sym (take_more ms k m lt)))

-- a name has no number exactly where it isn't mentioned
pub no_number : (known : Entries) (ms : List Mention) (t : Text) → AreNamesOf known ms → (number_at known t ≡ None) ↔ (IsIn t (texts ms) → ⊥)
no_number known ms t are = (
  λ none at. true≢false (sym (in_distinct (texts ms) t at) ∙ sym test ∙ ap is_some none),
  λ gone. none_from (number_at known t) (test ∙ by gone (list_any (is_same_text t) (distinct (texts ms))) refl),
)
  where
    test : is_some (number_at known t) ≡ list_any (is_same_text t) (distinct (texts ms))
    test = any_number known t ∙ ap (list_any (is_same_text t)) are

    by : (IsIn t (texts ms) → ⊥) → (b : Bool) → list_any (is_same_text t) (distinct (texts ms)) ≡ b → b ≡ false
    by gone true some = absurd (gone (of_distinct (texts ms) t some))
    by gone false none = refl

-- there are as many entries as distinct names
count : (known : Entries) (ms : List Mention) → AreNamesOf known ms → length known ≡ length (distinct (texts ms))
count known ms are = sym (length-map known (λ e. e.0)) ∙ ap length are

-- before the loop's position no name is past the limit
pub record Within (known : Entries) (first ms : List Mention) : Type 0 where
  pub names : AreNamesOf known (first ++ ms)
  pub none : (place : ℕ) → IsPastAfter first ms place → ⊥

-- before a list nothing is past the limit
pub Within-start : (known : Entries) (first : List Mention) → AreNamesOf known first → Within known first []
Within-start known first are = record {
  names = are ∙ ap (λ l. distinct (texts l)) (sym (append-nil first));
  none = nothing first;
}
  where
    nothing : (first : List Mention) (place : ℕ) → IsPastAfter first [] place → ⊥
    nothing first place ([], m, after, e, wide, new, at) = cc
    nothing first place (b ∷ bs, m, after, e, wide, new, at) = cc

-- a mention that is known, or not past the limit, leaves what was read within it
pub Within-next : (known after : Entries) (first ms : List Mention) (k : ℕ) (m : Mention) → k < length ms → m ≡ get_or ms k m → after ≡ noted known m
    → ((length known ≡ 65535) × (number_at known m.text ≡ None) → ⊥) → Within known first (take k ms) → Within after first (take (k + 1) ms)
Within-next known after first ms k m lt is put not w = record {
  names = names-next known after first ms k m lt is put w.names;
  none = λ place (before, second, rest, cut, wide, new, at).
      elim (snoc_cases (take k ms) m before second rest (ap (λ y. take k ms ++ y ∷ []) is ∙ sym (take_more ms k m lt) ∙ cut)) [
        | inl (all, last) ↦
            not (
              count known (first ++ take k ms) w.names ∙ ap (λ l. length (distinct (texts (first ++ l)))) (sym all) ∙ wide,
              (no_number known (first ++ take k ms) m.text w.names).1
                  (λ h. new (subst (λ (l : List Mention). IsIn second.text (texts (first ++ l))) (sym all) (subst (λ (y : Mention). IsIn y.text (texts (first ++ take k ms))) (sym last) h))),
            )
        | inr (more, e) ↦ w.none place (before, second, more, e, wide, new, at)
      ];
}

-- a new mention past the limit is the one that is found
pub Within-past : (known : Entries) (first ms : List Mention) (k : ℕ) (m : Mention) (place : ℕ) → k < length ms → m ≡ get_or ms k m
    → (length known ≡ 65535) × (number_at known m.text ≡ None) → place ≡ m.place → Within known first (take k ms) → Finds (IsPastAfter first ms) (Some place)
Within-past known first ms k m place lt is past at w =
    Finds-some place
    (take k ms, m, drop (k + 1) ms, cut_at ms k m lt is, sym (count known (first ++ take k ms) w.names) ∙ past.0, (no_number known (first ++ take k ms) m.text w.names).0 past.1, at)

-- a list all of which is within the limit has none past it
pub Within-end : (known : Entries) (first ms : List Mention) (k : ℕ) → length ms ≤ k → Within known first (take k ms) → Finds (IsPastAfter first ms) None
Within-end known first ms k le w = subst (λ l. Finds (IsPastAfter first l) None) (take_all k ms le) (Finds-none w.none)

-- ## One name is the first past the limit

-- a new text is one more
one_more : (ts : List Text) (t : Text) → (IsIn t ts → ⊥) → length (distinct (ts ++ t ∷ [])) ≡ length (distinct ts) + 1
one_more ts t new = by (list_any (is_same_text t) (distinct ts)) refl
  where
    by : (b : Bool) → list_any (is_same_text t) (distinct ts) ≡ b → length (distinct (ts ++ t ∷ [])) ≡ length (distinct ts) + 1
    by true some = absurd (new (of_distinct ts t some))
    by false none =
        ap length (distinct_push ts t ∙ ap (λ b. cond b (distinct ts) (distinct ts ++ t ∷ [])) none) ∙ length-append (distinct ts) (t ∷ [])

-- a text more leaves as many distinct ones or more
no_fewer : (ts us : List Text) → length (distinct ts) ≤ length (distinct (ts ++ us))
no_fewer ts [] = let same = ap (λ l. length (distinct l)) (append-nil ts) in omega (arith, same)
no_fewer ts (u ∷ us) =
    let more : length (distinct ts) ≤ length (distinct (ts ++ u ∷ [])) = by (list_any (is_same_text u) (distinct ts)) refl in
    let rest : length (distinct (ts ++ u ∷ [])) ≤ length (distinct (ts ++ u ∷ us)) =
    subst (λ l. length (distinct (ts ++ u ∷ [])) ≤ length (distinct l)) (append_assoc ts (u ∷ []) us) (no_fewer (ts ++ u ∷ []) us) in
    omega (arith, more, rest)
  where
    by : (b : Bool) → list_any (is_same_text u) (distinct ts) ≡ b → length (distinct ts) ≤ length (distinct (ts ++ u ∷ []))
    by true some = let e = ap length (distinct_push ts u ∙ ap (λ b. cond b (distinct ts) (distinct ts ++ u ∷ [])) some) in omega (arith, e)
    by false none =
        let e = ap length (distinct_push ts u ∙ ap (λ b. cond b (distinct ts) (distinct ts ++ u ∷ [])) none) ∙ length-append (distinct ts) (u ∷ []) in omega (arith, e)

-- of two cuts of a list one is in front of the other, or both are the same
two_cuts : {X : Type 0} (xs ys : List X) (x y : X) (us vs : List X) → xs ++ x ∷ us ≡ ys ++ y ∷ vs
    → (x ≡ y) ⊎ ((rest : List X) × (ys ≡ (xs ++ x ∷ []) ++ rest)) ⊎ ((rest : List X) × (xs ≡ (ys ++ y ∷ []) ++ rest))
two_cuts [] [] x y us vs e = inl cc
two_cuts [] (b ∷ ys) x y us vs e = inr (inl (ys, let same : x ≡ b = cc in ap (λ z. z ∷ ys) (sym same)))
two_cuts (a ∷ xs) [] x y us vs e = inr (inr (xs, let same : a ≡ y = cc in ap (λ z. z ∷ xs) same))
two_cuts (a ∷ xs) (b ∷ ys) x y us vs e =
    let same : a ≡ b = cc in
    elim (two_cuts xs ys x y us vs (let tails : xs ++ x ∷ us ≡ ys ++ y ∷ vs = cc in tails)) [
      | inl is ↦ inl is
      | inr (inl (rest, is)) ↦ inr (inl (rest, λ i. sym same i ∷ is i))
      | inr (inr (rest, is)) ↦ inr (inr (rest, λ i. same i ∷ is i))
    ]

module _ (first : List Mention) where
  -- a cut past the new mention has more names
  not_past : (before front rest : List Mention) (m : Mention) → front ≡ (before ++ m ∷ []) ++ rest → (IsIn m.text (texts (first ++ before)) → ⊥)
      → length (distinct (texts (first ++ before))) ≡ 65535 → length (distinct (texts (first ++ front))) ≡ 65535 → ⊥
  not_past before front rest m is new wide wide' =
      let all : texts (first ++ front) ≡ (texts (first ++ before) ++ m.text ∷ []) ++ texts rest =
      ap (λ l. texts (first ++ l)) is ∙ ap texts (sym (append_assoc first (before ++ m ∷ []) rest) ∙ ap (λ l. l ++ rest) (sym (append_assoc first before (m ∷ []))))
      ∙ map-append (λ (m : Mention). m.text) ((first ++ before) ++ m ∷ []) rest
      ∙ ap (λ l. l ++ texts rest) (map-append (λ (m : Mention). m.text) (first ++ before) (m ∷ [])) in
      let more = one_more (texts (first ++ before)) m.text new in
      let few = no_fewer (texts (first ++ before) ++ m.text ∷ []) (texts rest) in
      let e = ap (λ l. length (distinct l)) all in
      omega (arith, more, few, e, wide, wide')

  -- one mention is the first past the limit
  pub past_after_once : (ms : List Mention) (a b : ℕ) → IsPastAfter first ms a → IsPastAfter first ms b → b ≡ a
  past_after_once ms a b (before, m, after, cut, wide, new, at) (front, n, rest, cut', wide', new', at') =
      elim (two_cuts before front m n after rest (sym cut ∙ cut')) [
        | inl is ↦ at' ∙ ap (λ (x : Mention). x.place) (sym is) ∙ sym at
        | inr (inl (more, is)) ↦ absurd (not_past before front more m is new wide wide')
        | inr (inr (more, is)) ↦ absurd (not_past front before more n is new' wide' wide)
      ]
