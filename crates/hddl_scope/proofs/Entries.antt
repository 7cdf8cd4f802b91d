-- Numbers of texts, in a map and in the list that contracts see.
use Rattle.std.proofs.Common.{◌≡◌, ◌∙◌, ◌<◌, ◌+◌, ◌-◌, ℕ, zero, suc, Bool, true, false, List, [], ◌∷◌, ◌++◌, Vec, Option, Some, None, cond, is_some, inl, inr, refl, ap, sym, subst, take, get_or, length, append_assoc, arith}
use Rattle.std.specs.Map.{lookup}
use Rattle.std.proofs.lemmas.Bool.{cases_lt}
use Rattle.std.proofs.lemmas.List.{append-nil, length-map, length-take, map-append, take-map, take_all, take_more}
use Rattle.hddl_meaning.specs.Mentions.{Text}
use Rattle.hddl_meaning.specs.Names.{is_same_text}
use Rattle.hddl_scope.specs.Numbers.{Entries, number_at, entries_of, numbered}
use Rattle.hddl_scope.specs.declared.numbers.Numbered.{Numbered}

-- a text has the number in the map that it has in the entries
pub number_at-entries : {A : Type 0} (es : List (Vec ℕ A × ℕ)) (t : Text) → lookup (λ v. is_same_text t v.items) es ≡ number_at (entries_of es) t
number_at-entries [] t = refl
number_at-entries (e ∷ es) t = ap (λ r. cond (is_same_text t e.0.items) (Some e.1) r) (number_at-entries es t)

-- an entry put at the end of the map is put at the end of the entries
pub entries_of-added : {A : Type 0} (es : List (Vec ℕ A × ℕ)) (k : Vec ℕ A) (n : ℕ) → entries_of (es ++ (k, n) ∷ []) ≡ entries_of es ++ (k.items, n) ∷ []
entries_of-added es k n = map-append (λ e. (e.0.items, e.1)) es ((k, n) ∷ [])

-- the first of the map are the first entries
pub entries_of-take : {A : Type 0} (n : ℕ) (es : List (Vec ℕ A × ℕ)) → entries_of (take n es) ≡ take n (entries_of es)
entries_of-take n es = sym (take-map (λ e. (e.0.items, e.1)) n es)

-- the number of a text in two lists is the one in the first, or else in the second
pub number_at-append : (es fs : Entries) (t : Text) → number_at (es ++ fs) t ≡ cond (is_some (number_at es t)) (number_at es t) (number_at fs t)
number_at-append [] fs t = refl
number_at-append (e ∷ es) fs t = by (is_same_text t e.0) (number_at-append es fs t)
  where
    by : (b : Bool) → number_at (es ++ fs) t ≡ cond (is_some (number_at es t)) (number_at es t) (number_at fs t)
        → cond b (Some e.1) (number_at (es ++ fs) t)
        ≡ cond (is_some (cond b (Some e.1) (number_at es t))) (cond b (Some e.1) (number_at es t)) (number_at fs t)
    by true rest = refl
    by false rest = rest

-- the first of two lists, and of the second those that are left over
pub take-append : {X : Type 0} (n : ℕ) (xs ys : List X) → take n (xs ++ ys) ≡ take n xs ++ take (n - length xs) ys
take-append zero [] ys = refl
take-append zero (x ∷ xs) ys = let none : 0 ≡ 0 - length (x ∷ xs) = omega arith in ap (λ k. take k ys) none
take-append (suc n) [] ys = let all : suc n ≡ suc n - 0 = omega arith in ap (λ k. take k ys) all
take-append (suc n) (x ∷ xs) ys =
    let left : n - length xs ≡ suc n - length (x ∷ xs) = omega arith in
    ap (λ l. x ∷ l) (take-append n xs ys) ∙ ap (λ k. x ∷ (take n xs ++ take k ys)) left

-- ## A few texts, one after the other

-- a text that none of the first has isn't had by one more where that differs
pub none_more : (ns : List Numbered) (t : Text) (k : ℕ) (n : Numbered) → k < length ns → n ≡ get_or ns k n → number_at (numbered (take k ns)) t ≡ None
    → is_same_text t n.text.items ≡ false → number_at (numbered (take (k + 1) ns)) t ≡ None
none_more ns t k n lt is none differs =
    let entry : Numbered → Text × ℕ = λ n. (n.text.items, n.number) in
    ap (λ l. number_at (numbered l) t) (take_more ns k n lt ∙ ap (λ m. take k ns ++ m ∷ []) (sym is))
    ∙ ap (λ es. number_at es t) (map-append entry (take k ns) (n ∷ []))
    ∙ number_at-append (numbered (take k ns)) (entry n ∷ []) t
    ∙ ap (λ o. cond (is_some o) o (cond (is_same_text t n.text.items) (Some n.number) None)) none
    ∙ ap (λ b. cond b (Some n.number) None) differs

-- a text that none of the first has has the number of the next where that is the same
pub first_of_few : (ns : List Numbered) (t : Text) (k : ℕ) (n : Numbered) → k < length ns → n ≡ get_or ns k n → number_at (numbered (take k ns)) t ≡ None
    → is_same_text t n.text.items ≡ true → number_at (numbered ns) t ≡ Some n.number
first_of_few [] t k n lt is none same = absurd (omega (arith, lt))
first_of_few (m ∷ ns) t zero n lt is none same =
    subst (λ (x : Numbered). cond (is_same_text t x.text.items) (Some x.number) (number_at (numbered ns) t) ≡ Some n.number) is
    (ap (λ b. cond b (Some n.number) (number_at (numbered ns) t)) same)
first_of_few (m ∷ ns) t (suc k) n lt is none same = by (is_same_text t m.text.items) none (first_of_few ns t k n (omega (arith, lt)) is)
  where
    by : (b : Bool) → cond b (Some m.number) (number_at (numbered (take k ns)) t) ≡ None
        → (number_at (numbered (take k ns)) t ≡ None → is_same_text t n.text.items ≡ true → number_at (numbered ns) t ≡ Some n.number)
        → cond b (Some m.number) (number_at (numbered ns) t) ≡ Some n.number
    by true e rest = cc
    by false e rest = rest e same

-- ## The first few, and the others

-- a text that none of two lists has isn't in the second
pub absent_after : (es fs : Entries) (t : Text) → number_at (es ++ fs) t ≡ None → number_at fs t ≡ None
absent_after es fs t none = by (number_at es t) (sym (number_at-append es fs t) ∙ none)
  where
    by : (o : Option ℕ) → cond (is_some o) o (number_at fs t) ≡ None → number_at fs t ≡ None
    by (Some n) e = cc
    by None e = e

-- one more of the first few is the last of all, where there are no others
pub added_first : {A : Type 0} (few : List Numbered) (rest : List (Vec ℕ A × ℕ)) (n : Numbered) → rest ≡ []
    → numbered (few ++ n ∷ []) ++ entries_of rest ≡ (numbered few ++ entries_of rest) ++ (n.text.items, n.number) ∷ []
added_first {A} few rest n none =
    let entry : Numbered → Text × ℕ = λ n. (n.text.items, n.number) in
    subst (λ (r : List (Vec ℕ A × ℕ)). numbered (few ++ n ∷ []) ++ entries_of r ≡ (numbered few ++ entries_of r) ++ entry n ∷ []) (sym none)
    (append-nil (numbered (few ++ n ∷ [])) ∙ map-append entry few (n ∷ []) ∙ ap (λ l. l ++ entry n ∷ []) (sym (append-nil (numbered few))))

-- one more of the others is the last of all
pub added_later : {A : Type 0} (es : Entries) (rest : List (Vec ℕ A × ℕ)) (k : Vec ℕ A) (n : ℕ)
    → es ++ entries_of (rest ++ (k, n) ∷ []) ≡ (es ++ entries_of rest) ++ (k.items, n) ∷ []
added_later es rest k n = ap (λ l. es ++ l) (entries_of-added rest k n) ∙ sym (append_assoc es (entries_of rest) ((k.items, n) ∷ []))

-- the first of all are the first of the few, and of the others those that are left over
pub first_of_all : {A : Type 0} (n : ℕ) (few : List Numbered) (rest : List (Vec ℕ A × ℕ))
    → numbered (take n few) ++ entries_of (take (n - length few) rest) ≡ take n (numbered few ++ entries_of rest)
first_of_all n few rest =
    let entry : Numbered → Text × ℕ = λ n. (n.text.items, n.number) in
    (λ i. sym (take-map entry n few) i ++ entries_of-take (n - length few) rest i)
    ∙ ap (λ k. take n (numbered few) ++ take (n - k) (entries_of rest)) (sym (length-map few entry))
    ∙ sym (take-append n (numbered few) (entries_of rest))

-- where fewer than the limit are left of the few, none of the others is
pub few_left : {X Y : Type 0} (limit n : ℕ) (few : List X) (rest : List Y) → (length few < limit → rest ≡ []) → length (take n few) < limit
    → take (n - length few) rest ≡ []
few_left limit n few rest none lt = elim (cases_lt (length few) limit) [
  | inl less ↦ ap (λ r. take (n - length few) r) (none less) ∙ take_all (n - length few) [] (omega arith)
  | inr full ↦ let over : n - length few ≡ 0 = omega (arith, length-take n few, lt, full) in ap (λ k. take k rest) over
]
