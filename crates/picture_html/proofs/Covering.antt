-- Bars over ascending numbers are exactly the maximal runs.
use Rattle.std.proofs.Common.{◌≡◌, ℕ, suc, ◌-◌, ◌<◌, ◌≤◌, Bool, true, false, nat_lt, nat_eq, cond, List, [], ◌∷◌, length, get_or, ◌⊎◌, inl, inr, refl, sym, ap, ◌∙◌, subst, arith}
use Rattle.std.proofs.lemmas.Bool.{cases_eq, ltb-true, ltb-false, eqb-true, eqb-false}
use Rattle.std.specs.List.Sorted.{IsNonDecreasing}
use Rattle.htn_model.specs.PlanFile.{IsIn}
use Rattle.picture_html.specs.declared.bars.Bar.{Bar}
use Rattle.picture_html.specs.Bars.{Covers, IsRun, AreRuns}
use Rattle.picture_html.specs.Runs.{single, with_number, runs_of}

-- ## Numbers in order

-- none of some numbers is less
abbrev pub IsLow : ℕ → List ℕ → Type 0
IsLow n numbers = (m : ℕ) → IsIn m numbers → n ≤ m

-- none is less than one before it
abbrev pub Ascend : List ℕ → Type 0
Ascend [] = Unit {0}
Ascend (n ∷ numbers) = IsLow n numbers × Ascend numbers

low_at : (n : ℕ) (numbers : List ℕ) → ((j : ℕ) → j < length numbers → n ≤ get_or numbers j 0) → IsLow n numbers
low_at n [] low m i = absurd i
low_at n (x ∷ numbers) low m (inl same) = subst (λ k. n ≤ k) (sym same) (low 0 (omega arith))
low_at n (x ∷ numbers) low m (inr i) = low_at n numbers (λ j h. low (suc j) (omega arith)) m i

pub ascend : (numbers : List ℕ) → IsNonDecreasing numbers → Ascend numbers
ascend [] h = tt
ascend (n ∷ numbers) h = (low_at n numbers (λ j low. h 0 (suc j) 0 (omega arith) (omega arith)), ascend numbers (λ i j d low high. h (suc i) (suc j) d (omega arith) (omega arith)))

-- ## The same runs

same_run : (P Q : ℕ → Type 0) → ((n : ℕ) → P n → Q n) → ((n : ℕ) → Q n → P n) → (bar : Bar) → IsRun P bar → IsRun Q bar
same_run P Q to from bar is = record {
  some = is.some;
  all = λ n c. to n (is.all n c);
  begins = λ n e q. is.begins n e (from n q);
  ends = λ q. is.ends (from (suc bar.last) q);
}

-- the runs are the same where the same is so
pub same_runs : (P Q : ℕ → Type 0) → ((n : ℕ) → P n → Q n) → ((n : ℕ) → Q n → P n) → (bars : List Bar) → AreRuns P bars → AreRuns Q bars
same_runs P Q to from bars are = record {
  runs = λ bar i. same_run P Q to from bar (are.runs bar i);
  all = λ n q. are.all n (from n q);
  order = are.order;
}

-- ## One number more

no_bars : (numbers : List ℕ) → AreRuns (λ n. IsIn n numbers) [] → (m : ℕ) → IsIn m numbers → ⊥
no_bars numbers are m i = (are.all m i).1

at_least : (a b : ℕ) → a ≡ b → a ≤ b
at_least a b e = omega arith

at_most : (a b : ℕ) → a ≡ b → b ≤ a
at_most a b e = omega arith

both_ends : (m n : ℕ) → n ≤ m → m ≤ n → m ≡ n
both_ends m n low top = omega arith

alone : (n : ℕ) (numbers : List ℕ) → ((m : ℕ) → IsIn m numbers → (n < m) × (suc n < m)) → IsRun (λ m. IsIn m (n ∷ numbers)) (single n)
alone n numbers high = record {
  some = at_least n n refl;
  all = λ m c. inl (both_ends m n c.0 c.1);
  begins = λ m e i. before m e i;
  ends = λ i. after i;
}
  where
    before : (m : ℕ) → suc m ≡ n → IsIn m (n ∷ numbers) → ⊥
    before m e (inl same) = omega arith
    before m e (inr i) = let more : n < m = (high m i).0 in omega arith

    after : IsIn (suc n) (n ∷ numbers) → ⊥
    after (inl same) = omega arith
    after (inr i) = let more : suc n < suc n = (high (suc n) i).1 in omega arith

one_bar : (n : ℕ) (numbers : List ℕ) → AreRuns (λ m. IsIn m numbers) [] → AreRuns (λ m. IsIn m (n ∷ numbers)) (single n ∷ [])
one_bar n numbers are = record {
  runs = λ bar i. elim i [
    | inl same ↦ subst (IsRun (λ m. IsIn m (n ∷ numbers))) (sym same) (alone n numbers (λ m j. absurd (no_bars numbers are m j)))
    | inr i ↦ absurd i
  ];
  all = λ m i. elim i [
    | inl same ↦ (single n, inl refl, (at_most m n same, at_least m n same))
    | inr j ↦ absurd (no_bars numbers are m j)
  ];
  order = ((λ next i. absurd i), tt);
}

module _ (n : ℕ) (numbers : List ℕ) (bar : Bar) (bars : List Bar) (are : AreRuns (λ m. IsIn m numbers) (bar ∷ bars)) where
  own : IsRun (λ m. IsIn m numbers) bar
  own = are.runs bar (inl refl)

  -- each number is at or after the first bar's first
  high : (m : ℕ) → IsIn m numbers → bar.first ≤ m
  high m i = by (are.all m i).0 (are.all m i).1 (are.all m i).2
    where
      by : (b : Bar) → IsIn b (bar ∷ bars) → Covers b m → bar.first ≤ m
      by b (inl same) c = let e : b.first ≡ bar.first = ap (λ (x : Bar). x.first) same in let low : b.first ≤ m = c.0 in omega arith
      by b (inr later) c = let after : bar.last < b.first = are.order.0 b later in let some : bar.first ≤ bar.last = own.some in let low : b.first ≤ m = c.0 in omega arith

  -- so is each later bar, after the first bar's last
  later_first : (b : Bar) → IsIn b bars → bar.last < b.first
  later_first b i = are.order.0 b i

  -- where the number is just before the first bar
  abbrev wider : Bar
  wider = record { first = n; last = bar.last }

  joined : suc n ≡ bar.first → IsLow n numbers → AreRuns (λ m. IsIn m (n ∷ numbers)) (wider ∷ bars)
  joined next low = record {
    runs = λ b i. elim i [ inl same ↦ subst (IsRun (λ m. IsIn m (n ∷ numbers))) (sym same) first_run | inr later ↦ later_run b later ];
    all = λ m i. covering m i;
    order = are.order;
  }
    where
      some : bar.first ≤ bar.last
      some = own.some

      within : (m : ℕ) → n ≤ m → m ≤ bar.last → (m ≡ n) ⊎ (m ≡ n → ⊥) → IsIn m (n ∷ numbers)
      within m low top (inl same) = inl same
      within m low top (inr other) = inr (own.all m ((omega arith), top))

      start : (m : ℕ) → suc m ≡ n → IsIn m (n ∷ numbers) → ⊥
      start m e (inl same) = omega arith
      start m e (inr i) = let h : n ≤ m = low m i in omega arith

      finish : IsIn (suc bar.last) (n ∷ numbers) → ⊥
      finish (inl same) = let long = some in omega arith
      finish (inr i) = own.ends i

      long : n ≤ bar.last
      long = let most = some in omega arith

      first_run : IsRun (λ m. IsIn m (n ∷ numbers)) wider
      first_run = record {
        some = long;
        all = λ m c. within m c.0 c.1 (cases_eq m n);
        begins = start;
        ends = finish;
      }

      later_begin : (b : Bar) → IsIn b bars → (m : ℕ) → suc m ≡ b.first → IsIn m (n ∷ numbers) → ⊥
      later_begin b i m e (inl same) = let h : bar.last < b.first = later_first b i in let most = some in omega arith
      later_begin b i m e (inr j) = (are.runs b (inr i)).begins m e j

      later_end : (b : Bar) → IsIn b bars → IsIn (suc b.last) (n ∷ numbers) → ⊥
      later_end b i (inl same) = let h : bar.last < b.first = later_first b i in let most = some in let more : b.first ≤ b.last = (are.runs b (inr i)).some in omega arith
      later_end b i (inr j) = (are.runs b (inr i)).ends j

      later_run : (b : Bar) → IsIn b bars → IsRun (λ m. IsIn m (n ∷ numbers)) b
      later_run b i = record {
        some = (are.runs b (inr i)).some;
        all = λ m c. inr ((are.runs b (inr i)).all m c);
        begins = later_begin b i;
        ends = later_end b i;
      }

      again : (m : ℕ) (b : Bar) → IsIn b (bar ∷ bars) → b.first ≤ m → m ≤ b.last → (x : Bar) × IsIn x (wider ∷ bars) × Covers x m
      again m b (inl same) low top =
          let e : b.first ≡ bar.first = ap (λ (x : Bar). x.first) same in
          let f : b.last ≡ bar.last = ap (λ (x : Bar). x.last) same in
          let after : n ≤ m = omega arith in
          let before : m ≤ bar.last = omega arith in
          (wider, inl refl, (after, before))
      again m b (inr i) low top = (b, inr i, (low, top))

      covering : (m : ℕ) → IsIn m (n ∷ numbers) → (x : Bar) × IsIn x (wider ∷ bars) × Covers x m
      covering m (inl same) =
          let most = long in let after : n ≤ m = omega arith in let before : m ≤ bar.last = omega arith in (wider, inl refl, (after, before))
      covering m (inr j) = again m (are.all m j).0 (are.all m j).1 (are.all m j).2.0 (are.all m j).2.1

  -- where it is further before it
  apart : suc n < bar.first → AreRuns (λ m. IsIn m (n ∷ numbers)) (single n ∷ bar ∷ bars)
  apart next = record {
    runs = λ b i. elim i [ inl same ↦ subst (IsRun (λ m. IsIn m (n ∷ numbers))) (sym same) (alone n numbers further) | inr later ↦ later_run b later ];
    all = λ m i. covering m i;
    order = ((λ b i. first_of b i), are.order);
  }
    where
      further : (m : ℕ) → IsIn m numbers → (n < m) × (suc n < m)
      further m j = let h : bar.first ≤ m = high m j in ((omega arith), (omega arith))

      far : (b : Bar) → IsIn b (bar ∷ bars) → suc n < b.first
      far b (inl same) = let e : b.first ≡ bar.first = ap (λ (x : Bar). x.first) same in omega arith
      far b (inr i) = let h : bar.last < b.first = later_first b i in let some : bar.first ≤ bar.last = own.some in omega arith

      first_of : (b : Bar) → IsIn b (bar ∷ bars) → n < b.first
      first_of b i = let h : suc n < b.first = far b i in omega arith

      later_begin : (b : Bar) → IsIn b (bar ∷ bars) → (m : ℕ) → suc m ≡ b.first → IsIn m (n ∷ numbers) → ⊥
      later_begin b i m e (inl same) = let h : suc n < b.first = far b i in omega arith
      later_begin b i m e (inr j) = (are.runs b i).begins m e j

      later_end : (b : Bar) → IsIn b (bar ∷ bars) → IsIn (suc b.last) (n ∷ numbers) → ⊥
      later_end b i (inl same) = let h : suc n < b.first = far b i in let some : b.first ≤ b.last = (are.runs b i).some in omega arith
      later_end b i (inr j) = (are.runs b i).ends j

      later_run : (b : Bar) → IsIn b (bar ∷ bars) → IsRun (λ m. IsIn m (n ∷ numbers)) b
      later_run b i = record {
        some = (are.runs b i).some;
        all = λ m c. inr ((are.runs b i).all m c);
        begins = later_begin b i;
        ends = later_end b i;
      }

      covering : (m : ℕ) → IsIn m (n ∷ numbers) → (x : Bar) × IsIn x (single n ∷ bar ∷ bars) × Covers x m
      covering m (inl same) = (single n, inl refl, (at_most m n same, at_least m n same))
      covering m (inr j) = ((are.all m j).0, inr (are.all m j).1, (are.all m j).2)

  -- where it is covered
  covered : bar.first ≤ n → IsLow n numbers → AreRuns (λ m. IsIn m (n ∷ numbers)) (bar ∷ bars)
  covered there low = same_runs (λ m. IsIn m numbers) (λ m. IsIn m (n ∷ numbers)) (λ m i. inr i) back (bar ∷ bars) are
    where
      some : bar.first ≤ bar.last
      some = own.some

      here : IsIn bar.first numbers
      here = own.all bar.first (at_least bar.first bar.first refl, some)

      same_number : bar.first ≡ n
      same_number = let least : n ≤ bar.first = low bar.first here in omega arith

      back : (m : ℕ) → IsIn m (n ∷ numbers) → IsIn m numbers
      back m (inl e) = subst (λ k. IsIn k numbers) (same_number ∙ sym e) here
      back m (inr i) = i

  with_more : IsLow n numbers → (p q : Bool) → nat_lt n bar.first ≡ p → nat_eq (bar.first - n) 1 ≡ q
      → AreRuns (λ m. IsIn m (n ∷ numbers)) (cond p (cond q (wider ∷ bars) (single n ∷ bar ∷ bars)) (bar ∷ bars))
  with_more low true true e f = joined (let less = ltb-true n bar.first e in let one = eqb-true (bar.first - n) 1 f in omega arith) low
  with_more low true false e f = apart (let less = ltb-true n bar.first e in let other = eqb-false (bar.first - n) 1 f in omega arith)
  with_more low false q e f = covered (ltb-false n bar.first e) low

one_more : (n : ℕ) (numbers : List ℕ) (bars : List Bar) → AreRuns (λ m. IsIn m numbers) bars → IsLow n numbers → AreRuns (λ m. IsIn m (n ∷ numbers)) (with_number n bars)
one_more n numbers [] are low = one_bar n numbers are
one_more n numbers (bar ∷ bars) are low = with_more n numbers bar bars are low (nat_lt n bar.first) (nat_eq (bar.first - n) 1) refl refl

pub runs_are : (numbers : List ℕ) → Ascend numbers → AreRuns (λ n. IsIn n numbers) (runs_of numbers)
runs_are [] up = record {
  runs = λ bar i. absurd i;
  all = λ n i. absurd i;
  order = tt;
}
runs_are (n ∷ numbers) up = one_more n numbers (runs_of numbers) (runs_are numbers up.1) up.0
