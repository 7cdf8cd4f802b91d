-- There is one list of bars over the maximal runs of some numbers.
use Rattle.std.proofs.Common.{◌≡◌, ℕ, suc, ◌<◌, ◌≤◌, List, [], ◌∷◌, inl, inr, refl, sym, ap, ap₂, subst, arith}
use Rattle.std.proofs.lemmas.Bool.{cases_lt}
use Rattle.htn_model.specs.PlanFile.{IsIn}
use Rattle.picture_html.specs.declared.bars.Bar.{Bar}
use Rattle.picture_html.specs.Bars.{Covers, IsRun, AreRuns}

module _ (P : ℕ → Type 0) where
  -- no number is before the first bar
  first_least : (bar : Bar) (bars : List Bar) → AreRuns P (bar ∷ bars) → (n : ℕ) → P n → bar.first ≤ n
  first_least bar bars are n p = by (are.all n p).0 (are.all n p).1 (are.all n p).2
    where
      by : (b : Bar) → IsIn b (bar ∷ bars) → Covers b n → bar.first ≤ n
      by b (inl same) c = let e : b.first ≡ bar.first = ap (λ (x : Bar). x.first) same in let low : b.first ≤ n = c.0 in omega arith
      by b (inr later) c =
          let after : bar.last < b.first = are.order.0 b later in let some : bar.first ≤ bar.last = (are.runs bar (inl refl)).some in let low : b.first ≤ n = c.0 in omega arith

  begins : (bar : Bar) (bars : List Bar) → AreRuns P (bar ∷ bars) → P bar.first
  begins bar bars are = (are.runs bar (inl refl)).all bar.first ((let e : bar.first ≤ bar.first = omega arith in e), (are.runs bar (inl refl)).some)

  -- a run ends where another does that begins with it
  no_further : (a b : Bar) (ps qs : List Bar) → AreRuns P (a ∷ ps) → AreRuns P (b ∷ qs) → a.first ≡ b.first → a.last < b.last → ⊥
  no_further a b ps qs one two same less =
      let some : a.first ≤ a.last = (are_run a ps one).some in
      let low : b.first ≤ suc a.last = omega arith in
      let top : suc a.last ≤ b.last = omega arith in
      (are_run a ps one).ends ((are_run b qs two).all (suc a.last) (low, top))
    where
      are_run : (c : Bar) (cs : List Bar) → AreRuns P (c ∷ cs) → IsRun P c
      are_run c cs are = are.runs c (inl refl)

  same_first : (a b : Bar) (ps qs : List Bar) → AreRuns P (a ∷ ps) → AreRuns P (b ∷ qs) → a.first ≡ b.first
  same_first a b ps qs one two =
      let low : a.first ≤ b.first = first_least a ps one b.first (begins b qs two) in
      let high : b.first ≤ a.first = first_least b qs two a.first (begins a ps one) in
      omega arith

  same_last : (a b : Bar) (ps qs : List Bar) → AreRuns P (a ∷ ps) → AreRuns P (b ∷ qs) → a.last ≡ b.last
  same_last a b ps qs one two =
      let first : a.first ≡ b.first = same_first a b ps qs one two in
      elim (cases_lt a.last b.last) [
        | inl less ↦ absurd (no_further a b ps qs one two first less)
        | inr more ↦ elim (cases_lt b.last a.last) [
          | inl less ↦ absurd (no_further b a qs ps two one (let e : b.first ≡ a.first = omega arith in e) less)
          | inr other ↦ omega arith
        ]
      ]

  -- the later bars are over the runs of the later numbers
  later : (bar : Bar) (bars : List Bar) → AreRuns P (bar ∷ bars) → AreRuns (λ n. P n × (bar.last < n)) bars
  later bar bars are = record {
    runs = λ b i. record {
      some = (are.runs b (inr i)).some;
      all = λ n c. ((are.runs b (inr i)).all n c, (let after : bar.last < b.first = are.order.0 b i in let low : b.first ≤ n = c.0 in omega arith));
      begins = λ n e p. (are.runs b (inr i)).begins n e p.0;
      ends = λ p. (are.runs b (inr i)).ends p.0;
    };
    all = λ n p. by n p.1 (are.all n p.0).0 (are.all n p.0).1 (are.all n p.0).2;
    order = are.order.1;
  }
    where
      by : (n : ℕ) → bar.last < n → (b : Bar) → IsIn b (bar ∷ bars) → Covers b n → (x : Bar) × IsIn x bars × Covers x n
      by n more b (inl same) c = let e : b.last ≡ bar.last = ap (λ (x : Bar). x.last) same in let top : n ≤ b.last = c.1 in absurd (omega arith)
      by n more b (inr i) c = (b, i, c)

same_bar : (a b : Bar) → a.first ≡ b.first → a.last ≡ b.last → a ≡ b
same_bar a b e f = ap₂ (λ x y. (let bar : Bar = record { first = x; last = y } in bar)) e f

pub one_runs : (P : ℕ → Type 0) (ps qs : List Bar) → AreRuns P ps → AreRuns P qs → ps ≡ qs
one_runs P [] [] one two = refl
one_runs P [] (b ∷ qs) one two = absurd (one.all b.first (begins P b qs two)).1
one_runs P (a ∷ ps) [] one two = absurd (two.all a.first (begins P a ps one)).1
one_runs P (a ∷ ps) (b ∷ qs) one two =
    let same = same_bar a b (same_first P a b ps qs one two) (same_last P a b ps qs one two) in
    let rest = later P b qs two in
    ap₂ (λ x xs. x ∷ xs) same (one_runs (λ n. P n × (a.last < n)) ps qs (later P a ps one) (subst (λ (x : Bar). AreRuns (λ n. P n × (x.last < n)) qs) (sym same) rest))
