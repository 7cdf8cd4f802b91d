-- The bars of a row from its positions.
use Rattle.std.proofs.Common.{◌≡◌, ℕ, zero, suc, ◌+◌, ◌<◌, true, false, List, [], ◌∷◌, length, get_or, drop, inl, inr, refl, sym, ap, ◌∙◌, subst, arith}
use Rattle.std.specs.List.{All}
use Rattle.std.specs.List.Sorted.{IsPermutation, IsNonDecreasing}
use Rattle.std.proofs.lemmas.List.Sorted.{All-permutation, IsPermutation-sym}
use Rattle.htn_model.specs.PlanFile.{IsIn}
use Rattle.plan_picture.specs.declared.row.Row.{Row as DeclaredRow}
use Rattle.plan_picture.specs.Seen.{seen, seen_all}
use Rattle.picture_html.specs.declared.bars.Bar.{Bar}
use Rattle.picture_html.specs.Bars.{AreRuns, has_bars}
use Rattle.picture_html.specs.Runs.{deeper, own_rows, positions, runs_of, AreFound, AreFoundFirst}
use Rattle.picture_html.proofs.Covering.{ascend, runs_are, same_runs}
use Rattle.picture_html.proofs.Positions.{own_row}

in_get : (numbers : List ℕ) (k d : ℕ) → k < length numbers → IsIn (get_or numbers k d) numbers
in_get [] k d h = absurd (omega arith)
in_get (n ∷ numbers) zero d h = inl refl
in_get (n ∷ numbers) (suc k) d h = inr (in_get numbers k d (omega arith))

at_get : (P : ℕ → Type 0) (numbers : List ℕ) → All P numbers → (n : ℕ) → IsIn n numbers → P n
at_get P [] all n i = absurd i
at_get P (x ∷ numbers) all n (inl same) = subst P (sym same) (all 0 x (omega arith))
at_get P (x ∷ numbers) all n (inr i) = at_get P numbers (λ k d h. all (suc k) d (omega arith)) n i

among : (xs ys : List ℕ) → IsPermutation xs ys → (n : ℕ) → IsIn n ys → IsIn n xs
among xs ys moved n i = at_get (λ m. IsIn m xs) ys (All-permutation (λ m. IsIn m xs) xs ys moved (λ k d h. in_get xs k d h)) n i

module _ (actions : ℕ) (rows : List DeclaredRow) (place : ℕ) (r : DeclaredRow) where
  pub found_first : (found sorted : List ℕ) (bars : List Bar) → place < length rows → r ≡ get_or rows place r → has_bars actions (seen r) ≡ true
      → found ≡ positions actions (own_rows (drop place (seen_all rows))) → IsPermutation found sorted → IsNonDecreasing sorted → bars ≡ runs_of sorted
      → AreFoundFirst actions (drop place (seen_all rows)) bars
  found_first found sorted bars low is has are moved up bars_are =
      let rest = drop (place + 1) (seen_all rows) in
      let more = own_row rows place r low is in
      let all : found ≡ positions actions (seen r ∷ deeper r.depth rest) = are ∙ ap (λ rs. positions actions (own_rows rs)) more in
      let runs : AreRuns (λ n. IsIn n sorted) bars = subst (AreRuns (λ n. IsIn n sorted)) (sym bars_are) (runs_are sorted (ascend sorted up)) in
      let here : AreFound actions (seen r) rest bars = record {
        drawn = λ h.
            same_runs (λ n. IsIn n sorted) (λ n. IsIn n (positions actions (seen r ∷ deeper r.depth rest)))
            (λ n i. subst (IsIn n) all (among found sorted moved n i)) (λ n i. among sorted found (IsPermutation-sym found sorted moved) n (subst (IsIn n) (sym all) i)) bars runs;
        left_out = λ h. absurd cc;
      } in
      subst (λ rs. AreFoundFirst actions rs bars) (sym more) here

  pub none_first : (bars : List Bar) → place < length rows → r ≡ get_or rows place r → has_bars actions (seen r) ≡ false → bars ≡ [] → AreFoundFirst actions (drop place (seen_all rows)) bars
  none_first bars low is has none =
      let rest = drop (place + 1) (seen_all rows) in
      let here : AreFound actions (seen r) rest bars = record {
        drawn = λ h. absurd cc;
        left_out = λ h. none;
      } in
      subst (λ rs. AreFoundFirst actions rs bars) (sym (own_row rows place r low is)) here
