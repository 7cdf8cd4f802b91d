-- What is said of two parts of a slice is said of the whole, and the other way round.
use mathlib.Core.Path.{◌≡◌, refl, sym, subst, ap, ◌∙◌}
use mathlib.Core.List.{List, ◌++◌}
use mathlib.Core.Logic.{⊎_elim}
use Prim.Native.Nat.{ℕ, ◌+◌, ◌-◌}
use native.Mathlib.Omega.{arith}
use lib.ListN.{length, get_or}
use Rattle.std.proofs.lemmas.List.{get_or_append_left, get_or-append-add, length-append}
use Rattle.std.proofs.lemmas.Bool.{cases_lt}
use Rattle.workers.specs.Parts.{IsChanged, IsReady}

module _ {T : Type 0} (P : ℕ → T → Type 0) where
  -- a part at the back of what is ready is ready, at its place
  pub ready_back : (first next : ℕ) (all xs ys : List T) → all ≡ xs ++ ys → next ≡ first + length xs → IsReady P first all → IsReady P next ys
  ready_back first next all xs ys e w r =
      let sum : length all ≡ length xs + length ys = ap length e ∙ length-append xs ys in
      record {
        room = omega (arith, r.room);
        each = λ k d l. subst (λ n. P n (get_or ys k d)) {x = first + (length xs + k)} (omega arith)
            (subst (P (first + (length xs + k))) (ap (λ v. get_or v (length xs + k) d) e ∙ get_or-append-add xs ys k d)
            (r.each (length xs + k) d (omega arith)));
      }

-- a relation at equal places and elements
pub moved : {X : Type 0} (R : ℕ → X → X → Type 0) {i j : ℕ} {x x' y y' : X} → i ≡ j → x ≡ x' → y ≡ y' → R i x y → R j x' y'
moved R {i} {j} {x} {x'} {y} {y'} a b c r =
    subst (λ k. R k x' y') a (subst (λ u. R i u y') b (subst (R i x) c r))

module _ {T : Type 0} (R : ℕ → T → T → Type 0) where
  -- two parts that are changed are changed together
  pub changed_both : (first next : ℕ) (all xs ys xs' ys' : List T) → all ≡ xs ++ ys → next ≡ first + length xs → IsChanged R first xs xs' → IsChanged R next ys ys' → IsChanged R first all (xs' ++ ys')
  changed_both first next all xs ys xs' ys' e w a b =
      let sum : length all ≡ length xs + length ys = ap length e ∙ length-append xs ys in
      record {
        len = length-append xs' ys' ∙ omega (arith, a.len, b.len);
        each = λ k d l. ⊎_elim
            (λ u. moved R refl
            (sym (ap (λ v. get_or v k d) e ∙ get_or_append_left xs ys d k u))
            (sym (get_or_append_left xs' ys' d k (omega (arith, a.len))))
            (a.each k d u))
            (λ u. let m = k - length xs in
            let back : length xs + m ≡ k = omega arith in
            let back' : length xs' + m ≡ k = omega (arith, a.len) in
            moved R {i = next + m} (omega arith)
            (sym (ap (λ v. get_or v k d) e ∙ ap (λ n. get_or (xs ++ ys) n d) (sym back) ∙ get_or-append-add xs ys m d))
            (sym (ap (λ n. get_or (xs' ++ ys') n d) (sym back') ∙ get_or-append-add xs' ys' m d))
            (b.each m d (omega arith)))
            (cases_lt k (length xs));
      }
