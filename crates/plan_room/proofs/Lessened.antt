-- Each step leaves fewer.
use Rattle.std.proofs.Common.{◌≡◌, ℕ, zero, suc, ◌+◌, ◌-◌, ◌*◌, ◌≤◌, ◌<◌, inl, inr, List, length, get_or, set, sym, refl, ap, ◌∙◌, subst, arith}
use Rattle.std.proofs.lemmas.Bool.{cases_eq}
use Rattle.std.proofs.Math.Nat.{mul-le-mul_right}
use Rattle.std.proofs.lemmas.List.{get_or-set_other, get_or-set_same}
use Rattle.plan_room.specs.Trials.{weight, level, behind, left}

-- one factor less
one_factor : (k x y : ℕ) → x ≡ suc y → x * k ≡ k + y * k
one_factor k x y e = ap (λ z. z * k) e ∙ (let f : suc y * k ≡ k + y * k = omega arith in f)

-- what is left below the next choice of a position
level_next : (count size depth next : ℕ) → depth < size → level count (size - depth) next ≡ 1 + (count - next) * (weight count (size - suc depth) + 1)
level_next count size depth next low = ap (λ d. level count d next) (let e : size - depth ≡ suc (size - suc depth) = omega arith in e)

-- there is always something left
level_positive : (count d next : ℕ) → 1 ≤ level count d next
level_positive count zero next = omega arith
level_positive count (suc d) next = omega arith

-- from the first choice on it is all that a position has
level_first : (count d : ℕ) → level count d 0 ≡ weight count d
level_first count zero = refl
level_first count (suc d) = ap (λ c. 1 + c * (weight count d + 1)) (let e : count - 0 ≡ count = omega arith in e)

-- what is behind doesn't hang on later choices
behind_same : (count size : ℕ) (xs : List ℕ) (depth next i : ℕ) → i ≤ depth → behind count size (set xs depth next) i ≡ behind count size xs i
behind_same count size xs depth next zero low = refl
behind_same count size xs depth next (suc i) low =
    let more = behind_same count size xs depth next i (omega arith) in
    let same : get_or (set xs depth next) i 0 ≡ get_or xs i 0 = get_or-set_other xs depth i next 0 (let e : i ≡ depth → ⊥ = omega arith in e) in
    let here = ap (λ c. (count - suc c) * (weight count (size - suc i) + 1) + 1) same in omega arith

-- less is left from a later choice on
pub skip_less : (count size : ℕ) (chosen : List ℕ) (depth next later : ℕ) → depth < size → next < later → later ≤ count → left count size chosen depth later < left count size chosen depth next
skip_less count size chosen depth next later low less small =
    let now = level_next count size depth next low in
    let then = level_next count size depth later low in
    let k = weight count (size - suc depth) + 1 in
    let factor = one_factor k (count - next) (count - suc next) (omega arith) in
    let most : (count - later) * k ≤ (count - suc next) * k = mul-le-mul_right k (let e : count - later ≤ count - suc next = omega arith in e) in omega arith

-- less is left after a choice is taken
pub take_less : (count size : ℕ) (chosen : List ℕ) (depth next : ℕ) → depth < size → next < count → depth < length chosen
    → left count size (set chosen depth next) (depth + 1) 0 < left count size chosen depth next
take_less count size chosen depth next low less inside =
    let now = level_next count size depth next low in
    let w = weight count (size - suc depth) in
    let xs = set chosen depth next in
    let factor = one_factor (w + 1) (count - next) (count - suc next) (omega arith) in
    let same = behind_same count size chosen depth next depth (omega arith) in
    let is = get_or-set_same chosen depth next 0 inside in
    let here : (count - suc (get_or xs depth 0)) * (w + 1) + 1 ≡ (count - suc next) * (w + 1) + 1 = ap (λ c. (count - suc c) * (w + 1) + 1) is in
    let first = level_first count (size - suc depth) in
    let step : left count size xs (suc depth) 0 < left count size chosen depth next = omega arith in
    subst (λ d. left count size xs d 0 < left count size chosen depth next) (let e : suc depth ≡ depth + 1 = omega arith in e) step

-- less is left after a position is given up
pub back_less : (count size : ℕ) (chosen : List ℕ) (depth before next : ℕ) → depth ≡ suc before → before < size
    → left count size chosen before (get_or chosen before 0 + 1) < left count size chosen depth next
back_less count size chosen depth before next e low =
    let then = level_next count size before (get_or chosen before 0 + 1) low in
    let some = level_positive count (size - suc before) next in
    let w = weight count (size - suc before) in
    let same : (count - suc (get_or chosen before 0)) * (w + 1) ≡ (count - (get_or chosen before 0 + 1)) * (w + 1) =
    ap (λ c. (count - c) * (w + 1)) (let f : suc (get_or chosen before 0) ≡ get_or chosen before 0 + 1 = omega arith in f) in
    let step : left count size chosen before (get_or chosen before 0 + 1) < left count size chosen (suc before) next = omega arith in
    subst (λ d. left count size chosen before (get_or chosen before 0 + 1) < left count size chosen d next) (sym e) step

-- back to the choice before, and on to a later one
pub back_further : (count size : ℕ) (chosen : List ℕ) (depth before next later : ℕ) → depth ≡ suc before → before < size → get_or chosen before 0 < later → later ≤ count
    → left count size chosen before later < left count size chosen depth next
back_further count size chosen depth before next later e low more small =
    let back = back_less count size chosen depth before next e low in
    elim (cases_eq (get_or chosen before 0 + 1) later) [
      | inl same ↦ subst (λ k. left count size chosen before k < left count size chosen depth next) same back
      | inr other ↦ (let skip = skip_less count size chosen before (get_or chosen before 0 + 1) later low (omega arith) small in omega arith)
    ]
