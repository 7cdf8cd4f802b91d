-- The first three indices, one score after the other.
use Rattle.std.specs.Prelude.{◌≡◌, ℕ, ◌+◌, ◌<◌, ◌≤◌, Bool, true, false, ◌&&◌, if◌then◌else◌, nat_lt, List, [], ◌∷◌, ◌++◌, length, take, drop, get_or}
use Rattle.std.proofs.Common.{arith, sym, ◌∙◌, ap, refl, append_assoc, inl, inr, add-one, subst, length-append}
use Rattle.std.proofs.Math.Seq.{drop-cons}
use Rattle.std.proofs.lemmas.List.{take-append-le, take_all, drop_all, append-nil}
use Rattle.std.proofs.lemmas.Bool.{cases_lt, lt-ltb, le-ltb}
use Rattle.diagnostics.specs.Near.{indices_from}

-- an index more, where there is room for it
pub offer-more : (b : Bool) (found rest : List ℕ) (index : ℕ) → length found ≤ 3
    → take 3 ((if b && nat_lt (length found) 3 then found ++ index ∷ [] else found) ++ rest) ≡ take 3 (found ++ (if b then index ∷ rest else rest))
offer-more false found rest index few = refl
offer-more true found rest index few = elim (cases_lt (length found) 3) [
  | inl less ↦ ap (λ b. take 3 ((if b then found ++ index ∷ [] else found) ++ rest)) (lt-ltb (length found) 3 less) ∙ ap (λ xs. take 3 xs) (append_assoc found (index ∷ []) rest)
  | inr full ↦ ap (λ b. take 3 ((if b then found ++ index ∷ [] else found) ++ rest)) (le-ltb (length found) 3 full) ∙ take-append-le 3 found rest full ∙ sym (take-append-le 3 found (index ∷ rest) full)
]

pub indices-drop : {X : Type 0} (p : X → Bool) (xs : List X) (index : ℕ) (d : X) → index < length xs
    → indices_from p index (drop index xs) ≡ (if p (get_or xs index d) then index ∷ indices_from p (index + 1) (drop (index + 1) xs) else indices_from p (index + 1) (drop (index + 1) xs))
indices-drop p xs index d below = ap (indices_from p index) (drop-cons xs index d below ∙ ap (λ n. get_or xs index d ∷ drop n xs) (sym (add-one index)))

pub offered_few : (b : Bool) (found : List ℕ) (index : ℕ) → length found ≤ 3 → length (if b && nat_lt (length found) 3 then found ++ index ∷ [] else found) ≤ 3
offered_few false found index few = few
offered_few true found index few = elim (cases_lt (length found) 3) [
  | inl less ↦ let P : Bool → Type 0 = λ b. length (if b then found ++ index ∷ [] else found) ≤ 3 in
      subst P (sym (lt-ltb (length found) 3 less)) (grind (arith, length-append found (index ∷ [])))
  | inr full ↦ let P : Bool → Type 0 = λ b. length (if b then found ++ index ∷ [] else found) ≤ 3 in
      subst P (sym (le-ltb (length found) 3 full)) few
]

-- one score more
pub next_index : {X : Type 0} (p : X → Bool) (xs : List X) (index : ℕ) (d : X) (found new all : List ℕ) → index < length xs → length found ≤ 3
    → new ≡ (if p (get_or xs index d) && nat_lt (length found) 3 then found ++ index ∷ [] else found)
    → take 3 (found ++ indices_from p index (drop index xs)) ≡ all → take 3 (new ++ indices_from p (index + 1) (drop (index + 1) xs)) ≡ all
next_index p xs index d found new all below few is before =
    let rest = indices_from p (index + 1) (drop (index + 1) xs) in
    ap (λ ys. take 3 (ys ++ rest)) is
    ∙ offer-more (p (get_or xs index d)) found rest index few
    ∙ ap (λ ys. take 3 (found ++ ys)) (sym (indices-drop p xs index d below))
    ∙ before

-- after the last score
pub last_index : {X : Type 0} (p : X → Bool) (xs : List X) (index : ℕ) (found all : List ℕ) → length xs ≤ index → length found ≤ 3 → take 3 (found ++ indices_from p index (drop index xs)) ≡ all → found ≡ all
last_index p xs index found all past few before =
    sym (take_all 3 found few)
    ∙ ap (take 3) (sym (append-nil found) ∙ ap (λ ys. found ++ indices_from p index ys) (sym (drop_all index xs past)))
    ∙ before
