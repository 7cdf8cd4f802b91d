-- The walk: marks, and lists of numbers without repeats.
use Rattle.std.proofs.Common.{◌≡◌, ◌≢◌, ℕ, zero, suc, ◌-◌, ◌<◌, ◌≤◌, Bool, true, false, cond, ltb, List, [], ◌∷◌, ◌++◌, length, get_or, set, get_or-set_same, get_or-set_other, length-set, ◌⊎◌, inl, inr, sym, refl, ap, ◌∙◌, subst, append-nil, append_assoc, arith}
use Rattle.std.proofs.lemmas.Bool.{both_ways, cases_eq, cases_lt}
use Rattle.std.proofs.lemmas.List.{length-append, get_or_past}
use Rattle.htn_model.specs.PlanFile.{IsIn, IsWithoutRepeats}
use Rattle.htn_model.proofs.Ascending.{in_left, in_right, in_split}
use Rattle.htn_model.proofs.Planted.{no_longer}
use Rattle.htn_model.proofs.Rearranged.{distinct_with}
use Rattle.std.specs.List.{All}
use Rattle.plan_text.specs.Reached.{children_at, AreWithin, AreMet, AreAdded}

-- a mark more
pub one_met : (met : List Bool) (lines : List ℕ) (x : ℕ) → AreMet met lines → x < length met → get_or met x false ≡ false → AreMet (set met x true) (lines ++ x ∷ [])
one_met met lines x are low unmarked = record {
  within = λ y i. subst (λ n. y < n) (sym (length-set met x true)) (within y (in_split y lines (x ∷ []) i));
  once = distinct_with x lines [] (subst IsWithoutRepeats (sym (append-nil lines)) are.once) (λ i. both_ways _ unmarked (are.marked x (subst (IsIn x) (append-nil lines) i)));
  marked = λ y i. marked y (in_split y lines (x ∷ []) i);
  only = λ y h. only y h (cases_eq y x);
}
  where
    within : (y : ℕ) → IsIn y lines ⊎ IsIn y (x ∷ []) → y < length met
    within y (inl i) = are.within y i
    within y (inr (inl same)) = subst (λ z. z < length met) (sym same) low
    within y (inr (inr none)) = absurd none

    here : (y : ℕ) → y ≡ x → get_or (set met x true) y false ≡ true
    here y same = ap (λ z. get_or (set met x true) z false) same ∙ get_or-set_same met x true false low

    marked : (y : ℕ) → IsIn y lines ⊎ IsIn y (x ∷ []) → get_or (set met x true) y false ≡ true
    marked y (inl i) = elim (cases_eq y x) [ inl same ↦ here y same | inr other ↦ get_or-set_other met x y true false other ∙ are.marked y i ]
    marked y (inr (inl same)) = here y same
    marked y (inr (inr none)) = absurd none

    only : (y : ℕ) → get_or (set met x true) y false ≡ true → (y ≡ x) ⊎ (y ≢ x) → IsIn y (lines ++ x ∷ [])
    only y h (inl same) = in_right y lines (x ∷ []) (inl same)
    only y h (inr other) = in_left y lines (x ∷ []) (are.only y (sym (get_or-set_other met x y true false other) ∙ h))

-- ## Lines that are added

-- no line more
pub none_added : (lines : List ℕ) → AreAdded lines lines []
none_added lines = record { added = []; is = sym (append-nil lines); some = λ x i. i; all = λ x i. absurd i }

-- a line that is new
pub new_added : (old new more : List ℕ) (x : ℕ) → AreAdded old new more → AreAdded old (new ++ x ∷ []) (more ++ x ∷ [])
new_added old new more x are = record {
  added = are.added ++ x ∷ [];
  is = ap (λ ys. ys ++ x ∷ []) are.is ∙ append_assoc old are.added (x ∷ []);
  some = λ y i. elim (in_split y are.added (x ∷ []) i) [ inl l ↦ in_left y more (x ∷ []) (are.some y l) | inr r ↦ in_right y more (x ∷ []) r ];
  all = λ y i. elim (in_split y more (x ∷ []) i) [ inl l ↦ in_left y new (x ∷ []) (are.all y l) | inr r ↦ in_right y new (x ∷ []) r ];
}

-- a line that was met
pub known_added : (old new more : List ℕ) (x : ℕ) → AreAdded old new more → IsIn x new → AreAdded old new (more ++ x ∷ [])
known_added old new more x are known = record {
  added = are.added;
  is = are.is;
  some = λ y i. in_left y more (x ∷ []) (are.some y i);
  all = λ y i. by y (in_split y more (x ∷ []) i);
}
  where
    by : (y : ℕ) → IsIn y more ⊎ IsIn y (x ∷ []) → IsIn y new
    by y (inl i) = are.all y i
    by y (inr (inl same)) = subst (λ z. IsIn z new) (sym same) known
    by y (inr (inr none)) = absurd none

-- ## As many lines as there are

-- the numbers below one
below : ℕ → List ℕ
below zero = []
below (suc n) = n ∷ below n

-- each number below it is there
in_below : (x n : ℕ) → x < n → IsIn x (below n)
unfolding below
in_below x zero h = absurd (omega arith)
in_below x (suc n) h = elim (cases_eq x n) [ inl same ↦ inl same | inr other ↦ inr (in_below x n (omega arith)) ]

-- and no other
low_below : (x n : ℕ) → IsIn x (below n) → x < n
unfolding below
low_below x zero i = absurd i
low_below x (suc n) (inl same) = omega arith
low_below x (suc n) (inr i) = let h = low_below x n i in omega arith

-- none twice
below_once : (n : ℕ) → IsWithoutRepeats (below n)
unfolding below
below_once zero = tt
below_once (suc n) = ((λ i. let h = low_below n n i in omega arith), below_once n)

-- as many as it says
as_many_below : (n : ℕ) → length (below n) ≡ n
unfolding below
as_many_below zero = refl
as_many_below (suc n) = ap suc (as_many_below n)

-- numbers below n without repeats are n at most
pub at_most : (n : ℕ) (lines : List ℕ) → IsWithoutRepeats lines → ((x : ℕ) → IsIn x lines → x < n) → length lines ≤ n
at_most n lines once low = let h = no_longer lines (below n) once (λ x i. in_below x n (low x i)) in let e = as_many_below n in omega arith

-- where each number below n is among them they are n at least
pub at_least : (n : ℕ) (lines : List ℕ) → ((x : ℕ) → x < n → IsIn x lines) → n ≤ length lines
at_least n lines all = let h = no_longer (below n) lines (below_once n) (λ x i. all x (low_below x n i)) in let e = as_many_below n in omega arith

-- and where they are n each one is among them
pub all_there : (met : List Bool) (lines : List ℕ) (x : ℕ) → AreMet met lines → length lines ≡ length met → x < length met → IsIn x lines
all_there met lines x are many low = by (get_or met x false) refl
  where
    by : (b : Bool) → get_or met x false ≡ b → IsIn x lines
    by true h = are.only x h
    by false h =
        let more = one_met met lines x are low h in
        let most = at_most (length met) (lines ++ x ∷ []) more.once (λ y i. subst (λ n. y < n) (length-set met x true) (more.within y i)) in
        let long = length-append lines (x ∷ []) in
        absurd (omega arith)

-- ## Lists of children

-- the children of lines are lines
pub children_within : (count actions : ℕ) (roots : List ℕ) (children : List (List ℕ)) (line : ℕ) → AreWithin count roots children
    → All (λ c. c < count) (children_at actions children line)
children_within count actions roots children line within = by (ltb line actions)
  where
    none : All (λ c. c < count) []
    none k d h = absurd (omega arith)

    far : (xs : List (List ℕ)) (i : ℕ) → All (All (λ c. c < count)) xs → All (λ c. c < count) (get_or xs i [])
    far xs i all = elim (cases_lt i (length xs)) [
      | inl low ↦ all i [] low
      | inr high ↦ subst (All (λ c. c < count)) (sym (get_or_past xs i [] high)) none
    ]

    by : (b : Bool) → All (λ c. c < count) (cond b [] (get_or children (line - actions) []))
    by true = none
    by false = far children (line - actions) within.1

-- nothing is met where no mark is set
pub none_met : (met : List Bool) → ((k : ℕ) → get_or met k false ≡ false) → AreMet met []
none_met met none = record { within = λ x i. absurd i; once = tt; marked = λ x i. absurd i; only = λ x h. both_ways _ (none x) h }
