-- The next gap in which literals hold.
use Rattle.std.proofs.Common.{◌≡◌, ℕ, ◌+◌, ◌<◌, ◌≤◌, Bool, true, false, not, ◌&&◌, List, [], ◌∷◌, ◌++◌, length, map, take, drop, get_or, append_assoc, Option, Some, None, inl, inr, refl, sym, ap, ap₂, ◌∙◌, subst, arith}
use Rattle.std.specs.Bool.{beq}
use Rattle.std.specs.List.{list_all}
use Rattle.std.proofs.lemmas.Bool.{cases_lt}
use Rattle.std.proofs.lemmas.List.{drop_more, map-append, take-append-drop}
use Rattle.htn_model.specs.Literal.{Literal, atom, equality, literal_holds, holds}
use Rattle.htn_model.specs.Atom.{Atom}
use Rattle.htn_model.specs.State.{State, contains}
use Rattle.plan_lines.specs.Turns.{IsLastGap, IsNextGap, IsOnward, History, truth, literal_truth, literals_truth}

-- ## Tests that say the same

-- tests that are alike have one next gap
pub next_alike : (f g : ℕ → Bool) (from last : ℕ) (r : Option ℕ) → ((k : ℕ) → f k ≡ g k) → IsNextGap f from last r → IsNextGap g from last r
next_alike f g from last None same next = λ k h b. sym (same k) ∙ next k h b
next_alike f g from last (Some gap) same next = (next.0, next.1, sym (same gap) ∙ next.2, (λ k h l. sym (same k) ∙ next.3 k h l))

-- a truth that is to be true
pub beq_true : (b : Bool) → beq b true ≡ b
beq_true true = refl
beq_true false = refl

-- a truth that is to be false
pub beq_false : (b : Bool) → beq b false ≡ not b
beq_false true = refl
beq_false false = refl

-- ## One round

-- a literal more
all_join : (test : Literal → Bool) (ls : List Literal) (l : Literal) → list_all test (ls ++ l ∷ []) ≡ (list_all test ls && test l)
all_join test [] l = with_true (test l)
  where
    with_true : (b : Bool) → (b && true) ≡ b
    with_true true = refl
    with_true false = refl
all_join test (m ∷ ls) l = ap (λ b. test m && b) (all_join test ls l) ∙ regroup (test m) (list_all test ls) (test l)
  where
    regroup : (a b c : Bool) → (a && (b && c)) ≡ ((a && b) && c)
    regroup true b c = refl
    regroup false b c = refl

-- the first of two tests fails
pub false_left : (a b : Bool) → a ≡ false → (a && b) ≡ false
false_left a b h = ap (λ x. x && b) h

-- the second of two tests fails
pub false_right : (a b : Bool) → b ≡ false → (a && b) ≡ false
false_right true b h = h
false_right false b h = refl

-- where literals up to one have moved the gap, up to a last one
pub record HaveMoved (h : History) (literals : List Literal) (from last gap : ℕ) : Type 0 where
  pub low : from ≤ gap
  pub within : gap ≤ last
  pub skipped : (k : ℕ) → from ≤ k → k < gap → literals_truth h literals k ≡ false
  pub hold : gap ≡ from → literals_truth h literals from ≡ true

-- no literal has come yet
pub none_moved : (h : History) (from last : ℕ) → from ≤ last → HaveMoved h [] from last from
none_moved h from last b = record { low = omega arith; within = b; skipped = λ k m l. absurd (omega arith); hold = λ e. refl }

-- one literal moves the gap on
pub one_moved : (h : History) (literals : List Literal) (l : Literal) (from last gap next : ℕ) → HaveMoved h literals from last gap
    → IsNextGap (literal_truth h l) gap last (Some next) → HaveMoved h (literals ++ l ∷ []) from last next
one_moved h literals l from last gap next moved (low, within, holds_next, none) = record {
  low = (let a = moved.low in omega arith);
  within = within;
  skipped = λ k m b. all_join (λ x. literal_truth h x k) literals l ∙ (elim (cases_lt k gap) [
    | inl less ↦ false_left _ (literal_truth h l k) (moved.skipped k m less)
    | inr more ↦ false_right (literals_truth h literals k) _ (none k more b)
  ]);
  hold = λ e. (let a = moved.low in let same : gap ≡ from = omega arith in
      all_join (λ x. literal_truth h x from) literals l ∙ ap₂ (λ x y. x && y) (moved.hold same) (subst (λ k. literal_truth h l k ≡ true) e holds_next));
}

-- what fails of the first ones fails of all
joined : (test : Literal → Bool) (xs ys : List Literal) → list_all test xs ≡ false → list_all test (xs ++ ys) ≡ false
joined test [] ys e = absurd cc
joined test (x ∷ xs) ys e = by (test x) refl (joined test xs ys)
  where
    by : (b : Bool) → test x ≡ b → (list_all test xs ≡ false → list_all test (xs ++ ys) ≡ false) → (test x && list_all test (xs ++ ys)) ≡ false
    by true t more = ap (λ b. b && list_all test (xs ++ ys)) t ∙ more (sym (ap (λ b. b && list_all test xs) t) ∙ e)
    by false t more = ap (λ b. b && list_all test (xs ++ ys)) t

-- where one literal holds nowhere from there on
pub none_left : (h : History) (before rest : List Literal) (l : Literal) (from last gap : ℕ) → HaveMoved h before from last gap → IsNextGap (literal_truth h l) gap last None
    → (k : ℕ) → from ≤ k → k ≤ last → literals_truth h ((before ++ l ∷ []) ++ rest) k ≡ false
none_left h before rest l from last gap moved none k m b = joined (λ x. literal_truth h x k) (before ++ l ∷ []) rest first
  where
    first : literals_truth h (before ++ l ∷ []) k ≡ false
    first = all_join (λ x. literal_truth h x k) before l ∙ (elim (cases_lt k gap) [
      | inl less ↦ false_left _ (literal_truth h l k) (moved.skipped k m less)
      | inr more ↦ false_right (literals_truth h before k) _ (none k more b)
    ])

-- ## Rounds

-- a round that doesn't move the gap has found it
pub found : (test : ℕ → Bool) (from last gap : ℕ) → from ≤ gap → ((k : ℕ) → from ≤ k → k < gap → test k ≡ false) → IsOnward test gap last (Some gap)
    → IsNextGap test from last (Some gap)
found test from last gap low skipped onward = (low, onward.1, onward.3 refl, skipped)

-- the next round skips no gap in which all hold
pub skipped_more : (test : ℕ → Bool) (from last gap next : ℕ) → ((k : ℕ) → from ≤ k → k < gap → test k ≡ false) → IsOnward test gap last (Some next)
    → (k : ℕ) → from ≤ k → k < next → test k ≡ false
skipped_more test from last gap next skipped onward k m l = elim (cases_lt k gap) [ inl less ↦ skipped k m less | inr more ↦ onward.2 k more l ]

-- nor does the last one
pub skipped_all : (test : ℕ → Bool) (from last gap : ℕ) → ((k : ℕ) → from ≤ k → k < gap → test k ≡ false) → IsOnward test gap last None → IsNextGap test from last None
skipped_all test from last gap skipped onward k m b = elim (cases_lt k gap) [ inl less ↦ skipped k m less | inr more ↦ onward k more b ]

-- what the next gap from a gap on up to it tells of the gap
pub tells : (test : ℕ → Bool) (gap next : ℕ) → IsNextGap test gap gap (Some next) → test gap ≡ true
tells test gap next (low, within, there, none) = let same : next ≡ gap = omega arith in subst (λ k. test k ≡ true) same there

-- ## States

-- literals hold in a state that has the gap's truths
pub same_literal : (h : History) (state : State) (gap : ℕ) → ((a : Atom) → contains state a ≡ truth h a gap) → (l : Literal) → literal_holds state l ≡ literal_truth h l gap
same_literal h state gap same (atom true a) = same a
same_literal h state gap same (atom false a) = ap not (same a)
same_literal h state gap same (equality true x y) = refl
same_literal h state gap same (equality false x y) = refl

-- so do conjunctions
pub same_literals : (h : History) (state : State) (gap : ℕ) → ((a : Atom) → contains state a ≡ truth h a gap) → (ls : List Literal) → holds state ls ≡ literals_truth h ls gap
same_literals h state gap same [] = refl
same_literals h state gap same (l ∷ ls) = ap₂ ◌&&◌ (same_literal h state gap same l) (same_literals h state gap same ls)

-- the literals up to one, that one, and the rest
pub parted : {X Y : Type 0} (f : X → Y) (xs : List X) (i : ℕ) (x : X) → i < length xs → x ≡ get_or xs i x
    → map f xs ≡ (map f (take i xs) ++ f x ∷ []) ++ map f (drop (i + 1) xs)
parted f xs i x h is =
    ap (map f) (sym (take-append-drop i xs) ∙ ap (λ ys. take i xs ++ ys) (drop_more xs i x h ∙ ap (λ y. y ∷ drop (i + 1) xs) (sym is)))
    ∙ map-append f (take i xs) (x ∷ drop (i + 1) xs) ∙ sym (append_assoc (map f (take i xs)) (f x ∷ []) (map f (drop (i + 1) xs)))

-- ## The last gap

-- tests that are alike have one last gap
pub last_alike : (f g : ℕ → Bool) (gap : ℕ) (r : Option ℕ) → ((k : ℕ) → f k ≡ g k) → IsLastGap f gap r → IsLastGap g gap r
last_alike f g gap None same none = λ k h. sym (same k) ∙ none k h
last_alike f g gap (Some last) same found = (found.0, sym (same last) ∙ found.1, (λ k h l. sym (same k) ∙ found.2 k h l))
