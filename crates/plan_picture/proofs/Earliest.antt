-- The least number of which something is so, and first actions from those of children.
use Rattle.std.proofs.Common.{◌≡◌, ◌≢◌, ℕ, zero, suc, ◌+◌, ◌<◌, ◌≤◌, Bool, true, false, nat_le, cond, List, [], ◌∷◌, ◌++◌, length, get_or, set, drop, add-one, Option, Some, None, ◌⊎◌, inl, inr, refl, sym, ap, ◌∙◌, subst, arith}
use Rattle.std.proofs.lemmas.Bool.{cases_eq}
use Rattle.std.proofs.lemmas.Bool.Decides.{nat_tests}
use Rattle.std.proofs.lemmas.List.{get_or-set_same, get_or-set_other}
use Rattle.htn_model.specs.PlanFile.{IsIn}
use Rattle.htn_model.proofs.Ascending.{in_split, in_left, in_right}
use Rattle.plan_picture.specs.Below.{IsBelow, itself, further, IsLeast, IsFirstAction}
use Rattle.plan_picture.specs.declared.row.Row.{Row as DeclaredRow}
use Rattle.plan_picture.specs.Firsts.{AreAfter, earlier, lines_of}
use Rattle.plan_picture.specs.Seen.{seen_all}

-- it is the same where the same is so
pub least_same : (P Q : ℕ → Type 0) → ((n : ℕ) → P n → Q n) → ((n : ℕ) → Q n → P n) → (o : Option ℕ) → IsLeast P o → IsLeast Q o
least_same P Q to from None none = λ n q. none n (from n q)
least_same P Q to from (Some least) is = (to least is.0, λ n q. is.1 n (from n q))

either : (P Q : ℕ → Type 0) (t : Bool) (a b : ℕ) → P a → Q b → P (cond t a b) ⊎ Q (cond t a b)
either P Q true a b p q = inl p
either P Q false a b p q = inr q

below_first : (a b n : ℕ) → a ≤ n → cond (nat_le a b) a b ≤ n
below_first a b n h = grind (arith, nat_tests)

below_second : (a b n : ℕ) → b ≤ n → cond (nat_le a b) a b ≤ n
below_second a b n h = grind (arith, nat_tests)

-- of two
pub least_or : (P Q : ℕ → Type 0) (o p : Option ℕ) → IsLeast P o → IsLeast Q p → IsLeast (λ n. P n ⊎ Q n) (earlier o p)
least_or P Q None None is are = λ n h. elim h [ inl a ↦ is n a | inr b ↦ are n b ]
least_or P Q None (Some b) is are = (inr are.0, λ n h. elim h [ inl a ↦ absurd (is n a) | inr c ↦ are.1 n c ])
least_or P Q (Some a) None is are = (inl is.0, λ n h. elim h [ inl c ↦ is.1 n c | inr b ↦ absurd (are n b) ])
least_or P Q (Some a) (Some b) is are =
    (either P Q (nat_le a b) a b is.0 are.0, λ n h. elim h [ inl c ↦ below_first a b n (is.1 n c) | inr c ↦ below_second a b n (are.1 n c) ])

-- an action at one of some lines, or below it
abbrev pub IsBelowOne : ℕ → (ℕ → List ℕ) → List ℕ → ℕ → Type 0
IsBelowOne actions children lines action = (action < actions) × ((line : ℕ) × IsIn line lines × IsBelow children line action)

pub below_none : (actions : ℕ) (children : ℕ → List ℕ) → IsLeast (IsBelowOne actions children []) None
below_none actions children = λ n h. h.1.1

-- one line more
pub below_more : (actions : ℕ) (children : ℕ → List ℕ) (lines : List ℕ) (line : ℕ) (o p : Option ℕ) → IsLeast (IsBelowOne actions children lines) o → IsFirstAction actions children line p
    → IsLeast (IsBelowOne actions children (lines ++ line ∷ [])) (earlier o p)
below_more actions children lines line o p is here =
    least_same (λ n. IsBelowOne actions children lines n ⊎ ((n < actions) × IsBelow children line n)) (IsBelowOne actions children (lines ++ line ∷ [])) to from (earlier o p)
    (least_or (IsBelowOne actions children lines) (λ n. (n < actions) × IsBelow children line n) o p is here)
  where
    to : (n : ℕ) → IsBelowOne actions children lines n ⊎ ((n < actions) × IsBelow children line n) → IsBelowOne actions children (lines ++ line ∷ []) n
    to n (inl (low, (l, i, b))) = (low, (l, in_left l lines (line ∷ []) i, b))
    to n (inr (low, b)) = (low, (line, in_right line lines (line ∷ []) (inl refl), b))

    which : (n l : ℕ) → n < actions → IsBelow children l n → IsIn l lines ⊎ IsIn l (line ∷ []) → IsBelowOne actions children lines n ⊎ ((n < actions) × IsBelow children line n)
    which n l low b (inl i) = inl (low, (l, i, b))
    which n l low b (inr (inl same)) = inr (low, subst (λ k. IsBelow children k n) same b)
    which n l low b (inr (inr none)) = absurd none

    from : (n : ℕ) → IsBelowOne actions children (lines ++ line ∷ []) n → IsBelowOne actions children lines n ⊎ ((n < actions) × IsBelow children line n)
    from n (low, (l, i, b)) = which n l low b (in_split l lines (line ∷ []) i)

-- an action below a line that is none is below one of its children
below_child : (actions : ℕ) (children : ℕ → List ℕ) (line n : ℕ) → actions ≤ line → n < actions → IsBelow children line n → IsBelowOne actions children (children line) n
below_child actions children line _ high low (itself _) = absurd (omega arith)
below_child actions children line n high low (further _ child _ i b) = (low, (child, i, b))

-- so the first action of its children is its own
pub first_of_children : (actions : ℕ) (children : ℕ → List ℕ) (line : ℕ) (o : Option ℕ) → actions ≤ line → IsLeast (IsBelowOne actions children (children line)) o → IsFirstAction actions children line o
first_of_children actions children line o high is =
    least_same (IsBelowOne actions children (children line)) (λ n. (n < actions) × IsBelow children line n)
    (λ n h. (h.0, further line h.1.0 n h.1.1 h.1.2)) (λ n h. below_child actions children line n high h.0 h.1) o is

-- an action has nothing below it
below_action : (children : ℕ → List ℕ) (line n : ℕ) → children line ≡ [] → IsBelow children line n → line ≡ n
below_action children line _ none (itself _) = refl
below_action children line n none (further _ child _ i b) = absurd (subst (IsIn child) none i)

pub first_of_action : (actions : ℕ) (children : ℕ → List ℕ) (line : ℕ) → line < actions → children line ≡ [] → IsFirstAction actions children line (Some line)
first_of_action actions children line low none = ((low, itself line), λ n h. (let e = below_action children line n none h.1 in omega arith))

-- there is one at most
pub one_first : (P : ℕ → Type 0) (o p : Option ℕ) → IsLeast P o → IsLeast P p → o ≡ p
one_first P None None is are = refl
one_first P None (Some b) is are = absurd (is b are.0)
one_first P (Some a) None is are = absurd (are a is.0)
one_first P (Some a) (Some b) is are = let less = is.1 b are.0 in let more = are.1 a is.0 in let e : a ≡ b = omega arith in ap Some e

-- ## One line more is found

-- the line itself, or one that was found before
pub found_more : (actions : ℕ) (children : ℕ → List ℕ) (firsts : List (Option ℕ)) (line : ℕ) (lines : List ℕ) (first : Option ℕ) → line < length firsts
    → IsFirstAction actions children line first → ((l : ℕ) → IsIn l lines → IsFirstAction actions children l (get_or firsts l None))
    → (l : ℕ) → IsIn l (line ∷ lines) → IsFirstAction actions children l (get_or (set firsts line first) l None)
found_more actions children firsts line lines first low here found l i = by (cases_eq l line) i
  where
    at_line : l ≡ line → IsFirstAction actions children l (get_or (set firsts line first) l None)
    at_line same =
        let is : get_or (set firsts line first) l None ≡ first = ap (λ k. get_or (set firsts line first) k None) same ∙ get_or-set_same firsts line first None low in
        subst (IsFirstAction actions children l) (sym is) (subst (λ k. IsFirstAction actions children k first) (sym same) here)

    by : (l ≡ line) ⊎ (l ≢ line) → IsIn l (line ∷ lines) → IsFirstAction actions children l (get_or (set firsts line first) l None)
    by (inl same) i = at_line same
    by (inr other) (inl same) = at_line same
    by (inr other) (inr i) = subst (IsFirstAction actions children l) (sym (get_or-set_other firsts line l first None other)) (found l i)

-- ## Along the rows

-- the line of a row
pub line_at : (rows : List DeclaredRow) (i : ℕ) (d : DeclaredRow) → i < length rows → (get_or rows i d).line ≡ get_or (lines_of (seen_all rows)) i 0
line_at [] i d h = absurd (omega arith)
line_at (r ∷ rows) zero d h = refl
line_at (r ∷ rows) (suc i) d h = line_at rows i d (omega arith)

-- as many lines as rows
pub many_lines : (rows : List DeclaredRow) → length (lines_of (seen_all rows)) ≡ length rows
many_lines [] = refl
many_lines (r ∷ rows) = ap suc (many_lines rows)

-- the children of a line stand behind it
pub behind : (children : ℕ → List ℕ) (lines : List ℕ) (i child : ℕ) → AreAfter children lines → i < length lines → IsIn child (children (get_or lines i 0)) → IsIn child (drop (i + 1) lines)
behind children lines i child after low is = rw add-one (behind_suc children lines i child after low is)
  where
    behind_suc : (children : ℕ → List ℕ) (lines : List ℕ) (i child : ℕ) → AreAfter children lines → i < length lines → IsIn child (children (get_or lines i 0)) → IsIn child (drop (suc i) lines)
    behind_suc children [] i child after low is = absurd (omega arith)
    behind_suc children (line ∷ lines) zero child after low is = after.0 child is
    behind_suc children (line ∷ lines) (suc i) child after low is = behind_suc children lines i child after.1 (omega arith) is
