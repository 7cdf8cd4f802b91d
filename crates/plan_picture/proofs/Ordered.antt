-- Siblings that are drawn are those that are listed.
use Rattle.std.proofs.Common.{◌≡◌, ℕ, zero, suc, ◌+◌, ◌-◌, ◌<◌, ◌≤◌, Bool, true, false, cond, ltb, List, [], ◌∷◌, ◌++◌, length, get_or, drop, filter, Option, ◌⊎◌, inl, inr, refl, sym, ap, ap₂, ◌∙◌, subst, arith}
use Rattle.std.proofs.lemmas.Bool.{cases_lt}
use Rattle.std.proofs.lemmas.List.{append-nil, append_assoc, drop_more, drop_all}
use Rattle.std.specs.List.{All}
use Rattle.std.proofs.lemmas.List.Sorted.{All-permutation}
use Rattle.htn_model.specs.PlanFile.{IsIn}
use Rattle.plan_text.specs.Reached.{children_at}
use Rattle.plan_picture.specs.Order.{is_some, refilled, AreDrawn, AreAllDrawn}

in_get : (lines : List ℕ) (k d : ℕ) → k < length lines → IsIn (get_or lines k d) lines
in_get [] k d h = absurd (omega arith)
in_get (line ∷ lines) zero d h = inl refl
in_get (line ∷ lines) (suc k) d h = inr (in_get lines k d (omega arith))

at_get : (P : ℕ → Type 0) (lines : List ℕ) → All P lines → (line : ℕ) → IsIn line lines → P line
at_get P [] all line i = absurd i
at_get P (l ∷ lines) all line (inl same) = subst P (sym same) (all 0 l (omega arith))
at_get P (l ∷ lines) all line (inr i) = at_get P lines (λ k d h. all (suc k) d (omega arith)) line i

filtered : (test : ℕ → Bool) (line : ℕ) (lines : List ℕ) → IsIn line (filter test lines) → IsIn line lines
filtered test line [] i = i
filtered test line (l ∷ lines) i = by (test l) i (filtered test line lines)
  where
    by : (b : Bool) → IsIn line (cond b (l ∷ filter test lines) (filter test lines)) → (IsIn line (filter test lines) → IsIn line lines) → IsIn line (l ∷ lines)
    by true (inl same) more = inl same
    by true (inr j) more = inr (more j)
    by false j more = inr (more j)

refilled_from : (first : ℕ → Option ℕ) (line : ℕ) (lines others : List ℕ) → IsIn line (refilled first lines others) → IsIn line lines ⊎ IsIn line others
refilled_from first line [] others i = absurd i
refilled_from first line (l ∷ lines) [] (inl same) = inl (inl same)
refilled_from first line (l ∷ lines) [] (inr i) = elim (refilled_from first line lines [] i) [ inl j ↦ inl (inr j) | inr j ↦ absurd j ]
refilled_from first line (l ∷ lines) (o ∷ others) i = by (is_some (first l)) i (refilled_from first line lines others) (refilled_from first line lines (o ∷ others))
  where
    by : (b : Bool) → IsIn line (cond b (o ∷ refilled first lines others) (l ∷ refilled first lines (o ∷ others))) → (IsIn line (refilled first lines others) → IsIn line lines ⊎ IsIn line others)
        → (IsIn line (refilled first lines (o ∷ others)) → IsIn line lines ⊎ IsIn line (o ∷ others)) → IsIn line (l ∷ lines) ⊎ IsIn line (o ∷ others)
    by true (inl same) taken left = inr (inl same)
    by true (inr j) taken left = elim (taken j) [ inl k ↦ inl (inr k) | inr k ↦ inr (inr k) ]
    by false (inl same) taken left = inl (inl same)
    by false (inr j) taken left = elim (left j) [ inl k ↦ inl (inr k) | inr k ↦ inr k ]

one_other : (first : ℕ → Option ℕ) (line : ℕ) (lines : List ℕ) (other : ℕ) (others : List ℕ) → is_some (first line) ≡ true
    → refilled first (line ∷ lines) (other ∷ others) ≡ other ∷ refilled first lines others
one_other first line lines other others h = ap (λ b. cond b (other ∷ refilled first lines others) (line ∷ refilled first lines (other ∷ others))) h

one_line : (first : ℕ → Option ℕ) (line : ℕ) (lines : List ℕ) (other : ℕ) (others : List ℕ) → is_some (first line) ≡ false
    → refilled first (line ∷ lines) (other ∷ others) ≡ line ∷ refilled first lines (other ∷ others)
one_line first line lines other others h = ap (λ b. cond b (other ∷ refilled first lines others) (line ∷ refilled first lines (other ∷ others))) h

-- one of the others more
pub step_other : (first : ℕ → Option ℕ) (lines others so_far all : List ℕ) (i next : ℕ) → i < length lines → next < length others → is_some (first (get_or lines i 0)) ≡ true
    → so_far ++ refilled first (drop i lines) (drop next others) ≡ all → (so_far ++ get_or others next 0 ∷ []) ++ refilled first (drop (i + 1) lines) (drop (next + 1) others) ≡ all
step_other first lines others so_far all i next low within has e =
    append_assoc so_far (get_or others next 0 ∷ []) (refilled first (drop (i + 1) lines) (drop (next + 1) others))
    ∙ ap (λ xs. so_far ++ xs)
    (sym (one_other first (get_or lines i 0) (drop (i + 1) lines) (get_or others next 0) (drop (next + 1) others) has)
    ∙ sym (ap₂ (refilled first) (drop_more lines i 0 low) (drop_more others next 0 within)))
    ∙ e

-- one of the lines itself more
pub step_line : (first : ℕ → Option ℕ) (lines others so_far all : List ℕ) (i next : ℕ) → i < length lines → (next < length others → is_some (first (get_or lines i 0)) ≡ false)
    → so_far ++ refilled first (drop i lines) (drop next others) ≡ all → (so_far ++ get_or lines i 0 ∷ []) ++ refilled first (drop (i + 1) lines) (drop next others) ≡ all
step_line first lines others so_far all i next low none e =
    append_assoc so_far (get_or lines i 0 ∷ []) (refilled first (drop (i + 1) lines) (drop next others))
    ∙ ap (λ xs. so_far ++ xs) (sym (ap (λ ls. refilled first ls (drop next others)) (drop_more lines i 0 low) ∙ kept (cases_lt next (length others))))
    ∙ e
  where
    kept : (next < length others) ⊎ (length others ≤ next)
        → refilled first (get_or lines i 0 ∷ drop (i + 1) lines) (drop next others) ≡ get_or lines i 0 ∷ refilled first (drop (i + 1) lines) (drop next others)
    kept (inl within) =
        let more = drop_more others next 0 within in
        ap (refilled first (get_or lines i 0 ∷ drop (i + 1) lines)) more
        ∙ one_line first (get_or lines i 0) (drop (i + 1) lines) (get_or others next 0) (drop (next + 1) others) (none within)
        ∙ ap (λ os. get_or lines i 0 ∷ refilled first (drop (i + 1) lines) os) (sym more)
    kept (inr past) =
        let no_more = drop_all next others past in
        ap (refilled first (get_or lines i 0 ∷ drop (i + 1) lines)) no_more ∙ ap (λ os. get_or lines i 0 ∷ refilled first (drop (i + 1) lines) os) (sym no_more)

-- all of them
pub all_refilled : (first : ℕ → Option ℕ) (lines others so_far all : List ℕ) (i next : ℕ) → length lines ≤ i → so_far ++ refilled first (drop i lines) (drop next others) ≡ all → so_far ≡ all
all_refilled first lines others so_far all i next past e =
    sym (append-nil so_far) ∙ ap (λ xs. so_far ++ xs) (sym (ap (λ ls. refilled first ls (drop next others)) (drop_all i lines past))) ∙ e

-- what is drawn is listed
pub drawn_is_listed : (first : ℕ → Option ℕ) (listed drawn : List ℕ) → AreDrawn first listed drawn → (line : ℕ) → IsIn line drawn → IsIn line listed
drawn_is_listed first listed drawn are line i =
    let all : All (λ l. IsIn l listed) are.by_action =
    All-permutation (λ l. IsIn l listed) (filter (λ l. is_some (first l)) listed) are.by_action are.same_lines
    (λ k d h. filtered (λ l. is_some (first l)) (get_or (filter (λ l. is_some (first l)) listed) k d) listed (in_get (filter (λ l. is_some (first l)) listed) k d h)) in
    elim (refilled_from first line listed are.by_action (subst (IsIn line) are.places i)) [
      | inl j ↦ j
      | inr j ↦ at_get (λ l. IsIn l listed) are.by_action all line j
    ]

-- list by list
at_place : (first : ℕ → Option ℕ) (lists drawn : List (List ℕ)) → AreAllDrawn first lists drawn → (k line : ℕ) → IsIn line (get_or drawn k []) → IsIn line (get_or lists k [])
at_place first [] drawn are k line i = subst (λ ds. IsIn line (get_or ds k [])) are i
at_place first (listed ∷ lists) [] are k line i = absurd are
at_place first (listed ∷ lists) (d ∷ drawn) are zero line i = drawn_is_listed first listed d are.0 line i
at_place first (listed ∷ lists) (d ∷ drawn) are (suc k) line i = at_place first lists drawn are.1 k line i

-- children that are drawn are listed
pub children_listed : (actions : ℕ) (first : ℕ → Option ℕ) (lists drawn : List (List ℕ)) → AreAllDrawn first lists drawn
    → (line child : ℕ) → IsIn child (children_at actions drawn line) → IsIn child (children_at actions lists line)
children_listed actions first lists drawn are line child i = by (ltb line actions) i
  where
    by : (b : Bool) → IsIn child (cond b [] (get_or drawn (line - actions) [])) → IsIn child (cond b [] (get_or lists (line - actions) []))
    by true j = j
    by false j = at_place first lists drawn are (line - actions) child j

-- as many lists
pub as_many : (first : ℕ → Option ℕ) (lists drawn : List (List ℕ)) → AreAllDrawn first lists drawn → length drawn ≡ length lists
as_many first [] drawn are = ap length are
as_many first (listed ∷ lists) [] are = absurd are
as_many first (listed ∷ lists) (d ∷ drawn) are = ap suc (as_many first lists drawn are.1)

-- one list more
pub one_list_more : (first : ℕ → Option ℕ) (lists drawn : List (List ℕ)) (listed one : List ℕ) → AreAllDrawn first lists drawn → AreDrawn first listed one
    → AreAllDrawn first (lists ++ listed ∷ []) (drawn ++ one ∷ [])
one_list_more first [] drawn listed one are here = subst (λ ds. AreAllDrawn first (listed ∷ []) (ds ++ one ∷ [])) (sym are) (here, refl)
one_list_more first (l ∷ lists) [] listed one are here = absurd are
one_list_more first (l ∷ lists) (d ∷ drawn) listed one are here = (are.0, one_list_more first lists drawn listed one are.1 here)
