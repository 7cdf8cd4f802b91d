-- Sets of numbers that grow, and numbers that stand more than once.
use Rattle.std.proofs.Common.{◌≡◌, ◌⊎◌, ◌↔◌, ℕ, zero, suc, ◌+◌, ◌<◌, Bool, true, false, not, List, [], ◌∷◌, ◌++◌, length, take, get_or, nat_eq, if◌then◌else◌, Result, Ok, Err, inl, inr, refl, sym, ap, ◌∙◌, subst, append-nil, append_assoc, arith}
use Rattle.std.specs.List.{list_any}
use Rattle.std.specs.Result.{OnOk}
use Rattle.std.proofs.lemmas.Bool.{eqb-true, eq-eqb}
use Rattle.std.proofs.lemmas.List.{take_more}
use Rattle.indexmap.specs.IndexSet.{insert_key}
use Rattle.htn_model.specs.PlanFile.{ActionLine, DecompositionLine, IsIn, IsWithoutRepeats, action_ids, all_children, decomposition_ids}
use Rattle.htn_model.proofs.Ascending.{any_some, any_in, in_left, in_right}
use Rattle.htn_model.proofs.Rearranged.{distinct_with}
use Rattle.plan_causes.specs.Structure.{AreExactly, IsMissing, IsRepeated}

-- a number is among others where a test for it finds one
pub found_in : (x : ℕ) (xs : List ℕ) → list_any (nat_eq x) xs ≡ true → IsIn x xs
found_in x xs h = let (y, i, e) = any_some (nat_eq x) xs h in subst (λ z. IsIn z xs) (sym (eqb-true x y e)) i

-- and is not where it finds none
pub not_found : (x : ℕ) (xs : List ℕ) → list_any (nat_eq x) xs ≡ false → IsIn x xs → ⊥
not_found x xs h i = let f = any_in (nat_eq x) x xs i (eq-eqb x x refl) in absurd cc

-- a number that can't be missing is there
pub is_there : (x : ℕ) (xs : List ℕ) → ((IsIn x xs → ⊥) → ⊥) → IsIn x xs
is_there x xs n = by (list_any (nat_eq x) xs) refl
  where
    by : (found : Bool) → list_any (nat_eq x) xs ≡ found → IsIn x xs
    by true f = found_in x xs f
    by false f = absurd (n (not_found x xs f))

-- a member of a list with one more at its end
pub in_push : (y x : ℕ) (xs : List ℕ) → IsIn y (xs ++ x ∷ []) ↔ (IsIn y xs ⊎ (y ≡ x))
in_push y x xs = (parts xs, whole)
  where
    parts : (xs : List ℕ) → IsIn y (xs ++ x ∷ []) → IsIn y xs ⊎ (y ≡ x)
    parts [] (inl e) = inr e
    parts [] (inr i) = absurd i
    parts (z ∷ xs) (inl e) = inl (inl e)
    parts (z ∷ xs) (inr i) = elim (parts xs i) [ inl there ↦ inl (inr there) | inr e ↦ inr e ]

    whole : IsIn y xs ⊎ (y ≡ x) → IsIn y (xs ++ x ∷ [])
    whole (inl i) = in_left y xs (x ∷ []) i
    whole (inr e) = in_right y xs (x ∷ []) (inl e)

-- a set with one number more
pub in_after : (x : ℕ) (before after : List ℕ) → after ≡ insert_key nat_eq before x → (y : ℕ) → IsIn y after ↔ (IsIn y before ⊎ (y ≡ x))
in_after x before after keys y = by (list_any (nat_eq x) before) refl keys
  where
    by : (found : Bool) → list_any (nat_eq x) before ≡ found → after ≡ (if found then before else before ++ x ∷ []) → IsIn y after ↔ (IsIn y before ⊎ (y ≡ x))
    by true f k = (
      (λ i. inl (subst (IsIn y) k i)),
      (λ w. subst (IsIn y) (sym k) (elim w [ inl i ↦ i | inr e ↦ subst (λ z. IsIn z before) (sym e) (found_in x before f) ])),
    )
    by false f k = ((λ i. (in_push y x before).0 (subst (IsIn y) k i)), (λ w. subst (IsIn y) (sym k) ((in_push y x before).1 w)))

-- and without repeats
pub once_after : (x : ℕ) (before after : List ℕ) → after ≡ insert_key nat_eq before x → IsWithoutRepeats before → IsWithoutRepeats after
once_after x before after keys once = by (list_any (nat_eq x) before) refl keys
  where
    by : (found : Bool) → list_any (nat_eq x) before ≡ found → after ≡ (if found then before else before ++ x ∷ []) → IsWithoutRepeats after
    by true f k = subst IsWithoutRepeats (sym k) once
    by false f k =
        subst IsWithoutRepeats (sym k)
        (distinct_with x before [] (subst IsWithoutRepeats (sym (append-nil before)) once) (λ i. not_found x before f (subst (IsIn x) (append-nil before) i)))

-- what was added was new, and what wasn't was there
pub was_in : (x : ℕ) (before : List ℕ) (b : Bool) → b ≡ not (list_any (nat_eq x) before) → b ≡ false → IsIn x before
was_in x before b added is = found_in x before (by (list_any (nat_eq x) before) (sym added ∙ is))
  where
    by : (c : Bool) → not c ≡ false → c ≡ true
    by true h = refl
    by false h = absurd cc

pub was_new : (x : ℕ) (before : List ℕ) (b : Bool) → b ≡ not (list_any (nat_eq x) before) → b ≡ true → IsIn x before → ⊥
was_new x before b added is = not_found x before (by (list_any (nat_eq x) before) (sym added ∙ is))
  where
    by : (c : Bool) → not c ≡ true → c ≡ false
    by true h = absurd cc
    by false h = refl

-- what is so is so where there is a value
pub on_ok : {T E : Type 0} (r : Result T E) (P : Type 0) → P → OnOk r P
on_ok (Ok x) P p = p
on_ok (Err e) P p = tt

-- ## One number more of a list

-- the first numbers with the next
pub next_taken : (xs : List ℕ) (i x : ℕ) → i < length xs → x ≡ get_or xs i x → take (i + 1) xs ≡ take i xs ++ x ∷ []
next_taken xs i x h is = take_more xs i x h ∙ ap (λ y. take i xs ++ y ∷ []) (sym is)

-- the set of the first numbers with the next
pub set_more : (xs set new : List ℕ) (x : ℕ) → ((y : ℕ) → IsIn y set ↔ IsIn y xs) → ((y : ℕ) → IsIn y new ↔ (IsIn y set ⊎ (y ≡ x)))
    → (y : ℕ) → IsIn y new ↔ IsIn y (xs ++ x ∷ [])
set_more xs set new x was more y = (
  (λ i. (in_push y x xs).1 (elim ((more y).0 i) [ inl there ↦ inl ((was y).0 there) | inr e ↦ inr e ])),
  (λ i. (more y).1 (elim ((in_push y x xs).0 i) [ inl there ↦ inl ((was y).1 there) | inr e ↦ inr e ])),
)

-- the same of a set that has each once
pub met_more : (xs set new : List ℕ) (x : ℕ) → AreExactly (λ y. IsIn y xs) set → IsWithoutRepeats new → ((y : ℕ) → IsIn y new ↔ (IsIn y set ⊎ (y ≡ x)))
    → AreExactly (λ y. IsIn y (xs ++ x ∷ [])) new
met_more xs set new x was once more = record { once = once; exactly = set_more xs set new x was.exactly more }

-- what stands more than once in a list with one more at its end
repeated_push : (y x : ℕ) (xs : List ℕ) → IsRepeated (xs ++ x ∷ []) y ↔ (IsRepeated xs y ⊎ ((y ≡ x) × IsIn y xs))
repeated_push y x xs = (parts xs, whole xs)
  where
    parts : (xs : List ℕ) → IsRepeated (xs ++ x ∷ []) y → IsRepeated xs y ⊎ ((y ≡ x) × IsIn y xs)
    parts [] (inl r) = absurd r.1
    parts [] (inr r) = absurd r
    parts (z ∷ xs) (inl r) = elim ((in_push y x xs).0 r.1) [ inl there ↦ inl (inl (r.0, there)) | inr e ↦ inr (e, inl r.0) ]
    parts (z ∷ xs) (inr r) = elim (parts xs r) [ inl there ↦ inl (inr there) | inr e ↦ inr (e.0, inr e.1) ]

    whole : (xs : List ℕ) → IsRepeated xs y ⊎ ((y ≡ x) × IsIn y xs) → IsRepeated (xs ++ x ∷ []) y
    whole [] (inl r) = absurd r
    whole [] (inr r) = absurd r.1
    whole (z ∷ xs) (inl (inl r)) = inl (r.0, in_left y xs (x ∷ []) r.1)
    whole (z ∷ xs) (inl (inr r)) = inr (whole xs (inl r))
    whole (z ∷ xs) (inr (e, inl same)) = inl (same, (in_push y x xs).1 (inr e))
    whole (z ∷ xs) (inr (e, inr i)) = inr (whole xs (inr (e, i)))

-- those that were met again
pub again_more : (xs met again new : List ℕ) (x : ℕ) → ((y : ℕ) → IsIn y met ↔ IsIn y xs) → AreExactly (IsRepeated xs) again → IsWithoutRepeats new
    → ((y : ℕ) → IsIn y new ↔ (IsIn y again ⊎ ((y ≡ x) × IsIn y met))) → AreExactly (IsRepeated (xs ++ x ∷ [])) new
again_more xs met again new x are exact once more = record {
  once = once;
  exactly = λ y. (
    (λ i. (repeated_push y x xs).1 (elim ((more y).0 i) [ inl there ↦ inl ((exact.exactly y).0 there) | inr e ↦ inr (e.0, (are y).0 e.1) ])),
    (λ i. (more y).1 (elim ((repeated_push y x xs).0 i) [ inl there ↦ inl ((exact.exactly y).1 there) | inr e ↦ inr (e.0, (are y).1 e.1) ])),
  );
}

-- ## Missing numbers

-- one that isn't missing changes nothing
pub present_more : (those xs missing : List ℕ) (x : ℕ) → AreExactly (IsMissing those xs) missing → IsIn x those → AreExactly (IsMissing those (xs ++ x ∷ [])) missing
present_more those xs missing x exact there = record {
  once = exact.once;
  exactly = λ y. (
    (λ i. let m = (exact.exactly y).0 i in ((in_push y x xs).1 (inl m.0), m.1)),
    (λ m. elim ((in_push y x xs).0 m.0) [
      | inl old ↦ (exact.exactly y).1 (old, m.1)
      | inr e ↦ absurd (m.1 (subst (λ z. IsIn z those) (sym e) there))
    ]),
  );
}

-- one that is missing, and that was not looked at before, is added
pub missing_more : (those xs missing : List ℕ) (x : ℕ) → AreExactly (IsMissing those xs) missing → (IsIn x those → ⊥) → (IsIn x xs → ⊥)
    → AreExactly (IsMissing those (xs ++ x ∷ [])) (missing ++ x ∷ [])
missing_more those xs missing x exact lost new = record {
  once = distinct_with x missing [] (subst IsWithoutRepeats (sym (append-nil missing)) exact.once) (λ i. new (((exact.exactly x).0 (subst (IsIn x) (append-nil missing) i)).0));
  exactly = λ y. (
    (λ i. elim ((in_push y x missing).0 i) [
      | inl old ↦ (let m = (exact.exactly y).0 old in ((in_push y x xs).1 (inl m.0), m.1))
      | inr e ↦ ((in_push y x xs).1 (inr e), (λ there. lost (subst (λ z. IsIn z those) e there)))
    ]),
    (λ m. (in_push y x missing).1 (elim ((in_push y x xs).0 m.0) [ inl old ↦ inl ((exact.exactly y).1 (old, m.1)) | inr e ↦ inr e ])),
  );
}

-- a number of a list without repeats is not among those before it
pub number_in : (xs : List ℕ) (i : ℕ) → i < length xs → IsIn (get_or xs i 0) xs
number_in [] i low = absurd (omega arith)
number_in (x ∷ xs) zero low = inl refl
number_in (x ∷ xs) (suc i) low = inr (number_in xs i (omega arith))

pub number_new : (xs : List ℕ) (i : ℕ) → IsWithoutRepeats xs → i < length xs → IsIn (get_or xs i 0) (take i xs) → ⊥
number_new [] i once low there = absurd (omega arith)
number_new (x ∷ xs) zero once low there = there
number_new (x ∷ xs) (suc i) once low (inl e) = once.0 (subst (λ z. IsIn z xs) e (number_in xs i (omega arith)))
number_new (x ∷ xs) (suc i) once low (inr there) = number_new xs i once.1 (omega arith) there

-- what is missing of the numbers of lists is missing of the lists
pub missing_of : (those these keys others ids : List ℕ) → AreExactly (λ id. IsIn id those) keys → AreExactly (λ id. IsIn id these) others → AreExactly (IsMissing keys others) ids
    → AreExactly (IsMissing those these) ids
missing_of those these keys others ids same same_too exact = record {
  once = exact.once;
  exactly = λ y. (
    (λ i. let m = (exact.exactly y).0 i in ((same_too.exactly y).0 m.0, (λ there. m.1 ((same.exactly y).1 there)))),
    (λ m. (exact.exactly y).1 ((same_too.exactly y).1 m.0, (λ there. m.1 ((same.exactly y).0 there)))),
  );
}

-- no number is in none
pub none_met : AreExactly (λ y. IsIn y []) []
none_met = record { once = tt; exactly = λ y. ((λ i. i), (λ i. i)) }

-- ## Numbers of lines

-- an action line more
pub action_ids_more : (lines : List ActionLine) (line : ActionLine) → action_ids (lines ++ line ∷ []) ≡ action_ids lines ++ line.id ∷ []
action_ids_more [] line = refl
action_ids_more (l ∷ lines) line = ap (λ ids. l.id ∷ ids) (action_ids_more lines line)

-- a decomposition line more
pub decomposition_ids_more : (lines : List DecompositionLine) (line : DecompositionLine) → decomposition_ids (lines ++ line ∷ []) ≡ decomposition_ids lines ++ line.id ∷ []
decomposition_ids_more [] line = refl
decomposition_ids_more (l ∷ lines) line = ap (λ ids. l.id ∷ ids) (decomposition_ids_more lines line)

-- the children of one more
pub all_children_more : (lines : List DecompositionLine) (line : DecompositionLine) → all_children (lines ++ line ∷ []) ≡ all_children lines ++ line.children
all_children_more [] line = append-nil line.children
all_children_more (l ∷ lines) line =
    ap (λ ids. l.children ++ ids) (all_children_more lines line) ∙ sym (append_assoc l.children (all_children lines) line.children)

-- the first of some things with the next
pub line_taken : {X : Type 0} (lines : List X) (i : ℕ) (line : X) → i < length lines → line ≡ get_or lines i line → take (i + 1) lines ≡ take i lines ++ line ∷ []
line_taken lines i line h is = take_more lines i line h ∙ ap (λ y. take i lines ++ y ∷ []) (sym is)

-- the numbers of a list of lines are those of a list that is the same
pub action_ids_step : (lines items : List ActionLine) (i : ℕ) (line : ActionLine) (id : ℕ) (before after : List ℕ) → items ≡ lines → i < length items → line ≡ get_or items i line
    → id ≡ line.id → before ≡ action_ids (take i lines) → after ≡ before ++ id ∷ [] → after ≡ action_ids (take (i + 1) lines)
action_ids_step lines items i line id before after same h is id_is was now =
    let next = ap (take (i + 1)) (sym same) ∙ line_taken items i line h is ∙ ap (λ ls. take i ls ++ line ∷ []) same in
    now ∙ ap (λ ids. ids ++ id ∷ []) was ∙ ap (λ n. action_ids (take i lines) ++ n ∷ []) id_is ∙ sym (action_ids_more (take i lines) line) ∙ ap action_ids (sym next)

pub decomposition_ids_step : (lines items : List DecompositionLine) (i : ℕ) (line : DecompositionLine) (id : ℕ) (first before after : List ℕ) → items ≡ lines → i < length items
    → line ≡ get_or items i line → id ≡ line.id → before ≡ first ++ decomposition_ids (take i lines) → after ≡ before ++ id ∷ []
    → after ≡ first ++ decomposition_ids (take (i + 1) lines)
decomposition_ids_step lines items i line id first before after same h is id_is was now =
    let next = ap (take (i + 1)) (sym same) ∙ line_taken items i line h is ∙ ap (λ ls. take i ls ++ line ∷ []) same in
    now ∙ ap (λ ids. ids ++ id ∷ []) was ∙ append_assoc first (decomposition_ids (take i lines)) (id ∷ [])
    ∙ ap (λ ids. first ++ ids) (ap (λ n. decomposition_ids (take i lines) ++ n ∷ []) id_is ∙ sym (decomposition_ids_more (take i lines) line) ∙ ap decomposition_ids (sym next))

pub all_children_step : (lines items : List DecompositionLine) (i : ℕ) (line : DecompositionLine) (children first before after : List ℕ) → items ≡ lines → i < length items
    → line ≡ get_or items i line → children ≡ line.children → before ≡ first ++ all_children (take i lines) → after ≡ before ++ children
    → after ≡ first ++ all_children (take (i + 1) lines)
all_children_step lines items i line children first before after same h is are was now =
    let next = ap (take (i + 1)) (sym same) ∙ line_taken items i line h is ∙ ap (λ ls. take i ls ++ line ∷ []) same in
    now ∙ ap (λ ids. ids ++ children) was ∙ append_assoc first (all_children (take i lines)) children
    ∙ ap (λ ids. first ++ ids) (ap (λ ids. all_children (take i lines) ++ ids) are ∙ sym (all_children_more (take i lines) line) ∙ ap all_children (sym next))

-- the first numbers with the next
pub number_taken : (xs : List ℕ) (i : ℕ) → i < length xs → take (i + 1) xs ≡ take i xs ++ get_or xs i 0 ∷ []
number_taken xs i h = take_more xs i 0 h
