-- Siblings that are added from the last one on.
use Rattle.std.proofs.Common.{◌≡◌, ℕ, zero, suc, ◌+◌, ◌<◌, ◌≤◌, Bool, false, nat_eq, List, [], ◌∷◌, ◌++◌, length, get_or, drop, reverse, Option, refl, sym, ap, ◌∙◌, subst, arith}
use Rattle.std.proofs.lemmas.Bool.Decides.{nat_tests}
use Rattle.std.proofs.lemmas.List.{append-nil, append_assoc, drop_more, drop_all, map-append, reverse-append}
use Rattle.plan_picture.specs.declared.row.Row.{Row as DeclaredRow}
use Rattle.plan_picture.specs.Rows.{Row, is_end, siblings}
use Rattle.plan_picture.specs.Seen.{seen, seen_all}

same_test : (m n : ℕ) → nat_eq n m ≡ nat_eq (suc n) (suc m)
same_test m n = grind (arith, nat_tests)

no_end : (m : ℕ) → false ≡ nat_eq 0 (suc m)
no_end m = grind (arith, nat_tests)

-- nothing follows at the end
pub end_at : (n : ℕ) (lines : List ℕ) → n ≤ length lines → is_end (drop n lines) ≡ nat_eq n (length lines)
end_at zero [] h = refl
end_at zero (line ∷ lines) h = no_end (length lines)
end_at (suc n) [] h = absurd (omega arith)
end_at (suc n) (line ∷ lines) h = end_at n lines (omega arith) ∙ same_test (length lines) n

-- a row more
pub one_row : (rows : List DeclaredRow) (row : DeclaredRow) → seen_all (rows ++ row ∷ []) ≡ seen_all rows ++ seen row ∷ []
one_row rows row = map-append seen rows (row ∷ [])

-- one sibling more
pub one_sibling : (old now : List Row) (parent : Option ℕ) (depth : ℕ) (above : List Bool) (lines : List ℕ) (left : ℕ) (is_last : Bool) → left < length lines
    → now ≡ old ++ reverse (siblings parent depth above (drop (left + 1) lines)) → is_last ≡ nat_eq (left + 1) (length lines)
    → now ++ record { line = get_or lines left 0; parent = parent; depth = depth; above = above; is_last = is_last } ∷ [] ≡ old ++ reverse (siblings parent depth above (drop left lines))
one_sibling old now parent depth above lines left is_last low e is =
    let more = siblings parent depth above (drop (left + 1) lines) in
    let row : Row = record { line = get_or lines left 0; parent = parent; depth = depth; above = above; is_last = is_last } in
    let last : is_last ≡ is_end (drop (left + 1) lines) = is ∙ sym (end_at (left + 1) lines (omega arith)) in
    let whole : siblings parent depth above (drop left lines) ≡ row ∷ more =
    ap (siblings parent depth above) (drop_more lines left 0 low)
    ∙ ap (λ (b : Bool). let r : Row = record { line = get_or lines left 0; parent = parent; depth = depth; above = above; is_last = b } in r ∷ more) (sym last) in
    ap (λ xs. xs ++ row ∷ []) e ∙ append_assoc old (reverse more) (row ∷ []) ∙ ap (λ xs. old ++ xs) (sym (reverse-append (row ∷ []) more) ∙ ap reverse (sym whole))

-- the same for rows as they lie in memory
pub one_pushed : (old : List Row) (waiting : List DeclaredRow) (row : DeclaredRow) (parent : Option ℕ) (depth : ℕ) (above : List Bool) (lines : List ℕ) (left next : ℕ)
    → next + 1 ≡ left → left ≤ length lines → seen_all waiting ≡ old ++ reverse (siblings parent depth above (drop left lines))
    → row.line ≡ get_or lines next 0 → row.parent ≡ parent → row.depth ≡ depth → row.above.items ≡ above → row.is_last ≡ nat_eq left (length lines)
    → seen_all (waiting ++ row ∷ []) ≡ old ++ reverse (siblings parent depth above (drop next lines))
one_pushed old waiting row parent depth above lines left next step within there line_is parent_is depth_is above_is last_is =
    let low : next < length lines = omega arith in
    let is : seen row ≡ record { line = get_or lines next 0; parent = parent; depth = depth; above = above; is_last = row.is_last } = cc in
    one_row waiting row ∙ ap (λ (r : Row). seen_all waiting ++ r ∷ []) is
    ∙ one_sibling old (seen_all waiting) parent depth above lines next row.is_last low
    (subst (λ k. seen_all waiting ≡ old ++ reverse (siblings parent depth above (drop k lines))) (sym step) there)
    (last_is ∙ ap (λ k. nat_eq k (length lines)) (sym step))

-- at the end nothing is pushed
pub none_pushed : (old : List Row) (parent : Option ℕ) (depth : ℕ) (above : List Bool) (lines : List ℕ) (left : ℕ) → left ≡ length lines
    → old ≡ old ++ reverse (siblings parent depth above (drop left lines))
none_pushed old parent depth above lines left e =
    let none : drop left lines ≡ [] = drop_all left lines (omega arith) in
    sym (ap (λ ls. old ++ reverse (siblings parent depth above ls)) none ∙ append-nil old)
