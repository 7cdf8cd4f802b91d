-- Ids and the numbers of their lines.
use Rattle.std.proofs.Common.{◌≡◌, ℕ, zero, suc, ◌+◌, ◌<◌, List, [], ◌∷◌, ◌++◌, length, get_or, Some, nat_eq, position, slice_get, inl, inr, sym, refl, ap, ap₂, ◌∙◌, subst, arith}
use Rattle.std.proofs.lemmas.Bool.{eqb-true}
use Rattle.std.proofs.lemmas.List.{map-append}
use Rattle.std.proofs.lemmas.List.Quantifiers.{position-Some}
use Rattle.std.specs.List.{All}
use Rattle.std.proofs.lemmas.Option.{slice_get-get_or, slice_get_within}
use Rattle.htn_model.specs.PlanFile.{ActionLine, DecompositionLine, IsIn, IsWithoutRepeats, action_ids, decomposition_ids, all_children}
use Rattle.htn_model.proofs.Ascending.{at_in}
use Rattle.htn_model.proofs.Marked.{child_listed}
use Rattle.plan_text.specs.Numbers.{AreNumbersOf, AreNumbersOfChildren, IsUnknown}
use Rattle.plan_text.proofs.Adding.{get_in}

-- a listed id is that of one of the lines
pub at_number : (ids numbers listed : List ℕ) → AreNumbersOf ids numbers listed → (id : ℕ) → IsIn id listed → (n : ℕ) × IsIn n numbers × (slice_get ids n ≡ Some id)
at_number ids [] [] are id i = absurd i
at_number ids [] (x ∷ listed) are id i = absurd cc
at_number ids (n ∷ numbers) [] are id i = absurd i
at_number ids (n ∷ numbers) (x ∷ listed) are id (inl same) =
    let head : slice_get ids n ≡ Some x = cc in (n, inl refl, head ∙ ap Some (sym same))
at_number ids (n ∷ numbers) (x ∷ listed) are id (inr i) =
    let tail : AreNumbersOf ids numbers listed = cc in
    let (m, there, is) = at_number ids numbers listed tail id i in
    (m, inr there, is)

-- and each of the lines has an id that is listed
pub of_number : (ids numbers listed : List ℕ) → AreNumbersOf ids numbers listed → (n : ℕ) → IsIn n numbers → (id : ℕ) × IsIn id listed × (slice_get ids n ≡ Some id)
of_number ids [] listed are n i = absurd i
of_number ids (m ∷ numbers) [] are n i = absurd cc
of_number ids (m ∷ numbers) (x ∷ listed) are n (inl same) =
    let head : slice_get ids m ≡ Some x = cc in (x, inl refl, ap (slice_get ids) same ∙ head)
of_number ids (m ∷ numbers) (x ∷ listed) are n (inr i) =
    let tail : AreNumbersOf ids numbers listed = cc in
    let (id, there, is) = of_number ids numbers listed tail n i in
    (id, inr there, is)

-- no two lines have one id
pub one_number : (ids : List ℕ) → IsWithoutRepeats ids → (a b id : ℕ) → slice_get ids a ≡ Some id → slice_get ids b ≡ Some id → a ≡ b
one_number [] once a b id e h = absurd cc
one_number (x ∷ ids) once zero zero id e h = refl
one_number (x ∷ ids) once zero (suc b) id e h = let same : x ≡ id = cc in absurd (once.0 (subst (λ z. IsIn z ids) (sym same) (at_in id ids b h)))
one_number (x ∷ ids) once (suc a) zero id e h = let same : x ≡ id = cc in absurd (once.0 (subst (λ z. IsIn z ids) (sym same) (at_in id ids a e)))
one_number (x ∷ ids) once (suc a) (suc b) id e h = ap suc (one_number ids once.1 a b id e h)

-- ## Children

-- as many lists as lines
pub as_many_lists : (ids : List ℕ) (lists : List (List ℕ)) (lines : List DecompositionLine) → AreNumbersOfChildren ids lists lines → length lists ≡ length lines
as_many_lists ids [] lines are = ap length (sym are)
as_many_lists ids (numbers ∷ lists) [] are = absurd are
as_many_lists ids (numbers ∷ lists) (line ∷ lines) are = ap suc (as_many_lists ids lists lines are.1)

-- the children of the line at a place
pub children_numbers : (ids : List ℕ) (lists : List (List ℕ)) (lines : List DecompositionLine) → AreNumbersOfChildren ids lists lines
    → (j : ℕ) (line : DecompositionLine) → slice_get lines j ≡ Some line → AreNumbersOf ids (get_or lists j []) line.children
children_numbers ids [] lines are j line h = let none = subst (λ ls. slice_get ls j ≡ Some line) are h in absurd cc
children_numbers ids (numbers ∷ lists) [] are j line h = absurd are
children_numbers ids (numbers ∷ lists) (l ∷ lines) are zero line h = let same : l ≡ line = cc in subst (λ x. AreNumbersOf ids numbers x.children) same are.0
children_numbers ids (numbers ∷ lists) (l ∷ lines) are (suc j) line h = children_numbers ids lists lines are.1 j line h

-- one line's children more
pub one_list_more : (ids : List ℕ) (lists : List (List ℕ)) (lines : List DecompositionLine) (numbers : List ℕ) (line : DecompositionLine)
    → AreNumbersOfChildren ids lists lines → AreNumbersOf ids numbers line.children → AreNumbersOfChildren ids (lists ++ numbers ∷ []) (lines ++ line ∷ [])
one_list_more ids [] lines numbers line are here = subst (λ ls. AreNumbersOfChildren ids (numbers ∷ []) (ls ++ line ∷ [])) (sym are) (here, refl)
one_list_more ids (ns ∷ lists) [] numbers line are here = absurd are
one_list_more ids (ns ∷ lists) (l ∷ lines) numbers line are here = (are.0, one_list_more ids lists lines numbers line are.1 here)

-- ## Ids of lines

-- an action line's id stands at its place
pub action_id_at : (lines : List ActionLine) (more : List ℕ) (i : ℕ) (line : ActionLine) → slice_get lines i ≡ Some line → slice_get (action_ids lines ++ more) i ≡ Some line.id
action_id_at [] more i line h = absurd cc
action_id_at (l ∷ lines) more zero line h = let same : l ≡ line = cc in ap (λ x. Some x.id) same
action_id_at (l ∷ lines) more (suc i) line h = action_id_at lines more i line h

-- a decomposition line's id stands at its place
pub decomposition_id_at : (lines : List DecompositionLine) (j : ℕ) (line : DecompositionLine) → slice_get lines j ≡ Some line → slice_get (decomposition_ids lines) j ≡ Some line.id
decomposition_id_at [] j line h = absurd cc
decomposition_id_at (l ∷ lines) zero line h = let same : l ≡ line = cc in ap (λ x. Some x.id) same
decomposition_id_at (l ∷ lines) (suc j) line h = decomposition_id_at lines j line h

-- what stands past the action lines
pub past_actions : (lines : List ActionLine) (more : List ℕ) (j : ℕ) → slice_get (action_ids lines ++ more) (length lines + j) ≡ slice_get more j
past_actions [] more j = ap (slice_get more) (omega arith)
past_actions (l ∷ lines) more j =
    let e : length (l ∷ lines) + j ≡ suc (length lines + j) = omega arith in
    ap (slice_get (action_ids (l ∷ lines) ++ more)) e ∙ past_actions lines more j

-- as many ids as action lines
pub as_many_action_ids : (lines : List ActionLine) → length (action_ids lines) ≡ length lines
as_many_action_ids [] = refl
as_many_action_ids (l ∷ lines) = ap suc (as_many_action_ids lines)

-- as many ids as decomposition lines
pub as_many_decomposition_ids : (lines : List DecompositionLine) → length (decomposition_ids lines) ≡ length lines
as_many_decomposition_ids [] = refl
as_many_decomposition_ids (l ∷ lines) = ap suc (as_many_decomposition_ids lines)

-- ## Numbers that are found

-- the place at which an id is found is its line's number
pub found_at : (id n : ℕ) (ids : List ℕ) → Some n ≡ position (nat_eq id) ids → slice_get ids n ≡ Some id
found_at id n ids e =
    let (low, same, first) = position-Some (nat_eq id) ids n 0 (sym e) in
    slice_get-get_or ids n 0 low ∙ ap Some (sym (eqb-true id (get_or ids n 0) same))

-- one listed id more
pub one_number_more : (ids numbers listed : List ℕ) (n id : ℕ) → AreNumbersOf ids numbers listed → slice_get ids n ≡ Some id → AreNumbersOf ids (numbers ++ n ∷ []) (listed ++ id ∷ [])
one_number_more ids numbers listed n id are e =
    map-append (slice_get ids) numbers (n ∷ []) ∙ ap₂ (λ xs x. xs ++ x ∷ []) are e ∙ sym (map-append Some listed (id ∷ []))

-- an id that no line has among one line's children is one among all
pub unknown_child : (ids children : List ℕ) (lines : List DecompositionLine) (i : ℕ) (d : DecompositionLine) → i < length lines → children ≡ (get_or lines i d).children
    → IsUnknown ids children → IsUnknown ids (all_children lines)
unknown_child ids children lines i d h e (id, there, unknown) = (id, child_listed id (get_or lines i d) lines (line_in lines i d h) (subst (IsIn id) e there), unknown)
  where
    line_in : (lines : List DecompositionLine) (i : ℕ) (d : DecompositionLine) → i < length lines → IsIn (get_or lines i d) lines
    line_in [] i d h = absurd (omega arith)
    line_in (l ∷ lines) zero d h = inl refl
    line_in (l ∷ lines) (suc i) d h = inr (line_in lines i d (omega arith))

-- lines have numbers below the count of ids
pub numbers_within : (ids numbers listed : List ℕ) → AreNumbersOf ids numbers listed → All (λ n. n < length ids) numbers
numbers_within ids numbers listed are k d h = let (id, there, is) = of_number ids numbers listed are (get_or numbers k d) (get_in numbers k d h) in slice_get_within ids (get_or numbers k d) id is

-- and so have all children
pub lists_within : (ids : List ℕ) (lists : List (List ℕ)) (lines : List DecompositionLine) → AreNumbersOfChildren ids lists lines → All (All (λ n. n < length ids)) lists
lists_within ids [] lines are k d h = absurd (omega arith)
lists_within ids (numbers ∷ lists) [] are k d h = absurd are
lists_within ids (numbers ∷ lists) (line ∷ lines) are zero d h = numbers_within ids numbers line.children are.0
lists_within ids (numbers ∷ lists) (line ∷ lines) are (suc k) d h = lists_within ids lists lines are.1 k d (omega arith)

-- a line stands at each place below the count
pub line_there : (lines : List DecompositionLine) (j : ℕ) → j < length lines → (line : DecompositionLine) × (slice_get lines j ≡ Some line)
line_there [] j h = absurd (omega arith)
line_there (l ∷ lines) zero h = (l, refl)
line_there (l ∷ lines) (suc j) h = line_there lines j (omega arith)
