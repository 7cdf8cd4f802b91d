-- The kind that is found is the one kind of the words.
use Rattle.std.proofs.Common.{◌≡◌, ℕ, suc, ◌+◌, Bool, true, false, not, ◌&&◌, List, [], ◌∷◌, ◌++◌, length, take, drop, Some, None, Option, refl, sym, ap, ◌∙◌, subst, arith, eqb}
use Rattle.std.specs.List.{position, list_all}
use Rattle.std.specs.Option.{IfSome}
use Rattle.std.specs.Char.{is_ascii_digit, to_ascii_lowercase}
use Rattle.std.specs.Str.{str_eq_ignore_ascii_case}
use Rattle.std.specs.Prelude.{codes}
use Rattle.std.proofs.lemmas.Bool.Decides.{nat_tests}
use Rattle.plan_text.specs.Piece.{Piece}
use Rattle.plan_text.specs.Line.{LineKind, blank, roots, action, decomposition, IsOfKind, IsRootsOf, IsActionOf, IsDecompositionOf, is_root, is_number, is_arrow, is_no_arrow, numbers_of}
use Rattle.plan_text.specs.Reading.{kind, named_kind, cut_kind, decomposition_kind}
use Rattle.plan_text.proofs.Cases.{when}
use Rattle.plan_text.proofs.Found.{IsPosition, nowhere, somewhere, position_is, position-nowhere, position-somewhere, take-front, drop-front}

-- ## What is found is right

-- what is found after the arrow makes the words a decomposition line
decomposition_sound : (id task : Piece) (front : List Piece) (sign : Piece) (after : List Piece) → is_number id ≡ true → list_all is_no_arrow (task ∷ front) ≡ true → is_arrow sign ≡ true → IfSome (decomposition_kind id task front after) (λ k. IsOfKind ((id ∷ task ∷ front) ++ sign ∷ after) k)
decomposition_sound id task front sign [] number clear arrow = tt
decomposition_sound id task front sign (method ∷ children) number clear arrow = when (is_no_arrow method)
    (λ one. when (list_all is_number children)
    (λ all. rw (one, all) (record { sign = sign; whole = refl; number = number; no_arrow = clear; arrow = arrow; one_arrow = one; all_numbers = all }))
    (λ some. rw (one, some) tt))
    (λ two. rw two tt)

-- what is found by the place of the arrow is the kind of the words
cut_sound : (id name : Piece) (rest : List Piece) (found : Option ℕ) → IsPosition is_arrow rest found → is_number id ≡ true → is_arrow name ≡ false → IfSome (cut_kind id name rest found) (λ k. IsOfKind (id ∷ name ∷ rest) k)
cut_sound id name rest None (nowhere all) number clear = record { whole = refl; number = number; no_arrow = rw clear all }
cut_sound id name rest (Some n) (somewhere front sign back whole all arrow) number clear =
    let sound = decomposition_sound id name front sign back number (rw clear all) arrow in
    rw (whole, take-front front sign back, drop-front front sign back) sound

-- what is found after the number is the kind of the words
named_sound : (id : Piece) (ws : List Piece) → is_number id ≡ true → IfSome (named_kind id ws) (λ k. IsOfKind (id ∷ ws) k)
named_sound id [] number = tt
named_sound id (name ∷ rest) number = when (is_arrow name)
    (λ arrow. rw arrow tt)
    (λ clear. rw clear (cut_sound id name rest (position is_arrow rest) (position_is is_arrow rest) number clear))

-- what is found is the kind of the words
pub kind_sound : (ws : List Piece) → IfSome (kind ws) (λ k. IsOfKind ws k)
unfolding kind
kind_sound [] = refl
kind_sound (first ∷ rest) = when (is_root first)
    (λ root. when (list_all is_number rest)
    (λ all. rw (root, all) (record { head = first; whole = refl; root = root; all_numbers = all }))
    (λ some. rw (root, some) tt))
    (λ other. when (is_number first)
    (λ number. rw (other, number) (named_sound first rest number))
    (λ word. rw (other, word) tt))

-- ## What is right is found

-- where all pass, the first does and all later ones do
pub first_all : {X : Type 0} (p : X → Bool) (x : X) (xs : List X) → list_all p (x ∷ xs) ≡ true → (p x ≡ true) × (list_all p xs ≡ true)
first_all p x xs all = when (p x)
    (λ passes. (passes, rw passes at all))
    (λ fails. let e = rw fails at all in absurd cc)

-- a name is no arrow
clear_name : (name : Piece) → is_no_arrow name ≡ true → is_arrow name ≡ false
clear_name name clear = when (is_arrow name)
    (λ arrow. let e = rw arrow at clear in absurd cc)
    (λ other. other)

-- the words of an action line are found to be one
action_complete : (id name : Piece) (arguments : List Piece) → list_all is_no_arrow (name ∷ arguments) ≡ true → named_kind id (name ∷ arguments) ≡ Some (action id name arguments)
action_complete id name arguments clear =
    let h = first_all is_no_arrow name arguments clear in
    let none_found : position is_arrow arguments ≡ None = position-nowhere is_arrow arguments h.1 in
    rw (clear_name name h.0, none_found)

-- the words of a decomposition line are found to be one
decomposition_complete : (id task : Piece) (arguments : List Piece) (sign method : Piece) (children : List Piece) → list_all is_no_arrow (task ∷ arguments) ≡ true → is_arrow sign ≡ true → is_no_arrow method ≡ true → list_all is_number children ≡ true → named_kind id (task ∷ (arguments ++ sign ∷ method ∷ children)) ≡ Some (decomposition id task arguments method children)
decomposition_complete id task arguments sign method children clear arrow one all =
    let h = first_all is_no_arrow task arguments clear in
    let found : position is_arrow (arguments ++ sign ∷ method ∷ children) ≡ Some (length arguments) = position-somewhere is_arrow arguments sign (method ∷ children) h.1 arrow in
    rw (clear_name task h.0, found, take-front arguments sign (method ∷ children), drop-front arguments sign (method ∷ children), one, all)

-- a digit isn't the letter r in any case
digit_no_letter : (d : ℕ) → is_ascii_digit d ≡ true → eqb (to_ascii_lowercase d) 114 ≡ false
digit_no_letter d digit = grind (arith, nat_tests)

-- digits don't spell `root`
digits_no_root : (bytes : List ℕ) → list_all is_ascii_digit bytes ≡ true → str_eq_ignore_ascii_case bytes (codes "root") ≡ false
digits_no_root [] all = refl
digits_no_root (d ∷ ds) all = rw (digit_no_letter d (first_all is_ascii_digit d ds all).0)

-- a number is not the word `root`
number_no_root : (w : Piece) → is_number w ≡ true → is_root w ≡ false
number_no_root w number = digits_no_root w.bytes number

-- the kind of the words is found
pub kind_complete : (ws : List Piece) (k : LineKind) → IsOfKind ws k → kind ws ≡ Some k
unfolding kind
kind_complete ws blank is = rw is
kind_complete ws (roots numbers) is = rw (is.whole, is.root, is.all_numbers)
kind_complete ws (action id name arguments) is =
    rw (is.whole, number_no_root id is.number, is.number) (action_complete id name arguments is.no_arrow)
kind_complete ws (decomposition id task arguments method children) is =
    rw (is.whole, number_no_root id is.number, is.number) (decomposition_complete id task arguments is.sign method children is.no_arrow is.arrow is.one_arrow is.all_numbers)

-- words have one kind
pub one_kind : (ws : List Piece) (k l : LineKind) → IsOfKind ws k → IsOfKind ws l → k ≡ l
one_kind ws k l is_k is_l =
    let a = kind_complete ws k is_k in
    let b = kind_complete ws l is_l in
    cc

-- the numbers of a line are words of digits
pub numbers_are : (ws : List Piece) (k : LineKind) → IsOfKind ws k → list_all is_number (numbers_of k) ≡ true
numbers_are ws blank is = refl
numbers_are ws (roots numbers) is = is.all_numbers
numbers_are ws (action id name arguments) is = rw is.number
numbers_are ws (decomposition id task arguments method children) is = rw is.number is.all_numbers

-- the kind that is found is that of the words
pub found_kind : (ws : List Piece) (k : LineKind) → Some k ≡ kind ws → IsOfKind ws k
found_kind ws k e = let sound = kind_sound ws in rw (sym e) at sound

-- where none is found, the words have no kind
pub no_kind : (ws : List Piece) → None ≡ kind ws → (k : LineKind) → IsOfKind ws k → ⊥
no_kind ws e k is = let complete = kind_complete ws k is in cc
