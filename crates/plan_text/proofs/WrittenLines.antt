-- What a written line is, read again.
use Rattle.std.proofs.Common.{◌≡◌, ◌≢◌, ℕ, zero, suc, ◌+◌, ◌<◌, ◌≤◌, ◌^◌, Bool, true, false, not, ◌&&◌, ◌||◌, ltb, eqb, List, [], ◌∷◌, ◌++◌, length, map, append_assoc, refl, sym, ap, ◌∙◌, subst, arith}
use Rattle.std.specs.Prelude.{codes}
use Rattle.std.specs.List.{list_all, AllByRecursion, flat_map}
use Rattle.std.specs.Char.{is_ascii_digit, digit_value, to_ascii_lowercase, is_ascii_uppercase}
use Rattle.std.specs.Str.{bytes_eq, str_eq_ignore_ascii_case}
use Rattle.std.specs.Str.Parse.{AllDigits, digits_value}
use Rattle.std.specs.Fmt.{decimal}
use Rattle.std.proofs.lemmas.Bool.{lt-ltb, eqb-true}
use Rattle.std.proofs.lemmas.Bool.Decides.{nat_tests}
use Rattle.std.proofs.lemmas.Fmt.{decimal_is_IsNumeral}
use Rattle.std.proofs.lemmas.List.{map-append}
use Rattle.htn_model.specs.PlanWord.{is_blank, is_printable}
use Rattle.plan_text.specs.Piece.{Piece, piece, pieces, is_line_feed, is_filled_by, words, words_at}
use Rattle.htn_model.specs.PlanFile.{Word, ActionLine, DecompositionLine}
use Rattle.htn_model.specs.PlanWord.{arrow, is_name_byte, IsName}
use Rattle.plan_text.specs.PlanFile.{IsId, IsActionLine, IsDecompositionLine}
use Rattle.plan_text.specs.Line.{LineKind, blank, roots, action, decomposition, IsLine, IsLegal, is_legal, is_small, is_number, is_arrow, is_no_arrow, is_root, number, folded, numbers_of, actions_of, root_lists_of, decompositions_of}
use Rattle.plan_text.specs.FileText.{is_marker, is_only, end_marker}
use Rattle.plan_text.specs.Written.{spaced, action_words, root_words, decomposition_words}
use Rattle.plan_text.proofs.Cases.{when}
use Rattle.plan_text.proofs.KindLaws.{first_all}
use Rattle.plan_text.proofs.LineLaws.{list_all_same}
use Rattle.plan_text.proofs.Names.{all_both}
use Rattle.plan_text.proofs.WrittenCuts.{IsSolid, IsInLine, joined, words-joined, all-joined}

-- ## Bytes

-- a byte that may stand in a word of a written line
abbrev is_word_byte : ℕ → Bool
is_word_byte b = is_printable b && not (is_blank b)

-- where two tests hold together, each does
both_of : (x y : Bool) → (x && y) ≡ true → (x ≡ true) × (y ≡ true)
both_of true y h = (refl, h)
both_of false y h = absurd cc

-- two tests that hold hold together
joined_of : (x y : Bool) → x ≡ true → y ≡ true → (x && y) ≡ true
joined_of true y h k = k
joined_of false y h k = absurd cc

-- where the second holds, either does
either_of : (x y : Bool) → y ≡ true → (x || y) ≡ true
either_of true y h = refl
either_of false y h = h

-- where one test follows from another, it holds of all bytes of which the other does
all_follow : (p q : ℕ → Bool) → ((b : ℕ) → p b ≡ true → q b ≡ true) → (bytes : List ℕ) → list_all p bytes ≡ true → list_all q bytes ≡ true
all_follow p q follows [] all = refl
all_follow p q follows (b ∷ bytes) all =
    let h = first_all p b bytes all in
    rw (follows b h.0) (all_follow p q follows bytes h.1)

-- a digit is a byte of a word
digit_word_byte : (b : ℕ) → is_ascii_digit b ≡ true → is_word_byte b ≡ true
digit_word_byte b digit = grind (arith, nat_tests)

-- a printable byte is no line feed
printable_no_feed : (b : ℕ) → is_printable b ≡ true → not (is_line_feed b) ≡ true
printable_no_feed b printable = grind (arith, nat_tests)

-- a byte of a word is no line feed
word_byte_no_feed : (b : ℕ) → is_word_byte b ≡ true → not (is_line_feed b) ≡ true
word_byte_no_feed b word = printable_no_feed b (both_of (is_printable b) (not (is_blank b)) word).0

-- a byte of a word is no blank
word_byte_clear : (b : ℕ) → is_word_byte b ≡ true → not (is_blank b) ≡ true
word_byte_clear b word = (both_of (is_printable b) (not (is_blank b)) word).1

-- a byte of a word is legal
word_byte_legal : (b : ℕ) → is_word_byte b ≡ true → is_legal b ≡ true
word_byte_legal b word = either_of (is_blank b) (is_printable b) (both_of (is_printable b) (not (is_blank b)) word).0

-- a word of a written line
record IsWord (w : Word) : Type 0 where
  filled : 0 < length w
  bytes : list_all is_word_byte w ≡ true

-- a byte of a name is one of a word
name_word_byte : (b : ℕ) → is_name_byte b ≡ true → is_word_byte b ≡ true
name_word_byte b name = (both_of (is_word_byte b) (not (is_ascii_uppercase b)) name).0

-- a name is a word
name_word : (w : Word) → IsName w → IsWord w
name_word w name = record { filled = name.filled; bytes = all_follow is_name_byte is_word_byte name_word_byte w name.bytes }

-- a byte whose value is below ten is a digit
digit_below : (c : ℕ) → digit_value c < 10 → is_ascii_digit c ≡ true
digit_below c h = grind (arith, nat_tests)

-- digits by value are digits
digits_are : (ds : List ℕ) → AllDigits 10 ds → list_all is_ascii_digit ds ≡ true
digits_are [] all = refl
digits_are (d ∷ ds) all = rw (digit_below d all.0) (digits_are ds all.1)

-- a number is written in digits
decimal_digits : (n : ℕ) → IsId n → list_all is_ascii_digit (decimal n) ≡ true
decimal_digits n id = digits_are (decimal n) (decimal_is_IsNumeral n id).0.1

-- a written number is a word
decimal_word : (n : ℕ) → IsId n → IsWord (decimal n)
decimal_word n id = record { filled = (decimal_is_IsNumeral n id).0.0; bytes = all_follow is_ascii_digit is_word_byte digit_word_byte (decimal n) (decimal_digits n id) }

-- written numbers are words
decimal_words : (ns : List ℕ) → AllByRecursion IsId ns → AllByRecursion IsWord (map decimal ns)
decimal_words [] ids = tt
decimal_words (n ∷ ns) ids = (decimal_word n ids.0, decimal_words ns ids.1)

-- names are words
name_words : (ws : List Word) → AllByRecursion IsName ws → AllByRecursion IsWord ws
name_words [] names = tt
name_words (w ∷ ws) names = (name_word w names.0, name_words ws names.1)

-- a word with a byte is filled
filled_of : (w : Word) → 0 < length w → is_filled_by w ≡ true
filled_of [] some = absurd (omega arith)
filled_of (b ∷ w) some = refl

-- words can be joined and cut again
solid_words : (ws : List Word) → AllByRecursion IsWord ws → AllByRecursion IsSolid ws
solid_words [] all = tt
solid_words (w ∷ ws) all =
    (record { filled = filled_of w all.0.filled; clear = all_follow is_word_byte (λ b. not (is_blank b)) word_byte_clear w all.0.bytes }, solid_words ws all.1)

-- what follows of a word's bytes holds of each word
each_follow : (q : ℕ → Bool) → ((b : ℕ) → is_word_byte b ≡ true → q b ≡ true) → (ws : List Word) → AllByRecursion IsWord ws → AllByRecursion (λ w. list_all q w ≡ true) ws
each_follow q follows [] all = tt
each_follow q follows (w ∷ ws) all = (all_follow is_word_byte q follows w all.0.bytes, each_follow q follows ws all.1)

-- joined words have no line feed
in_line : (ws : List Word) → AllByRecursion IsWord ws → IsInLine ws
in_line ws all = record { clear = all-joined (λ b. not (is_line_feed b)) ws refl (each_follow (λ b. not (is_line_feed b)) word_byte_no_feed ws all) }

-- joined words make a legal line
legal_line : (place : ℕ) (ws : List Word) → AllByRecursion IsWord ws → IsLegal (piece place (joined ws))
legal_line place ws all = all-joined is_legal ws refl (each_follow is_legal word_byte_legal ws all)

-- ## Words read again

-- the bytes of pieces
abbrev bytes_of : List Piece → List Word
bytes_of ps = map (λ p. p.bytes) ps

-- a written number is read as itself
number_again : (x : Piece) (n : ℕ) → x.bytes ≡ decimal n → IsId n → (is_number x ≡ true) × (is_small x ≡ true) × (number x ≡ n)
number_again x n same id =
    let value : number x ≡ n = ap (digits_value 10) same ∙ (decimal_is_IsNumeral n id).1 in
    (ap (list_all is_ascii_digit) same ∙ decimal_digits n id, ap (λ m. ltb m (2 ^ 64)) value ∙ lt-ltb n (2 ^ 64) id, value)

-- written numbers are read as themselves
numbers_again : (xs : List Piece) (ns : List ℕ) → bytes_of xs ≡ map decimal ns → AllByRecursion IsId ns → (list_all is_number xs ≡ true) × (list_all is_small xs ≡ true) × (map number xs ≡ ns)
numbers_again [] [] same ids = (refl, refl, refl)
numbers_again [] (n ∷ ns) same ids = absurd cc
numbers_again (x ∷ xs) [] same ids = absurd cc
numbers_again (x ∷ xs) (n ∷ ns) same ids =
    let first : x.bytes ≡ decimal n = cc in
    let others : bytes_of xs ≡ map decimal ns = cc in
    let one = number_again x n first ids.0 in
    let more = numbers_again xs ns others ids.1 in
    let value : number x ≡ n = one.2 in
    let values : map number xs ≡ ns = more.2 in
    let all : map number (x ∷ xs) ≡ n ∷ ns = ap (λ m. m ∷ map number xs) value ∙ ap (λ ms. n ∷ ms) values in
    (joined_of (is_number x) (list_all is_number xs) one.0 more.0, joined_of (is_small x) (list_all is_small xs) one.1 more.1, all)

-- what is no capital stays in lower case
low_same : (b : ℕ) → is_ascii_uppercase b ≡ false → to_ascii_lowercase b ≡ b
low_same b low = grind (arith, nat_tests)

-- what has its opposite hold fails
no_true : (b : Bool) → not b ≡ true → b ≡ false
no_true true h = absurd cc
no_true false h = refl

-- a name is in lower case
folded_same : (w : Word) → list_all is_name_byte w ≡ true → map to_ascii_lowercase w ≡ w
folded_same [] all = refl
folded_same (b ∷ w) all =
    let h = first_all is_name_byte b w all in
    let low = low_same b (no_true (is_ascii_uppercase b) (both_of (is_word_byte b) (not (is_ascii_uppercase b)) h.0).1) in
    ap (λ c. c ∷ map to_ascii_lowercase w) low ∙ ap (λ cs. b ∷ cs) (folded_same w h.1)

-- only the arrow's bytes are the arrow
arrow_only : (w : Word) → bytes_eq w (45 ∷ 62 ∷ []) ≡ true → w ≡ 45 ∷ 62 ∷ []
arrow_only [] h = absurd cc
arrow_only (a ∷ []) h = absurd (let x = both_of (eqb a 45) false h in cc)
arrow_only (a ∷ b ∷ []) h =
    let x = both_of (eqb a 45) (eqb b 62 && true) h in
    let y = both_of (eqb b 62) true x.1 in
    let first = eqb-true a 45 x.0 in
    let second = eqb-true b 62 y.0 in
    cc
arrow_only (a ∷ b ∷ c ∷ w) h =
    let x = both_of (eqb a 45) (eqb b 62 && false) h in
    let y = both_of (eqb b 62) false x.1 in
    absurd cc

-- a written name is read as itself
name_again : (x : Piece) (w : Word) → x.bytes ≡ w → IsName w → (is_no_arrow x ≡ true) × (folded x ≡ w)
name_again x w same name =
    let clear : is_no_arrow x ≡ true = when (is_arrow x)
    (λ arrow. absurd (name.other (sym same ∙ arrow_only x.bytes arrow)))
    (λ other. rw other) in
    (clear, ap (map to_ascii_lowercase) same ∙ folded_same w name.bytes)

-- written names are read as themselves
names_again : (xs : List Piece) (ws : List Word) → bytes_of xs ≡ ws → AllByRecursion IsName ws → (list_all is_no_arrow xs ≡ true) × (map folded xs ≡ ws)
names_again [] [] same names = (refl, refl)
names_again [] (w ∷ ws) same names = absurd cc
names_again (x ∷ xs) [] same names = absurd cc
names_again (x ∷ xs) (w ∷ ws) same names =
    let first : x.bytes ≡ w = cc in
    let others : bytes_of xs ≡ ws = cc in
    let one = name_again x w first names.0 in
    let more = names_again xs ws others names.1 in
    let all : map folded (x ∷ xs) ≡ w ∷ ws = ap (λ v. v ∷ map folded xs) one.1 ∙ ap (λ vs. w ∷ vs) more.1 in
    (joined_of (is_no_arrow x) (list_all is_no_arrow xs) one.0 more.0, all)

-- ## Lines read again

-- the line reads back as these lines of a file, and is no end marker
pub record IsWritten (line : Piece) (as_ : List ActionLine) (lists : List (List ℕ)) (ds : List DecompositionLine) : Type 0 where
  pub kind : LineKind
  pub is : IsLine line kind
  pub no_end : is_marker end_marker line ≡ false
  pub actions_are : actions_of kind ≡ as_
  pub lists_are : root_lists_of kind ≡ lists
  pub decompositions_are : decompositions_of kind ≡ ds

-- one action line, as a list
abbrev one_action : ℕ → Word → List Word → List ActionLine
one_action id name arguments = record { id = id; name = name; arguments = arguments } ∷ []

-- one decomposition line, as a list
abbrev one_decomposition : ℕ → Word → List Word → Word → List ℕ → List DecompositionLine
one_decomposition id task arguments method children = record { id = id; task = task; arguments = arguments; method = method; children = children } ∷ []

-- a line with an action's words is its action line
action_from : (line : Piece) (a : ActionLine) → IsLegal line → IsActionLine a → (xs : List Piece) → words line ≡ xs → bytes_of xs ≡ action_words a → IsWritten line (a ∷ []) [] []
action_from line a legal valid [] whole same = absurd cc
action_from line a legal valid (x ∷ []) whole same = absurd cc
action_from line a legal valid (x ∷ y ∷ zs) whole same =
    let id_is : x.bytes ≡ decimal a.id = cc in
    let name_is : y.bytes ≡ a.name = cc in
    let arguments_are : bytes_of zs ≡ a.arguments = cc in
    let id = number_again x a.id id_is valid.id in
    let name = name_again y a.name name_is valid.name in
    let arguments = names_again zs a.arguments arguments_are valid.arguments in
    let value : number x ≡ a.id = id.2 in
    record {
      kind = action x y zs;
      is = record { legal = legal; of_kind = record { whole = whole; number = id.0; no_arrow = joined_of (is_no_arrow y) (list_all is_no_arrow zs) name.0 arguments.0 }; small = joined_of (is_small x) true id.1 refl };
      no_end = ap (is_only end_marker) whole;
      actions_are = ap (λ n. one_action n (folded y) (map folded zs)) value ∙ ap (λ n. one_action a.id n (map folded zs)) name.1 ∙ ap (λ ws. one_action a.id a.name ws) arguments.1;
      lists_are = refl;
      decompositions_are = refl;
    }

-- a line with the roots' words is their root line
roots_from : (line : Piece) (ns : List ℕ) → IsLegal line → AllByRecursion IsId ns → (xs : List Piece) → words line ≡ xs → bytes_of xs ≡ root_words ns → IsWritten line [] (ns ∷ []) []
roots_from line ns legal ids [] whole same = absurd cc
roots_from line ns legal ids (x ∷ zs) whole same =
    let head_is : x.bytes ≡ codes "root" = cc in
    let numbers_are : bytes_of zs ≡ map decimal ns = cc in
    let numbers = numbers_again zs ns numbers_are ids in
    record {
      kind = roots zs;
      is = record { legal = legal; of_kind = record { head = x; whole = whole; root = ap (λ bytes. str_eq_ignore_ascii_case bytes (codes "root")) head_is; all_numbers = numbers.0 }; small = numbers.1 };
      no_end = ap (is_only end_marker) whole ∙ no_marker zs head_is;
      actions_are = refl;
      lists_are = ap (λ ids. ids ∷ []) numbers.2;
      decompositions_are = refl;
    }
  where
    no_marker : (zs : List Piece) → x.bytes ≡ codes "root" → is_only end_marker (x ∷ zs) ≡ false
    no_marker [] head_is = ap (λ bytes. bytes_eq bytes end_marker) head_is
    no_marker (z ∷ zs) head_is = refl

-- pieces of two runs of words
record IsSplit (xs : List Piece) (us vs : List Word) : Type 0 where
  front : List Piece
  back : List Piece
  whole : xs ≡ front ++ back
  front_is : bytes_of front ≡ us
  back_is : bytes_of back ≡ vs

-- pieces with the bytes of two lists are those of each
split_bytes : (xs : List Piece) (us vs : List Word) → bytes_of xs ≡ us ++ vs → IsSplit xs us vs
split_bytes xs [] vs same = record { front = []; back = xs; whole = refl; front_is = refl; back_is = same }
split_bytes [] (u ∷ us) vs same = absurd cc
split_bytes (x ∷ xs) (u ∷ us) vs same =
    let first : x.bytes ≡ u = cc in
    let others : bytes_of xs ≡ us ++ vs = cc in
    let more = split_bytes xs us vs others in
    record {
      front = x ∷ more.front;
      back = more.back;
      whole = ap (λ ps. x ∷ ps) more.whole;
      front_is = ap (λ b. b ∷ bytes_of more.front) first ∙ ap (λ bs. u ∷ bs) more.front_is;
      back_is = more.back_is;
    }

-- a line whose words are cut at the arrow is its decomposition line
tail_from : (line : Piece) (d : DecompositionLine) → IsLegal line → IsDecompositionLine d → (x y : Piece) (front back : List Piece) → words line ≡ (x ∷ y ∷ front) ++ back → x.bytes ≡ decimal d.id → y.bytes ≡ d.task → bytes_of front ≡ d.arguments → bytes_of back ≡ arrow ∷ d.method ∷ map decimal d.children → IsWritten line [] [] (d ∷ [])
tail_from line d legal valid x y front [] whole id_is task_is arguments_are same = absurd cc
tail_from line d legal valid x y front (s ∷ []) whole id_is task_is arguments_are same = absurd cc
tail_from line d legal valid x y front (s ∷ m ∷ kids) whole id_is task_is arguments_are same =
    let sign_is : s.bytes ≡ arrow = cc in
    let method_is : m.bytes ≡ d.method = cc in
    let children_are : bytes_of kids ≡ map decimal d.children = cc in
    let id = number_again x d.id id_is valid.id in
    let task = name_again y d.task task_is valid.task in
    let arguments = names_again front d.arguments arguments_are valid.arguments in
    let method = name_again m d.method method_is valid.method in
    let children = numbers_again kids d.children children_are valid.children in
    let value : number x ≡ d.id = id.2 in
    let values : map number kids ≡ d.children = children.2 in
    record {
      kind = decomposition x y front m kids;
      is = record {
        legal = legal;
        of_kind = record {
          sign = s;
          whole = whole;
          number = id.0;
          no_arrow = joined_of (is_no_arrow y) (list_all is_no_arrow front) task.0 arguments.0;
          arrow = ap (λ bytes. bytes_eq bytes arrow) sign_is;
          one_arrow = method.0;
          all_numbers = children.0;
        };
        small = joined_of (is_small x) (list_all is_small kids) id.1 children.1;
      };
      no_end = ap (is_only end_marker) whole;
      actions_are = refl;
      lists_are = refl;
      decompositions_are =
          ap (λ n. one_decomposition n (folded y) (map folded front) (folded m) (map number kids)) value
          ∙ ap (λ n. one_decomposition d.id n (map folded front) (folded m) (map number kids)) task.1
          ∙ ap (λ ws. one_decomposition d.id d.task ws (folded m) (map number kids)) arguments.1
          ∙ ap (λ n. one_decomposition d.id d.task d.arguments n (map number kids)) method.1
          ∙ ap (λ ns. one_decomposition d.id d.task d.arguments d.method ns) values;
    }

-- a line with a decomposition's words is its line
decomposition_from : (line : Piece) (d : DecompositionLine) → IsLegal line → IsDecompositionLine d → (xs : List Piece) → words line ≡ xs → bytes_of xs ≡ decomposition_words d → IsWritten line [] [] (d ∷ [])
decomposition_from line d legal valid [] whole same = absurd cc
decomposition_from line d legal valid (x ∷ []) whole same = absurd cc
decomposition_from line d legal valid (x ∷ y ∷ rest) whole same =
    let id_is : x.bytes ≡ decimal d.id = cc in
    let task_is : y.bytes ≡ d.task = cc in
    let others : bytes_of rest ≡ d.arguments ++ arrow ∷ d.method ∷ map decimal d.children = cc in
    let parts = split_bytes rest d.arguments (arrow ∷ d.method ∷ map decimal d.children) others in
    tail_from line d legal valid x y parts.front parts.back (whole ∙ ap (λ ps. x ∷ y ∷ ps) parts.whole) id_is task_is parts.front_is parts.back_is

-- the words of an action line are words
action_all : (a : ActionLine) → IsActionLine a → AllByRecursion IsWord (action_words a)
action_all a valid = (decimal_word a.id valid.id, (name_word a.name valid.name, name_words a.arguments valid.arguments))

-- the words of a root line are words
root_all : (ns : List ℕ) → AllByRecursion IsId ns → AllByRecursion IsWord (root_words ns)
root_all ns ids = (record { filled = omega arith; bytes = refl }, decimal_words ns ids)

-- the words of a decomposition line are words
decomposition_all : (d : DecompositionLine) → IsDecompositionLine d → AllByRecursion IsWord (decomposition_words d)
decomposition_all d valid =
    let back : AllByRecursion IsWord (arrow ∷ d.method ∷ map decimal d.children) = (record { filled = omega arith; bytes = refl }, (name_word d.method valid.method, decimal_words d.children valid.children)) in
    (decimal_word d.id valid.id, (name_word d.task valid.task, all_both IsWord d.arguments (arrow ∷ d.method ∷ map decimal d.children) (name_words d.arguments valid.arguments) back))

-- an action line has no line feed
pub action_in_line : (a : ActionLine) → IsActionLine a → IsInLine (action_words a)
action_in_line a valid = in_line (action_words a) (action_all a valid)

-- a root line has no line feed
pub root_in_line : (ns : List ℕ) → AllByRecursion IsId ns → IsInLine (root_words ns)
root_in_line ns ids = in_line (root_words ns) (root_all ns ids)

-- a decomposition line has no line feed
pub decomposition_in_line : (d : DecompositionLine) → IsDecompositionLine d → IsInLine (decomposition_words d)
decomposition_in_line d valid = in_line (decomposition_words d) (decomposition_all d valid)

-- a written action line is read as itself
pub action_again : (place : ℕ) (a : ActionLine) → IsActionLine a → IsWritten (piece place (joined (action_words a))) (a ∷ []) [] []
action_again place a valid =
    let ws = action_words a in
    let all = action_all a valid in
    action_from (piece place (joined ws)) a (legal_line place ws all) valid (words_at place (joined ws)) refl (words-joined place ws (solid_words ws all))

-- a written root line is read as itself
pub roots_again : (place : ℕ) (ns : List ℕ) → AllByRecursion IsId ns → IsWritten (piece place (joined (root_words ns))) [] (ns ∷ []) []
roots_again place ns ids =
    let ws = root_words ns in
    let all = root_all ns ids in
    roots_from (piece place (joined ws)) ns (legal_line place ws all) ids (words_at place (joined ws)) refl (words-joined place ws (solid_words ws all))

-- a written decomposition line is read as itself
pub decomposition_again : (place : ℕ) (d : DecompositionLine) → IsDecompositionLine d → IsWritten (piece place (joined (decomposition_words d))) [] [] (d ∷ [])
decomposition_again place d valid =
    let ws = decomposition_words d in
    let all = decomposition_all d valid in
    decomposition_from (piece place (joined ws)) d (legal_line place ws all) valid (words_at place (joined ws)) refl (words-joined place ws (solid_words ws all))
