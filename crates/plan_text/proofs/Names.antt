-- The words of a line without illegal bytes are names once their letters are folded.
use Rattle.std.proofs.Common.{◌≡◌, ◌≢◌, ℕ, suc, ◌+◌, ◌<◌, ◌≤◌, ◌^◌, Bool, true, false, not, ◌&&◌, ◌||◌, ltb, List, [], ◌∷◌, ◌++◌, length, map, Option, Some, refl, sym, ap, ◌∙◌, arith, subst}
use Rattle.std.specs.List.{list_all, AllByRecursion, filter, flat_map}
use Rattle.std.specs.Char.{to_ascii_lowercase, is_ascii_uppercase}
use Rattle.std.specs.Str.{bytes_eq}
use Rattle.std.specs.Str.Parse.{digits_value}
use Rattle.std.proofs.lemmas.Bool.{ltb-true, ltb-false}
use Rattle.std.proofs.lemmas.Bool.Decides.{nat_tests}
use Rattle.std.specs.declared.alloc.Global.{Global}
use Rattle.std.specs.declared.vec.Vec.{Vec}
use Rattle.htn_model.specs.PlanWord.{is_blank, is_printable}
use Rattle.plan_text.specs.Piece.{Piece, piece, pieces, with_front, is_filled, is_filled_by, words, words_at}
use Rattle.htn_model.specs.PlanFile.{Word, ActionLine, DecompositionLine, PlanFile}
use Rattle.htn_model.specs.PlanWord.{arrow, is_name_byte, IsName}
use Rattle.plan_text.specs.PlanFile.{IsId, IsActionLine, IsDecompositionLine, IsPlanFile}
use Rattle.plan_text.specs.Line.{LineKind, blank, roots, action, decomposition, IsOfKind, IsLine, AreLines, IsLegal, is_legal, is_small, is_arrow, is_no_arrow, number, numbers_of, folded, actions_of, root_lists_of, decompositions_of, Contents, contents_of}
use Rattle.plan_text.specs.FileText.{HoldsFile}
use Rattle.plan_text.specs.Fault.{NamesNoRoots}
use Rattle.plan_text.specs.Adding.{IsRead, root_lists_in}
use Rattle.plan_text.proofs.Cases.{when}
use Rattle.plan_text.proofs.Positions.{length_of_map}
use Rattle.plan_text.proofs.KindLaws.{first_all}

-- ## Words of legal lines

-- whether a byte is legal and no blank
abbrev is_plain : ℕ → Bool
is_plain b = is_legal b && not (is_blank b)

-- each byte of a piece is plain
abbrev IsPlainPiece : Piece → Type 0
IsPlainPiece p = list_all is_plain p.bytes ≡ true

-- a word with a byte whose bytes are all plain
record IsPlain (w : Piece) : Type 0 where
  filled : 0 < length w.bytes
  bytes : list_all is_plain w.bytes ≡ true

-- a plain byte in front leaves pieces plain
front_plain : (place b : ℕ) (ps : List Piece) → is_plain b ≡ true → AllByRecursion IsPlainPiece ps → AllByRecursion IsPlainPiece (with_front place b ps)
front_plain place b [] plain all = (rw plain, tt)
front_plain place b (p ∷ ps) plain all = (rw plain all.0, all.1)

-- a legal byte that is no blank is plain
plain_byte : (b : ℕ) → is_legal b ≡ true → is_blank b ≡ false → is_plain b ≡ true
plain_byte b legal clear = joined (is_legal b) (is_blank b) legal clear
  where
    joined : (x y : Bool) → x ≡ true → y ≡ false → (x && not y) ≡ true
    joined true false h k = refl
    joined true true h k = absurd cc
    joined false y h k = absurd cc

-- the pieces between blanks of a legal line are plain
pieces_plain : (place : ℕ) (bytes : List ℕ) → list_all is_legal bytes ≡ true → AllByRecursion IsPlainPiece (pieces is_blank place bytes)
pieces_plain place [] legal = (refl, tt)
pieces_plain place (b ∷ bytes) legal =
    let h = first_all is_legal b bytes legal in
    let rest = pieces_plain (place + 1) bytes h.1 in
    when (is_blank b)
    (λ cut. rw cut (refl, rest))
    (λ clear. rw clear (front_plain place b (pieces is_blank (place + 1) bytes) (plain_byte b h.0 clear) rest))

-- what is filled has a byte
filled_length : (bytes : List ℕ) → is_filled_by bytes ≡ true → 0 < length bytes
filled_length [] filled = absurd cc
filled_length (b ∷ bytes) filled = omega arith

-- those of plain pieces that are filled are plain words
filled_plain : (ps : List Piece) → AllByRecursion IsPlainPiece ps → AllByRecursion IsPlain (filter is_filled ps)
filled_plain [] all = tt
filled_plain (p ∷ ps) all = when (is_filled_by p.bytes)
    (λ filled. rw filled (record { filled = filled_length p.bytes filled; bytes = all.0 }, filled_plain ps all.1))
    (λ empty. rw empty (filled_plain ps all.1))

-- the words of a legal line are plain
words_plain : (line : Piece) → IsLegal line → AllByRecursion IsPlain (words line)
words_plain line legal = filled_plain (pieces is_blank line.place line.bytes) (pieces_plain line.place line.bytes legal)

-- ## Folded words

-- a printable byte that is no capital is one of a name
low_byte : (b : ℕ) → is_printable b ≡ true → is_blank b ≡ false → is_ascii_uppercase b ≡ false → is_name_byte b ≡ true
low_byte b printable clear low = joined (is_printable b) (is_blank b) (is_ascii_uppercase b) printable clear low
  where
    joined : (x y z : Bool) → x ≡ true → y ≡ false → z ≡ false → (x && not y && not z) ≡ true
    joined true false false h k l = refl
    joined true false true h k l = absurd cc
    joined true true z h k l = absurd cc
    joined false y z h k l = absurd cc

-- a capital in lower case is a byte of a name
letter_byte : (b : ℕ) → 65 ≤ b → b < 91 → is_name_byte (b + 32) ≡ true
letter_byte b low high = grind (arith, nat_tests)

-- a byte below the letter A is no capital
below_letters : (b : ℕ) → b < 65 → is_ascii_uppercase b ≡ false
below_letters b h = grind (arith, nat_tests)

-- a byte above the letter Z is no capital
above_letters : (b : ℕ) → 91 ≤ b → is_ascii_uppercase b ≡ false
above_letters b h = grind (arith, nat_tests)

-- a plain byte in lower case is one of a name
name_byte : (b : ℕ) → is_plain b ≡ true → is_name_byte (to_ascii_lowercase b) ≡ true
name_byte b plain = when (is_blank b)
    (λ cut. absurd (blank_no (is_printable b) (rw cut at plain)))
    (λ clear.
    let printable : is_printable b ≡ true = shown (is_printable b) (rw clear at plain) in
    when (ltb b 65)
    (λ below. rw below (low_byte b printable clear (below_letters b (ltb-true b 65 below))))
    (λ from. when (ltb b 91)
    (λ letter. rw (from, letter) (letter_byte b (ltb-false b 65 from) (ltb-true b 91 letter)))
    (λ above. rw (from, above) (low_byte b printable clear (above_letters b (ltb-false b 91 above))))))
  where
    blank_no : (p : Bool) → ((true || p) && not true) ≡ true → ⊥
    blank_no true h = cc
    blank_no false h = cc

    shown : (p : Bool) → ((false || p) && not false) ≡ true → p ≡ true
    shown true h = refl
    shown false h = h

-- plain bytes in lower case are those of a name
name_bytes : (bytes : List ℕ) → list_all is_plain bytes ≡ true → list_all is_name_byte (map to_ascii_lowercase bytes) ≡ true
name_bytes [] plain = refl
name_bytes (b ∷ bytes) plain =
    let h = first_all is_plain b bytes plain in
    rw (name_byte b h.0) (name_bytes bytes h.1)

-- a byte that is a sign in lower case is that sign
sign_kept : (a n : ℕ) → to_ascii_lowercase a ≡ n → n < 97 → a ≡ n
sign_kept a n e low = when (ltb a 65)
    (λ below. rw below at e)
    (λ from. when (ltb a 91)
    (λ letter. let same : a + 32 ≡ n = rw (from, letter) at e in let h = ltb-false a 65 from in absurd (omega arith))
    (λ above. rw (from, above) at e))

-- what is the arrow in lower case is the arrow
arrow_kept : (bytes : List ℕ) → map to_ascii_lowercase bytes ≡ 45 ∷ 62 ∷ [] → bytes ≡ 45 ∷ 62 ∷ []
arrow_kept [] e = absurd cc
arrow_kept (a ∷ []) e = absurd cc
arrow_kept (a ∷ b ∷ []) e =
    let first : to_ascii_lowercase a ≡ 45 = cc in
    let second : to_ascii_lowercase b ≡ 62 = cc in
    let x = sign_kept a 45 first (omega arith) in
    let y = sign_kept b 62 second (omega arith) in
    cc
arrow_kept (a ∷ b ∷ c ∷ bytes) e = absurd cc

-- a word that isn't the arrow isn't so in lower case
no_arrow : (w : Piece) → is_no_arrow w ≡ true → folded w ≢ arrow
no_arrow w clear e =
    let same : w.bytes ≡ 45 ∷ 62 ∷ [] = arrow_kept w.bytes e in
    let found : is_arrow w ≡ true = ap (λ bytes. bytes_eq bytes arrow) same in
    let h = rw found at clear in
    cc

-- a plain word that isn't the arrow is a name in lower case
name_of : (w : Piece) → IsPlain w → is_no_arrow w ≡ true → IsName (folded w)
name_of w plain clear = record {
  filled = rw (length_of_map to_ascii_lowercase w.bytes) plain.filled;
  bytes = name_bytes w.bytes plain.bytes;
  other = no_arrow w clear;
}

-- the same of each word of a list
names_of : (ws : List Piece) → AllByRecursion IsPlain ws → list_all is_no_arrow ws ≡ true → AllByRecursion IsName (map folded ws)
names_of [] plain clear = tt
names_of (w ∷ ws) plain clear =
    let h = first_all is_no_arrow w ws clear in
    (name_of w plain.0 h.0, names_of ws plain.1 h.1)

-- small numbers fit 64 bits
ids_of : (ws : List Piece) → list_all is_small ws ≡ true → AllByRecursion IsId (map number ws)
ids_of [] small = tt
ids_of (w ∷ ws) small =
    let h = first_all is_small w ws small in
    (ltb-true (number w) (2 ^ 64) h.0, ids_of ws h.1)

-- ## What lines give

-- what holds of two joined lists holds of each
pub all_front : {X : Type 0} (P : X → Type 0) (xs ys : List X) → AllByRecursion P (xs ++ ys) → AllByRecursion P xs × AllByRecursion P ys
all_front P [] ys all = (tt, all)
all_front P (x ∷ xs) ys all = let rest = all_front P xs ys all.1 in ((all.0, rest.0), rest.1)

-- what holds of two lists holds of both joined
pub all_both : {X : Type 0} (P : X → Type 0) (xs ys : List X) → AllByRecursion P xs → AllByRecursion P ys → AllByRecursion P (xs ++ ys)
all_both P [] ys front back = back
all_both P (x ∷ xs) ys front back = (front.0, all_both P xs ys front.1 back)

-- an action line that is read can be written
valid_actions : (ws : List Piece) (kind : LineKind) → AllByRecursion IsPlain ws → IsOfKind ws kind → list_all is_small (numbers_of kind) ≡ true → AllByRecursion IsActionLine (actions_of kind)
valid_actions ws blank plain is small = tt
valid_actions ws (roots numbers) plain is small = tt
valid_actions ws (action id name arguments) plain is small =
    let all = subst (AllByRecursion IsPlain) is.whole plain in
    let clear = first_all is_no_arrow name arguments is.no_arrow in
    let ids = ids_of (id ∷ []) small in
    (record { id = ids.0; name = name_of name all.1.0 clear.0; arguments = names_of arguments all.1.1 clear.1 }, tt)
valid_actions ws (decomposition id task arguments method children) plain is small = tt

-- a root line that is read can be written
valid_roots : (ws : List Piece) (kind : LineKind) → AllByRecursion IsPlain ws → IsOfKind ws kind → list_all is_small (numbers_of kind) ≡ true → AllByRecursion (λ ids. AllByRecursion IsId ids) (root_lists_of kind)
valid_roots ws blank plain is small = tt
valid_roots ws (roots numbers) plain is small = (ids_of numbers small, tt)
valid_roots ws (action id name arguments) plain is small = tt
valid_roots ws (decomposition id task arguments method children) plain is small = tt

-- a decomposition line that is read can be written
valid_decompositions : (ws : List Piece) (kind : LineKind) → AllByRecursion IsPlain ws → IsOfKind ws kind → list_all is_small (numbers_of kind) ≡ true → AllByRecursion IsDecompositionLine (decompositions_of kind)
valid_decompositions ws blank plain is small = tt
valid_decompositions ws (roots numbers) plain is small = tt
valid_decompositions ws (action id name arguments) plain is small = tt
valid_decompositions ws (decomposition id task arguments method children) plain is small =
    let all = all_front IsPlain (id ∷ task ∷ arguments) (is.sign ∷ method ∷ children) (subst (AllByRecursion IsPlain) is.whole plain) in
    let clear = first_all is_no_arrow task arguments is.no_arrow in
    let ids = ids_of (id ∷ children) small in (
      record {
        id = ids.0;
        task = name_of task all.0.1.0 clear.0;
        arguments = names_of arguments all.0.1.1 clear.1;
        method = name_of method all.1.1.0 is.one_arrow;
        children = ids.1;
      },
      tt,
    )

module _ {A : Type 0} (P : A → Type 0) (f : LineKind → List A) (valid : (ws : List Piece) (kind : LineKind) → AllByRecursion IsPlain ws → IsOfKind ws kind → list_all is_small (numbers_of kind) ≡ true → AllByRecursion P (f kind)) where
  -- what each line gives can be written, so all of it can
  all_valid : (between : List Piece) (kinds : List LineKind) → AreLines between kinds → AllByRecursion P (flat_map f kinds)
  all_valid [] [] each = tt
  all_valid [] (k ∷ kinds) each = absurd each
  all_valid (line ∷ between) [] each = absurd each
  all_valid (line ∷ between) (k ∷ kinds) each =
      all_both P (f k) (flat_map f kinds) (valid (words line) k (words_plain line each.0.legal) each.0.of_kind each.0.small) (all_valid between kinds each.1)

module _ (between : List Piece) (contents : Contents) (file : PlanFile) (read : IsRead between contents) (is : contents ≡ record { actions = file.actions; root_lists = file.roots ∷ []; decompositions = file.decompositions }) where
  -- what was read is what the file has
  same : contents_of read.kinds ≡ record { actions = file.actions; root_lists = file.roots ∷ []; decompositions = file.decompositions }
  same = sym read.contents_is ∙ is

  -- the lines hold the file
  pub holds_file : HoldsFile file between
  holds_file = record { kinds = read.kinds; each = read.each; contents = same }

  -- what was read is a plan file
  pub valid_file : IsPlanFile file
  valid_file = record {
    actions = subst (AllByRecursion IsActionLine) (ap (λ c. c.actions) same) (all_valid IsActionLine actions_of valid_actions between read.kinds read.each);
    roots = (subst (AllByRecursion (λ ids. AllByRecursion IsId ids)) (ap (λ c. c.root_lists) same) (all_valid (λ ids. AllByRecursion IsId ids) root_lists_of valid_roots between read.kinds read.each)).0;
    decompositions = subst (AllByRecursion IsDecompositionLine) (ap (λ c. c.decompositions) same) (all_valid IsDecompositionLine decompositions_of valid_decompositions between read.kinds read.each);
  }

-- contents from their parts
abbrev pub record_of : List ActionLine → List (List ℕ) → List DecompositionLine → Contents
record_of as_ lists ds = record { actions = as_; root_lists = lists; decompositions = ds }

-- a draft with roots
pub drafted : (as_ : List ActionLine) (found : Option (Vec ℕ Global)) (ds : List DecompositionLine) (contents : Contents) (ids : Vec ℕ Global) → record_of as_ (root_lists_in found) ds ≡ contents → found ≡ Some ids → contents ≡ record_of as_ (ids.items ∷ []) ds
drafted as_ found ds contents ids view_is is = sym view_is ∙ ap (λ r. record_of as_ (root_lists_in r) ds) is

-- where no list of roots was read, no line is a root line
pub no_roots : (between : List Piece) (contents : Contents) → IsRead between contents → contents.root_lists ≡ [] → NamesNoRoots between
no_roots between contents read nothing = record { kinds = read.kinds; each = read.each; no_roots = sym (ap (λ c. c.root_lists) read.contents_is) ∙ nothing }
