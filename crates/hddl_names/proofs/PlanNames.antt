-- A name in lower case is one that a plan file can hold.
use Rattle.std.proofs.Common.{◌≡◌, ℕ, ◌<◌, Bool, true, false, not, ◌&&◌, ◌||◌, ◌==◌, List, [], ◌∷◌, length, refl, ap, ap₂, subst, ◌∙◌, arith, zero-add, nat_le, nat_lt, ◌≤◌, Some, None}
use Rattle.std.specs.List.{slice_get, list_all, range_with_len}
use Rattle.std.specs.Char.{to_ascii_lowercase}
use Rattle.std.proofs.lemmas.Option.{get_or_from_slice_get, slice_get_past}
use Rattle.std.proofs.lemmas.List.Recursion.{and_at}
use Rattle.std.proofs.lemmas.List.FromFn.{get_or-range_with_len, length-range_with_len}
use borrow.Author.Tests.{leb-true, ltb-true, ltb-false}
use Rattle.htn_model.specs.PlanWord.{IsName, is_name_byte}
use Rattle.hddl_words.specs.Word.{is_word_byte}
use Rattle.hddl_words.specs.Names.{is_name, is_mark, is_reserved_text}
use Rattle.hddl_meaning.specs.Mentions.{Text, folded}
use Rattle.hddl_names.specs.Texts.{AreNames}

-- where two tests hold together, each does
both : (a b : Bool) → (a && b) ≡ true → (a ≡ true) × (b ≡ true)
both true b h = (refl, h)
both false b h = absurd cc

-- a test that follows from another holds where that does
either_way : (a b : Bool) → (not a || b) ≡ true → a ≡ true → b ≡ true
either_way true b h e = h
either_way false b h e = absurd cc

-- two tests that can't both fail don't
not_either : (a b : Bool) → (a || not b) ≡ true → not a ≡ true → b ≡ true → ⊥
not_either true b h e f = absurd cc
not_either false true h e f = absurd cc
not_either false false h e f = absurd cc

-- what a test says of each number below n holds of each
every : (f : ℕ → Bool) (n : ℕ) → list_all f (range_with_len 0 n) ≡ true → (c : ℕ) → c < n → f c ≡ true
every f n h c below =
    let within : c < length (range_with_len 0 n) = omega (arith, length-range_with_len 0 n) in
    subst (λ k. f k ≡ true) (get_or-range_with_len 0 n c 0 below ∙ zero-add c) (and_at (list_all f) f refl (λ x xs. refl) (range_with_len 0 n) c 0 within h)

-- a byte of a word is one of ASCII
byte_below : (c : ℕ) → is_word_byte c ≡ true → c < 127
byte_below c h =
    let printable : (nat_le 33 c && nat_le c 126) ≡ true = (both (nat_le 33 c && nat_le c 126) (not (c == 40 || c == 41 || c == 59)) h).0 in
    let low : c ≤ 126 = leb-true c 126 (both (nat_le 33 c) (nat_le c 126) printable).1 in
    omega arith

-- a byte of a word in lower case is one of a name
folded_byte : (c : ℕ) → is_word_byte c ≡ true → is_name_byte (to_ascii_lowercase c) ≡ true
folded_byte c h =
    either_way (is_word_byte c) (is_name_byte (to_ascii_lowercase c))
    (every (λ k. not (is_word_byte k) || is_name_byte (to_ascii_lowercase k)) 127 refl c (byte_below c h)) h

-- no byte but `-` is folded to `-`
folded_mark : (c : ℕ) → c < 127 → not (is_mark c) ≡ true → to_ascii_lowercase c ≡ 45 → ⊥
folded_mark c below unmarked e =
    not_either (is_mark c) (to_ascii_lowercase c == 45) (every (λ k. is_mark k || not (to_ascii_lowercase k == 45)) 127 refl c below) unmarked (ap (λ k. k == 45) e)

-- bytes of a word in lower case are those of a name
folded_bytes : (bytes : List ℕ) → list_all is_word_byte bytes ≡ true → list_all is_name_byte (folded bytes) ≡ true
folded_bytes [] h = refl
folded_bytes (b ∷ bytes) h =
    let parts : (is_word_byte b ≡ true) × (list_all is_word_byte bytes ≡ true) = both (is_word_byte b) (list_all is_word_byte bytes) h in
    ap₂ (λ x y. x && y) (folded_byte b parts.0) (folded_bytes bytes parts.1)

-- a name in lower case is one that a plan file can hold
pub folded_name : (bytes : List ℕ) → is_name bytes ≡ true → IsName (folded bytes)
folded_name [] h = absurd cc
folded_name (b ∷ bytes) h =
    let front : (list_all is_word_byte (b ∷ bytes) && not (is_mark b)) ≡ true = (both _ (not (is_reserved_text (b ∷ bytes))) h).0 in
    let parts : (list_all is_word_byte (b ∷ bytes) ≡ true) × (not (is_mark b) ≡ true) = both (list_all is_word_byte (b ∷ bytes)) (not (is_mark b)) front in
    let first : is_word_byte b ≡ true = (both (is_word_byte b) (list_all is_word_byte bytes) parts.0).0 in
    record {
      filled = omega arith;
      bytes = folded_bytes (b ∷ bytes) parts.0;
      other = λ e. folded_mark b (byte_below b first) parts.1 (let head : to_ascii_lowercase b ≡ 45 = cc in head);
    }

-- a name at a place of such names is one
pub named_at : (names : List Text) (k : ℕ) (text : Text) → AreNames names → slice_get names k ≡ Some text → IsName text
named_at names k text all h = by (nat_lt k (length names)) refl
  where
    by : (b : Bool) → nat_lt k (length names) ≡ b → IsName text
    by true below = subst IsName (get_or_from_slice_get names k text [] h) (all k [] (ltb-true k (length names) below))
    by false past = absurd (let wrong : slice_get names k ≡ None = slice_get_past names k (ltb-false k (length names) past) in cc)
