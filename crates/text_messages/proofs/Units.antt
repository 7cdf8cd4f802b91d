-- Before a place outside comments its line has no comment, so its bytes are blanks or visible.
use Rattle.std.proofs.Common.{◌≡◌, ℕ, suc, ◌+◌, ◌-◌, ◌<◌, ◌≤◌, ◌||◌, Bool, true, false, cond, eqb, List, [], ◌∷◌, ◌++◌, length, get_or, take, drop, reverse, refl, sym, subst, ap, ◌∙◌, ⊎_elim, arith, length-append}
use Rattle.std.proofs.lemmas.Bool.{cases_Bool, false≢true, not-true, true_from_ne_false, or_parts}
use Rattle.std.proofs.lemmas.List.{take-append-drop, length-take-le, drop_more, get_or-reverse, take-take, get_or-drop, take_at, append_assoc, length-drop}
use Rattle.std.proofs.lemmas.List.Sums.{prefix_len_passes, suffix_len-le-length}
use Rattle.std.specs.List.{suffix_len}
use Rattle.diagnostics.specs.Places.{is_in_line, column_of}
use Rattle.hddl_words.specs.declared.fault.TextFault.{TextFault}
use Rattle.hddl_words.specs.declared.fault.TextFault.TheVariants.{NotAscii, BadWord, Unclosed, ExtraClose, TooDeep, Expected, Unsupported, TooLong, OutOfMemory}
use Rattle.hddl_words.specs.Words.{Word, is_blank, is_printable}
use Rattle.hddl_words.specs.Standing.{is_in_comment, IsOutsideComments, Begins, AreWords, end, begins, passes}
use Rattle.hddl_words.specs.Faults.{ByteAt, IsNotAscii, WordFaultAt, IsLeftmost, HasNoWordFault}
use Rattle.text_messages.specs.Columns.{is_one_unit, ColumnsAgree, AgreesAt}

-- bytes after others
in_comment-append : (inside : Bool) (xs ys : List ℕ) → is_in_comment inside (xs ++ ys) ≡ is_in_comment (is_in_comment inside xs) ys
in_comment-append inside [] ys = refl
in_comment-append inside (x ∷ xs) ys = in_comment-append (cond (eqb x 10) false (inside || eqb x 59)) xs ys

-- a comment goes on where no line feed follows
stays_in_comment : (ys : List ℕ) → ((k : ℕ) → k < length ys → is_in_line (get_or ys k 0) ≡ true) → is_in_comment true ys ≡ true
stays_in_comment [] clear = refl
stays_in_comment (y ∷ ys) clear =
    let first : eqb y 10 ≡ false = not-true (eqb y 10) (clear 0 (omega arith)) in
    ap (λ t. is_in_comment (cond t false (true || eqb y 59)) ys) first ∙ stays_in_comment ys (λ k lt. clear (suc k) (omega arith))

-- the last bytes that pass
last_pass : (xs : List ℕ) (k : ℕ) → length xs - suffix_len is_in_line xs ≤ k → k < length xs → is_in_line (get_or xs k 0) ≡ true
last_pass xs k after inside =
    let le = suffix_len-le-length is_in_line xs in
    let j = length xs - 1 - k in
    let lt : j < suffix_len is_in_line xs = omega arith in
    let back : length xs - 1 - j ≡ k = omega arith in
    ap is_in_line (ap (λ n. get_or xs n 0) (sym back) ∙ sym (get_or-reverse xs j 0 (omega arith))) ∙ prefix_len_passes is_in_line (reverse xs) j 0 lt

-- at a place outside comments, where no byte before is neither a blank nor visible
pub agree : (text front rest : List ℕ) (byte : ℕ) → text ≡ front ++ byte ∷ rest → IsOutsideComments front → ((q : ℕ) → q < length front → ByteAt IsNotAscii text q → ⊥) → ColumnsAgree text (length front)
agree text front rest byte whole outside none q after inside =
    let taken : take (length front) text ≡ front = ap (take (length front)) whole ∙ take_at front (byte ∷ rest) (length front) refl in
    let size : length text ≡ length front + length (byte ∷ rest) = ap length whole ∙ length-append front (byte ∷ rest) in
    let column : column_of text (length front) ≡ suffix_len is_in_line front = ap (suffix_len is_in_line) taken in
    let pre = take q front in
    let mid = drop q front in
    let parted : front ≡ pre ++ mid = sym (take-append-drop q front) in
    let clear : (k : ℕ) → k < length mid → is_in_line (get_or mid k 0) ≡ true =
    λ k lt. ap is_in_line (get_or-drop q front k 0) ∙ last_pass front (q + k) (omega (arith, column)) (omega (arith, length-drop q front)) in
    let before : is_in_comment false pre ≡ false =
    ⊎_elim (λ open_now. absurd (false≢true (sym outside ∙ ap (is_in_comment false) parted ∙ in_comment-append false pre mid ∙ ap (λ t. is_in_comment t mid) open_now ∙ stays_in_comment mid clear))) (λ closed. closed) (cases_Bool (is_in_comment false pre)) in
    let b = get_or text q 0 in
    let here : q < length text = omega (arith, size) in
    let start : take q text ≡ pre = sym (take-take q (length front) text (omega arith)) ∙ ap (take q) taken in
    let stands : text ≡ take q text ++ b ∷ drop (q + 1) text = sym (take-append-drop q text) ∙ ap (λ l. take q text ++ l) (drop_more text q 0 here) in
    let seen : IsOutsideComments (take q text) = ap (is_in_comment false) start ∙ before in
    true_from_ne_false (is_one_unit b)
    (λ no. let parts = or_parts (is_blank b) (is_printable b) no in none q inside (take q text, b, drop (q + 1) text, stands, length-take-le q text (omega arith), (seen, parts.0, parts.1)))

-- at the first fault of the words
pub of_fault : (text : List ℕ) (fault : TextFault) → WordFaultAt text fault → IsLeftmost text fault → AgreesAt text fault
of_fault text (NotAscii place) at first =
    subst (ColumnsAgree text) at.4 (agree text at.0 at.2 at.1 at.3 at.5.0 (λ q lt bad. let le : place ≤ q = first (NotAscii q) (λ e. cc) bad in omega (arith, at.4)))
of_fault text (BadWord place) at first =
    subst (ColumnsAgree text) at.4 (agree text at.0 at.2 at.1 at.3 at.5.0 (λ q lt bad. let le : place ≤ q = first (NotAscii q) (λ e. cc) bad in omega (arith, at.4)))
of_fault text (Unclosed place) at first = tt
of_fault text (ExtraClose place) at first = tt
of_fault text (TooDeep place) at first = tt
of_fault text (Expected place) at first = tt
of_fault text (Unsupported place) at first = tt
of_fault text (TooLong place) at first = tt
of_fault text OutOfMemory at first = tt

-- where a word of some words begins
pub stands : {front bytes : List ℕ} {ws : List Word} → AreWords front bytes ws → (a c : List Word) (w : Word) → ws ≡ a ++ w ∷ c → (f : List ℕ) × (byte : ℕ) × (rest : List ℕ) × (front ++ bytes ≡ f ++ byte ∷ rest) × Begins f byte rest w
stands end a c w e = absurd (omega (arith, ap length e ∙ length-append a (w ∷ c)))
stands (begins {front = front} {bytes = bytes} {b = b} {w = v} {ws = ws} here more) [] c w e =
    let same : v ≡ w = cc in
    (front, b, bytes, refl, subst (Begins front b bytes) same here)
stands (begins {front = front} {bytes = bytes} {b = b} {w = v} {ws = ws} here more) (x ∷ a) c w e =
    let rest : ws ≡ a ++ w ∷ c = cc in
    let found = stands more a c w rest in
    (found.0, found.1, found.2, sym (append_assoc front (b ∷ []) bytes) ∙ found.3, found.4)
stands (passes {front = front} {bytes = bytes} {b = b} {ws = ws} none more) a c w e =
    let found = stands more a c w e in
    (found.0, found.1, found.2, sym (append_assoc front (b ∷ []) bytes) ∙ found.3, found.4)

-- before each word
pub of_word : (text : List ℕ) (ws a c : List Word) (w : Word) → AreWords [] text ws → HasNoWordFault text → ws ≡ a ++ w ∷ c → ColumnsAgree text w.place
of_word text ws a c w all none e =
    let found = stands all a c w e in
    subst (ColumnsAgree text) (sym found.4.1) (agree text found.0 found.2 found.1 found.3 found.4.0 (λ q lt bad. none (NotAscii q) (λ x. cc) bad))
