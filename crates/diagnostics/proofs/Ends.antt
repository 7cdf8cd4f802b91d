-- Where lines end.
use Rattle.std.proofs.Common.{◌≡◌, ℕ, zero, suc, ◌+◌, ◌-◌, ◌<◌, ◌≤◌, true, false, eqb, List, [], ◌∷◌, length, get_or, take, drop, refl, sym, ap, ◌∙◌, ⊎_elim, arith, length-drop}
use Rattle.std.proofs.lemmas.Bool.{ne_eqb, eq-eqb, cases_eq, cases_lt, cases_Bool, or_left, or_right, or_from, and_left, and_right, and_from}
use Rattle.std.proofs.lemmas.List.{drop_more, drop_all, drop-drop, get_or-drop, length-take-le}
use Rattle.diagnostics.specs.Places.{is_line_end, line_of, line_end, feeds_from, start_of}
use Rattle.diagnostics.proofs.Feeds.{clear_to, start_within, start_le_feed, feeds_are, feeds_within}

-- the bytes up to where the line ends
pub line_of_is : (bytes : List ℕ) (n : ℕ) → n ≤ length bytes → ((k : ℕ) → k < n → is_line_end (drop k bytes) ≡ false) → is_line_end (drop n bytes) ≡ true → line_of bytes ≡ take n bytes
line_of_is [] zero h goes_on ends = refl
line_of_is [] (suc n) h goes_on ends = absurd (omega arith)
line_of_is (b ∷ bytes) zero h goes_on ends = rw ends refl
line_of_is (b ∷ bytes) (suc n) h goes_on ends =
    let first : is_line_end (b ∷ bytes) ≡ false = goes_on 0 (omega arith) in
    rw (first, line_of_is bytes n (omega arith) (λ k lt. goes_on (suc k) (omega arith)) ends) refl

-- where a line goes on after some bytes, it has one more
pub line_of_more : (bytes : List ℕ) (n : ℕ) → n < length bytes → ((k : ℕ) → k ≤ n → is_line_end (drop k bytes) ≡ false) → n < length (line_of bytes)
line_of_more [] n h goes_on = absurd (omega arith)
line_of_more (b ∷ bytes) zero h goes_on =
    let first : is_line_end (b ∷ bytes) ≡ false = goes_on 0 (omega arith) in
    rw first (omega arith)
line_of_more (b ∷ bytes) (suc n) h goes_on =
    let first : is_line_end (b ∷ bytes) ≡ false = goes_on 0 (omega arith) in
    let more = line_of_more bytes n (omega arith) (λ k le. goes_on (suc k) (omega arith)) in
    rw first (omega (arith, more))

-- a line is the front of the bytes
pub line_of_front : (bytes : List ℕ) → line_of bytes ≡ take (length (line_of bytes)) bytes
line_of_front [] = refl
line_of_front (b ∷ bytes) =
    ⊎_elim (λ ends. rw ends refl) (λ goes_on. rw goes_on (ap (λ l. b ∷ l) (line_of_front bytes))) (cases_Bool (is_line_end (b ∷ bytes)))

-- ---- by the bytes

goes_on : (b : ℕ) (bytes : List ℕ) → (b ≡ 10 → ⊥) → (b ≡ 13 → 0 < length bytes → get_or bytes 0 0 ≡ 10 → ⊥) → is_line_end (b ∷ bytes) ≡ false
goes_on b [] other return = ne_eqb b 10 other
goes_on b (c ∷ bytes) other return =
    or_from (eqb b 10) _ (ne_eqb b 10 other)
    (⊎_elim (λ is. and_right (eqb b 13) (eqb c 10) (ne_eqb c 10 (λ feed. return is (omega arith) feed))) (λ no. and_left (eqb b 13) (eqb c 10) (ne_eqb b 13 no)) (cases_eq b 13))

ends : (b : ℕ) (bytes : List ℕ) → b ≡ 10 → is_line_end (b ∷ bytes) ≡ true
ends b [] feed = eq-eqb b 10 feed
ends b (c ∷ bytes) feed = or_left (eqb b 10) _ (eq-eqb b 10 feed)

returns : (b c : ℕ) (bytes : List ℕ) → b ≡ 13 → c ≡ 10 → is_line_end (b ∷ c ∷ bytes) ≡ true
returns b c bytes return feed = or_right (eqb b 10) _ (and_from (eqb b 13) (eqb c 10) (eq-eqb b 13 return) (eq-eqb c 10 feed))

module _ (text : List ℕ) (q : ℕ) where
  -- a line goes on at a byte that is no line feed, and no carriage return before one
  pub goes_on_at : q < length text → (get_or text q 0 ≡ 10 → ⊥) → (get_or text q 0 ≡ 13 → q + 1 < length text → get_or text (q + 1) 0 ≡ 10 → ⊥) → is_line_end (drop q text) ≡ false
  goes_on_at h other return =
      rw (drop_more text q 0 h)
      (goes_on (get_or text q 0) (drop (q + 1) text) other
      (λ is some feed. return is (omega (arith, length-drop (q + 1) text)) (let e : q + 1 + 0 ≡ q + 1 = omega arith in ap (λ n. get_or text n 0) (sym e) ∙ sym (get_or-drop (q + 1) text 0 0) ∙ feed)))

  -- it ends at a line feed
  pub feed_ends : q < length text → get_or text q 0 ≡ 10 → is_line_end (drop q text) ≡ true
  feed_ends h feed = rw (drop_more text q 0 h) (ends (get_or text q 0) (drop (q + 1) text) feed)

  -- at a carriage return before one
  pub return_ends : q + 1 < length text → get_or text q 0 ≡ 13 → get_or text (q + 1) 0 ≡ 10 → is_line_end (drop q text) ≡ true
  return_ends h return feed =
      let here : q < length text = omega arith in
      let parts : drop q text ≡ get_or text q 0 ∷ get_or text (q + 1) 0 ∷ drop (q + 1 + 1) text = drop_more text q 0 here ∙ ap (λ l. get_or text q 0 ∷ l) (drop_more text (q + 1) 0 h) in
      rw parts (returns (get_or text q 0) (get_or text (q + 1) 0) (drop (q + 1 + 1) text) return feed)

  -- and with the text
  pub text_ends : length text ≤ q → is_line_end (drop q text) ≡ true
  text_ends h = rw (drop_all q text h) refl

-- where a line ends that goes on up to there
pub line_end_is : (text : List ℕ) (start e : ℕ) → start ≤ e → e ≤ length text → ((q : ℕ) → start ≤ q → q < e → is_line_end (drop q text) ≡ false) → is_line_end (drop e text) ≡ true → e ≡ line_end text start
line_end_is text start e order within on at_end =
    let rest = drop start text in
    let len : length rest ≡ length text - start = length-drop start text in
    let n = e - start in
    let at : start + n ≡ e = omega arith in
    let fits : n ≤ length rest = omega (arith, len) in
    let line : line_of rest ≡ take n rest = line_of_is rest n fits (λ k lt. ap is_line_end (drop-drop k start text) ∙ on (start + k) (omega arith) (omega arith)) (ap is_line_end (drop-drop n start text) ∙ ap (λ m. is_line_end (drop m text)) at ∙ at_end) in
    let size : length (line_of rest) ≡ n = ap length line ∙ length-take-le n rest fits in
    omega (arith, size)

-- ---- by the table

module _ (text : List ℕ) (count : ℕ) where
  -- the last line ends with the text
  pub end_of_last : count ≡ length (feeds_from 0 text) → length text ≡ line_end text (start_of text count)
  end_of_last last =
      let within : count ≤ length (feeds_from 0 text) = omega arith in
      let clear : (q : ℕ) → start_of text count ≤ q → q < length text → get_or text q 0 ≡ 10 → ⊥ = λ q after inside. clear_to text count q within after inside (λ lt. absurd (omega arith)) in
      line_end_is text (start_of text count) (length text) (start_within text count within) (omega arith)
      (λ q after inside. goes_on_at text q inside (clear q after inside) (λ is more. clear (q + 1) (omega arith) more))
      (text_ends text (length text) (omega arith))

  module _ (more : count < length (feeds_from 0 text)) where
    feed_within : get_or (feeds_from 0 text) count 0 < length text
    feed_within = let w = feeds_within 0 text count more in omega (arith, w.1)

    is_feed : get_or text (get_or (feeds_from 0 text) count 0) 0 ≡ 10
    is_feed = let e : get_or (feeds_from 0 text) count 0 - 0 ≡ get_or (feeds_from 0 text) count 0 = omega arith in ap (λ k. get_or text k 0) (sym e) ∙ feeds_are 0 text count more

    clear_before : (q : ℕ) → start_of text count ≤ q → q < get_or (feeds_from 0 text) count 0 → get_or text q 0 ≡ 10 → ⊥
    clear_before q after inside = clear_to text count q (omega arith) after (let w = feed_within in omega (arith, w)) (λ lt. inside)

    -- another ends at its line feed, where no carriage return stands before
    pub end_at_feed : (start_of text count < get_or (feeds_from 0 text) count 0 → get_or text (get_or (feeds_from 0 text) count 0 - 1) 0 ≡ 13 → ⊥) → get_or (feeds_from 0 text) count 0 ≡ line_end text (start_of text count)
    end_at_feed no_return =
        let feed = get_or (feeds_from 0 text) count 0 in
        let w = feed_within in
        line_end_is text (start_of text count) feed (start_le_feed text count more) (omega (arith, w))
        (λ q after inside. goes_on_at text q (omega (arith, w)) (clear_before q after inside)
        (λ is some next. ⊎_elim (λ lt. clear_before (q + 1) (omega arith) lt next) (λ ge. let e : feed - 1 ≡ q = omega arith in no_return (omega arith) (ap (λ k. get_or text k 0) e ∙ is)) (cases_lt (q + 1) feed)))
        (feed_ends text feed w is_feed)

    -- or at the carriage return before it
    pub end_at_return : start_of text count < get_or (feeds_from 0 text) count 0 → get_or text (get_or (feeds_from 0 text) count 0 - 1) 0 ≡ 13 → get_or (feeds_from 0 text) count 0 - 1 ≡ line_end text (start_of text count)
    end_at_return some return =
        let feed = get_or (feeds_from 0 text) count 0 in
        let w = feed_within in
        let e : feed - 1 + 1 ≡ feed = omega arith in
        line_end_is text (start_of text count) (feed - 1) (omega arith) (omega (arith, w))
        (λ q after inside. goes_on_at text q (omega (arith, w)) (clear_before q after (omega arith)) (λ is fits next. clear_before (q + 1) (omega arith) (omega arith) next))
        (return_ends text (feed - 1) (omega (arith, w)) return (ap (λ k. get_or text k 0) e ∙ is_feed))
