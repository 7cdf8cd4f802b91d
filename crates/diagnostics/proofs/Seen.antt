-- A value as JSON has no byte below 32.
use Rattle.std.proofs.Common.{◌≡◌, ℕ, zero, suc, ◌/◌, ◌%◌, ◌&&◌, ◌||◌, ◌==◌, Bool, true, false, nat_lt, nat_le, cond, List, [], ◌∷◌, ◌++◌, flat_map, pos, negsuc, refl, ◌∙◌, ⊎_elim, arith}
use Rattle.std.proofs.lemmas.Bool.{cases_Bool}
use Rattle.std.proofs.lemmas.Bool.Decides.{nat_tests}
use Rattle.std.proofs.lemmas.List.Folds.{list_all-append}
use Rattle.std.specs.List.{list_all}
use Rattle.std.specs.Char.{digit_char}
use Rattle.std.specs.Fmt.{decimal, digits, digits_onto, digit_glyph}
use Rattle.serde_json.proofs.OnLiterals.{serde_json_on_literals}
use Rattle.serde_json.specs.Data.{Num, unsigned, negative, float, Data, null, boolean, number, string, array, object, Items, item, no_items, Members, member, no_members}
use Rattle.serde_json.specs.Written.{compact_text, items_text, members_text, number_text, comma_if}

abbrev pub AreSeen : List ℕ → Type 0
AreSeen bytes = list_all (nat_le 32) bytes ≡ true

seen_append : (xs ys : List ℕ) → AreSeen xs → AreSeen ys → AreSeen (xs ++ ys)
seen_append xs ys p q = list_all-append (nat_le 32) xs ys ∙ rw (p, q) refl

both : (a b : Bool) → a ≡ true → b ≡ true → (a && b) ≡ true
both a b f g = rw (f, g) refl

seen_each : (f : ℕ → List ℕ) → ((x : ℕ) → AreSeen (f x)) → (s : List ℕ) → AreSeen (flat_map f s)
seen_each f each [] = refl
seen_each f each (x ∷ s) = seen_append (f x) (flat_map f s) (each x) (seen_each f each s)

-- the letter of a short escape, or 0
abbrev letter : ℕ → ℕ
letter x = cond ((x == 34) || (x == 92)) x (cond (x == 8) 98 (cond (x == 12) 102 (cond (x == 10) 110 (cond (x == 13) 114 (cond (x == 9) 116 0)))))

abbrev is_fine : ℕ → Bool
is_fine n = nat_le 32 n || n == 0

fine_if : (b : Bool) (m n : ℕ) → is_fine m ≡ true → is_fine n ≡ true → is_fine (cond b m n) ≡ true
fine_if true m n p q = p
fine_if false m n p q = q

fine_itself : (x n : ℕ) → is_fine n ≡ true → is_fine (cond ((x == 34) || (x == 92)) x n) ≡ true
fine_itself x n p = ⊎_elim (λ e. rw e (grind (arith, nat_tests, e))) (λ e. rw e p) (cases_Bool ((x == 34) || (x == 92)))

fine_letter : (x : ℕ) → is_fine (letter x) ≡ true
fine_letter x =
    fine_itself x _ (fine_if (x == 8) 98 _ refl (fine_if (x == 12) 102 _ refl (fine_if (x == 10) 110 _ refl (fine_if (x == 13) 114 _ refl (fine_if (x == 9) 116 0 refl refl)))))

seen_fine : (n : ℕ) → is_fine n ≡ true → nat_lt 0 n ≡ true → nat_le 32 n ≡ true
seen_fine n p q = grind (arith, nat_tests, p, q)

seen_digit : (d : ℕ) → nat_le 32 (digit_char d) ≡ true
seen_digit d = ⊎_elim (λ h. rw h (grind (arith, nat_tests))) (λ h. rw h (grind (arith, nat_tests))) (cases_Bool (nat_lt d 10))

-- what stands for a byte in a string, where its short escape has this letter
abbrev escaped_by : ℕ → ℕ → List ℕ
escaped_by x n = cond (nat_lt 0 n) (92 ∷ n ∷ []) (cond (nat_lt x 32) (92 ∷ 117 ∷ 48 ∷ 48 ∷ digit_char (x / 16) ∷ digit_char (x % 16) ∷ []) (x ∷ []))

abbrev escaped : ℕ → List ℕ
escaped x = escaped_by x (letter x)

seen_raw : (x : ℕ) → nat_lt x 32 ≡ false → nat_le 32 x ≡ true
seen_raw x h = grind (arith, nat_tests, h)

seen_escape : (x n : ℕ) → is_fine n ≡ true → AreSeen (escaped_by x n)
seen_escape x n p = ⊎_elim
    (λ h. rw h (both (nat_le 32 n) true (seen_fine n p h) refl))
    (λ h. rw h (⊎_elim
    (λ low. rw low (both (nat_le 32 (digit_char (x / 16))) (nat_le 32 (digit_char (x % 16)) && true) (seen_digit (x / 16)) (both (nat_le 32 (digit_char (x % 16))) true (seen_digit (x % 16)) refl)))
    (λ high. rw high (both (nat_le 32 x) true (seen_raw x high) refl))
    (cases_Bool (nat_lt x 32))))
    (cases_Bool (nat_lt 0 n))

seen_string : (s : List ℕ) → AreSeen (compact_text (string s))
unfolding serde_json_on_literals
seen_string s = seen_append (flat_map escaped s) (34 ∷ []) (seen_each escaped (λ x. seen_escape x (letter x) (fine_letter x)) s) refl

seen_glyph : (d : ℕ) → nat_le 32 (digit_glyph false d) ≡ true
seen_glyph d = ⊎_elim (λ h. rw h (grind (arith, nat_tests))) (λ h. rw h (grind (arith, nat_tests))) (cases_Bool (nat_lt d 10))

seen_onto : (k n : ℕ) (bytes : List ℕ) → AreSeen bytes → AreSeen (digits_onto k 10 false n bytes)
seen_onto zero n bytes h = h
seen_onto (suc k) n bytes h =
    let more : AreSeen (digit_glyph false (n % 10) ∷ bytes) = both _ _ (seen_glyph (n % 10)) h in
    ⊎_elim (λ last. rw last more) (λ next. rw next (seen_onto k (n / 10) _ more)) (cases_Bool (n / 10 == 0))

seen_decimal : (n : ℕ) → AreSeen (decimal n)
unfolding digits
seen_decimal n = seen_onto 64 n [] refl

seen_number : (n : Num) → AreSeen (number_text n)
seen_number (unsigned n) = seen_decimal n
seen_number (negative (pos n)) = seen_decimal n
seen_number (negative (negsuc n)) = seen_decimal (suc n)
seen_number (float x) = refl

seen_comma : (later : Bool) → AreSeen (comma_if later)
seen_comma true = refl
seen_comma false = refl

mutual
  pub seen_text : (d : Data) → AreSeen (compact_text d)
  seen_text null = refl
  seen_text (boolean true) = refl
  seen_text (boolean false) = refl
  seen_text (number n) = seen_number n
  seen_text (string s) = seen_string s
  seen_text (array ds) = seen_items false ds
  seen_text (object ms) = seen_members false ms

  seen_items : (later : Bool) (ds : Items) → AreSeen (items_text later ds)
  seen_items later no_items = refl
  seen_items later (item d ds) = seen_append (comma_if later) _ (seen_comma later) (seen_append (compact_text d) _ (seen_text d) (seen_items true ds))

  seen_members : (later : Bool) (ms : Members) → AreSeen (members_text later ms)
  seen_members later no_members = refl
  seen_members later (member k d ms) =
      seen_append (comma_if later) _ (seen_comma later)
      (seen_append (compact_text (string k)) _ (seen_string k) (seen_append (compact_text d) _ (seen_text d) (seen_members true ms)))
