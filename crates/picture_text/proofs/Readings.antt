-- Texts are read from their front: blanks, numbers, words, and lines to their ends.
use Rattle.std.proofs.Common.{◌≡◌, ℕ, zero, suc, ◌+◌, ◌/◌, ◌%◌, ◌<◌, ◌^◌, ◌&&◌, ◌||◌, ◌==◌, Bool, true, false, not, nat_eq, nat_lt, nat_le, cond, List, [], ◌∷◌, ◌++◌, length, get_or, drop, map, refl, sym, ap, ◌∙◌, subst, ⊎_elim, arith}
use Rattle.std.specs.Prelude.{replicate}
use Rattle.std.specs.List.{flat_map, list_all, AllByRecursion}
use Rattle.std.specs.Fmt.{decimal, digits, digits_onto, digit_glyph}
use Rattle.std.specs.Str.Parse.{digits_value}
use Rattle.std.proofs.lemmas.Bool.{cases_Bool}
use Rattle.std.proofs.lemmas.Bool.Decides.{nat_tests}
use Rattle.std.proofs.lemmas.Fmt.{decimal_is_IsNumeral_wide}
use Rattle.std.proofs.lemmas.List.{append_assoc, append_cancel_left}
use Rattle.htn_model.specs.PlanWord.{IsName, is_name_byte, is_printable, is_blank}
use Rattle.diagnostics.specs.Shown.{shown}
use Rattle.htn_model.specs.PlanFile.{Word}
use Rattle.picture_text.specs.Words.{spaced, task_words}
use Rattle.picture_text.specs.Tame.{AreTame}
use Rattle.picture_text.specs.declared.as_text.Glyphs.{Glyphs}
use Rattle.picture_text.specs.declared.as_text.Glyphs.TheVariants.{Unicode, Ascii}
use Rattle.picture_text.specs.Text.{branch, bar, cut}

pub left : (a b : Bool) → (a && b) ≡ true → a ≡ true
left true b h = refl
left false b h = absurd cc

pub right : (a b : Bool) → (a && b) ≡ true → b ≡ true
right true b h = h
right false b h = absurd cc

pub both : (a b : Bool) → a ≡ true → b ≡ true → (a && b) ≡ true
both a b f g = rw (f, g) refl

-- ## Blanks

-- how many blanks stand first
abbrev pub blanks : List ℕ → ℕ
blanks [] = 0
blanks (b ∷ bytes) = cond (b == 32) (suc (blanks bytes)) 0

blanks_more : (k : ℕ) (rest : List ℕ) → blanks (replicate k 32 ++ rest) ≡ k + blanks rest
blanks_more zero rest = omega arith
blanks_more (suc k) rest = let e = blanks_more k rest in omega arith

-- as many stand before what begins with as many
pub same_blanks : (k j : ℕ) (xs ys : List ℕ) → blanks xs ≡ blanks ys → replicate k 32 ++ xs ≡ replicate j 32 ++ ys → (k ≡ j) × (xs ≡ ys)
same_blanks k j xs ys same e =
    let one = blanks_more k xs in
    let other = blanks_more j ys in
    let whole = ap blanks e in
    let k_is : k ≡ j = omega arith in
    (k_is, append_cancel_left (replicate j 32) xs ys (subst (λ n. replicate n 32 ++ xs ≡ replicate j 32 ++ ys) k_is e))

-- fewer can't stand before what begins with none
pub fewer_blanks : (k j : ℕ) (xs ys : List ℕ) → blanks xs ≡ 0 → k < j → replicate k 32 ++ xs ≡ replicate j 32 ++ ys → ⊥
fewer_blanks k j xs ys none less e =
    let one = blanks_more k xs in
    let other = blanks_more j ys in
    let whole = ap blanks e in
    omega arith

-- ## Runs of bytes within a word

-- a byte that is neither a blank nor a line's end
abbrev pub is_inner : ℕ → Bool
is_inner b = not (b == 32 || b == 10)

-- what comes next is none
abbrev pub Stops : List ℕ → Type 0
Stops [] = ⊥
Stops (b ∷ bytes) = is_inner b ≡ false

both_tests : (b : ℕ) → is_inner b ≡ true → is_inner b ≡ false → ⊥
both_tests b p q = cc

pub one_run : (xs ys rest others : List ℕ) → AreTame is_inner xs → AreTame is_inner ys → Stops rest → Stops others → xs ++ rest ≡ ys ++ others → (xs ≡ ys) × (rest ≡ others)
one_run [] [] rest others p q s t e = (refl, e)
one_run [] (y ∷ ys) [] others p q s t e = absurd s
one_run [] (y ∷ ys) (b ∷ rest) others p q s t e =
    let same : b ≡ y = cc in
    absurd (both_tests y (left (is_inner y) (list_all is_inner ys) q) (subst (λ c. is_inner c ≡ false) same s))
one_run (x ∷ xs) [] rest [] p q s t e = absurd t
one_run (x ∷ xs) [] rest (b ∷ others) p q s t e =
    let same : b ≡ x = cc in
    absurd (both_tests x (left (is_inner x) (list_all is_inner xs) p) (subst (λ c. is_inner c ≡ false) same t))
one_run (x ∷ xs) (y ∷ ys) rest others p q s t e =
    let head : x ≡ y = cc in
    let tail : xs ++ rest ≡ ys ++ others = cc in
    let more = one_run xs ys rest others (right (is_inner x) (list_all is_inner xs) p) (right (is_inner y) (list_all is_inner ys) q) s t tail in
    let whole : x ∷ xs ≡ y ∷ ys = let same = more.0 in cc in
    (whole, more.1)

glyph_inner : (d : ℕ) → d < 10 → is_inner (digit_glyph false d) ≡ true
glyph_inner d low = ⊎_elim (λ h. rw h (grind (arith, nat_tests))) (λ h. absurd (grind (arith, nat_tests))) (cases_Bool (nat_lt d 10))

onto_inner : (k n : ℕ) (bytes : List ℕ) → AreTame is_inner bytes → AreTame is_inner (digits_onto k 10 false n bytes)
onto_inner zero n bytes h = h
onto_inner (suc k) n bytes h =
    let low : n % 10 < 10 = omega arith in
    let more : AreTame is_inner (digit_glyph false (n % 10) ∷ bytes) = both _ _ (glyph_inner (n % 10) low) h in
    ⊎_elim (λ last. rw last more) (λ next. rw next (onto_inner k (n / 10) _ more)) (cases_Bool (n / 10 == 0))

-- a number has no blank and no line's end
pub decimal_inner : (n : ℕ) → AreTame is_inner (decimal n)
unfolding digits
decimal_inner n = onto_inner 64 n [] refl

onto_filled : (k n : ℕ) (bytes : List ℕ) → 0 < length bytes → 0 < length (digits_onto k 10 false n bytes)
onto_filled zero n bytes h = h
onto_filled (suc k) n bytes h =
    let more : 0 < length (digit_glyph false (n % 10) ∷ bytes) = omega arith in
    ⊎_elim (λ last. rw last more) (λ next. rw next (onto_filled k (n / 10) _ more)) (cases_Bool (n / 10 == 0))

-- and is never empty
pub decimal_filled : (n : ℕ) → 0 < length (decimal n)
unfolding digits
decimal_filled n =
    let more : 0 < length (digit_glyph false (n % 10) ∷ []) = omega arith in
    ⊎_elim (λ last. rw last more) (λ next. rw next (onto_filled 63 (n / 10) _ more)) (cases_Bool (n / 10 == 0))

filled_blanks : (xs rest : List ℕ) → 0 < length xs → AreTame is_inner xs → blanks (xs ++ rest) ≡ 0
filled_blanks [] rest filled inner = absurd (omega arith)
filled_blanks (x ∷ xs) rest filled inner = by (x == 32) (x == 10) (left (is_inner x) (list_all is_inner xs) inner)
  where
    by : (p q : Bool) → not (p || q) ≡ true → cond p (suc (blanks (xs ++ rest))) 0 ≡ 0
    by true q h = absurd cc
    by false q h = refl

-- no blank stands before a number
pub decimal_blanks : (n : ℕ) (rest : List ℕ) → blanks (decimal n ++ rest) ≡ 0
decimal_blanks n rest = filled_blanks (decimal n) rest (decimal_filled n) (decimal_inner n)

-- what a number is, its digits say
pub decimal_same : (m n : ℕ) → m < 10 ^ 64 → n < 10 ^ 64 → decimal m ≡ decimal n → m ≡ n
decimal_same m n low low_too e = sym (decimal_is_IsNumeral_wide m low).1 ∙ ap (digits_value 10) e ∙ (decimal_is_IsNumeral_wide n low_too).1

-- ## Words

-- What stands behind the first two blanks of a line, or its end. The flag says whether a blank stands before.
abbrev pub behind_words : Bool → List ℕ → List ℕ
behind_words after [] = []
behind_words after (b ∷ bytes) = cond (b == 10) (b ∷ bytes) (cond (b == 32) (cond after bytes (behind_words true bytes)) (behind_words false bytes))

-- behind these bytes they are looked for as if none stood before
abbrev pub Skips : Bool → List ℕ → Type 0
Skips after bytes = (rest : List ℕ) → behind_words after (bytes ++ rest) ≡ behind_words false rest

step : (after : Bool) (b : ℕ) (rest : List ℕ) → is_inner b ≡ true → behind_words after (b ∷ rest) ≡ behind_words false rest
step after b rest h = by (b == 10) (b == 32) h
  where
    by : (p q : Bool) → not (q || p) ≡ true → cond p (b ∷ rest) (cond q (cond after rest (behind_words true rest)) (behind_words false rest)) ≡ behind_words false rest
    by false false h = refl
    by true true h = absurd cc
    by true false h = absurd cc
    by false true h = absurd cc

skips_inner : (bytes : List ℕ) → AreTame is_inner bytes → Skips false bytes
skips_inner [] inner rest = refl
skips_inner (b ∷ bytes) inner rest =
    step false b (bytes ++ rest) (left (is_inner b) (list_all is_inner bytes) inner) ∙ skips_inner bytes (right (is_inner b) (list_all is_inner bytes) inner) rest

inner_as_is : (b : ℕ) → (nat_le 33 b && nat_le b 126) ≡ true → is_inner b ≡ true
inner_as_is b h = grind (arith, nat_tests, h)

shown_inner : (b : ℕ) → is_name_byte b ≡ true → is_inner (shown b) ≡ true
shown_inner b h =
    let printable = left (is_printable b) (not (is_blank b)) (left (is_printable b && not (is_blank b)) _ h) in
    ⊎_elim (λ as_is. rw as_is (inner_as_is b printable)) (λ hidden. rw hidden refl) (cases_Bool (nat_eq b 9 || (nat_le 32 b && nat_le b 126)))

name_inner : (bytes : List ℕ) → list_all is_name_byte bytes ≡ true → AreTame is_inner (map shown bytes)
name_inner [] h = refl
name_inner (b ∷ bytes) h =
    both (is_inner (shown b)) (list_all is_inner (map shown bytes)) (shown_inner b (left (is_name_byte b) (list_all is_name_byte bytes) h)) (name_inner bytes (right (is_name_byte b) (list_all is_name_byte bytes) h))

-- a name is skipped, also after a blank
pub skips_name : (after : Bool) (name : Word) → IsName name → Skips after (map shown name)
skips_name after [] is rest = absurd (let h = is.filled in omega arith)
skips_name after (b ∷ name) is rest =
    let inner = name_inner (b ∷ name) is.bytes in
    step after (shown b) (map shown name ++ rest) (left (is_inner (shown b)) (list_all is_inner (map shown name)) inner)
    ∙ skips_inner (map shown name) (right (is_inner (shown b)) (list_all is_inner (map shown name)) inner) rest

skips_spaced : (names : List Word) → AllByRecursion IsName names → Skips false (flat_map spaced names)
skips_spaced [] are rest = refl
skips_spaced (name ∷ names) are rest =
    ap (behind_words false) (append_assoc (spaced name) (flat_map spaced names) rest) ∙ skips_name true name are.0 (flat_map spaced names ++ rest) ∙ skips_spaced names are.1 rest

-- and so are a name and its arguments
pub skips_task : (name : Word) (arguments : List Word) → IsName name → AllByRecursion IsName arguments → Skips false (task_words name arguments)
skips_task name arguments is are rest =
    ap (behind_words false) (append_assoc (map shown name) (flat_map spaced arguments) rest) ∙ skips_name false name is (flat_map spaced arguments ++ rest) ∙ skips_spaced arguments are rest

-- ## Lines

-- what stands behind a line's end
abbrev pub past_line : List ℕ → List ℕ
past_line [] = []
past_line (b ∷ bytes) = cond (b == 10) bytes (past_line bytes)

pub no_end : (b : ℕ) → nat_eq (shown b) 10 ≡ false
no_end b = ⊎_elim (λ as_is. rw as_is (grind (arith, nat_tests, as_is))) (λ hidden. rw hidden refl) (cases_Bool (nat_eq b 9 || (nat_le 32 b && nat_le b 126)))

-- no line ends within words that are shown
pub past_shown : (words rest : List ℕ) → past_line (map shown words ++ rest) ≡ past_line rest
past_shown [] rest = refl
past_shown (b ∷ words) rest = ap (λ p. cond p (map shown words ++ rest) (past_line (map shown words ++ rest))) (no_end b) ∙ past_shown words rest

-- ## Signs

-- whether a bar stands first
abbrev starts_bar : Glyphs → List ℕ → Bool
starts_bar Unicode bytes = get_or bytes 0 0 == 32 || (get_or bytes 0 0 == 226 && get_or bytes 2 0 == 130)
starts_bar Ascii bytes = get_or bytes 0 0 == 32 || (get_or bytes 0 0 == 124 && get_or bytes 1 0 == 32)

-- what stands behind it
abbrev behind_bar : Glyphs → List ℕ → List ℕ
behind_bar Unicode bytes = drop (cond (get_or bytes 0 0 == 32) 3 5) bytes
behind_bar Ascii bytes = drop 3 bytes

bar_first : (glyphs : Glyphs) (b : Bool) (rest : List ℕ) → (starts_bar glyphs (bar glyphs b ++ rest) ≡ true) × (behind_bar glyphs (bar glyphs b ++ rest) ≡ rest)
bar_first Unicode true rest = (refl, refl)
bar_first Unicode false rest = (refl, refl)
bar_first Ascii true rest = (refl, refl)
bar_first Ascii false rest = (refl, refl)

-- no bar, and not a number of bars either
branch_first : (glyphs : Glyphs) (last : Bool) (rest : List ℕ) → (starts_bar glyphs (branch glyphs last ++ rest) ≡ false) × (nat_eq (get_or (branch glyphs last ++ rest) 0 0) 43 ≡ false)
branch_first Unicode true rest = (refl, refl)
branch_first Unicode false rest = (refl, refl)
branch_first Ascii true rest = (refl, refl)
branch_first Ascii false rest = (refl, refl)

cut_first : (glyphs : Glyphs) (n : ℕ) (last : Bool) (rest : List ℕ) → starts_bar glyphs (cut n ++ (branch glyphs last ++ rest)) ≡ false
cut_first glyphs zero last rest = (branch_first glyphs last rest).0
cut_first Unicode (suc n) last rest = refl
cut_first Ascii (suc n) last rest = refl

-- what stands behind a branch
abbrev behind_branch : Glyphs → List ℕ → List ℕ
behind_branch Unicode bytes = drop 7 bytes
behind_branch Ascii bytes = drop 3 bytes

branch_behind : (glyphs : Glyphs) (last : Bool) (rest : List ℕ) → behind_branch glyphs (branch glyphs last ++ rest) ≡ rest
branch_behind Unicode true rest = refl
branch_behind Unicode false rest = refl
branch_behind Ascii true rest = refl
branch_behind Ascii false rest = refl

pub true_false : (b c : Bool) → b ≡ true → c ≡ false → b ≡ c → ⊥
true_false b c p q e = cc

module _ (glyphs : Glyphs) (n m : ℕ) (last end : Bool) (rest others : List ℕ) where
  -- the signs behind the bars, and what follows them
  abbrev own : List ℕ
  own = cut n ++ (branch glyphs last ++ rest)

  abbrev other : List ℕ
  other = cut m ++ (branch glyphs end ++ others)

  pub same_bars : (above over : List Bool) → flat_map (bar glyphs) above ++ own ≡ flat_map (bar glyphs) over ++ other → (length above ≡ length over) × (own ≡ other)
  same_bars [] [] e = (refl, e)
  same_bars [] (b ∷ over) e =
      let split = append_assoc (bar glyphs b) (flat_map (bar glyphs) over) other in
      absurd (true_false (starts_bar glyphs (bar glyphs b ++ (flat_map (bar glyphs) over ++ other))) (starts_bar glyphs own) (bar_first glyphs b (flat_map (bar glyphs) over ++ other)).0
      (cut_first glyphs n last rest) (sym (ap (starts_bar glyphs) (e ∙ split))))
  same_bars (a ∷ above) [] e =
      let split = append_assoc (bar glyphs a) (flat_map (bar glyphs) above) own in
      absurd (true_false (starts_bar glyphs (bar glyphs a ++ (flat_map (bar glyphs) above ++ own))) (starts_bar glyphs other) (bar_first glyphs a (flat_map (bar glyphs) above ++ own)).0
      (cut_first glyphs m end others) (ap (starts_bar glyphs) (sym split ∙ e)))
  same_bars (a ∷ above) (b ∷ over) e =
      let split = append_assoc (bar glyphs a) (flat_map (bar glyphs) above) own in
      let split_too = append_assoc (bar glyphs b) (flat_map (bar glyphs) over) other in
      let tails = sym (bar_first glyphs a (flat_map (bar glyphs) above ++ own)).1 ∙ ap (behind_bar glyphs) (sym split ∙ e ∙ split_too) ∙ (bar_first glyphs b (flat_map (bar glyphs) over ++ other)).1 in
      let more = same_bars above over tails in
      (ap suc more.0, more.1)

  -- the sign behind a number of bars
  pub same_branch : branch glyphs last ++ rest ≡ branch glyphs end ++ others → rest ≡ others
  same_branch e = sym (branch_behind glyphs last rest) ∙ ap (behind_branch glyphs) e ∙ branch_behind glyphs end others

-- the number of bars that are left out
pub same_cut : (glyphs : Glyphs) (n m : ℕ) (last end : Bool) (rest others : List ℕ) → n < 10 ^ 64 → m < 10 ^ 64 → cut n ++ (branch glyphs last ++ rest) ≡ cut m ++ (branch glyphs end ++ others) → (n ≡ m) × (rest ≡ others)
same_cut glyphs zero zero last end rest others low low_too e = (refl, same_branch glyphs 0 0 last end rest others e)
same_cut glyphs zero (suc m) last end rest others low low_too e = absurd (true_false true (nat_eq (get_or (branch glyphs last ++ rest) 0 0) 43) refl (branch_first glyphs last rest).1 (sym (ap (λ bs. nat_eq (get_or bs 0 0) 43) e)))
same_cut glyphs (suc n) zero last end rest others low low_too e = absurd (true_false true (nat_eq (get_or (branch glyphs end ++ others) 0 0) 43) refl (branch_first glyphs end others).1 (ap (λ bs. nat_eq (get_or bs 0 0) 43) e))
same_cut glyphs (suc n) (suc m) last end rest others low low_too e =
    let one = branch glyphs last ++ rest in
    let two = branch glyphs end ++ others in
    let whole : (decimal (suc n) ++ 32 ∷ []) ++ one ≡ (decimal (suc m) ++ 32 ∷ []) ++ two = ap (drop 1) e in
    let run =
    one_run (decimal (suc n)) (decimal (suc m)) (32 ∷ one) (32 ∷ two) (decimal_inner (suc n)) (decimal_inner (suc m)) refl refl
    (sym (append_assoc (decimal (suc n)) (32 ∷ []) one) ∙ whole ∙ append_assoc (decimal (suc m)) (32 ∷ []) two) in
    let number = decimal_same (suc n) (suc m) low low_too run.0 in
    (omega arith, same_branch glyphs n m last end rest others (ap (drop 1) run.1))
