-- Pictures command no terminal.
use Rattle.std.proofs.Common.{◌≡◌, ℕ, zero, suc, ◌-◌, ◌/◌, ◌%◌, ◌<◌, ◌&&◌, ◌||◌, ◌==◌, Bool, true, false, nat_eq, nat_lt, nat_le, cond, codes, List, [], ◌∷◌, ◌++◌, length, map, Option, Some, None, refl, ◌∙◌, ⊎_elim, arith}
use Rattle.std.specs.Prelude.{replicate}
use Rattle.std.specs.List.{flat_map, list_all}
use Rattle.std.specs.Fmt.{decimal, digits, digits_onto, digit_glyph}
use Rattle.std.proofs.lemmas.Bool.{cases_Bool}
use Rattle.std.proofs.lemmas.Bool.Decides.{nat_tests}
use Rattle.std.proofs.lemmas.List.Folds.{list_all-append}
use Rattle.htn_model.specs.PlanFile.{Word}
use Rattle.diagnostics.specs.Shown.{shown}
use Rattle.diagnostics.specs.Tame.{is_tame}
use Rattle.picture_text.specs.declared.caption.Caption.{Caption}
use Rattle.picture_text.specs.declared.caption.Mark.{Mark}
use Rattle.plan_picture.specs.declared.picture.Picture.{Picture}
use Rattle.plan_picture.specs.declared.row.Row.{Row as DeclaredRow}
use Rattle.picture_text.specs.declared.as_text.Glyphs.{Glyphs}
use Rattle.picture_text.specs.declared.as_text.Glyphs.TheVariants.{Unicode, Ascii}
use Rattle.plan_picture.specs.Rows.{Row}
use Rattle.plan_text.specs.Forest.{lists_of}
use Rattle.picture_text.specs.declared.detail.Setting.{Setting}
use Rattle.picture_text.specs.declared.detail.Condition.{Condition}
use Rattle.picture_text.specs.declared.detail.Detail.{Detail}
use Rattle.picture_text.specs.Details.{detail_at, settings_of, condition_of, setting_words, joined, moment, condition_words}
use Rattle.picture_text.specs.Lines.{Line, action, task, id_of, line_at}
use Rattle.plan_picture.specs.Seen.{seen}
use Rattle.picture_text.specs.Words.{spaced, task_words, mark_of}
use Rattle.picture_text.specs.Text as text
use Rattle.picture_text.specs.Tame.{is_tame_in, AreTame}

-- ## Tame bytes

tame_as_is : (b : ℕ) → (nat_eq b 9 || (nat_le 32 b && nat_le b 126)) ≡ true → is_tame b ≡ true
tame_as_is b is = grind (arith, nat_tests, is)

shown_tame : (b : ℕ) → is_tame (shown b) ≡ true
shown_tame b = ⊎_elim (λ as_is. rw as_is (tame_as_is b as_is)) (λ hidden. rw hidden refl) (cases_Bool (nat_eq b 9 || (nat_le 32 b && nat_le b 126)))

pub both : (a b : Bool) → a ≡ true → b ≡ true → (a && b) ≡ true
both a b f g = rw (f, g) refl

glyph_tame : (d : ℕ) → d < 10 → is_tame (digit_glyph false d) ≡ true
glyph_tame d low = ⊎_elim (λ h. rw h (grind (arith, nat_tests))) (λ h. absurd (grind (arith, nat_tests))) (cases_Bool (nat_lt d 10))

module _ (test : ℕ → Bool) (of : (d : ℕ) → d < 10 → test (digit_glyph false d) ≡ true) where
  onto_pass : (k n : ℕ) (bytes : List ℕ) → AreTame test bytes → AreTame test (digits_onto k 10 false n bytes)
  onto_pass zero n bytes h = h
  onto_pass (suc k) n bytes h =
      let low : n % 10 < 10 = omega arith in
      let more : AreTame test (digit_glyph false (n % 10) ∷ bytes) = both _ _ (of (n % 10) low) h in
      ⊎_elim (λ last. rw last more) (λ next. rw next (onto_pass k (n / 10) _ more)) (cases_Bool (n / 10 == 0))

  -- the digits of a number pass
  pub decimal_pass : (n : ℕ) → AreTame test (decimal n)
  unfolding digits
  decimal_pass n = onto_pass 64 n [] refl

pub decimal_tame : (n : ℕ) → AreTame is_tame (decimal n)
decimal_tame n = decimal_pass is_tame glyph_tame n

-- ## Bytes that pass a test that tame ones pass

module _ (test : ℕ → Bool) (wider : (b : ℕ) → is_tame b ≡ true → test b ≡ true) where
  -- each byte passes
  abbrev Pass : List ℕ → Type 0
  Pass bytes = AreTame test bytes

  pub two : (xs ys : List ℕ) → Pass xs → Pass ys → Pass (xs ++ ys)
  two xs ys p q = list_all-append test xs ys ∙ both (list_all test xs) (list_all test ys) p q

  pub each : {X : Type 0} (f : X → List ℕ) → ((x : X) → Pass (f x)) → (xs : List X) → Pass (flat_map f xs)
  each f of [] = refl
  each f of (x ∷ xs) = two (f x) (flat_map f xs) (of x) (each f of xs)

  pub left : (a b : Bool) → (a && b) ≡ true → a ≡ true
  left true b h = refl
  left false b h = absurd cc

  pub right : (a b : Bool) → (a && b) ≡ true → b ≡ true
  right true b h = h
  right false b h = absurd cc

  pub tame : (bytes : List ℕ) → AreTame is_tame bytes → Pass bytes
  tame [] h = refl
  tame (b ∷ bytes) h = both (test b) (list_all test bytes) (wider b (left (is_tame b) (list_all is_tame bytes) h)) (tame bytes (right (is_tame b) (list_all is_tame bytes) h))

  pub words : (bytes : List ℕ) → Pass (map shown bytes)
  words [] = refl
  words (b ∷ bytes) = both (test (shown b)) (list_all test (map shown bytes)) (wider (shown b) (shown_tame b)) (words bytes)

  number : (n : ℕ) → Pass (decimal n)
  number n = tame (decimal n) (decimal_tame n)

  blanks : (n : ℕ) → Pass (replicate n 32)
  blanks zero = refl
  blanks (suc n) = both (test 32) (list_all test (replicate n 32)) (wider 32 refl) (blanks n)

  -- a word after a blank
  of_spaced : (word : Word) → Pass (spaced word)
  of_spaced word = both (test 32) (list_all test (map shown word)) (wider 32 refl) (words word)

  pub of_task : (name : Word) (arguments : List Word) → Pass (task_words name arguments)
  of_task name arguments =
      two (map shown name) (flat_map spaced arguments) (words name)
      (each spaced of_spaced arguments)

  pub of_setting : (sign : List ℕ) (setting : Setting) → AreTame is_tame sign → Pass (setting_words sign setting)
  of_setting sign setting is =
      let object = map shown setting.object.items in
      two (map shown setting.name.items) (sign ++ object) (words setting.name.items) (two sign object (tame sign is) (words setting.object.items))

  of_joined : (list : List Word) → Pass (joined list)
  of_joined [] = refl
  of_joined (word ∷ list) = two (map shown word) (flat_map spaced list) (words word) (each spaced of_spaced list)

  pub of_moment : (gap : ℕ) → Pass (moment gap)
  of_moment zero = tame (codes " at the start") refl
  of_moment (suc last) = two (codes " after ") (decimal last) (tame (codes " after ") refl) (number last)

  pub of_condition : (condition : Condition) → Pass (condition_words condition)
  of_condition condition =
      two (joined (lists_of condition.literals.items)) (moment condition.gap) (of_joined (lists_of condition.literals.items)) (of_moment condition.gap)

-- ## Text

module _ (glyphs : Glyphs) where
  -- the bytes that may come
  abbrev test : ℕ → Bool
  test = is_tame_in glyphs

  wider : (b : ℕ) → is_tame b ≡ true → is_tame_in glyphs b ≡ true
  wider b h = elim glyphs as (λ g. is_tame_in g b ≡ true) [ Unicode ↦ rw h refl | Ascii ↦ h ]

  bar_tame : (is_last : Bool) → AreTame (is_tame_in glyphs) (text.bar glyphs is_last)
  bar_tame is_last = by glyphs is_last
    where
      by : (g : Glyphs) (b : Bool) → AreTame (is_tame_in g) (text.bar g b)
      by Unicode true = refl
      by Unicode false = refl
      by Ascii true = refl
      by Ascii false = refl

  branch_tame : (is_last : Bool) → AreTame (is_tame_in glyphs) (text.branch glyphs is_last)
  branch_tame is_last = by glyphs is_last
    where
      by : (g : Glyphs) (b : Bool) → AreTame (is_tame_in g) (text.branch g b)
      by Unicode true = refl
      by Unicode false = refl
      by Ascii true = refl
      by Ascii false = refl

  cut_tame : (n : ℕ) → AreTame test (text.cut n)
  cut_tame zero = refl
  cut_tame (suc n) =
      two test wider (codes "+" ++ decimal (suc n)) (codes " ")
      (two test wider (codes "+") (decimal (suc n)) (tame test wider (codes "+") refl) (number test wider (suc n))) (tame test wider (codes " ") refl)

  front_tame : (row : Row) → AreTame test (text.front glyphs row)
  front_tame row =
      two test wider (flat_map (text.bar glyphs) row.above) (text.cut (row.depth - length row.above) ++ text.branch glyphs row.is_last) (each test wider (text.bar glyphs) bar_tame row.above)
      (two test wider (text.cut (row.depth - length row.above)) (text.branch glyphs row.is_last) (cut_tame (row.depth - length row.above)) (branch_tame row.is_last))

  id_tame : (id : ℕ) → AreTame test (text.id_text id)
  id_tame id = two test wider (codes "  #") (decimal id) (tame test wider (codes "  #") refl) (number test wider id)

  end_tame : (mark : Option Mark) → AreTame test (text.mark_text mark ++ 10 ∷ [])
  end_tame mark = two test wider (text.mark_text mark) (10 ∷ []) (by mark) (tame test wider (10 ∷ []) refl)
    where
      by : (m : Option Mark) → AreTame test (text.mark_text m)
      by None = refl
      by (Some m) = two test wider (codes "  <- ") (map shown m.cause.now) (tame test wider (codes "  <- ") refl) (words test wider m.cause.now)

  margin_tame : (width position : ℕ) (line : Line) → AreTame test (text.margin_of width position line)
  margin_tame width position (action line) =
      two test wider (replicate (width - length (decimal position)) 32 ++ decimal position) (replicate 2 32)
      (two test wider (replicate (width - length (decimal position)) 32) (decimal position) (blanks test wider (width - length (decimal position))) (number test wider position))
      (blanks test wider 2)
  margin_tame width position (task line) = two test wider (replicate width 32) (replicate 2 32) (blanks test wider width) (blanks test wider 2)

  own_id : (b : Bool) (id : ℕ) → AreTame test (cond b [] (text.id_text id))
  own_id true id = refl
  own_id false id = id_tame id

  spaced_tame : (setting : Setting) → AreTame test (text.spaced_setting setting)
  spaced_tame setting = both (test 32) (list_all test (setting_words (codes "=") setting)) (wider 32 refl) (of_setting test wider (codes "=") setting refl)

  settings_tame : (settings : List Setting) → AreTame test (text.settings_text settings)
  settings_tame [] = refl
  settings_tame (setting ∷ settings) =
      let more = flat_map text.spaced_setting settings in
      two test wider (codes " (") (setting_words (codes "=") setting ++ (more ++ codes ")")) (tame test wider (codes " (") refl)
      (two test wider (setting_words (codes "=") setting) (more ++ codes ")") (of_setting test wider (codes "=") setting refl)
      (two test wider more (codes ")") (each test wider text.spaced_setting spaced_tame settings) (tame test wider (codes ")") refl)))

  label_tame : (position : ℕ) (settings : List Setting) (line : Line) → AreTame test (text.label position settings line)
  label_tame position settings (action line) =
      two test wider (task_words line.name line.arguments) (cond (nat_eq line.id position) [] (text.id_text line.id)) (of_task test wider line.name line.arguments)
      (own_id (nat_eq line.id position) line.id)
  label_tame position settings (task line) =
      let end = text.settings_text settings ++ text.id_text line.id in
      two test wider (task_words line.task line.arguments) (codes " -> " ++ (map shown line.method ++ end)) (of_task test wider line.task line.arguments)
      (two test wider (codes " -> ") (map shown line.method ++ end) (tame test wider (codes " -> ") refl)
      (two test wider (map shown line.method) end (words test wider line.method)
      (two test wider (text.settings_text settings) (text.id_text line.id) (settings_tame settings) (id_tame line.id))))

  own_tame : (width : ℕ) (mark : Option Mark) (row : Row) (settings : List Setting) (line : Line) → AreTame test (text.own_text glyphs width mark row settings line)
  own_tame width mark row settings line =
      let end = text.mark_text (mark_of mark (id_of line)) ++ 10 ∷ [] in
      let label = text.label row.line settings line in
      two test wider (text.margin_of width row.line line) (text.front glyphs row ++ (label ++ end)) (margin_tame width row.line line)
      (two test wider (text.front glyphs row) (label ++ end) (front_tame row)
      (two test wider label end (label_tame row.line settings line) (end_tame (mark_of mark (id_of line)))))

  below_tame : (width : ℕ) (is_leaf : Bool) (row : Row) → AreTame test (text.front_below glyphs width is_leaf row)
  below_tame width is_leaf row =
      let bars = text.bar glyphs row.is_last ++ text.bar glyphs is_leaf in
      let cut = text.cut (row.depth - length row.above) in
      let above = flat_map (text.bar glyphs) row.above in
      two test wider (replicate width 32) (replicate 2 32 ++ (above ++ (cut ++ bars))) (blanks test wider width)
      (two test wider (replicate 2 32) (above ++ (cut ++ bars)) (blanks test wider 2)
      (two test wider above (cut ++ bars) (each test wider (text.bar glyphs) bar_tame row.above)
      (two test wider cut bars (cut_tame (row.depth - length row.above))
      (two test wider (text.bar glyphs row.is_last) (text.bar glyphs is_leaf) (bar_tame row.is_last) (bar_tame is_leaf)))))

  condition_tame : (width : ℕ) (is_leaf : Bool) (row : Row) (condition : Option Condition) → AreTame test (text.condition_text glyphs width is_leaf row condition)
  condition_tame width is_leaf row None = refl
  condition_tame width is_leaf row (Some condition) =
      two test wider (text.front_below glyphs width is_leaf row) (condition_words condition ++ 10 ∷ []) (below_tame width is_leaf row)
      (two test wider (condition_words condition) (10 ∷ []) (of_condition test wider condition) (tame test wider (10 ∷ []) refl))

  line_tame : (width : ℕ) (mark : Option Mark) (is_leaf : Bool) (row : Row) (detail : Option Detail) (line : Option Line) → AreTame test (text.line_text glyphs width mark is_leaf row detail line)
  line_tame width mark is_leaf row detail None = refl
  line_tame width mark is_leaf row detail (Some line) =
      two test wider (text.own_text glyphs width mark row (settings_of detail) line) (text.condition_text glyphs width is_leaf row (condition_of detail))
      (own_tame width mark row (settings_of detail) line) (condition_tame width is_leaf row (condition_of detail))

  title_tame : (width : ℕ) (caption : Caption) → AreTame test (text.title width caption)
  title_tame width caption =
      let verdict = map shown caption.verdict.now ++ 10 ∷ [] in
      let problem = map shown caption.problem.now in
      two test wider (replicate width 32) (replicate 2 32 ++ (problem ++ (codes ": " ++ verdict))) (blanks test wider width)
      (two test wider (replicate 2 32) (problem ++ (codes ": " ++ verdict)) (blanks test wider 2)
      (two test wider problem (codes ": " ++ verdict) (words test wider caption.problem.now)
      (two test wider (codes ": ") verdict (tame test wider (codes ": ") refl)
      (two test wider (map shown caption.verdict.now) (10 ∷ []) (words test wider caption.verdict.now) (tame test wider (10 ∷ []) refl)))))

  row_tame : (width : ℕ) (mark : Option Mark) (details : Option (List Detail)) (picture : Picture) (row : Row) → AreTame test (text.row_text glyphs width mark details picture row)
  row_tame width mark details picture row =
      let file = picture.file.now in
      line_tame width mark (text.is_leaf picture row.line) row (detail_at details (length file.actions) row.line) (line_at file row.line)

  pub text_tame : (caption : Caption) (details : Option (List Detail)) (picture : Picture) → AreTame test (text.text_bytes glyphs caption details picture)
  text_tame caption details picture =
      let width = text.width_of picture.file.now in
      let of_row = λ (r : DeclaredRow). text.row_text glyphs width caption.mark details picture (seen r) in
      two test wider (text.title width caption) (flat_map of_row picture.rows.items) (title_tame width caption)
      (each test wider of_row (λ (r : DeclaredRow). row_tame width caption.mark details picture (seen r)) picture.rows.items)
