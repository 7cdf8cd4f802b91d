-- Pictures with one text are of one forest.
use Rattle.std.proofs.Common.{◌≡◌, ℕ, zero, suc, ◌+◌, ◌-◌, ◌<◌, ◌≤◌, ◌^◌, Bool, true, false, nat_eq, nat_lt, nat_le, ◌&&◌, ◌||◌, cond, codes, List, [], ◌∷◌, ◌++◌, length, drop, get_or, map, Option, Some, None, slice_get, option_map, ◌⊎◌, inl, inr, refl, sym, ap, ap₂, ◌∙◌, subst, ⊎_elim, arith}
use Rattle.std.specs.Prelude.{replicate}
use Rattle.std.specs.List.{flat_map, AllByRecursion}
use Rattle.std.specs.Fmt.{decimal}
use Rattle.std.proofs.lemmas.Bool.{cases_Bool, cases_lt, lt-ltb, le-ltb, eqb-true}
use Rattle.std.proofs.lemmas.List.{append_assoc, append-nil, append_cancel_left, length-append}
use Rattle.htn_model.specs.PlanFile.{ActionLine, DecompositionLine, PlanFile, IsIn, IsForest, action_ids, decomposition_ids, defined_ids}
use Rattle.htn_model.proofs.Ascending.{in_split}
use Rattle.diagnostics.specs.Shown.{shown}
use Rattle.plan_text.specs.PlanFile.{IsActionLine, IsDecompositionLine, IsPlanFile}
use Rattle.plan_text.specs.Forest.{lists_of}
use Rattle.plan_text.specs.Reached.{children_at}
use Rattle.plan_text.proofs.Bridged.{line_count}
use Rattle.plan_text.proofs.Walked.{at_most}
use Rattle.plan_picture.specs.declared.picture.Picture.{Picture}
use Rattle.plan_picture.specs.declared.row.Row.{Row as DeclaredRow}
use Rattle.plan_picture.specs.Rows.{Row, max_bars, siblings, with_bar, child_rows, root_rows, ArePreorder, none, next}
use Rattle.plan_picture.specs.Firsts.{lines_of}
use Rattle.plan_picture.specs.Seen.{seen, seen_all}
use Rattle.plan_picture.specs.Picture.{IsDrawing}
use Rattle.plan_picture.specs.Outline.{Entry, outline, families, OutlinesAreForests}
use Rattle.plan_picture.proofs.Onces.{have_all_once}
use Rattle.picture_text.specs.declared.caption.Caption.{Caption}
use Rattle.picture_text.specs.declared.caption.Mark.{Mark}
use Rattle.picture_text.specs.declared.as_text.Glyphs.{Glyphs}
use Rattle.picture_text.specs.Lines.{Line, action, task, id_of, line_at, id_or_zero, id_at}
use Rattle.picture_text.specs.Words.{task_words, mark_of}
use Rattle.picture_text.specs.Text.{branch, bar, cut, id_text, mark_text, margin_of, label, line_text, width_of, title, is_leaf, row_text}
use Rattle.picture_text.specs.OneForest.{child_ids, IsFlush, TextShowsForests}
use Rattle.picture_text.proofs.Readings.{blanks, same_blanks, fewer_blanks, Stops, one_run, decimal_inner, decimal_filled, decimal_blanks, decimal_same, behind_words, skips_name, skips_task, past_line, past_shown, true_false, same_bars, same_cut}

-- ## What stands behind the words of a line

-- the id that is written there, if one is
abbrev number : ℕ → Line → Option ℕ
number position (action line) = cond (nat_eq line.id position) None (Some line.id)
number position (task line) = Some line.id

-- as it is written
abbrev number_text : Option ℕ → List ℕ
number_text None = []
number_text (Some id) = id_text id

-- the line can be written: its words are names, and its id fits 64 bits
abbrev pub IsNamed : Line → Type 0
IsNamed (action line) = IsActionLine line
IsNamed (task line) = IsDecompositionLine line

-- the words of a line are skipped
label_behind : (position : ℕ) (line : Line) (rest : List ℕ) → IsNamed line → behind_words false (label position [] line ++ rest) ≡ behind_words false (number_text (number position line) ++ rest)
label_behind position (action line) rest is =
    let words = task_words line.name line.arguments in
    let end : List ℕ = cond (nat_eq line.id position) [] (id_text line.id) in
    ap (behind_words false) (append_assoc words end rest) ∙ skips_task line.name line.arguments is.name is.arguments (end ++ rest)
    ∙ ap (λ bytes. behind_words false (bytes ++ rest)) (by (nat_eq line.id position))
  where
    by : (b : Bool) → cond b [] (id_text line.id) ≡ number_text (cond b None (Some line.id))
    by true = refl
    by false = refl
label_behind position (task line) rest is =
    let words = task_words line.task line.arguments in
    let end = id_text line.id in
    let method = map shown line.method in
    ap (behind_words false) (append_assoc words (codes " -> " ++ (method ++ end)) rest)
    ∙ skips_task line.task line.arguments is.task is.arguments ((codes " -> " ++ (method ++ end)) ++ rest)
    ∙ ap (behind_words true) (append_assoc method end rest) ∙ skips_name true line.method is.method (end ++ rest)

-- what stands behind them
abbrev behind : Option ℕ → Option Mark → List ℕ → List ℕ
behind None None rest = 10 ∷ rest
behind None (Some mark) rest = codes "<- " ++ (map shown mark.cause.now ++ 10 ∷ rest)
behind (Some id) mark rest = 35 ∷ (decimal id ++ (mark_text mark ++ 10 ∷ rest))

is_behind : (o : Option ℕ) (mark : Option Mark) (rest : List ℕ) → behind_words false (number_text o ++ (mark_text mark ++ 10 ∷ rest)) ≡ behind o mark rest
is_behind None None rest = refl
is_behind None (Some mark) rest = refl
is_behind (Some id) mark rest = refl

mark_past : (mark : Option Mark) (rest : List ℕ) → past_line (mark_text mark ++ 10 ∷ rest) ≡ rest
mark_past None rest = refl
mark_past (Some mark) rest = past_shown mark.cause.now (10 ∷ rest)

none_past : (mark : Option Mark) (rest : List ℕ) → past_line (behind None mark rest) ≡ rest
none_past None rest = refl
none_past (Some mark) rest = past_shown mark.cause.now (10 ∷ rest)

mark_stops : (mark : Option Mark) (rest : List ℕ) → Stops (mark_text mark ++ 10 ∷ rest)
mark_stops None rest = refl
mark_stops (Some mark) rest = refl

-- the sign of an id is not there
no_sign : (mark : Option Mark) (rest : List ℕ) → nat_eq (get_or (behind None mark rest) 0 0) 35 ≡ false
no_sign None rest = refl
no_sign (Some mark) rest = refl

abbrev Fits : Option ℕ → Type 0
Fits None = Unit {0}
Fits (Some id) = id < 10 ^ 64

same_behind : (o p : Option ℕ) (mark other : Option Mark) (rest others : List ℕ) → Fits o → Fits p → behind o mark rest ≡ behind p other others → (o ≡ p) × (rest ≡ others)
same_behind None None mark other rest others fits fit e = (refl, sym (none_past mark rest) ∙ ap past_line e ∙ none_past other others)
same_behind None (Some id) mark other rest others fits fit e =
    absurd (true_false true (nat_eq (get_or (behind None mark rest) 0 0) 35) refl (no_sign mark rest) (sym (ap (λ bytes. nat_eq (get_or bytes 0 0) 35) e)))
same_behind (Some id) None mark other rest others fits fit e =
    absurd (true_false true (nat_eq (get_or (behind None other others) 0 0) 35) refl (no_sign other others) (ap (λ bytes. nat_eq (get_or bytes 0 0) 35) e))
same_behind (Some id) (Some d) mark other rest others fits fit e =
    let run =
    one_run (decimal id) (decimal d) (mark_text mark ++ 10 ∷ rest) (mark_text other ++ 10 ∷ others) (decimal_inner id) (decimal_inner d) (mark_stops mark rest) (mark_stops other others)
    (ap (drop 1) e) in
    (ap Some (decimal_same id d fits fit run.0), sym (mark_past mark rest) ∙ ap past_line run.1 ∙ mark_past other others)

number_fits : (position : ℕ) (line : Line) → IsNamed line → Fits (number position line)
number_fits position (action line) is = by (nat_eq line.id position)
  where
    by : (b : Bool) → Fits (cond b None (Some line.id))
    by true = tt
    by false = let low = is.id in omega arith
number_fits position (task line) is = let low = is.id in omega arith

-- ## The margin

-- the margin with what follows it
abbrev margin : ℕ → ℕ → Line → List ℕ → List ℕ
margin width position (action line) rest = replicate (width - length (decimal position)) 32 ++ (decimal position ++ 32 ∷ 32 ∷ rest)
margin width position (task line) rest = replicate width 32 ++ 32 ∷ 32 ∷ rest

margin_is : (width position : ℕ) (line : Line) (rest : List ℕ) → margin_of width position line ++ rest ≡ margin width position line rest
margin_is width position (action line) rest =
    let blank = replicate (width - length (decimal position)) 32 in
    append_assoc (blank ++ decimal position) (32 ∷ 32 ∷ []) rest ∙ append_assoc blank (decimal position) (32 ∷ 32 ∷ rest)
margin_is width position (task line) rest = append_assoc (replicate width 32) (32 ∷ 32 ∷ []) rest

longer : (xs ys : List ℕ) → 0 < length ys → xs ++ ys ≡ [] → ⊥
longer xs ys some e =
    let long = length-append xs ys in
    let none : length (xs ++ ys) ≡ 0 = ap length e in
    omega arith

margin_filled : (width position : ℕ) (line : Line) (rest : List ℕ) → margin width position line rest ≡ [] → ⊥
margin_filled width position (action line) rest e =
    let more = length-append (decimal position) (32 ∷ 32 ∷ rest) in
    longer (replicate (width - length (decimal position)) 32) (decimal position ++ 32 ∷ 32 ∷ rest) (omega arith) e
margin_filled width position (task line) rest e = longer (replicate width 32) (32 ∷ 32 ∷ rest) (omega arith) e

-- two lines have equal margins: they are of one kind, and two actions have one position
abbrev SameMargin : ℕ → ℕ → Line → Line → Type 0
SameMargin n m (action line) (action other) = decimal n ≡ decimal m
SameMargin n m (action line) (task other) = ⊥
SameMargin n m (task line) (action other) = ⊥
SameMargin n m (task line) (task other) = Unit {0}

same_margin : (width : ℕ) → 0 < width → (n m : ℕ) (line other : Line) (rest others : List ℕ) → margin width n line rest ≡ margin width m other others → SameMargin n m line other × (rest ≡ others)
same_margin width wide n m (action line) (action other) rest others e =
    let here = decimal n ++ 32 ∷ 32 ∷ rest in
    let there = decimal m ++ 32 ∷ 32 ∷ others in
    let numbers =
    same_blanks (width - length (decimal n)) (width - length (decimal m)) here there (decimal_blanks n (32 ∷ 32 ∷ rest) ∙ sym (decimal_blanks m (32 ∷ 32 ∷ others))) e in
    let run = one_run (decimal n) (decimal m) (32 ∷ 32 ∷ rest) (32 ∷ 32 ∷ others) (decimal_inner n) (decimal_inner m) refl refl numbers.1 in
    (run.0, ap (drop 2) run.1)
same_margin width wide n m (action line) (task other) rest others e =
    let some = decimal_filled n in
    absurd (fewer_blanks (width - length (decimal n)) width (decimal n ++ 32 ∷ 32 ∷ rest) (32 ∷ 32 ∷ others) (decimal_blanks n (32 ∷ 32 ∷ rest)) (omega arith) e)
same_margin width wide n m (task line) (action other) rest others e =
    let some = decimal_filled m in
    absurd (fewer_blanks (width - length (decimal m)) width (decimal m ++ 32 ∷ 32 ∷ others) (32 ∷ 32 ∷ rest) (decimal_blanks m (32 ∷ 32 ∷ others)) (omega arith) (sym e))
same_margin width wide n m (task line) (task other) rest others e = (tt, ap (drop 2) (append_cancel_left (replicate width 32) (32 ∷ 32 ∷ rest) (32 ∷ 32 ∷ others) e))

some_same : (x y : ℕ) → Some x ≡ Some y → x ≡ y
some_same x y e = cc

no_some : (x : ℕ) → None ≡ Some x → ⊥
no_some x e = cc

-- with the same behind their words they have one id
same_id : (n m : ℕ) (line other : Line) → IsNamed line → IsNamed other → SameMargin n m line other → number n line ≡ number m other → id_of line ≡ id_of other
same_id n m (task line) (task other) is are margins e = some_same line.id other.id e
same_id n m (action line) (task other) is are margins e = absurd margins
same_id n m (task line) (action other) is are margins e = absurd margins
same_id n m (action line) (action other) is are margins e = by (nat_eq line.id n) (nat_eq other.id m) refl refl e
  where
    by : (b c : Bool) → nat_eq line.id n ≡ b → nat_eq other.id m ≡ c → cond b None (Some line.id) ≡ cond c None (Some other.id) → line.id ≡ other.id
    by true true p q h =
        let here = eqb-true line.id n p in
        let there = eqb-true other.id m q in
        let low = is.id in
        let low_too = are.id in
        decimal_same line.id other.id (omega arith) (omega arith) (ap decimal here ∙ margins ∙ sym (ap decimal there))
    by true false p q h = absurd (no_some other.id h)
    by false true p q h = absurd (no_some line.id (sym h))
    by false false p q h = some_same line.id other.id h

-- ## Rows

-- a row whose line is there and can be written, and whose depth is written
pub record IsRead (file : PlanFile) (r : DeclaredRow) : Type 0 where
  pub line : Line
  pub there : line_at file r.line ≡ Some line
  pub named : IsNamed line
  pub bars : length r.above.items ≤ r.depth
  pub low : r.depth < 10 ^ 64

abbrev pub AreRead : PlanFile → List DeclaredRow → Type 0
AreRead file [] = Unit {0}
AreRead file (r ∷ rows) = IsRead file r × AreRead file rows

-- the line of a row from its words on, and what follows it
abbrev worded : Option Mark → DeclaredRow → Line → List ℕ → List ℕ
worded mark r line rest = label r.line [] line ++ (mark_text (mark_of mark (id_of line)) ++ 10 ∷ rest)

-- the line of a row, and what follows it
abbrev written : Glyphs → ℕ → Option Mark → DeclaredRow → Line → List ℕ → List ℕ
written glyphs width mark r line rest =
    margin width r.line line (flat_map (bar glyphs) r.above.items ++ (cut (r.depth - length r.above.items) ++ (branch glyphs r.is_last ++ worded mark r line rest)))

regroup : (m b c d l k rest : List ℕ) → ((m ++ ((b ++ (c ++ d)) ++ (l ++ (k ++ 10 ∷ [])))) ++ []) ++ rest ≡ m ++ (b ++ (c ++ (d ++ (l ++ (k ++ 10 ∷ rest)))))
regroup m b c d l k rest = simp (append_assoc, append-nil)

written_is : (glyphs : Glyphs) (width : ℕ) (mark : Option Mark) (picture : Picture) (r : DeclaredRow) (line : Line) (rest : List ℕ) → line_at picture.file.now r.line ≡ Some line
    → row_text glyphs width mark None picture (seen r) ++ rest ≡ written glyphs width mark r line rest
written_is glyphs width mark picture r line rest there =
    let words = worded mark r line rest in
    ap (λ o. line_text glyphs width mark (is_leaf picture r.line) (seen r) None o ++ rest) there
    ∙ regroup (margin_of width r.line line) (flat_map (bar glyphs) r.above.items) (cut (r.depth - length r.above.items)) (branch glyphs r.is_last) (label r.line [] line)
    (mark_text (mark_of mark (id_of line))) rest
    ∙ margin_is width r.line line (flat_map (bar glyphs) r.above.items ++ (cut (r.depth - length r.above.items) ++ (branch glyphs r.is_last ++ words)))

-- equal lines, if they follow each other in a text
record SameRow (r s : DeclaredRow) (line other : Line) (rest others : List ℕ) : Type 0 where
  ids : id_of line ≡ id_of other
  depths : r.depth ≡ s.depth
  after : rest ≡ others

same_row : (glyphs : Glyphs) (width : ℕ) → 0 < width → (mark other_mark : Option Mark) (r s : DeclaredRow) (line other : Line) → IsNamed line → IsNamed other
    → length r.above.items ≤ r.depth → length s.above.items ≤ s.depth → r.depth < 10 ^ 64 → s.depth < 10 ^ 64
    → (rest others : List ℕ) → written glyphs width mark r line rest ≡ written glyphs width other_mark s other others → SameRow r s line other rest others
same_row glyphs width wide mark other_mark r s line other is are bars bars_too low low_too rest others e =
    let here = worded mark r line rest in
    let there = worded other_mark s other others in
    let n = r.depth - length r.above.items in
    let m = s.depth - length s.above.items in
    let margins =
    same_margin width wide r.line s.line line other (flat_map (bar glyphs) r.above.items ++ (cut n ++ (branch glyphs r.is_last ++ here)))
    (flat_map (bar glyphs) s.above.items ++ (cut m ++ (branch glyphs s.is_last ++ there))) e in
    let signs = same_bars glyphs n m r.is_last s.is_last here there r.above.items s.above.items margins.1 in
    let cuts = same_cut glyphs n m r.is_last s.is_last here there (omega arith) (omega arith) signs.1 in
    let mark_here = mark_of mark (id_of line) in
    let mark_there = mark_of other_mark (id_of other) in
    let found : behind (number r.line line) mark_here rest ≡ behind (number s.line other) mark_there others =
    sym (label_behind r.line line (mark_text mark_here ++ 10 ∷ rest) is ∙ is_behind (number r.line line) mark_here rest) ∙ ap (behind_words false) cuts.1
    ∙ label_behind s.line other (mark_text mark_there ++ 10 ∷ others) are ∙ is_behind (number s.line other) mark_there others in
    let ends = same_behind (number r.line line) (number s.line other) mark_here mark_there rest others (number_fits r.line line is) (number_fits s.line other are) found in
    record {
      ids = same_id r.line s.line line other is are margins.0 ends.0;
      depths = (let same_bars_left = signs.0 in let same_left_out = cuts.0 in omega arith);
      after = ends.1;
    }

entry_same : (a b c d : ℕ) → a ≡ c → b ≡ d → (let x : Entry = record { id = a; depth = b } in x) ≡ (let y : Entry = record { id = c; depth = d } in y)
entry_same a b c d e f = ap₂ (λ i k. (let x : Entry = record { id = i; depth = k } in x)) e f

module _ (glyphs : Glyphs) (width : ℕ) (wide : 0 < width) (mark other_mark : Option Mark) (picture other : Picture) where
  -- the text of some rows
  abbrev own_text : List DeclaredRow → List ℕ
  own_text rows = flat_map (λ r. row_text glyphs width mark None picture (seen r)) rows

  abbrev other_text : List DeclaredRow → List ℕ
  other_text rows = flat_map (λ r. row_text glyphs width other_mark None other (seen r)) rows

  same_rows : (rows others : List DeclaredRow) → AreRead picture.file.now rows → AreRead other.file.now others → own_text rows ≡ other_text others
      → outline (id_at picture.file.now) (seen_all rows) ≡ outline (id_at other.file.now) (seen_all others)
  same_rows [] [] read read_too e = refl
  same_rows [] (s ∷ others) read read_too e =
      let there = read_too.0 in
      absurd (margin_filled width s.line there.line _ (sym (e ∙ written_is glyphs width other_mark other s there.line (other_text others) there.there)))
  same_rows (r ∷ rows) [] read read_too e =
      let here = read.0 in
      absurd (margin_filled width r.line here.line _ (sym (written_is glyphs width mark picture r here.line (own_text rows) here.there) ∙ e))
  same_rows (r ∷ rows) (s ∷ others) read read_too e =
      let here = read.0 in
      let there = read_too.0 in
      let one =
      same_row glyphs width wide mark other_mark r s here.line there.line here.named there.named here.bars there.bars here.low there.low (own_text rows) (other_text others)
      (sym (written_is glyphs width mark picture r here.line (own_text rows) here.there) ∙ e ∙ written_is glyphs width other_mark other s there.line (other_text others) there.there) in
      let more = same_rows rows others read.1 read_too.1 one.after in
      let id : id_at picture.file.now r.line ≡ id_at other.file.now s.line = ap id_or_zero here.there ∙ one.ids ∙ sym (ap id_or_zero there.there) in
      ap₂ (λ x xs. x ∷ xs) (entry_same (id_at picture.file.now r.line) r.depth (id_at other.file.now s.line) s.depth id one.depths) more

-- ## The title

regroup_title : (w p v rest : List ℕ) → (w ++ (32 ∷ 32 ∷ (p ++ (58 ∷ 32 ∷ (v ++ 10 ∷ []))))) ++ rest ≡ w ++ (32 ∷ 32 ∷ (p ++ (58 ∷ 32 ∷ (v ++ 10 ∷ rest))))
regroup_title w p v rest = simp append_assoc

no_blank : (b : ℕ) → nat_eq b 32 ≡ false → nat_eq (shown b) 32 ≡ false
no_blank b other = ⊎_elim (λ as_is. rw as_is other) (λ hidden. rw hidden refl) (cases_Bool (nat_eq b 9 || (nat_le 32 b && nat_le b 126)))

flush_blanks : (words rest : List ℕ) → IsFlush words → blanks (map shown words ++ 58 ∷ rest) ≡ 0
flush_blanks [] rest flush = refl
flush_blanks (b ∷ words) rest flush =
    ⊎_elim (λ same. absurd (flush words (ap (λ c. c ∷ words) (eqb-true b 32 same)))) (λ other. ap (λ p. cond p (suc (blanks (map shown words ++ 58 ∷ rest))) 0) (no_blank b other))
    (cases_Bool (nat_eq b 32))

-- the title behind the margin, and what follows it
abbrev titled : Caption → List ℕ → List ℕ
titled caption rest = map shown caption.problem.now ++ (58 ∷ 32 ∷ (map shown caption.verdict.now ++ 10 ∷ rest))

titled_past : (caption : Caption) (rest : List ℕ) → past_line (32 ∷ 32 ∷ titled caption rest) ≡ rest
titled_past caption rest = past_shown caption.problem.now (58 ∷ 32 ∷ (map shown caption.verdict.now ++ 10 ∷ rest)) ∙ past_shown caption.verdict.now (10 ∷ rest)

same_title : (width wide : ℕ) (caption other : Caption) (rest others : List ℕ) → IsFlush caption.problem.now → IsFlush other.problem.now
    → title width caption ++ rest ≡ title wide other ++ others → (width ≡ wide) × (rest ≡ others)
same_title width wide caption other rest others flush flush_too e =
    let here = regroup_title (replicate width 32) (map shown caption.problem.now) (map shown caption.verdict.now) rest in
    let there = regroup_title (replicate wide 32) (map shown other.problem.now) (map shown other.verdict.now) others in
    let none = flush_blanks caption.problem.now (32 ∷ (map shown caption.verdict.now ++ 10 ∷ rest)) flush in
    let none_too = flush_blanks other.problem.now (32 ∷ (map shown other.verdict.now ++ 10 ∷ others)) flush_too in
    let both = same_blanks width wide (32 ∷ 32 ∷ titled caption rest) (32 ∷ 32 ∷ titled other others) (ap (λ n. suc (suc n)) (none ∙ sym none_too)) (sym here ∙ e ∙ there) in
    (both.0, sym (titled_past caption rest) ∙ ap past_line both.1 ∙ titled_past other others)

-- ## Pictures have such rows

-- no more bars than lines above, and no more of these than some number
abbrev IsLow : ℕ → Row → Type 0
IsLow most row = (length row.above ≤ row.depth) × (row.depth ≤ most)

lower : (few most : ℕ) (row : Row) → few ≤ most → IsLow few row → IsLow most row
lower few most row less low = let h = low.1 in (low.0, omega arith)

sibling_has : (parent : Option ℕ) (depth : ℕ) (above : List Bool) (lines : List ℕ) (row : Row) → IsIn row (siblings parent depth above lines) → (row.depth ≡ depth) × (row.above ≡ above)
sibling_has parent depth above [] row i = absurd i
sibling_has parent depth above (line ∷ lines) row (inl same) = (ap (λ r. r.depth) same, ap (λ r. r.above) same)
sibling_has parent depth above (line ∷ lines) row (inr i) = sibling_has parent depth above lines row i

one_bar : (above : List Bool) (last : Bool) → length (with_bar above last) ≤ length above + 1
one_bar above last = by (nat_lt (length above) max_bars)
  where
    by : (b : Bool) → length (cond b (above ++ last ∷ []) above) ≤ length above + 1
    by true = let long = length-append above (last ∷ []) in omega arith
    by false = omega arith

child_low : (children : ℕ → List ℕ) (most : ℕ) (row : Row) → IsLow most row → (child : Row) → IsIn child (child_rows children row) → IsLow (most + 1) child
child_low children most row low child i =
    let has = sibling_has (Some row.line) (row.depth + 1) (with_bar row.above row.is_last) (children row.line) child i in
    let depth = has.0 in
    let bars = ap length has.1 in
    let one = one_bar row.above row.is_last in
    let own = low.0 in
    let less = low.1 in
    (omega arith, omega arith)

all_low : (children : ℕ → List ℕ) (most : ℕ) (rows all : List Row) → ArePreorder children rows all → ((row : Row) → IsIn row rows → IsLow most row)
    → (row : Row) → IsIn row all → IsLow (most + length all) row
all_low children most _ _ none low x i = absurd i
all_low children most _ _ (next row rows below after p r) low x (inl same) =
    lower most (most + length (row ∷ (below ++ after))) x (omega arith) (subst (IsLow most) (sym same) (low row (inl refl)))
all_low children most _ _ (next row rows below after p r) low x (inr i) =
    let long = length-append below after in
    elim (in_split x below after i) [
      | inl b ↦ lower (most + 1 + length below) (most + length (row ∷ (below ++ after))) x (omega arith)
          (all_low children (most + 1) (child_rows children row) below p (child_low children most row (low row (inl refl))) x b)
      | inr a ↦ lower (most + length after) (most + length (row ∷ (below ++ after))) x (omega arith) (all_low children most rows after r (λ y j. low y (inr j)) x a)
    ]

root_low : (roots : List ℕ) (row : Row) → IsIn row (root_rows roots) → IsLow 0 row
root_low roots row i =
    let has = sibling_has None 0 [] roots row i in
    let depth = has.0 in
    let bars = ap length has.1 in
    (omega arith, omega arith)

action_low : (lines : List ActionLine) → AllByRecursion IsActionLine lines → (id : ℕ) → IsIn id (action_ids lines) → id < 2 ^ 64
action_low [] are id i = absurd i
action_low (line ∷ lines) are id (inl same) = subst (λ n. n < 2 ^ 64) (sym same) are.0.id
action_low (line ∷ lines) are id (inr i) = action_low lines are.1 id i

task_low : (lines : List DecompositionLine) → AllByRecursion IsDecompositionLine lines → (id : ℕ) → IsIn id (decomposition_ids lines) → id < 2 ^ 64
task_low [] are id i = absurd i
task_low (line ∷ lines) are id (inl same) = subst (λ n. n < 2 ^ 64) (sym same) are.0.id
task_low (line ∷ lines) are id (inr i) = task_low lines are.1 id i

-- ids that fit 64 bits number few lines
few_lines : (file : PlanFile) → IsPlanFile file → IsForest file → length (defined_ids file) ≤ 2 ^ 64
few_lines file is forest =
    at_most (2 ^ 64) (defined_ids file) forest.defined_once (λ id i. elim (in_split id (action_ids file.actions) (decomposition_ids file.decompositions) i) [
      | inl a ↦ action_low file.actions is.actions id a
      | inr d ↦ task_low file.decompositions is.decompositions id d
    ])

as_many_rows : (rows : List Row) → length (lines_of rows) ≡ length rows
as_many_rows [] = refl
as_many_rows (row ∷ rows) = ap suc (as_many_rows rows)

at_named : {X : Type 0} (P : X → Type 0) (xs : List X) (j : ℕ) → AllByRecursion P xs → j < length xs → (x : X) × (slice_get xs j ≡ Some x) × P x
at_named P [] j are low = absurd (omega arith)
at_named P (x ∷ xs) zero are low = (x, refl, are.0)
at_named P (x ∷ xs) (suc j) are low = at_named P xs j are.1 (omega arith)

line_named : (file : PlanFile) → IsPlanFile file → (n : ℕ) → n < length file.actions + length file.decompositions → (line : Line) × (line_at file n ≡ Some line) × IsNamed line
line_named file is n low = by (cases_lt n (length file.actions))
  where
    by : (n < length file.actions) ⊎ (length file.actions ≤ n) → (line : Line) × (line_at file n ≡ Some line) × IsNamed line
    by (inl less) =
        let (l, at, named) = at_named IsActionLine file.actions n is.actions less in (
          action l,
          ap (λ b. cond b (option_map action (slice_get file.actions n)) (option_map task (slice_get file.decompositions (n - length file.actions)))) (lt-ltb n (length file.actions) less) ∙ ap (option_map action) at,
          named,
        )
    by (inr more) =
        let (l, at, named) = at_named IsDecompositionLine file.decompositions (n - length file.actions) is.decompositions (omega arith) in (
          task l,
          ap (λ b. cond b (option_map action (slice_get file.actions n)) (option_map task (slice_get file.decompositions (n - length file.actions)))) (le-ltb n (length file.actions) more) ∙ ap (option_map task) at,
          named,
        )

are_read : (file : PlanFile) → IsPlanFile file → (rows : List DeclaredRow) → ((line : ℕ) → IsIn line (lines_of (seen_all rows)) → line < length file.actions + length file.decompositions)
    → ((row : Row) → IsIn row (seen_all rows) → IsLow (2 ^ 64) row) → AreRead file rows
are_read file is [] within low = tt
are_read file is (r ∷ rows) within low =
    let (line, there, named) = line_named file is r.line (within r.line (inl refl)) in
    let own = low (seen r) (inl refl) in
    let deep = own.1 in
    (record { line = line; there = there; named = named; bars = own.0; low = omega arith }, are_read file is rows (λ l i. within l (inr i)) (λ row i. low row (inr i)))

pub drawing_read : (file : PlanFile) (roots : List ℕ) (children : List (List ℕ)) (rows : List DeclaredRow) → IsPlanFile file → IsDrawing file roots children (seen_all rows) → AreRead file rows
drawing_read file roots children rows is drawing =
    let once = have_all_once file roots children (seen_all rows) drawing in
    let few = few_lines file is drawing.is_forest.is_forest in
    let many = at_most (length (defined_ids file)) (lines_of (seen_all rows)) once.once once.within in
    let as_many = as_many_rows (seen_all rows) in
    let low = all_low (children_at (length file.actions) children) 0 (root_rows roots) (seen_all rows) drawing.preorder (root_low roots) in
    are_read file is rows (λ line i. (let less = once.within line i in let count = line_count file in omega arith))
    (λ row i. lower (0 + length (seen_all rows)) (2 ^ 64) row (omega arith) (low row i))

-- ## Forests

ids_of : (id : ℕ → ℕ) (rows : List DeclaredRow) → map (λ (e : Entry). e.id) (outline id (seen_all rows)) ≡ map (λ (r : DeclaredRow). id r.line) rows
ids_of id [] = refl
ids_of id (r ∷ rows) = ap (λ xs. id r.line ∷ xs) (ids_of id rows)

families_of : (file : PlanFile) (children : List (List ℕ)) (rows : List DeclaredRow)
    → families (id_at file) (children_at (length file.actions) children) (seen_all rows) ≡ map (λ (r : DeclaredRow). child_ids file children r.line) rows
families_of file children [] = refl
families_of file children (r ∷ rows) = ap (λ xs. child_ids file children r.line ∷ xs) (families_of file children rows)

pub text_shows_forests : OutlinesAreForests → TextShowsForests
text_shows_forests outlines glyphs caption other_caption picture other file other_file flush flush_too is are pictured pictured_too e =
    let own = picture.file.now in
    let own_too = other.file.now in
    let kids = lists_of picture.children.items in
    let kids_too = lists_of other.children.items in
    let rows = picture.rows.items in
    let rows_too = other.rows.items in
    let drawing = subst (λ f. IsDrawing f picture.roots.items kids (seen_all rows)) (sym pictured.file_is) pictured.drawing in
    let drawing_too = subst (λ f. IsDrawing f other.roots.items kids_too (seen_all rows_too)) (sym pictured_too.file_is) pictured_too.drawing in
    let read = drawing_read own picture.roots.items kids rows (subst IsPlanFile (sym pictured.file_is) is) drawing in
    let read_too = drawing_read own_too other.roots.items kids_too rows_too (subst IsPlanFile (sym pictured_too.file_is) are) drawing_too in
    let titles =
    same_title (width_of own) (width_of own_too) caption other_caption (own_text glyphs (width_of own) (decimal_filled (length own.actions - 1)) caption.mark other_caption.mark picture other rows)
    (other_text glyphs (width_of own_too) (decimal_filled (length own_too.actions - 1)) caption.mark other_caption.mark picture other rows_too) flush flush_too e in
    let same =
    same_rows glyphs (width_of own) (decimal_filled (length own.actions - 1)) caption.mark other_caption.mark picture other rows rows_too read read_too
    (subst (λ w. flat_map (λ r. row_text glyphs (width_of own) caption.mark None picture (seen r)) rows ≡ flat_map (λ r. row_text glyphs w other_caption.mark None other (seen r)) rows_too)
    (sym titles.0) titles.1) in
    let forests =
    outlines (id_at own) (id_at own_too) (children_at (length own.actions) kids) (children_at (length own_too.actions) kids_too) picture.roots.items other.roots.items (seen_all rows)
    (seen_all rows_too) drawing.preorder drawing_too.preorder same in (
      forests.0,
      sym (ids_of (id_at own) rows) ∙ ap (map (λ (e : Entry). e.id)) same ∙ ids_of (id_at own_too) rows_too,
      sym (families_of own kids rows) ∙ forests.1 ∙ families_of own_too kids_too rows_too,
    )
