-- Pages command no terminal.
use Rattle.std.proofs.Common.{◌≡◌, ℕ, zero, suc, ◌-◌, ◌==◌, ◌%◌, ◌<◌, ◌≤◌, Bool, true, false, nat_eq, max, cond, codes, List, [], ◌∷◌, ◌++◌, length, get_or, option_map, Option, Some, None, ◌⊎◌, inl, inr, refl, sym, subst}
use Rattle.std.specs.List.{flat_map, range_with_len}
use Rattle.std.specs.Fmt.{decimal}
use Rattle.std.specs.Str.{bytes_eq}
use Rattle.std.proofs.lemmas.Bool.{cases_lt, eqb-true}
use Rattle.htn_model.specs.PlanFile.{ActionLine, PlanFile, Word}
use Rattle.plan_causes.specs.Facts.{words_of}
use Rattle.plan_causes.specs.declared.run.Change.{Change}
use Rattle.plan_causes.specs.declared.run.Fact.{Fact}
use Rattle.plan_causes.specs.declared.run.Run.{Run}
use Rattle.diagnostics.specs.Shown.{shown}
use Rattle.diagnostics.specs.Tame.{is_tame}
use Rattle.plan_picture.specs.declared.picture.Picture.{Picture}
use Rattle.plan_picture.specs.Rows.{Row}
use Rattle.picture_text.specs.declared.caption.Caption.{Caption}
use Rattle.picture_text.specs.declared.caption.Mark.{Mark}
use Rattle.plan_text.specs.Forest.{lists_of}
use Rattle.picture_text.specs.declared.detail.Setting.{Setting}
use Rattle.picture_text.specs.declared.detail.Condition.{Condition}
use Rattle.picture_text.specs.declared.detail.Detail.{Detail}
use Rattle.picture_text.specs.Details.{detail_at, condition_of, moment}
use Rattle.picture_text.specs.Lines.{Line, action, task, id_of, line_at}
use Rattle.picture_text.specs.Tame.{AreTame}
use Rattle.picture_text.specs.Words.{mark_of, is_marked}
use Rattle.picture_text.proofs.Tamed.{both, decimal_tame, two, each, left, of_moment, words as shown_words}
use Rattle.picture_svg.specs.Escape.{less, greater, ampersand, quote, entity, escape}
use Rattle.picture_svg.specs.Grid.{rows_of, actions_of}
use Rattle.picture_svg.specs.declared.layout.Layout.{Layout}
use Rattle.picture_svg.specs.Svg.{svg_bytes}
use Rattle.picture_html.specs.declared.bars.Bar.{Bar}
use Rattle.picture_html.specs.declared.remarks.Remarks.{Remarks}
use Rattle.picture_html.specs.Changes.{joined, fact, change, start_row, action_row, action_rows, table, run}
use Rattle.picture_html.specs.Why as why_spec
use Rattle.picture_html.specs.Why.{line_byte, clean_lines, why}
use Rattle.picture_html.specs.Bars.{max_levels}
use Rattle.picture_html.specs.Label.{clean, words_between, between, spaced, name_text, words, id_text, id, flag, sign, cut, text, front, label}
use Rattle.picture_html.specs.Outline.{next_depth, folds, ends, outline, line_row}
use Rattle.picture_html.specs.Page.{title, begin, head, verdict, counts, header, columns, ruler, test_key, key, chart, tree, above, below, details_of, html_bytes, max_drawn, IsHtmlOf}
use Rattle.picture_html.specs.Row as row_spec
use Rattle.picture_html.specs.Row.{level, row_class, row_text}
use Rattle.picture_html.specs.Ruler.{step_of, tick, tick_at, ticks}
use Rattle.picture_html.specs.Style as look
use Rattle.picture_html.specs.Style.{style, more_style}
use Rattle.picture_html.specs.Time.{extent, bar_text, link, test, time}
use Rattle.picture_html.specs.Tip.{setting_line, literal_line, condition_lines, tip, are_tested}

-- tame bytes
abbrev pub Ok : List ℕ → Type 0
Ok bytes = AreTame is_tame bytes

itself : (b : ℕ) → is_tame b ≡ true → is_tame b ≡ true
itself b h = h

-- two parts, three and four
join : (xs ys : List ℕ) → Ok xs → Ok ys → Ok (xs ++ ys)
join xs ys p q = two is_tame itself xs ys p q

three : (xs ys zs : List ℕ) → Ok xs → Ok ys → Ok zs → Ok (xs ++ (ys ++ zs))
three xs ys zs p q r = join xs (ys ++ zs) p (join ys zs q r)

four : (ws xs ys zs : List ℕ) → Ok ws → Ok xs → Ok ys → Ok zs → Ok (ws ++ (xs ++ (ys ++ zs)))
four ws xs ys zs o p q r = join ws (xs ++ (ys ++ zs)) o (three xs ys zs p q r)

-- ## Words and numbers

byte_tame : (p q r s : Bool) (b : ℕ) → is_tame b ≡ true → Ok (cond p (entity less) (cond q (entity greater) (cond r (entity ampersand) (cond s (entity quote) (b ∷ [])))))
byte_tame true q r s b h = refl
byte_tame false true r s b h = refl
byte_tame false false true s b h = refl
byte_tame false false false true b h = refl
byte_tame false false false false b h = both (is_tame b) true h refl

shown_ok : (b : ℕ) → is_tame (shown b) ≡ true
shown_ok b = left is_tame itself (is_tame (shown b)) true (shown_words is_tame itself (b ∷ []))

clean_tame : (bytes : List ℕ) → Ok (clean bytes)
clean_tame bytes =
    each is_tame itself (λ b. escape (shown b)) (λ b. byte_tame (shown b == 60) (shown b == 62) (shown b == 38) (shown b == 34) (shown b) (shown_ok b)) bytes

words_ok : (before bytes after : List ℕ) → Ok before → Ok after → Ok (words_between before bytes after)
words_ok before bytes after p q = three before (clean bytes) after p (clean_tame bytes) q

number_ok : (before : List ℕ) (n : ℕ) (after : List ℕ) → Ok before → Ok after → Ok (between before n after)
number_ok before n after p q = three before (decimal n) after p (decimal_tame n) q

-- ## Labels

spaced_ok : (word : Word) → Ok (spaced word)
spaced_ok word = join (32 ∷ []) (clean word) refl (clean_tame word)

name_ok : (name : Word) (arguments : List Word) → Ok (name_text name arguments)
name_ok name arguments =
    join (words_between (codes "<b>") name (codes "</b>")) (flat_map spaced arguments) (words_ok (codes "<b>") name (codes "</b>") refl refl) (each is_tame itself spaced spaced_ok arguments)

line_words_ok : (line : Line) → Ok (words line)
line_words_ok (action line) = name_ok line.name line.arguments
line_words_ok (task line) =
    join (name_text line.task line.arguments) (words_between (codes " <em>") line.method (codes "</em>")) (name_ok line.task line.arguments) (words_ok (codes " <em>") line.method (codes "</em>") refl refl)

id_text_ok : (n : ℕ) → Ok (id_text n)
id_text_ok n = number_ok (codes " <small>#") n (codes "</small>") refl refl

own_id_ok : (b : Bool) (n : ℕ) → Ok (cond b [] (id_text n))
own_id_ok true n = refl
own_id_ok false n = id_text_ok n

id_ok : (n : ℕ) (line : Line) → Ok (id n line)
id_ok n (action line) = own_id_ok (nat_eq line.id n) line.id
id_ok n (task line) = id_text_ok line.id

flag_ok : (mark : Option Mark) → Ok (flag mark)
flag_ok None = refl
flag_ok (Some mark) = words_ok (codes " <mark>") mark.cause.now (codes "</mark>") refl refl

sign_ok : (n : ℕ) (line : Line) → Ok (sign n line)
sign_ok n (action line) = number_ok (codes "<b class=\"no\">") n (codes "</b>") refl refl
sign_ok n (task line) = refl

cut_ok : (more : ℕ) → Ok (cut more)
cut_ok zero = refl
cut_ok (suc more) = number_ok (codes "<small>+") (suc more) (codes "</small>") refl refl

label_ok : (mark : Option Mark) (more n : ℕ) (line : Line) → Ok (label mark more n line)
label_ok mark more n line =
    three (front more n line) (text mark n line) (codes "</span></span>")
    (four (codes "<span class=\"label\">") (cut more) (sign n line) (codes "<span>") refl (cut_ok more) (sign_ok n line) refl)
    (three (words line) (id n line) (flag mark) (line_words_ok line) (id_ok n line) (flag_ok mark)) refl

-- ## Time

extent_ok : (first last : ℕ) → Ok (extent first last)
extent_ok first last =
    join (between (codes " style=\"--a:") first (codes ";--b:")) (between (codes "") last (codes "\"></i>")) (number_ok (codes " style=\"--a:") first (codes ";--b:") refl refl)
    (number_ok (codes "") last (codes "\"></i>") refl refl)

bar_ok : (bar : Bar) → Ok (bar_text bar)
bar_ok bar = join (codes "<i") (extent bar.first bar.last) refl (extent_ok bar.first bar.last)

link_ok : (bars : List Bar) → Ok (link bars)
link_ok [] = refl
link_ok (bar ∷ []) = refl
link_ok (bar ∷ next ∷ bars) =
    let last = (get_or (next ∷ bars) (length bars) bar).last in join (codes "<i class=\"link\"") (extent bar.first last) refl (extent_ok bar.first last)

test_ok : (condition : Option Condition) → Ok (test condition)
test_ok None = refl
test_ok (Some condition) = number_ok (codes "<i class=\"p\" style=\"--a:") condition.gap (codes "\"></i>") refl refl

time_ok : (bars : List Bar) (condition : Option Condition) → Ok (time bars condition)
time_ok bars condition =
    let end = codes "</span>" in
    four (codes "<span class=\"time\">") (link bars) (flat_map bar_text bars) (test condition ++ end) refl (link_ok bars) (each is_tame itself bar_text bar_ok bars)
    (join (test condition) end (test_ok condition) refl)

-- ## What a solution says

setting_ok : (setting : Setting) → Ok (setting_line setting)
setting_ok setting =
    four (clean setting.name.items) (codes " = ") (clean setting.object.items) (codes "\n") (clean_tame setting.name.items) refl (clean_tame setting.object.items) refl

literal_ok : (literal : Word) → Ok (literal_line literal)
literal_ok literal = join (clean literal) (codes "\n") (clean_tame literal) refl

condition_ok : (condition : Option Condition) → Ok (condition_lines condition)
condition_ok None = refl
condition_ok (Some condition) =
    let literals = lists_of condition.literals.items in
    four (codes "precondition") (moment condition.gap) (codes ":\n") (flat_map literal_line literals) refl (of_moment is_tame itself condition.gap) refl (each is_tame itself literal_line literal_ok literals)

tip_ok : (detail : Option Detail) → Ok (tip detail)
tip_ok None = refl
tip_ok (Some detail) =
    four (codes "<span class=\"tip\">") (flat_map setting_line detail.settings.items) (condition_lines detail.condition) (codes "</span>") refl
    (each is_tame itself setting_line setting_ok detail.settings.items) (condition_ok detail.condition) refl

-- ## Rows

begin_ok : (f : Bool) (depth : ℕ) → Ok (row_spec.begin f depth)
begin_ok true depth = number_ok (codes "<details open style=\"--d:") (level depth) (codes "\">\n<summary") refl refl
begin_ok false depth = number_ok (codes "<div style=\"--d:") (level depth) (codes "\"") refl refl

class_ok : (marked : Bool) (line : Line) → Ok (row_class marked line)
class_ok false (action line) = refl
class_ok true (action line) = refl
class_ok false (task line) = refl
class_ok true (task line) = refl

end_ok : (f : Bool) → Ok (row_spec.end f)
end_ok true = refl
end_ok false = refl

row_ok : (mark : Option Mark) (f : Bool) (row : Row) (line : Option Line) (bars : List Bar) (detail : Option Detail) → Ok (row_text mark f row line bars detail)
row_ok mark f row None bars detail = refl
row_ok mark f row (Some line) bars detail =
    let words = label (mark_of mark (id_of line)) (row.depth - max_levels) row.line line in
    let now = time bars (condition_of detail) in
    let rest = words ++ (now ++ (tip detail ++ row_spec.end f)) in
    three (row_spec.begin f row.depth) (row_class (is_marked mark (id_of line)) line) rest (begin_ok f row.depth) (class_ok (is_marked mark (id_of line)) line)
    (four words now (tip detail) (row_spec.end f) (label_ok (mark_of mark (id_of line)) (row.depth - max_levels) row.line line) (time_ok bars (condition_of detail))
    (tip_ok detail) (end_ok f))

ends_ok : (n : ℕ) → Ok (ends n)
ends_ok zero = refl
ends_ok (suc n) = join (codes "</details>\n") (ends n) refl (ends_ok n)

outline_ok : (mark : Option Mark) (file : PlanFile) (details : Option (List Detail)) (bars : ℕ → List Bar) (rows : List Row) → Ok (outline (line_row mark file details bars) rows)
outline_ok mark file details bars [] = refl
outline_ok mark file details bars (row ∷ rows) =
    let f = folds row.depth (next_depth rows) in
    let n = level row.depth - level (next_depth rows) in
    let detail = detail_at details (length file.actions) row.line in
    let here = row_text mark f row (line_at file row.line) (bars row.line) detail in
    join (here ++ ends n) (outline (line_row mark file details bars) rows) (join here (ends n) (row_ok mark f row (line_at file row.line) (bars row.line) detail) (ends_ok n)) (outline_ok mark file details bars rows)

-- ## How it looks

colours_ok : Ok look.colours
colours_ok = join look.day look.night refl refl

around_ok : Ok look.around
around_ok =
    join look.frame (look.boxes ++ (look.why ++ (look.run ++ look.legend))) refl (four look.boxes look.why look.run look.legend refl refl refl refl)

rows_ok : Ok look.outline
rows_ok = four look.rows look.words look.marks look.signs refl refl refl refl

line_ok : Ok look.line
line_ok = four look.time look.bars look.narrow look.paper refl refl refl refl

style_ok : Ok style
style_ok = four look.colours look.around look.outline look.line colours_ok around_ok rows_ok line_ok

more_ok : (details : Option (List Detail)) → Ok (more_style details)
more_ok None = refl
more_ok (Some details) = refl

-- ## All of it

tick_ok : (n : ℕ) → Ok (tick n)
tick_ok n =
    join (between (codes "<u style=\"--a:") n (codes "\">")) (between (codes "") n (codes "</u>")) (number_ok (codes "<u style=\"--a:") n (codes "\">") refl refl) (number_ok (codes "") n (codes "</u>") refl refl)

if_tick_ok : (b : Bool) (n : ℕ) → Ok (cond b (tick n) [])
if_tick_ok true n = tick_ok n
if_tick_ok false n = refl

ticks_ok : (n : ℕ) → Ok (ticks n)
ticks_ok n = each is_tame itself (tick_at (step_of n)) (λ k. if_tick_ok (nat_eq (k % step_of n) 0) k) (range_with_len 0 n)

title_ok : (caption : Caption) → Ok (title caption)
title_ok caption =
    join (words_between (codes "<title>") caption.problem.now (codes ": ")) (words_between (codes "") caption.verdict.now (codes "</title>\n"))
    (words_ok (codes "<title>") caption.problem.now (codes ": ") refl refl) (words_ok (codes "") caption.verdict.now (codes "</title>\n") refl refl)

if_valid_ok : (b : Bool) (bytes : List ℕ)
    → Ok (cond b (words_between (codes "<span class=\"verdict\">") bytes (codes "</span>\n")) (words_between (codes "<span class=\"verdict no\">") bytes (codes "</span>\n")))
if_valid_ok true bytes = words_ok (codes "<span class=\"verdict\">") bytes (codes "</span>\n") refl refl
if_valid_ok false bytes = words_ok (codes "<span class=\"verdict no\">") bytes (codes "</span>\n") refl refl

verdict_ok : (mark : Option Mark) (bytes : List ℕ) → Ok (verdict mark bytes)
verdict_ok (Some mark) bytes = words_ok (codes "<a class=\"verdict no\" href=\"#marked\">") bytes (codes "</a>\n") refl refl
verdict_ok None bytes = if_valid_ok (bytes_eq bytes (codes "valid")) bytes

counts_ok : (caption : Caption) (file : PlanFile) → Ok (counts caption file)
counts_ok caption file =
    three (words_between (codes "<p>domain <b>") caption.domain.now (codes "</b> &middot; actions <b>")) (between (codes "") (length file.actions) (codes "</b> &middot; tasks <b>"))
    (between (codes "") (length file.decompositions) (codes "</b></p>\n"))
    (words_ok (codes "<p>domain <b>") caption.domain.now (codes "</b> &middot; actions <b>") refl refl)
    (number_ok (codes "") (length file.actions) (codes "</b> &middot; tasks <b>") refl refl) (number_ok (codes "") (length file.decompositions) (codes "</b></p>\n") refl refl)

header_ok : (caption : Caption) (file : PlanFile) → Ok (header caption file)
header_ok caption file =
    four (words_between (codes "<header>\n<h1>") caption.problem.now (codes "</h1>\n")) (verdict caption.mark caption.verdict.now) (counts caption file) (codes "</header>\n")
    (words_ok (codes "<header>\n<h1>") caption.problem.now (codes "</h1>\n") refl refl) (verdict_ok caption.mark caption.verdict.now) (counts_ok caption file) refl

columns_ok : (n : ℕ) → Ok (columns n)
columns_ok n =
    join (between (codes "<h2>Decomposition and time</h2>\n<div class=\"chart\" style=\"--n:") (max 1 n) (codes ";--s:")) (between (codes "") (step_of n) (codes "\">\n"))
    (number_ok (codes "<h2>Decomposition and time</h2>\n<div class=\"chart\" style=\"--n:") (max 1 n) (codes ";--s:") refl refl) (number_ok (codes "") (step_of n) (codes "\">\n") refl refl)

ruler_ok : (n : ℕ) → Ok (ruler n)
ruler_ok n =
    four (codes "<div class=\"row head\"><span class=\"label\">task and method</span>") (codes "<span class=\"time\">") (ticks n) (codes "</span></div>\n") refl refl (ticks_ok n) refl

test_key_ok : (tested : Bool) → Ok (test_key tested)
test_key_ok true = refl
test_key_ok false = refl

key_ok : (tested : Bool) → Ok (key tested)
key_ok tested =
    four (codes "</div>\n<p class=\"key\"><span><i class=\"a\"></i>action</span>") (codes "<span><i></i>all actions of a task</span>") (test_key tested) (codes "</p>\n") refl refl (test_key_ok tested) refl

chart_ok : (caption : Caption) (details : Option (List Detail)) (picture : Picture) (bars : ℕ → List Bar) → Ok (chart caption details picture bars)
chart_ok caption details picture bars =
    let rows = outline (line_row caption.mark picture.file.now details bars) (rows_of picture) in
    four (columns (actions_of picture)) (ruler (actions_of picture)) rows (key (are_tested details)) (columns_ok (actions_of picture)) (ruler_ok (actions_of picture))
    (outline_ok caption.mark picture.file.now details bars (rows_of picture)) (key_ok (are_tested details))

head_ok : (caption : Caption) (details : Option (List Detail)) → Ok (head caption details)
head_ok caption details =
    let end = codes "</head>\n<body>\n<main>\n" in
    four begin (title caption) style (more_style details ++ end) refl (title_ok caption) style_ok (join (more_style details) end (more_ok details) refl)

tree_ok : (svg : List ℕ) → Ok svg → Ok (tree svg)
tree_ok [] h = refl
tree_ok (b ∷ bytes) h = three (codes "<h2>Tree</h2>\n<div class=\"tree\">\n") (b ∷ bytes) (codes "</div>\n") refl h refl

-- ## Why, and the run

own_byte_ok : (p : Bool) (b : ℕ) → (b == 10) ≡ p → is_tame (cond p b (shown b)) ≡ true
own_byte_ok true b is = subst (λ n. is_tame n ≡ true) (sym (eqb-true b 10 is)) refl
own_byte_ok false b is = shown_ok b

lines_ok : (lines : List ℕ) → Ok (clean_lines lines)
lines_ok lines =
    each is_tame itself (λ b. escape (line_byte b))
    (λ b. byte_tame (line_byte b == 60) (line_byte b == 62) (line_byte b == 38) (line_byte b == 34) (line_byte b) (own_byte_ok (b == 10) b refl)) lines

begin_why_ok : (p : Bool) → Ok (cond p (codes "<pre class=\"why\">") (codes "<pre class=\"why no\">"))
begin_why_ok true = refl
begin_why_ok false = refl

why_ok : (verdict lines : List ℕ) → Ok (why verdict lines)
why_ok verdict [] = refl
why_ok verdict (b ∷ lines) =
    three (why_spec.begin verdict) (clean_lines (b ∷ lines)) (codes "</pre>\n") (begin_why_ok (bytes_eq verdict (codes "valid"))) (lines_ok (b ∷ lines)) refl

joined_ok : (words : List Word) → Ok (joined words)
joined_ok [] = refl
joined_ok (word ∷ words) = join (clean word) (flat_map spaced words) (clean_tame word) (each is_tame itself spaced spaced_ok words)

fact_ok : (f : Fact) → Ok (fact f)
fact_ok f = three (codes "<span>(") (joined (words_of f)) (codes ")</span> ") refl (joined_ok (words_of f)) refl

change_ok : (added deleted : List Fact) → Ok (change added deleted)
change_ok added deleted =
    three (codes "<td class=\"add\">") (flat_map fact added) (codes "</td><td class=\"del\">" ++ (flat_map fact deleted ++ codes "</td></tr>\n")) refl (each is_tame itself fact fact_ok added)
    (three (codes "</td><td class=\"del\">") (flat_map fact deleted) (codes "</td></tr>\n") refl (each is_tame itself fact fact_ok deleted) refl)

start_ok : (facts : List Fact) → Ok (start_row facts)
start_ok facts = join (codes "<tr><td></td><td>at the start</td>") (change facts []) refl (change_ok facts [])

action_ok : (position : ℕ) (line : ActionLine) (c : Change) → Ok (action_row position line c)
action_ok position line c =
    four (between (codes "<tr><td>") position (codes "</td><td>")) (name_text line.name line.arguments) (codes "</td>") (change c.added.items c.deleted.items)
    (number_ok (codes "<tr><td>") position (codes "</td><td>") refl refl) (name_ok line.name line.arguments) refl (change_ok c.added.items c.deleted.items)

actions_ok : (position : ℕ) (lines : List ActionLine) (changes : List Change) → Ok (action_rows position lines changes)
actions_ok position [] changes = refl
actions_ok position (line ∷ lines) [] = refl
actions_ok position (line ∷ lines) (c ∷ changes) =
    join (action_row position line c) (action_rows (suc position) lines changes) (action_ok position line c) (actions_ok (suc position) lines changes)

table_ok : (file : PlanFile) (r : Run) → Ok (table file r)
table_ok file r =
    let rows = action_rows 0 file.actions r.changes.items in
    let end = codes "</table>\n</div>\n" in
    four (codes "<h2>Run</h2>\n<div class=\"run\">\n<table>\n<tr><th></th><th>action</th>") (codes "<th>becomes true</th><th>becomes false</th></tr>\n") (start_row r.start.items) (rows ++ end) refl refl
    (start_ok r.start.items) (join rows end (actions_ok 0 file.actions r.changes.items) refl)

run_ok : (file : PlanFile) (r : Option Run) → Ok (run file r)
run_ok file None = refl
run_ok file (Some r) = table_ok file r

above_ok : (caption : Caption) (remarks : Remarks) (file : PlanFile) → Ok (above caption remarks file)
above_ok caption remarks file = join (header caption file) (why caption.verdict.now remarks.why.now) (header_ok caption file) (why_ok caption.verdict.now remarks.why.now)

below_ok : (remarks : Remarks) (file : PlanFile) (svg : List ℕ) → Ok svg → Ok (below remarks file svg)
below_ok remarks file svg h =
    let shown = option_map (λ r. r.now) remarks.run in
    three (tree svg) (run file shown) (codes "</main>\n</body>\n</html>\n") (tree_ok svg h) (run_ok file shown) refl

pub html_ok : (caption : Caption) (remarks : Remarks) (picture : Picture) (bars : ℕ → List Bar) (svg : List ℕ) → Ok svg → Ok (html_bytes caption remarks picture bars svg)
html_ok caption remarks picture bars svg h =
    let file = picture.file.now in
    let details = details_of remarks in
    four (head caption details) (above caption remarks file) (chart caption details picture bars) (below remarks file svg) (head_ok caption details) (above_ok caption remarks file)
    (chart_ok caption details picture bars) (below_ok remarks file svg h)

pub page_ok : ((caption : Caption) (details : Option (List Detail)) (picture : Picture) (layout : Layout) → Ok (svg_bytes caption details picture layout))
    → (caption : Caption) (remarks : Remarks) (picture : Picture) (bytes : List ℕ) → IsHtmlOf caption remarks picture bytes → Ok bytes
page_ok svg_ok caption remarks picture bytes is = subst Ok (sym is.bytes_are) (html_ok caption remarks picture is.bars is.svg (by (cases_lt max_drawn (length picture.rows.items))))
  where
    by : (max_drawn < length picture.rows.items) ⊎ (length picture.rows.items ≤ max_drawn) → Ok is.svg
    by (inl many) = subst Ok (sym (is.is_tree.left_out many)) refl
    by (inr few) = let drawn = is.is_tree.drawn few in subst Ok (sym drawn.bytes_are) (svg_ok caption (details_of remarks) picture drawn.layout)
