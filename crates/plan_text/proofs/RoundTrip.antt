-- What is written reads back.
use Rattle.std.proofs.Common.{◌≡◌, ℕ, ◌+◌, ◌≤◌, Bool, true, false, List, [], ◌∷◌, ◌++◌, length, map, append_assoc, Some, Option, refl, sym, ap, ◌∙◌, subst}
use Rattle.std.specs.List.{AllByRecursion, flat_map}
use Rattle.std.specs.Option.{option_map, option_and_then}
use Rattle.std.proofs.lemmas.List.{append-nil}
use Rattle.std.proofs.lemmas.Grind.{flat_map-append}
use Rattle.plan_text.specs.Piece.{Piece, piece, pieces, is_line_feed, max_bytes, lines}
use Rattle.htn_model.specs.PlanFile.{Word, ActionLine, DecompositionLine, PlanFile}
use Rattle.plan_text.specs.PlanFile.{IsId, IsActionLine, IsDecompositionLine, IsPlanFile}
use Rattle.plan_text.specs.Line.{LineKind, IsLine, AreLines, Contents, contents_of, actions_of, root_lists_of, decompositions_of}
use Rattle.plan_text.specs.FileText.{is_marker, start_marker, end_marker, after_start, before_end, body, FileText}
use Rattle.plan_text.specs.Written.{line_of, action_words, root_words, decomposition_words, written_lines, written}
use Rattle.plan_text.proofs.Names.{all_both, record_of}
use Rattle.plan_text.proofs.WrittenCuts.{IsInLine, joined, placed, placed-append, after, lines-written}
use Rattle.plan_text.proofs.WrittenLines.{IsWritten, action_again, roots_again, decomposition_again, action_in_line, root_in_line, decomposition_in_line}

-- ## Lines that read back

-- lines that give these contents, none of them the end marker
record AreWritten (ls : List Piece) (c : Contents) : Type 0 where
  kinds : List LineKind
  each : AreLines ls kinds
  no_end : AllByRecursion (λ l. is_marker end_marker l ≡ false) ls
  contents : contents_of kinds ≡ c

-- two contents, one after the other
abbrev both : Contents → Contents → Contents
both c d = record_of (c.actions ++ d.actions) (c.root_lists ++ d.root_lists) (c.decompositions ++ d.decompositions)

-- the contents of joined lines are those of both
contents-both : (ks ls : List LineKind) → contents_of (ks ++ ls) ≡ both (contents_of ks) (contents_of ls)
contents-both ks ls = rw (flat_map-append actions_of ks ls, flat_map-append root_lists_of ks ls, flat_map-append decompositions_of ks ls)

-- joined lines have the kinds of both
lines_both : (xs ys : List Piece) (ks ls : List LineKind) → AreLines xs ks → AreLines ys ls → AreLines (xs ++ ys) (ks ++ ls)
lines_both [] ys [] ls a b = b
lines_both [] ys (k ∷ ks) ls a b = absurd a
lines_both (x ∷ xs) ys [] ls a b = absurd a
lines_both (x ∷ xs) ys (k ∷ ks) ls a b = (a.0, lines_both xs ys ks ls a.1 b)

-- written lines after written lines give both contents
join : (xs ys : List Piece) (c d : Contents) → AreWritten xs c → AreWritten ys d → AreWritten (xs ++ ys) (both c d)
join xs ys c d a b = record {
  kinds = a.kinds ++ b.kinds;
  each = lines_both xs ys a.kinds b.kinds a.each b.each;
  no_end = all_both (λ l. is_marker end_marker l ≡ false) xs ys a.no_end b.no_end;
  contents = contents-both a.kinds b.kinds ∙ ap (λ e. both e (contents_of b.kinds)) a.contents ∙ ap (both c) b.contents;
}

-- a written line in front of others gives what it has first
line_first : (l : Piece) (ls : List Piece) (as_ : List ActionLine) (lists : List (List ℕ)) (ds : List DecompositionLine) (c : Contents) → IsWritten l as_ lists ds → AreWritten ls c → AreWritten (l ∷ ls) (both (record_of as_ lists ds) c)
line_first l ls as_ lists ds c w more =
    let here : record_of (actions_of w.kind) (root_lists_of w.kind) (decompositions_of w.kind) ≡ record_of as_ lists ds =
    ap (λ xs. record_of xs (root_lists_of w.kind) (decompositions_of w.kind)) w.actions_are
    ∙ ap (λ xs. record_of as_ xs (decompositions_of w.kind)) w.lists_are
    ∙ ap (λ xs. record_of as_ lists xs) w.decompositions_are in
    record {
      kinds = w.kind ∷ more.kinds;
      each = (w.is, more.each);
      no_end = (w.no_end, more.no_end);
      contents = ap (λ e. both e (contents_of more.kinds)) here ∙ ap (both (record_of as_ lists ds)) more.contents;
    }

-- the place after a line
abbrev next : ℕ → List Word → ℕ
next place ws = place + (length (joined ws) + 1)

-- no lines give nothing
no_lines : AreWritten [] (record_of [] [] [])
no_lines = record { kinds = []; each = tt; no_end = tt; contents = refl }

-- written action lines give themselves
actions_written : (place : ℕ) (lines : List ActionLine) → AllByRecursion IsActionLine lines → AreWritten (placed place (map action_words lines)) (record_of lines [] [])
actions_written place [] valid = no_lines
actions_written place (a ∷ lines) valid =
    line_first (piece place (joined (action_words a))) (placed (next place (action_words a)) (map action_words lines)) (a ∷ []) [] [] (record_of lines [] []) (action_again place a valid.0) (actions_written (next place (action_words a)) lines valid.1)

-- written decomposition lines give themselves
decompositions_written : (place : ℕ) (lines : List DecompositionLine) → AllByRecursion IsDecompositionLine lines → AreWritten (placed place (map decomposition_words lines)) (record_of [] [] lines)
decompositions_written place [] valid = no_lines
decompositions_written place (d ∷ lines) valid =
    line_first (piece place (joined (decomposition_words d))) (placed (next place (decomposition_words d)) (map decomposition_words lines)) [] [] (d ∷ []) (record_of [] [] lines) (decomposition_again place d valid.0) (decompositions_written (next place (decomposition_words d)) lines valid.1)

-- ## The whole text

-- the words of a file's action lines
abbrev action_lines : PlanFile → List (List Word)
action_lines file = map action_words file.actions

-- the words of a file's root line and decomposition lines
abbrev other_lines : PlanFile → List (List Word)
other_lines file = root_words file.roots ∷ map decomposition_words file.decompositions

-- the words of all lines between the markers
abbrev middle : PlanFile → List (List Word)
middle file = action_lines file ++ other_lines file

-- the words of the last line
abbrev end_line : List Word
end_line = end_marker ∷ []

-- action lines have no line feed
actions_in_line : (lines : List ActionLine) → AllByRecursion IsActionLine lines → AllByRecursion IsInLine (map action_words lines)
actions_in_line [] valid = tt
actions_in_line (a ∷ lines) valid = (action_in_line a valid.0, actions_in_line lines valid.1)

-- decomposition lines have no line feed
decompositions_in_line : (lines : List DecompositionLine) → AllByRecursion IsDecompositionLine lines → AllByRecursion IsInLine (map decomposition_words lines)
decompositions_in_line [] valid = tt
decompositions_in_line (d ∷ lines) valid = (decomposition_in_line d valid.0, decompositions_in_line lines valid.1)

-- no line between the markers has a line feed
middle_in_line : (file : PlanFile) → IsPlanFile file → AllByRecursion IsInLine (middle file)
middle_in_line file valid = all_both IsInLine (action_lines file) (other_lines file) (actions_in_line file.actions valid.actions) (root_in_line file.roots valid.roots, decompositions_in_line file.decompositions valid.decompositions)

-- no line of a written file has a line feed
all_in_line : (file : PlanFile) → IsPlanFile file → AllByRecursion IsInLine (written_lines file)
all_in_line file valid =
    (record { clear = refl }, all_both IsInLine (middle file) (end_line ∷ []) (middle_in_line file valid) (record { clear = refl }, tt))

-- the lines between the markers give the file
middle_written : (place : ℕ) (file : PlanFile) → IsPlanFile file → AreWritten (placed place (middle file)) (record_of file.actions (file.roots ∷ []) file.decompositions)
middle_written place file valid =
    let p = after place (action_lines file) in
    let others = line_first (piece p (joined (root_words file.roots))) (placed (next p (root_words file.roots)) (map decomposition_words file.decompositions)) [] (file.roots ∷ []) [] (record_of [] [] file.decompositions) (roots_again p file.roots valid.roots) (decompositions_written (next p (root_words file.roots)) file.decompositions valid.decompositions) in
    let all = join (placed place (action_lines file)) (placed p (other_lines file)) (record_of file.actions [] []) (record_of [] (file.roots ∷ []) file.decompositions) (actions_written place file.actions valid.actions) others in
    let there = subst (λ ls. AreWritten ls (record_of (file.actions ++ []) (file.roots ∷ []) file.decompositions)) (sym (placed-append place (action_lines file) (other_lines file))) all in
    subst (λ xs. AreWritten (placed place (middle file)) (record_of xs (file.roots ∷ []) file.decompositions)) (append-nil file.actions) there

-- the lines before the end marker are found
before_end-found : (ls : List Piece) (e : Piece) (rest : List Piece) → AllByRecursion (λ l. is_marker end_marker l ≡ false) ls → is_marker end_marker e ≡ true → before_end (ls ++ e ∷ rest) ≡ Some ls
before_end-found [] e rest others is = rw is
before_end-found (l ∷ ls) e rest others is = rw (others.0, before_end-found ls e rest others.1 is)

-- where the line after the start marker begins
abbrev second_place : ℕ
second_place = 4

-- a written text has the start marker, the file's lines, and the end marker
written-lines : (file : PlanFile) → IsPlanFile file → (end_place last : ℕ) × (lines (written file) ≡ piece 0 start_marker ∷ (placed second_place (middle file) ++ piece end_place end_marker ∷ piece last [] ∷ []))
written-lines file valid =
    let last = after 0 (written_lines file) in
    let end_place = after second_place (middle file) in
    let cut = lines-written 0 (written_lines file) [] (all_in_line file valid) in
    let nothing : written file ≡ flat_map line_of (written_lines file) ++ [] = sym (append-nil (written file)) in
    let parts = placed-append second_place (middle file) (end_line ∷ []) in
    (end_place, last, ap lines nothing ∙ cut ∙ ap (λ ls. piece 0 start_marker ∷ (ls ++ piece last [] ∷ [])) parts ∙ ap (λ ls. piece 0 start_marker ∷ ls) (append_assoc (placed second_place (middle file)) (piece end_place end_marker ∷ []) (piece last [] ∷ [])))

-- a written file that isn't too long is read as itself
pub reads_back : (file : PlanFile) → IsPlanFile file → length (written file) ≤ max_bytes → FileText file (written file)
reads_back file valid short =
    let cut = written-lines file valid in
    let all = middle_written second_place file valid in
    let found = before_end-found (placed second_place (middle file)) (piece cut.0 end_marker) (piece cut.1 [] ∷ []) all.no_end refl in
    record {
      short = short;
      between = placed second_place (middle file);
      body_is = ap (λ ls. option_and_then before_end (after_start ls)) cut.2 ∙ found;
      holds = record { kinds = all.kinds; each = all.each; contents = all.contents };
    }
