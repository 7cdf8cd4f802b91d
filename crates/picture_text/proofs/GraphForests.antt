-- Pictures with the same bytes in the language of graphviz are of one forest.
use Rattle.std.proofs.Common.{◌≡◌, ℕ, zero, suc, ◌+◌, ◌-◌, ◌<◌, ◌≤◌, ◌^◌, ◌||◌, ◌==◌, Bool, true, false, not, nat_eq, nat_lt, cond, codes, List, [], ◌∷◌, ◌++◌, length, drop, get_or, map, Option, Some, None, slice_get, option_map, ◌⊎◌, inl, inr, refl, sym, ap, ap₂, ◌∙◌, subst, arith}
use Rattle.std.specs.List.{flat_map, list_all, AllByRecursion}
use Rattle.std.specs.Fmt.{decimal}
use Rattle.std.proofs.lemmas.Bool.{cases_lt, lt-ltb, le-ltb}
use Rattle.std.proofs.lemmas.List.{append_assoc, append_cancel_left, append_cancel_right}
use Rattle.std.proofs.lemmas.List.Folds.{list_all-append}
use Rattle.htn_model.specs.PlanFile.{Word, ActionLine, DecompositionLine, PlanFile, IsIn, IsWithoutRepeats, decomposition_ids, defined_ids}
use Rattle.diagnostics.specs.Shown.{shown}
use Rattle.plan_text.specs.PlanFile.{IsActionLine, IsDecompositionLine, IsPlanFile}
use Rattle.plan_text.specs.Forest.{lists_of}
use Rattle.plan_text.specs.Reached.{children_at}
use Rattle.plan_text.proofs.Listed.{one_number, action_id_at, decomposition_id_at, past_actions}
use Rattle.plan_picture.specs.declared.row.Row.{Row as DeclaredRow}
use Rattle.plan_picture.specs.Rows.{root_rows, ArePreorder}
use Rattle.plan_picture.specs.Firsts.{lines_of}
use Rattle.plan_picture.specs.Seen.{seen_all}
use Rattle.plan_picture.specs.Picture.{IsDrawing}
use Rattle.plan_picture.proofs.Ahead.{no_rows}
use Rattle.plan_picture.proofs.Onces.{have_all_once}
use Rattle.picture_text.specs.declared.caption.Mark.{Mark}
use Rattle.picture_text.specs.Lines.{Line, action, task, id_of, line_at, id_or_zero, id_at}
use Rattle.picture_text.specs.Words.{spaced, task_words, is_marked}
use Rattle.picture_text.specs.Tame.{AreTame}
use Rattle.picture_text.specs.Dot.{escape, quoted, node_name, words_of, position, method, label, colours, node, edge, edges, layout, node_style, edge_style, head}
use Rattle.picture_text.specs.OneForest.{child_ids, GraphShowsForests}
use Rattle.picture_text.proofs.Readings.{left, right, both, is_inner, one_run, decimal_inner, decimal_same, past_line, no_end, true_false}
use Rattle.picture_text.proofs.TextForests.{IsNamed, AreRead, drawing_read}

-- ## Bytes within a line

-- no line ends within these bytes
abbrev Within : List ℕ → Type 0
Within bytes = (rest : List ℕ) → past_line (bytes ++ rest) ≡ past_line rest

two : (xs ys : List ℕ) → Within xs → Within ys → Within (xs ++ ys)
two xs ys p q rest = ap past_line (append_assoc xs ys rest) ∙ p (ys ++ rest) ∙ q rest

-- a byte that ends no line
abbrev goes_on : ℕ → Bool
goes_on b = not (b == 10)

one : (b : ℕ) (rest : List ℕ) → goes_on b ≡ true → past_line (b ∷ rest) ≡ past_line rest
one b rest h = by (b == 10) h
  where
    by : (p : Bool) → not p ≡ true → cond p rest (past_line rest) ≡ past_line rest
    by true n = absurd cc
    by false n = refl

within : (bytes : List ℕ) → AreTame goes_on bytes → Within bytes
within [] h rest = refl
within (b ∷ bytes) h rest = one b (bytes ++ rest) (left (goes_on b) (list_all goes_on bytes) h) ∙ within bytes (right (goes_on b) (list_all goes_on bytes) h) rest

one_escaped : (b : ℕ) → goes_on b ≡ true → Within (escape b)
one_escaped b h rest = by (b == 34 || b == 92)
  where
    by : (p : Bool) → past_line (cond p (92 ∷ b ∷ []) (b ∷ []) ++ rest) ≡ past_line rest
    by true = one b rest h
    by false = one b rest h

within_escaped : (bytes : List ℕ) → AreTame goes_on bytes → Within (flat_map escape bytes)
within_escaped [] h rest = refl
within_escaped (b ∷ bytes) h rest =
    two (escape b) (flat_map escape bytes) (one_escaped b (left (goes_on b) (list_all goes_on bytes) h)) (within_escaped bytes (right (goes_on b) (list_all goes_on bytes) h)) rest

shown_on : (words : List ℕ) → AreTame goes_on (map shown words)
shown_on [] = refl
shown_on (b ∷ words) = both (goes_on (shown b)) (list_all goes_on (map shown words)) (ap not (no_end b)) (shown_on words)

spaced_on : (words : List Word) → AreTame goes_on (flat_map spaced words)
spaced_on [] = refl
spaced_on (word ∷ words) =
    list_all-append goes_on (map shown word) (flat_map spaced words) ∙ both (list_all goes_on (map shown word)) (list_all goes_on (flat_map spaced words)) (shown_on word) (spaced_on words)

task_on : (name : Word) (arguments : List Word) → AreTame goes_on (task_words name arguments)
task_on name arguments =
    list_all-append goes_on (map shown name) (flat_map spaced arguments) ∙ both (list_all goes_on (map shown name)) (list_all goes_on (flat_map spaced arguments)) (shown_on name) (spaced_on arguments)

words_on : (line : Line) → AreTame goes_on (words_of line)
words_on (action line) = task_on line.name line.arguments
words_on (task line) = task_on line.task line.arguments

inner_on : (b : ℕ) → is_inner b ≡ true → goes_on b ≡ true
inner_on b h = by (b == 32) (b == 10) h
  where
    by : (p q : Bool) → not (p || q) ≡ true → not q ≡ true
    by true q n = absurd cc
    by false q n = n

all_on : (bytes : List ℕ) → AreTame is_inner bytes → AreTame goes_on bytes
all_on [] h = refl
all_on (b ∷ bytes) h =
    both (goes_on b) (list_all goes_on bytes) (inner_on b (left (is_inner b) (list_all is_inner bytes) h)) (all_on bytes (right (is_inner b) (list_all is_inner bytes) h))

position_on : (number : ℕ) (line : Line) → Within (position number line)
position_on number (action line) = two (decimal number) (codes "  ") (within (decimal number) (all_on (decimal number) (decimal_inner number))) (λ rest. refl)
position_on number (task line) = λ rest. refl

method_on : (line : Line) → Within (method line)
method_on (action line) = λ rest. refl
method_on (task line) = two (codes "\\n") (flat_map escape (map shown line.method)) (λ rest. refl) (within_escaped (map shown line.method) (shown_on line.method))

label_on : (number : ℕ) (line : Line) → Within (label number line)
label_on number line rest =
    two (position number line) (flat_map escape (words_of line) ++ (method line ++ codes "\"")) (position_on number line)
    (two (flat_map escape (words_of line)) (method line ++ codes "\"") (within_escaped (words_of line) (words_on line)) (two (method line) (codes "\"") (method_on line) (λ r. refl))) rest

colours_on : (marked : Bool) (line : Line) → Within (colours marked line)
colours_on true (action line) rest = refl
colours_on false (action line) rest = refl
colours_on true (task line) rest = refl
colours_on false (task line) rest = refl

-- ## The head

quoted_on : (words : List ℕ) → Within (quoted (map shown words))
quoted_on words = two (flat_map escape (map shown words)) (codes "\"") (within_escaped (map shown words) (shown_on words)) (λ rest. refl)

-- behind five lines
abbrev past_head : List ℕ → List ℕ
past_head bytes = past_line (past_line (past_line (past_line (past_line bytes))))

head_past : (problem rest : List ℕ) → past_head (head (map shown problem) ++ rest) ≡ rest
head_past problem rest =
    let words = quoted (map shown problem) in
    let last : List ℕ = codes "  root [label=" ++ (words ++ codes ", fillcolor=\"#ffffff\"];\n") in
    let first : List ℕ = codes " {\n" ++ (layout ++ (node_style ++ (edge_style ++ last))) in
    ap (λ bytes. past_line (past_line (past_line (past_line bytes)))) (ap past_line (append_assoc words first rest) ∙ quoted_on problem (first ++ rest))
    ∙ ap past_line (append_assoc words (codes ", fillcolor=\"#ffffff\"];\n") rest) ∙ quoted_on problem (codes ", fillcolor=\"#ffffff\"];\n" ++ rest)

-- ## Nodes

-- what stands behind a node's name, and what follows it
abbrev labelled : Option Mark → ℕ → Line → List ℕ → List ℕ
labelled mark number line rest = codes " [label=" ++ ((label number line ++ (colours (is_marked mark (id_of line)) line ++ codes "];\n")) ++ rest)

labelled_past : (mark : Option Mark) (number : ℕ) (line : Line) (rest : List ℕ) → past_line (labelled mark number line rest) ≡ rest
labelled_past mark number line rest =
    let dress = colours (is_marked mark (id_of line)) line in
    ap past_line (append_assoc (label number line) (dress ++ codes "];\n") rest) ∙ label_on number line ((dress ++ codes "];\n") ++ rest)
    ∙ ap past_line (append_assoc dress (codes "];\n") rest) ∙ colours_on (is_marked mark (id_of line)) line (codes "];\n" ++ rest)

-- the node of a row, and what follows it
node_is : (mark : Option Mark) (number : ℕ) (o : Option Line) (line : Line) (rest : List ℕ) → o ≡ Some line → node mark number o ++ rest ≡ 32 ∷ 32 ∷ 110 ∷ (decimal (id_of line) ++ labelled mark number line rest)
node_is mark number o line rest there =
    ap (λ p. node mark number p ++ rest) there
    ∙ ap (λ bytes. 32 ∷ 32 ∷ 110 ∷ bytes)
    (append_assoc (decimal (id_of line)) (codes " [label=" ++ (label number line ++ (colours (is_marked mark (id_of line)) line ++ codes "];\n"))) rest)

named_low : (line : Line) → IsNamed line → id_of line < 10 ^ 64
named_low (action line) is = let low = is.id in omega arith
named_low (task line) is = let low = is.id in omega arith

module _ (mark other_mark : Option Mark) (file other : PlanFile) where
  -- the nodes of some rows
  abbrev own_nodes : List DeclaredRow → List ℕ
  own_nodes rows = flat_map (λ (r : DeclaredRow). node mark r.line (line_at file r.line)) rows

  abbrev other_nodes : List DeclaredRow → List ℕ
  other_nodes rows = flat_map (λ (r : DeclaredRow). node other_mark r.line (line_at other r.line)) rows

  same_nodes : (rows others : List DeclaredRow) → AreRead file rows → AreRead other others → (end ends : List ℕ) → nat_eq (get_or end 2 0) 110 ≡ false → nat_eq (get_or ends 2 0) 110 ≡ false
      → own_nodes rows ++ end ≡ other_nodes others ++ ends → (map (λ (r : DeclaredRow). id_at file r.line) rows ≡ map (λ (r : DeclaredRow). id_at other r.line) others) × (end ≡ ends)
  same_nodes [] [] read read_too end ends p q e = (refl, e)
  same_nodes [] (s ∷ others) read read_too end ends p q e =
      let there = read_too.0 in
      let whole = append_assoc (node other_mark s.line (line_at other s.line)) (other_nodes others) ends ∙ node_is other_mark s.line (line_at other s.line) there.line (other_nodes others ++ ends) there.there in
      absurd (true_false true (nat_eq (get_or end 2 0) 110) refl p (sym (ap (λ bytes. nat_eq (get_or bytes 2 0) 110) (e ∙ whole))))
  same_nodes (r ∷ rows) [] read read_too end ends p q e =
      let here = read.0 in
      let whole = append_assoc (node mark r.line (line_at file r.line)) (own_nodes rows) end ∙ node_is mark r.line (line_at file r.line) here.line (own_nodes rows ++ end) here.there in
      absurd (true_false true (nat_eq (get_or ends 2 0) 110) refl q (ap (λ bytes. nat_eq (get_or bytes 2 0) 110) (sym whole ∙ e)))
  same_nodes (r ∷ rows) (s ∷ others) read read_too end ends p q e =
      let here = read.0 in
      let there = read_too.0 in
      let one_whole = append_assoc (node mark r.line (line_at file r.line)) (own_nodes rows) end ∙ node_is mark r.line (line_at file r.line) here.line (own_nodes rows ++ end) here.there in
      let other_whole = append_assoc (node other_mark s.line (line_at other s.line)) (other_nodes others) ends ∙ node_is other_mark s.line (line_at other s.line) there.line (other_nodes others ++ ends) there.there in
      let own_label = labelled mark r.line here.line (own_nodes rows ++ end) in
      let other_label = labelled other_mark s.line there.line (other_nodes others ++ ends) in
      let run =
      one_run (decimal (id_of here.line)) (decimal (id_of there.line)) own_label other_label (decimal_inner (id_of here.line)) (decimal_inner (id_of there.line)) refl refl
      (ap (drop 3) (sym one_whole ∙ e ∙ other_whole)) in
      let ids = decimal_same (id_of here.line) (id_of there.line) (named_low here.line here.named) (named_low there.line there.named) run.0 in
      let after =
      sym (labelled_past mark r.line here.line (own_nodes rows ++ end)) ∙ ap past_line run.1 ∙ labelled_past other_mark s.line there.line (other_nodes others ++ ends) in
      let more = same_nodes rows others read.1 read_too.1 end ends p q after in
      (ap₂ (λ x xs. x ∷ xs) (ap id_or_zero here.there ∙ ids ∙ sym (ap id_or_zero there.there)) more.0, more.1)

-- ## Edges

-- the end of an edge, and what follows it
abbrev ended : ℕ → List ℕ → List ℕ
ended id rest = (decimal id ++ 59 ∷ []) ++ 10 ∷ rest

end_is : (id : ℕ) (rest : List ℕ) → (decimal id ++ 59 ∷ 10 ∷ []) ++ rest ≡ ended id rest
end_is id rest = append_assoc (decimal id) (59 ∷ 10 ∷ []) rest ∙ sym (append_assoc (decimal id) (59 ∷ []) (10 ∷ rest))

end_inner : (id : ℕ) → AreTame is_inner (decimal id ++ 59 ∷ [])
end_inner id = list_all-append is_inner (decimal id) (59 ∷ []) ∙ both (list_all is_inner (decimal id)) true (decimal_inner id) refl

same_end : (a b : ℕ) (rest others : List ℕ) → a < 10 ^ 64 → b < 10 ^ 64 → ended a rest ≡ ended b others → (a ≡ b) × (rest ≡ others)
same_end a b rest others low low_too e =
    let run = one_run (decimal a ++ 59 ∷ []) (decimal b ++ 59 ∷ []) (10 ∷ rest) (10 ∷ others) (end_inner a) (end_inner b) refl refl e in
    (decimal_same a b low low_too (append_cancel_right (decimal a) (decimal b) (59 ∷ []) run.0), ap (drop 1) run.1)

-- an edge from the problem
root_edge_is : (id : ℕ) (rest : List ℕ) → edge (codes "root") id ++ rest ≡ codes "  root -> n" ++ ended id rest
root_edge_is id rest = ap (λ bytes. codes "  root -> n" ++ bytes) (end_is id rest)

-- an edge from a line
edge_is : (from id : ℕ) (rest : List ℕ) → edge (node_name from) id ++ rest ≡ 32 ∷ 32 ∷ 110 ∷ (decimal from ++ (codes " -> n" ++ ended id rest))
edge_is from id rest =
    ap (λ bytes. 32 ∷ 32 ∷ 110 ∷ bytes) (append_assoc (decimal from) (codes " -> n" ++ (decimal id ++ 59 ∷ 10 ∷ [])) rest ∙ ap (λ bytes. decimal from ++ (codes " -> n" ++ bytes)) (end_is id rest))

-- no edge from this line stands first
abbrev NotFrom : ℕ → List ℕ → Type 0
NotFrom from bytes = (rest : List ℕ) → bytes ≡ 32 ∷ 32 ∷ 110 ∷ (decimal from ++ 32 ∷ rest) → ⊥

module _ (file other : PlanFile) (low : (line : ℕ) → id_at file line < 10 ^ 64) (low_too : (line : ℕ) → id_at other line < 10 ^ 64) where
  -- the edges from the problem
  abbrev own_roots : List ℕ → List ℕ
  own_roots roots = flat_map (λ root. edge (codes "root") (id_at file root)) roots

  abbrev other_roots : List ℕ → List ℕ
  other_roots roots = flat_map (λ root. edge (codes "root") (id_at other root)) roots

  same_roots : (roots others : List ℕ) (end ends : List ℕ) → nat_eq (get_or end 2 0) 114 ≡ false → nat_eq (get_or ends 2 0) 114 ≡ false → own_roots roots ++ end ≡ other_roots others ++ ends
      → (map (id_at file) roots ≡ map (id_at other) others) × (end ≡ ends)
  same_roots [] [] end ends p q e = (refl, e)
  same_roots [] (s ∷ others) end ends p q e = absurd (true_false true (nat_eq (get_or end 2 0) 114) refl p (sym (ap (λ bytes. nat_eq (get_or bytes 2 0) 114) e)))
  same_roots (r ∷ roots) [] end ends p q e = absurd (true_false true (nat_eq (get_or ends 2 0) 114) refl q (ap (λ bytes. nat_eq (get_or bytes 2 0) 114) e))
  same_roots (r ∷ roots) (s ∷ others) end ends p q e =
      let here = append_assoc (edge (codes "root") (id_at file r)) (own_roots roots) end ∙ root_edge_is (id_at file r) (own_roots roots ++ end) in
      let there = append_assoc (edge (codes "root") (id_at other s)) (other_roots others) ends ∙ root_edge_is (id_at other s) (other_roots others ++ ends) in
      let first = same_end (id_at file r) (id_at other s) (own_roots roots ++ end) (other_roots others ++ ends) (low r) (low_too s) (ap (drop 11) (sym here ∙ e ∙ there)) in
      let more = same_roots roots others end ends p q first.1 in
      (ap₂ (λ x xs. x ∷ xs) first.0 more.0, more.1)

  -- the edges from a line to some children
  abbrev own_edges : ℕ → List ℕ → List ℕ
  own_edges from children = flat_map (λ child. edge (node_name from) (id_at file child)) children

  abbrev other_edges : ℕ → List ℕ → List ℕ
  other_edges from children = flat_map (λ child. edge (node_name from) (id_at other child)) children

  same_edges : (from : ℕ) (children others : List ℕ) (end ends : List ℕ) → NotFrom from end → NotFrom from ends → own_edges from children ++ end ≡ other_edges from others ++ ends
      → (map (id_at file) children ≡ map (id_at other) others) × (end ≡ ends)
  same_edges from [] [] end ends p q e = (refl, e)
  same_edges from [] (d ∷ others) end ends p q e =
      absurd (p (codes "-> n" ++ ended (id_at other d) (other_edges from others ++ ends)) (e ∙ append_assoc (edge (node_name from) (id_at other d)) (other_edges from others) ends ∙ edge_is from (id_at other d) (other_edges from others ++ ends)))
  same_edges from (c ∷ children) [] end ends p q e =
      absurd (q (codes "-> n" ++ ended (id_at file c) (own_edges from children ++ end)) (sym e ∙ append_assoc (edge (node_name from) (id_at file c)) (own_edges from children) end ∙ edge_is from (id_at file c) (own_edges from children ++ end)))
  same_edges from (c ∷ children) (d ∷ others) end ends p q e =
      let here = append_assoc (edge (node_name from) (id_at file c)) (own_edges from children) end ∙ edge_is from (id_at file c) (own_edges from children ++ end) in
      let there = append_assoc (edge (node_name from) (id_at other d)) (other_edges from others) ends ∙ edge_is from (id_at other d) (other_edges from others ++ ends) in
      let behind =
      append_cancel_left (decimal from) (codes " -> n" ++ ended (id_at file c) (own_edges from children ++ end)) (codes " -> n" ++ ended (id_at other d) (other_edges from others ++ ends))
      (ap (drop 3) (sym here ∙ e ∙ there)) in
      let first = same_end (id_at file c) (id_at other d) (own_edges from children ++ end) (other_edges from others ++ ends) (low c) (low_too d) (ap (drop 5) behind) in
      let more = same_edges from children others end ends p q first.1 in
      (ap₂ (λ x xs. x ∷ xs) first.0 more.0, more.1)

-- the edges from some rows
abbrev row_edges : PlanFile → List (List ℕ) → List DeclaredRow → List ℕ
row_edges file kids rows = flat_map (λ (r : DeclaredRow). edges file kids r.line) rows

-- the ids of some rows
abbrev row_ids : PlanFile → List DeclaredRow → List ℕ
row_ids file rows = map (λ (r : DeclaredRow). id_at file r.line) rows

-- no edge from a line stands among those from others
not_from : (file : PlanFile) (kids : List (List ℕ)) → ((line : ℕ) → id_at file line < 10 ^ 64) → (from : ℕ) → from < 10 ^ 64 → (rows : List DeclaredRow) → (IsIn from (row_ids file rows) → ⊥)
    → NotFrom from (row_edges file kids rows ++ codes "}\n")
not_from file kids low from low_too [] other rest e = absurd (true_false true false refl refl (ap (λ bytes. nat_eq (get_or bytes 0 0) 125) e))
not_from file kids low from low_too (r ∷ rows) other rest e =
    by (children_at (length file.actions) kids r.line) (not_from file kids low from low_too rows (λ i. other (inr i)) rest)
    (sym (append_assoc (edges file kids r.line) (row_edges file kids rows) (codes "}\n")) ∙ e)
  where
    by : (children : List ℕ) → (row_edges file kids rows ++ codes "}\n" ≡ 32 ∷ 32 ∷ 110 ∷ (decimal from ++ 32 ∷ rest) → ⊥)
        → flat_map (λ child. edge (node_name (id_at file r.line)) (id_at file child)) children ++ (row_edges file kids rows ++ codes "}\n") ≡ 32 ∷ 32 ∷ 110 ∷ (decimal from ++ 32 ∷ rest) → ⊥
    by [] later h = later h
    by (c ∷ children) later h =
        let more = flat_map (λ child. edge (node_name (id_at file r.line)) (id_at file child)) children in
        let end = row_edges file kids rows ++ codes "}\n" in
        let here = append_assoc (edge (node_name (id_at file r.line)) (id_at file c)) more end ∙ edge_is (id_at file r.line) (id_at file c) (more ++ end) in
        let run =
        one_run (decimal (id_at file r.line)) (decimal from) (codes " -> n" ++ ended (id_at file c) (more ++ end)) (32 ∷ rest) (decimal_inner (id_at file r.line)) (decimal_inner from) refl refl
        (ap (drop 3) (sym here ∙ h)) in
        other (inl (sym (decimal_same (id_at file r.line) from (low r.line) low_too run.0)))

module _ (file other : PlanFile) (kids other_kids : List (List ℕ)) (low : (line : ℕ) → id_at file line < 10 ^ 64) (low_too : (line : ℕ) → id_at other line < 10 ^ 64) where
  same_families : (rows others : List DeclaredRow) → row_ids file rows ≡ row_ids other others → IsWithoutRepeats (row_ids file rows)
      → row_edges file kids rows ++ codes "}\n" ≡ row_edges other other_kids others ++ codes "}\n"
      → map (λ (r : DeclaredRow). child_ids file kids r.line) rows ≡ map (λ (r : DeclaredRow). child_ids other other_kids r.line) others
  same_families [] [] ids once e = refl
  same_families [] (s ∷ others) ids once e = absurd cc
  same_families (r ∷ rows) [] ids once e = absurd cc
  same_families (r ∷ rows) (s ∷ others) ids once e =
      let first : id_at file r.line ≡ id_at other s.line = cc in
      let after : row_ids file rows ≡ row_ids other others = cc in
      let own_children = children_at (length file.actions) kids r.line in
      let other_children = children_at (length other.actions) other_kids s.line in
      let here = append_assoc (edges file kids r.line) (row_edges file kids rows) (codes "}\n") in
      let there = append_assoc (edges other other_kids s.line) (row_edges other other_kids others) (codes "}\n") in
      let end = row_edges file kids rows ++ codes "}\n" in
      let ends = row_edges other other_kids others ++ codes "}\n" in
      let family =
      same_edges file other low low_too (id_at file r.line) own_children other_children end ends (not_from file kids low (id_at file r.line) (low r.line) rows once.0)
      (not_from other other_kids low_too (id_at file r.line) (low r.line) others (λ i. once.0 (subst (IsIn (id_at file r.line)) (sym after) i)))
      (subst (λ from. edges file kids r.line ++ end ≡ flat_map (λ child. edge (node_name from) (id_at other child)) other_children ++ ends) (sym first) (sym here ∙ e ∙ there)) in
      ap₂ (λ x xs. x ∷ xs) family.0 (same_families rows others after once.1 family.1)

-- ## Ids

action_at_low : (lines : List ActionLine) (j : ℕ) → AllByRecursion IsActionLine lines → id_or_zero (option_map action (slice_get lines j)) < 10 ^ 64
action_at_low [] j are = omega arith
action_at_low (line ∷ lines) zero are = let low = are.0.id in omega arith
action_at_low (line ∷ lines) (suc j) are = action_at_low lines j are.1

task_at_low : (lines : List DecompositionLine) (j : ℕ) → AllByRecursion IsDecompositionLine lines → id_or_zero (option_map task (slice_get lines j)) < 10 ^ 64
task_at_low [] j are = omega arith
task_at_low (line ∷ lines) zero are = let low = are.0.id in omega arith
task_at_low (line ∷ lines) (suc j) are = task_at_low lines j are.1

all_at_low : (file : PlanFile) → IsPlanFile file → (line : ℕ) → id_at file line < 10 ^ 64
all_at_low file is line = by (nat_lt line (length file.actions))
  where
    by : (b : Bool) → id_or_zero (cond b (option_map action (slice_get file.actions line)) (option_map task (slice_get file.decompositions (line - length file.actions)))) < 10 ^ 64
    by true = action_at_low file.actions line is.actions
    by false = task_at_low file.decompositions (line - length file.actions) is.decompositions

-- a line's id stands at its number
id_there : (file : PlanFile) (n : ℕ) (line : Line) → line_at file n ≡ Some line → slice_get (defined_ids file) n ≡ Some (id_of line)
id_there file n line there = by (cases_lt n (length file.actions))
  where
    of_action : (o : Option ActionLine) → slice_get file.actions n ≡ o → option_map action o ≡ Some line → slice_get (defined_ids file) n ≡ Some (id_of line)
    of_action None at h = absurd cc
    of_action (Some l) at h =
        let same : action l ≡ line = cc in
        action_id_at file.actions (decomposition_ids file.decompositions) n l at ∙ ap (λ x. Some (id_of x)) same

    of_task : length file.actions ≤ n → (o : Option DecompositionLine) → slice_get file.decompositions (n - length file.actions) ≡ o → option_map task o ≡ Some line
        → slice_get (defined_ids file) n ≡ Some (id_of line)
    of_task more None at h = absurd cc
    of_task more (Some l) at h =
        let same : task l ≡ line = cc in
        let place : n ≡ length file.actions + (n - length file.actions) = omega arith in
        ap (slice_get (defined_ids file)) place ∙ past_actions file.actions (decomposition_ids file.decompositions) (n - length file.actions)
        ∙ decomposition_id_at file.decompositions (n - length file.actions) l at ∙ ap (λ x. Some (id_of x)) same

    by : (n < length file.actions) ⊎ (length file.actions ≤ n) → slice_get (defined_ids file) n ≡ Some (id_of line)
    by (inl less) =
        let is = ap (λ b. cond b (option_map action (slice_get file.actions n)) (option_map task (slice_get file.decompositions (n - length file.actions)))) (lt-ltb n (length file.actions) less) in
        of_action (slice_get file.actions n) refl (sym is ∙ there)
    by (inr more) =
        let is = ap (λ b. cond b (option_map action (slice_get file.actions n)) (option_map task (slice_get file.decompositions (n - length file.actions)))) (le-ltb n (length file.actions) more) in
        of_task more (slice_get file.decompositions (n - length file.actions)) refl (sym is ∙ there)

-- rows with one id have one line
same_line : (file : PlanFile) → IsWithoutRepeats (defined_ids file) → (n : ℕ) (line : Line) → line_at file n ≡ Some line → (rows : List DeclaredRow) → AreRead file rows
    → IsIn (id_at file n) (row_ids file rows) → IsIn n (lines_of (seen_all rows))
same_line file once n line there [] read i = absurd i
same_line file once n line there (s ∷ rows) read (inr i) = inr (same_line file once n line there rows read.1 i)
same_line file once n line there (s ∷ rows) read (inl same) =
    let own = read.0 in
    let ids : id_of own.line ≡ id_of line = sym (ap id_or_zero own.there) ∙ sym same ∙ ap id_or_zero there in
    inl (one_number (defined_ids file) once n s.line (id_of line) (id_there file n line there) (id_there file s.line own.line own.there ∙ ap Some ids))

ids_once : (file : PlanFile) → IsWithoutRepeats (defined_ids file) → (rows : List DeclaredRow) → AreRead file rows → IsWithoutRepeats (lines_of (seen_all rows)) → IsWithoutRepeats (row_ids file rows)
ids_once file defined [] read once = tt
ids_once file defined (r ∷ rows) read once =
    let own = read.0 in
    ((λ i. once.0 (same_line file defined r.line own.line own.there rows read.1 i)), ids_once file defined rows read.1 once.1)

-- ## What stands first

-- behind the nodes stands no node
no_node : (file : PlanFile) (kids : List (List ℕ)) (roots : List ℕ) (rows : List DeclaredRow) → ArePreorder (children_at (length file.actions) kids) (root_rows roots) (seen_all rows)
    → nat_eq (get_or (flat_map (λ root. edge (codes "root") (id_at file root)) roots ++ (row_edges file kids rows ++ codes "}\n")) 2 0) 110 ≡ false
no_node file kids (root ∷ roots) rows preorder = refl
no_node file kids [] [] preorder = refl
no_node file kids [] (r ∷ rows) preorder = let none = no_rows (children_at (length file.actions) kids) (seen_all (r ∷ rows)) preorder in absurd cc

-- and behind the edges from the problem no such edge
no_root : (file : PlanFile) (kids : List (List ℕ)) (rows : List DeclaredRow) → nat_eq (get_or (row_edges file kids rows ++ codes "}\n") 2 0) 114 ≡ false
no_root file kids [] = refl
no_root file kids (r ∷ rows) = by (children_at (length file.actions) kids r.line) (no_root file kids rows)
  where
    by : (children : List ℕ) → nat_eq (get_or (row_edges file kids rows ++ codes "}\n") 2 0) 114 ≡ false
        → nat_eq (get_or ((flat_map (λ child. edge (node_name (id_at file r.line)) (id_at file child)) children ++ row_edges file kids rows) ++ codes "}\n") 2 0) 114 ≡ false
    by [] later = later
    by (c ∷ children) later = refl

-- ## Forests

pub graph_shows_forests : GraphShowsForests
graph_shows_forests caption other_caption picture other file other_file is are pictured pictured_too e =
    let own = picture.file.now in
    let own_too = other.file.now in
    let kids = lists_of picture.children.items in
    let kids_too = lists_of other.children.items in
    let rows = picture.rows.items in
    let rows_too = other.rows.items in
    let roots = picture.roots.items in
    let roots_too = other.roots.items in
    let plan = subst IsPlanFile (sym pictured.file_is) is in
    let plan_too = subst IsPlanFile (sym pictured_too.file_is) are in
    let drawing = subst (λ f. IsDrawing f roots kids (seen_all rows)) (sym pictured.file_is) pictured.drawing in
    let drawing_too = subst (λ f. IsDrawing f roots_too kids_too (seen_all rows_too)) (sym pictured_too.file_is) pictured_too.drawing in
    let read = drawing_read own roots kids rows plan drawing in
    let read_too = drawing_read own_too roots_too kids_too rows_too plan_too drawing_too in
    let low = all_at_low own plan in
    let low_too = all_at_low own_too plan_too in
    let end = row_edges own kids rows ++ codes "}\n" in
    let end_too = row_edges own_too kids_too rows_too ++ codes "}\n" in
    let nodes = own_nodes caption.mark other_caption.mark own own_too rows in
    let nodes_too = other_nodes caption.mark other_caption.mark own own_too rows_too in
    let from_root = own_roots own own_too low low_too roots in
    let from_root_too = other_roots own own_too low low_too roots_too in
    let behind = sym (head_past caption.problem.now (nodes ++ (from_root ++ end))) ∙ ap past_head e ∙ head_past other_caption.problem.now (nodes_too ++ (from_root_too ++ end_too)) in
    let ids =
    same_nodes caption.mark other_caption.mark own own_too rows rows_too read read_too (from_root ++ end) (from_root_too ++ end_too) (no_node own kids roots rows drawing.preorder)
    (no_node own_too kids_too roots_too rows_too drawing_too.preorder) behind in
    let tops = same_roots own own_too low low_too roots roots_too end end_too (no_root own kids rows) (no_root own_too kids_too rows_too) ids.1 in
    let once = ids_once own drawing.is_forest.is_forest.defined_once rows read (have_all_once own roots kids (seen_all rows) drawing).once in
    (tops.0, ids.0, same_families own own_too kids kids_too low low_too rows rows_too ids.0 once tops.1)
