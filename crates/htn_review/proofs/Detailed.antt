-- The parameters of a method one by one, and what entries say of the lines of a file.
use Rattle.std.proofs.Common.{◌≡◌, ℕ, suc, ◌+◌, ◌<◌, ◌++◌, ◌∙◌, true, false, if◌then◌else◌, List, [], ◌∷◌, length, map, take, get_or, Some, slice_get, slice_index, refl, sym, ap, append-nil, arith}
use Rattle.std.specs.List.{AllZip, enumerate_from, flat_map, list_any}
use Rattle.hddl_words.specs.declared.domain.DomainText.{DomainText}
use Rattle.htn_ground.specs.Naming.{object_name}
use Rattle.htn_ground.proofs.Numbered.{method_more}
use Rattle.htn_model.specs.PlanFile.{DecompositionLine}
use Rattle.htn_model.specs.Problem.{Child, precondition, action, task}
use Rattle.htn_model.specs.Schema.{Term}
use Rattle.htn_model.specs.Task.{Task}
use Rattle.line_details.specs.Entries.{spans_of}
use Rattle.line_details.specs.Found.{IsFoundFor}
use Rattle.line_details.specs.declared.entry.Entry.{Entry}
use Rattle.picture_text.specs.declared.detail.Detail.{Detail}
use Rattle.line_details.specs.Details.{Details}
use Rattle.plan_findings.specs.Words.{literal_text}
use Rattle.htn_review.specs.Sights.{ShowEntries}
use Rattle.htn_review.specs.Details.{ShowsInstance, ShowsLine, condition_in, is_parameter, setting_if}

-- ## Parameters

module _ (t : Task) (arguments : List Term) (values : List ℕ) (names : List (List ℕ)) (i : ℕ) (name : List ℕ) (low : i < length names) (is : name ≡ get_or names i name) where
  -- one that the task shows adds nothing
  pub one_shown : (done : List (List ℕ × List ℕ)) → list_any (is_parameter i) arguments ≡ true
      → done ≡ flat_map (setting_if t arguments values) (enumerate_from 0 (take i names)) → done ≡ flat_map (setting_if t arguments values) (enumerate_from 0 (take (i + 1) names))
  one_shown done shown so_far =
      let all = flat_map (setting_if t arguments values) (enumerate_from 0 (take i names)) in
      so_far ∙ sym (append-nil all)
      ∙ ap (λ l. all ++ l) (ap (λ b. if b then [] else (name, object_name t (slice_index values i)) ∷ []) (sym shown))
      ∙ sym (method_more (setting_if t arguments values) names i name low is)

  -- another one adds its value
  pub one_hidden : (done : List (List ℕ × List ℕ)) → list_any (is_parameter i) arguments ≡ false
      → done ≡ flat_map (setting_if t arguments values) (enumerate_from 0 (take i names))
      → done ++ (name, object_name t (slice_index values i)) ∷ [] ≡ flat_map (setting_if t arguments values) (enumerate_from 0 (take (i + 1) names))
  one_hidden done hidden so_far =
      let all = flat_map (setting_if t arguments values) (enumerate_from 0 (take i names)) in
      ap (λ l. l ++ (name, object_name t (slice_index values i)) ∷ []) so_far
      ∙ ap (λ l. all ++ l) (ap (λ b. if b then [] else (name, object_name t (slice_index values i)) ∷ []) (sym hidden))
      ∙ sym (method_more (setting_if t arguments values) names i name low is)

-- ## Lines

module _ (d : DomainText) (t : Task) (details : Details) where
  -- the step of an entry stands where the details say
  same_condition : (line : DecompositionLine) (e : Entry) → IsFoundFor t details line e
      → condition_in t ((spans_of e).start 0) e.instance.network.children ≡ condition_in t (details.gap line.id 0) e.instance.network.children
  same_condition line e found = by e.instance.network.children refl
    where
      by : (nodes : List Child) → e.instance.network.children ≡ nodes → condition_in t ((spans_of e).start 0) nodes ≡ condition_in t (details.gap line.id 0) nodes
      by [] same = refl
      by (precondition literals ∷ nodes) same =
          ap (λ g. Some (map (literal_text t) literals, g)) (sym (found.gaps 0 literals (ap (λ ns. slice_get ns 0) same)))
      by (action g ∷ nodes) same = refl
      by (task g ∷ nodes) same = refl

  -- what shows an entry shows its line
  shows_line : (line : DecompositionLine) (e : Entry) (x : Detail) → IsFoundFor t details line e
      → ShowsInstance d t e.instance ((spans_of e).start 0) x → ShowsLine d t details line x
  shows_line line e x found s = record {
    g = found.g;
    instance = e.instance;
    named = found.named;
    is_instance = found.instance.0;
    shows = record {
      number = s.number;
      text = s.text;
      method = s.method;
      number_is = s.number_is;
      text_is = s.text_is;
      method_is = s.method_is;
      settings = s.settings;
      condition = s.condition ∙ same_condition line e found;
    };
  }

  -- so do all
  pub show_lines : (lines : List DecompositionLine) (entries : List Entry) (found : List Detail) → length entries ≡ length lines
      → ((j : ℕ) (line : DecompositionLine) (e : Entry) → slice_get lines j ≡ Some line → slice_get entries j ≡ Some e → IsFoundFor t details line e)
      → ShowEntries d t entries found → AllZip (ShowsLine d t details) lines found
  show_lines [] [] [] many each all = tt
  show_lines [] [] (x ∷ found) many each all = absurd all
  show_lines [] (e ∷ entries) found many each all = absurd (omega arith)
  show_lines (line ∷ lines) [] found many each all = absurd (omega arith)
  show_lines (line ∷ lines) (e ∷ entries) [] many each all = absurd all
  show_lines (line ∷ lines) (e ∷ entries) (x ∷ found) many each all =
      (shows_line line e x (each 0 line e refl refl) all.0, show_lines lines entries found (omega arith) (λ j l y. each (suc j) l y) all.1)

-- one pair more
pub zip_more : {A B : Type 0} (C : A → B → Type 0) (xs : List A) (ys : List B) (x : A) (y : B) → AllZip C xs ys → C x y → AllZip C (xs ++ x ∷ []) (ys ++ y ∷ [])
zip_more C [] [] x y all is = (is, tt)
zip_more C [] (b ∷ ys) x y all is = absurd all
zip_more C (a ∷ xs) [] x y all is = absurd all
zip_more C (a ∷ xs) (b ∷ ys) x y all is = (all.0, zip_more C xs ys x y all.1 is)
