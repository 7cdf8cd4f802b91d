-- What a picture shows of a file: its forest.
use Rattle.std.specs.Prelude.{◌≡◌, ◌≢◌, ℕ, List, ◌∷◌, length, map, Option, None}
use Rattle.htn_model.specs.PlanFile.{PlanFile}
use Rattle.plan_text.specs.Forest.{lists_of}
use Rattle.plan_text.specs.Reached.{children_at}
use Rattle.plan_picture.specs.declared.picture.Picture.{Picture}
use Rattle.plan_picture.specs.Picture.{IsPictureOf}
use Rattle.plan_text.specs.PlanFile.{IsPlanFile}
use Rattle.picture_text.specs.declared.caption.Caption.{Caption}
use Rattle.picture_text.specs.declared.detail.Detail.{Detail}
use Rattle.picture_text.specs.declared.as_text.Glyphs.{Glyphs}
use Rattle.picture_text.specs.Dot.{dot_bytes}
use Rattle.picture_text.specs.Json.{picture_json}
use Rattle.picture_text.specs.Lines.{id_at}
use Rattle.picture_text.specs.Text.{text_bytes}

-- the ids of the roots
abbrev pub root_ids : Picture → List ℕ
root_ids picture = map (id_at picture.file.now) picture.roots.items

-- the ids of the lines, row by row
abbrev pub row_ids : Picture → List ℕ
row_ids picture = map (λ r. id_at picture.file.now r.line) picture.rows.items

-- the ids of the children of a line
abbrev pub child_ids : PlanFile → List (List ℕ) → ℕ → List ℕ
child_ids file children line = map (id_at file) (children_at (length file.actions) children line)

-- the ids of the children of each row
abbrev pub family_ids : Picture → List (List ℕ)
family_ids picture = map (λ r. child_ids picture.file.now (lists_of picture.children.items) r.line) picture.rows.items

-- two pictures are of one forest, up to the order of siblings: the same roots, the same lines, the same children of each
abbrev pub AreOneForest : Picture → Picture → Type 0
AreOneForest picture other = (root_ids picture ≡ root_ids other) × (row_ids picture ≡ row_ids other) × (family_ids picture ≡ family_ids other)

-- Pictures with one value as JSON are of one forest, whatever else is said of their lines.
abbrev pub JsonShowsForests : Type 0
JsonShowsForests =
    (caption other_caption : Caption) (lines other_lines : List ℕ) (details other_details : Option (List Detail)) (picture other : Picture) (file other_file : PlanFile)
    → IsPictureOf file picture → IsPictureOf other_file other → picture_json caption lines details picture ≡ picture_json other_caption other_lines other_details other
    → AreOneForest picture other

-- words that begin with no blank
abbrev pub IsFlush : List ℕ → Type 0
IsFlush words = (rest : List ℕ) → words ≢ 32 ∷ rest

-- Pictures with one text in which no details are shown are of one forest, whatever is said of their verdicts. The names
-- of their problems begin with no blank, and the words of their files are names.
abbrev pub TextShowsForests : Type 0
TextShowsForests =
    (glyphs : Glyphs) (caption other_caption : Caption) (picture other : Picture) (file other_file : PlanFile)
    → IsFlush caption.problem.now → IsFlush other_caption.problem.now → IsPlanFile file → IsPlanFile other_file → IsPictureOf file picture → IsPictureOf other_file other
    → text_bytes glyphs caption None picture ≡ text_bytes glyphs other_caption None other → AreOneForest picture other

-- So are pictures with the same bytes in the language of graphviz, whatever is said of their problems and verdicts.
abbrev pub GraphShowsForests : Type 0
GraphShowsForests =
    (caption other_caption : Caption) (picture other : Picture) (file other_file : PlanFile) → IsPlanFile file → IsPlanFile other_file → IsPictureOf file picture → IsPictureOf other_file other
    → dot_bytes caption picture ≡ dot_bytes other_caption other → AreOneForest picture other
