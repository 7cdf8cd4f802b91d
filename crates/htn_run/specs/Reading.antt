-- The files of a domain and, if one is named, of a problem, and what their texts are.
use Rattle.std.specs.Prelude.{◌≡◌, ℕ, List, [], ◌∷◌, Option, Some, None, if◌then◌else◌, codes, option_map}
use Rattle.std.specs.Borrow.{Bor}
use Rattle.std.specs.Str.{bytes_eq}
use Rattle.check_report.specs.Told.{Named}
use Rattle.htn_review.specs.Checking.{domain_text, problem_text}
use Rattle.htn_run.specs.Files.{File, MayFail, MayGive}
use Rattle.htn_run.specs.declared.stop.Text.{Text}
use Rattle.htn_run.specs.declared.stop.Text.TheVariants as text

-- the name of a file, if there is one
abbrev pub name_of : Option (Bor (List ℕ)) → Option (List ℕ)
name_of = option_map (λ name. name.now)

-- the file of a name: the standard input for `-`
abbrev pub file_of : List ℕ → List ℕ
file_of name = if bytes_eq name (codes "-") then codes "/dev/stdin" else name

-- the files that are read, in order
abbrev pub files_of : List ℕ → Option (List ℕ) → List (List ℕ)
files_of domain None = file_of domain ∷ []
files_of domain (Some problem) = file_of domain ∷ file_of problem ∷ []

-- the files of a domain and, if one is named, of a problem can be read, and this holds of their texts
abbrev pub OfTexts : (List ℕ → File) → List ℕ → Option (List ℕ) → (Named → Option Named → Type 0) → Type 0
OfTexts files domain None P = (d : List ℕ) × MayGive (files (file_of domain)) d × P (domain_text domain d) None
OfTexts files domain (Some problem) P =
    (d : List ℕ) × (p : List ℕ) × MayGive (files (file_of domain)) d × MayGive (files (file_of problem)) p
    × P (domain_text domain d) (Some (problem_text problem p))

-- the file of a problem that is named can't be read, after the domain's was
abbrev pub LacksProblem : (List ℕ → File) → List ℕ → Option (List ℕ) → Type 0
LacksProblem files domain None = ⊥
LacksProblem files domain (Some problem) = (d : List ℕ) × MayGive (files (file_of domain)) d × MayFail (files (file_of problem))

-- the file of this text can't be read
abbrev pub LacksOf : (List ℕ → File) → List ℕ → Option (List ℕ) → Text → Type 0
LacksOf files domain problem text.Domain = MayFail (files (file_of domain))
LacksOf files domain problem text.Problem = LacksProblem files domain problem
LacksOf files domain problem text.Plan = ⊥
