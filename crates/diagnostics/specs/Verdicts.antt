-- Reports of why something has a verdict.
use Rattle.std.specs.Prelude.{ℕ, Bool, true, false, List, [], ◌∷◌, ◌++◌, Option, Some, None, map, codes}
use Rattle.std.specs.List.{flat_map}
use Rattle.std.specs.declared.alloc.Global.{Global}
use Rattle.std.specs.declared.vec.Vec.{Vec}
use Rattle.serde_json.specs.Data.{Data, null, string}
use Rattle.serde_json.specs.Written.{compact_text}
use Rattle.diagnostics.specs.declared.diagnostic.Diagnostic.{Diagnostic}
use Rattle.diagnostics.specs.declared.diagnostic.Part.{Part}
use Rattle.diagnostics.specs.declared.ink.Style.{Style}
use Rattle.diagnostics.specs.declared.ink.Style.TheVariants as style
use Rattle.diagnostics.specs.Ink.{Ink, written, ended, styled}
use Rattle.diagnostics.specs.Json.{array_of, count, diagnostic_json, object_of}
use Rattle.diagnostics.specs.Written.{body_inks, head_inks, summary_inks}

-- the style of a verdict
abbrev pub verdict_style : Bool → Style
verdict_style true = style.Good
verdict_style false = style.Error

-- the line of a verdict
abbrev pub verdict_inks : Bool → List ℕ → List Ink
verdict_inks is_good verdict = styled (verdict_style is_good) verdict ++ ended

-- the lines of a run after an empty line, if there are some
abbrev pub run_bytes : List ℕ → List ℕ
run_bytes [] = []
run_bytes (byte ∷ bytes) = 10 ∷ byte ∷ bytes

-- a diagnostic after an empty line
abbrev pub apart_inks : Diagnostic → List Ink
apart_inks d = ended ++ body_inks d

-- a line after an empty line
abbrev pub last_inks : Vec Part Global → List Ink
last_inks line = ended ++ summary_inks line

-- the line of the verdict, the lines of a run, each diagnostic, and the last lines, with an empty line before each part
abbrev pub text_bytes : Bool → Bool → List ℕ → List ℕ → List Diagnostic → List (Vec Part Global) → List ℕ
text_bytes colour is_good verdict run ds lines =
    written colour (verdict_inks is_good verdict) ++ run_bytes run ++ written colour (flat_map apart_inks ds) ++ written colour (flat_map last_inks lines)

-- the line of the verdict, the lines of a run, and the first line of each diagnostic, without colour
abbrev pub short_bytes : List ℕ → List ℕ → List Diagnostic → List ℕ
short_bytes verdict run ds = written false (verdict_inks false verdict) ++ run_bytes run ++ written false (flat_map head_inks ds)

-- a verdict, if there is one
abbrev pub verdict_json : Option (List ℕ) → Data
verdict_json None = null
verdict_json (Some verdict) = string verdict

-- the object of a verdict and its diagnostics
abbrev pub explained_json : Option (List ℕ) → List Diagnostic → Data
explained_json verdict ds =
    object_of ((codes "format", string (codes "htnplan-explain")) ∷ (codes "version", count 1) ∷ (codes "verdict", verdict_json verdict)
    ∷ (codes "diagnostics", array_of (map diagnostic_json ds)) ∷ [])

-- its text, and a line feed
abbrev pub explained_bytes : Option (List ℕ) → List Diagnostic → List ℕ
explained_bytes verdict ds = compact_text (explained_json verdict ds) ++ 10 ∷ []
