-- Reports as JSON.
use Rattle.std.specs.Prelude.{◌≡◌, ℕ, ◌-◌, nat_le, Option, Some, None, Bool, true, false, not, List, [], ◌∷◌, ◌++◌, length, map, filter, fold, count_by, codes}
use Rattle.std.specs.List.{list_all}
use Rattle.diagnostics.specs.Places.{position}
use Rattle.serde_json.specs.Data.{Data, null, boolean, number, string, array, object, unsigned, Members, no_members, put}
use Rattle.serde_json.specs.Read.{read}
use Rattle.serde_json.specs.View.{items_of}
use Rattle.serde_json.specs.Written.{compact_text}
use Rattle.diagnostics.specs.declared.diagnostic.Role.{Role}
use Rattle.diagnostics.specs.declared.diagnostic.Role.TheVariants.{Domain, Problem, Plan}
use Rattle.diagnostics.specs.declared.diagnostic.Source.{Source}
use Rattle.diagnostics.specs.declared.diagnostic.Spot.{Spot}
use Rattle.diagnostics.specs.declared.diagnostic.Where.{Where}
use Rattle.diagnostics.specs.declared.diagnostic.Where.TheVariants.{Text, Place}
use Rattle.diagnostics.specs.declared.diagnostic.Severity.{Severity}
use Rattle.diagnostics.specs.declared.diagnostic.Severity.TheVariants as severity
use Rattle.diagnostics.specs.declared.diagnostic.RemarkKind.{RemarkKind}
use Rattle.diagnostics.specs.declared.diagnostic.RemarkKind.TheVariants as kind
use Rattle.diagnostics.specs.declared.diagnostic.Remark.{Remark}
use Rattle.diagnostics.specs.declared.diagnostic.Note.{Note}
use Rattle.diagnostics.specs.declared.diagnostic.Part.{Part}
use Rattle.diagnostics.specs.declared.diagnostic.Diagnostic.{Diagnostic}
use Rattle.diagnostics.specs.declared.reached.Reached.{Reached}
use Rattle.diagnostics.specs.Ink.{written}
use Rattle.diagnostics.specs.Parts.{message_inks}
use Rattle.diagnostics.specs.Written.{is_error}

-- a member of an object: its name and its value
abbrev pub Named : Type 0
Named = List ℕ × Data

-- an object's members with more of them, each at its place in the order of their names
abbrev pub with_members : Members → List Named → Members
with_members ms more = fold (λ old m. put m.0 m.1 old) ms more

abbrev pub object_of : List Named → Data
object_of ms = object (with_members no_members ms)

abbrev pub array_of : List Data → Data
array_of ds = array (items_of ds)

abbrev pub count : ℕ → Data
count n = number (unsigned n)

-- a message, as the text has it
abbrev pub message_json : List Part → Data
message_json parts = string (written false (message_inks parts))

abbrev pub role_word : Role → List ℕ
role_word Domain = codes "domain"
role_word Problem = codes "problem"
role_word Plan = codes "plan"

abbrev pub severity_name : Severity → List ℕ
severity_name severity.Error = codes "error"
severity_name severity.Warning = codes "warning"

-- which text, and the name of its file
abbrev pub source_members : Source → List Named
source_members s = (codes "text", string (role_word s.role)) ∷ (codes "file", string s.name.now) ∷ []

-- a place that is none
abbrev pub no_place : List Named
no_place = (codes "line", null) ∷ (codes "column", null) ∷ (codes "byte", null) ∷ []

-- a place of a text
abbrev pub spot_members : Spot → List Named
spot_members s =
    let p = position s.source.now.lines s.place in
    source_members s.source.now ++ (codes "line", count p.line) ∷ (codes "column", count p.column) ∷ (codes "byte", count s.place) ∷ []

-- what a diagnostic is about, and the length of the word there
abbrev pub where_members : Where → List Named
where_members (Text source) = source_members source.now ++ no_place ++ (codes "length", count 0) ∷ []
where_members (Place spot) = spot_members spot ++ (codes "length", count spot.word_len) ∷ []

-- a note without a place
abbrev pub remark_json : Remark → Data
remark_json r = object_of ((codes "text", null) ∷ (codes "file", null) ∷ no_place ++ (codes "message", message_json r.message.items) ∷ [])

-- a note with a place
abbrev pub note_json : Note → Data
note_json n = object_of (spot_members n.spot ++ (codes "message", message_json n.message.items) ∷ [])

abbrev pub is_help : RemarkKind → Bool
is_help kind.Help = true
is_help kind.Note = false

abbrev pub help_json : List Remark → Data
help_json rs = array_of (map (λ r. message_json r.message.items) (filter (λ r. is_help r.kind) rs))

-- the notes, first those without a place
abbrev pub notes_json : Diagnostic → Data
notes_json d = array_of (map remark_json (filter (λ r. not (is_help r.kind)) d.remarks.items) ++ map note_json d.notes.items)

abbrev pub diagnostic_json : Diagnostic → Data
diagnostic_json d =
    object_of ((codes "severity", string (severity_name d.severity)) ∷ (codes "code", string d.code.now) ∷ where_members d.about
    ++ (codes "message", message_json d.message.items) ∷ (codes "help", help_json d.remarks.items) ∷ (codes "notes", notes_json d) ∷ [])

-- what a plan may use, counted
abbrev pub reached_json : Reached → Data
reached_json r = object_of ((codes "actions", count r.actions) ∷ (codes "methods", count r.methods) ∷ (codes "facts", count r.facts) ∷ [])

-- what is known of plans, if anything is
abbrev pub reached_members : Option Reached → List Named
reached_members None = []
reached_members (Some r) = (codes "reached", reached_json r) ∷ (codes "no_plan", boolean r.no_plan) ∷ []

abbrev pub report_json : List Diagnostic → Option Reached → Data
report_json ds reached =
    let errors = count_by (λ d. is_error d.severity) ds in
    object_of ((codes "format", string (codes "htnplan-check")) ∷ (codes "version", count 1) ∷ (codes "errors", count errors)
    ∷ (codes "warnings", count (length ds - errors)) ∷ (codes "diagnostics", array_of (map diagnostic_json ds)) ∷ reached_members reached)

-- the text of its value, and a line feed
abbrev pub json_bytes : List Diagnostic → Option Reached → List ℕ
json_bytes ds reached = compact_text (report_json ds reached) ++ 10 ∷ []

-- one line: no byte below 32 but the line feed at its end
abbrev pub IsOneLine : List ℕ → Type 0
IsOneLine bytes = (line : List ℕ) × (bytes ≡ line ++ 10 ∷ []) × (list_all (nat_le 32) line ≡ true)

-- a line, without its line feed, is read as a value
abbrev pub IsReadAs : Data → List ℕ → Type 0
IsReadAs d bytes = (line : List ℕ) × (bytes ≡ line ++ 10 ∷ []) × (read line ≡ Some d)
