-- How the run of a command line ends, by the request of its words and the contents of the files.
use Rattle.std.specs.Prelude.{◌≡◌, ◌⊎◌, ℕ, Bool, List, [], Option, String, codes, map, string_bytes}
use Rattle.std.specs.Io.KnownBytes.{Appends}
use Rattle.plan_text.specs.Out.{TakesBeginning}
use Rattle.htn_command.specs.Help.{HelpIsAsked, VersionIsAsked}
use Rattle.htn_command.specs.Request.{AskNothing, IsAskedBy}
use Rattle.htn_command.specs.declared.request.Request.{Request}
use Rattle.htn_run.specs.Files.{File, Notes, NotesBeginning}
use Rattle.htn_review.specs.Laws.{IsOfTexts}
use Rattle.htn_run.specs.Lines.{GetsLine, line_of_fault, unread_line}
use Rattle.htn_run.specs.Requests as request
use Rattle.htn_review.specs.declared.outcome.RunFault.{RunFault}
use Rattle.htn_run.specs.declared.stop.Text.{Text}

-- the words ask for a request of which this holds
abbrev pub Asked : {Z : Type 0} → List (String Z) → (Request → Type 0) → Type 0
Asked words P = (r : Request) × IsAskedBy (map string_bytes words) r × P r

-- the words of a process ask for no request
abbrev pub NothingIsAsked : {Z : Type 0} → List (String Z) → Type 0
NothingIsAsked words = AskNothing (map string_bytes words)

-- the words ask for help, or for the version
abbrev pub TextIsAsked : {Z : Type 0} → List (String Z) → Type 0
TextIsAsked words = HelpIsAsked words ⊎ VersionIsAsked words

-- an answer to the request, of this status, was added to the output
abbrev pub PrintsAnswer : {Z : Type 0} → ℕ → List (String Z) → (List ℕ → File) → Option (List ℕ) → Option (List ℕ) → Type 0
PrintsAnswer status words files old new = Asked words (request.AddsAnswerWith status files old new)

-- an answer to the request, of this status, was added to the output, and what accompanies it to the error output
abbrev pub PrintsBeside : {Z : Type 0} → ℕ → List (String Z) → (List ℕ → File) → Option (List ℕ) → Option (List ℕ) → (List ℕ → Type 0) → Type 0 → Type 0
PrintsBeside status words files old new Gets Same = Asked words (request.AddsAnswerBeside status files old new Gets Same)

-- help or the version was added to the output, and it was asked for
abbrev pub PrintsText : {Z : Type 0} → List (String Z) → Option (List ℕ) → Option (List ℕ) → Type 0
PrintsText words old new = TextIsAsked words × ((text : List ℕ) × Appends old new text)

-- the texts of the request have a fault
abbrev pub HasFault : {Z : Type 0} → List (String Z) → (List ℕ → File) → Type 0
HasFault words files = Asked words (request.HasFault files)

-- a file of the request can't be read
abbrev pub LacksFile : {Z : Type 0} → List (String Z) → (List ℕ → File) → Type 0
LacksFile words files = Asked words (request.LacksFile files)

-- a beginning of the answer to the request was added to the output, or of help or the version that was asked for
abbrev pub IsCutShort : {Z : Type 0} → List (String Z) → (List ℕ → File) → Option (List ℕ) → Option (List ℕ) → Type 0
IsCutShort words files old new =
    Asked words (request.IsCutShort files old new) ⊎ (TextIsAsked words × ((text : List ℕ) × TakesBeginning old new text))

-- a beginning of the list of the request's files was read, and no other file
abbrev pub ReadsInOrder : {Z : Type 0} → List (String Z) → Option (List (List ℕ)) → Option (List (List ℕ)) → Type 0
ReadsInOrder words old new = Notes old new [] ⊎ Asked words (λ r. NotesBeginning old new (request.names_of r))

-- nothing was added to the error output, or what the request shows while it runs
abbrev pub ShowsProgress : {Z E : Type 0} → (E → Option (List ℕ)) → (E → Bool) → List (String Z) → (List ℕ → File) → E → E → Type 0
ShowsProgress contents has_failed words files old new =
    (new ≡ old) ⊎ Asked words (λ r. request.ShowsFor contents has_failed files r old new)

-- the error output got a line, after what the request showed while it ran
abbrev pub GetsAfter : {Z E : Type 0} → (E → Option (List ℕ)) → (E → Bool) → List (String Z) → (List ℕ → File) → E → E → List ℕ → Type 0
GetsAfter {E = E} contents has_failed words files old new line =
    (shown : E) × ShowsProgress contents has_failed words files old shown × GetsLine (contents shown) (contents new) (has_failed new) line

-- ## The line on the error output, where `Gets` says that the output got a line

-- the line of a fault that the texts of the request have
abbrev pub TellsFault : {Z : Type 0} → List (String Z) → (List ℕ → File) → (List ℕ → Type 0) → Type 0
TellsFault words files Gets =
    Asked words (λ r. (fault : RunFault) × request.TellsFault r fault × IsOfTexts fault × request.Refuses files r fault × Gets (line_of_fault fault))

-- the line of a refusal of memory, or of a thread where the request has more than one worker
abbrev pub TellsWant : {Z : Type 0} → List (String Z) → (List ℕ → Type 0) → Type 0
TellsWant words Gets = Gets (codes "OutOfMemory\n") ⊎ (Asked words request.NeedsThreads × Gets (codes "NoThread\n"))

-- the line of a file of the request that can't be read
abbrev pub TellsFile : {Z : Type 0} → List (String Z) → (List ℕ → File) → (List ℕ → Type 0) → Type 0
TellsFile words files Gets = Asked words (λ r. (text : Text) × request.LacksFileOf files r text × Gets (unread_line text))

-- the line of an output that failed
abbrev pub TellsOutput : (List ℕ → Type 0) → Type 0
TellsOutput Gets = Gets (codes "output: cannot be written\n")
