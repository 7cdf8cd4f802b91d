-- How the run of a request stops without an answer: its status, and the output after it.
use Rattle.std.specs.Prelude.{◌≡◌, ℕ, Bool, true, List, Option}
use Rattle.htn_command.specs.declared.request.Request.{Request}
use Rattle.plan_text.specs.Out.{TakesBeginning}
use Rattle.htn_run.specs.Files.{File}
use Rattle.htn_run.specs.Requests.{IsCutShort, LacksFileOf, Refuses, TellsFault}
use Rattle.htn_review.specs.declared.outcome.RunFault.{RunFault}
use Rattle.htn_review.specs.declared.outcome.RunFault.TheVariants.{Output, OutOfMemory, NoThread}
use Rattle.htn_run.specs.declared.stop.Stop.{Stop}
use Rattle.htn_run.specs.declared.stop.Stop.TheVariants.{Unreadable, Run}
use Rattle.htn_run.specs.declared.stop.Text.{Text}

-- the status of a run that ended in a fault: 5 for the output, 4 for refused memory or a refused thread, 3 for a text
abbrev pub status_of_fault : RunFault → ℕ
status_of_fault Output = 5
status_of_fault OutOfMemory = 4
status_of_fault NoThread = 4
status_of_fault _ = 3

-- the status of a request that stopped: 5 where a file can't be read, else that of the fault
abbrev pub status_of : Stop → ℕ
status_of (Unreadable text) = 5
status_of (Run fault) = status_of_fault fault

-- why files were not read: the file of a text can't be read, or memory was refused
abbrev pub IsUnread : (Text → Type 0) → Stop → Type 0
IsUnread Lacks (Unreadable text) = Lacks text
IsUnread Lacks (Run fault) = fault ≡ OutOfMemory

-- the output failed after a beginning of some text, or memory was refused and it is as it was
abbrev pub CutsShort : {O : Type 0} → (O → Option (List ℕ)) → (O → Bool) → O → O → RunFault → Type 0
CutsShort contents has_failed old new Output = ((text : List ℕ) × TakesBeginning (contents old) (contents new) text) × (has_failed new ≡ true)
CutsShort contents has_failed old new fault = (fault ≡ OutOfMemory) × (new ≡ old)

-- the condition of a fault on the files, and the output after it
abbrev pub StopsByFault : {O : Type 0} → (O → Option (List ℕ)) → (O → Bool) → (List ℕ → File) → Request → O → O → RunFault → Type 0
StopsByFault contents has_failed files request old new Output = IsCutShort files (contents old) (contents new) request × (has_failed new ≡ true)
StopsByFault contents has_failed files request old new OutOfMemory = new ≡ old
StopsByFault contents has_failed files request old new fault = TellsFault request fault × Refuses files request fault × (new ≡ old)

-- how the run of a request stops, and the output after it
abbrev pub Stops : {O : Type 0} → (O → Option (List ℕ)) → (O → Bool) → (List ℕ → File) → Request → O → O → Stop → Type 0
Stops contents has_failed files request old new (Unreadable text) = LacksFileOf files request text × (new ≡ old)
Stops contents has_failed files request old new (Run fault) = StopsByFault contents has_failed files request old new fault
