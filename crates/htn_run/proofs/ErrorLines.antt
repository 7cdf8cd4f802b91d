-- What the line on the error output tells.
use Rattle.std.proofs.Common.{◌≡◌, ◌⊎◌, ℕ, Bool, true, List, Option, arith, inl, inr}
use Rattle.std.specs.Prelude.{codes}
use Rattle.htn_command.specs.declared.request.Request.{Request}
use Rattle.htn_command.specs.declared.request.Request.TheVariants.{Plan, Verify, Check, Explain, Tree}
use Rattle.htn_run.specs.Reading.{name_of}
use Rattle.htn_run.specs.Files.{File}
use Rattle.htn_review.specs.Laws.{IsOfTexts}
use Rattle.htn_run.specs.Lines.{line_of, line_of_fault, unread_line}
use Rattle.htn_run.specs.Requests.{LacksFileOf, NeedsThreads, Refuses, TellsFault}
use Rattle.htn_run.specs.Stops.{Stops, status_of}
use Rattle.htn_review.specs.declared.outcome.RunFault.{RunFault}
use Rattle.htn_review.specs.declared.outcome.RunFault.TheVariants as fault
use Rattle.htn_run.specs.declared.stop.Stop.{Stop}
use Rattle.htn_run.specs.declared.stop.Stop.TheVariants.{Unreadable, Run}
use Rattle.htn_run.specs.declared.stop.Text.{Text}
use Rattle.htn_run.proofs.Reporting.{of_texts_never}

-- a request that is refused a thread has more than one worker
needs_threads : (files : List ℕ → File) (request : Request) → Refuses files request fault.NoThread → NeedsThreads request
needs_threads files (Plan domain problem bounds seconds has_progress) h = h.4.0
needs_threads files (Verify domain problem plan) h = absurd h.4.2
needs_threads files (Explain domain problem plan format has_states colour) h = absurd h.4.2
needs_threads files (Tree domain problem plan drawing has_details colour) h = absurd h.4.2
needs_threads files (Check domain problem format limit is_strict colour) h = of_texts_never files domain.now (name_of problem) h

module _ (Gets : List ℕ → Type 0) where
  module _ {O : Type 0} (contents : O → Option (List ℕ)) (has_failed : O → Bool) (files : List ℕ → File) (request : Request) (old new : O) where
    -- status 3: the fault of a text, and the output is as it was
    pub fault_told : (stop : Stop) → Stops contents has_failed files request old new stop → Gets (line_of stop) → status_of stop ≡ 3
        → ((f : RunFault) × TellsFault request f × IsOfTexts f × Refuses files request f × Gets (line_of_fault f)) × (new ≡ old)
    fault_told (Unreadable text) h gets is = absurd (omega arith)
    fault_told (Run fault.Output) h gets is = absurd (omega arith)
    fault_told (Run (fault.Domain f)) h gets is = ((fault.Domain f, h.0, tt, h.1, gets), h.2)
    fault_told (Run (fault.Problem f)) h gets is = ((fault.Problem f, h.0, tt, h.1, gets), h.2)
    fault_told (Run (fault.Check f)) h gets is = ((fault.Check f, h.0, tt, h.1, gets), h.2)
    fault_told (Run (fault.Plan f)) h gets is = ((fault.Plan f, h.0, tt, h.1, gets), h.2)
    fault_told (Run fault.OutOfMemory) h gets is = absurd (omega arith)
    fault_told (Run fault.NoThread) h gets is = absurd (omega arith)

    -- status 4: a want of memory, or of a thread
    pub want_told : (stop : Stop) → Stops contents has_failed files request old new stop → Gets (line_of stop) → status_of stop ≡ 4
        → Gets (codes "OutOfMemory\n") ⊎ (NeedsThreads request × Gets (codes "NoThread\n"))
    want_told (Unreadable text) h gets is = absurd (omega arith)
    want_told (Run fault.Output) h gets is = absurd (omega arith)
    want_told (Run (fault.Domain f)) h gets is = absurd (omega arith)
    want_told (Run (fault.Problem f)) h gets is = absurd (omega arith)
    want_told (Run (fault.Check f)) h gets is = absurd (omega arith)
    want_told (Run (fault.Plan f)) h gets is = absurd (omega arith)
    want_told (Run fault.OutOfMemory) h gets is = inl gets
    want_told (Run fault.NoThread) h gets is = inr (needs_threads files request h.1, gets)

    -- status 5: a file, or the output
    pub file_told : (stop : Stop) → Stops contents has_failed files request old new stop → Gets (line_of stop) → status_of stop ≡ 5
        → (((text : Text) × LacksFileOf files request text × Gets (unread_line text)) × (new ≡ old))
        ⊎ (Gets (codes "output: cannot be written\n") × (has_failed new ≡ true))
    file_told (Unreadable text) h gets is = inl ((text, h.0, gets), h.1)
    file_told (Run fault.Output) h gets is = inr (gets, h.1)
    file_told (Run (fault.Domain f)) h gets is = absurd (omega arith)
    file_told (Run (fault.Problem f)) h gets is = absurd (omega arith)
    file_told (Run (fault.Check f)) h gets is = absurd (omega arith)
    file_told (Run (fault.Plan f)) h gets is = absurd (omega arith)
    file_told (Run fault.OutOfMemory) h gets is = absurd (omega arith)
    file_told (Run fault.NoThread) h gets is = absurd (omega arith)
