-- How the run of a request stops.
use Rattle.std.proofs.Common.{◌≡◌, ◌≢◌, ◌⊎◌, ℕ, Bool, true, List, Option, arith, inl, inr, refl, sym, subst}
use Rattle.htn_command.specs.declared.request.Request.{Request}
use Rattle.htn_command.specs.declared.request.Request.TheVariants as request
use Rattle.std.specs.Borrow.{Bor}
use Rattle.htn_command.specs.declared.choice.Colour.{Colour}
use Rattle.htn_command.specs.declared.choice.Drawing.{Drawing}
use Rattle.htn_review.specs.Checking.{MayColour, domain_text, problem_text}
use Rattle.htn_run.specs.Reading.{file_of}
use Rattle.htn_run.specs.Files.{File, MayFail, MayGive}
use Rattle.diagnostics.specs.declared.format.Format.{Format}
use Rattle.htn_review.specs.Explaining.{IsExplanationCutShort, plan_text}
use Rattle.htn_review.specs.Trees.{IsPictureCutShort, IsUndrawn}
use Rattle.plan_report.specs.declared.report.ReportStyle.{ReportStyle}
use Rattle.htn_run.specs.Requests.{HasFault, IsCutShort, LacksFile, LacksFileOf, LacksText, Refuses, TellsFault}
use Rattle.htn_run.specs.Stops.{IsUnread, Stops, StopsByFault, status_of}
use Rattle.htn_review.specs.declared.outcome.RunFault.{RunFault}
use Rattle.htn_review.specs.declared.outcome.RunFault.TheVariants as fault
use Rattle.htn_run.specs.declared.stop.Stop.{Stop}
use Rattle.htn_run.specs.declared.stop.Stop.TheVariants.{Unreadable, Run}
use Rattle.htn_run.specs.declared.stop.Text.{Text}
use Rattle.htn_run.specs.declared.stop.Text.TheVariants as text

-- what a read gave, seen as the slice that was handed on
pub given : (file : File) (text bytes : List ℕ) → text ≡ bytes → MayGive file bytes → MayGive file text
given file text bytes is read = subst (λ t. MayGive file t) (sym is) read

-- ## How a run stops by a fault

-- a request that is refused, or whose answer is cut short
pub stops_by : {O : Type 0} (contents : O → Option (List ℕ)) (has_failed : O → Bool) (files : List ℕ → File) (request : Request) (old new : O) (f : RunFault)
    → TellsFault request f → (f ≢ fault.Output → Refuses files request f × (new ≡ old))
    → (f ≡ fault.Output → IsCutShort files (contents old) (contents new) request × (has_failed new ≡ true))
    → StopsByFault contents has_failed files request old new f
stops_by contents has_failed files request old new fault.Output tells refused cut = cut refl
stops_by contents has_failed files request old new (fault.Domain f) tells refused cut = let h = refused (λ e. cc) in (tells, h.0, h.1)
stops_by contents has_failed files request old new (fault.Problem f) tells refused cut = let h = refused (λ e. cc) in (tells, h.0, h.1)
stops_by contents has_failed files request old new (fault.Check f) tells refused cut = let h = refused (λ e. cc) in (tells, h.0, h.1)
stops_by contents has_failed files request old new (fault.Plan f) tells refused cut = let h = refused (λ e. cc) in (tells, h.0, h.1)
stops_by contents has_failed files request old new fault.OutOfMemory tells refused cut = (refused (λ e. cc)).1
stops_by contents has_failed files request old new fault.NoThread tells refused cut = let h = refused (λ e. cc) in (tells, h.0, h.1)

-- a tree that is refused for its plan, wants memory, or whose picture is cut short
pub stops_undrawn : {O : Type 0} (contents : O → Option (List ℕ)) (has_failed : O → Bool) (files : List ℕ → File) (domain problem plan : Bor (List ℕ))
    (form : Drawing) (has_details : Bool) (colour : Colour) (old new : O) (d p l : List ℕ) → MayGive (files (file_of domain.now)) d → MayGive (files (file_of problem.now)) p
    → MayGive (files (file_of plan.now)) l → (f : RunFault) → (f ≢ fault.Output → IsUndrawn d p l f × (new ≡ old))
    → (f ≡ fault.Output
    → IsPictureCutShort (domain_text domain.now d) (problem_text problem.now p) (plan_text plan.now l) form has_details (contents old) (contents new) × (has_failed new ≡ true))
    → Stops contents has_failed files (request.Tree domain problem plan form has_details colour) old new (Run f)
stops_undrawn contents has_failed files domain problem plan form has_details colour old new d p l a b c fault.Output refused cut =
    let h = cut refl in ((d, p, a, b, (l, c, h.0)), h.1)
stops_undrawn contents has_failed files domain problem plan form has_details colour old new d p l a b c (fault.Domain f) refused cut = absurd (refused (λ e. cc)).0
stops_undrawn contents has_failed files domain problem plan form has_details colour old new d p l a b c (fault.Problem f) refused cut = absurd (refused (λ e. cc)).0
stops_undrawn contents has_failed files domain problem plan form has_details colour old new d p l a b c (fault.Check f) refused cut = absurd (refused (λ e. cc)).0
stops_undrawn contents has_failed files domain problem plan form has_details colour old new d p l a b c (fault.Plan f) refused cut =
    let h = refused (λ e. cc) in (tt, (d, p, a, b, (l, c, h.0)), h.1)
stops_undrawn contents has_failed files domain problem plan form has_details colour old new d p l a b c fault.OutOfMemory refused cut = (refused (λ e. cc)).1
stops_undrawn contents has_failed files domain problem plan form has_details colour old new d p l a b c fault.NoThread refused cut = absurd (refused (λ e. cc)).0

-- a tree of which the domain or the problem can't be read
pub stops_unread : {O : Type 0} (contents : O → Option (List ℕ)) (has_failed : O → Bool) (files : List ℕ → File) (domain problem plan : Bor (List ℕ))
    (form : Drawing) (has_details : Bool) (colour : Colour) (old : O) (first second : List ℕ) → first ≡ file_of domain.now → second ≡ file_of problem.now
    → (stop : Stop) → IsUnread (LacksText files first second ⊥) stop → Stops contents has_failed files (request.Tree domain problem plan form has_details colour) old old stop
stops_unread contents has_failed files domain problem plan form has_details colour old first second d p (Unreadable text.Domain) h =
    (subst (λ n. MayFail (files n)) d h, refl)
stops_unread contents has_failed files domain problem plan form has_details colour old first second d p (Unreadable text.Problem) h =
    ((h.0, subst (λ n. MayGive (files n) h.0) d h.1, subst (λ n. MayFail (files n)) p h.2), refl)
stops_unread contents has_failed files domain problem plan form has_details colour old first second d p (Unreadable text.Plan) h = absurd h
stops_unread contents has_failed files domain problem plan form has_details colour old first second d p (Run f) h =
    subst (λ x. Stops contents has_failed files (request.Tree domain problem plan form has_details colour) old old (Run x)) (sym h) refl

-- a tree of which the plan can't be read
pub stops_without_plan : {O : Type 0} (contents : O → Option (List ℕ)) (has_failed : O → Bool) (files : List ℕ → File) (domain problem plan : Bor (List ℕ))
    (form : Drawing) (has_details : Bool) (colour : Colour) (old : O) (d p : List ℕ) → MayGive (files (file_of domain.now)) d → MayGive (files (file_of problem.now)) p
    → (file : File) → file ≡ files (file_of plan.now) → (stop : Stop) → IsUnread (λ t. (t ≡ text.Plan) × MayFail file) stop
    → Stops contents has_failed files (request.Tree domain problem plan form has_details colour) old old stop
stops_without_plan contents has_failed files domain problem plan form has_details colour old d p a b file is (Unreadable text.Domain) h = let bad = h.0 in absurd cc
stops_without_plan contents has_failed files domain problem plan form has_details colour old d p a b file is (Unreadable text.Problem) h = let bad = h.0 in absurd cc
stops_without_plan contents has_failed files domain problem plan form has_details colour old d p a b file is (Unreadable text.Plan) h =
    ((d, p, a, b, subst (λ f. MayFail f) is h.1), refl)
stops_without_plan contents has_failed files domain problem plan form has_details colour old d p a b file is (Run f) h =
    subst (λ x. Stops contents has_failed files (request.Tree domain problem plan form has_details colour) old old (Run x)) (sym h) refl

-- an explanation that wants memory, or is cut short
pub stops_unexplained : {O : Type 0} (contents : O → Option (List ℕ)) (has_failed : O → Bool) (files : List ℕ → File) (domain problem plan : Bor (List ℕ))
    (style : ReportStyle) (colour : Colour) (old new : O) (d p l : List ℕ) → MayGive (files (file_of domain.now)) d → MayGive (files (file_of problem.now)) p
    → MayGive (files (file_of plan.now)) l → MayColour colour style.colour → (f : RunFault) → (f ≢ fault.Output → (f ≡ fault.OutOfMemory) × (new ≡ old))
    → (f ≡ fault.Output → IsExplanationCutShort (domain_text domain.now d) (problem_text problem.now p) (plan_text plan.now l) style (contents old) (contents new) × (has_failed new ≡ true))
    → Stops contents has_failed files (request.Explain domain problem plan style.format style.has_states colour) old new (Run f)
stops_unexplained contents has_failed files domain problem plan style colour old new d p l a b c may fault.Output memory cut =
    let h = cut refl in ((d, p, a, b, (l, c, (style, (refl, refl, may), h.0))), h.1)
stops_unexplained contents has_failed files domain problem plan style colour old new d p l a b c may (fault.Domain f) memory cut = let bad = (memory (λ e. cc)).0 in absurd cc
stops_unexplained contents has_failed files domain problem plan style colour old new d p l a b c may (fault.Problem f) memory cut = let bad = (memory (λ e. cc)).0 in absurd cc
stops_unexplained contents has_failed files domain problem plan style colour old new d p l a b c may (fault.Check f) memory cut = let bad = (memory (λ e. cc)).0 in absurd cc
stops_unexplained contents has_failed files domain problem plan style colour old new d p l a b c may (fault.Plan f) memory cut = let bad = (memory (λ e. cc)).0 in absurd cc
stops_unexplained contents has_failed files domain problem plan style colour old new d p l a b c may fault.OutOfMemory memory cut = (memory (λ e. cc)).1
stops_unexplained contents has_failed files domain problem plan style colour old new d p l a b c may fault.NoThread memory cut = let bad = (memory (λ e. cc)).0 in absurd cc

-- an explanation of which the domain or the problem can't be read
pub stops_unread_three : {O : Type 0} (contents : O → Option (List ℕ)) (has_failed : O → Bool) (files : List ℕ → File) (domain problem plan : Bor (List ℕ))
    (style : ReportStyle) (colour : Colour) (old : O) (first second : List ℕ) → first ≡ file_of domain.now → second ≡ file_of problem.now
    → (stop : Stop) → IsUnread (LacksText files first second ⊥) stop → Stops contents has_failed files (request.Explain domain problem plan style.format style.has_states colour) old old stop
stops_unread_three contents has_failed files domain problem plan style colour old first second d p (Unreadable text.Domain) h =
    (subst (λ n. MayFail (files n)) d h, refl)
stops_unread_three contents has_failed files domain problem plan style colour old first second d p (Unreadable text.Problem) h =
    ((h.0, subst (λ n. MayGive (files n) h.0) d h.1, subst (λ n. MayFail (files n)) p h.2), refl)
stops_unread_three contents has_failed files domain problem plan style colour old first second d p (Unreadable text.Plan) h = absurd h
stops_unread_three contents has_failed files domain problem plan style colour old first second d p (Run f) h =
    subst (λ x. Stops contents has_failed files (request.Explain domain problem plan style.format style.has_states colour) old old (Run x)) (sym h) refl

-- an explanation of which the plan can't be read
pub stops_without_third : {O : Type 0} (contents : O → Option (List ℕ)) (has_failed : O → Bool) (files : List ℕ → File) (domain problem plan : Bor (List ℕ))
    (style : ReportStyle) (colour : Colour) (old : O) (d p : List ℕ) → MayGive (files (file_of domain.now)) d → MayGive (files (file_of problem.now)) p
    → (file : File) → file ≡ files (file_of plan.now) → (stop : Stop) → IsUnread (λ t. (t ≡ text.Plan) × MayFail file) stop
    → Stops contents has_failed files (request.Explain domain problem plan style.format style.has_states colour) old old stop
stops_without_third contents has_failed files domain problem plan style colour old d p a b file is (Unreadable text.Domain) h = let bad = h.0 in absurd cc
stops_without_third contents has_failed files domain problem plan style colour old d p a b file is (Unreadable text.Problem) h = let bad = h.0 in absurd cc
stops_without_third contents has_failed files domain problem plan style colour old d p a b file is (Unreadable text.Plan) h =
    ((d, p, a, b, subst (λ f. MayFail f) is h.1), refl)
stops_without_third contents has_failed files domain problem plan style colour old d p a b file is (Run f) h =
    subst (λ x. Stops contents has_failed files (request.Explain domain problem plan style.format style.has_states colour) old old (Run x)) (sym h) refl

-- ## A file that can't be read

-- the file of a text that can't be read is one that the request lacks
pub lacks_file : (files : List ℕ → File) (r : Request) (t : Text) → LacksFileOf files r t → LacksFile files r
lacks_file files (request.Plan domain problem bounds seconds has_progress) text.Domain h = inl h
lacks_file files (request.Plan domain problem bounds seconds has_progress) text.Problem h = inr h
lacks_file files (request.Plan domain problem bounds seconds has_progress) text.Plan h = absurd h
lacks_file files (request.Verify domain problem plan) text.Domain h = inl (inl h)
lacks_file files (request.Verify domain problem plan) text.Problem h = inl (inr h)
lacks_file files (request.Verify domain problem plan) text.Plan h = inr h
lacks_file files (request.Check domain problem format limit is_strict colour) text.Domain h = inl h
lacks_file files (request.Check domain problem format limit is_strict colour) text.Problem h = inr h
lacks_file files (request.Check domain problem format limit is_strict colour) text.Plan h = absurd h
lacks_file files (request.Explain domain problem plan format has_states colour) text.Domain h = inl (inl h)
lacks_file files (request.Explain domain problem plan format has_states colour) text.Problem h = inl (inr h)
lacks_file files (request.Explain domain problem plan format has_states colour) text.Plan h = inr h
lacks_file files (request.Tree domain problem plan drawing has_details colour) text.Domain h = inl (inl h)
lacks_file files (request.Tree domain problem plan drawing has_details colour) text.Problem h = inl (inr h)
lacks_file files (request.Tree domain problem plan drawing has_details colour) text.Plan h = inr h

-- ## The status of a stop

module _ {O : Type 0} (contents : O → Option (List ℕ)) (has_failed : O → Bool) (files : List ℕ → File) (request : Request) (old : O) where
  module _ (new : O) where
    -- status 5: a file can't be read, or the output failed and has a beginning of the answer
    pub at_five : (stop : Stop) → Stops contents has_failed files request old new stop → status_of stop ≡ 5
        → (LacksFile files request × (new ≡ old)) ⊎ (IsCutShort files (contents old) (contents new) request × (has_failed new ≡ true))
    at_five (Unreadable text) h is = inl (lacks_file files request text h.0, h.1)
    at_five (Run fault.Output) h is = inr h
    at_five (Run (fault.Domain f)) h is = absurd (omega arith)
    at_five (Run (fault.Problem f)) h is = absurd (omega arith)
    at_five (Run (fault.Check f)) h is = absurd (omega arith)
    at_five (Run (fault.Plan f)) h is = absurd (omega arith)
    at_five (Run fault.OutOfMemory) h is = absurd (omega arith)
    at_five (Run fault.NoThread) h is = absurd (omega arith)

    -- status 3: one of the texts has a fault
    pub at_three : (stop : Stop) → Stops contents has_failed files request old new stop → status_of stop ≡ 3 → HasFault files request
    at_three (Unreadable text) h is = absurd (omega arith)
    at_three (Run fault.Output) h is = absurd (omega arith)
    at_three (Run (fault.Domain f)) h is = (fault.Domain f, tt, h.1)
    at_three (Run (fault.Problem f)) h is = (fault.Problem f, tt, h.1)
    at_three (Run (fault.Check f)) h is = (fault.Check f, tt, h.1)
    at_three (Run (fault.Plan f)) h is = (fault.Plan f, tt, h.1)
    at_three (Run fault.OutOfMemory) h is = absurd (omega arith)
    at_three (Run fault.NoThread) h is = absurd (omega arith)
