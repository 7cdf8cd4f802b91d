-- What the error output got after what a request showed while it ran.
use Rattle.std.proofs.Common.{◌≡◌, ℕ, Bool, List, Option, arith, inl, refl, sym, subst}
use Rattle.std.specs.Prelude.{String}
use Rattle.htn_verify.specs.declared.verdict.Verdict.TheVariants as verdict
use Rattle.htn_run.specs.Ends.{GetsAfter, ShowsProgress}
use Rattle.htn_run.specs.Files.{File}
use Rattle.htn_run.specs.Lines.{GetsLine}
use Rattle.htn_run.specs.Requests.{AddsBeside}
use Rattle.htn_run.specs.Stops.{status_of}
use Rattle.htn_review.specs.declared.outcome.RunFault.TheVariants as fault
use Rattle.htn_run.specs.declared.reply.Reply.{Reply}
use Rattle.htn_run.specs.declared.reply.Reply.TheVariants.{Planned, Verified, Checked, Explained, Drawn}
use Rattle.htn_run.specs.declared.stop.Stop.{Stop}
use Rattle.htn_run.specs.declared.stop.Stop.TheVariants.{Unreadable, Run}
use Rattle.htn_review.specs.declared.tree.Drawn.TheVariants.{Judged, Refused}

module _ {Z E : Type 0} (contents : E → Option (List ℕ)) (has_failed : E → Bool) (words : List (String Z)) (files : List ℕ → File) where
  -- a line where nothing was shown before
  pub line_alone : (old new : E) (line : List ℕ) → GetsLine (contents old) (contents new) (has_failed new) line → GetsAfter contents has_failed words files old new line
  line_alone old new line gets = (old, inl refl, gets)

  module _ (old shown new : E) (shows : ShowsProgress contents has_failed words files old shown) where
    -- a line after what was shown
    pub line_after : (line : List ℕ) → GetsLine (contents shown) (contents new) (has_failed new) line → GetsAfter contents has_failed words files old new line
    line_after line gets = (shown, shows, gets)

    -- nothing after it
    pub same_after : new ≡ shown → ShowsProgress contents has_failed words files old new
    same_after same = subst (λ x. ShowsProgress contents has_failed words files old x) (sym same) shows

    -- what an answer adds, after it
    pub beside_after : (reply : Reply) → AddsBeside reply (GetsLine (contents shown) (contents new) (has_failed new)) (new ≡ shown)
        → AddsBeside reply (GetsAfter contents has_failed words files old new) (ShowsProgress contents has_failed words files old new)
    beside_after (Planned ended) h = same_after h
    beside_after (Verified ended) h = same_after h
    beside_after (Checked ended) h = same_after h
    beside_after (Explained came) h = same_after h
    beside_after (Drawn (Judged verdict.Structure)) h = line_after _ h
    beside_after (Drawn (Judged (verdict.NoInstance line))) h = same_after h
    beside_after (Drawn (Judged (verdict.NotExecutable id))) h = same_after h
    beside_after (Drawn (Judged verdict.GoalFails)) h = same_after h
    beside_after (Drawn (Judged verdict.NoArrangement)) h = same_after h
    beside_after (Drawn (Judged verdict.Valid)) h = same_after h
    beside_after (Drawn (Refused report)) h = line_after _ h

-- no run that stops has the status of an unknown answer
pub never_unknown : (stop : Stop) → status_of stop ≡ 6 → ⊥
never_unknown (Unreadable text) is = omega arith
never_unknown (Run (fault.Domain f)) is = omega arith
never_unknown (Run (fault.Problem f)) is = omega arith
never_unknown (Run (fault.Check f)) is = omega arith
never_unknown (Run (fault.Plan f)) is = omega arith
never_unknown (Run fault.OutOfMemory) is = omega arith
never_unknown (Run fault.NoThread) is = omega arith
never_unknown (Run fault.Output) is = omega arith
