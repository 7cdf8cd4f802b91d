-- Where no lines of progress are asked for, none are shown.
use Rattle.std.proofs.Common.{◌≡◌, ◌⊎◌, ℕ, Bool, false, List, [], Option, inl, inr, subst}
use Rattle.htn_command.specs.declared.request.Request.{Request}
use Rattle.htn_command.specs.declared.request.Request.TheVariants.{Plan, Verify, Check, Explain, Tree}
use Rattle.htn_run.specs.Files.{File}
use Rattle.htn_run.specs.Progress.{GetsLines, Shows}
use Rattle.htn_run.specs.Requests.{ShowsFor, wants_progress}

module _ {E : Type 0} (contents : E → Option (List ℕ)) (has_failed : E → Bool) where
  unshown : (IsLine : List ℕ → Type 0) (is_shown : Bool) (old new : E) → is_shown ≡ false → Shows contents has_failed IsLine is_shown old new → new ≡ old
  unshown IsLine is_shown old new not_shown shows = subst (λ lines. GetsLines contents has_failed IsLine old lines new) (shows.1 not_shown) shows.2

  -- the error output is as it was
  pub quiet : (files : List ℕ → File) (request : Request) (old new : E) → wants_progress request ≡ false → ShowsFor contents has_failed files request old new → new ≡ old
  quiet files (Plan domain problem bounds seconds has_progress) old new none (inl same) = same
  quiet files (Plan domain problem bounds seconds has_progress) old new none (inr texts) =
      elim texts.4 [ inl same ↦ same | inr shown ↦ unshown _ has_progress old new none shown.2 ]
  quiet files (Verify domain problem plan) old new none shows = shows
  quiet files (Check domain problem format limit is_strict colour) old new none shows = shows
  quiet files (Explain domain problem plan format has_states colour) old new none shows = shows
  quiet files (Tree domain problem plan drawing has_details colour) old new none shows = shows
