-- The end of a process whose words ask for no run.
use Rattle.std.specs.Prelude.{◌≡◌, ◌⊎◌, ℕ, Bool, true, List, Option, codes}
use Rattle.std.specs.Io.KnownBytes.{Appends}
use Rattle.plan_text.specs.Out.{TakesBeginning}
use Rattle.htn_command.specs.Help.{IsOfWords, RefusesWords, ShowsHelp, ShowsVersion}
use Rattle.htn_command.specs.declared.refusal.Refusal.{Refusal}
use Rattle.htn_run.specs.Lines.{GetsLine}

module _ {O E : Type 0} (contents : O → Option (List ℕ)) (has_failed : O → Bool) (beside : E → Option (List ℕ)) (is_lost : E → Bool) where
  -- a text was added to the output
  abbrev pub IsAdded : O → O → E → E → Type 0
  IsAdded old new err err' = ((text : List ℕ) × Appends (contents old) (contents new) text) × (has_failed new ≡ has_failed old) × (err' ≡ err)

  -- memory was refused, the output is as it was, and a line says so
  abbrev pub IsWanting : O → O → E → E → Type 0
  IsWanting old new err err' = (new ≡ old) × GetsLine (beside err) (beside err') (is_lost err') (codes "OutOfMemory\n")

  -- the output has failed after a beginning of a text, and a line says so
  abbrev pub IsLost : O → O → E → E → Type 0
  IsLost old new err err' =
      ((text : List ℕ) × TakesBeginning (contents old) (contents new) text) × (has_failed new ≡ true)
      × GetsLine (beside err) (beside err') (is_lost err') (codes "output: cannot be written\n")

  -- how a text ends that is shown, by its status
  abbrev pub EndsText : O → O → E → E → ℕ → Type 0
  EndsText old new err err' status =
      ((status ≡ 0) × IsAdded old new err err') ⊎ (((status ≡ 4) × IsWanting old new err err') ⊎ ((status ≡ 5) × IsLost old new err err'))

  -- the text of help or of the version is shown; or the words are refused; or memory was
  abbrev pub EndsRefusal : Refusal → O → O → E → E → ℕ → Type 0
  EndsRefusal refusal old new err err' status =
      ((ShowsHelp refusal ⊎ ShowsVersion refusal) × EndsText old new err err' status)
      ⊎ ((IsOfWords refusal × RefusesWords refusal × (status ≡ 2) × (new ≡ old)) ⊎ ((status ≡ 4) × IsWanting old new err err'))
