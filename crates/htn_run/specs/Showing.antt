-- Lines that are shown one after another.
use Rattle.std.specs.Prelude.{◌≡◌, ℕ, Bool, true, false, List, [], ◌∷◌, ◌++◌, Option, refl}
use Rattle.std.proofs.Common.{subst, ap₂}
use Rattle.htn_model.specs.Task.{Task}
use Rattle.htn_run.specs.Lines.{GetsLine}
use Rattle.htn_run.specs.Progress.{GetsLines, IsProgress, Shows}

module _ {E : Type 0} (contents : E → Option (List ℕ)) (has_failed : E → Bool) (IsLine : List ℕ → Type 0) where
  -- first some lines, and then others
  gets_both : (xs ys : List (List ℕ)) (a b c : E) → GetsLines contents has_failed IsLine a xs b → GetsLines contents has_failed IsLine b ys c → GetsLines contents has_failed IsLine a (xs ++ ys) c
  gets_both [] ys a b c first later = subst (λ x. GetsLines contents has_failed IsLine x ys c) first later
  gets_both (x ∷ xs) ys a b c first later = (first.0, first.1, first.2, gets_both xs ys first.0 b c first.3 later)

  -- nothing was added yet
  pub shows_none : (is_shown : Bool) (a : E) → Shows contents has_failed IsLine is_shown a a
  shows_none is_shown a = ([], λ _. refl, refl)

  -- lines that were shown, and lines that were shown after them
  pub shows_both : (is_shown : Bool) (a b c : E) → Shows contents has_failed IsLine is_shown a b → Shows contents has_failed IsLine is_shown b c → Shows contents has_failed IsLine is_shown a c
  shows_both is_shown a b c first later =
      (first.0 ++ later.0, λ h. ap₂ (λ x y. x ++ y) (first.1 h) (later.1 h), gets_both first.0 later.0 a b c first.2 later.2)

  -- one line
  pub shows_line : (a b : E) (line : List ℕ) → IsLine line → GetsLine (contents a) (contents b) (has_failed b) line → Shows contents has_failed IsLine true a b
  shows_line a b line is gets = (line ∷ [], λ h. absurd cc, (b, is, gets, refl))

-- lines that were shown for a task, and lines that were shown for it after them
pub shows_on : {E : Type 0} (contents : E → Option (List ℕ)) (has_failed : E → Bool) (first second : Task) → second ≡ first → (is_shown later_shown : Bool)
    → later_shown ≡ is_shown → (a b c : E) → Shows contents has_failed (IsProgress first) is_shown a b → Shows contents has_failed (IsProgress second) later_shown b c
    → Shows contents has_failed (IsProgress first) is_shown a c
shows_on contents has_failed first second same is_shown later_shown alike a b c earlier later =
    shows_both contents has_failed (IsProgress first) is_shown a b c earlier
    (subst (λ t. Shows contents has_failed (IsProgress t) is_shown b c) same (subst (λ x. Shows contents has_failed (IsProgress second) x b c) alike later))
