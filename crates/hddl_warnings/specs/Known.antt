-- Texts that are known.
use Rattle.std.specs.Prelude.{◌≡◌, ◌⊎◌, List, None, is_some, true}
use Rattle.hddl_meaning.specs.Mentions.{Text, IsIn}
use Rattle.hddl_scope.specs.Numbers.{Entries, number_at}

-- exactly these texts have a number
pub record Knows (entries : Entries) (texts : List Text) : Type 0 where
  pub known : (t : Text) → is_some (number_at entries t) ≡ true → IsIn t texts
  pub unknown : (t : Text) → number_at entries t ≡ None → IsIn t texts → ⊥

-- one text more has a number
pub record Learns (old new : Entries) (text : Text) : Type 0 where
  pub known : (t : Text) → is_some (number_at new t) ≡ true → (is_some (number_at old t) ≡ true) ⊎ (t ≡ text)
  pub unknown : (t : Text) → number_at new t ≡ None → (number_at old t ≡ None) × (t ≡ text → ⊥)
