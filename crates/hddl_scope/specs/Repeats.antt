-- Names that occur twice.
use Rattle.std.specs.Prelude.{◌≡◌, ◌⊎◌, ◌<◌, ℕ, cond, max, List, [], ◌∷◌, ◌++◌, Option, Some, None, is_some, length, map, take}
use Rattle.hddl_meaning.specs.Mentions.{Mention, Text, IsIn, texts}
use Rattle.hddl_meaning.specs.Names.{distinct}
use Rattle.hddl_meaning.specs.Items.{most_declarations}
use Rattle.hddl_scope.specs.Numbers.{Entries, number_at}

-- two of one text: the place of the later one
abbrev pub IsRepeat : List Mention → ℕ → Type 0
IsRepeat group place =
    (before : List Mention) × (first : Mention) × (middle : List Mention) × (second : Mention) × (after : List Mention)
    × (group ≡ before ++ first ∷ middle ++ second ∷ after) × (first.text ≡ second.text) × (place ≡ max first.place second.place)

-- the places of names after one more: the first that is given counts
abbrev pub noted : Entries → Mention → Entries
noted known m = cond (is_some (number_at known m.text)) known (known ++ (m.text, m.place) ∷ [])

-- the later place, if there is one before
abbrev pub repeat_of : Option ℕ → ℕ → Option ℕ
repeat_of None place = None
repeat_of (Some first) place = Some (max first place)

-- the first mention of the first name past the limit on distinct names, of which some were mentioned before
abbrev pub IsPastAfter : List Mention → List Mention → ℕ → Type 0
IsPastAfter first mentions place =
    (before : List Mention) × (m : Mention) × (after : List Mention) × (mentions ≡ before ++ m ∷ after)
    × (length (distinct (texts (first ++ before))) ≡ most_declarations) × (IsIn m.text (texts (first ++ before)) → ⊥) × (place ≡ m.place)

-- the names are those of the mentions, each once
abbrev pub AreNamesOf : Entries → List Mention → Type 0
AreNamesOf known mentions = map (λ e. e.0) known ≡ distinct (texts mentions)

-- two of one text after a third one whose place is past both: the later place of the two
abbrev pub IsOvertaken : List Mention → ℕ → Type 0
IsOvertaken group place =
    (before : List Mention) × (first : Mention) × (middle : List Mention) × (second : Mention) × (after : List Mention) × (third : Mention)
    × (group ≡ before ++ first ∷ middle ++ second ∷ after) × (first.text ≡ second.text) × (place ≡ max first.place second.place)
    × IsIn third before × (third.text ≡ first.text) × (place < third.place)

-- the place of the first mention of a text, or None where there is none
abbrev pub IsFirstOf : List Mention → Text → Option ℕ → Type 0
IsFirstOf group text None = (m : Mention) → IsIn m group → m.text ≡ text → ⊥
IsFirstOf group text (Some place) =
    (before : List Mention) × (m : Mention) × (after : List Mention) × (group ≡ before ++ m ∷ after) × (m.text ≡ text) × (m.place ≡ place)
    × ((x : Mention) → IsIn x before → x.text ≡ text → ⊥)

-- a mention and the first one before it of its text: the later place of the two
abbrev pub IsRepeatOfFirst : List Mention → ℕ → Type 0
IsRepeatOfFirst group place =
    (before : List Mention) × (m : Mention) × (after : List Mention) × (first : ℕ)
    × (group ≡ before ++ m ∷ after) × IsFirstOf before m.text (Some first) × (place ≡ max first m.place)

-- the places at which mentions after the first `start` ones repeat the first of their text
pub record AreRepeats (start : ℕ) (group : List Mention) (places : List ℕ) : Type 0 where
  pub sound : (place : ℕ) → IsIn place places → IsRepeatOfFirst group place
  pub complete : (place : ℕ) → IsRepeatOfFirst group place → IsIn place places ⊎ IsRepeatOfFirst (take start group) place
