-- Where the notes of a text's fault stand.
use Rattle.std.specs.Prelude.{◌≡◌, ℕ, ◌+◌, ◌<◌, ◌≤◌, Bool, true, false, List, take, drop, slice_get, Option, Some, None, Ok}
use Rattle.std.specs.Str.{str_eq_ignore_ascii_case}
use Rattle.hddl_words.specs.Faults.{Leads}
use Rattle.hddl_words.specs.Class.{class_of}
use Rattle.hddl_words.specs.Words.{Word, words}
use Rattle.hddl_words.specs.declared.class.Class.{Class}
use Rattle.hddl_words.specs.declared.class.Class.TheVariants as class
use Rattle.hddl_words.specs.declared.class.Keyword.{Keyword}
use Rattle.hddl_words.specs.declared.class.Keyword.TheVariants as keyword
use Rattle.hddl_words.specs.declared.fault.TextFault.{TextFault}
use Rattle.hddl_words.specs.declared.fault.TextFault.TheVariants.{Unclosed, ExtraClose, Expected}
use Rattle.hddl_words.specs.declared.token.Kind.TheVariants as kind
use Rattle.diagnostics.specs.declared.diagnostic.Source.{Source}
use Rattle.diagnostics.specs.declared.diagnostic.Spot.{Spot}
use Rattle.text_messages.specs.Spots.{IsAt}

-- whether a keyword is that of a section
abbrev pub is_section_keyword : Keyword → Bool
is_section_keyword keyword.Requirements = true
is_section_keyword keyword.Types = true
is_section_keyword keyword.Constants = true
is_section_keyword keyword.Predicates = true
is_section_keyword keyword.Task = true
is_section_keyword keyword.Method = true
is_section_keyword keyword.Action = true
is_section_keyword keyword.Objects = true
is_section_keyword keyword.Init = true
is_section_keyword keyword.Goal = true
is_section_keyword keyword.Htn = true
is_section_keyword _ = false

-- whether a word is
abbrev pub is_section : Class → Bool
is_section (class.Keyword k) = is_section_keyword k
is_section _ = false

-- the word of this index is at the place
abbrev pub StandsAt : List Word → ℕ → ℕ → Type 0
StandsAt ws k place = (w : Word) × (slice_get ws k ≡ Some w) × (w.place ≡ place)

-- a section begins with the word of this index: a bracket before the section's keyword
abbrev pub BeginsSection : List Word → ℕ → Type 0
BeginsSection ws k =
    ((w : Word) × (slice_get ws k ≡ Some w) × (w.kind ≡ kind.Open)) × ((w : Word) × (slice_get ws (k + 1) ≡ Some w) × (is_section (class_of w) ≡ true))

-- two or more brackets are open before the word of this index: the text's first one and another
abbrev pub IsInside : List Word → ℕ → Type 0
IsInside ws k = (open_now : ℕ) × Leads 0 (take k ws) open_now × (2 ≤ open_now)

-- the bracket of this index closes the only one that is open, so that the text is complete
abbrev pub Completes : List Word → ℕ → Type 0
Completes ws k = ((w : Word) × (slice_get ws k ≡ Some w) × (w.kind ≡ kind.Close)) × Leads 0 (take k ws) 1

-- a word has this text, and stands in the list in which the words end: from it on they close just what they open
abbrev pub IsTwin : List Word → List ℕ → ℕ → Type 0
IsTwin ws text k = ((w : Word) × (slice_get ws k ≡ Some w) × (str_eq_ignore_ascii_case w.text text ≡ true)) × Leads 0 (drop k ws) 0

-- the first such
abbrev pub IsFirstTwin : List Word → List ℕ → ℕ → Type 0
IsFirstTwin ws text k = IsTwin ws text k × ((j : ℕ) → j < k → IsTwin ws text j → ⊥)

-- A note stands, for a bracket that is never closed, at a section that begins inside another list; for a bracket that
-- closes nothing, where the text is complete; and for a word that can't stand where it is, at the first such word before
-- it in the same list.
abbrev pub IsNoteOf : List Word → TextFault → ℕ → Type 0
IsNoteOf ws (Unclosed at) place = (k : ℕ) × StandsAt ws k place × BeginsSection ws k × IsInside ws k
IsNoteOf ws (ExtraClose at) place = (k : ℕ) × StandsAt ws k place × Completes ws k
IsNoteOf ws (Expected at) place =
    (refused k : ℕ) × (u : Word) × (slice_get ws refused ≡ Some u) × (u.place ≡ at) × StandsAt ws k place × IsFirstTwin (take refused ws) u.text k
IsNoteOf ws _ place = ⊥

-- a note of a text's fault, at a word of the text
abbrev pub IsNote : Source → TextFault → Spot → Type 0
IsNote source fault spot = (ws : List Word) × (place : ℕ) × (words source.lines ≡ Ok ws) × IsNoteOf ws fault place × IsAt source place spot

-- ---- what the code computes

-- no such word from an index on, or the first of them
abbrev pub HasTwins : List Word → List ℕ → ℕ → Option ℕ → Type 0
HasTwins ws text from None = (j : ℕ) → from ≤ j → IsTwin ws text j → ⊥
HasTwins ws text from (Some k) = IsTwin ws text k × ((j : ℕ) → from ≤ j → j < k → IsTwin ws text j → ⊥)
