-- Words that ask for help, or for the version.
use Rattle.std.specs.Prelude.{◌≡◌, ◌||◌, ◌⊎◌, ℕ, Bool, true, List, [], codes, map, nat_eq, ⊤, String, string_bytes}
use Rattle.std.specs.Cmp.Lexicographic.{pointwise}
use Rattle.std.specs.List.{list_any, starts_with}
use Rattle.clap.specs.Kinds.{IsAmong}
use Rattle.clap.specs.declared.error.kind.ErrorKind.{ErrorKind}
use Rattle.clap.specs.declared.error.kind.ErrorKind.TheVariants.{DisplayHelp, DisplayVersion}
use Rattle.htn_command.specs.CommandLine.{HelpIsDue, VersionIsDue, faults}
use Rattle.htn_command.specs.declared.refusal.Refusal.{Refusal}
use Rattle.htn_command.specs.declared.refusal.Refusal.TheVariants.{Help, Version, Words, OutOfMemory}

-- `help` itself, or a word that begins with `--help` or `-h`
abbrev pub is_help_word : List ℕ → Bool
is_help_word word = pointwise nat_eq word (codes "help") || starts_with nat_eq word (codes "--help") || starts_with nat_eq word (codes "-h")

-- whether a word asks for help
abbrev pub asks_for_help : {Z : Type 0} → List (String Z) → Bool
asks_for_help words = list_any (λ word. is_help_word (string_bytes word)) words

-- a word that begins with `--version` or `-V`
abbrev pub is_version_word : List ℕ → Bool
is_version_word word = starts_with nat_eq word (codes "--version") || starts_with nat_eq word (codes "-V")

-- whether a word asks for the version
abbrev pub asks_for_version : {Z : Type 0} → List (String Z) → Bool
asks_for_version words = list_any (λ word. is_version_word (string_bytes word)) words

-- the words ask for help: it is due, and one of them asks for it
abbrev pub HelpIsAsked : {Z : Type 0} → List (String Z) → Type 0
HelpIsAsked words = HelpIsDue (map string_bytes words) × (asks_for_help words ≡ true)

-- the words ask for the version: it is due, and one of them asks for it
abbrev pub VersionIsAsked : {Z : Type 0} → List (String Z) → Type 0
VersionIsAsked words = VersionIsDue (map string_bytes words) × (asks_for_version words ≡ true)

-- an error of this kind shows help that a word asks for, or the version that one asks for
abbrev pub IsAskedText : {Z : Type 0} → List (String Z) → ErrorKind → Type 0
IsAskedText words kind =
    ((kind ≡ DisplayHelp) × (asks_for_help words ≡ true)) ⊎ ((kind ≡ DisplayVersion) × (asks_for_version words ≡ true))

-- this kind is among the faults of the words, or they have no fault
abbrev pub IsPossible : List (List ℕ) → ErrorKind → Type 0
IsPossible words kind = (faults words ≡ []) ⊎ IsAmong kind (faults words)

-- the words may have a fault that is neither help nor the version that one of them asks for
abbrev pub AreMistaken : {Z : Type 0} → List (String Z) → Type 0
AreMistaken words = (kind : ErrorKind) × IsPossible (map string_bytes words) kind × (IsAskedText words kind → ⊥)

-- a refusal for which the words are the reason
abbrev pub IsOfWords : Refusal → Type 0
IsOfWords OutOfMemory = ⊥
IsOfWords _ = ⊤

-- a refusal with the text of help
abbrev pub ShowsHelp : Refusal → Type 0
ShowsHelp (Help error) = ⊤
ShowsHelp _ = ⊥

-- a refusal with the text of the version
abbrev pub ShowsVersion : Refusal → Type 0
ShowsVersion (Version error) = ⊤
ShowsVersion _ = ⊥

-- a refusal of the words themselves
abbrev pub RefusesWords : Refusal → Type 0
RefusesWords (Words error) = ⊤
RefusesWords _ = ⊥
