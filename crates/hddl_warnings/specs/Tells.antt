-- What is added to a list of warnings.
use Rattle.std.specs.Prelude.{◌≡◌, ◌↔◌, ◌⊎◌, List, None, is_some, true}
use Rattle.hddl_meaning.specs.Mentions.{Mention, IsIn}
use Rattle.hddl_scope.specs.Numbers.{Entries, number_at}
use Rattle.hddl_warnings.specs.Warnings.{in_domain}
use Rattle.hddl_warnings.specs.declared.warning.WarningKind.{WarningKind}
use Rattle.hddl_warnings.specs.declared.warning.Warning.{Warning}

-- exactly those with the property are added
pub record Tells (old new : List Warning) (P : Warning → Type 0) : Type 0 where
  pub all : (w : Warning) → IsIn w new ↔ (IsIn w old ⊎ P w)

-- a warning of a name that isn't known
abbrev pub IsGone : WarningKind → Entries → Mention → Warning → Type 0
IsGone kind known m w = (number_at known m.text ≡ None) × (w ≡ in_domain kind m.place)

-- a name of the list that isn't known
abbrev pub IsUnlisted : WarningKind → List Mention → Entries → Warning → Type 0
IsUnlisted kind declared known w = (m : Mention) × IsIn m declared × IsGone kind known m w

-- a warning of a name that is known to the first and not to the second
abbrev pub IsBetween : WarningKind → Entries → Entries → Mention → Warning → Type 0
IsBetween kind present absent m w =
    (is_some (number_at present m.text) ≡ true) × (number_at absent m.text ≡ None) × (w ≡ in_domain kind m.place)

-- a name of the list that is known to the first and not to the second
abbrev pub IsListedBut : WarningKind → List Mention → Entries → Entries → Warning → Type 0
IsListedBut kind declared present absent w = (m : Mention) × IsIn m declared × IsBetween kind present absent m w
