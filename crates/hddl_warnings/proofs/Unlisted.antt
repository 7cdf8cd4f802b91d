-- Declared names that are used, and those that aren't.
use Rattle.std.proofs.Common.{List}
use Rattle.hddl_meaning.specs.Mentions.{Mention, Text}
use Rattle.hddl_scope.specs.Numbers.{Entries}
use Rattle.hddl_warnings.specs.Known.{Knows}
use Rattle.hddl_warnings.specs.Tells.{IsBetween, IsGone, IsListedBut, IsUnlisted, Tells}
use Rattle.hddl_warnings.specs.Warnings.{IsUnused, IsUsedBut}
use Rattle.hddl_warnings.specs.declared.warning.WarningKind.{WarningKind}
use Rattle.hddl_warnings.specs.declared.warning.Warning.{Warning}
use Rattle.hddl_warnings.proofs.Knowing.{is_known, not_known}
use Rattle.hddl_warnings.proofs.Telling.{Tells-as}

-- names that aren't known are those that aren't used
pub unlisted_unused : (old new : List Warning) (kind : WarningKind) (declared : List Mention) (es : Entries) (used : List Text) → Knows es used
    → Tells old new (IsUnlisted kind declared es) → Tells old new (IsUnused kind declared used)
unlisted_unused old new kind declared es used k t =
    Tells-as old new (IsUnlisted kind declared es) (IsUnused kind declared used) (λ w (m, at, told). (m, at, k.unknown m.text told.0, told.1))
    (λ w (m, at, gone, e). let told : IsGone kind es m w = (not_known es used m.text k gone, e) in (m, at, told)) t

-- names that are known to the first and not to the second are those that are used by the first and not by the second
pub listed_used : (old new : List Warning) (kind : WarningKind) (declared : List Mention) (es fs : Entries) (used wanted : List Text) → Knows es used → Knows fs wanted
    → Tells old new (IsListedBut kind declared es fs) → Tells old new (IsUsedBut kind declared used wanted)
listed_used old new kind declared es fs used wanted k l t =
    Tells-as old new (IsListedBut kind declared es fs) (IsUsedBut kind declared used wanted)
    (λ w (m, at, told). (m, at, k.known m.text told.0, l.unknown m.text told.1, told.2))
    (λ w (m, at, there, gone, e).
    let told : IsBetween kind es fs m w = (is_known es used m.text k there, not_known fs wanted m.text l gone, e) in (m, at, told))
    t
