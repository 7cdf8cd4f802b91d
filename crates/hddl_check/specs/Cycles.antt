-- Cycles of types as faults.
use Rattle.std.specs.Prelude.{◌≡◌, ◌∷◌}
use Rattle.hddl_words.specs.declared.domain.DomainText.{DomainText}
use Rattle.hddl_meaning.specs.Mentions.{IsIn, Mention, Typed}
use Rattle.hddl_meaning.specs.Types.{IsOnCycle}
use Rattle.hddl_meaning.specs.Items.{IsTypeCycle, type_of}
use Rattle.hddl_meaning.specs.declared.fault.At.{At}
use Rattle.hddl_meaning.specs.declared.fault.CheckFault.{CheckFault}
use Rattle.hddl_meaning.specs.declared.fault.CheckFault.TheVariants as fault
use Rattle.hddl_meaning.specs.declared.fault.Source.TheVariants as source

-- a fault that names a cycle of types at its place
abbrev pub IsCycleFault : DomainText → CheckFault → Type 0
IsCycleFault d f = (at : At) × (f ≡ fault.TypeCycle at) × IsTypeCycle d at

-- a name of a type that is below itself
abbrev pub cycle_at : Mention → CheckFault
cycle_at m = fault.TypeCycle (record { source = source.Domain; place = m.place })

-- a declaration of a type is on a cycle: the fault is at its name, or at its parent, where one is written
abbrev pub CycleFails : DomainText → Typed → CheckFault → Type 0
CycleFails d t f = IsOnCycle d t × ((m : Mention) × IsIn m (t.mention ∷ type_of t) × (f ≡ cycle_at m))
