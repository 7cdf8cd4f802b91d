-- How parts of the text that is checked fail.
use Rattle.std.specs.Prelude.{◌⊎◌, ℕ, List, [], length, take, ◌≡◌}
use Rattle.std.specs.List.{zip}
use Rattle.hddl_words.specs.Names.{Name}
use Rattle.hddl_words.specs.declared.term.Term.{Term}
use Rattle.hddl_words.specs.declared.term.Term.TheVariants as term
use Rattle.hddl_words.specs.declared.term.AtomText.{AtomText}
use Rattle.hddl_meaning.specs.Items.{variable_mentions}
use Rattle.hddl_meaning.specs.Uses.{Variable}
use Rattle.hddl_meaning.specs.declared.fault.Source.{Source}
use Rattle.hddl_meaning.specs.declared.fault.CheckFault.{CheckFault}
use Rattle.hddl_meaning.specs.declared.fault.CheckFault.TheVariants as fault
use Rattle.hddl_scope.specs.Findings.{AnyOf, Faulted}
use Rattle.hddl_uses.specs.Parts.{ArgumentFailsIn, ClashesAt, Part, Different, Side, FailsIn}
use Rattle.hddl_uses.specs.declared.context.Context.{Context}

-- a part of the text that is checked fails with a fault
abbrev pub Fails : Context → Part → CheckFault → Type 0
Fails c = FailsIn c.domain.now c.problem.now c.source

-- of a part by itself no fault is passed over
abbrev pub PassedOver : Context → Part → CheckFault → Type 0
PassedOver c part f = ⊥

-- a fault that isn't looked for where these variables are in force: their own repeats are looked for where they come
abbrev pub PassedInside : Context → List Variable → Part → CheckFault → Type 0
PassedInside c variables part = Fails c (Different (variable_mentions variables))

-- a repeat among the first `start` variables
abbrev pub RepeatsBefore : Context → ℕ → List Variable → CheckFault → Type 0
RepeatsBefore c start variables = Fails c (Different (take start (variable_mentions variables)))

-- a name that stands again at a place
abbrev pub duplicate_at : Source → ℕ → CheckFault
duplicate_at text place = fault.Duplicate (record { source = text; place = place })

-- a constant or object that isn't declared, whatever the variables in force
abbrev pub IsUnknownObject : Context → Name → CheckFault → Type 0
IsUnknownObject c name = Fails c (Side (record { variables = []; term = term.Object name }))

-- an argument isn't known, or can't have the type of its place
abbrev pub ArgumentFails : Context → List Variable → Term × Variable → CheckFault → Type 0
ArgumentFails c variables a = ArgumentFailsIn c.domain.now c.problem.now c.source variables (a.0, a.1.typed)

-- an argument isn't known
abbrev pub TermFails : Context → List Variable → Term → CheckFault → Type 0
TermFails c variables x = Fails c (Side (record { variables = variables; term = x }))

-- an argument clashes with its place, and its type is known
abbrev pub ArgumentClashes : Context → List Variable → Term × Variable → CheckFault → Type 0
ArgumentClashes c variables a = Faulted fault.TypeClash c.source (ClashesAt c.domain.now c.problem.now variables (a.0, a.1.typed))

-- one of the arguments isn't known, or clashes with its place, as far as there are places
abbrev pub AnyArgumentFails : Context → List Variable → List Term → List Variable → CheckFault → Type 0
AnyArgumentFails c variables arguments places f =
    AnyOf (TermFails c variables) arguments f ⊎ AnyOf (ArgumentClashes c variables) (zip arguments places) f

-- an atom or a task has another number of arguments than places, at the place of its name
abbrev pub IsMiscounted : AtomText → ℕ → ℕ → Type 0
IsMiscounted atom places place = (length atom.terms ≡ places → ⊥) × (place ≡ atom.name.place)

-- a use has another number of arguments than its declaration has places, or one of them fails
abbrev pub PlacesFail : Context → List Variable → AtomText → List Variable → CheckFault → Type 0
PlacesFail c variables atom places f =
    Faulted fault.Arity c.source (IsMiscounted atom (length places)) f
    ⊎ AnyArgumentFails c variables atom.terms places f
