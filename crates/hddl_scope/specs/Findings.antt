-- The findings of a check.
use Rattle.std.specs.Prelude.{◌≡◌, ◌⊎◌, ℕ, Bool, cond, List, [], ◌∷◌, ◌++◌, Option, Some, None, IfSome}
use Rattle.std.specs.List.{fold}
use Rattle.hddl_meaning.specs.Mentions.{IsIn}
use Rattle.hddl_meaning.specs.declared.fault.Source.{Source}
use Rattle.hddl_meaning.specs.declared.fault.At.{At}
use Rattle.hddl_meaning.specs.declared.fault.CheckFault.{CheckFault}
use Rattle.hddl_scope.specs.Ranks.{comes_before}

-- an item with the property, or none where no item has it
pub record Finds {X : Type 0} (P : X → Type 0) (found : Option X) : Type 0 where
  pub sound : IfSome found P
  pub complete : found ≡ None → (x : X) → P x → ⊥

-- one of two findings, if there is one
pub record IsOneOf {X : Type 0} (a b found : Option X) : Type 0 where
  pub one : (found ≡ a) ⊎ (found ≡ b)
  pub none : found ≡ None → (a ≡ None) × (b ≡ None)

-- the property, of some item of the list
abbrev pub AnyOf : {X Y : Type 0} → (X → Y → Type 0) → List X → Y → Type 0
AnyOf {X} P items y = (x : X) × IsIn x items × P x y

-- the fault of that kind, at a place in the text
abbrev pub Faulted : (At → CheckFault) → Source → (ℕ → Type 0) → CheckFault → Type 0
Faulted kind text P f = (place : ℕ) × (f ≡ kind (record { source = text; place = place })) × P place

-- ## Faults that are gathered

-- faults that were found: all of them, or the first in the texts alone
pub record Kept : Type 0 where
  pub keeps_all : Bool
  pub faults : List CheckFault

-- the first fault so far and another one: the one that is first in the texts
abbrev pub first_with : List CheckFault → CheckFault → List CheckFault
first_with [] f = f ∷ []
first_with (g ∷ gs) f = cond (comes_before f g) (f ∷ []) (g ∷ gs)

-- the gathered faults after one more fault
abbrev pub keep : Kept → CheckFault → Kept
keep kept f = record { keeps_all = kept.keeps_all; faults = cond kept.keeps_all (kept.faults ++ f ∷ []) (first_with kept.faults f) }

-- Faults were added: each of them has the property. Each fault that has it and isn't passed over is one of them, and
-- where none was added no fault has it.
pub record Adds (PassedOver P : CheckFault → Type 0) (before after : Kept) : Type 0 where
  pub added : List CheckFault
  pub sound : (f : CheckFault) → IsIn f added → P f
  pub complete : (f : CheckFault) → P f → IsIn f added ⊎ PassedOver f
  pub none : added ≡ [] → (f : CheckFault) → P f → ⊥
  pub is : after ≡ fold keep before added

-- the faults of all items of a list were added
abbrev pub AddsAny : {X : Type 0} → (PassedOver P : X → CheckFault → Type 0) → List X → Kept → Kept → Type 0
AddsAny PassedOver P items = Adds (AnyOf PassedOver items) (AnyOf P items)
