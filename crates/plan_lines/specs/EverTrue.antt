-- The atoms that are ever true, listed by what they have in common.
use Rattle.std.specs.Prelude.{◌≡◌, ◌&&◌, ◌++◌, ℕ, Bool, false, List, [], Some, get_or, length, map, nat_eq, slice_get}
use Rattle.std.specs.Hash as fed
use Rattle.std.specs.Hash.{HashWrites}
use Rattle.std.specs.List.{position_or_len}
use Rattle.htn_model.specs.Atom.{Atom}
use Rattle.htn_model.specs.PlanFile.{IsIn}
use Rattle.plan_lines.specs.Turns.{History, IsEverTrue, IsHistory}
use Rattle.plan_lines.specs.declared.ever_true.Lists.{Lists}
use Rattle.plan_lines.specs.declared.ever_true.Slot.{Slot}
use Rattle.plan_lines.specs.declared.ever_true.Slot.TheVariants.{Predicate, Argument}

-- the atom has the predicate, or the predicate with the object at the place
abbrev pub HasSlot : Atom → Slot → Type 0
HasSlot a (Predicate p) = a.predicate ≡ p
HasSlot a (Argument p place o) = (a.predicate ≡ p) × (slice_get a.arguments place ≡ Some o)

-- whether two slots are the same
abbrev pub slot_eq : Slot → Slot → Bool
slot_eq (Predicate p) (Predicate q) = nat_eq p q
slot_eq (Predicate p) (Argument q j r) = false
slot_eq (Argument p i o) (Predicate q) = false
slot_eq (Argument p i o) (Argument q j r) = nat_eq p q && (nat_eq i j && nat_eq o r)

-- what a slot feeds a hasher
abbrev pub slot_hash : Slot → HashWrites
slot_hash (Predicate p) = fed.u16 p
slot_hash (Argument p i o) = fed.u16 p ++ fed.usize i ++ fed.u16 o

-- the atoms that are listed at a slot
abbrev pub listed : Lists → Slot → List Atom
listed lists slot = get_or (map (λ atoms. map (λ a. a.now) atoms.items) lists.atoms.items) (position_or_len (slot_eq slot) lists.slots.keys) []

-- the atom is listed at each of its slots
abbrev pub IsListed : Lists → Atom → Type 0
IsListed lists a = (slot : Slot) → HasSlot a slot → IsIn a (listed lists slot)

-- what is listed stays so, and each slot has its list
pub record AreMore (old new : Lists) : Type 0 where
  pub as_many : length new.atoms.items ≡ length new.slots.keys
  pub kept : (slot : Slot) (a : Atom) → IsIn a (listed old slot) → IsIn a (listed new slot)

-- each atom that is true in some gap is listed
pub record AreOf (h : History) (lists : Lists) : Type 0 where
  pub history : IsHistory h
  pub as_many : length lists.atoms.items ≡ length lists.slots.keys
  pub each : (a : Atom) → IsEverTrue h a → IsListed lists a
