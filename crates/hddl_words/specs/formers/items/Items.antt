-- `Items` as a type that may hold the type that holds it.
use mathlib.Core.Path.{◌≡◌, refl, sym}
use mathlib.Core.List.{List, []}
use mathlib.Core.Former.{Former, this, list, via, children}
use base.Stored.{code_map}
use denote.RattleType.{RattleType}
use denote.HoleLaws.{Alike}
use denote.HolePlaces.{Recodes, struct_places, laid}
use denote.Hole.Carrier.{listed, list-listed}
use denote.Hole.Fix.{over}
use denote.Param.Weighed.{Weighed, w_list}
use denote.Model.Placed.{view_places}
use Rattle.std.specs.formers.vec.Vec as vec
use Rattle.std.specs.declared.alloc.Global.{Global}
use Rattle.std.specs.contracts.alloc.Global as heap
use Rattle.std.specs.contracts.impls.GlobalAllocator.TheImpl.{ghosts}
use Rattle.hddl_words.specs.declared.items.Items.TheInside.{Inside}
use Rattle.hddl_words.specs.declared.items.Items.TheView.{view, invariant}
use Rattle.hddl_words.specs.contracts.items.Items as contract
use Rattle.hddl_words.specs.contracts.items.Items.TheInside as inside

-- items are stored as the list of their contents
abbrev pub the_former : Former {0} → Former {0}
the_former g = list g

-- the contents of items are smaller than the items
abbrev pub the_weighed : {g : Former {0}} → Weighed g → Weighed (the_former g)
the_weighed w = w_list w

-- there are items without any value to hold
abbrev pub the_empty : List ⊥
the_empty = []

-- what the items hold, in order
abbrev pub the_items : (X : Type 0) → List X → List X
the_items X items = items

-- the items of the former are those that contracts see
pub the_items_listed : (X : Type 0) (items : List X) → listed _ (children (the_former this) X items) ≡ the_items X items
the_items_listed X items = list-listed X items

-- the one field of `Items`, seen as the vector inside
abbrev fields : Former {0}
fields = via (vec.the_former this Global) Inside (λ X held. held.vec) (λ X held. record { vec = held }) (λ X held. refl) (λ X held. refl)

module _ (R S : RattleType) (to : R.Denot → S.Denot) where
  -- items whose parts are placed alike are placed alike
  pub the_places : Alike R S to → Alike (contract.the_row R) (contract.the_row S) ((the_former this).map R.Denot S.Denot to)
  the_places alike = view_places fields (list this) view (λ X Y f held. refl) (λ X held. refl) R.Denot S.Denot to (contract.the_row R).coded (contract.the_row S).coded
      (invariant R.Denot) (invariant S.Denot) (λ held p q. refl) (λ held p q. refl) (λ held ok. tt) (λ held ok. tt)
      (over (inside.the_row R)) (over (inside.the_row S))
      (struct_places (inside.the_type R) (inside.the_type S) (vec.mapped to, tt) _ (λ d. refl) refl (laid _ _ _ (vec.the_places heap.the_row ghosts R S to alike), tt))

  -- items whose parts keep their codes keep theirs
  pub the_codes_placed : Recodes R S to → Recodes (contract.the_row R) (contract.the_row S) ((the_former this).map R.Denot S.Denot to)
  the_codes_placed same items = sym (code_map R.coded.code S.coded.code to (λ x. sym (same x)) items)
