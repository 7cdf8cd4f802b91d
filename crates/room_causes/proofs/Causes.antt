-- Instances of a line, and their preconditions.
use Rattle.std.proofs.Common.{◌≡◌, ℕ, zero, suc, ◌≤◌, ◌<◌, inl, inr, true, false, List, [], ◌∷◌, length, get_or, Option, Some, None, slice_get, sym, refl, ap, ◌∙◌, subst, arith}
use Rattle.std.proofs.lemmas.Bool.{both_ways, lt-ltb, le-ltb}
use Rattle.std.specs.Option.{MatchOption, is_some}
use Rattle.std.specs.Prelude.{⊤}
use Rattle.htn_model.specs.Literal.{Literal}
use Rattle.htn_model.specs.Problem.{Network, precondition}
use Rattle.htn_model.specs.Instance.{Instance}
use Rattle.htn_model.specs.PlanFile.{IsIn}
use Rattle.plan_room.specs.Lines.{Lines, AreCandidates, IsNetworkOf, IsInitial, IsNextGap, networks_of}
use Rattle.plan_room.specs.Seats.{IsOneAt, IsOneOf}
use Rattle.room_causes.specs.Conflicts.{IsUnmet, IsUnmetIn}
use Rattle.room_causes.specs.Nodes.{IsFalseLiteral, NeverHold}
use Rattle.room_causes.specs.declared.cause.Unmet.{Unmet}

-- the network of an instance of a list is one of the list's
pub in_networks : (instances : List Instance) (k : ℕ) (v : Instance) → slice_get instances k ≡ Some v → IsIn v.network (networks_of instances)
in_networks [] k v is = absurd cc
in_networks (x ∷ instances) zero v is = inl (let same : x ≡ v = cc in ap (λ (i : Instance). i.network) (sym same))
in_networks (x ∷ instances) (suc k) v is = inr (in_networks instances k v is)

-- so is that of one that is read there
pub read_network : (instances : List Instance) (k : ℕ) (v : Instance) → k < length instances → v ≡ get_or instances k v → IsIn v.network (networks_of instances)
read_network [] k v low is = absurd (omega arith)
read_network (x ∷ instances) zero v low is = inl (ap (λ (i : Instance). i.network) is)
read_network (x ∷ instances) (suc k) v low is = inr (read_network instances k v (omega arith) is)

-- what was found of a precondition that holds nowhere
pub unmet_made : (l : Lines) (instance : Instance) (from until : ℕ) (literals copy : List Literal) (values : List ℕ) (literal : Option ℕ) (r : Option ℕ) → values ≡ instance.values
    → slice_get instance.network.children 0 ≡ Some (precondition literals) → copy ≡ literals → IsNextGap l.states until literals from r → false ≡ is_some r
    → MatchOption literal ⊤ (IsFalseLiteral l literals from until)
    → IsUnmetIn l instance from until (record { values = values; literals = copy; literal = literal; from = from; until = until })
unmet_made l instance from until literals copy values literal None same step copied none nowhere found = record {
  values = same;
  position = 0;
  step = step ∙ ap (λ ls. Some (precondition ls)) (sym copied);
  start = refl;
  stop = refl;
  never = subst (λ ls. NeverHold l ls from until) (sym copied) none;
  literal = subst (λ ls. MatchOption literal ⊤ (IsFalseLiteral l ls from until)) (sym copied) found;
}
unmet_made l instance from until literals copy values literal (Some gap) same step copied next nowhere found = absurd (both_ways true (sym nowhere) refl)

module _ (l : Lines) (line : ℕ) where
  -- the networks of a line's candidates are ones of the line
  pub ones_of_line : (children : List ℕ) (networks : List Network) → line < l.count → AreCandidates l (IsNetworkOf l line) children networks → (n : Network) → IsIn n networks → IsOneOf l line n
  ones_of_line children networks low are n there = subst (λ b. IsOneAt b l line n) (sym (lt-ltb line l.count low)) (are.each n there)

  -- and those of the root line are ones of it
  pub ones_of_root : (children : List ℕ) (networks : List Network) → l.count ≤ line → AreCandidates l (IsInitial l) children networks → (n : Network) → IsIn n networks → IsOneOf l line n
  ones_of_root children networks high are n there = subst (λ b. IsOneAt b l line n) (sym (le-ltb line l.count high)) (are.each n there)

  -- a precondition of one of the line's instances is one of the line's
  pub unmet_found : (from : ℕ) (instance : Instance) (r : Option Unmet) → IsOneOf l line instance.network → MatchOption r ⊤ (IsUnmetIn l instance from l.actions) → MatchOption r ⊤ (IsUnmet l line from)
  unmet_found from instance None is_one found = tt
  unmet_found from instance (Some unmet) is_one found = (instance, is_one, found)
