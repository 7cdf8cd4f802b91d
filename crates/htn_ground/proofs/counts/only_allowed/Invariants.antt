use Rattle.std.proofs.Common.{◌≡◌, ℕ, true}
use Rattle.std.specs.List.{AllWithin}
use Rattle.htn_ground.specs.declared.relation.Relation.{Relation}
use Rattle.htn_ground.specs.Search.{is_equality, relation_single}
use Rattle.htn_ground.proofs.counts.only_allowed.Given as goal

-- none of the relations so far is an equality with a value
abbrev pub invariant-loop-relation : goal.invariant-loop-relation
invariant-loop-relation l = AllWithin (λ (r : Relation). is_equality r ≡ true → (o : ℕ) → relation_single l.values r l.place o ≡ true) l.relations 0 l.relation-index
