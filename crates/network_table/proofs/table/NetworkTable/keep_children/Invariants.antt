use Rattle.std.proofs.Common.{◌≡◌, ℕ, map, take}
use Rattle.htn_model.specs.Problem.{Child}
use Rattle.htn_ground.specs.Views.{children_of}
use Rattle.network_table.specs.Children.{AreBounds, AreNumbers}
use Rattle.network_table.specs.Networks.{expansion_at, IsGrown, IsWhole}
use Rattle.network_table.specs.Expansions.{IsSound, Live}
use Rattle.network_table.proofs.table.NetworkTable.keep_children.Given as goal

abbrev pub invariant-loop-place : goal.invariant-loop-place
invariant-loop-place l = record {
  whole : IsWhole l.self;
  grown : IsGrown l.initial.self l.self;
  numbers : AreNumbers l.self.children l.ids.items (children_of (take l.place l.nodes));
  bounds : (measure : Child → ℕ) → l.bounds ≡ map measure (children_of l.nodes) → AreBounds measure l.initial.self.children → AreBounds measure l.self.children;
  sound : (live : Live) → IsSound live l.initial.self → IsSound live l.self;
  remembered : (n : ℕ) → expansion_at l.self n ≡ expansion_at l.initial.self n;
}
