-- After each number of a code the machine's open nodes are the front, in the order of the forest.
use Rattle.std.proofs.Common.{ℕ, List, [], ◌∷◌, option_map, sym, refl, ap, subst}
use Rattle.htn_model.specs.Problem.{Order, Problem, IsGrounded}
use Rattle.htn_model.specs.Tree.{Nodes, Place, before}
use Rattle.htn_model.specs.Choice.{splice}
use Rattle.htn_model.specs.Code.{Placed, front_at, children_at, placed}
use Rattle.htn_model.specs.Machine.{Config, result_of, start}
use Rattle.htn_model.specs.Along.{PeelsTo, LeadsTo, MachineFollows}
use Rattle.htn_model.proofs.Fronts.{Matches}
use Rattle.htn_model.proofs.Onward.{Followed, onward}
use Rattle.htn_model.proofs.OneToOne.{followed_of, own_order}

module _ (problem : Problem) (grounded : IsGrounded problem) (order : Order) (trees : Nodes) where
  -- the word leads to a configuration that has the front
  abbrev Reaches : List ℕ → List Placed → Config → Type 0
  Reaches word last c = (d : Config) × LeadsTo problem word c d × Matches problem order trees last d

  -- a peeling of some of the front steps the machine along
  follow : (word : List ℕ) (front last : List Placed) (list rest : List Place) (c : Config) → Followed problem grounded order trees front list c
      → PeelsTo (before problem order trees) word front list last rest → Reaches word last c
  follow [] front last list rest c f p = (c, refl, subst (λ x. Matches problem order trees x c) p.0 f.matches)
  follow (number ∷ word) front last list rest c f p =
      let o = onward problem grounded order trees front list c number (λ x l. PeelsTo (before problem order trees) word x l last rest) f p in
      let i = o.choice.position in
      let reached = follow word (splice i (children_at (front_at front i)) front) last o.rest rest (result_of c o.choice) o.followed o.peels in
      (reached.0, (result_of c o.choice, ap (option_map (result_of c)) o.chooses, reached.1), reached.2)

-- the machine follows each code of a grounded problem
pub machine_follows : (problem : Problem) → IsGrounded problem → MachineFollows problem
machine_follows problem grounded s word front rest solves peels =
    let network = solves.network in
    let own = own_order problem grounded s solves in
    let reached = follow problem grounded network.order s.trees word (placed [] 0 s.trees) front s.linearisation rest (start problem network) (followed_of problem grounded s solves)
    (subst (λ o. PeelsTo (before problem o s.trees) word (placed [] 0 s.trees) s.linearisation front rest) own peels) in
    let matches = subst (λ o. Matches problem o s.trees front reached.0) (sym own) reached.2 in
    record {
      network = network;
      is_initial = solves.is_initial;
      last = reached.0;
      leads = reached.1;
      has_front = record { open_nodes = matches.roots; order = matches.orders };
    }
