-- What a walk along a finishing word has recorded after each number.
use Rattle.std.proofs.Common.{◌≡◌, ℕ, zero, suc, ◌+◌, ◌<◌, ◌≤◌, List, [], ◌∷◌, ◌++◌, length, take, drop, get_or, false, true≢false, Some, inl, inr, sym, refl, ap, ap₂, ◌∙◌, subst, append_assoc, arith}
use Rattle.std.proofs.lemmas.List.{length-map}
use Rattle.std.proofs.lemmas.Option.{same_Some}
use Rattle.htn_model.specs.Problem.{Child, precondition, action, task, is_compound, Network, Problem}
use Rattle.htn_model.specs.Tree.{Node, Place, root}
use Rattle.htn_model.specs.Choice.{splice, child_of}
use Rattle.htn_model.specs.Machine.{Config, Choice, choose, result_of, start, FinishesFrom}
use Rattle.htn_model.proofs.Splices.{length_splice}
use Rattle.htn_model.proofs.Steps.{chosen, step_choice}
use Rattle.htn_model.proofs.Onward.{visited}
use Rattle.htn_model.proofs.Regrown.{make, graft, regrown, rebuild, regrows, choice_within}
use Rattle.htn_model.proofs.Rebuild.{routed, route}
use Rattle.htn_model.proofs.Rebuild as theory
use Rattle.htn_ground.specs.Trees.{Numbering, node_of, over}
use Rattle.htn_walk.specs.declared.trail.Move.{Move}
use Rattle.htn_walk.specs.Trail.{bare, before_move, before_moves, AreWithin, IsMove}
use Rattle.htn_walk.specs.Places.{child_places, open_places, own_place, places_view}
use Rattle.htn_walk.specs.Walk.{IsStart}
use Rattle.htn_walk.specs.declared.walk.Walk.{Walk}
use Rattle.htn_walk.proofs.Moves.{before_last, length_before, within_push}

-- ## The same words

-- the tree of a node, over these children
same_node : (child : Child) (number : ℕ) (children : List Node) → over (bare child number) children ≡ make child number children
same_node (precondition literals) number children = refl
same_node (action g) number children = refl
same_node (task t) number children = refl

-- the places of children are those of the theory
pub same_places : (place : Place) (position count : ℕ) → child_places place position count ≡ theory.child_places place position count
same_places place position zero = refl
same_places place position (suc count) = ap (λ l. (place ++ position ∷ []) ∷ l) (same_places place (suc position) count)

-- what is visited is what the theory visits
same_visit : (child : Child) (place : Place) (rest : List Place) → own_place child place ++ rest ≡ visited child place rest
same_visit (precondition literals) place rest = refl
same_visit (action g) place rest = refl
same_visit (task t) place rest = refl

-- there are as many places as children
pub length-child_places : (place : Place) (position count : ℕ) → length (child_places place position count) ≡ count
length-child_places place position zero = refl
length-child_places place position (suc count) = ap suc (length-child_places place (suc position) count)

-- ## One number

-- the position of a choice is that of an open node
pub position_within : (problem : Problem) (c : Config) (number : ℕ) (choice : Choice) → choose problem c number ≡ Some choice → choice.position < length c.open_nodes
position_within problem c number choice chooses = choice_within problem c number choice (chosen problem c number choice chooses)

-- how far a walk along a finishing word has come, and what it has recorded
pub record IsUnderWay (numbers : Numbering) (problem : Problem) (word : List ℕ) (first : Config) (roots : List Place) (rest : List ℕ) (c : Config) (trail : List Move)
    (places visits : List Place) : Type 0 where
  pub finishes : FinishesFrom problem rest c
  pub placed : length places ≡ length c.open_nodes
  pub within : AreWithin trail (length (rebuild problem rest c))
  pub trees : before_moves numbers trail (rebuild problem rest c) ≡ rebuild problem word first
  pub carried_out : visits ++ route problem rest c places ≡ route problem word first roots

module _ (numbers : Numbering) (problem : Problem) (c : Config) (number : ℕ) (choice : Choice) (chooses : choose problem c number ≡ Some choice) (last : Move)
    (is_move : IsMove numbers c number choice last) (rest : List ℕ) where
  -- the position of the next choice is that of an open node
  within : choice.position < length c.open_nodes
  within = position_within problem c number choice chooses

  -- the configuration after the next number
  abbrev next : Config
  next = result_of c choice

  -- from there the rest finishes
  next_finishes : FinishesFrom problem (number ∷ rest) c → FinishesFrom problem rest next
  next_finishes h =
      let made = step_choice problem c h.0 number h.1 in
      let same : made.0 ≡ choice = same_Some made.0 choice (sym made.1 ∙ chooses) in
      subst (FinishesFrom problem rest) (made.2 ∙ ap (result_of c) same) h.2

  -- the move, taken back, gives the trees before it
  grown_back : before_move numbers last (rebuild problem rest next) ≡ rebuild problem (number ∷ rest) c
  grown_back =
      let trees = rebuild problem rest next in
      same_graft trees ∙ sym (ap (regrown c number (rebuild problem rest)) chooses)
    where
      same_graft : (trees : List Node) → before_move numbers last trees ≡ graft choice.position (length choice.network.children) (child_of c.open_nodes choice.position) number trees
      same_graft trees =
          let i = choice.position in
          let m = length choice.network.children in
          ap (λ k. take k trees ++ over (node_of numbers last.node) (take last.children (drop k trees)) ∷ drop (k + last.children) trees) is_move.position
          ∙ ap (λ k. take i trees ++ over (node_of numbers last.node) (take k (drop i trees)) ∷ drop (i + k) trees) is_move.children
          ∙ ap (λ x. take i trees ++ over x (take m (drop i trees)) ∷ drop (i + m) trees) is_move.node
          ∙ ap (λ n. take i trees ++ n ∷ drop (i + m) trees) (same_node (child_of c.open_nodes i) number (take m (drop i trees)))

  -- the move is within the trees after it
  move_within : FinishesFrom problem rest next → last.position + last.children ≤ length (rebuild problem rest next)
  move_within h =
      let i = choice.position in
      let grown = regrows problem rest next h in
      let long : length (rebuild problem rest next) ≡ length (splice i choice.network.children c.open_nodes) = sym (length-map (rebuild problem rest next) root) ∙ ap length grown.roots in
      let spliced = length_splice i choice.network.children c.open_nodes within in
      omega (arith, long, spliced, within, is_move.position, is_move.children)

  -- the route goes on from the node's own place
  routed_on : (places : List Place)
      → route problem (number ∷ rest) c places
      ≡ own_place (child_of c.open_nodes choice.position) (get_or places choice.position [])
      ++ route problem rest next (splice choice.position (child_places (get_or places choice.position []) 0 (length choice.network.children)) places)
  routed_on places =
      let i = choice.position in
      let place = get_or places i [] in
      ap (routed c places (route problem rest)) chooses
      ∙ ap (λ l. visited (child_of c.open_nodes i) place (route problem rest next (splice i l places))) (sym (same_places place 0 (length choice.network.children)))
      ∙ sym (same_visit (child_of c.open_nodes i) place _)

  -- the walk one number on
  pub walk_on : (word : List ℕ) (first : Config) (roots : List Place) (trail trail_then : List Move) (places places_then visits visits_then : List Place)
      → IsUnderWay numbers problem word first roots (number ∷ rest) c trail places visits
      → trail_then ≡ trail ++ last ∷ []
      → places_then ≡ splice choice.position (child_places (get_or places choice.position []) 0 (length choice.network.children)) places
      → visits_then ≡ visits ++ own_place (child_of c.open_nodes choice.position) (get_or places choice.position [])
      → IsUnderWay numbers problem word first roots rest next trail_then places_then visits_then
  walk_on word first roots trail trail_then places places_then visits visits_then way t p v =
      let i = choice.position in
      let m = length choice.network.children in
      let place = get_or places i [] in
      let finishes = next_finishes way.finishes in
      let low : i < length places = subst (λ n. i < n) (sym way.placed) within in
      let standing = length_splice i (child_places place 0 m) places low in
      let nodes = length_splice i choice.network.children c.open_nodes within in
      let count = length-child_places place 0 m in
      record {
        finishes = finishes;
        placed = ap length p ∙ (let e : length (splice i (child_places place 0 m) places) ≡ length (splice i choice.network.children c.open_nodes) = omega (arith, standing, nodes, count, way.placed) in e);
        within = subst (λ l. AreWithin l (length (rebuild problem rest next))) (sym t)
            (within_push trail last (length (rebuild problem rest next))
            (subst (AreWithin trail) (sym (ap length grown_back) ∙ length_before numbers last (rebuild problem rest next) (move_within finishes)) way.within) (move_within finishes));
        trees = ap (λ l. before_moves numbers l (rebuild problem rest next)) t ∙ before_last numbers trail last (rebuild problem rest next) ∙ ap (before_moves numbers trail) grown_back ∙ way.trees;
        carried_out =
            ap₂ (λ l q. l ++ route problem rest next q) v p
            ∙ append_assoc visits (own_place (child_of c.open_nodes i) place) _
            ∙ ap (λ l. visits ++ l) (sym (routed_on places))
            ∙ way.carried_out;
      }

-- ## The ends of a walk

-- a walk that has not begun is under way
pub way_start : (numbers : Numbering) (problem : Problem) (word : List ℕ) (first : Config) (roots : List Place) (trail : List Move) (visits : List Place)
    → FinishesFrom problem word first → length roots ≡ length first.open_nodes → trail ≡ [] → visits ≡ [] → IsUnderWay numbers problem word first roots word first trail roots visits
way_start numbers problem word first roots trail visits h placed t v = record {
  finishes = h;
  placed = placed;
  within = subst (λ l. AreWithin l (length (rebuild problem word first))) (sym t) tt;
  trees = ap (λ l. before_moves numbers l (rebuild problem word first)) t;
  carried_out = ap (λ l. l ++ route problem word first roots) v;
}

-- a walk that begins is under way
pub way_begins : (numbers : Numbering) (problem : Problem) (word : List ℕ) (network : Network) (walk : Walk) → IsStart problem network walk → FinishesFrom problem word (start problem network)
    → IsUnderWay numbers problem word walk.config (open_places walk.places.items) word walk.config walk.trail.items (open_places walk.places.items) (places_view walk.visits.items)
way_begins numbers problem word network walk begins finishes =
    way_start numbers problem word walk.config (open_places walk.places.items) walk.trail.items (places_view walk.visits.items)
    (subst (FinishesFrom problem word) (sym begins.config) finishes)
    (ap length begins.places ∙ length-child_places [] 0 (length network.children) ∙ sym (ap (λ x. length x.open_nodes) begins.config))
    begins.trail begins.visits

-- what a choice leaves where a step or an action is carried out
pub childless : (problem : Problem) (c : Config) (number : ℕ) (choice : Choice) → choose problem c number ≡ Some choice
    → is_compound (child_of c.open_nodes choice.position) ≡ false → length choice.network.children ≡ 0
childless problem c number choice chooses primitive =
    elim (chosen problem c number choice chooses) [
      | inl d ↦ absurd (true≢false (sym (ap is_compound d.is_task) ∙ primitive))
      | inr e ↦ ap (λ n. length n.children) e.network
    ]
