-- What is gathered of a forest in preorder is its part of the numbered plan file.
use Rattle.std.proofs.Common.{◌≡◌, ℕ, suc, ◌+◌, ◌-◌, Bool, true, false, cond, List, [], ◌∷◌, ◌++◌, length, map, take, drop, Option, Some, None, refl, ap, ap₂, sym, subst, ◌∙◌, append-nil, append_assoc, arith}
use Rattle.std.specs.Prelude.{unwrap_or}
use Rattle.std.specs.List.{list_any}
use Rattle.htn_model.specs.Numbered.{action_places, compound_places, decomposition_line_at, id_in, is_leaf, is_same_place, number_at, position, task_at}
use Rattle.htn_model.specs.PlanFile.{DecompositionLine}
use Rattle.htn_model.specs.Problem.{GroundTask}
use Rattle.htn_model.specs.Shadow.{compounds, compounds_from, ids_of, shown_from}
use Rattle.htn_model.specs.Task.{Task}
use Rattle.htn_model.specs.Tree.{Node, leaf, step, compound, Nodes, no_nodes, node, list_of, children_in, Place, node_at, Solution}
use Rattle.htn_plan.specs.Gathered.{Gathered, by_number, gather, gather_all, line_of, nothing, somes}
use Rattle.htn_ground.specs.Naming.{naming_of}
use Rattle.htn_plan.specs.Ids.{id_among}
use Rattle.htn_plan.specs.Preorder.{Item, items, items_from, task, compound_count}
use Rattle.htn_plan.proofs.Counted.{count_join}
use Rattle.htn_plan.proofs.Apart.{AreApart, Stand, all_stand, compounds_from_apart, compounds_from_other, first_stands, leaf_not_among, not_among, not_before, others_stand, position_absent, roots_stand}
use Rattle.htn_plan.proofs.Lists.{take_exactly, drop_exactly, length_join, length_map}
use Rattle.htn_plan.proofs.Positions.{position_after, position_there}

-- ## Counts

mutual
  -- a tree has as many compound items as places of compound nodes
  pub items_count : (id_at : Place → Option ℕ) (place : Place) (n : Node) → compound_count (items id_at place n) ≡ length (compounds place n)
  items_count id_at place (leaf g) = refl
  items_count id_at place (step literals) = refl
  items_count id_at place (compound t number nodes) = ap suc (items_from_count id_at place 0 nodes)

  -- the same of trees from the i-th child on
  pub items_from_count : (id_at : Place → Option ℕ) (place : Place) (i : ℕ) (ns : Nodes) → compound_count (items_from id_at place i ns) ≡ length (compounds_from place i ns)
  items_from_count id_at place i no_nodes = refl
  items_from_count id_at place i (node n ns) =
      count_join (items id_at (place ++ i ∷ []) n) (items_from id_at place (suc i) ns)
      ∙ ap₂ ◌+◌ (items_count id_at (place ++ i ∷ []) n) (items_from_count id_at place (suc i) ns)
      ∙ sym (length_join (compounds (place ++ i ∷ []) n) (compounds_from place (suc i) ns))

-- ## Ids

module _ (s : Solution) where
  -- how many lines a solution's file has
  abbrev pub total : ℕ
  total = length (action_places s) + length (compound_places s)

  -- the id of an action that is not carried out is past all others
  pub leaf_id : (p : Place) → is_leaf (node_at s.trees p) ≡ true → unwrap_or (id_among s (action_places s) p) total ≡ id_in s p
  leaf_id p h = by (list_any (is_same_place p) (action_places s)) refl
    where
      by : (b : Bool) → list_any (is_same_place p) (action_places s) ≡ b → unwrap_or (cond b (Some (id_in s p)) None) total ≡ id_in s p
      by true e = refl
      by false e =
          let a = position_after p (action_places s) (compound_places s) e in
          let c = position_absent p (compound_places s) (leaf_not_among s.trees p (compound_places s) h (compounds_from_other s.trees [] 0 s.trees (roots_stand s.trees))) in
          omega (arith, a, c)

  -- a compound node's id, by how many come after it
  pub compound_id : (p : Place) (front after : List Place) → is_leaf (node_at s.trees p) ≡ false → compound_places s ≡ front ++ p ∷ after → id_in s p ≡ total - suc (length after)
  compound_id p front after h e =
      let a = position_after p (action_places s) (compound_places s) (not_among (λ q. is_leaf (node_at s.trees q)) p s.linearisation h) in
      let b = ap (position p) e in
      let c = position_there p front after (not_before front p after (subst AreApart e (compounds_from_apart [] 0 s.trees))) in
      let d = ap length e in
      let f = length_join front (p ∷ after) in
      omega (arith, a, b, c, d, f)

-- ## Gathered

-- items are gathered part by part
pub gather_join : (t : Task) (end : ℕ) (xs ys : List (Item ℕ)) (b : Gathered) → gather_all t (by_number t) end (xs ++ ys) b ≡ gather_all t (by_number t) end xs (gather_all t (by_number t) end ys b)
gather_join t end [] ys b = refl
gather_join t end (x ∷ xs) ys b = ap (gather t (by_number t) end x) (gather_join t end xs ys b)

module _ (t : Task) (s : Solution) where
  -- the line of the compound node at a place
  abbrev line_at : Place → DecompositionLine
  line_at = decomposition_line_at (naming_of t) s

  -- the id of the action at a place, if one stands there
  abbrev id_at : Place → Option ℕ
  id_at p = id_among s (action_places s) p

  -- the id of a node, if it has one
  abbrev shown : Place → Node → Option ℕ
  shown place (leaf g) = Some (id_in s place)
  shown place (step literals) = None
  shown place (compound g number nodes) = Some (id_in s place)

  -- the ids of trees from the i-th child on, none for a step
  abbrev all_shown : Place → ℕ → Nodes → List (Option ℕ)
  all_shown place i no_nodes = []
  all_shown place i (node n ns) = shown (place ++ i ∷ []) n ∷ all_shown place (suc i) ns

  -- there are as many as trees
  as_many_shown : (place : Place) (i : ℕ) (ns : Nodes) → length (list_of ns) ≡ length (all_shown place i ns)
  as_many_shown place i no_nodes = refl
  as_many_shown place i (node n ns) = ap suc (as_many_shown place (suc i) ns)

  -- those that are there are the ids of what a file shows
  shown_ids : (place : Place) (i : ℕ) (ns : Nodes) → somes (all_shown place i ns) ≡ ids_of (id_in s) (shown_from place i ns)
  shown_ids place i no_nodes = refl
  shown_ids place i (node (leaf g) ns) = ap (λ ids. id_in s (place ++ i ∷ []) ∷ ids) (shown_ids place (suc i) ns)
  shown_ids place i (node (step literals) ns) = shown_ids place (suc i) ns
  shown_ids place i (node (compound g number nodes) ns) = ap (λ ids. id_in s (place ++ i ∷ []) ∷ ids) (shown_ids place (suc i) ns)

  -- gathering the items adds these ids and the lines of these places in front
  abbrev Gives : List (Item ℕ) → Gathered → List (Option ℕ) → List Place → Type 0
  Gives xs b ids places = gather_all t (by_number t) (total s) xs b ≡ record { ids = ids ++ b.ids; lines = map line_at places }

  -- the lines of compound nodes below a place, and those after them
  abbrev lines_below : Place → Nodes → List Place → List DecompositionLine
  lines_below place nodes after = map line_at (compounds_from place 0 nodes ++ after)

  -- a compound node over its children
  over : (place : Place) (g : GroundTask) (number : ℕ) (nodes : Nodes) (b : Gathered) (after front : List Place) → node_at s.trees place ≡ Some (compound g number nodes)
      → compound_places s ≡ front ++ place ∷ (compounds_from place 0 nodes ++ after)
      → gather t (by_number t) (total s) (task g number (length (list_of nodes))) (record { ids = all_shown place 0 nodes ++ b.ids; lines = map line_at (compounds_from place 0 nodes ++ after) })
      ≡ record { ids = Some (id_in s place) ∷ b.ids; lines = line_at place ∷ map line_at (compounds_from place 0 nodes ++ after) }
  over place g number nodes b after front stands split =
      ap₂ (λ id count. record { ids = Some id ∷ drop count (all_shown place 0 nodes ++ b.ids); lines = line_of t id g (by_number t g number) (somes (take count (all_shown place 0 nodes ++ b.ids))) ∷ lines_below place nodes after }) the_id (as_many_shown place 0 nodes)
      ∙ ap₂ (λ ids children. record { ids = Some (id_in s place) ∷ ids; lines = line_of t (id_in s place) g (by_number t g number) children ∷ lines_below place nodes after })
      (drop_exactly (all_shown place 0 nodes) b.ids) (ap somes (take_exactly (all_shown place 0 nodes) b.ids) ∙ shown_ids place 0 nodes)
      ∙ ap (λ line. record { ids = Some (id_in s place) ∷ b.ids; lines = line ∷ lines_below place nodes after }) (sym the_line)
    where
      the_id : total s - suc (length (lines_below place nodes after)) ≡ id_in s place
      the_id =
          ap (λ n. total s - suc n) (length_map line_at (compounds_from place 0 nodes ++ after))
          ∙ sym (compound_id s place front (compounds_from place 0 nodes ++ after) (ap is_leaf stands) split)

      the_line : line_at place ≡ line_of t (id_in s place) g (by_number t g number) (ids_of (id_in s) (shown_from place 0 nodes))
      the_line = ap (λ n. line_of t (id_in s place) (task_at n) (by_number t (task_at n) (number_at n)) (ids_of (id_in s) (shown_from place 0 (children_in n)))) stands

  mutual
    -- the items of a tree give its id and the lines of its compound nodes
    node_gives : (place : Place) (n : Node) (b : Gathered) (after front : List Place) → node_at s.trees place ≡ Some n
        → compound_places s ≡ front ++ (compounds place n ++ after) → b.lines ≡ map line_at after
        → Gives (items id_at place n) b (shown place n ∷ []) (compounds place n ++ after)
    node_gives place (leaf g) b after front stands split are =
        ap₂ (λ id lines. record { ids = Some id ∷ b.ids; lines = lines }) (leaf_id s place (ap is_leaf stands)) are
    node_gives place (step literals) b after front stands split are = ap (λ lines. record { ids = None ∷ b.ids; lines = lines }) are
    node_gives place (compound g number nodes) b after front stands split are =
        ap (gather t (by_number t) (total s) (task g number (length (list_of nodes))))
        (nodes_give place 0 nodes b after (front ++ place ∷ []) (all_stand s.trees place (compound g number nodes) stands)
        (split ∙ sym (append_assoc front (place ∷ []) (compounds_from place 0 nodes ++ after))) are)
        ∙ over place g number nodes b after front stands split

    -- the same of trees from the i-th child on
    nodes_give : (place : Place) (i : ℕ) (ns : Nodes) (b : Gathered) (after front : List Place) → Stand s.trees place i ns
        → compound_places s ≡ front ++ (compounds_from place i ns ++ after) → b.lines ≡ map line_at after
        → Gives (items_from id_at place i ns) b (all_shown place i ns) (compounds_from place i ns ++ after)
    nodes_give place i no_nodes b after front stand split are = ap (λ lines. record { ids = b.ids; lines = lines }) are
    nodes_give place i (node n ns) b after front stand split are =
        gather_join t (total s) (items id_at (place ++ i ∷ []) n) (items_from id_at place (suc i) ns) b
        ∙ ap (gather_all t (by_number t) (total s) (items id_at (place ++ i ∷ []) n))
        (nodes_give place (suc i) ns b after (front ++ compounds (place ++ i ∷ []) n) (others_stand s.trees place i n ns stand)
        (later ∙ sym (append_assoc front (compounds (place ++ i ∷ []) n) (compounds_from place (suc i) ns ++ after))) are)
        ∙ node_gives (place ++ i ∷ []) n (record { ids = all_shown place (suc i) ns ++ b.ids; lines = map line_at (compounds_from place (suc i) ns ++ after) })
        (compounds_from place (suc i) ns ++ after) front (first_stands s.trees place i n ns stand) later refl
        ∙ ap (λ places. record { ids = shown (place ++ i ∷ []) n ∷ (all_shown place (suc i) ns ++ b.ids); lines = map line_at places })
        (sym (append_assoc (compounds (place ++ i ∷ []) n) (compounds_from place (suc i) ns) after))
      where
        later : compound_places s ≡ front ++ (compounds (place ++ i ∷ []) n ++ (compounds_from place (suc i) ns ++ after))
        later = split ∙ ap (λ places. front ++ places) (append_assoc (compounds (place ++ i ∷ []) n) (compounds_from place (suc i) ns) after)

  -- what is gathered of a whole forest
  whole : gather_all t (by_number t) (total s) (items_from id_at [] 0 s.trees) nothing ≡ record { ids = all_shown [] 0 s.trees ++ []; lines = map line_at (compound_places s ++ []) }
  whole = nodes_give [] 0 s.trees nothing [] [] (roots_stand s.trees) (sym (append-nil (compound_places s))) refl

  -- its lines are those of the solution's file
  pub gathered_lines : (gather_all t (by_number t) (total s) (items_from id_at [] 0 s.trees) nothing).lines ≡ map line_at (compound_places s)
  gathered_lines = ap (λ b. b.lines) whole ∙ ap (map line_at) (append-nil (compound_places s))

  -- and its ids the roots
  pub gathered_roots : somes (gather_all t (by_number t) (total s) (items_from id_at [] 0 s.trees) nothing).ids ≡ ids_of (id_in s) (shown_from [] 0 s.trees)
  gathered_roots = ap (λ b. somes b.ids) whole ∙ ap somes (append-nil (all_shown [] 0 s.trees)) ∙ shown_ids [] 0 s.trees
