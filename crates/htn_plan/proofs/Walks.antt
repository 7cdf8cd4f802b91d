-- Steps of a walk through a forest.
use Rattle.std.proofs.Common.{◌≡◌, ℕ, zero, suc, ◌+◌, ◌-◌, ◌<◌, ◌≤◌, List, [], ◌∷◌, ◌++◌, length, map, drop, reverse, slice_index_or, Option, refl, ap, ap₂, sym, ◌∙◌, append_assoc, arith}
use Rattle.htn_ground.specs.declared.node.Node.{Node as RustNode}
use Rattle.htn_ground.specs.Trees.{Numbering, node_of, nodes_view}
use Rattle.htn_model.specs.Problem.{GroundTask}
use Rattle.htn_model.specs.Tree.{Node, compound, Nodes, no_nodes, node, nodes_of, Place, size, total_size}
use Rattle.htn_plan.specs.declared.preorder.Frame.{Frame}
use Rattle.htn_plan.specs.declared.preorder.Item.{Item}
use Rattle.htn_plan.specs.Preorder as spec
use Rattle.htn_plan.specs.Preorder.{items, items_from, task}
use Rattle.htn_plan.specs.Walk.{Level, level_of, place_of, pending, steps_left}
use Rattle.htn_plan.specs.Items.{item_of, items_of, levels_of, numbered_item, numbered_items}
use Rattle.htn_plan.proofs.Forests.{as_many}
use Rattle.htn_plan.proofs.Lists.{reverse_front, reverse_last, map_join, drop_map}

module _ (numbers : Numbering) where
  -- one more item
  numbered_join : (old : List Item) (item : Item) → numbered_items numbers (old ++ item ∷ []) ≡ numbered_items numbers old ++ numbered_item numbers (item_of item) ∷ []
  numbered_join old item = ap (map (numbered_item numbers)) (map_join item_of old (item ∷ [])) ∙ map_join (numbered_item numbers) (items_of old) (item_of item ∷ [])

  -- one frame more is one level more
  pub levels_push : (frames : List Frame) (f : Frame) → levels_of numbers (frames ++ f ∷ []) ≡ level_of numbers f ∷ levels_of numbers frames
  levels_push frames f = ap (map (level_of numbers)) (reverse_last frames f)

  -- ## The place that was taken last

  -- the place of one level more
  place_of_last : (ls : List Level) (l : Level) → place_of (ls ++ l ∷ []) ≡ (l.taken - 1) ∷ place_of ls
  place_of_last [] l = refl
  place_of_last (x ∷ ls) l = ap (λ p. p ++ (x.taken - 1) ∷ []) (place_of_last ls l)

  -- the place at which the frames stand
  pub place_by_frames : (frames : List Frame) → map (λ f. f.taken - 1) frames ≡ place_of (levels_of numbers frames)
  place_by_frames [] = refl
  place_by_frames (f ∷ frames) =
      ap (λ p. (f.taken - 1) ∷ p) (place_by_frames frames)
      ∙ sym (place_of_last (levels_of numbers frames) (level_of numbers f))
      ∙ sym (ap place_of (ap (map (level_of numbers)) (reverse_front f frames) ∙ map_join (level_of numbers) (reverse frames) (f ∷ [])))

  -- ## A node without children

  -- an action or a step is visited by one item
  pub simple_visited : (id_at : Place → Option ℕ) (frames : List Frame) (old new : List Item) (item : Item) (n : Node) → new ≡ old ++ item ∷ []
      → items id_at (place_of (levels_of numbers frames)) n ≡ numbered_item numbers (item_of item) ∷ []
      → numbered_items numbers new ++ pending id_at (levels_of numbers frames)
      ≡ numbered_items numbers old ++ items id_at (place_of (levels_of numbers frames)) n ++ pending id_at (levels_of numbers frames)
  simple_visited id_at frames old new item n noted is =
      ap (λ xs. xs ++ pending id_at (levels_of numbers frames)) (ap (numbered_items numbers) noted ∙ numbered_join old item ∙ ap (λ xs. numbered_items numbers old ++ xs) (sym is))

  -- ## A compound node

  module _ (frames after : List Frame) (f : Frame) (g : GroundTask) (number : ℕ) (children : List RustNode)
      (pushed : after ≡ frames ++ f ∷ []) (level : level_of numbers f ≡ record { taken = 0; rest = nodes_of (nodes_view numbers children) }) where
    -- the levels after a node is entered
    levels : levels_of numbers after ≡ record { taken = 0; rest = nodes_of (nodes_view numbers children) } ∷ levels_of numbers frames
    levels = ap (levels_of numbers) pushed ∙ levels_push frames f ∙ ap (λ l. l ∷ levels_of numbers frames) level

    -- the items of what is left behind it
    abbrev behind : (Place → Option ℕ) → List (spec.Item ℕ)
    behind id_at = items_from id_at (place_of (levels_of numbers frames)) 0 (nodes_of (nodes_view numbers children)) ++ pending id_at (levels_of numbers frames)

    -- a compound node is visited by its item, and then its children are
    pub compound_visited : (id_at : Place → Option ℕ) (old new : List Item) (item : Item) → new ≡ old ++ item ∷ [] → numbered_item numbers (item_of item) ≡ task g number (length children)
        → numbered_items numbers new ++ pending id_at (levels_of numbers after)
        ≡ numbered_items numbers old ++ items id_at (place_of (levels_of numbers frames)) (compound g number (nodes_of (nodes_view numbers children))) ++ pending id_at (levels_of numbers frames)
    compound_visited id_at old new item noted is =
        ap (λ ls. numbered_items numbers new ++ pending id_at ls) levels
        ∙ ap (λ xs. xs ++ behind id_at) (ap (numbered_items numbers) noted ∙ numbered_join old item)
        ∙ append_assoc (numbered_items numbers old) (numbered_item numbers (item_of item) ∷ []) (behind id_at)
        ∙ ap (λ x. numbered_items numbers old ++ (x ∷ behind id_at)) (is ∙ ap (task g number) (sym (as_many numbers children)))
        ∙ sym (append_assoc (numbered_items numbers old) (items id_at (place_of (levels_of numbers frames)) (compound g number (nodes_of (nodes_view numbers children)))) (pending id_at (levels_of numbers frames)))

    -- fewer steps are left
    pub compound_fewer : steps_left (levels_of numbers after) < suc (total_size (nodes_of (nodes_view numbers children))) + suc (total_size (nodes_of (nodes_view numbers children))) + steps_left (levels_of numbers frames)
    compound_fewer = let e = ap steps_left levels in omega (arith, e)

  -- ## A child

  module _ (old left : List Frame) (f : Frame) (popped : old ≡ left ++ f ∷ []) where
    -- the last frame is the top level
    top : levels_of numbers old ≡ level_of numbers f ∷ levels_of numbers left
    top = ap (levels_of numbers) popped ∙ levels_push left f

    -- no child is left
    module _ (none : length f.children.now ≤ f.taken) where
      no_rest : nodes_of (drop f.taken (nodes_view numbers f.children.now)) ≡ no_nodes
      no_rest = ap nodes_of (drop_end f.taken f.children.now none)
        where
          drop_end : (k : ℕ) (xs : List RustNode) → length xs ≤ k → drop k (nodes_view numbers xs) ≡ []
          drop_end zero [] h = refl
          drop_end (suc k) [] h = refl
          drop_end zero (x ∷ xs) h = absurd (omega arith)
          drop_end (suc k) (x ∷ xs) h = drop_end k xs (omega arith)

      pub end_pending : (id_at : Place → Option ℕ) → pending id_at (levels_of numbers old) ≡ pending id_at (levels_of numbers left)
      end_pending id_at =
          ap (pending id_at) top ∙ ap (λ ns. items_from id_at (place_of (levels_of numbers left)) f.taken ns ++ pending id_at (levels_of numbers left)) no_rest

      pub end_fewer : steps_left (levels_of numbers left) < steps_left (levels_of numbers old)
      end_fewer = let e = ap steps_left top in omega (arith, e)

    -- the next child is taken
    module _ (n : RustNode) (within : f.taken < length f.children.now) (is : n ≡ slice_index_or f.children.now f.taken n)
        (again : List Frame) (next : Frame) (pushed : again ≡ left ++ next ∷ [])
        (level : level_of numbers next ≡ record { taken = f.taken + 1; rest = nodes_of (drop (f.taken + 1) (nodes_view numbers f.children.now)) }) where
      abbrev after : Nodes
      after = nodes_of (drop (suc f.taken) (nodes_view numbers f.children.now))

      rest_is : nodes_of (drop f.taken (nodes_view numbers f.children.now)) ≡ node (node_of numbers n) after
      rest_is = ap nodes_of (drop_map (node_of numbers) f.children.now f.taken n within is)

      one_more : f.taken + 1 ≡ suc f.taken
      one_more = omega arith

      again_top : levels_of numbers again ≡ record { taken = suc f.taken; rest = after } ∷ levels_of numbers left
      again_top =
          ap (levels_of numbers) pushed ∙ levels_push left next
          ∙ ap (λ l. l ∷ levels_of numbers left) (level ∙ ap (λ k. record { taken = k; rest = nodes_of (drop k (nodes_view numbers f.children.now)) }) one_more)

      pub child_pending : (id_at : Place → Option ℕ) → pending id_at (levels_of numbers old) ≡ items id_at (place_of (levels_of numbers again)) (node_of numbers n) ++ pending id_at (levels_of numbers again)
      child_pending id_at =
          ap (pending id_at) top
          ∙ ap (λ ns. items_from id_at (place_of (levels_of numbers left)) f.taken ns ++ pending id_at (levels_of numbers left)) rest_is
          ∙ append_assoc (items id_at (place_of (levels_of numbers left) ++ f.taken ∷ []) (node_of numbers n)) (items_from id_at (place_of (levels_of numbers left)) (suc f.taken) after) (pending id_at (levels_of numbers left))
          ∙ sym (ap₂ (λ p xs. items id_at p (node_of numbers n) ++ xs) place (ap (pending id_at) again_top))
        where
          place : place_of (levels_of numbers again) ≡ place_of (levels_of numbers left) ++ f.taken ∷ []
          place = let same : suc f.taken - 1 ≡ f.taken = omega arith in ap place_of again_top ∙ ap (λ k. place_of (levels_of numbers left) ++ k ∷ []) same

      pub child_fewer : size (node_of numbers n) + size (node_of numbers n) + steps_left (levels_of numbers again) ≡ steps_left (levels_of numbers old)
      child_fewer =
          let a = ap steps_left top in
          let b = ap total_size rest_is in
          let c = ap steps_left again_top in
          omega (arith, a, b, c)
