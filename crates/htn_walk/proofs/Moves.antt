-- Moves taken back from the last one on.
use Rattle.std.proofs.Common.{◌≡◌, ℕ, ◌+◌, ◌-◌, ◌≤◌, List, [], ◌∷◌, ◌++◌, length, take, drop, reverse, sym, refl, ap, ap₂, ◌∙◌, subst, arith}
use Rattle.std.proofs.lemmas.List.{length-append, length-drop, length-reverse, map-append, take-map, drop-map, take_at, drop_at, length-take-le}
use Rattle.std.specs.List.{insert}
use Rattle.htn_model.specs.Tree as tree
use Rattle.htn_ground.specs.declared.node.Node.{Node}
use Rattle.htn_ground.specs.Trees.{Numbering, node_of, nodes_view, over}
use Rattle.htn_walk.specs.declared.trail.Move.{Move}
use Rattle.htn_walk.specs.Trail.{before_move, before_moves, count_before, count_before_all, AreWithin}
use Rattle.htn_walk.proofs.Reversed.{inserted}

-- ## The last move

-- the count before all moves, the last one first
count_last : (moves : List Move) (last : Move) (count : ℕ) → count_before_all (moves ++ last ∷ []) count ≡ count_before_all moves (count_before last count)
count_last [] last count = refl
count_last (m ∷ moves) last count = ap (count_before m) (count_last moves last count)

-- the last move is within, and those before it are
pub within_last : (moves : List Move) (last : Move) (count : ℕ) → AreWithin (moves ++ last ∷ []) count → AreWithin moves (count_before last count) × (last.position + last.children ≤ count)
within_last [] last count h = (tt, h.0)
within_last (m ∷ moves) last count h =
    let rest = within_last moves last count h.1 in
    ((subst (λ n. m.position + m.children ≤ n) (count_last moves last count) h.0, rest.0), rest.1)

-- one more move that is within
pub within_push : (moves : List Move) (last : Move) (count : ℕ) → AreWithin moves (count_before last count) → last.position + last.children ≤ count → AreWithin (moves ++ last ∷ []) count
within_push [] last count h g = (g, tt)
within_push (m ∷ moves) last count h g = (subst (λ n. m.position + m.children ≤ n) (sym (count_last moves last count)) h.0, within_push moves last count h.1 g)

-- ## The trees

module _ (numbers : Numbering) where
  -- the trees before all moves, the last one taken back first
  pub before_last : (moves : List Move) (last : Move) (trees : List tree.Node) → before_moves numbers (moves ++ last ∷ []) trees ≡ before_moves numbers moves (before_move numbers last trees)
  before_last [] last trees = refl
  before_last (m ∷ moves) last trees = ap (before_move numbers m) (before_last moves last trees)

  -- how many trees there are before a move
  pub length_before : (m : Move) (trees : List tree.Node) → m.position + m.children ≤ length trees → length (before_move numbers m trees) ≡ count_before m (length trees)
  length_before m trees h =
      let node = over (node_of numbers m.node) (take m.children (drop m.position trees)) in
      let both = length-append (take m.position trees) (node ∷ drop (m.position + m.children) trees) in
      let front = length-take-le m.position trees (omega arith) in
      let back = length-drop (m.position + m.children) trees in
      omega (arith, both, front, back, h)

  -- a move is taken back by putting its node over the trees of its children
  put_over : (old row left out : List Node) (new : Node) (m : Move) → m.position + m.children ≤ length old
      → row ≡ take m.children (drop m.position old) → left ≡ take m.position old ++ drop (m.position + m.children) old
      → out ≡ insert left m.position new
      → node_of numbers new ≡ over (node_of numbers m.node) (nodes_view numbers row)
      → nodes_view numbers out ≡ before_move numbers m (nodes_view numbers old)
  put_over old row left out new m h r l o n =
      let i = m.position in
      let later = drop (i + m.children) old in
      let long = length-take-le i old (omega arith) in
      let front : take i left ≡ take i old = ap (take i) l ∙ take_at (take i old) later i long in
      let back : drop i left ≡ later = ap (drop i) l ∙ drop_at (take i old) later i long in
      let inner : nodes_view numbers row ≡ take m.children (drop i (nodes_view numbers old)) =
      ap (nodes_view numbers) r ∙ sym (take-map (node_of numbers) m.children (drop i old)) ∙ ap (take m.children) (sym (drop-map (node_of numbers) i old)) in
      ap (nodes_view numbers) o
      ∙ map-append (node_of numbers) (take i left) (new ∷ drop i left)
      ∙ ap₂ ◌++◌ (ap (nodes_view numbers) front ∙ sym (take-map (node_of numbers) i old))
      (ap₂ ◌∷◌ (n ∙ ap (over (node_of numbers m.node)) inner) (ap (nodes_view numbers) back ∙ sym (drop-map (node_of numbers) (i + m.children) old)))

  -- the same where the trees are kept from the last to the first
  pub put_back : (old row left out : List Node) (new : Node) (m : Move) (at : ℕ) → m.position + m.children ≤ length old
      → row ≡ take m.children (drop m.position (reverse old)) → reverse left ≡ take m.position (reverse old) ++ drop (m.position + m.children) (reverse old)
      → at ≡ length left - m.position → out ≡ insert left at new
      → node_of numbers new ≡ over (node_of numbers m.node) (nodes_view numbers row)
      → nodes_view numbers (reverse out) ≡ before_move numbers m (nodes_view numbers (reverse old))
  put_back old row left out new m at h r l is o n =
      let i = m.position in
      let within : i + m.children ≤ length (reverse old) = (let e = length-reverse old in omega arith) in
      let both = length-append (take i (reverse old)) (drop (i + m.children) (reverse old)) in
      let front = length-take-le i (reverse old) (omega arith) in
      let kept = length-reverse left in
      let long : at + i ≡ length left = omega (arith, ap length l, both, front, kept, is) in
      put_over (reverse old) row (reverse left) (reverse out) new m within r l (ap reverse o ∙ inserted left at i new long) n
