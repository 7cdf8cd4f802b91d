use Rattle.std.proofs.Common.{◌≡◌, ◌+◌, ◌≤◌, length, reverse, sym, ap, ◌∙◌, subst}
use Rattle.std.proofs.lemmas.List.{length-map, length-reverse}
use Rattle.htn_ground.specs.Trees.{Numbering, node_of, nodes_view}
use Rattle.htn_walk.specs.Trail.{before_moves, count_before, AreWithin}
use Rattle.htn_walk.proofs.Moves.{before_last, length_before, within_last}
use Rattle.htn_walk.proofs.trail.grow_back.Goals as goal

pub put_back-requires : goal.put_back-requires
put_back-requires c =
    (within_last c.pop.new.self.items c.in-Some.last (length c.loop-last.trees.items)
    (subst (λ l. AreWithin l (length c.loop-last.trees.items)) c.in-Some.ensures.items c.loop-last.invariant.within)).1

pub loop-last-preserved : goal.loop-last-preserved
loop-last-preserved c =
    let old = c.loop-last.trees.items in
    let new = c.put_back.new.trees.items in
    let last = c.in-Some.last in
    let whole = c.in-Some.ensures.items in
    let within = within_last c.pop.new.self.items last (length old) (subst (λ l. AreWithin l (length old)) whole c.loop-last.invariant.within) in
    let none : Numbering = λ g i. 0 in
    let seen = length-map (reverse old) (node_of none) ∙ length-reverse old in
    let long : count_before last (length old) ≡ length new =
    ap (count_before last) (sym seen)
    ∙ sym (length_before none last (nodes_view none (reverse old)) (subst (λ n. last.position + last.children ≤ n) (sym seen) within.1))
    ∙ sym (ap length (c.in_ok-put_back.ensures none)) ∙ length-map (reverse new) (node_of none) ∙ length-reverse new in
    record {
      grown = λ numbers. ap (before_moves numbers c.pop.new.self.items) (c.in_ok-put_back.ensures numbers)
          ∙ sym (before_last numbers c.pop.new.self.items last (nodes_view numbers (reverse old)))
          ∙ ap (λ l. before_moves numbers l (nodes_view numbers (reverse old))) (sym whole)
          ∙ c.loop-last.invariant.grown numbers;
      within = subst (AreWithin c.pop.new.self.items) long within.0;
    }
