use Rattle.std.proofs.Common.{◌≡◌, ◌<◌, List, [], ◌∷◌, ◌++◌, ◌∙◌, length, append_assoc, append-nil, refl, sym, ap, arith}
use Rattle.htn_ground.specs.Trees.{Numbering, node_of}
use Rattle.htn_plan.specs.Ids.{id_of}
use Rattle.htn_plan.specs.Items.{levels_of, numbered_items}
use Rattle.htn_plan.specs.Preorder.{items}
use Rattle.htn_plan.specs.Walk.{pending, place_of, steps_left}
use Rattle.htn_plan.proofs.Walks.{child_pending, child_fewer, end_pending}
use Rattle.htn_plan.proofs.preorder.preorder.Goals as goal

-- no numbers
abbrev none : Numbering
none = λ g instance. 0

pub loop-frame-smaller-in-Continue-branch-3 : goal.loop-frame-smaller-in-Continue-branch-3
loop-frame-smaller-in-Continue-branch-3 c =
    let h = c.in-Some-get.ensures.lookup in
    let e = child_fewer none c.loop-frame.frames.items c.pop.new.self.items c.in-Some.frame c.in-Some.ensures.items
    c.in-Some-get.node.now h.3.0 h.1 c.push-in-Some-get.new.self.items _ c.in_ok-push-2.ensures.items refl in
    let less = c.in_ok-visit.ensures.fewer none in
    let d : steps_left (levels_of none c.visit.new.frames.items) < steps_left (levels_of none c.loop-frame.frames.items) = omega (arith, e, less) in
    d

pub loop-frame-preserved-in-Continue-branch-3 : goal.loop-frame-preserved-in-Continue-branch-3
loop-frame-preserved-in-Continue-branch-3 c = λ numbers.
    let h = c.in-Some-get.ensures.lookup in
    c.in_ok-visit.ensures.items numbers
    ∙ append_assoc (numbered_items numbers c.loop-frame.items.items) (items (id_of c.args.ids.now) (place_of (levels_of numbers c.push-in-Some-get.new.self.items)) (node_of numbers c.in-Some-get.node.now)) (pending (id_of c.args.ids.now) (levels_of numbers c.push-in-Some-get.new.self.items))
    ∙ ap (λ xs. numbered_items numbers c.loop-frame.items.items ++ xs) (sym (child_pending numbers c.loop-frame.frames.items c.pop.new.self.items c.in-Some.frame c.in-Some.ensures.items
    c.in-Some-get.node.now h.3.0 h.1 c.push-in-Some-get.new.self.items _ c.in_ok-push-2.ensures.items refl (id_of c.args.ids.now)))
    ∙ c.loop-frame.invariant numbers

pub loop-frame-preserved : goal.loop-frame-preserved
loop-frame-preserved c = λ numbers.
    ap (λ xs. numbered_items numbers c.loop-frame.items.items ++ xs)
    (sym (end_pending numbers c.loop-frame.frames.items c.pop.new.self.items c.in-Some.frame c.in-Some.ensures.items c.in_default-get.ensures.lookup.3 (id_of c.args.ids.now)))
    ∙ c.loop-frame.invariant numbers

nothing : {X : Type 0} (xs : List X) → length xs ≡ 0 → xs ≡ []
nothing [] h = refl
nothing (x ∷ xs) h = absurd (omega (arith, h))

pub returns : goal.returns
returns c = λ numbers.
    let empty : c.pop.new.self.items ≡ [] = nothing c.pop.new.self.items (sym c.pop.new.self.ok.0 ∙ c.in_default.ensures.cases.1) in
    let whole : c.loop-frame.frames.items ≡ [] = c.in_default.ensures.items ∙ ap (λ frames. frames ++ []) empty in
    sym (append-nil (numbered_items numbers c.loop-frame.items.items))
    ∙ ap (λ frames. numbered_items numbers c.loop-frame.items.items ++ pending (id_of c.args.ids.now) (levels_of numbers frames)) (sym whole)
    ∙ c.loop-frame.invariant numbers
