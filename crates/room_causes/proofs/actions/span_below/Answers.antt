use Rattle.std.proofs.Common.{◌≡◌, ◌<◌, ◌≤◌, ◌∷◌, ◌++◌, ◌+◌, vec_len, length, [], inl, inr, refl, sym, subst, ap, ◌∙◌, arith}
use Rattle.std.specs.Option.{MatchOption}
use Rattle.htn_model.specs.PlanFile.{IsIn}
use Rattle.plan_room.specs.Frames.{plans_size}
use Rattle.plan_room.specs.Lines.{plans_of}
use Rattle.room_causes.proofs.Below.{IsHere, IsSeen, in_left, in_right, in_either, child_of_here, smaller_action, smaller_children, seen_action, seen_children, all_seen, none_left}
use Rattle.room_causes.proofs.actions.span_below.Goals as goal

pub loop-next-smaller-then-next-actions : goal.loop-next-smaller-then-next-actions
loop-next-smaller-then-next-actions g c =
    let l = g.L.PlanLines.lines c.args.lines.now in
    subst (λ xs. plans_size (plans_of l.plan_of c.pop.new.self.items) < plans_size (plans_of l.plan_of xs)) (sym c.in-Some.ensures.items)
    (smaller_action l c.requires.lines c.args.line c.in-Some.next c.pop.new.self.items)

pub loop-next-preserved-then-next-actions : goal.loop-next-preserved-then-next-actions
loop-next-preserved-then-next-actions g c =
    let l = g.L.PlanLines.lines c.args.lines.now in
    let rest = c.pop.new.self.items in
    let next = c.in-Some.next in
    let here : IsHere l c.args.line next = c.loop-next.invariant.here next (subst (IsIn next) (sym c.in-Some.ensures.items) (in_right next rest (next ∷ []) (inl refl))) in
    record {
      here = λ x there. c.loop-next.invariant.here x (subst (IsIn x) (sym c.in-Some.ensures.items) (in_left x rest (next ∷ []) there));
      seen = seen_action l c.requires.lines c.args.line next rest c.loop-next.span c.widened.result here (let s = c.if-next-actions.true in let e = c.actions-actions.ensures in omega arith) c.widened.ensures
          (subst (λ xs. IsSeen l c.args.line xs c.loop-next.span) c.in-Some.ensures.items c.loop-next.invariant.seen);
    }

pub children-requires : goal.children-requires
children-requires g c =
    let l = g.L.PlanLines.lines c.args.lines.now in
    let rest = c.pop.new.self.items in
    let next = c.in-Some.next in
    let here : IsHere l c.args.line next = c.loop-next.invariant.here next (subst (IsIn next) (sym c.in-Some.ensures.items) (in_right next rest (next ∷ []) (inl refl))) in
    ((let s = c.if-next-actions.false in let e = c.actions-actions.ensures in omega arith), here.0)

pub loop-next-smaller : goal.loop-next-smaller
loop-next-smaller g c =
    let l = g.L.PlanLines.lines c.args.lines.now in
    let rest = c.pop.new.self.items in
    let next = c.in-Some.next in
    let here : IsHere l c.args.line next = c.loop-next.invariant.here next (subst (IsIn next) (sym c.in-Some.ensures.items) (in_right next rest (next ∷ []) (inl refl))) in
    let high : l.actions ≤ next = (let s = c.if-next-actions.false in let e = c.actions-actions.ensures in omega arith) in
    let now : c.extend_from_slice.new.self.items ≡ rest ++ l.children next = c.in_ok-extend_from_slice.ensures.items ∙ ap (λ xs. rest ++ xs) c.children.ensures in
    let less = smaller_children l c.requires.lines c.args.line next rest here.0 high in
    let e = ap (λ xs. plans_size (plans_of l.plan_of xs)) now in
    let f = ap (λ xs. plans_size (plans_of l.plan_of xs)) c.in-Some.ensures.items in
    omega arith

pub loop-next-preserved : goal.loop-next-preserved
loop-next-preserved g c =
    let l = g.L.PlanLines.lines c.args.lines.now in
    let rest = c.pop.new.self.items in
    let next = c.in-Some.next in
    let here : IsHere l c.args.line next = c.loop-next.invariant.here next (subst (IsIn next) (sym c.in-Some.ensures.items) (in_right next rest (next ∷ []) (inl refl))) in
    let high : l.actions ≤ next = (let s = c.if-next-actions.false in let e = c.actions-actions.ensures in omega arith) in
    let now : c.extend_from_slice.new.self.items ≡ rest ++ l.children next = c.in_ok-extend_from_slice.ensures.items ∙ ap (λ xs. rest ++ xs) c.children.ensures in
    record {
      here = λ x there. elim (in_either x rest (l.children next) (subst (IsIn x) now there)) [
        | inl waits ↦ c.loop-next.invariant.here x (subst (IsIn x) (sym c.in-Some.ensures.items) (in_left x rest (next ∷ []) waits))
        | inr listed ↦ child_of_here l c.requires.lines c.args.line next x here high listed
      ];
      seen = subst (λ xs. IsSeen l c.args.line xs c.loop-next.span) (sym now)
          (seen_children l c.requires.lines c.args.line next rest c.loop-next.span here.0 high (subst (λ xs. IsSeen l c.args.line xs c.loop-next.span) c.in-Some.ensures.items c.loop-next.invariant.seen));
    }

pub returns : goal.returns
returns g c =
    let l = g.L.PlanLines.lines c.args.lines.now in
    let waiting = c.loop-next.waiting.items in
    let empty = subst (λ o. MatchOption o (vec_len c.loop-next.waiting ≡ 0 × vec_len c.pop.new.self ≡ 0) (λ x. vec_len c.pop.new.self + 1 ≡ vec_len c.loop-next.waiting)) c.in_default.is c.pop.ensures.cases in
    let none : length waiting ≡ 0 = (let o = c.loop-next.waiting.ok.0 in let e = empty.0 in omega arith) in
    all_seen l c.requires.lines c.args.line c.loop-next.span (subst (λ xs. IsSeen l c.args.line xs c.loop-next.span) (none_left waiting none) c.loop-next.invariant.seen)
