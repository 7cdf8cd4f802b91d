use Rattle.std.proofs.Common.{◌≡◌, suc, ◌+◌, ◌*◌, ◌<◌, inl, inr, List, vec_len, [], ◌∷◌, ◌++◌, length, Some, sym, subst, refl, ap, ◌∙◌, arith}
use Rattle.std.proofs.lemmas.Bool.{both_ways, cases_eq, eq-eqb, eqb-true}
use Rattle.std.proofs.lemmas.List.{length-append}
use Rattle.plan_room.specs.Placing.{IsFinish}
use Rattle.plan_room.specs.Memo.{answer, IsOpenBelow}
use Rattle.plan_room.specs.Trials.{IsAsked}
use Rattle.plan_room.specs.Seats.{children_of, LineFits}
use Rattle.plan_room.specs.Frames.{AreStacked, last_size, line_size, missing, StartsAt}
use Rattle.plan_room.specs.declared.rooms.Question.{Question}
use Rattle.plan_room.proofs.Stacked.{popped, starts_popped, starts_pushed, starts_again}
use Rattle.plan_room.proofs.Answered.{both_stacked, deeper, rest_stacked, more_known, fewer_left}
use Rattle.plan_room.proofs.ends.found_end.Goals as goal
use Rattle.plan_room.proofs.ends.found_end.Goals.{in-Never, in-At}

some_left : {X : Type 0} (xs : List X) → (length xs ≡ 0 → ⊥) → 0 < length xs
some_left xs none = elim (cases_eq (length xs) 0) [ inl e ↦ absurd (none e) | inr o ↦ omega arith ]

none_left : {X : Type 0} (xs : List X) → length xs ≡ 0 → xs ≡ []
none_left [] e = refl
none_left (x ∷ xs) e = absurd (omega arith)

pub go_on-requires-clause-frame : goal.go_on-requires-clause-frame
go_on-requires-clause-frame g c =
    let l = g.L.PlanLines.lines c.args.lines.now in
    let top = suc (line_size l c.args.asked.line) in
    let inv = c.loop-frame.invariant in
    let rest = c.pop.new.self.items in
    let frame = c.in-Some.frame in
    let stacked : AreStacked l c.loop-frame.memo top (rest ++ frame ∷ []) = subst (AreStacked l c.loop-frame.memo top) c.in-Some.ensures.items inv.stacked in
    let starts : StartsAt c.args.asked (rest ++ frame ∷ []) = subst (StartsAt c.args.asked) c.in-Some.ensures.items inv.starts in
    (popped l c.loop-frame.memo top rest frame stacked).2

pub loop-frame-smaller-in-Unknown : goal.loop-frame-smaller-in-Unknown
loop-frame-smaller-in-Unknown g c =
    let l = g.L.PlanLines.lines c.args.lines.now in
    let top = suc (line_size l c.args.asked.line) in
    let inv = c.loop-frame.invariant in
    let rest = c.pop.new.self.items in
    let frame = c.in-Some.frame in
    let stacked : AreStacked l c.loop-frame.memo top (rest ++ frame ∷ []) = subst (AreStacked l c.loop-frame.memo top) c.in-Some.ensures.items inv.stacked in
    let starts : StartsAt c.args.asked (rest ++ frame ∷ []) = subst (StartsAt c.args.asked) c.in-Some.ensures.items inv.starts in
    let after = c.go_on.new.self in
    let next = c.in_ok-next-in-Unknown.next in
    let asked : IsOpenBelow l c.loop-frame.memo (children_of l frame.question.line) c.in-Unknown.question =
    subst (IsAsked (IsOpenBelow l c.loop-frame.memo (children_of l frame.question.line))) c.in-Unknown.is c.in_ok-question.ensures.asked in
    let pushed : c.push-in-Unknown-2.new.self.items ≡ (rest ++ after ∷ []) ++ next ∷ [] =
    c.in_ok-push-in-Unknown-2.ensures.items ∙ ap (λ xs. xs ++ next ∷ []) c.in_ok-push-in-Unknown.ensures.items in
    let less = deeper l c.requires.lines c.loop-frame.memo top rest frame after c.in_ok-question.ensures.question stacked c.in_ok-question.ensures.frame c.in-Unknown.question asked
    next c.in_ok-next-in-Unknown.ensures.question c.in_ok-next-in-Unknown.ensures.frame in
    let e = ap (last_size l top) pushed in
    let f = ap (last_size l top) c.in-Some.ensures.items in
    omega arith

pub loop-frame-preserved-in-Unknown : goal.loop-frame-preserved-in-Unknown
loop-frame-preserved-in-Unknown g c =
    let l = g.L.PlanLines.lines c.args.lines.now in
    let top = suc (line_size l c.args.asked.line) in
    let inv = c.loop-frame.invariant in
    let rest = c.pop.new.self.items in
    let frame = c.in-Some.frame in
    let stacked : AreStacked l c.loop-frame.memo top (rest ++ frame ∷ []) = subst (AreStacked l c.loop-frame.memo top) c.in-Some.ensures.items inv.stacked in
    let starts : StartsAt c.args.asked (rest ++ frame ∷ []) = subst (StartsAt c.args.asked) c.in-Some.ensures.items inv.starts in
    let after = c.go_on.new.self in
    let next = c.in_ok-next-in-Unknown.next in
    let asked : IsOpenBelow l c.loop-frame.memo (children_of l frame.question.line) c.in-Unknown.question =
    subst (IsAsked (IsOpenBelow l c.loop-frame.memo (children_of l frame.question.line))) c.in-Unknown.is c.in_ok-question.ensures.asked in
    let pushed : c.push-in-Unknown-2.new.self.items ≡ (rest ++ after ∷ []) ++ next ∷ [] =
    c.in_ok-push-in-Unknown-2.ensures.items ∙ ap (λ xs. xs ++ next ∷ []) c.in_ok-push-in-Unknown.ensures.items in
    record {
      memo = inv.memo;
      some = (let e = ap length pushed in let h = length-append (rest ++ after ∷ []) (next ∷ []) in omega arith);
      starts = subst (StartsAt c.args.asked) (sym pushed)
          (starts_pushed l c.args.asked (rest ++ after ∷ []) next (starts_again l c.args.asked rest frame after c.in_ok-question.ensures.question starts));
      stacked = subst (AreStacked l c.loop-frame.memo top) (sym pushed)
          (both_stacked l c.requires.lines c.loop-frame.memo top rest frame after c.in_ok-question.ensures.question stacked c.in_ok-question.ensures.frame c.in-Unknown.question asked
          next c.in_ok-next-in-Unknown.ensures.question c.in_ok-next-in-Unknown.ensures.frame);
    }

pub returns-then-is_empty-clause-end : goal.returns-then-is_empty-clause-end
returns-then-is_empty-clause-end g c =
    let l = g.L.PlanLines.lines c.args.lines.now in
    let top = suc (line_size l c.args.asked.line) in
    let inv = c.loop-frame.invariant in
    let rest = c.pop.new.self.items in
    let frame = c.in-Some.frame in
    let stacked : AreStacked l c.loop-frame.memo top (rest ++ frame ∷ []) = subst (AreStacked l c.loop-frame.memo top) c.in-Some.ensures.items inv.stacked in
    let starts : StartsAt c.args.asked (rest ++ frame ∷ []) = subst (StartsAt c.args.asked) c.in-Some.ensures.items inv.starts in
    let after = c.go_on.new.self in
    let finish : IsFinish (LineFits l frame.question.line frame.question.gap) l.actions (answer frame.question (Some c.match-branch-4.end)) = elim c.match-branch-4.branch [
      | in-Never w ↦ subst (λ e. IsFinish (LineFits l frame.question.line frame.question.gap) l.actions (answer frame.question (Some e))) (sym w.end-is)
          (subst (IsFinish (LineFits l frame.question.line frame.question.gap) l.actions) w.in-Never.is c.in_ok-question.ensures.finish)
      | in-At w ↦ subst (λ e. IsFinish (LineFits l frame.question.line frame.question.gap) l.actions (answer frame.question (Some e))) (sym w.end-is)
          (subst (IsFinish (LineFits l frame.question.line frame.question.gap) l.actions) w.in-At.is c.in_ok-question.ensures.finish)
    ] in
    let none : length rest ≡ 0 = (let o = c.pop.new.self.ok.0 in let e = eqb-true (vec_len c.pop.new.self) 0 (sym c.is_empty.ensures ∙ c.if-is_empty.true) in omega arith) in
    let root : frame.question ≡ c.args.asked = (starts_popped l c.args.asked rest frame starts).0 (none_left rest none) in
    subst (λ (q : Question). IsFinish (LineFits l q.line q.gap) l.actions (answer q (Some c.match-branch-4.end))) root finish

pub loop-frame-smaller : goal.loop-frame-smaller
loop-frame-smaller g c =
    let l = g.L.PlanLines.lines c.args.lines.now in
    let top = suc (line_size l c.args.asked.line) in
    let inv = c.loop-frame.invariant in
    let rest = c.pop.new.self.items in
    let frame = c.in-Some.frame in
    let stacked : AreStacked l c.loop-frame.memo top (rest ++ frame ∷ []) = subst (AreStacked l c.loop-frame.memo top) c.in-Some.ensures.items inv.stacked in
    let starts : StartsAt c.args.asked (rest ++ frame ∷ []) = subst (StartsAt c.args.asked) c.in-Some.ensures.items inv.starts in
    let after = c.go_on.new.self in
    let finish : IsFinish (LineFits l frame.question.line frame.question.gap) l.actions (answer frame.question (Some c.match-branch-4.end)) = elim c.match-branch-4.branch [
      | in-Never w ↦ subst (λ e. IsFinish (LineFits l frame.question.line frame.question.gap) l.actions (answer frame.question (Some e))) (sym w.end-is)
          (subst (IsFinish (LineFits l frame.question.line frame.question.gap) l.actions) w.in-Never.is c.in_ok-question.ensures.finish)
      | in-At w ↦ subst (λ e. IsFinish (LineFits l frame.question.line frame.question.gap) l.actions (answer frame.question (Some e))) (sym w.end-is)
          (subst (IsFinish (LineFits l frame.question.line frame.question.gap) l.actions) w.in-At.is c.in_ok-question.ensures.finish)
    ] in
    let some : 0 < length rest = some_left rest (λ none. both_ways c.is_empty.result c.if-is_empty.false (c.is_empty.ensures ∙ eq-eqb (vec_len c.pop.new.self) 0 (let o = c.pop.new.self.ok.0 in omega arith))) in
    subst (λ frames. missing l c.note.new.self * top + last_size l top rest < missing l c.loop-frame.memo * top + last_size l top frames) (sym c.in-Some.ensures.items)
    (fewer_left l c.requires.lines c.loop-frame.memo top rest frame after c.in_ok-question.ensures.question stacked c.in_ok-question.ensures.frame c.note.new.self c.match-branch-4.end c.in_ok-note.ensures.noted some)

pub loop-frame-preserved : goal.loop-frame-preserved
loop-frame-preserved g c =
    let l = g.L.PlanLines.lines c.args.lines.now in
    let top = suc (line_size l c.args.asked.line) in
    let inv = c.loop-frame.invariant in
    let rest = c.pop.new.self.items in
    let frame = c.in-Some.frame in
    let stacked : AreStacked l c.loop-frame.memo top (rest ++ frame ∷ []) = subst (AreStacked l c.loop-frame.memo top) c.in-Some.ensures.items inv.stacked in
    let starts : StartsAt c.args.asked (rest ++ frame ∷ []) = subst (StartsAt c.args.asked) c.in-Some.ensures.items inv.starts in
    let after = c.go_on.new.self in
    let finish : IsFinish (LineFits l frame.question.line frame.question.gap) l.actions (answer frame.question (Some c.match-branch-4.end)) = elim c.match-branch-4.branch [
      | in-Never w ↦ subst (λ e. IsFinish (LineFits l frame.question.line frame.question.gap) l.actions (answer frame.question (Some e))) (sym w.end-is)
          (subst (IsFinish (LineFits l frame.question.line frame.question.gap) l.actions) w.in-Never.is c.in_ok-question.ensures.finish)
      | in-At w ↦ subst (λ e. IsFinish (LineFits l frame.question.line frame.question.gap) l.actions (answer frame.question (Some e))) (sym w.end-is)
          (subst (IsFinish (LineFits l frame.question.line frame.question.gap) l.actions) w.in-At.is c.in_ok-question.ensures.finish)
    ] in
    let some : 0 < length rest = some_left rest (λ none. both_ways c.is_empty.result c.if-is_empty.false (c.is_empty.ensures ∙ eq-eqb (vec_len c.pop.new.self) 0 (let o = c.pop.new.self.ok.0 in omega arith))) in
    record {
      memo = more_known l c.requires.lines c.loop-frame.memo top rest frame after c.in_ok-question.ensures.question stacked c.in_ok-question.ensures.frame c.note.new.self c.match-branch-4.end c.in_ok-note.ensures.noted finish inv.memo;
      some = some;
      starts = (starts_popped l c.args.asked rest frame starts).1 some;
      stacked = rest_stacked l c.requires.lines c.loop-frame.memo top rest frame after c.in_ok-question.ensures.question stacked c.in_ok-question.ensures.frame c.note.new.self c.match-branch-4.end c.in_ok-note.ensures.noted;
    }
