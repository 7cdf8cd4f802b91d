use Rattle.std.proofs.Common.{◌<◌, ℕ, length, get_or, sym, subst, arith}
use Rattle.std.specs.Cow.{cow_slice_items}
use Rattle.std.proofs.lemmas.Bool.{lt-ltb, le-ltb}
use Rattle.plan_room.specs.Bound.{IsLower}
use Rattle.plan_room.specs.Lines.{AreCandidates, networks_of}
use Rattle.plan_room.specs.Seats.{children_at, children_of, IsOneAt, IsOneOf}
use Rattle.plan_room.proofs.Unrolled.{child_low}
use Rattle.plan_room.proofs.frames.frame_of.Goals as goal
use Rattle.plan_room.proofs.frames.frame_of.Goals.{then-question-count+in_ok-networks, else-question-count+in_ok-initials}

pub least_end-least-requires-clause-low : goal.least_end-least-requires-clause-low
least_end-least-requires-clause-low g c =
    let l = g.L.PlanLines.lines c.args.lines.now in
    subst (λ cs. (i : ℕ) → i < length cs → get_or cs i 0 < l.count) (sym c.children_of-children.ensures)
    (λ i low. child_low l c.requires.lines c.args.question.line i c.requires.line low)

pub returns-clause-frame : goal.returns-clause-frame
returns-clause-frame g c =
    let l = g.L.PlanLines.lines c.args.lines.now in
    let i = c.args.question.line in
    record {
      line = c.requires.line;
      within = c.requires.within;
      candidates = elim c.if-question-count.branch [
        | then-question-count+in_ok-networks w ↦ subst (λ v. AreCandidates l (IsOneOf l i) (children_of l i) (networks_of (cow_slice_items v))) (sym w.networks-is)
            (subst (λ b. AreCandidates l (IsOneAt b l i) (children_at b l i) (networks_of (cow_slice_items w.in_ok-networks.networks)))
            (sym (lt-ltb i l.count (let e = c.count.ensures in let f = w.if-question-count.true in omega arith))) w.in_ok-networks.ensures)
        | else-question-count+in_ok-initials w ↦ subst (λ v. AreCandidates l (IsOneOf l i) (children_of l i) (networks_of (cow_slice_items v))) (sym w.networks-is)
            (subst (λ b. AreCandidates l (IsOneAt b l i) (children_at b l i) (networks_of w.in_ok-initials.field-0.items))
            (sym (le-ltb i l.count (let e = c.count.ensures in let f = w.if-question-count.false in omega arith))) w.in_ok-initials.ensures)
      ];
      low = omega arith;
      found = tt;
      none_better = λ h low some. absurd (let less = some.1 in omega arith);
      lower = subst (λ cs. IsLower l cs c.args.question.gap c.least_end-least.result) c.children_of-children.ensures c.least_end-least.ensures;
      work = λ instance is. tt;
    }
