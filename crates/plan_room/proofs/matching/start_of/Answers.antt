use Rattle.std.proofs.Common.{◌≡◌, ◌≤◌, ◌-◌, suc, get_or, true, false, ap, sym, subst, ◌∙◌, arith}
use Rattle.std.proofs.lemmas.Bool.{both_ways}
use Rattle.std.proofs.lemmas.List.{get_or_default}
use Rattle.htn_model.specs.Problem.{is_before}
use Rattle.plan_room.specs.Matching.{IsTop}
use Rattle.plan_room.proofs.Searched.{size_is}
use Rattle.plan_room.proofs.Started.{IsStartFrom, begun, raised, started}
use Rattle.plan_room.proofs.matching.start_of.Goals as goal
use Rattle.plan_room.proofs.matching.start_of.Goals.{else-start-index-2-via-then-start-index-2+else-is_before, else-start-index-2-via-else-start-index-2}

pub loop-place-init : goal.loop-place-init
loop-place-init g c =
    let w = g.C.Choices.seating c.args.choices.now in
    let t = c.args.trial.now in
    let ahead = c.ahead-sure.ensures in
    let sure = c.ahead-sure.result.0 in
    let low : sure ≤ t.depth = (let e = ahead.own t.depth c.requires.low (sym c.requires.next) in let f = ahead.low in omega arith) in
    let link = get_or_default t.highs.items sure c.index-start.result.now 0 (let z = c.requires.tried.noted.sizes in let l = c.requires.low in omega arith) in
    let read : get_or t.highs.items sure 0 ≡ c.index-start.result.now = sym link ∙ sym c.index-start.ensures in
    record {
      so = begun w t.finishes.items t.depth c.args.position sure c.ahead-sure.result.1 c.index-start.result.now ahead c.requires.low c.requires.next
          (subst (IsTop w.sequence t.finishes.items w.gap sure) read (c.requires.tried.noted.tops sure low));
      high = (let r = read in omega arith);
      within = ahead.own t.depth c.requires.low (sym c.requires.next);
    }

pub index-requires-in-loop-place : goal.index-requires-in-loop-place
index-requires-in-loop-place g c =
    let w = g.C.Choices.seating c.args.choices.now in
    let t = c.args.trial.now in
    let s = c.requires.tried.searched in
    let p = c.loop-place.place - 1 in
    let e = ap (λ xs. get_or xs p 0) c.sequence-sequence.ensures in
    let inside = c.requires.seating.sequence.within p (let l = c.loop-place.invariant.within in let f = c.requires.low in omega arith) in
    let size = size_is w c.requires.seating t.chosen.items t.finishes.items t.depth t.next t.best s in let v = t.finishes.ok.0 in omega arith

pub index-start-requires-then-is_before : goal.index-start-requires-then-is_before
index-start-requires-then-is_before g c =
    let w = g.C.Choices.seating c.args.choices.now in
    let t = c.args.trial.now in
    let s = c.requires.tried.searched in
    let p = c.loop-place.place - 1 in
    let e = ap (λ xs. get_or xs p 0) c.sequence-sequence.ensures in
    let inside = c.requires.seating.sequence.within p (let l = c.loop-place.invariant.within in let f = c.requires.low in omega arith) in
    let size = size_is w c.requires.seating t.chosen.items t.finishes.items t.depth t.next t.best s in let v = t.finishes.ok.0 in omega arith

pub loop-place-preserved-then-is_before : goal.loop-place-preserved-then-is_before
loop-place-preserved-then-is_before g c =
    let w = g.C.Choices.seating c.args.choices.now in
    let t = c.args.trial.now in
    let s = c.requires.tried.searched in
    let so = c.loop-place.invariant.so in
    let high = c.loop-place.invariant.high in
    let p = c.loop-place.place - 1 in
    let e : get_or c.sequence-sequence.result.now p 0 ≡ get_or w.sequence p 0 = ap (λ xs. get_or xs p 0) c.sequence-sequence.ensures in
    let inside = c.requires.seating.sequence.within p (let l = so.low in let f = c.requires.low in omega arith) in
    let size = size_is w c.requires.seating t.chosen.items t.finishes.items t.depth t.next t.best s in
    let read : get_or t.finishes.items (get_or w.sequence p 0) w.gap ≡ c.index-start-then-is_before.result.now =
    subst (λ a. get_or t.finishes.items a w.gap ≡ c.index-start-then-is_before.result.now) e (let link = get_or_default t.finishes.items (get_or c.sequence-sequence.result.now p 0) c.index-start-then-is_before.result.now w.gap (omega arith) in sym link ∙ sym c.index-start-then-is_before.ensures) in
    let later : c.loop-place.start ≤ c.index-start-then-is_before.result.now = (let f = c.if-start-index-2.true in
    let h = get_or_default t.finishes.items (get_or c.sequence-sequence.result.now p 0) c.index-start-then-is_before.result.now c.index-in-loop-place.result.now (omega arith) in
    let i = c.index-in-loop-place.ensures in let j = c.index-start-then-is_before.ensures in omega arith) in
    record {
      so = raised w t.finishes.items t.depth c.args.position p c.loop-place.start c.index-start-then-is_before.result.now
          (subst (λ q. IsStartFrom w t.finishes.items t.depth c.args.position q c.loop-place.start) (let f : c.loop-place.place ≡ suc p = omega arith in f) so)
          later (λ before. omega arith)
          (λ k low all. let a = all (get_or w.sequence p 0) (subst (λ b. is_before w.order b c.args.position ≡ true) e (sym c.if-is_before.ensures)) in omega arith);
      high = omega arith;
      within = (let l = c.loop-place.invariant.within in omega arith);
    }

pub loop-place-preserved : goal.loop-place-preserved
loop-place-preserved g c =
    let w = g.C.Choices.seating c.args.choices.now in
    let t = c.args.trial.now in
    let s = c.requires.tried.searched in
    let so = c.loop-place.invariant.so in
    let p = c.loop-place.place - 1 in
    let e : get_or c.sequence-sequence.result.now p 0 ≡ get_or w.sequence p 0 = ap (λ xs. get_or xs p 0) c.sequence-sequence.ensures in
    let inside = c.requires.seating.sequence.within p (let l = so.low in let f = c.requires.low in omega arith) in
    let size = size_is w c.requires.seating t.chosen.items t.finishes.items t.depth t.next t.best s in
    let read : get_or t.finishes.items (get_or w.sequence p 0) w.gap ≡ c.index-in-loop-place.result.now =
    subst (λ a. get_or t.finishes.items a w.gap ≡ c.index-in-loop-place.result.now) e
    (let link = get_or_default t.finishes.items (get_or c.sequence-sequence.result.now p 0) c.index-in-loop-place.result.now w.gap (omega arith) in sym link ∙ sym c.index-in-loop-place.ensures) in
    record {
      so = raised w t.finishes.items t.depth c.args.position p c.loop-place.start c.loop-place.start
          (subst (λ q. IsStartFrom w t.finishes.items t.depth c.args.position q c.loop-place.start) (let f : c.loop-place.place ≡ suc p = omega arith in f) so)
          (omega arith)
          (λ before. elim c.else-start-index-2.branch [
            | else-start-index-2-via-then-start-index-2+else-is_before v ↦ absurd (both_ways (is_before w.order (get_or w.sequence p 0) c.args.position)
                (subst (λ b. is_before w.order b c.args.position ≡ false) e (sym v.if-is_before.ensures)) before)
            | else-start-index-2-via-else-start-index-2 v ↦ (let f = v.if-start-index-2.false in omega arith)
          ])
          (λ k low all. low);
      high = c.loop-place.invariant.high;
      within = (let l = c.loop-place.invariant.within in omega arith);
    }

pub returns-else-start-index : goal.returns-else-start-index
returns-else-start-index g c =
    let w = g.C.Choices.seating c.args.choices.now in
    let t = c.args.trial.now in
    let s = c.requires.tried.searched in
    let inv = c.loop-place.invariant in
    let place = c.loop-place.place in
    started w t.finishes.items t.depth c.args.position c.requires.seating.sequence (size_is w c.requires.seating t.chosen.items t.finishes.items t.depth t.next t.best s)
    c.requires.low c.requires.next place c.loop-place.start inv.so (get_or t.highs.items place 0) place (c.requires.tried.noted.tops place inv.within) (omega arith)
    (let link = get_or_default t.highs.items place c.index.result.now 0 (let z = c.requires.tried.noted.sizes in let l = inv.within in let f = c.requires.low in omega arith) in
    let f = c.index.ensures in let h = c.if-start-index.false in omega arith)

pub returns-after-loop-place : goal.returns-after-loop-place
returns-after-loop-place g c =
    let w = g.C.Choices.seating c.args.choices.now in
    let t = c.args.trial.now in
    let s = c.requires.tried.searched in
    let inv = c.loop-place.invariant in
    let ahead = c.ahead-sure.ensures in
    let sure = c.ahead-sure.result.0 in
    let low : sure ≤ t.depth = (let e = ahead.own t.depth c.requires.low (sym c.requires.next) in let f = ahead.low in omega arith) in
    started w t.finishes.items t.depth c.args.position c.requires.seating.sequence (size_is w c.requires.seating t.chosen.items t.finishes.items t.depth t.next t.best s)
    c.requires.low c.requires.next c.loop-place.place c.loop-place.start inv.so (get_or t.highs.items sure 0) sure (c.requires.tried.noted.tops sure low) (let f = c.loop-place-test.false in omega arith) inv.high
