use Rattle.std.proofs.Common.{◌≡◌, suc, ◌-◌, get_or, set, false, length, refl, ap, sym, subst, arith}
use Rattle.std.proofs.lemmas.List.{get_or_default}
use Rattle.plan_room.specs.Matching.{IsNextChoice, IsNoted}
use Rattle.plan_room.proofs.Searched.{over, gone_back, passed}
use Rattle.plan_room.proofs.Noted.{gave_back}
use Rattle.plan_room.proofs.Lessened.{back_further}
use Rattle.plan_room.proofs.matching.back.Goals as goal

pub returns-then-trial-eq0-clause-step : goal.returns-then-trial-eq0-clause-step
returns-then-trial-eq0-clause-step g c =
    let t = c.args.trial.now in
    over (g.C.Choices.seating c.args.choices.now) c.requires.seating t.chosen.items t.finishes.items t.depth t.next t.best c.requires.tried.searched (omega arith) c.requires.dismissed

pub returns-clause-tried : goal.returns-clause-tried
returns-clause-tried g c =
    let w = g.C.Choices.seating c.args.choices.now in
    let t = c.args.trial.now in
    let s = c.requires.tried.searched in
    let is : get_or t.chosen.items (t.depth - 1) 0 ≡ c.index-choice.result.now =
    (let link = get_or_default t.chosen.items (t.depth - 1) c.index-choice.result.now 0 (let z = s.size in let v = s.within in omega arith) in let f = c.index-choice.ensures in omega arith) in
    let here : get_or c.sequence.result.now (t.depth - 1) 0 ≡ get_or w.sequence (t.depth - 1) 0 = ap (λ xs. get_or xs (t.depth - 1) 0) c.sequence.ensures in
    let next : IsNextChoice w (get_or w.sequence (t.depth - 1) 0) (get_or t.chosen.items (t.depth - 1) 0) c.next_choice-trial.result =
    subst (λ k. IsNextChoice w (get_or w.sequence (t.depth - 1) 0) k c.next_choice-trial.result) (sym is) (subst (λ a. IsNextChoice w a c.index-choice.result.now c.next_choice-trial.result) here c.next_choice-trial.ensures) in
    let gone = gone_back w c.requires.seating t.chosen.items t.finishes.items t.depth t.next t.best s (t.depth - 1) (omega arith) c.requires.dismissed in
    record {
      searched = passed w c.requires.seating t.chosen.items t.finishes.items (t.depth - 1) (suc (get_or t.chosen.items (t.depth - 1) 0)) t.best gone (let v = s.within in omega arith)
          (get_or t.chosen.items (t.depth - 1) 0) (omega arith) (s.low (t.depth - 1) (omega arith)) (s.suited (t.depth - 1) (omega arith))
          (λ i l e. let same = s.apart i (t.depth - 1) (omega arith) (omega arith) e in absurd (omega arith)) c.next_choice-trial.result refl next;
      noted = subst (λ k. IsNoted w t.chosen.items t.finishes.items t.highs.items (set t.taken.items k false) (t.depth - 1)) is
          (gave_back w c.requires.seating.sequence t.chosen.items t.finishes.items t.highs.items t.taken.items t.depth c.requires.tried.noted (t.depth - 1) (omega arith) s.apart);
    }

pub returns-clause-step : goal.returns-clause-step
returns-clause-step g c =
    let w = g.C.Choices.seating c.args.choices.now in
    let t = c.args.trial.now in
    let s = c.requires.tried.searched in
    let is : get_or t.chosen.items (t.depth - 1) 0 ≡ c.index-choice.result.now =
    (let link = get_or_default t.chosen.items (t.depth - 1) c.index-choice.result.now 0 (let z = s.size in let v = s.within in omega arith) in let f = c.index-choice.ensures in omega arith) in
    back_further w.count (length w.sequence) t.chosen.items t.depth (t.depth - 1) t.next c.next_choice-trial.result (omega arith) (let v = s.within in omega arith)
    (let m = c.next_choice-trial.ensures.more in omega arith) c.next_choice-trial.ensures.within
