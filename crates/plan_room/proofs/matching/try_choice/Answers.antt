use Rattle.std.proofs.Common.{◌≡◌, ◌+◌, length, get_or, true, false, refl, sym, subst, ◌∙◌, arith}
use Rattle.std.proofs.lemmas.Bool.{both_ways}
use Rattle.std.proofs.lemmas.List.{get_or_default}
use Rattle.plan_room.specs.Placing.{IsStart}
use Rattle.plan_room.specs.Matching.{IsNextChoice}
use Rattle.plan_room.proofs.Searched.{skipped_one, unsuited, taken_to, passed, no_room, too_late, start_within}
use Rattle.plan_room.proofs.Lessened.{skip_less}
use Rattle.plan_room.proofs.matching.try_choice.Goals as goal

pub returns-then-not-suits-clause-tried : goal.returns-then-not-suits-clause-tried
returns-then-not-suits-clause-tried g c =
    let w = g.C.Choices.seating c.args.choices.now in
    let t = c.args.trial.now in
    let s = c.requires.tried.searched in
    record {
      searched = skipped_one w c.requires.seating t.chosen.items t.finishes.items t.depth t.next t.best s c.requires.less
          (unsuited w c.requires.seating t.chosen.items t.finishes.items t.depth t.next t.best s c.requires.low (subst (λ a. w.suits a t.next ≡ false) c.requires.here (sym c.if-not-suits.ensures)));
      noted = c.requires.tried.noted;
    }

pub returns-then-index-clause-tried : goal.returns-then-index-clause-tried
returns-then-index-clause-tried g c =
    let w = g.C.Choices.seating c.args.choices.now in
    let t = c.args.trial.now in
    let s = c.requires.tried.searched in
    let flag : get_or t.taken.items t.next false ≡ true = get_or_default t.taken.items t.next false c.index.result.now (let e = c.requires.tried.noted.flags in let l = c.requires.less in omega arith)
    ∙ sym c.index.ensures ∙ c.if-index.true in
    let (i, before, same) = c.requires.tried.noted.noted t.next flag in
    record {
      searched = taken_to w c.requires.seating t.chosen.items t.finishes.items t.depth t.next t.best s i before c.requires.low same c.after-trial.result c.after-trial.ensures.within
          (λ k more less is. let next = c.after-trial.ensures.next c.args.position k (sym c.if-not-suits.ensures)
          (subst (λ a. w.suits a k ≡ true) (sym c.requires.here) is) more in omega arith);
      noted = c.requires.tried.noted;
    }

pub finish-requires-clause-within : goal.finish-requires-clause-within
finish-requires-clause-within g c =
    let w = g.C.Choices.seating c.args.choices.now in
    let t = c.args.trial.now in
    start_within w c.requires.seating t.chosen.items t.finishes.items t.depth t.next t.best c.requires.tried.searched c.requires.low c.start_of-start.result
    (subst (λ a. IsStart w.order t.finishes.items w.gap a c.start_of-start.result) c.requires.here c.start_of-start.ensures)

pub returns-in-Never-clause-tried : goal.returns-in-Never-clause-tried
returns-in-Never-clause-tried g c =
    let w = g.C.Choices.seating c.args.choices.now in
    let t = c.args.trial.now in
    let s = c.requires.tried.searched in
    let start : IsStart w.order t.finishes.items w.gap (get_or w.sequence t.depth 0) c.start_of-start.result =
    subst (λ a. IsStart w.order t.finishes.items w.gap a c.start_of-start.result) c.requires.here c.start_of-start.ensures in
    let one = skipped_one w c.requires.seating t.chosen.items t.finishes.items t.depth t.next t.best s c.requires.less
    (no_room w c.requires.seating t.chosen.items t.finishes.items t.depth t.next t.best s c.requires.low c.start_of-start.result start c.in-Never.ensures.known) in
    let no_flag : get_or t.taken.items t.next false ≡ false = get_or_default t.taken.items t.next false c.index.result.now (let e = c.requires.tried.noted.flags in let l = c.requires.less in omega arith)
    ∙ sym c.index.ensures ∙ c.if-index.false in
    record {
      searched = passed w c.requires.seating t.chosen.items t.finishes.items t.depth (t.next + 1) t.best one c.requires.low t.next (omega arith) c.requires.less
          (subst (λ a. w.suits a t.next ≡ true) c.requires.here (sym c.if-not-suits.ensures))
          (λ i l e. both_ways (get_or t.taken.items t.next false) no_flag (subst (λ k. get_or t.taken.items k false ≡ true) e (c.requires.tried.noted.kept i l)))
          c.next_choice-trial.result (omega arith) (subst (λ a. IsNextChoice w a t.next c.next_choice-trial.result) c.requires.here c.next_choice-trial.ensures);
      noted = c.requires.tried.noted;
    }

pub returns-then-is_beaten-clause-tried : goal.returns-then-is_beaten-clause-tried
returns-then-is_beaten-clause-tried g c =
    let w = g.C.Choices.seating c.args.choices.now in
    let t = c.args.trial.now in
    let s = c.requires.tried.searched in
    let start : IsStart w.order t.finishes.items w.gap (get_or w.sequence t.depth 0) c.start_of-start.result =
    subst (λ a. IsStart w.order t.finishes.items w.gap a c.start_of-start.result) c.requires.here c.start_of-start.ensures in
    let one = skipped_one w c.requires.seating t.chosen.items t.finishes.items t.depth t.next t.best s c.requires.less
    (too_late w c.requires.seating t.chosen.items t.finishes.items t.depth t.next t.best s c.requires.low c.start_of-start.result c.in-At.finish
    start c.in-At.ensures.known (c.if-is_beaten.ensures.0 refl)) in
    let no_flag : get_or t.taken.items t.next false ≡ false = get_or_default t.taken.items t.next false c.index.result.now (let e = c.requires.tried.noted.flags in let l = c.requires.less in omega arith)
    ∙ sym c.index.ensures ∙ c.if-index.false in
    record {
      searched = passed w c.requires.seating t.chosen.items t.finishes.items t.depth (t.next + 1) t.best one c.requires.low t.next (omega arith) c.requires.less
          (subst (λ a. w.suits a t.next ≡ true) c.requires.here (sym c.if-not-suits.ensures))
          (λ i l e. both_ways (get_or t.taken.items t.next false) no_flag (subst (λ k. get_or t.taken.items k false ≡ true) e (c.requires.tried.noted.kept i l)))
          c.next_choice-trial-then-is_beaten.result (omega arith) (subst (λ a. IsNextChoice w a t.next c.next_choice-trial-then-is_beaten.result) c.requires.here c.next_choice-trial-then-is_beaten.ensures);
      noted = c.requires.tried.noted;
    }

pub returns-then-is_beaten-clause-step : goal.returns-then-is_beaten-clause-step
returns-then-is_beaten-clause-step g c =
    let w = g.C.Choices.seating c.args.choices.now in
    let t = c.args.trial.now in
    let n = c.next_choice-trial-then-is_beaten.ensures in
    skip_less w.count (length w.sequence) t.chosen.items t.depth t.next c.next_choice-trial-then-is_beaten.result c.requires.low n.more n.within
