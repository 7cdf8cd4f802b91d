use Rattle.std.proofs.Common.{◌≡◌, ℕ, ◌≤◌, get_or, true, false, length, refl, ap, sym, subst, ◌∙◌, arith}
use Rattle.std.proofs.lemmas.Bool.{both_ways}
use Rattle.std.proofs.lemmas.List.{get_or_default}
use Rattle.plan_room.specs.Matching.{IsTop}
use Rattle.plan_room.proofs.Searched.{beaten_later, improved, out_of_range, top_dismissed, top_least}
use Rattle.plan_room.proofs.Lessened.{skip_less}
use Rattle.plan_room.proofs.matching.advance.Goals as goal

pub returns-then-is_beaten-clause-step : goal.returns-then-is_beaten-clause-step
returns-then-is_beaten-clause-step g c m seated h low have =
    beaten_later c.args.trial.now.best (c.if-is_beaten.ensures.0 refl) (c.bound.ensures h (m, seated, have))

pub back-requires-clause-dismissed : goal.back-requires-clause-dismissed
back-requires-clause-dismissed g c m seated h low have agree later =
    let w = g.C.Choices.seating c.args.choices.now in
    let t = c.args.trial.now in
    let s = c.requires.tried.searched in
    let link = get_or_default t.highs.items t.depth c.index-high.result.now 0 (let z = c.requires.tried.noted.sizes in let l = s.within in omega arith) in
    let high : get_or t.highs.items t.depth 0 ≡ c.index-high.result.now = sym link ∙ sym c.index-high.ensures in
    top_dismissed w c.requires.seating t.chosen.items t.finishes.items t.depth t.next t.best s c.index-high.result.now
    (subst (IsTop w.sequence t.finishes.items w.gap t.depth) high (c.requires.tried.noted.tops t.depth (omega arith))) (c.if-is_beaten-2.ensures.0 refl) m h have agree

pub back-requires-then-trial-sequence-clause-tried : goal.back-requires-then-trial-sequence-clause-tried
back-requires-then-trial-sequence-clause-tried g c =
    let w = g.C.Choices.seating c.args.choices.now in
    let t = c.args.trial.now in
    let s = c.requires.tried.searched in
    let link = get_or_default t.highs.items t.depth c.index-high.result.now 0 (let z = c.requires.tried.noted.sizes in let l = s.within in omega arith) in
    let high : get_or t.highs.items t.depth 0 ≡ c.index-high.result.now = sym link ∙ sym c.index-high.ensures in
    record {
      searched = improved w c.requires.seating t.chosen.items t.finishes.items t.depth t.next t.best s (let e = ap length c.sequence-sequence.ensures in omega arith) c.index-high.result.now
          (subst (IsTop w.sequence t.finishes.items w.gap t.depth) high (c.requires.tried.noted.tops t.depth (omega arith))) (λ b. both_ways false refl (c.if-is_beaten-2.ensures.1 b));
      noted = c.requires.tried.noted;
    }

pub back-requires-then-trial-sequence-clause-dismissed : goal.back-requires-then-trial-sequence-clause-dismissed
back-requires-then-trial-sequence-clause-dismissed g c m seated h low have agree later =
    let w = g.C.Choices.seating c.args.choices.now in
    let t = c.args.trial.now in
    let s = c.requires.tried.searched in
    let link = get_or_default t.highs.items t.depth c.index-high.result.now 0 (let z = c.requires.tried.noted.sizes in let l = s.within in omega arith) in
    let high : get_or t.highs.items t.depth 0 ≡ c.index-high.result.now = sym link ∙ sym c.index-high.ensures in
    top_least w c.requires.seating t.chosen.items t.finishes.items t.depth t.next t.best s c.index-high.result.now
    (subst (IsTop w.sequence t.finishes.items w.gap t.depth) high (c.requires.tried.noted.tops t.depth (omega arith))) m agree h have

pub returns-then-trial-low-clause-tried : goal.returns-then-trial-low-clause-tried
returns-then-trial-low-clause-tried g c =
    let w = g.C.Choices.seating c.args.choices.now in
    let t = c.args.trial.now in
    let s = c.requires.tried.searched in
    record {
      searched = out_of_range w c.requires.seating t.chosen.items t.finishes.items t.depth t.next t.best s
          (let e = ap length c.sequence-sequence.ensures in let f = c.if-trial-sequence.false in let l = s.within in omega arith)
          c.range-low.result.0 (let e = c.range-low.ensures.within in let f = c.if-end-low.false in omega arith)
          (subst (λ xs. (k : ℕ) → w.suits (get_or xs t.depth 0) k ≡ true → c.range-low.result.0 ≤ k) c.sequence-sequence.ensures (λ k is. (c.range-low.ensures.all k is).0));
      noted = c.requires.tried.noted;
    }

pub returns-then-trial-low-clause-step : goal.returns-then-trial-low-clause-step
returns-then-trial-low-clause-step g c =
    let w = g.C.Choices.seating c.args.choices.now in
    let t = c.args.trial.now in
    let s = c.requires.tried.searched in
    skip_less w.count (length w.sequence) t.chosen.items t.depth t.next c.range-low.result.0
    (let e = ap length c.sequence-sequence.ensures in let f = c.if-trial-sequence.false in let l = s.within in omega arith)
    c.if-trial-low.true (let e = c.range-low.ensures.within in let f = c.if-end-low.false in omega arith)
