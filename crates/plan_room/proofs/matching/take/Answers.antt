use Rattle.std.proofs.Common.{◌≡◌, ◌+◌, get_or, length, max, set, true, sym, subst, arith}
use Rattle.std.proofs.lemmas.List.{get_or_default}
use Rattle.plan_room.specs.Matching.{IsNoted, IsSearched}
use Rattle.plan_room.specs.Placing.{IsStart}
use Rattle.plan_room.proofs.Searched.{gone_on_one, size_is}
use Rattle.plan_room.proofs.Noted.{took}
use Rattle.plan_room.proofs.Lessened.{take_less}
use Rattle.plan_room.proofs.matching.take.Goals as goal

pub index_mut-requires-3 : goal.index_mut-requires-3
index_mut-requires-3 g c =
    let w = g.C.Choices.seating c.args.choices.now in
    let t = c.args.trial.now in
    let f = c.requires.first in
    let size = size_is w c.requires.seating t.chosen.items t.finishes.items t.depth t.next t.best c.requires.tried.searched in
    let v = t.finishes.ok.0 in let i = c.requires.seating.sequence.within t.depth f.low in let e = f.here in omega arith

pub returns-clause-tried : goal.returns-clause-tried
returns-clause-tried g c =
    let w = g.C.Choices.seating c.args.choices.now in
    let t = c.args.trial.now in
    let f = c.requires.first in
    let s = c.requires.tried.searched in
    let size = size_is w c.requires.seating t.chosen.items t.finishes.items t.depth t.next t.best s in
    let top : max (get_or t.highs.items t.depth 0) c.args.finish ≡ c.max.result =
    (let link = get_or_default t.highs.items t.depth c.index.result.now 0 (let z = c.requires.tried.noted.sizes in let l = f.low in omega arith) in
    let i = c.index.ensures in let m = c.max.ensures in omega arith) in
    record {
      searched = subst (λ a. IsSearched w (set t.chosen.items t.depth t.next) (set t.finishes.items a c.args.finish) (t.depth + 1) 0 t.best) (sym f.here)
          (gone_on_one w c.requires.seating t.chosen.items t.finishes.items t.depth t.next t.best s f.low f.less (subst (λ a. w.suits a t.next ≡ true) f.here f.suited) (λ i l e. f.free (i, l, e))
          f.start c.args.finish (subst (λ a. IsStart w.order t.finishes.items w.gap a f.start) f.here f.is_start) f.first);
      noted = subst (λ x. IsNoted w (set t.chosen.items t.depth t.next) (set t.finishes.items c.args.position c.args.finish) (set t.highs.items (t.depth + 1) x) (set t.taken.items t.next true) (t.depth + 1)) top
          (took w c.requires.seating.sequence t.chosen.items t.finishes.items t.highs.items t.taken.items t.depth c.requires.tried.noted t.next c.args.position c.args.finish s.size size f);
    }

pub returns-clause-step : goal.returns-clause-step
returns-clause-step g c =
    let w = g.C.Choices.seating c.args.choices.now in
    let t = c.args.trial.now in
    let f = c.requires.first in
    take_less w.count (length w.sequence) t.chosen.items t.depth t.next f.low f.less (let e = c.requires.tried.searched.size in let l = f.low in omega arith)
