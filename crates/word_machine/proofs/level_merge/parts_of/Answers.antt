use Rattle.std.proofs.Common.{◌≡◌, ◌+◌, ◌≤◌, ◌*◌, ◌∷◌, IsSome, All, sym, ap, ◌∙◌, subst, arith, vec_len, Vec, []}
use Rattle.std.specs.Vec.Iter.{into_iter_items}
use Rattle.word_machine.specs.Joined.{joined}
use Rattle.word_machine.specs.Level.{AreSuccessors}
use Rattle.std.proofs.lemmas.List.{flat_map_more}
use Rattle.std.specs.declared.alloc.Global.{Global}
use Rattle.word_machine.proofs.Pieces.{all_rest}
use Rattle.word_machine.proofs.PieceRanks.{no_ranks}
use Rattle.word_machine.proofs.Slots.{holds_first, holds_rest, of_none, of_one_more, of_all, from_start, HoldsFrom}
use Rattle.word_machine.proofs.level_merge.parts_of.Goals as goal

pub loop-slot-init : goal.loop-slot-init
loop-slot-init g c =
    let level = c.args.level in
    let has_successors = g.W.Expand.has_successors level.work.now in
    let whole = c.into_iter-slot-iterator.ensures.into_iter_gives in (
      0,
      record {
        counted = let same = whole.1 in omega arith;
        full = subst (All IsSome) (sym whole.0) c.requires.full;
        held = subst (HoldsFrom has_successors level.first level.last level.piece 0) (sym whole.0) (from_start has_successors level.first level.last level.piece c.args.slots.items c.requires.held);
        joined = of_none has_successors level.first level.last level.piece (joined c.in_ok-parts.parts.items) c.requires.ordered (subst (λ vs. AreSuccessors has_successors level.first level.first (joined vs)) (sym c.in_ok-parts.ensures.items) (no_ranks has_successors level.first));
      },
    )

pub loop-slot-preserved : goal.loop-slot-preserved
loop-slot-preserved g c =
    let level = c.args.level in
    let has_successors = g.W.Expand.has_successors level.work.now in
    let n = c.loop-slot.invariant.0 in
    let was = c.loop-slot.invariant.1 in
    let step = c.in-Some.ensures.steps in
    let slots = into_iter_items c.loop-slot.slot-iterator in
    let rest = into_iter_items c.next.new.self in
    let made = c.in-Some-slot.successors in
    let fewer = step.1 in
    let counted = was.counted in (
      n + 1,
      record {
        counted = omega arith;
        full = (all_rest IsSome c.in-Some.slot rest slots step.0 was.full).1;
        held = holds_rest has_successors level.first level.last level.piece n c.in-Some.slot slots rest step.0 was.held;
        joined = of_one_more has_successors level.first level.last level.piece n (joined c.loop-slot.parts.items) (joined c.push.new.self.items) made.items was.joined
            (holds_first has_successors level.first level.last level.piece n made slots rest (step.0 ∙ ap (λ s. s ∷ rest) c.in-Some-slot.is) was.held) (ap joined c.in_ok-push.ensures.items ∙ sym (flat_map_more (λ (v : Vec g.row.W-Successor.Denot Global). v.items) [] c.loop-slot.parts.items made));
      },
    )

pub returns : goal.returns
returns g c =
    let level = c.args.level in
    let n = c.loop-slot.invariant.0 in
    let was = c.loop-slot.invariant.1 in
    let counted = was.counted in
    let cover = c.requires.cover in
    let over : n ≡ vec_len c.args.slots = let none_left = c.in-None.ensures.steps.0 in omega arith in
    of_all (g.W.Expand.has_successors level.work.now) level.first level.last level.piece n (joined c.loop-slot.parts.items) (subst (λ m. level.last ≤ level.first + m * level.piece) (sym over) cover) was.joined
