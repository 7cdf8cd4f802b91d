use Rattle.std.proofs.Common.{◌<◌, map, sym, ◌∙◌, subst, arith, vec_len}
use Rattle.std.specs.Vec.Iter.{into_iter_items}
use Rattle.word_machine.specs.declared.piece.Piece.{Piece}
use Rattle.word_machine.specs.Workers.{IsWhole, HoldsPieces}
use Rattle.word_machine.proofs.Pieces.{all_rest}
use Rattle.word_machine.proofs.Slots.{holds_set, full_set, FullOrLeft}
use Rattle.word_machine.proofs.level_merge.lay.Goals as goal

pub loop-piece-preserved : goal.loop-piece-preserved
loop-piece-preserved g c =
    let level = c.args.level in
    let has_successors = g.W.Expand.has_successors level.work.now in
    let was = c.loop-piece.invariant in
    let step = c.in-Some.ensures.steps.0 in
    let pieces = into_iter_items c.loop-piece.piece-iterator in
    let rest = into_iter_items c.next.new.self in
    let piece = c.in-Some.piece in
    let slots = c.loop-piece.slots.items in
    let made = c.successors_of.result in
    let whole = all_rest (IsWhole has_successors level.first level.last level.piece) piece rest pieces step was.whole in
    let below = all_rest (λ (p : Piece g.row.W-Successor.Denot g.row.W-Finish.Denot). p.number < vec_len c.loop-piece.slots) piece rest pieces step was.below in
    let one = below.0 in
    let len = c.fill.ensures.len in
    let long = c.loop-piece.slots.ok.0 in
    let filled = c.fill.ensures.items in record {
      whole = whole.1;
      below = λ k d inside. let b = below.1 k d inside in omega arith;
      held = subst (HoldsPieces has_successors level.first level.last level.piece) (sym filled) (holds_set has_successors level.first level.last level.piece slots piece.number made (omega arith) c.successors_of.ensures was.held);
      full = subst (FullOrLeft (map (λ (p : Piece g.row.W-Successor.Denot g.row.W-Finish.Denot). p.number) c.args.pieces.items) rest) (sym filled) (full_set _ pieces rest piece slots made step (omega arith) was.full);
      len = len ∙ was.len;
    }
