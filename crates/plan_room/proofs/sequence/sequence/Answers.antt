use Rattle.std.proofs.Common.{◌≡◌, ◌<◌, get_or, length, refl, ap, ◌∙◌, sym, subst, arith}
use Rattle.plan_room.specs.Placing.{IsAhead, IsSequence}
use Rattle.plan_room.specs.Ranks.{AreStarts, levels}
use Rattle.plan_room.proofs.Ranked.{levels_sequence, numbered_ahead, numbered_sequence, rank_small, ranked_ahead}
use Rattle.plan_room.proofs.sequence.sequence.Goals as goal

pub returns-then-is_chain-clause-sequence : goal.returns-then-is_chain-clause-sequence
returns-then-is_chain-clause-sequence c =
    let value = c.size-size.ensures.value in
    numbered_sequence c.args.order.now c.size-size.ensures.closed (c.if-is_chain.ensures refl) c.in_ok-sequence.sequence.items (c.in_ok-sequence.ensures.size ∙ value)
    (λ i low. c.in_ok-sequence.ensures.each i (omega arith))

pub returns-then-is_chain-clause-ahead : goal.returns-then-is_chain-clause-ahead
returns-then-is_chain-clause-ahead c =
    let value = c.size-size.ensures.value in
    let xs = c.in_ok-sequence.sequence.items in record {
      size = c.in_ok-ahead.ensures.size ∙ value;
      each = λ a low. subst (λ p. IsAhead c.args.order.now xs a p.0 p.1) (sym (c.in_ok-ahead.ensures.each a (omega arith)))
          (numbered_ahead c.args.order.now c.size-size.ensures.closed (c.if-is_chain.ensures refl) xs (c.in_ok-sequence.ensures.size ∙ value)
          (λ i less. c.in_ok-sequence.ensures.each i (omega arith)) a low);
    }

pub by_rank-requires : goal.by_rank-requires
by_rank-requires c a low =
    let order = c.args.order.now in
    let counted = c.in_ok-ranks.ensures in
    let value = c.deref.ensures.value in
    let long = ap length value in
    let size = counted.size in
    let under : a < length order = omega arith in
    let here = ap (λ ys. get_or ys a 0) value ∙ counted.each a under in
    let small = rank_small order c.size-size.ensures.closed c.size-size.ensures.square a under in omega arith

pub places_ahead-requires : goal.places_ahead-requires
places_ahead-requires c a low =
    let order = c.args.order.now in
    let counted = c.in_ok-ranks.ensures in
    let value = c.deref-2.ensures.value in
    let long = ap length value in
    let size = counted.size in
    let under : a < length order = omega arith in
    let here = ap (λ ys. get_or ys a 0) value ∙ counted.each a under in
    let small = rank_small order c.size-size.ensures.closed c.size-size.ensures.square a under in
    let starts = c.in_ok-sequence-2.ensures.starts.size in
    let first = ap length c.deref.ensures.value in
    let third = ap length c.deref-3.ensures.value in omega arith

pub returns-clause-sequence : goal.returns-clause-sequence
returns-clause-sequence c =
    let order = c.args.order.now in
    let xs = c.deref.result.now in
    let counted = c.in_ok-ranks.ensures in
    let size : length xs ≡ length order = ap length c.deref.ensures.value ∙ counted.size in
    subst (IsSequence order) (sym c.in_ok-sequence-2.ensures.sequence)
    (subst (λ n. IsSequence order (levels (λ a. get_or xs a 0) n n)) (sym size)
    (levels_sequence (λ a. get_or xs a 0) order c.size-size.ensures.closed c.size-size.ensures.square
    (λ a low. ap (λ ys. get_or ys a 0) c.deref.ensures.value ∙ counted.each a low)))

pub returns-clause-ahead : goal.returns-clause-ahead
returns-clause-ahead c =
    let order = c.args.order.now in
    let xs = c.deref.result.now in
    let counted = c.in_ok-ranks.ensures in
    ranked_ahead order c.size-size.ensures.closed c.size-size.ensures.square xs c.deref-2.result.now c.deref-3.result.now c.in_ok-sequence-2.sequence.items c.in_ok-ahead-2.ahead.items
    (λ a low. ap (λ ys. get_or ys a 0) c.deref.ensures.value ∙ counted.each a low) (ap length c.deref.ensures.value ∙ counted.size)
    (c.deref-2.ensures.value ∙ sym c.deref.ensures.value) c.in_ok-sequence-2.ensures.sequence
    (subst (AreStarts (λ a. get_or xs a 0) (length xs) (length xs)) (sym c.deref-3.ensures.value) c.in_ok-sequence-2.ensures.starts)
    c.in_ok-ahead-2.ensures.size c.in_ok-ahead-2.ensures.each
