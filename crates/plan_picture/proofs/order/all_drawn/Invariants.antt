use Rattle.std.proofs.Common.{take, get_or, None}
use Rattle.plan_text.specs.Forest.{lists_of}
use Rattle.plan_picture.specs.Order.{AreAllDrawn}
use Rattle.plan_picture.proofs.order.all_drawn.Given as goal

-- those so far
abbrev pub invariant-loop-listed : goal.invariant-loop-listed
invariant-loop-listed l = AreAllDrawn (λ line. get_or l.firsts line None) (lists_of (take l.listed-index l.lists)) (lists_of l.all.items)
