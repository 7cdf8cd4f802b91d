use Rattle.std.proofs.Common.{ℕ, List, subst}
use Rattle.hddl_names.proofs.Heads.{IsGiven, given_head}
use Rattle.hddl_names.proofs.condensed.give_heads.Goals as goal

pub returns : goal.returns
returns c = λ pairs up down size less before.
    let old = c.args.heads.now.items in
    let new = c.give_head.new.heads.items in
    let above = c.in_ok-above.above.keys in
    let n = c.args.number in
    given_head pairs size n c.args.up.now c.args.down.now above c.in_ok-below.below.keys old new less up down c.in_ok-above.ensures c.in_ok-below.ensures
    (subst (λ (l : List ℕ). IsGiven old new above l n) c.as_slice.ensures.keys c.give_head.ensures) before
