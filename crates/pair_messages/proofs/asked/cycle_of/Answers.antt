use Rattle.std.proofs.Common.{subst, sym}
use Rattle.std.specs.List.{All}
use Rattle.pair_messages.specs.Notes.{IsAsked}
use Rattle.pair_messages.proofs.asked.cycle_of.Goals as goal

pub returns : goal.returns
returns c =
    let n = c.args.network.now in
    c.checked.ensures n (c.in_ok-found.ensures n (subst (All (IsAsked n)) (sym c.as_slice-2.ensures.value) c.in_ok-pairs.ensures))
