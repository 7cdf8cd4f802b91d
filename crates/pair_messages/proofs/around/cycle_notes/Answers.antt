use Rattle.std.proofs.Common.{inr, subst}
use Rattle.std.specs.List.{AllZip, flat_map}
use Rattle.pair_messages.specs.Notes.{IsAtOrdering, ordering_of}
use Rattle.pair_messages.proofs.around.cycle_notes.Goals as goal

pub returns : goal.returns
returns c =
    inr (record {
      network = c.in-Some.network.now;
      is_there = c.in-Some.ensures;
      cycle = c.in_ok-cycle.cycle.items;
      is_cycle = c.in_ok-cycle.ensures;
      noted = subst (λ l. AllZip (IsAtOrdering c.args.index.now.texts.now c.args.at.source) (flat_map ordering_of l) c.in_ok-notes.notes.items) c.as_slice.ensures.value c.in_ok-notes.ensures;
    })
