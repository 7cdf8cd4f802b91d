use Rattle.std.proofs.Common.{◌≡◌, ◌+◌, ◌-◌, [], replicate}
use Rattle.word_machine.specs.Desk.{new_pass}
use Rattle.word_machine.specs.Views.{desk_of, whole}
use Rattle.word_machine.proofs.desk.Desk.deal.Given as goal

abbrev pub invariant-loop : goal.invariant-loop
invariant-loop l = record {
  of_desk : desk_of l.seat ≡ l.self;
  left : l.seat.me ≡ (record (whole l.seat.me.0.size) { seats = l.self.seats + 1 - l.counter }, []);
  dealt : l.passes.items ≡ replicate (l.counter - 1) (new_pass l.self);
}
