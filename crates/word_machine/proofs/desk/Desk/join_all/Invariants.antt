use Rattle.std.proofs.Common.{◌≡◌, ◌+◌, ◌<◌, ◌++◌, [], length, vec_len, sum_by, All, if◌then◌else◌}
use Rattle.word_machine.specs.Desk.{all_drawn, all_reported, all_seen}
use Rattle.word_machine.specs.Views.{desk_of}
use Rattle.word_machine.proofs.desk.Desk.join_all.Given as goal

abbrev pub decreases-loop-pass : goal.decreases-loop-pass
decreases-loop-pass l = vec_len l.passes

abbrev pub invariant-loop-pass : goal.invariant-loop-pass
invariant-loop-pass l = record {
  own : All (λ p. p.desk ≡ l.self) l.passes.items;
  of_desk : desk_of l.seat ≡ l.self;
  no_slot : l.seat.me.1 ≡ [];
  some_seat : 0 < l.seat.me.0.seats;
  seats : length l.passes.items + l.seat.me.0.seats ≡ length l.fn.passes.items;
  ended : sum_by (λ p. if p.ended then 1 else 0) l.passes.items + l.seat.me.0.ended ≡ sum_by (λ p. if p.ended then 1 else 0) l.fn.passes.items;
  drawn : all_drawn l.passes.items ++ l.seat.me.0.drawn ≡ all_drawn l.fn.passes.items;
  reported : all_reported l.passes.items ++ l.seat.me.0.reported ≡ all_reported l.fn.passes.items;
  seen : all_seen l.passes.items ++ l.seat.me.0.seen ≡ all_seen l.fn.passes.items;
}
