use Rattle.std.proofs.Common.{◌≡◌, ◌+◌, All, vec_len}
use Rattle.std.specs.Vec.Iter.{into_iter_items, into_iter_len}
use Rattle.word_machine.specs.Desk.{new_pass}
use Rattle.word_machine.proofs.threads.start_all.Given as goal

abbrev pub invariant-loop-pass : goal.invariant-loop-pass
invariant-loop-pass g l = record {
  counted : vec_len l.handles + into_iter_len l.pass-iterator ≡ vec_len l.fn.passes;
  promised : All (λ h. h.promise ≡ l.job) l.handles.items;
  fresh : All (λ p. p ≡ new_pass l.job.desk.now) (into_iter_items l.pass-iterator);
}
