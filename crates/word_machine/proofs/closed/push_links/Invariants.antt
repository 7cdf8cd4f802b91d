use Rattle.std.proofs.Common.{◌≡◌, ◌+◌, ◌≤◌, ◌++◌, length, take, vec_capacity}
use Rattle.word_machine.specs.Contents.{picked}
use Rattle.word_machine.proofs.closed.push_links.Given as goal

-- those so far were added, and there is room for the others
abbrev pub invariant-loop-place : goal.invariant-loop-place
invariant-loop-place l =
    record {
      items : l.links.items ≡ l.fn.links.items ++ picked (take l.place l.more) (take l.place l.is_new);
      room : length l.links.items + (length l.more) ≤ vec_capacity l.links + l.place;
    }
