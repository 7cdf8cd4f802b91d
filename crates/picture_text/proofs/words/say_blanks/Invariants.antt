use Rattle.std.proofs.Common.{◌≡◌, ◌++◌}
use Rattle.std.specs.Prelude.{replicate}
use Rattle.picture_text.proofs.words.say_blanks.Given as goal

-- the blanks so far
abbrev pub invariant-loop-written : goal.invariant-loop-written
invariant-loop-written l = l.out.items ≡ l.initial.out.items ++ replicate l.written 32
