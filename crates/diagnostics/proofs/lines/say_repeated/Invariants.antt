use Rattle.std.proofs.Common.{◌≡◌, ◌++◌, map}
use Rattle.std.specs.Prelude.{replicate}
use Rattle.diagnostics.specs.Shown.{shown}
use Rattle.diagnostics.proofs.lines.say_repeated.Given as goal

-- the bytes so far
abbrev pub invariant-loop-written : goal.invariant-loop-written
invariant-loop-written l = l.out.items ≡ l.initial.out.items ++ map shown (replicate l.written l.byte)
