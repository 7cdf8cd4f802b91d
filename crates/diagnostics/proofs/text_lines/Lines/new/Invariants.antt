use Rattle.std.proofs.Common.{◌≡◌, take}
use Rattle.diagnostics.specs.Places.{feeds_from}
use Rattle.diagnostics.proofs.text_lines.Lines.new.Given as goal

-- the line feeds so far
abbrev pub invariant-loop-place : goal.invariant-loop-place
invariant-loop-place l = l.feeds.items ≡ feeds_from 0 (take l.place l.text)
