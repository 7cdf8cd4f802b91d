use Rattle.std.proofs.Common.{◌≡◌, ◌++◌, take, map}
use Rattle.diagnostics.specs.Shown.{pad, mark}
use Rattle.diagnostics.proofs.excerpt.Excerpt.padding.Given as goal

-- the bytes of the mark so far
abbrev pub invariant-loop-byte : goal.invariant-loop-byte
invariant-loop-byte l = l.padding.items ≡ map pad (take l.byte-index l.byte-items)

-- those of the mark, and those before the place so far
abbrev pub invariant-loop-byte-2 : goal.invariant-loop-byte-2
invariant-loop-byte-2 l = l.padding.items ≡ map pad (mark l.self.is_cut_before) ++ map pad (take l.byte-index l.self.before.now)
