use Rattle.std.proofs.Common.{◌≡◌, ◌++◌, take, map}
use Rattle.diagnostics.specs.Shown.{shown, mark}
use Rattle.diagnostics.proofs.excerpt.Excerpt.row.Given as goal

-- the bytes before the place so far
abbrev pub invariant-loop-byte : goal.invariant-loop-byte
invariant-loop-byte l = l.row.items ≡ mark l.self.is_cut_before ++ map shown (take l.byte-index l.self.before.now)

-- those before it, and those from it on so far
abbrev pub invariant-loop-byte-2 : goal.invariant-loop-byte-2
invariant-loop-byte-2 l = l.row.items ≡ mark l.self.is_cut_before ++ map shown l.self.before.now ++ map shown (take l.byte-index l.self.after.now)
