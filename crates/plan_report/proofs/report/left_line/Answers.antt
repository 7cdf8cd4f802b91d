use Rattle.std.proofs.Common.{◌≡◌, ℕ, zero, suc, List, [], ◌∷◌, ap, refl, rules}
use Rattle.std.specs.declared.alloc.Global.{Global}
use Rattle.std.specs.declared.vec.Vec.{Vec}
use Rattle.diagnostics.specs.declared.diagnostic.Part.{Part}
use Rattle.pair_messages.specs.Counts.{numbers_of}
use Rattle.plan_report.specs.Explained.{AreLeft, IsLineOf}
use Rattle.plan_report.proofs.report.left_line.Goals as goal

-- a line with how many are left out, where some are
some_left : (n : ℕ) (lines : List (Vec Part Global)) → (n ≡ 0 → ⊥) → IsLineOf (n ∷ []) lines → AreLeft n lines
some_left zero lines is line = absurd (is refl)
some_left (suc n) lines is line = line

pub returns : goal.returns
returns c =
    let numbers : numbers_of c.in_ok-line.line.items ≡ c.args.left ∷ [] = ap numbers_of c.in_ok-line.ensures.items in
    some_left c.args.left c.in_ok-lines.lines.items c.if-left-eq0.false (c.in_ok-line.line, search rules, numbers)
