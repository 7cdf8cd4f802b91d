use Rattle.std.proofs.Common.{◌≡◌, ℕ, ◌+◌, ◌-◌, ◌≤◌, length, take, drop, min, ltb, ap, ◌∙◌, sym, arith}
use Rattle.std.proofs.lemmas.Bool.{lt-ltb, le-ltb, cases_lt}
use Rattle.std.proofs.Common.{⊎_elim}
use Rattle.diagnostics.specs.Shown.{first_shown}
use Rattle.diagnostics.proofs.Parts.{before_part, after_part}
use Rattle.diagnostics.proofs.excerpt.excerpt_of.Goals as goal

-- the line goes on after the last byte that is shown where it goes on after 120 of them
ends_before : (len first last : ℕ) → last ≡ min len (first + 120) → ltb last len ≡ ltb (first + 120) len
ends_before len first last is =
    ⊎_elim (λ lt. lt-ltb last len (omega (arith, is)) ∙ sym (lt-ltb (first + 120) len lt)) (λ le. le-ltb last len (omega (arith, is)) ∙ sym (le-ltb (first + 120) len le)) (cases_lt (first + 120) len)

pub returns : goal.returns
returns c =
    let line = c.args.line.now in
    let column = c.args.column in
    let first : c.min-start.result ≡ first_shown (length line) column = omega (arith, c.min-start.ensures, c.saturating_sub.ensures, c.saturating_sub-2.ensures) in
    let middle : c.min-middle.result ≡ min (min (length line) (first_shown (length line) column + 120)) column = omega (arith, c.min-middle.ensures, c.min-end.ensures, first) in
    let last : c.min-end.result ≡ min (length line) (first_shown (length line) column + 120) = omega (arith, c.min-end.ensures, first) in
    let le : first_shown (length line) column ≤ column = omega arith in
    let before = ap (λ n. take (c.min-middle.result - n) (drop n line)) first ∙ before_part line column (first_shown (length line) column) c.min-middle.result middle le in
    let after = after_part line column (first_shown (length line) column) c.min-middle.result c.min-end.result last (omega (arith, c.min-middle.ensures)) le in
    let ends = ends_before (length line) (first_shown (length line) column) c.min-end.result last in
    let begins = ap (ltb 0) first in
    cc (before, after, ends, begins)
