use Rattle.std.proofs.Common.{◌≡◌, arith, ap, ◌∙◌, sym}
use Rattle.std.proofs.lemmas.Bool.{eq-eqb, and_from, false≢true}
use Rattle.diagnostics.specs.Places.{position}
use Rattle.diagnostics.proofs.Feeds.{found_place}
use Rattle.diagnostics.proofs.text_lines.Lines.place_of.Goals as goal
use Rattle.diagnostics.proofs.text_lines.Lines.place_of.Goals.{else-place-len-via-then-place-len+else-eq, else-place-len-via-else-place-len}

pub returns-in_err-place-clause-none : goal.returns-in_err-place-clause-none
returns-in_err-place-clause-none c =
    rw c.from_residual-in_err-place.ensures (λ place h is.
    let f = found_place c.args.self.now place c.in_ok-feeds.feeds c.in_ok-before.before c.args.sought.line c.args.sought.column h is (omega (arith, c.in_ok-feeds.ensures)) (omega (arith, c.in_ok-before.ensures)) in
    c.in_err-place.ensures (omega (arith, f.1, c.start.ensures.value, h, c.len-len.ensures.value, c.len-len.ensures.small)))

pub returns-else-place-len-clause-none : goal.returns-else-place-len-clause-none
returns-else-place-len-clause-none c place h is =
    let f = found_place c.args.self.now place c.in_ok-feeds.feeds c.in_ok-before.before c.args.sought.line c.args.sought.column h is (omega (arith, c.in_ok-feeds.ensures)) (omega (arith, c.in_ok-before.ensures)) in
    let at : c.in_ok-place.place ≡ place = omega (arith, f.1, c.start.ensures.value, c.in_ok-place.ensures) in
    elim c.else-place-len.branch [
      | else-place-len-via-then-place-len+else-eq w ↦
          let same : w.position.result ≡ c.args.sought = w.position.ensures ∙ ap (position c.args.self.now) at ∙ is in
          let line = eq-eqb w.position.result.line c.args.sought.line (ap (λ p. p.line) same) in
          let column = eq-eqb w.position.result.column c.args.sought.column (ap (λ p. p.column) same) in
          false≢true (sym w.if-eq.false ∙ w.eq.ensures ∙ and_from _ _ line column)
      | else-place-len-via-else-place-len w ↦ absurd (omega (arith, at, h, w.if-place-len.false, c.len-len.ensures.value))
    ]
