use Rattle.std.proofs.Common.{rules, ◌≡◌, ◌∙◌, ℕ, ◌+◌, ◌<◌, ◌≤◌, ap, arith, get_or, length, min, subst, sym, take}
use Rattle.std.specs.List.{AllZip, zip}
use Rattle.std.proofs.lemmas.List.{length-map}
use Rattle.htn_task.specs.Literals.{literal_of, literals_of}
use Rattle.plan_findings.specs.Falsities.{IsFalsityIf}
use Rattle.plan_findings.proofs.Falses.{falsity_more, get_map, zip_all}
use Rattle.plan_findings.proofs.literals.falsities.Goals as goal

pub loop-number-preserved : goal.loop-number-preserved
loop-number-preserved c =
    let t = c.args.task.now in
    let lits = c.args.literals.now in
    let ss = c.args.standings.now in
    let i = c.loop-number.number in
    let x = c.index-literals-number.result in
    let size = length-map lits literal_of in
    let low : i < length lits = omega (arith, c.loop-number-test.true, c.min-count.ensures) in
    let many : i < length ss = omega (arith, c.loop-number-test.true, c.min-count.ensures) in
    let less : i < length (literals_of lits) = omega (arith, low, size) in
    subst (λ vs. AllZip (IsFalsityIf t) (zip (take (i + 1) (literals_of lits)) ss) vs) (sym c.in_ok-push.ensures.items)
    (falsity_more t (literals_of lits) ss i (literal_of x) _ c.in_ok-one.one c.loop-number.each.items less many (get_map literal_of lits i x low c.index-literals-number.is) (search rules) c.in_ok-one.ensures c.loop-number.invariant)

pub returns : goal.returns
returns c =
    let lits = c.args.literals.now in
    let ss = c.args.standings.now in
    let size = length-map lits literal_of in
    let most : min (length (literals_of lits)) (length ss) ≤ c.loop-number.number = omega (arith, c.loop-number-test.false, c.min-count.ensures, size) in
    subst (λ ps. AllZip (IsFalsityIf c.args.task.now) ps c.loop-number.each.items) (zip_all (literals_of lits) ss c.loop-number.number most) c.loop-number.invariant
