use Rattle.std.proofs.Common.{◌≡◌, ◌<◌, ◌≤◌, ◌+◌, ◌*◌, ◌-◌, [], drop, length, get_or, arith, ap, sym, ◌∙◌}
use Rattle.std.proofs.lemmas.List.{drop_all}
use Rattle.std.specs.Char.{digit_value}
use Rattle.std.specs.Str.Parse.{digits_value_after}
use Rattle.plan_text.proofs.Numbers.{at_least, digits_step, digit_of, all_at}
use Rattle.plan_text.proofs.number.value_of.Goals as goal

pub returns-in_err-checked_mul : goal.returns-in_err-checked_mul
returns-in_err-checked_mul c =
    let ds = c.args.digits.now in
    let i = c.loop-digit.digit-index in
    let value = c.loop-digit.value in
    let step = digits_step ds i value c.loop-digit-test.true in
    let more = at_least (value * 10 + digit_value (get_or ds i 0)) (drop (i + 1) ds) in
    let large = c.in_err-checked_mul.ensures in
    rw c.from_residual.ensures (λ fits. large (let same = c.loop-digit.invariant.same in omega arith))

pub returns-in_err-value : goal.returns-in_err-value
returns-in_err-value c =
    let ds = c.args.digits.now in
    let i = c.loop-digit.digit-index in
    let value = c.loop-digit.value in
    let step = digits_step ds i value c.loop-digit-test.true in
    let more = at_least (value * 10 + digit_value (get_or ds i 0)) (drop (i + 1) ds) in
    let digit = digit_of (get_or ds i 0) (all_at ds i c.loop-digit-test.true c.requires) in
    let large = c.in_err-value.ensures in
    rw c.from_residual-in_err-value.ensures (λ fits. large (let same = c.loop-digit.invariant.same in omega arith))

pub returns : goal.returns
returns c =
    let ds = c.args.digits.now in
    let ended : drop c.loop-digit.digit-index ds ≡ [] = drop_all c.loop-digit.digit-index ds c.loop-digit-test.false in
    let same = ap (digits_value_after 10 c.loop-digit.value) (sym ended) ∙ c.loop-digit.invariant.same in
    (omega arith, same)
