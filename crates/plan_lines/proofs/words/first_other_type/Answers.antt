use Rattle.std.proofs.Common.{◌<◌, arith, get_or, length, sym}
use Rattle.std.specs.List.{zip}
use Rattle.std.proofs.lemmas.Option.{slice_get-get_or}
use Rattle.plan_lines.specs.Words.{IsOtherType}
use Rattle.plan_lines.proofs.Firsts.{none_all, none_more}
use Rattle.plan_lines.proofs.Naming.{zip_at, zip_long}
use Rattle.plan_lines.proofs.words.first_other_type.Goals as goal

pub returns-then-not-has_type : goal.returns-then-not-has_type
returns-then-not-has_type c =
    let types = c.args.types.now in
    let objects = c.args.objects.now in
    let i = c.loop-place.place in
    let low : i < length objects = omega (arith, c.requires, c.loop-place-test.true) in
    record {
      one = (get_or types i 0, get_or objects i 0);
      stands = zip_at types objects i (get_or types i 0) (get_or objects i 0) (slice_get-get_or types i 0 c.loop-place-test.true) (slice_get-get_or objects i 0 low);
      has = sym c.if-not-has_type.ensures;
      before = c.loop-place.invariant;
    }

pub loop-place-preserved : goal.loop-place-preserved
loop-place-preserved c =
    let types = c.args.types.now in
    let objects = c.args.objects.now in
    let i = c.loop-place.place in
    let low : i < length objects = omega (arith, c.requires, c.loop-place-test.true) in
    none_more (IsOtherType c.args.task.now) (zip types objects) i (get_or types i 0, get_or objects i 0) c.loop-place.invariant
    (zip_at types objects i (get_or types i 0) (get_or objects i 0) (slice_get-get_or types i 0 c.loop-place-test.true) (slice_get-get_or objects i 0 low))
    (λ has. (let is = c.if-not-has_type.ensures in absurd cc))

pub returns : goal.returns
returns c =
    let types = c.args.types.now in
    let objects = c.args.objects.now in
    let many = zip_long types objects c.requires in
    none_all (IsOtherType c.args.task.now) (zip types objects) c.loop-place.place (omega (arith, many, c.loop-place-test.false)) c.loop-place.invariant
