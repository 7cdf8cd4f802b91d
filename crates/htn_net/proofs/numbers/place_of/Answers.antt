use Rattle.std.proofs.Common.{◌≡◌, Some, sym, ap, ◌∙◌}
use Rattle.std.proofs.lemmas.Option.{slice_get-get_or}
use Rattle.htn_model.specs.Equality.{instance_eq-decides}
use Rattle.htn_net.proofs.numbers.place_of.Goals as goal

pub returns-then-is_same-clause-some : goal.returns-then-is_same-clause-some
returns-then-is_same-clause-some c =
    let x = c.index-instances-place.result in
    let i = c.args.instance.now in
    let same : x ≡ i = (instance_eq-decides x i).0 (sym c.is_same.ensures ∙ c.if-is_same.true) in
    slice_get-get_or c.args.instances.now c.loop-place.place x c.loop-place-test.true ∙ ap Some (sym c.index-instances-place.is ∙ same)
