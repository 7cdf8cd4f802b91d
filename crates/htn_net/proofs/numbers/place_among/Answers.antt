use Rattle.std.proofs.Common.{◌≡◌, Some, sym, ap, ◌∙◌}
use Rattle.std.proofs.lemmas.Option.{slice_get-get_or}
use Rattle.htn_model.specs.Equality.{instance_eq-decides}
use Rattle.htn_net.proofs.numbers.place_among.Goals as goal

pub returns-then-is_same-clause-some : goal.returns-then-is_same-clause-some
returns-then-is_same-clause-some c =
    let p = c.index-numbered-place.result in
    let i = c.args.instance.now in
    let same : p.1 ≡ i = (instance_eq-decides p.1 i).0 (sym c.is_same.ensures ∙ c.if-is_same.true) in
    (p.0, slice_get-get_or c.args.numbered.now c.loop-place.place p c.loop-place-test.true ∙ ap Some (sym c.index-numbered-place.is) ∙ ap (λ x. Some (p.0, x)) same)
