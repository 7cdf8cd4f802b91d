use Rattle.std.proofs.Common.{◌≡◌, ◌∙◌, Some, ap, length, refl, slice_get, sym}
use Rattle.std.proofs.lemmas.List.Elements.{All-weaker}
use Rattle.std.proofs.lemmas.Option.{slice_get_read}
use Rattle.diagnostics.specs.Offers.{offered}
use Rattle.pair_messages.specs.declared.stands.Stand.TheVariants as stand
use Rattle.pair_messages.specs.Offers.{IsForStand, IsForTermUse}
use Rattle.pair_messages.specs.Stands.{in_force}
use Rattle.pair_messages.proofs.advice.argument_remarks.Goals as goal

pub returns : goal.returns
returns c =
    let t = c.args.index.now.texts.now in
    let u = c.args.used.now in
    let k = c.args.position in
    let x = c.in-Some.term.now in
    let xs = c.as_slice.result.now in
    let is : slice_get u.atom.now.terms k ≡ Some x =
    ap (λ l. slice_get l k) (sym c.as_slice.ensures) ∙ slice_get_read xs (length xs) k x refl c.in-Some.ensures.lookup.3.0 c.in-Some.ensures.lookup.1 in
    All-weaker (IsForTermUse t.domain_tree.now t.problem_tree.now (record { variables = in_force u.scope; term = x })) (IsForStand t.domain_tree.now t.problem_tree.now (stand.Argument u k))
    (λ name h. (x, is, h)) (offered c.in_ok-remarks.remarks.items) c.in_ok-remarks.ensures
