use Rattle.std.proofs.Common.{◌≡◌, ◌∙◌, List, IfSome, Option, ap, option_map, slice_get, subst}
use Rattle.std.specs.declared.alloc.Global.{Global}
use Rattle.std.specs.declared.vec.Vec.{Vec}
use Rattle.hddl_meaning.specs.Mentions.{Mention, folded, mentions_of, typed_variables}
use Rattle.pair_messages.specs.Notes.{IsFirstCalled, IsInDomain, IsParameter}
use Rattle.pair_messages.proofs.Standing.{some_map}
use Rattle.pair_messages.proofs.compared.parameter_at.Goals as goal

pub returns-in-Some-few : goal.returns-in-Some-few
returns-in-Some-few c =
    let d = c.args.index.now.texts.now.domain_tree.now in
    let u = c.args.used.now in
    let k = c.args.position in
    let x = c.in-Some.declaration in
    let names = mentions_of (typed_variables x.parameters.now) in
    let first = subst (λ text. IsFirstCalled d u.kind text (x.name.now, x.parameters.now)) (c.as_slice.ensures ∙ c.in_ok-text.ensures ∙ ap folded c.text.ensures.value) c.in-Some.ensures in
    let all : c.in-Some-few.mentions.items ≡ names = subst (λ (o : Option (Vec Mention Global)). IfSome o (λ v. v.items ≡ names)) c.in-Some-few.is c.in_ok-few.ensures in
    some_map {P = IsInDomain (option_map (λ m. m.place) (slice_get names k))} {Q = IsParameter d u.kind (folded u.atom.now.name.text) k} c.at_position.result (λ at h. ((x.name.now, x.parameters.now), first, h))
    (subst (λ (l : List Mention). IfSome c.at_position.result (IsInDomain (option_map (λ m. m.place) (slice_get l k)))) (c.as_slice-in-Some-few.ensures.value ∙ all) c.at_position.ensures)
