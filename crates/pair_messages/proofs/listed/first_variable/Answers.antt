use Rattle.std.proofs.Common.{◌≡◌, ◌∙◌, IfSome, Option, subst}
use Rattle.std.specs.declared.alloc.Global.{Global}
use Rattle.std.specs.declared.vec.Vec.{Vec}
use Rattle.hddl_meaning.specs.Mentions.{Mention, mentions_of, typed_variables}
use Rattle.pair_messages.proofs.FirstPlaces.{found_first}
use Rattle.pair_messages.proofs.listed.first_variable.Goals as goal

pub returns-in-Some : goal.returns-in-Some
returns-in-Some c =
    let names = mentions_of (typed_variables c.args.groups.now) in
    let all : c.in-Some.mentions.items ≡ names = subst (λ (o : Option (Vec Mention Global)). IfSome o (λ v. v.items ≡ names)) c.in-Some.is c.in_ok-few.ensures in
    found_first c.place_in.result c.as_slice.result.now names c.args.text.now c.place_in.ensures (c.as_slice.ensures.value ∙ all)
