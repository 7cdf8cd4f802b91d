use Rattle.std.proofs.Common.{◌≡◌, ◌∙◌, [], IfSome, Option, subst}
use Rattle.std.specs.declared.alloc.Global.{Global}
use Rattle.std.specs.declared.vec.Vec.{Vec}
use Rattle.diagnostics.specs.declared.diagnostic.Part.{Part}
use Rattle.diagnostics.specs.Offers.{offered_by}
use Rattle.pair_messages.specs.Offers.{IsNearest, declared_of_kind}
use Rattle.pair_messages.proofs.Questions.{all_of_none}
use Rattle.pair_messages.proofs.names.name_remarks.Goals as goal

pub returns-in-Some : goal.returns-in-Some
returns-in-Some c =
    let none = subst (λ (o : Option (Vec Part Global)). IfSome o (λ parts. offered_by parts.items ≡ [])) c.in-Some.is c.in_ok-found.ensures in
    all_of_none (IsNearest c.args.word.now (declared_of_kind c.args.index.now.texts.now.domain_tree.now c.args.kind)) _ (c.in_ok-remarks.ensures ∙ none)
