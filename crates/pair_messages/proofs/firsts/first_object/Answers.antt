use Rattle.std.proofs.Common.{◌∙◌, sym}
use Rattle.pair_messages.proofs.firsts.first_object.Goals as goal

pub returns-in-Some : goal.returns-in-Some
returns-in-Some c = sym (c.args.index.now.are_typed.constants c.args.text.now) ∙ sym c.get.ensures ∙ c.in-Some.is

pub returns-in-Some-get : goal.returns-in-Some-get
returns-in-Some-get c =
    let index = c.args.index.now in
    let text = c.args.text.now in (
      sym (index.are_typed.constants text) ∙ sym c.get.ensures ∙ c.in-None.is,
      sym (index.are_typed.objects text) ∙ sym c.get-in-None.ensures ∙ c.in-Some-get.is,
    )
