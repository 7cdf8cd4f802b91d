use Rattle.std.proofs.Common.{◌≡◌, ◌<◌, length, get_or, sym, subst, ◌∙◌, arith}
use Rattle.std.proofs.lemmas.List.{get_or_default}
use Rattle.plan_room.specs.Placing.{IsAhead}
use Rattle.plan_room.proofs.below.BelowChoices.ahead.Goals as goal

pub returns : goal.returns
returns g c =
    let s = c.args.self.now in
    let a = c.args.position in
    let ahead = c.requires.sound.2.ahead in
    let items = s.links.now.ahead.items in
    let low : a < length items = (let e = ahead.size in let f = c.requires.low in omega arith) in
    let read : get_or items a (0, 0) ≡ c.index.result.now = sym (get_or_default items a c.index.result.now (0, 0) low) ∙ sym c.index.ensures in
    subst (λ p. IsAhead s.instance.now.network.order s.sequence.now a p.0 p.1) read (ahead.each a c.requires.low)
