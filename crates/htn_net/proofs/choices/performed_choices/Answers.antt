use Rattle.std.proofs.Common.{◌≡◌, ◌∙◌, ap, map, rules}
use Rattle.std.proofs.lemmas.Simd.{map-map}
use Rattle.htn_walk.specs.declared.change.Change.TheVariants.{Performed}
use Rattle.htn_net.specs.declared.choice.Choice.{Choice}
use Rattle.htn_net.specs.declared.choice.Performance.{Performance}
use Rattle.htn_net.proofs.choices.performed_choices.Goals as goal

pub returns-clause-numbers : goal.returns-clause-numbers
returns-clause-numbers c =
    let choice : Performance → Choice = λ p. record { number = p.number; position = p.position; change = Performed p.state } in
    let items : c.in_ok-choices.choices.items ≡ map choice c.in_ok-found.found.items = search rules in
    ap (map (λ (x : Choice). x.number)) items ∙ map-map (λ (x : Choice). x.number) choice c.in_ok-found.found.items ∙ c.in_ok-found.ensures.numbers

pub returns-clause-live : goal.returns-clause-live
returns-clause-live c =
    let choice : Performance → Choice = λ p. record { number = p.number; position = p.position; change = Performed p.state } in
    let items : c.in_ok-choices.choices.items ≡ map choice c.in_ok-found.found.items = search rules in
    ap (map (λ (x : Choice). x.number)) items ∙ map-map (λ (x : Choice). x.number) choice c.in_ok-found.found.items ∙ c.in_ok-found.ensures.live
