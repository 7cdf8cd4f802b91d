use Rattle.std.proofs.Common.{◌∙◌, All, append-nil, sym, subst, []}
use Rattle.std.proofs.lemmas.List.Elements.{All-push}
use Rattle.network_table.specs.Entries.{networks_alone}
use Rattle.network_table.specs.Drafts.{AreMade, IsKnown, Stands}
use Rattle.network_table.specs.declared.made.Noted.{Noted}
use Rattle.network_table.specs.declared.made.Place.{Place}
use Rattle.network_table.proofs.Drafting.{made_new, made_push}
use Rattle.network_table.proofs.table.NetworkTable.put.Goals as goal

pub returns-in_ok-push-in-HasNumber-clause-noted : goal.returns-in_ok-push-in-HasNumber-clause-noted
returns-in_ok-push-in-HasNumber-clause-noted c =
    let t = c.args.self.now in
    let jobs = c.args.jobs.now in
    let is_known = λ (n : Noted). IsKnown t jobs n.known in
    let one : Noted = record { at = c.args.at; known = record { draft = c.args.draft; number = c.in-HasNumber.number } } in
    let value = c.requires.draft in
    let stands = subst (Stands t (networks_alone c.args.made.now.networks.items) c.args.network) c.in-HasNumber.is c.requires.stands in
    subst (All is_known) (sym c.in_ok-push-in-HasNumber.ensures.items)
    (All-push is_known c.args.made.now.noted.items one c.requires.noted (stands.0, stands.1 ∙ value))

pub returns-in_ok-push-in-MadeAt-clause-made : goal.returns-in_ok-push-in-MadeAt-clause-made
returns-in_ok-push-in-MadeAt-clause-made c =
    let t = c.args.self.now in
    let made = c.args.made.now in
    let before = c.requires.made in
    let place : Place = record { at = c.args.at; draft = c.args.draft; network = c.in-MadeAt.network } in
    let stands = subst (Stands t (networks_alone made.networks.items) c.args.network) c.in-MadeAt.is c.requires.stands in
    subst (λ ps. AreMade t c.args.jobs.now made.networks.items ps) (sym c.in_ok-push-in-MadeAt.ensures.items)
    (made_push t c.args.jobs.now made.networks.items made.networks.items [] made.places.items place c.args.network before (sym (append-nil made.networks.items)) before.alone before.within stands.0 stands.1 c.requires.draft)

pub returns-in_ok-push-in-Unknown-2-clause-made : goal.returns-in_ok-push-in-Unknown-2-clause-made
returns-in_ok-push-in-Unknown-2-clause-made c =
    let t = c.args.self.now in
    let made = c.args.made.now in
    let more = c.push-in-Unknown.new.self.items in
    let place : Place = record { at = c.args.at; draft = c.args.draft; network = c.len-place.result } in
    subst (AreMade t c.args.jobs.now more) (sym c.in_ok-push-in-Unknown-2.ensures.items)
    (made_new t c.args.jobs.now made.networks.items more made.places.items place c.args.network c.requires.made c.in_ok-push-in-Unknown.ensures.items c.requires.whole c.requires.within (c.len-place.ensures ∙ made.networks.ok.0) c.requires.draft)
