use Rattle.std.proofs.Common.{◌∙◌, ap, subst, sym}
use Rattle.std.specs.Option.{option_map}
use Rattle.htn_model.specs.Problem.{GroundTask, task}
use Rattle.network_table.specs.Children.{IsNumber}
use Rattle.task_machine.specs.Tables.{slot}
use Rattle.task_machine.proofs.Listings.{no_listing}
use Rattle.task_machine.proofs.tables.Tables.listing.Goals as goal

pub returns-in_default-listing_at-clause-none : goal.returns-in_default-listing_at-clause-none
returns-in_default-listing_at-clause-none c =
    let tables = c.args.self.now in
    no_listing tables c.requires.whole c.args.goal.now c.in-Some.number
    (subst (λ (g : GroundTask). IsNumber tables.networks.children c.in-Some.number (task g)) c.in_ok-clone.ensures.cases c.in-Some.ensures.some)
    (ap (λ l. slot l c.in-Some.number) (sym c.deref.ensures.value) ∙ sym c.listing_at.ensures ∙ ap (option_map (λ l. l.now)) c.in_default-listing_at.is)
