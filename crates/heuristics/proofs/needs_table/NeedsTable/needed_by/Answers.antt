use Rattle.std.proofs.Common.{◌∙◌, ◌&&◌, List, ap, subst, sym}
use Rattle.std.proofs.lemmas.List.Folds.{list_all-append}
use Rattle.htn_model.specs.Literal.{holds, literal_holds}
use Rattle.heuristics.specs.Needs.{needed, needed_goal}
use Rattle.heuristics.specs.Places.{ArePlaces}
use Rattle.heuristics.specs.Rows.{outlook_of}
use Rattle.heuristics.specs.declared.places.Place.{Place}
use Rattle.network_table.specs.Networks.{children}
use Rattle.network_table.specs.Numbered.{network_of}
use Rattle.state_table.specs.Table.{state_of}
use Rattle.heuristics.specs.StoredNeeds.{AreNodes, AreWants}
use Rattle.heuristics.specs.declared.node.Node.{Node}
use Rattle.heuristics.specs.declared.wants.Want.{Want}
use Rattle.heuristics.proofs.needs_table.NeedsTable.needed_by.Goals as goal

pub returns-then-has_lost : goal.returns-then-has_lost
returns-then-has_lost c = λ atoms networks nodes goals.
    let known = c.args.prospects.now in
    let noted = subst (λ (ns : List Node). AreNodes known atoms networks ns) (sym c.as_slice-nodes.ensures.value) nodes in
    sym (c.has_lost.ensures known atoms networks noted) ∙ c.if-has_lost.true

pub returns : goal.returns
returns c = λ atoms networks nodes goals.
    let known = c.args.prospects.now in
    let needs = known.needs in
    let o = outlook_of needs in
    let network = network_of (children networks) c.args.network.now in
    let places = c.as_slice-places.result.now in
    let noted = subst (λ (ns : List Node). AreNodes known atoms networks ns) (sym c.as_slice-nodes.ensures.value) nodes in
    let wanted = subst (λ (ws : List Want). AreWants needs atoms ws c.args.self.now.goal) (sym c.as_slice.ensures.value) goals in
    let are = subst (λ (ps : List Place). ArePlaces needs ps network) (sym c.as_slice-places.ensures.value) (c.in_ok-kept.ensures.places known atoms networks noted) in
    let together = c.in_ok-given.ensures network are in (
      sym (c.has_lost.ensures known atoms networks noted) ∙ c.if-has_lost.false,
      λ later grown words.
          c.drop_repeats.ensures words
          ∙ c.in_ok-push_needed_goal.ensures needs network c.args.self.now.goal atoms later words together wanted grown
          ∙ ap (λ b. b && holds (state_of later words) (needed_goal o c.args.self.now.goal network))
          (c.in_ok-push_needed.ensures networks atoms later words are together noted grown ∙ ap (λ b. b && holds (state_of later words) (needed o network)) (c.none-found.ensures words))
          ∙ sym (list_all-append (literal_holds (state_of later words)) (needed o network) (needed_goal o c.args.self.now.goal network)),
    )
