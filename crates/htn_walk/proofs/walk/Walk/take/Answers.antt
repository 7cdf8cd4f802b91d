use Rattle.std.proofs.Common.{◌<◌, ◌++◌, [], get_or, refl, sym, ap, ◌∙◌, subst}
use Rattle.htn_model.specs.Grounding.{problem_of}
use Rattle.htn_model.specs.Problem.{is_compound}
use Rattle.htn_walk.specs.Choices.{chosen_of}
use Rattle.htn_model.specs.Choice.{splice}
use Rattle.htn_ground.specs.Trees.{number_of}
use Rattle.htn_walk.specs.Places.{child_places, open_places, own_place, places_view}
use Rattle.htn_walk.specs.Trail.{bare, decomposed_by, number_by}
use Rattle.htn_walk.proofs.Closing.{closes, same_bare}
use Rattle.htn_walk.proofs.Way.{position_within, childless}
use Rattle.htn_walk.proofs.walk.Walk.take.Goals as goal

pub leave-requires-clause-within : goal.leave-requires-clause-within
leave-requires-clause-within c =
    let at = c.args.self.config in
    subst (λ n. c.args.position < n) (sym c.requires.placed)
    (position_within (problem_of c.args.task.now) at c.requires.chosen.0 (chosen_of at (c.args.position, c.args.change)) c.requires.chosen.1.0)

pub leave-requires-clause-childless : goal.leave-requires-clause-childless
leave-requires-clause-childless c =
    let at = c.args.self.config in
    λ primitive. c.children_len-children.ensures
    ∙ childless (problem_of c.args.task.now) at c.requires.chosen.0 (chosen_of at (c.args.position, c.args.change)) c.requires.chosen.1.0 (sym (ap is_compound c.in_ok-node.ensures.node) ∙ primitive)

pub after-requires : goal.after-requires
after-requires c = (c.requires.chosen.0, c.requires.chosen.1.0)

pub closed-requires : goal.closed-requires
closed-requires c =
    λ compound. closes c.args.task.now c.args.self.config c.requires.chosen.0 c.args.position c.args.change c.requires.chosen.1.1 (sym (ap is_compound c.in_ok-node.ensures.node) ∙ compound)

pub returns : goal.returns
returns c = λ number chosen.
    let t = c.args.task.now in
    let at = c.args.self.config in
    let i = c.args.position in
    let choice = chosen_of at (i, c.args.change) in
    let place = get_or (open_places c.args.self.places.items) i [] in
    record {
      choice = choice;
      chooses = chosen.0;
      config = c.in_ok-node.ensures.front;
      last = record { position = i; node = c.closed.result; children = c.children_len-children.result };
      is_move = record {
        position = refl;
        node =
            c.closed.ensures (number_of t)
            ∙ ap (λ x. bare x (number_by (number_of t) x (decomposed_by c.args.change))) c.in_ok-node.ensures.node
            ∙ same_bare t c.objects-typed.ensures.typed at number i c.args.change chosen.1;
        children = c.children_len-children.ensures;
      };
      trail = c.in_ok-push.ensures.items;
      places = c.in_ok-leave.ensures.places ∙ ap (λ k. splice i (child_places place 0 k) (open_places c.args.self.places.items)) c.children_len-children.ensures;
      visits = c.in_ok-leave.ensures.visits ∙ ap (λ x. places_view c.args.self.visits.items ++ own_place x place) c.in_ok-node.ensures.node;
    }
