use Rattle.std.proofs.Common.{◌≡◌, ◌<◌, ◌∙◌, length, IsSome, Some, None, sym, ap, ap₂, subst, arith}
use Rattle.std.specs.Arc.{arc_value}
use Rattle.htn_model.specs.Choice.{is_free, nth_free}
use Rattle.htn_model.specs.Grounding.{problem_of}
use Rattle.htn_model.specs.Machine.{Config}
use Rattle.htn_model.specs.Problem.{is_before, is_compound, perform}
use Rattle.htn_model.proofs.Passing.{passes}
use Rattle.htn_walk.proofs.Free.{free_chosen, performs, position_there}
use Rattle.htn_walk.proofs.Stepped.{kept_len}
use Rattle.htn_walk.proofs.front.Front.choose_free.Goals as goal

pub unreachable-requires : goal.unreachable-requires
unreachable-requires c =
    let self = c.args.self.now in
    let whole : length self.order ≡ length self.open_nodes =
    subst (λ (m : Config). length m.order ≡ length m.open_nodes) c.self.view_is (c.self.invariant ∙ sym (kept_len c.self.inside.nodes.items)) in
    let none : nth_free (length self.order) (is_before self.order) c.args.number ≡ None =
    subst (λ (m : Config). nth_free (length m.order) (is_before m.order) c.args.number ≡ None) c.self.view_is (sym c.in_default.ensures) in
    position_there (problem_of c.args.task.now) self c.args.number whole c.requires.none c.requires.chosen none

pub node_at-requires : goal.node_at-requires
node_at-requires c =
    let order = c.self.inside.order in
    let low : c.in-Some.position < length order = (passes (is_free (length order) (is_before order)) (length order) c.args.number c.in-Some.position (sym c.in-Some.ensures)).0 in
    omega (arith, low, kept_len c.self.inside.nodes.items, ap (λ (m : Config). length m.open_nodes) c.self.view_is, c.self.invariant)

pub performed-requires : goal.performed-requires
performed-requires c =
    let self = c.args.self.now in
    let problem = problem_of c.args.task.now in
    let i = c.in-Some.position in
    let whole : length self.order ≡ length self.open_nodes =
    subst (λ (m : Config). length m.order ≡ length m.open_nodes) c.self.view_is (c.self.invariant ∙ sym (kept_len c.self.inside.nodes.items)) in
    let found : nth_free (length self.order) (is_before self.order) c.args.number ≡ Some i =
    subst (λ (m : Config). nth_free (length m.order) (is_before m.order) c.args.number ≡ Some i) c.self.view_is (sym c.in-Some.ensures) in
    subst IsSome (ap₂ (perform problem) (ap (λ (m : Config). m.state) (sym c.self.view_is)) (sym c.node_at.ensures))
    (performs problem self c.args.number whole c.requires.none c.requires.chosen i found)

pub returns : goal.returns
returns c =
    let self = c.args.self.now in
    let problem = problem_of c.args.task.now in
    let i = c.in-Some.position in
    let whole : length self.order ≡ length self.open_nodes =
    subst (λ (m : Config). length m.order ≡ length m.open_nodes) c.self.view_is (c.self.invariant ∙ sym (kept_len c.self.inside.nodes.items)) in
    let found : nth_free (length self.order) (is_before self.order) c.args.number ≡ Some i =
    subst (λ (m : Config). nth_free (length m.order) (is_before m.order) c.args.number ≡ Some i) c.self.view_is (sym c.in-Some.ensures) in
    let same = ap₂ (perform problem) (ap (λ (m : Config). m.state) (sym c.self.view_is)) (sym c.node_at.ensures) in (
      free_chosen problem self c.args.number whole c.requires.none c.requires.chosen i found (arc_value c.in_ok-state.state) (same ∙ c.in_ok-state.ensures.state),
      ap is_compound (sym c.node_at.ensures) ∙ c.performed.ensures.primitive,
    )
