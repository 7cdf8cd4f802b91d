use Rattle.std.proofs.Common.{◌≡◌, ◌∙◌, None, Some, IsSome, sym, ap, subst}
use Rattle.std.specs.Option.{option_map}
use Rattle.std.proofs.lemmas.Result.{IfOk-weaker}
use Rattle.htn_model.specs.Choice.{first_free_compound}
use Rattle.htn_model.specs.Instance.{Instance}
use Rattle.htn_model.specs.Problem.{is_before}
use Rattle.htn_walk.specs.Listed.{number_at, number_by}
use Rattle.htn_walk.proofs.Listed.{free_listed, listed_method, number_listed}
use Rattle.htn_walk.proofs.Numbers.{choose_instance}
use Rattle.htn_walk.proofs.Free.{picked, rank_listed}
use Rattle.htn_search.proofs.chosen.choose_by_rank.Goals as goal

pub choose_free-requires-clause-none : goal.choose_free-requires-clause-none
choose_free-requires-clause-none c = sym c.first_free_task.ensures.position ∙ ap (option_map (λ p. p.0)) c.in_default.is

pub choose_free-requires-clause-chosen : goal.choose_free-requires-clause-chosen
choose_free-requires-clause-chosen c =
    let from = c.args.front.now in
    let none : first_free_compound from.open_nodes (is_before from.order) ≡ None = sym c.first_free_task.ensures.position ∙ ap (option_map (λ p. p.0)) c.in_default.is in
    subst IsSome (free_listed c.args.task.now from none c.args.rank) c.requires.chosen

pub returns-in_default : goal.returns-in_default
returns-in_default c =
    let from = c.args.front.now in
    let rank = c.args.rank in
    let none : first_free_compound from.open_nodes (is_before from.order) ≡ None = sym c.first_free_task.ensures.position ∙ ap (option_map (λ p. p.0)) c.in_default.is in
    let own : number_at c.args.task.now from rank ≡ Some rank = ap (number_by c.args.task.now from rank) none in
    IfOk-weaker c.choose_free.result _ _ (λ x h. (rank, own, h)) c.choose_free.ensures

pub listed_instance-requires-clause-listed : goal.listed_instance-requires-clause-listed
listed_instance-requires-clause-listed c =
    rank_listed c.args.task.now c.args.front.now c.in-Some.position c.in-Some.goal.now (sym c.in-Some.ensures.position) c.in-Some.ensures.goal c.args.rank c.requires.chosen

pub returns : goal.returns
returns c =
    let t = c.args.task.now in
    let from = c.args.front.now in
    let i = c.in-Some.position in
    let g = c.in-Some.goal.now in
    let first = sym c.in-Some.ensures.position in
    let stands = c.in-Some.ensures.goal in
    let p = picked t g c.args.rank c.in_ok-instance.instance c.in_ok-instance.ensures in
    let at = (listed_method t g c.args.rank p.0 p.1).0 in (
      p.0.0,
      number_listed t from i g first stands c.args.rank p.0 p.1,
      (
        choose_instance t from i g first stands p.0.0 p.0.1 at ∙ ap (λ (x : Instance). Some (record { position = i; network = x.network; state = from.state })) p.2,
        (g, stands, at ∙ ap Some p.2),
      ),
    )
