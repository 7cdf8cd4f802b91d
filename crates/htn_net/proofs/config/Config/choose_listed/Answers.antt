use Rattle.std.proofs.Common.{◌≡◌, ℕ, ◌<◌, ◌≤◌, ◌∙◌, List, length, get_or, Some, None, slice_get, sym, ap, arith, option_map, option_and_then}
use Rattle.std.proofs.lemmas.List.{length-map}
use Rattle.std.proofs.lemmas.Result.{IfOk-weaker}
use Rattle.std.proofs.lemmas.Option.{IfSome_then, slice_get-get_or, slice_get_past}
use Rattle.htn_model.specs.Choice.{first_free_compound}
use Rattle.htn_model.specs.Grounding.{problem_of}
use Rattle.htn_model.specs.Instance.{Instance}
use Rattle.htn_model.specs.Instances.{methods_of}
use Rattle.htn_model.specs.Machine.{choose}
use Rattle.htn_model.specs.Problem.{GroundTask, is_before}
use Rattle.htn_model.specs.Task.{Task}
use Rattle.htn_ground.specs.Distinct.{distinct, live_methods}
use Rattle.htn_walk.proofs.Words.{slice_get-map_back}
use Rattle.htn_walk.specs.Listed.{listed_methods, number_at, number_by}
use Rattle.htn_walk.proofs.Listed.{at_task, instance_listed, listed_instances, listed_method, number_listed}
use Rattle.htn_net.proofs.config.Config.choose_listed.Goals as goal

-- the instance of a rank is listed with its number
picked : (t : Task) (g : GroundTask) (items : List Instance) (rank : ℕ) (x : Instance) → items ≡ distinct (live_methods t g) → rank < length items → x ≡ get_or items rank x
    → (p : ℕ × Instance) × (slice_get (listed_methods t g) rank ≡ Some p) × (p.1 ≡ x)
picked t g items rank x all inside is =
    slice_get-map_back (λ (p : ℕ × Instance). p.1) (listed_methods t g) rank x
    (ap (λ l. slice_get l rank) (listed_instances t g ∙ sym all) ∙ slice_get-get_or items rank x inside ∙ ap Some (sym is))

pub returns-then-place-len-clause-choice : goal.returns-then-place-len-clause-choice
returns-then-place-len-clause-choice c =
    let t = c.args.task.now in
    let from = c.args.self.now in
    let g = c.in-Some.goal.now in
    let rank = c.args.rank in
    let long : length (listed_methods t g) ≤ rank = omega (arith, c.if-place-len.true, c.len.ensures, ap length c.in_ok-listed.ensures, ap length (listed_instances t g), length-map (listed_methods t g) (λ (p : ℕ × Instance). p.1)) in
    sym (ap (option_and_then (choose (problem_of t) from)) (at_task t from c.in-Some.position g (sym c.in-Some.ensures.position) c.in-Some.ensures.goal rank
    ∙ ap (option_map (λ (p : ℕ × Instance). p.0)) (slice_get_past (listed_methods t g) rank long)))

pub returns-clause-choice : goal.returns-clause-choice
returns-clause-choice c =
    let t = c.args.task.now in
    let from = c.args.self.now in
    let g = c.in-Some.goal.now in
    let x = c.swap_remove-instance.result in
    let inside : c.args.rank < length c.in_ok-listed.listed.items = omega (arith, c.if-place-len.false, c.len.ensures) in
    let p = picked t g c.in_ok-listed.listed.items c.args.rank x c.in_ok-listed.ensures inside c.swap_remove-instance.ensures.value in
    ap (λ (i : Instance). Some (record { position = c.in-Some.position; network = i.network; state = from.state })) (sym p.2)
    ∙ sym (instance_listed t from c.in-Some.position g (sym c.in-Some.ensures.position) c.in-Some.ensures.goal c.args.rank p.0 p.1)

pub returns-clause-number : goal.returns-clause-number
returns-clause-number c =
    let t = c.args.task.now in
    let from = c.args.self.now in
    let g = c.in-Some.goal.now in
    let x = c.swap_remove-instance.result in
    let inside : c.args.rank < length c.in_ok-listed.listed.items = omega (arith, c.if-place-len.false, c.len.ensures) in
    let p = picked t g c.in_ok-listed.listed.items c.args.rank x c.in_ok-listed.ensures inside c.swap_remove-instance.ensures.value in
    let at : slice_get (methods_of t g) p.0.0 ≡ Some x = (listed_method t g c.args.rank p.0 p.1).0 ∙ ap Some p.2 in
    (p.0.0, number_listed t from c.in-Some.position g (sym c.in-Some.ensures.position) c.in-Some.ensures.goal c.args.rank p.0 p.1, (g, c.in-Some.ensures.goal, at))

pub returns-in_default-clause-number : goal.returns-in_default-clause-number
returns-in_default-clause-number c =
    let t = c.args.task.now in
    let from = c.args.self.now in
    let rank = c.args.rank in
    let none : first_free_compound from.open_nodes (is_before from.order) ≡ None = sym c.first_free_task.ensures.position ∙ ap (option_map (λ p. p.0)) c.in_default.is in
    let own : number_at t from rank ≡ Some rank = ap (number_by t from rank) none in
    IfOk-weaker c.choose_free.result _ _ (λ o is. IfSome_then o is (λ x h. (rank, own, h))) c.choose_free.ensures.number
