use Rattle.std.proofs.Common.{◌≡◌, ◌++◌, ◌∙◌, List, Option, ap, map, refl, sym, ℕ}
use Rattle.htn_model.specs.Instance.{Instance}
use Rattle.htn_model.specs.Instances.{instances_of_method, method_instance}
use Rattle.htn_model.specs.Task.{MethodSchema}
use Rattle.htn_ground.specs.Methods.{instances_for}
use Rattle.htn_ground.proofs.Numbered.{all_live, method_more}
use Rattle.htn_ground.proofs.methods.methods_of.Goals as goal

pub loop-place-preserved : goal.loop-place-preserved
loop-place-preserved c =
    let t = c.args.task.now in
    let g = c.args.goal.now in
    let m = c.method-item.result in
    let i = c.loop-place.place in
    let number = c.in_ok-number.number in
    let piece : ℕ × MethodSchema → List Instance = λ (p : ℕ × MethodSchema). instances_of_method t g p.0 p.1 in
    let made : map (λ (p : Option ℕ × List ℕ). method_instance t number m p.1) c.in_ok-values.values.items ≡ piece (i, m) =
    ap (λ (l : List (Option ℕ × List ℕ)). map (λ (p : Option ℕ × List ℕ). method_instance t number m p.1) l) (c.in_ok-values.ensures.found 0 refl)
    ∙ all_live t.initial_atoms (method_instance t number m) 0 (instances_for t g m)
    ∙ ap (λ (k : ℕ). instances_of_method t g k m) c.in_ok-number.ensures in
    c.in_ok-push_instances.ensures
    ∙ (λ k. c.loop-place.invariant k ++ made k)
    ∙ sym (method_more piece c.methods-method-items.result.now i m c.loop-place-test.true c.method-item.is)
