use Rattle.std.proofs.Common.{◌≡◌, ◌∙◌, ◌+◌, ◌<◌, List, Some, ap, arith, drop, length, length-append, option_map, slice_get, sym, take, ℕ}
use Rattle.std.specs.List.{enumerate_from, flat_map}
use Rattle.std.proofs.lemmas.List.{length-map, take_all}
use Rattle.std.proofs.lemmas.Option.{MatchOption-at_none, slice_get-map, slice_get_past, slice_get_within}
use Rattle.htn_model.specs.Instance.{Instance}
use Rattle.htn_model.specs.Instances.{instances_of_method, method_instance, methods_of}
use Rattle.htn_model.specs.Task.{MethodSchema}
use Rattle.htn_ground.specs.Methods.{instances_for}
use Rattle.htn_ground.proofs.AtNumber.{at_piece, split_methods}
use Rattle.htn_ground.proofs.Numbered.{method_more}
use Rattle.htn_ground.proofs.at_number.instance_at.Goals as goal

pub returns-in-Some : goal.returns-in-Some
returns-in-Some c =
    let t = c.args.task.now in
    let g = c.args.goal.now in
    let methods = c.methods-method-items.result.now in
    let m = c.method-item.result in
    let i = c.loop-place.place in
    let left = c.loop-place.left in
    let piece : ℕ × MethodSchema → List Instance = λ (p : ℕ × MethodSchema). instances_of_method t g p.0 p.1 in
    let at : slice_get (instances_for t g m) left ≡ Some c.in-Some.values = sym c.in_ok-values.ensures.found ∙ c.in-Some.is in
    let within : left < length (piece (i, m)) = omega (arith, slice_get_within (instances_for t g m) left c.in-Some.values at, length-map (instances_for t g m) (method_instance t i m)) in
    let is : slice_get (piece (i, m)) left ≡ Some (method_instance t i m c.in-Some.values) =
    slice_get-map (method_instance t i m) (instances_for t g m) left ∙ ap (option_map (method_instance t i m)) at in
    ap Some (c.in_ok-instance.ensures ∙ ap (λ (k : ℕ). method_instance t k m c.in-Some.values) c.in_ok-number_at.ensures)
    ∙ sym is
    ∙ sym (at_piece (flat_map piece (enumerate_from 0 (take i methods))) (piece (i, m)) (flat_map piece (enumerate_from (0 + length (take (i + 1) methods)) (drop (i + 1) methods)))
    (methods_of t g) c.args.number left
    (ap (λ (l : List MethodSchema). flat_map piece (enumerate_from 0 l)) (sym c.methods-method-items.ensures.value) ∙ split_methods piece methods i m c.loop-place-test.true c.method-item.is)
    c.loop-place.invariant within)

pub loop-place-preserved : goal.loop-place-preserved
loop-place-preserved c =
    let t = c.args.task.now in
    let g = c.args.goal.now in
    let methods = c.methods-method-items.result.now in
    let m = c.method-item.result in
    let i = c.loop-place.place in
    let piece : ℕ × MethodSchema → List Instance = λ (p : ℕ × MethodSchema). instances_of_method t g p.0 p.1 in
    let before = flat_map piece (enumerate_from 0 (take i methods)) in
    let long : length (flat_map piece (enumerate_from 0 (take (i + 1) methods))) ≡ length before + length (instances_for t g m) =
    ap length (method_more piece methods i m c.loop-place-test.true c.method-item.is)
    ∙ length-append before (piece (i, m)) ∙ ap (λ n. length before + n) (length-map (instances_for t g m) (method_instance t i m)) in
    let past : c.loop-place.left ≡ length (instances_for t g m) + c.method_values_at.new.number = MatchOption-at_none _ _ c.in_default.is c.in_ok-values.ensures.past in
    omega (arith, c.loop-place.invariant, past, long)

pub returns : goal.returns
returns c =
    let t = c.args.task.now in
    let g = c.args.goal.now in
    let piece : ℕ × MethodSchema → List Instance = λ (p : ℕ × MethodSchema). instances_of_method t g p.0 p.1 in
    let all : length (flat_map piece (enumerate_from 0 (take c.loop-place.place c.methods-method-items.result.now))) ≡ length (methods_of t g) =
    ap (λ (l : List MethodSchema). length (flat_map piece (enumerate_from 0 l)))
    (take_all c.loop-place.place c.methods-method-items.result.now c.loop-place-test.false ∙ c.methods-method-items.ensures.value) in
    sym (slice_get_past (methods_of t g) c.args.number (omega (arith, c.loop-place.invariant, all)))
