use Rattle.std.proofs.Common.{◌≡◌, ◌∙◌, ℕ, [], List, Some, map, get_or, slice_get, sym, ap, subst, arith}
use Rattle.std.proofs.lemmas.Option.{get_or_from_slice_get, slice_get-get_or, slice_get_within}
use Rattle.std.proofs.lemmas.List.{length-map}
use Rattle.htn_model.specs.Grounding.{problem_of}
use Rattle.htn_model.specs.Problem.{Child}
use Rattle.call_rules.specs.Local.{IsFrameOf}
use Rattle.htn_ground.specs.Views.{child_view}
use Rattle.state_table.specs.Table.{Table}
use Rattle.call_proof.specs.Masks.{frame_of}
use Rattle.call_proof.specs.Parts.{frame_at, masks_of}
use Rattle.call_proof.proofs.NodeFrames.{one_more_in}
use Rattle.call_proof.proofs.reads.are_frames.Goals as goal

pub loop-k-preserved : goal.loop-k-preserved
loop-k-preserved c =
    let problem = problem_of c.args.task.now in
    let n = c.args.nodes.now in
    let masks = masks_of c.args.frames.now in
    let k = c.loop-k.k in
    let all = c.nodes-all.result.now in
    let node = c.index-all-k.result in
    let at : slice_get all k ≡ Some node =
    slice_get-get_or all k node c.loop-k-test.true ∙ ap Some (sym c.index-all-k.is) in
    let same : c.in-Ok.number ≡ k = c.in-Ok.ensures.1 in
    let known : slice_get masks k ≡ Some c.in-Some.mask.now =
    ap (λ (i : ℕ). slice_get masks i) (sym same) ∙ c.in-Some.ensures in
    let mask : get_or masks k [] ≡ c.in-Some.mask.now = get_or_from_slice_get masks k c.in-Some.mask.now [] known in
    let here : IsFrameOf problem (child_view node) (frame_at n masks k) =
    subst (λ (m : List ℕ). IsFrameOf problem (child_view node) (frame_of n.atoms m)) (sym mask)
    (subst (λ (atoms : Table). IsFrameOf problem (child_view node) (frame_of atoms c.in-Some.mask.now)) c.atoms.ensures
    (c.in_ok-is_node_in.ensures c.if-not-branch.false)) in
    one_more_in problem all (frame_at n masks) k node at here c.loop-k.invariant

pub returns : goal.returns
returns c = λ _ j x is.
    (let all = c.nodes-all.result.now in
    let there : slice_get (map child_view all) j ≡ Some x = ap (λ (l : List Child). slice_get l j) c.nodes-all.ensures ∙ is in
    let low = slice_get_within (map child_view all) j x there in
    let long = length-map all child_view in
    c.loop-k.invariant j x (omega (arith, low, long, c.loop-k-test.false)) there)
