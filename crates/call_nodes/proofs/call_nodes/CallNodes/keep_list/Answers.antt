use Rattle.std.proofs.Common.{◌≡◌, ◌∙◌, ℕ, ◌+◌, List, [], ◌∷◌, ◌++◌, Some, slice_get, append-nil, take, ap, sym, subst}
use Rattle.std.proofs.lemmas.List.{map-append, take_all, take_more}
use Rattle.htn_ground.specs.Views.{child_view, children_of}
use Rattle.htn_model.specs.Problem.{Child}
use Rattle.call_nodes.specs.Nodes.{AreNumbersOf, children}
use Rattle.call_nodes.proofs.Keeping.{with_lists}
use Rattle.call_nodes.proofs.Staying.{more_again, no_more, numbers_stay, zip_last}
use Rattle.call_nodes.proofs.call_nodes.CallNodes.keep_list.Goals as goal

pub loop-node-init : goal.loop-node-init
loop-node-init c = record {
  own = c.requires;
  more = no_more c.args.task.now c.args.self.now c.requires;
  nodes = subst (λ (ns : List ℕ). AreNumbersOf (children c.args.self.now) ns []) (sym c.in_ok-numbers.ensures.items) tt;
}

pub loop-node-preserved : goal.loop-node-preserved
loop-node-preserved c =
    let n = c.loop-node.self in
    let m = c.keep.new.self in
    let before = c.loop-node.invariant in
    let k = c.loop-node.node-index in
    let nodes = c.args.nodes.now in
    let node = c.node-item.result in
    let number = c.in_ok-number.number in
    let more = c.in_ok-number.ensures.more in
    let longer : children_of (take (k + 1) nodes) ≡ children_of (take k nodes) ++ child_view node ∷ [] =
    ap children_of (take_more nodes k node c.loop-node-test.true ∙ ap (λ x. take k nodes ++ x ∷ []) (sym c.node-item.is))
    ∙ map-append child_view (take k nodes) (node ∷ []) in record {
      own = c.in_ok-number.ensures.own;
      more = more_again c.args.self.now n m before.more more;
      nodes =
          subst (λ (ns : List ℕ). AreNumbersOf (children m) ns (children_of (take (k + 1) nodes))) (sym c.in_ok-push.ensures.items)
          (subst (λ (xs : List Child). AreNumbersOf (children m) (c.loop-node.numbers.items ++ number ∷ []) xs) (sym longer)
          (zip_last (λ i (x : Child). slice_get (children m) i ≡ Some x) c.loop-node.numbers.items (children_of (take k nodes)) number (child_view node)
          (numbers_stay (children n) (children m) more.nodes c.loop-node.numbers.items (children_of (take k nodes)) before.nodes) c.in_ok-number.ensures.number));
    }

pub returns-clause-own : goal.returns-clause-own
returns-clause-own c = with_lists c.args.task.now c.loop-node.self c.loop-node.invariant.own c.all_before.new.self c.in_ok-list.ensures.lists c.in_ok-list.ensures.counts

pub returns-clause-nodes : goal.returns-clause-nodes
returns-clause-nodes c =
    let m = c.loop-node.self in
    let numbers = c.loop-node.numbers.items in
    let list = c.in_ok-list.ensures.list ∙ ap (λ (xs : List ℕ). numbers ++ xs) c.lists-empty.ensures.empty ∙ append-nil numbers in
    subst (λ (ns : List ℕ). AreNumbersOf (children m) ns (children_of c.args.nodes.now)) (sym list)
    (subst (λ xs. AreNumbersOf (children m) numbers (children_of xs)) (take_all c.loop-node.node-index c.args.nodes.now c.loop-node-test.false) c.loop-node.invariant.nodes)
