use Rattle.std.proofs.Common.{◌∙◌, ℕ, ◌+◌, List, [], ◌∷◌, ◌++◌, take, ap, sym, subst}
use Rattle.std.proofs.lemmas.List.{take_more}
use Rattle.htn_model.specs.Instance.{Instance}
use Rattle.htn_model.specs.Problem.{Child}
use Rattle.call_table.specs.Lists.{list_at}
use Rattle.call_nodes.specs.Nodes.{AreListsOf, AreNumbersOf, IsListOf, children}
use Rattle.call_nodes.proofs.Staying.{lists_of_stay, more_again, no_more, zip_last}
use Rattle.call_nodes.proofs.call_nodes.CallNodes.keep_instances.Goals as goal

pub loop-instance-init : goal.loop-instance-init
loop-instance-init c = record {
  own = c.requires;
  more = no_more c.args.task.now c.args.self.now c.requires;
  lists = subst (λ (ns : List ℕ). AreListsOf (children c.args.self.now) c.args.self.now.lists ns []) (sym c.in_ok-lists.ensures.items) tt;
}

pub loop-instance-preserved : goal.loop-instance-preserved
loop-instance-preserved c =
    let n = c.loop-instance.self in
    let m = c.keep_list.new.self in
    let before = c.loop-instance.invariant in
    let k = c.loop-instance.instance-index in
    let instances = c.args.instances.now in
    let instance = c.instance-item.result in
    let number = c.in_ok-list.list in
    let more = c.in_ok-list.ensures.more in
    let one : IsListOf (children m) m.lists number instance.network = record {
      inside = c.in_ok-list.ensures.known;
      nodes = subst (λ (xs : List Child). AreNumbersOf (children m) (list_at m.lists number) xs) (c.as_slice-nodes.ensures ∙ c.children.ensures) c.in_ok-list.ensures.nodes;
      in_order = c.is_ordered.ensures c.if-not-is_ordered.false;
    } in record {
      own = c.in_ok-list.ensures.own;
      more = more_again c.args.self.now n m before.more more;
      lists =
          subst (λ (ns : List ℕ). AreListsOf (children m) m.lists ns (take (k + 1) instances)) (sym c.in_ok-push.ensures.items)
          (subst (λ (is : List Instance). AreListsOf (children m) m.lists (c.loop-instance.lists.items ++ number ∷ []) is)
          (sym (take_more instances k instance c.loop-instance-test.true ∙ ap (λ x. take k instances ++ x ∷ []) (sym c.instance-item.is)))
          (zip_last (λ i (x : Instance). IsListOf (children m) m.lists i x.network) c.loop-instance.lists.items (take k instances) number instance
          (lists_of_stay (children n) (children m) more.nodes n.lists m.lists more.lists c.loop-instance.lists.items (take k instances) before.lists) one));
    }
