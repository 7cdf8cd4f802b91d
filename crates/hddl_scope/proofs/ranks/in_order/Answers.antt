use Rattle.std.proofs.Common.{◌≡◌, ◌↔◌, ◌∙◌, ap, map, subst, sym}
use Rattle.std.specs.List.{dedup}
use Rattle.std.specs.List.Sorted.{IsPermutation}
use Rattle.std.proofs.lemmas.List.Filters.{dedup_is}
use Rattle.hddl_meaning.specs.Mentions.{IsIn}
use Rattle.hddl_scope.specs.Ranks.{AreInOrder, fault_of, rank_of}
use Rattle.hddl_scope.proofs.Ordering.{ordered, rank_eq, same_faults}
use Rattle.hddl_scope.proofs.ranks.in_order.Goals as goal

pub returns : goal.returns
returns c =
    let sorted = c.sort_unstable.new.self.items in
    let moved : IsPermutation (map rank_of c.args.faults.now) sorted = subst (λ rs. IsPermutation rs sorted) c.in_ok-ranks.ensures c.sort_unstable.ensures.permutation in
    let items : c.in_ok-all.all.items ≡ map fault_of (dedup rank_eq sorted) =
    c.in_ok-all.ensures ∙ ap (map fault_of) (c.deref.ensures.value ∙ dedup_is _ _ _ c.dedup.ensures.filtered) in
    record {
      order = subst AreInOrder (sym items) (ordered c.args.faults.now sorted moved c.sort_unstable.ensures.sorted);
      same = λ f. subst (λ fs. IsIn f fs ↔ IsIn f c.args.faults.now) (sym items) (same_faults c.args.faults.now sorted moved f);
    }
