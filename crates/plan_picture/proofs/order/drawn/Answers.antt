use Rattle.std.proofs.Common.{ℕ, get_or, None, ap, subst, ◌∙◌, rules}
use Rattle.std.proofs.lemmas.List.Sorted.{IsNonDecreasingBy-from_sort_by_key}
use Rattle.std.specs.List.Sorted.{IsPermutation}
use Rattle.plan_picture.specs.Order.{number_of, refilled}
use Rattle.plan_picture.proofs.order.drawn.Goals as goal

pub returns : goal.returns
returns c =
    let first = λ (line : ℕ). get_or c.args.firsts.now line None in
    let sorted = c.sort_by_key.new.self.items in
    record {
      by_action = sorted;
      same_lines = subst (λ xs. IsPermutation xs sorted) c.in_ok-by_action.ensures c.in_ok-sort_by_key.ensures.permutation;
      ascending = IsNonDecreasingBy-from_sort_by_key (λ line. number_of (first line)) sorted c.in_ok-sort_by_key.ensures.sorted (λ a r q k. search rules);
      places = c.in_ok-lines.ensures ∙ ap (refilled first c.args.listed.now) c.as_slice.ensures.value;
    }
