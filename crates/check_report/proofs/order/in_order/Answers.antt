use Rattle.std.proofs.Common.{rules, subst}
use Rattle.std.specs.List.Sorted.{IsPermutation}
use Rattle.std.proofs.lemmas.Fn.{always_returns_same}
use Rattle.diagnostics.specs.declared.diagnostic.Diagnostic.{Diagnostic}
use Rattle.check_report.specs.Order.{place_in, text_rank}
use Rattle.check_report.proofs.order.in_order.Goals as goal

pub returns : goal.returns
returns c =
    let sorted = c.sort_by_key.new.self.items in
    record {
      same = subst (λ xs. IsPermutation xs sorted) c.in_ok-append.ensures.items c.in_ok-sort_by_key.ensures.permutation;
      order = c.in_ok-sort_by_key.ensures.sorted (λ (d : Diagnostic). (text_rank d.about, place_in d.about)) (always_returns_same _ _ _ (λ a r q k. search rules));
    }
