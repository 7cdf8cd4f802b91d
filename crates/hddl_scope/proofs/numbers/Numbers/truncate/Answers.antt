use Rattle.std.proofs.Common.{◌≡◌, ◌∙◌, ◌++◌, ◌-◌, ◌<◌, ap, arith, length, subst, take}
use Rattle.std.proofs.lemmas.List.{length-take}
use Rattle.hddl_scope.specs.Numbers.{entries_of, numbered}
use Rattle.hddl_scope.proofs.Entries.{few_left, first_of_all}
use Rattle.hddl_scope.proofs.numbers.Numbers.truncate.Goals as goal

pub invariant_of-self : goal.invariant_of-self
invariant_of-self c =
    let n = c.args.len in
    let few = c.self.inside.few.items in
    let rest = c.self.inside.rest.entries in
    let left : c.saturating_sub.result ≡ n - length few = c.saturating_sub.ensures ∙ ap (λ k. n - k) (c.len.ensures ∙ c.self.inside.few.ok.0) in
    let items : c.truncate-2.new.self.items ≡ take n few = c.truncate-2.ensures.items in (
      c.self.invariant.0,
      omega (arith, length-take n few, ap length items, c.self.invariant.1),
      λ lt.
          c.truncate.ensures.entries ∙ ap (λ k. take k rest) left
          ∙ few_left c.self.inside.limit n few rest c.self.invariant.2 (subst (λ l. length l < c.self.inside.limit) items lt),
    )

pub returns : goal.returns
returns c =
    let n = c.args.len in
    let few = c.self.inside.few.items in
    let rest = c.self.inside.rest.entries in
    let left : c.saturating_sub.result ≡ n - length few = c.saturating_sub.ensures ∙ ap (λ k. n - k) (c.len.ensures ∙ c.self.inside.few.ok.0) in
    (λ i. numbered (c.truncate-2.ensures.items i) ++ entries_of ((c.truncate.ensures.entries ∙ ap (λ k. take k rest) left) i))
    ∙ first_of_all n few rest ∙ ap (take n) c.self.view_is
