use Rattle.std.proofs.Common.{inl, inr, sym, ap, arith}
use Rattle.call_table.proofs.Links.{none_at}
use Rattle.call_table.proofs.lists.BlockLists.link.Goals as goal
use Rattle.call_table.proofs.lists.BlockLists.link.Goals.{then-number-eq0-via-then-number-eq0, then-number-eq0-via-else-number-eq0+then-number-len}

pub returns-then-number-eq0-clause-none : goal.returns-then-number-eq0-clause-none
returns-then-number-eq0-clause-none c = elim c.then-number-eq0.branch [
  | then-number-eq0-via-then-number-eq0 w ↦ none_at c.args.self.now c.self.inside.links.items c.args.number (ap (λ l. l.lists) (sym c.self.view_is)) (inl w.if-number-eq0.true)
  | then-number-eq0-via-else-number-eq0+then-number-len w ↦
      none_at c.args.self.now c.self.inside.links.items c.args.number (ap (λ l. l.lists) (sym c.self.view_is)) (inr (let e = w.len.ensures in let h = w.if-number-len.true in omega arith))
]
