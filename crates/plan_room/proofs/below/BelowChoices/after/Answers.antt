use Rattle.std.proofs.Common.{length, inl, inr, arith}
use Rattle.std.proofs.lemmas.Bool.{cases_lt}
use Rattle.std.proofs.lemmas.List.{get_or_default}
use Rattle.plan_room.proofs.below.BelowChoices.after.Goals as goal

pub returns-then-choice-self-clause-next : goal.returns-then-choice-self-clause-next
returns-then-choice-self-clause-next g c a d so too less =
    let s = c.args.self.now in
    let linked = c.requires.sound.2 in
    let k = c.args.choice in
    let inside = c.if-choice-self.true in
    let link = get_or_default s.links.now.after.items k c.index.result.now 0 (let e = linked.size in omega arith) in
    let read = c.index.ensures in
    elim (cases_lt d (length s.children.now)) [
      | inl low ↦ (let e = linked.next a k d less low so too in omega arith)
      | inr past ↦ (let e = linked.within k inside in omega arith)
    ]
