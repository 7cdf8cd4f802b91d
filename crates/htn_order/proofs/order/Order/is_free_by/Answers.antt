use Rattle.std.proofs.Common.{◌∙◌, ap, sym, eqb}
use Rattle.std.proofs.lemmas.Nat.Bits.{shr_and_one}
use Rattle.htn_order.specs.Words.{AreEnteredIn}
use Rattle.htn_order.proofs.order.Order.is_free_by.Goals as goal

pub returns-in-Some : goal.returns-in-Some
returns-in-Some c =
    let word = c.in-Some.word in
    let known : AreEnteredIn c.args.self.now word = rw c.in-Some.is at c.requires.known in
    ap (λ v. eqb v 0) (shr_and_one word c.args.position) ∙ sym (known.1 c.args.position)
