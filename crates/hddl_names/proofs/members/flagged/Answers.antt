use Rattle.std.proofs.Common.{◌≡◌, ◌∙◌, Bool, List, ℕ, ap, false, get_or, nat_eq, subst, sym}
use Rattle.std.specs.List.{IsDistinct, filter}
use Rattle.std.proofs.lemmas.List.{take_all}
use Rattle.hddl_names.proofs.Ascending.{distinct-filter}
use Rattle.hddl_names.proofs.members.flagged.Goals as goal

pub returns-clause-different : goal.returns-clause-different
returns-clause-different c =
    let test : ℕ → Bool = λ n. get_or c.args.flags.now n false in
    let kept : c.loop-number.found.items ≡ filter test c.args.numbers.now =
    c.loop-number.invariant ∙ ap (λ (l : List ℕ). filter test l) (take_all c.loop-number.number-index c.args.numbers.now c.loop-number-test.false) in
    subst (λ (l : List ℕ). IsDistinct nat_eq l) (sym kept) (distinct-filter test c.args.numbers.now c.requires)
