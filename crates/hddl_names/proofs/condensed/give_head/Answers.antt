use Rattle.std.proofs.Common.{◌+◌, ◌∙◌, ℕ, List, sym, subst, get_or, take}
use Rattle.std.specs.List.{Contains}
use Rattle.std.proofs.lemmas.Bool.{eqb-true}
use Rattle.std.proofs.lemmas.List.{get_or_default, take_all}
use Rattle.std.proofs.lemmas.Map.Views.{Contains-from_any}
use Rattle.hddl_names.proofs.Heads.{IsGiven, given_more, given_one}
use Rattle.hddl_names.proofs.condensed.give_head.Goals.{then-contains, else-contains}
use Rattle.hddl_names.proofs.condensed.give_head.Goals as goal

pub loop-number-preserved : goal.loop-number-preserved
loop-number-preserved c =
    let old = c.args.heads.now.items in
    let now = c.loop-number.heads.items in
    let these = c.args.these.now.keys in
    let those = c.args.those.now in
    let i = c.loop-number.number-index in
    let n = get_or those i 0 in
    elim c.if-contains.branch [
      | then-contains w ↦
          subst (λ v. IsGiven old v.items these (take (i + 1) those) c.args.head) (sym w.heads-is)
          (given_one old now w.put_head.new.heads.items these those i n c.args.head c.loop-number-test.true (get_or_default those i 0 n c.loop-number-test.true)
          (Contains-from_any eqb-true n these (sym c.contains.ensures ∙ w.if-contains.true)) c.loop-number.invariant w.put_head.ensures)
      | else-contains w ↦
          subst (λ v. IsGiven old v.items these (take (i + 1) those) c.args.head) (sym w.heads-is)
          (given_more old now these those i c.args.head c.loop-number.invariant)
    ]

pub returns : goal.returns
returns c =
    subst (λ (l : List ℕ). IsGiven c.args.heads.now.items c.loop-number.heads.items c.args.these.now.keys l c.args.head)
    (take_all c.loop-number.number-index c.args.those.now c.loop-number-test.false) c.loop-number.invariant
