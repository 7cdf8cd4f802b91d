use Rattle.std.proofs.Common.{◌≡◌, ◌∙◌, ◌<◌, ◌≤◌, ap, sym, refl, subst, false, nat_eq, length, get_or, below_more}
use Rattle.std.specs.List.{list_any, Contains}
use Rattle.std.proofs.lemmas.Bool.{eqb-true, true≢false}
use Rattle.std.proofs.lemmas.List.Elements.{Contains-get_or}
use Rattle.std.proofs.lemmas.Map.Views.{Contains-from_any}
use Rattle.hddl_names.proofs.Found.{none-shared}
use Rattle.hddl_names.proofs.hierarchy.share.Goals as goal

pub loop-x-preserved : goal.loop-x-preserved
loop-x-preserved c =
    below_more (λ j. j < length c.args.these.now.keys → list_any (nat_eq (get_or c.args.these.now.keys j 0)) c.args.those.now.keys ≡ false) c.loop-x.x-index c.loop-x.invariant
    (λ lt. ap (λ xs. list_any (nat_eq (get_or xs c.loop-x.x-index 0)) c.args.those.now.keys) (sym c.as_slice-x-items.ensures.keys) ∙ sym c.contains.ensures ∙ c.if-contains.false)

pub returns-then-contains : goal.returns-then-contains
returns-then-contains c =
    let x = get_or c.as_slice-x-items.result.now c.loop-x.x-index 0 in (
      λ _. (
        x,
        subst (λ xs. Contains xs x) c.as_slice-x-items.ensures.keys (Contains-get_or c.as_slice-x-items.result.now c.loop-x.x-index 0 c.loop-x-test.true),
        Contains-from_any eqb-true x c.args.those.now.keys (sym c.contains.ensures ∙ c.if-contains.true),
      ),
      λ _. refl,
    )

pub returns : goal.returns
returns c =
    let past : length c.args.these.now.keys ≤ c.loop-x.x-index = subst (λ xs. length xs ≤ c.loop-x.x-index) c.as_slice-x-items.ensures.keys c.loop-x-test.false in
    (λ e. absurd (true≢false (sym e)), λ h. absurd (none-shared c.args.these.now.keys c.args.those.now.keys c.loop-x.x-index past c.loop-x.invariant h))
