use Rattle.std.proofs.Common.{◌≡◌, ◌∙◌, ◌<◌, ℕ, List, [], sym, ap, refl, length, get_or}
use Rattle.std.proofs.lemmas.Bool.{true≢false}
use Rattle.std.proofs.lemmas.List.{get_or_read}
use Rattle.std.proofs.lemmas.List.Elements.{Contains-get_or}
use Rattle.hddl_names.specs.Closures.{set_of}
use Rattle.hddl_names.specs.NumberSets.{has}
use Rattle.hddl_names.proofs.Junctions.{all_within_row}
use Rattle.hddl_names.proofs.closure.has_all.Goals as goal

pub returns-then-not-is_within : goal.returns-then-not-is_within
returns-then-not-is_within c =
    let child = get_or c.args.row.now c.loop-child.child-index 0 in
    let small : child < length c.args.sets.now = c.requires.row c.loop-child.child-index 0 c.loop-child-test.true in
    let one : c.index-sets-child.result ≡ set_of c.args.sets.now child = get_or_read c.args.sets.now child c.index-sets-child.result small c.index-sets-child.is [] in
    let two : c.index-sets-number.result ≡ set_of c.args.sets.now c.args.number = get_or_read c.args.sets.now c.args.number c.index-sets-number.result c.requires.number c.index-sets-number.is [] in (
      λ e. absurd (true≢false (sym e)),
      λ all. absurd (true≢false (sym (c.is_within.ensures.1
          (λ x h. ap (λ (xs : List ℕ). has xs x) two ∙ all child (Contains-get_or c.args.row.now c.loop-child.child-index 0 c.loop-child-test.true) x (ap (λ (xs : List ℕ). has xs x) (sym one) ∙ h)))
          ∙ c.if-not-is_within.true)),
    )

pub returns : goal.returns
returns c = (λ _. all_within_row c.args.sets.now c.args.row.now c.args.number c.loop-child.child-index c.loop-child-test.false c.loop-child.invariant, λ _. refl)
