use Rattle.std.proofs.Common.{◌<◌, [], ℕ, List, arith, ap, refl, sym, subst, get_or, length, below_more, true≢false, ◌∙◌}
use Rattle.hddl_meaning.specs.Types.{IsBelow}
use Rattle.hddl_names.specs.TypeNumbers.{type_at, numbered_pairs}
use Rattle.std.proofs.lemmas.List.Elements.{Contains-get_or}
use Rattle.hddl_names.proofs.Typed.{leads-at, leads-none}
use Rattle.hddl_names.proofs.declared_types.DeclaredTypes.has_type.Goals as goal

pub returns-then-branch : goal.returns-then-branch
returns-then-branch c =
    let d = c.args.types.now in
    let row = get_or c.args.self.now c.args.object [] in
    let i = c.loop-own.own-index in
    let lt : i < length row = subst (λ (l : List ℕ). i < length l) c.row-own-items.ensures c.loop-own-test.true in
    let below = subst (λ (l : List ℕ). IsBelow d (type_at d (get_or l i 0)) (type_at d c.args.of_type)) c.row-own-items.ensures (c.in_ok-is_below.ensures.0 c.if-branch.true) in
    (λ _. (get_or row i 0, Contains-get_or row i 0 lt, (leads-at d c.args.self.now c.args.object i c.args.of_type c.requires.typed lt c.requires.of_type).0 below), λ _. refl)

pub loop-own-preserved : goal.loop-own-preserved
loop-own-preserved c =
    let d = c.args.types.now in
    let row = get_or c.args.self.now c.args.object [] in
    let i = c.loop-own.own-index in
    let lt : i < length row = subst (λ (l : List ℕ). i < length l) c.row-own-items.ensures c.loop-own-test.true in
    below_more _ _ c.loop-own.invariant (λ leads.
    let below = (leads-at d c.args.self.now c.args.object i c.args.of_type c.requires.typed lt c.requires.of_type).1 leads in
    let there = subst (λ (l : List ℕ). IsBelow d (type_at d (get_or l i 0)) (type_at d c.args.of_type)) (sym c.row-own-items.ensures) below in
    true≢false (sym (c.in_ok-is_below.ensures.1 there) ∙ c.if-branch.false))

pub returns : goal.returns
returns c =
    let row = get_or c.args.self.now c.args.object [] in
    let past = c.loop-own-test.false in
    let end = ap length c.row-own-items.ensures in (
      λ h. absurd (true≢false (sym h)),
      λ some. absurd (leads-none (numbered_pairs c.args.types.now) row c.args.of_type
          (λ k lt. c.loop-own.invariant k (omega (arith, lt, past, end))) some),
    )
