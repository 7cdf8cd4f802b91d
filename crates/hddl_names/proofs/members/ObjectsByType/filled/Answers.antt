use Rattle.std.proofs.Common.{◌≡◌, ◌∙◌, ◌++◌, ◌∷◌, [], ◌<◌, ℕ, List, ap, sym, subst, arith, length, get_or, nat_eq, cond}
use Rattle.std.specs.List.{All, IsDistinct, list_any}
use Rattle.std.proofs.lemmas.List.Elements.{All-get_or}
use Rattle.hddl_meaning.specs.Names.{type_names}
use Rattle.hddl_names.specs.Members.{AreFilled, IsFlaggedAbove}
use Rattle.hddl_names.specs.TypeNumbers.{numbered_pairs}
use Rattle.hddl_names.proofs.Ascending.{filled-start, filled-more, flagged-none, same_row}
use Rattle.hddl_names.proofs.Typed.{flagged-small}
use Rattle.hddl_names.proofs.members.ObjectsByType.filled.Goals as goal
use Rattle.hddl_names.proofs.members.ObjectsByType.filled.Goals.{then-ne+in_ok-above, else-ne}

pub loop-object-init : goal.loop-object-init
loop-object-init c = (
  filled-start (numbered_pairs c.args.types.now) c.args.declared.now c.args.flags.now c.args.count c.in_ok-all.all c.in_ok-all.ensures,
  flagged-none (numbered_pairs c.args.types.now) c.args.flags.now c.new-above.result.items c.new-above.ensures.items,
)

pub push_all-requires-clause-within : goal.push_all-requires-clause-within
push_all-requires-clause-within c =
    let d = c.args.types.now in
    let test = c.loop-object-test.true in
    let rows = c.requires.rows in
    let known : (c.if-ne.row.now ≡ get_or c.args.declared.now c.loop-object.object []) × IsFlaggedAbove (numbered_pairs c.args.types.now) c.args.flags.now c.if-ne.row.now c.if-ne.above.items = elim c.if-ne.branch [
      | then-ne+in_ok-above w ↦ (
        ap (λ r. r.now) w.row-is ∙ w.row-row.ensures,
        subst (λ r. IsFlaggedAbove (numbered_pairs c.args.types.now) c.args.flags.now r.now c.if-ne.above.items) (sym w.row-is)
            (subst (λ s. IsFlaggedAbove (numbered_pairs c.args.types.now) c.args.flags.now w.row-row.result.now s.items) (sym w.above-is) w.in_ok-above.ensures),
      )
      | else-ne w ↦ (
        ap (λ r. r.now) w.row-is ∙ sym (same_row c.row.result.now c.loop-object.row.now w.if-ne.ensures) ∙ c.row.ensures,
        subst (λ r. IsFlaggedAbove (numbered_pairs c.args.types.now) c.args.flags.now r.now c.if-ne.above.items) (sym w.row-is)
            (subst (λ s. IsFlaggedAbove (numbered_pairs c.args.types.now) c.args.flags.now c.loop-object.row.now s.items) (sym w.above-is) c.loop-object.invariant.1),
      )
    ] in
    flagged-small d c.args.flags.now c.if-ne.row.now c.if-ne.above.items c.deref.result.now (length c.loop-object.all) (c.loop-object.invariant.0.count ∙ c.requires.count)
    (subst (λ (l : List ℕ). All (λ t. t < length (type_names d)) l) (sym known.0)
    (All-get_or (All (λ t. t < length (type_names d))) c.args.declared.now c.loop-object.object [] (omega (arith, test, rows)) c.requires.types))
    known.1 c.deref.ensures.value

pub push_all-requires-clause-different : goal.push_all-requires-clause-different
push_all-requires-clause-different c =
    let known : (c.if-ne.row.now ≡ get_or c.args.declared.now c.loop-object.object []) × IsFlaggedAbove (numbered_pairs c.args.types.now) c.args.flags.now c.if-ne.row.now c.if-ne.above.items = elim c.if-ne.branch [
      | then-ne+in_ok-above w ↦ (
        ap (λ r. r.now) w.row-is ∙ w.row-row.ensures,
        subst (λ r. IsFlaggedAbove (numbered_pairs c.args.types.now) c.args.flags.now r.now c.if-ne.above.items) (sym w.row-is)
            (subst (λ s. IsFlaggedAbove (numbered_pairs c.args.types.now) c.args.flags.now w.row-row.result.now s.items) (sym w.above-is) w.in_ok-above.ensures),
      )
      | else-ne w ↦ (
        ap (λ r. r.now) w.row-is ∙ sym (same_row c.row.result.now c.loop-object.row.now w.if-ne.ensures) ∙ c.row.ensures,
        subst (λ r. IsFlaggedAbove (numbered_pairs c.args.types.now) c.args.flags.now r.now c.if-ne.above.items) (sym w.row-is)
            (subst (λ s. IsFlaggedAbove (numbered_pairs c.args.types.now) c.args.flags.now c.loop-object.row.now s.items) (sym w.above-is) c.loop-object.invariant.1),
      )
    ] in
    subst (λ (l : List ℕ). IsDistinct nat_eq l) (sym c.deref.ensures.value) known.1.different

pub loop-object-preserved : goal.loop-object-preserved
loop-object-preserved c =
    let known : (c.if-ne.row.now ≡ get_or c.args.declared.now c.loop-object.object []) × IsFlaggedAbove (numbered_pairs c.args.types.now) c.args.flags.now c.if-ne.row.now c.if-ne.above.items = elim c.if-ne.branch [
      | then-ne+in_ok-above w ↦ (
        ap (λ r. r.now) w.row-is ∙ w.row-row.ensures,
        subst (λ r. IsFlaggedAbove (numbered_pairs c.args.types.now) c.args.flags.now r.now c.if-ne.above.items) (sym w.row-is)
            (subst (λ s. IsFlaggedAbove (numbered_pairs c.args.types.now) c.args.flags.now w.row-row.result.now s.items) (sym w.above-is) w.in_ok-above.ensures),
      )
      | else-ne w ↦ (
        ap (λ r. r.now) w.row-is ∙ sym (same_row c.row.result.now c.loop-object.row.now w.if-ne.ensures) ∙ c.row.ensures,
        subst (λ r. IsFlaggedAbove (numbered_pairs c.args.types.now) c.args.flags.now r.now c.if-ne.above.items) (sym w.row-is)
            (subst (λ s. IsFlaggedAbove (numbered_pairs c.args.types.now) c.args.flags.now c.loop-object.row.now s.items) (sym w.above-is) c.loop-object.invariant.1),
      )
    ] in (
      filled-more (numbered_pairs c.args.types.now) c.args.declared.now c.args.flags.now c.args.count c.loop-object.object c.loop-object.all c.push_all.new.self c.if-ne.above.items
          (subst (λ (l : List ℕ). IsFlaggedAbove (numbered_pairs c.args.types.now) c.args.flags.now l c.if-ne.above.items) known.0 known.1)
          c.in_ok-push_all.ensures.count
          (λ k. c.in_ok-push_all.ensures.lists k ∙ ap (λ l. get_or c.loop-object.all k [] ++ cond (list_any (nat_eq k) l) (c.loop-object.object ∷ []) []) c.deref.ensures.value)
          c.loop-object.invariant.0,
      known.1,
    )

pub returns : goal.returns
returns c =
    let past = c.loop-object-test.false in
    let end = c.loop-object.auto.object-end in
    subst (λ i. AreFilled (numbered_pairs c.args.types.now) c.args.declared.now c.args.flags.now c.args.count i c.loop-object.all) (omega (arith, past, end)) c.loop-object.invariant.0
