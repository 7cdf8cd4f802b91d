use Rattle.std.proofs.Common.{◌≡◌, ◌+◌, ◌∙◌, Bool, ap, arith, cond, false, refl, sym, true, ℕ}
use mir.Val.{bool_byte}
use Rattle.htn_ground.specs.declared.relation.Relation.TheVariants.{Same}
use Rattle.htn_ground.specs.Search.{relation_singles}
use Rattle.htn_ground.proofs.Allowed.{allows_only, count_less, count_same, length-only}
use Rattle.htn_ground.proofs.counts.count_allowed.Goals.{in-Some+else-is_equality+then-is_allowed, in-Some+else-is_equality+else-is_allowed, in_default}
use Rattle.htn_ground.proofs.counts.count_allowed.Goals as goal

-- what an object's test takes off
taken : (b : Bool) (count more : ℕ) → more + cond b 1 0 ≡ count → b ≡ true → more + 1 ≡ count
taken true count more e is = e
taken false count more e is = absurd cc

left : (b : Bool) (count more : ℕ) → more + cond b 1 0 ≡ count → b ≡ false → more ≡ count
left true count more e is = absurd cc
left false count more e is = omega arith

pub returns-then-is_equality : goal.returns-then-is_equality
returns-then-is_equality c =
    let relations = c.args.relations.now in
    let allows : ℕ → Bool = relation_singles relations c.args.values.now c.args.place in
    let only = allows_only relations c.args.values.now c.args.place c.loop-number.number (Same 0 0) c.loop-number-test.true c.in-Some.object c.in-Some.ensures.some (sym c.is_equality.ensures ∙ c.if-is_equality.true) in
    c.from.ensures
    ∙ as_number c.is_allowed.result
    ∙ ap (λ b. cond b 1 0) c.is_allowed.ensures
    ∙ sym (length-only allows c.in-Some.object only c.args.objects.now c.requires)
  where
    as_number : (b : Bool) → bool_byte b ≡ cond b 1 0
    as_number true = refl
    as_number false = refl

pub overflow_sub-count : goal.overflow_sub-count
overflow_sub-count c =
    let less = count_less c.args.relations.now c.args.values.now c.args.place c.loop-number.number (Same 0 0) c.loop-number-test.true c.loop-number.count c.in-Some.object c.args.objects.now
    c.in-Some.ensures.some (sym c.is_equality.ensures ∙ c.if-is_equality.false) c.requires c.loop-number.invariant in
    let one = taken _ c.loop-number.count _ less (sym c.is_allowed-in-Some.ensures ∙ c.if-is_allowed.true) in
    omega (arith, one)

pub loop-number-preserved : goal.loop-number-preserved
loop-number-preserved c = elim c.match-other_value.branch [
  | in-Some+else-is_equality+then-is_allowed w ↦
      let less = count_less c.args.relations.now c.args.values.now c.args.place c.loop-number.number (Same 0 0) c.loop-number-test.true c.loop-number.count w.in-Some.object c.args.objects.now
      w.in-Some.ensures.some (sym w.is_equality.ensures ∙ w.if-is_equality.false) c.requires c.loop-number.invariant in
      let one = taken _ c.loop-number.count _ less (sym w.is_allowed-in-Some.ensures ∙ w.if-is_allowed.true) in
      omega (arith, one, w.count-is)
  | in-Some+else-is_equality+else-is_allowed w ↦
      let less = count_less c.args.relations.now c.args.values.now c.args.place c.loop-number.number (Same 0 0) c.loop-number-test.true c.loop-number.count w.in-Some.object c.args.objects.now
      w.in-Some.ensures.some (sym w.is_equality.ensures ∙ w.if-is_equality.false) c.requires c.loop-number.invariant in
      w.count-is ∙ sym (left _ c.loop-number.count _ less (sym w.is_allowed-in-Some.ensures ∙ w.if-is_allowed.false))
  | in_default w ↦
      w.count-is
      ∙ count_same c.args.relations.now c.args.values.now c.args.place c.loop-number.number (Same 0 0) c.loop-number-test.true c.loop-number.count c.args.objects.now w.in_default.ensures.none c.loop-number.invariant
]
