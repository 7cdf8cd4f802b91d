use Rattle.std.proofs.Common.{◌≡◌, ◌++◌, ◌∷◌, [], ap, sym, subst, ◌∙◌, append_assoc}
use Rattle.std.specs.Vec.Iter.{into_iter_items}
use Rattle.indexmap.specs.IndexSet.{insert_key}
use Rattle.network_table.specs.Interning.{AreApart, HasInterned, IsGrownBy, IsNumberOf}
use Rattle.network_table.proofs.Interned.{adds_insert, apart_insert, grown_by_part, interned_more}
use Rattle.network_table.proofs.interner.Interner.intern_all.Goals as goal

pub loop-value-preserved : goal.loop-value-preserved
loop-value-preserved g c =
    let eq = g.T.PartialEq.eq in
    let was = c.loop-value.invariant in
    let x = c.in-Some.value in
    let rest = into_iter_items c.next.new.self in
    let batch = c.loop-value.yielded in
    let old = c.args.self.now in
    let values = c.loop-value.self in
    let numbers = c.loop-value.numbers.items in
    let number = c.in_ok-number.number in
    let inserted : c.intern.new.self ≡ insert_key eq values x = c.in_ok-number.ensures.values in
    let place = subst (λ v. IsNumberOf eq v x number) inserted c.in_ok-number.ensures.number in record {
      whole = append_assoc batch (x ∷ []) rest ∙ (ap (λ l. batch ++ l) (sym c.in-Some.ensures.steps.0) ∙ was.whole);
      interned = subst (λ v. HasInterned eq (batch ++ x ∷ []) old v c.push.new.self.items) (sym inserted)
          (subst (HasInterned eq (batch ++ x ∷ []) old (insert_key eq values x)) (sym c.in_ok-push.ensures.items) (interned_more eq batch old values numbers x number place was.interned));
      apart = λ before. subst (AreApart eq) (sym inserted) (apart_insert eq g.met.T.Eq.laws values x (was.apart before));
    }

pub returns-in_err-number-clause-grown : goal.returns-in_err-number-clause-grown
returns-in_err-number-clause-grown g c =
    let was = c.loop-value.invariant in
    let batch = c.args.batch.items in
    let old = c.args.self.now in
    let rest = into_iter_items c.loop-value.value-iterator in
    subst (λ v. IsGrownBy batch old v) (sym c.in_err-number.ensures.err) (grown_by_part c.loop-value.yielded rest batch old c.loop-value.self was.whole was.interned.grown)

pub returns-in_err-push-clause-grown : goal.returns-in_err-push-clause-grown
returns-in_err-push-clause-grown g c =
    let eq = g.T.PartialEq.eq in
    let was = c.loop-value.invariant in
    let x = c.in-Some.value in
    let rest = into_iter_items c.next.new.self in
    let part = c.loop-value.yielded in
    let batch = c.args.batch.items in
    let old = c.args.self.now in
    let values = c.loop-value.self in
    let whole : (part ++ x ∷ []) ++ rest ≡ batch = append_assoc part (x ∷ []) rest ∙ (ap (λ l. part ++ l) (sym c.in-Some.ensures.steps.0) ∙ was.whole) in
    subst (λ v. IsGrownBy batch old v) (sym c.in_ok-number.ensures.values)
    (grown_by_part (part ++ x ∷ []) rest batch old (insert_key eq values x) whole (adds_insert eq part old values x was.interned.grown))

pub returns-clause-grown : goal.returns-clause-grown
returns-clause-grown g c =
    let was = c.loop-value.invariant in
    grown_by_part c.loop-value.yielded (into_iter_items c.loop-value.value-iterator) c.args.batch.items c.args.self.now c.loop-value.self was.whole was.interned.grown

pub returns-clause-apart : goal.returns-clause-apart
returns-clause-apart g c = c.loop-value.invariant.apart (subst (AreApart g.T.PartialEq.eq) c.self.view_is c.self.invariant)
