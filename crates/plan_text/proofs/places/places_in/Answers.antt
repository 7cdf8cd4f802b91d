use Rattle.std.proofs.Common.{◌++◌, ◌∷◌, [], append_assoc, ap, sym, subst, ◌∙◌}
use Rattle.plan_text.specs.Places.{AreKinds}
use Rattle.plan_text.specs.Seen.{seen}
use Rattle.plan_text.proofs.Placed.{found_more, no_kinds}
use Rattle.plan_text.proofs.places.places_in.Goals as goal

pub returns-then-not-is_of_kind-clause-none : goal.returns-then-not-is_of_kind-clause-none
returns-then-not-is_of_kind-clause-none c kinds are =
    let before = c.loop-line.invariant in
    let line = seen c.in-Some.line in
    no_kinds before.front line c.next.new.self (c.in_ok-is_of_kind.ensures.none c.if-not-is_of_kind.true) kinds
    (subst (λ ls. AreKinds ls kinds) (before.whole ∙ ap (λ rest. before.front ++ rest) c.in-Some.ensures) are)

pub loop-line-preserved : goal.loop-line-preserved
loop-line-preserved c =
    let before = c.loop-line.invariant in
    let line = seen c.in-Some.line in
    let added = c.in_ok-is_of_kind.ensures.added c.if-not-is_of_kind.false in
    record {
      front = before.front ++ line ∷ [];
      whole = before.whole ∙ ap (λ rest. before.front ++ rest) c.in-Some.ensures ∙ sym (append_assoc before.front (line ∷ []) c.next.new.self);
      found = found_more before.front c.loop-line.places c.add_line.new.places line added.0 before.found added.1 added.2 added.3 added.4;
    }
