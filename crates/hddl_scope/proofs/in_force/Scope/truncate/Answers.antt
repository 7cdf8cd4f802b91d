use Rattle.std.proofs.Common.{◌≡◌, ◌∙◌, Some, ap, slice_get, subst, sym, take}
use Rattle.std.proofs.lemmas.List.{take-map}
use Rattle.std.proofs.lemmas.Option.{slice_get-get_or}
use Rattle.hddl_scope.specs.InForce.{IsScope, variables_of}
use Rattle.hddl_scope.specs.declared.in_force.Entry.{Entry}
use Rattle.hddl_scope.proofs.InForce.{scope_front}
use Rattle.hddl_scope.proofs.in_force.Scope.truncate.Goals as goal

pub invariant_of-self : goal.invariant_of-self
invariant_of-self c =
    let entries = c.self.inside.entries.items in
    let known = c.self.inside.positions in
    let n = c.args.len in
    let first = c.in-Some.first.now in
    let found = c.in-Some.ensures.lookup in
    let at : slice_get entries n ≡ Some first =
    ap (λ l. slice_get l n) (sym c.deref.ensures.value) ∙ slice_get-get_or c.deref.result.now n first found.3.0 ∙ ap Some (sym found.1) in
    subst (λ l. IsScope l c.truncate-2.new.self first.repeat) (sym c.truncate.ensures.items)
    (subst (λ k. IsScope (take n entries) k first.repeat) (sym c.truncate-2.ensures) (scope_front entries n first known c.self.inside.repeat at c.self.invariant))

pub returns : goal.returns
returns c =
    ap variables_of c.truncate.ensures.items ∙ sym (take-map (λ (e : Entry). e.variable) c.args.len c.self.inside.entries.items)
    ∙ ap (take c.args.len) c.self.view_is
