use Rattle.std.proofs.Common.{◌≡◌, ◌∙◌, Some, ap, option_and_then, option_map, slice_get, sym}
use Rattle.std.proofs.lemmas.Option.{slice_get-get_or, slice_get-map}
use Rattle.hddl_scope.specs.declared.in_force.Entry.{Entry}
use Rattle.hddl_scope.proofs.in_force.Scope.at.Goals as goal

pub returns-in-Some-get : goal.returns-in-Some-get
returns-in-Some-get c =
    let entries = c.self.inside.entries.items in
    let k = c.in-Some.position in
    let found = c.in-Some-get.ensures.lookup in
    let at : slice_get entries k ≡ Some c.in-Some-get.entry.now =
    ap (λ l. slice_get l k) (sym c.deref.ensures.value) ∙ slice_get-get_or c.deref.result.now k c.in-Some-get.entry.now found.3.0 ∙ ap Some (sym found.1) in
    sym
    (ap (option_and_then (slice_get c.args.self.now)) c.in-Some.is ∙ ap (λ vs. slice_get vs k) (sym c.self.view_is) ∙ slice_get-map (λ (e : Entry). e.variable) entries k
    ∙ ap (option_map (λ (e : Entry). e.variable)) at)
