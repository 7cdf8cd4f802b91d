use Rattle.std.proofs.Common.{◌∙◌, Some, ap, map, subst, sym}
use Rattle.std.proofs.lemmas.Simd.{map-map}
use Rattle.hddl_meaning.specs.Items.{IsPast, variable_mentions}
use Rattle.hddl_meaning.specs.Mentions.{Mention}
use Rattle.hddl_meaning.specs.Uses.{Variable}
use Rattle.hddl_scope.specs.Findings.{Finds}
use Rattle.hddl_scope.specs.declared.in_force.Entry.{Entry}
use Rattle.hddl_scope.proofs.Cuts.{past_mapped}
use Rattle.hddl_scope.proofs.in_force.Scope.first_past.Goals as goal

pub returns-in-Some : goal.returns-in-Some
returns-in-Some c =
    let found = c.in-Some.ensures.lookup in
    let mention : Entry → Mention = λ e. e.variable.typed.mention in
    subst (λ ms. Finds (IsPast c.args.limit ms) (Some c.place.result))
    (ap (map mention) c.deref.ensures.value ∙ sym (map-map (λ (v : Variable). v.typed.mention) (λ (e : Entry). e.variable) c.self.inside.entries.items)
    ∙ ap variable_mentions c.self.view_is)
    (past_mapped c.args.limit mention c.deref.result.now c.in-Some.entry.now c.place.result found.3.0 found.1 c.place.ensures)
