use Rattle.std.proofs.Common.{◌≡◌, ◌∙◌, Some, None, ap, is_some, option_map, refl, subst, sym, true≢false}
use Rattle.hddl_words.specs.declared.term.Term.TheVariants as term
use Rattle.hddl_meaning.specs.Mentions.{folded}
use Rattle.hddl_meaning.specs.Names.{object_names}
use Rattle.hddl_meaning.specs.Uses.{Variable}
use Rattle.hddl_meaning.specs.Items.{IsUnknownTerm, variable_in}
use Rattle.hddl_meaning.specs.declared.fault.CheckFault.TheVariants.{TypeClash, UnknownName}
use Rattle.hddl_uses.specs.Known.{IsKnownClash}
use Rattle.hddl_scope.proofs.Adding.{Adds-both, added_at, added_nowhere}
use Rattle.hddl_uses.proofs.Placing.{IsBarred}
use Rattle.hddl_uses.proofs.Searching.{in_force_from, in_force_to}
use Rattle.hddl_uses.proofs.arguments.check_variable_argument.Goals as goal

pub returns-in_default : goal.returns-in_default
returns-in_default c =
    let context = c.args.context.now in
    let scope = c.args.scope.now in
    let t = folded c.args.variable.now.text in
    let missing : variable_in scope t ≡ None =
    ap (variable_in scope) (sym (c.as_slice.ensures ∙ c.in_ok-text.ensures ∙ ap folded c.text.ensures.value)) ∙ sym c.get.ensures ∙ ap (option_map (λ x. x.now)) c.in_default.is in
    Adds-both
    (added_at UnknownName context.source {P = IsUnknownTerm (object_names context.domain.now context.problem.now) (record { variables = scope; term = term.Variable c.args.variable.now })}
    c.place.result c.at.result (λ at. true≢false (sym (in_force_from scope t at) ∙ ap is_some missing), c.place.ensures) (λ other h. h.1 ∙ sym c.place.ensures) c.at.ensures c.in_ok-push.ensures)
    (added_nowhere TypeClash context.source {P = IsKnownClash context.domain.now context.problem.now scope (term.Variable c.args.variable.now) c.args.place.now.typed}
    (λ place k. let found = sym missing ∙ k.clash.1.1 in cc) refl)

pub returns-then-branch : goal.returns-then-branch
returns-then-branch c =
    let context = c.args.context.now in
    let scope = c.args.scope.now in
    let t = folded c.args.variable.now.text in
    let v = c.in-Some.declared.now in
    let is : variable_in scope t ≡ Some v =
    ap (variable_in scope) (sym (c.as_slice.ensures ∙ c.in_ok-text.ensures ∙ ap folded c.text.ensures.value)) ∙ sym c.get.ensures ∙ ap (option_map (λ x. x.now)) c.in-Some.is in
    let barred = c.in_ok-is_barred.ensures.0 c.if-branch.true in
    Adds-both
    (added_nowhere UnknownName context.source {P = IsUnknownTerm (object_names context.domain.now context.problem.now) (record { variables = scope; term = term.Variable c.args.variable.now })}
    (λ place h. h.0 (in_force_to scope t (ap is_some is))) refl)
    (added_at TypeClash context.source {P = IsKnownClash context.domain.now context.problem.now scope (term.Variable c.args.variable.now) c.args.place.now.typed} c.place-then-branch.result
    c.at-then-branch.result (record { clash = (barred.1, (v, is, barred.0, barred.2, c.place-then-branch.ensures)); known = tt }) (λ other k. k.clash.1.4 ∙ sym c.place-then-branch.ensures)
    c.at-then-branch.ensures c.in_ok-push-2.ensures)

pub returns : goal.returns
returns c =
    let context = c.args.context.now in
    let d = context.domain.now in
    let scope = c.args.scope.now in
    let t = folded c.args.variable.now.text in
    let v = c.in-Some.declared.now in
    let place = c.args.place.now in
    let is : variable_in scope t ≡ Some v =
    ap (variable_in scope) (sym (c.as_slice.ensures ∙ c.in_ok-text.ensures ∙ ap folded c.text.ensures.value)) ∙ sym c.get.ensures ∙ ap (option_map (λ x. x.now)) c.in-Some.is in
    Adds-both
    (added_nowhere UnknownName context.source {P = IsUnknownTerm (object_names d context.problem.now) (record { variables = scope; term = term.Variable c.args.variable.now })}
    (λ at h. h.0 (in_force_to scope t (ap is_some is))) refl)
    (added_nowhere TypeClash context.source {P = IsKnownClash d context.problem.now scope (term.Variable c.args.variable.now) place.typed}
    (λ at k.
    let (w, found, typed, cannot, _) = k.clash.1 in
    let both : Some w ≡ Some v = sym found ∙ is in
    let same : w ≡ v = cc in
    let some = c.in_ok-is_barred.ensures.1 (subst (λ (x : Variable). IsBarred d x place) same (typed, k.clash.0, cannot)) in
    let none = c.if-branch.false in cc)
    refl)
