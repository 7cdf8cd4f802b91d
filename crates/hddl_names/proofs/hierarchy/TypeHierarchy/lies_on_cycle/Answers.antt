use Rattle.std.proofs.Common.{◌≡◌, ◌∙◌, ◌<◌, ℕ, List, sym, ap, ap₂, subst, length}
use Rattle.hddl_words.specs.declared.domain.DomainText.{DomainText}
use Rattle.hddl_meaning.specs.Mentions.{Text, folded}
use Rattle.hddl_meaning.specs.Names.{number_in, type_names}
use Rattle.hddl_meaning.specs.Types.{text_or_object}
use Rattle.hddl_names.specs.Cycles.{typed_name}
use Rattle.hddl_names.proofs.Circles.{IsCircle, circle-typed, pair, small}
use Rattle.hddl_names.proofs.hierarchy.TypeHierarchy.lies_on_cycle.Goals as goal

pub is_on_cycle-requires-clause-child : goal.is_on_cycle-requires-clause-child
is_on_cycle-requires-clause-child c =
    let d = c.args.self.now in
    let t = typed_name c.args.parent.now c.args.name.now in
    let named : c.self.inside.names.now ≡ type_names d = c.self.invariant.types.all ∙ ap (λ (d : DomainText). type_names d) c.self.view_is in
    subst (λ n. n < length (type_names d)) (sym (c.in_ok-child.ensures ∙ ap (λ (x : List ℕ). number_in c.self.inside.names.now (folded x)) c.text.ensures.value ∙ ap (λ (ns : List Text). number_in ns t.mention.text) named)) (small d t c.requires).0

pub is_on_cycle-requires-clause-parent : goal.is_on_cycle-requires-clause-parent
is_on_cycle-requires-clause-parent c =
    let d = c.args.self.now in
    let t = typed_name c.args.parent.now c.args.name.now in
    let named : c.self.inside.names.now ≡ type_names d = c.self.invariant.types.all ∙ ap (λ (d : DomainText). type_names d) c.self.view_is in
    subst (λ n. n < length (type_names d)) (sym (c.in_ok-parent.ensures ∙ ap (λ (ns : List Text). number_in ns (text_or_object t.of_type)) named)) (small d t c.requires).1

pub returns : goal.returns
returns c =
    let d = c.args.self.now in
    let t = typed_name c.args.parent.now c.args.name.now in
    let named : c.self.inside.names.now ≡ type_names d = c.self.invariant.types.all ∙ ap (λ (d : DomainText). type_names d) c.self.view_is in
    let both = circle-typed d t c.requires in
    let are = ap₂ (λ (x y : ℕ). (x, y)) (c.in_ok-child.ensures ∙ ap (λ (x : List ℕ). number_in c.self.inside.names.now (folded x)) c.text.ensures.value ∙ ap (λ (ns : List Text). number_in ns t.mention.text) named)
    (c.in_ok-parent.ensures ∙ ap (λ (ns : List Text). number_in ns (text_or_object t.of_type)) named) in
    (λ h. both.0 (subst (IsCircle d) are (c.in_ok-cycle.ensures.0 h)), λ h. c.in_ok-cycle.ensures.1 (subst (IsCircle d) (sym are) (both.1 h)))
