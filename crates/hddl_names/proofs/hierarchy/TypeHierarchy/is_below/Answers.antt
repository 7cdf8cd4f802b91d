use Rattle.std.proofs.Common.{◌≡◌, ◌↔◌, ◌<◌, true, refl, sym, ap, inl, subst, length}
use Rattle.hddl_words.specs.declared.domain.DomainText.{DomainText}
use Rattle.hddl_meaning.specs.Names.{type_names}
use Rattle.hddl_meaning.specs.Types.{IsBelow}
use Rattle.hddl_names.specs.TypeNumbers.{type_at}
use Rattle.hddl_names.proofs.Found.{found-below}
use Rattle.hddl_names.proofs.Parents.{below-object}
use Rattle.hddl_names.proofs.Told.{leads-below, some-told}
use Rattle.hddl_names.proofs.hierarchy.TypeHierarchy.is_below.Goals as goal
use Rattle.hddl_names.proofs.hierarchy.TypeHierarchy.is_below.Goals.{then-t-u-via-then-t-u, then-t-u-via-else-t-u+then-u-eq-OBJECT}

pub returns-then-t-u : goal.returns-then-t-u
returns-then-t-u c =
    let below : IsBelow c.args.self.now (type_at c.args.self.now c.args.t) (type_at c.args.self.now c.args.u) = elim c.then-t-u.branch [
      | then-t-u-via-then-t-u w ↦ inl (ap (type_at c.args.self.now) w.if-t-u.true)
      | then-t-u-via-else-t-u+then-u-eq-OBJECT w ↦
          subst (λ u. IsBelow c.args.self.now (type_at c.args.self.now c.args.t) (type_at c.args.self.now u)) (sym w.if-u-eq-OBJECT.true) (below-object c.args.self.now c.args.t c.requires.t)
    ] in
    (λ _. below, λ _. refl)

pub returns-in-Some : goal.returns-in-Some
returns-in-Some c =
    let d = c.self.inside.domain.now in
    let told = some-told d c.self.inside.names.now c.self.inside.parents c.self.inside.children c.self.inside.closure c.in-Some.closure c.in-Some.is c.self.invariant in
    let both = leads-below d c.in-Some.closure c.args.t c.args.u told
    (subst (λ (d : DomainText). c.args.t < length (type_names d)) (sym c.self.view_is) c.requires.t)
    (subst (λ (d : DomainText). c.args.u < length (type_names d)) (sym c.self.view_is) c.requires.u) in
    subst (λ (d : DomainText). (c.leads_to.result ≡ true) ↔ IsBelow d (type_at d c.args.t) (type_at d c.args.u)) c.self.view_is
    (λ h. both.0 (c.leads_to.ensures.0 h), λ h. c.leads_to.ensures.1 (both.1 h))

pub returns : goal.returns
returns c =
    subst (λ (d : DomainText). (c.contains.result ≡ true) ↔ IsBelow d (type_at d c.args.t) (type_at d c.args.u)) c.self.view_is
    (subst (λ b. (b ≡ true) ↔ IsBelow c.self.inside.domain.now (type_at c.self.inside.domain.now c.args.t) (type_at c.self.inside.domain.now c.args.u)) (sym c.contains.ensures)
    (found-below c.self.inside.domain.now c.self.inside.names.now c.self.inside.parents c.self.inside.children c.args.t c.args.u c.in_ok-above.above.keys c.self.invariant.types
    (subst (λ (d : DomainText). c.args.t < length (type_names d)) (sym c.self.view_is) c.requires.t)
    (subst (λ (d : DomainText). c.args.u < length (type_names d)) (sym c.self.view_is) c.requires.u) c.in_ok-above.ensures))
