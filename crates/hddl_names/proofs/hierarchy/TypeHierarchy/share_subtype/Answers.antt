use Rattle.std.proofs.Common.{◌≡◌, ◌↔◌, ◌<◌, true, refl, sym, subst, length}
use Rattle.hddl_words.specs.declared.domain.DomainText.{DomainText}
use Rattle.hddl_meaning.specs.Names.{type_names}
use Rattle.hddl_meaning.specs.Items.{ShareSubtype}
use Rattle.hddl_names.specs.TypeNumbers.{type_at}
use Rattle.hddl_names.proofs.Found.{found-share, below-share, above-share}
use Rattle.hddl_names.proofs.Parents.{below-object}
use Rattle.hddl_names.proofs.Told.{meet-share, some-told}
use Rattle.hddl_names.proofs.hierarchy.TypeHierarchy.share_subtype.Goals as goal
use Rattle.hddl_names.proofs.hierarchy.TypeHierarchy.share_subtype.Goals.{then-t-eq-OBJECT-via-then-t-eq-OBJECT, then-t-eq-OBJECT-via-else-t-eq-OBJECT+then-u-eq-OBJECT}

pub returns-then-t-eq-OBJECT : goal.returns-then-t-eq-OBJECT
returns-then-t-eq-OBJECT c =
    let d = c.args.self.now in
    let shared : ShareSubtype d (type_at d c.args.t) (type_at d c.args.u) = elim c.then-t-eq-OBJECT.branch [
      | then-t-eq-OBJECT-via-then-t-eq-OBJECT w ↦
          subst (λ t. ShareSubtype d (type_at d t) (type_at d c.args.u)) (sym w.if-t-eq-OBJECT.true) (above-share d 0 c.args.u c.requires.u (below-object d c.args.u c.requires.u))
      | then-t-eq-OBJECT-via-else-t-eq-OBJECT+then-u-eq-OBJECT w ↦
          subst (λ u. ShareSubtype d (type_at d c.args.t) (type_at d u)) (sym w.if-u-eq-OBJECT.true) (below-share d c.args.t 0 c.requires.t (below-object d c.args.t c.requires.t))
    ] in
    (λ _. shared, λ _. refl)

pub returns-in-Some : goal.returns-in-Some
returns-in-Some c =
    let d = c.self.inside.domain.now in
    let told = some-told d c.self.inside.names.now c.self.inside.parents c.self.inside.children c.self.inside.closure c.in-Some.closure c.in-Some.is c.self.invariant in
    let both = meet-share d c.in-Some.closure c.args.t c.args.u told
    (subst (λ (d : DomainText). c.args.t < length (type_names d)) (sym c.self.view_is) c.requires.t)
    (subst (λ (d : DomainText). c.args.u < length (type_names d)) (sym c.self.view_is) c.requires.u) in
    subst (λ (d : DomainText). (c.meet.result ≡ true) ↔ ShareSubtype d (type_at d c.args.t) (type_at d c.args.u)) c.self.view_is
    (λ h. both.0 (c.meet.ensures.0 h), λ h. c.meet.ensures.1 (both.1 h))

pub returns : goal.returns
returns c =
    let d = c.self.inside.domain.now in
    let shared = found-share d c.self.inside.names.now c.self.inside.parents c.self.inside.children c.args.t c.args.u c.in_ok-below_t.below_t.keys c.in_ok-below_u.below_u.keys c.self.invariant.types
    (subst (λ (d : DomainText). c.args.t < length (type_names d)) (sym c.self.view_is) c.requires.t)
    (subst (λ (d : DomainText). c.args.u < length (type_names d)) (sym c.self.view_is) c.requires.u) c.in_ok-below_t.ensures c.in_ok-below_u.ensures in
    subst (λ (d : DomainText). (c.share.result ≡ true) ↔ ShareSubtype d (type_at d c.args.t) (type_at d c.args.u)) c.self.view_is
    (λ h. shared.0 (c.share.ensures.0 h), λ h. c.share.ensures.1 (shared.1 h))
