use Rattle.std.proofs.Common.{◌↔◌, ◌∙◌, IsTrue, Bool, subst, sym}
use Rattle.hddl_words.specs.declared.domain.DomainText.{DomainText}
use Rattle.hddl_meaning.specs.Types.{IsBelow}
use Rattle.hddl_meaning.specs.Items.{MayStand, ShareSubtype}
use Rattle.hddl_names.specs.TypeNumbers.{type_at}
use Rattle.hddl_uses.proofs.Placing.{barred, not_barred, same_stands, stands_below, stands_sharing, type_text, type_unknown}
use Rattle.hddl_uses.proofs.arguments.is_barred.Goals.{then-is_quantified+in_ok-stands-in-Some-Some, else-is_quantified+in_ok-stands-in-Some-Some-2}
use Rattle.hddl_uses.proofs.arguments.is_barred.Goals as goal

pub returns-then-have_same_type : goal.returns-then-have_same_type
returns-then-have_same_type c =
    let d = c.args.context.now.domain.now in
    let same = c.have_same_type.ensures c.if-have_same_type.true in
    not_barred d c.args.variable.now c.args.place.now (λ h. h.2 (same_stands d c.args.variable.now c.args.place.now same h.0))

pub returns-after-is_quantified : goal.returns-after-is_quantified
returns-after-is_quantified c =
    let d = c.args.context.now.domain.now in
    let v = c.args.variable.now in
    let place = c.args.place.now in
    let t = c.in-Some-Some.own in
    let u = c.in-Some-Some.wanted in
    let own = sym c.type_number.ensures ∙ c.in-Some-Some.is-0 in
    let wanted = sym c.type_number-2.ensures ∙ c.in-Some-Some.is-1 in
    let stands : IsTrue c.if-is_quantified.stands ↔ MayStand d v (type_text place) =
    elim c.if-is_quantified.branch [
      | then-is_quantified+in_ok-stands-in-Some-Some w ↦
          subst (λ (b : Bool). IsTrue b ↔ MayStand d v (type_text place)) (sym w.stands-is)
          (stands_below d v place t u own wanted w.in_ok-stands-in-Some-Some.stands (sym c.is_quantified.ensures ∙ w.if-is_quantified.true)
          (subst (λ (e : DomainText). IsTrue w.in_ok-stands-in-Some-Some.stands ↔ IsBelow e (type_at e t) (type_at e u)) c.args.context.now.known_types w.in_ok-stands-in-Some-Some.ensures))
      | else-is_quantified+in_ok-stands-in-Some-Some-2 w ↦
          subst (λ (b : Bool). IsTrue b ↔ MayStand d v (type_text place)) (sym w.stands-is)
          (stands_sharing d v place t u own wanted w.in_ok-stands-in-Some-Some-2.stands (sym c.is_quantified.ensures ∙ w.if-is_quantified.false)
          (subst (λ (e : DomainText). IsTrue w.in_ok-stands-in-Some-Some-2.stands ↔ ShareSubtype e (type_at e t) (type_at e u)) c.args.context.now.known_types w.in_ok-stands-in-Some-Some-2.ensures))
    ] in
    barred d v place t u c.if-is_quantified.stands own wanted stands

pub returns-in_default : goal.returns-in_default
returns-in_default c =
    let d = c.args.context.now.domain.now in
    not_barred d c.args.variable.now c.args.place.now (λ h. type_unknown d (type_text c.args.place.now) (sym c.type_number-2.ensures ∙ c.in_default.is-1) h.1)

pub returns-in_default-2 : goal.returns-in_default-2
returns-in_default-2 c =
    let d = c.args.context.now.domain.now in
    not_barred d c.args.variable.now c.args.place.now (λ h. type_unknown d (type_text c.args.variable.now) (sym c.type_number.ensures ∙ c.in_default.is-0) h.0)
