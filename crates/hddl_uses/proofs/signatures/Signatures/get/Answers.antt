use Rattle.std.proofs.Common.{◌≡◌, ◌∙◌, ap, sym, option_map, slice_get, Some}
use Rattle.std.proofs.lemmas.Option.{slice_get-get_or}
use Rattle.hddl_uses.proofs.Tabling.{absent, later, row}
use Rattle.hddl_uses.proofs.signatures.Signatures.get.Goals.{in_default-via-in-Some+else-number-count, in_default-via-in_default}
use Rattle.hddl_uses.proofs.signatures.Signatures.get.Goals as goal

pub returns-in-Some-get : goal.returns-in-Some-get
returns-in-Some-get c = λ signatures is.
    let number = c.in-Some.number in
    let found = c.in-Some-get.ensures.lookup in
    let at : slice_get c.args.self.now.places.items number ≡ Some c.in-Some-get.places.now =
    ap (λ l. slice_get l number) (sym c.deref.ensures.value) ∙ slice_get-get_or c.deref.result.now number c.in-Some-get.places.now found.3.0 ∙ ap Some (sym found.1) in
    row signatures c.args.self.now c.args.count c.args.text.now is number c.as_slice.result.now
    (sym c.get.ensures ∙ c.in-Some.is) c.if-number-count.true (ap (option_map (λ v. v.items)) at ∙ ap Some (sym c.as_slice.ensures.value))

pub returns-in_default : goal.returns-in_default
returns-in_default c = λ signatures is.
    elim c.in_default.branch [
      | in_default-via-in-Some+else-number-count w ↦ later signatures c.args.self.now c.args.count c.args.text.now is w.in-Some.number (sym c.get.ensures ∙ w.in-Some.is) w.if-number-count.false
      | in_default-via-in_default w ↦ absent signatures c.args.self.now c.args.count c.args.text.now is (sym c.get.ensures ∙ w.in_default.is)
    ]
