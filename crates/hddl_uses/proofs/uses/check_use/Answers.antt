use Rattle.std.proofs.Common.{◌≡◌, ◌∙◌, List, [], MatchOption, Option, Bor, Some, ap, map, subst, sym, take}
use Rattle.hddl_words.specs.declared.term.Term.{Term}
use Rattle.hddl_meaning.specs.Mentions.{IsIn, Text, folded}
use Rattle.hddl_meaning.specs.Uses.{Variable}
use Rattle.hddl_meaning.specs.Items.{IsMissing, Signature, declaration_in}
use Rattle.hddl_meaning.specs.declared.fault.CheckFault.TheVariants.{UnknownName}
use Rattle.hddl_scope.specs.Findings.{Adds}
use Rattle.hddl_scope.proofs.Adding.{added_at}
use Rattle.hddl_uses.specs.Contexts.{AnyArgumentFails, PlacesFail}
use Rattle.hddl_uses.specs.Tables.{HasPlaces, IsAmong}
use Rattle.hddl_uses.proofs.Arguing.{known_added, misnamed_added, not_declared, undeclared_added}
use Rattle.hddl_uses.proofs.Counting.{all_names}
use Rattle.hddl_uses.proofs.uses.check_use.Goals as goal

pub returns-in-Some : goal.returns-in-Some
returns-in-Some c = λ signatures table.
    let context = c.args.context.now in
    let t : Text = folded c.args.atom.now.name.text in
    let first = take c.args.count signatures in
    let known = subst (λ (x : Text). IsAmong first x × HasPlaces signatures x c.in-Some.places.now) (c.as_slice.ensures ∙ c.in_ok-text.ensures ∙ ap folded c.text.ensures.value)
    (subst (λ (o : Option (Bor (List Variable))). MatchOption o (IsAmong first c.as_slice.result.now → ⊥) (λ x. IsAmong first c.as_slice.result.now × HasPlaces signatures c.as_slice.result.now x.now)) c.in-Some.is (c.get.ensures signatures table)) in
    let (among, (s, is, places)) = known in
    known_added context c.args.scope.now c.args.atom.now (map (λ s. s.name) first) signatures s is among
    (subst (λ (l : List Variable). Adds (λ _. ⊥) (PlacesFail context c.args.scope.now c.args.atom.now l) c.args.found.now c.check_places.new.found) places c.in_ok-check_places.ensures)

pub returns-in-Some-get : goal.returns-in-Some-get
returns-in-Some-get c = λ signatures table.
    let context = c.args.context.now in
    let t : Text = folded c.args.atom.now.name.text in
    let first = take c.args.count signatures in
    let all = take c.len.result signatures in
    let missing : IsAmong first t → ⊥ = subst (λ (x : Text). IsAmong first x → ⊥) (c.as_slice.ensures ∙ c.in_ok-text.ensures ∙ ap folded c.text.ensures.value)
    (subst (λ (o : Option (Bor (List Variable))). MatchOption o (IsAmong first c.as_slice.result.now → ⊥) (λ x. IsAmong first c.as_slice.result.now × HasPlaces signatures c.as_slice.result.now x.now)) c.in_default.is (c.get.ensures signatures table)) in
    let known = subst (λ (x : Text). IsAmong all x × HasPlaces signatures x c.in-Some-get.places.now) (c.as_slice-2.ensures ∙ c.in_ok-text.ensures ∙ ap folded c.text.ensures.value)
    (subst (λ (o : Option (Bor (List Variable))). MatchOption o (IsAmong all c.as_slice-2.result.now → ⊥) (λ x. IsAmong all c.as_slice-2.result.now × HasPlaces signatures c.as_slice-2.result.now x.now)) c.in-Some-get.is (c.get-2.ensures signatures table)) in
    let (among, (s, is, places)) = known in
    misnamed_added context c.args.scope.now c.args.atom.now (map (λ s. s.name) first) signatures s is
    (added_at UnknownName context.source {P = IsMissing (map (λ s. s.name) first) c.args.atom.now.name} c.place.result c.at.result (missing, c.place.ensures)
    (λ other h. h.1 ∙ sym c.place.ensures) c.at.ensures c.in_ok-push.ensures)
    (subst (λ (l : List Variable). Adds (λ _. ⊥) (PlacesFail context c.args.scope.now c.args.atom.now l) c.push.new.self c.check_places-in-Some-get.new.found) places c.in_ok-check_places-2.ensures)

pub returns : goal.returns
returns c = λ signatures table.
    let context = c.args.context.now in
    let t : Text = folded c.args.atom.now.name.text in
    let first = take c.args.count signatures in
    let all = take c.len.result signatures in
    let missing : IsAmong first t → ⊥ = subst (λ (x : Text). IsAmong first x → ⊥) (c.as_slice.ensures ∙ c.in_ok-text.ensures ∙ ap folded c.text.ensures.value)
    (subst (λ (o : Option (Bor (List Variable))). MatchOption o (IsAmong first c.as_slice.result.now → ⊥) (λ x. IsAmong first c.as_slice.result.now × HasPlaces signatures c.as_slice.result.now x.now)) c.in_default.is (c.get.ensures signatures table)) in
    let nowhere : IsAmong all t → ⊥ = subst (λ (x : Text). IsAmong all x → ⊥) (c.as_slice-2.ensures ∙ c.in_ok-text.ensures ∙ ap folded c.text.ensures.value)
    (subst (λ (o : Option (Bor (List Variable))). MatchOption o (IsAmong all c.as_slice-2.result.now → ⊥) (λ x. IsAmong all c.as_slice-2.result.now × HasPlaces signatures c.as_slice-2.result.now x.now)) c.in_default-get.is (c.get-2.ensures signatures table)) in
    let undeclared : IsIn t (map (λ s. s.name) signatures) → ⊥ = subst (λ l. IsIn t l → ⊥) (all_names signatures c.args.declared.now c.len.result table c.len.ensures) nowhere in
    undeclared_added context c.args.scope.now c.args.atom.now (map (λ s. s.name) first) signatures (not_declared signatures t undeclared)
    (added_at UnknownName context.source {P = IsMissing (map (λ s. s.name) first) c.args.atom.now.name} c.place.result c.at.result (missing, c.place.ensures)
    (λ other h. h.1 ∙ sym c.place.ensures) c.at.ensures c.in_ok-push.ensures)
    (subst (λ (l : List Term). Adds (λ _. ⊥) (AnyArgumentFails context c.args.scope.now l []) c.push.new.self c.check_arguments.new.found) c.as_slice-3.ensures c.in_ok-check_arguments.ensures)
