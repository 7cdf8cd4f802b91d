use Rattle.std.proofs.Common.{◌≡◌, ◌∙◌, ◌<◌, ◌≤◌, ap, arith, length, sym, take}
use Rattle.std.proofs.lemmas.List.{length-map}
use Rattle.hddl_meaning.specs.Items.{variable_mentions}
use Rattle.hddl_scope.specs.Repeats.{IsRepeatOfFirst}
use Rattle.hddl_scope.specs.declared.in_force.Entry.{Entry}
use Rattle.hddl_scope.proofs.Repeating.{with_place}
use Rattle.hddl_scope.proofs.Standing.{Listed-step, Listed-whole}
use Rattle.hddl_scope.proofs.in_force.Scope.repeats.Goals as goal
use Rattle.hddl_scope.proofs.in_force.Scope.repeats.Goals.{in-Some+in_ok-push, in_default}

pub loop-position-preserved : goal.loop-position-preserved
loop-position-preserved c =
    let vs = c.args.self.now in
    let entries = c.self.inside.entries.items in
    let long : length entries ≡ length vs = sym (length-map entries (λ (e : Entry). e.variable)) ∙ ap length c.self.view_is in
    let end : c.len-position-end.result ≡ length entries = c.len-position-end.ensures ∙ c.self.inside.entries.ok.0 in
    let lt : c.loop-position.position < c.len-position-end.result = c.loop-position-test.true in
    let next : c.match-repeat_at.places.items ≡ with_place c.loop-position.places.items c.repeat_at.result =
    elim c.match-repeat_at.branch [
      | in-Some+in_ok-push w ↦ ap (λ v. v.items) w.places-is ∙ w.in_ok-push.ensures.items ∙ ap (with_place c.loop-position.places.items) (sym w.in-Some.is)
      | in_default w ↦ ap (λ v. v.items) w.places-is ∙ ap (with_place c.loop-position.places.items) (sym w.in_default.is)
    ] in
    Listed-step (IsRepeatOfFirst (take c.args.start (variable_mentions vs))) vs c.loop-position.position c.repeat_at.result c.loop-position.places.items c.match-repeat_at.places.items
    (omega (arith, lt, end, long)) c.repeat_at.ensures next c.loop-position.invariant

pub returns : goal.returns
returns c =
    let vs = c.args.self.now in
    let entries = c.self.inside.entries.items in
    let long : length entries ≡ length vs = sym (length-map entries (λ (e : Entry). e.variable)) ∙ ap length c.self.view_is in
    let end : c.len-position-end.result ≡ length entries = c.len-position-end.ensures ∙ c.self.inside.entries.ok.0 in
    let past : c.len-position-end.result ≤ c.loop-position.position = c.loop-position-test.false in
    Listed-whole vs c.args.start c.loop-position.position c.loop-position.places.items (omega (arith, past, end, long)) c.loop-position.invariant
