use Rattle.std.proofs.Common.{◌≡◌, ◌∙◌, ◌<◌, None, ap, option_map, slice_get, refl, sym}
use Rattle.std.specs.List.{position}
use Rattle.hddl_meaning.specs.Mentions.{Mention}
use Rattle.hddl_meaning.specs.Uses.{Variable}
use Rattle.hddl_scope.specs.Repeats.{repeat_of}
use Rattle.hddl_scope.specs.Scopes.{has_text}
use Rattle.hddl_scope.proofs.Standing.{first_before, mention_at, not_before, nowhere}
use Rattle.hddl_scope.proofs.in_force.Scope.repeat_at.Goals as goal

pub returns-in_default-position : goal.returns-in_default-position
returns-in_default-position c m at =
    let vs = c.args.self.now in
    let is : c.in-Some.variable.now.typed.mention ≡ m = mention_at vs c.args.position c.in-Some.variable.now m (sym c.at.ensures ∙ ap (option_map (λ v. v.now)) c.in-Some.is) at in
    let found = sym c.position.ensures ∙ c.in_default-position.is in
    let text = c.text.ensures ∙ ap (λ (x : Mention). x.text) is in
    (None, nowhere m.text vs c.args.position (ap (λ t. position (has_text t) vs) (sym text) ∙ found), refl)

pub returns-then-first-position : goal.returns-then-first-position
returns-then-first-position c m at =
    let vs = c.args.self.now in
    let is : c.in-Some.variable.now.typed.mention ≡ m = mention_at vs c.args.position c.in-Some.variable.now m (sym c.at.ensures ∙ ap (option_map (λ v. v.now)) c.in-Some.is) at in
    let found = sym c.position.ensures ∙ c.in-Some-position.is in
    let text = c.text.ensures ∙ ap (λ (x : Mention). x.text) is in
    (None, not_before m.text vs c.args.position c.in-Some-position.first (ap (λ t. position (has_text t) vs) (sym text) ∙ found) c.if-first-position.true, refl)

pub returns : goal.returns
returns c m at =
    let vs = c.args.self.now in
    let is : c.in-Some.variable.now.typed.mention ≡ m = mention_at vs c.args.position c.in-Some.variable.now m (sym c.at.ensures ∙ ap (option_map (λ v. v.now)) c.in-Some.is) at in
    let found = sym c.position.ensures ∙ c.in-Some-position.is in
    let text = c.text.ensures ∙ ap (λ (x : Mention). x.text) is in
    let before : c.in-Some-position.first < c.args.position = c.if-first-position.false in (
      option_map (λ (v : Variable). v.typed.mention.place) (slice_get vs c.in-Some-position.first),
      first_before m.text vs c.args.position c.in-Some-position.first (ap (λ t. position (has_text t) vs) (sym text) ∙ found) before,
      c.later.ensures ∙ (λ i. repeat_of (c.place_at.ensures i) ((c.place.ensures ∙ ap (λ (x : Mention). x.place) is) i)),
    )
