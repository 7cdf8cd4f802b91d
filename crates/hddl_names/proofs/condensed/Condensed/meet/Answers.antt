use Rattle.std.proofs.Common.{◌≡◌, ◌∙◌, ◌↔◌, ℕ, List, true, ap, subst}
use Rattle.hddl_names.specs.Heads.{Condensed, HeadsMeet, head_at}
use Rattle.hddl_names.proofs.Heads.{meet_apart}
use Rattle.hddl_names.proofs.condensed.Condensed.meet.Goals as goal

pub returns : goal.returns
returns c =
    let all : Condensed = record { heads = c.self.inside.heads.items; closure = c.self.inside.closure } in
    subst (λ (k : Condensed). (c.meet.result ≡ true) ↔ HeadsMeet k c.args.a c.args.b) c.self.view_is
    (meet_apart all c.args.a c.args.b c.head_of-one.result c.head_of-other.result c.meet.result
    (c.head_of-one.ensures ∙ ap (λ (hs : List ℕ). head_at hs c.args.a) c.deref.ensures.value)
    (c.head_of-other.ensures ∙ ap (λ (hs : List ℕ). head_at hs c.args.b) c.deref-2.ensures.value) c.if-one-eq0.false c.if-other-eq0.false c.meet.ensures)
