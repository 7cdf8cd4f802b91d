use Rattle.std.proofs.Common.{◌∙◌, refl}
use Rattle.std.proofs.lemmas.List.{length-map}
use Rattle.plan_lines.proofs.Seeded.{start}
use Rattle.plan_lines.proofs.history.Turns.new.Goals as goal

pub returns : goal.returns
returns c =
    start c.args.initial.now _ refl refl (c.in_ok-atoms.ensures ∙ c.atoms.ensures.value)
    (length-map c.in_ok-turns.turns.items (λ v. v.items) ∙ c.in_ok-turns.ensures.many ∙ c.len.ensures.len) c.in_ok-turns.ensures.none
