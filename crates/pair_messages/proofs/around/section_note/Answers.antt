use Rattle.std.proofs.Common.{ℕ, IfSome, Option, subst}
use Rattle.pair_messages.specs.declared.phrases.Section.{Section}
use Rattle.pair_messages.specs.Notes.{IsSectionAround}
use Rattle.pair_messages.proofs.around.section_note.Goals as goal

pub returns : goal.returns
returns c =
    let t = c.args.index.now.texts.now in
    let at = c.args.at in (
      record { source = at.source; place = c.in-Some.around.1 },
      subst (λ (o : Option (Section × ℕ)). IfSome o (λ s. IsSectionAround t.domain_tree.now t.problem_tree.now at (record { source = at.source; place = s.1 }))) c.in-Some.is c.in_ok-found.ensures,
      c.note_at.ensures,
    )
