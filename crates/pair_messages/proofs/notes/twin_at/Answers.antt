use Rattle.std.proofs.Common.{◌∙◌, ℕ, IfSome, Option, ap, refl, subst}
use Rattle.hddl_meaning.specs.Mentions.{folded}
use Rattle.pair_messages.specs.Notes.{IsFirstIn, name_lists}
use Rattle.pair_messages.proofs.notes.twin_at.Goals as goal

pub returns-in-Some : goal.returns-in-Some
returns-in-Some c =
    let t = c.args.index.now.texts.now in
    let lists = name_lists t.domain_tree.now t.problem_tree.now c.args.at.source in
    let first = subst (λ (o : Option ℕ). IfSome o (IsFirstIn lists c.as_slice.result.now)) c.in-Some.is c.in_ok-first.ensures in
    (refl, subst (λ text. IsFirstIn lists text c.in-Some.place) (c.as_slice.ensures ∙ c.in_ok-text.ensures ∙ ap folded c.word_of-word.ensures) first)
