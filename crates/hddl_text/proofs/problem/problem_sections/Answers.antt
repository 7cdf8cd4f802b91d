use Rattle.std.proofs.Common.{◌≡◌, Some, None, sym, ◌∙◌, arith}
use Rattle.std.proofs.lemmas.Result.{err_from_is_err_and}
use Rattle.hddl_words.specs.Words.{word_of}
use Rattle.hddl_words.proofs.AgreeMore.{ended_failed, ended_close, ended_early, ended_item_failed, ended_more}
use Rattle.hddl_text.specs.Drafts.{problem_of}
use Rattle.hddl_text.specs.Grammar.{IsProblemSection}
use Rattle.hddl_text.specs.Readers.{problem_section, problem_sections}
use Rattle.hddl_text.proofs.SectionsAgree.{problem_section_agrees}
use Rattle.hddl_text.proofs.problem.problem_sections.Goals as goal

pub returns-in_err-word-clause-reads : goal.returns-in_err-word-clause-reads
unfolding problem_sections
returns-in_err-word-clause-reads c =
    let p = err_from_is_err_and c.from_residual.result c.from_residual.ensures.1 in
    rw (p.1, p.2) (λ some. sym c.parts.invariant.same ∙ ended_failed (problem_of c.args.name) IsProblemSection problem_section problem_section_agrees c.parts.parts c.parts.cursor _ c.in_err-word.ensures.word.1)

pub returns-in_err-problem_section-clause-reads : goal.returns-in_err-problem_section-clause-reads
unfolding problem_sections
returns-in_err-problem_section-clause-reads c =
    let p = err_from_is_err_and c.from_residual-in_err-problem_section.result c.from_residual-in_err-problem_section.ensures.1 in
    rw (p.1, p.2) (λ some. sym c.parts.invariant.same ∙ ended_item_failed (problem_of c.args.name) IsProblemSection problem_section problem_section_agrees c.parts.parts c.parts.cursor c.next.new.self (word_of c.in_ok-word.word) _ c.in_ok-word.ensures.word (sym c.is_close.ensures ∙ c.if-is_close.false) (c.in_err-problem_section.ensures.reads some))

pub parts-preserved : goal.parts-preserved
parts-preserved c =
    let step = ended_more (problem_of c.args.name) IsProblemSection problem_section problem_section_agrees c.parts.parts c.problem_section.new.parts c.parts.cursor c.next.new.self c.problem_section.new.cursor (word_of c.in_ok-word.word) c.in_ok-word.ensures.word (sym c.is_close.ensures ∙ c.if-is_close.false) c.in_ok-problem_section.ensures.reads in
    record { same = sym step ∙ c.parts.invariant.same; shorter = omega (arith, c.in_ok-problem_section.ensures.shorter, c.in_ok-word.ensures.shorter) }

pub returns-in-Some-clause-reads : goal.returns-in-Some-clause-reads
unfolding problem_sections
returns-in-Some-clause-reads c =
    let complete : problem_of c.args.name c.parts.parts ≡ Some c.in-Some.problem = sym c.in-Some.ensures in
    sym c.parts.invariant.same ∙ ended_close (problem_of c.args.name) IsProblemSection problem_section problem_section_agrees c.parts.parts c.in-Some.problem c.parts.cursor c.next.new.self (word_of c.in_ok-word.word) c.in_ok-word.ensures.word (sym c.is_close.ensures ∙ c.if-is_close.true) complete

pub returns-in-None-clause-reads : goal.returns-in-None-clause-reads
unfolding problem_sections
returns-in-None-clause-reads c =
    let lacks : problem_of c.args.name c.parts.parts ≡ None = sym c.in-None.ensures in
    λ some. rw c.refuse.ensures (sym c.parts.invariant.same ∙ ended_early (problem_of c.args.name) IsProblemSection problem_section problem_section_agrees c.parts.parts c.parts.cursor c.next.new.self (word_of c.in_ok-word.word) c.in_ok-word.ensures.word (sym c.is_close.ensures ∙ c.if-is_close.true) lacks)
