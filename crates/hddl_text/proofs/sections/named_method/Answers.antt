use Rattle.std.proofs.Common.{◌≡◌, Some, None, sym, ◌∙◌, arith}
use Rattle.std.proofs.lemmas.Result.{err_from_is_err_and}
use Rattle.hddl_words.specs.Words.{word_of}
use Rattle.hddl_words.proofs.AgreeMore.{ended_failed, ended_close, ended_early, ended_item_failed, ended_more}
use Rattle.hddl_text.specs.Drafts.{method_of}
use Rattle.hddl_text.specs.Grammar.{IsMethodPart}
use Rattle.hddl_text.specs.Readers.{method_part, named_method}
use Rattle.hddl_text.proofs.SectionsAgree.{method_part_agrees}
use Rattle.hddl_text.proofs.sections.named_method.Goals as goal

pub returns-in_err-word-clause-reads : goal.returns-in_err-word-clause-reads
unfolding named_method
returns-in_err-word-clause-reads c =
    let p = err_from_is_err_and c.from_residual.result c.from_residual.ensures.1 in
    rw (p.1, p.2) (λ some. sym c.parts.invariant.same ∙ ended_failed (method_of c.args.place c.args.name) IsMethodPart method_part method_part_agrees c.parts.parts c.parts.cursor _ c.in_err-word.ensures.word.1)

pub returns-in_err-method_part-clause-reads : goal.returns-in_err-method_part-clause-reads
unfolding named_method
returns-in_err-method_part-clause-reads c =
    let p = err_from_is_err_and c.from_residual-in_err-method_part.result c.from_residual-in_err-method_part.ensures.1 in
    rw (p.1, p.2) (λ some. sym c.parts.invariant.same ∙ ended_item_failed (method_of c.args.place c.args.name) IsMethodPart method_part method_part_agrees c.parts.parts c.parts.cursor c.next.new.self (word_of c.in_ok-word.word) _ c.in_ok-word.ensures.word (sym c.is_close.ensures ∙ c.if-is_close.false) (c.in_err-method_part.ensures.reads some))

pub parts-preserved : goal.parts-preserved
parts-preserved c =
    let step = ended_more (method_of c.args.place c.args.name) IsMethodPart method_part method_part_agrees c.parts.parts c.method_part.new.parts c.parts.cursor c.next.new.self c.method_part.new.cursor (word_of c.in_ok-word.word) c.in_ok-word.ensures.word (sym c.is_close.ensures ∙ c.if-is_close.false) c.in_ok-method_part.ensures.reads in
    record { same = sym step ∙ c.parts.invariant.same; shorter = omega (arith, c.in_ok-method_part.ensures.shorter, c.in_ok-word.ensures.shorter) }

pub returns-in-Some-clause-reads : goal.returns-in-Some-clause-reads
unfolding named_method
returns-in-Some-clause-reads c =
    let complete : method_of c.args.place c.args.name c.parts.parts ≡ Some c.in-Some.method = sym c.in-Some.ensures in
    sym c.parts.invariant.same ∙ ended_close (method_of c.args.place c.args.name) IsMethodPart method_part method_part_agrees c.parts.parts c.in-Some.method c.parts.cursor c.next.new.self (word_of c.in_ok-word.word) c.in_ok-word.ensures.word (sym c.is_close.ensures ∙ c.if-is_close.true) complete

pub returns-in-None-clause-reads : goal.returns-in-None-clause-reads
unfolding named_method
returns-in-None-clause-reads c =
    let lacks : method_of c.args.place c.args.name c.parts.parts ≡ None = sym c.in-None.ensures in
    λ some. rw c.refuse.ensures (sym c.parts.invariant.same ∙ ended_early (method_of c.args.place c.args.name) IsMethodPart method_part method_part_agrees c.parts.parts c.parts.cursor c.next.new.self (word_of c.in_ok-word.word) c.in_ok-word.ensures.word (sym c.is_close.ensures ∙ c.if-is_close.true) lacks)
