use Rattle.std.proofs.Common.{◌∙◌, inl, inr, sym}
use Rattle.htn_run.specs.Ends.{GetsAfter}
use Rattle.htn_run.proofs.After.{beside_after, line_after, never_unknown}
use Rattle.htn_run.proofs.Reporting.{faulty_answer, sound_is_quiet}
use Rattle.htn_run.proofs.Stopping.{at_five, at_three}
use Rattle.htn_run.proofs.ErrorLines.{fault_told, file_told, want_told}
use Rattle.htn_run.proofs.Unasked.{at_two}
use Rattle.htn_run.proofs.words.run_words.Goals as goal

pub returns-in-Err-run_request-clause-faulty : goal.returns-in-Err-run_request-clause-faulty
returns-in-Err-run_request-clause-faulty g c is = (
  c.in-Ok.request,
  c.in-Ok.ensures.asked,
  at_three g.O.Out.contents g.O.Out.has_failed (g.S.Source.files c.args.files.now) c.in-Ok.request c.args.out.now c.run_request.new.out
      c.in-Err-run_request.stop c.in-Err-run_request.ensures.stopped (sym c.tell.ensures.status ∙ is),
)

pub returns-in-Ok-run_request-clause-faulty : goal.returns-in-Ok-run_request-clause-faulty
returns-in-Ok-run_request-clause-faulty g c is =
    let answered = c.in-Ok-run_request.ensures.answered in (
      c.in-Ok.request,
      c.in-Ok.ensures.asked,
      faulty_answer (g.S.Source.files c.args.files.now) c.in-Ok.request c.in-Ok-run_request.reply answered.0 answered.1 (sym c.conclude.ensures.status ∙ is),
    )

pub returns-in-Ok-run_request-clause-none : goal.returns-in-Ok-run_request-clause-none
returns-in-Ok-run_request-clause-none g c is =
    (c.in-Ok.request, c.in-Ok.ensures.asked, (c.in-Ok-run_request.reply, sym c.conclude.ensures.status ∙ is, c.in-Ok-run_request.ensures.answered, (beside_after g.E.Out.contents g.E.Out.has_failed c.args.words.now (g.S.Source.files c.args.files.now) c.args.err.now c.run_request.new.err c.conclude.new.err (inr (c.in-Ok.request, c.in-Ok.ensures.asked, c.in-Ok-run_request.ensures.shows)) c.in-Ok-run_request.reply c.conclude.ensures.beside)))

pub returns-in-Ok-run_request-clause-quiet : goal.returns-in-Ok-run_request-clause-quiet
returns-in-Ok-run_request-clause-quiet g c is =
    sound_is_quiet c.in-Ok-run_request.reply _ _ (sym c.conclude.ensures.status ∙ is) (beside_after g.E.Out.contents g.E.Out.has_failed c.args.words.now (g.S.Source.files c.args.files.now) c.args.err.now c.run_request.new.err c.conclude.new.err (inr (c.in-Ok.request, c.in-Ok.ensures.asked, c.in-Ok-run_request.ensures.shows)) c.in-Ok-run_request.reply c.conclude.ensures.beside)

pub returns-in-Ok-run_request-clause-fault_line : goal.returns-in-Ok-run_request-clause-fault_line
returns-in-Ok-run_request-clause-fault_line g c is =
    inr (c.in-Ok.request, c.in-Ok.ensures.asked, (c.in-Ok-run_request.reply, sym c.conclude.ensures.status ∙ is, c.in-Ok-run_request.ensures.answered, (beside_after g.E.Out.contents g.E.Out.has_failed c.args.words.now (g.S.Source.files c.args.files.now) c.args.err.now c.run_request.new.err c.conclude.new.err (inr (c.in-Ok.request, c.in-Ok.ensures.asked, c.in-Ok-run_request.ensures.shows)) c.in-Ok-run_request.reply c.conclude.ensures.beside)))

pub returns-in-Err-run_request-clause-failed : goal.returns-in-Err-run_request-clause-failed
returns-in-Err-run_request-clause-failed g c is =
    let stops = at_five g.O.Out.contents g.O.Out.has_failed (g.S.Source.files c.args.files.now) c.in-Ok.request c.args.out.now c.run_request.new.out
    c.in-Err-run_request.stop c.in-Err-run_request.ensures.stopped (sym c.tell.ensures.status ∙ is) in
    elim stops [
      | inl lacks ↦ inl ((c.in-Ok.request, c.in-Ok.ensures.asked, lacks.0), lacks.1)
      | inr cut ↦ inr (inl (c.in-Ok.request, c.in-Ok.ensures.asked, cut.0), cut.1)
    ]

pub returns-in-Err-run_request-clause-fault_line : goal.returns-in-Err-run_request-clause-fault_line
returns-in-Err-run_request-clause-fault_line g c is =
    let told = fault_told (GetsAfter g.E.Out.contents g.E.Out.has_failed c.args.words.now (g.S.Source.files c.args.files.now) c.args.err.now c.tell.new.err) g.O.Out.contents g.O.Out.has_failed (g.S.Source.files c.args.files.now) c.in-Ok.request c.args.out.now c.run_request.new.out
    c.in-Err-run_request.stop c.in-Err-run_request.ensures.stopped (line_after g.E.Out.contents g.E.Out.has_failed c.args.words.now (g.S.Source.files c.args.files.now) c.args.err.now c.run_request.new.err c.tell.new.err (inr (c.in-Ok.request, c.in-Ok.ensures.asked, c.in-Err-run_request.ensures.shows)) _ c.tell.ensures.line) (sym c.tell.ensures.status ∙ is) in
    inl ((c.in-Ok.request, c.in-Ok.ensures.asked, told.0), told.1)

pub returns-in-Err-run_request-clause-want_line : goal.returns-in-Err-run_request-clause-want_line
returns-in-Err-run_request-clause-want_line g c is =
    let told = want_told (GetsAfter g.E.Out.contents g.E.Out.has_failed c.args.words.now (g.S.Source.files c.args.files.now) c.args.err.now c.tell.new.err) g.O.Out.contents g.O.Out.has_failed (g.S.Source.files c.args.files.now) c.in-Ok.request c.args.out.now c.run_request.new.out
    c.in-Err-run_request.stop c.in-Err-run_request.ensures.stopped (line_after g.E.Out.contents g.E.Out.has_failed c.args.words.now (g.S.Source.files c.args.files.now) c.args.err.now c.run_request.new.err c.tell.new.err (inr (c.in-Ok.request, c.in-Ok.ensures.asked, c.in-Err-run_request.ensures.shows)) _ c.tell.ensures.line) (sym c.tell.ensures.status ∙ is) in
    elim told [
      | inl memory ↦ inl memory
      | inr thread ↦ inr ((c.in-Ok.request, c.in-Ok.ensures.asked, thread.0), thread.1)
    ]

pub returns-in-Err-run_request-clause-file_line : goal.returns-in-Err-run_request-clause-file_line
returns-in-Err-run_request-clause-file_line g c is =
    let told = file_told (GetsAfter g.E.Out.contents g.E.Out.has_failed c.args.words.now (g.S.Source.files c.args.files.now) c.args.err.now c.tell.new.err) g.O.Out.contents g.O.Out.has_failed (g.S.Source.files c.args.files.now) c.in-Ok.request c.args.out.now c.run_request.new.out
    c.in-Err-run_request.stop c.in-Err-run_request.ensures.stopped (line_after g.E.Out.contents g.E.Out.has_failed c.args.words.now (g.S.Source.files c.args.files.now) c.args.err.now c.run_request.new.err c.tell.new.err (inr (c.in-Ok.request, c.in-Ok.ensures.asked, c.in-Err-run_request.ensures.shows)) _ c.tell.ensures.line) (sym c.tell.ensures.status ∙ is) in
    elim told [
      | inl file ↦ inl ((c.in-Ok.request, c.in-Ok.ensures.asked, file.0), file.1)
      | inr output ↦ inr output
    ]

pub returns-in-Ok-run_request-clause-unknown : goal.returns-in-Ok-run_request-clause-unknown
returns-in-Ok-run_request-clause-unknown g c is = (
  (c.in-Ok.request, c.in-Ok.ensures.asked, (c.in-Ok-run_request.reply, sym c.conclude.ensures.status ∙ is, c.in-Ok-run_request.ensures.answered, (beside_after g.E.Out.contents g.E.Out.has_failed c.args.words.now (g.S.Source.files c.args.files.now) c.args.err.now c.run_request.new.err c.conclude.new.err (inr (c.in-Ok.request, c.in-Ok.ensures.asked, c.in-Ok-run_request.ensures.shows)) c.in-Ok-run_request.reply c.conclude.ensures.beside))),
  c.in-Ok-run_request.ensures.works,
)

pub returns-in-Err-run_request-clause-unknown : goal.returns-in-Err-run_request-clause-unknown
returns-in-Err-run_request-clause-unknown g c is = absurd (never_unknown c.in-Err-run_request.stop (sym c.tell.ensures.status ∙ is))

pub returns-in-Err-clause-refused : goal.returns-in-Err-clause-refused
returns-in-Err-clause-refused g c is =
    let two = at_two g.O.Out.contents g.O.Out.has_failed g.E.Out.contents g.E.Out.has_failed c.in-Err.refusal c.args.out.now c.refuse.new.out c.args.err.now c.refuse.new.err c.refuse.result c.refuse.ensures is in
    c.in-Err.ensures.refused two.0

pub returns-in-Err-clause-mistaken : goal.returns-in-Err-clause-mistaken
returns-in-Err-clause-mistaken g c is =
    let two = at_two g.O.Out.contents g.O.Out.has_failed g.E.Out.contents g.E.Out.has_failed c.in-Err.refusal c.args.out.now c.refuse.new.out c.args.err.now c.refuse.new.err c.refuse.result c.refuse.ensures is in
    c.in-Err.ensures.mistaken two.1
