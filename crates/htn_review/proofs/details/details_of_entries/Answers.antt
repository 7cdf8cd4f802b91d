use Rattle.std.proofs.Common.{◌∙◌, ◌++◌, [], ◌∷◌, ap, subst, sym, take}
use Rattle.std.proofs.lemmas.List.{take_more}
use Rattle.line_details.specs.Entries.{spans_of}
use Rattle.line_details.specs.declared.entry.Entry.{Entry}
use Rattle.picture_text.specs.declared.detail.Detail.{Detail}
use Rattle.htn_review.specs.Details.{ShowsInstance}
use Rattle.htn_review.specs.Sights.{ShowEntries}
use Rattle.htn_review.proofs.Detailed.{zip_more}
use Rattle.htn_review.proofs.details.details_of_entries.Goals as goal

pub loop-entry-preserved : goal.loop-entry-preserved
loop-entry-preserved c =
    let d = c.args.domain.now in
    let t = c.args.task.now in
    let entries = c.args.entries.now in
    let i = c.loop-entry.entry-index in
    let e = c.entry-item.result in
    let shows = rw c.in-Some.is at c.in_ok-detail.ensures in
    let more = take_more entries i e c.loop-entry-test.true ∙ ap (λ x. take i entries ++ x ∷ []) (sym c.entry-item.is) in
    subst (λ xs. ShowEntries d t xs c.push.new.self.items) (sym more)
    (subst (λ ys. ShowEntries d t (take i entries ++ e ∷ []) ys) (sym c.in_ok-push.ensures.items)
    (zip_more (λ (e : Entry) (x : Detail). ShowsInstance d t e.instance ((spans_of e).start 0) x) (take i entries) c.loop-entry.found.items e c.in-Some.detail c.loop-entry.invariant shows))
