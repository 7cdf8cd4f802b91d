use Rattle.std.proofs.Common.{◌≡◌, ℕ, ◌+◌, ◌<◌, List, ◌∷◌, ◌++◌, [], false, not, length, get_or, take, if◌then◌else◌, ap, sym, subst, ◌∙◌, arith, length-append}
use Rattle.std.specs.Prelude.{Result, Ok, Err, OnErr}
use Rattle.std.specs.List.{list_any}
use Rattle.indexmap.specs.IndexSet.{insert_all}
use Rattle.workers.proofs.Sharing.{marked_more, pushed_last, pushed_so}
use Rattle.workers.proofs.set.push_new.Goals as goal

pub loop-place-preserved : goal.loop-place-preserved
loop-place-preserved g c =
    let eq = g.T.PartialEq.eq in
    let old = c.args.values.now.items in
    let batch = c.args.batch.now in
    let place = c.loop-place.place in
    let now = c.loop-place.values.items in
    let marks = c.loop-place.is_new.items in
    let i = c.loop-place.invariant in
    let fresh = c.is_new_at-fresh.result in
    let inside = c.loop-place-test.true in
    let x = c.index-batch-place.result in
    let at : get_or batch place x ≡ x = sym c.index-batch-place.is in
    let is = λ (d : g.row.T.Denot). c.is_new_at-fresh.ensures ∙ c.requires.new place d inside in
    let pushed = c.in_ok-push_if.ensures.ok in
    let last = pushed_last eq old batch now x fresh i.grown in
    let marked : c.push.new.self.items ≡ marks ++ fresh ∷ [] = c.in_ok-push.ensures.items in
    record {
      values = pushed ∙ ap (λ y. if fresh then now ++ y ∷ [] else now) (sym at) ∙ pushed_so eq old batch place x inside now i.values fresh (is x);
      grown = (last.0, pushed ∙ last.1);
      len = ap length marked ∙ length-append marks (fresh ∷ []) ∙ ap (λ n. n + 1) i.len;
      marks = λ k d low. ap (λ l. get_or l k false) marked ∙ marked_more eq old batch place marks fresh i.len is i.marks k d low;
    }

-- what holds at any rate holds where a call failed
on_error : {A E P : Type 0} (r : Result A E) → P → OnErr r P
on_error (Ok a) p = tt
on_error (Err e) p = p

pub returns-in_err-push_if-clause-err : goal.returns-in_err-push_if-clause-err
returns-in_err-push_if-clause-err g c =
    on_error c.from_residual.result (c.loop-place.invariant.grown.0, c.in_err-push_if.ensures.err ∙ c.loop-place.invariant.grown.1)

pub returns-in_err-push-clause-err : goal.returns-in_err-push-clause-err
returns-in_err-push-clause-err g c =
    let last = pushed_last g.T.PartialEq.eq c.args.values.now.items c.args.batch.now c.loop-place.values.items c.index-batch-place.result c.is_new_at-fresh.result c.loop-place.invariant.grown in
    on_error c.from_residual-in_err-push.result (last.0, c.in_ok-push_if.ensures.ok ∙ last.1)
