use Rattle.std.proofs.Common.{◌≡◌, ◌≤◌, ℕ, List, None, ◌∙◌, ap, sym, arith, length, slice_get, nat_eq, ⊎_elim}
use Rattle.std.proofs.lemmas.Bool.{cases_lt}
use Rattle.std.proofs.lemmas.Option.{slice_get-get_or, slice_get_within, get_or_from_slice_get}
use Rattle.indexmap.specs.IndexSet.{insert_all}
use Rattle.hddl_names.proofs.Fronts.{front_start, front_more, front_end, front_small}
use Rattle.hddl_names.proofs.reach.all_reached.Goals as goal

-- where nothing stands at a place, it is past the end
past : (xs : List ℕ) (i : ℕ) → None ≡ slice_get xs i → length xs ≤ i
past xs i none = ⊎_elim (λ lt. absurd (let some = slice_get-get_or xs i 0 lt in cc)) (λ le. le) (cases_lt i (length xs))

pub loop-i-init : goal.loop-i-init
loop-i-init c =
    front_start c.args.rows.now c.args.starts.now c.add_all.new.found.keys (c.in_ok-add_all.ensures ∙ ap (λ ks. insert_all nat_eq ks c.args.starts.now) c.new-found.ensures.empty) c.requires

pub row-row-requires : goal.row-row-requires
row-row-requires c =
    let at = sym c.in-Some.ensures.key in
    c.loop-i.invariant.within c.in-Some.number.now
    (c.loop-i.i, slice_get_within c.loop-i.found.keys c.loop-i.i c.in-Some.number.now at, get_or_from_slice_get c.loop-i.found.keys c.loop-i.i c.in-Some.number.now c.in-Some.number.now at)

pub returns-in-None : goal.returns-in-None
returns-in-None c = front_end c.args.rows.now c.args.starts.now c.loop-i.found.keys c.loop-i.i (past c.loop-i.found.keys c.loop-i.i c.in-None.ensures.key) c.loop-i.invariant

pub loop-i-preserved : goal.loop-i-preserved
loop-i-preserved c =
    front_more c.args.rows.now c.args.starts.now c.loop-i.found.keys c.add_all-in-Some.new.found.keys c.loop-i.i c.in-Some.number.now c.row-row.ensures.within (sym c.in-Some.ensures.key)
    (c.in_ok-add_all-in-Some.ensures ∙ ap (insert_all nat_eq c.loop-i.found.keys) c.row-row.ensures.value) c.loop-i.invariant

pub returns : goal.returns
returns c =
    let small = front_small c.args.rows.now c.args.starts.now c.loop-i.found.keys c.loop-i.i c.loop-i.invariant in
    let end = c.loop-i-test.false in
    let len = c.len-i-end.ensures in
    front_end c.args.rows.now c.args.starts.now c.loop-i.found.keys c.loop-i.i (omega (arith, small, end, len)) c.loop-i.invariant
