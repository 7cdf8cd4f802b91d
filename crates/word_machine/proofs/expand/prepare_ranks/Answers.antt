use Rattle.std.proofs.Common.{◌≡◌, ◌+◌, ◌-◌, ◌<◌, length, take, drop, get_or, All, subst, ap, ◌∙◌, arith}
use Rattle.std.proofs.lemmas.List.{get_or-drop, length-drop, take_all}
use Rattle.std.proofs.lemmas.Option.{slice_get_within, get_or_from_slice_get}
use Rattle.std.proofs.lemmas.Result.{on_ok_weaker}
use Rattle.word_machine.proofs.expand.prepare_ranks.Goals as goal

pub returns-clause-ready : goal.returns-clause-ready
returns-clause-ready g c =
    let machine = c.args.machine.now in
    let keys = c.args.configurations.now in
    let first = c.args.first in
    let ready = g.M.Machine.is_ready machine c.prepare_all.new.tables in
    let long : length (drop first keys) ≡ length keys - first = length-drop first keys in
    let whole : take (length keys - first) (drop first keys) ≡ drop first keys = take_all (length keys - first) (drop first keys) (omega arith) in
    on_ok_weaker c.prepare_all.result (λ all rank d from at. (
    let inside : rank < length keys = slice_get_within keys rank d at in
    let same : first + (rank - first) ≡ rank = omega arith in
    subst ready (get_or-drop first keys (rank - first) d ∙ ap (λ k. get_or keys k d) same ∙ get_or_from_slice_get keys rank d d at)
    (subst (All ready) whole all (rank - first) d (omega arith)))) c.prepare_all.ensures.ready
