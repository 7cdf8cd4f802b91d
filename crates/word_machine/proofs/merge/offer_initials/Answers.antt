use Rattle.std.proofs.Common.{◌≡◌, ◌+◌, ◌∷◌, ap, sym, ◌∙◌, drop}
use Rattle.std.proofs.lemmas.List.{drop_more, drop_all}
use Rattle.word_machine.specs.declared.closed.Origin.TheVariants.{Initial}
use Rattle.word_machine.specs.declared.closed.Successor.{Successor}
use Rattle.word_machine.specs.Answer.{measure_of}
use Rattle.word_machine.specs.Contents.{Contents, initial_successors, offer, offer_all}
use Rattle.word_machine.proofs.merge.offer_initials.Goals as goal

pub loop-i-preserved : goal.loop-i-preserved
loop-i-preserved g c =
    let eq = g.M.Configuration.PartialEq.eq in
    let machine = c.args.machine.now in
    let meaning = g.M.Machine.meaning machine c.args.tables.now in
    let left = λ (x : g.row.M-Configuration.Denot). measure_of (g.M.Machine.words machine) (g.M.Machine.estimate machine) c.args.measure (meaning.point x) in
    let initials = c.args.initials.now in
    let room = c.args.room in
    let i = c.loop-i.i in
    let x = c.index-initials-i.result in
    let s : Successor g.row.M-Configuration.Denot = record { origin = Initial i; configuration = x } in
    let rest = initial_successors (i + 1) (drop (i + 1) initials) in
    let split : drop i initials ≡ x ∷ drop (i + 1) initials = drop_more initials i x c.loop-i-test.true ∙ ap (λ y. y ∷ drop (i + 1) initials) (sym c.index-initials-i.is) in
    let kept : c.keep.new.self ≡ offer eq c.loop-i.closed s (left x) room = c.in_ok-keep.ensures.ok ∙ ap (λ n. offer eq c.loop-i.closed s n room) c.measured-left.ensures in
    ap (λ (n : Contents g.row.M-Configuration.Denot). offer_all eq left room n rest) kept
    ∙ ap (λ l. offer_all eq left room c.loop-i.closed (initial_successors i l)) (sym split) ∙ c.loop-i.invariant

pub returns : goal.returns
returns g c =
    let machine = c.args.machine.now in
    let meaning = g.M.Machine.meaning machine c.args.tables.now in
    let left = λ (x : g.row.M-Configuration.Denot). measure_of (g.M.Machine.words machine) (g.M.Machine.estimate machine) c.args.measure (meaning.point x) in
    ap (λ l. offer_all g.M.Configuration.PartialEq.eq left c.args.room c.loop-i.closed (initial_successors c.loop-i.i l)) (sym (drop_all c.loop-i.i c.args.initials.now c.loop-i-test.false)) ∙ c.loop-i.invariant
