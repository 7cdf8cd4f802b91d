use Rattle.std.proofs.Common.{true, ◌≡◌, ◌≤◌, ◌∷◌, [], All, ap, ◌∙◌, sym, subst}
use Rattle.std.proofs.lemmas.List.Elements.{All-cons, All-nil}
use Rattle.word_machine.specs.declared.closed.Successor.{Successor}
use Rattle.word_machine.specs.Answer.{measure_of}
use Rattle.word_machine.specs.Contents.{Contents, IsOffered}
use Rattle.word_machine.specs.Meaning.{IsOneToOne, contents_at, successor_at}
use Rattle.word_machine.proofs.Aside.{fit_offered, kept, kept_known}
use Rattle.word_machine.proofs.Meanings.{known_still}
use Rattle.word_machine.proofs.merge.offer_one.Given as given
use Rattle.word_machine.proofs.merge.offer_one.Goals as goal

-- configurations that compare equal are the same
same : (g : given.Over) (x y : g.row.M-Configuration.Denot) → g.M.Configuration.PartialEq.eq x y ≡ true → x ≡ y
same g = (g.met.M.Machine g.world.𝓛 g.world.𝓜 g.world.𝓡 ((λ s x. x), (λ x. x), (λ x. x), λ x. x)).same

-- each compares equal to itself
reflexive : (g : given.Over) (x : g.row.M-Configuration.Denot) → g.M.Configuration.PartialEq.eq x x ≡ true
reflexive g =
    (g.met.M.Configuration.Eq g.world.𝓛 g.world.𝓜 g.world.𝓡 ((λ s x. x), (λ x. x), (λ x. x), λ x. x)).laws.refl

-- no point has two numbers
one : (g : given.Over) (machine : g.row.M.Denot) (tables : g.row.M-Tables.Denot) → g.M.Machine.owns machine tables
    → IsOneToOne (g.M.Machine.meaning machine tables)
one g machine tables own =
    (g.met.M.Machine g.world.𝓛 g.world.𝓜 g.world.𝓡 ((λ s x. x), (λ x. x), (λ x. x), λ x. x)).one_to_one
    machine tables own

pub returns-then-one-room-clause-offered : goal.returns-then-one-room-clause-offered
returns-then-one-room-clause-offered g c =
    let machine = c.args.machine.now in
    let meaning = g.M.Machine.meaning machine c.args.tables.now in
    let left = measure_of (g.M.Machine.words machine) (g.M.Machine.estimate machine) c.args.measure in
    c.pass_by.ensures.offered [] (All-nil (λ (s : Successor g.row.M-Configuration.Denot). meaning.knows s.configuration))
    (All-nil (λ (s : Successor g.row.M-Configuration.Denot). left (meaning.point s.configuration) ≤ c.args.room))

pub returns-clause-known : goal.returns-clause-known
returns-clause-known g c =
    let machine = c.args.machine.now in
    let eq = g.M.Configuration.PartialEq.eq in
    let old = g.M.Machine.meaning machine c.args.tables.now in
    let new = g.M.Machine.meaning machine c.keep.new.tables in
    let closed = c.args.closed.now in
    let own = c.in_ok-configuration.configuration in
    let t : Successor g.row.M-Configuration.Denot = record { origin = c.args.one.successor.origin; configuration = own } in
    let each = All-cons (λ (s : Successor g.row.M-Configuration.Denot). new.knows s.configuration) t [] c.in_ok-configuration.ensures.known
    (All-nil (λ (s : Successor g.row.M-Configuration.Denot). new.knows s.configuration)) in
    subst (λ (n : Contents g.row.M-Configuration.Denot). All new.knows n.keys) (sym c.in_ok-keep_one.ensures.ok)
    (kept_known eq new.knows closed (t ∷ [])
    (known_still old new c.in_ok-configuration.ensures.grown closed.keys c.requires.known) each)

pub returns-clause-offered : goal.returns-clause-offered
returns-clause-offered g c =
    let machine = c.args.machine.now in
    let eq = g.M.Configuration.PartialEq.eq in
    let old = g.M.Machine.meaning machine c.args.tables.now in
    let new = g.M.Machine.meaning machine c.keep.new.tables in
    let left = measure_of (g.M.Machine.words machine) (g.M.Machine.estimate machine) c.args.measure in
    let room = c.args.room in
    let closed = c.args.closed.now in
    let s = c.args.one.successor in
    let own = c.in_ok-configuration.configuration in
    let same_point : new.point own ≡ old.point_of s.configuration = c.in_ok-configuration.ensures.same in
    let is_left : c.args.one.left ≡ left (old.point_of s.configuration) = c.requires.measured in
    let t : Successor g.row.M-Configuration.Denot = record { origin = s.origin; configuration = own } in
    let offered = fit_offered eq (same g) (reflexive g) new.knows new.point
    (one g machine c.keep.new.tables c.in_ok-configuration.ensures.owned) left room closed []
    (known_still old new c.in_ok-configuration.ensures.grown closed.keys c.requires.known)
    (All-nil (λ (f : Successor g.row.M-Configuration.Denot). new.knows f.configuration))
    (All-nil (λ (f : Successor g.row.M-Configuration.Denot). left (new.point f.configuration) ≤ room))
    t c.in_ok-configuration.ensures.known (subst (λ n. n ≤ room) (is_left ∙ ap left (sym same_point)) c.if-one-room.false) in
    let before = contents_at new.point closed in
    subst (λ (n : Contents g.row.M-Configuration.Denot). IsOffered before (successor_at old.point_of s) (left (old.point_of s.configuration)) room
    (contents_at new.point n)) (sym c.in_ok-keep_one.ensures.ok)
    (subst (λ p. IsOffered before (record { origin = s.origin; configuration = p }) (left p) room
    (contents_at new.point (kept eq closed (t ∷ [])))) same_point offered)
