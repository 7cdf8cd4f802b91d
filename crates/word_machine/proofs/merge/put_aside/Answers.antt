use Rattle.std.proofs.Common.{true, ◌≡◌, ◌≤◌, ◌++◌, ◌∷◌, [], ap, ◌∙◌, sym, subst}
use Rattle.word_machine.specs.declared.closed.Successor.{Successor}
use Rattle.word_machine.specs.Answer.{measure_of}
use Rattle.word_machine.specs.Contents.{IsOffered, fitting}
use Rattle.word_machine.specs.Meaning.{IsOneToOne, contents_at, successor_at}
use Rattle.word_machine.proofs.Aside.{aside_still, fit_offered, fitting-All, fitting-push, kept}
use Rattle.word_machine.proofs.Meanings.{known_still}
use Rattle.word_machine.proofs.merge.put_aside.Given as given
use Rattle.word_machine.proofs.merge.put_aside.Goals as goal

-- configurations that compare equal are the same
same : (g : given.Over) (x y : g.row.M-Configuration.Denot) → g.M.Configuration.PartialEq.eq x y ≡ true → x ≡ y
same g = (g.met.M.Machine g.world.𝓛 g.world.𝓜 g.world.𝓡 ((λ s x. x), (λ x. x), (λ x. x), λ x. x)).same

-- each compares equal to itself
reflexive : (g : given.Over) (x : g.row.M-Configuration.Denot) → g.M.Configuration.PartialEq.eq x x ≡ true
reflexive g =
    (g.met.M.Configuration.Eq g.world.𝓛 g.world.𝓜 g.world.𝓡 ((λ s x. x), (λ x. x), (λ x. x), λ x. x)).laws.refl

-- no point has two numbers
one : (g : given.Over) (machine : g.row.M.Denot) (tables : g.row.M-Tables.Denot) → g.M.Machine.owns machine tables
    → IsOneToOne (g.M.Machine.meaning machine tables)
one g machine tables own =
    (g.met.M.Machine g.world.𝓛 g.world.𝓜 g.world.𝓡 ((λ s x. x), (λ x. x), (λ x. x), λ x. x)).one_to_one
    machine tables own

pub returns-clause-offered : goal.returns-clause-offered
returns-clause-offered g c =
    let machine = c.args.machine.now in
    let eq = g.M.Configuration.PartialEq.eq in
    let old = g.M.Machine.meaning machine c.args.tables.now in
    let new = g.M.Machine.meaning machine c.keep.new.tables in
    let left = measure_of (g.M.Machine.words machine) (g.M.Machine.estimate machine) c.args.measure in
    let room = c.args.room in
    let closed = c.args.closed.now in
    let s = c.args.one.successor in
    let fits = c.args.fits.now in
    let batch = fitting fits.links.items fits.configurations.items in
    let own = c.in_ok-kept.kept in
    let grown = c.in_ok-kept.ensures.grown in
    let same_point : new.point own ≡ old.point_of s.configuration = c.in_ok-kept.ensures.same in
    let still = aside_still left room _ old new grown fits c.requires.aside in
    let is_left : c.args.one.left ≡ left (old.point_of s.configuration) = c.requires.measured in
    let t : Successor g.row.M-Configuration.Denot = record { origin = s.origin; configuration = own } in
    let offered = fit_offered eq (same g) (reflexive g) new.knows new.point
    (one g machine c.keep.new.tables c.in_ok-kept.ensures.owned) left room closed batch
    (known_still old new grown closed.keys c.requires.known)
    (fitting-All new.knows fits.links.items fits.configurations.items still.known)
    (fitting-All (λ x. left (new.point x) ≤ room) fits.links.items fits.configurations.items still.fit)
    t c.in_ok-kept.ensures.known (subst (λ n. n ≤ room) (is_left ∙ ap left (sym same_point)) c.if-one-room.false) in
    let link = c.in_ok-push.ensures.links in
    let pushed : fitting c.push.new.self.links.items c.push.new.self.configurations.items ≡ batch ++ t ∷ [] =
    ap (λ l. fitting l c.push.new.self.configurations.items) link.1
    ∙ ap (λ l. fitting (fits.links.items ++ link.0 ∷ []) l) c.in_ok-push.ensures.configurations
    ∙ fitting-push fits.links.items fits.configurations.items link.0 own c.requires.aside.as_many
    ∙ ap (λ o. batch ++ record { origin = o; configuration = own } ∷ []) link.2 in
    let before = contents_at new.point (kept eq closed batch) in
    subst (λ l. IsOffered before (successor_at old.point_of s) (left (old.point_of s.configuration)) room
    (contents_at new.point (kept eq closed l))) (sym pushed)
    (subst (λ p. IsOffered before (record { origin = s.origin; configuration = p }) (left p) room
    (contents_at new.point (kept eq closed (batch ++ t ∷ [])))) same_point offered)

pub returns-then-one-room-clause-offered : goal.returns-then-one-room-clause-offered
returns-then-one-room-clause-offered g c =
    let machine = c.args.machine.now in
    let meaning = g.M.Machine.meaning machine c.args.tables.now in
    let left = measure_of (g.M.Machine.words machine) (g.M.Machine.estimate machine) c.args.measure in
    let links = c.args.fits.now.links.items in
    let configurations = c.args.fits.now.configurations.items in
    c.pass_by.ensures.offered (fitting links configurations)
    (fitting-All meaning.knows links configurations c.requires.aside.known)
    (fitting-All (λ x. left (meaning.point x) ≤ c.args.room) links configurations c.requires.aside.fit)
