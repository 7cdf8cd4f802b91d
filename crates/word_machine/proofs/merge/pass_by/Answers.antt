use Rattle.std.proofs.Common.{true, ◌≡◌, ◌-◌, ◌<◌, ◌≤◌, ap, ◌∙◌, sym, subst}
use Rattle.word_machine.specs.Answer.{measure_of}
use Rattle.word_machine.specs.Contents.{IsOffered, cut_more}
use Rattle.word_machine.specs.Meaning.{IsOneToOne, contents_at, successor_at}
use Rattle.word_machine.proofs.Aside.{found_offered, kept, none_offered, past_offered}
use Rattle.word_machine.proofs.merge.pass_by.Given as given
use Rattle.word_machine.proofs.merge.pass_by.Goals as goal

-- configurations that compare equal are the same
same : (g : given.Over) (x y : g.row.M-Configuration.Denot) → g.M.Configuration.PartialEq.eq x y ≡ true → x ≡ y
same g = (g.met.M.Machine g.world.𝓛 g.world.𝓜 g.world.𝓡 ((λ s x. x), (λ x. x), (λ x. x), λ x. x)).same

-- each compares equal to itself
reflexive : (g : given.Over) (x : g.row.M-Configuration.Denot) → g.M.Configuration.PartialEq.eq x x ≡ true
reflexive g =
    (g.met.M.Configuration.Eq g.world.𝓛 g.world.𝓜 g.world.𝓡 ((λ s x. x), (λ x. x), (λ x. x), λ x. x)).laws.refl

-- no point has two numbers
one : (g : given.Over) (machine : g.row.M.Denot) (tables : g.row.M-Tables.Denot) → g.M.Machine.owns machine tables
    → IsOneToOne (g.M.Machine.meaning machine tables)
one g machine tables own =
    (g.met.M.Machine g.world.𝓛 g.world.𝓜 g.world.𝓡 ((λ s x. x), (λ x. x), (λ x. x), λ x. x)).one_to_one
    machine tables own

pub returns-then-has_cut_within-clause-offered : goal.returns-then-has_cut_within-clause-offered
returns-then-has_cut_within-clause-offered g c = λ fs known fit.
    let machine = c.args.machine.now in
    let meaning = g.M.Machine.meaning machine c.args.tables.now in
    let left = measure_of (g.M.Machine.words machine) (g.M.Machine.estimate machine) c.args.measure in
    let room = c.args.room in
    let closed = c.args.closed.now in
    let s = c.args.one.now.successor in
    let is_left : c.args.one.now.left ≡ left (meaning.point_of s.configuration) = c.requires.measured in
    let eq = g.M.Configuration.PartialEq.eq in
    subst (λ l. IsOffered (contents_at meaning.point (kept eq closed fs)) (successor_at meaning.point_of s)
    (left (meaning.point_of s.configuration)) room (contents_at meaning.point (kept eq l fs)))
    (sym c.count_passed_over.ensures)
    (past_offered eq (same g) (reflexive g) meaning.knows meaning.point
    (one g machine c.args.tables.now c.requires.own) left room closed
    fs c.requires.known known fit
    (successor_at meaning.point_of s) (subst (λ n. room < n) is_left c.requires.past)
    (c.has_cut_within.ensures.any c.if-has_cut_within.true)
    (subst (λ n. closed.cut.past ≤ n - room) is_left (c.has_cut_within.ensures.past c.if-has_cut_within.true)))

pub returns-in_default-clause-offered : goal.returns-in_default-clause-offered
returns-in_default-clause-offered g c = λ fs known fit.
    let machine = c.args.machine.now in
    let meaning = g.M.Machine.meaning machine c.args.tables.now in
    let left = measure_of (g.M.Machine.words machine) (g.M.Machine.estimate machine) c.args.measure in
    let room = c.args.room in
    let closed = c.args.closed.now in
    let s = c.args.one.now.successor in
    let is_left : c.args.one.now.left ≡ left (meaning.point_of s.configuration) = c.requires.measured in
    none_offered g.M.Configuration.PartialEq.eq (same g) (reflexive g) meaning.knows meaning.point
    (one g machine c.args.tables.now c.requires.own) left room closed
    fs c.requires.known known fit
    (successor_at meaning.point_of s) (subst (λ n. room < n) is_left c.requires.past)
    c.in_default.ensures.none c.cut_off.new.self
    (c.cut_off.ensures ∙ ap (λ n. record {
      keys = closed.keys;
      origins = closed.origins;
      cut = cut_more closed.cut (n - room);
    }) is_left)

pub returns-clause-offered : goal.returns-clause-offered
returns-clause-offered g c = λ fs known fit.
    let machine = c.args.machine.now in
    let meaning = g.M.Machine.meaning machine c.args.tables.now in
    let left = measure_of (g.M.Machine.words machine) (g.M.Machine.estimate machine) c.args.measure in
    let room = c.args.room in
    let closed = c.args.closed.now in
    let s = c.args.one.now.successor in
    let is_left : c.args.one.now.left ≡ left (meaning.point_of s.configuration) = c.requires.measured in
    found_offered g.M.Configuration.PartialEq.eq (same g) (reflexive g) meaning.knows meaning.point
    (one g machine c.args.tables.now c.requires.own) left room closed
    fs c.requires.known known fit
    (successor_at meaning.point_of s) (subst (λ n. room < n) is_left c.requires.past)
    c.in-Some.found c.in-Some.ensures.known c.in-Some.ensures.same c.leave_out.new.self c.leave_out.ensures.there
    (λ missing. c.leave_out.ensures.cut missing ∙ ap (λ n. record {
      keys = closed.keys;
      origins = closed.origins;
      cut = cut_more closed.cut (n - room);
    }) is_left)
