use Rattle.std.proofs.Common.{true, ◌≡◌, ℕ, ◌+◌, ◌-◌, ◌<◌, ◌++◌, ◌∷◌, [], length, length-append, map, get_or, ap, ◌∙◌, sym, subst, inl, inr, arith, Option}
use Rattle.std.proofs.lemmas.List.{length-map}
use Rattle.std.proofs.lemmas.Option.{MatchOption-at_some}
use Rattle.word_machine.specs.Machine.{IsLawful}
use Rattle.word_machine.specs.Contents.{Contents, initial_successors, offer_all, words_of}
use Rattle.word_machine.specs.Closed.{search_by}
use Rattle.word_machine.specs.declared.measure.Horizon.{Horizon}
use Rattle.word_machine.specs.declared.measure.Measure.{Measure}
use Rattle.word_machine.specs.Answer.{IsBeyond, IsLeastFinishing, IsOutcome, measure_of}
use Rattle.word_machine.proofs.Complete.{CountsOpen}
use Rattle.word_machine.proofs.Answering.{counts_by}
use Rattle.word_machine.proofs.Meanings.{grown_none, grown_more}
use Rattle.word_machine.proofs.Advancing.{owned_known, word_before}
use Rattle.word_machine.proofs.ReadingBack.{length-words_of}
use Rattle.word_machine.proofs.Numbered.{IsSearched, searched_still, initials_owned, initial_found, started, keys_owned, ended, ended_early, left_out, word_found, next_searched}
use Rattle.word_machine.proofs.search.search.Given as given
use Rattle.word_machine.proofs.search.search.Goals as goal

-- the machine's laws
laws : (g : given.Over) (machine : g.row.M.Denot) → IsLawful (g.M.Machine.words machine) (g.M.Machine.belongs machine)
laws g machine = (g.met.M.Machine g.world.𝓛 g.world.𝓜 g.world.𝓡 ((λ s x. x), (λ x. x), (λ x. x), λ x. x)).lawful machine

-- what the watch becomes by three steps
watched : (g : given.Over) (a b c d : g.row.W.Denot) → g.W.Watch.becomes a b → g.W.Watch.becomes b c → g.W.Watch.becomes c d → g.W.Watch.becomes a d
watched g a b c d x y z = g.met.W.Watch.joins a c d (g.met.W.Watch.joins a b c x y) z

-- its measures count what is left
counts : (g : given.Over) (machine : g.row.M.Denot) (measure : _) (bound : ℕ) → CountsOpen (search_by (g.M.Machine.words machine) (measure_of (g.M.Machine.words machine) (g.M.Machine.estimate machine) measure) bound)
counts g machine measure bound =
    counts_by (g.M.Machine.words machine) (g.M.Machine.belongs machine) (laws g machine) (g.M.Machine.estimate machine)
    ((g.met.M.Machine g.world.𝓛 g.world.𝓜 g.world.𝓡 ((λ s x. x), (λ x. x), (λ x. x), λ x. x)).bounded machine) measure bound

-- the horizon of a level
abbrev level_horizon : Measure → Option ℕ → Horizon
level_horizon measure most_left = record { measure = measure; most_left = most_left }

pub first_done-requires-clause-known : goal.first_done-requires-clause-known
first_done-requires-clause-known g c = λ _ _.
    let machine = c.args.machine.now in
    let m = g.M.Machine.words machine in
    initials_owned m (g.M.Machine.belongs machine) (laws g machine) (measure_of m (g.M.Machine.estimate machine) c.args.limits.measure) c.args.limits.bounds.nodes (counts g machine c.args.limits.measure c.args.limits.bounds.nodes)
    (g.M.Machine.meaning machine c.args.tables.now) c.args.initials.now c.requires.known c.requires.initials

pub returns-in-Some-clause-outcome : goal.returns-in-Some-clause-outcome
returns-in-Some-clause-outcome g c =
    let machine = c.args.machine.now in
    let m = g.M.Machine.words machine in
    subst (IsLeastFinishing m c.args.limits.bounds.nodes) (sym c.in_ok-word_of_one.ensures)
    (initial_found m (g.M.Machine.belongs machine) (laws g machine) (measure_of m (g.M.Machine.estimate machine) c.args.limits.measure) c.args.limits.bounds.nodes (counts g machine c.args.limits.measure c.args.limits.bounds.nodes)
    (g.M.Machine.meaning machine c.args.tables.now) c.args.initials.now c.requires.known c.requires.initials
    c.in-Some.initial c.in-Some.ensures.found c.in-Some.ensures.first)

pub offer_initials-requires-clause-known : goal.offer_initials-requires-clause-known
offer_initials-requires-clause-known g c = λ _ _.
    let machine = c.args.machine.now in
    let m = g.M.Machine.words machine in
    initials_owned m (g.M.Machine.belongs machine) (laws g machine) (measure_of m (g.M.Machine.estimate machine) c.args.limits.measure) c.args.limits.bounds.nodes (counts g machine c.args.limits.measure c.args.limits.bounds.nodes)
    (g.M.Machine.meaning machine c.args.tables.now) c.args.initials.now c.requires.known c.requires.initials

pub loop-level-init : goal.loop-level-init
loop-level-init g c =
    let machine = c.args.machine.now in
    let m = g.M.Machine.words machine in
    let meaning = g.M.Machine.meaning machine c.args.tables.now in
    let eq = g.M.Configuration.PartialEq.eq in
    let left = measure_of m (g.M.Machine.estimate machine) c.args.limits.measure in
    let met = g.met.M.Machine g.world.𝓛 g.world.𝓜 g.world.𝓡 ((λ s x. x), (λ x. x), (λ x. x), λ x. x) in
    let first = started m (g.M.Machine.belongs machine) (laws g machine) left c.args.limits.bounds.nodes (counts g machine c.args.limits.measure c.args.limits.bounds.nodes)
    meaning c.args.initials.now c.requires.known c.requires.initials eq met.same
    (g.met.M.Configuration.Eq g.world.𝓛 g.world.𝓜 g.world.𝓡 ((λ s x. x), (λ x. x), (λ x. x), λ x. x)).laws.refl
    (met.one_to_one machine c.args.tables.now c.requires.own) c.in_default.ensures.none c.offer_initials.new.closed
    (c.in_ok-offer_initials.ensures ∙ ap (λ (n : Contents g.row.M-Configuration.Denot). offer_all eq (λ x. left (meaning.point x)) c.args.limits.bounds.nodes n (initial_successors 0 c.args.initials.now)) c.restart.ensures) in
    record {
      closed = first.closed;
      known = first.known;
      own = c.requires.own;
      grown = grown_none meaning;
      becomes = g.met.W.Watch.stays c.args.watch.now;
    }

pub returns-then-low-high-clause-outcome : goal.returns-then-low-high-clause-outcome
returns-then-low-high-clause-outcome g c =
    let machine = c.args.machine.now in
    let m = g.M.Machine.words machine in
    let i = c.loop-level.invariant in
    ended m (g.M.Machine.belongs machine) (laws g machine) (measure_of m (g.M.Machine.estimate machine) c.args.limits.measure) c.args.limits.bounds.nodes (counts g machine c.args.limits.measure c.args.limits.bounds.nodes)
    (g.M.Machine.meaning machine c.loop-level.tables) c.loop-level.closed c.loop-level.level c.loop-level.low (record { closed = i.closed; known = i.known })
    (inr (c.if-low-high.true ∙ ap length c.configurations-high.ensures)) c.exhausted.result c.exhausted.ensures.cut c.exhausted.ensures.uncut

pub returns-clause-outcome : goal.returns-clause-outcome
returns-clause-outcome g c =
    let machine = c.args.machine.now in
    let m = g.M.Machine.words machine in
    let i = c.loop-level.invariant in
    ended m (g.M.Machine.belongs machine) (laws g machine) (measure_of m (g.M.Machine.estimate machine) c.args.limits.measure) c.args.limits.bounds.nodes (counts g machine c.args.limits.measure c.args.limits.bounds.nodes)
    (g.M.Machine.meaning machine c.loop-level.tables) c.loop-level.closed c.loop-level.level c.loop-level.low (record { closed = i.closed; known = i.known })
    (inl c.loop-level-test.false) c.exhausted-2.result c.exhausted-2.ensures.cut c.exhausted-2.ensures.uncut

pub advance-requires-clause-known : goal.advance-requires-clause-known
advance-requires-clause-known g c = λ _ _.
    let machine = c.args.machine.now in
    let m = g.M.Machine.words machine in
    let belongs = g.M.Machine.belongs machine in
    let left = measure_of m (g.M.Machine.estimate machine) c.args.limits.measure in
    let bound = c.args.limits.bounds.nodes in
    let count = counts g machine c.args.limits.measure bound in
    let old = g.M.Machine.meaning machine c.loop-level.tables in
    let i = c.loop-level.invariant in
    keys_owned m belongs (laws g machine) left bound count old c.loop-level.closed c.loop-level.level c.loop-level.low (record { closed = i.closed; known = i.known })

pub returns-in-Done-clause-outcome : goal.returns-in-Done-clause-outcome
returns-in-Done-clause-outcome g c =
    let machine = c.args.machine.now in
    let m = g.M.Machine.words machine in
    let belongs = g.M.Machine.belongs machine in
    let left = measure_of m (g.M.Machine.estimate machine) c.args.limits.measure in
    let bound = c.args.limits.bounds.nodes in
    let count = counts g machine c.args.limits.measure bound in
    let old = g.M.Machine.meaning machine c.loop-level.tables in
    let i = c.loop-level.invariant in
    let new = g.M.Machine.meaning machine c.advance.new.tables in
    let closed = c.loop-level.closed in
    let now = searched_still m belongs (laws g machine) left bound count old new c.in_ok-advanced.ensures.grown closed c.loop-level.level c.loop-level.low (record { closed = i.closed; known = i.known }) in
    let first = c.in_ok-advanced.ensures.done c.in-Done.done c.in-Done.is in
    let rank = c.in-Done.done.rank in
    let before : rank < length closed.keys = first.before_last in
    let ranks : length (map new.point closed.keys) ≡ length closed.keys = length-map closed.keys new.point in
    let as_many : length (words_of closed.origins) ≡ length (map new.point closed.keys) = now.closed.kept.as_many in
    let words : length (words_of closed.origins) ≡ length closed.origins = length-words_of closed.origins in
    let same : get_or (words_of c.advance.new.closed.origins) rank [] ≡ get_or (words_of closed.origins) rank [] =
    ap (λ l. get_or (words_of l) rank []) c.in_ok-advanced.ensures.origins.1 ∙ word_before closed.origins c.in_ok-advanced.ensures.origins.0 rank (omega arith) in
    subst (IsLeastFinishing m bound) (sym (c.in_ok-word-in-Done.ensures ∙ ap (λ l. l ++ c.in-Done.done.number ∷ []) same))
    (word_found m belongs (laws g machine) left bound count new closed c.loop-level.level c.loop-level.low now rank c.in-Done.done.number c.loop-level-test.true first)

pub returns-in-Done-clause-becomes : goal.returns-in-Done-clause-becomes
returns-in-Done-clause-becomes g c =
    watched g c.args.watch.now c.loop-level.watch c.goes_on.new.self c.advance.new.watch c.loop-level.invariant.becomes c.goes_on.ensures.becomes c.in_ok-advanced.ensures.becomes

pub read_word-requires-after_bounds : goal.read_word-requires-after_bounds
read_word-requires-after_bounds g c = λ _ _.
    let first = c.in_ok-advanced.ensures.done c.in-Done.done c.in-Done.is in
    let before : c.in-Done.done.rank < length c.loop-level.closed.keys = first.before_last in
    let more = c.in_ok-advanced.ensures.keys in
    let whole : length c.advance.new.closed.keys ≡ length (c.loop-level.closed.keys ++ more.0) = ap length more.1 in
    omega (arith, length-append c.loop-level.closed.keys more.0)

pub loop-level-preserved : goal.loop-level-preserved
loop-level-preserved g c =
    let machine = c.args.machine.now in
    let m = g.M.Machine.words machine in
    let belongs = g.M.Machine.belongs machine in
    let left = measure_of m (g.M.Machine.estimate machine) c.args.limits.measure in
    let bound = c.args.limits.bounds.nodes in
    let count = counts g machine c.args.limits.measure bound in
    let old = g.M.Machine.meaning machine c.loop-level.tables in
    let i = c.loop-level.invariant in
    let new = g.M.Machine.meaning machine c.advance.new.tables in
    let closed = c.loop-level.closed in
    let short : c.loop-level.level < bound = c.loop-level-test.true in
    let later : IsSearched m belongs (laws g machine) left bound count new c.advance.new.closed (c.loop-level.level + 1) (length closed.keys) =
    next_searched m belongs (laws g machine) left bound count old closed c.loop-level.level c.loop-level.low (record { closed = i.closed; known = i.known })
    (IsBeyond m (g.M.Machine.estimate machine) (level_horizon c.args.limits.measure c.most_left-most_left.result)) new c.in_ok-advanced.ensures.grown
    (bound - c.loop-level.level - 1) (omega arith)
    (λ d is. (
    let past = MatchOption-at_some _ _ _ is.1 c.most_left-most_left.ensures.past (left d) is.2 in
    (MatchOption-at_some _ _ _ is.1 c.most_left-most_left.ensures.any, past.0, past.1)))
    c.advance.new.closed (owned_known new belongs c.advance.new.closed.keys c.in_ok-advanced.ensures.known)
    (c.in_ok-advanced.ensures.whole c.in-Whole.is) in
    let held : IsSearched m belongs (laws g machine) left bound count new c.advance.new.closed (c.loop-level.level + 1) (length c.configurations-high.result.now) =
    subst (IsSearched m belongs (laws g machine) left bound count new c.advance.new.closed (c.loop-level.level + 1)) (sym (ap length c.configurations-high.ensures)) later in
    record {
      closed = held.closed;
      known = held.known;
      own = c.in_ok-advanced.ensures.owned;
      grown = grown_more (g.M.Machine.meaning machine c.args.tables.now) old new i.grown c.in_ok-advanced.ensures.grown;
      becomes = watched g c.args.watch.now c.loop-level.watch c.goes_on.new.self c.advance.new.watch i.becomes c.goes_on.ensures.becomes c.in_ok-advanced.ensures.becomes;
    }

pub returns-then-low-high-clause-left_out : goal.returns-then-low-high-clause-left_out
returns-then-low-high-clause-left_out g c = λ _.
    let machine = c.args.machine.now in
    let m = g.M.Machine.words machine in
    let i = c.loop-level.invariant in
    left_out m (g.M.Machine.belongs machine) (laws g machine) (measure_of m (g.M.Machine.estimate machine) c.args.limits.measure) c.args.limits.bounds.nodes (counts g machine c.args.limits.measure c.args.limits.bounds.nodes)
    (g.M.Machine.meaning machine c.loop-level.tables) c.loop-level.closed c.loop-level.level c.loop-level.low (record { closed = i.closed; known = i.known })
    (inr (c.if-low-high.true ∙ ap length c.configurations-high.ensures)) c.exhausted.result c.exhausted.ensures.cut c.exhausted.ensures.uncut

pub returns-clause-left_out : goal.returns-clause-left_out
returns-clause-left_out g c = λ _.
    let machine = c.args.machine.now in
    let m = g.M.Machine.words machine in
    let i = c.loop-level.invariant in
    left_out m (g.M.Machine.belongs machine) (laws g machine) (measure_of m (g.M.Machine.estimate machine) c.args.limits.measure) c.args.limits.bounds.nodes (counts g machine c.args.limits.measure c.args.limits.bounds.nodes)
    (g.M.Machine.meaning machine c.loop-level.tables) c.loop-level.closed c.loop-level.level c.loop-level.low (record { closed = i.closed; known = i.known })
    (inl c.loop-level-test.false) c.exhausted-2.result c.exhausted-2.ensures.cut c.exhausted-2.ensures.uncut

pub returns-then-was_cut-clause-outcome : goal.returns-then-was_cut-clause-outcome
returns-then-was_cut-clause-outcome g c =
    let machine = c.args.machine.now in
    let m = g.M.Machine.words machine in
    let left = measure_of m (g.M.Machine.estimate machine) c.args.limits.measure in
    let bound = c.args.limits.bounds.nodes in
    let i = c.loop-level.invariant in
    let cut : c.loop-level.closed.cut.any ≡ true = cc in
    let none : c.args.limits.none_within ≡ true = cc in
    subst (IsOutcome m left bound) (sym c.past.ensures)
    (ended_early m (g.M.Machine.belongs machine) (laws g machine) left bound (counts g machine c.args.limits.measure bound)
    (g.M.Machine.meaning machine c.loop-level.tables) c.loop-level.closed c.loop-level.level c.loop-level.low (record { closed = i.closed; known = i.known })
    cut (c.requires.none none))
