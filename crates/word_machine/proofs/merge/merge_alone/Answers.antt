use Rattle.std.proofs.Common.{◌≡◌, ◌+◌, ◌++◌, ◌∷◌, [], length, refl, ap, ◌∙◌, sym, subst, append_assoc, arith, length-append}
use Rattle.std.proofs.lemmas.List.{append-nil}
use Rattle.word_machine.specs.declared.closed.Measured.{Measured}
use Rattle.word_machine.specs.Answer.{measure_of}
use Rattle.word_machine.specs.Contents.{IsOffered, IsOriginWithin}
use Rattle.word_machine.specs.Meaning.{contents_at}
use Rattle.word_machine.proofs.Meanings.{grown_more, grown_none, known_still, measured_still}
use Rattle.word_machine.proofs.Merging.{IsOriginWithin-more}
use Rattle.word_machine.proofs.Offering.{offered_more}
use Rattle.word_machine.proofs.Places.{All-between}
use Rattle.word_machine.proofs.merge.merge_alone.Goals as goal

pub loop-one-init : goal.loop-one-init
loop-one-init g c =
    let closed = c.args.closed.now in (
      [],
      record {
        own = c.requires.own;
        grown = grown_none (g.M.Machine.meaning c.args.machine.now c.args.tables.now);
        known = c.requires.known;
        keys = ([], sym (append-nil closed.keys));
        origins = ([], sym (append-nil closed.origins));
        offered = refl;
        parts = search;
      },
    )

pub offer_one-requires-clause-allowed : goal.offer_one-requires-clause-allowed
offer_one-requires-clause-allowed g c = λ _ _.
    let i = c.loop-one.invariant.1 in
    let machine = c.args.machine.now in
    let old = g.M.Machine.meaning machine c.args.tables.now in
    let done = c.loop-one.invariant.0 in
    let one = c.in-Some.one in
    let rest = c.next.new.self in
    let next : c.loop-one.one-iterator ≡ one ∷ rest = c.in-Some.ensures.steps in
    let joined : done ++ one ∷ rest ≡ c.args.batch = ap (λ l. done ++ l) (sym next) ∙ i.parts in
    let allows = λ (t : Measured g.row.M-Reached.Denot). old.allows t.successor.configuration in
    i.grown.allowed one.successor.configuration (All-between allows done one rest c.args.batch joined c.requires.allowed)

pub offer_one-requires-clause-belongs : goal.offer_one-requires-clause-belongs
offer_one-requires-clause-belongs g c = λ _ _.
    let i = c.loop-one.invariant.1 in
    let machine = c.args.machine.now in
    let old = g.M.Machine.meaning machine c.args.tables.now in
    let done = c.loop-one.invariant.0 in
    let one = c.in-Some.one in
    let rest = c.next.new.self in
    let next : c.loop-one.one-iterator ≡ one ∷ rest = c.in-Some.ensures.steps in
    let joined : done ++ one ∷ rest ≡ c.args.batch = ap (λ l. done ++ l) (sym next) ∙ i.parts in
    let belongs = g.M.Machine.belongs machine in
    let allows = λ (t : Measured g.row.M-Reached.Denot). old.allows t.successor.configuration in
    let is_own = λ (t : Measured g.row.M-Reached.Denot). belongs (old.point_of t.successor.configuration) in
    let allowed = All-between allows done one rest c.args.batch joined c.requires.allowed in
    subst belongs (sym (i.grown.same_reached one.successor.configuration allowed))
    (All-between is_own done one rest c.args.batch joined c.requires.belongs)

pub offer_one-requires-clause-within : goal.offer_one-requires-clause-within
offer_one-requires-clause-within g c = λ _ _.
    let i = c.loop-one.invariant.1 in
    let machine = c.args.machine.now in
    let old = g.M.Machine.meaning machine c.args.tables.now in
    let done = c.loop-one.invariant.0 in
    let one = c.in-Some.one in
    let rest = c.next.new.self in
    let next : c.loop-one.one-iterator ≡ one ∷ rest = c.in-Some.ensures.steps in
    let joined : done ++ one ∷ rest ≡ c.args.batch = ap (λ l. done ++ l) (sym next) ∙ i.parts in
    let is_within = λ (t : Measured g.row.M-Reached.Denot). IsOriginWithin (length c.args.closed.now.keys) t.successor.origin in
    let first = c.args.closed.now.keys in
    let longer : length c.loop-one.closed.keys ≡ length first + length i.keys.0 =
    ap length i.keys.1 ∙ length-append first i.keys.0 in
    IsOriginWithin-more (length first) (length c.loop-one.closed.keys) one.successor.origin (omega arith)
    (All-between is_within done one rest c.args.batch joined c.requires.within)

pub offer_one-requires-clause-measured : goal.offer_one-requires-clause-measured
offer_one-requires-clause-measured g c = λ _ _.
    let i = c.loop-one.invariant.1 in
    let machine = c.args.machine.now in
    let old = g.M.Machine.meaning machine c.args.tables.now in
    let mid = g.M.Machine.meaning machine c.loop-one.tables in
    let left = measure_of (g.M.Machine.words machine) (g.M.Machine.estimate machine) c.args.measure in
    let done = c.loop-one.invariant.0 in
    let one = c.in-Some.one in
    let rest = c.next.new.self in
    let next : c.loop-one.one-iterator ≡ one ∷ rest = c.in-Some.ensures.steps in
    let joined : done ++ one ∷ rest ≡ c.args.batch = ap (λ l. done ++ l) (sym next) ∙ i.parts in
    let is_measured = λ (t : Measured g.row.M-Reached.Denot). t.left ≡ left (mid.point_of t.successor.configuration) in
    All-between is_measured done one rest c.args.batch joined
    (measured_still old mid i.grown left c.args.batch c.requires.allowed c.requires.measured)

pub loop-one-preserved : goal.loop-one-preserved
loop-one-preserved g c =
    let i = c.loop-one.invariant.1 in
    let e = c.in_ok-offer_one.ensures in
    let machine = c.args.machine.now in
    let old = g.M.Machine.meaning machine c.args.tables.now in
    let mid = g.M.Machine.meaning machine c.loop-one.tables in
    let new = g.M.Machine.meaning machine c.offer_one.new.tables in
    let left = measure_of (g.M.Machine.words machine) (g.M.Machine.estimate machine) c.args.measure in
    let room = c.args.room in
    let first = c.args.closed.now in
    let now = c.loop-one.closed in
    let done = c.loop-one.invariant.0 in
    let one = c.in-Some.one in
    let s = one.successor in
    let rest = c.next.new.self in
    let next : c.loop-one.one-iterator ≡ one ∷ rest = c.in-Some.ensures.steps in
    let joined : done ++ one ∷ rest ≡ c.args.batch = ap (λ l. done ++ l) (sym next) ∙ i.parts in
    let allows = λ (t : Measured g.row.M-Reached.Denot). old.allows t.successor.configuration in
    let allowed = All-between allows done one rest c.args.batch joined c.requires.allowed in
    let same_point : mid.point_of s.configuration ≡ old.point_of s.configuration =
    i.grown.same_reached s.configuration allowed in
    let after = c.offer_one.new.closed in
    let own = subst (λ p. IsOffered (contents_at new.point now) (record { origin = s.origin; configuration = p })
    (left p) room (contents_at new.point after)) same_point e.offered in (
      done ++ one ∷ [],
      record {
        own = e.owned;
        grown = grown_more old mid new i.grown e.grown;
        known = e.known;
        keys = (
          i.keys.0 ++ e.keys.0,
          e.keys.1 ∙ ap (λ l. l ++ e.keys.0) i.keys.1 ∙ append_assoc first.keys i.keys.0 e.keys.0,
        );
        origins = (
          i.origins.0 ++ e.origins.0,
          e.origins.1 ∙ ap (λ l. l ++ e.origins.0) i.origins.1 ∙ append_assoc first.origins i.origins.0 e.origins.0,
        );
        offered = offered_more left room mid new e.grown old.point_of first now done one
            (known_still old mid i.grown first.keys c.requires.known) i.known i.offered after own;
        parts = append_assoc done (one ∷ []) rest ∙ joined;
      },
    )
