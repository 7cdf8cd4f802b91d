use Rattle.std.proofs.Common.{◌≡◌, List, ◌++◌, ◌∷◌, [], length, All, refl, ap, ◌∙◌, sym, subst, append_assoc, arith}
use Rattle.word_machine.specs.declared.closed.Link.{Link}
use Rattle.std.proofs.lemmas.Result.{on_ok_weaker}
use Rattle.word_machine.specs.declared.closed.Measured.{Measured}
use Rattle.word_machine.specs.Answer.{measure_of}
use Rattle.word_machine.specs.Aside.{IsAside, with_aside}
use Rattle.word_machine.specs.Contents.{Contents, IsOffered, IsOriginWithin, fitting, offer_all}
use Rattle.word_machine.specs.Meaning.{contents_at}
use Rattle.word_machine.proofs.Aside.{fitting-All, kept_known, keys_more, origins_more}
use Rattle.word_machine.proofs.Meanings.{grown_more, known_still, measured_still}
use Rattle.word_machine.proofs.Offering.{offered_more}
use Rattle.word_machine.proofs.Places.{All-between}
use Rattle.word_machine.proofs.merge.merge_shared.Goals as goal

pub loop-one-init : goal.loop-one-init
loop-one-init g c =
    let machine = c.args.machine.now in
    let eq = g.M.Configuration.PartialEq.eq in
    let point = (g.M.Machine.meaning machine c.args.tables.now).point in
    let closed = c.args.closed.now in
    let fits = c.in_ok-fits.fits in
    let links : fits.links.items ≡ [] = c.in_ok-fits.ensures.0 in
    let configurations : fits.configurations.items ≡ [] = c.in_ok-fits.ensures.1 in
    let no_links : length fits.links.items ≡ 0 = ap length links in
    let no_configurations : length fits.configurations.items ≡ 0 = ap length configurations in
    let offered = λ (ls : List Link) (cs : List g.row.M-Configuration.Denot).
    contents_at point (offer_all eq (λ d. 0) 0 closed (fitting ls cs)) ≡ contents_at point closed in (
      [],
      record {
        own = c.requires.own;
        grown = search;
        known = c.requires.known;
        keys = refl;
        origins = refl;
        aside = record {
          as_many = ap length links ∙ sym (ap length configurations);
          within = λ k d inside. absurd (omega (arith, no_links, inside));
          known = λ k d inside. absurd (omega (arith, no_configurations, inside));
          fit = λ k d inside. absurd (omega (arith, no_configurations, inside));
        };
        offered = subst (λ ls. offered ls fits.configurations.items) (sym links)
            (subst (λ cs. offered [] cs) (sym configurations) refl);
        parts = search;
      },
    )

pub put_aside-requires-clause-allowed : goal.put_aside-requires-clause-allowed
put_aside-requires-clause-allowed g c = λ _ _.
    let i = c.loop-one.invariant.1 in
    let machine = c.args.machine.now in
    let old = g.M.Machine.meaning machine c.args.tables.now in
    let done = c.loop-one.invariant.0 in
    let one = c.in-Some.one in
    let rest = c.next.new.self in
    let next : c.loop-one.one-iterator ≡ one ∷ rest = c.in-Some.ensures.steps in
    let joined : done ++ one ∷ rest ≡ c.args.batch = ap (λ l. done ++ l) (sym next) ∙ i.parts in
    let allows = λ (t : Measured g.row.M-Reached.Denot). old.allows t.successor.configuration in
    i.grown.allowed one.successor.configuration (All-between allows done one rest c.args.batch joined c.requires.allowed)

pub put_aside-requires-clause-belongs : goal.put_aside-requires-clause-belongs
put_aside-requires-clause-belongs g c = λ _ _.
    let i = c.loop-one.invariant.1 in
    let machine = c.args.machine.now in
    let old = g.M.Machine.meaning machine c.args.tables.now in
    let done = c.loop-one.invariant.0 in
    let one = c.in-Some.one in
    let rest = c.next.new.self in
    let next : c.loop-one.one-iterator ≡ one ∷ rest = c.in-Some.ensures.steps in
    let joined : done ++ one ∷ rest ≡ c.args.batch = ap (λ l. done ++ l) (sym next) ∙ i.parts in
    let belongs = g.M.Machine.belongs machine in
    let allows = λ (t : Measured g.row.M-Reached.Denot). old.allows t.successor.configuration in
    let is_own = λ (t : Measured g.row.M-Reached.Denot). belongs (old.point_of t.successor.configuration) in
    let allowed = All-between allows done one rest c.args.batch joined c.requires.allowed in
    subst belongs (sym (i.grown.same_reached one.successor.configuration allowed))
    (All-between is_own done one rest c.args.batch joined c.requires.belongs)

pub put_aside-requires-clause-within : goal.put_aside-requires-clause-within
put_aside-requires-clause-within g c = λ _ _.
    let i = c.loop-one.invariant.1 in
    let machine = c.args.machine.now in
    let old = g.M.Machine.meaning machine c.args.tables.now in
    let done = c.loop-one.invariant.0 in
    let one = c.in-Some.one in
    let rest = c.next.new.self in
    let next : c.loop-one.one-iterator ≡ one ∷ rest = c.in-Some.ensures.steps in
    let joined : done ++ one ∷ rest ≡ c.args.batch = ap (λ l. done ++ l) (sym next) ∙ i.parts in
    let is_within = λ (t : Measured g.row.M-Reached.Denot). IsOriginWithin (length c.args.closed.now.keys) t.successor.origin in
    subst (λ k. IsOriginWithin (length k) one.successor.origin) (sym i.keys)
    (All-between is_within done one rest c.args.batch joined c.requires.within)

pub put_aside-requires-clause-measured : goal.put_aside-requires-clause-measured
put_aside-requires-clause-measured g c = λ _ _.
    let i = c.loop-one.invariant.1 in
    let machine = c.args.machine.now in
    let old = g.M.Machine.meaning machine c.args.tables.now in
    let mid = g.M.Machine.meaning machine c.loop-one.tables in
    let left = measure_of (g.M.Machine.words machine) (g.M.Machine.estimate machine) c.args.measure in
    let done = c.loop-one.invariant.0 in
    let one = c.in-Some.one in
    let rest = c.next.new.self in
    let next : c.loop-one.one-iterator ≡ one ∷ rest = c.in-Some.ensures.steps in
    let joined : done ++ one ∷ rest ≡ c.args.batch = ap (λ l. done ++ l) (sym next) ∙ i.parts in
    let is_measured = λ (t : Measured g.row.M-Reached.Denot). t.left ≡ left (mid.point_of t.successor.configuration) in
    All-between is_measured done one rest c.args.batch joined
    (measured_still old mid i.grown left c.args.batch c.requires.allowed c.requires.measured)

pub loop-one-preserved : goal.loop-one-preserved
loop-one-preserved g c =
    let i = c.loop-one.invariant.1 in
    let e = c.in_ok-put_aside.ensures in
    let machine = c.args.machine.now in
    let eq = g.M.Configuration.PartialEq.eq in
    let old = g.M.Machine.meaning machine c.args.tables.now in
    let mid = g.M.Machine.meaning machine c.loop-one.tables in
    let new = g.M.Machine.meaning machine c.put_aside.new.tables in
    let left = measure_of (g.M.Machine.words machine) (g.M.Machine.estimate machine) c.args.measure in
    let room = c.args.room in
    let first = c.args.closed.now in
    let now = c.loop-one.closed in
    let fits = c.loop-one.fits in
    let done = c.loop-one.invariant.0 in
    let one = c.in-Some.one in
    let s = one.successor in
    let rest = c.next.new.self in
    let next : c.loop-one.one-iterator ≡ one ∷ rest = c.in-Some.ensures.steps in
    let joined : done ++ one ∷ rest ≡ c.args.batch = ap (λ l. done ++ l) (sym next) ∙ i.parts in
    let allows = λ (t : Measured g.row.M-Reached.Denot). old.allows t.successor.configuration in
    let allowed = All-between allows done one rest c.args.batch joined c.requires.allowed in
    let same_point : mid.point_of s.configuration ≡ old.point_of s.configuration =
    i.grown.same_reached s.configuration allowed in
    let before = with_aside eq now fits in
    let after = with_aside eq c.put_aside.new.closed c.put_aside.new.fits in
    let own = subst (λ p. IsOffered (contents_at new.point before) (record { origin = s.origin; configuration = p })
    (left p) room (contents_at new.point after)) same_point e.offered in
    let known = fitting-All mid.knows fits.links.items fits.configurations.items i.aside.known in (
      done ++ one ∷ [],
      record {
        own = e.owned;
        grown = grown_more old mid new i.grown e.grown;
        known = subst (All new.knows) (sym e.keys) (known_still mid new e.grown now.keys i.known);
        keys = e.keys ∙ i.keys;
        origins = e.origins ∙ i.origins;
        aside = subst (λ k. IsAside new left room (length k) c.put_aside.new.fits) (sym e.keys) e.aside;
        offered = offered_more left room mid new e.grown old.point_of first before done one
            (known_still old mid i.grown first.keys c.requires.known)
            (kept_known eq mid.knows now (fitting fits.links.items fits.configurations.items) i.known known)
            i.offered after own;
        parts = append_assoc done (one ∷ []) rest ∙ joined;
      },
    )

pub returns-clause-known : goal.returns-clause-known
returns-clause-known g c =
    let i = c.loop-one.invariant.1 in
    let eq = g.M.Configuration.PartialEq.eq in
    let meaning = g.M.Machine.meaning c.args.machine.now c.loop-one.tables in
    let fits = c.loop-one.fits in
    let known = kept_known eq meaning.knows c.loop-one.closed
    (fitting fits.links.items fits.configurations.items) i.known
    (fitting-All meaning.knows fits.links.items fits.configurations.items i.aside.known) in
    on_ok_weaker c.keep_all.result
    (λ is. subst (λ (n : Contents g.row.M-Configuration.Denot). All meaning.knows n.keys) (sym is) known)
    c.keep_all.ensures.ok

pub returns-clause-keys : goal.returns-clause-keys
returns-clause-keys g c =
    let i = c.loop-one.invariant.1 in
    let eq = g.M.Configuration.PartialEq.eq in
    let meaning = g.M.Machine.meaning c.args.machine.now c.loop-one.tables in
    let fits = c.loop-one.fits in
    let more = keys_more eq meaning.knows c.loop-one.closed
    (fitting fits.links.items fits.configurations.items)
    (fitting-All meaning.knows fits.links.items fits.configurations.items i.aside.known) in
    let keys_of = λ (n : Contents g.row.M-Configuration.Denot). n.keys in
    on_ok_weaker c.keep_all.result
    (λ is. (more.0, ap keys_of is ∙ more.1 ∙ ap (λ l. l ++ more.0) i.keys))
    c.keep_all.ensures.ok

pub returns-clause-origins : goal.returns-clause-origins
returns-clause-origins g c =
    let i = c.loop-one.invariant.1 in
    let eq = g.M.Configuration.PartialEq.eq in
    let fits = c.loop-one.fits in
    let more = origins_more eq c.loop-one.closed (fitting fits.links.items fits.configurations.items) in
    let origins_of = λ (n : Contents g.row.M-Configuration.Denot). n.origins in
    on_ok_weaker c.keep_all.result
    (λ is. (more.0, ap origins_of is ∙ more.1 ∙ ap (λ l. l ++ more.0) i.origins))
    c.keep_all.ensures.ok
