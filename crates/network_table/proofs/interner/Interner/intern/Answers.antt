use Rattle.std.proofs.Common.{◌∙◌, ap, sym, subst, length}
use Rattle.std.specs.Cmp.{IsEquivalence}
use Rattle.network_table.specs.Interning.{AreApart}
use Rattle.network_table.proofs.Interned.{apart_insert, last_place, place_of}
use Rattle.network_table.proofs.interner.Interner.intern.Given as given
use Rattle.network_table.proofs.interner.Interner.intern.Goals as goal

-- equality is one
laws : (g : given.Over) → IsEquivalence g.T.PartialEq.eq
laws g = g.met.T.Eq.laws

pub invariant_of-self-2 : goal.invariant_of-self-2
invariant_of-self-2 g c =
    subst (AreApart g.T.PartialEq.eq) (sym c.in_ok-index.ensures.keys) (apart_insert g.T.PartialEq.eq (laws g) c.self.inside.values.keys c.args.value c.self.invariant)

pub returns-clause-number : goal.returns-clause-number
returns-clause-number g c = place_of g.T.PartialEq.eq c.args.value c.insert_full.new.self.keys c.in_ok-index.index c.in_ok-index.ensures.within c.in_ok-index.ensures.stored

pub returns-clause-last : goal.returns-clause-last
returns-clause-last g c =
    λ new. c.in_ok-index.ensures.index ∙ last_place g.T.PartialEq.eq c.args.value c.self.inside.values.keys (sym c.in_ok-index.ensures.added ∙ new) ∙ ap length c.self.view_is
