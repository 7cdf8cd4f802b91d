use Rattle.std.proofs.Common.{◌≡◌, ◌∙◌, ◌++◌, [], List, All, Contains, ap, subst, sym}
use Rattle.htn_model.specs.PlanFile.{IsWithoutRepeats}
use Rattle.network_table.specs.Interning.{AreApart}
use Rattle.network_table.specs.Entries.{AreLinked, IsAlone, entry_eq, network_by, networks_alone, networks_of}
use Rattle.network_table.specs.declared.network_set.Entry.{Entry}
use Rattle.network_table.proofs.Alone.{contained_all, contains_map, distinct_append, linked_append, networks_append, places_are}
use Rattle.network_table.proofs.network_set.NetworkSet.insert_all.Goals as goal

-- entries before and after more of a batch
module _ (old new batch more : List Entry) (linked : AreLinked old) (alone : All IsAlone batch) (are : new ≡ old ++ more) (within : All (Contains batch) more) where
  -- more are kept over no others, too
  more_alone : All IsAlone more
  more_alone = contained_all IsAlone batch more alone within

  -- they stay linked
  linked_after : AreLinked new
  linked_after = subst AreLinked (sym are) (linked_append old more linked more_alone)

  -- the networks are more
  networks_after : networks_of new ≡ networks_of old ++ networks_alone more
  networks_after = ap networks_of are ∙ networks_append old more more_alone

  -- none stands twice
  distinct_after : AreApart entry_eq new → IsWithoutRepeats (networks_of old) → IsWithoutRepeats (networks_of new)
  distinct_after apart distinct =
      subst (λ es. IsWithoutRepeats (networks_of es)) (sym are) (distinct_append old more linked more_alone (subst (AreApart entry_eq) are apart) distinct)

pub invariant_of-self-2 : goal.invariant_of-self-2
invariant_of-self-2 c =
    let grown = c.in_ok-places.ensures.interned.grown in
    linked_after c.self.inside.entries c.intern_all.new.self c.args.networks.items grown.0 c.self.invariant c.requires grown.1 grown.2

pub returns-clause-grown : goal.returns-clause-grown
returns-clause-grown c =
    let batch = c.args.networks.items in
    let grown = c.in_ok-places.ensures.interned.grown in (
      networks_alone grown.0,
      networks_after c.self.inside.entries c.intern_all.new.self batch grown.0 c.self.invariant c.requires grown.1 grown.2 ∙ ap (λ ns. ns ++ networks_alone grown.0) c.self.view_is,
      contains_map (network_by []) batch grown.0 grown.2,
    )

pub returns-clause-places : goal.returns-clause-places
returns-clause-places c =
    let batch = c.args.networks.items in
    let grown = c.in_ok-places.ensures.interned.grown in
    let linked = linked_after c.self.inside.entries c.intern_all.new.self batch grown.0 c.self.invariant c.requires grown.1 grown.2 in
    places_are c.intern_all.new.self batch c.in_ok-places.places.items linked c.requires c.in_ok-places.ensures.interned.numbers_are

pub returns-clause-distinct : goal.returns-clause-distinct
returns-clause-distinct c =
    let grown = c.in_ok-places.ensures.interned.grown in
    λ distinct. distinct_after c.self.inside.entries c.intern_all.new.self c.args.networks.items grown.0 c.self.invariant c.requires grown.1 grown.2 c.in_ok-places.ensures.apart
    (subst IsWithoutRepeats (sym c.self.view_is) distinct)

pub invariant_of-self : goal.invariant_of-self
invariant_of-self c =
    let grown = c.intern_all.ensures.grown in
    linked_after c.self.inside.entries c.intern_all.new.self c.args.networks.items grown.0 c.self.invariant c.requires grown.1 grown.2
