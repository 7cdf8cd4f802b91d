use Rattle.std.proofs.Common.{◌≡◌, ◌<◌, ◌∙◌, ◌++◌, ◌∷◌, [], ℕ, Bool, true, false, not, List, length, get_or, ap, refl, subst, sym, arith, true≢false}
use Rattle.std.specs.List.{list_any}
use Rattle.std.proofs.lemmas.List.{get_or_append_left}
use Rattle.std.proofs.lemmas.List.Folds.{list_any_at}
use Rattle.indexmap.specs.IndexSet.{insert_key}
use Rattle.network_table.specs.Interning.{IsNumberOf}
use Rattle.htn_model.specs.PlanFile.{IsWithoutRepeats}
use Rattle.network_table.specs.Numbered.{Numbered, nothing}
use Rattle.network_table.specs.Entries.{AreLinked, Fits, chained, entry_eq, entry_eq-decides, network_by, networks_of}
use Rattle.network_table.specs.declared.network_set.Entry.{Entry}
use Rattle.network_table.specs.declared.network_set.Entry.TheVariants.{Chain, Whole}
use Rattle.network_table.proofs.Keys.{inserted_new, inserted_old}
use Rattle.network_table.proofs.Linking.{distinct_push, entry_is, linked_push, network_at_place, networks_len, networks_push}
use Rattle.network_table.proofs.network_set.NetworkSet.insert.Goals as goal

-- an entry that fits stands for the same among more networks
longer : (networks more : List Numbered) (e : Entry) → Fits networks e → network_by (networks ++ more) e ≡ network_by networks e
longer networks more (Chain link) (low, chain_is) = ap (chained link.first) (get_or_append_left networks more nothing link.rest low)
longer networks more (Whole network) fits = refl

-- the set of keys before and after one is inserted
module _ (keys after : List Entry) (e : Entry) (b : Bool) (linked : AreLinked keys) (fits : Fits (networks_of keys) e) (are : after ≡ insert_key entry_eq keys e)
    (added : b ≡ not (list_any (entry_eq e) keys)) where
  -- the keys where it is new
  new_keys : b ≡ true → after ≡ keys ++ e ∷ []
  new_keys new = are ∙ inserted_new entry_eq keys e b added new

  -- the keys where it was there
  old_keys : b ≡ false → after ≡ keys
  old_keys old = are ∙ inserted_old entry_eq keys e b added old

  -- the keys stay linked
  linked_after : AreLinked after
  linked_after = by b refl
    where
      by : (c : Bool) → b ≡ c → AreLinked after
      by true is = subst AreLinked (sym (new_keys is)) (linked_push keys e linked fits)
      by false is = subst AreLinked (sym (old_keys is)) linked

  -- the entry stands for the same among the networks after
  same_after : network_by (networks_of after) e ≡ network_by (networks_of keys) e
  same_after = by b refl
    where
      by : (c : Bool) → b ≡ c → network_by (networks_of after) e ≡ network_by (networks_of keys) e
      by true is =
          ap (λ ns. network_by ns e) (ap networks_of (new_keys is) ∙ networks_push keys e)
          ∙ longer (networks_of keys) (network_by (networks_of keys) e ∷ []) e fits
      by false is = ap (λ ks. network_by (networks_of ks) e) (old_keys is)

  -- where it is new it stands nowhere before
  absent : b ≡ true → (n : ℕ) → n < length keys → get_or keys n e ≡ e → ⊥
  absent new n low at =
      let there = list_any_at (entry_eq e) keys n e low ((entry_eq-decides e (get_or keys n e)).1 (sym at)) in
      true≢false (sym new ∙ added ∙ ap not there)

  -- no network stands twice
  distinct_after : IsWithoutRepeats (networks_of keys) → IsWithoutRepeats (networks_of after)
  distinct_after distinct = by b refl
    where
      by : (c : Bool) → b ≡ c → IsWithoutRepeats (networks_of after)
      by true is =
          subst IsWithoutRepeats (sym (ap networks_of (new_keys is) ∙ networks_push keys e))
          (distinct_push (networks_of keys) (network_by (networks_of keys) e) distinct
          (λ n inside same. let low : n < length keys = omega (arith, inside, networks_len keys) in
          absent is n low (entry_is keys linked distinct n e e low fits same)))
      by false is = subst (λ ks. IsWithoutRepeats (networks_of ks)) (sym (old_keys is)) distinct

  module _ (place : ℕ) (number : IsNumberOf entry_eq after e place) where
    -- it stands at its place
    placed : get_or after place e ≡ e
    placed = sym ((entry_eq-decides e (get_or after place e)).0 (number.1 e))

    -- its network stands there
    placed_network : (place < length (networks_of after)) × (get_or (networks_of after) place nothing ≡ network_by (networks_of keys) e)
    placed_network = (
      omega (arith, number.0, networks_len after),
      network_at_place (networks_of after) place (get_or after place e) (linked_after place e number.0)
          ∙ ap (network_by (networks_of after)) placed ∙ same_after,
    )

pub invariant_of-self-2 : goal.invariant_of-self-2
invariant_of-self-2 c =
    let keys = c.self.inside.entries in
    let fits : Fits (networks_of keys) c.args.entry = subst (λ ns. Fits ns c.args.entry) (sym c.self.view_is) c.requires in
    linked_after keys c.intern.new.self c.args.entry c.in_ok-placed.placed.1 c.self.invariant fits c.in_ok-placed.ensures.values c.in_ok-placed.ensures.new

pub returns-clause-place : goal.returns-clause-place
returns-clause-place c =
    let keys = c.self.inside.entries in
    let fits : Fits (networks_of keys) c.args.entry = subst (λ ns. Fits ns c.args.entry) (sym c.self.view_is) c.requires in
    let found =
    placed_network keys c.intern.new.self c.args.entry c.in_ok-placed.placed.1 c.self.invariant fits c.in_ok-placed.ensures.values c.in_ok-placed.ensures.new c.in_ok-placed.placed.0 c.in_ok-placed.ensures.number in
    (found.0, found.1 ∙ ap (λ ns. network_by ns c.args.entry) c.self.view_is)

pub returns-clause-last : goal.returns-clause-last
returns-clause-last c = λ new. c.in_ok-placed.ensures.last new ∙ sym (networks_len c.self.inside.entries) ∙ ap length c.self.view_is

pub returns-clause-distinct : goal.returns-clause-distinct
returns-clause-distinct c =
    let keys = c.self.inside.entries in
    let fits : Fits (networks_of keys) c.args.entry = subst (λ ns. Fits ns c.args.entry) (sym c.self.view_is) c.requires in
    λ distinct.
    distinct_after keys c.intern.new.self c.args.entry c.in_ok-placed.placed.1 c.self.invariant fits c.in_ok-placed.ensures.values c.in_ok-placed.ensures.new
    (subst IsWithoutRepeats (sym c.self.view_is) distinct)
