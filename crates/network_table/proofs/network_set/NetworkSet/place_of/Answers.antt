use Rattle.std.proofs.Common.{◌≡◌, ◌<◌, ◌∙◌, ℕ, false, true≢false, List, length, get_or, ap, subst, sym, arith, Option, None, Some, IfSome, IfNone}
use Rattle.std.specs.List.{list_any}
use Rattle.std.proofs.lemmas.List.Folds.{list_any_at}
use Rattle.network_table.specs.Interning.{IsNumberOf}
use Rattle.htn_model.specs.PlanFile.{IsWithoutRepeats}
use Rattle.network_table.specs.Numbered.{Numbered, nothing}
use Rattle.network_table.specs.Entries.{AreLinked, Fits, entry_eq, entry_eq-decides, network_by, networks_of}
use Rattle.network_table.specs.declared.network_set.Entry.{Entry}
use Rattle.network_table.proofs.Linking.{entry_is, network_at_place, networks_len}
use Rattle.network_table.proofs.network_set.NetworkSet.place_of.Goals as goal

-- what was found stands for the network
found : (entries : List Entry) → AreLinked entries → (q : Entry) (o : Option ℕ) → IfSome o (IsNumberOf entry_eq entries q)
    → IfSome o (λ n. (n < length (networks_of entries)) × (get_or (networks_of entries) n nothing ≡ network_by (networks_of entries) q))
found entries linked q None is = tt
found entries linked q (Some n) is = (
  omega (arith, is.0, networks_len entries),
  network_at_place (networks_of entries) n (get_or entries n q) (linked n q is.0) ∙ ap (network_by (networks_of entries)) (sym ((entry_eq-decides q (get_or entries n q)).0 (is.1 q))),
)

-- what was not found stands nowhere
absent : (entries : List Entry) → AreLinked entries → (q : Entry) (o : Option ℕ) → IfNone o (list_any (entry_eq q) entries ≡ false)
    → IfNone o ((n : ℕ) → n < length (networks_of entries) → Fits (networks_of entries) q → get_or (networks_of entries) n nothing ≡ network_by (networks_of entries) q
    → IsWithoutRepeats (networks_of entries) → ⊥)
absent entries linked q None is = λ n inside fits same distinct.
    let low : n < length entries = omega (arith, inside, networks_len entries) in
    let at : q ≡ get_or entries n q = sym (entry_is entries linked distinct n q q low fits same) in
    true≢false (sym (list_any_at (entry_eq q) entries n q low ((entry_eq-decides q (get_or entries n q)).1 at)) ∙ is)
absent entries linked q (Some n) is = tt

pub returns-clause-some : goal.returns-clause-some
returns-clause-some c =
    subst (λ (ns : List Numbered). IfSome c.number_of.result (λ n. (n < length ns) × (get_or ns n nothing ≡ network_by ns c.args.entry.now))) c.self.view_is
    (found c.self.inside.entries c.self.invariant c.args.entry.now c.number_of.result c.number_of.ensures.some)

pub returns-clause-none : goal.returns-clause-none
returns-clause-none c =
    subst (λ (ns : List Numbered). IfNone c.number_of.result ((n : ℕ) → n < length ns → Fits ns c.args.entry.now → get_or ns n nothing ≡ network_by ns c.args.entry.now → IsWithoutRepeats ns → ⊥)) c.self.view_is
    (absent c.self.inside.entries c.self.invariant c.args.entry.now c.number_of.result c.number_of.ensures.none)
