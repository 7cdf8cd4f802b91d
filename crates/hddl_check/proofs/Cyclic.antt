-- Declarations of types that lie on cycles, as faults.
use Rattle.std.proofs.Common.{◌≡◌, ◌⊎◌, ◌∙◌, ◌<◌, ℕ, length, get_or, List, [], ◌∷◌, map, Option, Some, None, ap, inl, inr, refl, sym, subst}
use Rattle.std.specs.List.{fold}
use Rattle.hddl_words.specs.Names.{Name}
use Rattle.hddl_words.specs.declared.term.NameGroup.{NameGroup}
use Rattle.hddl_words.specs.declared.domain.DomainText.{DomainText}
use Rattle.hddl_meaning.specs.Mentions.{IsIn, Mention, Typed, mention_of, typed_names}
use Rattle.hddl_meaning.specs.Names.{optional_mention}
use Rattle.hddl_meaning.specs.Types.{IsOnCycle}
use Rattle.hddl_meaning.specs.Items.{type_of}
use Rattle.hddl_meaning.specs.declared.fault.Source.TheVariants as source
use Rattle.hddl_meaning.specs.declared.fault.At.{At}
use Rattle.hddl_meaning.specs.declared.fault.CheckFault.{CheckFault}
use Rattle.hddl_meaning.specs.declared.fault.CheckFault.TheVariants as fault
use Rattle.std.proofs.lemmas.List.Elements.{Contains-get_or}
use Rattle.hddl_meaning.proofs.Listed.{in_flat_map, in_map}
use Rattle.hddl_names.specs.Cycles.{typed_name}
use Rattle.hddl_check.specs.Cycles.{CycleFails, IsCycleFault, cycle_at}
use Rattle.hddl_scope.specs.Findings.{Adds, AddsAny, Kept, keep}
use Rattle.hddl_scope.proofs.Adding.{Adds-none, Adds-same}
use Rattle.hddl_scope.proofs.Finding.{mapped}

-- the parent that is written for a name is its type's
parent_mentions : (parent : Option Name) (name : Name) → optional_mention parent ≡ type_of (typed_name parent name)
parent_mentions None name = refl
parent_mentions (Some x) name = refl

-- a declaration that lies on no cycle adds no fault
pub off_cycle : (d : DomainText) (t : Typed) {before after : Kept} → (IsOnCycle d t → ⊥) → after ≡ before → Adds (λ _. ⊥) (CycleFails d t) before after
off_cycle d t off is = Adds-none (λ f (on, rest). off on) is

-- a declaration on a cycle adds a fault at its name, and at its parent
pub on_cycle : (d : DomainText) (parent : Option Name) (name : Name) {before between after : Kept} → IsOnCycle d (typed_name parent name)
    → between ≡ keep before (cycle_at (mention_of name)) → after ≡ fold keep between (map cycle_at (optional_mention parent))
    → Adds (λ _. ⊥) (CycleFails d (typed_name parent name)) before after
on_cycle d parent name on first rest = record {
  added = map cycle_at (mention_of name ∷ optional_mention parent);
  sound = λ f at. let (m, in', is) = mapped cycle_at (mention_of name ∷ optional_mention parent) f at in (on, (m, subst (IsIn m) all in', is));
  complete = λ f (_, (m, in', is)).
      inl (subst (λ g. IsIn g (map cycle_at (mention_of name ∷ optional_mention parent))) (sym is)
      (in_map cycle_at m (mention_of name ∷ optional_mention parent) (subst (IsIn m) (sym all) in')));
  none = λ e. cc;
  is = rest ∙ ap (λ k. fold keep k (map cycle_at (optional_mention parent))) first;
}
  where
    all : mention_of name ∷ optional_mention parent ≡ mention_of name ∷ type_of (typed_name parent name)
    all = ap (λ l. mention_of name ∷ l) (parent_mentions parent name)

-- faults of all declarations are the cycles of types
pub cycles_added : (d : DomainText) {before after : Kept} → AddsAny (λ _ _. ⊥) (CycleFails d) (typed_names d.types) before after
    → Adds (λ _. ⊥) (IsCycleFault d) before after
cycles_added d =
    Adds-same (λ f (t, at, gone). gone)
    (λ f (t, in', (on, (m, at, is))). (record { source = source.Domain; place = m.place }, is, (refl, t, m, in', on, at, refl)))
    (λ f (at, is, (text, t, m, in', on, here, same)).
    (t, in', (on, (m, here, is ∙ ap fault.TypeCycle (let both : at ≡ record { source = source.Domain; place = m.place } = λ i. record { source = text i; place = same i } in both)))))

-- what stands at a position is in the list
pub at_index : {X : Type 0} (xs : List X) (k : ℕ) (x : X) → k < length xs → x ≡ get_or xs k x → IsIn x xs
at_index xs k x lt is = subst (λ y. IsIn y xs) (sym is) (Contains-get_or xs k x lt)

-- the declarations of a group are among those of all groups
pub in_groups : (gs : List NameGroup) (g : NameGroup) → IsIn g gs → (t : Typed) → IsIn t (map (typed_name g.of_type) g.names) → IsIn t (typed_names gs)
in_groups gs g at t there = in_flat_map (λ (g : NameGroup). map (typed_name g.of_type) g.names) g t gs at there
