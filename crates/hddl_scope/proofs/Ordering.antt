-- Faults in order: what a sort of their ranks leaves.
use Rattle.std.proofs.Common.{◌≡◌, ◌↔◌, ◌&&◌, ℕ, Bool, true, Decides, List, [], ◌∷◌, map, refl, sym, ap, subst, ◌∙◌, nat_eq}
use Rattle.std.specs.Cmp.{IsEquivalence, IsTotalOrder, unsigned_Decides, first_so, second_so}
use Rattle.std.proofs.lemmas.Map.Lookups.{exact_pairs, exact_unsigned}
use Rattle.std.specs.Cmp.{Equal-is, both_ways}
use Rattle.std.specs.List.{AllByRecursion, dedup}
use Rattle.std.specs.List.Sorted.{IsPermutation, IsSorted, IsStrictlySortedBy}
use Rattle.std.specs.Ordering.{eq_of_both, is_eq, nat_cmp, on, ordering_then}
use Rattle.std.specs.declared.cmp.Ordering.TheVariants.{Equal, Less}
use Rattle.std.proofs.lemmas.Cmp.{and_equiv, nat_cmp_total, nat_eq_equiv, on_equiv, on_total, then_total, tied_itself}
use Rattle.std.proofs.lemmas.List.Kept.{Contains-dedup, Contains-from_dedup, IsStrictlySortedBy-dedup}
use Rattle.std.proofs.lemmas.List.Sorted.{Contains-permutation, IsPermutation-sym}
use Rattle.hddl_meaning.specs.Mentions.{IsIn}
use Rattle.hddl_meaning.specs.declared.fault.Source.{Source}
use Rattle.hddl_meaning.specs.declared.fault.Source.TheVariants as source
use Rattle.hddl_meaning.specs.declared.fault.At.{At}
use Rattle.hddl_meaning.specs.declared.fault.CheckFault.{CheckFault}
use Rattle.hddl_meaning.specs.declared.fault.CheckFault.TheVariants as fault
use Rattle.hddl_meaning.proofs.Listed.{at_head, at_tail, in_map}
use Rattle.hddl_scope.specs.Ranks.{AreInOrder, at_of, fault_of, rank_at, rank_cmp, rank_of}
use Rattle.hddl_scope.specs.declared.ranks.Rank.{Rank}
use Rattle.hddl_scope.proofs.Finding.{mapped}

-- whether two ranks are the same
abbrev pub rank_eq : Rank → Rank → Bool
rank_eq = eq_of_both (on (λ r. r.text) nat_eq) (eq_of_both (on (λ r. r.place) nat_eq) (on (λ r. r.kind) nat_eq))

-- ranks are ordered
pub rank_cmp-total : IsTotalOrder rank_cmp
rank_cmp-total =
    then_total (on_total (λ (r : Rank). r.text) nat_cmp_total) (then_total (on_total (λ (r : Rank). r.place) nat_cmp_total) (on_total (λ (r : Rank). r.kind) nat_cmp_total))

-- their equality is one
rank_eq-laws : IsEquivalence rank_eq
rank_eq-laws =
    and_equiv (on_equiv (λ (r : Rank). r.text) nat_eq_equiv) (and_equiv (on_equiv (λ (r : Rank). r.place) nat_eq_equiv) (on_equiv (λ (r : Rank). r.kind) nat_eq_equiv))

-- the place of a rank is that of the fault
at_back : (at : At) (kind : _) → at_of (rank_at at kind) ≡ at
at_back at kind = by at.source at.place
  where
    by : (s : Source) (place : _) → at_of (rank_at (record { source = s; place = place }) kind) ≡ record { source = s; place = place }
    by source.Domain place = refl
    by source.Problem place = refl

-- the fault that has the rank of a fault is that fault
pub back : (f : CheckFault) → fault_of (rank_of f) ≡ f
back (fault.Duplicate at) = ap fault.Duplicate (at_back at 0)
back (fault.UnknownType at) = ap fault.UnknownType (at_back at 1)
back (fault.TypeCycle at) = ap fault.TypeCycle (at_back at 2)
back (fault.UnknownName at) = ap fault.UnknownName (at_back at 3)
back (fault.Arity at) = ap fault.Arity (at_back at 4)
back (fault.TypeClash at) = ap fault.TypeClash (at_back at 5)
back (fault.OrderCycle at) = ap fault.OrderCycle (at_back at 6)
back (fault.UnknownSubtask at) = ap fault.UnknownSubtask (at_back at 7)
back (fault.TooMany at) = ap fault.TooMany (at_back at 8)
back fault.OutOfMemory = refl

-- two tests that hold hold together
both_true : (a b : Bool) → a ≡ true → b ≡ true → (a && b) ≡ true
both_true a b h g = λ i. h i && g i

-- ranks that their test finds equal are equal
rank_eq-decides : (x y : Rank) → Decides (rank_eq x y) (x ≡ y)
rank_eq-decides x y = (
  λ e. let text = (unsigned_Decides x.text y.text).0 (first_so _ _ e) in
      let rest = second_so _ _ e in
      let place = (unsigned_Decides x.place y.place).0 (first_so _ _ rest) in
      let kind = (unsigned_Decides x.kind y.kind).0 (second_so _ _ rest) in
      λ i. record { text = text i; place = place i; kind = kind i },
  λ e. both_true _ _ ((unsigned_Decides x.text y.text).1 (ap (λ (r : Rank). r.text) e))
      (both_true _ _ ((unsigned_Decides x.place y.place).1 (ap (λ (r : Rank). r.place) e)) ((unsigned_Decides x.kind y.kind).1 (ap (λ (r : Rank). r.kind) e))),
)

-- ranks that tie are equal
pub rank_cmp-same : (x y : Rank) → rank_cmp x y ≡ Equal → x ≡ y
rank_cmp-same x y tie =
    ap (λ (p : ℕ × (ℕ × ℕ)). record { text = p.0; place = p.1.0; kind = p.1.1 })
    (exact_pairs nat_cmp (λ p q. ordering_then (nat_cmp p.0 q.0) (nat_cmp p.1 q.1)) exact_unsigned (exact_pairs nat_cmp nat_cmp exact_unsigned exact_unsigned)
    (x.text, (x.place, x.kind)) (y.text, (y.place, y.kind)) tie)

-- the test of ranks is true just where they tie
rank_cmp-matches : (x y : Rank) → rank_eq x y ≡ is_eq (rank_cmp x y)
rank_cmp-matches x y =
    both_ways (rank_eq x y) (is_eq (rank_cmp x y))
    (λ e. subst (λ (z : Rank). is_eq (rank_cmp x z) ≡ true) ((rank_eq-decides x y).0 e) (ap is_eq (tied_itself rank_cmp-total x)))
    (λ e. (rank_eq-decides x y).1 (rank_cmp-same x y ((Equal-is (rank_cmp x y)).0 e)))

-- what follows a rank in order, seen as ranks of faults
all_after : (f : CheckFault) (gs : List CheckFault) → AllByRecursion (λ r. rank_cmp (rank_of f) r ≡ Less) (map rank_of gs)
    → AllByRecursion (λ g. rank_cmp (rank_of f) (rank_of g) ≡ Less) gs
all_after f [] h = tt
all_after f (g ∷ gs) h = (h.0, all_after f gs h.1)

-- faults are in order where their ranks are
in_order_by : (fs : List CheckFault) → IsStrictlySortedBy rank_cmp (map rank_of fs) → AreInOrder fs
unfolding IsStrictlySortedBy
in_order_by [] h = tt
in_order_by (f ∷ fs) h = (all_after f fs h.0, in_order_by fs h.1)

-- each rank of a list is that of a fault
abbrev AreRanks : List Rank → Type 0
AreRanks rs = (r : Rank) → IsIn r rs → (f : CheckFault) × (r ≡ rank_of f)

-- the ranks of the faults of ranks are those ranks
there_and_back : (rs : List Rank) → AreRanks rs → map rank_of (map fault_of rs) ≡ rs
there_and_back [] are = refl
there_and_back (r ∷ rs) are =
    let (f, is) = are r (at_head r rs) in
    let same : rank_of (fault_of r) ≡ r = ap (λ s. rank_of (fault_of s)) is ∙ ap rank_of (back f) ∙ sym is in
    λ i. same i ∷ there_and_back rs (λ s at. are s (at_tail r s rs at)) i

module _ (faults : List CheckFault) (sorted : List Rank) (moved : IsPermutation (map rank_of faults) sorted) where
  -- the ranks that are left
  abbrev left : List Rank
  left = dedup rank_eq sorted

  -- each of them is that of one of the faults
  from_left : (r : Rank) → IsIn r left → (f : CheckFault) × IsIn f faults × (r ≡ rank_of f)
  from_left r at =
      mapped rank_of faults r (Contains-permutation sorted (map rank_of faults) r (IsPermutation-sym (map rank_of faults) sorted moved) (Contains-from_dedup rank_eq sorted r at))

  -- the faults of the ranks that are left are the faults
  pub same_faults : (f : CheckFault) → IsIn f (map fault_of left) ↔ IsIn f faults
  same_faults f = (
    λ at. let (r, in', is) = mapped fault_of left f at in
        let (g, there, e) = from_left r in' in
        subst (λ x. IsIn x faults) (sym (is ∙ ap fault_of e ∙ back g)) there,
    λ at. let there : IsIn (rank_of f) left =
        Contains-dedup rank_eq-laws (λ x y. (rank_eq-decides x y).0) sorted (rank_of f) (Contains-permutation (map rank_of faults) sorted (rank_of f) moved (in_map rank_of f faults at)) in
        subst (λ x. IsIn x (map fault_of left)) (back f) (in_map fault_of (rank_of f) left there),
  )

  -- and they are in order
  pub ordered : IsSorted rank_cmp sorted → AreInOrder (map fault_of left)
  ordered up =
      in_order_by (map fault_of left)
      (subst (IsStrictlySortedBy rank_cmp) (sym (there_and_back left (λ r at. let (f, in', is) = from_left r at in (f, is))))
      (IsStrictlySortedBy-dedup rank_cmp-total rank_cmp-matches sorted up))
