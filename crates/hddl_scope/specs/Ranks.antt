-- The order of faults: by the text, by the place, and then by the kind.
use Rattle.std.specs.Prelude.{ℕ, Bool, cond, nat_eq, List}
use Rattle.std.specs.declared.cmp.Ordering.{Ordering}
use Rattle.std.specs.Ordering.{is_lt, nat_cmp, on, then_cmp}
use Rattle.std.specs.List.Sorted.{IsStrictlySortedBy}
use Rattle.hddl_meaning.specs.declared.fault.Source.{Source}
use Rattle.hddl_meaning.specs.declared.fault.Source.TheVariants as source
use Rattle.hddl_meaning.specs.declared.fault.At.{At}
use Rattle.hddl_meaning.specs.declared.fault.CheckFault.{CheckFault}
use Rattle.hddl_meaning.specs.declared.fault.CheckFault.TheVariants as fault
use Rattle.hddl_scope.specs.declared.ranks.Rank.{Rank}

-- the domain comes before the problem
abbrev pub text_number : Source → ℕ
text_number source.Domain = 0
text_number source.Problem = 1

-- where a fault stands, with the number of its kind
abbrev pub rank_at : At → ℕ → Rank
rank_at at kind = record { text = text_number at.source; place = at.place; kind = kind }

-- where a fault stands, with its kind, as numbers
abbrev pub rank_of : CheckFault → Rank
rank_of (fault.Duplicate at) = rank_at at 0
rank_of (fault.UnknownType at) = rank_at at 1
rank_of (fault.TypeCycle at) = rank_at at 2
rank_of (fault.UnknownName at) = rank_at at 3
rank_of (fault.Arity at) = rank_at at 4
rank_of (fault.TypeClash at) = rank_at at 5
rank_of (fault.OrderCycle at) = rank_at at 6
rank_of (fault.UnknownSubtask at) = rank_at at 7
rank_of (fault.TooMany at) = rank_at at 8
rank_of fault.OutOfMemory = record { text = 2; place = 0; kind = 9 }

-- the place that a rank has
abbrev pub at_of : Rank → At
at_of r = record { source = cond (nat_eq r.text 0) source.Domain source.Problem; place = r.place }

-- the fault that has a rank
abbrev pub fault_of : Rank → CheckFault
fault_of r =
    let at = at_of r in
    cond (nat_eq r.kind 0) (fault.Duplicate at)
    (cond (nat_eq r.kind 1) (fault.UnknownType at)
    (cond (nat_eq r.kind 2) (fault.TypeCycle at)
    (cond (nat_eq r.kind 3) (fault.UnknownName at)
    (cond (nat_eq r.kind 4) (fault.Arity at)
    (cond (nat_eq r.kind 5) (fault.TypeClash at)
    (cond (nat_eq r.kind 6) (fault.OrderCycle at)
    (cond (nat_eq r.kind 7) (fault.UnknownSubtask at)
    (cond (nat_eq r.kind 8) (fault.TooMany at) fault.OutOfMemory))))))))

-- the order of ranks
abbrev pub rank_cmp : Rank → Rank → Ordering
rank_cmp = then_cmp (on (λ r. r.text) nat_cmp) (then_cmp (on (λ r. r.place) nat_cmp) (on (λ r. r.kind) nat_cmp))

-- whether the first fault comes before the second
abbrev pub comes_before : CheckFault → CheckFault → Bool
comes_before f g = is_lt (rank_cmp (rank_of f) (rank_of g))

-- each fault comes before the next one, so none stands twice
abbrev pub AreInOrder : List CheckFault → Type 0
AreInOrder faults = IsStrictlySortedBy (λ f g. rank_cmp (rank_of f) (rank_of g)) faults
