-- The fault that comes first.
use Rattle.std.proofs.Common.{◌≡◌, Bool, true, false, List, [], ◌∷◌, Option, Some, ap, inl, inr, refl, sym, subst, ◌∙◌, cond, slice_get, true≢false}
use Rattle.std.specs.Cmp.{IsTotalOrder}
use Rattle.std.specs.List.{AllByRecursion, fold}
use Rattle.std.specs.List.Sorted.{IsStrictlySortedBy}
use Rattle.std.specs.Ordering.{is_lt, ordering_reverse}
use Rattle.std.specs.declared.cmp.Ordering.{Ordering}
use Rattle.std.specs.declared.cmp.Ordering.TheVariants.{Equal, Greater, Less}
use Rattle.std.proofs.lemmas.Cmp.{tied_itself}
use Rattle.hddl_meaning.specs.Mentions.{IsIn}
use Rattle.hddl_meaning.specs.declared.fault.CheckFault.{CheckFault}
use Rattle.hddl_meaning.proofs.Listed.{in_cases, in_nothing}
use Rattle.hddl_scope.specs.Findings.{Kept, keep}
use Rattle.hddl_scope.specs.Ranks.{AreInOrder, comes_before, fault_of, rank_cmp, rank_of}
use Rattle.hddl_scope.specs.declared.ranks.Rank.{Rank}
use Rattle.hddl_scope.proofs.Ordering.{back, rank_cmp-same, rank_cmp-total}

-- how two faults compare
abbrev by_rank : CheckFault → CheckFault → Ordering
by_rank f g = rank_cmp (rank_of f) (rank_of g)

-- the first fault doesn't come before the second
abbrev pub NotBefore : CheckFault → CheckFault → Type 0
NotBefore f g = comes_before f g ≡ true → ⊥

-- what is below compares as less
less : (o : Ordering) → is_lt o ≡ true → o ≡ Less
less Less e = refl
less Equal e = absurd (true≢false (sym e))
less Greater e = absurd (true≢false (sym e))

-- no fault comes before itself
pub not_itself : (f : CheckFault) → NotBefore f f
not_itself f e = true≢false (sym e ∙ ap is_lt (tied_itself rank_cmp-total (rank_of f)))

-- what comes before a fault comes before what that comes before
pub before_both : (f g h : CheckFault) → comes_before f g ≡ true → comes_before g h ≡ true → comes_before f h ≡ true
before_both f g h one two =
    ap is_lt (rank_cmp-total.trans (rank_of f) (rank_of g) (rank_of h) (less (by_rank f g) one) (less (by_rank g h) two))

-- what comes before a fault comes before each that doesn't
before_other : (f g h : CheckFault) → comes_before f h ≡ true → NotBefore g h → comes_before f g ≡ true
before_other f g h one not = by (by_rank g h) refl
  where
    by : (o : Ordering) → by_rank g h ≡ o → comes_before f g ≡ true
    by Less e = absurd (not (ap is_lt e))
    by Equal e = subst (λ (r : Rank). is_lt (rank_cmp (rank_of f) r) ≡ true) (sym (rank_cmp-same (rank_of g) (rank_of h) e)) one
    by Greater e = before_both f h g one (ap is_lt (rank_cmp-total.antisymm (rank_of h) (rank_of g) ∙ ap ordering_reverse e))

-- two faults of which neither comes before the other are the same
pub neither_before : (f g : CheckFault) → NotBefore f g → NotBefore g f → f ≡ g
neither_before f g not_first not_second = by (by_rank f g) refl
  where
    by : (o : Ordering) → by_rank f g ≡ o → f ≡ g
    by Less e = absurd (not_first (ap is_lt e))
    by Equal e = sym (back f) ∙ ap fault_of (rank_cmp-same (rank_of f) (rank_of g) e) ∙ back g
    by Greater e = absurd (not_second (ap is_lt (rank_cmp-total.antisymm (rank_of g) (rank_of f) ∙ ap ordering_reverse e)))

-- the first that is kept, after one and then others
pub record KeepsLeast (g : CheckFault) (fs kept : List CheckFault) : Type 0 where
  pub least : CheckFault
  pub rest : List CheckFault
  pub is : kept ≡ least ∷ rest
  pub old : NotBefore g least
  pub all : (f : CheckFault) → IsIn f fs → NotBefore f least

-- where the first is kept, none of the others comes before it
pub keeps_least : (fs : List CheckFault) (g : CheckFault) (gs : List CheckFault) → KeepsLeast g fs (fold keep (record { keeps_all = false; faults = g ∷ gs }) fs).faults
keeps_least [] g gs = record { least = g; rest = gs; is = refl; old = not_itself g; all = λ f at. absurd (in_nothing f at) }
keeps_least (x ∷ fs) g gs = by (comes_before x g) refl (λ h hs. keeps_least fs h hs)
  where
    -- what is kept where it is known which of the two comes first
    after : Bool → List CheckFault
    after b = (fold keep (record { keeps_all = false; faults = cond b (x ∷ []) (g ∷ gs) }) fs).faults

    both : (h : CheckFault) → NotBefore x h → ((f : CheckFault) → IsIn f fs → NotBefore f h) → (f : CheckFault) → IsIn f (x ∷ fs) → NotBefore f h
    both h own others f at = elim (in_cases x f fs at) [ inl e ↦ subst (λ y. NotBefore y h) e own | inr later ↦ others f later ]

    by : (b : Bool) → comes_before x g ≡ b
        → ((h : CheckFault) (hs : List CheckFault) → KeepsLeast h fs (fold keep (record { keeps_all = false; faults = h ∷ hs }) fs).faults)
        → KeepsLeast g (x ∷ fs) (after b)
    by true e others =
        let k = others x [] in
        record { least = k.least; rest = k.rest; is = k.is; old = λ h. k.old (before_both x g k.least e h); all = both k.least k.old k.all }
    by false e others =
        let k = others g gs in
        record {
          least = k.least;
          rest = k.rest;
          is = k.is;
          old = k.old;
          all = both k.least (λ h. true≢false (sym (before_other x g k.least h k.old) ∙ e)) k.all;
        }

-- none of the faults that were given comes before the first that is kept
pub first_is_least : (fs : List CheckFault) (f : CheckFault) → slice_get (fold keep (record { keeps_all = false; faults = [] }) fs).faults 0 ≡ Some f
    → (g : CheckFault) → IsIn g fs → NotBefore g f
first_is_least [] f e g at = absurd (in_nothing g at)
first_is_least (x ∷ fs) f e g at =
    let k = keeps_least fs x [] in
    let same : k.least ≡ f = let there = sym (ap (λ (l : List CheckFault). slice_get l 0) k.is) ∙ e in cc in
    subst (NotBefore g) same (elim (in_cases x g fs at) [ inl is ↦ subst (λ y. NotBefore y k.least) is k.old | inr later ↦ k.all g later ])

-- what follows is not before
follows : (f : CheckFault) (fs : List CheckFault) → AllByRecursion (λ g. by_rank f g ≡ Less) fs → (g : CheckFault) → IsIn g fs → NotBefore g f
follows f [] h g at = absurd (in_nothing g at)
follows f (x ∷ fs) h g at = elim (in_cases x g fs at) [
  | inl is ↦ λ e. not_itself f (before_both f g f (ap is_lt (subst (λ y. by_rank f y ≡ Less) is h.0)) e)
  | inr later ↦ follows f fs h.1 g later
]

-- none of faults in order comes before the first
pub first_in_order : (fs : List CheckFault) → AreInOrder fs → (f : CheckFault) → slice_get fs 0 ≡ Some f → (g : CheckFault) → IsIn g fs → NotBefore g f
unfolding IsStrictlySortedBy
first_in_order [] h f e g at = absurd (in_nothing g at)
first_in_order (x ∷ fs) h f e g at =
    let same : x ≡ f = cc in
    subst (NotBefore g) same (elim (in_cases x g fs at) [ inl is ↦ subst (λ y. NotBefore y x) is (not_itself x) | inr later ↦ follows x fs h.0 g later ])
