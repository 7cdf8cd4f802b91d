-- Warnings that are added to a list.
use Rattle.std.proofs.Common.{◌≡◌, ◌↔◌, ◌⊎◌, Bool, true, ℕ, ◌+◌, ◌<◌, ◌≤◌, List, [], inl, inr, sym, ◌∙◌, subst, take, get_or, length}
use Rattle.std.proofs.lemmas.List.{take_all}
use Rattle.hddl_meaning.specs.Mentions.{IsIn}
use Rattle.hddl_meaning.proofs.Listed.{in_nothing}
use Rattle.hddl_warnings.specs.Tells.{Tells}
use Rattle.hddl_warnings.specs.declared.warning.Warning.{Warning}
use Rattle.hddl_warnings.proofs.Members.{read_before, read_cases, read_now}

-- nothing is added where nothing has the property
pub Tells-nothing : (old : List Warning) (P : Warning → Type 0) → ((w : Warning) → P w → ⊥) → Tells old old P
Tells-nothing old P none = record { all = λ w. (λ h. inl h, λ h. elim h [ inl a ↦ a | inr p ↦ absurd (none w p) ]) }

module _ (old mid new : List Warning) (P Q : Warning → Type 0) where
  -- those of one property are added, and then those of another
  pub Tells-then : Tells old mid P → Tells mid new Q → Tells old new (λ w. P w ⊎ Q w)
  Tells-then a b = record {
    all = λ w. (
      λ h. elim ((b.all w).0 h) [
        | inl m ↦ elim ((a.all w).0 m) [ inl o ↦ inl o | inr p ↦ inr (inl p) ]
        | inr q ↦ inr (inr q)
      ],
      λ h. elim h [
        | inl o ↦ (b.all w).1 (inl ((a.all w).1 (inl o)))
        | inr pq ↦ elim pq [ inl p ↦ (b.all w).1 (inl ((a.all w).1 (inr p))) | inr q ↦ (b.all w).1 (inr q) ]
      ],
    );
  }

-- the same with a property that says the same
pub Tells-as : (old new : List Warning) (P Q : Warning → Type 0) → ((w : Warning) → P w → Q w) → ((w : Warning) → Q w → P w) → Tells old new P → Tells old new Q
Tells-as old new P Q there back t = record {
  all = λ w. (
    λ h. elim ((t.all w).0 h) [ inl o ↦ inl o | inr p ↦ inr (there w p) ],
    λ h. elim h [ inl o ↦ (t.all w).1 (inl o) | inr q ↦ (t.all w).1 (inr (back w q)) ],
  );
}

-- a warning that some item of a list gives
abbrev pub AnyTold : {X : Type 0} → (X → Warning → Type 0) → List X → Warning → Type 0
AnyTold {X} P xs w = (x : X) × IsIn x xs × P x w

module _ {X : Type 0} (P : X → Warning → Type 0) where
  -- before a loop nothing is added
  pub AnyTold-none : (old : List Warning) → Tells old old (AnyTold P [])
  AnyTold-none old = Tells-nothing old (AnyTold P []) (λ w (x, at, p). in_nothing x at)

  -- the step of a loop that adds what each item gives
  pub AnyTold-next : (old mid new : List Warning) (xs : List X) (k : ℕ) (x : X) → k < length xs → x ≡ get_or xs k x → Tells old mid (AnyTold P (take k xs))
      → Tells mid new (P x) → Tells old new (AnyTold P (take (k + 1) xs))
  AnyTold-next old mid new xs k x lt is a b =
      Tells-as old new (λ w. AnyTold P (take k xs) w ⊎ P x w) (AnyTold P (take (k + 1) xs))
      (λ w h. elim h [ inl (y, at, p) ↦ (y, read_before xs k x y lt is at, p) | inr p ↦ (x, read_now xs k x lt is, p) ])
      (λ w (y, at, p). elim (read_cases xs k x y lt is at) [ inl before ↦ inl (y, before, p) | inr same ↦ inr (subst (λ (z : X). P z w) (sym same) p) ])
      (Tells-then old mid new (AnyTold P (take k xs)) (P x) a b)

  -- after a loop all items were read
  pub AnyTold-all : (old new : List Warning) (xs : List X) (k : ℕ) → length xs ≤ k → Tells old new (AnyTold P (take k xs)) → Tells old new (AnyTold P xs)
  AnyTold-all old new xs k le t = subst (λ l. Tells old new (AnyTold P l)) (take_all k xs le) t

module _ (mid new : List Warning) (told : Bool) (v u : Warning) (is : v ≡ u) (t : Tells mid new (λ w. (told ≡ true) × (w ≡ v))) where
  -- a warning that was added where a test held is one that holds where the test says
  pub told_where : (P : Type 0) → (told ≡ true) ↔ P → Tells mid new (λ w. P × (w ≡ u))
  told_where P both =
      Tells-as mid new (λ w. (told ≡ true) × (w ≡ v)) (λ w. P × (w ≡ u)) (λ w (held, e). (both.0 held, e ∙ is)) (λ w (p, e). (both.1 p, e ∙ sym is)) t

  -- the same of a test of two facts
  pub told_both : (P Q : Type 0) → (told ≡ true) ↔ (P × Q) → Tells mid new (λ w. P × Q × (w ≡ u))
  told_both P Q both =
      Tells-as mid new (λ w. (told ≡ true) × (w ≡ v)) (λ w. P × Q × (w ≡ u)) (λ w (held, e). let pq = both.0 held in (pq.0, pq.1, e ∙ is))
      (λ w (p, q, e). (both.1 (p, q), e ∙ sym is)) t
