-- Kinds of warnings, joined.
use Rattle.std.proofs.Common.{◌⊎◌, List, inl, inr}
use Rattle.hddl_warnings.specs.Tells.{Tells}
use Rattle.hddl_warnings.specs.declared.warning.Warning.{Warning}
use Rattle.hddl_warnings.proofs.Telling.{Tells-as, Tells-then}

module _ (old a b c d : List Warning) where
  -- four steps, of which two add two kinds each
  pub six_kinds : (T P Q U V O : Warning → Type 0) → Tells old a T → Tells a b (λ w. P w ⊎ Q w) → Tells b c (λ w. U w ⊎ V w) → Tells c d O
      → Tells old d (λ w. T w ⊎ P w ⊎ Q w ⊎ U w ⊎ V w ⊎ O w)
  six_kinds T P Q U V O t pq uv o =
      Tells-as old d (λ w. ((T w ⊎ (P w ⊎ Q w)) ⊎ (U w ⊎ V w)) ⊎ O w) (λ w. T w ⊎ P w ⊎ Q w ⊎ U w ⊎ V w ⊎ O w)
      (λ w h. elim h [
        | inl tpquv ↦ elim tpquv [
          | inl tpq ↦ elim tpq [ inl t ↦ inl t | inr pq ↦ elim pq [ inl p ↦ inr (inl p) | inr q ↦ inr (inr (inl q)) ] ]
          | inr uv ↦ elim uv [ inl u ↦ inr (inr (inr (inl u))) | inr v ↦ inr (inr (inr (inr (inl v)))) ]
        ]
        | inr o ↦ inr (inr (inr (inr (inr o))))
      ])
      (λ w h. elim h [
        | inl t ↦ inl (inl (inl t))
        | inr pquvo ↦ elim pquvo [
          | inl p ↦ inl (inl (inr (inl p)))
          | inr quvo ↦ elim quvo [
            | inl q ↦ inl (inl (inr (inr q)))
            | inr uvo ↦ elim uvo [ inl u ↦ inl (inr (inl u)) | inr vo ↦ elim vo [ inl v ↦ inl (inr (inr v)) | inr o ↦ inr o ] ]
          ]
        ]
      ])
      (Tells-then old c d (λ w. (T w ⊎ (P w ⊎ Q w)) ⊎ (U w ⊎ V w)) O
      (Tells-then old b c (λ w. T w ⊎ (P w ⊎ Q w)) (λ w. U w ⊎ V w) (Tells-then old a b T (λ w. P w ⊎ Q w) t pq) uv) o)

  -- four steps, each of one kind
  pub four_kinds : (P Q R S : Warning → Type 0) → Tells old a P → Tells a b Q → Tells b c R → Tells c d S → Tells old d (λ w. P w ⊎ Q w ⊎ R w ⊎ S w)
  four_kinds P Q R S p q r s =
      Tells-as old d (λ w. ((P w ⊎ Q w) ⊎ R w) ⊎ S w) (λ w. P w ⊎ Q w ⊎ R w ⊎ S w)
      (λ w h. elim h [
        | inl pqr ↦ elim pqr [ inl pq ↦ elim pq [ inl p ↦ inl p | inr q ↦ inr (inl q) ] | inr r ↦ inr (inr (inl r)) ]
        | inr s ↦ inr (inr (inr s))
      ])
      (λ w h. elim h [
        | inl p ↦ inl (inl (inl p))
        | inr qrs ↦ elim qrs [ inl q ↦ inl (inl (inr q)) | inr rs ↦ elim rs [ inl r ↦ inl (inr r) | inr s ↦ inr s ] ]
      ])
      (Tells-then old c d (λ w. (P w ⊎ Q w) ⊎ R w) S (Tells-then old b c (λ w. P w ⊎ Q w) R (Tells-then old a b P Q p q) r) s)
