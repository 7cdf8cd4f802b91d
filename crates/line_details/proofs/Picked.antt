-- One value for each decomposition line, by the lines' ids.
use Rattle.std.proofs.Common.{ℕ, cond, eqb, List, [], ◌∷◌, inl, inr, sym, refl, ap, subst}
use Rattle.std.proofs.lemmas.Bool.{eq-eqb, ne_eqb}
use Rattle.htn_model.specs.PlanFile.{DecompositionLine, IsIn, IsWithoutRepeats, decomposition_ids}
use Rattle.htn_model.proofs.Marked.{id_listed}

-- what there is for each line is a function of the lines' ids
pub pick : {Y : Type 0} (P : DecompositionLine → Y → Type 0) (other : Y) (lines : List DecompositionLine) → IsWithoutRepeats (decomposition_ids lines)
    → ((line : DecompositionLine) → IsIn line lines → (y : Y) × P line y)
    → (f : ℕ → Y) × ((line : DecompositionLine) → IsIn line lines → P line (f line.id))
pick P other [] distinct each = ((λ id. other), (λ line i. absurd i))
pick {Y = Y} P other (line ∷ lines) distinct each =
    let (y, good) = each line (inl refl) in
    let (g, more) = pick P other lines distinct.1 (λ l i. each l (inr i)) in
    let f : ℕ → Y = λ id. cond (eqb line.id id) y (g id) in (
      f,
      λ l i. elim i [
        | inl same ↦ subst (λ m. P m (f m.id)) (sym same) (subst (P line) (sym (ap (λ b. cond b y (g line.id)) (eq-eqb line.id line.id refl))) good)
        | inr j ↦ subst (P l) (sym (ap (λ b. cond b y (g l.id)) (ne_eqb line.id l.id (λ e.
            distinct.0 (subst (λ k. IsIn k (decomposition_ids lines)) (sym e) (id_listed l lines j)))))) (more l j)
      ],
    )
