-- Literals one after another.
use Rattle.std.proofs.Common.{◌≡◌, ℕ, ◌+◌, ◌<◌, Bool, true, false, not, ◌&&◌, List, length, get_or, take, refl, sym, ap, ◌∙◌}
use Rattle.std.specs.Bool.{beq}
use Rattle.std.proofs.lemmas.List.Folds.{list_all-map, list_all_more}
use Rattle.htn_model.specs.State.{State}
use Rattle.htn_model.specs.Literal.{holds, literal_holds}
use Rattle.htn_task.specs.Literals.{literal_of, literals_of}
use Rattle.htn_task.specs.declared.literal.Literal.{Literal}

-- the first literals hold where those before hold and the last does
pub holds_more : (s : State) (literals : List Literal) (i : ℕ) (d : Literal) → i < length literals
    → holds s (literals_of (take (i + 1) literals)) ≡ (holds s (literals_of (take i literals)) && literal_holds s (literal_of (get_or literals i d)))
holds_more s literals i d less =
    list_all-map (literal_holds s) literal_of (take (i + 1) literals)
    ∙ list_all_more (λ l. literal_holds s (literal_of l)) literals i d less
    ∙ ap (λ b. b && literal_holds s (literal_of (get_or literals i d))) (sym (list_all-map (literal_holds s) literal_of (take i literals)))

-- sides of an equality of truth values exchange
pub beq_turned : (a b : Bool) → beq a b ≡ beq b a
beq_turned true true = refl
beq_turned true false = refl
beq_turned false true = refl
beq_turned false false = refl

-- what equals true is it
pub beq_true : (b : Bool) → b ≡ beq true b
beq_true true = refl
beq_true false = refl

-- what equals false is its opposite
pub beq_false : (b : Bool) → not b ≡ beq false b
beq_false true = refl
beq_false false = refl
