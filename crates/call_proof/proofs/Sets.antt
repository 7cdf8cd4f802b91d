-- Sets whose numbers are those of others, within masks.
use Rattle.std.proofs.Common.{◌≡◌, ℕ, ◌<◌, ◌%◌, Bool, true, false, cond, eqb, ◌||◌, ◌&&◌, List, [], length, refl, sym, ap, ◌∙◌}
use Rattle.std.proofs.lemmas.Nat.Bits.{bit_at-zero}
use Rattle.std.proofs.lemmas.Bool.{and_parts}
use Rattle.state_table.specs.Bits.{has, IsBits}
use Rattle.state_table.specs.Table.{Table, IsSetOf}

-- what a mask has of a set, and nothing else
pub within_has : (set mask none words : List ℕ) → none ≡ []
    → ((x : ℕ) → has words x ≡ cond (has mask x) (has set x) (has none x)) → (x : ℕ) → has words x ≡ (has set x && has mask x)
within_has set mask none words empty made x =
    made x ∙ ap (cond (has mask x) (has set x)) (ap (λ (l : List ℕ). has l x) empty ∙ ap (λ b. eqb b 1) (bit_at-zero (x % 64)))
    ∙ by (has mask x) (has set x)
  where
    by : (m h : Bool) → cond m h false ≡ (h && m)
    by true true = refl
    by true false = refl
    by false true = refl
    by false false = refl

-- it has no other numbers
pub within_set : (t : Table) (set mask words : List ℕ) → IsBits words
    → ((x : ℕ) → has words x ≡ (has set x && has mask x)) → IsSetOf t set → IsSetOf t words
within_set t set mask words bits made own = record {
  bits = bits;
  within = λ x is. own.within x (and_parts (has set x) (has mask x) (sym (made x) ∙ is)).0;
}

-- a set with what a mask has as in another one has numbers of the two alone
pub lifted_set : (t : Table) (set mask part words : List ℕ) → IsBits words
    → ((x : ℕ) → has words x ≡ cond (has mask x) (has part x) (has set x)) → IsSetOf t set → IsSetOf t part
    → IsSetOf t words
lifted_set t set mask part words bits made own other = record {
  bits = bits;
  within = λ x is. by x (has mask x) (sym (made x) ∙ is);
}
  where
    by : (x : ℕ) (m : Bool) → cond m (has part x) (has set x) ≡ true → x < length t.atoms
    by x true is = other.within x is
    by x false is = own.within x is

-- a set with all of another
pub united_has : (one other words : List ℕ) → ((x : ℕ) → has words x ≡ cond (has other x) (has other x) (has one x))
    → (x : ℕ) → has words x ≡ (has one x || has other x)
united_has one other words made x = made x ∙ by (has one x) (has other x)
  where
    by : (p q : Bool) → cond q q p ≡ (p || q)
    by true true = refl
    by true false = refl
    by false true = refl
    by false false = refl
