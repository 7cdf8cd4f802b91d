-- Tables of networks that grow.
use Rattle.std.proofs.Common.{◌≡◌, ℕ, suc, List, [], ◌∷◌, ◌++◌, length, get_or, refl, sym, ap, ◌∙◌, arith, Option, None, length-append, append-nil, append_assoc, zero}
use Rattle.std.proofs.lemmas.List.{get_or_append_left}
use Rattle.network_table.specs.Numbered.{nothing}
use Rattle.network_table.specs.Networks.{numbered_at, Knows, IsMore}
use Rattle.network_table.specs.declared.table.NetworkTable.{NetworkTable}

-- reading past what was there gives nothing, and so does reading what was added
pub none_added : {X : Type 0} (xs : List (Option X)) (n : ℕ) → get_or (xs ++ None ∷ []) n None ≡ get_or xs n None
none_added [] zero = refl
none_added [] (suc n) = refl
none_added (x ∷ xs) zero = refl
none_added (x ∷ xs) (suc n) = none_added xs n

-- ## Growth

-- a table has no fewer networks than itself
pub more_itself : (t : NetworkTable) → IsMore t t
more_itself t = record { children = refl; more = []; networks = sym (append-nil t.networks); expansions = λ n. refl }

-- more, and then more
pub more_then : (s t u : NetworkTable) → IsMore s t → IsMore t u → IsMore s u
more_then s t u first second = record {
  children = second.children ∙ first.children;
  more = first.more ++ second.more;
  networks = second.networks ∙ ap (λ l. l ++ second.more) first.networks ∙ append_assoc s.networks first.more second.more;
  expansions = λ n. second.expansions n ∙ first.expansions n;
}

-- a number stays one
pub more_known : (s t : NetworkTable) (n : ℕ) → IsMore s t → Knows s n → Knows t n
more_known s t n more known = omega (arith, known, ap length more.networks, length-append s.networks more.more)

-- a number keeps its network
pub more_same : (s t : NetworkTable) (n : ℕ) → IsMore s t → Knows s n → numbered_at t n ≡ numbered_at s n
more_same s t n more known = ap (λ l. get_or l n nothing) more.networks ∙ get_or_append_left s.networks more.more nothing n known
