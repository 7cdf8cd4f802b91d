-- The pairs and the rows that a domain's types are kept in.
use Rattle.std.proofs.Common.{◌≡◌, ℕ, ◌++◌, List, not, sym, ap, ap₂, subst, ◌∙◌, length}
use Rattle.std.specs.List.{filter}
use Rattle.htn_order.specs.Closure.{AreBelow}
use Rattle.hddl_words.specs.declared.term.NameGroup.{NameGroup}
use Rattle.hddl_words.specs.declared.domain.DomainText.{DomainText}
use Rattle.hddl_meaning.specs.Mentions.{Text}
use Rattle.hddl_meaning.specs.Names.{type_names}
use Rattle.hddl_names.specs.Rows.{AreRows, turned, HasSame}
use Rattle.hddl_names.specs.TypeNumbers.{AreTypesOf, pairs_in, object_pairs_in, is_root, numbered_pairs}
use Rattle.hddl_names.proofs.FromPairs.{rows_same, below_same}
use Rattle.hddl_names.proofs.Parents.{collected, turned-same, numbers-below}

-- the pairs of the domain were collected with its names
pub record AreCollected (d : DomainText) (names : List Text) (groups : List NameGroup) (pairs : List (ℕ × ℕ)) : Type 0 where
  pub named : names ≡ type_names d
  pub grouped : groups ≡ d.types
  pub filtered : pairs ≡ filter (λ p. not (is_root p)) (pairs_in names groups ++ object_pairs_in names groups)

-- the pairs that were collected are those of types and parents
pub collected-same : (d : DomainText) (names : List Text) (groups : List NameGroup) (pairs : List (ℕ × ℕ)) → AreCollected d names groups pairs → HasSame pairs (numbered_pairs d)
collected-same d names groups pairs h =
    subst (λ (ps : List (ℕ × ℕ)). HasSame ps (numbered_pairs d))
    (sym (h.filtered ∙ ap₂ (λ (ns : List Text) (gs : List NameGroup). filter (λ p. not (is_root p)) (pairs_in ns gs ++ object_pairs_in ns gs)) h.named h.grouped)) (collected d)

-- each pair that was collected has numbers of types
pub collected-below : (d : DomainText) (names : List Text) (groups : List NameGroup) (pairs all : List (ℕ × ℕ)) (size : ℕ) → AreCollected d names groups pairs
    → all ≡ pairs → size ≡ length names → AreBelow size all
collected-below d names groups pairs all size h is count =
    subst (λ (ps : List (ℕ × ℕ)). AreBelow size ps) (sym is)
    (subst (λ n. AreBelow n pairs) (sym (count ∙ ap length h.named)) (below_same (length (type_names d)) pairs (numbered_pairs d) (collected-same d names groups pairs h) (numbers-below d)))

-- the rows made of the pairs are the parents and the children of each type
pub collected-types : (d : DomainText) (names : List Text) (groups : List NameGroup) (pairs one two : List (ℕ × ℕ)) (up down : List (List ℕ)) (size : ℕ)
    → AreCollected d names groups pairs → size ≡ length names → one ≡ pairs → two ≡ turned pairs → length up ≡ size → length down ≡ size → AreRows one up → AreRows two down
    → AreTypesOf d names up down
collected-types d names groups pairs one two up down size h count one_is two_is up_size down_size up_rows down_rows =
    let same = collected-same d names groups pairs h in
    record {
      all = h.named;
      up_count = up_size ∙ count;
      down_count = down_size ∙ count;
      parents = rows_same pairs (numbered_pairs d) up same (subst (λ (ps : List (ℕ × ℕ)). AreRows ps up) one_is up_rows);
      children = rows_same (turned pairs) (turned (numbered_pairs d)) down (turned-same pairs (numbered_pairs d) same) (subst (λ (ps : List (ℕ × ℕ)). AreRows ps down) two_is down_rows);
    }
