-- What the closure of a domain's types tells.
use Rattle.std.proofs.Common.{◌≡◌, ℕ, ◌<◌, ◌↔◌, Option, Some, IfSome, List, ap, arith, subst, length}
use Rattle.hddl_words.specs.declared.domain.DomainText.{DomainText}
use Rattle.hddl_meaning.specs.Mentions.{Text}
use Rattle.hddl_meaning.specs.Names.{type_names}
use Rattle.hddl_meaning.specs.Types.{IsBelow}
use Rattle.hddl_meaning.specs.Items.{ShareSubtype}
use Rattle.hddl_names.specs.Heads.{Condensed, HeadLeads, HeadsMeet, TellsAll, AreHierarchyOf}
use Rattle.hddl_names.specs.Reach.{Reaches}
use Rattle.hddl_names.specs.Rows.{HasSame}
use Rattle.hddl_names.specs.TypeNumbers.{AreTypesOf, type_at, numbered_pairs}
use Rattle.hddl_names.proofs.Junctions.{reaches_more, some_more}
use Rattle.hddl_names.proofs.Parents.{below-object, below-reaches, reaches-below, share-number, number-share}

-- what tells of some pairs tells of a list with the same pairs
tells-same : (ps qs : List (ℕ × ℕ)) (n : ℕ) (c : Condensed) → HasSame ps qs → TellsAll ps n c → TellsAll qs n c
tells-same ps qs n c same told = record {
  leads = λ a b small small_b.
      let both = told.leads a b small small_b in
      (λ h. to a b (both.0 h), λ r. both.1 (from a b r));
  meet = λ a b small small_b.
      let both = told.meet a b small small_b in
      (λ h. let s = both.0 h in (s.0, s.1, to s.0 a s.2, to s.0 b s.3), λ (s, lt, one, two). both.1 (s, lt, from s a one, from s b two));
}
  where
    to : (a b : ℕ) → Reaches ps a b → Reaches qs a b
    to a b r = reaches_more ps qs (λ x y. (same (x, y)).0) a b r

    from : (a b : ℕ) → Reaches qs a b → Reaches ps a b
    from a b r = reaches_more qs ps (λ x y. (same (x, y)).1) a b r

-- along pairs that are those of a domain each type leads to `object`
pub root-reached : (d : DomainText) (pairs : List (ℕ × ℕ)) (n : ℕ) → HasSame pairs (numbered_pairs d) → n ≡ length (type_names d) → (a : ℕ) → a < n → Reaches pairs a 0
root-reached d pairs n same count a small =
    let lt : a < length (type_names d) = subst (λ m. a < m) count small in
    reaches_more (numbered_pairs d) pairs (λ x y. (same (x, y)).1) a 0 (below-reaches d a 0 lt (let first = lt in omega (arith, first)) (below-object d a lt))

-- what is told of a domain's pairs is told of what its types' names do
pub hierarchy : (d : DomainText) (names : List Text) (up down : List (List ℕ)) (pairs : List (ℕ × ℕ)) (n : ℕ) (closure : Option Condensed) → AreTypesOf d names up down → HasSame pairs (numbered_pairs d)
    → n ≡ length names → IfSome closure (TellsAll pairs n) → AreHierarchyOf d names up down closure
hierarchy d names up down pairs n closure types same count told = record {
  types = types;
  told = some_more (TellsAll pairs n) (TellsAll (numbered_pairs d) (length names)) (λ c h. tells-same pairs (numbered_pairs d) (length names) c same (subst (λ m. TellsAll pairs m c) count h)) closure told;
}

-- what is told where there is a closure
pub some-told : (d : DomainText) (names : List Text) (up down : List (List ℕ)) (closure : Option Condensed) (c : Condensed) → closure ≡ Some c
    → AreHierarchyOf d names up down closure → TellsAll (numbered_pairs d) (length (type_names d)) c
some-told d names up down closure c is all =
    subst (λ n. TellsAll (numbered_pairs d) n c) (ap length all.types.all) (subst (λ (o : Option Condensed). IfSome o (TellsAll (numbered_pairs d) (length names))) is all.told)

-- the closure tells which type is below which
pub leads-below : (d : DomainText) (c : Condensed) (t u : ℕ) → TellsAll (numbered_pairs d) (length (type_names d)) c
    → t < length (type_names d) → u < length (type_names d) → HeadLeads c t u ↔ IsBelow d (type_at d t) (type_at d u)
leads-below d c t u told small small_u =
    let both = told.leads t u small small_u in
    (λ h. reaches-below d t u (both.0 h), λ h. both.1 (below-reaches d t u small small_u h))

-- the closure tells whether two types share a subtype
pub meet-share : (d : DomainText) (c : Condensed) (t u : ℕ) → TellsAll (numbered_pairs d) (length (type_names d)) c
    → t < length (type_names d) → u < length (type_names d) → HeadsMeet c t u ↔ ShareSubtype d (type_at d t) (type_at d u)
meet-share d c t u told small small_u =
    let both = told.meet t u small small_u in
    (λ h. let s = both.0 h in number-share d t u s.0 s.1 s.2 s.3, λ h. both.1 (share-number d t u small small_u h))
