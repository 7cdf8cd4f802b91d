-- The types that the constants and objects have by their declarations.
use Rattle.std.proofs.Common.{◌≡◌, ℕ, ◌<◌, ◌≤◌, ◌↔◌, ◌++◌, Bool, true, false, nat_eq, List, [], map, sym, ap, subst, ◌∙◌, arith, inl, inr, ⊎_elim, length, get_or}
use Rattle.std.specs.List.{Contains, All, list_any}
use Rattle.std.proofs.lemmas.Bool.{cases_lt, eqb-true}
use Rattle.std.proofs.lemmas.Cmp.{nat_eq_equiv}
use Rattle.std.proofs.lemmas.List.{get_or_past, map-append}
use Rattle.std.proofs.lemmas.Map.Views.{list_any-from_Contains, Contains-from_any}
use Rattle.std.proofs.lemmas.List.Elements.{Contains-get_or, All-contains, All-get_or, All-from_get_or}
use Rattle.htn_order.specs.Closure.{Precedes, Direct, Through, AreBelow}
use Rattle.hddl_words.specs.declared.term.NameGroup.{NameGroup}
use Rattle.hddl_words.specs.declared.domain.DomainText.{DomainText}
use Rattle.hddl_words.specs.declared.problem.ProblemText.{ProblemText}
use Rattle.hddl_meaning.specs.Mentions.{Typed, typed_names, mentions_of, texts}
use Rattle.hddl_meaning.specs.Names.{number_in, type_names, object_names, object_declarations}
use Rattle.hddl_meaning.specs.Types.{text_or_object, HasType, IsBelow}
use Rattle.hddl_meaning.specs.Building.{Vocabulary, vocabulary_of}
use Rattle.hddl_names.specs.Rows.{AreRows}
use Rattle.hddl_names.specs.Reach.{Reaches}
use Rattle.hddl_names.specs.Members.{AreTyped, AreDeclaredTypes, AreNamedMembersOf, AreFilled, IsFlaggedAbove, declared_in, number_typed, object_at}
use Rattle.hddl_names.specs.TypeNumbers.{type_at, numbered_pairs}
use Rattle.hddl_names.proofs.Texts.{distinct-has, distinct-different, number-small, number-names, number-at}
use Rattle.hddl_names.proofs.Parents.{numbers-below, below-reaches, reaches-below, type-number}
use Rattle.hddl_names.proofs.Within.{mapped, unmapped}

-- ## What is reached is a type

-- what is led to along pairs below n is below n
led-small : (n : ℕ) (ps : List (ℕ × ℕ)) (a b : ℕ) → AreBelow n ps → Precedes ps a b → b < n
led-small n ps _ _ below (Direct a b pair) = (All-contains (λ (p : ℕ × ℕ). (p.0 < n) × (p.1 < n)) ps (a, b) below pair).1
led-small n ps _ _ below (Through a b c pair rest) = led-small n ps b c below rest

-- what a type reaches is a type
pub reached-small : (d : DomainText) (t x : ℕ) → t < length (type_names d) → Reaches (numbered_pairs d) t x → x < length (type_names d)
reached-small d t x small (inl is) = subst (λ k. k < length (type_names d)) is small
reached-small d t x small (inr r) = led-small (length (type_names d)) (numbered_pairs d) t x (numbers-below d) r

-- the types found above some types are types
pub flagged-small : (d : DomainText) (flags : List Bool) (starts found all : List ℕ) (n : ℕ) → n ≡ length (type_names d) → All (λ t. t < length (type_names d)) starts
    → IsFlaggedAbove (numbered_pairs d) flags starts found → all ≡ found → All (λ x. x < n) all
flagged-small d flags starts found all n count small some is =
    subst (λ l. All (λ x. x < n) l) (sym is)
    (All-from_get_or (λ x. x < n) found 0 (λ i lt. let t = ((some.members (get_or found i 0)).0 (Contains-get_or found i 0 lt)).1 in
    subst (λ n. get_or found i 0 < n) (sym count) (reached-small d t.0 (get_or found i 0) (All-contains (λ t. t < length (type_names d)) starts t.0 small t.1) t.2)))

-- ## Declarations by number

-- a declared object is among the names of objects
pub object-name : (d : DomainText) (p : ProblemText) (t : Typed) → Contains (object_declarations d p) t → Contains (object_names d p) t.mention.text
object-name d p t h =
    distinct-has (texts (mentions_of (object_declarations d p))) t.mention.text
    (mapped (λ m. m.text) (mentions_of (object_declarations d p)) t.mention (mapped (λ (t : Typed). t.mention) (object_declarations d p) t h))

-- the pairs were collected with the names of the pair
pub record AreDeclared (d : DomainText) (p : ProblemText) (v : Vocabulary) (constants objects : List NameGroup) (pairs : List (ℕ × ℕ)) : Type 0 where
  pub vocabulary : v ≡ vocabulary_of d p
  pub first : constants ≡ d.constants
  pub second : objects ≡ p.objects
  pub listed : pairs ≡ declared_in v.objects v.types constants ++ declared_in v.objects v.types objects

-- the declared pairs are each object with its type, by number
pub declared-is : (d : DomainText) (p : ProblemText) (v : Vocabulary) (constants objects : List NameGroup) (pairs : List (ℕ × ℕ)) → AreDeclared d p v constants objects pairs
    → pairs ≡ map (number_typed (object_names d p) (type_names d)) (object_declarations d p)
declared-is d p v constants objects pairs h =
    h.listed
    ∙ ap (λ (v : Vocabulary). declared_in v.objects v.types constants ++ declared_in v.objects v.types objects) h.vocabulary
    ∙ ap (λ (gs : List NameGroup). declared_in (object_names d p) (type_names d) gs ++ declared_in (object_names d p) (type_names d) objects) h.first
    ∙ ap (λ (gs : List NameGroup). declared_in (object_names d p) (type_names d) d.constants ++ declared_in (object_names d p) (type_names d) gs) h.second
    ∙ sym (map-append (number_typed (object_names d p) (type_names d)) (typed_names d.constants) (typed_names p.objects))

-- both numbers of a declared pair are small
pub declared-small : (d : DomainText) (p : ProblemText) (y : ℕ × ℕ) → AreTyped d p
    → Contains {X = ℕ × ℕ} (map (number_typed (object_names d p) (type_names d)) (object_declarations d p)) y → (y.0 < length (object_names d p)) × (y.1 < length (type_names d))
declared-small d p y typed h =
    let t = unmapped (number_typed (object_names d p) (type_names d)) (object_declarations d p) y h in
    subst (λ (y : ℕ × ℕ). (y.0 < length (object_names d p)) × (y.1 < length (type_names d))) t.2
    (number-small (object_names d p) t.0.mention.text (object-name d p t.0 t.1), number-small (type_names d) (text_or_object t.0.of_type) (type-number d (text_or_object t.0.of_type) (typed t.0 t.1)))

-- so are those of all such pairs
pub declared-below : (d : DomainText) (p : ProblemText) (pairs all : List (ℕ × ℕ)) (size : ℕ) → AreTyped d p
    → pairs ≡ map (number_typed (object_names d p) (type_names d)) (object_declarations d p) → all ≡ pairs → length (object_names d p) ≤ size → length (type_names d) ≤ size → AreBelow size all
declared-below d p pairs all size typed is same objects types =
    subst (λ (ps : List (ℕ × ℕ)). AreBelow size ps) (sym (same ∙ is))
    (All-from_get_or (λ (p : ℕ × ℕ). (p.0 < size) × (p.1 < size)) (map (number_typed (object_names d p) (type_names d)) (object_declarations d p)) (0, 0)
    (λ i lt. let y = get_or (map (number_typed (object_names d p) (type_names d)) (object_declarations d p)) i (0, 0) in
    let small = declared-small d p y typed (Contains-get_or (map (number_typed (object_names d p) (type_names d)) (object_declarations d p)) i (0, 0) lt) in
    let a = small.0 in
    let b = small.1 in
    (omega (arith, a, objects), omega (arith, b, types))))

-- the types in the rows are types
pub rows-typed : (d : DomainText) (p : ProblemText) (all : List (ℕ × ℕ)) (rows : List (List ℕ)) → AreTyped d p
    → all ≡ map (number_typed (object_names d p) (type_names d)) (object_declarations d p) → AreRows all rows → All (All (λ t. t < length (type_names d))) rows
rows-typed d p all rows typed is are =
    All-from_get_or (All (λ t. t < length (type_names d))) rows []
    (λ o lt. All-from_get_or (λ t. t < length (type_names d)) (get_or rows o []) 0
    (λ k small. let t = get_or (get_or rows o []) k 0 in
    (declared-small d p (o, t) typed (subst (λ (ps : List (ℕ × ℕ)). Contains {X = ℕ × ℕ} ps (o, t)) is ((are o t).0 (Contains-get_or (get_or rows o []) k 0 small)))).1))

-- ## The objects of each type

-- the rows have the declared types of each object
pub declared-types : (d : DomainText) (p : ProblemText) (all : List (ℕ × ℕ)) (rows : List (List ℕ)) (size : ℕ) → AreTyped d p
    → all ≡ map (number_typed (object_names d p) (type_names d)) (object_declarations d p) → AreRows all rows → length rows ≡ size → length (object_names d p) ≤ size
    → AreDeclaredTypes d p rows
declared-types d p all rows size typed is are long enough = record {
  count = subst (λ n. length (object_names d p) ≤ n) (sym long) enough;
  typed = rows-typed d p all rows typed is are;
  members = λ k o small few. (λ h. to k o h, λ h. from k o small few h);
}
  where
    has : (o t : ℕ) → Contains (get_or rows o []) t → (x : Typed) × Contains (object_declarations d p) x × ◌≡◌ {A = ℕ × ℕ} (number_typed (object_names d p) (type_names d) x) (o, t)
    has o t h = unmapped (number_typed (object_names d p) (type_names d)) (object_declarations d p) (o, t) (subst (λ (ps : List (ℕ × ℕ)). Contains {X = ℕ × ℕ} ps (o, t)) is ((are o t).0 h))

    to : (k o : ℕ) → ((t : ℕ) × Contains (get_or rows o []) t × Reaches (numbered_pairs d) t k) → HasType d p (object_at d p o) (type_at d k)
    to k o (t, there, r) =
        let x = has o t there in
        let name : x.0.mention.text ≡ object_at d p o =
        sym (number-names (object_names d p) x.0.mention.text (object-name d p x.0 x.1)) ∙ ap (λ (y : ℕ × ℕ). get_or (object_names d p) y.0 []) x.2 in
        let type : type_at d t ≡ text_or_object x.0.of_type =
        ap (λ (y : ℕ × ℕ). type_at d y.1) (sym x.2) ∙ number-names (type_names d) (text_or_object x.0.of_type) (type-number d (text_or_object x.0.of_type) (typed x.0 x.1)) in
        (x.0, x.1, name, subst (λ u. IsBelow d u (type_at d k)) type (reaches-below d t k r))

    from : (k o : ℕ) → k < length (type_names d) → o < length (object_names d p) → HasType d p (object_at d p o) (type_at d k)
        → (t : ℕ) × Contains (get_or rows o []) t × Reaches (numbered_pairs d) t k
    from k o small few (x, there, name, below) =
        let type = type-number d (text_or_object x.of_type) (typed x there) in
        let t = number_in (type_names d) (text_or_object x.of_type) in
        let number : number_in (object_names d p) x.mention.text ≡ o =
        ap (number_in (object_names d p)) name ∙ number-at (object_names d p) o (distinct-different (texts (mentions_of (object_declarations d p)))) few in
        let pair : Contains {X = ℕ × ℕ} (map (number_typed (object_names d p) (type_names d)) (object_declarations d p)) (o, t) =
        subst (λ o. Contains {X = ℕ × ℕ} (map (number_typed (object_names d p) (type_names d)) (object_declarations d p)) (o, t)) number
        (mapped (number_typed (object_names d p) (type_names d)) (object_declarations d p) x there) in (
          t,
          (are o t).1 (subst (λ (ps : List (ℕ × ℕ)). Contains {X = ℕ × ℕ} ps (o, t)) (sym is) pair),
          below-reaches d t k (number-small (type_names d) (text_or_object x.of_type) type) small
              (subst (λ u. IsBelow d u (type_at d k)) (sym (number-names (type_names d) (text_or_object x.of_type) type)) below),
        )

-- the numbers in a row are those of types
pub row-typed : (d : DomainText) (rows : List (List ℕ)) (o i : ℕ) → All (All (λ t. t < length (type_names d))) rows → i < length (get_or rows o [])
    → get_or (get_or rows o []) i 0 < length (type_names d)
row-typed d rows o i typed lt =
    ⊎_elim
    (λ small. All-get_or (λ t. t < length (type_names d)) (get_or rows o []) i 0 lt (All-get_or (All (λ t. t < length (type_names d))) rows o [] small typed))
    (λ past. absurd (let none = ap length (get_or_past rows o [] past) in omega (arith, lt, none)))
    (cases_lt o (length rows))

-- whether the row's number at a place leads to another, where that is tested by the types' names
pub leads-at : (d : DomainText) (rows : List (List ℕ)) (o i u : ℕ) → All (All (λ t. t < length (type_names d))) rows → i < length (get_or rows o []) → u < length (type_names d)
    → IsBelow d (type_at d (get_or (get_or rows o []) i 0)) (type_at d u) ↔ Reaches (numbered_pairs d) (get_or (get_or rows o []) i 0) u
leads-at d rows o i u typed lt small =
    let own = get_or (get_or rows o []) i 0 in
    (λ below. below-reaches d own u (row-typed d rows o i typed lt) small below, λ leads. reaches-below d own u leads)

-- none of a row leads to a number where that at no place does
pub leads-none : (pairs : List (ℕ × ℕ)) (row : List ℕ) (u : ℕ) → ((k : ℕ) → k < length row → Reaches pairs (get_or row k 0) u → ⊥)
    → ((t : ℕ) × Contains row t × Reaches pairs t u) → ⊥
leads-none pairs row u none (t, there, r) = All-contains (λ t. Reaches pairs t u → ⊥) row t (All-from_get_or (λ t. Reaches pairs t u → ⊥) row 0 none) there r

-- what a list has where the flags are those of some numbers
filled-at : (d : DomainText) (p : ProblemText) (rows lists : List (List ℕ)) (flags : List Bool) (n m : ℕ) → AreDeclaredTypes d p rows → AreFilled (numbered_pairs d) rows flags n m lists
    → m ≡ length (object_names d p) → (k o : ℕ) → k < length (type_names d) → o < length (object_names d p)
    → Contains (get_or lists k []) o ↔ ((get_or flags k false ≡ true) × HasType d p (object_at d p o) (type_at d k))
filled-at d p rows lists flags n m declared filled count k o small few =
    let are = declared.members k o small few in (
      λ h. let member = (filled.members k o).0 h in (member.1, are.0 member.2),
      λ (flag, typed). (filled.members k o).1 (subst (λ m. o < m) (sym count) few, flag, are.1 typed),
    )

-- those of some numbers are set
pub filled-named : (d : DomainText) (p : ProblemText) (rows lists : List (List ℕ)) (flags : List Bool) (named : List ℕ) (n m : ℕ) → AreDeclaredTypes d p rows
    → ((k : ℕ) → k < n → get_or flags k false ≡ list_any (nat_eq k) named)
    → n ≡ length (type_names d) → m ≡ length (object_names d p) → AreFilled (numbered_pairs d) rows flags n m lists → AreNamedMembersOf d p named lists
filled-named d p rows lists flags named n m declared set types count filled = record {
  count = filled.count ∙ types;
  ascending = filled.ascending;
  members = λ k o small few.
      let at = filled-at d p rows lists flags n m declared filled count k o small few in
      let flag = set k (subst (λ n. k < n) (sym types) small) in (
        λ h. (Contains-from_any eqb-true k named (sym flag ∙ (at.0 h).0), (at.0 h).1),
        λ (there, typed). at.1 (flag ∙ list_any-from_Contains nat_eq_equiv k named there, typed),
      );
  within = λ k o h. subst (λ m. o < m) count ((filled.members k o).0 h).0;
}
