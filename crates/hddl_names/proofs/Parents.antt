-- A domain's types and their parents by number.
use Rattle.std.proofs.Common.{◌≡◌, ℕ, ◌<◌, Bool, true, false, not, ◌&&◌, List, [], ◌∷◌, ◌++◌, map, Option, Some, None, option_map, refl, sym, ap, ap₂, subst, ◌∙◌, inl, inr, ⊎_elim, length, get_or, nat_eq}
use Rattle.std.specs.List.{Contains, filter}
use Rattle.std.proofs.lemmas.Bool.{cases_Bool, true≢false, and_parts, and_from, eqb-true, eq-eqb}
use Rattle.std.proofs.lemmas.List.{map-append}
use Rattle.std.proofs.lemmas.List.Elements.{Contains-append_left, Contains-append_right, Contains-append_cases, Contains-get_or, All-from_get_or, All-contains}
use Rattle.htn_order.specs.Closure.{Precedes, Direct, Through, AreBelow}
use Rattle.hddl_words.specs.Names.{Name}
use Rattle.hddl_words.specs.declared.term.NameGroup.{NameGroup}
use Rattle.hddl_words.specs.declared.domain.DomainText.{DomainText}
use Rattle.hddl_meaning.specs.Mentions.{Text, Mention, Typed, mention_of, texts, typed_names}
use Rattle.hddl_meaning.specs.Names.{is_same_text, object, optional_mention, type_mentions, type_names, number_in}
use Rattle.hddl_meaning.specs.Types.{Leads, text_or_object, declared_pairs, is_object_pair, parent_pairs, IsBelow}
use Rattle.hddl_meaning.specs.Types as leads
use Rattle.hddl_meaning.specs.Items.{IsType, ShareSubtype}
use Rattle.hddl_names.specs.Rows.{HasSame, turned}
use Rattle.hddl_names.specs.Reach.{Reaches}
use Rattle.hddl_names.specs.TypeNumbers.{type_at, number_pair, pairs_in, object_pairs_in, is_root, numbered_pairs}
use Rattle.hddl_names.proofs.Texts.{same, same_as_itself, distinct-has, distinct-from, distinct-different, number-small, number-names, number-at, number-first}
use Rattle.htn_order.proofs.Joining.{follow}
use Rattle.hddl_names.proofs.Within.{cons_cases, first, later, mapped, unmapped, kept, unkept, in_parts, from_parts}

-- ## The pairs are of types

-- the names that a group mentions: its own, and its type's
abbrev group_mentions : NameGroup → List Mention
group_mentions g = map mention_of g.names ++ optional_mention g.of_type

-- the names of a group with its type
abbrev typed_of : NameGroup → List Typed
typed_of g = map (λ x. record { mention = mention_of x; of_type = option_map mention_of g.of_type }) g.names

-- a name that `:types` mentions is a type
pub mention-type : (d : DomainText) (m : Mention) → Contains (type_mentions d) m → Contains (type_names d) m.text
mention-type d m h = distinct-has (object ∷ texts (type_mentions d)) m.text (later object m.text (texts (type_mentions d)) (mapped (λ m. m.text) (type_mentions d) m h))

-- `object` is a type
object-type : (d : DomainText) → Contains (type_names d) object
object-type d = distinct-has (object ∷ texts (type_mentions d)) object (first object (texts (type_mentions d)))

-- the type of a group, or `object`, is a type
optional-type : (d : DomainText) (g : NameGroup) → Contains d.types g → Contains (type_names d) (text_or_object (option_map mention_of g.of_type))
optional-type d g h = by g.of_type (λ m there. mention-type d m (in_parts group_mentions d.types g m h (Contains-append_right (map mention_of g.names) (optional_mention g.of_type) m there)))
  where
    by : (o : Option Name) → ((m : Mention) → Contains (optional_mention o) m → Contains (type_names d) m.text) → Contains (type_names d) (text_or_object (option_map mention_of o))
    by None mentions = object-type d
    by (Some x) mentions = mentions (mention_of x) (first (mention_of x) [])

-- a declared type and its parent are types
pub typed-types : (d : DomainText) (t : Typed) → Contains (typed_names d.types) t → Contains (type_names d) t.mention.text × Contains (type_names d) (text_or_object t.of_type)
typed-types d t h =
    let group = from_parts typed_of d.types t h in
    let name = unmapped (λ (x : Name). record { mention = mention_of x; of_type = option_map mention_of group.0.of_type }) group.0.names t group.2 in (
      subst (λ (t : Typed). Contains (type_names d) t.mention.text) name.2
          (mention-type d (mention_of name.0) (in_parts group_mentions d.types group.0 (mention_of name.0) group.1 (Contains-append_left (map mention_of group.0.names) (optional_mention group.0.of_type) (mention_of name.0) (mapped mention_of group.0.names name.0 name.1)))),
      subst (λ (t : Typed). Contains (type_names d) (text_or_object t.of_type)) name.2 (optional-type d group.0 group.1),
    )

-- all pairs, `object` with itself among them
abbrev pub written_pairs : DomainText → List (Text × Text)
written_pairs d = declared_pairs d ++ map (λ text. (text, object)) (texts (type_mentions d))

-- both names of a written pair are types
pub written-types : (d : DomainText) (p : Text × Text) → Contains {X = Text × Text} (written_pairs d) p → Contains (type_names d) p.0 × Contains (type_names d) p.1
written-types d p h =
    ⊎_elim
    (λ declared. let found = unmapped (λ (t : Typed). (t.mention.text, text_or_object t.of_type)) (typed_names d.types) p declared in
    subst (λ (p : Text × Text). Contains (type_names d) p.0 × Contains (type_names d) p.1) found.2 (typed-types d found.0 found.1))
    (λ mentioned. let text = unmapped (λ (text : Text). (text, object)) (texts (type_mentions d)) p mentioned in
    let m = unmapped (λ (m : Mention). m.text) (type_mentions d) text.0 text.1 in
    subst (λ (p : Text × Text). Contains (type_names d) p.0 × Contains (type_names d) p.1) text.2 (subst (Contains (type_names d)) m.2 (mention-type d m.0 m.1), object-type d))
    (Contains-append_cases (declared_pairs d) (map (λ text. (text, object)) (texts (type_mentions d))) p h)

-- ## The pairs by number

-- `object` has the number 0
pub object-number : (d : DomainText) → number_in (type_names d) object ≡ 0
object-number d = number-first object (texts (type_mentions d))

-- the type with the number 0 is `object`
root-is-object : (d : DomainText) (x : Text) → Contains (type_names d) x → number_in (type_names d) x ≡ 0 → x ≡ object
root-is-object d x h zero =
    sym (number-names (type_names d) x h) ∙ ap (λ k. get_or (type_names d) k []) (zero ∙ sym (object-number d)) ∙ number-names (type_names d) object (object-type d)

-- `object` with itself is 0 with itself
pub object_pair-is_root : (d : DomainText) (p : Text × Text) → is_object_pair p ≡ true → is_root (number_pair (type_names d) p) ≡ true
object_pair-is_root d p h =
    let parts = and_parts (is_same_text p.0 object) (is_same_text p.1 object) h in
    and_from (nat_eq (number_in (type_names d) p.0) 0) (nat_eq (number_in (type_names d) p.1) 0)
    (eq-eqb (number_in (type_names d) p.0) 0 (ap (number_in (type_names d)) (same p.0 object parts.0) ∙ object-number d))
    (eq-eqb (number_in (type_names d) p.1) 0 (ap (number_in (type_names d)) (same p.1 object parts.1) ∙ object-number d))

-- 0 with itself is `object` with itself
pub root-is_object_pair : (d : DomainText) (p : Text × Text) → Contains {X = Text × Text} (written_pairs d) p → is_root (number_pair (type_names d) p) ≡ true → is_object_pair p ≡ true
root-is_object_pair d p there h =
    let parts = and_parts (nat_eq (number_in (type_names d) p.0) 0) (nat_eq (number_in (type_names d) p.1) 0) h in
    let types = written-types d p there in
    and_from (is_same_text p.0 object) (is_same_text p.1 object)
    (same_as_itself p.0 object (root-is-object d p.0 types.0 (eqb-true (number_in (type_names d) p.0) 0 parts.0)))
    (same_as_itself p.1 object (root-is-object d p.1 types.1 (eqb-true (number_in (type_names d) p.1) 0 parts.1)))

-- where one test follows from another, its failing makes the other fail
pub not-cases : (a b : Bool) → (a ≡ true → b ≡ true) → not b ≡ true → not a ≡ true
not-cases true true f h = h
not-cases true false f h = absurd (true≢false (sym (f refl)))
not-cases false b f h = refl

-- the pairs that are collected are those of the definition
pub collected : (d : DomainText) → HasSame (filter (λ p. not (is_root p)) (pairs_in (type_names d) d.types ++ object_pairs_in (type_names d) d.types)) (numbered_pairs d)
collected d y = (to, from)
  where
    np : Text × Text → ℕ × ℕ
    np = number_pair (type_names d)

    all : List (ℕ × ℕ)
    all = pairs_in (type_names d) d.types ++ object_pairs_in (type_names d) d.types

    as_map : map np (written_pairs d) ≡ all
    as_map = map-append np (declared_pairs d) (map (λ text. (text, object)) (texts (type_mentions d)))

    to : Contains {X = ℕ × ℕ} (filter (λ p. not (is_root p)) all) y → Contains {X = ℕ × ℕ} (numbered_pairs d) y
    to h =
        let passed = unkept (λ p. not (is_root p)) all y h in
        let p = unmapped np (written_pairs d) y (subst (λ l. Contains {X = ℕ × ℕ} l y) (sym as_map) passed.0) in
        subst (Contains {X = ℕ × ℕ} (numbered_pairs d)) p.2
        (mapped np (parent_pairs d) p.0 (kept (λ pair. not (is_object_pair pair)) (written_pairs d) p.0 p.1
        (not-cases (is_object_pair p.0) (is_root (np p.0)) (object_pair-is_root d p.0) (ap (λ q. not (is_root q)) p.2 ∙ passed.1))))

    from : Contains {X = ℕ × ℕ} (numbered_pairs d) y → Contains {X = ℕ × ℕ} (filter (λ p. not (is_root p)) all) y
    from h =
        let p = unmapped np (parent_pairs d) y h in
        let written = unkept (λ pair. not (is_object_pair pair)) (written_pairs d) p.0 p.1 in
        kept (λ q. not (is_root q)) all y
        (subst (λ l. Contains {X = ℕ × ℕ} l y) as_map (subst (Contains {X = ℕ × ℕ} (map np (written_pairs d))) p.2 (mapped np (written_pairs d) p.0 written.0)))
        (ap (λ q. not (is_root q)) (sym p.2) ∙ not-cases (is_root (np p.0)) (is_object_pair p.0) (root-is_object_pair d p.0 written.0) written.1)

-- turned round, lists with the same pairs have the same pairs
pub turned-same : (xs ys : List (ℕ × ℕ)) → HasSame xs ys → HasSame (turned xs) (turned ys)
turned-same xs ys has y = (λ h. over xs ys (λ x. (has x).0) h, λ h. over ys xs (λ x. (has x).1) h)
  where
    over : (us vs : List (ℕ × ℕ)) → ((x : ℕ × ℕ) → Contains {X = ℕ × ℕ} us x → Contains {X = ℕ × ℕ} vs x) → Contains {X = ℕ × ℕ} (turned us) y → Contains {X = ℕ × ℕ} (turned vs) y
    over us vs into h =
        let x = unmapped (λ (p : ℕ × ℕ). (p.1, p.0)) us y h in
        subst (Contains {X = ℕ × ℕ} (turned vs)) x.2 (mapped (λ (p : ℕ × ℕ). (p.1, p.0)) vs x.0 (into x.0 x.1))

-- the numbers are those of types
pub numbers-below : (d : DomainText) → AreBelow (length (type_names d)) (numbered_pairs d)
numbers-below d =
    All-from_get_or (λ (p : ℕ × ℕ). (p.0 < length (type_names d)) × (p.1 < length (type_names d))) (numbered_pairs d) (0, 0)
    (λ i lt. below (get_or (numbered_pairs d) i (0, 0)) (Contains-get_or (numbered_pairs d) i (0, 0) lt))
  where
    below : (y : ℕ × ℕ) → Contains {X = ℕ × ℕ} (numbered_pairs d) y → (y.0 < length (type_names d)) × (y.1 < length (type_names d))
    below y h =
        let p = unmapped (number_pair (type_names d)) (parent_pairs d) y h in
        let types = written-types d p.0 (unkept (λ pair. not (is_object_pair pair)) (written_pairs d) p.0 p.1).0 in
        subst (λ (y : ℕ × ℕ). (y.0 < length (type_names d)) × (y.1 < length (type_names d))) p.2 (number-small (type_names d) p.0.0 types.0, number-small (type_names d) p.0.1 types.1)

-- turned round, pairs are below the same bound
pub turned-below : (n : ℕ) (xs : List (ℕ × ℕ)) → AreBelow n xs → AreBelow n (turned xs)
turned-below n xs below =
    All-from_get_or (λ (p : ℕ × ℕ). (p.0 < n) × (p.1 < n)) (turned xs) (0, 0)
    (λ i lt. let x = unmapped (λ (p : ℕ × ℕ). (p.1, p.0)) xs (get_or (turned xs) i (0, 0)) (Contains-get_or (turned xs) i (0, 0) lt) in
    let both = All-contains (λ (p : ℕ × ℕ). (p.0 < n) × (p.1 < n)) xs x.0 below x.1 in
    subst (λ (y : ℕ × ℕ). (y.0 < n) × (y.1 < n)) x.2 (both.1, both.0))

-- ## What leads to what

-- a pair of numbers is one of the types' names
pair-names : (d : DomainText) (a b : ℕ) → Contains {X = ℕ × ℕ} (numbered_pairs d) (a, b) → Contains {X = Text × Text} (parent_pairs d) (type_at d a, type_at d b)
pair-names d a b h =
    let p = unmapped (number_pair (type_names d)) (parent_pairs d) (a, b) h in
    let types = written-types d p.0 (unkept (λ pair. not (is_object_pair pair)) (written_pairs d) p.0 p.1).0 in
    subst (λ (y : ℕ × ℕ). Contains {X = Text × Text} (parent_pairs d) (type_at d y.0, type_at d y.1)) p.2
    (subst (Contains {X = Text × Text} (parent_pairs d)) (ap₂ (λ x y. (x, y)) (sym (number-names (type_names d) p.0.0 types.0)) (sym (number-names (type_names d) p.0.1 types.1))) p.1)

-- a way by number is one by name
pub to-leads : (d : DomainText) (a b : ℕ) → Precedes (numbered_pairs d) a b → Leads (parent_pairs d) (type_at d a) (type_at d b)
to-leads d _ _ (Direct a b pair) = leads.Direct (type_at d a) (type_at d b) (pair-names d a b pair)
to-leads d _ _ (Through a b c pair rest) = leads.Through (type_at d a) (type_at d b) (type_at d c) (pair-names d a b pair) (to-leads d b c rest)

-- a way by name is one by number
pub to-precedes : (d : DomainText) (x y : Text) → Leads (parent_pairs d) x y → Precedes (numbered_pairs d) (number_in (type_names d) x) (number_in (type_names d) y)
to-precedes d _ _ (leads.Direct x y pair) =
    Direct (number_in (type_names d) x) (number_in (type_names d) y) (mapped (number_pair (type_names d)) (parent_pairs d) (x, y) pair)
to-precedes d _ _ (leads.Through x y z pair rest) =
    Through (number_in (type_names d) x) (number_in (type_names d) y) (number_in (type_names d) z) (mapped (number_pair (type_names d)) (parent_pairs d) (x, y) pair) (to-precedes d y z rest)

-- the type of a number has that number
pub at-number : (d : DomainText) (k : ℕ) → k < length (type_names d) → number_in (type_names d) (type_at d k) ≡ k
at-number d k lt = number-at (type_names d) k (distinct-different (object ∷ texts (type_mentions d))) lt

-- a type below another reaches it by number
pub below-reaches : (d : DomainText) (a b : ℕ) → a < length (type_names d) → b < length (type_names d) → IsBelow d (type_at d a) (type_at d b) → Reaches (numbered_pairs d) a b
below-reaches d a b small small_b (inl is) = inl (sym (at-number d a small) ∙ ap (number_in (type_names d)) is ∙ at-number d b small_b)
below-reaches d a b small small_b (inr r) =
    inr (subst (λ k. Precedes (numbered_pairs d) k b) (at-number d a small) (subst (Precedes (numbered_pairs d) (number_in (type_names d) (type_at d a))) (at-number d b small_b) (to-precedes d (type_at d a) (type_at d b) r)))

-- a number that reaches another is of a type below the other's
pub reaches-below : (d : DomainText) (a b : ℕ) → Reaches (numbered_pairs d) a b → IsBelow d (type_at d a) (type_at d b)
reaches-below d a b (inl is) = inl (ap (type_at d) is)
reaches-below d a b (inr r) = inr (to-leads d a b r)

-- ## The other way round

-- a pair is there turned round
pub turned-pair : (ps : List (ℕ × ℕ)) (a b : ℕ) → Contains {X = ℕ × ℕ} ps (a, b) → Contains {X = ℕ × ℕ} (turned ps) (b, a)
turned-pair ps a b h = mapped (λ (p : ℕ × ℕ). (p.1, p.0)) ps (a, b) h

-- a pair that is there turned round is one
pub unturned-pair : (ps : List (ℕ × ℕ)) (a b : ℕ) → Contains {X = ℕ × ℕ} (turned ps) (b, a) → Contains {X = ℕ × ℕ} ps (a, b)
unturned-pair ps a b h =
    let p = unmapped (λ (p : ℕ × ℕ). (p.1, p.0)) ps (b, a) h in
    subst (Contains {X = ℕ × ℕ} ps) (ap₂ (λ x y. (x, y)) (ap (λ (q : ℕ × ℕ). q.1) p.2) (ap (λ (q : ℕ × ℕ). q.0) p.2)) p.1

-- a way is one turned round
pub turn : (ps : List (ℕ × ℕ)) (a b : ℕ) → Precedes ps a b → Precedes (turned ps) b a
turn ps _ _ (Direct a b pair) = Direct b a (turned-pair ps a b pair)
turn ps _ _ (Through a b c pair rest) = follow (turned ps) c b a (turn ps b c rest) (Direct b a (turned-pair ps a b pair))

-- a way turned round is a way
pub unturn : (ps : List (ℕ × ℕ)) (a b : ℕ) → Precedes (turned ps) b a → Precedes ps a b
unturn ps _ _ (Direct b a pair) = Direct a b (unturned-pair ps a b pair)
unturn ps _ _ (Through c b a pair rest) = follow ps a b c (unturn ps a b rest) (Direct b c (unturned-pair ps b c pair))

-- what reaches another is reached by it the other way round
pub turn-reaches : (ps : List (ℕ × ℕ)) (a b : ℕ) → Reaches ps a b → Reaches (turned ps) b a
turn-reaches ps a b (inl is) = inl (sym is)
turn-reaches ps a b (inr r) = inr (turn ps a b r)

-- the same back
pub unturn-reaches : (ps : List (ℕ × ℕ)) (a b : ℕ) → Reaches (turned ps) b a → Reaches ps a b
unturn-reaches ps a b (inl is) = inl (sym is)
unturn-reaches ps a b (inr r) = inr (unturn ps a b r)

-- ## A type below two

-- a type is among the names of types
pub type-number : (d : DomainText) (x : Text) → IsType d x → Contains (type_names d) x
type-number d x (inl is) = subst (Contains (type_names d)) (sym is) (object-type d)
type-number d x (inr h) = distinct-has (object ∷ texts (type_mentions d)) x (later object x (texts (type_mentions d)) h)

-- each number below the count is that of a type
pub number-type : (d : DomainText) (k : ℕ) → k < length (type_names d) → IsType d (type_at d k)
number-type d k lt =
    ⊎_elim (λ is. inl (sym is)) (λ h. inr h)
    (cons_cases object (type_at d k) (texts (type_mentions d)) (distinct-from (object ∷ texts (type_mentions d)) (type_at d k) (Contains-get_or (type_names d) k [] lt)))

-- the type of number 0 is `object`
object-at : (d : DomainText) → type_at d 0 ≡ object
object-at d = ap (type_at d) (sym (object-number d)) ∙ number-names (type_names d) object (object-type d)

-- each type is below `object`
pub below-object : (d : DomainText) (a : ℕ) → a < length (type_names d) → IsBelow d (type_at d a) (type_at d 0)
below-object d a lt = by (number-type d a lt)
  where
    x : Text
    x = type_at d a

    by : IsType d x → IsBelow d x (type_at d 0)
    by (inl is) = inl (is ∙ sym (object-at d))
    by (inr h) = ⊎_elim (λ is. inl (same x object is ∙ sym (object-at d))) apart (cases_Bool (is_same_text x object))
      where
        apart : is_same_text x object ≡ false → IsBelow d x (type_at d 0)
        apart differs =
            inr (subst (Leads (parent_pairs d) x) (sym (object-at d))
            (leads.Direct x object
            (kept (λ pair. not (is_object_pair pair)) (written_pairs d) (x, object)
            (Contains-append_right (declared_pairs d) (map (λ text. (text, object)) (texts (type_mentions d))) (x, object) (mapped (λ text. (text, object)) (texts (type_mentions d)) x h))
            (ap (λ b. not (b && is_same_text object object)) differs))))

-- types that share a subtype have a number that reaches both
pub share-number : (d : DomainText) (a b : ℕ) → a < length (type_names d) → b < length (type_names d) → ShareSubtype d (type_at d a) (type_at d b)
    → (s : ℕ) × (s < length (type_names d)) × Reaches (numbered_pairs d) s a × Reaches (numbered_pairs d) s b
share-number d a b small small_b (w, type, one, two) =
    let there = type-number d w type in
    let s = number_in (type_names d) w in
    let lt = number-small (type_names d) w there in
    let is = number-names (type_names d) w there in (
      s,
      lt,
      below-reaches d s a lt small (subst (λ x. IsBelow d x (type_at d a)) (sym is) one),
      below-reaches d s b lt small_b (subst (λ x. IsBelow d x (type_at d b)) (sym is) two),
    )

-- types that a number reaches share a subtype
pub number-share : (d : DomainText) (a b s : ℕ) → s < length (type_names d) → Reaches (numbered_pairs d) s a → Reaches (numbered_pairs d) s b → ShareSubtype d (type_at d a) (type_at d b)
number-share d a b s lt one two = (type_at d s, number-type d s lt, reaches-below d s a one, reaches-below d s b two)
