-- The pairs of one group of types.
use Rattle.std.proofs.Common.{◌≡◌, ℕ, List, [], ◌∷◌, ◌++◌, map, option_map, refl, ap, ◌∙◌}
use Rattle.hddl_words.specs.Names.{Name}
use Rattle.hddl_words.specs.declared.term.NameGroup.{NameGroup}
use Rattle.hddl_meaning.specs.Mentions.{Text, Mention, folded, mention_of}
use Rattle.hddl_meaning.specs.Names.{number_in, object, optional_mention}
use Rattle.hddl_meaning.specs.Types.{text_or_object}
use Rattle.hddl_names.specs.Members.{number_typed, declared_in}
use Rattle.hddl_names.specs.TypeNumbers.{number_pair, with_parents, with_object, pairs_in, object_pairs_in}

-- each type of a group has the group's type as parent
pub group_pairs : (names : List Text) (g : NameGroup) (parent : ℕ) → parent ≡ number_in names (text_or_object (option_map mention_of g.of_type))
    → map (λ x. (number_in names (folded x.text), parent)) g.names ≡ pairs_in names (g ∷ [])
group_pairs names g parent is = ap (λ q. map (λ (x : Name). (number_in names (folded x.text), q)) g.names) is ∙ by g.names
  where
    by : (ns : List Name) → map (λ x. (number_in names (folded x.text), number_in names (text_or_object (option_map mention_of g.of_type)))) ns
        ≡ map (number_pair names) (with_parents (map (λ x. record { mention = mention_of x; of_type = option_map mention_of g.of_type }) ns ++ []))
    by [] = refl
    by (x ∷ ns) = ap (λ r. (number_in names (folded x.text), number_in names (text_or_object (option_map mention_of g.of_type))) ∷ r) (by ns)

-- each type that a group mentions has `object` as parent
pub object_group_pairs : (names : List Text) (g : NameGroup) (parent : ℕ) → parent ≡ number_in names object
    → map (λ x. (number_in names (folded x.text), parent)) g.names ++ map (λ m. (number_in names m.text, parent)) (optional_mention g.of_type) ≡ object_pairs_in names (g ∷ [])
object_group_pairs names g parent is =
    ap (λ q. map (λ (x : Name). (number_in names (folded x.text), q)) g.names ++ map (λ (m : Mention). (number_in names m.text, q)) (optional_mention g.of_type)) is
    ∙ by g.names
  where
    last : (ms : List Mention) → map (λ m. (number_in names m.text, number_in names object)) ms ≡ map (number_pair names) (with_object (ms ++ []))
    last [] = refl
    last (m ∷ ms) = ap (λ r. (number_in names m.text, number_in names object) ∷ r) (last ms)

    by : (ns : List Name) → map (λ x. (number_in names (folded x.text), number_in names object)) ns ++ map (λ m. (number_in names m.text, number_in names object)) (optional_mention g.of_type)
        ≡ map (number_pair names) (with_object ((map mention_of ns ++ optional_mention g.of_type) ++ []))
    by [] = last (optional_mention g.of_type)
    by (x ∷ ns) = ap (λ r. (number_in names (folded x.text), number_in names object) ∷ r) (by ns)

-- each object of a group has the group's type
pub group_declared : (objects types : List Text) (g : NameGroup) (parent : ℕ) → parent ≡ number_in types (text_or_object (option_map mention_of g.of_type))
    → map (λ x. (number_in objects (folded x.text), parent)) g.names ≡ declared_in objects types (g ∷ [])
group_declared objects types g parent is = ap (λ q. map (λ (x : Name). (number_in objects (folded x.text), q)) g.names) is ∙ by g.names
  where
    by : (ns : List Name) → map (λ x. (number_in objects (folded x.text), number_in types (text_or_object (option_map mention_of g.of_type)))) ns
        ≡ map (number_typed objects types) (map (λ x. record { mention = mention_of x; of_type = option_map mention_of g.of_type }) ns ++ [])
    by [] = refl
    by (x ∷ ns) = ap (λ r. (number_in objects (folded x.text), number_in types (text_or_object (option_map mention_of g.of_type))) ∷ r) (by ns)
