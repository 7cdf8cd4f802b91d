-- Names that are declared one after another.
use Rattle.std.proofs.Common.{◌≡◌, ℕ, ◌<◌, ◌+◌, List, [], ◌∷◌, ◌++◌, map, take, length, get_or, refl, sym, ap, ◌∙◌}
use Rattle.std.specs.List.{fold}
use Rattle.std.proofs.lemmas.List.{take_more, map-append}
use Rattle.std.proofs.lemmas.List.Sums.{fold-append}
use Rattle.std.proofs.lemmas.List.Concat.{flat_map-append}
use Rattle.hddl_words.specs.Names.{Name}
use Rattle.hddl_words.specs.declared.term.NameGroup.{NameGroup}
use Rattle.hddl_meaning.specs.Mentions.{Text, Mention, folded, mention_of, texts}
use Rattle.hddl_meaning.specs.Names.{with_name, optional_mention}
use Rattle.hddl_names.specs.Texts.{mentions_in}

-- the texts of mentioned names are the names in lower case
pub names-texts : (names : List Name) → texts (map mention_of names) ≡ map (λ x. folded x.text) names
names-texts [] = refl
names-texts (x ∷ xs) = ap (λ ts. folded x.text ∷ ts) (names-texts xs)

-- the texts of a group are its names' and then its type's
group-texts : (g : NameGroup) → texts (map mention_of g.names ++ optional_mention g.of_type) ≡ map (λ x. folded x.text) g.names ++ texts (optional_mention g.of_type)
group-texts g = map-append (λ m. m.text) (map mention_of g.names) (optional_mention g.of_type) ∙ ap (λ ts. ts ++ texts (optional_mention g.of_type)) (names-texts g.names)

-- the mentions of one group more come at the end
last-mentions : (groups : List NameGroup) (g : NameGroup) → mentions_in (groups ++ g ∷ []) ≡ mentions_in groups ++ (map mention_of g.names ++ optional_mention g.of_type)
last-mentions groups g =
    flat_map-append (λ (g : NameGroup). map mention_of g.names ++ optional_mention g.of_type) groups (g ∷ [])
    ∙ ap (λ ms. mentions_in groups ++ ms) (end (map mention_of g.names ++ optional_mention g.of_type))
  where
    end : (ms : List Mention) → ms ++ [] ≡ ms
    end [] = refl
    end (m ∷ ms) = ap (λ r. m ∷ r) (end ms)

-- one more group of types
pub types_more : (b : List Text) (groups : List NameGroup) (i : ℕ) (g : NameGroup) → i < length groups → g ≡ get_or groups i g
    → fold with_name (fold with_name (fold with_name b (texts (mentions_in (take i groups)))) (map (λ x. folded x.text) g.names)) (texts (optional_mention g.of_type))
    ≡ fold with_name b (texts (mentions_in (take (i + 1) groups)))
types_more b groups i g lt is =
    let before = take i groups in
    sym (fold-append with_name (fold with_name b (texts (mentions_in before))) (map (λ x. folded x.text) g.names) (texts (optional_mention g.of_type)))
    ∙ ap (fold with_name (fold with_name b (texts (mentions_in before)))) (sym (group-texts g))
    ∙ sym (fold-append with_name b (texts (mentions_in before)) (texts (map mention_of g.names ++ optional_mention g.of_type)))
    ∙ ap (fold with_name b)
    (sym (map-append (λ m. m.text) (mentions_in before) (map mention_of g.names ++ optional_mention g.of_type))
    ∙ ap texts (sym (last-mentions before g) ∙ ap (λ x. mentions_in (before ++ x ∷ [])) is ∙ ap mentions_in (sym (take_more groups i g lt))))
