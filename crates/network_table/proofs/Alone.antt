-- Many networks at once that are kept whole.
use Rattle.std.proofs.Common.{◌≡◌, ℕ, suc, ◌<◌, true≢false, List, [], ◌∷◌, ◌++◌, map, length, get_or, refl, sym, ap, ap₂, subst, ◌∙◌, arith, All, Contains, length-append, append-nil, append_assoc}
use Rattle.std.proofs.lemmas.List.{get_or_append_left, get_or_at, get_or_default, get_or-map, length-map, same_lists}
use Rattle.std.proofs.lemmas.List.Elements.{All-map}
use Rattle.network_table.specs.Interning as interning
use Rattle.htn_model.specs.PlanFile.{IsWithoutRepeats}
use Rattle.network_table.specs.Numbered.{Numbered, nothing}
use Rattle.network_table.specs.Entries.{AreLinked, ArePlacesOf, Fits, IsAlone, IsKeptWhole, entry_eq, entry_eq-decides, network_by, networks_alone, networks_of}
use Rattle.network_table.specs.declared.network_set.Entry.{Entry}
use Rattle.network_table.specs.declared.network_set.Entry.TheVariants.{Chain, Whole}
use Rattle.network_table.proofs.Linking.{distinct_push, entry_is, linked_push, network_at_place, networks_len, networks_push}

-- an entry that is kept over no other fits anywhere
pub alone_fits : (networks : List Numbered) (e : Entry) → IsAlone e → Fits networks e
alone_fits networks (Chain link) alone = absurd (omega (arith, alone.0))
alone_fits networks (Whole network) whole = whole

-- it stands for the same anywhere
pub alone_same : (networks : List Numbered) (e : Entry) → IsAlone e → network_by networks e ≡ network_by [] e
alone_same networks (Chain link) alone = absurd (omega (arith, alone.0))
alone_same networks (Whole network) whole = refl

-- its network is kept whole
pub alone_whole : (e : Entry) → IsAlone e → IsKeptWhole (network_by [] e)
alone_whole (Chain link) alone = absurd (omega (arith, alone.0))
alone_whole (Whole network) whole = whole

-- what holds of all holds of all but the first
all_rest : {X : Type 0} (P : X → Type 0) (x : X) (xs : List X) → All P (x ∷ xs) → All P xs
all_rest P x xs all k d inside = all (suc k) d (omega (arith, inside))

-- a network for each entry that is added
pub networks_append : (entries more : List Entry) → All IsAlone more → networks_of (entries ++ more) ≡ networks_of entries ++ networks_alone more
networks_append entries [] alone = ap networks_of (append-nil entries) ∙ sym (append-nil (networks_of entries))
networks_append entries (e ∷ more) alone =
    let one = networks_push entries e ∙ ap (λ n. networks_of entries ++ n ∷ []) (alone_same (networks_of entries) e (alone 0 e (omega arith))) in
    ap networks_of (sym (append_assoc entries (e ∷ []) more)) ∙ networks_append (entries ++ e ∷ []) more (all_rest IsAlone e more alone)
    ∙ ap (λ ns. ns ++ networks_alone more) one ∙ append_assoc (networks_of entries) (network_by [] e ∷ []) (networks_alone more)

-- linked entries stay so
pub linked_append : (entries more : List Entry) → AreLinked entries → All IsAlone more → AreLinked (entries ++ more)
linked_append entries [] linked alone = subst AreLinked (sym (append-nil entries)) linked
linked_append entries (e ∷ more) linked alone =
    let one = linked_push entries e linked (alone_fits (networks_of entries) e (alone 0 e (omega arith))) in
    subst AreLinked (append_assoc entries (e ∷ []) more) (linked_append (entries ++ e ∷ []) more one (all_rest IsAlone e more alone))

-- where no two are equal, the first that is added stands nowhere before
first_new : (entries : List Entry) (e : Entry) (more : List Entry) → interning.AreApart entry_eq (entries ++ e ∷ more) → (n : ℕ) → n < length entries → get_or entries n e ≡ e → ⊥
first_new entries e more apart n low at =
    let told = apart n (length entries) e low (omega (arith, length-append entries (e ∷ more))) in
    let own : get_or (entries ++ e ∷ more) n e ≡ e = get_or_append_left entries (e ∷ more) e n low ∙ at in
    let last : get_or (entries ++ e ∷ more) (length entries) e ≡ e = get_or_at entries e more e (length entries) refl in
    true≢false (sym ((entry_eq-decides e e).1 refl) ∙ ap₂ entry_eq (sym own) (sym last) ∙ told)

-- no network stands twice, where no two entries are equal
pub distinct_append : (entries more : List Entry) → AreLinked entries → All IsAlone more → interning.AreApart entry_eq (entries ++ more) → IsWithoutRepeats (networks_of entries)
    → IsWithoutRepeats (networks_of (entries ++ more))
distinct_append entries [] linked alone apart distinct = subst (λ es. IsWithoutRepeats (networks_of es)) (sym (append-nil entries)) distinct
distinct_append entries (e ∷ more) linked alone apart distinct =
    let fits = alone_fits (networks_of entries) e (alone 0 e (omega arith)) in
    let one = subst IsWithoutRepeats (sym (networks_push entries e)) (distinct_push (networks_of entries) (network_by (networks_of entries) e) distinct
    (λ n inside same. let low : n < length entries = omega (arith, inside, networks_len entries) in
    first_new entries e more apart n low (entry_is entries linked distinct n e e low fits same))) in
    let longer = append_assoc entries (e ∷ []) more in
    subst (λ es. IsWithoutRepeats (networks_of es)) longer
    (distinct_append (entries ++ e ∷ []) more (linked_push entries e linked fits) (all_rest IsAlone e more alone) (subst (interning.AreApart entry_eq) (sym longer) apart) one)

-- what is of a list, is so after a function
pub contains_map : {X Y : Type 0} (f : X → Y) (xs ys : List X) → All (Contains xs) ys → All (Contains (map f xs)) (map f ys)
contains_map f xs ys all = All-map (Contains (map f xs)) f ys each
  where
    each : All (λ y. Contains (map f xs) (f y)) ys
    each k d inside =
        let y = get_or ys k d in
        let found = all k d inside in (
          found.0,
          omega (arith, found.1, length-map xs f),
          get_or-map f xs found.0 y (f y) found.1 ∙ ap f found.2,
        )

-- what is of a list of which a fact holds, has it
pub contained_all : {X : Type 0} (P : X → Type 0) (xs ys : List X) → All P xs → All (Contains xs) ys → All P ys
contained_all P xs ys all within k d inside = let found = within k d inside in subst P found.2 (all found.0 (get_or ys k d) found.1)

-- entries with these numbers are at these places
pub places_are : (entries batch : List Entry) (places : List ℕ) → AreLinked entries → All IsAlone batch → interning.AreNumbersOf entry_eq entries batch places
    → ArePlacesOf (networks_of entries) places (networks_alone batch)
places_are entries batch places linked alone (long, each) = record {
  inside = λ k d low. subst (λ p. p < length (networks_of entries)) (get_or_default places k 0 d low) (inside k (omega (arith, low, long)));
  each = same_lists (map at places) (networks_alone batch) (omega (arith, long, length-map places at, length-map batch (network_by [])))
      (λ k d low. let less : k < length batch = omega (arith, low, long, length-map places at) in
      get_or-map at places k 0 d (omega (arith, low, length-map places at)) ∙ there k less ∙ sym (get_or-map (network_by []) batch k (Whole nothing) d less));
}
  where
    at : ℕ → Numbered
    at p = get_or (networks_of entries) p nothing

    inside : (k : ℕ) → k < length batch → get_or places k 0 < length (networks_of entries)
    inside k low = omega (arith, (each k (Whole nothing) low).0, networks_len entries)

    there : (k : ℕ) → k < length batch → at (get_or places k 0) ≡ network_by [] (get_or batch k (Whole nothing))
    there k low =
        let e = get_or batch k (Whole nothing) in
        let place = get_or places k 0 in
        let found = each k (Whole nothing) low in
        let same : e ≡ get_or entries place e = (entry_eq-decides e (get_or entries place e)).0 (found.1 e) in
        network_at_place (networks_of entries) place (get_or entries place e) (linked place e found.0) ∙ ap (network_by (networks_of entries)) (sym same)
        ∙ alone_same (networks_of entries) e (alone k (Whole nothing) low)

-- the network at a place where an entry is kept whole
pub whole_there : (entries : List Entry) (place : ℕ) (kept : Numbered) (e : Entry) → place < length entries → e ≡ get_or entries place e → e ≡ Whole kept
    → get_or (networks_alone entries) place nothing ≡ kept
whole_there entries place kept e inside is whole = get_or-map (network_by []) entries place e nothing inside ∙ ap (network_by []) (sym is ∙ whole)
