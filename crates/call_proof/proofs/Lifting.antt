-- Parts of states, and calls lifted from parts, by number.
use Rattle.std.proofs.Common.{◌≡◌, ◌∙◌, ℕ, ◌+◌, ◌<◌, ◌≤◌, List, [], ◌∷◌, ◌++◌, length, map, get_or, slice_get, take, Contains, All, Option, Some, None, option_map, refl, sym, ap, ap₂, subst, arith}
use Rattle.std.proofs.lemmas.List.{map-append, take_more, take_all}
use Rattle.std.proofs.lemmas.List.Elements.{All-contains}
use Rattle.std.proofs.lemmas.Map.Views.{Contains-from_lookup}
use Rattle.std.proofs.lemmas.Option.{get_or_from_slice_get, slice_get-map}
use Rattle.std.proofs.lemmas.Simd.{map-map}
use Rattle.htn_calls.specs.Calls as model
use Rattle.htn_calls.specs.Numbered.{exit_of}
use Rattle.call_rules.specs.Frame.{IsInside, within, lift}
use Rattle.state_table.specs.Table.{Table, state_of}
use Rattle.call_proof.specs.Masks.{frame_of}
use Rattle.call_rules.specs.Framed.{IsPart, lifted_exit}
use Rattle.call_rules.specs.Lifted.{IsLiftedCall}
use Rattle.call_table.specs.Sites.{site_eq-decides}
use Rattle.call_table.specs.Views.{call_at, exit_view, listing, summary_view}
use Rattle.call_table.specs.declared.call.Call.{Call}
use Rattle.call_table.specs.declared.call.CallTable.{CallTable}
use Rattle.call_table.specs.declared.call.Exit.{Exit}
use Rattle.call_table.specs.declared.site.Site.{Site}
use Rattle.call_nodes.specs.Nodes.{state_at}
use Rattle.call_nodes.specs.declared.call_nodes.CallNodes.{CallNodes}
use Rattle.call_proof.specs.Parts.{block_at, exit_at, exit_in, frame_at, IsWholeCall, AreWhole}

-- the mask at the place of a node
pub mask_at : (of : List ℕ) (masks : List (List ℕ)) (j k : ℕ) (mask : List ℕ) → slice_get of j ≡ Some k
    → slice_get masks k ≡ Some mask → slice_get (map (λ n. get_or masks n []) of) j ≡ Some mask
mask_at of masks j k mask at_node at_place =
    slice_get-map (λ n. get_or masks n []) of j ∙ ap (option_map (λ n. get_or masks n [])) at_node
    ∙ ap Some (get_or_from_slice_get masks k mask [] at_place)

-- the part by what a number stands for
pub part_is : (atoms : Table) (sets masks : List (List ℕ)) (i j k : ℕ) (whole mask part : List ℕ)
    → slice_get sets i ≡ Some whole → slice_get masks j ≡ Some mask → slice_get sets k ≡ Some part
    → state_of atoms part ≡ within (frame_of atoms mask) (state_of atoms whole)
    → state_of atoms (get_or sets k []) ≡ within (frame_of atoms (get_or masks j [])) (state_of atoms (get_or sets i []))
part_is atoms sets masks i j k whole mask part at_whole at_mask at_part is =
    ap (state_of atoms) (get_or_from_slice_get sets k part [] at_part) ∙ is
    ∙ sym (ap₂ (λ (m w : List ℕ). within (frame_of atoms m) (state_of atoms w))
    (get_or_from_slice_get masks j mask [] at_mask) (get_or_from_slice_get sets i whole [] at_whole))

-- a frame that is inside another, by the masks of numbers
pub inside_at : (atoms : Table) (masks : List (List ℕ)) (i j : ℕ) (inner outer : List ℕ)
    → slice_get masks i ≡ Some inner → slice_get masks j ≡ Some outer
    → IsInside (frame_of atoms inner) (frame_of atoms outer)
    → IsInside (frame_of atoms (get_or masks i [])) (frame_of atoms (get_or masks j []))
inside_at atoms masks i j inner outer at_inner at_outer is =
    subst (λ (m : List ℕ). IsInside (frame_of atoms m) (frame_of atoms (get_or masks j [])))
    (sym (get_or_from_slice_get masks i inner [] at_inner))
    (subst (λ (m : List ℕ). IsInside (frame_of atoms inner) (frame_of atoms m))
    (sym (get_or_from_slice_get masks j outer [] at_outer)) is)

-- one more that is mapped alike
pub one_more_mapped : {A B C : Type 0} (f : A → C) (g : B → C) (xs : List B) (i : ℕ) (d : B) (ys : List A) (y : A)
    → i < length xs → map f ys ≡ map g (take i xs) → f y ≡ g (get_or xs i d)
    → map f (ys ++ y ∷ []) ≡ map g (take (i + 1) xs)
one_more_mapped f g xs i d ys y inside before is =
    map-append f ys (y ∷ []) ∙ ap (λ zs. zs ++ f y ∷ []) before ∙ ap (λ z. map g (take i xs) ++ z ∷ []) is
    ∙ sym (map-append g (take i xs) (get_or xs i d ∷ [])) ∙ ap (map g) (sym (take_more xs i d inside))

-- all are mapped alike once all were taken
pub all_mapped : {A B C : Type 0} (f : A → C) (g : B → C) (xs : List B) (i : ℕ) (ys : List A) → length xs ≤ i
    → map f ys ≡ map g (take i xs) → map f ys ≡ map g xs
all_mapped f g xs i ys past before = before ∙ ap (map g) (take_all i xs past)

-- one more that is the same
pub same_more : {X : Type 0} (xs ys : List X) (i : ℕ) (d : X) → i < length xs → length xs ≡ length ys
    → get_or xs i d ≡ get_or ys i d → take i xs ≡ take i ys → take (i + 1) xs ≡ take (i + 1) ys
same_more xs ys i d inside long is before =
    take_more xs i d inside ∙ ap (λ l. l ++ get_or xs i d ∷ []) before ∙ ap (λ x. take i ys ++ x ∷ []) is
    ∙ sym (take_more ys i d (omega arith))

-- all are the same once all were taken
pub same_all : {X : Type 0} (xs ys : List X) (i : ℕ) → length xs ≤ i → length xs ≡ length ys → take i xs ≡ take i ys
    → xs ≡ ys
same_all xs ys i past long before = sym (take_all i xs past) ∙ before ∙ take_all i ys (omega arith)

module _ (n : CallNodes) (masks : List (List ℕ)) where
  -- an exit in a whole state, by number
  pub exit_is : (mask whole : List ℕ) (k : ℕ) (e : Exit)
      → state_at n k ≡ lift (frame_of n.atoms mask) (state_of n.atoms whole) (state_at n e.state)
      → exit_at n (record { state = k; cost = e.cost }) ≡ exit_in n mask whole e
  exit_is mask whole k e is = λ i. record { state = is i; cost = e.cost }

  -- exits in a whole state, by its number and by that of a mask
  pub exits_are : (mask whole : List ℕ) (i j : ℕ) (es exits : List Exit) → slice_get n.states i ≡ Some whole
      → slice_get masks j ≡ Some mask → map (exit_at n) es ≡ map (exit_in n mask whole) exits
      → map (exit_at n) es ≡ map (exit_in n (get_or masks j []) (get_or n.states i [])) exits
  exits_are mask whole i j es exits at_whole at_mask are =
      are
      ∙ sym (ap₂ (λ (m w : List ℕ). map (exit_in n m w) exits) (get_or_from_slice_get masks j mask [] at_mask)
      (get_or_from_slice_get n.states i whole [] at_whole))

  module _ (table : CallTable) where
    -- exits that are those of a call in the part are, with its floor, lifted from it
    pub whole_is : (i j part : ℕ) (call : Call) (made : List Exit)
        → IsPart (frame_at n masks j) (state_at n i) (state_at n part) → Some call ≡ call_at table part j
        → map (exit_at n) made ≡ map (exit_in n (get_or masks j []) (get_or n.states i [])) call.exits.items
        → IsLiftedCall (state_at n) (block_at n) (frame_at n masks) (listing table) i j
        (record { exits = map exit_view made; floor = call.floor })
    whole_is i j part call made is_part is exits = record {
      part = part;
      summary = summary_view call;
      is_part = is_part;
      listed = sym (ap (option_map summary_view) is);
      lifted =
          (let to = exit_of (state_at n) (block_at n) in
          let up = lifted_exit (state_at n) (block_at n) (frame_at n masks) j (state_at n i) in
          let same : map to (map exit_view made) ≡ map up (map exit_view call.exits.items) =
          map-map to exit_view made ∙ exits ∙ sym (map-map up exit_view call.exits.items) in
          λ k. record { exits = same k; floor = call.floor });
    }

    -- a call with the same floor and exits is lifted too
    pub whole_same : (i j : ℕ) (one other : Call) → one.floor ≡ other.floor → one.exits.items ≡ other.exits.items
        → IsWholeCall n masks table i j other → IsWholeCall n masks table i j one
    whole_same i j one other floor exits is =
        let same : summary_view one ≡ summary_view other =
        λ k. record { exits = map exit_view (exits k); floor = floor k } in
        subst
        (λ (u : model.Summary ℕ). IsLiftedCall (state_at n) (block_at n) (frame_at n masks) (listing table) i j u)
        (sym same) is

    -- so are all of a table, if each is
    pub all_whole : (whole : CallTable)
        → All (λ (p : Site × Call). IsWholeCall n masks table p.0.state p.0.number p.1) whole.calls.entries
        → AreWhole n masks table whole
    all_whole whole all i j u listed = by (call_at whole i j) refl listed
      where
        by : (o : Option Call) → call_at whole i j ≡ o → option_map summary_view o ≡ Some u
            → IsLiftedCall (state_at n) (block_at n) (frame_at n masks) (listing table) i j u
        by None e h = absurd cc
        by (Some c) e h =
            let site : Site = record { state = i; number = j } in
            let stands : Contains whole.calls.entries (site, c) =
            Contains-from_lookup (λ x y. (site_eq-decides x y).0) site c whole.calls.entries e in
            let is : IsWholeCall n masks table i j c =
            All-contains (λ (p : Site × Call). IsWholeCall n masks table p.0.state p.0.number p.1)
            whole.calls.entries (site, c) all stands in
            let same : summary_view c ≡ u = cc in
            subst
            (λ (v : model.Summary ℕ). IsLiftedCall (state_at n) (block_at n) (frame_at n masks) (listing table) i j v)
            same is
