-- What a list keeps of a batch for which there is room.
use Rattle.std.proofs.Common.{◌≡◌, suc, ◌+◌, ◌<◌, Bool, true, false, not, List, [], ◌∷◌, ◌++◌, length, map, get_or, All, refl, sym, ap, subst, ◌∙◌, inl, inr, arith, append_assoc, length-append, if◌then◌else◌}
use Rattle.std.specs.List.{list_any}
use Rattle.std.proofs.lemmas.List.{append-nil}
use Rattle.std.proofs.lemmas.List.Elements.{All-cons, All-head, All-nil, All-tail}
use Rattle.indexmap.specs.IndexSet.{insert_all, insert_key}
use Rattle.workers.specs.Shards.{AreNew}
use Rattle.word_machine.specs.declared.closed.Link.{Link}
use Rattle.word_machine.specs.declared.closed.Origin.{Origin}
use Rattle.word_machine.specs.declared.closed.Successor.{Successor}
use Rattle.word_machine.specs.declared.closed.Origin.TheVariants.{Step}
use Rattle.word_machine.specs.Contents.{Contents, fitting, offer, offer_all, origin_of, picked, IsForest, IsOriginWithin}
use Rattle.word_machine.proofs.Meanings.{slice_get-map_back}
use Rattle.word_machine.proofs.Places.{slice_get-append_cases}
use Rattle.std.proofs.lemmas.Option.{get_or_from_slice_get, slice_get_within}

-- one more of a list is picked or not
pub picked-push : {X : Type 0} (xs : List X) (bs : List Bool) (x : X) (b : Bool) → length xs ≡ length bs
    → picked (xs ++ x ∷ []) (bs ++ b ∷ []) ≡ picked xs bs ++ (if b then x ∷ [] else [])
picked-push [] [] x true same = refl
picked-push [] [] x false same = refl
picked-push [] (c ∷ bs) x b same = absurd (omega arith)
picked-push (y ∷ xs) [] x b same = absurd (omega arith)
picked-push (y ∷ xs) (true ∷ bs) x b same = ap (λ l. y ∷ l) (picked-push xs bs x b (omega arith))
picked-push (y ∷ xs) (false ∷ bs) x b same = picked-push xs bs x b (omega arith)

-- what holds of each holds of those that are picked
pub picked-All : {X : Type 0} (P : X → Type 0) (xs : List X) (bs : List Bool) → All P xs → All P (picked xs bs)
picked-All P [] bs each = All-nil P
picked-All P (x ∷ xs) [] each = All-nil P
picked-All P (x ∷ xs) (true ∷ bs) each = All-cons P x (picked xs bs) (All-head P x xs each) (picked-All P xs bs (All-tail P x xs each))
picked-All P (x ∷ xs) (false ∷ bs) each = picked-All P xs bs (All-tail P x xs each)

module _ {C : Type 0} (eq : C → C → Bool) where
  -- offering one for which there is room
  offered_one : (contents : Contents C) (l : Link) (c : C) (b : Bool) → b ≡ not (list_any (eq c) contents.keys)
      → offer eq contents (record { origin = origin_of l; configuration = c }) 0 0
      ≡ record { keys = insert_key eq contents.keys c; origins = contents.origins ++ map origin_of (if b then l ∷ [] else []); cut = contents.cut }
  offered_one contents l c b is = by (list_any (eq c) contents.keys) refl
    where
      s : Successor C
      s = record { origin = origin_of l; configuration = c }

      by : (there : Bool) → list_any (eq c) contents.keys ≡ there
          → (if there then contents else record { keys = contents.keys ++ c ∷ []; origins = contents.origins ++ origin_of l ∷ []; cut = contents.cut })
          ≡ record { keys = if there then contents.keys else contents.keys ++ c ∷ []; origins = contents.origins ++ map origin_of (if b then l ∷ [] else []); cut = contents.cut }
      by true there =
          ap (λ o. record { keys = contents.keys; origins = o; cut = contents.cut })
          (sym (append-nil contents.origins) ∙ ap (λ f. contents.origins ++ map origin_of (if f then l ∷ [] else [])) (sym (is ∙ ap not there)))
      by false none =
          ap (λ f. record { keys = contents.keys ++ c ∷ []; origins = contents.origins ++ map origin_of (if f then l ∷ [] else []); cut = contents.cut }) (sym (is ∙ ap not none))

  -- the marks of the rest of a batch, once its first is inserted
  rest_new : (keys : List C) (c : C) (cs : List C) (b : Bool) (marks : List Bool) → AreNew eq keys (c ∷ cs) (b ∷ marks) → AreNew eq (insert_key eq keys c) cs marks
  rest_new keys c cs b marks new = (
    (let long : length (b ∷ marks) ≡ length (c ∷ cs) = new.0 in omega arith),
    λ i d inside. new.1 (suc i) d (omega arith),
  )

  -- what a list keeps of a batch
  pub kept_all : (contents : Contents C) (ls : List Link) (cs : List C) (marks : List Bool) → length ls ≡ length cs → AreNew eq contents.keys cs marks
      → offer_all eq (λ c. 0) 0 contents (fitting ls cs)
      ≡ record { keys = insert_all eq contents.keys cs; origins = contents.origins ++ map origin_of (picked ls marks); cut = contents.cut }
  kept_all contents [] [] marks same new = ap (λ o. record { keys = contents.keys; origins = o; cut = contents.cut }) (sym (append-nil contents.origins))
  kept_all contents [] (c ∷ cs) marks same new = absurd (omega arith)
  kept_all contents (l ∷ ls) [] marks same new = absurd (omega arith)
  kept_all contents (l ∷ ls) (c ∷ cs) [] same new = absurd (let long : 0 ≡ length (c ∷ cs) = new.0 in omega arith)
  kept_all contents (l ∷ ls) (c ∷ cs) (b ∷ marks) same new =
      let next : Contents C = record { keys = insert_key eq contents.keys c; origins = contents.origins ++ map origin_of (if b then l ∷ [] else []); cut = contents.cut } in
      ap (λ n. offer_all eq (λ c. 0) 0 n (fitting ls cs)) (offered_one contents l c b (new.1 0 c (omega arith)))
      ∙ kept_all next ls cs marks (omega arith) (rest_new contents.keys c cs b marks new)
      ∙ ap (λ o. record { keys = insert_all eq contents.keys (c ∷ cs); origins = o; cut = contents.cut }) (joined b)
    where
      joined : (b : Bool) → (contents.origins ++ map origin_of (if b then l ∷ [] else [])) ++ map origin_of (picked ls marks)
          ≡ contents.origins ++ map origin_of (picked (l ∷ ls) (b ∷ marks))
      joined true = append_assoc contents.origins (origin_of l ∷ []) (map origin_of (picked ls marks))
      joined false = ap (λ o. o ++ map origin_of (picked ls marks)) (append-nil contents.origins)

  -- as many links are picked as there are more configurations
  pub as_many_more : (keys : List C) (ls : List Link) (cs : List C) (marks : List Bool) → length ls ≡ length cs → AreNew eq keys cs marks
      → length (insert_all eq keys cs) ≡ length keys + length (picked ls marks)
  as_many_more keys [] [] marks same new = omega arith
  as_many_more keys [] (c ∷ cs) marks same new = absurd (omega arith)
  as_many_more keys (l ∷ ls) [] marks same new = absurd (omega arith)
  as_many_more keys (l ∷ ls) (c ∷ cs) [] same new = absurd (let long : 0 ≡ length (c ∷ cs) = new.0 in omega arith)
  as_many_more keys (l ∷ ls) (c ∷ cs) (b ∷ marks) same new =
      as_many_more (insert_key eq keys c) ls cs marks (omega arith) (rest_new keys c cs b marks new) ∙ by (list_any (eq c) keys) refl b (new.1 0 c (omega arith))
    where
      by : (there : Bool) → list_any (eq c) keys ≡ there → (f : Bool) → f ≡ not (list_any (eq c) keys)
          → length (insert_key eq keys c) + length (picked ls marks) ≡ length keys + length (picked (l ∷ ls) (f ∷ marks))
      by true there f is =
          ap (λ t. length (if t then keys else keys ++ c ∷ []) + length (picked ls marks)) there
          ∙ ap (λ g. length keys + length (picked (l ∷ ls) (g ∷ marks))) (sym (is ∙ ap not there))
      by false none f is =
          ap (λ t. length (if t then keys else keys ++ c ∷ []) + length (picked ls marks)) none
          ∙ (let grown : length (keys ++ c ∷ []) ≡ length keys + 1 = length-append keys (c ∷ []) in
          let more : length (keys ++ c ∷ []) + length (picked ls marks) ≡ length keys + suc (length (picked ls marks)) = omega arith in more)
          ∙ ap (λ g. length keys + length (picked (l ∷ ls) (g ∷ marks))) (sym (is ∙ ap not none))

-- origins that come from those before them make a forest with them
pub forest_more : (origins : List Origin) (more : List Link) → IsForest origins → All (λ l. IsOriginWithin (length origins) (origin_of l)) more
    → IsForest (origins ++ map origin_of more)
forest_more origins more forest each rank parent number at = elim (slice_get-append_cases origins (map origin_of more) rank (Step parent number) at) [
  | inl old ↦ forest rank parent number old
  | inr new ↦ (
      let back = slice_get-map_back origin_of more new.0 (Step parent number) new.2 in
      let inside : new.0 < length more = slice_get_within more new.0 back.0 back.1 in
      let is : get_or more new.0 back.0 ≡ back.0 = get_or_from_slice_get more new.0 back.0 back.0 back.1 in
      let own : IsOriginWithin (length origins) (Step parent number) =
      subst (IsOriginWithin (length origins)) (ap origin_of is ∙ back.2) (each new.0 back.0 inside) in
      let place : rank ≡ length origins + new.0 = new.1 in
      omega (arith, own))
]

-- one link more for one configuration more
pub as_many_one : {C : Type 0} (eq : C → C → Bool) (keys : List C) (links : List Link) (c : C) (link : Link) (b : Bool) → b ≡ not (list_any (eq c) keys)
    → length links ≡ length keys → length (links ++ (if b then link ∷ [] else [])) ≡ length (insert_key eq keys c)
as_many_one eq keys links c link b is same =
    ap (λ f. length (links ++ (if f then link ∷ [] else []))) is ∙ by (list_any (eq c) keys)
  where
    by : (there : Bool) → length (links ++ (if not there then link ∷ [] else [])) ≡ length (if there then keys else keys ++ c ∷ [])
    by true = ap length (append-nil links) ∙ same
    by false = length-append links (link ∷ []) ∙ ap (λ n. n + 1) same ∙ sym (length-append keys (c ∷ []))

-- what holds of a link holds of it where it is added
pub added-All : (P : Link → Type 0) (link : Link) (b : Bool) → P link → All P (if b then link ∷ [] else [])
added-All P link true own = All-cons P link [] own (All-nil P)
added-All P link false own = All-nil P
