-- Lists of blocks that share their ends.
use Rattle.std.proofs.Common.{◌≡◌, ℕ, ◌+◌, ◌<◌, ◌≤◌, ◌⊎◌, inl, inr, List, [], ◌∷◌, ◌++◌, fold, length, get_or, refl, sym, ap, subst, ◌∙◌, arith, length-append}
use Rattle.std.proofs.lemmas.Bool.{cases_lt}
use Rattle.std.proofs.lemmas.List.{get_or_append_left, get_or_past}
use Rattle.std.proofs.lemmas.List.Sums.{fold-append}
use Rattle.call_table.specs.declared.lists.Link.{Link}
use Rattle.call_table.specs.Lists.{Lists, IsLink, AreLinked, lists_of, list_at, count_of, nodes_of}

-- a list more
abbrev with_link : List (List ℕ) → Link → List (List ℕ)
with_link lists link = lists ++ (link.first ∷ get_or lists link.rest []) ∷ []

-- one more link, one more list
pub lists_push : (links : List Link) (link : Link) → lists_of (links ++ link ∷ []) ≡ with_link (lists_of links) link
lists_push links link = fold-append with_link ([] ∷ []) links (link ∷ [])

-- as many lists come to those that were there as there are links
fold_len : (lists : List (List ℕ)) (links : List Link) → length (fold with_link lists links) ≡ length lists + length links
fold_len lists [] = omega arith
fold_len lists (link ∷ links) =
    let rest = fold_len (with_link lists link) links in
    let one = length-append lists ((link.first ∷ get_or lists link.rest []) ∷ []) in
    omega arith

-- one list more than links
pub lists_len : (links : List Link) → length (lists_of links) ≡ length links + 1
lists_len links = let e = fold_len ([] ∷ []) links in omega arith

-- the first list stays
first_stays : (lists : List (List ℕ)) (links : List Link) → 0 < length lists → get_or (fold with_link lists links) 0 [] ≡ get_or lists 0 []
first_stays lists [] some = refl
first_stays lists (link ∷ links) some =
    let one = length-append lists ((link.first ∷ get_or lists link.rest []) ∷ []) in
    first_stays (with_link lists link) links (omega arith) ∙ get_or_append_left lists ((link.first ∷ get_or lists link.rest []) ∷ []) [] 0 some

-- number 0 is the empty list, and past the last there is none
pub none_at : (l : Lists) (links : List Link) (number : ℕ) → l.lists ≡ lists_of links → (number ≡ 0) ⊎ (length links < number) → list_at l number ≡ []
none_at l links number is (inl zero) =
    ap (λ n. get_or l.lists n []) zero ∙ ap (λ ls. get_or ls 0 []) is ∙ first_stays ([] ∷ []) links (omega arith)
none_at l links number is (inr past) =
    ap (λ ls. get_or ls number []) is ∙ get_or_past (lists_of links) number [] (let e = lists_len links in omega arith)

-- a link stays that of its list while lists are added
link_longer : (counts : List ℕ) (lists more : List (List ℕ)) (number : ℕ) (link : Link) → number < length lists → IsLink counts lists number link → IsLink counts (lists ++ more) number link
link_longer counts lists more number link inside is =
    let same = get_or_append_left lists more [] number inside in
    let low = is.rest in
    record {
      rest = is.rest;
      is = same ∙ is.is ∙ ap (λ xs. link.first ∷ xs) (sym (get_or_append_left lists more [] link.rest (omega arith)));
      nodes = subst (λ xs. link.nodes ≤ nodes_of counts xs) (sym same) is.nodes;
    }

-- what comes last stands at the end
end : {X : Type 0} (xs : List X) (x d : X) → get_or (xs ++ x ∷ []) (length xs) d ≡ x
end [] x d = refl
end (y ∷ xs) x d = end xs x d

-- a link that fits is that of the list after all others
link_last : (counts : List ℕ) (lists : List (List ℕ)) (link : Link) → link.rest < length lists
    → link.nodes ≤ nodes_of counts (link.first ∷ get_or lists link.rest []) → IsLink counts (with_link lists link) (length lists) link
link_last counts lists link low nodes =
    let blocks = link.first ∷ get_or lists link.rest [] in
    let last = end lists blocks [] in
    record {
      rest = low;
      is = last ∙ ap (λ xs. link.first ∷ xs) (sym (get_or_append_left lists (blocks ∷ []) [] link.rest low));
      nodes = subst (λ xs. link.nodes ≤ nodes_of counts xs) (sym last) nodes;
    }

-- one more that fits
pub linked_push : (counts : List ℕ) (links : List Link) (link : Link) → AreLinked counts links → link.rest < length (lists_of links)
    → link.nodes ≤ nodes_of counts (link.first ∷ get_or (lists_of links) link.rest []) → AreLinked counts (links ++ link ∷ [])
linked_push counts links link linked low nodes k d inside =
    subst (λ ls. IsLink counts ls (k + 1) (get_or (links ++ link ∷ []) k d)) (sym (lists_push links link)) (elim (cases_lt k (length links)) [
      | inl before ↦ subst (IsLink counts (with_link (lists_of links) link) (k + 1)) (sym (get_or_append_left links (link ∷ []) d k before))
          (link_longer counts (lists_of links) ((link.first ∷ get_or (lists_of links) link.rest []) ∷ []) (k + 1) (get_or links k d) (let e = lists_len links in omega arith) (linked k d before))
      | inr on ↦ (let long = length-append links (link ∷ []) in
          let many = lists_len links in
          let here : length (lists_of links) ≡ k + 1 = omega arith in
          let at : k ≡ length links = omega arith in
          let is : get_or (links ++ link ∷ []) k d ≡ link = ap (λ n. get_or (links ++ link ∷ []) n d) at ∙ end links link d in
          subst (IsLink counts (with_link (lists_of links) link) (k + 1)) (sym is)
          (subst (λ n. IsLink counts (with_link (lists_of links) link) n link) here (link_last counts (lists_of links) link low nodes)))
    ])

-- no links are linked
pub linked_none : (counts : List ℕ) → AreLinked counts []
linked_none counts k d inside = absurd (omega arith)

-- a block has no fewer nodes where more blocks have numbers
count_more : (counts more : List ℕ) (block : ℕ) → count_of counts block ≤ count_of (counts ++ more) block
count_more counts more block = elim (cases_lt block (length counts)) [
  | inl inside ↦ (let e = get_or_append_left counts more 0 block inside in omega arith)
  | inr past ↦ (let e = get_or_past counts block 0 past in omega arith)
]

-- nor have blocks
nodes_more : (counts more xs : List ℕ) → nodes_of counts xs ≤ nodes_of (counts ++ more) xs
nodes_more counts more [] = omega arith
nodes_more counts more (x ∷ xs) = let one = count_more counts more x in let rest = nodes_more counts more xs in omega arith

-- links stay those of their lists where more blocks have numbers
pub linked_more : (counts more : List ℕ) (links : List Link) → AreLinked counts links → AreLinked (counts ++ more) links
linked_more counts more links linked k d inside =
    let is = linked k d inside in
    record {
      rest = is.rest;
      is = is.is;
      nodes = (let low = is.nodes in let high = nodes_more counts more (get_or (lists_of links) (k + 1) []) in omega arith);
    }
