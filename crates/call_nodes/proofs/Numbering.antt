-- Lists that come to those that have numbers.
use Rattle.std.proofs.Common.{◌≡◌, ℕ, ◌+◌, ◌<◌, inl, inr, List, [], ◌∷◌, ◌++◌, length, get_or, Bool, true, false, cond, Some, refl, sym, ap, subst, ◌∙◌, arith, append_assoc, append-nil, length-append}
use Rattle.std.proofs.lemmas.Bool.{cases_lt}
use Rattle.std.proofs.lemmas.List.{get_or_append_left, get_or_past}
use Rattle.std.specs.Map.{lookup}
use Rattle.indexmap.specs.IndexMap.{IndexMap, get, IsEmpty}
use Rattle.call_table.specs.Lists.{Lists, list_at}
use Rattle.state_table.specs.Numberings.{IsExtension}
use Rattle.call_nodes.specs.Cells.{cell_eq, cell_eq-decides}
use Rattle.call_nodes.specs.Numbered.{AreNumbered, IsBefore}
use Rattle.call_nodes.specs.declared.cell.Cell.{Cell}

-- a list of some nodes is not empty
pub no_nodes : (x : ℕ) (xs : List ℕ) → x ∷ xs ≡ [] → ⊥
no_nodes x xs e = cc

-- a list of some nodes has a number that is in use
pub in_use : (lists : List (List ℕ)) (n x : ℕ) (xs : List ℕ) → get_or lists n [] ≡ x ∷ xs → n < length lists
in_use lists n x xs is = elim (cases_lt n (length lists)) [
  | inl inside ↦ inside
  | inr past ↦ absurd (no_nodes x xs (sym is ∙ get_or_past lists n [] past))
]

-- what comes last stands at the end
pub end : (lists : List (List ℕ)) (x : List ℕ) → get_or (lists ++ x ∷ []) (length lists) [] ≡ x
end [] x = refl
end (y ∷ lists) x = end lists x

-- no list more
pub same_lists : {A : Type 0} (xs : List A) → IsExtension xs xs
same_lists xs = ([], sym (append-nil xs))

-- more lists, and more again
pub more_lists : {A : Type 0} (xs ys zs : List A) → IsExtension xs ys → IsExtension ys zs → IsExtension xs zs
more_lists xs ys zs e f = (e.0 ++ f.0, f.1 ∙ ap (λ l. l ++ f.0) e.1 ∙ append_assoc xs e.0 f.0)

-- a list keeps its number
pub list_stays : (l k : Lists) (n : ℕ) → IsExtension l.lists k.lists → n < length l.lists → list_at k n ≡ list_at l n
list_stays l k n e inside = ap (λ ls. get_or ls n []) e.1 ∙ get_or_append_left l.lists e.0 [] n inside

-- a number stays in use
pub stays_in_use : {A : Type 0} (xs ys : List A) (n : ℕ) → IsExtension xs ys → n < length xs → n < length ys
stays_in_use xs ys n e inside =
    let long : length ys ≡ length xs + length e.0 = ap length e.1 ∙ length-append xs e.0 in omega arith

-- what has a number by its first node keeps it
before_stays : (l k : Lists) (q : Cell) (n : ℕ) → IsExtension l.lists k.lists → IsBefore l q n → IsBefore k q n
before_stays l k q n e is =
    record {
      known = stays_in_use l.lists k.lists n e is.known;
      rest = stays_in_use l.lists k.lists q.rest e is.rest;
      is = list_stays l k n e is.known ∙ is.is ∙ ap (λ xs. q.first ∷ xs) (sym (list_stays l k q.rest e is.rest));
    }

module _ {S : Type 0} where
  -- all that have numbers keep them
  pub numbered_stays : (l k : Lists) (m : IndexMap Cell ℕ S) → IsExtension l.lists k.lists → AreNumbered l m → AreNumbered k m
  numbered_stays l k m e are =
      record {
        some = stays_in_use l.lists k.lists 0 e are.some;
        empty = list_stays l k 0 e are.some ∙ are.empty;
        told = λ q n is. before_stays l k q n e (are.told q n is);
      }

  -- and where the same is looked up
  pub numbered_same : (l : Lists) (m n : IndexMap Cell ℕ S) → n.entries ≡ m.entries → AreNumbered l m → AreNumbered l n
  numbered_same l m n same are =
      record {
        some = are.some;
        empty = are.empty;
        told = λ q x is. are.told q x (ap (λ es. lookup (cell_eq q) es) (sym same) ∙ is);
      }

  -- nothing is looked up in an empty table
  pub numbered_none : (l : Lists) (m : IndexMap Cell ℕ S) → l.lists ≡ [] ∷ [] → IsEmpty m → AreNumbered l m
  numbered_none l m is none =
      record {
        some = subst (λ (ls : List (List ℕ)). 0 < length ls) (sym is) (omega arith);
        empty = ap (λ (ls : List (List ℕ)). get_or ls 0 []) is;
        told = λ q n found. absurd (nothing q n (subst (λ es. lookup (cell_eq q) es ≡ Some n) none found));
      }
    where
      nothing : (q : Cell) (n : ℕ) → lookup (cell_eq q) [] ≡ Some n → ⊥
      nothing q n e = cc

  -- a list that comes to them has the number that is put for it
  pub numbered_put :
      (l k : Lists) (m n : IndexMap Cell ℕ S) (first rest number : ℕ)
      → k.lists ≡ l.lists ++ (first ∷ list_at l rest) ∷ [] → rest < length l.lists → number ≡ length l.lists → AreNumbered l m
      → ((q : Cell) → get cell_eq n q ≡ cond (cell_eq (record { first = first; rest = rest }) q) (Some number) (get cell_eq m q))
      → AreNumbered k n
  numbered_put l k m n first rest number grown low at are put =
      let more : IsExtension l.lists k.lists = ((first ∷ list_at l rest) ∷ [], grown) in
      let stays = numbered_stays l k m more are in
      record {
        some = stays.some;
        empty = stays.empty;
        told = λ q x is. by q x (cell_eq (record { first = first; rest = rest }) q) refl is;
      }
    where
      by : (q : Cell) (x : ℕ) (b : Bool) → cell_eq (record { first = first; rest = rest }) q ≡ b → get cell_eq n q ≡ Some x → IsBefore k q x
      by q x true e is =
          let more : IsExtension l.lists k.lists = ((first ∷ list_at l rest) ∷ [], grown) in
          let same : record { first = first; rest = rest } ≡ q = (cell_eq-decides (record { first = first; rest = rest }) q).0 e in
          let told : Some number ≡ Some x = sym (put q ∙ ap (λ b. cond b (Some number) (get cell_eq m q)) e) ∙ is in
          let one : number ≡ x = cc in
          let last : list_at k number ≡ first ∷ list_at l rest =
          ap (λ i. list_at k i) at ∙ ap (λ ls. get_or ls (length l.lists) []) grown ∙ end l.lists (first ∷ list_at l rest) in
          let here : IsBefore k (record { first = first; rest = rest }) number = record {
            known = (let long = ap length grown ∙ length-append l.lists ((first ∷ list_at l rest) ∷ []) in omega arith);
            rest = stays_in_use l.lists k.lists rest more low;
            is = last ∙ ap (λ xs. first ∷ xs) (sym (list_stays l k rest more low));
          } in
          subst (λ (p : Cell). IsBefore k p x) same (subst (IsBefore k (record { first = first; rest = rest })) one here)
      by q x false e is =
          let more : IsExtension l.lists k.lists = ((first ∷ list_at l rest) ∷ [], grown) in
          before_stays l k q x more (are.told q x (sym (put q ∙ ap (λ b. cond b (Some number) (get cell_eq m q)) e) ∙ is))
