-- More nodes and networks get numbers.
use Rattle.std.proofs.Common.{◌≡◌, ◌∙◌, ◌<◌, ◌+◌, ◌++◌, ◌∷◌, [], ℕ, suc, List, ap, ap₂, sym, subst, map, length, take, get_or, refl, arith}
use Rattle.std.proofs.Math.Seq.{take-suc}
use Rattle.std.proofs.lemmas.List.{map_push}
use Rattle.std.proofs.lemmas.List.Elements.{All-push}
use Rattle.htn_model.specs.Choice.{child_of}
use Rattle.htn_model.specs.Problem.{Child, Network}
use Rattle.network_table.specs.Children.{AreKept}
use Rattle.network_table.specs.Expansions.{IsSound, Live}
use Rattle.network_table.specs.Networks.{children, IsGrown, IsMore, IsWhole}
use Rattle.network_table.specs.Numbered.{IsWithin, Numbered, network_of}
use Rattle.network_table.specs.declared.child_table.ChildTable.{ChildTable}
use Rattle.network_table.specs.declared.table.NetworkTable.{NetworkTable}
use Rattle.network_table.proofs.Expanding.{all_more, grown_itself, map_all}
use Rattle.network_table.proofs.Growing.{child_kept, grown_then, longer, numbers_stay}
use Rattle.task_machine.specs.Growing.{IsAt, IsWider, StandFor, StandsFor}

-- a table is no narrower than itself
pub wider_itself : (t : NetworkTable) → IsWhole t → IsWider t t
wider_itself t whole = record { whole = whole; grown = grown_itself t; remembered = λ n. refl; sound = λ live old. old }

-- wider, and then wider
pub wider_then : (s t u : NetworkTable) → IsWider s t → IsWider t u → IsWider s u
wider_then s t u first second = record {
  whole = second.whole;
  grown = grown_then s t u first.grown second.grown;
  remembered = λ n. second.remembered n ∙ first.remembered n;
  sound = λ live old. second.sound live (first.sound live old);
}

-- a table with more networks alone
pub more_wider : (s t : NetworkTable) → IsWhole t → IsMore s t → ((live : Live) → IsSound live s → IsSound live t) → IsWider s t
more_wider s t whole more sound = record {
  whole = whole;
  grown = record {
    children = subst (λ (x : ChildTable). AreKept s.children x) (sym more.children) (grown_itself s).children;
    more = more.more;
    networks = more.networks;
    expansions = λ n e is. more.expansions n ∙ is;
  };
  remembered = more.expansions;
  sound = sound;
}

module _ (s t : NetworkTable) (grown : IsGrown s t) where
  -- a node keeps its number
  pub node_stays : (id : ℕ) → id < length (children s) → (id < length (children t)) × (child_of (children t) id ≡ child_of (children s) id)
  node_stays id known = (longer s.children t.children grown.children id known, child_kept s.children t.children grown.children id known)

  -- what its nodes' numbers stand for stays
  network_stays : (n : Numbered) → IsWithin (children s) n → network_of (children t) n ≡ network_of (children s) n
  network_stays n within =
      ap (λ (l : List Child). record { children = l; order = n.order })
      (map_all (λ id. id < length (children s)) (child_of (children t)) (child_of (children s)) (λ id known. (node_stays id known).1) n.nodes within)

  -- its nodes keep their numbers
  within_stays : (n : Numbered) → IsWithin (children s) n → IsWithin (children t) n
  within_stays n within = all_more (λ id. id < length (children s)) (λ id. id < length (children t)) (λ id known. (node_stays id known).0) n.nodes within

  -- a network by its nodes' numbers stays
  pub stands_still : (n : Numbered) (network : Network) → StandsFor s n network → StandsFor t n network
  stands_still n network stands = (within_stays n stands.0, network_stays n stands.0 ∙ stands.1)

  -- and so do some
  pub stand_still : (ns : List Numbered) (networks : List Network) → StandFor s ns networks → StandFor t ns networks
  stand_still ns networks stand = (
    all_more (IsWithin (children s)) (IsWithin (children t)) within_stays ns stand.0,
    map_all (IsWithin (children s)) (network_of (children t)) (network_of (children s)) network_stays ns stand.0 ∙ stand.1,
  )

  -- a number stands for the same network
  pub at_still : IsWhole s → (n : ℕ) (network : Network) → IsAt s n network → IsAt t n network
  at_still whole n network at = (let stays = numbers_stay s t n whole grown at.0 in (stays.0, stays.1 ∙ at.1))

-- ## One after another

-- one more network by its nodes' numbers
pub stand_push : (t : NetworkTable) (ns : List Numbered) (networks : List Network) (n : Numbered) (network : Network) → StandFor t ns networks → StandsFor t n network
    → StandFor t (ns ++ n ∷ []) (networks ++ network ∷ [])
stand_push t ns networks n network stand stands = (
  All-push (IsWithin (children t)) ns n stand.0 stands.0,
  map_push (network_of (children t)) ns n ∙ ap₂ (λ l x. l ++ x ∷ []) stand.1 stands.1,
)

-- what f makes of one more item
pub map_take_more : {X Y : Type 0} (f : X → Y) (xs : List X) (k : ℕ) (x : X) → k < length xs → x ≡ get_or xs k x → map f (take (k + 1) xs) ≡ map f (take k xs) ++ f x ∷ []
map_take_more f xs k x inside is =
    let e : k + 1 ≡ suc k = omega arith in
    ap (λ j. map f (take j xs)) e ∙ ap (map f) (take-suc xs k x inside) ∙ map_push f (take k xs) (get_or xs k x) ∙ ap (λ y. map f (take k xs) ++ f y ∷ []) (sym is)
