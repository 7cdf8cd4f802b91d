use Rattle.std.proofs.Common.{rules, Bool, true, false, cond, append-nil, ◌≡◌, ◌++◌, ◌∷◌, [], ◌∙◌, ap, sym, subst, length, map, get_or, arith, refl, None, All, length-append}
use Rattle.std.proofs.lemmas.List.{map-append}
use Rattle.std.proofs.lemmas.List.Elements.{All-push}
use Rattle.network_table.specs.Numbered.{Numbered, IsWithin}
use Rattle.network_table.specs.Entries.{network_by}
use Rattle.network_table.specs.Networks.{IsMore, bound_of, children}
use Rattle.network_table.specs.declared.table.NetworkTable.{NetworkTable}
use Rattle.network_table.proofs.Expanding.{sound_more}
use Rattle.network_table.proofs.Tables.{none_added}
use Rattle.network_table.proofs.table.NetworkTable.keep_entry.Goals as goal

-- where the network is not new nothing changes
module _ (s t : NetworkTable) (x : Numbered) (b : Bool) (children_are : t.children ≡ s.children) (networks_are : t.networks ≡ cond b (s.networks ++ x ∷ []) s.networks)
    (old : b ≡ false) (expansions_are : t.expansions.items ≡ s.expansions.items) where
  not_more : IsMore s t
  not_more = record {
    children = children_are;
    more = [];
    networks = networks_are ∙ ap (λ c. cond c (s.networks ++ x ∷ []) s.networks) old ∙ sym (append-nil s.networks);
    expansions = λ n. ap (λ l. get_or l n None) expansions_are;
  }

-- where it is new it is one more
module _ (s t : NetworkTable) (x : Numbered) (b : Bool) (children_are : t.children ≡ s.children) (networks_are : t.networks ≡ cond b (s.networks ++ x ∷ []) s.networks)
    (new : b ≡ true) (expansions_are : t.expansions.items ≡ s.expansions.items ++ None ∷ []) where
  one_more : IsMore s t
  one_more = record {
    children = children_are;
    more = x ∷ [];
    networks = networks_are ∙ ap (λ c. cond c (s.networks ++ x ∷ []) s.networks) new;
    expansions = λ n. ap (λ l. get_or l n None) expansions_are ∙ none_added s.expansions.items n;
  }

pub returns-then-not-is_new-clause-more : goal.returns-then-not-is_new-clause-more
returns-then-not-is_new-clause-more c =
    let s = c.args.self.now in
    let x = network_by s.networks c.args.entry in
    let t : NetworkTable = record { children = s.children; networks = c.insert.new.self; open_lens = s.open_lens; bounds = s.bounds; expansions = s.expansions } in
    let old : c.in_ok-place.is_new ≡ false = search rules in
    not_more s t x c.in_ok-place.is_new refl c.in_ok-place.ensures.networks old refl

pub returns-then-not-is_new-clause-sound : goal.returns-then-not-is_new-clause-sound
returns-then-not-is_new-clause-sound c =
    let s = c.args.self.now in
    let x = network_by s.networks c.args.entry in
    let t : NetworkTable = record { children = s.children; networks = c.insert.new.self; open_lens = s.open_lens; bounds = s.bounds; expansions = s.expansions } in
    let old : c.in_ok-place.is_new ≡ false = search rules in
    λ live sound. sound_more live s t c.requires.whole (not_more s t x c.in_ok-place.is_new refl c.in_ok-place.ensures.networks old refl) sound

pub returns-clause-sound : goal.returns-clause-sound
returns-clause-sound c =
    let s = c.args.self.now in
    let x = network_by s.networks c.args.entry in
    let t : NetworkTable = record { children = s.children; networks = c.insert.new.self; open_lens = c.push.new.self; bounds = c.push-2.new.self; expansions = c.push-3.new.self } in
    let new : c.in_ok-place.is_new ≡ true = search rules in
    λ live sound. sound_more live s t c.requires.whole (one_more s t x c.in_ok-place.is_new refl c.in_ok-place.ensures.networks new c.in_ok-push-3.ensures.items) sound

pub returns-clause-whole : goal.returns-clause-whole
returns-clause-whole c =
    let s = c.args.self.now in
    let networks = s.networks in
    let x = network_by networks c.args.entry in
    let whole = c.requires.whole in
    let new : c.in_ok-place.is_new ≡ true = search rules in
    let are : c.insert.new.self ≡ networks ++ x ∷ [] = c.in_ok-place.ensures.networks ∙ ap (λ b. cond b (networks ++ x ∷ []) networks) new in
    let there = c.in_ok-place.ensures.place.1 in
    let len = λ (n : Numbered). length n.nodes in
    record {
      nodes = whole.nodes;
      distinct = c.in_ok-place.ensures.distinct whole.distinct;
      within = subst (λ ns. All (IsWithin (children s)) ns) (sym are) (All-push (IsWithin (children s)) networks x whole.within c.requires.within);
      open_lens = c.in_ok-push.ensures.items ∙ ap (λ l. l ++ c.count_open-open_len.result ∷ []) whole.open_lens
          ∙ ap (λ k. map len networks ++ k ∷ []) (c.count_open-open_len.ensures ∙ ap len there)
          ∙ sym (ap (map len) are ∙ map-append len networks (x ∷ []));
      bounds = c.in_ok-push-2.ensures.items ∙ ap (λ l. l ++ c.sum_open-bound.result ∷ []) whole.bounds
          ∙ ap (λ b. map (bound_of s.children) networks ++ b ∷ []) (c.sum_open-bound.ensures ∙ ap (bound_of s.children) there)
          ∙ sym (ap (map (bound_of s.children)) are ∙ map-append (bound_of s.children) networks (x ∷ []));
      expansions = (
          let longer = ap length c.in_ok-push-3.ensures.items in
          let more = ap length are in
          omega (arith, whole.expansions, longer, more, length-append networks (x ∷ []), length-append s.expansions.items (None ∷ [])));
    }
