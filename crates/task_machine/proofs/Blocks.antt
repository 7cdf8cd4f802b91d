-- Networks are expanded block by block.
use Rattle.std.proofs.Common.{◌≡◌, ◌∙◌, ℕ, suc, ◌+◌, ◌<◌, ◌≤◌, Bool, true, false, List, [], ◌∷◌, ◌++◌, All, Contains, Option, Some, None, IsSome, arith, get_or, is_some, length, nat_eq, if◌then◌else◌, ap, ap₂, sym, subst, map, take, refl, true≢false, append-nil, append_assoc}
use Rattle.std.proofs.Math.Seq.{take-suc}
use Rattle.std.specs.List.{list_any}
use Rattle.std.proofs.lemmas.Bool.{eqb-true}
use Rattle.std.proofs.lemmas.List.{length-append, map-append, map_push, take_all}
use Rattle.std.proofs.lemmas.List.Elements.{All-append, All-cons, All-contains, All-head, All-map, All-nil, All-push, All-tail, All-take, Contains-append_left}
use Rattle.std.proofs.lemmas.Option.{none-some}
use Rattle.htn_model.specs.Task.{Task}
use Rattle.indexmap.specs.IndexSet.{insert_key}
use Rattle.indexmap.proofs.CallerLemmas.{Contains-insert_key}
use Rattle.heuristics.specs.declared.prospects.Prospects.{Prospects}
use Rattle.network_table.specs.Expansions.{AreInstances, first_free}
use Rattle.network_table.specs.Networks.{children, expansion_at, IsGrown, IsWhole, Knows}
use Rattle.network_table.specs.Numbered.{IsWithin, Numbered}
use Rattle.network_table.specs.declared.draft.Job.{Job}
use Rattle.network_table.specs.declared.expansion.Expansion.{Expansion}
use Rattle.network_table.specs.declared.table.NetworkTable.{NetworkTable}
use Rattle.network_table.proofs.Expanding.{all_more, map_two}
use Rattle.network_table.proofs.Growing.{numbers_stay}
use Rattle.heuristics.specs.declared.tree_sizes.TreeSizes.{TreeSizes}
use Rattle.word_machine.proofs.Diving.{all_inserted}
use Rattle.task_machine.specs.Blocks.{AreListed, IsFirst, IsListed, IsPart, job_view, listed_for, listed_job, networks_of}
use Rattle.task_machine.specs.Owned.{AreOwned}
use Rattle.task_machine.specs.Steps.{live_networks}
use Rattle.task_machine.specs.Tables.{AreLater, AreTables, listed_at, slot}
use Rattle.task_machine.specs.declared.configuration.Configuration.{Configuration}
use Rattle.task_machine.specs.declared.listing.Listing.{Listing}
use Rattle.task_machine.specs.declared.prepare_all.Listed.{Listed}
use Rattle.task_machine.specs.declared.prepare_all.Part.{Part}
use Rattle.task_machine.specs.declared.tables.Tables.{Tables}
use Rattle.task_machine.proofs.Owned.{first_stays, later_tables_itself, later_tables_then, listed_right}

-- what holds of all that f makes of some items
pub all_of_map : {X Y : Type 0} (P : Y → Type 0) (f : X → Y) (xs : List X) → All P (map f xs) → All (λ x. P (f x)) xs
all_of_map P f [] all = All-nil (λ x. P (f x))
all_of_map P f (x ∷ xs) all = All-cons (λ x. P (f x)) x xs (All-head P (f x) (map f xs) all) (all_of_map P f xs (All-tail P (f x) (map f xs) all))

-- ## What is noted

-- what holds of all that were noted and of one more holds of all
pub noted_all : (P : ℕ → Type 0) (there : Bool) (keys : List ℕ) (n : ℕ) → All P keys → P n → All P (if there then keys else insert_key nat_eq keys n)
noted_all P true keys n all own = all
noted_all P false keys n all own = all_inserted nat_eq P keys n all own

-- what was noted still is
pub noted_stays : (there : Bool) (keys : List ℕ) (n m : ℕ) → Contains keys m → Contains (if there then keys else insert_key nat_eq keys n) m
noted_stays true keys n m has = has
noted_stays false keys n m has = by (list_any (nat_eq n) keys)
  where
    by : (b : Bool) → Contains (if b then keys else keys ++ n ∷ []) m
    by true = has
    by false = Contains-append_left keys (n ∷ []) m has

-- a network is noted where its expansion is not known
pub noted_there : (e : Option Expansion) (keys : List ℕ) (n : ℕ) → e ≡ None → Contains (if is_some e then keys else insert_key nat_eq keys n) n
noted_there None keys n none = Contains-insert_key nat_eq (λ x y same. eqb-true x y same) keys n
noted_there (Some e) keys n none = absurd (none-some e (sym none))

-- the expansion of each network is known, if it was before or the network was noted
pub all_ready : (old new : NetworkTable) → IsGrown old new → (keys : List ℕ) (at : List Configuration)
    → All (λ (c : Configuration). expansion_at old c.network ≡ None → Contains keys c.network) at
    → All (λ n. IsSome (expansion_at new n)) keys → All (λ (c : Configuration). IsSome (expansion_at new c.network)) at
all_ready old new grown keys at noted ready =
    all_more (λ (c : Configuration). expansion_at old c.network ≡ None → Contains keys c.network) (λ (c : Configuration). IsSome (expansion_at new c.network))
    (λ c has. by c.network (expansion_at old c.network) refl has) at noted
  where
    by : (n : ℕ) (o : Option Expansion) → expansion_at old n ≡ o → (expansion_at old n ≡ None → Contains keys n) → IsSome (expansion_at new n)
    by n None is has = All-contains (λ m. IsSome (expansion_at new m)) keys n ready (has is)
    by n (Some e) is has = subst (λ (o : Option Expansion). IsSome o) (sym (grown.expansions n e is)) refl

-- what was known stays known
pub ready_stays : (old new : NetworkTable) → IsGrown old new → (n : ℕ) → IsSome (expansion_at old n) → IsSome (expansion_at new n)
ready_stays old new grown n there = by (expansion_at old n) refl there
  where
    by : (o : Option Expansion) → expansion_at old n ≡ o → IsSome o → IsSome (expansion_at new n)
    by None is some = absurd (true≢false (sym some))
    by (Some e) is some = subst (λ (o : Option Expansion). IsSome o) (sym (grown.expansions n e is)) refl

-- networks keep their numbers
pub all_known_later : (old new : NetworkTable) → IsWhole old → IsGrown old new → (ns : List ℕ) → All (Knows old) ns → All (Knows new) ns
all_known_later old new whole grown ns known =
    all_more (Knows old) (Knows new) (λ n own. (numbers_stay old new n whole grown own).0) ns known

-- ## Parts of a block

-- the node that is listed is the network's first free compound task
abbrev pub IsRight : NetworkTable → Listed → Type 0
IsRight networks l = IsFirst networks l.network l.node

-- one more of the block
taken_more : (block taken : List ℕ) (n x d : ℕ) → n < length block → x ≡ get_or block n d → taken ≡ take n block → taken ++ x ∷ [] ≡ take (n + 1) block
taken_more block taken n x d low is same =
    let next : n + 1 ≡ suc n = omega arith in
    ap₂ (λ l y. l ++ y ∷ []) same is ∙ sym (ap (λ j. take j block) next ∙ take-suc block n d low)

-- one more of the networks
networks_more : (old new : List Listed) (l : Listed) → new ≡ old ++ l ∷ [] → networks_of new ≡ networks_of old ++ l.network ∷ []
networks_more old new l pushed = ap networks_of pushed ∙ map_push (λ (x : Listed). x.network) old l

-- there is one more
one_longer : (old new : List Listed) (l : Listed) → new ≡ old ++ l ∷ [] → length new ≡ length old + 1
one_longer old new l pushed = let long = length-append old (l ∷ []) in let is = ap length pushed in omega (arith, long, is)

module _ (networks : NetworkTable) (block : List ℕ) where
  -- nothing is a part at any place
  pub part_none : (first : ℕ) (listed : List Listed) → listed ≡ []
      → (take first block ++ networks_of listed ≡ take (first + length listed) block) × All (IsRight networks) listed
  part_none first listed none =
      let end : first ≡ first + length listed = (let is = ap length none in omega (arith, is)) in (
        ap (λ l. take first block ++ networks_of l) none ∙ append-nil (take first block) ∙ ap (λ j. take j block) end,
        subst (All (IsRight networks)) (sym none) (All-nil (IsRight networks)),
      )

  -- and so it is with one more network
  pub part_more : (first place : ℕ) (old new : List Listed) (l : Listed) (d : ℕ) → first + length old ≡ place → place < length block → l.network ≡ get_or block place d → IsRight networks l
      → new ≡ old ++ l ∷ [] → (take first block ++ networks_of old ≡ take (first + length old) block) × All (IsRight networks) old
      → (take first block ++ networks_of new ≡ take (first + length new) block) × All (IsRight networks) new
  part_more first place old new l d at low is right pushed part =
      let end : place + 1 ≡ first + length new = (let long = one_longer old new l pushed in omega (arith, at, long)) in (
        ap (λ k. take first block ++ k) (networks_more old new l pushed) ∙ sym (append_assoc (take first block) (networks_of old) (l.network ∷ []))
            ∙ taken_more block (take first block ++ networks_of old) place l.network d low is (part.0 ∙ ap (λ j. take j block) at)
            ∙ ap (λ j. take j block) end,
        subst (All (IsRight networks)) (sym pushed) (All-push (IsRight networks) old l part.1 right),
      )

  -- nothing is listed first
  pub listed_nothing : (listed : List Listed) → listed ≡ [] → AreListed networks block listed
  listed_nothing listed none = subst (AreListed networks block) (sym none) (by block, All-nil (IsRight networks))
    where
      by : (b : List ℕ) → [] ≡ take 0 b
      by [] = refl
      by (n ∷ b) = refl

  -- then one more
  pub listed_more : (place : ℕ) (old new : List Listed) (l : Listed) (d : ℕ) → length old ≡ place → place < length block → l.network ≡ get_or block place d → IsRight networks l
      → new ≡ old ++ l ∷ [] → AreListed networks block old → AreListed networks block new
  listed_more place old new l d at low is right pushed listed =
      let end : place + 1 ≡ length new = (let long = one_longer old new l pushed in omega (arith, at, long)) in (
        networks_more old new l pushed ∙ taken_more block (networks_of old) place l.network d low is (listed.0 ∙ ap (λ j. take j block) at) ∙ ap (λ j. take j block) end,
        subst (All (IsRight networks)) (sym pushed) (All-push (IsRight networks) old l listed.1 right),
      )

  -- or what comes next
  pub listed_append : (old new : List Listed) (part : Part) → length old ≡ part.first → new ≡ old ++ part.listed.items → AreListed networks block old → IsPart networks block part → AreListed networks block new
  listed_append old new part at is listed next =
      let more = part.listed.items in
      let end : part.first + length more ≡ length new = (let long = length-append old more in let same = ap length is in omega (arith, at, long, same)) in (
        ap networks_of is ∙ map-append (λ (x : Listed). x.network) old more ∙ ap (λ l. l ++ networks_of more) (listed.0 ∙ ap (λ j. take j block) at) ∙ next.0 ∙ ap (λ j. take j block) end,
        subst (All (IsRight networks)) (sym is) (All-append (IsRight networks) old more listed.1 next.1),
      )

  -- at last all are
  pub listed_all : (listed : List Listed) → length block ≤ length listed → AreListed networks block listed → networks_of listed ≡ block
  listed_all listed enough are = are.0 ∙ take_all (length listed) block enough

-- ## What is listed

-- a network's first free compound task is so in later tables
pub first_later : (old new : NetworkTable) → IsWhole old → IsGrown old new → (network : ℕ) (node : Option ℕ) → Knows old network → IsFirst old network node → IsFirst new network node
first_later old new whole grown network None known first = ap first_free (numbers_stay old new network whole grown known).1 ∙ first
first_later old new whole grown network (Some node) known first = first_stays old new network node whole grown known first

-- where there is none nothing has to be listed
pub listed_none : (s : Tables) (network : ℕ) (node : Option ℕ) → node ≡ None → IsFirst s.networks network node → IsListed s network node
listed_none s network o none first = subst (IsListed s network) (sym none) (subst (IsFirst s.networks network) none first)

-- where there is one its instances are
pub listed_some : (old new : Tables) → IsWhole old.networks → AreLater old new → (network : ℕ) (node : Option ℕ) (id : ℕ) → node ≡ Some id → Knows old.networks network
    → IsFirst old.networks network node → IsSome (slot new.instances.items id) → IsListed new network node
listed_some old new whole later network o id some known first there =
    subst (IsListed new network) (sym some)
    (first_stays old.networks new.networks network id whole later.networks known (subst (IsFirst old.networks network) some first), there)

-- the first ones of those whose networks have numbers
pub known_taken : (networks : NetworkTable) (found : List Listed) (k : ℕ) → All (Knows networks) (networks_of found) → All (Knows networks) (networks_of (take k found))
known_taken networks found k known =
    let P : Listed → Type 0 = λ l. Knows networks l.network in
    All-map (Knows networks) (λ (l : Listed). l.network) (take k found) (All-take P k found (all_of_map (Knows networks) (λ (l : Listed). l.network) found known))

-- it stays listed in later tables that keep what is listed
pub listed_stays : (t : Task) (old new : Tables) → AreTables t old → AreLater old new
    → ((n : ℕ) → IsSome (slot old.instances.items n) → IsSome (slot new.instances.items n))
    → (network : ℕ) (node : Option ℕ) → Knows old.networks network → IsListed old network node → IsListed new network node
listed_stays t old new own later kept network None known listed =
    ap first_free (numbers_stay old.networks new.networks network own.networks later.networks known).1 ∙ listed
listed_stays t old new own later kept network (Some node) known listed = (
  first_stays old.networks new.networks network node own.networks later.networks known listed.0,
  kept node listed.1,
)

-- and so it is with many
pub all_listed_stay : (t : Task) (old new : Tables) → AreTables t old → AreLater old new
    → ((n : ℕ) → IsSome (slot old.instances.items n) → IsSome (slot new.instances.items n))
    → (found : List Listed) → All (Knows old.networks) (map (λ (l : Listed). l.network) found)
    → All (λ (l : Listed). IsListed old l.network l.node) found → All (λ (l : Listed). IsListed new l.network l.node) found
all_listed_stay t old new own later kept found known listed = λ k d inside.
    let numbered = all_of_map (Knows old.networks) (λ (l : Listed). l.network) found known in
    let l = get_or found k d in
    listed_stays t old new own later kept l.network l.node (numbered k d inside) (listed k d inside)

-- what is listed are the network's instances, by nodes that have numbers
pub listed_fits : (t : Task) (s : Tables) → AreTables t s → (network : ℕ) (node : Option ℕ) → IsListed s network node
    → All (IsWithin (children s.networks)) (listed_for s.instances.items node) × AreInstances (live_networks t) s.networks network (listed_for s.instances.items node)
listed_fits t s own network None none = (
  All-nil (IsWithin (children s.networks)),
  λ position goal first stands. absurd (none-some position (sym none ∙ first)),
)
listed_fits t s own network (Some node) listed =
    listed_right t s.networks network node listed.0 s.instances.items own.instances listed.1 (listed_at s.instances.items node) refl

-- the jobs of what is listed, as slices
pub made_jobs : (listings seen : List (Option Listing)) (found given : List Listed) (jobs all : List Job) → seen ≡ listings → given ≡ found → all ≡ jobs
    → map job_view jobs ≡ map (listed_job seen) given → map job_view all ≡ map (listed_job listings) found
made_jobs listings seen found given jobs all here there same made =
    ap (map job_view) same ∙ made ∙ ap₂ (λ (l : List (Option Listing)) (xs : List Listed). map (listed_job l) xs) here there

module _ (t : Task) (s : Tables) (own : AreTables t s) (block : List ℕ) (found : List Listed) (jobs : List Job)
    (networks : map (λ (l : Listed). l.network) found ≡ block) (known : All (Knows s.networks) block)
    (listed : All (λ (l : Listed). IsListed s l.network l.node) found) (made : map job_view jobs ≡ map (listed_job s.instances.items) found) where
  -- what holds of what is listed holds of the jobs
  of_jobs : (P : ℕ × List Numbered → Type 0) → All (λ (l : Listed). P (listed_job s.instances.items l)) found → All (λ (j : Job). P (job_view j)) jobs
  of_jobs P all = all_of_map P job_view jobs (subst (All P) (sym made) (All-map P (listed_job s.instances.items) found all))

  -- the jobs' networks have numbers
  pub jobs_known : All (λ (j : Job). Knows s.networks j.network) jobs
  jobs_known = of_jobs (λ p. Knows s.networks p.0) (all_of_map (Knows s.networks) (λ (l : Listed). l.network) found (subst (All (Knows s.networks)) (sym networks) known))

  -- and their instances' nodes
  pub jobs_within : All (λ (j : Job). All (IsWithin (children s.networks)) j.instances.now) jobs
  jobs_within =
      of_jobs (λ p. All (IsWithin (children s.networks)) p.1)
      (all_more (λ (l : Listed). IsListed s l.network l.node) (λ (l : Listed). All (IsWithin (children s.networks)) (listed_for s.instances.items l.node))
      (λ l own_listed. (listed_fits t s own l.network l.node own_listed).0) found listed)

  -- they are the networks' instances
  pub jobs_right : All (λ (j : Job). AreInstances (live_networks t) s.networks j.network j.instances.now) jobs
  jobs_right =
      of_jobs (λ p. AreInstances (live_networks t) s.networks p.0 p.1)
      (all_more (λ (l : Listed). IsListed s l.network l.node) (λ (l : Listed). AreInstances (live_networks t) s.networks l.network (listed_for s.instances.items l.node))
      (λ l own_listed. (listed_fits t s own l.network l.node own_listed).1) found listed)

  -- the jobs' networks are the block
  jobs_networks : map (λ (j : Job). j.network) jobs ≡ block
  jobs_networks =
      map_two (λ (j : Job). j.network) job_view (λ (p : ℕ × List Numbered). p.0) (λ j. refl) jobs ∙ ap (map (λ (p : ℕ × List Numbered). p.0)) made
      ∙ sym (map_two (λ (l : Listed). l.network) (listed_job s.instances.items) (λ (p : ℕ × List Numbered). p.0) (λ l. refl) found) ∙ networks

  -- what holds of the block holds of them
  pub jobs_of_block : (P : ℕ → Type 0) → All P block → All (λ (j : Job). P j.network) jobs
  jobs_of_block P all = all_of_map P (λ (j : Job). j.network) jobs (subst (All P) (sym jobs_networks) all)

  -- and the other way round
  pub block_of_jobs : (P : ℕ → Type 0) → All (λ (j : Job). P j.network) jobs → All P block
  block_of_jobs P all = subst (All P) jobs_networks (All-map P (λ (j : Job). j.network) jobs all)

-- ## Block by block

-- the tables are right, and the expansions of all networks but the rest are known
pub record ArePrepared (t : Task) (sizes : TreeSizes) (known : Prospects) (old new : Tables) (all rest : List ℕ) : Type 0 where
  pub owned : AreOwned t sizes known new
  pub later : AreLater old new
  pub done : List ℕ
  pub parts : done ++ rest ≡ all
  pub ready : All (λ n. IsSome (expansion_at new.networks n)) done
  pub numbered : All (Knows new.networks) rest

module _ (t : Task) (sizes : TreeSizes) (known : Prospects) where
  -- at first of none
  pub prepared_none : (s : Tables) (all : List ℕ) → AreOwned t sizes known s → All (Knows s.networks) all → ArePrepared t sizes known s s all all
  prepared_none s all owned numbered = record {
    owned = owned;
    later = later_tables_itself t s owned.tables;
    done = [];
    parts = refl;
    ready = All-nil (λ n. IsSome (expansion_at s.networks n));
    numbered = numbered;
  }

  -- then of one more block
  pub prepared_next : (old now new : Tables) (all rest block later : List ℕ) → ArePrepared t sizes known old now all rest
      → AreLater now new → AreOwned t sizes known new → rest ≡ block ++ later → All (Knows now.networks) later
      → All (λ n. IsSome (expansion_at new.networks n)) block → ArePrepared t sizes known old new all later
  prepared_next old now new all rest block later own grown owned parts numbered ready =
      let has : ℕ → Type 0 = λ n. IsSome (expansion_at new.networks n) in
      record {
        owned = owned;
        later = later_tables_then old now new own.later grown;
        done = own.done ++ block;
        parts = append_assoc own.done block later ∙ ap (λ l. own.done ++ l) (sym parts) ∙ own.parts;
        ready = All-append has own.done block
            (all_more (λ n. IsSome (expansion_at now.networks n)) has (ready_stays now.networks new.networks grown.networks) own.done own.ready) ready;
        numbered = all_known_later now.networks new.networks own.owned.tables.networks grown.networks later numbered;
      }

  -- and at last of all
  pub prepared_all : (old new : Tables) (all rest : List ℕ) → ArePrepared t sizes known old new all rest → rest ≡ [] → All (λ n. IsSome (expansion_at new.networks n)) all
  prepared_all old new all rest own none =
      subst (All (λ n. IsSome (expansion_at new.networks n))) (sym (append-nil own.done) ∙ ap (λ l. own.done ++ l) (sym none) ∙ own.parts) own.ready
