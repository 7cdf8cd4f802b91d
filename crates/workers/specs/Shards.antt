-- Values in shards.
use Rattle.std.specs.Prelude.{◌≡◌, ℕ, ◌<◌, ◌/◌, ◌%◌, ◌^◌, ◌&&◌, ◌||◌, ◌++◌, Bool, not, nat_eq, false, List, length, take, get_or, fold}
use Rattle.std.specs.List.{list_any}
use Rattle.std.specs.Hash.{HashWrites}
use Rattle.std.specs.Hash.FoldHasher as folding
use Rattle.indexmap.specs.IndexSet.{insert_all}
use Rattle.workers.specs.declared.shard.Shard.{Shard}

-- the number of the shard, out of `count`, of a value that feeds a hasher these writes
abbrev pub home : HashWrites → ℕ → ℕ
home writes count = (folding.finish (fold folding.write folding.initial writes) / 2 ^ 32) % count

module _ {T : Type 0} (eq : T → T → Bool) (feed : T → HashWrites) where
  -- a value that comes after others in a batch is a shard's own, and neither among these nor among the shard's values
  abbrev pub is_taken : ℕ → ℕ → List T → List T → T → Bool
  is_taken number count old before x = nat_eq (home (feed x) count) number && not (list_any (eq x) old || list_any (eq x) before)

  -- a shard that had the old values and has the new ones took from a batch those that were its own and new, as the
  -- flags say
  pub record HasTaken (number count : ℕ) (batch old new : List T) (is_new : List Bool) : Type 0 where
    pub len : length is_new ≡ length batch
    pub any : (v : T) → home (feed v) count ≡ number → list_any (eq v) new ≡ (list_any (eq v) old || list_any (eq v) batch)
    pub new_at : (i : ℕ) (d : T) → i < length batch → get_or is_new i false ≡ is_taken number count old (take i batch) (get_or batch i d)

  -- a shard appended to its values those of a batch that were its own and new, unless memory was refused
  pub record TakesBatch (number count : ℕ) (batch : List T) (old new : Shard T) : Type 0 where
    pub known : new.known ≡ length old.values.keys
    pub grown : (more : List T) × (new.values.keys ≡ old.values.keys ++ more)
    pub taken : new.is_refused ≡ false → HasTaken number count batch old.values.keys new.values.keys new.is_new.items

  -- the values are those of the shards, each in its own shard
  pub record AreSharded (values : List T) (shards : List (Shard T)) : Type 0 where
    pub some : 0 < length shards
    pub agree : (k : ℕ) (d : Shard T) (v : T) → k < length shards → home (feed v) (length shards) ≡ k
        → list_any (eq v) values ≡ list_any (eq v) (get_or shards k d).values.keys

-- by the place in a batch, whether a value is new, where the values are inserted one after another
abbrev pub AreNew : {T : Type 0} → (T → T → Bool) → List T → List T → List Bool → Type 0
AreNew {T} eq values batch is_new =
    (length is_new ≡ length batch)
    × ((i : ℕ) (d : T) → i < length batch → get_or is_new i false ≡ not (list_any (eq (get_or batch i d)) (insert_all eq values (take i batch))))
