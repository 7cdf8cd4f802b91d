-- What shards took of a batch together is what is new.
use Rattle.std.proofs.Common.{◌≡◌, ℕ, zero, suc, ◌+◌, ◌/◌, ◌^◌, ◌<◌, ◌≤◌, Bool, true, false, true≢false, ◌&&◌, ◌||◌, not, nat_eq, List, [], ◌∷◌, ◌++◌, length, take, drop, get_or, All, refl, sym, ap, subst, ◌∙◌, inl, inr, arith, append_assoc, if◌then◌else◌}
use Rattle.std.specs.Prelude.{fold}
use Rattle.std.specs.List.{list_any}
use Rattle.std.specs.Hash.{HashWrites}
use Rattle.std.specs.Hash.FoldHasher as folding
use Rattle.std.specs.Cmp.{IsEquivalence}
use Rattle.std.proofs.lemmas.Bool.{cases_lt, eq-eqb, eqb-true}
use Rattle.std.proofs.lemmas.List.{get_or_append_left, get_or-append-add, take_more}
use Rattle.std.proofs.lemmas.Nat.{mod_below}
use Rattle.std.proofs.lemmas.List.Folds.{list_any_at, list_any_none}
use Rattle.std.proofs.Math.Seq.{take-append_seam}
use Rattle.indexmap.specs.IndexSet.{insert_all, insert_key}
use Rattle.workers.specs.Shards.{AreSharded, HasTaken, TakesBatch, home, is_taken}
use Rattle.workers.specs.declared.shard.Shard.{Shard}
use Rattle.workers.proofs.Taking.{any_insert}

-- one after the other
or_assoc : (a b c : Bool) → ((a || b) || c) ≡ (a || (b || c))
or_assoc true b c = refl
or_assoc false b c = refl

module _ {T : Type 0} (eq : T → T → Bool) (laws : IsEquivalence eq) where
  -- a value is found after insertions if it was, or is one of those that were inserted
  pub any_insert_all : (v : T) (keys xs : List T) → list_any (eq v) (insert_all eq keys xs) ≡ (list_any (eq v) keys || list_any (eq v) xs)
  any_insert_all v keys [] = absorbed (list_any (eq v) keys)
    where
      absorbed : (a : Bool) → a ≡ (a || false)
      absorbed true = refl
      absorbed false = refl
  any_insert_all v keys (x ∷ xs) =
      any_insert_all v (insert_key eq keys x) xs ∙ ap (λ a. a || list_any (eq v) xs) (any_insert eq laws v x keys)
      ∙ or_assoc (list_any (eq v) keys) (eq v x) (list_any (eq v) xs)

-- the last of a batch is inserted last
pub insert_all-push : {T : Type 0} (eq : T → T → Bool) (keys xs : List T) (x : T) → insert_all eq keys (xs ++ x ∷ []) ≡ insert_key eq (insert_all eq keys xs) x
insert_all-push eq keys [] x = refl
insert_all-push eq keys (y ∷ xs) x = insert_all-push eq (insert_key eq keys y) xs x

-- a shard is one of those that there are
home_within : (writes : HashWrites) (count : ℕ) → 0 < count → home writes count < count
home_within writes count some = mod_below (folding.finish (fold folding.write folding.initial writes) / 2 ^ 32) count some

-- where none passes a test, each fails it
each_fails : {X : Type 0} (p : X → Bool) (xs : List X) → list_any p xs ≡ false → (k : ℕ) (d : X) → k < length xs → p (get_or xs k d) ≡ false
each_fails p xs none k d inside = by (p (get_or xs k d)) refl
  where
    by : (b : Bool) → p (get_or xs k d) ≡ b → b ≡ false
    by false is = refl
    by true is = absurd (true≢false (sym (list_any_at p xs k d inside is) ∙ none))

module _ {T : Type 0} (eq : T → T → Bool) (laws : IsEquivalence eq) (feed : T → HashWrites) (values batch : List T) (old new : List (Shard T))
    (sharded : AreSharded eq feed values old) (many : length new ≡ length old)
    (took : (k : ℕ) (d : Shard T) → k < length old → TakesBatch eq feed k (length old) batch (get_or old k d) (get_or new k d))
    (given : list_any (λ (s : Shard T). s.is_refused) new ≡ false) where
  -- what a shard took
  taken_at : (k : ℕ) (d : Shard T) → k < length old → HasTaken eq feed k (length old) batch (get_or old k d).values.keys (get_or new k d).values.keys (get_or new k d).is_new.items
  taken_at k d inside = (took k d inside).taken (each_fails (λ (s : Shard T). s.is_refused) new given k d (omega (arith, many)))

  -- each has looked at the whole batch
  pub marks_long : All (λ (s : Shard T). length s.is_new.items ≡ length batch) new
  marks_long k d inside = (taken_at k d (omega (arith, many))).len

  -- then they are the shards of the values with the batch
  pub sharded_more : AreSharded eq feed (insert_all eq values batch) new
  sharded_more = record {
    some = (let s : 0 < length old = sharded.some in omega (arith, many));
    agree = λ k d v inside here. (
        let within : k < length old = omega (arith, many) in
        let own : home (feed v) (length old) ≡ k = ap (home (feed v)) (sym many) ∙ here in
        any_insert_all eq laws v values batch ∙ ap (λ a. a || list_any (eq v) batch) (sharded.agree k d v within own)
        ∙ sym ((taken_at k d within).any v own));
  }

  -- whether the value at a place is new, by what its own shard had
  abbrev fresh : (i : ℕ) (x : T) → Bool
  fresh i x = not (list_any (eq x) (insert_all eq values (take i batch)))

  -- by a shard's mark
  marked : (k : ℕ) (s : Shard T) (i : ℕ) (d : T) → k < length old → i < length batch
      → get_or (get_or new k s).is_new.items i false ≡ (nat_eq (home (feed (get_or batch i d)) (length old)) k && fresh i (get_or batch i d))
  marked k s i d inside within = (taken_at k s inside).new_at i d within ∙ by (nat_eq (home (feed x) count) k) refl
    where
      x : T
      x = get_or batch i d

      count : ℕ
      count = length old

      by : (b : Bool) → nat_eq (home (feed x) count) k ≡ b
          → (nat_eq (home (feed x) count) k && not (list_any (eq x) (get_or old k s).values.keys || list_any (eq x) (take i batch))) ≡ (nat_eq (home (feed x) count) k && fresh i x)
      by false is = ap (λ b. b && not (list_any (eq x) (get_or old k s).values.keys || list_any (eq x) (take i batch))) is ∙ sym (ap (λ b. b && fresh i x) is)
      by true is =
          ap (λ a. nat_eq (home (feed x) count) k && not (a || list_any (eq x) (take i batch))) (sym (sharded.agree k s x inside (eqb-true (home (feed x) count) k is)))
          ∙ ap (λ a. nat_eq (home (feed x) count) k && not a) (sym (any_insert_all eq laws x values (take i batch)))

  -- a value is new by the marks if it is by all that came before it
  pub new_so : (i : ℕ) (d : T) → i < length batch → list_any (λ (s : Shard T). get_or s.is_new.items i false) new ≡ fresh i (get_or batch i d)
  new_so i d within = by (fresh i x) refl
    where
      x : T
      x = get_or batch i d

      count : ℕ
      count = length old

      p : Shard T → Bool
      p s = get_or s.is_new.items i false

      first : (ss : List (Shard T)) → 0 < length ss → Shard T
      first [] some = absurd (omega arith)
      first (s ∷ ss) some = s

      by : (b : Bool) → fresh i x ≡ b → list_any p new ≡ b
      by false is = list_any_none p new (λ k s inside. marked k s i d (omega (arith, many)) within ∙ ap (λ b. nat_eq (home (feed x) count) k && b) is ∙ never (nat_eq (home (feed x) count) k))
        where
          never : (a : Bool) → (a && false) ≡ false
          never true = refl
          never false = refl
      by true is =
          let some : 0 < length old = sharded.some in
          let s = first new (omega (arith, many)) in
          let k = home (feed x) count in
          let inside : k < length old = home_within (feed x) count some in
          list_any_at p new k s (omega (arith, many))
          (marked k s i d inside within ∙ ap (λ b. nat_eq k k && b) is ∙ ap (λ b. b && true) (eq-eqb k k refl))

module _ {T : Type 0} (eq : T → T → Bool) (old batch : List T) where
  -- what was pushed goes last
  pub pushed_last : (values : List T) (x : T) (b : Bool) → (more : List T) × (values ≡ old ++ more)
      → (more : List T) × ((if b then values ++ x ∷ [] else values) ≡ old ++ more)
  pushed_last values x false grown = grown
  pushed_last values x true grown = (grown.0 ++ x ∷ [], ap (λ l. l ++ x ∷ []) grown.1 ∙ append_assoc old grown.0 (x ∷ []))

  -- a value that is pushed if it is new is inserted
  pub pushed_so : (place : ℕ) (d : T) → place < length batch → (values : List T) → values ≡ insert_all eq old (take place batch) → (b : Bool)
      → b ≡ not (list_any (eq (get_or batch place d)) (insert_all eq old (take place batch)))
      → (if b then values ++ get_or batch place d ∷ [] else values) ≡ insert_all eq old (take (place + 1) batch)
  pushed_so place d inside values so b is =
      by (list_any (eq x) before) refl ∙ sym (insert_all-push eq old (take place batch) x) ∙ ap (insert_all eq old) (sym (take_more batch place d inside))
    where
      x : T
      x = get_or batch place d

      before : List T
      before = insert_all eq old (take place batch)

      by : (c : Bool) → list_any (eq x) before ≡ c → (if b then values ++ x ∷ [] else values) ≡ insert_key eq before x
      by true there =
          ap (λ f. if f then values ++ x ∷ [] else values) (is ∙ ap not there) ∙ so ∙ sym (ap (λ f. if f then before else before ++ x ∷ []) there)
      by false none =
          ap (λ f. if f then values ++ x ∷ [] else values) (is ∙ ap not none) ∙ ap (λ l. l ++ x ∷ []) so ∙ sym (ap (λ f. if f then before else before ++ x ∷ []) none)

  -- so are the marks of one more
  pub marked_more : (place : ℕ) (marks : List Bool) (b : Bool) → length marks ≡ place
      → ((d : T) → b ≡ not (list_any (eq (get_or batch place d)) (insert_all eq old (take place batch))))
      → ((i : ℕ) (d : T) → i < place → get_or marks i false ≡ not (list_any (eq (get_or batch i d)) (insert_all eq old (take i batch))))
      → (i : ℕ) (d : T) → i < place + 1 → get_or (marks ++ b ∷ []) i false ≡ not (list_any (eq (get_or batch i d)) (insert_all eq old (take i batch)))
  marked_more place marks b long here so i d inside = elim (cases_lt i place) [
    | inl early ↦ get_or_append_left marks (b ∷ []) false i (omega (arith, long)) ∙ so i d early
    | inr late ↦ (
        let end : i ≡ length marks + 0 = omega (arith, long) in
        let same : place ≡ i = omega arith in
        ap (λ k. get_or (marks ++ b ∷ []) k false) end ∙ get_or-append-add marks (b ∷ []) 0 false
        ∙ subst (λ k. b ≡ not (list_any (eq (get_or batch k d)) (insert_all eq old (take k batch)))) same (here d))
  ]

-- a slice of a whole list, written back
pub written_back : {X : Type 0} (n : ℕ) (xs ys : List X) → length xs ≡ n → take n (xs ++ drop (length xs) ys) ≡ xs
written_back n xs ys long = ap (λ k. take k (xs ++ drop (length xs) ys)) (sym long) ∙ take-append_seam xs (drop (length xs) ys)

module _ {T : Type 0} (eq : T → T → Bool) (feed : T → HashWrites) where
  -- shards without values
  pub sharded_none : (shards : List (Shard T)) → 0 < length shards → All (λ (s : Shard T). s.values.keys ≡ []) shards → AreSharded eq feed [] shards
  sharded_none shards some none = record {
    some = some;
    agree = λ k d v inside here. sym (ap (list_any (eq v)) (none k d inside));
  }

  -- once what was taken is given back, they are what they were
  pub sharded_back : (values batch : List T) (old new back : List (Shard T)) → AreSharded eq feed values old → length new ≡ length old → length back ≡ length new
      → ((k : ℕ) (d : Shard T) → k < length old → TakesBatch eq feed k (length old) batch (get_or old k d) (get_or new k d))
      → ((k : ℕ) (d : Shard T) → k < length new → (get_or back k d).values.keys ≡ take (get_or new k d).known (get_or new k d).values.keys)
      → AreSharded eq feed values back
  sharded_back values batch old new back sharded many all took gave = record {
    some = (let s : 0 < length old = sharded.some in omega (arith, many, all));
    agree = λ k d v inside here. (
        let within : k < length old = omega (arith, many, all) in
        let middle : k < length new = omega (arith, all) in
        let t = took k d within in
        let same : length back ≡ length old = all ∙ many in
        sharded.agree k d v within (ap (home (feed v)) (sym same) ∙ here)
        ∙ ap (list_any (eq v)) (sym (gave k d middle ∙ ap (λ n. take n (get_or new k d).values.keys) t.known
        ∙ ap (take (length (get_or old k d).values.keys)) t.grown.1 ∙ take-append_seam (get_or old k d).values.keys t.grown.0)));
  }

-- shards that have what they had are those of the same values
pub sharded_same : {T : Type 0} (eq : T → T → Bool) (feed : T → HashWrites) (values : List T) (old new : List (Shard T)) → AreSharded eq feed values old → length new ≡ length old
    → ((k : ℕ) (d : Shard T) → (get_or new k d).values.keys ≡ (get_or old k d).values.keys) → AreSharded eq feed values new
sharded_same eq feed values old new sharded many same = record {
  some = (let s : 0 < length old = sharded.some in omega (arith, many));
  agree = λ k d v inside here. sharded.agree k d v (omega (arith, many)) (ap (home (feed v)) (sym many) ∙ here) ∙ sym (ap (list_any (eq v)) (same k d));
}
