-- What a shard takes of a batch.
use Rattle.std.proofs.Common.{◌≡◌, ℕ, suc, ◌+◌, ◌<◌, ◌≤◌, Bool, true, false, true≢false, ◌&&◌, ◌||◌, not, nat_eq, List, [], ◌∷◌, ◌++◌, length, take, Some, slice_get, get_or, refl, sym, ap, subst, ◌∙◌, inl, inr, arith, append_assoc, length-append, if◌then◌else◌}
use Rattle.std.specs.List.{list_any}
use Rattle.std.specs.Hash.{HashWrites}
use Rattle.std.specs.Cmp.{IsEquivalence}
use Rattle.std.proofs.lemmas.Bool.{cases_lt, eq-eqb, eqb-true}
use Rattle.std.proofs.lemmas.List.{get_or_append_left, get_or-append-add, take-append-le}
use Rattle.std.proofs.Math.Seq.{take-length}
use Rattle.std.proofs.lemmas.List.Folds.{list_any-append}
use Rattle.std.proofs.lemmas.Map.Steps.{list_any_congr}
use Rattle.indexmap.specs.IndexSet.{insert_key}
use Rattle.workers.specs.Shards.{HasTaken, home, is_taken}

-- what is told of one value more
or_last : (a b c : Bool) → ((a || b) || c) ≡ (a || (b || (c || false)))
or_last true b c = refl
or_last false true c = refl
or_last false false true = refl
or_last false false false = refl

-- what is not the one tells nothing
or_none : (a b : Bool) → b ≡ false → a ≡ (a || (b || false))
or_none true b is = refl
or_none false false is = refl
or_none false true is = absurd (true≢false is)

module _ {T : Type 0} (eq : T → T → Bool) (laws : IsEquivalence eq) where
  -- a value is found after an insertion if it was, or is the one that was inserted
  pub any_insert : (v x : T) (keys : List T) → list_any (eq v) (insert_key eq keys x) ≡ (list_any (eq v) keys || eq v x)
  any_insert v x keys = by (list_any (eq x) keys) refl
    where
      alike : (b : Bool) → eq v x ≡ b → list_any (eq x) keys ≡ true → list_any (eq v) keys ≡ (list_any (eq v) keys || b)
      alike false is there = absorbed (list_any (eq v) keys)
        where
          absorbed : (a : Bool) → a ≡ (a || false)
          absorbed true = refl
          absorbed false = refl
      alike true is there =
          let found : list_any (eq v) keys ≡ true = list_any_congr laws v x keys is ∙ there in
          found ∙ ap (λ a. a || true) (sym found)

      by : (b : Bool) → list_any (eq x) keys ≡ b → list_any (eq v) (if b then keys else keys ++ x ∷ []) ≡ (list_any (eq v) keys || eq v x)
      by true is = alike (eq v x) refl is ∙ refl
      by false is = list_any-append (eq v) keys (x ∷ []) ∙ ends (list_any (eq v) keys) (eq v x)
        where
          ends : (a c : Bool) → (a || (c || false)) ≡ (a || c)
          ends true c = refl
          ends false true = refl
          ends false false = refl

-- what was taken goes last
pub grown_by : {T : Type 0} (eq : T → T → Bool) (old new : List T) (x : T) (own : Bool) → (more : List T) × (new ≡ old ++ more)
    → (more : List T) × ((if own then insert_key eq new x else new) ≡ old ++ more)
grown_by eq old new x false grown = grown
grown_by eq old new x true grown = by (list_any (eq x) new)
  where
    by : (b : Bool) → (more : List _) × ((if b then new else new ++ x ∷ []) ≡ old ++ more)
    by true = grown
    by false = (grown.0 ++ x ∷ [], ap (λ l. l ++ x ∷ []) grown.1 ∙ append_assoc old grown.0 (x ∷ []))

module _ {T : Type 0} (eq : T → T → Bool) (laws : IsEquivalence eq) (feed : T → HashWrites) (alike : (x y : T) → eq x y ≡ true → feed x ≡ feed y) (number count : ℕ) where
  -- nothing was taken of nothing
  pub taken_none : (old : List T) → HasTaken eq feed number count [] old old []
  taken_none old = record {
    len = refl;
    any = λ v own. absorbed (list_any (eq v) old);
    new_at = λ i d inside. absurd (omega arith);
  }
    where
      absorbed : (a : Bool) → a ≡ (a || false)
      absorbed true = refl
      absorbed false = refl

  -- and one more value was looked at, which is the shard's own or not
  module _ (batch old new : List T) (is_new : List Bool) (so : HasTaken eq feed number count batch old new is_new) (x : T) where
    -- what the shard has then
    abbrev pub later : Bool → List T
    later own = if own then insert_key eq new x else new

    -- whether the value was taken
    abbrev pub took : Bool → Bool
    took own = if own then not (list_any (eq x) new) else false

    -- what is another shard's is none of this one's
    other : (v : T) → home (feed v) count ≡ number → nat_eq (home (feed x) count) number ≡ false → eq v x ≡ false
    other v here away = by (eq v x) refl
      where
        by : (b : Bool) → eq v x ≡ b → b ≡ false
        by false is = refl
        by true is = absurd (true≢false (sym (eq-eqb (home (feed x) count) number (ap (λ f. home f count) (sym (alike v x is)) ∙ here)) ∙ away))

    -- what is found then
    any_later : (own : Bool) → nat_eq (home (feed x) count) number ≡ own → (v : T) → home (feed v) count ≡ number
        → list_any (eq v) (later own) ≡ (list_any (eq v) old || list_any (eq v) (batch ++ x ∷ []))
    any_later true own v here =
        any_insert eq laws v x new ∙ ap (λ a. a || eq v x) (so.any v here) ∙ or_last (list_any (eq v) old) (list_any (eq v) batch) (eq v x)
        ∙ ap (λ a. list_any (eq v) old || a) (sym (list_any-append (eq v) batch (x ∷ [])))
    any_later false own v here =
        so.any v here ∙ ap (λ a. list_any (eq v) old || a) (or_none (list_any (eq v) batch) (eq v x) (other v here own) ∙ sym (list_any-append (eq v) batch (x ∷ [])))

    -- whether it was taken
    took_so : (own : Bool) → nat_eq (home (feed x) count) number ≡ own → took own ≡ is_taken eq feed number count old batch x
    took_so true own =
        ap not (so.any x (eqb-true (home (feed x) count) number own)) ∙ ap (λ b. b && not (list_any (eq x) old || list_any (eq x) batch)) (sym own)
    took_so false own = ap (λ b. b && not (list_any (eq x) old || list_any (eq x) batch)) (sym own)

    -- then it is so of one value more
    pub taken_more : (own : Bool) → nat_eq (home (feed x) count) number ≡ own
        → HasTaken eq feed number count (batch ++ x ∷ []) old (later own) (is_new ++ took own ∷ [])
    taken_more own is = record {
      len = (let same : length is_new ≡ length batch = so.len in omega (arith, length-append is_new (took own ∷ []), length-append batch (x ∷ [])));
      any = any_later own is;
      new_at = λ i d inside. elim (cases_lt i (length batch)) [
        | inl early ↦ (
            let same : length is_new ≡ length batch = so.len in
            let low : i < length is_new = omega arith in
            let le : i ≤ length batch = omega arith in
            get_or_append_left is_new (took own ∷ []) false i low ∙ so.new_at i d early
            ∙ ap (λ l. is_taken eq feed number count old l (get_or batch i d)) (sym (take-append-le i batch (x ∷ []) le))
            ∙ ap (is_taken eq feed number count old (take i (batch ++ x ∷ []))) (sym (get_or_append_left batch (x ∷ []) d i early)))
        | inr late ↦ (
            let same : length is_new ≡ length batch = so.len in
            let long = length-append batch (x ∷ []) in
            let end : i ≡ length is_new + 0 = omega arith in
            let last : i ≡ length batch + 0 = omega arith in
            let whole : take i (batch ++ x ∷ []) ≡ batch = ap (λ k. take k (batch ++ x ∷ [])) last ∙ take-append-le (length batch + 0) batch (x ∷ []) (omega arith) ∙ ap (λ k. take k batch) (let z : length batch + 0 ≡ length batch = omega arith in z) ∙ take-length batch in
            let here : get_or (batch ++ x ∷ []) i d ≡ x = ap (λ k. get_or (batch ++ x ∷ []) k d) last ∙ get_or-append-add batch (x ∷ []) 0 d in
            ap (λ k. get_or (is_new ++ took own ∷ []) k false) end ∙ get_or-append-add is_new (took own ∷ []) 0 false ∙ took_so own is
            ∙ ap (λ l. is_taken eq feed number count old l x) (sym whole)
            ∙ ap (is_taken eq feed number count old (take i (batch ++ x ∷ []))) (sym here))
      ];
    }
