-- The pairs of a network are positions of its subtasks.
use Rattle.std.proofs.Common.{◌≡◌, ℕ, ◌<◌, Bool, List, [], ◌∷◌, ◌++◌, Some, None, Option, length, arith, ap, refl, cond, nat_lt, true, false, zero, suc}
use borrow.Author.Tests.{ltb-true}
use Rattle.std.specs.List.{All, flat_map, position, position_or_len}
use Rattle.std.proofs.lemmas.List.Elements.{All-append}
use Rattle.htn_order.specs.Closure.{AreBelow}
use Rattle.hddl_words.specs.declared.network.NetworkText.{NetworkText}
use Rattle.hddl_words.specs.declared.network.SubtaskText.{SubtaskText}
use Rattle.hddl_meaning.specs.Mentions.{folded}
use Rattle.hddl_meaning.specs.Networks.{is_text, labelled, order_pairs, pair_of, written_pairs}
use Rattle.htn_order.specs.Closure.{successors}

-- what holds of each list's values holds of all joined
all_flat : {X Y : Type 0} (P : Y → Type 0) (f : X → List Y) (xs : List X) → ((x : X) → All P (f x)) → All P (flat_map f xs)
all_flat P f [] each = λ k d h. absurd (omega arith)
all_flat P f (x ∷ xs) each = All-append P (f x) (flat_map f xs) (each x) (all_flat P f xs each)

-- a position is below the length
position_below : {X : Type 0} (p : X → Bool) (xs : List X) (k : ℕ) → position p xs ≡ Some k → k < length xs
position_below p xs k e = by (nat_lt (position_or_len p xs) (length xs)) refl e
  where
    by : (b : Bool) → nat_lt (position_or_len p xs) (length xs) ≡ b → cond b (Some (position_or_len p xs)) None ≡ Some k → k < length xs
    by true test found = let same : position_or_len p xs ≡ k = cc in rw (← same) (ltb-true _ _ test)
    by false test found = absurd cc

-- a pair of numbers below n is below n
one_below : (n a b : ℕ) → a < n → b < n → AreBelow n ((a, b) ∷ [])
one_below n a b h j zero d k = (h, j)
one_below n a b h j (suc i) d k = absurd (omega arith)

-- no pairs are below n
none_below : (n : ℕ) → AreBelow n []
none_below n k d h = absurd (omega arith)

-- a pair that is there only if both numbers are is below n if they are
pair_below : (n : ℕ) (a b : Option ℕ) → ((k : ℕ) → a ≡ Some k → k < n) → ((k : ℕ) → b ≡ Some k → k < n) → AreBelow n (pair_of a b)
pair_below n (Some x) (Some y) a b = one_below n x y (a x refl) (b y refl)
pair_below n (Some x) None a b = none_below n
pair_below n None y a b = none_below n

-- the written orderings pair positions of subtasks
pub written_below : (n : NetworkText) → AreBelow (length n.subtasks) (written_pairs n)
written_below n =
    all_flat (λ p. (p.0 < length n.subtasks) × (p.1 < length n.subtasks)) (λ o. pair_of (labelled n o.before) (labelled n o.after)) n.orderings
    (λ o. pair_below (length n.subtasks) (labelled n o.before) (labelled n o.after) (λ k e. position_below (λ (s : SubtaskText). is_text (folded o.before.text) s.label) n.subtasks k e)
    (λ k e. position_below (λ (s : SubtaskText). is_text (folded o.after.text) s.label) n.subtasks k e))

-- in a sequence the pairs are each position with the next, and the written ones
pub ordered_pairs : (n : NetworkText) → n.is_ordered ≡ true → order_pairs n ≡ successors (length n.subtasks) ++ written_pairs n
ordered_pairs n h = ap (λ b. cond b (successors (length n.subtasks)) [] ++ written_pairs n) h

-- otherwise the pairs are the written ones
pub unordered_pairs : (n : NetworkText) → n.is_ordered ≡ false → order_pairs n ≡ written_pairs n
unordered_pairs n h = ap (λ b. cond b (successors (length n.subtasks)) [] ++ written_pairs n) h
