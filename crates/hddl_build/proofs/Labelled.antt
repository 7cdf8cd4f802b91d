-- Positions by label.
use Rattle.std.proofs.Common.{◌≡◌, ℕ, ◌+◌, ◌≤◌, Bool, true, false, List, [], ◌∷◌, ◌++◌, Some, None, Option, refl, sym, ap, ◌∙◌, cond, nat_lt, eqb, length, arith, subst, ap₂, not, ◌<◌, take, get_or}
use Rattle.std.specs.List.{position, position_or_len}
use Rattle.std.specs.Option.{is_some}
use Rattle.std.specs.Map.{lookup}
use Rattle.std.proofs.lemmas.List.{length-take-le, take_more}
use Rattle.std.proofs.lemmas.Grind.{common_steps}
use Rattle.std.proofs.lemmas.List.Folds.{position_or_len_push}
use Rattle.std.proofs.lemmas.List.Sums.{prefix_len-le-length}
use Rattle.hddl_meaning.specs.Mentions.{Text}
use Rattle.hddl_meaning.specs.Names.{is_same_text}
use Rattle.hddl_meaning.proofs.Listed.{texts_decide}
use Rattle.hddl_build.specs.Labels.{first_of, position_in}
use Rattle.hddl_build.specs.declared.labels.Labels.{Labels}

-- the first of two that may be there, with a test before them
first_step : (b : Bool) (x : ℕ) (l m o : Option ℕ) → m ≡ first_of l o → cond b (Some x) m ≡ first_of (cond b (Some x) l) o
first_step true x l m o e = refl
first_step false x l m o e = e

-- a key is looked up in a table with one entry more at its end
pub lookup_push : {K : Type 0} (t : K → Bool) (es : List (K × ℕ)) (k : K) (v : ℕ) → lookup t (es ++ (k, v) ∷ []) ≡ first_of (lookup t es) (cond (t k) (Some v) None)
lookup_push t [] k v = refl
lookup_push t (e ∷ es) k v = first_step (t e.0) e.1 (lookup t es) (lookup t (es ++ (k, v) ∷ [])) (cond (t k) (Some v) None) (lookup_push t es k v)

-- a search for the first place, one value further
found_step : (n m : ℕ) (b : Bool) → n ≤ m
    → cond (nat_lt (cond (eqb n m) (m + cond b 0 1) n) (m + 1)) (Some (cond (eqb n m) (m + cond b 0 1) n)) None ≡ first_of (cond (nat_lt n m) (Some n) None) (cond b (Some m) None)
found_step n m true h = grind (arith, common_steps)
found_step n m false h = grind (arith, common_steps)

-- nothing after it changes nothing
pub none_more : (o : Option ℕ) → first_of o None ≡ o
none_more None = refl
none_more (Some n) = refl

-- what is there comes first
known_first : (o : Option ℕ) (n : ℕ) → is_some o ≡ true → o ≡ first_of o (Some n)
known_first None n h = absurd cc
known_first (Some k) n h = refl

-- one value more makes a list longer by one
push_size : {X : Type 0} (xs : List X) (y : X) → length (xs ++ y ∷ []) ≡ length xs + 1
push_size xs y = grind (arith, common_steps)

-- the first place that passes, in a list with one value more at its end
pub position_push : {X : Type 0} (p : X → Bool) (xs : List X) (y : X) → position p (xs ++ y ∷ []) ≡ first_of (position p xs) (cond (p y) (Some (length xs)) None)
position_push p xs y =
    ap₂ (λ k n. cond (nat_lt k n) (Some k) None) (position_or_len_push p xs y) (push_size xs y)
    ∙ found_step (position_or_len p xs) (length xs) (p y) (prefix_len-le-length (λ x. not (p x)) xs)

-- a label that is known keeps its position
pub known_stays : (labels : Labels) (label : Text) (n : ℕ) (text : Text) → is_some (position_in labels label) ≡ true
    → position_in labels text ≡ first_of (position_in labels text) (cond (is_same_text text label) (Some n) None)
known_stays labels label n text known = by (is_same_text text label) refl
  where
    by : (b : Bool) → is_same_text text label ≡ b → position_in labels text ≡ first_of (position_in labels text) (cond b (Some n) None)
    by true same =
        let found : is_some (position_in labels text) ≡ true = subst (λ (t : Text). is_some (position_in labels t) ≡ true) (sym ((texts_decide text label).0 same)) known in
        known_first (position_in labels text) n found
    by false same = sym (none_more (position_in labels text))

-- one subtask more
pub position_step : {X : Type 0} (p : X → Bool) (xs : List X) (i : ℕ) (x : X) → i < length xs → x ≡ get_or xs i x
    → first_of (position p (take i xs)) (cond (p x) (Some i) None) ≡ position p (take (i + 1) xs)
position_step p xs i x h at =
    ap (λ n. first_of (position p (take i xs)) (cond (p x) (Some n) None)) (sym (length-take-le i xs (omega arith))) ∙ sym (position_push p (take i xs) x)
    ∙ ap (λ l. position p l) (ap (λ y. take i xs ++ y ∷ []) at ∙ sym (take_more xs i x h))

-- what isn't there is none
pub not_some : {X : Type 0} (o : Option X) → is_some o ≡ false → o ≡ None
not_some None h = refl
not_some (Some x) h = absurd cc
