-- Searches that compute on sketched problems: the least finishing word, and that none finishes.
use Rattle.std.proofs.Common.{◌≡◌, ℕ, zero, suc, ◌+◌, ◌<◌, ◌≤◌, Bool, true, false, not, ◌&&◌, List, [], ◌∷◌, length, slice_get, Option, Some, None, option_map, ◌⊎◌, inl, inr, refl, sym, ap, ◌∙◌, subst, arith}
use Rattle.std.specs.Prelude.{leb}
use Rattle.std.proofs.lemmas.Bool.{both_ways, and_parts, and_from, cases_lt, cases_order, leb-true}
use Rattle.std.proofs.lemmas.Option.{slice_get_within}
use Rattle.htn_model.specs.Problem.{Network, IsGrounded}
use Rattle.htn_model.specs.Tree.{Solution, IsSolution}
use Rattle.htn_model.specs.Choice.{is_empty}
use Rattle.htn_model.specs.Code.{IsCode}
use Rattle.htn_model.specs.Machine.{Config, IsDone, FinishesFrom, Finishes, result_of, step_by}
use Rattle.htn_model.specs.Answer.{IsNoGreater, IsNoLater, IsLeastWord, IsAnswer}
use Rattle.htn_model.specs.Exhaustion.{LeadsLive, IsMet, IsUnsolvable}
use Rattle.htn_model.specs.Levels.{choice_count}
use Rattle.htn_model.specs.Sketch.{Sketch, sketched}
use Rattle.htn_model.proofs.Answers.{least_word_answers}
use Rattle.htn_model.proofs.Counted.{step_counted}
use Rattle.htn_model.proofs.OneToOne.{one_to_one}
use Rattle.htn_model.proofs.Sketches.{Draft, config_of, shown_step, step_shown, shown_done, done_shown}

-- ## Tests of all numbers below a bound

-- whether a test holds of all numbers below a bound
abbrev pub all_below : ℕ → (ℕ → Bool) → Bool
all_below zero test = true
all_below (suc n) test = test n && all_below n test

-- then it holds of each
pub below_all : (n : ℕ) (test : ℕ → Bool) (i : ℕ) → all_below n test ≡ true → i < n → test i ≡ true
below_all zero test i h within = absurd (omega arith)
below_all (suc n) test i h within = by (cases_order i n) (below_all n test i (and_parts _ _ h).1)
  where
    by : (i ≡ n) ⊎ ((i < n) ⊎ (n < i)) → (i < n → test i ≡ true) → test i ≡ true
    by (inl same) later = ap test same ∙ (and_parts _ _ h).0
    by (inr (inl less)) later = later less
    by (inr (inr more)) later = absurd (omega arith)

-- ## Steps

-- a draft of a done configuration tests as done
done_is : (k : Sketch) (d : Draft) → IsDone (sketched k) (config_of d) → shown_done k d ≡ true
done_is k d h = sym (done_shown k d) ∙ and_from _ _ (ap is_empty h.0) h.1

-- a draft that tests as done is of a done configuration
nothing_left : (k : Sketch) (d : Draft) → shown_done k d ≡ true → IsDone (sketched k) (config_of d)
nothing_left k d h =
    let parts = and_parts _ _ (done_shown k d ∙ h) in (empty d.open_nodes parts.0, parts.1)
  where
    empty : {X : Type 0} (xs : List X) → is_empty xs ≡ true → xs ≡ []
    empty [] e = refl
    empty (x ∷ xs) e = absurd cc

-- what a test says of each step, true where there is none
abbrev pub on_step : (Draft → Bool) → Option Draft → Bool
on_step test None = true
on_step test (Some d) = test d

-- where there is a step, the test says so of what it leads to
step_tested : (k : Sketch) (d : Draft) (next : Config) (number : ℕ) (test : Draft → Bool) (P : Config → Type 0) → on_step test (shown_step k d number) ≡ true
    → step_by (sketched k) (config_of d) number ≡ Some next → ((e : Draft) → test e ≡ true → P (config_of e)) → P next
step_tested k d next number test P tested step then = by (shown_step k d number) tested (sym (step_shown k d number) ∙ step)
  where
    by : (o : Option Draft) → on_step test o ≡ true → option_map config_of o ≡ Some next → P next
    by None t e = absurd cc
    by (Some c) t e = let same : config_of c ≡ next = cc in subst P same (then c t)

-- ## No word finishes

-- no word of fewer numbers finishes
abbrev pub none_below : Sketch → ℕ → Draft → Bool
none_below k zero d = true
none_below k (suc n) d = not (shown_done k d) && all_below (choice_count (sketched k) (config_of d)) (λ m. on_step (none_below k n) (shown_step k d m))

-- one more keeps the order of lengths
one_longer : (n m : ℕ) → n ≤ m → suc n ≤ suc m
one_longer n m h = omega arith

-- where the search finds none below a length, no shorter word finishes
pub long_enough : (k : Sketch) (n : ℕ) (d : Draft) → none_below k n d ≡ true → (word : List ℕ) → FinishesFrom (sketched k) word (config_of d) → n ≤ length word
long_enough k zero d h word f = omega arith
long_enough k (suc n) d h [] f = absurd (both_ways (shown_done k d) (not_done (shown_done k d) (and_parts _ _ h).0) (done_is k d f))
  where
    not_done : (b : Bool) → not b ≡ true → b ≡ false
    not_done true e = absurd cc
    not_done false e = refl
long_enough k (suc n) d h (m ∷ word) f =
    let tested = below_all (choice_count (sketched k) (config_of d)) (λ m. on_step (none_below k n) (shown_step k d m)) m (and_parts _ _ h).1
    (step_counted (sketched k) (config_of d) f.0 m f.1) in
    one_longer n (length word) (step_tested k d f.0 m (none_below k n) (λ c. FinishesFrom (sketched k) word c → n ≤ length word) tested f.1 (λ e t. long_enough k n e t word) f.2)

-- no word finishes, and there is no word of so many numbers
abbrev pub none_at_all : Sketch → ℕ → Draft → Bool
none_at_all k zero d = false
none_at_all k (suc n) d = not (shown_done k d) && all_below (choice_count (sketched k) (config_of d)) (λ m. on_step (none_at_all k n) (shown_step k d m))

-- where the search finds none at all, no word finishes
pub never : (k : Sketch) (n : ℕ) (d : Draft) → none_at_all k n d ≡ true → (word : List ℕ) → FinishesFrom (sketched k) word (config_of d) → ⊥
never k zero d h word f = absurd cc
never k (suc n) d h [] f = both_ways (shown_done k d) (not_done (shown_done k d) (and_parts _ _ h).0) (done_is k d f)
  where
    not_done : (b : Bool) → not b ≡ true → b ≡ false
    not_done true e = absurd cc
    not_done false e = refl
never k (suc n) d h (m ∷ word) f =
    let tested = below_all (choice_count (sketched k) (config_of d)) (λ m. on_step (none_at_all k n) (shown_step k d m)) m (and_parts _ _ h).1
    (step_counted (sketched k) (config_of d) f.0 m f.1) in
    step_tested k d f.0 m (none_at_all k n) (λ c. FinishesFrom (sketched k) word c → ⊥) tested f.1 (λ e t. never k n e t word) f.2

-- ## All that is reached leaves few nodes open

-- whatever is reached after these steps, the steps and its open nodes are at most so many
abbrev pub stays_within : Sketch → ℕ → ℕ → ℕ → Draft → Bool
stays_within k zero steps most d = false
stays_within k (suc n) steps most d =
    leb (steps + length d.open_nodes) most && all_below (choice_count (sketched k) (config_of d)) (λ m. on_step (stays_within k n (suc steps) most) (shown_step k d m))

-- a step more, by one less of the word
one_step : (steps long count most : ℕ) → suc steps + long + count ≤ most → steps + suc long + count ≤ most
one_step steps long count most h = omega arith

-- where the search stays within a bound, so do all that live numbers reach
pub few_open : (k : Sketch) (n steps most : ℕ) (d : Draft) → stays_within k n steps most d ≡ true → (word : List ℕ) (c : Config) → LeadsLive (sketched k) word (config_of d) c
    → steps + length word + length c.open_nodes ≤ most
few_open k zero steps most d h word c leads = absurd cc
few_open k (suc n) steps most d h [] c leads =
    let low = leb-true (steps + length d.open_nodes) most (and_parts _ _ h).0 in
    let same : length d.open_nodes ≡ length c.open_nodes = ap (λ (x : Config). length x.open_nodes) leads in
    omega arith
few_open k (suc n) steps most d h (m ∷ word) c leads =
    let step : step_by (sketched k) (config_of d) m ≡ Some (result_of (config_of d) leads.0) = ap (option_map (result_of (config_of d))) leads.1 in
    let tested = below_all (choice_count (sketched k) (config_of d)) (λ m. on_step (stays_within k n (suc steps) most) (shown_step k d m)) m (and_parts _ _ h).1
    (step_counted (sketched k) (config_of d) (result_of (config_of d) leads.0) m step) in
    one_step steps (length word) (length c.open_nodes) most
    (step_tested k d (result_of (config_of d) leads.0) m (stays_within k n (suc steps) most)
    (λ e. LeadsLive (sketched k) word e c → suc steps + length word + length c.open_nodes ≤ most) tested step (λ e t. few_open k n (suc steps) most e t word c) leads.3)

-- ## A word finishes, and none as long is smaller

-- a test of what a step leads to, false where it leads nowhere
abbrev pub leads_on : (Draft → Bool) → Option Draft → Bool
leads_on test None = false
leads_on test (Some d) = test d

-- whether a word finishes, as a test
abbrev pub finishes_by : Sketch → List ℕ → Draft → Bool
finishes_by k [] d = shown_done k d
finishes_by k (m ∷ word) d = leads_on (finishes_by k word) (shown_step k d m)

-- a word that tests so finishes
pub it_finishes : (k : Sketch) (word : List ℕ) (d : Draft) → finishes_by k word d ≡ true → FinishesFrom (sketched k) word (config_of d)
it_finishes k [] d h = nothing_left k d h
it_finishes k (m ∷ word) d h = by (shown_step k d m) h (step_shown k d m) (it_finishes k word)
  where
    by : (o : Option Draft) → leads_on (finishes_by k word) o ≡ true → step_by (sketched k) (config_of d) m ≡ option_map config_of o
        → ((next : Draft) → finishes_by k word next ≡ true → FinishesFrom (sketched k) word (config_of next)) → FinishesFrom (sketched k) (m ∷ word) (config_of d)
    by None h e later = absurd cc
    by (Some next) h e later = (config_of next, e, later next h)

-- whether no smaller word of that length finishes, as a test
abbrev pub none_smaller : Sketch → List ℕ → Draft → Bool
none_smaller k [] d = true
none_smaller k (m ∷ word) d = all_below m (λ j. on_step (none_below k (suc (length word))) (shown_step k d j)) && on_step (none_smaller k word) (shown_step k d m)

-- where it tests so, the word is no greater than any that finishes
pub no_greater : (k : Sketch) (word : List ℕ) (d : Draft) → none_smaller k word d ≡ true → (other : List ℕ) → FinishesFrom (sketched k) other (config_of d)
    → length word ≡ length other → IsNoGreater word other
no_greater k [] d h other f long = tt
no_greater k (m ∷ word) d h [] f long = absurd (omega arith)
no_greater k (m ∷ word) d h (j ∷ other) f long = by (cases_order m j) (no_greater k word)
  where
    parts : (all_below m (λ j. on_step (none_below k (suc (length word))) (shown_step k d j)) ≡ true) × (on_step (none_smaller k word) (shown_step k d m) ≡ true)
    parts = and_parts _ _ h

    same_long : length word ≡ length other
    same_long = omega arith

    by : (m ≡ j) ⊎ ((m < j) ⊎ (j < m))
        → ((e : Draft) → none_smaller k word e ≡ true → (v : List ℕ) → FinishesFrom (sketched k) v (config_of e) → length word ≡ length v → IsNoGreater word v)
        → IsNoGreater (m ∷ word) (j ∷ other)
    by (inr (inl less)) later = inl less
    by (inl same) later =
        inr (
          same,
          step_tested k d f.0 m (none_smaller k word) (λ c. FinishesFrom (sketched k) other c → IsNoGreater word other) parts.1
              (subst (λ n. step_by (sketched k) (config_of d) n ≡ Some f.0) (sym same) f.1) (λ e t g. later e t other g same_long) f.2,
        )
    by (inr (inr more)) later =
        let tested = below_all m (λ j. on_step (none_below k (suc (length word))) (shown_step k d j)) j parts.0 more in
        let longer : suc (length word) ≤ length other =
        step_tested k d f.0 j (none_below k (suc (length word))) (λ c. FinishesFrom (sketched k) other c → suc (length word) ≤ length other) tested f.1
        (λ e t. long_enough k (suc (length word)) e t other) f.2 in
        absurd (omega arith)

-- ## From the initial networks on

-- the draft that a network starts with
abbrev pub draft_of : Sketch → Network → Draft
draft_of k network = record { atoms = k.initial_atoms; open_nodes = network.children; order = network.order }

-- a test of a network, true where there is none
abbrev pub on_network : (Network → Bool) → Option Network → Bool
on_network test None = true
on_network test (Some network) = test network

-- a test of a network, false where there is none
abbrev pub at_network : (Network → Bool) → Option Network → Bool
at_network test None = false
at_network test (Some network) = test network

-- a test of all initial networks holds of each
network_tested : (k : Sketch) (n number : ℕ) (network : Network) (test : Network → Bool) → all_below n (λ j. on_network test (slice_get k.initials j)) ≡ true
    → number < n → slice_get k.initials number ≡ Some network → test network ≡ true
network_tested k n number network test h within stands =
    sym (ap (on_network test) stands) ∙ below_all n (λ j. on_network test (slice_get k.initials j)) number h within

-- whether no word within a bound finishes, as a test
abbrev pub none_within : Sketch → ℕ → Bool
none_within k bound = all_below (length k.initials) (λ j. on_network (λ network. none_below k (suc bound) (draft_of k network)) (slice_get k.initials j))

-- where it tests so, there is no least word
pub no_word : (k : Sketch) (bound : ℕ) → none_within k bound ≡ true → IsLeastWord (sketched k) bound None
no_word k bound h [] f = absurd f
no_word k bound h (number ∷ word) f =
    let tested = network_tested k (length k.initials) number f.0 (λ network. none_below k (suc bound) (draft_of k network)) h (slice_get_within k.initials number f.0 f.1) f.1 in
    let more = long_enough k (suc bound) (draft_of k f.0) tested word f.2 in
    omega arith

-- whether no word finishes, as a test
abbrev pub none_ever : Sketch → ℕ → Bool
none_ever k n = all_below (length k.initials) (λ j. on_network (λ network. none_at_all k n (draft_of k network)) (slice_get k.initials j))

-- where it tests so, no word finishes
pub no_word_ever : (k : Sketch) (n : ℕ) → none_ever k n ≡ true → (word : List ℕ) → Finishes (sketched k) word → ⊥
no_word_ever k n h [] f = f
no_word_ever k n h (number ∷ word) f =
    let tested = network_tested k (length k.initials) number f.0 (λ network. none_at_all k n (draft_of k network)) h (slice_get_within k.initials number f.0 f.1) f.1 in
    never k n (draft_of k f.0) tested word f.2

-- the word finishes, no shorter one does, and none as long that is smaller
abbrev pub is_least : Sketch → ℕ → List ℕ → Bool
is_least k number word =
    (at_network (λ network. finishes_by k word (draft_of k network)) (slice_get k.initials number)
    && all_below (length k.initials) (λ j. on_network (λ network. none_below k (length word) (draft_of k network)) (slice_get k.initials j)))
    && (all_below number (λ j. on_network (λ network. none_below k (suc (length word)) (draft_of k network)) (slice_get k.initials j))
    && on_network (λ network. none_smaller k word (draft_of k network)) (slice_get k.initials number))

-- a word that tests as least is the least word
pub least_word : (k : Sketch) (bound number : ℕ) (word : List ℕ) → is_least k number word ≡ true → leb (length word) bound ≡ true
    → IsLeastWord (sketched k) bound (Some (number ∷ word))
least_word k bound number word h within =
    let sides = and_parts _ _ h in
    let lasts = and_parts _ _ sides.0 in
    let smalls = and_parts _ _ sides.1 in
    let low = leb-true (length word) bound within in
    (finishes (slice_get k.initials number) refl lasts.0, omega arith, λ other f. later lasts.1 smalls.0 smalls.1 other f)
  where
    finishes : (o : Option Network) → slice_get k.initials number ≡ o → at_network (λ network. finishes_by k word (draft_of k network)) o ≡ true → Finishes (sketched k) (number ∷ word)
    finishes None e h = absurd cc
    finishes (Some network) e h = (network, e, it_finishes k word (draft_of k network) h)

    later : all_below (length k.initials) (λ j. on_network (λ network. none_below k (length word) (draft_of k network)) (slice_get k.initials j)) ≡ true
        → all_below number (λ j. on_network (λ network. none_below k (suc (length word)) (draft_of k network)) (slice_get k.initials j)) ≡ true
        → on_network (λ network. none_smaller k word (draft_of k network)) (slice_get k.initials number) ≡ true
        → (other : List ℕ) → Finishes (sketched k) other → IsNoLater (number ∷ word) other
    later shorts lower same [] f = absurd f
    later shorts lower same (j ∷ other) f =
        by (cases_lt (length word) (length other))
      where
        long : length word ≤ length other
        long = long_enough k (length word) (draft_of k f.0)
            (network_tested k (length k.initials) j f.0 (λ network. none_below k (length word) (draft_of k network)) shorts (slice_get_within k.initials j f.0 f.1) f.1) other f.2

        first : (length word ≡ length other) → (number ≡ j) ⊎ ((number < j) ⊎ (j < number)) → IsNoGreater (number ∷ word) (j ∷ other)
        first e (inr (inl less)) = inl less
        first e (inl is) =
            let stands : slice_get k.initials number ≡ Some f.0 = ap (slice_get k.initials) is ∙ f.1 in
            inr (is, no_greater k word (draft_of k f.0) (sym (ap (on_network (λ network. none_smaller k word (draft_of k network))) stands) ∙ same) other f.2 e)
        first e (inr (inr more)) =
            let tested = network_tested k number j f.0 (λ network. none_below k (suc (length word)) (draft_of k network)) lower more f.1 in
            let longer = long_enough k (suc (length word)) (draft_of k f.0) tested other f.2 in
            absurd (omega arith)

        by : (length word < length other) ⊎ (length other ≤ length word) → IsNoLater (number ∷ word) (j ∷ other)
        by (inl less) = inl (omega arith)
        by (inr more) = let e : length word ≡ length other = omega (arith, long, more) in inr (ap suc e, first e (cases_order number j))

-- whether all that is reached stays within a bound, as a test
abbrev pub all_within : Sketch → ℕ → ℕ → Bool
all_within k n most = all_below (length k.initials) (λ j. on_network (λ network. stays_within k n 0 most (draft_of k network)) (slice_get k.initials j))

-- where it tests so, the bound isn't met
pub not_met : (k : Sketch) (n most bound : ℕ) → all_within k n most ≡ true → most ≤ bound → IsMet (sketched k) bound → ⊥
not_met k n most bound h low met =
    let r = met.reached in
    let tested = network_tested k (length k.initials) r.number r.network (λ network. stays_within k n 0 most (draft_of k network)) h
    (slice_get_within k.initials r.number r.network r.is_initial) r.is_initial in
    let few = few_open k n 0 most (draft_of k r.network) tested r.word met.config r.leads in
    let long = r.long in
    met.beyond met.steps r (omega arith)

-- ## Answers

-- a solution whose code tests as least is the answer
pub is_answer : (k : Sketch) (bound number : ℕ) (word : List ℕ) (s : Solution) → IsGrounded (sketched k) → is_least k number word ≡ true → leb (length word) bound ≡ true
    → IsSolution (sketched k) s → IsCode (sketched k) s (number ∷ word) → IsAnswer (sketched k) bound (Some s)
is_answer k bound number word s grounded least within solves code =
    (least_word_answers (sketched k) grounded).answer bound (Some (number ∷ word)) (Some s) (least_word k bound number word least within) (solves, code)

-- where no word within the bound tests to finish, there is no answer
pub no_answer : (k : Sketch) (bound : ℕ) → IsGrounded (sketched k) → none_within k bound ≡ true → IsAnswer (sketched k) bound None
no_answer k bound grounded h = (least_word_answers (sketched k) grounded).answer bound None None (no_word k bound h) tt

-- where no word tests to finish, the problem is unsolvable
pub unsolvable : (k : Sketch) (n : ℕ) → IsGrounded (sketched k) → none_ever k n ≡ true → IsUnsolvable (sketched k)
unsolvable k n grounded h s solves =
    let code = (one_to_one (sketched k) grounded).code s solves in no_word_ever k n h code.0 code.3
