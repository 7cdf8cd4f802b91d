-- What a dive comes to is reached, and may tell that the bound is met.
use Rattle.std.proofs.Common.{◌≡◌, ℕ, ◌+◌, ◌<◌, ◌≤◌, Bool, true, false, List, [], ◌∷◌, ◌++◌, if◌then◌else◌, length, map, refl, ap, ◌∙◌, subst, sym, true≢false, inl, inr, arith, slice_get, Some, get_or, All}
use Rattle.std.specs.List.{list_any}
use Rattle.std.proofs.lemmas.Bool.{cases_lt}
use Rattle.std.proofs.lemmas.Option.{slice_get-get_or}
use Rattle.std.proofs.lemmas.List.Elements.{All-push}
use Rattle.indexmap.specs.IndexSet.{insert_key}
use Rattle.word_machine.specs.declared.closed.Successor.{Successor}
use Rattle.word_machine.specs.Words.{Reaches, step_count}
use Rattle.word_machine.specs.Machine.{WordMachine, IsLawful, IsLowerBound, IsLiveStep, IsDone, IsMet}
use Rattle.word_machine.specs.Expansion.{IsSuccessor}
use Rattle.word_machine.specs.Meaning.{Meaning, IsGrown, IsOneToOne, AreSuccessors, successor_at}
use Rattle.word_machine.specs.Dive.{AreKeptBelow, IsReached, IsVisited, extent}
use Rattle.word_machine.proofs.Meanings.{all_at, all_by, all_owned, known_still, owned_still, same_points, slice_get-map}
use Rattle.word_machine.proofs.Offering.{known_point}
use Rattle.word_machine.proofs.Order.{Reaches-push, open_len-leads}
use Rattle.word_machine.proofs.Places.{all_zip_back}

module _ {C : Type 0} (m : WordMachine C) where
  -- what a live step leads to from a reached configuration is reached
  reached_step : (c d : C) (n : ℕ) → IsReached m c → IsLiveStep m c n d → IsReached m d
  reached_step c d n reached step = (reached.0 ++ n ∷ [], Reaches-push (IsLiveStep m) m.initials c d reached.0 n reached.1 step)

  module _ (lower : C → ℕ) (is_lower : IsLowerBound m lower) (least : ℕ) (each : All (λ c. least ≤ lower c) m.initials) where
    -- with the steps to a configuration as many are left as where a word begins, at least
    least_steps : (word : List ℕ) (c : C) → Reaches (IsLiveStep m) m.initials word c → least ≤ step_count word + lower c
    least_steps [] c reached = absurd reached
    least_steps (i ∷ ns) c reached =
        let enough : least ≤ lower reached.0 = all_at (λ d. least ≤ lower d) m.initials each i reached.0 reached.1 in
        let along : lower reached.0 ≤ lower c + length ns = open_len-leads (IsLiveStep m) lower is_lower.lowers_one reached.0 c ns reached.2 in
        omega arith

    -- so nothing is left out before the first search
    pub none_below : AreKeptBelow m lower least []
    none_below word c reached fewer = (let enough : least ≤ step_count word + lower c = least_steps word c reached in absurd (omega (arith, fewer)))

  -- a reached configuration that a search left out, of a greater extent than the bound, tells that it is met
  pub met_by : (lower : C → ℕ) (least : ℕ) (keys : List C) → AreKeptBelow m lower least keys → (bound : ℕ) (c : C) → IsReached m c
      → ((rank : ℕ) → slice_get keys rank ≡ Some c → ⊥) → bound < extent m lower least c → IsMet m bound
  met_by lower least keys below bound c reached apart past = (
    reached.0,
    c,
    reached.1,
    λ other also. elim (cases_lt (step_count other + lower c) least) [
      | inl fewer ↦ (let at = below other c also fewer in absurd (apart at.0 at.1))
      | inr enough ↦ omega (arith, past)
    ],
  )

module _ {C R P : Type 0} (m : WordMachine P) (belongs : P → Type 0) (a b : Meaning C R P) (g : IsGrown a b) where
  -- what was visited still is as tables grow
  pub visited_still : (c : C) → IsVisited m belongs a c → IsVisited m belongs b c
  visited_still c visited = (owned_still a b g belongs c visited.0, subst (IsReached m) (sym (g.same c visited.0.0)) visited.1)

  -- and each of those that were kept
  pub all_visited_still : (keys : List C) → All (IsVisited m belongs a) keys → All (IsVisited m belongs b) keys
  all_visited_still keys each = all_by (IsVisited m belongs a) (IsVisited m belongs b) visited_still keys each

  -- what is not in a list of configurations that were known stands for none of their points
  pub not_kept : (eq : C → C → Bool) → ((c d : C) → eq c d ≡ true → c ≡ d) → ((c : C) → eq c c ≡ true) → IsOneToOne b
      → (keys : List C) → All a.knows keys → (c : C) → b.knows c → list_any (eq c) keys ≡ false
      → (rank : ℕ) → slice_get (map a.point keys) rank ≡ Some (b.point c) → ⊥
  not_kept eq same reflexive one keys known c own none rank at =
      let there : list_any (eq c) keys ≡ true =
      known_point eq same reflexive b.knows b.point one keys c (known_still a b g keys known) own rank
      (ap (λ l. slice_get l rank) (same_points a b g keys known) ∙ at) in
      true≢false (sym there ∙ none)

module _ {C R P : Type 0} (m : WordMachine P) (belongs : P → Type 0) (laws : IsLawful m belongs) where
  -- the initial configurations are visited
  pub initials_visited : (meaning : Meaning C R P) (initials : List C) → All meaning.knows initials → map meaning.point initials ≡ m.initials → All (IsVisited m belongs meaning) initials
  initials_visited meaning initials known is = λ k d inside. (
      let c = get_or initials k d in
      let at : slice_get m.initials k ≡ Some (meaning.point c) =
      subst (λ l. slice_get l k ≡ Some (meaning.point c)) is (slice_get-map meaning.point initials k c (slice_get-get_or initials k d inside)) in
      (all_owned meaning belongs initials known (subst (All belongs) (sym is) laws.starts) k d inside, (k ∷ [], (meaning.point c, at, refl))))

  -- the successors of a visited one are the machine's own too, and reached
  pub successors_reached : (meaning : Meaning C R P) (beyond : P → Type 0) (rank : ℕ) (c : C) (more : List (Successor R)) → IsVisited m belongs meaning c → AreSuccessors m meaning beyond rank c more
      → All (λ (s : Successor R). belongs (meaning.point_of s.configuration)) more × All (λ (s : Successor R). IsReached m (meaning.point_of s.configuration)) more
  successors_reached meaning beyond rank c more visited successors = (
    (λ k d inside. laws.stays (meaning.point c) (meaning.point_of (get_or more k d).configuration) (step k d inside).0 visited.0.1 (step k d inside).1.0),
    (λ k d inside. reached_step m (meaning.point c) (meaning.point_of (get_or more k d).configuration) (step k d inside).0 visited.1 (step k d inside).1),
  )
    where
      step : (k : ℕ) (d : Successor R) → k < length more → (n : ℕ) × IsLiveStep m (meaning.point c) n (meaning.point_of (get_or more k d).configuration)
      step k d inside =
          let s = get_or more k d in
          let at = slice_get-map (successor_at meaning.point_of) more k s (slice_get-get_or more k d inside) in
          let found = all_zip_back (IsSuccessor (IsLiveStep m) (IsDone m) rank (meaning.point c)) successors.1.numbers (map (successor_at meaning.point_of) more) k (successor_at meaning.point_of s) successors.1.each at in
          (found.0, found.2.step)

-- what holds of each and of one more holds of each once that is inserted
pub all_inserted : {X : Type 0} (eq : X → X → Bool) (P : X → Type 0) (xs : List X) (x : X) → All P xs → P x → All P (insert_key eq xs x)
all_inserted {X} eq P xs x each own = by (list_any (eq x) xs)
  where
    by : (b : Bool) → All P (if b then xs else xs ++ x ∷ [])
    by true = each
    by false = All-push P xs x each own
