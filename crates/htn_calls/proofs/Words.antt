-- Steps and words where a network stands behind what is open.
use Rattle.std.proofs.Common.{◌≡◌, ℕ, ◌+◌, ◌-◌, Bool, true, false, cond, List, [], ◌∷◌, ◌++◌, length, Option, Some, None, option_map, option_and_then, ◌⊎◌, inl, inr, sym, refl, ap, ap₂, ◌∙◌, subst, arith}
use Rattle.std.proofs.lemmas.Bool.{cases_lt}
use Rattle.std.proofs.lemmas.List.{length-append}
use Rattle.htn_model.specs.State.{State}
use Rattle.htn_model.specs.Literal.{holds}
use Rattle.htn_model.specs.Problem.{Order, is_before, IsSquare, Network, Problem}
use Rattle.htn_model.specs.Machine.{Config, table, no_network, Choice, choose, result_of, step_by, IsDone, FinishesFrom, IsProper}
use Rattle.htn_model.specs.Exhaustion.{is_dead, live_step}
use Rattle.htn_model.specs.Levels.{Stepping}
use Rattle.htn_model.proofs.Splices.{table_past_left, table_past_right, table_square, square_past_left, square_past_right}
use Rattle.htn_model.proofs.Configs.{same_config, step_square}
use Rattle.htn_model.proofs.Steps.{chosen, step_choice}
use Rattle.htn_model.proofs.Regrown.{choice_within}
use Rattle.htn_calls.specs.Leads.{Leads}
use Rattle.htn_calls.specs.Series.{series_before, series, series_of, opened, with_behind, IsTable, StepsInFront, NothingInFront, SplitsBehind, WordsSplit, FinishesClosed}
use Rattle.htn_calls.proofs.Series.{before_second, entry, same_choice, same_result}

-- ## Steps

-- what a choice leads to, where it is made among the first
choice_in_front : (problem : Problem) (c : Config) (network : Network) (number : ℕ) (choice : Choice) → choose problem c number ≡ Some choice
    → result_of (with_behind c network) choice ≡ with_behind (result_of c choice) network
choice_in_front problem c network number choice e = same_result c network choice (choice_within problem c number choice (chosen problem c number choice e))

-- the steps with all numbers
pub steps_in_front : (problem : Problem) → StepsInFront (step_by problem)
steps_in_front problem c network number open_still =
    ap (option_map (result_of (with_behind c network))) (same_choice problem c network number open_still) ∙ by (choose problem c number) refl
  where
    by : (o : Option Choice) → choose problem c number ≡ o → option_map (result_of (with_behind c network)) o ≡ option_map (λ d. with_behind d network) (option_map (result_of c) o)
    by None e = refl
    by (Some choice) e = ap Some (choice_in_front problem c network number choice e)

-- the steps without the dead numbers
pub live_steps_in_front : (problem : Problem) → StepsInFront (live_step problem)
live_steps_in_front problem c network number open_still =
    ap (option_and_then (λ choice. cond (is_dead problem choice.network) None (Some (result_of (with_behind c network) choice)))) (same_choice problem c network number open_still)
    ∙ by (choose problem c number) refl
  where
    unless_dead : (b : Bool) (x y : Config) → x ≡ with_behind y network → cond b None (Some x) ≡ option_map (λ d. with_behind d network) (cond b None (Some y))
    unless_dead true x y e = refl
    unless_dead false x y e = ap Some e

    by : (o : Option Choice) → choose problem c number ≡ o
        → option_and_then (λ choice. cond (is_dead problem choice.network) None (Some (result_of (with_behind c network) choice))) o
        ≡ option_map (λ d. with_behind d network) (option_and_then (λ choice. cond (is_dead problem choice.network) None (Some (result_of c choice))) o)
    by None e = refl
    by (Some choice) e = unless_dead (is_dead problem choice.network) _ _ (choice_in_front problem c network number choice e)

-- ## Nothing open

-- the order of no nodes is a square table
pub nothing_square : IsTable no_network
nothing_square = (refl, tt)

-- a proper configuration with nothing open is its state alone
pub closed_is : (c : Config) → IsProper c → c.open_nodes ≡ [] → c ≡ opened c.state no_network
closed_is c proper empty =
    let l = ap length empty in
    same_config c (opened c.state no_network) proper nothing_square refl empty (λ a b. square_past_left (length c.open_nodes) c.order a b proper (omega arith))

-- a network in series is a square table
pub series_square : (first second : Network) → IsTable (series first second)
series_square first second =
    subst (λ n. IsSquare n (series first second).order) (sym (length-append first.children second.children)) (table_square (length first.children + length second.children) _)

-- so are blocks in series
pub blocks_square : (blocks : List Network) → IsTable (series_of blocks)
blocks_square [] = nothing_square
blocks_square (block ∷ rest) = series_square block (series_of rest)

-- behind no nodes are those behind
pub entries_behind : (n m : ℕ) (first second : Order) → n ≡ 0 → IsSquare m second → (a b : ℕ) → is_before (table (n + m) (series_before n first second)) a b ≡ is_before second a b
entries_behind n m first second none square a b = elim (cases_lt a (n + m)) [
  | inl low ↦ elim (cases_lt b (n + m)) [
    | inl near ↦ (let x : a - n ≡ a = omega arith in let y : b - n ≡ b = omega arith in
        entry n m first second a b low near ∙ before_second n m first second a b (omega arith) (omega arith) ∙ ap₂ (is_before second) x y)
    | inr far ↦ table_past_right (n + m) _ a b far ∙ sym (square_past_right m second a b square (omega arith))
  ]
  | inr up ↦ table_past_left (n + m) _ a b up ∙ sym (square_past_left m second a b square (omega arith))
]

-- where nothing is open, what stands behind is all
pub nothing_in_front : NothingInFront
nothing_in_front c network empty square =
    same_config (with_behind c network) (opened c.state network)
    (series_square (record { children = c.open_nodes; order = c.order }) network) square refl
    (ap (λ xs. xs ++ network.children) empty)
    (entries_behind (length c.open_nodes) (length network.children) c.order network.order (ap length empty) square)

-- ## Words

-- a list is empty or not
cases_empty : {X : Type 0} (xs : List X) → (xs ≡ []) ⊎ (xs ≡ [] → ⊥)
cases_empty [] = inl refl
cases_empty (x ∷ xs) = inr (λ e. absurd cc)

-- what is empty with more was empty
front_empty : {X : Type 0} (xs ys : List X) → xs ++ ys ≡ [] → xs ≡ []
front_empty [] ys h = refl
front_empty (x ∷ xs) ys h = absurd cc

module _ (problem : Problem) (step : Stepping) (sound : (c d : Config) (number : ℕ) → step c number ≡ Some d → step_by problem c number ≡ Some d)
    (in_front : StepsInFront step) where
  -- nothing open has no step
  pub no_steps : (c d : Config) (number : ℕ) → step c number ≡ Some d → c.open_nodes ≡ [] → ⊥
  no_steps c d number h empty =
      let made = step_choice problem c d number (sound c d number h) in
      let within = choice_within problem c number made.0 (chosen problem c number made.0 made.1) in
      let l = ap length empty in
      omega arith

  -- a word that closes what is open, and one that leads then from the network behind
  pub record Parts (word : List ℕ) (c : Config) (network : Network) (last : Config) : Type 0 where
    pub first : List ℕ
    pub later : List ℕ
    pub middle : State
    pub joined : word ≡ first ++ later
    pub closes : Leads step first c (opened middle no_network)
    pub leads : Leads step later (opened middle network) last

  module _ (network : Network) (square : IsTable network) (last : Config) (empty_last : last.open_nodes ≡ []) where
    -- where nothing is open, all of the word is from the network behind
    none_closes : (word : List ℕ) (c : Config) → IsProper c → c.open_nodes ≡ [] → Leads step word (with_behind c network) last → Parts word c network last
    none_closes word c proper empty leads = record {
      first = [];
      later = word;
      middle = c.state;
      joined = refl;
      closes = closed_is c proper empty;
      leads = subst (λ d. Leads step word d last) (nothing_in_front c network empty square) leads;
    }

    -- a number more
    one_more : (number : ℕ) (word : List ℕ) (c d : Config) → step c number ≡ Some d → Parts word d network last → Parts (number ∷ word) c network last
    one_more number word c d h p = record {
      first = number ∷ p.first;
      later = p.later;
      middle = p.middle;
      joined = ap (λ w. number ∷ w) p.joined;
      closes = (d, h, p.closes);
      leads = p.leads;
    }

    -- a step with the network behind is one without it
    step_without : (c next : Config) (number : ℕ) → (c.open_nodes ≡ [] → ⊥) → step (with_behind c network) number ≡ Some next
        → (d : Config) × (step c number ≡ Some d) × (next ≡ with_behind d network)
    step_without c next number open_still h = by (step c number) refl (sym (in_front c network number open_still) ∙ h)
      where
        by : (o : Option Config) → step c number ≡ o → option_map (λ d. with_behind d network) o ≡ Some next → (d : Config) × (step c number ≡ Some d) × (next ≡ with_behind d network)
        by None e g = absurd cc
        by (Some d) e g = (d, e, (let same : with_behind d network ≡ next = cc in sym same))

    -- a word that closes all with the network behind splits
    pub parts : (word : List ℕ) (c : Config) → IsProper c → Leads step word (with_behind c network) last → Parts word c network last
    parts [] c proper leads =
        none_closes [] c proper (front_empty c.open_nodes network.children (ap (λ d. d.open_nodes) leads ∙ empty_last)) leads
    parts (number ∷ word) c proper leads = by (parts word) (cases_empty c.open_nodes)
      where
        by : ((d : Config) → IsProper d → Leads step word (with_behind d network) last → Parts word d network last) → (c.open_nodes ≡ []) ⊎ (c.open_nodes ≡ [] → ⊥)
            → Parts (number ∷ word) c network last
        by later (inl empty) = none_closes (number ∷ word) c proper empty leads
        by later (inr open_still) =
            let s = step_without c leads.0 number open_still leads.1 in
            one_more number word c s.0 s.1
            (later s.0 (step_square problem c s.0 number (sound c s.0 number s.1)) (subst (λ x. Leads step word x last) s.2 leads.2))

  -- the parts make a word with the network behind
  pub join : (network : Network) (last : Config) → IsTable network → (first later : List ℕ) (c : Config) (middle : State)
      → Leads step first c (opened middle no_network) → Leads step later (opened middle network) last → Leads step (first ++ later) (with_behind c network) last
  join network last square [] later c middle closes leads =
      subst (λ d. Leads step later d last) (sym (ap (λ d. with_behind d network) closes ∙ nothing_in_front (opened middle no_network) network refl square)) leads
  join network last square (number ∷ first) later c middle closes leads = (
    with_behind closes.0 network,
    in_front c network number (no_steps c closes.0 number closes.1) ∙ ap (option_map (λ d. with_behind d network)) closes.1,
    join network last square first later closes.0 middle closes.2 leads,
  )

-- ## Finishing words

-- a done configuration is its state alone, and that is done
done_closed : (problem : Problem) (c : Config) → IsProper c → IsDone problem c → (last : State) × (c ≡ opened last no_network) × (holds last problem.goal ≡ true)
done_closed problem c proper done = (c.state, closed_is c proper done.0, done.1)

-- a finishing word leads to nothing open, with the goal true
pub closes_from : (problem : Problem) (word : List ℕ) (c : Config) → IsProper c → FinishesFrom problem word c
    → (last : State) × Leads (step_by problem) word c (opened last no_network) × (holds last problem.goal ≡ true)
closes_from problem [] c proper done = done_closed problem c proper done
closes_from problem (number ∷ word) c proper h =
    let later = closes_from problem word h.0 (step_square problem c h.0 number h.1) h.2 in
    (later.0, (h.0, h.1, later.1), later.2)

-- and a word that does so finishes
finishes_by : (problem : Problem) (word : List ℕ) (c : Config) (last : State) → Leads (step_by problem) word c (opened last no_network) → holds last problem.goal ≡ true
    → FinishesFrom problem word c
finishes_by problem [] c last leads reached = subst (IsDone problem) (sym leads) (refl, reached)
finishes_by problem (number ∷ word) c last leads reached = (leads.0, leads.1, finishes_by problem word leads.0 last leads.2 reached)

-- the finishing words are those that lead to nothing open with the goal true
pub finishes_closed : (problem : Problem) → FinishesClosed problem
finishes_closed problem word c proper = (closes_from problem word c proper, λ h. finishes_by problem word c h.0 h.1 h.2)

-- with a network behind the finishing words split
pub words_split : (problem : Problem) → WordsSplit problem
words_split problem word c network proper square = (there, back)
  where
    -- a network behind makes a square table
    behind_square : IsProper (with_behind c network)
    behind_square = series_square (record { children = c.open_nodes; order = c.order }) network

    there : FinishesFrom problem word (with_behind c network) → SplitsBehind problem word c network
    there h =
        let f = closes_from problem word (with_behind c network) behind_square h in
        let p = parts problem (step_by problem) (λ c d number h. h) (steps_in_front problem) network square (opened f.0 no_network) refl word c proper f.1 in
        record {
          first = p.first;
          later = p.later;
          middle = p.middle;
          joined = p.joined;
          closes = p.closes;
          finishes = finishes_by problem p.later (opened p.middle network) f.0 p.leads f.2;
        }

    back : SplitsBehind problem word c network → FinishesFrom problem word (with_behind c network)
    back sp =
        let f = closes_from problem sp.later (opened sp.middle network) square sp.finishes in
        subst (λ w. FinishesFrom problem w (with_behind c network)) (sym sp.joined)
        (finishes_by problem (sp.first ++ sp.later) (with_behind c network) f.0
        (join problem (step_by problem) (λ c d number h. h) (steps_in_front problem) network (opened f.0 no_network) square sp.first sp.later c sp.middle sp.closes f.1) f.2)
