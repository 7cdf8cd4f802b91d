-- The way of a word by the calls of a table is a least way of the listing machine.
use Rattle.std.proofs.Common.{◌≡◌, ◌∙◌, ℕ, zero, suc, ◌+◌, ◌<◌, ◌≤◌, Bool, true, List, [], ◌∷◌, ◌++◌, length, map, get_or, slice_get, take, drop, All, Option, Some, None, IfSome, option_map, refl, sym, ap, subst, arith}
use Rattle.std.proofs.Math.Seq.{drop-cons}
use Rattle.std.proofs.lemmas.List.{drop_all, length-drop, map-append}
use Rattle.std.proofs.lemmas.Option.{none-some, same_Some, slice_get-map}
use Rattle.std.proofs.lemmas.Simd.{map-map}
use Rattle.indexmap.specs.IndexMap.{IndexMap}
use Rattle.htn_model.specs.Grounding.{problem_of}
use Rattle.htn_model.specs.Levels.{is_done}
use Rattle.htn_model.specs.Literal.{holds}
use Rattle.htn_model.specs.Machine.{Config}
use Rattle.htn_model.specs.Problem.{Child, Network}
use Rattle.htn_model.specs.State.{State}
use Rattle.htn_model.specs.Task.{Task}
use Rattle.word_machine.specs.Certificate.{IsLeastWay, LesserTakeMore}
use Rattle.htn_calls.specs.Calls as model
use Rattle.htn_calls.specs.Numbered.{rule_of}
use Rattle.htn_calls.specs.Series.{opened, opened_series}
use Rattle.htn_calls.specs.Ordered.{ordered, lone}
use Rattle.htn_walk.specs.Listed.{listing_machine}
use Rattle.call_rules.specs.Bounds.{IsKept}
use Rattle.call_rules.specs.Listing.{listed_step}
use Rattle.call_rules.specs.Lone.{led_by, node_rules}
use Rattle.call_rules.proofs.Lone.{lone_are_nodes, nodes_are_ordered, rules_are_ranked}
use Rattle.call_table.specs.Estimates.{AreEstimates, estimate_of}
use Rattle.call_table.specs.Lists.{Lists, list_at}
use Rattle.call_table.specs.Views.{call_at, numbers, rule_view}
use Rattle.call_table.specs.declared.call.Call.{Call}
use Rattle.call_table.specs.declared.call.CallTable.{CallTable}
use Rattle.call_table.specs.declared.call.Rule.{Rule}
use Rattle.call_table.specs.declared.site.Site.{Site}
use Rattle.call_proof.specs.Ways.{AreLeft, IsBoundedWay, IsRankedRule, IsRankedStep}

-- what holds of what there is holds of it by what follows
pub if_some_so : {X : Type 0} (P Q : X → Type 0) (o : Option X) → IfSome o P → ((x : X) → P x → Q x) → IfSome o Q
if_some_so P Q None there so = tt
if_some_so P Q (Some x) there so = so x there

-- what is so of each among the first of a list
pub among_first : {X : Type 0} (P : X → Type 0) (xs : List X) (n k : ℕ) (x : X) → All P (take n xs) → k < n
    → slice_get xs k ≡ Some x → P x
among_first P [] n k x all low at = absurd (none-some x at)
among_first P (y ∷ xs) zero k x all low at = absurd (omega arith)
among_first P (y ∷ xs) (suc n) zero x all low at = subst P (same_Some y x at) (all 0 y (omega arith))
among_first P (y ∷ xs) (suc n) (suc k) x all low at =
    among_first P xs n k x (λ j d h. all (suc j) d (omega arith)) (omega arith) at

module _ (t : Task) (state : ℕ → State) (node : ℕ → Child) (l : Lists) (table : CallTable) where
  -- the node of a number alone, and nodes that are open in a state
  abbrev block : ℕ → Network
  block j = lone (node j)

  abbrev pub config : ℕ → List ℕ → Config
  config i nodes = opened (state i) (ordered (map node nodes))

  -- the rules of calls are those of their nodes
  abbrev pub AreRuled : Type 0
  AreRuled =
      (i j : ℕ) (rs : List (model.Rule ℕ ℕ)) → numbers l table i j ≡ Some rs
      → node_rules t (state i) (node j) ≡ Some (map (rule_of state block) rs)

  -- what a rule leads to, with nodes behind
  abbrev led : List ℕ → Rule → Config
  led rest r = config r.state (list_at l r.blocks ++ rest)

  rule_led : (rest : List ℕ) (r : Rule)
      → led_by (map lone (map node rest)) (rule_of state block (rule_view l r)) ≡ led rest r
  rule_led rest r =
      let nodes = list_at l r.blocks in
      ap (λ (bs : List Network). opened_series (state r.state) (bs ++ map lone (map node rest)))
      (sym (map-map lone node nodes))
      ∙ ap (opened_series (state r.state)) (sym (map-append lone (map node nodes) (map node rest)))
      ∙ ap (λ xs. opened_series (state r.state) (map lone xs)) (sym (map-append node nodes rest))
      ∙ nodes_are_ordered (state r.state) (map node (nodes ++ rest))

  module _ (ruled : AreRuled) (i first : ℕ) (rest : List ℕ) (call : Call) (known : call_at table i first ≡ Some call) where
    -- a rank leads where the rule of the first node's call does
    ranked : (rank : ℕ)
        → listed_step t (config i (first ∷ rest)) rank ≡ option_map (led rest) (slice_get call.rules.items rank)
    ranked rank =
        let rules = call.rules.items in
        let views = map (rule_view l) rules in
        let by_numbers : numbers l table i first ≡ Some views =
        ap (option_map (λ (c : Call). map (rule_view l) c.rules.items)) known in
        let own = map (rule_of state block) views in
        ap (λ c. listed_step t c rank) (sym (nodes_are_ordered (state i) (node first ∷ map node rest)))
        ∙ rules_are_ranked t (state i) (lone (node first)) (map lone (map node rest)) own rank
        (lone_are_nodes t (state i) (node first) ∙ ruled i first views by_numbers)
        ∙ ap (option_map (led_by (map lone (map node rest))))
        (slice_get-map (rule_of state block) views rank
        ∙ ap (option_map (rule_of state block)) (slice_get-map (rule_view l) rules rank))
        ∙ by (slice_get rules rank)
      where
        by : (o : Option Rule)
            → option_map (led_by (map lone (map node rest))) (option_map (rule_of state block) (option_map (rule_view l) o))
            ≡ option_map (led rest) o
        by None = refl
        by (Some r) = ap Some (rule_led rest r)

  module _ {S : Type 0} (values : IndexMap Site ℕ S) (ends : List Bool) (cap : ℕ) (passes : State → Bool)
      (low : Config → ℕ) (ruled : AreRuled) (kept : IsKept t passes) (are : AreEstimates l table ends cap values)
      (above : (i : ℕ) (nodes : List ℕ) → passes (state i) ≡ true
      → estimate_of l table ends cap nodes i ≤ low (config i nodes))
      (goal : (i : ℕ) → slice_get ends i ≡ Some true → holds (state i) (problem_of t).goal ≡ true) where
    -- what is left of nodes in a state that passes is no more than the bound of what is open
    pub left_below : (steps i : ℕ) (nodes : List ℕ) → passes (state i) ≡ true → AreLeft l table values steps i nodes
        → steps ≤ low (config i nodes)
    left_below steps i nodes passed left =
        let least = left ends cap are in
        let more = above i nodes passed in
        omega arith

    -- a ranked step of a way by calls is one of a least way
    module _ (i : ℕ) (nodes : List ℕ) (rank : ℕ) (ranks : List ℕ) (passed : passes (state i) ≡ true)
        (way : IsRankedStep l table values i nodes rank (length ranks) (λ s ns. IsBoundedWay l table values ends s ns ranks))
        (later : (s : ℕ) (ns : List ℕ) → passes (state s) ≡ true → IsBoundedWay l table values ends s ns ranks
        → IsLeastWay (listing_machine t) low (config s ns) ranks) where
      abbrev rest : List ℕ
      rest = list_at l way.rest

      abbrev here : Config
      here = config i (way.first ∷ rest)

      -- what the first node's rule of a rank leads to passes
      passed_on : (k : ℕ) (r : Rule) → slice_get way.call.rules.items k ≡ Some r
          → (listed_step t here k ≡ Some (led rest r)) × (passes (state r.state) ≡ true)
      passed_on k r at =
          let leads : listed_step t here k ≡ Some (led rest r) =
          ranked ruled i way.first rest way.call way.known k ∙ ap (option_map (led rest)) at in
          (leads, kept here (led rest r) k passed leads)

      -- lesser ranks take more steps
      lesser : LesserTakeMore (listing_machine t) low here rank (length ranks)
      lesser k d less is = by (slice_get way.call.rules.items k) refl
          (sym (ranked ruled i way.first rest way.call way.known k) ∙ is)
        where
          by : (o : Option Rule) → slice_get way.call.rules.items k ≡ o → option_map (led rest) o ≡ Some d
              → length ranks < low d
          by None at leads = absurd (none-some d leads)
          by (Some r) at leads =
              let on = passed_on k r at in
              let left : AreLeft l table values (length ranks + 1) r.state (list_at l r.blocks ++ rest) =
              among_first
              (λ (q : Rule). AreLeft l table values (length ranks + 1) q.state (list_at l q.blocks ++ rest))
              way.call.rules.items rank k r way.step.lesser less at in
              let more = left_below (length ranks + 1) r.state (list_at l r.blocks ++ rest) on.1 left in
              let longer : length ranks < low (led rest r) = omega arith in
              subst (λ c. length ranks < low c) (same_Some (led rest r) d leads) longer

      step_on : IsLeastWay (listing_machine t) low (config i nodes) (rank ∷ ranks)
      step_on =
          let on = passed_on rank way.step.rule way.step.ranked in
          subst (λ ns. IsLeastWay (listing_machine t) low (config i ns) (rank ∷ ranks)) (sym way.open_nodes) (
            lesser,
            led rest way.step.rule,
            on.0,
            later way.step.rule.state (list_at l way.step.rule.blocks ++ rest) on.1 way.step.onward,
          )

    -- so a way by calls is a least way
    pub least_way : (ranks : List ℕ) (i : ℕ) (nodes : List ℕ) → passes (state i) ≡ true
        → IsBoundedWay l table values ends i nodes ranks → IsLeastWay (listing_machine t) low (config i nodes) ranks
    least_way [] i nodes passed way =
        subst (λ ns. is_done (problem_of t) (config i ns) ≡ true) (sym way.0) (goal i way.1)
    least_way (rank ∷ ranks) i nodes passed way = step_on i nodes rank ranks passed way (least_way ranks)

-- ## What a program checks

module _ {S : Type 0} (l : Lists) (table : CallTable) (values : IndexMap Site ℕ S) where
  -- a rule may lead on to what is weaker, and a step too
  pub rule_so : (rules : List Rule) (rest rank left : ℕ) (P Q : ℕ → List ℕ → Type 0)
      → ((s : ℕ) (ns : List ℕ) → P s ns → Q s ns) → IsRankedRule l table values rules rest rank left P
      → IsRankedRule l table values rules rest rank left Q
  rule_so rules rest rank left P Q so step = record {
    lesser = step.lesser;
    rule = step.rule;
    ranked = step.ranked;
    onward = so step.rule.state (list_at l step.rule.blocks ++ list_at l rest) step.onward;
  }

  onward_so : (state : ℕ) (nodes : List ℕ) (rank left : ℕ) (P Q : ℕ → List ℕ → Type 0)
      → ((s : ℕ) (ns : List ℕ) → P s ns → Q s ns) → IsRankedStep l table values state nodes rank left P
      → IsRankedStep l table values state nodes rank left Q
  onward_so state nodes rank left P Q so step = record {
    first = step.first;
    rest = step.rest;
    open_nodes = step.open_nodes;
    call = step.call;
    known = step.known;
    step = rule_so step.call.rules.items step.rest rank left P Q so step.step;
  }

  -- a step in front of a way, by the ranks from a place on
  pub way_before : (ends : List Bool) (ranks : List ℕ) (k d left : ℕ) (at next : Site) → k < length ranks
      → left + (1 + k) ≡ length ranks
      → IsRankedStep l table values at.state (list_at l at.number) (get_or ranks k d) left
      (λ s ns. (s ≡ next.state) × (ns ≡ list_at l next.number))
      → IsBoundedWay l table values ends next.state (list_at l next.number) (drop (k + 1) ranks)
      → IsBoundedWay l table values ends at.state (list_at l at.number) (drop k ranks)
  way_before ends ranks k d left at next inside size step way =
      let rank = get_or ranks k d in
      let later = drop (k + 1) ranks in
      let Way : ℕ → List ℕ → Type 0 = λ s ns. IsBoundedWay l table values ends s ns later in
      let long : length later ≡ left = omega (arith, length-drop (k + 1) ranks) in
      let first : drop k ranks ≡ rank ∷ later =
      drop-cons ranks k d inside ∙ ap (λ j. rank ∷ drop j ranks) (add-one-of k) in
      let onward = onward_so at.state (list_at l at.number) rank left
      (λ s ns. (s ≡ next.state) × (ns ≡ list_at l next.number)) Way
      (λ s ns e. subst (λ z. Way z ns) (sym e.0) (subst (Way next.state) (sym e.1) way)) step in
      subst (IsBoundedWay l table values ends at.state (list_at l at.number)) (sym first)
      (subst (λ left. IsRankedStep l table values at.state (list_at l at.number) rank left Way) (sym long) onward)
    where
      add-one-of : (k : ℕ) → suc k ≡ k + 1
      add-one-of k = omega arith

  -- a way from a list that has no node, where the goal holds
  pub way_ends : (ends : List Bool) (ranks : List ℕ) (k : ℕ) (at : Site) → length ranks ≤ k → list_at l at.number ≡ []
      → slice_get ends at.state ≡ Some true → IsBoundedWay l table values ends at.state (list_at l at.number) (drop k ranks)
  way_ends ends ranks k at past none goal =
      subst (IsBoundedWay l table values ends at.state (list_at l at.number)) (sym (drop_all k ranks past)) (none, goal)
