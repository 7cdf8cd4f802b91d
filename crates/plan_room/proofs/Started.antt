-- The first gap by which all before the next position have finished, place by place backwards.
use Rattle.std.proofs.Common.{◌≡◌, ℕ, suc, ◌≤◌, ◌<◌, ◌⊎◌, inl, inr, true, List, length, get_or, sym, subst, arith}
use Rattle.std.proofs.lemmas.Bool.{both_ways, cases_lt, cases_eq}
use Rattle.std.proofs.lemmas.List.{get_or_past}
use Rattle.htn_model.specs.Problem.{is_before}
use Rattle.plan_room.specs.Placing.{IsAhead, IsSequence, IsStart}
use Rattle.plan_room.specs.Matching.{Seating, IsTop}

module _ (w : Seating) (finishes : List ℕ) (depth position : ℕ) where
  -- the start that the places from `place` on leave
  pub record IsStartFrom (place start : ℕ) : Type 0 where
    pub low : place ≤ depth
    pub from : w.gap ≤ start
    pub after : (j : ℕ) → place ≤ j → j < depth → is_before w.order (get_or w.sequence j 0) position ≡ true → get_or finishes (get_or w.sequence j 0) w.gap ≤ start
    pub soonest : (k : ℕ) → w.gap ≤ k → ((b : ℕ) → is_before w.order b position ≡ true → get_or finishes b w.gap ≤ k) → start ≤ k

  -- at first the start is that of the places which are all before the position
  pub begun : (sure end high : ℕ) → IsAhead w.order w.sequence position sure end → depth < length w.sequence → position ≡ get_or w.sequence depth 0
      → IsTop w.sequence finishes w.gap sure high → IsStartFrom end high
  begun sure end high ahead inside here top = record {
    low = ahead.own depth inside (sym here);
    from = top.from;
    after = λ j m l before. absurd (both_ways (is_before w.order (get_or w.sequence j 0) position) (ahead.none j m (omega arith)) before);
    soonest = λ k low all. top.soonest k low (λ j l. all (get_or w.sequence j 0) (ahead.all j l));
  }

  -- with one place more the start may be later
  pub raised : (place start later : ℕ) → IsStartFrom (suc place) start → start ≤ later
      → (is_before w.order (get_or w.sequence place 0) position ≡ true → get_or finishes (get_or w.sequence place 0) w.gap ≤ later)
      → ((k : ℕ) → start ≤ k → ((b : ℕ) → is_before w.order b position ≡ true → get_or finishes b w.gap ≤ k) → later ≤ k) → IsStartFrom place later
  raised place start later so more here soonest = record {
    low = (let l = so.low in omega arith);
    from = (let f = so.from in omega arith);
    after = λ j m l before. elim (cases_eq j place) [
      | inl e ↦ subst (λ i. get_or finishes (get_or w.sequence i 0) w.gap ≤ later) (sym e) (here (subst (λ i. is_before w.order (get_or w.sequence i 0) position ≡ true) e before))
      | inr o ↦ (let a = so.after j (omega arith) l before in omega arith)
    ];
    soonest = λ k low all. soonest k (so.soonest k low all) all;
  }

  -- once those of the places before finish no later, it is the first gap by which all before the position have finished
  pub started : IsSequence w.order w.sequence → length finishes ≡ length w.order → depth < length w.sequence → position ≡ get_or w.sequence depth 0
      → (place start : ℕ) → IsStartFrom place start → (top past : ℕ) → IsTop w.sequence finishes w.gap past top → place ≤ past → top ≤ start
      → IsStart w.order finishes w.gap position start
  started is_sequence size inside here place start so top past is_top up done = record {
    from = so.from;
    after = λ b before. elim (cases_lt b (length finishes)) [
      | inl low ↦ (let (i, l, same) = is_sequence.listed b (omega arith) in
          let less : i < depth = is_sequence.ordered i depth l inside (subst (λ a. is_before w.order (get_or w.sequence i 0) a ≡ true) here
          (subst (λ c. is_before w.order c position ≡ true) (sym same) before)) in
          subst (λ c. get_or finishes c w.gap ≤ start) same
          (place_of i less (subst (λ c. is_before w.order c position ≡ true) (sym same) before) (cases_lt i place)))
      | inr past ↦ (let e = get_or_past finishes b w.gap past in let f = so.from in omega arith)
    ];
    soonest = so.soonest;
  }
    where
      place_of : (i : ℕ) → i < depth → is_before w.order (get_or w.sequence i 0) position ≡ true → (i < place) ⊎ (place ≤ i)
          → get_or finishes (get_or w.sequence i 0) w.gap ≤ start
      place_of i l before (inl low) = let a = is_top.after i (omega arith) in omega arith
      place_of i l before (inr more) = so.after i more l before
