-- A table of calls that are closed in their frames is closed.
use Rattle.std.proofs.Common.{◌≡◌, ℕ, ◌+◌, ◌≤◌, List, [], ◌∷◌, ◌++◌, map, Some, inl, inr, sym, ap, ◌∙◌, subst, arith}
use Rattle.std.specs.Prelude.{Contains}
use Rattle.std.proofs.lemmas.List.{append-nil}
use Rattle.htn_model.specs.State.{State}
use Rattle.htn_model.specs.Problem.{Network}
use Rattle.htn_calls.specs.Calls.{Exit, Summary, Table, Covers, Rule, Rules, Place, IsMet, IsStepped, IsCalled}
use Rattle.htn_calls.specs.Closed.{IsFollowedByCalls, IsClosed, AreClosed}
use Rattle.htn_calls.proofs.Numbered.{mapped_in, in_mapped}
use Rattle.call_rules.specs.Frame.{Frame, lift}
use Rattle.call_rules.proofs.Parts.{inner_part, nested_lift}
use Rattle.call_rules.specs.Framed.{IsPart, lifted_exit, lifted_summary, lifted_rule, AreLocal, IsFramed}
use Rattle.call_rules.specs.Closed.{IsMetIn, IsCalledIn, IsFollowedIn, IsClosedIn, AreClosedIn, FramesLift}

module _ (state : ℕ → State) (block : ℕ → Network) (frame : ℕ → Frame) (numbers : Rules ℕ ℕ)
    (rules : Rules State Network) (listing : Table ℕ ℕ) (table : Table State Network) (total : List ℕ → ℕ)
    (least : List Network → ℕ) (stands : IsFramed state block frame listing table)
    (local : AreLocal state block frame numbers rules)
    (counted : (blocks : List ℕ) → total blocks ≤ least (map block blocks)) where
  -- the base bound by the blocks alone
  abbrev low : State → List Network → ℕ
  low s = least

  -- a call is in the part of this state in its frame
  module _ (caller : ℕ) (s : State) (u : Summary ℕ) (places : List (Place ℕ ℕ)) where
    -- what is meant by a state of the call, a place and its summary
    abbrev whole_of : State → State
    whole_of q = lift (frame caller) s q

    abbrev place_of : Place ℕ ℕ → Place State Network
    place_of p =
        record { state = whole_of (state p.state); blocks = map block p.blocks; distance = p.distance }

    abbrev meant : Summary State
    meant = lifted_summary state block frame caller s u

    -- blocks that are met
    abbrev IsMetWhole : State → List Network → ℕ → Type 0
    IsMetWhole = IsMet rules table low least meant (map place_of places)

    -- what is covered is covered, lifted
    covers : (i steps : ℕ) → Covers u i steps → Covers meant (whole_of (state i)) steps
    covers i steps (inl floor) = inl floor
    covers i steps (inr x) =
        let exit = lifted_exit state block frame caller s in
        inr (exit x.0, mapped_in exit x.0 u.exits x.1, ap (λ k. whole_of (state k)) x.2, x.3)

    -- what is met is met
    met : (q : State) (js : List ℕ) (steps : ℕ) → IsMetIn state frame numbers listing total u places q js steps
        → IsMetWhole (whole_of q) (map block js) steps
    met q js steps (inl floor) = (let l = counted js in inl (omega arith))
    met q js steps (inr m) =
        inr (place_of m.0, mapped_in place_of m.0 places m.1, ap whole_of m.2, ap (map block) m.3, m.4)

    -- what the call's rules lead to is met
    stepped : (i : ℕ) (rs : List (Rule ℕ ℕ)) → IsPart (frame caller) s (state i) → numbers i caller ≡ Some rs
        → ((r : Rule ℕ ℕ) → Contains rs r
        → IsMetIn state frame numbers listing total u places (state r.state) r.blocks 1)
        → IsStepped rules table low least meant (map place_of places) s (block caller) [] 0
    stepped i rs part ruled each = record {
      rules_of = map (lifted_rule state block frame caller s) rs;
      known = local i caller rs s ruled part;
      met = λ r there.
          (let m = in_mapped (lifted_rule state block frame caller s) r rs there in
          subst (λ (x : Rule State Network). IsMetWhole x.state (x.blocks ++ []) 1) m.2
          (subst (λ bs. IsMetWhole (whole_of (state m.0.state)) bs 1) (sym (append-nil (map block m.0.blocks)))
          (met (state m.0.state) m.0.blocks 1 (each m.0 m.1))));
    }

    -- what is called is called
    called : (i j : ℕ) (rest : List ℕ) (steps : ℕ)
        → IsCalledIn state frame numbers listing total u places caller i j rest steps
        → IsCalled rules table low least meant (map place_of places) (whole_of (state i)) (block j) (map block rest)
        steps
    called i j rest steps h =
        let here : State = whole_of (state i) in
        let exit = lifted_exit state block frame j here in
        let part : IsPart (frame j) here (state h.part) =
        h.is_part ∙ sym (inner_part (frame caller) (frame j) s (state i) h.inside) in
        record {
          summary = lifted_summary state block frame j here h.summary;
          listed = stands.listed h.part j h.summary here h.listed part;
          met = λ e there.
              (let m = in_mapped exit e h.summary.exits there in
              subst (λ (x : Exit State). IsMetWhole x.state (map block rest) (steps + x.cost)) m.2
              (subst (λ (q : State). IsMetWhole q (map block rest) (steps + m.0.cost))
              (sym (nested_lift (frame caller) (frame j) s (state i) (state m.0.state) h.inside))
              (met (lift (frame j) (state i) (state m.0.state)) rest (steps + m.0.cost) (h.met m.0 m.1))));
          floor = (let below = h.floor in let l = counted rest in omega arith);
        }

    -- what is followed is followed
    followed : (i : ℕ) (js : List ℕ) (steps : ℕ)
        → IsFollowedIn state frame numbers listing total u places caller i js steps
        → IsFollowedByCalls rules table low least meant (map place_of places) (whole_of (state i)) (map block js) steps
    followed i [] steps h = covers i steps h
    followed i (j ∷ js) steps h = called i j js steps h

  -- a call that is closed in its frame is closed in each state with its part
  closed : (i j : ℕ) (u : Summary ℕ) (s : State) → IsPart (frame j) s (state i)
      → IsClosedIn state frame numbers listing total i j u
      → IsClosed rules table low least s (block j) (lifted_summary state block frame j s u)
  closed i j u s part h = record {
    places = map (place_of j s u h.places) h.places;
    begun = stepped j s u h.places i h.rules_of part h.known h.met;
    followed = λ p there.
        (let m = in_mapped (place_of j s u h.places) p h.places there in
        subst
        (λ (x : Place State Network). IsFollowedByCalls rules table low least (lifted_summary state block frame j s u)
        (map (place_of j s u h.places) h.places) x.state x.blocks x.distance) m.2
        (followed j s u h.places m.0.state m.0.blocks m.0.distance (h.followed m.0 m.1)));
  }

  -- so the table is
  all_closed : AreClosedIn state frame numbers listing total → AreClosed rules table low least
  all_closed each s b u listed =
      let o = stands.only s b u listed in
      subst (λ x. IsClosed rules table low least s x u) o.4
      (subst (λ x. IsClosed rules table low least s (block o.1) x) o.6
      (closed o.0 o.1 o.2 s o.3 (each o.0 o.1 o.2 o.5)))

-- a table of calls that are closed in their frames is closed
pub frames_lift : FramesLift
frames_lift = all_closed
