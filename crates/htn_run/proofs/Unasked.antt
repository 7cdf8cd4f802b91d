-- How words end that ask for no run, status by status.
use Rattle.std.proofs.Common.{◌≡◌, ◌⊎◌, ℕ, ◌+◌, ◌≤◌, Bool, true, List, Option, inl, inr, arith, codes}
use Rattle.htn_command.specs.Help.{IsOfWords, RefusesWords, ShowsHelp, ShowsVersion}
use Rattle.htn_command.specs.declared.refusal.Refusal.{Refusal}
use Rattle.htn_run.specs.Refusals.{EndsRefusal, IsAdded, IsLost, IsWanting}

module _ {O E : Type 0} (contents : O → Option (List ℕ)) (has_failed : O → Bool) (beside : E → Option (List ℕ)) (is_lost : E → Bool)
    (refusal : Refusal) (old new : O) (err err' : E) (status : ℕ) where
  -- the refusal ended so
  abbrev Ends : Type 0
  Ends = EndsRefusal contents has_failed beside is_lost refusal old new err err' status

  -- a text was shown
  pub at_zero : Ends → status ≡ 0 → (ShowsHelp refusal ⊎ ShowsVersion refusal) × IsAdded contents has_failed beside is_lost old new err err'
  at_zero (inl (t, inl z)) is = (t, z.1)
  at_zero (inl (t, inr (inl w))) is = let e = w.0 in absurd (omega arith)
  at_zero (inl (t, inr (inr l))) is = let e = l.0 in absurd (omega arith)
  at_zero (inr (inl w)) is = let e = w.2 in absurd (omega arith)
  at_zero (inr (inr m)) is = let e = m.0 in absurd (omega arith)

  -- the words are refused
  pub at_two : Ends → status ≡ 2 → IsOfWords refusal × RefusesWords refusal
  at_two (inl (t, inl z)) is = let e = z.0 in absurd (omega arith)
  at_two (inl (t, inr (inl w))) is = let e = w.0 in absurd (omega arith)
  at_two (inl (t, inr (inr l))) is = let e = l.0 in absurd (omega arith)
  at_two (inr (inl w)) is = (w.0, w.1)
  at_two (inr (inr m)) is = let e = m.0 in absurd (omega arith)

  -- memory was refused
  pub at_four : Ends → status ≡ 4 → IsWanting contents has_failed beside is_lost old new err err'
  at_four (inl (t, inl z)) is = let e = z.0 in absurd (omega arith)
  at_four (inl (t, inr (inl w))) is = w.1
  at_four (inl (t, inr (inr l))) is = let e = l.0 in absurd (omega arith)
  at_four (inr (inl w)) is = let e = w.2 in absurd (omega arith)
  at_four (inr (inr m)) is = m.1

  -- the output failed
  pub at_five : Ends → status ≡ 5 → (ShowsHelp refusal ⊎ ShowsVersion refusal) × IsLost contents has_failed beside is_lost old new err err'
  at_five (inl (t, inl z)) is = let e = z.0 in absurd (omega arith)
  at_five (inl (t, inr (inl w))) is = let e = w.0 in absurd (omega arith)
  at_five (inl (t, inr (inr l))) is = (t, l.1)
  at_five (inr (inl w)) is = let e = w.2 in absurd (omega arith)
  at_five (inr (inr m)) is = let e = m.0 in absurd (omega arith)

  -- no other status
  pub never : Ends → (status ≡ 1) ⊎ ((status ≡ 3) ⊎ (status ≡ 6)) → ⊥
  never (inl (t, inl z)) (inl is) = let e = z.0 in omega arith
  never (inl (t, inl z)) (inr (inl is)) = let e = z.0 in omega arith
  never (inl (t, inl z)) (inr (inr is)) = let e = z.0 in omega arith
  never (inl (t, inr (inl w))) (inl is) = let e = w.0 in omega arith
  never (inl (t, inr (inl w))) (inr (inl is)) = let e = w.0 in omega arith
  never (inl (t, inr (inl w))) (inr (inr is)) = let e = w.0 in omega arith
  never (inl (t, inr (inr l))) (inl is) = let e = l.0 in omega arith
  never (inl (t, inr (inr l))) (inr (inl is)) = let e = l.0 in omega arith
  never (inl (t, inr (inr l))) (inr (inr is)) = let e = l.0 in omega arith
  never (inr (inl w)) (inl is) = let e = w.2 in omega arith
  never (inr (inl w)) (inr (inl is)) = let e = w.2 in omega arith
  never (inr (inl w)) (inr (inr is)) = let e = w.2 in omega arith
  never (inr (inr m)) (inl is) = let e = m.0 in omega arith
  never (inr (inr m)) (inr (inl is)) = let e = m.0 in omega arith
  never (inr (inr m)) (inr (inr is)) = let e = m.0 in omega arith

  -- and none past six
  pub at_most_six : Ends → status ≤ 6
  at_most_six (inl (t, inl z)) = let e = z.0 in omega arith
  at_most_six (inl (t, inr (inl w))) = let e = w.0 in omega arith
  at_most_six (inl (t, inr (inr l))) = let e = l.0 in omega arith
  at_most_six (inr (inl w)) = let e = w.2 in omega arith
  at_most_six (inr (inr m)) = let e = m.0 in omega arith

  -- the output works where a text was shown
  pub still_works : Ends → status ≤ 1 → has_failed new ≡ has_failed old
  still_works (inl (t, inl z)) low = z.1.1
  still_works (inl (t, inr (inl w))) low = let e = w.0 in absurd (omega arith)
  still_works (inl (t, inr (inr l))) low = let e = l.0 in absurd (omega arith)
  still_works (inr (inl w)) low = let e = w.2 in absurd (omega arith)
  still_works (inr (inr m)) low = let e = m.0 in absurd (omega arith)

  -- and is as it was where the words or memory are refused
  pub as_before : Ends → 2 ≤ status → status ≤ 4 → new ≡ old
  as_before (inl (t, inl z)) low high = let e = z.0 in absurd (omega arith)
  as_before (inl (t, inr (inl w))) low high = w.1.0
  as_before (inl (t, inr (inr l))) low high = let e = l.0 in absurd (omega arith)
  as_before (inr (inl w)) low high = w.3
  as_before (inr (inr m)) low high = m.1.0
