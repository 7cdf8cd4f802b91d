-- Successors made in the order of their numbers.
use Rattle.std.proofs.Common.{◌≡◌, ℕ, zero, suc, ◌+◌, ◌<◌, ◌≤◌, true, false, true≢false, List, [], ◌∷◌, ◌++◌, All, length, map, get_or, Some, None, append_assoc, refl, sym, ap, subst, ◌∙◌, inl, inr, arith}
use Rattle.std.specs.List.{AllZip}
use Rattle.std.specs.List.Sorted.{IsStrictlyIncreasing}
use Rattle.std.proofs.lemmas.Bool.{cases_lt}
use Rattle.std.proofs.lemmas.List.{length-append, get_or_append_left, get_or-append-add, append-nil, map-append}
use Rattle.std.proofs.lemmas.List.Elements.{All-append, All-cons, All-nil, Contains-append_left, Contains-append_right}
use Rattle.std.proofs.lemmas.Option.{none-some, same_Some}
use Rattle.word_machine.specs.declared.closed.Origin.TheVariants.{Step as Stepped}
use Rattle.word_machine.specs.declared.closed.Measured.{Measured}
use Rattle.word_machine.specs.declared.closed.Successor.{Successor}
use Rattle.word_machine.specs.Expansion.{IsSuccessor, IsExpansionOf, IsLeastDone}
use Rattle.word_machine.specs.Machine.{WordMachine, IsDone, IsLiveStep}
use Rattle.word_machine.specs.Meaning.{AreMeasured, AreSuccessors, Meaning, successor_at, successors_of}
use Rattle.task_machine.specs.Prefix.{StepBelow, IsPrefix, IsMade}

-- what holds of two lists place by place still does with one more of each
all_zip_push : {A B : Type 0} (R : A → B → Type 0) (xs : List A) (ys : List B) (x : A) (y : B) → AllZip R xs ys
    → R x y → AllZip R (xs ++ x ∷ []) (ys ++ y ∷ [])
all_zip_push R [] [] x y each last = (last, tt)
all_zip_push R [] (b ∷ ys) x y each last = absurd each
all_zip_push R (a ∷ xs) [] x y each last = absurd each
all_zip_push R (a ∷ xs) (b ∷ ys) x y each last = (each.0, all_zip_push R xs ys x y each.1 last)

-- what follows place by place
all_zip_by : {A B : Type 0} (R S : A → B → Type 0) → ((x : A) (y : B) → R x y → S x y) → (xs : List A) (ys : List B)
    → AllZip R xs ys → AllZip S xs ys
all_zip_by R S implies [] [] each = tt
all_zip_by R S implies [] (b ∷ ys) each = absurd each
all_zip_by R S implies (a ∷ xs) [] each = absurd each
all_zip_by R S implies (a ∷ xs) (b ∷ ys) each = (implies a b each.0, all_zip_by R S implies xs ys each.1)

-- what stands beside the element at a place
all_zip_beside : {A B : Type 0} (R : A → B → Type 0) (xs : List A) (ys : List B) (k : ℕ) (d : A) → AllZip R xs ys
    → k < length xs → (y : B) × R (get_or xs k d) y
all_zip_beside R [] ys k d each inside = absurd (omega arith)
all_zip_beside R (a ∷ xs) [] k d each inside = absurd each
all_zip_beside R (a ∷ xs) (b ∷ ys) zero d each inside = (b, each.0)
all_zip_beside R (a ∷ xs) (b ∷ ys) (suc k) d each inside =
    all_zip_beside R xs ys k d each.1 (let low : k < length xs = omega arith in low)

-- numbers that ascend still do with a greater one behind them
rises_push : (xs : List ℕ) (x : ℕ) → IsStrictlyIncreasing xs → ((k : ℕ) → k < length xs → get_or xs k 0 < x)
    → IsStrictlyIncreasing (xs ++ x ∷ [])
rises_push xs x rises below k inside =
    let long = length-append xs (x ∷ []) in
    let low : k < length xs = omega arith in
    let here : get_or (xs ++ x ∷ []) k 0 ≡ get_or xs k 0 = get_or_append_left xs (x ∷ []) 0 k low in
    elim (cases_lt (k + 1) (length xs)) [
      | inl early ↦ (
          let next : get_or (xs ++ x ∷ []) (k + 1) 0 ≡ get_or xs (k + 1) 0 =
          get_or_append_left xs (x ∷ []) 0 (k + 1) early in
          let rise = rises k early in
          omega arith)
      | inr late ↦ (
          let end : k + 1 ≡ length xs + 0 = omega arith in
          let next : get_or (xs ++ x ∷ []) (k + 1) 0 ≡ x =
          ap (λ j. get_or (xs ++ x ∷ []) j 0) end ∙ get_or-append-add xs (x ∷ []) 0 0 in
          let rise = below k low in
          omega arith)
    ]

module _ {C : Type 0} (m : WordMachine C) (beyond : C → Type 0) (p : ℕ) (c : C) where
  -- a number leads to one at most
  one_live : (n : ℕ) (d e : C) → IsLiveStep m c n d → IsLiveStep m c n e → d ≡ e
  one_live n d e s t = same_Some d e (sym s.0 ∙ t.0)

  -- a successor by a number below the bound
  abbrev IsBelow : ℕ → ℕ → Successor C → Type 0
  IsBelow bound = IsSuccessor (StepBelow m beyond bound) (IsDone m) p c

  -- none by no numbers
  pub prefix_none : IsPrefix m beyond p c 0 []
  prefix_none = record {
    numbers = [];
    ascending = λ k inside. absurd (omega arith);
    each = tt;
    all = λ n d step. absurd (let low : n < 0 = step.1 in omega arith);
  }

  -- a successor by a number below a bound is one by a number below the next
  raised : (bound n : ℕ) (s : Successor C) → IsBelow bound n s → IsBelow (bound + 1) n s
  raised bound n s of = record {
    origin = of.origin;
    step = (of.step.0, let low : n < bound = of.step.1 in let lower : n < bound + 1 = omega arith in lower);
    unfinished = of.unfinished;
  }

  -- a number that leads nowhere changes nothing
  pub prefix_skip : (bound : ℕ) (xs : List (Successor C)) → IsPrefix m beyond p c bound xs
      → ((d : C) → IsLiveStep m c bound d → ⊥) → IsPrefix m beyond p c (bound + 1) xs
  prefix_skip bound xs of none = record {
    numbers = of.numbers;
    ascending = of.ascending;
    each = all_zip_by (IsBelow bound) (IsBelow (bound + 1)) (raised bound) of.numbers xs of.each;
    all = λ n d step. elim (cases_lt n bound) [
      | inl low ↦ of.all n d (step.0, low)
      | inr high ↦ (
          let under : n < bound + 1 = step.1 in
          let same : n ≡ bound = omega arith in
          absurd (none d (subst (λ k. IsLiveStep m c k d) same step.0)))
    ];
  }

  -- a number that leads to what may be left out changes nothing
  pub prefix_past : (bound : ℕ) (xs : List (Successor C)) → IsPrefix m beyond p c bound xs → (d : C) → IsLiveStep m c bound d
      → (IsDone m d → ⊥) × beyond d → IsPrefix m beyond p c (bound + 1) xs
  prefix_past bound xs of d step missed = record {
    numbers = of.numbers;
    ascending = of.ascending;
    each = all_zip_by (IsBelow bound) (IsBelow (bound + 1)) (raised bound) of.numbers xs of.each;
    all = λ n e leads. elim (cases_lt n bound) [
      | inl low ↦ of.all n e (leads.0, low)
      | inr high ↦ (
          let under : n < bound + 1 = leads.1 in
          let same : n ≡ bound = omega arith in
          let own : d ≡ e = one_live bound d e step (subst (λ k. IsLiveStep m c k e) same leads.0) in
          inr (subst (λ x. (IsDone m x → ⊥) × beyond x) own missed))
    ];
  }

  -- a number of the prefix is below the bound
  under : (bound : ℕ) (xs : List (Successor C)) (of : IsPrefix m beyond p c bound xs) (k : ℕ) → k < length of.numbers
      → get_or of.numbers k 0 < bound
  under bound xs of k inside = (all_zip_beside (IsBelow bound) of.numbers xs k 0 of.each inside).1.step.1

  -- the successor by the next number goes last
  pub prefix_more : (bound : ℕ) (xs : List (Successor C)) → IsPrefix m beyond p c bound xs → (d : C)
      → IsLiveStep m c bound d → (IsDone m d → ⊥)
      → IsPrefix m beyond p c (bound + 1) (xs ++ record { origin = Stepped p bound; configuration = d } ∷ [])
  prefix_more bound xs of d step unfinished = record {
    numbers = of.numbers ++ bound ∷ [];
    ascending = rises_push of.numbers bound of.ascending (under bound xs of);
    each =
        all_zip_push (IsBelow (bound + 1)) of.numbers xs bound (record { origin = Stepped p bound; configuration = d })
        (all_zip_by (IsBelow bound) (IsBelow (bound + 1)) (raised bound) of.numbers xs of.each)
        (record { origin = refl; step = (step, omega arith); unfinished = unfinished });
    all = λ n e leads. elim (cases_lt n bound) [
      | inl low ↦ elim (of.all n e (leads.0, low)) [
        | inl there ↦ inl (Contains-append_left of.numbers (bound ∷ []) n there)
        | inr missed ↦ inr missed
      ]
      | inr high ↦ (
          let low : n < bound + 1 = leads.1 in
          let same : bound ≡ n = omega arith in
          let inside : 0 < length (bound ∷ []) = omega arith in
          inl (Contains-append_right of.numbers (bound ∷ []) n (0, inside, same)))
    ];
  }

  -- past all that leads on, they are the whole expansion
  pub prefix_whole : (bound : ℕ) (xs : List (Successor C)) → IsPrefix m beyond p c bound xs
      → ((n : ℕ) (d : C) → IsLiveStep m c n d → n < bound) → IsExpansionOf (IsLiveStep m) (IsDone m) beyond p c xs
  prefix_whole bound xs of within = record {
    numbers = of.numbers;
    ascending = of.ascending;
    each =
        all_zip_by (IsBelow bound) (IsSuccessor (IsLiveStep m) (IsDone m) p c)
        (λ n s at. record { origin = at.origin; step = at.step.0; unfinished = at.unfinished }) of.numbers xs of.each;
    all = λ n d step. of.all n d (step, within n d step);
  }

  -- the next number is the least that leads to a done one
  pub prefix_done : (bound : ℕ) (xs : List (Successor C)) → IsPrefix m beyond p c bound xs → (d : C)
      → IsLiveStep m c bound d → IsDone m d → IsLeastDone (IsLiveStep m) (IsDone m) c bound
  prefix_done bound xs of d step done = record {
    to = d;
    step = step;
    done = done;
    least = λ n e low leads finish. elim (of.all n e (leads, low)) [
      | inl place ↦
          let beside = all_zip_beside (IsBelow bound) of.numbers xs place.0 n of.each place.1 in
          let live = subst (λ k. IsLiveStep m c k beside.0.configuration) place.2 beside.1.step.0 in
          beside.1.unfinished (subst (IsDone m) (one_live n e beside.0.configuration leads live) finish)
      | inr missed ↦ missed.0 finish
    ];
  }

-- ## By what the successors stand for

module _ {C R P : Type 0} (m : WordMachine P) (meaning : Meaning C R P) (beyond : P → Type 0) (measure : P → ℕ)
    (undead : (c : P) (n : ℕ) → m.is_dead c n ≡ false) (p : ℕ) (c : C) where
  -- the tables have what it reached
  abbrev IsAllowed : Successor R → Type 0
  IsAllowed s = meaning.allows s.configuration

  -- what is left of it is measured
  abbrev IsMeasured : Measured R → Type 0
  IsMeasured s = s.left ≡ measure (meaning.point_of s.successor.configuration)

  -- what they stand for
  abbrev views : List (Measured R) → List (Successor P)
  views measured = map (successor_at meaning.point_of) (successors_of measured)

  -- a step by a number is a live one
  alive : (n : ℕ) (d : P) → m.step (meaning.point c) n ≡ Some d → IsLiveStep m (meaning.point c) n d
  alive n d leads = (leads, λ dead. true≢false (sym dead ∙ undead (meaning.point c) n))

  -- one more successor
  successors_more : (measured : List (Measured R)) (s : Measured R) → successors_of (measured ++ s ∷ []) ≡ successors_of measured ++ s.successor ∷ []
  successors_more measured s = map-append (λ (x : Measured R). x.successor) measured (s ∷ [])

  -- and what it stands for
  views_more : (measured : List (Measured R)) (s : Measured R) → views (measured ++ s ∷ []) ≡ views measured ++ successor_at meaning.point_of s.successor ∷ []
  views_more measured s =
      ap (map (successor_at meaning.point_of)) (successors_more measured s)
      ∙ map-append (successor_at meaning.point_of) (successors_of measured) (s.successor ∷ [])

  -- at first there are none
  pub made_none : (old : List (Measured R)) → IsMade m meaning beyond measure p c 0 old old
  made_none old = record {
    more = [];
    pushed = sym (append-nil old);
    allowed = All-nil IsAllowed;
    prefix = prefix_none m beyond p (meaning.point c);
    measured = All-nil IsMeasured;
  }

  module _ (n : ℕ) (old new : List (Measured R)) (so : IsMade m meaning beyond measure p c n old new) where
    -- past all that leads on, all of them were made
    pub made_whole : ((k : ℕ) → n ≤ k → m.step (meaning.point c) k ≡ None)
        → (more : List (Measured R)) × (new ≡ old ++ more) × AreSuccessors m meaning beyond p c (successors_of more)
        × AreMeasured measure meaning more
    made_whole none =
        let low = λ (k : ℕ) (d : P) (step : IsLiveStep m (meaning.point c) k d). elim (cases_lt k n) as (λ _. k < n) [
          | inl low ↦ low
          | inr high ↦ absurd (none-some d (sym (none k high) ∙ step.0))
        ] in
        (so.more, so.pushed, (so.allowed, prefix_whole m beyond p (meaning.point c) n (views so.more) so.prefix low), so.measured)

    -- a number that leads nowhere
    pub made_skip : m.step (meaning.point c) n ≡ None → IsMade m meaning beyond measure p c (n + 1) old new
    made_skip nowhere = record {
      more = so.more;
      pushed = so.pushed;
      allowed = so.allowed;
      prefix = prefix_skip m beyond p (meaning.point c) n (views so.more) so.prefix
          (λ d step. none-some d (sym nowhere ∙ step.0));
      measured = so.measured;
    }

    module _ (to : P) (at : m.step (meaning.point c) n ≡ Some to) where
      -- where it leads
      leads_to : IsLiveStep m (meaning.point c) n to
      leads_to = alive n to at

      -- a number that leads to what is not done
      pub made_more : m.is_done to ≡ false → (q : R) → meaning.allows q → meaning.point_of q ≡ to
          → (left : ℕ) → left ≡ measure to
          → IsMade m meaning beyond measure p c (n + 1) old
          (new ++ record { successor = record { origin = Stepped p n; configuration = q }; left = left } ∷ [])
      made_more unfinished q may same left measured =
          let x : Successor R = record { origin = Stepped p n; configuration = q } in
          let s : Measured R = record { successor = x; left = left } in
          record {
            more = so.more ++ s ∷ [];
            pushed = ap (λ l. l ++ s ∷ []) so.pushed ∙ append_assoc old so.more (s ∷ []);
            allowed = subst (All IsAllowed) (sym (successors_more so.more s))
                (All-append IsAllowed (successors_of so.more) (x ∷ []) so.allowed
                (All-cons IsAllowed x [] may (All-nil IsAllowed)));
            prefix = subst (IsPrefix m beyond p (meaning.point c) (n + 1)) (sym (views_more so.more s))
                (prefix_more m beyond p (meaning.point c) n (views so.more) so.prefix (meaning.point_of q)
                (subst (IsLiveStep m (meaning.point c) n) (sym same) leads_to)
                (λ done. true≢false (sym done ∙ ap m.is_done same ∙ unfinished)));
            measured = All-append IsMeasured so.more (s ∷ []) so.measured
                (All-cons IsMeasured s [] (measured ∙ ap measure (sym same)) (All-nil IsMeasured));
          }

      -- a number that leads to what is beyond, and not done
      pub made_past : m.is_done to ≡ false → beyond to → IsMade m meaning beyond measure p c (n + 1) old new
      made_past unfinished far = record {
        more = so.more;
        pushed = so.pushed;
        allowed = so.allowed;
        prefix = prefix_past m beyond p (meaning.point c) n (views so.more) so.prefix to leads_to
            (λ done. true≢false (sym done ∙ unfinished), far);
        measured = so.measured;
      }

      -- a number that leads to what is done is the least
      pub made_done : m.is_done to ≡ true
          → IsLeastDone (IsLiveStep m) (IsDone m) (meaning.point c) n
      made_done done =
          prefix_done m beyond p (meaning.point c) n (views so.more) so.prefix to leads_to done
