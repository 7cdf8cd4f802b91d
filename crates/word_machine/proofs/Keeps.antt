-- Each step of a desk keeps its rule.
use Rattle.std.proofs.Common.{◌≡◌, ◌≢◌, ℕ, zero, suc, ◌+◌, ◌%◌, ◌^◌, ◌<◌, ◌≤◌, min, Bool, true, false, cond, eqb, ltb, List, [], ◌∷◌, ◌++◌, length, get_or, set, refl, sym, ap, ◌∙◌, subst, ⊎_elim, arith, length-set, get_or-set_same, get_or-set_other, sum_by}
use mathlib.Core.Option.{none, some, some-injective, some-ne-none}
use mathlib.Core.Logic.{dite}
use native.Mathlib.Decide.{dec_le, ℕ_discrete}
use lib.ListN.{get_elem?}
use Rattle.std.proofs.lemmas.Bool.Decides.{nat_tests}
use Rattle.std.proofs.lemmas.List.Sums.{sum_by-cons, sum_by-append, sum_by_push}
use Rattle.atomic_table.specs.Table.{State, Me, step, keeps, stepped, opening, Allows, Splits, Joins}
use Rattle.atomic_table.proofs.Lists.{at_set, at_snoc, set_again}
use Rattle.word_machine.specs.declared.view.Size.{Size}
use Rattle.word_machine.specs.declared.view.View.{View}
use Rattle.word_machine.specs.Desk.{times, once_below, HasEachBelow}
use Rattle.word_machine.specs.Views.{no_place, whole, one_seat, spent_view, without_one, joined, draws, reports, looks, Sits, Numbers, Places, Seats, Kept, drew, ended_view, reported_view, saw, Draws, Reports, Looks}

-- ---- sums over the views

-- where one view is changed, the sum changes by what that view's part does
sum-set : (f : View → ℕ) (views : List View) (port : ℕ) (v w : View) → get_elem? views port ≡ some v → sum_by f (set views port w) + f v ≡ sum_by f views + f w
sum-set f [] port v w e = absurd (some-ne-none v (sym e))
sum-set f (x ∷ xs) zero v w e = let is : f x ≡ f v = ap f (some-injective x v e) in omega (arith, sum_by-cons f w xs, sum_by-cons f x xs)
sum-set f (x ∷ xs) (suc i) v w e = let r = sum-set f xs i v w e in omega (arith, sum_by-cons f x (set xs i w), sum_by-cons f x xs)

-- where a view is changed and its part stays, so does the sum
sum-set_same : (f : View → ℕ) (views : List View) (port : ℕ) (v w : View) → get_elem? views port ≡ some v → f w ≡ f v → sum_by f (set views port w) ≡ sum_by f views
sum-set_same f views port v w e is = omega (arith, sum-set f views port v w e)

-- where a view is cut in two whose parts make up its own, the sum stays
sum-cut : (f : View → ℕ) (views : List View) (port : ℕ) (v left right : View) → get_elem? views port ≡ some v → f left + f right ≡ f v → sum_by f (set views port left ++ right ∷ []) ≡ sum_by f views
sum-cut f views port v left right e is = omega (arith, sum-set f views port v left e, sum_by_push f (set views port left) right)

-- where two views become one and a spent one with the same parts, the sum stays
sum-glued : (f : View → ℕ) (views : List View) (port other : ℕ) (v w both spent : View) → get_elem? views port ≡ some v → get_elem? (set views port both) other ≡ some w → f both + f spent ≡ f v + f w
    → sum_by f (set (set views port both) other spent) ≡ sum_by f views
sum-glued f views port other v w both spent e e' is = omega (arith, sum-set f views port v both e, sum-set f (set views port both) other w spent e')

-- no view's part is more than the sum
part-le-sum : (f : View → ℕ) (views : List View) (port : ℕ) (v : View) → get_elem? views port ≡ some v → f v ≤ sum_by f views
part-le-sum f [] port v e = absurd (some-ne-none v (sym e))
part-le-sum f (x ∷ xs) zero v e = let is : f x ≡ f v = ap f (some-injective x v e) in omega (arith, sum_by-cons f x xs)
part-le-sum f (x ∷ xs) (suc i) v e = let r = part-le-sum f xs i v e in omega (arith, sum_by-cons f x xs)

-- where one term is at most another everywhere, so are the sums
sum-le : (f g : View → ℕ) (views : List View) → ((port : ℕ) (v : View) → get_elem? views port ≡ some v → f v ≤ g v) → sum_by f views ≤ sum_by g views
sum-le f g [] h = omega arith
sum-le f g (x ∷ xs) h = let a : f x ≤ g x = h 0 x refl in let r = sum-le f g xs (λ port v e. h (suc port) v e) in omega (arith, sum_by-cons f x xs, sum_by-cons g x xs)

-- ---- the draw word

-- a seat has ended only if the draw word is above `pieces`
pub ended_past : (pieces draw : ℕ) (views : List View) → Numbers pieces draw views → 0 < sum_by (λ v. v.ended) views → pieces < draw
ended_past pieces draw views numbers some_ended = let counted = numbers.counted in omega arith

-- ---- how often a number stands in a list

-- how often a number stands in a list with one more at its end
pub times-push : (x y : ℕ) (xs : List ℕ) → times x (xs ++ y ∷ []) ≡ times x xs + cond (eqb y x) 1 0
times-push x y xs = sum_by_push (λ (z : ℕ). cond (eqb z x) 1 0) xs y

-- one where two numbers are equal, else none
abbrev pub once : ℕ → ℕ → ℕ
once y x = cond (eqb y x) 1 0

-- a number stands once where it is itself
pub once-same : (x : ℕ) → once x x ≡ 1
once-same x = grind (arith, nat_tests)

-- a number doesn't stand where another is
pub once-other : (y x : ℕ) → y ≢ x → once y x ≡ 0
once-other y x apart = grind (arith, nat_tests)

-- how often a number stands in two lists together
pub times-append : (x : ℕ) (xs ys : List ℕ) → times x (xs ++ ys) ≡ times x xs + times x ys
times-append x xs ys = sum_by-append (λ (z : ℕ). cond (eqb z x) 1 0) xs ys

-- one more below the bound: that bound itself
once-suc : (x n : ℕ) → once_below x (n + 1) ≡ once_below x n + cond (eqb n x) 1 0
once-suc x n = grind (arith, nat_tests)

-- what is counted below a bound is below it
below_of_once : (x n : ℕ) → 0 < once_below x n → x < n
below_of_once x n h = grind (arith, nat_tests)

-- ---- the rule where sums stay

module _ (views views' : List View) where
  -- where draws and ends stay as often, the rule on numbers stays
  numbers_stay : {pieces draw : ℕ} → ((x : ℕ) → draws x views' ≡ draws x views) → sum_by (λ v. v.ended) views' ≡ sum_by (λ v. v.ended) views → Numbers pieces draw views → Numbers pieces draw views'
  numbers_stay {pieces = pieces} {draw = draw} d e r = record { drawn = λ x. d x ∙ r.drawn x; counted = r.counted ∙ ap (λ (n : ℕ). min draw pieces + n) (sym e) }

  -- where reports and looks stay as often, the rule on places stays
  places_stay : {least : ℕ} → ((x : ℕ) → reports x views' ≡ reports x views) → ((x : ℕ) → looks x views' ≡ looks x views) → Places least views → Places least views'
  places_stay {least = least} p l r = record {
    lowest = λ x h. r.lowest x (subst (λ n. 0 < n) (p x) h);
    reached = λ h. subst (λ n. 0 < n) (sym (p least)) (r.reached h);
    seen = λ x h. let t = r.seen x (subst (λ n. 0 < n) (l x) h) in (t.0, subst (λ n. 0 < n) (sym (p x)) t.1);
  }

-- where one view is changed and sits, all sit
each_set : (size : Size) (views : List View) (port : ℕ) (w : View) → ((j : ℕ) (v : View) → get_elem? views j ≡ some v → Sits size v) → Sits size w
    → (j : ℕ) (v : View) → get_elem? (set views port w) j ≡ some v → Sits size v
each_set size views port w each sits j v e =
    ⊎_elim (λ (t : (j ≡ port) × (w ≡ v)). subst (Sits size) t.1 sits) (λ (t : (j ≢ port) × (get_elem? views j ≡ some v)). each j v t.1) (at_set views port j w v e)

-- where one view is changed and keeps its seats, the rule on seats stays
seats_set : (size : Size) (views : List View) (port : ℕ) (v w : View) → Seats size views → get_elem? views port ≡ some v → w.seats ≡ v.seats → Sits size w → Seats size (set views port w)
seats_set size views port v w r at is sits = record {
  few = r.few;
  all = sum-set_same (λ (u : View). u.seats) views port v w at is ∙ r.all;
  each = each_set size views port w r.each sits;
}

-- a view that stands for a seat
seated : (size : Size) (v w : View) → Sits size v → 0 < v.seats → w.seats ≡ v.seats → w.size ≡ v.size → w.ended ≤ w.seats → Sits size w
seated size v w r some_seat is same ended = record { spent = λ none. absurd (omega arith); of_desk = λ _. same ∙ r.of_desk some_seat; ended = ended }

-- ---- the words after a step

-- a word that was set has the value
word-set_here : (words : List ℕ) (i m n : ℕ) → length words ≡ 2 → i < 2 → m ≡ n → get_or (set words i m) i 0 ≡ n
word-set_here words i m n wide below is = get_or-set_same words i m 0 (omega arith) ∙ is

-- the other word stays
word-set_other : (words : List ℕ) (i j m : ℕ) → i ≢ j → get_or (set words i m) j 0 ≡ get_or words j 0
word-set_other words i j m apart = get_or-set_other words i j m 0 (λ e. apart (sym e))

module _ (size : Size) (slots id : ℕ) (me : Me (Unit {0}) View) (one : me.0.seats ≡ 1) where
  -- the words and views of a desk
  abbrev St : Type 0
  St = State (Unit {0}) View

  -- the view of the pass
  abbrev v : View
  v = me.0

  -- ---- a draw

  -- the draw word is far from the end of a u64
  draw_below : (s : St) → Kept size s → get_or s.words 0 0 ≤ 2 ^ 63 + 64
  draw_below s r =
      let few = r.seated.few in let all = r.seated.all in let counted = r.numbers.counted in
      let le = sum-le (λ (u : View). u.ended) (λ (u : View). u.seats) s.views (λ port u e. (r.seated.each port u e).ended) in
      omega arith

  -- a draw of a number that was next keeps the rule on numbers
  drew_numbers : (s : St) (r : Kept size s) (n : ℕ) → get_elem? s.views id ≡ some v → n ≡ get_or s.words 0 0 → n < size.pieces → Numbers size.pieces (n + 1) (set s.views id (drew v n))
  drew_numbers s r n at is below =
      let here : Numbers size.pieces n s.views = subst (λ k. Numbers size.pieces k s.views) (sym is) r.numbers in
      let low : min n size.pieces ≡ n = omega arith in
      let high : min (n + 1) size.pieces ≡ n + 1 = omega arith in
      let same = sum-set_same (λ (u : View). u.ended) s.views id v (drew v n) at refl in
      let counted = here.counted in record {
        drawn = λ x.
            let old : draws x s.views ≡ once_below x n = here.drawn x ∙ ap (once_below x) low in
            let more = sum-set (λ (u : View). times x u.drawn) s.views id v (drew v n) at in
            let push = times-push x n v.drawn in
            let next = once-suc x n in
            let new : draws x (set s.views id (drew v n)) ≡ once_below x (n + 1) = omega arith in
            new ∙ ap (once_below x) (sym high);
        counted = omega arith;
      }

  -- an end that is found past the last number keeps the rule on numbers
  ended_numbers : (s : St) (r : Kept size s) (n : ℕ) → get_elem? s.views id ≡ some v → n ≡ get_or s.words 0 0 → size.pieces ≤ n → Numbers size.pieces (n + 1) (set s.views id (ended_view v))
  ended_numbers s r n at is above =
      let here : Numbers size.pieces n s.views = subst (λ k. Numbers size.pieces k s.views) (sym is) r.numbers in
      let low : min n size.pieces ≡ size.pieces = omega arith in
      let high : min (n + 1) size.pieces ≡ size.pieces = omega arith in
      let more = sum-set (λ (u : View). u.ended) s.views id v (ended_view v) at in
      let counted = here.counted in record {
        drawn = λ x. sum-set_same (λ (u : View). times x u.drawn) s.views id v (ended_view v) at refl ∙ (here.drawn x ∙ (ap (once_below x) low ∙ ap (once_below x) (sym high)));
        counted = omega arith;
      }

  -- a step on word 0 by which no report and no look changes
  drawn_kept : (s : St) (r : Kept size s) (n m : ℕ) (w : View) → get_elem? s.views id ≡ some v → m ≡ n + 1 → Numbers size.pieces (n + 1) (set s.views id w)
      → w.seats ≡ v.seats → w.size ≡ v.size → w.ended ≤ w.seats → w.reported ≡ v.reported → w.seen ≡ v.seen → Kept size (stepped s 0 m id me.1 w keeps)
  drawn_kept s r n m w at is numbers seats_stay of_desk ended reported seen = record {
    words = length-set s.words 0 m ∙ r.words;
    numbers = subst (λ k. Numbers size.pieces k (set s.views id w)) (sym (word-set_here s.words 0 m (n + 1) r.words (omega arith) is)) numbers;
    places = subst (λ k. Places k (set s.views id w)) (sym (word-set_other s.words 0 1 m (λ e. omega arith)))
        (places_stay s.views (set s.views id w) (λ x. sum-set_same (λ (u : View). times x u.reported) s.views id v w at (ap (times x) reported)) (λ x. sum-set_same (λ (u : View). times x u.seen) s.views id v w at (ap (times x) seen)) r.places);
    seated = seats_set size s.views id v w r.seated at seats_stay (seated size v w (r.seated.each id v at) (omega arith) seats_stay of_desk ended);
  }

  -- a draw keeps the whole rule, whether it gets a number or finds the end
  drawn_at : (s : St) (r : Kept size s) (n m : ℕ) (not_ended : v.ended ≡ 0) → get_elem? s.views id ≡ some v → n ≡ get_or s.words 0 0 → m ≡ n + 1 → (b : Bool) → ltb n v.size.pieces ≡ b
      → Kept size (stepped s 0 m id me.1 (cond b (drew v n) (ended_view v)) keeps)
  drawn_at s r n m not_ended at here is true below =
      let of_desk : v.size.pieces ≡ size.pieces = ap (λ (z : Size). z.pieces) ((r.seated.each id v at).of_desk (omega arith)) in
      let in_range : n < size.pieces = grind (arith, nat_tests) in
      drawn_kept s r n m (drew v n) at is (drew_numbers s r n at here in_range) refl refl (omega arith) refl refl
  drawn_at s r n m not_ended at here is false above =
      let of_desk : v.size.pieces ≡ size.pieces = ap (λ (z : Size). z.pieces) ((r.seated.each id v at).of_desk (omega arith)) in
      let past : size.pieces ≤ n = grind (arith, nat_tests) in
      drawn_kept s r n m (ended_view v) at is (ended_numbers s r n at here past) refl refl (omega arith) refl refl

  -- each number that the view has drawn is below the draw word
  drawn_below : (s : St) (r : Kept size s) → get_elem? s.views id ≡ some v → (x : ℕ) → 0 < times x v.drawn → x < get_or s.words 0 0
  drawn_below s r at x h =
      let n : ℕ = get_or s.words 0 0 in
      let mine = part-le-sum (λ (u : View). times x u.drawn) s.views id v at in
      let all = r.numbers.drawn x in
      let below = below_of_once x (min n size.pieces) (omega arith) in
      omega arith

  -- the step of a draw keeps the rule
  pub draws_keep : v.ended ≡ 0 → Allows (Kept size) slots id me 0 (λ n. (n + 1) % 2 ^ 64) (Draws (step slots 0 1 0 none) me)
  draws_keep not_ended s r _ at small =
      let n : ℕ = get_or s.words 0 0 in
      let far : n ≤ 2 ^ 63 + 64 = draw_below s r in
      let is : (n + 1) % 2 ^ 64 ≡ n + 1 = omega arith in
      (cond (ltb n v.size.pieces) (drew v n) (ended_view v), keeps, tt, drawn_at s r n ((n + 1) % 2 ^ 64) not_ended at refl is (ltb n v.size.pieces) refl, (refl, drawn_below s r at))

  -- ---- a report and a look

  -- a step on word 1 by which no draw changes
  placed_kept : (s : St) (r : Kept size s) (m least : ℕ) (w : View) → get_elem? s.views id ≡ some v → m ≡ least → Places least (set s.views id w)
      → w.seats ≡ v.seats → w.size ≡ v.size → w.ended ≡ v.ended → w.drawn ≡ v.drawn → Kept size (stepped s 1 m id me.1 w keeps)
  placed_kept s r m least w at is places seats_stay of_desk ended drawn =
      let sits = r.seated.each id v at in let few = sits.ended in record {
        words = length-set s.words 1 m ∙ r.words;
        numbers = subst (λ k. Numbers size.pieces k (set s.views id w)) (sym (word-set_other s.words 1 0 m (λ e. omega arith)))
            (numbers_stay s.views (set s.views id w) (λ x. sum-set_same (λ (u : View). times x u.drawn) s.views id v w at (ap (times x) drawn)) (sum-set_same (λ (u : View). u.ended) s.views id v w at ended) r.numbers);
        places = subst (λ k. Places k (set s.views id w)) (sym (word-set_here s.words 1 m least r.words (omega arith) is)) places;
        seated = seats_set size s.views id v w r.seated at seats_stay (seated size v w sits (omega arith) seats_stay of_desk (omega arith));
      }

  -- a report keeps the rule on places, and the least of it and the word is the new least
  reported_places : (least place : ℕ) (views : List View) → place < no_place → get_elem? views id ≡ some v → Places least views → Places (min least place) (set views id (reported_view v place))
  reported_places least place views below at r =
      let views' : List View = set views id (reported_view v place) in
      let more : (x : ℕ) → reports x views' ≡ reports x views + cond (eqb place x) 1 0 =
      λ x. let set_one = sum-set (λ (u : View). times x u.reported) views id v (reported_view v place) at in let push = times-push x place v.reported in omega arith in
      let same : (x : ℕ) → looks x views' ≡ looks x views = λ x. sum-set_same (λ (u : View). times x u.seen) views id v (reported_view v place) at refl in record {
        lowest = λ x h. let m = more x in let old = r.lowest x in dite (ℕ_discrete place x)
            (λ e. (omega arith, omega arith))
            (λ apart. let none = once-other place x apart in let t = old (omega arith) in (omega arith, omega arith));
        reached = λ h. reached_by least place views views' below more r (dec_le (suc place) least);
        seen = λ x h. let l = same x in let m = more x in let t = r.seen x (omega arith) in (omega arith, omega arith);
      }
    where
      reached_by : (least place : ℕ) (views views' : List View) → place < no_place → ((x : ℕ) → reports x views' ≡ reports x views + cond (eqb place x) 1 0) → Places least views → Dec (place < least) → 0 < reports (min least place) views'
      reached_by least place views views' below more r (yes d) =
          let is : min least place ≡ place = omega arith in
          let m = more place in
          let one = once-same place in
          let here : 0 < reports place views' = omega arith in
          subst (λ k. 0 < reports k views') (sym is) here
      reached_by least place views views' below more r (no d) =
          let is : min least place ≡ least = omega arith in
          let m = more least in let t = r.reached (omega arith) in
          let here : 0 < reports least views' = omega arith in
          subst (λ k. 0 < reports k views') (sym is) here

  -- the step of a report keeps the rule
  pub reports_keep : (place : ℕ) → place < no_place → Allows (Kept size) slots id me 1 (λ n. min n place) (Reports (step slots 1 place 0 none) me)
  reports_keep place below s r _ at small =
      let n : ℕ = get_or s.words 1 0 in
      (reported_view v place, keeps, tt, placed_kept s r (min n place) (min n place) (reported_view v place) at refl (reported_places n place s.views below at r.places) refl refl refl refl, refl)

  -- a look that sees the least place keeps the rule on places
  saw_places : (least : ℕ) (views : List View) → least < no_place → get_elem? views id ≡ some v → Places least views → Places least (set views id (saw v least))
  saw_places least views below at r =
      let views' : List View = set views id (saw v least) in
      let same : (x : ℕ) → reports x views' ≡ reports x views = λ x. sum-set_same (λ (u : View). times x u.reported) views id v (saw v least) at refl in
      let more : (x : ℕ) → looks x views' ≡ looks x views + cond (eqb least x) 1 0 =
      λ x. let set_one = sum-set (λ (u : View). times x u.seen) views id v (saw v least) at in let push = times-push x least v.seen in omega arith in record {
        lowest = λ x h. let p = same x in r.lowest x (omega arith);
        reached = λ h. let p = same least in let t = r.reached h in omega arith;
        seen = λ x h. let m = more x in let old = r.seen x in let p = same x in dite (ℕ_discrete least x)
            (λ e. let t : 0 < reports x views = subst (λ k. 0 < reports k views) e (r.reached below) in (omega arith, omega arith))
            (λ apart. let none = once-other least x apart in let t = old (omega arith) in (omega arith, omega arith));
      }

  -- what the view of a pass has is not below the least word
  not_below : (s : St) (r : Kept size s) → get_elem? s.views id ≡ some v → (x : ℕ) → 0 < times x v.reported + times x v.seen → (get_or s.words 1 0 ≤ x) × (x < no_place)
  not_below s r at x h =
      let mine = part-le-sum (λ (u : View). times x u.reported) s.views id v at in
      let mine_seen = part-le-sum (λ (u : View). times x u.seen) s.views id v at in
      let lowest = r.places.lowest x in
      let seen = r.places.seen x in dite (ℕ_discrete (times x v.reported) 0)
      (λ e. let t = seen (omega arith) in lowest t.1)
      (λ some_reported. lowest (omega arith))

  -- a look keeps the whole rule, whether it sees a place or none
  looked_at : (s : St) (r : Kept size s) (n : ℕ) → n ≡ get_or s.words 1 0 → get_elem? s.views id ≡ some v → (b : Bool) → ltb n no_place ≡ b → Kept size (stepped s 1 n id me.1 (cond b (saw v n) v) keeps)
  looked_at s r n is at true below =
      let here : Places n s.views = subst (λ k. Places k s.views) (sym is) r.places in
      placed_kept s r n n (saw v n) at refl (saw_places n s.views (grind (arith, nat_tests)) at here) refl refl refl refl
  looked_at s r n is at false above =
      let here : Places n (set s.views id v) = subst (λ (z : ℕ × List View). Places z.0 z.1) (λ i. (sym is i, sym (set_again s.views id v at) i)) r.places in
      placed_kept s r n n v at refl here refl refl refl refl

  -- the step of a look keeps the rule
  pub looks_keep : Allows (Kept size) slots id me 1 (λ n. n) (Looks (step slots 1 0 0 none) me)
  looks_keep s r _ at small =
      let n : ℕ = get_or s.words 1 0 in
      (cond (ltb n no_place) (saw v n) v, keeps, tt, looked_at s r n refl at (ltb n no_place) refl, (refl, not_below s r at))

-- ---- views are cut and joined, and the desk opens and closes

module _ (size : Size) where
  -- a pass that gives a seat away keeps the rule
  pub splits : (id : ℕ) (v : View) → 2 ≤ v.seats → v.ended ≡ 0 → Splits (Kept size) id v (without_one v) (one_seat v.size)
  splits id v many none_ended s r at =
      let left : View = without_one v in
      let right : View = one_seat v.size in
      let cut : List View = set s.views id left in
      let views' : List View = cut ++ right ∷ [] in
      let sits = r.seated.each id v at in
      let same : (f : View → ℕ) → f left + f right ≡ f v → sum_by f views' ≡ sum_by f s.views = λ f e. sum-cut f s.views id v left right at e in
      let left_sits : Sits size left = record { spent = λ none. absurd (omega arith); of_desk = λ _. sits.of_desk (omega arith); ended = omega arith } in
      let right_sits : Sits size right = record { spent = λ none. absurd (omega arith); of_desk = λ _. sits.of_desk (omega arith); ended = omega arith } in record {
        words = r.words;
        numbers = numbers_stay s.views views' (λ x. same (λ (u : View). times x u.drawn) (omega arith)) (same (λ (u : View). u.ended) (omega arith)) r.numbers;
        places = places_stay s.views views' (λ x. same (λ (u : View). times x u.reported) (omega arith)) (λ x. same (λ (u : View). times x u.seen) (omega arith)) r.places;
        seated = record {
          few = r.seated.few;
          all = same (λ (u : View). u.seats) (omega arith) ∙ r.seated.all;
          each = λ j u e. ⊎_elim (each_set size s.views id left r.seated.each left_sits j u) (λ (t : right ≡ u). subst (Sits size) t right_sits) (at_snoc cut right u j e);
        };
      }

  -- a pass that takes another's seats keeps the rule
  pub joins : (id : ℕ) (v : View) (other : ℕ) (w : View) → 0 < v.seats → 0 < w.seats → Joins (Kept size) id v other w (joined w v) spent_view
  joins id v other w some_seat other_seat s r at apart there =
      let both : View = joined w v in
      let glued : List View = set s.views id both in
      let views' : List View = set glued other spent_view in
      let there_before : get_elem? s.views other ≡ some w = ⊎_elim (λ (t : (other ≡ id) × (both ≡ w)). absurd (apart t.0)) (λ (t : (other ≢ id) × (get_elem? s.views other ≡ some w)). t.1) (at_set s.views id other both w there) in
      let sits = r.seated.each id v at in
      let sits_other = r.seated.each other w there_before in
      let few = sits.ended in
      let few_other = sits_other.ended in
      let same : (f : View → ℕ) → f both + f spent_view ≡ f v + f w → sum_by f views' ≡ sum_by f s.views = λ f e. sum-glued f s.views id other v w both spent_view at there e in
      let both_sits : Sits size both = record { spent = λ none. absurd (omega arith); of_desk = λ _. sits_other.of_desk (omega arith); ended = omega arith } in
      let spent_sits : Sits size spent_view = record { spent = λ _. refl; of_desk = λ some_one. absurd (omega arith); ended = omega arith } in record {
        words = r.words;
        numbers = numbers_stay s.views views' (λ x. same (λ (u : View). times x u.drawn) (omega (arith, times-append x w.drawn v.drawn))) (same (λ (u : View). u.ended) (omega arith)) r.numbers;
        places = places_stay s.views views' (λ x. same (λ (u : View). times x u.reported) (omega (arith, times-append x w.reported v.reported))) (λ x. same (λ (u : View). times x u.seen) (omega (arith, times-append x w.seen v.seen))) r.places;
        seated = record {
          few = r.seated.few;
          all = same (λ (u : View). u.seats) (omega arith) ∙ r.seated.all;
          each = each_set size glued other spent_view (each_set size s.views id both r.seated.each both_sits) spent_sits;
        };
      }

  -- a new desk has the rule
  pub opens : size.pieces ≤ 2 ^ 63 → 0 < size.seats → size.seats ≤ 64 → Kept size (opening (0 ∷ no_place ∷ []) [] (whole size))
  opens few_pieces some_seat few_seats = record {
    words = refl;
    numbers = record { drawn = λ x. none_below x; counted = omega arith };
    places = record { lowest = λ x h. absurd (omega arith); reached = λ h. absurd (omega arith); seen = λ x h. absurd (omega arith) };
    seated = record { few = (few_pieces, few_seats); all = omega arith; each = first };
  }
    where
      none_below : (x : ℕ) → 0 ≡ once_below x (min 0 size.pieces)
      none_below x = let least : min 0 size.pieces ≡ 0 = omega arith in subst (λ k. 0 ≡ once_below x k) (sym least) (grind (arith, nat_tests))

      first : (port : ℕ) (v : View) → get_elem? (whole size ∷ []) port ≡ some v → Sits size v
      first zero v e = subst (Sits size) (some-injective _ _ e) (record { spent = λ none. absurd (omega arith); of_desk = λ _. refl; ended = omega arith })
      first (suc port) v e = absurd (some-ne-none v (sym e))

-- where no view stands for a seat, they are all empty
none_left : (f : View → ℕ) → f spent_view ≡ 0 → (views : List View) → ((port : ℕ) (u : View) → get_elem? views port ≡ some u → u.seats ≡ 0 → u ≡ spent_view) → sum_by (λ u. u.seats) views ≡ 0 → sum_by f views ≡ 0
none_left f empty [] spent no_seat = refl
none_left f empty (x ∷ xs) spent no_seat =
    let parts = sum_by-cons (λ (u : View). u.seats) x xs in
    let here : f x ≡ 0 = ap f (spent 0 x refl (omega arith)) ∙ empty in
    let rest = none_left f empty xs (λ port u e. spent (suc port) u e) (omega arith) in
    omega (arith, sum_by-cons f x xs)

-- where one view stands for all seats, what all views have it has
alone : (f : View → ℕ) → f spent_view ≡ 0 → (views : List View) (id : ℕ) (v : View) → get_elem? views id ≡ some v → ((port : ℕ) (u : View) → get_elem? views port ≡ some u → u.seats ≡ 0 → u ≡ spent_view)
    → sum_by (λ u. u.seats) views ≡ v.seats → sum_by f views ≡ f v
alone f empty [] id v at spent all = absurd (some-ne-none v (sym at))
alone f empty (x ∷ xs) zero v at spent all =
    let is = some-injective x v at in
    let same : x.seats ≡ v.seats = ap (λ (u : View). u.seats) is in
    let here : f x ≡ f v = ap f is in
    let parts = sum_by-cons (λ (u : View). u.seats) x xs in
    let rest = none_left f empty xs (λ port u e. spent (suc port) u e) (omega arith) in
    omega (arith, sum_by-cons f x xs)
alone f empty (x ∷ xs) (suc id) v at spent all =
    let parts = sum_by-cons (λ (u : View). u.seats) x xs in
    let mine = part-le-sum (λ (u : View). u.seats) xs id v at in
    let here : f x ≡ 0 = ap f (spent 0 x refl (omega arith)) ∙ empty in
    let rest = alone f empty xs id v at (λ port u e. spent (suc port) u e) (omega arith) in
    omega (arith, sum_by-cons f x xs)

-- what the last state says of a view that stands for all seats
pub record IsLast (size : Size) (draw least : ℕ) (v : View) : Type 0 where
  pub drawn : HasEachBelow (min draw size.pieces) v.drawn
  pub counted : draw ≡ min draw size.pieces + v.ended
  pub lowest : (x : ℕ) → 0 < times x v.reported → (least ≤ x) × (x < no_place)
  pub reached : least < no_place → 0 < times least v.reported
  pub seen : (x : ℕ) → 0 < times x v.seen → (least ≤ x) × (0 < times x v.reported)

-- a pass with all seats knows all draws, reports and looks
pub closes : (size : Size) (s : State (Unit {0}) View) (id : ℕ) (v : View) → Kept size s → get_elem? s.views id ≡ some v → v.seats ≡ size.seats → IsLast size (get_or s.words 0 0) (get_or s.words 1 0) v
closes size s id v r at every_seat =
    let only : (f : View → ℕ) → f spent_view ≡ 0 → sum_by f s.views ≡ f v =
    λ f empty. alone f empty s.views id v at (λ port u e. (r.seated.each port u e).spent) (r.seated.all ∙ sym every_seat) in
    let draws_is : (x : ℕ) → draws x s.views ≡ times x v.drawn = λ x. only (λ (u : View). times x u.drawn) refl in
    let reports_is : (x : ℕ) → reports x s.views ≡ times x v.reported = λ x. only (λ (u : View). times x u.reported) refl in
    let looks_is : (x : ℕ) → looks x s.views ≡ times x v.seen = λ x. only (λ (u : View). times x u.seen) refl in
    let ended_is = only (λ (u : View). u.ended) refl in
    let counted = r.numbers.counted in record {
      drawn = λ x. sym (draws_is x) ∙ r.numbers.drawn x;
      counted = omega arith;
      lowest = λ x h. r.places.lowest x (subst (λ k. 0 < k) (sym (reports_is x)) h);
      reached = λ h. subst (λ k. 0 < k) (reports_is _) (r.places.reached h);
      seen = λ x h. let t = r.places.seen x (subst (λ k. 0 < k) (sym (looks_is x)) h) in (t.0, subst (λ k. 0 < k) (reports_is x) t.1);
    }
