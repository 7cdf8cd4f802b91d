-- What is left after one is taken, and after one is added.
use Rattle.std.proofs.Common.{◌≡◌, ◌∙◌, ◌+◌, ◌-◌, ◌<◌, ◌≤◌, ◌++◌, ◌∷◌, ◌==◌, ◌||◌, ℕ, zero, suc, Bool, true, false, List, [], Some, None, ap, arith, cond, get_or, if◌then◌else◌, length, map, nat_lt, not, position, refl, set, subst, sym, take}
use Rattle.std.proofs.lemmas.Bool.Decides.{nat_tests}
use Rattle.std.proofs.lemmas.List.{get_or-set_same, get_or-set_other, get_or_append_left, get_or_at, length-set, map-append, take_more}
use Rattle.std.proofs.lemmas.List.Folds.{position_or_len_push}
use Rattle.std.proofs.lemmas.List.Sums.{passes_at_first, prefix_len-le-length}
use Rattle.std.specs.List.{list_any, position_or_len}
use Rattle.indexmap.specs.IndexSet.{insert_key}
use Rattle.htn_model.specs.Equality.{ground_task_eq-decides}
use Rattle.htn_model.specs.Problem.{GroundTask, ground_task_eq}
use Rattle.plan_lines.specs.Left.{left_of, once, times}
use Rattle.plan_lines.proofs.Times.{times-append}

-- past a list there is only the value in its place
pub past : {X : Type 0} (xs : List X) (i : ℕ) (d : X) → length xs ≤ i → get_or xs i d ≡ d
past [] i d h = refl
past (x ∷ xs) zero d h = absurd (omega arith)
past (x ∷ xs) (suc i) d h = past xs i d (omega arith)

-- the first place of a task
abbrev pub place_of : List GroundTask → GroundTask → ℕ
place_of tasks g = position_or_len (ground_task_eq g) tasks

-- a task's place is within the list or just past it
pub place_within : (tasks : List GroundTask) (g : GroundTask) → place_of tasks g ≤ length tasks
place_within tasks g = prefix_len-le-length _ tasks

-- a task that is found has the place where it is
pub found_place : (tasks : List GroundTask) (g : GroundTask) (n : ℕ) → position (ground_task_eq g) tasks ≡ Some n → (place_of tasks g ≡ n) × (n < length tasks)
found_place tasks g n e = by (nat_lt (place_of tasks g) (length tasks)) refl
  where
    by : (b : Bool) → nat_lt (place_of tasks g) (length tasks) ≡ b → (place_of tasks g ≡ n) × (n < length tasks)
    by true is =
        let same : Some (place_of tasks g) ≡ Some n = sym (ap (λ b. cond b (Some (place_of tasks g)) None) is) ∙ e in
        let at : place_of tasks g ≡ n = cc in
        let below : place_of tasks g < length tasks = grind (arith, nat_tests) in
        (at, omega (arith, at, below))
    by false is =
        let other : None ≡ Some n = sym (ap (λ b. cond b (Some (place_of tasks g)) None) is) ∙ e in
        absurd cc

-- one that isn't found has the place past the list
pub no_place : (tasks : List GroundTask) (g : GroundTask) → position (ground_task_eq g) tasks ≡ None → place_of tasks g ≡ length tasks
no_place tasks g e = by (nat_lt (place_of tasks g) (length tasks)) refl
  where
    by : (b : Bool) → nat_lt (place_of tasks g) (length tasks) ≡ b → place_of tasks g ≡ length tasks
    by true is =
        let other : Some (place_of tasks g) ≡ None = sym (ap (λ b. cond b (Some (place_of tasks g)) None) is) ∙ e in
        absurd cc
    by false is =
        let within = place_within tasks g in
        let above : length tasks ≤ place_of tasks g = grind (arith, nat_tests) in
        omega (arith, within, above)

-- the task at its place
pub at_place : (tasks : List GroundTask) (g d : GroundTask) → place_of tasks g < length tasks → g ≡ get_or tasks (place_of tasks g) d
at_place tasks g d h = (ground_task_eq-decides g (get_or tasks (place_of tasks g) d)).0 (passes_at_first (ground_task_eq g) tasks d h)

-- tasks with one place in the list are one
pub same_place : (tasks : List GroundTask) (g c : GroundTask) → place_of tasks c < length tasks → place_of tasks g ≡ place_of tasks c → g ≡ c
same_place tasks g c h e =
    at_place tasks g c (subst (λ (k : ℕ). k < length tasks) (sym e) h) ∙ ap (λ k. get_or tasks k c) e ∙ sym (at_place tasks c c h)

-- a task that is left has a place
pub left_there : (tasks : List GroundTask) (left : List ℕ) (g : GroundTask) → length left ≡ length tasks → 0 < left_of tasks left g → place_of tasks g < length tasks
left_there tasks left g long some = by (nat_lt (place_of tasks g) (length tasks)) refl
  where
    by : (b : Bool) → nat_lt (place_of tasks g) (length tasks) ≡ b → place_of tasks g < length tasks
    by true is = grind (arith, nat_tests)
    by false is =
        let above : length tasks ≤ place_of tasks g = grind (arith, nat_tests) in
        let none : left_of tasks left g ≡ 0 = past left (place_of tasks g) 0 (omega (arith, long, above)) in
        absurd (omega (arith, none, some))

-- how often a task is left after the number at one's place was set
pub left-set : (tasks : List GroundTask) (left : List ℕ) (c : GroundTask) (v : ℕ) (g : GroundTask) → length left ≡ length tasks → place_of tasks c < length tasks
    → left_of tasks (set left (place_of tasks c) v) g ≡ cond (ground_task_eq g c) v (left_of tasks left g)
left-set tasks left c v g long within = by (ground_task_eq g c) refl
  where
    by : (b : Bool) → ground_task_eq g c ≡ b → left_of tasks (set left (place_of tasks c) v) g ≡ cond b v (left_of tasks left g)
    by true e =
        ap (λ k. left_of tasks (set left (place_of tasks c) v) k) ((ground_task_eq-decides g c).0 e)
        ∙ get_or-set_same left (place_of tasks c) v 0 (omega (arith, long, within))
    by false e =
        get_or-set_other left (place_of tasks c) (place_of tasks g) v 0
        (λ same. let yes : ground_task_eq g c ≡ true = (ground_task_eq-decides g c).1 (same_place tasks g c within same) in absurd cc)

-- one is taken
pub left-less : (tasks : List GroundTask) (left new : List ℕ) (c : GroundTask) (n : ℕ) (g : GroundTask) → length left ≡ length tasks → position (ground_task_eq c) tasks ≡ Some n
    → 0 < get_or left n 0 → new ≡ set left n (get_or left n 0 - 1) → left_of tasks left g ≡ once (ground_task_eq g c) + left_of tasks new g
left-less tasks left new c n g long found some is = by (ground_task_eq g c) refl
  where
    at : place_of tasks c ≡ n
    at = (found_place tasks c n found).0

    changed : left_of tasks new g ≡ cond (ground_task_eq g c) (get_or left n 0 - 1) (left_of tasks left g)
    changed =
        ap (λ l. left_of tasks l g) (is ∙ ap (λ k. set left k (get_or left n 0 - 1)) (sym at))
        ∙ left-set tasks left c (get_or left n 0 - 1) g long (let w = (found_place tasks c n found).1 in omega (arith, at, w))

    by : (b : Bool) → ground_task_eq g c ≡ b → left_of tasks left g ≡ once (ground_task_eq g c) + left_of tasks new g
    by true e =
        let one : once (ground_task_eq g c) ≡ 1 = ap (λ b. once b) e in
        let new_is : left_of tasks new g ≡ get_or left n 0 - 1 = changed ∙ ap (λ b. cond b (get_or left n 0 - 1) (left_of tasks left g)) e in
        let old_is : left_of tasks left g ≡ get_or left n 0 = ap (λ k. left_of tasks left k) ((ground_task_eq-decides g c).0 e) ∙ ap (λ k. get_or left k 0) at in
        omega (arith, one, new_is, old_is, some)
    by false e =
        let none : once (ground_task_eq g c) ≡ 0 = ap (λ b. once b) e in
        let same : left_of tasks new g ≡ left_of tasks left g = changed ∙ ap (λ b. cond b (get_or left n 0 - 1) (left_of tasks left g)) e in
        omega (arith, none, same)

-- one more of a task that is there
pub left-more : (tasks : List GroundTask) (left new : List ℕ) (c : GroundTask) (n : ℕ) (g : GroundTask) → length left ≡ length tasks → place_of tasks c ≡ n → n < length tasks
    → new ≡ set left n (get_or left n 0 + 1) → left_of tasks new g ≡ left_of tasks left g + once (ground_task_eq g c)
left-more tasks left new c n g long at within is = by (ground_task_eq g c) refl
  where
    changed : left_of tasks new g ≡ cond (ground_task_eq g c) (get_or left n 0 + 1) (left_of tasks left g)
    changed =
        ap (λ l. left_of tasks l g) (is ∙ ap (λ k. set left k (get_or left n 0 + 1)) (sym at))
        ∙ left-set tasks left c (get_or left n 0 + 1) g long (omega (arith, at, within))

    by : (b : Bool) → ground_task_eq g c ≡ b → left_of tasks new g ≡ left_of tasks left g + once (ground_task_eq g c)
    by true e =
        let one : once (ground_task_eq g c) ≡ 1 = ap (λ b. once b) e in
        let new_is : left_of tasks new g ≡ get_or left n 0 + 1 = changed ∙ ap (λ b. cond b (get_or left n 0 + 1) (left_of tasks left g)) e in
        let old_is : left_of tasks left g ≡ get_or left n 0 = ap (λ k. left_of tasks left k) ((ground_task_eq-decides g c).0 e) ∙ ap (λ k. get_or left k 0) at in
        omega (arith, one, new_is, old_is)
    by false e =
        let none : once (ground_task_eq g c) ≡ 0 = ap (λ b. once b) e in
        let same : left_of tasks new g ≡ left_of tasks left g = changed ∙ ap (λ b. cond b (get_or left n 0 + 1) (left_of tasks left g)) e in
        omega (arith, none, same)

-- one member more
pub length_push : {X : Type 0} (xs : List X) (x : X) → length (xs ++ x ∷ []) ≡ length xs + 1
length_push [] x = refl
length_push (y ∷ xs) x = let e = length_push xs x in omega (arith, e)

-- the first of a task
pub left-first : (tasks : List GroundTask) (left : List ℕ) (c g : GroundTask) → length left ≡ length tasks → place_of tasks c ≡ length tasks
    → left_of (tasks ++ c ∷ []) (left ++ 1 ∷ []) g ≡ left_of tasks left g + once (ground_task_eq g c)
left-first tasks left c g long at = by (nat_lt (place_of tasks g) (length tasks)) refl (ground_task_eq g c) refl
  where
    turned : (b : Bool) → cond b 0 1 ≡ once (not b)
    turned true = refl
    turned false = refl

    pushed : place_of (tasks ++ c ∷ []) g ≡ cond (place_of tasks g == length tasks) (length tasks + once (not (ground_task_eq g c))) (place_of tasks g)
    pushed = position_or_len_push (ground_task_eq g) tasks c ∙ ap (λ n. cond (place_of tasks g == length tasks) (length tasks + n) (place_of tasks g)) (turned (ground_task_eq g c))

    by : (b : Bool) → nat_lt (place_of tasks g) (length tasks) ≡ b → (same : Bool) → ground_task_eq g c ≡ same
        → left_of (tasks ++ c ∷ []) (left ++ 1 ∷ []) g ≡ left_of tasks left g + once (ground_task_eq g c)
    by true is true e =
        let below : place_of tasks g < length tasks = grind (arith, nat_tests) in
        let clash : place_of tasks g ≡ place_of tasks c = ap (place_of tasks) ((ground_task_eq-decides g c).0 e) in
        absurd (omega (arith, below, clash, at))
    by true is false e =
        let below : place_of tasks g < length tasks = grind (arith, nat_tests) in
        let apart : (place_of tasks g == length tasks) ≡ false = grind (arith, nat_tests) in
        let stays : place_of (tasks ++ c ∷ []) g ≡ place_of tasks g = pushed ∙ ap (λ b. cond b (length tasks + once (not (ground_task_eq g c))) (place_of tasks g)) apart in
        let kept : left_of (tasks ++ c ∷ []) (left ++ 1 ∷ []) g ≡ left_of tasks left g =
        ap (λ k. get_or (left ++ 1 ∷ []) k 0) stays ∙ get_or_append_left left (1 ∷ []) 0 (place_of tasks g) (omega (arith, long, below)) in
        let none : once (ground_task_eq g c) ≡ 0 = ap (λ b. once b) e in
        omega (arith, kept, none)
    by false is same e =
        let above : length tasks ≤ place_of tasks g = grind (arith, nat_tests) in
        let within = place_within tasks g in
        let end : place_of tasks g ≡ length tasks = omega (arith, above, within) in
        let equal : (place_of tasks g == length tasks) ≡ true = grind (arith, nat_tests) in
        let goes : place_of (tasks ++ c ∷ []) g ≡ length tasks + once (not (ground_task_eq g c)) =
        pushed ∙ ap (λ b. cond b (length tasks + once (not (ground_task_eq g c))) (place_of tasks g)) equal in
        let empty : left_of tasks left g ≡ 0 = past left (place_of tasks g) 0 (omega (arith, long, above)) in
        ends same e goes empty
      where
        ends : (same : Bool) → ground_task_eq g c ≡ same → place_of (tasks ++ c ∷ []) g ≡ length tasks + once (not (ground_task_eq g c)) → left_of tasks left g ≡ 0
            → left_of (tasks ++ c ∷ []) (left ++ 1 ∷ []) g ≡ left_of tasks left g + once (ground_task_eq g c)
        ends true e goes empty =
            let one : once (ground_task_eq g c) ≡ 1 = ap (λ b. once b) e in
            let step : once (not (ground_task_eq g c)) ≡ 0 = ap (λ b. once (not b)) e in
            let here : get_or (left ++ 1 ∷ []) (place_of (tasks ++ c ∷ []) g) 0 ≡ 1 = get_or_at left 1 [] 0 (place_of (tasks ++ c ∷ []) g) (omega (arith, goes, step, long)) in
            omega (arith, one, here, empty)
        ends false e goes empty =
            let none : once (ground_task_eq g c) ≡ 0 = ap (λ b. once b) e in
            let step : once (not (ground_task_eq g c)) ≡ 1 = ap (λ b. once (not b)) e in
            let longer : length (left ++ 1 ∷ []) ≡ length left + 1 = omega (arith, length_push left 1) in
            let here : get_or (left ++ 1 ∷ []) (place_of (tasks ++ c ∷ []) g) 0 ≡ 0 = past (left ++ 1 ∷ []) (place_of (tasks ++ c ∷ []) g) 0 (omega (arith, goes, step, long, longer)) in
            omega (arith, none, here, empty)

-- ## Counting children

-- some member passes where the one at a position does
any_from : (p : GroundTask → Bool) (xs : List GroundTask) (k : ℕ) (d : GroundTask) → k < length xs → p (get_or xs k d) ≡ true → list_any p xs ≡ true
any_from p [] k d h e = absurd (omega arith)
any_from p (x ∷ xs) zero d h e = ap (λ b. b || list_any p xs) e
any_from p (x ∷ xs) (suc k) d h e = or_true (p x) (list_any p xs) (any_from p xs k d (omega arith) e)
  where
    or_true : (a b : Bool) → b ≡ true → (a || b) ≡ true
    or_true true b e = refl
    or_true false b e = e

-- a task that isn't in the list has the place past it
absent_place : (tasks : List GroundTask) (c : GroundTask) → list_any (ground_task_eq c) tasks ≡ false → place_of tasks c ≡ length tasks
absent_place tasks c e = by (nat_lt (place_of tasks c) (length tasks)) refl
  where
    by : (b : Bool) → nat_lt (place_of tasks c) (length tasks) ≡ b → place_of tasks c ≡ length tasks
    by true is =
        let below : place_of tasks c < length tasks = grind (arith, nat_tests) in
        let yes : list_any (ground_task_eq c) tasks ≡ true = any_from (ground_task_eq c) tasks (place_of tasks c) c below (passes_at_first (ground_task_eq c) tasks c below) in
        absurd cc
    by false is =
        let within = place_within tasks c in
        let above : length tasks ≤ place_of tasks c = grind (arith, nat_tests) in
        omega (arith, within, above)

-- the images of one more
pub mapped_more : {X Y : Type 0} (f : X → Y) (xs : List X) (i : ℕ) (x : X) → i < length xs → x ≡ get_or xs i x → map f (take (i + 1) xs) ≡ map f (take i xs) ++ f x ∷ []
mapped_more f xs i x below is = ap (map f) (take_more xs i x below) ∙ map-append f (take i xs) (get_or xs i x ∷ []) ∙ ap (λ y. map f (take i xs) ++ f y ∷ []) (sym is)

-- how often a task stands in a list with one more
times_push : (g c : GroundTask) (xs : List GroundTask) → times g (xs ++ c ∷ []) ≡ times g xs + once (ground_task_eq g c)
times_push g c xs = let e = times-append g xs (c ∷ []) in omega (arith, e)

module _ (tasks : List GroundTask) (left : List ℕ) (seen : List GroundTask) (c : GroundTask) (long : length left ≡ length tasks) (counts : (g : GroundTask) → times g seen ≡ left_of tasks left g) where
  -- a child unlike those before
  pub counted_first : (keys : List GroundTask) (new : List ℕ) (more : List GroundTask) → list_any (ground_task_eq c) tasks ≡ false → keys ≡ insert_key ground_task_eq tasks c → new ≡ left ++ 1 ∷ []
      → more ≡ seen ++ c ∷ [] → (length new ≡ length keys) × ((g : GroundTask) → times g more ≡ left_of keys new g)
  counted_first keys new more absent inserted pushed are =
      let longer : keys ≡ tasks ++ c ∷ [] = inserted ∙ ap (λ b. if b then tasks else tasks ++ c ∷ []) absent in
      let a = length_push left 1 in
      let b = length_push tasks c in
      let p = ap (λ (l : List ℕ). length l) pushed in
      let q = ap (λ (l : List GroundTask). length l) longer in (
        omega (arith, a, b, p, q, long),
        λ g.
            let e = times_push g c seen in
            let s = counts g in
            let m = left-first tasks left c g long (absent_place tasks c absent) in
            let w : left_of keys new g ≡ left_of (tasks ++ c ∷ []) (left ++ 1 ∷ []) g = (λ i. left_of (longer i) (pushed i) g) in
            let v = ap (times g) are in
            omega (arith, e, s, m, w, v),
      )

  -- one more like one before
  pub counted_again : (keys : List GroundTask) (new : List ℕ) (more : List GroundTask) (n v : ℕ) → list_any (ground_task_eq c) tasks ≡ true → keys ≡ insert_key ground_task_eq tasks c
      → place_of tasks c ≡ n → n < length keys → new ≡ set left n v → (n < length left → v ≡ get_or left n 0 + 1) → more ≡ seen ++ c ∷ []
      → (length new ≡ length keys) × ((g : GroundTask) → times g more ≡ left_of keys new g)
  counted_again keys new more n v present inserted at below set_is value are =
      let same : keys ≡ tasks = inserted ∙ ap (λ b. if b then tasks else tasks ++ c ∷ []) present in
      let q = ap (λ (l : List GroundTask). length l) same in
      let written : new ≡ set left n (get_or left n 0 + 1) = set_is ∙ ap (λ k. set left n k) (value (omega (arith, below, q, long))) in
      let a = length-set left n (get_or left n 0 + 1) in
      let p = ap (λ (l : List ℕ). length l) written in (
        omega (arith, a, p, q, long),
        λ g.
            let e = times_push g c seen in
            let s = counts g in
            let m = left-more tasks left new c n g long at (omega (arith, below, q)) written in
            let w : left_of keys new g ≡ left_of tasks new g = ap (λ ts. left_of ts new g) same in
            let v = ap (times g) are in
            omega (arith, e, s, m, w, v),
      )

-- what is the contrary of something, and so, means that it isn't
pub fell : (b x : Bool) → b ≡ not x → b ≡ true → x ≡ false
fell b true e h = let clash : true ≡ false = sym h ∙ e in absurd cc
fell b false e h = refl

-- and if it isn't so, that it is
pub rose : (b x : Bool) → b ≡ not x → b ≡ false → x ≡ true
rose b true e h = refl
rose b false e h = let clash : false ≡ true = sym h ∙ e in absurd cc
