-- Conditions, effects and constraints nest: the reader of a nesting phrase agrees with it, whatever its parts are.
use Rattle.std.proofs.Common.{◌≡◌, ℕ, zero, suc, ◌+◌, ◌<◌, ◌≤◌, List, [], ◌∷◌, ◌++◌, length, Some, refl, sym, ap, ◌∙◌, arith}
use Rattle.hddl_words.specs.declared.class.Class.{Class}
use Rattle.hddl_words.specs.declared.class.Class.TheVariants as class
use Rattle.hddl_words.specs.Words.{Word}
use Rattle.hddl_words.specs.Class.{class_of}
use Rattle.hddl_words.specs.Reading.{Reader, and_then, pure, run, next, opened}
use Rattle.hddl_words.specs.Phrase.{Phrase, ItemPhrase, Next, Until, closed, more, Opened}
use Rattle.hddl_words.proofs.Agree.{Agrees, ItemAgrees, reads, gives, agrees_none, agrees_as, agrees_next, agrees_upto, until_same, followed_run, step_shorter}
use Rattle.hddl_words.proofs.AgreeMore.{agrees_at, agrees_items, step_map, agrees_opened}
use Rattle.hddl_text.specs.Grammar.{PartPhrase, IsBody, IsRestWithin, IsRest}
use Rattle.hddl_text.specs.Readers.{Part, nested, body, rest_within, rest_of}
use Rattle.hddl_text.proofs.TermsAgree.{out}

-- items up to the bracket are ones by a weaker rule
pub until_map : {D : Type 0} {F G : D → ItemPhrase D} → ((d : D) (c : Class) (w : Word) (ws rest : List Word) (e : D) → F d c w ws e rest → G d c w ws e rest) → {d e : D} {ws rest : List Word} → Until F d ws e rest → Until G d ws e rest
until_map to (closed is fine) = closed is fine
until_map to (more {d = d} {e = e} {w = w} {ws = ws} {mid = mid} is r u) = more is (to d (class_of w) w ws mid e r) (until_map to u)

-- what stands in brackets does so by a weaker rule
pub opened_map : {A : Type 0} {P Q : Phrase A} → ((ws rest : List Word) (a : A) → P ws a rest → Q ws a rest) → (c : Class) (w : Word) (ws rest : List Word) (a : A) → Opened P c w ws a rest → Opened Q c w ws a rest
opened_map to class.Open w ws rest a r = to ws rest a r
opened_map to _ w ws rest a r = absurd r

-- two readers that agree on short lists read longer ones alike
opened_same : {A : Type 0} (N : ℕ) (p q : Reader A) → ((ws : List Word) → length ws < N → p ws ≡ q ws) → (c : Class) (w : Word) (ws : List Word) → length ws < N → run (opened p c w) ws ≡ run (opened q c w) ws
opened_same N p q same class.Open w ws short = same ws short
opened_same N p q same _ w ws short = refl

-- what the proofs need to know of the parts
pub record PartAgrees {A : Type 0} (L : PartPhrase A) (l : Part A) : Type 1 where
  pub agrees : (N : ℕ) (P : List A → Phrase (List A)) (p : List A → Reader (List A)) → ((xs : List A) → Agrees N suc out (P xs) (p xs)) → ItemAgrees N suc out (L P) (l p)
  pub maps : (P Q : List A → Phrase (List A)) → ((xs : List A) (ws rest : List Word) (ys : List A) → P xs ws ys rest → Q xs ws ys rest) → (c : Class) (w : Word) (ws rest : List Word) (a : A) → L P c w ws a rest → L Q c w ws a rest
  pub bounds : (c : Class) (w : Word) (ws rest : List Word) (a : A) → L (IsRest L) c w ws a rest → (n : ℕ) × L (IsRestWithin L n) c w ws a rest
  pub same : (N : ℕ) (p q : List A → Reader (List A)) → ((xs : List A) (ws : List Word) → length ws < N → p xs ws ≡ q xs ws) → (c : Class) (w : Word) (ws : List Word) → length ws < N → run (l p c w) ws ≡ run (l q c w) ws

module _ {A : Type 0} (L : PartPhrase A) (l : Part A) (part : PartAgrees L l) where
  -- the reader of a conjunction agrees with its rule if that of inner ones does
  body_agrees : (N : ℕ) (P : List A → Phrase (List A)) (p : List A → Reader (List A)) → ((xs : List A) → Agrees N suc out (P xs) (p xs)) → (xs : List A) → ItemAgrees N suc out (IsBody (L P) P xs) (body (l p) p xs)
  unfolding nested
  body_agrees N P p g xs class.Close w = gives N suc out _
  body_agrees N P p g xs class.And w = reads (λ k h. h) (agrees_items {item = nested p} (λ ys. agrees_opened (agrees_at suc (g ys))) xs)
  body_agrees N P p g xs c w = step_map (λ x. xs ++ x ∷ []) (part.agrees N P p g c w)

  -- a conjunction is one by a weaker rule for inner ones
  body_map : (P Q : List A → Phrase (List A)) → ((xs : List A) (ws rest : List Word) (ys : List A) → P xs ws ys rest → Q xs ws ys rest) → (xs : List A) (c : Class) (w : Word) (ws rest : List Word) (ys : List A) → IsBody (L P) P xs c w ws ys rest → IsBody (L Q) Q xs c w ws ys rest
  body_map P Q to xs class.Close w ws rest ys r = r
  body_map P Q to xs class.And w ws rest ys r = until_map (λ d c v vs ms e i. opened_map (to d) c v vs ms e i) r
  body_map P Q to xs c w ws rest ys r = (r.0, r.1, part.maps P Q to c w ws r.1 r.0 r.2, r.3)

  -- what nests less than n deep nests less than m deep
  nests_more : (n m : ℕ) → n ≤ m → (xs : List A) (ws rest : List Word) (ys : List A) → IsRestWithin L n xs ws ys rest → IsRestWithin L m xs ws ys rest
  nests_more zero m less xs ws rest ys r = absurd r
  nests_more (suc n) zero less xs ws rest ys r = absurd (omega arith)
  nests_more (suc n) (suc m) less xs ws rest ys r =
      (r.0, r.1, r.2, body_map (IsRestWithin L n) (IsRestWithin L m) (nests_more n m (omega arith)) xs (class_of r.0) r.0 r.1 rest ys r.3)

  -- a conjunction of any depth is one whose inner ones are of any depth
  rest_in : (xs : List A) (ws rest : List Word) (ys : List A) → IsRest L xs ws ys rest → Next (IsBody (L (IsRest L)) (IsRest L) xs) ws ys rest
  rest_in xs ws rest ys (zero, r) = absurd r
  rest_in xs ws rest ys (suc n, r) =
      (r.0, r.1, r.2, body_map (IsRestWithin L n) (IsRest L) (λ zs vs ms e i. (n, i)) xs (class_of r.0) r.0 r.1 rest ys r.3)

  -- one bound for all of a list
  opened_bound : (xs : List A) (c : Class) (w : Word) (ws rest : List Word) (ys : List A) → Opened (IsRest L xs) c w ws ys rest → (n : ℕ) × Opened (IsRestWithin L n xs) c w ws ys rest
  opened_bound xs class.Open w ws rest ys r = r
  opened_bound xs _ w ws rest ys r = absurd r

  -- items of any depth have a depth that bounds them all
  until_bound : {d e : List A} {ws rest : List Word} → Until (λ ys. Opened (IsRest L ys)) d ws e rest → (n : ℕ) × Until (λ ys. Opened (IsRestWithin L n ys)) d ws e rest
  until_bound (closed is fine) = (0, closed is fine)
  until_bound (more {d = d} {e = e} {w = w} {ws = ws} {mid = mid} is r u) =
      let i = opened_bound d (class_of w) w ws mid e r in
      let k = until_bound u in
      let here = opened_map (nests_more i.0 (i.0 + k.0) (omega arith) d) (class_of w) w ws mid e i.1 in
      (i.0 + k.0, more is here (until_map (λ f c v vs ms g j. opened_map (nests_more k.0 (i.0 + k.0) (omega arith) f) c v vs ms g j) k.1))

  -- a conjunction of any depth is one of some depth
  body_bound : (xs : List A) (c : Class) (w : Word) (ws rest : List Word) (ys : List A) → IsBody (L (IsRest L)) (IsRest L) xs c w ws ys rest → (n : ℕ) × IsBody (L (IsRestWithin L n)) (IsRestWithin L n) xs c w ws ys rest
  body_bound xs class.Close w ws rest ys r = (0, r)
  body_bound xs class.And w ws rest ys r = until_bound r
  body_bound xs c w ws rest ys r = let b = part.bounds c w ws r.1 r.0 r.2 in (b.0, (r.0, r.1, b.1, r.3))

  -- a conjunction whose inner ones are of any depth is one
  rest_out : (xs : List A) (ws rest : List Word) (ys : List A) → Next (IsBody (L (IsRest L)) (IsRest L) xs) ws ys rest → IsRest L xs ws ys rest
  rest_out xs ws rest ys r = let b = body_bound xs (class_of r.0) r.0 r.1 rest ys r.3 in (suc b.0, (r.0, r.1, r.2, b.1))

  -- the reader of conjunctions over fewer words agrees with the rule
  within_agrees : (n : ℕ) (xs : List A) → Agrees n suc out (IsRest L xs) (rest_within l n xs)
  unfolding rest_within
  within_agrees zero xs = agrees_none suc out (IsRest L xs) (rest_within l zero xs)
  within_agrees (suc n) xs =
      agrees_as (rest_out xs) (rest_in xs) (λ ws short. refl)
      (agrees_next n suc out (IsBody (L (IsRest L)) (IsRest L) xs) (body (l (rest_within l n)) (rest_within l n) xs) (body_agrees n (IsRest L) (rest_within l n) (within_agrees n) xs))

  -- a conjunction is read alike by readers that read inner ones alike
  body_same : (N : ℕ) (p q : List A → Reader (List A)) → ((xs : List A) → Agrees N suc out (IsRest L xs) (p xs)) → ((xs : List A) (ws : List Word) → length ws < N → p xs ws ≡ q xs ws) → (xs : List A) (c : Class) (w : Word) (ws : List Word) → length ws < N → run (body (l p) p xs c w) ws ≡ run (body (l q) q xs c w) ws
  unfolding nested
  body_same N p q g same xs class.Close w ws short = refl
  body_same N p q g same xs class.And w ws short =
      until_same Some N (nested p) (nested q)
      (λ ys c v vs s. opened_same N (p ys) (q ys) (same ys) c v vs s)
      (λ ys c v vs rest e s r. step_shorter (agrees_opened (agrees_at suc (g ys)) c v) vs rest e s r)
      xs ws (omega arith)
  body_same N p q g same xs c w ws short =
      followed_run (l p c w) (λ x. pure (xs ++ x ∷ [])) ws ∙ ap (λ o. and_then o (λ x. pure (xs ++ x ∷ []))) (part.same N p q same c w ws short) ∙ sym (followed_run (l q c w) (λ x. pure (xs ++ x ∷ [])) ws)

  -- over enough words the bound on depth doesn't matter
  within_enough : (n m : ℕ) (xs : List A) (ws : List Word) → length ws < n → length ws < m → rest_within l n xs ws ≡ rest_within l m xs ws
  unfolding rest_within
  within_enough zero m xs ws fits fits' = absurd (omega arith)
  within_enough (suc n) zero xs ws fits fits' = absurd (omega arith)
  within_enough (suc n) (suc m) xs [] fits fits' = refl
  within_enough (suc n) (suc m) xs (w ∷ ws) fits fits' =
      let N = suc (length ws) in
      body_same N (rest_within l n) (rest_within l m) (λ ys. agrees_upto N (omega arith) (within_agrees n ys))
      (λ ys vs short. within_enough n m ys vs (omega arith) (omega arith)) xs (class_of w) w ws (omega arith)

  -- the reader of conjunctions agrees with the rule
  pub rest_agrees : (N : ℕ) (xs : List A) → Agrees N suc out (IsRest L xs) (rest_of l xs)
  unfolding rest_of
  rest_agrees N xs = agrees_as (λ ws rest c r. r) (λ ws rest c r. r) (λ ws short. within_enough (suc (length ws)) N xs ws (omega arith) short) (within_agrees N xs)

  -- what follows the bracket is read by its own reader inside
  pub rest_is : (xs : List A) (ws : List Word) → rest_of l xs ws ≡ next (body (l (rest_of l)) (rest_of l) xs) ws
  unfolding rest_of rest_within
  rest_is xs [] = refl
  rest_is xs (w ∷ ws) =
      let N = suc (length ws) in
      body_same N (rest_within l N) (rest_of l) (within_agrees N) (λ ys vs short. within_enough N (suc (length vs)) ys vs short (omega arith)) xs (class_of w) w ws (omega arith)
