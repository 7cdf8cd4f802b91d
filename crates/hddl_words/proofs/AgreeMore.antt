-- Lists, brackets, names, and what stands at most once: each reader agrees with its phrase.
use Rattle.std.proofs.Common.{◌≡◌, ℕ, suc, ◌<◌, Bool, true, false, cond, List, [], ◌∷◌, ◌++◌, length, Option, Some, None, refl, ap, ◌∙◌, arith}
use Rattle.hddl_words.specs.declared.class.Class.TheVariants as class
use Rattle.hddl_words.specs.declared.cursor.Stop.{Stop}
use Rattle.hddl_words.specs.Words.{Word}
use Rattle.hddl_words.specs.Class.{class_of}
use Rattle.hddl_words.specs.Reading.{Outcome, read, failed, refused, Reader, and_then, pure, Step, Item, run, next, followed, take_word, is_close, finished, turn, until_ended, until, list_of, opened, closed, named, if_absent}
use Rattle.hddl_words.specs.Phrase.{Phrase, ItemPhrase, Nothing, Gives, Next, Ended, Until, Adds, ListOf, Opened, Closed, Named, IfAbsent, IfHolds}
use Rattle.hddl_words.specs.Phrase as phrase
use Rattle.hddl_words.specs.Brackets.{Nests}
use Rattle.hddl_words.proofs.Agree.{Agrees, StepAgrees, on, off, ItemAgrees, agrees_below, reads, gives, nothing, agrees_next, agrees_map, agrees_ended, step_shorter, until-is, followed_run}

-- at every level
pub agrees_at : {A : Type 0} {N : ℕ} {R : Phrase A} {p : Reader A} (level : ℕ → ℕ) → Agrees N suc (λ k. k) R p → Agrees N (λ k. suc (level k)) level R p
agrees_at level g = record {
  sound = g.sound;
  complete = g.complete;
  goes = g.goes;
  stops = g.stops;
  keeps = λ k ws rest a short n e. g.keeps (level k) ws rest a short n e;
  ends = λ k ws u short inside n e. g.ends (level k) ws u short inside n e;
}

-- a level further out
pub agrees_deeper : {A : Type 0} {N : ℕ} {into out : ℕ → ℕ} {R : Phrase A} {p : Reader A} → Agrees N into out R p → Agrees N (λ k. into (suc k)) (λ k. out (suc k)) R p
agrees_deeper g = record {
  sound = g.sound;
  complete = g.complete;
  goes = g.goes;
  stops = g.stops;
  keeps = λ k ws rest a short n e. g.keeps (suc k) ws rest a short n e;
  ends = λ k ws u short inside n e. g.ends (suc k) ws u short inside n e;
}

-- what is done at a word agrees one bracket deeper
pub step_deeper : {A : Type 0} {N : ℕ} {before into out : ℕ → ℕ} {R : Phrase A} {s : Step A} → StepAgrees N before into out R s → StepAgrees N (λ k. before (suc k)) (λ k. into (suc k)) (λ k. out (suc k)) R s
step_deeper (on g alive) = on (agrees_deeper g) (λ k ws u short some n e. alive (suc k) ws u short some n e)
step_deeper (off none) = off none

-- a reader of the next word agrees if what is done there does
pub agrees_word : {A : Type 0} {N : ℕ} {into out : ℕ → ℕ} {R : ItemPhrase A} {item : Item A} → ItemAgrees N into out R item → Agrees N into out (Next R) (next item)
agrees_word {N = N} {into = into} {out = out} {R = R} {item = item} g = agrees_below (agrees_next N into out R item g)

-- items up to the bracket, complete or not, agree with their rule
pub agrees_complete : {D A : Type 0} {N : ℕ} {F : D → ItemPhrase D} {item : D → Item D} (finish : D → Option A) → ((d : D) → ItemAgrees N suc suc (F d) (item d)) → (d : D) → Agrees N suc (λ k. k) (Ended finish F d) (until_ended finish item d)
agrees_complete {N = N} {F = F} {item = item} finish g d = agrees_below (agrees_ended finish F item N g d)

-- items up to the bracket agree with their rule
pub agrees_items : {D : Type 0} {N : ℕ} {F : D → ItemPhrase D} {item : D → Item D} → ((d : D) → ItemAgrees N suc suc (F d) (item d)) → (d : D) → Agrees N suc (λ k. k) (Until F d) (until item d)
agrees_items g d = agrees_complete Some g d

-- what is done at a word, and a function after it, agree with the rule
step_map_alive : {A B : Type 0} {N : ℕ} {before into : ℕ → ℕ} {p : Reader A} (f : A → B)
    → ((k : ℕ) (ws : List Word) (u : Bool) → length ws < N → 0 < before k → Nests (into k) ws → p ws ≡ refused u 0 → ⊥)
    → (o : Outcome A) (k : ℕ) (ws : List Word) (u : Bool) → length ws < N → 0 < before k → Nests (into k) ws → p ws ≡ o → and_then o (λ a. pure (f a)) ≡ refused u 0 → ⊥
step_map_alive f alive (read a ms) k ws u short some n is e = absurd cc
step_map_alive f alive (failed s) k ws u short some n is e = alive k ws u short some n (is ∙ cc)

-- what a step gives, in another form
pub step_map : {A B : Type 0} {N : ℕ} {before into out : ℕ → ℕ} {R : Phrase A} {s : Step A} (f : A → B) → StepAgrees N before into out R s → StepAgrees N before into out (phrase.◌>>=◌ R (λ a. Gives (f a))) (followed s (λ a. pure (f a)))
step_map f (on {p = p} g alive) = on (agrees_map f g) (λ k ws u short some n e. step_map_alive f alive (p ws) k ws u short some n refl e)
step_map f (off none) = off (λ ws rest b r. none ws r.1 r.0 r.2)

-- a list agrees with its rule if items do
pub agrees_list : {A : Type 0} {N : ℕ} {R : ItemPhrase A} {item : Item A} → ItemAgrees N suc suc R item → Agrees N suc (λ k. k) (ListOf R) (list_of item)
agrees_list g = agrees_items (λ xs c w. step_map (λ x. xs ++ x ∷ []) (g c w)) []

-- a reader in brackets agrees with its rule there
pub agrees_opened : {A : Type 0} {N : ℕ} {into out : ℕ → ℕ} {P : Phrase A} {p : Reader A} → Agrees N (λ k. suc (into k)) out P p → ItemAgrees N into out (Opened P) (opened p)
agrees_opened g class.Open w = reads (λ k h. omega arith) g
agrees_opened {N = N} {into = into} {out = out} g c w = nothing N _ _ out false

-- a closing bracket agrees with its rule
pub agrees_closed : {A : Type 0} (N : ℕ) (level : ℕ → ℕ) (x : A) → ItemAgrees N (λ k. suc (level k)) level (Closed x) (closed x)
agrees_closed N level x class.Close w = gives N (λ k. suc (level k)) level x
agrees_closed N level x c w = nothing N _ _ level false

-- a name, and what follows by it, agree with their rule
pub agrees_named : {A : Type 0} {N : ℕ} {into out : ℕ → ℕ} {P : Word → Phrase A} {p : Word → Reader A} → ((w : Word) → Agrees N into out (P w) (p w)) → ItemAgrees N into out (Named P) (named p)
agrees_named g class.Name w = reads (λ k h. h) (g w)
agrees_named {N = N} {out = out} g class.Forall w = nothing N _ _ out true
agrees_named {N = N} {out = out} g class.Reserved w = nothing N _ _ out true
agrees_named {N = N} {out = out} g c w = nothing N _ _ out false

-- what is done where nothing was read before agrees with its rule
pub step_absent : {X A : Type 0} {N : ℕ} {before into out : ℕ → ℕ} {R : Phrase A} {s : Step A} (o : Option X) → StepAgrees N before into out R s → StepAgrees N before into out (IfAbsent o R) (if_absent o s)
step_absent None g = g
step_absent {N = N} {before = before} {into = into} {out = out} (Some x) g = nothing N before into out false

-- ---- a loop over items

module _ {D A : Type 0} (finish : D → Option A) (F : D → ItemPhrase D) (item : D → Item D) (g : (N : ℕ) (d : D) → ItemAgrees N suc suc (F d) (item d)) where
  -- a list is read turn by turn
  pub ended_turn : (d : D) (ws : List Word) → until_ended finish item d ws ≡ next (turn finish (until_ended finish item) item d) ws
  ended_turn d ws = until-is finish item (length ws) d ws (λ e c w vs rest f s r. step_shorter (g (length ws) e c w) vs rest f s r) (omega arith)

  -- where no word is left, the list stops
  pub ended_failed : (d : D) (ws : List Word) (e : Stop) → take_word ws ≡ failed e → until_ended finish item d ws ≡ failed e
  ended_failed d ws e is = ended_turn d ws ∙ ap (λ o. and_then o (λ w. run (turn finish (until_ended finish item) item d (class_of w) w))) is

  -- a word ends the list or begins an item
  ended_at : (d : D) (ws rest : List Word) (w : Word) (b : Bool) → take_word ws ≡ read w rest → is_close (class_of w) ≡ b → until_ended finish item d ws ≡ run (cond b (finished (finish d)) (followed (item d (class_of w) w) (until_ended finish item))) rest
  ended_at d ws rest w b is close =
      ended_turn d ws ∙ ap (λ o. and_then o (λ w. run (turn finish (until_ended finish item) item d (class_of w) w))) is ∙ ap (λ b. run (cond b (finished (finish d)) (followed (item d (class_of w) w) (until_ended finish item))) rest) close

  -- at the closing bracket the list is complete
  pub ended_close : (d : D) (a : A) (ws rest : List Word) (w : Word) → take_word ws ≡ read w rest → is_close (class_of w) ≡ true → finish d ≡ Some a → until_ended finish item d ws ≡ read a rest
  ended_close d a ws rest w is close fine = ended_at d ws rest w true is close ∙ ap (λ b. run (finished b) rest) fine

  -- what is required is missing
  pub ended_early : (d : D) (ws rest : List Word) (w : Word) → take_word ws ≡ read w rest → is_close (class_of w) ≡ true → finish d ≡ None → until_ended finish item d ws ≡ refused false (suc (length rest))
  ended_early d ws rest w is close early = ended_at d ws rest w true is close ∙ ap (λ b. run (finished b) rest) early

  -- at another word an item is read, and then the rest
  ended_open : (d : D) (ws rest : List Word) (w : Word) → take_word ws ≡ read w rest → is_close (class_of w) ≡ false → until_ended finish item d ws ≡ and_then (run (item d (class_of w) w) rest) (until_ended finish item)
  ended_open d ws rest w is no_close = ended_at d ws rest w false is no_close ∙ followed_run (item d (class_of w) w) (until_ended finish item) rest

  -- where an item stops, the list does
  pub ended_item_failed : (d : D) (ws rest : List Word) (w : Word) (e : Stop) → take_word ws ≡ read w rest → is_close (class_of w) ≡ false → run (item d (class_of w) w) rest ≡ failed e → until_ended finish item d ws ≡ failed e
  ended_item_failed d ws rest w e is no_close stops = ended_open d ws rest w is no_close ∙ ap (λ o. and_then o (until_ended finish item)) stops

  -- where an item is read, the list goes on after it
  pub ended_more : (d f : D) (ws rest mid : List Word) (w : Word) → take_word ws ≡ read w rest → is_close (class_of w) ≡ false → run (item d (class_of w) w) rest ≡ read f mid → until_ended finish item d ws ≡ until_ended finish item f mid
  ended_more d f ws rest mid w is no_close goes = ended_open d ws rest w is no_close ∙ ap (λ o. and_then o (until_ended finish item)) goes

-- the same where nothing is required
module _ {D : Type 0} (F : D → ItemPhrase D) (item : D → Item D) (g : (N : ℕ) (d : D) → ItemAgrees N suc suc (F d) (item d)) where
  -- where no word is left, the list stops
  pub until_failed : (d : D) (ws : List Word) (e : Stop) → take_word ws ≡ failed e → until item d ws ≡ failed e
  until_failed = ended_failed Some F item g

  -- at the closing bracket the list is what was read
  pub until_close : (d : D) (ws rest : List Word) (w : Word) → take_word ws ≡ read w rest → is_close (class_of w) ≡ true → until item d ws ≡ read d rest
  until_close d ws rest w is close = ended_close Some F item g d d ws rest w is close refl

  -- where an item stops, the list does
  pub until_item_failed : (d : D) (ws rest : List Word) (w : Word) (e : Stop) → take_word ws ≡ read w rest → is_close (class_of w) ≡ false → run (item d (class_of w) w) rest ≡ failed e → until item d ws ≡ failed e
  until_item_failed = ended_item_failed Some F item g

  -- where an item is read, the list goes on after it
  pub until_more : (d f : D) (ws rest mid : List Word) (w : Word) → take_word ws ≡ read w rest → is_close (class_of w) ≡ false → run (item d (class_of w) w) rest ≡ read f mid → until item d ws ≡ until item f mid
  until_more = ended_more Some F item g
