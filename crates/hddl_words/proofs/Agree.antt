-- A reader agrees with a phrase: it reads the words that the phrase stands at the front of, and no others, and where
-- it refuses a word, it refuses that word whatever follows it.
use Rattle.std.proofs.Common.{◌≡◌, ℕ, zero, suc, ◌<◌, ◌≤◌, Bool, true, false, cond, List, [], ◌∷◌, ◌++◌, length, Option, Some, None, refl, sym, ap, ◌∙◌, arith, append_assoc, length-append}
use Rattle.hddl_words.specs.declared.class.Class.{Class}
use Rattle.hddl_words.specs.declared.class.Class.TheVariants as class
use Rattle.hddl_words.specs.Words.{Word}
use Rattle.hddl_words.specs.Class.{class_of}
use Rattle.hddl_words.specs.Reading.{Outcome, read, failed, refused, Reader, and_then, pure, take_word, refuse, Step, go, stop, Item, run, next, followed, is_close, if_holds, finished, turn, ended_within, until_ended}
use Rattle.hddl_words.specs.Reading as reading
use Rattle.hddl_words.specs.Phrase.{Phrase, ItemPhrase, Nothing, Gives, Next, IfHolds, Ended, closed, more}
use Rattle.hddl_words.specs.Phrase as phrase
use Rattle.hddl_words.specs.Brackets.{after, Nests}

-- what was read is a front of the words, and is read there whatever follows it, in fewer than N words
pub record Goes {A : Type 0} (N : ℕ) (p : Reader A) (a : A) (ws rest : List Word) : Type 0 where
  pub front : List Word
  pub whole : ws ≡ front ++ rest
  pub again : (others : List Word) → length (front ++ others) < N → p (front ++ others) ≡ read a others

-- the word that is refused is refused whatever follows it
pub record Stops {A : Type 0} (N : ℕ) (p : Reader A) (u : Bool) (left : ℕ) (ws : List Word) : Type 0 where
  pub front : List Word
  pub word : Word
  pub rest : List Word
  pub whole : ws ≡ front ++ word ∷ rest
  pub place : left ≡ suc (length rest)
  pub again : (others : List Word) → length (front ++ word ∷ others) < N → p (front ++ word ∷ others) ≡ refused u (suc (length others))

-- of lists of fewer than N words
pub record Agrees {A : Type 0} (N : ℕ) (into out : ℕ → ℕ) (R : Phrase A) (p : Reader A) : Type 0 where
  pub sound : (ws rest : List Word) (a : A) → length ws < N → p ws ≡ read a rest → R ws a rest
  pub complete : (ws rest : List Word) (a : A) → length ws < N → R ws a rest → p ws ≡ read a rest
  pub goes : (ws rest : List Word) (a : A) → length ws < N → p ws ≡ read a rest → Goes N p a ws rest
  pub stops : (ws : List Word) (u : Bool) (left : ℕ) → length ws < N → 0 < left → p ws ≡ refused u left → Stops N p u left ws
  pub keeps : (k : ℕ) (ws rest : List Word) (a : A) → length ws < N → Nests (into k) ws → p ws ≡ read a rest → Nests (out k) rest
  pub ends : (k : ℕ) (ws : List Word) (u : Bool) → length ws < N → 0 < into k → Nests (into k) ws → p ws ≡ refused u 0 → ⊥

-- the same of what follows a word, where `before` gives the level before that word: it doesn't run out of words inside
-- a bracket
pub data StepAgrees {A : Type 0} (N : ℕ) (before into out : ℕ → ℕ) (R : List Word → A → List Word → Type 0) : Step A → Type 0 where
  on : {p : Reader A} → Agrees N into out R p → ((k : ℕ) (ws : List Word) (u : Bool) → length ws < N → 0 < before k → Nests (into k) ws → p ws ≡ refused u 0 → ⊥) → StepAgrees N before into out R (go p)
  off : {u : Bool} → ((ws rest : List Word) (a : A) → R ws a rest → ⊥) → StepAgrees N before into out R (stop u)

-- at each word of each class, what is done there agrees with the rule for such words
abbrev pub ItemAgrees : {A : Type 0} → ℕ → (ℕ → ℕ) → (ℕ → ℕ) → ItemPhrase A → Item A → Type 0
ItemAgrees N into out R item = (c : Class) (w : Word) → StepAgrees N into (λ k. after c (into k)) out (R c w) (item c w)

-- ---- no word

-- to give a value without a word agrees with itself
pub agrees_gives : {A : Type 0} (N : ℕ) (level : ℕ → ℕ) (x : A) → Agrees N level level (Gives x) (pure x)
agrees_gives N level x = record {
  sound = λ ws rest a short e. (cc, cc);
  complete = λ ws rest a short r. cc;
  goes = λ ws rest a short e. record { front = []; whole = cc; again = λ others _. cc };
  stops = λ ws u left short some e. absurd (cc);
  keeps = λ k ws rest a short n e. let same : ws ≡ rest = cc in rw (← same) n;
  ends = λ k ws u short inside n e. absurd (cc);
}

-- ---- fewer words

-- what agrees over so many words agrees over fewer
pub agrees_upto : {A : Type 0} {N : ℕ} {into out : ℕ → ℕ} {R : Phrase A} {p : Reader A} (M : ℕ) → M ≤ N → Agrees N into out R p → Agrees M into out R p
agrees_upto M less g = record {
  sound = λ ws rest a short e. g.sound ws rest a (omega arith) e;
  complete = λ ws rest a short r. g.complete ws rest a (omega arith) r;
  goes = λ ws rest a short e. let h = g.goes ws rest a (omega arith) e in record { front = h.front; whole = h.whole; again = λ others s. h.again others (omega arith) };
  stops = λ ws u left short some e. let h = g.stops ws u left (omega arith) some e in record { front = h.front; word = h.word; rest = h.rest; whole = h.whole; place = h.place; again = λ others s. h.again others (omega arith) };
  keeps = λ k ws rest a short n e. g.keeps k ws rest a (omega arith) n e;
  ends = λ k ws u short inside n e. g.ends k ws u (omega arith) inside n e;
}

-- what agrees over one word more agrees over so many
pub agrees_below : {A : Type 0} {N : ℕ} {into out : ℕ → ℕ} {R : Phrase A} {p : Reader A} → Agrees (suc N) into out R p → Agrees N into out R p
agrees_below {N = N} g = agrees_upto N (omega arith) g

-- ---- steps

-- more words follow, inside a bracket
pub reads : {A : Type 0} {N : ℕ} {before into out : ℕ → ℕ} {R : Phrase A} {p : Reader A} → ((k : ℕ) → 0 < before k → 0 < into k) → Agrees N into out R p → StepAgrees N before into out R (go p)
reads inside g = on g (λ k ws u short some n e. g.ends k ws u short (inside k some) n e)

-- no more words follow
pub gives : {A : Type 0} (N : ℕ) (before level : ℕ → ℕ) (x : A) → StepAgrees N before level level (Gives x) (go (pure x))
gives N before level x = on (agrees_gives N level x) (λ k ws u short some n e. absurd cc)

-- no words are the phrase
pub nothing : {A : Type 0} (N : ℕ) (before into out : ℕ → ℕ) (u : Bool) → StepAgrees {A = A} N before into out Nothing (stop u)
nothing N before into out u = off (λ ws rest a r. r)

-- ---- a word, and what follows it

module _ {A : Type 0} {N : ℕ} {before into out : ℕ → ℕ} {R : Phrase A} where
  -- what is read after a word stands there by the rule
  step_sound : {s : Step A} → StepAgrees N before into out R s → (ws rest : List Word) (a : A) → length ws < N → run s ws ≡ read a rest → R ws a rest
  step_sound (on g alive) ws rest a short e = g.sound ws rest a short e
  step_sound (off none) ws rest a short e = absurd cc

  -- what stands there by the rule is read
  step_complete : {s : Step A} → StepAgrees N before into out R s → (ws rest : List Word) (a : A) → length ws < N → R ws a rest → run s ws ≡ read a rest
  step_complete (on g alive) ws rest a short r = g.complete ws rest a short r
  step_complete (off none) ws rest a short r = absurd (none ws rest a r)

  -- what is read doesn't depend on what follows
  step_goes : {s : Step A} → StepAgrees N before into out R s → (ws rest : List Word) (a : A) → length ws < N → run s ws ≡ read a rest → Goes N (run s) a ws rest
  step_goes (on g alive) ws rest a short e = g.goes ws rest a short e
  step_goes (off none) ws rest a short e = absurd cc

  -- where reading stops, it does so whatever follows
  step_stops : {s : Step A} → StepAgrees N before into out R s → (w : Word) (item : Item A) → item (class_of w) w ≡ s → (ws : List Word) (u : Bool) (left : ℕ) → length ws < N → 0 < left → run s ws ≡ refused u left → Stops (suc N) (next item) u left (w ∷ ws)
  step_stops (on g alive) w item is ws u left short some e =
      let h = g.stops ws u left short some e in
      record { front = w ∷ h.front; word = h.word; rest = h.rest; whole = ap (λ vs. w ∷ vs) h.whole; place = h.place; again = λ others s. ap (λ t. run t (h.front ++ h.word ∷ others)) is ∙ h.again others (omega arith) }
  step_stops (off none) w item is ws u left short some e =
      record { front = []; word = w; rest = ws; whole = refl; place = cc; again = λ others s. ap (λ t. run t others) is ∙ cc }

  -- the brackets that are open nest on after what was read
  step_keeps : {s : Step A} → StepAgrees N before into out R s → (k : ℕ) (ws rest : List Word) (a : A) → length ws < N → Nests (into k) ws → run s ws ≡ read a rest → Nests (out k) rest
  step_keeps (on g alive) k ws rest a short n e = g.keeps k ws rest a short n e
  step_keeps (off none) k ws rest a short n e = absurd cc

  -- inside brackets that nest, reading never stops for want of a word
  step_ends : {s : Step A} → StepAgrees N before into out R s → (k : ℕ) (ws : List Word) (u : Bool) → length ws < N → 0 < before k → Nests (into k) ws → run s ws ≡ refused u 0 → ⊥
  step_ends (on g alive) k ws u short inside n e = alive k ws u short inside n e
  step_ends (off none) k ws u short inside n e = let h : suc (length ws) ≡ 0 = cc in omega arith

module _ {A : Type 0} (N : ℕ) (into out : ℕ → ℕ) (R : ItemPhrase A) (item : Item A) (g : ItemAgrees N into out R item) where
  -- what is read of the next word and on stands there by the rule
  next_sound : (ws rest : List Word) (a : A) → length ws < suc N → next item ws ≡ read a rest → Next R ws a rest
  next_sound [] rest a short e = absurd cc
  next_sound (w ∷ ws) rest a short e = (w, ws, refl, step_sound (g (class_of w) w) ws rest a (omega arith) e)

  -- what stands there by the rule is read
  next_complete : (ws rest : List Word) (a : A) → length ws < suc N → Next R ws a rest → next item ws ≡ read a rest
  next_complete [] rest a short r = absurd (let e = r.2 in cc)
  next_complete (w ∷ ws) rest a short r =
      let e = r.2 in
      let v : w ≡ r.0 = cc in
      let vs : ws ≡ r.1 = cc in
      let r' : R (class_of w) w ws a rest = rw (v, vs) r.3 in
      step_complete (g (class_of w) w) ws rest a (omega arith) r'

  -- what is read doesn't depend on what follows
  next_goes : (ws rest : List Word) (a : A) → length ws < suc N → next item ws ≡ read a rest → Goes (suc N) (next item) a ws rest
  next_goes [] rest a short e = absurd cc
  next_goes (w ∷ ws) rest a short e =
      let h = step_goes (g (class_of w) w) ws rest a (omega arith) e in
      record { front = w ∷ h.front; whole = ap (λ vs. w ∷ vs) h.whole; again = λ others s. h.again others (omega arith) }

  -- where reading stops, it does so whatever follows
  next_stops : (ws : List Word) (u : Bool) (left : ℕ) → length ws < suc N → 0 < left → next item ws ≡ refused u left → Stops (suc N) (next item) u left ws
  next_stops [] u left short some e = let none : left ≡ 0 = cc in absurd (omega arith)
  next_stops (w ∷ ws) u left short some e = step_stops (g (class_of w) w) w item refl ws u left (omega arith) some e

  -- the brackets that are open nest on after what was read
  next_keeps : (k : ℕ) (ws rest : List Word) (a : A) → length ws < suc N → Nests (into k) ws → next item ws ≡ read a rest → Nests (out k) rest
  next_keeps k [] rest a short n e = absurd cc
  next_keeps k (w ∷ ws) rest a short n e = step_keeps (g (class_of w) w) k ws rest a (omega arith) n.1 e

  -- inside brackets that nest, reading never stops for want of a word
  next_ends : (k : ℕ) (ws : List Word) (u : Bool) → length ws < suc N → 0 < into k → Nests (into k) ws → next item ws ≡ refused u 0 → ⊥
  next_ends k [] u short inside n e = omega arith
  next_ends k (w ∷ ws) u short inside n e = step_ends (g (class_of w) w) k ws u (omega arith) inside n.1 e

  -- a reader of the next word agrees with the rule if what is done there does
  pub agrees_next : Agrees (suc N) into out (Next R) (next item)
  agrees_next = record { sound = next_sound; complete = next_complete; goes = next_goes; stops = next_stops; keeps = next_keeps; ends = next_ends }

-- ---- one after another

module _ {A B : Type 0} (N : ℕ) (into mid out : ℕ → ℕ) (P : Phrase A) (Q : A → Phrase B) (p : Reader A) (q : A → Reader B)
    (g : Agrees N into mid P p) (h : (a : A) → Agrees N mid out (Q a) (q a))
    (alive : (a : A) (k : ℕ) (ws : List Word) (u : Bool) → length ws < N → 0 < into k → Nests (mid k) ws → q a ws ≡ refused u 0 → ⊥) where
  -- what the first read is no longer than the words
  shorter : (ws rest : List Word) (a : A) → length ws < N → p ws ≡ read a rest → length rest < N
  shorter ws rest a short e =
      let f = g.goes ws rest a short e in
      let whole : length ws ≡ length (f.front ++ rest) = ap length f.whole in
      omega (arith, length-append f.front rest, whole)

  -- what two readers read, one after the other, stands there by both rules
  seq_sound : (r : Outcome A) (ws rest : List Word) (b : B) → length ws < N → p ws ≡ r → and_then r q ≡ read b rest → phrase.◌>>=◌ P Q ws b rest
  seq_sound (read a ms) ws rest b short is e = (a, ms, g.sound ws ms a short is, (h a).sound ms rest b (shorter ws ms a short is) e)
  seq_sound (failed s) ws rest b short is e = absurd cc

  -- what stands there by both rules is read by both
  seq_complete : (ws rest : List Word) (b : B) → length ws < N → phrase.◌>>=◌ P Q ws b rest → reading.◌>>=◌ p q ws ≡ read b rest
  seq_complete ws rest b short r =
      let e = g.complete ws r.1 r.0 short r.2 in
      ap (λ o. and_then o q) e ∙ (h r.0).complete r.1 rest b (shorter ws r.1 r.0 short e) r.3

  -- what both read doesn't depend on what follows
  seq_goes : (r : Outcome A) (ws rest : List Word) (b : B) → length ws < N → p ws ≡ r → and_then r q ≡ read b rest → Goes N (reading.◌>>=◌ p q) b ws rest
  seq_goes (read a ms) ws rest b short is e =
      let f = g.goes ws ms a short is in
      let l = (h a).goes ms rest b (shorter ws ms a short is) e in
      let joined : (others : List Word) → (f.front ++ l.front) ++ others ≡ f.front ++ (l.front ++ others) = λ others. append_assoc f.front l.front others in
      record {
        front = f.front ++ l.front;
        whole = f.whole ∙ ap (λ vs. f.front ++ vs) l.whole ∙ sym (joined rest);
        again = λ others s.
            let fits : length (f.front ++ (l.front ++ others)) < N = rw (← joined others) s in
            let fits' : length (l.front ++ others) < N = omega (arith, length-append f.front (l.front ++ others), fits) in
            ap (λ vs. and_then (p vs) q) (joined others) ∙ ap (λ o. and_then o q) (f.again (l.front ++ others) fits) ∙ l.again others fits';
      }
  seq_goes (failed s) ws rest b short is e = absurd cc

  -- where one of them stops, it does so whatever follows
  seq_stops : (r : Outcome A) (ws : List Word) (u : Bool) (left : ℕ) → length ws < N → 0 < left → p ws ≡ r → and_then r q ≡ refused u left → Stops N (reading.◌>>=◌ p q) u left ws
  seq_stops (read a ms) ws u left short some is e =
      let f = g.goes ws ms a short is in
      let l = (h a).stops ms u left (shorter ws ms a short is) some e in
      let joined : (others : List Word) → (f.front ++ l.front) ++ l.word ∷ others ≡ f.front ++ (l.front ++ l.word ∷ others) = λ others. append_assoc f.front l.front (l.word ∷ others) in
      record {
        front = f.front ++ l.front;
        word = l.word;
        rest = l.rest;
        whole = f.whole ∙ ap (λ vs. f.front ++ vs) l.whole ∙ sym (joined l.rest);
        place = l.place;
        again = λ others s.
            let fits : length (f.front ++ (l.front ++ l.word ∷ others)) < N = rw (← joined others) s in
            let fits' : length (l.front ++ l.word ∷ others) < N = omega (arith, length-append f.front (l.front ++ l.word ∷ others), fits) in
            ap (λ vs. and_then (p vs) q) (joined others) ∙ ap (λ o. and_then o q) (f.again (l.front ++ l.word ∷ others) fits) ∙ l.again others fits';
      }
  seq_stops (failed s) ws u left short some is e =
      let l = g.stops ws u left short some (is ∙ cc) in
      record { front = l.front; word = l.word; rest = l.rest; whole = l.whole; place = l.place; again = λ others s. ap (λ o. and_then o q) (l.again others s) }

  -- the brackets that are open nest on after both
  seq_keeps : (r : Outcome A) (k : ℕ) (ws rest : List Word) (b : B) → length ws < N → Nests (into k) ws → p ws ≡ r → and_then r q ≡ read b rest → Nests (out k) rest
  seq_keeps (read a ms) k ws rest b short n is e = (h a).keeps k ms rest b (shorter ws ms a short is) (g.keeps k ws ms a short n is) e
  seq_keeps (failed s) k ws rest b short n is e = absurd cc

  -- inside brackets that nest, neither stops for want of a word
  seq_ends : (r : Outcome A) (k : ℕ) (ws : List Word) (u : Bool) → length ws < N → 0 < into k → Nests (into k) ws → p ws ≡ r → and_then r q ≡ refused u 0 → ⊥
  seq_ends (read a ms) k ws u short some n is e = alive a k ms u (shorter ws ms a short is) some (g.keeps k ws ms a short n is) e
  seq_ends (failed s) k ws u short some n is e = g.ends k ws u short some n (is ∙ cc)

  -- two readers, one after the other, agree with both rules where a bracket is open between
  pub agrees_alive : Agrees N into out (phrase.◌>>=◌ P Q) (reading.◌>>=◌ p q)
  agrees_alive = record {
    sound = λ ws rest a short e. seq_sound (p ws) ws rest a short refl e;
    complete = seq_complete;
    goes = λ ws rest a short e. seq_goes (p ws) ws rest a short refl e;
    stops = λ ws u left short some e. seq_stops (p ws) ws u left short some refl e;
    keeps = λ k ws rest a short n e. seq_keeps (p ws) k ws rest a short n refl e;
    ends = λ k ws u short some n e. seq_ends (p ws) k ws u short some n refl e;
  }

-- the second is inside a bracket
pub agrees_seq : {A B : Type 0} {N : ℕ} {into mid out : ℕ → ℕ} {P : Phrase A} {Q : A → Phrase B} {p : Reader A} {q : A → Reader B} → ((k : ℕ) → 0 < mid k) → Agrees N into mid P p → ((a : A) → Agrees N mid out (Q a) (q a)) → Agrees N into out (phrase.◌>>=◌ P Q) (reading.◌>>=◌ p q)
agrees_seq {A} {B} {N} {into} {mid} {out} {P} {Q} {p} {q} inside g h =
    agrees_alive N into mid out P Q p q g h (λ a k ws u short some n e. (h a).ends k ws u short (inside k) n e)

-- the second takes no word
pub agrees_map : {A B : Type 0} {N : ℕ} {into out : ℕ → ℕ} {P : Phrase A} {p : Reader A} (f : A → B) → Agrees N into out P p → Agrees N into out (phrase.◌>>=◌ P (λ a. Gives (f a))) (reading.◌>>=◌ p (λ a. pure (f a)))
agrees_map {A} {B} {N} {into} {out} {P} {p} f g =
    agrees_alive N into out out P (λ a. Gives (f a)) p (λ a. pure (f a)) g (λ a. agrees_gives N out (f a)) (λ a k ws u short some n e. absurd cc)

-- ---- the same phrase, read the same

-- over no words any reader agrees with any rule
pub agrees_none : {A : Type 0} (into out : ℕ → ℕ) (R : Phrase A) (p : Reader A) → Agrees 0 into out R p
agrees_none into out R p = record {
  sound = λ ws rest a short e. absurd (omega arith);
  complete = λ ws rest a short r. absurd (omega arith);
  goes = λ ws rest a short e. absurd (omega arith);
  stops = λ ws u left short some e. absurd (omega arith);
  keeps = λ k ws rest a short n e. absurd (omega arith);
  ends = λ k ws u short inside n e. omega arith;
}

-- a reader that reads the same agrees with a rule that says the same
pub agrees_as : {A : Type 0} {N : ℕ} {into out : ℕ → ℕ} {R S : Phrase A} {p q : Reader A} → ((ws rest : List Word) (a : A) → R ws a rest → S ws a rest) → ((ws rest : List Word) (a : A) → S ws a rest → R ws a rest) → ((ws : List Word) → length ws < N → q ws ≡ p ws) → Agrees N into out R p → Agrees N into out S q
agrees_as to from same g = record {
  sound = λ ws rest a short e. to ws rest a (g.sound ws rest a short (sym (same ws short) ∙ e));
  complete = λ ws rest a short r. same ws short ∙ g.complete ws rest a short (from ws rest a r);
  goes = λ ws rest a short e. let h = g.goes ws rest a short (sym (same ws short) ∙ e) in record { front = h.front; whole = h.whole; again = λ others s. same (h.front ++ others) s ∙ h.again others s };
  stops = λ ws u left short some e. let h = g.stops ws u left short some (sym (same ws short) ∙ e) in record { front = h.front; word = h.word; rest = h.rest; whole = h.whole; place = h.place; again = λ others s. same (h.front ++ h.word ∷ others) s ∙ h.again others s };
  keeps = λ k ws rest a short n e. g.keeps k ws rest a short n (sym (same ws short) ∙ e);
  ends = λ k ws u short inside n e. g.ends k ws u short inside n (sym (same ws short) ∙ e);
}

-- what is done at a word agrees over fewer words
pub step_below : {A : Type 0} {N : ℕ} {before into out : ℕ → ℕ} {R : Phrase A} {s : Step A} → StepAgrees (suc N) before into out R s → StepAgrees N before into out R s
step_below (on g alive) = on (agrees_below g) (λ k ws u short some n e. alive k ws u (omega arith) some n e)
step_below (off none) = off none

-- ---- items up to the closing bracket

-- readings that go on alike end alike
and_then_same : {A B : Type 0} (o : Outcome A) (f g : A → Reader B) → ((a : A) (ws : List Word) → o ≡ read a ws → f a ws ≡ g a ws) → and_then o f ≡ and_then o g
and_then_same (read a ws) f g same = same a ws refl
and_then_same (failed s) f g same = refl

-- what is done at a word goes on alike by readers that read on alike
followed_same : {A B : Type 0} (s : Step A) (f g : A → Reader B) (ws : List Word) → ((a : A) (rest : List Word) → run s ws ≡ read a rest → f a rest ≡ g a rest) → run (followed s f) ws ≡ run (followed s g) ws
followed_same (go p) f g ws same = and_then_same (p ws) f g same
followed_same (stop u) f g ws same = refl

-- a turn goes on alike by readers that read on alike
turn_same : {D A : Type 0} (b : Bool) (l : Step A) (s : Step D) (f g : D → Reader A) (ws : List Word) → ((a : D) (rest : List Word) → run s ws ≡ read a rest → f a rest ≡ g a rest) → run (cond b l (followed s f)) ws ≡ run (cond b l (followed s g)) ws
turn_same true l s f g ws same = refl
turn_same false l s f g ws same = followed_same s f g ws same

-- what is done at a word leaves no more words
pub step_shorter : {A : Type 0} {N : ℕ} {before into out : ℕ → ℕ} {R : Phrase A} {s : Step A} → StepAgrees N before into out R s → (ws rest : List Word) (a : A) → length ws < N → run s ws ≡ read a rest → length rest ≤ length ws
step_shorter g ws rest a short e =
    let f = step_goes g ws rest a short e in
    let whole : length ws ≡ length (f.front ++ rest) = ap length f.whole in
    omega (arith, length-append f.front rest, whole)

module _ {D A : Type 0} (finish : D → Option A) (item : D → Item D) where
  -- over enough words the bound on turns doesn't matter
  until_enough : (n m N : ℕ) (d : D) (ws : List Word) → ((d : D) (c : Class) (w : Word) (ws rest : List Word) (e : D) → length ws < N → run (item d c w) ws ≡ read e rest → length rest ≤ length ws) → length ws < n → length ws < m → length ws < suc N → ended_within finish n item d ws ≡ ended_within finish m item d ws
  unfolding ended_within
  until_enough zero m N d ws shorten fits fits' short = absurd (omega arith)
  until_enough (suc n) zero N d ws shorten fits fits' short = absurd (omega arith)
  until_enough (suc n) (suc m) N d [] shorten fits fits' short = refl
  until_enough (suc n) (suc m) N d (w ∷ ws) shorten fits fits' short =
      turn_same (is_close (class_of w)) (finished (finish d)) (item d (class_of w) w) (ended_within finish n item) (ended_within finish m item) ws
      (λ a rest e. let less = shorten d (class_of w) w ws rest a (omega arith) e in until_enough n m N a rest shorten (omega arith) (omega arith) (omega arith))

  -- items up to the bracket are read turn by turn
  pub until-is : (N : ℕ) (d : D) (ws : List Word) → ((d : D) (c : Class) (w : Word) (ws rest : List Word) (e : D) → length ws < N → run (item d c w) ws ≡ read e rest → length rest ≤ length ws) → length ws < suc N → until_ended finish item d ws ≡ next (turn finish (until_ended finish item) item d) ws
  unfolding until_ended ended_within
  until-is N d [] shorten short = refl
  until-is N d (w ∷ ws) shorten short =
      turn_same (is_close (class_of w)) (finished (finish d)) (item d (class_of w) w) (ended_within finish (suc (length ws)) item) (until_ended finish item) ws
      (λ a rest e. let less = shorten d (class_of w) w ws rest a (omega arith) e in until_enough (suc (length ws)) (suc (length rest)) N a rest shorten (omega arith) (omega arith) (omega arith))

-- what is done at a word and then a reader is run one after the other
pub followed_run : {A B : Type 0} (s : Step A) (f : A → Reader B) (ws : List Word) → run (followed s f) ws ≡ and_then (run s ws) f
followed_run (go p) f ws = refl
followed_run (stop u) f ws = refl

-- a turn is alike where its item is and what goes on is
turn_same_items : {D A : Type 0} (b : Bool) (l : Step A) (s t : Step D) (f g : D → Reader A) (ws : List Word) → run s ws ≡ run t ws → ((a : D) (rest : List Word) → run s ws ≡ read a rest → f a rest ≡ g a rest) → run (cond b l (followed s f)) ws ≡ run (cond b l (followed t g)) ws
turn_same_items true l s t f g ws is same = refl
turn_same_items false l s t f g ws is same = followed_run s f ws ∙ and_then_same (run s ws) f g same ∙ ap (λ o. and_then o g) is ∙ sym (followed_run t g ws)

-- items that are read alike in short lists are read alike up to the closing bracket
module _ {D A : Type 0} (finish : D → Option A) (N : ℕ) (item other : D → Item D)
    (same : (d : D) (c : Class) (w : Word) (ws : List Word) → length ws < N → run (item d c w) ws ≡ run (other d c w) ws)
    (shorten : (d : D) (c : Class) (w : Word) (ws rest : List Word) (e : D) → length ws < N → run (item d c w) ws ≡ read e rest → length rest ≤ length ws) where
  -- items that are read alike make lists that are read alike, turn by turn
  until_within_same : (n : ℕ) (d : D) (ws : List Word) → length ws < suc N → ended_within finish n item d ws ≡ ended_within finish n other d ws
  unfolding ended_within
  until_within_same zero d ws short = refl
  until_within_same (suc n) d [] short = refl
  until_within_same (suc n) d (w ∷ ws) short =
      turn_same_items (is_close (class_of w)) (finished (finish d)) (item d (class_of w) w) (other d (class_of w) w) (ended_within finish n item) (ended_within finish n other) ws
      (same d (class_of w) w ws (omega arith))
      (λ a rest e. let less = shorten d (class_of w) w ws rest a (omega arith) e in until_within_same n a rest (omega arith))

  -- the same of whole lists
  pub until_same : (d : D) (ws : List Word) → length ws < suc N → until_ended finish item d ws ≡ until_ended finish other d ws
  unfolding until_ended
  until_same d ws short = until_within_same (suc (length ws)) d ws short

-- the value at the closing bracket, if what was read is complete
abbrev Finished : {A : Type 0} → Option A → Phrase A
Finished (Some a) = Gives a
Finished None = Nothing

-- at the closing bracket the value, else what a turn gives
abbrev TurnBy : {A : Type 0} → Bool → Option A → Phrase A → Phrase A
TurnBy true o P = Finished o
TurnBy false o P = P

-- at the closing bracket a turn gives the value
turn_out_closed : {A : Type 0} (b : Bool) (o : Option A) (a : A) (P : Phrase A) (ws : List Word) → b ≡ true → o ≡ Some a → TurnBy b o P ws a ws
turn_out_closed true (Some x) a P ws is ends = (cc, refl)
turn_out_closed true None a P ws is ends = absurd cc
turn_out_closed false o a P ws is ends = absurd cc

-- at another word a turn goes on
turn_out_more : {A : Type 0} (b : Bool) (o : Option A) (a : A) (P : Phrase A) (ws rest : List Word) → b ≡ false → P ws a rest → TurnBy b o P ws a rest
turn_out_more true o a P ws rest is r = absurd cc
turn_out_more false o a P ws rest is r = r

module _ {D A : Type 0} (finish : D → Option A) (F : D → ItemPhrase D) where
  -- one turn over a list: the closing bracket, or an item and more turns
  abbrev Turn : D → ItemPhrase A
  Turn d c w = TurnBy (is_close c) (finish d) (phrase.◌>>=◌ (F d c w) (Ended finish F))

  -- a list may end at its closing bracket
  ends_in : (o : Option A) (d : D) (a : A) (w : Word) (ws rest : List Word) → is_close (class_of w) ≡ true → finish d ≡ o → Finished o ws a rest → Ended finish F d (w ∷ ws) a rest
  ends_in (Some x) d a w ws rest is fine r = rw (r.0, r.1) (closed is fine)
  ends_in None d a w ws rest is fine r = absurd r

  -- a turn makes a list, whether it ends it or not
  turn_in_by : (b : Bool) (d : D) (a : A) (w : Word) (ws rest : List Word) → is_close (class_of w) ≡ b → TurnBy b (finish d) (phrase.◌>>=◌ (F d (class_of w) w) (Ended finish F)) ws a rest → Ended finish F d (w ∷ ws) a rest
  turn_in_by true d a w ws rest is r = ends_in (finish d) d a w ws rest is refl r
  turn_in_by false d a w ws rest is r = more is r.2 r.3

  -- a turn makes a list
  turn_in : (d : D) (ws rest : List Word) (a : A) → Next (Turn d) ws a rest → Ended finish F d ws a rest
  turn_in d ws rest a r = rw r.2 (turn_in_by (is_close (class_of r.0)) d a r.0 r.1 rest refl r.3)

  -- a list is made by a turn
  turn_out : (d : D) (ws rest : List Word) (a : A) → Ended finish F d ws a rest → Next (Turn d) ws a rest
  turn_out d ws rest a (closed {w = w} {ws = vs} is fine) = (w, vs, refl, turn_out_closed (is_close (class_of w)) (finish d) a _ vs is fine)
  turn_out d ws rest a (more {e = e} {w = w} {ws = vs} {mid = mid} is r u) = (w, vs, refl, turn_out_more (is_close (class_of w)) (finish d) a _ vs rest is (e, mid, r, u))

-- what is done where a test holds agrees with the rule there
pub step_holds : {A : Type 0} {N : ℕ} {before into out : ℕ → ℕ} {R : Phrase A} {s : Step A} (b : Bool) → StepAgrees N before into out R s → StepAgrees N before into out (IfHolds b R) (if_holds b s)
step_holds true g = g
step_holds {N = N} {before = before} {into = into} {out = out} false g = nothing N before into out false

-- to give the value if there is one agrees with the rule
step_finished : {A : Type 0} (N : ℕ) (before level : ℕ → ℕ) (o : Option A) → StepAgrees N before level level (Finished o) (finished o)
step_finished N before level (Some a) = gives N before level a
step_finished N before level None = nothing N before level level false

-- what is done at a word, and a reader after it, agree with both rules
step_alive : {A B : Type 0} {N : ℕ} {before into mid out : ℕ → ℕ} {P : Phrase A} {Q : A → Phrase B} {p : Reader A} {q : A → Reader B} (inside : (k : ℕ) → 0 < mid k) → Agrees N into mid P p → ((a : A) → Agrees N mid out (Q a) (q a))
    → ((k : ℕ) (ws : List Word) (u : Bool) → length ws < N → 0 < before k → Nests (into k) ws → p ws ≡ refused u 0 → ⊥)
    → (o : Outcome A) (k : ℕ) (ws : List Word) (u : Bool) → length ws < N → 0 < before k → Nests (into k) ws → p ws ≡ o → and_then o q ≡ refused u 0 → ⊥
step_alive {N = N} {into = into} {mid = mid} {out = out} {P = P} {Q = Q} {p = p} {q = q} inside g h alive (read a ms) k ws u short some n is e =
    (h a).ends k ms u (shorter N into mid out P Q p q g h (λ b j vs v s i m f. (h b).ends j vs v s (inside j) m f) ws ms a short is) (inside k) (g.keeps k ws ms a short n is) e
step_alive inside g h alive (failed s) k ws u short some n is e = alive k ws u short some n (is ∙ cc)

-- what follows an item
pub step_followed : {A B : Type 0} {N : ℕ} {before into mid out : ℕ → ℕ} {P : Phrase A} {Q : A → Phrase B} {s : Step A} {q : A → Reader B} → ((k : ℕ) → 0 < mid k) → StepAgrees N before into mid P s → ((a : A) → Agrees N mid out (Q a) (q a)) → StepAgrees N before into out (phrase.◌>>=◌ P Q) (followed s q)
step_followed {q = q} inside (on {p = p} g alive) h =
    on (agrees_seq inside g h) (λ k ws u short some n e. step_alive inside g h alive (p ws) k ws u short some n refl e)
step_followed inside (off none) h = off (λ ws rest a r. none ws r.1 r.0 r.2)

module _ {D A : Type 0} (finish : D → Option A) (F : D → ItemPhrase D) (item : D → Item D) where
  -- a turn agrees with its rule if items and what goes on do
  turn_agrees : (N : ℕ) → ((d : D) → ItemAgrees N suc suc (F d) (item d)) → ((d : D) → Agrees N suc (λ k. k) (Ended finish F d) (until_ended finish item d)) → (d : D) → ItemAgrees N suc (λ k. k) (Turn finish F d) (turn finish (until_ended finish item) item d)
  turn_agrees N g u d class.Close w = step_finished N suc (λ k. k) (finish d)
  turn_agrees N g u d c w = step_followed (λ k. omega arith) (g d c w) u

  -- items up to the bracket agree with their rule if each does
  pub agrees_ended : (N : ℕ) → ((d : D) → ItemAgrees N suc suc (F d) (item d)) → (d : D) → Agrees (suc N) suc (λ k. k) (Ended finish F d) (until_ended finish item d)
  agrees_ended zero g d =
      agrees_as (turn_in finish F d) (turn_out finish F d) (λ ws short. until-is finish item zero d ws (λ d c w ws rest e s r. step_shorter (g d c w) ws rest e s r) short)
      (agrees_next zero suc (λ k. k) (Turn finish F d) (turn finish (until_ended finish item) item d) (turn_agrees zero g (λ e. agrees_none suc (λ k. k) (Ended finish F e) (until_ended finish item e)) d))
  agrees_ended (suc N) g d =
      agrees_as (turn_in finish F d) (turn_out finish F d) (λ ws short. until-is finish item (suc N) d ws (λ d c w ws rest e s r. step_shorter (g d c w) ws rest e s r) short)
      (agrees_next (suc N) suc (λ k. k) (Turn finish F d) (turn finish (until_ended finish item) item d) (turn_agrees (suc N) g (λ e. agrees_ended N (λ d c w. step_below (g d c w)) e) d))
