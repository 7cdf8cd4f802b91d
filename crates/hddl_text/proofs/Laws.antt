-- The reader of a whole text against its grammar, on whole lists of words.
use Rattle.std.proofs.Common.{◌≡◌, ◌≢◌, ℕ, zero, suc, ◌+◌, ◌-◌, ◌<◌, ◌≤◌, ◌⊎◌, inl, inr, ⊎_elim, Bool, true, false, ◌&&◌, cond, List, [], ◌∷◌, ◌++◌, length, get_or, take, drop, map, min, Ok, refl, sym, ap, ◌∙◌, arith, length-append, length-drop, subst}
use Rattle.std.proofs.lemmas.List.{drop_at, drop-map, take_all}
use Rattle.std.proofs.Math.Seq.{drop-nil}
use Rattle.hddl_words.specs.declared.fault.TextFault.TheVariants.{Expected, Unsupported, OutOfMemory}
use Rattle.hddl_words.specs.declared.cursor.Stop.{Stop}
use Rattle.hddl_words.specs.declared.cursor.Stop.TheVariants.{Memory, Refused}
use Rattle.hddl_words.specs.declared.class.Class.{Class}
use Rattle.hddl_words.specs.declared.class.Class.TheVariants as class
use Rattle.hddl_words.specs.declared.token.Token.{Token}
use Rattle.hddl_words.specs.Words.{Word, words, word_of}
use Rattle.hddl_words.specs.Class.{class_of}
use Rattle.hddl_words.specs.Brackets.{after, Nests}
use Rattle.hddl_words.specs.Reading as reading
use Rattle.hddl_words.specs.Reading.{Outcome, Reader, read, failed, refused, and_then, run, opened, pure, end}
use Rattle.hddl_words.specs.Phrase as phrase
use Rattle.hddl_words.specs.Phrase.{Phrase}
use Rattle.hddl_words.proofs.Agree.{Agrees, agrees_seq}
use Rattle.hddl_text.specs.Grammar.{Opening, IsDomainRest, IsProblemRest, DerivesDomain, DerivesProblem}
use Rattle.hddl_text.specs.Readers.{opening, domain_rest, problem_rest, domain, problem, whole}
use Rattle.hddl_text.specs.Spelling.{Spells, BeginsNone, HasNested, FaultAt, is_unsupportable, refusal_at, refusal, fault_of}
use Rattle.hddl_text.proofs.TermsAgree.{out, opening_agrees}
use Rattle.hddl_text.proofs.SectionsAgree.{domain_rest_agrees, problem_rest_agrees}

-- two cuts of one list with ends of one length are the same
same_split : (xs ys us vs : List Word) → xs ++ us ≡ ys ++ vs → length us ≡ length vs → (xs ≡ ys) × (us ≡ vs)
same_split [] [] us vs e l = (refl, e)
same_split [] (y ∷ ys) us vs e l = let n : length us ≡ length (y ∷ (ys ++ vs)) = ap length e in absurd (omega (arith, length-append ys vs, n))
same_split (x ∷ xs) [] us vs e l = let n : length (x ∷ (xs ++ us)) ≡ length vs = ap length e in absurd (omega (arith, length-append xs us, n))
same_split (x ∷ xs) (y ∷ ys) us vs e l =
    let head : x ≡ y = cc in
    let tail : xs ++ us ≡ ys ++ vs = cc in
    let r = same_split xs ys us vs tail l in
    (let f = r.0 in cc, r.1)

-- where reading stops, the words up to there begin nothing that is derived
pub record StopsAt {Tree : Type 0} (Derives : List Word → Tree → Type 0) (ws : List Word) (left : ℕ) : Type 0 where
  pub word : Word
  pub none : BeginsNone Derives ws word
  pub place : left ≡ suc (length none.rest)

-- where no word is left, what is expected is at the end
refusal_none : (len left : ℕ) (u : Bool) → refusal len [] u left ≡ Expected len
refusal_none len left u = ap (refusal_at len u) (drop-nil _)

-- a stop that is no want of memory
no_memory : (len : ℕ) (ws : List Word) (stop : Stop) → fault_of len ws stop ≢ OutOfMemory → stop ≢ Memory
no_memory len ws Memory h = absurd (h refl)
no_memory len ws (Refused u left) h = λ e. cc

-- a text has one list of words
same_words : (text : List ℕ) (vs ws : List Word) → words text ≡ Ok vs → words text ≡ Ok ws → vs ≡ ws
same_words text vs ws e f = cc

module _ {Tree : Type 0} (B : Phrase Tree) (b : Reader Tree) (g : (N : ℕ) → Agrees N suc out B b) where
  -- a whole text: an opening bracket and what follows it
  abbrev Text : Phrase Tree
  Text = phrase.◌>>◌ Opening B

  -- reads an opening bracket and what follows it
  abbrev text_reader : Reader Tree
  text_reader = reading.◌>>◌ opening b

  -- the words are those of a tree, and nothing follows
  abbrev Derived : List Word → Tree → Type 0
  Derived ws tree = Text ws tree []

  -- the reader of a text agrees with its rule
  text_agrees : (N : ℕ) → Agrees N out out Text text_reader
  text_agrees N = agrees_seq (λ k. omega arith) (opening_agrees N out) (λ _. g N)

  -- ---- what is read

  -- the tree that the words derive is the one that is read
  whole_only : (ws : List Word) (tree : Tree) → Derived ws tree → whole text_reader ws ≡ read tree []
  whole_only ws tree r =
      ap (λ o. and_then o (λ d. reading.◌>>◌ end (pure d))) ((text_agrees (suc (length ws))).complete ws [] tree (omega arith) r)

  -- what is read of all words is derived
  found_by : (o : Outcome Tree) (ws rest : List Word) (tree : Tree) → text_reader ws ≡ o → and_then o (λ d. reading.◌>>◌ end (pure d)) ≡ read tree rest → Derived ws tree
  found_by (read d []) ws rest tree is e = (text_agrees (suc (length ws))).sound ws [] tree (omega arith) (is ∙ cc)
  found_by (read d (w ∷ ms)) ws rest tree is e = absurd cc
  found_by (failed s) ws rest tree is e = absurd cc

  -- ---- where it stops

  -- what is refused in the midst of a text is refused whatever follows
  refused_never : (ws front rest : List Word) (w : Word) (u : Bool) → ws ≡ front ++ w ∷ rest → text_reader ws ≡ refused u (suc (length rest)) → (others : List Word) → text_reader (front ++ w ∷ others) ≡ refused u (suc (length others))
  refused_never ws front rest w u whole is others =
      let N = suc (length ws + length (front ++ w ∷ others)) in
      let h = (text_agrees N).stops ws u (suc (length rest)) (omega arith) (omega arith) is in
      let place = h.place in
      let same = same_split front h.front (w ∷ rest) (h.word ∷ h.rest) (sym whole ∙ h.whole) (omega arith) in
      let f = same.0 in
      let t = same.1 in
      let word : w ≡ h.word = cc in
      let here : front ++ w ∷ others ≡ h.front ++ h.word ∷ others = cc in
      let fits : length (h.front ++ h.word ∷ others) < N = rw (← here) (omega arith) in
      ap text_reader here ∙ h.again others fits

  -- a word after the end of a text is refused whatever follows
  extra_never : (ws front rest : List Word) (w : Word) (tree : Tree) → ws ≡ front ++ w ∷ rest → text_reader ws ≡ read tree (w ∷ rest) → (others : List Word) → text_reader (front ++ w ∷ others) ≡ read tree (w ∷ others)
  extra_never ws front rest w tree whole is others =
      let N = suc (length ws + length (front ++ w ∷ others)) in
      let h = (text_agrees N).goes ws (w ∷ rest) tree (omega arith) is in
      let same = same_split front h.front (w ∷ rest) (w ∷ rest) (sym whole ∙ h.whole) refl in
      let f = same.0 in
      let here : front ++ w ∷ others ≡ h.front ++ w ∷ others = cc in
      let fits : length (h.front ++ w ∷ others) < N = rw (← here) (omega arith) in
      ap text_reader here ∙ h.again (w ∷ others) fits

  -- the words run out only where there are none
  run_out : (c : Class) (w : Word) (ws : List Word) (u : Bool) → Nests (after c 0) ws → and_then (run {A = Unit {0}} (opened (pure tt) c w) ws) (λ _. b) ≡ refused u 0 → ⊥
  run_out class.Open w ws u n e = (g (suc (length ws))).ends 0 ws u (omega arith) (omega arith) n e
  run_out c w ws u n e = let h : suc (length ws) ≡ 0 = cc in omega arith

  -- brackets that nest are refused at the end only where there is no word
  no_words : (ws : List Word) (u : Bool) → Nests 0 ws → text_reader ws ≡ refused u 0 → ws ≡ []
  unfolding opening
  no_words [] u n e = refl
  no_words (w ∷ ws) u n e = absurd (run_out (class_of w) w ws u n.1 e)

  -- where reading stops, no text begins so, or there is no word
  whole_stops : (o : Outcome Tree) (ws : List Word) (u : Bool) (left : ℕ) → Nests 0 ws → text_reader ws ≡ o → and_then o (λ d. reading.◌>>◌ end (pure d)) ≡ refused u left → ((left ≡ 0) × (ws ≡ [])) ⊎ StopsAt Derived ws left
  whole_stops (read d []) ws u left n is e = absurd cc
  whole_stops (read d (w ∷ ms)) ws u left n is e =
      let h = (text_agrees (suc (length ws))).goes ws (w ∷ ms) d (omega arith) is in
      inr (record {
        word = w;
        none = record {
          front = h.front;
          rest = ms;
          whole = h.whole;
          never = λ more tree der.
              let found = (text_agrees (suc (length (h.front ++ w ∷ more)))).complete (h.front ++ w ∷ more) [] tree (omega arith) der in
              let left_over = extra_never ws h.front ms w d h.whole is more in
              cc;
        };
        place = cc;
      })
  whole_stops (failed s) ws u zero n is e = inl (refl, no_words ws u n (is ∙ cc))
  whole_stops (failed s) ws u (suc left) n is e =
      let h = (text_agrees (suc (length ws))).stops ws u (suc left) (omega arith) (omega arith) (is ∙ cc) in
      let here : text_reader ws ≡ refused u (suc (length h.rest)) = is ∙ (let p = h.place in cc) in
      inr (record {
        word = h.word;
        none = record {
          front = h.front;
          rest = h.rest;
          whole = h.whole;
          never = λ more tree der.
              let found = (text_agrees (suc (length (h.front ++ h.word ∷ more)))).complete (h.front ++ h.word ∷ more) [] tree (omega arith) der in
              let stopped = refused_never ws h.front h.rest h.word u h.whole here more in
              cc;
        };
        place = h.place;
      })

  -- ---- faults

  -- a fault at a word stands there if nothing derived begins with the words up to it
  word_stands : (text : List ℕ) (ws : List Word) (w : Word) (u c : Bool) → HasNested text ws → BeginsNone Derived ws w → is_unsupportable (class_of w) ≡ c → FaultAt Derived text (cond (u && c) (Unsupported w.place) (Expected w.place))
  word_stands text ws w true true has none is = (ws, has, (w, refl, none, is))
  word_stands text ws w true false has none is = (ws, has, inr (w, refl, none))
  word_stands text ws w false c has none is = (ws, has, inr (w, refl, none))

  -- the fault where reading stopped stands at its place
  refusal_stands : (text : List ℕ) (ws : List Word) (u : Bool) (left : ℕ) → HasNested text ws → whole text_reader ws ≡ failed (Refused u left) → FaultAt Derived text (refusal (length text) ws u left)
  refusal_stands text ws u left has e =
      ⊎_elim
      (λ (none : (left ≡ 0) × (ws ≡ [])).
      let is : refusal (length text) ws u left ≡ Expected (length text) = ap (λ vs. refusal (length text) vs u left) none.1 ∙ refusal_none (length text) left u in
      subst (FaultAt Derived text) (sym is) (ws, has, inl (none.1, refl)))
      (λ (s : StopsAt Derived ws left).
      let n = length ws - min left (length ws) in
      let size : length ws ≡ length (s.none.front ++ s.word ∷ s.none.rest) = ap length s.none.whole in
      let at : length s.none.front ≡ n = omega (arith, s.place, size, length-append s.none.front (s.word ∷ s.none.rest)) in
      let here : drop n ws ≡ s.word ∷ s.none.rest = ap (drop n) s.none.whole ∙ drop_at s.none.front (s.word ∷ s.none.rest) n at in
      let is : refusal (length text) ws u left ≡ refusal_at (length text) u (s.word ∷ s.none.rest) = ap (refusal_at (length text) u) here in
      subst (FaultAt Derived text) (sym is) (word_stands text ws s.word u (is_unsupportable (class_of s.word)) has s.none refl))
      (whole_stops (text_reader ws) ws u left has.nested refl e)

  -- the same for each way in which reading stops
  stop_stands : (text : List ℕ) (ws : List Word) (stop : Stop) → HasNested text ws → (stop ≢ Memory → whole text_reader ws ≡ failed stop) → FaultAt Derived text (fault_of (length text) ws stop)
  stop_stands text ws Memory has h = (tt, tt)
  stop_stands text ws (Refused u left) has h = refusal_stands text ws u left has (h (λ e. cc))

-- what holds of a reader of whole texts
pub record TextLaws {Tree : Type 0} (Derives : List Word → Tree → Type 0) (p : Reader Tree) : Type 0 where
  pub found : (text : List ℕ) (ws rest : List Word) (tree : Tree) → HasNested text ws → whole p ws ≡ read tree rest → Spells Derives text tree
  pub only : (text : List ℕ) (ws rest : List Word) (tree other : Tree) → HasNested text ws → whole p ws ≡ read tree rest → Spells Derives text other → other ≡ tree
  pub one : (text : List ℕ) (tree other : Tree) → Spells Derives text tree → Spells Derives text other → tree ≡ other
  pub refused : (text : List ℕ) (ws : List Word) (stop : Stop) (tree : Tree) → HasNested text ws → (stop ≢ Memory → whole p ws ≡ failed stop) → fault_of (length text) ws stop ≢ OutOfMemory → Spells Derives text tree → ⊥
  pub fault : (text : List ℕ) (ws : List Word) (stop : Stop) → HasNested text ws → (stop ≢ Memory → whole p ws ≡ failed stop) → FaultAt Derives text (fault_of (length text) ws stop)

-- a reader that agrees with its rule reads whole texts rightly and refuses them rightly
text_laws : {Tree : Type 0} (B : Phrase Tree) (b : Reader Tree) → ((N : ℕ) → Agrees N suc out B b) → TextLaws (λ ws tree. phrase.◌>>◌ Opening B ws tree []) (reading.◌>>◌ opening b)
text_laws B b g = record {
  found = λ text ws rest tree has e. record { parts = ws; lexed = has.lexed; nested = has.nested; derived = found_by B b g (reading.◌>>◌ opening b ws) ws rest tree refl e };
  only = λ text ws rest tree other has e s.
      let same = same_words text s.parts ws s.lexed has.lexed in
      let found : whole (reading.◌>>◌ opening b) ws ≡ read other [] = rw same at (whole_only B b g s.parts other s.derived) in
      cc;
  one = λ text tree other s r.
      let same = same_words text s.parts r.parts s.lexed r.lexed in
      let first : whole (reading.◌>>◌ opening b) r.parts ≡ read tree [] = rw same at (whole_only B b g s.parts tree s.derived) in
      let second : whole (reading.◌>>◌ opening b) r.parts ≡ read other [] = whole_only B b g r.parts other r.derived in
      cc;
  refused = λ text ws stop tree has h some s.
      let same = same_words text s.parts ws s.lexed has.lexed in
      let found : whole (reading.◌>>◌ opening b) ws ≡ read tree [] = rw same at (whole_only B b g s.parts tree s.derived) in
      let stopped = h (no_memory (length text) ws stop some) in
      cc;
  fault = stop_stands B b g;
}

-- the reader of domains reads and refuses rightly
pub domain_laws : TextLaws DerivesDomain domain
unfolding domain
domain_laws = text_laws IsDomainRest domain_rest domain_rest_agrees

-- the reader of problems reads and refuses rightly
pub problem_laws : TextLaws DerivesProblem problem
unfolding problem
problem_laws = text_laws IsProblemRest problem_rest problem_rest_agrees

-- a text whose words don't nest spells no tree
pub none_spelled : {Tree : Type 0} (Derives : List Word → Tree → Type 0) (text : List ℕ) (tree : Tree) → ((ws : List Word) → HasNested text ws → ⊥) → Spells Derives text tree → ⊥
none_spelled Derives text tree none s = none s.parts (record { lexed = s.lexed; nested = s.nested })

-- ---- the words from a place on

-- the first token is that of the first word
front_of : (tokens : List Token) (d : Token) → 1 ≤ length tokens → map word_of tokens ≡ word_of (get_or tokens 0 d) ∷ map word_of (drop 1 tokens)
front_of [] d some = absurd (omega arith)
front_of (t ∷ tokens) d some = refl

-- the token at a place is that of the word there
pub rest_at : (tokens : List Token) (from : ℕ) (d : Token) → 1 ≤ length (take (length tokens - from) (drop from tokens)) → drop from (map word_of tokens) ≡ word_of (get_or (take (length tokens - from) (drop from tokens)) 0 d) ∷ map word_of (drop 1 (take (length tokens - from) (drop from tokens)))
rest_at tokens from d some =
    let all : take (length tokens - from) (drop from tokens) ≡ drop from tokens = take_all (length tokens - from) (drop from tokens) (omega (arith, length-drop from tokens)) in
    drop-map word_of from tokens ∙ ap (map word_of) (sym all) ∙ front_of (take (length tokens - from) (drop from tokens)) d some
