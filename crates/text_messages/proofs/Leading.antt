-- How brackets lead from one number of open ones to another.
use Rattle.std.proofs.Common.{◌≡◌, ℕ, zero, suc, ◌+◌, ◌<◌, ◌≤◌, List, [], ◌∷◌, ◌++◌, length, get_or, take, drop, map, Option, Some, IfSome, slice_get, refl, sym, ap, subst, ◌∙◌, arith, add-one}
use Rattle.std.proofs.lemmas.List.{take-map}
use Rattle.hddl_words.specs.declared.token.Kind.{Kind}
use Rattle.hddl_words.specs.declared.token.Kind.TheVariants as kind
use Rattle.hddl_words.specs.Faults.{Leads, LeadsBy}
use Rattle.hddl_words.specs.declared.token.Token.{Token}
use Rattle.hddl_words.specs.Words.{Word, word_of}

-- what holds after a word, as far as the number is concerned
pub lead_map : (k : Kind) (n : ℕ) (P Q : ℕ → Type 0) → ((m : ℕ) → P m → Q m) → LeadsBy k n P → LeadsBy k n Q
lead_map kind.Open n P Q f h = f (suc n) h
lead_map kind.Close zero P Q f h = absurd h
lead_map kind.Close (suc n) P Q f h = f n h
lead_map kind.Variable n P Q f h = f n h
lead_map kind.Keyword n P Q f h = f n h
lead_map kind.Sign n P Q f h = f n h
lead_map kind.Name n P Q f h = f n h

-- two facts of the number after a word
lead_both : (k : Kind) (n : ℕ) (P Q R : ℕ → Type 0) → ((m : ℕ) → P m → Q m → R m) → LeadsBy k n P → LeadsBy k n Q → LeadsBy k n R
lead_both kind.Open n P Q R f h g = f (suc n) h g
lead_both kind.Close zero P Q R f h g = absurd h
lead_both kind.Close (suc n) P Q R f h g = f n h g
lead_both kind.Variable n P Q R f h g = f n h g
lead_both kind.Keyword n P Q R f h g = f n h g
lead_both kind.Sign n P Q R f h g = f n h g
lead_both kind.Name n P Q R f h g = f n h g

-- where nothing depends on the number
lead_out : (k : Kind) (n : ℕ) (A : Type 0) → LeadsBy k n (λ m. A) → A
lead_out kind.Open n A h = h
lead_out kind.Close zero A h = absurd h
lead_out kind.Close (suc n) A h = h
lead_out kind.Variable n A h = h
lead_out kind.Keyword n A h = h
lead_out kind.Sign n A h = h
lead_out kind.Name n A h = h

-- with more open brackets, more are open afterwards
lead_shift : (k : Kind) (n d : ℕ) (P : ℕ → Type 0) → LeadsBy k n (λ m. P (m + d)) → LeadsBy k (n + d) P
lead_shift kind.Open n d P h = let e : suc n + d ≡ suc (n + d) = omega arith in subst P e h
lead_shift kind.Close zero d P h = absurd h
lead_shift kind.Close (suc n) d P h = let e : suc (n + d) ≡ suc n + d = omega arith in subst (λ m. LeadsBy kind.Close m P) e h
lead_shift kind.Variable n d P h = h
lead_shift kind.Keyword n d P h = h
lead_shift kind.Sign n d P h = h
lead_shift kind.Name n d P h = h

-- one word more
pub leads_more : (front : List Word) (w : Word) (a n m : ℕ) → Leads a front n → LeadsBy w.kind n (λ k. k ≡ m) → Leads a (front ++ w ∷ []) m
leads_more [] w a n m h step = lead_map w.kind a (λ k. k ≡ m) (λ next. Leads next [] m) (λ k e. e) (subst (λ n. LeadsBy w.kind n (λ k. k ≡ m)) (sym h) step)
leads_more (v ∷ front) w a n m h step = lead_map v.kind a (λ next. Leads next front n) (λ next. Leads next (front ++ w ∷ []) m) (λ next g. leads_more front w next n m g step) h

-- from one number words lead to one
pub leads_once : (ws : List Word) (a b c : ℕ) → Leads a ws b → Leads a ws c → b ≡ c
leads_once [] a b c h g = sym h ∙ g
leads_once (w ∷ ws) a b c h g =
    lead_out w.kind a (b ≡ c) (lead_both w.kind a (λ n. Leads n ws b) (λ n. Leads n ws c) (λ n. b ≡ c) (λ n h g. leads_once ws n b c h g) h g)

-- with more open brackets they lead to more
pub leads_shifted : (ws : List Word) (a b d : ℕ) → Leads a ws b → Leads (a + d) ws (b + d)
leads_shifted [] a b d h = ap (λ n. n + d) h
leads_shifted (w ∷ ws) a b d h =
    lead_shift w.kind a d (λ n. Leads n ws (b + d)) (lead_map w.kind a (λ n. Leads n ws b) (λ n. Leads (n + d) ws (b + d)) (λ n h. leads_shifted ws n b d h) h)

-- words that close just what they open don't close what is open before them
pub leads_none : (ws : List Word) (a : ℕ) → Leads 0 ws 0 → Leads a ws 0 → a ≡ 0
leads_none ws a h g =
    let e : 0 + a ≡ a = omega arith in
    sym (leads_once ws a 0 a g (subst (λ n. Leads n ws n) e (leads_shifted ws 0 0 a h)))

-- parts of words
pub leads_cut : (front rest : List Word) (a c : ℕ) → Leads a (front ++ rest) c → (b : ℕ) × Leads b rest c
leads_cut [] rest a c h = (a, h)
leads_cut (w ∷ front) rest a c h =
    lead_out w.kind a ((b : ℕ) × Leads b rest c) (lead_map w.kind a (λ n. Leads n (front ++ rest) c) (λ n. (b : ℕ) × Leads b rest c) (λ n h. leads_cut front rest n c h) h)

-- past the end nothing is opened or closed
pub leads_past : (ws : List Word) (k : ℕ) → length ws ≤ k → Leads 0 (drop k ws) 0
leads_past [] zero le = refl
leads_past [] (suc k) le = refl
leads_past (w ∷ ws) zero le = absurd (omega (arith, le))
leads_past (w ∷ ws) (suc k) le = leads_past ws k (omega (arith, le))

-- ## Words by their indices

-- a word of some tokens
pub word_here : (tokens : List Token) (k : ℕ) (d : Token) → k < length tokens → d ≡ get_or tokens k d → slice_get (map word_of tokens) k ≡ Some (word_of d)
word_here [] k d lt is = absurd (omega arith)
word_here (t ∷ tokens) zero d lt is = ap (λ t. Some (word_of t)) (sym is)
word_here (t ∷ tokens) (suc k) d lt is = word_here tokens k d (omega arith) is

-- the words up to one, and that one
take_next : (ws : List Word) (k : ℕ) (w : Word) → slice_get ws k ≡ Some w → take (suc k) ws ≡ take k ws ++ w ∷ []
take_next [] k w is = absurd cc
take_next (v ∷ ws) zero w is = let e : v ≡ w = cc in ap (λ x. x ∷ []) e
take_next (v ∷ ws) (suc k) w is = ap (λ l. v ∷ l) (take_next ws k w is)

-- one word more of some
pub leads_next : (ws : List Word) (k : ℕ) (w : Word) (n m : ℕ) → slice_get ws k ≡ Some w → Leads 0 (take k ws) n → LeadsBy w.kind n (λ x. x ≡ m) → Leads 0 (take (k + 1) ws) m
leads_next ws k w n m is h step =
    subst (λ j. Leads 0 (take j ws) m) (sym (add-one k)) (subst (λ l. Leads 0 l m) (sym (take_next ws k w is)) (leads_more (take k ws) w 0 n m h step))

-- what holds of the words of some tokens holds of some of the words
pub of_taken : (P : List Word → ℕ → Type 0) (tokens : List Token) (k : ℕ) (o : Option ℕ) → IfSome o (P (map word_of (take k tokens))) → IfSome o (P (take k (map word_of tokens)))
of_taken P tokens k o h = subst (λ ws. IfSome o (P ws)) (sym (take-map word_of k tokens)) h
