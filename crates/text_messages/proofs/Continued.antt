-- The words before a blank are the same, whatever comes after it; so what the grammar refuses there is in no text that
-- goes on in another way.
use Rattle.std.proofs.Common.{◌≡◌, ◌⊎◌, ℕ, ◌+◌, ◌<◌, ◌≤◌, true, false, cond, inl, inr, List, [], ◌∷◌, ◌++◌, length, Some, Ok, refl, sym, ap, subst, ◌∙◌, arith, append_assoc, length-append}
use Rattle.std.specs.List.{All, take_while}
use Rattle.std.proofs.lemmas.List.Sums.{take_while-cons}
use Rattle.std.proofs.lemmas.List.Elements.{All-nil, All-cons, All-head, All-tail, All-weaker}
use Rattle.hddl_words.specs.declared.fault.TextFault.TheVariants.{Expected, Unsupported}
use Rattle.hddl_words.specs.Standing.{AreWords, Begins, end, begins, passes}
use Rattle.hddl_words.specs.Word.{Word, is_word_byte, kind_of, word}
use Rattle.hddl_words.specs.Words.{words}
use Rattle.hddl_words.proofs.WordFaults.{words_of}
use Rattle.hddl_text.specs.Grammar.{DerivesDomain, DerivesProblem}
use Rattle.hddl_text.specs.Spelling.{BeginsNone, FaultAt, Spells}
use Rattle.diagnostics.specs.declared.diagnostic.Role.{Role}
use Rattle.diagnostics.specs.declared.diagnostic.Role.TheVariants as role
use Rattle.text_messages.specs.Following.{IsRefusedAt, MayFollow, continued}

-- ## Words before a blank

-- a run ends at a blank
run_same : (bytes X Y : List ℕ) → take_while is_word_byte (bytes ++ 32 ∷ X) ≡ take_while is_word_byte (bytes ++ 32 ∷ Y)
run_same [] X Y = take_while-cons is_word_byte 32 X ∙ sym (take_while-cons is_word_byte 32 Y)
run_same (b ∷ bytes) X Y =
    take_while-cons is_word_byte b (bytes ++ 32 ∷ X) ∙ ap (λ l. cond (is_word_byte b) (b ∷ l) []) (run_same bytes X Y) ∙ sym (take_while-cons is_word_byte b (bytes ++ 32 ∷ Y))

-- so a word before it begins in either text
begins_same : (front bytes X Y : List ℕ) (b : ℕ) (w : Word) → Begins front b (bytes ++ 32 ∷ X) w → Begins front b (bytes ++ 32 ∷ Y) w
begins_same front bytes X Y b w (outside, place, inl bracket) = (outside, place, inl bracket)
begins_same front bytes X Y b w (outside, place, inr run) = (outside, place, inr (run.0, run.1, run.2 ∙ run_same (b ∷ bytes) X Y, run.3))

-- no word begins with a blank
no_word : (front rest : List ℕ) (w : Word) → Begins front 32 rest w → ⊥
no_word front rest w (outside, place, inl (inl h, text)) = absurd (let e = h.0 in omega (arith, e))
no_word front rest w (outside, place, inl (inr h, text)) = absurd (let e = h.0 in omega (arith, e))
no_word front rest w (outside, place, inr run) = absurd (let e : false ≡ true = run.1 in cc)

-- a word is its parts
same_word : (w v : Word) → w.kind ≡ v.kind → w.place ≡ v.place → w.text ≡ v.text → w ≡ v
same_word w v k p t = λ i. word (k i) (p i) (t i)

-- at most one word begins with a byte
one_word : (front rest : List ℕ) (b : ℕ) (w v : Word) → Begins front b rest w → Begins front b rest v → w ≡ v
one_word front rest b w v (o, p, inl (inl h, t)) (o', p', inl (inl h', t')) = same_word w v (h.1 ∙ sym h'.1) (p ∙ sym p') (t ∙ sym t')
one_word front rest b w v (o, p, inl (inl h, t)) (o', p', inl (inr h', t')) = absurd (let e = h.0 in let e' = h'.0 in omega (arith, e, e'))
one_word front rest b w v (o, p, inl (inr h, t)) (o', p', inl (inl h', t')) = absurd (let e = h.0 in let e' = h'.0 in omega (arith, e, e'))
one_word front rest b w v (o, p, inl (inr h, t)) (o', p', inl (inr h', t')) = same_word w v (h.1 ∙ sym h'.1) (p ∙ sym p') (t ∙ sym t')
one_word front rest b w v (o, p, inl (inl h, t)) (o', p', inr run) = absurd (let e : false ≡ true = subst (λ b. is_word_byte b ≡ true) h.0 run.1 in cc)
one_word front rest b w v (o, p, inl (inr h, t)) (o', p', inr run) = absurd (let e : false ≡ true = subst (λ b. is_word_byte b ≡ true) h.0 run.1 in cc)
one_word front rest b w v (o, p, inr run) (o', p', inl (inl h, t)) = absurd (let e : false ≡ true = subst (λ b. is_word_byte b ≡ true) h.0 run.1 in cc)
one_word front rest b w v (o, p, inr run) (o', p', inl (inr h, t)) = absurd (let e : false ≡ true = subst (λ b. is_word_byte b ≡ true) h.0 run.1 in cc)
one_word front rest b w v (o, p, inr run) (o', p', inr run') =
    let text : w.text ≡ v.text = run.2 ∙ sym run'.2 in
    let kinds : Some w.kind ≡ Some v.kind = sym run.3 ∙ ap (λ t. kind_of b (length t)) text ∙ run'.3 in
    let kinds' : w.kind ≡ v.kind = cc in
    same_word w v kinds' (p ∙ sym p') text

-- ## Words after some bytes

-- a word at this place or later
abbrev IsFrom : ℕ → Word → Type 0
IsFrom place w = place ≤ w.place

-- what stands after one byte more stands after them
later : (front : List ℕ) (b : ℕ) (ws : List Word) → All (IsFrom (length (front ++ b ∷ []))) ws → All (IsFrom (length front)) ws
later front b ws all =
    All-weaker (IsFrom (length (front ++ b ∷ []))) (IsFrom (length front)) (λ w h. let e = length-append front (b ∷ []) in omega (arith, h, e)) ws all

-- each stands after them
stand_after : {front bytes : List ℕ} {ws : List Word} → AreWords front bytes ws → All (IsFrom (length front)) ws
stand_after {front} end = All-nil (IsFrom (length front))
stand_after {front} (begins {b = b} {w = w} {ws = ws} h more) =
    All-cons (IsFrom (length front)) w ws (omega (arith, h.1)) (later front b ws (stand_after more))
stand_after {front} (passes {b = b} {ws = ws} none more) = later front b ws (stand_after more)

-- a word past this place
abbrev IsPast : ℕ → Word → Type 0
IsPast place w = place < w.place

-- two texts that are the same up to a blank have the same words up to there, and the others of the first stand after it
record IsShared (front bytes : List ℕ) (ws zs : List Word) : Type 0 where
  shared : List Word
  one : List Word
  other : List Word
  first : ws ≡ shared ++ one
  second : zs ≡ shared ++ other
  after : All (IsPast (length front + length bytes)) one

-- past the bytes, of which one is taken off
still_past : (front bytes : List ℕ) (b : ℕ) (ws : List Word) → All (IsPast (length (front ++ b ∷ []) + length bytes)) ws → All (IsPast (length front + length (b ∷ bytes))) ws
still_past front bytes b ws all =
    All-weaker (IsPast (length (front ++ b ∷ []) + length bytes)) (IsPast (length front + length (b ∷ bytes)))
    (λ w h. let e = length-append front (b ∷ []) in omega (arith, h, e)) ws all

share : (bytes front X Y : List ℕ) (ws zs : List Word) → AreWords front (bytes ++ 32 ∷ X) ws → AreWords front (bytes ++ 32 ∷ Y) zs → IsShared front bytes ws zs
share [] front X Y (w ∷ ws) zs (begins h more) two = absurd (no_word front X w h)
share [] front X Y ws (z ∷ zs) (passes none more) (begins h more') = absurd (no_word front Y z h)
share [] front X Y ws zs (passes none more) (passes none' more') = record {
  shared = [];
  one = ws;
  other = zs;
  first = refl;
  second = refl;
  after = All-weaker (IsFrom (length (front ++ 32 ∷ []))) (IsPast (length front + 0)) (λ w h. let e = length-append front (32 ∷ []) in omega (arith, h, e)) ws (stand_after more);
}
share (b ∷ bytes) front X Y (w ∷ ws) (z ∷ zs) (begins h more) (begins h' more') =
    let rest = share bytes (front ++ b ∷ []) X Y ws zs more more' in
    let same : w ≡ z = one_word front (bytes ++ 32 ∷ Y) b w z (begins_same front bytes X Y b w h) h' in
    record {
      shared = w ∷ rest.shared;
      one = rest.one;
      other = rest.other;
      first = ap (λ l. w ∷ l) rest.first;
      second = (λ i. sym same i ∷ rest.second i);
      after = still_past front bytes b rest.one rest.after;
    }
share (b ∷ bytes) front X Y (w ∷ ws) zs (begins h more) (passes none' more') = absurd (none' w (begins_same front bytes X Y b w h))
share (b ∷ bytes) front X Y ws (z ∷ zs) (passes none more) (begins h' more') = absurd (none z (begins_same front bytes Y X b z h'))
share (b ∷ bytes) front X Y ws zs (passes none more) (passes none' more') =
    let rest = share bytes (front ++ b ∷ []) X Y ws zs more more' in
    record {
      shared = rest.shared;
      one = rest.one;
      other = rest.other;
      first = rest.first;
      second = rest.second;
      after = still_past front bytes b rest.one rest.after;
    }

-- ## A refused word

-- a word among others
among : (P : Word → Type 0) (front rest : List Word) (w : Word) → All P (front ++ w ∷ rest) → P w
among P [] rest w all = All-head P w rest all
among P (v ∷ front) rest w all = among P front rest w (All-tail P v (front ++ w ∷ rest) all)

-- a word that isn't among the last is among the first
cut : (P : Word → Type 0) (us vs front rest : List Word) (w : Word) → us ++ vs ≡ front ++ w ∷ rest → All P vs → (P w → ⊥) → (more : List Word) × (us ≡ front ++ w ∷ more)
cut P [] vs front rest w is all not = absurd (not (among P front rest w (subst (All P) is all)))
cut P (u ∷ us) vs [] rest w is all not = let e : u ≡ w = cc in (us, ap (λ x. x ∷ us) e)
cut P (u ∷ us) vs (v ∷ front) rest w is all not =
    let e : u ≡ v = cc in
    let tail : us ++ vs ≡ front ++ w ∷ rest = cc in
    let (more, found) = cut P us vs front rest w tail all not in
    (more, λ i. e i ∷ found i)

module _ {Tree : Type 0} (Derives : List Word → Tree → Type 0) (before word rest other : List ℕ) where
  -- the bytes up to the blank
  abbrev start : List ℕ
  start = before ++ 10 ∷ word

  as_start : (rest : List ℕ) → continued before word rest ≡ start ++ 32 ∷ rest
  as_start rest = refl

  -- where the grammar refuses the word, no text with the word is spelled
  refused_word : (ws : List Word) (w : Word) → words (continued before word rest) ≡ Ok ws → w.place ≡ length before + 1 → BeginsNone Derives ws w
      → (tree : Tree) → Spells Derives (continued before word other) tree → ⊥
  refused_word ws w lexed place none tree spelled =
      let one : AreWords [] (start ++ 32 ∷ rest) ws = subst (λ t. AreWords [] t ws) (as_start rest) (words_of _ ws lexed) in
      let two : AreWords [] (start ++ 32 ∷ other) spelled.parts = subst (λ t. AreWords [] t spelled.parts) (as_start other) (words_of _ spelled.parts spelled.lexed) in
      let s = share start [] rest other ws spelled.parts one two in
      let P : Word → Type 0 = IsPast (0 + length start) in
      let long = length-append before (10 ∷ word) in
      let (more, found) = cut P s.shared s.one none.front none.rest w (sym s.first ∙ none.whole) s.after (λ h. omega (arith, h, place, long)) in
      let whole : spelled.parts ≡ none.front ++ w ∷ (more ++ s.other) =
      s.second ∙ ap (λ l. l ++ s.other) found ∙ append_assoc none.front (w ∷ more) s.other in
      none.never (more ++ s.other) tree (subst (λ l. Derives l tree) whole spelled.derived)

  -- nor is one where the fault is that word
  no_expected : FaultAt Derives (continued before word rest) (Expected (length before + 1)) → (tree : Tree) → Spells Derives (continued before word other) tree → ⊥
  no_expected (ws, nested, inl empty) tree spelled =
      let long = length-append (before ++ 10 ∷ word) (32 ∷ rest) in
      let first = length-append before (10 ∷ word) in
      let e : length before + 1 ≡ length ((before ++ 10 ∷ word) ++ 32 ∷ rest) = empty.1 in
      absurd (omega (arith, long, first, e))
  no_expected (ws, nested, inr (w, place, none)) tree spelled = refused_word ws w nested.lexed place none tree spelled

  no_unsupported : FaultAt Derives (continued before word rest) (Unsupported (length before + 1)) → (tree : Tree) → Spells Derives (continued before word other) tree → ⊥
  no_unsupported (ws, nested, (w, place, none, is)) tree spelled = refused_word ws w nested.lexed place none tree spelled

  pub neither : FaultAt Derives (continued before word rest) (Expected (length before + 1)) ⊎ FaultAt Derives (continued before word rest) (Unsupported (length before + 1))
      → (tree : Tree) → Spells Derives (continued before word other) tree → ⊥
  neither (inl h) = no_expected h
  neither (inr h) = no_unsupported h

-- a word that the grammar refuses after some bytes may not stand there
pub never_follows : (r : Role) (before word rest : List ℕ) → IsRefusedAt r (continued before word rest) (length before + 1) → MayFollow r before word → ⊥
never_follows role.Problem before word rest refused (other, (tree, spelled)) = neither DerivesProblem before word rest other refused tree spelled
never_follows role.Domain before word rest refused (other, (tree, spelled)) = neither DerivesDomain before word rest other refused tree spelled
never_follows role.Plan before word rest refused (other, (tree, spelled)) = neither DerivesDomain before word rest other refused tree spelled
