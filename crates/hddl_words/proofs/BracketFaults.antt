-- The first fault of the brackets stands where it says, and there is none exactly where they nest.
use Rattle.std.proofs.Common.{◌≡◌, ◌≢◌, ℕ, zero, suc, ◌<◌, ◌≤◌, Bool, true, false, cond, eqb, eqb-true, List, [], ◌∷◌, ◌++◌, length, append-nil, ◌⊎◌, inl, inr, ⊎_elim, Option, Some, None, refl, sym, ap, ◌∙◌, arith, append_assoc}
use Rattle.std.proofs.lemmas.Bool.Decides.{nat_tests}
use Rattle.hddl_words.specs.declared.token.Kind.{Kind}
use Rattle.hddl_words.specs.declared.token.Kind.TheVariants as kind
use Rattle.hddl_words.specs.declared.class.Class.{Class}
use Rattle.hddl_words.specs.declared.class.Class.TheVariants as class
use Rattle.hddl_words.specs.declared.fault.TextFault.{TextFault}
use Rattle.hddl_words.specs.declared.fault.TextFault.TheVariants.{NotAscii, BadWord, Unclosed, ExtraClose, TooDeep, Expected, Unsupported, TooLong, OutOfMemory}
use Rattle.hddl_words.specs.Words.{Word}
use Rattle.hddl_words.specs.Class.{class_of, class_by}
use Rattle.hddl_words.specs.Brackets.{after, MayStand, Nests, bracket_at, bracket_fault}
use Rattle.hddl_words.specs.Faults.{LeadsBy, Leads, BracketFaultAt}

-- ---- how many brackets are open

-- one more is open after a word if one more was before it
leads_one : (k : Kind) (m : ℕ) (P Q : ℕ → Type 0) → ((n : ℕ) → P n → Q (suc n)) → LeadsBy k m P → LeadsBy k (suc m) Q
leads_one kind.Open m P Q up l = up (suc m) l
leads_one kind.Close zero P Q up l = absurd l
leads_one kind.Close (suc m) P Q up l = up m l
leads_one _ m P Q up l = up m l

-- words lead from one more to one more
leads_up : (m n : ℕ) (ws : List Word) → Leads m ws n → Leads (suc m) ws (suc n)
leads_up m n [] l = ap suc l
leads_up m n (w ∷ ws) l = leads_one w.kind m _ _ (λ k r. leads_up k n ws r) l

-- words that close all they open leave any number open
leads_more : (k : ℕ) (ws : List Word) → Leads 0 ws 0 → Leads k ws k
leads_more zero ws l = l
leads_more (suc k) ws l = leads_up k k ws (leads_more k ws l)

-- what follows of how many are open after a word follows there
leads_by : (k : Kind) (m : ℕ) (P Q : ℕ → Type 0) → ((n : ℕ) → P n → Q n) → LeadsBy k m P → LeadsBy k m Q
leads_by kind.Open m P Q to l = to (suc m) l
leads_by kind.Close zero P Q to l = absurd l
leads_by kind.Close (suc m) P Q to l = to m l
leads_by _ m P Q to l = to m l

-- words after words lead on from where these lead to
leads_append : (k m n : ℕ) (vs ws : List Word) → Leads k vs m → Leads m ws n → Leads k (vs ++ ws) n
leads_append k m n [] ws l r = rw l r
leads_append k m n (v ∷ vs) ws l r = leads_by v.kind k _ _ (λ j h. leads_append j m n vs ws h r) l

-- ---- the brackets that are open after some words, the innermost first

-- the words leave the brackets at these places open, the innermost first
unfoldable AreOpen : List Word → List ℕ → Type 0
AreOpen front [] = Leads 0 front 0
AreOpen front (place ∷ places) = (before : List Word) × (w : Word) × (since : List Word) × (front ≡ before ++ w ∷ since) × (w.kind ≡ kind.Open) × (w.place ≡ place) × AreOpen before places × Leads 0 since 0

-- an opening bracket in front of words opens one more
leads_open : (w : Word) (k n : ℕ) (ws : List Word) → w.kind ≡ kind.Open → Leads (suc k) ws n → Leads k (w ∷ ws) n
leads_open w k n ws is l = rw is l

-- a closing bracket closes one
leads_close : (w : Word) → w.kind ≡ kind.Close → Leads 1 (w ∷ []) 0
leads_close w is = rw is refl

-- another word leaves as many open
leads_other : (w : Word) (k : Kind) → w.kind ≡ k → (k ≡ kind.Open → ⊥) → (k ≡ kind.Close → ⊥) → Leads 0 (w ∷ []) 0
leads_other w kind.Open is no_open no_close = absurd (no_open refl)
leads_other w kind.Close is no_open no_close = absurd (no_close refl)
leads_other w _ is no_open no_close = rw is refl

-- words that leave brackets open lead to so many
open_depth : (front : List Word) (places : List ℕ) → AreOpen front places → Leads 0 front (length places)
unfolding AreOpen
open_depth front [] o = o
open_depth front (place ∷ places) (before, w, since, whole, is, here, inner, closed) =
    rw whole (leads_append 0 (length places) (suc (length places)) before (w ∷ since) (open_depth before places inner) (leads_open w (length places) (suc (length places)) since is (leads_more (suc (length places)) since closed)))

-- words that close all they open leave the same brackets open
open_same : (front more : List Word) (places : List ℕ) → AreOpen front places → Leads 0 more 0 → AreOpen (front ++ more) places
unfolding AreOpen
open_same front more [] o l = leads_append 0 0 0 front more o l
open_same front more (place ∷ places) (before, w, since, whole, is, here, inner, closed) l =
    (before, w, since ++ more, ap (λ f. f ++ more) whole ∙ append_assoc before (w ∷ since) more, is, here, inner, leads_append 0 0 0 since more closed l)

-- an opening bracket is the innermost that is open
open_push : (front : List Word) (w : Word) (places : List ℕ) → w.kind ≡ kind.Open → AreOpen front places → AreOpen (front ++ w ∷ []) (w.place ∷ places)
unfolding AreOpen
open_push front w places is o = (front, w, [], refl, is, refl, o, refl)

-- a closing bracket closes the innermost
open_pop : (front : List Word) (w : Word) (place : ℕ) (places : List ℕ) → w.kind ≡ kind.Close → AreOpen front (place ∷ places) → AreOpen (front ++ w ∷ []) places
unfolding AreOpen
open_pop front w place places is (before, v, since, whole, opens, here, inner, closed) =
    let pair : Leads 0 (v ∷ (since ++ w ∷ [])) 0 = leads_open v 0 0 (since ++ w ∷ []) opens (leads_append 1 1 0 since (w ∷ []) (leads_more 1 since closed) (leads_close w is)) in
    let joined : front ++ w ∷ [] ≡ before ++ (v ∷ (since ++ w ∷ [])) = ap (λ f. f ++ w ∷ []) whole ∙ append_assoc before (v ∷ since) (w ∷ []) in
    rw joined (open_same before (v ∷ (since ++ w ∷ [])) places inner pair)

-- ---- the first fault

-- a fault at an opening bracket is that it is too deep, or comes later
too_deep : (b : Bool) (place : ℕ) (next : Option TextFault) (fault : TextFault) → cond b (Some (TooDeep place)) next ≡ Some fault → ((b ≡ true) × (fault ≡ TooDeep place)) ⊎ ((b ≡ false) × (next ≡ Some fault))
too_deep true place next fault e = inl (refl, cc)
too_deep false place next fault e = inr (refl, e)

module _ (words front ws : List Word) (w : Word) (fault : TextFault) (whole : words ≡ front ++ w ∷ ws) (places : List ℕ) (are : AreOpen front places)
    (rest : (next : List ℕ) → AreOpen (front ++ w ∷ []) next → bracket_fault next ws ≡ Some fault → BracketFaultAt words fault) where
  -- the fault at a word holds there by the word's kind
  fault_by : (k : Kind) → w.kind ≡ k → (held : List ℕ) → places ≡ held → bracket_at k w.place held (λ p. bracket_fault p ws) ≡ Some fault → BracketFaultAt words fault
  fault_by kind.Open is held same e =
      ⊎_elim
      (λ (h : (eqb (length held) 64 ≡ true) × (fault ≡ TooDeep w.place)).
      let full : length places ≡ 64 = ap length same ∙ eqb-true (length held) 64 h.0 in
      rw h.1 (front, w, ws, whole, is, refl, rw full at (open_depth front places are)))
      (λ (h : (eqb (length held) 64 ≡ false) × (bracket_fault (w.place ∷ held) ws ≡ Some fault)).
      rest (w.place ∷ held) (open_push front w held is (rw same at are)) h.1)
      (too_deep (eqb (length held) 64) w.place (bracket_fault (w.place ∷ held) ws) fault e)
  fault_by kind.Close is [] same e =
      let at : fault ≡ ExtraClose w.place = cc in
      rw at (front, w, ws, whole, is, refl, rw same at (open_depth front places are))
  fault_by kind.Close is (place ∷ held) same e = rest held (open_pop front w place held is (rw same at are)) e
  fault_by k is held same e = rest held (open_same front (w ∷ []) held (rw same at are) (leads_other w k is (λ h. cc) (λ h. cc))) e

-- the fault that is found stands at its place
bracket_stands : (words front ws : List Word) (places : List ℕ) (fault : TextFault) → words ≡ front ++ ws → AreOpen front places → bracket_fault places ws ≡ Some fault → BracketFaultAt words fault
unfolding bracket_fault AreOpen
bracket_stands words front [] [] fault whole are e = absurd cc
bracket_stands words front [] (place ∷ places) fault whole (before, w, since, split, is, here, inner, closed) e =
    let at : fault ≡ Unclosed place = cc in
    rw at (before, w, since, whole ∙ append-nil front ∙ split, is, here, ((length places, open_depth before places inner), closed))
bracket_stands words front (w ∷ ws) places fault whole are e =
    fault_by words front ws w fault whole places are (λ next o f. bracket_stands words (front ++ w ∷ []) ws next fault (whole ∙ sym (append_assoc front (w ∷ []) ws)) o f) w.kind refl places refl e

-- the same of whole texts
pub bracket_fault_at : (ws : List Word) (fault : TextFault) → bracket_fault [] ws ≡ Some fault → BracketFaultAt ws fault
unfolding AreOpen
bracket_fault_at ws fault e = bracket_stands ws [] ws [] fault refl refl e

-- ---- none where the brackets nest

-- a sign may stand anywhere and opens nothing
plain_sign : (P : ℕ → Type 0) (b d : Bool) (k : ℕ) → P k → MayStand (cond b class.Minus (cond d class.Equal class.Less)) k × P (after (cond b class.Minus (cond d class.Equal class.Less)) k)
plain_sign P true d k p = (tt, p)
plain_sign P false true k p = (tt, p)
plain_sign P false false k p = (tt, p)

-- the class of a name by which of the kept words it is
abbrev named_by : Bool → Bool → Bool → Bool → Class
named_by a n f l = cond a class.And (cond n class.Not (cond f class.Forall (cond l class.Reserved class.Name)))

-- a name may stand anywhere and opens nothing
plain_name : (P : ℕ → Type 0) (a n f l : Bool) (k : ℕ) → P k → MayStand (named_by a n f l) k × P (after (named_by a n f l) k)
plain_name P true n f l k p = (tt, p)
plain_name P false true f l k p = (tt, p)
plain_name P false false true l k p = (tt, p)
plain_name P false false false true k p = (tt, p)
plain_name P false false false false k p = (tt, p)

-- where an opening bracket isn't too deep, reading goes on
room : (b : Bool) (place : ℕ) (next : Option TextFault) → cond b (Some (TooDeep place)) next ≡ None → (b ≡ false) × (next ≡ None)
room true place next e = absurd cc
room false place next e = (refl, e)

-- a word without a fault may stand, and what follows nests
step_nests : (k : Kind) (text : List ℕ) (place : ℕ) (places : List ℕ) (ws : List Word) → ((ps : List ℕ) → length ps ≤ 64 → bracket_fault ps ws ≡ None → Nests (length ps) ws) → length places ≤ 64 → bracket_at k place places (λ p. bracket_fault p ws) ≡ None → MayStand (class_by k text) (length places) × Nests (after (class_by k text) (length places)) ws
step_nests kind.Open text place places ws rest few e =
    let r = room (eqb (length places) 64) place (bracket_fault (place ∷ places) ws) e in
    let less : length places < 64 = grind (arith, nat_tests, r.0) in
    (less, rest (place ∷ places) (omega arith) r.1)
step_nests kind.Close text place [] ws rest few e = absurd cc
step_nests kind.Close text place (p ∷ places) ws rest few e = (omega arith, rest places (omega arith) e)
step_nests kind.Variable text place places ws rest few e = (tt, rest places few e)
step_nests kind.Keyword text place places ws rest few e = (tt, rest places few e)
step_nests kind.Sign text place places ws rest few e = plain_sign (λ k. Nests k ws) _ _ (length places) (rest places few e)
step_nests kind.Name text place places ws rest few e = plain_name (λ k. Nests k ws) _ _ _ _ (length places) (rest places few e)

-- where no fault is found, the brackets nest
pub nests_from_brackets : (places : List ℕ) (ws : List Word) → length places ≤ 64 → bracket_fault places ws ≡ None → Nests (length places) ws
unfolding bracket_fault class_of
nests_from_brackets [] [] few e = refl
nests_from_brackets (p ∷ places) [] few e = absurd cc
nests_from_brackets places (w ∷ ws) few e = step_nests w.kind w.text w.place places ws (λ ps less f. nests_from_brackets ps ws less f) few e

-- where an opening bracket has room and what follows no fault, there is none
free : (b : Bool) (place : ℕ) (next : Option TextFault) → b ≡ false → next ≡ None → cond b (Some (TooDeep place)) next ≡ None
free true place next is e = absurd cc
free false place next is e = e

-- what holds after a sign holds before it
plain_sign_back : (P : ℕ → Type 0) (b d : Bool) (k : ℕ) → P (after (cond b class.Minus (cond d class.Equal class.Less)) k) → P k
plain_sign_back P true d k p = p
plain_sign_back P false true k p = p
plain_sign_back P false false k p = p

-- what holds after a name holds before it
plain_name_back : (P : ℕ → Type 0) (a n f l : Bool) (k : ℕ) → P (after (named_by a n f l) k) → P k
plain_name_back P true n f l k p = p
plain_name_back P false true f l k p = p
plain_name_back P false false true l k p = p
plain_name_back P false false false true k p = p
plain_name_back P false false false false k p = p

-- a word that may stand has no fault if what follows has none
step_free : (k : Kind) (text : List ℕ) (place : ℕ) (places : List ℕ) (ws : List Word) → ((ps : List ℕ) → Nests (length ps) ws → bracket_fault ps ws ≡ None) → MayStand (class_by k text) (length places) → Nests (after (class_by k text) (length places)) ws → bracket_at k place places (λ p. bracket_fault p ws) ≡ None
step_free kind.Open text place places ws rest may n = free (eqb (length places) 64) place _ (grind (arith, nat_tests, may)) (rest (place ∷ places) n)
step_free kind.Close text place [] ws rest may n = absurd (omega arith)
step_free kind.Close text place (p ∷ places) ws rest may n = rest places n
step_free kind.Variable text place places ws rest may n = rest places n
step_free kind.Keyword text place places ws rest may n = rest places n
step_free kind.Sign text place places ws rest may n = rest places (plain_sign_back (λ k. Nests k ws) _ _ (length places) n)
step_free kind.Name text place places ws rest may n = rest places (plain_name_back (λ k. Nests k ws) _ _ _ _ (length places) n)

-- where the brackets nest, no fault is found
pub brackets_from_nests : (places : List ℕ) (ws : List Word) → Nests (length places) ws → bracket_fault places ws ≡ None
unfolding bracket_fault class_of
brackets_from_nests [] [] n = refl
brackets_from_nests (p ∷ places) [] n = absurd (omega arith)
brackets_from_nests places (w ∷ ws) n = step_free w.kind w.text w.place places ws (λ ps m. brackets_from_nests ps ws m) n.0 n.1

-- the same where the fault may be want of memory
pub bracket_fault_stands : (ws : List Word) (fault : TextFault) → (fault ≢ OutOfMemory → bracket_fault [] ws ≡ Some fault) → BracketFaultAt ws fault
bracket_fault_stands ws OutOfMemory h = tt
bracket_fault_stands ws (NotAscii place) h = bracket_fault_at ws _ (h (λ e. cc))
bracket_fault_stands ws (BadWord place) h = bracket_fault_at ws _ (h (λ e. cc))
bracket_fault_stands ws (Unclosed place) h = bracket_fault_at ws _ (h (λ e. cc))
bracket_fault_stands ws (ExtraClose place) h = bracket_fault_at ws _ (h (λ e. cc))
bracket_fault_stands ws (TooDeep place) h = bracket_fault_at ws _ (h (λ e. cc))
bracket_fault_stands ws (Expected place) h = bracket_fault_at ws _ (h (λ e. cc))
bracket_fault_stands ws (Unsupported place) h = bracket_fault_at ws _ (h (λ e. cc))
bracket_fault_stands ws (TooLong place) h = bracket_fault_at ws _ (h (λ e. cc))

-- brackets with a fault don't nest
pub bracket_fault_never : (ws : List Word) (fault : TextFault) → (fault ≢ OutOfMemory → bracket_fault [] ws ≡ Some fault) → fault ≢ OutOfMemory → Nests 0 ws → ⊥
bracket_fault_never ws fault h some nests =
    let none = brackets_from_nests [] ws nests in
    let found = h some in
    cc
