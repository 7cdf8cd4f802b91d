-- A word is the word at the front of its own bytes, and names and variables are what they are by these.
use Rattle.std.proofs.Common.{◌≡◌, ℕ, ◌||◌, Bool, true, false, cond, eqb, ltb, List, [], ◌∷◌, length, Option, Some, None, Result, Ok, Err, refl, sym, ap, ◌∙◌}
use Rattle.std.specs.Prelude.{codes}
use Rattle.std.specs.Str.{str_eq_ignore_ascii_case}
use Rattle.std.proofs.lemmas.List.Sums.{take_while-cons}
use Rattle.std.specs.List.{take_while, list_all}
use Rattle.hddl_words.specs.declared.token.Kind.{Kind}
use Rattle.hddl_words.specs.declared.token.Kind.TheVariants as kind
use Rattle.hddl_words.specs.declared.class.Class.{Class}
use Rattle.hddl_words.specs.declared.class.Class.TheVariants as class
use Rattle.hddl_words.specs.declared.fault.TextFault.{TextFault}
use Rattle.hddl_words.specs.declared.fault.TextFault.TheVariants.{NotAscii}
use Rattle.hddl_words.specs.Word.{Word, word, is_word_byte, kind_of, kinded, word_at}
use Rattle.hddl_words.specs.Class.{is_left_out, class_by, class_of}
use Rattle.hddl_words.specs.Names.{is_mark, is_reserved_text, is_name, is_variable}

-- ---- a run of bytes

module _ (p : ℕ → Bool) where
  -- a byte that passes is the first of a run
  run_front : (b : ℕ) (bytes : List ℕ) → p b ≡ true → take_while p (b ∷ bytes) ≡ b ∷ take_while p bytes
  run_front b bytes is = take_while-cons p b bytes ∙ ap (λ t. cond t (b ∷ take_while p bytes) []) is

  -- a run cut from itself, with one byte in front
  run_step : (t : Bool) (b : ℕ) (bytes : List ℕ) → p b ≡ t → take_while p (take_while p bytes) ≡ take_while p bytes → take_while p (take_while p (b ∷ bytes)) ≡ take_while p (b ∷ bytes)
  run_step true b bytes is rest = rw (run_front b bytes is) (run_front b (take_while p bytes) is ∙ ap (λ r. b ∷ r) rest)
  run_step false b bytes is rest = rw (take_while-cons p b bytes, is) refl

  -- a run cut from itself is the same
  run_again : (bytes : List ℕ) → take_while p (take_while p bytes) ≡ take_while p bytes
  run_again [] = refl
  run_again (b ∷ bytes) = run_step (p b) b bytes refl (run_again bytes)

  -- the bytes of a run pass, with one byte in front
  all_step : (t : Bool) (b : ℕ) (bytes : List ℕ) → p b ≡ t → list_all p (take_while p bytes) ≡ true → list_all p (take_while p (b ∷ bytes)) ≡ true
  all_step true b bytes is rest = rw (run_front b bytes is, is) rest
  all_step false b bytes is rest = rw (take_while-cons p b bytes, is) refl

  -- the bytes of a run pass
  run_all : (bytes : List ℕ) → list_all p (take_while p bytes) ≡ true
  run_all [] = refl
  run_all (b ∷ bytes) = all_step (p b) b bytes refl (run_all bytes)

-- ---- the word at the front

-- a word has the bytes that it was made of
kinded_word : (place : ℕ) (text : List ℕ) (o : Option Kind) (w : Word) → kinded place text o ≡ Ok w → w.text ≡ text
kinded_word place text (Some k) w e = let is : w ≡ word k place text = cc in rw is refl
kinded_word place text None w e = absurd cc

-- the word at the front of bytes that begin with this one, by the tests of that byte
abbrev pub front_by : Bool → Bool → Bool → ℕ → ℕ → List ℕ → Result Word TextFault
front_by o c r place b run = cond o (Ok (word kind.Open place (b ∷ []))) (cond c (Ok (word kind.Close place (b ∷ []))) (cond r (kinded place run (kind_of b (length run))) (Err (NotAscii place))))

-- what is found at the front of a run is found at the front of its own bytes
self_by : (o c r : Bool) (place b : ℕ) (bytes : List ℕ) (w : Word) → eqb b 40 ≡ o → eqb b 41 ≡ c → is_word_byte b ≡ r → front_by o c r place b (take_while is_word_byte (b ∷ bytes)) ≡ Ok w → front_by o c r place b (take_while is_word_byte w.text) ≡ Ok w × ((rest : List ℕ) × (w.text ≡ b ∷ rest))
self_by true c r place b bytes w opens closes plain e = let is : w ≡ word kind.Open place (b ∷ []) = cc in (e, ([], rw is refl))
self_by false true r place b bytes w opens closes plain e = let is : w ≡ word kind.Close place (b ∷ []) = cc in (e, ([], rw is refl))
self_by false false true place b bytes w opens closes plain e =
    let text = kinded_word place _ _ w e in
    let front : List ℕ → Result Word TextFault = λ run. front_by false false true place b run in
    (ap front (ap (take_while is_word_byte) text ∙ run_again is_word_byte (b ∷ bytes)) ∙ e, (take_while is_word_byte bytes, text ∙ run_front is_word_byte b bytes plain))
self_by false false false place b bytes w opens closes plain e = absurd cc

-- a word is the word at the front of its own bytes
pub word_self : (place : ℕ) (bytes : List ℕ) (w : Word) → word_at place bytes ≡ Ok w → word_at place w.text ≡ Ok w
word_self place [] w e = absurd cc
word_self place (b ∷ bytes) w e =
    let found = self_by (eqb b 40) (eqb b 41) (is_word_byte b) place b bytes w refl refl refl e in
    let text = found.1.1 in
    let front : List ℕ → Result Word TextFault = λ t. front_by (eqb b 40) (eqb b 41) (is_word_byte b) place b (take_while is_word_byte t) in
    ap (word_at place) text ∙ sym (ap front text) ∙ found.0

-- ---- names and variables

-- a word has the kind that it was made with
kinded_kind : (place : ℕ) (text : List ℕ) (o : Option Kind) (w : Word) → kinded place text o ≡ Ok w → o ≡ Some w.kind
kinded_kind place text (Some k) w e = let is : w ≡ word k place text = cc in rw is refl
kinded_kind place text None w e = absurd cc

-- a word that is no bracket is a run, and its first byte and its length tell its kind
run_by : (o c r : Bool) (place b : ℕ) (bytes : List ℕ) (w : Word) → (w.kind ≡ kind.Open → ⊥) → (w.kind ≡ kind.Close → ⊥) → w.text ≡ b ∷ bytes
    → front_by o c r place b (take_while is_word_byte (b ∷ bytes)) ≡ Ok w → (list_all is_word_byte (b ∷ bytes) ≡ true) × (kind_of b (length (b ∷ bytes)) ≡ Some w.kind)
run_by true c r place b bytes w no_open no_close text e = absurd (no_open cc)
run_by false true r place b bytes w no_open no_close text e = absurd (no_close cc)
run_by false false true place b bytes w no_open no_close text e =
    let run : take_while is_word_byte (b ∷ bytes) ≡ b ∷ bytes = sym (kinded_word place _ _ w e) ∙ text in
    (ap (list_all is_word_byte) (sym run) ∙ run_all is_word_byte (b ∷ bytes), ap (λ t. kind_of b (length t)) (sym run) ∙ kinded_kind place _ _ w e)
run_by false false false place b bytes w no_open no_close text e = absurd cc

-- the kind of a run by its first byte, and whether it is longer
abbrev kind_by : Bool → Bool → Bool → Bool → Bool → Bool → Option Kind
kind_by v k x y z n = cond v (cond n (Some kind.Variable) None) (cond k (cond n (Some kind.Keyword) None) (cond (x || y || z) (cond n None (Some kind.Sign)) (Some kind.Name)))

-- a name begins with no mark
no_mark : (v k x y z n : Bool) → kind_by v k x y z n ≡ Some kind.Name → (v || k || x || y || z) ≡ false
no_mark true k x y z true e = absurd cc
no_mark true k x y z false e = absurd cc
no_mark false true x y z true e = absurd cc
no_mark false true x y z false e = absurd cc
no_mark false false true y z true e = absurd cc
no_mark false false true y z false e = absurd cc
no_mark false false false true z true e = absurd cc
no_mark false false false true z false e = absurd cc
no_mark false false false false true true e = absurd cc
no_mark false false false false true false e = absurd cc
no_mark false false false false false n e = refl

-- a variable begins with a question mark, and is longer
question : (v k x y z n : Bool) → kind_by v k x y z n ≡ Some kind.Variable → (v ≡ true) × (n ≡ true)
question true k x y z true e = (refl, refl)
question true k x y z false e = absurd cc
question false true x y z true e = absurd cc
question false true x y z false e = absurd cc
question false false true y z true e = absurd cc
question false false true y z false e = absurd cc
question false false false true z true e = absurd cc
question false false false true z false e = absurd cc
question false false false false true true e = absurd cc
question false false false false true false e = absurd cc
question false false false false false n e = absurd cc

-- the class of a sign by which sign it is
abbrev sign_by : Bool → Bool → Class
sign_by m q = cond m class.Minus (cond q class.Equal class.Less)

-- the class of a name by which of the kept words it is
abbrev named_by : Bool → Bool → Bool → Bool → Class
named_by a n f l = cond a class.And (cond n class.Not (cond f class.Forall (cond l class.Reserved class.Name)))

-- a sign is no name
sign_no_name : (m q : Bool) → sign_by m q ≡ class.Name → ⊥
sign_no_name true q e = cc
sign_no_name false true e = cc
sign_no_name false false e = cc

-- a sign is no variable
sign_no_variable : (m q : Bool) → sign_by m q ≡ class.Variable → ⊥
sign_no_variable true q e = cc
sign_no_variable false true e = cc
sign_no_variable false false e = cc

-- a name is no variable
named_no_variable : (a n f l : Bool) → named_by a n f l ≡ class.Variable → ⊥
named_no_variable true n f l e = cc
named_no_variable false true f l e = cc
named_no_variable false false true l e = cc
named_no_variable false false false true e = cc
named_no_variable false false false false e = cc

-- a name is none of the kept words
not_reserved : (a n f l : Bool) → named_by a n f l ≡ class.Name → (a || n || f || l) ≡ false
not_reserved true n f l e = absurd cc
not_reserved false true f l e = absurd cc
not_reserved false false true l e = absurd cc
not_reserved false false false true e = absurd cc
not_reserved false false false false e = refl

module _ (text : List ℕ) where
  -- whether the text is `-`
  abbrev is_minus : Bool
  is_minus = str_eq_ignore_ascii_case text (codes "-")

  -- whether the text is `=`
  abbrev is_equal : Bool
  is_equal = str_eq_ignore_ascii_case text (codes "=")

  -- whether the text is `and`
  abbrev is_and : Bool
  is_and = str_eq_ignore_ascii_case text (codes "and")

  -- whether the text is `not`
  abbrev is_not : Bool
  is_not = str_eq_ignore_ascii_case text (codes "not")

  -- whether the text is `forall`
  abbrev is_forall : Bool
  is_forall = str_eq_ignore_ascii_case text (codes "forall")

-- a word of the class of names is a name by its own bytes
name_by : (k : Kind) (place : ℕ) (text : List ℕ) → word_at place text ≡ Ok (word k place text) → class_by k text ≡ class.Name → is_name text ≡ true
name_by kind.Open place text e c = absurd cc
name_by kind.Close place text e c = absurd cc
name_by kind.Variable place text e c = absurd cc
name_by kind.Keyword place text e c = absurd cc
name_by kind.Sign place text e c = absurd (sign_no_name (is_minus text) (is_equal text) c)
name_by kind.Name place [] e c = absurd cc
name_by kind.Name place (b ∷ bytes) e c =
    let run = run_by (eqb b 40) (eqb b 41) (is_word_byte b) place b bytes (word kind.Name place (b ∷ bytes)) (λ h. cc) (λ h. cc) refl e in
    let mark : is_mark b ≡ false = no_mark (eqb b 63) (eqb b 58) (eqb b 45) (eqb b 61) (eqb b 60) (ltb 1 (length (b ∷ bytes))) run.1 in
    let free : is_reserved_text (b ∷ bytes) ≡ false = not_reserved (is_and (b ∷ bytes)) (is_not (b ∷ bytes)) (is_forall (b ∷ bytes)) (is_left_out (b ∷ bytes)) c in
    rw (run.0, mark, free) refl

-- a word of the class of variables is a variable by its own bytes
variable_by : (k : Kind) (place : ℕ) (text : List ℕ) → word_at place text ≡ Ok (word k place text) → class_by k text ≡ class.Variable → is_variable text ≡ true
variable_by kind.Open place text e c = absurd cc
variable_by kind.Close place text e c = absurd cc
variable_by kind.Keyword place text e c = absurd cc
variable_by kind.Sign place text e c = absurd (sign_no_variable (is_minus text) (is_equal text) c)
variable_by kind.Name place text e c = absurd (named_no_variable (is_and text) (is_not text) (is_forall text) (is_left_out text) c)
variable_by kind.Variable place [] e c = absurd cc
variable_by kind.Variable place (b ∷ bytes) e c =
    let run = run_by (eqb b 40) (eqb b 41) (is_word_byte b) place b bytes (word kind.Variable place (b ∷ bytes)) (λ h. cc) (λ h. cc) refl e in
    let first = question (eqb b 63) (eqb b 58) (eqb b 45) (eqb b 61) (eqb b 60) (ltb 1 (length (b ∷ bytes))) run.1 in
    rw (run.0, first.0, first.1) refl

-- a word that is a name to the grammar is a name
pub name_self : (w : Word) → word_at w.place w.text ≡ Ok w → class_of w ≡ class.Name → is_name w.text ≡ true
unfolding class_of
name_self w e c = name_by w.kind w.place w.text e c

-- a word that is a variable to the grammar is a variable
pub variable_self : (w : Word) → word_at w.place w.text ≡ Ok w → class_of w ≡ class.Variable → is_variable w.text ≡ true
unfolding class_of
variable_self w e c = variable_by w.kind w.place w.text e c
