-- Names with their numbers, in a map and in the list that contracts see.
use Rattle.std.proofs.Common.{◌≡◌, ℕ, ◌+◌, Bool, true, false, cond, is_some, List, [], ◌∷◌, ◌++◌, length, map, Vec, Option, Some, None, refl, sym, ap, ◌∙◌, arith, true≢false, ◌<◌, take, get_or, subst, append_assoc, length-append}
use Rattle.std.specs.List.{position_from}
use Rattle.std.specs.Map.{lookup}
use Rattle.std.specs.Option.{option_or}
use Rattle.std.specs.Str.{bytes_eq}
use Rattle.std.proofs.lemmas.Iterator.Adapters.{position_from-zero}
use Rattle.std.proofs.lemmas.List.{map-append, length-map, length-take-le, take_more}
use Rattle.std.proofs.lemmas.Slice.Eq.{bytes_eq-Decides}
use Rattle.htn_model.specs.Schema.{Name}
use Rattle.htn_task.specs.Numbers.{Entries, entries_of, entry_of, number_of, with_number, AreNumbersOf}

-- a look-up in the map is one in the list
pub entry_of-entries : {A : Type 0} (es : List (Vec ℕ A × ℕ)) (name : Name) → lookup (λ v. bytes_eq name v.items) es ≡ entry_of (entries_of es) name
entry_of-entries [] name = refl
entry_of-entries (e ∷ es) name = ap (λ r. cond (bytes_eq name e.0.items) (Some e.1) r) (entry_of-entries es name)

-- a name that has a number keeps it
pub with_number-old : (es : Entries) (name : Name) (n : ℕ) → is_some (entry_of es name) ≡ true → es ≡ with_number es name n
with_number-old es name n there = ap (λ b. cond b es (es ++ (name, n) ∷ [])) (sym there)

-- a name without a number gets the new one, at the end
pub with_number-new : (es : Entries) (name : Name) (n : ℕ) → is_some (entry_of es name) ≡ false → es ++ (name, n) ∷ [] ≡ with_number es name n
with_number-new es name n absent = ap (λ b. cond b es (es ++ (name, n) ∷ [])) (sym absent)

-- a name put at the end of the map is put at the end of the entries
pub entries_of-added : {A : Type 0} (es : List (Vec ℕ A × ℕ)) (k : Vec ℕ A) (n : ℕ) (name : Name) → k.items ≡ name → entries_of (es ++ (k, n) ∷ []) ≡ entries_of es ++ (name, n) ∷ []
entries_of-added es k n name is = map-append (λ e. (e.0.items, e.1)) es ((k, n) ∷ []) ∙ ap (λ w. entries_of es ++ (w, n) ∷ []) is

-- what isn't there is none
pub none_from : {X : Type 0} (found : Option X) → is_some found ≡ false → found ≡ None
none_from None e = refl
none_from (Some x) e = absurd (true≢false e)

-- the number of the one name, where it is the other
abbrev number_if : Name → Name → ℕ → Option ℕ
number_if w name n = cond (bytes_eq w name) (Some n) None

-- the first of two, where the rest agrees
either : {X : Type 0} (b : Bool) (x : X) {rest : Option X} (first second : Option X) → rest ≡ option_or first second → cond b (Some x) rest ≡ option_or (cond b (Some x) first) second
either true x first second h = refl
either false x first second h = h

-- the number of a name after one more entry: what it had, or else the new one if it is its own
entry_of-push : (w : Name) (es : Entries) (name : Name) (n : ℕ) → entry_of (es ++ (name, n) ∷ []) w ≡ option_or (entry_of es w) (number_if w name n)
entry_of-push w [] name n = refl
entry_of-push w (e ∷ es) name n = either (bytes_eq w e.0) e.1 (entry_of es w) (number_if w name n) (entry_of-push w es name n)

-- the first place after one more value: what it was, or else the last if that one passes
position_from-push : {X : Type 0} (p : X → Bool) (i : ℕ) (xs : List X) (x : X)
    → position_from p i (xs ++ x ∷ []) ≡ option_or (position_from p i xs) (cond (p x) (Some (i + length xs)) None)
position_from-push p i [] x = ap (λ k. cond (p x) (Some k) None) (omega arith)
position_from-push p i (y ∷ ys) x =
    let same : i + 1 + length ys ≡ i + length (y ∷ ys) = omega arith in
    either (p y) i (position_from p (i + 1) ys) (cond (p x) (Some (i + length (y ∷ ys))) None)
    (position_from-push p (i + 1) ys x ∙ ap (λ k. option_or (position_from p (i + 1) ys) (cond (p x) (Some k) None)) same)

-- the number of a name after one more name: what it had, or else the last if that one is it
number_of-push : (names : List Name) (name : Name) (w : Name) → number_of (names ++ name ∷ []) w ≡ option_or (number_of names w) (number_if w name (length names))
number_of-push names name w =
    let same : 0 + length names ≡ length names = omega arith in
    position_from-zero (bytes_eq w) (names ++ name ∷ [])
    ∙ position_from-push (bytes_eq w) 0 names name
    ∙ ap (λ k. option_or (position_from (bytes_eq w) 0 names) (number_if w name k)) same
    ∙ ap (λ o. option_or o (number_if w name (length names))) (sym (position_from-zero (bytes_eq w) names))

-- a name that has a number keeps it
kept : (es : Entries) (w name : Name) (n : ℕ) → is_some (entry_of es name) ≡ true → entry_of es w ≡ option_or (entry_of es w) (number_if w name n)
kept es w name n there = by (entry_of es w) refl (bytes_eq w name) refl
  where
    by : (o : Option ℕ) → entry_of es w ≡ o → (b : Bool) → bytes_eq w name ≡ b → o ≡ option_or o (cond b (Some n) None)
    by (Some k) e b is = refl
    by None e false is = refl
    by None e true is = absurd (true≢false (sym there ∙ ap (λ v. is_some (entry_of es v)) (sym ((bytes_eq-Decides w name).0 is)) ∙ ap is_some e))

-- one more name, numbered by how many stood before it unless it stood there, leaves each with its first place
pub AreNumbersOf-next : (names : List Name) (es : Entries) (name : Name) → AreNumbersOf names es → AreNumbersOf (names ++ name ∷ []) (with_number es name (length names))
AreNumbersOf-next names es name h = record {
  each = λ w.
      by w (is_some (entry_of es name)) refl
      ∙ ap (λ o. option_or o (number_if w name (length names))) (h.each w)
      ∙ sym (number_of-push names name w);
}
  where
    by : (w : Name) (b : Bool) → is_some (entry_of es name) ≡ b → entry_of (with_number es name (length names)) w ≡ option_or (entry_of es w) (number_if w name (length names))
    by w true there = ap (λ es. entry_of es w) (sym (with_number-old es name (length names) there)) ∙ kept es w name (length names) there
    by w false absent = ap (λ es. entry_of es w) (sym (with_number-new es name (length names) absent)) ∙ entry_of-push w es name (length names)

-- one more name, after those of a list
pub AreNumbersOf-more : {X : Type 0} (f : X → Name) (before : List Name) (xs : List X) (i n : ℕ) (x : X) (w : Name) (es more : Entries) → i < length xs → x ≡ get_or xs i x
    → n ≡ length before + i → w ≡ f x → AreNumbersOf (before ++ map f (take i xs)) es → more ≡ with_number es w n → AreNumbersOf (before ++ map f (take (i + 1) xs)) more
AreNumbersOf-more f before xs i n x w es more lt item number name h is =
    let seen = before ++ map f (take i xs) in
    let count : length seen ≡ n = length-append before (map f (take i xs)) ∙ ap (λ k. length before + k) (length-map (take i xs) f ∙ length-take-le i xs (omega arith)) ∙ sym number in
    let longer : seen ++ f x ∷ [] ≡ before ++ map f (take (i + 1) xs) =
    append_assoc before (map f (take i xs)) (f x ∷ []) ∙ ap (λ l. before ++ l) (sym (map-append f (take i xs) (x ∷ []))
    ∙ ap (λ y. map f (take i xs ++ y ∷ [])) item ∙ ap (map f) (sym (take_more xs i x lt))) in
    let numbers : with_number es (f x) (length seen) ≡ more = ap (with_number es (f x)) count ∙ ap (λ w. with_number es w n) (sym name) ∙ sym is in
    subst (λ es. AreNumbersOf (before ++ map f (take (i + 1) xs)) es) numbers
    (subst (λ l. AreNumbersOf l (with_number es (f x) (length seen))) longer (AreNumbersOf-next seen es (f x) h))
