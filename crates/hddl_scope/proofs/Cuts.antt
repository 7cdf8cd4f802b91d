-- A list cut at a position, and typed lists group by group.
use Rattle.std.proofs.Common.{◌≡◌, ℕ, suc, ◌+◌, ◌<◌, ◌≤◌, List, [], ◌∷◌, ◌++◌, map, Some, sym, ap, ◌∙◌, take, drop, get_or, length, add-one, drop-cons, arith, append-nil, option_map, length-append}
use Rattle.std.specs.List.{flat_map}
use Rattle.std.proofs.lemmas.List.{take_more, length-take-le, map-append, take-append-drop, length-map}
use Rattle.std.proofs.lemmas.Grind.{flat_map-append}
use Rattle.std.proofs.lemmas.Simd.{map-map}
use Rattle.hddl_words.specs.declared.term.NameGroup.{NameGroup}
use Rattle.hddl_words.specs.declared.term.VariableGroup.{VariableGroup}
use Rattle.hddl_meaning.specs.Mentions.{Mention, Typed, mention_of, mentions_of, typed_names, typed_variables, variable_mention}
use Rattle.hddl_meaning.specs.Items.{IsPast}
use Rattle.hddl_scope.specs.Findings.{Finds}
use Rattle.hddl_scope.proofs.Finding.{Finds-some}

-- a list is what stands before a position, the value there, and what stands after it
pub cut_at : {X : Type 0} (xs : List X) (k : ℕ) (x : X) → k < length xs → x ≡ get_or xs k x → xs ≡ take k xs ++ x ∷ drop (k + 1) xs
cut_at xs k x lt is =
    sym (take-append-drop k xs)
    ∙ ap (λ l. take k xs ++ l) (drop-cons xs k x lt ∙ (λ i. sym is i ∷ drop (sym (add-one k) i) xs))

-- the mention at the limit is the first past it
pub past_limit : (limit : ℕ) (ms : List Mention) (m : Mention) (place : ℕ) → limit < length ms → m ≡ get_or ms limit m → place ≡ m.place
    → Finds (IsPast limit ms) (Some place)
past_limit limit ms m place lt is at =
    Finds-some place (take limit ms, m, drop (limit + 1) ms, cut_at ms limit m lt is, length-take-le limit ms (omega arith), at)

module _ {X Y : Type 0} (f : X → List Y) where
  -- the step of a loop over a list, of which each item gives more
  pub flat_more : (xs : List X) (k : ℕ) (x : X) → k < length xs → x ≡ get_or xs k x → flat_map f (take (k + 1) xs) ≡ flat_map f (take k xs) ++ f x
  flat_more xs k x lt is =
      ap (flat_map f) (take_more xs k x lt ∙ ap (λ y. take k xs ++ y ∷ []) (sym is)) ∙ flat_map-append f (take k xs) (x ∷ [])
      ∙ ap (λ l. flat_map f (take k xs) ++ l) (append-nil (f x))

-- the mentions of one group of variables more
pub variables_more : (gs : List VariableGroup) (k : ℕ) (g : VariableGroup) → k < length gs → g ≡ get_or gs k g
    → mentions_of (typed_variables (take k gs)) ++ map variable_mention g.variables ≡ mentions_of (typed_variables (take (k + 1) gs))
variables_more gs k g lt is =
    let of : VariableGroup → List Typed = λ g. map (λ x. record { mention = variable_mention x; of_type = option_map mention_of g.of_type }) g.variables in
    sym
    (ap mentions_of (flat_more of gs k g lt is) ∙ map-append (λ t. t.mention) (typed_variables (take k gs)) (of g)
    ∙ ap (λ l. mentions_of (typed_variables (take k gs)) ++ l) (map-map (λ t. t.mention) (λ x. record { mention = variable_mention x; of_type = option_map mention_of g.of_type }) g.variables))

-- the mentions of one group of names more
pub names_more : (gs : List NameGroup) (k : ℕ) (g : NameGroup) → k < length gs → g ≡ get_or gs k g
    → mentions_of (typed_names (take k gs)) ++ map mention_of g.names ≡ mentions_of (typed_names (take (k + 1) gs))
names_more gs k g lt is =
    let of : NameGroup → List Typed = λ g. map (λ x. record { mention = mention_of x; of_type = option_map mention_of g.of_type }) g.names in
    sym
    (ap mentions_of (flat_more of gs k g lt is) ∙ map-append (λ t. t.mention) (typed_names (take k gs)) (of g)
    ∙ ap (λ l. mentions_of (typed_names (take k gs)) ++ l) (map-map (λ t. t.mention) (λ x. record { mention = mention_of x; of_type = option_map mention_of g.of_type }) g.names))

-- past a limit, where each item is seen as a mention
pub past_mapped : {X : Type 0} (limit : ℕ) (mention : X → Mention) (xs : List X) (x : X) (place : ℕ) → limit < length xs → x ≡ get_or xs limit x
    → place ≡ (mention x).place → Finds (IsPast limit (map mention xs)) (Some place)
past_mapped limit mention xs x place lt is at =
    Finds-some place (
      map mention (take limit xs),
      mention x,
      map mention (drop (limit + 1) xs),
      ap (map mention) (cut_at xs limit x lt is) ∙ map-append mention (take limit xs) (x ∷ drop (limit + 1) xs),
      length-map (take limit xs) mention ∙ length-take-le limit xs (omega arith),
      at,
    )

-- where the same list is cut after as many items, the same item follows
same_cut : {X : Type 0} (xs ys : List X) (x y : X) (us vs : List X) → xs ++ x ∷ us ≡ ys ++ y ∷ vs → length xs ≡ length ys → x ≡ y
same_cut [] [] x y us vs e long = cc
same_cut [] (b ∷ ys) x y us vs e long = absurd (let none : 0 ≡ suc (length ys) = long in omega (arith, none))
same_cut (a ∷ xs) [] x y us vs e long = absurd (let none : suc (length xs) ≡ 0 = long in omega (arith, none))
same_cut (a ∷ xs) (b ∷ ys) x y us vs e long =
    same_cut xs ys x y us vs (let tails : xs ++ x ∷ us ≡ ys ++ y ∷ vs = cc in tails) (let more : suc (length xs) ≡ suc (length ys) = long in omega (arith, more))

-- one mention is the first past a limit
pub past_once : (limit : ℕ) (ms : List Mention) (a b : ℕ) → IsPast limit ms a → IsPast limit ms b → b ≡ a
past_once limit ms a b (before, m, after, cut, long, at) (front, n, rest, cut', long', at') =
    at' ∙ ap (λ (x : Mention). x.place) (same_cut front before n m rest after (sym cut' ∙ cut) (long' ∙ sym long)) ∙ sym at

-- where there are no more mentions than the limit, none is past it
pub none_past : (limit : ℕ) (ms : List Mention) (place : ℕ) → length ms ≤ limit → IsPast limit ms place → ⊥
none_past limit ms place few (before, m, after, cut, long, at) =
    let all : length ms ≡ length before + length (m ∷ after) = ap length cut ∙ length-append before (m ∷ after) in
    let more : length (m ∷ after) ≡ length after + 1 = omega arith in
    omega (arith, few, all, more, long)
