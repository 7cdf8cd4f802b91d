-- Lists of numbers with the places of their lines, grown by one line.
use Rattle.std.proofs.Common.{◌≡◌, ◌∙◌, ℕ, ◌+◌, ◌<◌, List, [], ◌∷◌, ◌++◌, Option, ap, append-nil, append_assoc, arith, get_or, length, length-take-le, refl, suc, subst, sym, take}
use Rattle.std.specs.Prelude.{slice_get}
use Rattle.std.specs.List.{AllZip, zip}
use Rattle.std.proofs.lemmas.List.{map-append, take_more}
use Rattle.htn_model.specs.PlanFile.{ActionLine, DecompositionLine, action_ids, decomposition_ids}
use Rattle.indexmap.proofs.SetLemmas.{AllZip-push}
use Rattle.plan_messages.specs.Mentions.{IsMention, listed_by, listed_by_lines, listed_if, placed}
use Rattle.plan_messages.specs.Spots.{IsOnLine}
use Rattle.plan_messages.specs.declared.mentions.Mention.{Mention}

-- a number more beside its place
pub zip_more : (xs : List ℕ) (x : ℕ) (ys : List ℕ) → zip (xs ++ x ∷ []) ys ≡ zip xs ys ++ placed x (slice_get ys (length xs))
zip_more [] x [] = refl
zip_more [] x (y ∷ ys) = refl
zip_more (z ∷ xs) x [] = refl
zip_more (z ∷ xs) x (y ∷ ys) = ap (λ l. (z, y) ∷ l) (zip_more xs x ys)

-- a decomposition line more
pub lines_more : (lines : List DecompositionLine) (line : DecompositionLine) (places : List ℕ)
    → listed_by_lines (lines ++ line ∷ []) places ≡ listed_by_lines lines places ++ listed_if line.children (slice_get places (length lines))
lines_more [] line [] = refl
lines_more [] line (p ∷ places) = append-nil (listed_by line.children p)
lines_more (l ∷ lines) line [] = refl
lines_more (l ∷ lines) line (p ∷ places) =
    ap (λ m. listed_by l.children p ++ m) (lines_more lines line places) ∙ sym (append_assoc (listed_by l.children p) (listed_by_lines lines places) _)

-- the numbers of lines, one more, and how many they are
pub actions_more : (lines : List ActionLine) (line : ActionLine) → action_ids (lines ++ line ∷ []) ≡ action_ids lines ++ line.id ∷ []
actions_more [] line = refl
actions_more (l ∷ lines) line = ap (λ ids. l.id ∷ ids) (actions_more lines line)

pub action_count : (lines : List ActionLine) → length (action_ids lines) ≡ length lines
action_count [] = refl
action_count (l ∷ lines) = ap suc (action_count lines)

pub decompositions_more : (lines : List DecompositionLine) (line : DecompositionLine) → decomposition_ids (lines ++ line ∷ []) ≡ decomposition_ids lines ++ line.id ∷ []
decompositions_more [] line = refl
decompositions_more (l ∷ lines) line = ap (λ ids. l.id ∷ ids) (decompositions_more lines line)

pub decomposition_count : (lines : List DecompositionLine) → length (decomposition_ids lines) ≡ length lines
decomposition_count [] = refl
decomposition_count (l ∷ lines) = ap suc (decomposition_count lines)

-- the first lines with one more
pub front_more : {X : Type 0} (xs : List X) (i : ℕ) (x : X) → i < length xs → x ≡ get_or xs i x → take (i + 1) xs ≡ take i xs ++ x ∷ []
front_more xs i x less is = take_more xs i x less ∙ ap (λ y. take i xs ++ y ∷ []) (sym is)

module _ (text : List ℕ) (places : List ℕ) where
  -- an action line more
  pub actions_step : (lines : List ActionLine) (i : ℕ) (line : ActionLine) (before : List (ℕ × ℕ)) (id : ℕ) (place : Option ℕ) (ms : List Mention)
      → i < length lines → line ≡ get_or lines i line → id ≡ line.id → place ≡ slice_get places i
      → AllZip (IsMention text) ((before ++ zip (action_ids (take i lines)) places) ++ placed id place) ms
      → AllZip (IsMention text) (before ++ zip (action_ids (take (i + 1) lines)) places) ms
  actions_step lines i line before id place ms less is same at all =
      let many : length (action_ids (take i lines)) ≡ i = action_count (take i lines) ∙ length-take-le i lines (omega arith) in
      let next : zip (action_ids (take (i + 1) lines)) places ≡ zip (action_ids (take i lines)) places ++ placed id place =
      ap (λ ls. zip (action_ids ls) places) (front_more lines i line less is) ∙ ap (λ ids. zip ids places) (actions_more (take i lines) line)
      ∙ zip_more (action_ids (take i lines)) line.id places ∙ ap (λ n. zip (action_ids (take i lines)) places ++ placed line.id (slice_get places n)) many
      ∙ ap (λ o. zip (action_ids (take i lines)) places ++ placed line.id o) (sym at) ∙ ap (λ n. zip (action_ids (take i lines)) places ++ placed n place) (sym same) in
      subst (λ es. AllZip (IsMention text) es ms) (append_assoc before _ _ ∙ ap (λ l. before ++ l) (sym next)) all

  -- a decomposition line more
  pub decompositions_step : (lines : List DecompositionLine) (i : ℕ) (line : DecompositionLine) (before : List (ℕ × ℕ)) (id : ℕ) (place : Option ℕ) (ms : List Mention)
      → i < length lines → line ≡ get_or lines i line → id ≡ line.id → place ≡ slice_get places i
      → AllZip (IsMention text) ((before ++ zip (decomposition_ids (take i lines)) places) ++ placed id place) ms
      → AllZip (IsMention text) (before ++ zip (decomposition_ids (take (i + 1) lines)) places) ms
  decompositions_step lines i line before id place ms less is same at all =
      let many : length (decomposition_ids (take i lines)) ≡ i = decomposition_count (take i lines) ∙ length-take-le i lines (omega arith) in
      let next : zip (decomposition_ids (take (i + 1) lines)) places ≡ zip (decomposition_ids (take i lines)) places ++ placed id place =
      ap (λ ls. zip (decomposition_ids ls) places) (front_more lines i line less is) ∙ ap (λ ids. zip ids places) (decompositions_more (take i lines) line)
      ∙ zip_more (decomposition_ids (take i lines)) line.id places ∙ ap (λ n. zip (decomposition_ids (take i lines)) places ++ placed line.id (slice_get places n)) many
      ∙ ap (λ o. zip (decomposition_ids (take i lines)) places ++ placed line.id o) (sym at) ∙ ap (λ n. zip (decomposition_ids (take i lines)) places ++ placed n place) (sym same) in
      subst (λ es. AllZip (IsMention text) es ms) (append_assoc before _ _ ∙ ap (λ l. before ++ l) (sym next)) all

  -- the numbers that a decomposition line lists
  pub children_step : (lines : List DecompositionLine) (i : ℕ) (line : DecompositionLine) (before : List (ℕ × ℕ)) (place : Option ℕ) (ms : List Mention)
      → i < length lines → line ≡ get_or lines i line → place ≡ slice_get places i
      → AllZip (IsMention text) ((before ++ listed_by_lines (take i lines) places) ++ listed_if line.children place) ms
      → AllZip (IsMention text) (before ++ listed_by_lines (take (i + 1) lines) places) ms
  children_step lines i line before place ms less is at all =
      let next : listed_by_lines (take (i + 1) lines) places ≡ listed_by_lines (take i lines) places ++ listed_if line.children place =
      ap (λ ls. listed_by_lines ls places) (front_more lines i line less is) ∙ lines_more (take i lines) line places
      ∙ ap (λ n. listed_by_lines (take i lines) places ++ listed_if line.children (slice_get places n)) (length-take-le i lines (omega arith))
      ∙ ap (λ o. listed_by_lines (take i lines) places ++ listed_if line.children o) (sym at) in
      subst (λ es. AllZip (IsMention text) es ms) (append_assoc before _ _ ∙ ap (λ l. before ++ l) (sym next)) all

-- one more number that a line lists
pub listed_step : (text ids : List ℕ) (line i place : ℕ) (before : List (ℕ × ℕ)) (old new : List Mention) → i < length ids → IsOnLine text line place
    → AllZip (IsMention text) (before ++ listed_by (take i ids) line) old → new ≡ old ++ record { id = get_or ids i 0; place = place } ∷ []
    → AllZip (IsMention text) (before ++ listed_by (take (i + 1) ids) line) new
listed_step text ids line i place before old new less on all grown =
    let id = get_or ids i 0 in
    let next : listed_by (take (i + 1) ids) line ≡ listed_by (take i ids) line ++ (id, line) ∷ [] =
    ap (λ l. listed_by l line) (take_more ids i 0 less) ∙ map-append (λ (n : ℕ). (n, line)) (take i ids) (id ∷ []) in
    let m : Mention = record { id = id; place = place } in
    subst (AllZip (IsMention text) (before ++ listed_by (take (i + 1) ids) line)) (sym grown)
    (subst (λ es. AllZip (IsMention text) es (old ++ m ∷ [])) (append_assoc before _ _ ∙ ap (λ l. before ++ l) (sym next))
    (AllZip-push (IsMention text) (before ++ listed_by (take i ids) line) old (id, line) m all (refl, on)))

module _ {A B : Type 0} (f : List A → List ℕ → List (ℕ × ℕ)) (g : List B → List ℕ → List (ℕ × ℕ)) where
  -- two lists of lines with their places, which are the same ones
  pub same_lines : (text text' : List ℕ) (us us' : List A) (ps ps' : List ℕ) (bs bs' : List B) (qs qs' : List ℕ) (ms : List Mention) → text ≡ text' → us ≡ us' → ps ≡ ps' → bs ≡ bs' → qs ≡ qs'
      → AllZip (IsMention text) (f us ps ++ g bs qs) ms → AllZip (IsMention text') (f us' ps' ++ g bs' qs') ms
  same_lines text text' us us' ps ps' bs bs' qs qs' ms t a p b q all =
      subst (λ x. AllZip (IsMention x) (f us' ps' ++ g bs' qs') ms) t
      (subst (λ x. AllZip (IsMention text) (f x ps' ++ g bs' qs') ms) a
      (subst (λ x. AllZip (IsMention text) (f us x ++ g bs' qs') ms) p
      (subst (λ x. AllZip (IsMention text) (f us ps ++ g x qs') ms) b
      (subst (λ x. AllZip (IsMention text) (f us ps ++ g bs x) ms) q all))))
