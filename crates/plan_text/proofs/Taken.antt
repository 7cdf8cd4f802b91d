-- What an output took of one run of bytes after another.
use Rattle.std.proofs.Common.{◌≡◌, ℕ, ◌+◌, ◌-◌, ◌<◌, map, get_or, drop-cons, add-one, Bool, true, List, [], ◌∷◌, ◌++◌, length, take, drop, append_assoc, Some, None, Option, Ok, Err, Result, refl, sym, ap, ◌∙◌}
use Rattle.std.specs.Io.KnownBytes.{Appends, Keeps}
use Rattle.std.proofs.lemmas.List.{take-append-drop, append-nil, map-append}
use Rattle.std.proofs.lemmas.List.Folds.{flat_map-map}
use Rattle.std.proofs.lemmas.Grind.{flat_map-append}
use Rattle.std.specs.Prelude.{codes}
use Rattle.std.specs.List.{flat_map}
use Rattle.std.specs.Fmt.{decimal}
use Rattle.htn_model.specs.PlanFile.{PlanFile, DecompositionLine}
use Rattle.htn_model.specs.PlanWord.{arrow}
use Rattle.plan_text.specs.FileText.{start_marker, end_marker}
use Rattle.plan_text.specs.Written.{spaced, line_of, action_words, root_words, decomposition_words, written}
use Rattle.plan_text.specs.Parts.{head_text, tail_text, action_text, decomposition_text}
use Rattle.plan_text.specs.Out.{Writes, TakesBeginning}
use Rattle.plan_text.proofs.Cutting.{rest_of}
use Rattle.plan_text.proofs.Elements.{split_at}

-- one run of bytes after another is both
pub appends_more : (a b c : Option (List ℕ)) (x y : List ℕ) → Appends a b x → Appends b c y → Appends a c (x ++ y)
appends_more None b c x y first second = tt
appends_more (Some u) None c x y first second = absurd first
appends_more (Some u) (Some v) None x y first second = absurd second
appends_more (Some u) (Some v) (Some w) x y first second = second ∙ ap (λ z. z ++ y) first ∙ append_assoc u x y

-- an output that keeps what it has takes no bytes
pub appends_nothing : (a b : Option (List ℕ)) → Keeps a b → Appends a b []
appends_nothing None b kept = tt
appends_nothing (Some u) None kept = absurd kept
appends_nothing (Some u) (Some v) kept = kept ∙ sym (append-nil u)

-- n more bytes
pub regrouped : (bytes front rest : List ℕ) (n : ℕ) → bytes ≡ front ++ rest → bytes ≡ (front ++ take n rest) ++ take (length rest - n) (drop n rest)
regrouped bytes front rest n whole =
    whole ∙ ap (λ r. front ++ r) (sym (take-append-drop n rest)) ∙ sym (append_assoc front (take n rest) (drop n rest)) ∙ ap (λ r. (front ++ take n rest) ++ r) (sym (rest_of rest n))

-- an output takes no bytes where it is left alone
pub appends_none : (a : Option (List ℕ)) → Appends a a []
appends_none None = tt
appends_none (Some u) = sym (append-nil u)

-- some bytes were taken, and then a beginning of more
pub fails_after : (a b c : Option (List ℕ)) (x y z bytes : List ℕ) → Appends a b x → TakesBeginning b c y → bytes ≡ x ++ (y ++ z) → TakesBeginning a c bytes
fails_after a b c x y z bytes first second whole = record {
  front = x ++ second.front;
  back = second.back ++ z;
  whole = whole ∙ ap (λ w. x ++ (w ++ z)) second.whole ∙ regroup second.front second.back;
  taken = appends_more a b c x second.front first second.taken;
}
  where
    regroup : (u v : List ℕ) → x ++ ((u ++ v) ++ z) ≡ (x ++ u) ++ (v ++ z)
    regroup u v = simp append_assoc

-- some bytes were taken, and then the last ones or a beginning of them
pub finishes : {T E : Type 0} (a b c : Option (List ℕ)) (f g h : Bool) (r : Result T E) (x y bytes : List ℕ) → Appends a b x → g ≡ f → Writes b c g h r y → bytes ≡ x ++ y → Writes a c f h r bytes
finishes a b c f g h (Ok v) x y bytes first same rest whole = (rw whole (appends_more a b c x y first rest.0), rest.1 ∙ same)
finishes a b c f g h (Err e) x y bytes first same rest whole =
    (fails_after a b c x y [] bytes first rest.0 (whole ∙ ap (λ w. x ++ w) (sym (append-nil y))), rest.1)

-- the text of all is the text of those before one, of it, and of those after it
pub text_at : {X : Type 0} (f : X → List ℕ) (xs : List X) (i : ℕ) (x : X) → i < length xs → x ≡ get_or xs i x → flat_map f xs ≡ flat_map f (take i xs) ++ (f x ++ flat_map f (drop (i + 1) xs))
text_at f xs i x inside is = ap (flat_map f) (split_at xs i x inside is) ∙ flat_map-append f (take i xs) (x ∷ drop (i + 1) xs)

-- the same of numbers
pub numbers_at : (ns : List ℕ) (i : ℕ) → i < length ns → flat_map spaced (map decimal ns) ≡ flat_map spaced (map decimal (take i ns)) ++ (spaced (decimal (get_or ns i 0)) ++ flat_map spaced (map decimal (drop (i + 1) ns)))
numbers_at ns i inside =
    let whole : ns ≡ take i ns ++ get_or ns i 0 ∷ drop (i + 1) ns = split_at_zero ns i inside in
    let cut : map decimal ns ≡ map decimal (take i ns) ++ decimal (get_or ns i 0) ∷ map decimal (drop (i + 1) ns) = ap (map decimal) whole ∙ map-append decimal (take i ns) (get_or ns i 0 ∷ drop (i + 1) ns) in
    ap (flat_map spaced) cut ∙ flat_map-append spaced (map decimal (take i ns)) (decimal (get_or ns i 0) ∷ map decimal (drop (i + 1) ns))
  where
    split_at_zero : (ns : List ℕ) (i : ℕ) → i < length ns → ns ≡ take i ns ++ get_or ns i 0 ∷ drop (i + 1) ns
    split_at_zero ns i inside =
        let back : drop i ns ≡ get_or ns i 0 ∷ drop (i + 1) ns = rw add-one (drop-cons ns i 0 inside) in
        sym (take-append-drop i ns) ∙ ap (λ ys. take i ns ++ ys) back

-- four runs, grouped otherwise
pub grouped : (a b c d : List ℕ) → a ++ (b ++ (c ++ d)) ≡ ((a ++ b) ++ c) ++ d
grouped a b c d = simp append_assoc

-- five runs, grouped otherwise
unnested : (a b c d e : List ℕ) → ((a ++ b) ++ (c ++ d)) ++ e ≡ a ++ (b ++ (c ++ (d ++ e)))
unnested a b c d e = simp append_assoc

-- ## The whole text

-- a decomposition line is its head, its tail and a line feed
pub decomposition_is : (line : DecompositionLine) → decomposition_text line ≡ (head_text line.id line.task line.arguments ++ tail_text line.method line.children) ++ 10 ∷ []
decomposition_is line =
    let cut = flat_map-append spaced (line.task ∷ line.arguments) (arrow ∷ line.method ∷ map decimal line.children) in
    ap (λ t. (decimal line.id ++ t) ++ 10 ∷ []) cut ∙ ap (λ t. t ++ 10 ∷ []) (sym (append_assoc (decimal line.id) (flat_map spaced (line.task ∷ line.arguments)) (tail_text line.method line.children)))

-- a written file is its start marker, its lines in order, and its end marker
pub written_is : (file : PlanFile) → written file ≡ codes "==>\n" ++ (flat_map action_text file.actions ++ (line_of (root_words file.roots) ++ (flat_map decomposition_text file.decompositions ++ codes "<==\n")))
written_is file =
    let aw = map action_words file.actions in
    let dw = map decomposition_words file.decompositions in
    let outer = flat_map-append line_of (((start_marker ∷ []) ∷ aw) ++ root_words file.roots ∷ dw) ((end_marker ∷ []) ∷ []) in
    let inner = flat_map-append line_of ((start_marker ∷ []) ∷ aw) (root_words file.roots ∷ dw) in
    let actions = flat_map-map line_of action_words file.actions in
    let decompositions = flat_map-map line_of decomposition_words file.decompositions in
    let start : List ℕ = codes "==>\n" in
    let end_text : List ℕ = codes "<==\n" in
    let root : List ℕ = line_of (root_words file.roots) in
    outer ∙ ap (λ t. t ++ end_text) inner ∙ unnested start (flat_map line_of aw) root (flat_map line_of dw) end_text
    ∙ ap (λ t. start ++ (t ++ (root ++ (flat_map line_of dw ++ end_text)))) actions
    ∙ ap (λ t. start ++ (flat_map action_text file.actions ++ (root ++ (t ++ end_text)))) decompositions
