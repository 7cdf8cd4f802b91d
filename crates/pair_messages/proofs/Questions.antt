-- What remarks offer, and names that are written for texts in lower case.
use Rattle.std.proofs.Common.{◌≡◌, ◌<◌, ℕ, List, [], ◌∷◌, ◌++◌, Bool, true, Option, Some, None, IfSome, ap, refl, ◌∙◌, subst, sym, arith, append-nil, get_or, length, nat_eq}
use Rattle.std.specs.Borrow.{Bor}
use Rattle.std.specs.List.{All, flat_map}
use Rattle.std.proofs.lemmas.Bool.{eqb-true}
use Rattle.std.proofs.lemmas.Grind.{flat_map-append}
use Rattle.std.proofs.lemmas.List.{map-append, map_push}
use Rattle.std.proofs.lemmas.List.Elements.{All-cons, All-nil, All-push, All-same, Contains-get_or}
use Rattle.diagnostics.specs.declared.diagnostic.Remark.{Remark}
use Rattle.hddl_meaning.specs.Mentions.{IsIn, Text, folded}
use Rattle.hddl_meaning.proofs.Listed.{in_map}
use Rattle.diagnostics.specs.Near.{names_of}
use Rattle.diagnostics.specs.Offers.{messages, offered, offered_by}
use Rattle.diagnostics.specs.declared.diagnostic.Note.{Note}
use Rattle.pair_messages.specs.Firsts.{listed}
use Rattle.pair_messages.specs.Offers.{AreWritten}

-- one remark offers what its message does
pub one_offered : (r : Remark) → offered (r ∷ []) ≡ offered_by r.message.items
one_offered r = append-nil (offered_by r.message.items)

-- one remark more
pub offered_more : (remarks : List Remark) (r : Remark) → offered (remarks ++ r ∷ []) ≡ offered remarks ++ offered_by r.message.items
offered_more remarks r =
    ap (flat_map offered_by) (map-append (λ r. r.message.items) remarks (r ∷ []))
    ∙ flat_map-append offered_by (messages remarks) (r.message.items ∷ [])
    ∙ ap (λ l. offered remarks ++ l) (append-nil (offered_by r.message.items))

-- no names are offered where there are none
pub none_offered : (names : List (Bor (List ℕ))) (b : Bool) → b ≡ nat_eq (length names) 0 → b ≡ true → [] ≡ names_of names
none_offered names b e t = sym (no_names names (eqb-true (length names) 0 (sym e ∙ t)))
  where
    no_names : (xs : List (Bor (List ℕ))) → length xs ≡ 0 → names_of xs ≡ []
    no_names [] h = refl
    no_names (x ∷ xs) h = absurd (omega arith)

-- a name at an index is one of the names
pub name_at : (names : List (Bor (List ℕ))) (k : ℕ) (d : Bor (List ℕ)) → k < length names → IsIn (get_or names k d).now (names_of names)
name_at names k d lt = in_map (λ s. s.now) (get_or names k d) names (Contains-get_or names k d lt)

-- what offers nothing offers only what may be meant
pub all_of_none : (P : List ℕ → Type 0) (names : List (List ℕ)) → names ≡ [] → All P names
all_of_none P names is = All-same P names [] is (All-nil P)

-- one name more that is written for one of some texts
pub written_more : (all : List Text) (names : List (Bor (List ℕ))) (name : Bor (List ℕ)) → AreWritten all (names_of names) → IsIn (folded name.now) all
    → AreWritten all (names_of (names ++ name ∷ []))
written_more all names name old at = subst (AreWritten all) (sym (map_push (λ s. s.now) names name)) (All-push (λ n. IsIn (folded n) all) (names_of names) name.now old at)

-- a note, if there is one, among others
pub all_listed : (P : Note → Type 0) (o : Option Note) (notes : List Note) → notes ≡ listed o → IfSome o P → All P notes
all_listed P None notes is h = All-same P notes [] is (All-nil P)
all_listed P (Some note) notes is h = All-same P notes (note ∷ []) is (All-cons P note [] h (All-nil P))
