-- What remarks offer, one after the other.
use Rattle.std.proofs.Common.{◌≡◌, List, [], ◌∷◌, ◌++◌, ap, ◌∙◌, append-nil}
use Rattle.std.specs.List.{flat_map}
use Rattle.std.proofs.lemmas.Grind.{flat_map-append}
use Rattle.std.proofs.lemmas.List.{map-append}
use Rattle.diagnostics.specs.declared.diagnostic.Remark.{Remark}
use Rattle.diagnostics.specs.Offers.{messages, offered, offered_by}

-- one remark more
pub offered_more : (remarks : List Remark) (r : Remark) → offered (remarks ++ r ∷ []) ≡ offered remarks ++ offered_by r.message.items
offered_more remarks r =
    ap (flat_map offered_by) (map-append (λ r. r.message.items) remarks (r ∷ []))
    ∙ flat_map-append offered_by (messages remarks) (r.message.items ∷ [])
    ∙ ap (λ l. offered remarks ++ l) (append-nil (offered_by r.message.items))
