-- Pairs of orders that lead to one another, and the notes where they are asked for.
use Rattle.std.proofs.Common.{◌≡◌, inl, ℕ, ◌+◌, ◌<◌, Bool, cond, List, [], ◌∷◌, ◌++◌, length, Some, None, is_some, refl, sym, ap, ◌∙◌, subst, take, get_or, arith}
use Rattle.std.specs.List.{AllZip, position}
use Rattle.std.proofs.lemmas.Iterator.Adapters.{position_from-zero}
use Rattle.std.proofs.lemmas.List.{take_more, length-take-le}
use Rattle.std.proofs.lemmas.List.Elements.{All-nil}
use Rattle.diagnostics.specs.declared.diagnostic.Note.{Note}
use Rattle.diagnostics.specs.declared.diagnostic.Remark.{Remark}
use Rattle.hddl_meaning.specs.declared.fault.CheckFault.{CheckFault}
use Rattle.hddl_meaning.specs.declared.fault.CheckFault.TheVariants as fault
use Rattle.hddl_scope.proofs.Positions.{push_from}
use Rattle.hddl_words.specs.declared.network.OrderingText.{OrderingText}
use Rattle.pair_messages.specs.declared.asked.Asked.{Asked}
use Rattle.pair_messages.specs.declared.texts.PairTexts.{PairTexts}
use Rattle.pair_messages.specs.Notes.{AreNotes, IsNote, Leads, ordering_of}

-- ## Labels

-- the first place that passes, one value further
pub position_next : {X : Type 0} (p : X → Bool) (xs : List X) (k : ℕ) (x : X) → k < length xs → x ≡ get_or xs k x
    → position p (take (k + 1) xs) ≡ cond (is_some (position p (take k xs))) (position p (take k xs)) (cond (p x) (Some k) None)
position_next p xs k x lt is =
    let front = take k xs in
    let cut : take (k + 1) xs ≡ front ++ x ∷ [] = take_more xs k x lt ∙ ap (λ y. front ++ y ∷ []) (sym is) in
    let wide : 0 + length front ≡ k = let e = length-take-le k xs (omega arith) in omega (arith, e) in
    ap (position p) cut ∙ position_from-zero p (front ++ x ∷ []) ∙ push_from p 0 front x
    ∙ (λ i. cond (is_some (sym (position_from-zero p front) i)) (sym (position_from-zero p front) i) (cond (p x) (Some (wide i)) None))

-- ## Pairs that lead on

-- one pair more
leads_on : (first : ℕ) (pairs : List Asked) (last : ℕ) (pair : Asked) → Leads first pairs last → pair.before ≡ last → Leads first (pairs ++ pair ∷ []) pair.after
leads_on first [] last pair is next = (next ∙ sym is, refl)
leads_on first (other ∷ pairs) last pair leads next = (leads.0, leads_on other.after pairs last pair leads.1 next)

-- one pair of a list more
pub leads_further : (first : ℕ) (pairs : List Asked) (k : ℕ) (last : ℕ) (pair : Asked) → k < length pairs → pair ≡ get_or pairs k pair
    → Leads first (take k pairs) last → pair.before ≡ last → Leads first (take (k + 1) pairs) pair.after
leads_further first pairs k last pair lt is leads next =
    let cut : take (k + 1) pairs ≡ take k pairs ++ pair ∷ [] = take_more pairs k pair lt ∙ ap (λ y. take k pairs ++ y ∷ []) (sym is) in
    subst (λ l. Leads first l pair.after) (sym cut) (leads_on first (take k pairs) last pair leads next)

-- ## Notes

-- those of one list and then those of another
zip_append : {X Y : Type 0} (R : X → Y → Type 0) (xs : List X) (ys : List Y) (us : List X) (vs : List Y) → AllZip R xs ys → AllZip R us vs → AllZip R (xs ++ us) (ys ++ vs)
zip_append R [] [] us vs one two = two
zip_append R [] (b ∷ bs) us vs one two = absurd one
zip_append R (a ∷ rest) [] us vs one two = absurd one
zip_append R (a ∷ rest) (b ∷ bs) us vs one two = (one.0, zip_append R rest bs us vs one.1 two)

-- a note more for a pair that is asked for
pub noted_one : (R : OrderingText → Note → Type 0) (before : List OrderingText) (notes : List Note) (pair : Asked) (note : Note) → AllZip R before notes
    → AllZip R (ordering_of pair) (note ∷ []) → AllZip R (before ++ ordering_of pair) (notes ++ note ∷ [])
noted_one R before notes pair note old new = zip_append R before notes (ordering_of pair) (note ∷ []) old new

-- a fault may have no notes
pub no_notes : (t : PairTexts) (f : CheckFault) (remarks : List Remark) → AreNotes t f remarks []
no_notes t (fault.Duplicate at) remarks = All-nil (IsNote t (fault.Duplicate at) remarks)
no_notes t (fault.UnknownType at) remarks = All-nil (IsNote t (fault.UnknownType at) remarks)
no_notes t (fault.TypeCycle at) remarks = All-nil (IsNote t (fault.TypeCycle at) remarks)
no_notes t (fault.UnknownName at) remarks = All-nil (IsNote t (fault.UnknownName at) remarks)
no_notes t (fault.Arity at) remarks = All-nil (IsNote t (fault.Arity at) remarks)
no_notes t (fault.TypeClash at) remarks = All-nil (IsNote t (fault.TypeClash at) remarks)
no_notes t (fault.OrderCycle at) remarks = inl refl
no_notes t (fault.UnknownSubtask at) remarks = All-nil (IsNote t (fault.UnknownSubtask at) remarks)
no_notes t (fault.TooMany at) remarks = All-nil (IsNote t (fault.TooMany at) remarks)
no_notes t fault.OutOfMemory remarks = All-nil (IsNote t fault.OutOfMemory remarks)
