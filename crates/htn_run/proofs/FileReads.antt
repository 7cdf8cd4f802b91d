-- Which names of files were read.
use Rattle.std.proofs.Common.{◌∙◌, ℕ, List, [], ◌++◌, Option, Some, None, append_assoc, ap, sym}
use Rattle.std.proofs.lemmas.List.{append-nil}
use Rattle.htn_run.specs.Files.{Notes, NotesBeginning}

-- one run of names after another is both
pub notes_more : (a b c : Option (List (List ℕ))) (x y : List (List ℕ)) → Notes a b x → Notes b c y → Notes a c (x ++ y)
notes_more None b c x y first second = tt
notes_more (Some u) None c x y first second = absurd first
notes_more (Some u) (Some v) None x y first second = absurd second
notes_more (Some u) (Some v) (Some w) x y first second = second ∙ ap (λ z. z ++ y) first ∙ append_assoc u x y

-- all of the names are a beginning of them
pub notes_all : (a b : Option (List (List ℕ))) (names : List (List ℕ)) → Notes a b names → NotesBeginning a b names
notes_all a b names noted = record { front = names; back = []; whole = sym (append-nil names); noted = noted }

-- a beginning of some names is one of more
pub notes_before : (a b : Option (List (List ℕ))) (x y : List (List ℕ)) → NotesBeginning a b x → NotesBeginning a b (x ++ y)
notes_before a b x y begun = record {
  front = begun.front;
  back = begun.back ++ y;
  whole = ap (λ z. z ++ y) begun.whole ∙ append_assoc begun.front begun.back y;
  noted = begun.noted;
}
