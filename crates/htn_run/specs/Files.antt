-- The files of a source by name, the results that a read of one may have, and the names that were read.
use Rattle.std.specs.Prelude.{◌≡◌, ℕ, List, ◌++◌, Option, Some, None, ⊤}

-- what is known of the file of a name in a source
pub data File : Type 0 where
  -- these bytes: the first 16,777,217, or all if it has fewer
  Bytes : List ℕ → File
  -- it can't be read
  Missing : File
  -- nothing is known of it, as in the source over the files of the system
  Untold : File

-- a read may give these bytes
abbrev pub MayGive : File → List ℕ → Type 0
MayGive (Bytes told) bytes = bytes ≡ told
MayGive Missing bytes = ⊥
MayGive Untold bytes = ⊤

-- a read may fail, and not because memory was refused
abbrev pub MayFail : File → Type 0
MayFail (Bytes told) = ⊥
MayFail Missing = ⊤
MayFail Untold = ⊤

-- the names that were read, in a source that lists them, grow by these
abbrev pub Notes : Option (List (List ℕ)) → Option (List (List ℕ)) → List (List ℕ) → Type 0
Notes None new names = ⊤
Notes (Some old) None names = ⊥
Notes (Some old) (Some new) names = new ≡ old ++ names

-- the names that were read, in a source that lists them, grow by a beginning of these
pub record NotesBeginning (old new : Option (List (List ℕ))) (names : List (List ℕ)) : Type 0 where
  pub front : List (List ℕ)
  pub back : List (List ℕ)
  pub whole : names ≡ front ++ back
  pub noted : Notes old new front
