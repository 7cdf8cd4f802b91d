-- A text holds one file at most, and none where it has a fault.
use Rattle.std.proofs.Common.{◌≡◌, ◌≢◌, ℕ, suc, ◌+◌, ◌<◌, ◌≤◌, Bool, true, false, ◌&&◌, List, [], ◌∷◌, ◌++◌, length, length-append, append_assoc, Some, None, Option, refl, sym, ap, ◌∙◌, subst, arith}
use Rattle.std.specs.List.{list_all, flat_map}
use Rattle.std.specs.Option.{option_and_then}
use Rattle.std.proofs.lemmas.Grind.{flat_map-append}
use Rattle.std.proofs.lemmas.List.{append-nil}
use Rattle.std.proofs.lemmas.List.Folds.{list_all-append}
use Rattle.plan_text.specs.declared.fault.PlanFault.{PlanFault}
use Rattle.plan_text.specs.declared.fault.PlanFault.TheVariants.{NoStart, NoEnd, BadLine, TwoRoots, NoRoot, NumberTooLarge, NotAscii, TooLong, OutOfMemory}
use Rattle.plan_text.specs.Piece.{Piece, words, lines}
use Rattle.htn_model.specs.PlanFile.{PlanFile}
use Rattle.plan_text.specs.Line.{LineKind, roots, IsOfKind, IsLine, AreLines, IsLegal, is_legal, is_small, numbers_of, Contents, contents_of, actions_of, root_lists_of, decompositions_of}
use Rattle.plan_text.specs.FileText.{after_start, before_end, body, HoldsFile, FileText}
use Rattle.plan_text.specs.Fault.{IsFaultOf, HasFaultyLine, IsFaultyBody, IsFaulty, FaultAt}
use Rattle.plan_text.specs.Adding.{with_line, IsRead}
use Rattle.plan_text.proofs.Cases.{when}
use Rattle.plan_text.proofs.KindLaws.{one_kind, first_all}

-- ## Lines and their kinds

-- lines have one list of kinds
pub one_list : (between : List Piece) (ks ls : List LineKind) → AreLines between ks → AreLines between ls → ks ≡ ls
one_list [] [] [] a b = refl
one_list [] [] (l ∷ ls) a b = absurd b
one_list [] (k ∷ ks) ls a b = absurd a
one_list (line ∷ between) [] ls a b = absurd a
one_list (line ∷ between) (k ∷ ks) [] a b = absurd b
one_list (line ∷ between) (k ∷ ks) (l ∷ ls) a b =
    let same = one_kind (words line) k l a.0.of_kind b.0.of_kind in
    let others = one_list between ks ls a.1 b.1 in
    cc

-- one line more has its kind more
pub more_lines : (front : List Piece) (kinds : List LineKind) (line : Piece) (kind : LineKind) → AreLines front kinds → IsLine line kind → AreLines (front ++ line ∷ []) (kinds ++ kind ∷ [])
more_lines [] [] line kind each is = (is, tt)
more_lines [] (k ∷ kinds) line kind each is = absurd each
more_lines (l ∷ front) [] line kind each is = absurd each
more_lines (l ∷ front) (k ∷ kinds) line kind each is = (each.0, more_lines front kinds line kind each.1 is)

-- the kinds of the lines before a line, of the line, and of those after it
record Parted (front : List Piece) (line : Piece) (kinds : List LineKind) : Type 0 where
  before : List LineKind
  kind : LineKind
  after : List LineKind
  whole : kinds ≡ before ++ kind ∷ after
  each : AreLines front before
  is : IsLine line kind

-- the kinds of lines around one are those before it, its own, and those after it
parted : (front : List Piece) (line : Piece) (back : List Piece) (kinds : List LineKind) → AreLines (front ++ line ∷ back) kinds → Parted front line kinds
parted [] line back [] each = absurd each
parted [] line back (k ∷ kinds) each = record { before = []; kind = k; after = kinds; whole = refl; each = tt; is = each.0 }
parted (l ∷ front) line back [] each = absurd each
parted (l ∷ front) line back (k ∷ kinds) each =
    let more = parted front line back kinds each.1 in
    record { before = k ∷ more.before; kind = more.kind; after = more.after; whole = ap (λ ks. k ∷ ks) more.whole; each = (each.0, more.each); is = more.is }

-- what one kind more gives comes at the end
more : {A : Type 0} (f : LineKind → List A) (kinds : List LineKind) (kind : LineKind) → flat_map f (kinds ++ kind ∷ []) ≡ flat_map f kinds ++ f kind
more f kinds kind = flat_map-append f kinds (kind ∷ []) ∙ ap (λ xs. flat_map f kinds ++ xs) (append-nil (f kind))

-- one line more adds what it gives
contents_more : (kinds : List LineKind) (kind : LineKind) → with_line (contents_of kinds) kind ≡ contents_of (kinds ++ kind ∷ [])
contents_more kinds kind = rw (more actions_of kinds kind, more root_lists_of kinds kind, more decompositions_of kinds kind)

-- one more line was read
pub read_more : (front : List Piece) (old new : Contents) (line : Piece) → IsRead front old → (kind : LineKind) × IsLine line kind × (new ≡ with_line old kind) → length new.root_lists ≤ 1 → IsRead (front ++ line ∷ []) new
read_more front old new line read added once = record {
  kinds = read.kinds ++ added.0 ∷ [];
  each = more_lines front read.kinds line added.0 read.each added.1;
  contents_is = added.2 ∙ ap (λ c. with_line c added.0) read.contents_is ∙ contents_more read.kinds added.0;
  once = once;
}

-- ## One file

-- what is there twice alike is the same
some_same : {X : Type 0} (x y : X) → Some x ≡ Some y → x ≡ y
some_same x y e = cc

-- the first of the lists of roots
first_list : List (List ℕ) → List ℕ
first_list [] = []
first_list (ids ∷ lists) = ids

-- the file of what was read
abbrev file_in : Contents → PlanFile
file_in c = record { actions = c.actions; roots = first_list c.root_lists; decompositions = c.decompositions }

-- the lines between the markers hold one file at most
pub one_file_between : (between : List Piece) (file other : PlanFile) → HoldsFile file between → HoldsFile other between → other ≡ file
unfolding first_list
one_file_between between file other a b =
    let kinds = one_list between a.kinds b.kinds a.each b.each in
    let same = sym b.contents ∙ ap contents_of (sym kinds) ∙ a.contents in
    ap file_in same

-- a text holds one file at most
pub one_file : (text : List ℕ) (file other : PlanFile) → FileText file text → FileText other text → other ≡ file
one_file text file other a b =
    let same : b.between ≡ a.between = some_same b.between a.between (sym b.body_is ∙ a.body_is) in
    one_file_between a.between file other a.holds (subst (HoldsFile other) same b.holds)

-- ## No file

-- a list with a value that fails doesn't pass as a whole
not_all : {X : Type 0} (p : X → Bool) (xs front : List X) (x : X) (back : List X) → xs ≡ front ++ x ∷ back → p x ≡ false → list_all p xs ≡ true → ⊥
not_all p xs [] x back whole fails all =
    let first = first_all p x back (sym (ap (list_all p) whole) ∙ all) in cc
not_all p xs (y ∷ front) x back whole fails all =
    let rest = first_all p y (front ++ x ∷ back) (sym (ap (list_all p) whole) ∙ all) in
    not_all p (front ++ x ∷ back) front x back refl fails rest.1

-- two lines with roots give two lists
two_lists : (before : List LineKind) (numbers : List Piece) (after : List LineKind) → 0 < length (flat_map root_lists_of before) → length (flat_map root_lists_of (before ++ roots numbers ∷ after)) ≡ 1 → ⊥
two_lists before numbers after some one =
    let split = flat_map-append root_lists_of before (roots numbers ∷ after) in
    let len = ap length split ∙ length-append (flat_map root_lists_of before) (flat_map root_lists_of (roots numbers ∷ after)) in
    omega arith

module _ (between : List Piece) (file : PlanFile) (holds : HoldsFile file between) where
  -- a line with a fault stands in no file
  faulty_line : (fault : PlanFault) → fault ≢ OutOfMemory → HasFaultyLine between fault → ⊥
  faulty_line fault other h =
      let parts = parted h.front h.line h.back holds.kinds (subst (λ b. AreLines b holds.kinds) h.whole holds.each) in
      refuted fault other parts (rw (one_list h.front h.kinds parts.before h.each parts.each) at h.faulty)
    where
      refuted : (fault : PlanFault) → fault ≢ OutOfMemory → (parts : Parted h.front h.line holds.kinds) → IsFaultOf fault (flat_map root_lists_of parts.before) h.line → ⊥
      refuted NoStart other parts f = f
      refuted NoEnd other parts f = f
      refuted (BadLine place) other parts f = f.no_kind parts.kind parts.is.of_kind
      refuted (TwoRoots place) other parts f =
          let same : roots f.numbers ≡ parts.kind = one_kind (words h.line) (roots f.numbers) parts.kind f.of_kind parts.is.of_kind in
          let one : length (flat_map root_lists_of holds.kinds) ≡ 1 = ap (λ c. length c.root_lists) holds.contents in
          two_lists parts.before f.numbers parts.after f.before (ap (λ k. length (flat_map root_lists_of (parts.before ++ k ∷ parts.after))) same ∙ sym (ap (λ ks. length (flat_map root_lists_of ks)) parts.whole) ∙ one)
      refuted NoRoot other parts f = f
      refuted (NumberTooLarge place) other parts f =
          let same = one_kind (words h.line) f.kind parts.kind f.of_kind parts.is.of_kind in
          not_all is_small (numbers_of f.kind) f.large.front f.large.word f.large.back f.large.whole f.large.large (ap (λ k. list_all is_small (numbers_of k)) same ∙ parts.is.small)
      refuted (NotAscii place) other parts f = not_all is_legal h.line.bytes f.front f.byte f.back f.whole f.illegal parts.is.legal
      refuted (TooLong place) other parts f = f
      refuted OutOfMemory other parts f = other refl

  -- lines with a fault hold no file
  pub no_file_between : (fault : PlanFault) → fault ≢ OutOfMemory → IsFaultyBody fault between → ⊥
  no_file_between NoStart other h = h
  no_file_between NoEnd other h = h
  no_file_between (BadLine place) other h = faulty_line (BadLine place) other h
  no_file_between (TwoRoots place) other h = faulty_line (TwoRoots place) other h
  no_file_between NoRoot other h =
      let kinds = one_list between h.kinds holds.kinds h.each holds.each in
      let lists : (file.roots ∷ []) ≡ [] = sym (ap (λ c. c.root_lists) holds.contents) ∙ ap (λ ks. flat_map root_lists_of ks) (sym kinds) ∙ h.no_roots in
      cc
  no_file_between (NumberTooLarge place) other h = faulty_line (NumberTooLarge place) other h
  no_file_between (NotAscii place) other h = faulty_line (NotAscii place) other h
  no_file_between (TooLong place) other h = h
  no_file_between OutOfMemory other h = other refl

module _ (text : List ℕ) (file : PlanFile) (is : FileText file text) where
  -- a text with a fault holds no file
  faulty : (fault : PlanFault) → fault ≢ OutOfMemory → IsFaulty text fault → ⊥
  faulty fault other h =
      let same : is.between ≡ h.between = some_same is.between h.between (sym is.body_is ∙ h.body_is) in
      no_file_between h.between file (subst (HoldsFile file) same is.holds) fault other h.faulty

  -- where a fault stands in a text, it holds no file
  pub no_file : (fault : PlanFault) → fault ≢ OutOfMemory → FaultAt fault text → ⊥
  no_file NoStart other h =
      let none_there : body text ≡ None = ap (option_and_then before_end) h.no_start in
      let there = is.body_is in
      cc
  no_file NoEnd other h =
      let none_there : body text ≡ None = ap (option_and_then before_end) h.start ∙ h.no_end in
      let there = is.body_is in
      cc
  no_file (BadLine place) other h = faulty (BadLine place) other h
  no_file (TwoRoots place) other h = faulty (TwoRoots place) other h
  no_file NoRoot other h = faulty NoRoot other h
  no_file (NumberTooLarge place) other h = faulty (NumberTooLarge place) other h
  no_file (NotAscii place) other h = faulty (NotAscii place) other h
  no_file (TooLong place) other h = let short = is.short in let long = h.0 in omega arith
  no_file OutOfMemory other h = other refl

  -- the same of the lines between the markers
  pub no_file_in : (between : List Piece) → body text ≡ Some between → (fault : PlanFault) → fault ≢ OutOfMemory → IsFaultyBody fault between → ⊥
  no_file_in between body_is fault other h =
      let same : is.between ≡ between = some_same is.between between (sym is.body_is ∙ body_is) in
      no_file_between between file (subst (HoldsFile file) same is.holds) fault other h
