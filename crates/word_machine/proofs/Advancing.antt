-- The ranks of a level, expanded block by block.
use Rattle.std.proofs.Common.{◌≡◌, ℕ, suc, zero, ◌-◌, ◌<◌, ◌≤◌, Bool, true, false, if◌then◌else◌, List, [], ◌∷◌, ◌++◌, length, refl, sym, ap, subst, ◌∙◌, inl, inr, arith, slice_get, get_or, All, map, take, drop}
use Rattle.std.specs.Prelude.{nat_le}
use Rattle.std.proofs.lemmas.List.{take-append-drop, length-take-le, map-append, length-map, get_or_append_left}
use Rattle.std.proofs.lemmas.List.Sums.{fold-append}
use Rattle.std.proofs.lemmas.List.Elements.{All-append, All-cons, All-nil, All-head, All-tail}
use Rattle.std.proofs.lemmas.Bool.{cases_lt}
use Rattle.std.proofs.lemmas.Option.{slice_get-get_or}
use Rattle.word_machine.specs.declared.closed.Measured.{Measured}
use Rattle.word_machine.specs.declared.closed.Successor.{Successor}
use Rattle.word_machine.specs.declared.closed.Origin.{Origin}
use Rattle.word_machine.specs.Machine.{WordMachine, IsLawful, IsDone, IsLiveStep}
use Rattle.word_machine.specs.Contents.{Contents, cut_more, IsOffered, AreOffered, IsOriginWithin, words_of}
use Rattle.word_machine.specs.Expansion.{IsExpansion, IsFirstDone}
use Rattle.word_machine.specs.Meaning.{Meaning, IsGrown, successor_at, successors_of, contents_at}
use Rattle.word_machine.specs.Advance.{HasAdvanced}
use Rattle.word_machine.specs.Ranks.{IsOwned, IsExpandedBy}
use Rattle.word_machine.specs.declared.advance.Advanced.{Advanced}
use Rattle.word_machine.specs.declared.advance.Advanced.TheVariants as advanced
use Rattle.word_machine.specs.declared.advance.FirstDone.{FirstDone}
use Rattle.word_machine.specs.declared.workers_level.ExpandedLevel.{ExpandedLevel}
use Rattle.word_machine.specs.declared.workers_level.ExpandedLevel.TheVariants.{Whole, Done}
use Rattle.word_machine.proofs.Meanings.{all_at, all_map, same_points, owned_still}
use Rattle.word_machine.proofs.Expanding.{IsExpansion-none, IsExpansion-append}
use Rattle.word_machine.proofs.Offering.{offered_still}
use Rattle.word_machine.proofs.ReadingBack.{more_words, length-words_of, add_word}

-- the rank at which the expansion of a level ended, if it ended with a done successor
abbrev done_of : FirstDone → Advanced → FirstDone
done_of other advanced.Whole = other
done_of other (advanced.Done first) = first
done_of other advanced.Stopped = other

-- there is one such rank
pub same_done : (f d : FirstDone) → advanced.Done f ≡ advanced.Done d → f ≡ d
same_done f d same = ap (done_of f) same

-- a place in the first of two lists
pub slice_get-first : {X : Type 0} (xs ys : List X) (i : ℕ) → i < length xs → slice_get xs i ≡ slice_get (xs ++ ys) i
slice_get-first [] ys i inside = absurd (omega arith)
slice_get-first (x ∷ xs) ys zero inside = refl
slice_get-first (x ∷ xs) ys (suc i) inside = slice_get-first xs ys i (omega arith)

-- a place in the first part of a list, by images
pub slice_get-map_take : {X Y : Type 0} (f : X → Y) (n : ℕ) (xs : List X) → n ≤ length xs → (i : ℕ) → i < n → slice_get (map f (take n xs)) i ≡ slice_get (map f xs) i
slice_get-map_take f n xs short i inside =
    let long : length (map f (take n xs)) ≡ n = length-map (take n xs) f ∙ length-take-le n xs short in
    let whole : map f (take n xs) ++ map f (drop n xs) ≡ map f xs = sym (map-append f (take n xs) (drop n xs)) ∙ ap (map f) (take-append-drop n xs) in
    slice_get-first (map f (take n xs)) (map f (drop n xs)) i (omega arith) ∙ ap (λ l. slice_get l i) whole

module _ {P : Type 0} (m : WordMachine P) (beyond : P → Type 0) where
  -- an expansion is of the ranks that it names alone
  pub expansion_of : (keys keys' : List P) (first last : ℕ) → ((p : ℕ) → p < last → slice_get keys p ≡ slice_get keys' p)
      → (reached : List (Successor P)) → IsExpansion (IsLiveStep m) (IsDone m) beyond keys first last reached → IsExpansion (IsLiveStep m) (IsDone m) beyond keys' first last reached
  expansion_of keys keys' first last alike reached e = record {
    each = λ i s at. (let x = e.each i s at in (x.0, x.1, x.2, x.3, x.4, sym (alike x.0 x.4) ∙ x.5, x.6));
    all = λ p n c d from before at step. e.all p n c d from before (alike p before ∙ at) step;
    ascending = e.ascending;
  }

  -- and so is the first done one
  pub first_done_of : (keys keys' : List P) (first last p n : ℕ) → ((q : ℕ) → q < last → slice_get keys q ≡ slice_get keys' q)
      → IsFirstDone (IsLiveStep m) (IsDone m) keys first last p n → IsFirstDone (IsLiveStep m) (IsDone m) keys' first last p n
  first_done_of keys keys' first last p n alike d =
      let before : p < last = d.before_last in
      record {
        from_first = d.from_first;
        before_last = d.before_last;
        configuration = d.configuration;
        at = sym (alike p before) ∙ d.at;
        number = d.number;
        place = λ q k c e from less at step done. d.place q k c e from less (alike q (omega arith) ∙ at) step done;
      }

  -- the first done one after ranks that were expanded, none of whose successors is done
  pub first_done_later : (keys : List P) (low from to high p n : ℕ) (reached : List (Successor P)) → low ≤ from → to ≤ high
      → IsExpansion (IsLiveStep m) (IsDone m) beyond keys low from reached
      → IsFirstDone (IsLiveStep m) (IsDone m) keys from to p n → IsFirstDone (IsLiveStep m) (IsDone m) keys low high p n
  first_done_later keys low from to high p n reached before after e d =
      let start : from ≤ p = d.from_first in
      let end : p < to = d.before_last in
      record {
        from_first = omega arith;
        before_last = omega arith;
        configuration = d.configuration;
        at = d.at;
        number = d.number;
        place = λ q k c x late less at step done. elim (cases_lt q from) [
          | inl early ↦ elim (e.all q k c x late early at step) [
            | inl found ↦ (e.each found.0 found.1 found.2).6.unfinished (subst (IsDone m) (sym found.4) done)
            | inr missed ↦ missed.0 done
          ]
          | inr here ↦ d.place q k c x here less at step done
        ];
      }

  -- what is reached from points that belong belongs
  pub expansion_belongs : (belongs : P → Type 0) → IsLawful m belongs → (keys : List P) (first last : ℕ) → All belongs keys
      → (reached : List (Successor P)) → IsExpansion (IsLiveStep m) (IsDone m) beyond keys first last reached → All (λ (t : Successor P). belongs t.configuration) reached
  expansion_belongs belongs laws keys first last own reached e = λ k d inside. (
      let t = get_or reached k d in
      let x = e.each k t (slice_get-get_or reached k d inside) in
      laws.stays x.2 t.configuration x.1 (all_at belongs keys own x.0 x.2 x.5) x.6.step.0)

  -- its parents are among those ranks
  pub expansion_within : (keys : List P) (first last ranks : ℕ) → last ≤ ranks
      → (reached : List (Successor P)) → IsExpansion (IsLiveStep m) (IsDone m) beyond keys first last reached → All (λ (t : Successor P). IsOriginWithin ranks t.origin) reached
  expansion_within keys first last ranks short reached e = λ k d inside. (
      let t = get_or reached k d in
      let x = e.each k t (slice_get-get_or reached k d inside) in
      let before : x.0 < last = x.4 in
      let less : x.0 < ranks = omega arith in
      subst (IsOriginWithin ranks) (sym x.6.origin) less)

module _ {P : Type 0} (measure : P → ℕ) (room : ℕ) where
  -- offers after offers
  pub AreOffered-append : (old middle new : Contents P) (xs ys : List (Successor P)) → AreOffered measure room old xs middle → AreOffered measure room middle ys new
      → AreOffered measure room old (xs ++ ys) new
  AreOffered-append old middle new [] ys first later = subst (λ (c : Contents P). AreOffered measure room c ys new) first later
  AreOffered-append old middle new (x ∷ xs) ys first later = (first.0, first.1, AreOffered-append first.0 middle new xs ys first.2 later)

  -- after one offer, each point of the list is one of those that stood there, or the one that was offered
  offered_all : (Q : P → Type 0) (old : Contents P) (s : Successor P) (left : ℕ) (new : Contents P) → IsOffered old s left room new → All Q old.keys → Q s.configuration → All Q new.keys
  offered_all Q old s left new (inl there) own one = subst (λ (c : Contents P). All Q c.keys) (sym there.2) own
  offered_all Q old s left new (inr (inl fresh)) own one = subst (λ (c : Contents P). All Q c.keys) (sym fresh.1) (by (nat_le left room))
    where
      by : (fits : Bool) → All Q (if◌then◌else◌ {A = Contents P} fits (record { keys = old.keys ++ s.configuration ∷ []; origins = old.origins ++ s.origin ∷ []; cut = old.cut })
          (record { keys = old.keys; origins = old.origins; cut = cut_more old.cut (left - room) })).keys
      by true = All-append Q old.keys (s.configuration ∷ []) own (All-cons Q s.configuration [] one (All-nil Q))
      by false = own
  offered_all Q old s left new (inr (inr past)) own one = subst (λ (c : Contents P). All Q c.keys) (sym past.3) own

  -- and so after many
  pub AreOffered-all : (Q : P → Type 0) (old new : Contents P) (batch : List (Successor P)) → AreOffered measure room old batch new
      → All Q old.keys → All (λ (s : Successor P). Q s.configuration) batch → All Q new.keys
  AreOffered-all Q old new [] offered own each = subst (λ (c : Contents P). All Q c.keys) (sym offered) own
  AreOffered-all Q old new (s ∷ batch) offered own each =
      let R = λ (t : Successor P). Q t.configuration in
      AreOffered-all Q offered.0 new batch offered.2 (offered_all Q old s (measure s.configuration) offered.0 offered.1 own (All-head R s batch each)) (All-tail R s batch each)

-- nothing was expanded yet
pub advanced_none : {P : Type 0} (m : WordMachine P) (beyond : P → Type 0) (measure : P → ℕ) (room : ℕ) (keys : List P) (first : ℕ) (old : Contents P)
    → HasAdvanced m beyond measure room keys first first old old
advanced_none m beyond measure room keys first old = ([], IsExpansion-none (IsLiveStep m) (IsDone m) beyond keys first, refl)

module _ {C R P : Type 0} (m : WordMachine P) (beyond : P → Type 0) (measure : P → ℕ) (room : ℕ) where
  -- a block more, whose list has what was there before it, and then more; the tables grew
  pub advanced_more : (a b : Meaning C R P) → IsGrown a b → (old middle new : Contents C) (more : List C) (low from to : ℕ)
      → All a.knows old.keys → All a.knows middle.keys → middle.keys ≡ old.keys ++ more → low ≤ from → from ≤ to → to ≤ length old.keys
      → HasAdvanced m beyond measure room (map a.point old.keys) low from (contents_at a.point old) (contents_at a.point middle)
      → HasAdvanced m beyond measure room (map b.point middle.keys) from to (contents_at b.point middle) (contents_at b.point new)
      → HasAdvanced m beyond measure room (map b.point old.keys) low to (contents_at b.point old) (contents_at b.point new)
  advanced_more a b g old middle new more low from to known known' parts before after short first later =
      let earlier : IsExpansion (IsLiveStep m) (IsDone m) beyond (map b.point old.keys) low from first.0 =
      subst (λ l. IsExpansion (IsLiveStep m) (IsDone m) beyond l low from first.0) (sym (same_points a b g old.keys known)) first.1 in
      let long : length (map b.point old.keys) ≡ length old.keys = length-map old.keys b.point in
      let whole : map b.point middle.keys ≡ map b.point old.keys ++ map b.point more = ap (map b.point) parts ∙ map-append b.point old.keys more in
      let block : IsExpansion (IsLiveStep m) (IsDone m) beyond (map b.point old.keys) from to later.0 =
      expansion_of m beyond (map b.point middle.keys) (map b.point old.keys) from to
      (λ p less. (sym (slice_get-first (map b.point old.keys) (map b.point more) p (omega arith) ∙ ap (λ l. slice_get l p) (sym whole)))) later.0 later.1 in (
        first.0 ++ later.0,
        IsExpansion-append (IsLiveStep m) (IsDone m) beyond (map b.point old.keys) low from to first.0 later.0 before after earlier block,
        AreOffered-append measure room (contents_at b.point old) (contents_at b.point middle) (contents_at b.point new) first.0 later.0
            (offered_still measure room a b g old middle first.0 known known' first.2) later.2,
      )

  -- a done one that was found in a block is the first of all
  pub advanced_done : (a b : Meaning C R P) → IsGrown a b → (old middle : Contents C) (more : List C) (low from to p n : ℕ)
      → All a.knows old.keys → middle.keys ≡ old.keys ++ more → low ≤ from → to ≤ length old.keys
      → HasAdvanced m beyond measure room (map a.point old.keys) low from (contents_at a.point old) (contents_at a.point middle)
      → IsFirstDone (IsLiveStep m) (IsDone m) (map b.point middle.keys) from to p n
      → IsFirstDone (IsLiveStep m) (IsDone m) (map b.point old.keys) low (length old.keys) p n
  advanced_done a b g old middle more low from to p n known parts before short first done =
      let earlier : IsExpansion (IsLiveStep m) (IsDone m) beyond (map b.point old.keys) low from first.0 =
      subst (λ l. IsExpansion (IsLiveStep m) (IsDone m) beyond l low from first.0) (sym (same_points a b g old.keys known)) first.1 in
      let long : length (map b.point old.keys) ≡ length old.keys = length-map old.keys b.point in
      let whole : map b.point middle.keys ≡ map b.point old.keys ++ map b.point more = ap (map b.point) parts ∙ map-append b.point old.keys more in
      first_done_later m beyond (map b.point old.keys) low from to (length old.keys) p n first.0 before short earlier
      (first_done_of m beyond (map b.point middle.keys) (map b.point old.keys) from to p n
      (λ q less. (sym (slice_get-first (map b.point old.keys) (map b.point more) q (omega arith) ∙ ap (λ l. slice_get l q) (sym whole)))) done)

-- what an expansion by ranks of a list's first part says of the list
module _ {C R P : Type 0} (m : WordMachine P) (meaning : Meaning C R P) (beyond : P → Type 0) (measure : P → ℕ)
    (keys lent : List C) (from to : ℕ) (short : to ≤ length keys) (is : lent ≡ take to keys)
    (e : ExpandedLevel (Measured R) ℕ) (expanded : IsExpandedBy m meaning beyond measure lent from (length lent) e) where
  -- the first part has so many
  counted : length lent ≡ to
  counted = ap length is ∙ length-take-le to keys short

  -- the same, by so many
  of_part : IsExpandedBy m meaning beyond measure (take to keys) from to e
  of_part = subst (λ l. IsExpandedBy m meaning beyond measure l from to e) is (subst (λ n. IsExpandedBy m meaning beyond measure lent from n e) counted expanded)

  -- where all were expanded
  pub block_whole : (measured : List (Measured R)) → e ≡ Whole measured → IsExpandedBy m meaning beyond measure keys from to (Whole measured)
  block_whole measured told =
      let part : IsExpandedBy m meaning beyond measure (take to keys) from to (Whole measured) = subst (IsExpandedBy m meaning beyond measure (take to keys) from to) told of_part in (
        part.0,
        expansion_of m beyond (map meaning.point (take to keys)) (map meaning.point keys) from to (slice_get-map_take meaning.point to keys short) (map (successor_at meaning.point_of) (successors_of measured)) part.1,
        part.2,
      )

  -- where a done one was found
  pub block_done : (p n : ℕ) → e ≡ Done p n → IsExpandedBy {C = C} {R = R} m meaning beyond measure keys from to (Done p n)
  block_done p n told =
      let part : IsExpandedBy {C = C} {R = R} m meaning beyond measure (take to keys) from to (Done p n) = subst (IsExpandedBy m meaning beyond measure (take to keys) from to) told of_part in
      first_done_of m beyond (map meaning.point (take to keys)) (map meaning.point keys) from to p n (slice_get-map_take meaning.point to keys short) part

-- the points of configurations that are owned belong, also once the tables grew
pub points_belong : {C R P : Type 0} (a b : Meaning C R P) (belongs : P → Type 0) → IsGrown a b → (keys : List C) → All (IsOwned a belongs) keys → All belongs (map b.point keys)
points_belong a b belongs g keys own = all_map b.point belongs keys (λ k d inside. (owned_still a b g belongs (get_or keys k d) (own k d inside)).1)

-- configurations that are owned are known
pub owned_known : {C R P : Type 0} (a : Meaning C R P) (belongs : P → Type 0) (keys : List C) → All (IsOwned a belongs) keys → All a.knows keys
owned_known a belongs keys own = λ k d inside. (own k d inside).0

-- later origins change no word
pub word_before : (origins more : List Origin) (p : ℕ) → p < length origins → get_or (words_of (origins ++ more)) p [] ≡ get_or (words_of origins) p []
word_before origins more p inside =
    let rest = more_words (words_of origins) more in
    let long : length (words_of origins) ≡ length origins = length-words_of origins in
    ap (λ l. get_or l p []) (fold-append add_word [] origins more ∙ rest.1) ∙ get_or_append_left (words_of origins) rest.0 [] p (omega arith)
