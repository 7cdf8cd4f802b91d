-- A list, and what is put aside to be kept with it.
use Rattle.std.proofs.Common.{◌≡◌, ℕ, ◌-◌, ◌<◌, ◌≤◌, Bool, true, false, true≢false, if◌then◌else◌, List, [], ◌∷◌, ◌++◌, length, map, All, get_or, slice_get, Some, refl, sym, ap, subst, ◌∙◌, inl, inr, arith, append_assoc}
use Rattle.std.specs.Prelude.{nat_le}
use Rattle.std.specs.List.{list_any}
use Rattle.std.proofs.lemmas.Bool.Decides.{leb_tells}
use Rattle.std.proofs.lemmas.List.{append-nil}
use Rattle.std.proofs.lemmas.List.Elements.{All-append, All-cons, All-head, All-nil, All-tail}
use Rattle.word_machine.specs.declared.closed.Link.{Link}
use Rattle.word_machine.specs.declared.closed.Fitting.{Fitting}
use Rattle.word_machine.specs.declared.closed.Origin.{Origin}
use Rattle.word_machine.specs.declared.closed.Successor.{Successor}
use Rattle.word_machine.specs.Contents.{Contents, CutOff, IsOffered, cut_more, fitting, offer, offer_all, origin_of}
use Rattle.word_machine.specs.Aside.{IsAside}
use Rattle.word_machine.specs.Meaning.{Meaning, IsGrown, contents_at, successor_at}
use Rattle.word_machine.proofs.Meanings.{all_at, known_still, slice_get-map, slice_get-map_back}
use Rattle.word_machine.proofs.Offering.{found, known_point, offer_point, offered_past}
use Rattle.word_machine.proofs.Places.{slice_get-append_cases, slice_get-append_left}

module _ {C : Type 0} where
  -- one more is put aside after the others
  pub fitting-push : (ls : List Link) (cs : List C) (l : Link) (c : C) → length ls ≡ length cs
      → fitting (ls ++ l ∷ []) (cs ++ c ∷ []) ≡ fitting ls cs ++ record { origin = origin_of l; configuration = c } ∷ []
  fitting-push [] [] l c same = refl
  fitting-push [] (d ∷ cs) l c same = absurd (omega arith)
  fitting-push (k ∷ ls) [] l c same = absurd (omega arith)
  fitting-push (k ∷ ls) (d ∷ cs) l c same =
      ap (λ fs. record { origin = origin_of k; configuration = d } ∷ fs) (fitting-push ls cs l c (omega arith))

  -- what holds of each configuration holds of each that is put aside
  pub fitting-All : (P : C → Type 0) (ls : List Link) (cs : List C) → All P cs
      → All (λ (s : Successor C). P s.configuration) (fitting ls cs)
  fitting-All P [] cs each = All-nil (λ (s : Successor C). P s.configuration)
  fitting-All P (l ∷ ls) [] each = All-nil (λ (s : Successor C). P s.configuration)
  fitting-All P (l ∷ ls) (c ∷ cs) each =
      let Q = λ (s : Successor C). P s.configuration in
      All-cons Q (record { origin = origin_of l; configuration = c }) (fitting ls cs)
      (All-head P c cs each) (fitting-All P ls cs (All-tail P c cs each))

module _ {C R P : Type 0} (measure : P → ℕ) (room ranks : ℕ) where
  -- what is put aside is so as tables grow
  pub aside_still : (a b : Meaning C R P) → IsGrown a b → (fits : Fitting C) → IsAside a measure room ranks fits
      → IsAside b measure room ranks fits
  aside_still a b grown fits aside =
      let configurations = fits.configurations.items in
      record {
        as_many = aside.as_many;
        within = aside.within;
        known = known_still a b grown configurations aside.known;
        fit = λ k d inside.
            subst (λ p. measure p ≤ room) (sym (grown.same (get_or configurations k d) (aside.known k d inside)))
            (aside.fit k d inside);
      }

module _ {C : Type 0} (eq : C → C → Bool) where
  -- a list, with those for which there is room
  abbrev pub kept : Contents C → List (Successor C) → Contents C
  kept contents fs = offer_all eq (λ c. 0) 0 contents fs

  -- a list, with one more
  abbrev added : Contents C → Successor C → Contents C
  added contents s = record {
    keys = contents.keys ++ s.configuration ∷ [];
    origins = contents.origins ++ s.origin ∷ [];
    cut = contents.cut;
  }

  -- a list, with another cut
  abbrev with_cut : Contents C → CutOff → Contents C
  with_cut contents cut = record { keys = contents.keys; origins = contents.origins; cut = cut }

  -- one more goes after the others
  kept-push : (contents : Contents C) (fs : List (Successor C)) (s : Successor C)
      → kept contents (fs ++ s ∷ []) ≡ offer eq (kept contents fs) s 0 0
  kept-push contents [] s = refl
  kept-push contents (f ∷ fs) s = kept-push (offer eq contents f 0 0) fs s

  -- where there is room for what is left of one, it does not matter how much is left
  offer-fit : (contents : Contents C) (s : Successor C) (left room : ℕ) → nat_le left room ≡ true
      → offer eq contents s 0 0 ≡ offer eq contents s left room
  offer-fit contents s left room fits =
      ap (λ b. if list_any (eq s.configuration) contents.keys then contents
      else if b then added contents s
      else with_cut contents (cut_more contents.cut (left - room))) (sym fits)

  -- one goes after the configurations that are there, or changes none
  key_more : (P : C → Type 0) (contents : Contents C) (s : Successor C) → P s.configuration
      → (more : List C) × ((offer eq contents s 0 0).keys ≡ contents.keys ++ more) × All P more
  key_more P contents s own = by (list_any (eq s.configuration) contents.keys)
    where
      by : (there : Bool) → (more : List C)
          × ((if there then contents else added contents s).keys ≡ contents.keys ++ more) × All P more
      by true = ([], sym (append-nil contents.keys), All-nil P)
      by false = (s.configuration ∷ [], refl, All-cons P s.configuration [] own (All-nil P))

  -- they go after the configurations that are there, and no others do
  pub keys_more : (P : C → Type 0) (contents : Contents C) (fs : List (Successor C))
      → All (λ (s : Successor C). P s.configuration) fs
      → (more : List C) × ((kept contents fs).keys ≡ contents.keys ++ more) × All P more
  keys_more P contents [] each = ([], sym (append-nil contents.keys), All-nil P)
  keys_more P contents (f ∷ fs) each =
      let Q = λ (s : Successor C). P s.configuration in
      let first = key_more P contents f (All-head Q f fs each) in
      let rest = keys_more P (offer eq contents f 0 0) fs (All-tail Q f fs each) in (
        first.0 ++ rest.0,
        rest.1 ∙ ap (λ l. l ++ rest.0) first.1 ∙ append_assoc contents.keys first.0 rest.0,
        All-append P first.0 rest.0 first.2 rest.2,
      )

  -- what holds of those that are there and of these holds of all
  pub kept_known : (P : C → Type 0) (contents : Contents C) (fs : List (Successor C)) → All P contents.keys
      → All (λ (s : Successor C). P s.configuration) fs → All P (kept contents fs).keys
  kept_known P contents fs each each' =
      let more = keys_more P contents fs each' in
      subst (All P) (sym more.1) (All-append P contents.keys more.0 each more.2)

  -- one's origin goes after those that are there, or changes none
  origin_more : (contents : Contents C) (s : Successor C)
      → (more : List Origin) × ((offer eq contents s 0 0).origins ≡ contents.origins ++ more)
  origin_more contents s = by (list_any (eq s.configuration) contents.keys)
    where
      by : (there : Bool) → (more : List Origin)
          × ((if there then contents else added contents s).origins ≡ contents.origins ++ more)
      by true = ([], sym (append-nil contents.origins))
      by false = (s.origin ∷ [], refl)

  -- their origins go after those that are there
  pub origins_more : (contents : Contents C) (fs : List (Successor C))
      → (more : List Origin) × ((kept contents fs).origins ≡ contents.origins ++ more)
  origins_more contents [] = ([], sym (append-nil contents.origins))
  origins_more contents (f ∷ fs) =
      let first = origin_more contents f in
      let rest = origins_more (offer eq contents f 0 0) fs in
      (first.0 ++ rest.0, rest.1 ∙ ap (λ l. l ++ rest.0) first.1 ∙ append_assoc contents.origins first.0 rest.0)

  -- one for which there is room goes the same way whatever was cut off
  cut_beside : (contents : Contents C) (s : Successor C) (cut : CutOff)
      → offer eq (with_cut contents cut) s 0 0 ≡ with_cut (offer eq contents s 0 0) cut
  cut_beside contents s cut = by (list_any (eq s.configuration) contents.keys)
    where
      by : (there : Bool) → (if there then with_cut contents cut else added (with_cut contents cut) s)
          ≡ with_cut (if there then contents else added contents s) cut
      by true = refl
      by false = refl

  -- and so do all
  kept_beside : (contents : Contents C) (fs : List (Successor C)) (cut : CutOff)
      → kept (with_cut contents cut) fs ≡ with_cut (kept contents fs) cut
  kept_beside contents [] cut = refl
  kept_beside contents (f ∷ fs) cut =
      ap (λ n. kept n fs) (cut_beside contents f cut) ∙ kept_beside (offer eq contents f 0 0) fs cut

  -- none of them is cut off
  none_cut : (contents : Contents C) (fs : List (Successor C)) → (kept contents fs).cut ≡ contents.cut
  none_cut contents fs = ap (λ (n : Contents C). n.cut) (kept_beside contents fs contents.cut)

-- what is no more than another number is so by the test
no_more : (left room : ℕ) → left ≤ room → nat_le left room ≡ true
no_more left room fits = elim (leb_tells left room) [
  | inl tells ↦ tells.0
  | inr past ↦ absurd (let over : room < left = past.1 in omega arith)
]

module _ {C P : Type 0} (eq : C → C → Bool) (same : (c d : C) → eq c d ≡ true → c ≡ d)
    (reflexive : (c : C) → eq c c ≡ true) (knows : C → Type 0) (point : C → P)
    (one_to_one : (c d : C) → knows c → knows d → point c ≡ point d → c ≡ d)
    (measure : P → ℕ) (room : ℕ) (contents : Contents C) (fs : List (Successor C))
    (known : All knows contents.keys) (known' : All (λ (s : Successor C). knows s.configuration) fs)
    (fit : All (λ (s : Successor C). measure (point s.configuration) ≤ room) fs) where
  -- one is offered to the list with these, and leads to another list with those
  abbrev LeadsTo : Successor P → Contents C → List (Successor C) → Type 0
  LeadsTo s new fs' =
      IsOffered (contents_at point (kept eq contents fs)) s (measure s.configuration) room
      (contents_at point (kept eq new fs'))

  -- all that is kept is known
  still_known : All knows (kept eq contents fs).keys
  still_known = kept_known eq knows contents fs known known'

  -- one for which there is room is put aside
  pub fit_offered : (s : Successor C) → knows s.configuration → measure (point s.configuration) ≤ room
      → LeadsTo (successor_at point s) contents (fs ++ s ∷ [])
  fit_offered s own fits =
      let all = kept eq contents fs in
      let left = measure (point s.configuration) in
      let t = successor_at point s in
      subst (λ (n : Contents C). IsOffered (contents_at point all) t left room (contents_at point n))
      (sym (kept-push eq contents fs s ∙ offer-fit eq all s left room (no_more left room fits)))
      (offer_point eq same reflexive knows point one_to_one all s left room still_known own)

  module _ (s : Successor P) (over : room < measure s.configuration) where
    -- by how much it is past the room
    abbrev past : ℕ
    past = measure s.configuration - room

    -- the list, once the successor was cut off
    abbrev without : Contents C
    without = with_cut eq contents (cut_more contents.cut past)

    -- one that is past the room as far as one that was cut off is passed over
    pub past_offered : contents.cut.any ≡ true → contents.cut.past ≤ past → LeadsTo s contents fs
    past_offered cut far =
        let cut_is = sym (none_cut eq contents fs) in
        let any = subst (λ (c : CutOff). c.any ≡ true) cut_is cut in
        inr (inr (any, over, subst (λ (c : CutOff). c.past ≤ past) cut_is far, refl))

    -- one that is past the room, and neither there nor put aside, is cut off
    absent_offered : ((r : ℕ) → slice_get (map point (kept eq contents fs).keys) r ≡ Some s.configuration → ⊥)
        → LeadsTo s without fs
    absent_offered absent =
        let all = kept eq contents fs in
        let left = measure s.configuration in
        let moved : with_cut eq all (cut_more all.cut past) ≡ kept eq without fs =
        ap (λ c. with_cut eq all (cut_more c past)) (none_cut eq contents fs)
        ∙ sym (kept_beside eq contents fs (cut_more contents.cut past)) in
        subst (λ (n : Contents C). IsOffered (contents_at point all) s left room (contents_at point n)) moved
        (offered_past (contents_at point all) s left room absent over)

    -- one that is past the room, and whose point has no number, is cut off
    pub none_offered : ((c : C) → knows c → point c ≡ s.configuration → ⊥) → (new : Contents C) → new ≡ without
        → LeadsTo s new fs
    none_offered none new cut =
        let all = (kept eq contents fs).keys in
        subst (λ (n : Contents C). LeadsTo s n fs) (sym cut)
        (absent_offered (λ r at.
        (let back = slice_get-map_back point all r s.configuration at in
        none back.0 (all_at knows all still_known r back.0 back.1) back.2)))

    module _ (c : C) (own : knows c) (is : point c ≡ s.configuration) where
      -- one that is there changes nothing
      there_offered : list_any (eq c) contents.keys ≡ true → LeadsTo s contents fs
      there_offered there =
          let all = (kept eq contents fs).keys in
          let at = found eq same reflexive knows point one_to_one contents.keys c there in
          let more = keys_more eq knows contents fs known' in
          let place : slice_get all at.0 ≡ Some c =
          ap (λ l. slice_get l at.0) more.1 ∙ slice_get-append_left contents.keys more.0 at.0 c at.1 in
          inl (at.0, slice_get-map point all at.0 c place ∙ ap Some is, refl)

      -- one that is past the room was not put aside
      not_aside : list_any (eq c) contents.keys ≡ false → (r : ℕ)
          → slice_get (map point (kept eq contents fs).keys) r ≡ Some s.configuration → ⊥
      not_aside missing r at =
          let all = (kept eq contents fs).keys in
          let here = known_point eq same reflexive knows point one_to_one in
          let listed = here all c still_known own r (at ∙ ap Some (sym is)) in
          let place = found eq same reflexive knows point one_to_one all c listed in
          let fits = λ (d : C). measure (point d) ≤ room in
          let more = keys_more eq fits contents fs fit in
          let joined = ap (λ l. slice_get l place.0) (sym more.1) ∙ place.1 in
          elim (slice_get-append_cases contents.keys more.0 place.0 c joined) [
            | inl before ↦
                let at_first = slice_get-map point contents.keys place.0 c before in
                true≢false (sym (here contents.keys c known own place.0 at_first) ∙ missing)
            | inr after ↦ (
                let small : measure s.configuration ≤ room =
                subst (λ p. measure p ≤ room) is (all_at fits more.0 more.2 after.0 c after.2) in
                omega arith)
          ]

      -- one that is past the room and has its numbers is cut off, unless it is there
      pub found_offered : (new : Contents C) → (list_any (eq c) contents.keys ≡ true → new ≡ contents)
          → (list_any (eq c) contents.keys ≡ false → new ≡ without) → LeadsTo s new fs
      found_offered new there cut = by (list_any (eq c) contents.keys) refl
        where
          by : (b : Bool) → list_any (eq c) contents.keys ≡ b → LeadsTo s new fs
          by true is_there = subst (λ (n : Contents C). LeadsTo s n fs) (sym (there is_there)) (there_offered is_there)
          by false missing =
              subst (λ (n : Contents C). LeadsTo s n fs) (sym (cut missing)) (absent_offered (not_aside missing))
