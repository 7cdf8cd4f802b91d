-- Networks that are listed, made and numbered.
use Rattle.std.proofs.Common.{◌≡◌, ℕ, ◌<◌, List, [], ◌∷◌, ◌++◌, length, get_or, refl, sym, ap, ap₂, subst, ◌∙◌, arith, All, Option, Some, None, slice_get, IfSome, zero, suc, length-append}
use Rattle.std.proofs.lemmas.List.{get_or_append_left, get_or_at, get_or_default, get_or-map, length-map, map-append}
use Rattle.std.proofs.lemmas.List.Elements.{All-nil, All-push}
use Rattle.std.proofs.lemmas.Option.{slice_get-get_or}
use Rattle.network_table.specs.Numbered.{Numbered, IsWithin, replaced_numbered, nothing}
use Rattle.network_table.specs.Entries.{IsAlone, IsKeptWhole, network_by, networks_alone}
use Rattle.network_table.specs.declared.network_set.Entry.{Entry}
use Rattle.network_table.specs.declared.network_set.Entry.TheVariants.{Whole}
use Rattle.network_table.specs.Networks.{children, numbered_at, IsMore, IsNumberOf, IsWhole, Knows}
use Rattle.network_table.specs.declared.notes.Notes.{Notes}
use Rattle.network_table.proofs.Keys.{at_slice}
use Rattle.network_table.specs.Drafts.{AreKnown, AreKnownOf, AreMade, AreNumbersOf, IsKnown, IsPlaced, draft_network, drafted, inner_at}
use Rattle.network_table.specs.declared.draft.Draft.{Draft}
use Rattle.network_table.specs.declared.draft.Job.{Job}
use Rattle.network_table.specs.declared.made.Place.{Place}
use Rattle.network_table.specs.declared.notes.Known.{Known}
use Rattle.network_table.specs.declared.table.NetworkTable.{NetworkTable}
use Rattle.network_table.proofs.Expanding.{all_more, within_at, within_replaced}
use Rattle.network_table.proofs.Tables.{more_known, more_same}

-- ## Making

-- an instance that was read is what takes the node's place
pub inner_some : (instances : List Numbered) (instance : Option ℕ) (place : ℕ) (x : Numbered) → instance ≡ Some place → place < length instances → x ≡ get_or instances place x → x ≡ inner_at instances instance
inner_some instances instance place x some inside is = is ∙ get_or_default instances place x nothing inside ∙ ap (inner_at instances) (sym some)

-- what was made of a draft is the draft's network
pub drafted_is : (t : NetworkTable) (jobs : List Job) (d : Draft) (job : Job) (whole inner next : Numbered) → d.job < length jobs → job ≡ get_or jobs d.job job
    → whole ≡ numbered_at t job.network → inner ≡ inner_at job.instances.now d.instance → next ≡ replaced_numbered whole d.position inner → next ≡ draft_network t jobs d
drafted_is t jobs d job whole inner next inside is whole_is inner_is next_is =
    next_is ∙ ap₂ (λ m x. replaced_numbered m d.position x) whole_is inner_is
    ∙ ap (drafted t d) (sym (slice_get-get_or jobs d.job job inside ∙ ap Some (sym is)))

-- its nodes have numbers
pub drafted_within : (t : NetworkTable) (d : Draft) (job : Job) (whole inner next : Numbered) → IsWhole t → Knows t job.network → IsWithin (children t) inner
    → whole ≡ numbered_at t job.network → next ≡ replaced_numbered whole d.position inner → IsWithin (children t) next
drafted_within t d job whole inner next tidy known other whole_is next_is =
    subst (λ (n : Numbered). IsWithin (children t) n) (sym (next_is ∙ ap (λ m. replaced_numbered m d.position inner) whole_is))
    (within_replaced t (numbered_at t job.network) inner d.position (within_at t job.network tidy known) other)

-- a place stays one while networks are added
placed_more : (t : NetworkTable) (jobs : List Job) (ns more ms : List Numbered) → ms ≡ ns ++ more → (p : Place) → IsPlaced t jobs ns p → IsPlaced t jobs ms p
placed_more t jobs ns more ms is p placed =
    subst (λ l. IsPlaced t jobs l p) (sym is)
    (omega (arith, placed.0, length-append ns more), get_or_append_left ns more nothing p.network placed.0 ∙ placed.1)

-- nothing is made at first
pub made_none : (t : NetworkTable) (jobs : List Job) → AreMade t jobs [] []
made_none t jobs = record { alone = All-nil IsAlone; within = All-nil (IsWithin (children t)); placed = All-nil (IsPlaced t jobs []) }

-- one more place, and maybe one more network
pub made_push : (t : NetworkTable) (jobs : List Job) (ns ms more : List Entry) (ps : List Place) (p : Place) (x : Numbered) → AreMade t jobs ns ps → ms ≡ ns ++ more
    → All IsAlone ms → All (IsWithin (children t)) (networks_alone ms) → p.network < length (networks_alone ms) → get_or (networks_alone ms) p.network nothing ≡ x
    → x ≡ draft_network t jobs p.draft → AreMade t jobs ms (ps ++ p ∷ [])
made_push t jobs ns ms more ps p x made is alone within inside there x_is =
    let longer = ap networks_alone is ∙ map-append (network_by []) ns more in
    record {
      alone = alone;
      within = within;
      placed = All-push (IsPlaced t jobs (networks_alone ms)) ps p
          (all_more (IsPlaced t jobs (networks_alone ns)) (IsPlaced t jobs (networks_alone ms)) (placed_more t jobs (networks_alone ns) (networks_alone more) (networks_alone ms) longer) ps made.placed)
          (inside, there ∙ x_is);
    }

-- one more network, with its place
pub made_new : (t : NetworkTable) (jobs : List Job) (ns ms : List Entry) (ps : List Place) (p : Place) (x : Numbered) → AreMade t jobs ns ps → ms ≡ ns ++ Whole x ∷ []
    → IsKeptWhole x → IsWithin (children t) x → p.network ≡ length ns → x ≡ draft_network t jobs p.draft → AreMade t jobs ms (ps ++ p ∷ [])
made_new t jobs ns ms ps p x made is whole within last x_is =
    let longer : networks_alone ms ≡ networks_alone ns ++ x ∷ [] = ap networks_alone is ∙ map-append (network_by []) ns (Whole x ∷ []) in
    let low = length-map ns (network_by []) in
    made_push t jobs ns ms (Whole x ∷ []) ps p x made is
    (subst (All IsAlone) (sym is) (All-push IsAlone ns (Whole x) made.alone whole))
    (subst (All (IsWithin (children t))) (sym longer) (All-push (IsWithin (children t)) (networks_alone ns) x made.within within))
    (omega (arith, last, low, ap length longer, length-append (networks_alone ns) (x ∷ [])))
    (ap (λ l. get_or l p.network nothing) longer ∙ get_or_at (networks_alone ns) x [] nothing p.network (omega (arith, last, low)))
    x_is

-- ## Numbering

-- the number at a place is that of the network there
pub number_there : (t : NetworkTable) (xs : List ℕ) (ns : List Numbered) (i x : ℕ) (n : Numbered) → AreNumbersOf t xs ns → i < length ns → get_or ns i nothing ≡ n → x ≡ get_or xs i x → IsNumberOf t x n
number_there t xs ns i x n are inside there is =
    let long : length xs ≡ length ns = sym (length-map xs (numbered_at t)) ∙ ap length are.each in
    let low : i < length xs = omega (arith, inside, long) in (
      subst (Knows t) (sym is) (are.known i x low),
      ap (numbered_at t) is ∙ sym (get_or-map (numbered_at t) xs i x nothing low) ∙ ap (λ l. get_or l i nothing) are.each ∙ there,
    )

-- ## Growth

-- where the jobs' networks have not changed, a draft stands for the same
pub drafted_same : (s t : NetworkTable) (jobs : List Job) (d : Draft) → All (λ (j : Job). numbered_at t j.network ≡ numbered_at s j.network) jobs → draft_network t jobs d ≡ draft_network s jobs d
drafted_same s t [] d same = refl
drafted_same s t (j ∷ jobs) d same = by d.job (j ∷ jobs) same
  where
    by : (k : ℕ) (js : List Job) → All (λ (j : Job). numbered_at t j.network ≡ numbered_at s j.network) js → drafted t d (slice_get js k) ≡ drafted s d (slice_get js k)
    by k [] same = refl
    by zero (j ∷ js) same = ap (λ m. replaced_numbered m d.position (inner_at j.instances.now d.instance)) (same 0 j (omega arith))
    by (suc k) (j ∷ js) same = by k js (λ i e inside. same (suc i) e (omega (arith, inside)))

-- what is noted stays right while networks are added
pub known_more : (s t : NetworkTable) (jobs : List Job) (noted : List (Option Known)) → ((x : ℕ) → Knows s x → Knows t x × (numbered_at t x ≡ numbered_at s x))
    → All (λ (j : Job). Knows s j.network) jobs → AreKnown s jobs noted → AreKnown t jobs noted
known_more s t jobs noted grown known are = all_more (λ o. IfSome o (IsKnown s jobs)) (λ o. IfSome o (IsKnown t jobs)) each noted are
  where
    same : (d : Draft) → draft_network t jobs d ≡ draft_network s jobs d
    same d = drafted_same s t jobs d (all_more (λ (j : Job). Knows s j.network) (λ (j : Job). numbered_at t j.network ≡ numbered_at s j.network) (λ j own. (grown j.network own).1) jobs known)

    each : (o : Option Known) → IfSome o (IsKnown s jobs) → IfSome o (IsKnown t jobs)
    each None own = tt
    each (Some k) own = let after = grown k.number own.0 in (after.0, after.1 ∙ own.1 ∙ sym (same k.draft))

-- a table that has grown has the same networks, by their numbers
abbrev pub KeepsNumbers : NetworkTable → NetworkTable → Type 0
KeepsNumbers s t = (x : ℕ) → Knows s x → Knows t x × (numbered_at t x ≡ numbered_at s x)

-- so has one with more networks
pub keeps_more : (s t : NetworkTable) → IsMore s t → KeepsNumbers s t
keeps_more s t more x known = (more_known s t x more known, more_same s t x more known)

-- the number of the network at a place is that of its draft's network
pub noted_place : (s t : NetworkTable) (jobs : List Job) (ns : List Numbered) (xs : List ℕ) (p : Place) (x : ℕ) → IsMore s t → All (λ (j : Job). Knows s j.network) jobs
    → AreNumbersOf t xs ns → IsPlaced s jobs ns p → x ≡ get_or xs p.network x → IsNumberOf t x (draft_network t jobs p.draft)
noted_place s t jobs ns xs p x more known are placed is =
    let same = drafted_same s t jobs p.draft (all_more (λ (j : Job). Knows s j.network) (λ (j : Job). numbered_at t j.network ≡ numbered_at s j.network) (λ j own. (keeps_more s t more j.network own).1) jobs known) in
    number_there t xs ns p.network x (draft_network t jobs p.draft) are placed.0 (placed.1 ∙ sym same) is

-- a number that was noted of a draft is that of its network
pub known_there : (t : NetworkTable) (job : Job) (notes : Notes) (at n : ℕ) (draft : Draft) (k : Known) (inner : Numbered) → AreKnownOf t job notes
    → slice_get notes.noted.now at ≡ Some (Some k) → k.number ≡ n → k.draft ≡ draft → draft.job ≡ notes.job → inner ≡ inner_at job.instances.now draft.instance
    → IsNumberOf t n (replaced_numbered (numbered_at t job.network) draft.position inner)
known_there t job notes at n draft k inner are there number draft_is own inner_is =
    let seen = at_slice notes.noted.now at (Some k) None there in
    let known = subst (λ o. IfSome o (λ k. k.draft.job ≡ notes.job → IsNumberOf t k.number (drafted t k.draft (Some job)))) seen.1 (are at None seen.0) in
    let is = known (ap (λ (d : Draft). d.job) draft_is ∙ own) in
    let value : drafted t k.draft (Some job) ≡ replaced_numbered (numbered_at t job.network) draft.position inner =
    ap (λ (d : Draft). drafted t d (Some job)) draft_is ∙ ap (λ x. replaced_numbered (numbered_at t job.network) draft.position x) (sym inner_is) in (
      subst (Knows t) number is.0,
      ap (numbered_at t) (sym number) ∙ is.1 ∙ value,
    )
