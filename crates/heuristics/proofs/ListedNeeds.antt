-- Wants by their ids, and what a chain needs by them.
use Rattle.std.proofs.Common.{◌≡◌, ℕ, ◌<◌, Bool, true, false, not, cond, eqb, ltb, ◌&&◌, ◌||◌, List, [], ◌∷◌, ◌++◌, length, get_or, map, take, filter, inl, inr, Option, None, Some, refl, sym, ap, ap₂, ◌∙◌, subst, arith, append_assoc, length-append}
use Rattle.std.specs.List.{list_all, list_any}
use Rattle.std.specs.Prelude.{is_some}
use Rattle.std.proofs.Math.Bool.{or_assoc}
use Rattle.std.proofs.Math.Seq.{get_or-append_seam}
use Rattle.std.proofs.lemmas.Bool.{and_from, and_parts, cases_Bool, cases_lt, eqb-true, lt-ltb, ltb-true}
use Rattle.std.proofs.lemmas.List.{get_or_append_left, length-map}
use Rattle.std.proofs.lemmas.List.Elements.{filter-append}
use Rattle.std.proofs.lemmas.List.Folds.{list_all-append}
use Rattle.htn_model.specs.Literal.{Literal, literal_holds}
use Rattle.htn_model.specs.Problem.{Child, Network}
use Rattle.heuristics.specs.Chains.{IsChain, led_by, not_given_by}
use Rattle.heuristics.specs.Needs.{has_blocked, needed, needed_goal, Outlook}
use Rattle.heuristics.specs.Places.{all_needed, row_at}
use Rattle.heuristics.specs.Rows.{gives_by, literal_number, row_of, wants_by}
use Rattle.heuristics.specs.declared.needs.Needs.{Needs}
use Rattle.heuristics.proofs.ChainedNeeds.{chains_need, filter_all}
use Rattle.state_table.specs.Compiled.{AreCompiled, all_hold, is_met}
use Rattle.state_table.specs.Table.{IsLater, IsTable, state_of, Table}
use Rattle.state_table.specs.declared.compiled.CompiledLiterals.{CompiledLiterals}
use Rattle.state_table.specs.declared.literal.CompiledLiteral.TheVariants.{Decided}
use Rattle.state_table.proofs.States.{later_itself, later_more}
use Rattle.heuristics.specs.StoredNeeds.{AreWants, IsNode}
use Rattle.heuristics.specs.ListedNeeds.{all_pass, AreIds, AreListed, AreChainsListed, AreMoreWants, holds_or, is_in, IsListed, IsListedAt, is_met_or, list_at, want_at}
use Rattle.heuristics.specs.Prospects.{outlook_by}
use Rattle.heuristics.specs.declared.node.Node.{Node}
use Rattle.heuristics.specs.declared.prospects.Prospects.{Prospects}
use Rattle.heuristics.specs.declared.needs_table.NeedsTable.{NeedsTable}
use Rattle.heuristics.specs.declared.wants.Want.{Want}
use Rattle.heuristics.proofs.StoredNeeds.{kept_later}

-- ## Tests of lists

-- tests that agree pass the same lists
pub all_same : {X : Type 0} (p q : X → Bool) (xs : List X) → ((x : X) → p x ≡ q x) → list_all p xs ≡ list_all q xs
all_same p q [] same = refl
all_same p q (x ∷ xs) same = ap₂ (λ a b. a && b) (same x) (all_same p q xs same)

-- with what passes anyway
pub and_passed : (a b : Bool) → (a ≡ true → b ≡ true) → a ≡ (a && b)
and_passed true b passed = sym (passed refl)
and_passed false b passed = refl

-- none of none fails
pub none_taken : {X : Type 0} (test : X → Bool) (xs : List X) → true ≡ list_all test (take 0 xs)
none_taken test [] = refl
none_taken test (x ∷ xs) = refl

-- a test of what another doesn't drop
all_undropped : {X : Type 0} (drops test : X → Bool) (xs : List X) → list_all test (filter (λ x. not (drops x)) xs) ≡ list_all (λ x. drops x || test x) xs
all_undropped drops test [] = refl
all_undropped drops test (x ∷ xs) = by (drops x) (all_undropped drops test xs)
  where
    by : (b : Bool) → list_all test (filter (λ x. not (drops x)) xs) ≡ list_all (λ x. drops x || test x) xs
        → list_all test (cond (not b) (x ∷ filter (λ x. not (drops x)) xs) (filter (λ x. not (drops x)) xs)) ≡ ((b || test x) && list_all (λ x. drops x || test x) xs)
    by true same = same
    by false same = ap (λ b. test x && b) same

-- with what passes either does
or_passed : (b : Bool) → (b || true) ≡ true
or_passed true = refl
or_passed false = refl

-- all pass where one of two tests does
all_either : {X : Type 0} (p q : X → Bool) (xs : List X) → list_all q xs ≡ true → list_all (λ x. p x || q x) xs ≡ true
all_either p q [] all = refl
all_either p q (x ∷ xs) all =
    let parts = and_parts (q x) (list_all q xs) all in
    and_from (p x || q x) (list_all (λ x. p x || q x) xs) (ap (λ b. p x || b) parts.0 ∙ or_passed (p x)) (all_either p q xs parts.1)

-- ## Ids

-- those that have one keep it
pub more_itself : (wants : List Want) → AreMoreWants wants wants
more_itself wants = record { longer = omega arith; same = λ id low. refl }

-- and later on
pub more_more : (old new last : List Want) → AreMoreWants old new → AreMoreWants new last → AreMoreWants old last
more_more old new last first second = record {
  longer = (let a = first.longer in let b = second.longer in omega (arith, a, b));
  same = λ id low. second.same id (let a = first.longer in omega (arith, a, low)) ∙ first.same id low;
}

-- one more want
pub more_push : (old new : List Want) (w : Want) → new ≡ old ++ w ∷ [] → AreMoreWants old new
more_push old new w pushed = record {
  longer = (let long = length-append old (w ∷ []) in let is = ap length pushed in omega (arith, long, is));
  same = λ id low. ap (λ (l : List Want). want_at l id) pushed ∙ get_or_append_left old (w ∷ []) (record { number = None; literal = Decided false }) id low;
}

-- it has the id that comes next
pub push_there : (old new : List Want) (w : Want) → new ≡ old ++ w ∷ [] → want_at new (length old) ≡ w
push_there old new w pushed = ap (λ (l : List Want). want_at l (length old)) pushed ∙ get_or-append_seam old w [] (record { number = None; literal = Decided false })

-- ids stay such
pub ids_more : (old new : List Want) (ids : List ℕ) → AreMoreWants old new → AreIds old ids → AreIds new ids
ids_more old new [] more are = refl
ids_more old new (id ∷ ids) more are =
    let parts = and_parts (ltb id (length old)) (list_all (λ id. ltb id (length old)) ids) are in
    let low = ltb-true id (length old) parts.0 in
    let long = more.longer in
    and_from (ltb id (length new)) (list_all (λ id. ltb id (length new)) ids) (lt-ltb id (length new) (omega (arith, low, long))) (ids_more old new ids more parts.1)

-- and stand for the same
pub pass_more : (test : Want → Bool) (old new : List Want) (ids : List ℕ) → AreMoreWants old new → AreIds old ids → all_pass test new ids ≡ all_pass test old ids
pass_more test old new [] more are = refl
pass_more test old new (id ∷ ids) more are =
    let parts = and_parts (ltb id (length old)) (list_all (λ id. ltb id (length old)) ids) are in
    ap₂ (λ a b. a && b) (ap test (more.same id (ltb-true id (length old) parts.0))) (pass_more test old new ids more parts.1)

-- one more id
pub ids_push : (wants : List Want) (old new : List ℕ) (id : ℕ) → new ≡ old ++ id ∷ [] → id < length wants → AreIds wants old → AreIds wants new
ids_push wants old new id pushed low are =
    ap (list_all (λ id. ltb id (length wants))) pushed
    ∙ list_all-append (λ id. ltb id (length wants)) old (id ∷ [])
    ∙ ap₂ (λ a b. a && (b && true)) are (lt-ltb id (length wants) low)

-- ## What they stand for

-- wants hold where their literals do, whichever numbers are passed over
pub wants_pass : (n : Needs) (atoms later : Table) (wants : List Want) (ls : List Literal) (words : List ℕ) (skips : Option ℕ → Bool) → IsLater atoms later → AreWants n atoms wants ls
    → list_all (is_met_or skips words) wants ≡ list_all (holds_or n skips (state_of later words)) ls
wants_pass n atoms later wants ls words skips grown are = by wants ls are.numbers (are.met later grown words)
  where
    by : (ws : List Want) (ls : List Literal) → map (λ (w : Want). w.number) ws ≡ map (literal_number n) ls
        → map (λ (w : Want). is_met words w.literal) ws ≡ map (literal_holds (state_of later words)) ls → list_all (is_met_or skips words) ws ≡ list_all (holds_or n skips (state_of later words)) ls
    by [] [] numbers met = refl
    by [] (l ∷ ls) numbers met = absurd cc
    by (w ∷ ws) [] numbers met = absurd cc
    by (w ∷ ws) (l ∷ ls) numbers met =
        let number : w.number ≡ literal_number n l = cc in
        let holds : is_met words w.literal ≡ literal_holds (state_of later words) l = cc in
        let other_numbers : map (λ (w : Want). w.number) ws ≡ map (literal_number n) ls = cc in
        let others_met : map (λ (w : Want). is_met words w.literal) ws ≡ map (literal_holds (state_of later words)) ls = cc in
        ap₂ (λ a b. a && b) (ap₂ (λ k b. skips k || b) number holds) (by ws ls other_numbers others_met)

-- they stay right as more wants get ids
pub listed_more : (n : Needs) (atoms : Table) (old new : List Want) (ids : List ℕ) (ls : List Literal) → AreMoreWants old new → AreListed n atoms old ids ls → AreListed n atoms new ids ls
listed_more n atoms old new ids ls more are = record {
  have = ids_more old new ids more are.have;
  met = λ later grown words skips. pass_more (is_met_or skips words) old new ids more are.have ∙ are.met later grown words skips;
}

-- those of wants
pub listed_wants : (n : Needs) (atoms : Table) (table : List Want) (ids : List ℕ) (wants : List Want) (ls : List Literal) → AreIds table ids
    → ((test : Want → Bool) → all_pass test table ids ≡ list_all test wants) → AreWants n atoms wants ls → AreListed n atoms table ids ls
listed_wants n atoms table ids wants ls are passes of_them = record {
  have = are;
  met = λ later grown words skips. passes (is_met_or skips words) ∙ wants_pass n atoms later wants ls words skips grown of_them;
}

-- where they are right the compiled ones are
pub listed_compiled : (n : Needs) (atoms : Table) (wants : List Want) (ids : List ℕ) (ls : List Literal) (c : CompiledLiterals)
    → ((words : List ℕ) → all_hold words c ≡ all_pass (λ (w : Want). is_met words w.literal) wants ids) → AreListed n atoms wants ids ls → AreCompiled atoms c ls
listed_compiled n atoms wants ids ls c holds are = λ later grown words. holds words ∙ are.met later grown words (λ number. false)

-- whether a want's literal is given by a row, by its id
abbrev pub is_given_id : Needs → Node → List Want → ℕ → Bool
is_given_id n node wants id = gives_by (row_at n node.place.spot) (want_at wants id).number

-- those that a row doesn't give, behind some that stand for others
pub listed_join : (n : Needs) (atoms : Table) (wants : List Want) (gives : Option ℕ → Bool) (own rest ids : List ℕ) (mine ls : List Literal)
    → ((test : ℕ → Bool) → list_all test ids ≡ (list_all test own && list_all (λ id. gives (want_at wants id).number || test id) rest))
    → AreListed n atoms wants own mine → AreListed n atoms wants rest ls → AreListed n atoms wants ids (mine ++ filter (λ l. not (gives (literal_number n l))) ls)
listed_join n atoms wants gives own rest ids mine ls joined first others = record {
  have =
      joined (λ id. ltb id (length wants))
      ∙ ap₂ (λ a b. a && b) first.have (all_either (λ id. gives (want_at wants id).number) (λ id. ltb id (length wants)) rest others.have);
  met = λ later grown words skips.
      (let s = state_of later words in
      joined (λ id. is_met_or skips words (want_at wants id))
      ∙ ap₂ (λ a b. a && b) (first.met later grown words skips)
      (all_same (λ id. gives (want_at wants id).number || is_met_or skips words (want_at wants id)) (λ id. is_met_or (λ k. gives k || skips k) words (want_at wants id)) rest
      (λ id. sym (or_assoc (gives (want_at wants id).number) (skips (want_at wants id).number) (is_met words (want_at wants id).literal)))
      ∙ others.met later grown words (λ k. gives k || skips k)
      ∙ all_same (holds_or n (λ k. gives k || skips k) s) (λ l. gives (literal_number n l) || holds_or n skips s l) ls
      (λ l. or_assoc (gives (literal_number n l)) (skips (literal_number n l)) (literal_holds s l))
      ∙ sym (all_undropped (λ l. gives (literal_number n l)) (holds_or n skips s) ls))
      ∙ sym (list_all-append (holds_or n skips s) mine (filter (λ l. not (gives (literal_number n l))) ls)));
}

-- ## Chains

-- all that a chain needs, by what it needs without its first node
pub chain_needs : (o : Outlook) (goal : List Literal) (x : Child) (n : Network) → IsChain n → all_needed o goal (led_by x n) ≡ o.wants x ++ not_given_by o x (all_needed o goal n)
chain_needs o goal x n chained =
    let needs = chains_need o goal x n chained in
    ap₂ (λ k l. k ++ l) needs.nodes needs.goals
    ∙ append_assoc (o.wants x) (not_given_by o x (needed o n)) (not_given_by o x (needed_goal o goal n))
    ∙ ap (λ l. o.wants x ++ l) (sym (filter-append (λ l. not (o.gives x l)) (needed o n) (needed_goal o goal n)))

-- what a node before a chain leaves of its needs, with its own
pub listed_before : (p : Prospects) (goal : List Literal) (atoms : Table) (wants : List Want) (node : Node) (x : Child) (n : Network) (own rest ids : List ℕ) → IsNode p atoms node x → IsChain n
    → ((test : ℕ → Bool) → list_all test ids ≡ (list_all test own && list_all (λ id. is_given_id p.needs node wants id || test id) rest))
    → AreListed p.needs atoms wants own (wants_by (row_of p.needs x)) → AreListed p.needs atoms wants rest (all_needed (outlook_by p) goal n)
    → AreListed p.needs atoms wants ids (all_needed (outlook_by p) goal (led_by x n))
listed_before p goal atoms wants node x n own rest ids is chained joined first others =
    let o = outlook_by p in
    subst (AreListed p.needs atoms wants ids) (sym (chain_needs o goal x n chained))
    (listed_join p.needs atoms wants (gives_by (row_of p.needs x)) own rest ids (o.wants x) (all_needed o goal n)
    (λ test. joined test ∙ ap (λ r. list_all test own && list_all (λ id. gives_by r (want_at wants id).number || test id) rest) is.row) first others)

-- what is right by ids is right
pub listed_kept : (p : Prospects) (goal : List Literal) (atoms : Table) (wants : List Want) (n : Network) (c : CompiledLiterals) (ids : List ℕ) → has_blocked (outlook_by p) n ≡ false
    → ((words : List ℕ) → all_hold words c ≡ all_pass (λ (w : Want). is_met words w.literal) wants ids) → AreListed p.needs atoms wants ids (all_needed (outlook_by p) goal n)
    → IsListed p goal atoms wants n (Some c) ids
listed_kept p goal atoms wants n c ids free holds are = ((free, listed_compiled p.needs atoms wants ids (all_needed (outlook_by p) goal n) c holds are), are)

module _ (p : Prospects) (goal : List Literal) (atoms : Table) (x : Child) (n : Network) where
  -- a chain with a node that never ends doesn't either
  pub first_blocked : (node : Node) → IsNode p atoms node x → node.is_lost ≡ true → has_blocked (outlook_by p) (led_by x n) ≡ true
  first_blocked node is lost = ap (λ b. b || has_blocked (outlook_by p) n) (sym is.lost ∙ lost)

  -- nor does one with others that don't
  pub rest_blocked : (wants : List Want) (known : Option CompiledLiterals) (rest : List ℕ) → is_some known ≡ false → IsListed p goal atoms wants n known rest
      → has_blocked (outlook_by p) (led_by x n) ≡ true
  rest_blocked wants None rest none blocked = ap (λ b. (outlook_by p).is_blocked x || b) blocked ∙ or_passed ((outlook_by p).is_blocked x)
  rest_blocked wants (Some c) rest none blocked = absurd cc

  -- one whose first node ends, as all others do, is right where the ids are
  pub listed_led : (old new : List Want) (node : Node) (known : Option CompiledLiterals) (rest : List ℕ) (c : CompiledLiterals) (ids : List ℕ) → IsNode p atoms node x → node.is_lost ≡ false
      → is_some known ≡ true → IsListed p goal atoms old n known rest
      → (AreListed p.needs atoms old rest (all_needed (outlook_by p) goal n) → AreListed p.needs atoms new ids (all_needed (outlook_by p) goal (led_by x n)))
      → ((words : List ℕ) → all_hold words c ≡ all_pass (λ (w : Want). is_met words w.literal) new ids) → IsListed p goal atoms new (led_by x n) (Some c) ids
  listed_led old new node None rest c ids is ends there kept before holds = absurd cc
  listed_led old new node (Some k) rest c ids is ends there kept before holds =
      listed_kept p goal atoms new (led_by x n) c ids (ap₂ (λ a b. a || b) (sym is.lost ∙ ends) kept.0.0) holds (before kept.1)

-- a network without nodes needs all of the goal
pub end_needs : (o : Outlook) (goal : List Literal) (n : Network) → n.children ≡ [] → all_needed o goal n ≡ goal
end_needs o goal n none =
    ap (λ (cs : List Child). all_needed o goal (record { children = cs; order = n.order })) none ∙ filter_all (λ l. true) goal (λ l. refl)

-- and none of its nodes never ends
pub end_free : (o : Outlook) (n : Network) → n.children ≡ [] → has_blocked o n ≡ false
end_free o n none = ap (list_any o.is_blocked) none

-- what is right stays so by later tables of atoms and as more wants get ids
pub listed_grown : (p : Prospects) (goal : List Literal) (atoms later : Table) (old new : List Want) (n : Network) (needed : Option CompiledLiterals) (ids : List ℕ) → IsLater atoms later
    → AreMoreWants old new → IsListed p goal atoms old n needed ids → IsListed p goal later new n needed ids
listed_grown p goal atoms later old new n None ids grown more right = right
listed_grown p goal atoms later old new n (Some c) ids grown more right = (
  kept_later (outlook_by p) goal atoms later n (Some c) grown right.0,
  listed_more p.needs later old new ids (all_needed (outlook_by p) goal n) more (record {
    have = right.1.have;
    met = λ after further words skips. right.1.met after (later_more atoms later after grown further) words skips;
  }),
)

-- ## One id after another

-- what passes with some passes with the others
pub and_swapped : (o t a b : Bool) → (o && a) ≡ (o && b) → (o && (t && a)) ≡ (o && (t && b))
and_swapped true t a b same = ap (λ x. t && x) same
and_swapped false t a b same = refl

-- what is asked already counts once
pub asked_once : (o t b : Bool) → o ≡ (o && t) → (o && b) ≡ (o && (t && b))
asked_once true t b asked = ap (λ x. x && b) asked
asked_once false t b asked = refl

-- an id that is one of some passes where they do
among_passes : (test : ℕ → Bool) (ids : List ℕ) (id : ℕ) → is_in ids id ≡ true → list_all test ids ≡ true → test id ≡ true
among_passes test [] id among all = absurd cc
among_passes test (other ∷ ids) id among all =
    let parts = and_parts (test other) (list_all test ids) all in
    elim (cases_Bool (eqb other id)) [
      | inl same ↦ ap test (sym (eqb-true other id same)) ∙ parts.0
      | inr differs ↦ among_passes test ids id (sym (ap (λ b. b || is_in ids id) differs) ∙ among) parts.1
    ]

-- so it is asked with them
asked_among : (test : ℕ → Bool) (own : List ℕ) (id : ℕ) → is_in own id ≡ true → list_all test own ≡ (list_all test own && test id)
asked_among test own id among = and_passed (list_all test own) (test id) (among_passes test own id among)

-- what is asked of those that are left is asked of all that aren't given
pub left_pass : (test gives : ℕ → Bool) (own ids : List ℕ)
    → (list_all test own && list_all test (filter (λ id. not (gives id) && not (is_in own id)) ids)) ≡ (list_all test own && list_all (λ id. gives id || test id) ids)
left_pass test gives own [] = refl
left_pass test gives own (id ∷ ids) = by (gives id) (is_in own id) (filter (λ id. not (gives id) && not (is_in own id)) ids) (list_all (λ id. gives id || test id) ids) refl (left_pass test gives own ids)
  where
    by : (g i : Bool) (left : List ℕ) (others : Bool) → is_in own id ≡ i → (list_all test own && list_all test left) ≡ (list_all test own && others)
        → (list_all test own && list_all test (cond (not g && not i) (id ∷ left) left)) ≡ (list_all test own && ((g || test id) && others))
    by true i left others among same = same
    by false true left others among same = same ∙ asked_once (list_all test own) (test id) others (asked_among test own id among)
    by false false left others among same = and_swapped (list_all test own) (test id) (list_all test left) others same

-- one more
pub all_push : (test : ℕ → Bool) (old new : List ℕ) (id : ℕ) → new ≡ old ++ id ∷ [] → list_all test new ≡ (list_all test old && test id)
all_push test old new id pushed = ap (list_all test) pushed ∙ list_all-append test old (id ∷ []) ∙ ap (λ b. list_all test old && b) (and_true (test id))
  where
    and_true : (b : Bool) → (b && true) ≡ b
    and_true true = refl
    and_true false = refl

-- ## One network after another

-- the lists of ids
abbrev pub lists_of : NeedsTable → List (List ℕ)
lists_of t = map (λ ids. ids.items) t.lists.items

-- as many as there are
lists_count : (t : NeedsTable) → length (lists_of t) ≡ length t.lists.items
lists_count t = length-map t.lists.items (λ ids. ids.items)

-- what stands at a number stays there as more is put behind
listed_before_push : (p : Prospects) (atoms : Table) (n : Network) (old new : NeedsTable) (number : ℕ) (needed : Option CompiledLiterals) (ids : List ℕ) → number < length old.needs.items
    → length old.lists.items ≡ length old.needs.items → new.goal ≡ old.goal → AreMoreWants old.wanted.wants.items new.wanted.wants.items → IsTable atoms
    → new.needs.items ≡ old.needs.items ++ needed ∷ [] → lists_of new ≡ lists_of old ++ ids ∷ [] → IsListedAt p atoms old number n → IsListedAt p atoms new number n
listed_before_push p atoms n old new number needed ids low as_many goal more table needs lists right =
    let count = lists_count old in
    let low_too : number < length (lists_of old) = omega (arith, count, as_many, low) in
    subst (λ (g : List Literal). IsListed p g atoms new.wanted.wants.items n (get_or new.needs.items number None) (list_at new number)) (sym goal)
    (subst (λ (d : Option CompiledLiterals). IsListed p old.goal atoms new.wanted.wants.items n d (list_at new number))
    (sym (ap (λ (l : List (Option CompiledLiterals)). get_or l number None) needs ∙ get_or_append_left old.needs.items (needed ∷ []) None number low))
    (subst (IsListed p old.goal atoms new.wanted.wants.items n (get_or old.needs.items number None))
    (sym (ap (λ (l : List (List ℕ)). get_or l number []) lists ∙ get_or_append_left (lists_of old) (ids ∷ []) [] number low_too))
    (listed_grown p old.goal atoms atoms old.wanted.wants.items new.wanted.wants.items n (get_or old.needs.items number None) (list_at old number) (later_itself atoms table) more right)))

-- what is put behind stands at the next number
listed_push : (p : Prospects) (atoms : Table) (n : Network) (old new : NeedsTable) (needed : Option CompiledLiterals) (ids : List ℕ) → length old.lists.items ≡ length old.needs.items
    → new.needs.items ≡ old.needs.items ++ needed ∷ [] → lists_of new ≡ lists_of old ++ ids ∷ [] → IsListed p new.goal atoms new.wanted.wants.items n needed ids
    → IsListedAt p atoms new (length old.needs.items) n
listed_push p atoms n old new needed ids as_many needs lists right =
    let here : list_at new (length old.needs.items) ≡ ids =
    ap (λ (l : List (List ℕ)). get_or l (length old.needs.items) []) lists
    ∙ ap (λ k. get_or (lists_of old ++ ids ∷ []) k []) (sym (lists_count old ∙ as_many))
    ∙ get_or-append_seam (lists_of old) ids [] [] in
    subst (λ (d : Option CompiledLiterals). IsListed p new.goal atoms new.wanted.wants.items n d (list_at new (length old.needs.items)))
    (sym (ap (λ (l : List (Option CompiledLiterals)). get_or l (length old.needs.items) None) needs ∙ get_or-append_seam old.needs.items needed [] None))
    (subst (IsListed p new.goal atoms new.wanted.wants.items n needed) (sym here) right)

-- with one more network, those of the first ones that a test tells are right
pub chains_push : (p : Prospects) (atoms : Table) (is_chain : ℕ → Bool) (network : ℕ → Network) (old new : NeedsTable) (needed : Option CompiledLiterals) (ids : List ℕ) → IsTable atoms → new.goal ≡ old.goal
    → AreMoreWants old.wanted.wants.items new.wanted.wants.items → new.needs.items ≡ old.needs.items ++ needed ∷ [] → lists_of new ≡ lists_of old ++ ids ∷ []
    → (is_chain (length old.needs.items) ≡ true → IsListed p new.goal atoms new.wanted.wants.items (network (length old.needs.items)) needed ids)
    → AreChainsListed p atoms is_chain network old → AreChainsListed p atoms is_chain network new
chains_push p atoms is_chain network old new needed ids table goal more needs lists here are = record {
  as_many =
      (let before = lists_count old in
      let after = lists_count new in
      let long = ap length lists ∙ length-append (lists_of old) (ids ∷ []) in
      let long_too = ap length needs ∙ length-append old.needs.items (needed ∷ []) in
      let same = are.as_many in
      omega (arith, before, after, long, long_too, same));
  each = λ number low chained. elim (cases_lt number (length old.needs.items)) [
    | inl before ↦ listed_before_push p atoms (network number) old new number needed ids before are.as_many goal more table needs lists (are.each number before chained)
    | inr past ↦
        (let long = ap length needs ∙ length-append old.needs.items (needed ∷ []) in
        let last : length old.needs.items ≡ number = omega (arith, long, low, past) in
        subst (λ k. IsListedAt p atoms new k (network number)) last
        (listed_push p atoms (network number) old new needed ids are.as_many needs lists
        (subst (λ k. IsListed p new.goal atoms new.wanted.wants.items (network k) needed ids) last (here (ap is_chain last ∙ chained)))))
  ];
}

-- they stay right by later tables of atoms and as more networks get numbers
pub chains_later : (p : Prospects) (atoms later : Table) (was is_chain : ℕ → Bool) (old new : ℕ → Network) (t : NeedsTable) → IsLater atoms later
    → ((number : ℕ) → number < length t.needs.items → (is_chain number ≡ was number) × (new number ≡ old number)) → AreChainsListed p atoms was old t → AreChainsListed p later is_chain new t
chains_later p atoms later was is_chain old new t grown same are = record {
  as_many = are.as_many;
  each = λ number low chained.
      (let stays = same number low in
      let wants = t.wanted.wants.items in
      subst (IsListedAt p later t number) (sym stays.1)
      (listed_grown p t.goal atoms later wants wants (old number) (get_or t.needs.items number None) (list_at t number) grown (more_itself wants) (are.each number low (sym stays.0 ∙ chained))));
}
