-- What is found once for nodes and a goal stays right, and is read for each network.
use Rattle.std.proofs.Common.{◌≡◌, ℕ, suc, ◌+◌, ◌<◌, ◌≤◌, Bool, List, [], ◌∷◌, ◌++◌, inl, inr, length, get_or, map, take, Option, None, false, slice_get, refl, sym, ap, ap₂, ◌∙◌, subst, arith, length-append}
use Rattle.std.proofs.Math.Seq.{take-suc}
use Rattle.std.proofs.lemmas.List.{get_or-map, length-map, map_push, take_all}
use Rattle.std.proofs.lemmas.Option.{none-some, slice_get_read, slice_get_within}
use Rattle.htn_ground.specs.Views.{child_view}
use Rattle.htn_model.specs.Choice.{child_of}
use Rattle.htn_model.specs.Literal.{Literal, literal_holds}
use Rattle.htn_model.specs.Problem.{Child, precondition}
use Rattle.htn_task.specs.Literals.{literal_of, literals_of}
use Rattle.htn_task.specs.declared.literal.Literal.{Literal as Written}
use Rattle.heuristics.specs.Rows.{literal_number, row_of, wants_by}
use Rattle.heuristics.specs.declared.needs.Needs.{Needs}
use Rattle.network_table.specs.Networks.{children, IsGrown}
use Rattle.network_table.specs.declared.table.NetworkTable.{NetworkTable}
use Rattle.network_table.proofs.Growing.{child_kept}
use Rattle.state_table.specs.Compiled.{IsCompiledLiteral, is_met}
use Rattle.state_table.specs.Table.{IsLater, state_of, Table}
use Rattle.state_table.specs.declared.literal.CompiledLiteral.TheVariants.{Decided}
use Rattle.state_table.proofs.Keys.{at_push}
use Rattle.state_table.proofs.States.{later_more}
use Rattle.heuristics.specs.StoredNeeds.{AreFirstWants, AreNodes, AreWants, IsNode}
use Rattle.htn_model.specs.Problem.{order_eq}
use Rattle.htn_order.specs.Shapes.{chain}
use Rattle.network_table.specs.Networks.{IsWhole, network_at}
use Rattle.network_table.specs.Numbered.{Numbered}
use Rattle.network_table.proofs.Growing.{numbers_stay}
use Rattle.network_table.proofs.Remembering.{keeps_grown}
use Rattle.heuristics.specs.ListedNeeds.{AreChainsOf, AreNoted, chain_at}
use Rattle.heuristics.proofs.ListedNeeds.{chains_later}
use Rattle.heuristics.specs.declared.node.Node.{Node}
use Rattle.heuristics.specs.declared.prospects.Prospects.{Prospects}
use Rattle.heuristics.specs.declared.needs_table.NeedsTable.{NeedsTable}
use Rattle.heuristics.specs.declared.wants.Want.{Want}

-- ## Wanted literals

-- what stands for one past the end of a list
abbrev pub some_want : Want
some_want = record { number = None; literal = Decided false }

-- they are right by later tables of atoms
pub wants_later : (n : Needs) (atoms later : Table) (wants : List Want) (literals : List Literal) → IsLater atoms later → AreWants n atoms wants literals → AreWants n later wants literals
wants_later n atoms later wants literals grown are = record {
  numbers = are.numbers;
  met = λ after more words. are.met after (later_more atoms later after grown more) words;
}

-- none of nothing
nothing_taken : (literals : List Literal) → take 0 literals ≡ []
nothing_taken [] = refl
nothing_taken (l ∷ literals) = refl

-- none are the first ones of any
pub wants_none : (n : Needs) (atoms : Table) (wants : List Want) (literals : List Literal) → wants ≡ [] → AreFirstWants n atoms wants literals
wants_none n atoms wants literals none =
    subst (λ (ws : List Want). AreFirstWants n atoms ws literals) (sym none)
    (subst (AreWants n atoms []) (sym (nothing_taken literals)) (record { numbers = refl; met = λ later grown words. refl }))

-- what is made of one more, on both sides
mapped_push : {Y : Type 0} (f : Want → Y) (g : Literal → Y) (old new : List Want) (w : Want) (ls : List Literal) (l : Literal) → new ≡ old ++ w ∷ [] → f w ≡ g l → map f old ≡ map g ls → map f new ≡ map g (ls ++ l ∷ [])
mapped_push f g old new w ls l pushed same before =
    ap (map f) pushed ∙ map_push f old w ∙ ap₂ (λ k x. k ++ x ∷ []) before same ∙ sym (map_push g ls l)

-- one more of the written literals
literals_more : (xs : List Written) (i : ℕ) (x : Written) → i < length xs → x ≡ get_or xs i x → literals_of (take (i + 1) xs) ≡ literals_of (take i xs) ++ literal_of x ∷ []
literals_more xs i x low is =
    let e : i + 1 ≡ suc i = omega arith in
    ap (λ (j : ℕ). literals_of (take j xs)) e
    ∙ ap literals_of (take-suc xs i x low)
    ∙ map_push literal_of (take i xs) (get_or xs i x)
    ∙ ap (λ (y : Written). literals_of (take i xs) ++ literal_of y ∷ []) (sym is)

-- one more wanted literal
pub wants_push : (n : Needs) (atoms : Table) (old new : List Want) (w : Want) (xs : List Written) (i : ℕ) (x : Written) → i < length xs → x ≡ get_or xs i x → new ≡ old ++ w ∷ []
    → w.number ≡ literal_number n (literal_of x) → IsCompiledLiteral atoms w.literal (literal_of x) → AreWants n atoms old (literals_of (take i xs)) → AreWants n atoms new (literals_of (take (i + 1) xs))
wants_push n atoms old new w xs i x low is pushed number compiled are =
    let ls = literals_of (take i xs) in
    let l = literal_of x in
    subst (AreWants n atoms new) (sym (literals_more xs i x low is)) (record {
      numbers = mapped_push (λ (v : Want). v.number) (literal_number n) old new w ls l pushed number are.numbers;
      met = λ later grown words.
          mapped_push (λ (v : Want). is_met words v.literal) (literal_holds (state_of later words)) old new w ls l pushed (compiled later grown words) (are.met later grown words);
    })

module _ (n : Needs) (atoms : Table) (wants : List Want) (literals : List Literal) (are : AreWants n atoms wants literals) where
  -- there are as many
  pub wants_count : length wants ≡ length literals
  wants_count = sym (length-map wants (λ (w : Want). w.number)) ∙ ap length are.numbers ∙ length-map literals (literal_number n)

  module _ (i : ℕ) (w : Want) (l : Literal) (low : i < length wants) where
    -- one of them has the number of its literal
    pub want_number : (get_or wants i w).number ≡ literal_number n (get_or literals i l)
    want_number =
        let count = wants_count in
        let low_too : i < length literals = omega (arith, count, low) in
        let d = literal_number n (get_or literals i l) in
        sym (get_or-map (λ (v : Want). v.number) wants i w d low)
        ∙ ap (λ (k : List (Option ℕ)). get_or k i d) are.numbers
        ∙ get_or-map (literal_number n) literals i l d low_too

    -- and holds where it does
    pub want_met : (later : Table) → IsLater atoms later → (words : List ℕ) → is_met words (get_or wants i w).literal ≡ literal_holds (state_of later words) (get_or literals i l)
    want_met later grown words =
        let count = wants_count in
        let low_too : i < length literals = omega (arith, count, low) in
        let d = literal_holds (state_of later words) (get_or literals i l) in
        sym (get_or-map (λ (v : Want). is_met words v.literal) wants i w d low)
        ∙ ap (λ (k : List Bool). get_or k i d) (are.met later grown words)
        ∙ get_or-map (literal_holds (state_of later words)) literals i l d low_too

-- where there are enough of the first ones they are all
pub all_wants : (n : Needs) (atoms : Table) (wants : List Want) (literals : List Literal) → length literals ≤ length wants → AreFirstWants n atoms wants literals → AreWants n atoms wants literals
all_wants n atoms wants literals enough are = subst (AreWants n atoms wants) (take_all (length wants) literals enough) are

-- and all are the first ones
pub first_wants : (n : Needs) (atoms : Table) (wants : List Want) (literals : List Literal) → AreWants n atoms wants literals → AreFirstWants n atoms wants literals
first_wants n atoms wants literals are =
    let count = wants_count n atoms wants literals are in
    subst (AreWants n atoms wants) (sym (take_all (length wants) literals (omega (arith, count)))) are

-- ## Nodes

-- what is known of a node is right by later tables
node_later : (p : Prospects) (atoms later : Table) (node : Node) (x : Child) → IsLater atoms later → IsNode p atoms node x → IsNode p later node x
node_later p atoms later node x grown is = record {
  row = is.row;
  blocked = is.blocked;
  lost = is.lost;
  wants = wants_later p.needs atoms later node.wants.items (wants_by (row_of p.needs x)) grown is.wants;
}

-- no fewer nodes have numbers
longer : (old new : NetworkTable) → IsGrown old new → length (children old) ≤ length (children new)
longer old new grown =
    let old_len = length-map old.children.children.keys child_view in
    let new_len = length-map new.children.children.keys child_view in
    let kept = ap length grown.children.children in
    let long = length-append old.children.children.keys grown.children.more in
    omega (arith, old_len, new_len, kept, long)

-- so is what is known of the first ones, as more get numbers
pub nodes_later : (p : Prospects) (atoms later : Table) (old new : NetworkTable) (nodes : List Node) → IsLater atoms later → IsGrown old new → AreNodes p atoms old nodes → AreNodes p later new nodes
nodes_later p atoms later old new nodes grown networks are = record {
  within = (let more = longer old new networks in let low = are.within in omega (arith, more, low));
  each = λ id node at.
      (let inside = slice_get_within nodes id node at in
      let low = are.within in
      let known : id < length (children old) = omega (arith, inside, low) in
      subst (IsNode p later node) (sym (child_kept old.children new.children networks.children id known))
      (node_later p atoms later node (child_of (children old) id) grown (are.each id node at)));
}

-- the same by more atoms
pub nodes_more_atoms : (p : Prospects) (atoms later : Table) (networks : NetworkTable) (nodes : List Node) → IsLater atoms later → AreNodes p atoms networks nodes → AreNodes p later networks nodes
nodes_more_atoms p atoms later networks nodes grown are = record {
  within = are.within;
  each = λ id node at. node_later p atoms later node (child_of (children networks) id) grown (are.each id node at);
}

-- one more node
pub nodes_push : (p : Prospects) (atoms later : Table) (networks : NetworkTable) (old new : List Node) (node : Node) → IsLater atoms later → length old < length (children networks)
    → IsNode p later node (child_of (children networks) (length old)) → new ≡ old ++ node ∷ [] → AreNodes p atoms networks old → AreNodes p later networks new
nodes_push p atoms later networks old new node grown low right pushed are = record {
  within = (let long = length-append old (node ∷ []) in let is = ap length pushed in omega (arith, low, long, is));
  each = λ id other at. elim (at_push old node id other (sym (ap (λ l. slice_get l id) pushed) ∙ at)) [
    | inl before ↦ node_later p atoms later other (child_of (children networks) id) grown (are.each id other before)
    | inr here ↦ subst (λ k. IsNode p later other (child_of (children networks) k)) (sym here.0)
        (subst (λ (x : Node). IsNode p later x (child_of (children networks) (length old))) here.1 right)
  ];
}

-- of no node nothing is known
pub nodes_none : (p : Prospects) (atoms : Table) (networks : NetworkTable) (nodes : List Node) → nodes ≡ [] → AreNodes p atoms networks nodes
nodes_none p atoms networks nodes none = record {
  within = (let is = ap length none in omega (arith, is));
  each = λ id node at. absurd (none-some node (sym (ap (λ l. slice_get l id) none) ∙ at));
}

-- what stands at a number is known of its node
pub node_at : (p : Prospects) (atoms : Table) (networks : NetworkTable) (nodes : List Node) (id : ℕ) (node : Node) → id < length nodes → node ≡ get_or nodes id node → AreNodes p atoms networks nodes
    → IsNode p atoms node (child_of (children networks) id)
node_at p atoms networks nodes id node low read are = are.each id node (slice_get_read nodes (length nodes) id node refl low read)

-- the node at a position of a network is that of its number
pub child_there : (networks : NetworkTable) (ids : List ℕ) (at d : ℕ) → at < length ids → child_of (map (child_of (children networks)) ids) at ≡ child_of (children networks) (get_or ids at d)
child_there networks ids at d low = get_or-map (child_of (children networks)) ids at d (precondition []) low

-- ## All

-- what chains need by ids stays right by later tables
pub chains_grown : (p : Prospects) (atoms later : Table) (old new : NetworkTable) (t : NeedsTable) → IsLater atoms later → IsWhole old → IsGrown old new → length t.needs.items ≤ length old.networks
    → AreChainsOf p atoms old t → AreChainsOf p later new t
chains_grown p atoms later old new t grown whole networks within chains =
    chains_later p atoms later (chain_at old) (chain_at new) (network_at old) (network_at new) t grown (λ number low.
    let known : number < length old.networks = omega (arith, within, low) in (
      ap (λ (m : Numbered). order_eq m.order (chain (length m.nodes))) (keeps_grown old new networks number known).1,
      (numbers_stay old new number whole networks known).1,
    )) chains

-- it is right by later tables
pub noted_later : (p : Prospects) (atoms later : Table) (old new : NetworkTable) (t : NeedsTable) → IsLater atoms later → IsWhole old → IsGrown old new → length t.needs.items ≤ length old.networks
    → AreNoted p atoms old t → AreNoted p later new t
noted_later p atoms later old new t grown whole networks within noted = record {
  nodes = nodes_later p atoms later old new t.nodes.items grown networks noted.nodes;
  goals = wants_later p.needs atoms later t.goals.items (take (length t.goals.items) t.goal) grown noted.goals;
  chains = chains_grown p atoms later old new t grown whole networks within noted.chains;
}

-- at first there is nothing of it
pub noted_none : (p : Prospects) (atoms : Table) (networks : NetworkTable) (t : NeedsTable) → t.nodes.items ≡ [] → t.goals.items ≡ [] → t.needs.items ≡ [] → t.lists.items ≡ [] → AreNoted p atoms networks t
noted_none p atoms networks t nodes goals needs lists = record {
  nodes = nodes_none p atoms networks t.nodes.items nodes;
  goals = wants_none p.needs atoms t.goals.items t.goal goals;
  chains = record {
    as_many = ap length lists ∙ sym (ap length needs);
    each = λ number low. (let none = ap length needs in absurd (omega (arith, low, none)));
  };
}
