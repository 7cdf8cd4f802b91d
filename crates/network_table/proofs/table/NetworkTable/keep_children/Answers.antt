use Rattle.std.proofs.Common.{◌≡◌, ◌∙◌, ◌<◌, ◌+◌, ◌++◌, ◌∷◌, [], ℕ, suc, List, length, take, get_or, refl, sym, ap, subst, arith}
use Rattle.std.proofs.Math.Seq.{take-suc}
use Rattle.std.proofs.lemmas.List.{map_push, take_all}
use Rattle.std.proofs.lemmas.List.Elements.{All-nil}
use Rattle.htn_ground.specs.Views.{child_view, children_of}
use Rattle.htn_ground.specs.declared.child.Child.{Child as Node}
use Rattle.network_table.specs.Children.{AreNumbers, IsNumber, numbered_children}
use Rattle.network_table.proofs.Expanding.{grown_itself}
use Rattle.network_table.proofs.Growing.{bound_at, grown_then, numbers_next}
use Rattle.network_table.proofs.table.NetworkTable.keep_children.Goals as goal

pub loop-place-init : goal.loop-place-init
loop-place-init c =
    let t = c.args.self.now in record {
      whole = c.requires.whole;
      grown = grown_itself t;
      numbers = subst (λ ids. AreNumbers t.children ids []) (sym c.in_ok-ids.ensures.items) (All-nil (λ id. id < length (numbered_children t.children)), refl);
      bounds = λ measure given old. old;
      sound = λ live old. old;
      remembered = λ n. refl;
    }

pub keep_child-requires : goal.keep_child-requires
keep_child-requires c = c.loop-place.invariant.whole

pub loop-place-preserved : goal.loop-place-preserved
loop-place-preserved c =
    let s = c.args.self.now in
    let t = c.loop-place.self in
    let u = c.keep_child.new.self in
    let i = c.loop-place.invariant in
    let nodes = c.args.nodes.now in
    let k = c.loop-place.place in
    let node = c.index-nodes-place.result in
    let id = c.in_ok-keep_child.field-0 in
    let number : IsNumber u.children id (child_view node) = subst (λ x. IsNumber u.children id (child_view x)) c.in_ok-clone.ensures.cases c.in_ok-keep_child.ensures.number in
    let longer : children_of (take (k + 1) nodes) ≡ children_of (take k nodes) ++ child_view node ∷ [] =
    (let e : k + 1 ≡ suc k = omega arith in
    ap (λ j. children_of (take j nodes)) e ∙ ap children_of (take-suc nodes k node c.loop-place-test.true) ∙ map_push child_view (take k nodes) (get_or nodes k node)
    ∙ ap (λ x. children_of (take k nodes) ++ child_view x ∷ []) (sym c.index-nodes-place.is)) in record {
      whole = c.in_ok-keep_child.ensures.whole;
      grown = grown_then s t u i.grown c.in_ok-keep_child.ensures.grown;
      numbers = subst (λ ids. AreNumbers u.children ids (children_of (take (k + 1) nodes))) (sym {A = List ℕ} c.in_ok-push.ensures.items)
          (subst (λ l. AreNumbers u.children (c.loop-place.ids.items ++ id ∷ []) l) (sym longer)
          (numbers_next t.children u.children c.in_ok-keep_child.ensures.grown.children c.loop-place.ids.items (children_of (take k nodes)) id (child_view node) i.numbers number));
      bounds = λ measure given old. c.in_ok-keep_child.ensures.bounds measure
          (ap (λ x. measure (child_view x)) c.in_ok-clone.ensures.cases ∙ bound_at measure nodes c.args.bounds.now k node given c.loop-place-test.true c.index-nodes-place.is)
          (i.bounds measure given old);
      sound = λ live old. c.in_ok-keep_child.ensures.sound live (i.sound live old);
      remembered = λ n. c.in_ok-keep_child.ensures.remembered n ∙ i.remembered n;
    }

pub returns-clause-whole : goal.returns-clause-whole
returns-clause-whole c = c.loop-place.invariant.whole

pub returns-clause-grown : goal.returns-clause-grown
returns-clause-grown c = c.loop-place.invariant.grown

pub returns-clause-numbers : goal.returns-clause-numbers
returns-clause-numbers c =
    let all : take c.loop-place.place c.args.nodes.now ≡ c.args.nodes.now = take_all c.loop-place.place c.args.nodes.now (omega (arith, c.loop-place-test.false)) in
    subst (λ (l : List Node). AreNumbers c.loop-place.self.children c.loop-place.ids.items (children_of l)) all c.loop-place.invariant.numbers

pub returns-clause-bounds : goal.returns-clause-bounds
returns-clause-bounds c = c.loop-place.invariant.bounds

pub returns-clause-sound : goal.returns-clause-sound
returns-clause-sound c = c.loop-place.invariant.sound

pub returns-clause-remembered : goal.returns-clause-remembered
returns-clause-remembered c = c.loop-place.invariant.remembered
