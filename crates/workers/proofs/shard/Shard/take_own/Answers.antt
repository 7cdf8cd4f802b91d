use Rattle.std.proofs.Common.{◌≡◌, ◌+◌, Bool, true, nat_eq, List, [], ◌∷◌, ◌++◌, length, take, get_or, if◌then◌else◌, ap, sym, subst, ◌∙◌}
use Rattle.std.specs.Cmp.{IsEquivalence}
use Rattle.std.proofs.lemmas.List.{append-nil, take_all, take_more}
use Rattle.indexmap.specs.IndexSet.{insert_key}
use Rattle.workers.specs.Shards.{HasTaken, home}
use Rattle.workers.proofs.Taking.{grown_by, later, taken_more, taken_none, took}
use Rattle.workers.proofs.shard.Shard.take_own.Given as given
use Rattle.workers.proofs.shard.Shard.take_own.Goals as goal

-- equality is one
laws : (g : given.Over) → IsEquivalence g.T.PartialEq.eq
laws g = g.met.T.Eq.laws

-- equal values are fed alike
alike : (g : given.Over) (x y : g.row.T.Denot) → g.T.PartialEq.eq x y ≡ true → g.T.Hash.hash_input x ≡ g.T.Hash.hash_input y
alike g = g.met.T.Hash.respects_eq

pub loop-value-init : goal.loop-value-init
loop-value-init g c =
    let old = c.args.self.now.values.keys in
    record {
      grown = ([], sym (append-nil old));
      taken = subst (HasTaken g.T.PartialEq.eq g.T.Hash.hash_input c.args.number c.args.count [] old old) (sym c.clear.ensures.items)
          (taken_none g.T.PartialEq.eq (laws g) g.T.Hash.hash_input (alike g) c.args.number c.args.count old);
    }

pub returns-in_err-is_new-clause-grown : goal.returns-in_err-is_new-clause-grown
returns-in_err-is_new-clause-grown g c = (c.loop-value.invariant.grown.0, c.in_err-is_new.ensures.refused ∙ c.loop-value.invariant.grown.1)

pub returns-clause-grown : goal.returns-clause-grown
returns-clause-grown g c = c.loop-value.invariant.grown

pub loop-value-preserved : goal.loop-value-preserved
loop-value-preserved g c =
    let eq = g.T.PartialEq.eq in
    let feed = g.T.Hash.hash_input in
    let number = c.args.number in
    let count = c.args.count in
    let batch = c.args.batch.now in
    let index = c.loop-value.value-index in
    let old = c.args.self.now.values.keys in
    let now = c.loop-value.self.values.keys in
    let marks = c.loop-value.self.is_new.items in
    let x = c.value-item.result in
    let own = nat_eq c.shard_of.result number in
    let at : get_or batch index x ≡ x = sym c.value-item.is in
    let whole : take index batch ++ x ∷ [] ≡ take (index + 1) batch =
    ap (λ y. take index batch ++ y ∷ []) (sym at) ∙ sym (take_more batch index x c.loop-value-test.true) in
    let keys : c.take.new.self.values.keys ≡ later eq (laws g) feed (alike g) number count (take index batch) old now marks c.loop-value.invariant.taken x own =
    c.in_ok-is_new.ensures.keys in
    let marked : c.push.new.self.items ≡ marks ++ took eq (laws g) feed (alike g) number count (take index batch) old now marks c.loop-value.invariant.taken x own ∷ [] =
    c.in_ok-push.ensures.items ∙ ap (λ v. v.items ++ c.in_ok-is_new.is_new ∷ []) c.in_ok-is_new.ensures.places ∙ ap (λ b. marks ++ b ∷ []) c.in_ok-is_new.ensures.new in
    let more = taken_more eq (laws g) feed (alike g) number count (take index batch) old now marks c.loop-value.invariant.taken x own (ap (λ n. nat_eq n number) (sym c.shard_of.ensures.value)) in
    let grown = grown_by eq old now x own c.loop-value.invariant.grown in
    record {
      grown = (grown.0, keys ∙ grown.1);
      taken = subst (λ b. HasTaken eq feed number count b old c.take.new.self.values.keys c.push.new.self.items) whole
          (subst (λ k. HasTaken eq feed number count (take index batch ++ x ∷ []) old k c.push.new.self.items) (sym keys)
          (subst (HasTaken eq feed number count (take index batch ++ x ∷ []) old (later eq (laws g) feed (alike g) number count (take index batch) old now marks c.loop-value.invariant.taken x own)) (sym marked) more));
    }

pub returns-clause-taken : goal.returns-clause-taken
returns-clause-taken g c =
    let batch = c.args.batch.now in
    subst (λ b. HasTaken g.T.PartialEq.eq g.T.Hash.hash_input c.args.number c.args.count b c.args.self.now.values.keys c.loop-value.self.values.keys c.loop-value.self.is_new.items)
    (take_all c.loop-value.value-index batch c.loop-value-test.false) c.loop-value.invariant.taken
