use Rattle.std.proofs.Common.{◌≡◌, ◌<◌, ◌≤◌, length, ℕ, ◌*◌, List, arith, sym, ◌∙◌, subst, slice_get, Some, get_or}
use Rattle.std.proofs.lemmas.Nat.{mul-le}
use Rattle.std.proofs.lemmas.Option.{slice_get_within, same_Some, slice_get-get_or}
use Rattle.std.proofs.lemmas.Result.{IfOk-weaker}
use Rattle.word_machine.specs.Ranks.{StandsAt}
use Rattle.word_machine.proofs.Meanings.{IfNone-weaker, IfSome-weaker}
use Rattle.word_machine.proofs.expand.RankedExpand.expand.Goals as goal

-- a place in memory has an offset
fits_below : (i n size : ℕ) → i < n → n * size < 9223372036854775808 → i * size < 18446744073709551616
fits_below i n size inside whole = let h : i * size ≤ n * size = mul-le i size n size (omega arith) (omega arith) in omega arith

-- what stands at the rank
stands : {C : Type 0} (holds : C → Type 0) (keys : List C) (rank : ℕ) (d : C) → StandsAt holds keys rank → slice_get keys rank ≡ Some (get_or keys rank d)
stands holds keys rank d own = slice_get-get_or keys rank d (slice_get_within keys rank own.0 own.1)

-- what holds of what stands there
holds_there : {C : Type 0} (holds : C → Type 0) (keys : List C) (rank : ℕ) (d : C) → StandsAt holds keys rank → holds (get_or keys rank d)
holds_there holds keys rank d own = subst holds (same_Some own.0 (get_or keys rank d) (sym own.1 ∙ stands holds keys rank d own)) own.2

pub bounds-self-rank : goal.bounds-self-rank
bounds-self-rank g c = slice_get_within c.args.self.now.configurations.now c.args.rank c.requires.0 c.requires.1

pub offset_bounds-self-rank : goal.offset_bounds-self-rank
offset_bounds-self-rank g c =
    let keys = c.args.self.now.configurations.now in
    let inside = slice_get_within keys c.args.rank c.requires.0 c.requires.1 in
    let small = fits_below c.args.rank (length keys) _ inside c.type_inv.self.1.1.0.0.1.1 in
    omega arith

pub expand-requires-clause-known : goal.expand-requires-clause-known
expand-requires-clause-known g c = (holds_there _ c.args.self.now.configurations.now c.args.rank c.index-self-rank.result c.requires).1.0

pub expand-requires-clause-belongs : goal.expand-requires-clause-belongs
expand-requires-clause-belongs g c = (holds_there _ c.args.self.now.configurations.now c.args.rank c.index-self-rank.result c.requires).1.1

pub expand-requires-clause-ready : goal.expand-requires-clause-ready
expand-requires-clause-ready g c = (holds_there _ c.args.self.now.configurations.now c.args.rank c.index-self-rank.result c.requires).2

pub returns-clause-whole : goal.returns-clause-whole
returns-clause-whole g c =
    let from = get_or c.args.self.now.configurations.now c.args.rank c.index-self-rank.result in
    let at = stands _ c.args.self.now.configurations.now c.args.rank c.index-self-rank.result c.requires in
    IfOk-weaker c.expand.result _ _ (λ done whole. IfNone-weaker done (λ more. (more.0, more.1, (from, at, (more.2, more.3)))) whole) c.expand.ensures.whole

pub returns-clause-done : goal.returns-clause-done
returns-clause-done g c =
    let from = get_or c.args.self.now.configurations.now c.args.rank c.index-self-rank.result in
    let at = stands _ c.args.self.now.configurations.now c.args.rank c.index-self-rank.result c.requires in
    IfOk-weaker c.expand.result _ _ (λ done found. IfSome-weaker done _ _ (λ n least. (from, at, least)) found) c.expand.ensures.done
