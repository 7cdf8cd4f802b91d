use Rattle.std.proofs.Common.{◌≡◌, ◌∙◌, ◌<◌, ◌≤◌, Some, ap, arith, length, slice_get, subst, sym}
use Rattle.std.proofs.lemmas.Option.{MatchOption-at_some, slice_get-get_or}
use Rattle.network_table.specs.Networks.{children}
use Rattle.network_table.specs.Numbered.{IsWithin}
use Rattle.task_machine.specs.declared.listing.Listing.{Listing}
use Rattle.task_machine.proofs.Listings.{as_many, at_none, instance_there, listing_right, one_listing}
use Rattle.task_machine.proofs.tables.Tables.listed_instance.Goals as goal

pub returns-in_default-clause-none : goal.returns-in_default-clause-none
returns-in_default-clause-none c = λ l has. absurd (at_none c.in_ok-listing.field-0 c.in_ok-listing.ensures.none c.in_default.is l has)

pub returns-then-rank-len-clause-none : goal.returns-then-rank-len-clause-none
returns-then-rank-len-clause-none c = λ l has.
    let there = MatchOption-at_some _ _ _ c.in-Some.is c.in_ok-listing.ensures.some in
    let same = one_listing c.args.self.now c.requires.own.1.networks c.args.goal.now c.in-Some.listing.now l there has in
    let short : length c.in-Some.listing.now.sources.items ≤ c.args.rank = omega (arith, c.if-rank-len.true, c.len.ensures) in
    subst (λ (x : Listing). length x.sources.items ≤ c.args.rank) same short

pub index-network-requires : goal.index-network-requires
index-network-requires c =
    let tables = c.args.self.now in
    let there = MatchOption-at_some _ _ _ c.in-Some.is c.in_ok-listing.ensures.some in
    let of = listing_right c.requires.own.0 tables c.requires.own.1 c.args.goal.now c.in-Some.listing.now there in
    let many = as_many c.requires.own.0 tables.networks c.args.goal.now c.in-Some.listing.now of in
    omega (arith, c.if-rank-len.false, c.len.ensures, many)

pub instance_from-requires : goal.instance_from-requires
instance_from-requires c =
    let tables = c.args.self.now in
    let found = c.in-Some.listing.now in
    let there = MatchOption-at_some _ _ _ c.in-Some.is c.in_ok-listing.ensures.some in
    let of = listing_right c.requires.own.0 tables c.requires.own.1 c.args.goal.now found there in
    let many = as_many c.requires.own.0 tables.networks c.args.goal.now found of in
    let low : c.args.rank < length found.networks.items = omega (arith, c.if-rank-len.false, c.len.ensures, many) in
    subst (IsWithin (children tables.networks)) (sym c.index-network.ensures) (of.networks.0 c.args.rank c.index-network.result.now low)

pub returns-clause-some : goal.returns-clause-some
returns-clause-some c = λ t own.
    let tables = c.args.self.now in
    let g = c.args.goal.now in
    let found = c.in-Some.listing.now in
    let rank = c.args.rank in
    let s = c.index-source.result.now in
    let n = c.index-network.result.now in
    let there = MatchOption-at_some _ _ _ c.in-Some.is c.in_ok-listing.ensures.some in
    let of = listing_right t tables own g found there in
    let many = as_many t tables.networks g found of in
    let low : rank < length found.sources.items = omega (arith, c.if-rank-len.false, c.len.ensures) in
    let lower : rank < length found.networks.items = omega (arith, low, many) in
    let source : slice_get found.sources.items rank ≡ Some s = slice_get-get_or found.sources.items rank s low ∙ ap Some (sym c.index-source.ensures) in
    let network : slice_get found.networks.items rank ≡ Some n = slice_get-get_or found.networks.items rank n lower ∙ ap Some (sym c.index-network.ensures) in
    instance_there t tables.networks g found of rank s n source network ∙ ap Some (sym c.in_ok-instance.ensures)
