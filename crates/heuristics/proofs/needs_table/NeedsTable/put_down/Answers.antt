use Rattle.std.proofs.Common.{◌≡◌, ◌∙◌, arith, length, refl, sym, true≢false}
use Rattle.heuristics.proofs.FoundNeeds.{followed_next, followed_then, found_then}
use Rattle.heuristics.proofs.ListedNeeds.{more_itself}
use Rattle.heuristics.proofs.needs_table.NeedsTable.put_down.Goals as goal

pub returns : goal.returns
returns c =
    let p = c.args.prospects.now in
    let t = c.args.networks.now in
    let s = c.args.self.now in
    let u = c.keep_until.new.self in
    let v = c.keep_next.new.self in
    let number = c.args.found.number in
    let before = c.in_ok-keep_until.ensures.followed in
    let then = c.in_ok-keep_next.ensures in
    let is = found_then p t s u c.args.found before c.requires.found in
    let next : number ≡ length u.needs.items = omega (arith, c.if-len-number.false, c.len.ensures, u.needs.ok.0) in
    followed_then p t s u v before
    (followed_next p t u u v number c.args.found.needed c.new-ids.result.items next is.known (more_itself u.wanted.wants.items) refl then.needs then.chains then.rest
    (λ atoms nodes goals chains. is.right atoms nodes goals) (λ atoms nodes goals chains told. absurd (true≢false (sym told ∙ is.other))))
