use Rattle.std.proofs.Common.{◌≡◌, ◌+◌, ◌<◌, ◌∷◌, length, get_or, take, suc, sym, ap, subst, arith}
use Rattle.std.proofs.lemmas.Option.{slice_get-get_or}
use Rattle.call_proof.specs.Ways.{AreListsLeft, IsBoundedWord}
use Rattle.call_proof.proofs.walk.is_word.Goals as goal

pub returns : goal.returns
returns c = λ leads.
    (let l = c.args.nodes.now.lists in
    let p = c.args.proposal.now in
    let starts = c.args.starts.now in
    let rank = c.in-Some.rank.now in
    let ranks = c.in-Some.ranks.now in
    let word : c.args.word.now ≡ rank ∷ ranks = c.in-Some.ensures.cases.0 in
    let inside : rank < length starts = c.if-place-starts.false in
    let long : length c.args.word.now ≡ suc (length ranks) = ap length word in
    let more : length c.args.word.now ≡ length ranks + 1 = omega arith in
    let each = c.are_left.ensures c.if-not-are_left.false in
    let before : AreListsLeft l p.table p.values (length ranks + 1) (take rank starts) =
    subst (λ steps. AreListsLeft l p.table p.values steps (take rank starts)) more (c.are_left-2.ensures c.if-not-are_left-2.false) in
    subst (IsBoundedWord l p.table p.values c.args.ends.now starts) (sym word)
    (record {
      from = get_or starts rank 0;
      at = slice_get-get_or starts rank 0 inside;
      none_fewer = each;
      before = before;
      way = c.in_ok-leads.ensures leads;
    }))
