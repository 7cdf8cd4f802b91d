use Rattle.std.proofs.Common.{Fits, ◌≡◌, ◌+◌, ◌-◌, ◌*◌, ◌^◌, suc, length, get_or, ap, sym, subst, ◌∙◌, arith}
use Rattle.std.specs.Int.{bit_at, w64}
use Rattle.std.proofs.lemmas.Nat.Bits.{shr_and_one}
use Rattle.htn_order.specs.Counts.{lane}
use Rattle.htn_order.proofs.LaneSums.{low_fits, read_fits, read_more, read_whole}
use Rattle.htn_order.proofs.lanes.lane.Goals as goal

pub overflow_mul-number : goal.overflow_mul-number
overflow_mul-number c =
    let words = c.args.words.now in
    let j = c.args.j in
    let n = c.loop-place.number in
    let p = c.loop-place.place - 1 in
    let total = lane words j (length words) in
    let after : c.loop-place.place ≡ suc p = omega arith in
    let low = read_fits words j p n total (subst (λ k. n * 2 ^ k + lane words j k ≡ total) after c.loop-place.invariant.worth) in
    low_fits (n * 2) total (omega (arith, low)) c.requires.fits

pub overflow_add-number : goal.overflow_add-number
overflow_add-number c =
    let words = c.args.words.now in
    let j = c.args.j in
    let n = c.loop-place.number in
    let p = c.loop-place.place - 1 in
    let total = lane words j (length words) in
    let after : c.loop-place.place ≡ suc p = omega arith in
    subst (λ b. Fits w64 (n * 2 + b)) (sym (shr_and_one (get_or words p 0) j))
    (low_fits (n * 2 + bit_at (get_or words p 0) j) total (read_fits words j p n total (subst (λ k. n * 2 ^ k + lane words j k ≡ total) after c.loop-place.invariant.worth)) c.requires.fits)

pub loop-place-preserved : goal.loop-place-preserved
loop-place-preserved c =
    let words = c.args.words.now in
    let j = c.args.j in
    let n = c.loop-place.number in
    let p = c.loop-place.place - 1 in
    let total = lane words j (length words) in
    let after : c.loop-place.place ≡ suc p = omega arith in
    record {
      low = (let l = c.loop-place.invariant.low in omega arith);
      worth = ap (λ b. (n * 2 + b) * 2 ^ p + lane words j p) (shr_and_one (get_or words p 0) j)
          ∙ read_more words j p n total (subst (λ k. n * 2 ^ k + lane words j k ≡ total) after c.loop-place.invariant.worth);
    }

pub returns : goal.returns
returns c =
    let words = c.args.words.now in
    let j = c.args.j in
    let n = c.loop-place.number in
    let total = lane words j (length words) in
    let none : c.loop-place.place ≡ 0 = (let f = c.loop-place-test.false in omega arith) in
    read_whole words j n total (subst (λ k. n * 2 ^ k + lane words j k ≡ total) none c.loop-place.invariant.worth)
