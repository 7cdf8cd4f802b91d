use Rattle.std.proofs.Common.{◌∙◌, ap, ap₂, sym, ◌++◌, fold}
use Rattle.std.specs.Hash as fed
use Rattle.htn_order.specs.BitRows.{bit, rows_hash, words_per_row}
use Rattle.htn_order.proofs.Tables.{table_size}
use Rattle.htn_order.proofs.Packed.{words_from_table}
use Rattle.htn_order.proofs.bit_rows.BitRows.feed.Goals as goal

pub returns : goal.returns
returns g c =
    let n = c.self.inside.size in
    let words = c.self.inside.words.items in
    let size = table_size n (bit (words_per_row n) words) in
    fed.fed_then g.H.Hasher.write c.args.state.now c.hash.new.state c.hash-2.new.state (fed.usize n) (fed.slice fed.u64 words) c.hash.ensures c.hash-2.ensures
    ∙ ap₂ (λ m ws. fold g.H.Hasher.write c.args.state.now (fed.usize m ++ fed.slice fed.u64 ws)) (sym size) (words_from_table n words c.self.invariant)
    ∙ ap (λ order. fold g.H.Hasher.write c.args.state.now (rows_hash order)) c.self.view_is
