use Rattle.std.proofs.Common.{◌≡◌, ◌∙◌, ap, length, subst, sym}
use Rattle.htn_model.specs.Problem.{IsSquare}
use Rattle.htn_model.proofs.Splices.{table_square}
use Rattle.htn_order.specs.BitRows.{bit, rows_of, words_per_row}
use Rattle.htn_order.proofs.Tables.{table_size}
use Rattle.htn_order.proofs.bit_rows.BitRows.size.Goals as goal

pub returns-clause-value : goal.returns-clause-value
returns-clause-value c = sym (table_size c.self.inside.size (bit (words_per_row c.self.inside.size) c.self.inside.words.items)) ∙ ap length c.self.view_is

pub returns-clause-square : goal.returns-clause-square
returns-clause-square c =
    let n = c.self.inside.size in
    let size : n ≡ length c.args.self.now = sym (table_size n (bit (words_per_row n) c.self.inside.words.items)) ∙ ap length c.self.view_is in
    subst (λ order. IsSquare (length c.args.self.now) order) c.self.view_is
    (subst (λ m. IsSquare m (rows_of n c.self.inside.words.items)) size (table_square n (bit (words_per_row n) c.self.inside.words.items)))
