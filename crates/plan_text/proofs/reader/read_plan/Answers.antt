use Rattle.std.proofs.lemmas.Result.{err_from_is_err_and, IfErr-weaker, IfOk-weaker}
use Rattle.plan_text.proofs.FileLaws.{one_file, no_file, no_file_in}
use Rattle.plan_text.proofs.reader.read_plan.Goals as goal

pub returns-in_err-lines-clause-refused : goal.returns-in_err-lines-clause-refused
returns-in_err-lines-clause-refused c =
    let p = err_from_is_err_and c.from_residual.result c.from_residual.ensures.1 in
    rw (p.1, p.2) (λ other file is. no_file c.args.text.now file is _ other c.in_err-lines.ensures.fault)

pub returns-clause-only : goal.returns-clause-only
returns-clause-only c =
    let found = c.in_ok-lines.ensures in
    IfOk-weaker c.read_body.result _ _ (λ file holds other is. one_file c.args.text.now file other (record { short = found.short; between = c.in_ok-lines.lines; body_is = found.body; holds = holds }) is) c.read_body.ensures.file

pub returns-clause-refused : goal.returns-clause-refused
returns-clause-refused c =
    let found = c.in_ok-lines.ensures in
    IfErr-weaker c.read_body.result _ _ (λ fault h other file is. no_file_in c.args.text.now file is c.in_ok-lines.lines found.body fault other h) c.read_body.ensures.fault
