use Rattle.std.proofs.Common.{refl}
use Rattle.check_report.proofs.Reports.{about_text}
use Rattle.check_report.proofs.tell.text_error.Goals as goal

pub returns : goal.returns
returns c = record {
  error = record {
    severity = c.in_ok-error.ensures.severity;
    code = c.in_ok-error.ensures.code;
    about = about_text c.args.source.now c.args.fault _ c.in_ok-error.ensures.about;
  };
  helps = (c.args.source.now, refl, c.in_ok-error.ensures.message, c.in_ok-error.ensures.offers, c.in_ok-error.ensures.notes);
}
