use Rattle.picture_text.proofs.Quotes.{labels_end, quotes_end}
use Rattle.picture_text.proofs.laws.labels_end_at_quotes.Goals as goal

pub returns-clause-labels : goal.returns-clause-labels
returns-clause-labels c = labels_end

pub returns-clause-words : goal.returns-clause-words
returns-clause-words c = quotes_end
