use Rattle.hddl_text.proofs.Laws.{domain_laws, problem_laws}
use Rattle.hddl_text.proofs.text.texts_spell_one_tree.Goals as goal

pub returns : goal.returns
returns c = record { domain = domain_laws.one; problem = problem_laws.one }
