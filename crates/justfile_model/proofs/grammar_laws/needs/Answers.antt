use Rattle.justfile_model.proofs.Derivations.Needs.{deep_at, enough, need_of, one_need, only_deep, raised, relimited}
use Rattle.justfile_model.proofs.grammar_laws.needs.Goals as goal

pub returns : goal.returns
returns c = record { raised = raised; need = need_of; one = one_need; enough = enough; relimited = λ C D ts. relimited C ts D; deep = only_deep; deep_at = deep_at }
