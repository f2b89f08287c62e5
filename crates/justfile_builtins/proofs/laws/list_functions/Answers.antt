use Rattle.justfile_builtins.proofs.ListFunctions.{has_list_functions}
use Rattle.justfile_builtins.proofs.laws.list_functions.Goals as goal

pub returns : goal.returns
returns c name feature is = has_list_functions name feature is
