-- What parsing a root file returns.
use Rattle.std.proofs.Common.{◌≡◌, ℕ, List, [], Result, Ok, Err}
use Rattle.std.specs.Prelude.{IfErr, IfOk, string_bytes}
use Rattle.justfile_numbers.specs.Numerator.{bindings_of, recipes_of}
use Rattle.justfile_numbers.specs.declared.numerator.Numerator.{Numerator}
use Rattle.justfile_token.specs.Modulepath.{names_of}
use Rattle.justfile_token.specs.declared.fault.Fault.{Fault}
use Rattle.justfile_ast.specs.declared.ast.Ast.{Ast}
use Rattle.justfile_parse.specs.Parsing.{HasNoTree, IsParsedText}
use Rattle.justfile_canonical.specs.Root.{HasNoRoot, IsRoot, IsRootFrom, conditions}

pub root_from : (path source : List ℕ) (old new : Numerator) (r : Result Ast Fault) → IfOk r (IsParsedText conditions path source 0 [] old new)
    → IfOk r (λ ast. names_of ast.module_path ≡ []) → IfOk r (λ ast. string_bytes ast.working_directory ≡ []) → IfOk r (IsRootFrom old new path source)
root_from path source old new (Ok ast) parsed module_path working_directory = record { parsed = parsed; module_path = module_path; working_directory = working_directory }
root_from path source old new (Err fault) parsed module_path working_directory = tt

pub root_of : (path source : List ℕ) (old new : Numerator) (r : Result Ast Fault) → bindings_of old ≡ 0 → recipes_of old ≡ 0 → IfOk r (IsRootFrom old new path source)
    → IfOk r (IsRoot path source)
root_of path source old new (Ok ast) no_binding no_recipe root =
    record { old = old; new = new; from_zero = record { no_binding = no_binding; no_recipe = no_recipe }; from = root }
root_of path source old new (Err fault) no_binding no_recipe root = tt

pub no_root : (path source : List ℕ) (old new : Numerator) (r : Result Ast Fault) → bindings_of old ≡ 0 → recipes_of old ≡ 0
    → IfErr r (HasNoTree conditions path source old new) → IfErr r (HasNoRoot path source)
no_root path source old new (Ok ast) no_binding no_recipe none = tt
no_root path source old new (Err fault) no_binding no_recipe none =
    record { old = old; new = new; from_zero = record { no_binding = no_binding; no_recipe = no_recipe }; no_tree = none }
