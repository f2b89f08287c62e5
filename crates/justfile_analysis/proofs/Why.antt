-- Why a text is no justfile.
use Rattle.std.proofs.Common.{◌≡◌, ℕ, ◌+◌, ◌≤◌, List, length, drop, ap, sym, subst, ◌∙◌}
use Rattle.std.specs.Prelude.{codes}
use Rattle.std.specs.List.{slice_range}
use Rattle.justfile_token.specs.declared.compile_error.CompileError.{CompileError}
use Rattle.justfile_token.specs.declared.fault.Fault.{Fault}
use Rattle.justfile_token.specs.declared.fault.Fault.TheVariants.{Compile, Numbers}
use Rattle.justfile_canonical.specs.Root.{HasNoRoot}
use Rattle.editor_language.specs.declared.parts.PartProblem.{PartProblem}
use Rattle.justfile_analysis.specs.Parts.{IsOfError, IsOfNumbers, TellsWhy}

-- the token of its error lies in the text
pub token_within : (text : List ℕ) (fault : Fault) (e : CompileError) → fault ≡ Compile e → HasNoRoot (codes "justfile") text fault
    → e.token.offset + e.token.length ≤ length text
token_within text fault e is no_root =
    let none = subst (HasNoRoot (codes "justfile") text) is no_root in
    subst (λ src. e.token.offset + e.token.length ≤ length src) none.no_tree.from.src_is e.token.in_source.0

pub told_by : (text : List ℕ) (fault : Fault) (e : CompileError) (p : PartProblem) → fault ≡ Compile e → HasNoRoot (codes "justfile") text fault → IsOfError text e p
    → TellsWhy text p
told_by text fault e p is no_root of_error = record { fault = Compile e; no_root = subst (HasNoRoot (codes "justfile") text) is no_root; is_of_fault = of_error }

pub out_of_numbers : (text : List ℕ) (fault : Fault) (p : PartProblem) → fault ≡ Numbers → HasNoRoot (codes "justfile") text fault → IsOfNumbers p → TellsWhy text p
out_of_numbers text fault p is no_root of_numbers = record { fault = Numbers; no_root = subst (HasNoRoot (codes "justfile") text) is no_root; is_of_fault = of_numbers }
