-- Why a text isn't formatted.
use Rattle.std.proofs.Common.{◌≡◌, ◌⊎◌, inl, inr, ℕ, List, sym, subst}
use Rattle.std.specs.Str.{IsUtf8}
use Rattle.justfile_numbers.specs.Numerator.{recipes_of}
use Rattle.justfile_numbers.specs.declared.numerator.Numerator.{Numerator}
use Rattle.justfile_token.specs.declared.compile_error.CompileError.{CompileError}
use Rattle.justfile_token.specs.declared.fault.Fault.{Fault}
use Rattle.justfile_token.specs.declared.fault.Fault.TheVariants.{Compile, Numbers}
use Rattle.justfile_model.specs.Grammars.Files.{NumbersSuffice}
use Rattle.justfile_ast.specs.declared.ast.Ast.{Ast}
use Rattle.justfile_parse.specs.Parsing.{HasNoTree, IsTreeless}
use Rattle.justfile_canonical.specs.Fault.{IsFormatFaultOf, IsFaultOfPrinting, IsRejectionFor}
use Rattle.justfile_canonical.specs.Formatting.{IsFileOf, LacksNumbers}
use Rattle.justfile_canonical.specs.Root.{HasNoRoot, conditions}
use Rattle.justfile_canonical.specs.declared.fault.FormatFault.{FormatFault}
use Rattle.justfile_canonical.specs.declared.fault.FormatFault.TheVariants as faults

without_numbers : {A B C : Type 0} → (A × B) ⊎ C → A ⊎ C
without_numbers (inl p) = inl p.0
without_numbers (inr q) = inr q

-- a text that isn't a justfile has an error, and the fault has its message
told : (path source : List ℕ) (old new : Numerator) (e : CompileError) (f : FormatFault) → IsUtf8 source → IsTreeless conditions path source old new e
    → IsRejectionFor e f → IsFormatFaultOf path source f
told path source old new e (faults.Rejected rejection) utf8 treeless is = record {
  told = record {
    rejected = record { utf8 = utf8; derives_none = treeless.derives_none };
    error = e;
    from = treeless.from;
    cause = without_numbers treeless.cause;
    is = is.0;
  };
  place = is.1;
}
told path source old new e faults.Memory utf8 treeless is = tt
told path source old new e faults.NotPrintable utf8 treeless is = absurd is
told path source old new e faults.Numbers utf8 treeless is = absurd is

pub rejection_of : (path source : List ℕ) (fault : Fault) (e : CompileError) (f : FormatFault) → IsUtf8 source → HasNoRoot path source fault → fault ≡ Compile e
    → IsRejectionFor e f → IsFormatFaultOf path source f
rejection_of path source fault e f utf8 root is told_of =
    told path source root.old root.new e f utf8 (subst (HasNoTree conditions path source root.old root.new) is root.no_tree) told_of

-- a parse from 0 on that wants a number
pub lacking : (path source : List ℕ) (fault : Fault) → HasNoRoot path source fault → fault ≡ Numbers → LacksNumbers source
lacking path source fault root is =
    let h = subst (HasNoTree conditions path source root.old root.new) is root.no_tree in
    record {
      old = root.old;
      new = root.new;
      from_zero = root.from_zero;
      wants = h.0;
      never_enough = λ limit tree features derives enough.
          h.1 limit tree features derives
          (subst (λ n. NumbersSuffice n (recipes_of root.old) tree) (sym root.from_zero.no_binding) (subst (λ n. NumbersSuffice 0 n tree) (sym root.from_zero.no_recipe) enough));
    }
