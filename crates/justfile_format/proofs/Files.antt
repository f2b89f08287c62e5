-- What writing the canonical text of a file means for the text that it was parsed from.
use Rattle.std.proofs.Common.{◌≡◌, ℕ, List, Option, Result, Ok, Err, true, false, refl}
use Rattle.std.specs.Prelude.{IfErr, OnOk}
use Rattle.std.specs.Io.KnownBytes.{Appends}
use Rattle.justfile_model.specs.Printed.NormalShape.{normal}
use Rattle.justfile_model.specs.Printed.Printing.{printable, text}
use Rattle.justfile_model.specs.Meanings.Enabled.{indentation_of}
use Rattle.justfile_ast.specs.Ast.{ast_shape, features_of, tree_of}
use Rattle.justfile_ast.specs.declared.ast.Ast.{Ast}
use Rattle.justfile_canonical.specs.Formatting.{IsFileOf, IsFormatted, IsPrinted, IsUnprintable, LacksNumbers}
use Rattle.justfile_indentation.specs.OwnIndentation.{IsIndentedBy}
use Rattle.justfile_format.specs.Failure.{IfRejected, IsOfFile, IsOfTextOrWriting}
use Rattle.justfile_format.specs.Formatting.{Formats, WritesFile}
use Rattle.justfile_format.specs.Formatting.{FormatsBeginning, WritesFileBeginning}
use Rattle.system_run.specs.Beginning.{AppendsBeginning}
use Rattle.justfile_format.specs.declared.failure.Failure.{Failure}
use Rattle.justfile_format.specs.declared.failure.Failure.TheVariants as failures

-- ---- a file that is printed

module _ (ast : Ast) (indentation : List ℕ) (old new : Option (List ℕ)) (prints : printable (ast_shape ast) ≡ true) (indented : IsIndentedBy (indentation_of (tree_of ast)) indentation) where
  is_printed : IsPrinted ast (text (normal (ast_shape ast)) indentation)
  is_printed = record { can_be_printed = prints; indentation = indentation; is_indented = indented; is = refl }

  pub printed : Appends old new (text (normal (ast_shape ast)) indentation) → WritesFile ast old new
  printed h = record { canonical = text (normal (ast_shape ast)) indentation; printed = is_printed; written = h }

  pub printed_beginning : AppendsBeginning old new (text (normal (ast_shape ast)) indentation) → WritesFileBeginning ast old new
  printed_beginning h = record { canonical = text (normal (ast_shape ast)) indentation; printed = is_printed; written = h }

-- ---- the text of the file

module _ (source : List ℕ) (ast : Ast) (file : IsFileOf source ast) where
  formatted : (canonical : List ℕ) → IsPrinted ast canonical → IsFormatted source canonical
  formatted canonical p = record {
    tree = tree_of ast;
    features = features_of ast;
    derives = file.derives;
    can_be_printed = p.can_be_printed;
    indentation = p.indentation;
    is_indented = p.is_indented;
    is = p.is;
  }

  pub formats : (old new : Option (List ℕ)) (r : Result (Unit {0}) Failure) → OnOk r (WritesFile ast old new) → OnOk r (Formats source old new)
  formats old new (Ok done) h = record { canonical = h.canonical; formatted = formatted h.canonical h.printed; written = h.written }
  formats old new (Err failure) h = tt

  pub begins : (old new : Option (List ℕ)) → WritesFileBeginning ast old new → FormatsBeginning source old new
  begins old new h = record { canonical = h.canonical; formatted = formatted h.canonical h.printed; written = h.written }

  pub unprinted : printable (ast_shape ast) ≡ false → IsUnprintable source
  unprinted h = record { tree = tree_of ast; features = features_of ast; derives = file.derives; cannot_be_printed = h }

-- ---- which failures there are

pub never_rejected : (Holds : List ℕ → Type 0) (r : Result (Unit {0}) Failure) → IfErr r IsOfFile → IfErr r (IfRejected Holds)
never_rejected Holds (Ok done) h = tt
never_rejected Holds (Err failures.Usage) h = tt
never_rejected Holds (Err failures.Reading) h = tt
never_rejected Holds (Err failures.NotUtf8) h = tt
never_rejected Holds (Err (failures.Rejected lines)) h = absurd h
never_rejected Holds (Err failures.NotPrintable) h = tt
never_rejected Holds (Err failures.Writing) h = tt
never_rejected Holds (Err failures.Memory) h = tt
never_rejected Holds (Err failures.Numbers) h = tt

pub not_numbers : (source : List ℕ) (r : Result (Unit {0}) Failure) → IfErr r IsOfFile → r ≡ Err failures.Numbers → LacksNumbers source
not_numbers source (Ok done) h e = absurd (cc)
not_numbers source (Err failures.Usage) h e = absurd h
not_numbers source (Err failures.Reading) h e = absurd h
not_numbers source (Err failures.NotUtf8) h e = absurd h
not_numbers source (Err (failures.Rejected lines)) h e = absurd h
not_numbers source (Err failures.NotPrintable) h e = absurd (cc)
not_numbers source (Err failures.Writing) h e = absurd (cc)
not_numbers source (Err failures.Memory) h e = absurd (cc)
not_numbers source (Err failures.Numbers) h e = absurd h

pub of_file : (r : Result (Unit {0}) Failure) → IfErr r IsOfFile → IfErr r IsOfTextOrWriting
of_file (Ok done) h = tt
of_file (Err failures.Usage) h = absurd h
of_file (Err failures.Reading) h = absurd h
of_file (Err failures.NotUtf8) h = absurd h
of_file (Err (failures.Rejected lines)) h = absurd h
of_file (Err failures.NotPrintable) h = tt
of_file (Err failures.Writing) h = tt
of_file (Err failures.Memory) h = tt
of_file (Err failures.Numbers) h = absurd h
