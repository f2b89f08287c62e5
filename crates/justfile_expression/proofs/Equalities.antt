-- Values without an order are equal exactly if their cases and fields are.
use Rattle.std.proofs.Common.{◌≡◌, Bool, true, false, List, [], ◌∷◌, inl, inr, refl, sym, ap, suc, true≢false}
use denote.Enum.Compared.{Each, by}
use denote.Enum.Declared.{Choice, intoss, rowss}
use denote.Enum.Enum.{tag}
use denote.Signature.{static_lft}
use denote.Struct.Field.{Field}
use Rattle.justfile_vocabulary.specs.contracts.switch.SwitchPartialEq.TheImpl as switch_equality
use Rattle.justfile_vocabulary.specs.declared.switch.Switch.{Switch}
use Rattle.justfile_vocabulary.specs.declared.switch.Switch.TheVariants.{Long, Short}
use Rattle.justfile_token.specs.contracts.compile_error_kind.CompileErrorKind as error_kinds
use Rattle.justfile_token.specs.contracts.compile_error_kind.CompileErrorKindPartialEq.TheImpl as error_kind_equality
use Rattle.justfile_token.specs.contracts.delimiter.DelimiterPartialEq.TheImpl as delimiter_equality
use Rattle.justfile_token.specs.declared.compile_error_kind.CompileErrorKind.{CompileErrorKind}
use Rattle.justfile_token.specs.declared.delimiter.Delimiter.{Delimiter}
use Rattle.justfile_token.specs.declared.delimiter.Delimiter.TheVariants.{Brace, Bracket, FormatString, Paren}
use Rattle.justfile_expression.specs.Equal as compared
use Rattle.justfile_expression.specs.Equal.{AreCompared, case_index, delimiter_eq, switch_eq}

pub switches_are : (s t : Switch) → switch_equality.eq-value.it s t ≡ switch_eq s t
switches_are (Long name) (Long other) = refl
switches_are (Short character) (Short other) = refl
switches_are s t = refl

pub delimiters_are : (a b : Delimiter) → delimiter_equality.eq-value.it a b ≡ delimiter_eq a b
delimiters_are Brace Brace = refl
delimiters_are Bracket Bracket = refl
delimiters_are (FormatString kind) (FormatString other) = refl
delimiters_are Paren Paren = refl
delimiters_are a b = refl

-- ---- kinds of errors

-- values that are compared case by case are equal only if they are of the same case
one_case : (Fss : List (List Field)) (each : Each Bool Fss) (c d : Choice Fss) → by false false Fss each c d ≡ true
    → tag (rowss Fss) (intoss Fss c) ≡ tag (rowss Fss) (intoss Fss d)
one_case [] each c d e = absurd c
one_case (Fs ∷ Fss) each (inl x) (inl y) e = refl
one_case (Fs ∷ Fss) each (inl x) (inr y) e = absurd (true≢false (sym e))
one_case (Fs ∷ Fss) each (inr x) (inl y) e = absurd (true≢false (sym e))
one_case (Fs ∷ Fss) each (inr x) (inr y) e = ap suc (one_case Fss each.1 x y e)

pub same_case : (a b : CompileErrorKind) → error_kind_equality.eq-value.it a b ≡ true → case_index a ≡ case_index b
same_case a b e =
    one_case (error_kinds.the_parts static_lft) _ (error_kinds.as_values static_lft a) (error_kinds.as_values static_lft b) e

pub fields_are : (a b : CompileErrorKind) (equal : Bool) → AreCompared a b equal → error_kind_equality.eq-value.it a b ≡ equal
fields_are _ _ _ compared.ArgAttributeMinExceedsMax = refl
fields_are _ _ _ _ = refl
