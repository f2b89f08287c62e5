-- Paths of files, in the steps in which they are read.
use Rattle.std.proofs.Common.{◌≡◌, ℕ, Bool, List, Result, Ok, Err, refl}
use Rattle.justfile_vocabulary.specs.declared.token_kind.TokenKind.TheVariants as kinds
use Rattle.justfile_model.specs.Readers.ExpressionReader as expressions
use Rattle.justfile_model.specs.Readers.ExpressionReader.{by_text}
use Rattle.justfile_model.specs.LiteralTexts.Literals.{LiteralFault, cooked_text, string_of}
use Rattle.justfile_model.specs.Readers.PartReader as parts
use Rattle.justfile_model.specs.Readers.ReaderState.{◌>>=◌}
use Rattle.justfile_model.specs.Trees.Tree.{Quoted}
use Rattle.justfile_parse_expression.specs.TableReader.{Read, State, expect, leaves, string_leaf}
use Rattle.justfile_parse_expression.specs.Significant.{TableToken}
use Rattle.justfile_parse_expression.proofs.Rules.{bind_alike, then_made}
use Rattle.justfile_parse_item_parts.specs.PartTable.{expansion_mark, file_path}
use Rattle.justfile_expression.specs.LeafTree.{Leaf}
use Rattle.justfile_parse_base.specs.ParseErrors.{IsParseError}
use Rattle.justfile_parse_base.specs.declared.parse_error.ParseError.{ParseError}
use Rattle.justfile_parse_base.proofs.HeaderErrors.{first_errs}

abbrev Path : Type 0
Path = TableToken × Quoted Leaf

-- a path of the leaf of its literal
abbrev pub path_of : (expand : Bool) → TableToken → Leaf → Path
path_of expand token leaf = (token, record { expanded = expand; token = leaf })

by_leaf : (expand : Bool) (x : TableToken × State) (text : Result (List ℕ) LiteralFault)
    → (by_text leaves (λ text. parts.quoted_of leaves expand (leaves.literal x.0 (string_of expand (leaves.see x.0).tok.lexeme) text)) x text >>= parts.path_at leaves x.0)
    ≡ (by_text leaves (λ text. leaves.literal x.0 (string_of expand (leaves.see x.0).tok.lexeme) text) x text >>= then_made (path_of expand x.0))
by_leaf expand x (Ok text) = refl
by_leaf expand x (Err fault) = refl

-- by the leaf of the literal
pub path_is : (s : State) → file_path s
    ≡ (expansion_mark s >>= λ mark. expect kinds.StringToken mark.1 >>= λ literal. string_leaf mark.0 literal >>= then_made (path_of mark.0 literal.0))
unfolding parts.file_path string_leaf expressions.cooked
path_is s =
    bind_alike (expansion_mark s) _ _ (λ mark. bind_alike (expect kinds.StringToken mark.1) _ _ (λ literal.
    by_leaf mark.0 literal (cooked_text (leaves.conditions literal.1.run).expander (string_of mark.0 (leaves.see literal.0).tok.lexeme))))

-- its mark is not read
pub mark_fails : (s rest : State) (error : ParseError) → IsParseError error rest ⊥ (expansion_mark s) → IsParseError error rest ⊥ (file_path s)
mark_fails s rest error h = rw (path_is s) (first_errs (expansion_mark s) _ error rest ⊥ h)
