-- The indentation of a file's printed text.
use Rattle.std.specs.Prelude.{◌≡◌, ℕ, List, Option, Some, None, Ok, IfSome, codes}
use Rattle.justfile_vocabulary.specs.Indentation.{indentation_text}
use Rattle.justfile_vocabulary.specs.declared.indentation.Indentation.{Indentation}
use Rattle.justfile_token.specs.declared.string_literal.StringLiteral.{StringLiteral}
use Rattle.justfile_model.specs.Lexing.Tok.{Tok}
use Rattle.justfile_model.specs.LiteralTexts.Literals.{string_text}
use Rattle.justfile_expression.specs.Expression.{literal_tok}
use Rattle.justfile_item.specs.Indented.{items_indentation}
use Rattle.justfile_ast.specs.declared.ast.Ast.{Ast}

-- The indentation of body lines is the text of the literal in the setting `indentation`, or four spaces if there is no such setting.
abbrev pub IsIndentedBy : Option Tok → (indentation : List ℕ) → Type 0
IsIndentedBy None indentation = indentation ≡ codes "    "
IsIndentedBy (Some literal) indentation = string_text literal.lexeme ≡ Ok indentation

-- The indentation is the text of its literal.
abbrev pub MatchesLiteral : StringLiteral × Indentation → Type 0
MatchesLiteral p = string_text (literal_tok p.0).lexeme ≡ Ok (indentation_text p.1)

-- The file's indentation, if it sets one, is the text of its literal.
abbrev pub HasCookedIndentation : Ast → Type 0
HasCookedIndentation ast = IfSome (items_indentation ast.items.items) MatchesLiteral
