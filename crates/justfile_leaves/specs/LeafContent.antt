-- The contents of tokens and literals, which ignore positions.
use Rattle.std.specs.Prelude.{string_bytes}
use Rattle.justfile_token.specs.declared.string_literal.StringLiteral.{StringLiteral}
use Rattle.justfile_token.specs.declared.token.Token.{Token}
use Rattle.justfile_token.specs.Token.{lexeme_of}
use Rattle.justfile_model.specs.Trees.ContentLeaf.{LiteralContent, TokenContent}

abbrev pub token_content : Token → TokenContent
token_content t = record { kind = t.kind; lexeme = lexeme_of t }

abbrev pub literal_content : StringLiteral → LiteralContent
literal_content l = record { cooked = string_bytes l.cooked; expand = l.expand; kind = l.kind; part = l.part; token = token_content l.token }
