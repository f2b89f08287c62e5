-- Tokens: classes of bytes, the state of the lexer, the next token, and the tokens of a text.
pub mod BlankLines
pub mod Bodies
pub mod Bytes
pub mod LexResult
pub mod Lexed
pub mod LexicalFault
pub mod LiteralParts
pub mod LiteralText
pub mod Modes
pub mod Next
pub mod Pieces
pub mod Places
pub mod SignificantTokens
pub mod Tok
pub mod Unclosed
