-- What holds for the tokens of each text.
pub mod AnswerLaws
pub mod BlankLineLaws
pub mod BodyLaws
pub mod ColumnLaws
pub mod CommentEnds
pub mod Computed
pub mod CutLemmas
pub mod LexedLaws
pub mod LiteralPartLaws
pub mod ModeLaws
pub mod NextLaws
pub mod PieceLaws
pub mod Spelled
pub mod UnclosedLaws
