-- The chunks of a text, what they derive, and their spans.
pub use Rattle.justfile_chunks.specs.Chunks.{AreParts, Chunk, ChunksHave, Each, FollowOn, HasShape, HasTokens, HasTree, IsCut, NumberLaw, NumbersOf, Parts, ShapeFeatures, ShapeLaw, TokenLaw, TreeLaw, after_feed, chunk_texts, chunks_of, first_chunk, first_line, first_offset, joined, later_chunk, moved, moved_item, text_of, with_bytes}
pub use Rattle.justfile_chunks.specs.Parts.{AreRead, BeginsAtOnce, IsRead, IsReadBefore, JoinedShapeLaw, ParsedChunk, PartsLaw, ReadLaw, chunk, features_in_text, items_in_text}
pub use Rattle.justfile_chunks.specs.Spans.{AreChunks, IsIn, Tile, span_of, text_from_feed, text_in, texts_in}
