-- The lemmas on the parser's items that crates above cite.
pub use Rattle.justfile_parse_item.proofs.CounterBounds.{mark_depth, mark_fewer}
pub use Rattle.justfile_parse_item.proofs.Seen.{IsFilledPair, all_seen, each_seen, line_seen, name_seen, respects, seen, seen_expression, string_seen, variable_seen}
pub use Rattle.justfile_parse_item.proofs.SeenAttributes.{IsKept, attributed, if_seen, quoted_seen}
pub use Rattle.justfile_parse_item.proofs.Shebangs.{shebang_given}
