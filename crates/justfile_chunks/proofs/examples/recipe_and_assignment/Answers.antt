use Rattle.std.proofs.Common.{[], refl, codes}
use Rattle.std.specs.Char.{encode_utf8}
use Rattle.std.specs.Str.{chars, is_utf8}
use Rattle.justfile_vocabulary.specs.ByteClass.{class_of}
use Rattle.justfile_model.specs.Lexing.Bytes.{closes_levels}
use Rattle.justfile_model.specs.Lexing.LiteralText.{pieces_len}
use Rattle.justfile_model.specs.Lexing.Next.{body_token, fixed_token, token_by_class, token_within_line, layout, literal_part, next}
use Rattle.justfile_model.specs.Lexing.Places.{column_at, last_line_start, line_of_offset}
use Rattle.justfile_model.proofs.Lexing.AnswerLaws.{at, fault_of, is_eof, span_of}
use Rattle.justfile_model.proofs.Lexing.Computed.{answer, computed}
use Rattle.justfile_chunks.proofs.CutUp.{cut_up}
use Rattle.justfile_chunks.proofs.examples.recipe_and_assignment.Goals as goal

pub returns : goal.returns
unfolding answer at fault_of is_eof span_of class_of closes_levels pieces_len body_token fixed_token token_by_class token_within_line layout literal_part next column_at last_line_start line_of_offset chars encode_utf8 is_utf8
returns c = record { lexed = computed (codes "# d\nfoo:\n  a\n\nx:='y'\n") refl; parts = (cut_up [] _ _).are }
