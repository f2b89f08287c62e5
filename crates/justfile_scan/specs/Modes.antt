-- The mode of the code as a mode of the definitions. The stacks of the code have the innermost element last.
use Rattle.std.specs.Prelude.{map, reverse, option_map, Option, None, Some}
use Rattle.justfile_token.specs.declared.token.Token.{Token}
use Rattle.justfile_vocabulary.specs.declared.token_kind.TokenKind.{TokenKind}
use Rattle.justfile_vocabulary.specs.declared.token_kind.TokenKind.TheVariants.{InterpolationStart, InterpolationEnd}
use Rattle.justfile_model.specs.Lexing.Tok.{tok_of}
use Rattle.justfile_model.specs.Lexing.Modes.{Mode}
use Rattle.justfile_scan.specs.declared.mode.Mode.{Mode as CodeMode}

abbrev pub mode_of : CodeMode → Mode
mode_of m = record {
  openers = reverse m.openers.items;
  levels = reverse (map (λ level. level.now) m.levels.items);
  colon = m.colon;
  in_body = m.in_body;
  interpolation = option_map tok_of m.interpolation;
  line_start = m.line_start;
  after_f = m.after_f;
}

-- the start of the open interpolation after this token
abbrev pub interpolation_start_by : TokenKind → Token → Option Token → Option Token
interpolation_start_by InterpolationStart t before = Some t
interpolation_start_by InterpolationEnd t before = None
interpolation_start_by _ t before = before

abbrev pub interpolation_after : Token → Option Token → Option Token
interpolation_after t before = interpolation_start_by t.kind t before
