-- The text of good attributes lexes to the printer's tokens.
use Rattle.std.proofs.Common.{ℕ, Bool, false, List, [], ◌∷◌, Option, Some, None, refl}
use Rattle.justfile_token.specs.declared.delimiter.Delimiter.TheVariants.{Bracket, Paren}
use Rattle.justfile_vocabulary.specs.declared.token_kind.TokenKind.TheVariants.{BracketL, Comment}
use Rattle.justfile_vocabulary.specs.ByteClass.{class_of}
use Rattle.justfile_model.specs.declared.open_delimiter.OpenDelimiter.{OpenDelimiter}
use Rattle.justfile_model.specs.Lexing.Modes.{opener}
use Rattle.justfile_model.specs.Lexing.Next.{token_by_class}
use Rattle.justfile_model.specs.Lexing.Tok.{Tok}
use Rattle.justfile_model.specs.Trees.Tree.{Positional, Bare, Keyed}
use Rattle.justfile_round_trip.proofs.LiteralTexts.LexedModes.{Sign, sign, space, newline, Lexes, text_of, step}
use Rattle.justfile_round_trip.proofs.LiteralTexts.Inline.{Goes, goes, name_then, amid, fixed_utf8, space_step}
use Rattle.justfile_round_trip.proofs.Fixed as fixed
use Rattle.justfile_round_trip.proofs.Fixed.{close_step, equals_step, open_step, token_step}
use Rattle.justfile_round_trip.proofs.RecipeBodies.Lines.{ItemLexes, at_item, comment_no_blank, comment_step, item_next, line_end}
use Rattle.justfile_round_trip.proofs.Canon.{paren_right}
use Rattle.justfile_round_trip.proofs.Attributes.CanonAttributes.{Argument, Written, bracket_left, bracket_right, argument_signs, other_arguments_signs, parenthesized_signs, comment_signs, written_signs, attributes_signs}
use Rattle.justfile_round_trip.proofs.Values.LexesValues.{Starts, lex_value, named, spaced}
use Rattle.justfile_round_trip.proofs.Good.{GoodComment, GoodOptionalComment}
use Rattle.justfile_round_trip.proofs.Attributes.GoodAttributes.{GoodArgument, GoodArguments, GoodWritten, AllGoodWritten}

-- the bracket that begins a line of attributes
item_bracket : (c : Bool) {ts : List Sign} → ((line : ℕ) → Lexes (amid (opener Bracket line ∷ []) [] c None false) ts) → ItemLexes c (bracket_left ∷ ts)
unfolding token_by_class class_of
item_bracket c {ts} k = record {
  lexes = step (at_item c) BracketL (91 ∷ []) ts (fixed_utf8 (91 ∷ []) refl) (item_next c 91 (text_of ts) refl) (λ e. cc) (λ o n col. k n);
  begins = refl;
}

-- a comment, the end of its line, and the text after that
pub trailing : (c f : Bool) (t : List ℕ) {ts : List Sign} → GoodComment t → Lexes (at_item c) ts → Lexes (amid [] [] c None f) (space ∷ sign Comment t ∷ newline ∷ ts)
trailing c f t good k = space_step (comment_no_blank t _ good.comment) (comment_step [] [] c None false t good.comment good.utf8 (line_end c false k))

-- a comment or none
pub commented_end : (c : Bool) (comment : Option (List ℕ)) {ts : List Sign} → GoodOptionalComment comment → Lexes (at_item c) ts → Goes [] [] c None (comment_signs comment (newline ∷ ts))
unfolding class_of
commented_end c None h k = goes refl (λ f. line_end c f k)
commented_end c (Some t) h k = goes refl (λ f. trailing c f t h k)

module _ (limit : ℕ) where
  module _ (ls : List (List ℕ)) (c : Bool) (i : Option Tok) where
    lex_argument : (keys : Bool) (os : List OpenDelimiter) (a : Argument) {ts : List Sign} → GoodArgument limit keys a → Goes os ls c i ts → Starts os ls c i (argument_signs a ts)
    unfolding class_of
    lex_argument keys os (Positional first value) h k = lex_value ls c i os value h.0.lexes k
    lex_argument keys os (Bare key) h k = named key h.0 k
    lex_argument keys os (Keyed key value) h k =
        let v = lex_value ls c i os value h.2.lexes k in named key h.0 (goes refl (λ f. equals_step v.begins.no_equals v.begins.no_tilde v.lexes))

    lex_others : (keys : Bool) (os : List OpenDelimiter) (line : ℕ) (arguments : List Argument) {ts : List Sign} → GoodArguments limit keys arguments
        → Lexes (amid os ls c i false) ts → Goes (opener Paren line ∷ os) ls c i (other_arguments_signs arguments (paren_right ∷ ts))
    unfolding class_of
    lex_others keys os line [] h k = goes refl (λ f. close_step fixed.end_paren k)
    lex_others keys os line (a ∷ arguments) h k =
        goes refl (λ f. token_step fixed.comma (spaced (lex_argument keys (opener Paren line ∷ os) a h.0 (lex_others keys os line arguments h.1 k))))

    -- the text after the name of an attribute
    lex_parenthesized : (keys : Bool) (os : List OpenDelimiter) (line : ℕ) (arguments : List Argument) {ts : List Sign} → GoodArguments limit keys arguments
        → Lexes (amid os ls c i false) ts → Goes (opener Bracket line ∷ os) ls c i (parenthesized_signs arguments (bracket_right ∷ ts))
    unfolding class_of
    lex_parenthesized keys os line [] h k = goes refl (λ f. close_step fixed.end_bracket k)
    lex_parenthesized keys os line (a ∷ arguments) h k =
        goes refl (λ f. open_step fixed.paren
        (λ inner. (lex_argument keys (opener Paren inner ∷ opener Bracket line ∷ os) a h.0
        (lex_others keys (opener Bracket line ∷ os) inner arguments h.1 (close_step fixed.end_bracket k))).lexes))

  -- a line with an attribute, from its start to the start of the next one
  lex_written : (c : Bool) (w : Written) {ts : List Sign} → GoodWritten limit w → Lexes (at_item c) ts → ItemLexes c (written_signs w ts)
  lex_written c w h k =
      item_bracket c (λ line. name_then w.name h.named
      (lex_parenthesized [] c None _ [] line w.arguments h.arguments ((commented_end c w.comment h.comment k).lexes false)))

  pub lex_attributes : (c : Bool) (ws : List Written) {ts : List Sign} → AllGoodWritten limit ws → ItemLexes c ts → ItemLexes c (attributes_signs ws ts)
  lex_attributes c [] h k = k
  lex_attributes c (w ∷ ws) h k = lex_written c w h.0 (lex_attributes c ws h.1 k).lexes
