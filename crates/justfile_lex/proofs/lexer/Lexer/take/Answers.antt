use Rattle.std.proofs.Common.{◌+◌, ℕ, sym, refl, ap, subst, ◌∙◌}
use Rattle.std.specs.Prelude.{Ok, IfSome}
use Rattle.std.proofs.lemmas.Str.{IsCharBoundary-from_rest}
use Rattle.justfile_model.specs.Lexing.Tok.{tok_of}
use Rattle.justfile_model.specs.Lexing.LexResult.{IsFrom}
use Rattle.justfile_lex.proofs.LexerLemmas.{lexeme_len, stands_at, interpolation_from}
use Rattle.justfile_lex.proofs.lexer.Lexer.take.Goals as goal

pub make_token-token-requires : goal.make_token-token-requires
make_token-token-requires c =
    let at = c.requires.reading.lexing.placed.cut in
    let end = IsCharBoundary-from_rest _ _ _ at.0 c.requires.boundary in
    (end.0, at, end)

pub place_past-place-requires-clause-within : goal.place_past-place-requires-clause-within
place_past-place-requires-clause-within c =
    let at = c.requires.reading.lexing.placed.cut in
    let end = IsCharBoundary-from_rest _ _ _ at.0 c.requires.boundary in
    (end.0, at, end)

pub returns : goal.returns
returns c =
    let l = c.args.self.now in
    let at = c.requires.reading.lexing.placed.cut in
    let end = IsCharBoundary-from_rest _ _ _ at.0 c.requires.boundary in
    let fits = c.requires.boundary.0 in
    let t = c.make_token-token.result in
    let is = c.make_token-token.ensures.at in
    let len = lexeme_len l c.args.kind c.args.length (tok_of t) is fits in
    record {
      takes = record {
        found = c.requires.next_token ∙ (λ i. Ok (sym is.kind_is i, sym c.make_token-token.ensures.length i));
        stands = stands_at l c.args.kind c.args.length (tok_of t) is fits c.requires.reading.lexing.placed;
        length_is = len ∙ sym c.make_token-token.ensures.length;
        source = c.make_token-token.ensures.source;
        mode_is = c.in_ok-note.ensures.mode;
        interpolation_is = subst (λ i. IfSome i (IsFrom l.path.now l.src.now)) (sym c.in_ok-note.ensures.interpolation) (interpolation_from _ _ t.kind t _ c.make_token-token.ensures.source c.requires.reading.lexing.interpolation_is);
        path_is = refl;
        src_is = refl;
        offset_is = ap (λ (n : ℕ). l.offset + n) (sym c.make_token-token.ensures.length);
        placed = record { cut = end; place = c.place_past-place.ensures };
      };
      kind = is.kind_is;
      length = c.make_token-token.ensures.length;
    }
