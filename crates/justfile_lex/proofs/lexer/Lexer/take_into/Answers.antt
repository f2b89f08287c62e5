use Rattle.std.proofs.Common.{◌≡◌, Bool, List, true, false, not, cond, [], ◌∷◌, ◌++◌, sym, ap, ◌∙◌, rules, append-nil}
use Rattle.justfile_token.specs.declared.token.Token.{Token}
use Rattle.justfile_model.specs.Lexing.SignificantTokens.{is_whitespace}
use Rattle.std.proofs.lemmas.Str.{IsCharBoundary-from_rest}
use Rattle.justfile_model.specs.Lexing.Tok.{tok_of}
use Rattle.justfile_lex.proofs.LexerLemmas.{lexeme_len, stands_at, taken_as}
use Rattle.justfile_lex.proofs.lexer.Lexer.take_into.Goals as goal

abbrev Entries : Type 0
Entries = List (Token × Bool)

pub returns-then-is_whitespace : goal.returns-then-is_whitespace
returns-then-is_whitespace c =
    let taken = c.in_ok-take.ensures in
    let t = c.in_ok-take.field-0 in
    let so_far = c.args.table.now.items in
    let kind : is_whitespace c.args.kind ≡ true = search (rules, c.if-is_whitespace.ensures) in
    let white : is_whitespace t.kind ≡ true = ap is_whitespace taken.kind ∙ kind in
    let add : Bool → Entries = λ b. so_far ++ cond b [] ((t, c.args.glued) ∷ []) in
    record {
      token = t;
      takes = taken.takes;
      kind_is = taken.kind;
      length_is = taken.length;
      after_is = sym (ap not white);
      table_is = sym (append-nil so_far) ∙ ap add (sym white);
    }

pub make_token-requires : goal.make_token-requires
make_token-requires c =
    let at = c.requires.reading.lexing.placed.cut in
    let end = IsCharBoundary-from_rest _ _ _ at.0 c.requires.boundary in
    (end.0, at, end)

pub returns : goal.returns
returns c =
    let l = c.args.self.now in
    let taken = c.in_ok-take-2.ensures in
    let t = c.make_token.result in
    let is = c.make_token.ensures.at in
    let fits = c.requires.boundary.0 in
    let so_far = c.args.table.now.items in
    let kind : is_whitespace c.args.kind ≡ false = search (rules, c.if-is_whitespace.ensures) in
    let other : is_whitespace t.kind ≡ false = ap is_whitespace is.kind_is ∙ kind in
    let add : Bool → Entries = λ b. so_far ++ cond b [] ((t, c.args.glued) ∷ []) in
    let stands = stands_at l c.args.kind c.args.length (tok_of t) is fits c.requires.reading.lexing.placed in
    let long = lexeme_len l c.args.kind c.args.length (tok_of t) is fits ∙ sym c.make_token.ensures.length in
    record {
      token = t;
      takes = taken_as l _ t c.in_ok-take-2.field-0 taken.takes stands long c.make_token.ensures.source (is.kind_is ∙ sym taken.kind) (c.make_token.ensures.length ∙ sym taken.length);
      kind_is = is.kind_is;
      length_is = c.make_token.ensures.length;
      after_is = sym (ap not other);
      table_is = c.in_ok-push.ensures.items ∙ ap add (sym other);
    }
