-- What the loops of the lexer have read.
use Rattle.std.proofs.Common.{◌≡◌, ◌≢◌, ◌∙◌, ◌+◌, ◌<◌, ℕ, Bool, false, not, cond, List, [], ◌∷◌, ◌++◌, drop, drop-drop, map, sym, ap, subst}
use Rattle.std.specs.Prelude.{reverse, All}
use Rattle.std.specs.Str.{IsUtf8}
use Rattle.std.proofs.lemmas.List.Elements.{All-push}
use Rattle.justfile_token.specs.declared.token.Token.{Token}
use Rattle.justfile_vocabulary.specs.declared.token_kind.TokenKind.TheVariants.{Eof}
use Rattle.justfile_model.specs.Lexing.Lexed.{Lexed}
use Rattle.justfile_model.specs.Lexing.LexResult.{IsFrom}
use Rattle.justfile_model.specs.Lexing.SignificantTokens.{TableToken, is_whitespace}
use Rattle.justfile_model.specs.Lexing.Tok.{tok_of}
use Rattle.justfile_lex.specs.Lexing.{IsLexing, Takes}
use Rattle.justfile_lex.specs.SignificantTable.{IsTableOf}
use Rattle.justfile_scan.specs.WhiteRun.{IsRunOf}
use Rattle.justfile_lex.specs.declared.lexer.Lexer.{Lexer}
use Rattle.justfile_scan.specs.declared.white_run.WhiteRun.{WhiteRun}
use Rattle.justfile_lex.proofs.LexerLemmas.{all_lexed, earlier_push, falls, left, lexes_on, taken_next}
use Rattle.justfile_lex.proofs.TableLemmas.{IsTableTo, all_significant, nothing, one_more}
use Rattle.justfile_scan.proofs.WhiteRunLemmas.{run_on}

-- The lexer is at the end of some tokens of the text.
pub record Runs (path src : List ℕ) (tokens : List Token) (l : Lexer) : Type 0 where
  pub lexing : IsLexing l (reverse (map tok_of tokens))
  pub sources : All (IsFrom path src) tokens
  pub path_is : l.path.now ≡ path
  pub src_is : l.src.now ≡ src

module _ (path src : List ℕ) (tokens : List Token) (old new : Lexer) (t : Token) (h : Runs path src tokens old) (p : Takes old new t) where
  all_from : All (IsFrom path src) (tokens ++ t ∷ [])
  all_from =
      All-push (IsFrom path src) tokens t h.sources
      (subst (λ q. IsFrom q src t) h.path_is (subst (λ q. IsFrom old.path.now q t) h.src_is p.source))

  pub runs_on : t.kind ≢ Eof → Runs path src (tokens ++ t ∷ []) new
  runs_on ne = record {
    lexing = subst (IsLexing new) (sym (earlier_push tokens t)) (lexes_on old new t p (reverse (map tok_of tokens)) h.lexing ne);
    sources = all_from;
    path_is = ap (λ (s : _). s.now) p.path_is ∙ h.path_is;
    src_is = ap (λ (s : _). s.now) p.src_is ∙ h.src_is;
  }

  pub text_lexed : t.kind ≡ Eof → Lexed src (map tok_of (tokens ++ t ∷ [])) × All (IsFrom path src) (tokens ++ t ∷ [])
  text_lexed end = (
    subst (λ text. Lexed text (map tok_of (tokens ++ t ∷ []))) h.src_is
        (all_lexed old.src.now tokens t h.lexing.begins (taken_next old new t p (reverse (map tok_of tokens)) h.lexing) end),
    all_from,
  )

  pub shorter : IsUtf8 src → t.kind ≢ Eof → left new < left old
  shorter utf8 ne = falls old new t p (subst IsUtf8 (sym h.src_is) utf8) h.lexing.placed ne

-- the white bytes after a token
pub white_after : (old new : Lexer) (t : Token) (len : ℕ) (rest : List ℕ) (run : WhiteRun) → Takes old new t → t.length ≡ len → rest ≡ drop old.offset old.src.now → IsRunOf rest run
    → IsRunOf (drop new.offset new.src.now) run
white_after old new t len rest run p is rest_is h =
    let offset_is : new.offset ≡ old.offset + len = p.offset_is ∙ ap (λ (n : ℕ). old.offset + n) is in
    let after = run_on (drop old.offset old.src.now) run len (subst (λ bs. IsRunOf bs run) rest_is h) in
    let there = drop-drop len old.offset old.src.now ∙ (λ i. drop (sym offset_is i) (sym p.src_is i).now) in
    subst (λ bs. IsRunOf bs run) there after

-- The lexer is at the end of some tokens of the text, of which this is the table.
pub record ReadsTable (path src : List ℕ) (l : Lexer) (glued : Bool) (table : List TableToken) : Type 0 where
  pub tokens : List Token
  pub runs : Runs path src tokens l
  pub is_table : IsTableTo tokens glued table

pub begins : (path src : List ℕ) (l : Lexer) (table : List TableToken) → IsLexing l [] → l.path.now ≡ path → l.src.now ≡ src → All (IsFrom path src) [] → table ≡ [] → ReadsTable path src l false table
begins path src l table lexing path_is src_is none is = record {
  tokens = [];
  runs = record { lexing = lexing; sources = none; path_is = path_is; src_is = src_is };
  is_table = subst (IsTableTo [] false) (sym is) nothing;
}

module _ (path src : List ℕ) (old new : Lexer) (t : Token) (p : Takes old new t) (before after : Bool) (so_far table : List TableToken) (h : ReadsTable path src old before so_far)
    (after_is : after ≡ not (is_whitespace t.kind)) (table_is : table ≡ so_far ++ cond (is_whitespace t.kind) [] ((t, before) ∷ [])) where
  table_to : IsTableTo (h.tokens ++ t ∷ []) after table
  table_to = one_more h.tokens before so_far t h.is_table after table after_is table_is

  pub reads_on : t.kind ≢ Eof → ReadsTable path src new after table
  reads_on ne = record { tokens = h.tokens ++ t ∷ []; runs = runs_on path src h.tokens old new t h.runs p ne; is_table = table_to }

  pub ends : t.kind ≡ Eof → IsTableOf path src table
  ends end =
      let whole = text_lexed path src h.tokens old new t h.runs p end in
      record { tokens = h.tokens ++ t ∷ []; lexed = whole.0; sources = whole.1; significant = all_significant (h.tokens ++ t ∷ []) after table table_to }
