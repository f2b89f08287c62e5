-- What is read of a table, and what that implies for its tokens.
use Rattle.std.proofs.Common.{◌≡◌, ◌⊎◌, ℕ, ◌+◌, ◌<◌, ◌≤◌, Bool, true, false, ◌&&◌, cond, IsTrue, rules, List, [], ◌∷◌, ◌++◌, map, length, All, Contains, Some, Result, Ok, Err, inl, inr, refl, sym, ap, ◌∙◌, subst, arith}
use Rattle.std.specs.Prelude.{◌-◌, ◌^◌, IfOk, codes, get_or, nat_eq, reverse, string_bytes}
use Rattle.std.specs.List.{list_all, starts_with}
use Rattle.std.proofs.lemmas.Bool.Decides.{nat_tests}
use Rattle.std.proofs.lemmas.List.{length-map, reverse-append, reverse-reverse}
use Rattle.std.proofs.lemmas.List.Elements.{All-contains, All-weaker}
use Rattle.justfile_token.specs.CompileErrorKind.{tokens_in}
use Rattle.justfile_token.specs.Modulepath.{module_names, names_of}
use Rattle.justfile_token.specs.StringKind.{delimiter_len, kind_of}
use Rattle.justfile_token.specs.Token.{lexeme_of}
use Rattle.justfile_numbers.specs.Numerator.{bindings_of, recipes_of}
use Rattle.justfile_token.specs.declared.fault.Fault.{Fault}
use Rattle.justfile_token.specs.declared.fault.Fault.TheVariants as faults
use Rattle.justfile_numbers.specs.declared.numerator.Numerator.{Numerator}
use Rattle.justfile_token.specs.declared.source.Source.{Source}
use Rattle.justfile_token.specs.declared.token.Token.{Token}
use Rattle.justfile_vocabulary.specs.declared.token_kind.TokenKind.{TokenKind}
use Rattle.justfile_vocabulary.specs.declared.token_kind.TokenKind.TheVariants as kinds
use Rattle.std.specs.Str.{IsUtf8}
use Rattle.justfile_round_trip.specs.RoundTrip.{TextDerives}
use Rattle.justfile_round_trip.proofs.LiteralTexts.Quoted.{AreFramed, AreQuoted, IsFramed, IsQuoted, lexed_framed, lexed_quoted}
use Rattle.justfile_ast.specs.Ast.{features_of, tree_of}
use Rattle.justfile_ast.specs.declared.ast.Ast.{Ast}
use Rattle.justfile_model.specs.Lexing.LexResult.{IsFrom, IsLexerFault}
use Rattle.justfile_model.specs.Grammars.Conditions.{Conditions, with_limit}
use Rattle.justfile_model.specs.Grammars.Files.{FileDerives, NumbersSuffice, ordered}
use Rattle.justfile_model.specs.Lexing.Lexed.{Lexed, IsFault}
use Rattle.justfile_model.specs.Lexing.LexicalFault.{LexicalFault, lexical_fault_of}
use Rattle.justfile_model.specs.Grammars.Features.{Noted}
use Rattle.justfile_vocabulary.specs.declared.list_feature.ListFeature.{ListFeature}
use Rattle.justfile_model.specs.Trees.LeafView.{views_tokens}
use Rattle.justfile_model.specs.Readers.TreeReader as model
use Rattle.justfile_model.specs.Lexing.SignificantTokens.{SignificantToken, is_whitespace, significant_from, significant_tokens}
use Rattle.justfile_model.specs.Lexing.Tok.{Tok, tok_of}
use Rattle.justfile_model.specs.Trees.Tree.{Tree, WrittenTree}
use Rattle.justfile_model.proofs.Lexing.LexedLaws.{one_list, never_both}
use Rattle.std.proofs.lemmas.Bool.{cases_order}
use Rattle.justfile_model.proofs.Sound.Agreement.{complete, due, refused}
use Rattle.justfile_model.proofs.Derivations.Needs.{deep_at, only_deep, raised}
use Rattle.justfile_model.proofs.Sound.FileObeys.{sound}
use Rattle.justfile_model.proofs.Meanings.Ordered.{ordered_bindings, ordered_recipes}
use Rattle.justfile_parse_docs.specs.ParsedItems.{IsFilledItem, IsInTable}
use Rattle.justfile_literal.specs.Literal.{is_framed, is_quoted}
use Rattle.justfile_parse_file.specs.Errors.{IsErrorOf, IsTooDeepError}
use Rattle.justfile_parse_expression.specs.Literal.{is_delimited, is_sound}
use Rattle.justfile_parse_file.specs.Parsing.{HasNoTree, IsOneLex, IsParsed, IsParsedText, IsUnparsed}
use Rattle.justfile_parse_file.specs.MethodResults.{IsReadFile, IsUnread}
use Rattle.justfile_parse_expression.specs.Significant.{TableToken, significant_of}
use Rattle.justfile_parse_file.specs.WantsNumber.{WantsNumber}
pub use Rattle.justfile_parse_file.proofs.Filled.{given_weaker}
use Rattle.justfile_parse_file.proofs.Filled.{items_cook}
use Rattle.justfile_parse_file.proofs.ErrorTokens.{lexical_held}
use Rattle.justfile_parse_file.proofs.NotInternal.{not_internal, not_lexical, refusal_not_internal}
use Rattle.justfile_round_trip.proofs.Values.TokenFacts.{Around, LexedComment, LexemeFact, Sound, around, is_comment, lexed_sound, outside}

ok_is_no_error : (e : model.ReadError) (x : WrittenTree × List (Noted Tok)) (found : Result (WrittenTree × List (Noted Tok)) model.ReadError) → found ≡ Err e → found ≡ Ok x → ⊥
ok_is_no_error e x found h k = let both : ◌≡◌ {A = Result (WrittenTree × List (Noted Tok)) model.ReadError} (Err e) (Ok x) = sym h ∙ k in cc

-- ---- the tokens of one lex

longer : (b : Bool) (t : SignificantToken) (ts us : List SignificantToken) → 0 < length ts → 0 < length (cond b ts (t ∷ us))
longer true t ts us h = h
longer false t ts us h = omega arith

pub some_significant : (glued : Bool) (ts : List Tok) (last : Tok) → last.kind ≡ kinds.Eof → 0 < length (significant_from glued (ts ++ last ∷ []))
some_significant glued [] last h =
    let P : Bool → Type 0 = λ b. 0 < length (cond {A = List SignificantToken} b [] (record { tok = last; glued = glued } ∷ [])) in
    let e : is_whitespace last.kind ≡ false = ap is_whitespace h in
    subst P (sym e) (omega arith)
some_significant glued (t ∷ ts) last h = longer (is_whitespace t.kind) (record { tok = t; glued = glued }) (significant_from false (ts ++ last ∷ [])) (significant_from true (ts ++ last ∷ [])) (some_significant false ts last h)

in_front : (text : List ℕ) (ts : List Tok) (l : Lexed text ts) → ts ≡ reverse l.earlier ++ (l.last ∷ [])
in_front text ts l = sym (reverse-reverse ts) ∙ ap reverse l.are ∙ reverse-append (l.last ∷ []) l.earlier

pub nonempty : (text : List ℕ) (ts : List Tok) (table : List TableToken) → Lexed text ts → map significant_of table ≡ significant_tokens ts → 0 < length table
nonempty text ts table l is =
    let n : 0 < length (significant_from false (reverse l.earlier ++ l.last ∷ [])) = some_significant false (reverse l.earlier) l.last l.is_end in
    omega (arith, n, ap (λ (us : List Tok). length (significant_from false us)) (in_front text ts l), ap length is, length-map table significant_of)

begins_with : (l : List ℕ) → get_or l 0 0 ≡ 35 → starts_with nat_eq l (codes "#") ≡ true
begins_with [] h = cc
begins_with (b ∷ bs) h = ap (λ (x : ℕ). starts_with nat_eq (x ∷ bs) (codes "#")) h

-- each comment begins with a number sign
abbrev AreComments : List SignificantToken → Type 0
AreComments [] = Unit {0}
AreComments (t ∷ ts) = (t.tok.kind ≡ kinds.Comment → starts_with nat_eq t.tok.lexeme (codes "#") ≡ true) × AreComments ts

sound_comments : (s : Around) (comment : Bool) (ts : List SignificantToken) → Sound s comment ts → AreComments ts
sound_comments s comment [] h = tt
sound_comments s comment (t ∷ ts) h = (
  λ kind. let c : LexedComment t.tok.lexeme = subst (λ k. LexemeFact s k t.tok.lexeme) kind h.0.fact in begins_with t.tok.lexeme c.was.first,
  sound_comments (around t.tok.kind t.tok.lexeme s) (is_comment t.tok.kind) ts h.2,
)

lexed_comments : (text : List ℕ) (tokens : List Tok) → IsUtf8 text → Lexed text tokens → AreComments (significant_tokens tokens)
lexed_comments text tokens u l = sound_comments outside false (significant_tokens tokens) (lexed_sound text tokens u l)

framed_by : (front end : ℕ) (bytes : List ℕ) → front + end ≤ length bytes → get_or bytes (front - 1) 0 < 128 → get_or bytes (length bytes - end) 0 < 128 → is_framed front end bytes ≡ true
framed_by front end bytes long before following = grind (arith, nat_tests, long, before, following)

quoted_test : (bytes : List ℕ) → IsQuoted bytes → is_quoted bytes ≡ true
quoted_test bytes h = framed_by (delimiter_len (kind_of bytes)) (delimiter_len (kind_of bytes)) bytes h.long h.before h.following

pub framed_test : (front end : ℕ) (bytes : List ℕ) → IsFramed front end bytes → is_framed front end bytes ≡ true
framed_test front end bytes h = framed_by front end bytes h.long h.before h.following

-- each literal between delimiters, each part of a format string but the last, and each comment is delimited
delimited : (kind : TokenKind) (bytes : List ℕ) → (kind ≡ kinds.StringToken → IsQuoted bytes) → (kind ≡ kinds.Backtick → IsQuoted bytes)
    → (kind ≡ kinds.FormatStringStart → IsFramed (delimiter_len (kind_of bytes)) 2 bytes) → (kind ≡ kinds.FormatStringContinue → IsFramed 2 2 bytes)
    → (kind ≡ kinds.Comment → starts_with nat_eq bytes (codes "#") ≡ true) → is_delimited kind bytes ≡ true
delimited kinds.StringToken bytes string command start part comment = quoted_test bytes (string refl)
delimited kinds.Backtick bytes string command start part comment = quoted_test bytes (command refl)
delimited kinds.FormatStringStart bytes string command start part comment = framed_test (delimiter_len (kind_of bytes)) 2 bytes (start refl)
delimited kinds.FormatStringContinue bytes string command start part comment = framed_test 2 2 bytes (part refl)
delimited kinds.Comment bytes string command start part comment = comment refl
delimited _ bytes string command start part comment = refl

sound_table : (table : List TableToken) → AreQuoted (map significant_of table) → AreFramed (map significant_of table) → AreComments (map significant_of table)
    → list_all is_sound table ≡ true
sound_table [] h k c = refl
sound_table (table_token ∷ table) h k c =
    λ i. delimited table_token.0.kind (lexeme_of table_token.0) h.0 h.1 k.0 k.1 c.0 i && sound_table table h.2 k.3 c.1 i

pub sound_lex : (tokens : List Token) (table : List TableToken) → IsOneLex tokens → map significant_of table ≡ significant_tokens (map tok_of tokens) → IsTrue (list_all is_sound table)
sound_lex tokens table l is =
    let ts = map tok_of tokens in
    let e : list_all is_sound table ≡ true
    = sound_table table (subst AreQuoted (sym is) (lexed_quoted l.text ts l.utf8 l.lexed)) (subst AreFramed (sym is) (lexed_framed l.text ts l.utf8 l.lexed))
    (subst AreComments (sym is) (lexed_comments l.text ts l.utf8 l.lexed)) in
    search (rules, e)

-- ---- what was given

pub in_tokens : (tokens : List Token) (table : List TableToken) → All (λ table_token. Contains tokens table_token.0) table → (t : Token) → IsInTable table t → Contains tokens t
in_tokens tokens table all t h = All-contains (λ (table_token : TableToken). Contains tokens table_token.0) table (t, h.glued) all h.among

-- ---- what is read derives

pub read_derives : (conditions : Conditions) (tokens : List SignificantToken) (written : WrittenTree) (tree : Tree) (features : List (Noted Tok))
    → model.tree_of_tokens conditions tokens ≡ Ok (written, features) → ordered (views_tokens conditions.expander) written ≡ Some tree
    → FileDerives conditions tokens tree features
read_derives conditions tokens written tree features read meaning =
    let x = sound conditions tokens written features read in
    let e : Some x.0 ≡ Some tree = sym x.1 ∙ meaning in
    let same : x.0 ≡ tree = cc in
    subst (λ (t : Tree). FileDerives conditions tokens t features) same x.2

module _ (conditions : Conditions) (tokens : List Token) (table : List TableToken) (old new : Numerator) (is : map significant_of table ≡ significant_tokens (map tok_of tokens)) where
  -- the tokens of a lex are those of its table
  abbrev Derives : Tree → List (Noted Tok) → Type 0
  Derives tree features = FileDerives conditions (significant_tokens (map tok_of tokens)) tree features

  abbrev there : Result (WrittenTree × List (Noted Tok)) model.ReadError
  there = model.tree_of_tokens conditions (map significant_of table)

  found_under : (limit : ℕ) (tree : Tree) (features : List (Noted Tok)) → FileDerives (with_limit limit conditions) (significant_tokens (map tok_of tokens)) tree features
      → (written : WrittenTree) × (ordered (views_tokens conditions.expander) written ≡ Some tree) × (model.tree_of_tokens (with_limit limit conditions) (map significant_of table) ≡ Ok (written, features))
  found_under limit tree features d =
      let x = complete (with_limit limit conditions) (significant_tokens (map tok_of tokens)) tree features d in
      (x.0, x.1, ap (model.tree_of_tokens (with_limit limit conditions)) is ∙ x.2)

  found : (tree : Tree) (features : List (Noted Tok)) → Derives tree features → (written : WrittenTree) × (ordered (views_tokens conditions.expander) written ≡ Some tree) × (there ≡ Ok (written, features))
  found tree features d = found_under conditions.limit tree features d

  pub derives_of : (written : WrittenTree) (tree : Tree) (features : List (Noted Tok)) → there ≡ Ok (written, features) → ordered (views_tokens conditions.expander) written ≡ Some tree → Derives tree features
  derives_of written tree features h meaning =
      read_derives conditions (significant_tokens (map tok_of tokens)) written tree features (sym (ap (model.tree_of_tokens conditions) is) ∙ h) meaning

  pub unparsed_of : All (λ table_token. Contains tokens table_token.0) table → (fault : Fault)
      → IsUnread conditions (map significant_of table) (IsInTable table) old new fault
      → IsUnparsed conditions (map tok_of tokens) (Contains tokens) old new fault
  unparsed_of all (faults.Compile e) h =
      let ts = significant_tokens (map tok_of tokens) in
      let read : model.tree_of_tokens conditions ts ≡ Err h.refusal = sym (ap (model.tree_of_tokens conditions) is) ∙ h.read in
      let error : IsErrorOf ts h.refusal e = subst (λ (us : List SignificantToken). IsErrorOf us h.refusal e) is h.error in
      record {
        derives_none = λ tree features d. let x = found tree features d in ok_is_no_error h.refusal (x.0, features) there h.read x.2;
        among = in_tokens tokens table all e.token h.among;
        held = All-weaker (IsInTable table) (Contains tokens) (in_tokens tokens table all) (tokens_in e.kind) h.held;
        not_internal = refusal_not_internal ts h.refusal e error;
        refused = record {
          refusal = h.refusal;
          read = read;
          error = error;
          breaks = λ written features d. refused conditions ts written features d h.refusal read;
          breaks_at = λ written features Hit d. due conditions ts written features Hit d h.refusal read;
        };
        deep = λ limit tree features d.
            let x = only_deep conditions ts limit tree features d h.refusal read in
            let E : model.ReadError → Type 0 = λ r. IsErrorOf ts r e in
            record {
              kind_is = (subst E x.1 error).0;
              at_one = λ fs Hit waived.
                  let y = deep_at conditions ts limit tree features d h.refusal read fs Hit waived in
                  (y.0, y.1, (subst E y.2 error).1);
            };
      }
  unparsed_of all faults.Memory h = tt
  unparsed_of all faults.Numbers h =
      let P : List SignificantToken → Type 0 = λ ts. WantsNumber conditions ts old new in
      (subst P is h.0, λ limit tree features d enough. by_order limit tree features d enough (cases_order conditions.limit limit))
    where
      -- under a limit that isn't less
      under : (limit : ℕ) → conditions.limit ≤ limit → (tree : Tree) (features : List (Noted Tok)) → FileDerives (with_limit limit conditions) (significant_tokens (map tok_of tokens)) tree features
          → NumbersSuffice (bindings_of old) (recipes_of old) tree → ⊥
      under limit above tree features d enough =
          let x = found_under limit tree features d in
          h.1 limit above x.0 features x.2 (record {
            bindings_suffice = subst (λ (n : ℕ). bindings_of old + n ≤ 2 ^ 32 - 1) (ordered_bindings (views_tokens conditions.expander) x.0 tree x.1) enough.bindings_suffice;
            recipes_suffice = subst (λ (n : ℕ). recipes_of old + n ≤ 2 ^ 32 - 1) (ordered_recipes (views_tokens conditions.expander) x.0 tree x.1) enough.recipes_suffice;
          })

      by_order : (limit : ℕ) (tree : Tree) (features : List (Noted Tok)) → FileDerives (with_limit limit conditions) (significant_tokens (map tok_of tokens)) tree features
          → NumbersSuffice (bindings_of old) (recipes_of old) tree → (conditions.limit ≡ limit) ⊎ ((conditions.limit < limit) ⊎ (limit < conditions.limit)) → ⊥
      by_order limit tree features d enough (inl same) = under limit (omega (arith, same)) tree features d enough
      by_order limit tree features d enough (inr (inl less)) = under limit (omega (arith, less)) tree features d enough
      by_order limit tree features d enough (inr (inr more)) =
          under conditions.limit (omega arith) tree features
          (raised (with_limit limit conditions) (significant_tokens (map tok_of tokens)) conditions.limit (omega (arith, more)) tree features d) enough

  pub parsed_of : All (λ table_token. Contains tokens table_token.0) table → (source : Source) (ast : Ast) → IsReadFile conditions table source old new ast
      → IsParsed conditions (map tok_of tokens) (Contains tokens) source.file_depth source.import_offsets.now old new ast
  parsed_of all source ast file =
      let h = file.read in
      record {
        derives = derives_of h.written (tree_of ast) (features_of ast) h.read h.ordered_is;
        filled = record {
          cooks = (items_cook conditions.expander (IsInTable table) source.file_depth source.import_offsets.now ast.items.items h.given.given).are;
          numbered = h.given.numbered;
          recipes_numbered = h.given.recipes_numbered;
          counted = h.given.counted;
          recipes_counted = h.given.recipes_counted;
          given =
              All-weaker (IsFilledItem conditions.expander (IsInTable table) source.file_depth source.import_offsets.now) (IsFilledItem conditions.expander (Contains tokens) source.file_depth source.import_offsets.now)
              (given_weaker conditions.expander (IsInTable table) (Contains tokens) (in_tokens tokens table all) source.file_depth source.import_offsets.now) ast.items.items h.given.given;
          noted = All-weaker (λ (x : ListFeature × Token). IsInTable table x.1) (λ (x : ListFeature × Token). Contains tokens x.1) (λ x. in_tokens tokens table all x.1) ast.list_features.items h.noted.all;
          unstable = file.unstable;
        };
      }

-- what was passed
module _ (conditions : Conditions) (table : List TableToken) (source : Source) (old new : Numerator) where
  pub module_path_of : (result : Result Ast Fault) → IfOk result (IsReadFile conditions table source old new) → IfOk result (λ ast. names_of ast.module_path ≡ module_names source.namepath)
  module_path_of (Ok ast) h = h.module_path
  module_path_of (Err fault) h = tt

  pub working_directory_of : (result : Result Ast Fault) → IfOk result (IsReadFile conditions table source old new) → IfOk result (λ ast. string_bytes ast.working_directory ≡ source.working_directory.now)
  working_directory_of (Ok ast) h = h.working_directory
  working_directory_of (Err fault) h = tt

-- ---- a text

module _ (conditions : Conditions) (path src : List ℕ) (utf8 : IsUtf8 src) (tokens : List Token) (lexed : Lexed src (map tok_of tokens)) (all : All (IsFrom path src) tokens) (old new : Numerator) where
  from_tokens : (t : Token) → Contains tokens t → IsFrom path src t
  from_tokens t h = All-contains (IsFrom path src) tokens t all h

  derives_tokens : (limit : ℕ) (tree : Tree) (features : List (Noted Tok)) → TextDerives (with_limit limit conditions) src tree features
      → FileDerives (with_limit limit conditions) (significant_tokens (map tok_of tokens)) tree features
  derives_tokens limit tree features d =
      let P : List Tok → Type 0 = λ ts. FileDerives (with_limit limit conditions) (significant_tokens ts) tree features in
      subst P (one_list src d.tokens (map tok_of tokens) d.lexed lexed) d.file

  pub no_tree : (fault : Fault) → IsUnparsed conditions (map tok_of tokens) (Contains tokens) old new fault → HasNoTree conditions path src old new fault
  no_tree (faults.Compile e) h =
      record {
        derives_none = λ tree features d. h.derives_none tree features (derives_tokens conditions.limit tree features d);
        from = from_tokens e.token h.among;
        held = All-weaker (Contains tokens) (IsFrom path src) from_tokens (tokens_in e.kind) h.held;
        not_internal = h.not_internal;
        cause = inr (record { tokens = map tok_of tokens; lexed = lexed; refused = h.refused });
        deep = λ limit tree features d.
            let P : List Tok → Type 0 = λ ts. (f : FileDerives (with_limit limit conditions) (significant_tokens ts) tree features)
            → IsTooDeepError conditions (significant_tokens ts) f.written e in
            subst P (sym (one_list src d.tokens (map tok_of tokens) d.lexed lexed)) (h.deep limit tree features) d.file;
      }
  no_tree faults.Memory h = tt
  no_tree faults.Numbers h = (record { tokens = map tok_of tokens; lexed = lexed; wants = h.0 }, λ limit tree features d suffice. h.1 limit tree features (derives_tokens limit tree features d) suffice)

  pub text_parsed : (file_depth : ℕ) (import_offsets : List ℕ) (ast : Ast) → IsParsed conditions (map tok_of tokens) (Contains tokens) file_depth import_offsets old new ast → IsParsedText conditions path src file_depth import_offsets old new ast
  text_parsed file_depth import_offsets ast h =
      record {
        derives = record { utf8 = utf8; tokens = map tok_of tokens; lexed = lexed; file = h.derives };
        filled = record {
          cooks = h.filled.cooks;
          numbered = h.filled.numbered;
          recipes_numbered = h.filled.recipes_numbered;
          counted = h.filled.counted;
          recipes_counted = h.filled.recipes_counted;
          given =
              All-weaker (IsFilledItem conditions.expander (Contains tokens) file_depth import_offsets) (IsFilledItem conditions.expander (IsFrom path src) file_depth import_offsets)
              (given_weaker conditions.expander (Contains tokens) (IsFrom path src) from_tokens file_depth import_offsets) ast.items.items h.filled.given;
          noted = All-weaker (λ (x : ListFeature × Token). Contains tokens x.1) (λ (x : ListFeature × Token). IsFrom path src x.1) (λ x. from_tokens x.1) ast.list_features.items h.filled.noted;
          unstable = h.filled.unstable;
        };
      }

-- the tokens of a text are those of one text
pub lexed_once : (path src : List ℕ) → IsUtf8 src → (tokens : List Token) → Lexed src (map tok_of tokens) → All (IsFrom path src) tokens → IsOneLex tokens
lexed_once path src utf8 tokens lexed all =
    record { text = src; utf8 = utf8; lexed = lexed; source = All-weaker (IsFrom path src) (λ t. t.src.now ≡ src) (λ t h. h.src_is) tokens all }

-- a text with a fault of lexing has no tree
pub lexical : (conditions : Conditions) (path src : List ℕ) (numerator : Numerator) (fault : Fault) → IsLexerFault path src fault → HasNoTree conditions path src numerator numerator fault
lexical conditions path src numerator (faults.Compile e) h =
    record {
      derives_none = λ tree features d. never_both src d.tokens h.fault (tok_of e.token) d.lexed h.is_fault;
      from = h.from;
      held = lexical_held (IsFrom path src) e.kind (λ other. not_lexical src (lexical_fault_of e.kind) (tok_of e.token) other (let P : LexicalFault → Type 0 = λ f. IsFault src f (tok_of e.token) in subst P (sym h.kind_is) h.is_fault));
      not_internal = not_internal src e.kind (tok_of e.token) (let P : LexicalFault → Type 0 = λ f. IsFault src f (tok_of e.token) in subst P (sym h.kind_is) h.is_fault);
      cause = inl (h, refl);
      deep = λ limit tree features d. absurd (never_both src d.tokens h.fault (tok_of e.token) d.lexed h.is_fault);
    }
lexical conditions path src numerator faults.Memory h = tt
lexical conditions path src numerator faults.Numbers h = absurd h
