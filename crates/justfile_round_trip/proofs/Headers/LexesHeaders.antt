-- The text of good headers lexes to the printer's tokens.
use Rattle.std.proofs.Common.{◌≡◌, ℕ, Bool, true, false, eqb, List, [], ◌∷◌, ◌++◌, get_or, Option, Some, None, refl}
use Rattle.justfile_token.specs.declared.delimiter.Delimiter.TheVariants.{Paren}
use Rattle.justfile_vocabulary.specs.declared.token_kind.TokenKind.TheVariants as kinds
use Rattle.justfile_vocabulary.specs.ByteClass.{class_of}
use Rattle.justfile_model.specs.declared.open_delimiter.OpenDelimiter.{OpenDelimiter}
use Rattle.justfile_model.specs.declared.parameter_kind.ParameterKind.{ParameterKind}
use Rattle.justfile_model.specs.declared.parameter_kind.ParameterKind.TheVariants.{Plus, Singular, Star}
use Rattle.justfile_model.specs.Lexing.Modes.{opener}
use Rattle.justfile_model.specs.Lexing.Next.{fixed_token, token_by_class}
use Rattle.justfile_round_trip.proofs.LiteralTexts.LexedModes.{Sign, Lexes, text_of, step}
use Rattle.justfile_round_trip.proofs.LiteralTexts.Inline.{Goes, goes, name_then, amid, fixed_utf8, IsName, space_step, start_no}
use Rattle.justfile_round_trip.proofs.Fixed as fixed
use Rattle.justfile_round_trip.proofs.Fixed.{close_step, equals_step, open_step, plus_step, token_step}
use Rattle.justfile_round_trip.proofs.RecipeBodies.Lines.{ItemLexes, at_item, item_next, item_name}
use Rattle.justfile_round_trip.proofs.RecipeBodies.BodyLines.{colon_step}
use Rattle.justfile_round_trip.proofs.Canon.{Value, colon, expr_signs, paren_left, paren_right, word, flag_signs}
use Rattle.justfile_round_trip.proofs.Headers.CanonHeaders.{ShapeParameter, ShapeArgument, ShapeDependency, ShapeHeader, at_sign, prefix_signs, default_signs, parameters_signs, path_rest_signs, path_signs, star_signs, dependency_arguments_signs, dependency_parts_signs, dependencies_signs, subsequents_signs, header_rest_signs, header_signs, dollar_sign}
use Rattle.justfile_round_trip.proofs.Good.{GoodValue, GoodNames, GoodPath}
use Rattle.justfile_round_trip.proofs.Headers.GoodHeaders.{GoodDefault, GoodParameters, GoodDependencyArguments, GoodDependencies, LexesHeader}
use Rattle.justfile_round_trip.proofs.Values.LexesValues.{Starts, lex_value, named, spaced, starts}

-- what follows a header, as a line end or the space before a comment, makes no other token of its colon
pub record StopsHeader (ts : List Sign) : Type 0 where
  pub no_equals : eqb (get_or (text_of ts) 0 0) 61 ≡ false
  pub no_colon : eqb (get_or (text_of ts) 0 0) 58 ≡ false

-- ---- how parts begin

name_no_plus : (n more : List ℕ) → IsName n → eqb (get_or (n ++ more) 0 0) 43 ≡ false
unfolding class_of
name_no_plus [] more h = absurd h
name_no_plus (x ∷ xs) more h = start_no x 43 h.0 (λ e. cc)

dollar_no_plus : (b : Bool) (n : List ℕ) (ts : List Sign) → IsName n → eqb (get_or (text_of (flag_signs b dollar_sign (word n ∷ ts))) 0 0) 43 ≡ false
dollar_no_plus true n ts h = refl
dollar_no_plus false n ts h = name_no_plus n _ h

-- ---- parameters

module _ (c : Bool) where
  lex_default : (o : Option Value) {ts : List Sign} → GoodDefault o → Goes [] [] c None ts → Goes [] [] c None (default_signs o ts)
  unfolding class_of
  lex_default None h k = k
  lex_default (Some e) h k = let v = lex_value [] c None [] e h k in goes refl (λ f. equals_step v.begins.no_equals v.begins.no_tilde v.lexes)

  lex_dollar : (b : Bool) (n : List ℕ) {ts : List Sign} → IsName n → Goes [] [] c None ts → Starts [] [] c None (flag_signs b dollar_sign (word n ∷ ts))
  unfolding class_of
  lex_dollar true n h k = starts refl refl refl (token_step fixed.dollar (name_then n h k))
  lex_dollar false n h k = named n h k

  lex_prefix : (kind : ParameterKind) (b : Bool) (n : List ℕ) {ts : List Sign} → IsName n → Goes [] [] c None ts
      → Starts [] [] c None (prefix_signs kind (flag_signs b dollar_sign (word n ∷ ts)))
  unfolding class_of
  lex_prefix Plus b n {ts} h k = starts refl refl refl (plus_step (dollar_no_plus b n ts h) (lex_dollar b n h k).lexes)
  lex_prefix Singular b n h k = lex_dollar b n h k
  lex_prefix Star b n h k = starts refl refl refl (token_step fixed.asterisk (lex_dollar b n h k).lexes)

  lex_parameters : (ps : List ShapeParameter) {ts : List Sign} → GoodParameters ps → Goes [] [] c None ts → Goes [] [] c None (parameters_signs ps ts)
  unfolding class_of
  lex_parameters [] h k = k
  lex_parameters (p ∷ ps) h k =
      goes refl (λ f. spaced (lex_prefix p.kind p.export p.name h.0 (lex_default p.default h.1 (lex_parameters ps h.2 k))))

-- ---- dependencies

lex_path_rest : (c : Bool) (os : List OpenDelimiter) (names : List (List ℕ)) {ts : List Sign} → GoodNames names → Goes os [] c None ts → Goes os [] c None (path_rest_signs names ts)
unfolding class_of
lex_path_rest c os [] h k = k
lex_path_rest c os (n ∷ names) h k = goes refl (λ f. token_step fixed.colon_colon (name_then n h.0 (lex_path_rest c os names h.1 k)))

pub lex_path : (c : Bool) (os : List OpenDelimiter) (names : List (List ℕ)) {ts : List Sign} → GoodPath names → Goes os [] c None ts → Starts os [] c None (path_signs names ts)
lex_path c os [] h k = absurd h
lex_path c os (n ∷ names) h k = named n h.0 (lex_path_rest c os names h.1 k)

lex_star : (os : List OpenDelimiter) (star : Option (Unit {0})) (e : Value) {ts : List Sign} → GoodValue e → Goes os [] true None ts
    → Starts os [] true None (star_signs star (expr_signs e ts))
unfolding class_of
lex_star os None e h k = lex_value [] true None os e h k
lex_star os (Some star) e h k = starts refl refl refl (token_step fixed.asterisk (lex_value [] true None os e h k).lexes)

lex_arguments : (line : ℕ) (arguments : List ShapeArgument) {ts : List Sign} → GoodDependencyArguments arguments → Lexes (amid [] [] true None false) ts
    → Goes (opener Paren line ∷ []) [] true None (dependency_arguments_signs arguments (paren_right ∷ ts))
unfolding class_of
lex_arguments line [] h k = goes refl (λ f. close_step fixed.end_paren k)
lex_arguments line (a ∷ arguments) h k =
    goes refl (λ f. spaced (lex_star (opener Paren line ∷ []) a.star a.value h.0 (lex_arguments line arguments h.1 k)))

lex_parenthesis : (path : List (List ℕ)) (arguments : List ShapeArgument) {ts : List Sign} → GoodPath path → GoodDependencyArguments arguments
    → Lexes (amid [] [] true None false) ts → Lexes (amid [] [] true None false) (paren_left ∷ path_signs path (dependency_arguments_signs arguments (paren_right ∷ ts)))
lex_parenthesis path arguments p h k = open_step fixed.paren (λ line. (lex_path true (opener Paren line ∷ []) path p (lex_arguments line arguments h k)).lexes)

lex_parts : (star : Option (Unit {0})) (path : List (List ℕ)) (arguments : List ShapeArgument) {ts : List Sign} → GoodPath path → GoodDependencyArguments arguments
    → Goes [] [] true None ts → Starts [] [] true None (dependency_parts_signs star path arguments ts)
unfolding class_of
lex_parts star path [] p h k = lex_path true [] path p k
lex_parts None path (a ∷ arguments) p h k = starts refl refl refl (lex_parenthesis path (a ∷ arguments) p h (k.lexes false))
lex_parts (Some star) path (a ∷ arguments) p h k = starts refl refl refl (token_step fixed.asterisk (lex_parenthesis path (a ∷ arguments) p h (k.lexes false)))

lex_dependencies : (ds : List ShapeDependency) {ts : List Sign} → GoodDependencies ds → Goes [] [] true None ts → Goes [] [] true None (dependencies_signs ds ts)
unfolding class_of
lex_dependencies [] h k = k
lex_dependencies (d ∷ ds) h k =
    goes refl (λ f. spaced (lex_parts d.star d.path d.arguments h.0 h.1 (lex_dependencies ds h.2 k)))

lex_subsequents : (ds : List ShapeDependency) {ts : List Sign} → GoodDependencies ds → Goes [] [] true None ts → Goes [] [] true None (subsequents_signs ds ts)
unfolding class_of
lex_subsequents [] h k = k
lex_subsequents (d ∷ ds) h k = goes refl (λ f. space_step refl (token_step fixed.and ((lex_dependencies (d ∷ ds) h k).lexes false)))

-- the colon of a header, and the text after it
lex_colon : (priors subsequents : List ShapeDependency) {ts : List Sign} (c : Bool) → GoodDependencies priors → GoodDependencies subsequents → StopsHeader ts
    → Goes [] [] true None ts → Goes [] [] c None (colon ∷ dependencies_signs priors (subsequents_signs subsequents ts))
unfolding class_of
lex_colon [] [] c p s stop k = goes refl (λ f. colon_step stop.no_equals stop.no_colon (k.lexes false))
lex_colon [] (d ∷ ds) c p s stop k = goes refl (λ f. colon_step refl refl ((lex_subsequents (d ∷ ds) s k).lexes false))
lex_colon (d ∷ ds) ss c p s stop k = goes refl (λ f. colon_step refl refl ((lex_dependencies (d ∷ ds) p (lex_subsequents ss s k)).lexes false))

-- ---- headers

-- the `@` before a header
item_at : (c : Bool) {ts : List Sign} → Lexes (amid [] [] c None false) ts → ItemLexes c (at_sign ∷ ts)
unfolding token_by_class class_of fixed_token
item_at c {ts} k = record {
  lexes = step (at_item c) kinds.At (64 ∷ []) ts (fixed_utf8 (64 ∷ []) refl) (item_next c 64 (text_of ts) refl) (λ e. cc) (λ o n col. k);
  begins = refl;
}

-- a header, before its line end or the space before a comment
pub lex_header : (c : Bool) (h : ShapeHeader) {ts : List Sign} → LexesHeader h → StopsHeader ts → Goes [] [] true None ts → ItemLexes c (header_signs h ts)
lex_header c h {ts} good stop k = by h.quiet
  where
    rest : Goes [] [] c None (header_rest_signs h ts)
    rest = lex_parameters c h.parameters good.parameters (lex_colon h.priors h.subsequents c good.priors good.subsequents stop k)

    by : (b : Bool) → ItemLexes c (flag_signs b at_sign (word h.name ∷ header_rest_signs h ts))
    by true = item_at c (name_then h.name good.is_name rest)
    by false = item_name c h.name good.is_name rest
