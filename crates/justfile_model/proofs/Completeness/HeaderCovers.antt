-- Which broken rules of a header the parser has covered, as it goes along the header; and where the header's parts begin.
use Rattle.std.proofs.Common.{◌≡◌, ℕ, Bool, List, [], ◌∷◌, ◌++◌, map, Option, Some, None, refl, ap, arith}
use Rattle.std.specs.List.{cons_option}
use Rattle.std.specs.Option.{option_map}
use Rattle.std.proofs.lemmas.List.Elements.{filter_map-append}
use Rattle.justfile_vocabulary.specs.declared.token_kind.TokenKind.{TokenKind}
use Rattle.justfile_vocabulary.specs.declared.token_kind.TokenKind.TheVariants as kinds
use Rattle.justfile_model.specs.declared.parameter_kind.ParameterKind.{ParameterKind}
use Rattle.justfile_model.specs.Grammars.Expressions.{IsKind, NotNext, Tokens}
use Rattle.justfile_model.specs.Grammars.Features.{Noted}
use Rattle.justfile_model.specs.Grammars.Headers as g
use Rattle.justfile_model.specs.Meanings.RecipeRules.{parameter_broken, parameters_broken, second_broken, stars}
use Rattle.justfile_model.specs.Meanings.Rules.{Broken}
use Rattle.justfile_model.specs.Trees.LeafView.{LeafView}
use Rattle.justfile_model.specs.Lexing.SignificantTokens.{SignificantToken}
use Rattle.justfile_model.specs.Lexing.Tok.{Tok}
use Rattle.justfile_model.specs.Trees.Tree.{ArgumentRules, Dependency, DependencyArgument, Parameter}
use Rattle.justfile_model.proofs.Completeness.ReachingRules.{Among, among_first, among_others}
use Rattle.justfile_model.proofs.Readers.Steps.{AreNext}
use Rattle.justfile_model.proofs.Lists.Unchanged.{argument_kept}

-- a token of another kind comes next, or none
pub not_there : (kind : TokenKind) (ts : Tokens) → NotNext kind ts → AreNext (kind ∷ []) ts → ⊥
not_there kind [] nx h = h
not_there kind (t ∷ ts) nx h = nx h.0

-- ---- stars

-- no rule is among none
no_rules : (rules : List (Broken Tok)) → Among [] rules
no_rules rules = record { carries = λ rule c. absurd (omega (arith, c.1)) }

-- the second star of the arguments so far is the second star of all
pub second_among : (before : List Tok) (star : Tok) (others : List Tok) {rules : List (Broken Tok)} → Among (second_broken (before ++ star ∷ others)) rules
    → Among (second_broken (before ++ star ∷ [])) rules
second_among [] star others {rules} h = no_rules rules
second_among (a ∷ []) star others h = h
second_among (a ∷ b ∷ before) star others h = h

-- an argument of a dependency, with the token of its star
abbrev pub ReadArgument : Type 0
ReadArgument = DependencyArgument Tok Tok SignificantToken

-- what is kept of it
abbrev pub kept : ReadArgument → DependencyArgument Tok Tok Tok
kept = argument_kept (λ (t : SignificantToken). t.tok)

-- the stars of arguments that were read
abbrev pub stars_read : List ReadArgument → List Tok
stars_read before = map (λ (t : SignificantToken). t.tok) (stars before)

star_kept : (o : Option SignificantToken) (l : List Tok) (m : List SignificantToken) → l ≡ map (λ (t : SignificantToken). t.tok) m
    → cons_option (option_map (λ (t : SignificantToken). t.tok) o) l ≡ map (λ (t : SignificantToken). t.tok) (cons_option o m)
star_kept None l m h = h
star_kept (Some t) l m h = ap (λ (ts : List Tok). t.tok ∷ ts) h

pub stars_of_kept : (arguments : List ReadArgument) → stars (map kept arguments) ≡ stars_read arguments
stars_of_kept [] = refl
stars_of_kept (a ∷ arguments) = star_kept a.star _ (stars arguments) (stars_of_kept arguments)

pub stars_more : (before : List ReadArgument) (a : ReadArgument) → stars (before ++ a ∷ []) ≡ stars before ++ stars (a ∷ [])
stars_more before a = filter_map-append (λ (a : ReadArgument). a.star) before (a ∷ [])

-- ---- rules of parameters after others

module _ (view : LeafView Tok Tok) (args : List (ArgumentRules Tok Tok)) where
  pub parameter_first : (before : List (Parameter Tok Tok)) (p : Parameter Tok Tok) (ps : List (Parameter Tok Tok)) {rules : List (Broken Tok)}
      → Among (parameters_broken view args before (p ∷ ps)) rules → Among (parameter_broken view args before p) rules
  parameter_first before p ps h = among_first (parameter_broken view args before p) (parameters_broken view args (before ++ p ∷ []) ps) h

  pub parameters_after : (before : List (Parameter Tok Tok)) (p : Parameter Tok Tok) (ps : List (Parameter Tok Tok)) {rules : List (Broken Tok)}
      → Among (parameters_broken view args before (p ∷ ps)) rules → Among (parameters_broken view args (before ++ p ∷ []) ps) rules
  parameters_after before p ps h = among_others (parameter_broken view args before p) (parameters_broken view args (before ++ p ∷ []) ps) h

-- ---- where the parts of a header begin

-- a dependency begins with a name, a star or a parenthesis
pub data StartsDependency : Tokens → Type 0 where
  by_name : {t : SignificantToken} {ts : Tokens} → IsKind kinds.Identifier t → StartsDependency (t ∷ ts)
  by_star : {t : SignificantToken} {ts : Tokens} → IsKind kinds.Asterisk t → StartsDependency (t ∷ ts)
  by_opener : {t : SignificantToken} {ts : Tokens} → IsKind kinds.ParenL t → StartsDependency (t ∷ ts)

-- a parameter begins with a name, or with `$`
pub data StartsParameter : Tokens → Type 0 where
  by_name : {t : SignificantToken} {ts : Tokens} → IsKind kinds.Identifier t → StartsParameter (t ∷ ts)
  by_dollar : {t : SignificantToken} {ts : Tokens} → IsKind kinds.Dollar t → StartsParameter (t ∷ ts)

no_operator : {ts : Tokens} → StartsParameter ts → NotNext kinds.ColonEquals ts
no_operator (by_name is) = λ k. cc
no_operator (by_dollar is) = λ k. cc

module _ {A B : Type 0} (leaf : Tok → A) (position : Tok → B) (MayEnter : ℕ → Option SignificantToken → Type 0) where
  pub named_starts : {kind : ParameterKind} {export : Bool} {p : Parameter A B} {fs : List (Noted B)} {ts rest : Tokens}
      → g.NamedParameter leaf position MayEnter kind export p fs ts rest → NotNext kinds.Dollar ts × StartsParameter ts
  named_starts (g.required is nx) = ((λ k. cc), by_name is)
  named_starts (g.optional is is2 v) = ((λ k. cc), by_name is)

  pub parameter_starts : {kind : ParameterKind} {p : Parameter A B} {fs : List (Noted B)} {ts rest : Tokens}
      → g.ParameterOf leaf position MayEnter kind p fs ts rest → StartsParameter ts
  parameter_starts (g.exported is p) = by_dollar is
  parameter_starts (g.unexported p) = (named_starts p).1

  -- no assignment begins so
  pub parameters_start : {ps : List (Parameter A B)} {fs : List (Noted B)} {ts rest : Tokens} → g.Parameters leaf position MayEnter ps fs ts rest
      → NotNext kinds.ColonEquals ts
  parameters_start (g.none is) = λ k. cc
  parameters_start (g.more p others) = no_operator (parameter_starts p)
  parameters_start (g.plus is p is2) = λ k. cc
  parameters_start (g.star is p is2) = λ k. cc

module _ {A B S : Type 0} (leaf : Tok → A) (position : Tok → B) (star : Tok → S) (MayEnter : ℕ → Option SignificantToken → Type 0) where
  path_starts : {names : List A} {ts rest : Tokens} → g.PathOf leaf names ts rest → StartsDependency ts
  path_starts (g.path kind others) = by_name kind

  pub dependency_starts : {d : Dependency A B S} {fs : List (Noted B)} {ts rest : Tokens} → g.DependencyOf leaf position star MayEnter d fs ts rest
      → StartsDependency ts
  dependency_starts (g.bare p) = path_starts p
  dependency_starts (g.plain kind p a) = by_opener kind
  dependency_starts (g.starred kind kind2 p a) = by_star kind
