-- The grammar of recipe headers: which significant tokens are which header. `Grammar` is the same for items.
use Rattle.std.specs.Prelude.{ℕ, Bool, true, false, List, [], ◌∷◌, ◌++◌, Option, Some, None}
use Rattle.justfile_model.specs.declared.parameter_kind.ParameterKind.{ParameterKind}
use Rattle.justfile_model.specs.declared.parameter_kind.ParameterKind.TheVariants.{Plus, Singular, Star}
use Rattle.justfile_vocabulary.specs.declared.token_kind.TokenKind.TheVariants as kinds
use Rattle.justfile_model.specs.Grammars.Expressions.{Tokens, IsKind, NotNext, Expression, Value}
use Rattle.justfile_model.specs.Grammars.Features.{Noted}
use Rattle.justfile_model.specs.Lexing.SignificantTokens.{SignificantToken}
use Rattle.justfile_model.specs.Lexing.Tok.{Tok}
use Rattle.justfile_model.specs.Trees.Tree.{Dependency, DependencyArgument, Expr, Header, Parameter}

-- the names of a path after the first one
module _ {A : Type 0} (leaf : Tok → A) where
  pub data PathRest : List A → Tokens → Tokens → Type 0 where
    last : {rest : Tokens} → NotNext kinds.ColonColon rest
        → PathRest [] rest rest
    next : {names : List A} {colons name : SignificantToken} {tokens rest : Tokens} → IsKind kinds.ColonColon colons → IsKind kinds.Identifier name
        → PathRest names tokens rest
        → PathRest (leaf name.tok ∷ names) (colons ∷ name ∷ tokens) rest

  -- names separated by two colons
  pub data PathOf : List A → Tokens → Tokens → Type 0 where
    path : {names : List A} {name : SignificantToken} {tokens rest : Tokens} → IsKind kinds.Identifier name → PathRest names tokens rest
        → PathOf (leaf name.tok ∷ names) (name ∷ tokens) rest

module _ {A B : Type 0} (leaf : Tok → A) (position : Tok → B) (MayEnter : ℕ → Option SignificantToken → Type 0) where
  -- a name with an optional default value
  pub data NamedParameter : ParameterKind → (export : Bool) → Parameter A B → List (Noted B) → Tokens → Tokens → Type 0 where
    required : {kind : ParameterKind} {export : Bool} {name : SignificantToken} {rest : Tokens} → IsKind kinds.Identifier name → NotNext kinds.Equals rest
        → NamedParameter kind export (record { kind = kind; export = export; name = leaf name.tok; default = None }) [] (name ∷ rest) rest
    optional : {kind : ParameterKind} {export : Bool} {e : Expr A B} {fs : List (Noted B)} {name equals : SignificantToken} {tokens rest : Tokens}
        → IsKind kinds.Identifier name → IsKind kinds.Equals equals → Value leaf position MayEnter 0 e fs tokens rest
        → NamedParameter kind export (record { kind = kind; export = export; name = leaf name.tok; default = Some e }) fs (name ∷ equals ∷ tokens) rest

  -- a parameter, which can be exported
  pub data ParameterOf : ParameterKind → Parameter A B → List (Noted B) → Tokens → Tokens → Type 0 where
    exported : {kind : ParameterKind} {p : Parameter A B} {fs : List (Noted B)} {dollar : SignificantToken} {tokens rest : Tokens} → IsKind kinds.Dollar dollar
        → NamedParameter kind true p fs tokens rest
        → ParameterOf kind p fs (dollar ∷ tokens) rest
    unexported : {kind : ParameterKind} {p : Parameter A B} {fs : List (Noted B)} {tokens rest : Tokens} → NamedParameter kind false p fs tokens rest
        → ParameterOf kind p fs tokens rest

  -- the parameters of a recipe, and the colon after them; the last one can be variadic
  pub data Parameters : List (Parameter A B) → List (Noted B) → Tokens → Tokens → Type 0 where
    none : {colon : SignificantToken} {rest : Tokens} → IsKind kinds.Colon colon
        → Parameters [] [] (colon ∷ rest) rest
    more : {p : Parameter A B} {ps : List (Parameter A B)} {fs gs : List (Noted B)} {tokens next rest : Tokens} → ParameterOf Singular p fs tokens next
        → Parameters ps gs next rest
        → Parameters (p ∷ ps) (fs ++ gs) tokens rest
    plus : {p : Parameter A B} {fs : List (Noted B)} {prefix colon : SignificantToken} {tokens rest : Tokens} → IsKind kinds.Plus prefix
        → ParameterOf Plus p fs tokens (colon ∷ rest) → IsKind kinds.Colon colon
        → Parameters (p ∷ []) fs (prefix ∷ tokens) rest
    star : {p : Parameter A B} {fs : List (Noted B)} {prefix colon : SignificantToken} {tokens rest : Tokens} → IsKind kinds.Asterisk prefix
        → ParameterOf Star p fs tokens (colon ∷ rest) → IsKind kinds.Colon colon
        → Parameters (p ∷ []) fs (prefix ∷ tokens) rest

module _ {A B S : Type 0} (leaf : Tok → A) (position : Tok → B) (star : Tok → S) (MayEnter : ℕ → Option SignificantToken → Type 0) where
  -- the arguments of a dependency, which have no separators, up to and including the closing parenthesis; a starred one is a value
  pub data DependencyArguments : List (DependencyArgument A B S) → List (Noted B) → Tokens → Tokens → Type 0 where
    none : {closer : SignificantToken} {rest : Tokens} → IsKind kinds.ParenR closer
        → DependencyArguments [] [] (closer ∷ rest) rest
    plain : {e : Expr A B} {others : List (DependencyArgument A B S)} {fs gs : List (Noted B)} {tokens next rest : Tokens}
        → Expression leaf position MayEnter false 0 e fs tokens next → DependencyArguments others gs next rest
        → DependencyArguments (record { star = None; value = e } ∷ others) (fs ++ gs) tokens rest
    starred : {e : Expr A B} {others : List (DependencyArgument A B S)} {fs gs : List (Noted B)} {mark : SignificantToken} {tokens next rest : Tokens}
        → IsKind kinds.Asterisk mark → Value leaf position MayEnter 0 e fs tokens next → DependencyArguments others gs next rest
        → DependencyArguments (record { star = Some (star mark.tok); value = e } ∷ others) (fs ++ gs) (mark ∷ tokens) rest

  -- a path alone, or a path with arguments in parentheses, after an optional star
  pub data DependencyOf : Dependency A B S → List (Noted B) → Tokens → Tokens → Type 0 where
    bare : {names : List A} {tokens rest : Tokens} → PathOf leaf names tokens rest
        → DependencyOf (record { star = None; path = names; arguments = [] }) [] tokens rest
    plain : {names : List A} {arguments : List (DependencyArgument A B S)} {fs : List (Noted B)} {opener : SignificantToken} {tokens next rest : Tokens}
        → IsKind kinds.ParenL opener → PathOf leaf names tokens next → DependencyArguments arguments fs next rest
        → DependencyOf (record { star = None; path = names; arguments = arguments }) fs (opener ∷ tokens) rest
    starred : {names : List A} {arguments : List (DependencyArgument A B S)} {fs : List (Noted B)} {mark opener : SignificantToken} {tokens next rest : Tokens}
        → IsKind kinds.Asterisk mark → IsKind kinds.ParenL opener → PathOf leaf names tokens next → DependencyArguments arguments fs next rest
        → DependencyOf (record { star = Some (star mark.tok); path = names; arguments = arguments }) fs (mark ∷ opener ∷ tokens) rest

  -- dependencies, as long as the next token begins one
  pub data Dependencies : List (Dependency A B S) → List (Noted B) → Tokens → Tokens → Type 0 where
    none : {rest : Tokens} → NotNext kinds.Identifier rest → NotNext kinds.Asterisk rest → NotNext kinds.ParenL rest
        → Dependencies [] [] rest rest
    more : {d : Dependency A B S} {ds : List (Dependency A B S)} {fs gs : List (Noted B)} {tokens next rest : Tokens} → DependencyOf d fs tokens next
        → Dependencies ds gs next rest
        → Dependencies (d ∷ ds) (fs ++ gs) tokens rest

  -- the dependencies before `&&`, and those after it, at least one
  pub data AllDependencies : (priors subsequents : List (Dependency A B S)) → List (Noted B) → Tokens → Tokens → Type 0 where
    priors : {ds : List (Dependency A B S)} {fs : List (Noted B)} {tokens rest : Tokens} → Dependencies ds fs tokens rest → NotNext kinds.AmpersandAmpersand rest
        → AllDependencies ds [] fs tokens rest
    both : {d : Dependency A B S} {ds others : List (Dependency A B S)} {fs gs : List (Noted B)} {operator : SignificantToken} {tokens next rest : Tokens}
        → Dependencies ds fs tokens (operator ∷ next) → IsKind kinds.AmpersandAmpersand operator → Dependencies (d ∷ others) gs next rest
        → AllDependencies ds (d ∷ others) (fs ++ gs) tokens rest

  -- a header from the name of the recipe to the end
  pub data NamedHeader : (quiet : Bool) → Header A B S → List (Noted B) → Tokens → Tokens → Type 0 where
    header : {quiet : Bool} {ps : List (Parameter A B)} {ds ss : List (Dependency A B S)} {fs gs : List (Noted B)} {name : SignificantToken} {tokens next rest : Tokens}
        → IsKind kinds.Identifier name → Parameters leaf position MayEnter ps fs tokens next → AllDependencies ds ss gs next rest
        → NamedHeader quiet (record { quiet = quiet; name = leaf name.tok; parameters = ps; priors = ds; subsequents = ss }) (fs ++ gs) (name ∷ tokens) rest

  -- a header with an optional `@`
  pub data HeaderOf : Header A B S → List (Noted B) → Tokens → Tokens → Type 0 where
    quiet : {h : Header A B S} {fs : List (Noted B)} {at : SignificantToken} {tokens rest : Tokens} → IsKind kinds.At at → NamedHeader true h fs tokens rest
        → HeaderOf h fs (at ∷ tokens) rest
    loud : {h : Header A B S} {fs : List (Noted B)} {tokens rest : Tokens} → NamedHeader false h fs tokens rest
        → HeaderOf h fs tokens rest
