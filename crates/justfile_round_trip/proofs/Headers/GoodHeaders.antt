-- Good headers of recipes: each lexeme has the properties of its token, and the printer's tokens derive the header.
use Rattle.std.proofs.Common.{◌≡◌, ℕ, Bool, true, List, [], ◌∷◌, Option, Some, None}
use Rattle.justfile_model.specs.Grammars.Expressions.{BelowLimit}
use Rattle.justfile_model.specs.Grammars.Headers.{HeaderOf}
use Rattle.justfile_model.specs.Trees.Tree.{lexeme, nothing}
use Rattle.justfile_round_trip.proofs.LiteralTexts.LexedModes.{Sign}
use Rattle.justfile_round_trip.proofs.Canon.{Shown, Value}
use Rattle.justfile_round_trip.proofs.Headers.CanonHeaders.{ShapeParameter, ShapeArgument, ShapeDependency, ShapeHeader, header_signs}
use Rattle.justfile_round_trip.proofs.Good.{GoodValue, ends_value, significant, GoodPath}
use Rattle.justfile_round_trip.proofs.LiteralTexts.Inline.{IsName}

abbrev pub GoodDefault : Option Value → Type 0
GoodDefault None = Unit {0}
GoodDefault (Some e) = GoodValue e

abbrev pub GoodParameters : List ShapeParameter → Type 0
GoodParameters [] = Unit {0}
GoodParameters (p ∷ ps) = IsName p.name × GoodDefault p.default × GoodParameters ps

abbrev pub GoodDependencyArguments : List ShapeArgument → Type 0
GoodDependencyArguments [] = Unit {0}
GoodDependencyArguments (a ∷ arguments) = GoodValue a.value × GoodDependencyArguments arguments

abbrev pub GoodDependencies : List ShapeDependency → Type 0
GoodDependencies [] = Unit {0}
GoodDependencies (d ∷ ds) = GoodPath d.path × GoodDependencyArguments d.arguments × GoodDependencies ds

-- the lexemes of a header have their facts
pub record LexesHeader (h : ShapeHeader) : Type 0 where
  pub is_name : IsName h.name
  pub parameters : GoodParameters h.parameters
  pub priors : GoodDependencies h.priors
  pub subsequents : GoodDependencies h.subsequents

module _ (limit : ℕ) where
  -- the header's tokens derive it, before any others that a value ends at
  abbrev pub HeaderDerivesBack : ShapeHeader → Shown → Type 0
  HeaderDerivesBack h features = (glued : Bool) (on : List Sign) → ends_value (significant true on) ≡ true
      → HeaderOf lexeme nothing nothing (BelowLimit limit) h features (significant glued (header_signs h on)) (significant true on)

  pub record GoodHeader (h : ShapeHeader) : Type 0 where
    pub lexes : LexesHeader h
    pub features : Shown
    pub derives : HeaderDerivesBack h features
