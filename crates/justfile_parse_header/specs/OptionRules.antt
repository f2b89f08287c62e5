-- The steps that check the options of a recipe, and the features that attributes use.
use Rattle.std.specs.Prelude.{ℕ, Bool, List, [], Option, Some, None, Ok, nat_eq}
use Rattle.std.specs.Str.{bytes_eq}
use Rattle.justfile_token.specs.declared.name.Name.{Name}
use Rattle.justfile_token.specs.declared.token.Token.{Token}
use Rattle.justfile_model.specs.Meanings.AttributeRules.{rules_in}
use Rattle.justfile_model.specs.Grammars.Features.{Noted, rules_features}
use Rattle.justfile_model.specs.Readers.HeaderReader.{obeying}
use Rattle.justfile_model.specs.Readers.ReaderState.{◌>>=◌}
use Rattle.justfile_model.specs.Meanings.RecipeRules.{and_named, repeated_broken}
use Rattle.justfile_model.specs.Meanings.Rules.{DuplicateLongOption, DuplicateShortOption, Rule}
use Rattle.justfile_parse_expression.specs.TableReader.{Read, State}
use Rattle.justfile_parse_header.specs.Options.{LeafAttribute, long_in, of_rules, short_in}

-- the features that an attribute uses
abbrev pub features_in : LeafAttribute → List (Noted Token)
features_in a = of_rules [] rules_features (rules_in a)

-- where a bound is noted, if it is set
abbrev pub bound_place_in : (name : Token) (key : Option Name) (number : Option ℕ) → Option Token
bound_place_in name key None = None
bound_place_in name (Some key) (Some number) = Some key.token
bound_place_in name None (Some number) = Some name

-- adds an option to those before it, which it may not repeat
module _ {X : Type 0} (same : X → X → Bool) (rule : X → Rule Token) where
  abbrev pub option_step : (before : List X) → Option (X × Token) → State → Read (List X)
  option_step before option s = do
    new ← obeying (repeated_broken same rule before option) s
    Ok (and_named before option, new.1)

-- adds the long option of an attribute to those of others
unfoldable pub long_step : (recipe : Token) (before : List (List ℕ)) → LeafAttribute → State → Read (List (List ℕ))
long_step recipe before a s = option_step bytes_eq (λ option. DuplicateLongOption option recipe) before (long_in a) s

-- adds the short option of an attribute to those of others
unfoldable pub short_step : (recipe : Token) (before : List ℕ) → LeafAttribute → State → Read (List ℕ)
short_step recipe before a s = option_step nat_eq (λ option. DuplicateShortOption option recipe) before (short_in a) s
