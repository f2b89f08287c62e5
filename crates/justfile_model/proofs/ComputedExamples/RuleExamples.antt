-- Examples of the rules that attributes break, computed from the definitions: each rule once, with the token at which it is reported.
use Rattle.std.proofs.Common.{ℕ, false, List, [], ◌∷◌, ◌++◌, Option, Some, None, Err, codes, refl}
use Rattle.std.specs.Str.{chars}
use Rattle.justfile_token.specs.StringKind.{kind_of}
use Rattle.justfile_vocabulary.specs.AttributeKind.{kind_named}
use Rattle.justfile_vocabulary.specs.Signal.{signal_named}
use Rattle.justfile_vocabulary.specs.declared.attribute_kind.AttributeKind.TheVariants as kinds
use Rattle.justfile_vocabulary.specs.declared.item_kind.ItemKind.TheVariants as items
use Rattle.justfile_model.specs.declared.parameter_kind.ParameterKind.{ParameterKind}
use Rattle.justfile_model.specs.declared.parameter_kind.ParameterKind.TheVariants.{Plus, Singular}
use Rattle.justfile_model.specs.Meanings.AttributeKinds.{same_attribute}
use Rattle.justfile_model.specs.Meanings.AttributeRules.{attribute_broken, attributes_broken}
use Rattle.justfile_model.specs.Grammars.Conditions.{VersionNumbers}
use Rattle.justfile_model.specs.Meanings.ConstructRules.{construct_broken}
use Rattle.justfile_model.specs.LiteralTexts.Literals.{Expansions}
use Rattle.justfile_model.specs.Meanings.Meaning.{by_key, by_position}
use Rattle.justfile_model.specs.Readers.NewAttribute.{Made, new_attribute}
use Rattle.justfile_model.specs.Meanings.Rules as rule
use Rattle.justfile_model.specs.Meanings.Rules.{Broken, Rule}
use Rattle.justfile_model.specs.Trees.LeafView.{LeafView, content_as_read, text_under}
use Rattle.justfile_model.specs.LiteralTexts.Unindent.{unindented}
use Rattle.justfile_model.specs.Trees.Tree as tree
use Rattle.justfile_model.specs.Trees.Tree.{Argument, Attribute, Content, Dependency, DependencyArgument, Expr, Header, Parameter, WrittenAttribute, bare_attribute, bare_recipe, assignment_of}
use Rattle.justfile_model.proofs.ComputedExamples.Tables.{Gives}

abbrev unasked : Expansions
unasked text = None

-- a text is its own position, so that an error shows its token
abbrev sees : LeafView (List ℕ) (List ℕ)
sees = record {
  bytes = λ l. l;
  place = λ l. l;
  cooked = text_under unasked (λ l. l);
  leaf_content = λ kind l. record { kind = kind; lexeme = l };
  position_content = λ kind spelled position. record { kind = kind; lexeme = spelled };
  literal_content = content_as_read (λ l. l) (text_under unasked (λ l. l)) (λ kind l. record { kind = kind; lexeme = l });
}

abbrev string : List ℕ → Expr (List ℕ) (List ℕ)
string lexeme = tree.StringLiteral false lexeme

abbrev name : List ℕ → Expr (List ℕ) (List ℕ)
name lexeme = tree.Variable lexeme

-- `'text'`
abbrev literal : List ℕ → Argument (List ℕ) (List ℕ)
literal lexeme = tree.Positional lexeme (string lexeme)

-- `name`
abbrev variable : List ℕ → Argument (List ℕ) (List ℕ)
variable lexeme = tree.Positional lexeme (name lexeme)

-- `key='text'`
abbrev keyed : (key lexeme : List ℕ) → Argument (List ℕ) (List ℕ)
keyed key lexeme = tree.Keyed key (string lexeme)

abbrev bare : List ℕ → Argument (List ℕ) (List ℕ)
bare key = tree.Bare key

abbrev given : List ℕ → List (Argument (List ℕ) (List ℕ)) → WrittenAttribute (List ℕ) (List ℕ)
given name arguments = bare_attribute name arguments

abbrev at : Rule (List ℕ) → List ℕ → Broken (List ℕ)
at rule token = record { rule = rule; token = token }

abbrev one : Rule (List ℕ) → List ℕ → List (Broken (List ℕ))
one rule token = at rule token ∷ []

-- what `arg` breaks of the argument `a`
abbrev arg_breaks : List (Argument (List ℕ) (List ℕ)) → List (Broken (List ℕ))
arg_breaks arguments = attribute_broken sees (given (codes "arg") (literal (codes "'a'") ∷ arguments))

-- what is made of `arg`
abbrev new_arg : List (Argument (List ℕ) (List ℕ)) → Made (List ℕ) (Attribute (List ℕ) (List ℕ))
new_arg arguments = new_attribute sees (codes "arg") kinds.Arg (by_position (literal (codes "'a'") ∷ arguments)) (by_key arguments)

-- ---- any attribute

attribute_rules : Gives (attribute_broken sees) (
    (given (codes "foo") [], one (rule.UnknownAttribute (codes "foo")) (codes "foo"))
    ∷ (given (codes "private") (literal (codes "'a'") ∷ []), one (rule.AttributeArgumentCountMismatch (codes "private") 1 0 (Some 0)) (codes "private"))
    ∷ (given (codes "metadata") [], one (rule.AttributeArgumentCountMismatch (codes "metadata") 0 1 None) (codes "metadata"))
    ∷ (given (codes "group") (variable (codes "a") ∷ []), one (rule.AttributeArgumentExpression (codes "group")) (codes "a"))
    ∷ (given (codes "arg") (bare (codes "long") ∷ literal (codes "'a'") ∷ []), one rule.AttributePositionalFollowsKeyword (codes "'a'"))
    -- of two unknown keys the least is reported
    ∷ (given (codes "cache") (bare (codes "b") ∷ bare (codes "a") ∷ []), one (rule.UnknownAttributeKey (codes "cache") (codes "a")) (codes "a"))
    ∷ (given (codes "cache") (bare (codes "inputs") ∷ []), one (rule.AttributeKeyMissingValue (codes "inputs")) (codes "inputs"))
    ∷ (given (codes "continue") (literal (codes "'SIGFOO'") ∷ []), one (rule.InvalidSignal (codes "SIGFOO")) (codes "'SIGFOO'"))
    ∷ [])
unfolding kind_named signal_named
attribute_rules = refl

-- ---- `arg`

arg_rules : Gives arg_breaks (
    (bare (codes "long") ∷ bare (codes "long") ∷ [], one (rule.DuplicateAttributeKey (codes "arg") (codes "long")) (codes "long"))
    ∷ (tree.Keyed (codes "long") (name (codes "b")) ∷ [], one (rule.AttributeArgumentExpression (codes "arg")) (codes "long"))
    ∷ (keyed (codes "long") (codes "'b=c'") ∷ [], one (rule.OptionNameContainsEqualSign (codes "a")) (codes "'b=c'"))
    ∷ (keyed (codes "long") (codes "'-b'") ∷ [], one (rule.OptionNameStartsWithDash (codes "a")) (codes "'-b'"))
    ∷ (keyed (codes "long") (codes "''") ∷ [], one (rule.OptionNameEmpty (codes "a")) (codes "''"))
    ∷ (keyed (codes "short") (codes "'bc'") ∷ [], one (rule.ShortOptionWithMultipleCharacters (codes "a")) (codes "'bc'"))
    ∷ (bare (codes "pattern") ∷ [], one (rule.AttributeKeyMissingValue (codes "pattern")) (codes "pattern"))
    ∷ (keyed (codes "value") (codes "'b'") ∷ [], one (rule.ArgAttributeRequiresOption (codes "value")) (codes "value"))
    ∷ (bare (codes "long") ∷ keyed (codes "flag") (codes "'b'") ∷ [], one (rule.FlagAttributeTakesNoValue (codes "a")) (codes "flag"))
    ∷ (bare (codes "long") ∷ bare (codes "flag") ∷ keyed (codes "value") (codes "'b'") ∷ [], one (rule.FlagAndValueArgAttribute (codes "a")) (codes "flag"))
    ∷ (bare (codes "long") ∷ bare (codes "flag") ∷ keyed (codes "pattern") (codes "'b'") ∷ [], one (rule.FlagAndPatternArgAttribute (codes "a")) (codes "flag"))
    ∷ (bare (codes "long") ∷ keyed (codes "multiple") (codes "'b'") ∷ [], one (rule.AttributeKeyTakesNoValue (codes "multiple")) (codes "multiple"))
    ∷ (keyed (codes "min") (codes "'01'") ∷ [], one (rule.ArgumentCountValue (codes "min") (codes "01")) (codes "'01'"))
    ∷ (keyed (codes "max") (codes "''") ∷ [], one (rule.ArgumentCountValue (codes "max") []) (codes "''"))
    ∷ (keyed (codes "max") (codes "'18446744073709551616'") ∷ [], one (rule.ArgumentCountParse (codes "max") (codes "18446744073709551616")) (codes "'18446744073709551616'"))
    -- the greatest number
    ∷ (keyed (codes "max") (codes "'18446744073709551615'") ∷ keyed (codes "min") (codes "'0'") ∷ [], [])
    ∷ (keyed (codes "max") (codes "'2'") ∷ keyed (codes "min") (codes "'3'") ∷ [], one (rule.ArgAttributeMinExceedsMax 3 2) (codes "min"))
    ∷ [])
unfolding kind_named chars
arg_rules = refl

-- ---- which of several broken rules is reported

first_rules : Gives new_arg (
    -- a value is reported before a missing option
    (keyed (codes "flag") (codes "'b'") ∷ [], Err (at (rule.FlagAttributeTakesNoValue (codes "a")) (codes "flag")))
    -- the key that comes first in the order of the rules is reported, at any position
    ∷ (bare (codes "multiple") ∷ keyed (codes "long") (codes "''") ∷ [], Err (at (rule.OptionNameEmpty (codes "a")) (codes "''")))
    -- a key that is left comes last
    ∷ (bare (codes "foo") ∷ bare (codes "help") ∷ [], Err (at (rule.AttributeKeyMissingValue (codes "help")) (codes "help")))
    ∷ [])
unfolding new_attribute
first_rules = refl

-- ---- the attributes of one item

abbrev plain : List ℕ → WrittenAttribute (List ℕ) (List ℕ)
plain name = given name []

-- with one literal
abbrev labelled : (name lexeme : List ℕ) → WrittenAttribute (List ℕ) (List ℕ)
labelled name lexeme = given name (literal lexeme ∷ [])

rules_of_several : Gives (attributes_broken sees) (
    (plain (codes "linux") ∷ plain (codes "private") ∷ plain (codes "linux") ∷ [], one (rule.DuplicateAttribute (codes "linux") (codes "linux")) (codes "linux"))
    -- the texts are compared, however their literals are delimited
    ∷ (labelled (codes "arg") (codes "'a'") ∷ labelled (codes "arg") (codes "'''a'''") ∷ labelled (codes "arg") (codes "'b'") ∷ [], one (rule.DuplicateArgAttribute (codes "a") (codes "arg")) (codes "arg"))
    ∷ (labelled (codes "group") (codes "'a'") ∷ labelled (codes "group") (codes "'a'") ∷ [], one (rule.DuplicateGroupAttribute (record { cooked = codes "a"; expand = false; kind = kind_of (codes "'a'"); part = None }) (codes "'a'") (codes "group")) (codes "group"))
    ∷ [])
unfolding kind_named same_attribute unindented
rules_of_several = refl

-- ---- by the item

abbrev current : VersionNumbers
current = record { major = 1; minor = 58; patch = 0 }

abbrev assignment : Content (List ℕ) (List ℕ) (List ℕ) (List ℕ)
assignment = tree.Assignment (assignment_of false false (codes "x") (string (codes "'a'")))

abbrev parameter : ParameterKind → List ℕ → Parameter (List ℕ) (List ℕ)
parameter kind name = record { kind = kind; export = false; name = name; default = None }

-- `name='text'`
abbrev optional : (name lexeme : List ℕ) → Parameter (List ℕ) (List ℕ)
optional name lexeme = record { kind = Singular; export = false; name = name; default = Some (string lexeme) }

abbrev headed : List (Parameter (List ℕ) (List ℕ)) → (priors subsequents : List (Dependency (List ℕ) (List ℕ) (List ℕ))) → Header (List ℕ) (List ℕ) (List ℕ)
headed parameters priors subsequents = record { quiet = false; name = codes "foo"; parameters = parameters; priors = priors; subsequents = subsequents }

-- the recipe `foo` with these parameters
abbrev recipe_of : List (Parameter (List ℕ) (List ℕ)) → Content (List ℕ) (List ℕ) (List ℕ) (List ℕ)
recipe_of parameters = tree.Recipe (bare_recipe (headed parameters [] []) None [])

abbrev recipe : Content (List ℕ) (List ℕ) (List ℕ) (List ℕ)
recipe = recipe_of []

-- `arg` with these arguments
abbrev arg : (lexeme : List ℕ) → List (Argument (List ℕ) (List ℕ)) → WrittenAttribute (List ℕ) (List ℕ)
arg lexeme arguments = given (codes "arg") (literal lexeme ∷ arguments)

abbrev a_and_b : Content (List ℕ) (List ℕ) (List ℕ) (List ℕ)
a_and_b = recipe_of (parameter Singular (codes "a") ∷ parameter Singular (codes "b") ∷ [])

abbrev Case : Type 0
Case = Content (List ℕ) (List ℕ) (List ℕ) (List ℕ) × List (WrittenAttribute (List ℕ) (List ℕ))

-- what the attributes break on the construct
abbrev breaks_on : Case → List (Broken (List ℕ))
breaks_on c = construct_broken current sees c.1 c.0

abbrev case : Content (List ℕ) (List ℕ) (List ℕ) (List ℕ) → List (WrittenAttribute (List ℕ) (List ℕ)) → List (Broken (List ℕ)) → Case × List (Broken (List ℕ))
case content attributes rules = ((content, attributes), rules)

item_rules : Gives breaks_on (
    -- the first one in content order is reported, at the item's name
    case assignment (plain (codes "script") ∷ plain (codes "private") ∷ labelled (codes "group") (codes "'a'") ∷ []) (one (rule.InvalidAttribute items.Assignment kinds.Group) (codes "x"))
    -- both are allowed
    ∷ case assignment (plain (codes "windows") ∷ plain (codes "private") ∷ []) []
    -- of several attributes without a parameter, the one with the least text is reported, at its literal
    ∷ case (recipe_of (parameter Singular (codes "a") ∷ []))
    (labelled (codes "arg") (codes "'c'") ∷ labelled (codes "arg") (codes "'a'") ∷ labelled (codes "arg") (codes "'b'") ∷ [])
    (one (rule.UndefinedArgAttribute (codes "b")) (codes "'b'"))
    -- `b` is first in content order, since it names its option; so the key of `a` is reported
    ∷ case a_and_b
    (arg (codes "'a'") (bare (codes "long") ∷ []) ∷ arg (codes "'b'") (keyed (codes "long") (codes "'a'") ∷ []) ∷ [])
    (one (rule.DuplicateLongOption (codes "a") (codes "foo")) (codes "long"))
    -- an option with a name is reported at its literal
    ∷ case a_and_b
    (arg (codes "'a'") (keyed (codes "long") (codes "'x'") ∷ []) ∷ arg (codes "'b'") (keyed (codes "long") (codes "'''x'''") ∷ []) ∷ [])
    (one (rule.DuplicateLongOption (codes "x") (codes "foo")) (codes "'''x'''"))
    ∷ case a_and_b
    (arg (codes "'a'") (keyed (codes "short") (codes "'x'") ∷ []) ∷ arg (codes "'b'") (keyed (codes "short") (codes "'''x'''") ∷ []) ∷ [])
    (one (rule.DuplicateShortOption 120 (codes "foo")) (codes "'''x'''"))
    -- a long option and a short one may be called the same
    ∷ case a_and_b (arg (codes "'a'") (bare (codes "long") ∷ []) ∷ arg (codes "'b'") (keyed (codes "short") (codes "'a'") ∷ []) ∷ []) []
    -- Options are checked attribute by attribute, so the short one that is repeated first comes before a long one.
    ∷ case (recipe_of (parameter Singular (codes "a") ∷ parameter Singular (codes "b") ∷ parameter Singular (codes "c") ∷ parameter Singular (codes "d") ∷ []))
    (arg (codes "'a'") (keyed (codes "short") (codes "'x'") ∷ []) ∷ arg (codes "'b'") (keyed (codes "short") (codes "'''x'''") ∷ [])
    ∷ arg (codes "'c'") (keyed (codes "long") (codes "'l'") ∷ []) ∷ arg (codes "'d'") (keyed (codes "long") (codes "'''l'''") ∷ []) ∷ [])
    (one (rule.DuplicateShortOption 120 (codes "foo")) (codes "'''x'''") ++ one (rule.DuplicateLongOption (codes "l") (codes "foo")) (codes "'''l'''"))
    -- of one attribute the long option is checked before the short one
    ∷ case a_and_b
    (arg (codes "'a'") (keyed (codes "long") (codes "'l'") ∷ keyed (codes "short") (codes "'x'") ∷ [])
    ∷ arg (codes "'b'") (keyed (codes "short") (codes "'''x'''") ∷ keyed (codes "long") (codes "'''l'''") ∷ []) ∷ [])
    (one (rule.DuplicateLongOption (codes "l") (codes "foo")) (codes "'''l'''") ++ one (rule.DuplicateShortOption 120 (codes "foo")) (codes "'''x'''"))
    -- a flag is on already if its parameter has a value by default
    ∷ case (recipe_of (optional (codes "a") (codes "'x'") ∷ [])) (arg (codes "'a'") (bare (codes "long") ∷ bare (codes "flag") ∷ []) ∷ []) (one (rule.FlagWithDefault (codes "a")) (codes "a"))
    ∷ case (recipe_of (parameter Singular (codes "a") ∷ []))
    (arg (codes "'a'") (keyed (codes "max") (codes "'2'") ∷ []) ∷ [])
    (one (rule.ArgAttributeRequiresMultipleOrVariadic (codes "max")) (codes "max"))
    -- the key `max` is reported before `min`, at any position
    ∷ case (recipe_of (parameter Singular (codes "a") ∷ []))
    (arg (codes "'a'") (keyed (codes "min") (codes "'1'") ∷ keyed (codes "max") (codes "'2'") ∷ []) ∷ [])
    (one (rule.ArgAttributeRequiresMultipleOrVariadic (codes "max")) (codes "max"))
    ∷ case (recipe_of (parameter Singular (codes "a") ∷ []))
    (arg (codes "'a'") (keyed (codes "min") (codes "'1'") ∷ []) ∷ [])
    (one (rule.ArgAttributeRequiresMultipleOrVariadic (codes "min")) (codes "min"))
    -- of a parameter that takes several arguments
    ∷ case (recipe_of (parameter Plus (codes "a") ∷ [])) (arg (codes "'a'") (keyed (codes "max") (codes "'2'") ∷ []) ∷ []) []
    -- of an option that may be given several times
    ∷ case (recipe_of (parameter Singular (codes "a") ∷ [])) (arg (codes "'a'") (bare (codes "long") ∷ bare (codes "multiple") ∷ keyed (codes "max") (codes "'2'") ∷ []) ∷ []) []
    -- of two parameters with one name the first is spoken of
    ∷ case (recipe_of (parameter Singular (codes "a") ∷ optional (codes "a") (codes "'x'") ∷ [])) (arg (codes "'a'") (bare (codes "long") ∷ bare (codes "flag") ∷ []) ∷ []) []
    ∷ case recipe (plain (codes "no-cd") ∷ labelled (codes "working-directory") (codes "'a'") ∷ []) (one (rule.NoCdAndWorkingDirectoryAttribute (codes "foo")) (codes "foo"))
    ∷ case recipe (plain (codes "exit-message") ∷ plain (codes "no-exit-message") ∷ []) (one (rule.ExitMessageAndNoExitMessageAttribute (codes "foo")) (codes "foo"))
    ∷ case recipe (plain (codes "script") ∷ plain (codes "shell") ∷ []) (one (rule.ScriptAndShellAttribute (codes "foo")) (codes "foo"))
    ∷ [])
unfolding kind_named same_attribute unindented chars
item_rules = refl

-- ---- the stars of dependencies, each with a text as its token

abbrev argument_of : Option (List ℕ) → (name : List ℕ) → DependencyArgument (List ℕ) (List ℕ) (List ℕ)
argument_of star name = record { star = star; value = tree.Variable name }

-- a dependency on `b`
abbrev on_b : (star : Option (List ℕ)) → List (DependencyArgument (List ℕ) (List ℕ) (List ℕ)) → Dependency (List ℕ) (List ℕ) (List ℕ)
on_b star arguments = record { star = star; path = codes "b" ∷ []; arguments = arguments }

-- a recipe with such a dependency before `&&`, or after it
abbrev before : Dependency (List ℕ) (List ℕ) (List ℕ) → Content (List ℕ) (List ℕ) (List ℕ) (List ℕ)
before d = tree.Recipe (bare_recipe (headed [] (d ∷ []) []) None [])

abbrev after : Dependency (List ℕ) (List ℕ) (List ℕ) → Content (List ℕ) (List ℕ) (List ℕ) (List ℕ)
after d = tree.Recipe (bare_recipe (headed [] (on_b None [] ∷ []) (d ∷ [])) None [])

star_rules : Gives (construct_broken current sees {C = List ℕ} []) (
    -- `*(b x)`
    (before (on_b (Some (codes "first")) (argument_of None (codes "x") ∷ [])), one rule.MappedDependencyWithoutStarredArgument (codes "first"))
    -- `(b *x)`
    ∷ (before (on_b None (argument_of (Some (codes "first")) (codes "x") ∷ [])), one rule.StarredArgumentOutsideMappedDependency (codes "first"))
    -- `*(b *x *y)`
    ∷ (before (on_b (Some (codes "first")) (argument_of (Some (codes "second")) (codes "x") ∷ argument_of (Some (codes "third")) (codes "y") ∷ [])), one rule.MappedDependencyMultipleStarredArguments (codes "third"))
    ∷ (after (on_b (Some (codes "first")) (argument_of None (codes "x") ∷ [])), one rule.MappedDependencyWithoutStarredArgument (codes "first"))
    -- `*(b x *y)`
    ∷ (before (on_b (Some (codes "first")) (argument_of None (codes "x") ∷ argument_of (Some (codes "second")) (codes "y") ∷ [])), [])
    ∷ [])
star_rules = refl
