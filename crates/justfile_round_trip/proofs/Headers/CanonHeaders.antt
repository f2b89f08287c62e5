-- The printer's tokens of recipe headers, before other tokens, and their text.
use Rattle.std.proofs.Common.{◌≡◌, ℕ, List, [], ◌∷◌, ◌++◌, Option, Some, None, refl, ap, codes}
use Rattle.std.specs.List.{flat_map}
use Rattle.justfile_token.specs.Path.{path_text, separated_name}
use Rattle.justfile_vocabulary.specs.declared.token_kind.TokenKind.TheVariants as kinds
use Rattle.justfile_model.specs.declared.parameter_kind.ParameterKind.{ParameterKind}
use Rattle.justfile_model.specs.declared.parameter_kind.ParameterKind.TheVariants.{Plus, Singular, Star}
use Rattle.justfile_model.specs.Printed.Printing.{fixed_text, if_some, if_true, expr_text, prefix_text, parameter_text, dependency_argument_text, parenthesized, dependency_text, subsequents_text, header_text}
use Rattle.justfile_model.specs.Trees.Tree as tree
use Rattle.justfile_round_trip.proofs.LiteralTexts.LexedModes.{Sign, sign, space, text_of}
use Rattle.justfile_round_trip.proofs.Canon.{Value, colon, word, paren_left, paren_right, expr_signs, expr_is, then, flag_signs, flag_is}
use Rattle.justfile_round_trip.proofs.Attributes.CanonAttributes.{equals}

-- What the header of a shape is made of.
abbrev pub ShapeParameter : Type 0
ShapeParameter = tree.Parameter (List ℕ) (Unit {0})

abbrev pub ShapeArgument : Type 0
ShapeArgument = tree.DependencyArgument (List ℕ) (Unit {0}) (Unit {0})

abbrev pub ShapeDependency : Type 0
ShapeDependency = tree.Dependency (List ℕ) (Unit {0}) (Unit {0})

abbrev pub ShapeHeader : Type 0
ShapeHeader = tree.Header (List ℕ) (Unit {0}) (Unit {0})

abbrev pub plus : Sign
plus = sign kinds.Plus (43 ∷ [])

abbrev asterisk : Sign
asterisk = sign kinds.Asterisk (42 ∷ [])

abbrev pub dollar_sign : Sign
dollar_sign = sign kinds.Dollar (36 ∷ [])

abbrev pub at_sign : Sign
at_sign = sign kinds.At (64 ∷ [])

abbrev pub colons : Sign
colons = sign kinds.ColonColon (58 ∷ 58 ∷ [])

abbrev pub ampersands : Sign
ampersands = sign kinds.AmpersandAmpersand (38 ∷ 38 ∷ [])

abbrev pub prefix_signs : ParameterKind → List Sign → List Sign
prefix_signs Plus ts = plus ∷ ts
prefix_signs Singular ts = ts
prefix_signs Star ts = asterisk ∷ ts

abbrev pub default_signs : Option Value → List Sign → List Sign
default_signs None ts = ts
default_signs (Some e) ts = equals ∷ expr_signs e ts

abbrev parameter_signs : ShapeParameter → List Sign → List Sign
parameter_signs p ts = prefix_signs p.kind (flag_signs p.export dollar_sign (word p.name ∷ default_signs p.default ts))

abbrev pub parameters_signs : List ShapeParameter → List Sign → List Sign
parameters_signs [] ts = ts
parameters_signs (p ∷ ps) ts = space ∷ parameter_signs p (parameters_signs ps ts)

abbrev pub path_rest_signs : List (List ℕ) → List Sign → List Sign
path_rest_signs [] ts = ts
path_rest_signs (name ∷ names) ts = colons ∷ word name ∷ path_rest_signs names ts

abbrev pub path_signs : List (List ℕ) → List Sign → List Sign
path_signs [] ts = ts
path_signs (name ∷ names) ts = word name ∷ path_rest_signs names ts

abbrev pub star_signs : Option (Unit {0}) → List Sign → List Sign
star_signs None ts = ts
star_signs (Some star) ts = asterisk ∷ ts

abbrev pub dependency_arguments_signs : List ShapeArgument → List Sign → List Sign
dependency_arguments_signs [] ts = ts
dependency_arguments_signs (a ∷ arguments) ts = space ∷ star_signs a.star (expr_signs a.value (dependency_arguments_signs arguments ts))

abbrev pub dependency_parts_signs : Option (Unit {0}) → List (List ℕ) → List ShapeArgument → List Sign → List Sign
dependency_parts_signs star path [] ts = path_signs path ts
dependency_parts_signs star path (a ∷ arguments) ts = star_signs star (paren_left ∷ path_signs path (dependency_arguments_signs (a ∷ arguments) (paren_right ∷ ts)))

abbrev pub dependency_signs : ShapeDependency → List Sign → List Sign
dependency_signs d ts = dependency_parts_signs d.star d.path d.arguments ts

abbrev pub dependencies_signs : List ShapeDependency → List Sign → List Sign
dependencies_signs [] ts = ts
dependencies_signs (d ∷ ds) ts = space ∷ dependency_signs d (dependencies_signs ds ts)

abbrev pub subsequents_signs : List ShapeDependency → List Sign → List Sign
subsequents_signs [] ts = ts
subsequents_signs (d ∷ ds) ts = space ∷ ampersands ∷ dependencies_signs (d ∷ ds) ts

abbrev pub header_rest_signs : ShapeHeader → List Sign → List Sign
header_rest_signs h ts = parameters_signs h.parameters (colon ∷ dependencies_signs h.priors (subsequents_signs h.subsequents ts))

abbrev pub header_signs : ShapeHeader → List Sign → List Sign
header_signs h ts = flag_signs h.quiet at_sign (word h.name ∷ header_rest_signs h ts)

-- ---- their text is the text of the definitions

prefix_is : (k : ParameterKind) (ts : List Sign) → prefix_text k ++ text_of ts ≡ text_of (prefix_signs k ts)
unfolding fixed_text
prefix_is Plus ts = refl
prefix_is _ ts = refl

default_is : (o : Option Value) (ts : List Sign) → if_some (λ e. fixed_text (codes "=") ++ expr_text e) o ++ text_of ts ≡ text_of (default_signs o ts)
unfolding fixed_text
default_is None ts = refl
default_is (Some e) ts = ap (λ t. 61 ∷ t) (expr_is e ts)

parameter_is : (p : ShapeParameter) (ts : List Sign) → parameter_text p ++ text_of ts ≡ text_of (parameter_signs p ts)
parameter_is p ts =
    let dollar = if_true p.export (fixed_text (codes "$")) in
    then ((prefix_text p.kind ++ dollar) ++ p.name) (if_some (λ e. fixed_text (codes "=") ++ expr_text e) p.default) (text_of ts) (default_is p.default ts)
    (then (prefix_text p.kind ++ dollar) p.name _ refl (then (prefix_text p.kind) dollar _ (flag_is p.export dollar_sign _) (prefix_is p.kind _)))

parameters_are : (ps : List ShapeParameter) (ts : List Sign) → flat_map (λ p. fixed_text (codes " ") ++ parameter_text p) ps ++ text_of ts ≡ text_of (parameters_signs ps ts)
unfolding fixed_text
parameters_are [] ts = refl
parameters_are (p ∷ ps) ts =
    ap (λ t. 32 ∷ t) (then (parameter_text p) (flat_map (λ q. codes " " ++ parameter_text q) ps) (text_of ts) (parameters_are ps ts) (parameter_is p _))

path_rest_is : (names : List (List ℕ)) (ts : List Sign) → flat_map separated_name names ++ text_of ts ≡ text_of (path_rest_signs names ts)
path_rest_is [] ts = refl
path_rest_is (name ∷ names) ts = ap (λ t. codes "::" ++ t) (then name (flat_map separated_name names) (text_of ts) (path_rest_is names ts) refl)

pub path_is : (names : List (List ℕ)) (ts : List Sign) → path_text names ++ text_of ts ≡ text_of (path_signs names ts)
path_is [] ts = refl
path_is (name ∷ names) ts = then name (flat_map separated_name names) (text_of ts) (path_rest_is names ts) refl

star_is : (o : Option (Unit {0})) (ts : List Sign) → if_some (λ s. fixed_text (codes "*")) o ++ text_of ts ≡ text_of (star_signs o ts)
unfolding fixed_text
star_is None ts = refl
star_is (Some star) ts = refl

dependency_argument_is : (a : ShapeArgument) (ts : List Sign) → dependency_argument_text a ++ text_of ts ≡ text_of (space ∷ star_signs a.star (expr_signs a.value ts))
unfolding fixed_text
dependency_argument_is a ts =
    ap (λ t. 32 ∷ t) (then (if_some (λ s. codes "*") a.star) (expr_text a.value) (text_of ts) (expr_is a.value ts) (star_is a.star _))

dependency_arguments_are : (arguments : List ShapeArgument) (ts : List Sign) → flat_map dependency_argument_text arguments ++ text_of ts ≡ text_of (dependency_arguments_signs arguments ts)
dependency_arguments_are [] ts = refl
dependency_arguments_are (a ∷ arguments) ts =
    then (dependency_argument_text a) (flat_map dependency_argument_text arguments) (text_of ts) (dependency_arguments_are arguments ts) (dependency_argument_is a _)

dependency_parts_are : (star : Option (Unit {0})) (path : List (List ℕ)) (arguments : List ShapeArgument) (ts : List Sign)
    → parenthesized star (path_text path) arguments ++ text_of ts ≡ text_of (dependency_parts_signs star path arguments ts)
unfolding fixed_text
dependency_parts_are star path [] ts = path_is path ts
dependency_parts_are star path (a ∷ arguments) ts =
    let stars = if_some (λ s. codes "*") star in
    let inside = flat_map dependency_argument_text (a ∷ arguments) in
    then (((stars ++ codes "(") ++ path_text path) ++ inside) (codes ")") (text_of ts) refl
    (then ((stars ++ codes "(") ++ path_text path) inside _ (dependency_arguments_are (a ∷ arguments) (paren_right ∷ ts))
    (then (stars ++ codes "(") (path_text path) _ (path_is path _)
    (then stars (codes "(") _ refl (star_is star _))))

dependencies_are : (ds : List ShapeDependency) (ts : List Sign) → flat_map (λ d. fixed_text (codes " ") ++ dependency_text d) ds ++ text_of ts ≡ text_of (dependencies_signs ds ts)
unfolding fixed_text
dependencies_are [] ts = refl
dependencies_are (d ∷ ds) ts =
    ap (λ t. 32 ∷ t) (then (dependency_text d) (flat_map (λ c. codes " " ++ dependency_text c) ds) (text_of ts) (dependencies_are ds ts) (dependency_parts_are d.star d.path d.arguments _))

subsequents_are : (ds : List ShapeDependency) (ts : List Sign) → subsequents_text ds ++ text_of ts ≡ text_of (subsequents_signs ds ts)
unfolding fixed_text
subsequents_are [] ts = refl
subsequents_are (d ∷ ds) ts = ap (λ t. codes " &&" ++ t) (dependencies_are (d ∷ ds) ts)

pub header_is : (h : ShapeHeader) (ts : List Sign) → header_text h ++ text_of ts ≡ text_of (header_signs h ts)
unfolding fixed_text
header_is h ts =
    let at = if_true h.quiet (codes "@") in
    let parameters = flat_map (λ p. codes " " ++ parameter_text p) h.parameters in
    let priors = flat_map (λ d. codes " " ++ dependency_text d) h.priors in
    let named = at ++ h.name in
    then (((named ++ parameters) ++ codes ":") ++ priors) (subsequents_text h.subsequents) (text_of ts) (subsequents_are h.subsequents ts)
    (then ((named ++ parameters) ++ codes ":") priors _ (dependencies_are h.priors _)
    (then (named ++ parameters) (codes ":") _ refl
    (then named parameters _ (parameters_are h.parameters _) (then at h.name _ refl (flag_is h.quiet at_sign _)))))
