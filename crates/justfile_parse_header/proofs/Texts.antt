-- Options and parameters, by the texts of their names.
use Rattle.std.proofs.Common.{◌≡◌, ◌∙◌, ℕ, suc, ◌+◌, ◌<◌, ◌≤◌, Bool, Bor, Decides, true, false, nat_eq, List, [], ◌∷◌, ◌++◌, ◌||◌, get_or, length, map, take, Option, Some, None, refl, sym, ap, subst, string_bytes, arith}
use Rattle.std.proofs.lemmas.Bool.Decides.{Decides-eqb, same_from_decides}
use Rattle.std.proofs.lemmas.List.{map-append, take_all}
use Rattle.std.proofs.lemmas.Slice.Eq.{bytes_eq-Decides}
use Rattle.std.proofs.Math.Seq.{take-suc}
use Rattle.std.specs.BTreeSet.{BTreeSet}
use Rattle.std.specs.List.{list_any, slice_get}
use Rattle.std.specs.Option.{option_map}
use Rattle.std.specs.Str.{bytes_eq, chars}
use Rattle.justfile_attribute.specs.Attribute.{literal_leaf, option_by}
use Rattle.justfile_attribute_rules.specs.Made.{quoted_leaf}
use Rattle.justfile_token.specs.Token.{lexeme_of}
use Rattle.justfile_token.specs.declared.name.Name.{Name}
use Rattle.justfile_token.specs.declared.string_literal.StringLiteral.{StringLiteral}
use Rattle.justfile_token.specs.declared.token.Token.{Token}
use Rattle.justfile_recipe_header.specs.declared.parameter.Parameter.{Parameter}
use Rattle.justfile_model.specs.LiteralTexts.Literals.{string_of}
use Rattle.justfile_model.specs.Meanings.Meaning.{first_of, text_of}
use Rattle.justfile_model.specs.Meanings.RecipeRules.{first_character, if_named, option_of, with_text}
use Rattle.justfile_model.specs.Trees.LeafView.{or_empty}
use Rattle.justfile_model.specs.Trees.Tree.{OptionName}
use Rattle.justfile_parse_base.specs.TextSets.{HaveSame, texts_in}
use Rattle.justfile_parse_base.proofs.TextSetLemmas.{same_more, same_then}
use Rattle.justfile_parse_header.specs.Arguments.{is_named}
use Rattle.justfile_parse_header.specs.HeaderTable.{LeafParameter}
use Rattle.justfile_parse_header.specs.Options.{option_in}
use Rattle.justfile_parse_header.specs.Tree.{parameter_tree}
use Rattle.justfile_expression.specs.LeafViews.{views_leaves}
use Rattle.justfile_expression.specs.LeafTree.{Leaf, Literal, leaf_tree_of, literal_of}

-- the text of a literal is what is kept of it
pub text_is : (l : StringLiteral) → text_of views_leaves (quoted_leaf l) ≡ string_bytes l.cooked
text_is l = go l.expand
  where
    go : (b : Bool) → or_empty (views_leaves.cooked (string_of b (Literal (literal_of l)))) ≡ string_bytes l.cooked
    go true = refl
    go false = refl

pub any_map : {X Y : Type 0} (test : Y → Bool) (view : X → Y) (xs : List X) → list_any (λ (x : X). test (view x)) xs ≡ list_any test (map view xs)
any_map test view [] = refl
any_map test view (x ∷ xs) = ap (λ (b : Bool). test (view x) || b) (any_map test view xs)

-- the sides of an equation of values turned
module _ {X : Type 0} (same : X → X → Bool) (decides : (x y : X) → Decides (same x y) (x ≡ y)) where
  turned : (x y : X) → same x y ≡ same y x
  turned x y = same_from_decides (same x y) (same y x) (decides x y) ((λ h. sym ((decides y x).0 h)), (λ e. (decides y x).1 (sym e)))

  any_turned : (x : X) (ys : List X) → list_any (λ (y : X). same y x) ys ≡ list_any (same x) ys
  any_turned x [] = refl
  any_turned x (y ∷ ys) = ap (λ (b : Bool). b || list_any (λ (y : X). same y x) ys) (turned y x) ∙ ap (λ (b : Bool). same x y || b) (any_turned x ys)

pub character_among : (c : ℕ) (others : List ℕ) → list_any (λ (d : ℕ). nat_eq d c) others ≡ list_any (nat_eq c) others
character_among = any_turned nat_eq Decides-eqb

-- a parameter of this name is among them
pub named_is : (ps : List Parameter) (name : List ℕ) → list_any (λ (p : Parameter). bytes_eq (lexeme_of p.name.token) name) ps
    ≡ list_any (λ (p : LeafParameter). bytes_eq (views_leaves.bytes p.name) name) (map parameter_tree ps)
named_is ps name = any_map (λ (p : LeafParameter). bytes_eq (views_leaves.bytes p.name) name) parameter_tree ps

-- the names of parameters, from the first to the last
abbrev pub names_of : List Parameter → List (List ℕ)
names_of = map (λ (p : Parameter). lexeme_of p.name.token)

-- a parameter of this name is among them where the name is
pub named_among : (ps : List Parameter) (name : List ℕ) → is_named (map parameter_tree ps) name ≡ list_any (bytes_eq name) (names_of ps)
named_among ps name =
    sym (named_is ps name)
    ∙ any_map (λ (t : List ℕ). bytes_eq t name) (λ (p : Parameter). lexeme_of p.name.token) ps
    ∙ any_turned bytes_eq bytes_eq-Decides name (names_of ps)

-- a parameter has the text of a literal as its name
pub literal_named : (parameters : List LeafParameter) (name : StringLiteral) (text : List ℕ) → text ≡ string_bytes name.cooked
    → is_named parameters text ≡ is_named parameters (text_of views_leaves (quoted_leaf name))
literal_named parameters name text e = ap (is_named parameters) (e ∙ sym (text_is name))

-- ---- what an option is called

abbrev kept : Option Name → Option StringLiteral → OptionName Leaf Token
kept key literal = option_by leaf_tree_of literal_leaf (λ t. t) key literal

abbrev called_by : (name : StringLiteral) → Option StringLiteral → Option Name → Option (List ℕ × Token)
called_by name literal key = option_map (with_text views_leaves) (option_of views_leaves (quoted_leaf name) (kept key literal))

pub option_is : (name : StringLiteral) (literal : Option StringLiteral) (key : Option Name) → option_in name literal key ≡ called_by name literal key
option_is name literal (Some key) = ap (λ (text : List ℕ). Some (text, key.token)) (sym (text_is name))
option_is name (Some literal) None = ap (λ (text : List ℕ). Some (text, literal.token)) (sym (text_is literal))
option_is name None None = refl

first_at : {X : Type 0} (xs : List X) → first_of xs ≡ slice_get xs 0
first_at [] = refl
first_at (x ∷ xs) = refl

-- by its first character
pub character_is : (name : StringLiteral) (literal : Option StringLiteral) (key : Option Name) (text : List ℕ) (place : Token) → Some (text, place) ≡ option_in name literal key
    → (first : Option ℕ) → first ≡ slice_get (chars text) 0 → option_map (λ (c : ℕ). (c, place)) first ≡ if_named (first_character views_leaves) (called_by name literal key)
character_is name literal key text place is first at =
    ap (option_map (λ (c : ℕ). (c, place))) (at ∙ sym (first_at (chars text))) ∙ ap (if_named (first_character views_leaves)) (is ∙ option_is name literal key)
