-- The grammar of trees and that of shapes: a tree derives if its shape does.
use Rattle.std.proofs.Common.{Bool, true, false, ◌≡◌, ℕ, List, [], ◌∷◌, ◌++◌, map, Option, Some, None, refl, sym, subst, ap, ◌∙◌}
use Rattle.std.specs.List.{flat_map}
use Rattle.std.specs.Option.{option_map}
use Rattle.std.proofs.lemmas.List.{map-append}
use Rattle.justfile_model.specs.Lexing.Tok.{Tok}
use Rattle.justfile_model.specs.Trees.LeafView.{views_lexemes, views_tokens}
use Rattle.justfile_model.specs.Lexing.SignificantTokens.{AllSpelled, SignificantToken}
use Rattle.justfile_model.specs.Grammars.Conditions.{Conditions}
use Rattle.justfile_model.specs.Trees.Tree as tree
use Rattle.justfile_model.specs.Trees.Tree.{Expr, Exprs, Parts, Fragment, BodyLine, Line, Quoted, Argument, WrittenAttribute, OptionName, Property, ArgumentRules, Attribute, Entry, Parameter, DependencyArgument, Dependency, Header, AssignmentParts, SettingValue, Content, Item, WrittenItem, WrittenTree, WrittenShape, Tree, Shape, over_expr, over_exprs, over_parts, over_fragment, over_argument, over_written_attribute, over_entry, over_quoted, over_option, over_property, over_rules, over_attribute, over_parameter, over_assignment, over_setting_value, over_line, over_dependency_argument, over_dependency, over_header, over_content, over_item, lexeme, nothing, shape_of, written_shape_of}
use Rattle.justfile_model.specs.Grammars.Features.{ConstructFeatures, Noted, over_features, over_noted}
use Rattle.justfile_model.specs.Grammars.Expressions.{Tokens, front, BelowLimit}
use Rattle.justfile_model.specs.Grammars.Grammar.{File}
use Rattle.justfile_model.specs.LiteralTexts.Literals as literal
use Rattle.justfile_model.specs.LiteralTexts.Literals.{Literal, over_literal, AreCookedTexts}
use Rattle.justfile_model.specs.Grammars.Files.{expr_literals, exprs_literals, parts_literals, fragments_literals, body_literals, optional_literals, argument_literals, written_literals, entries_literals, parameter_literals, dependency_literals, header_literals, setting_literals, content_literals, item_literals, items_literals, all_features, all_literals, literals, broken, ordered, to_tokens, to_lexemes, Obeys, FileDerives, ShapeDerives, quoted_literals, option_literals, rules_literals, attribute_literals}
use Rattle.justfile_model.proofs.Derivations.CarryExpressions.{Same, Pairs, nil, cons}
use Rattle.justfile_model.proofs.Derivations.Carry as c
use Rattle.justfile_model.proofs.Derivations.Carry.{Maps, over_items, Alike}
use Rattle.justfile_model.proofs.Lists.Mapped.{map_same, option_same, flat_mapped}
use Rattle.justfile_model.proofs.Derivations.KindedFiles.{file_kinded}
use Rattle.justfile_model.proofs.Meanings.Ordered.{all_features_seen, shape_ordered, shape_unbroken, tree_ordered, tree_unbroken}
use Rattle.justfile_model.proofs.Lists.Unchanged.{expr_itself, exprs_itself, same_leaf}

-- ---- leaves replaced by themselves

pub noted_itself : {B : Type 0} (fs : List (Noted B)) → map (over_noted same_leaf) fs ≡ fs
noted_itself [] = refl
noted_itself (n ∷ fs) = λ i. n ∷ noted_itself fs i

pub features_itself : {B : Type 0} (fs : List (ConstructFeatures B)) → map (over_features same_leaf) fs ≡ fs
features_itself =
    map_same (over_features same_leaf) (λ f i. record { attributes = noted_itself f.attributes i; content = noted_itself f.content i })

fragments_itself : {A B : Type 0} (fragments : List (Fragment A B)) → map (over_fragment same_leaf same_leaf) fragments ≡ fragments
fragments_itself [] = refl
fragments_itself (tree.Text token ∷ fragments) = λ i. tree.Text token ∷ fragments_itself fragments i
fragments_itself (tree.Interpolation value ∷ fragments) = λ i. tree.Interpolation (expr_itself value i) ∷ fragments_itself fragments i

body_itself : {A B C : Type 0} (body : List (BodyLine A B C)) → map (over_line same_leaf same_leaf same_leaf) body ≡ body
body_itself [] = refl
body_itself (Line number fragments ∷ body) = λ i. Line number (fragments_itself fragments i) ∷ body_itself body i

module _ {A B : Type 0} where
  argument_itself : (a : Argument A B) → over_argument same_leaf same_leaf a ≡ a
  argument_itself (tree.Positional first value) = ap (tree.Positional first) (expr_itself value)
  argument_itself (tree.Bare key) = refl
  argument_itself (tree.Keyed key value) = ap (tree.Keyed key) (expr_itself value)

  written_itself : (w : WrittenAttribute A B) → over_written_attribute same_leaf same_leaf w ≡ w
  written_itself w =
      λ i. record { name = w.name; arguments = map_same (over_argument same_leaf same_leaf) argument_itself w.arguments i; comment = w.comment }

  pub attributes_itself : (ws : List (WrittenAttribute A B)) → map (over_written_attribute same_leaf same_leaf) ws ≡ ws
  attributes_itself = map_same (over_written_attribute same_leaf same_leaf) written_itself

  parameter_itself : (p : Parameter A B) → over_parameter same_leaf same_leaf p ≡ p
  parameter_itself p = λ i. record { kind = p.kind; export = p.export; name = p.name; default = option_same (over_expr same_leaf same_leaf) expr_itself p.default i }

  assignment_itself : (a : AssignmentParts A B) → over_assignment same_leaf same_leaf a ≡ a
  assignment_itself a = λ i. record { eager = a.eager; export = a.export; name = a.name; value = expr_itself a.value i }

module _ {A B S : Type 0} where
  dependency_argument_itself : (a : DependencyArgument A B S) → over_dependency_argument same_leaf same_leaf same_leaf a ≡ a
  dependency_argument_itself a = λ i. record { star = option_same same_leaf (λ star. refl) a.star i; value = expr_itself a.value i }

  dependency_itself : (d : Dependency A B S) → over_dependency same_leaf same_leaf same_leaf d ≡ d
  dependency_itself d = λ i. record {
    star = option_same same_leaf (λ star. refl) d.star i;
    path = map_same same_leaf (λ name. refl) d.path i;
    arguments = map_same (over_dependency_argument same_leaf same_leaf same_leaf) dependency_argument_itself d.arguments i;
  }

  header_itself : (h : Header A B S) → over_header same_leaf same_leaf same_leaf h ≡ h
  header_itself h = λ i. record {
    quiet = h.quiet;
    name = h.name;
    parameters = map_same (over_parameter same_leaf same_leaf) parameter_itself h.parameters i;
    priors = map_same (over_dependency same_leaf same_leaf same_leaf) dependency_itself h.priors i;
    subsequents = map_same (over_dependency same_leaf same_leaf same_leaf) dependency_itself h.subsequents i;
  }

setting_itself : {A B : Type 0} (value : SettingValue A B) → over_setting_value same_leaf same_leaf value ≡ value
setting_itself (tree.Truth value) = refl
setting_itself (tree.Value value) = ap tree.Value (expr_itself value)
setting_itself (tree.Interpreter command arguments) = λ i. tree.Interpreter (expr_itself command i) (exprs_itself arguments i)

pub content_itself : {A B C S : Type 0} (c : Content A B C S) → over_content same_leaf same_leaf same_leaf same_leaf c ≡ c
content_itself (tree.Alias parts) = λ i. tree.Alias (record { name = parts.name; target = map_same same_leaf (λ name. refl) parts.target i })
content_itself (tree.Assignment parts) = ap tree.Assignment (assignment_itself parts)
content_itself (tree.Function parts) =
    λ i. tree.Function (record { name = parts.name; parameters = map_same same_leaf (λ name. refl) parts.parameters i; body = expr_itself parts.body i })
content_itself (tree.Import parts) = refl
content_itself {A = A} {B = B} (tree.Module parts) =
    λ i. tree.Module (record { doc = parts.doc; optional = parts.optional; name = parts.name; path = option_same (over_quoted {A = A} {B = B} same_leaf same_leaf) (λ q. refl) parts.path i })
content_itself (tree.Setting parts) = λ i. tree.Setting (record { keyword = parts.keyword; name = parts.name; value = setting_itself parts.value i })
content_itself (tree.Unexport name) = refl
content_itself (tree.Recipe parts) = λ i. tree.Recipe (record { doc = parts.doc; header = header_itself parts.header i; comment = parts.comment; body = body_itself parts.body i })

item_itself : {A B C S : Type 0} (i : WrittenItem A B C S) → over_item same_leaf same_leaf same_leaf same_leaf (map (over_written_attribute same_leaf same_leaf)) i ≡ i
item_itself tree.Newline = refl
item_itself (tree.Comment text) = refl
item_itself (tree.Construct attributes content) = λ i. tree.Construct (attributes_itself attributes i) (content_itself content i)

-- nothing becomes something else
abbrev pub unchanged : {A B C S : Type 0} → Maps A B C S A B C S
unchanged = record { leaf = same_leaf; position = same_leaf; number = same_leaf; star = same_leaf }

pub items_itself : {A B C S : Type 0} (items : List (WrittenItem A B C S)) → over_items unchanged items ≡ items
items_itself = map_same (over_item same_leaf same_leaf same_leaf same_leaf (map (over_written_attribute same_leaf same_leaf))) item_itself

-- ---- the literals over other leaves

module _ {A B D E : Type 0} (f : A → D) (g : B → E) where
  -- two rows of literals
  two : (ls ms : List (Literal A)) (ls' ms' : List (Literal D)) → ls' ≡ map (over_literal f) ls → ms' ≡ map (over_literal f) ms → ls' ++ ms' ≡ map (over_literal f) (ls ++ ms)
  two ls ms ls' ms' e k = (λ i. e i ++ k i) ∙ sym (map-append (over_literal f) ls ms)

  mutual
    pub expr_over : (e : Expr A B) → expr_literals (over_expr f g e) ≡ map (over_literal f) (expr_literals e)
    expr_over (tree.Or l r) = two (expr_literals l) (expr_literals r) _ _ (expr_over l) (expr_over r)
    expr_over (tree.And l r) = two (expr_literals l) (expr_literals r) _ _ (expr_over l) (expr_over r)
    expr_over (tree.Comparison l operator token r) = two (expr_literals l) (expr_literals r) _ _ (expr_over l) (expr_over r)
    expr_over (tree.Concatenation l operator r) = two (expr_literals l) (expr_literals r) _ _ (expr_over l) (expr_over r)
    expr_over (tree.ListConcatenation l operator r) = two (expr_literals l) (expr_literals r) _ _ (expr_over l) (expr_over r)
    expr_over (tree.Join l operator r) = two (expr_literals l) (expr_literals r) _ _ (expr_over l) (expr_over r)
    expr_over (tree.Root operator r) = expr_over r
    expr_over (tree.If c b) = two (expr_literals c) (expr_literals b) _ _ (expr_over c) (expr_over b)
    expr_over (tree.IfElse c b o) =
        two (expr_literals c ++ expr_literals b) (expr_literals o) _ _ (two (expr_literals c) (expr_literals b) _ _ (expr_over c) (expr_over b)) (expr_over o)
    expr_over (tree.Not e) = expr_over e
    expr_over (tree.StringLiteral true token) = refl
    expr_over (tree.StringLiteral false token) = refl
    expr_over (tree.FormatString start e parts) = ap (λ ls. literal.Start (f start) ∷ ls) (two (expr_literals e) (parts_literals start parts) _ _ (expr_over e) (parts_over start parts))
    expr_over (tree.Assert name c) = expr_over c
    expr_over (tree.AssertMessage name c m) = two (expr_literals c) (expr_literals m) _ _ (expr_over c) (expr_over m)
    expr_over (tree.Call name arguments) = exprs_over arguments
    expr_over (tree.Group e) = expr_over e
    expr_over (tree.ListOf opener elements) = exprs_over elements
    expr_over _ = refl

    exprs_over : (es : Exprs A B) → exprs_literals (over_exprs f g es) ≡ map (over_literal f) (exprs_literals es)
    exprs_over tree.none = refl
    exprs_over (tree.more e es) = two (expr_literals e) (exprs_literals es) _ _ (expr_over e) (exprs_over es)

    parts_over : (start : A) (ps : Parts A B) → parts_literals (f start) (over_parts f g ps) ≡ map (over_literal f) (parts_literals start ps)
    parts_over start (tree.Last token) = refl
    parts_over start (tree.Continue token e ps) = ap (λ ls. literal.Continue (f start) (f token) ∷ ls) (two (expr_literals e) (parts_literals start ps) _ _ (expr_over e) (parts_over start ps))

  fragments_over : (fragments : List (Fragment A B)) → fragments_literals (map (over_fragment f g) fragments) ≡ map (over_literal f) (fragments_literals fragments)
  fragments_over [] = refl
  fragments_over (tree.Text token ∷ fragments) = fragments_over fragments
  fragments_over (tree.Interpolation value ∷ fragments) = two (expr_literals value) (fragments_literals fragments) _ _ (expr_over value) (fragments_over fragments)

  -- of a part that may be missing
  optional_over : (o : Option (Expr A B)) → optional_literals expr_literals (option_map (over_expr f g) o) ≡ map (over_literal f) (optional_literals expr_literals o)
  optional_over None = refl
  optional_over (Some e) = expr_over e

  argument_over : (a : Argument A B) → argument_literals (over_argument f g a) ≡ map (over_literal f) (argument_literals a)
  argument_over (tree.Positional first value) = expr_over value
  argument_over (tree.Bare key) = refl
  argument_over (tree.Keyed key value) = expr_over value

  pub written_over : (ws : List (WrittenAttribute A B)) → written_literals (map (over_written_attribute f g) ws) ≡ map (over_literal f) (written_literals ws)
  written_over =
      flat_mapped (λ (w : WrittenAttribute A B). flat_map argument_literals w.arguments) (λ (w : WrittenAttribute D E). flat_map argument_literals w.arguments) (over_written_attribute f g) (over_literal f)
      (λ w. flat_mapped argument_literals argument_literals (over_argument f g) (over_literal f) argument_over w.arguments)

  string_over : (expanded : Bool) (token : A) → literal.string_of expanded (f token) ≡ over_literal f (literal.string_of expanded token)
  string_over true token = refl
  string_over false token = refl

  quoted_over : (q : Quoted A) → quoted_literals (over_quoted f g q) ≡ map (over_literal f) (quoted_literals q)
  quoted_over q = ap (λ l. l ∷ []) (string_over q.expanded q.token)

  option_over : (o : OptionName A B) → option_literals (over_option f g o) ≡ map (over_literal f) (option_literals o)
  option_over tree.NoOption = refl
  option_over (tree.OwnName key) = refl
  option_over (tree.Named name) = quoted_over name

  property_over : (o : Option (Property A B)) → optional_literals (λ (p : Property D E). expr_literals p.value) (option_map (over_property f g) o) ≡ map (over_literal f) (optional_literals (λ (p : Property A B). expr_literals p.value) o)
  property_over None = refl
  property_over (Some p) = expr_over p.value

  rules_over : (a : ArgumentRules A B) → rules_literals (over_rules f g a) ≡ map (over_literal f) (rules_literals a)
  rules_over a =
      let name = quoted_literals a.name in
      let long = name ++ option_literals a.long in
      let short = long ++ option_literals a.short in
      let pattern = short ++ optional_literals (λ (p : Property A B). expr_literals p.value) a.pattern in
      let value = pattern ++ optional_literals expr_literals a.value in
      two value (optional_literals (λ (p : Property A B). expr_literals p.value) a.help) _ _
      (two pattern (optional_literals expr_literals a.value) _ _
      (two short (optional_literals (λ (p : Property A B). expr_literals p.value) a.pattern) _ _
      (two long (option_literals a.short) _ _ (two name (option_literals a.long) _ _ (quoted_over a.name) (option_over a.long)) (option_over a.short))
      (property_over a.pattern)) (optional_over a.value)) (property_over a.help)

  attribute_over : (a : Attribute A B) → attribute_literals (over_attribute f g a) ≡ map (over_literal f) (attribute_literals a)
  attribute_over (tree.Plain kind) = refl
  attribute_over (tree.Single kind value) = expr_over value
  attribute_over (tree.Texts kind texts) = flat_mapped quoted_literals quoted_literals (over_quoted f g) (over_literal f) quoted_over texts
  attribute_over (tree.Env key value) = two (expr_literals key) (expr_literals value) _ _ (expr_over key) (expr_over value)
  attribute_over (tree.Signals signals) = refl
  attribute_over (tree.Cache extra inputs outputs) = simp (map-append, optional_over extra, optional_over inputs, optional_over outputs)
  attribute_over (tree.Arg rules) = rules_over rules

  entries_over : (es : List (Entry A B)) → entries_literals (map (over_entry f g) es) ≡ map (over_literal f) (entries_literals es)
  entries_over =
      flat_mapped (λ (e : Entry A B). attribute_literals e.attribute) (λ (e : Entry D E). attribute_literals e.attribute) (over_entry f g) (over_literal f) (λ e. attribute_over e.attribute)

  parameter_over : (p : Parameter A B) → parameter_literals (over_parameter f g p) ≡ map (over_literal f) (parameter_literals p)
  parameter_over p = optional_over p.default

module _ {A B S D E T : Type 0} (f : A → D) (g : B → E) (k : S → T) where
  dependency_over : (d : Dependency A B S) → dependency_literals (over_dependency f g k d) ≡ map (over_literal f) (dependency_literals d)
  dependency_over d =
      flat_mapped (λ (a : DependencyArgument A B S). expr_literals a.value) (λ (a : DependencyArgument D E T). expr_literals a.value) (over_dependency_argument f g k) (over_literal f)
      (λ a. expr_over f g a.value) d.arguments

  dependencies_over : (ds : List (Dependency A B S)) → flat_map dependency_literals (map (over_dependency f g k) ds) ≡ map (over_literal f) (flat_map dependency_literals ds)
  dependencies_over = flat_mapped dependency_literals dependency_literals (over_dependency f g k) (over_literal f) dependency_over

  header_over : (h : Header A B S) → header_literals (over_header f g k h) ≡ map (over_literal f) (header_literals h)
  header_over h =
      two f g (flat_map parameter_literals h.parameters ++ flat_map dependency_literals h.priors) (flat_map dependency_literals h.subsequents) _ _
      (two f g (flat_map parameter_literals h.parameters) (flat_map dependency_literals h.priors) _ _
      (flat_mapped parameter_literals parameter_literals (over_parameter f g) (over_literal f) (parameter_over f g) h.parameters) (dependencies_over h.priors))
      (dependencies_over h.subsequents)

module _ {A B C S D E F T : Type 0} (f : A → D) (g : B → E) (h : C → F) (k : S → T) where
  body_over : (body : List (BodyLine A B C)) → body_literals (map (over_line f g h) body) ≡ map (over_literal f) (body_literals body)
  body_over [] = refl
  body_over (Line number fragments ∷ body) = two f g (fragments_literals fragments) (body_literals body) _ _ (fragments_over f g fragments) (body_over body)

  path_over : (path : Option (Quoted A)) → optional_literals quoted_literals (option_map (over_quoted f g) path) ≡ map (over_literal f) (optional_literals quoted_literals path)
  path_over None = refl
  path_over (Some q) = quoted_over f g q

  setting_over : (value : SettingValue A B) → setting_literals (over_setting_value f g value) ≡ map (over_literal f) (setting_literals value)
  setting_over (tree.Truth value) = refl
  setting_over (tree.Value value) = expr_over f g value
  setting_over (tree.Interpreter command arguments) =
      two f g (expr_literals command) (exprs_literals arguments) _ _ (expr_over f g command) (exprs_over f g arguments)

  content_over : (c : Content A B C S) → content_literals (over_content f g h k c) ≡ map (over_literal f) (content_literals c)
  content_over (tree.Alias parts) = refl
  content_over (tree.Assignment parts) = expr_over f g parts.value
  content_over (tree.Function parts) = expr_over f g parts.body
  content_over (tree.Import parts) = quoted_over f g parts.path
  content_over (tree.Module parts) = path_over parts.path
  content_over (tree.Setting parts) = setting_over parts.value
  content_over (tree.Unexport name) = refl
  content_over (tree.Recipe parts) = two f g (header_literals parts.header) (body_literals parts.body) _ _ (header_over f g k parts.header) (body_over parts.body)

  -- of items with attributes whose literals go along
  module _ {X Y : Type 0} (m : X → Y) (of : X → List (Literal A)) (of' : Y → List (Literal D)) (same : (x : X) → of' (m x) ≡ map (over_literal f) (of x)) where
    item_over : (i : Item A B C S X) → item_literals of' (over_item f g h k m i) ≡ map (over_literal f) (item_literals of i)
    item_over tree.Newline = refl
    item_over (tree.Comment text) = refl
    item_over (tree.Construct attributes content) = two f g (of attributes) (content_literals content) _ _ (same attributes) (content_over content)

    pub items_over : (items : List (Item A B C S X)) → items_literals of' (map (over_item f g h k m) items) ≡ map (over_literal f) (items_literals of items)
    items_over [] = refl
    items_over (i ∷ items) = two f g (item_literals of i) (items_literals of items) _ _ (item_over i) (items_over items)

-- the literals of a shape are the lexemes of the tree's
pub lexemes : (t : Tree) → literals (shape_of t) ≡ map (over_literal lexeme) (literals t)
lexemes = items_over lexeme nothing nothing (λ star. star) (map (over_entry lexeme nothing)) entries_literals entries_literals (entries_over lexeme nothing)

pub all_lexemes : (w : WrittenTree) → all_literals (written_shape_of w) ≡ map (over_literal lexeme) (all_literals w)
all_lexemes = items_over lexeme nothing nothing nothing (map (over_written_attribute lexeme nothing)) written_literals written_literals (written_over lexeme nothing)

-- ---- the same tokens

pub equal_pairs : (ts : Tokens) → Pairs (λ t u. t ≡ u) ts ts
equal_pairs [] = nil
equal_pairs (t ∷ ts) = cons refl (equal_pairs ts)

pub pairs_equal : {ts us : Tokens} → Pairs (λ t u. t ≡ u) ts us → ts ≡ us
pairs_equal nil = refl
pairs_equal (cons e es) = λ i. e i ∷ pairs_equal es i

pub equal_same : (t u : SignificantToken) → t ≡ u → Same t u
equal_same t u e = record { kind = ap (λ (x : SignificantToken). x.tok.kind) e; lexeme = ap (λ (x : SignificantToken). x.tok.lexeme) e; glued = ap (λ (x : SignificantToken). x.glued) e }

-- a written shape keeps no positions
abbrev pub forgotten : Maps Tok Tok ℕ Tok (List ℕ) (Unit {0}) (Unit {0}) (Unit {0})
forgotten = record { leaf = lexeme; position = nothing; number = nothing; star = nothing }

equal_lexemes : (t u : SignificantToken) → t ≡ u → u.tok.lexeme ≡ t.tok.lexeme
equal_lexemes t u e = sym (ap (λ (x : SignificantToken). x.tok.lexeme) e)

module _ (MayEnter : ℕ → Option SignificantToken → Type 0) where
  still : (d : ℕ) (ts us : Tokens) → Pairs (λ t u. t ≡ u) ts us → MayEnter d (front ts) → MayEnter d (front us)
  still d ts us s o = subst (λ x. MayEnter d (front x)) (pairs_equal s) o

  -- a derivation of a written tree is one of its shape
  pub forget : {all : WrittenTree} {fs : List (ConstructFeatures Tok)} {ts : Tokens} → File to_tokens MayEnter all fs ts
      → File to_lexemes MayEnter (written_shape_of all) (map (over_features nothing) fs) ts
  forget {all} {fs} {ts} h =
      let alike : Alike to_tokens forgotten to_lexemes unchanged (λ t u. t ≡ u) = record { leaves = equal_lexemes; positions = λ t u s. refl; numbers = λ t u s. refl; stars = λ t u s. refl } in
      let x = c.file to_tokens MayEnter forgotten (λ t u. t ≡ u) equal_same to_lexemes MayEnter unchanged alike still h ts (equal_pairs ts) in
      subst (λ y. File to_lexemes MayEnter y (map (over_features nothing) fs) ts) (sym (items_itself x.tree) ∙ x.alike)
      (subst (λ n. File to_lexemes MayEnter x.tree n ts) (sym (features_itself x.features) ∙ x.noted_alike) x.derives)

  -- a written tree with this shape, and its features
  pub record Lifted (shape : WrittenShape) (fs : List (ConstructFeatures (Unit {0}))) (ts : Tokens) : Type 0 where
    pub tree : WrittenTree
    pub features : List (ConstructFeatures Tok)
    pub derives : File to_tokens MayEnter tree features ts
    pub alike : written_shape_of tree ≡ shape
    pub noted_alike : map (over_features nothing) features ≡ fs

  -- a shape's derivation is that of a written tree with this shape
  pub lift : {shape : WrittenShape} {fs : List (ConstructFeatures (Unit {0}))} {ts : Tokens} → File to_lexemes MayEnter shape fs ts → Lifted shape fs ts
  lift {shape} {fs} {ts} h =
      let alike : Alike to_lexemes unchanged to_tokens forgotten (λ t u. t ≡ u) = record { leaves = equal_lexemes; positions = λ t u s. refl; numbers = λ t u s. refl; stars = λ t u s. refl } in
      let x = c.file to_lexemes MayEnter unchanged (λ t u. t ≡ u) equal_same to_tokens MayEnter forgotten alike still h ts (equal_pairs ts) in
      record { tree = x.tree; features = x.features; derives = x.derives; alike = x.alike ∙ items_itself shape; noted_alike = x.noted_alike ∙ features_itself fs }

-- a shape derives from tokens at any positions
pub elsewhere : (limit : ℕ) {shape : WrittenShape} {fs : List (ConstructFeatures (Unit {0}))} {ts us : Tokens} → File to_lexemes (BelowLimit limit) shape fs ts → Pairs Same ts us
    → File to_lexemes (BelowLimit limit) shape fs us
elsewhere limit {shape} {fs} {ts} {us} h s =
    let alike : Alike to_lexemes unchanged to_lexemes unchanged Same = record { leaves = λ t u same. sym same.lexeme; positions = λ t u same. refl; numbers = λ t u same. refl; stars = λ t u same. refl } in
    let x = c.file to_lexemes (BelowLimit limit) unchanged Same (λ t u same. same) to_lexemes (BelowLimit limit) unchanged alike (λ d ts us same opened. opened) h us s in
    subst (λ y. File to_lexemes (BelowLimit limit) y fs us) (sym (items_itself x.tree) ∙ x.alike ∙ items_itself shape)
    (subst (λ n. File to_lexemes (BelowLimit limit) x.tree n us) (sym (features_itself x.features) ∙ x.noted_alike ∙ features_itself fs) x.derives)

-- ---- files

module _ (conditions : Conditions) (tokens : Tokens) (spelled : AllSpelled tokens) where
  pub file_forgets : (all : Tree) (fs : List (Noted Tok)) → FileDerives conditions tokens all fs → ShapeDerives conditions tokens (shape_of all) (map (over_noted nothing) fs)
  file_forgets all fs h =
      let kinded = file_kinded (BelowLimit conditions.limit) h.derives spelled in
      record {
        written = written_shape_of h.written;
        by_construct = map (over_features nothing) h.by_construct;
        derives = forget _ h.derives;
        features_are = ap (map (over_noted nothing)) h.features_are ∙ sym (all_features_seen conditions.expander h.written h.by_construct kinded);
        cooked = h.obeys.cooked;
        cooks = subst (λ l. AreCookedTexts conditions.expander l h.obeys.cooked) (sym (all_lexemes h.written)) h.obeys.cooks;
        unbroken = shape_unbroken conditions.expander conditions.current h.written kinded h.obeys.unbroken;
        ordered_is = shape_ordered conditions.expander h.written all kinded h.ordered_is;
      }

  pub file_lifts : (shape : Shape) (fs : List (Noted (Unit {0}))) → ShapeDerives conditions tokens shape fs
      → (all : Tree) × (features : List (Noted Tok)) × FileDerives conditions tokens all features × (shape_of all ≡ shape) × (map (over_noted nothing) features ≡ fs)
  file_lifts shape fs h =
      let x = lift _ h.derives in
      let kinded = file_kinded (BelowLimit conditions.limit) x.derives spelled in
      let view = views_lexemes conditions.expander in
      let t = tree_ordered conditions.expander x.tree shape kinded (ap (ordered view) x.alike ∙ h.ordered_is) in
      let features = all_features (views_tokens conditions.expander) x.tree x.features in
      let obeys : Obeys conditions x.tree = record {
        cooked = h.cooked;
        cooks = subst (λ l. AreCookedTexts conditions.expander l h.cooked) (ap all_literals (sym x.alike) ∙ all_lexemes x.tree) h.cooks;
        unbroken = tree_unbroken conditions.expander conditions.current x.tree kinded (ap (broken conditions.current view) x.alike ∙ h.unbroken);
      } in
      let same : map (over_noted nothing) features ≡ fs =
      sym (all_features_seen conditions.expander x.tree x.features kinded) ∙ (λ i. all_features view (x.alike i) (x.noted_alike i)) ∙ sym h.features_are
      in
      (t.0, features, record { written = x.tree; by_construct = x.features; derives = x.derives; features_are = refl; obeys = obeys; ordered_is = t.1 }, t.2, same)

  -- tokens derive at most one tree with its features
  abbrev pub OneTree : Type 0
  OneTree = (tree other : Tree) (features others : List (Noted Tok)) → FileDerives conditions tokens tree features → FileDerives conditions tokens other others → (tree ≡ other) × (features ≡ others)

  pub one_shape : OneTree → (shape other : Shape) (fs gs : List (Noted (Unit {0}))) → ShapeDerives conditions tokens shape fs → ShapeDerives conditions tokens other gs → (shape ≡ other) × (fs ≡ gs)
  one_shape one_tree shape other fs gs h q =
      let x = file_lifts shape fs h in
      let y = file_lifts other gs q in
      let same = one_tree x.0 y.0 x.1 y.1 x.2 y.2 in
      (sym x.3 ∙ ap shape_of same.0 ∙ y.3, sym x.4 ∙ ap (map (over_noted nothing)) same.1 ∙ y.4)
