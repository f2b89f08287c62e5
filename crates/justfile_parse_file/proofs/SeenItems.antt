-- The items of the code, with their parts, correspond to those that the definitions read, before docs are taken from comments.
use Rattle.std.proofs.Common.{◌≡◌, ℕ, List, [], ◌∷◌, ◌++◌, map, All, Some, None, refl, sym, ap, subst, ◌∙◌, ◌+◌, Bool, true, false, take, drop, IfSome, Option}
use Rattle.std.proofs.lemmas.List.Elements.{All-cons, All-head, All-nil, All-tail, All-append}
use Rattle.justfile_token.specs.Namepath.{names_in}
use Rattle.justfile_token.specs.declared.token.Token.{Token}
use Rattle.justfile_line.specs.Body.{body_line_of}
use Rattle.justfile_item.specs.Item.{header_of, item_numbers, item_of, item_recipe_numbers, priors_of, subsequents_of, parameter_number, function_parameter_number, function_parameter_of, quoted_of}
use Rattle.justfile_item.specs.declared.alias.Alias.{Alias}
use Rattle.justfile_item.specs.declared.item.Item.{Item}
use Rattle.justfile_item.specs.declared.item.Item.TheVariants as items
use Rattle.justfile_ast.specs.Ast.{noted_of}
use Rattle.justfile_model.specs.Grammars.Conditions.{Conditions}
use Rattle.justfile_model.specs.Grammars.Docs.{redocumented}
use Rattle.justfile_model.specs.Grammars.Features.{Noted}
use Rattle.justfile_model.specs.Grammars.Files.{NumbersFrom, ordered_item, with_entries}
use Rattle.justfile_model.specs.Meanings.Meaning.{entries_of}
use Rattle.justfile_model.specs.Readers.ReaderState.{Counters}
use Rattle.justfile_model.specs.Trees.LeafView.{views_tokens}
use Rattle.justfile_model.specs.Lexing.Tok.{Tok, tok_of}
use Rattle.justfile_model.specs.Trees.Tree as tree
use Rattle.justfile_model.specs.Trees.Tree.{Content, Item as AnyItem, WrittenAttribute, WrittenItem, assignment_of, bare_module, bare_recipe, starless, starless_header, Expr, starless_argument, starless_dependency, Exprs, Quoted, SettingValue}
use Rattle.justfile_vocabulary.specs.declared.list_feature.ListFeature.{ListFeature}
use Rattle.justfile_model.proofs.Readers.Counters.{count, parameters_recipes, after_parameters}
use Rattle.justfile_model.proofs.Relations.Related as a
use Rattle.justfile_model.proofs.Relations.Related.{AlikeItem, Each, Alike, AlikeDependency, AlikeDependencyArgument, AlikeOption, AlikeParameter, AlikeParameters, absent, present, AlikeAll, AlikeNames, AlikeQuoted, AlikeValue}
use Rattle.justfile_setting.specs.Setting.{Content as SettingContent, ExpressionContent, HasDerivedContent, IndentationContent, InterpreterContent, PlainContent, TruthContent, content_by, content_of, expression_by, interpreter_by, keyword_of, literal_by}
use Rattle.justfile_expression.specs.LeafTree.{Assigned, AssignmentName, Headed, Leaf, RecipeName, Named, leaf_tree_of, Literal, literal_of, trees_of}
use Rattle.justfile_attribute.specs.New.{HasDerivedAttributeFields}
use Rattle.justfile_attribute_set.specs.AttributeSet as sets
use Rattle.justfile_attribute_set.specs.AttributeSet.{AttributeSet, written_of}
use Rattle.justfile_attribute_set.specs.Keys.{firsts}
use Rattle.justfile_attribute_set.specs.Pairs.{Pair}
use Rattle.justfile_parse_docs.specs.ParsedItems.{AreFilledAttributes, IsFilledAttribute, IsFilledItem, IsFilledLine, IsFilledArgument, IsFilledDependency, IsFilledExpression, IsFilledName, IsFilledParameter, IsFilledCommandLine, IsFilledContent, IsFilledLiteral, IsFilledNumbered, IsFilledPath}
use Rattle.justfile_parse_expression.specs.TableReader.{assigned_leaf, headed_leaf}
use Rattle.justfile_parse_docs.specs.ParsedItems.{assignment_name, item_tree, numbered_leaf, recipe_name}
use Rattle.justfile_parse_item_parts.specs.BodyTrees.{line_tree}
use Rattle.justfile_parse_docs.specs.ParsedItems.{HasDerivedSetAttributes, HasDerivedItemFields}
use Rattle.justfile_parse_attribute.specs.DerivedAttributeFields.{HaveDerivedAttributeFields}
use Rattle.justfile_parse_expression.proofs.Seen as table
use Rattle.justfile_parse_docs.proofs.ParsedItems as seeing
use Rattle.justfile_parse_expression.proofs.Seen.{Relates, in_run}
use Rattle.justfile_parse_docs.proofs.ParsedItems.{shebang_given}
use Rattle.std.specs.Option.{option_map}
use Rattle.std.proofs.lemmas.List.{take-append-drop}
use Rattle.justfile_numbers.specs.Numerator.{number_of}
use Rattle.justfile_token.specs.declared.name.Name.{Name}
use Rattle.justfile_numbers.specs.declared.number.Number.{Number}
use Rattle.justfile_recipe_header.specs.Header.{dependency_argument_of, dependency_of, is_starred, name_of, parameter_of, star_of}
use Rattle.justfile_recipe_header.specs.declared.parameter.Parameter.{Parameter}
use Rattle.justfile_recipe_header.specs.declared.unresolved_dependency.DependencyArgument.{DependencyArgument}
use Rattle.justfile_recipe_header.specs.declared.unresolved_dependency.UnresolvedDependency.{UnresolvedDependency}
use Rattle.justfile_model.specs.Readers.HeaderReader.{with_bindings}
use Rattle.justfile_parse_header.specs.Tree.{argument_tree, dependency_tree, parameter_name, parameter_tree}
use Rattle.justfile_parse_base.specs.Trees.{name_tree}
use Rattle.justfile_expression.specs.Expression.{expr_of, exprs_of, literal_tok}
use Rattle.justfile_expression.specs.declared.expression.Expression.{Expression}
use Rattle.justfile_attribute.specs.declared.interpreter.Interpreter.{Interpreter}
use Rattle.justfile_token.specs.declared.string_literal.StringLiteral as strings
use Rattle.justfile_setting.specs.declared.setting.Setting.{Setting}
use Rattle.justfile_attribute_rules.specs.Made.{quoted_leaf}

-- an item without its doc
abbrev pub undoc : {A B C S D : Type 0} → AnyItem A B C S D → AnyItem A B C S D
undoc tree.Newline = tree.Newline
undoc (tree.Comment text) = tree.Comment text
undoc (tree.Construct attributes content) = tree.Construct attributes (redocumented None content)

-- a number, if it is there
abbrev number_in : Option Number → ℕ
number_in None = 0
number_in (Some number) = number.0

abbrev leaf_number : Leaf → ℕ
leaf_number (Named token number) = number_in number
leaf_number _ = 0

module _ (conditions : Conditions) (bound : ℕ) (IsToken : Token → Type 0) (file_depth : ℕ) (import_offsets : List ℕ) where
  abbrev seen : Relates
  seen = seeing.seen conditions bound IsToken file_depth import_offsets

  abbrev IsLeaf : (Token → Leaf) → Leaf → Tok → Type 0
  IsLeaf = table.IsLeaf conditions bound IsToken file_depth import_offsets

  -- ---- names

  name_seen : (name : Name) (tok : Tok) → IsLeaf (λ token. Named token None) (name_tree name) tok → (tok ≡ name_of name) × IsFilledName conditions.expander IsToken name
  name_seen name tok h =
      let x = seeing.variable_seen conditions bound IsToken file_depth import_offsets name.token None tok h in
      (x.1, x.0)

  -- the names of a path
  path_seen : (names : List Name) {ts : List Tok} → Each (IsLeaf (λ token. Named token None)) (map name_tree names) ts
      → (ts ≡ map name_of names) × All (IsFilledName conditions.expander IsToken) names
  path_seen names h =
      seeing.all_seen conditions bound IsToken file_depth import_offsets name_tree name_of (IsFilledName conditions.expander IsToken) name_seen names h

  -- ---- dependencies

  star_seen : (starred : Bool) {star : Option Tok} → AlikeOption seen.star (star_of starred) star → option_map (λ (t : Tok). tt) star ≡ star_of starred
  star_seen true (present h) = refl
  star_seen false absent = refl

  argument_seen : (d : DependencyArgument) (t : tree.DependencyArgument Tok Tok Tok) → AlikeDependencyArgument seen seen.star (argument_tree d) t
      → (starless_argument t ≡ dependency_argument_of d) × IsFilledArgument conditions.expander IsToken d
  argument_seen d t h =
      let x = seeing.seen_expression conditions bound IsToken file_depth import_offsets d.expression h.value in
      ((λ i. record { star = star_seen d.starred h.star i; value = x.same i }), x.given)

  dependency_seen : (d : UnresolvedDependency) (t : tree.Dependency Tok Tok Tok) → AlikeDependency seen (dependency_tree d) t
      → (starless_dependency t ≡ dependency_of d) × IsFilledDependency conditions.expander IsToken d
  dependency_seen d t h =
      let p = path_seen (names_in d.recipe) h.path in
      let q = seeing.each_seen conditions bound IsToken file_depth import_offsets argument_tree dependency_argument_of starless_argument (IsFilledArgument conditions.expander IsToken) argument_seen d.arguments.items h.arguments in
      ((λ i. record { star = star_seen (is_starred d) h.star i; path = p.0 i; arguments = q.0 i }), (p.1, q.1))

  dependencies_seen : (ds : List UnresolvedDependency) {ts : List (tree.Dependency Tok Tok Tok)} → Each (AlikeDependency seen) (map dependency_tree ds) ts
      → (map starless_dependency ts ≡ map dependency_of ds) × All (IsFilledDependency conditions.expander IsToken) ds
  dependencies_seen ds h =
      seeing.each_seen conditions bound IsToken file_depth import_offsets dependency_tree dependency_of starless_dependency (IsFilledDependency conditions.expander IsToken) dependency_seen ds h

  -- those before `&&` and those after it are all
  both_given : (priors : ℕ) (ds : List UnresolvedDependency) → All (IsFilledDependency conditions.expander IsToken) (take priors ds)
      → All (IsFilledDependency conditions.expander IsToken) (drop priors ds) → All (IsFilledDependency conditions.expander IsToken) ds
  both_given priors ds h k =
      subst (All (IsFilledDependency conditions.expander IsToken)) (take-append-drop priors ds)
      (All-append (IsFilledDependency conditions.expander IsToken) (take priors ds) (drop priors ds) h k)

  -- ---- parameters

  -- a parameter with this number
  record SeenParameter (number : ℕ) (p : Parameter) (t : tree.Parameter Tok Tok) : Type 0 where
    same : t ≡ parameter_of p
    given : IsFilledParameter conditions.expander IsToken p
    numbered : p.number.0 ≡ number

  default_seen : (o : Option Expression) {ot : Option (Expr Tok Tok)} → AlikeOption (Alike seen) (option_map leaf_tree_of o) ot → (ot ≡ option_map expr_of o) × IfSome o (IsFilledExpression conditions.expander IsToken)
  default_seen o h = seeing.if_seen conditions bound IsToken file_depth import_offsets leaf_tree_of expr_of (IsFilledExpression conditions.expander IsToken) (λ e t k. let x = seeing.seen_expression conditions bound IsToken file_depth import_offsets e k in (x.same, x.given)) o h

  parameter_seen : (number : ℕ) (p : Parameter) (t : tree.Parameter Tok Tok) → AlikeParameter seen number (parameter_tree p) t → SeenParameter number p t
  parameter_seen number p t h =
      let n = seeing.name_seen conditions bound IsToken file_depth import_offsets (λ token. Named token (Some (number_of number))) p.name.token (parameter_name p) t.name (λ token. refl) refl h.name in
      let d = default_seen p.default h.default in
      record {
        same = λ i. record { kind = sym h.kind i; export = sym h.export i; name = n.1 i; default = d.0 i };
        given = (n.0, d.1);
        numbered = ap leaf_number h.name.is;
      }

  -- parameters, where the counters stand before the first
  record SeenParameters (n : Counters) (ps : List Parameter) (ts : List (tree.Parameter Tok Tok)) : Type 0 where
    same : ts ≡ map parameter_of ps
    given : All (IsFilledParameter conditions.expander IsToken) ps
    numbers : (more : List ℕ) → NumbersFrom (after_parameters n (map parameter_tree ps)).bindings more → NumbersFrom n.bindings (map parameter_number ps ++ more)

  parameters_seen : (n : Counters) (ps : List Parameter) {ts : List (tree.Parameter Tok Tok)} → AlikeParameters seen n.bindings (map parameter_tree ps) ts → SeenParameters n ps ts
  parameters_seen n [] a.no_parameter = record { same = refl; given = All-nil (IsFilledParameter conditions.expander IsToken); numbers = λ more h. h }
  parameters_seen n (p ∷ ps) (a.a_parameter {p' = t} h hs) =
      let x = parameter_seen n.bindings p t h in
      let y = parameters_seen (with_bindings (n.bindings + 1) n) ps hs in
      record {
        same = λ i. x.same i ∷ y.same i;
        given = All-cons (IsFilledParameter conditions.expander IsToken) p ps x.given y.given;
        numbers = λ more k. (x.numbered, y.numbers more k);
      }

  -- ---- paths of files

  relative_seen : (l : strings.StringLiteral) (q : Quoted Tok) → AlikeQuoted seen (quoted_leaf l) q → (q ≡ quoted_of l) × IsFilledLiteral conditions.expander IsToken l
  relative_seen l q h = seeing.quoted_seen conditions bound IsToken file_depth import_offsets l h

  optional_relative_seen : (o : Option strings.StringLiteral) {p : Option (Quoted Tok)} → AlikeOption (AlikeQuoted seen) (option_map quoted_leaf o) p
      → (p ≡ option_map quoted_of o) × IsFilledPath conditions.expander IsToken o
  optional_relative_seen o h =
      seeing.if_seen conditions bound IsToken file_depth import_offsets quoted_leaf quoted_of (IsFilledLiteral conditions.expander IsToken) relative_seen o h

  -- ---- the parameters of functions

  -- a name with this number
  record SeenNumbered (number : ℕ) (x : Name × Number) (t : Tok) : Type 0 where
    same : t ≡ function_parameter_of x
    given : IsFilledNumbered conditions.expander IsToken x
    numbered : x.1.0 ≡ number

  numbered_seen : (number : ℕ) (x : Name × Number) (t : Tok) → IsLeaf (λ token. Named token (Some (number_of number))) (numbered_leaf x) t → SeenNumbered number x t
  numbered_seen number x t h =
      let n = seeing.name_seen conditions bound IsToken file_depth import_offsets (λ token. Named token (Some (number_of number))) x.0.token (numbered_leaf x) t (λ token. refl) refl h in
      record { same = n.1; given = n.0; numbered = ap leaf_number h.is }

  -- names, where the counters stand before the first
  record SeenNames (n : Counters) (xs : List (Name × Number)) (ts : List Tok) : Type 0 where
    same : ts ≡ map function_parameter_of xs
    given : All (IsFilledNumbered conditions.expander IsToken) xs
    numbers : (more : List ℕ) → NumbersFrom (after_parameters n (map numbered_leaf xs)).bindings more → NumbersFrom n.bindings (map function_parameter_number xs ++ more)

  names_seen : (n : Counters) (xs : List (Name × Number)) {ts : List Tok} → AlikeNames seen n.bindings (map numbered_leaf xs) ts → SeenNames n xs ts
  names_seen n [] a.no_name = record { same = refl; given = All-nil (IsFilledNumbered conditions.expander IsToken); numbers = λ more h. h }
  names_seen n (x ∷ xs) (a.a_name {a' = t} h hs) =
      let y = numbered_seen n.bindings x t h in
      let ys = names_seen (with_bindings (n.bindings + 1) n) xs hs in
      record {
        same = λ i. y.same i ∷ ys.same i;
        given = All-cons (IsFilledNumbered conditions.expander IsToken) x xs y.given ys.given;
        numbers = λ more k. (y.numbered, ys.numbers more k);
      }

  -- ---- values of settings

  expressions_seen : (es : List Expression) {ts : Exprs Tok Tok} → AlikeAll seen (trees_of es) ts → (ts ≡ exprs_of es) × All (IsFilledExpression conditions.expander IsToken) es
  expressions_seen [] a.none = (refl, All-nil (IsFilledExpression conditions.expander IsToken))
  expressions_seen (e ∷ es) (a.more h hs) =
      let x = seeing.seen_expression conditions bound IsToken file_depth import_offsets e h in
      let y = expressions_seen es hs in
      ((λ i. tree.more (x.same i) (y.0 i)), All-cons (IsFilledExpression conditions.expander IsToken) e es x.given y.1)

  value_seen : (e : Expression) {v : SettingValue Tok Tok} → AlikeValue seen (expression_by leaf_tree_of trees_of (λ l. Literal (literal_of l)) e) v
      → (v ≡ expression_by expr_of exprs_of literal_tok e) × IsFilledExpression conditions.expander IsToken e
  value_seen e (a.value h) = let x = seeing.seen_expression conditions bound IsToken file_depth import_offsets e h in (ap tree.Value x.same, x.given)

  literal_seen : (l : strings.StringLiteral) {v : SettingValue Tok Tok} → AlikeValue seen (literal_by leaf_tree_of trees_of (λ l. Literal (literal_of l)) l) v
      → (v ≡ literal_by expr_of exprs_of literal_tok l) × IsFilledLiteral conditions.expander IsToken l
  literal_seen l (a.value (a.string lexeme {a' = t} h)) =
      let x = seeing.string_seen conditions bound IsToken file_depth import_offsets lexeme l t h in
      (ap (λ (k : Tok). tree.Value (tree.StringLiteral l.expand k)) x.1, x.0)

  command_seen : (i : Interpreter Expression) {v : SettingValue Tok Tok} → AlikeValue seen (interpreter_by leaf_tree_of trees_of (λ l. Literal (literal_of l)) i) v
      → (v ≡ interpreter_by expr_of exprs_of literal_tok i) × IsFilledCommandLine conditions.expander IsToken i
  command_seen i (a.interpreter h hs) =
      let x = seeing.seen_expression conditions bound IsToken file_depth import_offsets i.command h in
      let y = expressions_seen i.arguments.items hs in
      ((λ j. tree.Interpreter (x.same j) (y.0 j)), (x.given, y.1))

  -- what a setting has beside its name, by the tree of its value
  record SeenContent (c : SettingContent) (v : SettingValue Tok Tok) : Type 0 where
    same : v ≡ content_by expr_of exprs_of literal_tok c
    given : HasDerivedContent c → IsFilledContent conditions.expander IsToken c

  content_seen : (c : SettingContent) {v : SettingValue Tok Tok} → AlikeValue seen (content_by leaf_tree_of trees_of (λ l. Literal (literal_of l)) c) v → SeenContent c v
  content_seen (TruthContent value) a.truth = record { same = refl; given = λ fields. tt }
  content_seen (ExpressionContent value) h = let x = value_seen value h in record { same = x.0; given = λ fields. x.1 }
  content_seen (InterpreterContent i) h = let x = command_seen i h in record { same = x.0; given = λ fields. x.1 }
  content_seen (PlainContent literal) h = let x = literal_seen literal h in record { same = x.0; given = λ fields. x.1 }
  content_seen (IndentationContent literal indentation) h = let x = literal_seen literal h in record { same = x.0; given = λ fields. (x.1, fields) }

  -- ---- items

  abbrev IsFilledPair : Pair → Type 0
  IsFilledPair = seeing.IsFilledPair conditions bound IsToken file_depth import_offsets

  -- the attributes of a set are given, with what the tree doesn't show of them
  pairs_given : (ps : List Pair) → All IsFilledPair ps → All HasDerivedAttributeFields (firsts ps) → All (λ (p : Pair). IsToken p.1.name.token × IsFilledAttribute conditions.expander IsToken p.0 × HasDerivedAttributeFields p.0) ps
  pairs_given [] given fields = All-nil (λ (p : Pair). IsToken p.1.name.token × IsFilledAttribute conditions.expander IsToken p.0 × HasDerivedAttributeFields p.0)
  pairs_given (p ∷ ps) given fields =
      let here = All-head IsFilledPair p ps given in
      All-cons (λ (p : Pair). IsToken p.1.name.token × IsFilledAttribute conditions.expander IsToken p.0 × HasDerivedAttributeFields p.0) p ps
      (here.0, here.1, All-head HasDerivedAttributeFields p.0 (firsts ps) fields)
      (pairs_given ps (All-tail IsFilledPair p ps given) (All-tail HasDerivedAttributeFields p.0 (firsts ps) fields))

  given_fields : (set : AttributeSet) → All IsFilledPair (written_of set) → HasDerivedSetAttributes set → AreFilledAttributes conditions.expander IsToken set
  unfolding HaveDerivedAttributeFields
  given_fields set given fields = pairs_given (written_of set) given fields

  abbrev assigned_in : AssignmentName → Leaf → AssignmentName
  assigned_in other (Assigned x) = x
  assigned_in other _ = other

  abbrev headed_in : RecipeName → Leaf → RecipeName
  headed_in other (Headed x) = x
  headed_in other _ = other

  -- an item, where the counters stand before it
  pub record SeenItem (n : Counters) (i : Item) (t : WrittenItem Tok Tok ℕ Tok) : Type 0 where
    pub same : ordered_item (views_tokens conditions.expander) t ≡ Some (undoc (item_of i))
    pub given : HasDerivedItemFields i → IsFilledItem conditions.expander IsToken file_depth import_offsets i
    pub numbers : (more : List ℕ) → NumbersFrom (count n (item_tree i)).bindings more → NumbersFrom n.bindings (item_numbers i ++ more)
    pub recipe_numbers : (more : List ℕ) → NumbersFrom (count n (item_tree i)).recipes more → NumbersFrom n.recipes (item_recipe_numbers i ++ more)

  -- a construct means what its attributes and its content do
  meant_construct : (set : AttributeSet) (content : Content Tok Tok ℕ Tok) {other : Content Tok Tok ℕ (Unit {0})} (ws : List (WrittenAttribute Tok Tok)) → entries_of (views_tokens conditions.expander) ws ≡ Some (sets.entries_of set) → starless content ≡ other
      → ordered_item (views_tokens conditions.expander) (tree.Construct ws content) ≡ Some (tree.Construct (sets.entries_of set) other)
  meant_construct set content ws e same = ap (with_entries content) e ∙ ap (λ (c : Content Tok Tok ℕ (Unit {0})). Some (tree.Construct (sets.entries_of set) c)) same

  pub item_seen : (n : Counters) (i : Item) {t : WrittenItem Tok Tok ℕ Tok} → AlikeItem seen n (undoc (item_tree i)) t → SeenItem n i t
  item_seen n (items.Alias b) (a.alias {d' = ws} {a' = t} {target' = ts} means h hs) =
      let m = means b.attributes refl in
      let x = name_seen b.name t h in
      let y = path_seen (names_in b.target) hs in
      record {
        same = meant_construct b.attributes (tree.Alias (record { name = t; target = ts })) ws m.0 (λ i. tree.Alias (record { name = x.0 i; target = y.0 i }));
        given = λ fields. record { among = x.1; target = y.1; attributes = given_fields b.attributes m.1 fields };
        numbers = λ more k. k;
        recipe_numbers = λ more k. k;
      }
  item_seen n (items.Assignment b) (a.assignment {d' = ws} {a' = t} {e' = e} means h v) =
      let same : assignment_name b ≡ assigned_in (assignment_name b) (assigned_leaf (in_run conditions bound IsToken file_depth import_offsets) h.token n.bindings) = ap (assigned_in (assignment_name b)) h.is in
      let token : h.token ≡ b.name.token = ap (λ (x : AssignmentName). x.name) (sym same) in
      let number : b.number.0 ≡ n.bindings = ap (λ (x : AssignmentName). x.number.0) same in
      let m = means b.attributes refl in
      let x = seeing.seen_expression conditions bound IsToken file_depth import_offsets b.value v in
      record {
        same = meant_construct b.attributes (tree.Assignment (assignment_of b.eager b.export t e)) ws m.0 (λ i. tree.Assignment (assignment_of b.eager b.export ((h.tok_is ∙ ap tok_of token) i) (x.same i)));
        given = λ fields. record {
          among = subst IsToken token h.among;
          file_depth_is = ap (λ (x : AssignmentName). x.file_depth) same;
          prelude = ap (λ (x : AssignmentName). x.prelude) same;
          private = fields.private;
          attributes = given_fields b.attributes m.1 fields.attributes;
          value = x.given;
        };
        numbers = λ more h. (number, h);
        recipe_numbers = λ more h. h;
      }
  item_seen n (items.Comment text) a.comment = record { same = refl; given = λ fields. tt; numbers = λ more h. h; recipe_numbers = λ more h. h }
  item_seen n (items.Function f) (a.function {d' = ws} {a' = t} {ps' = ts} {e' = e} means h hs v) =
      let m = means f.attributes refl in
      let x = name_seen f.name t h in
      let y = names_seen n f.parameters.items hs in
      let z = seeing.seen_expression conditions bound IsToken file_depth import_offsets f.body v in
      record {
        same = meant_construct f.attributes (tree.Function (record { name = t; parameters = ts; body = e })) ws m.0 (λ i. tree.Function (record { name = x.0 i; parameters = y.same i; body = z.same i }));
        given = λ fields. record { among = x.1; parameters = y.given; body = z.given; attributes = given_fields f.attributes m.1 fields };
        numbers = y.numbers;
        recipe_numbers = λ more k. subst (λ (c : ℕ). NumbersFrom c more) (parameters_recipes n (map numbered_leaf f.parameters.items)) k;
      }
  item_seen n (items.Import set optional relative) (a.import {d' = ws} {q' = q} means h) =
      let m = means set refl in
      let x = relative_seen relative q h in
      record {
        same = meant_construct set (tree.Import (record { optional = optional; path = q })) ws m.0 (λ i. tree.Import (record { optional = optional; path = x.0 i }));
        given = λ fields. record { relative_is = x.1; attributes_are = given_fields set m.1 fields };
        numbers = λ more k. k;
        recipe_numbers = λ more k. k;
      }
  item_seen n (items.Module set doc name optional relative) (a.module_of {d' = ws} {a' = t} {o' = o} means h k) =
      let m = means set refl in
      let x = name_seen name t h in
      let y = optional_relative_seen relative k in
      record {
        same = meant_construct set (tree.Module (bare_module optional t o)) ws m.0 (λ i. tree.Module (bare_module optional (x.0 i) (y.0 i)));
        given = λ fields. record { among = x.1; relative_is = y.1; attributes_are = given_fields set m.1 fields };
        numbers = λ more k. k;
        recipe_numbers = λ more k. k;
      }
  item_seen n items.Newline a.newline = record { same = refl; given = λ fields. tt; numbers = λ more h. h; recipe_numbers = λ more h. h }
  item_seen n (items.Recipe r) (a.recipe {d' = ws} {h' = h} {comment' = comment} {body' = body} means k commented ls) =
      let name = k.name in
      let same : recipe_name r ≡ headed_in (recipe_name r) (headed_leaf (in_run conditions bound IsToken file_depth import_offsets) name.token n.recipes) = ap (headed_in (recipe_name r)) name.is in
      let token : name.token ≡ r.name.token = ap (λ (x : RecipeName). x.name) (sym same) in
      let number : r.number.0 ≡ n.recipes = ap (λ (x : RecipeName). x.number.0) same in
      let m = means r.attributes refl in
      let x = seeing.all_seen conditions bound IsToken file_depth import_offsets line_tree body_line_of (IsFilledLine conditions.expander IsToken) (seeing.line_seen conditions bound IsToken file_depth import_offsets) r.body.items ls in
      let ps = parameters_seen n r.parameters.items k.parameters in
      let ds = dependencies_seen (priors_of r) k.priors in
      let es = dependencies_seen (subsequents_of r) k.subsequents in
      let header : starless_header h ≡ header_of r = λ i. record {
        quiet = sym k.quiet i;
        name = (name.tok_is ∙ ap tok_of token) i;
        parameters = ps.same i;
        priors = ds.0 i;
        subsequents = es.0 i;
      } in
      record {
        same = meant_construct r.attributes (tree.Recipe (bare_recipe h comment body)) ws m.0 (λ i. tree.Recipe (bare_recipe (header i) (sym commented i) (x.0 i)));
        given = λ fields. record {
          among = subst IsToken token name.among;
          parameters = ps.given;
          arg_attributes = fields.parameters;
          priors = fields.priors;
          dependencies = both_given r.priors r.dependencies.items ds.1 es.1;
          body = x.1;
          file_depth_is = ap (λ (x : RecipeName). x.file_depth) same;
          import_offsets_are = ap (λ (x : RecipeName). x.import_offsets) same;
          private = fields.private;
          shebang = shebang_given r fields.shebang;
          attributes = given_fields r.attributes m.1 fields.attributes;
        };
        numbers = ps.numbers;
        recipe_numbers = λ more q. (number, q);
      }
  item_seen n (items.Setting s) (a.setting {d' = ws} {a' = t} {v' = v} means h k) =
      let m = means s.attributes refl in
      let x = name_seen s.name t h in
      let y = content_seen (content_of s.value) k in
      record {
        same = meant_construct s.attributes (tree.Setting (record { keyword = keyword_of s.value; name = t; value = v })) ws m.0 (λ i. tree.Setting (record { keyword = keyword_of s.value; name = x.0 i; value = y.same i }));
        given = λ fields. record { among = x.1; value = y.given fields.value; attributes = given_fields s.attributes m.1 fields.attributes };
        numbers = λ more k. k;
        recipe_numbers = λ more k. k;
      }
  item_seen n (items.Unexport set name) (a.unexport {d' = ws} {a' = t} means h) =
      let m = means set refl in
      let x = name_seen name t h in
      record {
        same = meant_construct set (tree.Unexport t) ws m.0 (λ i. tree.Unexport (x.0 i));
        given = λ fields. record { among = x.1; attributes_are = given_fields set m.1 fields };
        numbers = λ more k. k;
        recipe_numbers = λ more k. k;
      }

  -- features at such tokens
  pub noted_seen : (fs : List (ListFeature × Token)) {ns : List (Noted Tok)} → Each (a.AlikeNoted seen) fs ns → (ns ≡ map noted_of fs) × All (λ (x : ListFeature × Token). IsToken x.1) fs
  noted_seen [] a.nil = (refl, All-nil (λ (x : ListFeature × Token). IsToken x.1))
  noted_seen (f ∷ fs) (a.cons h hs) =
      let y = noted_seen fs hs in
      ((λ i. (sym h.0 i, sym h.1.is i) ∷ y.0 i), All-cons (λ (x : ListFeature × Token). IsToken x.1) f fs h.1.among y.1)
