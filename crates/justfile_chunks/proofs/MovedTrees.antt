-- Trees whose leaves are replaced twice: trees that are moved twice, and shapes of moved trees.
use Rattle.std.proofs.Common.{◌≡◌, ◌∙◌, ℕ, ◌+◌, List, [], ◌∷◌, ◌++◌, map, drop, Option, Some, None, refl, ap, arith}
use Rattle.std.specs.List.{flat_map}
use Rattle.std.specs.Option.{option_map}
use Rattle.std.proofs.lemmas.List.{map-append}
use Rattle.justfile_model.specs.Grammars.Features.{Noted, over_noted}
use Rattle.justfile_model.specs.Lexing.Tok.{Tok, tok}
use Rattle.justfile_model.specs.Trees.Tree as tree
use Rattle.justfile_model.specs.Trees.Tree.{ArgumentRules, Attribute, BodyLine, Bound, Content, Dependency, DependencyArgument, Entry, Expr, Exprs, Fragment, Header, Line, OptionName, OrderedItem, Parameter, Parts, Property, SettingValue, Tree, item_shape_of, lexeme, nothing, over_attribute, over_content, over_dependency, over_dependency_argument, over_entry, over_expr, over_exprs, over_fragment, over_header, over_item, over_line, over_option, over_parameter, over_parts, over_property, over_quoted, over_rules, over_setting_value, shape_of}
use Rattle.justfile_chunks.specs.Chunks.{moved, moved_item}
use Rattle.justfile_chunks.specs.Parts.{JoinedShapeLaw, ParsedChunk, items_in_text}

module _ {X Y Z : Type 0} (f : Y → Z) (g : X → Y) (h : X → Z) (same : (x : X) → f (g x) ≡ h x) where
  map_twice : (xs : List X) → map f (map g xs) ≡ map h xs
  map_twice [] = refl
  map_twice (x ∷ xs) = λ i. same x i ∷ map_twice xs i

  option_twice : (o : Option X) → option_map f (option_map g o) ≡ option_map h o
  option_twice None = refl
  option_twice (Some x) = ap Some (same x)

module _ {A B A' B' A'' B'' : Type 0} (f : A → A') (g : B → B') (f' : A' → A'') (g' : B' → B'') where
  abbrev ff : A → A''
  ff a = f' (f a)

  abbrev gg : B → B''
  gg b = g' (g b)

  mutual
    expr_twice : (e : Expr A B) → over_expr f' g' (over_expr f g e) ≡ over_expr ff gg e
    expr_twice (tree.Or l r) = λ i. tree.Or (expr_twice l i) (expr_twice r i)
    expr_twice (tree.And l r) = λ i. tree.And (expr_twice l i) (expr_twice r i)
    expr_twice (tree.Comparison l operator token r) = λ i. tree.Comparison (expr_twice l i) operator (gg token) (expr_twice r i)
    expr_twice (tree.Concatenation l operator r) = λ i. tree.Concatenation (expr_twice l i) (gg operator) (expr_twice r i)
    expr_twice (tree.ListConcatenation l operator r) = λ i. tree.ListConcatenation (expr_twice l i) (gg operator) (expr_twice r i)
    expr_twice (tree.Join l operator r) = λ i. tree.Join (expr_twice l i) (gg operator) (expr_twice r i)
    expr_twice (tree.Root operator r) = λ i. tree.Root (gg operator) (expr_twice r i)
    expr_twice (tree.If c b) = λ i. tree.If (expr_twice c i) (expr_twice b i)
    expr_twice (tree.IfElse c b o) = λ i. tree.IfElse (expr_twice c i) (expr_twice b i) (expr_twice o i)
    expr_twice (tree.Not e) = λ i. tree.Not (expr_twice e i)
    expr_twice (tree.FormatString start e parts) = λ i. tree.FormatString (ff start) (expr_twice e i) (parts_twice parts i)
    expr_twice (tree.Assert name c) = λ i. tree.Assert (gg name) (expr_twice c i)
    expr_twice (tree.AssertMessage name c m) = λ i. tree.AssertMessage (gg name) (expr_twice c i) (expr_twice m i)
    expr_twice (tree.Call name arguments) = λ i. tree.Call (ff name) (exprs_twice arguments i)
    expr_twice (tree.Group e) = λ i. tree.Group (expr_twice e i)
    expr_twice (tree.ListOf opener elements) = λ i. tree.ListOf (gg opener) (exprs_twice elements i)
    expr_twice _ = refl

    exprs_twice : (es : Exprs A B) → over_exprs f' g' (over_exprs f g es) ≡ over_exprs ff gg es
    exprs_twice tree.none = refl
    exprs_twice (tree.more e es) = λ i. tree.more (expr_twice e i) (exprs_twice es i)

    parts_twice : (ps : Parts A B) → over_parts f' g' (over_parts f g ps) ≡ over_parts ff gg ps
    parts_twice (tree.Last token) = refl
    parts_twice (tree.Continue token e ps) = λ i. tree.Continue (ff token) (expr_twice e i) (parts_twice ps i)

  fragment_twice : (x : Fragment A B) → over_fragment f' g' (over_fragment f g x) ≡ over_fragment ff gg x
  fragment_twice (tree.Text token) = refl
  fragment_twice (tree.Interpolation value) = ap tree.Interpolation (expr_twice value)

  option_name_twice : (o : OptionName A B) → over_option f' g' (over_option f g o) ≡ over_option ff gg o
  option_name_twice tree.NoOption = refl
  option_name_twice _ = refl

  property_twice : (p : Property A B) → over_property f' g' (over_property f g p) ≡ over_property ff gg p
  property_twice p = λ i. record { key = gg p.key; value = expr_twice p.value i }

  rules_twice : (a : ArgumentRules A B) → over_rules f' g' (over_rules f g a) ≡ over_rules ff gg a
  rules_twice a = λ i. record {
    flag = option_twice g' g gg (λ b. refl) a.flag i;
    help = option_twice (over_property f' g') (over_property f g) (over_property ff gg) property_twice a.help i;
    long = option_name_twice a.long i;
    max = option_twice (tree.over_bound f' g') (tree.over_bound f g) (tree.over_bound ff gg) (λ b. refl) a.max i;
    min = option_twice (tree.over_bound f' g') (tree.over_bound f g) (tree.over_bound ff gg) (λ b. refl) a.min i;
    multiple = option_twice g' g gg (λ b. refl) a.multiple i;
    name = over_quoted ff gg a.name;
    pattern = option_twice (over_property f' g') (over_property f g) (over_property ff gg) property_twice a.pattern i;
    short = option_name_twice a.short i;
    value = option_twice (over_expr f' g') (over_expr f g) (over_expr ff gg) expr_twice a.value i;
  }

  attribute_twice : (a : Attribute A B) → over_attribute f' g' (over_attribute f g a) ≡ over_attribute ff gg a
  attribute_twice (tree.Single kind value) = ap (tree.Single kind) (expr_twice value)
  attribute_twice (tree.Texts kind texts) =
      ap (tree.Texts kind) (map_twice (over_quoted f' g') (over_quoted f g) (over_quoted ff gg) (λ q. refl) texts)
  attribute_twice (tree.Env key value) = λ i. tree.Env (expr_twice key i) (expr_twice value i)
  attribute_twice (tree.Cache extra inputs outputs) = λ i.
      tree.Cache (option_twice (over_expr f' g') (over_expr f g) (over_expr ff gg) expr_twice extra i)
      (option_twice (over_expr f' g') (over_expr f g) (over_expr ff gg) expr_twice inputs i)
      (option_twice (over_expr f' g') (over_expr f g) (over_expr ff gg) expr_twice outputs i)
  attribute_twice (tree.Arg rules) = ap tree.Arg (rules_twice rules)
  attribute_twice _ = refl

  entry_twice : (e : Entry A B) → over_entry f' g' (over_entry f g e) ≡ over_entry ff gg e
  entry_twice e = λ i. record { name = gg e.name; attribute = attribute_twice e.attribute i; comment = e.comment }

  parameter_twice : (p : Parameter A B) → over_parameter f' g' (over_parameter f g p) ≡ over_parameter ff gg p
  parameter_twice p = λ i. record {
    kind = p.kind;
    export = p.export;
    name = ff p.name;
    default = option_twice (over_expr f' g') (over_expr f g) (over_expr ff gg) expr_twice p.default i;
  }

  setting_twice : (value : SettingValue A B) → over_setting_value f' g' (over_setting_value f g value) ≡ over_setting_value ff gg value
  setting_twice (tree.Truth value) = refl
  setting_twice (tree.Value value) = ap tree.Value (expr_twice value)
  setting_twice (tree.Interpreter command arguments) = λ i. tree.Interpreter (expr_twice command i) (exprs_twice arguments i)

  module _ {C C' C'' : Type 0} (h : C → C') (h' : C' → C'') where
    line_twice : (l : BodyLine A B C) → over_line f' g' h' (over_line f g h l) ≡ over_line ff gg (λ c. h' (h c)) l
    line_twice (Line number fragments) =
        ap (Line (h' (h number))) (map_twice (over_fragment f' g') (over_fragment f g) (over_fragment ff gg) fragment_twice fragments)

  module _ {S S' S'' : Type 0} (k : S → S') (k' : S' → S'') where
    abbrev kk : S → S''
    kk s = k' (k s)

    dependency_argument_twice : (a : DependencyArgument A B S)
        → over_dependency_argument f' g' k' (over_dependency_argument f g k a) ≡ over_dependency_argument ff gg kk a
    dependency_argument_twice a = λ i. record { star = option_twice k' k kk (λ s. refl) a.star i; value = expr_twice a.value i }

    dependency_twice : (d : Dependency A B S) → over_dependency f' g' k' (over_dependency f g k d) ≡ over_dependency ff gg kk d
    dependency_twice d = λ i. record {
      star = option_twice k' k kk (λ s. refl) d.star i;
      path = map_twice f' f ff (λ a. refl) d.path i;
      arguments = map_twice (over_dependency_argument f' g' k') (over_dependency_argument f g k) (over_dependency_argument ff gg kk)
          dependency_argument_twice d.arguments i;
    }

    header_twice : (h : Header A B S) → over_header f' g' k' (over_header f g k h) ≡ over_header ff gg kk h
    header_twice h = λ i. record {
      quiet = h.quiet;
      name = ff h.name;
      parameters = map_twice (over_parameter f' g') (over_parameter f g) (over_parameter ff gg) parameter_twice h.parameters i;
      priors = map_twice (over_dependency f' g' k') (over_dependency f g k) (over_dependency ff gg kk) dependency_twice h.priors i;
      subsequents = map_twice (over_dependency f' g' k') (over_dependency f g k) (over_dependency ff gg kk) dependency_twice h.subsequents i;
    }

    module _ {C C' C'' : Type 0} (h : C → C') (h' : C' → C'') where
      abbrev hh : C → C''
      hh c = h' (h c)

      content_twice : (c : Content A B C S) → over_content f' g' h' k' (over_content f g h k c) ≡ over_content ff gg hh kk c
      content_twice (tree.Alias parts) = λ i. tree.Alias (record { name = ff parts.name; target = map_twice f' f ff (λ a. refl) parts.target i })
      content_twice (tree.Assignment parts) = λ i.
          tree.Assignment (record { eager = parts.eager; export = parts.export; name = ff parts.name; value = expr_twice parts.value i })
      content_twice (tree.Function parts) = λ i.
          tree.Function (record { name = ff parts.name; parameters = map_twice f' f ff (λ a. refl) parts.parameters i; body = expr_twice parts.body i })
      content_twice (tree.Module parts) = λ i. tree.Module (record {
        doc = parts.doc;
        optional = parts.optional;
        name = ff parts.name;
        path = option_twice (over_quoted f' g') (over_quoted f g) (over_quoted ff gg) (λ q. refl) parts.path i;
      })
      content_twice (tree.Setting parts) = λ i.
          tree.Setting (record { keyword = parts.keyword; name = ff parts.name; value = setting_twice parts.value i })
      content_twice (tree.Recipe parts) = λ i. tree.Recipe (record {
        doc = parts.doc;
        header = header_twice parts.header i;
        comment = parts.comment;
        body = map_twice (over_line f' g' h') (over_line f g h) (over_line ff gg hh) (line_twice h h') parts.body i;
      })
      content_twice _ = refl

      item_twice : (x : tree.Item A B C S (List (Entry A B)))
          → over_item f' g' h' k' (map (over_entry f' g')) (over_item f g h k (map (over_entry f g)) x) ≡ over_item ff gg hh kk (map (over_entry ff gg)) x
      item_twice (tree.Construct attributes content) = λ i.
          tree.Construct (map_twice (over_entry f' g') (over_entry f g) (over_entry ff gg) entry_twice attributes i) (content_twice content i)
      item_twice _ = refl

-- ---- moved trees

sum : (a b n : ℕ) → a + (b + n) ≡ (a + b) + n
sum a b n = omega arith

module _ (offset line : ℕ) where
  -- the shape of a tree is that of the moved tree
  moved_shape : (xs : Tree) → shape_of (map (moved_item offset line) xs) ≡ shape_of xs
  moved_shape =
      map_twice item_shape_of (moved_item offset line) item_shape_of
      (item_twice (moved offset line) (moved offset line) lexeme nothing (λ star. star) (λ star. star) (λ n. line + n) nothing)

  module _ (more lines : ℕ) where
    token_twice : (t : Tok) → moved offset line (moved more lines t) ≡ moved (offset + more) (line + lines) t
    token_twice t = λ i. tok t.kind t.lexeme (sum offset more t.offset i) (sum line lines t.line i) t.column

    pub items_twice : (xs : Tree) → map (moved_item offset line) (map (moved_item more lines) xs) ≡ map (moved_item (offset + more) (line + lines)) xs
    items_twice =
        map_twice (moved_item offset line) (moved_item more lines) (moved_item (offset + more) (line + lines)) (λ x.
        item_twice (moved more lines) (moved more lines) (moved offset line) (moved offset line) (λ star. star) (λ star. star) (λ n. lines + n)
        (λ n. line + n) x
        ∙ λ i. over_item (λ t. token_twice t i) (λ t. token_twice t i) (λ n. sum line lines n i) (λ star. star)
        (map (over_entry (λ t. token_twice t i) (λ t. token_twice t i))) x)

    pub noted_twice : (fs : List (Noted Tok))
        → map (over_noted (moved offset line)) (map (over_noted (moved more lines)) fs) ≡ map (over_noted (moved (offset + more) (line + lines))) fs
    noted_twice = map_twice (over_noted (moved offset line)) (over_noted (moved more lines)) (over_noted (moved (offset + more) (line + lines)))
        (λ n i. (n.0, token_twice n.1 i))

-- ---- trees of parts, joined

pub drop_mapped : {X Y : Type 0} (f : X → Y) (xs : List X) → map f (drop 1 xs) ≡ drop 1 (map f xs)
drop_mapped f [] = refl
drop_mapped f (x ∷ xs) = refl

later_shapes : (parts : List ParsedChunk)
    → shape_of (flat_map (drop 1) (map items_in_text parts)) ≡ flat_map (drop 1) (map (λ (p : ParsedChunk). shape_of p.tree) parts)
later_shapes [] = refl
later_shapes (p ∷ parts) =
    let one = drop_mapped item_shape_of (items_in_text p) ∙ ap (drop 1) (moved_shape p.chunk.offset p.chunk.line p.tree) in
    map-append item_shape_of (drop 1 (items_in_text p)) (flat_map (drop 1) (map items_in_text parts)) ∙ λ i. one i ++ later_shapes parts i

pub joined_shapes : JoinedShapeLaw
joined_shapes [] = refl
joined_shapes (p ∷ parts) =
    map-append item_shape_of (items_in_text p) (flat_map (drop 1) (map items_in_text parts))
    ∙ λ i. moved_shape p.chunk.offset p.chunk.line p.tree i ++ later_shapes parts i
