-- Trees and their projections, by two functions of their leaves: if each leaf is related to its projection, so is each tree; if no leaf is
-- related to anything else, no tree is.
use Rattle.std.proofs.Common.{◌≡◌, ℕ, true, false, List, [], ◌∷◌, ◌++◌, map, Option, Some, None, refl, ap}
use Rattle.std.specs.List.{AllByRecursion, flat_map}
use Rattle.std.specs.Option.{option_map}
use Rattle.justfile_model.specs.Grammars.Files.{argument_literals, content_literals, expr_literals, exprs_literals, parts_literals, setting_literals, written_literals}
use Rattle.justfile_model.specs.LiteralTexts.Literals as literals
use Rattle.justfile_model.specs.LiteralTexts.Literals.{Literal, over_literal, token_of}
use Rattle.justfile_model.specs.Trees.LeafView.{LeafView}
use Rattle.justfile_model.specs.Trees.Tree as tree
use Rattle.justfile_model.specs.Trees.Tree.{Argument, Attribute, Bound, Content, Dependency, DependencyArgument, Entry, Expr, Exprs, OptionName, Parameter, Parts, Property, Quoted, SettingValue, WrittenAttribute, over_argument, over_attribute, over_bound, over_content, over_dependency, over_dependency_argument, over_entry, over_expr, over_exprs, over_option, over_parameter, over_parts, over_property, over_quoted, over_setting_value, over_written_attribute}
use Rattle.justfile_model.proofs.Lists.AllParts.{parts}
use Rattle.justfile_model.proofs.Lists.EachLaws.{AlikeOption, absent, each_given, present, same_some}
use Rattle.justfile_model.proofs.Relations.AlikeAttributes as alike
use Rattle.justfile_model.proofs.Relations.AlikeAttributes.{AlikeArgument, AlikeAttribute, AlikeBound, AlikeEntry, AlikeLiteral, AlikeOptionName, AlikeProperty, AlikeQuoted, AlikeWritten, SeesAlike}
use Rattle.justfile_model.proofs.Relations.AlikeConstructRules as form
use Rattle.justfile_model.proofs.Relations.AlikeConstructRules.{AlikeForm, SameStars}
use Rattle.justfile_model.proofs.Relations.AlikeRecipes.{SameParameter}
use Rattle.justfile_model.proofs.Relations.Related as a
use Rattle.justfile_model.proofs.Relations.Related.{Alike, AlikeAll, AlikeParts, AlikeValue, Each, Relations}

-- ---- options and lists

module _ {X Y : Type 0} {Q : X → Y → Type 0} (k : X → Y) where
  pub option_alike : ((x : X) → Q x (k x)) → (o : Option X) → AlikeOption Q o (option_map k o)
  option_alike h None = absent
  option_alike h (Some x) = present (h x)

  pub list_alike : ((x : X) → Q x (k x)) → (xs : List X) → Each Q xs (map k xs)
  list_alike h [] = a.nil
  list_alike h (x ∷ xs) = a.cons (h x) (list_alike h xs)

module _ {X Y : Type 0} {Q : X → Y → Type 0} {k : X → Y} where
  option_same : ((x : X) (y : Y) → Q x y → k x ≡ y) → {o : Option X} {o' : Option Y} → AlikeOption Q o o' → option_map k o ≡ o'
  option_same f absent = refl
  option_same f (present {x = x} {y = y} h) = ap Some (f x y h)

  list_same : ((x : X) (y : Y) → Q x y → k x ≡ y) → {xs : List X} {ys : List Y} → Each Q xs ys → map k xs ≡ ys
  list_same f a.nil = refl
  list_same f (a.cons {x = x} {y = y} h hs) = λ i. f x y h i ∷ list_same f hs i

module _ {R T A B S D R' T' A' B' S' D' : Type 0} (rel : Relations R T A B S D R' T' A' B' S' D') (f : A → A') (g : B → B') where
  -- each leaf is related to its projection; a literal, if it has what is asked of it
  pub record Relates (Has : Literal A → Type 0) : Type 0 where
    pub position : (b : B) → rel.position b (g b)
    pub name : (n : A) → rel.name n (f n)
    pub literal : (l : Literal A) → Has l → rel.literal (over_literal (λ t. []) l) (token_of l) (f (token_of l))

  -- no leaf is related to anything else
  pub record RelatesOnly : Type 0 where
    pub position : (b : B) (b' : B') → rel.position b b' → g b ≡ b'
    pub name : (n : A) (n' : A') → rel.name n n' → f n ≡ n'
    pub literal : (l : Literal (List ℕ)) (t : A) (t' : A') → rel.literal l t t' → f t ≡ t'

  -- ---- a tree is related to its projection

  module _ {Has : Literal A → Type 0} (on : Relates Has) where
    abbrev All : List (Literal A) → Type 0
    All ls = AllByRecursion Has ls

    mutual
      pub expr_alike : (e : Expr A B) → All (expr_literals e) → Alike rel e (over_expr f g e)
      expr_alike (tree.Or l r) h = let p = parts Has (expr_literals l) (expr_literals r) h in a.or (expr_alike l p.0) (expr_alike r p.1)
      expr_alike (tree.And l r) h = let p = parts Has (expr_literals l) (expr_literals r) h in a.and (expr_alike l p.0) (expr_alike r p.1)
      expr_alike (tree.Comparison l by b r) h =
          let p = parts Has (expr_literals l) (expr_literals r) h in a.comparison (expr_alike l p.0) (on.position b) (expr_alike r p.1)
      expr_alike (tree.Concatenation l b r) h =
          let p = parts Has (expr_literals l) (expr_literals r) h in a.concatenation (expr_alike l p.0) (on.position b) (expr_alike r p.1)
      expr_alike (tree.ListConcatenation l b r) h =
          let p = parts Has (expr_literals l) (expr_literals r) h in a.list_concatenation (expr_alike l p.0) (on.position b) (expr_alike r p.1)
      expr_alike (tree.Join l b r) h =
          let p = parts Has (expr_literals l) (expr_literals r) h in a.join (expr_alike l p.0) (on.position b) (expr_alike r p.1)
      expr_alike (tree.Root b r) h = a.root (on.position b) (expr_alike r h)
      expr_alike (tree.If c e) h = let p = parts Has (expr_literals c) (expr_literals e) h in a.if_only (expr_alike c p.0) (expr_alike e p.1)
      expr_alike (tree.IfElse c e o) h =
          let p = parts Has (expr_literals c ++ expr_literals e) (expr_literals o) h in
          let q = parts Has (expr_literals c) (expr_literals e) p.0 in
          a.if_else (expr_alike c q.0) (expr_alike e q.1) (expr_alike o p.1)
      expr_alike (tree.Not e) h = a.not (expr_alike e h)
      expr_alike (tree.StringLiteral true t) h = a.string [] (on.literal (literals.Expanded t) h.0)
      expr_alike (tree.StringLiteral false t) h = a.string [] (on.literal (literals.Plain t) h.0)
      expr_alike (tree.FormatLiteral t) h = a.format_literal [] (on.literal (literals.Single t) h.0)
      expr_alike (tree.FormatString t e ps) h =
          let p = parts Has (expr_literals e) (parts_literals t ps) h.1 in
          a.format_string [] (on.literal (literals.Start t) h.0) (expr_alike e p.0) (parts_alike t ps p.1)
      expr_alike (tree.Backtick t) h = a.backtick [] (on.literal (literals.Command t) h.0)
      expr_alike (tree.Assert b c) h = a.assert (on.position b) (expr_alike c h)
      expr_alike (tree.AssertMessage b c m) h =
          let p = parts Has (expr_literals c) (expr_literals m) h in a.assert_message (on.position b) (expr_alike c p.0) (expr_alike m p.1)
      expr_alike (tree.Variable n) h = a.variable (on.name n)
      expr_alike (tree.Call n es) h = a.call (on.name n) (exprs_alike es h)
      expr_alike (tree.Group e) h = a.group (expr_alike e h)
      expr_alike (tree.ListOf b es) h = a.list (on.position b) (exprs_alike es h)

      exprs_alike : (es : Exprs A B) → All (exprs_literals es) → AlikeAll rel es (over_exprs f g es)
      exprs_alike tree.none h = a.none
      exprs_alike (tree.more e es) h =
          let p = parts Has (expr_literals e) (exprs_literals es) h in a.more (expr_alike e p.0) (exprs_alike es p.1)

      parts_alike : (start : A) (ps : Parts A B) → All (parts_literals start ps) → AlikeParts rel [] ps (over_parts f g ps)
      parts_alike start (tree.Last t) h = a.last [] (on.literal (literals.End start t) h.0)
      parts_alike start (tree.Continue t e ps) h =
          let p = parts Has (expr_literals e) (parts_literals start ps) h.1 in
          a.continue [] (on.literal (literals.Continue start t) h.0) (expr_alike e p.0) (parts_alike start ps p.1)

    -- lists, by the literals of their elements
    each_alike : {X Y : Type 0} {Q : X → Y → Type 0} (k : X → Y) (of : X → List (Literal A)) → ((x : X) → All (of x) → Q x (k x)) → (xs : List X)
        → All (flat_map of xs) → Each Q xs (map k xs)
    each_alike k of one [] h = a.nil
    each_alike k of one (x ∷ xs) h = let p = parts Has (of x) (flat_map of xs) h in a.cons (one x p.0) (each_alike k of one xs p.1)

    argument_alike : (x : Argument A B) → All (argument_literals x) → AlikeArgument rel x (over_argument f g x)
    argument_alike (tree.Positional b e) h = alike.positional (on.position b) (expr_alike e h)
    argument_alike (tree.Bare k) h = alike.bare (on.name k)
    argument_alike (tree.Keyed k e) h = alike.keyed (on.name k) (expr_alike e h)

    pub written_alike : (ws : List (WrittenAttribute A B)) → All (written_literals ws)
        → Each (AlikeWritten rel) ws (map (over_written_attribute f g) ws)
    written_alike = each_alike _ (λ w. flat_map argument_literals w.arguments)
        (λ w h. record { name = on.name w.name; arguments = each_alike _ argument_literals argument_alike w.arguments h; comment = refl })

    value_alike : (v : SettingValue A B) → All (setting_literals v) → AlikeValue rel v (over_setting_value f g v)
    value_alike (tree.Truth value) h = a.truth
    value_alike (tree.Value e) h = a.value (expr_alike e h)
    value_alike (tree.Interpreter e es) h =
        let p = parts Has (expr_literals e) (exprs_literals es) h in a.interpreter (expr_alike e p.0) (exprs_alike es p.1)

    -- constructs, as far as rules look at them
    module _ {view : LeafView A B} {view' : LeafView A' B'} (sees : SeesAlike rel view view') where
      place : (n : A) → rel.position (view.place n) (view'.place (f n))
      place n = sees.name_place n (f n) (on.name n)

      parameter_alike : (p : Parameter A B) → SameParameter rel view view' p (over_parameter f g p)
      parameter_alike p = record {
        kind = refl;
        bytes = sees.bytes p.name (f p.name) (on.name p.name);
        place = place p.name;
        default = same_some {Rel = λ e e'. Unit {0}} (option_alike (over_expr f g) (λ e. tt) p.default);
      }

      star_alike : (d : DependencyArgument A B B) → AlikeOption rel.position d.star (option_map g d.star)
      star_alike d = option_alike g on.position d.star

      dependency_alike : (d : Dependency A B B) → SameStars rel view view' d (over_dependency f g g d)
      dependency_alike d = (
        option_alike g on.position d.star,
        each_given _ _ (λ x y k. k) (list_alike {Q = λ x y. AlikeOption rel.position x.star y.star} (over_dependency_argument f g g) star_alike d.arguments),
      )

      pub content_alike : {Z Z' : Type 0} (h : Z → Z') (c : Content A B Z B) → All (content_literals c)
          → AlikeForm rel view view' c (over_content f g h g c)
      content_alike h (tree.Alias p) l = form.alias (place p.name)
      content_alike h (tree.Assignment p) l = form.assignment (place p.name)
      content_alike h (tree.Function p) l = form.function (place p.name)
      content_alike h (tree.Import p) l = form.import (place p.path.token)
      content_alike h (tree.Module p) l = form.module_of (place p.name)
      content_alike h (tree.Recipe p) l =
          form.recipe (place p.header.name) (list_alike _ parameter_alike p.header.parameters) (list_alike _ dependency_alike p.header.priors)
          (list_alike _ dependency_alike p.header.subsequents)
      content_alike h (tree.Setting p) l = form.setting (place p.name) (value_alike p.value l)
      content_alike h (tree.Unexport n) l = form.unexport (place n)

  -- ---- what is related to a tree is its projection

  module _ (only : RelatesOnly) where
    mutual
      expr_same : {e : Expr A B} {e' : Expr A' B'} → Alike rel e e' → over_expr f g e ≡ e'
      expr_same (a.or l r) = λ i. tree.Or (expr_same l i) (expr_same r i)
      expr_same (a.and l r) = λ i. tree.And (expr_same l i) (expr_same r i)
      expr_same (a.comparison {by = by} l b r) = λ i. tree.Comparison (expr_same l i) by (only.position _ _ b i) (expr_same r i)
      expr_same (a.concatenation l b r) = λ i. tree.Concatenation (expr_same l i) (only.position _ _ b i) (expr_same r i)
      expr_same (a.list_concatenation l b r) = λ i. tree.ListConcatenation (expr_same l i) (only.position _ _ b i) (expr_same r i)
      expr_same (a.join l b r) = λ i. tree.Join (expr_same l i) (only.position _ _ b i) (expr_same r i)
      expr_same (a.root b r) = λ i. tree.Root (only.position _ _ b i) (expr_same r i)
      expr_same (a.if_only c e) = λ i. tree.If (expr_same c i) (expr_same e i)
      expr_same (a.if_else c e o) = λ i. tree.IfElse (expr_same c i) (expr_same e i) (expr_same o i)
      expr_same (a.not e) = λ i. tree.Not (expr_same e i)
      expr_same (a.string {expanded = expanded} lexeme h) = λ i. tree.StringLiteral expanded (only.literal _ _ _ h i)
      expr_same (a.format_literal lexeme h) = λ i. tree.FormatLiteral (only.literal _ _ _ h i)
      expr_same (a.format_string lexeme h e ps) = λ i. tree.FormatString (only.literal _ _ _ h i) (expr_same e i) (parts_same ps i)
      expr_same (a.backtick lexeme h) = λ i. tree.Backtick (only.literal _ _ _ h i)
      expr_same (a.assert b c) = λ i. tree.Assert (only.position _ _ b i) (expr_same c i)
      expr_same (a.assert_message b c m) = λ i. tree.AssertMessage (only.position _ _ b i) (expr_same c i) (expr_same m i)
      expr_same (a.variable h) = λ i. tree.Variable (only.name _ _ h i)
      expr_same (a.call h es) = λ i. tree.Call (only.name _ _ h i) (exprs_same es i)
      expr_same (a.group e) = λ i. tree.Group (expr_same e i)
      expr_same (a.list b es) = λ i. tree.ListOf (only.position _ _ b i) (exprs_same es i)

      exprs_same : {es : Exprs A B} {es' : Exprs A' B'} → AlikeAll rel es es' → over_exprs f g es ≡ es'
      exprs_same a.none = refl
      exprs_same (a.more e es) = λ i. tree.more (expr_same e i) (exprs_same es i)

      parts_same : {start : List ℕ} {ps : Parts A B} {ps' : Parts A' B'} → AlikeParts rel start ps ps' → over_parts f g ps ≡ ps'
      parts_same (a.last lexeme h) = λ i. tree.Last (only.literal _ _ _ h i)
      parts_same (a.continue lexeme h e ps) = λ i. tree.Continue (only.literal _ _ _ h i) (expr_same e i) (parts_same ps i)

    value_same : (e : Expr A B) (e' : Expr A' B') → Alike rel e e' → over_expr f g e ≡ e'
    value_same e e' h = expr_same h

    quoted_same : (q : Quoted A) (q' : Quoted A') → AlikeQuoted rel q q' → over_quoted f g q ≡ q'
    quoted_same q q' h = λ i. record { expanded = h.expanded i; token = only.literal _ _ _ h.token i }

    name_same : {o : OptionName A B} {o' : OptionName A' B'} → AlikeOptionName rel o o' → over_option f g o ≡ o'
    name_same alike.no_option = refl
    name_same (alike.own_name h) = ap tree.OwnName (only.position _ _ h)
    name_same (alike.option_named {q = q} {q' = q'} h) = ap tree.Named (quoted_same q q' h)

    property_same : (p : Property A B) (p' : Property A' B') → AlikeProperty rel p p' → over_property f g p ≡ p'
    property_same p p' h = λ i. record { key = only.position _ _ h.key i; value = expr_same h.value i }

    bound_same : (b : Bound B) (b' : Bound B') → AlikeBound rel b b' → over_bound f g b ≡ b'
    bound_same b b' h = λ i. record { key = only.position _ _ h.key i; number = h.number i }

    attribute_same : {x : Attribute A B} {x' : Attribute A' B'} → AlikeAttribute rel x x' → over_attribute f g x ≡ x'
    attribute_same (alike.plain kind) = refl
    attribute_same (alike.single kind e) = ap (tree.Single kind) (expr_same e)
    attribute_same (alike.texts kind qs) = ap (tree.Texts kind) (list_same quoted_same qs)
    attribute_same (alike.env k v) = λ i. tree.Env (expr_same k i) (expr_same v i)
    attribute_same (alike.signals given) = refl
    attribute_same (alike.cache x i o) =
        λ j. tree.Cache (option_same value_same x j) (option_same value_same i j) (option_same value_same o j)
    attribute_same (alike.arg {r = r} {r' = r'} h) = λ i. tree.Arg (record {
      flag = option_same only.position h.flag i;
      help = option_same property_same h.help i;
      long = name_same h.long i;
      max = option_same bound_same h.max i;
      min = option_same bound_same h.min i;
      multiple = option_same only.position h.multiple i;
      name = quoted_same r.name r'.name h.name i;
      pattern = option_same property_same h.pattern i;
      short = name_same h.short i;
      value = option_same value_same h.value i;
    })

    pub literal_same : {l : Literal A} {l' : Literal A'} → AlikeLiteral rel l l' → over_literal f l ≡ l'
    literal_same (alike.plain_literal h) = ap literals.Plain (only.literal _ _ _ h)
    literal_same (alike.expanded_literal h) = ap literals.Expanded (only.literal _ _ _ h)
    literal_same (alike.command_literal h) = ap literals.Command (only.literal _ _ _ h)
    literal_same (alike.single_literal h) = ap literals.Single (only.literal _ _ _ h)
    literal_same (alike.start_literal h) = ap literals.Start (only.literal _ _ _ h)
    literal_same (alike.continue_literal h k) = λ i. literals.Continue (only.literal _ _ _ h i) (only.literal _ _ _ k i)
    literal_same (alike.end_literal h k) = λ i. literals.End (only.literal _ _ _ h i) (only.literal _ _ _ k i)

    entry_same : (e : Entry A B) (e' : Entry A' B') → AlikeEntry rel e e' → over_entry f g e ≡ e'
    entry_same e e' h = λ i. record { name = only.position _ _ h.name i; attribute = attribute_same h.attribute i; comment = h.comment i }

    pub entries_same : {o : Option (List (Entry A B))} {o' : Option (List (Entry A' B'))} → AlikeOption (Each (AlikeEntry rel)) o o'
        → option_map (map (over_entry f g)) o ≡ o'
    entries_same h = option_same (λ es es' k. list_same entry_same k) h
