-- What is made of a tree by two functions of its leaves is related to the tree: each leaf to what is made of it, if all leaves are seen alike.
use Rattle.std.proofs.Common.{◌≡◌, ◌∙◌, List, [], map, Option, refl, sym, ap}
use Rattle.std.specs.List.{AllByRecursion}
use Rattle.std.specs.Option.{option_map}
use Rattle.justfile_model.specs.Grammars.Files.{content_literals, expr_literals, written_literals}
use Rattle.justfile_model.specs.LiteralTexts.Literals.{Literal, over_literal}
use Rattle.justfile_model.specs.Meanings.Meaning.{all_of, entry_of}
use Rattle.justfile_model.specs.Meanings.Rules.{Broken, over_broken}
use Rattle.justfile_model.specs.Trees.ContentLeaf.{literal_value}
use Rattle.justfile_model.specs.Trees.LeafView.{LeafView}
use Rattle.justfile_model.specs.Trees.Tree as tree
use Rattle.justfile_model.specs.Trees.Tree.{Attribute, Bound, Content, Entry, Expr, OptionName, Property, Quoted, WrittenAttribute, over_attribute, over_bound, over_content, over_entry, over_expr, over_option, over_property, over_quoted, over_written_attribute}
use Rattle.justfile_model.proofs.Lists.AllParts.{all_have}
use Rattle.justfile_model.proofs.Lists.EachLaws.{AlikeOption}
use Rattle.justfile_model.proofs.Relations.AlikeAttributes as alike
use Rattle.justfile_model.proofs.Relations.AlikeAttributes.{AlikeAttribute, AlikeBound, AlikeEntry, AlikeLiteral, AlikeOptionName, AlikeProperty, AlikeQuoted, AlikeWritten, SeesAlike}
use Rattle.justfile_model.proofs.Relations.AlikeMeanings.{all_alike, entry_alike}
use Rattle.justfile_model.proofs.Relations.AlikeConstructRules.{AlikeForm}
use Rattle.justfile_model.proofs.Relations.AlikeRules.{AlikeBroken}
use Rattle.justfile_model.proofs.Relations.OverRules.{all_broken}
use Rattle.justfile_model.proofs.Relations.Projected.{Relates, RelatesOnly, content_alike, entries_same, expr_alike, list_alike, literal_same, option_alike, written_alike}
use Rattle.justfile_model.proofs.Relations.Related.{Alike, Each, Relations}

module _ {A B C D : Type 0} (f : A → C) (g : B → D) where
  unfoldable pub graph : Relations (Unit {0}) (Unit {0}) A B (Unit {0}) (Unit {0}) (Unit {0}) (Unit {0}) C D (Unit {0}) (Unit {0})
  graph = record {
    run = λ r r'. Unit {0};
    looser = ⊥;
    token = λ t t'. Unit {0};
    position = λ b b'. g b ≡ b';
    name = λ n n'. f n ≡ n';
    literal = λ l t t'. f t ≡ t';
    text = λ t t'. Unit {0};
    star = λ s s'. Unit {0};
    parameter = λ number n rules n' rules'. f n ≡ n';
    attributes = λ d d'. Unit {0};
    assignment = λ number n n'. f n ≡ n';
    function_parameter = λ number n n'. f n ≡ n';
    recipe = λ number n body n' body'. Unit {0};
  }

  relates : Relates graph f g (λ l. Unit {0})
  unfolding graph
  relates = record { position = λ b. refl; name = λ n. refl; literal = λ l h. refl }

  pub relates_only : RelatesOnly graph f g
  unfolding graph
  relates_only = record { position = λ b b' h. h; name = λ n n' h. h; literal = λ l t t' h. h }

  -- nothing is asked of literals
  nothing_asked : (ls : List (Literal A)) → AllByRecursion (λ l. Unit {0}) ls
  nothing_asked = all_have (λ l. Unit {0}) (λ l. tt)

  expr_graph : (e : Expr A B) → Alike graph e (over_expr f g e)
  expr_graph e = expr_alike graph f g relates e (nothing_asked (expr_literals e))

  pub written_graph : (ws : List (WrittenAttribute A B)) → Each (AlikeWritten graph) ws (map (over_written_attribute f g) ws)
  written_graph ws = written_alike graph f g relates ws (nothing_asked (written_literals ws))

  -- ---- what attributes mean

  quoted_graph : (q : Quoted A) → AlikeQuoted graph q (over_quoted f g q)
  unfolding graph
  quoted_graph q = record { expanded = refl; lexeme = []; token = refl }

  name_graph : (n : OptionName A B) → AlikeOptionName graph n (over_option f g n)
  unfolding graph
  name_graph tree.NoOption = alike.no_option
  name_graph (tree.OwnName k) = alike.own_name refl
  name_graph (tree.Named q) = alike.option_named (quoted_graph q)

  property_graph : (p : Property A B) → AlikeProperty graph p (over_property f g p)
  property_graph p = record { key = relates.position p.key; value = expr_graph p.value }

  bound_graph : (b : Bound B) → AlikeBound graph b (over_bound f g b)
  bound_graph b = record { key = relates.position b.key; number = refl }

  attribute_graph : (x : Attribute A B) → AlikeAttribute graph x (over_attribute f g x)
  attribute_graph (tree.Plain kind) = alike.plain kind
  attribute_graph (tree.Single kind e) = alike.single kind (expr_graph e)
  attribute_graph (tree.Texts kind qs) = alike.texts kind (list_alike _ quoted_graph qs)
  attribute_graph (tree.Env k v) = alike.env (expr_graph k) (expr_graph v)
  attribute_graph (tree.Signals given) = alike.signals given
  attribute_graph (tree.Cache x i o) = alike.cache (option_alike _ expr_graph x) (option_alike _ expr_graph i) (option_alike _ expr_graph o)
  attribute_graph (tree.Arg r) = alike.arg (record {
    flag = option_alike _ relates.position r.flag;
    help = option_alike _ property_graph r.help;
    long = name_graph r.long;
    max = option_alike _ bound_graph r.max;
    min = option_alike _ bound_graph r.min;
    multiple = option_alike _ relates.position r.multiple;
    name = quoted_graph r.name;
    pattern = option_alike _ property_graph r.pattern;
    short = name_graph r.short;
    value = option_alike _ expr_graph r.value;
  })

  entry_graph : (e : Entry A B) → AlikeEntry graph e (over_entry f g e)
  entry_graph e = record { name = relates.position e.name; attribute = attribute_graph e.attribute; comment = refl }

  pub entries_graph : (o : Option (List (Entry A B))) → AlikeOption (Each (AlikeEntry graph)) o (option_map (map (over_entry f g)) o)
  entries_graph o = option_alike _ (list_alike _ entry_graph) o

  -- ---- what is seen

  pub literal_graph : {l : Literal A} {l' : Literal C} → AlikeLiteral graph l l' → over_literal f l ≡ l'
  literal_graph h = literal_same graph f g relates_only h

  -- ---- what is broken

  pub broken_graph : {bs : List (Broken B)} {bs' : List (Broken D)} → Each (AlikeBroken graph.position) bs bs' → map (over_broken g) bs ≡ bs'
  unfolding graph
  broken_graph h = all_broken g (λ b b'. g b ≡ b') (λ b b' e. e) h

module _ {A B C D : Type 0} (f : A → C) (g : B → D) (view : LeafView A B) (other : LeafView C D) where
  -- a leaf has the same view as its other projection
  pub record SameView : Type 0 where
    pub bytes : (a : A) → other.bytes (f a) ≡ view.bytes a
    pub place : (a : A) → other.place (f a) ≡ g (view.place a)
    pub cooked : (l : Literal A) → other.cooked (over_literal f l) ≡ view.cooked l
    pub value : (l : Literal A) → literal_value (other.literal_content (over_literal f l)) ≡ literal_value (view.literal_content l)

module _ {A B C D : Type 0} {f : A → C} {g : B → D} {view : LeafView A B} {other : LeafView C D} (sees : SameView f g view other) where
  bytes_graph : (n : A) (n' : C) → f n ≡ n' → view.bytes n ≡ other.bytes n'
  bytes_graph n n' h = sym (sees.bytes n) ∙ ap other.bytes h

  place_graph : (n : A) (n' : C) → f n ≡ n' → g (view.place n) ≡ other.place n'
  place_graph n n' h = sym (sees.place n) ∙ ap other.place h

  pub sees_graph : SeesAlike (graph f g) view other
  unfolding graph
  sees_graph = record {
    bytes = bytes_graph;
    name_place = place_graph;
    literal_bytes = λ l. bytes_graph;
    literal_place = λ l. place_graph;
    assignment_place = λ number. place_graph;
    parameter_bytes = λ number n rules n' rules'. bytes_graph n n';
    cooked = λ l l' h. sym (sees.cooked l) ∙ ap other.cooked (literal_graph f g h);
    value = λ l l' h. sym (sees.value l) ∙ ap (λ k. literal_value (other.literal_content k)) (literal_graph f g h);
  }

  pub content_graph : {Z Z' : Type 0} (h : Z → Z') (c : Content A B Z B) → AlikeForm (graph f g) view other c (over_content f g h g c)
  content_graph h c = content_alike (graph f g) f g (relates f g) sees_graph h c (nothing_asked f g (content_literals c))

  -- ---- what attributes mean

  pub all_over : (ws : List (WrittenAttribute A B))
      → all_of (entry_of other) (map (over_written_attribute f g) ws) ≡ option_map (map (over_entry f g)) (all_of (entry_of view) ws)
  all_over ws = sym (entries_same (graph f g) f g (relates_only f g) (all_alike _ _ (entry_alike (graph f g) view other sees_graph) (written_graph f g ws)))
