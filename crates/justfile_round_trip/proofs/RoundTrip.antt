-- The printed text of the tree of any text parses back.
use Rattle.std.proofs.Common.{◌≡◌, ℕ, ◌+◌, Bool, true, false, cond, List, [], ◌∷◌, length, map, refl, sym, ap, ◌∙◌, subst}
use Rattle.std.specs.Prelude.{if◌then◌else◌}
use Rattle.std.specs.Str.{IsUtf8}
use Rattle.std.proofs.lemmas.List.{length-map}
use denote.Enum.Bare.{sameb}
use Rattle.justfile_vocabulary.specs.Indentation.{IsIndentation}
use Rattle.justfile_model.specs.Lexing.Tok.{Tok}
use Rattle.justfile_model.specs.Lexing.Lexed.{Lexed}
use Rattle.justfile_model.specs.Lexing.SignificantTokens.{SignificantToken, is_whitespace, significant_from, significant_tokens}
use Rattle.justfile_model.specs.Trees.Tree as tree
use Rattle.justfile_model.specs.Trees.Tree.{Content, Construct, Tree, Shape, over_content, over_parameter, lexeme, nothing, shape_of}
use Rattle.justfile_model.specs.Grammars.Grammar as g
use Rattle.justfile_vocabulary.specs.contracts.list_feature.ListFeature.{the_type}
use Rattle.justfile_vocabulary.specs.declared.list_feature.ListFeature.{ListFeature}
use Rattle.justfile_model.specs.Grammars.Docs.{Nothing, documented}
use Rattle.justfile_model.specs.Grammars.Features.{ConstructFeatures, Noted, over_noted}
use Rattle.justfile_model.specs.Grammars.Conditions.{Conditions, with_limit}
use Rattle.justfile_model.specs.Grammars.Expressions.{BelowLimit}
use Rattle.justfile_model.specs.Grammars.Grammar.{File}
use Rattle.justfile_model.specs.Printed.NormalShape.{normal}
use Rattle.justfile_model.specs.Printed.Printing.{text, printable}
use Rattle.justfile_model.specs.LiteralTexts.Literals.{over_literal, AreCookedTexts}
use Rattle.justfile_model.specs.Grammars.Files.{FileDerives, ShapeDerives, all_features, sets_doc, literals, content_bindings, bindings, content_recipes, recipes, to_lexemes}
use Rattle.justfile_model.specs.Printed.PrintedAttributes.{docs_written, rewritten}
use Rattle.justfile_model.specs.Trees.LeafView.{views_lexemes}
use Rattle.justfile_model.proofs.Printed.DocsKept.{documented_counts, printable_count}
use Rattle.justfile_model.proofs.Printed.DocsText.{text_written}
use Rattle.justfile_model.proofs.Meanings.Ordered.{undocumented_of}
use Rattle.justfile_model.proofs.Printed.PrintedDocs.{SettledDocs, documented_settled}
use Rattle.justfile_model.proofs.Sound.Agreement.{one_tree}
use Rattle.justfile_model.proofs.Derivations.CarryExpressions.{Same, Pairs, nil, cons}
use Rattle.justfile_model.proofs.Derivations.Leaves.{lexemes, elsewhere, file_forgets, file_lifts}
use Rattle.justfile_model.proofs.Lexing.LexedLaws.{one_list}
use Rattle.justfile_model.proofs.Derivations.Needs.{relimited}
use Rattle.justfile_model.proofs.Printed.Normal.{normal_twice, normal_literals, normal_bindings, normal_recipes}
use Rattle.justfile_round_trip.specs.RoundTrip.{TextDerives, times, ReadsBack, printed}
use Rattle.justfile_round_trip.proofs.LiteralTexts.LexedModes.{Sign, placed, text_of, tok_at, toks, lexed}
use Rattle.justfile_model.proofs.Printed.PrintedItems.{AllPrintAgain, normal_again, rewritten_means, rewritten_texts, rewritten_unbroken, rewritten_undocumented, shape_again}
use Rattle.justfile_model.proofs.Printed.PrintedLiterals.{texts_are_there, texts_of, texts_cook}
use Rattle.justfile_model.proofs.Lexing.Spelled.{lexed_spelled}
use Rattle.justfile_round_trip.proofs.Canon.{Shown}
use Rattle.justfile_round_trip.proofs.Items.CanonItems.{signs}
use Rattle.justfile_round_trip.proofs.Items.CountedItems.{documented_weight, normal_weight, shape_weight, undocumented_times, written_docs_weight}
use Rattle.justfile_round_trip.proofs.DocsGood.{docs_good, start_comments}
use Rattle.justfile_round_trip.proofs.DocsNormal.{normal_documented}
use Rattle.justfile_round_trip.proofs.Good.{unplaced, significant}
use Rattle.justfile_round_trip.proofs.Items.GoodItems.{AtStart, start_plain}
use Rattle.justfile_round_trip.proofs.Means.{docs_meant, meant}
use Rattle.justfile_round_trip.proofs.LexesBack.{lex_start, text_is}
use Rattle.justfile_round_trip.proofs.Values.TokenFacts.{lexed_sound}
use Rattle.justfile_round_trip.proofs.RecipeBodies.BodyLines.{IsLevel, level_is}
use Rattle.justfile_round_trip.proofs.RecipeBodies.BodyFacts.{lexed_bodies}
use Rattle.justfile_round_trip.proofs.Written.{file_good}
use Rattle.justfile_round_trip.proofs.DerivesBack.{derive_start}
use Rattle.justfile_round_trip.proofs.Items.DeterminedItems.{of_file}

-- ---- places

same_by : (w : Bool) (t u : Tok) (glued : Bool) (ts us : List Tok) → t.kind ≡ u.kind → t.lexeme ≡ u.lexeme → ((g : Bool) → Pairs Same (significant_from g ts) (significant_from g us))
    → Pairs Same (cond w (significant_from false ts) (record { tok = t; glued = glued } ∷ significant_from true ts)) (cond w (significant_from false us) (record { tok = u; glued = glued } ∷ significant_from true us))
same_by true t u glued ts us k l more = more false
same_by false t u glued ts us k l more = cons (record { kind = k; lexeme = l; glued = refl }) (more true)

-- tokens with places are the same as those without
placed_same : (source : List ℕ) (ts : List Sign) (offset : ℕ) (glued : Bool) → Pairs Same (significant glued ts) (significant_from glued (toks source offset ts))
placed_same source [] offset glued = cons (record { kind = refl; lexeme = refl; glued = refl }) nil
placed_same source (t ∷ ts) offset glued = same_by (is_whitespace t.kind) (placed t 0 0 0) (tok_at source offset t) glued (unplaced ts) (toks source (offset + length t.lexeme) ts) refl refl (λ g. placed_same source ts (offset + length t.lexeme) g)

-- ---- a good shape

back_tokens : Shape → (indentation : List ℕ) → List Tok
back_tokens s indentation = toks (text s indentation) 0 (signs indentation (docs_written s))

-- the printed text is that of the items with their docs as comments
printed_text : (limit : ℕ) (s : Shape) (indentation : List ℕ) → AtStart limit (docs_written s) → text s indentation ≡ text_of (signs indentation (docs_written s))
printed_text limit s indentation h = text_written indentation s ∙ text_is limit indentation h

good_lexed : (limit : ℕ) (s : Shape) (indentation : List ℕ) → IsLevel indentation → AtStart limit (docs_written s) → Lexed (text s indentation) (back_tokens s indentation)
unfolding back_tokens
good_lexed limit s indentation i h =
    let ts = signs indentation (docs_written s) in
    subst (λ x. Lexed x (toks x 0 ts)) (sym (printed_text limit s indentation h)) (lexed (text_of ts) ts (lex_start limit indentation i false h).lexes.to)

good_file : (limit : ℕ) (s : Shape) (indentation : List ℕ) → AtStart limit (docs_written s)
    → (ns : List (ConstructFeatures (Unit {0}))) × File to_lexemes (BelowLimit limit) (rewritten s) ns (significant_tokens (back_tokens s indentation))
unfolding back_tokens
good_file limit s indentation h =
    let found = derive_start limit indentation h false in
    (found.0, elsewhere limit (g.without_byte_order_mark found.1) (placed_same (text s indentation) (signs indentation (docs_written s)) 0 false))

-- features are noted as often without their places
times_over : {A B : Type 0} (f : A → B) (feature : ListFeature) (ns : List (Noted A)) → times feature (map (over_noted f) ns) ≡ times feature ns
times_over f feature [] = refl
times_over f feature (n ∷ ns) = ap (λ count. (if sameb the_type n.0 feature then 1 else 0) + count) (times_over f feature ns)

-- ---- numbers

content_numbers : (c : Content Tok Tok ℕ (Unit {0})) → content_bindings (over_content lexeme nothing nothing (λ star. star) c) ≡ content_bindings c
content_numbers (tree.Function parts) = length-map parts.parameters lexeme
content_numbers (tree.Recipe parts) = length-map parts.header.parameters (over_parameter lexeme nothing)
content_numbers _ = refl

numbers : (t : Tree) → bindings (shape_of t) ≡ bindings t
numbers [] = refl
numbers (Construct entries content ∷ t) = λ k. content_numbers content k + numbers t k
numbers (_ ∷ t) = ap (λ n. 0 + n) (numbers t)

content_counts : (c : Content Tok Tok ℕ (Unit {0})) → content_recipes (over_content lexeme nothing nothing (λ star. star) c) ≡ content_recipes c
content_counts (tree.Alias parts) = refl
content_counts _ = refl

counts : (t : Tree) → recipes (shape_of t) ≡ recipes t
counts [] = refl
counts (Construct entries content ∷ t) = λ k. content_counts content k + counts t k
counts (_ ∷ t) = ap (λ n. 0 + n) (counts t)

-- ---- the theorem

module _ (conditions : Conditions) where
  pub shape_derives : (source : List ℕ) (t : Tree) (fs : List (Noted Tok)) (h : TextDerives conditions source t fs) → ShapeDerives conditions (significant_tokens h.tokens) (shape_of t) (map (over_noted nothing) fs)
  shape_derives source t fs h = file_forgets conditions (significant_tokens h.tokens) (lexed_spelled source h.tokens h.lexed) t fs h.file

  -- a shape whose docs were taken of good items
  record Documented (s : Shape) : Type 0 where
    plain : Shape
    good : AtStart conditions.limit plain
    shape_is : s ≡ documented sets_doc Nothing plain

  -- the normal shape of the tree that a text derives
  source_good : (source : List ℕ) (t : Tree) (fs : List (Noted Tok)) → TextDerives conditions source t fs → printable (shape_of t) ≡ true → Documented (normal (shape_of t))
  source_good source t fs h p =
      let f = shape_derives source t fs h in
      let view = views_lexemes conditions.expander in
      let shape_is = docs_meant view f.written (shape_of t) f.ordered_is in
      let prints : printable (meant view f.written) ≡ true = sym (documented_counts printable printable_count sets_doc Nothing (meant view f.written)) ∙ ap printable (sym shape_is) ∙ p in
      record {
        plain = normal (meant view f.written);
        good = file_good conditions.limit conditions.current view f.derives f.unbroken (lexed_sound source h.tokens h.utf8 h.lexed) (lexed_bodies source h.tokens h.lexed) prints;
        shape_is = ap normal shape_is ∙ sym (normal_documented Nothing (meant view f.written));
      }

  -- its items are good with their docs as comments
  written_good : (s : Shape) → Documented s → AtStart conditions.limit (docs_written s)
  written_good s d = subst (λ x. AtStart conditions.limit (docs_written x)) (sym d.shape_is) (docs_good conditions.limit Nothing d.good)

  -- and its docs are taken again
  docs_settled : (s : Shape) → Documented s → SettledDocs Nothing s
  docs_settled s d = subst (SettledDocs Nothing) (sym d.shape_is) (documented_settled Nothing d.plain (start_plain conditions.limit d.good) (start_comments conditions.limit d.good))

  -- its printed form means it again, breaks no rule, and has literals with texts
  source_again : (ts : List SignificantToken) (s : Shape) (ns : Shown) → ShapeDerives conditions ts s ns → AllPrintAgain conditions.current conditions.expander (normal s)
  source_again ts s ns f =
      normal_again conditions.current conditions.expander s
      (shape_again conditions.current conditions.expander f.written s f.ordered_is f.unbroken (texts_are_there conditions.expander _ f.cooked f.cooks))

  -- each feature occurs as often in the tree that a text derives as in the printed form of its shape
  source_times : (feature : ListFeature) (ts : List SignificantToken) (s : Shape) (ns : Shown) → ShapeDerives conditions ts s ns
      → times feature ns ≡ shape_weight feature conditions.expander s
  source_times feature ts s ns f =
      let view = views_lexemes conditions.expander in
      let m = undocumented_of view f.written s f.ordered_is in
      ap (times feature) (f.features_are ∙ ap (all_features view f.written) (of_file (BelowLimit conditions.limit) f.derives))
      ∙ undocumented_times feature conditions.expander conditions.current f.written m.items m.items_are f.unbroken
      ∙ sym (documented_weight feature conditions.expander Nothing m.items)
      ∙ ap (shape_weight feature conditions.expander) (sym m.all_are)

  -- what a good shape derives from its printed tokens, under the same conditions as the source
  record DerivesAgain (s : Shape) (indentation : List ℕ) : Type 0 where
    features : Shown
    derives : ShapeDerives conditions (significant_tokens (back_tokens s indentation)) s features
    weight : (feature : ListFeature) → times feature features ≡ shape_weight feature conditions.expander s

  good_derives : (s : Shape) (indentation : List ℕ) → Documented s → AllPrintAgain conditions.current conditions.expander s → DerivesAgain s indentation
  good_derives s indentation d again =
      let view = views_lexemes conditions.expander in
      let file = good_file conditions.limit s indentation (written_good s d) in
      let texts = rewritten_texts conditions.current conditions.expander s again in
      let unbroken = rewritten_unbroken conditions.current conditions.expander s again in
      record {
        features = all_features view (rewritten s) file.0;
        derives = record {
          written = rewritten s;
          by_construct = file.0;
          derives = file.1;
          features_are = refl;
          cooked = texts_of conditions.expander _ texts;
          cooks = texts_cook conditions.expander _ texts;
          unbroken = unbroken;
          ordered_is = rewritten_means conditions.current conditions.expander s again (docs_settled s d);
        };
        weight = λ feature.
            ap (λ fs. times feature (all_features view (rewritten s) fs)) (of_file (BelowLimit conditions.limit) file.1)
            ∙ undocumented_times feature conditions.expander conditions.current (rewritten s) (docs_written s) (rewritten_undocumented conditions.current conditions.expander s again) unbroken
            ∙ written_docs_weight feature conditions.expander s;
      }

  pub back : (source : List ℕ) (t : Tree) (fs : List (Noted Tok)) (indentation : List ℕ) → IsIndentation indentation → TextDerives conditions source t fs → printable (shape_of t) ≡ true → ReadsBack conditions (shape_of t) fs indentation (printed (shape_of t) indentation)
  back source t fs indentation i h p =
      let s = normal (shape_of t) in
      let limit = conditions.limit in
      let level = level_is indentation i in
      let good = source_good source t fs h p in
      let f = shape_derives source t fs h in
      let file = good_derives s indentation good (source_again (significant_tokens h.tokens) (shape_of t) _ f) in
      let written = written_good s good in
      let lexed = good_lexed limit s indentation level written in
      let spelled = lexed_spelled (text s indentation) (back_tokens s indentation) lexed in
      let found = file_lifts conditions (significant_tokens (back_tokens s indentation)) spelled s file.features file.derives in
      let same : map (over_literal lexeme) (literals found.0) ≡ literals (shape_of t) = sym (lexemes found.0) ∙ ap literals found.3 ∙ normal_literals (shape_of t) in
      let noted : (feature : ListFeature) → times feature (map (over_noted nothing) found.1) ≡ times feature (map (over_noted nothing) fs) =
      λ feature. ap (times feature) found.4 ∙ file.weight feature ∙ normal_weight feature conditions.expander (shape_of t) ∙ sym (source_times feature (significant_tokens h.tokens) (shape_of t) _ f) in
      record {
        tree = found.0;
        found = found.1;
        derives = record { utf8 = subst IsUtf8 (sym (printed_text limit s indentation written)) (lex_start limit indentation level false written).lexes.utf8; tokens = back_tokens s indentation; lexed = lexed; file = found.2 };
        same_features = λ feature. sym (times_over nothing feature found.1) ∙ noted feature ∙ times_over nothing feature fs;
        same_shape = found.3;
        same_lexemes = same;
        same_texts = λ texts cooks. subst (λ l. AreCookedTexts conditions.expander l texts) (sym same) cooks;
        same_bindings = sym (numbers found.0) ∙ ap bindings found.3 ∙ normal_bindings (shape_of t);
        same_recipes = sym (counts found.0) ∙ ap recipes found.3 ∙ normal_recipes (shape_of t);
        printed_again = ap (λ x. text x indentation) (ap normal found.3 ∙ normal_twice (shape_of t));
      }

  -- a text has one tree
  pub one_text : (source : List ℕ) (t u : Tree) (fs gs : List (Noted Tok)) → TextDerives conditions source t fs → TextDerives conditions source u gs → t ≡ u
  one_text source t u fs gs h q =
      let tokens = one_list source h.tokens q.tokens h.lexed q.lexed in
      (one_tree conditions (significant_tokens q.tokens) t u fs gs (subst (λ ts. FileDerives conditions (significant_tokens ts) t fs) tokens h.file) q.file).0

  pub fixed : (source : List ℕ) (t u : Tree) (fs gs : List (Noted Tok)) (indentation : List ℕ) → IsIndentation indentation → TextDerives conditions source t fs → printable (shape_of t) ≡ true → TextDerives conditions (printed (shape_of t) indentation) u gs
      → printed (shape_of u) indentation ≡ printed (shape_of t) indentation
  fixed source t u fs gs indentation i h p q =
      let x = back source t fs indentation i h p in
      ap (λ y. printed (shape_of y) indentation) (one_text (printed (shape_of t) indentation) u x.tree gs x.found q x.derives) ∙ x.printed_again

-- two trees that a text derives under two limits are the same
one_text_under : (conditions : Conditions) (limit : ℕ) (source : List ℕ) (t u : Tree) (fs gs : List (Noted Tok)) → TextDerives conditions source t fs → TextDerives (with_limit limit conditions) source u gs → t ≡ u
one_text_under conditions limit source t u fs gs h q =
    let there = subst (λ ts. FileDerives (with_limit limit conditions) (significant_tokens ts) u gs) (one_list source q.tokens h.tokens q.lexed h.lexed) q.file in
    let under = relimited conditions (significant_tokens h.tokens) (with_limit limit conditions) t u fs gs h.file there in
    (one_tree (with_limit limit conditions) (significant_tokens h.tokens) t u fs gs under there).0

pub apart : (conditions : Conditions) (limit : ℕ) (source other : List ℕ) (t u : Tree) (fs gs : List (Noted Tok)) (indentation : List ℕ) → IsIndentation indentation → TextDerives conditions source t fs → TextDerives (with_limit limit conditions) other u gs → printable (shape_of t) ≡ true → printable (shape_of u) ≡ true → printed (shape_of t) indentation ≡ printed (shape_of u) indentation
    → normal (shape_of t) ≡ normal (shape_of u)
apart conditions limit source other t u fs gs indentation i h q p r same =
    let x = back conditions source t fs indentation i h p in
    let y = back (with_limit limit conditions) other u gs indentation i q r in
    let one = one_text_under conditions limit (printed (shape_of u) indentation) x.tree y.tree x.found y.found (subst (λ r. TextDerives conditions r x.tree x.found) same x.derives) y.derives in
    sym x.same_shape ∙ ap shape_of one ∙ y.same_shape

pub alike : (s r : Shape) (indentation : List ℕ) → normal s ≡ normal r → printed s indentation ≡ printed r indentation
alike s r indentation e = ap (λ x. text x indentation) e
