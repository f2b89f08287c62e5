-- The derived values of items: they remain if more tokens are allowed, and the texts of their literals are right.
use Rattle.std.proofs.Common.{IfSome, ◌≡◌, ℕ, Bool, true, false, List, [], ◌∷◌, ◌++◌, map, All, Option, Some, None, Ok, refl, sym, ap, ◌∙◌, subst, append-nil, append_assoc}
use Rattle.std.specs.Prelude.{string_bytes}
use Rattle.std.specs.Global.{Box}
use Rattle.std.specs.List.{flat_map}
use Rattle.std.specs.Option.{option_map}
use Rattle.std.proofs.lemmas.List.{map-append}
use Rattle.std.proofs.lemmas.List.Elements.{All-drop, All-head, All-tail, All-take, All-weaker}
use Rattle.justfile_token.specs.Namepath.{names_in}
use Rattle.justfile_token.specs.StringKind.{kind_of}
use Rattle.justfile_token.specs.StringLiteral.{begins_format_string}
use Rattle.justfile_token.specs.Token.{lexeme_of}
use Rattle.justfile_token.specs.declared.name.Name.{Name}
use Rattle.justfile_token.specs.declared.string_kind.StringKind.{StringKind}
use Rattle.justfile_token.specs.declared.string_literal.StringLiteral as strings
use Rattle.justfile_token.specs.declared.token.Token.{Token}
use Rattle.justfile_vocabulary.specs.declared.attribute_kind.AttributeKind.{AttributeKind}
use Rattle.justfile_vocabulary.specs.declared.format_string_part.FormatStringPart.{FormatStringPart}
use Rattle.justfile_vocabulary.specs.declared.format_string_part.FormatStringPart.TheVariants as format_parts
use Rattle.justfile_model.specs.Grammars.Files.{attribute_literals, body_literals, dependency_literals, entries_literals, expr_literals, exprs_literals, fragments_literals, header_literals, item_literals, items_literals, optional_literals, option_literals, parameter_literals, parts_literals, quoted_literals, setting_literals}
use Rattle.justfile_model.specs.LiteralTexts.Literals.{AreCookedTexts, Expanded, Expansions, Literal, Plain, cooked_format_text, cooked_text, over_literal, string_of}
use Rattle.justfile_model.specs.Lexing.Tok.{Tok, tok_of}
use Rattle.justfile_model.specs.Trees.Tree.{Expr, Quoted, lexeme}
use Rattle.justfile_attribute.specs.Attribute.{formed_by, option_by, property_by, quoted_by}
use Rattle.justfile_attribute.specs.Form.{Form, case_kind, form_of}
use Rattle.justfile_attribute.specs.Form as forms
use Rattle.justfile_attribute.specs.New.{HasDerivedAttributeFields}
use Rattle.justfile_attribute.specs.declared.interpreter.Interpreter.{Interpreter}
use Rattle.justfile_attribute_set.specs.AttributeSet.{AttributeSet, entries_of, written_of}
use Rattle.justfile_attribute_set.specs.Keys.{firsts}
use Rattle.justfile_attribute_set.specs.Pairs.{Pair, entry_of}
use Rattle.justfile_expression.specs.Expression.{assert_of, conditional_of, expr_of, expr_cooked, exprs_cooked, exprs_of, exprs_of_row, format_of, optional_cooked, join_of, literal_tok, part_tok, parts_cooked, parts_of_row}
use Rattle.justfile_expression.specs.declared.expression.Expression.{Expression, And', Assert', Backtick, Call', Comparison', Concatenation', Conditional', FormatString', Group', Join', List', ListConcatenation', Not', Or', StringLiteral, Variable, Held-Expression-Assert-1 as OptionalExpression, None', Some', Row_of-Expression as ExpressionRow, end_of-Expression as row_end, more_of-Expression as row_more, Row_of-Expression-FormatString-1-2 as FormatRow, end_of-Expression-FormatString-1-2 as format_row_end, more_of-Expression-FormatString-1-2 as format_row_more}
use Rattle.justfile_line.specs.Body.{fragment_of, fragment_cooked, body_line_of, line_cooked}
use Rattle.justfile_line.specs.declared.fragment.Fragment.{Fragment}
use Rattle.justfile_line.specs.declared.fragment.Fragment.TheVariants as fragments
use Rattle.justfile_line.specs.declared.line.Line.{Line}
use Rattle.justfile_literal.specs.Literal.{IsPartOf}
use Rattle.justfile_recipe_header.specs.Header.{argument_cooked, dependency_argument_of, dependency_cooked, dependency_of, default_cooked, parameter_cooked, parameter_of}
use Rattle.justfile_recipe_header.specs.declared.parameter.Parameter.{Parameter}
use Rattle.justfile_recipe_header.specs.declared.unresolved_dependency.UnresolvedDependency.{UnresolvedDependency}
use Rattle.justfile_setting.specs.Setting.{Content, ExpressionContent, IndentationContent, InterpreterContent, PlainContent, TruthContent, content_by, content_cooked, content_of, interpreter_cooked}
use Rattle.justfile_item.specs.Attributes.{attribute_cooked, attributes_cooked, boxed_cooked, form_cooked, literal_cooked, optional, option_cooked, property_cooked}
use Rattle.justfile_item.specs.Item.{header_cooked, header_of, item_of, item_cooked, priors_of, quoted_of, subsequents_of}
use Rattle.justfile_item.specs.declared.item.Item.{Item}
use Rattle.justfile_item.specs.declared.item.Item.TheVariants.{Alias, Assignment, Comment, Function, Import, Module, Newline, Recipe, Setting, Unexport}
use Rattle.justfile_item.specs.declared.recipe.UnresolvedRecipe.{UnresolvedRecipe}
use Rattle.justfile_parse_docs.specs.ParsedItems.{AreFilledAttributes, AreFilledExpressions, AreFilledParts, IsFilledArgument, IsFilledAttribute, IsFilledBoxed, IsFilledCommandLine, IsFilledContent, IsFilledCount, IsFilledDependency, IsFilledExpression, IsFilledForm, IsFilledFragment, IsFilledInterpreter, IsFilledItem, IsFilledLine, IsFilledLiteral, IsFilledName, IsFilledNumbered, IsFilledOption, IsFilledOptional, IsFilledParameter, IsFilledPart, IsFilledProperty, IsFilledRecipe, first_part, later_part}

-- ---- where more tokens are allowed

if_given : {X : Type 0} (A B : X → Type 0) → ((x : X) → A x → B x) → (o : Option X) → IfSome o A → IfSome o B
if_given A B f None h = tt
if_given A B f (Some x) h = f x h

module _ (expander : Expansions) (P Q : Token → Type 0) (weaker : (t : Token) → P t → Q t) where
  given_literal : (l : strings.StringLiteral) → IsFilledLiteral expander P l → IsFilledLiteral expander Q l
  given_literal l h = record { among = weaker l.token h.among; cooked = h.cooked; kind = h.kind; part = h.part }

  mutual
    given_expression : (e : Expression) → IsFilledExpression expander P e → IsFilledExpression expander Q e
    given_expression (And' p lhs q rhs) h = (given_expression lhs h.0, given_expression rhs h.1)
    given_expression (Assert' p condition message name) h = (given_expression condition h.0, given_optional message h.1, weaker name.token h.2)
    given_expression (Backtick contents token) h = record { among = weaker token h.among; cooked = h.cooked }
    given_expression (Call' name n arguments) h = (weaker name.token h.0, given_row arguments h.1)
    given_expression (Comparison' p lhs operator q rhs token) h = (given_expression lhs h.0, given_expression rhs h.1, weaker token h.2)
    given_expression (Concatenation' p lhs operator q rhs) h = (given_expression lhs h.0, weaker operator h.1, given_expression rhs h.2)
    given_expression (Conditional' p condition q branch otherwise) h = (given_expression condition h.0, given_expression branch h.1, given_optional otherwise h.2)
    given_expression (FormatString' start n expressions) h = (record { among = weaker start.token h.0.among; is = h.0.is }, given_parts (kind_of (lexeme_of start.token)) expressions h.1)
    given_expression (Group' p contents) h = given_expression contents h
    given_expression (Join' lhs operator q rhs) h = (given_optional lhs h.0, weaker operator h.1, given_expression rhs h.2)
    given_expression (List' n elements opener) h = (given_row elements h.0, weaker opener h.1)
    given_expression (ListConcatenation' p lhs operator q rhs) h = (given_expression lhs h.0, weaker operator h.1, given_expression rhs h.2)
    given_expression (Not' p operand) h = given_expression operand h
    given_expression (Or' p lhs q rhs) h = (given_expression lhs h.0, given_expression rhs h.1)
    given_expression (StringLiteral l) h = given_literal l h
    given_expression (Variable name number) h = (weaker name.token h.0, h.1)

    given_optional : (e : OptionalExpression) → IsFilledOptional expander P e → IsFilledOptional expander Q e
    given_optional None' h = tt
    given_optional (Some' p e) h = given_expression e h

    given_row : {n : _} (es : ExpressionRow n) → AreFilledExpressions expander P es → AreFilledExpressions expander Q es
    given_row row_end h = tt
    given_row (row_more e others) h = (given_expression e h.0, given_row others h.1)

    given_parts : (kind : StringKind) {n : _} (es : FormatRow n) → AreFilledParts expander P kind es → AreFilledParts expander Q kind es
    given_parts kind format_row_end h = tt
    given_parts kind (format_row_more e literal others) h = (given_expression e h.0, record { among = weaker literal.token h.1.among; is = h.1.is }, given_parts kind others h.2)

  given_literals : (ls : List strings.StringLiteral) → All (IsFilledLiteral expander P) ls → All (IsFilledLiteral expander Q) ls
  given_literals = All-weaker (IsFilledLiteral expander P) (IsFilledLiteral expander Q) given_literal

  given_value : (o : Option (Box Expression)) → IfSome o (IsFilledBoxed expander P) → IfSome o (IsFilledBoxed expander Q)
  given_value = if_given (IsFilledBoxed expander P) (IsFilledBoxed expander Q) (λ e h. given_expression e.value h)

  given_property : (o : Option (Name × Box Expression)) → IfSome o (IsFilledProperty expander P) → IfSome o (IsFilledProperty expander Q)
  given_property = if_given (IsFilledProperty expander P) (IsFilledProperty expander Q) (λ p h. (weaker p.0.token h.0, given_expression p.1.value h.1))

  given_option : (key : Option Name) (l : Option strings.StringLiteral) → IsFilledOption expander P key l → IsFilledOption expander Q key l
  given_option (Some key) l h = weaker key.token h
  given_option None l h = if_given (IsFilledLiteral expander P) (IsFilledLiteral expander Q) given_literal l h

  given_count : (key : Option Name) (count : Option ℕ) → IsFilledCount expander P key count → IsFilledCount expander Q key count
  given_count (Some key) (Some count) h = weaker key.token h
  given_count key count h = tt

  given_interpreter : (i : Interpreter strings.StringLiteral) → IsFilledInterpreter expander P i → IsFilledInterpreter expander Q i
  given_interpreter i h = (given_literal i.command h.0, given_literals i.arguments.items h.1)

  given_form : (f : Form) → IsFilledForm expander P f → IsFilledForm expander Q f
  given_form (forms.Arg flag help help_property long long_key max max_key min min_key multiple name pattern short short_key value) h = (
    if_given P Q weaker flag h.0,
    given_property help_property h.1,
    given_option long_key long h.2,
    given_count max_key max h.3,
    given_count min_key min h.4,
    if_given P Q weaker multiple h.5,
    given_literal name h.6,
    given_property pattern h.7,
    given_option short_key short h.8,
    given_value value h.9,
  )
  given_form (forms.Cache extra inputs outputs) h = (given_value extra h.0, given_value inputs h.1, given_value outputs h.2)
  given_form (forms.Env key value) h = (given_expression key.value h.0, given_expression value.value h.1)
  given_form (forms.Literal literal) h = given_literal literal h
  given_form (forms.Literals given) h = given_literals given h
  given_form (forms.Optional value) h = given_value value h
  given_form (forms.Script interpreter) h = if_given (IsFilledInterpreter expander P) (IsFilledInterpreter expander Q) given_interpreter interpreter h
  given_form (forms.Single value) h = given_expression value.value h
  given_form _ h = tt

  given_set : (set : AttributeSet) → AreFilledAttributes expander P set → AreFilledAttributes expander Q set
  given_set set =
      All-weaker (λ (p : Pair). P p.1.name.token × IsFilledAttribute expander P p.0 × HasDerivedAttributeFields p.0)
      (λ (p : Pair). Q p.1.name.token × IsFilledAttribute expander Q p.0 × HasDerivedAttributeFields p.0)
      (λ p h. (weaker p.1.name.token h.0, given_form (form_of p.0) h.1, h.2)) (written_of set)

  given_names : (names : List Name) → All (IsFilledName expander P) names → All (IsFilledName expander Q) names
  given_names = All-weaker (IsFilledName expander P) (IsFilledName expander Q) (λ name h. weaker name.token h)

  given_command : (i : Interpreter Expression) → IsFilledCommandLine expander P i → IsFilledCommandLine expander Q i
  given_command i h =
      (given_expression i.command h.0, All-weaker (IsFilledExpression expander P) (IsFilledExpression expander Q) given_expression i.arguments.items h.1)

  given_content : (c : Content) → IsFilledContent expander P c → IsFilledContent expander Q c
  given_content (TruthContent value) h = tt
  given_content (ExpressionContent value) h = given_expression value h
  given_content (InterpreterContent i) h = given_command i h
  given_content (PlainContent literal) h = given_literal literal h
  given_content (IndentationContent literal indentation) h = (given_literal literal h.0, h.1)

  given_fragment : (f : Fragment) → IsFilledFragment expander P f → IsFilledFragment expander Q f
  given_fragment (fragments.Interpolation e) h = given_expression e h
  given_fragment (fragments.Text token) h = weaker token h

  given_line : (l : Line) → IsFilledLine expander P l → IsFilledLine expander Q l
  given_line l = All-weaker (IsFilledFragment expander P) (IsFilledFragment expander Q) given_fragment l.fragments.items

  given_parameter : (p : Parameter) → IsFilledParameter expander P p → IsFilledParameter expander Q p
  given_parameter p h = (weaker p.name.token h.0, if_given (IsFilledExpression expander P) (IsFilledExpression expander Q) given_expression p.default h.1)

  given_dependency : (d : UnresolvedDependency) → IsFilledDependency expander P d → IsFilledDependency expander Q d
  given_dependency d h = (
    given_names (names_in d.recipe) h.0,
    All-weaker (IsFilledArgument expander P) (IsFilledArgument expander Q) (λ a. given_expression a.expression) d.arguments.items h.1,
  )

  pub given_weaker : (file_depth : ℕ) (import_offsets : List ℕ) (i : Item) → IsFilledItem expander P file_depth import_offsets i → IsFilledItem expander Q file_depth import_offsets i
  given_weaker file_depth import_offsets (Alias a) h =
      record { among = weaker a.name.token h.among; target = given_names (names_in a.target) h.target; attributes = given_set a.attributes h.attributes }
  given_weaker file_depth import_offsets (Assignment a) h =
      record {
        among = weaker a.name.token h.among;
        file_depth_is = h.file_depth_is;
        prelude = h.prelude;
        private = h.private;
        attributes = given_set a.attributes h.attributes;
        value = given_expression a.value h.value;
      }
  given_weaker file_depth import_offsets (Comment text) h = tt
  given_weaker file_depth import_offsets (Function f) h =
      record {
        among = weaker f.name.token h.among;
        parameters = All-weaker (IsFilledNumbered expander P) (IsFilledNumbered expander Q) (λ x h. weaker x.0.token h) f.parameters.items h.parameters;
        body = given_expression f.body h.body;
        attributes = given_set f.attributes h.attributes;
      }
  given_weaker file_depth import_offsets (Import set optional relative) h =
      record { relative_is = given_literal relative h.relative_is; attributes_are = given_set set h.attributes_are }
  given_weaker file_depth import_offsets (Module set doc name optional relative) h =
      record {
        among = weaker name.token h.among;
        relative_is = if_given (IsFilledLiteral expander P) (IsFilledLiteral expander Q) given_literal relative h.relative_is;
        attributes_are = given_set set h.attributes_are;
      }
  given_weaker file_depth import_offsets Newline h = tt
  given_weaker file_depth import_offsets (Recipe r) h =
      record {
        among = weaker r.name.token h.among;
        parameters = All-weaker (IsFilledParameter expander P) (IsFilledParameter expander Q) given_parameter r.parameters.items h.parameters;
        arg_attributes = h.arg_attributes;
        priors = h.priors;
        dependencies = All-weaker (IsFilledDependency expander P) (IsFilledDependency expander Q) given_dependency r.dependencies.items h.dependencies;
        body = All-weaker (IsFilledLine expander P) (IsFilledLine expander Q) given_line r.body.items h.body;
        file_depth_is = h.file_depth_is;
        import_offsets_are = h.import_offsets_are;
        private = h.private;
        shebang = h.shebang;
        attributes = given_set r.attributes h.attributes;
      }
  given_weaker file_depth import_offsets (Setting s) h =
      record { among = weaker s.name.token h.among; value = given_content (content_of s.value) h.value; attributes = given_set s.attributes h.attributes }
  given_weaker file_depth import_offsets (Unexport set name) h = record { among = weaker name.token h.among; attributes_are = given_set set h.attributes_are }

-- ---- the texts of literals

abbrev pub lexemes : List (Literal Tok) → List (Literal (List ℕ))
lexemes = map (over_literal lexeme)

-- the literal is no part of a format string
string_tok : (literal : strings.StringLiteral) → literal.part ≡ None → literal_tok literal ≡ tok_of literal.token
string_tok literal p = rw p refl

-- a later part of a format string is its token as it stands
later_text : (start : Token) (literal : strings.StringLiteral) (part : FormatStringPart) → begins_format_string (Some part) ≡ false → IsPartOf (kind_of (lexeme_of start)) part literal.token literal
    → cooked_format_text (kind_of (lexeme_of start)) part (part_tok literal).lexeme ≡ Ok (string_bytes literal.cooked)
later_text start literal part later h = ap (cooked_format_text (kind_of (lexeme_of start)) part) (as_it_stands h.expand_is (ap begins_format_string h.part_is ∙ later)) ∙ h.cooked
  where
    as_it_stands : literal.expand ≡ false → begins_format_string literal.part ≡ false → (part_tok literal).lexeme ≡ lexeme_of literal.token
    as_it_stands h k = rw (h, k) refl

module _ (expander : Expansions) (P : Token → Type 0) where
  -- these literals have these texts, in order
  pub record Cook (literals : List (Literal Tok)) (texts : List (List ℕ)) : Type 0 where
    pub are : AreCookedTexts expander (lexemes literals) texts

  none_cook : Cook [] []
  none_cook = record { are = tt }

  both_cook : (first : List (Literal (List ℕ))) (texts : List (List ℕ)) (others : List (Literal (List ℕ))) (more : List (List ℕ)) → AreCookedTexts expander first texts → AreCookedTexts expander others more → AreCookedTexts expander (first ++ others) (texts ++ more)
  both_cook [] [] others more h k = k
  both_cook (l ∷ ls) (t ∷ ts) others more h k = (h.0, both_cook ls ts others more h.1 k)
  both_cook [] (t ∷ ts) others more h k = absurd h
  both_cook (l ∷ ls) [] others more h k = absurd h

  joined : {a b : List (Literal Tok)} {texts more : List (List ℕ)} → Cook a texts → Cook b more → Cook (a ++ b) (texts ++ more)
  joined {a} {b} {texts} {more} h k =
      record { are = subst (λ (ls : List (Literal (List ℕ))). AreCookedTexts expander ls (texts ++ more)) (sym (map-append (over_literal lexeme) a b)) (both_cook (lexemes a) texts (lexemes b) more h.are k.are) }

  -- no literal follows
  bare : {a : List (Literal Tok)} {texts : List (List ℕ)} → Cook a texts → Cook (a ++ []) texts
  bare {a} {texts} h = subst (λ (ls : List (Literal Tok)). Cook ls texts) (sym (append-nil a)) h

  -- no text follows
  no_more : {a : List (Literal Tok)} {texts : List (List ℕ)} → Cook a texts → Cook a (texts ++ [])
  no_more {a} {texts} h = subst (Cook a) (sym (append-nil texts)) h

  -- the literals of each element
  each_cooks : {X Y : Type 0} (IsFilled : X → Type 0) (f : X → Y) (literals : Y → List (Literal Tok)) (texts : X → List (List ℕ)) → ((x : X) → IsFilled x → Cook (literals (f x)) (texts x))
      → (xs : List X) → All IsFilled xs → Cook (flat_map literals (map f xs)) (flat_map texts xs)
  each_cooks IsFilled f literals texts one [] all = none_cook
  each_cooks IsFilled f literals texts one (x ∷ xs) all = joined (one x (All-head IsFilled x xs all)) (each_cooks IsFilled f literals texts one xs (All-tail IsFilled x xs all))

  abbrev quoted : strings.StringLiteral → Quoted Tok
  quoted = quoted_by expr_of literal_tok tok_of

  literal_cooks : (l : strings.StringLiteral) → IsFilledLiteral expander P l → Cook (quoted_literals (quoted l)) (literal_cooked l)
  literal_cooks l h = by l.expand (ap (λ (t : Tok). t.lexeme) (string_tok l h.part)) h.cooked
    where
      by : (expand : Bool) → (literal_tok l).lexeme ≡ lexeme_of l.token → cooked_text expander (string_of expand (lexeme_of l.token)) ≡ Ok (string_bytes l.cooked)
          → Cook (string_of expand (literal_tok l) ∷ []) (string_bytes l.cooked ∷ [])
      by true same h = record { are = (ap (λ (b : List ℕ). cooked_text expander (Expanded b)) same ∙ h, tt) }
      by false same h = record { are = (ap (λ (b : List ℕ). cooked_text expander (Plain b)) same ∙ h, tt) }

  mutual
    expression_cooks : (e : Expression) → IsFilledExpression expander P e → Cook (expr_literals (expr_of e)) (expr_cooked e)
    expression_cooks (And' p lhs q rhs) h = joined (expression_cooks lhs h.0) (expression_cooks rhs h.1)
    expression_cooks (Assert' p condition message name) h = assert_cooks condition message name (expression_cooks condition h.0) h.1
    expression_cooks (Backtick contents token) h = record { are = (h.cooked, tt) }
    expression_cooks (Call' name n arguments) h = row_cooks arguments h.1
    expression_cooks (Comparison' p lhs operator q rhs token) h = joined (expression_cooks lhs h.0) (expression_cooks rhs h.1)
    expression_cooks (Concatenation' p lhs operator q rhs) h = joined (expression_cooks lhs h.0) (expression_cooks rhs h.2)
    expression_cooks (Conditional' p condition q branch otherwise) h = conditional_cooks condition branch otherwise (expression_cooks condition h.0) (expression_cooks branch h.1) h.2
    expression_cooks (FormatString' start n expressions) h = format_cooks start expressions h.0 h.1
    expression_cooks (Group' p contents) h = expression_cooks contents h
    expression_cooks (Join' lhs operator q rhs) h = join_cooks lhs operator rhs h.0 (expression_cooks rhs h.2)
    expression_cooks (List' n elements opener) h = row_cooks elements h.0
    expression_cooks (ListConcatenation' p lhs operator q rhs) h = joined (expression_cooks lhs h.0) (expression_cooks rhs h.2)
    expression_cooks (Not' p operand) h = expression_cooks operand h
    expression_cooks (Or' p lhs q rhs) h = joined (expression_cooks lhs h.0) (expression_cooks rhs h.1)
    expression_cooks (StringLiteral l) h = literal_cooks l h
    expression_cooks (Variable name number) h = none_cook

    assert_cooks : (condition : Expression) (message : OptionalExpression) (name : Name) → Cook (expr_literals (expr_of condition)) (expr_cooked condition) → IsFilledOptional expander P message
        → Cook (expr_literals (assert_of (tok_of name.token) (expr_of condition) message)) (expr_cooked condition ++ optional_cooked message)
    assert_cooks condition None' name h k = no_more h
    assert_cooks condition (Some' p message) name h k = joined h (expression_cooks message k)

    conditional_cooks : (condition branch : Expression) (otherwise : OptionalExpression) → Cook (expr_literals (expr_of condition)) (expr_cooked condition) → Cook (expr_literals (expr_of branch)) (expr_cooked branch) → IsFilledOptional expander P otherwise
        → Cook (expr_literals (conditional_of (expr_of condition) (expr_of branch) otherwise)) (expr_cooked condition ++ expr_cooked branch ++ optional_cooked otherwise)
    conditional_cooks condition branch None' h k m = no_more (joined h k)
    conditional_cooks condition branch (Some' p other) h k m = joined (joined h k) (expression_cooks other m)

    join_cooks : (lhs : OptionalExpression) (operator : Token) (rhs : Expression) → IsFilledOptional expander P lhs → Cook (expr_literals (expr_of rhs)) (expr_cooked rhs)
        → Cook (expr_literals (join_of lhs (tok_of operator) (expr_of rhs))) (optional_cooked lhs ++ expr_cooked rhs)
    join_cooks None' operator rhs h k = k
    join_cooks (Some' p lhs) operator rhs h k = joined (expression_cooks lhs h) k

    row_cooks : {n : _} (es : ExpressionRow n) → AreFilledExpressions expander P es → Cook (exprs_literals (exprs_of_row es)) (exprs_cooked es)
    row_cooks row_end h = none_cook
    row_cooks (row_more e others) h = joined (expression_cooks e h.0) (row_cooks others h.1)

    format_cooks : (start : strings.StringLiteral) {n : _} (es : FormatRow n) → IsFilledPart P (kind_of (lexeme_of start.token)) (first_part es) start → AreFilledParts expander P (kind_of (lexeme_of start.token)) es
        → Cook (expr_literals (format_of (tok_of start.token) es)) (string_bytes start.cooked ∷ parts_cooked es)
    format_cooks start format_row_end h k = record { are = (h.is.cooked, tt) }
    format_cooks start (format_row_more e literal others) h k = record { are = (h.is.cooked, (joined (expression_cooks e k.0) (parts_cook start.token literal others k.1 k.2)).are) }

    parts_cook : (start : Token) (literal : strings.StringLiteral) {n : _} (es : FormatRow n) → IsFilledPart P (kind_of (lexeme_of start)) (later_part es) literal → AreFilledParts expander P (kind_of (lexeme_of start)) es
        → Cook (parts_literals (tok_of start) (parts_of_row (part_tok literal) es)) (string_bytes literal.cooked ∷ parts_cooked es)
    parts_cook start literal format_row_end h k = record { are = (later_text start literal format_parts.End refl h.is, tt) }
    parts_cook start literal (format_row_more e next others) h k =
        record { are = (later_text start literal format_parts.Continue refl h.is, (joined (expression_cooks e k.0) (parts_cook start next others k.1 k.2)).are) }

  literals_cook : (ls : List strings.StringLiteral) → All (IsFilledLiteral expander P) ls → Cook (flat_map quoted_literals (map quoted ls)) (flat_map literal_cooked ls)
  literals_cook = each_cooks (IsFilledLiteral expander P) quoted quoted_literals literal_cooked literal_cooks

  -- an expression in a box
  abbrev boxed_tree : Box Expression → Expr Tok Tok
  boxed_tree e = expr_of e.value

  value_cooks : (o : Option (Box Expression)) → IfSome o (IsFilledBoxed expander P) → Cook (optional_literals expr_literals (option_map boxed_tree o)) (optional boxed_cooked o)
  value_cooks None h = none_cook
  value_cooks (Some e) h = expression_cooks e.value h

  property_cooks : (o : Option (Name × Box Expression)) → IfSome o (IsFilledProperty expander P)
      → Cook (optional_literals (λ p. expr_literals p.value) (option_map (property_by expr_of literal_tok tok_of) o)) (optional property_cooked o)
  property_cooks None h = none_cook
  property_cooks (Some p) h = expression_cooks p.1.value h.1

  option_cooks : (key : Option Name) (o : Option strings.StringLiteral) → IsFilledOption expander P key o → Cook (option_literals (option_by expr_of literal_tok tok_of key o)) (option_cooked key o)
  option_cooks None (Some l) h = literal_cooks l h
  option_cooks key o h = none_cook

  form_cooks : (kind : AttributeKind) (f : Form) → IsFilledForm expander P f → Cook (attribute_literals (formed_by expr_of literal_tok tok_of kind f)) (form_cooked f)
  form_cooks kind (forms.Arg flag help help_property long long_key max max_key min min_key multiple name pattern short short_key value) h =
      joined
      (joined (joined (joined (joined (literal_cooks name h.6) (option_cooks long_key long h.2)) (option_cooks short_key short h.8)) (property_cooks pattern h.7)) (value_cooks value h.9))
      (property_cooks help_property h.1)
  form_cooks kind (forms.Cache extra inputs outputs) h = joined (joined (value_cooks extra h.0) (value_cooks inputs h.1)) (value_cooks outputs h.2)
  form_cooks kind (forms.Env key value) h = joined (expression_cooks key.value h.0) (expression_cooks value.value h.1)
  form_cooks kind (forms.Literal literal) h = literal_cooks literal h
  form_cooks kind (forms.Literals given) h = literals_cook given h
  form_cooks kind (forms.Optional (Some e)) h = expression_cooks e.value h
  form_cooks kind (forms.Script (Some i)) h = joined (literal_cooks i.command h.0) (literals_cook i.arguments.items h.1)
  form_cooks kind (forms.Single value) h = expression_cooks value.value h
  form_cooks kind _ h = none_cook

  abbrev IsGivenPair : Pair → Type 0
  IsGivenPair p = P p.1.name.token × IsFilledAttribute expander P p.0 × HasDerivedAttributeFields p.0

  pairs_cook : (pairs : List Pair) → All IsGivenPair pairs → Cook (entries_literals (map entry_of pairs)) (flat_map attribute_cooked (firsts pairs))
  pairs_cook [] all = none_cook
  pairs_cook (p ∷ ps) all = joined (form_cooks (case_kind p.0) (form_of p.0) (All-head IsGivenPair p ps all).1) (pairs_cook ps (All-tail IsGivenPair p ps all))

  set_cooks : (set : AttributeSet) → AreFilledAttributes expander P set → Cook (entries_literals (entries_of set)) (attributes_cooked set)
  set_cooks set = pairs_cook (written_of set)

  expressions_cook : (es : List Expression) → All (IsFilledExpression expander P) es → Cook (exprs_literals (exprs_of es)) (flat_map expr_cooked es)
  expressions_cook [] all = none_cook
  expressions_cook (e ∷ es) all =
      joined (expression_cooks e (All-head (IsFilledExpression expander P) e es all)) (expressions_cook es (All-tail (IsFilledExpression expander P) e es all))

  command_cooks : (i : Interpreter Expression) → IsFilledCommandLine expander P i
      → Cook (expr_literals (expr_of i.command) ++ exprs_literals (exprs_of i.arguments.items)) (interpreter_cooked i)
  command_cooks i h = joined (expression_cooks i.command h.0) (expressions_cook i.arguments.items h.1)

  content_cooks : (c : Content) → IsFilledContent expander P c → Cook (setting_literals (content_by expr_of exprs_of literal_tok c)) (content_cooked c)
  content_cooks (TruthContent value) h = none_cook
  content_cooks (ExpressionContent value) h = expression_cooks value h
  content_cooks (InterpreterContent i) h = command_cooks i h
  content_cooks (PlainContent literal) h = literal_cooks literal h
  content_cooks (IndentationContent literal indentation) h = literal_cooks literal h.0

  fragments_cook : (fs : List Fragment) → All (IsFilledFragment expander P) fs → Cook (fragments_literals (map fragment_of fs)) (flat_map fragment_cooked fs)
  fragments_cook [] all = none_cook
  fragments_cook (fragments.Interpolation e ∷ fs) all =
      joined (expression_cooks e (All-head (IsFilledFragment expander P) (fragments.Interpolation e) fs all)) (fragments_cook fs (All-tail (IsFilledFragment expander P) (fragments.Interpolation e) fs all))
  fragments_cook (fragments.Text token ∷ fs) all = fragments_cook fs (All-tail (IsFilledFragment expander P) (fragments.Text token) fs all)

  lines_cook : (ls : List Line) → All (IsFilledLine expander P) ls → Cook (body_literals (map body_line_of ls)) (flat_map line_cooked ls)
  lines_cook [] all = none_cook
  lines_cook (l ∷ ls) all = joined (fragments_cook l.fragments.items (All-head (IsFilledLine expander P) l ls all)) (lines_cook ls (All-tail (IsFilledLine expander P) l ls all))

  default_cooks : (o : Option Expression) → IfSome o (IsFilledExpression expander P) → Cook (optional_literals expr_literals (option_map expr_of o)) (default_cooked o)
  default_cooks None h = none_cook
  default_cooks (Some e) h = expression_cooks e h

  parameters_cook : (ps : List Parameter) → All (IsFilledParameter expander P) ps → Cook (flat_map parameter_literals (map parameter_of ps)) (flat_map parameter_cooked ps)
  parameters_cook = each_cooks (IsFilledParameter expander P) parameter_of parameter_literals parameter_cooked (λ p h. default_cooks p.default h.1)

  dependency_cooks : (d : UnresolvedDependency) → IsFilledDependency expander P d → Cook (dependency_literals (dependency_of d)) (dependency_cooked d)
  dependency_cooks d h =
      each_cooks (IsFilledArgument expander P) dependency_argument_of (λ a. expr_literals a.value) argument_cooked (λ a k. expression_cooks a.expression k) d.arguments.items h.1

  dependencies_cook : (ds : List UnresolvedDependency) → All (IsFilledDependency expander P) ds → Cook (flat_map dependency_literals (map dependency_of ds)) (flat_map dependency_cooked ds)
  dependencies_cook = each_cooks (IsFilledDependency expander P) dependency_of dependency_literals dependency_cooked dependency_cooks

  header_cooks : {file_depth : ℕ} {import_offsets : List ℕ} (r : UnresolvedRecipe) → IsFilledRecipe expander P file_depth import_offsets r → Cook (header_literals (header_of r)) (header_cooked r)
  header_cooks r h =
      joined
      (joined (parameters_cook r.parameters.items h.parameters) (dependencies_cook (priors_of r) (All-take (IsFilledDependency expander P) r.priors r.dependencies.items h.dependencies)))
      (dependencies_cook (subsequents_of r) (All-drop (IsFilledDependency expander P) r.priors r.dependencies.items h.dependencies))

  path_cooks : (o : Option strings.StringLiteral) → IfSome o (IsFilledLiteral expander P) → Cook (optional_literals quoted_literals (option_map quoted_of o)) (optional literal_cooked o)
  path_cooks None h = none_cook
  path_cooks (Some l) h = literal_cooks l h

  item_cooks : (file_depth : ℕ) (import_offsets : List ℕ) (i : Item) → IsFilledItem expander P file_depth import_offsets i → Cook (item_literals entries_literals (item_of i)) (item_cooked i)
  item_cooks file_depth import_offsets (Alias a) h = bare (set_cooks a.attributes h.attributes)
  item_cooks file_depth import_offsets (Assignment a) h = joined (set_cooks a.attributes h.attributes) (expression_cooks a.value h.value)
  item_cooks file_depth import_offsets (Comment text) h = none_cook
  item_cooks file_depth import_offsets (Function f) h = joined (set_cooks f.attributes h.attributes) (expression_cooks f.body h.body)
  item_cooks file_depth import_offsets (Import set optional relative) h = joined (set_cooks set h.attributes_are) (literal_cooks relative h.relative_is)
  item_cooks file_depth import_offsets (Module set doc name optional relative) h = joined (set_cooks set h.attributes_are) (path_cooks relative h.relative_is)
  item_cooks file_depth import_offsets Newline h = none_cook
  item_cooks file_depth import_offsets (Recipe r) h =
      subst (Cook (item_literals entries_literals (item_of (Recipe r)))) (sym (append_assoc (attributes_cooked r.attributes) (header_cooked r) (flat_map line_cooked r.body.items)))
      (joined (set_cooks r.attributes h.attributes) (joined (header_cooks r h) (lines_cook r.body.items h.body)))
  item_cooks file_depth import_offsets (Setting s) h = joined (set_cooks s.attributes h.attributes) (content_cooks (content_of s.value) h.value)
  item_cooks file_depth import_offsets (Unexport set name) h = bare (set_cooks set h.attributes_are)

  -- the texts of the items' literals are theirs
  pub items_cook : (file_depth : ℕ) (import_offsets : List ℕ) (items : List Item) → All (IsFilledItem expander P file_depth import_offsets) items → Cook (items_literals entries_literals (map item_of items)) (flat_map item_cooked items)
  items_cook file_depth import_offsets [] all = none_cook
  items_cook file_depth import_offsets (i ∷ items) all =
      joined (item_cooks file_depth import_offsets i (All-head (IsFilledItem expander P file_depth import_offsets) i items all))
      (items_cook file_depth import_offsets items (All-tail (IsFilledItem expander P file_depth import_offsets) i items all))
