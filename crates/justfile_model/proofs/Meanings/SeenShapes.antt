-- Attributes of a tree and of its shape have the same content keys, the same meaning and order, and break the same rules.
use Rattle.std.proofs.Common.{◌≡◌, ◌∙◌, ℕ, Bool, true, false, List, [], ◌∷◌, map, Option, Some, None, codes, refl, sym, ap}
use Rattle.std.proofs.lemmas.List.Elements.{All-from_recursion}
use Rattle.std.specs.List.{AllByRecursion}
use Rattle.std.specs.Option.{option_map}
use denote.Enum.Declared.{tag_of}
use Rattle.justfile_vocabulary.specs.contracts.attribute_kind.AttributeKind as attribute_kinds
use Rattle.justfile_vocabulary.specs.declared.token_kind.TokenKind.{TokenKind}
use Rattle.justfile_vocabulary.specs.declared.token_kind.TokenKind.TheVariants as kinds
use Rattle.justfile_model.specs.Meanings.AttributeKinds.{TextsForm, ApartForm, RowForm, CommandForm, is_optional, kind_form}
use Rattle.justfile_model.specs.Trees.ConditionalOperator.{operator_sign}
use Rattle.justfile_model.specs.Grammars.Conditions.{VersionNumbers}
use Rattle.justfile_model.specs.Meanings.ConstructRules.{construct_broken}
use Rattle.justfile_model.specs.Trees.ContentKeys.{name_key, position_key, literal_key, expr_key, exprs_keys, parts_keys, quoted_key, option_name_key, word_key, own_name_key, property_key, bound_number_key, bound_word_key, rules_keys, texts_keys, single_keys, attribute_keys, attribute_key, entry_cmp}
use Rattle.justfile_model.specs.Trees.ContentLeaf.{ContentLeaf, LiteralContent, token, literal, literal_value, operator, text, unseen, content_cmp}
use Rattle.justfile_model.specs.Grammars.Expressions.{operator_kind}
use Rattle.justfile_model.specs.Trees.ExpressionCases.{case_node}
use Rattle.justfile_model.specs.Trees.Key.{Key, leaf, node, end, next, sequence, keys_of, absent_key, present_key, option_key, key_cmp}
use Rattle.justfile_model.specs.declared.expression_case.ExpressionCase.TheVariants as cases
use Rattle.justfile_model.specs.LiteralTexts.Literals as literals
use Rattle.justfile_model.specs.LiteralTexts.Literals.{Literal, Expansions, over_literal, string_of, token_of}
use Rattle.justfile_model.specs.Meanings.Meaning.{◌>>=◌, all_of, quoted, entry_of, entries_of}
use Rattle.justfile_model.specs.Lists.Order.{in_order}
use Rattle.justfile_model.specs.Meanings.Rules.{over_broken}
use Rattle.justfile_model.specs.Trees.LeafView.{LeafView, or_empty, views_tokens, views_lexemes}
use Rattle.justfile_model.specs.Lexing.Tok.{Tok}
use Rattle.justfile_model.specs.Trees.Tree as tree
use Rattle.justfile_model.specs.Trees.Tree.{Expr, Exprs, Parts, Quoted, WrittenAttribute, OptionName, Property, Bound, ArgumentRules, Attribute, Entry, Content, over_expr, over_exprs, over_parts, over_quoted, over_option, over_property, over_bound, over_rules, over_attribute, over_entry, over_written_attribute, over_content, lexeme, nothing}
use Rattle.justfile_model.proofs.Derivations.Kinded.{IsSpelled, IsName, KindedExpr, KindedExprs, KindedParts, KindedWritten}
use Rattle.justfile_model.proofs.Lists.OrderMaps.{in_order_map_where}
use Rattle.justfile_model.proofs.Lists.Binds.{of_some_is, never_some}
use Rattle.justfile_model.proofs.Meanings.MeaningParts.{InOption, InBare, InProperty, InBound, InValue, InRules, InMeaning, entries_in}
use Rattle.justfile_model.proofs.Relations.Graph.{SameView, all_over}
use Rattle.justfile_model.proofs.Meanings.SameViewRecipes.{construct_broken_over}
use Rattle.justfile_model.proofs.Meanings.SameViewRules.{kind_over}

module _ (expander : Expansions) where
  abbrev tokens : LeafView Tok Tok
  tokens = views_tokens expander

  abbrev lexemes : LeafView (List ℕ) (Unit {0})
  lexemes = views_lexemes expander

  same_cooked : (l : Literal Tok) → lexemes.cooked (over_literal lexeme l) ≡ tokens.cooked l
  same_cooked (literals.Plain t) = refl
  same_cooked _ = refl

  same_value : (l : Literal Tok) → literal_value (lexemes.literal_content (over_literal lexeme l)) ≡ literal_value (tokens.literal_content l)
  same_value (literals.Plain t) = refl
  same_value _ = refl

  -- a shape is seen as the tree is
  pub seen : SameView lexeme nothing tokens lexemes
  seen = record { bytes = λ t. refl; place = λ t. refl; cooked = same_cooked; value = same_value }

  -- ---- keys of expressions

  position_seen : (kind : TokenKind) (word : List ℕ) (t : Tok) → IsSpelled kind word t → position_key tokens kind word t ≡ position_key lexemes kind word tt
  position_seen kind word t h = λ i. leaf (token (record { kind = h.kind_is i; lexeme = h.lexeme_is i }))

  name_seen : (t : Tok) → t.kind ≡ kinds.Identifier → name_key tokens t ≡ name_key lexemes t.lexeme
  name_seen t h = λ i. leaf (token (record { kind = h i; lexeme = t.lexeme }))

  -- a literal with this content, but for the kind of its token
  abbrev of_kind : LiteralContent → TokenKind → Key ContentLeaf
  of_kind c kind =
      leaf (literal (record { cooked = c.cooked; expand = c.expand; kind = c.kind; part = c.part; token = record { kind = kind; lexeme = c.token.lexeme } }))

  literal_seen : (l : Literal Tok) → (token_of l).kind ≡ (lexemes.literal_content (over_literal lexeme l)).token.kind
      → literal_key tokens l ≡ literal_key lexemes (over_literal lexeme l)
  literal_seen (literals.Plain t) h = ap (of_kind (tokens.literal_content (literals.Plain t))) h
  literal_seen l h = ap (of_kind (tokens.literal_content l)) h

  string_seen : (expanded : Bool) (t : Tok) → t.kind ≡ kinds.StringToken
      → literal_key tokens (string_of expanded t) ≡ literal_key lexemes (string_of expanded t.lexeme)
  string_seen true t h = literal_seen (literals.Expanded t) h
  string_seen false t h = literal_seen (literals.Plain t) h

  mutual
    pub expr_seen : (e : Expr Tok Tok) → KindedExpr e → expr_key tokens e ≡ expr_key lexemes (over_expr lexeme nothing e)
    expr_seen (tree.Or l r) h = λ i. case_node cases.Or (next (expr_seen l h.0 i) (next (expr_seen r h.1 i) end))
    expr_seen (tree.And l r) h = λ i. case_node cases.And (next (expr_seen l h.0 i) (next (expr_seen r h.1 i) end))
    expr_seen (tree.Comparison l o t r) h =
        λ i. case_node cases.Comparison
        (next (expr_seen l h.0 i) (next (leaf (operator o)) (next (expr_seen r h.2 i) (next (position_seen (operator_kind o) (operator_sign o) t h.1 i) end))))
    expr_seen (tree.Concatenation l t r) h =
        λ i. case_node cases.Concatenation (next (expr_seen l h.0 i) (next (position_seen kinds.Plus (codes "+") t h.1 i) (next (expr_seen r h.2 i) end)))
    expr_seen (tree.ListConcatenation l t r) h =
        λ i. case_node cases.ListConcatenation (next (expr_seen l h.0 i) (next (position_seen kinds.PlusPlus (codes "++") t h.1 i) (next (expr_seen r h.2 i) end)))
    expr_seen (tree.Join l t r) h =
        λ i. case_node cases.Join (next (present_key (expr_seen l h.0 i)) (next (position_seen kinds.Slash (codes "/") t h.1 i) (next (expr_seen r h.2 i) end)))
    expr_seen (tree.Root t r) h =
        λ i. case_node cases.Join (next absent_key (next (position_seen kinds.Slash (codes "/") t h.0 i) (next (expr_seen r h.1 i) end)))
    expr_seen (tree.If c b) h = λ i. case_node cases.Conditional (next (expr_seen c h.0 i) (next (expr_seen b h.1 i) (next absent_key end)))
    expr_seen (tree.IfElse c b o) h =
        λ i. case_node cases.Conditional (next (expr_seen c h.0 i) (next (expr_seen b h.1 i) (next (present_key (expr_seen o h.2 i)) end)))
    expr_seen (tree.Not e) h = λ i. case_node cases.Not (next (expr_seen e h i) end)
    expr_seen (tree.StringLiteral expanded t) h = λ i. case_node cases.StringLiteral (next (string_seen expanded t h i) end)
    expr_seen (tree.FormatLiteral t) h = λ i. case_node cases.FormatString (next (literal_seen (literals.Single t) h i) (next (sequence end) end))
    expr_seen (tree.FormatString start e parts) h =
        λ i. case_node cases.FormatString
        (next (literal_seen (literals.Start start) h.0 i)
        (next (sequence (parts_seen start parts h.2 (expr_key tokens e) (expr_key lexemes (over_expr lexeme nothing e)) (expr_seen e h.1) i)) end))
    expr_seen (tree.Backtick t) h =
        λ i. case_node cases.Backtick (next (leaf (text (or_empty (tokens.cooked (literals.Command t))))) (next (leaf (token (record { kind = h i; lexeme = t.lexeme }))) end))
    expr_seen (tree.Assert name c) h =
        λ i. case_node cases.Assert (next (expr_seen c h.1 i) (next absent_key (next (position_seen kinds.Identifier (codes "assert") name h.0 i) end)))
    expr_seen (tree.AssertMessage name c m) h =
        λ i. case_node cases.Assert (next (expr_seen c h.1 i) (next (present_key (expr_seen m h.2 i)) (next (position_seen kinds.Identifier (codes "assert") name h.0 i) end)))
    expr_seen (tree.Variable name) h = λ i. case_node cases.Variable (next (name_seen name h i) (next (leaf unseen) end))
    expr_seen (tree.Call name arguments) h = λ i. case_node cases.Call (next (name_seen name h.0 i) (next (sequence (exprs_seen arguments h.1 i)) end))
    expr_seen (tree.Group e) h = λ i. case_node cases.Group (next (expr_seen e h i) end)
    expr_seen (tree.ListOf opener elements) h =
        λ i. case_node cases.List (next (sequence (exprs_seen elements h.1 i)) (next (position_seen kinds.BracketL (codes "[") opener h.0 i) end))

    exprs_seen : (es : Exprs Tok Tok) → KindedExprs es → exprs_keys tokens es ≡ exprs_keys lexemes (over_exprs lexeme nothing es)
    exprs_seen tree.none h = refl
    exprs_seen (tree.more e es) h = λ i. next (expr_seen e h.0 i) (exprs_seen es h.1 i)

    parts_seen : (start : Tok) (ps : Parts Tok Tok) → KindedParts ps → (k l : Key ContentLeaf) → k ≡ l
        → parts_keys tokens start k ps ≡ parts_keys lexemes start.lexeme l (over_parts lexeme nothing ps)
    parts_seen start (tree.Last t) h k l same = λ i. next (sequence (next (same i) (next (literal_seen (literals.End start t) h i) end))) end
    parts_seen start (tree.Continue t e ps) h k l same =
        λ i. next (sequence (next (same i) (next (literal_seen (literals.Continue start t) h.0 i) end)))
        (parts_seen start ps h.2 (expr_key tokens e) (expr_key lexemes (over_expr lexeme nothing e)) (expr_seen e h.1) i)

  -- ---- keys of attributes

  abbrev pub KindedQuoted : Quoted Tok → Type 0
  KindedQuoted q = q.token.kind ≡ kinds.StringToken

  -- the key of this name
  abbrev pub IsKeyOf : List ℕ → Tok → Type 0
  IsKeyOf word key = IsSpelled kinds.Identifier word key

  abbrev KindedOption : List ℕ → OptionName Tok Tok → Type 0
  KindedOption = InOption KindedExpr KindedQuoted IsKeyOf

  abbrev KindedBare : List ℕ → Option Tok → Type 0
  KindedBare = InBare KindedExpr KindedQuoted IsKeyOf

  abbrev KindedProperty : List ℕ → Option (Property Tok Tok) → Type 0
  KindedProperty = InProperty KindedExpr KindedQuoted IsKeyOf

  abbrev KindedBound : List ℕ → Option (Bound Tok) → Type 0
  KindedBound = InBound KindedExpr KindedQuoted IsKeyOf

  abbrev KindedValue : Option (Expr Tok Tok) → Type 0
  KindedValue = InValue KindedExpr KindedQuoted IsKeyOf

  abbrev KindedRules : ArgumentRules Tok Tok → Type 0
  KindedRules = InRules KindedExpr KindedQuoted IsKeyOf

  -- what an attribute of kinded tokens means
  abbrev pub KindedMeaning : Attribute Tok Tok → Type 0
  KindedMeaning = InMeaning KindedExpr KindedQuoted IsKeyOf

  quoted_seen : (q : Quoted Tok) → KindedQuoted q → quoted_key tokens q ≡ quoted_key lexemes (over_quoted {B = Tok} lexeme nothing q)
  quoted_seen q h = string_seen q.expanded q.token h

  all_quoted_seen : (qs : List (Quoted Tok)) → AllByRecursion KindedQuoted qs
      → keys_of (quoted_key tokens) qs ≡ keys_of (quoted_key lexemes) (map (over_quoted {B = Tok} lexeme nothing) qs)
  all_quoted_seen [] h = refl
  all_quoted_seen (q ∷ qs) h = λ i. next (quoted_seen q h.0 i) (all_quoted_seen qs h.1 i)

  option_name_seen : (word : List ℕ) (name : Quoted Tok) (o : OptionName Tok Tok) → KindedQuoted name → KindedOption word o
      → option_name_key tokens name o ≡ option_name_key lexemes (over_quoted {B = Tok} lexeme nothing name) (over_option lexeme nothing o)
  option_name_seen word name tree.NoOption n h = refl
  option_name_seen word name (tree.OwnName key) n h = ap present_key (quoted_seen name n)
  option_name_seen word name (tree.Named q) n h = ap present_key (quoted_seen q h)

  own_name_seen : (word : List ℕ) (o : OptionName Tok Tok) → KindedOption word o
      → own_name_key tokens word o ≡ own_name_key lexemes word (over_option lexeme nothing o)
  own_name_seen word tree.NoOption h = refl
  own_name_seen word (tree.OwnName key) h = ap present_key (position_seen kinds.Identifier word key h)
  own_name_seen word (tree.Named q) h = refl

  bare_seen : (word : List ℕ) (o : Option Tok) → KindedBare word o
      → option_key (word_key tokens word) o ≡ option_key (word_key lexemes word) (option_map nothing o)
  bare_seen word None h = refl
  bare_seen word (Some key) h = ap present_key (position_seen kinds.Identifier word key h)

  property_seen : (word : List ℕ) (o : Option (Property Tok Tok)) → KindedProperty word o
      → option_key (property_key tokens word) o ≡ option_key (property_key lexemes word) (option_map (over_property lexeme nothing) o)
  property_seen word None h = refl
  property_seen word (Some p) h = λ i. present_key (sequence (next (position_seen kinds.Identifier word p.key h.0 i) (next (expr_seen p.value h.1 i) end)))

  number_seen : (o : Option (Bound Tok)) → bound_number_key tokens o ≡ bound_number_key lexemes (option_map (over_bound lexeme nothing) o)
  number_seen None = refl
  number_seen (Some b) = refl

  bound_seen : (word : List ℕ) (o : Option (Bound Tok)) → KindedBound word o
      → bound_word_key tokens word o ≡ bound_word_key lexemes word (option_map (over_bound lexeme nothing) o)
  bound_seen word None h = refl
  bound_seen word (Some b) h = ap present_key (position_seen kinds.Identifier word b.key h)

  value_seen : (o : Option (Expr Tok Tok)) → KindedValue o
      → option_key (expr_key tokens) o ≡ option_key (expr_key lexemes) (option_map (over_expr lexeme nothing) o)
  value_seen None h = refl
  value_seen (Some e) h = ap present_key (expr_seen e h)

  rules_seen : (a : ArgumentRules Tok Tok) → KindedRules a → rules_keys tokens a ≡ rules_keys lexemes (over_rules lexeme nothing a)
  rules_seen a h =
      λ i. next (bare_seen (codes "flag") a.flag h.flag i) (next absent_key (next (property_seen (codes "help") a.help h.help i)
      (next (option_name_seen (codes "long") a.name a.long h.name h.long i) (next (own_name_seen (codes "long") a.long h.long i)
      (next (number_seen a.max i) (next (bound_seen (codes "max") a.max h.max i)
      (next (number_seen a.min i) (next (bound_seen (codes "min") a.min h.min i)
      (next (bare_seen (codes "multiple") a.multiple h.multiple i)
      (next (quoted_seen a.name h.name i) (next (property_seen (codes "pattern") a.pattern h.pattern i)
      (next (option_name_seen (codes "short") a.name a.short h.name h.short i)
      (next (own_name_seen (codes "short") a.short h.short i) (next (value_seen a.value h.value i) end))))))))))))))

  texts_seen : (form : TextsForm) (qs : List (Quoted Tok)) → AllByRecursion KindedQuoted qs
      → texts_keys tokens form qs ≡ texts_keys lexemes form (map (over_quoted {B = Tok} lexeme nothing) qs)
  texts_seen CommandForm [] h = refl
  texts_seen CommandForm (q ∷ qs) h = λ i. next (present_key (sequence (next (quoted_seen q h.0 i) (next (sequence (all_quoted_seen qs h.1 i)) end)))) end
  texts_seen RowForm qs h = λ i. next (sequence (all_quoted_seen qs h i)) end
  texts_seen ApartForm qs h = all_quoted_seen qs h

  keys_seen : (a : Attribute Tok Tok) → KindedMeaning a → attribute_keys tokens a ≡ attribute_keys lexemes (over_attribute lexeme nothing a)
  keys_seen (tree.Plain kind) h = refl
  keys_seen (tree.Single kind value) h = ap (single_keys tokens (is_optional kind)) (expr_seen value h)
  keys_seen (tree.Texts kind texts) h = texts_seen (kind_form kind).texts texts h
  keys_seen (tree.Env key value) h = λ i. next (expr_seen key h.0 i) (next (expr_seen value h.1 i) end)
  keys_seen (tree.Signals signals) h = refl
  keys_seen (tree.Cache extra inputs outputs) h = λ i. next (value_seen extra h.0 i) (next (value_seen inputs h.1 i) (next (value_seen outputs h.2 i) end))
  keys_seen (tree.Arg rules) h = rules_seen rules h

  pub attribute_seen : (a : Attribute Tok Tok) → KindedMeaning a → attribute_key tokens a ≡ attribute_key lexemes (over_attribute lexeme nothing a)
  attribute_seen a h = λ i. node (tag_of attribute_kinds.the_type (sym (kind_over lexeme (nothing {X = Tok}) a) i)) (keys_seen a h i)

  abbrev pub KindedEntry : Entry Tok Tok → Type 0
  KindedEntry e = KindedMeaning e.attribute

  pub entry_cmp_seen : (d e : Entry Tok Tok) → KindedEntry d → KindedEntry e
      → entry_cmp lexemes (over_entry lexeme nothing d) (over_entry lexeme nothing e) ≡ entry_cmp tokens d e
  entry_cmp_seen d e h k = λ i. key_cmp content_cmp (sym (attribute_seen d.attribute h) i) (sym (attribute_seen e.attribute k) i)

  -- ---- what kinded attributes mean

  quoted_kinded : (e : Expr Tok Tok) (q : Quoted Tok) → KindedExpr e → quoted e ≡ Some q → KindedQuoted q
  quoted_kinded (tree.StringLiteral expanded t) q h e = of_some_is KindedQuoted (record { expanded = expanded; token = t }) q e h
  quoted_kinded _ q h e = never_some q e

  key_spelled : (word : List ℕ) (key : Tok) → IsName key → key.lexeme ≡ word → IsKeyOf word key
  key_spelled word key h e = record { kind_is = h; lexeme_is = e }

  pub entries_kinded : (ws : List (WrittenAttribute Tok Tok)) (es : List (Entry Tok Tok)) → KindedWritten ws → all_of (entry_of tokens) ws ≡ Some es
      → AllByRecursion KindedEntry es
  entries_kinded = entries_in KindedExpr KindedQuoted IsKeyOf IsName tokens quoted_kinded key_spelled

  -- ---- the laws

  -- attributes of kinded tokens mean over the shape what they mean over the tree, in the same order
  pub entries_seen : (ws : List (WrittenAttribute Tok Tok)) → KindedWritten ws
      → entries_of lexemes (map (over_written_attribute lexeme nothing) ws) ≡ option_map (map (over_entry lexeme nothing)) (entries_of tokens ws)
  entries_seen ws h = ap (λ o. o >>= (λ es. Some (in_order (entry_cmp lexemes) es))) (all_over seen ws) ∙ go (all_of (entry_of tokens) ws) refl
    where
      go : (o : Option (List (Entry Tok Tok))) → all_of (entry_of tokens) ws ≡ o
          → (option_map (map (over_entry lexeme nothing)) o >>= (λ es. Some (in_order (entry_cmp lexemes) es)))
          ≡ option_map (map (over_entry lexeme nothing)) (o >>= (λ es. Some (in_order (entry_cmp tokens) es)))
      go None e = refl
      go (Some es) e = ap Some (in_order_map_where (entry_cmp tokens) (entry_cmp lexemes) (over_entry lexeme nothing) KindedEntry entry_cmp_seen es
          (All-from_recursion KindedEntry es (entries_kinded ws es h e)))

  pub construct_broken_seen : {C C' : Type 0} (current : VersionNumbers) (h : C → C') (ws : List (WrittenAttribute Tok Tok)) (content : Content Tok Tok C Tok) → KindedWritten ws
      → construct_broken current lexemes (map (over_written_attribute lexeme nothing) ws) (over_content lexeme nothing h nothing content)
      ≡ map (over_broken nothing) (construct_broken current tokens ws content)
  construct_broken_seen current h ws content kinded = construct_broken_over seen current h ws content (entries_seen ws kinded)
