-- Related attributes, by their written form and by their meaning. If the views of related leaves are the same, related attributes have the
-- same content keys and the same order.
use Rattle.std.proofs.Common.{◌≡◌, ℕ, Bool, true, false, List, codes, Option, refl, subst}
use denote.Enum.Declared.{tag_of}
use Rattle.justfile_vocabulary.specs.contracts.attribute_kind.AttributeKind as attribute_kinds
use Rattle.justfile_vocabulary.specs.declared.attribute_kind.AttributeKind.{AttributeKind}
use Rattle.justfile_vocabulary.specs.declared.signal.Signal.{Signal}
use Rattle.justfile_vocabulary.specs.declared.token_kind.TokenKind.{TokenKind}
use Rattle.justfile_vocabulary.specs.declared.token_kind.TokenKind.TheVariants as kinds
use Rattle.justfile_model.specs.Meanings.AttributeKinds.{TextsForm, ApartForm, RowForm, CommandForm, is_optional, kind_form}
use Rattle.justfile_model.specs.Trees.ConditionalOperator.{operator_sign}
use Rattle.justfile_model.specs.Trees.ContentKeys.{attribute_key, attribute_keys, bound_number_key, bound_word_key, entry_cmp, expr_key, exprs_keys, kind_of_attribute, literal_key, option_name_key, own_name_key, parts_keys, property_key, quoted_key, rules_keys, single_keys, texts_keys, word_key}
use Rattle.justfile_model.specs.Trees.ContentLeaf.{ContentLeaf, content_cmp, count, literal, literal_value, operator, text, token, unseen}
use Rattle.justfile_model.specs.Grammars.Expressions.{operator_kind}
use Rattle.justfile_model.specs.Trees.ExpressionCases.{case_node}
use Rattle.justfile_model.specs.Trees.Key.{Key, absent_key, end, key_cmp, keys_of, leaf, next, node, option_key, present_key, sequence}
use Rattle.justfile_model.specs.declared.expression_case.ExpressionCase.TheVariants as cases
use Rattle.justfile_model.specs.LiteralTexts.Literals as literals
use Rattle.justfile_model.specs.LiteralTexts.Literals.{Literal, string_of}
use Rattle.justfile_model.specs.Meanings.Meaning.{KeyArgument, PositionalArgument, by_key, by_position, quoted}
use Rattle.justfile_model.specs.Lists.Order.{in_order}
use Rattle.justfile_model.specs.Trees.LeafView.{LeafView, or_empty}
use Rattle.justfile_model.specs.Trees.Tree as tree
use Rattle.justfile_model.specs.Trees.Tree.{Argument, ArgumentRules, Attribute, Bound, Entry, Expr, Exprs, OptionName, Parts, Property, Quoted, WrittenAttribute}
use Rattle.justfile_model.proofs.Lists.OrderMaps.{each_in_order}
use Rattle.justfile_model.proofs.Relations.Related as a
use Rattle.justfile_model.proofs.Relations.Related.{Alike, AlikeAll, AlikeOption, AlikeParts, Each, Relations, absent, present}
pub use Rattle.justfile_model.proofs.Relations.Related.{AlikeArgumentRules, AlikeBound, AlikeOptionName, AlikeProperty, AlikeQuoted, no_option, option_named, own_name}

module _ {R T A B S D R' T' A' B' S' D' : Type 0} (rel : Relations R T A B S D R' T' A' B' S' D') where
  -- ---- what is alike

  -- a literal by how it is read
  pub data AlikeLiteral : Literal A → Literal A' → Type 0 where
    plain_literal : {lexeme : List ℕ} {l : A} {l' : A'} → rel.literal (literals.Plain lexeme) l l' → AlikeLiteral (literals.Plain l) (literals.Plain l')
    expanded_literal : {lexeme : List ℕ} {l : A} {l' : A'} → rel.literal (literals.Expanded lexeme) l l'
        → AlikeLiteral (literals.Expanded l) (literals.Expanded l')
    command_literal : {lexeme : List ℕ} {l : A} {l' : A'} → rel.literal (literals.Command lexeme) l l' → AlikeLiteral (literals.Command l) (literals.Command l')
    single_literal : {lexeme : List ℕ} {l : A} {l' : A'} → rel.literal (literals.Single lexeme) l l' → AlikeLiteral (literals.Single l) (literals.Single l')
    start_literal : {lexeme : List ℕ} {l : A} {l' : A'} → rel.literal (literals.Start lexeme) l l' → AlikeLiteral (literals.Start l) (literals.Start l')
    continue_literal : {start lexeme : List ℕ} {s l : A} {s' l' : A'} → rel.literal (literals.Start start) s s'
        → rel.literal (literals.Continue start lexeme) l l'
        → AlikeLiteral (literals.Continue s l) (literals.Continue s' l')
    end_literal : {start lexeme : List ℕ} {s l : A} {s' l' : A'} → rel.literal (literals.Start start) s s' → rel.literal (literals.End start lexeme) l l'
        → AlikeLiteral (literals.End s l) (literals.End s' l')

  pub data AlikeArgument : Argument A B → Argument A' B' → Type 0 where
    positional : {b : B} {b' : B'} {e : Expr A B} {e' : Expr A' B'} → rel.position b b' → Alike rel e e'
        → AlikeArgument (tree.Positional b e) (tree.Positional b' e')
    bare : {k : A} {k' : A'} → rel.name k k' → AlikeArgument (tree.Bare k) (tree.Bare k')
    keyed : {k : A} {k' : A'} {e : Expr A B} {e' : Expr A' B'} → rel.name k k' → Alike rel e e' → AlikeArgument (tree.Keyed k e) (tree.Keyed k' e')

  pub record AlikeWritten (w : WrittenAttribute A B) (w' : WrittenAttribute A' B') : Type 0 where
    pub name : rel.name w.name w'.name
    pub arguments : Each AlikeArgument w.arguments w'.arguments
    pub comment : w.comment ≡ w'.comment

  -- an argument by position, and one with a key

  pub record AlikePositional (p : PositionalArgument A B) (p' : PositionalArgument A' B') : Type 0 where
    pub first : rel.position p.first p'.first
    pub value : Alike rel p.value p'.value

  pub record AlikeKey (k : KeyArgument A B) (k' : KeyArgument A' B') : Type 0 where
    pub key : rel.name k.key k'.key
    pub value : AlikeOption (Alike rel) k.value k'.value

  pub data AlikeAttribute : Attribute A B → Attribute A' B' → Type 0 where
    plain : (kind : AttributeKind) → AlikeAttribute (tree.Plain kind) (tree.Plain kind)
    single : (kind : AttributeKind) {e : Expr A B} {e' : Expr A' B'} → Alike rel e e' → AlikeAttribute (tree.Single kind e) (tree.Single kind e')
    texts : (kind : AttributeKind) {qs : List (Quoted A)} {qs' : List (Quoted A')} → Each (AlikeQuoted rel) qs qs'
        → AlikeAttribute (tree.Texts kind qs) (tree.Texts kind qs')
    env : {k v : Expr A B} {k' v' : Expr A' B'} → Alike rel k k' → Alike rel v v' → AlikeAttribute (tree.Env k v) (tree.Env k' v')
    signals : (given : List Signal) → AlikeAttribute (tree.Signals given) (tree.Signals given)
    cache : {x i o : Option (Expr A B)} {x' i' o' : Option (Expr A' B')} → AlikeOption (Alike rel) x x' → AlikeOption (Alike rel) i i'
        → AlikeOption (Alike rel) o o'
        → AlikeAttribute (tree.Cache x i o) (tree.Cache x' i' o')
    arg : {r : ArgumentRules A B} {r' : ArgumentRules A' B'} → AlikeArgumentRules rel r r' → AlikeAttribute (tree.Arg r) (tree.Arg r')

  pub record AlikeEntry (e : Entry A B) (e' : Entry A' B') : Type 0 where
    pub name : rel.position e.name e'.name
    pub attribute : AlikeAttribute e.attribute e'.attribute
    pub comment : e.comment ≡ e'.comment

  -- what is seen of related leaves is the same, and their places are related
  pub record SeesAlike (view : LeafView A B) (view' : LeafView A' B') : Type 0 where
    pub bytes : (n : A) (n' : A') → rel.name n n' → view.bytes n ≡ view'.bytes n'
    pub name_place : (n : A) (n' : A') → rel.name n n' → rel.position (view.place n) (view'.place n')
    pub literal_bytes : (l : Literal (List ℕ)) (t : A) (t' : A') → rel.literal l t t' → view.bytes t ≡ view'.bytes t'
    pub literal_place : (l : Literal (List ℕ)) (t : A) (t' : A') → rel.literal l t t' → rel.position (view.place t) (view'.place t')
    pub assignment_place : (number : ℕ) (n : A) (n' : A') → rel.assignment number n n' → rel.position (view.place n) (view'.place n')
    pub parameter_bytes : (number : ℕ) (n : A) (rules : Option (ArgumentRules A B)) (n' : A') (rules' : Option (ArgumentRules A' B'))
        → rel.parameter number n rules n' rules' → view.bytes n ≡ view'.bytes n'
    pub cooked : (l : Literal A) (l' : Literal A') → AlikeLiteral l l' → view.cooked l ≡ view'.cooked l'
    pub value : (l : Literal A) (l' : Literal A') → AlikeLiteral l l' → literal_value (view.literal_content l) ≡ literal_value (view'.literal_content l')

  -- so is their content, by which attributes are ordered
  pub record SeesContent (view : LeafView A B) (view' : LeafView A' B') : Type 0 where
    pub cooked : (l : Literal A) (l' : Literal A') → AlikeLiteral l l' → view.cooked l ≡ view'.cooked l'
    pub name_content : (n : A) (n' : A') → rel.name n n' → view.leaf_content kinds.Identifier n ≡ view'.leaf_content kinds.Identifier n'
    pub command_content : (lexeme : List ℕ) (t : A) (t' : A') → rel.literal (literals.Command lexeme) t t'
        → view.leaf_content kinds.Backtick t ≡ view'.leaf_content kinds.Backtick t'
    pub position_content : (kind : TokenKind) (spelled : List ℕ) (b : B) (b' : B') → rel.position b b'
        → view.position_content kind spelled b ≡ view'.position_content kind spelled b'
    pub literal_content : (l : Literal A) (l' : Literal A') → AlikeLiteral l l' → view.literal_content l ≡ view'.literal_content l'

  pub string_alike : (expanded : Bool) (lexeme : List ℕ) {l : A} {l' : A'} → rel.literal (string_of expanded lexeme) l l'
      → AlikeLiteral (string_of expanded l) (string_of expanded l')
  string_alike true lexeme h = expanded_literal h
  string_alike false lexeme h = plain_literal h

  pub quoted_literal : {q : Quoted A} {q' : Quoted A'} → AlikeQuoted rel q q' → AlikeLiteral (string_of q.expanded q.token) (string_of q'.expanded q'.token)
  quoted_literal {q} {q'} h =
      subst (λ b. AlikeLiteral (string_of q.expanded q.token) (string_of b q'.token)) h.expanded (string_alike q.expanded h.lexeme h.token)

  pub same_kind : {x : Attribute A B} {x' : Attribute A' B'} → AlikeAttribute x x' → kind_of_attribute x ≡ kind_of_attribute x'
  same_kind (plain kind) = refl
  same_kind _ = refl

  pub quoted_alike : {e : Expr A B} {e' : Expr A' B'} → Alike rel e e' → AlikeOption (AlikeQuoted rel) (quoted e) (quoted e')
  quoted_alike (a.string lexeme l) = present (record { expanded = refl; lexeme = lexeme; token = l })
  quoted_alike (a.or l r) = absent
  quoted_alike _ = absent

  pub positions_alike : {xs : List (Argument A B)} {xs' : List (Argument A' B')} → Each AlikeArgument xs xs'
      → Each AlikePositional (by_position xs) (by_position xs')
  positions_alike a.nil = a.nil
  positions_alike (a.cons (positional b e) hs) = a.cons (record { first = b; value = e }) (positions_alike hs)
  positions_alike (a.cons (bare k) hs) = positions_alike hs
  positions_alike (a.cons (keyed k e) hs) = positions_alike hs

  pub keys_alike : {xs : List (Argument A B)} {xs' : List (Argument A' B')} → Each AlikeArgument xs xs' → Each AlikeKey (by_key xs) (by_key xs')
  keys_alike a.nil = a.nil
  keys_alike (a.cons (positional b e) hs) = keys_alike hs
  keys_alike (a.cons (bare k) hs) = a.cons (record { key = k; value = absent }) (keys_alike hs)
  keys_alike (a.cons (keyed k e) hs) = a.cons (record { key = k; value = present e }) (keys_alike hs)

  -- ---- keys of content

  module _ (view : LeafView A B) (view' : LeafView A' B') (sees : SeesContent view view') where
    literal_is : {l : Literal A} {l' : Literal A'} → AlikeLiteral l l' → literal_key view l ≡ literal_key view' l'
    literal_is {l} {l'} h i = leaf (literal (sees.literal_content l l' h i))

    name_is : {n : A} {n' : A'} → rel.name n n'
        → ◌≡◌ {A = Key ContentLeaf} (leaf (token (view.leaf_content kinds.Identifier n))) (leaf (token (view'.leaf_content kinds.Identifier n')))
    name_is {n} {n'} h i = leaf (token (sees.name_content n n' h i))

    position_is : (kind : TokenKind) (spelled : List ℕ) {b : B} {b' : B'} → rel.position b b'
        → ◌≡◌ {A = Key ContentLeaf} (leaf (token (view.position_content kind spelled b))) (leaf (token (view'.position_content kind spelled b')))
    position_is kind spelled {b} {b'} h i = leaf (token (sees.position_content kind spelled b b' h i))

    command_is : (lexeme : List ℕ) {t : A} {t' : A'} → rel.literal (literals.Command lexeme) t t'
        → ◌≡◌ {A = Key ContentLeaf} (case_node cases.Backtick (next (leaf (text (or_empty (view.cooked (literals.Command t)))))
        (next (leaf (token (view.leaf_content kinds.Backtick t))) end)))
        (case_node cases.Backtick (next (leaf (text (or_empty (view'.cooked (literals.Command t'))))) (next (leaf (token (view'.leaf_content kinds.Backtick t'))) end)))
    command_is lexeme {t} {t'} h i =
        case_node cases.Backtick (next (leaf (text (or_empty (sees.cooked (literals.Command t) (literals.Command t') (command_literal h) i))))
        (next (leaf (token (sees.command_content lexeme t t' h i))) end))

    mutual
      pub same_key : {e : Expr A B} {e' : Expr A' B'} → Alike rel e e' → expr_key view e ≡ expr_key view' e'
      same_key (a.or l r) = λ i. case_node cases.Or (next (same_key l i) (next (same_key r i) end))
      same_key (a.and l r) = λ i. case_node cases.And (next (same_key l i) (next (same_key r i) end))
      same_key (a.comparison {by =
          by} l b r) = λ i. case_node cases.Comparison (next (same_key l i) (next (leaf (operator by))
          (next (same_key r i) (next (position_is (operator_kind by) (operator_sign by) b i) end))))
      same_key (a.concatenation l b r) =
          λ i. case_node cases.Concatenation (next (same_key l i) (next (position_is kinds.Plus (codes "+") b i) (next (same_key r i) end)))
      same_key (a.list_concatenation l b r) =
          λ i. case_node cases.ListConcatenation (next (same_key l i) (next (position_is kinds.PlusPlus (codes "++") b i) (next (same_key r i) end)))
      same_key (a.join l b r) =
          λ i. case_node cases.Join (next (present_key (same_key l i)) (next (position_is kinds.Slash (codes "/") b i) (next (same_key r i) end)))
      same_key (a.root b r) = λ i. case_node cases.Join (next absent_key (next (position_is kinds.Slash (codes "/") b i) (next (same_key r i) end)))
      same_key (a.if_only c e) = λ i. case_node cases.Conditional (next (same_key c i) (next (same_key e i) (next absent_key end)))
      same_key (a.if_else c e o) =
          λ i. case_node cases.Conditional (next (same_key c i) (next (same_key e i) (next (present_key (same_key o i)) end)))
      same_key (a.not e) = λ i. case_node cases.Not (next (same_key e i) end)
      same_key (a.string {expanded =
          expanded} lexeme l) = λ i. case_node cases.StringLiteral (next (literal_is (string_alike expanded lexeme l) i) end)
      same_key (a.format_literal lexeme l) = λ i. case_node cases.FormatString (next (literal_is (single_literal l) i) (next (sequence end) end))
      same_key (a.format_string lexeme l e ps) =
          λ i. case_node cases.FormatString (next (literal_is (start_literal l) i) (next (sequence (same_parts l (same_key e) ps i)) end))
      same_key (a.backtick lexeme l) = command_is lexeme l
      same_key (a.assert b c) =
          λ i. case_node cases.Assert (next (same_key c i) (next absent_key (next (position_is kinds.Identifier (codes "assert") b i) end)))
      same_key (a.assert_message b c m) =
          λ i. case_node cases.Assert (next (same_key c i) (next (present_key (same_key m i)) (next (position_is kinds.Identifier (codes "assert") b i) end)))
      same_key (a.variable n) = λ i. case_node cases.Variable (next (name_is n i) (next (leaf unseen) end))
      same_key (a.call n es) = λ i. case_node cases.Call (next (name_is n i) (next (sequence (same_keys es i)) end))
      same_key (a.group e) = λ i. case_node cases.Group (next (same_key e i) end)
      same_key (a.list b es) = λ i. case_node cases.List (next (sequence (same_keys es i)) (next (position_is kinds.BracketL (codes "[") b i) end))

      pub same_keys : {es : Exprs A B} {es' : Exprs A' B'} → AlikeAll rel es es' → exprs_keys view es ≡ exprs_keys view' es'
      same_keys a.none = refl
      same_keys (a.more e es) = λ i. next (same_key e i) (same_keys es i)

      -- parts of a format string with this start, after an expression by its key
      pub same_parts : {start : List ℕ} {s : A} {s' : A'} {k k' : Key ContentLeaf} {ps : Parts A B} {ps' : Parts A' B'}
          → rel.literal (literals.Start start) s s' → k ≡ k' → AlikeParts rel start ps ps'
          → parts_keys view s k ps ≡ parts_keys view' s' k' ps'
      same_parts s k (a.last lexeme l) = λ i. next (sequence (next (k i) (next (literal_is (end_literal s l) i) end))) end
      same_parts s k (a.continue lexeme l e ps) = λ i. next (sequence (next (k i) (next (literal_is (continue_literal s l) i) end))) (same_parts s (same_key e) ps i)

    -- ---- attributes

    quoted_is : {q : Quoted A} {q' : Quoted A'} → AlikeQuoted rel q q' → quoted_key view q ≡ quoted_key view' q'
    quoted_is h = literal_is (quoted_literal h)

    each_is : {qs : List (Quoted A)} {qs' : List (Quoted A')} → Each (AlikeQuoted rel) qs qs' → keys_of (quoted_key view) qs ≡ keys_of (quoted_key view') qs'
    each_is a.nil = refl
    each_is (a.cons h hs) = λ i. next (quoted_is h i) (each_is hs i)

    option_is : {X Y : Type 0} {Q : X → Y → Type 0} (f : X → Key ContentLeaf) (g : Y → Key ContentLeaf) {o : Option X} {o' : Option Y}
        → ((x : X) (y : Y) → Q x y → f x ≡ g y) → AlikeOption Q o o'
        → option_key f o ≡ option_key g o'
    option_is f g k absent = refl
    option_is f g k (present {x = x} {y = y} q) = λ i. present_key (k x y q i)

    option_name_is : {q : Quoted A} {q' : Quoted A'} {n : OptionName A B} {n' : OptionName A' B'} → AlikeQuoted rel q q' → AlikeOptionName rel n n'
        → option_name_key view q n ≡ option_name_key view' q' n'
    option_name_is q no_option = refl
    option_name_is q (own_name k) = λ i. present_key (quoted_is q i)
    option_name_is q (option_named n) = λ i. present_key (quoted_is n i)

    own_name_is : (word : List ℕ) {n : OptionName A B} {n' : OptionName A' B'} → AlikeOptionName rel n n' → own_name_key view word n ≡ own_name_key view' word n'
    own_name_is word no_option = refl
    own_name_is word (own_name k) = λ i. present_key (position_is kinds.Identifier word k i)
    own_name_is word (option_named n) = refl

    word_is : (word : List ℕ) (b : B) (b' : B') → rel.position b b' → word_key view word b ≡ word_key view' word b'
    word_is word b b' h = position_is kinds.Identifier word h

    property_is : (word : List ℕ) (p : Property A B) (p' : Property A' B') → AlikeProperty rel p p' → property_key view word p ≡ property_key view' word p'
    property_is word p p' h = λ i. sequence (next (position_is kinds.Identifier word h.key i) (next (same_key h.value i) end))

    expression_is : (e : Expr A B) (e' : Expr A' B') → Alike rel e e' → expr_key view e ≡ expr_key view' e'
    expression_is e e' h = same_key h

    number_is : {o : Option (Bound B)} {o' : Option (Bound B')} → AlikeOption (AlikeBound rel) o o' → bound_number_key view o ≡ bound_number_key view' o'
    number_is h = option_is _ _ (λ b b' k i. leaf (count (k.number i))) h

    bound_is : (word : List ℕ) {o : Option (Bound B)} {o' : Option (Bound B')} → AlikeOption (AlikeBound rel) o o'
        → bound_word_key view word o ≡ bound_word_key view' word o'
    bound_is word h = option_is _ _ (λ b b' k. word_is word b.key b'.key k.key) h

    rules_are : {r : ArgumentRules A B} {r' : ArgumentRules A' B'} → AlikeArgumentRules rel r r' → rules_keys view r ≡ rules_keys view' r'
    rules_are h =
        let flag = option_is _ _ (word_is (codes "flag")) h.flag in
        let help = option_is _ _ (property_is (codes "help")) h.help in
        let long = option_name_is h.name h.long in
        let own_long = own_name_is (codes "long") h.long in
        let multiple = option_is _ _ (word_is (codes "multiple")) h.multiple in
        let pattern = option_is _ _ (property_is (codes "pattern")) h.pattern in
        let short = option_name_is h.name h.short in
        let own_short = own_name_is (codes "short") h.short in
        let value = option_is _ _ expression_is h.value in
        λ i. next (flag i) (next absent_key (next (help i) (next (long i) (next (own_long i) (next (number_is h.max i) (next (bound_is (codes "max") h.max i)
        (next (number_is h.min i) (next (bound_is (codes "min") h.min i)
        (next (multiple i) (next (quoted_is h.name i) (next (pattern i) (next (short i) (next (own_short i) (next (value i) end))))))))))))))

    texts_are : (form : TextsForm) {qs : List (Quoted A)} {qs' : List (Quoted A')} → Each (AlikeQuoted rel) qs qs'
        → texts_keys view form qs ≡ texts_keys view' form qs'
    texts_are CommandForm a.nil = refl
    texts_are CommandForm (a.cons h hs) = λ i. next (present_key (sequence (next (quoted_is h i) (next (sequence (each_is hs i)) end)))) end
    texts_are RowForm h = λ i. next (sequence (each_is h i)) end
    texts_are ApartForm h = each_is h

    attribute_keys_are : {x : Attribute A B} {x' : Attribute A' B'} → AlikeAttribute x x' → attribute_keys view x ≡ attribute_keys view' x'
    attribute_keys_are (plain kind) = refl
    attribute_keys_are (single kind e) = λ i. single_keys view (is_optional kind) (same_key e i)
    attribute_keys_are (texts kind qs) = texts_are (kind_form kind).texts qs
    attribute_keys_are (env k v) = λ i. next (same_key k i) (next (same_key v i) end)
    attribute_keys_are (signals given) = refl
    attribute_keys_are (cache x i o) =
        let extra = option_is _ _ expression_is x in
        let inputs = option_is _ _ expression_is i in
        let outputs = option_is _ _ expression_is o in
        λ j. next (extra j) (next (inputs j) (next (outputs j) end))
    attribute_keys_are (arg r) = rules_are r

    pub same_attribute_key : {x : Attribute A B} {x' : Attribute A' B'} → AlikeAttribute x x' → attribute_key view x ≡ attribute_key view' x'
    same_attribute_key h = λ i. node (tag_of attribute_kinds.the_type (same_kind h i)) (attribute_keys_are h i)

    pub same_order : (d : Entry A B) (d' : Entry A' B') (e : Entry A B) (e' : Entry A' B') → AlikeEntry d d' → AlikeEntry e e'
        → entry_cmp view d e ≡ entry_cmp view' d' e'
    same_order d d' e e' h k = λ i. key_cmp content_cmp (same_attribute_key h.attribute i) (same_attribute_key k.attribute i)

    pub ordered_alike : {es : List (Entry A B)} {es' : List (Entry A' B')} → Each AlikeEntry es es'
        → Each AlikeEntry (in_order (entry_cmp view) es) (in_order (entry_cmp view') es')
    ordered_alike h = each_in_order (entry_cmp view) (entry_cmp view') (λ d e d' e' x y. same_order d d' e e' x y) h
