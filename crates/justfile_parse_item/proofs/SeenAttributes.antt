-- The attributes of the code correspond to those that the definitions read.
use Rattle.std.proofs.Common.{IfSome, ◌≡◌, ℕ, Bool, true, false, List, [], ◌∷◌, map, All, Option, Some, None, refl, sym, ap, subst, ◌∙◌}
use Rattle.std.specs.Global.{Box}
use Rattle.std.specs.Option.{option_map}
use Rattle.justfile_attribute.specs.Attribute.{bound_by, formed_by, literal_leaf, option_by, property_by, quoted_by, script_by, single_by}
use Rattle.justfile_attribute.specs.Form as forms
use Rattle.justfile_attribute.specs.Form.{Form, case_kind, form_of}
use Rattle.justfile_attribute.specs.declared.interpreter.Interpreter.{Interpreter}
use Rattle.justfile_attribute_set.specs.AttributeSet.{AttributeSet, leaf_entries_of, written_of}
use Rattle.justfile_attribute_set.specs.AttributeSet as sets
use Rattle.justfile_attribute_set.specs.Pairs.{Pair, entry_of, leaf_entry_of}
use Rattle.justfile_vocabulary.specs.AttributeKind.{kind_named}
use Rattle.justfile_token.specs.StringKind.{kind_of}
use Rattle.justfile_token.specs.Token.{lexeme_of}
use Rattle.justfile_vocabulary.specs.declared.attribute_kind.AttributeKind.{AttributeKind}
use Rattle.justfile_vocabulary.specs.declared.attribute_kind.AttributeKind.TheVariants as kinds
use Rattle.justfile_token.specs.declared.name.Name.{Name}
use Rattle.justfile_token.specs.declared.string_literal.StringLiteral as strings
use Rattle.justfile_token.specs.declared.token.Token.{Token}
use Rattle.justfile_model.specs.Grammars.Conditions.{Conditions}
use Rattle.justfile_model.specs.LiteralTexts.Literals as literals
use Rattle.justfile_model.specs.LiteralTexts.Literals.{Expansions, Literal, cooked_text, token_of}
use Rattle.justfile_model.specs.Trees.ContentKeys.{entry_cmp}
use Rattle.justfile_model.specs.Trees.ContentLeaf.{LiteralContent, TokenContent, literal_value}
use Rattle.justfile_vocabulary.specs.declared.format_string_part.FormatStringPart.{FormatStringPart}
use Rattle.justfile_vocabulary.specs.declared.format_string_part.FormatStringPart.TheVariants as parts
use Rattle.justfile_model.specs.Meanings.Meaning as meaning
use Rattle.justfile_model.specs.Meanings.Meaning.{by_key, by_position}
use Rattle.justfile_model.specs.Lists.Order.{in_order}
use Rattle.justfile_model.specs.Meanings.ReadAttribute.{ReadAttribute, entry_read, keep_both, token_view}
use Rattle.justfile_model.specs.Trees.LeafView.{content_as_read, or_empty, views_tokens, text_or_none, text_under, tok_content}
use Rattle.justfile_model.specs.Lexing.Tok.{Tok, tok_of}
use Rattle.justfile_model.specs.Trees.Tree as tree
use Rattle.justfile_model.specs.Trees.Tree.{Bound, Entry, Expr, OptionName, Property, Quoted, WrittenAttribute, lexeme}
use Rattle.justfile_model.specs.Readers.TreeReader.{token_attributes, token_leaves}
use Rattle.justfile_model.proofs.Relations.AlikeAttributes as alike
use Rattle.justfile_model.proofs.Relations.AlikeAttributes.{AlikeAttribute, AlikeBound, AlikeEntry, AlikeLiteral, AlikeOptionName, AlikeProperty, AlikeQuoted, SeesAlike, SeesContent, arg, cache, env, no_option, option_named, ordered_alike, own_name, plain, signals, single, texts}
use Rattle.justfile_model.proofs.Printed.Commented.{means_commented}
use Rattle.justfile_model.proofs.Lists.EachLaws.{AlikeOption, absent, present}
use Rattle.justfile_model.proofs.Relations.Natural.{RespectsAttributes}
use Rattle.justfile_model.proofs.Relations.NaturalAttributes.{IsMade, Keeping}
use Rattle.justfile_model.proofs.Meanings.NewAttributeLaws.{entry_made}
use Rattle.justfile_model.proofs.Relations.Related as a
use Rattle.justfile_model.proofs.Relations.Related.{Alike, Each}
use Rattle.justfile_expression.specs.Expression.{expr_of, literal_tok}
use Rattle.justfile_leaves.specs.LeafContent.{token_content}
use Rattle.justfile_expression.specs.LeafViews.{leaf_cooked, leaf_literal, leaf_token, views_leaves}
use Rattle.justfile_expression.specs.LeafTree.{Leaf, leaf_tree_of}
use Rattle.justfile_expression.specs.declared.expression.Expression.{Expression}
use Rattle.justfile_parse_item.specs.Filled.{IsFilledBoxed, IsFilledCount, IsFilledForm, IsFilledLiteral, IsFilledOption, IsFilledProperty}
use Rattle.justfile_parse_expression.specs.TableReader as reader
use Rattle.justfile_parse_item.specs.ItemTable.{attribute_leaves}
use Rattle.justfile_parse_expression.specs.TableReader.{leaves}
use Rattle.justfile_parse_expression.proofs.Seen as table
use Rattle.justfile_parse_item.proofs.Seen as seeing
use Rattle.justfile_parse_item.proofs.Seen.{AreMeant}
use Rattle.justfile_parse_expression.proofs.Seen.{Relates}

-- a token stands for its place
abbrev own : Token → Token
own token = token

module _ (conditions : Conditions) (bound : ℕ) (IsToken : Token → Type 0) (file_depth : ℕ) (import_offsets : List ℕ) where
  abbrev seen : Relates
  seen = seeing.seen conditions bound IsToken file_depth import_offsets

  abbrev IsPosition : Token → Tok → Type 0
  IsPosition = table.IsPosition conditions bound IsToken file_depth import_offsets

  abbrev IsLeaf : (Token → Leaf) → Leaf → Tok → Type 0
  IsLeaf = table.IsLeaf conditions bound IsToken file_depth import_offsets

  abbrev IsLiteralLeaf : Literal (List ℕ) → Leaf → Tok → Type 0
  IsLiteralLeaf = table.IsLiteralLeaf conditions bound IsToken file_depth import_offsets

  -- ---- attributes

  pub quoted_seen : (l : strings.StringLiteral) {q : Quoted Tok} → AlikeQuoted seen (quoted_by leaf_tree_of literal_leaf own l) q
      → (q ≡ quoted_by expr_of literal_tok tok_of l) × IsFilledLiteral conditions.expander IsToken l
  quoted_seen l {q} h =
      let x = seeing.string_seen conditions bound IsToken file_depth import_offsets h.lexeme l q.token h.token in
      ((λ i. record { expanded = sym h.expanded i; token = x.1 i }), x.0)

  quoted_row : (ls : List strings.StringLiteral) {qs : List (Quoted Tok)} → Each (AlikeQuoted seen) (map (quoted_by leaf_tree_of literal_leaf own) ls) qs
      → (qs ≡ map (quoted_by expr_of literal_tok tok_of) ls) × All (IsFilledLiteral conditions.expander IsToken) ls
  quoted_row ls h = seeing.all_seen conditions bound IsToken file_depth import_offsets (quoted_by leaf_tree_of literal_leaf own) (quoted_by expr_of literal_tok tok_of) (IsFilledLiteral conditions.expander IsToken) (λ l q k. quoted_seen l k) ls h

  -- what may be absent
  pub if_seen : {Z T U : Type 0} {Rel : T → U → Type 0} (view : Z → T) (model_view : Z → U) (IsGood : Z → Type 0) → ((z : Z) (u : U) → Rel (view z) u → (u ≡ model_view z) × IsGood z)
      → (o : Option Z) {ou : Option U} → AlikeOption Rel (option_map view o) ou → (ou ≡ option_map model_view o) × IfSome o IsGood
  if_seen view model_view IsGood one None absent = (refl, tt)
  if_seen view model_view IsGood one (Some z) (present {y = u} h) = let x = one z u h in (ap Some x.0, x.1)

  -- an expression in a box
  abbrev boxed_leaves : Box Expression → Expr Leaf Token
  boxed_leaves e = leaf_tree_of e.value

  abbrev boxed_tree : Box Expression → Expr Tok Tok
  boxed_tree e = expr_of e.value

  value_seen : (e : Box Expression) (t : Expr Tok Tok) → Alike seen (boxed_leaves e) t → (t ≡ boxed_tree e) × IsFilledBoxed conditions.expander IsToken e
  value_seen e t h = let x = seeing.seen_expression conditions bound IsToken file_depth import_offsets e.value h in (x.same, x.given)

  position_seen : (token : Token) (tok : Tok) → IsPosition token tok → (tok ≡ tok_of token) × IsToken token
  position_seen token tok h = (sym h.is, h.among)

  pub optional_seen : (o : Option (Box Expression)) {ot : Option (Expr Tok Tok)} → AlikeOption (Alike seen) (option_map boxed_leaves o) ot → (ot ≡ option_map boxed_tree o) × IfSome o (IsFilledBoxed conditions.expander IsToken)
  optional_seen o h = if_seen boxed_leaves boxed_tree (IsFilledBoxed conditions.expander IsToken) value_seen o h

  positions_seen : (o : Option Token) {ot : Option Tok} → AlikeOption IsPosition (option_map own o) ot → (ot ≡ option_map tok_of o) × IfSome o IsToken
  positions_seen o h = if_seen own tok_of IsToken position_seen o h

  property_seen : (p : Name × Box Expression) (q : Property Tok Tok) → AlikeProperty seen (property_by leaf_tree_of literal_leaf own p) q
      → (q ≡ property_by expr_of literal_tok tok_of p) × IsFilledProperty conditions.expander IsToken p
  property_seen p q h = let x = value_seen p.1 q.value h.value in ((λ i. record { key = sym h.key.is i; value = x.0 i }), (h.key.among, x.1))

  properties_seen : (o : Option (Name × Box Expression)) {oq : Option (Property Tok Tok)} → AlikeOption (AlikeProperty seen) (option_map (property_by leaf_tree_of literal_leaf own) o) oq
      → (oq ≡ option_map (property_by expr_of literal_tok tok_of) o) × IfSome o (IsFilledProperty conditions.expander IsToken)
  properties_seen o h = if_seen (property_by leaf_tree_of literal_leaf own) (property_by expr_of literal_tok tok_of) (IsFilledProperty conditions.expander IsToken) property_seen o h

  option_seen : (key : Option Name) (l : Option strings.StringLiteral) {o : OptionName Tok Tok} → AlikeOptionName seen (option_by leaf_tree_of literal_leaf own key l) o
      → (o ≡ option_by expr_of literal_tok tok_of key l) × IsFilledOption conditions.expander IsToken key l
  option_seen (Some key) l (own_name h) = (ap tree.OwnName (sym h.is), h.among)
  option_seen None (Some l) (option_named h) = let x = quoted_seen l h in (ap tree.Named x.0, x.1)
  option_seen None None no_option = (refl, tt)

  bound_seen : (name : strings.StringLiteral) (key : Option Name) (count : Option ℕ) {o : Option (Bound Tok)} → AlikeOption (AlikeBound seen) (bound_by leaf_tree_of literal_leaf own name key count) o
      → (o ≡ bound_by expr_of literal_tok tok_of name key count) × IsFilledCount conditions.expander IsToken key count
  bound_seen name (Some key) (Some n) (present h) = ((λ i. Some (record { key = sym h.key.is i; number = sym h.number i })), h.key.among)
  bound_seen name None (Some n) (present h) = ((λ i. Some (record { key = sym h.key.is i; number = sym h.number i })), tt)
  bound_seen name (Some key) None absent = (refl, tt)
  bound_seen name None None absent = (refl, tt)

  -- an attribute of this kind and form, by what it means
  record SeenForm (kind : AttributeKind) (form : Form) (t : tree.Attribute Tok Tok) : Type 0 where
    same : t ≡ formed_by expr_of literal_tok tok_of kind form
    given : IsFilledForm conditions.expander IsToken form

  single_seen_by : (kind : AttributeKind) (o : Option (Box Expression)) {t : tree.Attribute Tok Tok} → AlikeAttribute seen (single_by leaf_tree_of literal_leaf own kind o) t
      → (t ≡ single_by expr_of literal_tok tok_of kind o) × IfSome o (IsFilledBoxed conditions.expander IsToken)
  single_seen_by kind None (plain k) = (refl, tt)
  single_seen_by kind (Some e) (single k {e' = t} h) = let x = value_seen e t h in (ap (tree.Single kind) x.0, x.1)

  texts_seen : (kind : AttributeKind) (ls : List strings.StringLiteral) {t : tree.Attribute Tok Tok} → AlikeAttribute seen (tree.Texts kind (map (quoted_by leaf_tree_of literal_leaf own) ls)) t
      → (t ≡ tree.Texts kind (map (quoted_by expr_of literal_tok tok_of) ls)) × All (IsFilledLiteral conditions.expander IsToken) ls
  texts_seen kind ls (texts k h) = let x = quoted_row ls h in (ap (tree.Texts kind) x.0, x.1)

  text_seen : (kind : AttributeKind) (l : strings.StringLiteral) {t : tree.Attribute Tok Tok} → AlikeAttribute seen (tree.Texts kind (quoted_by leaf_tree_of literal_leaf own l ∷ [])) t
      → (t ≡ tree.Texts kind (quoted_by expr_of literal_tok tok_of l ∷ [])) × IsFilledLiteral conditions.expander IsToken l
  text_seen kind l (texts k (a.cons h a.nil)) = let x = quoted_seen l h in ((λ i. tree.Texts kind (x.0 i ∷ [])), x.1)

  script_seen : (kind : AttributeKind) (o : Option (Interpreter strings.StringLiteral)) {t : tree.Attribute Tok Tok}
      → AlikeAttribute seen (script_by leaf_tree_of literal_leaf own o) t → SeenForm kind (forms.Script o) t
  script_seen kind None (plain k) = record { same = refl; given = tt }
  script_seen kind (Some i) (texts k (a.cons h hs)) =
      let x = quoted_seen i.command h in
      let y = quoted_row i.arguments.items hs in
      record { same = λ j. tree.Texts kinds.Script (x.0 j ∷ y.0 j); given = (x.1, y.1) }

  seen_form : (kind : AttributeKind) (form : Form) {t : tree.Attribute Tok Tok} → AlikeAttribute seen (formed_by leaf_tree_of literal_leaf own kind form) t
      → SeenForm kind form t
  seen_form kind forms.Plain (plain k) = record { same = refl; given = tt }
  seen_form kind (forms.Optional value) h = let x = single_seen_by kind value h in record { same = x.0; given = x.1 }
  seen_form kind (forms.Single value) (single k h) = let x = value_seen value _ h in record { same = ap (tree.Single kind) x.0; given = x.1 }
  seen_form kind (forms.Literal literal) h = let x = text_seen kind literal h in record { same = x.0; given = x.1 }
  seen_form kind (forms.Literals given) h = let x = texts_seen kind given h in record { same = x.0; given = x.1 }
  seen_form kind (forms.Env key value) (env k v) =
      let x = value_seen key _ k in
      let y = value_seen value _ v in
      record { same = λ i. tree.Env (x.0 i) (y.0 i); given = (x.1, y.1) }
  seen_form kind (forms.Signals given) (signals s) = record { same = refl; given = tt }
  seen_form kind (forms.Cache extra inputs outputs) (cache x i o) =
      let e = optional_seen extra x in
      let n = optional_seen inputs i in
      let u = optional_seen outputs o in
      record { same = λ j. tree.Cache (e.0 j) (n.0 j) (u.0 j); given = (e.1, n.1, u.1) }
  seen_form kind (forms.Script interpreter) h = script_seen kind interpreter h
  seen_form kind (forms.Arg flag help help_property long long_key max max_key min min_key multiple name pattern short short_key value) (arg h) =
      let f = positions_seen flag h.flag in
      let p = properties_seen help_property h.help in
      let l = option_seen long_key long h.long in
      let x = bound_seen name max_key max h.max in
      let n = bound_seen name min_key min h.min in
      let m = positions_seen multiple h.multiple in
      let q = quoted_seen name h.name in
      let t = properties_seen pattern h.pattern in
      let s = option_seen short_key short h.short in
      let v = optional_seen value h.value in
      record {
        same = λ i. tree.Arg (record {
          flag = f.0 i;
          help = p.0 i;
          long = l.0 i;
          max = x.0 i;
          min = n.0 i;
          multiple = m.0 i;
          name = q.0 i;
          pattern = t.0 i;
          short = s.0 i;
          value = v.0 i;
        });
        given = (f.1, p.1, l.1, x.1, n.1, m.1, q.1, t.1, s.1, v.1);
      }

  abbrev IsFilledPair : Pair → Type 0
  IsFilledPair = seeing.IsFilledPair conditions bound IsToken file_depth import_offsets

  pair_seen : (p : Pair) (e : Entry Tok Tok) → AlikeEntry seen (leaf_entry_of p) e → (e ≡ entry_of p) × IsFilledPair p
  pair_seen p e h =
      let x = seen_form (case_kind p.0) (form_of p.0) h.attribute in
      ((λ i. record { name = sym h.name.is i; attribute = x.same i; comment = sym h.comment i }), (h.name.among, x.given))

  -- the attributes of a set
  set_seen : (set : AttributeSet) {es : List (Entry Tok Tok)} → Each (AlikeEntry seen) (leaf_entries_of set) es
      → (es ≡ sets.entries_of set) × All IsFilledPair (written_of set)
  set_seen set h = seeing.all_seen conditions bound IsToken file_depth import_offsets leaf_entry_of entry_of IsFilledPair pair_seen (written_of set) h

  -- ---- what is seen of leaves

  -- what is kept of an attribute is what it means as it is written
  pub record IsKept (e : Entry Leaf Token) (x : ReadAttribute) : Type 0 where
    pub alike : AlikeEntry seen e x.entry
    pub means : meaning.entry_of (views_tokens conditions.expander) x.written ≡ Some x.entry

  -- a name
  module _ {make : Token → Leaf} (holds : (t : Token) → leaf_token (make t) ≡ t) {leaf : Leaf} {tok : Tok} (h : IsLeaf make leaf tok) where
    held : leaf_token leaf ≡ h.token
    held = ap leaf_token h.is ∙ holds h.token

    leaf_place : IsPosition (leaf_token leaf) tok
    leaf_place = record { among = subst IsToken (sym held) h.among; is = ap tok_of held ∙ sym h.tok_is }

    leaf_bytes : lexeme_of (leaf_token leaf) ≡ lexeme tok
    leaf_bytes = ap lexeme_of held ∙ ap lexeme (sym h.tok_is)

    leaf_content : token_content (leaf_token leaf) ≡ tok_content tok
    leaf_content = ap token_content held ∙ ap tok_content (sym h.tok_is)

  literal_token : (token : Token) (l : Literal (List ℕ)) (text : List ℕ) → leaf_token (reader.literal_leaf token l text) ≡ token
  literal_token token (literals.Plain lexeme) text = refl
  literal_token token (literals.Expanded lexeme) text = refl
  literal_token token (literals.Command lexeme) text = refl
  literal_token token (literals.Single lexeme) text = refl
  literal_token token (literals.Start lexeme) text = refl
  literal_token token (literals.Continue start lexeme) text = refl
  literal_token token (literals.End start lexeme) text = refl

  abbrev E : Expansions
  E = conditions.expander

  -- a literal with its text
  module _ {l : Literal (List ℕ)} {leaf : Leaf} {tok : Tok} (h : IsLiteralLeaf l leaf tok) where
    literal_held : leaf_token leaf ≡ h.token
    literal_held = ap leaf_token h.is ∙ literal_token h.token l h.text

    literal_spelled : lexeme tok ≡ token_of l
    literal_spelled = ap lexeme h.tok_is ∙ sym h.lexeme

    literal_place : IsPosition (leaf_token leaf) tok
    literal_place = record { among = subst IsToken (sym literal_held) h.among; is = ap tok_of literal_held ∙ sym h.tok_is }

    literal_bytes : token_content (leaf_token leaf) ≡ tok_content tok
    literal_bytes = ap token_content literal_held ∙ ap tok_content (sym h.tok_is)

    literal_lexeme : lexeme_of (leaf_token leaf) ≡ lexeme tok
    literal_lexeme = ap lexeme_of literal_held ∙ ap lexeme (sym h.tok_is)

  plain_text : {x : List ℕ} {leaf : Leaf} {tok : Tok} (h : IsLiteralLeaf (literals.Plain x) leaf tok) → text_under E lexeme (literals.Plain tok) ≡ Some h.text
  plain_text h = ap (λ (k : List ℕ). text_or_none (cooked_text E (literals.Plain k))) (literal_spelled h) ∙ ap text_or_none h.cooked

  expanded_text : {x : List ℕ} {leaf : Leaf} {tok : Tok} (h : IsLiteralLeaf (literals.Expanded x) leaf tok) → text_under E lexeme (literals.Expanded tok) ≡ Some h.text
  expanded_text h = ap (λ (k : List ℕ). text_or_none (cooked_text E (literals.Expanded k))) (literal_spelled h) ∙ ap text_or_none h.cooked

  command_text : {x : List ℕ} {leaf : Leaf} {tok : Tok} (h : IsLiteralLeaf (literals.Command x) leaf tok) → text_under E lexeme (literals.Command tok) ≡ Some h.text
  command_text h = ap (λ (k : List ℕ). text_or_none (cooked_text E (literals.Command k))) (literal_spelled h) ∙ ap text_or_none h.cooked

  single_text : {x : List ℕ} {leaf : Leaf} {tok : Tok} (h : IsLiteralLeaf (literals.Single x) leaf tok) → text_under E lexeme (literals.Single tok) ≡ Some h.text
  single_text h = ap (λ (k : List ℕ). text_or_none (cooked_text E (literals.Single k))) (literal_spelled h) ∙ ap text_or_none h.cooked

  start_text : {x : List ℕ} {leaf : Leaf} {tok : Tok} (h : IsLiteralLeaf (literals.Start x) leaf tok) → text_under E lexeme (literals.Start tok) ≡ Some h.text
  start_text h = ap (λ (k : List ℕ). text_or_none (cooked_text E (literals.Start k))) (literal_spelled h) ∙ ap text_or_none h.cooked

  continue_text : {s x : List ℕ} {first leaf : Leaf} {start tok : Tok} (k : IsLiteralLeaf (literals.Start s) first start) (h : IsLiteralLeaf (literals.Continue s x) leaf tok)
      → text_under E lexeme (literals.Continue start tok) ≡ Some h.text
  continue_text k h = (λ i. text_or_none (cooked_text E (literals.Continue (literal_spelled k i) (literal_spelled h i)))) ∙ ap text_or_none h.cooked

  end_text : {s x : List ℕ} {first leaf : Leaf} {start tok : Tok} (k : IsLiteralLeaf (literals.Start s) first start) (h : IsLiteralLeaf (literals.End s x) leaf tok)
      → text_under E lexeme (literals.End start tok) ≡ Some h.text
  end_text k h = (λ i. text_or_none (cooked_text E (literals.End (literal_spelled k i) (literal_spelled h i)))) ∙ ap text_or_none h.cooked

  cooked_alike : (l : Literal Leaf) (l' : Literal Tok) → AlikeLiteral seen l l' → leaf_cooked (token_of l) ≡ text_under E lexeme l'
  cooked_alike l l' (alike.plain_literal h) = ap leaf_cooked h.is ∙ sym (plain_text h)
  cooked_alike l l' (alike.expanded_literal h) = ap leaf_cooked h.is ∙ sym (expanded_text h)
  cooked_alike l l' (alike.command_literal h) = ap leaf_cooked h.is ∙ sym (command_text h)
  cooked_alike l l' (alike.single_literal h) = ap leaf_cooked h.is ∙ sym (single_text h)
  cooked_alike l l' (alike.start_literal h) = ap leaf_cooked h.is ∙ sym (start_text h)
  cooked_alike l l' (alike.continue_literal k h) = ap leaf_cooked h.is ∙ sym (continue_text k h)
  cooked_alike l l' (alike.end_literal k h) = ap leaf_cooked h.is ∙ sym (end_text k h)

  -- the content of a literal with this text, delimited as its start is
  abbrev content_with : (text : Option (List ℕ)) (expand : Bool) (start : List ℕ) (part : Option FormatStringPart) → TokenContent → LiteralContent
  content_with text expand start part token = record { cooked = or_empty text; expand = expand; kind = kind_of start; part = part; token = token }

  content_alike : (l : Literal Leaf) (l' : Literal Tok) → AlikeLiteral seen l l'
      → leaf_literal (token_of l) ≡ content_as_read lexeme (text_under E lexeme) (λ kind t. tok_content t) l'
  content_alike l l' (alike.plain_literal h) =
      ap leaf_literal h.is ∙ (λ i. content_with (sym (plain_text h) i) false (sym (literal_spelled h) i) None (tok_content (sym h.tok_is i)))
  content_alike l l' (alike.expanded_literal h) =
      ap leaf_literal h.is ∙ (λ i. content_with (sym (expanded_text h) i) true (sym (literal_spelled h) i) None (tok_content (sym h.tok_is i)))
  content_alike l l' (alike.command_literal h) =
      ap leaf_literal h.is ∙ (λ i. content_with (sym (command_text h) i) false (lexeme (sym h.tok_is i)) None (tok_content (sym h.tok_is i)))
  content_alike l l' (alike.single_literal h) =
      ap leaf_literal h.is ∙ (λ i. content_with (sym (single_text h) i) false (sym (literal_spelled h) i) (Some parts.Single) (tok_content (sym h.tok_is i)))
  content_alike l l' (alike.start_literal h) =
      ap leaf_literal h.is ∙ (λ i. content_with (sym (start_text h) i) false (sym (literal_spelled h) i) (Some parts.Start) (tok_content (sym h.tok_is i)))
  content_alike l l' (alike.continue_literal k h) =
      ap leaf_literal h.is ∙ (λ i. content_with (sym (continue_text k h) i) false (sym (literal_spelled k) i) (Some parts.Continue) (tok_content (sym h.tok_is i)))
  content_alike l l' (alike.end_literal k h) =
      ap leaf_literal h.is ∙ (λ i. content_with (sym (end_text k h) i) false (sym (literal_spelled k) i) (Some parts.End) (tok_content (sym h.tok_is i)))

  abbrev sees_alike : SeesAlike seen views_leaves (views_tokens E)
  sees_alike = record {
    bytes = λ n n' h. leaf_bytes (λ t. refl) h;
    name_place = λ n n' h. leaf_place (λ t. refl) h;
    literal_bytes = λ l t t' h. literal_lexeme h;
    literal_place = λ l t t' h. literal_place h;
    assignment_place = λ number n n' h. leaf_place (λ t. refl) h;
    parameter_bytes = λ number n rules n' rules' h. leaf_bytes (λ t. refl) h;
    cooked = cooked_alike;
    value = λ l l' h. ap literal_value (content_alike l l' h);
  }

  abbrev contents_alike : SeesContent seen views_leaves (views_tokens E)
  contents_alike = record {
    cooked = cooked_alike;
    name_content = λ n n' h. leaf_content (λ t. refl) h;
    command_content = λ x t t' h. literal_bytes h;
    position_content = λ kind spelled b b' h. ap tok_content h.is;
    literal_content = content_alike;
  }

  -- ---- what is kept of attributes

  named_means : (C : Conditions) (w : WrittenAttribute Tok Tok) (e : Entry Tok Tok) → IsMade token_leaves (token_view C) w e → meaning.entry_of (token_view C) w ≡ Some e
  named_means C w e h =
      let m = entry_made (token_view C) h.before h.name.tok h.kind (by_position w.arguments) (by_key w.arguments) e h.made in
      let named : kind_named w.name.lexeme ≡ Some h.kind = ap (λ (t : Tok). kind_named t.lexeme) h.name_is ∙ h.named in
      rw (named, m.meant) (λ i. Some (record { name = (h.name_is ∙ sym m.name_is) i; attribute = e.attribute; comment = (h.comment_is ∙ sym m.comment_is) i }))

  pub keeping : Keeping seen leaves token_leaves attribute_leaves.view token_view attribute_leaves.keep attribute_leaves.entry keep_both entry_read IsKept
  keeping = record {
    sees = λ run C r. subst (λ (D : Conditions). SeesAlike seen views_leaves (views_tokens D.expander)) (sym r.same) sees_alike;
    contents = λ run C r. subst (λ (D : Conditions). SeesContent seen views_leaves (views_tokens D.expander)) (sym r.same) contents_alike;
    kept = λ run C r w w' e e' ws es made made'. record {
      alike = es;
      means = subst (λ (D : Conditions). meaning.entry_of (views_tokens D.expander) w' ≡ Some e') r.same (named_means C w' e' made');
    };
    entry = λ x y h. h.alike;
  }

  all_mean : {xs : List (Entry Leaf Token)} {ys : List ReadAttribute} → Each IsKept xs ys
      → meaning.all_of (meaning.entry_of (views_tokens E)) (map (λ (x : ReadAttribute). x.written) ys) ≡ Some (map entry_read ys)
  all_mean a.nil = refl
  all_mean (a.cons h hs) = rw (h.means, all_mean hs) refl

  each_table_token : {xs : List (Entry Leaf Token)} {ys : List ReadAttribute} → Each IsKept xs ys → Each (AlikeEntry seen) xs (map entry_read ys)
  each_table_token a.nil = a.nil
  each_table_token (a.cons h hs) = a.cons h.alike (each_table_token hs)

  meant : {xs : List (Entry Leaf Token)} {ys : List ReadAttribute} → Each IsKept xs ys
      → AreMeant conditions bound IsToken file_depth import_offsets (in_order (entry_cmp views_leaves) xs) (map (λ (x : ReadAttribute). x.written) ys)
  meant {xs} {ys} h set e =
      let sorted : Each (AlikeEntry seen) (in_order (entry_cmp views_leaves) xs) (in_order (entry_cmp (views_tokens E)) (map entry_read ys)) =
      ordered_alike seen views_leaves (views_tokens E) contents_alike (each_table_token h) in
      let x = set_seen set (subst (λ (es : List (Entry Leaf Token)). Each (AlikeEntry seen) es (in_order (entry_cmp (views_tokens E)) (map entry_read ys))) (sym e) sorted) in
      (rw (all_mean h) (ap Some x.0), x.1)

  pub attributed : RespectsAttributes seen leaves token_leaves attribute_leaves token_attributes IsKept
  attributed = record {
    keeping = keeping;
    attributes = λ run C r h. meant h;
    commented = λ c x y h. record {
      alike = record { name = h.alike.name; attribute = h.alike.attribute; comment = refl };
      means = means_commented (views_tokens E) c y.written y.entry h.means;
    };
  }
