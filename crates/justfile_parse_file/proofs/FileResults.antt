-- Files: what is read of a table is what the definitions read of its tokens, or is refused as they refuse it.
use Rattle.std.proofs.Common.{◌≡◌, ℕ, ◌+◌, ◌<◌, ◌≤◌, Bool, false, List, [], ◌∷◌, map, All, Option, Result, Ok, Err, refl, sym, ap, ◌∙◌, subst, arith}
use Rattle.std.specs.Prelude.{◌-◌, ◌^◌}
use Rattle.std.proofs.lemmas.Bool.Decides.{nat_tests}
use Rattle.std.proofs.lemmas.List.{length-map}
use Rattle.std.proofs.lemmas.List.Elements.{All-head, All-nil, All-tail}
use Rattle.justfile_numbers.specs.Numerator.{bindings_of, recipes_of}
use Rattle.justfile_token.specs.CompileErrorKind.{tokens_in}
use Rattle.justfile_token.specs.declared.compile_error.CompileError.{CompileError}
use Rattle.justfile_token.specs.declared.fault.Fault.{Fault}
use Rattle.justfile_token.specs.declared.fault.Fault.TheVariants as faults
use Rattle.justfile_numbers.specs.declared.numerator.Numerator.{Numerator}
use Rattle.justfile_token.specs.declared.token.Token.{Token}
use Rattle.justfile_item.specs.Item.{function_parameter_of, item_of}
use Rattle.justfile_item.specs.declared.item.Item.{Item}
use Rattle.justfile_item.specs.declared.item.Item.TheVariants as items
use Rattle.justfile_model.specs.Grammars.Conditions.{Conditions, with_limit}
use Rattle.justfile_model.specs.Grammars.Expressions.{front}
use Rattle.justfile_model.specs.Grammars.Features.{Noted}
use Rattle.justfile_recipe_header.specs.Header.{parameter_of}
use Rattle.justfile_model.specs.Grammars.Docs.{Nothing, documented}
use Rattle.justfile_model.specs.Grammars.Files.{NumbersSuffice, bindings, item_bindings, item_recipes, recipes, sets_doc}
use Rattle.justfile_model.specs.Readers.Reader as files
use Rattle.justfile_model.specs.Readers.ReaderState as reading
use Rattle.justfile_model.specs.Readers.ReaderState.{Counters, NoNumber}
use Rattle.justfile_model.specs.Lexing.SignificantTokens.{SignificantToken}
use Rattle.justfile_model.specs.Lexing.Tok.{Tok, tok_of}
use Rattle.justfile_model.specs.Meanings.ReadAttribute.{ReadAttribute}
use Rattle.justfile_model.specs.Trees.Tree.{Entry, OrderedItem, WrittenTree}
use Rattle.justfile_model.specs.Readers.TreeReader as model
use Rattle.justfile_model.specs.Readers.TreeReader.{start_state, token_attributes, token_leaves}
use Rattle.justfile_vocabulary.specs.declared.list_feature.ListFeature.{ListFeature}
use Rattle.justfile_model.proofs.Readers.Counters.{counted, counted_bindings, counted_recipes, items_count}
use Rattle.justfile_model.proofs.Printed.DocsKept.{bindings_count, documented_counts, recipes_count}
use Rattle.justfile_model.proofs.Relations.Natural as natural
use Rattle.justfile_model.proofs.Readers.ReadingSteps.{known}
use Rattle.justfile_model.proofs.Relations.Related as a
use Rattle.justfile_model.proofs.Relations.Related.{AlikeNext, Each, ReadErrors, Related, States}
use Rattle.justfile_model.proofs.Readers.Renumbered.{file_by, whole}
use Rattle.justfile_token.specs.declared.compile_error_kind.CompileErrorKind.{CompileErrorKind}
use Rattle.justfile_parse_file.specs.Errors.{IsAt, IsErrorOf}
use Rattle.justfile_parse_base.specs.ParseErrors.{IsAfterVariadic, IsErrorOfRead, IsExpectedKeyword, IsExtraneous, IsParseError, IsUnknownSetting}
use Rattle.justfile_parse_file.specs.ErrorFaults.{IsFaultOfError}
use Rattle.justfile_parse_docs.specs.ParsedItems.{HaveDerivedFields}
use Rattle.justfile_parse_base.specs.declared.parse_error.ParseError.{ParseError}
use Rattle.justfile_parse_base.specs.declared.parse_error.ParseError.TheVariants as errors
use Rattle.justfile_parse_docs.specs.ParsedItems.{IsInTable}
use Rattle.justfile_parse_expression.specs.TableReader as table_reader
use Rattle.justfile_parse_docs.specs.ParsedItems as reader
use Rattle.justfile_parse_docs.specs.ParsedItems.{ReadItems, attribute_leaves}
use Rattle.justfile_parse_expression.specs.TableReader.{Run, State, leaves}
use Rattle.justfile_parse_file.specs.MethodResults.{IsFaultOfExpression, IsKindAt, IsNextPlace, IsRead, IsUnread, NeverEnough}
use Rattle.justfile_parse_expression.specs.MethodResults.{IsExpressionError, literal_read_error, read_error_at}
use Rattle.justfile_parse_docs.specs.ParsedItems.{item_tree, numbered_leaf}
use Rattle.justfile_expression.specs.LeafTree.{Leaf}
use Rattle.justfile_parse_file.specs.WantsNumber as wants
use Rattle.justfile_parse_file.specs.WantsNumber.{AreLines, BeginsAssignment, BeginsHeader, LacksNumber, WantsNumber, a_line, at_name, at_once, binding, name_number, no_line, parameter_number, quiet, recipe_number}
use Rattle.justfile_parse_expression.specs.Significant.{TableToken, significant_of}
use Rattle.justfile_parse_expression.specs.declared.expression_error.LiteralError.{LiteralError}
use Rattle.justfile_parse_expression.specs.declared.expression_error.SyntaxError.{SyntaxError}
use Rattle.justfile_parse_expression.specs.declared.expression_error.SyntaxError.TheVariants.{Unexpected, TooDeep}
use Rattle.justfile_parse_expression.specs.declared.expression_error.ExpressionError.{ExpressionError}
use Rattle.justfile_parse_expression.specs.declared.expression_error.ExpressionError.TheVariants as causes
use Rattle.justfile_parse_expression.proofs.Cooked.{kind_is_due}
use Rattle.justfile_parse_file.proofs.ErrorTokens.{extraneous_held, keyword_held, literal_held, rule_held, unexpected_held, unknown_held, variadic_held}
use Rattle.justfile_parse_file.proofs.Tables.{in_table}
use Rattle.justfile_parse_expression.proofs.Seen.{IsTableToken, Relates}
use Rattle.justfile_parse_docs.proofs.ParsedItems.{respects, seen}
use Rattle.justfile_parse_docs.proofs.ParsedItems.{IsKept, attributed}
use Rattle.justfile_parse_file.proofs.SeenDocs.{items_seen}
use Rattle.justfile_parse_file.proofs.SeenItems.{noted_seen}
use Rattle.justfile_model.proofs.Relations.OverRules.{same_broken}
use Rattle.justfile_parse_file.proofs.Wanting.{header_lacks, naming, recipe_lacks}
use Rattle.justfile_parse_base.specs.Counting.{counters_of}
use Rattle.justfile_parse_header.specs.Tree.{parameter_tree}

-- a tree holds as many bindings and recipes whatever stands at its leaves
same_bindings : (is : List Item) → bindings (map item_tree is) ≡ bindings (map item_of is)
same_bindings [] = refl
same_bindings (items.Function f ∷ is) =
    λ i. (length-map f.parameters.items numbered_leaf ∙ sym (length-map f.parameters.items function_parameter_of)) i + same_bindings is i
same_bindings (items.Recipe r ∷ is) =
    λ i. (length-map r.parameters.items parameter_tree ∙ sym (length-map r.parameters.items parameter_of)) i + same_bindings is i
same_bindings (i ∷ is) = ap (λ (n : ℕ). item_bindings (item_of i) + n) (same_bindings is)

same_recipes : (is : List Item) → recipes (map item_tree is) ≡ recipes (map item_of is)
same_recipes [] = refl
same_recipes (items.Alias b ∷ is) = ap (λ (n : ℕ). 0 + n) (same_recipes is)
same_recipes (i ∷ is) = ap (λ (n : ℕ). item_recipes (item_of i) + n) (same_recipes is)

-- The definitions read beside it under the same conditions, but for their limit of depth, `bound`, which may be greater.
module _ (run : Run) (bound : ℕ) (within : run.conditions.limit ≤ bound) where
  abbrev conditions : Conditions
  conditions = run.conditions

  abbrev table : List TableToken
  table = run.table

  abbrev file_depth : ℕ
  file_depth = run.file_depth

  abbrev import_offsets : List ℕ
  import_offsets = run.import_offsets

  abbrev tokens : List SignificantToken
  tokens = map significant_of table

  abbrev others : Conditions
  others = with_limit bound conditions

  abbrev rel : Relates
  rel = seen conditions bound (IsInTable table) file_depth import_offsets

  abbrev begin : State
  begin = table_reader.begin run

  each_table_token : (es : List TableToken) → All (λ (e : TableToken). IsInTable table e.0) es → Each (IsTableToken conditions bound (IsInTable table) file_depth import_offsets) es (map significant_of es)
  each_table_token [] h = a.nil
  each_table_token (e ∷ es) h =
      let P : TableToken → Type 0 = λ (e : TableToken). IsInTable table e.0 in
      a.cons (record { among = All-head P e es h; is = refl }) (each_table_token es (All-tail P e es h))

  begin_alike : States rel begin (start_state others tokens)
  begin_alike = record { run = record { conditions_are = refl; same = refl; within = within; file_depth_is = refl; import_offsets_are = refl }; depth = refl; left = each_table_token table (λ k d h. in_table table k d h); noted = a.nil }

  -- items, the counters after them, and what is left
  abbrev Pair : Type 0
  Pair = (List (OrderedItem Leaf Token ℕ) × Counters) × State

  module _ (n : Counters) where
    abbrev Found : Type 0
    Found = model.Read (WrittenTree × Counters)

    abbrev there : Found
    there = files.file token_leaves token_attributes n (start_state others tokens)

    abbrev Q : List (OrderedItem Leaf Token ℕ) × Counters → WrittenTree × Counters → Type 0
    Q = natural.AllNumbered rel leaves token_leaves (respects conditions bound (IsInTable table) file_depth import_offsets) attribute_leaves token_attributes (IsKept conditions bound (IsInTable table) file_depth import_offsets) (attributed conditions bound (IsInTable table) file_depth import_offsets) n

    abbrev Short : Counters → Found → Type 0
    Short = natural.NoFile rel leaves token_leaves (respects conditions bound (IsInTable table) file_depth import_offsets) attribute_leaves token_attributes (IsKept conditions bound (IsInTable table) file_depth import_offsets) (attributed conditions bound (IsInTable table) file_depth import_offsets) n (files.after_byte_order_mark token_leaves token_attributes (start_state others tokens))

    related : Related rel Q Short (reader.file n begin) there
    related = natural.file_natural rel leaves token_leaves (respects conditions bound (IsInTable table) file_depth import_offsets) attribute_leaves token_attributes (IsKept conditions bound (IsInTable table) file_depth import_offsets) (attributed conditions bound (IsInTable table) file_depth import_offsets) n begin (start_state others tokens) begin_alike

    -- both read
    got : (found : ReadItems) (found' : Found) → Related rel Q Short found found' → (x : Pair) → found ≡ Ok x → (y : (WrittenTree × Counters) × model.State) × (found' ≡ Ok y) × Q x.0 y.0 × States rel x.1 y.1
    got found found' (a.both {x = z} {y = y} q k) x is =
        let same : z ≡ x = cc in
        (y, refl, subst (λ (w : Pair). Q w.0 y.0) same q, subst (λ (w : Pair). States rel w.1 y.1) same k)
    got found found' (a.neither h) x is = absurd cc
    got found found' (a.short h) x is = absurd cc
    got found found' (a.deep loose) x is = absurd cc

    -- Both are refused; or the one has no number left; or an expression is too deep in the one, and the other's limit is greater.
    pub data Lost (e : table_reader.ReadError) (found' : Found) : Type 0 where
      refused : (e' : model.ReadError) → found' ≡ Err e' → ReadErrors rel e e' → Lost e found'
      wanting : (m : Counters) → e ≡ NoNumber m → Short m found' → Lost e found'
      deeper : (at : Option TableToken) → e ≡ reading.TooDeep at → conditions.limit < bound → Lost e found'

    lost : (found : ReadItems) (found' : Found) → Related rel Q Short found found' → (e : table_reader.ReadError) → found ≡ Err e → Lost e found'
    lost found found' (a.both q k) e is = absurd cc
    lost found found' (a.neither {e = f} {e' = f'} h) e is =
        let same : f ≡ e = cc in
        subst (λ (g : table_reader.ReadError). Lost g (Err f')) same (refused f' refl h)
    lost found found' (a.short {n = m} h) e is = wanting m (cc) h
    lost found found' (a.deep {o = at} loose) e is = deeper at (cc) loose

    pub file_lost : (e : table_reader.ReadError) → reader.file n begin ≡ Err e → Lost e there
    file_lost e is = lost (reader.file n begin) there related e is

  -- ---- a file that is read

  -- docs take no number
  docs_bindings : (is docs : List Item) → map item_tree docs ≡ documented sets_doc Nothing (map item_tree is) → bindings (map item_tree is) ≡ bindings (map item_of docs)
  docs_bindings is docs documents =
      sym (documented_counts bindings bindings_count sets_doc Nothing (map item_tree is)) ∙ ap (λ (t : List (OrderedItem Leaf Token ℕ)). bindings t) (sym documents) ∙ same_bindings docs

  docs_recipes : (is docs : List Item) → map item_tree docs ≡ documented sets_doc Nothing (map item_tree is) → recipes (map item_tree is) ≡ recipes (map item_of docs)
  docs_recipes is docs documents =
      sym (documented_counts recipes recipes_count sets_doc Nothing (map item_tree is)) ∙ ap (λ (t : List (OrderedItem Leaf Token ℕ)). recipes t) (sym documents) ∙ same_recipes docs

  pub read_of : (old new : Numerator) (is docs : List Item) (features : List (ListFeature × Token)) (s : State) → reader.file (counters_of old) begin ≡ Ok ((map item_tree is, counters_of new), s) → s.noted ≡ features
      → map item_tree docs ≡ documented sets_doc Nothing (map item_tree is) → HaveDerivedFields docs → IsRead (record { conditions = others; table = table; file_depth = file_depth; import_offsets = import_offsets }) old new (docs, features)
  unfolding HaveDerivedFields
  read_of old new is docs features s found noted documents whole_items =
      let n = counters_of old in
      let g = got n (reader.file n begin) (there n) (related n) ((map item_tree is, counters_of new), s) found in
      let x = items_seen conditions bound (IsInTable table) file_depth import_offsets n is docs g.2.0 documents in
      let f = noted_seen conditions bound (IsInTable table) file_depth import_offsets features (subst (λ (fs : List (ListFeature × Token)). Each (a.AlikeNoted rel) fs g.0.1.noted) noted g.3.noted) in
      let counts : counters_of new ≡ counted n (map item_tree is) = g.2.2 in
      record {
        written = g.0.0.0;
        read = sym (file_by n others tokens) ∙ ap (λ (r : Found n). whole r) g.1 ∙ (λ i. Ok (g.0.0.0, f.0 i));
        ordered_is = x.0;
        given = record {
          given = x.1.given whole_items;
          numbered = x.1.numbered;
          recipes_numbered = x.1.recipes_numbered;
          counted = ap (λ (c : Counters). c.bindings) counts ∙ counted_bindings n (map item_tree is) ∙ ap (λ (k : ℕ). bindings_of old + k) (docs_bindings is docs documents);
          recipes_counted = ap (λ (c : Counters). c.recipes) counts ∙ counted_recipes n (map item_tree is) ∙ ap (λ (k : ℕ). recipes_of old + k) (docs_recipes is docs documents);
        };
        noted = record { all = f.1 };
      }

  -- ---- a file that is refused

  place_at : {o : Option TableToken} {o' : Option SignificantToken} → AlikeNext rel o o' → (token : Token) → IsNextPlace table o token → IsAt tokens o' token × IsInTable table token
  place_at a.no_next token is = (is.1, is.0)
  place_at (a.a_next {t = e} h) token is = (ap tok_of is ∙ ap (λ (t : SignificantToken). t.tok) h.is, subst (IsInTable table) (sym is) h.among)

  -- the tokens that the error holds are in the table
  abbrev Holds : CompileError → Type 0
  Holds e = All (IsInTable table) (tokens_in e.kind)

  error_at : (r : SyntaxError) (s : State) (e : CompileError) (e' : model.ReadError) → ReadErrors rel (read_error_at r s) e' → IsKindAt r e.kind e.token → IsNextPlace table (front s.left) e.token → IsErrorOf tokens e' e × IsInTable table e.token × Holds e
  unfolding reading.refused
  error_at Unexpected s e e' (a.unexpected h) kind is = let x = place_at h e.token is in ((kind, x.0), x.1, unexpected_held (IsInTable table) e.kind e.token kind)
  error_at TooDeep s e e' (a.too_deep h) kind is =
      let x = place_at h e.token is in ((kind, x.0), x.1, subst (λ (k : CompileErrorKind). All (IsInTable table) (tokens_in k)) (sym kind) (All-nil (IsInTable table)))

  literal_at : (l : LiteralError) (e' : model.ReadError) → ReadErrors rel (literal_read_error l.error) e' → IsErrorOf tokens e' l.error × IsInTable table l.error.token × Holds l.error
  unfolding literal_read_error
  literal_at l e' (a.not_cooked h) =
      let due = kind_is_due l.error.kind l.is_literal in
      ((due, h.is), h.among, literal_held (IsInTable table) _ l.error.kind due)

  -- a rule that is broken, attributes before no construct, a name after the last parameter, one of no setting, or a word that may not stand there
  broken_at : (error : CompileError) (r : table_reader.ReadError) (e' : model.ReadError) → IsErrorOfRead {Y = Pair} (Err r) error → ReadErrors rel r e' → IsErrorOf tokens e' error × IsInTable table error.token × Holds error
  broken_at error (reading.BreaksRule b) e' says (a.breaks h) = (
    record { rule = b; error = says; same = same_broken tok_of rel.position (λ t k h. h.is) h },
    subst (IsInTable table) (sym says.token) h.token.among,
    rule_held (IsInTable table) rel.position (λ t k h. h.among) b.token h.rule error.kind says.says,
  )
  broken_at error (reading.Extraneous count opener) e' says (a.extraneous {count' = count'} same h) = (
    (extraneous_as same error.kind says.0, ap tok_of says.1 ∙ h.is),
    subst (IsInTable table) (sym says.1) h.among,
    extraneous_held (IsInTable table) count error.kind says.0,
  )
    where
      extraneous_as : {m n : ℕ} → m ≡ n → (kind : CompileErrorKind) → IsExtraneous m kind → IsExtraneous n kind
      extraneous_as e kind h = subst (λ (k : ℕ). IsExtraneous k kind) e h
  broken_at error (reading.AfterVariadic name) e' says (a.after_variadic h) =
      ((subst (λ (t : Token). IsAfterVariadic t error.kind) (sym says.1) says.0, ap tok_of says.1 ∙ h.is), subst (IsInTable table) (sym says.1) h.among, variadic_held (IsInTable table) name error.kind says.0)
  broken_at error (reading.UnknownSetting name) e' says (a.unknown_setting h) =
      ((subst (λ (t : Token). IsUnknownSetting t error.kind) (sym says.1) says.0, ap tok_of says.1 ∙ h.is), subst (IsInTable table) (sym says.1) h.among, unknown_held (IsInTable table) name error.kind says.0)
  broken_at error (reading.ExpectedKeyword expected found) e' says (a.expected_keyword h) =
      ((subst (λ (t : Token). IsExpectedKeyword expected t error.kind) (sym says.1) says.0, ap tok_of says.1 ∙ h.is), subst (IsInTable table) (sym says.1) h.among, keyword_held (IsInTable table) expected found error.kind says.0 h.among)
  broken_at error _ e' says h = absurd says

  no_number : (r : SyntaxError) (s : State) (m : Counters) → read_error_at r s ≡ NoNumber m → ⊥
  unfolding reading.refused
  no_number Unexpected s m e = cc
  no_number TooDeep s m e = cc

  no_literal : (l : LiteralError) (m : Counters) → literal_read_error l.error ≡ NoNumber m → ⊥
  unfolding literal_read_error
  no_literal l m e = cc

  -- ---- where numbers run out

  abbrev agree : a.Respects rel leaves token_leaves
  agree = respects conditions bound (IsInTable table) file_depth import_offsets

  abbrev Keeps : Entry Leaf Token → ReadAttribute → Type 0
  Keeps = IsKept conditions bound (IsInTable table) file_depth import_offsets

  abbrev keeps : natural.RespectsAttributes rel leaves token_leaves attribute_leaves token_attributes Keeps
  keeps = attributed conditions bound (IsInTable table) file_depth import_offsets

  last : (b : ℕ) → leaves.has_number b ≡ false → b ≡ 2 ^ 32 - 1
  unfolding leaves
  last b is = grind (arith, nat_tests, is)

  begins_of : {s from : model.State} → natural.AtHeader rel leaves token_leaves agree attribute_leaves token_attributes Keeps keeps s from → BeginsHeader s from
  begins_of natural.at_once = at_once
  begins_of (natural.after_at is) = quiet is

  begins_assignment : {s from : model.State} {is_eager is_export : Bool} → natural.AfterWord rel leaves token_leaves agree attribute_leaves token_attributes Keeps keeps s is_eager is_export from
      → BeginsAssignment s is_eager is_export from
  begins_assignment natural.no_word = at_name
  begins_assignment (natural.after_eager is) = wants.eager is
  begins_assignment (natural.after_export is) = wants.export is

  lacks_of : {n m : Counters} (left : model.State) → natural.Lacks rel leaves token_leaves agree attribute_leaves token_attributes Keeps keeps n left m → LacksNumber left n m
  lacks_of {n} left (natural.binding {ws = ws} {rest = rest} {from = from} {eager = is_eager} {export = is_export} before after is has) =
      binding (record {
        attributes = ws;
        header = rest;
        attributes_read = before;
        is_eager = is_eager;
        is_export = is_export;
        begin = from;
        begins = begins_assignment after;
        assigns = has refl;
        at_end = last n.bindings is;
      })
  lacks_of {n} {m} left (natural.function_parameter {ws = ws} {rest = rest} before is lacks) =
      let l = naming lacks.lacks in
      name_number (record {
        attributes = ws;
        header = rest;
        attributes_read = before;
        name = lacks.name;
        name_read = lacks.named;
        checked = lacks.checked;
        attributes_allowed = lacks.allowed;
        opener = lacks.opener;
        opener_read = lacks.opened;
        place = l.place;
        named = l.named;
        counters = l.counters;
        is_name = l.is_name;
        at_end = last m.bindings is;
      })
  lacks_of {n} {m} left (natural.parameter {ws = ws} {rest = rest} {from = from} before begins is lacks) =
      parameter_number (record {
        attributes = ws;
        header = rest;
        attributes_read = before;
        begin = from;
        begins = begins_of begins;
        lacks = header_lacks (files.argument_rules token_leaves token_attributes from.run ws) n m from lacks (last m.bindings is);
      })
  lacks_of {n} {m} left (natural.recipe_number {ws = ws} {rest = rest} before is has counts) =
      recipe_number (recipe_lacks n m left before (files.any_recipe token_leaves token_attributes ws n rest) refl (has refl) counts (last m.recipes is))

  record Lines (n : Counters) (s : model.State) (m : Counters) : Type 0 where
    left : model.State
    counters : Counters
    lines : AreLines n s counters left
    lacks : natural.Lacks rel leaves token_leaves agree attribute_leaves token_attributes Keeps keeps counters left m

  lines_of : {n m : Counters} {s : model.State} → natural.Wants rel leaves token_leaves agree attribute_leaves token_attributes Keeps keeps n s m → Lines n s m
  lines_of {n} (natural.here {s' = s} lacks) = record { left = s; counters = n; lines = no_line; lacks = lacks }
  lines_of (natural.later is wants) = let x = lines_of wants in record { left = x.left; counters = x.counters; lines = a_line is x.lines; lacks = x.lacks }

  module _ (old new : Numerator) where
    wants_of : natural.Wants rel leaves token_leaves agree attribute_leaves token_attributes Keeps keeps (counters_of old) (files.after_byte_order_mark token_leaves token_attributes (start_state others tokens)) (counters_of new) → WantsNumber others tokens old new
    wants_of wants = let x = lines_of wants in record { left = x.left; counters = x.counters; lines = x.lines; lacks = lacks_of x.left x.lacks }

    whole_of : (found : Found (counters_of old)) (t : WrittenTree) (fs : List (Noted Tok)) → whole found ≡ Ok (t, fs) → (y : (WrittenTree × Counters) × model.State) × (found ≡ Ok y) × (y.0.0 ≡ t)
    whole_of (Ok y) t fs is = (y, refl, ap (λ (p : WrittenTree × List (Noted Tok)). p.0) (inside (y.0.0, y.1.noted) (t, fs) is))
      where
        inside : (p q : WrittenTree × List (Noted Tok)) → ◌≡◌ {A = Result (WrittenTree × List (Noted Tok)) model.ReadError} (Ok p) (Ok q) → p ≡ q
        inside p q e = cc
    whole_of (Err e) t fs is = absurd (never e (t, fs) is)
      where
        never : (e : model.ReadError) (p : WrittenTree × List (Noted Tok)) → ◌≡◌ {A = Result (WrittenTree × List (Noted Tok)) model.ReadError} (Err e) (Ok p) → ⊥
        never e p is = cc

    exceeded : (y : (WrittenTree × Counters) × model.State) (t : WrittenTree) → y.0.0 ≡ t → y.0.1 ≡ counted (counters_of old) y.0.0 → natural.Exceeds rel leaves token_leaves agree attribute_leaves token_attributes Keeps keeps (counters_of new) y.0.1 → NumbersSuffice (bindings_of old) (recipes_of old) t → ⊥
    exceeded y t same counts (natural.bindings_end is less) enough =
        omega (
          arith,
          last (bindings_of new) is,
          less,
          ap (λ (c : Counters). c.bindings) counts,
          counted_bindings (counters_of old) y.0.0,
          ap (λ (t : WrittenTree). bindings t) same,
          enough.bindings_suffice,
        )
    exceeded y t same counts (natural.recipes_end is less) enough =
        omega (
          arith,
          last (recipes_of new) is,
          less,
          ap (λ (c : Counters). c.recipes) counts,
          counted_recipes (counters_of old) y.0.0,
          ap (λ (t : WrittenTree). recipes t) same,
          enough.recipes_suffice,
        )

    -- no tree has numbers enough
    never_of : natural.AllExceed rel leaves token_leaves agree attribute_leaves token_attributes Keeps keeps (counters_of new) (there (counters_of old)) → (t : WrittenTree) (fs : List (Noted Tok)) → model.tree_of_tokens others tokens ≡ Ok (t, fs) → NumbersSuffice (bindings_of old) (recipes_of old) t → ⊥
    unfolding files.file
    never_of exceeds t fs is enough =
        let n = counters_of old in
        let x = whole_of (there n) t fs (file_by n others tokens ∙ is) in
        let counts = known x.0 (λ (y : (WrittenTree × Counters) × model.State). y.0.1 ≡ counted n y.0.0) x.1 (items_count token_leaves token_attributes n (files.after_byte_order_mark token_leaves token_attributes (start_state others tokens))) in
        let over = known x.0 (λ (y : (WrittenTree × Counters) × model.State). natural.Exceeds rel leaves token_leaves agree attribute_leaves token_attributes Keeps keeps (counters_of new) y.0.1) x.1 exceeds in
        exceeded x.0 t x.2 counts over enough

    wanting_of : Lost (counters_of old) (NoNumber (counters_of new)) (there (counters_of old)) → Short (counters_of old) (counters_of new) (there (counters_of old))
    wanting_of (refused e' is h) = elim h [ ]
    wanting_of (wanting m is short) =
        let same : m ≡ counters_of new = cc in
        subst (λ (c : Counters). Short (counters_of old) c (there (counters_of old))) same short
    wanting_of (deeper at is loose) = absurd cc

    -- where numbers run out, they suffice for no tree
    pub never_enough : reader.file (counters_of old) begin ≡ Err (NoNumber (counters_of new)) → (t : WrittenTree) (fs : List (Noted Tok)) → model.tree_of_tokens others tokens ≡ Ok (t, fs)
        → NumbersSuffice (bindings_of old) (recipes_of old) t → ⊥
    never_enough is t fs = never_of (wanting_of (file_lost (counters_of old) (NoNumber (counters_of new)) is)).1 t fs

    -- ---- where the limit is the same

    module _ (exact : conditions.limit < bound → ⊥) (never : reader.file (counters_of old) begin ≡ Err (NoNumber (counters_of new)) → NeverEnough others tokens old) where
      -- refused for this error
      unread_by : (e : CompileError) (e' : model.ReadError) → there (counters_of old) ≡ Err e' → IsErrorOf tokens e' e × IsInTable table e.token × Holds e → IsUnread others tokens (IsInTable table) old new (faults.Compile e)
      unread_by e e' is x =
          record { refusal = e'; read = sym (file_by (counters_of old) others tokens) ∙ ap (λ (r : Found (counters_of old)). whole r) is; error = x.0; among = x.1; held = x.2 }

      refused_of : (r : SyntaxError) (s : State) (e : CompileError) → Lost (counters_of old) (read_error_at r s) (there (counters_of old)) → IsKindAt r e.kind e.token → IsNextPlace table (front s.left) e.token → IsUnread others tokens (IsInTable table) old new (faults.Compile e)
      refused_of r s e (refused e' is h) kind at = unread_by e e' is (error_at r s e e' h kind at)
      refused_of r s e (wanting m is short) kind at = absurd (no_number r s m is)
      refused_of r s e (deeper o is loose) kind at = absurd (exact loose)

      literal_of : (l : LiteralError) (e : CompileError) → Lost (counters_of old) (literal_read_error l.error) (there (counters_of old)) → e ≡ l.error → IsUnread others tokens (IsInTable table) old new (faults.Compile e)
      literal_of l e (refused e' is h) same =
          subst (λ (k : CompileError). IsUnread others tokens (IsInTable table) old new (faults.Compile k)) (sym same) (unread_by l.error e' is (literal_at l e' h))
      literal_of l e (wanting m is short) same = absurd (no_literal l m is)
      literal_of l e (deeper o is loose) same = absurd (exact loose)

      unread_stop : (s : State) (stop : ExpressionError) (fault : Fault) → IsExpressionError stop s (reader.file (counters_of old) begin ≡ Err (NoNumber (counters_of new))) (reader.file (counters_of old) begin) → IsFaultOfExpression table (front s.left) stop fault
          → IsUnread others tokens (IsInTable table) old new fault
      unread_stop s (causes.Refused r) (faults.Compile e) h is = refused_of r s e (file_lost (counters_of old) (read_error_at r s) h) is.0 is.1
      unread_stop s (causes.Literal box) (faults.Compile e) h is = literal_of box.value e (file_lost (counters_of old) (literal_read_error box.value.error) h) is
      unread_stop s causes.Numbers faults.Numbers h is = (wants_of (wanting_of (file_lost (counters_of old) (NoNumber (counters_of new)) h)).0, never h)
      unread_stop s stop faults.Memory h is = tt
      unread_stop s stop fault h is = absurd is

      -- nothing is read where the error says that a rule is broken
      broken_found : (error : CompileError) (found : ReadItems) → found ≡ reader.file (counters_of old) begin → IsErrorOfRead found error
          → IsUnread others tokens (IsInTable table) old new (faults.Compile error)
      broken_found error (Ok x) is says = absurd says
      broken_found error (Err r) is says = go (file_lost (counters_of old) r (sym is))
        where
          go : Lost (counters_of old) r (there (counters_of old)) → IsUnread others tokens (IsInTable table) old new (faults.Compile error)
          go (refused e' there_is h) = unread_by error e' there_is (broken_at error r e' says h)
          go (wanting m e short) = absurd (subst (λ (k : table_reader.ReadError). IsErrorOfRead {Y = Pair} (Err k) error) e says)
          go (deeper o e loose) = absurd (exact loose)

      pub unread_of : (s : State) (error : ParseError) (fault : Fault) → IsParseError error s (reader.file (counters_of old) begin ≡ Err (NoNumber (counters_of new))) (reader.file (counters_of old) begin) → IsFaultOfError table (front s.left) error fault
          → IsUnread others tokens (IsInTable table) old new fault
      unread_of s (errors.Expression stop) fault h is = unread_stop s stop fault h is
      unread_of s (errors.Compile box) (faults.Compile e) h is =
          subst (λ (k : CompileError). IsUnread others tokens (IsInTable table) old new (faults.Compile k)) (sym is) (broken_found box.value (reader.file (counters_of old) begin) refl h)
      unread_of s (errors.Compile box) faults.Memory h is = absurd is
      unread_of s (errors.Compile box) faults.Numbers h is = absurd is

-- why a file is not read
pub unread : (run : Run) (old new : Numerator) (s : State) (error : ParseError) (fault : Fault)
    → IsParseError error s (reader.file (counters_of old) (table_reader.begin run) ≡ Err (NoNumber (counters_of new))) (reader.file (counters_of old) (table_reader.begin run))
    → IsFaultOfError run.table (front s.left) error fault → IsUnread run.conditions (map significant_of run.table) (IsInTable run.table) old new fault
unread run old new s error fault h is =
    unread_of run run.conditions.limit (omega arith) old new (λ loose. absurd (omega (arith, loose)))
    (λ e limit above t fs. never_enough run limit above old new e t fs) s error fault h is
