-- Settings, in the steps in which they are read.
use Rattle.std.proofs.Common.{◌≡◌, ◌∙◌, ℕ, Bool, true, false, cond, List, [], ◌∷◌, Option, Some, None, Ok, Err, codes, refl, sym, ap, subst}
use Rattle.std.specs.Prelude.{◌&&◌}
use Rattle.std.specs.Str.{bytes_eq}
use denote.Enum.Bare.{same_true}
use Rattle.justfile_vocabulary.specs.contracts.token_kind.TokenKind.{the_type}
use Rattle.justfile_vocabulary.specs.Keyword.{keyword_named}
use Rattle.justfile_token.specs.Token.{lexeme_of}
use Rattle.justfile_vocabulary.specs.declared.keyword.Keyword.{Keyword}
use Rattle.justfile_token.specs.declared.token.Token.{Token}
use Rattle.justfile_vocabulary.specs.declared.token_kind.TokenKind.{TokenKind}
use Rattle.justfile_vocabulary.specs.declared.token_kind.TokenKind.TheVariants as kinds
use Rattle.justfile_model.specs.Readers.ExpressionReader as expressions
use Rattle.justfile_model.specs.Grammars.Conditions.{VersionNumbers}
use Rattle.justfile_model.specs.Readers.HeaderReader.{obeying}
use Rattle.justfile_model.specs.Readers.PartReader as parts
use Rattle.justfile_model.specs.Readers.ReaderState as reading
use Rattle.justfile_model.specs.Readers.ReaderState.{◌>>=◌, TooDeep, Unexpected, UnknownSetting, at, choose, deeper, refused, with_next}
use Rattle.justfile_model.specs.Meanings.SettingRules.{value_broken}
use Rattle.justfile_model.specs.Grammars.Settings.{PlainForm, SettingForm, setting_form}
use Rattle.justfile_model.specs.Trees.Tree as tree
use Rattle.justfile_model.specs.Trees.Tree.{Expr, Exprs}
use Rattle.justfile_model.specs.declared.level.Level.TheVariants as levels
use Rattle.justfile_parse_expression.specs.TableReader as table
use Rattle.justfile_parse_expression.specs.TableReader.{At, Read, ReadExpr, State, accept, accept_keyword, element, enter, expect, is_within, leaves, read}
use Rattle.justfile_parse_expression.specs.Significant.{TableToken}
use Rattle.justfile_model.proofs.Readers.ExpressionReading.{sequence_is}
use Rattle.justfile_parse_expression.proofs.Negations.{bare_is}
use Rattle.justfile_parse_expression.proofs.Operators.{conjunct_is, level_is}
use Rattle.justfile_parse_expression.proofs.Rules.{bind_alike, then_made}
use Rattle.justfile_parse_expression.proofs.ValueForms.{at_other}
use Rattle.justfile_parse_item_parts.specs.PartTable as reader
use Rattle.justfile_parse_item_parts.specs.PartTable.{LeafValue}
use Rattle.justfile_expression.specs.LeafViews.{views_leaves}
use Rattle.justfile_expression.specs.LeafTree.{Leaf}
use Rattle.justfile_token.specs.declared.fault.Fault.{Fault}
use Rattle.justfile_parse_base.specs.ParseErrors.{IsParseError, IsErrorOfFault, IsFaultOfRead}
use Rattle.justfile_parse_base.specs.declared.parse_error.ParseError.{ParseError}
use Rattle.justfile_parse_base.proofs.RuleSteps.{fails_with}

-- ---- keywords

-- the keyword that is found
pub keyword_found : (name : TableToken) (s : State) (found : Option Keyword) → keyword_named (lexeme_of name.0) ≡ found
    → reader.setting_keyword name s ≡ parts.keyword_or_none leaves name s found
unfolding parts.setting_keyword leaves
keyword_found name s found is = ap (parts.keyword_or_none leaves name s) is

pub keyword_refused : (name : TableToken) (s : State) → keyword_named (lexeme_of name.0) ≡ None → reader.setting_keyword name s ≡ Err (UnknownSetting name.0)
unfolding leaves
keyword_refused name s none = keyword_found name s None none

-- ---- plain literals

module _ (name : TableToken) (keyword : Keyword) where
  made_of : (found : ReadExpr)
      → ((found >>= then_made tree.Value) >>= λ value. obeying (value_broken value.1.run.conditions.current views_leaves (Some PlainForm) keyword name.0 value.0) value.1 >>= λ checked. Ok (value.0, checked.1))
      ≡ (found >>= λ e. reader.plain_made e.1.run.conditions.current name.0 keyword e.0 e.1)
  made_of (Ok e) = refl
  made_of (Err f) = refl

  pub plain_is : (s : State) → reader.plain_value name keyword s ≡ (read (At levels.Expression false s) >>= λ e. reader.plain_made e.1.run.conditions.current name.0 keyword e.0 e.1)
  unfolding parts.plain_value parts.expression_value leaves
  plain_is s = made_of (read (At levels.Expression false s))

-- ---- forms

module _ (name : TableToken) (keyword : Keyword) (s : State) where
  pub is_none : setting_form keyword ≡ None → reader.setting_value name keyword (setting_form keyword) s ≡ reader.after_operator (reader.no_setting name) s
  unfolding leaves
  is_none h = ap (λ (o : Option SettingForm). reader.setting_value name keyword o s) h

  -- the value of a setting, after its name
  pub plain_read : (operator : TableToken) (from : State) → expect kinds.ColonEquals s ≡ Ok (operator, from) → (e : Expr Leaf Token) (rest : State) → read (At levels.Expression false from) ≡ Ok (e, rest)
      → (current : VersionNumbers) → rest.run.conditions.current ≡ current
      → reader.after_operator (reader.plain_value name keyword) s ≡ reader.plain_made current name.0 keyword e rest
  plain_read operator from opened e rest found current is =
      ap (λ (o : Read TableToken). o >>= λ operator. reader.plain_value name keyword operator.1) opened
      ∙ plain_is name keyword from
      ∙ ap (λ (o : ReadExpr). o >>= λ e. reader.plain_made e.1.run.conditions.current name.0 keyword e.0 e.1) found
      ∙ ap (λ (v : VersionNumbers). reader.plain_made v name.0 keyword e rest) is

-- ---- interpreters

-- what comes next is refused as the expression that is missing, which may be too deep
abbrev first_refused : State → ReadExpr
first_refused s = cond (is_within levels.Expression s) (Err (refused Unexpected s)) (Err (refused TooDeep s))

-- where the closing bracket comes next
module _ (t : TableToken) (closes : t.0.kind ≡ kinds.BracketR) where
  module _ (kind : TokenKind) (other : reading.same_kind kinds.BracketR kind ≡ false) where
    unlike : reading.same_kind t.0.kind kind ≡ false
    unlike = ap (λ (k : TokenKind). reading.same_kind k kind) closes ∙ other

    not_taken : (rest : State) → accept kind (with_next t rest) ≡ None
    unfolding reading.accept leaves
    not_taken rest = ap (λ (b : Bool). cond {A = Option (TableToken × State)} b (Some (t, rest)) None) unlike

  no_condition : (rest : State) → accept_keyword (codes "if") (with_next t rest) ≡ None
  unfolding reading.accept_keyword leaves reading.is_word reading.same_kind
  no_condition rest =
      ap (λ (b : Bool). cond {A = Option (TableToken × State)} (b && bytes_eq (lexeme_of t.0) (codes "if")) (Some (t, rest)) None) (unlike kinds.Identifier refl)

  no_operand : (rest : State) → read (At levels.Conjunct false (with_next t rest)) ≡ Err (refused Unexpected (with_next t rest))
  unfolding reading.same_kind
  no_operand rest =
      let here = with_next t rest in
      conjunct_is false here
      ∙ rw (no_condition rest, not_taken kinds.Slash refl rest, bare_is here (not_taken kinds.Bang refl rest), at_other t rest (apart refl) (apart refl) (apart refl) (apart refl) (apart refl)) refl
    where
      apart : {kind : TokenKind} → reading.same_kind kinds.BracketR kind ≡ false → t.0.kind ≡ kind → ⊥
      apart other e = let f : true ≡ false = ap (λ (k : TokenKind). reading.same_kind kinds.BracketR k) (sym closes ∙ e) ∙ other in cc

  no_expression : (rest : State) → read (At levels.Expression false (with_next t rest)) ≡ first_refused (with_next t rest)
  unfolding enter refused
  no_expression rest = level_is levels.Expression false (with_next t rest) refl ∙ go (is_within levels.Expression (with_next t rest))
    where
      go : (b : Bool) → (cond {A = Read (Unit {0})} b (Ok (tt, deeper (with_next t rest))) (Err (refused TooDeep (with_next t rest)))
          >>= λ o. read (At levels.Conjunct false o.1) >>= table.operations levels.Expression false)
          ≡ cond b (Err (refused Unexpected (with_next t rest))) (Err (refused TooDeep (with_next t rest)))
      go true = ap (λ (f : ReadExpr). f >>= table.operations levels.Expression false) (no_operand (deeper rest))
      go false = refl

-- what follows an element
abbrev after_element : Expr Leaf Token × State → Read (Expr Leaf Token × Bool)
after_element e =
    choose {X = Read (Expr Leaf Token × Bool)} (accept kinds.Comma e.1) (expect kinds.BracketR e.1 >>= λ x. Ok ((e.0, true), x.1)) (λ comma. Ok ((e.0, false), comma.1))

abbrev by_element : (Expr Leaf Token × Bool) × State → Read (Exprs Leaf Token)
by_element x = expressions.elements leaves read kinds.BracketR x.0.0 x.0.1 x.1

sequence_by : (s : State) → read (table.Sequence kinds.BracketR s) ≡ choose {X = Read (Exprs Leaf Token)} (accept kinds.BracketR s) (element kinds.BracketR s >>= by_element) (λ x. Ok (tree.none, x.1))
unfolding expressions.sequence_rule
sequence_by s = sequence_is leaves kinds.BracketR s

module _ (first : State) where
  command_of : (e : Expr Leaf Token) (found : Read (Exprs Leaf Token)) → ((found >>= then_made (tree.more e)) >>= parts.some_command leaves first) ≡ (found >>= then_made (tree.Interpreter e))
  command_of e (Ok es) = refl
  command_of e (Err f) = refl

  by_last : (e : Expr Leaf Token) (last : Bool) (rest : State) → (expressions.elements leaves read kinds.BracketR e last rest >>= parts.some_command leaves first) ≡ reader.command_end e last rest
  by_last e true rest = refl
  by_last e false rest = command_of e (read (table.Sequence kinds.BracketR rest))

  commanded : (found : Read (Expr Leaf Token × Bool)) → ((found >>= by_element) >>= parts.some_command leaves first) ≡ (found >>= λ command. reader.command_end command.0.0 command.0.1 command.1)
  commanded (Ok x) = by_last x.0.0 x.0.1 x.1
  commanded (Err f) = refl

  -- without a command
  no_command : (t : TableToken) (ts : List TableToken) → first.left ≡ t ∷ ts → t.0.kind ≡ kinds.BracketR → parts.some_command leaves first (tree.none, at first ts) ≡ reader.command_from first
  unfolding reader.command_from expressions.element_rule leaves
  no_command t ts split closes =
      by_depth (is_within levels.Expression first)
      ∙ sym (ap (λ (f : ReadExpr). (f >>= after_element) >>= λ command. reader.command_end command.0.0 command.0.1 command.1) found)
    where
      found : read (At levels.Expression false first) ≡ first_refused first
      found = subst (λ (l : List TableToken). read (At levels.Expression false (at first l)) ≡ first_refused (at first l)) (sym split) (no_expression t closes (at first ts))

      by_depth : (b : Bool) → cond {A = Read LeafValue} b (Err (refused Unexpected first)) (Err (refused TooDeep first))
          ≡ ((cond {A = ReadExpr} b (Err (refused Unexpected first)) (Err (refused TooDeep first)) >>= after_element) >>= λ command. reader.command_end command.0.0 command.0.1 command.1)
      by_depth true = refl
      by_depth false = refl

  -- a command with its arguments, up to the closing bracket
  bracketed : (read (table.Sequence kinds.BracketR first) >>= parts.some_command leaves first) ≡ reader.command_from first
  unfolding reader.command_from reading.accept reading.same_kind leaves
  bracketed = ap (λ (o : Read (Exprs Leaf Token)). o >>= parts.some_command leaves first) (sequence_by first) ∙ go first.left refl
    where
      met : (t : TableToken) (ts : List TableToken) → first.left ≡ t ∷ ts → (b : Bool) → reading.same_kind t.0.kind kinds.BracketR ≡ b
          → (choose {X = Read (Exprs Leaf Token)} (cond b (Some (t, at first ts)) None) (element kinds.BracketR first >>= by_element) (λ x. Ok (tree.none, x.1)) >>= parts.some_command leaves first)
          ≡ reader.command_from first
      met t ts split true is = no_command t ts split (same_true the_type tt _ _ is)
      met t ts split false is = commanded (element kinds.BracketR first)

      go : (l : List TableToken) → first.left ≡ l
          → (choose {X = Read (Exprs Leaf Token)} (reading.accept_by leaves (λ t. reading.same_kind t.tok.kind kinds.BracketR) first l) (element kinds.BracketR first >>= by_element) (λ x. Ok (tree.none, x.1))
          >>= parts.some_command leaves first)
          ≡ reader.command_from first
      go [] split = commanded (element kinds.BracketR first)
      go (t ∷ ts) split = met t ts split (reading.same_kind t.0.kind kinds.BracketR) refl

pub interpreter_is : (s : State) → reader.interpreter s ≡ (expect kinds.BracketL s >>= λ opener. reader.command_from opener.1)
unfolding parts.interpreter
interpreter_is s = bind_alike (expect kinds.BracketL s) _ _ (λ opener. bracketed opener.1)

-- a keyword isn't the name of a setting
pub no_setting_fails : (name : TableToken) (s : State) (operator : TableToken) (from : State) (error : ParseError) (fault : Fault)
    → expect kinds.ColonEquals s ≡ Ok (operator, from) → IsErrorOfFault error fault → IsFaultOfRead (UnknownSetting name.0) fault
    → IsParseError error from ⊥ (reader.after_operator (reader.no_setting name) s)
no_setting_fails name s operator from error fault found h k = rw found (fails_with (LeafValue × State) (UnknownSetting name.0) fault error from h k)
