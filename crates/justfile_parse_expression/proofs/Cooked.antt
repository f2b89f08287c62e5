-- Literals with their texts, and the errors of literals that have none.
use Rattle.std.proofs.Common.{◌≡◌, Bool, true, false, IsTrue, ℕ, List, Option, Some, None, is_some, unwrap_or, Result, Ok, Err, refl, sym, ap, string_bytes, ◌∙◌, subst}
use Rattle.justfile_token.specs.StringKind.{kind_of}
use Rattle.justfile_token.specs.Token.{lexeme_of}
use Rattle.justfile_vocabulary.specs.declared.format_string_part.FormatStringPart.{FormatStringPart}
use Rattle.justfile_vocabulary.specs.declared.format_string_part.FormatStringPart.TheVariants as parts
use Rattle.justfile_token.specs.declared.string_kind.StringKind.{StringKind}
use Rattle.justfile_token.specs.declared.compile_error.CompileError.{CompileError}
use Rattle.justfile_token.specs.declared.compile_error_kind.CompileErrorKind.{CompileErrorKind}
use Rattle.justfile_token.specs.declared.fault.Fault.{Fault}
use Rattle.justfile_token.specs.declared.fault.Fault.TheVariants as faults
use Rattle.justfile_token.specs.declared.string_literal.StringLiteral.{StringLiteral}
use Rattle.justfile_token.specs.declared.token.Token.{Token}
use Rattle.justfile_vocabulary.specs.declared.token_kind.TokenKind.{TokenKind}
use Rattle.justfile_vocabulary.specs.declared.token_kind.TokenKind.TheVariants as kinds
use Rattle.justfile_literal.specs.Literal.{IsKindOf, IsPartOf, IsStringOf, IsTextFault, answers_by, is_part, is_quoted, literal_fault_of}
use Rattle.justfile_model.specs.Readers.ExpressionReader as expressions
use Rattle.justfile_model.specs.Readers.ExpressionReader.{by_text}
use Rattle.justfile_model.specs.Readers.ReaderState.{NotCooked}
use Rattle.justfile_parse_expression.specs.TableReader as reader
use Rattle.justfile_parse_expression.specs.TableReader.{ReadError, State, leaves, part_by, string_leaf}
use Rattle.justfile_model.specs.LiteralTexts.Literals as literal
use Rattle.justfile_model.specs.LiteralTexts.Literals.{Expansions, LiteralFault, Unasked, cooked_text, cooked_format_text, string_of, string_text}
use Rattle.justfile_model.specs.Trees.Tree as tree
use Rattle.justfile_parse_expression.specs.Fault.{IsLiteralFault, is_literal_kind, literal_fault}
use Rattle.justfile_parse_expression.specs.Literal.{is_delimited, is_sound}
use Rattle.justfile_parse_expression.specs.MethodResults.{IsExpressionError, IsErrorOfLiteral, literal_read_error}
use Rattle.justfile_parse_expression.specs.Significant.{TableToken}
use Rattle.justfile_expression.specs.LeafTree.{Command, Literal, literal_of}
use Rattle.justfile_parse_expression.specs.View.{state_at, state_of}
use Rattle.justfile_parse_expression.specs.declared.parser_state.ParserState.{ParserState}
use Rattle.justfile_parse_expression.specs.declared.expression_error.ExpressionError.{ExpressionError}
use Rattle.justfile_parse_expression.specs.declared.expression_error.ExpressionError.TheVariants as causes

pub quoted_string : (table_token : TableToken) → table_token.0.kind ≡ kinds.StringToken → IsTrue (is_sound table_token) → IsTrue (is_quoted (lexeme_of table_token.0))
quoted_string table_token e h = subst (λ (k : TokenKind). IsTrue (is_delimited k (lexeme_of table_token.0))) e h

pub quoted_command : (table_token : TableToken) → table_token.0.kind ≡ kinds.Backtick → IsTrue (is_sound table_token) → IsTrue (is_quoted (lexeme_of table_token.0))
quoted_command table_token e h = subst (λ (k : TokenKind). IsTrue (is_delimited k (lexeme_of table_token.0))) e h

-- ---- the fault of an error

pub fault_is : (fault : LiteralFault) (kind : CompileErrorKind) → IsKindOf fault kind → literal_fault kind ≡ fault
fault_is fault kind h = rw h refl

due : (fault : LiteralFault) (kind : CompileErrorKind) → IsKindOf fault kind → IsTrue (is_literal_kind kind)
unfolding is_literal_kind
due fault kind h = rw h refl

-- the fault that the kind says is that of the kind
pub kind_is_due : (kind : CompileErrorKind) → IsTrue (is_literal_kind kind) → IsKindOf (literal_fault kind) kind
unfolding is_literal_kind
kind_is_due kind h = by_fault (literal_fault_of kind) refl h
  where
    by_fault : (found : Option LiteralFault) → literal_fault_of kind ≡ found → IsTrue (is_some found) → IsKindOf (unwrap_or found Unasked) kind
    by_fault (Some fault) is h = is
    by_fault None is h = cc

pub is_literal : (text : Result (List ℕ) LiteralFault) (token : Token) (fault : Fault) → IsTextFault text token fault → IsLiteralFault fault
is_literal text token (faults.Compile error) h = due h.fault error.kind h.kind_is
is_literal text token faults.Memory h = tt
is_literal text token faults.Numbers h = absurd h

pub command_is_literal : (expander : Expansions) (token : Token) (fault : Fault) → ((expander : Expansions) → IsTextFault (cooked_text expander (literal.Command (lexeme_of token))) token fault) → IsLiteralFault fault
command_is_literal expander token fault h = is_literal (cooked_text expander (literal.Command (lexeme_of token))) token fault (h expander)

text_refused : {A : Type 0} (make : List ℕ → A) (s : State) (text : Result (List ℕ) LiteralFault) (table_token : TableToken) (fault : Fault) (stop : ExpressionError) → IsTextFault text table_token.0 fault → IsErrorOfLiteral stop fault
    → IsExpressionError stop s ⊥ (by_text leaves make (table_token, s) text)
unfolding literal_read_error leaves
text_refused make s text table_token (faults.Compile error) (causes.Literal x) h is =
    let refusal : CompileError → ReadError = λ e. NotCooked (literal_fault e.kind) e.token in
    let there : NotCooked h.fault table_token.0 ≡ refusal error
    = ap (λ (f : LiteralFault). NotCooked f table_token.0) (sym (fault_is h.fault error.kind h.kind_is)) ∙ ap (λ (t : Token). NotCooked (literal_fault error.kind) t) (sym h.token_is) in
    rw h.text_is (ap (λ (r : ReadError). Err r) (there ∙ ap refusal (sym is)))
text_refused make s text table_token (faults.Compile error) (causes.Refused r) h is = absurd is
text_refused make s text table_token (faults.Compile error) causes.Memory h is = tt
text_refused make s text table_token (faults.Compile error) causes.Numbers h is = absurd is
text_refused make s text table_token faults.Memory (causes.Literal x) h is = absurd is
text_refused make s text table_token faults.Memory (causes.Refused r) h is = absurd is
text_refused make s text table_token faults.Memory causes.Memory h is = tt
text_refused make s text table_token faults.Memory causes.Numbers h is = absurd is
text_refused make s text table_token faults.Numbers stop h is = absurd h

-- ---- parts of format strings are framed

pub framed_single : (table_token : TableToken) → table_token.0.kind ≡ kinds.StringToken → IsTrue (is_sound table_token) → IsTrue (is_part (kind_of (lexeme_of table_token.0)) parts.Single (lexeme_of table_token.0))
framed_single table_token e h = quoted_string table_token e h

pub framed_start : (table_token : TableToken) → table_token.0.kind ≡ kinds.FormatStringStart → IsTrue (is_sound table_token) → IsTrue (is_part (kind_of (lexeme_of table_token.0)) parts.Start (lexeme_of table_token.0))
framed_start table_token e h = subst (λ (k : TokenKind). IsTrue (is_delimited k (lexeme_of table_token.0))) e h

pub framed_continue : (table_token : TableToken) (kind : StringKind) → table_token.0.kind ≡ kinds.FormatStringContinue → IsTrue (is_sound table_token) → IsTrue (is_part kind parts.Continue (lexeme_of table_token.0))
framed_continue table_token kind e h = subst (λ (k : TokenKind). IsTrue (is_delimited k (lexeme_of table_token.0))) e h

-- ---- texts

module _ {X : Type 0} (answer : X → List ℕ → Result (List ℕ) (List ℕ)) (p : ParserState X) (table_token : TableToken) where
  abbrev by : Expansions
  by = answers_by answer p.expander.now

  module _ (expand : Bool) where
    pub string_given : (l : StringLiteral) → IsStringOf by table_token.0 expand l → string_leaf expand (table_token, state_of answer p) ≡ Ok (Literal (literal_of l), state_of answer p)
    unfolding string_leaf expressions.cooked leaves state_of state_at
    string_given l is = by_expand expand is
      where
        by_expand : (expand : Bool) → IsStringOf by table_token.0 expand l → string_leaf expand (table_token, state_of answer p) ≡ Ok (Literal (literal_of l), state_of answer p)
        by_expand true is = rw (is.cooked, is.expand_is, is.kind, is.part, is.token_is) refl
        by_expand false is = rw (is.cooked, is.expand_is, is.kind, is.part, is.token_is) refl

    pub string_refused : (fault : Fault) (stop : ExpressionError) → IsTextFault (cooked_text by (string_of expand (lexeme_of table_token.0))) table_token.0 fault → IsErrorOfLiteral stop fault → IsExpressionError stop (state_of answer p) ⊥ (string_leaf expand (table_token, state_of answer p))
    unfolding string_leaf expressions.cooked leaves state_of state_at
    string_refused fault stop h is = text_refused _ (state_of answer p) (cooked_text by (string_of expand (lexeme_of table_token.0))) table_token fault stop h is

  -- a string whose text is between its quotes
  pub verbatim_given : (l : StringLiteral) → l.token ≡ table_token.0 → string_text (lexeme_of table_token.0) ≡ Ok (string_bytes l.cooked) → l.expand ≡ false → l.kind ≡ kind_of (lexeme_of table_token.0) → l.part ≡ None
      → string_leaf false (table_token, state_of answer p) ≡ Ok (Literal (literal_of l), state_of answer p)
  verbatim_given l token text expand kind part = string_given false l (record { token_is = token; cooked = text; expand_is = expand; kind = kind; part = part })

  pub command_given : (text : List ℕ) → ((expander : Expansions) → cooked_text expander (literal.Command (lexeme_of table_token.0)) ≡ Ok text) → reader.backtick (table_token, state_of answer p) ≡ Ok (tree.Backtick (Command table_token.0 text), state_of answer p)
  unfolding expressions.backtick expressions.cooked leaves state_of state_at
  command_given text is = rw (is by) refl

  pub command_refused : (fault : Fault) (stop : ExpressionError) → ((expander : Expansions) → IsTextFault (cooked_text expander (literal.Command (lexeme_of table_token.0))) table_token.0 fault) → IsErrorOfLiteral stop fault
      → IsExpressionError stop (state_of answer p) ⊥ (reader.backtick (table_token, state_of answer p))
  unfolding expressions.backtick expressions.cooked leaves state_of state_at
  command_refused fault stop h is = text_refused _ (state_of answer p) (cooked_text by (literal.Command (lexeme_of table_token.0))) table_token fault stop (h by) is

  module _ (kind : StringKind) (part : FormatStringPart) where
    pub part_given : (l : StringLiteral) → IsPartOf kind part table_token.0 l → part_by kind part (table_token, state_of answer p) ≡ Ok (Literal (literal_of l), state_of answer p)
    unfolding part_by leaves
    part_given l is = rw (is.cooked, is.expand_is, is.kind_is, is.part_is, is.token_is) refl

    pub part_refused : (fault : Fault) (stop : ExpressionError) → IsTextFault (cooked_format_text kind part (lexeme_of table_token.0)) table_token.0 fault → IsErrorOfLiteral stop fault → IsExpressionError stop (state_of answer p) ⊥ (part_by kind part (table_token, state_of answer p))
    unfolding part_by
    part_refused fault stop h is = text_refused _ (state_of answer p) (cooked_format_text kind part (lexeme_of table_token.0)) table_token fault stop h is
