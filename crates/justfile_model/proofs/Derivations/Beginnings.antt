-- What the tokens of a construct, an expression or a value don't begin with.
use Rattle.std.proofs.Common.{ℕ, Bool, List, ◌∷◌, Option}
use Rattle.justfile_vocabulary.specs.declared.token_kind.TokenKind.TheVariants as kinds
use Rattle.justfile_model.specs.Grammars.AttributeLines as lines_of
use Rattle.justfile_model.specs.Grammars.AttributeLines.{AttributeLines}
use Rattle.justfile_model.specs.Grammars.Expressions as expressions
use Rattle.justfile_model.specs.Grammars.Expressions.{IsKind, NotNext, Tokens}
use Rattle.justfile_model.specs.Grammars.Features.{Noted}
use Rattle.justfile_model.specs.Grammars.Files.{to_tokens}
use Rattle.justfile_model.specs.Grammars.Grammar as g
use Rattle.justfile_model.specs.Grammars.Grammar.{Block, OnLine}
use Rattle.justfile_model.specs.Grammars.Headers as headers
use Rattle.justfile_model.specs.Grammars.Headers.{HeaderOf}
use Rattle.justfile_model.specs.Lexing.SignificantTokens.{SignificantToken}
use Rattle.justfile_model.specs.Lexing.Tok.{Tok}
use Rattle.justfile_model.specs.Trees.Tree.{Content, Expr, Header, WrittenAttribute, itself}

-- the next token isn't an end, a comment or a byte order mark, as before a construct
pub record Begins (ts : Tokens) : Type 0 where
  pub no_file_end : NotNext kinds.Eof ts
  pub no_line_end : NotNext kinds.Eol ts
  pub no_comment : NotNext kinds.Comment ts
  pub no_mark : NotNext kinds.ByteOrderMark ts
  pub no_indent : NotNext kinds.Indent ts

begins_name : {name : SignificantToken} {ts : Tokens} → IsKind kinds.Identifier name → Begins (name ∷ ts)
begins_name kind = record { no_file_end = λ e. cc; no_line_end = λ e. cc; no_comment = λ e. cc; no_mark = λ e. cc; no_indent = λ e. cc }

begins_at : {mark : SignificantToken} {ts : Tokens} → IsKind kinds.At mark → Begins (mark ∷ ts)
begins_at kind = record { no_file_end = λ e. cc; no_line_end = λ e. cc; no_comment = λ e. cc; no_mark = λ e. cc; no_indent = λ e. cc }

begins_bracket : {opener : SignificantToken} {ts : Tokens} → IsKind kinds.BracketL opener → Begins (opener ∷ ts)
begins_bracket kind = record { no_file_end = λ e. cc; no_line_end = λ e. cc; no_comment = λ e. cc; no_mark = λ e. cc; no_indent = λ e. cc }

module _ {MayEnter : ℕ → Option SignificantToken → Type 0} where
  header_begins : {h : Header Tok Tok Tok} {fs : List (Noted Tok)} {ts rest : Tokens} → HeaderOf itself itself itself MayEnter h fs ts rest → Begins ts
  header_begins (headers.quiet kind h) = begins_at kind
  header_begins (headers.loud (headers.header kind ps ds)) = begins_name kind

  pub line_begins : {c : Content Tok Tok ℕ Tok} {fs : List (Noted Tok)} {ts rest : Tokens} → OnLine to_tokens MayEnter c fs ts rest → Begins ts
  line_begins (g.alias is kind kind2 p) = begins_name is.is_name
  line_begins (g.assignment kind kind2 e) = begins_name kind
  line_begins (g.eager is kind kind2 e) = begins_name is.is_name
  line_begins (g.export is kind kind2 e) = begins_name is.is_name
  line_begins (g.function kind kind2 ns kind3 e) = begins_name kind
  line_begins (g.import is p) = begins_name is.is_name
  line_begins (g.optional_import is kind p) = begins_name is.is_name
  line_begins (g.module_alone is kind ends) = begins_name is.is_name
  line_begins (g.module_at is kind p) = begins_name is.is_name
  line_begins (g.optional_module_alone is kind kind2 none) = begins_name is.is_name
  line_begins (g.optional_module_at is kind kind2 p) = begins_name is.is_name
  line_begins (g.setting is is2 form value) = begins_name is.is_name
  line_begins (g.unexport is kind ends) = begins_name is.is_name
  line_begins (g.header h) = header_begins h

  pub block_begins : {c : Content Tok Tok ℕ Tok} {fs : List (Noted Tok)} {ts rest : Tokens} → Block to_tokens MayEnter c fs ts rest → Begins ts
  block_begins (g.recipe h b lines some) = header_begins h

  -- with the attributes before it
  pub attributes_begin : {ws : List (WrittenAttribute Tok Tok)} {fs : List (Noted Tok)} {ts header : Tokens} → AttributeLines itself itself MayEnter ws fs ts header
      → Begins header → Begins ts
  attributes_begin (lines_of.none not) b = b
  attributes_begin (lines_of.line kind w e others) b = begins_bracket kind

-- ---- no expression begins with a closing parenthesis or with a star, and no value with a slash

pub record StartsValue (ts : Tokens) : Type 0 where
  pub no_closer : NotNext kinds.ParenR ts
  pub no_star : NotNext kinds.Asterisk ts

module _ {A B : Type 0} (leaf : Tok → A) (position : Tok → B) (MayEnter : ℕ → Option SignificantToken → Type 0) where
  pub value_starts : {d : ℕ} {v : Expr A B} {fs : List (Noted B)} {ts rest : Tokens}
      → expressions.Value leaf position MayEnter d v fs ts rest → StartsValue ts × NotNext kinds.Slash ts
  value_starts (expressions.not kind v) = (record { no_closer = λ k. cc; no_star = λ k. cc }, λ k. cc)
  value_starts (expressions.literal kind) = (record { no_closer = λ k. cc; no_star = λ k. cc }, λ k. cc)
  value_starts (expressions.expanded m) = let is = m.marks.is_name in (record { no_closer = λ k. cc; no_star = λ k. cc }, λ k. cc)
  value_starts (expressions.format_literal m) = let is = m.marks.is_name in (record { no_closer = λ k. cc; no_star = λ k. cc }, λ k. cc)
  value_starts (expressions.format_string m v ps) = let is = m.marks.is_name in (record { no_closer = λ k. cc; no_star = λ k. cc }, λ k. cc)
  value_starts (expressions.backtick kind) = (record { no_closer = λ k. cc; no_star = λ k. cc }, λ k. cc)
  value_starts (expressions.assert w kind c kind2) = let is = w.is_name in (record { no_closer = λ k. cc; no_star = λ k. cc }, λ k. cc)
  value_starts (expressions.assert_message w kind c kind2 m kind3) = let is = w.is_name in (record { no_closer = λ k. cc; no_star = λ k. cc }, λ k. cc)
  value_starts (expressions.variable kind na un nx) = (record { no_closer = λ k. cc; no_star = λ k. cc }, λ k. cc)
  value_starts (expressions.call kind na kind2 s) = (record { no_closer = λ k. cc; no_star = λ k. cc }, λ k. cc)
  value_starts (expressions.group kind v kind2) = (record { no_closer = λ k. cc; no_star = λ k. cc }, λ k. cc)
  value_starts (expressions.list kind s) = (record { no_closer = λ k. cc; no_star = λ k. cc }, λ k. cc)

  conjunct_starts : {d : ℕ} {v : Expr A B} {fs : List (Noted B)} {ts rest : Tokens} → expressions.Conjunct leaf position MayEnter d v fs ts rest → StartsValue ts
  conjunct_starts (expressions.conditional w c) = let is = w.is_name in record { no_closer = λ k. cc; no_star = λ k. cc }
  conjunct_starts (expressions.root kind c) = record { no_closer = λ k. cc; no_star = λ k. cc }
  conjunct_starts (expressions.join nw v kind c) = (value_starts v).0
  conjunct_starts (expressions.list_concatenation nw v kind c) = (value_starts v).0
  conjunct_starts (expressions.concatenation nw v kind c) = (value_starts v).0
  conjunct_starts (expressions.value nw v nx) = (value_starts v).0

  compared_starts : {c : Bool} {d : ℕ} {v : Expr A B} {fs : List (Noted B)} {ts rest : Tokens} → expressions.Compared leaf position MayEnter c d v fs ts rest → StartsValue ts
  compared_starts (expressions.compare by l kind r) = conjunct_starts l
  compared_starts (expressions.conjunct l nx) = conjunct_starts l

  disjunct_starts : {c : Bool} {d : ℕ} {v : Expr A B} {fs : List (Noted B)} {ts rest : Tokens} → expressions.Disjunct leaf position MayEnter c d v fs ts rest → StartsValue ts
  disjunct_starts (expressions.and l kind r) = compared_starts l
  disjunct_starts (expressions.comparison l nx) = compared_starts l

  pub expression_starts : {c : Bool} {d : ℕ} {v : Expr A B} {fs : List (Noted B)} {ts rest : Tokens} → expressions.Expression leaf position MayEnter c d v fs ts rest
      → StartsValue ts
  expression_starts (expressions.or o l kind r) = disjunct_starts l
  expression_starts (expressions.disjunct o l nx) = disjunct_starts l
