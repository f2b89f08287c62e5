-- If a part of an item derives, where the depth limit doesn't apply to expressions that begin at some tokens, it is parsed, or the error is
-- a literal without a text, the depth at one of these tokens, or a rule that it breaks.
use Rattle.std.proofs.Common.{◌≡◌, ℕ, true, false, ◌||◌, List, [], ◌∷◌, ◌++◌, ◌+◌, Option, Some, None, Ok, codes, refl, sym, ap, ◌∙◌, append-nil, arith}
use Rattle.justfile_vocabulary.specs.declared.keyword.Keyword.{Keyword}
use Rattle.justfile_vocabulary.specs.declared.token_kind.TokenKind.TheVariants as kinds
use Rattle.justfile_model.specs.Grammars.Conditions.{Conditions}
use Rattle.justfile_model.specs.Grammars.Expressions.{Tokens, IsKind, IsWord, NotNext, PastLimitAt}
use Rattle.justfile_model.specs.Grammars.Features.{Noted}
use Rattle.justfile_model.specs.Grammars.Files.{quoted_literals, setting_literals}
use Rattle.justfile_model.specs.Readers.HeaderReader.{next_binding_number, with_bindings}
use Rattle.justfile_model.specs.Grammars.ItemParts as g
use Rattle.justfile_model.specs.Grammars.ItemParts.{EndsLine, FilePath, Names, NoPath, ValueOf}
use Rattle.justfile_model.specs.LiteralTexts.Literals.{string_of}
use Rattle.justfile_model.specs.Readers.PartReader as r
use Rattle.justfile_model.specs.Readers.PartReader.{after_numbered}
use Rattle.justfile_model.specs.Meanings.ReadAttribute.{token_view}
use Rattle.justfile_model.specs.Readers.ReaderState.{Counters, is_word}
use Rattle.justfile_model.specs.Meanings.Rules.{Broken}
use Rattle.justfile_model.specs.Meanings.SettingRules.{value_broken}
use Rattle.justfile_model.specs.Grammars.Settings.{PlainForm, SettingForm}
use Rattle.justfile_model.specs.Lexing.SignificantTokens.{SignificantToken}
use Rattle.justfile_model.specs.Lexing.Tok.{Tok}
use Rattle.justfile_model.specs.Trees.Tree as tree
use Rattle.justfile_model.specs.Trees.Tree.{Quoted, SettingValue, itself}
use Rattle.justfile_model.specs.Readers.TreeReader.{token_leaves}
use Rattle.justfile_model.proofs.Readers.Counters.{after_parameters}
use Rattle.justfile_model.proofs.Completeness.ExpressionDeep.{expression_deep, sequence_deep}
use Rattle.justfile_model.proofs.Completeness.HeaderComplete.{obeying_reached}
use Rattle.justfile_model.proofs.Completeness.HeaderCovers.{not_there}
use Rattle.justfile_model.proofs.Readers.PartReading.{names_is}
use Rattle.justfile_model.proofs.Completeness.Reaching as plain
use Rattle.justfile_model.proofs.Completeness.Reaching.{Reaches}
use Rattle.justfile_model.proofs.Completeness.ReachingRules.{Among, ReachesOne, last_one, pass, plainly, read_now, renoted}
use Rattle.justfile_model.proofs.Readers.WordsComplete.{line_taken, or_true}
use Rattle.justfile_model.proofs.Readers.Steps.{AreNext, accept_left, accept_taken, expect_taken, input, is_false, next_left, next_taken, word_is, word_test}

-- the token of a path's literal
abbrev pub path_token : {path : Quoted Tok} {ts rest : Tokens} → FilePath itself path ts rest → SignificantToken
path_token (g.plain {token = t} kind) = t
path_token (g.expanded {token = t} is kind) = t

pub path_token_is : {path : Quoted Tok} {ts rest : Tokens} (p : FilePath itself path ts rest) → (path_token p).tok ≡ path.token
path_token_is (g.plain kind) = refl
path_token_is (g.expanded is kind) = refl

-- a path comes next
pub path_begins : (conditions : Conditions) (ns : List (Noted Tok)) {path : Quoted Tok} (ts : Tokens) {rest : Tokens} → FilePath itself path ts rest
    → r.begins_path token_leaves (input conditions 0 ts ns) ≡ true
path_begins conditions ns ts (g.plain kind) = rw (next_taken (kinds.StringToken ∷ []) (input conditions 0 ts ns) (kind, tt)) refl
path_begins conditions ns ts (g.expanded is kind) =
    rw (
      next_left (kinds.StringToken ∷ []) (input conditions 0 ts ns) (λ h. let first = h.0 in let name = is.is_name in cc),
      next_taken (kinds.Identifier ∷ kinds.StringToken ∷ []) (input conditions 0 ts ns) (is.is_name, (kind, tt)),
    ) refl

-- and no mark
pub path_unmarked : {path : Quoted Tok} {ts rest : Tokens} → FilePath itself path ts rest → NotNext kinds.QuestionMark ts
path_unmarked (g.plain kind) = λ e. cc
path_unmarked (g.expanded is kind) = λ e. let name = is.is_name in cc

ends_apart : {ts : Tokens} → EndsLine ts → NotNext kinds.ColonEquals ts
ends_apart (g.at_comment kind) = λ e. cc
ends_apart (g.at_line_end kind) = λ e. cc
ends_apart (g.at_file_end kind) = λ e. cc

-- no path comes next where the line ends
pub ends_pathless : {ts : Tokens} → EndsLine ts → NoPath ts
ends_pathless (g.at_comment {rest = []} kind) = record { unmarked = λ e. cc; marked = tt }
ends_pathless (g.at_comment {rest = t ∷ ts} kind) = record { unmarked = λ e. cc; marked = λ e k. cc }
ends_pathless (g.at_line_end {rest = []} kind) = record { unmarked = λ e. cc; marked = tt }
ends_pathless (g.at_line_end {rest = t ∷ ts} kind) = record { unmarked = λ e. cc; marked = λ e k. cc }
ends_pathless (g.at_file_end {rest = []} kind) = record { unmarked = λ e. cc; marked = tt }
ends_pathless (g.at_file_end {rest = t ∷ ts} kind) = record { unmarked = λ e. cc; marked = λ e k. cc }

pub no_path_begins : (conditions : Conditions) (ns : List (Noted Tok)) (ts : Tokens) → NoPath ts → r.begins_path token_leaves (input conditions 0 ts ns) ≡ false
no_path_begins conditions ns ts n =
    rw (
      next_left (kinds.StringToken ∷ []) (input conditions 0 ts ns) (not_there kinds.StringToken ts n.unmarked),
      next_left (kinds.Identifier ∷ kinds.StringToken ∷ []) (input conditions 0 ts ns) (named ts n),
    ) refl
  where
    named : (ts : Tokens) → NoPath ts → (h : AreNext (kinds.Identifier ∷ kinds.StringToken ∷ []) ts) → ⊥
    named [] n h = h
    named (t ∷ []) n h = h.1
    named (t ∷ u ∷ ts) n h = n.marked h.0 h.1.0

-- a module's name and its path
pub module_follows : (conditions : Conditions) (ns : List (Noted Tok)) (name : SignificantToken) {path : Quoted Tok} (ts : Tokens) {rest : Tokens}
    → IsKind kinds.Identifier name → FilePath itself path ts rest → r.is_module token_leaves (input conditions 0 (name ∷ ts) ns) ≡ true
module_follows conditions ns name ts kind (g.plain {token = t} kind2) =
    rw (
      next_left (kinds.QuestionMark ∷ []) (input conditions 0 (name ∷ ts) ns) (λ h. let first = h.0 in cc),
      next_left (kinds.Identifier ∷ kinds.Comment ∷ []) (input conditions 0 (name ∷ ts) ns) (λ h. let second = h.1.0 in cc),
      next_left (kinds.Identifier ∷ kinds.Eol ∷ []) (input conditions 0 (name ∷ ts) ns) (λ h. let second = h.1.0 in cc),
      next_left (kinds.Identifier ∷ kinds.Eof ∷ []) (input conditions 0 (name ∷ ts) ns) (λ h. let second = h.1.0 in cc),
      next_taken (kinds.Identifier ∷ kinds.StringToken ∷ []) (input conditions 0 (name ∷ ts) ns) (kind, (kind2, tt)),
    ) refl
module_follows conditions ns name ts kind (g.expanded {mark = m} {token = t} is kind2) =
    let mark : IsKind kinds.Identifier m = is.is_name in
    rw (
      next_left (kinds.QuestionMark ∷ []) (input conditions 0 (name ∷ ts) ns) (λ h. let first = h.0 in cc),
      next_left (kinds.Identifier ∷ kinds.Comment ∷ []) (input conditions 0 (name ∷ ts) ns) (λ h. let second = h.1.0 in cc),
      next_left (kinds.Identifier ∷ kinds.Eol ∷ []) (input conditions 0 (name ∷ ts) ns) (λ h. let second = h.1.0 in cc),
      next_left (kinds.Identifier ∷ kinds.Eof ∷ []) (input conditions 0 (name ∷ ts) ns) (λ h. let second = h.1.0 in cc),
      next_left (kinds.Identifier ∷ kinds.StringToken ∷ []) (input conditions 0 (name ∷ ts) ns) (λ h. let second = h.1.0 in cc),
      next_taken (kinds.Identifier ∷ kinds.Identifier ∷ kinds.StringToken ∷ []) (input conditions 0 (name ∷ ts) ns) (kind, (is.is_name, (kind2, tt))),
    ) refl

-- a setting's name and its value
pub setting_follows : (conditions : Conditions) (ns : List (Noted Tok)) {MayEnter : ℕ → Option SignificantToken → Type 0} (name : SignificantToken) {form : SettingForm}
    {value : SettingValue Tok Tok} {fs : List (Noted Tok)} (ts : Tokens) {rest : Tokens} → IsKind kinds.Identifier name → ValueOf itself itself MayEnter form value fs ts rest
    → r.is_set token_leaves (input conditions 0 (name ∷ ts) ns) ≡ true
setting_follows conditions ns name ts kind (g.bare ends) =
    ap (λ b. r.peek_assignment token_leaves (input conditions 0 (name ∷ ts) ns) || b) (line_taken conditions ns name ts kind ends) ∙ or_true conditions ns _
setting_follows conditions ns name ts kind (g.yes k is) = rw (next_taken (kinds.Identifier ∷ kinds.ColonEquals ∷ []) (input conditions 0 (name ∷ ts) ns) (kind, (k, tt))) refl
setting_follows conditions ns name ts kind (g.no k is) = rw (next_taken (kinds.Identifier ∷ kinds.ColonEquals ∷ []) (input conditions 0 (name ∷ ts) ns) (kind, (k, tt))) refl
setting_follows conditions ns name ts kind (g.expression k e) = rw (next_taken (kinds.Identifier ∷ kinds.ColonEquals ∷ []) (input conditions 0 (name ∷ ts) ns) (kind, (k, tt))) refl
setting_follows conditions ns name ts kind (g.plain k e) = rw (next_taken (kinds.Identifier ∷ kinds.ColonEquals ∷ []) (input conditions 0 (name ∷ ts) ns) (kind, (k, tt))) refl
setting_follows conditions ns name ts kind (g.interpreter k l es) = rw (next_taken (kinds.Identifier ∷ kinds.ColonEquals ∷ []) (input conditions 0 (name ∷ ts) ns) (kind, (k, tt))) refl

module _ (conditions : Conditions) (Hit : Option SignificantToken → Type 0) where
  abbrev MayEnter : ℕ → Option SignificantToken → Type 0
  MayEnter = PastLimitAt conditions.limit Hit

  -- ---- paths of files

  pub file_path_reached : (ns : List (Noted Tok)) {path : Quoted Tok} {ts rest : Tokens} (p : FilePath itself path ts rest)
      → Reaches conditions Hit (r.file_path token_leaves (input conditions 0 ts ns)) ((path_token p, path), input conditions 0 rest ns) (quoted_literals path)
  unfolding r.file_path r.expansion_mark
  file_path_reached ns {rest = rest} (g.plain {token = t} kind) =
      rw (accept_left kinds.Identifier (t ∷ rest) conditions 0 ns (λ e. cc), expect_taken kinds.StringToken t rest conditions 0 ns kind)
      (plain.pass conditions Hit _ (plain.cooked conditions Hit (r.quoted_of token_leaves false) (string_of false) (string_of false t.tok) t refl refl) refl)
  file_path_reached ns {rest = rest} (g.expanded {mark = m} {token = t} is kind) =
      rw (
        accept_taken kinds.Identifier m (t ∷ rest) conditions 0 ns is.is_name,
        word_test (codes "x") m is,
        expect_taken kinds.StringToken t rest conditions 0 ns kind,
      )
      (plain.pass conditions Hit _ (plain.cooked conditions Hit (r.quoted_of token_leaves true) (string_of true) (string_of true t.tok) t refl refl) refl)

  pub path_reached : (ns : List (Noted Tok)) {path : Quoted Tok} {ts rest : Tokens} → FilePath itself path ts rest
      → Reaches conditions Hit (r.optional_path token_leaves (input conditions 0 ts ns)) (Some path, input conditions 0 rest ns) (quoted_literals path)
  unfolding r.optional_path
  path_reached ns {ts = ts} p = rw (path_begins conditions ns ts p) (plain.pass conditions Hit _ (file_path_reached ns p) refl)

  pub no_path_read : (ns : List (Noted Tok)) (ts : Tokens) → NoPath ts → r.optional_path token_leaves (input conditions 0 ts ns) ≡ Ok (None, input conditions 0 ts ns)
  unfolding r.optional_path
  no_path_read ns ts n = rw (no_path_begins conditions ns ts n) refl

  -- ---- the parameters of functions

  pub names_read : (n : Counters) (ns : List (Noted Tok)) {names : List Tok} {ts rest : Tokens} → Names itself names ts rest
      → r.names token_leaves (n, input conditions 0 ts ns) ≡ Ok ((names, after_parameters n names), input conditions 0 rest ns)
  unfolding r.names_rule r.numbered_name r.names_end next_binding_number after_numbered
  names_read n ns {rest = rest} (g.none {closer = t} kind) =
      names_is token_leaves (n, input conditions 0 (t ∷ rest) ns) ∙ rw (accept_taken kinds.ParenR t rest conditions 0 ns kind) refl
  names_read n ns {rest = rest} (g.last {name = t} {closer = u} kind kind2) =
      names_is token_leaves (n, input conditions 0 (t ∷ u ∷ rest) ns)
      ∙ rw (
        accept_left kinds.ParenR (t ∷ u ∷ rest) conditions 0 ns (λ e. cc),
        expect_taken kinds.Identifier t (u ∷ rest) conditions 0 ns kind,
        accept_left kinds.Comma (u ∷ rest) conditions 0 ns (λ e. cc),
        expect_taken kinds.ParenR u rest conditions 0 ns kind2,
      ) refl
  names_read n ns {rest = rest} (g.more {name = t} {comma = u} {tokens = ts} kind kind2 others) =
      names_is token_leaves (n, input conditions 0 (t ∷ u ∷ ts) ns)
      ∙ rw (
        accept_left kinds.ParenR (t ∷ u ∷ ts) conditions 0 ns (λ e. cc),
        expect_taken kinds.Identifier t (u ∷ ts) conditions 0 ns kind,
        accept_taken kinds.Comma u ts conditions 0 ns kind2,
        names_read (with_bindings (n.bindings + 1) n) ns others,
      ) refl

  -- ---- settings

  -- `false` is not `true`
  not_true : (t : SignificantToken) → IsWord (codes "false") t → is_word (codes "true") t ≡ false
  not_true t is = is_false (is_word (codes "true") t) (λ e. apart (sym is.spelled ∙ (word_is (codes "true") t e).spelled))
    where
      apart : codes "false" ≡ codes "true" → ⊥
      apart e = cc

  pub value_reached : (name : SignificantToken) (keyword : Keyword) (ns : List (Noted Tok)) {form : SettingForm} {value : SettingValue Tok Tok} {fs : List (Noted Tok)}
      {ts rest : Tokens} {rules : List (Broken Tok)} → ValueOf itself itself MayEnter form value fs ts rest
      → Among (value_broken conditions.current (token_view conditions) (Some form) keyword name.tok value) rules
      → ReachesOne conditions Hit (r.setting_value token_leaves token_view name keyword (Some form) (input conditions 0 ts ns))
      (value, input conditions 0 rest (ns ++ fs)) (setting_literals value) rules
  unfolding r.truth r.truth_of r.interpreter r.expression_value r.plain_value
  value_reached name keyword ns {ts = ts} (g.bare ends) h =
      renoted conditions Hit (sym (append-nil ns)) (read_now conditions Hit _ refl (rw (accept_left kinds.ColonEquals ts conditions 0 ns (ends_apart ends)) refl))
  value_reached name keyword ns {rest = rest} (g.yes {operator = t} {word = u} kind is) h =
      renoted conditions Hit (sym (append-nil ns)) (read_now conditions Hit _ refl
      (rw (
        accept_taken kinds.ColonEquals t (u ∷ rest) conditions 0 ns kind,
        expect_taken kinds.Identifier u rest conditions 0 ns is.is_name,
        word_test (codes "true") u is,
      ) refl))
  value_reached name keyword ns {rest = rest} (g.no {operator = t} {word = u} kind is) h =
      renoted conditions Hit (sym (append-nil ns)) (read_now conditions Hit _ refl
      (rw (
        accept_taken kinds.ColonEquals t (u ∷ rest) conditions 0 ns kind,
        expect_taken kinds.Identifier u rest conditions 0 ns is.is_name,
        not_true u is,
        word_test (codes "false") u is,
      ) refl))
  value_reached name keyword ns (g.expression {operator = t} {tokens = us} kind e) h =
      rw (expect_taken kinds.ColonEquals t us conditions 0 ns kind)
      (pass conditions Hit _ (plainly conditions Hit (expression_deep conditions Hit ns false (omega arith) e)) refl)
  value_reached name keyword ns {rest = rest} (g.plain {e = e} {fs = fs} {operator = t} {tokens = us} kind v) h =
      let rules = value_broken conditions.current (token_view conditions) (Some PlainForm) keyword name.tok (tree.Value e) in
      rw (expect_taken kinds.ColonEquals t us conditions 0 ns kind)
      (last_one conditions Hit _ _ (pass conditions Hit _ (plainly conditions Hit (expression_deep conditions Hit ns false (omega arith) v)) refl) (λ _.
      pass conditions Hit _ (obeying_reached conditions Hit rules (input conditions 0 rest (ns ++ fs)) h) refl))
  value_reached name keyword ns (g.interpreter {operator = t} {opener = u} {tokens = us} kind kind2 all) h =
      rw (expect_taken kinds.ColonEquals t (u ∷ us) conditions 0 ns kind, expect_taken kinds.BracketL u us conditions 0 ns kind2)
      (pass conditions Hit _ (plainly conditions Hit (sequence_deep conditions Hit ns (omega arith) (λ e. cc) all)) refl)
