-- The form of a value without `!`, by its first two tokens.
use Rattle.std.proofs.Common.{◌≡◌, ◌≢◌, ℕ, Bool, true, false, cond, ◌&&◌, List, [], ◌∷◌, Option, Some, None, Ok, Err, IsTrue, is_some, codes, refl, ap, ◌∙◌}
use Rattle.std.specs.Str.{bytes_eq}
use denote.Enum.Bare.{same_true}
use Rattle.justfile_vocabulary.specs.contracts.token_kind.TokenKind.{the_type}
use Rattle.justfile_vocabulary.specs.declared.token_kind.TokenKind.{TokenKind}
use Rattle.justfile_vocabulary.specs.declared.token_kind.TokenKind.TheVariants as kinds
use Rattle.justfile_model.specs.Readers.ExpressionReader as expressions
use Rattle.justfile_model.specs.Readers.ReaderState as reading
use Rattle.justfile_model.specs.Readers.ReaderState.{◌>>=◌, choose, is_word, marked_by, same_kind, with_next}
use Rattle.justfile_model.specs.Trees.Tree.{Expr}
use Rattle.justfile_token.specs.declared.token.Token.{Token}
use Rattle.justfile_expression.specs.LeafTree.{Leaf}
use Rattle.justfile_parse_expression.specs.Chains.{bare}
use Rattle.justfile_parse_expression.specs.Significant.{TableToken, significant_of}
use Rattle.justfile_parse_expression.specs.TableReader as r
use Rattle.justfile_parse_expression.specs.TableReader.{Read, ReadExpr, State, accept, accept_keyword, accept_marked, leaves}
use Rattle.justfile_parse_expression.specs.ValueForms as values
use Rattle.justfile_parse_expression.specs.ValueForms.{BeginsWord, asserted, grouped, literal_or, missing, named}
use Rattle.justfile_parse_expression.proofs.Rules.{Taken, assert_is, group_is}

-- ---- a value is a literal or something else

abbrev then_value : Option (Expr Leaf Token) × State → ReadExpr
then_value l = expressions.literal_or leaves r.read l.0 l.1

found_is : (e : ReadExpr) → (e >>= expressions.found leaves >>= then_value) ≡ e
found_is (Ok x) = refl
found_is (Err f) = refl

bare_by : (string expanded single command : Taken) (s : State)
    → (choose {X = Read (Option (Expr Leaf Token))} string
    (choose {X = Read (Option (Expr Leaf Token))} expanded
    (choose {X = Read (Option (Expr Leaf Token))} single
    (choose {X = Read (Option (Expr Leaf Token))} command (Ok (None, s))
    (λ x. r.backtick x >>= expressions.found leaves))
    (λ x. r.whole_format_string x >>= expressions.found leaves))
    (λ x. r.literal_string true x >>= expressions.found leaves))
    (λ x. r.literal_string false x >>= expressions.found leaves) >>= then_value)
    ≡ choose {X = ReadExpr} string
    (choose {X = ReadExpr} expanded
    (choose {X = ReadExpr} single
    (choose {X = ReadExpr} command (r.format s) r.backtick)
    r.whole_format_string)
    (r.literal_string true))
    (r.literal_string false)
bare_by (Some x) expanded single command s = found_is (r.literal_string false x)
bare_by None (Some x) single command s = found_is (r.literal_string true x)
bare_by None None (Some x) command s = found_is (r.whole_format_string x)
bare_by None None None (Some x) s = found_is (r.backtick x)
bare_by None None None None s = refl

bare_is : (s : State) → bare s ≡ literal_or (r.format s) s
unfolding bare expressions.literal
bare_is s = bare_by (accept kinds.StringToken s) (accept_marked (codes "x") kinds.StringToken s) (accept_marked (codes "f") kinds.StringToken s) (accept kinds.Backtick s) s

-- ---- where a form comes next, nothing else is read

alone : (o : Taken) (a b : ReadExpr) (f : TableToken × State → ReadExpr) → is_some o ≡ true → choose o a f ≡ choose o b f
alone (Some x) a b f h = refl
alone None a b f h = absurd cc

none_of : (o : Taken) → is_some o ≡ false → o ≡ None
none_of None h = refl
none_of (Some x) h = absurd cc

module _ (s : State) where
  format_alone : is_some (accept_marked (codes "f") kinds.FormatStringStart s) ≡ true → r.format s ≡ values.format_string s
  unfolding expressions.format_rule values.format_string
  format_alone h = alone (accept_marked (codes "f") kinds.FormatStringStart s) (r.assert s) (missing s) r.format_string h

  assert_alone : is_some (accept_keyword (codes "assert") s) ≡ true → r.assert s ≡ values.assertion s
  unfolding values.assertion
  assert_alone h = assert_is s ∙ alone (accept_keyword (codes "assert") s) (r.name s) (missing s) asserted h

  name_alone : is_some (accept kinds.Identifier s) ≡ true → r.name s ≡ values.name s
  unfolding expressions.name_rule values.name r.call leaves
  name_alone h = alone (accept kinds.Identifier s) (r.group s) (missing s) named h

  group_alone : is_some (accept kinds.ParenL s) ≡ true → r.group s ≡ values.group s
  unfolding values.group
  group_alone h = group_is s ∙ alone (accept kinds.ParenL s) (r.list s) (missing s) grouped h

  -- ---- where a form does not come next

  no_literal : accept kinds.StringToken s ≡ None → accept_marked (codes "x") kinds.StringToken s ≡ None → accept_marked (codes "f") kinds.StringToken s ≡ None → accept kinds.Backtick s ≡ None
      → bare s ≡ r.format s
  no_literal string expanded single command = bare_is s ∙ rw (string, expanded, single, command) refl

  no_format : accept_marked (codes "f") kinds.FormatStringStart s ≡ None → r.format s ≡ r.assert s
  unfolding expressions.format_rule
  no_format h = rw h refl

  no_assert : accept_keyword (codes "assert") s ≡ None → r.assert s ≡ r.name s
  unfolding expressions.assert_rule
  no_assert h = rw h refl

  no_name : accept kinds.Identifier s ≡ None → r.name s ≡ r.group s
  unfolding expressions.name_rule
  no_name h = rw h refl

  no_group : accept kinds.ParenL s ≡ None → r.group s ≡ r.list s
  unfolding expressions.group_rule
  no_group h = rw h refl

  no_list : accept kinds.BracketL s ≡ None → r.list s ≡ missing s
  unfolding expressions.list_rule
  no_list h = rw h refl

-- ---- by the kind of the first token

module _ (m : TableToken) (rest : State) where
  abbrev here : State
  here = with_next m rest

  kind_here : (kind : TokenKind) → same_kind m.0.kind kind ≡ true → accept kind here ≡ Some (m, rest)
  unfolding reading.accept leaves
  kind_here kind h = ap (λ (b : Bool). cond {A = Taken} b (Some (m, rest)) None) h

  kind_left : (kind : TokenKind) → same_kind m.0.kind kind ≡ false → accept kind here ≡ None
  unfolding reading.accept leaves
  kind_left kind h = ap (λ (b : Bool). cond {A = Taken} b (Some (m, rest)) None) h

  no_word : (word : List ℕ) → same_kind m.0.kind kinds.Identifier ≡ false → is_word word (significant_of m) ≡ false
  unfolding is_word
  no_word word other = ap (λ (b : Bool). b && bytes_eq (significant_of m).tok.lexeme word) other

  word_left : (word : List ℕ) → same_kind m.0.kind kinds.Identifier ≡ false → accept_keyword word here ≡ None
  unfolding reading.accept_keyword leaves
  word_left word other = ap (λ (b : Bool). cond {A = Taken} b (Some (m, rest)) None) (no_word word other)

  mark_left : (word : List ℕ) (kind : TokenKind) → same_kind m.0.kind kinds.Identifier ≡ false → accept_marked word kind here ≡ None
  unfolding reading.accept_marked leaves
  mark_left word kind other = by_next rest.left
    where
      by_next : (ts : List TableToken) → marked_by leaves word kind here (m ∷ ts) ≡ None
      by_next [] = refl
      by_next (t ∷ ts) = ap (λ (b : Bool). cond {A = Taken} (b && same_kind t.0.kind kind && t.1) (Some (t, reading.at here ts)) None) (no_word word other)

  -- a word is none of the kinds that begin other literals
  module _ (word : same_kind m.0.kind kinds.Identifier ≡ false) where
    string_is : same_kind m.0.kind kinds.StringToken ≡ true → bare here ≡ values.literal here
    unfolding values.literal
    string_is h = bare_is here ∙ rw (kind_here kinds.StringToken h) refl

    command_is : same_kind m.0.kind kinds.StringToken ≡ false → same_kind m.0.kind kinds.Backtick ≡ true → bare here ≡ values.literal here
    unfolding values.literal
    command_is string h =
        bare_is here
        ∙ rw (kind_left kinds.StringToken string, mark_left (codes "x") kinds.StringToken word, mark_left (codes "f") kinds.StringToken word, kind_here kinds.Backtick h) refl

    module _ (string : same_kind m.0.kind kinds.StringToken ≡ false) (command : same_kind m.0.kind kinds.Backtick ≡ false) where
      no_word_form : bare here ≡ r.group here
      no_word_form =
          no_literal here (kind_left kinds.StringToken string) (mark_left (codes "x") kinds.StringToken word) (mark_left (codes "f") kinds.StringToken word) (kind_left kinds.Backtick command)
          ∙ no_format here (mark_left (codes "f") kinds.FormatStringStart word)
          ∙ no_assert here (word_left (codes "assert") word)
          ∙ no_name here (kind_left kinds.Identifier word)

      group_form : same_kind m.0.kind kinds.ParenL ≡ true → bare here ≡ values.group here
      group_form h = no_word_form ∙ group_alone here (ap is_some (kind_here kinds.ParenL h))

      module _ (paren : same_kind m.0.kind kinds.ParenL ≡ false) where
        list_form : bare here ≡ r.list here
        list_form = no_word_form ∙ no_group here (kind_left kinds.ParenL paren)

        missing_form : same_kind m.0.kind kinds.BracketL ≡ false → bare here ≡ missing here
        missing_form h = list_form ∙ no_list here (kind_left kinds.BracketL h)

-- ---- the same by equations

unlike : (a b : TokenKind) → a ≢ b → same_kind a b ≡ false
unfolding same_kind
unlike a b h = by_answer (same_kind a b) refl
  where
    by_answer : (c : Bool) → same_kind a b ≡ c → same_kind a b ≡ false
    by_answer true is = absurd (h (same_true the_type tt _ _ is))
    by_answer false is = is

module _ (m : TableToken) (rest : State) where
  like : (k kind : TokenKind) (b : Bool) → m.0.kind ≡ k → same_kind k kind ≡ b → same_kind m.0.kind kind ≡ b
  like k kind b is h = ap (λ (x : TokenKind). same_kind x kind) is ∙ h

  pub at_string : m.0.kind ≡ kinds.StringToken → bare (with_next m rest) ≡ values.literal (with_next m rest)
  unfolding same_kind
  at_string is = string_is m rest (like _ kinds.Identifier false is refl) (like _ kinds.StringToken true is refl)

  pub at_command : m.0.kind ≡ kinds.Backtick → bare (with_next m rest) ≡ values.literal (with_next m rest)
  unfolding same_kind
  at_command is = command_is m rest (like _ kinds.Identifier false is refl) (like _ kinds.StringToken false is refl) (like _ kinds.Backtick true is refl)

  pub at_group : m.0.kind ≡ kinds.ParenL → bare (with_next m rest) ≡ values.group (with_next m rest)
  unfolding same_kind
  at_group is = group_form m rest (like _ kinds.Identifier false is refl) (like _ kinds.StringToken false is refl) (like _ kinds.Backtick false is refl) (like _ kinds.ParenL true is refl)

  pub at_list : m.0.kind ≡ kinds.BracketL → bare (with_next m rest) ≡ r.list (with_next m rest)
  unfolding same_kind
  at_list is = list_form m rest (like _ kinds.Identifier false is refl) (like _ kinds.StringToken false is refl) (like _ kinds.Backtick false is refl) (like _ kinds.ParenL false is refl)

  pub at_other : m.0.kind ≢ kinds.StringToken → m.0.kind ≢ kinds.Backtick → m.0.kind ≢ kinds.Identifier → m.0.kind ≢ kinds.ParenL → m.0.kind ≢ kinds.BracketL
      → bare (with_next m rest) ≡ missing (with_next m rest)
  at_other string command word paren bracket = missing_form m rest (unlike _ _ word) (unlike _ _ string) (unlike _ _ command) (unlike _ _ paren) (unlike _ _ bracket)

  pub at_word : m.0.kind ≡ kinds.Identifier → BeginsWord (with_next m rest)
  unfolding same_kind
  at_word is = rw (kind_here m rest kinds.Identifier (like _ kinds.Identifier true is refl)) refl

-- ---- where no token is left

module _ (s : State) (none : s.left ≡ []) where
  kind_none : (kind : TokenKind) → accept kind s ≡ None
  unfolding reading.accept
  kind_none kind = rw none refl

  mark_none : (word : List ℕ) (kind : TokenKind) → accept_marked word kind s ≡ None
  unfolding reading.accept_marked
  mark_none word kind = rw none refl

  word_none : (word : List ℕ) → accept_keyword word s ≡ None
  unfolding reading.accept_keyword
  word_none word = rw none refl

  pub at_end : bare s ≡ missing s
  at_end =
      no_literal s (kind_none kinds.StringToken) (mark_none (codes "x") kinds.StringToken) (mark_none (codes "f") kinds.StringToken) (kind_none kinds.Backtick)
      ∙ no_format s (mark_none (codes "f") kinds.FormatStringStart)
      ∙ no_assert s (word_none (codes "assert"))
      ∙ no_name s (kind_none kinds.Identifier)
      ∙ no_group s (kind_none kinds.ParenL)
      ∙ no_list s (kind_none kinds.BracketL)

-- ---- where a word comes next

module _ (s : State) (word : BeginsWord s) where
  other_left : (kind : TokenKind) → same_kind kinds.Identifier kind ≡ false → accept kind s ≡ None
  unfolding reading.accept leaves same_kind
  other_left kind other = by_left s.left word
    where
      by_test : (t : TableToken) (ts : List TableToken) (b : Bool) → same_kind t.0.kind kinds.Identifier ≡ b → IsTrue (is_some (cond {A = Taken} b (Some (t, reading.at s ts)) None)) → cond {A = Taken} (same_kind t.0.kind kind) (Some (t, reading.at s ts)) None ≡ None
      by_test t ts true is h = ap (λ (b : Bool). cond {A = Taken} b (Some (t, reading.at s ts)) None) (like t s kinds.Identifier kind false (same_true the_type tt _ _ is) other)
      by_test t ts false is h = absurd cc

      by_left : (ts : List TableToken) → IsTrue (is_some (reading.accept_by leaves (λ t. same_kind t.tok.kind kinds.Identifier) s ts)) → reading.accept_by leaves (λ t. same_kind t.tok.kind kind) s ts ≡ None
      by_left [] h = absurd cc
      by_left (t ∷ ts) h = by_test t ts (same_kind t.0.kind kinds.Identifier) refl h

  no_string : accept kinds.StringToken s ≡ None
  unfolding same_kind
  no_string = other_left kinds.StringToken refl

  no_command : accept kinds.Backtick s ≡ None
  unfolding same_kind
  no_command = other_left kinds.Backtick refl

  pub at_expanded : is_some (accept_marked (codes "x") kinds.StringToken s) ≡ true → bare s ≡ values.literal s
  unfolding values.literal
  at_expanded h = bare_is s ∙ rw no_string (alone (accept_marked (codes "x") kinds.StringToken s) _ _ (r.literal_string true) h)

  module _ (expanded : is_some (accept_marked (codes "x") kinds.StringToken s) ≡ false) where
    pub at_single : is_some (accept_marked (codes "f") kinds.StringToken s) ≡ true → bare s ≡ values.literal s
    unfolding values.literal
    at_single h = bare_is s ∙ rw (no_string, none_of _ expanded) (alone (accept_marked (codes "f") kinds.StringToken s) _ _ r.whole_format_string h)

    module _ (single : is_some (accept_marked (codes "f") kinds.StringToken s) ≡ false) where
      unmarked : bare s ≡ r.format s
      unmarked = no_literal s no_string (none_of _ expanded) (none_of _ single) no_command

      pub at_format_string : is_some (accept_marked (codes "f") kinds.FormatStringStart s) ≡ true → bare s ≡ values.format_string s
      at_format_string h = unmarked ∙ format_alone s h

      module _ (format : is_some (accept_marked (codes "f") kinds.FormatStringStart s) ≡ false) where
        pub at_assertion : is_some (accept_keyword (codes "assert") s) ≡ true → bare s ≡ values.assertion s
        at_assertion h = unmarked ∙ no_format s (none_of _ format) ∙ assert_alone s h

        pub at_name : is_some (accept_keyword (codes "assert") s) ≡ false → bare s ≡ values.name s
        at_name h = unmarked ∙ no_format s (none_of _ format) ∙ no_assert s (none_of _ h) ∙ name_alone s word
