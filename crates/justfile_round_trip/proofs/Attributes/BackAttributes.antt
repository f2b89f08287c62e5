-- The printer's tokens for good attributes derive them.
use Rattle.std.proofs.Common.{◌≡◌, ℕ, Bool, true, false, List, [], ◌∷◌, ◌++◌, Option, Some, None, refl, sym, subst, ◌∙◌, cond}
use Rattle.justfile_vocabulary.specs.declared.token_kind.TokenKind.TheVariants as kinds
use Rattle.justfile_model.specs.Meanings.AttributeKinds.{name_takes_keys}
use Rattle.justfile_model.specs.Grammars.AttributeLines as g
use Rattle.justfile_model.specs.Grammars.AttributeLines.{IsKey, ArgumentOf, Arguments, AttributeOf, AttributesEnd, AttributeLines}
use Rattle.justfile_model.specs.Grammars.Expressions.{Tokens, IsKind, NotNext, BelowLimit, Expression}
use Rattle.justfile_model.specs.Lexing.SignificantTokens.{SignificantToken, is_whitespace}
use Rattle.justfile_model.specs.Trees.Tree as tree
use Rattle.justfile_model.specs.Trees.Tree.{bare_attribute, commented_line, lexeme, nothing}
use Rattle.justfile_round_trip.proofs.LiteralTexts.LexedModes.{Sign, placed, newline}
use Rattle.justfile_round_trip.proofs.Back.{none_but_closing}
use Rattle.justfile_round_trip.proofs.Canon as canon
use Rattle.justfile_round_trip.proofs.Canon.{Shown, word, paren_right, expr_signs}
use Rattle.justfile_round_trip.proofs.Attributes.CanonAttributes.{Argument, Written, ShapeEntry, bracket_right, argument_signs, other_arguments_signs, parenthesized_signs, comment_signs, attributes_signs, entries_signs}
use Rattle.justfile_model.specs.Printed.PrintedAttributes.{rewritten_entries}
use Rattle.justfile_round_trip.proofs.Good.{significant, ends_value, GoodOptionalComment}
use Rattle.justfile_round_trip.proofs.Attributes.GoodAttributes.{is_literal, GoodArgument, GoodArguments, AllGoodWritten, GoodEntries}

-- ---- the first token, and the tokens that follow

-- the list has a token
data Begun : Tokens → Type 0 where
  begun : {t : SignificantToken} {ts : Tokens} → Begun (t ∷ ts)

-- there is one for each token of the printer, or the end
begins : (glued : Bool) (ts : List Sign) → Begun (significant glued ts)
begins glued [] = begun
begins glued (t ∷ ts) = by (is_whitespace t.kind) (begins false ts)
  where
    by : (w : Bool) → Begun (significant false ts)
        → Begun (cond w (significant false ts) (record { tok = placed t 0 0 0; glued = glued } ∷ significant true ts))
    by true more = more
    by false more = begun

-- a name before a token that closes is a key
is_key : (t : SignificantToken) (ts : Tokens) → IsKind kinds.Identifier t → ends_value ts ≡ true → IsKey (t ∷ ts)
is_key t [] kind h = kind
is_key t (u ∷ ts) kind h = (kind, λ m. none_but_closing kinds.StringToken (u ∷ ts) refl h m.is_string)

string_no_key : (t : SignificantToken) (ts : Tokens) → IsKind kinds.StringToken t → IsKey (t ∷ ts) → ⊥
string_no_key t [] kind k = let bad : kinds.StringToken ≡ kinds.Identifier = sym kind ∙ k in cc
string_no_key t (u ∷ ts) kind k = let bad : kinds.StringToken ≡ kinds.Identifier = sym kind ∙ k.0 in cc

-- a literal isn't a key
literal_no_key : (e : canon.Value) (glued : Bool) (on : List Sign) → is_literal e ≡ true → IsKey (significant glued (expr_signs e on)) → ⊥
literal_no_key (tree.StringLiteral true l) glued on h k = k.1 (record { marks = record { is_name = refl; spelled = refl }; is_string = refl; glued = refl })
literal_no_key (tree.StringLiteral false l) glued on h k = string_no_key _ _ refl k
literal_no_key _ glued on h k = cc

-- whether the token after the attributes is glued: only if there are no attributes, since each ends its line
abbrev pub glued_after : List Written → Bool → Bool
glued_after [] glued = glued
glued_after (w ∷ ws) glued = glued_after ws true

module _ (limit : ℕ) where
  positional : (keys : Bool) {e : canon.Value} {fs : Shown} {ts rest : Tokens} → Begun ts → (keys ≡ true → IsKey ts → ⊥)
      → Expression lexeme nothing (BelowLimit limit) false 0 e fs ts rest
      → ArgumentOf lexeme nothing (BelowLimit limit) keys (tree.Positional tt e) fs ts rest
  positional keys begun no_key x = g.positional no_key x

  argument_back : (keys : Bool) (a : Argument) (glued : Bool) (on : List Sign) → GoodArgument limit keys a → ends_value (significant true on) ≡ true
      → (fs : Shown) × ArgumentOf lexeme nothing (BelowLimit limit) keys a fs (significant glued (argument_signs a on)) (significant true on)
  argument_back keys (tree.Positional first value) glued on h stop =
      (h.0.features, positional keys (begins glued (expr_signs value on)) (λ k. literal_no_key value glued on (h.1 k)) (h.0.derives glued on stop))
  argument_back true (tree.Bare key) glued on h stop = ([], g.bare (is_key _ _ refl stop) (none_but_closing kinds.Equals _ refl stop))
  argument_back true (tree.Keyed key value) glued on h stop = (h.2.features, g.keyed refl refl (h.2.derives true on stop))
  argument_back _ _ glued on h stop = let bad = h.1 in cc

  arguments_back : (keys : Bool) (a : Argument) (arguments : List Argument) (glued : Bool) (on : List Sign) → GoodArguments limit keys (a ∷ arguments)
      → (fs : Shown) × Arguments lexeme nothing (BelowLimit limit) keys (a ∷ arguments) fs (significant glued (argument_signs a (other_arguments_signs arguments (paren_right ∷ on)))) (significant true on)
  arguments_back keys a [] glued on h = let r = argument_back keys a glued (paren_right ∷ on) h.0 refl in (r.0, g.last r.1 refl)
  arguments_back keys a (b ∷ arguments) glued on h =
      let r = argument_back keys a glued (other_arguments_signs (b ∷ arguments) (paren_right ∷ on)) h.0 refl in
      let q = arguments_back keys b arguments false on h.1 in
      (r.0 ++ q.0, g.more r.1 refl q.1)

  -- a name and its arguments, up to the closing bracket
  attribute_back : (name : List ℕ) (arguments : List Argument) (on : List Sign) → GoodArguments limit (name_takes_keys name) arguments
      → (fs : Shown) × AttributeOf lexeme nothing (BelowLimit limit) (bare_attribute name arguments) fs (significant true (word name ∷ parenthesized_signs arguments (bracket_right ∷ on))) (significant true (bracket_right ∷ on))
  attribute_back name [] on h = ([], g.plain refl (λ e. cc) (λ e. cc))
  attribute_back name (a ∷ arguments) on h =
      let r = arguments_back (name_takes_keys name) a arguments true (bracket_right ∷ on) h in (r.0, g.long refl refl r.1)

  -- the end of a line of attributes
  end_back : (comment : Option (List ℕ)) (on : List Sign) → GoodOptionalComment comment
      → AttributesEnd lexeme nothing (BelowLimit limit) comment (significant true (comment_signs comment (newline ∷ on))) (significant true on)
  end_back None on h = g.bare refl
  end_back (Some t) on h =
      subst (λ x. AttributesEnd lexeme nothing (BelowLimit limit) (Some x) (significant true (comment_signs (Some t) (newline ∷ on))) (significant true on)) h.trimmed
      (g.commented refl refl)

  -- the line of one attribute
  line_is : (name : List ℕ) (arguments : List Argument) (comment : Option (List ℕ))
      → commented_line comment (bare_attribute {B = Unit {0}} name arguments ∷ []) ≡ record { name = name; arguments = arguments; comment = comment } ∷ []
  line_is name arguments None = refl
  line_is name arguments (Some t) = refl

  -- lines of attributes before a token that doesn't begin another one
  pub attributes_back : (ws : List Written) (glued : Bool) (on : List Sign) → AllGoodWritten limit ws
      → NotNext kinds.BracketL (significant (glued_after ws glued) on)
      → (fs : Shown) × AttributeLines lexeme nothing (BelowLimit limit) ws fs (significant glued (attributes_signs ws on)) (significant (glued_after ws glued) on)
  attributes_back [] glued on h next = ([], g.none next)
  attributes_back (w ∷ ws) glued on h next =
      let r = attribute_back w.name w.arguments (comment_signs w.comment (newline ∷ attributes_signs ws on)) h.0.arguments in
      let q = attributes_back ws true on h.1 next in
      let line = g.line {ws = bare_attribute w.name w.arguments ∷ []} refl (g.last r.1 refl) (end_back w.comment (attributes_signs ws on) h.0.comment) q.1 in (
        r.0 ++ q.0,
        subst (λ all. AttributeLines lexeme nothing (BelowLimit limit) (all ++ ws) (r.0 ++ q.0) (significant glued (attributes_signs (w ∷ ws) on))
            (significant (glued_after ws true) on)) (line_is w.name w.arguments w.comment) line,
      )

  pub entries_back : (entries : List ShapeEntry) (glued : Bool) (on : List Sign) → GoodEntries limit entries
      → NotNext kinds.BracketL (significant (glued_after (rewritten_entries entries) glued) on)
      → (fs : Shown) × AttributeLines lexeme nothing (BelowLimit limit) (rewritten_entries entries) fs (significant glued (entries_signs entries on)) (significant (glued_after (rewritten_entries entries) glued) on)
  entries_back entries glued on h next = attributes_back (rewritten_entries entries) glued on h next
