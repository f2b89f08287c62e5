-- An expression that any text derives is good: its lexemes have their properties.
use Rattle.std.proofs.Common.{◌≡◌, ℕ, Bool, true, false, List, [], ◌∷◌, Option, Some, None, refl, subst, arith}
use Rattle.std.specs.Str.{IsUtf8}
use Rattle.justfile_token.specs.declared.string_kind.StringKind.{StringKind}
use Rattle.justfile_vocabulary.specs.declared.token_kind.TokenKind.{TokenKind}
use Rattle.justfile_vocabulary.specs.declared.token_kind.TokenKind.TheVariants as kinds
use Rattle.justfile_token.specs.StringKind.{kind_of}
use Rattle.justfile_model.specs.declared.conditional_operator.ConditionalOperator.{ConditionalOperator}
use Rattle.justfile_model.specs.declared.conditional_operator.ConditionalOperator.TheVariants.{Equality}
use Rattle.justfile_model.specs.Lexing.SignificantTokens.{SignificantToken}
use Rattle.justfile_model.specs.Trees.Tree.{lexeme, nothing}
use Rattle.justfile_model.specs.Grammars.Expressions as g
use Rattle.justfile_model.specs.Grammars.Expressions.{Tokens, IsKind, operator_kind, BelowLimit, Expression, Disjunct, Compared, Conjunct, Condition, Braced, Conditional, Value, Sequence, FormatParts}
use Rattle.justfile_round_trip.proofs.Canon as canon
use Rattle.justfile_round_trip.proofs.Canon.{Shown, Values, ShapeParts}
use Rattle.justfile_round_trip.proofs.Good.{GoodValue, GoodValues, GoodParts, GoodExpression, significant, ends_value}
use Rattle.justfile_round_trip.proofs.Items.GoodContents.{GoodSequence}
use Rattle.justfile_round_trip.proofs.Values.TokenFacts.{Around, around, Known, LexemeFact, is_comment, Sound}
use Rattle.justfile_round_trip.proofs.Ends.{End, tail, EndsIn}
use Rattle.justfile_round_trip.proofs.Back.{StopE, here_too, stop_before, ends_before, expression_back, sequence_back, lower}

-- ---- along a derivation

pub fact_as : {s : Around} {c : Bool} (t : SignificantToken) (k : TokenKind) → IsKind k t → Known s c t.tok → LexemeFact s k t.tok.lexeme
fact_as {s} t k e h = subst (λ x. LexemeFact s x t.tok.lexeme) e h.fact

-- and it is UTF-8
pub known_as : {s : Around} {c : Bool} (t : SignificantToken) (k : TokenKind) → IsKind k t → Known s c t.tok → LexemeFact s k t.tok.lexeme × IsUtf8 t.tok.lexeme
known_as t k e h = (fact_as t k e h, h.utf8)

pub past : (s : Around) (t : SignificantToken) (ts : Tokens) (k : TokenKind) → IsKind k t → Sound (around t.tok.kind t.tok.lexeme s) (is_comment t.tok.kind) ts → Sound (around k t.tok.lexeme s) (is_comment k) ts
past s t ts k e h = subst (λ x. Sound (around x t.tok.lexeme s) (is_comment x) ts) e h

operator_around : (by : ConditionalOperator) (s : Around) (l : List ℕ) → around (operator_kind by) l s ≡ s
operator_around Equality s l = refl
operator_around _ s l = refl

-- the tokens that an expression may hold
abbrev pub quiet : TokenKind → Bool
quiet kinds.Colon = false
quiet kinds.Indent = false
quiet kinds.Dedent = false
quiet kinds.Eol = false
quiet kinds.Text = false
quiet kinds.Whitespace = false
quiet kinds.InterpolationStart = false
quiet kinds.InterpolationEnd = false
quiet kinds.Comment = false
quiet _ = true

operator_quiet : (by : ConditionalOperator) → quiet (operator_kind by) ≡ true
operator_quiet Equality = refl
operator_quiet _ = refl

quiet_no_comment : (k : TokenKind) → quiet k ≡ true → is_comment k ≡ false
quiet_no_comment kinds.Comment h = cc
quiet_no_comment _ h = refl

-- the open delimiters inside one more
abbrev pub within : Around → Option StringKind → Around
within s o = record { openers = o ∷ s.openers; interpolation = s.interpolation }

-- Of the tokens in a text: what is open around them and known of each of them, and another property. A comment is the token before them, or not.
pub record Before (W : Tokens → Type 0) (s : Around) (c : Bool) (ts : Tokens) : Type 0 where
  pub facts : Sound s c ts
  pub bodies : W ts

-- a part that is good, and the properties of the tokens after it
pub record PassedBy (W : Tokens → Type 0) (s : Around) (Good : Type 0) (rest : Tokens) : Type 0 where
  pub good : Good
  pub following : Before W s false rest

-- what each token of an expression keeps is kept by the expression
module _ (MayEnter : ℕ → Option SignificantToken → Type 0) (W : Tokens → Type 0) (step : (k : TokenKind) (t : SignificantToken) (rest : Tokens) → IsKind k t → quiet k ≡ true → W (t ∷ rest) → W rest) where
  -- past a token, after which this is open
  on : {s : Around} {c : Bool} (s' : Around) (t : SignificantToken) (ts : Tokens) (k : TokenKind) → IsKind k t → around k t.tok.lexeme s ≡ s' → quiet k ≡ true → Before W s c (t ∷ ts) → Before W s' false ts
  on {s} s' t ts k e same q h = record {
    facts = subst (λ b. Sound s' b ts) (quiet_no_comment k q) (subst (λ x. Sound x (is_comment k) ts) same (past s t ts k e h.facts.2));
    bodies = step k t ts e q h.bodies;
  }

  mutual
    pub value_at : {condition : Bool} {d : ℕ} {e : canon.Value} {fs : Shown} {ts rest : Tokens} → Expression lexeme nothing MayEnter condition d e fs ts rest → (s : Around) {c : Bool} → Before W s c ts → PassedBy W s (GoodValue e) rest
    value_at (g.or {operator = t} {following = ts} o l kind r) s h =
        let x = disjunct_at l s h in
        let y = value_at r s (on s t ts kinds.BarBar kind refl refl x.following) in
        record { good = (x.good, y.good); following = y.following }
    value_at (g.disjunct o l next) s h = disjunct_at l s h

    disjunct_at : {condition : Bool} {d : ℕ} {e : canon.Value} {fs : Shown} {ts rest : Tokens} → Disjunct lexeme nothing MayEnter condition d e fs ts rest → (s : Around) {c : Bool} → Before W s c ts → PassedBy W s (GoodValue e) rest
    disjunct_at (g.and {operator = t} {following = ts} l kind r) s h =
        let x = compared_at l s h in
        let y = disjunct_at r s (on s t ts kinds.AmpersandAmpersand kind refl refl x.following) in
        record { good = (x.good, y.good); following = y.following }
    disjunct_at (g.comparison l next) s h = compared_at l s h

    compared_at : {condition : Bool} {d : ℕ} {e : canon.Value} {fs : Shown} {ts rest : Tokens} → Compared lexeme nothing MayEnter condition d e fs ts rest → (s : Around) {c : Bool} → Before W s c ts → PassedBy W s (GoodValue e) rest
    compared_at (g.compare {operator = t} {following = ts} by l kind r) s h =
        let x = conjunct_at l s h in
        let y = conjunct_at r s (on s t ts (operator_kind by) kind (operator_around by s _) (operator_quiet by) x.following) in
        record { good = (x.good, y.good); following = y.following }
    compared_at (g.conjunct l next) s h = conjunct_at l s h

    conjunct_at : {d : ℕ} {e : canon.Value} {fs : Shown} {ts rest : Tokens} → Conjunct lexeme nothing MayEnter d e fs ts rest → (s : Around) {c : Bool} → Before W s c ts → PassedBy W s (GoodValue e) rest
    conjunct_at (g.conditional {word = t} {tokens = ts} i x) s h = conditional_at x s (on s t ts kinds.Identifier i.is_name refl refl h)
    conjunct_at (g.root {operator = t} {tokens = ts} kind r) s h =
        let y = conjunct_at r s (on s t ts kinds.Slash kind refl refl h) in
        record { good = y.good; following = y.following }
    conjunct_at (g.join {operator = t} {following = ts} next l kind r) s h =
        let x = one_at l s h in
        let y = conjunct_at r s (on s t ts kinds.Slash kind refl refl x.following) in
        record { good = (x.good, y.good); following = y.following }
    conjunct_at (g.list_concatenation {operator = t} {following = ts} next l kind r) s h =
        let x = one_at l s h in
        let y = conjunct_at r s (on s t ts kinds.PlusPlus kind refl refl x.following) in
        record { good = (x.good, y.good); following = y.following }
    conjunct_at (g.concatenation {operator = t} {following = ts} next l kind r) s h =
        let x = one_at l s h in
        let y = conjunct_at r s (on s t ts kinds.Plus kind refl refl x.following) in
        record { good = (x.good, y.good); following = y.following }
    conjunct_at (g.value next v unjoined) s h = one_at v s h

    condition_at : {d : ℕ} {e : canon.Value} {fs : Shown} {ts rest : Tokens} → Condition lexeme nothing MayEnter d e fs ts rest → (s : Around) {c : Bool} → Before W s c ts → PassedBy W s (GoodValue e) rest
    condition_at (g.condition x) s h = value_at x s h

    braced_at : {d : ℕ} {e : canon.Value} {fs : Shown} {ts rest : Tokens} → Braced lexeme nothing MayEnter d e fs ts rest → (s : Around) {c : Bool} → Before W s c ts → PassedBy W s (GoodValue e) rest
    braced_at (g.braces {opener = t} {closer = u} {following = ts} {rest = rest} kind x kind2) s h =
        let y = value_at x (within s None) (on (within s None) t ts kinds.BraceL kind refl refl h) in
        record { good = y.good; following = on s u rest kinds.BraceR kind2 refl refl y.following }

    -- after the `if`
    conditional_at : {d : ℕ} {word : SignificantToken} {e : canon.Value} {fs : Shown} {ts rest : Tokens} → Conditional lexeme nothing MayEnter d word e fs ts rest → (s : Around) {c : Bool} → Before W s c ts → PassedBy W s (GoodValue e) rest
    conditional_at (g.if_only c b next) s h =
        let x = condition_at c s h in
        let y = braced_at b s x.following in
        record { good = (x.good, y.good); following = y.following }
    conditional_at (g.if_else {otherwise = t} {other = ts} c b is o next) s h =
        let x = condition_at c s h in
        let y = braced_at b s x.following in
        let z = braced_at o s (on s t ts kinds.Identifier is.is_name refl refl y.following) in
        record { good = (x.good, y.good, z.good); following = z.following }
    conditional_at (g.else_if {otherwise = t} {again = t2} {other = ts} c b is i o) s h =
        let x = condition_at c s h in
        let y = braced_at b s x.following in
        let z = conditional_at o s (on s t2 ts kinds.Identifier i.is_name refl refl (on s t (t2 ∷ ts) kinds.Identifier is.is_name refl refl y.following)) in
        record { good = (x.good, y.good, z.good); following = z.following }

    pub one_at : {d : ℕ} {e : canon.Value} {fs : Shown} {ts rest : Tokens} → Value lexeme nothing MayEnter d e fs ts rest → (s : Around) {c : Bool} → Before W s c ts → PassedBy W s (GoodValue e) rest
    one_at (g.not {bang = t} {tokens = ts} kind v) s h =
        let y = one_at v s (on s t ts kinds.Bang kind refl refl h) in
        record { good = y.good; following = y.following }
    one_at (g.literal {token = t} {rest = rest} kind) s h =
        record { good = known_as t kinds.StringToken kind h.facts.0; following = on s t rest kinds.StringToken kind refl refl h }
    one_at (g.expanded {mark = m} {token = t} {rest = rest} marked) s h =
        let k = on s m (t ∷ rest) kinds.Identifier marked.marks.is_name refl refl h in
        record { good = known_as t kinds.StringToken marked.is_string k.facts.0; following = on s t rest kinds.StringToken marked.is_string refl refl k }
    one_at (g.format_literal {mark = m} {token = t} {rest = rest} marked) s h =
        let k = on s m (t ∷ rest) kinds.Identifier marked.marks.is_name refl refl h in
        record { good = (h.facts.1 marked.marks.is_name marked.marks.spelled marked.glued marked.is_string, k.facts.0.utf8); following = on s t rest kinds.StringToken marked.is_string refl refl k }
    one_at (g.format_string {mark = m} {start = t} {tokens = ts} marked x ps) s h =
        let k = on s m (t ∷ ts) kinds.Identifier marked.marks.is_name refl refl h in
        let start : StringKind = kind_of t.tok.lexeme in
        let y = value_at x (within s (Some start)) (on (within s (Some start)) t ts kinds.FormatStringStart marked.is_string refl refl k) in
        let z = parts_at ps s start y.following in
        record { good = (known_as t kinds.FormatStringStart marked.is_string k.facts.0, y.good, z.good); following = z.following }
    one_at (g.backtick {token = t} {rest = rest} kind) s h =
        record { good = known_as t kinds.Backtick kind h.facts.0; following = on s t rest kinds.Backtick kind refl refl h }
    one_at (g.assert {word = w} {opener = t} {closer = v} {tokens = ts} {rest = rest} is kind x kind2) s h =
        let k = on s w (t ∷ ts) kinds.Identifier is.is_name refl refl h in
        let y = condition_at x (within s None) (on (within s None) t ts kinds.ParenL kind refl refl k) in
        record { good = y.good; following = on s v rest kinds.ParenR kind2 refl refl y.following }
    one_at (g.assert_message {word = w} {opener = t} {comma = a} {closer = v} {tokens = ts} {following = bs} {rest = rest} is kind x kind2 m kind3) s h =
        let k = on s w (t ∷ ts) kinds.Identifier is.is_name refl refl h in
        let y = condition_at x (within s None) (on (within s None) t ts kinds.ParenL kind refl refl k) in
        let z = value_at m (within s None) (on (within s None) a bs kinds.Comma kind2 refl refl y.following) in
        record { good = (y.good, z.good); following = on s v rest kinds.ParenR kind3 refl refl z.following }
    one_at (g.variable {name = t} {rest = rest} kind no_assert unmarked next) s h =
        record { good = fact_as t kinds.Identifier kind h.facts.0; following = on s t rest kinds.Identifier kind refl refl h }
    one_at (g.call {name = n} {opener = t} {tokens = ts} kind no_assert kind2 xs) s h =
        let k = on s n (t ∷ ts) kinds.Identifier kind refl refl h in
        let y = sequence_at xs s (within s None) (λ l. refl) refl (on (within s None) t ts kinds.ParenL kind2 refl refl k) in
        record { good = (fact_as n kinds.Identifier kind h.facts.0, y.good); following = y.following }
    one_at (g.group {opener = t} {closer = v} {following = ts} {rest = rest} kind x kind2) s h =
        let y = value_at x (within s None) (on (within s None) t ts kinds.ParenL kind refl refl h) in
        record { good = y.good; following = on s v rest kinds.ParenR kind2 refl refl y.following }
    one_at (g.list {opener = t} {tokens = ts} kind xs) s h =
        let y = sequence_at xs s (within s None) (λ l. refl) refl (on (within s None) t ts kinds.BracketL kind refl refl h) in
        record { good = y.good; following = y.following }

    -- up to the closing delimiter of the sequence
    pub sequence_at : {closing : TokenKind} {d : ℕ} {es : Values} {fs : Shown} {ts rest : Tokens} → Sequence lexeme nothing MayEnter closing d es fs ts rest → (s inside : Around) → ((l : List ℕ) → around closing l inside ≡ s) → quiet closing ≡ true
        → {c : Bool} → Before W inside c ts → PassedBy W s (GoodValues es) rest
    sequence_at {closing} (g.none {closer = t} {rest = rest} kind) s inside shut silent h =
        record { good = tt; following = on s t rest closing kind (shut t.tok.lexeme) silent h }
    sequence_at {closing} (g.last {closer = t} {rest = rest} next x kind) s inside shut silent h =
        let y = value_at x inside h in
        record { good = (y.good, tt); following = on s t rest closing kind (shut t.tok.lexeme) silent y.following }
    sequence_at (g.more {comma = t} {following = ts} next x kind xs) s inside shut silent h =
        let y = value_at x inside h in
        let z = sequence_at xs s inside shut silent (on inside t ts kinds.Comma kind refl refl y.following) in
        record { good = (y.good, z.good); following = z.following }

    -- inside a format string of this kind, up to its end
    parts_at : {d : ℕ} {ps : ShapeParts} {fs : Shown} {ts rest : Tokens} → FormatParts lexeme nothing MayEnter d ps fs ts rest → (s : Around) (k : StringKind) {c : Bool} → Before W (within s (Some k)) c ts → PassedBy W s (GoodParts k ps) rest
    parts_at (g.end {token = t} {rest = rest} kind) s k h =
        record { good = known_as t kinds.FormatStringEnd kind h.facts.0; following = on s t rest kinds.FormatStringEnd kind refl refl h }
    parts_at (g.next {token = t} {tokens = ts} kind x ps) s k h =
        let y = value_at x (within s (Some k)) (on (within s (Some k)) t ts kinds.FormatStringContinue kind refl refl h) in
        let z = parts_at ps s k y.following in
        record { good = (known_as t kinds.FormatStringContinue kind h.facts.0, y.good, z.good); following = z.following }

-- ---- a value that no other is open around

pub stops : (x : End) (us : Tokens) → ends_value us ≡ true → EndsIn x us × StopE us
stops x [] h = cc
stops x (t ∷ ts) h = (ends_before x t ts (here_too t.tok.kind h), stop_before t ts h)

pub good_expression : (limit : ℕ) {e : canon.Value} {fs : Shown} {ts rest : Tokens} → Expression lexeme nothing (BelowLimit limit) false 0 e fs ts rest → GoodValue e → GoodExpression limit e
good_expression limit {e = e} {fs} x v = record {
  lexes = v;
  features = fs;
  derives = λ glued on stop. let q = stops (tail e) (significant true on) stop in expression_back (BelowLimit limit) (BelowLimit limit) (lower limit) x 0 (omega arith) glued on q.0 q.1;
}

pub good_sequence : (limit : ℕ) {es : Values} {fs : Shown} {ts rest : Tokens} → Sequence lexeme nothing (BelowLimit limit) kinds.BracketR 0 es fs ts rest → GoodValues es → GoodSequence limit es
good_sequence limit {fs = fs} xs v = record {
  lexes = v;
  features = fs;
  derives = λ glued on. sequence_back (BelowLimit limit) (BelowLimit limit) (lower limit) false xs refl 0 (omega arith) glued on;
}
