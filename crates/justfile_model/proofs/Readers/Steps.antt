-- The steps of the parser over significant tokens: which tokens are next.
use Rattle.std.proofs.Common.{◌≡◌, ℕ, Bool, true, false, ◌&&◌, ◌||◌, cond, List, [], ◌∷◌, Option, Some, None, Result, Ok, Err, IfOk, refl, sym, subst, ap, ◌∙◌}
use Rattle.std.specs.Str.{bytes_eq}
use Rattle.std.proofs.lemmas.Bool.{and_parts}
use Rattle.std.proofs.lemmas.Slice.Eq.{bytes_eq-Decides}
use denote.Enum.Bare.{same_true, true_same}
use Rattle.justfile_vocabulary.specs.contracts.token_kind.TokenKind.{the_type}
use Rattle.justfile_vocabulary.specs.declared.token_kind.TokenKind.{TokenKind}
use Rattle.justfile_vocabulary.specs.declared.token_kind.TokenKind.TheVariants as kinds
use Rattle.justfile_model.specs.declared.conditional_operator.ConditionalOperator.{ConditionalOperator}
use Rattle.justfile_model.specs.declared.conditional_operator.ConditionalOperator.TheVariants.{Equality, Inequality, RegexMatch, RegexMismatch}
use Rattle.justfile_model.specs.declared.level.Level.{Level}
use Rattle.justfile_model.specs.declared.level.Level.TheVariants as levels
use Rattle.justfile_model.specs.declared.operator.Operator.{Operator}
use Rattle.justfile_model.specs.declared.operator.Operator.TheVariants as operators
use Rattle.justfile_model.specs.Trees.Operators.{is_at, operator_of}
use Rattle.justfile_model.specs.Lexing.Tok.{Tok}
use Rattle.justfile_model.specs.Lexing.SignificantTokens.{SignificantToken}
use Rattle.justfile_model.specs.Grammars.Features.{Noted}
use Rattle.justfile_model.specs.Grammars.Conditions.{Conditions}
use Rattle.justfile_model.specs.Grammars.Expressions.{Tokens, IsKind, NotNext, IsWord, NotWord, IsMarked, NotMarked, operator_kind, NotCompared, NotJoined}
use Rattle.justfile_model.specs.Readers.ReaderState.{Unexpected, ◌>>=◌, at, refused, same_kind, accept_by, accept, is_word, accept_keyword, marked_by, marks, accept_marked, choose, expect, begin_with, next_are}
use Rattle.justfile_model.specs.Readers.ExpressionReader as r
use Rattle.justfile_model.specs.Readers.ExpressionReader.{accept_operator, met_at, operator_by}
use Rattle.justfile_model.specs.Readers.TreeReader.{ReadError, State, Taken, token_leaves}

-- in this run at this depth, these tokens are left, and these features were noted
abbrev pub input : Conditions → ℕ → Tokens → List (Noted Tok) → State
input conditions depth tokens noted = record { run = conditions; depth = depth; left = tokens; noted = noted }

pub is_false : (b : Bool) → (b ≡ true → ⊥) → b ≡ false
is_false true h = absurd (h refl)
is_false false h = refl

-- either test passes
pub one_of : {X : Type 0} (a b : Bool) → (a || b) ≡ true → (a ≡ true → X) → (b ≡ true → X) → X
one_of true b h x y = x refl
one_of false b h x y = y h

pub true_not_false : (b : Bool) → b ≡ true → b ≡ false → ⊥
true_not_false b e f = cc

both_true : (x y : Bool) → x ≡ true → y ≡ true → (x && y) ≡ true
both_true x y e f = rw (e, f) refl

-- ---- a token that passes a test

tested : (t : SignificantToken) (X : State) (Q : Type 0) (P : Taken → Type 0) (b : Bool) → (b ≡ true → Q) → (Q → b ≡ true) → ((Q → ⊥) → P None) → (Q → P (Some (t, X))) → P (cond b (Some (t, X)) None)
tested t X Q P true is test not_here here = here (is refl)
tested t X Q P false is test not_here here = not_here (λ q. true_not_false false (test q) refl)

-- ---- a token of a kind

kind_is : (kind : TokenKind) (t : SignificantToken) → same_kind t.tok.kind kind ≡ true → IsKind kind t
unfolding same_kind
kind_is kind t h = same_true the_type tt _ _ h

kind_test : (kind : TokenKind) (t : SignificantToken) → IsKind kind t → same_kind t.tok.kind kind ≡ true
unfolding same_kind
kind_test kind t h = true_same the_type _ _ h

-- either no such token comes next, or one does
pub after_accept : (kind : TokenKind) (s : State) (P : Taken → Type 0) → (NotNext kind s.left → P None) → ((t : SignificantToken) (rest : Tokens) → s.left ≡ t ∷ rest → IsKind kind t → P (Some (t, at s rest))) → P (accept token_leaves kind s)
unfolding accept
after_accept kind s P = go s.left
  where
    go : (ts : Tokens) → (NotNext kind ts → P None) → ((t : SignificantToken) (rest : Tokens) → ts ≡ t ∷ rest → IsKind kind t → P (Some (t, at s rest))) → P (accept_by token_leaves (λ t. same_kind t.tok.kind kind) s ts)
    go [] not_here here = not_here tt
    go (t ∷ ts) not_here here = tested t (at s ts) (IsKind kind t) P (same_kind t.tok.kind kind) (kind_is kind t) (kind_test kind t) not_here (here t ts refl)

pub accept_taken : (kind : TokenKind) (t : SignificantToken) (ts : Tokens) (C : Conditions) (d : ℕ) (ns : List (Noted Tok)) → IsKind kind t → accept token_leaves kind (input C d (t ∷ ts) ns) ≡ Some (t, input C d ts ns)
unfolding accept
accept_taken kind t ts C d ns e = rw (kind_test kind t e) refl

pub accept_left : (kind : TokenKind) (ts : Tokens) (C : Conditions) (d : ℕ) (ns : List (Noted Tok)) → NotNext kind ts → accept token_leaves kind (input C d ts ns) ≡ None
unfolding accept
accept_left kind [] C d ns h = refl
accept_left kind (t ∷ ts) C d ns h = rw (is_false (same_kind t.tok.kind kind) (λ e. h (kind_is kind t e))) refl

-- ---- tokens of these kinds

-- the next tokens are of these kinds
abbrev pub AreNext : List TokenKind → Tokens → Type 0
AreNext [] ts = Unit {0}
AreNext (kind ∷ kinds) [] = ⊥
AreNext (kind ∷ kinds) (t ∷ ts) = IsKind kind t × AreNext kinds ts

begins : (kinds : List TokenKind) (ts : Tokens) → begin_with token_leaves kinds ts ≡ true → AreNext kinds ts
unfolding begin_with
begins [] ts h = tt
begins (kind ∷ kinds) [] h = cc
begins (kind ∷ kinds) (t ∷ ts) h =
    let parts = and_parts (same_kind t.tok.kind kind) (begin_with token_leaves kinds ts) h in
    (kind_is kind t parts.0, begins kinds ts parts.1)

begins_taken : (kinds : List TokenKind) (ts : Tokens) → AreNext kinds ts → begin_with token_leaves kinds ts ≡ true
unfolding begin_with
begins_taken [] ts h = refl
begins_taken (kind ∷ kinds) [] h = absurd h
begins_taken (kind ∷ kinds) (t ∷ ts) h = both_true (same_kind t.tok.kind kind) (begin_with token_leaves kinds ts) (kind_test kind t h.0) (begins_taken kinds ts h.1)

pub are_next : (kinds : List TokenKind) (s : State) → next_are token_leaves kinds s ≡ true → AreNext kinds s.left
are_next kinds s h = begins kinds s.left h

pub next_taken : (kinds : List TokenKind) (s : State) → AreNext kinds s.left → next_are token_leaves kinds s ≡ true
next_taken kinds s h = begins_taken kinds s.left h

pub next_left : (kinds : List TokenKind) (s : State) → (AreNext kinds s.left → ⊥) → next_are token_leaves kinds s ≡ false
next_left kinds s h = is_false (next_are token_leaves kinds s) (λ e. h (are_next kinds s e))

-- ---- a keyword

pub word_is : (word : List ℕ) (t : SignificantToken) → is_word word t ≡ true → IsWord word t
unfolding is_word
word_is word t h =
    let parts = and_parts (same_kind t.tok.kind kinds.Identifier) (bytes_eq t.tok.lexeme word) h in
    record { is_name = kind_is kinds.Identifier t parts.0; spelled = (bytes_eq-Decides t.tok.lexeme word).0 parts.1 }

pub word_test : (word : List ℕ) (t : SignificantToken) → IsWord word t → is_word word t ≡ true
unfolding is_word
word_test word t h = both_true (same_kind t.tok.kind kinds.Identifier) (bytes_eq t.tok.lexeme word) (kind_test kinds.Identifier t h.is_name) ((bytes_eq-Decides t.tok.lexeme word).1 h.spelled)

pub after_word : (word : List ℕ) (s : State) (P : Taken → Type 0) → (NotWord word s.left → P None) → ((t : SignificantToken) (rest : Tokens) → s.left ≡ t ∷ rest → IsWord word t → P (Some (t, at s rest))) → P (accept_keyword token_leaves word s)
unfolding accept_keyword
after_word word s P = go s.left
  where
    go : (ts : Tokens) → (NotWord word ts → P None) → ((t : SignificantToken) (rest : Tokens) → ts ≡ t ∷ rest → IsWord word t → P (Some (t, at s rest))) → P (accept_by token_leaves (is_word word) s ts)
    go [] not_here here = not_here tt
    go (t ∷ ts) not_here here = tested t (at s ts) (IsWord word t) P (is_word word t) (word_is word t) (word_test word t) not_here (here t ts refl)

pub word_taken : (word : List ℕ) (t : SignificantToken) (ts : Tokens) (C : Conditions) (d : ℕ) (ns : List (Noted Tok)) → IsWord word t → accept_keyword token_leaves word (input C d (t ∷ ts) ns) ≡ Some (t, input C d ts ns)
unfolding accept_keyword
word_taken word t ts C d ns e = rw (word_test word t e) refl

pub word_left : (word : List ℕ) (ts : Tokens) (C : Conditions) (d : ℕ) (ns : List (Noted Tok)) → NotWord word ts → accept_keyword token_leaves word (input C d ts ns) ≡ None
unfolding accept_keyword
word_left word [] C d ns h = refl
word_left word (t ∷ ts) C d ns h = rw (is_false (is_word word t) (λ e. h (word_is word t e))) refl

-- ---- a string that a name marks

-- the tokens begin with none
abbrev pub NoMark : List ℕ → TokenKind → Tokens → Type 0
NoMark word kind [] = Unit {0}
NoMark word kind (m ∷ ts) = NotMarked word kind m ts

marked_is : (word : List ℕ) (kind : TokenKind) (m t : SignificantToken) → marks word kind m t ≡ true → IsMarked word kind m t
marked_is word kind m t h =
    let parts = and_parts (is_word word m && same_kind t.tok.kind kind) t.glued h in
    let tokens = and_parts (is_word word m) (same_kind t.tok.kind kind) parts.0 in
    record { marks = word_is word m tokens.0; is_string = kind_is kind t tokens.1; glued = parts.1 }

marked_test : (word : List ℕ) (kind : TokenKind) (m t : SignificantToken) → IsMarked word kind m t → marks word kind m t ≡ true
marked_test word kind m t h =
    both_true (is_word word m && same_kind t.tok.kind kind) t.glued
    (both_true (is_word word m) (same_kind t.tok.kind kind) (word_test word m h.marks) (kind_test kind t h.is_string))
    h.glued

pub after_marked : (word : List ℕ) (kind : TokenKind) (s : State) (P : Taken → Type 0) → (NoMark word kind s.left → P None) → ((m t : SignificantToken) (rest : Tokens) → s.left ≡ m ∷ t ∷ rest → IsMarked word kind m t → P (Some (t, at s rest))) → P (accept_marked token_leaves word kind s)
unfolding accept_marked
after_marked word kind s P = go s.left
  where
    go : (ts : Tokens) → (NoMark word kind ts → P None) → ((m t : SignificantToken) (rest : Tokens) → ts ≡ m ∷ t ∷ rest → IsMarked word kind m t → P (Some (t, at s rest))) → P (marked_by token_leaves word kind s ts)
    go [] not_here here = not_here tt
    go (m ∷ []) not_here here = not_here tt
    go (m ∷ t ∷ ts) not_here here = tested t (at s ts) (IsMarked word kind m t) P (marks word kind m t) (marked_is word kind m t) (marked_test word kind m t) not_here (here m t ts refl)

pub marked_taken : (word : List ℕ) (kind : TokenKind) (m t : SignificantToken) (ts : Tokens) (C : Conditions) (d : ℕ) (ns : List (Noted Tok)) → IsMarked word kind m t → accept_marked token_leaves word kind (input C d (m ∷ t ∷ ts) ns) ≡ Some (t, input C d ts ns)
unfolding accept_marked
marked_taken word kind m t ts C d ns e = rw (marked_test word kind m t e) refl

pub marked_left : (word : List ℕ) (kind : TokenKind) (ts : Tokens) (C : Conditions) (d : ℕ) (ns : List (Noted Tok)) → NoMark word kind ts → accept_marked token_leaves word kind (input C d ts ns) ≡ None
unfolding accept_marked
marked_left word kind [] C d ns h = refl
marked_left word kind (m ∷ []) C d ns h = refl
marked_left word kind (m ∷ t ∷ ts) C d ns h = rw (is_false (marks word kind m t) (λ e. h (marked_is word kind m t e))) refl

-- ---- choices

pub after_choose : {A : Type 0} (kind : TokenKind) (s : State) (x : A) (f : SignificantToken × State → A) (P : A → Type 0) → (NotNext kind s.left → P x) → ((t : SignificantToken) (rest : Tokens) → s.left ≡ t ∷ rest → IsKind kind t → P (f (t, at s rest))) → P (choose (accept token_leaves kind s) x f)
after_choose kind s x f P = after_accept kind s (λ o. P (choose o x f))

pub after_choose_word : {A : Type 0} (word : List ℕ) (s : State) (x : A) (f : SignificantToken × State → A) (P : A → Type 0) → (NotWord word s.left → P x) → ((t : SignificantToken) (rest : Tokens) → s.left ≡ t ∷ rest → IsWord word t → P (f (t, at s rest))) → P (choose (accept_keyword token_leaves word s) x f)
after_choose_word word s x f P = after_word word s (λ o. P (choose o x f))

pub after_choose_marked : {A : Type 0} (word : List ℕ) (kind : TokenKind) (s : State) (x : A) (f : SignificantToken × State → A) (P : A → Type 0) → (NoMark word kind s.left → P x) → ((m t : SignificantToken) (rest : Tokens) → s.left ≡ m ∷ t ∷ rest → IsMarked word kind m t → P (f (t, at s rest))) → P (choose (accept_marked token_leaves word kind s) x f)
after_choose_marked word kind s x f P = after_marked word kind s (λ o. P (choose o x f))

pub expect_taken : (kind : TokenKind) (t : SignificantToken) (ts : Tokens) (C : Conditions) (d : ℕ) (ns : List (Noted Tok)) → IsKind kind t → expect token_leaves kind (input C d (t ∷ ts) ns) ≡ Ok (t, input C d ts ns)
unfolding expect
expect_taken kind t ts C d ns e = rw (accept_taken kind t ts C d ns e) refl

-- if the token is the expected one, it is read
pub after_expect : {B : Type 0} (kind : TokenKind) (s : State) (f : SignificantToken × State → Result B ReadError) (P : Result B ReadError → Type 0) → ((e : ReadError) → P (Err e)) → ((t : SignificantToken) (rest : Tokens) → s.left ≡ t ∷ rest → IsKind kind t → P (f (t, at s rest))) → P (expect token_leaves kind s >>= f)
unfolding expect
after_expect kind s f P fails goes = after_accept kind s (λ o. P (choose o (Err (refused Unexpected s)) (λ x. Ok x) >>= f)) (λ not. fails _) goes

-- ---- what holds of the result, if there is one

pub data Holds {A : Type 0} (P : A → Type 0) : Result A ReadError → Type 0 where
  holds : {x : A} → P x → Holds P (Ok x)
  failed : {e : ReadError} → Holds P (Err e)

pub if_ok : {A : Type 0} {P : A → Type 0} {found : Result A ReadError} → Holds P found → IfOk found P
if_ok (holds h) = h
if_ok failed = tt

pub of_ok : {A : Type 0} {P : A → Type 0} (found : Result A ReadError) → IfOk found P → Holds P found
of_ok (Ok x) h = holds h
of_ok (Err e) h = failed

-- of what was read
pub held : {A : Type 0} {P : A → Type 0} {found : Result A ReadError} (x : A) → found ≡ Ok x → Holds P found → P x
held {P = P} x is h = subst (λ o. IfOk o P) is (if_ok h)

-- what follows from it
pub weaken : {A : Type 0} {P Q : A → Type 0} {found : Result A ReadError} → Holds P found → ((x : A) → P x → Q x) → Holds Q found
weaken (holds {x = x} h) f = holds (f x h)
weaken failed f = failed

-- what holds after one step and another
pub read_then : {A B : Type 0} {P : A → Type 0} {Q : B → Type 0} {found : Result A ReadError} {f : A → Result B ReadError} → Holds P found → ((x : A) → P x → Holds Q (f x)) → Holds Q (found >>= f)
read_then (holds {x = x} h) k = k x h
read_then failed k = failed

-- where a token comes next or not, and where one is expected
module _ {A : Type 0} {P : A → Type 0} where
  pub if_next : (kind : TokenKind) (s : State) {x : Result A ReadError} (f : SignificantToken × State → Result A ReadError) → (NotNext kind s.left → Holds P x)
      → ((t : SignificantToken) (rest : Tokens) → s.left ≡ t ∷ rest → IsKind kind t → Holds P (f (t, at s rest))) → Holds P (choose (accept token_leaves kind s) x f)
  if_next kind s {x} f = after_choose kind s x f (Holds P)

  pub if_word : (word : List ℕ) (s : State) {x : Result A ReadError} (f : SignificantToken × State → Result A ReadError) → (NotWord word s.left → Holds P x)
      → ((t : SignificantToken) (rest : Tokens) → s.left ≡ t ∷ rest → IsWord word t → Holds P (f (t, at s rest))) → Holds P (choose (accept_keyword token_leaves word s) x f)
  if_word word s {x} f = after_choose_word word s x f (Holds P)

  pub if_marked : (word : List ℕ) (kind : TokenKind) (s : State) {x : Result A ReadError} (f : SignificantToken × State → Result A ReadError) → (NoMark word kind s.left → Holds P x)
      → ((m t : SignificantToken) (rest : Tokens) → s.left ≡ m ∷ t ∷ rest → IsMarked word kind m t → Holds P (f (t, at s rest)))
      → Holds P (choose (accept_marked token_leaves word kind s) x f)
  if_marked word kind s {x} f = after_choose_marked word kind s x f (Holds P)

  pub if_expected : (kind : TokenKind) (s : State) (f : SignificantToken × State → Result A ReadError)
      → ((t : SignificantToken) (rest : Tokens) → s.left ≡ t ∷ rest → IsKind kind t → Holds P (f (t, at s rest))) → Holds P (expect token_leaves kind s >>= f)
  if_expected kind s f = after_expect kind s f (Holds P) (λ e. failed)

-- ---- an operator

-- the token that an operator is
abbrev pub operator_token : Operator → TokenKind
operator_token operators.Or = kinds.BarBar
operator_token operators.And = kinds.AmpersandAmpersand
operator_token (operators.Compare by) = operator_kind by
operator_token operators.Join = kinds.Slash
operator_token operators.ListConcatenation = kinds.PlusPlus
operator_token operators.Concatenation = kinds.Plus

token_operator : (o : Operator) → operator_of (operator_token o) ≡ Some o
token_operator (operators.Compare Equality) = refl
token_operator (operators.Compare _) = refl
token_operator _ = refl

same_token : (kind : TokenKind) (p o : Operator) → kind ≡ operator_token p → ◌≡◌ {A = Option Operator} (Some p) (Some o) → kind ≡ operator_token o
same_token kind p o is e = let same : p ≡ o = cc in is ∙ ap operator_token same

is_operator : (kind : TokenKind) (o : Operator) → operator_of kind ≡ Some o → kind ≡ operator_token o
is_operator kinds.BarBar o e = same_token kinds.BarBar operators.Or o refl e
is_operator kinds.AmpersandAmpersand o e = same_token kinds.AmpersandAmpersand operators.And o refl e
is_operator kinds.BangEquals o e = same_token kinds.BangEquals (operators.Compare Inequality) o refl e
is_operator kinds.EqualsTilde o e = same_token kinds.EqualsTilde (operators.Compare RegexMatch) o refl e
is_operator kinds.BangTilde o e = same_token kinds.BangTilde (operators.Compare RegexMismatch) o refl e
is_operator kinds.EqualsEquals o e = same_token kinds.EqualsEquals (operators.Compare Equality) o refl e
is_operator kinds.Slash o e = same_token kinds.Slash operators.Join o refl e
is_operator kinds.PlusPlus o e = same_token kinds.PlusPlus operators.ListConcatenation o refl e
is_operator kinds.Plus o e = same_token kinds.Plus operators.Concatenation o refl e
is_operator _ o e = cc

-- an operator that was taken, and what is left
abbrev pub TakenOperator : Type 0
TakenOperator = r.Met Conditions SignificantToken Tok

-- no operator of the level comes next
abbrev pub NoOperator : Level → Tokens → Type 0
NoOperator level ts = (o : Operator) → is_at level o ≡ true → NotNext (operator_token o) ts

-- either none comes next, or one does
after_operator : (level : Level) (s : State) (P : TakenOperator → Type 0) → (NoOperator level s.left → P None)
    → ((o : Operator) (t : SignificantToken) (rest : Tokens) → is_at level o ≡ true → s.left ≡ t ∷ rest → IsKind (operator_token o) t → P (Some (o, t, at s rest))) → P (accept_operator token_leaves level s)
unfolding accept_operator
after_operator level s P = go s.left
  where
    other : (t : SignificantToken) (o : Operator) → operator_of t.tok.kind ≡ None → IsKind (operator_token o) t → ⊥
    other t o e k = let same : operator_of t.tok.kind ≡ Some o = ap operator_of k ∙ token_operator o in cc

    not_at : (t : SignificantToken) (o p : Operator) → operator_of t.tok.kind ≡ Some o → is_at level o ≡ false → is_at level p ≡ true → IsKind (operator_token p) t → ⊥
    not_at t o p e apart fits k =
        let same : operator_of t.tok.kind ≡ Some p = ap operator_of k ∙ token_operator p in
        let one : o ≡ p = cc in
        true_not_false (is_at level p) fits (sym (ap (is_at level) one) ∙ apart)

    by_level : (t : SignificantToken) (ts : Tokens) (o : Operator) (b : Bool) → operator_of t.tok.kind ≡ Some o → is_at level o ≡ b → (NoOperator level (t ∷ ts) → P None)
        → ((o : Operator) (u : SignificantToken) (rest : Tokens) → is_at level o ≡ true → ◌≡◌ {A = Tokens} (t ∷ ts) (u ∷ rest) → IsKind (operator_token o) u → P (Some (o, u, at s rest))) → P (cond b (Some (o, t, at s ts)) None)
    by_level t ts o true e is not_here here = here o t ts is refl (is_operator t.tok.kind o e)
    by_level t ts o false e is not_here here = not_here (λ p fits. not_at t o p e is fits)

    by_kind : (t : SignificantToken) (ts : Tokens) (o : Option Operator) → operator_of t.tok.kind ≡ o → (NoOperator level (t ∷ ts) → P None)
        → ((o : Operator) (u : SignificantToken) (rest : Tokens) → is_at level o ≡ true → ◌≡◌ {A = Tokens} (t ∷ ts) (u ∷ rest) → IsKind (operator_token o) u → P (Some (o, u, at s rest))) → P (met_at token_leaves level s t ts o)
    by_kind t ts None e not_here here = not_here (λ p fits. other t p e)
    by_kind t ts (Some o) e not_here here = by_level t ts o (is_at level o) e refl not_here here

    go : (ts : Tokens) → (NoOperator level ts → P None) → ((o : Operator) (u : SignificantToken) (rest : Tokens) → is_at level o ≡ true → ts ≡ u ∷ rest → IsKind (operator_token o) u → P (Some (o, u, at s rest)))
        → P (operator_by token_leaves level s ts)
    go [] not_here here = not_here (λ o fits. tt)
    go (t ∷ ts) not_here here = by_kind t ts (operator_of t.tok.kind) refl not_here here

module _ (s : State) (P : TakenOperator → Type 0) where
  pub after_or : (NotNext kinds.BarBar s.left → P None) → ((t : SignificantToken) (rest : Tokens) → s.left ≡ t ∷ rest → IsKind kinds.BarBar t → P (Some (operators.Or, t, at s rest))) → P (accept_operator token_leaves levels.Expression s)
  after_or not_here here = after_operator levels.Expression s P (λ apart. not_here (apart operators.Or refl)) one
    where
      one : (o : Operator) (t : SignificantToken) (rest : Tokens) → is_at levels.Expression o ≡ true → s.left ≡ t ∷ rest → IsKind (operator_token o) t → P (Some (o, t, at s rest))
      one operators.Or t rest fits = here t rest
      one _ t rest fits = cc

  pub after_and : (NotNext kinds.AmpersandAmpersand s.left → P None) → ((t : SignificantToken) (rest : Tokens) → s.left ≡ t ∷ rest → IsKind kinds.AmpersandAmpersand t → P (Some (operators.And, t, at s rest))) → P (accept_operator token_leaves levels.Disjunct s)
  after_and not_here here = after_operator levels.Disjunct s P (λ apart. not_here (apart operators.And refl)) one
    where
      one : (o : Operator) (t : SignificantToken) (rest : Tokens) → is_at levels.Disjunct o ≡ true → s.left ≡ t ∷ rest → IsKind (operator_token o) t → P (Some (o, t, at s rest))
      one operators.And t rest fits = here t rest
      one _ t rest fits = cc

  pub after_comparison : (NotCompared s.left → P None) → ((by : ConditionalOperator) (t : SignificantToken) (rest : Tokens) → s.left ≡ t ∷ rest → IsKind (operator_kind by) t → P (Some (operators.Compare by, t, at s rest)))
      → P (accept_operator token_leaves levels.Compared s)
  after_comparison not_here here = after_operator levels.Compared s P (λ apart. not_here (none apart)) one
    where
      none : NoOperator levels.Compared s.left → NotCompared s.left
      none apart = record {
        equality = apart (operators.Compare Equality) refl;
        inequality = apart (operators.Compare Inequality) refl;
        regex_match = apart (operators.Compare RegexMatch) refl;
        regex_mismatch = apart (operators.Compare RegexMismatch) refl;
      }

      one : (o : Operator) (t : SignificantToken) (rest : Tokens) → is_at levels.Compared o ≡ true → s.left ≡ t ∷ rest → IsKind (operator_token o) t → P (Some (o, t, at s rest))
      one (operators.Compare by) t rest fits = here by t rest
      one _ t rest fits = cc

  pub after_joined : (NotJoined s.left → P None)
      → ((t : SignificantToken) (rest : Tokens) → s.left ≡ t ∷ rest → IsKind kinds.Slash t → P (Some (operators.Join, t, at s rest)))
      → ((t : SignificantToken) (rest : Tokens) → s.left ≡ t ∷ rest → IsKind kinds.PlusPlus t → P (Some (operators.ListConcatenation, t, at s rest)))
      → ((t : SignificantToken) (rest : Tokens) → s.left ≡ t ∷ rest → IsKind kinds.Plus t → P (Some (operators.Concatenation, t, at s rest)))
      → P (accept_operator token_leaves levels.Conjunct s)
  after_joined not_here join lists texts = after_operator levels.Conjunct s P (λ apart. not_here (none apart)) one
    where
      none : NoOperator levels.Conjunct s.left → NotJoined s.left
      none apart = record { join = apart operators.Join refl; list_concatenation = apart operators.ListConcatenation refl; concatenation = apart operators.Concatenation refl }

      one : (o : Operator) (t : SignificantToken) (rest : Tokens) → is_at levels.Conjunct o ≡ true → s.left ≡ t ∷ rest → IsKind (operator_token o) t → P (Some (o, t, at s rest))
      one operators.Join t rest fits = join t rest
      one operators.ListConcatenation t rest fits = lists t rest
      one operators.Concatenation t rest fits = texts t rest
      one _ t rest fits = cc

pub operator_taken : (level : Level) (o : Operator) (t : SignificantToken) (ts : Tokens) (C : Conditions) (d : ℕ) (ns : List (Noted Tok)) → is_at level o ≡ true → IsKind (operator_token o) t → accept_operator token_leaves level (input C d (t ∷ ts) ns) ≡ Some (o, t, input C d ts ns)
unfolding accept_operator
operator_taken level o t ts C d ns fits e = let same : operator_of t.tok.kind ≡ Some o = ap operator_of e ∙ token_operator o in rw (same, fits) refl

pub operator_left : (level : Level) (ts : Tokens) (C : Conditions) (d : ℕ) (ns : List (Noted Tok)) → NoOperator level ts → accept_operator token_leaves level (input C d ts ns) ≡ None
operator_left level ts C d ns apart =
    after_operator level (input C d ts ns) (λ o. o ≡ None) (λ _. refl) (λ o t rest fits split e. absurd (subst (NotNext (operator_token o)) split (apart o fits) e))

-- no operator of a level comes next

pub no_or : (ts : Tokens) → NotNext kinds.BarBar ts → NoOperator levels.Expression ts
no_or ts h operators.Or fits = h
no_or ts h _ fits = cc

pub no_and : (ts : Tokens) → NotNext kinds.AmpersandAmpersand ts → NoOperator levels.Disjunct ts
no_and ts h operators.And fits = h
no_and ts h _ fits = cc

pub no_comparison : (ts : Tokens) → NotCompared ts → NoOperator levels.Compared ts
no_comparison ts h (operators.Compare Equality) fits = h.equality
no_comparison ts h (operators.Compare Inequality) fits = h.inequality
no_comparison ts h (operators.Compare RegexMatch) fits = h.regex_match
no_comparison ts h (operators.Compare RegexMismatch) fits = h.regex_mismatch
no_comparison ts h _ fits = cc

pub no_joined : (ts : Tokens) → NotJoined ts → NoOperator levels.Conjunct ts
no_joined ts h operators.Join fits = h.join
no_joined ts h operators.ListConcatenation fits = h.list_concatenation
no_joined ts h operators.Concatenation fits = h.concatenation
no_joined ts h _ fits = cc
