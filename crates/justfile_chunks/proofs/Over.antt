-- Lists of tokens that begin alike and go on differently.
use Rattle.std.proofs.Common.{◌≡◌, ℕ, Bool, true, false, List, [], ◌∷◌, ◌++◌, Option, refl, sym, ap, ◌∙◌}
use Rattle.std.proofs.lemmas.List.{append_cancel_right}
use Rattle.justfile_vocabulary.specs.declared.token_kind.TokenKind.{TokenKind}
use Rattle.justfile_vocabulary.specs.declared.token_kind.TokenKind.TheVariants as kinds
use Rattle.justfile_model.specs.Grammars.AttributeLines.{IsKey}
use Rattle.justfile_model.specs.Grammars.Expressions.{Tokens, front, IsKind, NotNext, NotWord, NotMarked, Unmarked, NotCompared, NotJoined}
use Rattle.justfile_model.specs.Grammars.ItemParts.{EndsLine, NotNamedString, NoPath, at_comment, at_line_end, at_file_end}
use Rattle.justfile_model.specs.Lexing.SignificantTokens.{SignificantToken}

-- the tokens that a construct may hold outside of its attributes' lines and its body
abbrev pub is_quiet : TokenKind → Bool
is_quiet kinds.ByteOrderMark = false
is_quiet kinds.Comment = false
is_quiet kinds.Dedent = false
is_quiet kinds.Eof = false
is_quiet kinds.Eol = false
is_quiet kinds.Indent = false
is_quiet kinds.Whitespace = false
is_quiet _ = true

-- the tokens that a body may hold
abbrev pub is_inside : TokenKind → Bool
is_inside kinds.Dedent = false
is_inside kinds.Eof = false
is_inside kinds.Indent = false
is_inside _ = true

pub quiet_inside : (k : TokenKind) → is_quiet k ≡ true → is_inside k ≡ true
quiet_inside kinds.Dedent q = q
quiet_inside kinds.Eof q = q
quiet_inside kinds.Indent q = q
quiet_inside _ q = refl

abbrev pub is_any : TokenKind → Bool
is_any kind = true

-- the same tokens, all of these kinds, and then two other lists
pub data Over (ok : TokenKind → Bool) (x y : Tokens) : Tokens → Tokens → Type 0 where
  same : Over ok x y x y
  step : {t : SignificantToken} {a b : Tokens} → ok t.tok.kind ≡ true → Over ok x y a b → Over ok x y (t ∷ a) (t ∷ b)

pub past : {ok : TokenKind → Bool} {x y m n a b : Tokens} → Over ok m n a b → Over ok x y m n → Over ok x y a b
past same p = p
past (step q o) p = step q (past o p)

-- with more kinds
pub widened : {ok more : TokenKind → Bool} {x y a b : Tokens} → ((k : TokenKind) → ok k ≡ true → more k ≡ true) → Over ok x y a b → Over more x y a b
widened w same = same
widened w (step {t = t} q o) = step (w t.tok.kind q) (widened w o)

pub any_of : {ok : TokenKind → Bool} {x y a b : Tokens} → Over ok x y a b → Over is_any x y a b
any_of o = widened (λ k q. refl) o

-- what both lists begin with
pub record Front (x y a b : Tokens) : Type 0 where
  pub front : Tokens
  pub first_is : a ≡ front ++ x
  pub second_is : b ≡ front ++ y

front_of : {ok : TokenKind → Bool} {x y a b : Tokens} → Over ok x y a b → Front x y a b
front_of same = record { front = []; first_is = refl; second_is = refl }
front_of (step {t = t} q o) =
    let f = front_of o in
    record { front = t ∷ f.front; first_is = ap (λ l. t ∷ l) f.first_is; second_is = ap (λ l. t ∷ l) f.second_is }

pub other_end : {ok : TokenKind → Bool} (ts x y b : Tokens) → Over ok x y (ts ++ x) b → b ≡ ts ++ y
other_end ts x y b o =
    let f = front_of o in
    f.second_is ∙ ap (λ l. l ++ y) (append_cancel_right f.front ts x (sym f.first_is))

-- Two lists that look the same from their first token: a name is followed by the same token.
pub data Ahead : Tokens → Tokens → Type 0 where
  one : {t : SignificantToken} {a b : Tokens} → (IsKind kinds.Identifier t → ⊥) → Ahead (t ∷ a) (t ∷ b)
  two : {t u : SignificantToken} {a b : Tokens} → Ahead (t ∷ u ∷ a) (t ∷ u ∷ b)

-- a token that no construct may hold outside of its attributes' lines and its body is no name
pub not_name : (t : SignificantToken) → is_quiet t.tok.kind ≡ false → IsKind kinds.Identifier t → ⊥
not_name t q e = let bad : true ≡ false = sym (ap is_quiet e) ∙ q in cc

pub more : {t : SignificantToken} {a b : Tokens} → Ahead a b → Ahead (t ∷ a) (t ∷ b)
more (one n) = two
more two = two

pub ahead_of : {ok : TokenKind → Bool} {x y a b : Tokens} → Over ok x y a b → Ahead x y → Ahead a b
ahead_of same h = h
ahead_of (step q o) h = more (ahead_of o h)

-- what is derived before one list is derived before the other, over the same tokens
pub record Again (ok : TokenKind → Bool) (x y : Tokens) (R : Tokens → Type 0) (a : Tokens) : Type 0 where
  pub after : Tokens
  pub derives : R after
  pub over : Over ok x y a after
  pub ahead : Ahead a after

pub again : {ok : TokenKind → Bool} {x y a after : Tokens} {R : Tokens → Type 0} → R after → Over ok x y a after → Ahead x y → Again ok x y R a
again derives over h = record { after = _; derives = derives; over = over; ahead = ahead_of over h }

-- What is derived before a rest is derived again before each other one that looks the same.
abbrev pub Local : (TokenKind → Bool) → (Tokens → Tokens → Type 0) → (ts x y : Tokens) → Type 0
Local ok R ts x y = R ts x → Ahead x y → Again ok x y (λ r. R r y) ts

module _ {ok : TokenKind → Bool} {x y : Tokens} where
  -- by a rule
  pub rule : {a : Tokens} {R Q : Tokens → Type 0} (r : Again ok x y R a) → (Ahead a r.after → R r.after → Q r.after) → Again ok x y Q a
  rule r f = record { after = r.after; derives = f r.ahead r.derives; over = r.over; ahead = r.ahead }

  begun : (R : Tokens → Type 0) {Q : Tokens → Type 0} {t : SignificantToken} {a after : Tokens} → R after → Over ok x y (t ∷ a) after → Ahead (t ∷ a) after
      → ((b : Tokens) → Ahead (t ∷ a) (t ∷ b) → R (t ∷ b) → Q (t ∷ b)) → Again ok x y Q (t ∷ a)
  begun R derives over (one away) f = record { after = _; derives = f _ (one away) derives; over = over; ahead = one away }
  begun R derives over (two {t = t} {u = u} {a = a} {b = b}) f =
      let ahead = two {t = t} {u = u} {a = a} {b = b} in record { after = _; derives = f _ ahead derives; over = over; ahead = ahead }

  -- by a rule that names the first token
  pub headed : {t : SignificantToken} {a : Tokens} {R Q : Tokens → Type 0} → Again ok x y R (t ∷ a)
      → ((b : Tokens) → Ahead (t ∷ a) (t ∷ b) → R (t ∷ b) → Q (t ∷ b)) → Again ok x y Q (t ∷ a)
  headed {R = R} r f = begun R r.derives r.over r.ahead f

  -- with a token before it
  pub token : {kind : TokenKind} {t : SignificantToken} {a : Tokens} {Q : Tokens → Type 0} → IsKind kind t → ok kind ≡ true → Again ok x y (λ r. Q (t ∷ r)) a
      → Again ok x y Q (t ∷ a)
  token kind q r = record { after = _; derives = r.derives; over = step (ap ok kind ∙ q) r.over; ahead = more r.ahead }

  -- with a token after it
  pub closed : {kind : TokenKind} {t : SignificantToken} {a : Tokens} {Q : Tokens → Type 0} → IsKind kind t → ok kind ≡ true → Again ok (t ∷ x) (t ∷ y) Q a
      → Again ok x y Q a
  closed kind q r = record { after = r.after; derives = r.derives; over = past r.over (step (ap ok kind ∙ q) same); ahead = r.ahead }

  -- with another one after it
  pub followed : {a b : Tokens} {R S : Tokens → Type 0} (s : Again ok x y S b) → Again ok b s.after R a → Again ok x y R a
  followed s r = record { after = r.after; derives = r.derives; over = past r.over s.over; ahead = r.ahead }

  -- with a token and another one after it
  pub joined : {kind : TokenKind} {t : SignificantToken} {a b : Tokens} {R S : Tokens → Type 0} (s : Again ok x y S b) → IsKind kind t → ok kind ≡ true
      → Again ok (t ∷ b) (t ∷ s.after) R a → Again ok x y R a
  joined s kind q r = record { after = r.after; derives = r.derives; over = past r.over (step (ap ok kind ∙ q) s.over); ahead = r.ahead }

-- ---- conditions on the next tokens

pub enter : {a b : Tokens} (May : Option SignificantToken → Type 0) → Ahead a b → May (front a) → May (front b)
enter May (one n) m = m
enter May two m = m

pub next : (kind : TokenKind) {a b : Tokens} → Ahead a b → NotNext kind a → NotNext kind b
next kind (one away) n = n
next kind two n = n

pub no_word : (word : List ℕ) {a b : Tokens} → Ahead a b → NotWord word a → NotWord word b
no_word word (one away) n = n
no_word word two n = n

not_marked : (word : List ℕ) (kind : TokenKind) (name : SignificantToken) {a b : Tokens} → Ahead a b → NotMarked word kind name a → NotMarked word kind name b
not_marked word kind name (one away) n = n
not_marked word kind name two n = n

pub unmarked : {name : SignificantToken} {a b : Tokens} → Ahead a b → Unmarked name a → Unmarked name b
unmarked h n = record { expanded = not_marked _ _ _ h n.expanded; literal = not_marked _ _ _ h n.literal; format = not_marked _ _ _ h n.format }

pub not_compared : {a b : Tokens} → Ahead a b → NotCompared a → NotCompared b
not_compared h n =
    record { equality = next _ h n.equality; inequality = next _ h n.inequality; regex_match = next _ h n.regex_match; regex_mismatch = next _ h n.regex_mismatch }

pub not_joined : {a b : Tokens} → Ahead a b → NotJoined a → NotJoined b
not_joined h n = record { join = next _ h n.join; list_concatenation = next _ h n.list_concatenation; concatenation = next _ h n.concatenation }

pub ends_line : {a b : Tokens} → Ahead a b → EndsLine a → EndsLine b
ends_line (one away) (at_comment k) = at_comment k
ends_line (one away) (at_line_end k) = at_line_end k
ends_line (one away) (at_file_end k) = at_file_end k
ends_line two (at_comment k) = at_comment k
ends_line two (at_line_end k) = at_line_end k
ends_line two (at_file_end k) = at_file_end k

not_named : (t : SignificantToken) (b : Tokens) → (IsKind kinds.Identifier t → ⊥) → NotNamedString (t ∷ b)
not_named t [] away = tt
not_named t (u ∷ b) away = λ name string. away name

not_named_string : {a b : Tokens} → Ahead a b → NotNamedString a → NotNamedString b
not_named_string (one {t = t} {b = b} away) n = not_named t b away
not_named_string two n = n

pub no_path : {a b : Tokens} → Ahead a b → NoPath a → NoPath b
no_path h n = record { unmarked = next _ h n.unmarked; marked = not_named_string h n.marked }

no_key : (t : SignificantToken) (a : Tokens) → (IsKind kinds.Identifier t → ⊥) → IsKey (t ∷ a) → ⊥
no_key t [] away k = away k
no_key t (u ∷ a) away k = away k.0

pub is_key : {a b : Tokens} → Ahead a b → IsKey a → IsKey b
is_key (one {t = t} {a = a} away) k = absurd (no_key t a away k)
is_key two k = k

pub key_before : {a b : Tokens} → Ahead a b → IsKey b → IsKey a
key_before (one {t = t} {b = b} away) k = absurd (no_key t b away k)
key_before two k = k
