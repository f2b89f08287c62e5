-- A position is in a body exactly if there is an indent after a colon, and no dedent since that colon.
use Rattle.std.proofs.Common.{◌≡◌, ◌≢◌, Bool, true, List, [], ◌∷◌, ◌++◌, refl, sym, ap, subst, ◌∙◌, ◌⊎◌, inl, inr}
use Rattle.std.specs.Prelude.{◌↔◌, ◌||◌, IsTrue, reverse}
use Rattle.std.specs.List.{AllByRecursion}
use Rattle.std.proofs.Math.Bool.{or-true}
use Rattle.std.proofs.lemmas.Bool.{or_cases}
use Rattle.std.proofs.lemmas.List.{append_assoc, reverse-append, reverse-reverse}
use Rattle.std.proofs.lemmas.List.Elements.{All-nil, All-push, recursion_from_All}
use Rattle.justfile_vocabulary.specs.declared.token_kind.TokenKind.{TokenKind}
use Rattle.justfile_vocabulary.specs.declared.token_kind.TokenKind.TheVariants as kinds
use Rattle.justfile_model.specs.Lexing.Bodies.{IsAfterColon, IsInBody}
use Rattle.justfile_model.specs.Lexing.Modes.{Mode, mode_after, mode}
use Rattle.justfile_model.specs.Lexing.Tok.{Tok}
use Rattle.justfile_model.proofs.Lexing.UnclosedLaws.{reverse_at, reverse_more}

abbrev NotDedent : Tok → Type 0
NotDedent t = t.kind ≢ kinds.Dedent

-- ---- from the tokens to the mode

colon_step : (k : TokenKind) (t : Tok) (m : Mode) → k ≢ kinds.Dedent → m.colon ≡ true → (mode_after k t m).colon ≡ true
colon_step kinds.Dedent t m n c = absurd (n refl)
colon_step kinds.Colon t m n c = refl
colon_step k t m n c = c

body_step : (k : TokenKind) (t : Tok) (m : Mode) → k ≢ kinds.Dedent → m.in_body ≡ true → (mode_after k t m).in_body ≡ true
body_step kinds.Dedent t m n c = absurd (n refl)
body_step kinds.Indent t m n c = ap (λ b. b || m.colon) c
body_step k t m n c = c

-- what stays at any token but a dedent
stays : (test : Mode → Bool) → ((k : TokenKind) (t : Tok) (m : Mode) → k ≢ kinds.Dedent → test m ≡ true → test (mode_after k t m) ≡ true)
    → (ts e : List Tok) → AllByRecursion NotDedent ts → test (mode e) ≡ true → test (mode (reverse ts ++ e)) ≡ true
stays test step [] e n c = c
stays test step (t ∷ ts) e n c = subst (λ e. test (mode e) ≡ true) (sym (reverse_more t ts e)) (stays test step ts (t ∷ e) n.1 (step t.kind t (mode e) n.0 c))

after_colon : (ts : List Tok) → IsAfterColon ts → (mode (reverse ts)).colon ≡ true
after_colon ts h =
    let same : reverse ts ≡ reverse h.since ++ (h.colon ∷ reverse h.before) = ap reverse h.are ∙ reverse_at h.before h.colon h.since in
    let here : (mode (h.colon ∷ reverse h.before)).colon ≡ true = subst (λ k. (mode_after k h.colon (mode (reverse h.before))).colon ≡ true) (sym h.is_colon) refl in
    subst (λ e. (mode e).colon ≡ true) (sym same) (stays (λ m. m.colon) colon_step h.since (h.colon ∷ reverse h.before) (recursion_from_All NotDedent h.since h.no_dedent) here)

in_body : (ts : List Tok) → IsInBody ts → (mode (reverse ts)).in_body ≡ true
in_body ts h =
    let m : Mode = mode (reverse h.before) in
    let same : reverse ts ≡ reverse h.since ++ (h.indent ∷ reverse h.before) = ap reverse h.are ∙ reverse_at h.before h.indent h.since in
    let here : (mode (h.indent ∷ reverse h.before)).in_body ≡ true = subst (λ k. (mode_after k h.indent m).in_body ≡ true) (sym h.is_indent) (ap (λ b. m.in_body || b) (after_colon h.before h.after_colon) ∙ or-true m.in_body) in
    subst (λ e. (mode e).in_body ≡ true) (sym same) (stays (λ m. m.in_body) body_step h.since (h.indent ∷ reverse h.before) (recursion_from_All NotDedent h.since h.no_dedent) here)

-- ---- from the mode to the tokens

one_more : (before : List Tok) (x : Tok) (since : List Tok) (t : Tok) (ts : List Tok) → ts ≡ before ++ (x ∷ since) → ts ++ (t ∷ []) ≡ before ++ (x ∷ (since ++ (t ∷ [])))
one_more before x since t ts e = ap (λ ts. ts ++ (t ∷ [])) e ∙ append_assoc before (x ∷ since) (t ∷ [])

colon_more : (ts : List Tok) (t : Tok) → t.kind ≢ kinds.Dedent → IsAfterColon ts → IsAfterColon (ts ++ (t ∷ []))
colon_more ts t n h = record { before = h.before; colon = h.colon; since = h.since ++ (t ∷ []); are = one_more h.before h.colon h.since t ts h.are; is_colon = h.is_colon; no_dedent = All-push NotDedent h.since t h.no_dedent n }

body_more : (ts : List Tok) (t : Tok) → t.kind ≢ kinds.Dedent → IsInBody ts → IsInBody (ts ++ (t ∷ []))
body_more ts t n h = record { before = h.before; indent = h.indent; since = h.since ++ (t ∷ []); are = one_more h.before h.indent h.since t ts h.are; after_colon = h.after_colon; is_indent = h.is_indent; no_dedent = All-push NotDedent h.since t h.no_dedent n }

colon_here : (ts : List Tok) (t : Tok) → t.kind ≡ kinds.Colon → IsAfterColon (ts ++ (t ∷ []))
colon_here ts t k = record { before = ts; colon = t; since = []; are = refl; is_colon = k; no_dedent = All-nil NotDedent }

body_here : (ts : List Tok) (t : Tok) → t.kind ≡ kinds.Indent → IsAfterColon ts → IsInBody (ts ++ (t ∷ []))
body_here ts t k h = record { before = ts; indent = t; since = []; are = refl; after_colon = h; is_indent = k; no_dedent = All-nil NotDedent }

colon_found : (e : List Tok) → (mode e).colon ≡ true → IsAfterColon (reverse e)
colon_found [] c = cc
colon_found (t ∷ e) c = subst IsAfterColon (sym (reverse-append (t ∷ []) e)) (by t.kind refl c (colon_found e))
  where
    by : (k : TokenKind) → t.kind ≡ k → (mode_after k t (mode e)).colon ≡ true → ((mode e).colon ≡ true → IsAfterColon (reverse e)) → IsAfterColon (reverse e ++ (t ∷ []))
    by kinds.Dedent is c more = cc
    by kinds.Colon is c more = colon_here (reverse e) t is
    by _ is c more = colon_more (reverse e) t (λ n. cc) (more c)

body_found : (e : List Tok) → (mode e).in_body ≡ true → IsInBody (reverse e)
body_found [] c = cc
body_found (t ∷ e) c = subst IsInBody (sym (reverse-append (t ∷ []) e)) (by t.kind refl c (body_found e))
  where
    indented : t.kind ≡ kinds.Indent → ((mode e).in_body ≡ true) ⊎ ((mode e).colon ≡ true) → ((mode e).in_body ≡ true → IsInBody (reverse e)) → IsInBody (reverse e ++ (t ∷ []))
    indented is (inl b) more = body_more (reverse e) t (λ n. cc) (more b)
    indented is (inr c) more = body_here (reverse e) t is (colon_found e c)

    by : (k : TokenKind) → t.kind ≡ k → (mode_after k t (mode e)).in_body ≡ true → ((mode e).in_body ≡ true → IsInBody (reverse e)) → IsInBody (reverse e ++ (t ∷ []))
    by kinds.Dedent is c more = cc
    by kinds.Indent is c more = indented is (or_cases (mode e).in_body (mode e).colon c) more
    by _ is c more = body_more (reverse e) t (λ n. cc) (more c)

pub body_law : (e : List Tok) → IsTrue (mode e).in_body ↔ IsInBody (reverse e)
body_law e = (body_found e, λ h. sym (ap (λ e. (mode e).in_body) (reverse-reverse e)) ∙ in_body (reverse e) h)

pub colon_law : (e : List Tok) → IsTrue (mode e).colon ↔ IsAfterColon (reverse e)
colon_law e = (colon_found e, λ h. sym (ap (λ e. (mode e).colon) (reverse-reverse e)) ∙ after_colon (reverse e) h)
