-- The steps of the parser for arbitrary tokens: which steps are the same, and the state after a step.
use Rattle.std.proofs.Common.{◌≡◌, ℕ, zero, suc, ◌<◌, ◌≤◌, Bool, true, false, cond, List, [], ◌∷◌, length, Option, Some, None, Result, Ok, Err, IfOk, codes, refl, subst, ap, arith, ◌∙◌}
use Rattle.justfile_vocabulary.specs.declared.token_kind.TokenKind.{TokenKind}
use Rattle.justfile_vocabulary.specs.declared.token_kind.TokenKind.TheVariants as kinds
use Rattle.justfile_model.specs.declared.level.Level.{Level}
use Rattle.justfile_model.specs.declared.operator.Operator.{Operator}
use Rattle.justfile_model.specs.Readers.ExpressionReader.{Met, accept_operator, backtick, by_text, cooked, found, literal, met_at, operator_by, part, whole_format_string, literal_string}
use Rattle.justfile_model.specs.LiteralTexts.Literals as literals
use Rattle.justfile_model.specs.LiteralTexts.Literals.{Literal, LiteralFault, cooked_text, string_of}
use Rattle.justfile_model.specs.Trees.Operators.{is_at, operator_of}
use Rattle.justfile_model.specs.Readers.ReaderState.{◌>>=◌, Leaves, Read, State, Taken, Unexpected, accept, accept_by, accept_marked, accept_keyword, at, choose, expect, is_word, marked_by, marks, refused, same_kind}
use Rattle.justfile_model.specs.Lexing.SignificantTokens.{SignificantToken}
use Rattle.justfile_model.specs.Lists.Recursive.{recursive}
use Rattle.justfile_model.specs.Trees.Tree.{Expr}
use Rattle.justfile_model.proofs.Lists.Turns.{recursive_keeps, recursive_step}

pub bind_alike : {X Y E : Type 0} (r : Result X E) (f g : X → Result Y E) → ((x : X) → r ≡ Ok x → f x ≡ g x) → (r >>= f) ≡ (r >>= g)
bind_alike (Ok x) f g h = h x refl
bind_alike (Err e) f g h = refl

-- the first step may be written by an equal one
pub first_alike : {X Y E : Type 0} (r s : Result X E) (f : X → Result Y E) → r ≡ s → (r >>= f) ≡ (s >>= f)
first_alike r s f e = ap (λ o. o >>= f) e

pub test_alike : {X : Type 0} (b : Bool) (x y z w : X) → (b ≡ true → x ≡ y) → (b ≡ false → z ≡ w) → cond b x z ≡ cond b y w
test_alike true x y z w h k = h refl
test_alike false x y z w h k = k refl

pub after_test : {X : Type 0} (b : Bool) (x y : X) (P : X → Type 0) → (b ≡ true → P x) → (b ≡ false → P y) → P (cond b x y)
after_test true x y P then otherwise = then refl
after_test false x y P then otherwise = otherwise refl

-- facts about a result
pub known : {X E : Type 0} {found : Result X E} (x : X) (Q : X → Type 0) → found ≡ Ok x → IfOk found Q → Q x
known {X} {E} x Q e h = let P : Result X E → Type 0 = λ o. IfOk o Q in subst P e h

-- a recursion on a size: what holds wherever it holds of all that is smaller
pub by_size : {X : Type 0} (size : X → ℕ) (P : X → Type 0) → ((x : X) → ((y : X) → size y < size x → P y) → P x) → (x : X) → P x
by_size {X} size P step x = below (suc (size x)) x (omega arith)
  where
    below : (most : ℕ) (x : X) → size x < most → P x
    below zero x less = absurd (omega (arith, less))
    below (suc most) x less = step x (λ y smaller. below most y (omega (arith, less, smaller)))

module _ {R T B : Type 0} where
  -- what holds of a value holds of it after any step, and after any token
  pub after_all : {X Y : Type 0} (found : Read R T B X) (f : X × State R T B → Read R T B Y) (Q : Y → Type 0) → ((x : X × State R T B) → found ≡ Ok x → IfOk (f x) (λ y. Q y.0)) → IfOk (found >>= f) (λ y. Q y.0)
  after_all (Ok x) f Q h = h x refl
  after_all (Err e) f Q h = tt

  pub after_choice : {Y : Type 0} (o : Taken R T B) (x : Read R T B Y) (f : T × State R T B → Read R T B Y) (Q : Y → Type 0) → IfOk x (λ y. Q y.0) → ((p : T × State R T B) → IfOk (f p) (λ y. Q y.0)) → IfOk (choose o x f) (λ y. Q y.0)
  after_choice None x f Q h g = h
  after_choice (Some p) x f Q h g = g p

  pub choose_alike : {X : Type 0} (o : Taken R T B) (x y : X) (f g : T × State R T B → X) → (o ≡ None → x ≡ y) → ((p : T × State R T B) → o ≡ Some p → f p ≡ g p) → choose o x f ≡ choose o y g
  choose_alike None x y f g e h = e refl
  choose_alike (Some p) x y f g e h = h p refl

  -- ---- a state after another, in the same run and at the same depth

  -- no more tokens are left
  abbrev pub ItemRest : State R T B → State R T B → Type 0
  ItemRest s t = (length t.left ≤ length s.left) × (t.depth ≡ s.depth) × (t.run ≡ s.run)

  -- and one or more were taken
  abbrev pub Past : State R T B → State R T B → Type 0
  Past s t = (length t.left < length s.left) × (t.depth ≡ s.depth) × (t.run ≡ s.run)

  pub there : (s : State R T B) → ItemRest s s
  there s = (omega arith, refl, refl)

  pub weaken : (s t : State R T B) → Past s t → ItemRest s t
  weaken s t h = (omega (arith, h.0), h.1, h.2)

  pub past_then : (s t u : State R T B) → Past s t → ItemRest t u → Past s u
  past_then s t u h k = (omega (arith, h.0, k.0), k.1 ∙ h.1, k.2 ∙ h.2)

  pub then_past : (s t u : State R T B) → ItemRest s t → Past t u → Past s u
  then_past s t u h k = (omega (arith, h.0, k.0), k.1 ∙ h.1, k.2 ∙ h.2)

  pub after_then : (s t u : State R T B) → ItemRest s t → ItemRest t u → ItemRest s u
  after_then s t u h k = (omega (arith, h.0, k.0), k.1 ∙ h.1, k.2 ∙ h.2)

  -- ---- results

  abbrev pub Goes : {X : Type 0} → State R T B → Read R T B X → Type 0
  Goes s found = IfOk found (λ x. Past s x.1)

  abbrev pub Keeps : {X : Type 0} → State R T B → Read R T B X → Type 0
  Keeps s found = IfOk found (λ x. ItemRest s x.1)

  abbrev pub Takes : State R T B → Taken R T B → Type 0
  Takes s o = (p : T × State R T B) → o ≡ Some p → Past s p.1

  pub past : {X : Type 0} (s : State R T B) (found : Read R T B X) (x : X × State R T B) → Goes s found → found ≡ Ok x → Past s x.1
  past s found x h e = known x (λ x. Past s x.1) e h

  pub following : {X : Type 0} (s : State R T B) (found : Read R T B X) (x : X × State R T B) → Keeps s found → found ≡ Ok x → ItemRest s x.1
  following s found x h e = known x (λ x. ItemRest s x.1) e h

  pub keeps : {X : Type 0} (s : State R T B) (found : Read R T B X) → Goes s found → Keeps s found
  keeps s (Ok x) h = weaken s x.1 h
  keeps s (Err e) h = tt

  pub from : {X : Type 0} (s t : State R T B) (found : Read R T B X) → Past s t → Keeps t found → Goes s found
  from s t (Ok x) h k = past_then s t x.1 h k
  from s t (Err e) h k = tt

  pub from_there : {X : Type 0} (s t : State R T B) (found : Read R T B X) → ItemRest s t → Keeps t found → Keeps s found
  from_there s t (Ok x) h k = after_then s t x.1 h k
  from_there s t (Err e) h k = tt

  pub goes_after : {X : Type 0} (s t : State R T B) (found : Read R T B X) → ItemRest s t → Goes t found → Goes s found
  goes_after s t (Ok x) h k = then_past s t x.1 h k
  goes_after s t (Err e) h k = tt

  -- first a step, then others
  pub first : {X Y : Type 0} (s : State R T B) (found : Read R T B X) (f : X × State R T B → Read R T B Y) → Goes s found → ((x : X × State R T B) → Keeps x.1 (f x)) → Goes s (found >>= f)
  first s (Ok x) f h g = from s x.1 (f x) h (g x)
  first s (Err e) f h g = tt

  pub then : {X Y : Type 0} (s : State R T B) (found : Read R T B X) (f : X × State R T B → Read R T B Y) → Keeps s found → ((x : X × State R T B) → Keeps x.1 (f x)) → Keeps s (found >>= f)
  then s (Ok x) f h g = from_there s x.1 (f x) h (g x)
  then s (Err e) f h g = tt

  pub then_goes : {X Y : Type 0} (s : State R T B) (found : Read R T B X) (f : X × State R T B → Read R T B Y) → Keeps s found → ((x : X × State R T B) → Goes x.1 (f x)) → Goes s (found >>= f)
  then_goes s (Ok x) f h g = goes_after s x.1 (f x) h (g x)
  then_goes s (Err e) f h g = tt

  pub mapped : {X Y : Type 0} (s : State R T B) (found : Read R T B X) (g : X → Y) → Goes s found → Keeps s (found >>= λ x. Ok (g x.0, x.1))
  mapped s found g h = then s found (λ x. Ok (g x.0, x.1)) (keeps s found h) (λ x. there x.1)

  pub either : {X : Type 0} (s : State R T B) (o : Taken R T B) (x : Read R T B X) (f : T × State R T B → Read R T B X) → Takes s o → Keeps s x → ((p : T × State R T B) → Keeps p.1 (f p)) → Keeps s (choose o x f)
  either s None x f t h g = h
  either s (Some p) x f t h g = from_there s p.1 (f p) (weaken s p.1 (t p refl)) (g p)

  pub either_goes : {X : Type 0} (s : State R T B) (o : Taken R T B) (x : Read R T B X) (f : T × State R T B → Read R T B X) → Takes s o → Goes s x → ((p : T × State R T B) → Keeps p.1 (f p)) → Goes s (choose o x f)
  either_goes s None x f t h g = h
  either_goes s (Some p) x f t h g = from s p.1 (f p) (t p refl) (g p)

  by_test : (s : State R T B) (t : T) (rest : List T) (b : Bool) → length rest < length s.left → Takes s (cond b (Some (t, at s rest)) None)
  by_test s t rest true h p e =
      let P : T × State R T B → Type 0 = λ q. Past s q.1 in
      let same : ◌≡◌ {A = T × State R T B} (t, at s rest) p = cc in
      subst P same (h, refl, refl)
  by_test s t rest false h p e = cc

-- ---- loops, whose turns a rule gives

module _ {R T B X Y : Type 0} (at : X → State R T B) (rule : (X → Read R T B Y) → X → Read R T B Y) where
  abbrev pub loop : X → Read R T B Y
  loop = recursive (λ x. length (at x).left) (λ x. Err (Unexpected None)) rule

  pub loop_has : (P : X → Read R T B Y → Type 0) → ((x : X) → P x (Err (Unexpected None))) → ((f : X → Read R T B Y) → ((x : X) → P x (f x)) → (x : X) → P x (rule f x)) → (x : X) → P x (loop x)
  loop_has = recursive_keeps (λ x. length (at x).left) (λ x. Err (Unexpected None)) rule

  pub loop_keeps : ((f : X → Read R T B Y) → ((x : X) → Keeps (at x) (f x)) → (x : X) → Keeps (at x) (rule f x)) → (x : X) → Keeps (at x) (loop x)
  loop_keeps = loop_has (λ x found. Keeps (at x) found) (λ x. tt)

  pub loop_goes : ((f : X → Read R T B Y) → ((x : X) → Goes (at x) (f x)) → (x : X) → Goes (at x) (rule f x)) → (x : X) → Goes (at x) (loop x)
  loop_goes = loop_has (λ x found. Goes (at x) found) (λ x. tt)

  -- a turn, if the rule goes on with fewer tokens
  pub loop_is : ((x : X) (f g : X → Read R T B Y) → ((y : X) → length (at y).left < length (at x).left → f y ≡ g y) → rule f x ≡ rule g x) → (x : X) → loop x ≡ rule loop x
  loop_is = recursive_step (λ x. length (at x).left) (λ x. Err (Unexpected None)) rule

-- ---- tokens

module _ {R T A B S : Type 0} (leaves : Leaves R T A B S) where
  passes : (test : SignificantToken → Bool) (s : State R T B) (l : List T) → length l ≤ length s.left → Takes s (accept_by leaves test s l)
  passes test s [] h p e = cc
  passes test s (t ∷ ts) h p e = by_test s t ts (test (leaves.see t)) (omega (arith, h)) p e

  pub accepts : (kind : TokenKind) (s : State R T B) → Takes s (accept leaves kind s)
  unfolding accept
  accepts kind s = passes (λ t. same_kind t.tok.kind kind) s s.left (omega arith)

  pub accepts_word : (word : List ℕ) (s : State R T B) → Takes s (accept_keyword leaves word s)
  unfolding accept_keyword
  accepts_word word s = passes (is_word word) s s.left (omega arith)

  pub accepts_marked : (word : List ℕ) (kind : TokenKind) (s : State R T B) → Takes s (accept_marked leaves word kind s)
  unfolding accept_marked
  accepts_marked word kind s = go s.left (omega arith)
    where
      go : (l : List T) → length l ≤ length s.left → Takes s (marked_by leaves word kind s l)
      go [] h p e = cc
      go (m ∷ []) h p e = cc
      go (m ∷ t ∷ ts) h p e = by_test s t ts (marks word kind (leaves.see m) (leaves.see t)) (omega (arith, h)) p e

  pub expects : (kind : TokenKind) (s : State R T B) → Goes s (expect leaves kind s)
  unfolding expect
  expects kind s = go (accept leaves kind s) (accepts kind s)
    where
      go : (o : Taken R T B) → Takes s o → Goes s (choose {X = Read R T B T} o (Err (refused Unexpected s)) (λ x. Ok x))
      go None h = tt
      go (Some p) h = h p refl

  -- ---- operators

  -- an operator is a token
  pub operators : (level : Level) (s : State R T B) (op : Operator × T × State R T B) → accept_operator leaves level s ≡ Some op → Past s op.2
  unfolding accept_operator
  operators level s op e = go s.left (omega arith) e
    where
      by_level : (t : T) (ts : List T) (o : Operator) (b : Bool) → length ts < length s.left → ◌≡◌ {A = Met R T B} (cond b (Some (o, t, at s ts)) None) (Some op) → Past s op.2
      by_level t ts o true h e =
          let P : Operator × T × State R T B → Type 0 = λ q. Past s q.2 in
          let same : ◌≡◌ {A = Operator × T × State R T B} (o, t, at s ts) op = cc in
          subst P same (h, refl, refl)
      by_level t ts o false h e = cc

      by_kind : (t : T) (ts : List T) (o : Option Operator) → length ts < length s.left → met_at leaves level s t ts o ≡ Some op → Past s op.2
      by_kind t ts None h e = cc
      by_kind t ts (Some o) h e = by_level t ts o (is_at level o) h e

      go : (l : List T) → length l ≤ length s.left → operator_by leaves level s l ≡ Some op → Past s op.2
      go [] h e = cc
      go (t ∷ ts) h e = by_kind t ts (operator_of (leaves.see t).tok.kind) (omega (arith, h)) e

  -- ---- literals

  texts : {X : Type 0} (make : List ℕ → X) (x : T × State R T B) (text : Result (List ℕ) LiteralFault) → Keeps x.1 (by_text leaves make x text)
  texts make x (Ok text) = there x.1
  texts make x (Err fault) = tt

  -- a literal's text takes no tokens
  pub cooks : {X : Type 0} (make : A → X) (literal : List ℕ → Literal (List ℕ)) (x : T × State R T B) → Keeps x.1 (cooked leaves make literal x)
  unfolding cooked
  cooks make literal x =
      let l = literal (leaves.see x.0).tok.lexeme in
      texts (λ text. make (leaves.literal x.0 l text)) x (cooked_text (leaves.conditions x.1.run).expander l)

  -- after a literal that was found, or where none was
  abbrev pub Found : State R T B → Option (Expr A B) → State R T B → Type 0
  Found s (Some e) t = Past s t
  Found s None t = ItemRest s t

  pub found_after : (s : State R T B) (o : Option (Expr A B)) (t : State R T B) → Found s o t → ItemRest s t
  found_after s (Some e) t h = weaken s t h
  found_after s None t h = h

  abbrev Finds : State R T B → Read R T B (Option (Expr A B)) → Type 0
  Finds s x = IfOk x (λ x. Found s x.0 x.1)

  pub finds : (s : State R T B) → Finds s (literal leaves s)
  unfolding literal literal_string whole_format_string backtick
  finds s =
      pick (accept leaves kinds.StringToken s) _ _ (accepts kinds.StringToken s)
      (pick (accept_marked leaves (codes "x") kinds.StringToken s) _ _ (accepts_marked (codes "x") kinds.StringToken s)
      (pick (accept_marked leaves (codes "f") kinds.StringToken s) _ _ (accepts_marked (codes "f") kinds.StringToken s)
      (pick (accept leaves kinds.Backtick s) _ _ (accepts kinds.Backtick s) (there s)
      (λ p h. there_found p.1 _ h (cooks _ literals.Command p)))
      (λ p h. there_found p.1 _ h (cooks _ literals.Single p)))
      (λ p h. there_found p.1 _ h (cooks _ (string_of true) p)))
      (λ p h. there_found p.1 _ h (cooks _ (string_of false) p))
    where
      pick : (o : Taken R T B) (x : Read R T B (Option (Expr A B))) (f : T × State R T B → Read R T B (Option (Expr A B))) → Takes s o → Finds s x → ((p : T × State R T B) → Past s p.1 → Finds s (f p)) → Finds s (choose o x f)
      pick None x f t h g = h
      pick (Some p) x f t h g = g p (t p refl)

      there_found : (t : State R T B) (x : Read R T B (Expr A B)) → Past s t → Keeps t x → Finds s (x >>= found leaves)
      there_found t (Ok x) h k = past_then s t x.1 h k
      there_found t (Err e) h k = tt

  pub parts_go : (start : List ℕ) (s : State R T B) → Goes s (part leaves start s)
  unfolding part
  parts_go start s =
      either_goes s (accept leaves kinds.FormatStringContinue s) _ _ (accepts kinds.FormatStringContinue s)
      (first s (expect leaves kinds.FormatStringEnd s) _ (expects kinds.FormatStringEnd s) (λ x. cooks _ (literals.End start) x))
      (λ x. cooks _ (literals.Continue start) x)
