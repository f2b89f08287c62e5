-- If tokens derive an expression, the printer's tokens for it do, too, with the same features, under each limit that is enough for the
-- source.
use Rattle.std.proofs.Common.{◌≡◌, ℕ, ◌+◌, ◌≤◌, Bool, true, false, cond, ◌&&◌, List, [], ◌∷◌, ◌++◌, Option, refl, sym, subst, ap, ◌∙◌, arith, codes}
use Rattle.std.proofs.lemmas.List.{append-nil}
use Rattle.justfile_vocabulary.specs.declared.token_kind.TokenKind.{TokenKind}
use Rattle.justfile_vocabulary.specs.declared.token_kind.TokenKind.TheVariants as kinds
use Rattle.justfile_model.specs.declared.conditional_operator.ConditionalOperator.TheVariants.{Equality}
use Rattle.justfile_model.specs.Lexing.Tok.{Tok}
use Rattle.justfile_model.specs.Lexing.SignificantTokens.{SignificantToken}
use Rattle.justfile_model.specs.Trees.Tree as tree
use Rattle.justfile_model.specs.Trees.Tree.{lexeme, nothing}
use Rattle.justfile_model.specs.Grammars.Features.{Noted, uncompared}
use Rattle.justfile_model.specs.Grammars.Expressions as g
use Rattle.justfile_model.specs.Grammars.Expressions.{Tokens, BelowLimit, ends_open, NotNext, IsWord, NotWord, IsMarked, NotMarked, Unmarked, NotCompared, NotJoined, Expression, Disjunct, Compared, Conjunct, Condition, Braced, Conditional, Value, Sequence, FormatParts}
use Rattle.justfile_model.specs.Printed.Printing.{is_conditional}
use Rattle.justfile_round_trip.proofs.LiteralTexts.LexedModes.{Sign, sign, placed, space}
use Rattle.justfile_round_trip.proofs.Canon as canon
use Rattle.justfile_round_trip.proofs.Canon.{Shown, Values, ShapeParts, word, brace_left, brace_right, paren_right, expr_signs, exprs_signs, others_signs, parts_signs}
use Rattle.justfile_round_trip.proofs.Good.{significant, closes, ends_value}
use Rattle.justfile_round_trip.proofs.Ends.{End, OfName, OfValue, OfOpen, OfClosed, tail, EndsIn, ValueEndsIn, SameHead, same_head, value_head, expression_head}

-- ---- the tokens that follow

abbrev pub is_string : TokenKind → Bool
is_string kinds.StringToken = true
is_string kinds.FormatStringStart = true
is_string _ = false

abbrev pub glued_string : Tokens → Bool
glued_string [] = false
glued_string (t ∷ ts) = is_string t.tok.kind && t.glued

-- none of these follows: a string that the name before it would mark, a comparison, `&&`, `||`
pub record StopC (ts : Tokens) : Type 0 where
  pub apart : glued_string ts ≡ false

pub record StopM (ts : Tokens) : Type 0 where
  pub conjunct : StopC ts
  pub compared : NotCompared ts

pub record StopD (ts : Tokens) : Type 0 where
  pub comparison : StopM ts
  pub and : NotNext kinds.AmpersandAmpersand ts

pub record StopE (ts : Tokens) : Type 0 where
  pub disjunct : StopD ts
  pub or : NotNext kinds.BarBar ts

abbrev ends_here : TokenKind → Bool
ends_here kinds.ParenL = false
ends_here kinds.Slash = false
ends_here kinds.PlusPlus = false
ends_here kinds.Plus = false
ends_here kinds.Identifier = false
ends_here _ = true

no_string : (kind : TokenKind) → closes kind ≡ true → is_string kind ≡ false
no_string kinds.StringToken h = cc
no_string _ h = cc

pub here_too : (kind : TokenKind) → closes kind ≡ true → ends_here kind ≡ true
here_too kinds.ParenL h = cc
here_too _ h = cc

other : (f : TokenKind → Bool) (t : SignificantToken) (ts : Tokens) (kind : TokenKind) → f t.tok.kind ≡ true → f kind ≡ false → NotNext kind (t ∷ ts)
other f t ts kind h n = λ e. let c : true ≡ false = sym h ∙ ap f e ∙ n in cc

-- before a token that closes, or the end, no other token comes next
pub none_but_closing : (kind : TokenKind) (ts : Tokens) → closes kind ≡ false → ends_value ts ≡ true → NotNext kind ts
none_but_closing kind [] n h = tt
none_but_closing kind (t ∷ ts) n h = other closes t ts kind h n

-- a test that no operator passes which would continue an expression
abbrev pub NoOperator : (TokenKind → Bool) → Type 0
NoOperator f =
    (f kinds.BarBar ≡ false) × (f kinds.AmpersandAmpersand ≡ false) × (f kinds.EqualsEquals ≡ false) × (f kinds.BangEquals ≡ false) × (f kinds.EqualsTilde ≡ false) × (f kinds.BangTilde ≡ false)

-- an expression stops before a token that passes such a test, if no name before it would mark it
pub stop_at : (f : TokenKind → Bool) → NoOperator f → (t : SignificantToken) (ts : Tokens) → f t.tok.kind ≡ true → (is_string t.tok.kind && t.glued) ≡ false → StopE (t ∷ ts)
stop_at f n t ts h apart = record {
  or = other f t ts kinds.BarBar h n.0;
  disjunct = record {
    and = other f t ts kinds.AmpersandAmpersand h n.1;
    comparison = record {
      compared = record {
        equality = other f t ts kinds.EqualsEquals h n.2;
        inequality = other f t ts kinds.BangEquals h n.3;
        regex_match = other f t ts kinds.EqualsTilde h n.4;
        regex_mismatch = other f t ts kinds.BangTilde h n.5;
      };
      conjunct = record { apart = apart };
    };
  };
}

pub stop_before : (t : SignificantToken) (ts : Tokens) → closes t.tok.kind ≡ true → StopE (t ∷ ts)
stop_before t ts h = stop_at closes (refl, refl, refl, refl, refl, refl) t ts h (ap (λ b. b && t.glued) (no_string t.tok.kind h))

not_joined : (t : SignificantToken) (ts : Tokens) → ends_here t.tok.kind ≡ true → NotJoined (t ∷ ts)
not_joined t ts h = record { join = other ends_here t ts kinds.Slash h refl; list_concatenation = other ends_here t ts kinds.PlusPlus h refl; concatenation = other ends_here t ts kinds.Plus h refl }

pub ends_before : (x : End) (t : SignificantToken) (ts : Tokens) → ends_here t.tok.kind ≡ true → EndsIn x (t ∷ ts)
ends_before OfName t ts h = record { is = (other ends_here t ts kinds.ParenL h refl, not_joined t ts h) }
ends_before OfValue t ts h = record { is = (tt, not_joined t ts h) }
ends_before OfOpen t ts h = record { is = (tt, λ i. let c : true ≡ false = sym h ∙ ap ends_here i.is_name in cc) }
ends_before OfClosed t ts h = record { is = (tt, tt) }

pub value_before : (x : End) (ts : Tokens) → NotNext kinds.ParenL ts → ValueEndsIn x ts
value_before OfName ts h = record { is = h }
value_before OfValue ts h = record { is = tt }
value_before _ ts h = record { is = tt }

-- `)` or `]`
abbrev closer : (paren : Bool) → Sign
closer true = paren_right
closer false = sign kinds.BracketR (codes "]")

closer_stop : (p : Bool) (on : List Sign) → StopE (significant true (closer p ∷ on))
closer_stop true on = stop_before _ _ refl
closer_stop false on = stop_before _ _ refl

closer_ends : (x : End) (p : Bool) (on : List Sign) → EndsIn x (significant true (closer p ∷ on))
closer_ends x true on = ends_before x _ _ refl
closer_ends x false on = ends_before x _ _ refl

parts_stop : (ps : ShapeParts) (on : List Sign) → StopE (significant false (parts_signs ps on))
parts_stop (tree.Last t) on = stop_before _ _ refl
parts_stop (tree.Continue t e ps) on = stop_before _ _ refl

parts_ends : (x : End) (ps : ShapeParts) (on : List Sign) → EndsIn x (significant false (parts_signs ps on))
parts_ends x (tree.Last t) on = ends_before x _ _ refl
parts_ends x (tree.Continue t e ps) on = ends_before x _ _ refl

marked_apart : (w : List ℕ) (kind : TokenKind) (m : SignificantToken) (ts : Tokens) → is_string kind ≡ true → glued_string ts ≡ false → NotMarked w kind m ts
marked_apart w kind m [] s h = tt
marked_apart w kind m (t ∷ ts) s h = λ x.
    let one : is_string t.tok.kind ≡ true = ap is_string x.is_string ∙ s in
    let both : (is_string t.tok.kind && t.glued) ≡ true = rw (one, x.glued) refl in
    let c : true ≡ false = sym both ∙ h in cc

unmarked_apart : (m : SignificantToken) (ts : Tokens) → glued_string ts ≡ false → Unmarked m ts
unmarked_apart m ts h = record { expanded = marked_apart (codes "x") kinds.StringToken m ts refl h; literal = marked_apart (codes "f") kinds.StringToken m ts refl h; format = marked_apart (codes "f") kinds.FormatStringStart m ts refl h }

no_bool : true ≡ false → ⊥
no_bool e = cc

-- ---- the first token

pub next_head : {b : Bool} (kind : TokenKind) {ts us : Tokens} → SameHead b ts us → NotNext kind ts → NotNext kind us
next_head kind (same_head e f g b) h = λ x. h (e ∙ x)

pub word_head : {b : Bool} (w : List ℕ) {ts us : Tokens} → SameHead b ts us → NotWord w ts → NotWord w us
word_head w (same_head e f g b) h = λ i. h (record { is_name = e ∙ i.is_name; spelled = f i.is_name ∙ i.spelled })

-- ---- conditionals

abbrev following : List Sign → List Sign
following [] = []
following (t ∷ ts) = ts

abbrev if_token : Bool → SignificantToken
if_token b = record { tok = placed (word (codes "if")) 0 0 0; glued = b }

if_first : (o : canon.Value) (on : List Sign) (b : Bool) → is_conditional o ≡ true → significant b (expr_signs o on) ≡ if_token b ∷ significant true (following (expr_signs o on))
if_first (tree.If c t) on b h = refl
if_first (tree.IfElse c t o) on b h = refl
if_first _ on b h = cc

tail_conditional : (o : canon.Value) → is_conditional o ≡ true → tail o ≡ cond (ends_open o) OfOpen OfClosed
tail_conditional (tree.If c t) h = refl
tail_conditional (tree.IfElse c t o) h = refl
tail_conditional _ h = cc

no_else : (b : Bool) {ts : Tokens} → EndsIn (cond b OfOpen OfClosed) ts → b ≡ true → NotWord (codes "else") ts
no_else true h e = h.is.1
no_else false h e = cc

pub is_word : (w : List ℕ) {b : Bool} → IsWord w (record { tok = placed (word w) 0 0 0; glued = b })
is_word w = record { is_name = refl; spelled = refl }

is_marked : (w : List ℕ) (kind : TokenKind) (l : List ℕ) {b : Bool} → IsMarked w kind (record { tok = placed (word w) 0 0 0; glued = b }) (record { tok = placed (sign kind l) 0 0 0; glued = true })
is_marked w kind l = record { marks = is_word w; is_string = refl; glued = refl }

-- the features of no expressions are none
no_features : {A B : Type 0} {leaf : Tok → A} {position : Tok → B} {MayEnter : ℕ → Option SignificantToken → Type 0} {kind : TokenKind} {d : ℕ} {fs : List (Noted B)} {ts rest : Tokens} → Sequence leaf position MayEnter kind d tree.none fs ts rest → fs ≡ []
no_features (g.none kind) = refl

-- an expression that is below the limit at a depth is below it at a lesser depth
pub lower : (limit d d' : ℕ) (a b : Option SignificantToken) → d' ≤ d → BelowLimit limit d a → BelowLimit limit d' b
lower limit d d' a b le h = omega (arith, le, h)

module _ (MayEnter MayEnter' : ℕ → Option SignificantToken → Type 0) (fewer : (d d' : ℕ) (a b : Option SignificantToken) → d' ≤ d → MayEnter d a → MayEnter' d' b) where
  -- from any tokens that it begins alike
  as_condition : {d : ℕ} {e : canon.Value} {fs : Shown} {b : Bool} {ts us rest : Tokens} → SameHead b ts us → Expression lexeme nothing MayEnter' true d e fs us rest → Condition lexeme nothing MayEnter' d e (fs ++ uncompared e tt) us rest
  as_condition (same_head kind spelled glued b) x = g.condition x

  value_no_conditional : {d : ℕ} {e : canon.Value} {fs : Shown} {ts rest : Tokens} → Value lexeme nothing MayEnter d e fs ts rest → is_conditional e ≡ true → ⊥
  value_no_conditional (g.not kind v) e = cc
  value_no_conditional _ e = cc

  conditional_yes : {d : ℕ} {w : SignificantToken} {e : canon.Value} {fs : Shown} {ts rest : Tokens} → Conditional lexeme nothing MayEnter d w e fs ts rest → is_conditional e ≡ true
  conditional_yes (g.if_only c b next) = refl
  conditional_yes _ = refl

  -- what a value's end leaves to the operators
  value_joined : {d : ℕ} {e : canon.Value} {fs : Shown} {ts rest us : Tokens} → Value lexeme nothing MayEnter d e fs ts rest → EndsIn (tail e) us → ValueEndsIn (tail e) us × NotJoined us
  value_joined (g.not kind v) h = value_joined v h
  value_joined (g.literal kind) h = (record { is = tt }, h.is.1)
  value_joined (g.variable kind no_assert unmarked next) h = (record { is = h.is.0 }, h.is.1)
  value_joined _ h = (record { is = tt }, h.is.1)

  end_none : (p : Bool) (d : ℕ) (b : Bool) (on : List Sign) → Sequence lexeme nothing MayEnter' (closer p).kind d tree.none [] (significant b (closer p ∷ on)) (significant true on)
  end_none true d b on = g.none refl
  end_none false d b on = g.none refl

  end_last : (p : Bool) (d : ℕ) (e : canon.Value) (fs : Shown) (ts : Tokens) (on : List Sign) → NotNext (closer p).kind ts → Expression lexeme nothing MayEnter' false d e fs ts (significant true (closer p ∷ on))
      → Sequence lexeme nothing MayEnter' (closer p).kind d (tree.more e tree.none) fs ts (significant true on)
  end_last true d e fs ts on next h = g.last next h refl
  end_last false d e fs ts on next h = g.last next h refl

  -- an element and those after it
  joined : (p : Bool) (d : ℕ) (e : canon.Value) (es : Values) (fs gs : Shown) (on : List Sign) (b : Bool) → NotNext (closer p).kind (significant b (expr_signs e (others_signs es (closer p ∷ on))))
      → ((on' : List Sign) → EndsIn (tail e) (significant true on') → StopE (significant true on') → Expression lexeme nothing MayEnter' false d e fs (significant b (expr_signs e on')) (significant true on'))
      → Sequence lexeme nothing MayEnter' (closer p).kind d es gs (significant false (exprs_signs es (closer p ∷ on))) (significant true on)
      → Sequence lexeme nothing MayEnter' (closer p).kind d (tree.more e es) (fs ++ gs) (significant b (expr_signs e (others_signs es (closer p ∷ on)))) (significant true on)
  joined p d e tree.none fs gs on b next f q =
      subst (λ x. Sequence lexeme nothing MayEnter' (closer p).kind d (tree.more e tree.none) x (significant b (expr_signs e (closer p ∷ on))) (significant true on)) (sym (append-nil fs) ∙ ap (λ x. fs ++ x) (sym (no_features q)))
      (end_last p d e fs _ on next (f (closer p ∷ on) (closer_ends (tail e) p on) (closer_stop p on)))
  joined p d e (tree.more e2 es) fs gs on b next f q = g.more next (f (others_signs (tree.more e2 es) (closer p ∷ on)) (ends_before (tail e) _ _ refl) (stop_before _ _ refl)) refl q

  -- both ways to print another branch
  branched : (d : ℕ) (w : SignificantToken) (c t o : canon.Value) (cs bs os : Shown) (on : List Sign) (b : Bool) → is_conditional o ≡ b
      → ((on' : List Sign) → EndsIn (tail c) (significant true on') → StopE (significant true on') → Condition lexeme nothing MayEnter' d c cs (significant false (expr_signs c on')) (significant true on'))
      → ((on' : List Sign) → Braced lexeme nothing MayEnter' d t bs (significant false (brace_left ∷ space ∷ expr_signs t (space ∷ brace_right ∷ on'))) (significant true on'))
      → (is_conditional o ≡ false → Braced lexeme nothing MayEnter' d o os (significant false (brace_left ∷ space ∷ expr_signs o (space ∷ brace_right ∷ on))) (significant true on))
      → (is_conditional o ≡ true → Conditional lexeme nothing MayEnter' d (if_token false) o os (significant true (following (expr_signs o on))) (significant true on))
      → (ends_open o ≡ true → NotWord (codes "else") (significant true on))
      → Conditional lexeme nothing MayEnter' d w (tree.IfElse c t o) (cs ++ bs ++ os)
      (significant false (expr_signs c (space ∷ brace_left ∷ space ∷ expr_signs t (space ∷ brace_right ∷ space ∷ word (codes "else") ∷ space
      ∷ cond b (expr_signs o on) (brace_left ∷ space ∷ expr_signs o (space ∷ brace_right ∷ on)))))) (significant true on)
  branched d w c t o cs bs os on false is fc ft fb fo next =
      g.if_else (fc _ (ends_before (tail c) _ _ refl) (stop_before _ _ refl)) (ft _) (is_word (codes "else")) (fb is) next
  branched d w c t o cs bs os on true is fc ft fb fo next =
      let first : significant false (expr_signs o on) ≡ if_token false ∷ significant true (following (expr_signs o on)) = if_first o on false is in
      let else_token : SignificantToken = record { tok = placed (word (codes "else")) 0 0 0; glued = false } in
      let B : Tokens → Type 0 = λ s. Braced lexeme nothing MayEnter' d t bs (significant false (brace_left ∷ space ∷ expr_signs t (space ∷ brace_right ∷ space ∷ word (codes "else") ∷ space ∷ expr_signs o on))) (else_token ∷ s) in
      g.else_if (fc _ (ends_before (tail c) _ _ refl) (stop_before _ _ refl)) (subst B first (ft (space ∷ word (codes "else") ∷ space ∷ expr_signs o on))) (is_word (codes "else")) (is_word (codes "if")) (fo is)

  put_if : {d d' : ℕ} {w : SignificantToken} {e : canon.Value} {fs gs : Shown} {ts rest : Tokens} → Conditional lexeme nothing MayEnter d w e fs ts rest → (b : Bool) (on : List Sign)
      → Conditional lexeme nothing MayEnter' d' (if_token b) e gs (significant true (following (expr_signs e on))) (significant true on) → Conjunct lexeme nothing MayEnter' d' e gs (significant b (expr_signs e on)) (significant true on)
  put_if (g.if_only c x next) b on q = g.conditional (is_word (codes "if")) q
  put_if _ b on q = g.conditional (is_word (codes "if")) q

  mutual
    pub expression_back : {condition : Bool} {d : ℕ} {e : canon.Value} {fs : Shown} {ts rest : Tokens} → Expression lexeme nothing MayEnter condition d e fs ts rest → (d' : ℕ) → d' ≤ d → (b : Bool) (on : List Sign) → EndsIn (tail e) (significant true on) → StopE (significant true on)
        → Expression lexeme nothing MayEnter' condition d' e fs (significant b (expr_signs e on)) (significant true on)
    expression_back {d = d} (g.or o l kind r) d' le b on ends stop =
        g.or (fewer d d' _ _ le o) (disjunct_back l (d' + 1) (omega arith) b _ (ends_before _ _ _ refl) (record { and = λ e. cc; comparison = record { compared = record { equality = λ e. cc; inequality = λ e. cc; regex_match = λ e. cc; regex_mismatch = λ e. cc }; conjunct = record { apart = refl } } })) refl
        (expression_back r (d' + 1) (omega arith) false on ends stop)
    expression_back {d = d} (g.disjunct o l next) d' le b on ends stop = g.disjunct (fewer d d' _ _ le o) (disjunct_back l (d' + 1) (omega arith) b on ends stop.disjunct) stop.or

    disjunct_back : {condition : Bool} {d : ℕ} {e : canon.Value} {fs : Shown} {ts rest : Tokens} → Disjunct lexeme nothing MayEnter condition d e fs ts rest → (d' : ℕ) → d' ≤ d → (b : Bool) (on : List Sign) → EndsIn (tail e) (significant true on) → StopD (significant true on)
        → Disjunct lexeme nothing MayEnter' condition d' e fs (significant b (expr_signs e on)) (significant true on)
    disjunct_back (g.and l kind r) d' le b on ends stop =
        g.and (compared_back l d' le b _ (ends_before _ _ _ refl) (record { compared = record { equality = λ e. cc; inequality = λ e. cc; regex_match = λ e. cc; regex_mismatch = λ e. cc }; conjunct = record { apart = refl } })) refl (disjunct_back r d' le false on ends stop)
    disjunct_back (g.comparison l next) d' le b on ends stop = g.comparison (compared_back l d' le b on ends stop.comparison) stop.and

    compared_back : {condition : Bool} {d : ℕ} {e : canon.Value} {fs : Shown} {ts rest : Tokens} → Compared lexeme nothing MayEnter condition d e fs ts rest → (d' : ℕ) → d' ≤ d → (b : Bool) (on : List Sign) → EndsIn (tail e) (significant true on) → StopM (significant true on)
        → Compared lexeme nothing MayEnter' condition d' e fs (significant b (expr_signs e on)) (significant true on)
    compared_back (g.compare Equality l kind r) d' le b on ends stop =
        g.compare Equality (conjunct_back l d' le b _ (ends_before _ _ _ refl) (record { apart = refl })) refl (conjunct_back r d' le false on ends stop.conjunct)
    compared_back (g.compare by l kind r) d' le b on ends stop =
        g.compare by (conjunct_back l d' le b _ (ends_before _ _ _ refl) (record { apart = refl })) refl (conjunct_back r d' le false on ends stop.conjunct)
    compared_back (g.conjunct l next) d' le b on ends stop = g.conjunct (conjunct_back l d' le b on ends stop.conjunct) stop.compared

    conjunct_back : {d : ℕ} {e : canon.Value} {fs : Shown} {ts rest : Tokens} → Conjunct lexeme nothing MayEnter d e fs ts rest → (d' : ℕ) → d' ≤ d → (b : Bool) (on : List Sign) → EndsIn (tail e) (significant true on) → StopC (significant true on)
        → Conjunct lexeme nothing MayEnter' d' e fs (significant b (expr_signs e on)) (significant true on)
    conjunct_back (g.conditional i c) d' le b on ends stop = put_if c b on (conditional_back c (if_token b) d' le on ends)
    conjunct_back (g.root kind r) d' le b on ends stop = g.root refl (conjunct_back r d' le false on ends stop)
    conjunct_back (g.join next l kind r) d' le b on ends stop =
        g.join (word_head (codes "if") (value_head MayEnter l b _) next) (value_back l d' le b _ (value_before _ _ (λ e. cc)) refl) refl (conjunct_back r d' le false on ends stop)
    conjunct_back (g.list_concatenation next l kind r) d' le b on ends stop =
        g.list_concatenation (word_head (codes "if") (value_head MayEnter l b _) next) (value_back l d' le b _ (value_before _ _ (λ e. cc)) refl) refl (conjunct_back r d' le false on ends stop)
    conjunct_back (g.concatenation next l kind r) d' le b on ends stop =
        g.concatenation (word_head (codes "if") (value_head MayEnter l b _) next) (value_back l d' le b _ (value_before _ _ (λ e. cc)) refl) refl (conjunct_back r d' le false on ends stop)
    conjunct_back (g.value next v unjoined) d' le b on ends stop =
        let x = value_joined v ends in
        g.value (word_head (codes "if") (value_head MayEnter v b _) next) (value_back v d' le b on x.0 stop.apart) x.1

    condition_back : {d : ℕ} {e : canon.Value} {fs : Shown} {ts rest : Tokens} → Condition lexeme nothing MayEnter d e fs ts rest → (d' : ℕ) → d' ≤ d → (b : Bool) (on : List Sign) → EndsIn (tail e) (significant true on) → StopE (significant true on)
        → Condition lexeme nothing MayEnter' d' e fs (significant b (expr_signs e on)) (significant true on)
    condition_back (g.condition x) d' le b on ends stop = as_condition (expression_head MayEnter x b on) (expression_back x d' le b on ends stop)

    braced_back : {d : ℕ} {e : canon.Value} {fs : Shown} {ts rest : Tokens} → Braced lexeme nothing MayEnter d e fs ts rest → (d' : ℕ) → d' ≤ d → (on : List Sign)
        → Braced lexeme nothing MayEnter' d' e fs (significant false (brace_left ∷ space ∷ expr_signs e (space ∷ brace_right ∷ on))) (significant true on)
    braced_back (g.braces kind e kind2) d' le on = g.braces refl (expression_back e d' le false _ (ends_before _ _ _ refl) (stop_before _ _ refl)) refl

    -- after the `if`
    conditional_back : {d : ℕ} {w : SignificantToken} {e : canon.Value} {fs : Shown} {ts rest : Tokens} → Conditional lexeme nothing MayEnter d w e fs ts rest → (w' : SignificantToken) (d' : ℕ) → d' ≤ d → (on : List Sign) → EndsIn (tail e) (significant true on)
        → Conditional lexeme nothing MayEnter' d' w' e fs (significant true (following (expr_signs e on))) (significant true on)
    conditional_back (g.if_only c t next) w' d' le on ends =
        g.if_only (condition_back c d' le false _ (ends_before _ _ _ refl) (stop_before _ _ refl)) (braced_back t d' le on) ends.is.1
    conditional_back (g.if_else {c = c'} {b = t'} {o = o'} {cs} {bs} {os} c t w o next) w' d' le on ends =
        branched d' w' c' t' o' cs bs os on (is_conditional o') refl (condition_back c d' le false) (braced_back t d' le) (λ _. braced_back o d' le on)
        (λ is. braced_conditional o is d' le on (subst (λ x. EndsIn x (significant true on)) (sym (tail_conditional o' is)) ends)) (no_else (ends_open o') ends)
    conditional_back (g.else_if {c = c'} {b = t'} {o = o'} {cs} {bs} {os} c t w i o) w' d' le on ends =
        branched d' w' c' t' o' cs bs os on (is_conditional o') refl (condition_back c d' le false) (braced_back t d' le) (λ is. let x = conditional_yes o in absurd (no_bool (sym x ∙ is)))
        (λ is. conditional_back o (if_token false) d' le on (subst (λ x. EndsIn x (significant true on)) (sym (tail_conditional o' is)) ends)) (no_else (ends_open o') ends)

    -- a conditional in braces
    braced_conditional : {d : ℕ} {e : canon.Value} {fs : Shown} {ts rest : Tokens} → Braced lexeme nothing MayEnter d e fs ts rest → is_conditional e ≡ true → (d' : ℕ) → d' ≤ d → (on : List Sign) → EndsIn (tail e) (significant true on)
        → Conditional lexeme nothing MayEnter' d' (if_token false) e fs (significant true (following (expr_signs e on))) (significant true on)
    braced_conditional (g.braces kind e kind2) is d' le on ends = expression_conditional e is d' le on ends

    expression_conditional : {condition : Bool} {d : ℕ} {e : canon.Value} {fs : Shown} {ts rest : Tokens} → Expression lexeme nothing MayEnter condition d e fs ts rest → is_conditional e ≡ true → (d' : ℕ) → d' ≤ d → (on : List Sign) → EndsIn (tail e) (significant true on)
        → Conditional lexeme nothing MayEnter' d' (if_token false) e fs (significant true (following (expr_signs e on))) (significant true on)
    expression_conditional (g.or o l kind r) is d' le on ends = absurd (no_bool (sym is))
    expression_conditional (g.disjunct o l next) is d' le on ends = disjunct_conditional l is d' (omega arith) on ends

    disjunct_conditional : {condition : Bool} {d : ℕ} {e : canon.Value} {fs : Shown} {ts rest : Tokens} → Disjunct lexeme nothing MayEnter condition d e fs ts rest → is_conditional e ≡ true → (d' : ℕ) → d' ≤ d → (on : List Sign) → EndsIn (tail e) (significant true on)
        → Conditional lexeme nothing MayEnter' d' (if_token false) e fs (significant true (following (expr_signs e on))) (significant true on)
    disjunct_conditional (g.and l kind r) is d' le on ends = absurd (no_bool (sym is))
    disjunct_conditional (g.comparison l next) is d' le on ends = compared_conditional l is d' le on ends

    compared_conditional : {condition : Bool} {d : ℕ} {e : canon.Value} {fs : Shown} {ts rest : Tokens} → Compared lexeme nothing MayEnter condition d e fs ts rest → is_conditional e ≡ true → (d' : ℕ) → d' ≤ d → (on : List Sign) → EndsIn (tail e) (significant true on)
        → Conditional lexeme nothing MayEnter' d' (if_token false) e fs (significant true (following (expr_signs e on))) (significant true on)
    compared_conditional (g.compare by l kind r) is d' le on ends = absurd (no_bool (sym is))
    compared_conditional (g.conjunct l next) is d' le on ends = conjunct_conditional l is d' le on ends

    conjunct_conditional : {d : ℕ} {e : canon.Value} {fs : Shown} {ts rest : Tokens} → Conjunct lexeme nothing MayEnter d e fs ts rest → is_conditional e ≡ true → (d' : ℕ) → d' ≤ d → (on : List Sign) → EndsIn (tail e) (significant true on)
        → Conditional lexeme nothing MayEnter' d' (if_token false) e fs (significant true (following (expr_signs e on))) (significant true on)
    conjunct_conditional (g.conditional i c) is d' le on ends = conditional_back c (if_token false) d' le on ends
    conjunct_conditional (g.value next v unjoined) is d' le on ends = absurd (value_no_conditional v is)
    conjunct_conditional _ is d' le on ends = absurd (no_bool (sym is))

    pub value_back : {d : ℕ} {e : canon.Value} {fs : Shown} {ts rest : Tokens} → Value lexeme nothing MayEnter d e fs ts rest → (d' : ℕ) → d' ≤ d → (b : Bool) (on : List Sign) → ValueEndsIn (tail e) (significant true on) → glued_string (significant true on) ≡ false
        → Value lexeme nothing MayEnter' d' e fs (significant b (expr_signs e on)) (significant true on)
    value_back (g.not kind v) d' le b on ends apart = g.not refl (value_back v d' le true on ends apart)
    value_back (g.literal kind) d' le b on ends apart = g.literal refl
    value_back (g.expanded {token} m) d' le b on ends apart = g.expanded (is_marked (codes "x") kinds.StringToken token.tok.lexeme)
    value_back (g.format_literal {token} m) d' le b on ends apart = g.format_literal (is_marked (codes "f") kinds.StringToken token.tok.lexeme)
    value_back (g.format_string {ps = ps'} {start} m e ps) d' le b on ends apart =
        g.format_string (is_marked (codes "f") kinds.FormatStringStart start.tok.lexeme) (expression_back e d' le false _ (parts_ends _ ps' on) (parts_stop ps' on)) (parts_back ps d' le false on)
    value_back (g.backtick kind) d' le b on ends apart = g.backtick refl
    value_back (g.assert w kind c kind2) d' le b on ends apart =
        g.assert (is_word (codes "assert")) refl (condition_back c d' le true _ (ends_before _ _ _ refl) (stop_before _ _ refl)) refl
    value_back (g.assert_message w kind c kind2 m kind3) d' le b on ends apart =
        g.assert_message (is_word (codes "assert")) refl (condition_back c d' le true _ (ends_before _ _ _ refl) (stop_before _ _ refl)) refl (expression_back m d' le false _ (ends_before _ _ _ refl) (stop_before _ _ refl)) refl
    value_back (g.variable kind no_assert unmarked next) d' le b on ends apart =
        g.variable refl (λ w. no_assert (record { is_name = kind; spelled = w.spelled })) (unmarked_apart _ _ apart) ends.is
    value_back (g.call kind no_assert kind2 s) d' le b on ends apart =
        g.call refl (λ w. no_assert (record { is_name = kind; spelled = w.spelled })) refl (sequence_back true s refl d' le true on)
    value_back (g.group kind e kind2) d' le b on ends apart = g.group refl (expression_back e d' le true _ (ends_before _ _ _ refl) (stop_before _ _ refl)) refl
    value_back (g.list kind s) d' le b on ends apart = g.list refl (sequence_back false s refl d' le true on)

    pub sequence_back : (p : Bool) {closing : TokenKind} {d : ℕ} {es : Values} {fs : Shown} {ts rest : Tokens} → Sequence lexeme nothing MayEnter closing d es fs ts rest → closing ≡ (closer p).kind → (d' : ℕ) → d' ≤ d → (b : Bool) (on : List Sign)
        → Sequence lexeme nothing MayEnter' (closer p).kind d' es fs (significant b (exprs_signs es (closer p ∷ on))) (significant true on)
    sequence_back p (g.none kind) same d' le b on = end_none p d' b on
    sequence_back p {closing} (g.last {e = e'} {fs} next e kind) same d' le b on =
        end_last p d' e' fs _ on (subst (λ k. NotNext k (significant b (expr_signs e' (closer p ∷ on)))) same (next_head closing (expression_head MayEnter e b _) next)) (expression_back e d' le b (closer p ∷ on) (closer_ends (tail e') p on) (closer_stop p on))
    sequence_back p {closing} (g.more {e = e'} {es = es'} {fs} {gs} next e kind s) same d' le b on =
        joined p d' e' es' fs gs on b (subst (λ k. NotNext k (significant b (expr_signs e' (others_signs es' (closer p ∷ on))))) same (next_head closing (expression_head MayEnter e b _) next)) (expression_back e d' le b) (sequence_back p s same d' le false on)

    parts_back : {d : ℕ} {ps : ShapeParts} {fs : Shown} {ts rest : Tokens} → FormatParts lexeme nothing MayEnter d ps fs ts rest → (d' : ℕ) → d' ≤ d → (b : Bool) (on : List Sign)
        → FormatParts lexeme nothing MayEnter' d' ps fs (significant b (parts_signs ps on)) (significant true on)
    parts_back (g.end kind) d' le b on = g.end refl
    parts_back (g.next {ps = ps'} kind e ps) d' le b on = g.next refl (expression_back e d' le false _ (parts_ends _ ps' on) (parts_stop ps' on)) (parts_back ps d' le false on)
