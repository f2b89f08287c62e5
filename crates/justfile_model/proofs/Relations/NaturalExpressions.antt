-- The parser of expressions is natural in its tokens and leaves: for related tokens it parses related trees.
use Rattle.std.proofs.Common.{◌≡◌, ℕ, ◌+◌, ◌*◌, Bool, true, false, List, Option, Some, None, Err, length, refl, subst, ap, codes}
use Rattle.justfile_vocabulary.specs.declared.token_kind.TokenKind.{TokenKind}
use Rattle.justfile_vocabulary.specs.declared.token_kind.TokenKind.TheVariants as kinds
use Rattle.justfile_model.specs.declared.level.Level.{Level}
use Rattle.justfile_model.specs.declared.level.Level.TheVariants as levels
use Rattle.justfile_vocabulary.specs.declared.list_feature.ListFeature.TheVariants as features
use Rattle.justfile_model.specs.Readers.ExpressionReader as r
use Rattle.justfile_model.specs.Readers.ExpressionReader.{Met, Out, Place, accept_operator, assert_rule, backtick, binary_rule, braced_rule, condition_rule, conditional_rule, conjunct_rule, element_rule, format_rest_rule, format_rule, format_string_rule, found, group_rule, list_rule, literal, name_rule, note_uncompared, opened, otherwise_rule, part, parts_rule, read, rule, sequence_rule, whole_format_string, size, stop_expression, literal_string, value_rule}
use Rattle.justfile_model.specs.Grammars.Expressions.{ends_open}
use Rattle.justfile_model.specs.Grammars.Features.{function_feature, uncompared_feature}
use Rattle.justfile_model.specs.LiteralTexts.Literals as literals
use Rattle.justfile_model.specs.LiteralTexts.Literals.{string_of, token_of}
use Rattle.justfile_model.specs.Trees.Operators.{feature_of, operand, rank, right}
use Rattle.justfile_model.specs.Readers.ReaderState.{◌>>=◌, Leaves, Read, State, Unexpected, refused}
use Rattle.justfile_model.specs.Trees.Tree.{Expr}
use Rattle.justfile_model.proofs.Relations.Related as a
use Rattle.justfile_model.proofs.Relations.Related.{Alike, AlikeAll, AlikeParts, Each, Meets, Never, Related, Relations, Respects, States, accepted, accepted_marked, accepted_operator, accepted_word, at_alike, bind, both, by_tests, closed_alike, cooked_alike, each_length, entered, expected, met, neither, no_next, none_met, noted_if_alike, one_noted, opened_alike, pick, refused_alike, same_ends, same_uncompared, unexpected, with_alike}
use Rattle.justfile_model.proofs.Readers.ReadingSteps.{loop}
use Rattle.justfile_model.proofs.Lists.Turns.{both_recur}

pub string_asks : (expanded : Bool) (lexeme : List ℕ) → token_of (string_of expanded lexeme) ≡ lexeme
string_asks true lexeme = refl
string_asks false lexeme = refl

module _ {R T A B S D R' T' A' B' S' D' : Type 0} (rel : Relations R T A B S D R' T' A' B' S' D') where
  -- two parsers in related states parse related results
  pub data Places : Place R T B → Place R' T' B' → Type 0 where
    at : {level : Level} {c : Bool} {s : State R T B} {s' : State R' T' B'} → States rel s s' → Places (r.At level c s) (r.At level c s')
    conditional : {w : T} {w' : T'} {s : State R T B} {s' : State R' T' B'} → rel.token w w' → States rel s s' → Places (r.Conditional w s) (r.Conditional w' s')
    sequence : {k : TokenKind} {s : State R T B} {s' : State R' T' B'} → States rel s s' → Places (r.Sequence k s) (r.Sequence k s')
    format_parts : {start : List ℕ} {s : State R T B} {s' : State R' T' B'} → States rel s s' → Places (r.FormatParts start s) (r.FormatParts start s')

  abbrev pub Reads : {X Y : Type 0} → (X → Y → Type 0) → Read R T B X → Read R' T' B' Y → Type 0
  Reads Q = Related rel Q (Never rel)

  -- two loops from related places, if each turn keeps results related
  pub loop_natural : {X Y X' Y' : Type 0} (at_one : X → State R T B) (at_other : X' → State R' T' B') (Like : X → X' → Type 0)
      → ((x : X) (x' : X') → Like x x' → States rel (at_one x) (at_other x')) → (Q : Y → Y' → Type 0)
      → (rule : (X → Read R T B Y) → X → Read R T B Y) (rule' : (X' → Read R' T' B' Y') → X' → Read R' T' B' Y')
      → ((f : X → Read R T B Y) (g : X' → Read R' T' B' Y') → ((x : X) (x' : X') → Like x x' → Reads Q (f x) (g x')) → (x : X) (x' : X') → Like x x'
      → Reads Q (rule f x) (rule' g x')) → (x : X) (x' : X') → Like x x' → Reads Q (loop at_one rule x) (loop at_other rule' x')
  loop_natural at_one at_other Like state Q rule rule' =
      both_recur (λ x. length (at_one x).left) (λ x. Err (Unexpected None)) rule (λ x'. length (at_other x').left) (λ x'. Err (Unexpected None)) rule' Like
      (λ x x' h. each_length (state x x' h).left) (λ x x' found found'. Reads Q found found') (λ x x' h. neither (unexpected no_next))

  -- an expression or none
  pub data Finds : Option (Expr A B) → Option (Expr A' B') → Type 0 where
    none : Finds None None
    some : {e : Expr A B} {e' : Expr A' B'} → Alike rel e e' → Finds (Some e) (Some e')

  -- a leaf or an expression, and whether what it is part of ends after it
  pub record Ended {X Y : Type 0} (Q : X → Y → Type 0) (x : X × Bool) (y : Y × Bool) : Type 0 where
    pub first : Q x.0 y.0
    pub last : x.1 ≡ y.1

  module _ (one : Leaves R T A B S) (other : Leaves R' T' A' B' S') (agree : Respects rel one other) where
    abbrev pub Agrees : (x : Place R T B) (y : Place R' T' B') → Out one x → Out other y → Type 0
    Agrees (r.At k c s) (r.At k' c' s') found found' = Reads (Alike rel) found found'
    Agrees (r.Conditional w s) (r.Conditional w' s') found found' = Reads (Alike rel) found found'
    Agrees (r.Sequence k s) (r.Sequence k' s') found found' = Reads (AlikeAll rel) found found'
    Agrees (r.FormatParts start s) (r.FormatParts start' s') found found' = Reads (AlikeParts rel start) found found'
    Agrees _ _ found found' = ⊥

    -- ---- literals

    string_alike : (expanded : Bool) (x : T × State R T B) (x' : T' × State R' T' B') → rel.token x.0 x'.0 → States rel x.1 x'.1 → Reads (Alike rel) (literal_string one expanded x) (literal_string other expanded x')
    unfolding literal_string
    string_alike expanded x x' t h = cooked_alike rel one other agree (Alike rel) _ _ (string_of expanded) (string_asks expanded) x x' t h (λ l l' k. a.string (one.see x.0).tok.lexeme k)

    single_alike : (x : T × State R T B) (x' : T' × State R' T' B') → rel.token x.0 x'.0 → States rel x.1 x'.1 → Reads (Alike rel) (whole_format_string one x) (whole_format_string other x')
    unfolding whole_format_string
    single_alike x x' t h = cooked_alike rel one other agree (Alike rel) _ _ literals.Single (λ lexeme. refl) x x' t h (λ l l' k. a.format_literal (one.see x.0).tok.lexeme k)

    backtick_alike : (x : T × State R T B) (x' : T' × State R' T' B') → rel.token x.0 x'.0 → States rel x.1 x'.1 → Reads (Alike rel) (backtick one x) (backtick other x')
    unfolding backtick
    backtick_alike x x' t h = cooked_alike rel one other agree (Alike rel) _ _ literals.Command (λ lexeme. refl) x x' t h (λ l l' k. a.backtick (one.see x.0).tok.lexeme k)

    found_alike : {x : Read R T B (Expr A B)} {x' : Read R' T' B' (Expr A' B')} → Reads (Alike rel) x x' → Reads Finds (x >>= found one) (x' >>= found other)
    found_alike h = bind rel (found one) (found other) h (λ e e' k j. both (some k) j)

    literal_alike : {s : State R T B} {s' : State R' T' B'} → States rel s s' → Reads Finds (literal one s) (literal other s')
    unfolding literal
    literal_alike h =
        pick rel _ _ (accepted rel one other agree kinds.StringToken h)
        (pick rel _ _ (accepted_marked rel one other agree (codes "x") kinds.StringToken h)
        (pick rel _ _ (accepted_marked rel one other agree (codes "f") kinds.StringToken h)
        (pick rel _ _ (accepted rel one other agree kinds.Backtick h) (both none h)
        (λ x y t k. found_alike (backtick_alike x y t k)))
        (λ x y t k. found_alike (single_alike x y t k)))
        (λ x y t k. found_alike (string_alike true x y t k)))
        (λ x y t k. found_alike (string_alike false x y t k))

    -- the leaf of a part of a format string that starts so
    abbrev pub Part : (start : List ℕ) → A × Bool → A' × Bool → Type 0
    Part start x y = Ended (λ l l'. (lexeme : List ℕ) × ((x.1 ≡ true → rel.literal (literals.End start lexeme) l l') × (x.1 ≡ false → rel.literal (literals.Continue start lexeme) l l'))) x y

    pub part_alike : (start : List ℕ) {s : State R T B} {s' : State R' T' B'} → States rel s s' → Reads (Part start) (part one start s) (part other start s')
    unfolding part
    part_alike start h =
        pick rel _ _ (accepted rel one other agree kinds.FormatStringContinue h)
        (bind rel _ _ (expected rel one other agree kinds.FormatStringEnd h)
        (λ x y t k. cooked_alike rel one other agree (Part start) (λ l. (l, true)) (λ l. (l, true)) (literals.End start) (λ lexeme. refl) x y t k (λ l l' j. record { first = ((one.see x.0).tok.lexeme, ((λ _. j), (λ e. cc))); last = refl })))
        (λ x y t k. cooked_alike rel one other agree (Part start) (λ l. (l, false)) (λ l. (l, false)) (literals.Continue start) (λ lexeme. refl) x y t k (λ l l' j. record { first = ((one.see x.0).tok.lexeme, ((λ e. cc), (λ _. j))); last = refl }))

    -- ---- conditionals

    ended_alike : (b b' : Bool) {e : Expr A B} {e' : Expr A' B'} {s : State R T B} {s' : State R' T' B'} → b ≡ b' → Alike rel e e' → States rel s s' → Reads (Alike rel) (r.ended_by one b e s) (r.ended_by other b' e' s')
    ended_alike false false same e h = both e h
    ended_alike true true same e h = pick rel _ _ (accepted_word rel one other agree (codes "else") h) (both e h) (λ w w' t k. neither (unexpected (a.a_next t)))
    ended_alike _ _ same e h = cc

    uncompared_alike : {e : Expr A B} {e' : Expr A' B'} {from : List T} {from' : List T'} {s : State R T B} {s' : State R' T' B'} → Alike rel e e' → Each rel.token from from' → States rel s s' → States rel (note_uncompared one e from s) (note_uncompared other e' from' s')
    uncompared_alike e a.nil h = h
    uncompared_alike {e = x} {e' = x'} e (a.cons {x = t} {y = t'} k ks) h = with_alike rel (noted_if_alike rel (uncompared_feature x) (uncompared_feature x') (same_uncompared rel e) (agree.position t t' k)) h

    -- ---- what is read at a place

    module _ (f : (x : Place R T B) → Out one x) (g : (y : Place R' T' B') → Out other y) (alike : (x : Place R T B) (y : Place R' T' B') → Places x y → Agrees x y (f x) (g y)) where
      level_alike : (k : Level) (c : Bool) {s : State R T B} {s' : State R' T' B'} → States rel s s' → Reads (Alike rel) (f (r.At k c s)) (g (r.At k c s'))
      level_alike k c {s} {s'} h = alike (r.At k c s) (r.At k c s') (at h)

      conditional_at : {w : T} {w' : T'} {s : State R T B} {s' : State R' T' B'} → rel.token w w' → States rel s s' → Reads (Alike rel) (f (r.Conditional w s)) (g (r.Conditional w' s'))
      conditional_at {w} {w'} {s} {s'} t h = alike (r.Conditional w s) (r.Conditional w' s') (conditional t h)

      sequence_at : (k : TokenKind) {s : State R T B} {s' : State R' T' B'} → States rel s s' → Reads (AlikeAll rel) (f (r.Sequence k s)) (g (r.Sequence k s'))
      sequence_at k {s} {s'} h = alike (r.Sequence k s) (r.Sequence k s') (sequence h)

      parts_at : (start : List ℕ) {s : State R T B} {s' : State R' T' B'} → States rel s s' → Reads (AlikeParts rel start) (f (r.FormatParts start s)) (g (r.FormatParts start s'))
      parts_at start {s} {s'} h = alike (r.FormatParts start s) (r.FormatParts start s') (format_parts h)

      tail_alike : (k : Level) (c : Bool) (l : Expr A B × State R T B) (l' : Expr A' B' × State R' T' B') {o : Met R T B} {o' : Met R' T' B'} → Alike rel l.0 l'.0 → States rel l.1 l'.1 → Meets rel o o' → Reads (Alike rel) (r.binary_tail one f k c l o) (r.binary_tail other g k c l' o')
      tail_alike k c l l' e h none_met = both e (closed_alike rel k h)
      tail_alike k c l l' e h (met o {t = t} {t' = t'} u j) =
          let fs = noted_if_alike rel (feature_of o c) (feature_of o c) refl (agree.position t t' u) in
          bind rel _ _ (level_alike (right k) false (with_alike rel fs j)) (λ x x' d i. both (a.binary_alike rel o e (agree.position t t' u) d) (closed_alike rel k i))

      binary_alike : (k : Level) (c : Bool) {s : State R T B} {s' : State R' T' B'} → States rel s s' → Reads (Alike rel) (binary_rule one f k c s) (binary_rule other g k c s')
      unfolding binary_rule refused
      binary_alike k c {s} {s'} h =
          entered rel h (bind rel _ _ (level_alike (operand k) c (opened_alike rel k h)) (λ l l' e j. tail_alike k c l l' e j (accepted_operator rel one other agree k j)))
          (one.conditions s.run) (other.conditions s'.run) k (agree.conditions s.run s'.run h.run)

      conjunct_alike : (c : Bool) {s : State R T B} {s' : State R' T' B'} → States rel s s' → Reads (Alike rel) (conjunct_rule one f c s) (conjunct_rule other g c s')
      unfolding conjunct_rule
      conjunct_alike c h =
          pick rel _ _ (accepted_word rel one other agree (codes "if") h)
          (pick rel _ _ (accepted rel one other agree kinds.Slash h) (binary_alike levels.Conjunct c h)
          (λ op op' t k. bind rel _ _ (level_alike levels.Conjunct false k) (λ x x' e j. both (a.root (agree.position op.0 op'.0 t) e) j)))
          (λ w w' t k. conditional_at t k)

      condition_alike : {s : State R T B} {s' : State R' T' B'} → States rel s s' → Reads (Alike rel) (condition_rule one f s) (condition_rule other g s')
      unfolding condition_rule
      condition_alike h = bind rel _ _ (level_alike levels.Expression true h) (λ x x' e j. both e (uncompared_alike e h.left j))

      braced_alike : {s : State R T B} {s' : State R' T' B'} → States rel s s' → Reads (Alike rel) (braced_rule one f s) (braced_rule other g s')
      unfolding braced_rule
      braced_alike h =
          bind rel _ _ (expected rel one other agree kinds.BraceL h) (λ o o' t k.
          bind rel _ _ (level_alike levels.Expression false k) (λ x x' e j. bind rel _ _ (expected rel one other agree kinds.BraceR j) (λ c c' t2 i. both e i)))

      otherwise_alike : {s : State R T B} {s' : State R' T' B'} → States rel s s' → Reads (Alike rel) (otherwise_rule one f s) (otherwise_rule other g s')
      unfolding otherwise_rule
      otherwise_alike h =
          pick rel _ _ (accepted_word rel one other agree (codes "if") h)
          (bind rel _ _ (braced_alike h) (λ o o' e k. ended_alike (ends_open o.0) (ends_open o'.0) (same_ends rel e) e k))
          (λ i i' t k. conditional_at t k)

      conditional_alike : {w : T} {w' : T'} {s : State R T B} {s' : State R' T' B'} → rel.token w w' → States rel s s' → Reads (Alike rel) (conditional_rule one f w s) (conditional_rule other g w' s')
      unfolding conditional_rule
      conditional_alike {w} {w'} t h =
          bind rel _ _ (condition_alike h) (λ c c' ce k. bind rel _ _ (braced_alike k) (λ b b' be j.
          pick rel _ _ (accepted_word rel one other agree (codes "else") j)
          (both (a.if_only ce be) (with_alike rel (one_noted rel features.IfWithoutElse (agree.position w w' t)) j))
          (λ x x' t2 i. bind rel _ _ (otherwise_alike i) (λ o o' oe m. both (a.if_else ce be oe) m))))

      element_alike : (k : TokenKind) {s : State R T B} {s' : State R' T' B'} → States rel s s' → Reads (Ended (Alike rel)) (element_rule one f k s) (element_rule other g k s')
      unfolding element_rule
      element_alike k h =
          bind rel _ _ (level_alike levels.Expression false h) (λ x x' e j.
          pick rel {X = Expr A B × Bool} {Y = Expr A' B' × Bool} _ _ (accepted rel one other agree kinds.Comma j)
          (bind rel _ _ (expected rel one other agree k j) (λ c c' t i. both (record { first = e; last = refl }) i))
          (λ c c' t i. both (record { first = e; last = refl }) i))

      elements_alike : (k : TokenKind) {e : Expr A B} {e' : Expr A' B'} (b b' : Bool) {s : State R T B} {s' : State R' T' B'} → b ≡ b' → Alike rel e e' → States rel s s' → Reads (AlikeAll rel) (r.elements one f k e b s) (r.elements other g k e' b' s')
      elements_alike k true true same e h = both (a.more e a.none) h
      elements_alike k false false same e h = bind rel _ _ (sequence_at k h) (λ es es' d j. both (a.more e d) j)
      elements_alike k _ _ same e h = cc

      sequence_alike : (k : TokenKind) {s : State R T B} {s' : State R' T' B'} → States rel s s' → Reads (AlikeAll rel) (sequence_rule one f k s) (sequence_rule other g k s')
      unfolding sequence_rule
      sequence_alike k h =
          pick rel _ _ (accepted rel one other agree k h)
          (bind rel _ _ (element_alike k h) (λ x x' e j. elements_alike k x.0.1 x'.0.1 e.last e.first j))
          (λ c c' t j. both a.none j)

      after_part : (start : List ℕ) (x : A × Bool) (y : A' × Bool) {s : State R T B} {s' : State R' T' B'} → Part start x y → States rel s s' → Reads (AlikeParts rel start) (r.parts one f start x.0 x.1 s) (r.parts other g start y.0 y.1 s')
      after_part start x y {s} {s'} p h = go x.1 y.1 p.last (p.first.1).0 (p.first.1).1
        where
          go : (b b' : Bool) → b ≡ b' → (b ≡ true → rel.literal (literals.End start p.first.0) x.0 y.0) → (b ≡ false → rel.literal (literals.Continue start p.first.0) x.0 y.0)
              → Reads (AlikeParts rel start) (r.parts one f start x.0 b s) (r.parts other g start y.0 b' s')
          go true true same l k = both (a.last p.first.0 (l refl)) h
          go false false same l k = bind rel _ _ (level_alike levels.Expression false h) (λ v v' e j. bind rel _ _ (parts_at start j) (λ ps ps' d i. both (a.continue p.first.0 (k refl) e d) i))
          go _ _ same l k = cc

      parts_alike : (start : List ℕ) {s : State R T B} {s' : State R' T' B'} → States rel s s' → Reads (AlikeParts rel start) (parts_rule one f start s) (parts_rule other g start s')
      unfolding parts_rule
      parts_alike start h = bind rel _ _ (part_alike start h) (λ x x' p j. after_part start x.0 x'.0 p j)

      rest_alike : (lexeme : List ℕ) {l : A} {l' : A'} {s : State R T B} {s' : State R' T' B'} → rel.literal (literals.Start lexeme) l l' → States rel s s' → Reads (Alike rel) (format_rest_rule one f l lexeme s) (format_rest_rule other g l' lexeme s')
      unfolding format_rest_rule
      rest_alike lexeme l h = bind rel _ _ (level_alike levels.Expression false h) (λ x x' e j. bind rel _ _ (parts_at lexeme j) (λ ps ps' d i. both (a.format_string lexeme l e d) i))

      format_string_alike : (x : T × State R T B) (x' : T' × State R' T' B') → rel.token x.0 x'.0 → States rel x.1 x'.1 → Reads (Alike rel) (format_string_rule one f x) (format_string_rule other g x')
      unfolding format_string_rule
      format_string_alike x x' t h =
          let lexeme = (one.see x.0).tok.lexeme in
          bind rel {Q = rel.literal (literals.Start lexeme)} _ _ (cooked_alike rel one other agree (rel.literal (literals.Start lexeme)) (λ l. l) (λ l. l) literals.Start (λ lexeme. refl) x x' t h (λ l l' k. k)) (λ y y' l k.
          subst (λ u. Reads (Alike rel) (format_rest_rule one f y.0 lexeme y.1) (format_rest_rule other g y'.0 u y'.1)) (ap (λ z. z.tok.lexeme) (agree.see x.0 x'.0 t)) (rest_alike lexeme l k))

      list_alike : {s : State R T B} {s' : State R' T' B'} → States rel s s' → Reads (Alike rel) (list_rule one f s) (list_rule other g s')
      unfolding list_rule
      list_alike h =
          pick rel _ _ (accepted rel one other agree kinds.BracketL h) (refused_alike rel one other agree h) (λ o o' t k.
          bind rel _ _ (sequence_at kinds.BracketR (with_alike rel (one_noted rel features.ListLiteral (agree.position o.0 o'.0 t)) k)) (λ x x' e j. both (a.list (agree.position o.0 o'.0 t) e) j))

      group_alike : {s : State R T B} {s' : State R' T' B'} → States rel s s' → Reads (Alike rel) (group_rule one f s) (group_rule other g s')
      unfolding group_rule
      group_alike h =
          pick rel _ _ (accepted rel one other agree kinds.ParenL h) (list_alike h) (λ o o' t k.
          bind rel _ _ (level_alike levels.Expression false k) (λ x x' e j. bind rel _ _ (expected rel one other agree kinds.ParenR j) (λ c c' t2 i. both (a.group e) i)))

      name_alike : {s : State R T B} {s' : State R' T' B'} → States rel s s' → Reads (Alike rel) (name_rule one f s) (name_rule other g s')
      unfolding name_rule
      name_alike h =
          pick rel _ _ (accepted rel one other agree kinds.Identifier h) (group_alike h) (λ n n' t k.
          pick rel _ _ (accepted rel one other agree kinds.ParenL k) (both (a.variable (agree.name n.0 n'.0 t)) k) (λ o o' t2 j.
          bind rel _ _ (sequence_at kinds.ParenR j) (λ x x' e i.
          both (a.call (agree.name n.0 n'.0 t) e) (with_alike rel (noted_if_alike rel (function_feature (one.see n.0).tok.lexeme) (function_feature (other.see n'.0).tok.lexeme) (ap (λ z. function_feature z.tok.lexeme) (agree.see n.0 n'.0 t)) (agree.position n.0 n'.0 t)) i))))

      assert_alike : {s : State R T B} {s' : State R' T' B'} → States rel s s' → Reads (Alike rel) (assert_rule one f s) (assert_rule other g s')
      unfolding assert_rule
      assert_alike h =
          pick rel _ _ (accepted_word rel one other agree (codes "assert") h) (name_alike h) (λ w w' t k.
          bind rel _ _ (expected rel one other agree kinds.ParenL k) (λ o o' t2 j. bind rel _ _ (condition_alike j) (λ c c' ce i.
          pick rel _ _ (accepted rel one other agree kinds.Comma i)
          (bind rel _ _ (expected rel one other agree kinds.ParenR i) (λ p p' t3 m. both (a.assert (agree.position w.0 w'.0 t) ce) m))
          (λ x x' t3 m. bind rel _ _ (level_alike levels.Expression false m) (λ v v' ve q. bind rel _ _ (expected rel one other agree kinds.ParenR q) (λ p p' t4 u. both (a.assert_message (agree.position w.0 w'.0 t) ce ve) u))))))

      format_alike : {s : State R T B} {s' : State R' T' B'} → States rel s s' → Reads (Alike rel) (format_rule one f s) (format_rule other g s')
      unfolding format_rule
      format_alike h = pick rel _ _ (accepted_marked rel one other agree (codes "f") kinds.FormatStringStart h) (assert_alike h) (λ x x' t k. format_string_alike x x' t k)

      or_alike : {o : Option (Expr A B)} {o' : Option (Expr A' B')} {s : State R T B} {s' : State R' T' B'} → Finds o o' → States rel s s' → Reads (Alike rel) (r.literal_or one f o s) (r.literal_or other g o' s')
      or_alike none h = format_alike h
      or_alike (some e) h = both e h

      value_alike : {s : State R T B} {s' : State R' T' B'} → States rel s s' → Reads (Alike rel) (value_rule one f s) (value_rule other g s')
      unfolding value_rule
      value_alike h =
          pick rel _ _ (accepted rel one other agree kinds.Bang h)
          (bind rel _ _ (literal_alike h) (λ x x' o j. or_alike o j))
          (λ b b' t k. bind rel _ _ (level_alike levels.Value false (with_alike rel (one_noted rel features.NegationOperator (agree.position b.0 b'.0 t)) k)) (λ x x' e j. both (a.not e) j))

      at_alike_rule : (k : Level) (c : Bool) {s : State R T B} {s' : State R' T' B'} → States rel s s' → Reads (Alike rel) (r.at_rule one f k c s) (r.at_rule other g k c s')
      at_alike_rule levels.Expression c h = binary_alike levels.Expression c h
      at_alike_rule levels.Disjunct c h = binary_alike levels.Disjunct c h
      at_alike_rule levels.Compared c h = binary_alike levels.Compared c h
      at_alike_rule levels.Conjunct c h = conjunct_alike c h
      at_alike_rule levels.Value c h = value_alike h

      rule_agrees : (x : Place R T B) (y : Place R' T' B') → Places x y → Agrees x y (rule one f x) (rule other g y)
      rule_agrees x y (at {level = k} {c = c} h) = at_alike_rule k c h
      rule_agrees x y (conditional t h) = conditional_alike t h
      rule_agrees x y (sequence {k = k} h) = sequence_alike k h
      rule_agrees x y (format_parts {start = start} h) = parts_alike start h

    stop_agrees : (x : Place R T B) (y : Place R' T' B') → Places x y → Agrees x y (stop_expression one x) (stop_expression other y)
    stop_agrees x y (at h) = neither (unexpected no_next)
    stop_agrees x y _ = neither (unexpected no_next)

    same_size : (x : Place R T B) (y : Place R' T' B') → Places x y → size x ≡ size y
    same_size x y (at {level = k} h) = ap (λ n. 8 * n + rank k) (each_length h.left)
    same_size x y (conditional t h) = ap (λ n. 8 * n + 5) (each_length h.left)
    same_size x y (sequence h) = ap (λ n. 8 * n + 5) (each_length h.left)
    same_size x y (format_parts h) = ap (λ n. 8 * n) (each_length h.left)

    -- the law
    pub natural : (x : Place R T B) (y : Place R' T' B') → Places x y → Agrees x y (read one x) (read other y)
    unfolding read
    natural = both_recur size (stop_expression one) (rule one) size (stop_expression other) (rule other) Places same_size Agrees stop_agrees rule_agrees

    pub expression_natural : (c : Bool) {s : State R T B} {s' : State R' T' B'} → States rel s s' → Reads (Alike rel) (read one (r.At levels.Expression c s)) (read other (r.At levels.Expression c s'))
    expression_natural c {s} {s'} h = natural (r.At levels.Expression c s) (r.At levels.Expression c s') (at h)

    pub value_natural : {s : State R T B} {s' : State R' T' B'} → States rel s s' → Reads (Alike rel) (r.value one s) (r.value other s')
    value_natural h = value_alike (read one) (read other) natural h
