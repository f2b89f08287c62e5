-- A derivation of an expression, moved to tokens that differ only in their positions, to other projections, and to another limit. The
-- features are the same, at the other tokens.
use Rattle.std.proofs.Common.{◌≡◌, ℕ, Bool, true, false, cond, List, [], ◌∷◌, ◌++◌, map, Option, Some, None, codes, refl, sym, subst, ap, ◌∙◌}
use Rattle.std.proofs.lemmas.List.{map-append}
use Rattle.justfile_vocabulary.specs.declared.token_kind.TokenKind.{TokenKind}
use Rattle.justfile_vocabulary.specs.declared.list_feature.ListFeature.{ListFeature}
use Rattle.justfile_vocabulary.specs.declared.list_feature.ListFeature.TheVariants as features
use Rattle.justfile_model.specs.Lexing.Tok.{Tok}
use Rattle.justfile_model.specs.Lexing.SignificantTokens.{SignificantToken}
use Rattle.justfile_model.specs.Trees.Tree as tree
use Rattle.justfile_model.specs.Trees.Tree.{Expr, Exprs, Parts, over_expr, over_exprs, over_parts}
use Rattle.justfile_model.specs.Grammars.Features.{Noted, over_noted, noted, compared, uncompared, noted_if, called, function_feature}
use Rattle.justfile_model.specs.Grammars.Expressions as g
use Rattle.justfile_model.specs.Grammars.Expressions.{Tokens, front, IsKind, NotNext, IsWord, NotWord, IsMarked, NotMarked, Unmarked, NotCompared, NotJoined, ends_open, Expression, Disjunct, Compared, Conjunct, Condition, Braced, Conditional, Value, Sequence, FormatParts}

-- two tokens that differ in their places alone
pub record Same (t u : SignificantToken) : Type 0 where
  pub kind : t.tok.kind ≡ u.tok.kind
  pub lexeme : t.tok.lexeme ≡ u.tok.lexeme
  pub glued : t.glued ≡ u.glued

-- as many tokens, each related to the other
pub data Pairs (Rel : SignificantToken → SignificantToken → Type 0) : Tokens → Tokens → Type 0 where
  nil : Pairs Rel [] []
  cons : {t u : SignificantToken} {ts us : Tokens} → Rel t u → Pairs Rel ts us → Pairs Rel (t ∷ ts) (u ∷ us)

-- related tokens before related ones; whitespace is left out
pub pairs_before : {R : SignificantToken → SignificantToken → Type 0} {xs ys ts us : Tokens} (t u : SignificantToken) (white : Bool) → R t u → Pairs R xs ys
    → Pairs R ts us → Pairs R (cond white xs (t ∷ ts)) (cond white ys (u ∷ us))
pairs_before t u true r p q = p
pairs_before t u false r p q = cons r q

-- the partner of a first token
pub record First (Rel : SignificantToken → SignificantToken → Type 0) (t : SignificantToken) (ts us : Tokens) : Type 0 where
  pub partner : SignificantToken
  pub more : Tokens
  pub is : us ≡ partner ∷ more
  pub related : Rel t partner
  pub others : Pairs Rel ts more

pub first : {Rel : SignificantToken → SignificantToken → Type 0} {t : SignificantToken} {ts us : Tokens} → Pairs Rel (t ∷ ts) us → First Rel t ts us
first (cons s ss) = record { partner = _; more = _; is = refl; related = s; others = ss }

-- ---- conditions on single tokens

pub turned : {t u : SignificantToken} → Same t u → Same u t
turned s = record { kind = sym s.kind; lexeme = sym s.lexeme; glued = sym s.glued }

pub same_kind_of : {kind : TokenKind} {t u : SignificantToken} → Same t u → IsKind kind t → IsKind kind u
same_kind_of s e = sym s.kind ∙ e

pub same_word_of : {word : List ℕ} {t u : SignificantToken} → Same t u → IsWord word t → IsWord word u
same_word_of s w = record { is_name = sym s.kind ∙ w.is_name; spelled = sym s.lexeme ∙ w.spelled }

-- the word was one before
word_before : {word : List ℕ} {t u : SignificantToken} → Same t u → IsWord word u → IsWord word t
word_before s w = same_word_of (turned s) w

pub same_marked_of : {word : List ℕ} {kind : TokenKind} {m n t u : SignificantToken} → Same m n → Same t u → IsMarked word kind m t → IsMarked word kind n u
same_marked_of m s h = record { marks = same_word_of m h.marks; is_string = sym s.kind ∙ h.is_string; glued = sym s.glued ∙ h.glued }

-- ---- features over other tokens

module _ {B D : Type 0} (h : B → D) where
  compared_over : (condition : Bool) (x : B) → map (over_noted h) (compared condition x) ≡ compared condition (h x)
  compared_over true x = refl
  compared_over false x = refl

  noted_over : (feature : Option ListFeature) (x : B) → map (over_noted h) (noted_if feature x) ≡ noted_if feature (h x)
  noted_over None x = refl
  noted_over (Some feature) x = refl

  uncompared_over : {A C : Type 0} (f : A → C) (e : Expr A B) (x : B) → map (over_noted h) (uncompared e x) ≡ uncompared (over_expr f h e) (h x)
  uncompared_over f (tree.Comparison l operator token r) x = refl
  uncompared_over f _ x = refl

pub open_over : {A B C D : Type 0} (f : A → C) (h : B → D) (e : Expr A B) → ends_open (over_expr f h e) ≡ ends_open e
open_over f h (tree.If c b) = refl
open_over f h (tree.IfElse c b o) = open_over f h o
open_over f h _ = refl

-- features that are alike, one row after the other
pub both_alike : {X X' Y : Type 0} (m : X → Y) (m' : X' → Y) (xs ys : List X) (xs' ys' : List X') → map m' xs' ≡ map m xs → map m' ys' ≡ map m ys
    → map m' (xs' ++ ys') ≡ map m (xs ++ ys)
both_alike m m' xs ys xs' ys' e k = map-append m' xs' ys' ∙ (λ i. e i ++ k i) ∙ sym (map-append m xs ys)

-- a list that is mapped as one that is not empty
pub record Filled {X : Type 0} (xs : List X) : Type 0 where
  pub one : X
  pub more : List X
  pub is : xs ≡ one ∷ more

pub filled : {X X' Y : Type 0} (m : X → Y) (m' : X' → Y) (xs : List X') (x : X) (more : List X) → map m' xs ≡ map m (x ∷ more) → Filled xs
filled m m' [] x more h = cc
filled m m' (y ∷ ys) x more h = record { one = y; more = ys; is = refl }

-- ---- derivations

-- a tree with its derivation up to some rest, which is the other one over some leaves, and so are its features
pub record Carried {X X' Y B B' D : Type 0} (Rel : SignificantToken → SignificantToken → Type 0) (m : X → Y) (m' : X' → Y) (h : B → D) (h' : B' → D)
    (R : X' → List (Noted B') → Tokens → Type 0) (e : X) (fs : List (Noted B)) (rest : Tokens) : Type 0 where
  pub tree : X'
  pub features : List (Noted B')
  pub after : Tokens
  pub derives : R tree features after
  pub alike : m' tree ≡ m e
  pub noted_alike : map (over_noted h') features ≡ map (over_noted h) fs
  pub same : Pairs Rel rest after

-- what is made of tokens alone, which have no features
pub of_tokens : {X X' Y B B' D : Type 0} {Rel : SignificantToken → SignificantToken → Type 0} {m : X → Y} {m' : X' → Y} {h : B → D} {h' : B' → D}
    {R : X' → List (Noted B') → Tokens → Type 0} {e : X} {rest after : Tokens} (tree : X') → R tree [] after → m' tree ≡ m e → Pairs Rel rest after
    → Carried Rel m m' h h' R e [] rest
of_tokens tree derives alike same =
    record { tree = tree; features = []; after = _; derives = derives; alike = alike; noted_alike = refl; same = same }

-- what is made up to the end of a part, with these features
of_noted : {X X' Y Z Z' W B B' D : Type 0} {Rel : SignificantToken → SignificantToken → Type 0} {m : X → Y} {m' : X' → Y} {n : Z → W} {n' : Z' → W}
    {h : B → D} {h' : B' → D} {R : X' → List (Noted B') → Tokens → Type 0} {Q : Z' → List (Noted B') → Tokens → Type 0} {e : X} {z : Z} {fs gs : List (Noted B)}
    {rest : Tokens} (x : Carried Rel m m' h h' R e fs rest) (tree : Z') (features : List (Noted B')) → Q tree features x.after → n' tree ≡ n z
    → map (over_noted h') features ≡ map (over_noted h) gs → Carried Rel n n' h h' Q z gs rest
of_noted x tree features derives alike noted_alike =
    record { tree = tree; features = features; after = x.after; derives = derives; alike = alike; noted_alike = noted_alike; same = x.same }

module _ {X X' Y Z Z' W B B' D : Type 0} {Rel : SignificantToken → SignificantToken → Type 0} {m : X → Y} {m' : X' → Y} {n : Z → W} {n' : Z' → W}
    {h : B → D} {h' : B' → D} {R : X' → List (Noted B') → Tokens → Type 0} {Q : Z' → List (Noted B') → Tokens → Type 0} {e : X} {z : Z} {fs : List (Noted B)}
    {between : Tokens} (x : Carried Rel m m' h h' R e fs between) where
  -- what is made of one part, with its features
  pub of_one : (tree : Z') → Q tree x.features x.after → n' tree ≡ n z → Carried Rel n n' h h' Q z fs between
  of_one tree derives alike = of_noted x tree x.features derives alike x.noted_alike

  -- what is made of two parts, with the features of both
  pub of_two : {V V' U : Type 0} {l : V → U} {l' : V' → U} {R' : V' → List (Noted B') → Tokens → Type 0} {e' : V} {gs : List (Noted B)} {rest : Tokens}
      (y : Carried Rel l l' h h' R' e' gs rest) (tree : Z') → Q tree (x.features ++ y.features) y.after → n' tree ≡ n z → Carried Rel n n' h h' Q z (fs ++ gs) rest
  of_two {gs = gs} y tree derives alike =
      of_noted y tree (x.features ++ y.features) derives alike (both_alike (over_noted h) (over_noted h') fs gs x.features y.features x.noted_alike y.noted_alike)

-- the same tree, of another derivation
pub rederived : {X X' Y B B' D : Type 0} {Rel : SignificantToken → SignificantToken → Type 0} {m : X → Y} {m' : X' → Y} {h : B → D} {h' : B' → D}
    {R R' : X' → List (Noted B') → Tokens → Type 0} {e : X} {fs : List (Noted B)} {rest : Tokens} (x : Carried Rel m m' h h' R e fs rest)
    → R' x.tree x.features x.after → Carried Rel m m' h h' R' e fs rest
rederived x derives = of_one x x.tree derives x.alike

-- what is derived before a token is derived before a like token
pub record Until {X X' Y B B' D : Type 0} (Rel : SignificantToken → SignificantToken → Type 0) (m : X → Y) (m' : X' → Y) (h : B → D) (h' : B' → D)
    (R : X' → List (Noted B') → Tokens → Type 0) (e : X) (fs : List (Noted B)) (t : SignificantToken) (rest : Tokens) : Type 0 where
  pub tree : X'
  pub features : List (Noted B')
  pub partner : SignificantToken
  pub after : Tokens
  pub derives : R tree features (partner ∷ after)
  pub alike : m' tree ≡ m e
  pub noted_alike : map (over_noted h') features ≡ map (over_noted h) fs
  pub related : Rel t partner
  pub same : Pairs Rel rest after

pub until : {X X' Y B B' D : Type 0} {Rel : SignificantToken → SignificantToken → Type 0} {m : X → Y} {m' : X' → Y} {h : B → D} {h' : B' → D}
    {R : X' → List (Noted B') → Tokens → Type 0} {e : X} {fs : List (Noted B)} {t : SignificantToken} {rest : Tokens}
    → Carried Rel m m' h h' R e fs (t ∷ rest) → Until Rel m m' h h' R e fs t rest
until {R = R} x =
    let p = first x.same in
    record {
      tree = x.tree;
      features = x.features;
      partner = p.partner;
      after = p.more;
      derives = subst (R x.tree x.features) p.is x.derives;
      alike = x.alike;
      noted_alike = x.noted_alike;
      related = p.related;
      same = p.others;
    }

-- the same, up to the like token
abbrev pub past : {X X' Y B B' D : Type 0} {Rel : SignificantToken → SignificantToken → Type 0} {m : X → Y} {m' : X' → Y} {h : B → D} {h' : B' → D}
    {R : X' → List (Noted B') → Tokens → Type 0} {e : X} {fs : List (Noted B)} {t : SignificantToken} {rest : Tokens}
    (x : Until Rel m m' h h' R e fs t rest) → Carried Rel m m' h h' (λ y n r. R y n (x.partner ∷ r)) e fs rest
past x =
    record { tree = x.tree; features = x.features; after = x.after; derives = x.derives; alike = x.alike; noted_alike = x.noted_alike; same = x.same }

module _ {A B A' B' C D : Type 0} (leaf : Tok → A) (position : Tok → B) (MayEnter : ℕ → Option SignificantToken → Type 0)
    (Rel : SignificantToken → SignificantToken → Type 0) (weak : (t u : SignificantToken) → Rel t u → Same t u)
    (leaf' : Tok → A') (position' : Tok → B') (MayEnter' : ℕ → Option SignificantToken → Type 0)
    (f : A → C) (h : B → D) (f' : A' → C) (h' : B' → D)
    (leaves : (t u : SignificantToken) → Rel t u → f' (leaf' u.tok) ≡ f (leaf t.tok)) (positions : (t u : SignificantToken) → Rel t u → h' (position' u.tok) ≡ h (position t.tok))
    (opens : (d : ℕ) (ts us : Tokens) → Pairs Rel ts us → MayEnter d (front ts) → MayEnter' d (front us)) where
  kind_of : {kind : TokenKind} {t u : SignificantToken} → Rel t u → IsKind kind t → IsKind kind u
  kind_of s = same_kind_of (weak _ _ s)

  word_of : {word : List ℕ} {t u : SignificantToken} → Rel t u → IsWord word t → IsWord word u
  word_of s = same_word_of (weak _ _ s)

  no_word : {word : List ℕ} {t u : SignificantToken} → Rel t u → (IsWord word t → ⊥) → IsWord word u → ⊥
  no_word s n w = n (word_before (weak _ _ s) w)

  marked_of : {word : List ℕ} {kind : TokenKind} {m n t u : SignificantToken} → Rel m n → Rel t u → IsMarked word kind m t → IsMarked word kind n u
  marked_of m s = same_marked_of (weak _ _ m) (weak _ _ s)

  next_of : (kind : TokenKind) {ts us : Tokens} → Pairs Rel ts us → NotNext kind ts → NotNext kind us
  next_of kind nil n = tt
  next_of kind (cons s ss) n = λ e. n (same_kind_of (turned (weak _ _ s)) e)

  no_word_of : (word : List ℕ) {ts us : Tokens} → Pairs Rel ts us → NotWord word ts → NotWord word us
  no_word_of word nil n = tt
  no_word_of word (cons s ss) n = no_word s n

  not_marked_of : (word : List ℕ) (kind : TokenKind) {name name' : SignificantToken} {ts us : Tokens} → Rel name name' → Pairs Rel ts us → NotMarked word kind name ts → NotMarked word kind name' us
  not_marked_of word kind m nil n = tt
  not_marked_of word kind m (cons s ss) n = λ x. n (same_marked_of (turned (weak _ _ m)) (turned (weak _ _ s)) x)

  unmarked_of : {name name' : SignificantToken} {ts us : Tokens} → Rel name name' → Pairs Rel ts us → Unmarked name ts → Unmarked name' us
  unmarked_of m s n = record { expanded = not_marked_of _ _ m s n.expanded; literal = not_marked_of _ _ m s n.literal; format = not_marked_of _ _ m s n.format }

  not_compared_of : {ts us : Tokens} → Pairs Rel ts us → NotCompared ts → NotCompared us
  not_compared_of s n = record { equality = next_of _ s n.equality; inequality = next_of _ s n.inequality; regex_match = next_of _ s n.regex_match; regex_mismatch = next_of _ s n.regex_mismatch }

  not_joined_of : {ts us : Tokens} → Pairs Rel ts us → NotJoined ts → NotJoined us
  not_joined_of s n = record { join = next_of _ s n.join; list_concatenation = next_of _ s n.list_concatenation; concatenation = next_of _ s n.concatenation }

  closed_of : (o : Expr A B) (o' : Expr A' B') {rest after : Tokens} → over_expr f' h' o' ≡ over_expr f h o → Pairs Rel rest after
      → (ends_open o ≡ true → NotWord (codes "else") rest) → ends_open o' ≡ true → NotWord (codes "else") after
  closed_of o o' e s n i = no_word_of _ s (n (sym (open_over f h o) ∙ sym (ap ends_open e) ∙ open_over f' h' o' ∙ i))

  -- the features of two rows
  both : (fs gs : List (Noted B)) (fs' gs' : List (Noted B')) → map (over_noted h') fs' ≡ map (over_noted h) fs → map (over_noted h') gs' ≡ map (over_noted h) gs
      → map (over_noted h') (fs' ++ gs') ≡ map (over_noted h) (fs ++ gs)
  both = both_alike (over_noted h) (over_noted h')

  -- a feature, and those after it
  noted_then : (feature : ListFeature) (t u : SignificantToken) → Rel t u → (fs : List (Noted B)) (fs' : List (Noted B')) → map (over_noted h') fs' ≡ map (over_noted h) fs
      → map (over_noted h') (noted feature (position' u.tok) ++ fs') ≡ map (over_noted h) (noted feature (position t.tok) ++ fs)
  noted_then feature t u s fs fs' e = λ i. (feature, positions t u s i) ∷ e i

  -- three rows
  three : (fs gs ks : List (Noted B)) (fs' gs' ks' : List (Noted B')) → map (over_noted h') fs' ≡ map (over_noted h) fs → map (over_noted h') gs' ≡ map (over_noted h) gs
      → map (over_noted h') ks' ≡ map (over_noted h) ks
      → map (over_noted h') (fs' ++ gs' ++ ks') ≡ map (over_noted h) (fs ++ gs ++ ks)
  three fs gs ks fs' gs' ks' e k m = both (fs ++ gs) ks (fs' ++ gs') ks' (both fs gs fs' gs' e k) m

  -- a feature between two rows
  noted_between : (feature : ListFeature) (t u : SignificantToken) → Rel t u → (fs gs : List (Noted B)) (fs' gs' : List (Noted B')) → map (over_noted h') fs' ≡ map (over_noted h) fs
      → map (over_noted h') gs' ≡ map (over_noted h) gs
      → map (over_noted h') (fs' ++ noted feature (position' u.tok) ++ gs') ≡ map (over_noted h) (fs ++ noted feature (position t.tok) ++ gs)
  noted_between feature t u s fs gs fs' gs' e k =
      three fs (noted feature (position t.tok)) gs fs' (noted feature (position' u.tok)) gs' e (noted_then feature t u s [] [] refl) k

  compared_alike : (condition : Bool) (t u : SignificantToken) → Rel t u → map (over_noted h') (compared condition (position' u.tok)) ≡ map (over_noted h) (compared condition (position t.tok))
  compared_alike condition t u s = compared_over h' condition (position' u.tok) ∙ ap (compared condition) (positions t u s) ∙ sym (compared_over h condition (position t.tok))

  uncompared_alike : (e : Expr A B) (e' : Expr A' B') → over_expr f' h' e' ≡ over_expr f h e → (t u : SignificantToken) → Rel t u
      → map (over_noted h') (uncompared e' (position' u.tok)) ≡ map (over_noted h) (uncompared e (position t.tok))
  uncompared_alike e e' k t u s = uncompared_over h' f' e' (position' u.tok) ∙ (λ i. uncompared (k i) (positions t u s i)) ∙ sym (uncompared_over h f e (position t.tok))

  called_alike : (t u : SignificantToken) → Rel t u → map (over_noted h') (called u.tok.lexeme (position' u.tok)) ≡ map (over_noted h) (called t.tok.lexeme (position t.tok))
  called_alike t u s =
      let w = weak t u s in
      noted_over h' (function_feature u.tok.lexeme) (position' u.tok) ∙ (λ i. noted_if (function_feature (sym w.lexeme i)) (positions t u s i)) ∙ sym (noted_over h (function_feature t.tok.lexeme) (position t.tok))

  abbrev ExprOf : (Expr A' B' → List (Noted B') → Tokens → Type 0) → Expr A B → List (Noted B) → Tokens → Type 0
  ExprOf R e fs rest = Carried Rel (over_expr f h) (over_expr f' h') h h' R e fs rest

  abbrev ExprsOf : (Exprs A' B' → List (Noted B') → Tokens → Type 0) → Exprs A B → List (Noted B) → Tokens → Type 0
  ExprsOf R e fs rest = Carried Rel (over_exprs f h) (over_exprs f' h') h h' R e fs rest

  abbrev PartsOf : (Parts A' B' → List (Noted B') → Tokens → Type 0) → Parts A B → List (Noted B) → Tokens → Type 0
  PartsOf R e fs rest = Carried Rel (over_parts f h) (over_parts f' h') h h' R e fs rest

  mutual
    pub expression : {c : Bool} {d : ℕ} {e : Expr A B} {fs : List (Noted B)} {ts rest : Tokens} → Expression leaf position MayEnter c d e fs ts rest → (us : Tokens) → Pairs Rel ts us → ExprOf (λ x n r. Expression leaf' position' MayEnter' c d x n us r) e fs rest
    expression {d = d} {ts = ts} (g.or {ls = ls} {rs = rs} {operator = t} o left kind right) us s =
        let l = until (disjunct left us s) in
        let r = expression right l.after l.same in
        of_noted r (tree.Or l.tree r.tree) (l.features ++ noted features.LogicalOperator (position' l.partner.tok) ++ r.features)
        (g.or (opens d ts us s o) l.derives (kind_of l.related kind) r.derives) (λ i. tree.Or (l.alike i) (r.alike i))
        (noted_between features.LogicalOperator t l.partner l.related ls rs l.features r.features l.noted_alike r.noted_alike)
    expression {d = d} {ts = ts} (g.disjunct o left n) us s =
        let l = disjunct left us s in
        rederived l (g.disjunct (opens d ts us s o) l.derives (next_of _ l.same n))

    pub disjunct : {c : Bool} {d : ℕ} {e : Expr A B} {fs : List (Noted B)} {ts rest : Tokens} → Disjunct leaf position MayEnter c d e fs ts rest → (us : Tokens) → Pairs Rel ts us → ExprOf (λ x n r. Disjunct leaf' position' MayEnter' c d x n us r) e fs rest
    disjunct (g.and {ls = ls} {rs = rs} {operator = t} left kind right) us s =
        let l = until (comparison left us s) in
        let r = disjunct right l.after l.same in
        of_noted r (tree.And l.tree r.tree) (l.features ++ noted features.LogicalOperator (position' l.partner.tok) ++ r.features)
        (g.and l.derives (kind_of l.related kind) r.derives) (λ i. tree.And (l.alike i) (r.alike i))
        (noted_between features.LogicalOperator t l.partner l.related ls rs l.features r.features l.noted_alike r.noted_alike)
    disjunct (g.comparison left n) us s =
        let l = comparison left us s in
        rederived l (g.comparison l.derives (next_of _ l.same n))

    pub comparison : {c : Bool} {d : ℕ} {e : Expr A B} {fs : List (Noted B)} {ts rest : Tokens} → Compared leaf position MayEnter c d e fs ts rest → (us : Tokens) → Pairs Rel ts us → ExprOf (λ x n r. Compared leaf' position' MayEnter' c d x n us r) e fs rest
    comparison {c = c} (g.compare {ls = ls} {rs = rs} {operator = t} by left kind right) us s =
        let l = until (conjunct left us s) in
        let r = conjunct right l.after l.same in
        of_noted r (tree.Comparison l.tree by (position' l.partner.tok) r.tree) (l.features ++ compared c (position' l.partner.tok) ++ r.features)
        (g.compare by l.derives (kind_of l.related kind) r.derives)
        (λ i. tree.Comparison (l.alike i) by (positions t l.partner l.related i) (r.alike i))
        (three ls (compared c (position t.tok)) rs l.features (compared c (position' l.partner.tok)) r.features l.noted_alike (compared_alike c t l.partner l.related) r.noted_alike)
    comparison (g.conjunct left n) us s =
        let l = conjunct left us s in
        rederived l (g.conjunct l.derives (not_compared_of l.same n))

    pub conjunct : {d : ℕ} {e : Expr A B} {fs : List (Noted B)} {ts rest : Tokens} → Conjunct leaf position MayEnter d e fs ts rest → (us : Tokens) → Pairs Rel ts us → ExprOf (λ x n r. Conjunct leaf' position' MayEnter' d x n us r) e fs rest
    conjunct (g.conditional w more) us (cons {u = u} s ss) =
        let c = conditional more u s _ ss in
        rederived c (g.conditional (word_of s w) c.derives)
    conjunct (g.root {operator = t} kind right) us (cons {u = u} s ss) =
        let r = conjunct right _ ss in
        of_one r (tree.Root (position' u.tok) r.tree) (g.root (kind_of s kind) r.derives) (λ i. tree.Root (positions t u s i) (r.alike i))
    conjunct (g.join {operator = t} n left kind right) us s =
        let l = until (value left us s) in
        let r = conjunct right l.after l.same in
        of_two (past l) r (tree.Join l.tree (position' l.partner.tok) r.tree) (g.join (no_word_of _ s n) l.derives (kind_of l.related kind) r.derives)
        (λ i. tree.Join (l.alike i) (positions t l.partner l.related i) (r.alike i))
    conjunct (g.list_concatenation {ls = ls} {rs = rs} {operator = t} n left kind right) us s =
        let l = until (value left us s) in
        let r = conjunct right l.after l.same in
        of_noted r (tree.ListConcatenation l.tree (position' l.partner.tok) r.tree) (l.features ++ noted features.ListConcatenationOperator (position' l.partner.tok) ++ r.features)
        (g.list_concatenation (no_word_of _ s n) l.derives (kind_of l.related kind) r.derives)
        (λ i. tree.ListConcatenation (l.alike i) (positions t l.partner l.related i) (r.alike i))
        (noted_between features.ListConcatenationOperator t l.partner l.related ls rs l.features r.features l.noted_alike r.noted_alike)
    conjunct (g.concatenation {operator = t} n left kind right) us s =
        let l = until (value left us s) in
        let r = conjunct right l.after l.same in
        of_two (past l) r (tree.Concatenation l.tree (position' l.partner.tok) r.tree)
        (g.concatenation (no_word_of _ s n) l.derives (kind_of l.related kind) r.derives)
        (λ i. tree.Concatenation (l.alike i) (positions t l.partner l.related i) (r.alike i))
    conjunct (g.value n v n2) us s =
        let x = value v us s in
        rederived x (g.value (no_word_of _ s n) x.derives (not_joined_of x.same n2))

    pub condition : {d : ℕ} {e : Expr A B} {fs : List (Noted B)} {ts rest : Tokens} → Condition leaf position MayEnter d e fs ts rest → (us : Tokens) → Pairs Rel ts us → ExprOf (λ x n r. Condition leaf' position' MayEnter' d x n us r) e fs rest
    condition (g.condition {e = e} {fs = fs} {first = t} inside) us (cons {u = u} {us = us2} s ss) =
        let x = expression inside (u ∷ us2) (cons s ss) in
        of_noted x x.tree (x.features ++ uncompared x.tree (position' u.tok))
        (g.condition x.derives) x.alike
        (both fs (uncompared e (position t.tok)) x.features (uncompared x.tree (position' u.tok)) x.noted_alike (uncompared_alike e x.tree x.alike t u s))

    pub braced : {d : ℕ} {e : Expr A B} {fs : List (Noted B)} {ts rest : Tokens} → Braced leaf position MayEnter d e fs ts rest → (us : Tokens) → Pairs Rel ts us → ExprOf (λ x n r. Braced leaf' position' MayEnter' d x n us r) e fs rest
    braced (g.braces kind inside kind2) us (cons s ss) =
        let x = until (expression inside _ ss) in
        rederived (past x) (g.braces (kind_of s kind) x.derives (kind_of x.related kind2))

    pub conditional : {d : ℕ} {t : SignificantToken} {e : Expr A B} {fs : List (Noted B)} {ts rest : Tokens} → Conditional leaf position MayEnter d t e fs ts rest → (u : SignificantToken) → Rel t u
        → (us : Tokens) → Pairs Rel ts us → ExprOf (λ x n r. Conditional leaf' position' MayEnter' d u x n us r) e fs rest
    conditional {t = t} (g.if_only {cs = cs} {bs = bs} first_part branch n) u w us s =
        let c = condition first_part us s in
        let b = braced branch c.after c.same in
        of_noted b (tree.If c.tree b.tree) (c.features ++ b.features ++ noted features.IfWithoutElse (position' u.tok))
        (g.if_only c.derives b.derives (no_word_of _ b.same n)) (λ i. tree.If (c.alike i) (b.alike i))
        (three cs bs (noted features.IfWithoutElse (position t.tok)) c.features b.features (noted features.IfWithoutElse (position' u.tok)) c.noted_alike b.noted_alike (noted_then features.IfWithoutElse t u w [] [] refl))
    conditional (g.if_else {o = other} {cs = cs} {bs = bs} {os = os} first_part branch otherwise last n) u w us s =
        let c = condition first_part us s in
        let b = until (braced branch c.after c.same) in
        let o = braced last b.after b.same in
        of_noted o (tree.IfElse c.tree b.tree o.tree) (c.features ++ b.features ++ o.features)
        (g.if_else c.derives b.derives (word_of b.related otherwise) o.derives (closed_of other o.tree o.alike o.same n))
        (λ i. tree.IfElse (c.alike i) (b.alike i) (o.alike i))
        (three cs bs os c.features b.features o.features c.noted_alike b.noted_alike o.noted_alike)
    conditional {d = d} (g.else_if {cs = cs} {bs = bs} {os = os} first_part branch otherwise again last) u w us s =
        let c = condition first_part us s in
        let b = until (braced branch c.after c.same) in
        let word = first b.same in
        let o = conditional last word.partner word.related word.more word.others in
        of_noted o (tree.IfElse c.tree b.tree o.tree) (c.features ++ b.features ++ o.features)
        (g.else_if c.derives (subst (λ r. Braced leaf' position' MayEnter' d b.tree b.features c.after (b.partner ∷ r)) word.is b.derives) (word_of b.related otherwise) (word_of word.related again) o.derives)
        (λ i. tree.IfElse (c.alike i) (b.alike i) (o.alike i))
        (three cs bs os c.features b.features o.features c.noted_alike b.noted_alike o.noted_alike)

    pub value : {d : ℕ} {e : Expr A B} {fs : List (Noted B)} {ts rest : Tokens} → Value leaf position MayEnter d e fs ts rest → (us : Tokens) → Pairs Rel ts us → ExprOf (λ x n r. Value leaf' position' MayEnter' d x n us r) e fs rest
    value (g.not {fs = fs} {bang = t} kind v) us (cons {u = u} s ss) =
        let x = value v _ ss in
        of_noted x (tree.Not x.tree) (noted features.NegationOperator (position' u.tok) ++ x.features)
        (g.not (kind_of s kind) x.derives) (λ i. tree.Not (x.alike i))
        (noted_then features.NegationOperator t u s fs x.features x.noted_alike)
    value (g.literal {token = t} kind) us (cons {u = u} s ss) =
        of_tokens (tree.StringLiteral false (leaf' u.tok)) (g.literal (kind_of s kind)) (λ i. tree.StringLiteral false (leaves t u s i)) ss
    value (g.expanded {token = t} mark) us (cons m (cons {u = u} s ss)) =
        of_tokens (tree.StringLiteral true (leaf' u.tok)) (g.expanded (marked_of m s mark)) (λ i. tree.StringLiteral true (leaves t u s i)) ss
    value (g.format_literal {token = t} mark) us (cons m (cons {u = u} s ss)) =
        of_tokens (tree.FormatLiteral (leaf' u.tok)) (g.format_literal (marked_of m s mark)) (λ i. tree.FormatLiteral (leaves t u s i)) ss
    value (g.format_string {start = t} mark inside parts) us (cons m (cons {u = u} s ss)) =
        let x = expression inside _ ss in
        let p = format_parts parts x.after x.same in
        of_two x p (tree.FormatString (leaf' u.tok) x.tree p.tree) (g.format_string (marked_of m s mark) x.derives p.derives)
        (λ i. tree.FormatString (leaves t u s i) (x.alike i) (p.alike i))
    value (g.backtick {token = t} kind) us (cons {u = u} s ss) =
        of_tokens (tree.Backtick (leaf' u.tok)) (g.backtick (kind_of s kind)) (λ i. tree.Backtick (leaves t u s i)) ss
    value (g.assert {word = t} w kind inside kind2) us (cons {u = u} s (cons s2 ss)) =
        let c = until (condition inside _ ss) in
        of_one (past c) (tree.Assert (position' u.tok) c.tree) (g.assert (word_of s w) (kind_of s2 kind) c.derives (kind_of c.related kind2))
        (λ i. tree.Assert (positions t u s i) (c.alike i))
    value (g.assert_message {word = t} w kind inside kind2 message kind3) us (cons {u = u} s (cons s2 ss)) =
        let c = until (condition inside _ ss) in
        let m = until (expression message c.after c.same) in
        of_two (past c) (past m) (tree.AssertMessage (position' u.tok) c.tree m.tree)
        (g.assert_message (word_of s w) (kind_of s2 kind) c.derives (kind_of c.related kind2) m.derives (kind_of m.related kind3))
        (λ i. tree.AssertMessage (positions t u s i) (c.alike i) (m.alike i))
    value (g.variable {name = t} kind n unmarked n2) us (cons {u = u} s ss) =
        of_tokens (tree.Variable (leaf' u.tok)) (g.variable (kind_of s kind) (no_word s n) (unmarked_of s ss unmarked) (next_of _ ss n2))
        (λ i. tree.Variable (leaves t u s i)) ss
    value (g.call {fs = fs} {name = t} kind n kind2 arguments) us (cons {u = u} s (cons s2 ss)) =
        let x = sequence arguments _ ss in
        of_noted x (tree.Call (leaf' u.tok) x.tree) (x.features ++ called u.tok.lexeme (position' u.tok))
        (g.call (kind_of s kind) (no_word s n) (kind_of s2 kind2) x.derives) (λ i. tree.Call (leaves t u s i) (x.alike i))
        (both fs (called t.tok.lexeme (position t.tok)) x.features (called u.tok.lexeme (position' u.tok)) x.noted_alike (called_alike t u s))
    value (g.group kind inside kind2) us (cons s ss) =
        let x = until (expression inside _ ss) in
        of_one (past x) (tree.Group x.tree) (g.group (kind_of s kind) x.derives (kind_of x.related kind2)) (λ i. tree.Group (x.alike i))
    value (g.list {fs = fs} {opener = t} kind elements) us (cons {u = u} s ss) =
        let x = sequence elements _ ss in
        of_noted x (tree.ListOf (position' u.tok) x.tree) (noted features.ListLiteral (position' u.tok) ++ x.features)
        (g.list (kind_of s kind) x.derives) (λ i. tree.ListOf (positions t u s i) (x.alike i))
        (noted_then features.ListLiteral t u s fs x.features x.noted_alike)

    pub sequence : {closing : TokenKind} {d : ℕ} {e : Exprs A B} {fs : List (Noted B)} {ts rest : Tokens} → Sequence leaf position MayEnter closing d e fs ts rest → (us : Tokens) → Pairs Rel ts us → ExprsOf (λ x n r. Sequence leaf' position' MayEnter' closing d x n us r) e fs rest
    sequence (g.none kind) us (cons s ss) = of_tokens tree.none (g.none (kind_of s kind)) refl ss
    sequence (g.last n inside kind) us s =
        let x = until (expression inside us s) in
        of_one (past x) (tree.more x.tree tree.none) (g.last (next_of _ s n) x.derives (kind_of x.related kind)) (λ i. tree.more (x.alike i) tree.none)
    sequence (g.more n inside kind others) us s =
        let x = until (expression inside us s) in
        let y = sequence others x.after x.same in
        of_two (past x) y (tree.more x.tree y.tree) (g.more (next_of _ s n) x.derives (kind_of x.related kind) y.derives) (λ i. tree.more (x.alike i) (y.alike i))

    pub format_parts : {d : ℕ} {e : Parts A B} {fs : List (Noted B)} {ts rest : Tokens} → FormatParts leaf position MayEnter d e fs ts rest → (us : Tokens) → Pairs Rel ts us → PartsOf (λ x n r. FormatParts leaf' position' MayEnter' d x n us r) e fs rest
    format_parts (g.end {token = t} kind) us (cons {u = u} s ss) =
        of_tokens (tree.Last (leaf' u.tok)) (g.end (kind_of s kind)) (λ i. tree.Last (leaves t u s i)) ss
    format_parts (g.next {token = t} kind inside parts) us (cons {u = u} s ss) =
        let x = expression inside _ ss in
        let p = format_parts parts x.after x.same in
        of_two x p (tree.Continue (leaf' u.tok) x.tree p.tree) (g.next (kind_of s kind) x.derives p.derives)
        (λ i. tree.Continue (leaves t u s i) (x.alike i) (p.alike i))
