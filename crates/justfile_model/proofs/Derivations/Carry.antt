-- A derivation of a file, moved to tokens that differ only in their positions, to other projections, and to another limit.
use Rattle.std.proofs.Common.{◌≡◌, ℕ, false, true, List, [], ◌∷◌, map, Option, None, Some, refl, sym, subst, ap, ◌∙◌, Bool, ◌++◌}
use Rattle.std.specs.Str.{trim_end}
use Rattle.justfile_vocabulary.specs.declared.token_kind.TokenKind.{TokenKind}
use Rattle.justfile_model.specs.Grammars.AttributeLines.{AttributeLines, IsKey, ArgumentOf, Arguments, AttributeOf, AttributesEnd, Bracketed}
use Rattle.justfile_model.specs.Lexing.SignificantTokens.{SignificantToken}
use Rattle.justfile_model.specs.Trees.Tree as tree
use Rattle.justfile_model.specs.Trees.Tree.{Expr, Fragment, BodyLine, Line, Content, Construct, WrittenAttribute, WrittenItem, line_before, Header, Quoted, SettingValue, bare_module, bare_recipe, assignment_of, trimmed, over_expr, over_fragment, over_header, over_line, over_quoted, over_setting_value, over_written_attribute, over_content, over_item, Argument, bare_attribute, commented_attribute, commented_line, over_argument, Dependency, DependencyArgument, Parameter, over_dependency, over_dependency_argument, over_parameter, Exprs, over_exprs}
use Rattle.justfile_model.specs.Grammars.Features.{ConstructFeatures, Noted, over_features, over_noted}
use Rattle.justfile_model.specs.Grammars.Expressions.{Tokens, front, IsKind, Expression, NotNext, Value, IsWord, Sequence}
use Rattle.justfile_model.specs.Grammars.Grammar.{TokenProjection, LineRest, BeforeBody, NotEmpty, BodyLines, OnLine, Block, Items, ItemRest, LineEnd, File}
use Rattle.justfile_model.specs.Grammars.Headers.{HeaderOf, PathOf, PathRest, NamedParameter, ParameterOf, Parameters, DependencyArguments, DependencyOf, Dependencies, AllDependencies, NamedHeader}
use Rattle.justfile_model.specs.Grammars.ItemParts.{FilePath, Names, ValueOf, EndsLine, NoPath, NotNamedString}
use Rattle.justfile_model.specs.Grammars.Settings.{SettingForm}
use Rattle.justfile_model.proofs.Derivations.CarryExpressions as expressions
use Rattle.justfile_model.proofs.Derivations.CarryExpressions.{Same, Pairs, nil, cons, filled, first, same_kind_of, Carried, until, of_tokens, of_one, of_two, both_alike, same_marked_of, turned, past, rederived, same_word_of}
use Rattle.justfile_vocabulary.specs.declared.token_kind.TokenKind.TheVariants as kinds
use Rattle.justfile_model.specs.Meanings.AttributeKinds.{name_takes_keys}
use Rattle.justfile_model.proofs.Printed.Commented.{commented_map}
use Rattle.justfile_model.specs.declared.parameter_kind.ParameterKind.{ParameterKind}
use Rattle.justfile_model.specs.Grammars.Grammar as g
use Rattle.justfile_model.specs.Grammars.AttributeLines as lines
use Rattle.justfile_model.specs.Grammars.Headers as heads
use Rattle.justfile_model.specs.Grammars.ItemParts as in_parts

-- how the projections of tokens are mapped
pub record Maps (A B C S D E F G : Type 0) : Type 0 where
  pub leaf : A → D
  pub position : B → E
  pub number : C → F
  pub star : S → G

-- written items with what they keep replaced
abbrev pub over_items : {A B C S D E F G : Type 0} → Maps A B C S D E F G → List (WrittenItem A B C S) → List (WrittenItem D E F G)
over_items m = map (over_item m.leaf m.position m.number m.star (map (over_written_attribute m.leaf m.position)))

-- what is kept of related tokens becomes the same
pub record Alike {A B C S A' B' C' S' D E F G : Type 0} (projection : TokenProjection A B C S) (m : Maps A B C S D E F G) (kept' : TokenProjection A' B' C' S') (m' : Maps A' B' C' S' D E F G)
    (Rel : SignificantToken → SignificantToken → Type 0) : Type 0 where
  pub leaves : (t u : SignificantToken) → Rel t u → m'.leaf (kept'.leaf u.tok) ≡ m.leaf (projection.leaf t.tok)
  pub positions : (t u : SignificantToken) → Rel t u → m'.position (kept'.position u.tok) ≡ m.position (projection.position t.tok)
  pub numbers : (t u : SignificantToken) → Rel t u → m'.number (kept'.number u.tok) ≡ m.number (projection.number t.tok)
  pub stars : (t u : SignificantToken) → Rel t u → m'.star (kept'.star u.tok) ≡ m.star (projection.star t.tok)

-- ---- lists that are mapped

not_empty_mapped : {X Y : Type 0} (m : X → Y) (xs : List X) → NotEmpty xs → NotEmpty (map m xs)
not_empty_mapped m [] n = n
not_empty_mapped m (x ∷ xs) n = tt

not_empty_before : {X Y : Type 0} (m : X → Y) (xs : List X) → NotEmpty (map m xs) → NotEmpty xs
not_empty_before m [] n = n
not_empty_before m (x ∷ xs) n = tt

-- ---- empty lines at the end are the same over other leaves

module _ {A B C D E F : Type 0} (f : A → D) (h : B → E) (k : C → F) where
  before_over : (l : BodyLine A B C) (ls : List (BodyLine A B C)) → line_before (over_line f h k l) (map (over_line f h k) ls) ≡ map (over_line f h k) (line_before l ls)
  before_over (Line number []) [] = refl
  before_over (Line number []) (l ∷ ls) = refl
  before_over (Line number (x ∷ fragments)) ls = refl

  pub trimmed_over : (ls : List (BodyLine A B C)) → trimmed (map (over_line f h k) ls) ≡ map (over_line f h k) (trimmed ls)
  trimmed_over [] = refl
  trimmed_over (l ∷ ls) = ap (line_before (over_line f h k l)) (trimmed_over ls) ∙ before_over l (trimmed ls)

-- ---- derivations

-- elements that are replaced as ones of which there is a first
record FirstElement {A B : Type 0} (es : Exprs A B) : Type 0 where
  one : Expr A B
  others : Exprs A B
  is : es ≡ tree.more one others

first_element : {A B A' B' C D : Type 0} (f : A → C) (h : B → D) (f' : A' → C) (h' : B' → D) (xs : Exprs A' B') (e : Expr A B) (es : Exprs A B)
    → over_exprs f' h' xs ≡ over_exprs f h (tree.more e es) → FirstElement xs
first_element f h f' h' tree.none e es k = cc
first_element f h f' h' (tree.more x xs) e es k = record { one = x; others = xs; is = refl }

-- an interpreter of the elements of a list that has a first one
abbrev interpreted : {A B : Type 0} → Exprs A B → SettingValue A B
interpreted tree.none = tree.Truth true
interpreted (tree.more e es) = tree.Interpreter e es

-- items with their derivation, which are the others over some leaves, and so are their features
pub record Whole {X X' Y B B' D : Type 0} (m : X → Y) (m' : X' → Y) (h : B → D) (h' : B' → D) (R : X' → List (ConstructFeatures B') → Type 0) (e : X) (fs : List (ConstructFeatures B)) : Type 0 where
  pub tree : X'
  pub features : List (ConstructFeatures B')
  pub derives : R tree features
  pub alike : m' tree ≡ m e
  pub noted_alike : map (over_features h') features ≡ map (over_features h) fs

-- what is left where nothing is kept
record Passed (Rel : SignificantToken → SignificantToken → Type 0) (R : Tokens → Type 0) (rest : Tokens) : Type 0 where
  after : Tokens
  derives : R after
  same : Pairs Rel rest after

module _ {A B C S A' B' C' S' D E F G : Type 0} (projection : TokenProjection A B C S) (MayEnter : ℕ → Option SignificantToken → Type 0) (m : Maps A B C S D E F G)
    (Rel : SignificantToken → SignificantToken → Type 0) (weak : (t u : SignificantToken) → Rel t u → Same t u)
    (kept' : TokenProjection A' B' C' S') (MayEnter' : ℕ → Option SignificantToken → Type 0) (m' : Maps A' B' C' S' D E F G) (kept_alike : Alike projection m kept' m' Rel)
    (opens : (d : ℕ) (ts us : Tokens) → Pairs Rel ts us → MayEnter d (front ts) → MayEnter' d (front us)) where
  kind_of : {kind : TokenKind} {t u : SignificantToken} → Rel t u → IsKind kind t → IsKind kind u
  kind_of s = same_kind_of (weak _ _ s)

  comment_of : (t u : SignificantToken) → Rel t u → trim_end u.tok.lexeme ≡ trim_end t.tok.lexeme
  comment_of t u s = let w = weak t u s in ap trim_end (sym w.lexeme)

  abbrev FragmentsOf : (List (Fragment A' B') → List (Noted B') → Tokens → Type 0) → List (Fragment A B) → List (Noted B) → Tokens → Type 0
  FragmentsOf R fragments fs rest = Carried Rel (map (over_fragment m.leaf m.position)) (map (over_fragment m'.leaf m'.position)) m.position m'.position R fragments fs rest

  abbrev LinesOf : (List (BodyLine A' B' C') → List (Noted B') → Tokens → Type 0) → List (BodyLine A B C) → List (Noted B) → Tokens → Type 0
  LinesOf R lines fs rest = Carried Rel (map (over_line m.leaf m.position m.number)) (map (over_line m'.leaf m'.position m'.number)) m.position m'.position R lines fs rest

  abbrev ContentOf : (Content A' B' C' S' → List (Noted B') → Tokens → Type 0) → Content A B C S → List (Noted B) → Tokens → Type 0
  ContentOf R c fs rest = Carried Rel (over_content m.leaf m.position m.number m.star) (over_content m'.leaf m'.position m'.number m'.star) m.position m'.position R c fs rest

  abbrev ItemsOf : (List (WrittenItem A' B' C' S') → List (ConstructFeatures B') → Type 0) → List (WrittenItem A B C S) → List (ConstructFeatures B) → Type 0
  ItemsOf R items fs = Whole (over_items m) (over_items m') m.position m'.position R items fs

  expression : {e : Expr A B} {fs : List (Noted B)} {ts rest : Tokens} → Expression projection.leaf projection.position MayEnter false 0 e fs ts rest → (us : Tokens) → Pairs Rel ts us
      → Carried Rel (over_expr m.leaf m.position) (over_expr m'.leaf m'.position) m.position m'.position (λ x n r. Expression kept'.leaf kept'.position MayEnter' false 0 x n us r) e fs rest
  expression e us s = expressions.expression projection.leaf projection.position MayEnter Rel weak kept'.leaf kept'.position MayEnter' m.leaf m.position m'.leaf m'.position kept_alike.leaves kept_alike.positions opens e us s

  value : {e : Expr A B} {fs : List (Noted B)} {ts rest : Tokens} → Value projection.leaf projection.position MayEnter 0 e fs ts rest → (us : Tokens) → Pairs Rel ts us
      → Carried Rel (over_expr m.leaf m.position) (over_expr m'.leaf m'.position) m.position m'.position (λ x n r. Value kept'.leaf kept'.position MayEnter' 0 x n us r) e fs rest
  value e us s = expressions.value projection.leaf projection.position MayEnter Rel weak kept'.leaf kept'.position MayEnter' m.leaf m.position m'.leaf m'.position kept_alike.leaves kept_alike.positions opens e us s

  before : {kind : TokenKind} {t u : SignificantToken} → Rel t u → IsKind kind u → IsKind kind t
  before s = same_kind_of (turned (weak _ _ s))

  next_of : (kind : TokenKind) {ts us : Tokens} → Pairs Rel ts us → NotNext kind ts → NotNext kind us
  next_of kind nil n = tt
  next_of kind (cons s ss) n = λ e. n (before s e)

  word_of : {word : List ℕ} {t u : SignificantToken} → Rel t u → IsWord word t → IsWord word u
  word_of s = same_word_of (weak _ _ s)

  ends_line : {ts us : Tokens} → Pairs Rel ts us → EndsLine ts → EndsLine us
  ends_line nil ends = elim ends [ ]
  ends_line (cons s ss) (in_parts.at_comment kind) = in_parts.at_comment (kind_of s kind)
  ends_line (cons s ss) (in_parts.at_line_end kind) = in_parts.at_line_end (kind_of s kind)
  ends_line (cons s ss) (in_parts.at_file_end kind) = in_parts.at_file_end (kind_of s kind)

  not_named : {ts us : Tokens} → Pairs Rel ts us → NotNamedString ts → NotNamedString us
  not_named nil n = tt
  not_named (cons s nil) n = tt
  not_named (cons s (cons s2 ss)) n = λ e e2. n (before s e) (before s2 e2)

  no_path : {ts us : Tokens} → Pairs Rel ts us → NoPath ts → NoPath us
  no_path ss n = record { unmarked = next_of kinds.StringToken ss n.unmarked; marked = not_named ss n.marked }

  -- the features of two rows
  both : (fs gs : List (Noted B)) (fs' gs' : List (Noted B')) → map (over_noted m'.position) fs' ≡ map (over_noted m.position) fs
      → map (over_noted m'.position) gs' ≡ map (over_noted m.position) gs → map (over_noted m'.position) (fs' ++ gs') ≡ map (over_noted m.position) (fs ++ gs)
  both = both_alike (over_noted m.position) (over_noted m'.position)

  key_of : {ts us : Tokens} → Pairs Rel ts us → IsKey ts → IsKey us
  key_of nil k = k
  key_of (cons s nil) k = kind_of s k
  key_of (cons s (cons s2 ss)) k = (kind_of s k.0, λ m. k.1 (same_marked_of (turned (weak _ _ s)) (turned (weak _ _ s2)) m))

  -- a key was one before
  key_before : {ts us : Tokens} → Pairs Rel ts us → IsKey us → IsKey ts
  key_before nil k = k
  key_before (cons s nil) k = same_kind_of (turned (weak _ _ s)) k
  key_before (cons s (cons s2 ss)) k = (same_kind_of (turned (weak _ _ s)) k.0, λ m. k.1 (same_marked_of (weak _ _ s) (weak _ _ s2) m))

  abbrev ArgumentCarried : (Argument A' B' → List (Noted B') → Tokens → Type 0) → Argument A B → List (Noted B) → Tokens → Type 0
  ArgumentCarried R a fs rest = Carried Rel (over_argument m.leaf m.position) (over_argument m'.leaf m'.position) m.position m'.position R a fs rest

  abbrev WrittenCarried : (List (Argument A' B') → List (Noted B') → Tokens → Type 0) → List (Argument A B) → List (Noted B) → Tokens → Type 0
  WrittenCarried R all fs rest = Carried Rel (map (over_argument m.leaf m.position)) (map (over_argument m'.leaf m'.position)) m.position m'.position R all fs rest

  abbrev AttributeCarried : (WrittenAttribute A' B' → List (Noted B') → Tokens → Type 0) → WrittenAttribute A B → List (Noted B) → Tokens → Type 0
  AttributeCarried R w fs rest = Carried Rel (over_written_attribute m.leaf m.position) (over_written_attribute m'.leaf m'.position) m.position m'.position R w fs rest

  abbrev AttributesCarried : (List (WrittenAttribute A' B') → List (Noted B') → Tokens → Type 0) → List (WrittenAttribute A B) → List (Noted B) → Tokens
      → Type 0
  AttributesCarried R ws fs rest = Carried Rel (map (over_written_attribute m.leaf m.position)) (map (over_written_attribute m'.leaf m'.position)) m.position m'.position R ws fs rest

  -- ---- attributes

  argument : {keys : Bool} {a : Argument A B} {fs : List (Noted B)} {ts rest : Tokens} → ArgumentOf projection.leaf projection.position MayEnter keys a fs ts rest → (us : Tokens)
      → Pairs Rel ts us → ArgumentCarried (λ x n r. ArgumentOf kept'.leaf kept'.position MayEnter' keys x n us r) a fs rest
  argument (lines.positional {first = t} not e) us (cons {u = u} {us = us2} s ss) =
      let x = expression e (u ∷ us2) (cons s ss) in
      of_one x (tree.Positional (kept'.position u.tok) x.tree) (lines.positional (λ is k. not is (key_before (cons s ss) k)) x.derives)
      (λ i. tree.Positional (kept_alike.positions t u s i) (x.alike i))
  argument (lines.bare {key = t} is not) us (cons {u = u} s ss) =
      of_tokens (tree.Bare (kept'.leaf u.tok)) (lines.bare (key_of (cons s ss) is) (next_of kinds.Equals ss not)) (λ i. tree.Bare (kept_alike.leaves t u s i)) ss
  argument (lines.keyed {key = t} kind kind2 e) us (cons {u = u} s (cons {us = us2} s2 ss)) =
      let x = expression e us2 ss in
      of_one x (tree.Keyed (kept'.leaf u.tok) x.tree) (lines.keyed (kind_of s kind) (kind_of s2 kind2) x.derives) (λ i. tree.Keyed (kept_alike.leaves t u s i) (x.alike i))

  arguments : {keys : Bool} {all : List (Argument A B)} {fs : List (Noted B)} {ts rest : Tokens} → Arguments projection.leaf projection.position MayEnter keys all fs ts rest
      → (us : Tokens) → Pairs Rel ts us → WrittenCarried (λ x n r. Arguments kept'.leaf kept'.position MayEnter' keys x n us r) all fs rest
  arguments (lines.none kind) us (cons s ss) =
      of_tokens [] (lines.none (kind_of s kind)) refl ss
  arguments (lines.last a kind) us s =
      let x = until (argument a us s) in
      of_one (past x) (x.tree ∷ []) (lines.last x.derives (kind_of x.related kind)) (λ i. x.alike i ∷ [])
  arguments (lines.more a kind others) us s =
      let x = until (argument a us s) in
      let y = arguments others x.after x.same in
      of_two (past x) y (x.tree ∷ y.tree) (lines.more x.derives (kind_of x.related kind) y.derives) (λ i. x.alike i ∷ y.alike i)

  attribute : {w : WrittenAttribute A B} {fs : List (Noted B)} {ts rest : Tokens} → AttributeOf projection.leaf projection.position MayEnter w fs ts rest → (us : Tokens)
      → Pairs Rel ts us → AttributeCarried (λ x n r. AttributeOf kept'.leaf kept'.position MayEnter' x n us r) w fs rest
  attribute (lines.plain {name = t} kind nc np) us (cons {u = u} s ss) =
      of_tokens (bare_attribute (kept'.leaf u.tok) []) (lines.plain (kind_of s kind) (next_of kinds.Colon ss nc) (next_of kinds.ParenL ss np))
      (λ i. bare_attribute (kept_alike.leaves t u s i) []) ss
  attribute (lines.short {name = t} {first = first} kind kind2 e) us (cons {u = u} s (cons s2 (cons {u = v} {us = us2} s3 ss))) =
      let x = expression e (v ∷ us2) (cons s3 ss) in
      of_one x (bare_attribute (kept'.leaf u.tok) (tree.Positional (kept'.position v.tok) x.tree ∷ [])) (lines.short (kind_of s kind) (kind_of s2 kind2) x.derives)
      (λ i. bare_attribute (kept_alike.leaves t u s i) (tree.Positional (kept_alike.positions first v s3 i) (x.alike i) ∷ []))
  attribute (lines.long {name = t} kind kind2 all) us (cons {u = u} s (cons {us = us2} s2 ss)) =
      let x = arguments all us2 ss in
      of_one x (bare_attribute (kept'.leaf u.tok) x.tree)
      (lines.long (kind_of s kind) (kind_of s2 kind2)
      (subst (λ lexeme. Arguments kept'.leaf kept'.position MayEnter' (name_takes_keys lexeme) x.tree x.features us2 x.after) (weak t u s).lexeme x.derives))
      (λ i. bare_attribute (kept_alike.leaves t u s i) (x.alike i))

  bracketed : {ws : List (WrittenAttribute A B)} {fs : List (Noted B)} {ts rest : Tokens} → Bracketed projection.leaf projection.position MayEnter ws fs ts rest → (us : Tokens)
      → Pairs Rel ts us → AttributesCarried (λ x n r. Bracketed kept'.leaf kept'.position MayEnter' x n us r) ws fs rest
  bracketed (lines.last w kind) us s =
      let x = until (attribute w us s) in
      of_one (past x) (x.tree ∷ []) (lines.last x.derives (kind_of x.related kind)) (λ i. x.alike i ∷ [])
  bracketed (lines.more w kind others) us s =
      let x = until (attribute w us s) in
      let y = bracketed others x.after x.same in
      of_two (past x) y (x.tree ∷ y.tree) (lines.more x.derives (kind_of x.related kind) y.derives) (λ i. x.alike i ∷ y.alike i)

  -- the end of a line, with its comment
  record Ended (comment : Option (List ℕ)) (us : Tokens) (rest : Tokens) : Type 0 where
    after : Tokens
    derives : AttributesEnd kept'.leaf kept'.position MayEnter' comment us after
    same : Pairs Rel rest after

  attributes_end : {comment : Option (List ℕ)} {ts rest : Tokens} → AttributesEnd projection.leaf projection.position MayEnter comment ts rest → (us : Tokens) → Pairs Rel ts us
      → Ended comment us rest
  attributes_end (lines.bare kind) us (cons s ss) = record { after = _; derives = lines.bare (kind_of s kind); same = ss }
  attributes_end (lines.commented {comment = t} kind kind2) us (cons {u = u} s (cons {u = newline} {us = after} s2 ss)) =
      record {
        after = after;
        derives = subst (λ text. AttributesEnd kept'.leaf kept'.position MayEnter' (Some text) (u ∷ newline ∷ after) after) (comment_of t u s)
            (lines.commented (kind_of s kind) (kind_of s2 kind2));
        same = ss;
      }

  attribute_lines : {ws : List (WrittenAttribute A B)} {fs : List (Noted B)} {ts rest : Tokens} → AttributeLines projection.leaf projection.position MayEnter ws fs ts rest
      → (us : Tokens) → Pairs Rel ts us → AttributesCarried (λ x n r. AttributeLines kept'.leaf kept'.position MayEnter' x n us r) ws fs rest
  attribute_lines (lines.none not) us s =
      of_tokens [] (lines.none (next_of kinds.BracketL s not)) refl s
  attribute_lines (lines.line {ws = ws} {others = vs} {comment = comment} kind b e others) us (cons {us = us2} s ss) =
      let x = bracketed b us2 ss in
      let y = attributes_end e x.after x.same in
      let z = attribute_lines others y.after y.same in
      of_two x z (commented_line comment x.tree ++ z.tree) (lines.line (kind_of s kind) x.derives y.derives z.derives)
      (both_alike (over_written_attribute m.leaf m.position) (over_written_attribute m'.leaf m'.position) (commented_line comment ws) vs (commented_line comment x.tree) z.tree
      (commented_map (over_written_attribute m'.leaf m'.position) commented_attribute commented_attribute (λ c w. refl) comment x.tree
      ∙ ap (commented_line comment) x.alike
      ∙ sym (commented_map (over_written_attribute m.leaf m.position) commented_attribute commented_attribute (λ c w. refl) comment ws))
      z.alike)

  -- ---- paths, which have no features

  abbrev NamesCarried : (List A' → Tokens → Type 0) → List A → Tokens → Type 0
  NamesCarried R names rest = Carried Rel (map m.leaf) (map m'.leaf) m.position m'.position (λ x n r. R x r) names [] rest

  path_rest : {names : List A} {ts rest : Tokens} → PathRest projection.leaf names ts rest → (us : Tokens) → Pairs Rel ts us
      → NamesCarried (λ x r. PathRest kept'.leaf x us r) names rest
  path_rest (heads.last not) us s =
      of_tokens [] (heads.last (next_of kinds.ColonColon s not)) refl s
  path_rest (heads.next {name = t} kind kind2 more) us (cons s (cons {u = u} {us = us2} s2 ss)) =
      let x = path_rest more us2 ss in
      of_tokens (kept'.leaf u.tok ∷ x.tree) (heads.next (kind_of s kind) (kind_of s2 kind2) x.derives) (λ i. kept_alike.leaves t u s2 i ∷ x.alike i) x.same

  path : {names : List A} {ts rest : Tokens} → PathOf projection.leaf names ts rest → (us : Tokens) → Pairs Rel ts us → NamesCarried (λ x r. PathOf kept'.leaf x us r) names rest
  path (heads.path {name = t} kind more) us (cons {u = u} {us = us2} s ss) =
      let x = path_rest more us2 ss in
      of_tokens (kept'.leaf u.tok ∷ x.tree) (heads.path (kind_of s kind) x.derives) (λ i. kept_alike.leaves t u s i ∷ x.alike i) x.same

  -- ---- parameters

  abbrev ParameterCarried : (Parameter A' B' → List (Noted B') → Tokens → Type 0) → Parameter A B → List (Noted B) → Tokens → Type 0
  ParameterCarried R p fs rest = Carried Rel (over_parameter m.leaf m.position) (over_parameter m'.leaf m'.position) m.position m'.position R p fs rest

  abbrev ParametersCarried : (List (Parameter A' B') → List (Noted B') → Tokens → Type 0) → List (Parameter A B) → List (Noted B) → Tokens → Type 0
  ParametersCarried R ps fs rest = Carried Rel (map (over_parameter m.leaf m.position)) (map (over_parameter m'.leaf m'.position)) m.position m'.position R ps fs rest

  named_parameter : {kind : ParameterKind} {export : Bool} {p : Parameter A B} {fs : List (Noted B)} {ts rest : Tokens}
      → NamedParameter projection.leaf projection.position MayEnter kind export p fs ts rest → (us : Tokens) → Pairs Rel ts us
      → ParameterCarried (λ x n r. NamedParameter kept'.leaf kept'.position MayEnter' kind export x n us r) p fs rest
  named_parameter {kind} {export} (heads.required {name = t} is not) us (cons {u = u} s ss) =
      of_tokens (record { kind = kind; export = export; name = kept'.leaf u.tok; default = None }) (heads.required (kind_of s is) (next_of kinds.Equals ss not))
      (λ i. record { kind = kind; export = export; name = kept_alike.leaves t u s i; default = None }) ss
  named_parameter {kind} {export} (heads.optional {name = t} is is2 e) us (cons {u = u} s (cons {us = us2} s2 ss)) =
      let x = value e us2 ss in
      of_one x (record { kind = kind; export = export; name = kept'.leaf u.tok; default = Some x.tree }) (heads.optional (kind_of s is) (kind_of s2 is2) x.derives)
      (λ i. record { kind = kind; export = export; name = kept_alike.leaves t u s i; default = Some (x.alike i) })

  parameter : {kind : ParameterKind} {p : Parameter A B} {fs : List (Noted B)} {ts rest : Tokens} → ParameterOf projection.leaf projection.position MayEnter kind p fs ts rest
      → (us : Tokens) → Pairs Rel ts us → ParameterCarried (λ x n r. ParameterOf kept'.leaf kept'.position MayEnter' kind x n us r) p fs rest
  parameter (heads.exported is p) us (cons {us = us2} s ss) =
      let x = named_parameter p us2 ss in rederived x (heads.exported (kind_of s is) x.derives)
  parameter (heads.unexported p) us s =
      let x = named_parameter p us s in rederived x (heads.unexported x.derives)

  -- the parameter that takes several arguments, before the colon
  last_parameter : {kind : ParameterKind} {p : Parameter A B} {fs : List (Noted B)} {ts rest : Tokens} {colon : SignificantToken} (us us2 : Tokens)
      → ParameterOf projection.leaf projection.position MayEnter kind p fs ts (colon ∷ rest) → IsKind kinds.Colon colon → Pairs Rel ts us2
      → ((x : Parameter A' B') (gs : List (Noted B')) (after : Tokens) (u : SignificantToken) → ParameterOf kept'.leaf kept'.position MayEnter' kind x gs us2 (u ∷ after)
      → IsKind kinds.Colon u → Parameters kept'.leaf kept'.position MayEnter' (x ∷ []) gs us after)
      → ParametersCarried (λ x n r. Parameters kept'.leaf kept'.position MayEnter' x n us r) (p ∷ []) fs rest
  last_parameter us us2 p colon ss derives =
      let x = until (parameter p us2 ss) in
      of_one (past x) (x.tree ∷ []) (derives x.tree x.features x.after x.partner x.derives (kind_of x.related colon)) (λ i. x.alike i ∷ [])

  parameters : {ps : List (Parameter A B)} {fs : List (Noted B)} {ts rest : Tokens} → Parameters projection.leaf projection.position MayEnter ps fs ts rest
      → (us : Tokens) → Pairs Rel ts us → ParametersCarried (λ x n r. Parameters kept'.leaf kept'.position MayEnter' x n us r) ps fs rest
  parameters (heads.none is) us (cons s ss) =
      of_tokens [] (heads.none (kind_of s is)) refl ss
  parameters (heads.more p others) us s =
      let x = parameter p us s in
      let y = parameters others x.after x.same in
      of_two x y (x.tree ∷ y.tree) (heads.more x.derives y.derives) (λ i. x.alike i ∷ y.alike i)
  parameters (heads.plus is p colon) us (cons {us = us2} s ss) = last_parameter us us2 p colon ss (λ x gs after u d e. heads.plus (kind_of s is) d e)
  parameters (heads.star is p colon) us (cons {us = us2} s ss) = last_parameter us us2 p colon ss (λ x gs after u d e. heads.star (kind_of s is) d e)

  -- ---- dependencies

  abbrev ArgumentsCarried : (List (DependencyArgument A' B' S') → List (Noted B') → Tokens → Type 0) → List (DependencyArgument A B S) → List (Noted B) → Tokens
      → Type 0
  ArgumentsCarried R all fs rest = Carried Rel (map (over_dependency_argument m.leaf m.position m.star)) (map (over_dependency_argument m'.leaf m'.position m'.star)) m.position m'.position R all fs rest

  abbrev DependencyCarried : (Dependency A' B' S' → List (Noted B') → Tokens → Type 0) → Dependency A B S → List (Noted B) → Tokens → Type 0
  DependencyCarried R d fs rest = Carried Rel (over_dependency m.leaf m.position m.star) (over_dependency m'.leaf m'.position m'.star) m.position m'.position R d fs rest

  abbrev DependenciesCarried : (List (Dependency A' B' S') → List (Noted B') → Tokens → Type 0) → List (Dependency A B S) → List (Noted B) → Tokens → Type 0
  DependenciesCarried R ds fs rest = Carried Rel (map (over_dependency m.leaf m.position m.star)) (map (over_dependency m'.leaf m'.position m'.star)) m.position m'.position R ds fs rest

  dependency_arguments : {all : List (DependencyArgument A B S)} {fs : List (Noted B)} {ts rest : Tokens}
      → DependencyArguments projection.leaf projection.position projection.star MayEnter all fs ts rest → (us : Tokens) → Pairs Rel ts us
      → ArgumentsCarried (λ x n r. DependencyArguments kept'.leaf kept'.position kept'.star MayEnter' x n us r) all fs rest
  dependency_arguments (heads.none is) us (cons s ss) =
      of_tokens [] (heads.none (kind_of s is)) refl ss
  dependency_arguments (heads.plain e others) us s =
      let x = expression e us s in
      let y = dependency_arguments others x.after x.same in
      of_two x y (record { star = None; value = x.tree } ∷ y.tree) (heads.plain x.derives y.derives) (λ i. record { star = None; value = x.alike i } ∷ y.alike i)
  dependency_arguments (heads.starred {mark = t} is e others) us (cons {u = u} {us = us2} s ss) =
      let x = value e us2 ss in
      let y = dependency_arguments others x.after x.same in
      of_two x y (record { star = Some (kept'.star u.tok); value = x.tree } ∷ y.tree) (heads.starred (kind_of s is) x.derives y.derives)
      (λ i. record { star = Some (kept_alike.stars t u s i); value = x.alike i } ∷ y.alike i)

  dependency : {d : Dependency A B S} {fs : List (Noted B)} {ts rest : Tokens} → DependencyOf projection.leaf projection.position projection.star MayEnter d fs ts rest
      → (us : Tokens) → Pairs Rel ts us → DependencyCarried (λ x n r. DependencyOf kept'.leaf kept'.position kept'.star MayEnter' x n us r) d fs rest
  dependency (heads.bare p) us s =
      let x = path p us s in
      of_tokens (record { star = None; path = x.tree; arguments = [] }) (heads.bare x.derives) (λ i. record { star = None; path = x.alike i; arguments = [] }) x.same
  dependency (heads.plain is p all) us (cons {us = us2} s ss) =
      let x = path p us2 ss in
      let y = dependency_arguments all x.after x.same in
      of_one y (record { star = None; path = x.tree; arguments = y.tree }) (heads.plain (kind_of s is) x.derives y.derives)
      (λ i. record { star = None; path = x.alike i; arguments = y.alike i })
  dependency (heads.starred {mark = t} is is2 p all) us (cons {u = u} s (cons {us = us2} s2 ss)) =
      let x = path p us2 ss in
      let y = dependency_arguments all x.after x.same in
      of_one y (record { star = Some (kept'.star u.tok); path = x.tree; arguments = y.tree }) (heads.starred (kind_of s is) (kind_of s2 is2) x.derives y.derives)
      (λ i. record { star = Some (kept_alike.stars t u s i); path = x.alike i; arguments = y.alike i })

  dependencies : {ds : List (Dependency A B S)} {fs : List (Noted B)} {ts rest : Tokens} → Dependencies projection.leaf projection.position projection.star MayEnter ds fs ts rest
      → (us : Tokens) → Pairs Rel ts us → DependenciesCarried (λ x n r. Dependencies kept'.leaf kept'.position kept'.star MayEnter' x n us r) ds fs rest
  dependencies (heads.none not not2 not3) us s =
      of_tokens [] (heads.none (next_of kinds.Identifier s not) (next_of kinds.Asterisk s not2) (next_of kinds.ParenL s not3)) refl s
  dependencies (heads.more d others) us s =
      let x = dependency d us s in
      let y = dependencies others x.after x.same in
      of_two x y (x.tree ∷ y.tree) (heads.more x.derives y.derives) (λ i. x.alike i ∷ y.alike i)

  -- those before `&&`, and those after it
  record AllCarried (us : Tokens) (ds ss : List (Dependency A B S)) (fs : List (Noted B)) (rest : Tokens) : Type 0 where
    priors : List (Dependency A' B' S')
    subsequents : List (Dependency A' B' S')
    features : List (Noted B')
    after : Tokens
    derives : AllDependencies kept'.leaf kept'.position kept'.star MayEnter' priors subsequents features us after
    priors_alike : map (over_dependency m'.leaf m'.position m'.star) priors ≡ map (over_dependency m.leaf m.position m.star) ds
    subsequents_alike : map (over_dependency m'.leaf m'.position m'.star) subsequents ≡ map (over_dependency m.leaf m.position m.star) ss
    noted_alike : map (over_noted m'.position) features ≡ map (over_noted m.position) fs
    same : Pairs Rel rest after

  all_dependencies : {ds ss : List (Dependency A B S)} {fs : List (Noted B)} {ts rest : Tokens} → AllDependencies projection.leaf projection.position projection.star MayEnter ds ss fs ts rest
      → (us : Tokens) → Pairs Rel ts us → AllCarried us ds ss fs rest
  all_dependencies (heads.priors ds not) us s =
      let x = dependencies ds us s in
      record {
        priors = x.tree;
        subsequents = [];
        features = x.features;
        after = x.after;
        derives = heads.priors x.derives (next_of kinds.AmpersandAmpersand x.same not);
        priors_alike = x.alike;
        subsequents_alike = refl;
        noted_alike = x.noted_alike;
        same = x.same;
      }
  all_dependencies (heads.both {d = d} {others = others} {fs = fs} {gs = gs} ds is ss) us s =
      let x = until (dependencies ds us s) in
      let y = dependencies ss x.after x.same in
      let full = filled (over_dependency m.leaf m.position m.star) (over_dependency m'.leaf m'.position m'.star) y.tree d others y.alike in
      record {
        priors = x.tree;
        subsequents = full.one ∷ full.more;
        features = x.features ++ y.features;
        after = y.after;
        derives = heads.both x.derives (kind_of x.related is)
            (subst (λ a. Dependencies kept'.leaf kept'.position kept'.star MayEnter' a y.features x.after y.after) full.is y.derives);
        priors_alike = x.alike;
        subsequents_alike = ap (map (over_dependency m'.leaf m'.position m'.star)) (sym full.is) ∙ y.alike;
        noted_alike = both fs gs x.features y.features x.noted_alike y.noted_alike;
        same = y.same;
      }

  -- ---- headers

  abbrev HeaderCarried : (Header A' B' S' → List (Noted B') → Tokens → Type 0) → Header A B S → List (Noted B) → Tokens → Type 0
  HeaderCarried R x fs rest = Carried Rel (over_header m.leaf m.position m.star) (over_header m'.leaf m'.position m'.star) m.position m'.position R x fs rest

  named_header : {quiet : Bool} {x : Header A B S} {fs : List (Noted B)} {ts rest : Tokens} → NamedHeader projection.leaf projection.position projection.star MayEnter quiet x fs ts rest
      → (us : Tokens) → Pairs Rel ts us → HeaderCarried (λ x n r. NamedHeader kept'.leaf kept'.position kept'.star MayEnter' quiet x n us r) x fs rest
  named_header {quiet} (heads.header {fs = fs} {gs = gs} {name = t} is ps ds) us (cons {u = u} {us = us2} s ss) =
      let x = parameters ps us2 ss in
      let y = all_dependencies ds x.after x.same in
      record {
        tree = record { quiet = quiet; name = kept'.leaf u.tok; parameters = x.tree; priors = y.priors; subsequents = y.subsequents };
        features = x.features ++ y.features;
        after = y.after;
        derives = heads.header (kind_of s is) x.derives y.derives;
        alike = λ i. record { quiet = quiet; name = kept_alike.leaves t u s i; parameters = x.alike i; priors = y.priors_alike i; subsequents = y.subsequents_alike i };
        noted_alike = both fs gs x.features y.features x.noted_alike y.noted_alike;
        same = y.same;
      }

  header : {x : Header A B S} {fs : List (Noted B)} {ts rest : Tokens} → HeaderOf projection.leaf projection.position projection.star MayEnter x fs ts rest
      → (us : Tokens) → Pairs Rel ts us → HeaderCarried (λ x n r. HeaderOf kept'.leaf kept'.position kept'.star MayEnter' x n us r) x fs rest
  header (heads.quiet is e) us (cons {us = us2} s ss) =
      let x = named_header e us2 ss in rederived x (heads.quiet (kind_of s is) x.derives)
  header (heads.loud e) us s =
      let x = named_header e us s in rederived x (heads.loud x.derives)

  -- ---- parts of items

  abbrev PathCarried : (Quoted A' → Tokens → Type 0) → Quoted A → Tokens → Type 0
  PathCarried R path rest = Carried Rel (over_quoted m.leaf m.position) (over_quoted m'.leaf m'.position) m.position m'.position (λ x n r. R x r) path [] rest

  file_path : {path : Quoted A} {ts rest : Tokens} → FilePath projection.leaf path ts rest → (us : Tokens) → Pairs Rel ts us → PathCarried (λ x r. FilePath kept'.leaf x us r) path rest
  file_path (in_parts.plain {token = t} kind) us (cons {u = u} s ss) =
      of_tokens (record { expanded = false; token = kept'.leaf u.tok }) (in_parts.plain (kind_of s kind)) (λ i. record { expanded = false; token = kept_alike.leaves t u s i }) ss
  file_path (in_parts.expanded {token = t} is kind) us (cons s (cons {u = u} s2 ss)) =
      of_tokens (record { expanded = true; token = kept'.leaf u.tok }) (in_parts.expanded (word_of s is) (kind_of s2 kind))
      (λ i. record { expanded = true; token = kept_alike.leaves t u s2 i }) ss

  names : {ns : List A} {ts rest : Tokens} → Names projection.leaf ns ts rest → (us : Tokens) → Pairs Rel ts us → NamesCarried (λ x r. Names kept'.leaf x us r) ns rest
  names (in_parts.none kind) us (cons s ss) =
      of_tokens [] (in_parts.none (kind_of s kind)) refl ss
  names (in_parts.last {name = t} kind kind2) us (cons {u = u} s (cons s2 ss)) =
      of_tokens (kept'.leaf u.tok ∷ []) (in_parts.last (kind_of s kind) (kind_of s2 kind2)) (λ i. kept_alike.leaves t u s i ∷ []) ss
  names (in_parts.more {name = t} kind kind2 others) us (cons {u = u} s (cons {us = us2} s2 ss)) =
      let x = names others us2 ss in
      of_tokens (kept'.leaf u.tok ∷ x.tree) (in_parts.more (kind_of s kind) (kind_of s2 kind2) x.derives) (λ i. kept_alike.leaves t u s i ∷ x.alike i) x.same

  abbrev ValueCarried : (SettingValue A' B' → List (Noted B') → Tokens → Type 0) → SettingValue A B → List (Noted B) → Tokens → Type 0
  ValueCarried R value fs rest = Carried Rel (over_setting_value m.leaf m.position) (over_setting_value m'.leaf m'.position) m.position m'.position R value fs rest

  setting_value : {form : SettingForm} {value : SettingValue A B} {fs : List (Noted B)} {ts rest : Tokens} → ValueOf projection.leaf projection.position MayEnter form value fs ts rest
      → (us : Tokens) → Pairs Rel ts us → ValueCarried (λ x n r. ValueOf kept'.leaf kept'.position MayEnter' form x n us r) value fs rest
  setting_value (in_parts.bare ends) us s =
      of_tokens (tree.Truth true) (in_parts.bare (ends_line s ends)) refl s
  setting_value (in_parts.yes kind is) us (cons s (cons s2 ss)) = of_tokens (tree.Truth true) (in_parts.yes (kind_of s kind) (word_of s2 is)) refl ss
  setting_value (in_parts.no kind is) us (cons s (cons s2 ss)) = of_tokens (tree.Truth false) (in_parts.no (kind_of s kind) (word_of s2 is)) refl ss
  setting_value (in_parts.expression kind e) us (cons {us = us2} s ss) =
      let x = expression e us2 ss in
      of_one x (tree.Value x.tree) (in_parts.expression (kind_of s kind) x.derives) (λ i. tree.Value (x.alike i))
  setting_value (in_parts.plain kind e) us (cons {us = us2} s ss) =
      let x = expression e us2 ss in
      of_one x (tree.Value x.tree) (in_parts.plain (kind_of s kind) x.derives) (λ i. tree.Value (x.alike i))
  setting_value (in_parts.interpreter {e = e} {es = es} kind kind2 all) us (cons s (cons {us = us2} s2 ss)) =
      let x = expressions.sequence projection.leaf projection.position MayEnter Rel weak kept'.leaf kept'.position MayEnter' m.leaf m.position m'.leaf m'.position kept_alike.leaves kept_alike.positions opens all us2 ss in
      let y = first_element m.leaf m.position m'.leaf m'.position x.tree e es x.alike in
      of_one x (tree.Interpreter y.one y.others)
      (in_parts.interpreter (kind_of s kind) (kind_of s2 kind2)
      (subst (λ l. Sequence kept'.leaf kept'.position MayEnter' kinds.BracketR 0 l x.features us2 x.after) y.is x.derives))
      (λ i. interpreted ((sym (λ j. over_exprs m'.leaf m'.position (y.is j)) ∙ x.alike) i))

  -- ---- bodies, lines and items

  pub line_rest : {fragments : List (Fragment A B)} {fs : List (Noted B)} {ts rest : Tokens} → LineRest projection.leaf projection.position MayEnter fragments fs ts rest → (us : Tokens) → Pairs Rel ts us → FragmentsOf (λ x n r. LineRest kept'.leaf kept'.position MayEnter' x n us r) fragments fs rest
  line_rest (g.line_ends kind) us (cons s ss) = of_tokens [] (g.line_ends (kind_of s kind)) refl ss
  line_rest (g.body_ends kind) us (cons s ss) = of_tokens [] (g.body_ends (kind_of s kind)) refl (cons s ss)
  line_rest (g.text {token = t} kind more) us (cons {u = u} s ss) =
      let x = line_rest more _ ss in
      of_one x (tree.Text (kept'.leaf u.tok) ∷ x.tree) (g.text (kind_of s kind) x.derives) (λ i. tree.Text (kept_alike.leaves t u s i) ∷ x.alike i)
  line_rest (g.interpolation kind e kind2 more) us (cons {us = us2} s ss) =
      let x = expression e us2 ss in
      let end = first x.same in
      let y = line_rest more end.more end.others in
      of_two x y (tree.Interpolation x.tree ∷ y.tree)
      (g.interpolation (kind_of s kind) (subst (λ r. Expression kept'.leaf kept'.position MayEnter' false 0 x.tree x.features us2 r) end.is x.derives)
      (kind_of end.related kind2) y.derives)
      (λ i. tree.Interpolation (x.alike i) ∷ y.alike i)

  before_body : {comment : Option (List ℕ)} {ts rest : Tokens} → BeforeBody comment ts rest → (us : Tokens) → Pairs Rel ts us → Passed Rel (BeforeBody comment us) rest
  before_body (g.at_once kind kind2) us (cons s (cons s2 ss)) = record { after = _; derives = g.at_once (kind_of s kind) (kind_of s2 kind2); same = ss }
  before_body (g.commented {comment = t} kind kind2 kind3) us (cons {u = u} s (cons {u = newline} s2 (cons {u = indent} {us = after} s3 ss))) =
      record {
        after = after;
        derives = subst (λ text. BeforeBody (Some text) (u ∷ newline ∷ indent ∷ after) after) (comment_of t u s) (g.commented (kind_of s kind) (kind_of s2 kind2) (kind_of s3 kind3));
        same = ss;
      }

  pub body_lines : {lines : List (BodyLine A B C)} {fs : List (Noted B)} {ts rest : Tokens} → BodyLines projection MayEnter lines fs ts rest → (us : Tokens) → Pairs Rel ts us → LinesOf (λ x n r. BodyLines kept' MayEnter' x n us r) lines fs rest
  body_lines (g.no_line kind) us (cons s ss) = of_tokens [] (g.no_line (kind_of s kind)) refl ss
  body_lines (g.empty_line {token = t} kind more) us (cons {u = u} s ss) =
      let x = body_lines more _ ss in
      of_one x (Line (kept'.number u.tok) [] ∷ x.tree) (g.empty_line (kind_of s kind) x.derives) (λ i. Line (kept_alike.numbers t u s i) [] ∷ x.alike i)
  body_lines (g.some_line {f = x} {fragments = xs} {first = t} l more) us (cons {u = u} {us = us2} s ss) =
      let y = line_rest l (u ∷ us2) (cons s ss) in
      let full = filled (over_fragment m.leaf m.position) (over_fragment m'.leaf m'.position) y.tree x xs y.alike in
      let z = body_lines more y.after y.same in
      of_two y z (Line (kept'.number u.tok) (full.one ∷ full.more) ∷ z.tree)
      (g.some_line (subst (λ a. LineRest kept'.leaf kept'.position MayEnter' a y.features (u ∷ us2) y.after) full.is y.derives) z.derives)
      (λ i. Line (kept_alike.numbers t u s i) ((ap (map (over_fragment m'.leaf m'.position)) (sym full.is) ∙ y.alike) i) ∷ z.alike i)

  -- lines that are alike are alike without the empty ones at the end
  trimmed_alike : (lines : List (BodyLine A B C)) (others : List (BodyLine A' B' C')) → map (over_line m'.leaf m'.position m'.number) others ≡ map (over_line m.leaf m.position m.number) lines
      → map (over_line m'.leaf m'.position m'.number) (trimmed others) ≡ map (over_line m.leaf m.position m.number) (trimmed lines)
  trimmed_alike lines others e = sym (trimmed_over m'.leaf m'.position m'.number others) ∙ ap trimmed e ∙ trimmed_over m.leaf m.position m.number lines

  some_left : (lines : List (BodyLine A B C)) (others : List (BodyLine A' B' C')) → map (over_line m'.leaf m'.position m'.number) others ≡ map (over_line m.leaf m.position m.number) lines
      → NotEmpty (trimmed lines) → NotEmpty (trimmed others)
  some_left lines others e n =
      not_empty_before (over_line m'.leaf m'.position m'.number) (trimmed others) (subst NotEmpty (sym (trimmed_alike lines others e)) (not_empty_mapped (over_line m.leaf m.position m.number) (trimmed lines) n))

  pub on_line : {c : Content A B C S} {fs : List (Noted B)} {ts rest : Tokens} → OnLine projection MayEnter c fs ts rest → (us : Tokens) → Pairs Rel ts us → ContentOf (λ x n r. OnLine kept' MayEnter' x n us r) c fs rest
  on_line (g.alias {name = t} is kind kind2 p) us (cons s (cons {u = u} s2 (cons {us = us2} s3 ss))) =
      let x = path p us2 ss in
      of_tokens (tree.Alias (record { name = kept'.leaf u.tok; target = x.tree }))
      (g.alias (word_of s is) (kind_of s2 kind) (kind_of s3 kind2) x.derives)
      (λ i. tree.Alias (record { name = kept_alike.leaves t u s2 i; target = x.alike i })) x.same
  on_line (g.eager {name = t} is kind kind2 e) us (cons s (cons {u = u} s2 (cons s3 ss))) =
      let x = expression e _ ss in
      of_one x (tree.Assignment (assignment_of true false (kept'.leaf u.tok) x.tree))
      (g.eager (word_of s is) (kind_of s2 kind) (kind_of s3 kind2) x.derives)
      (λ i. tree.Assignment (assignment_of true false (kept_alike.leaves t u s2 i) (x.alike i)))
  on_line (g.export {name = t} is kind kind2 e) us (cons s (cons {u = u} s2 (cons s3 ss))) =
      let x = expression e _ ss in
      of_one x (tree.Assignment (assignment_of false true (kept'.leaf u.tok) x.tree))
      (g.export (word_of s is) (kind_of s2 kind) (kind_of s3 kind2) x.derives)
      (λ i. tree.Assignment (assignment_of false true (kept_alike.leaves t u s2 i) (x.alike i)))
  on_line (g.function {name = t} kind kind2 ns kind3 e) us (cons {u = u} s (cons {us = us2} s2 ss)) =
      let x = until (names ns us2 ss) in
      let y = expression e x.after x.same in
      of_one y (tree.Function (record { name = kept'.leaf u.tok; parameters = x.tree; body = y.tree }))
      (g.function (kind_of s kind) (kind_of s2 kind2) x.derives (kind_of x.related kind3) y.derives)
      (λ i. tree.Function (record { name = kept_alike.leaves t u s i; parameters = x.alike i; body = y.alike i }))
  on_line (g.import is p) us (cons {us = us2} s ss) =
      let x = file_path p us2 ss in
      of_tokens (tree.Import (record { optional = false; path = x.tree })) (g.import (word_of s is) x.derives)
      (λ i. tree.Import (record { optional = false; path = x.alike i })) x.same
  on_line (g.optional_import is kind p) us (cons s (cons {us = us2} s2 ss)) =
      let x = file_path p us2 ss in
      of_tokens (tree.Import (record { optional = true; path = x.tree })) (g.optional_import (word_of s is) (kind_of s2 kind) x.derives)
      (λ i. tree.Import (record { optional = true; path = x.alike i })) x.same
  on_line (g.module_alone {name = t} is kind ends) us (cons s (cons {u = u} s2 ss)) =
      of_tokens (tree.Module (bare_module false (kept'.leaf u.tok) None))
      (g.module_alone (word_of s is) (kind_of s2 kind) (ends_line ss ends))
      (λ i. tree.Module (bare_module false (kept_alike.leaves t u s2 i) None)) ss
  on_line (g.module_at {name = t} is kind p) us (cons s (cons {u = u} {us = us2} s2 ss)) =
      let x = file_path p us2 ss in
      of_tokens (tree.Module (bare_module false (kept'.leaf u.tok) (Some x.tree))) (g.module_at (word_of s is) (kind_of s2 kind) x.derives)
      (λ i. tree.Module (bare_module false (kept_alike.leaves t u s2 i) (Some (x.alike i)))) x.same
  on_line (g.optional_module_alone {name = t} is kind kind2 none) us (cons s (cons s2 (cons {u = u} s3 ss))) =
      of_tokens (tree.Module (bare_module true (kept'.leaf u.tok) None))
      (g.optional_module_alone (word_of s is) (kind_of s2 kind) (kind_of s3 kind2) (no_path ss none))
      (λ i. tree.Module (bare_module true (kept_alike.leaves t u s3 i) None)) ss
  on_line (g.optional_module_at {name = t} is kind kind2 p) us (cons s (cons s2 (cons {u = u} {us = us2} s3 ss))) =
      let x = file_path p us2 ss in
      of_tokens (tree.Module (bare_module true (kept'.leaf u.tok) (Some x.tree)))
      (g.optional_module_at (word_of s is) (kind_of s2 kind) (kind_of s3 kind2) x.derives)
      (λ i. tree.Module (bare_module true (kept_alike.leaves t u s3 i) (Some (x.alike i)))) x.same
  on_line (g.setting {keyword = keyword} {name = t} is is2 form value) us (cons s (cons {u = u} {us = us2} s2 ss)) =
      let x = setting_value value us2 ss in
      of_one x (tree.Setting (record { keyword = keyword; name = kept'.leaf u.tok; value = x.tree }))
      (g.setting (word_of s is) (word_of s2 is2) form x.derives)
      (λ i. tree.Setting (record { keyword = keyword; name = kept_alike.leaves t u s2 i; value = x.alike i }))
  on_line (g.unexport {name = t} is kind ends) us (cons s (cons {u = u} s2 ss)) =
      of_tokens (tree.Unexport (kept'.leaf u.tok)) (g.unexport (word_of s is) (kind_of s2 kind) (ends_line ss ends))
      (λ i. tree.Unexport (kept_alike.leaves t u s2 i)) ss
  on_line (g.assignment {name = t} kind kind2 e) us (cons {u = u} s (cons s2 ss)) =
      let x = expression e _ ss in
      of_one x (tree.Assignment (assignment_of false false (kept'.leaf u.tok) x.tree)) (g.assignment (kind_of s kind) (kind_of s2 kind2) x.derives)
      (λ i. tree.Assignment (assignment_of false false (kept_alike.leaves t u s i) (x.alike i)))
  on_line (g.header e) us s =
      let x = header e us s in
      of_one x (tree.Recipe (bare_recipe x.tree None [])) (g.header x.derives) (λ i. tree.Recipe (bare_recipe (x.alike i) None []))

  pub block : {c : Content A B C S} {fs : List (Noted B)} {ts rest : Tokens} → Block projection MayEnter c fs ts rest → (us : Tokens) → Pairs Rel ts us → ContentOf (λ x n r. Block kept' MayEnter' x n us r) c fs rest
  block (g.recipe {lines = lines} {comment = comment} e b ls some) us s =
      let w = header e us s in
      let x = before_body b w.after w.same in
      let y = body_lines ls x.after x.same in
      of_two w y (tree.Recipe (bare_recipe w.tree comment (trimmed y.tree))) (g.recipe w.derives x.derives y.derives (some_left lines y.tree y.alike some))
      (λ i. tree.Recipe (bare_recipe (w.alike i) comment (trimmed_alike lines y.tree y.alike i)))

  mutual
    pub items : {all : List (WrittenItem A B C S)} {fs : List (ConstructFeatures B)} {ts : Tokens} → Items projection MayEnter all fs ts → (us : Tokens) → Pairs Rel ts us → ItemsOf (λ x n. Items kept' MayEnter' x n us) all fs
    items (g.end kind) us (cons s nil) = record { tree = []; features = []; derives = g.end (kind_of s kind); alike = refl; noted_alike = refl }
    items (g.blank kind more) us (cons s ss) =
        let x = items more _ ss in
        record { tree = tree.Newline ∷ x.tree; features = x.features; derives = g.blank (kind_of s kind) x.derives; alike = λ i. tree.Newline ∷ x.alike i; noted_alike = x.noted_alike }
    items (g.comment {token = t} kind b) us (cons {u = u} s ss) =
        let x = following b _ ss in
        record { tree = tree.Comment (trim_end u.tok.lexeme) ∷ x.tree; features = x.features; derives = g.comment (kind_of s kind) x.derives; alike = λ i. tree.Comment (comment_of t u s i) ∷ x.alike i; noted_alike = x.noted_alike }
    items (g.on_line a o b) us s =
        let w = attribute_lines a us s in
        let x = on_line o w.after w.same in
        let y = following b x.after x.same in
        record {
          tree = Construct w.tree x.tree ∷ y.tree;
          features = record { attributes = w.features; content = x.features } ∷ y.features;
          derives = g.on_line w.derives x.derives y.derives;
          alike = λ i. Construct (w.alike i) (x.alike i) ∷ y.alike i;
          noted_alike = λ i. record { attributes = w.noted_alike i; content = x.noted_alike i } ∷ y.noted_alike i;
        }
    items (g.block a b more) us s =
        let w = attribute_lines a us s in
        let x = block b w.after w.same in
        let y = items more x.after x.same in
        record {
          tree = Construct w.tree x.tree ∷ tree.Newline ∷ y.tree;
          features = record { attributes = w.features; content = x.features } ∷ y.features;
          derives = g.block w.derives x.derives y.derives;
          alike = λ i. Construct (w.alike i) (x.alike i) ∷ tree.Newline ∷ y.alike i;
          noted_alike = λ i. record { attributes = w.noted_alike i; content = x.noted_alike i } ∷ y.noted_alike i;
        }

    pub following : {all : List (WrittenItem A B C S)} {fs : List (ConstructFeatures B)} {ts : Tokens} → ItemRest projection MayEnter all fs ts → (us : Tokens) → Pairs Rel ts us → ItemsOf (λ x n. ItemRest kept' MayEnter' x n us) all fs
    following (g.trailing {token = t} kind e) us (cons {u = u} s ss) =
        let x = line_end e _ ss in
        record { tree = tree.Comment (trim_end u.tok.lexeme) ∷ x.tree; features = x.features; derives = g.trailing (kind_of s kind) x.derives; alike = λ i. tree.Comment (comment_of t u s i) ∷ x.alike i; noted_alike = x.noted_alike }
    following (g.bare e) us s =
        let x = line_end e us s in
        record { tree = x.tree; features = x.features; derives = g.bare x.derives; alike = x.alike; noted_alike = x.noted_alike }

    pub line_end : {all : List (WrittenItem A B C S)} {fs : List (ConstructFeatures B)} {ts : Tokens} → LineEnd projection MayEnter all fs ts → (us : Tokens) → Pairs Rel ts us → ItemsOf (λ x n. LineEnd kept' MayEnter' x n us) all fs
    line_end (g.line_end kind more) us (cons s ss) =
        let x = items more _ ss in
        record { tree = tree.Newline ∷ x.tree; features = x.features; derives = g.line_end (kind_of s kind) x.derives; alike = λ i. tree.Newline ∷ x.alike i; noted_alike = x.noted_alike }
    line_end (g.file_end kind) us (cons s nil) = record { tree = []; features = []; derives = g.file_end (kind_of s kind); alike = refl; noted_alike = refl }

  pub file : {all : List (WrittenItem A B C S)} {fs : List (ConstructFeatures B)} {ts : Tokens} → File projection MayEnter all fs ts → (us : Tokens) → Pairs Rel ts us → ItemsOf (λ x n. File kept' MayEnter' x n us) all fs
  file (g.with_byte_order_mark kind more) us (cons s ss) =
      let x = items more _ ss in
      record { tree = x.tree; features = x.features; derives = g.with_byte_order_mark (kind_of s kind) x.derives; alike = x.alike; noted_alike = x.noted_alike }
  file (g.without_byte_order_mark more) us s =
      let x = items more us s in
      record { tree = x.tree; features = x.features; derives = g.without_byte_order_mark x.derives; alike = x.alike; noted_alike = x.noted_alike }
