-- Two parsers with related tokens and leaves: the results and the states of one are related to those of the other. `Relations` has the
-- relations of tokens and leaves, from which the others follow.
use Rattle.std.specs.Option.{option_map}
use Rattle.std.specs.Str.{trim_end}
use Rattle.std.proofs.Common.{◌≡◌, ◌⊎◌, ℕ, suc, ◌+◌, ◌≤◌, Bool, true, false, ◌&&◌, cond, List, [], ◌∷◌, ◌++◌, length, Option, Some, None, Result, Ok, Err, refl, ap, subst, inl, inr, arith, ◌-◌, nat_lt}
use Rattle.std.proofs.lemmas.Bool.Decides.{nat_tests}
use Rattle.justfile_vocabulary.specs.declared.keyword.Keyword.{Keyword}
use Rattle.justfile_vocabulary.specs.declared.token_kind.TokenKind.{TokenKind}
use Rattle.justfile_model.specs.declared.conditional_operator.ConditionalOperator.{ConditionalOperator}
use Rattle.justfile_model.specs.declared.level.Level.{Level}
use Rattle.justfile_model.specs.declared.level.Level.TheVariants as levels
use Rattle.justfile_vocabulary.specs.declared.list_feature.ListFeature.{ListFeature}
use Rattle.justfile_model.specs.declared.operator.Operator.{Operator}
use Rattle.justfile_model.specs.declared.operator.Operator.TheVariants as operators
use Rattle.justfile_model.specs.Grammars.Conditions.{Conditions}
use Rattle.justfile_model.specs.Readers.ExpressionReader.{Met, accept_operator, by_text, closed, cooked, is_within, met_at, opened, operator_by}
use Rattle.justfile_model.specs.Grammars.Expressions.{ends_open, front}
use Rattle.justfile_model.specs.Grammars.Features.{Noted, noted_if, uncompared_feature}
use Rattle.justfile_model.specs.LiteralTexts.Literals as literals
use Rattle.justfile_model.specs.LiteralTexts.Literals.{Expansions, Literal, LiteralFault, cooked_text, string_of, token_of}
use Rattle.justfile_model.specs.Trees.Operators.{binary, is_at, operator_of}
use Rattle.justfile_model.specs.Readers.Reader.{has_body}
use Rattle.justfile_model.specs.Readers.ReaderState.{◌>>=◌, AfterVariadic, BreaksRule, Counters, ExpectedKeyword, Extraneous, Leaves, NoNumber, NotCooked, Read, ReadError, State, Taken, TooDeep, Unexpected, UnknownSetting, accept, accept_by, accept_marked, accept_keyword, at, begin_with, choose, comment_in, expect, is_word, marked_by, marks, next_are, refused, same_kind, with}
use Rattle.justfile_model.specs.Meanings.Rules.{Broken}
use Rattle.justfile_model.specs.Lexing.SignificantTokens.{SignificantToken}
use Rattle.justfile_model.specs.Trees.Tree as tree
use Rattle.justfile_model.specs.Trees.Tree.{ArgumentRules, BodyLine, Bound, Construct, Dependency, DependencyArgument, Expr, Exprs, Fragment, Header, Item, Line, OptionName, Parameter, Parts, Property, Quoted, SettingValue, bare_module, bare_recipe, line_before, assignment_of, trimmed}
use Rattle.justfile_model.proofs.Relations.AlikeRules.{AlikeBroken}
use Rattle.justfile_model.proofs.Readers.Counters.{count}

-- the relations of the fixed parts, tokens, leaves and positions of two parsers
pub record Relations (R T A B S D R' T' A' B' S' D' : Type 0) : Type 1 where
  pub run : R → R' → Type 0
  -- more expressions may be open in the other, so that it may read what is too deep in the one
  pub looser : Type 0
  pub token : T → T' → Type 0
  pub position : B → B' → Type 0
  -- variables, and names of called functions
  pub name : A → A' → Type 0
  -- a literal, by its kind and its lexemes
  pub literal : Literal (List ℕ) → A → A' → Type 0
  -- texts of bodies
  pub text : A → A' → Type 0
  -- stars, and attributes
  pub star : S → S' → Type 0
  pub attributes : D → D' → Type 0
  -- the names of assignments, of parameters of functions, and of recipes before their bodies, which got this number
  pub assignment : (number : ℕ) → A → A' → Type 0
  pub function_parameter : (number : ℕ) → A → A' → Type 0
  pub recipe : (number : ℕ) → A → List (BodyLine A B ℕ) → A' → List (BodyLine A' B' ℕ) → Type 0
  -- the names of parameters, with what `arg` attributes set for them and with this number
  pub parameter : (number : ℕ) → A → Option (ArgumentRules A B) → A' → Option (ArgumentRules A' B') → Type 0

-- as many of each, one related to the other
pub data Each {X Y : Type 0} (Rel : X → Y → Type 0) : List X → List Y → Type 0 where
  nil : Each Rel [] []
  cons : {x : X} {y : Y} {xs : List X} {ys : List Y} → Rel x y → Each Rel xs ys → Each Rel (x ∷ xs) (y ∷ ys)

-- neither, or both and they are related
pub data AlikeOption {X Y : Type 0} (Rel : X → Y → Type 0) : Option X → Option Y → Type 0 where
  absent : AlikeOption Rel None None
  present : {x : X} {y : Y} → Rel x y → AlikeOption Rel (Some x) (Some y)

pub each_both : {X Y : Type 0} {Rel : X → Y → Type 0} {xs zs : List X} {ys us : List Y} → Each Rel xs ys → Each Rel zs us → Each Rel (xs ++ zs) (ys ++ us)
each_both nil k = k
each_both (cons h hs) k = cons h (each_both hs k)

pub each_length : {X Y : Type 0} {Rel : X → Y → Type 0} {xs : List X} {ys : List Y} → Each Rel xs ys → length xs ≡ length ys
each_length nil = refl
each_length (cons h hs) = ap suc (each_length hs)

module _ {R T A B S D R' T' A' B' S' D' : Type 0} (rel : Relations R T A B S D R' T' A' B' S' D') where
  -- ---- trees

  mutual
    pub data Alike : Expr A B → Expr A' B' → Type 0 where
      or : {l r : Expr A B} {l' r' : Expr A' B'} → Alike l l' → Alike r r' → Alike (tree.Or l r) (tree.Or l' r')
      and : {l r : Expr A B} {l' r' : Expr A' B'} → Alike l l' → Alike r r' → Alike (tree.And l r) (tree.And l' r')
      comparison : {l r : Expr A B} {l' r' : Expr A' B'} {by : ConditionalOperator} {b : B} {b' : B'} → Alike l l' → rel.position b b' → Alike r r' → Alike (tree.Comparison l by b r) (tree.Comparison l' by b' r')
      concatenation : {l r : Expr A B} {l' r' : Expr A' B'} {b : B} {b' : B'} → Alike l l' → rel.position b b' → Alike r r' → Alike (tree.Concatenation l b r) (tree.Concatenation l' b' r')
      list_concatenation : {l r : Expr A B} {l' r' : Expr A' B'} {b : B} {b' : B'} → Alike l l' → rel.position b b' → Alike r r' → Alike (tree.ListConcatenation l b r) (tree.ListConcatenation l' b' r')
      join : {l r : Expr A B} {l' r' : Expr A' B'} {b : B} {b' : B'} → Alike l l' → rel.position b b' → Alike r r' → Alike (tree.Join l b r) (tree.Join l' b' r')
      root : {r : Expr A B} {r' : Expr A' B'} {b : B} {b' : B'} → rel.position b b' → Alike r r' → Alike (tree.Root b r) (tree.Root b' r')
      if_only : {c e : Expr A B} {c' e' : Expr A' B'} → Alike c c' → Alike e e' → Alike (tree.If c e) (tree.If c' e')
      if_else : {c e o : Expr A B} {c' e' o' : Expr A' B'} → Alike c c' → Alike e e' → Alike o o' → Alike (tree.IfElse c e o) (tree.IfElse c' e' o')
      not : {e : Expr A B} {e' : Expr A' B'} → Alike e e' → Alike (tree.Not e) (tree.Not e')
      string : {expanded : Bool} (lexeme : List ℕ) {a : A} {a' : A'} → rel.literal (string_of expanded lexeme) a a' → Alike (tree.StringLiteral expanded a) (tree.StringLiteral expanded a')
      format_literal : (lexeme : List ℕ) {a : A} {a' : A'} → rel.literal (literals.Single lexeme) a a' → Alike (tree.FormatLiteral a) (tree.FormatLiteral a')
      format_string : (lexeme : List ℕ) {a : A} {a' : A'} {e : Expr A B} {e' : Expr A' B'} {ps : Parts A B} {ps' : Parts A' B'} → rel.literal (literals.Start lexeme) a a' → Alike e e' → AlikeParts lexeme ps ps'
          → Alike (tree.FormatString a e ps) (tree.FormatString a' e' ps')
      backtick : (lexeme : List ℕ) {a : A} {a' : A'} → rel.literal (literals.Command lexeme) a a' → Alike (tree.Backtick a) (tree.Backtick a')
      assert : {b : B} {b' : B'} {c : Expr A B} {c' : Expr A' B'} → rel.position b b' → Alike c c' → Alike (tree.Assert b c) (tree.Assert b' c')
      assert_message : {b : B} {b' : B'} {c m : Expr A B} {c' m' : Expr A' B'} → rel.position b b' → Alike c c' → Alike m m' → Alike (tree.AssertMessage b c m) (tree.AssertMessage b' c' m')
      variable : {a : A} {a' : A'} → rel.name a a' → Alike (tree.Variable a) (tree.Variable a')
      call : {a : A} {a' : A'} {es : Exprs A B} {es' : Exprs A' B'} → rel.name a a' → AlikeAll es es' → Alike (tree.Call a es) (tree.Call a' es')
      group : {e : Expr A B} {e' : Expr A' B'} → Alike e e' → Alike (tree.Group e) (tree.Group e')
      list : {b : B} {b' : B'} {es : Exprs A B} {es' : Exprs A' B'} → rel.position b b' → AlikeAll es es' → Alike (tree.ListOf b es) (tree.ListOf b' es')

    pub data AlikeAll : Exprs A B → Exprs A' B' → Type 0 where
      none : AlikeAll tree.none tree.none
      more : {e : Expr A B} {e' : Expr A' B'} {es : Exprs A B} {es' : Exprs A' B'} → Alike e e' → AlikeAll es es' → AlikeAll (tree.more e es) (tree.more e' es')

    -- parts of a format string that starts so
    pub data AlikeParts : (start : List ℕ) → Parts A B → Parts A' B' → Type 0 where
      last : {start : List ℕ} (lexeme : List ℕ) {a : A} {a' : A'} → rel.literal (literals.End start lexeme) a a' → AlikeParts start (tree.Last a) (tree.Last a')
      continue : {start : List ℕ} (lexeme : List ℕ) {a : A} {a' : A'} {e : Expr A B} {e' : Expr A' B'} {ps : Parts A B} {ps' : Parts A' B'} → rel.literal (literals.Continue start lexeme) a a' → Alike e e'
          → AlikeParts start ps ps' → AlikeParts start (tree.Continue a e ps) (tree.Continue a' e' ps')

  pub data AlikeFragment : Fragment A B → Fragment A' B' → Type 0 where
    a_text : {a : A} {a' : A'} → rel.text a a' → AlikeFragment (tree.Text a) (tree.Text a')
    a_value : {e : Expr A B} {e' : Expr A' B'} → Alike e e' → AlikeFragment (tree.Interpolation e) (tree.Interpolation e')

  pub data AlikeLine : BodyLine A B ℕ → BodyLine A' B' ℕ → Type 0 where
    line : {number : ℕ} {fs : List (Fragment A B)} {fs' : List (Fragment A' B')} → Each AlikeFragment fs fs' → AlikeLine (Line number fs) (Line number fs')

  -- ---- what `arg` attributes set for parameters

  pub record AlikeQuoted (q : Quoted A) (q' : Quoted A') : Type 0 where
    pub expanded : q.expanded ≡ q'.expanded
    pub lexeme : List ℕ
    pub token : rel.literal (string_of q.expanded lexeme) q.token q'.token

  pub data AlikeOptionName : OptionName A B → OptionName A' B' → Type 0 where
    no_option : AlikeOptionName tree.NoOption tree.NoOption
    own_name : {k : B} {k' : B'} → rel.position k k' → AlikeOptionName (tree.OwnName k) (tree.OwnName k')
    option_named : {q : Quoted A} {q' : Quoted A'} → AlikeQuoted q q' → AlikeOptionName (tree.Named q) (tree.Named q')

  pub record AlikeProperty (p : Property A B) (p' : Property A' B') : Type 0 where
    pub key : rel.position p.key p'.key
    pub value : Alike p.value p'.value

  pub record AlikeBound (b : Bound B) (b' : Bound B') : Type 0 where
    pub key : rel.position b.key b'.key
    pub number : b.number ≡ b'.number

  pub record AlikeArgumentRules (r : ArgumentRules A B) (r' : ArgumentRules A' B') : Type 0 where
    pub flag : AlikeOption rel.position r.flag r'.flag
    pub help : AlikeOption AlikeProperty r.help r'.help
    pub long : AlikeOptionName r.long r'.long
    pub max : AlikeOption AlikeBound r.max r'.max
    pub min : AlikeOption AlikeBound r.min r'.min
    pub multiple : AlikeOption rel.position r.multiple r'.multiple
    pub name : AlikeQuoted r.name r'.name
    pub pattern : AlikeOption AlikeProperty r.pattern r'.pattern
    pub short : AlikeOptionName r.short r'.short
    pub value : AlikeOption Alike r.value r'.value

  -- ---- headers

  -- a parameter with this number
  pub record AlikeParameter (number : ℕ) (p : Parameter A B) (p' : Parameter A' B') : Type 0 where
    pub kind : p.kind ≡ p'.kind
    pub export : p.export ≡ p'.export
    -- the `arg` attribute of the parameter, if there is one
    pub rules : Option (ArgumentRules A B)
    pub others : Option (ArgumentRules A' B')
    pub ruled : AlikeOption AlikeArgumentRules rules others
    pub name : rel.parameter number p.name rules p'.name others
    pub default : AlikeOption Alike p.default p'.default

  -- parameters, of which the first has this number
  pub data AlikeParameters : (number : ℕ) → List (Parameter A B) → List (Parameter A' B') → Type 0 where
    no_parameter : {number : ℕ} → AlikeParameters number [] []
    a_parameter : {number : ℕ} {p : Parameter A B} {p' : Parameter A' B'} {ps : List (Parameter A B)} {ps' : List (Parameter A' B')}
        → AlikeParameter number p p' → AlikeParameters (number + 1) ps ps' → AlikeParameters number (p ∷ ps) (p' ∷ ps')

  -- an argument of a dependency, whose star is kept in any way
  pub record AlikeDependencyArgument {X X' : Type 0} (Star : X → X' → Type 0) (d : DependencyArgument A B X) (d' : DependencyArgument A' B' X') : Type 0 where
    pub star : AlikeOption Star d.star d'.star
    pub value : Alike d.value d'.value

  pub record AlikeDependency (d : Dependency A B S) (d' : Dependency A' B' S') : Type 0 where
    pub star : AlikeOption rel.star d.star d'.star
    pub path : Each rel.name d.path d'.path
    pub arguments : Each (AlikeDependencyArgument rel.star) d.arguments d'.arguments

  -- a header before a body, from these counters
  pub record AlikeHeader (n : Counters) (h : Header A B S) (body : List (BodyLine A B ℕ)) (h' : Header A' B' S') (body' : List (BodyLine A' B' ℕ)) : Type 0 where
    pub quiet : h.quiet ≡ h'.quiet
    pub name : rel.recipe n.recipes h.name body h'.name body'
    pub parameters : AlikeParameters n.bindings h.parameters h'.parameters
    pub priors : Each AlikeDependency h.priors h'.priors
    pub subsequents : Each AlikeDependency h.subsequents h'.subsequents

  -- ---- items

  -- the parameters of a function, of which the first has this number
  pub data AlikeNames : (number : ℕ) → List A → List A' → Type 0 where
    no_name : {number : ℕ} → AlikeNames number [] []
    a_name : {number : ℕ} {a : A} {a' : A'} {names : List A} {names' : List A'} → rel.function_parameter number a a' → AlikeNames (number + 1) names names'
        → AlikeNames number (a ∷ names) (a' ∷ names')

  pub data AlikeValue : SettingValue A B → SettingValue A' B' → Type 0 where
    truth : {value : Bool} → AlikeValue (tree.Truth value) (tree.Truth value)
    value : {e : Expr A B} {e' : Expr A' B'} → Alike e e' → AlikeValue (tree.Value e) (tree.Value e')
    interpreter : {e : Expr A B} {e' : Expr A' B'} {es : Exprs A B} {es' : Exprs A' B'} → Alike e e' → AlikeAll es es'
        → AlikeValue (tree.Interpreter e es) (tree.Interpreter e' es')

  -- an item, from these counters
  pub data AlikeItem (n : Counters) : Item A B ℕ S D → Item A' B' ℕ S' D' → Type 0 where
    newline : AlikeItem n tree.Newline tree.Newline
    comment : {text : List ℕ} → AlikeItem n (tree.Comment text) (tree.Comment text)
    alias : {d : D} {d' : D'} {a : A} {a' : A'} {target : List A} {target' : List A'} → rel.attributes d d' → rel.name a a' → Each rel.name target target'
        → AlikeItem n (Construct d (tree.Alias (record { name = a; target = target }))) (Construct d' (tree.Alias (record { name = a'; target = target' })))
    assignment : {eager export : Bool} {d : D} {d' : D'} {a : A} {a' : A'} {e : Expr A B} {e' : Expr A' B'} → rel.attributes d d' → rel.assignment n.bindings a a' → Alike e e'
        → AlikeItem n (Construct d (tree.Assignment (assignment_of eager export a e))) (Construct d' (tree.Assignment (assignment_of eager export a' e')))
    function : {d : D} {d' : D'} {a : A} {a' : A'} {ps : List A} {ps' : List A'} {e : Expr A B} {e' : Expr A' B'} → rel.attributes d d' → rel.name a a' → AlikeNames n.bindings ps ps' → Alike e e'
        → AlikeItem n (Construct d (tree.Function (record { name = a; parameters = ps; body = e }))) (Construct d' (tree.Function (record { name = a'; parameters = ps'; body = e' })))
    import : {optional : Bool} {d : D} {d' : D'} {q : Quoted A} {q' : Quoted A'} → rel.attributes d d' → AlikeQuoted q q'
        → AlikeItem n (Construct d (tree.Import (record { optional = optional; path = q }))) (Construct d' (tree.Import (record { optional = optional; path = q' })))
    module_of : {optional : Bool} {d : D} {d' : D'} {a : A} {a' : A'} {o : Option (Quoted A)} {o' : Option (Quoted A')} → rel.attributes d d' → rel.name a a' → AlikeOption AlikeQuoted o o'
        → AlikeItem n (Construct d (tree.Module (bare_module optional a o))) (Construct d' (tree.Module (bare_module optional a' o')))
    setting : {keyword : Keyword} {d : D} {d' : D'} {a : A} {a' : A'} {v : SettingValue A B} {v' : SettingValue A' B'} → rel.attributes d d' → rel.name a a' → AlikeValue v v'
        → AlikeItem n (Construct d (tree.Setting (record { keyword = keyword; name = a; value = v }))) (Construct d' (tree.Setting (record { keyword = keyword; name = a'; value = v' })))
    unexport : {d : D} {d' : D'} {a : A} {a' : A'} → rel.attributes d d' → rel.name a a' → AlikeItem n (Construct d (tree.Unexport a)) (Construct d' (tree.Unexport a'))
    recipe : {d : D} {d' : D'} {h : Header A B S} {h' : Header A' B' S'} {comment comment' : Option (List ℕ)} {body : List (BodyLine A B ℕ)} {body' : List (BodyLine A' B' ℕ)} → rel.attributes d d' → AlikeHeader n h body h' body'
        → comment ≡ comment' → Each AlikeLine body body'
        → AlikeItem n (Construct d (tree.Recipe (bare_recipe h comment body))) (Construct d' (tree.Recipe (bare_recipe h' comment' body')))

  -- items, from these counters
  pub data AlikeItems : Counters → List (Item A B ℕ S D) → List (Item A' B' ℕ S' D') → Type 0 where
    no_item : {n : Counters} → AlikeItems n [] []
    an_item : {n : Counters} {i : Item A B ℕ S D} {i' : Item A' B' ℕ S' D'} {is : List (Item A B ℕ S D)} {is' : List (Item A' B' ℕ S' D')} → AlikeItem n i i' → AlikeItems (count n i) is is' → AlikeItems n (i ∷ is) (i' ∷ is')

  -- both trees have the same properties

  pub same_uncompared : {e : Expr A B} {e' : Expr A' B'} → Alike e e' → uncompared_feature e ≡ uncompared_feature e'
  same_uncompared (comparison l b r) = refl
  same_uncompared _ = refl

  pub same_ends : {e : Expr A B} {e' : Expr A' B'} → Alike e e' → ends_open e ≡ ends_open e'
  same_ends (if_else c e o) = same_ends o
  same_ends _ = refl

  pub same_body : {n : Counters} {i : Item A B ℕ S D} {i' : Item A' B' ℕ S' D'} → AlikeItem n i i' → has_body i ≡ has_body i'
  same_body (recipe d a e nil) = refl
  same_body (recipe d a e (cons l ls)) = refl
  same_body _ = refl

  before_alike : {l : BodyLine A B ℕ} {l' : BodyLine A' B' ℕ} {ls : List (BodyLine A B ℕ)} {ls' : List (BodyLine A' B' ℕ)} → AlikeLine l l' → Each AlikeLine ls ls' → Each AlikeLine (line_before l ls) (line_before l' ls')
  before_alike (line nil) nil = nil
  before_alike (line nil) (cons k ks) = cons (line nil) (cons k ks)
  before_alike (line (cons f fs)) ks = cons (line (cons f fs)) ks

  pub trimmed_alike : {ls : List (BodyLine A B ℕ)} {ls' : List (BodyLine A' B' ℕ)} → Each AlikeLine ls ls' → Each AlikeLine (trimmed ls) (trimmed ls')
  trimmed_alike nil = nil
  trimmed_alike (cons l ls) = before_alike l (trimmed_alike ls)

  pub binary_alike : (o : Operator) {l r : Expr A B} {l' r' : Expr A' B'} {b : B} {b' : B'} → Alike l l' → rel.position b b' → Alike r r' → Alike (binary o l b r) (binary o l' b' r')
  binary_alike operators.Or l b r = or l r
  binary_alike operators.And l b r = and l r
  binary_alike (operators.Compare by) l b r = comparison l b r
  binary_alike operators.Join l b r = join l b r
  binary_alike operators.ListConcatenation l b r = list_concatenation l b r
  binary_alike operators.Concatenation l b r = concatenation l b r

  -- ---- states

  abbrev pub AlikeNoted : Noted B → Noted B' → Type 0
  AlikeNoted x y = (x.0 ≡ y.0) × rel.position x.1 y.1

  pub record States (s : State R T B) (s' : State R' T' B') : Type 0 where
    pub run : rel.run s.run s'.run
    pub depth : s.depth ≡ s'.depth
    pub left : Each rel.token s.left s'.left
    pub noted : Each AlikeNoted s.noted s'.noted

  pub at_alike : {s : State R T B} {s' : State R' T' B'} {ts : List T} {ts' : List T'} → States s s' → Each rel.token ts ts' → States (at s ts) (at s' ts')
  at_alike h k = record { run = h.run; depth = h.depth; left = k; noted = h.noted }

  pub with_alike : {s : State R T B} {s' : State R' T' B'} {fs : List (Noted B)} {fs' : List (Noted B')} → Each AlikeNoted fs fs' → States s s' → States (with fs s) (with fs' s')
  with_alike k h = record { run = h.run; depth = h.depth; left = h.left; noted = each_both h.noted k }

  pub one_noted : (feature : ListFeature) {b : B} {b' : B'} → rel.position b b' → Each AlikeNoted ((feature, b) ∷ []) ((feature, b') ∷ [])
  one_noted feature h = cons (refl, h) nil

  same_feature : (f g : ListFeature) → ◌≡◌ {A = Option ListFeature} (Some f) (Some g) → f ≡ g
  same_feature f g e = cc

  pub noted_if_alike : (f g : Option ListFeature) {b : B} {b' : B'} → f ≡ g → rel.position b b' → Each AlikeNoted (noted_if f b) (noted_if g b')
  noted_if_alike None None e h = nil
  noted_if_alike (Some f) (Some g) e h = cons (same_feature f g e, h) nil
  noted_if_alike _ _ e h = cc

  pub opened_alike : (k : Level) {s : State R T B} {s' : State R' T' B'} → States s s' → States (opened k s) (opened k s')
  opened_alike levels.Expression h = record { run = h.run; depth = ap (λ n. n + 1) h.depth; left = h.left; noted = h.noted }
  opened_alike levels.Disjunct h = h
  opened_alike _ h = h

  pub closed_alike : (k : Level) {s : State R T B} {s' : State R' T' B'} → States s s' → States (closed k s) (closed k s')
  closed_alike levels.Expression h = record { run = h.run; depth = ap (λ n. n - 1) h.depth; left = h.left; noted = h.noted }
  closed_alike levels.Disjunct h = h
  closed_alike _ h = h

  -- the limit is the same, or the other's is greater where that may be; all else is the same
  pub record AlikeConditions (c c' : Conditions) : Type 0 where
    pub limit : (c.limit ≡ c'.limit) ⊎ (rel.looser × (c.limit ≤ c'.limit))
    pub expander : c.expander ≡ c'.expander
    pub current : c.current ≡ c'.current

  -- ---- results

  pub data AlikeNext : Option T → Option T' → Type 0 where
    no_next : AlikeNext None None
    a_next : {t : T} {t' : T'} → rel.token t t' → AlikeNext (Some t) (Some t')

  pub front_alike : {ts : List T} {ts' : List T'} → Each rel.token ts ts' → AlikeNext (front ts) (front ts')
  front_alike nil = no_next
  front_alike (cons h hs) = a_next h

  pub data ReadErrors : ReadError T B → ReadError T' B' → Type 0 where
    unexpected : {o : Option T} {o' : Option T'} → AlikeNext o o' → ReadErrors (Unexpected o) (Unexpected o')
    too_deep : {o : Option T} {o' : Option T'} → AlikeNext o o' → ReadErrors (TooDeep o) (TooDeep o')
    not_cooked : {fault : LiteralFault} {b : B} {b' : B'} → rel.position b b' → ReadErrors (NotCooked fault b) (NotCooked fault b')
    breaks : {r : Broken B} {r' : Broken B'} → AlikeBroken rel.position r r' → ReadErrors (BreaksRule r) (BreaksRule r')
    after_variadic : {b : B} {b' : B'} → rel.position b b' → ReadErrors (AfterVariadic b) (AfterVariadic b')
    extraneous : {count count' : ℕ} {b : B} {b' : B'} → count ≡ count' → rel.position b b' → ReadErrors (Extraneous count b) (Extraneous count' b')
    unknown_setting : {b : B} {b' : B'} → rel.position b b' → ReadErrors (UnknownSetting b) (UnknownSetting b')
    expected_keyword : {expected : List Keyword} {b : B} {b' : B'} → rel.position b b' → ReadErrors (ExpectedKeyword expected b) (ExpectedKeyword expected b')

  -- Both succeed with related results, or fail for the same reason. If the first has no number left, `Short` holds for the second. If an
  -- expression is too deep in the first, and the second can have a greater limit, nothing is known of the second.
  pub data Related {X Y : Type 0} (Q : X → Y → Type 0) (Short : Counters → Read R' T' B' Y → Type 0) : Read R T B X → Read R' T' B' Y → Type 0 where
    both : {x : X × State R T B} {y : Y × State R' T' B'} → Q x.0 y.0 → States x.1 y.1 → Related Q Short (Ok x) (Ok y)
    neither : {e : ReadError T B} {e' : ReadError T' B'} → ReadErrors e e' → Related Q Short (Err e) (Err e')
    short : {n : Counters} {found : Read R' T' B' Y} → Short n found → Related Q Short (Err (NoNumber n)) found
    deep : {o : Option T} {found : Read R' T' B' Y} → rel.looser → Related Q Short (Err (TooDeep o)) found

  -- no number is drawn
  abbrev pub Never : {Y : Type 0} → Counters → Read R' T' B' Y → Type 0
  Never n found = ⊥

  -- a step, in which no number is drawn, and those after it
  pub bind : {X X' Y Y' : Type 0} {Q : X → X' → Type 0} {P : Y → Y' → Type 0} {Short : Counters → Read R' T' B' Y' → Type 0} {found : Read R T B X} {found' : Read R' T' B' X'} (f : X × State R T B → Read R T B Y) (f' : X' × State R' T' B' → Read R' T' B' Y')
      → Related Q Never found found' → ((x : X × State R T B) (y : X' × State R' T' B') → Q x.0 y.0 → States x.1 y.1 → Related P Short (f x) (f' y)) → Related P Short (found >>= f) (found' >>= f')
  bind f f' (both {x = x} {y = y} q h) k = k x y q h
  bind f f' (neither h) k = neither h
  bind f f' (short h) k = absurd h
  bind f f' (deep loose) k = deep loose

  -- steps one after another are alike, also where numbers are drawn in the first
  pub bind_short : {X X' Y Y' : Type 0} {Q : X → X' → Type 0} {P : Y → Y' → Type 0} {First : Counters → Read R' T' B' X' → Type 0} {Short : Counters → Read R' T' B' Y' → Type 0} {found : Read R T B X} {found' : Read R' T' B' X'}
      (f : X × State R T B → Read R T B Y) (f' : X' × State R' T' B' → Read R' T' B' Y')
      → Related Q First found found' → ((n : Counters) → First n found' → Short n (found' >>= f')) → ((x : X × State R T B) (y : X' × State R' T' B') → found ≡ Ok x → found' ≡ Ok y → Q x.0 y.0 → States x.1 y.1 → Related P Short (f x) (f' y))
      → Related P Short (found >>= f) (found' >>= f')
  bind_short f f' (both {x = x} {y = y} q h) lacks k = k x y refl refl q h
  bind_short f f' (neither h) lacks k = neither h
  bind_short f f' (short {n = n} h) lacks k = short (lacks n h)
  bind_short f f' (deep loose) lacks k = deep loose

  pub weaken : {X Y : Type 0} {Q P : X → Y → Type 0} {Short Other : Counters → Read R' T' B' Y → Type 0} {found : Read R T B X} {found' : Read R' T' B' Y} → ((x : X) (y : Y) → Q x y → P x y) → ((n : Counters) → Short n found' → Other n found')
      → Related Q Short found found' → Related P Other found found'
  weaken f g (both {x = x} {y = y} q h) = both (f x.0 y.0 q) h
  weaken f g (neither h) = neither h
  weaken f g (short {n = n} h) = short (g n h)
  weaken f g (deep loose) = deep loose

  pub by_tests : {X Y : Type 0} {Q : X → Y → Type 0} {Short : Counters → Read R' T' B' Y → Type 0} (b b' : Bool) {x y : Read R T B X} {x' y' : Read R' T' B' Y} → b ≡ b' → Related Q Short x x' → Related Q Short y y' → Related Q Short (cond b x y) (cond b' x' y')
  by_tests true true e h k = h
  by_tests false false e h k = k
  by_tests _ _ e h k = cc

  -- a number is drawn by both, or the first has none
  pub draw : {V V' X Y : Type 0} {Q : X → Y → Type 0} {Short : Counters → Read R' T' B' Y → Type 0} (b b' : Bool) (n : Counters) (v : V × State R T B) (v' : V' × State R' T' B')
      (f : V × State R T B → Read R T B X) (f' : V' × State R' T' B' → Read R' T' B' Y) → (b ≡ true → b' ≡ true) → Related Q Short (f v) (f' v')
      → (b ≡ false → b' ≡ true → Short n (f' v')) → (b ≡ false → b' ≡ false → Short n (Err (NoNumber n)))
      → Related Q Short (cond b (Ok v) (Err (NoNumber n)) >>= f) (cond b' (Ok v') (Err (NoNumber n)) >>= f')
  draw true true n v v' f f' has h first second = h
  draw true false n v v' f f' has h first second = let left = has refl in cc
  draw false true n v v' f f' has h first second = short (first refl refl)
  draw false false n v v' f f' has h first second = short (second refl refl)

  -- an expression that is entered within the limit, or is too deep
  module _ {X Y : Type 0} {Q : X → Y → Type 0} {Short : Counters → Read R' T' B' Y → Type 0} {x : Read R T B X} {x' : Read R' T' B' Y} {s : State R T B} {s' : State R' T' B'} (h : States s s') (inside : Related Q Short x x') where
    too_deep_alike : Related Q Short (Err (refused TooDeep s)) (Err (refused TooDeep s'))
    unfolding refused
    too_deep_alike = neither (too_deep (front_alike h.left))

    looser_tests : (b b' : Bool) → rel.looser → (b ≡ true → b' ≡ true) → Related Q Short (cond b x (Err (refused TooDeep s))) (cond b' x' (Err (refused TooDeep s')))
    unfolding refused
    looser_tests true true loose both_are = inside
    looser_tests true false loose both_are = let e = both_are refl in cc
    looser_tests false b' loose both_are = deep loose

    still_below : (d d' limit limit' : ℕ) → d ≡ d' → limit ≤ limit' → nat_lt d limit ≡ true → nat_lt d' limit' ≡ true
    still_below d d' limit limit' e le h = grind (arith, nat_tests, e, le, h)

    by_limit : (limit limit' : ℕ) → (limit ≡ limit') ⊎ (rel.looser × (limit ≤ limit'))
        → Related Q Short (cond (nat_lt s.depth limit) x (Err (refused TooDeep s))) (cond (nat_lt s'.depth limit') x' (Err (refused TooDeep s')))
    by_limit limit limit' (inl e) = by_tests (nat_lt s.depth limit) (nat_lt s'.depth limit') (λ i. nat_lt (h.depth i) (e i)) inside too_deep_alike
    by_limit limit limit' (inr le) = looser_tests (nat_lt s.depth limit) (nat_lt s'.depth limit') le.0 (still_below s.depth s'.depth limit limit' h.depth le.1)

    pub entered : (c c' : Conditions) (k : Level) → AlikeConditions c c'
        → Related Q Short (cond (is_within c.limit k s) x (Err (refused TooDeep s))) (cond (is_within c'.limit k s') x' (Err (refused TooDeep s')))
    entered c c' levels.Expression e = by_limit c.limit c'.limit e.limit
    entered c c' levels.Disjunct e = inside
    entered c c' _ e = inside

  -- ---- tokens that are taken

  pub data Takes : Taken R T B → Taken R' T' B' → Type 0 where
    none_taken : Takes None None
    taken : {t : T} {t' : T'} {s : State R T B} {s' : State R' T' B'} → rel.token t t' → States s s' → Takes (Some (t, s)) (Some (t', s'))

  pub pick : {X Y : Type 0} {Q : X → Y → Type 0} {Short : Counters → Read R' T' B' Y → Type 0} {o : Taken R T B} {o' : Taken R' T' B'} {x : Read R T B X} {x' : Read R' T' B' Y} (f : T × State R T B → Read R T B X) (f' : T' × State R' T' B' → Read R' T' B' Y)
      → Takes o o' → Related Q Short x x' → ((p : T × State R T B) (q : T' × State R' T' B') → rel.token p.0 q.0 → States p.1 q.1 → Related Q Short (f p) (f' q)) → Related Q Short (choose o x f) (choose o' x' f')
  pick f f' none_taken h k = h
  pick f f' (taken {t = t} {t' = t'} {s = s} {s' = s'} e h2) h k = k (t, s) (t', s') e h2

  pub take_tested : (b b' : Bool) {t : T} {t' : T'} {s : State R T B} {s' : State R' T' B'} → b ≡ b' → rel.token t t' → States s s' → Takes (cond b (Some (t, s)) None) (cond b' (Some (t', s')) None)
  take_tested true true e h k = taken h k
  take_tested false false e h k = none_taken
  take_tested _ _ e h k = cc

  pub data Meets : Met R T B → Met R' T' B' → Type 0 where
    none_met : Meets None None
    met : (o : Operator) {t : T} {t' : T'} {s : State R T B} {s' : State R' T' B'} → rel.token t t' → States s s' → Meets (Some (o, t, s)) (Some (o, t', s'))

  meet_tested : (b : Bool) (o : Operator) {t : T} {t' : T'} {s : State R T B} {s' : State R' T' B'} → rel.token t t' → States s s' → Meets (cond b (Some (o, t, s)) None) (cond b (Some (o, t', s')) None)
  meet_tested true o h k = met o h k
  meet_tested false o h k = none_met

  -- what the two make of tokens is related
  pub record Respects (one : Leaves R T A B S) (other : Leaves R' T' A' B' S') : Type 0 where
    pub conditions : (r : R) (r' : R') → rel.run r r' → AlikeConditions (one.conditions r) (other.conditions r')
    pub see : (t : T) (t' : T') → rel.token t t' → one.see t ≡ other.see t'
    pub position : (t : T) (t' : T') → rel.token t t' → rel.position (one.position t) (other.position t')
    pub name : (t : T) (t' : T') → rel.token t t' → rel.name (one.name t) (other.name t')
    pub literal : (r : R) (r' : R') (t : T) (t' : T') → rel.run r r' → rel.token t t' → (l : Literal (List ℕ)) (text : List ℕ) → token_of l ≡ (one.see t).tok.lexeme → cooked_text (one.conditions r).expander l ≡ Ok text
        → rel.literal l (one.literal t l text) (other.literal t' l text)
    pub text : (t : T) (t' : T') → rel.token t t' → rel.text (one.text t) (other.text t')
    pub star : (t : T) (t' : T') → rel.token t t' → rel.star (one.star t) (other.star t')
    pub assignment : (r : R) (r' : R') (t : T) (t' : T') → rel.run r r' → rel.token t t' → (number : ℕ) → rel.assignment number (one.assignment r t number) (other.assignment r' t' number)
    pub function_parameter : (r : R) (r' : R') (t : T) (t' : T') → rel.run r r' → rel.token t t' → (number : ℕ) → rel.function_parameter number (one.function_parameter r t number) (other.function_parameter r' t' number)
    pub recipe : (r : R) (r' : R') (t : T) (t' : T') → rel.run r r' → rel.token t t' → (number : ℕ) (body : List (BodyLine A B ℕ)) (body' : List (BodyLine A' B' ℕ)) → Each AlikeLine body body'
        → rel.recipe number (one.recipe r t number body) body (other.recipe r' t' number body') body'
    pub parameter : (r : R) (r' : R') (t : T) (t' : T') → rel.run r r' → rel.token t t' → {rules : Option (ArgumentRules A B)} {rules' : Option (ArgumentRules A' B')} → AlikeOption AlikeArgumentRules rules rules' → (number : ℕ)
        → rel.parameter number (one.parameter r t rules number) rules (other.parameter r' t' rules' number) rules'
    pub has_number : (n : ℕ) → one.has_number n ≡ true → other.has_number n ≡ true

  module _ (one : Leaves R T A B S) (other : Leaves R' T' A' B' S') (agree : Respects one other) where
    accepted_by : (test : SignificantToken → Bool) {s : State R T B} {s' : State R' T' B'} {ts : List T} {ts' : List T'} → States s s' → Each rel.token ts ts' → Takes (accept_by one test s ts) (accept_by other test s' ts')
    accepted_by test h nil = none_taken
    accepted_by test h (cons {x = t} {y = t'} k ks) = take_tested (test (one.see t)) (test (other.see t')) (ap test (agree.see t t' k)) k (at_alike h ks)

    -- comments have the same text
    pub same_comment : {o : Option T} {o' : Option T'} → AlikeOption rel.token o o' → option_map (comment_in one) o ≡ option_map (comment_in other) o'
    same_comment absent = refl
    same_comment (present {x = t} {y = t'} h) = ap (λ (x : SignificantToken). Some (trim_end x.tok.lexeme)) (agree.see t t' h)

    pub accepted : (kind : TokenKind) {s : State R T B} {s' : State R' T' B'} → States s s' → Takes (accept one kind s) (accept other kind s')
    unfolding accept
    accepted kind h = accepted_by (λ t. same_kind t.tok.kind kind) h h.left

    pub accepted_word : (word : List ℕ) {s : State R T B} {s' : State R' T' B'} → States s s' → Takes (accept_keyword one word s) (accept_keyword other word s')
    unfolding accept_keyword
    accepted_word word h = accepted_by (is_word word) h h.left

    marked_alike : (word : List ℕ) (kind : TokenKind) {s : State R T B} {s' : State R' T' B'} {ts : List T} {ts' : List T'} → States s s' → Each rel.token ts ts' → Takes (marked_by one word kind s ts) (marked_by other word kind s' ts')
    marked_alike word kind h nil = none_taken
    marked_alike word kind h (cons m nil) = none_taken
    marked_alike word kind h (cons {x = m} {y = m'} k (cons {x = t} {y = t'} j js)) =
        take_tested (marks word kind (one.see m) (one.see t)) (marks word kind (other.see m') (other.see t')) (λ i. marks word kind (agree.see m m' k i) (agree.see t t' j i)) j (at_alike h js)

    pub accepted_marked : (word : List ℕ) (kind : TokenKind) {s : State R T B} {s' : State R' T' B'} → States s s' → Takes (accept_marked one word kind s) (accept_marked other word kind s')
    unfolding accept_marked
    accepted_marked word kind h = marked_alike word kind h h.left

    pub refused_alike : {X Y : Type 0} {Q : X → Y → Type 0} {Short : Counters → Read R' T' B' Y → Type 0} {s : State R T B} {s' : State R' T' B'} → States s s' → Related Q Short (Err (refused Unexpected s)) (Err (refused Unexpected s'))
    unfolding refused
    refused_alike h = neither (unexpected (front_alike h.left))

    pub expected : (kind : TokenKind) {s : State R T B} {s' : State R' T' B'} → States s s' → Related rel.token Never (expect one kind s) (expect other kind s')
    unfolding expect
    expected kind h = pick (λ x. Ok x) (λ x. Ok x) (accepted kind h) (refused_alike h) (λ p q k j. both k j)

    same_begin : (kinds : List TokenKind) {ts : List T} {ts' : List T'} → Each rel.token ts ts' → begin_with one kinds ts ≡ begin_with other kinds ts'
    unfolding begin_with
    same_begin [] h = refl
    same_begin (kind ∷ kinds) nil = refl
    same_begin (kind ∷ kinds) (cons {x = t} {y = t'} k ks) = λ i. same_kind (agree.see t t' k i).tok.kind kind && same_begin kinds ks i

    pub same_next : (kinds : List TokenKind) {s : State R T B} {s' : State R' T' B'} → States s s' → next_are one kinds s ≡ next_are other kinds s'
    same_next kinds h = same_begin kinds h.left

    -- ---- operators

    met_alike : (level : Level) (o o' : Option Operator) {t : T} {t' : T'} {s : State R T B} {s' : State R' T' B'} {ts : List T} {ts' : List T'} → o ≡ o' → rel.token t t' → States s s' → Each rel.token ts ts' → Meets (met_at one level s t ts o) (met_at other level s' t' ts' o')
    met_alike level None None e h k j = none_met
    met_alike level (Some o) (Some o') {t} {t'} {s} {s'} {ts} {ts'} e h k j =
        let same : o ≡ o' = cc in
        subst (λ p. Meets (met_at one level s t ts (Some o)) (met_at other level s' t' ts' (Some p))) same (meet_tested (is_at level o) o h (at_alike k j))
    met_alike level _ _ e h k j = cc

    operator_alike : (level : Level) {s : State R T B} {s' : State R' T' B'} {ts : List T} {ts' : List T'} → States s s' → Each rel.token ts ts' → Meets (operator_by one level s ts) (operator_by other level s' ts')
    operator_alike level h nil = none_met
    operator_alike level h (cons {x = t} {y = t'} k ks) = met_alike level (operator_of (one.see t).tok.kind) (operator_of (other.see t').tok.kind) (ap (λ x. operator_of x.tok.kind) (agree.see t t' k)) k h ks

    pub accepted_operator : (level : Level) {s : State R T B} {s' : State R' T' B'} → States s s' → Meets (accept_operator one level s) (accept_operator other level s')
    unfolding accept_operator
    accepted_operator level h = operator_alike level h h.left

    -- ---- literals

    text_alike : {X Y : Type 0} (Q : X → Y → Type 0) (make : List ℕ → X) (make' : List ℕ → Y) (x : T × State R T B) (x' : T' × State R' T' B') → rel.token x.0 x'.0 → States x.1 x'.1 → (found : Result (List ℕ) LiteralFault)
        → ((text : List ℕ) → found ≡ Ok text → Q (make text) (make' text)) → Related Q Never (by_text one make x found) (by_text other make' x' found)
    text_alike Q make make' x x' t h (Ok text) made = both (made text refl) h
    text_alike Q make make' x x' t h (Err fault) made = neither (not_cooked (agree.position x.0 x'.0 t))

    -- a literal, asked by the token's lexeme
    pub cooked_alike : {X Y : Type 0} (Q : X → Y → Type 0) (make : A → X) (make' : A' → Y) (ask : List ℕ → Literal (List ℕ)) → ((lexeme : List ℕ) → token_of (ask lexeme) ≡ lexeme) → (x : T × State R T B) (x' : T' × State R' T' B') → rel.token x.0 x'.0 → States x.1 x'.1
        → ((l : A) (l' : A') → rel.literal (ask (one.see x.0).tok.lexeme) l l' → Q (make l) (make' l')) → Related Q Never (cooked one make ask x) (cooked other make' ask x')
    unfolding cooked
    cooked_alike Q make make' ask asks x x' t h made =
        let lexeme = (one.see x.0).tok.lexeme in
        let l = ask lexeme in
        let go : (lexeme' : List ℕ) → lexeme ≡ lexeme' → (E : Expansions) → (one.conditions x.1.run).expander ≡ E
        → Related Q Never (by_text one (λ text. make (one.literal x.0 l text)) x (cooked_text (one.conditions x.1.run).expander l)) (by_text other (λ text. make' (other.literal x'.0 (ask lexeme') text)) x' (cooked_text E (ask lexeme'))) =
        λ lexeme' e E f. subst (λ k. Related Q Never (by_text one (λ text. make (one.literal x.0 l text)) x (cooked_text (one.conditions x.1.run).expander l)) (by_text other (λ text. make' (other.literal x'.0 (ask k) text)) x' (cooked_text E (ask k)))) e
        (subst (λ F. Related Q Never (by_text one (λ text. make (one.literal x.0 l text)) x (cooked_text (one.conditions x.1.run).expander l)) (by_text other (λ text. make' (other.literal x'.0 l text)) x' (cooked_text F l))) f
        (text_alike Q (λ text. make (one.literal x.0 l text)) (λ text. make' (other.literal x'.0 l text)) x x' t h (cooked_text (one.conditions x.1.run).expander l)
        (λ text is. made (one.literal x.0 l text) (other.literal x'.0 l text) (agree.literal x.1.run x'.1.run x.0 x'.0 h.run t l text (asks lexeme) is)))) in
        go (other.see x'.0).tok.lexeme (ap (λ y. y.tok.lexeme) (agree.see x.0 x'.0 t)) (other.conditions x'.1.run).expander (agree.conditions x.1.run x'.1.run h.run).expander
