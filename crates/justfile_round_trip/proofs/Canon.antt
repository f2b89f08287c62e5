-- The printer's tokens, before other tokens, and that their text is the printed text.
use Rattle.std.proofs.Common.{◌≡◌, ℕ, Bool, true, false, cond, List, [], ◌∷◌, ◌++◌, refl, ap, ◌∙◌, append_assoc, codes}
use Rattle.std.specs.List.{flat_map}
use Rattle.justfile_vocabulary.specs.declared.token_kind.TokenKind.TheVariants as kinds
use Rattle.justfile_model.specs.declared.conditional_operator.ConditionalOperator.{ConditionalOperator}
use Rattle.justfile_model.specs.declared.conditional_operator.ConditionalOperator.TheVariants.{Equality, Inequality, RegexMatch, RegexMismatch}
use Rattle.justfile_model.specs.Trees.Tree as tree
use Rattle.justfile_model.specs.Trees.Tree.{Expr, Or, And, Comparison, Concatenation, ListConcatenation, Join, Root, If, IfElse, Not, StringLiteral, FormatLiteral, FormatString, Backtick, Assert, AssertMessage, Variable, Call, Group, ListOf, Last, Continue, Text, Interpolation, BodyLine, Line, Content, OrderedItem}
use Rattle.justfile_model.specs.Grammars.Features.{Noted}
use Rattle.justfile_model.specs.Grammars.Expressions.{operator_kind}
use Rattle.justfile_model.specs.Printed.Printing.{fixed_text, if_true, is_conditional, other_text, expr_text, exprs_text, parts_text, fragment_text, body_text}
use Rattle.justfile_round_trip.proofs.LiteralTexts.LexedModes.{Sign, sign, space, newline, text_of}

-- What a shape is made of: expressions, fragments, lines of bodies, and items with their contents.
abbrev pub Value : Type 0
Value = Expr (List ℕ) (Unit {0})

abbrev pub Fragment : Type 0
Fragment = tree.Fragment (List ℕ) (Unit {0})

abbrev pub ShapeLine : Type 0
ShapeLine = BodyLine (List ℕ) (Unit {0}) (Unit {0})

abbrev pub ShapeContent : Type 0
ShapeContent = Content (List ℕ) (Unit {0}) (Unit {0}) (Unit {0})

abbrev pub ShapeItem : Type 0
ShapeItem = OrderedItem (List ℕ) (Unit {0}) (Unit {0})

-- its features, which have no places
abbrev pub Shown : Type 0
Shown = List (Noted (Unit {0}))

abbrev pub colon : Sign
colon = sign kinds.Colon (58 ∷ [])

-- a name, or a word like `if`
abbrev pub word : List ℕ → Sign
word = sign kinds.Identifier

abbrev pub brace_left : Sign
brace_left = sign kinds.BraceL (codes "{")

abbrev pub brace_right : Sign
brace_right = sign kinds.BraceR (codes "}")

abbrev pub paren_left : Sign
paren_left = sign kinds.ParenL (codes "(")

abbrev pub paren_right : Sign
paren_right = sign kinds.ParenR (codes ")")

abbrev pub comma : Sign
comma = sign kinds.Comma (codes ",")

-- a sign or none
abbrev pub flag_signs : Bool → Sign → List Sign → List Sign
flag_signs true s ts = s ∷ ts
flag_signs false s ts = ts

abbrev pub operator_codes : ConditionalOperator → List ℕ
operator_codes Equality = codes "=="
operator_codes Inequality = codes "!="
operator_codes RegexMatch = codes "=~"
operator_codes RegexMismatch = codes "!~"

-- the arguments of a call, or the elements of a list
abbrev pub Values : Type 0
Values = tree.Exprs (List ℕ) (Unit {0})

-- the rest of a format string after an expression
abbrev pub ShapeParts : Type 0
ShapeParts = tree.Parts (List ℕ) (Unit {0})

abbrev mutual
  pub expr_signs : Value → List Sign → List Sign
  expr_signs (Or l r) ts = expr_signs l (space ∷ sign kinds.BarBar (codes "||") ∷ space ∷ expr_signs r ts)
  expr_signs (And l r) ts = expr_signs l (space ∷ sign kinds.AmpersandAmpersand (codes "&&") ∷ space ∷ expr_signs r ts)
  expr_signs (Comparison l operator token r) ts = expr_signs l (space ∷ sign (operator_kind operator) (operator_codes operator) ∷ space ∷ expr_signs r ts)
  expr_signs (Concatenation l operator r) ts = expr_signs l (space ∷ sign kinds.Plus (codes "+") ∷ space ∷ expr_signs r ts)
  expr_signs (ListConcatenation l operator r) ts = expr_signs l (space ∷ sign kinds.PlusPlus (codes "++") ∷ space ∷ expr_signs r ts)
  expr_signs (Join l operator r) ts = expr_signs l (space ∷ sign kinds.Slash (codes "/") ∷ space ∷ expr_signs r ts)
  expr_signs (Root operator r) ts = sign kinds.Slash (codes "/") ∷ space ∷ expr_signs r ts
  expr_signs (If c b) ts = word (codes "if") ∷ space ∷ expr_signs c (space ∷ brace_left ∷ space ∷ expr_signs b (space ∷ brace_right ∷ ts))
  expr_signs (IfElse c b o) ts = word (codes "if") ∷ space ∷ expr_signs c (space ∷ brace_left ∷ space ∷ expr_signs b (space ∷ brace_right ∷ space ∷ word (codes "else") ∷ space
      ∷ cond (is_conditional o) (expr_signs o ts) (brace_left ∷ space ∷ expr_signs o (space ∷ brace_right ∷ ts))))
  expr_signs (Not e) ts = sign kinds.Bang (codes "!") ∷ expr_signs e ts
  expr_signs (StringLiteral true lexeme) ts = word (codes "x") ∷ sign kinds.StringToken lexeme ∷ ts
  expr_signs (StringLiteral false lexeme) ts = sign kinds.StringToken lexeme ∷ ts
  expr_signs (FormatLiteral lexeme) ts = word (codes "f") ∷ sign kinds.StringToken lexeme ∷ ts
  expr_signs (FormatString start e parts) ts = word (codes "f") ∷ sign kinds.FormatStringStart start ∷ space ∷ expr_signs e (space ∷ parts_signs parts ts)
  expr_signs (Backtick lexeme) ts = sign kinds.Backtick lexeme ∷ ts
  expr_signs (Assert name c) ts = word (codes "assert") ∷ paren_left ∷ expr_signs c (paren_right ∷ ts)
  expr_signs (AssertMessage name c m) ts = word (codes "assert") ∷ paren_left ∷ expr_signs c (comma ∷ space ∷ expr_signs m (paren_right ∷ ts))
  expr_signs (Variable name) ts = word name ∷ ts
  expr_signs (Call name arguments) ts = word name ∷ paren_left ∷ exprs_signs arguments (paren_right ∷ ts)
  expr_signs (Group e) ts = paren_left ∷ expr_signs e (paren_right ∷ ts)
  expr_signs (ListOf opener elements) ts = sign kinds.BracketL (codes "[") ∷ exprs_signs elements (sign kinds.BracketR (codes "]") ∷ ts)

  pub exprs_signs : Values → List Sign → List Sign
  exprs_signs tree.none ts = ts
  exprs_signs (tree.more e es) ts = expr_signs e (others_signs es ts)

  pub others_signs : Values → List Sign → List Sign
  others_signs tree.none ts = ts
  others_signs (tree.more e es) ts = comma ∷ space ∷ expr_signs e (others_signs es ts)

  pub parts_signs : ShapeParts → List Sign → List Sign
  parts_signs (Last lexeme) ts = sign kinds.FormatStringEnd lexeme ∷ ts
  parts_signs (Continue lexeme e parts) ts = sign kinds.FormatStringContinue lexeme ∷ space ∷ expr_signs e (space ∷ parts_signs parts ts)

-- ---- bodies

abbrev pub fragment_signs : Fragment → List Sign → List Sign
fragment_signs (Text t) ts = sign kinds.Text t ∷ ts
fragment_signs (Interpolation e) ts = sign kinds.InterpolationStart (123 ∷ 123 ∷ []) ∷ space ∷ expr_signs e (space ∷ sign kinds.InterpolationEnd (125 ∷ 125 ∷ []) ∷ ts)

abbrev pub fragments_signs : List Fragment → List Sign → List Sign
fragments_signs [] ts = ts
fragments_signs (f ∷ fs) ts = fragment_signs f (fragments_signs fs ts)

-- the lines after the first
abbrev pub line_signs : List ℕ → ShapeLine → List Sign → List Sign
line_signs ind (Line number []) ts = ts
line_signs ind (Line number (f ∷ fs)) ts = sign kinds.Whitespace ind ∷ fragments_signs (f ∷ fs) ts

abbrev pub lines_signs : List ℕ → List ShapeLine → List Sign → List Sign
lines_signs ind [] ts = ts
lines_signs ind (l ∷ ls) ts = line_signs ind l (newline ∷ lines_signs ind ls ts)

-- a body, from its Indent to its Dedent, before the tokens after it
abbrev pub body_signs : List ℕ → List ShapeLine → List Sign → List Sign
body_signs ind [] ts = ts
body_signs ind (Line number fs ∷ ls) ts = sign kinds.Indent ind ∷ fragments_signs fs (newline ∷ lines_signs ind ls (sign kinds.Dedent [] ∷ ts))

-- ---- their text is the text of the definitions

-- a text, and one after it
pub then : (a b more : List ℕ) {y x : List ℕ} → b ++ more ≡ y → a ++ y ≡ x → (a ++ b) ++ more ≡ x
then a b more e f = append_assoc a b more ∙ ap (λ z. a ++ z) e ∙ f

-- and a fixed one between them
pub joined : (a p b more : List ℕ) {y x : List ℕ} → b ++ more ≡ y → a ++ (p ++ y) ≡ x → ((a ++ p) ++ b) ++ more ≡ x
joined a p b more {y} e f = then (a ++ p) b more e (then a p y refl f)

-- and one after both
around : (a p b q more : List ℕ) {y x : List ℕ} → b ++ (q ++ more) ≡ y → a ++ (p ++ y) ≡ x → (((a ++ p) ++ b) ++ q) ++ more ≡ x
around a p b q more e f = then ((a ++ p) ++ b) q more refl (joined a p b (q ++ more) e f)

pub flag_is : (b : Bool) (s : Sign) (ts : List Sign) → if_true b (fixed_text s.lexeme) ++ text_of ts ≡ text_of (flag_signs b s ts)
unfolding fixed_text
flag_is true s ts = refl
flag_is false s ts = refl

-- the other branch: a conditional as it is, or else in braces
other_is : (b : Bool) (o : List ℕ) (ts on inside : List Sign) → o ++ text_of ts ≡ text_of on → o ++ (codes " }" ++ text_of ts) ≡ text_of inside
    → other_text b o ++ text_of ts ≡ text_of (cond b on (brace_left ∷ space ∷ inside))
unfolding fixed_text
other_is true o ts on inside e f = e
other_is false o ts on inside e f = then (codes "{ " ++ o) (codes " }") (text_of ts) refl (ap (λ t. codes "{ " ++ t) f)

mutual
  unfolding fixed_text

  pub expr_is : (e : Value) (ts : List Sign) → expr_text e ++ text_of ts ≡ text_of (expr_signs e ts)
  expr_is (Or l r) ts = joined (expr_text l) (codes " || ") (expr_text r) _ (expr_is r ts) (expr_is l _)
  expr_is (And l r) ts = joined (expr_text l) (codes " && ") (expr_text r) _ (expr_is r ts) (expr_is l _)
  expr_is (Comparison l Equality token r) ts = joined (expr_text l) (codes " == ") (expr_text r) _ (expr_is r ts) (expr_is l _)
  expr_is (Comparison l by token r) ts = joined (expr_text l) (32 ∷ (operator_codes by ++ (32 ∷ []))) (expr_text r) _ (expr_is r ts) (expr_is l _)
  expr_is (Concatenation l operator r) ts = joined (expr_text l) (codes " + ") (expr_text r) _ (expr_is r ts) (expr_is l _)
  expr_is (ListConcatenation l operator r) ts = joined (expr_text l) (codes " ++ ") (expr_text r) _ (expr_is r ts) (expr_is l _)
  expr_is (Join l operator r) ts = joined (expr_text l) (codes " / ") (expr_text r) _ (expr_is r ts) (expr_is l _)
  expr_is (Root operator r) ts = ap (λ t. codes "/ " ++ t) (expr_is r ts)
  expr_is (If c b) ts = around (codes "if " ++ expr_text c) (codes " { ") (expr_text b) (codes " }") (text_of ts) (expr_is b _) (ap (λ t. codes "if " ++ t) (expr_is c _))
  expr_is (IfElse c b o) ts =
      then ((((codes "if " ++ expr_text c) ++ codes " { ") ++ expr_text b) ++ codes " } else ") (other_text (is_conditional o) (expr_text o)) (text_of ts) (other_is (is_conditional o) (expr_text o) ts _ _ (expr_is o ts) (expr_is o (space ∷ brace_right ∷ ts)))
      (around (codes "if " ++ expr_text c) (codes " { ") (expr_text b) (codes " } else ") _ (expr_is b _) (ap (λ t. codes "if " ++ t) (expr_is c _)))
  expr_is (Not e) ts = ap (λ t. 33 ∷ t) (expr_is e ts)
  expr_is (StringLiteral true l) ts = refl
  expr_is (StringLiteral false l) ts = refl
  expr_is (FormatLiteral l) ts = refl
  expr_is (FormatString s e ps) ts =
      then ((((102 ∷ s) ++ codes " ") ++ expr_text e) ++ codes " ") (parts_text ps) (text_of ts) (parts_is ps ts) (around (102 ∷ s) (codes " ") (expr_text e) (codes " ") _ (expr_is e _) refl)
  expr_is (Backtick l) ts = refl
  expr_is (Assert name c) ts = then (codes "assert(" ++ expr_text c) (codes ")") (text_of ts) refl (ap (λ t. codes "assert(" ++ t) (expr_is c _))
  expr_is (AssertMessage name c m) ts = around (codes "assert(" ++ expr_text c) (codes ", ") (expr_text m) (codes ")") (text_of ts) (expr_is m _) (ap (λ t. codes "assert(" ++ t) (expr_is c _))
  expr_is (Variable n) ts = refl
  expr_is (Call n es) ts = around n (codes "(") (exprs_text es) (codes ")") (text_of ts) (exprs_is es _) refl
  expr_is (Group e) ts = then (codes "(" ++ expr_text e) (codes ")") (text_of ts) refl (ap (λ t. codes "(" ++ t) (expr_is e _))
  expr_is (ListOf opener es) ts = then (codes "[" ++ exprs_text es) (codes "]") (text_of ts) refl (ap (λ t. codes "[" ++ t) (exprs_is es _))

  pub exprs_is : (es : Values) (ts : List Sign) → exprs_text es ++ text_of ts ≡ text_of (exprs_signs es ts)
  exprs_is tree.none ts = refl
  exprs_is (tree.more e tree.none) ts = expr_is e ts
  exprs_is (tree.more e (tree.more e2 es)) ts = joined (expr_text e) (codes ", ") (exprs_text (tree.more e2 es)) _ (exprs_is (tree.more e2 es) ts) (expr_is e _)

  parts_is : (ps : ShapeParts) (ts : List Sign) → parts_text ps ++ text_of ts ≡ text_of (parts_signs ps ts)
  parts_is (Last l) ts = refl
  parts_is (Continue l e ps) ts = then (((l ++ codes " ") ++ expr_text e) ++ codes " ") (parts_text ps) (text_of ts) (parts_is ps ts) (around l (codes " ") (expr_text e) (codes " ") _ (expr_is e _) refl)

fragment_is : (f : Fragment) (ts : List Sign) → fragment_text f ++ text_of ts ≡ text_of (fragment_signs f ts)
unfolding fixed_text
fragment_is (Text t) ts = refl
fragment_is (Interpolation e) ts = ap (λ l. codes "{{ " ++ l) (then (expr_text e) (codes " }}") (text_of ts) refl (expr_is e _))

fragments_is : (fs : List Fragment) (ts : List Sign) → flat_map fragment_text fs ++ text_of ts ≡ text_of (fragments_signs fs ts)
fragments_is [] ts = refl
fragments_is (f ∷ fs) ts = then (fragment_text f) (flat_map fragment_text fs) (text_of ts) (fragments_is fs ts) (fragment_is f _)

-- the line end after the header of a recipe, and its lines: before text that begins with the line end of the last one
pub lines_are : (ind : List ℕ) (ls : List ShapeLine) (ts : List Sign) → body_text ind ls ++ (10 ∷ text_of ts) ≡ 10 ∷ text_of (lines_signs ind ls ts)
unfolding fixed_text
lines_are ind [] ts = refl
lines_are ind (Line number [] ∷ ls) ts = ap (λ t. 10 ∷ t) (lines_are ind ls ts)
lines_are ind (Line number (f ∷ fs) ∷ ls) ts =
    ap (λ t. 10 ∷ t)
    (then (ind ++ flat_map fragment_text (f ∷ fs)) (body_text ind ls) _ (lines_are ind ls ts)
    (then ind (flat_map fragment_text (f ∷ fs)) _ (fragments_is (f ∷ fs) (newline ∷ lines_signs ind ls ts)) refl))
