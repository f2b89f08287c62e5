-- The reader's rules, in the steps that the parser takes.
use Rattle.std.proofs.Common.{◌≡◌, ℕ, Bool, true, false, List, [], ◌∷◌, Option, Some, None, Result, Ok, Err, codes, refl}
use Rattle.justfile_token.specs.StringKind.{kind_of}
use Rattle.justfile_token.specs.Token.{lexeme_of}
use Rattle.justfile_vocabulary.specs.declared.format_string_part.FormatStringPart.TheVariants as string_parts
use Rattle.justfile_token.specs.declared.token.Token.{Token}
use Rattle.justfile_vocabulary.specs.declared.token_kind.TokenKind.{TokenKind}
use Rattle.justfile_vocabulary.specs.declared.token_kind.TokenKind.TheVariants as kinds
use Rattle.justfile_model.specs.Grammars.Expressions.{front}
use Rattle.justfile_model.specs.LiteralTexts.Literals.{LiteralFault, cooked_text, cooked_format_text, string_of}
use Rattle.justfile_model.specs.Trees.Tree as t
use Rattle.justfile_model.specs.Trees.Tree.{Expr, Parts}
use Rattle.justfile_model.specs.Readers.ExpressionReader as expressions
use Rattle.justfile_model.specs.Readers.ExpressionReader.{by_text}
use Rattle.justfile_model.specs.Readers.ReaderState.{◌>>=◌, choose}
use Rattle.justfile_parse_expression.specs.TableReader as r
use Rattle.justfile_parse_expression.specs.TableReader.{At, Read, ReadExpr, State, accept, accept_keyword, assert, braced, condition, enclosed, expect, format_parts, format_string, group, leaves, list, literal_string, name, note_first, part, part_by, read, string_leaf, whole_format_string}
use Rattle.justfile_parse_expression.specs.ValueForms.{asserted, grouped}
use Rattle.justfile_expression.specs.LeafTree.{Leaf}
use Rattle.justfile_model.specs.declared.level.Level.TheVariants.{Expression}
use Rattle.justfile_parse_expression.specs.Significant.{TableToken}
use Rattle.justfile_model.proofs.Readers.ExpressionReading as laws

pub conditional_is : (w : TableToken) (s : State) → read (r.Conditional w s) ≡ expressions.conditional_rule leaves read w s
conditional_is w s = laws.conditional_is leaves w s

pub note_is : (e : Expr Leaf Token) (from : List TableToken) (s : State) → expressions.note_uncompared leaves e from s ≡ note_first e (front from) s
unfolding leaves
note_is e [] s = refl
note_is e (t ∷ ts) s = refl

-- what is made of what was read
abbrev pub then_made : {A B : Type 0} → (A → B) → A × State → Read B
then_made make x = Ok (make x.0, x.1)

abbrev pub Taken : Type 0
Taken = Option (TableToken × State)

-- ---- an expression and the delimiter after it

abbrev then_closed : {A : Type 0} → TokenKind → (Expr Leaf Token → A) → Expr Leaf Token × State → Read A
then_closed closing make e = expect closing e.1 >>= then_made (λ _. make e.0)

made : {A : Type 0} (make : Expr Leaf Token → A) (e : Expr Leaf Token) (found : Read TableToken) → (found >>= then_made (λ _. make e)) ≡ ((found >>= then_made (λ _. e)) >>= then_made make)
made make e (Ok x) = refl
made make e (Err f) = refl

pub closed_by : {A : Type 0} (closing : TokenKind) (make : Expr Leaf Token → A) (found : ReadExpr) → (found >>= then_closed closing make) ≡ ((found >>= then_closed closing (λ e. e)) >>= then_made make)
closed_by closing make (Ok e) = made make e.0 (expect closing e.1)
closed_by closing make (Err f) = refl

pub choose_alike : {A : Type 0} (o : Taken) (x y : A) (f g : TableToken × State → A) → x ≡ y → ((p : TableToken × State) → f p ≡ g p) → choose o x f ≡ choose o y g
choose_alike None x y f g e h = e
choose_alike (Some p) x y f g e h = h p

pub bind_alike : {A B : Type 0} (found : Read A) (f g : A × State → Read B) → ((x : A × State) → f x ≡ g x) → (found >>= f) ≡ (found >>= g)
bind_alike (Ok x) f g h = h x
bind_alike (Err e) f g h = refl

pub bound : {A B C : Type 0} (found : Read A) (f : A × State → Read B) (g : B × State → Read C) → (found >>= λ x. f x >>= g) ≡ ((found >>= f) >>= g)
bound (Ok x) f g = refl
bound (Err e) f g = refl

pub braced_is : (s : State) → braced s ≡ (expect kinds.BraceL s >>= λ o. enclosed kinds.BraceR o.1)
unfolding expressions.braced_rule enclosed
braced_is s = refl

pub group_is : (s : State) → group s ≡ choose {X = ReadExpr} (accept kinds.ParenL s) (list s) grouped
unfolding expressions.group_rule enclosed
group_is s = choose_alike (accept kinds.ParenL s) _ _ _ _ refl (λ o. closed_by kinds.ParenR t.Group (read (At Expression false o.1)))

pub assert_is : (s : State) → assert s ≡ choose {X = ReadExpr} (accept_keyword (codes "assert") s) (name s) asserted
unfolding expressions.assert_rule enclosed leaves
assert_is s =
    choose_alike (accept_keyword (codes "assert") s) _ _ _ _ refl (λ w.
    bind_alike (expect kinds.ParenL w.1) _ _ (λ o. bind_alike (condition o.1) _ _ (λ c.
    choose_alike (accept kinds.Comma c.1) _ _ _ _ refl (λ comma. closed_by kinds.ParenR (t.AssertMessage w.0.0 c.0) (read (At Expression false comma.1))))))

-- ---- parts of format strings

made_of_text : {A B : Type 0} (make : List ℕ → A) (f : A → B) (x : TableToken × State) (text : Result (List ℕ) LiteralFault) → by_text leaves (λ text. f (make text)) x text ≡ (by_text leaves make x text >>= then_made f)
made_of_text make f x (Ok text) = refl
made_of_text make f x (Err fault) = refl

pub string_is : (expand : Bool) (x : TableToken × State) → literal_string expand x ≡ (string_leaf expand x >>= then_made (t.StringLiteral expand))
unfolding expressions.literal_string expressions.cooked string_leaf
string_is expand x = made_of_text _ (t.StringLiteral expand) x (cooked_text (leaves.conditions x.1.run).expander (string_of expand (leaves.see x.0).tok.lexeme))

pub single_is : (x : TableToken × State) → whole_format_string x ≡ (part_by (kind_of (lexeme_of x.0.0)) string_parts.Single x >>= then_made t.FormatLiteral)
unfolding expressions.whole_format_string expressions.cooked part_by leaves
single_is x = made_of_text _ t.FormatLiteral x (cooked_format_text (kind_of (lexeme_of x.0.0)) string_parts.Single (lexeme_of x.0.0))

pub part_is : (start : List ℕ) (s : State) → part start s
    ≡ choose {X = Read (Leaf × Bool)} (accept kinds.FormatStringContinue s)
    (expect kinds.FormatStringEnd s >>= λ x. part_by (kind_of start) string_parts.End x >>= then_made (λ (l : Leaf). (l, true)))
    (λ x. part_by (kind_of start) string_parts.Continue x >>= then_made (λ (l : Leaf). (l, false)))
unfolding expressions.part expressions.cooked part_by leaves
part_is start s =
    choose_alike (accept kinds.FormatStringContinue s) _ _ _ _
    (bind_alike (expect kinds.FormatStringEnd s) _ _ (λ x. made_of_text _ (λ (l : Leaf). (l, true)) x (cooked_format_text (kind_of start) string_parts.End (lexeme_of x.0.0))))
    (λ x. made_of_text _ (λ (l : Leaf). (l, false)) x (cooked_format_text (kind_of start) string_parts.Continue (lexeme_of x.0.0)))

abbrev begun : Expr Leaf Token → Parts Leaf Token → Leaf → Expr Leaf Token
begun e ps leaf = t.FormatString leaf e ps

abbrev pub with_start : Leaf → (Leaf → Expr Leaf Token) → Expr Leaf Token
with_start leaf rest = rest leaf

parts_alike : (leaf : Leaf) (e : Expr Leaf Token) (found : Read (Parts Leaf Token)) → (found >>= then_made (t.FormatString leaf e)) ≡ ((found >>= then_made (begun e)) >>= then_made (with_start leaf))
parts_alike leaf e (Ok ps) = refl
parts_alike leaf e (Err f) = refl

rest_alike : (leaf : Leaf) (start : List ℕ) (found : ReadExpr)
    → (found >>= λ e. read (expressions.FormatParts start e.1) >>= then_made (t.FormatString leaf e.0))
    ≡ ((found >>= λ e. read (expressions.FormatParts start e.1) >>= then_made (begun e.0)) >>= then_made (with_start leaf))
rest_alike leaf start (Ok e) = parts_alike leaf e.0 (read (expressions.FormatParts start e.1))
rest_alike leaf start (Err f) = refl

pub format_string_is : (x : TableToken × State) → format_string x ≡ (part_by (kind_of (lexeme_of x.0.0)) string_parts.Start x >>= λ l. format_parts (lexeme_of x.0.0) l.1 >>= then_made (with_start l.0))
unfolding expressions.format_string_rule expressions.format_rest_rule expressions.cooked part_by format_parts leaves
format_string_is x =
    bind_alike (part_by (kind_of (lexeme_of x.0.0)) string_parts.Start x) _ _ (λ l. rest_alike l.0 (lexeme_of x.0.0) (read (At Expression false l.1)))
