-- A value without `!`, by its form: what is read where a value of that form comes next. Any other token is refused.
use Rattle.std.specs.Prelude.{true, false, None, Ok, Err, IsTrue, is_some, codes}
use Rattle.justfile_vocabulary.specs.declared.token_kind.TokenKind.TheVariants as kinds
use Rattle.justfile_model.specs.Readers.ReaderState.{◌>>=◌, Unexpected, choose, refused}
use Rattle.justfile_model.specs.Trees.Tree as tree
use Rattle.justfile_parse_expression.specs.TableReader as r
use Rattle.justfile_parse_expression.specs.TableReader.{ReadExpr, State, accept, accept_keyword, accept_marked, condition, enclosed, expect}
use Rattle.justfile_parse_expression.specs.declared.value.ValueForm.{ValueForm}
use Rattle.justfile_parse_expression.specs.declared.value.ValueForm.TheVariants as forms
use Rattle.justfile_parse_expression.specs.Significant.{TableToken}
use Rattle.justfile_expression.specs.LeafTree.{Named}

-- no value comes next
abbrev pub missing : State → ReadExpr
missing s = Err (refused Unexpected s)

-- a literal, or something else
abbrev pub literal_or : (otherwise : ReadExpr) → State → ReadExpr
literal_or otherwise s =
    choose (accept kinds.StringToken s)
    (choose (accept_marked (codes "x") kinds.StringToken s)
    (choose (accept_marked (codes "f") kinds.StringToken s)
    (choose (accept kinds.Backtick s) otherwise
    r.backtick)
    r.whole_format_string)
    (r.literal_string true))
    (r.literal_string false)

unfoldable pub literal : State → ReadExpr
literal s = literal_or (missing s) s

unfoldable pub format_string : State → ReadExpr
format_string s = choose (accept_marked (codes "f") kinds.FormatStringStart s) (missing s) r.format_string

-- an assertion, after its word
abbrev pub asserted : TableToken × State → ReadExpr
asserted w = do
  o ← expect kinds.ParenL w.1
  c ← condition o.1
  choose {X = ReadExpr} (accept kinds.Comma c.1)
      (do
        p ← expect kinds.ParenR c.1
        Ok (tree.Assert w.0.0 c.0, p.1))
      (λ comma. do
        m ← enclosed kinds.ParenR comma.1
        Ok (tree.AssertMessage w.0.0 c.0 m.0, m.1))

unfoldable pub assertion : State → ReadExpr
assertion s = choose (accept_keyword (codes "assert") s) (missing s) asserted

-- a variable or a call, after its name
abbrev pub named : TableToken × State → ReadExpr
named n = choose (accept kinds.ParenL n.1) (Ok (tree.Variable (Named n.0.0 None), n.1)) (λ o. r.call n.0 o.1)

unfoldable pub name : State → ReadExpr
name s = choose (accept kinds.Identifier s) (missing s) named

-- a group, after its opening parenthesis
abbrev pub grouped : TableToken × State → ReadExpr
grouped o = do
  e ← enclosed kinds.ParenR o.1
  Ok (tree.Group e.0, e.1)

unfoldable pub group : State → ReadExpr
group s = choose (accept kinds.ParenL s) (missing s) grouped

-- a word comes next
abbrev pub BeginsWord : State → Type 0
BeginsWord s = IsTrue (is_some (accept kinds.Identifier s))

-- what is read of a value of a form
abbrev pub read_form : ValueForm → State → ReadExpr
read_form forms.Literal s = literal s
read_form forms.FormatString s = format_string s
read_form forms.Assertion s = assertion s
read_form forms.Name s = name s
read_form forms.Group s = group s
read_form forms.List s = r.list s
read_form forms.Missing s = missing s
