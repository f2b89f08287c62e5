-- Parts of items derive from at least one token, and have at most as many names as identifiers.
use Rattle.std.proofs.Common.{ℕ, ◌+◌, ◌≤◌, List, ◌∷◌, length, Option, arith}
use Rattle.justfile_model.specs.Grammars.Expressions.{Tokens}
use Rattle.justfile_model.specs.Grammars.Features.{Noted}
use Rattle.justfile_model.specs.Grammars.ItemParts as g
use Rattle.justfile_model.specs.Grammars.ItemParts.{FilePath, Names, ValueOf}
use Rattle.justfile_model.specs.Grammars.Settings.{SettingForm}
use Rattle.justfile_model.specs.Lexing.SignificantTokens.{SignificantToken, identifiers}
use Rattle.justfile_model.specs.Lexing.Tok.{Tok}
use Rattle.justfile_model.specs.Trees.Tree.{Quoted, SettingValue}
use Rattle.justfile_model.proofs.Derivations.ExpressionProgress.{LeftOf, expression_left, later, next, sequence_left}
use Rattle.justfile_model.proofs.Derivations.HeaderProgress.{counts_one}

module _ {A : Type 0} (leaf : Tok → A) where
  pub file_path_left : {path : Quoted A} {ts rest : Tokens} → FilePath leaf path ts rest → LeftOf rest ts
  file_path_left (g.plain kind) = next
  file_path_left (g.expanded is kind) = later next

  pub names_count : {names : List A} {ts rest : Tokens} → Names leaf names ts rest → length names + identifiers rest ≤ identifiers ts
  names_count (g.none kind) = omega arith
  names_count (g.last {name = name} kind kind2) = omega (arith, counts_one name.tok.kind kind)
  names_count (g.more {name = name} kind kind2 ns) = omega (arith, counts_one name.tok.kind kind, names_count ns)

module _ {A B : Type 0} (leaf : Tok → A) (position : Tok → B) (MayEnter : ℕ → Option SignificantToken → Type 0) where
  -- after the name of a setting
  pub value_left : {form : SettingForm} {value : SettingValue A B} {fs : List (Noted B)} {t : SignificantToken} {ts rest : Tokens} → ValueOf leaf position MayEnter form value fs ts rest
      → LeftOf rest (t ∷ ts)
  value_left (g.bare ends) = next
  value_left (g.yes kind is) = later (later next)
  value_left (g.no kind is) = later (later next)
  value_left (g.expression kind e) = later (later (expression_left leaf position MayEnter e))
  value_left (g.plain kind e) = later (later (expression_left leaf position MayEnter e))
  value_left (g.interpreter kind kind2 s) = later (later (later (sequence_left leaf position MayEnter s)))
