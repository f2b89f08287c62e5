-- The features of attributes are determined by the attributes.
use Rattle.std.proofs.Common.{◌≡◌, ℕ, Bool, false, List, [], ◌∷◌, ◌++◌, Option, Some, None, refl, sym, ap, ◌∙◌, append_assoc}
use Rattle.std.proofs.lemmas.List.{append-nil}
use Rattle.justfile_model.specs.Grammars.AttributeLines as g
use Rattle.justfile_model.specs.Grammars.AttributeLines.{ArgumentOf, Arguments, AttributeOf, Bracketed, AttributeLines}
use Rattle.justfile_model.specs.Grammars.Expressions.{Tokens}
use Rattle.justfile_model.specs.Printed.PrintedAttributes.{rewritten_entries}
use Rattle.justfile_model.specs.Lexing.SignificantTokens.{SignificantToken}
use Rattle.justfile_model.specs.Trees.Tree.{Positional, Bare, Keyed, at_last, commented_attribute, commented_line, lexeme, nothing}
use Rattle.justfile_round_trip.proofs.Canon.{Shown}
use Rattle.justfile_round_trip.proofs.Attributes.CanonAttributes.{Argument, Written, ShapeEntry}
use Rattle.justfile_round_trip.proofs.Determined.{value_features, of_expression}

abbrev pub argument_features : Argument → Shown
argument_features (Positional first value) = value_features false value
argument_features (Bare key) = []
argument_features (Keyed key value) = value_features false value

abbrev pub arguments_features : List Argument → Shown
arguments_features [] = []
arguments_features (a ∷ arguments) = argument_features a ++ arguments_features arguments

abbrev pub written_features : List Written → Shown
written_features [] = []
written_features (w ∷ ws) = arguments_features w.arguments ++ written_features ws

-- the features of the meaning of attributes: those of their printed form
abbrev pub entries_features : List ShapeEntry → Shown
entries_features entries = written_features (rewritten_entries entries)

written_joined : (ws others : List Written) → written_features (ws ++ others) ≡ written_features ws ++ written_features others
written_joined [] others = refl
written_joined (w ∷ ws) others =
    ap (λ fs. arguments_features w.arguments ++ fs) (written_joined ws others)
    ∙ sym (append_assoc (arguments_features w.arguments) (written_features ws) (written_features others))

-- comments note nothing
last_noted : (c : List ℕ) (ws : List Written) → written_features (at_last (commented_attribute c) ws) ≡ written_features ws
last_noted c [] = refl
last_noted c (w ∷ []) = refl
last_noted c (w ∷ v ∷ ws) = ap (λ fs. arguments_features w.arguments ++ fs) (last_noted c (v ∷ ws))

commented_noted : (comment : Option (List ℕ)) (ws : List Written) → written_features (commented_line comment ws) ≡ written_features ws
commented_noted None ws = refl
commented_noted (Some c) ws = last_noted c ws

module _ (MayEnter : ℕ → Option SignificantToken → Type 0) where
  of_argument : {keys : Bool} {a : Argument} {fs : Shown} {ts rest : Tokens} → ArgumentOf lexeme nothing MayEnter keys a fs ts rest → fs ≡ argument_features a
  of_argument (g.positional no_key x) = of_expression MayEnter x
  of_argument (g.bare key next) = refl
  of_argument (g.keyed kind kind2 x) = of_expression MayEnter x

  of_arguments : {keys : Bool} {arguments : List Argument} {fs : Shown} {ts rest : Tokens} → Arguments lexeme nothing MayEnter keys arguments fs ts rest
      → fs ≡ arguments_features arguments
  of_arguments (g.none kind) = refl
  of_arguments (g.last {fs = fs} a kind) = sym (append-nil fs) ∙ ap (λ fs. fs ++ []) (of_argument a)
  of_arguments (g.more a kind others) = λ i. of_argument a i ++ of_arguments others i

  of_attribute : {w : Written} {fs : Shown} {ts rest : Tokens} → AttributeOf lexeme nothing MayEnter w fs ts rest → fs ≡ arguments_features w.arguments
  of_attribute (g.plain kind no_colon no_paren) = refl
  of_attribute (g.short {fs = fs} kind kind2 x) = sym (append-nil fs) ∙ ap (λ fs. fs ++ []) (of_expression MayEnter x)
  of_attribute (g.long kind kind2 inside) = of_arguments inside

  of_bracketed : {ws : List Written} {fs : Shown} {ts rest : Tokens} → Bracketed lexeme nothing MayEnter ws fs ts rest → fs ≡ written_features ws
  of_bracketed (g.last {fs = fs} w kind) = sym (append-nil fs) ∙ ap (λ fs. fs ++ []) (of_attribute w)
  of_bracketed (g.more w kind others) = λ i. of_attribute w i ++ of_bracketed others i

  -- the features of lines of attributes
  pub of_attribute_lines : {ws : List Written} {fs : Shown} {ts rest : Tokens} → AttributeLines lexeme nothing MayEnter ws fs ts rest → fs ≡ written_features ws
  of_attribute_lines (g.none next) = refl
  of_attribute_lines (g.line {ws = ws} {others = others} {comment = comment} kind inside end after) =
      (λ i. (of_bracketed inside ∙ sym (commented_noted comment ws)) i ++ of_attribute_lines after i) ∙ sym (written_joined (commented_line comment ws) others)
