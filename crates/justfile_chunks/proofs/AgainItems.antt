-- A construct is derived again before other tokens: one on a line before those that look the same, a recipe with a body before any.
use Rattle.std.proofs.Common.{ℕ, false, List, ◌∷◌, Option, refl, ap}
use Rattle.justfile_vocabulary.specs.declared.token_kind.TokenKind.TheVariants as kinds
use Rattle.justfile_model.specs.Grammars.Expressions.{Tokens, Expression, IsKind}
use Rattle.justfile_model.specs.Grammars.Features.{Noted}
use Rattle.justfile_model.specs.Grammars.Grammar as g
use Rattle.justfile_model.specs.Grammars.Grammar.{BeforeBody, Block, BodyLines, LineRest, OnLine, TokenProjection}
use Rattle.justfile_model.specs.Grammars.ItemParts as parts
use Rattle.justfile_model.specs.Grammars.ItemParts.{FilePath, Names, ValueOf}
use Rattle.justfile_model.specs.Grammars.Settings.{SettingForm}
use Rattle.justfile_model.specs.Lexing.SignificantTokens.{SignificantToken}
use Rattle.justfile_model.specs.Lexing.Tok.{Tok}
use Rattle.justfile_model.specs.Trees.Tree.{BodyLine, Content, Expr, Fragment, Quoted, SettingValue}
use Rattle.justfile_chunks.proofs.AgainExpressions as expressions
use Rattle.justfile_chunks.proofs.AgainHeaders as headers
use Rattle.justfile_chunks.proofs.Over.{Again, Local, again, any_of, ends_line, followed, headed, is_any, is_inside, is_quiet, joined, more, no_path, not_name, one, past, quiet_inside, rule, same, step, token, two, widened}

module _ {A : Type 0} (leaf : Tok → A) where
  file_path : {p : Quoted A} {ts x y : Tokens} → Local is_quiet (FilePath leaf p) ts x y
  file_path (parts.plain kind) h = again (parts.plain kind) (step (ap is_quiet kind) same) h
  file_path (parts.expanded w kind) h = again (parts.expanded w kind) (step (ap is_quiet w.is_name) (step (ap is_quiet kind) same)) h

  names : {ns : List A} {ts x y : Tokens} → Local is_quiet (Names leaf ns) ts x y
  names (parts.none kind) h = again (parts.none kind) (step (ap is_quiet kind) same) h
  names (parts.last kind kind2) h = again (parts.last kind kind2) (step (ap is_quiet kind) (step (ap is_quiet kind2) same)) h
  names (parts.more kind kind2 others) h = token kind refl (token kind2 refl (rule (names others h) (λ away r. parts.more kind kind2 r)))

module _ {A B C S : Type 0} (projection : TokenProjection A B C S) (MayEnter : ℕ → Option SignificantToken → Type 0) where
  expression : {e : Expr A B} {fs : List (Noted B)} {ts x y : Tokens}
      → Local is_quiet (Expression projection.leaf projection.position MayEnter false 0 e fs) ts x y
  expression = expressions.expression projection.leaf projection.position MayEnter

  setting_value : {form : SettingForm} {v : SettingValue A B} {fs : List (Noted B)} {ts x y : Tokens}
      → Local is_quiet (ValueOf projection.leaf projection.position MayEnter form v fs) ts x y
  setting_value (parts.bare ends) h = again (parts.bare (ends_line h ends)) same h
  setting_value (parts.yes kind w) h = again (parts.yes kind w) (step (ap is_quiet kind) (step (ap is_quiet w.is_name) same)) h
  setting_value (parts.no kind w) h = again (parts.no kind w) (step (ap is_quiet kind) (step (ap is_quiet w.is_name) same)) h
  setting_value (parts.expression kind e) h = token kind refl (rule (expression e h) (λ away r. parts.expression kind r))
  setting_value (parts.plain kind e) h = token kind refl (rule (expression e h) (λ away r. parts.plain kind r))
  setting_value (parts.interpreter kind kind2 es) h =
      token kind refl (token kind2 refl
      (rule (expressions.sequence projection.leaf projection.position MayEnter es refl h) (λ away r. parts.interpreter kind kind2 r)))

  pub on_line : {c : Content A B C S} {fs : List (Noted B)} {ts x y : Tokens} → Local is_quiet (OnLine projection MayEnter c fs) ts x y
  on_line (g.alias w kind kind2 p) h =
      token w.is_name refl (token kind refl (token kind2 refl (rule (headers.path projection.leaf p h) (λ away r. g.alias w kind kind2 r))))
  on_line (g.assignment kind kind2 e) h = token kind refl (token kind2 refl (rule (expression e h) (λ away r. g.assignment kind kind2 r)))
  on_line (g.eager w kind kind2 e) h =
      token w.is_name refl (token kind refl (token kind2 refl (rule (expression e h) (λ away r. g.eager w kind kind2 r))))
  on_line (g.export w kind kind2 e) h =
      token w.is_name refl (token kind refl (token kind2 refl (rule (expression e h) (λ away r. g.export w kind kind2 r))))
  on_line (g.function kind kind2 ns kind3 e) h =
      let r = expression e h in
      token kind refl (token kind2 refl (rule (joined r kind3 refl (names projection.leaf ns (more r.ahead))) (λ away n. g.function kind kind2 n kind3 r.derives)))
  on_line (g.import w p) h = token w.is_name refl (rule (file_path projection.leaf p h) (λ away r. g.import w r))
  on_line (g.optional_import w kind p) h =
      token w.is_name refl (token kind refl (rule (file_path projection.leaf p h) (λ away r. g.optional_import w kind r)))
  on_line (g.module_alone w kind ends) h = again (g.module_alone w kind (ends_line h ends)) (step (ap is_quiet w.is_name) (step (ap is_quiet kind) same)) h
  on_line (g.module_at w kind p) h = token w.is_name refl (token kind refl (rule (file_path projection.leaf p h) (λ away r. g.module_at w kind r)))
  on_line (g.optional_module_alone w kind kind2 none) h =
      again (g.optional_module_alone w kind kind2 (no_path h none)) (step (ap is_quiet w.is_name) (step (ap is_quiet kind) (step (ap is_quiet kind2) same))) h
  on_line (g.optional_module_at w kind kind2 p) h =
      token w.is_name refl (token kind refl (token kind2 refl (rule (file_path projection.leaf p h) (λ away r. g.optional_module_at w kind kind2 r))))
  on_line (g.setting w w2 form v) h = token w.is_name refl (token w2.is_name refl (rule (setting_value v h) (λ away r. g.setting w w2 form r)))
  on_line (g.unexport w kind ends) h = again (g.unexport w kind (ends_line h ends)) (step (ap is_quiet w.is_name) (step (ap is_quiet kind) same)) h
  on_line (g.header x) h = rule (headers.header projection.leaf projection.position projection.star MayEnter x h) (λ away r. g.header r)

  -- ---- bodies

  line_rest : {fragments : List (Fragment A B)} {fs : List (Noted B)} {ts x y : Tokens}
      → Local is_inside (LineRest projection.leaf projection.position MayEnter fragments fs) ts x y
  line_rest (g.line_ends kind) h = again (g.line_ends kind) (step (ap is_inside kind) same) h
  line_rest (g.body_ends kind) (one away) = record { after = _; derives = g.body_ends kind; over = same; ahead = one away }
  line_rest (g.body_ends kind) two = record { after = _; derives = g.body_ends kind; over = same; ahead = two }
  line_rest (g.text kind others) h = token kind refl (rule (line_rest others h) (λ away r. g.text kind r))
  line_rest (g.interpolation kind e kind2 others) h =
      let r = line_rest others h in
      let x = expression e (more r.ahead) in
      again (g.interpolation kind x.derives kind2 r.derives)
      (step (ap is_inside kind) (past (widened quiet_inside x.over) (step (ap is_inside kind2) r.over))) h

  -- what is derived up to the end of a body is derived again before any other tokens
  pub record BodyAgain (x y : Tokens) (R : Tokens → Type 0) (a : Tokens) : Type 0 where
    pub dedent : SignificantToken
    pub is_dedent : IsKind kinds.Dedent dedent
    pub again : Again is_inside (dedent ∷ x) (dedent ∷ y) R a

  pub body_lines : {lines : List (BodyLine A B C)} {fs : List (Noted B)} {ts x : Tokens} → BodyLines projection MayEnter lines fs ts x → (y : Tokens)
      → BodyAgain x y (λ r. BodyLines projection MayEnter lines fs r y) ts
  body_lines (g.no_line {token = t} kind) y =
      record { dedent = t; is_dedent = kind; again = record { after = _; derives = g.no_line kind; over = same; ahead = one (not_name t (ap is_quiet kind)) } }
  body_lines (g.empty_line kind others) y =
      let b = body_lines others y in
      record { dedent = b.dedent; is_dedent = b.is_dedent; again = token kind refl (rule b.again (λ away r. g.empty_line kind r)) }
  body_lines (g.some_line line others) y =
      let b = body_lines others y in
      record { dedent = b.dedent; is_dedent = b.is_dedent; again = headed (followed b.again (line_rest line b.again.ahead)) (λ r away l. g.some_line l b.again.derives) }

  pub before_body : {comment : Option (List ℕ)} {ts x : Tokens} → BeforeBody comment ts x → (y : Tokens) → Again is_any x y (λ r. BeforeBody comment r y) ts
  before_body (g.at_once {newline = t} kind kind2) y =
      record { after = _; derives = g.at_once kind kind2; over = step refl (step refl same); ahead = one (not_name t (ap is_quiet kind)) }
  before_body (g.commented {comment = t} kind kind2 kind3) y =
      record { after = _; derives = g.commented kind kind2 kind3; over = step refl (step refl (step refl same)); ahead = one (not_name t (ap is_quiet kind)) }

  pub block : {c : Content A B C S} {fs : List (Noted B)} {ts x : Tokens} → Block projection MayEnter c fs ts x → (y : Tokens)
      → Again is_any x y (λ r. Block projection MayEnter c fs r y) ts
  block (g.recipe x before lines some) y =
      let b = body_lines lines y in
      let f = before_body before b.again.after in
      let r = headers.header projection.leaf projection.position projection.star MayEnter x f.ahead in
      record {
        after = r.after;
        derives = g.recipe r.derives f.derives b.again.derives some;
        over = past (any_of r.over) (past f.over (past (any_of b.again.over) (step refl same)));
        ahead = r.ahead;
      }
