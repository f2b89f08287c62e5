-- Among tokens that derive items, each indent comes after a colon, with no dedent between them.
use Rattle.std.proofs.Common.{◌≡◌, ℕ, Bool, true, false, cond, List, [], ◌∷◌, Option, refl, sym, ap, subst}
use Rattle.justfile_vocabulary.specs.declared.token_kind.TokenKind.{TokenKind}
use Rattle.justfile_vocabulary.specs.declared.token_kind.TokenKind.TheVariants as kinds
use Rattle.justfile_model.specs.Grammars.Expressions.{Tokens, IsKind}
use Rattle.justfile_model.specs.Grammars.Features.{ConstructFeatures, Noted}
use Rattle.justfile_model.specs.Grammars.Grammar as g
use Rattle.justfile_model.specs.Grammars.Grammar.{BeforeBody, Block, File, ItemRest, Items, TokenProjection}
use Rattle.justfile_model.specs.Grammars.Headers as headers
use Rattle.justfile_model.specs.Grammars.Headers.{HeaderOf, Parameters}
use Rattle.justfile_model.specs.Lexing.SignificantTokens.{SignificantToken, is_whitespace, significant_from}
use Rattle.justfile_model.specs.Lexing.Tok.{Tok}
use Rattle.justfile_model.specs.Trees.Tree.{Content, Header, Parameter, WrittenItem}
use Rattle.justfile_chunks.proofs.AgainAttributes as again_attributes
use Rattle.justfile_chunks.proofs.AgainHeaders as again_headers
use Rattle.justfile_chunks.proofs.AgainItems as again_items
use Rattle.justfile_chunks.proofs.Over.{Ahead, Over, is_inside, is_quiet, more, same, step}
use Rattle.justfile_chunks.proofs.Passes.{bare, self_ahead}

-- a colon came, and no dedent since
abbrev pub colon_after : TokenKind → Bool → Bool
colon_after kinds.Colon colon = true
colon_after kinds.Dedent colon = false
colon_after _ colon = colon

abbrev pub NeedsColon : TokenKind → Bool → Type 0
NeedsColon kinds.Indent colon = colon ≡ true
NeedsColon _ colon = Unit {0}

-- Each indent comes after a colon, with no dedent between them. The flag says that there is one before these tokens.
abbrev pub IndentsHaveColons : Bool → List Tok → Type 0
IndentsHaveColons colon [] = Unit {0}
IndentsHaveColons colon (t ∷ ts) = NeedsColon t.kind colon × IndentsHaveColons (colon_after t.kind colon) ts

-- the last token is one of this kind
abbrev pub LastIs : TokenKind → Tokens → Type 0
LastIs kind [] = ⊥
LastIs kind (t ∷ []) = IsKind kind t
LastIs kind (t ∷ u ∷ ts) = LastIs kind (u ∷ ts)

last_more : (kind : TokenKind) (t : SignificantToken) (ts : Tokens) → LastIs kind ts → LastIs kind (t ∷ ts)
last_more kind t [] h = absurd h
last_more kind t (u ∷ ts) h = h

-- they are so, and the last token is the end
pub record Colons (colon : Bool) (ts : Tokens) : Type 0 where
  pub are : IndentsHaveColons colon (bare ts)
  pub last : LastIs kinds.Eof ts

-- ---- tokens

put : {kind : TokenKind} {t : SignificantToken} {ts : Tokens} (colon : Bool) → IsKind kind t → NeedsColon kind colon → Colons (colon_after kind colon) ts
    → Colons colon (t ∷ ts)
put {t = t} {ts = ts} colon kind n h = record {
  are = subst (λ k. NeedsColon k colon × IndentsHaveColons (colon_after k colon) (bare ts)) (sym kind) (n, h.are);
  last = last_more kinds.Eof t ts h.last;
}

-- the end
put_end : {t : SignificantToken} (colon : Bool) → IsKind kinds.Eof t → Colons colon (t ∷ [])
put_end colon kind = record { are = (subst (λ k. NeedsColon k colon) (sym kind) tt, tt); last = kind }

quiet_needs : (k : TokenKind) → is_quiet k ≡ true → (colon : Bool) → NeedsColon k colon
quiet_needs kinds.Indent q colon = cc
quiet_needs _ q colon = tt

inside_needs : (k : TokenKind) → is_inside k ≡ true → (colon : Bool) → NeedsColon k colon
inside_needs kinds.Indent q colon = cc
inside_needs _ q colon = tt

quiet_keeps : (k : TokenKind) → is_quiet k ≡ true → colon_after k true ≡ true
quiet_keeps kinds.Dedent q = q
quiet_keeps _ q = refl

over : {ok : TokenKind → Bool} (needs : (k : TokenKind) → ok k ≡ true → (colon : Bool) → NeedsColon k colon) {rest y ts after : Tokens}
    → Over ok rest y ts after
    → ((colon : Bool) → Colons colon rest) → (colon : Bool) → Colons colon ts
over needs same h colon = h colon
over needs (step {t = t} {a = ts} q o) h colon =
    let r = over needs o h (colon_after t.tok.kind colon) in
    record { are = (needs t.tok.kind q colon, r.are); last = last_more kinds.Eof t ts r.last }

-- a colon stays
over_colon : {rest y ts after : Tokens} → Over is_quiet rest y ts after → Colons true rest → Colons true ts
over_colon same h = h
over_colon (step {t = t} {a = ts} q o) h =
    let r = over_colon o h in
    record {
      are = (quiet_needs t.tok.kind q true, subst (λ c. IndentsHaveColons c (bare ts)) (sym (quiet_keeps t.tok.kind q)) r.are);
      last = last_more kinds.Eof t ts r.last;
    }

before_colons : {comment : Option (List ℕ)} {ts rest : Tokens} → BeforeBody comment ts rest → Colons true rest → Colons true ts
before_colons (g.at_once kind kind2) h = put true kind tt (put true kind2 refl h)
before_colons (g.commented kind kind2 kind3) h = put true kind tt (put true kind2 tt (put true kind3 refl h))

module _ {A B C S : Type 0} (projection : TokenProjection A B C S) (MayEnter : ℕ → Option SignificantToken → Type 0) where
  parameters_colons : {ps : List (Parameter A B)} {fs : List (Noted B)} {ts rest y : Tokens}
      → Parameters projection.leaf projection.position MayEnter ps fs ts rest → Ahead rest y
      → Colons true rest → (colon : Bool) → Colons colon ts
  parameters_colons (headers.none kind) a h = λ colon. put colon kind tt h
  parameters_colons (headers.more p others) a h =
      let o = again_headers.parameters projection.leaf projection.position projection.star MayEnter others a in
      let r = again_headers.parameter projection.leaf projection.position projection.star MayEnter p o.ahead in
      over quiet_needs r.over (parameters_colons others a h)
  parameters_colons (headers.plus kind p kind2) a h =
      let r = again_headers.parameter projection.leaf projection.position projection.star MayEnter p (more a) in
      over quiet_needs (step (ap is_quiet kind) r.over) (λ colon. put colon kind2 tt h)
  parameters_colons (headers.star kind p kind2) a h =
      let r = again_headers.parameter projection.leaf projection.position projection.star MayEnter p (more a) in
      over quiet_needs (step (ap is_quiet kind) r.over) (λ colon. put colon kind2 tt h)

  header_colons : {x : Header A B S} {fs : List (Noted B)} {ts rest y : Tokens}
      → HeaderOf projection.leaf projection.position projection.star MayEnter x fs ts rest → Ahead rest y
      → Colons true rest → (colon : Bool) → Colons colon ts
  header_colons (headers.quiet kind (headers.header kind2 ps ds)) a h =
      let d = again_headers.all_dependencies projection.leaf projection.position projection.star MayEnter ds a in
      λ colon. put colon kind tt (put colon kind2 tt (parameters_colons ps d.ahead (over_colon d.over h) colon))
  header_colons (headers.loud (headers.header kind ps ds)) a h =
      let d = again_headers.all_dependencies projection.leaf projection.position projection.star MayEnter ds a in
      λ colon. put colon kind tt (parameters_colons ps d.ahead (over_colon d.over h) colon)

  block_colons : {c : Content A B C S} {fs : List (Noted B)} {ts rest : Tokens} → Block projection MayEnter c fs ts rest → ((colon : Bool) → Colons colon rest)
      → (colon : Bool) → Colons colon ts
  block_colons {rest = rest} (g.recipe {body = body} x before lines some) h =
      let b = again_items.body_lines projection MayEnter lines rest in
      let f = again_items.before_body projection MayEnter before body in
      header_colons x f.ahead (before_colons before (over inside_needs b.again.over (λ colon. put colon b.is_dedent tt (h false)) true))

  mutual
    pub items_colons : {items : List (WrittenItem A B C S)} {fs : List (ConstructFeatures B)} {ts : Tokens} → Items projection MayEnter items fs ts
        → (colon : Bool)
        → Colons colon ts
    items_colons (g.end kind) colon = put_end colon kind
    items_colons (g.blank kind more) colon = put colon kind tt (items_colons more colon)
    items_colons (g.comment kind r) colon = put colon kind tt (rest_colons r colon)
    items_colons (g.on_line a o r) colon =
        let x = again_items.on_line projection MayEnter o (self_ahead projection MayEnter r) in
        let y = again_attributes.attribute_lines projection.leaf projection.position MayEnter a x.ahead in
        over inside_needs y.over (over quiet_needs x.over (rest_colons r)) colon
    items_colons (g.block {rest = rest} a b more) colon =
        let x = again_items.block projection MayEnter b rest in
        let y = again_attributes.attribute_lines projection.leaf projection.position MayEnter a x.ahead in
        over inside_needs y.over (block_colons b (items_colons more)) colon

    rest_colons : {items : List (WrittenItem A B C S)} {fs : List (ConstructFeatures B)} {ts : Tokens} → ItemRest projection MayEnter items fs ts
        → (colon : Bool) → Colons colon ts
    rest_colons (g.trailing kind e) colon = put colon kind tt (end_colons e colon)
    rest_colons (g.bare e) colon = end_colons e colon

    end_colons : {items : List (WrittenItem A B C S)} {fs : List (ConstructFeatures B)} {ts : Tokens} → g.LineEnd projection MayEnter items fs ts
        → (colon : Bool) → Colons colon ts
    end_colons (g.line_end kind more) colon = put colon kind tt (items_colons more colon)
    end_colons (g.file_end kind) colon = put_end colon kind

  pub file_colons : {items : List (WrittenItem A B C S)} {fs : List (ConstructFeatures B)} {ts : Tokens} → File projection MayEnter items fs ts
      → (colon : Bool) → Colons colon ts
  file_colons (g.with_byte_order_mark kind more) colon = put colon kind tt (items_colons more colon)
  file_colons (g.without_byte_order_mark more) colon = items_colons more colon

-- ---- with whitespace

white_needs : (k : TokenKind) → is_whitespace k ≡ true → (colon : Bool) → NeedsColon k colon
white_needs kinds.Indent e colon = cc
white_needs _ e colon = tt

white_keeps : (k : TokenKind) → is_whitespace k ≡ true → (colon : Bool) → colon_after k colon ≡ colon
white_keeps kinds.Colon e colon = cc
white_keeps _ e colon = cc

pub with_whitespace : (ts : List Tok) (glued colon : Bool) → IndentsHaveColons colon (bare (significant_from glued ts)) → IndentsHaveColons colon ts
with_whitespace [] glued colon h = tt
with_whitespace (t ∷ ts) glued colon h = by (with_whitespace ts false colon) (with_whitespace ts true (colon_after t.kind colon)) (is_whitespace t.kind) refl h
  where
    by : (IndentsHaveColons colon (bare (significant_from false ts)) → IndentsHaveColons colon ts)
        → (IndentsHaveColons (colon_after t.kind colon) (bare (significant_from true ts)) → IndentsHaveColons (colon_after t.kind colon) ts)
        → (b : Bool) → is_whitespace t.kind ≡ b
        → IndentsHaveColons colon (bare (cond b (significant_from false ts) (record { tok = t; glued = glued } ∷ significant_from true ts)))
        → IndentsHaveColons colon (t ∷ ts)
    by f k true e i = (white_needs t.kind e colon, subst (λ c. IndentsHaveColons c ts) (sym (white_keeps t.kind e colon)) (f i))
    by f k false e i = (i.0, k i.1)
