-- A file whose dedents are other tokens derives the same.
use Rattle.std.proofs.Common.{◌≡◌, ◌⊎◌, inl, inr, ◌∙◌, ℕ, Bool, true, false, cond, List, [], ◌∷◌, Option, refl, sym, ap, subst}
use Rattle.std.specs.List.{AllZip}
use Rattle.justfile_vocabulary.specs.declared.token_kind.TokenKind.{TokenKind}
use Rattle.justfile_vocabulary.specs.declared.token_kind.TokenKind.TheVariants as kinds
use Rattle.justfile_model.specs.Grammars.Expressions.{Tokens, IsKind}
use Rattle.justfile_model.specs.Grammars.Features.{ConstructFeatures, Noted}
use Rattle.justfile_model.specs.Grammars.Grammar as g
use Rattle.justfile_model.specs.Grammars.Grammar.{BeforeBody, Block, BodyLines, File, ItemRest, Items, LineRest, TokenProjection}
use Rattle.justfile_model.specs.Lexing.SignificantTokens.{SignificantToken, is_whitespace, significant_from}
use Rattle.justfile_model.specs.Lexing.Tok.{Tok}
use Rattle.justfile_model.specs.Trees.Tree.{BodyLine, Content, Fragment, WrittenItem}
use Rattle.justfile_model.proofs.Derivations.CarryExpressions.{Pairs, cons, nil, pairs_before}
use Rattle.justfile_chunks.proofs.AgainAttributes as again_attributes
use Rattle.justfile_chunks.proofs.AgainExpressions as again_expressions
use Rattle.justfile_chunks.proofs.AgainHeaders as again_headers
use Rattle.justfile_chunks.proofs.AgainItems as again_items
use Rattle.justfile_chunks.proofs.CutTokens.{significant}
use Rattle.justfile_chunks.proofs.Over.{Again, Ahead, Front, Over, is_inside, is_quiet, not_name, one, other_end, same, step}
use Rattle.justfile_chunks.proofs.Passes.{clash, self_ahead}

abbrev is_dedent : TokenKind → Bool
is_dedent kinds.Dedent = true
is_dedent _ = false

quiet_loud : (k : TokenKind) → is_quiet k ≡ true → is_dedent k ≡ false
quiet_loud kinds.Dedent q = sym q
quiet_loud _ q = refl

inside_loud : (k : TokenKind) → is_inside k ≡ true → is_dedent k ≡ false
inside_loud kinds.Dedent q = sym q
inside_loud _ q = refl

-- the same token, or another dedent
abbrev pub Near : SignificantToken → SignificantToken → Type 0
Near t u = (t ≡ u) ⊎ (IsKind kinds.Dedent t × IsKind kinds.Dedent u)

same_one : {t u : SignificantToken} → is_dedent t.tok.kind ≡ false → Near t u → t ≡ u
same_one n (inl e) = e
same_one n (inr d) = absurd (clash n (ap is_dedent d.0))

-- a near token has the same kind
kind_near : {kind : TokenKind} {t u : SignificantToken} → IsKind kind t → Near t u → IsKind kind u
kind_near k (inl e) = ap (λ (x : SignificantToken). x.tok.kind) (sym e) ∙ k
kind_near k (inr d) = d.1 ∙ sym d.0 ∙ k

pub near_back : {ts us : Tokens} → Pairs Near ts us → Pairs Near us ts
near_back nil = nil
near_back (cons n ns) = cons (by n) (near_back ns)
  where
    by : {t u : SignificantToken} → Near t u → Near u t
    by (inl e) = inl (sym e)
    by (inr d) = inr (d.1, d.0)

-- ---- tokens that end in these, and in those in their place

record Follows (x a us : Tokens) : Type 0 where
  after : Tokens
  near : Pairs Near x after
  followed : Front x after a us

follow : {ok : TokenKind → Bool} (loud : (k : TokenKind) → ok k ≡ true → is_dedent k ≡ false) {x y a b us : Tokens} → Over ok x y a b → Pairs Near a us
    → Follows x a us
follow loud {us = us} same ns = record { after = us; near = ns; followed = record { front = []; first_is = refl; second_is = refl } }
follow loud (step {t = t} q o) (cons n ns) =
    let f = follow loud o ns in
    record {
      after = f.after;
      near = f.near;
      followed = record {
        front = t ∷ f.followed.front;
        first_is = ap (λ l. t ∷ l) f.followed.first_is;
        second_is = λ i. sym (same_one (loud t.tok.kind q) n) i ∷ f.followed.second_is i;
      };
    }

-- what is derived with these at the end is derived with those
record Rederived (R : Tokens → Type 0) (a us : Tokens) : Type 0 where
  derives : R us
  ahead : Ahead a us

rederived : {ok : TokenKind → Bool} {x y a us : Tokens} {R : Tokens → Type 0} → Front x y a us → Again ok x y R a → Rederived R a us
rederived {ok = ok} {x = x} {y = y} {a = a} {R = R} f h =
    let is = other_end f.front x y h.after (subst (λ l. Over ok x y l h.after) f.first_is h.over) ∙ sym f.second_is in
    record { derives = subst R is h.derives; ahead = subst (Ahead a) is h.ahead }

-- before a token that is no dedent
record Until (t : SignificantToken) (x a us : Tokens) : Type 0 where
  after : Tokens
  near : Pairs Near x after
  followed : Front (t ∷ x) (t ∷ after) a us

until : {t : SignificantToken} {x a us : Tokens} → is_dedent t.tok.kind ≡ false → Follows (t ∷ x) a us → Until t x a us
until {t = t} {x = x} {a = a} {us = us} loud f = by f.after f.near f.followed
  where
    by : (after : Tokens) → Pairs Near (t ∷ x) after → Front (t ∷ x) after a us → Until t x a us
    by _ (cons {us = after} n ns) f =
        record { after = after; near = ns; followed = subst (λ u. Front (t ∷ x) (u ∷ after) a us) (sym (same_one loud n)) f }

near_ahead : {t u : SignificantToken} {x y : Tokens} → is_quiet t.tok.kind ≡ false → is_dedent t.tok.kind ≡ false → Near t u → Ahead (t ∷ x) (u ∷ y)
near_ahead {t = t} {x = x} {y = y} q loud n = subst (λ u. Ahead (t ∷ x) (u ∷ y)) (same_one loud n) (one (not_name t q))

-- what is derived up to some tokens
record Reached (R : Tokens → Type 0) (rest : Tokens) : Type 0 where
  after : Tokens
  near : Pairs Near rest after
  derives : R after

record ReachedAhead (R : Tokens → Type 0) (a us rest : Tokens) : Type 0 where
  after : Tokens
  near : Pairs Near rest after
  derives : R after
  ahead : Ahead a us

before_body : {comment : Option (List ℕ)} {ts rest us : Tokens} → BeforeBody comment ts rest → Pairs Near ts us
    → ReachedAhead (λ r. BeforeBody comment us r) ts us rest
before_body (g.at_once kind kind2) (cons n (cons {us = us} m ns)) =
    record { after = us; near = ns; derives = g.at_once (kind_near kind n) (kind_near kind2 m); ahead = near_ahead (ap is_quiet kind) (ap is_dedent kind) n }
before_body {comment = c} (g.commented kind kind2 kind3) (cons n (cons {u = v} m (cons {u = w} {us = us} l ns))) = record {
  after = us;
  near = ns;
  derives = subst (λ u. BeforeBody c (u ∷ v ∷ w ∷ us) us) (same_one (ap is_dedent kind) n) (g.commented kind (kind_near kind2 m) (kind_near kind3 l));
  ahead = near_ahead (ap is_quiet kind) (ap is_dedent kind) n;
}

module _ {A B C S : Type 0} (projection : TokenProjection A B C S) (MayEnter : ℕ → Option SignificantToken → Type 0) where
  -- ---- bodies

  abbrev Rest : List (Fragment A B) → List (Noted B) → Tokens → Tokens → Type 0
  Rest = LineRest projection.leaf projection.position MayEnter

  line_rest : {fragments : List (Fragment A B)} {fs : List (Noted B)} {ts rest us : Tokens} → Rest fragments fs ts rest → Pairs Near ts us
      → Reached (λ r. Rest fragments fs us r) rest
  line_rest (g.line_ends kind) (cons {us = us} n ns) =
      record { after = us; near = ns; derives = g.line_ends (kind_near kind n) }
  line_rest (g.body_ends kind) (cons {u = u} {us = us} n ns) =
      record { after = u ∷ us; near = cons n ns; derives = g.body_ends (kind_near kind n) }
  line_rest {fragments = fragments} {fs = fs} {rest = rest} (g.text kind others) (cons {us = us} n ns) =
      let r = line_rest others ns in
      subst (λ u. Reached (λ x. Rest fragments fs (u ∷ us) x) rest) (same_one (ap is_dedent kind) n)
      (record { after = r.after; near = r.near; derives = g.text kind r.derives })
  line_rest (g.interpolation {end = t} {others = x} kind e kind2 others) (cons n ns) =
      let name = not_end t kind2 in
      let self = again_expressions.expression projection.leaf projection.position MayEnter e (one {t = t} {a = x} {b = x} name) in
      let f = until (ap is_dedent kind2) (follow quiet_loud self.over ns) in
      let r = line_rest others f.near in
      let x = rederived f.followed (again_expressions.expression projection.leaf projection.position MayEnter e (one name)) in
      record { after = r.after; near = r.near; derives = g.interpolation (kind_near kind n) x.derives kind2 r.derives }
    where
      not_end : (t : SignificantToken) → IsKind kinds.InterpolationEnd t → IsKind kinds.Identifier t → ⊥
      not_end t k e = let bad : kinds.InterpolationEnd ≡ kinds.Identifier = sym k ∙ e in cc

  body_lines : {lines : List (BodyLine A B C)} {fs : List (Noted B)} {ts rest us : Tokens} → BodyLines projection MayEnter lines fs ts rest → Pairs Near ts us
      → Reached (λ r. BodyLines projection MayEnter lines fs us r) rest
  body_lines (g.no_line kind) (cons {us = us} n ns) = record { after = us; near = ns; derives = g.no_line (kind_near kind n) }
  body_lines {lines = lines} {fs = fs} {rest = rest} (g.empty_line kind others) (cons {us = us} n ns) =
      let r = body_lines others ns in
      subst (λ u. Reached (λ x. BodyLines projection MayEnter lines fs (u ∷ us) x) rest) (same_one (ap is_dedent kind) n)
      (record { after = r.after; near = r.near; derives = g.empty_line kind r.derives })
  body_lines {lines = lines} {fs = fs} {rest = rest} (g.some_line line others) (cons {us = us} n ns) =
      let l = line_rest line (cons (inl refl) ns) in
      let r = body_lines others l.near in
      subst (λ u. Reached (λ x. BodyLines projection MayEnter lines fs (u ∷ us) x) rest) (same_one (first_loud line) n)
      (record { after = r.after; near = r.near; derives = g.some_line l.derives r.derives })
    where
      first_loud : {f : Fragment A B} {fragments : List (Fragment A B)} {fs : List (Noted B)} {t : SignificantToken} {ts rest : Tokens}
          → Rest (f ∷ fragments) fs (t ∷ ts) rest → is_dedent t.tok.kind ≡ false
      first_loud (g.text kind others) = ap is_dedent kind
      first_loud (g.interpolation kind e kind2 others) = ap is_dedent kind

  block : {c : Content A B C S} {fs : List (Noted B)} {ts rest us : Tokens} → Block projection MayEnter c fs ts rest → Pairs Near ts us
      → ReachedAhead (λ r. Block projection MayEnter c fs us r) ts us rest
  block (g.recipe {body = body} h before lines some) ns =
      let self = again_headers.header projection.leaf projection.position projection.star MayEnter h (again_items.before_body projection MayEnter before body).ahead in
      let f = follow quiet_loud self.over ns in
      let b = before_body before f.near in
      let x = rederived f.followed (again_headers.header projection.leaf projection.position projection.star MayEnter h b.ahead) in
      let l = body_lines lines b.near in
      record { after = l.after; near = l.near; derives = g.recipe x.derives b.derives l.derives some; ahead = x.ahead }

  -- ---- items

  rest_ahead : {items : List (WrittenItem A B C S)} {fs : List (ConstructFeatures B)} {ts us : Tokens} → ItemRest projection MayEnter items fs ts
      → Pairs Near ts us → Ahead ts us
  rest_ahead (g.trailing kind e) (cons n ns) = near_ahead (ap is_quiet kind) (ap is_dedent kind) n
  rest_ahead (g.bare (g.line_end kind more)) (cons n ns) = near_ahead (ap is_quiet kind) (ap is_dedent kind) n
  rest_ahead (g.bare (g.file_end kind)) (cons n ns) = near_ahead (ap is_quiet kind) (ap is_dedent kind) n

  mutual
    items_near : {items : List (WrittenItem A B C S)} {fs : List (ConstructFeatures B)} {ts us : Tokens} → Items projection MayEnter items fs ts
        → Pairs Near ts us → Items projection MayEnter items fs us
    items_near (g.end kind) (cons n nil) = g.end (kind_near kind n)
    items_near (g.blank kind more) (cons n ns) = g.blank (kind_near kind n) (items_near more ns)
    items_near {items = items} {fs = fs} (g.comment kind r) (cons {us = us} n ns) =
        subst (λ u. Items projection MayEnter items fs (u ∷ us)) (same_one (ap is_dedent kind) n) (g.comment kind (rest_near r ns))
    items_near (g.on_line a o r) ns =
        let line = again_items.on_line projection MayEnter o (self_ahead projection MayEnter r) in
        let lines = again_attributes.attribute_lines projection.leaf projection.position MayEnter a line.ahead in
        let f = follow inside_loud lines.over ns in
        let h = follow quiet_loud line.over f.near in
        let x = rederived h.followed (again_items.on_line projection MayEnter o (rest_ahead r h.near)) in
        let y = rederived f.followed (again_attributes.attribute_lines projection.leaf projection.position MayEnter a x.ahead) in
        g.on_line y.derives x.derives (rest_near r h.near)
    items_near (g.block {rest = rest} a b more) ns =
        let line = again_items.block projection MayEnter b rest in
        let lines = again_attributes.attribute_lines projection.leaf projection.position MayEnter a line.ahead in
        let f = follow inside_loud lines.over ns in
        let x = block b f.near in
        let y = rederived f.followed (again_attributes.attribute_lines projection.leaf projection.position MayEnter a x.ahead) in
        g.block y.derives x.derives (items_near more x.near)

    rest_near : {items : List (WrittenItem A B C S)} {fs : List (ConstructFeatures B)} {ts us : Tokens} → ItemRest projection MayEnter items fs ts
        → Pairs Near ts us → ItemRest projection MayEnter items fs us
    rest_near {items = items} {fs = fs} (g.trailing kind e) (cons {us = us} n ns) =
        subst (λ u. ItemRest projection MayEnter items fs (u ∷ us)) (same_one (ap is_dedent kind) n) (g.trailing kind (end_near e ns))
    rest_near (g.bare e) ns = g.bare (end_near e ns)

    end_near : {items : List (WrittenItem A B C S)} {fs : List (ConstructFeatures B)} {ts us : Tokens} → g.LineEnd projection MayEnter items fs ts
        → Pairs Near ts us → g.LineEnd projection MayEnter items fs us
    end_near (g.line_end kind more) (cons n ns) = g.line_end (kind_near kind n) (items_near more ns)
    end_near (g.file_end kind) (cons n nil) = g.file_end (kind_near kind n)

  pub file_near : {items : List (WrittenItem A B C S)} {fs : List (ConstructFeatures B)} {ts us : Tokens} → File projection MayEnter items fs ts
      → Pairs Near ts us → File projection MayEnter items fs us
  file_near (g.with_byte_order_mark kind more) (cons n ns) = g.with_byte_order_mark (kind_near kind n) (items_near more ns)
  file_near (g.without_byte_order_mark more) ns = g.without_byte_order_mark (items_near more ns)

-- ---- tokens of a text

-- a token without bytes
abbrev pub IsEmptyDedent : Tok → Type 0
IsEmptyDedent t = (t.kind ≡ kinds.Dedent) × (t.lexeme ≡ [])

-- the same token, or another dedent
abbrev pub NearToken : Tok → Tok → Type 0
NearToken t u = (t ≡ u) ⊎ (IsEmptyDedent t × IsEmptyDedent u)

-- a token of this kind before others
abbrev put : Bool → Tok → List Tok → TokenKind → Tokens
put glued t ts kind = cond (is_whitespace kind) (significant_from false ts) (significant t glued ∷ significant_from true ts)

-- so are the significant ones
pub near_tokens : (ts us : List Tok) → AllZip NearToken ts us → (glued : Bool) → Pairs Near (significant_from glued ts) (significant_from glued us)
near_tokens [] [] h glued = nil
near_tokens (t ∷ ts) (u ∷ us) h glued = by h.0 (near_tokens ts us h.1)
  where
    by : NearToken t u → ((g : Bool) → Pairs Near (significant_from g ts) (significant_from g us))
        → Pairs Near (significant_from glued (t ∷ ts)) (significant_from glued (u ∷ us))
    by (inl e) more =
        subst (λ x. Pairs Near (significant_from glued (t ∷ ts)) (significant_from glued (x ∷ us))) e (pairs_before _ _ (is_whitespace t.kind) (inl refl) (more false) (more true))
    by (inr d) more =
        subst (λ k. Pairs Near (put glued t ts k) (put glued u us u.kind)) (sym d.0.0)
        (subst (λ k. Pairs Near (put glued t ts kinds.Dedent) (put glued u us k)) (sym d.1.0) (cons (inr (d.0.0, d.1.0)) (more true)))
near_tokens _ _ h glued = absurd h
