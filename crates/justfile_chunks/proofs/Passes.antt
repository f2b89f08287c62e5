-- A place between tokens at which a line or a body ends, outside of bodies, is in no attribute, header or body.
use Rattle.std.proofs.Common.{◌≡◌, ◌≢◌, ◌⊎◌, ◌∙◌, ℕ, Bool, true, false, cond, List, [], ◌∷◌, map, Option, Some, None, refl, sym, ap}
use Rattle.justfile_vocabulary.specs.declared.token_kind.TokenKind.{TokenKind}
use Rattle.justfile_vocabulary.specs.declared.token_kind.TokenKind.TheVariants as kinds
use Rattle.justfile_model.specs.Grammars.AttributeLines as attributes
use Rattle.justfile_model.specs.Grammars.AttributeLines.{AttributeLines, AttributesEnd}
use Rattle.justfile_model.specs.Grammars.Expressions.{Tokens, IsKind}
use Rattle.justfile_model.specs.Grammars.Features.{ConstructFeatures, Noted}
use Rattle.justfile_model.specs.Grammars.Grammar as g
use Rattle.justfile_model.specs.Grammars.Grammar.{BeforeBody, Block, ItemRest, OnLine, TokenProjection}
use Rattle.justfile_model.specs.Grammars.Headers as headers
use Rattle.justfile_model.specs.Grammars.Headers.{HeaderOf}
use Rattle.justfile_model.specs.Lexing.SignificantTokens.{SignificantToken}
use Rattle.justfile_model.specs.Lexing.Tok.{Tok}
use Rattle.justfile_model.specs.Trees.Tree.{Content, Header, WrittenAttribute, WrittenItem}
use Rattle.justfile_chunks.specs.Chunks.{ends_line, first_or, is_ignored, line_kind, next_kind}
use Rattle.justfile_chunks.proofs.AgainAttributes as again_attributes
use Rattle.justfile_chunks.proofs.AgainHeaders as again_headers
use Rattle.justfile_chunks.proofs.AgainItems as again_items
use Rattle.justfile_chunks.proofs.Over.{Ahead, Over, is_inside, is_quiet, not_name, one, same, step}

-- the tokens themselves
abbrev pub bare : Tokens → List Tok
bare ts = map (λ t. t.tok) ts

-- whether a body is open after a token
abbrev pub open_after : TokenKind → Bool → Bool
open_after kinds.Indent body = true
open_after kinds.Dedent body = false
open_after _ body = body

-- whether a body is open after the earlier tokens, the last one first
abbrev pub in_body : Tokens → Bool
in_body [] = false
in_body (t ∷ earlier) = open_after t.tok.kind (in_body earlier)

-- A line or a body ends with this token, and with it what belongs to an item.
pub record CutAfter (later : Tokens) (t : SignificantToken) (earlier : Tokens) : Type 0 where
  pub ends : ends_line t.tok.kind ≡ true
  pub outside : in_body (t ∷ earlier) ≡ false
  pub no_body : next_kind (bare later) ≢ Some kinds.Indent
  pub no_attributes : line_kind (bare earlier) ≢ Some kinds.BracketL
  pub no_doc : line_kind (bare earlier) ≡ Some kinds.Comment → (next_kind (bare later) ≡ Some kinds.Comment) ⊎ (next_kind (bare later) ≡ Some kinds.Eol)

abbrev pub CutHere : (later earlier : Tokens) → Type 0
CutHere later [] = ⊥
CutHere later (t ∷ earlier) = CutAfter later t earlier

-- in the tokens after the earlier ones, a place before this token and others, after which the fact holds of what is earlier
pub data At (K : Tokens → Type 0) (u : SignificantToken) (x : Tokens) : (earlier ts : Tokens) → Type 0 where
  here : {earlier : Tokens} → K earlier → At K u x earlier (u ∷ x)
  later : {t : SignificantToken} {earlier ts : Tokens} → At K u x (t ∷ earlier) ts → At K u x earlier (t ∷ ts)

-- ---- kinds

pub clash : {b : Bool} → b ≡ false → b ≡ true → ⊥
clash h k = let bad : false ≡ true = sym h ∙ k in cc

-- the last token ends no line and no body
abbrev pub LastOpen : Tokens → Type 0
LastOpen [] = Unit {0}
LastOpen (t ∷ earlier) = ends_line t.tok.kind ≡ false

pub no_cut : (cut earlier : Tokens) → LastOpen earlier → CutHere cut earlier → ⊥
no_cut cut [] o k = k
no_cut cut (t ∷ earlier) o k = clash o k.ends

pub quiet_open : (k : TokenKind) → is_quiet k ≡ true → ends_line k ≡ false
quiet_open kinds.Eol q = sym q
quiet_open kinds.Dedent q = sym q
quiet_open _ q = refl

-- the kind of the first token of the line with one more token
abbrev pub line_with : TokenKind → Option TokenKind → Option TokenKind
line_with k line = cond (is_ignored k) line (cond (ends_line k) None (Some (first_or k line)))

-- at the start of a line
abbrev pub AtStart : Tokens → Type 0
AtStart earlier = line_kind (bare earlier) ≡ None

pub line_ended : (k : TokenKind) (line : Option TokenKind) → ends_line k ≡ true → line_with k line ≡ None
line_ended kinds.Eol line e = cc
line_ended _ line e = cc

pub starts : (t : SignificantToken) (earlier : Tokens) → ends_line t.tok.kind ≡ true → AtStart (t ∷ earlier)
starts t earlier e = line_ended t.tok.kind (line_kind (bare earlier)) e

-- a byte order mark is on the first line
pub mark_start : (t : SignificantToken) → IsKind kinds.ByteOrderMark t → AtStart (t ∷ [])
mark_start t kind = ap (λ k. line_with k None) kind

line_begun : (k first : TokenKind) → ends_line k ≡ false → line_with k (Some first) ≡ Some first
line_begun kinds.Eol first e = cc
line_begun kinds.Dedent first e = cc
line_begun kinds.ByteOrderMark first e = refl
line_begun _ first e = refl

-- the line goes on with this token
pub goes_on : (t : SignificantToken) (earlier : Tokens) (first : TokenKind) → ends_line t.tok.kind ≡ false → line_kind (bare earlier) ≡ Some first
    → line_kind (bare (t ∷ earlier)) ≡ Some first
goes_on t earlier first e h = ap (line_with t.tok.kind) h ∙ line_begun t.tok.kind first e

pub begins_line : (t : SignificantToken) (earlier : Tokens) (kind : TokenKind) → IsKind kind t → is_ignored kind ≡ false → ends_line kind ≡ false
    → AtStart earlier
    → line_kind (bare (t ∷ earlier)) ≡ Some kind
begins_line t earlier kind k i e h =
    (λ j. line_with (k j) (h j)) ∙ ap (λ b. cond b None (cond (ends_line kind) None (Some kind))) i ∙ ap (λ b. cond b None (Some kind)) e

inside_stays : (k : TokenKind) → is_inside k ≡ true → open_after k true ≡ true
inside_stays kinds.Dedent q = q
inside_stays _ q = refl

-- ---- first tokens

abbrev pub FirstQuiet : Tokens → Type 0
FirstQuiet [] = ⊥
FirstQuiet (t ∷ ts) = is_quiet t.tok.kind ≡ true

module _ {A B C S : Type 0} (projection : TokenProjection A B C S) (MayEnter : ℕ → Option SignificantToken → Type 0) where
  pub first_header : {x : Header A B S} {fs : List (Noted B)} {ts rest : Tokens}
      → HeaderOf projection.leaf projection.position projection.star MayEnter x fs ts rest → FirstQuiet ts
  first_header (headers.quiet kind n) = ap is_quiet kind
  first_header (headers.loud (headers.header kind ps ds)) = ap is_quiet kind

  pub first_on_line : {c : Content A B C S} {fs : List (Noted B)} {ts rest : Tokens} → OnLine projection MayEnter c fs ts rest → FirstQuiet ts
  first_on_line (g.alias w kind kind2 p) = ap is_quiet w.is_name
  first_on_line (g.assignment kind kind2 e) = ap is_quiet kind
  first_on_line (g.eager w kind kind2 e) = ap is_quiet w.is_name
  first_on_line (g.export w kind kind2 e) = ap is_quiet w.is_name
  first_on_line (g.function kind kind2 ns kind3 e) = ap is_quiet kind
  first_on_line (g.import w p) = ap is_quiet w.is_name
  first_on_line (g.optional_import w kind p) = ap is_quiet w.is_name
  first_on_line (g.module_alone w kind ends) = ap is_quiet w.is_name
  first_on_line (g.module_at w kind p) = ap is_quiet w.is_name
  first_on_line (g.optional_module_alone w kind kind2 none) = ap is_quiet w.is_name
  first_on_line (g.optional_module_at w kind kind2 p) = ap is_quiet w.is_name
  first_on_line (g.setting w w2 form v) = ap is_quiet w.is_name
  first_on_line (g.unexport w kind ends) = ap is_quiet w.is_name
  first_on_line (g.header x) = first_header x

  pub first_block : {c : Content A B C S} {fs : List (Noted B)} {ts rest : Tokens} → Block projection MayEnter c fs ts rest → FirstQuiet ts
  first_block (g.recipe x before lines some) = first_header x

  pub first_attributes : {ws : List (WrittenAttribute A B)} {fs : List (Noted B)} {ts rest : Tokens}
      → AttributeLines projection.leaf projection.position MayEnter ws fs ts rest
      → FirstQuiet rest → FirstQuiet ts
  first_attributes (attributes.none n) q = q
  first_attributes (attributes.line kind b e others) q = ap is_quiet kind

  pub self_ahead : {items : List (WrittenItem A B C S)} {fs : List (ConstructFeatures B)} {ts : Tokens} → ItemRest projection MayEnter items fs ts → Ahead ts ts
  self_ahead (g.trailing {token = t} kind e) = one (not_name t (ap is_quiet kind))
  self_ahead (g.bare (g.line_end {token = t} kind more)) = one (not_name t (ap is_quiet kind))
  self_ahead (g.bare (g.file_end {token = t} kind)) = one (not_name t (ap is_quiet kind))

  pub rest_loud : {items : List (WrittenItem A B C S)} {fs : List (ConstructFeatures B)} {ts : Tokens} → ItemRest projection MayEnter items fs ts
      → FirstQuiet ts → ⊥
  rest_loud (g.trailing kind e) q = clash (ap is_quiet kind) q
  rest_loud (g.bare (g.line_end kind more)) q = clash (ap is_quiet kind) q
  rest_loud (g.bare (g.file_end kind)) q = clash (ap is_quiet kind) q

before_loud : {comment : Option (List ℕ)} {ts rest : Tokens} → BeforeBody comment ts rest → FirstQuiet ts → ⊥
before_loud (g.at_once kind kind2) q = clash (ap is_quiet kind) q
before_loud (g.commented kind kind2 kind3) q = clash (ap is_quiet kind) q

-- ---- passing tokens

abbrev pub IsLater : {K : Tokens → Type 0} {u : SignificantToken} {x earlier ts : Tokens} → At K u x earlier ts → Type 0
IsLater (here k) = ⊥
IsLater (later at) = Unit {0}

pub later_of : {K : Tokens → Type 0} {u : SignificantToken} {x earlier ts : Tokens} (at : At K u x earlier ts) → is_quiet u.tok.kind ≡ false → FirstQuiet ts
    → IsLater at
later_of (here k) n q = absurd (clash n q)
later_of (later at) n q = tt

pub is_later : {K : Tokens → Type 0} {u : SignificantToken} {x earlier ts : Tokens} (at : At K u x earlier ts) → (K earlier → ⊥) → IsLater at
is_later (here k) n = n k
is_later (later at) n = tt

pub none_left : {K : Tokens → Type 0} {u : SignificantToken} {x earlier : Tokens} → At K u x earlier [] → ⊥
none_left at = elim at [ ]

-- if the place isn't before a token, it is in those after it
pub onward : {K : Tokens → Type 0} {u t : SignificantToken} {x earlier ts : Tokens} → At K u x earlier (t ∷ ts) → (K earlier → ⊥) → At K u x (t ∷ earlier) ts
onward (here k) n = absurd (n k)
onward (later at) n = at

-- the place is in these tokens, within a line that begins like this
pub record Within (K : Tokens → Type 0) (u : SignificantToken) (x : Tokens) (first : Option TokenKind) (ts : Tokens) : Type 0 where
  pub earlier : Tokens
  pub at : At K u x earlier ts
  pub unended : LastOpen earlier
  pub line : (kind : TokenKind) → first ≡ Some kind → line_kind (bare earlier) ≡ Some kind

-- the place is in these tokens, at the start of a line
pub record Onward (K : Tokens → Type 0) (u : SignificantToken) (x ts : Tokens) : Type 0 where
  pub earlier : Tokens
  pub at : At K u x earlier ts
  pub start : AtStart earlier

-- the same, and it isn't before them
pub record Later (K : Tokens → Type 0) (u : SignificantToken) (x ts : Tokens) : Type 0 where
  pub earlier : Tokens
  pub at : At K u x earlier ts
  pub start : AtStart earlier
  pub later : IsLater at

-- the place is in these tokens, in a body
record Inside (K : Tokens → Type 0) (u : SignificantToken) (x ts : Tokens) : Type 0 where
  earlier : Tokens
  at : At K u x earlier ts
  inside : in_body earlier ≡ true

module _ (cut : Tokens) (u : SignificantToken) (x : Tokens) where
  pass : {y rest ts after : Tokens} → Over is_quiet rest y ts after → (earlier : Tokens) → LastOpen earlier → At (CutHere cut) u x earlier ts
      → Within (CutHere cut) u x (line_kind (bare earlier)) rest
  pass same earlier o at = record { earlier = earlier; at = at; unended = o; line = λ kind h. h }
  pass (step {t = t} q over) earlier o at =
      let p = pass over (t ∷ earlier) (quiet_open t.tok.kind q) (onward at (no_cut cut earlier o)) in
      record { earlier = p.earlier; at = p.at; unended = p.unended; line = λ kind h. p.line kind (goes_on t earlier kind (quiet_open t.tok.kind q) h) }

  pass_first : {y rest ts after : Tokens} → Over is_quiet rest y ts after → FirstQuiet ts → (FirstQuiet rest → ⊥)
      → (earlier : Tokens) (at : At (CutHere cut) u x earlier ts)
      → IsLater at → (first : Option TokenKind) × Within (CutHere cut) u x first rest
  pass_first same f n earlier at l = absurd (n f)
  pass_first (step q over) f n earlier (here k) l = absurd l
  pass_first (step {t = t} q over) f n earlier (later at) l = (line_kind (bare (t ∷ earlier)), pass over (t ∷ earlier) (quiet_open t.tok.kind q) at)

  -- ---- attributes

  module _ {A B : Type 0} (leaf : Tok → A) (position : Tok → B) (MayEnter : ℕ → Option SignificantToken → Type 0) where
    attributes_ended : {comment : Option (List ℕ)} {ts rest : Tokens} → AttributesEnd leaf position MayEnter comment ts rest → (earlier : Tokens)
        → LastOpen earlier
        → line_kind (bare earlier) ≡ Some kinds.BracketL → At (CutHere cut) u x earlier ts → Later (CutHere cut) u x rest
    attributes_ended (attributes.bare {newline = t} kind) earlier o line at =
        let at2 = onward at (no_cut cut earlier o) in
        record {
          earlier = t ∷ earlier;
          at = at2;
          start = starts t earlier (ap ends_line kind);
          later = is_later at2 (λ (k : CutAfter cut t earlier). k.no_attributes line);
        }
    attributes_ended (attributes.commented {comment = c} {newline = t} kind kind2) earlier o line at =
        let at2 = onward at (no_cut cut earlier o) in
        let at3 = onward at2 (no_cut cut (c ∷ earlier) (ap ends_line kind)) in
        record {
          earlier = t ∷ c ∷ earlier;
          at = at3;
          start = starts t (c ∷ earlier) (ap ends_line kind2);
          later = is_later at3 (λ (k : CutAfter cut t (c ∷ earlier)). k.no_attributes (goes_on c earlier kinds.BracketL (ap ends_line kind) line));
        }

    pub past_attributes : {ws : List (WrittenAttribute A B)} {fs : List (Noted B)} {ts rest : Tokens} → AttributeLines leaf position MayEnter ws fs ts rest
        → (earlier : Tokens)
        → AtStart earlier → (at : At (CutHere cut) u x earlier ts) → IsLater at → Later (CutHere cut) u x rest
    past_attributes (attributes.none n) earlier s at l = record { earlier = earlier; at = at; start = s; later = l }
    past_attributes (attributes.line kind b e others) earlier s (here k) l = absurd l
    past_attributes (attributes.line {opener = t} {next = next} kind b e others) earlier s (later at) l =
        let end = again_attributes.attributes_end leaf position MayEnter e next in
        let r = again_attributes.bracketed leaf position MayEnter b end.ahead in
        let p = pass r.over (t ∷ earlier) (ap ends_line kind) at in
        let q = attributes_ended e p.earlier p.unended (p.line kinds.BracketL (begins_line t earlier kinds.BracketL kind refl refl s)) p.at in
        past_attributes others q.earlier q.start q.at q.later

  -- ---- bodies

  body_uncut : (earlier : Tokens) → in_body earlier ≡ true → CutHere cut earlier → ⊥
  body_uncut [] h k = k
  body_uncut (t ∷ earlier) h k = clash k.outside h

  pass_inside : {y rest ts after : Tokens} → Over is_inside rest y ts after → (earlier : Tokens) → in_body earlier ≡ true → At (CutHere cut) u x earlier ts
      → Inside (CutHere cut) u x rest
  pass_inside same earlier h at = record { earlier = earlier; at = at; inside = h }
  pass_inside (step {t = t} q over) earlier h at =
      pass_inside over (t ∷ earlier) (ap (open_after t.tok.kind) h ∙ inside_stays t.tok.kind q) (onward at (body_uncut earlier h))

  past_dedent : {t : SignificantToken} {ts : Tokens} → IsKind kinds.Dedent t → (earlier : Tokens) → in_body earlier ≡ true
      → At (CutHere cut) u x earlier (t ∷ ts)
      → Onward (CutHere cut) u x ts
  past_dedent {t = t} kind earlier h at =
      record { earlier = t ∷ earlier; at = onward at (body_uncut earlier h); start = starts t earlier (ap ends_line kind) }

  module _ (no_indent : (earlier : Tokens) → CutHere cut earlier → IsKind kinds.Indent u → ⊥) where
    past_indent : {t : SignificantToken} {ts : Tokens} → IsKind kinds.Indent t → (earlier : Tokens) → At (CutHere cut) u x earlier (t ∷ ts)
        → Inside (CutHere cut) u x ts
    past_indent kind earlier (here k) = absurd (no_indent earlier k kind)
    past_indent {t = t} kind earlier (later at) = record { earlier = t ∷ earlier; at = at; inside = ap (λ k. open_after k (in_body earlier)) kind }

    past_before : {comment : Option (List ℕ)} {ts rest : Tokens} → BeforeBody comment ts rest → (earlier : Tokens) → LastOpen earlier
        → At (CutHere cut) u x earlier ts
        → Inside (CutHere cut) u x rest
    past_before (g.at_once {newline = t} kind kind2) earlier o at = past_indent kind2 (t ∷ earlier) (onward at (no_cut cut earlier o))
    past_before (g.commented {comment = c} {newline = t} kind kind2 kind3) earlier o at =
        past_indent kind3 (t ∷ c ∷ earlier) (onward (onward at (no_cut cut earlier o)) (no_cut cut (c ∷ earlier) (ap ends_line kind)))

    module _ {A B C S : Type 0} (projection : TokenProjection A B C S) (MayEnter : ℕ → Option SignificantToken → Type 0) where
      past_block : {c : Content A B C S} {fs : List (Noted B)} {ts rest : Tokens} → Block projection MayEnter c fs ts rest → (earlier : Tokens)
          (at : At (CutHere cut) u x earlier ts) → IsLater at → Onward (CutHere cut) u x rest
      past_block {rest = rest} (g.recipe {body = body} y before lines some) earlier at l =
          let b = again_items.body_lines projection MayEnter lines rest in
          let f = again_items.before_body projection MayEnter before body in
          let r = again_headers.header projection.leaf projection.position projection.star MayEnter y f.ahead in
          let p = (pass_first r.over (first_header projection MayEnter y) (before_loud before) earlier at l).1 in
          let q = past_before before p.earlier p.unended p.at in
          let i = pass_inside b.again.over q.earlier q.inside q.at in
          past_dedent b.is_dedent i.earlier i.inside i.at

      -- past attributes and a recipe with a body
      pub past_recipe : {ws : List (WrittenAttribute A B)} {c : Content A B C S} {gs fs : List (Noted B)} {ts header rest : Tokens}
          → AttributeLines projection.leaf projection.position MayEnter ws gs ts header → Block projection MayEnter c fs header rest → (earlier : Tokens)
          → AtStart earlier
          → (at : At (CutHere cut) u x earlier ts) → IsLater at → Onward (CutHere cut) u x rest
      past_recipe a b earlier s at l =
          let p = past_attributes projection.leaf projection.position MayEnter a earlier s at l in
          past_block b p.earlier p.at p.later

  -- ---- lines

  module _ {A B C S : Type 0} (projection : TokenProjection A B C S) (MayEnter : ℕ → Option SignificantToken → Type 0) where
    -- past attributes and a construct on a line
    pub past_line : {ws : List (WrittenAttribute A B)} {c : Content A B C S} {items : List (WrittenItem A B C S)} {gs cs : List (Noted B)}
        {fs : List (ConstructFeatures B)} {ts header rest : Tokens} → AttributeLines projection.leaf projection.position MayEnter ws gs ts header
        → OnLine projection MayEnter c cs header rest
        → ItemRest projection MayEnter items fs rest → (earlier : Tokens) → AtStart earlier → (at : At (CutHere cut) u x earlier ts) → IsLater at
        → (first : Option TokenKind) × Within (CutHere cut) u x first rest
    past_line a o r earlier s at l =
        let p = past_attributes projection.leaf projection.position MayEnter a earlier s at l in
        let again = again_items.on_line projection MayEnter o (self_ahead projection MayEnter r) in
        pass_first again.over (first_on_line projection MayEnter o) (rest_loud projection MayEnter r) p.earlier p.at p.later
