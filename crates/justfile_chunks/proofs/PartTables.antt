-- Tables of the significant tokens of a text that was read one byte further.
use Rattle.std.proofs.Common.{◌≡◌, ◌∙◌, ℕ, ◌+◌, ◌-◌, ◌<◌, ◌≤◌, Bool, true, false, cond, not, List, [], ◌∷◌, ◌++◌, length, map, take, drop, get_or, Option, Some, None, refl, sym, ap, subst, arith, append_assoc, append-nil, length-append}
use Rattle.std.specs.Prelude.{reverse}
use Rattle.std.specs.List.{remove}
use Rattle.std.specs.Str.{IsUtf8}
use Rattle.std.proofs.lemmas.List.{length-drop, length-take-le, map-append, take_more}
use Rattle.std.proofs.lemmas.List.Edits.{remove-append_right}
use Rattle.justfile_vocabulary.specs.declared.token_kind.TokenKind.{TokenKind}
use Rattle.justfile_vocabulary.specs.declared.token_kind.TokenKind.TheVariants as kinds
use Rattle.justfile_token.specs.declared.token.Token.{Token}
use Rattle.justfile_model.specs.Lexing.Lexed.{Lexed}
use Rattle.justfile_model.specs.Lexing.Modes.{mode}
use Rattle.justfile_model.specs.Lexing.SignificantTokens.{SignificantToken, TableToken, is_whitespace, significant_from, significant_of, significant_tokens}
use Rattle.justfile_model.specs.Lexing.Tok.{Tok, tok_of}
use Rattle.justfile_chunks.specs.Chunks.{IsCut, IsCutAfter, line_kind, next_kind}
use Rattle.justfile_chunks.proofs.AllCuts.{onto_reverse}
use Rattle.justfile_chunks.proofs.ChunkTokens.{from_start, onto}
use Rattle.justfile_chunks.proofs.PartLexes.{EndsEmpty, EndsOnce}
use Rattle.justfile_chunks.proofs.SameNext.{cons_parts}
use Rattle.justfile_chunks.specs.Cuts.{depth_after, is_cut, line_after}
use Rattle.justfile_chunks.specs.PartTables.{IsCutOff, IsTested, depth_from, depth_past, line_from, line_past}
use Rattle.justfile_chunks.proofs.CutTests.{cut_by, depth_grows, levels_are, line_is}

-- ---- the tokens of a table

-- whether the next token is glued to these, where the flag says it of the first one
abbrev glued_after : Bool → List Tok → Bool
glued_after glued [] = glued
glued_after glued (t ∷ ts) = glued_after (not (is_whitespace t.kind)) ts

-- a significant token, and those before and after it
record Found (glued : Bool) (tokens : List Tok) (before after : List SignificantToken) (s : SignificantToken) : Type 0 where
  front : List Tok
  rest : List Tok
  are : tokens ≡ front ++ (s.tok ∷ rest)
  front_is : significant_from glued front ≡ before
  rest_is : after ≡ significant_from true rest
  glued_is : s.glued ≡ glued_after glued front
  dark : is_whitespace s.tok.kind ≡ false

abbrev Finds : List Tok → Type 0
Finds ts = (glued : Bool) (before after : List SignificantToken) (s : SignificantToken) → significant_from glued ts ≡ before ++ (s ∷ after)
    → Found glued ts before after s

none_found : (before after : List SignificantToken) (s : SignificantToken) → [] ≡ before ++ (s ∷ after) → ⊥
none_found [] after s e = cc
none_found (b ∷ before) after s e = cc

-- the first token is significant, or whitespace
module _ (t : Tok) (ts : List Tok) (later : Finds ts) (glued : Bool) where
  abbrev first : SignificantToken
  first = record { tok = t; glued = glued }

  found_first : is_whitespace t.kind ≡ false → (before after : List SignificantToken) (s : SignificantToken) → first ∷ significant_from true ts ≡ before ++ (s ∷ after)
      → Found glued (t ∷ ts) before after s
  found_first w [] after s e =
      let p = cons_parts first s (significant_from true ts) after e in
      record {
        front = [];
        rest = ts;
        are = ap (λ (x : SignificantToken). x.tok ∷ ts) p.0;
        front_is = refl;
        rest_is = sym p.1;
        glued_is = ap (λ (x : SignificantToken). x.glued) (sym p.0);
        dark = subst (λ (x : SignificantToken). is_whitespace x.tok.kind ≡ false) p.0 w;
      }
  found_first w (b ∷ before) after s e =
      let p = cons_parts first b (significant_from true ts) (before ++ (s ∷ after)) e in
      let f = later true before after s p.1 in
      record {
        front = t ∷ f.front;
        rest = f.rest;
        are = ap (λ l. t ∷ l) f.are;
        front_is = ap (λ x. cond x (significant_from false f.front) (first ∷ significant_from true f.front)) w ∙ (λ i. p.0 i ∷ f.front_is i);
        rest_is = f.rest_is;
        glued_is = f.glued_is ∙ ap (λ x. glued_after (not x) f.front) (sym w);
        dark = f.dark;
      }

  found_by : (w : Bool) → is_whitespace t.kind ≡ w → (before after : List SignificantToken) (s : SignificantToken)
      → cond w (significant_from false ts) (first ∷ significant_from true ts) ≡ before ++ (s ∷ after) → Found glued (t ∷ ts) before after s
  found_by true w before after s e =
      let f = later false before after s e in
      record {
        front = t ∷ f.front;
        rest = f.rest;
        are = ap (λ l. t ∷ l) f.are;
        front_is = ap (λ x. cond x (significant_from false f.front) (first ∷ significant_from true f.front)) w ∙ f.front_is;
        rest_is = f.rest_is;
        glued_is = f.glued_is ∙ ap (λ x. glued_after (not x) f.front) (sym w);
        dark = f.dark;
      }
  found_by false w before after s e = found_first w before after s e

find : (glued : Bool) (tokens : List Tok) (before after : List SignificantToken) (s : SignificantToken) → significant_from glued tokens ≡ before ++ (s ∷ after)
    → Found glued tokens before after s
find glued [] before after s e = absurd (none_found before after s e)
find glued (t ∷ ts) before after s e = found_by t ts (λ g b a r f. find g ts b a r f) glued (is_whitespace t.kind) refl before after s e

-- ---- tokens that are whitespace

-- such a token is whitespace, and so are those after it
record White (t : Tok) (ts : List Tok) : Type 0 where
  is : is_whitespace t.kind ≡ true
  later : significant_from false ts ≡ []

white : (glued : Bool) (t : Tok) (ts : List Tok) → significant_from glued (t ∷ ts) ≡ [] → White t ts
white glued t ts e = by (is_whitespace t.kind) refl e
  where
    by : (w : Bool) → is_whitespace t.kind ≡ w → cond w (significant_from false ts) (record { tok = t; glued = glued } ∷ significant_from true ts) ≡ [] → White t ts
    by true w e = record { is = w; later = e }
    by false w e = absurd cc

-- none of them ends a text
none_ends : (glued : Bool) (ts : List Tok) → significant_from glued ts ≡ [] → EndsOnce ts → ⊥
none_ends glued [] e o = o
none_ends glued (t ∷ []) e o = let bad : true ≡ false = sym (white glued t [] e).is ∙ ap is_whitespace o in cc
none_ends glued (t ∷ u ∷ ts) e o = none_ends false (u ∷ ts) (white glued t (u ∷ ts) e).later o.1

apart : (ts : List Tok) → significant_from false ts ≡ [] → glued_after false ts ≡ false
apart [] e = refl
apart (t ∷ ts) e = let w = white false t ts e in ap (λ x. glued_after (not x) ts) w.is ∙ apart ts w.later

-- after one of them no token is glued
none_between : (ts : List Tok) → significant_from true ts ≡ [] → glued_after true ts ≡ true → ts ≡ []
none_between [] e g = refl
none_between (t ∷ ts) e g =
    let w = white true t ts e in
    let bad : true ≡ false = sym g ∙ ap (λ x. glued_after (not x) ts) w.is ∙ apart ts w.later in cc

ends_from : (front : List Tok) (u : Tok) (rest : List Tok) → EndsOnce (front ++ (u ∷ rest)) → EndsOnce (u ∷ rest)
ends_from [] u rest o = o
ends_from (t ∷ []) u rest o = o.1
ends_from (t ∷ w ∷ front) u rest o = ends_from (w ∷ front) u rest o.1

empty_from : (front : List Tok) (u : Tok) → EndsEmpty (front ++ (u ∷ [])) → u.lexeme ≡ []
empty_from [] u e = e
empty_from (t ∷ []) u e = e
empty_from (t ∷ w ∷ front) u e = empty_from (w ∷ front) u e

none_after : (u : Tok) (rest : List Tok) → significant_from true rest ≡ [] → EndsOnce (u ∷ rest) → rest ≡ []
none_after u [] e o = refl
none_after u (t ∷ rest) e o = absurd (none_ends true (t ∷ rest) e o.1)

glued_past : (front : List Tok) (glued : Bool) (t : Tok) (rest : List Tok) → glued_after glued (front ++ (t ∷ rest)) ≡ glued_after (not (is_whitespace t.kind)) rest
glued_past [] glued t rest = refl
glued_past (u ∷ front) glued t rest = glued_past front (not (is_whitespace u.kind)) t rest

significant_of_last : (ts : List Tok) (glued : Bool) (t : Tok) → is_whitespace t.kind ≡ false
    → significant_from glued (ts ++ (t ∷ [])) ≡ significant_from glued ts ++ (record { tok = t; glued = glued_after glued ts } ∷ [])
significant_of_last [] glued t d = ap (λ x. cond x [] (record { tok = t; glued = glued } ∷ [])) d
significant_of_last (u ∷ ts) glued t d = by (significant_of_last ts false t d) (significant_of_last ts true t d) (is_whitespace u.kind)
  where
    by : significant_from false (ts ++ (t ∷ [])) ≡ significant_from false ts ++ (record { tok = t; glued = glued_after false ts } ∷ [])
        → significant_from true (ts ++ (t ∷ [])) ≡ significant_from true ts ++ (record { tok = t; glued = glued_after true ts } ∷ [])
        → (w : Bool) → cond w (significant_from false (ts ++ (t ∷ []))) (record { tok = u; glued = glued } ∷ significant_from true (ts ++ (t ∷ [])))
        ≡ cond w (significant_from false ts) (record { tok = u; glued = glued } ∷ significant_from true ts) ++ (record { tok = t; glued = glued_after (not w) ts } ∷ [])
    by apart next true = apart
    by apart next false = ap (λ l. record { tok = u; glued = glued } ∷ l) next

-- ---- what a loop over the table knows

depth_white : (k : TokenKind) → is_whitespace k ≡ true → (depth : ℕ) → depth_after k depth ≡ depth
depth_white kinds.Indent e depth = cc
depth_white _ e depth = cc

line_white : (k : TokenKind) → is_whitespace k ≡ true → (line : Option TokenKind) → line_after k line ≡ line
line_white kinds.Whitespace e line = refl
line_white _ e line = absurd cc

-- the open levels and the line's kind, after these tokens
record Known (depth : ℕ) (line : Option TokenKind) (earlier : List Tok) : Type 0 where
  depth_is : depth ≡ length (mode earlier).levels
  line_is : line ≡ line_kind earlier

known_more : (depth : ℕ) (line : Option TokenKind) (earlier : List Tok) (t : Tok) → Known depth line earlier → Known (depth_after t.kind depth) (line_after t.kind line) (t ∷ earlier)
known_more depth line earlier t h = record {
  depth_is = ap (depth_after t.kind) h.depth_is ∙ levels_are t.kind t (mode earlier);
  line_is = ap (line_after t.kind) h.line_is ∙ line_is t.kind (line_kind earlier);
}

known_white : (depth : ℕ) (line : Option TokenKind) (earlier : List Tok) (t : Tok) → is_whitespace t.kind ≡ true → Known depth line earlier → Known depth line (t ∷ earlier)
known_white depth line earlier t w h =
    let k = known_more depth line earlier t h in
    record { depth_is = sym (depth_white t.kind w depth) ∙ k.depth_is; line_is = sym (line_white t.kind w line) ∙ k.line_is }

abbrev Knows : List Tok → Type 0
Knows ts = (earlier : List Tok) (glued : Bool) (xs : List TableToken) (depth : ℕ) (line : Option TokenKind) → significant_from glued ts ≡ map significant_of xs
    → Known depth line earlier → Known (depth_from depth xs) (line_from line xs) (onto earlier ts)

module _ (t : Tok) (ts : List Tok) (later : Knows ts) (earlier : List Tok) (glued : Bool) (depth : ℕ) (line : Option TokenKind) (h : Known depth line earlier) where
  known_first : (xs : List TableToken) → record { tok = t; glued = glued } ∷ significant_from true ts ≡ map significant_of xs
      → Known (depth_from depth xs) (line_from line xs) (onto (t ∷ earlier) ts)
  known_first [] e = absurd cc
  known_first (x ∷ xs) e =
      let p = cons_parts (record { tok = t; glued = glued }) (significant_of x) (significant_from true ts) (map significant_of xs) e in
      let kind : t.kind ≡ x.0.kind = ap (λ (s : SignificantToken). s.tok.kind) p.0 in
      later (t ∷ earlier) true xs (depth_after x.0.kind depth) (line_after x.0.kind line) p.1
      (subst (λ k. Known (depth_after k depth) (line_after k line) (t ∷ earlier)) kind (known_more depth line earlier t h))

  known_by : (w : Bool) → is_whitespace t.kind ≡ w → (xs : List TableToken)
      → cond w (significant_from false ts) (record { tok = t; glued = glued } ∷ significant_from true ts) ≡ map significant_of xs
      → Known (depth_from depth xs) (line_from line xs) (onto (t ∷ earlier) ts)
  known_by true w xs e = later (t ∷ earlier) false xs depth line e (known_white depth line earlier t w h)
  known_by false w xs e = known_first xs e

known : (ts earlier : List Tok) (glued : Bool) (xs : List TableToken) (depth : ℕ) (line : Option TokenKind) → significant_from glued ts ≡ map significant_of xs
    → Known depth line earlier → Known (depth_from depth xs) (line_from line xs) (onto earlier ts)
known [] earlier glued [] depth line e h = h
known [] earlier glued (x ∷ xs) depth line e h = absurd cc
known (t ∷ ts) earlier glued xs depth line e h =
    known_by t ts (λ f g ys d l i k. known ts f g ys d l i k) earlier glued depth line h (is_whitespace t.kind) refl xs e

-- ---- the cut

onto_last : (ts earlier : List Tok) (t : Tok) → onto earlier (ts ++ (t ∷ [])) ≡ t ∷ onto earlier ts
onto_last [] earlier t = refl
onto_last (u ∷ ts) earlier t = onto_last ts (u ∷ earlier) t

reversed : (ts : List Tok) (t : Tok) → reverse (ts ++ (t ∷ [])) ≡ t ∷ onto [] ts
reversed ts t = sym (append-nil (reverse (ts ++ (t ∷ [])))) ∙ onto_reverse (ts ++ (t ∷ [])) [] ∙ onto_last ts [] t

byte_long : (t : Token) → length (tok_of t).lexeme ≡ t.length
byte_long t = length-take-le t.length (drop t.offset t.src.now) (omega (arith, t.in_source.0, length-drop t.offset t.src.now))

module _ (table : List TableToken) (tested : IsTested table) (tokens : List Tok) (ends : EndsOnce tokens) (empty : EndsEmpty tokens) (marked : map significant_of table ≡ significant_tokens tokens) where
  abbrev before : List SignificantToken
  before = map significant_of tested.others

  abbrev last : SignificantToken
  last = significant_of tested.last

  abbrev next : SignificantToken
  next = significant_of (tested.next, true)

  abbrev end : SignificantToken
  end = significant_of (tested.end, true)

  is_split : significant_tokens tokens ≡ (before ++ (last ∷ [])) ++ (next ∷ (end ∷ []))
  is_split =
      sym marked ∙ ap (map significant_of) tested.are ∙ map-append significant_of tested.others (tested.last ∷ (tested.next, true) ∷ (tested.end, true) ∷ [])
      ∙ sym (append_assoc before (last ∷ []) (next ∷ (end ∷ [])))

  at_next : Found false tokens (before ++ (last ∷ [])) (end ∷ []) next
  at_next = find false tokens (before ++ (last ∷ [])) (end ∷ []) next is_split

  at_end : Found true at_next.rest [] [] end
  at_end = find true at_next.rest [] [] end (sym at_next.rest_is)

  no_gap : at_end.front ≡ []
  no_gap = none_between at_end.front at_end.front_is (sym at_end.glued_is)

  rest_are : at_next.rest ≡ end.tok ∷ at_end.rest
  rest_are = at_end.are ∙ ap (λ l. l ++ (end.tok ∷ at_end.rest)) no_gap

  no_more : at_end.rest ≡ []
  no_more =
      none_after end.tok at_end.rest (sym at_end.rest_is)
      (ends_from (at_next.front ++ (next.tok ∷ [])) end.tok at_end.rest
      (subst EndsOnce (at_next.are ∙ ap (λ l. at_next.front ++ (next.tok ∷ l)) rest_are ∙ sym (append_assoc at_next.front (next.tok ∷ []) (end.tok ∷ at_end.rest))) ends))

  tokens_are : tokens ≡ at_next.front ++ (next.tok ∷ end.tok ∷ [])
  tokens_are = at_next.are ∙ ap (λ l. at_next.front ++ (next.tok ∷ l)) (rest_are ∙ ap (λ l. end.tok ∷ l) no_more)

  split : tokens ≡ (at_next.front ++ (next.tok ∷ [])) ++ (end.tok ∷ [])
  split = tokens_are ∙ sym (append_assoc at_next.front (next.tok ∷ []) (end.tok ∷ []))

  is_end : end.tok.kind ≡ kinds.Eof
  is_end = ends_from (at_next.front ++ (next.tok ∷ [])) end.tok [] (subst EndsOnce split ends)

  is_empty : end.tok.lexeme ≡ []
  is_empty = empty_from (at_next.front ++ (next.tok ∷ [])) end.tok (subst EndsEmpty split empty)

  at_last : Found false at_next.front before [] last
  at_last = find false at_next.front before [] last at_next.front_is

  none_past : at_last.rest ≡ []
  none_past =
      none_between at_last.rest (sym at_last.rest_is)
      (sym (at_next.glued_is ∙ ap (glued_after false) at_last.are ∙ glued_past at_last.front false last.tok at_last.rest ∙ ap (λ x. glued_after (not x) at_last.rest) at_last.dark))

  part_is : at_next.front ≡ at_last.front ++ (last.tok ∷ [])
  part_is = at_last.are ∙ ap (λ l. at_last.front ++ (last.tok ∷ l)) none_past

  now : Known (depth_past tested.others) (line_past tested.others) (onto [] at_last.front)
  now = known at_last.front [] false tested.others 0 None at_last.front_is (record { depth_is = refl; line_is = refl })

  kind_after : next_kind (next.tok ∷ end.tok ∷ []) ≡ Some next.tok.kind
  kind_after = ap (λ x. cond x (next_kind (end.tok ∷ [])) (Some next.tok.kind)) at_next.dark

  is_after : IsCutAfter last.tok (onto [] at_last.front) (next.tok ∷ end.tok ∷ [])
  is_after =
      cut_by last.tok (onto [] at_last.front) (next.tok ∷ end.tok ∷ [])
      (sym (λ i. is_cut last.tok.kind ((ap (depth_after last.tok.kind) now.depth_is ∙ levels_are last.tok.kind last.tok (mode (onto [] at_last.front))) i) (now.line_is i) (sym kind_after i))
      ∙ tested.cut)

  is_cut_there : IsCut (reverse at_next.front) (next.tok ∷ end.tok ∷ [])
  is_cut_there = subst (λ e. IsCut e (next.tok ∷ end.tok ∷ [])) (sym (ap reverse part_is ∙ reversed at_last.front last.tok)) is_after

  -- the table without its last token but one
  abbrev left : List TableToken
  left = tested.others ++ (tested.last ∷ (tested.end, true) ∷ [])

  left_is : remove table (length table - 2) ≡ left
  left_is =
      let size : length table ≡ length tested.others + 3 = ap length tested.are ∙ length-append tested.others (tested.last ∷ (tested.next, true) ∷ (tested.end, true) ∷ []) in
      let place : length table - 2 - length tested.others ≡ 1 = omega (arith, size) in
      ap (λ l. remove l (length table - 2)) tested.are
      ∙ remove-append_right tested.others (tested.last ∷ (tested.next, true) ∷ (tested.end, true) ∷ []) (length tested.others) (length table - 2) refl (omega (arith, size))
      ∙ ap (λ n. tested.others ++ remove (tested.last ∷ (tested.next, true) ∷ (tested.end, true) ∷ []) n) place

  left_marked : map significant_of left ≡ significant_tokens (at_next.front ++ (end.tok ∷ []))
  left_marked =
      map-append significant_of tested.others (tested.last ∷ (tested.end, true) ∷ [])
      ∙ sym (append_assoc before (last ∷ []) (end ∷ []))
      ∙ (λ i. sym at_next.front_is i ++ (record { tok = end.tok; glued = at_next.glued_is i } ∷ []))
      ∙ sym (significant_of_last at_next.front false end.tok at_end.dark)

  pub cut_off : (after : List TableToken) → after ≡ remove table (length table - 2) → IsCutOff tokens (map significant_of after)
  cut_off after e =
      search (tokens_are, is_cut_there, byte_long tested.next ∙ tested.one_byte, at_next.dark, is_end, is_empty, ap (map significant_of) (e ∙ left_is) ∙ left_marked)

-- the tokens of a text end once, with nothing
pub ends_once : (text : List ℕ) (tokens : List Tok) → IsUtf8 text → Lexed text tokens → EndsOnce tokens × EndsEmpty tokens
ends_once text tokens u l = let h = from_start text tokens u l in (h.ends, h.empty)

-- ---- the loop over the table

depth_more : (depth : ℕ) (xs : List TableToken) (x : TableToken) → depth_from depth (xs ++ (x ∷ [])) ≡ depth_after x.0.kind (depth_from depth xs)
depth_more depth [] x = refl
depth_more depth (y ∷ xs) x = depth_more (depth_after y.0.kind depth) xs x

line_more : (line : Option TokenKind) (xs : List TableToken) (x : TableToken) → line_from line (xs ++ (x ∷ [])) ≡ line_after x.0.kind (line_from line xs)
line_more line [] x = refl
line_more line (y ∷ xs) x = line_more (line_after y.0.kind line) xs x

-- what is known before the token of an index
pub record KnownTo (others : List TableToken) (n depth : ℕ) (line : Option TokenKind) : Type 0 where
  pub depth_is : depth ≡ depth_past (take n others)
  pub line_is : line ≡ line_past (take n others)
  pub within : depth ≤ n

pub known_next : (others : List TableToken) (n depth : ℕ) (line : Option TokenKind) (x : TableToken) → n < length others → x ≡ get_or others n x → KnownTo others n depth line
    → KnownTo others (n + 1) (depth_after x.0.kind depth) (line_after x.0.kind line)
known_next others n depth line x h e k =
    let one : take (n + 1) others ≡ take n others ++ (x ∷ []) = take_more others n x h ∙ ap (λ y. take n others ++ (y ∷ [])) (sym e) in
    record {
      depth_is = ap (depth_after x.0.kind) k.depth_is ∙ sym (ap depth_past one ∙ depth_more 0 (take n others) x);
      line_is = ap (line_after x.0.kind) k.line_is ∙ sym (ap line_past one ∙ line_more None (take n others) x);
      within = omega (arith, depth_grows x.0.kind depth, k.within);
    }

-- ---- the tokens at the end

-- the last three of them
pub tested : (table front part others : List TableToken) (last next end : TableToken)
    → table ≡ front ++ (end ∷ []) → front ≡ part ++ (next ∷ []) → part ≡ others ++ (last ∷ []) → end.1 ≡ true → next.1 ≡ true → next.0.length ≡ 1
    → is_cut last.0.kind (depth_after last.0.kind (depth_past others)) (line_past others) (Some next.0.kind) ≡ true → IsTested table
tested table front part others last next end e f g end_glued glued long cut = record {
  others = others;
  last = last;
  next = next.0;
  end = end.0;
  are =
      e ∙ (λ i. f i ++ ((end.0, end_glued i) ∷ []))
      ∙ (λ i. (g i ++ ((next.0, glued i) ∷ [])) ++ ((end.0, true) ∷ []))
      ∙ append_assoc (others ++ (last ∷ [])) ((next.0, true) ∷ []) ((end.0, true) ∷ [])
      ∙ append_assoc others (last ∷ []) ((next.0, true) ∷ (end.0, true) ∷ []);
  one_byte = long;
  cut = cut;
}
