-- A part of a text, from a cut to the next one, is lexed by itself to the tokens that it has in the text, if each indent follows a colon in
-- the part or in the tokens that it has by itself.
use Rattle.std.proofs.Common.{◌≡◌, ◌≢◌, ◌∙◌, ℕ, ◌+◌, ◌<◌, Bool, List, [], ◌∷◌, ◌++◌, length, Ok, refl, sym, ap, subst, arith, append_assoc, append-nil, length-append}
use Rattle.std.specs.List.{flat_map}
use Rattle.std.specs.Str.{IsUtf8}
use Rattle.justfile_vocabulary.specs.declared.token_kind.TokenKind.TheVariants as kinds
use Rattle.justfile_model.specs.Lexing.Modes.{Mode, mode, mode_after, start_mode}
use Rattle.justfile_model.specs.Lexing.Next.{NextToken, next}
use Rattle.justfile_model.specs.Lexing.Tok.{Tok}
use Rattle.justfile_model.specs.Trees.Tree.{lexeme}
use Rattle.justfile_round_trip.proofs.LiteralTexts.FormatScans.{same_front}
use Rattle.justfile_round_trip.proofs.LiteralTexts.LexedModes.{LexesIn, sign, tok_at}
use Rattle.justfile_round_trip.proofs.Values.TokenFacts.{Runs}
use Rattle.justfile_chunks.proofs.SplitRuns.{rest_utf8}
use Rattle.justfile_chunks.proofs.PartSteps.{Uncut, kind_is, len_is, part_step}
use Rattle.justfile_chunks.proofs.Colons.{IndentsHaveColons, NeedsColon, colon_after}
use Rattle.justfile_chunks.proofs.SameModes.{HaveColon, NoneIsEof, both_indent, colons_kept, signs, mode_past, same_after, some_same}
use Rattle.justfile_chunks.proofs.SameNext.{SameFound, SameMode, same_next}
use Rattle.justfile_chunks.proofs.TidyModes.{Fed, Tidy, fed_suffix, tidy_after}

-- the last token is the only `Eof`
abbrev pub EndsOnce : List Tok → Type 0
EndsOnce [] = ⊥
EndsOnce (t ∷ []) = t.kind ≡ kinds.Eof
EndsOnce (t ∷ u ∷ ts) = (t.kind ≢ kinds.Eof) × EndsOnce (u ∷ ts)

pub ends_later : (t : Tok) (ts : List Tok) → EndsOnce (t ∷ ts) → t.kind ≢ kinds.Eof → EndsOnce ts
ends_later t [] o ne = absurd (ne o)
ends_later t (u ∷ ts) o ne = o.1

found_back : {x y : NextToken} → SameFound x y → SameFound y x
found_back h = record { same = sym h.same }

start_ends : next start_mode [] ≡ Ok (kinds.Eof, 0)
unfolding next
start_ends = refl

-- in a mode like that of the start of a text, a text ends
pub ends_like_start : (m : Mode) → SameMode m start_mode → next m [] ≡ Ok (kinds.Eof, 0)
ends_like_start m s = some_same (kinds.Eof, 0) (next start_mode []) (next m []) (found_back (same_next m start_mode [] s)) start_ends

module _ (v : List ℕ) (later : List Tok) (some : 0 < length v) (more : 0 < length later) where
  -- what is said of a part after these tokens
  pub record IsPart (ts earlier : List Tok) (n : Mode) (colon : Bool) : Type 0 where
    pub tidy : Tidy earlier
    pub same : SameMode (mode earlier) n
    pub colons : HaveColon colon (mode earlier) n
    pub no_eof : NoneIsEof ts
    pub uncut : Uncut earlier ts later
    pub fed : Fed (flat_map lexeme ts)
    pub utf8 : IsUtf8 (flat_map lexeme ts ++ v)
    pub run : Runs (mode earlier) (flat_map lexeme ts ++ v) (ts ++ later)

  module _ (t : Tok) (ts earlier : List Tok) (n : Mode) (colon : Bool) (p : IsPart (t ∷ ts) earlier n colon) where
    found : next n (flat_map lexeme (t ∷ ts)) ≡ Ok (t.kind, length t.lexeme)
    found =
        some_same (t.kind, length t.lexeme) _ _ (same_next (mode earlier) n (flat_map lexeme (t ∷ ts)) p.same)
        (part_step v later some more t ts earlier p.tidy p.uncut p.utf8 p.run p.no_eof.0 p.fed)

    following : p.run.0 ≡ flat_map lexeme ts ++ v
    following = (same_front t.lexeme p.run.0 t.lexeme (flat_map lexeme ts ++ v) (sym p.run.1 ∙ append_assoc t.lexeme (flat_map lexeme ts) v) refl).1

    uncut_after : Uncut (t ∷ earlier) ts later
    uncut_after = by ts p.uncut
      where
        by : (ts : List Tok) → Uncut earlier (t ∷ ts) later → Uncut (t ∷ earlier) ts later
        by [] h = tt
        by (u ∷ ts) h = h.1

    part_after : NeedsColon t.kind colon → (u : Tok) → t.lexeme ≡ u.lexeme → IsPart ts (t ∷ earlier) (mode_after t.kind u n) (colon_after t.kind colon)
    part_after c u l =
        let there : 0 < length (t.lexeme ++ p.run.0) = omega (
          arith,
          ap length following,
          length-append t.lexeme p.run.0,
          length-append (flat_map lexeme ts) v,
          some,
        ) in
        record {
          tidy = tidy_after t earlier p.run.0 colon there (sym (ap (next (mode earlier)) p.run.1) ∙ p.run.2) c p.colons.first p.tidy;
          same = same_after t.kind t u (mode earlier) n l p.same (both_indent t.kind (mode earlier) n colon p.colons c);
          colons = colons_kept t.kind t u (mode earlier) n colon p.colons;
          no_eof = p.no_eof.1;
          uncut = uncut_after;
          fed = fed_suffix t.lexeme (flat_map lexeme ts) p.fed;
          utf8 = subst IsUtf8 following (rest_utf8 t (ts ++ later) (mode earlier) (flat_map lexeme (t ∷ ts) ++ v) p.utf8 p.run);
          run = subst (λ r. Runs (mode (t ∷ earlier)) r (ts ++ later)) following p.run.3;
        }

  -- the text of the part is lexed to its tokens
  pub part_lexes : (ts earlier : List Tok) (n : Mode) (colon : Bool) → IsPart ts earlier n colon → IndentsHaveColons colon ts
      → SameMode (mode_past (mode earlier) ts) start_mode
      → (text : List ℕ) (offset : ℕ) → LexesIn text offset n (flat_map lexeme ts) (signs ts)
  part_lexes [] earlier n colon p c e text offset = (
    refl,
    some_same (kinds.Eof, 0) _ _ (same_next (mode earlier) n [] p.same)
        (ends_like_start (mode earlier) e),
  )
  part_lexes (t ∷ ts) earlier n colon p c e text offset =
      let u = tok_at text offset (sign t.kind t.lexeme) in (
        flat_map lexeme ts,
        refl,
        found t ts earlier n colon p,
        p.no_eof.0,
        part_lexes ts (t ∷ earlier) (mode_after t.kind u n) (colon_after t.kind colon) (part_after t ts earlier n colon p c.0 u refl) c.1 e text
            (offset + length t.lexeme),
      )

  -- if the tokens of the text of the part have their colons, those of the part have them
  pub colons_back : (ts us earlier : List Tok) (n : Mode) (colon : Bool) → IsPart ts earlier n colon → Runs n (flat_map lexeme ts) us → EndsOnce us
      → IndentsHaveColons colon us → IndentsHaveColons colon ts
  colons_back [] us earlier n colon p r o c = tt
  colons_back (t ∷ ts) [] earlier n colon p r o c = absurd o
  colons_back (t ∷ ts) (u ∷ us) earlier n colon p r o c =
      let same = sym r.2 ∙ found t ts earlier n colon p in
      let kind : u.kind ≡ t.kind = kind_is u.kind t.kind (length u.lexeme) (length t.lexeme) same in
      let size : length u.lexeme ≡ length t.lexeme = len_is u.kind t.kind (length u.lexeme) (length t.lexeme) same in
      let front = same_front u.lexeme r.0 t.lexeme (flat_map lexeme ts) (sym r.1) size in
      let here : NeedsColon t.kind colon = subst (λ k. NeedsColon k colon) kind c.0 in (
        here,
        colons_back ts us (t ∷ earlier) (mode_after t.kind u n) (colon_after t.kind colon) (part_after t ts earlier n colon p here u (sym front.0))
            (subst (λ k. Runs (mode_after k u n) (flat_map lexeme ts) us) kind (subst (λ x. Runs (mode_after u.kind u n) x us) front.1 r.3))
            (ends_later u us o (λ e. p.no_eof.0 (sym kind ∙ e)))
            (subst (λ k. IndentsHaveColons (colon_after k colon) us) kind c.1),
      )

-- ---- the last part

-- the last token is empty
abbrev pub EndsEmpty : List Tok → Type 0
EndsEmpty [] = ⊥
EndsEmpty (t ∷ []) = t.lexeme ≡ []
EndsEmpty (t ∷ u ∷ ts) = EndsEmpty (u ∷ ts)

-- all tokens but the last one
abbrev pub but_last : List Tok → List Tok
but_last [] = []
but_last (t ∷ []) = []
but_last (t ∷ u ∷ ts) = t ∷ but_last (u ∷ ts)

pub last_signs : (ts : List Tok) → EndsOnce ts → EndsEmpty ts → signs ts ≡ signs (but_last ts) ++ (sign kinds.Eof [] ∷ [])
last_signs [] o e = absurd o
last_signs (t ∷ []) o e = λ i. sign (o i) (e i) ∷ []
last_signs (t ∷ u ∷ ts) o e = ap (λ ms. sign t.kind t.lexeme ∷ ms) (last_signs (u ∷ ts) o.1 e)

-- the text up to the end is lexed to its tokens
pub last_lexes : (ts : List Tok) (m n : Mode) (colon : Bool) → SameMode m n → HaveColon colon m n → IndentsHaveColons colon ts → EndsOnce ts → EndsEmpty ts
    → Runs m (flat_map lexeme ts) ts
    → (text : List ℕ) (offset : ℕ) → LexesIn text offset n (flat_map lexeme ts) (signs (but_last ts))
last_lexes [] m n colon s h c o e r text offset = absurd o
last_lexes (t ∷ []) m n colon s h c o e r text offset =
    let none : flat_map lexeme (t ∷ []) ≡ [] = append-nil t.lexeme ∙ e in
    let found : next m [] ≡ Ok (kinds.Eof, 0) = sym (ap (next m) none) ∙ r.2 ∙ (λ i. Ok (o i, length (e i))) in
    (none, some_same (kinds.Eof, 0) _ _ (same_next m n [] s) found)
last_lexes (t ∷ w ∷ ts) m n colon s h c o e r text offset =
    let u = tok_at text offset (sign t.kind t.lexeme) in
    let rest = flat_map lexeme (w ∷ ts) in
    let following : r.0 ≡ rest = sym (same_front t.lexeme rest t.lexeme r.0 r.1 refl).1 in (
      rest,
      refl,
      some_same (t.kind, length t.lexeme) _ _ (same_next m n (t.lexeme ++ rest) s) r.2,
      o.0,
      last_lexes (w ∷ ts) (mode_after t.kind t m) (mode_after t.kind u n) (colon_after t.kind colon)
          (same_after t.kind t u m n refl s (both_indent t.kind m n colon h c.0)) (colons_kept t.kind t u m n colon h) c.1 o.1 e
          (subst (λ f. Runs (mode_after t.kind t m) f (w ∷ ts)) following r.3) text (offset + length t.lexeme),
    )

-- two runs of tokens in such modes are the same tokens, so their colons are the same
pub same_colons : (ts us : List Tok) (m n : Mode) (colon : Bool) (rest : List ℕ) → SameMode m n → HaveColon colon m n → Runs m rest ts → Runs n rest us
    → EndsOnce ts → EndsOnce us
    → IndentsHaveColons colon us → IndentsHaveColons colon ts
same_colons [] us m n colon rest s h r q o p c = tt
same_colons (t ∷ ts) [] m n colon rest s h r q o p c = absurd p
same_colons (t ∷ []) (u ∷ us) m n colon rest s h r q o p c =
    let same = sym q.2 ∙ some_same (t.kind, length t.lexeme) _ _ (same_next m n rest s) r.2 in
    (subst (λ k. NeedsColon k colon) (kind_is u.kind t.kind (length u.lexeme) (length t.lexeme) same) c.0, tt)
same_colons (t ∷ w ∷ ts) (u ∷ us) m n colon rest s h r q o p c =
    let same = sym q.2 ∙ some_same (t.kind, length t.lexeme) _ _ (same_next m n rest s) r.2 in
    let kind : u.kind ≡ t.kind = kind_is u.kind t.kind (length u.lexeme) (length t.lexeme) same in
    let size : length u.lexeme ≡ length t.lexeme = len_is u.kind t.kind (length u.lexeme) (length t.lexeme) same in
    let front = same_front u.lexeme q.0 t.lexeme r.0 (sym q.1 ∙ r.1) size in
    let here : NeedsColon t.kind colon = subst (λ k. NeedsColon k colon) kind c.0 in (
      here,
      same_colons (w ∷ ts) us (mode_after t.kind t m) (mode_after t.kind u n) (colon_after t.kind colon) r.0
          (same_after t.kind t u m n (sym front.0) s (both_indent t.kind m n colon h here)) (colons_kept t.kind t u m n colon h) r.3
          (subst (λ k. Runs (mode_after k u n) r.0 us) kind (subst (λ x. Runs (mode_after u.kind u n) x us) front.1 q.3)) o.1
          (ends_later u us p (λ e. o.0 (sym kind ∙ e))) (subst (λ k. IndentsHaveColons (colon_after k colon) us) kind c.1),
    )
