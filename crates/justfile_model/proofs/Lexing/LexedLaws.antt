-- A text has at most one list of tokens, or one fault.
use Rattle.std.proofs.Common.{zero, suc, ◌≡◌, ◌≢◌, ℕ, ◌+◌, ◌-◌, ◌<◌, ◌≤◌, List, [], ◌∷◌, ◌++◌, length, get_or, take, drop, Ok, Err, refl, sym, ap, subst, ◌∙◌, ⊎_elim, arith}
use Rattle.std.specs.Prelude.{reverse}
use Rattle.std.proofs.lemmas.Bool.{cases_lt}
use Rattle.std.proofs.lemmas.List.{reverse-reverse}
use Rattle.justfile_vocabulary.specs.declared.token_kind.TokenKind.{TokenKind}
use Rattle.justfile_vocabulary.specs.declared.token_kind.TokenKind.TheVariants.{Eof}
use Rattle.justfile_token.specs.Slice.{slice_of}
use Rattle.justfile_model.specs.Lexing.Places.{line_of_offset, column_at}
use Rattle.justfile_model.specs.Lexing.Next.{NextToken}
use Rattle.justfile_model.specs.Lexing.Tok.{Tok}
use Rattle.justfile_model.specs.Lexing.LexicalFault.{LexicalFault, LexicalError, Here, Unclosed}
use Rattle.std.specs.Str.{IsUtf8, IsCharBoundary}
use Rattle.std.specs.List.{All, flat_map}
use Rattle.std.specs.List.Sorted.{IsNonDecreasingBy}
use Rattle.std.proofs.Math.Seq.{get_or-append_seam, take-add}
use Rattle.std.proofs.lemmas.List.Sorted.{IsNonDecreasingBy-push, IsNonDecreasingBy-short}
use Rattle.std.proofs.lemmas.List.{get_or-reverse, length-reverse, reverse-append, flat_map_more, append-nil, append_assoc, take_all, length-drop}
use Rattle.std.proofs.lemmas.Str.{IsCharBoundary-start, IsCharBoundary-from_rest, IsUtf8-drop}
use Rattle.justfile_model.proofs.Lexing.NextLaws.{token_cut}
use Rattle.justfile_model.specs.Lexing.Lexed.{next_of, IsSpan, EndsInEof, Follows, end_of, Stands, StandsAt, IsNext, Begins, Lexed, IsFault}

ok_inside : (x y : TokenKind × ℕ) → ◌≡◌ {A = NextToken} (Ok x) (Ok y) → x ≡ y
ok_inside x y h = cc

err_inside : (x y : LexicalError) → ◌≡◌ {A = NextToken} (Err x) (Err y) → x ≡ y
err_inside x y h = cc

module _ (text : List ℕ) where
  -- a token is fixed by its kind, its length and what comes before it
  same_standing : (e : ℕ) (t u : Tok) → StandsAt text e t → StandsAt text e u → t.kind ≡ u.kind → length t.lexeme ≡ length u.lexeme → t ≡ u
  same_standing e t u p q kind len =
      let offset = p.offset_is ∙ sym q.offset_is in
      let lexeme = p.lexeme_is ∙ (λ i. slice_of text (offset i) (len i)) ∙ sym q.lexeme_is in
      let line = p.line_is ∙ ap (line_of_offset text) offset ∙ sym q.line_is in
      let column = p.column_is ∙ ap (column_at text) offset ∙ sym q.column_is in
      λ i. record { kind = kind i; lexeme = lexeme i; offset = offset i; line = line i; column = column i }

  same_next : (e : List Tok) (t u : Tok) → IsNext text e t → IsNext text e u → t ≡ u
  same_next e t u p q =
      let found = ok_inside _ _ (sym p.found ∙ q.found) in
      same_standing (end_of e) t u p.stands q.stands (ap (λ x. x.0) found) (ap (λ x. x.1) found)

  same_begins : (a b : List Tok) → Begins text a → Begins text b → length a ≡ length b → a ≡ b
  same_begins [] [] p q e = refl
  same_begins (t ∷ a) (u ∷ b) p q e =
      let tails : a ≡ b = same_begins a b p.0 q.0 (omega arith) in
      let heads : t ≡ u = same_next b t u (subst (λ x. IsNext text x t) tails p.1) q.1 in
      λ i. heads i ∷ tails i
  same_begins _ _ p q e = absurd (omega arith)

  record Continues (a : List Tok) : Type 0 where
    token : Tok
    is_next : IsNext text a token
    goes_on : token.kind ≢ Eof

  -- a longer list has a next token after the shorter one
  continues : (a b : List Tok) → Begins text a → Begins text b → length a < length b → Continues a
  continues a [] p q l = absurd (omega arith)
  continues a (u ∷ b) p q l =
      ⊎_elim
      (λ less. continues a b p q.0 less)
      (λ h.
      let same : a ≡ b = same_begins a b p q.0 (omega arith) in
      record { token = u; is_next = subst (λ x. IsNext text x u) (sym same) q.1; goes_on = q.2 })
      (cases_lt (length a) (length b))

  no_more : (ts : List Tok) (p : Lexed text ts) → Continues p.earlier → ⊥
  no_more ts p c = c.goes_on (ap (λ t. t.kind) (same_next p.earlier c.token p.last c.is_next p.is_next) ∙ p.is_end)

  no_next : (k : LexicalFault) (t : Tok) (p : IsFault text k t) → Continues p.earlier → ⊥
  no_next k t p c = cc (p.refused, c.is_next.found)

  -- lists that don't go on are one
  same_earlier : (a b : List Tok) → Begins text a → Begins text b → (Continues a → ⊥) → (Continues b → ⊥) → a ≡ b
  same_earlier a b p q no_a no_b =
      ⊎_elim (λ l. absurd (no_a (continues a b p q l))) (λ h.
      ⊎_elim (λ l. absurd (no_b (continues b a q p l))) (λ g. same_begins a b p q (omega arith))
      (cases_lt (length b) (length a)))
      (cases_lt (length a) (length b))

  pub one_list : (ts us : List Tok) → Lexed text ts → Lexed text us → ts ≡ us
  one_list ts us p q =
      let earlier = same_earlier p.earlier q.earlier p.begins q.begins (no_more ts p) (no_more us q) in
      let last = same_next q.earlier p.last q.last (subst (λ x. IsNext text x p.last) earlier p.is_next) q.is_next in
      sym (reverse-reverse ts) ∙ ap reverse (p.are ∙ (λ i. last i ∷ earlier i) ∙ sym q.are) ∙ reverse-reverse us

  pub never_both : (ts : List Tok) (k : LexicalFault) (t : Tok) → Lexed text ts → IsFault text k t → ⊥
  never_both ts k t p q =
      let earlier = same_earlier p.earlier q.earlier p.begins q.begins (no_more ts p) (no_next k t q) in
      let found = subst (λ x. IsNext text x p.last) earlier p.is_next in
      cc (found.found, q.refused)

  span_same : (e : List Tok) (r : LexicalError) (p q : LexicalFault) (t u : Tok) → IsSpan text e r p t → IsSpan text e r q u → (p ≡ q) × (t ≡ u)
  span_same e (Here p skip n) k m t u x y = (x.0 ∙ sym y.0, same_standing (end_of e + skip) t u x.3 y.3 (x.1 ∙ sym y.1) (x.2 ∙ sym y.2))
  span_same e (Unclosed s) k m t u x y = (x.0 ∙ sym y.0, x.1 ∙ sym y.1)

  pub one_fault : (k m : LexicalFault) (t u : Tok) → IsFault text k t → IsFault text m u → (k ≡ m) × (t ≡ u)
  one_fault k m t u p q =
      let earlier = same_earlier p.earlier q.earlier p.begins q.begins (no_next k t p) (no_next m u q) in
      let same = err_inside _ _ (sym p.refused ∙ ap (next_of text) earlier ∙ q.refused) in
      let spans = subst (λ e. IsSpan text e p.refusal k t) earlier p.spans in
      span_same q.earlier q.refusal k m t u (subst (λ r. IsSpan text q.earlier r k t) same spans) q.spans

  -- read from the first token on
  pub from_follows : (e ts : List Tok) → Begins text e → Follows text e ts → Lexed text (reverse e ++ ts)
  from_follows e [] p f = absurd f
  from_follows e (t ∷ []) p f = record {
    earlier = e;
    last = t;
    are = reverse-append (reverse e) (t ∷ []) ∙ ap (λ l. t ∷ l) (reverse-reverse e);
    begins = p;
    is_next = f.0;
    is_end = f.1;
  }
  from_follows e (t ∷ u ∷ ts) p f =
      let moved : reverse (t ∷ e) ++ (u ∷ ts) ≡ reverse e ++ (t ∷ u ∷ ts) = ap (λ l. l ++ (u ∷ ts)) (reverse-append (t ∷ []) e) ∙ append_assoc (reverse e) (t ∷ []) (u ∷ ts) in
      subst (Lexed text) moved (from_follows (t ∷ e) (u ∷ ts) (p, f.0, f.1) f.2)

  -- the tokens are the text
  abbrev lexeme_of : Tok → List ℕ
  lexeme_of t = t.lexeme

  pub end_cuts : (e : List Tok) → IsUtf8 text → Begins text e → IsCharBoundary text (end_of e)
  end_cuts [] u b = IsCharBoundary-start text u
  end_cuts (t ∷ e) u b =
      let at = end_cuts e u b.0 in
      let cut = token_cut _ _ (IsUtf8-drop text (end_of e) u at) _ _ b.1.found in
      subst (λ n. IsCharBoundary text (n + length t.lexeme)) (sym b.1.stands.offset_is) (IsCharBoundary-from_rest text (end_of e) (length t.lexeme) at.0 cut.0)

  pub tiled : (e : List Tok) → Begins text e → flat_map lexeme_of (reverse e) ≡ take (end_of e) text
  tiled [] b = refl
  tiled (t ∷ e) b =
      let one = b.1.stands in
      ap (flat_map lexeme_of) (reverse-append (t ∷ []) e)
      ∙ sym (flat_map_more lexeme_of [] (reverse e) t)
      ∙ (λ i. tiled e b.0 i ++ (one.lexeme_is ∙ ap (λ n. take (length t.lexeme) (drop n text)) one.offset_is) i)
      ∙ sym (take-add (end_of e) (length t.lexeme) text)
      ∙ ap (λ n. take (n + length t.lexeme) text) (sym one.offset_is)

  pub nil : (xs : List ℕ) → length xs ≡ 0 → xs ≡ []
  nil [] h = refl
  nil (x ∷ xs) h = absurd (omega arith)

  in_front : (ts : List Tok) (p : Lexed text ts) → ts ≡ reverse p.earlier ++ (p.last ∷ [])
  in_front ts p = sym (reverse-reverse ts) ∙ ap reverse p.are ∙ reverse-append (p.last ∷ []) p.earlier

  no_eof : (e : List Tok) → Begins text e → All (λ t. t.kind ≢ Eof) e
  no_eof [] b k d l = absurd (omega arith)
  no_eof (t ∷ e) b zero d l = b.2
  no_eof (t ∷ e) b (suc k) d l = no_eof e b.0 k d (omega arith)

  at_end_of : (ts : List Tok) (p : Lexed text ts) → IsUtf8 text → (end_of p.earlier ≡ length text) × (p.last.lexeme ≡ [])
  at_end_of ts p u =
      let at = end_cuts p.earlier u p.begins in
      let found = subst (λ k. next_of text p.earlier ≡ Ok (k, length p.last.lexeme)) p.is_end p.is_next.found in
      let ends = (token_cut _ _ (IsUtf8-drop text (end_of p.earlier) u at) _ _ found).2 in
      (omega (arith, ends.0, at.0, length-drop (end_of p.earlier) text), nil p.last.lexeme ends.1)

  pub ended : (ts : List Tok) → IsUtf8 text → Lexed text ts → EndsInEof text ts
  ended ts u p =
      let ends = at_end_of ts p u in
      record {
        front = reverse p.earlier;
        last = p.last;
        are = in_front ts p;
        is_end = p.is_end;
        lexeme_is = ends.1;
        offset_is = p.is_next.stands.offset_is ∙ ends.0;
        only_there = λ k d l.
            let l' : k < length p.earlier = omega (arith, l, length-reverse p.earlier) in
            subst (λ (t : Tok). t.kind ≢ Eof) (sym (get_or-reverse p.earlier k d l')) (no_eof p.earlier p.begins (length p.earlier - 1 - k) d (omega arith));
      }

  pub joined : (ts : List Tok) → IsUtf8 text → Lexed text ts → flat_map lexeme_of ts ≡ text
  joined ts u p =
      let ends = at_end_of ts p u in
      ap (flat_map lexeme_of) (in_front ts p)
      ∙ sym (flat_map_more lexeme_of [] (reverse p.earlier) p.last)
      ∙ (λ i. tiled p.earlier p.begins i ++ ends.1 i)
      ∙ append-nil (take (end_of p.earlier) text)
      ∙ take_all (end_of p.earlier) text (omega (arith, ends.0))

  -- each token begins where the one before it ends
  pushed : (e : List Tok) (t : Tok) → Begins text e → Stands text e t → IsNonDecreasingBy (λ t. t.offset) (reverse e) → IsNonDecreasingBy (λ t. t.offset) (reverse e ++ (t ∷ []))
  pushed e t b s h = IsNonDecreasingBy-push (λ t. t.offset) (reverse e) t h (λ d l. go e s d l)
    where
      go : (e : List Tok) → Stands text e t → (d : Tok) → 0 < length (reverse e) → (get_or (reverse e) (length (reverse e) - 1) d).offset ≤ t.offset
      go [] s d l = absurd (omega arith)
      go (u ∷ e) s d l =
          let n : length (reverse (u ∷ e)) - 1 ≡ length e = omega (arith, length-reverse (u ∷ e)) in
          let at : get_or (reverse (u ∷ e)) (length (reverse (u ∷ e)) - 1) d ≡ u = ap (λ n. get_or (reverse (u ∷ e)) n d) n ∙ ap (λ l. get_or l (length e) d) (reverse-append (u ∷ []) e) ∙ ap (λ n. get_or (reverse e ++ (u ∷ [])) n d) (sym (length-reverse e)) ∙ get_or-append_seam (reverse e) u [] d in
          omega (arith, ap (λ (t : Tok). t.offset) at, s.offset_is)

  rising : (e : List Tok) → Begins text e → IsNonDecreasingBy (λ t. t.offset) (reverse e)
  rising [] b = IsNonDecreasingBy-short (λ t. t.offset) [] (omega arith)
  rising (t ∷ e) b = subst (IsNonDecreasingBy (λ t. t.offset)) (sym (reverse-append (t ∷ []) e)) (pushed e t b.0 b.1.stands (rising e b.0))

  pub offsets_rise : (ts : List Tok) → Lexed text ts → IsNonDecreasingBy (λ t. t.offset) ts
  offsets_rise ts p = subst (IsNonDecreasingBy (λ t. t.offset)) (sym (in_front ts p)) (pushed p.earlier p.last p.begins p.is_next.stands (rising p.earlier p.begins))
