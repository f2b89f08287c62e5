-- Tokens and faults that are computed from a text.
use Rattle.std.proofs.Common.{zero, suc, ◌≡◌, ℕ, ◌+◌, ◌*◌, Bool, true, false, List, [], ◌∷◌, length, Option, Some, None, Result, Ok, Err, refl, subst}
use Rattle.std.specs.Prelude.{reverse}
use Rattle.std.specs.Str.{IsUtf8, is_utf8}
use Rattle.std.proofs.lemmas.Str.{IsUtf8-from_is_utf8}
use Rattle.justfile_model.specs.Lexing.Tok.{Tok}
use Rattle.justfile_model.specs.Lexing.LexicalFault.{LexicalFault}
use Rattle.justfile_model.specs.Lexing.Next.{NextToken}
use Rattle.justfile_model.specs.Lexing.Lexed.{Begins, IsFault, Lexed, end_of, next_of}
use Rattle.justfile_model.proofs.Lexing.AnswerLaws.{at, begun_at, fault_of, is_eof, last_at, refused_at, span_of}

abbrev Answer : Type 0
Answer = Result (List Tok) (LexicalFault × Tok)

abbrev pub Means : List ℕ → Answer → Type 0
Means text (Ok tokens) = Lexed text tokens
Means text (Err x) = IsFault text x.0 x.1

abbrev go_on : (List Tok → Option Answer) → List Tok → Tok → Bool → Option Answer
go_on more e t true = Some (Ok (reverse (t ∷ e)))
go_on more e t false = more (t ∷ e)

abbrev step : List ℕ → (List Tok → Option Answer) → List Tok → NextToken → Option Answer
step text more e (Err r) = Some (Err (fault_of r, span_of text e r))
step text more e (Ok x) = go_on more e (at text x.0 (end_of e) x.1) (is_eof x.0)

-- the tokens or the fault after the earlier tokens, if this many steps are enough
unfoldable pub answer : List ℕ → ℕ → List Tok → Option Answer
answer text zero e = None
answer text (suc fuel) e = step text (answer text fuel) e (next_of text e)

some_inside : (x y : Answer) → ◌≡◌ {A = Option Answer} (Some x) (Some y) → x ≡ y
some_inside x y h = cc

module _ (text : List ℕ) (u : IsUtf8 text) where
  abbrev Sound : ℕ → Type 0
  Sound fuel = (e : List Tok) → Begins text e → (r : Answer) → answer text fuel e ≡ Some r → Means text r

  sound_step : (fuel : ℕ) → Sound fuel → (e : List Tok) → Begins text e → (r : Answer) (found : NextToken) → next_of text e ≡ found → step text (answer text fuel) e found ≡ Some r → Means text r
  sound_step fuel more e b r (Err x) n h = subst (Means text) (some_inside (Err (fault_of x, span_of text e x)) r h) (refused_at text e b u x n)
  sound_step fuel more e b r (Ok x) n h = goes (is_eof x.0) refl h
    where
      goes : (eof : Bool) → is_eof x.0 ≡ eof → go_on (answer text fuel) e (at text x.0 (end_of e) x.1) eof ≡ Some r → Means text r
      goes true k h = subst (Means text) (some_inside (Ok (reverse (at text x.0 (end_of e) x.1 ∷ e))) r h) (last_at text e b u x.0 x.1 n k)
      goes false k h = more (at text x.0 (end_of e) x.1 ∷ e) (begun_at text e b u x.0 x.1 n k) r h

  sound : (fuel : ℕ) → Sound fuel
  unfolding answer
  sound zero e b r h = cc
  sound (suc fuel) e b r h = sound_step fuel (sound fuel) e b r (next_of text e) refl h

abbrev pub MeansSome : List ℕ → Option Answer → Type 0
MeansSome text None = Unit {0}
MeansSome text (Some r) = Means text r

-- what is computed is so
pub computed : (text : List ℕ) → is_utf8 text ≡ true → MeansSome text (answer text (2 * length text + 1) [])
computed text u = go (answer text (2 * length text + 1) []) refl
  where
    go : (o : Option Answer) → answer text (2 * length text + 1) [] ≡ o → MeansSome text o
    go None h = tt
    go (Some r) h = sound text (IsUtf8-from_is_utf8 text u) (2 * length text + 1) [] tt r h
