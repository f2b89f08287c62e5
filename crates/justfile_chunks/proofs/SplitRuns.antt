-- Runs of tokens, one after the other.
use Rattle.std.proofs.Common.{◌≡◌, ◌∙◌, ℕ, List, [], ◌∷◌, ◌++◌, length, drop, refl, sym, ap, subst, append_assoc}
use Rattle.std.specs.Prelude.{reverse}
use Rattle.std.specs.List.{flat_map}
use Rattle.std.specs.Str.{IsUtf8}
use Rattle.std.proofs.lemmas.List.{reverse-append, reverse-reverse}
use Rattle.std.proofs.lemmas.Str.{IsUtf8-drop}
use Rattle.justfile_model.specs.Lexing.Lexed.{Lexed}
use Rattle.justfile_model.specs.Lexing.Modes.{Mode, mode_after, start_mode}
use Rattle.justfile_model.specs.Lexing.Tok.{Tok}
use Rattle.justfile_model.specs.Trees.Tree.{lexeme}
use Rattle.justfile_model.proofs.Lexing.NextLaws.{token_cut}
use Rattle.justfile_round_trip.proofs.LiteralTexts.LexedModes.{drop_front}
use Rattle.justfile_round_trip.proofs.Values.TokenFacts.{Runs, runs_from, runs_one}
use Rattle.justfile_chunks.proofs.SameModes.{mode_past}

-- the rest after the first tokens, and the run of the others
pub record SplitRun (m : Mode) (rest : List ℕ) (ts us : List Tok) : Type 0 where
  pub following : List ℕ
  pub rest_is : rest ≡ flat_map lexeme ts ++ following
  pub first : Runs m rest ts
  pub run : Runs (mode_past m ts) following us

unfoldable pub split_run : (m : Mode) (rest : List ℕ) (ts us : List Tok) → Runs m rest (ts ++ us) → SplitRun m rest ts us
split_run m rest [] us r = record { following = rest; rest_is = refl; first = tt; run = r }
split_run m rest (t ∷ ts) us r =
    let x = split_run (mode_after t.kind t m) r.0 ts us r.3 in
    record {
      following = x.following;
      rest_is = r.1 ∙ ap (λ l. t.lexeme ++ l) x.rest_is ∙ sym (append_assoc t.lexeme (flat_map lexeme ts) x.following);
      first = (r.0, r.1, r.2, x.first);
      run = x.run;
    }

-- the tokens of a text, by those before the last one
pub in_order : (text : List ℕ) (tokens : List Tok) (l : Lexed text tokens) → reverse l.earlier ++ (l.last ∷ []) ≡ tokens
in_order text tokens l = sym (sym (reverse-reverse tokens) ∙ ap reverse l.are ∙ reverse-append (l.last ∷ []) l.earlier)

-- the tokens of a text are a run from its start
pub runs_of : (text : List ℕ) (tokens : List Tok) → Lexed text tokens → Runs start_mode text tokens
runs_of text tokens l = subst (Runs start_mode text) (in_order text tokens l)
    (runs_from text l.earlier (l.last ∷ []) l.begins (runs_one text l.earlier l.last [] l.is_next tt))

pub rest_utf8 : (t : Tok) (ts : List Tok) (m : Mode) (rest : List ℕ) → IsUtf8 rest → (r : Runs m rest (t ∷ ts)) → IsUtf8 r.0
rest_utf8 t ts m rest u r =
    subst IsUtf8 (ap (drop (length t.lexeme)) r.1 ∙ drop_front t.lexeme r.0)
    (IsUtf8-drop rest (length t.lexeme) u (token_cut m rest u t.kind (length t.lexeme) r.2).0)

pub split_utf8 : (ts us : List Tok) (m : Mode) (rest : List ℕ) → IsUtf8 rest → (r : Runs m rest (ts ++ us)) → IsUtf8 (split_run m rest ts us r).following
unfolding split_run
split_utf8 [] us m rest u r = u
split_utf8 (t ∷ ts) us m rest u r = split_utf8 ts us (mode_after t.kind t m) r.0 (rest_utf8 t (ts ++ us) m rest u r) r.3
