-- What derives from one place in a file up to another: its features and its literals, and how it goes on.
use Rattle.std.proofs.Common.{◌≡◌, ℕ, List, [], ◌∷◌, ◌++◌, Ok, sym, subst}
use Rattle.justfile_model.specs.Grammars.Conditions.{Conditions}
use Rattle.justfile_model.specs.Grammars.Expressions.{Tokens}
use Rattle.justfile_model.specs.Grammars.Features.{Noted}
use Rattle.justfile_model.specs.Lexing.Tok.{Tok}
use Rattle.justfile_model.specs.LiteralTexts.Literals.{Literal, cooked_text, over_literal}
use Rattle.justfile_model.specs.Readers.ReaderState.{at, with}
use Rattle.justfile_model.specs.Readers.TreeReader.{State}
use Rattle.justfile_model.specs.Trees.Tree.{lexeme}
use Rattle.justfile_model.proofs.Readers.Meets.{Met, all_met, both_met, literal_met, noted_met, nothing_met}

-- features, and the tokens from one place up to another
abbrev pub Rule : Type 1
Rule = List (Noted Tok) → Tokens → Tokens → Type 0

module _ (conditions : Conditions) where
  -- `d` expressions are open, under these conditions
  abbrev pub Here : ℕ → State → Type 0
  Here d s = (s.depth ≡ d) × (s.run ≡ conditions)

  -- what is read from one place up to another derives by the rule, and the literals have texts
  pub record Derived (rule : Rule) (literals : List (Literal Tok)) (d : ℕ) (s rest : State) : Type 0 where
    pub features : List (Noted Tok)
    pub derives : rule features s.left rest.left
    pub met : Met conditions.expander features literals s.noted rest.noted
    pub stays : Here d rest

module _ {conditions : Conditions} {rule : Rule} where
  module _ {ls : List (Literal Tok)} {d : ℕ} {s rest : State} where
    -- where these tokens come next
    pub begins : {ts : Tokens} → s.left ≡ ts → Derived conditions rule ls d (at s ts) rest → Derived conditions rule ls d s rest
    begins split h =
        record { features = h.features; derives = subst (λ (us : Tokens). rule h.features us rest.left) (sym split) h.derives; met = h.met; stays = h.stays }

    -- before these tokens, which come next
    abbrev pub ends : {ts : Tokens} → rest.left ≡ ts → Derived conditions rule ls d s rest → Derived conditions rule ls d s (at rest ts)
    ends split h =
        record { features = h.features; derives = subst (λ (us : Tokens). rule h.features s.left us) split h.derives; met = h.met; stays = h.stays }

    -- by another rule, with the same features
    pub again : {other : Rule} {ts us : Tokens} (h : Derived conditions rule ls d s rest) → other h.features ts us → Derived conditions other ls d (at s ts) (at rest us)
    again h derives = record { features = h.features; derives = derives; met = h.met; stays = h.stays }

    -- as the one element of a list, whose literals are its own
    pub alone : {other : Rule} {ts us : Tokens} (h : Derived conditions rule ls d s rest) → other h.features ts us → Derived conditions other (ls ++ []) d (at s ts) (at rest us)
    alone h derives = record { features = h.features; derives = derives; met = all_met h.met; stays = h.stays }

    -- with features that are noted after it
    abbrev pub noting : (fs : List (Noted Tok)) (h : Derived conditions rule ls d s rest) → Derived conditions (λ _ ts us. rule h.features ts us) ls d s (with fs rest)
    noting fs h = record { features = h.features ++ fs; derives = h.derives; met = noted_met fs h.met; stays = h.stays }

    -- one after the other
    pub followed : {next both : Rule} {ms : List (Literal Tok)} {e : ℕ} {ts us vs : Tokens} {end : State} (h : Derived conditions rule ls d s rest)
        (k : Derived conditions next ms e (at rest us) end) → both (h.features ++ k.features) ts vs → Derived conditions both (ls ++ ms) e (at s ts) (at end vs)
    followed h k derives = record { features = h.features ++ k.features; derives = derives; met = both_met h.met k.met; stays = k.stays }

  module _ {d : ℕ} {s : State} {ts : Tokens} (here : Here conditions d s) where
    -- without features and literals
    pub plainly : rule [] s.left ts → Derived conditions rule [] d s (at s ts)
    plainly derives = record { features = []; derives = derives; met = nothing_met; stays = here }

    -- one literal, which has a text
    pub one_literal : {l : Literal Tok} {text : List ℕ} → cooked_text conditions.expander (over_literal lexeme l) ≡ Ok text → rule [] s.left ts
        → Derived conditions rule (l ∷ []) d s (at s ts)
    one_literal {text = text} is derives = record { features = []; derives = derives; met = literal_met (record { text = text; is = is }); stays = here }
