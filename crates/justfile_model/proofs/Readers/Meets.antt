-- What the parser collects between two states: the features that it notes, and the literals that have texts.
use Rattle.std.proofs.Common.{◌≡◌, List, [], ◌∷◌, ◌++◌, refl, sym, ap, ◌∙◌, append_assoc, append-nil}
use Rattle.justfile_model.specs.Lexing.Tok.{Tok}
use Rattle.justfile_model.specs.Grammars.Features.{Noted}
use Rattle.justfile_model.specs.LiteralTexts.Literals.{Literal, Expansions}
use Rattle.justfile_model.proofs.Derivations.CookedTexts.{HasText, AllCook, both_cook}

-- these features were noted between the two lists, and these literals have texts
pub record Met (expander : Expansions) (features : List (Noted Tok)) (literals : List (Literal Tok)) (before following : List (Noted Tok)) : Type 0 where
  pub noted_is : following ≡ before ++ features
  pub cooks : AllCook expander literals

module _ {expander : Expansions} where
  pub nothing_met : {a : List (Noted Tok)} → Met expander [] [] a a
  nothing_met {a} = record { noted_is = sym (append-nil a); cooks = tt }

  pub literal_met : {l : Literal Tok} {a : List (Noted Tok)} → HasText expander l → Met expander [] (l ∷ []) a a
  literal_met {a = a} h = record { noted_is = sym (append-nil a); cooks = (h, tt) }

  pub features_met : (fs : List (Noted Tok)) {a : List (Noted Tok)} → Met expander fs [] a (a ++ fs)
  features_met fs = record { noted_is = refl; cooks = tt }

  -- one after the other
  pub both_met : {fs gs : List (Noted Tok)} {ls ms : List (Literal Tok)} {a b c : List (Noted Tok)} → Met expander fs ls a b → Met expander gs ms b c → Met expander (fs ++ gs) (ls ++ ms) a c
  both_met {fs} {gs} {ls} {ms} {a} h k = record {
    noted_is = k.noted_is ∙ ap (λ l. l ++ gs) h.noted_is ∙ append_assoc a fs gs;
    cooks = both_cook expander ls ms h.cooks k.cooks;
  }

  -- and features after it
  pub noted_met : {fs : List (Noted Tok)} (gs : List (Noted Tok)) {ls : List (Literal Tok)} {a b : List (Noted Tok)} → Met expander fs ls a b → Met expander (fs ++ gs) ls a (b ++ gs)
  noted_met {fs} gs {a = a} h = record { noted_is = ap (λ l. l ++ gs) h.noted_is ∙ append_assoc a fs gs; cooks = h.cooks }

  -- no feature is one more
  pub unnoted_met : {fs : List (Noted Tok)} {ls : List (Literal Tok)} {a b : List (Noted Tok)} → Met expander fs ls a b → Met expander fs ls a (b ++ [])
  unnoted_met {b = b} h = record { noted_is = append-nil b ∙ h.noted_is; cooks = h.cooks }

  -- as the literals of a list
  pub all_met : {fs : List (Noted Tok)} {ls : List (Literal Tok)} {a b : List (Noted Tok)} → Met expander fs ls a b → Met expander fs (ls ++ []) a b
  all_met {ls = ls} h = record { noted_is = h.noted_is; cooks = both_cook expander ls [] h.cooks tt }
