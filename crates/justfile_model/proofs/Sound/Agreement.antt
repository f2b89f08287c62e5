-- The parser and the grammar agree.
use Rattle.std.proofs.Common.{◌≡◌, ◌⊎◌, Bool, IsTrue, List, [], length, Option, Some, Result, Ok, Err, sym, ap, ◌∙◌, inl, inr, arith}
use Rattle.justfile_model.specs.Grammars.Conditions.{Conditions}
use Rattle.justfile_model.specs.Lexing.SignificantTokens.{SignificantToken}
use Rattle.justfile_model.specs.Lexing.Tok.{Tok}
use Rattle.justfile_model.specs.Trees.Tree.{Tree, WrittenTree}
use Rattle.justfile_model.specs.Grammars.Features.{ConstructFeatures, Noted}
use Rattle.justfile_model.specs.Grammars.Expressions.{Tokens, BelowLimit, AnyDepth, PastLimitAt}
use Rattle.justfile_model.specs.Grammars.Grammar.{File}
use Rattle.justfile_model.specs.Grammars.Files.{FileDerives, FileTree, Obeys, all_features, all_literals, broken, to_tokens, ordered}
use Rattle.justfile_model.specs.Meanings.ReadAttribute.{token_view}
use Rattle.justfile_model.specs.Readers.ReaderState.{TooDeep}
use Rattle.justfile_model.specs.Meanings.Rules.{Broken}
use Rattle.justfile_model.specs.Trees.LeafView.{LeafView}
use Rattle.justfile_model.specs.Readers.TreeReader.{ReadError, tree_of_tokens}
use Rattle.justfile_model.specs.Readers.ReadErrors.{IsDue}
use Rattle.justfile_model.proofs.Derivations.CookedTexts.{all_cook}
use Rattle.justfile_model.proofs.Completeness.Complete.{file_reached}
use Rattle.justfile_model.proofs.Derivations.Depth.{file_loosened}
use Rattle.justfile_model.proofs.Completeness.Reaching.{lacks_none, kept, dropped}
use Rattle.justfile_model.proofs.Completeness.ReachingRules.{BreaksOne, DueAmong, ReachesOne, is_refused, only_due, some_read}
pub use Rattle.justfile_model.proofs.Sound.FileObeys.{read_derives, sound}

-- a written tree with its features, as the parser gives it
abbrev Found : Type 0
Found = WrittenTree × List (Noted Tok)

ok_inside : (a b : Found) → ◌≡◌ {A = Result Found ReadError} (Ok a) (Ok b) → a ≡ b
ok_inside a b h = cc

same_meaning : (view : LeafView Tok Tok) {written other : WrittenTree} {tree twin : Tree} → written ≡ other → ordered view written ≡ Some tree
    → ordered view other ≡ Some twin → tree ≡ twin
same_meaning view {written} {other} same h k = let e = ap (ordered view) same in cc

no_rule : (rules : List (Broken Tok)) (r : ReadError) → rules ≡ [] → BreaksOne rules r → ⊥
no_rule rules r none h = absurd (omega (arith, h.among.1, ap length none))

module _ (conditions : Conditions) where
  -- the result of parsing if this tree derives by the grammar
  abbrev FileReached : (Hit : Option SignificantToken → Type 0) → Result Found ReadError → Found → Type 0
  FileReached Hit found x = ReachesOne conditions Hit found x (all_literals x.0) (broken conditions.current (token_view conditions) x.0)

  -- if the conditions are obeyed, it is parsed, or the error is the depth at a token to which the limit doesn't apply
  read_or_deep : (Hit : Option SignificantToken → Type 0) (found : Result Found ReadError) (x : Found) → Obeys conditions x.0 → FileReached Hit found x
      → (found ≡ Ok x) ⊎ ((at : Option SignificantToken) × Hit at × (found ≡ Err (TooDeep at)))
  read_or_deep Hit found x obeys (some_read y a same is) = inl (is ∙ ap (λ z. Ok z) same)
  read_or_deep Hit found x obeys (is_refused (inl (inl h)) is) =
      absurd (lacks_none conditions (all_literals x.0) _ (all_cook conditions.expander (all_literals x.0) obeys.cooked obeys.cooks) h)
  read_or_deep Hit found x obeys (is_refused (inl (inr h)) is) = inr (h.token, h.hit, is ∙ ap (λ r. Err r) h.refusal_is)
  read_or_deep Hit found x obeys (is_refused {r = r} (inr h) is) = absurd (no_rule (broken conditions.current (token_view conditions) x.0) r obeys.unbroken h)

  is_due : (Hit : Option SignificantToken → Type 0) (written : WrittenTree) (r : ReadError)
      → DueAmong conditions Hit (all_literals written) (broken conditions.current (token_view conditions) written) r → IsDue conditions Hit written r
  is_due Hit written r (inl (inl h)) = inl h
  is_due Hit written r (inl (inr h)) = inr (inl h)
  is_due Hit written r (inr h) = inr (inr (record { rule = h.rule; among = h.among; refusal_is = h.refusal_is }))

  -- what is read of items with these features
  abbrev found_of : WrittenTree → List (ConstructFeatures Tok) → Found
  found_of written fs = (written, all_features (token_view conditions) written fs)

  module _ (tokens : Tokens) where
    -- what derives and obeys is read
    pub reached : (written : WrittenTree) (fs : List (ConstructFeatures Tok)) → File to_tokens (BelowLimit conditions.limit) written fs tokens
        → Obeys conditions written → tree_of_tokens conditions tokens ≡ Ok (found_of written fs)
    reached written fs h obeys =
        read (read_or_deep (λ at. ⊥) (tree_of_tokens conditions tokens) (found_of written fs) obeys (file_reached conditions (λ at. ⊥)
        (file_loosened (BelowLimit conditions.limit) (PastLimitAt conditions.limit (λ at. ⊥)) (kept conditions.limit) to_tokens h)))
      where
        read : (tree_of_tokens conditions tokens ≡ Ok (found_of written fs)) ⊎ ((at : Option SignificantToken) × ⊥ × (tree_of_tokens conditions tokens ≡ Err (TooDeep at)))
            → tree_of_tokens conditions tokens ≡ Ok (found_of written fs)
        read (inl is) = is
        read (inr x) = absurd x.1

    -- what derives in all is read, with its features
    pub derived : (tree : Tree) (features : List (Noted Tok)) (h : FileDerives conditions tokens tree features)
        → tree_of_tokens conditions tokens ≡ Ok (h.written, features)
    derived tree features h =
        reached h.written h.by_construct h.derives h.obeys ∙ ap (λ (fs : List (Noted Tok)). Ok (h.written, fs)) (sym h.features_are)

    pub complete : (tree : Tree) (features : List (Noted Tok)) → FileDerives conditions tokens tree features
        → (written : WrittenTree) × (ordered (token_view conditions) written ≡ Some tree) × (tree_of_tokens conditions tokens ≡ Ok (written, features))
    complete tree features h = (h.written, h.ordered_is, derived tree features h)

    pub one_tree : (tree other : Tree) (features others : List (Noted Tok)) → FileDerives conditions tokens tree features → FileDerives conditions tokens other others → (tree ≡ other) × (features ≡ others)
    one_tree tree other features others h q =
        let same = ok_inside (h.written, features) (q.written, others) (sym (derived tree features h) ∙ derived other others q) in
        (same_meaning (token_view conditions) (ap (λ p. p.0) same) h.ordered_is q.ordered_is, ap (λ p. p.1) same)

  module _ (tokens : Tokens) (written : WrittenTree) (fs : List (ConstructFeatures Tok)) where
    -- where the limit doesn't apply to expressions that begin at some tokens
    module _ (Hit : Option SignificantToken → Bool) (h : File to_tokens (PastLimitAt conditions.limit (λ at. IsTrue (Hit at))) written fs tokens) where
      pub deep : Obeys conditions written → (tree_of_tokens conditions tokens ≡ Ok (found_of written fs)) ⊎ ((at : Option SignificantToken) × IsTrue (Hit at) × (tree_of_tokens conditions tokens ≡ Err (TooDeep at)))
      deep obeys =
          read_or_deep (λ at. IsTrue (Hit at)) (tree_of_tokens conditions tokens) (found_of written fs) obeys (file_reached conditions (λ at. IsTrue (Hit at)) h)

      pub due : (r : ReadError) → tree_of_tokens conditions tokens ≡ Err r → IsDue conditions (λ at. IsTrue (Hit at)) written r
      due r is = is_due (λ at. IsTrue (Hit at)) written r (only_due conditions (λ at. IsTrue (Hit at)) is (file_reached conditions (λ at. IsTrue (Hit at)) h))

    -- without a limit
    free_found : FileTree tokens written fs → FileReached (λ at. Unit {0}) (tree_of_tokens conditions tokens) (found_of written fs)
    free_found h = file_reached conditions (λ at. Unit {0}) (file_loosened AnyDepth (PastLimitAt conditions.limit (λ at. Unit {0})) (dropped conditions.limit) to_tokens h)

    pub free : FileTree tokens written fs → Obeys conditions written → (tree_of_tokens conditions tokens ≡ Ok (found_of written fs)) ⊎ ((at : Option SignificantToken) × (tree_of_tokens conditions tokens ≡ Err (TooDeep at)))
    free h obeys =
        without (read_or_deep (λ at. Unit {0}) (tree_of_tokens conditions tokens) (found_of written fs) obeys (free_found h))
      where
        without : (tree_of_tokens conditions tokens ≡ Ok (found_of written fs)) ⊎ ((at : Option SignificantToken) × Unit {0} × (tree_of_tokens conditions tokens ≡ Err (TooDeep at)))
            → (tree_of_tokens conditions tokens ≡ Ok (found_of written fs)) ⊎ ((at : Option SignificantToken) × (tree_of_tokens conditions tokens ≡ Err (TooDeep at)))
        without (inl is) = inl is
        without (inr x) = inr (x.0, x.2)

    pub refused : FileTree tokens written fs → (r : ReadError) → tree_of_tokens conditions tokens ≡ Err r → IsDue conditions (λ at. Unit {0}) written r
    refused h r is = is_due (λ at. Unit {0}) written r (only_due conditions (λ at. Unit {0}) is (free_found h))

    -- where anything is read, it is what the grammar alone has
    pub same_found : FileTree tokens written fs → (x : Found) → tree_of_tokens conditions tokens ≡ Ok x → x ≡ found_of written fs
    same_found h x is = go (free_found h)
      where
        read_or_refused : (found : Result Found ReadError) (r : ReadError) → found ≡ Ok x → found ≡ Err r → ⊥
        read_or_refused found r h k = cc

        go : FileReached (λ at. Unit {0}) (tree_of_tokens conditions tokens) (found_of written fs) → x ≡ found_of written fs
        go (some_read y a same read) = ok_inside x y (sym is ∙ read) ∙ same
        go (is_refused {r = r} due refused) = absurd (read_or_refused (tree_of_tokens conditions tokens) r is refused)
