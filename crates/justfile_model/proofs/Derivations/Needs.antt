-- Tokens that derive under a limit derive under each greater one, and there is a least limit. Tokens that derive under another limit, but
-- not under this one, are too deep.
use Rattle.std.proofs.Common.{◌≡◌, ◌⊎◌, ℕ, zero, suc, ◌<◌, ◌≤◌, Bool, true, false, IsTrue, List, Option, Result, Ok, Err, refl, sym, ap, subst, ◌∙◌, inl, inr, ⊎_elim, arith}
use Rattle.std.specs.Prelude.{is_ok}
use Rattle.std.proofs.lemmas.Bool.{cases_lt}
use Rattle.justfile_model.specs.Grammars.Conditions.{Conditions, with_limit}
use Rattle.justfile_model.specs.Grammars.Expressions.{PastLimitAt}
use Rattle.justfile_model.specs.Grammars.Features.{ConstructFeatures, Noted}
use Rattle.justfile_model.specs.Grammars.Files.{FileDerives, Obeys, all_features, to_tokens, ordered}
use Rattle.justfile_model.specs.Grammars.Grammar.{File}
use Rattle.justfile_model.specs.Grammars.Need.{DerivesUnder, IsNeed}
use Rattle.justfile_model.specs.Meanings.ReadAttribute.{token_view}
use Rattle.justfile_model.specs.Readers.ReaderState.{TooDeep}
use Rattle.justfile_model.specs.Lexing.SignificantTokens.{SignificantToken}
use Rattle.justfile_model.specs.Lexing.Tok.{Tok}
use Rattle.justfile_model.specs.Trees.Tree.{Tree, WrittenTree}
use Rattle.justfile_model.specs.Readers.TreeReader.{ReadError, tree_of_tokens}
use Rattle.justfile_model.proofs.Sound.Agreement.{deep, derived, free, same_found, sound}
use Rattle.justfile_model.proofs.Derivations.Depth.{file_freed, file_raised}

-- ---- the least number that passes a test

-- a number that passes, and no number below it passes
record Least (test : ℕ → Bool) (bound : ℕ) : Type 0 where
  number : ℕ
  within : number < bound
  passes : test number ≡ true
  least : (n : ℕ) → test n ≡ true → number ≤ n

-- no number below passes
abbrev NoneBelow : (ℕ → Bool) → ℕ → Type 0
NoneBelow test bound = (n : ℕ) → n < bound → test n ≡ false

module _ (test : ℕ → Bool) where
  -- none below passes, so none is less
  is_least : (bound : ℕ) → NoneBelow test bound → (n : ℕ) → test n ≡ true → bound ≤ n
  is_least bound none n h = ⊎_elim (λ below. cc (h, none n below)) (λ above. above) (cases_lt n bound)

  none_further : (bound : ℕ) → NoneBelow test bound → test bound ≡ false → NoneBelow test (suc bound)
  none_further bound none fails n below =
      ⊎_elim (none n) (λ above. let same : n ≡ bound = omega (arith, below, above) in ap test same ∙ fails) (cases_lt n bound)

  one_more : (bound : ℕ) → Least test bound → Least test (suc bound)
  one_more bound h = record { number = h.number; within = let w = h.within in omega (arith, w); passes = h.passes; least = h.least }

  here_or_none : (bound : ℕ) → NoneBelow test bound → (b : Bool) → test bound ≡ b → Least test (suc bound) ⊎ NoneBelow test (suc bound)
  here_or_none bound none true is = inl (record { number = bound; within = omega arith; passes = is; least = is_least bound none })
  here_or_none bound none false is = inr (none_further bound none is)

  found_or_none : (bound : ℕ) → Least test bound ⊎ NoneBelow test bound
  found_or_none zero = inr (λ n below. absurd (omega (arith, below)))
  found_or_none (suc bound) = further (found_or_none bound)
    where
      further : Least test bound ⊎ NoneBelow test bound → Least test (suc bound) ⊎ NoneBelow test (suc bound)
      further (inl found) = inl (one_more bound found)
      further (inr none) = here_or_none bound none (test bound) refl

  least_of : (n : ℕ) → test n ≡ true → Least test (suc n)
  least_of n h = ⊎_elim (λ found. found) (λ none. cc (h, none n (omega arith))) (found_or_none (suc n))

-- ---- limits

abbrev ReadFile : Type 0
ReadFile = Result (WrittenTree × List (Noted Tok)) ReadError

obeys_under : (limit : ℕ) (conditions : Conditions) {written : WrittenTree} → Obeys conditions written → Obeys (with_limit limit conditions) written
obeys_under limit conditions h = record { cooked = h.cooked; cooks = h.cooks; unbroken = h.unbroken }

module _ (conditions : Conditions) (tokens : List SignificantToken) where
  -- what derives under a limit derives under a greater one
  pub raised : (limit : ℕ) → conditions.limit ≤ limit → (tree : Tree) (features : List (Noted Tok)) → FileDerives conditions tokens tree features
      → FileDerives (with_limit limit conditions) tokens tree features
  raised limit below tree features h = record {
    written = h.written;
    by_construct = h.by_construct;
    derives = file_raised conditions.limit limit below to_tokens h.derives;
    features_are = h.features_are;
    obeys = obeys_under limit conditions h.obeys;
    ordered_is = h.ordered_is;
  }

module _ (conditions : Conditions) (tokens : List SignificantToken) where
  -- what derives under these conditions, and under others, derives under these with the limit of the others
  pub relimited : (other : Conditions) (tree twin : Tree) (features others : List (Noted Tok)) → FileDerives conditions tokens tree features
      → FileDerives other tokens twin others → FileDerives (with_limit other.limit conditions) tokens tree features
  relimited other tree twin features others h q =
      let same : (h.written, features) ≡ (q.written, all_features (token_view conditions) q.written q.by_construct) =
      same_found conditions tokens q.written q.by_construct (file_freed other.limit to_tokens q.derives) (h.written, features) (derived conditions tokens tree features h) in
      let same_written : h.written ≡ q.written = ap (λ (p : WrittenTree × List (Noted Tok)). p.0) same in
      record {
        written = q.written;
        by_construct = q.by_construct;
        derives = q.derives;
        features_are = ap (λ (p : WrittenTree × List (Noted Tok)). p.1) same;
        obeys = obeys_under other.limit conditions (subst (Obeys conditions) same_written h.obeys);
        ordered_is = ap (ordered (token_view conditions)) (sym same_written) ∙ h.ordered_is;
      }

  -- whether a tree derives under a limit
  abbrev reads_under : ℕ → Bool
  reads_under limit = is_ok (tree_of_tokens (with_limit limit conditions) tokens)

  derives_where_read : (limit : ℕ) (found : ReadFile) → tree_of_tokens (with_limit limit conditions) tokens ≡ found → is_ok found ≡ true
      → DerivesUnder conditions tokens limit
  derives_where_read limit (Ok x) is h =
      let t = sound (with_limit limit conditions) tokens x.0 x.1 is in
      record { tree = t.0; features = x.1; derives = t.2 }
  derives_where_read limit (Err r) is h = cc

  read_where_derives : (limit : ℕ) → DerivesUnder conditions tokens limit → reads_under limit ≡ true
  read_where_derives limit h = ap is_ok (derived (with_limit limit conditions) tokens h.tree h.features h.derives)

  -- what derives has a need
  pub need_of : (tree : Tree) (features : List (Noted Tok)) → FileDerives conditions tokens tree features
      → (need : ℕ) × IsNeed conditions tokens need × (need ≤ conditions.limit)
  need_of tree features h =
      let l = least_of reads_under conditions.limit (read_where_derives conditions.limit (record { tree = tree; features = features; derives = h })) in
      let need : IsNeed conditions tokens l.number = record {
        derives = derives_where_read l.number (tree_of_tokens (with_limit l.number conditions) tokens) refl l.passes;
        least = λ limit under. l.least limit (read_where_derives limit under);
      } in
      let within = l.within in
      (l.number, need, omega (arith, within))

  -- which is one
  pub one_need : (m n : ℕ) → IsNeed conditions tokens m → IsNeed conditions tokens n → m ≡ n
  one_need m n h k = let up = h.least n k.derives in let down = k.least m h.derives in omega (arith, up, down)

  -- tokens derive a tree under each limit from their need on
  pub enough : (need limit : ℕ) → IsNeed conditions tokens need → need ≤ limit → DerivesUnder conditions tokens limit
  enough need limit h below =
      let d = h.derives in
      record { tree = d.tree; features = d.features; derives = raised (with_limit need conditions) tokens limit below d.tree d.features d.derives }

  read_or_refused : (found : ReadFile) (x : WrittenTree × List (Noted Tok)) (r : ReadError) → found ≡ Ok x → found ≡ Err r → ⊥
  read_or_refused found x r h k = cc

  same_refusal : (r s : ReadError) → ◌≡◌ {A = ReadFile} (Err r) (Err s) → r ≡ s
  same_refusal r s e = cc

  -- what derives under another limit
  module _ (limit : ℕ) (tree : Tree) (features : List (Noted Tok)) (h : FileDerives (with_limit limit conditions) tokens tree features) (r : ReadError) (is : tree_of_tokens conditions tokens ≡ Err r) where
    obeys_here : Obeys conditions h.written
    obeys_here = record { cooked = h.obeys.cooked; cooks = h.obeys.cooks; unbroken = h.obeys.unbroken }

    -- the error is the depth
    pub only_deep : (at : Option SignificantToken) × (r ≡ TooDeep at)
    only_deep = by_reading (free conditions tokens h.written h.by_construct (file_freed limit to_tokens h.derives) obeys_here)
      where
        by_reading : (tree_of_tokens conditions tokens ≡ Ok (h.written, all_features (token_view conditions) h.written h.by_construct))
            ⊎ ((at : Option SignificantToken) × (tree_of_tokens conditions tokens ≡ Err (TooDeep at)))
            → (at : Option SignificantToken) × (r ≡ TooDeep at)
        by_reading (inl read) = absurd (read_or_refused (tree_of_tokens conditions tokens) (h.written, all_features (token_view conditions) h.written h.by_construct) r read is)
        by_reading (inr refused) = (refused.0, same_refusal r (TooDeep refused.0) (sym is ∙ refused.1))

    -- at one of the tokens at which the expressions begin that are entered at the limit
    pub deep_at : (fs : List (ConstructFeatures Tok)) (Hit : Option SignificantToken → Bool) → File to_tokens (PastLimitAt conditions.limit (λ at. IsTrue (Hit at))) h.written fs tokens
        → (at : Option SignificantToken) × IsTrue (Hit at) × (r ≡ TooDeep at)
    deep_at fs Hit waived = by_reading (deep conditions tokens h.written fs Hit waived obeys_here)
      where
        by_reading : (tree_of_tokens conditions tokens ≡ Ok (h.written, all_features (token_view conditions) h.written fs))
            ⊎ ((at : Option SignificantToken) × IsTrue (Hit at) × (tree_of_tokens conditions tokens ≡ Err (TooDeep at)))
            → (at : Option SignificantToken) × IsTrue (Hit at) × (r ≡ TooDeep at)
        by_reading (inl read) = absurd (read_or_refused (tree_of_tokens conditions tokens) (h.written, all_features (token_view conditions) h.written fs) r read is)
        by_reading (inr refused) = (refused.0, refused.1, same_refusal r (TooDeep refused.0) (sym is ∙ refused.2))
