-- A file keeps its tree with an expander that has the same texts of its literals: with one that has more results, and with one that has
-- results only for the texts that the file asks for.
use Rattle.std.proofs.Common.{◌≡◌, ℕ, Bool, true, false, List, [], ◌∷◌, map, Option, Some, None, Result, Ok, Err, ◌||◌, cond, refl, sym, subst, ap, ◌∙◌, ⊎_elim}
use Rattle.std.proofs.Math.Bool.{or-true}
use Rattle.std.proofs.lemmas.Slice.Eq.{bytes_eq-Decides}
use Rattle.std.specs.List.{AllByRecursion, list_any}
use Rattle.std.specs.Str.{bytes_eq}
use Rattle.justfile_token.specs.StringKind.{kind_of}
use Rattle.justfile_vocabulary.specs.declared.format_string_part.FormatStringPart.TheVariants as parts
use Rattle.justfile_vocabulary.specs.declared.token_kind.TokenKind.{TokenKind}
use Rattle.justfile_vocabulary.specs.declared.token_kind.TokenKind.TheVariants as kinds
use Rattle.justfile_model.specs.Grammars.Conditions.{Conditions, with_expander}
use Rattle.justfile_model.specs.Trees.ContentLeaf.{TokenContent}
use Rattle.justfile_model.specs.Grammars.Features.{Noted}
use Rattle.justfile_model.specs.Grammars.Files.{Obeys, FileDerives, ShapeDerives, all_literals}
use Rattle.justfile_model.specs.LiteralTexts.Literals.{Literal, Plain, Expanded, Command, Single, Start, Continue, End, LiteralFault, Unasked, Expansions, Within, over_literal, by_answer, string_text, expanded_text, cooked_text, restricted_to, AreCookedTexts}
use Rattle.justfile_model.specs.Trees.LeafView.{content_as_read, or_empty, views_lexemes, views_tokens, text_or_none, text_under, tok_content}
use Rattle.justfile_model.specs.Lexing.SignificantTokens.{SignificantToken}
use Rattle.justfile_model.specs.Lexing.Tok.{Tok}
use Rattle.justfile_model.specs.Trees.Tree.{Tree, Shape, lexeme}
use Rattle.justfile_model.proofs.Meanings.FeaturesMeant.{features_same}
use Rattle.justfile_model.proofs.Lists.Mapped.{map_same}
use Rattle.justfile_model.proofs.Lists.Unchanged.{literal_itself}
use Rattle.justfile_model.proofs.Meanings.SameTexts.{IsUnexpanded, SeeSame, items_kept}

-- ---- texts with an expander that has more results

module _ (some all : Expansions) (within : Within some all) where
  answer_kept : (asked text : List ℕ) → by_answer (some asked) ≡ Ok text → by_answer (all asked) ≡ Ok text
  answer_kept asked text h = ⊎_elim
      (λ (none : some asked ≡ None). let bad : ◌≡◌ {A = Result (List ℕ) LiteralFault} (Err Unasked) (Ok text) = sym (ap by_answer none) ∙ h in cc)
      (λ (same : some asked ≡ all asked). sym (ap by_answer same) ∙ h)
      (within asked)

  expanded_kept : (found : Result (List ℕ) LiteralFault) (text : List ℕ) → expanded_text some found ≡ Ok text → expanded_text all found ≡ Ok text
  expanded_kept (Ok asked) text h = answer_kept asked text h
  expanded_kept (Err fault) text h = h

  text_kept : (l : Literal (List ℕ)) (text : List ℕ) → cooked_text some l ≡ Ok text → cooked_text all l ≡ Ok text
  text_kept (Expanded lexeme) text h = expanded_kept (string_text lexeme) text h
  text_kept _ text h = h

  texts_kept : (literals : List (Literal (List ℕ))) (texts : List (List ℕ)) → AreCookedTexts some literals texts → AreCookedTexts all literals texts
  texts_kept [] [] c = tt
  texts_kept (l ∷ literals) (text ∷ texts) c = (text_kept l text c.0, texts_kept literals texts c.1)
  texts_kept _ _ c = absurd c

-- ---- texts with an expander that has results only for the texts that are asked for

-- the text that a literal asks for, or an empty one if it asks for none
abbrev asked_by : Result (List ℕ) LiteralFault → List ℕ
asked_by (Ok text) = text
asked_by (Err fault) = []

abbrev asked_of : Literal (List ℕ) → List ℕ
asked_of (Expanded lexeme) = asked_by (string_text lexeme)
asked_of _ = []

abbrev among : List (List ℕ) → List ℕ → Bool
among texts text = list_any (bytes_eq text) texts

among_first : (text : List ℕ) (texts : List (List ℕ)) → among (text ∷ texts) text ≡ true
among_first text texts = ap (λ b. b || list_any (bytes_eq text) texts) ((bytes_eq-Decides text text).1 refl)

among_others : (text first : List ℕ) (texts : List (List ℕ)) → among texts text ≡ true → among (first ∷ texts) text ≡ true
among_others text first texts h = ap (λ b. bytes_eq text first || b) h ∙ or-true (bytes_eq text first)

module _ (expander : Expansions) (texts : List (List ℕ)) where
  expanded_restricted : (found : Result (List ℕ) LiteralFault) (text : List ℕ) → among texts (asked_by found) ≡ true
      → expanded_text expander found ≡ Ok text → expanded_text (restricted_to texts expander) found ≡ Ok text
  expanded_restricted (Ok asked) text m h = ap (λ b. by_answer (cond b (expander asked) None)) m ∙ h
  expanded_restricted (Err fault) text m h = h

  text_restricted : (l : Literal (List ℕ)) (text : List ℕ) → among texts (asked_of l) ≡ true
      → cooked_text expander l ≡ Ok text → cooked_text (restricted_to texts expander) l ≡ Ok text
  text_restricted (Expanded lexeme) text m h = expanded_restricted (string_text lexeme) text m h
  text_restricted _ text m h = h

  texts_restricted : (literals : List (Literal (List ℕ))) (cooked : List (List ℕ))
      → ((text : List ℕ) → among (map asked_of literals) text ≡ true → among texts text ≡ true)
      → AreCookedTexts expander literals cooked → AreCookedTexts (restricted_to texts expander) literals cooked
  texts_restricted [] [] s c = tt
  texts_restricted (l ∷ literals) (text ∷ cooked) s c = (
    text_restricted l text (s (asked_of l) (among_first (asked_of l) (map asked_of literals))) c.0,
    texts_restricted literals cooked (λ other m. s other (among_others other (asked_of l) (map asked_of literals) m)) c.1,
  )
  texts_restricted _ _ s c = absurd c

-- ---- what is seen of a tree whose literals have the same texts with two expanders

module _ (some all : Expansions) {A : Type 0} (bytes : A → List ℕ) (leaf_content : TokenKind → A → TokenContent) where
  -- the texts of literals
  abbrev texts_by : Expansions → Literal A → Option (List ℕ)
  texts_by expander = text_under expander bytes

  contents_same : (l : Literal A) → texts_by some l ≡ texts_by all l
      → content_as_read bytes (texts_by some) leaf_content l ≡ content_as_read bytes (texts_by all) leaf_content l
  contents_same (Plain t) h = λ i. record { cooked = or_empty (h i); expand = false; kind = kind_of (bytes t); part = None; token = leaf_content kinds.StringToken t }
  contents_same (Expanded t) h = λ i. record { cooked = or_empty (h i); expand = true; kind = kind_of (bytes t); part = None; token = leaf_content kinds.StringToken t }
  contents_same (Command t) h = λ i. record { cooked = or_empty (h i); expand = false; kind = kind_of (bytes t); part = None; token = leaf_content kinds.Backtick t }
  contents_same (Single t) h =
      λ i. record { cooked = or_empty (h i); expand = false; kind = kind_of (bytes t); part = Some parts.Single; token = leaf_content kinds.StringToken t }
  contents_same (Start t) h =
      λ i. record { cooked = or_empty (h i); expand = false; kind = kind_of (bytes t); part = Some parts.Start; token = leaf_content kinds.FormatStringStart t }
  contents_same (Continue s t) h =
      λ i. record { cooked = or_empty (h i); expand = false; kind = kind_of (bytes s); part = Some parts.Continue; token = leaf_content kinds.FormatStringContinue t }
  contents_same (End s t) h =
      λ i. record { cooked = or_empty (h i); expand = false; kind = kind_of (bytes s); part = Some parts.End; token = leaf_content kinds.FormatStringEnd t }

  unexpanded_same : (l : Literal A) → IsUnexpanded l → texts_by some l ≡ texts_by all l
  unexpanded_same (Expanded t) h = absurd h
  unexpanded_same l h = refl

  agreed : (ls : List (Literal A)) (texts : List (List ℕ)) → AreCookedTexts some (map (over_literal bytes) ls) texts
      → AreCookedTexts all (map (over_literal bytes) ls) texts → AllByRecursion (λ l. texts_by some l ≡ texts_by all l) ls
  agreed [] texts c d = tt
  agreed (l ∷ ls) [] c d = absurd c
  agreed (l ∷ ls) (t ∷ texts) c d = (ap text_or_none c.0 ∙ sym (ap text_or_none d.0), agreed ls texts c.1 d.1)

-- ---- a file with another expander, with which its literals have the same texts

module _ (conditions : Conditions) (all : Expansions) (tokens : List SignificantToken) where
  abbrev some : Expansions
  some = conditions.expander

  token_contents : (l : Literal Tok) → text_under some lexeme l ≡ text_under all lexeme l
      → (views_tokens some).literal_content l ≡ (views_tokens all).literal_content l
  token_contents = contents_same some all lexeme (λ kind t. tok_content t)

  tokens_seen : SeeSame (views_tokens some) (views_tokens all).cooked (views_tokens all).literal_content
  tokens_seen = record { unexpanded = unexpanded_same some all lexeme (λ kind t. tok_content t); contents = token_contents }

  lexeme_contents : (l : Literal (List ℕ)) → text_under some (λ l. l) l ≡ text_under all (λ l. l) l
      → (views_lexemes some).literal_content l ≡ (views_lexemes all).literal_content l
  lexeme_contents = contents_same some all (λ l. l) (λ kind l. record { kind = kind; lexeme = l })

  lexemes_seen : SeeSame (views_lexemes some) (views_lexemes all).cooked (views_lexemes all).literal_content
  lexemes_seen = record { unexpanded = unexpanded_same some all (λ l. l) (λ kind l. record { kind = kind; lexeme = l }); contents = lexeme_contents }

  tree_with : (tree : Tree) (features : List (Noted Tok)) (h : FileDerives conditions tokens tree features)
      → AreCookedTexts all (map (over_literal lexeme) (all_literals h.written)) h.obeys.cooked
      → FileDerives (with_expander all conditions) tokens tree features
  tree_with tree features h cooks =
      let ls = all_literals h.written in
      let kept = items_kept (views_tokens some) (views_tokens all).cooked (views_tokens all).literal_content tokens_seen conditions.current h.written tree
      (agreed some all lexeme (λ kind t. tok_content t) ls h.obeys.cooked h.obeys.cooks cooks) h.ordered_is h.obeys.unbroken in
      let obeys : Obeys (with_expander all conditions) h.written = record { cooked = h.obeys.cooked; cooks = cooks; unbroken = kept.unbroken } in
      record {
        written = h.written;
        by_construct = h.by_construct;
        derives = h.derives;
        features_are = h.features_are ∙ features_same (views_tokens some) (views_tokens all) h.written tree h.ordered_is kept.means h.by_construct;
        obeys = obeys;
        ordered_is = kept.means;
      }

  over_lexemes : (expander : Expansions) (ls : List (Literal (List ℕ))) (texts : List (List ℕ)) → AreCookedTexts expander ls texts
      → AreCookedTexts expander (map (over_literal (λ x. x)) ls) texts
  over_lexemes expander ls texts c = subst (λ m. AreCookedTexts expander m texts) (sym (map_same (over_literal (λ x. x)) literal_itself ls)) c

  shape_with : (shape : Shape) (features : List (Noted (Unit {0}))) (h : ShapeDerives conditions tokens shape features)
      → AreCookedTexts all (all_literals h.written) h.cooked → ShapeDerives (with_expander all conditions) tokens shape features
  shape_with shape features h cooks =
      let ls = all_literals h.written in
      let before = over_lexemes some ls h.cooked h.cooks in
      let kept = items_kept (views_lexemes some) (views_lexemes all).cooked (views_lexemes all).literal_content lexemes_seen conditions.current h.written shape
      (agreed some all (λ l. l) (λ kind l. record { kind = kind; lexeme = l }) ls h.cooked before (over_lexemes all ls h.cooked cooks)) h.ordered_is h.unbroken in
      record {
        written = h.written;
        by_construct = h.by_construct;
        derives = h.derives;
        features_are = h.features_are ∙ features_same (views_lexemes some) (views_lexemes all) h.written shape h.ordered_is kept.means h.by_construct;
        cooked = h.cooked;
        cooks = cooks;
        unbroken = kept.unbroken;
        ordered_is = kept.means;
      }

module _ (conditions : Conditions) (all : Expansions) (within : Within conditions.expander all) (tokens : List SignificantToken) where
  pub tree_kept : (tree : Tree) (features : List (Noted Tok)) → FileDerives conditions tokens tree features → FileDerives (with_expander all conditions) tokens tree features
  tree_kept tree features h = tree_with conditions all tokens tree features h (texts_kept conditions.expander all within _ h.obeys.cooked h.obeys.cooks)

  pub shape_kept : (shape : Shape) (features : List (Noted (Unit {0}))) → ShapeDerives conditions tokens shape features → ShapeDerives (with_expander all conditions) tokens shape features
  shape_kept shape features h = shape_with conditions all tokens shape features h (texts_kept conditions.expander all within _ h.cooked h.cooks)

module _ (conditions : Conditions) (tokens : List SignificantToken) where
  pub tree_asks : (tree : Tree) (features : List (Noted Tok)) → FileDerives conditions tokens tree features
      → (texts : List (List ℕ)) × FileDerives (with_expander (restricted_to texts conditions.expander) conditions) tokens tree features
  tree_asks tree features h =
      let ls = map (over_literal lexeme) (all_literals h.written) in
      let texts = map asked_of ls in (
        texts,
        tree_with conditions (restricted_to texts conditions.expander) tokens tree features h
            (texts_restricted conditions.expander texts ls h.obeys.cooked (λ text m. m) h.obeys.cooks),
      )

  pub shape_asks : (shape : Shape) (features : List (Noted (Unit {0}))) → ShapeDerives conditions tokens shape features
      → (texts : List (List ℕ)) × ShapeDerives (with_expander (restricted_to texts conditions.expander) conditions) tokens shape features
  shape_asks shape features h =
      let ls = all_literals h.written in
      let texts = map asked_of ls in (
        texts,
        shape_with conditions (restricted_to texts conditions.expander) tokens shape features h
            (texts_restricted conditions.expander texts ls h.cooked (λ text m. m) h.cooks),
      )
