-- The keywords that constructs begin with, in the steps that the parser takes.
use Rattle.std.proofs.Common.{◌≡◌, ◌∙◌, ℕ, ◌≤◌, Bool, true, false, cond, List, [], ◌∷◌, Option, Some, None, Result, Ok, Err, codes, refl, ap, subst}
use Rattle.justfile_numbers.specs.declared.numerator.Numerator.{Numerator}
use Rattle.justfile_token.specs.declared.token.Token.{Token}
use Rattle.justfile_vocabulary.specs.Keyword.{keyword_text}
use Rattle.justfile_vocabulary.specs.declared.token_kind.TokenKind.TheVariants as kinds
use Rattle.justfile_model.specs.Readers.PartReader as parts
use Rattle.justfile_model.specs.Readers.PartReader.{if_follows}
use Rattle.justfile_model.specs.Readers.Reader as files
use Rattle.justfile_model.specs.Readers.ReaderState as reading
use Rattle.justfile_model.specs.Readers.ReaderState.{Counters, accept_by, at, choose, is_word}
use Rattle.justfile_model.specs.Lexing.SignificantTokens.{SignificantToken}
use Rattle.justfile_model.specs.Trees.Tree.{OrderedItem}
use Rattle.justfile_parse_item.specs.ItemTable as reader
use Rattle.justfile_parse_item.specs.ItemTable.{ReadItem}
use Rattle.justfile_parse_item.specs.MethodResults.{ParsesUncounted}
use Rattle.justfile_parse_item.specs.ConstructKeywords.{Beginning, KeywordTaken, after_keyword, by_keyword, first_taken, keyword_taken, one_taken, taken_as}
use Rattle.justfile_parse_item.specs.declared.construct.TheConstants.{BEGINNINGS}
use Rattle.justfile_parse_item.specs.declared.construct.ConstructKeyword.{ConstructKeyword}
use Rattle.justfile_parse_item.specs.declared.construct.ConstructKeyword.TheVariants as words
use Rattle.justfile_parse_attribute.specs.AttributeTable.{Entries}
use Rattle.justfile_parse_base.specs.declared.parse_error.ParseError.{ParseError}
use Rattle.justfile_parse_expression.specs.TableReader.{State, leaves}
use Rattle.justfile_parse_expression.specs.Significant.{TableToken}
use Rattle.justfile_parse_expression.specs.View.{state_of}
use Rattle.justfile_parse_expression.specs.declared.parser_state.ParserState.{ParserState}
use Rattle.justfile_parse_base.specs.Counting.{ParsesCounted, counters_of, identifiers_left}
use Rattle.justfile_parse_base.proofs.Fewer.{fewer}
use Rattle.justfile_parse_base.proofs.HeaderErrors.{failed}
use Rattle.justfile_parse_item_parts.specs.PartTable.{accept_keyword_before, follows, peek_assignment, is_imported, is_module, is_set, line_is}
use Rattle.justfile_expression.specs.LeafTree.{Leaf}

abbrev Taken : Type 0
Taken = Option (TableToken × State)

-- ---- a construct by its word

module _ (ws : Entries) (n : Counters) (s : State) where
  -- one more word before others
  step : (o : Taken) (word : ConstructKeyword) (otherwise : ReadItem) (rest : KeywordTaken) → otherwise ≡ by_keyword rest ws n s
      → choose {X = ReadItem} o otherwise (λ x. after_keyword word ws n x.1) ≡ by_keyword (taken_as word o rest) ws n s
  step None word otherwise rest e = e
  step (Some x) word otherwise rest e = refl

  content_is : reader.content ws n s ≡ by_keyword (keyword_taken s) ws n s
  unfolding files.content keyword_taken
  content_is =
      step (accept_keyword_before (codes "alias") peek_assignment s) words.Alias _ _
      (step (accept_keyword_before (codes "eager") peek_assignment s) words.Eager _ _
      (step (accept_keyword_before (codes "export") peek_assignment s) words.Export _ _
      (step (accept_keyword_before (codes "unexport") (line_is (kinds.Identifier ∷ [])) s) words.Unexport _ _
      (step (accept_keyword_before (codes "import") is_imported s) words.Import _ _
      (step (accept_keyword_before (codes "mod") is_module s) words.Mod _ _
      (step (accept_keyword_before (codes "set") is_set s) words.Set _ None
      refl))))))

  pub content_after_keyword : (word : ConstructKeyword) (rest : State) → keyword_taken s ≡ Some (word, rest) → reader.content ws n s ≡ after_keyword word ws n rest
  content_after_keyword word rest h = content_is ∙ ap (λ (o : KeywordTaken). by_keyword o ws n s) h

  pub content_without_keyword : keyword_taken s ≡ None → reader.content ws n s ≡ reader.without_keyword ws n s
  content_without_keyword h = content_is ∙ ap (λ (o : KeywordTaken). by_keyword o ws n s) h

-- ---- the identifiers left after a keyword

HasFewer : State → Taken → Type 0
HasFewer s None = Unit {0}
HasFewer s (Some x) = identifiers_left x.1 ≤ identifiers_left s

by_fewer : (test : SignificantToken → Bool) (s : State) → HasFewer s (accept_by leaves test s s.left)
unfolding HasFewer
by_fewer test s = go s.left refl
  where
    go : (l : List TableToken) → s.left ≡ l → HasFewer s (accept_by leaves test s l)
    go [] e = tt
    go (t ∷ ts) e = by (test (leaves.see t))
      where
        by : (b : Bool) → HasFewer s (cond b (Some (t, at s ts)) None)
        by true = fewer t s (at s ts) e
        by false = tt

before_fewer : (word : List ℕ) (follows : State → Bool) (s : State) → HasFewer s (accept_keyword_before word follows s)
unfolding HasFewer parts.accept_keyword_before reading.accept_keyword
before_fewer word follows s = go (accept_by leaves (is_word word) s s.left) (by_fewer (is_word word) s)
  where
    go : (o : Taken) → HasFewer s o → HasFewer s (if_follows leaves follows o)
    go None h = tt
    go (Some x) h = by (follows x.1)
      where
        by : (b : Bool) → HasFewer s (cond b (Some x) None)
        by true = h
        by false = tt

LeavesFewer : State → KeywordTaken → Type 0
LeavesFewer s None = Unit {0}
LeavesFewer s (Some x) = identifiers_left x.1 ≤ identifiers_left s

either_fewer : (s : State) (word : ConstructKeyword) (o : Taken) (rest : KeywordTaken) → HasFewer s o → LeavesFewer s rest → LeavesFewer s (taken_as word o rest)
unfolding HasFewer LeavesFewer
either_fewer s word None rest h k = k
either_fewer s word (Some x) rest h k = h

some_fewer : (s : State) (rows : List Beginning) → LeavesFewer s (first_taken rows s)
unfolding LeavesFewer
some_fewer s [] = tt
some_fewer s (r ∷ rs) = either_fewer s r.0 (one_taken r s) (first_taken rs s) (before_fewer (keyword_text r.1) (follows r.2) s) (some_fewer s rs)

pub keyword_fewer : (s : State) (word : ConstructKeyword) (rest : State) → keyword_taken s ≡ Some (word, rest) → identifiers_left rest ≤ identifiers_left s
unfolding LeavesFewer keyword_taken
keyword_fewer s word rest h = subst (LeavesFewer s) h (some_fewer s BEGINNINGS)

-- ---- a construct that takes no number

pub uncounted : {X E : Type 0} (answer : E → List ℕ → Result (List ℕ) (List ℕ)) (view : X → OrderedItem Leaf Token ℕ) (result : Result X ParseError)
    (n : Numerator) (old new : ParserState E) (read : Counters → State → ReadItem)
    → ParsesUncounted answer view result old new read → ParsesCounted answer view result n old new (read (counters_of n))
unfolding ParsesUncounted
uncounted answer view (Ok x) n old new read h = h (counters_of n)
uncounted answer view (Err error) n old new read h =
    let found = read (counters_of n) (state_of answer old) in
    failed found found (λ e k. k) error (state_of answer new) ⊥ _ (λ k. absurd k) (h (counters_of n))
