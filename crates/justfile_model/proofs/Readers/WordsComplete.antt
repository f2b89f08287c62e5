-- The next tokens by which the parser recognizes a construct that begins with a keyword.
use Rattle.std.proofs.Common.{◌≡◌, ℕ, Bool, true, false, ◌||◌, if◌then◌else◌, List, [], ◌∷◌, Option, Some, None, codes, refl, sym, ap, subst, ◌∙◌}
use Rattle.std.proofs.lemmas.Slice.Eq.{bytes_eq-Decides}
use Rattle.std.specs.List.{AllByRecursion}
use Rattle.std.specs.Str.{bytes_eq}
use Rattle.justfile_vocabulary.specs.declared.token_kind.TokenKind.{TokenKind}
use Rattle.justfile_vocabulary.specs.declared.token_kind.TokenKind.TheVariants as kinds
use Rattle.justfile_model.specs.Grammars.Conditions.{Conditions}
use Rattle.justfile_model.specs.Grammars.Expressions.{Tokens, IsKind, IsWord}
use Rattle.justfile_model.specs.Grammars.Features.{Noted}
use Rattle.justfile_model.specs.Grammars.Headers as g
use Rattle.justfile_model.specs.Grammars.Headers.{NamedParameter, ParameterOf, Parameters}
use Rattle.justfile_model.specs.Grammars.ItemParts as parts
use Rattle.justfile_model.specs.Grammars.ItemParts.{EndsLine, FilePath}
use Rattle.justfile_model.specs.Readers.PartReader as r
use Rattle.justfile_model.specs.Meanings.ReadAttribute.{ReadAttribute}
use Rattle.justfile_model.specs.Readers.Reader.{alias, any_module, assignment, content, import, setting, unexport, without_keyword}
use Rattle.justfile_model.specs.Readers.ReaderState.{Counters, accept_keyword, choose}
use Rattle.justfile_model.specs.Lexing.SignificantTokens.{SignificantToken}
use Rattle.justfile_model.specs.Lexing.Tok.{Tok}
use Rattle.justfile_model.specs.Trees.Tree.{Item, Parameter, WrittenAttribute}
use Rattle.justfile_model.specs.Readers.TreeReader.{Read, State, Taken, token_attributes, token_leaves}
use Rattle.justfile_model.proofs.Lists.AllParts.{all_have, each_of}
use Rattle.justfile_model.proofs.Readers.Steps.{AreNext, after_word, input, next_left, next_taken, true_not_false, word_left, word_taken}

-- ---- what a list of parameters begins with

data Head : Tokens → Type 0 where
  by_name : {t : SignificantToken} {ts : Tokens} → IsKind kinds.Identifier t → Head (t ∷ ts)
  by_dollar : {t : SignificantToken} {ts : Tokens} → IsKind kinds.Dollar t → Head (t ∷ ts)
  by_plus : {t : SignificantToken} {ts : Tokens} → IsKind kinds.Plus t → Head (t ∷ ts)
  by_star : {t : SignificantToken} {ts : Tokens} → IsKind kinds.Asterisk t → Head (t ∷ ts)
  by_colon : {t : SignificantToken} {ts : Tokens} → IsKind kinds.Colon t → Head (t ∷ ts)
  by_equals : {t : SignificantToken} {ts : Tokens} → IsKind kinds.Equals t → Head (t ∷ ts)

head_not : (kind : TokenKind) → (kind ≡ kinds.Identifier → ⊥) → (kind ≡ kinds.Dollar → ⊥) → (kind ≡ kinds.Plus → ⊥) → (kind ≡ kinds.Asterisk → ⊥)
    → (kind ≡ kinds.Colon → ⊥) → (kind ≡ kinds.Equals → ⊥) → {t : SignificantToken} {ts : Tokens} → Head (t ∷ ts) → IsKind kind t → ⊥
head_not kind a b c d e f (by_name is) k = a (sym k ∙ is)
head_not kind a b c d e f (by_dollar is) k = b (sym k ∙ is)
head_not kind a b c d e f (by_plus is) k = c (sym k ∙ is)
head_not kind a b c d e f (by_star is) k = d (sym k ∙ is)
head_not kind a b c d e f (by_colon is) k = e (sym k ∙ is)
head_not kind a b c d e f (by_equals is) k = f (sym k ∙ is)

module _ {A B : Type 0} (leaf : Tok → A) (position : Tok → B) (MayEnter : ℕ → Option SignificantToken → Type 0) where
  parameters_head : {ps : List (Parameter A B)} {fs : List (Noted B)} {ts rest : Tokens} → Parameters leaf position MayEnter ps fs ts rest → Head ts
  parameters_head (g.none kind) = by_colon kind
  parameters_head (g.more (g.exported kind p) others) = by_dollar kind
  parameters_head (g.more (g.unexported (g.required kind n)) others) = by_name kind
  parameters_head (g.more (g.unexported (g.optional kind kind2 e)) others) = by_name kind
  parameters_head (g.plus kind p kind2) = by_plus kind
  parameters_head (g.star kind p kind2) = by_star kind

  -- after a name
  second_head : {ps : List (Parameter A B)} {fs : List (Noted B)} {t : SignificantToken} {ts rest : Tokens} → Parameters leaf position MayEnter ps fs (t ∷ ts) rest
      → IsKind kinds.Identifier t → Head ts
  second_head (g.none kind) k = cc
  second_head (g.more (g.exported kind p) others) k = cc
  second_head (g.more (g.unexported (g.required kind n)) others) k = parameters_head others
  second_head (g.more (g.unexported (g.optional kind kind2 e)) others) k = by_equals kind2
  second_head (g.plus kind p kind2) k = cc
  second_head (g.star kind p kind2) k = cc

  -- after two names
  third_head : {ps : List (Parameter A B)} {fs : List (Noted B)} {t u : SignificantToken} {ts rest : Tokens} → Parameters leaf position MayEnter ps fs (t ∷ u ∷ ts) rest
      → IsKind kinds.Identifier t → IsKind kinds.Identifier u → Head ts
  third_head (g.none kind) k l = cc
  third_head (g.more (g.exported kind p) others) k l = cc
  third_head (g.more (g.unexported (g.required kind n)) others) k l = second_head others l
  third_head (g.more (g.unexported (g.optional kind kind2 e)) others) k l = cc
  third_head (g.plus kind p kind2) k l = cc
  third_head (g.star kind p kind2) k l = cc

-- nothing follows that goes with a word
pub record NoneFollows (ts : Tokens) : Type 0 where
  pub assigned : AreNext (kinds.Identifier ∷ kinds.ColonEquals ∷ []) ts → ⊥
  pub comment : AreNext (kinds.Identifier ∷ kinds.Comment ∷ []) ts → ⊥
  pub line_end : AreNext (kinds.Identifier ∷ kinds.Eol ∷ []) ts → ⊥
  pub file_end : AreNext (kinds.Identifier ∷ kinds.Eof ∷ []) ts → ⊥
  pub mark : AreNext (kinds.QuestionMark ∷ []) ts → ⊥
  pub string : AreNext (kinds.StringToken ∷ []) ts → ⊥
  pub named : AreNext (kinds.Identifier ∷ kinds.StringToken ∷ []) ts → ⊥
  pub twice : AreNext (kinds.Identifier ∷ kinds.Identifier ∷ kinds.StringToken ∷ []) ts → ⊥

-- where the next token is neither a name nor a mark nor a string
pub another_follows : (t : SignificantToken) (ts : Tokens) → (IsKind kinds.Identifier t → ⊥) → (IsKind kinds.QuestionMark t → ⊥) → (IsKind kinds.StringToken t → ⊥)
    → NoneFollows (t ∷ ts)
another_follows t ts name mark string = record {
  assigned = λ h. name h.0;
  comment = λ h. name h.0;
  line_end = λ h. name h.0;
  file_end = λ h. name h.0;
  mark = λ h. mark h.0;
  string = λ h. string h.0;
  named = λ h. name h.0;
  twice = λ h. name h.0;
}

module _ {A B : Type 0} (leaf : Tok → A) (position : Tok → B) (MayEnter : ℕ → Option SignificantToken → Type 0) where
  -- parameters go with no word
  pub parameters_follow : {ps : List (Parameter A B)} {fs : List (Noted B)} (ts : Tokens) {rest : Tokens} → Parameters leaf position MayEnter ps fs ts rest → NoneFollows ts
  parameters_follow [] ps = absurd (nothing (parameters_head leaf position MayEnter ps))
    where
      nothing : Head [] → ⊥
      nothing h = elim h [ ]
  parameters_follow {ps = all} {fs = fs} (t ∷ ts) {rest = rest} ps = record {
    assigned = second kinds.ColonEquals (λ e. cc) (λ e. cc) (λ e. cc) (λ e. cc) (λ e. cc) (λ e. cc);
    comment = second kinds.Comment (λ e. cc) (λ e. cc) (λ e. cc) (λ e. cc) (λ e. cc) (λ e. cc);
    line_end = second kinds.Eol (λ e. cc) (λ e. cc) (λ e. cc) (λ e. cc) (λ e. cc) (λ e. cc);
    file_end = second kinds.Eof (λ e. cc) (λ e. cc) (λ e. cc) (λ e. cc) (λ e. cc) (λ e. cc);
    mark = λ h. head_not kinds.QuestionMark (λ e. cc) (λ e. cc) (λ e. cc) (λ e. cc) (λ e. cc) (λ e. cc) (parameters_head leaf position MayEnter ps) h.0;
    string = λ h. head_not kinds.StringToken (λ e. cc) (λ e. cc) (λ e. cc) (λ e. cc) (λ e. cc) (λ e. cc) (parameters_head leaf position MayEnter ps) h.0;
    named = second kinds.StringToken (λ e. cc) (λ e. cc) (λ e. cc) (λ e. cc) (λ e. cc) (λ e. cc);
    twice = third ts ps;
  }
    where
      second : (kind : TokenKind) → (kind ≡ kinds.Identifier → ⊥) → (kind ≡ kinds.Dollar → ⊥) → (kind ≡ kinds.Plus → ⊥) → (kind ≡ kinds.Asterisk → ⊥)
          → (kind ≡ kinds.Colon → ⊥) → (kind ≡ kinds.Equals → ⊥) → AreNext (kinds.Identifier ∷ kind ∷ []) (t ∷ ts) → ⊥
      second kind a b c d e f h = at ts (second_head leaf position MayEnter ps h.0) h.1
        where
          at : (us : Tokens) → Head us → AreNext (kind ∷ []) us → ⊥
          at [] x y = absurd y
          at (u ∷ us) x y = head_not kind a b c d e f x y.0

      third : (us : Tokens) → Parameters leaf position MayEnter all fs (t ∷ us) rest → AreNext (kinds.Identifier ∷ kinds.Identifier ∷ kinds.StringToken ∷ []) (t ∷ us) → ⊥
      third [] p h = absurd h.1
      third (u ∷ []) p h = absurd h.1.1
      third (u ∷ v ∷ us) p h = head_not kinds.StringToken (λ e. cc) (λ e. cc) (λ e. cc) (λ e. cc) (λ e. cc) (λ e. cc) (third_head leaf position MayEnter p h.0 h.1.0) h.1.1.0

  pub parameters_uncalled : {ps : List (Parameter A B)} {fs : List (Noted B)} (ts : Tokens) {rest : Tokens} → Parameters leaf position MayEnter ps fs ts rest
      → AreNext (kinds.ParenL ∷ []) ts → ⊥
  parameters_uncalled [] ps h = absurd h
  parameters_uncalled (t ∷ ts) ps h = head_not kinds.ParenL (λ e. cc) (λ e. cc) (λ e. cc) (λ e. cc) (λ e. cc) (λ e. cc) (parameters_head leaf position MayEnter ps) h.0

-- ---- the tests

module _ (conditions : Conditions) (ns : List (Noted Tok)) where
  abbrev here : Tokens → State
  here ts = input conditions 0 ts ns

  pub line_taken : (name : SignificantToken) (ts : Tokens) → IsKind kinds.Identifier name → EndsLine ts → r.line_is token_leaves (kinds.Identifier ∷ []) (here (name ∷ ts)) ≡ true
  line_taken name ts kind (parts.at_comment {token = t} k) = rw (next_taken (kinds.Identifier ∷ kinds.Comment ∷ []) (here (name ∷ ts)) (kind, (k, tt))) refl
  line_taken name ts kind (parts.at_line_end {token = t} k) =
      rw (
        next_left (kinds.Identifier ∷ kinds.Comment ∷ []) (here (name ∷ ts)) (λ h. let other = h.1.0 in cc),
        next_taken (kinds.Identifier ∷ kinds.Eol ∷ []) (here (name ∷ ts)) (kind, (k, tt)),
      ) refl
  line_taken name ts kind (parts.at_file_end {token = t} k) =
      rw (
        next_left (kinds.Identifier ∷ kinds.Comment ∷ []) (here (name ∷ ts)) (λ h. let other = h.1.0 in cc),
        next_left (kinds.Identifier ∷ kinds.Eol ∷ []) (here (name ∷ ts)) (λ h. let other = h.1.0 in cc),
        next_taken (kinds.Identifier ∷ kinds.Eof ∷ []) (here (name ∷ ts)) (kind, (k, tt)),
      ) refl

  pub or_true : (a : Bool) → (a || true) ≡ true
  or_true true = refl
  or_true false = refl

  pub assigned_taken : (name operator : SignificantToken) (ts : Tokens) → IsKind kinds.Identifier name → IsKind kinds.ColonEquals operator
      → r.peek_assignment token_leaves (here (name ∷ operator ∷ ts)) ≡ true
  assigned_taken name operator ts kind kind2 = next_taken (kinds.Identifier ∷ kinds.ColonEquals ∷ []) (here (name ∷ operator ∷ ts)) (kind, (kind2, tt))

  module _ (ts : Tokens) (none : NoneFollows ts) where
    assigned_left : r.peek_assignment token_leaves (here ts) ≡ false
    assigned_left = next_left (kinds.Identifier ∷ kinds.ColonEquals ∷ []) (here ts) none.assigned

    line_left : r.line_is token_leaves (kinds.Identifier ∷ []) (here ts) ≡ false
    line_left =
        rw (
          next_left (kinds.Identifier ∷ kinds.Comment ∷ []) (here ts) none.comment,
          next_left (kinds.Identifier ∷ kinds.Eol ∷ []) (here ts) none.line_end,
          next_left (kinds.Identifier ∷ kinds.Eof ∷ []) (here ts) none.file_end,
        ) refl

    imported_left : r.is_imported token_leaves (here ts) ≡ false
    imported_left =
        rw (
          next_left (kinds.QuestionMark ∷ []) (here ts) none.mark,
          next_left (kinds.StringToken ∷ []) (here ts) none.string,
          next_left (kinds.Identifier ∷ kinds.StringToken ∷ []) (here ts) none.named,
        ) refl

    module_left : r.is_module token_leaves (here ts) ≡ false
    module_left =
        rw (
          next_left (kinds.QuestionMark ∷ []) (here ts) none.mark,
          line_left,
          next_left (kinds.Identifier ∷ kinds.StringToken ∷ []) (here ts) none.named,
          next_left (kinds.Identifier ∷ kinds.Identifier ∷ kinds.StringToken ∷ []) (here ts) none.twice,
        ) refl

    set_left : r.is_set token_leaves (here ts) ≡ false
    set_left = rw (assigned_left, line_left) refl

  -- ---- words

  -- the word that comes next, before what goes with it
  word_met : (word : List ℕ) (follows : State → Bool) (t : SignificantToken) (ts : Tokens) → IsWord word t → follows (here ts) ≡ true
      → r.accept_keyword_before token_leaves word follows (here (t ∷ ts)) ≡ Some (t, here ts)
  unfolding r.accept_keyword_before
  word_met word follows t ts is h = rw (word_taken word t ts conditions 0 ns is, h) refl

  -- another word
  other_word : (word other : List ℕ) (follows : State → Bool) (t : SignificantToken) (ts : Tokens) → IsWord word t → bytes_eq word other ≡ false
      → r.accept_keyword_before token_leaves other follows (here (t ∷ ts)) ≡ None
  unfolding r.accept_keyword_before
  other_word word other follows t ts is apart =
      rw (word_left other (t ∷ ts) conditions 0 ns (λ w. true_not_false (bytes_eq word other) ((bytes_eq-Decides word other).1 (sym is.spelled ∙ w.spelled)) apart)) refl

  -- a token that isn't a name
  no_name : (word : List ℕ) (follows : State → Bool) (t : SignificantToken) (ts : Tokens) → (IsKind kinds.Identifier t → ⊥)
      → r.accept_keyword_before token_leaves word follows (here (t ∷ ts)) ≡ None
  unfolding r.accept_keyword_before
  no_name word follows t ts n = rw (word_left word (t ∷ ts) conditions 0 ns (λ w. n w.is_name)) refl

  -- a name before what does not go with the word
  unfollowed : (word : List ℕ) (follows : State → Bool) (t : SignificantToken) (ts : Tokens) → follows (here ts) ≡ false
      → r.accept_keyword_before token_leaves word follows (here (t ∷ ts)) ≡ None
  unfolding r.accept_keyword_before
  unfollowed word follows t ts h = go (accept_keyword token_leaves word (here (t ∷ ts))) (after_word word (here (t ∷ ts)) IsFirst (λ _. tt) (λ u us split is. followed u us split))
    where
      -- what was taken is the first token
      IsFirst : Taken → Type 0
      IsFirst None = Unit {0}
      IsFirst (Some x) = x.1 ≡ here ts

      followed : (u : SignificantToken) (us : Tokens) → t ∷ ts ≡ u ∷ us → here us ≡ here ts
      followed u us split = let same : us ≡ ts = cc in ap here same

      go : (o : Taken) → IsFirst o → r.if_follows token_leaves follows o ≡ None
      go None e = refl
      go (Some x) e = rw (ap follows e ∙ h) refl

  -- ---- which construct is read

  -- a keyword, what has to follow it, and what is read after it then
  record Row (X : Type 0) : Type 0 where
    word : List ℕ
    follows : State → Bool
    read : State → X

  module _ {X : Type 0} (otherwise : X) (t : SignificantToken) (ts : Tokens) where
    abbrev accepted : Row X → Taken
    accepted row = r.accept_keyword_before token_leaves row.word row.follows (here (t ∷ ts))

    -- by the first row whose keyword comes next, before what has to follow it
    abbrev chosen : List (Row X) → X
    chosen [] = otherwise
    chosen (row ∷ rows) = choose (accepted row) (chosen rows) (λ x. row.read x.1)

    none_chosen : (rows : List (Row X)) → AllByRecursion (λ row. accepted row ≡ None) rows → chosen rows ≡ otherwise
    none_chosen [] h = refl
    none_chosen (row ∷ rows) h = rw h.0 (none_chosen rows h.1)

    module _ (word : List ℕ) where
      -- what the word's row says of the next tokens, and what is read by it
      abbrev follows_word : List (Row X) → Bool
      follows_word [] = false
      follows_word (row ∷ rows) = if bytes_eq word row.word then row.follows (here ts) else follows_word rows

      abbrev read_by_word : List (Row X) → X
      read_by_word [] = otherwise
      read_by_word (row ∷ rows) = if bytes_eq word row.word then row.read (here ts) else read_by_word rows

      word_chosen : IsWord word t → (rows : List (Row X)) → follows_word rows ≡ true → chosen rows ≡ read_by_word rows
      word_chosen is [] h = refl
      word_chosen is (row ∷ rows) h = go (bytes_eq word row.word) refl h (word_chosen is rows)
        where
          go : (same : Bool) → bytes_eq word row.word ≡ same → (if same then row.follows (here ts) else follows_word rows) ≡ true
              → (follows_word rows ≡ true → chosen rows ≡ read_by_word rows) → chosen (row ∷ rows) ≡ (if same then row.read (here ts) else read_by_word rows)
          go true e h k = rw (word_met row.word row.follows t ts (subst (λ w. IsWord w t) ((bytes_eq-Decides word row.word).0 e) is) h) refl
          go false e h k = rw (other_word word row.word row.follows t ts is e) (k h)

  module _ (xs : List ReadAttribute) (n : Counters) where
    abbrev rows : List (Row (Read (Item Tok Tok ℕ Tok (List (WrittenAttribute Tok Tok)) × Counters)))
    rows =
        record { word = codes "alias"; follows = r.peek_assignment token_leaves; read = alias token_leaves token_attributes xs n }
        ∷ record { word = codes "eager"; follows = r.peek_assignment token_leaves; read = assignment token_leaves token_attributes true false xs n }
        ∷ record { word = codes "export"; follows = r.peek_assignment token_leaves; read = assignment token_leaves token_attributes false true xs n }
        ∷ record { word = codes "unexport"; follows = r.line_is token_leaves (kinds.Identifier ∷ []); read = unexport token_leaves token_attributes xs n }
        ∷ record { word = codes "import"; follows = r.is_imported token_leaves; read = import token_leaves token_attributes xs n }
        ∷ record { word = codes "mod"; follows = r.is_module token_leaves; read = any_module token_leaves token_attributes xs n }
        ∷ record { word = codes "set"; follows = r.is_set token_leaves; read = setting token_leaves token_attributes xs n }
        ∷ []

    abbrev wordless : SignificantToken → Tokens → Read (Item Tok Tok ℕ Tok (List (WrittenAttribute Tok Tok)) × Counters)
    wordless t ts = without_keyword token_leaves token_attributes xs n (here (t ∷ ts))

    pub no_word_read : (t : SignificantToken) (ts : Tokens) → (IsKind kinds.Identifier t → ⊥)
        → content token_leaves token_attributes xs n (here (t ∷ ts)) ≡ without_keyword token_leaves token_attributes xs n (here (t ∷ ts))
    unfolding content
    no_word_read t ts not =
        none_chosen (wordless t ts) t ts rows (all_have (λ row. accepted (wordless t ts) t ts row ≡ None) (λ row. no_name row.word row.follows t ts not) rows)

    -- in the order of `rows`
    pub none_read : (t : SignificantToken) (ts : Tokens) → NoneFollows ts
        → content token_leaves token_attributes xs n (here (t ∷ ts)) ≡ without_keyword token_leaves token_attributes xs n (here (t ∷ ts))
    unfolding content
    none_read t ts none =
        let a = assigned_left ts none in
        none_chosen (wordless t ts) t ts rows
        (each_of (λ row. row.follows (here ts) ≡ false) (λ row. accepted (wordless t ts) t ts row ≡ None) (λ row. unfollowed row.word row.follows t ts) rows
        (a, (a, (a, (line_left ts none, (imported_left ts none, (module_left ts none, (set_left ts none, tt))))))))

    -- a keyword before what has to follow it
    pub keyword_read : (word : List ℕ) (t : SignificantToken) (ts : Tokens) → IsWord word t → follows_word (wordless t ts) t ts word rows ≡ true
        → content token_leaves token_attributes xs n (here (t ∷ ts)) ≡ read_by_word (wordless t ts) t ts word rows
    unfolding content
    keyword_read word t ts is h = word_chosen (wordless t ts) t ts word is rows h
