-- The loops that parse the fragments of a line, and the lines of a body.
use Rattle.std.proofs.Common.{◌≡◌, ℕ, ◌<◌, true, false, List, [], ◌∷◌, ◌++◌, drop, length, map, Some, None, Ok, Err, refl, sym, ap, ◌∙◌}
use Rattle.std.proofs.lemmas.List.{map-append}
use Rattle.justfile_token.specs.declared.token.Token.{Token}
use Rattle.justfile_vocabulary.specs.declared.token_kind.TokenKind.TheVariants as kinds
use Rattle.justfile_line.specs.declared.fragment.Fragment.{Fragment}
use Rattle.justfile_line.specs.declared.line.Line.{Line}
use Rattle.justfile_model.specs.Trees.Tree as tree
use Rattle.justfile_model.specs.Trees.Tree.{BodyLine, trimmed}
use Rattle.justfile_model.specs.Grammars.Expressions.{front}
use Rattle.justfile_model.specs.Readers.Reader as files
use Rattle.justfile_model.specs.Readers.ReaderState.{◌>>=◌, Unexpected, prepend, at, choose, refused}
use Rattle.justfile_parse_expression.specs.TableReader.{Read, ReadError, State, accept, enclosed, expect, leaves, next_are, read, At}
use Rattle.justfile_parse_item_parts.specs.BodyTable.{body, body_after, optional_body, body_line, fragment, interpolation, line_rest, lines, one_more}
use Rattle.justfile_parse_expression.specs.MethodResults.{IsExpressionError, literal_read_error, read_error_at}
use Rattle.justfile_parse_item_parts.specs.BodyTrees.{fragment_tree, line_tree}
use Rattle.justfile_expression.specs.LeafTree.{Leaf, Text}
use Rattle.justfile_model.specs.declared.level.Level.TheVariants as levels
use Rattle.justfile_parse_expression.specs.Significant.{TableToken}
use Rattle.justfile_parse_expression.specs.declared.expression_error.ExpressionError.{ExpressionError}
use Rattle.justfile_parse_expression.specs.declared.expression_error.ExpressionError.TheVariants.{Refused, Literal, Memory, Numbers}
use Rattle.justfile_model.proofs.Readers.ItemReading as laws
use Rattle.justfile_model.proofs.Readers.ReadingSteps.{known}
use Rattle.justfile_parse_expression.proofs.Rules.{Taken, bind_alike, choose_alike, closed_by}
use Rattle.justfile_parse_base.proofs.HeaderErrors.{stopped}

abbrev OneFragment : Type 0
OneFragment = Read (tree.Fragment Leaf Token)

abbrev Fragments : Type 0
Fragments = List (tree.Fragment Leaf Token)

fragment_is : (s : State) → fragment s ≡ choose {X = OneFragment} (accept kinds.Text s) (interpolation s) (λ t. Ok (tree.Text (Text t.0.0), t.1))
unfolding files.fragment enclosed leaves
fragment_is s =
    choose_alike (accept kinds.Text s) _ _ _ _
    (bind_alike (expect kinds.InterpolationStart s) _ _ (λ start. closed_by kinds.InterpolationEnd tree.Interpolation (read (At levels.Expression false start.1))))
    (λ t. refl)

abbrev then_one_more : Fragments → tree.Fragment Leaf Token × State → Read Fragments
then_one_more before f = Ok (before ++ f.0 ∷ [], f.1)

pub one_more_is : (before : Fragments) (s : State) → one_more before s
    ≡ choose {X = Read Fragments} (accept kinds.Text s) (interpolation s >>= then_one_more before) (λ t. Ok (before ++ tree.Text (Text t.0.0) ∷ [], t.1))
one_more_is before s = ap (λ (found : OneFragment). found >>= then_one_more before) (fragment_is s) ∙ go (accept kinds.Text s)
  where
    go : (o : Taken) → (choose {X = OneFragment} o (interpolation s) (λ t. Ok (tree.Text (Text t.0.0), t.1)) >>= then_one_more before)
        ≡ choose {X = Read Fragments} o (interpolation s >>= then_one_more before) (λ t. Ok (before ++ tree.Text (Text t.0.0) ∷ [], t.1))
    go None = refl
    go (Some t) = refl

-- a fragment is read and appended
module _ (old between new : List Fragment) (f : Fragment) (kept : between ≡ old) (pushed : new ≡ between ++ f ∷ []) where
  tree_pushed : map fragment_tree old ++ fragment_tree f ∷ [] ≡ map fragment_tree new
  tree_pushed = sym (map-append fragment_tree old (f ∷ [])) ∙ ap (map fragment_tree) (ap (λ (l : List Fragment). l ++ f ∷ []) (sym kept) ∙ sym pushed)

  pub one_text : (s rest : State) (t : TableToken) → fragment_tree f ≡ tree.Text (Text t.0) → accept kinds.Text s ≡ Some (t, rest) → one_more (map fragment_tree old) s ≡ Ok (map fragment_tree new, rest)
  one_text s rest t is taken =
      one_more_is (map fragment_tree old) s
      ∙ rw taken (ap (λ (l : Fragments). Ok (l, rest)) (ap (λ (x : tree.Fragment Leaf Token). map fragment_tree old ++ x ∷ []) (sym is) ∙ tree_pushed))

  pub one_interpolation : (s rest : State) → accept kinds.Text s ≡ None → interpolation s ≡ Ok (fragment_tree f, rest) → one_more (map fragment_tree old) s ≡ Ok (map fragment_tree new, rest)
  one_interpolation s rest none read = one_more_is (map fragment_tree old) s ∙ rw (none, read) (ap (λ (l : Fragments). Ok (l, rest)) tree_pushed)

-- ---- parts of any kind: `done` were read from `s` on, and `q` is what is left

module _ {Z T : Type 0} (view : Z → T) (whole : State → Read (List T)) (s q : State) (done : List Z) (so_far : prepend (map view done) (whole q) ≡ whole s) where
  -- a part is read
  goes_on : (z : Z) (new : List Z) (rest : State) → prepend (map view done) (whole q) ≡ prepend (map view done ++ view z ∷ []) (whole rest) → new ≡ done ++ z ∷ [] → prepend (map view new) (whole rest) ≡ whole s
  goes_on z new rest step is =
      ap (λ (l : List Z). prepend (map view l) (whole rest)) is
      ∙ ap (λ (l : List T). prepend l (whole rest)) (map-append view done (z ∷ []))
      ∙ sym step
      ∙ so_far

  -- a part is refused
  stops : {X : Type 0} (found : Read X) (stop : ExpressionError) (left : State) → ((e : ReadError) → found ≡ Err e → prepend (map view done) (whole q) ≡ Err e) → IsExpressionError stop left ⊥ found → IsExpressionError stop left ⊥ (whole s)
  stops found (Refused r) left step h = sym so_far ∙ step (read_error_at r left) h
  stops found (Literal refused) left step h = sym so_far ∙ step (literal_read_error refused.value.error) h
  stops found Memory left step h = tt
  stops found Numbers left step h = h

-- nothing is read yet
pub begins : {T : Type 0} (found : Read (List T)) → prepend [] found ≡ found
begins found = laws.after_begin found

-- ---- the fragments of a line

module _ (s q : State) (done : List Fragment) (so_far : prepend (map fragment_tree done) (line_rest q) ≡ line_rest s) where
  pub line_ends : (end : TableToken) (rest : State) → accept kinds.Eol q ≡ Some (end, rest) → line_rest s ≡ Ok (map fragment_tree done, rest)
  line_ends end rest is = sym so_far ∙ laws.line_rest_end leaves (map fragment_tree done) q end rest is

  module _ (none : accept kinds.Eol q ≡ None) where
    pub line_left : next_are (kinds.Dedent ∷ []) q ≡ true → line_rest s ≡ Ok (map fragment_tree done, q)
    line_left h = sym so_far ∙ laws.line_rest_left leaves (map fragment_tree done) q none h

    module _ (dedent : next_are (kinds.Dedent ∷ []) q ≡ false) where
      pub line_goes_on : (new : List Fragment) (rest : State) → one_more (map fragment_tree done) q ≡ Ok (map fragment_tree new, rest) → prepend (map fragment_tree new) (line_rest rest) ≡ line_rest s
      line_goes_on new rest = go (fragment q) refl
        where
          go : (found : OneFragment) → fragment q ≡ found → (found >>= then_one_more (map fragment_tree done)) ≡ Ok (map fragment_tree new, rest) → prepend (map fragment_tree new) (line_rest rest) ≡ line_rest s
          go (Ok f) value is =
              let both : ◌≡◌ {A = Fragments × State} (map fragment_tree new, rest) (map fragment_tree done ++ f.0 ∷ [], f.1) = cc in
              (λ i. prepend (both i).0 (line_rest (both i).1))
              ∙ sym (laws.line_rest_go_on leaves (map fragment_tree done) q f.0 f.1 none dedent value)
              ∙ so_far
          go (Err e) value is = absurd cc

      pub line_stops : (stop : ExpressionError) (left : State) → IsExpressionError stop left ⊥ (one_more (map fragment_tree done) q) → IsExpressionError stop left ⊥ (line_rest s)
      line_stops stop left = stops fragment_tree line_rest s q done so_far (one_more (map fragment_tree done) q) stop left (λ e. fails e (fragment q) refl)
        where
          fails : (e : ReadError) (found : OneFragment) → fragment q ≡ found → (found >>= then_one_more (map fragment_tree done)) ≡ Err e → prepend (map fragment_tree done) (line_rest q) ≡ Err e
          fails e (Ok f) value is = absurd cc
          fails e (Err cause) value is =
              let same : cause ≡ e = cc in
              laws.line_rest_fail leaves (map fragment_tree done) q e none dedent (value ∙ ap (λ (x : ReadError). Err x) same)

-- ---- the lines of a body

module _ (s q : State) (done : List Line) (so_far : prepend (map line_tree done) (lines q) ≡ lines s) where
  pub lines_end : (end : TableToken) (rest : State) → accept kinds.Dedent q ≡ Some (end, rest) → lines s ≡ Ok (map line_tree done, rest)
  lines_end end rest is = sym so_far ∙ laws.lines_end leaves (map line_tree done) q end rest is

  module _ (none : accept kinds.Dedent q ≡ None) where
    pub lines_go_on : (l : Line) (new : List Line) (rest : State) → body_line q ≡ Ok (line_tree l, rest) → new ≡ done ++ l ∷ [] → prepend (map line_tree new) (lines rest) ≡ lines s
    lines_go_on l new rest value is = goes_on line_tree lines s q done so_far l new rest (laws.lines_go_on leaves (map line_tree done) q (line_tree l) rest none value) is

    pub lines_stop : (stop : ExpressionError) (left : State) → IsExpressionError stop left ⊥ (body_line q) → IsExpressionError stop left ⊥ (lines s)
    lines_stop stop left = stops line_tree lines s q done so_far (body_line q) stop left (λ e h. laws.lines_fail leaves (map line_tree done) q e none h)

-- a line takes a token where no body ends
pub body_line_shrinks : (q : State) (l : Line) (rest : State) → accept kinds.Dedent q ≡ None → body_line q ≡ Ok (line_tree l, rest) → length rest.left < length q.left
body_line_shrinks q l rest none value = (known {X = BodyLine Leaf Token ℕ × State} (line_tree l, rest) (λ x. length x.1.left < length q.left × (x.1.depth ≡ q.depth) × (x.1.run ≡ q.run)) value (laws.body_line_goes leaves q none)).0

-- ---- a body

module _ (s : State) where
  body_fails : (e : ReadError) → lines s ≡ Err e → body s ≡ Err e
  unfolding files.body
  body_fails e h = rw h refl

  -- its lines are refused
  pub body_stops : (stop : ExpressionError) (left : State) → IsExpressionError stop left ⊥ (lines s) → IsExpressionError stop left ⊥ (body s)
  body_stops stop left h = stopped (lines s) (body s) body_fails stop left ⊥ ⊥ (λ k. k) h

  some_is : (ls : List (BodyLine Leaf Token ℕ)) (rest : State) → (ls ≡ [] → ⊥) → files.some_lines leaves ls rest ≡ Ok (ls, rest)
  some_is [] rest h = absurd (h refl)
  some_is (l ∷ ls) rest h = refl

  pub body_some : (ls : List (BodyLine Leaf Token ℕ)) (rest : State) (kept : List Line) → lines s ≡ Ok (ls, rest) → map line_tree kept ≡ trimmed ls → (kept ≡ [] → ⊥) → body s ≡ Ok (map line_tree kept, rest)
  unfolding files.body
  body_some ls rest kept h is some =
      rw h (some_is (trimmed ls) rest (λ e. some (none_left kept (is ∙ e))) ∙ ap (λ (l : List (BodyLine Leaf Token ℕ)). Ok (l, rest)) (sym is))
    where
      none_left : (kept : List Line) → map line_tree kept ≡ [] → kept ≡ []
      none_left [] e = refl
      none_left (l ∷ ls) e = cc

  pub body_none : (ls : List (BodyLine Leaf Token ℕ)) (rest : State) (kept : List Line) → lines s ≡ Ok (ls, rest) → map line_tree kept ≡ trimmed ls → kept ≡ [] → body s ≡ Err (refused Unexpected rest)
  unfolding files.body
  body_none ls rest kept h is none = rw h (ap (λ (l : List (BodyLine Leaf Token ℕ)). files.some_lines leaves l rest) (sym is ∙ ap (map line_tree) none))

  pub body_at_once : next_are (kinds.Eol ∷ kinds.Indent ∷ []) s ≡ true → optional_body s ≡ body_after None (at s (drop 2 s.left))
  unfolding files.optional_body
  body_at_once h = rw h refl

  pub body_commented : next_are (kinds.Eol ∷ kinds.Indent ∷ []) s ≡ false → next_are (kinds.Comment ∷ kinds.Eol ∷ kinds.Indent ∷ []) s ≡ true → optional_body s ≡ body_after (front s.left) (at s (drop 3 s.left))
  unfolding files.optional_body
  body_commented h1 h2 = rw (h1, h2) refl

  pub body_missing : next_are (kinds.Eol ∷ kinds.Indent ∷ []) s ≡ false → next_are (kinds.Comment ∷ kinds.Eol ∷ kinds.Indent ∷ []) s ≡ false → optional_body s ≡ Ok ((None, []), s)
  unfolding files.optional_body
  body_missing h1 h2 = rw (h1, h2) refl
