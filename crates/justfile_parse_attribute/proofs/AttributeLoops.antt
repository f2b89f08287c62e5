-- The loops that parse lists of attributes and of arguments read what the definitions read recursively.
use Rattle.std.proofs.Common.{◌≡◌, ◌∙◌, Bool, true, false, cond, List, [], ◌∷◌, ◌++◌, Option, Some, None, Ok, Err, refl, sym, ap}
use Rattle.justfile_token.specs.declared.token.Token.{Token}
use Rattle.justfile_vocabulary.specs.declared.token_kind.TokenKind.{TokenKind}
use Rattle.justfile_vocabulary.specs.declared.token_kind.TokenKind.TheVariants as kinds
use Rattle.justfile_model.specs.Readers.AttributeReader as attributes
use Rattle.justfile_model.specs.Readers.ReaderState.{◌>>=◌, choose}
use Rattle.justfile_model.specs.Trees.Tree.{Argument, Entry, commented_entry}
use Rattle.justfile_model.proofs.Readers.AttributeReading as laws
use Rattle.justfile_parse_attribute.specs.AttributeTable as r
use Rattle.justfile_parse_attribute.specs.AttributeTable.{Arguments, meaning_in, meaning_kept, then_last}
use Rattle.justfile_parse_base.specs.SharedTable.{view_of}
use Rattle.justfile_parse_base.specs.ParseErrors.{IsParseError}
use Rattle.justfile_parse_attribute.specs.AttributeTable.{Entries}
use Rattle.justfile_parse_expression.specs.TableReader.{Read, State, accept, expect, leaves}
use Rattle.justfile_parse_base.specs.declared.parse_error.ParseError.{ParseError}
use Rattle.justfile_parse_base.specs.declared.parse_error.ParseError.TheVariants.{Expression, Compile}
use Rattle.justfile_parse_expression.specs.Significant.{TableToken}
use Rattle.justfile_parse_expression.specs.declared.expression_error.ExpressionError.TheVariants as causes
use Rattle.justfile_parse_base.proofs.RuleSteps.{broken_first}
use Rattle.justfile_expression.specs.LeafTree.{Leaf}

abbrev Taken : Type 0
Taken = Option (TableToken × State)

-- ---- any loop: a step after another, up to the last

module _ {X : Type 0} where
  abbrev by_last : (List X × State → Read (List X)) → (List X × Bool) × State → Read (List X)
  by_last whole x = cond x.0.1 (Ok (x.0.0, x.1)) (whole (x.0.0, x.1))

  -- where a step stops, so does all
  stops_first : (found : Read (List X × Bool)) (next : (List X × Bool) × State → Read (List X)) (failure : ParseError) (s : State) → IsParseError failure s ⊥ found → IsParseError failure s ⊥ (found >>= next)
  stops_first found next (Compile error) s h = broken_first found next error.value h
  stops_first found next (Expression (causes.Refused refusal)) s h = ap (λ (o : Read (List X × Bool)). o >>= next) h
  stops_first found next (Expression (causes.Literal refused)) s h = ap (λ (o : Read (List X × Bool)). o >>= next) h
  stops_first found next (Expression causes.Memory) s h = tt
  stops_first found next (Expression causes.Numbers) s h = absurd h

  module _ (whole : List X × State → Read (List X)) (step : List X → State → Read (List X × Bool)) (law : (x : List X × State) → whole x ≡ (step x.0 x.1 >>= by_last whole)) where
    module _ (before : List X) (s : State) (all : Read (List X)) (so_far : whole (before, s) ≡ all) where
      abbrev here : all ≡ (step before s >>= by_last whole)
      here = sym so_far ∙ law (before, s)

      loop_goes_on : (later : List X) (rest : State) → step before s ≡ Ok ((later, false), rest) → whole (later, rest) ≡ all
      loop_goes_on later rest h = sym (here ∙ ap (λ (o : Read (List X × Bool)). o >>= by_last whole) h)

      loop_ends : (later : List X) (rest : State) → step before s ≡ Ok ((later, true), rest) → all ≡ Ok (later, rest)
      loop_ends later rest h = here ∙ ap (λ (o : Read (List X × Bool)). o >>= by_last whole) h

      loop_stops : (error : ParseError) (rest : State) → IsParseError error rest ⊥ (step before s) → IsParseError error rest ⊥ all
      loop_stops error rest h = rw here (stops_first (step before s) (by_last whole) error rest h)

-- what stands after an element, as the rules have it
separated : {X : Type 0} (closing : TokenKind) (all : List X) (s : State) (whole : List X × State → Read (List X))
    → choose (accept kinds.Comma s) (expect closing s >>= λ closer. Ok (all, closer.1)) (λ comma. whole (all, comma.1))
    ≡ ((r.separator closing s >>= λ b. Ok ((all, b.0), b.1)) >>= by_last whole)
unfolding r.separator
separated {X} closing all s whole = go (accept kinds.Comma s) (expect closing s)
  where
    go : (o : Taken) (found : Read TableToken)
        → choose {X = Read (List X)} o (found >>= λ closer. Ok (all, closer.1)) (λ comma. whole (all, comma.1))
        ≡ ((choose {X = Read Bool} o (found >>= λ closer. Ok (true, closer.1)) (λ comma. Ok (false, comma.1)) >>= λ b. Ok ((all, b.0), b.1)) >>= by_last whole)
    go None (Ok closer) = refl
    go None (Err f) = refl
    go (Some comma) found = refl

-- ---- arguments between parentheses

module _ (name : TableToken) (keys : Bool) where
  abbrev from : Arguments × State → Read Arguments
  from = r.arguments_from name keys

  list_law : (x : Arguments × State) → from x ≡ (r.list_step name keys x.0 x.1 >>= by_last from)
  unfolding r.list_step r.one_argument attributes.arguments_end
  list_law x = laws.arguments_from_is leaves view_of meaning_kept meaning_in name keys x ∙ go (accept kinds.ParenR x.1) (r.argument name keys x.0 x.1)
    where
      go : (o : Taken) (found : Read (Argument Leaf Token))
          → choose {X = Read Arguments} o
          (found >>= λ a. choose (accept kinds.Comma a.1) (expect kinds.ParenR a.1 >>= λ closer. Ok (x.0 ++ a.0 ∷ [], closer.1)) (λ comma. from (x.0 ++ a.0 ∷ [], comma.1)))
          (λ closer. Ok (x.0, closer.1))
          ≡ (choose {X = Read (Arguments × Bool)} o ((found >>= then_last x.0) >>= λ all. r.separator kinds.ParenR all.1 >>= λ b. Ok ((all.0, b.0), b.1)) (λ closer. Ok ((x.0, true), closer.1)) >>= by_last from)
      go None (Ok a) = separated kinds.ParenR (x.0 ++ a.0 ∷ []) a.1 from
      go None (Err f) = refl
      go (Some closer) found = refl

  module _ (before : Arguments) (s : State) (all : Read Arguments) (so_far : from (before, s) ≡ all) where
    pub list_goes_on : (later : Arguments) (rest : State) → r.list_step name keys before s ≡ Ok ((later, false), rest) → from (later, rest) ≡ all
    list_goes_on = loop_goes_on from (r.list_step name keys) list_law before s all so_far

    pub list_ends : (later : Arguments) (rest : State) → r.list_step name keys before s ≡ Ok ((later, true), rest) → all ≡ Ok (later, rest)
    list_ends = loop_ends from (r.list_step name keys) list_law before s all so_far

    pub list_stops : (error : ParseError) (rest : State) → IsParseError error rest ⊥ (r.list_step name keys before s) → IsParseError error rest ⊥ all
    list_stops = loop_stops from (r.list_step name keys) list_law before s all so_far

-- ---- the attributes of a bracket

bracket_law : (x : Entries × State) → r.bracketed x ≡ (r.bracket_step x.0 x.1 >>= by_last r.bracketed)
unfolding r.bracket_step r.one_attribute attributes.bracket_end
bracket_law x = laws.bracketed_is leaves view_of meaning_kept meaning_in x ∙ go (r.attribute x.0 x.1)
  where
    go : (found : Read (Entry Leaf Token))
        → (found >>= λ w. choose (accept kinds.Comma w.1) (expect kinds.BracketR w.1 >>= λ closer. Ok (x.0 ++ w.0 ∷ [], closer.1)) (λ comma. r.bracketed (x.0 ++ w.0 ∷ [], comma.1)))
        ≡ (((found >>= then_last x.0) >>= λ all. r.separator kinds.BracketR all.1 >>= λ b. Ok ((all.0, b.0), b.1)) >>= by_last r.bracketed)
    go (Ok w) = separated kinds.BracketR (x.0 ++ w.0 ∷ []) w.1 r.bracketed
    go (Err f) = refl

module _ (before : Entries) (s : State) (all : Read Entries) (so_far : r.bracketed (before, s) ≡ all) where
  pub bracket_goes_on : (later : Entries) (rest : State) → r.bracket_step before s ≡ Ok ((later, false), rest) → r.bracketed (later, rest) ≡ all
  bracket_goes_on = loop_goes_on r.bracketed r.bracket_step bracket_law before s all so_far

  pub bracket_ends : (later : Entries) (rest : State) → r.bracket_step before s ≡ Ok ((later, true), rest) → all ≡ Ok (later, rest)
  bracket_ends = loop_ends r.bracketed r.bracket_step bracket_law before s all so_far

  pub bracket_stops : (error : ParseError) (rest : State) → IsParseError error rest ⊥ (r.bracket_step before s) → IsParseError error rest ⊥ all
  bracket_stops = loop_stops r.bracketed r.bracket_step bracket_law before s all so_far

-- ---- lines of attributes

lines_law : (x : Entries × State) → r.attribute_lines_from x ≡ (r.line_step x.0 x.1 >>= by_last r.attribute_lines_from)
unfolding r.line_step r.attribute_line
lines_law x = laws.attribute_lines_from_is leaves view_of meaning_kept meaning_in commented_entry x ∙ go (accept kinds.BracketL x.1)
  where
    flagged : Entries × State → Read (Entries × Bool)
    flagged y = Ok ((y.0, false), y.1)

    ended : Entries → Option TableToken × State → Read Entries
    ended ws end = Ok (r.commented_by end.0 ws, end.1)

    later : Entries → Option TableToken × State → Read Entries
    later ws end = r.attribute_lines_from (r.commented_by end.0 ws, end.1)

    by_end : (ws : Entries) (found : Read (Option TableToken)) → (found >>= later ws) ≡ (((found >>= ended ws) >>= flagged) >>= by_last r.attribute_lines_from)
    by_end ws (Ok end) = refl
    by_end ws (Err f) = refl

    by_bracket : (found : Read Entries)
        → (found >>= λ ws. r.attributes_end ws.1 >>= later ws.0) ≡ (((found >>= λ ws. r.attributes_end ws.1 >>= ended ws.0) >>= flagged) >>= by_last r.attribute_lines_from)
    by_bracket (Ok ws) = by_end ws.0 (r.attributes_end ws.1)
    by_bracket (Err f) = refl

    go : (o : Taken)
        → choose {X = Read Entries} o (Ok x) (λ opener. r.bracketed (x.0, opener.1) >>= λ ws. r.attributes_end ws.1 >>= later ws.0)
        ≡ (choose {X = Read (Entries × Bool)} o (Ok ((x.0, true), x.1)) (λ opener. (r.bracketed (x.0, opener.1) >>= λ ws. r.attributes_end ws.1 >>= ended ws.0) >>= flagged) >>= by_last r.attribute_lines_from)
    go None = refl
    go (Some opener) = by_bracket (r.bracketed (x.0, opener.1))

module _ (before : Entries) (s : State) (all : Read Entries) (so_far : r.attribute_lines_from (before, s) ≡ all) where
  pub lines_go_on : (later : Entries) (rest : State) → r.line_step before s ≡ Ok ((later, false), rest) → r.attribute_lines_from (later, rest) ≡ all
  lines_go_on = loop_goes_on r.attribute_lines_from r.line_step lines_law before s all so_far

  pub lines_end : (later : Entries) (rest : State) → r.line_step before s ≡ Ok ((later, true), rest) → all ≡ Ok (later, rest)
  lines_end = loop_ends r.attribute_lines_from r.line_step lines_law before s all so_far

  pub lines_stop : (error : ParseError) (rest : State) → IsParseError error rest ⊥ (r.line_step before s) → IsParseError error rest ⊥ all
  lines_stop = loop_stops r.attribute_lines_from r.line_step lines_law before s all so_far

pub lines_are : (s : State) → r.attribute_lines s ≡ r.attribute_lines_from ([], s)
unfolding attributes.attribute_lines
lines_are s = refl
