-- Attributes, in the steps in which the parser reads them.
use Rattle.std.proofs.Common.{◌≡◌, ◌∙◌, ℕ, ◌<◌, Bool, true, false, cond, ◌&&◌, List, [], ◌∷◌, ◌++◌, map, length, Option, None, Result, Ok, Err, refl, sym, ap, arith}
use Rattle.std.proofs.lemmas.List.{map-append}
use Rattle.justfile_attribute.specs.Attribute.{leaf_attribute_of}
use Rattle.justfile_attribute.specs.declared.attribute.Attribute.{Attribute}
use Rattle.justfile_attribute_rules.specs.Made.{IsRefusedBy}
use Rattle.justfile_vocabulary.specs.AttributeKind.{kind_named, takes_keys}
use Rattle.justfile_vocabulary.specs.declared.attribute_kind.AttributeKind.{AttributeKind}
use Rattle.justfile_token.specs.declared.name.Name.{Name}
use Rattle.justfile_token.specs.declared.fault.Fault.{Fault}
use Rattle.justfile_token.specs.declared.fault.Fault.TheVariants as faults
use Rattle.justfile_token.specs.declared.token.Token.{Token}
use Rattle.justfile_vocabulary.specs.declared.token_kind.TokenKind.TheVariants as kinds
use Rattle.justfile_model.specs.Readers.AttributeReader as attributes
use Rattle.justfile_model.specs.Grammars.Expressions.{front}
use Rattle.justfile_model.specs.Meanings.Meaning.{by_key, by_position}
use Rattle.justfile_model.specs.Readers.NewAttribute as new
use Rattle.justfile_model.specs.Readers.NewAttribute.{Made, check_repeated, new_attribute, new_entry}
use Rattle.justfile_model.specs.Readers.ReaderState as reading
use Rattle.justfile_model.specs.Readers.ReaderState.{◌>>=◌, choose}
use Rattle.justfile_model.specs.Trees.Tree as tree
use Rattle.justfile_model.specs.Trees.Tree.{Argument, Entry, bare_entry}
use Rattle.justfile_model.proofs.Readers.AttributeReading as laws
use Rattle.justfile_parse_attribute.specs.AttributeTable as r
use Rattle.justfile_parse_attribute.specs.AttributeTable.{Arguments, meaning_in, meaning_kept, then_last}
use Rattle.justfile_parse_base.specs.SharedTable.{view_of}
use Rattle.justfile_parse_attribute.specs.AddedAttributes.{Adds, ChecksLast, IsAdded, bare_at}
use Rattle.justfile_parse_attribute.specs.Attributes.{entry_of_pair}
use Rattle.justfile_parse_base.specs.ParseErrors.{IsParseError, IsErrorOfFault}
use Rattle.justfile_parse_expression.specs.MethodResults.{read_error_at}
use Rattle.justfile_parse_attribute.specs.AttributeTable.{Entries}
use Rattle.justfile_parse_expression.specs.TableReader.{Read, State, accept, expect, leaves}
use Rattle.justfile_parse_expression.specs.View.{tokens_left, state_of}
use Rattle.justfile_parse_base.specs.declared.parse_error.ParseError.{ParseError}
use Rattle.justfile_parse_base.specs.declared.parse_error.ParseError.TheVariants.{Expression, Compile}
use Rattle.justfile_parse_expression.specs.declared.parser_state.ParserState.{ParserState}
use Rattle.justfile_parse_expression.specs.Significant.{TableToken}
use Rattle.justfile_parse_expression.specs.declared.expression_error.SyntaxError.TheVariants as refusals
use Rattle.justfile_parse_expression.specs.declared.expression_error.ExpressionError.TheVariants as causes
use Rattle.justfile_parse_expression.proofs.Rest.{left_is}
use Rattle.justfile_parse_base.proofs.RuleSteps.{fails_first, fails_for}
use Rattle.justfile_expression.specs.LeafViews.{views_leaves}
use Rattle.justfile_expression.specs.LeafTree.{Leaf}
use Rattle.justfile_written.specs.Written.{uncommented}
use Rattle.justfile_written.specs.declared.written.Written.{Written}

-- where nothing comes next no expression is read
pub none_before : {X : Type 0} (answer : X → List ℕ → Result (List ℕ) (List ℕ)) (p q : ParserState X) (s : State) → front (state_of answer p).left ≡ None → tokens_left q < tokens_left p
    → ◌≡◌ {A = Read (Argument Leaf Token)} (Err (reading.Unexpected None)) (Err (read_error_at refusals.Unexpected s))
none_before answer p q s h k = go (state_of answer p).left (left_is answer p) h
  where
    go : (l : List TableToken) → length l ≡ tokens_left p → front l ≡ None → ◌≡◌ {A = Read (Argument Leaf Token)} (Err (reading.Unexpected None)) (Err (read_error_at refusals.Unexpected s))
    go [] e h = absurd (omega (arith, e, k))
    go (t ∷ ts) e h = cc

-- ---- arguments

pub one_argument_is : (name : TableToken) (keys : Bool) (before : Arguments) (s : State)
    → r.one_argument name keys before s ≡ cond (keys && r.begins_key s) (r.one_keyed name before s) (r.one_positional before s)
unfolding r.one_argument r.one_keyed r.one_positional attributes.argument
one_argument_is name keys before s = go (keys && r.begins_key s)
  where
    go : (b : Bool) → (cond b (r.keyed name before s) (r.positional before s) >>= then_last before) ≡ cond b (r.keyed name before s >>= then_last before) (r.positional before s >>= then_last before)
    go true = refl
    go false = refl

pub arguments_is : (name : TableToken) (keys : Bool) (s : State)
    → r.arguments name keys s
    ≡ choose (accept kinds.Colon s) (choose (accept kinds.ParenL s) (Ok ([], s)) (λ opener. r.arguments_from name keys ([], opener.1))) (λ colon. r.single_argument colon.1)
unfolding r.single_argument attributes.arguments
arguments_is name keys s = refl

-- ---- an attribute

-- the kind of a name, or its refusal
abbrev pub kind_or_refused : TableToken → State → Option AttributeKind → Read AttributeKind
kind_or_refused = laws.kind_or_refused leaves view_of meaning_kept meaning_in

pub kind_at_is : (name : TableToken) (s : State) → r.kind_at name s ≡ kind_or_refused name s (kind_named (leaves.see name).tok.lexeme)
kind_at_is name s = laws.kind_at_is leaves view_of meaning_kept meaning_in name s

map_same : (es : Entries) → map meaning_in es ≡ es
map_same [] = refl
map_same (e ∷ es) = ap (λ (l : Entries). e ∷ l) (map_same es)

made_after : (before : Entries) (name : TableToken) (kind : AttributeKind) (all : Arguments) (s : State)
    → (r.made before name kind all s >>= then_last before) ≡ r.one_made before name.0 kind all s
unfolding attributes.made r.one_made leaves
made_after before name kind all s =
    step (new_entry views_leaves (map meaning_in before) name.0 kind (by_position all) (by_key all)) (new_entry views_leaves before name.0 kind (by_position all) (by_key all))
    (ap (λ (l : Entries). new_entry views_leaves l name.0 kind (by_position all) (by_key all)) (map_same before))
  where
    step : (m k : Made Token (Entry Leaf Token)) → m ≡ k
        → ((attributes.read_made m s >>= λ e. Ok (e.0, e.1)) >>= then_last before) ≡ (attributes.read_made k s >>= λ e. Ok (before ++ e.0 ∷ [], e.1))
    step (Ok e) k h = rw (sym h) refl
    step (Err e) k h = rw (sym h) refl

pub one_attribute_is : (before : Entries) (s : State)
    → r.one_attribute before s
    ≡ (expect kinds.Identifier s >>= λ name. r.kind_at name.0 name.1 >>= λ kind. r.arguments name.0 (takes_keys kind.0) kind.1 >>= λ all.
    r.one_made before name.0.0 kind.0 all.0 all.1)
unfolding r.one_attribute attributes.attribute
one_attribute_is before s = by_name (expect kinds.Identifier s)
  where
    by_all : (name : TableToken) (kind : AttributeKind) (found : Read Arguments)
        → ((found >>= λ all. r.made before name kind all.0 all.1) >>= then_last before) ≡ (found >>= λ all. r.one_made before name.0 kind all.0 all.1)
    by_all name kind (Ok all) = made_after before name kind all.0 all.1
    by_all name kind (Err f) = refl

    by_kind : (name : TableToken) (found : Read AttributeKind)
        → ((found >>= λ kind. r.arguments name (takes_keys kind.0) kind.1 >>= λ all. r.made before name kind.0 all.0 all.1) >>= then_last before)
        ≡ (found >>= λ kind. r.arguments name (takes_keys kind.0) kind.1 >>= λ all. r.one_made before name.0 kind.0 all.0 all.1)
    by_kind name (Ok kind) = by_all name kind.0 (r.arguments name (takes_keys kind.0) kind.1)
    by_kind name (Err f) = refl

    by_name : (found : Read TableToken)
        → ((found >>= λ name. r.kind_at name.0 name.1 >>= λ kind. r.arguments name.0 (takes_keys kind.0) kind.1 >>= λ all. r.made before name.0 kind.0 all.0 all.1) >>= then_last before)
        ≡ (found >>= λ name. r.kind_at name.0 name.1 >>= λ kind. r.arguments name.0 (takes_keys kind.0) kind.1 >>= λ all. r.one_made before name.0.0 kind.0 all.0 all.1)
    by_name (Ok name) = by_kind name.0 (r.kind_at name.0 name.1)
    by_name (Err f) = refl

-- ---- what is made of arguments

made_first : {X Y : Type 0} (made : Made Token X) (next : X → Made Token Y) (fault : Fault) → IsRefusedBy made fault → IsRefusedBy (new.◌>>=◌ made next) fault
made_first made next faults.Memory h = tt
made_first made next faults.Numbers h = absurd h
made_first (Ok x) next (faults.Compile e) h = absurd h
made_first (Err broken) next (faults.Compile e) h = h

-- reading stops where nothing is made
refused_fails : {X Y : Type 0} (made : Made Token X) (next : X × State → Read Y) (fault : Fault) (failure : ParseError) (s : State)
    → IsErrorOfFault failure fault → IsRefusedBy made fault → IsParseError failure s ⊥ (attributes.read_made made s >>= next)
refused_fails (Ok x) next (faults.Compile e) failure s h k = absurd k
refused_fails (Err broken) next fault failure s h k = fails_for _ broken.rule broken.token fault failure s h k
refused_fails made next faults.Memory (Expression causes.Memory) s h k = tt
refused_fails made next faults.Memory (Expression causes.Numbers) s h k = absurd h
refused_fails made next faults.Memory (Expression (causes.Refused r)) s h k = absurd h
refused_fails made next faults.Memory (Expression (causes.Literal r)) s h k = absurd h
refused_fails made next faults.Memory (Compile error) s h k = absurd h
refused_fails made next faults.Numbers failure s h k = absurd k

module _ (pairs : List (Attribute × Written)) (name : Name) (kind : AttributeKind) (all : Arguments) (s : State) where
  abbrev before : Entries
  before = map entry_of_pair pairs

  abbrev attribute_made : Made Token (tree.Attribute Leaf Token)
  attribute_made = new_attribute views_leaves name.token kind (by_position all) (by_key all)

  abbrev checked : tree.Attribute Leaf Token → Made Token (Entry Leaf Token)
  checked a = new.◌>>=◌ (check_repeated views_leaves before (bare_entry name.token a)) (λ distinct. Ok (bare_entry name.token a))

  abbrev entry_made : Made Token (Entry Leaf Token)
  entry_made = new_entry views_leaves before name.token kind (by_position all) (by_key all)

  -- no entry is made where no attribute is
  pub entry_refused : (fault : Fault) → IsRefusedBy attribute_made fault → IsRefusedBy entry_made fault
  entry_refused fault h = made_first attribute_made checked fault h

  -- an attribute that is made and checked is the entry's
  pub entry_checked : (result : Result (Unit {0}) Fault) (later : List (Attribute × Written)) → IsAdded leaf_attribute_of attribute_made name pairs later → ChecksLast result later
      → Adds (bare_at name) result entry_made name pairs later
  unfolding ChecksLast
  entry_checked (Err fault) later h checks =
      let e = uncommented (h.attribute, name) in
      rw h.is_made (made_first (check_repeated views_leaves before (entry_of_pair e)) _ fault (checks pairs e h.added))
  entry_checked (Ok u) later h checks =
      let e = uncommented (h.attribute, name) in
      record { attribute = h.attribute; is_made = rw (h.is_made, checks pairs e h.added) refl; added = h.added }

  -- reading stops where no entry is added, and goes on otherwise
  pub entry_fails : (fault : Fault) (error : ParseError) (later : List (Attribute × Written)) → Adds (bare_at name) (Err fault) entry_made name pairs later → IsErrorOfFault error fault
      → IsParseError error s ⊥ (r.one_made before name.token kind all s)
  unfolding r.one_made
  entry_fails fault error later h fails = refused_fails entry_made _ fault error s fails h

  pub entry_last : (later : List (Attribute × Written)) → Adds (bare_at name) (Ok tt) entry_made name pairs later → r.one_made before name.token kind all s ≡ Ok (map entry_of_pair later, s)
  unfolding r.one_made
  entry_last later h =
      let a = h.attribute in
      let P : List (Attribute × Written) → Read Entries = λ ps. Ok (map entry_of_pair ps, s) in
      let Q : Entries → Read Entries = λ es. Ok (es, s) in
      let so_far : r.one_made before name.token kind all s ≡ Q (before ++ entry_of_pair (uncommented (a, name)) ∷ []) = rw h.is_made refl in
      so_far ∙ ap Q (sym (map-append entry_of_pair pairs (uncommented (a, name) ∷ []))) ∙ sym (ap P h.added)

-- an attribute is not read where its kind is not, or its arguments are not
pub kind_fails : (before : Entries) (s : State) (name : TableToken) (named : State) (error : ParseError) → expect kinds.Identifier s ≡ Ok (name, named)
    → IsParseError error named ⊥ (r.kind_at name named) → IsParseError error named ⊥ (r.one_attribute before s)
kind_fails before s name named error found h = rw (one_attribute_is before s, found) (fails_first error named (r.kind_at name named) _ h)

pub arguments_fail : (before : Entries) (s : State) (name : TableToken) (named : State) (kind : AttributeKind) (keys : Bool) (rest : State) (error : ParseError)
    → expect kinds.Identifier s ≡ Ok (name, named) → r.kind_at name named ≡ Ok (kind, named) → keys ≡ takes_keys kind
    → IsParseError error rest ⊥ (r.arguments name keys named) → IsParseError error rest ⊥ (r.one_attribute before s)
arguments_fail before s name named kind keys rest error found kinded same h =
    rw (one_attribute_is before s, found, kinded, sym same) (fails_first error rest (r.arguments name keys named) _ h)
