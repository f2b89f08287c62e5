-- An item is refused if a part of it is, after the parts that were read. An item is read if its parts are.
use Rattle.std.proofs.Common.{◌≡◌, ℕ, Bool, false, List, Option, Ok, Err, refl}
use Rattle.justfile_vocabulary.specs.declared.item_kind.ItemKind.TheVariants as item_kinds
use Rattle.justfile_token.specs.declared.token.Token.{Token}
use Rattle.justfile_vocabulary.specs.declared.keyword.Keyword.{Keyword}
use Rattle.justfile_vocabulary.specs.declared.token_kind.TokenKind.TheVariants as kinds
use Rattle.justfile_model.specs.Readers.Reader as files
use Rattle.justfile_model.specs.Readers.ReaderState.{Counters}
use Rattle.justfile_model.specs.Grammars.Settings.{setting_form}
use Rattle.justfile_model.specs.Trees.Tree as tree
use Rattle.justfile_model.specs.Trees.Tree.{Expr, Quoted, SettingValue, assignment_of}
use Rattle.justfile_model.specs.declared.level.Level.TheVariants as levels
use Rattle.justfile_parse_item.specs.ItemTable as reader
use Rattle.justfile_parse_attribute.specs.AttributeTable.{Entries}
use Rattle.justfile_parse_base.specs.ParseErrors.{IsParseError}
use Rattle.justfile_parse_base.specs.declared.parse_error.ParseError.{ParseError}
use Rattle.justfile_parse_expression.specs.TableReader.{At, ReadError, State, expect, leaves, read}
use Rattle.justfile_parse_expression.specs.Significant.{TableToken}
use Rattle.justfile_parse_base.proofs.HeaderErrors.{failed}
use Rattle.justfile_parse_base.specs.SharedTable.{next_binding_number, path}
use Rattle.justfile_parse_item_parts.specs.PartTable.{file_path, setting_keyword, names, optional_path, setting_value}
use Rattle.justfile_expression.specs.LeafTree.{Leaf}

module _ (ws : Entries) (n : Counters) (s : State) (name : TableToken) (named : State) (taken : expect kinds.Identifier s ≡ Ok (name, named)) where
  -- ---- an assignment

  module _ (eager export : Bool) (operator : TableToken) (rest : State) (e : Expr Leaf Token) (t : State) (assigned : expect kinds.ColonEquals named ≡ Ok (operator, rest))
      (value : read (At levels.Expression false rest) ≡ Ok (e, t)) where
    assignment_fails : (f : ReadError) → reader.check_allowed item_kinds.Assignment ws name t ≡ Err f → reader.assignment eager export ws n s ≡ Err f
    unfolding files.assignment
    assignment_fails f is = rw (taken, assigned, value, is) refl

    -- all of it is read
    pub assignment_read : reader.check_allowed item_kinds.Assignment ws name t ≡ Ok (tt, t) → (number : ℕ) (m : Counters) → next_binding_number n t ≡ Ok ((number, m), t)
        → reader.assignment eager export ws n s
        ≡ Ok ((tree.Construct (reader.in_content_order ws) (tree.Assignment (assignment_of eager export (leaves.assignment t.run name number) e)), m), t)
    unfolding files.assignment
    assignment_read allowed number m counted = rw (taken, assigned, value, allowed, counted) refl

    -- its attributes are refused
    pub assignment_errs : (error : ParseError) (left : State) (Wanting : Type 0) → IsParseError error left ⊥ (reader.check_allowed item_kinds.Assignment ws name t)
        → IsParseError error left Wanting (reader.assignment eager export ws n s)
    assignment_errs error left Wanting h =
        failed (reader.check_allowed item_kinds.Assignment ws name t) (reader.assignment eager export ws n s) assignment_fails error left ⊥ Wanting (λ k. absurd k) h

  -- ---- a module

  module _ (optional : Bool) (path : Option (Quoted Leaf)) (t : State) (found : optional_path named ≡ Ok (path, t)) where
    module_fails : (f : ReadError) → reader.check_allowed item_kinds.Module ws name t ≡ Err f → reader.named_module optional ws n s ≡ Err f
    unfolding files.named_module
    module_fails f is = rw (taken, found, is) refl

    -- its attributes are refused
    pub module_errs : (error : ParseError) (left : State) → IsParseError error left ⊥ (reader.check_allowed item_kinds.Module ws name t) → IsParseError error left ⊥ (reader.named_module optional ws n s)
    module_errs error left h = failed (reader.check_allowed item_kinds.Module ws name t) (reader.named_module optional ws n s) module_fails error left ⊥ ⊥ (λ k. k) h

  -- ---- an alias

  module _ (operator : TableToken) (rest : State) (target : List Leaf) (t : State) (assigned : expect kinds.ColonEquals named ≡ Ok (operator, rest)) (found : path rest ≡ Ok (target, t)) where
    alias_fails : (f : ReadError) → reader.check_allowed item_kinds.Alias ws name t ≡ Err f → reader.alias ws n s ≡ Err f
    unfolding files.alias
    alias_fails f is = rw (taken, assigned, found, is) refl

    -- its attributes are refused
    pub alias_errs : (error : ParseError) (left : State) → IsParseError error left ⊥ (reader.check_allowed item_kinds.Alias ws name t) → IsParseError error left ⊥ (reader.alias ws n s)
    alias_errs error left h = failed (reader.check_allowed item_kinds.Alias ws name t) (reader.alias ws n s) alias_fails error left ⊥ ⊥ (λ k. k) h

  -- ---- an `unexport`

  unexport_fails : (f : ReadError) → reader.check_allowed item_kinds.Unexport ws name named ≡ Err f → reader.unexport ws n s ≡ Err f
  unfolding files.unexport
  unexport_fails f is = rw (taken, is) refl

  -- its attributes are refused
  pub unexport_errs : (error : ParseError) (left : State) → IsParseError error left ⊥ (reader.check_allowed item_kinds.Unexport ws name named) → IsParseError error left ⊥ (reader.unexport ws n s)
  unexport_errs error left h = failed (reader.check_allowed item_kinds.Unexport ws name named) (reader.unexport ws n s) unexport_fails error left ⊥ ⊥ (λ k. k) h

  -- ---- a setting

  module _ (keyword : Keyword) (known : setting_keyword name named ≡ Ok (keyword, named)) where
    setting_disallowed : (f : ReadError) → reader.check_allowed item_kinds.Setting ws name named ≡ Err f → reader.setting ws n s ≡ Err f
    unfolding files.setting
    setting_disallowed f is = rw (taken, known, is) refl

    -- its attributes are refused
    pub setting_attributes_fail : (error : ParseError) (left : State) → IsParseError error left ⊥ (reader.check_allowed item_kinds.Setting ws name named) → IsParseError error left ⊥ (reader.setting ws n s)
    setting_attributes_fail error left h =
        failed (reader.check_allowed item_kinds.Setting ws name named) (reader.setting ws n s) setting_disallowed error left ⊥ ⊥ (λ k. k) h

    module _ (allowed : reader.check_allowed item_kinds.Setting ws name named ≡ Ok (tt, named)) where
      setting_fails : (f : ReadError) → setting_value name keyword (setting_form keyword) named ≡ Err f → reader.setting ws n s ≡ Err f
      unfolding files.setting
      setting_fails f is = rw (taken, known, allowed, is) refl

      -- all of it is read
      pub setting_read : (value : SettingValue Leaf Token) (left : State) → setting_value name keyword (setting_form keyword) named ≡ Ok (value, left)
          → reader.setting ws n s ≡ Ok ((tree.Construct (reader.in_content_order ws) (tree.Setting (record { keyword = keyword; name = leaves.name name; value = value })), n), left)
      unfolding files.setting
      setting_read value left is = rw (taken, known, allowed, is) refl

      -- its value is refused
      pub setting_value_fails : (error : ParseError) (left : State) → IsParseError error left ⊥ (setting_value name keyword (setting_form keyword) named) → IsParseError error left ⊥ (reader.setting ws n s)
      setting_value_fails error left h =
          failed (setting_value name keyword (setting_form keyword) named) (reader.setting ws n s) setting_fails error left ⊥ ⊥ (λ k. k) h

  -- ---- a function

  function_disallowed : (f : ReadError) → reader.check_allowed item_kinds.Function ws name named ≡ Err f → reader.function ws n s ≡ Err f
  unfolding files.function
  function_disallowed f is = rw (taken, is) refl

  -- its attributes are refused
  pub function_attributes_fail : (error : ParseError) (left : State) (Wanting : Type 0) → IsParseError error left ⊥ (reader.check_allowed item_kinds.Function ws name named)
      → IsParseError error left Wanting (reader.function ws n s)
  function_attributes_fail error left Wanting h =
      failed (reader.check_allowed item_kinds.Function ws name named) (reader.function ws n s) function_disallowed error left ⊥ Wanting (λ k. absurd k) h

  module _ (opener : TableToken) (opened : State) (allowed : reader.check_allowed item_kinds.Function ws name named ≡ Ok (tt, named)) (next : expect kinds.ParenL named ≡ Ok (opener, opened)) where
    function_fails : (f : ReadError) → names (n, opened) ≡ Err f → reader.function ws n s ≡ Err f
    unfolding files.function
    function_fails f is = rw (taken, allowed, next, is) refl

    -- all of it is read
    pub function_read : (ps : List Leaf × Counters) (u : State) → names (n, opened) ≡ Ok (ps, u) → (operator : TableToken) (rest : State) → expect kinds.ColonEquals u ≡ Ok (operator, rest)
        → (e : Expr Leaf Token) (left : State) → read (At levels.Expression false rest) ≡ Ok (e, left)
        → reader.function ws n s
        ≡ Ok ((tree.Construct (reader.in_content_order ws) (tree.Function (record { name = leaves.name name; parameters = ps.0; body = e })), ps.1), left)
    unfolding files.function
    function_read ps u parameters operator rest assigned e left body = rw (taken, allowed, next, parameters, assigned, body) refl

    -- its parameters are refused, or no number is left for one
    pub function_errs : (error : ParseError) (left : State) (wanting : ReadError) → IsParseError error left (names (n, opened) ≡ Err wanting) (names (n, opened))
        → IsParseError error left (reader.function ws n s ≡ Err wanting) (reader.function ws n s)
    function_errs error left wanting h = failed (names (n, opened)) (reader.function ws n s) function_fails error left _ _ (function_fails wanting) h

-- ---- an import

module _ (ws : Entries) (n : Counters) (s : State) (optional : Bool) (found_path : TableToken × Quoted Leaf) (t : State) (found : file_path s ≡ Ok (found_path, t)) where
  imported_fails : (f : ReadError) → reader.check_allowed item_kinds.Import ws found_path.0 t ≡ Err f → reader.imported optional ws n s ≡ Err f
  unfolding files.imported
  imported_fails f is = rw (found, is) refl

  -- its attributes are refused
  pub imported_errs : (error : ParseError) (left : State) → IsParseError error left ⊥ (reader.check_allowed item_kinds.Import ws found_path.0 t) → IsParseError error left ⊥ (reader.imported optional ws n s)
  imported_errs error left h = failed (reader.check_allowed item_kinds.Import ws found_path.0 t) (reader.imported optional ws n s) imported_fails error left ⊥ ⊥ (λ k. k) h
