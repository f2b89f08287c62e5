-- Recipes, in the steps in which the parser reads them.
use Rattle.std.proofs.Common.{◌≡◌, ◌∙◌, ℕ, ◌≤◌, Bool, true, false, List, map-id, Option, Some, None, Ok, Err, refl, sym, ap, subst, arith}
use Rattle.std.specs.Option.{option_map}
use Rattle.justfile_numbers.specs.Numerator.{number_of}
use Rattle.justfile_numbers.specs.declared.number.Number.{Number}
use Rattle.justfile_vocabulary.specs.declared.token_kind.TokenKind.{TokenKind}
use Rattle.justfile_vocabulary.specs.declared.token_kind.TokenKind.TheVariants as kinds
use Rattle.justfile_token.specs.declared.token.Token.{Token}
use Rattle.justfile_model.specs.Meanings.AttributeRules.{arg_rules}
use Rattle.justfile_model.specs.Readers.HeaderReader.{obeying}
use Rattle.justfile_model.specs.Readers.Reader as files
use Rattle.justfile_model.specs.Readers.ReaderState.{◌>>=◌, Counters, accepted, choose, taken_or}
use Rattle.justfile_model.specs.Meanings.RecipeRules.{exclusions_broken}
use Rattle.justfile_model.specs.Trees.Tree as tree
use Rattle.justfile_model.specs.Trees.Tree.{BodyLine, OrderedItem, bare_recipe}
use Rattle.justfile_parse_item.specs.ItemTable as reader
use Rattle.justfile_parse_item.specs.ItemTable.{ReadItem, next_recipe_number, in_content_order}
use Rattle.justfile_parse_item_parts.specs.BodyTable.{CommentedBody, optional_body}
use Rattle.justfile_parse_attribute.specs.AttributeTable.{Entries}
use Rattle.justfile_parse_base.specs.SharedTable.{comment_in}
use Rattle.justfile_parse_base.specs.ParseErrors.{IsParseError}
use Rattle.justfile_parse_base.specs.declared.parse_error.ParseError.{ParseError}
use Rattle.justfile_parse_expression.specs.MethodResults.{IsExpressionError}
use Rattle.justfile_parse_expression.specs.TableReader.{Read, ReadError, State, accept, leaves}
use Rattle.justfile_parse_expression.specs.Significant.{TableToken}
use Rattle.justfile_parse_expression.specs.declared.expression_error.ExpressionError.{ExpressionError}
use Rattle.justfile_parse_header.specs.HeaderTable.{LeafHeader, header}
use Rattle.justfile_parse_base.specs.Counting.{identifiers_left}
use Rattle.justfile_parse_base.proofs.Fewer.{accept_fewer}
use Rattle.justfile_parse_base.proofs.HeaderErrors.{failed, first_errs, first_stops, stopped}
use Rattle.justfile_expression.specs.LeafViews.{views_leaves}
use Rattle.justfile_expression.specs.LeafTree.{Headed, Leaf, RecipeName}

abbrev Body : Type 0
Body = CommentedBody

module _ (quiet : Bool) (ws : Entries) (n : Counters) (s : State) (entries : Entries) (is : entries ≡ in_content_order ws) where
  -- a recipe with what is kept of its name
  abbrev recipe_item : Entries → LeafHeader → Leaf → (comment : Option (List ℕ)) → List (BodyLine Leaf Token ℕ) → OrderedItem Leaf Token ℕ
  recipe_item kept h name comment lines =
      tree.Construct kept (tree.Recipe (bare_recipe (record { quiet = quiet; name = name; parameters = h.parameters; priors = h.priors; subsequents = h.subsequents }) comment lines))

  -- a recipe that got its number
  abbrev numbered_by : Entries → LeafHeader → Body → (ℕ × Counters) × State → ReadItem
  numbered_by kept h b x = Ok ((recipe_item kept h (leaves.recipe x.1.run h.name x.0.0 b.1) (option_map comment_in b.0) b.1, x.0.1), x.1)

  -- what is read after the body
  abbrev checked_by : (all kept : Entries) → LeafHeader × Counters → Body → State → ReadItem
  checked_by all kept h b t = obeying (exclusions_broken views_leaves h.0.name.0 all) t >>= λ checked. next_recipe_number h.1 checked.1 >>= numbered_by kept h.0 b

  -- what is read after the header
  abbrev bodied_by : (all kept : Entries) → (LeafHeader × Counters) × State → ReadItem
  bodied_by all kept h = optional_body h.1 >>= λ b. checked_by all kept h.0 b.0 b.1

  recipe_is : reader.recipe quiet ws n s ≡ (header (arg_rules entries) n s >>= bodied_by entries entries)
  unfolding files.recipe leaves
  recipe_is =
      ap (λ (all : Entries). header (arg_rules (in_content_order all)) n s >>= bodied_by (in_content_order all) (in_content_order ws)) (map-id ws)
      ∙ ap (λ (all : Entries). header (arg_rules all) n s >>= bodied_by all all) (sym is)

  -- the header is refused, or no number is left for a parameter
  pub header_fails : (error : ParseError) (left : State) (wanting : ReadError) → IsParseError error left (header (arg_rules entries) n s ≡ Err wanting) (header (arg_rules entries) n s)
      → IsParseError error left (reader.recipe quiet ws n s ≡ Err wanting) (reader.recipe quiet ws n s)
  header_fails error left wanting h = failed (header (arg_rules entries) n s) (reader.recipe quiet ws n s) fails error left _ _ (fails wanting) h
    where
      fails : (e : ReadError) → header (arg_rules entries) n s ≡ Err e → reader.recipe quiet ws n s ≡ Err e
      fails e is = recipe_is ∙ ap (λ (o : Read (LeafHeader × Counters)). o >>= bodied_by entries entries) is

  module _ (h : LeafHeader) (m : Counters) (t : State) (read : header (arg_rules entries) n s ≡ Ok ((h, m), t)) where
    after_header : reader.recipe quiet ws n s ≡ (optional_body t >>= λ b. checked_by entries entries (h, m) b.0 b.1)
    after_header = recipe_is ∙ ap (λ (o : Read (LeafHeader × Counters)). o >>= bodied_by entries entries) read

    -- the body is refused
    pub body_stops : (stop : ExpressionError) (left : State) (Wanting : Type 0) → IsExpressionError stop left ⊥ (optional_body t) → IsExpressionError stop left Wanting (reader.recipe quiet ws n s)
    body_stops stop left Wanting k =
        subst (λ (o : ReadItem). IsExpressionError stop left Wanting o) (sym after_header) (first_stops (optional_body t) (λ b. checked_by entries entries (h, m) b.0 b.1) stop left Wanting k)

    module _ (b : Body) (u : State) (body : optional_body t ≡ Ok (b, u)) where
      after_body : reader.recipe quiet ws n s ≡ checked_by entries entries (h, m) b u
      after_body = after_header ∙ ap (λ (o : Read Body). o >>= λ x. checked_by entries entries (h, m) x.0 x.1) body

      -- attributes exclude each other
      pub exclusion_fails : (error : ParseError) (left : State) (Wanting : Type 0) → IsParseError error left ⊥ (obeying (exclusions_broken views_leaves h.name.0 entries) u)
          → IsParseError error left Wanting (reader.recipe quiet ws n s)
      exclusion_fails error left Wanting k =
          subst (λ (o : ReadItem). IsParseError error left Wanting o) (sym after_body)
          (first_errs (obeying (exclusions_broken views_leaves h.name.0 entries) u) (λ checked. next_recipe_number m checked.1 >>= numbered_by entries h b) error left Wanting k)

      module _ (obeyed : obeying (exclusions_broken views_leaves h.name.0 entries) u ≡ Ok (tt, u)) where
        after_check : reader.recipe quiet ws n s ≡ (next_recipe_number m u >>= numbered_by entries h b)
        after_check = after_body ∙ ap (λ (o : Read (Unit {0})). o >>= λ checked. next_recipe_number m checked.1 >>= numbered_by entries h b) obeyed

        -- no number is left for it
        pub number_stops : (stop : ExpressionError) (left : State) (wanting : ReadError) → IsExpressionError stop left (next_recipe_number m u ≡ Err wanting) (next_recipe_number m u)
            → IsExpressionError stop left (reader.recipe quiet ws n s ≡ Err wanting) (reader.recipe quiet ws n s)
        number_stops stop left wanting k = stopped (next_recipe_number m u) (reader.recipe quiet ws n s) fails stop left _ _ (fails wanting) k
          where
            fails : (e : ReadError) → next_recipe_number m u ≡ Err e → reader.recipe quiet ws n s ≡ Err e
            fails e is = after_check ∙ ap (λ (o : Read (ℕ × Counters)). o >>= numbered_by entries h b) is

        -- it is read
        pub recipe_read : (number : ℕ) (k : Counters) → next_recipe_number m u ≡ Ok ((number, k), u) → (name : RecipeName) (comment : Option (List ℕ)) (lines : List (BodyLine Leaf Token ℕ))
            → name ≡ record { file_depth = u.run.file_depth; import_offsets = u.run.import_offsets; name = h.name.0; number = number_of number }
            → comment ≡ option_map comment_in b.0 → lines ≡ b.1
            → reader.recipe quiet ws n s ≡ Ok ((recipe_item entries h (Headed name) comment lines, k), u)
        unfolding leaves
        recipe_read number k numbered name comment lines is comment_is same =
            after_check
            ∙ ap (λ (o : Read (ℕ × Counters)). o >>= numbered_by entries h b) numbered
            ∙ (λ i. Ok ((recipe_item entries h (Headed (sym is i)) (sym comment_is i) (sym same i), k), u))

-- what is kept of a recipe's name
pub recipe_named : (depth depth' : ℕ) (offsets offsets' : List ℕ) (name name' : Token) (number : Number) → depth ≡ depth' → offsets ≡ offsets' → name ≡ name'
    → ◌≡◌ {A = RecipeName} (record { file_depth = depth; import_offsets = offsets; name = name; number = number }) (record { file_depth = depth'; import_offsets = offsets'; name = name'; number = number_of number.0 })
recipe_named depth depth' offsets offsets' name name' number a b c = λ i. record { file_depth = a i; import_offsets = b i; name = c i; number = number }

-- ---- `@` before the name

by_mark : {X : Type 0} (f : Bool → State → X) (s : State) (o : Option (TableToken × State)) → choose o (f false s) (λ x. f true x.1) ≡ f (taken_or s o).0 (taken_or s o).1
by_mark f s None = refl
by_mark f s (Some x) = refl

-- a recipe is quiet if `@` comes first
pub any_recipe_is : (ws : Entries) (n : Counters) (s : State)
    → reader.any_recipe ws n s ≡ reader.recipe (reader.accepted kinds.At s).0 ws n (reader.accepted kinds.At s).1
unfolding files.any_recipe accepted
any_recipe_is ws n s = by_mark (λ quiet t. reader.recipe quiet ws n t) s (accept kinds.At s)

mark_fewer : (s : State) (o : Option (TableToken × State)) → ((x : TableToken × State) → o ≡ Some x → identifiers_left x.1 ≤ identifiers_left s)
    → identifiers_left (taken_or s o).1 ≤ identifiers_left s
mark_fewer s None h = omega arith
mark_fewer s (Some x) h = h x refl

-- no more identifiers are left after a token that may be absent
pub accepted_fewer : (kind : TokenKind) (s : State) → identifiers_left (reader.accepted kind s).1 ≤ identifiers_left s
unfolding accepted
accepted_fewer kind s = mark_fewer s (accept kind s) (accept_fewer kind s)
