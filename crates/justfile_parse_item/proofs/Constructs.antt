-- The errors of attributes, found once the construct after them is read.
use Rattle.std.proofs.Common.{◌≡◌, ◌∙◌, ℕ, All, Bool, true, ◌||◌, List, [], ◌∷◌, map, map-id, length, Option, Some, None, Ok, Err, refl, sym, ap, subst}
use Rattle.std.proofs.lemmas.List.{length-map}
use Rattle.std.proofs.lemmas.List.Elements.{All-cons, All-head, All-nil, All-tail}
use Rattle.std.proofs.lemmas.Map.Views.{All-map-IsPermutation}
use Rattle.justfile_attribute.proofs.Ordered.{kind_seen}
use Rattle.justfile_attribute.specs.New.{HasDerivedAttributeFields}
use Rattle.justfile_attribute.specs.declared.attribute.Attribute.{Attribute}
use Rattle.justfile_attribute_rules.specs.RuleErrors.{IsKindOfRule}
use Rattle.justfile_attribute_set.specs.AttributeSet.{IsInvalidBy, NamesInvalid}
use Rattle.justfile_attribute_set.specs.Attributes.{has_kind, kind_of}
use Rattle.justfile_attribute_set.specs.Keys.{firsts}
use Rattle.justfile_attribute_set.specs.Pairs.{Pair, leaf_entry_of, pair_cmp}
use Rattle.justfile_vocabulary.specs.declared.attribute_kind.AttributeKind.{AttributeKind}
use Rattle.justfile_token.specs.declared.compile_error.CompileError.{CompileError}
use Rattle.justfile_token.specs.declared.compile_error_kind.CompileErrorKind.TheVariants as error_kinds
use Rattle.justfile_token.specs.declared.compile_error_kind.CompileErrorKind.{CompileErrorKind}
use Rattle.justfile_token.specs.declared.fault.Fault.TheVariants as faults
use Rattle.justfile_token.specs.declared.fault.Fault.{Fault}
use Rattle.justfile_vocabulary.specs.declared.item_kind.ItemKind.{ItemKind}
use Rattle.justfile_token.specs.declared.name.Name.{Name}
use Rattle.justfile_token.specs.declared.token.Token.{Token}
use Rattle.justfile_vocabulary.specs.declared.token_kind.TokenKind.TheVariants as kinds
use Rattle.justfile_model.specs.Meanings.AttributeKinds.{same_attribute}
use Rattle.justfile_model.specs.Meanings.AttributeRules.{first_invalid, of_some}
use Rattle.justfile_model.specs.Trees.ContentKeys.{has_attribute, kind_of_attribute}
use Rattle.justfile_model.specs.Readers.HeaderReader.{obeying}
use Rattle.justfile_model.proofs.Lists.OrderLaws.{in_order_permutation}
use Rattle.justfile_model.specs.Lists.Order.{in_order}
use Rattle.justfile_model.specs.Readers.Reader as files
use Rattle.justfile_model.specs.Readers.ReaderState as reading
use Rattle.justfile_model.specs.Meanings.Rules.{Broken, InvalidAttribute}
use Rattle.justfile_model.specs.Trees.Tree.{Entry}
use Rattle.justfile_parse_item.specs.Exclusions.{IsKindOfFirst}
use Rattle.justfile_parse_item.specs.ExtraneousFault.{IsExtraneousFault}
use Rattle.justfile_parse_item.specs.ItemTable as reader
use Rattle.justfile_written.specs.declared.written.Written.{Written}
use Rattle.justfile_parse_item.specs.ItemTable.{in_content_order}
use Rattle.justfile_parse_attribute.specs.AttributeTable.{Entries}
use Rattle.justfile_parse_attribute.specs.Attributes.{entry_of_pair}
use Rattle.justfile_parse_base.proofs.RuleSteps.{fails_broken, fails_with}
use Rattle.justfile_parse_base.specs.ParseErrors.{IsParseError, IsErrorOfFault, IsFaultOfRead}
use Rattle.justfile_parse_attribute.specs.DerivedAttributeFields.{HaveDerivedAttributeFields, HaveDerivedPairFields}
use Rattle.justfile_parse_base.specs.declared.parse_error.ParseError.{ParseError}
use Rattle.justfile_parse_expression.specs.TableReader as tokens
use Rattle.justfile_parse_expression.specs.TableReader.{Read, State, leaves}
use Rattle.justfile_parse_expression.specs.Significant.{TableToken}
use Rattle.justfile_expression.specs.LeafViews.{views_leaves}
use Rattle.justfile_expression.specs.LeafTree.{Leaf}

tells_extraneous : (count : ℕ) (opener : Token) (fault : Fault) → IsExtraneousFault count opener fault → IsFaultOfRead (reading.Extraneous count opener) fault
tells_extraneous count opener (faults.Compile e) k = k
tells_extraneous count opener faults.Memory k = absurd k
tells_extraneous count opener faults.Numbers k = absurd k

-- reading stops if a blank line or a comment follows the attributes
extraneous_fails : (Y : Type 0) (count : ℕ) (opener : Token) (fault : Fault) (failure : ParseError) (s : State) → IsErrorOfFault failure fault → IsExtraneousFault count opener fault
    → IsParseError {Y = Y} failure s ⊥ (Err (reading.Extraneous count opener))
extraneous_fails Y count opener fault failure s h k = fails_with Y (reading.Extraneous count opener) fault failure s h (tells_extraneous count opener fault k)

-- ---- the attributes of an item of a kind

abbrev Found : Type 0
Found = Option (Entry Leaf Token)

module _ (item : ItemKind) (ws : Entries) (name : TableToken) (s : State) (entries : Entries) (is : entries ≡ in_content_order ws) where
  -- the refusal of the first that such an item may not have
  abbrev refusing : Found → Read (Unit {0})
  refusing o = obeying (of_some (λ (e : Entry Leaf Token). record { rule = InvalidAttribute item (kind_of_attribute e.attribute); token = name.0 } ∷ []) o) s

  allowed_is : reader.check_allowed item ws name s ≡ refusing (first_invalid views_leaves item entries)
  unfolding leaves
  allowed_is =
      ap (λ (es : Entries). refusing (first_invalid views_leaves item (in_content_order es))) (map-id ws)
      ∙ ap (λ (es : Entries). refusing (first_invalid views_leaves item es)) (sym is)

  pub is_allowed : first_invalid views_leaves item entries ≡ None → reader.check_allowed item ws name s ≡ Ok (tt, s)
  is_allowed h = allowed_is ∙ ap refusing h

  says : (kind : AttributeKind) (error_kind : CompileErrorKind) → NamesInvalid item name.0 kind error_kind → IsKindOfRule name.0 (InvalidAttribute item kind) error_kind
  says kind (error_kinds.InvalidAttribute item' text kind') h = h
  says kind _ h = absurd h

  pub is_disallowed : (e : CompileError) (error : ParseError) → IsInvalidBy (first_invalid views_leaves item entries) item name.0 e
      → IsErrorOfFault error (faults.Compile e) → IsParseError error s ⊥ (reader.check_allowed item ws name s)
  is_disallowed e error invalid h = subst (λ (f : Read (Unit {0})). IsParseError error s ⊥ f) (sym allowed_is) (go (first_invalid views_leaves item entries) invalid)
    where
      go : (o : Found) → IsInvalidBy o item name.0 e → IsParseError error s ⊥ (refusing o)
      go None k = absurd k
      go (Some first) k =
          fails_broken (Unit {0}) (Unit {0} × State) (record { rule = InvalidAttribute item (kind_of_attribute first.attribute); token = name.0 }) (faults.Compile e) error s h
          (record { token = k.0; says = says (kind_of_attribute first.attribute) e.kind k.1 })

-- ---- a recipe's attributes that exclude each other

-- the kinds of attributes are those of their entries
pub has_seen : (kind : AttributeKind) (pairs : List Pair) → has_kind kind (firsts pairs) ≡ has_attribute kind (map leaf_entry_of pairs)
unfolding kind_of
has_seen kind [] = refl
has_seen kind (p ∷ ps) =
    ap (λ (b : Bool). same_attribute (kind_of p.0) kind || b) (has_seen kind ps)
    ∙ ap (λ (k : AttributeKind). same_attribute k kind || has_attribute kind (map leaf_entry_of ps)) (kind_seen p.0)

-- each attribute that was read is as the parser makes it
pub pair_fields : (pairs : List Pair) → HaveDerivedPairFields pairs → All (λ (p : Pair). HasDerivedAttributeFields p.0) pairs
unfolding HaveDerivedAttributeFields
pair_fields [] h = All-nil (λ (p : Pair). HasDerivedAttributeFields p.0)
pair_fields (p ∷ ps) h =
    All-cons (λ (q : Pair). HasDerivedAttributeFields q.0) p ps (All-head HasDerivedAttributeFields p.0 (firsts ps) h) (pair_fields ps (All-tail HasDerivedAttributeFields p.0 (firsts ps) h))

-- what the tree doesn't show of the pairs that were read, it doesn't show of the set
pub set_fields : (pairs ordered : List Pair) → ordered ≡ in_order pair_cmp pairs → HaveDerivedPairFields pairs → HaveDerivedAttributeFields (firsts ordered)
unfolding HaveDerivedAttributeFields
set_fields pairs ordered e h =
    subst (λ (ps : List Pair). All HasDerivedAttributeFields (firsts ps)) (sym e)
    (All-map-IsPermutation (λ (p : Pair). p.0) HasDerivedAttributeFields pairs (in_order pair_cmp pairs) (in_order_permutation pair_cmp pairs) h)

module _ (recipe : Token) where
  -- reading stops at the first rule that is broken
  pub is_excluded : (bs : List (Broken Token)) (kind : CompileErrorKind) (e : CompileError) (error : ParseError) (s : State) → IsKindOfFirst recipe bs (Some kind)
      → e.kind ≡ kind → e.token ≡ recipe → IsErrorOfFault error (faults.Compile e) → IsParseError error s ⊥ (obeying bs s)
  is_excluded [] kind e error s first is at h = absurd first
  is_excluded (b ∷ bs) kind e error s first is at h =
      fails_broken (Unit {0}) (Unit {0} × State) b (faults.Compile e) error s h (record {
        token = at ∙ sym first.1;
        says = subst (λ (k : CompileErrorKind). IsKindOfRule b.token b.rule k) (sym is) (subst (λ (t : Token). IsKindOfRule t b.rule kind) (sym first.1) first.0);
      })

-- ---- the attributes before a construct

module _ (s : State) (opener : TableToken) (next : State) (opened : tokens.accept kinds.BracketL s ≡ Some (opener, next)) where
  pub before_is : reader.item_attributes s ≡ reading.◌>>=◌ (reader.lines_of_attributes s) (reader.before_item opener)
  unfolding files.attributes
  before_is = rw opened refl

  module _ (ws : Entries) (rest : State) (read : reader.lines_of_attributes s ≡ Ok (ws, rest)) where
    pub stand_alone : reader.stands_alone rest ≡ true → reader.item_attributes s ≡ Err (reading.Extraneous (length ws) opener.0)
    unfolding leaves
    stand_alone h = before_is ∙ rw (read, h) refl

    -- reading stops if a blank line or a comment follows the attributes
    pub fails_alone : (pairs : List (Attribute × Written)) → ws ≡ map entry_of_pair pairs → reader.stands_alone rest ≡ true → (count : ℕ) → count ≡ length pairs
        → (fault : Fault) (error : ParseError) → IsErrorOfFault error fault → IsExtraneousFault count opener.0 fault → IsParseError error rest ⊥ (reader.item_attributes s)
    fails_alone pairs is alone count e fault error h k =
        let counted : length ws ≡ count = ap (λ (l : Entries). length l) is ∙ length-map pairs entry_of_pair ∙ sym e in
        let refused : reader.item_attributes s ≡ Err (reading.Extraneous count opener.0) =
        stand_alone alone ∙ ap (λ (n : ℕ). Err (reading.Extraneous n opener.0)) counted in
        subst (λ (f : Read Entries). IsParseError error rest ⊥ f) (sym refused) (extraneous_fails (Entries × State) count opener.0 fault error rest h k)
