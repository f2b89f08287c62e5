-- The indentation that a parsed file sets is the text of its literal.
use Rattle.std.proofs.Common.{◌≡◌, ℕ, Bool, true, false, List, [], ◌∷◌, ◌++◌, Option, Some, None, Result, Ok, Err, codes, sym, ap, ◌∙◌, if◌then◌else◌}
use Rattle.std.specs.Prelude.{All, IfOk, IfSome, string_bytes}
use Rattle.std.proofs.lemmas.List.Elements.{All-head, All-tail}
use Rattle.justfile_vocabulary.specs.Indentation.{indentation_text}
use Rattle.justfile_numbers.specs.declared.numerator.Numerator.{Numerator}
use Rattle.justfile_token.specs.StringLiteral.{begins_format_string}
use Rattle.justfile_token.specs.Token.{lexeme_of}
use Rattle.justfile_vocabulary.specs.declared.indentation.Indentation.{Indentation}
use Rattle.justfile_token.specs.declared.fault.Fault.{Fault}
use Rattle.justfile_token.specs.declared.string_literal.StringLiteral.{StringLiteral}
use Rattle.justfile_token.specs.declared.token.Token.{Token}
use Rattle.justfile_model.specs.LiteralTexts.Literals.{LiteralFault, cooked_text, expanded_text, string_of, string_text}
use Rattle.justfile_model.specs.Meanings.RecipeRules.{or_else}
use Rattle.justfile_attribute_set.specs.AttributeSet.{attributes_of}
use Rattle.justfile_attribute_set.specs.Attributes.{are_enabled}
use Rattle.justfile_setting.specs.declared.setting.Setting.{Setting}
use Rattle.justfile_setting.specs.declared.setting.Setting.TheVariants as settings
use Rattle.justfile_item.specs.Indented.{indentation_set, item_indentation, items_indentation}
use Rattle.justfile_item.specs.declared.item.Item.{Item}
use Rattle.justfile_item.specs.declared.item.Item.TheVariants as items
use Rattle.justfile_ast.specs.declared.ast.Ast.{Ast}
use Rattle.justfile_canonical.specs.Formatting.{IsFileOf}
use Rattle.justfile_indentation.specs.OwnIndentation.{HasCookedIndentation, MatchesLiteral}
use Rattle.justfile_parse.specs.Parsing.{IsFilledItem, IsFilledLiteral, IsFilledSetting, IsParsedText}
use Rattle.justfile_canonical.specs.Root.{IsRoot, conditions, unchanged}

unexpanded : (r : Result (List ℕ) LiteralFault) (text : List ℕ) → expanded_text unchanged r ≡ Ok text → r ≡ Ok text
unexpanded (Ok t) text h = h
unexpanded (Err fault) text h = h

plain : (expanded : Bool) (lexeme text : List ℕ) → cooked_text unchanged (string_of expanded lexeme) ≡ Ok text → string_text lexeme ≡ Ok text
plain false lexeme text h = h
plain true lexeme text h = unexpanded (string_text lexeme) text h

module _ (IsToken : Token → Type 0) where
  holds_literal : (literal : StringLiteral) (indentation : Indentation) → IsFilledLiteral unchanged IsToken literal
      → indentation_text indentation ≡ string_bytes literal.cooked → MatchesLiteral (literal, indentation)
  holds_literal literal indentation given e =
      ap (λ part. string_text ((if begins_format_string part then codes "f" else []) ++ lexeme_of literal.token)) given.part
      ∙ plain literal.expand (lexeme_of literal.token) (string_bytes literal.cooked) given.cooked
      ∙ ap (λ (text : List ℕ). Ok text) (sym e)

  holds_set : (s : Setting) → IsFilledSetting unchanged IsToken s → IfSome (indentation_set s) MatchesLiteral
  holds_set (settings.Indentation literal indentation) given = holds_literal literal indentation given.0 given.1
  holds_set _ given = tt

  holds_if : (b : Bool) (s : Setting) → IsFilledSetting unchanged IsToken s → IfSome (if b then indentation_set s else None) MatchesLiteral
  holds_if true s given = holds_set s given
  holds_if false s given = tt

  module _ (depth : ℕ) (offsets : List ℕ) where
    holds_item : (i : Item) → IsFilledItem unchanged IsToken depth offsets i → IfSome (item_indentation i) MatchesLiteral
    holds_item (items.Setting s) given = holds_if (are_enabled (attributes_of s.attributes)) s.value given.value
    holds_item _ given = tt

    holds_first : (o found : Option (StringLiteral × Indentation)) → IfSome o MatchesLiteral → IfSome found MatchesLiteral → IfSome (or_else o found) MatchesLiteral
    holds_first None found h k = k
    holds_first (Some p) found h k = h

    pub holds_items : (all : List Item) → All (IsFilledItem unchanged IsToken depth offsets) all → IfSome (items_indentation all) MatchesLiteral
    holds_items [] given = tt
    holds_items (i ∷ all) given =
        holds_first (item_indentation i) (items_indentation all) (holds_item i (All-head (IsFilledItem unchanged IsToken depth offsets) i all given))
        (holds_items all (All-tail (IsFilledItem unchanged IsToken depth offsets) i all given))

-- a file that was parsed has the indentation of its literal
parsed_indented : (path source : List ℕ) (old new : Numerator) (ast : Ast) → IsParsedText conditions path source 0 [] old new ast → HasCookedIndentation ast
parsed_indented path source old new ast parsed = holds_items _ 0 [] ast.items.items parsed.filled.given

pub indented : (path source : List ℕ) (old new : Numerator) (r : Result Ast Fault) → IfOk r (IsParsedText conditions path source 0 [] old new) → IfOk r HasCookedIndentation
indented path source old new (Ok ast) parsed = parsed_indented path source old new ast parsed
indented path source old new (Err fault) parsed = tt

-- it is that of its text
pub file_of : (path source : List ℕ) (ast : Ast) → IsRoot path source ast → IsFileOf source ast
file_of path source ast root =
    record { derives = root.from.parsed.derives; indented = parsed_indented path source root.old root.new ast root.from.parsed }
