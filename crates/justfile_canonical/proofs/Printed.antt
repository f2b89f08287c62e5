-- What is printed of the items of a part, after what was printed before them.
use Rattle.std.proofs.Common.{◌≡◌, ◌∙◌, ℕ, Bool, true, false, ◌&&◌, List, [], ◌∷◌, ◌++◌, drop, Option, Some, None, codes, refl, sym, ap, subst}
use Rattle.std.specs.Prelude.{IfSome, if◌then◌else◌, string_bytes}
use Rattle.std.specs.Option.{option_map}
use Rattle.std.proofs.lemmas.Bool.{and_parts}
use Rattle.justfile_vocabulary.specs.declared.indentation.Indentation.{Indentation}
use Rattle.justfile_token.specs.declared.string_literal.StringLiteral.{StringLiteral}
use Rattle.justfile_model.specs.Lexing.Tok.{Tok}
use Rattle.justfile_model.specs.Meanings.Enabled.{indentation_in, indentation_of, is_enabled}
use Rattle.justfile_model.specs.Meanings.RecipeRules.{or_else}
use Rattle.justfile_model.specs.Printed.NormalShape.{normal}
use Rattle.justfile_model.specs.Printed.Printing.{printable, printable_item, text}
use Rattle.justfile_model.specs.Trees.Tree as tree
use Rattle.justfile_model.specs.Trees.Tree.{Shape, lexeme}
use Rattle.justfile_model.proofs.Printed.IndentedShapes.{indentation_shape}
use Rattle.justfile_expression.specs.Expression.{literal_tok}
use Rattle.justfile_item.specs.Indented.{items_indentation}
use Rattle.justfile_ast.specs.Ast.{ast_shape, tree_of}
use Rattle.justfile_ast.specs.Separator.{ItemShape, end_text, front_text, last_separator, next_separator}
use Rattle.justfile_ast.specs.declared.ast.Ast.{Ast}
use Rattle.justfile_ast.specs.declared.separator.Separator.{Separator}
use Rattle.justfile_ast.specs.declared.separator.Separator.TheVariants.{Blank, Item, Line, Start}
use Rattle.justfile_ast.proofs.Separators.{front-append, normal_text}
use Rattle.justfile_indentation.specs.OwnIndentation.{HasCookedIndentation, IsIndentedBy, MatchesLiteral}
use Rattle.justfile_canonical.specs.Parts.{HasLineEnd, HasPrinted, IsChosen, IsSetBy, indentation_in_use, own_items}
use Rattle.justfile_canonical.specs.declared.parts.Printer.{Printer}

-- ---- shapes that are joined

last_append : (separator : Separator) (s r : Shape) → last_separator separator (s ++ r) ≡ last_separator (last_separator separator s) r
last_append separator [] r = refl
last_append separator (i ∷ s) r = last_append (next_separator separator i) s r

never_start : (separator : Separator) (i : ItemShape) → next_separator separator i ≡ Start → ⊥
never_start Start tree.Newline e = cc
never_start Item tree.Newline e = cc
never_start Line tree.Newline e = cc
never_start Blank tree.Newline e = cc
never_start separator (tree.Comment t) e = cc
never_start separator (tree.Construct d c) e = cc

never_again : (separator : Separator) → (separator ≡ Start → ⊥) → (s : Shape) → last_separator separator s ≡ Start → ⊥
never_again separator n [] e = n e
never_again separator n (i ∷ s) e = never_again (next_separator separator i) (never_start separator i) s e

at_start : (s : Shape) → last_separator Start s ≡ Start → s ≡ []
at_start [] e = refl
at_start (i ∷ s) e = absurd (never_again (next_separator Start i) (never_start Start i) s e)

both_printable : (s r : Shape) → printable s ≡ true → printable r ≡ true → printable (s ++ r) ≡ true
both_printable [] r h k = k
both_printable (i ∷ s) r h k = let p = and_parts (printable_item i) (printable s) h in λ j. p.0 j && both_printable s r p.1 k j

or_all : {X : Type 0} (a b c : Option X) → or_else a (or_else b c) ≡ or_else (or_else a b) c
or_all None b c = refl
or_all (Some x) b c = refl

both_set : (s r : Shape) → indentation_of (s ++ r) ≡ or_else (indentation_of s) (indentation_of r)
both_set [] r = refl
both_set (tree.Newline ∷ s) r = both_set s r
both_set (tree.Comment t ∷ s) r = both_set s r
both_set (tree.Construct entries content ∷ s) r =
    ap (or_else (if is_enabled entries then indentation_in content else None)) (both_set s r)
    ∙ or_all (if is_enabled entries then indentation_in content else None) (indentation_of s) (indentation_of r)

own_printable : (is_first : Bool) (s : Shape) → printable s ≡ true → printable (own_items is_first s) ≡ true
own_printable true s h = h
own_printable false [] h = refl
own_printable false (i ∷ s) h = (and_parts (printable_item i) (printable s) h).1

own_set : (is_first : Bool) (s : Shape) → HasLineEnd is_first s → indentation_of (own_items is_first s) ≡ indentation_of s
own_set true s h = refl
own_set false s h = ap (λ x. indentation_of (drop 1 x)) h.1 ∙ sym (ap indentation_of h.1)

pub first_own : (s : Shape) (is_first : Bool) (n : ℕ) → is_first ≡ true → n ≡ 0 → drop n s ≡ own_items is_first s
first_own s is_first n h e = ap (λ k. drop k s) e ∙ ap (λ b. own_items b s) (sym h)

pub later_own : (s : Shape) (is_first : Bool) (n : ℕ) → is_first ≡ false → n ≡ 1 → drop n s ≡ own_items is_first s
later_own s is_first n h e = ap (λ k. drop k s) e ∙ ap (λ b. own_items b s) (sym h)

-- ---- the indentation

-- what a file sets
set_by_found : (found : Option (StringLiteral × Indentation)) (literal : Option Tok) (set : Option Indentation) → IfSome found MatchesLiteral
    → set ≡ option_map (λ p. p.1) found → literal ≡ option_map (λ p. literal_tok p.0) found → IsSetBy (option_map lexeme literal) set
set_by_found None literal set h s l = subst (λ o. IsSetBy (option_map lexeme o) set) (sym l) (subst (IsSetBy None) (sym s) tt)
set_by_found (Some p) literal set h s l =
    subst (λ o. IsSetBy (option_map lexeme o) set) (sym l) (subst (IsSetBy (Some (literal_tok p.0).lexeme)) (sym s) h)

pub set_by : (ast : Ast) (set : Option Indentation) → HasCookedIndentation ast → set ≡ option_map (λ p. p.1) (items_indentation ast.items.items)
    → indentation_of (tree_of ast) ≡ option_map (λ p. literal_tok p.0) (items_indentation ast.items.items) → IsSetBy (indentation_of (ast_shape ast)) set
set_by ast set h s l = subst (λ o. IsSetBy o set) (sym (indentation_shape (tree_of ast))) (set_by_found (items_indentation ast.items.items) (indentation_of (tree_of ast)) set h s l)

-- what all items set
set_more : (separator : Separator) (l m : Option (List ℕ)) (old set new : Option Indentation) → IsSetBy l old → IsSetBy m set → IsChosen old set separator new
    → IsSetBy (or_else l m) new
set_more separator None None None None new h k c = subst (IsSetBy None) (sym c) tt
set_more separator None None None (Some i) new h k c = absurd k
set_more separator None (Some x) None None new h k c = absurd k
set_more separator None (Some x) None (Some i) new h k c = subst (IsSetBy (Some x)) (sym c.0) k
set_more separator None m (Some i) set new h k c = absurd h
set_more separator (Some x) m None set new h k c = absurd h
set_more separator (Some x) m (Some i) set new h k c = subst (IsSetBy (Some x)) (sym c) h

-- ---- one more part

module _ (old new : Printer) (is_first : Bool) (shape : Shape) (line_end : HasLineEnd is_first shape) (prints : printable shape ≡ true) (set chosen : Option Indentation)
    (is_set : IsSetBy (indentation_of shape) set) (choice : IsChosen old.indentation set old.separator chosen) (same : new.indentation ≡ chosen)
    (text_is : string_bytes new.printed ≡ string_bytes old.printed ++ front_text (indentation_in_use chosen) old.separator (own_items is_first shape))
    (following : new.separator ≡ last_separator old.separator (own_items is_first shape)) (before : Shape) (h : HasPrinted before old) where
  abbrev own : Shape
  own = own_items is_first shape

  -- what was printed would be the same with the indentation in use now
  text_before : (o s n : Option Indentation) → IsChosen o s old.separator n → string_bytes old.printed ≡ front_text (indentation_in_use o) Start before
      → string_bytes old.printed ≡ front_text (indentation_in_use n) Start before
  text_before (Some i) s n c e = e ∙ ap (λ x. front_text (indentation_in_use x) Start before) (sym c)
  text_before None None n c e = e ∙ ap (λ x. front_text (indentation_in_use x) Start before) (sym c)
  text_before None (Some i) n c e =
      let none : before ≡ [] = at_start before (sym h.separator ∙ c.1) in
      e ∙ ap (front_text (indentation_in_use None) Start) none ∙ sym (ap (front_text (indentation_in_use n) Start) none)

  pub adds : HasPrinted (before ++ own) new
  adds = record {
    text =
        text_is
        ∙ (λ i. text_before old.indentation set chosen choice h.text i ++ front_text (indentation_in_use chosen) (h.separator i) own)
        ∙ sym (front-append (indentation_in_use chosen) Start before own)
        ∙ ap (λ x. front_text (indentation_in_use x) Start (before ++ own)) (sym same);
    separator = following ∙ ap (λ x. last_separator x own) h.separator ∙ sym (last_append Start before own);
    can_be_printed = both_printable before own h.can_be_printed (own_printable is_first shape prints);
    indented =
        subst (IsSetBy (indentation_of (before ++ own))) (sym same)
        (subst (λ o. IsSetBy o chosen) (sym (both_set before own ∙ ap (or_else (indentation_of before)) (own_set is_first shape line_end)))
        (set_more old.separator (indentation_of before) (indentation_of shape) old.indentation set chosen h.indented is_set choice));
  }

-- ---- the whole text

some_end : (s : Shape) (separator : Separator) → separator ≡ last_separator Start s → (separator ≡ Start → ⊥) → end_text s ≡ codes "\n"
some_end [] separator e n = absurd (n e)
some_end (i ∷ s) separator e n = refl

pub whole_text : (s : Shape) (printer : Printer) → HasPrinted s printer → (printer.separator ≡ Start → ⊥)
    → string_bytes printer.printed ++ codes "\n" ≡ text (normal s) (indentation_in_use printer.indentation)
whole_text s printer h n =
    (λ i. h.text i ++ sym (some_end s printer.separator h.separator n) i) ∙ normal_text (indentation_in_use printer.indentation) s

-- the indentation in use is that of the tree
pub indented_by : (literal : Option Tok) (set : Option Indentation) → IsSetBy (option_map lexeme literal) set → IsIndentedBy literal (indentation_in_use set)
indented_by None None h = refl
indented_by None (Some i) h = absurd h
indented_by (Some t) None h = absurd h
indented_by (Some t) (Some i) h = h
