-- The printed text of an attribute, from the texts of its slots.
use Rattle.std.proofs.Common.{◌≡◌, ◌∙◌, ℕ, Bool, true, false, List, [], ◌∷◌, ◌++◌, map, Option, None, Some, codes, refl, sym, ap, append_assoc, append-nil, if◌then◌else◌}
use Rattle.std.proofs.lemmas.List.{map-append}
use Rattle.std.specs.List.{flat_map}
use Rattle.std.specs.Global.{Box}
use Rattle.std.specs.Option.{option_map}
use Rattle.justfile_vocabulary.specs.AttributeKind.{attribute_name}
use Rattle.justfile_vocabulary.specs.Signal.{signal_name}
use Rattle.justfile_token.specs.StringLiteral.{format_mark, literal_text}
use Rattle.justfile_token.specs.Token.{lexeme_of}
use Rattle.justfile_vocabulary.specs.declared.attribute_kind.AttributeKind.{AttributeKind}
use Rattle.justfile_vocabulary.specs.declared.attribute_kind.AttributeKind.TheVariants as kinds
use Rattle.justfile_token.specs.declared.name.Name.{Name}
use Rattle.justfile_vocabulary.specs.declared.signal.Signal.{Signal}
use Rattle.justfile_token.specs.declared.string_literal.StringLiteral.{StringLiteral}
use Rattle.justfile_token.specs.declared.token.Token.{Token}
use Rattle.justfile_model.specs.Trees.ContentKeys.{kind_of_attribute}
use Rattle.justfile_model.specs.Printed.Printing.{fixed_text, mark_text, argument_text, arguments_text, parenthesized_arguments, attribute_arguments, attribute_text, quoted_argument, signal_argument, option_argument, keyed_if, bare_if, number_literal}
use Rattle.justfile_model.specs.Lexing.Tok.{Tok, tok_of}
use Rattle.justfile_model.specs.Trees.Tree as tree
use Rattle.justfile_model.specs.Trees.Tree.{Argument, Expr, Quoted, lexeme, nothing, over_attribute, over_quoted, over_option, over_property, over_bound, over_expr}
use Rattle.justfile_expression.specs.Expression.{expr_of, literal_tok}
use Rattle.justfile_expression.specs.declared.expression.Expression.{Expression}
use Rattle.justfile_attribute.specs.Attribute.{attribute_of, attribute_shape, bound_by, option_by, property_by, quoted_by, script_by, single_by}
use Rattle.justfile_attribute.specs.Print.{Slots, value_text, with_value, slots, slots_text, literal_slot, signal_slot, option_slot, property_slot, value_slot, flag_slot, number_slot, single_slots, script_slots, cache_slots}
use Rattle.justfile_attribute.specs.declared.attribute.Attribute.{Attribute}
use Rattle.justfile_attribute.specs.declared.attribute.Attribute.TheVariants as attributes
use Rattle.justfile_attribute.specs.declared.interpreter.Interpreter.{Interpreter}
use Rattle.justfile_attribute.specs.declared.part.Value.{Value}
use Rattle.justfile_attribute.specs.declared.part.Value.TheVariants as values

-- a piece with the value after it
pub valued : (piece : List ℕ) (v : Value) → piece ++ value_text v ≡ with_value piece v
valued piece values.Nothing = append-nil piece
valued piece (values.Expression e) = refl
valued piece (values.Literal l) = refl
valued piece (values.Number n) = refl

-- ---- the texts of the slots, in parentheses

abbrev here : Option (List ℕ) → List (List ℕ)
here None = []
here (Some text) = text ∷ []

abbrev present : Slots → List (List ℕ)
present = flat_map here

abbrev others : List (List ℕ) → List ℕ
others = flat_map (λ text. codes ", " ++ text)

abbrev in_parentheses : List (List ℕ) → List ℕ
in_parentheses [] = []
in_parentheses (text ∷ texts) = (codes "(" ++ (text ++ others texts)) ++ codes ")"

other_slots : (xs : Slots) → slots_text true xs ≡ others (present xs) ++ codes ")"
unfolding fixed_text
other_slots [] = refl
other_slots (None ∷ xs) = other_slots xs
other_slots (Some text ∷ xs) = ap (λ t. (codes ", " ++ text) ++ t) (other_slots xs) ∙ sym (append_assoc (codes ", " ++ text) (others (present xs)) (codes ")"))

first_of : (o t r c : List ℕ) → (o ++ t) ++ (r ++ c) ≡ (o ++ (t ++ r)) ++ c
first_of o t r c = simp append_assoc

all_slots : (xs : Slots) → slots_text false xs ≡ in_parentheses (present xs)
unfolding fixed_text
all_slots [] = refl
all_slots (None ∷ xs) = all_slots xs
all_slots (Some text ∷ xs) = ap (λ t. (codes "(" ++ text) ++ t) (other_slots xs) ∙ first_of (codes "(") text (others (present xs)) (codes ")")

next_argument : (a c b r : List ℕ) → (a ++ c) ++ (b ++ r) ≡ a ++ ((c ++ b) ++ r)
next_argument a c b r = simp append_assoc

arguments_are : (a : Argument (List ℕ) (Unit {0})) (more : List (Argument (List ℕ) (Unit {0}))) → arguments_text (a ∷ more) ≡ argument_text a ++ others (map argument_text more)
unfolding fixed_text
arguments_are a [] = sym (append-nil (argument_text a))
arguments_are a (b ∷ more) =
    ap (λ t. (argument_text a ++ codes ", ") ++ t) (arguments_are b more) ∙ next_argument (argument_text a) (codes ", ") (argument_text b) (others (map argument_text more))

parenthesized_are : (more : List (Argument (List ℕ) (Unit {0}))) → parenthesized_arguments more ≡ in_parentheses (map argument_text more)
unfolding fixed_text
parenthesized_are [] = refl
parenthesized_are (a ∷ more) = ap (λ t. (codes "(" ++ t) ++ codes ")") (arguments_are a more)

-- ---- the slots of an attribute, one after another

marked : (expand : Bool) (m l : List ℕ) → mark_text expand ++ (m ++ l) ≡ ((if expand then codes "x" else []) ++ m) ++ l
unfolding fixed_text
marked true m l = refl
marked false m l = refl

-- the shape of a literal
abbrev quoted_shape : StringLiteral → Quoted (List ℕ)
quoted_shape l = over_quoted {B = Tok} lexeme nothing (quoted_by expr_of literal_tok tok_of l)

literal_is : (l : StringLiteral) → argument_text (quoted_argument (quoted_shape l)) ≡ literal_text l
literal_is l = marked l.expand (format_mark l) (lexeme_of l.token)

literals_are : (ls : List StringLiteral)
    → map argument_text (map quoted_argument (map (over_quoted {B = Tok} lexeme nothing) (map (quoted_by expr_of literal_tok tok_of) ls))) ≡ present (map literal_slot ls)
literals_are [] = refl
literals_are (l ∷ ls) = λ i. literal_is l i ∷ literals_are ls i

signals_are : (ss : List Signal) → map argument_text (map signal_argument ss) ≡ present (map signal_slot ss)
unfolding fixed_text
signals_are [] = refl
signals_are (s ∷ ss) = ap (λ t. (codes "\"" ++ signal_name s ++ codes "\"") ∷ t) (signals_are ss)

option_is : (word : List ℕ) (key : Option Name) (literal : Option StringLiteral)
    → map argument_text (option_argument word (over_option lexeme nothing (option_by expr_of literal_tok tok_of key literal))) ≡ here (option_slot word (word ++ codes "=") key literal)
unfolding fixed_text
option_is word (Some key) literal = refl
option_is word None (Some literal) = ap (λ t. ((word ++ codes "=") ++ t) ∷ []) (literal_is literal)
option_is word None None = refl

property_is : (word : List ℕ) (p : Option (Name × Box Expression))
    → map argument_text (keyed_if word (λ q. q.value) (option_map (over_property lexeme nothing) (option_map (property_by expr_of literal_tok tok_of) p))) ≡ here (property_slot (word ++ codes "=") p)
unfolding fixed_text
property_is word None = refl
property_is word (Some p) = refl

value_is : (word : List ℕ) (e : Option (Box Expression))
    → map argument_text (keyed_if word (λ x. x) (option_map (over_expr lexeme nothing) (option_map (λ (b : Box Expression). expr_of b.value) e))) ≡ here (value_slot (word ++ codes "=") e)
unfolding fixed_text
value_is word None = refl
value_is word (Some e) = refl

flag_is : (word : List ℕ) (t : Option Token) → map argument_text (bare_if word (option_map nothing (option_map tok_of t))) ≡ here (flag_slot word t)
unfolding fixed_text
flag_is word None = refl
flag_is word (Some t) = refl

number_is : (word : List ℕ) (name : StringLiteral) (key : Option Name) (n : Option ℕ)
    → map argument_text (keyed_if word (λ b. number_literal b.number) (option_map (over_bound lexeme nothing) (bound_by expr_of literal_tok tok_of name key n))) ≡ here (number_slot (word ++ codes "=") n)
unfolding fixed_text
number_is word name key None = refl
number_is word name None (Some n) = refl
number_is word name (Some key) (Some n) = refl

-- several parts, one after another
module _ {X : Type 0} (f : X → List ℕ) where
  three : (a b c : List X) → map f (a ++ b ++ c) ≡ map f a ++ (map f b ++ (map f c ++ []))
  three a b c = simp (map-append, append_assoc, append-nil)

  nine : (a b c d e g h i j : List X)
      → map f (a ++ b ++ c ++ d ++ e ++ g ++ h ++ i ++ j) ≡ map f a ++ (map f b ++ (map f c ++ (map f d ++ (map f e ++ (map f g ++ (map f h ++ (map f i ++ (map f j ++ []))))))))
  nine a b c d e g h i j = simp (map-append, append_assoc, append-nil)

single_is : (kind : AttributeKind) (e : Option (Box Expression))
    → map argument_text (attribute_arguments (over_attribute lexeme nothing (single_by expr_of literal_tok tok_of kind e))) ≡ present (single_slots e)
single_is kind None = refl
single_is kind (Some e) = refl

script_is : (i : Option (Interpreter StringLiteral))
    → map argument_text (attribute_arguments (over_attribute lexeme nothing (script_by expr_of literal_tok tok_of i))) ≡ present (script_slots i)
script_is None = refl
script_is (Some i) = literals_are (i.command ∷ i.arguments.items)

cache_is : (extra inputs outputs : Option (Box Expression))
    → map argument_text (attribute_arguments (attribute_shape (attributes.Cache extra inputs outputs))) ≡ present (cache_slots extra inputs outputs)
cache_is extra inputs outputs =
    let shape : Option (Box Expression) → Option (Expr (List ℕ) (Unit {0})) = λ e. option_map (over_expr lexeme nothing) (option_map (λ (b : Box Expression). expr_of b.value) e) in
    three argument_text (keyed_if (codes "extra") (λ e. e) (shape extra)) (keyed_if (codes "inputs") (λ e. e) (shape inputs)) (keyed_if (codes "outputs") (λ e. e) (shape outputs))
    ∙ (λ i. value_is (codes "extra") extra i ++ (value_is (codes "inputs") inputs i ++ (value_is (codes "outputs") outputs i ++ [])))

-- the texts of the arguments are those of the slots that aren't empty
texts_are : (a : Attribute) → map argument_text (attribute_arguments (attribute_shape a)) ≡ present (slots a)
texts_are (attributes.Arg flag help property long long_key max max_key min min_key multiple name pattern short short_key value) =
    let option_shape = λ (key : Option Name) (l : Option StringLiteral). over_option {A = Tok} lexeme nothing (option_by expr_of literal_tok tok_of key l) in
    let property_shape = λ (p : Option (Name × Box Expression)). option_map (over_property lexeme nothing) (option_map (property_by expr_of literal_tok tok_of) p) in
    let bound_shape = λ (key : Option Name) (n : Option ℕ). option_map (over_bound {A = Tok} lexeme nothing) (bound_by expr_of literal_tok tok_of name key n) in
    let flag_shape : Option Token → Option (Unit {0}) = λ t. option_map nothing (option_map tok_of t) in
    (λ i. literal_is name i ∷ nine argument_text (option_argument (codes "long") (option_shape long_key long)) (option_argument (codes "short") (option_shape short_key short))
    (keyed_if (codes "pattern") (λ p. p.value) (property_shape pattern)) (keyed_if (codes "value") (λ e. e) (option_map (over_expr lexeme nothing) (option_map (λ (b : Box Expression). expr_of b.value) value)))
    (bare_if (codes "flag") (flag_shape flag)) (bare_if (codes "multiple") (flag_shape multiple))
    (keyed_if (codes "min") (λ b. number_literal b.number) (bound_shape min_key min)) (keyed_if (codes "max") (λ b. number_literal b.number) (bound_shape max_key max))
    (keyed_if (codes "help") (λ p. p.value) (property_shape property)) i)
    ∙ (λ i. literal_text name ∷ (option_is (codes "long") long_key long i ++ (option_is (codes "short") short_key short i
    ++ (property_is (codes "pattern") pattern i ++ (value_is (codes "value") value i
    ++ (flag_is (codes "flag") flag i ++ (flag_is (codes "multiple") multiple i
    ++ (number_is (codes "min") name min_key min i ++ (number_is (codes "max") name max_key max i
    ++ (property_is (codes "help") property i ++ []))))))))))
texts_are (attributes.Cache extra inputs outputs) = cache_is extra inputs outputs
texts_are (attributes.Confirm value) = single_is kinds.Confirm value
texts_are (attributes.Continue signals) = signals_are signals.keys
texts_are (attributes.Doc value) = single_is kinds.Doc value
texts_are (attributes.Env key value) = refl
texts_are (attributes.Extension literal) = literals_are (literal ∷ [])
texts_are (attributes.Group literal) = literals_are (literal ∷ [])
texts_are (attributes.Metadata literals) = literals_are literals.items
texts_are (attributes.Script interpreter) = script_is interpreter
texts_are (attributes.Timestamp value) = single_is kinds.Timestamp value
texts_are (attributes.WorkingDirectory value) = refl
texts_are _ = refl

kind_shape : (a : tree.Attribute Tok Tok) → kind_of_attribute a ≡ kind_of_attribute (over_attribute lexeme nothing a)
kind_shape (tree.Plain kind) = refl
kind_shape (tree.Single kind value) = refl
kind_shape (tree.Texts kind texts) = refl
kind_shape (tree.Env key value) = refl
kind_shape (tree.Signals signals) = refl
kind_shape (tree.Cache extra inputs outputs) = refl
kind_shape (tree.Arg rules) = refl

-- the text of an attribute is its name and the text of its slots
pub text_is : (a : Attribute) → attribute_name (kind_of_attribute (attribute_of a)) ++ slots_text false (slots a) ≡ attribute_text (attribute_shape a)
unfolding fixed_text
text_is a =
    let arguments : slots_text false (slots a) ≡ parenthesized_arguments (attribute_arguments (attribute_shape a)) =
    all_slots (slots a) ∙ ap in_parentheses (sym (texts_are a)) ∙ sym (parenthesized_are (attribute_arguments (attribute_shape a))) in
    λ i. attribute_name (kind_shape (attribute_of a) i) ++ arguments i
