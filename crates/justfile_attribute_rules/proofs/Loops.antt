-- Loops over a list that make one value of each element.
use Rattle.std.proofs.Common.{◌≡◌, ◌∙◌, List, [], ◌∷◌, ◌++◌, Bool, true, false, ◌||◌, Ok, Err, refl, sym, ap}
use Rattle.std.specs.BTreeSet.{insert_key}
use Rattle.std.specs.Global.{Box}
use Rattle.std.specs.List.{filter, list_any}
use Rattle.std.proofs.lemmas.List.{append_assoc}
use denote.Enum.Bare.{sameb}
use Rattle.justfile_vocabulary.specs.Signal.{signals}
use Rattle.justfile_vocabulary.specs.contracts.signal.Signal as signal_type
use Rattle.justfile_vocabulary.specs.contracts.signal.SignalOrd.TheImpl as signal_order
use Rattle.justfile_vocabulary.specs.declared.signal.Signal.{Signal}
use Rattle.justfile_vocabulary.specs.declared.signal.Signal.TheVariants.{Hangup, Interrupt, Quit}
use Rattle.justfile_token.specs.declared.string_literal.StringLiteral.{StringLiteral}
use Rattle.justfile_token.specs.declared.token.Token.{Token}
use Rattle.justfile_model.specs.Meanings.Meaning.{signal_set}
use Rattle.justfile_model.specs.Readers.NewAttribute.{◌>>=◌, Made, make_all, placed_literal}
use Rattle.justfile_model.specs.Trees.Tree.{Quoted}
use Rattle.justfile_attribute_rules.specs.Keys.{views_keys}
use Rattle.justfile_expression.specs.LeafTree.{Leaf}
use Rattle.justfile_expression.specs.declared.expression.Expression.{Expression}
use Rattle.justfile_attribute_rules.specs.Made.{quoted_leaf, quoted_leaves, positional_leaf, positional_leaves, signal_made, signals_made}

module _ {X Y : Type 0} (f : X → Made Token Y) where
  -- the result for the whole list, from the values made so far and the elements that are left
  abbrev pub goes_on : (made : List Y) → (rest : List X) → Made Token (List Y)
  goes_on made rest = make_all f rest >>= (λ ys. Ok (made ++ ys))

  pub started : (xs : List X) → make_all f xs ≡ goes_on [] xs
  started xs = go (make_all f xs)
    where
      go : (m : Made Token (List Y)) → m ≡ (m >>= (λ ys. Ok ys))
      go (Ok ys) = refl
      go (Err e) = refl

  pub one_made : (made : List Y) (x : X) (rest : List X) (y : Y) → f x ≡ Ok y → goes_on made (x ∷ rest) ≡ goes_on (made ++ y ∷ []) rest
  one_made made x rest y e = rw e (go (make_all f rest))
    where
      go : (m : Made Token (List Y)) → ((m >>= (λ ys. Ok (y ∷ ys))) >>= (λ ys. Ok (made ++ ys))) ≡ (m >>= (λ ys. Ok ((made ++ y ∷ []) ++ ys)))
      go (Ok ys) = ap Ok (sym (append_assoc made (y ∷ []) ys))
      go (Err e) = refl

-- ---- literals

one_last : (made : List StringLiteral) (l : StringLiteral) → quoted_leaves (made ++ l ∷ []) ≡ quoted_leaves made ++ quoted_leaf l ∷ []
one_last [] l = refl
one_last (x ∷ xs) l = ap (λ qs. quoted_leaf x ∷ qs) (one_last xs l)

-- the next argument is a literal
pub literal_turn : (at : Token) (made : List StringLiteral) (l : StringLiteral) (rest others : List (Token × Box Expression)) (p : Token × Box Expression) → rest ≡ p ∷ others
    → placed_literal views_keys at (positional_leaf p) ≡ Ok (quoted_leaf l)
    → goes_on (placed_literal views_keys at) (quoted_leaves made) (positional_leaves rest)
    ≡ goes_on (placed_literal views_keys at) (quoted_leaves (made ++ l ∷ [])) (positional_leaves others)
literal_turn at made l rest others p e is_literal =
    ap (λ xs. goes_on (placed_literal views_keys at) (quoted_leaves made) (positional_leaves xs)) e
    ∙ one_made (placed_literal views_keys at) (quoted_leaves made) (positional_leaf p) (positional_leaves others) (quoted_leaf l) is_literal
    ∙ ap (λ qs. goes_on (placed_literal views_keys at) qs (positional_leaves others)) (sym (one_last made l))

-- ---- sets of signals

abbrev added : List Signal → Signal → List Signal
added = insert_key signal_order.cmp-value.it

-- the keys of a set after these are added
abbrev pub added_all : (keys given : List Signal) → List Signal
added_all keys [] = keys
added_all keys (s ∷ ss) = added_all (added keys s) ss

abbrev by : (hangup interrupt quit : Bool) → Signal → Bool
by h i q Hangup = h
by h i q Interrupt = i
by h i q Quit = q

-- the signals of these three that are set, in declared order
abbrev set_of : (hangup interrupt quit : Bool) → List Signal
set_of h i q = filter (by h i q) signals

abbrev one : Signal → Signal → Bool
one s t = sameb signal_type.the_type s t

one_more : (h i q : Bool) (s : Signal) → added (set_of h i q) s ≡ set_of (one Hangup s || h) (one Interrupt s || i) (one Quit s || q)
one_more true true true Hangup = refl
one_more true true false Hangup = refl
one_more true false true Hangup = refl
one_more true false false Hangup = refl
one_more false true true Hangup = refl
one_more false true false Hangup = refl
one_more false false true Hangup = refl
one_more false false false Hangup = refl
one_more true true true Interrupt = refl
one_more true true false Interrupt = refl
one_more true false true Interrupt = refl
one_more true false false Interrupt = refl
one_more false true true Interrupt = refl
one_more false true false Interrupt = refl
one_more false false true Interrupt = refl
one_more false false false Interrupt = refl
one_more true true true Quit = refl
one_more true true false Quit = refl
one_more true false true Quit = refl
one_more true false false Quit = refl
one_more false true true Quit = refl
one_more false true false Quit = refl
one_more false false true Quit = refl
one_more false false false Quit = refl

abbrev among : List Signal → Signal → Bool
among given s = list_any (one s) given

or_false : (a : Bool) → a ≡ (a || false)
or_false true = refl
or_false false = refl

set_grows : (h i q : Bool) (given : List Signal)
    → added_all (set_of h i q) given ≡ set_of (among given Hangup || h) (among given Interrupt || i) (among given Quit || q)
set_grows h i q [] = refl
set_grows h i q (s ∷ ss) =
    ap (λ keys. added_all keys ss) (one_more h i q s)
    ∙ set_grows (one Hangup s || h) (one Interrupt s || i) (one Quit s || q) ss
    ∙ (λ k. set_of (moved Hangup h k) (moved Interrupt i k) (moved Quit q k))
  where
    moved : (t : Signal) (b : Bool) → (among ss t || (one t s || b)) ≡ ((one t s || among ss t) || b)
    moved t b = go (among ss t) (one t s)
      where
        go : (x y : Bool) → (x || (y || b)) ≡ ((y || x) || b)
        go true true = refl
        go true false = refl
        go false true = refl
        go false false = refl

-- the set of all given signals
pub set_is : (given : List Signal) → added_all [] given ≡ signal_set given
set_is given =
    set_grows false false false given
    ∙ sym (λ k. set_of (or_false (among given Hangup) k) (or_false (among given Interrupt) k) (or_false (among given Quit) k))

-- the result for literals, from the keys of a set and the literals that are left
abbrev pub adds_up : (keys : List Signal) (rest : List (Quoted Leaf)) → Made Token (List Signal)
adds_up keys rest = make_all signal_made rest >>= (λ given. Ok (added_all keys given))

pub set_started : (texts : List (Quoted Leaf)) → signals_made texts ≡ adds_up [] texts
set_started texts = λ k. make_all signal_made texts >>= (λ given. Ok (sym (set_is given) k))

set_more : (keys : List Signal) (q : Quoted Leaf) (rest : List (Quoted Leaf)) (s : Signal) → signal_made q ≡ Ok s
    → adds_up keys (q ∷ rest) ≡ adds_up (added keys s) rest
set_more keys q rest s e = rw e (go (make_all signal_made rest))
  where
    go : (m : Made Token (List Signal)) → ((m >>= (λ given. Ok (s ∷ given))) >>= (λ given. Ok (added_all keys given))) ≡ (m >>= (λ given. Ok (added_all (added keys s) given)))
    go (Ok given) = refl
    go (Err b) = refl

-- the next literal names a signal
pub set_turn : (keys : List Signal) (rest others : List StringLiteral) (x : StringLiteral) (s : Signal) → rest ≡ x ∷ others
    → signal_made (quoted_leaf x) ≡ Ok s → adds_up keys (quoted_leaves rest) ≡ adds_up (added keys s) (quoted_leaves others)
set_turn keys rest others x s e f = ap (λ xs. adds_up keys (quoted_leaves xs)) e ∙ set_more keys (quoted_leaf x) (quoted_leaves others) s f
