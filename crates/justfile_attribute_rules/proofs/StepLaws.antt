-- Reading the keys of an `arg` attribute step by step gives the same as reading them from the whole list.
use Rattle.std.proofs.Common.{◌≡◌, ◌∙◌, ℕ, List, [], ◌∷◌, Bool, true, false, not, ◌&&◌, cond, codes, drop, Option, Some, None, Result, Ok, Err, refl, sym, ap, subst, true≢false}
use Rattle.std.specs.List.{list_all}
use Rattle.std.specs.Prelude.{string_bytes}
use Rattle.std.specs.Option.{is_some}
use Rattle.std.specs.Str.{bytes_eq}
use Rattle.std.proofs.lemmas.Slice.Eq.{bytes_eq-Decides}
use Rattle.justfile_token.specs.declared.token.Token.{Token}
use Rattle.justfile_token.specs.declared.fault.Fault.{Fault}
use Rattle.justfile_token.specs.declared.string_literal.StringLiteral.{StringLiteral}
use Rattle.justfile_model.specs.LiteralTexts.Literals.{string_of, token_of}
use Rattle.justfile_model.specs.Trees.LeafView.{or_empty}
use Rattle.justfile_model.specs.Meanings.Meaning.{is_key, text_of}
use Rattle.justfile_model.specs.Readers.NewAttribute as new
use Rattle.justfile_model.specs.Readers.NewAttribute.{◌>>=◌, Made, if_given, new_rules}
use Rattle.justfile_model.specs.Trees.Tree.{Bound, Expr, OptionName, Property, Quoted}
use Rattle.justfile_expression.specs.LeafViews.{leaf_cooked}
use Rattle.justfile_expression.specs.LeafTree.{Leaf, Literal, literal_of}
use Rattle.justfile_attribute_rules.specs.Keys.{views_keys, without}
use Rattle.justfile_attribute_rules.specs.Made.{Makes, quoted_leaf, bounds_checked}
use Rattle.justfile_attribute_rules.specs.Steps.{Key, Keys, Rules, at, bounds_of, help_of, named_only, names_of, rules_read, short_of, switches_of, values_of, with_long}

-- a text that is one key isn't another
apart : (word other : List ℕ) → bytes_eq word other ≡ false → (bytes : List ℕ) → bytes_eq bytes other ≡ true → bytes_eq bytes word ≡ false
apart word other e bytes h = go (bytes_eq bytes word) refl
  where
    go : (b : Bool) → bytes_eq bytes word ≡ b → bytes_eq bytes word ≡ false
    go false f = f
    go true f =
        let same : word ≡ other = sym ((bytes_eq-Decides bytes word).0 f) ∙ (bytes_eq-Decides bytes other).0 h in
        absurd (true≢false (sym ((bytes_eq-Decides word other).1 same) ∙ e))

-- a key is still found after another is taken
still : (word other : List ℕ) → bytes_eq word other ≡ false → (keys : Keys) → at word (without other keys) ≡ at word keys
still word other e [] = refl
still word other e (k ∷ keys) = go (is_key views_keys other k) refl (still word other e keys)
  where
    go : (b : Bool) → is_key views_keys other k ≡ b → at word (without other keys) ≡ at word keys
        → at word (cond b keys (k ∷ without other keys)) ≡ at word (k ∷ keys)
    go true h same = rw (apart word other e (views_keys.bytes k.key) h) refl
    go false h same = ap (λ o. cond (is_key views_keys word k) (Some k) o) same

-- the keys without those with these texts
abbrev pub without_all : List (List ℕ) → Keys → Keys
without_all [] keys = keys
without_all (word ∷ words) keys = without word (without_all words keys)

both : (a b : Bool) → (a && b) ≡ true → (a ≡ true) × (b ≡ true)
both true b e = (refl, e)
both false b e = absurd (true≢false (sym e))

is_not : (a : Bool) → not a ≡ true → a ≡ false
is_not true e = absurd (true≢false (sym e))
is_not false e = refl

pub still_all : (word : List ℕ) (others : List (List ℕ)) → list_all (λ other. not (bytes_eq word other)) others ≡ true → (keys : Keys)
    → at word (without_all others keys) ≡ at word keys
still_all word [] e keys = refl
still_all word (other ∷ others) e keys =
    let parts = both (not (bytes_eq word other)) (list_all (λ other. not (bytes_eq word other)) others) e in
    still word other (is_not (bytes_eq word other) parts.0) (without_all others keys) ∙ still_all word others parts.1 keys

-- one step, followed by others
one : {X R Z : Type 0} (made : Made Token X) (h : X → R) (g : R → Made Token Z) → ((made >>= (λ x. Ok (h x))) >>= g) ≡ (made >>= (λ x. g (h x)))
one (Err e) h g = refl
one (Ok x) h g = refl

-- two steps, followed by others
two : {X Y R Z : Type 0} (made : Made Token X) (f : X → Made Token Y) (h : X → Y → R) (g : R → Made Token Z)
    → ((made >>= (λ x. f x >>= (λ y. Ok (h x y)))) >>= g) ≡ (made >>= (λ x. f x >>= (λ y. g (h x y))))
two (Err e) f h g = refl
two {Y = Y} (Ok x) f h g = go (f x)
  where
    go : (m : Made Token Y) → ((m >>= (λ y. Ok (h x y))) >>= g) ≡ (m >>= (λ y. g (h x y)))
    go (Ok y) = refl
    go (Err e) = refl

-- two steps and a check, followed by others
checked : {X Y U R Z : Type 0} (made : Made Token X) (f : X → Made Token Y) (check : X → Y → Made Token U) (h : X → Y → R) (g : R → Made Token Z)
    → ((made >>= (λ x. f x >>= (λ y. check x y >>= (λ u. Ok (h x y))))) >>= g) ≡ (made >>= (λ x. f x >>= (λ y. check x y >>= (λ u. g (h x y)))))
checked (Err e) f check h g = refl
checked {Y = Y} {U = U} (Ok x) f check h g = go (f x)
  where
    last : (y : Y) (m : Made Token U) → ((m >>= (λ u. Ok (h x y))) >>= g) ≡ (m >>= (λ u. g (h x y)))
    last y (Ok u) = refl
    last y (Err e) = refl

    go : (m : Made Token Y) → ((m >>= (λ y. check x y >>= (λ u. Ok (h x y)))) >>= g) ≡ (m >>= (λ y. check x y >>= (λ u. g (h x y))))
    go (Ok y) = last y (check x y)
    go (Err e) = refl

module _ (name : Token) (argument : Quoted Leaf) (l s p v f m x n h : Option Key) where
  abbrev text : List ℕ
  text = text_of views_keys argument

  abbrev Name : Type 0
  Name = OptionName Leaf Token

  abbrev Part : Type 0
  Part = Option (Property Leaf Token)

  abbrev Value : Type 0
  Value = Option (Expr Leaf Token)

  abbrev named : (long short : Name) → Rules
  named long short = record (named_only argument) { long = long; short = short }

  abbrev valued : (long short : Name) → Part → Value → Rules
  valued long short pattern value = record (named long short) { pattern = pattern; value = value }

  abbrev switched : (long short : Name) → Part → Value → (flag multiple : Option Token) → Rules
  switched long short pattern value flag multiple = record (valued long short pattern value) { flag = flag; multiple = multiple }

  -- the steps that are left, each from the rules so far
  abbrev rest_3 : Rules → Made Token Rules
  rest_3 r =
      if_given (new.bound views_keys name text) x
      >>= (λ max. if_given (new.bound views_keys name text) n
      >>= (λ min. new.check_bounds views_keys name text min max
      >>= (λ bounds_checked. help_of name h (record r { min = min; max = max }))))

  abbrev rest_2 : Rules → Made Token Rules
  rest_2 r =
      if_given (new.flag views_keys name text r.long r.short (is_some r.value) (is_some r.pattern)) f
      >>= (λ flag. if_given (new.multiple views_keys name text r.long r.short) m
      >>= (λ multiple. rest_3 (record r { flag = flag; multiple = multiple })))

  abbrev rest_1 : Rules → Made Token Rules
  rest_1 r =
      if_given (new.property views_keys name) p
      >>= (λ pattern. if_given (new.option_value views_keys name text r.long r.short) v
      >>= (λ value. rest_2 (record r { pattern = pattern; value = value })))

  abbrev rest_0 : Made Token Rules
  rest_0 =
      new.option views_keys name text false l
      >>= (λ long. new.option views_keys name text true s
      >>= (λ short. rest_1 (named long short)))

  within_is : (min max : Option (Bound Token)) → bounds_checked min max ≡ new.check_bounds views_keys name text min max
  within_is None max = refl
  within_is (Some min) None = refl
  within_is (Some min) (Some max) = refl

  module _ (long short : Name) where
    module _ (pattern : Part) (value : Value) where
      step_3 : (flag multiple : Option Token) → let r = switched long short pattern value flag multiple in (bounds_of name x n r >>= help_of name h) ≡ rest_3 r
      step_3 flag multiple =
          let r = switched long short pattern value flag multiple in
          checked (if_given (new.bound views_keys name text) x) (λ max. if_given (new.bound views_keys name text) n)
          (λ max min. bounds_checked min max) (λ max min. record r { min = min; max = max }) (help_of name h)
          ∙ (λ i. if_given (new.bound views_keys name text) x
          >>= (λ max. if_given (new.bound views_keys name text) n
          >>= (λ min. within_is min max i >>= (λ u. help_of name h (record r { min = min; max = max })))))

      step_2 : let r = valued long short pattern value in (switches_of name f m r >>= (λ r3. bounds_of name x n r3 >>= help_of name h)) ≡ rest_2 r
      step_2 =
          let r = valued long short pattern value in
          two (if_given (new.flag views_keys name text long short (is_some value) (is_some pattern)) f)
          (λ flag. if_given (new.multiple views_keys name text long short) m) (λ flag multiple. record r { flag = flag; multiple = multiple })
          (λ r3. bounds_of name x n r3 >>= help_of name h)
          ∙ (λ i. if_given (new.flag views_keys name text long short (is_some value) (is_some pattern)) f
          >>= (λ flag. if_given (new.multiple views_keys name text long short) m >>= (λ multiple. step_3 flag multiple i)))

    step_1 : let r = named long short in
        (values_of name p v r >>= (λ r2. switches_of name f m r2 >>= (λ r3. bounds_of name x n r3 >>= help_of name h))) ≡ rest_1 r
    step_1 =
        let r = named long short in
        two (if_given (new.property views_keys name) p)
        (λ pattern. if_given (new.option_value views_keys name text long short) v) (λ pattern value. record r { pattern = pattern; value = value })
        (λ r2. switches_of name f m r2 >>= (λ r3. bounds_of name x n r3 >>= help_of name h))
        ∙ (λ i. if_given (new.property views_keys name) p
        >>= (λ pattern. if_given (new.option_value views_keys name text long short) v >>= (λ value. step_2 pattern value i)))

  -- all steps, on any keys
  abbrev steps : Made Token Rules
  steps =
      names_of name l s (named_only argument)
      >>= (λ r1. values_of name p v r1
      >>= (λ r2. switches_of name f m r2
      >>= (λ r3. bounds_of name x n r3
      >>= (λ r4. help_of name h r4))))

  step_0 : steps ≡ rest_0
  step_0 =
      ap (λ made. made >>= (λ r1. values_of name p v r1 >>= (λ r2. switches_of name f m r2 >>= (λ r3. bounds_of name x n r3 >>= help_of name h))))
      (one (new.option views_keys name text false l) (λ long. with_long long (named_only argument)) (short_of name s))
      ∙ two (new.option views_keys name text false l) (λ long. new.option views_keys name text true s) (λ long short. named long short)
      (λ r1. values_of name p v r1 >>= (λ r2. switches_of name f m r2 >>= (λ r3. bounds_of name x n r3 >>= help_of name h)))
      ∙ (λ i. new.option views_keys name text false l
      >>= (λ long. new.option views_keys name text true s >>= (λ short. step_1 long short i)))

abbrev words : List (List ℕ)
words =
    codes "min" ∷ codes "max" ∷ codes "multiple" ∷ codes "flag" ∷ codes "value" ∷ codes "pattern" ∷ codes "short" ∷ codes "long" ∷ []

pub rules_are : (name : Token) (argument : Quoted Leaf) (keys : Keys)
    → rules_read name keys (named_only argument) ≡ new_rules views_keys name (text_of views_keys argument) argument keys
rules_are name argument keys =
    (λ i. steps name argument
    (at (codes "long") keys)
    (still_all (codes "short") (drop 7 words) refl keys i)
    (still_all (codes "pattern") (drop 6 words) refl keys i)
    (still_all (codes "value") (drop 5 words) refl keys i)
    (still_all (codes "flag") (drop 4 words) refl keys i)
    (still_all (codes "multiple") (drop 3 words) refl keys i)
    (still_all (codes "max") (drop 2 words) refl keys i)
    (still_all (codes "min") (drop 1 words) refl keys i)
    (still_all (codes "help") words refl keys i))
    ∙ step_0 name argument (at (codes "long") keys) (at (codes "short") keys) (at (codes "pattern") keys) (at (codes "value") keys) (at (codes "flag") keys)
    (at (codes "multiple") keys) (at (codes "max") keys) (at (codes "min") keys) (at (codes "help") keys)

-- the text of a literal, marked `x` or not
text_is : (l : StringLiteral) → text_of views_keys (quoted_leaf l) ≡ string_bytes l.cooked
text_is l = go l.expand
  where
    go : (b : Bool) → or_empty (leaf_cooked (token_of (string_of b (Literal (literal_of l))))) ≡ string_bytes l.cooked
    go true = refl
    go false = refl

-- all steps, from the parameter's name alone
pub rules_are_of : (name : Token) (argument : StringLiteral) (keys : Keys) (r : Rules) → r ≡ named_only (quoted_leaf argument)
    → new_rules views_keys name (string_bytes argument.cooked) (quoted_leaf argument) keys ≡ rules_read name keys r
rules_are_of name argument keys r e =
    ap (λ t. new_rules views_keys name t (quoted_leaf argument) keys) (sym (text_is argument))
    ∙ sym (ap (rules_read name keys) e ∙ rules_are name (quoted_leaf argument) keys)

-- a result that agrees with the steps agrees with `new_rules`
pub makes_of : (name : Token) (argument : StringLiteral) (keys : Keys) (r : Rules) → r ≡ named_only (quoted_leaf argument) → {X : Type 0} (see : X → Rules)
    (result : Result X Fault) → Makes see result (rules_read name keys r)
    → Makes see result (new_rules views_keys name (string_bytes argument.cooked) (quoted_leaf argument) keys)
makes_of name argument keys r e see result h = subst (Makes see result) (sym (rules_are_of name argument keys r e)) h
