-- Printing from left to right gives the text of the normal shape.
use Rattle.std.proofs.Common.{◌≡◌, ℕ, true, false, ◌+◌, ◌<◌, List, [], ◌∷◌, ◌++◌, length, take, drop, get_or, map, codes, refl, sym, ap, ◌∙◌, subst, append_assoc, append-nil}
use Rattle.std.proofs.lemmas.List.{take_more, map-append, take-append-drop}
use Rattle.justfile_model.specs.Trees.Tree as tree
use Rattle.justfile_model.specs.Trees.Tree.{Shape}
use Rattle.justfile_model.specs.Printed.NormalShape.{after_newline, normal_rest, normal}
use Rattle.justfile_model.specs.Printed.Printing.{fixed_text, item_text, item_end, text}
use Rattle.justfile_ast.specs.declared.separator.Separator.{Separator}
use Rattle.justfile_ast.specs.declared.separator.Separator.TheVariants.{Start, Item, Line, Blank}
use Rattle.justfile_ast.specs.Separator.{ItemShape, separator_text, is_line_end, next_separator, step_text, front_text, last_separator, end_text, with_line_end}

-- a line end changes the separator and writes nothing
pub separator_at_end : (separator : Separator) (i : ItemShape) → is_line_end i ≡ true → with_line_end separator ≡ next_separator separator i
separator_at_end separator tree.Newline e = refl
separator_at_end separator (tree.Comment t) e = absurd cc
separator_at_end separator (tree.Construct d c) e = absurd cc

pub text_at_end : (indentation : List ℕ) (separator : Separator) (i : ItemShape) → is_line_end i ≡ true → [] ≡ step_text indentation separator i
text_at_end indentation separator tree.Newline e = refl
text_at_end indentation separator (tree.Comment t) e = absurd cc
text_at_end indentation separator (tree.Construct d c) e = absurd cc

-- another item is written after the separator
pub separator_past : (separator : Separator) (i : ItemShape) → is_line_end i ≡ false → Item ≡ next_separator separator i
separator_past separator tree.Newline e = absurd cc
separator_past separator (tree.Comment t) e = refl
separator_past separator (tree.Construct d c) e = refl

pub text_past : (indentation : List ℕ) (separator : Separator) (i : ItemShape) → is_line_end i ≡ false → separator_text separator ++ item_text i indentation ≡ step_text indentation separator i
text_past indentation separator tree.Newline e = absurd cc
text_past indentation separator (tree.Comment t) e = refl
text_past indentation separator (tree.Construct d c) e = refl

thrice : (s : Shape) → after_newline (after_newline (after_newline s)) ≡ after_newline (after_newline s)
thrice [] = refl
thrice (tree.Newline ∷ []) = refl
thrice (tree.Newline ∷ tree.Newline ∷ s) = refl
thrice (tree.Newline ∷ tree.Comment t ∷ s) = refl
thrice (tree.Newline ∷ tree.Construct d c ∷ s) = refl
thrice (tree.Comment t ∷ s) = refl
thrice (tree.Construct d c ∷ s) = refl

-- an item other than a line end
abbrev Standing : ItemShape → Type 0
Standing tree.Newline = ⊥
Standing _ = Unit {0}

-- nothing is printed between such an item and a line end
after_standing : (i : ItemShape) → Standing i → (s : Shape) → item_end i (tree.Newline ∷ s) ≡ []
after_standing (tree.Comment t) h s = refl
after_standing (tree.Construct d c) h s = refl
after_standing tree.Newline h s = absurd h

newline_first : (s : Shape) → (r : Shape) × (after_newline s ≡ tree.Newline ∷ r)
newline_first [] = ([], refl)
newline_first (tree.Newline ∷ []) = ([], refl)
newline_first (tree.Newline ∷ tree.Newline ∷ s) = (tree.Newline ∷ s, refl)
newline_first (tree.Newline ∷ tree.Comment t ∷ s) = (tree.Newline ∷ tree.Comment t ∷ s, refl)
newline_first (tree.Newline ∷ tree.Construct d c ∷ s) = (tree.Newline ∷ tree.Construct d c ∷ s, refl)
newline_first (tree.Comment t ∷ s) = (tree.Comment t ∷ s, refl)
newline_first (tree.Construct d c ∷ s) = (tree.Construct d c ∷ s, refl)

nothing_before : (i : ItemShape) → Standing i → (s : Shape) → item_end i (after_newline s) ≡ []
nothing_before i h s = let first = newline_first s in ap (item_end i) first.1 ∙ after_standing i h first.0

before_standing : (j i : ItemShape) (s : Shape) → Standing j → Standing i → item_end j (i ∷ s) ≡ codes " "
unfolding fixed_text
before_standing (tree.Comment t) (tree.Comment u) s h g = refl
before_standing (tree.Comment t) (tree.Construct d c) s h g = refl
before_standing (tree.Construct d c) (tree.Comment t) s h g = refl
before_standing (tree.Construct d c) (tree.Construct e b) s h g = refl
before_standing tree.Newline i s h g = absurd h
before_standing j tree.Newline s h g = absurd g

spread : (g x f : List ℕ) → g ++ (x ++ (f ++ codes "\n")) ≡ ((g ++ x) ++ f) ++ codes "\n"
spread g x f = simp append_assoc

module _ (indentation : List ℕ) where
  -- the text of items from a separator to the end of the file
  abbrev tail_text : Separator → Shape → List ℕ
  tail_text separator items = front_text indentation separator items ++ codes "\n"

  -- the text of the normal rest of a file after each separator: at the start, and after an item with no, one or two line ends
  record Tails (s : Shape) : Type 0 where
    start : text (normal_rest s) indentation ≡ tail_text Start s
    following : (i : ItemShape) → Standing i → item_end i (normal_rest s) ++ text (normal_rest s) indentation ≡ tail_text Item s
    line : text (after_newline (normal_rest s)) indentation ≡ tail_text Line s
    blank : text (after_newline (after_newline (normal_rest s))) indentation ≡ tail_text Blank s

  standing_text : (i : ItemShape) (s : Shape) → Standing i → Tails s → text (i ∷ normal_rest s) indentation ≡ item_text i indentation ++ tail_text Item s
  standing_text i s h t = append_assoc (item_text i indentation) _ _ ∙ ap (λ l. item_text i indentation ++ l) (t.following i h)

  -- the text of a file from a separator on, if an item that isn't a line end is next
  abbrev from : Separator → ItemShape → Shape → List ℕ
  from separator i s = ((separator_text separator ++ item_text i indentation) ++ front_text indentation Item s) ++ codes "\n"

  record Stands (i : ItemShape) (s : Shape) : Type 0 where
    start : text (i ∷ normal_rest s) indentation ≡ from Start i s
    following : (j : ItemShape) → Standing j → item_end j (i ∷ normal_rest s) ++ text (i ∷ normal_rest s) indentation ≡ from Item i s
    line : text (tree.Newline ∷ i ∷ normal_rest s) indentation ≡ from Line i s
    blank : text (tree.Newline ∷ tree.Newline ∷ i ∷ normal_rest s) indentation ≡ from Blank i s

  stands : (i : ItemShape) (s : Shape) → Standing i → Tails s → Stands i s
  unfolding fixed_text
  stands i s h t =
      let x = item_text i indentation in
      let f = front_text indentation Item s in
      let e : text (i ∷ normal_rest s) indentation ≡ x ++ (f ++ codes "\n") = standing_text i s h t in
      record {
        start = e ∙ spread [] x f;
        following = λ j g. ap (λ l. l ++ text (i ∷ normal_rest s) indentation) (before_standing j i (normal_rest s) g h) ∙ ap (λ l. codes " " ++ l) e ∙ spread (codes " ") x f;
        line = ap (λ l. codes "\n" ++ l) e ∙ spread (codes "\n") x f;
        blank = ap (λ l. codes "\n\n" ++ l) e ∙ spread (codes "\n\n") x f;
      }

  tails : (s : Shape) → Tails s
  unfolding fixed_text
  tails [] = record { start = refl; following = λ i h. ap (λ l. l ++ codes "\n") (after_standing i h []); line = refl; blank = refl }
  tails (tree.Newline ∷ s) = let t = tails s in record {
    start = t.line;
    following = λ i h. ap (λ l. l ++ text (after_newline (normal_rest s)) indentation) (nothing_before i h (normal_rest s)) ∙ t.line;
    line = t.blank;
    blank = ap (λ l. text l indentation) (thrice (normal_rest s)) ∙ t.blank;
  }
  tails (tree.Comment c ∷ s) = let t = stands (tree.Comment c) s tt (tails s) in record { start = t.start; following = t.following; line = t.line; blank = t.blank }
  tails (tree.Construct d c ∷ s) = let t = stands (tree.Construct d c) s tt (tails s) in record { start = t.start; following = t.following; line = t.line; blank = t.blank }

  -- the text of the normal shape, from left to right
  pub normal_text : (s : Shape) → front_text indentation Start s ++ end_text s ≡ text (normal s) indentation
  normal_text [] = refl
  normal_text (i ∷ s) = sym (tails (i ∷ s)).start

  front-snoc : (separator : Separator) (s : Shape) (i : ItemShape) → front_text indentation separator (s ++ i ∷ []) ≡ front_text indentation separator s ++ step_text indentation (last_separator separator s) i
  front-snoc separator [] i = append-nil (step_text indentation separator i)
  front-snoc separator (j ∷ s) i = ap (λ l. step_text indentation separator j ++ l) (front-snoc (next_separator separator j) s i) ∙ sym (append_assoc (step_text indentation separator j) _ _)

  pub front-append : (separator : Separator) (s r : Shape) → front_text indentation separator (s ++ r) ≡ front_text indentation separator s ++ front_text indentation (last_separator separator s) r
  front-append separator [] r = refl
  front-append separator (j ∷ s) r = ap (λ l. step_text indentation separator j ++ l) (front-append (next_separator separator j) s r) ∙ sym (append_assoc (step_text indentation separator j) _ _)

last_separator-snoc : (separator : Separator) (s : Shape) (i : ItemShape) → last_separator separator (s ++ i ∷ []) ≡ next_separator (last_separator separator s) i
last_separator-snoc separator [] i = refl
last_separator-snoc separator (j ∷ s) i = last_separator-snoc (next_separator separator j) s i

-- the items before an index, by their shapes, and one more
module _ (indentation : List ℕ) (begin : Separator) {X : Type 0} (v : X → ItemShape) (xs : List X) (i : ℕ) (x : X) (h : i < length xs) (e : x ≡ get_or xs i x) where
  more_items : map v (take (i + 1) xs) ≡ map v (take i xs) ++ v x ∷ []
  more_items = ap (map v) (take_more xs i x h ∙ ap (λ y. take i xs ++ y ∷ []) (sym e)) ∙ map-append v (take i xs) (x ∷ [])

  -- the text printed for the first `n` items
  abbrev front : ℕ → List ℕ
  front n = front_text indentation begin (map v (take n xs))

  abbrev separator_at : ℕ → Separator
  separator_at n = last_separator begin (map v (take n xs))

  next_separator_is : separator_at (i + 1) ≡ next_separator (separator_at i) (v x)
  next_separator_is = ap (last_separator begin) more_items ∙ last_separator-snoc begin (map v (take i xs)) (v x)

  next_text_is : front i ++ step_text indentation (separator_at i) (v x) ≡ front (i + 1)
  next_text_is = sym (ap (front_text indentation begin) more_items ∙ front-snoc indentation begin (map v (take i xs)) (v x))

  -- that text, followed by the text of the rest, is the whole text
  whole_text_is : front (i + 1) ++ front_text indentation (separator_at (i + 1)) (map v (drop (i + 1) xs)) ≡ front_text indentation begin (map v xs)
  whole_text_is =
      sym (front-append indentation begin (map v (take (i + 1) xs)) (map v (drop (i + 1) xs)))
      ∙ ap (front_text indentation begin) (sym (map-append v (take (i + 1) xs) (drop (i + 1) xs)) ∙ ap (map v) (take-append-drop (i + 1) xs))

  -- what a sink has written of the next item, or where it failed
  module _ {S : Type 0} (took failed : S → List ℕ → S → Type 0)
      (more : (a b c : S) (xs ys : List ℕ) → took a xs b → took b ys c → took a (xs ++ ys) c)
      (later : (a b c : S) (xs ys : List ℕ) → took a xs b → failed b ys c → failed a (xs ++ ys) c)
      (before : (a b : S) (xs ys : List ℕ) → failed a xs b → failed a (xs ++ ys) b)
      (separator : Separator) (at : separator ≡ separator_at i) where
    step_is : front i ++ step_text indentation separator (v x) ≡ front (i + 1)
    step_is = ap (λ (y : Separator). front i ++ step_text indentation y (v x)) at ∙ next_text_is

    pub took_next : (a b c : S) → took a (front i) b → took b (step_text indentation separator (v x)) c → took a (front (i + 1)) c
    took_next a b c p q = subst (λ (t : List ℕ). took a t c) step_is (more a b c _ _ p q)

    pub failed_next : (a b c : S) → took a (front i) b → failed b (step_text indentation separator (v x)) c → failed a (front_text indentation begin (map v xs)) c
    failed_next a b c p q =
        subst (λ (t : List ℕ). failed a t c)
        (ap (λ t. t ++ front_text indentation (separator_at (i + 1)) (map v (drop (i + 1) xs))) step_is ∙ whole_text_is)
        (before a c _ _ (later a b c _ _ p q))

    pub separator_next : (following : Separator) → following ≡ next_separator separator (v x) → following ≡ separator_at (i + 1)
    separator_next following e = e ∙ ap (λ (y : Separator). next_separator y (v x)) at ∙ sym next_separator_is
