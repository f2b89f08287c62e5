-- Items that are appended to those that were found.
use Rattle.std.proofs.Common.{◌≡◌, ◌∙◌, ◌<◌, ◌+◌, ℕ, Bool, List, [], ◌∷◌, ◌++◌, map, length, take, get_or, refl, sym, ap, append_assoc, append-nil, subst, arith}
use Rattle.std.specs.Prelude.{All, IfSome, string_bytes}
use Rattle.std.specs.List.{flat_map}
use Rattle.std.proofs.lemmas.List.{flat_map_more, map-append, take_more}
use Rattle.std.proofs.lemmas.List.Elements.{All-append, All-nil, All-push}
use Rattle.justfile_vocabulary.specs.declared.item_kind.ItemKind.{ItemKind}
use Rattle.justfile_token.specs.declared.token.Token.{Token}
use Rattle.justfile_item.specs.declared.item.Item.{Item}
use Rattle.justfile_recovery.specs.Places.{LiesIn}
use Rattle.justfile_survey.specs.Items.{item_seen, place_in}
use Rattle.justfile_survey.specs.Seen.{Adds, PlacesIn, Seen, seen}
use Rattle.justfile_survey.specs.declared.surveys.SurveyedItem.{SurveyedItem}

-- the place of a token lies in the text
in_text : (n base : ℕ) (t : Token) → LiesIn n (place_in n base t)
in_text n base t = record { forward = omega arith; within = omega arith }

module _ (n : ℕ) where
  -- nothing was appended
  pub nothing : (old : List SurveyedItem) → Adds n old old []
  nothing old = record { more = []; is = sym (append-nil old); views_are = refl; places = All-nil (PlacesIn n) }

  -- one item was appended
  pub one : (base : ℕ) (t : Token) (new old : List SurveyedItem) (s : SurveyedItem) (kind : ItemKind) (name : List ℕ) (is_private : Bool) → new ≡ old ++ s ∷ [] → s.kind ≡ kind
      → string_bytes s.name ≡ name → s.is_private ≡ is_private → s.name_span ≡ place_in n base t → LiesIn n s.span → IfSome s.body (LiesIn n)
      → Adds n new old (record { kind = kind; name = name; is_private = is_private; place = place_in n base t } ∷ [])
  one base t new old s kind name is_private is k m p at b c = record {
    more = s ∷ [];
    is = is;
    views_are = λ i. record { kind = k i; name = m i; is_private = p i; place = at i } ∷ [];
    places = All-push (PlacesIn n) [] s (All-nil (PlacesIn n)) (record { name = subst (LiesIn n) (sym at) (in_text n base t); lines = b; body = c });
  }

  -- items were appended twice
  pub joined : (old mid new : List SurveyedItem) (v w : List Seen) → Adds n mid old v → Adds n new mid w → Adds n new old (v ++ w)
  joined old mid new v w a b = record {
    more = a.more ++ b.more;
    is = b.is ∙ ap (λ xs. xs ++ b.more) a.is ∙ append_assoc old a.more b.more;
    views_are = map-append seen a.more b.more ∙ ap (λ xs. xs ++ map seen b.more) a.views_are ∙ ap (λ xs. v ++ xs) b.views_are;
    places = All-append (PlacesIn n) a.more b.more a.places b.places;
  }

  -- those of one more item were appended
  pub one_more : (base : ℕ) (xs : List Item) (i : ℕ) (x : Item) → i < length xs → x ≡ get_or xs i x → (old mid new : List SurveyedItem)
      → Adds n mid old (flat_map (item_seen n base) (take i xs)) → Adds n new mid (item_seen n base x) → Adds n new old (flat_map (item_seen n base) (take (i + 1) xs))
  one_more base xs i x inside at old mid new a b =
      let all : flat_map (item_seen n base) (take i xs) ++ item_seen n base x ≡ flat_map (item_seen n base) (take (i + 1) xs)
      = flat_map_more (item_seen n base) [] (take i xs) x ∙ ap (flat_map (item_seen n base)) (sym (take_more xs i x inside ∙ ap (λ y. take i xs ++ y ∷ []) (sym at)))
      in
      subst (λ views. Adds n new old views) all (joined old mid new (flat_map (item_seen n base) (take i xs)) (item_seen n base x) a b)

  -- what was appended to nothing is all that there is
  pub alone : (new old : List SurveyedItem) (views : List Seen) → old ≡ [] → Adds n new old views → (map seen new ≡ views) × All (PlacesIn n) new
  alone new old views none a =
      let is : new ≡ a.more = a.is ∙ ap (λ xs. xs ++ a.more) none in
      (ap (map seen) is ∙ a.views_are, subst (All (PlacesIn n)) (sym is) a.places)

  pub shown_alone : (new old : List SurveyedItem) (views : List Seen) → old ≡ [] → Adds n new old views → map seen new ≡ views
  shown_alone new old views none a = (alone new old views none a).0
