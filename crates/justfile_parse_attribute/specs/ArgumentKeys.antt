-- The keys of an attribute's arguments, by their texts.
use Rattle.std.specs.Prelude.{◌≡◌, ℕ, Bool, true, ◌&&◌, not, List, [], ◌∷◌, map}
use Rattle.std.specs.BTreeMap.{insert_entry, values}
use Rattle.std.specs.BTreeSet.{BTreeSet}
use Rattle.std.specs.Cmp.Lexicographic.{slice_cmp}
use Rattle.std.specs.Coded.{Coded-set, coded_bool}
use Rattle.std.specs.List.{All, Contains, list_any}
use Rattle.std.specs.Ordering.{nat_cmp}
use Rattle.std.specs.Str.{bytes_eq}
use Rattle.std.specs.declared.cmp.Ordering.{Ordering}
use denote.Ref.{Bor}
use Rattle.justfile_token.specs.Token.{lexeme_of}
use Rattle.justfile_attribute_rules.specs.Keys.{KeyMap}
pub use Rattle.justfile_attribute_rules.specs.Keys.{Given}
use Rattle.justfile_parse_base.specs.TextSets.{HaveSame, texts_in}

abbrev pub key_text : Given → List ℕ
key_text g = lexeme_of g.0.token

-- whether no text occurs twice
abbrev pub are_distinct : List (List ℕ) → Bool
are_distinct [] = true
are_distinct (text ∷ texts) = not (list_any (bytes_eq text) texts) && are_distinct texts

-- whether no two keys have the same text
unfoldable pub are_keys_distinct : List Given → Bool
are_keys_distinct keys = are_distinct (map key_text keys)

-- The set has the texts of these keys, and no others.
unfoldable pub AreTexts : List Given → BTreeSet (Bor (List ℕ)) → Type 0
AreTexts keys set = HaveSame (map key_text keys) (texts_in set)

pub prop_texts : (keys : List Given) (set : BTreeSet (Bor (List ℕ))) → IsProp (AreTexts keys set)
unfolding AreTexts
prop_texts keys set = hlevel (Coded-set coded_bool)

-- each entry's text is the lexeme of its key
unfoldable pub AreKeyed : KeyMap → Type 0
AreKeyed m = All (λ e. e.0.now ≡ key_text e.1) m.entries

-- the order of texts, by their bytes
abbrev pub text_order : Bor (List ℕ) → Bor (List ℕ) → Ordering
text_order s t = slice_cmp nat_cmp s.now t.now

-- a key was inserted by its text, and replaced one with the same text
pub record IsInserted (given : Given) (old new : KeyMap) : Type 0 where
  pub text : Bor (List ℕ)
  pub is : text.now ≡ key_text given
  pub entries : new.entries ≡ insert_entry text_order old.entries text given

-- The map has these keys by their texts, and no others.
pub record HasKeys (keys : List Given) (m : KeyMap) : Type 0 where
  pub keyed : AreKeyed m
  pub there : All (Contains (values m)) keys
  pub back : All (Contains keys) (values m)
