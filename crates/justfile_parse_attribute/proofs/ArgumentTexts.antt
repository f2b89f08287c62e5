-- The set of the texts of an attribute's keys.
use Rattle.std.proofs.Common.{◌≡◌, ◌∙◌, ℕ, Bool, ◌||◌, IsTrue, List, [], ◌∷◌, ◌++◌, Bor, length, map, take, sym, ap, refl, subst, arith}
use Rattle.std.proofs.lemmas.Bool.Decides.{same_from_decides}
use Rattle.std.proofs.lemmas.List.{map-append, take_all}
use Rattle.std.proofs.lemmas.Slice.Eq.{bytes_eq-Decides}
use Rattle.std.proofs.Math.Seq.{take-append_seam}
use Rattle.std.specs.BTreeSet.{BTreeSet}
use Rattle.std.specs.List.{list_any}
use Rattle.std.specs.Option.{is_some}
use Rattle.std.specs.Str.{bytes_eq}
use Rattle.justfile_model.specs.Meanings.Meaning.{at_key, by_key}
use Rattle.justfile_parse_attribute.specs.ArgumentKeys.{AreTexts, Given, are_keys_distinct, key_text}
use Rattle.justfile_parse_attribute.specs.Attributes.{arguments_of}
use Rattle.justfile_parse_base.specs.TextSets.{HaveSame, texts_in}
use Rattle.justfile_parse_attribute.specs.declared.arguments.Arguments.{Arguments}
use Rattle.justfile_parse_attribute.proofs.ArgumentLists.{any_text, key_among}
use Rattle.justfile_parse_base.proofs.TextSetLemmas.{same_more, same_then}
use Rattle.justfile_expression.specs.LeafViews.{views_leaves}

abbrev Texts : Type 0
Texts = BTreeSet (Bor (List ℕ))

-- the sides of an equation of texts turned
turned : (x y : List ℕ) → bytes_eq x y ≡ bytes_eq y x
turned x y = same_from_decides (bytes_eq x y) (bytes_eq y x) (bytes_eq-Decides x y) ((λ h. sym ((bytes_eq-Decides y x).0 h)), (λ e. (bytes_eq-Decides y x).1 (sym e)))

any_turned : (text : List ℕ) (texts : List (List ℕ)) → list_any (bytes_eq text) texts ≡ list_any (λ x. bytes_eq x text) texts
any_turned text [] = refl
any_turned text (x ∷ texts) = ap (λ (b : Bool). b || list_any (bytes_eq text) texts) (turned text x) ∙ ap (λ (b : Bool). bytes_eq x text || b) (any_turned text texts)

-- there is a key whose text is in the set
pub text_among : (a : Arguments) (text : List ℕ) → list_any (bytes_eq text) (texts_in a.texts) ≡ is_some (at_key views_leaves text (by_key (arguments_of a)))
unfolding AreTexts
text_among a text = sym (a.named text) ∙ any_turned text (map key_text a.keyed.items) ∙ any_text a.keyed.items text ∙ key_among a text

-- no keys have no texts
pub no_texts : (gs : List Given) (texts : Texts) → gs ≡ [] → texts.keys ≡ [] → AreTexts gs texts
unfolding AreTexts
no_texts gs texts none empty text =
    ap (λ (l : List Given). list_any (bytes_eq text) (map key_text l)) none ∙ sym (ap (λ ks. list_any (bytes_eq text) (map (λ (t : Bor (List ℕ)). t.now) ks)) empty)

-- a key more has its text more
pub one_text : (old new : List Given) (g : Given) (before after : Texts) → AreTexts old before → new ≡ old ++ g ∷ []
    → HaveSame (texts_in before ++ key_text g ∷ []) (texts_in after) → AreTexts new after
unfolding AreTexts
one_text old new g before after named pushed added text =
    ap (λ (ts : List (List ℕ)). list_any (bytes_eq text) ts) (ap (map key_text) pushed ∙ map-append key_text old (g ∷ []))
    ∙ same_then (map key_text old ++ key_text g ∷ []) (texts_in before ++ key_text g ∷ []) (texts_in after) (same_more (map key_text old) (texts_in before) (key_text g) named) added text

taken_away : (old later : List Given) (count : ℕ) → count ≡ length old → take (length old) later ≡ old → take count later ≡ old
taken_away old later count counted begins = ap (λ n. take n later) counted ∙ begins

-- a key that was added is taken away again
pub kept_texts : (old later : List Given) (before after : Texts) (count : ℕ) → AreTexts old before → after.keys ≡ before.keys
    → count ≡ length old → take (length old) later ≡ old → AreTexts (take count later) after
unfolding AreTexts
kept_texts old later before after count named kept counted begins text =
    ap (λ (l : List Given). list_any (bytes_eq text) (map key_text l)) (taken_away old later count counted begins) ∙ named text
    ∙ sym (ap (λ ks. list_any (bytes_eq text) (map (λ (t : Bor (List ℕ)). t.now) ks)) kept)

pub kept_distinct : (old later : List Given) (count : ℕ) → IsTrue (are_keys_distinct old) → count ≡ length old → take (length old) later ≡ old
    → IsTrue (are_keys_distinct (take count later))
kept_distinct old later count distinct counted begins = subst (λ (l : List Given). IsTrue (are_keys_distinct l)) (sym (taken_away old later count counted begins)) distinct

pub begins_pushed : (old later : List Given) (g : Given) → later ≡ old ++ g ∷ [] → take (length old) later ≡ old
begins_pushed old later g h = ap (take (length old)) h ∙ take-append_seam old (g ∷ [])

pub begins_same : (old later : List Given) → later ≡ old → take (length old) later ≡ old
begins_same old later h = rw h (take_all (length old) old (omega arith))
