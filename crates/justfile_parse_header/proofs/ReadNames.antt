-- The parameters parsed so far, and the set of their names, or of some.
use Rattle.std.proofs.Common.{◌≡◌, ◌∙◌, ℕ, Bool, Bor, true, false, List, [], ◌∷◌, ◌++◌, ◌||◌, length, map, take, Result, Ok, Err, refl, sym, ap}
use Rattle.std.proofs.lemmas.List.{map-append}
use Rattle.std.proofs.Math.Seq.{take-append_seam}
use Rattle.std.specs.BTreeSet.{BTreeSet}
use Rattle.std.specs.List.{list_any}
use Rattle.std.specs.Prelude.{OnErr, OnOk}
use Rattle.std.specs.Str.{bytes_eq}
use Rattle.justfile_token.specs.Token.{lexeme_of}
use Rattle.justfile_recipe_header.specs.declared.parameter.Parameter.{Parameter}
use Rattle.justfile_parse_base.specs.TextSets.{HaveSame, texts_in}
use Rattle.justfile_parse_base.proofs.TextSetLemmas.{same_more, same_then}
use Rattle.justfile_parse_header.specs.Arguments.{AreAmongNames, AreKeptNames, AreNames, is_named}
use Rattle.justfile_parse_header.specs.Tree.{parameter_tree}
use Rattle.justfile_parse_header.proofs.Texts.{named_among, names_of}

abbrev Names : Type 0
Names = BTreeSet (Bor (List ℕ))

true_not_false : true ≡ false → ⊥
true_not_false e = cc

-- neither of two is true
pub not_either : (a b : Bool) → (a || b) ≡ false → b ≡ false
not_either true b h = absurd cc
not_either false b h = h

any_last : (name : List ℕ) (texts : List (List ℕ)) (text : List ℕ) → list_any (bytes_eq name) (texts ++ text ∷ []) ≡ (list_any (bytes_eq name) texts || bytes_eq name text)
any_last name [] text = last (bytes_eq name text)
  where
    last : (b : Bool) → (b || false) ≡ b
    last true = refl
    last false = refl
any_last name (t ∷ texts) text = ap (λ b. bytes_eq name t || b) (any_last name texts text) ∙ shifted (bytes_eq name t)
  where
    shifted : (b : Bool) → (b || (list_any (bytes_eq name) texts || bytes_eq name text)) ≡ ((b || list_any (bytes_eq name) texts) || bytes_eq name text)
    shifted true = refl
    shifted false = refl

module _ (names : Names) (empty : names.keys ≡ []) where
  none_among : (name : List ℕ) → false ≡ list_any (bytes_eq name) (texts_in names)
  none_among name = sym (ap (λ ks. list_any (bytes_eq name) (map (λ (t : Bor (List ℕ)). t.now) ks)) empty)

  pub none_named : (ps : List Parameter) (has_all : Bool) → ps ≡ [] → AreKeptNames (map parameter_tree ps) names has_all
  unfolding AreNames AreAmongNames
  none_named ps true none = λ name. ap (λ qs. is_named (map parameter_tree qs) name) none ∙ none_among name
  none_named ps false none = λ name h. absurd (true_not_false (sym h ∙ sym (none_among name)))

-- the names are those of the list
names_same : (ps : List Parameter) (names : Names) → AreNames (map parameter_tree ps) names → HaveSame (names_of ps) (texts_in names)
unfolding AreNames
names_same ps names h name = sym (named_among ps name) ∙ h name

pub one_named : (old new : List Parameter) (p : Parameter) (before after : Names) → AreNames (map parameter_tree old) before → new ≡ old ++ p ∷ []
    → HaveSame (texts_in before ++ lexeme_of p.name.token ∷ []) (texts_in after) → AreNames (map parameter_tree new) after
unfolding AreNames
one_named old new p before after named pushed added name =
    let text = lexeme_of p.name.token in
    named_among new name
    ∙ ap (λ (ts : List (List ℕ)). list_any (bytes_eq name) ts) (ap names_of pushed ∙ map-append (λ (p : Parameter). lexeme_of p.name.token) old (p ∷ []))
    ∙ same_then (names_of old ++ text ∷ []) (texts_in before ++ text ∷ []) (texts_in after) (same_more (names_of old) (texts_in before) text (names_same old before named)) added name

-- the names of more parameters, of which the set has some
some_named : (old new : List Parameter) (p : Parameter) (before after : Names) → AreAmongNames (map parameter_tree old) before → new ≡ old ++ p ∷ []
    → ((name : List ℕ) → list_any (bytes_eq name) (texts_in after) ≡ true → (list_any (bytes_eq name) (texts_in before) || bytes_eq name (lexeme_of p.name.token)) ≡ true)
    → AreAmongNames (map parameter_tree new) after
unfolding AreAmongNames
some_named old new p before after among pushed added name h = named ∙ go (list_any (bytes_eq name) (texts_in before)) (is_named (map parameter_tree old) name) _ (among name) (added name h)
  where
    text : List ℕ
    text = lexeme_of p.name.token

    named : is_named (map parameter_tree new) name ≡ (is_named (map parameter_tree old) name || bytes_eq name text)
    named =
        named_among new name
        ∙ ap (λ (ts : List (List ℕ)). list_any (bytes_eq name) ts) (ap names_of pushed ∙ map-append (λ (q : Parameter). lexeme_of q.name.token) old (p ∷ []))
        ∙ any_last name (names_of old) text
        ∙ ap (λ b. b || bytes_eq name text) (sym (named_among old name))

    go : (in_set among_old same : Bool) → (in_set ≡ true → among_old ≡ true) → (in_set || same) ≡ true → (among_old || same) ≡ true
    go true among_old same kept is = ap (λ b. b || same) (kept refl)
    go false true same kept is = refl
    go false false same kept is = is

-- nothing was added
pub still_named : (old later : List Parameter) (before after : Names) → AreNames (map parameter_tree old) before → later ≡ old → after.keys ≡ before.keys
    → AreNames (map parameter_tree later) after
unfolding AreNames
still_named old later before after named same kept name =
    ap (λ ps. is_named (map parameter_tree ps) name) same ∙ named name
    ∙ sym (ap (λ ks. list_any (bytes_eq name) (map (λ (t : Bor (List ℕ)). t.now) ks)) kept)

still_among : (old later : List Parameter) (before after : Names) → AreAmongNames (map parameter_tree old) before → later ≡ old → after.keys ≡ before.keys
    → AreAmongNames (map parameter_tree later) after
unfolding AreAmongNames
still_among old later before after among same kept name h =
    ap (λ ps. is_named (map parameter_tree ps) name) same ∙ among name (sym (ap (λ ks. list_any (bytes_eq name) (map (λ (t : Bor (List ℕ)). t.now) ks)) kept) ∙ h)

-- a parameter was added, or nothing was
pub added_or_kept : {E : Type 0} (result : Result (Unit {0}) E) (old new : List Parameter) (p : Parameter) (before after : Names) (has_all : Bool)
    → AreKeptNames (map parameter_tree old) before has_all → OnOk result (new ≡ old ++ p ∷ [])
    → OnOk result (HaveSame (texts_in before ++ lexeme_of p.name.token ∷ []) (texts_in after))
    → OnErr result (new ≡ old) → OnErr result (after.keys ≡ before.keys) → AreKeptNames (map parameter_tree new) after has_all
added_or_kept (Ok done) old new p before after true named pushed added same kept = one_named old new p before after named pushed added
added_or_kept (Ok done) old new p before after false among pushed added same kept =
    some_named old new p before after among pushed (λ name h. sym (any_last name (texts_in before) (lexeme_of p.name.token)) ∙ added name ∙ h)
added_or_kept (Err error) old new p before after true named pushed added same kept = still_named old new before after named same kept
added_or_kept (Err error) old new p before after false among pushed added same kept = still_among old new before after among same kept

-- a parameter was added whose name the set doesn't get, or nothing was
pub unnamed_or_kept : {E : Type 0} (result : Result (Unit {0}) E) (old new : List Parameter) (p : Parameter) (names : Names) → AreAmongNames (map parameter_tree old) names
    → OnOk result (new ≡ old ++ p ∷ []) → OnErr result (new ≡ old) → AreAmongNames (map parameter_tree new) names
unnamed_or_kept (Ok done) old new p names among pushed same = some_named old new p names names among pushed (λ name h. ap (λ b. b || bytes_eq name (lexeme_of p.name.token)) h)
unnamed_or_kept (Err error) old new p names among pushed same = still_among old new names names among same refl

-- a parameter that was added is taken away again
pub taken_away : (old later : List Parameter) (p : Parameter) (count : ℕ) → later ≡ old ++ p ∷ [] → count ≡ length old → take count later ≡ old
taken_away old later p count h counted = ap (λ n. take n later) counted ∙ ap (take (length old)) h ∙ take-append_seam old (p ∷ [])

-- whether a parameter has the name, by the set
pub named_in_set : (ps : List Parameter) (names : Names) (has_all : Bool) (text : List ℕ) → AreKeptNames (map parameter_tree ps) names has_all
    → list_any (bytes_eq text) (texts_in names) ≡ true → is_named (map parameter_tree ps) text ≡ true
unfolding AreNames AreAmongNames
named_in_set ps names true text named h = named text ∙ h
named_in_set ps names false text among h = among text h

pub missing_in_set : (ps : List Parameter) (names : Names) (text : List ℕ) → AreNames (map parameter_tree ps) names → list_any (bytes_eq text) (texts_in names) ≡ false
    → is_named (map parameter_tree ps) text ≡ false
unfolding AreNames
missing_in_set ps names text named h = named text ∙ h
