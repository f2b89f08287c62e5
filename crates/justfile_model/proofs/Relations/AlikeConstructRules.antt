-- Related constructs with related attributes break related rules.
use Rattle.std.proofs.Common.{◌≡◌, List, [], ◌∷◌, ◌++◌, Option, Some, None}
use Rattle.std.specs.List.{flat_map}
use Rattle.justfile_vocabulary.specs.declared.item_kind.ItemKind.TheVariants as items
use Rattle.justfile_vocabulary.specs.declared.keyword.Keyword.{Keyword}
use Rattle.justfile_model.specs.Grammars.Conditions.{VersionNumbers}
use Rattle.justfile_model.specs.Grammars.Settings.{PlainForm, SettingForm, setting_form}
use Rattle.justfile_model.specs.Meanings.ConstructRules.{construct_broken, form_broken, meaning_broken}
use Rattle.justfile_model.specs.Meanings.Meaning.{entries_of}
use Rattle.justfile_model.specs.Meanings.RecipeRules.{dependency_broken, parameters_broken, stars}
use Rattle.justfile_model.specs.Meanings.Rules.{Broken}
use Rattle.justfile_model.specs.Meanings.SettingRules.{value_broken}
use Rattle.justfile_model.specs.Trees.LeafView.{LeafView}
use Rattle.justfile_model.specs.Trees.Tree as tree
use Rattle.justfile_model.specs.Trees.Tree.{AliasParts, ArgumentRules, AssignmentParts, Content, Dependency, Entry, FunctionParts, ImportParts, ModuleParts, Parameter, RecipeParts, SettingValue, WrittenAttribute}
use Rattle.justfile_model.proofs.Lists.EachLaws.{AlikeOption, listed_alike}
use Rattle.justfile_model.proofs.Relations.AlikeAttributeRules.{attributes_broken_alike}
use Rattle.justfile_model.proofs.Relations.AlikeAttributes.{AlikeArgumentRules, AlikeEntry, AlikeWritten, SeesAlike}
use Rattle.justfile_model.proofs.Relations.AlikeRecipes.{SameParameter, each_flat, exclusions_alike, misplaced_alike, options_alike, parameter_alike, second_alike, undefined_alike}
use Rattle.justfile_model.proofs.Relations.AlikeRules.{AlikeBroken}
use Rattle.justfile_model.proofs.Relations.NaturalParts.{value_broken_alike}
use Rattle.justfile_model.proofs.Relations.NewAttributesAlike.{allowed_alike, arg_rules_alike}
use Rattle.justfile_model.proofs.Relations.Related as a
use Rattle.justfile_model.proofs.Relations.Related.{AlikeValue, Each, Relations, each_both}

module _ {R T A B S D R' T' A' B' S' D' : Type 0} (rel : Relations R T A B S D R' T' A' B' S' D') (view : LeafView A B) (view' : LeafView A' B') where
  abbrev Breaks : List (Broken B) → List (Broken B') → Type 0
  Breaks = Each (AlikeBroken rel.position)

  -- names at related places
  abbrev pub SamePlace : A → A' → Type 0
  SamePlace n n' = rel.position (view.place n) (view'.place n')

  -- dependencies, by their stars
  abbrev pub SameStars : Dependency A B B → Dependency A' B' B' → Type 0
  SameStars d d' = AlikeOption rel.position d.star d'.star × Each rel.position (stars d.arguments) (stars d'.arguments)

  -- constructs, as far as rules look at them
  pub data AlikeForm {C C' : Type 0} : Content A B C B → Content A' B' C' B' → Type 0 where
    alias : {p : AliasParts A} {p' : AliasParts A'} → SamePlace p.name p'.name → AlikeForm (tree.Alias p) (tree.Alias p')
    assignment : {p : AssignmentParts A B} {p' : AssignmentParts A' B'} → SamePlace p.name p'.name → AlikeForm (tree.Assignment p) (tree.Assignment p')
    function : {p : FunctionParts A B} {p' : FunctionParts A' B'} → SamePlace p.name p'.name → AlikeForm (tree.Function p) (tree.Function p')
    import : {p : ImportParts A} {p' : ImportParts A'} → SamePlace p.path.token p'.path.token → AlikeForm (tree.Import p) (tree.Import p')
    module_of : {p : ModuleParts A} {p' : ModuleParts A'} → SamePlace p.name p'.name → AlikeForm (tree.Module p) (tree.Module p')
    recipe : {p : RecipeParts A B C B} {p' : RecipeParts A' B' C' B'} → SamePlace p.header.name p'.header.name
        → Each (SameParameter rel view view') p.header.parameters p'.header.parameters → Each SameStars p.header.priors p'.header.priors
        → Each SameStars p.header.subsequents p'.header.subsequents → AlikeForm (tree.Recipe p) (tree.Recipe p')
    setting : {keyword : Keyword} {n : A} {n' : A'} {v : SettingValue A B} {v' : SettingValue A' B'} → SamePlace n n' → AlikeValue rel v v'
        → AlikeForm (tree.Setting (record { keyword = keyword; name = n; value = v })) (tree.Setting (record { keyword = keyword; name = n'; value = v' }))
    unexport : {n : A} {n' : A'} → SamePlace n n' → AlikeForm (tree.Unexport n) (tree.Unexport n')

  module _ (sees : SeesAlike rel view view') where
    -- ---- recipes

    names_of : {ps : List (Parameter A B)} {ps' : List (Parameter A' B')} → Each (SameParameter rel view view') ps ps'
        → Each (λ (p : Parameter A B) (p' : Parameter A' B'). view.bytes p.name ≡ view'.bytes p'.name) ps ps'
    names_of a.nil = a.nil
    names_of (a.cons h hs) = a.cons h.bytes (names_of hs)

    parameters_alike : {rs : List (ArgumentRules A B)} {rs' : List (ArgumentRules A' B')} → Each (AlikeArgumentRules rel) rs rs'
        → {before ps : List (Parameter A B)} {before' ps' : List (Parameter A' B')}
        → Each (λ (p : Parameter A B) (p' : Parameter A' B'). view.bytes p.name ≡ view'.bytes p'.name) before before'
        → Each (SameParameter rel view view') ps ps' → Breaks (parameters_broken view rs before ps) (parameters_broken view' rs' before' ps')
    parameters_alike h b a.nil = a.nil
    parameters_alike h {before = before} {before' = before'} b (a.cons {x = p} {y = p'} k ks) =
        each_both (parameter_alike rel view view' sees h b k)
        (parameters_alike h {before = before ++ p ∷ []} {before' = before' ++ p' ∷ []} (each_both b (a.cons k.bytes a.nil)) ks)

    dependencies_alike : {ds : List (Dependency A B B)} {ds' : List (Dependency A' B' B')} → Each SameStars ds ds'
        → Breaks (flat_map dependency_broken ds) (flat_map dependency_broken ds')
    dependencies_alike h = each_flat _ _ (λ d d' k. each_both (second_alike rel.position k.1) (misplaced_alike rel.position k.0 k.1)) h

    -- ---- constructs

    meaning_alike : {C C' : Type 0} {c : Content A B C B} {c' : Content A' B' C' B'} {es : List (Entry A B)} {es' : List (Entry A' B')} → AlikeForm c c'
        → Each (AlikeEntry rel) es es' → Breaks (meaning_broken view c es) (meaning_broken view' c' es')
    meaning_alike (alias n) h = allowed_alike rel view view' sees items.Alias n h
    meaning_alike (assignment n) h = allowed_alike rel view view' sees items.Assignment n h
    meaning_alike (function n) h = allowed_alike rel view view' sees items.Function n h
    meaning_alike (import n) h = allowed_alike rel view view' sees items.Import n h
    meaning_alike (module_of n) h = allowed_alike rel view view' sees items.Module n h
    meaning_alike (setting n v) h = allowed_alike rel view view' sees items.Setting n h
    meaning_alike (unexport n) h = allowed_alike rel view view' sees items.Unexport n h
    meaning_alike (recipe n ps priors subsequents) h =
        let rules = arg_rules_alike rel view view' sees h in
        each_both (each_both (each_both (options_alike rel view view' sees n rules) (parameters_alike rules a.nil ps))
        (undefined_alike rel view view' sees (names_of ps) rules)) (exclusions_alike rel view view' sees n h)

    value_alike : (current : VersionNumbers) (form : Option SettingForm) (keyword : Keyword) {b : B} {b' : B'} {v : SettingValue A B} {v' : SettingValue A' B'}
        → rel.position b b' → AlikeValue rel v v' → Breaks (value_broken current view form keyword b v) (value_broken current view' form keyword b' v')
    value_alike current None keyword h v = a.nil
    value_alike current (Some PlainForm) keyword h v = value_broken_alike rel current view view' sees keyword h v
    value_alike current _ keyword h v = a.nil

    form_alike : (current : VersionNumbers) {C C' : Type 0} {c : Content A B C B} {c' : Content A' B' C' B'} → AlikeForm c c'
        → Breaks (form_broken current view c) (form_broken current view' c')
    form_alike current (alias n) = a.nil
    form_alike current (recipe n ps priors subsequents) = each_both (dependencies_alike priors) (dependencies_alike subsequents)
    form_alike current (setting {keyword = keyword} n v) = value_alike current (setting_form keyword) keyword n v
    form_alike current _ = a.nil

    -- where the attributes mean related ones in order
    pub construct_broken_alike : (current : VersionNumbers) {C C' : Type 0} {ws : List (WrittenAttribute A B)} {ws' : List (WrittenAttribute A' B')}
        {c : Content A B C B} {c' : Content A' B' C' B'} → Each (AlikeWritten rel) ws ws' → AlikeForm c c'
        → AlikeOption (Each (AlikeEntry rel)) (entries_of view ws) (entries_of view' ws')
        → Breaks (construct_broken current view ws c) (construct_broken current view' ws' c')
    construct_broken_alike current h c meant =
        each_both (each_both (attributes_broken_alike rel view view' sees h) (listed_alike _ _ (λ es es' k. meaning_alike c k) meant)) (form_alike current c)
