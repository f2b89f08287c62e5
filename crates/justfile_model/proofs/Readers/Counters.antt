-- The counters grow by what is parsed.
use Rattle.std.proofs.Common.{◌≡◌, ℕ, ◌+◌, Bool, true, false, List, [], ◌∷◌, ◌++◌, length, Ok, Err, IfOk, codes, refl, sym, ap, ◌∙◌, arith}
use Rattle.std.proofs.lemmas.List.{append-nil, append_assoc}
use Rattle.justfile_vocabulary.specs.declared.item_kind.ItemKind.TheVariants as item_kinds
use Rattle.justfile_vocabulary.specs.declared.token_kind.TokenKind.TheVariants as kinds
use Rattle.justfile_model.specs.Grammars.Files.{bindings, item_bindings, item_recipes, recipes}
use Rattle.justfile_model.specs.Readers.AttributeReader.{AttributeLeaves}
use Rattle.justfile_model.specs.declared.parameter_kind.ParameterKind.{ParameterKind}
use Rattle.justfile_model.specs.declared.parameter_kind.ParameterKind.TheVariants.{Plus, Singular, Star}
use Rattle.justfile_model.specs.Readers.HeaderReader as r
use Rattle.justfile_model.specs.Readers.HeaderReader.{ReadHeader, next_binding_number, expression, obeying, with_bindings}
use Rattle.justfile_model.specs.Readers.PartReader.{accept_keyword_before, after_numbered, file_path, peek_assignment, is_imported, is_module, is_set, setting_keyword, line_is, names, names_end, names_rule, numbered_name, optional_path, setting_value}
use Rattle.justfile_model.specs.Grammars.Settings.{setting_form}
use Rattle.justfile_model.specs.Readers.Reader.{CommentedBody, alias, check_allowed, any_module, any_recipe, argument_rules, assignment, at_end, attributes, construct, content, next_recipe_number, end_of_tokens, item_end, function, has_body, headed, import, imported, after_item, items, items_from, items_rule, line, line_end, named_module, check_exclusions, any_item, optional_body, recipe, setting, unexport, with_recipes, without_keyword}
use Rattle.justfile_model.specs.Readers.ReaderState.{Counters, ◌>>=◌, Leaves, Read, State, accept, accepted, choose, expect, next_are}
use Rattle.justfile_model.specs.Meanings.RecipeRules.{parameter_broken, undefined_broken}
use Rattle.justfile_model.specs.Trees.LeafView.{LeafView}
use Rattle.justfile_model.specs.Trees.Tree as tree
use Rattle.justfile_model.specs.Trees.Tree.{ArgumentRules, BodyLine, Construct, Content, Expr, Item, Parameter}
use Rattle.justfile_model.proofs.Readers.ReadingSteps.{after_all, after_choice, after_test, known, loop_has}

-- ---- the counters after items

-- after the numbers of parameters
abbrev pub after_parameters : {P : Type 0} → Counters → List P → Counters
after_parameters n [] = n
after_parameters n (p ∷ ps) = after_parameters (with_bindings (n.bindings + 1) n) ps

pub after_more : {P : Type 0} (n : Counters) (ps qs : List P) → after_parameters n (ps ++ qs) ≡ after_parameters (after_parameters n ps) qs
after_more n [] qs = refl
after_more n (p ∷ ps) qs = after_more (with_bindings (n.bindings + 1) n) ps qs

abbrev pub count_content : {A B C S : Type 0} → Counters → Content A B C S → Counters
count_content n (tree.Assignment parts) = with_bindings (n.bindings + 1) n
count_content n (tree.Function parts) = after_parameters n parts.parameters
count_content n (tree.Recipe parts) = with_recipes (n.recipes + 1) (after_parameters n parts.header.parameters)
count_content n _ = n

abbrev pub count : {A B C S D : Type 0} → Counters → Item A B C S D → Counters
count n tree.Newline = n
count n (tree.Comment text) = n
count n (Construct attributes content) = count_content n content

abbrev pub counted : {A B C S D : Type 0} → Counters → List (Item A B C S D) → Counters
counted n [] = n
counted n (i ∷ is) = counted (count n i) is

pub counted_both : {A B C S D : Type 0} (n : Counters) (is js : List (Item A B C S D)) → counted n (is ++ js) ≡ counted (counted n is) js
counted_both n [] js = refl
counted_both n (i ∷ is) js = counted_both (count n i) is js

pub parameters_bindings : {P : Type 0} (n : Counters) (ps : List P) → (after_parameters n ps).bindings ≡ n.bindings + length ps
parameters_bindings n [] = omega arith
parameters_bindings n (p ∷ ps) = omega (arith, parameters_bindings (with_bindings (n.bindings + 1) n) ps)

pub parameters_recipes : {P : Type 0} (n : Counters) (ps : List P) → (after_parameters n ps).recipes ≡ n.recipes
parameters_recipes n [] = refl
parameters_recipes n (p ∷ ps) = parameters_recipes (with_bindings (n.bindings + 1) n) ps

parameters_constants : {P : Type 0} (n : Counters) (ps : List P) → (after_parameters n ps).constants ≡ n.constants
parameters_constants n [] = refl
parameters_constants n (p ∷ ps) = parameters_constants (with_bindings (n.bindings + 1) n) ps

count_bindings : {A B C S D : Type 0} (n : Counters) (i : Item A B C S D) → (count n i).bindings ≡ n.bindings + item_bindings i
count_bindings n (Construct attributes (tree.Function parts)) = parameters_bindings n parts.parameters
count_bindings n (Construct attributes (tree.Recipe parts)) = parameters_bindings n parts.header.parameters
count_bindings n _ = omega arith

count_recipes : {A B C S D : Type 0} (n : Counters) (i : Item A B C S D) → (count n i).recipes ≡ n.recipes + item_recipes i
count_recipes n (Construct attributes (tree.Function parts)) = omega (arith, parameters_recipes n parts.parameters)
count_recipes n _ = omega arith

count_constants : {A B C S D : Type 0} (n : Counters) (i : Item A B C S D) → (count n i).constants ≡ n.constants
count_constants n (Construct attributes (tree.Function parts)) = parameters_constants n parts.parameters
count_constants n (Construct attributes (tree.Recipe parts)) = parameters_constants n parts.header.parameters
count_constants n _ = refl

pub counted_bindings : {A B C S D : Type 0} (n : Counters) (is : List (Item A B C S D)) → (counted n is).bindings ≡ n.bindings + bindings is
counted_bindings n [] = omega arith
counted_bindings n (i ∷ is) = omega (arith, counted_bindings (count n i) is, count_bindings n i)

pub counted_recipes : {A B C S D : Type 0} (n : Counters) (is : List (Item A B C S D)) → (counted n is).recipes ≡ n.recipes + recipes is
counted_recipes n [] = omega arith
counted_recipes n (i ∷ is) = omega (arith, counted_recipes (count n i) is, count_recipes n i)

pub counted_constants : {A B C S D : Type 0} (n : Counters) (is : List (Item A B C S D)) → (counted n is).constants ≡ n.constants
counted_constants n [] = refl
counted_constants n (i ∷ is) = counted_constants (count n i) is ∙ count_constants n i

-- ---- what is read

module _ {R T A B S : Type 0} (leaves : Leaves R T A B S) where
  -- what is read with the next number, if there is one
  binding_drawn : {X : Type 0} (n : Counters) (s : State R T B) (f : (ℕ × Counters) × State R T B → Read R T B X) (Q : X → Type 0)
      → IfOk (f ((n.bindings, with_bindings (n.bindings + 1) n), s)) (λ x. Q x.0) → IfOk (next_binding_number leaves n s >>= f) (λ x. Q x.0)
  unfolding next_binding_number
  binding_drawn {X} n s f Q h =
      after_test (leaves.has_number n.bindings) _ _ (λ (o : Read R T B (ℕ × Counters)). IfOk (o >>= f) (λ x. Q x.0)) (λ _. h) (λ _. tt)

  module _ (view : R → LeafView A B) (rules : List (ArgumentRules A B)) where
    abbrev ParameterPlace : Type 0
    ParameterPlace = r.ParameterPlace leaves view rules

    abbrev Parameters : Type 0
    Parameters = r.Parameters leaves view rules

    -- these parameters with others, which drew their numbers after them
    pub record Drawn (x y : Parameters) : Type 0 where
      pub others : List (Parameter A B)
      pub all_are : y.0 ≡ x.0 ++ others
      pub counts : y.1 ≡ after_parameters x.1 others

    abbrev pub Draws : Parameters → Read R T B Parameters → Type 0
    Draws x found = IfOk found (λ y. Drawn x y.0)

    none_drawn : (x : Parameters) → Drawn x x
    none_drawn x = record { others = []; all_are = sym (append-nil x.0); counts = refl }

    drawn_then : (x y z : Parameters) → Drawn x y → Drawn y z → Drawn x z
    drawn_then x y z h k = record {
      others = h.others ++ k.others;
      all_are = k.all_are ∙ ap (λ ps. ps ++ k.others) h.all_are ∙ append_assoc x.0 h.others k.others;
      counts = k.counts ∙ ap (λ n. after_parameters n k.others) h.counts ∙ sym (after_more x.1 h.others k.others);
    }

    -- what is read after these parameters draws after them
    draws_then : (x : Parameters) (found : Read R T B Parameters) (f : ParameterPlace → Read R T B Parameters) → Draws x found
        → ((p : ParameterPlace) → Draws p.0 (f p)) → Draws x (found >>= f)
    draws_then x found f h k =
        after_all found f (Drawn x) (λ p is. all_drawn p (f p) (known p (λ y. Drawn x y.0) is h) (k p))
      where
        all_drawn : (p : ParameterPlace) (found : Read R T B Parameters) → Drawn x p.0 → Draws p.0 found → Draws x found
        all_drawn p (Ok y) h k = drawn_then x p.0 y.0 h k
        all_drawn p (Err e) h k = tt

    -- what is read without a number
    pub draws_still : {X : Type 0} (p : ParameterPlace) (found : Read R T B X) → Draws p.0 (found >>= λ end. Ok (p.0, end.1))
    draws_still p found = after_all found _ (Drawn p.0) (λ end _. none_drawn p.0)

    named_parameter_draws : (kind : ParameterKind) (export : Bool) (x : Parameters) (s : State R T B)
        → Draws x (r.named_parameter leaves view rules kind export x s)
    unfolding r.named_parameter
    named_parameter_draws kind export x s =
        after_all (expect leaves kinds.Identifier s) _ (Drawn x) (λ name _. after_all (r.default_value leaves name.1) _ (Drawn x) (λ default _.
        let broken = parameter_broken (view default.1.run) rules x.0 (r.parameter_of leaves kind export (leaves.name name.0) default.0) in
        after_all (obeying broken default.1) _ (Drawn x) (λ checked _. binding_drawn x.1 checked.1 _ (Drawn x) (record { others = _ ∷ []; all_are = refl; counts = refl }))))

    pub parameter_draws : (kind : ParameterKind) (x : ParameterPlace) → Draws x.0 (r.parameter leaves view rules kind x)
    unfolding r.parameter
    parameter_draws kind x = named_parameter_draws kind (accepted leaves kinds.Dollar x.1).0 x.0 (accepted leaves kinds.Dollar x.1).1

    pub singulars_draw : (x : ParameterPlace) → Draws x.0 (r.singulars leaves view rules x)
    unfolding r.singulars r.singulars_rule
    singulars_draw =
        loop_has (λ x. x.1) (r.singulars_rule leaves view rules) (λ x found. Draws x.0 found) (λ x. tt) (λ f h x.
        after_test (r.begins_parameter leaves x.1) _ _ (Draws x.0)
        (λ _. draws_then x.0 (r.parameter leaves view rules Singular x) f (parameter_draws Singular x) h) (λ _. none_drawn x.0))

    pub variadic_draws : (kind : ParameterKind) (x : ParameterPlace) → Draws x.0 (r.variadic leaves view rules kind x)
    unfolding r.variadic
    variadic_draws kind x =
        draws_then x.0 (r.parameter leaves view rules kind x) _ (parameter_draws kind x) (λ p. draws_still p (r.expect_no_name leaves p.1))

    pub last_parameter_draws : (x : ParameterPlace) → Draws x.0 (r.last_parameter leaves view rules x)
    unfolding r.last_parameter
    last_parameter_draws x =
        after_choice (accept leaves kinds.Plus x.1) _ _ (Drawn x.0)
        (after_choice (accept leaves kinds.Asterisk x.1) _ _ (Drawn x.0) (none_drawn x.0) (λ prefix. variadic_draws Star (x.0, prefix.1)))
        (λ prefix. variadic_draws Plus (x.0, prefix.1))

    -- the last parameter and the colon
    pub rest_draws : (p : ParameterPlace)
        → Draws p.0 (r.last_parameter leaves view rules p >>= λ all. expect leaves kinds.Colon all.1 >>= λ colon. Ok (all.0, colon.1))
    rest_draws p = draws_then p.0 (r.last_parameter leaves view rules p) _ (last_parameter_draws p) (λ all. draws_still all (expect leaves kinds.Colon all.1))

    abbrev pub ParametersCounted : Counters → Read R T B Parameters → Type 0
    ParametersCounted n found = IfOk found (λ x. x.0.1 ≡ after_parameters n x.0.0)

    pub parameters_count : (n : Counters) (s : State R T B) → ParametersCounted n (r.parameters leaves view rules n s)
    unfolding r.parameters
    parameters_count n s = counted (r.singulars leaves view rules (([], n), s) >>= λ ps. _) (draws_then ([], n) _ _ (singulars_draw (([], n), s)) rest_draws)
      where
        counted : (found : Read R T B Parameters) → Draws ([], n) found → ParametersCounted n found
        counted (Ok x) h = h.counts ∙ ap (λ ps. after_parameters n ps) (sym h.all_are)
        counted (Err e) h = tt

    -- a header draws the numbers of its parameters
    pub header_counts : (n : Counters) (s : State R T B) → IfOk (r.header leaves view rules n s) (λ x. x.0.1 ≡ after_parameters n x.0.0.parameters)
    unfolding r.header
    header_counts n s =
        let Q : ReadHeader T A B S × Counters → Type 0 = λ x. x.1 ≡ after_parameters n x.0.parameters in
        after_all (expect leaves kinds.Identifier s) _ Q (λ name _. after_all (r.distinct_options leaves view rules name.0 name.1) _ Q (λ options _.
        after_all (r.parameters leaves view rules n options.1) _ Q (λ ps is.
        after_all (obeying (undefined_broken (view ps.1.run) ps.0.0 rules) ps.1) _ Q (λ checked _.
        after_all (r.dependencies leaves checked.1) _ Q (λ priors _. after_all (r.subsequents leaves priors.1) _ Q (λ others _.
        known ps (λ x. x.0.1 ≡ after_parameters n x.0.0) is (parameters_count n options.1)))))))

  -- ---- the parameters of functions

  abbrev NamesCounted : Counters → Read R T B (List A × Counters) → Type 0
  NamesCounted n found = IfOk found (λ x. x.0.1 ≡ after_parameters n x.0.0)

  name_counts : (n : Counters) (s : State R T B) → IfOk (numbered_name leaves n s) (λ x. x.0.1 ≡ with_bindings (n.bindings + 1) n)
  unfolding numbered_name
  name_counts n s =
      let Q : A × Counters → Type 0 = λ x. x.1 ≡ with_bindings (n.bindings + 1) n in
      after_all (expect leaves kinds.Identifier s) _ Q (λ name _. binding_drawn n name.1 _ Q refl)

  pub names_count : (x : Counters × State R T B) → NamesCounted x.0 (names leaves x)
  unfolding names names_rule names_end after_numbered
  names_count =
      loop_has (λ x. x.1) (names_rule leaves) (λ x found. NamesCounted x.0 found) (λ x. tt) (λ f h x.
      let Q : List A × Counters → Type 0 = λ y. y.1 ≡ after_parameters x.0 y.0 in
      after_choice (accept leaves kinds.ParenR x.1) _ _ Q
      (after_all (numbered_name leaves x.0 x.1) _ Q (λ name is. after_all (choose (accept leaves kinds.Comma name.1) _ _) _ Q (λ more is2.
      known more (λ y. y.0.1 ≡ after_parameters name.0.1 y.0.0) is2 (after_choice (accept leaves kinds.Comma name.1) _ _ (λ y. y.1 ≡ after_parameters name.0.1 y.0)
      (after_all (expect leaves kinds.ParenR name.1) _ (λ y. y.1 ≡ after_parameters name.0.1 y.0) (λ closer _. refl)) (λ comma. h (name.0.1, comma.1)))
      ∙ ap (λ n. after_parameters n more.0.0) (known name (λ y. y.0.1 ≡ with_bindings (x.0.bindings + 1) x.0) is (name_counts x.0 x.1)))))
      (λ closer. refl))

module _ {R T A B S D W : Type 0} (leaves : Leaves R T A B S) (kept : AttributeLeaves R A B D W) where
  abbrev pub ItemCounted : Counters → Read R T B (Item A B ℕ S D × Counters) → Type 0
  ItemCounted n found = IfOk found (λ x. x.0.1 ≡ count n x.0.0)

  abbrev pub Counted : Counters → Read R T B (List (Item A B ℕ S D) × Counters) → Type 0
  Counted n found = IfOk found (λ x. x.0.1 ≡ counted n x.0.0)

  -- items that draw no number
  abbrev pub Uncounted : Read R T B (List (Item A B ℕ S D)) → Type 0
  Uncounted found = IfOk found (λ x. (n : Counters) → counted n x.0 ≡ n)

  recipe_counted : (quiet : Bool) (ws : List W) (n : Counters) (s : State R T B) (h : ReadHeader T A B S) (m : Counters) (b : CommentedBody leaves)
      → m ≡ after_parameters n h.parameters → ItemCounted n (next_recipe_number leaves m s >>= headed leaves kept quiet ws h b)
  unfolding next_recipe_number
  recipe_counted quiet ws n s h m b is =
      after_test (leaves.has_number m.recipes) _ _ (λ (o : Read R T B (ℕ × Counters)). ItemCounted n (o >>= headed leaves kept quiet ws h b))
      (λ _. ap (λ (m : Counters). with_recipes (m.recipes + 1) m) is
      ∙ ap (λ (k : ℕ). with_recipes (k + 1) (after_parameters n h.parameters)) (parameters_recipes n h.parameters)) (λ _. tt)

  abbrev Q : Counters → Item A B ℕ S D × Counters → Type 0
  Q n x = x.1 ≡ count n x.0

  alias_counts : (ws : List W) (n : Counters) (s : State R T B) → ItemCounted n (alias leaves kept ws n s)
  unfolding alias
  alias_counts ws n s =
      after_all (expect leaves kinds.Identifier s) _ (Q n) (λ name _. after_all (expect leaves kinds.ColonEquals name.1) _ (Q n) (λ operator _.
      after_all (r.path leaves operator.1) _ (Q n) (λ target _. after_all (check_allowed leaves kept item_kinds.Alias ws name.0 target.1) _ (Q n) (λ checked _. refl))))

  function_counts : (ws : List W) (n : Counters) (s : State R T B) → ItemCounted n (function leaves kept ws n s)
  unfolding function
  function_counts ws n s =
      after_all (expect leaves kinds.Identifier s) _ (Q n) (λ name _. after_all (check_allowed leaves kept item_kinds.Function ws name.0 name.1) _ (Q n) (λ checked _.
      after_all (expect leaves kinds.ParenL checked.1) _ (Q n) (λ opener _. after_all (names leaves (n, opener.1)) _ (Q n) (λ parameters is.
      after_all (expect leaves kinds.ColonEquals parameters.1) _ (Q n) (λ operator _. after_all (expression leaves operator.1) _ (Q n) (λ body _.
      known parameters (λ x. x.0.1 ≡ after_parameters n x.0.0) is (names_count leaves (n, opener.1))))))))

  imported_counts : (optional : Bool) (ws : List W) (n : Counters) (s : State R T B) → ItemCounted n (imported leaves kept optional ws n s)
  unfolding imported
  imported_counts optional ws n s =
      after_all (file_path leaves s) _ (Q n) (λ path _. after_all (check_allowed leaves kept item_kinds.Import ws path.0.0 path.1) _ (Q n) (λ checked _. refl))

  named_module_counts : (optional : Bool) (ws : List W) (n : Counters) (s : State R T B) → ItemCounted n (named_module leaves kept optional ws n s)
  unfolding named_module
  named_module_counts optional ws n s =
      after_all (expect leaves kinds.Identifier s) _ (Q n) (λ name _. after_all (optional_path leaves name.1) _ (Q n) (λ path _.
      after_all (check_allowed leaves kept item_kinds.Module ws name.0 path.1) _ (Q n) (λ checked _. refl)))

  setting_counts : (ws : List W) (n : Counters) (s : State R T B) → ItemCounted n (setting leaves kept ws n s)
  unfolding setting
  setting_counts ws n s =
      after_all (expect leaves kinds.Identifier s) _ (Q n) (λ name _. after_all (setting_keyword leaves name.0 name.1) _ (Q n) (λ keyword _.
      after_all (check_allowed leaves kept item_kinds.Setting ws name.0 keyword.1) _ (Q n) (λ checked _.
      after_all (setting_value leaves kept.view name.0 keyword.0 (setting_form keyword.0) checked.1) _ (Q n) (λ value _. refl))))

  unexport_counts : (ws : List W) (n : Counters) (s : State R T B) → ItemCounted n (unexport leaves kept ws n s)
  unfolding unexport
  unexport_counts ws n s =
      after_all (expect leaves kinds.Identifier s) _ (Q n) (λ name _. after_all (check_allowed leaves kept item_kinds.Unexport ws name.0 name.1) _ (Q n) (λ checked _. refl))

  pub assignment_counts : (eager export : Bool) (ws : List W) (n : Counters) (s : State R T B) → ItemCounted n (assignment leaves kept eager export ws n s)
  unfolding assignment
  assignment_counts eager export ws n s =
      after_all (expect leaves kinds.Identifier s) _ (Q n) (λ name _. after_all (expect leaves kinds.ColonEquals name.1) _ (Q n) (λ operator _.
      after_all (expression leaves operator.1) _ (Q n) (λ e _. after_all (check_allowed leaves kept item_kinds.Assignment ws name.0 e.1) _ (Q n) (λ checked _.
      binding_drawn leaves n checked.1 _ (Q n) refl))))

  pub recipe_counts : (quiet : Bool) (ws : List W) (n : Counters) (s : State R T B) → ItemCounted n (recipe leaves kept quiet ws n s)
  unfolding recipe
  recipe_counts quiet ws n s =
      let rules = argument_rules leaves kept s.run ws in
      after_all (r.header leaves kept.view rules n s) _ (Q n) (λ h is. after_all (optional_body leaves h.1) _ (Q n) (λ b _.
      after_all (check_exclusions leaves kept ws h.0.0.name b.1) _ (Q n) (λ checked _.
      recipe_counted quiet ws n checked.1 h.0.0 h.0.1 b.0
      (known h (λ x. x.0.1 ≡ after_parameters n x.0.0.parameters) is (header_counts leaves kept.view rules n s)))))

  pub any_recipe_counts : (ws : List W) (n : Counters) (s : State R T B) → ItemCounted n (any_recipe leaves kept ws n s)
  unfolding any_recipe
  any_recipe_counts ws n s =
      after_choice (accept leaves kinds.At s) _ _ (Q n) (recipe_counts false ws n s) (λ at. recipe_counts true ws n at.1)

  wordless_counts : (ws : List W) (n : Counters) (s : State R T B) → ItemCounted n (without_keyword leaves kept ws n s)
  unfolding without_keyword
  wordless_counts ws n s =
      after_test (next_are leaves (kinds.Identifier ∷ kinds.ParenL ∷ []) s) _ _ (ItemCounted n) (λ _. function_counts ws n s)
      (λ _. after_test (peek_assignment leaves s) _ _ (ItemCounted n) (λ _. assignment_counts false false ws n s) (λ _. any_recipe_counts ws n s))

  content_counts : (ws : List W) (n : Counters) (s : State R T B) → ItemCounted n (content leaves kept ws n s)
  unfolding content import any_module
  content_counts ws n s =
      after_choice (accept_keyword_before leaves (codes "alias") (peek_assignment leaves) s) _ _ (Q n)
      (after_choice (accept_keyword_before leaves (codes "eager") (peek_assignment leaves) s) _ _ (Q n)
      (after_choice (accept_keyword_before leaves (codes "export") (peek_assignment leaves) s) _ _ (Q n)
      (after_choice (accept_keyword_before leaves (codes "unexport") (line_is leaves (kinds.Identifier ∷ [])) s) _ _ (Q n)
      (after_choice (accept_keyword_before leaves (codes "import") (is_imported leaves) s) _ _ (Q n)
      (after_choice (accept_keyword_before leaves (codes "mod") (is_module leaves) s) _ _ (Q n)
      (after_choice (accept_keyword_before leaves (codes "set") (is_set leaves) s) _ _ (Q n)
      (wordless_counts ws n s)
      (λ word. setting_counts ws n word.1))
      (λ word. named_module_counts (accepted leaves kinds.QuestionMark word.1).0 ws n (accepted leaves kinds.QuestionMark word.1).1))
      (λ word. imported_counts (accepted leaves kinds.QuestionMark word.1).0 ws n (accepted leaves kinds.QuestionMark word.1).1))
      (λ word. unexport_counts ws n word.1))
      (λ word. assignment_counts false true ws n word.1))
      (λ word. assignment_counts true false ws n word.1))
      (λ word. alias_counts ws n word.1)

  pub construct_counts : (n : Counters) (s : State R T B) → ItemCounted n (construct leaves kept n s)
  unfolding construct
  construct_counts n s = after_all (attributes leaves kept s) _ (Q n) (λ ws _. content_counts ws.0 n ws.1)

  pub on_line_counts : (n : Counters) (s : State R T B) → ItemCounted n (any_item leaves kept n s)
  unfolding any_item
  on_line_counts n s =
      after_choice (accept leaves kinds.Comment s) _ _ (Q n) (construct_counts n s) (λ c. refl)

  pub line_end_counts : (s : State R T B) → Uncounted (line_end leaves kept s)
  unfolding line_end
  line_end_counts s =
      let Q : List (Item A B ℕ S D) → Type 0 = λ x. (n : Counters) → counted n x ≡ n in
      after_choice (accept leaves kinds.Eof s) _ _ Q (after_all (expect leaves kinds.Eol s) _ Q (λ newline _ n. refl)) (λ x n. refl)

  pub item_rest_counts : (s : State R T B) → Uncounted (after_item leaves kept s)
  unfolding after_item
  item_rest_counts s =
      let Q : List (Item A B ℕ S D) → Type 0 = λ x. (n : Counters) → counted n x ≡ n in
      after_choice (accept leaves kinds.Comment s) _ _ Q (line_end_counts s)
      (λ c. after_all (line_end leaves kept c.1) _ Q (λ end is. known end (λ x. Q x.0) is (line_end_counts c.1)))

  pub ended_counts : (b : Bool) (s : State R T B) → Uncounted (item_end leaves kept b s)
  unfolding item_end
  ended_counts b s = after_test b _ _ Uncounted (λ _ n. refl) (λ _. item_rest_counts s)

  pub line_counts : (n : Counters) (s : State R T B) → Counted n (line leaves kept n s)
  unfolding line
  line_counts n s =
      let Q : List (Item A B ℕ S D) × Counters → Type 0 = λ x. x.1 ≡ counted n x.0 in
      after_choice (accept leaves kinds.Eol s) _ _ Q
      (after_all (any_item leaves kept n s) _ Q (λ i is. after_all (item_end leaves kept (has_body i.0.0) i.1) _ Q (λ b is2.
      known i (λ x. x.0.1 ≡ count n x.0.0) is (on_line_counts n s) ∙ sym (known b (λ x. (n : Counters) → counted n x.0 ≡ n) is2 (ended_counts (has_body i.0.0) i.1) (count n i.0.0)))))
      (λ newline. refl)

  end_counts : (n : Counters) (s : State R T B) (l : List T) → Counted n (end_of_tokens leaves kept n s l)
  end_counts n s [] = refl
  end_counts n s (t ∷ ts) = tt

  pub items_count : (n : Counters) (s : State R T B) → Counted n (items leaves kept n s)
  unfolding items_from items_rule after_numbered at_end
  items_count n s =
      loop_has (λ x. x.1) (items_rule leaves kept) (λ x found. Counted x.0 found) (λ x. tt) (λ f h x.
      let Q : List (Item A B ℕ S D) × Counters → Type 0 = λ y. y.1 ≡ counted x.0 y.0 in
      after_choice (accept leaves kinds.Eof x.1) _ _ Q
      (after_all (line leaves kept x.0 x.1) _ Q (λ l is. after_all (f (l.0.1, l.1)) _ Q (λ more is2.
      known more (λ y. y.0.1 ≡ counted l.0.1 y.0.0) is2 (h (l.0.1, l.1))
      ∙ ap (λ n. counted n more.0.0) (known l (λ y. y.0.1 ≡ counted x.0 y.0.0) is (line_counts x.0 x.1))
      ∙ sym (counted_both x.0 l.0.0 more.0.0))))
      (λ end. end_counts x.0 end.1 end.1.left)) (n, s)
