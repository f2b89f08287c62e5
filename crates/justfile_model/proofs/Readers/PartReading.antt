-- The parsers of the parts of items, one rule at a time: they leave fewer tokens, and the same fixed part and depth.
use Rattle.std.proofs.Common.{◌≡◌, ℕ, Bool, true, false, cond, List, [], ◌∷◌, Option, Some, None, Ok, Err, codes, refl, sym, ap}
use Rattle.justfile_vocabulary.specs.Keyword.{keyword_named}
use Rattle.justfile_vocabulary.specs.declared.keyword.Keyword.{Keyword}
use Rattle.justfile_vocabulary.specs.declared.token_kind.TokenKind.TheVariants as kinds
use Rattle.justfile_model.specs.declared.level.Level.TheVariants as levels
use Rattle.justfile_model.specs.Readers.ExpressionReader as expressions
use Rattle.justfile_model.specs.Readers.ExpressionReader.{is_within}
use Rattle.justfile_model.specs.Readers.HeaderReader.{next_binding_number, expression, obeying}
use Rattle.justfile_model.specs.LiteralTexts.Literals.{string_of}
use Rattle.justfile_model.specs.Readers.PartReader as r
use Rattle.justfile_model.specs.Readers.PartReader.{accept_keyword_before, after_numbered}
use Rattle.justfile_model.specs.Readers.ReaderState.{◌>>=◌, Counters, Leaves, Read, State, Taken, accept, accept_keyword, expect, is_word}
use Rattle.justfile_model.specs.Meanings.SettingRules.{value_broken}
use Rattle.justfile_model.specs.Grammars.Settings.{ExpressionForm, InterpreterForm, PlainForm, SettingForm, TruthForm}
use Rattle.justfile_model.specs.Trees.LeafView.{LeafView}
use Rattle.justfile_model.specs.Trees.Tree as tree
use Rattle.justfile_model.specs.Trees.Tree.{Exprs, Quoted, SettingValue}
use Rattle.justfile_model.proofs.Readers.ExpressionReading.{advances}
use Rattle.justfile_model.proofs.Readers.HeaderReading.{binding_keeps, expression_goes, obeying_keeps}
use Rattle.justfile_model.proofs.Readers.ReadingSteps.{Goes, Keeps, Past, Takes, accepts, accepts_word, after_test, bind_alike, choose_alike, cooks, either, either_goes, expects, first, keeps, loop_goes, loop_is, past, past_then, then, then_goes, there, weaken}

module _ {R T B X : Type 0} where
  pub numbered_keeps : (done : List X) (s : State R T B) (found : Read R T B (List X × Counters)) → Keeps s found → Keeps s (after_numbered done found)
  unfolding after_numbered
  numbered_keeps done s (Ok x) h = h
  numbered_keeps done s (Err e) h = tt

module _ {R T A B S : Type 0} (leaves : Leaves R T A B S) where
  -- a word that something follows is a word
  pub accepts_before : (word : List ℕ) (follows : State R T B → Bool) (s : State R T B) → Takes s (accept_keyword_before leaves word follows s)
  unfolding accept_keyword_before
  accepts_before word follows s = go (accept_keyword leaves word s) (accepts_word leaves word s)
    where
      kept_if : (b : Bool) (w : T × State R T B) → Past s w.1 → Takes s (cond b (Some w) None)
      kept_if true w h p e =
          let same : ◌≡◌ {A = T × State R T B} w p = cc in
          rw (sym same) h
      kept_if false w h p e = cc

      go : (o : Taken R T B) → Takes s o → Takes s (r.if_follows leaves follows o)
      go None t p e = cc
      go (Some w) t p e = kept_if (follows w.1) w (t w refl) p e

  -- ---- paths of files

  pub expansion_mark_keeps : (s : State R T B) → Keeps s (r.expansion_mark leaves s)
  unfolding r.expansion_mark
  expansion_mark_keeps s =
      either s (accept leaves kinds.Identifier s) _ _ (accepts leaves kinds.Identifier s) (there s)
      (λ mark. after_test (is_word (codes "x") (leaves.see mark.0)) _ _ (Keeps {X = Bool} mark.1) (λ _. there mark.1) (λ _. tt))

  pub file_path_goes : (s : State R T B) → Goes s (r.file_path leaves s)
  unfolding r.file_path
  file_path_goes s =
      then_goes s (r.expansion_mark leaves s) _ (expansion_mark_keeps s) (λ mark.
      first mark.1 (expect leaves kinds.StringToken mark.1) _ (expects leaves kinds.StringToken mark.1) (λ literal.
      then literal.1 (expressions.cooked leaves (r.quoted_of leaves mark.0) (string_of mark.0) literal) _ (cooks leaves (r.quoted_of leaves mark.0) (string_of mark.0) literal)
      (λ path. there path.1)))

  pub optional_path_keeps : (s : State R T B) → Keeps s (r.optional_path leaves s)
  unfolding r.optional_path
  optional_path_keeps s =
      after_test (r.begins_path leaves s) _ _ (Keeps {X = Option (Quoted A)} s)
      (λ _. then s (r.file_path leaves s) _ (keeps s _ (file_path_goes s)) (λ path. there path.1)) (λ _. there s)

  -- ---- the parameters of functions

  abbrev pub NamesPlace : Type 0
  NamesPlace = Counters × State R T B

  pub numbered_name_goes : (n : Counters) (s : State R T B) → Goes s (r.numbered_name leaves n s)
  unfolding r.numbered_name
  numbered_name_goes n s =
      first s (expect leaves kinds.Identifier s) _ (expects leaves kinds.Identifier s) (λ name.
      then name.1 (next_binding_number leaves n name.1) _ (binding_keeps leaves n name.1) (λ number. there number.1))

  pub names_go : (x : NamesPlace) → Goes x.1 (r.names leaves x)
  unfolding r.names r.names_rule r.names_end
  names_go =
      loop_goes (λ x. x.1) (r.names_rule leaves) (λ f h x.
      either_goes x.1 (accept leaves kinds.ParenR x.1) _ _ (accepts leaves kinds.ParenR x.1)
      (first x.1 (r.numbered_name leaves x.0 x.1) _ (numbered_name_goes x.0 x.1) (λ name.
      numbered_keeps (name.0.0 ∷ []) name.1 _ (either name.1 (accept leaves kinds.Comma name.1) _ _ (accepts leaves kinds.Comma name.1)
      (then name.1 (expect leaves kinds.ParenR name.1) _ (keeps name.1 _ (expects leaves kinds.ParenR name.1)) (λ closer. there closer.1)) (λ comma. keeps comma.1 _ (h (name.0.1, comma.1))))))
      (λ closer. there closer.1))

  pub names_is : (x : NamesPlace) → r.names leaves x ≡ r.names_rule leaves (r.names leaves) x
  unfolding r.names r.names_rule
  names_is x =
      loop_is (λ x. x.1) (r.names_rule leaves) (λ x f g same.
      choose_alike (accept leaves kinds.ParenR x.1) _ _ _ _
      (λ _. bind_alike (r.numbered_name leaves x.0 x.1) _ _ (λ name is. ap (after_numbered (name.0.0 ∷ []))
      (choose_alike (accept leaves kinds.Comma name.1) _ _ _ _ (λ _. refl)
      (λ comma taken. same (name.0.1, comma.1)
      (past_then x.1 name.1 comma.1 (past x.1 _ name (numbered_name_goes x.0 x.1) is) (weaken name.1 comma.1 (accepts leaves kinds.Comma name.1 comma taken))).0))))
      (λ _ _. refl)) x

  -- ---- settings

  keyword_or_none_keeps : (name : T) (s : State R T B) (o : Option Keyword) → Keeps s (r.keyword_or_none leaves name s o)
  keyword_or_none_keeps name s None = tt
  keyword_or_none_keeps name s (Some keyword) = there s

  pub keyword_at_keeps : (name : T) (s : State R T B) → Keeps s (r.setting_keyword leaves name s)
  unfolding r.setting_keyword
  keyword_at_keeps name s = keyword_or_none_keeps name s (keyword_named (leaves.see name).tok.lexeme)

  truth_of_keeps : (word : T × State R T B) → Keeps word.1 (r.truth_of leaves word)
  unfolding r.truth_of
  truth_of_keeps word =
      after_test (is_word (codes "true") (leaves.see word.0)) _ _ (Keeps {X = SettingValue A B} word.1) (λ _. there word.1)
      (λ _. after_test (is_word (codes "false") (leaves.see word.0)) _ _ (Keeps {X = SettingValue A B} word.1) (λ _. there word.1) (λ _. tt))

  pub truth_keeps : (s : State R T B) → Keeps s (r.truth leaves s)
  unfolding r.truth
  truth_keeps s =
      either s (accept leaves kinds.ColonEquals s) _ _ (accepts leaves kinds.ColonEquals s) (there s)
      (λ operator. then operator.1 (expect leaves kinds.Identifier operator.1) _ (keeps operator.1 _ (expects leaves kinds.Identifier operator.1)) truth_of_keeps)

  some_command_keeps : (from : State R T B) (es : Exprs A B) (s : State R T B) → Keeps s (r.some_command leaves from (es, s))
  some_command_keeps from tree.none s = after_test (is_within (leaves.conditions from.run).limit levels.Expression from) _ _ (Keeps s) (λ _. tt) (λ _. tt)
  some_command_keeps from (tree.more e es) s = there s

  pub interpreter_goes : (s : State R T B) → Goes s (r.interpreter leaves s)
  unfolding r.interpreter
  interpreter_goes s =
      first s (expect leaves kinds.BracketL s) _ (expects leaves kinds.BracketL s) (λ opener.
      then opener.1 (expressions.read leaves (expressions.Sequence kinds.BracketR opener.1)) _ (keeps opener.1 _ (advances leaves (expressions.Sequence kinds.BracketR opener.1)))
      (λ es. some_command_keeps opener.1 es.0 es.1))

  pub expression_value_goes : (s : State R T B) → Goes s (r.expression_value leaves s)
  unfolding r.expression_value
  expression_value_goes s = first s (expression leaves s) _ (expression_goes leaves s) (λ e. there e.1)

  module _ (view : R → LeafView A B) (name : T) (keyword : Keyword) where
    pub plain_value_goes : (s : State R T B) → Goes s (r.plain_value leaves view name keyword s)
    unfolding r.plain_value
    plain_value_goes s =
        first s (r.expression_value leaves s) _ (expression_value_goes s) (λ value.
        let rules = value_broken (leaves.conditions value.1.run).current (view value.1.run) (Some PlainForm) keyword (leaves.position name) value.0 in
        then value.1 (obeying rules value.1) _ (obeying_keeps rules value.1) (λ checked. there checked.1))

    assigned_value_keeps : (form : Option SettingForm) (s : State R T B) → Keeps s (r.assigned_value leaves view name keyword form s)
    assigned_value_keeps (Some TruthForm) s = tt
    assigned_value_keeps (Some ExpressionForm) s = keeps s _ (expression_value_goes s)
    assigned_value_keeps (Some InterpreterForm) s = keeps s _ (interpreter_goes s)
    assigned_value_keeps (Some PlainForm) s = keeps s _ (plain_value_goes s)
    assigned_value_keeps None s = tt

    after_operator : (form : Option SettingForm) (s : State R T B)
        → Keeps s (expect leaves kinds.ColonEquals s >>= λ operator. r.assigned_value leaves view name keyword form operator.1)
    after_operator form s =
        then s (expect leaves kinds.ColonEquals s) _ (keeps s _ (expects leaves kinds.ColonEquals s)) (λ operator. assigned_value_keeps form operator.1)

    pub setting_value_keeps : (form : Option SettingForm) (s : State R T B) → Keeps s (r.setting_value leaves view name keyword form s)
    setting_value_keeps (Some TruthForm) s = truth_keeps s
    setting_value_keeps (Some ExpressionForm) s = after_operator (Some ExpressionForm) s
    setting_value_keeps (Some InterpreterForm) s = after_operator (Some InterpreterForm) s
    setting_value_keeps (Some PlainForm) s = after_operator (Some PlainForm) s
    setting_value_keeps None s = after_operator None s
