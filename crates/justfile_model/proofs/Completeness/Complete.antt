-- If tokens derive, where the depth limit doesn't apply to expressions that begin at some tokens, they are parsed, or the error is a
-- literal without a text or the depth at one of these tokens.
use Rattle.std.proofs.Common.{◌≡◌, ℕ, ◌+◌, Bool, true, false, ◌||◌, List, [], ◌∷◌, ◌++◌, Option, None, Some, Ok, Err, refl, sym, subst, ap, ◌∙◌, append_assoc, append-nil, arith, codes}
use Rattle.justfile_vocabulary.specs.Keyword.{keyword_named, keyword_text}
use Rattle.justfile_vocabulary.specs.declared.item_kind.ItemKind.TheVariants as item_kinds
use Rattle.justfile_vocabulary.specs.declared.keyword.Keyword.{Keyword}
use Rattle.justfile_vocabulary.specs.declared.token_kind.TokenKind.TheVariants as kinds
use Rattle.justfile_vocabulary.proofs.KeywordLaws.{spelled}
use Rattle.justfile_model.specs.Grammars.AttributeLines as lines_of
use Rattle.justfile_model.specs.Grammars.AttributeLines.{AttributeLines}
use Rattle.justfile_model.specs.Meanings.AttributeRules.{allowed_broken, arg_rules, attributes_broken, of_some}
use Rattle.justfile_model.specs.Grammars.Conditions.{Conditions}
use Rattle.justfile_model.specs.Meanings.ConstructRules.{form_broken, meaning_broken}
use Rattle.justfile_model.specs.Meanings.Meaning.{entries_of}
use Rattle.justfile_model.specs.Meanings.ReadAttribute.{ReadAttribute, token_view}
use Rattle.justfile_model.specs.Meanings.RecipeRules.{exclusions_broken, header_broken, options_broken, parameters_broken, recipe_broken, undefined_broken}
use Rattle.justfile_model.specs.Meanings.Rules.{Broken}
use Rattle.justfile_model.specs.Lexing.Tok.{Tok}
use Rattle.justfile_model.specs.Lexing.SignificantTokens.{SignificantToken}
use Rattle.justfile_model.specs.Trees.Tree as tree
use Rattle.justfile_model.specs.Trees.Tree.{BodyLine, Construct, Content, Entry, Fragment, Expr, Header, Parameter, Quoted, SettingValue, WrittenAttribute, WrittenItem, WrittenTree, bare_recipe, itself, assignment_of, bare_module, trimmed}
use Rattle.justfile_model.specs.Grammars.Features.{ConstructFeatures, Noted}
use Rattle.justfile_model.specs.Grammars.Expressions.{Tokens, Expression, IsKind, IsWord, NotNext, PastLimitAt}
use Rattle.justfile_model.specs.Grammars.Grammar as g
use Rattle.justfile_model.specs.Grammars.Grammar.{LineRest, BeforeBody, BodyLines, OnLine, Block, Items, ItemRest, LineEnd, File, NotEmpty}
use Rattle.justfile_model.specs.Readers.HeaderReader.{ReadHeader, next_binding_number, obeying}
use Rattle.justfile_model.specs.Grammars.Headers as headers
use Rattle.justfile_model.specs.Grammars.Headers.{HeaderOf, NamedHeader, PathOf}
use Rattle.justfile_model.specs.Grammars.ItemParts.{FilePath, Names, NoPath, ValueOf}
use Rattle.justfile_model.specs.Meanings.SettingRules.{value_broken}
use Rattle.justfile_model.specs.Grammars.Settings.{SettingForm, setting_form}
use Rattle.justfile_model.specs.LiteralTexts.Literals.{Literal}
use Rattle.justfile_model.specs.Grammars.Files.{all_features, all_literals, body_literals, broken, construct_features, content_literals, entries_features, fragments_literals, item_broken, item_literals, to_tokens, written_literals}
use Rattle.justfile_model.specs.Readers.ReaderState.{Counters, ◌>>=◌, accepted, comment_in, next_are, prepend}
use Rattle.std.specs.Option.{option_map}
use Rattle.justfile_model.specs.Readers.Reader as reader
use Rattle.justfile_model.specs.Readers.PartReader.{after_numbered, setting_keyword, setting_value}
use Rattle.justfile_model.specs.Readers.Reader.{alias, any_module, any_recipe, assignment, at_end, attributes, before_item, construct, constructed, content, entries_read, headed, after_item, body, body_after, optional_body, body_line, comment_item, next_recipe_number, item_end, fragment, function, has_body, import, imported, items, items_rule, line, line_end, line_rest, line_rest_rule, lines, lines_rule, named_module, check_exclusions, any_item, recipe, setting, some_lines, stands_alone, unexport, with_recipes, without_keyword}
use Rattle.justfile_model.specs.Readers.TreeReader.{Read, State, tree_of_tokens, token_attributes, token_leaves, unnumbered}
use Rattle.justfile_model.proofs.Completeness.AttributeComplete.{attributes_reached}
use Rattle.justfile_model.proofs.Completeness.AttributeCovers as covers
use Rattle.justfile_model.proofs.Completeness.AttributeCovers.{AreReadings, readings_mean, readings_written}
use Rattle.justfile_model.proofs.Sound.AttributeSound.{written_in}
use Rattle.justfile_model.proofs.Derivations.Beginnings.{Begins, attributes_begin, block_begins, line_begins}
use Rattle.justfile_model.proofs.Derivations.CookedTexts.{trimmed_literals}
use Rattle.justfile_model.proofs.Readers.Counters.{after_parameters, count, count_content, counted, parameters_recipes}
use Rattle.justfile_model.proofs.Completeness.ExpressionDeep.{expression_deep}
use Rattle.justfile_model.proofs.Completeness.HeaderComplete.{CoversHeader, IsHeader, header_reached, obeying_reached, path_read}
use Rattle.justfile_model.proofs.Completeness.HeaderCovers.{not_there, parameters_start}
use Rattle.justfile_model.proofs.Completeness.PartComplete.{ends_pathless, file_path_reached, module_follows, names_read, no_path_read, path_begins, path_reached, path_token_is, path_unmarked, setting_follows, value_reached}
use Rattle.justfile_model.proofs.Readers.WordsComplete.{another_follows, assigned_taken, keyword_read, line_taken, no_word_read, none_read, or_true, parameters_follow, parameters_uncalled}
use Rattle.justfile_model.proofs.Completeness.Reaching.{Reaches, is_read, by, renoted, then, pass}
use Rattle.justfile_model.proofs.Completeness.ReachingRules as r
use Rattle.justfile_model.proofs.Completeness.ReachingRules.{Among, IsAt, ReachesOne, ReachesSome, all_among, among_first, among_others}
use Rattle.justfile_model.proofs.Readers.ItemReading.{items_is, line_rest_is, lines_is}
use Rattle.justfile_model.proofs.Readers.Steps.{input, AreNext, accept_taken, accept_left, next_taken, next_left, expect_taken}

module _ (conditions : Conditions) (MayEnter : ℕ → Option SignificantToken → Type 0) where
  -- an item without a body
  data Stands : WrittenItem Tok Tok ℕ Tok → List (Noted Tok) → Tokens → Tokens → Type 0 where
    of_comment : {t : SignificantToken} {rest : Tokens} → IsKind kinds.Comment t → Stands (comment_item token_leaves token_attributes t) [] (t ∷ rest) rest
    of_line : {ws : List (WrittenAttribute Tok Tok)} {c : Content Tok Tok ℕ Tok} {gs fs : List (Noted Tok)} {ts header rest : Tokens}
        → AttributeLines itself itself MayEnter ws gs ts header → OnLine to_tokens MayEnter c fs header rest
        → Stands (Construct ws c) (construct_features (token_view conditions) ws c (record { attributes = gs; content = fs })) ts rest

module _ {conditions : Conditions} {MayEnter : ℕ → Option SignificantToken → Type 0} where
  no_end_of_file : {i : WrittenItem Tok Tok ℕ Tok} {fs : List (Noted Tok)} {ts rest : Tokens} → Stands conditions MayEnter i fs ts rest → NotNext kinds.Eof ts
  no_end_of_file (of_comment kind) = λ e. cc
  no_end_of_file (of_line a o) = (attributes_begin a (line_begins o)).no_file_end

  no_end_of_line : {i : WrittenItem Tok Tok ℕ Tok} {fs : List (Noted Tok)} {ts rest : Tokens} → Stands conditions MayEnter i fs ts rest → NotNext kinds.Eol ts
  no_end_of_line (of_comment kind) = λ e. cc
  no_end_of_line (of_line a o) = (attributes_begin a (line_begins o)).no_line_end

  has_none : {i : WrittenItem Tok Tok ℕ Tok} {fs : List (Noted Tok)} {ts rest : Tokens} → Stands conditions MayEnter i fs ts rest → has_body i ≡ false
  has_none (of_comment kind) = refl
  has_none (of_line a (g.alias is kind kind2 p)) = refl
  has_none (of_line a _) = refl

module _ {MayEnter : ℕ → Option SignificantToken → Type 0} where
  no_comment : {items : WrittenTree} {fs : List (ConstructFeatures Tok)} {ts : Tokens} → LineEnd to_tokens MayEnter items fs ts → NotNext kinds.Comment ts
  no_comment (g.line_end kind more) = λ e. cc
  no_comment (g.file_end kind) = λ e. cc

  no_mark : {items : WrittenTree} {fs : List (ConstructFeatures Tok)} {ts : Tokens} → Items to_tokens MayEnter items fs ts → NotNext kinds.ByteOrderMark ts
  no_mark (g.end kind) = λ e. cc
  no_mark (g.blank kind more) = λ e. cc
  no_mark (g.comment kind more) = λ e. cc
  no_mark (g.on_line a o more) = (attributes_begin a (line_begins o)).no_mark
  no_mark (g.block a b more) = (attributes_begin a (block_begins b)).no_mark

  no_indent : {items : WrittenTree} {fs : List (ConstructFeatures Tok)} {ts : Tokens} → Items to_tokens MayEnter items fs ts → NotNext kinds.Indent ts
  no_indent (g.end kind) = λ e. cc
  no_indent (g.blank kind more) = λ e. cc
  no_indent (g.comment kind more) = λ e. cc
  no_indent (g.on_line a o more) = (attributes_begin a (line_begins o)).no_indent
  no_indent (g.block a b more) = (attributes_begin a (block_begins b)).no_indent

  no_dedent : {f : Fragment Tok Tok} {fragments : List (Fragment Tok Tok)} {fs : List (Noted Tok)} {ts rest : Tokens} → LineRest itself itself MayEnter (f ∷ fragments) fs ts rest → NotNext kinds.Dedent ts
  no_dedent (g.text kind l) = λ e. cc
  no_dedent (g.interpolation kind e kind2 l) = λ e. cc

-- no body begins
record NoBody (ts : Tokens) : Type 0 where
  at_once : AreNext (kinds.Eol ∷ kinds.Indent ∷ []) ts → ⊥
  commented : AreNext (kinds.Comment ∷ kinds.Eol ∷ kinds.Indent ∷ []) ts → ⊥

module _ {MayEnter : ℕ → Option SignificantToken → Type 0} where
  no_body_ends : {items : WrittenTree} {fs : List (ConstructFeatures Tok)} {ts : Tokens} → LineEnd to_tokens MayEnter items fs ts → NoBody ts
  no_body_ends (g.line_end {rest = rest} kind more) = record { at_once = λ h. not_there kinds.Indent rest (no_indent more) h.1; commented = λ h. cc }
  no_body_ends (g.file_end kind) = record { at_once = λ h. cc; commented = λ h. cc }

  no_body_after : {items : WrittenTree} {fs : List (ConstructFeatures Tok)} {ts : Tokens} → ItemRest to_tokens MayEnter items fs ts → NoBody ts
  no_body_after (g.trailing {rest = rest} kind e) = record { at_once = λ h. cc; commented = λ h. (no_body_ends e).at_once h.1 }
  no_body_after (g.bare e) = no_body_ends e

module _ (conditions : Conditions) (Hit : Option SignificantToken → Type 0) where
  -- ---- the parser follows the derivation

  fragments_reached : (ns : List (Noted Tok)) {fragments : List (Fragment Tok Tok)} {fs : List (Noted Tok)} {ts rest : Tokens} → LineRest itself itself (PastLimitAt conditions.limit Hit) fragments fs ts rest
      → Reaches conditions Hit (line_rest token_leaves (input conditions 0 ts ns)) (fragments, input conditions 0 rest (ns ++ fs)) (fragments_literals fragments)
  unfolding line_rest_rule fragment prepend
  fragments_reached ns (g.line_ends {token = t} {rest = rest} kind) =
      renoted conditions Hit (sym (append-nil ns)) (is_read tt (line_rest_is token_leaves (input conditions 0 (t ∷ rest) ns) ∙ rw (accept_taken kinds.Eol t rest conditions 0 ns kind) refl))
  fragments_reached ns (g.body_ends {token = t} {rest = rest} kind) =
      renoted conditions Hit (sym (append-nil ns)) (is_read tt
      (line_rest_is token_leaves (input conditions 0 (t ∷ rest) ns) ∙ rw (accept_left kinds.Eol (t ∷ rest) conditions 0 ns (λ e. cc), next_taken (kinds.Dedent ∷ []) (input conditions 0 (t ∷ rest) ns) (kind, tt)) refl))
  fragments_reached ns (g.text {token = t} {tokens = ts} kind l) =
      by conditions Hit (line_rest_is token_leaves (input conditions 0 (t ∷ ts) ns))
      (rw (accept_left kinds.Eol (t ∷ ts) conditions 0 ns (λ e. cc), next_left (kinds.Dedent ∷ []) (input conditions 0 (t ∷ ts) ns) (λ h. cc), accept_taken kinds.Text t ts conditions 0 ns kind)
      (pass conditions Hit _ (fragments_reached ns l) refl))
  fragments_reached ns (g.interpolation {es = es} {fs = fs} {start = start} {end = end} {tokens = ts} {others = left} kind v kind2 l) =
      renoted conditions Hit (append_assoc ns es fs) (by conditions Hit (line_rest_is token_leaves (input conditions 0 (start ∷ ts) ns))
      (rw (
        accept_left kinds.Eol (start ∷ ts) conditions 0 ns (λ e. cc),
        next_left (kinds.Dedent ∷ []) (input conditions 0 (start ∷ ts) ns) (λ h. cc),
        accept_left kinds.Text (start ∷ ts) conditions 0 ns (λ e. cc),
        expect_taken kinds.InterpolationStart start ts conditions 0 ns kind,
      )
      (then conditions Hit _ (pass conditions Hit _ (expression_deep conditions Hit ns false (omega arith) v) (rw (expect_taken kinds.InterpolationEnd end left conditions 0 (ns ++ es) kind2) refl)) (pass conditions Hit _ (fragments_reached (ns ++ es) l) refl))))

  lines_reached : (ns : List (Noted Tok)) {ls : List (BodyLine Tok Tok ℕ)} {fs : List (Noted Tok)} {ts rest : Tokens} → BodyLines to_tokens (PastLimitAt conditions.limit Hit) ls fs ts rest
      → Reaches conditions Hit (lines token_leaves (input conditions 0 ts ns)) (ls, input conditions 0 rest (ns ++ fs)) (body_literals ls)
  unfolding lines_rule body_line prepend
  lines_reached ns (g.no_line {token = t} {rest = rest} kind) =
      renoted conditions Hit (sym (append-nil ns)) (is_read tt (lines_is token_leaves (input conditions 0 (t ∷ rest) ns) ∙ rw (accept_taken kinds.Dedent t rest conditions 0 ns kind) refl))
  lines_reached ns (g.empty_line {token = t} {tokens = ts} kind h) =
      by conditions Hit (lines_is token_leaves (input conditions 0 (t ∷ ts) ns))
      (rw (accept_left kinds.Dedent (t ∷ ts) conditions 0 ns (λ e. cc))
      (then conditions Hit _ (pass conditions Hit _ (renoted conditions Hit (append-nil ns) (fragments_reached ns (g.line_ends kind))) refl) (pass conditions Hit _ (lines_reached ns h) refl)))
  lines_reached ns (g.some_line {fs = fs} {gs = gs} {first = t} {tokens = ts} l h) =
      renoted conditions Hit (append_assoc ns fs gs) (by conditions Hit (lines_is token_leaves (input conditions 0 (t ∷ ts) ns))
      (rw (accept_left kinds.Dedent (t ∷ ts) conditions 0 ns (no_dedent l))
      (then conditions Hit _ (pass conditions Hit _ (fragments_reached ns l) refl) (pass conditions Hit _ (lines_reached (ns ++ fs) h) refl))))

  some_read : (ls : List (BodyLine Tok Tok ℕ)) (rest : State) → NotEmpty ls → some_lines token_leaves ls rest ≡ Ok (ls, rest)
  some_read [] rest some = absurd some
  some_read (l ∷ ls) rest some = refl

  abbrev BodyReached : (State → Read (List (BodyLine Tok Tok ℕ))) → List (BodyLine Tok Tok ℕ) → State → State → Type 0
  BodyReached rule ls s rest = Reaches conditions Hit (rule s) (ls, rest) (body_literals ls)

  body_reached : (ns : List (Noted Tok)) {ls : List (BodyLine Tok Tok ℕ)} {fs : List (Noted Tok)} {ts rest : Tokens} → BodyLines to_tokens (PastLimitAt conditions.limit Hit) ls fs ts rest → NotEmpty (trimmed ls)
      → BodyReached (body token_leaves) (trimmed ls) (input conditions 0 ts ns) (input conditions 0 rest (ns ++ fs))
  unfolding body
  body_reached ns {ls = ls} {fs = fs} {rest = rest} h some = rw (trimmed_literals ls) (pass conditions Hit _ (lines_reached ns h) (some_read (trimmed ls) (input conditions 0 rest (ns ++ fs)) some))

  -- a body and the comment before it are read, or there is neither
  record BodyFound (comment : Option (List ℕ)) (ls : List (BodyLine Tok Tok ℕ)) (s rest : State) : Type 0 where
    token : Option SignificantToken
    says : option_map (comment_in token_leaves) token ≡ comment
    reached : Reaches conditions Hit (optional_body token_leaves s) ((token, ls), rest) (body_literals ls)

  after_reached : (token : Option SignificantToken) (ls : List (BodyLine Tok Tok ℕ)) (s rest : State) → BodyReached (body token_leaves) ls s rest
      → Reaches conditions Hit (body_after token_leaves token s) ((token, ls), rest) (body_literals ls)
  unfolding body_after
  after_reached token ls s rest h = pass conditions Hit _ h refl

  optional_body_reached : (ns : List (Noted Tok)) {ls : List (BodyLine Tok Tok ℕ)} {fs : List (Noted Tok)} {comment : Option (List ℕ)} {ts between rest : Tokens} → BeforeBody comment ts between → BodyLines to_tokens (PastLimitAt conditions.limit Hit) ls fs between rest
      → NotEmpty (trimmed ls) → BodyFound comment (trimmed ls) (input conditions 0 ts ns) (input conditions 0 rest (ns ++ fs))
  unfolding optional_body
  optional_body_reached ns {ls = ls} (g.at_once {newline = t} {indent = u} {rest = between} kind kind2) h some = record {
    token = None;
    says = refl;
    reached = rw (next_taken (kinds.Eol ∷ kinds.Indent ∷ []) (input conditions 0 (t ∷ u ∷ between) ns) (kind, (kind2, tt)))
        (after_reached None (trimmed ls) _ _ (body_reached ns h some));
  }
  optional_body_reached ns {ls = ls} (g.commented {comment = c} {newline = t} {indent = u} {rest = between} kind kind2 kind3) h some = record {
    token = Some c;
    says = refl;
    reached = rw (
      next_left (kinds.Eol ∷ kinds.Indent ∷ []) (input conditions 0 (c ∷ t ∷ u ∷ between) ns) (λ h. cc),
      next_taken (kinds.Comment ∷ kinds.Eol ∷ kinds.Indent ∷ []) (input conditions 0 (c ∷ t ∷ u ∷ between) ns) (kind, (kind2, (kind3, tt))),
    ) (after_reached (Some c) (trimmed ls) _ _ (body_reached ns h some));
  }

  no_body_read : (s : State) → NoBody s.left → optional_body token_leaves s ≡ Ok ((None, []), s)
  unfolding optional_body
  no_body_read s none = rw (next_left (kinds.Eol ∷ kinds.Indent ∷ []) s none.at_once, next_left (kinds.Comment ∷ kinds.Eol ∷ kinds.Indent ∷ []) s none.commented) refl

  -- ---- items, if the next tokens don't begin a body

  abbrev recipe_content : Header Tok Tok Tok → Option (List ℕ) → List (BodyLine Tok Tok ℕ) → Content Tok Tok ℕ Tok
  recipe_content h comment ls = tree.Recipe (bare_recipe h comment ls)

  -- what the attributes mean that were read
  abbrev meant_by : List ReadAttribute → List (Entry Tok Tok)
  meant_by xs = entries_read token_leaves token_attributes conditions xs

  -- what a construct breaks beside its attributes
  abbrev breaks_by : List ReadAttribute → Content Tok Tok ℕ Tok → List (Broken Tok)
  breaks_by xs c = meaning_broken (token_view conditions) c (meant_by xs) ++ form_broken conditions.current (token_view conditions) c

  -- what its attributes note at the name of a recipe
  abbrev noted_by : List ReadAttribute → Content Tok Tok ℕ Tok → List (Noted Tok)
  noted_by xs c = entries_features c (meant_by xs)

  -- the construct is parsed after these attributes, or a due error is reported
  abbrev ContentReached : List ReadAttribute → Content Tok Tok ℕ Tok → State → State → Type 0
  ContentReached xs c s rest =
      (n : Counters) → ReachesOne conditions Hit (content token_leaves token_attributes xs n s) ((Construct (written_in xs) c, count_content n c), rest)
      (content_literals c) (breaks_by xs c)

  -- what a header breaks is among what its recipe breaks
  header_covered : (xs : List ReadAttribute) (h : Header Tok Tok Tok) (comment : Option (List ℕ)) (ls : List (BodyLine Tok Tok ℕ))
      → CoversHeader conditions Hit (arg_rules (meant_by xs)) h (breaks_by xs (recipe_content h comment ls))
  header_covered xs h comment ls =
      let args = arg_rules (meant_by xs) in
      let options : List (Broken Tok) = options_broken (token_view conditions) h.name args in
      let each : List (Broken Tok) = parameters_broken (token_view conditions) args [] h.parameters in
      let undefined : List (Broken Tok) = undefined_broken (token_view conditions) h.parameters args in
      let exclusions : List (Broken Tok) = exclusions_broken (token_view conditions) h.name (meant_by xs) in
      let all = all_among (breaks_by xs (recipe_content h comment ls)) in
      let meaning = among_first (options ++ each ++ undefined ++ exclusions) (header_broken h) all in
      let rest_covered = among_first (options ++ each ++ undefined) exclusions meaning in
      let both = among_first (options ++ each) undefined rest_covered in
      record {
        options = among_first options each both;
        each = among_others options each both;
        undefined = among_others (options ++ each) undefined rest_covered;
        starred = among_others (options ++ each ++ undefined ++ exclusions) (header_broken h) all;
      }

  exclusions_covered : (xs : List ReadAttribute) (h : Header Tok Tok Tok) (comment : Option (List ℕ)) (ls : List (BodyLine Tok Tok ℕ))
      → Among (exclusions_broken (token_view conditions) h.name (meant_by xs)) (breaks_by xs (recipe_content h comment ls))
  exclusions_covered xs h comment ls =
      let args = arg_rules (meant_by xs) in
      let others : List (Broken Tok) = options_broken (token_view conditions) h.name args ++ parameters_broken (token_view conditions) args [] h.parameters
      ++ undefined_broken (token_view conditions) h.parameters args in
      among_others others (exclusions_broken (token_view conditions) h.name (meant_by xs))
      (among_first (recipe_broken (token_view conditions) h (meant_by xs)) (header_broken h) (all_among (breaks_by xs (recipe_content h comment ls))))

  -- a recipe after its attributes and its `@`
  abbrev RecipeReached : Bool → List ReadAttribute → Content Tok Tok ℕ Tok → State → State → Type 0
  RecipeReached quiet xs c s rest =
      (n : Counters) → ReachesOne conditions Hit (recipe token_leaves token_attributes quiet xs n s) ((Construct (written_in xs) c, count_content n c), rest)
      (content_literals c) (breaks_by xs c)

  counted_is : (n m : Counters) (ps : List (Parameter Tok Tok)) → m ≡ after_parameters n ps
      → with_recipes (m.recipes + 1) m ≡ with_recipes (n.recipes + 1) (after_parameters n ps)
  counted_is n m ps is =
      ap (λ (m : Counters). with_recipes (m.recipes + 1) m) is ∙ ap (λ (k : ℕ). with_recipes (k + 1) (after_parameters n ps)) (parameters_recipes n ps)

  -- a recipe that was read gets its number
  numbered_reached : (quiet : Bool) (xs : List ReadAttribute) (n : Counters) (h : Header Tok Tok Tok) (token : Option SignificantToken) (comment : Option (List ℕ))
      (ls : List (BodyLine Tok Tok ℕ)) (rest : Tokens)
      (noted : List (Noted Tok)) (x : ReadHeader SignificantToken Tok Tok Tok × Counters) → option_map (comment_in token_leaves) token ≡ comment
      → IsHeader conditions Hit (arg_rules (meant_by xs)) quiet h n x
      → ReachesOne conditions Hit
      (check_exclusions token_leaves token_attributes xs x.0.name (input conditions 0 rest noted) >>= λ checked. next_recipe_number token_leaves x.1 checked.1
      >>= headed token_leaves token_attributes quiet xs x.0 (token, ls))
      ((Construct (written_in xs) (recipe_content h comment ls), count_content n (recipe_content h comment ls)), input conditions 0 rest noted) []
      (breaks_by xs (recipe_content h comment ls))
  unfolding next_recipe_number
  numbered_reached quiet xs n h token comment ls rest noted x says is =
      let end : State = input conditions 0 rest noted in
      let rules : List (Broken Tok) = breaks_by xs (recipe_content h comment ls) in
      r.then_one conditions Hit _ _
      (obeying_reached conditions Hit (exclusions_broken (token_view conditions) x.0.name.tok (meant_by xs)) end
      (subst (λ (name : Tok). Among (exclusions_broken (token_view conditions) name (meant_by xs)) rules) (sym (ap (λ (h : Header Tok Tok Tok). h.name) is.0))
      (exclusions_covered xs h comment ls)))
      (r.read_now conditions Hit _ (λ i. ((Construct (written_in xs) (recipe_content (is.0 i) (says i) ls), counted_is n x.1 h.parameters is.1 i), end)) refl)

  recipe_reached : (quiet : Bool) (xs : List ReadAttribute) (ns : List (Noted Tok)) {h : Header Tok Tok Tok} {fs : List (Noted Tok)} {ts next : Tokens}
      (rest : Tokens) (noted : List (Noted Tok)) (comment : Option (List ℕ)) (ls : List (BodyLine Tok Tok ℕ)) → NamedHeader itself itself itself (PastLimitAt conditions.limit Hit) quiet h fs ts next
      → BodyFound comment ls (input conditions 0 next (ns ++ (noted_by xs (recipe_content h comment ls) ++ fs))) (input conditions 0 rest noted)
      → RecipeReached quiet xs (recipe_content h comment ls) (input conditions 0 ts ns) (input conditions 0 rest noted)
  unfolding recipe
  recipe_reached quiet xs ns {h = h} {fs = fs} rest noted comment ls q b n =
      let args = arg_rules (meant_by xs) in
      r.then_at conditions Hit _ _ (header_reached conditions Hit args quiet n ns q (header_covered xs h comment ls)) (λ x is.
      r.last_one conditions Hit _ _ (r.plainly conditions Hit b.reached) (λ _. numbered_reached quiet xs n h b.token comment ls rest noted x b.says is))

  any_reached : (xs : List ReadAttribute) (ns : List (Noted Tok)) {h : Header Tok Tok Tok} {fs : List (Noted Tok)} {ts next : Tokens}
      (rest : Tokens) (noted : List (Noted Tok)) (comment : Option (List ℕ)) (ls : List (BodyLine Tok Tok ℕ)) → HeaderOf itself itself itself (PastLimitAt conditions.limit Hit) h fs ts next
      → BodyFound comment ls (input conditions 0 next (ns ++ (noted_by xs (recipe_content h comment ls) ++ fs))) (input conditions 0 rest noted)
      → ContentReached xs (recipe_content h comment ls) (input conditions 0 ts ns) (input conditions 0 rest noted)
  unfolding without_keyword any_recipe
  any_reached xs ns rest noted comment ls (headers.quiet {at = mark} {tokens = ts} kind q) b n =
      r.by conditions Hit (no_word_read conditions ns xs n mark ts (λ k. cc))
      (rw (
        next_left (kinds.Identifier ∷ kinds.ParenL ∷ []) (input conditions 0 (mark ∷ ts) ns) (λ k. let first = k.0 in cc),
        next_left (kinds.Identifier ∷ kinds.ColonEquals ∷ []) (input conditions 0 (mark ∷ ts) ns) (λ k. let first = k.0 in cc),
        accept_taken kinds.At mark ts conditions 0 ns kind,
      ) (recipe_reached true xs ns rest noted comment ls q b n))
  any_reached xs ns rest noted comment ls (headers.loud (headers.header {name = name} {tokens = ts} kind ps ds)) b n =
      let none = parameters_follow itself itself (PastLimitAt conditions.limit Hit) ts ps in
      r.by conditions Hit (none_read conditions ns xs n name ts none)
      (rw (
        next_left (kinds.Identifier ∷ kinds.ParenL ∷ []) (input conditions 0 (name ∷ ts) ns) (λ k. parameters_uncalled itself itself (PastLimitAt conditions.limit Hit) ts ps k.1),
        next_left (kinds.Identifier ∷ kinds.ColonEquals ∷ []) (input conditions 0 (name ∷ ts) ns)
            (λ k. not_there kinds.ColonEquals ts (parameters_start itself itself (PastLimitAt conditions.limit Hit) ps) k.1),
        accept_left kinds.At (name ∷ ts) conditions 0 ns (λ e. cc),
      ) (recipe_reached false xs ns rest noted comment ls (headers.header {name = name} kind ps ds) b n))

  -- what the attributes of an item break is among what it breaks
  allowed_reached : (xs : List ReadAttribute) (c : Content Tok Tok ℕ Tok) (s : State)
      → ReachesOne conditions Hit (obeying (meaning_broken (token_view conditions) c (meant_by xs)) s) (tt, s) [] (breaks_by xs c)
  allowed_reached xs c s =
      obeying_reached conditions Hit (meaning_broken (token_view conditions) c (meant_by xs)) s
      (among_first (meaning_broken (token_view conditions) c (meant_by xs)) (form_broken conditions.current (token_view conditions) c) (all_among (breaks_by xs c)))

  -- a construct of this content
  abbrev Reached : List ReadAttribute → Content Tok Tok ℕ Tok → Counters → Read (WrittenItem Tok Tok ℕ Tok × Counters) → State → Type 0
  Reached xs c n found rest =
      ReachesOne conditions Hit found ((Construct (written_in xs) c, count_content n c), rest) (content_literals c) (breaks_by xs c)

  -- an assignment from its name on
  assignment_reached : (eager export : Bool) (xs : List ReadAttribute) (ns : List (Noted Tok)) {e : Expr Tok Tok} {fs : List (Noted Tok)}
      (name operator : SignificantToken) {ts rest : Tokens} → IsKind kinds.Identifier name → IsKind kinds.ColonEquals operator
      → Expression itself itself (PastLimitAt conditions.limit Hit) false 0 e fs ts rest → (n : Counters)
      → Reached xs (tree.Assignment (assignment_of eager export name.tok e)) n
      (assignment token_leaves token_attributes eager export xs n (input conditions 0 (name ∷ operator ∷ ts) ns)) (input conditions 0 rest (ns ++ fs))
  unfolding assignment next_binding_number
  assignment_reached eager export xs ns {e = e} {fs = fs} name operator {ts = ts} {rest = rest} kind kind2 h n =
      let c : Content Tok Tok ℕ Tok = tree.Assignment (assignment_of eager export name.tok e) in
      rw (expect_taken kinds.Identifier name (operator ∷ ts) conditions 0 ns kind, expect_taken kinds.ColonEquals operator ts conditions 0 ns kind2)
      (r.last_one conditions Hit _ _ (r.plainly conditions Hit (expression_deep conditions Hit ns false (omega arith) h))
      (λ _. r.pass conditions Hit _ (allowed_reached xs c (input conditions 0 rest (ns ++ fs))) refl))

  alias_reached : (xs : List ReadAttribute) (ns : List (Noted Tok)) {names : List Tok} (name operator : SignificantToken) {ts rest : Tokens}
      → IsKind kinds.Identifier name → IsKind kinds.ColonEquals operator → PathOf itself names ts rest → (n : Counters)
      → Reached xs (tree.Alias (record { name = name.tok; target = names })) n (alias token_leaves token_attributes xs n (input conditions 0 (name ∷ operator ∷ ts) ns))
      (input conditions 0 rest (ns ++ []))
  unfolding alias
  alias_reached xs ns {names = names} name operator {ts = ts} {rest = rest} kind kind2 p n =
      r.renoted conditions Hit (sym (append-nil ns))
      (rw (
        expect_taken kinds.Identifier name (operator ∷ ts) conditions 0 ns kind,
        expect_taken kinds.ColonEquals operator ts conditions 0 ns kind2,
        path_read conditions Hit ns p,
      ) (r.pass conditions Hit _ (allowed_reached xs (tree.Alias (record { name = name.tok; target = names })) (input conditions 0 rest ns)) refl))

  function_reached : (xs : List ReadAttribute) (ns : List (Noted Tok)) {names : List Tok} {e : Expr Tok Tok} {fs : List (Noted Tok)}
      (name opener operator : SignificantToken) {ts next rest : Tokens} → IsKind kinds.Identifier name → IsKind kinds.ParenL opener
      → Names itself names ts (operator ∷ next) → IsKind kinds.ColonEquals operator
      → Expression itself itself (PastLimitAt conditions.limit Hit) false 0 e fs next rest → (n : Counters)
      → Reached xs (tree.Function (record { name = name.tok; parameters = names; body = e })) n
      (function token_leaves token_attributes xs n (input conditions 0 (name ∷ opener ∷ ts) ns)) (input conditions 0 rest (ns ++ fs))
  unfolding function
  function_reached xs ns {names = names} {e = e} {fs = fs} name opener operator {ts = ts} {next = next} {rest = rest} kind kind2 all kind3 h n =
      let c : Content Tok Tok ℕ Tok = tree.Function (record { name = name.tok; parameters = names; body = e }) in
      rw (expect_taken kinds.Identifier name (opener ∷ ts) conditions 0 ns kind)
      (r.then_one conditions Hit _ _ (allowed_reached xs c (input conditions 0 (opener ∷ ts) ns))
      (rw (
        expect_taken kinds.ParenL opener ts conditions 0 ns kind2,
        names_read conditions Hit n ns all,
        expect_taken kinds.ColonEquals operator next conditions 0 ns kind3,
      ) (r.pass conditions Hit _ (r.plainly conditions Hit (expression_deep conditions Hit ns false (omega arith) h)) refl)))

  -- an import from its path on
  imported_reached : (optional : Bool) (xs : List ReadAttribute) (ns : List (Noted Tok)) {path : Quoted Tok} {ts rest : Tokens} → FilePath itself path ts rest → (n : Counters)
      → Reached xs (tree.Import (record { optional = optional; path = path })) n (imported token_leaves token_attributes optional xs n (input conditions 0 ts ns))
      (input conditions 0 rest (ns ++ []))
  unfolding imported
  imported_reached optional xs ns {path = path} {rest = rest} p n =
      let c : Content Tok Tok ℕ Tok = tree.Import (record { optional = optional; path = path }) in
      r.renoted conditions Hit (sym (append-nil ns))
      (r.last_one conditions Hit _ _ (r.plainly conditions Hit (file_path_reached conditions Hit ns p))
      (λ _. r.pass conditions Hit _
      (subst (λ (token : Tok). ReachesOne conditions Hit (obeying (allowed_broken (token_view conditions) item_kinds.Import token (meant_by xs)) (input conditions 0 rest ns)) (tt, input conditions 0 rest ns) [] (breaks_by xs c))
      (sym (path_token_is p)) (allowed_reached xs c (input conditions 0 rest ns))) refl))

  -- a module from its name on
  module_reached : (optional : Bool) (xs : List ReadAttribute) (ns : List (Noted Tok)) (name : SignificantToken) {rest : Tokens} → IsKind kinds.Identifier name → NoPath rest
      → (n : Counters) → Reached xs (tree.Module (bare_module optional name.tok None)) n
      (named_module token_leaves token_attributes optional xs n (input conditions 0 (name ∷ rest) ns)) (input conditions 0 rest (ns ++ []))
  unfolding named_module
  module_reached optional xs ns name {rest = rest} kind none n =
      r.renoted conditions Hit (sym (append-nil ns))
      (rw (expect_taken kinds.Identifier name rest conditions 0 ns kind, no_path_read conditions Hit ns rest none)
      (r.pass conditions Hit _ (allowed_reached xs (tree.Module (bare_module optional name.tok None)) (input conditions 0 rest ns)) refl))

  module_at_reached : (optional : Bool) (xs : List ReadAttribute) (ns : List (Noted Tok)) {path : Quoted Tok} (name : SignificantToken) {ts rest : Tokens}
      → IsKind kinds.Identifier name → FilePath itself path ts rest → (n : Counters)
      → Reached xs (tree.Module (bare_module optional name.tok (Some path))) n
      (named_module token_leaves token_attributes optional xs n (input conditions 0 (name ∷ ts) ns)) (input conditions 0 rest (ns ++ []))
  unfolding named_module
  module_at_reached optional xs ns {path = path} name {ts = ts} {rest = rest} kind p n =
      r.renoted conditions Hit (sym (append-nil ns))
      (rw (expect_taken kinds.Identifier name ts conditions 0 ns kind)
      (r.last_one conditions Hit _ _ (r.plainly conditions Hit (path_reached conditions Hit ns p))
      (λ _. r.pass conditions Hit _ (allowed_reached xs (tree.Module (bare_module optional name.tok (Some path))) (input conditions 0 rest ns)) refl)))

  setting_reached : (xs : List ReadAttribute) (ns : List (Noted Tok)) {keyword : Keyword} {form : SettingForm} {value : SettingValue Tok Tok} {fs : List (Noted Tok)}
      (name : SignificantToken) {ts rest : Tokens} → IsWord (keyword_text keyword) name → setting_form keyword ≡ Some form
      → ValueOf itself itself (PastLimitAt conditions.limit Hit) form value fs ts rest → (n : Counters)
      → Reached xs (tree.Setting (record { keyword = keyword; name = name.tok; value = value })) n
      (setting token_leaves token_attributes xs n (input conditions 0 (name ∷ ts) ns)) (input conditions 0 rest (ns ++ fs))
  unfolding setting setting_keyword
  setting_reached xs ns {keyword = keyword} {form = form} {value = value} {fs = fs} name {ts = ts} {rest = rest} is form_is v n =
      let c : Content Tok Tok ℕ Tok = tree.Setting (record { keyword = keyword; name = name.tok; value = value }) in
      let formed : List (Broken Tok) = value_broken conditions.current (token_view conditions) (setting_form keyword) keyword name.tok value in
      let Q : Option SettingForm → Type 0 =
      λ o. Reached xs c n (setting_value token_leaves token_view name keyword o (input conditions 0 ts ns) >>= λ value.
      constructed token_leaves token_attributes xs (tree.Setting (record { keyword = keyword; name = name.tok; value = value.0 })) n value.1)
      (input conditions 0 rest (ns ++ fs))
      in
      rw (expect_taken kinds.Identifier name ts conditions 0 ns is.is_name, ap keyword_named is.spelled ∙ spelled keyword)
      (r.then_one conditions Hit _ _ (allowed_reached xs c (input conditions 0 ts ns))
      (subst Q (sym form_is) (r.pass conditions Hit _ (value_reached conditions Hit name keyword ns v
      (subst (λ o. Among (value_broken conditions.current (token_view conditions) o keyword name.tok value) (breaks_by xs c)) form_is
      (among_others (meaning_broken (token_view conditions) c (meant_by xs)) formed (all_among (breaks_by xs c))))) refl)))

  unexport_reached : (xs : List ReadAttribute) (ns : List (Noted Tok)) (name : SignificantToken) {rest : Tokens} → IsKind kinds.Identifier name → (n : Counters)
      → Reached xs (tree.Unexport name.tok) n (unexport token_leaves token_attributes xs n (input conditions 0 (name ∷ rest) ns)) (input conditions 0 rest (ns ++ []))
  unfolding unexport
  unexport_reached xs ns name {rest = rest} kind n =
      r.renoted conditions Hit (sym (append-nil ns))
      (rw (expect_taken kinds.Identifier name rest conditions 0 ns kind)
      (r.pass conditions Hit _ (allowed_reached xs (tree.Unexport name.tok) (input conditions 0 rest ns)) refl))

  content_reached : (xs : List ReadAttribute) (ns : List (Noted Tok)) {c : Content Tok Tok ℕ Tok} {fs : List (Noted Tok)} {ts rest : Tokens}
      → OnLine to_tokens (PastLimitAt conditions.limit Hit) c fs ts rest → NoBody rest
      → ContentReached xs c (input conditions 0 ts ns) (input conditions 0 rest (ns ++ (noted_by xs c ++ fs)))
  unfolding without_keyword import any_module accepted
  content_reached xs ns (g.assignment {name = name} {operator = operator} {tokens = ts} kind kind2 h) none n =
      r.by conditions Hit (none_read conditions ns xs n name (operator ∷ ts) (another_follows operator ts (λ k. cc) (λ k. cc) (λ k. cc)))
      (rw (
        next_left (kinds.Identifier ∷ kinds.ParenL ∷ []) (input conditions 0 (name ∷ operator ∷ ts) ns) (λ k. let second = k.1.0 in cc),
        next_taken (kinds.Identifier ∷ kinds.ColonEquals ∷ []) (input conditions 0 (name ∷ operator ∷ ts) ns) (kind, (kind2, tt)),
      ) (assignment_reached false false xs ns name operator kind kind2 h n))
  content_reached xs ns (g.eager {word = word} {name = name} {operator = operator} {tokens = ts} is kind kind2 h) none n =
      r.by conditions Hit (keyword_read conditions ns xs n (codes "eager") word (name ∷ operator ∷ ts) is (assigned_taken conditions ns name operator ts kind kind2))
      (assignment_reached true false xs ns name operator kind kind2 h n)
  content_reached xs ns (g.export {word = word} {name = name} {operator = operator} {tokens = ts} is kind kind2 h) none n =
      r.by conditions Hit (keyword_read conditions ns xs n (codes "export") word (name ∷ operator ∷ ts) is (assigned_taken conditions ns name operator ts kind kind2))
      (assignment_reached false true xs ns name operator kind kind2 h n)
  content_reached xs ns (g.alias {word = word} {name = name} {operator = operator} {tokens = ts} is kind kind2 p) none n =
      r.by conditions Hit (keyword_read conditions ns xs n (codes "alias") word (name ∷ operator ∷ ts) is (assigned_taken conditions ns name operator ts kind kind2))
      (alias_reached xs ns name operator kind kind2 p n)
  content_reached xs ns (g.function {name = name} {opener = opener} {operator = operator} {tokens = ts} kind kind2 all kind3 h) none n =
      r.by conditions Hit (none_read conditions ns xs n name (opener ∷ ts) (another_follows opener ts (λ k. cc) (λ k. cc) (λ k. cc)))
      (rw (next_taken (kinds.Identifier ∷ kinds.ParenL ∷ []) (input conditions 0 (name ∷ opener ∷ ts) ns) (kind, (kind2, tt)))
      (function_reached xs ns name opener operator kind kind2 all kind3 h n))
  content_reached xs ns (g.import {word = word} {tokens = ts} is p) none n =
      r.by conditions Hit (keyword_read conditions ns xs n (codes "import") word ts is
      (ap (λ b. next_are token_leaves (kinds.QuestionMark ∷ []) (input conditions 0 ts ns) || b) (path_begins conditions ns ts p) ∙ or_true conditions ns _))
      (rw (accept_left kinds.QuestionMark ts conditions 0 ns (path_unmarked p)) (imported_reached false xs ns p n))
  content_reached xs ns (g.optional_import {word = word} {question_mark = mark} {tokens = ts} is kind p) none n =
      r.by conditions Hit (keyword_read conditions ns xs n (codes "import") word (mark ∷ ts) is
      (rw (next_taken (kinds.QuestionMark ∷ []) (input conditions 0 (mark ∷ ts) ns) (kind, tt)) refl))
      (rw (accept_taken kinds.QuestionMark mark ts conditions 0 ns kind) (imported_reached true xs ns p n))
  content_reached xs ns (g.module_alone {word = word} {name = name} {rest = rest} is kind ends) none n =
      r.by conditions Hit (keyword_read conditions ns xs n (codes "mod") word (name ∷ rest) is
      (rw (
        next_left (kinds.QuestionMark ∷ []) (input conditions 0 (name ∷ rest) ns) (λ k. let first = k.0 in cc),
        line_taken conditions ns name rest kind ends,
      ) refl))
      (rw (accept_left kinds.QuestionMark (name ∷ rest) conditions 0 ns (λ e. cc)) (module_reached false xs ns name kind (ends_pathless ends) n))
  content_reached xs ns (g.module_at {word = word} {name = name} {tokens = ts} is kind p) none n =
      r.by conditions Hit (keyword_read conditions ns xs n (codes "mod") word (name ∷ ts) is (module_follows conditions ns name ts kind p))
      (rw (accept_left kinds.QuestionMark (name ∷ ts) conditions 0 ns (λ e. cc)) (module_at_reached false xs ns name kind p n))
  content_reached xs ns (g.optional_module_alone {word = word} {question_mark = mark} {name = name} {rest = rest} is kind kind2 no_path) none n =
      r.by conditions Hit (keyword_read conditions ns xs n (codes "mod") word (mark ∷ name ∷ rest) is
      (rw (next_taken (kinds.QuestionMark ∷ []) (input conditions 0 (mark ∷ name ∷ rest) ns) (kind, tt)) refl))
      (rw (accept_taken kinds.QuestionMark mark (name ∷ rest) conditions 0 ns kind) (module_reached true xs ns name kind2 no_path n))
  content_reached xs ns (g.optional_module_at {word = word} {question_mark = mark} {name = name} {tokens = ts} is kind kind2 p) none n =
      r.by conditions Hit (keyword_read conditions ns xs n (codes "mod") word (mark ∷ name ∷ ts) is
      (rw (next_taken (kinds.QuestionMark ∷ []) (input conditions 0 (mark ∷ name ∷ ts) ns) (kind, tt)) refl))
      (rw (accept_taken kinds.QuestionMark mark (name ∷ ts) conditions 0 ns kind) (module_at_reached true xs ns name kind2 p n))
  content_reached xs ns (g.setting {word = word} {name = name} {tokens = ts} is is2 form value) none n =
      r.by conditions Hit (keyword_read conditions ns xs n (codes "set") word (name ∷ ts) is (setting_follows conditions ns name ts is2.is_name value))
      (setting_reached xs ns name is2 form value n)
  content_reached xs ns (g.unexport {word = word} {name = name} {rest = rest} is kind ends) none n =
      r.by conditions Hit (keyword_read conditions ns xs n (codes "unexport") word (name ∷ rest) is (line_taken conditions ns name rest kind ends))
      (unexport_reached xs ns name kind n)
  content_reached xs ns {rest = rest} (g.header {h = h} {fs = fs} q) none n =
      let noted : List (Noted Tok) = ns ++ (noted_by xs (recipe_content h None []) ++ fs) in
      any_reached xs ns rest noted None [] q
      (record { token = None; says = refl; reached = is_read tt (no_body_read (input conditions 0 rest noted) none) }) n

  -- ---- attributes, and a construct after them

  stands_before : (ns : List (Noted Tok)) (ts : Tokens) → Begins ts → stands_alone token_leaves token_attributes (input conditions 0 ts ns) ≡ false
  stands_before ns ts b =
      rw (
        next_left (kinds.Eol ∷ []) (input conditions 0 ts ns) (λ h. not_there kinds.Eol ts b.no_line_end h),
        next_left (kinds.Comment ∷ []) (input conditions 0 ts ns) (λ h. not_there kinds.Comment ts b.no_comment h),
      ) refl

  -- these attributes are read, up to there
  abbrev AreReadAt : List (WrittenAttribute Tok Tok) → State → List ReadAttribute × State → Type 0
  AreReadAt ws rest = IsAt (AreReadings (token_view conditions) ws) rest

  attached : (opener : SignificantToken) (ws : List (WrittenAttribute Tok Tok)) (ns : List (Noted Tok)) (header : Tokens) → Begins header
      → (x : List ReadAttribute × State) → AreReadAt ws (input conditions 0 header ns) x
      → ReachesSome conditions Hit (before_item token_leaves token_attributes opener x) (AreReadAt ws (input conditions 0 header ns)) []
      (attributes_broken (token_view conditions) ws)
  attached opener ws ns header b x is =
      r.read_now conditions Hit x is (rw (ap (stands_alone token_leaves token_attributes) is.1 ∙ stands_before ns header b) refl)

  before_reached : (ns : List (Noted Tok)) {ws : List (WrittenAttribute Tok Tok)} {gs : List (Noted Tok)} {ts header : Tokens}
      → AttributeLines itself itself (PastLimitAt conditions.limit Hit) ws gs ts header → Begins header
      → ReachesSome conditions Hit (attributes token_leaves token_attributes (input conditions 0 ts ns))
      (AreReadAt ws (input conditions 0 header (ns ++ gs))) (written_literals ws) (attributes_broken (token_view conditions) ws)
  unfolding attributes
  before_reached ns {header = header} (lines_of.none not) b =
      rw (accept_left kinds.BracketL header conditions 0 ns not)
      (r.read_now conditions Hit ([], input conditions 0 header ns) (covers.none, λ i. input conditions 0 header (sym (append-nil ns) i)) refl)
  before_reached ns {ws = all} {gs = all_noted} {ts = ts} {header = header} (lines_of.line {opener = opener} {tokens = tokens} kind w e others) b =
      rw (accept_taken kinds.BracketL opener tokens conditions 0 ns kind)
      (r.last conditions Hit _ (AreReadAt all (input conditions 0 header (ns ++ all_noted)))
      (attributes_reached conditions Hit ns (lines_of.line kind w e others))
      (λ x is _. attached opener all (ns ++ all_noted) header b x is))

  -- what the attributes mean is what is read of them
  meant : (ws : List (WrittenAttribute Tok Tok)) (c : Content Tok Tok ℕ Tok) (xs : List ReadAttribute) → AreReadings (token_view conditions) ws xs
      → breaks_by xs c ≡ of_some (meaning_broken (token_view conditions) c) (entries_of (token_view conditions) ws) ++ form_broken conditions.current (token_view conditions) c
  meant ws c xs h = rw (readings_mean (token_view conditions) h) refl

  noted_is : (ws : List (WrittenAttribute Tok Tok)) (c : Content Tok Tok ℕ Tok) (xs : List ReadAttribute) → AreReadings (token_view conditions) ws xs
      → noted_by xs c ≡ of_some (entries_features c) (entries_of (token_view conditions) ws)
  noted_is ws c xs h = rw (readings_mean (token_view conditions) h) refl

  -- the features of a construct, in the order in which they are noted
  abbrev features_of : List (WrittenAttribute Tok Tok) → Content Tok Tok ℕ Tok → (attributes content : List (Noted Tok)) → List (Noted Tok)
  features_of ws c gs fs = construct_features (token_view conditions) ws c (record { attributes = gs; content = fs })

  features_are : (ns : List (Noted Tok)) (ws : List (WrittenAttribute Tok Tok)) (c : Content Tok Tok ℕ Tok) (gs fs : List (Noted Tok))
      (xs : List ReadAttribute) → AreReadings (token_view conditions) ws xs → (ns ++ gs) ++ (noted_by xs c ++ fs) ≡ ns ++ features_of ws c gs fs
  features_are ns ws c gs fs xs h =
      let noted_here : List (Noted Tok) = of_some (entries_features c) (entries_of (token_view conditions) ws) in
      ap (λ (l : List (Noted Tok)). (ns ++ gs) ++ (l ++ fs)) (noted_is ws c xs h) ∙ append_assoc ns gs (noted_here ++ fs)
      ∙ ap (λ (l : List (Noted Tok)). ns ++ l) (sym (append_assoc gs noted_here fs))

  abbrev ItemReached : WrittenItem Tok Tok ℕ Tok → State → State → Type 0
  ItemReached i s rest =
      (n : Counters) → ReachesOne conditions Hit (any_item token_leaves token_attributes n s) ((i, count n i), rest) (item_literals written_literals i)
      (item_broken conditions.current (token_view conditions) i)

  -- the construct after the attributes that were read
  after_attributes : (n : Counters) (ws : List (WrittenAttribute Tok Tok)) (c : Content Tok Tok ℕ Tok) (s rest : State)
      (x : List ReadAttribute × State) → AreReadAt ws s x → ContentReached x.0 c s rest
      → ReachesOne conditions Hit (content token_leaves token_attributes x.0 n x.1) ((Construct ws c, count_content n c), rest) (content_literals c)
      (of_some (meaning_broken (token_view conditions) c) (entries_of (token_view conditions) ws) ++ form_broken conditions.current (token_view conditions) c)
  after_attributes n ws c s rest x is h =
      subst (λ t. ReachesOne conditions Hit (content token_leaves token_attributes x.0 n t) ((Construct ws c, count_content n c), rest) (content_literals c)
      (of_some (meaning_broken (token_view conditions) c) (entries_of (token_view conditions) ws) ++ form_broken conditions.current (token_view conditions) c)) (sym is.1)
      (r.same_rules conditions Hit (meant ws c x.0 is.0)
      (r.same_one conditions Hit (λ i. ((Construct (readings_written (token_view conditions) is.0 i) c, count_content n c), rest)) (h n)))

  construct_reached : (ns : List (Noted Tok)) {ws : List (WrittenAttribute Tok Tok)} {gs : List (Noted Tok)} {ts header : Tokens}
      (c : Content Tok Tok ℕ Tok) (fs : List (Noted Tok)) (rest : Tokens) → AttributeLines itself itself (PastLimitAt conditions.limit Hit) ws gs ts header
      → Begins header
      → ((xs : List ReadAttribute) → ContentReached xs c (input conditions 0 header (ns ++ gs)) (input conditions 0 rest ((ns ++ gs) ++ (noted_by xs c ++ fs))))
      → ItemReached (Construct ws c) (input conditions 0 ts ns) (input conditions 0 rest (ns ++ features_of ws c gs fs))
  unfolding any_item construct
  construct_reached ns {ws = ws} {gs = gs} {ts = ts} {header = header} c fs rest a b h n =
      let end : State = input conditions 0 rest (ns ++ features_of ws c gs fs) in
      let y : (WrittenItem Tok Tok ℕ Tok × Counters) × State = ((Construct ws c, count_content n c), end) in
      let meaning : List (Broken Tok) = of_some (meaning_broken (token_view conditions) c) (entries_of (token_view conditions) ws) in
      rw (accept_left kinds.Comment ts conditions 0 ns (attributes_begin a b).no_comment)
      (r.same_rules conditions Hit (sym (append_assoc (attributes_broken (token_view conditions) ws) meaning (form_broken conditions.current (token_view conditions) c)))
      (r.then_more conditions Hit _ (λ z. z ≡ y) (before_reached ns a b)
      (λ x is _. after_attributes n ws c (input conditions 0 header (ns ++ gs)) end x is
      (λ m. r.renoted conditions Hit (features_are ns ws c gs fs x.0 is.0) (h x.0 m)))))

  on_line_reached : (ns : List (Noted Tok)) {i : WrittenItem Tok Tok ℕ Tok} {fs : List (Noted Tok)} {ts rest : Tokens}
      → Stands conditions (PastLimitAt conditions.limit Hit) i fs ts rest → NoBody rest
      → ItemReached i (input conditions 0 ts ns) (input conditions 0 rest (ns ++ fs))
  unfolding any_item
  on_line_reached ns {rest = rest} (of_comment {t = token} kind) none n =
      r.renoted conditions Hit (sym (append-nil ns)) (r.read_now conditions Hit _ refl (rw (accept_taken kinds.Comment token rest conditions 0 ns kind) refl))
  on_line_reached ns {rest = rest} (of_line {c = c} {gs = gs} {fs = fs} a o) none n =
      construct_reached ns c fs rest a (line_begins o) (λ xs. content_reached xs (ns ++ gs) o none) n

  -- all items are reached, with what is drawn for them, and their features
  abbrev AllReached : (n : Counters) → Read (WrittenTree × Counters) → WrittenTree → List (Noted Tok) → Type 0
  AllReached n found all noted =
      ReachesOne conditions Hit found ((all, counted n all), input conditions 0 [] noted) (all_literals all) (broken conditions.current (token_view conditions) all)

  -- a part of the line is read, and the items after it are reached
  record Continued (rule : State → Read WrittenTree) (all : WrittenTree) (fs : List (Noted Tok)) (ts : Tokens) (ns : List (Noted Tok)) : Type 0 where
    first : WrittenTree
    rest : Tokens
    first_read : rule (input conditions 0 ts ns) ≡ Ok (first, input conditions 0 rest ns)
    goes_on : (n : Counters) → AllReached n (after_numbered first (items token_leaves token_attributes n (input conditions 0 rest ns))) all (ns ++ fs)

  ended_after : (i : WrittenItem Tok Tok ℕ Tok) (s : State) → has_body i ≡ false → item_end token_leaves token_attributes (has_body i) s ≡ after_item token_leaves token_attributes s
  unfolding item_end
  ended_after i s none = rw none refl

  front_is : (i : WrittenItem Tok Tok ℕ Tok) (l : WrittenTree) (found : Read (WrittenTree × Counters)) → after_numbered (i ∷ l) found ≡ (after_numbered l found >>= (λ q. Ok ((i ∷ q.0.0, q.0.1), q.1)))
  unfolding after_numbered
  front_is i l (Ok x) = refl
  front_is i l (Err e) = refl

  front_more : (i : WrittenItem Tok Tok ℕ Tok) (l m : WrittenTree) (n : Counters) (noted : List (Noted Tok)) (found : Read (WrittenTree × Counters))
      {ls : List (Literal Tok)} {rules : List (Broken Tok)}
      → ReachesOne conditions Hit (after_numbered l found) ((m, n), input conditions 0 [] noted) ls rules
      → ReachesOne conditions Hit (after_numbered (i ∷ l) found) ((i ∷ m, n), input conditions 0 [] noted) ls rules
  front_more i l m n noted found h = r.by conditions Hit (front_is i l found) (r.pass conditions Hit _ h refl)

  line_reached : (n : Counters) (ns : List (Noted Tok)) (i : WrittenItem Tok Tok ℕ Tok) (all : WrittenTree) (is fs : List (Noted Tok)) (ts rest : Tokens)
      → Stands conditions (PastLimitAt conditions.limit Hit) i is ts rest
      → ItemReached i (input conditions 0 ts ns) (input conditions 0 rest (ns ++ is))
      → Continued (after_item token_leaves token_attributes) all fs rest (ns ++ is) → AllReached n (items token_leaves token_attributes n (input conditions 0 ts ns)) (i ∷ all) (ns ++ (is ++ fs))
  unfolding items_rule line
  line_reached n ns i all is fs ts rest o h c =
      r.renoted conditions Hit (append_assoc ns is fs) (r.by conditions Hit (items_is token_leaves token_attributes n (input conditions 0 ts ns))
      (rw (accept_left kinds.Eof ts conditions 0 ns (no_end_of_file o), accept_left kinds.Eol ts conditions 0 ns (no_end_of_line o))
      (r.then_both conditions Hit _ (r.pass conditions Hit _ (h n) (rw (ended_after i (input conditions 0 rest (ns ++ is)) (has_none o), c.first_read) refl))
      (front_more i c.first all (counted (count n i) all) ((ns ++ is) ++ fs) (items token_leaves token_attributes (count n i) (input conditions 0 c.rest (ns ++ is))) (c.goes_on (count n i))))))

  some_body : (ws : List (WrittenAttribute Tok Tok)) (h : Header Tok Tok Tok) (comment : Option (List ℕ)) (ls : List (BodyLine Tok Tok ℕ)) (s : State) → NotEmpty ls
      → item_end token_leaves token_attributes (has_body (Construct ws (recipe_content h comment ls))) s ≡ Ok (tree.Newline ∷ [], s)
  unfolding item_end
  some_body ws h comment [] s some = absurd some
  some_body ws h comment (l ∷ ls) s some = refl

  block_content : (xs : List ReadAttribute) (ns : List (Noted Tok)) {c : Content Tok Tok ℕ Tok} {fs : List (Noted Tok)} {ts rest : Tokens}
      → Block to_tokens (PastLimitAt conditions.limit Hit) c fs ts rest
      → ContentReached xs c (input conditions 0 ts ns) (input conditions 0 rest (ns ++ (noted_by xs c ++ fs)))
  block_content xs ns {rest = rest} (g.recipe {h = h} {lines = ls} {fs = fs} {gs = gs} {comment = comment} q b lines some) n =
      let noted_here : List (Noted Tok) = noted_by xs (recipe_content h comment (trimmed ls)) in
      let noted : List (Noted Tok) = ns ++ (noted_here ++ fs) in
      r.renoted conditions Hit (append_assoc ns (noted_here ++ fs) gs ∙ ap (λ (l : List (Noted Tok)). ns ++ l) (append_assoc noted_here fs gs))
      (any_reached xs ns rest (noted ++ gs) comment (trimmed ls) q (optional_body_reached noted b lines some) n)

  -- a recipe with a body and its attributes
  block_item : (ns : List (Noted Tok)) {ws : List (WrittenAttribute Tok Tok)} {c : Content Tok Tok ℕ Tok} {gs fs : List (Noted Tok)}
      {ts header rest : Tokens} → AttributeLines itself itself (PastLimitAt conditions.limit Hit) ws gs ts header
      → Block to_tokens (PastLimitAt conditions.limit Hit) c fs header rest
      → ItemReached (Construct ws c) (input conditions 0 ts ns) (input conditions 0 rest (ns ++ features_of ws c gs fs))
  block_item ns {c = c} {gs = gs} {fs = fs} {rest = rest} a o = construct_reached ns c fs rest a (block_begins o) (λ xs. block_content xs (ns ++ gs) o)

  block_ends : (ws : List (WrittenAttribute Tok Tok)) {c : Content Tok Tok ℕ Tok} {is : List (Noted Tok)} {ts rest : Tokens} (s : State)
      → Block to_tokens (PastLimitAt conditions.limit Hit) c is ts rest
      → item_end token_leaves token_attributes (has_body (Construct ws c)) s ≡ Ok (tree.Newline ∷ [], s)
  block_ends ws s (g.recipe {h = h} {lines = ls} {comment = comment} q b lines some) = some_body ws h comment (trimmed ls) s some

  block_reached : (n : Counters) (ns : List (Noted Tok)) {ws : List (WrittenAttribute Tok Tok)} {c : Content Tok Tok ℕ Tok} {gs is : List (Noted Tok)}
      {ts header rest : Tokens} (all : WrittenTree) (fs : List (Noted Tok)) → AttributeLines itself itself (PastLimitAt conditions.limit Hit) ws gs ts header
      → Block to_tokens (PastLimitAt conditions.limit Hit) c is header rest
      → ((m : Counters) → AllReached m (items token_leaves token_attributes m (input conditions 0 rest (ns ++ features_of ws c gs is))) all
      ((ns ++ features_of ws c gs is) ++ fs))
      → AllReached n (items token_leaves token_attributes n (input conditions 0 ts ns)) (Construct ws c ∷ tree.Newline ∷ all)
      (ns ++ (features_of ws c gs is ++ fs))
  unfolding items_rule line after_numbered
  block_reached n ns {ws = ws} {c = c} {gs = gs} {is = is} {ts = ts} {rest = rest} all fs a o more =
      let end : State = input conditions 0 rest (ns ++ features_of ws c gs is) in
      let i : WrittenItem Tok Tok ℕ Tok = Construct ws c in
      let b : Begins ts = attributes_begin a (block_begins o) in
      r.renoted conditions Hit (append_assoc ns (features_of ws c gs is) fs)
      (r.by conditions Hit (items_is token_leaves token_attributes n (input conditions 0 ts ns))
      (rw (accept_left kinds.Eof ts conditions 0 ns b.no_file_end, accept_left kinds.Eol ts conditions 0 ns b.no_line_end)
      (r.then_both conditions Hit {x = ((i ∷ tree.Newline ∷ [], count n i), end)} _
      (r.pass conditions Hit _ (block_item ns a o n) (rw (block_ends ws end o) refl))
      (r.pass conditions Hit _ (more (count n i)) refl))))

  -- the features of items
  abbrev features : WrittenTree → List (ConstructFeatures Tok) → List (Noted Tok)
  features = all_features (token_view conditions)

  mutual
    unfolding items_rule line after_item line_end after_numbered at_end

    pub items_reached : (n : Counters) (ns : List (Noted Tok)) {all : WrittenTree} {fs : List (ConstructFeatures Tok)} {ts : Tokens} → Items to_tokens (PastLimitAt conditions.limit Hit) all fs ts → AllReached n (items token_leaves token_attributes n (input conditions 0 ts ns)) all (ns ++ features all fs)
    items_reached n ns (g.end {token = t} kind) =
        r.renoted conditions Hit (sym (append-nil ns)) (r.read_now conditions Hit _ refl (items_is token_leaves token_attributes n (input conditions 0 (t ∷ []) ns) ∙ rw (accept_taken kinds.Eof t [] conditions 0 ns kind) refl))
    items_reached n ns (g.blank {token = t} {rest = rest} kind h) =
        r.by conditions Hit (items_is token_leaves token_attributes n (input conditions 0 (t ∷ rest) ns))
        (rw (accept_left kinds.Eof (t ∷ rest) conditions 0 ns (λ e. cc), accept_taken kinds.Eol t rest conditions 0 ns kind) (r.pass conditions Hit _ (items_reached n ns h) refl))
    items_reached n ns (g.comment {items = more} {fs = fs} {token = t} {rest = rest} kind b) =
        line_reached n ns (comment_item token_leaves token_attributes t) more [] (features more fs) (t ∷ rest) rest (of_comment kind) (on_line_reached ns (of_comment kind) (no_body_after b)) (item_rest_reached (ns ++ []) b)
    items_reached n ns (g.on_line {ws = ws} {c = c} {items = more} {gs = gs} {cs = is} {fs = fs} {tokens = ts} {rest = rest} a o b) =
        line_reached n ns (Construct ws c) more (features_of ws c gs is) (features more fs) ts rest (of_line a o) (on_line_reached ns (of_line a o) (no_body_after b))
        (item_rest_reached (ns ++ features_of ws c gs is) b)
    items_reached n ns (g.block {ws = ws} {c = c} {items = more} {gs = gs} {cs = is} {fs = fs} a o h) =
        block_reached n ns more (features more fs) a o (λ m. items_reached m (ns ++ features_of ws c gs is) h)

    item_rest_reached : (ns : List (Noted Tok)) {all : WrittenTree} {fs : List (ConstructFeatures Tok)} {ts : Tokens} → ItemRest to_tokens (PastLimitAt conditions.limit Hit) all fs ts → Continued (after_item token_leaves token_attributes) all (features all fs) ts ns
    item_rest_reached ns (g.trailing {items = more} {fs = fs} {token = t} {rest = rest} kind e) =
        let c = line_end_reached ns e in
        record {
          first = _ ∷ c.first;
          rest = c.rest;
          first_read = rw (accept_taken kinds.Comment t rest conditions 0 ns kind, c.first_read) refl;
          goes_on = λ n. front_more _ c.first more (counted n more) (ns ++ features more fs) (items token_leaves token_attributes n (input conditions 0 c.rest ns)) (c.goes_on n);
        }
    item_rest_reached ns (g.bare {tokens = ts} e) =
        let c = line_end_reached ns e in
        record { first = c.first; rest = c.rest; first_read = rw (accept_left kinds.Comment ts conditions 0 ns (no_comment e)) c.first_read; goes_on = c.goes_on }

    line_end_reached : (ns : List (Noted Tok)) {all : WrittenTree} {fs : List (ConstructFeatures Tok)} {ts : Tokens} → LineEnd to_tokens (PastLimitAt conditions.limit Hit) all fs ts → Continued (line_end token_leaves token_attributes) all (features all fs) ts ns
    line_end_reached ns (g.line_end {token = t} {rest = rest} kind h) =
        record {
          first = tree.Newline ∷ [];
          rest = rest;
          first_read = rw (accept_left kinds.Eof (t ∷ rest) conditions 0 ns (λ e. cc), expect_taken kinds.Eol t rest conditions 0 ns kind) refl;
          goes_on = λ n. r.pass conditions Hit _ (items_reached n ns h) refl;
        }
    line_end_reached ns (g.file_end {token = t} kind) =
        record {
          first = [];
          rest = t ∷ [];
          first_read = rw (accept_taken kinds.Eof t [] conditions 0 ns kind) refl;
          goes_on = λ n. r.renoted conditions Hit (sym (append-nil ns)) (r.read_now conditions Hit _ refl (rw (items_is token_leaves token_attributes n (input conditions 0 (t ∷ []) ns), accept_taken kinds.Eof t [] conditions 0 ns kind) refl));
        }

  pub file_reached : {all : WrittenTree} {fs : List (ConstructFeatures Tok)} {ts : Tokens} → File to_tokens (PastLimitAt conditions.limit Hit) all fs ts
      → ReachesOne conditions Hit (tree_of_tokens conditions ts) (all, features all fs) (all_literals all) (broken conditions.current (token_view conditions) all)
  unfolding tree_of_tokens reader.file
  file_reached (g.with_byte_order_mark {token = t} {rest = rest} kind h) = rw (accept_taken kinds.ByteOrderMark t rest conditions 0 [] kind) (r.pass conditions Hit _ (items_reached unnumbered [] h) refl)
  file_reached (g.without_byte_order_mark {tokens = ts} h) = rw (accept_left kinds.ByteOrderMark ts conditions 0 [] (no_mark h)) (r.pass conditions Hit _ (items_reached unnumbered [] h) refl)
