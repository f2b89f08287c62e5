-- A file that is parsed derives, with the features that the parser notes, and its literals have texts.
use Rattle.std.proofs.Common.{◌≡◌, ℕ, Bool, true, false, cond, List, [], ◌∷◌, ◌++◌, drop, Option, Some, None, Ok, IfOk, codes, refl, sym, subst, ap, ◌∙◌, append_assoc, append-nil}
use Rattle.std.specs.Option.{option_map}
use Rattle.std.specs.Str.{trim_end}
use Rattle.justfile_vocabulary.specs.declared.token_kind.TokenKind.{TokenKind}
use Rattle.justfile_vocabulary.specs.declared.token_kind.TokenKind.TheVariants as kinds
use Rattle.justfile_vocabulary.specs.Keyword.{keyword_text}
use Rattle.justfile_vocabulary.specs.declared.item_kind.ItemKind.{ItemKind}
use Rattle.justfile_vocabulary.specs.declared.item_kind.ItemKind.TheVariants as item_kinds
use Rattle.justfile_vocabulary.specs.declared.keyword.Keyword.{Keyword}
use Rattle.justfile_model.specs.Grammars.AttributeLines as attributes_of
use Rattle.justfile_model.specs.Meanings.AttributeRules.{allowed_broken}
use Rattle.justfile_model.specs.Grammars.Conditions.{Conditions}
use Rattle.justfile_model.specs.Meanings.ConstructRules.{form_broken, meaning_broken}
use Rattle.justfile_model.specs.Meanings.ReadAttribute.{ReadAttribute, token_view}
use Rattle.justfile_model.specs.Meanings.RecipeRules.{exclusions_broken}
use Rattle.justfile_model.specs.Meanings.Rules.{Broken}
use Rattle.justfile_model.specs.Lexing.Tok.{Tok}
use Rattle.justfile_model.specs.Lexing.SignificantTokens.{SignificantToken}
use Rattle.justfile_model.specs.Trees.Tree as tree
use Rattle.justfile_model.specs.Trees.Tree.{BodyLine, Construct, Content, Entry, Expr, Fragment, Header, Line, Quoted, SettingValue, WrittenAttribute, WrittenItem, WrittenTree, bare_recipe, itself, assignment_of, bare_module, trimmed}
use Rattle.justfile_model.specs.Grammars.Features.{ConstructFeatures, Noted}
use Rattle.justfile_model.specs.Grammars.Expressions.{Tokens, IsKind, IsWord, NotNext, BelowLimit, front}
use Rattle.justfile_model.specs.Grammars.Grammar as g
use Rattle.justfile_model.specs.Grammars.Headers as headers
use Rattle.justfile_model.specs.Grammars.Grammar.{BeforeBody, NotEmpty}
use Rattle.justfile_model.specs.Readers.HeaderReader.{next_binding_number, path}
use Rattle.justfile_model.specs.Grammars.ItemParts.{EndsLine, FilePath, NoPath, NotNamedString}
use Rattle.justfile_model.specs.LiteralTexts.Literals.{Literal}
use Rattle.justfile_model.specs.Meanings.Meaning.{entries_of}
use Rattle.justfile_model.specs.Grammars.Files.{all_features, all_literals, body_literals, content_literals, entries_features, fragments_literals, to_tokens}
use Rattle.justfile_model.specs.Readers.ReaderState.{◌>>=◌, Counters, accepted, at, comment_in, next_are, prepend, taken_or}
use Rattle.justfile_model.specs.Meanings.SettingRules.{value_broken}
use Rattle.justfile_model.specs.Grammars.Settings.{SettingForm, setting_form}
use Rattle.justfile_model.specs.Readers.Reader as reader
use Rattle.justfile_model.specs.Readers.PartReader.{after_numbered, peek_assignment, is_imported, is_module, is_set, line_is, setting_value}
use Rattle.justfile_model.specs.Readers.Reader.{Start, alias, check_allowed, any_module, any_recipe, argument_rules, assignment, at_end, attributes, body, body_after, body_line, comment_item, construct, constructed, content, content_has_body, next_recipe_number, item_end, entries_read, fragment, function, has_body, import, imported, after_item, items, items_from, items_rule, line, line_at, line_end, line_rest, line_rest_rule, lines, lines_rule, named_module, no_items, no_line_rest, no_lines, any_item, optional_body, recipe, setting, some_lines, stands_alone, unexport, without_keyword}
use Rattle.justfile_model.specs.Readers.TreeReader.{Read, State, tree_of_tokens, start_state, token_attributes, token_leaves, unnumbered}
use Rattle.justfile_model.proofs.Sound.AttributeSound.{AttributeLines, IsRead, attributes_sound, entries_in, written_in}
use Rattle.justfile_model.proofs.Sound.HeaderSound.{HeaderOf, IsHeader, NamedHeader, header_of, header_sound, if_obeyed, path_sound, quiet}
use Rattle.justfile_model.proofs.Sound.UnbrokenItems.{AllObeyed, UnbrokenItems, both_obeyed, comment_obeyed, construct_obeyed, newline_obeyed}
use Rattle.justfile_model.proofs.Sound.PartSound.{IsOptionalPath, after_choose_before, after_keyword, file_path_sound, line_ends, names_sound, no_value, optional_path_sound, value_sound, with_path, without_path}
use Rattle.justfile_model.proofs.Readers.ReadingSteps.{after_test, loop_has}
use Rattle.justfile_model.proofs.Readers.Steps.{AreNext, Holds, after_accept, after_choose, are_next, failed, held, holds, if_expected, if_next, if_ok, one_of, read_then, weaken}
use Rattle.justfile_model.proofs.Derivations.Beginnings.{attributes_begin, block_begins, line_begins}
use Rattle.justfile_model.proofs.Derivations.CookedTexts.{AllCook, fragments_cook, lines_cook, items_cook, trimmed_literals}
use Rattle.justfile_model.proofs.Readers.Meets.{Met, both_met, all_met}
use Rattle.justfile_model.proofs.Sound.ExpressionSound as e
use Rattle.justfile_model.proofs.Sound.ExpressionSound.{Derived, Here, again, alone, begins, ends, followed, plainly}
use Rattle.justfile_model.proofs.Completeness.HeaderCovers.{not_there}

module _ (conditions : Conditions) where
  -- trees with their tokens, under the limit
  abbrev pub LineRest : List (Fragment Tok Tok) → List (Noted Tok) → Tokens → Tokens → Type 0
  LineRest = g.LineRest itself itself (BelowLimit conditions.limit)

  abbrev pub BodyLines : List (BodyLine Tok Tok ℕ) → List (Noted Tok) → Tokens → Tokens → Type 0
  BodyLines = g.BodyLines to_tokens (BelowLimit conditions.limit)

  abbrev pub OnLine : Content Tok Tok ℕ Tok → List (Noted Tok) → Tokens → Tokens → Type 0
  OnLine = g.OnLine to_tokens (BelowLimit conditions.limit)

  abbrev pub Block : Content Tok Tok ℕ Tok → List (Noted Tok) → Tokens → Tokens → Type 0
  Block = g.Block to_tokens (BelowLimit conditions.limit)

  abbrev pub Items : WrittenTree → List (ConstructFeatures Tok) → Tokens → Type 0
  Items = g.Items to_tokens (BelowLimit conditions.limit)

  abbrev pub ItemRest : WrittenTree → List (ConstructFeatures Tok) → Tokens → Type 0
  ItemRest = g.ItemRest to_tokens (BelowLimit conditions.limit)

  abbrev pub LineEnd : WrittenTree → List (ConstructFeatures Tok) → Tokens → Type 0
  LineEnd = g.LineEnd to_tokens (BelowLimit conditions.limit)

  abbrev pub File : WrittenTree → List (ConstructFeatures Tok) → Tokens → Type 0
  File = g.File to_tokens (BelowLimit conditions.limit)

  -- what is read of a file's expressions
  abbrev Expression : Bool → ℕ → Expr Tok Tok → List (Noted Tok) → Tokens → Tokens → Type 0
  Expression = e.Expression conditions

  -- an item with a body, or without one, before what ends it
  pub data Starts : Bool → WrittenItem Tok Tok ℕ Tok → List (ConstructFeatures Tok) → Tokens → Tokens → Type 0 where
    of_comment : {t : SignificantToken} {rest : Tokens} → IsKind kinds.Comment t → Starts false (comment_item token_leaves token_attributes t) [] (t ∷ rest) rest
    of_line : {ws : List (WrittenAttribute Tok Tok)} {c : Content Tok Tok ℕ Tok} {gs fs : List (Noted Tok)} {ts header rest : Tokens}
        → AttributeLines conditions ws gs ts header → OnLine c fs header rest
        → Starts false (Construct ws c) (record { attributes = gs; content = fs } ∷ []) ts rest
    of_block : {ws : List (WrittenAttribute Tok Tok)} {c : Content Tok Tok ℕ Tok} {gs fs : List (Noted Tok)} {ts header rest : Tokens}
        → AttributeLines conditions ws gs ts header → Block c fs header rest
        → Starts true (Construct ws c) (record { attributes = gs; content = fs } ∷ []) ts rest

  -- a construct with a body, or without one, before its end
  pub data Contents : Bool → Content Tok Tok ℕ Tok → List (Noted Tok) → Tokens → Tokens → Type 0 where
    a_line : {c : Content Tok Tok ℕ Tok} {fs : List (Noted Tok)} {ts rest : Tokens} → OnLine c fs ts rest → Contents false c fs ts rest
    a_block : {c : Content Tok Tok ℕ Tok} {fs : List (Noted Tok)} {ts rest : Tokens} → Block c fs ts rest → Contents true c fs ts rest

  starts : {b : Bool} {ws : List (WrittenAttribute Tok Tok)} {c : Content Tok Tok ℕ Tok} {gs fs : List (Noted Tok)} {ts header rest : Tokens}
      → AttributeLines conditions ws gs ts header → Contents b c fs header rest → Starts b (Construct ws c) (record { attributes = gs; content = fs } ∷ []) ts rest
  starts a (a_line o) = of_line a o
  starts a (a_block b) = of_block a b

  -- at `Eof` a line's end is the file's
  at_eof : {items : WrittenTree} {fs : List (ConstructFeatures Tok)} {t : SignificantToken} {rest : Tokens} → IsKind kinds.Eof t → Items items fs (t ∷ rest)
      → LineEnd items fs (t ∷ rest)
  at_eof kind (g.end kind2) = g.file_end kind2
  at_eof kind (g.blank kind2 more) = cc
  at_eof kind (g.comment kind2 more) = cc
  at_eof kind (g.on_line a o more) = absurd ((attributes_begin a (line_begins o)).no_file_end kind)
  at_eof kind (g.block a o more) = absurd ((attributes_begin a (block_begins o)).no_file_end kind)

  -- where a body ends, its last line does
  at_dedent : (ts : Tokens) → AreNext (kinds.Dedent ∷ []) ts → LineRest [] [] ts ts
  at_dedent [] h = absurd h
  at_dedent (t ∷ ts) h = g.body_ends h.0

  -- a line before others, where no body ends
  line_leads : {fragments : List (Fragment Tok Tok)} {fs : List (Noted Tok)} {ts between : Tokens} → LineRest fragments fs ts between → NotNext kinds.Dedent ts
      → (more : List (BodyLine Tok Tok ℕ)) (gs : List (Noted Tok)) (rest : Tokens) → BodyLines more gs between rest → BodyLines (Line (line_at token_leaves ts) fragments ∷ more) (fs ++ gs) ts rest
  line_leads (g.line_ends kind) not more gs rest h = g.empty_line kind h
  line_leads (g.body_ends kind) not more gs rest h = absurd (not kind)
  line_leads (g.text kind l) not more gs rest h = g.some_line (g.text kind l) h
  line_leads (g.interpolation kind e kind2 l) not more gs rest h = g.some_line (g.interpolation kind e kind2 l) h

  starts_at_once : (ts : Tokens) → AreNext (kinds.Eol ∷ kinds.Indent ∷ []) ts → BeforeBody None ts (drop 2 ts)
  starts_at_once [] h = absurd h
  starts_at_once (t ∷ []) h = absurd h.1
  starts_at_once (t ∷ u ∷ ts) h = g.at_once h.0 h.1.0

  -- the text of a comment, if there is one
  abbrev pub comment_text_of : Option SignificantToken → Option (List ℕ)
  comment_text_of comment = option_map (comment_in token_leaves) comment

  starts_commented : (ts : Tokens) → AreNext (kinds.Comment ∷ kinds.Eol ∷ kinds.Indent ∷ []) ts → BeforeBody (comment_text_of (front ts)) ts (drop 3 ts)
  starts_commented [] h = absurd h
  starts_commented (t ∷ []) h = absurd h.1
  starts_commented (t ∷ u ∷ []) h = absurd h.1.1
  starts_commented (t ∷ u ∷ v ∷ ts) h = g.commented h.0 h.1.0 h.1.1.0

  abbrev recipe_content : Header Tok Tok Tok → Option (List ℕ) → List (BodyLine Tok Tok ℕ) → Content Tok Tok ℕ Tok
  recipe_content h comment ls = tree.Recipe (bare_recipe h comment ls)

  starts_block : (h : Header Tok Tok Tok) (comment : Option (List ℕ)) (fs : List (Noted Tok)) (ts rest : Tokens) (ls : List (BodyLine Tok Tok ℕ))
      → Block (recipe_content h comment ls) fs ts rest → NotEmpty ls
      → Contents (content_has_body (recipe_content h comment ls)) (recipe_content h comment ls) fs ts rest
  starts_block h comment fs ts rest [] b some = absurd some
  starts_block h comment fs ts rest (l ∷ ls) b some = a_block b

  -- one after the other, with all their literals
  joined : {fs gs : List (Noted Tok)} {ls ms all : List (Literal Tok)} {a b c : List (Noted Tok)} → Met conditions.expander fs ls a b → Met conditions.expander gs ms b c → AllCook conditions.expander all → Met conditions.expander (fs ++ gs) all a c
  joined h k cooks = record { noted_is = (both_met h k).noted_is; cooks = cooks }

  -- with other literals
  with_literals : {fs : List (Noted Tok)} {ls all : List (Literal Tok)} {a b : List (Noted Tok)} → Met conditions.expander fs ls a b → AllCook conditions.expander all → Met conditions.expander fs all a b
  with_literals h cooks = record { noted_is = h.noted_is; cooks = cooks }

  -- a fragment that was read, before any that may follow
  abbrev pub IsFragment : State → Fragment Tok Tok × State → Type 0
  IsFragment s x =
      Derived conditions (λ fs ts between. (more : List (Fragment Tok Tok)) (gs : List (Noted Tok)) (rest : Tokens) → LineRest more gs between rest → LineRest (x.0 ∷ more) (fs ++ gs) ts rest) (fragments_literals (x.0 ∷ [])) 0 s x.1

  abbrev pub IsLineRest : State → List (Fragment Tok Tok) × State → Type 0
  IsLineRest s x = Derived conditions (LineRest x.0) (fragments_literals x.0) 0 s x.1

  -- a line that was read where no body ends, before any that may follow
  abbrev pub IsBodyLine : State → BodyLine Tok Tok ℕ × State → Type 0
  IsBodyLine s x =
      Derived conditions (λ fs ts between. NotNext kinds.Dedent ts → (more : List (BodyLine Tok Tok ℕ)) (gs : List (Noted Tok)) (rest : Tokens) → BodyLines more gs between rest → BodyLines (x.0 ∷ more) (fs ++ gs) ts rest) (body_literals (x.0 ∷ [])) 0 s x.1

  abbrev pub IsLines : State → List (BodyLine Tok Tok ℕ) × State → Type 0
  IsLines s x = Derived conditions (BodyLines x.0) (body_literals x.0) 0 s x.1

  -- lines of which some are left
  pub record IsBody (s : State) (x : List (BodyLine Tok Tok ℕ) × State) : Type 0 where
    pub all : List (BodyLine Tok Tok ℕ)
    pub features : List (Noted Tok)
    pub lines : BodyLines all features s.left x.1.left
    pub left : trimmed all ≡ x.0
    pub some : NotEmpty x.0
    pub met : Met conditions.expander features (body_literals x.0) s.noted x.1.noted
    pub stays : Here conditions 0 x.1

  -- a body after a header, or none
  pub data IsOptionalBody (s : State) : reader.CommentedBody token_leaves × State → Type 0 where
    no_body : IsOptionalBody s ((None, []), s)
    a_body : {comment : Option SignificantToken} {first : Tokens} {x : List (BodyLine Tok Tok ℕ) × State} → BeforeBody (comment_text_of comment) s.left first
        → IsBody (at s first) x → IsOptionalBody s ((comment, x.0), x.1)

  -- what attributes that were read mean, in the order of their content
  abbrev meant : List ReadAttribute → List (Entry Tok Tok)
  meant ws = entries_read token_leaves token_attributes conditions ws

  -- a construct that was read after its attributes; the features of `arg` attributes are noted with those of the construct
  pub record IsContent (ws : List ReadAttribute) (s : State) (x : (WrittenItem Tok Tok ℕ Tok × Counters) × State) : Type 0 where
    pub content : Content Tok Tok ℕ Tok
    pub is : x.0.0 ≡ Construct (written_in ws) content
    pub features : List (Noted Tok)
    pub derives : Contents (content_has_body content) content features s.left x.1.left
    pub met : Met conditions.expander (entries_features content (meant ws) ++ features) (content_literals content) s.noted x.1.noted
    pub stays : Here conditions 0 x.1
    pub unbroken : meaning_broken (token_view conditions) content (meant ws) ≡ []
    pub formed : form_broken conditions.current (token_view conditions) content ≡ []

  -- items note these features, with any items after them
  abbrev Note : WrittenTree → List (ConstructFeatures Tok) → List (Noted Tok) → Type 0
  Note items bs fs =
      (more : WrittenTree) (cs : List (ConstructFeatures Tok)) → all_features (token_view conditions) (items ++ more) (bs ++ cs) ≡ fs ++ all_features (token_view conditions) more cs

  both_note : (is js : WrittenTree) (bs cs : List (ConstructFeatures Tok)) (fs gs : List (Noted Tok)) → Note is bs fs → Note js cs gs
      → Note (is ++ js) (bs ++ cs) (fs ++ gs)
  both_note is js bs cs fs gs h k more ds =
      let after : List (Noted Tok) = all_features (token_view conditions) more ds in
      ap (λ l. all_features (token_view conditions) l ((bs ++ cs) ++ ds)) (append_assoc is js more)
      ∙ ap (λ l. all_features (token_view conditions) (is ++ (js ++ more)) l) (append_assoc bs cs ds)
      ∙ h (js ++ more) (cs ++ ds) ∙ ap (λ l. fs ++ l) (k more ds) ∙ sym (append_assoc fs gs after)

  -- what is read from one place up to another derives these items by the rule, with the features of each construct
  pub record DerivedItems (rule : List (ConstructFeatures Tok) → Tokens → Tokens → Type 0) (items : WrittenTree) (s rest : State) : Type 0 where
    pub by_construct : List (ConstructFeatures Tok)
    pub derives : rule by_construct s.left rest.left
    pub features : List (Noted Tok)
    pub note : Note items by_construct features
    pub met : Met conditions.expander features (all_literals items) s.noted rest.noted
    pub stays : Here conditions 0 rest
    pub obeys : AllObeyed conditions.current (token_view conditions) items

  -- where these tokens come next
  items_begin : {rule : List (ConstructFeatures Tok) → Tokens → Tokens → Type 0} {items : WrittenTree} {s rest : State} {ts : Tokens} → s.left ≡ ts
      → DerivedItems rule items (at s ts) rest → DerivedItems rule items s rest
  items_begin {rule} {rest = rest} split h = record {
    by_construct = h.by_construct;
    derives = subst (λ (us : Tokens). rule h.by_construct us rest.left) (sym split) h.derives;
    features = h.features;
    note = h.note;
    met = h.met;
    stays = h.stays;
    obeys = h.obeys;
  }

  -- by another rule
  items_again : {rule other : List (ConstructFeatures Tok) → Tokens → Tokens → Type 0} {items : WrittenTree} {s rest : State} {ts us : Tokens}
      (h : DerivedItems rule items s rest) → other h.by_construct ts us → DerivedItems other items (at s ts) (at rest us)
  items_again h derives =
      record { by_construct = h.by_construct; derives = derives; features = h.features; note = h.note; met = h.met; stays = h.stays; obeys = h.obeys }

  -- one after the other
  items_followed : {rule next all : List (ConstructFeatures Tok) → Tokens → Tokens → Type 0} {is js : WrittenTree} {s mid rest : State} {ts us : Tokens}
      (h : DerivedItems rule is s mid) (k : DerivedItems next js mid rest) → all (h.by_construct ++ k.by_construct) ts us
      → DerivedItems all (is ++ js) (at s ts) (at rest us)
  items_followed {is = is} {js = js} h k derives = record {
    by_construct = h.by_construct ++ k.by_construct;
    derives = derives;
    features = h.features ++ k.features;
    note = both_note is js h.by_construct k.by_construct h.features k.features h.note k.note;
    met = joined h.met k.met (items_cook conditions.expander is js h.met.cooks k.met.cooks);
    stays = k.stays;
    obeys = both_obeyed conditions.current (token_view conditions) is js h.obeys k.obeys;
  }

  -- items without features and literals
  bare_items : {rule : List (ConstructFeatures Tok) → Tokens → Tokens → Type 0} {items : WrittenTree} {s : State} {ts : Tokens} → Here conditions 0 s
      → Note items [] [] → AllCook conditions.expander (all_literals items) → AllObeyed conditions.current (token_view conditions) items → rule [] s.left ts
      → DerivedItems rule items s (at s ts)
  bare_items {s = s} here note cooks obeys derives =
      record { by_construct = []; derives = derives; features = []; note = note; met = record { noted_is = sym (append-nil s.noted); cooks = cooks }; stays = here; obeys = obeys }

  a_newline : AllObeyed {C = ℕ} conditions.current (token_view conditions) (tree.Newline ∷ [])
  a_newline = (newline_obeyed conditions.current (token_view conditions), tt)

  -- an item that was read: it derives, and obeys the rules
  pub record IsOnLine (s : State) (x : (WrittenItem Tok Tok ℕ Tok × Counters) × State) : Type 0 where
    pub derived : DerivedItems (Starts (has_body x.0.0) x.0.0) (x.0.0 ∷ []) s x.1
    pub obeys : UnbrokenItems conditions.current (token_view conditions) x.0.0

  -- items that were read, before any that may follow
  abbrev pub Leads : (WrittenTree → List (ConstructFeatures Tok) → Tokens → Type 0) → State → WrittenTree × State → Type 0
  Leads Rule s x =
      DerivedItems (λ fs ts between. (more : WrittenTree) (gs : List (ConstructFeatures Tok)) → Items more gs between → Rule (x.0 ++ more) (fs ++ gs) ts) x.0 s x.1

  -- items that were read and numbered, before any that may follow
  abbrev pub LeadsNumbered : State → (WrittenTree × Counters) × State → Type 0
  LeadsNumbered s x = Leads Items s (x.0.0, x.1)

  -- all items up to the end of the file
  abbrev pub ReadsWholeFile : (WrittenTree → List (ConstructFeatures Tok) → Tokens → Type 0) → State → (WrittenTree × Counters) × State → Type 0
  ReadsWholeFile Rule s x = DerivedItems (λ fs ts end. Rule x.0.0 fs ts) x.0.0 s x.1

  -- a file and its features
  pub record IsFile (ts : Tokens) (x : WrittenTree × List (Noted Tok)) : Type 0 where
    pub by_construct : List (ConstructFeatures Tok)
    pub derives : File x.0 by_construct ts
    pub features_are : x.1 ≡ all_features (token_view conditions) x.0 by_construct
    pub cooks : AllCook conditions.expander (all_literals x.0)
    pub obeys : AllObeyed conditions.current (token_view conditions) x.0

  -- what an item of this kind with this name breaks by its attributes
  abbrev name_breaks : ItemKind → List ReadAttribute → Tok → Conditions → List (Broken Tok)
  name_breaks item ws name run = allowed_broken (token_view run) item name (entries_read token_leaves token_attributes run ws)

  -- what a recipe with this name breaks by kinds that exclude each other
  abbrev exclusion_breaks : List ReadAttribute → Tok → Conditions → List (Broken Tok)
  exclusion_breaks ws name run = exclusions_broken (token_view run) name (entries_read token_leaves token_attributes run ws)

  abbrev ReadItem : Type 0
  ReadItem = Read (WrittenItem Tok Tok ℕ Tok × Counters)

  -- attributes that a construct with this name may have
  if_allowed : {X : Type 0} {P : X × State → Type 0} (item : ItemKind) (ws : List ReadAttribute) (name : SignificantToken) (s : State) (f : Unit {0} × State → Read X)
      → s.run ≡ conditions → (name_breaks item ws name.tok conditions ≡ [] → Holds P (f (tt, s)))
      → Holds P (check_allowed token_leaves token_attributes item ws name s >>= f)
  if_allowed item ws name s f run goes =
      if_obeyed (name_breaks item ws name.tok s.run) s f (λ none. goes (subst (λ run. name_breaks item ws name.tok run ≡ []) run none))

  -- a construct without a body, which notes no features at its name
  on_line : {ws : List ReadAttribute} {n : Counters} {s rest : State} (c : Content Tok Tok ℕ Tok) → content_has_body c ≡ false → entries_features c (meant ws) ≡ []
      → Derived conditions (OnLine c) (content_literals c) 0 s rest → meaning_broken (token_view conditions) c (meant ws) ≡ []
      → form_broken conditions.current (token_view conditions) c ≡ [] → IsContent ws s ((Construct (written_in ws) c, n), rest)
  on_line {s = s} {rest = rest} c bodyless featureless h unbroken formed = record {
    content = c;
    is = refl;
    features = h.features;
    derives = subst (λ b. Contents b c h.features s.left rest.left) (sym bodyless) (a_line h.derives);
    met = subst (λ fs. Met conditions.expander (fs ++ h.features) (content_literals c) s.noted rest.noted) (sym featureless) h.met;
    stays = h.stays;
    unbroken = unbroken;
    formed = formed;
  }

  -- an assignment from its name on, where one begins so
  pub assignment_sound : (eager export : Bool) (ws : List ReadAttribute) (n : Counters) (s : State) (ts : Tokens) → Here conditions 0 s
      → ((name operator : SignificantToken) (us rest : Tokens) (e : Expr Tok Tok) (fs : List (Noted Tok)) → s.left ≡ name ∷ operator ∷ us
      → IsKind kinds.Identifier name → IsKind kinds.ColonEquals operator → Expression false 0 e fs us rest
      → OnLine (tree.Assignment (assignment_of eager export name.tok e)) fs ts rest)
      → Holds (IsContent ws (at s ts)) (assignment token_leaves token_attributes eager export ws n s)
  unfolding assignment next_binding_number
  assignment_sound eager export ws n s ts here derive =
      if_expected kinds.Identifier s _ (λ name t1 split kind. if_expected kinds.ColonEquals (at s t1) _ (λ operator t2 split2 kind2.
      read_then (e.expression_sound conditions (at s t2) here) (λ x found.
      if_allowed item_kinds.Assignment ws name x.1 _ found.stays.1 (λ none.
      holds (on_line (tree.Assignment (assignment_of eager export name.tok x.0)) refl refl
      (again found (derive name operator t2 x.1.left x.0 found.features (split ∙ ap (λ (l : Tokens). name ∷ l) split2) kind kind2 found.derives)) none refl)))))

  alias_sound : (ws : List ReadAttribute) (n : Counters) (s : State) → Here conditions 0 s → (word : SignificantToken) (t0 : Tokens) → s.left ≡ word ∷ t0
      → IsWord (codes "alias") word → Holds (IsContent ws s) (alias token_leaves token_attributes ws n (at s t0))
  unfolding alias
  alias_sound ws n s here word t0 split0 is_word =
      if_expected kinds.Identifier (at s t0) _ (λ name t1 split kind. if_expected kinds.ColonEquals (at s t1) _ (λ operator t2 split2 kind2.
      read_then (path_sound conditions (at s t2) here) (λ target found.
      if_allowed item_kinds.Alias ws name target.1 _ found.stays.1 (λ none.
      holds (on_line (tree.Alias (record { name = name.tok; target = target.0 })) refl refl
      (begins (split0 ∙ ap (λ (l : Tokens). word ∷ l) (split ∙ ap (λ (l : Tokens). name ∷ l) split2)) (again (quiet conditions found) (g.alias is_word kind kind2 found.derives)))
      none refl)))))

  function_sound : (ws : List ReadAttribute) (n : Counters) (s : State) → Here conditions 0 s
      → Holds (IsContent ws s) (function token_leaves token_attributes ws n s)
  unfolding function
  function_sound ws n s here =
      if_expected kinds.Identifier s _ (λ name t1 split kind.
      if_allowed item_kinds.Function ws name (at s t1) _ here.1 (λ none.
      if_expected kinds.ParenL (at s t1) _ (λ opener t2 split2 kind2.
      read_then (names_sound conditions (n, at s t2) here) (λ parameters all.
      if_expected kinds.ColonEquals parameters.1 _ (λ operator t3 split3 kind3.
      read_then (e.expression_sound conditions (at parameters.1 t3) all.stays) (λ body found.
      let between = ends split3 (quiet conditions all) in
      holds (on_line (tree.Function (record { name = name.tok; parameters = parameters.0.0; body = body.0 })) refl refl
      (begins (split ∙ ap (λ (l : Tokens). name ∷ l) split2) (followed between found (g.function kind kind2 between.derives kind3 found.derives))) none refl)))))))

  -- an import from its path on, where one begins so
  imported_sound : (optional : Bool) (ws : List ReadAttribute) (n : Counters) (s : State) (ts : Tokens) → Here conditions 0 s
      → ((q : Quoted Tok) (rest : Tokens) → FilePath itself q s.left rest → OnLine (tree.Import (record { optional = optional; path = q })) [] ts rest)
      → Holds (IsContent ws (at s ts)) (imported token_leaves token_attributes optional ws n s)
  unfolding imported
  imported_sound optional ws n s ts here derive =
      read_then (file_path_sound conditions s here) (λ path found.
      if_allowed item_kinds.Import ws path.0.0 path.1 _ found.stays.1 (λ none.
      holds (on_line (tree.Import (record { optional = optional; path = path.0.1 })) refl refl
      (record { features = []; derives = derive path.0.1 path.1.left found.derives; met = found.met; stays = found.stays })
      (subst (λ token. name_breaks item_kinds.Import ws token conditions ≡ []) found.token_is none) refl)))

  import_sound : (ws : List ReadAttribute) (n : Counters) (s : State) → Here conditions 0 s → (word : SignificantToken) (t0 : Tokens) → s.left ≡ word ∷ t0
      → IsWord (codes "import") word → Holds (IsContent ws s) (import token_leaves token_attributes ws n (at s t0))
  unfolding import accepted
  import_sound ws n s here word t0 split0 is_word =
      after_accept kinds.QuestionMark (at s t0)
      (λ o. Holds (IsContent ws s) (imported token_leaves token_attributes (taken_or (at s t0) o).0 ws n (taken_or (at s t0) o).1))
      (λ _. imported_sound false ws n (at s t0) s.left here (λ q rest h. subst (λ (l : Tokens). OnLine (import_of false q) [] l rest) (sym split0) (g.import is_word h)))
      (λ mark t1 split kind. imported_sound true ws n (at s t1) s.left here (λ q rest h.
      subst (λ (l : Tokens). OnLine (import_of true q) [] l rest) (sym (split0 ∙ ap (λ (l : Tokens). word ∷ l) split)) (g.optional_import is_word kind h)))
    where
      import_of : Bool → Quoted Tok → Content Tok Tok ℕ Tok
      import_of optional q = tree.Import (record { optional = optional; path = q })

  -- a module from its name on, where one begins so
  named_module_sound : (optional : Bool) (ws : List ReadAttribute) (n : Counters) (s : State) (ts : Tokens) → Here conditions 0 s
      → ((name : SignificantToken) (rest : Tokens) → s.left ≡ name ∷ rest → IsKind kinds.Identifier name → NoPath rest
      → OnLine (tree.Module (bare_module optional name.tok None)) [] ts rest)
      → ((name : SignificantToken) (us rest : Tokens) (q : Quoted Tok) → s.left ≡ name ∷ us → IsKind kinds.Identifier name → FilePath itself q us rest
      → OnLine (tree.Module (bare_module optional name.tok (Some q))) [] ts rest)
      → Holds (IsContent ws (at s ts)) (named_module token_leaves token_attributes optional ws n s)
  unfolding named_module
  named_module_sound optional ws n s ts here without_file with_file =
      if_expected kinds.Identifier s _ (λ name t1 split kind.
      read_then (optional_path_sound conditions (at s t1) here) (λ path found. finished name t1 split kind path found))
    where
      finished : (name : SignificantToken) (t1 : Tokens) → s.left ≡ name ∷ t1 → IsKind kinds.Identifier name → (path : Option (Quoted Tok) × State)
          → IsOptionalPath conditions (at s t1) path
          → Holds (IsContent ws (at s ts)) (check_allowed token_leaves token_attributes item_kinds.Module ws name path.1 >>= λ checked.
          constructed token_leaves token_attributes ws (tree.Module (bare_module optional name.tok path.0)) n checked.1)
      finished name t1 split kind path (without_path none) =
          if_allowed item_kinds.Module ws name (at s t1) _ here.1 (λ obeys.
          holds (on_line (tree.Module (bare_module optional name.tok None)) refl refl (plainly here (without_file name t1 split kind none)) obeys refl))
      finished name t1 split kind path (with_path {x = x} found) =
          if_allowed item_kinds.Module ws name x.1 _ found.stays.1 (λ obeys.
          holds (on_line (tree.Module (bare_module optional name.tok (Some x.0.1))) refl refl
          (record { features = []; derives = with_file name t1 x.1.left x.0.1 split kind found.derives; met = found.met; stays = found.stays }) obeys refl))

  -- where a module is alone on its line, no path comes next and no `?`
  module_ends : (s : State) (t0 : Tokens) → is_module token_leaves (at s t0) ≡ true → NotNext kinds.QuestionMark t0 → (name : SignificantToken) (t1 : Tokens)
      → t0 ≡ name ∷ t1 → NoPath t1 → EndsLine t1
  module_ends s t0 h not name t1 split none =
      let next : (ks : List TokenKind) → next_are token_leaves ks (at s t0) ≡ true → AreNext ks (name ∷ t1) = λ ks is. subst (AreNext ks) split (are_next ks (at s t0) is) in
      one_of _ _ h (λ h. one_of _ _ h (λ h. one_of _ _ h
      (λ is. absurd (not_there kinds.QuestionMark t0 not (are_next (kinds.QuestionMark ∷ []) (at s t0) is)))
      (λ is. line_ends (at s t0) name t1 split is))
      (λ is. absurd (not_there kinds.StringToken t1 none.unmarked (next (kinds.Identifier ∷ kinds.StringToken ∷ []) is).1)))
      (λ is. absurd (named t1 (next (kinds.Identifier ∷ kinds.Identifier ∷ kinds.StringToken ∷ []) is).1 none.marked))
    where
      named : (l : Tokens) → AreNext (kinds.Identifier ∷ kinds.StringToken ∷ []) l → NotNamedString l → ⊥
      named [] a n = absurd a
      named (t ∷ []) a n = absurd a.1
      named (t ∷ u ∷ ts) a n = n a.0 a.1.0

  any_module_sound : (ws : List ReadAttribute) (n : Counters) (s : State) → Here conditions 0 s → (word : SignificantToken) (t0 : Tokens) → s.left ≡ word ∷ t0
      → IsWord (codes "mod") word → is_module token_leaves (at s t0) ≡ true → Holds (IsContent ws s) (any_module token_leaves token_attributes ws n (at s t0))
  unfolding any_module accepted
  any_module_sound ws n s here word t0 split0 is_word follows =
      after_accept kinds.QuestionMark (at s t0)
      (λ o. Holds (IsContent ws s) (named_module token_leaves token_attributes (taken_or (at s t0) o).0 ws n (taken_or (at s t0) o).1))
      (λ not. named_module_sound false ws n (at s t0) s.left here
      (λ name rest split kind none. subst (λ (l : Tokens). OnLine (module_of false name None) [] l rest) (sym (split0 ∙ ap (λ (l : Tokens). word ∷ l) split))
      (g.module_alone is_word kind (module_ends s t0 follows not name rest split none)))
      (λ name us rest q split kind h. subst (λ (l : Tokens). OnLine (module_of false name (Some q)) [] l rest) (sym (split0 ∙ ap (λ (l : Tokens). word ∷ l) split))
      (g.module_at is_word kind h)))
      (λ mark t1 split1 kind1. named_module_sound true ws n (at s t1) s.left here
      (λ name rest split kind none. subst (λ (l : Tokens). OnLine (module_of true name None) [] l rest)
      (sym (split0 ∙ ap (λ (l : Tokens). word ∷ l) (split1 ∙ ap (λ (l : Tokens). mark ∷ l) split))) (g.optional_module_alone is_word kind1 kind none))
      (λ name us rest q split kind h. subst (λ (l : Tokens). OnLine (module_of true name (Some q)) [] l rest)
      (sym (split0 ∙ ap (λ (l : Tokens). word ∷ l) (split1 ∙ ap (λ (l : Tokens). mark ∷ l) split))) (g.optional_module_at is_word kind1 kind h)))
    where
      module_of : Bool → SignificantToken → Option (Quoted Tok) → Content Tok Tok ℕ Tok
      module_of optional name path = tree.Module (bare_module optional name.tok path)

  -- where no `:=` comes next, a setting is alone on its line
  setting_ends : (s : State) (t0 : Tokens) → is_set token_leaves (at s t0) ≡ true → (name : SignificantToken) (t1 : Tokens) → t0 ≡ name ∷ t1
      → NotNext kinds.ColonEquals t1 → EndsLine t1
  setting_ends s t0 h name t1 split not =
      let assigned : List TokenKind = kinds.Identifier ∷ kinds.ColonEquals ∷ [] in
      one_of _ _ h (λ is. absurd (not_there kinds.ColonEquals t1 not (subst (AreNext assigned) split (are_next assigned (at s t0) is)).1))
      (λ is. line_ends (at s t0) name t1 split is)

  setting_sound : (ws : List ReadAttribute) (n : Counters) (s : State) → Here conditions 0 s → (word : SignificantToken) (t0 : Tokens) → s.left ≡ word ∷ t0
      → IsWord (codes "set") word → is_set token_leaves (at s t0) ≡ true → Holds (IsContent ws s) (setting token_leaves token_attributes ws n (at s t0))
  unfolding setting
  setting_sound ws n s here word t0 split0 is_word follows =
      if_expected kinds.Identifier (at s t0) _ (λ name t1 split kind.
      after_keyword name (at s t1) _ (λ keyword spelled.
      if_allowed item_kinds.Setting ws name (at s t1) _ here.1 (λ obeys.
      by_form name t1 split kind keyword spelled obeys (setting_form keyword) refl)))
    where
      by_form : (name : SignificantToken) (t1 : Tokens) → t0 ≡ name ∷ t1 → IsKind kinds.Identifier name → (keyword : Keyword) → name.tok.lexeme ≡ keyword_text keyword
          → name_breaks item_kinds.Setting ws name.tok conditions ≡ [] → (form : Option SettingForm) → setting_form keyword ≡ form
          → Holds (IsContent ws s) (setting_value token_leaves token_view name keyword form (at s t1) >>= λ value.
          constructed token_leaves token_attributes ws (tree.Setting (record { keyword = keyword; name = name.tok; value = value.0 })) n value.1)
      by_form name t1 split kind keyword spelled obeys None is =
          read_then (no_value conditions name keyword (at s t1) (λ x. ⊥)) (λ value none. absurd none)
      by_form name t1 split kind keyword spelled obeys (Some form) is =
          read_then (value_sound conditions name keyword form (at s t1) here (setting_ends s t0 follows name t1 split)) (λ value found.
          let derived = found.derived in
          holds (on_line (tree.Setting (record { keyword = keyword; name = name.tok; value = value.0 })) refl refl
          (begins (split0 ∙ ap (λ (l : Tokens). word ∷ l) split) (again derived (g.setting is_word (record { is_name = kind; spelled = spelled }) is derived.derives)))
          obeys (subst (λ o. value_broken conditions.current (token_view conditions) o keyword name.tok value.0 ≡ []) (sym is) found.unbroken)))

  unexport_sound : (ws : List ReadAttribute) (n : Counters) (s : State) → Here conditions 0 s → (word : SignificantToken) (t0 : Tokens) → s.left ≡ word ∷ t0
      → IsWord (codes "unexport") word → line_is token_leaves (kinds.Identifier ∷ []) (at s t0) ≡ true
      → Holds (IsContent ws s) (unexport token_leaves token_attributes ws n (at s t0))
  unfolding unexport
  unexport_sound ws n s here word t0 split0 is_word follows =
      if_expected kinds.Identifier (at s t0) _ (λ name t1 split kind.
      if_allowed item_kinds.Unexport ws name (at s t1) _ here.1 (λ obeys.
      holds (on_line (tree.Unexport name.tok) refl refl
      (begins (split0 ∙ ap (λ (l : Tokens). word ∷ l) split) (plainly here (g.unexport is_word kind (line_ends (at s t0) name t1 split follows)))) obeys refl)))

  -- ---- bodies

  pub fragment_sound : (s : State) → Here conditions 0 s → Holds (IsFragment s) (fragment token_leaves s)
  unfolding fragment
  fragment_sound s here =
      if_next kinds.Text s _
      (λ _. if_expected kinds.InterpolationStart s _ (λ start t1 split kind.
      read_then (e.expression_sound conditions (at s t1) here) (λ x found.
      if_expected kinds.InterpolationEnd x.1 _ (λ end t2 split2 kind2.
      holds (begins split (alone found (λ more gs rest h. g.interpolation kind (ends split2 found).derives kind2 h)))))))
      (λ t rest split kind. holds (begins split (plainly here (λ more gs left h. g.text kind h))))

  pub line_rest_sound : (s : State) → Here conditions 0 s → Holds (IsLineRest s) (line_rest token_leaves s)
  unfolding line_rest line_rest_rule prepend
  line_rest_sound =
      loop_has (λ s. s) (line_rest_rule token_leaves) (λ s found. Here conditions 0 s → Holds (IsLineRest s) found) (λ s here. failed) (λ f h s here.
      if_next kinds.Eol s _
      (λ _. after_test (next_are token_leaves (kinds.Dedent ∷ []) s) _ _ (Holds (IsLineRest s))
      (λ ends. holds (plainly here (at_dedent s.left (are_next (kinds.Dedent ∷ []) s ends))))
      (λ _. read_then (fragment_sound s here) (λ x first. read_then (h x.1 first.stays) (λ more rest. holds (record {
        features = first.features ++ rest.features;
        derives = first.derives more.0 rest.features more.1.left rest.derives;
        met = joined first.met rest.met (fragments_cook conditions.expander x.0 more.0 first.met.cooks rest.met.cooks);
        stays = rest.stays;
      })))))
      (λ t rest split kind. holds (begins split (plainly here (g.line_ends kind)))))

  pub body_line_sound : (s : State) → Here conditions 0 s → Holds (IsBodyLine s) (body_line token_leaves s)
  unfolding body_line
  body_line_sound s here = read_then (line_rest_sound s here) (λ x found. holds (alone found (line_leads found.derives)))

  pub lines_sound : (s : State) → Here conditions 0 s → Holds (IsLines s) (lines token_leaves s)
  unfolding lines lines_rule prepend
  lines_sound =
      loop_has (λ s. s) (lines_rule token_leaves) (λ s found. Here conditions 0 s → Holds (IsLines s) found) (λ s here. failed) (λ f h s here.
      if_next kinds.Dedent s _
      (λ not. read_then (body_line_sound s here) (λ x first. read_then (h x.1 first.stays) (λ more rest. holds (record {
        features = first.features ++ rest.features;
        derives = first.derives not more.0 rest.features more.1.left rest.derives;
        met = joined first.met rest.met (lines_cook conditions.expander x.0 more.0 first.met.cooks rest.met.cooks);
        stays = rest.stays;
      }))))
      (λ t rest split kind. holds (begins split (plainly here (g.no_line kind)))))

  some_left : (s rest : State) (all ls : List (BodyLine Tok Tok ℕ)) → Derived conditions (BodyLines all) (body_literals all) 0 s rest → trimmed all ≡ ls → Holds (IsBody s) (some_lines token_leaves ls rest)
  some_left s rest all [] h e = failed
  some_left s rest all (l ∷ ls) h e = holds (record {
    all = all;
    features = h.features;
    lines = h.derives;
    left = e;
    some = tt;
    met = with_literals h.met (subst (AllCook conditions.expander) (sym (trimmed_literals all) ∙ ap body_literals e) h.met.cooks);
    stays = h.stays;
  })

  pub body_sound : (s : State) → Here conditions 0 s → Holds (IsBody s) (body token_leaves s)
  unfolding body
  body_sound s here = read_then (lines_sound s here) (λ x found. some_left s x.1 x.0 (trimmed x.0) found refl)

  body_is_after : (s : State) (comment : Option SignificantToken) (first : Tokens) → BeforeBody (comment_text_of comment) s.left first → Here conditions 0 s
      → Holds (IsOptionalBody s) (body_after token_leaves comment (at s first))
  unfolding body_after
  body_is_after s comment first b here = read_then (body_sound (at s first) here) (λ x found. holds (a_body b found))

  pub optional_body_sound : (s : State) → Here conditions 0 s → Holds (IsOptionalBody s) (optional_body token_leaves s)
  unfolding optional_body
  optional_body_sound s here =
      let P : Read (reader.CommentedBody token_leaves) → Type 0 = Holds (IsOptionalBody s) in
      let short : State = at s (drop 2 s.left) in
      let long : State = at s (drop 3 s.left) in
      after_test (next_are token_leaves (kinds.Eol ∷ kinds.Indent ∷ []) s) _ _ P
      (λ h. body_is_after s None short.left (starts_at_once s.left (are_next (kinds.Eol ∷ kinds.Indent ∷ []) s h)) here)
      (λ _. after_test (next_are token_leaves (kinds.Comment ∷ kinds.Eol ∷ kinds.Indent ∷ []) s) _ _ P
      (λ h. body_is_after s (front s.left) long.left (starts_commented s.left (are_next (kinds.Comment ∷ kinds.Eol ∷ kinds.Indent ∷ []) s h)) here)
      (λ _. holds no_body))

  -- ---- items

  -- a header with its body, or without one
  abbrev IsHeaded : Header Tok Tok Tok → List (Noted Tok) → Tokens → State → reader.CommentedBody token_leaves × State → Type 0
  IsHeaded h fs ts s x =
      let c = recipe_content h (comment_text_of x.0.0) x.0.1 in
      Derived conditions (λ gs _ rest. Contents (content_has_body c) c (fs ++ gs) ts rest) (body_literals x.0.1) 0 s x.1

  headed : (h : Header Tok Tok Tok) (fs : List (Noted Tok)) (ts : Tokens) (s : State) (x : reader.CommentedBody token_leaves × State) → Here conditions 0 s
      → HeaderOf conditions h fs ts s.left → IsOptionalBody s x → IsHeaded h fs ts s x
  headed h fs ts s x here o no_body =
      plainly here (subst (λ l. Contents false (recipe_content h None []) l ts s.left) (sym (append-nil fs)) (a_line (g.header o)))
  headed h fs ts s x here o (a_body {comment = comment} {x = y} b k) =
      let text : Option (List ℕ) = comment_text_of comment in
      let R : List (BodyLine Tok Tok ℕ) → Type 0 = λ ls. Block (recipe_content h text ls) (fs ++ k.features) ts y.1.left in
      record {
        features = k.features;
        derives = starts_block h text (fs ++ k.features) ts y.1.left y.0 (subst R k.left (g.recipe o b k.lines (subst NotEmpty (sym k.left) k.some))) k.some;
        met = k.met;
        stays = k.stays;
      }

  -- a recipe from its name on, where a header begins so
  recipe_sound : (quiet : Bool) (ws : List ReadAttribute) (n : Counters) (s : State) (ts : Tokens) → Here conditions 0 s
      → ((h : Header Tok Tok Tok) (fs : List (Noted Tok)) (rest : Tokens) → NamedHeader conditions quiet h fs s.left rest → HeaderOf conditions h fs ts rest)
      → Holds (IsContent ws (at s ts)) (recipe token_leaves token_attributes quiet ws n s)
  unfolding recipe next_recipe_number
  recipe_sound quiet ws n s ts here derive =
      let rules_in = argument_rules token_leaves token_attributes in
      read_then (header_sound conditions (rules_in s.run ws) n s here) (λ h is.
      let head : IsHeader conditions (rules_in conditions ws) s h = subst (λ run. IsHeader conditions (rules_in run ws) s h) here.1 is in
      let all : Header Tok Tok Tok = header_of conditions (rules_in conditions ws) quiet h.0.0 in
      read_then (optional_body_sound h.1 head.stays) (λ b body.
      let found = headed all head.features ts h.1 b head.stays (derive all head.features h.1.left (head.derives quiet)) body in
      let noted_here : List (Noted Tok) = entries_features (recipe_content all (comment_text_of b.0.0) b.0.1) (meant ws) in
      if_obeyed (exclusion_breaks ws h.0.0.name.tok b.1.run) b.1 _ (λ none. holds (record {
        content = recipe_content all (comment_text_of b.0.0) b.0.1;
        is = refl;
        features = head.features ++ found.features;
        derives = found.derives;
        met = subst (λ fs. Met conditions.expander fs (content_literals (recipe_content all (comment_text_of b.0.0) b.0.1)) s.noted b.1.noted)
            (append_assoc noted_here head.features found.features) (both_met head.met found.met);
        stays = found.stays;
        unbroken = rw (head.options_unbroken, head.parameters_unbroken, head.none_undefined)
            (subst (λ run. exclusion_breaks ws h.0.0.name.tok run ≡ []) found.stays.1 none);
        formed = head.stars_unbroken;
      }))))

  pub any_recipe_sound : (ws : List ReadAttribute) (n : Counters) (s : State) → Here conditions 0 s
      → Holds (IsContent ws s) (any_recipe token_leaves token_attributes ws n s)
  unfolding any_recipe
  any_recipe_sound ws n s here =
      if_next kinds.At s _ (λ _. recipe_sound false ws n s s.left here (λ h fs rest named. headers.loud named))
      (λ sign t1 split kind. recipe_sound true ws n (at s t1) s.left here
      (λ h fs rest named. subst (λ (ts : Tokens). HeaderOf conditions h fs ts rest) (sym split) (headers.quiet kind named)))

  wordless_sound : (ws : List ReadAttribute) (n : Counters) (s : State) → Here conditions 0 s
      → Holds (IsContent ws s) (without_keyword token_leaves token_attributes ws n s)
  unfolding without_keyword
  wordless_sound ws n s here =
      let P : ReadItem → Type 0 = Holds (IsContent ws s) in
      after_test (next_are token_leaves (kinds.Identifier ∷ kinds.ParenL ∷ []) s) _ _ P (λ _. function_sound ws n s here)
      (λ _. after_test (peek_assignment token_leaves s) _ _ P
      (λ _. assignment_sound false false ws n s s.left here (λ name operator us rest e fs split kind kind2 d.
      subst (λ (l : Tokens). OnLine (tree.Assignment (assignment_of false false name.tok e)) fs l rest) (sym split) (g.assignment kind kind2 d)))
      (λ _. any_recipe_sound ws n s here))

  pub content_sound : (ws : List ReadAttribute) (n : Counters) (s : State) → Here conditions 0 s
      → Holds (IsContent ws s) (content token_leaves token_attributes ws n s)
  unfolding content
  content_sound ws n s here =
      let P : ReadItem → Type 0 = Holds (IsContent ws s) in
      after_choose_before (codes "alias") (peek_assignment token_leaves) s _ _ P
      (after_choose_before (codes "eager") (peek_assignment token_leaves) s _ _ P
      (after_choose_before (codes "export") (peek_assignment token_leaves) s _ _ P
      (after_choose_before (codes "unexport") (line_is token_leaves (kinds.Identifier ∷ [])) s _ _ P
      (after_choose_before (codes "import") (is_imported token_leaves) s _ _ P
      (after_choose_before (codes "mod") (is_module token_leaves) s _ _ P
      (after_choose_before (codes "set") (is_set token_leaves) s _ _ P
      (wordless_sound ws n s here)
      (λ word ts split is follows. setting_sound ws n s here word ts split is follows))
      (λ word ts split is follows. any_module_sound ws n s here word ts split is follows))
      (λ word ts split is follows. import_sound ws n s here word ts split is))
      (λ word ts split is follows. unexport_sound ws n s here word ts split is follows))
      (λ word ts split is follows. assignment_sound false true ws n (at s ts) s.left here (λ name operator us rest e fs split2 kind kind2 d.
      subst (λ (l : Tokens). OnLine (tree.Assignment (assignment_of false true name.tok e)) fs l rest) (sym (split ∙ ap (λ (l : Tokens). word ∷ l) split2)) (g.export is kind kind2 d))))
      (λ word ts split is follows. assignment_sound true false ws n (at s ts) s.left here (λ name operator us rest e fs split2 kind kind2 d.
      subst (λ (l : Tokens). OnLine (tree.Assignment (assignment_of true false name.tok e)) fs l rest) (sym (split ∙ ap (λ (l : Tokens). word ∷ l) split2)) (g.eager is kind kind2 d))))
      (λ word ts split is follows. alias_sound ws n s here word ts split is)

  -- the attributes before a construct
  attributes_before : (s : State) → Here conditions 0 s → Holds (IsRead conditions s) (attributes token_leaves token_attributes s)
  unfolding attributes
  attributes_before s here =
      if_next kinds.BracketL s _ (λ not. holds (record { derived = plainly here (attributes_of.none not); means = refl; unbroken = refl }))
      (λ opener rest split kind. read_then (attributes_sound conditions s here) (λ ws found.
      after_test (stands_alone token_leaves token_attributes ws.1) _ _ (Holds (IsRead conditions s)) (λ _. failed) (λ _. holds found)))

  pub before_sound : (s : State) → Here conditions 0 s → IfOk (attributes token_leaves token_attributes s) (IsRead conditions s)
  before_sound s here = if_ok (attributes_before s here)

  -- what a construct notes
  construct_notes : (ws : List (WrittenAttribute Tok Tok)) (c : Content Tok Tok ℕ Tok) (entries : List (Entry Tok Tok)) (gs fs : List (Noted Tok))
      → entries_of (token_view conditions) ws ≡ Some entries
      → Note (Construct ws c ∷ []) (record { attributes = gs; content = fs } ∷ []) (gs ++ (entries_features c entries ++ fs))
  construct_notes ws c entries gs fs means more cs =
      let after : List (Noted Tok) = all_features (token_view conditions) more cs in
      rw (means) (ap (λ l. l ++ after) (append_assoc gs (entries_features c entries) fs))

  -- a construct with its attributes
  with_attributes : (s : State) (ws : List ReadAttribute × State) (x : (WrittenItem Tok Tok ℕ Tok × Counters) × State) → IsRead conditions s ws
      → IsContent ws.0 ws.1 x → IsOnLine s x
  with_attributes s ws x h k =
      let a = h.derived in
      let obeyed =
      construct_obeyed conditions.current (token_view conditions) (written_in ws.0) k.content (entries_in ws.0) h.means h.unbroken k.unbroken k.formed in
      subst (λ (i : WrittenItem Tok Tok ℕ Tok). IsOnLine s ((i, x.0.1), x.1)) (sym k.is) (record {
        derived = record {
          by_construct = record { attributes = a.features; content = k.features } ∷ [];
          derives = starts a.derives k.derives;
          features = a.features ++ (entries_features k.content (meant ws.0) ++ k.features);
          note = construct_notes (written_in ws.0) k.content (meant ws.0) a.features k.features (rw (h.means) refl);
          met = all_met (both_met a.met k.met);
          stays = k.stays;
          obeys = (obeyed, tt);
        };
        obeys = obeyed;
      })

  pub construct_sound : (n : Counters) (s : State) → Here conditions 0 s → Holds (IsOnLine s) (construct token_leaves token_attributes n s)
  unfolding construct
  construct_sound n s here =
      read_then (attributes_before s here) (λ ws read. weaken (content_sound ws.0 n ws.1 read.derived.stays) (λ x h. with_attributes s ws x read h))

  pub on_line_sound : (n : Counters) (s : State) → Here conditions 0 s → Holds (IsOnLine s) (any_item token_leaves token_attributes n s)
  unfolding any_item
  on_line_sound n s here =
      if_next kinds.Comment s _ (λ _. construct_sound n s here)
      (λ c rest split kind.
      let obeyed = comment_obeyed conditions.current (token_view conditions) (trim_end c.tok.lexeme) in
      holds (record { derived = items_begin split (bare_items here (λ more cs. refl) tt (obeyed, tt) (of_comment kind)); obeys = obeyed }))

  pub on_line_at : (n : Counters) (s : State) (x : (WrittenItem Tok Tok ℕ Tok × Counters) × State) → any_item token_leaves token_attributes n s ≡ Ok x
      → Here conditions 0 s → IsOnLine s x
  on_line_at n s x is here = held x is (on_line_sound n s here)

  pub line_end_sound : (s : State) → Here conditions 0 s → Holds (Leads LineEnd s) (line_end token_leaves token_attributes s)
  unfolding line_end
  line_end_sound s here =
      if_next kinds.Eof s _
      (λ _. if_expected kinds.Eol s _ (λ t rest split kind.
      holds (items_begin split (bare_items here (λ more cs. refl) tt a_newline (λ more gs h. g.line_end kind h)))))
      (λ t rest split kind.
      let derive : (more : WrittenTree) (gs : List (ConstructFeatures Tok)) → Items more gs s.left → LineEnd more gs s.left =
      λ more gs h. subst (LineEnd more gs) (sym split) (at_eof kind (subst (Items more gs) split h)) in
      holds (bare_items here (λ more cs. refl) tt tt derive))

  pub item_rest_sound : (s : State) → Here conditions 0 s → Holds (Leads ItemRest s) (after_item token_leaves token_attributes s)
  unfolding after_item bare_items
  item_rest_sound s here =
      if_next kinds.Comment s _
      (λ _. weaken (line_end_sound s here) (λ x h. items_again h (λ more gs i. g.bare (h.derives more gs i))))
      (λ c rest split kind. read_then (line_end_sound (at s rest) here) (λ x found.
      let comment : DerivedItems (λ fs ts us. Unit {0}) (comment_item token_leaves token_attributes c ∷ []) s (at s rest) =
      bare_items here (λ more cs. refl) tt (comment_obeyed conditions.current (token_view conditions) (trim_end c.tok.lexeme), tt) tt in
      holds (items_begin split (items_followed comment found (λ more gs i. g.trailing kind (found.derives more gs i))))))

  -- what ends an item, before the items that may follow
  abbrev Ends : WrittenItem Tok Tok ℕ Tok → List (ConstructFeatures Tok) → Tokens → State → WrittenTree × State → Type 0
  Ends i is ts s x =
      DerivedItems (λ fs between end. (more : WrittenTree) (gs : List (ConstructFeatures Tok)) → Items more gs end → Items (i ∷ (x.0 ++ more)) (is ++ (fs ++ gs)) ts)
      x.0 s x.1

  -- an item without a body
  stands : {i : WrittenItem Tok Tok ℕ Tok} {items : WrittenTree} {is fs : List (ConstructFeatures Tok)} {ts rest : Tokens} → Starts false i is ts rest
      → ItemRest items fs rest → Items (i ∷ items) (is ++ fs) ts
  stands (of_comment kind) h = g.comment kind h
  stands (of_line a o) h = g.on_line a o h

  -- an item with a body
  blocks : {i : WrittenItem Tok Tok ℕ Tok} {items : WrittenTree} {is fs : List (ConstructFeatures Tok)} {ts rest : Tokens} → Starts true i is ts rest
      → Items items fs rest → Items (i ∷ tree.Newline ∷ items) (is ++ fs) ts
  blocks (of_block a b) h = g.block a b h

  ends_by : (i : WrittenItem Tok Tok ℕ Tok) (is : List (ConstructFeatures Tok)) (ts : Tokens) (s : State) (b : Bool) → Here conditions 0 s → Starts b i is ts s.left
      → Holds (Ends i is ts s) (cond b (Ok (tree.Newline ∷ [], s)) (after_item token_leaves token_attributes s))
  ends_by i is ts s true here h = holds (bare_items here (λ more cs. refl) tt a_newline (λ more gs m. blocks h m))
  ends_by i is ts s false here h = weaken (item_rest_sound s here) (λ x k. items_again k (λ more gs m. stands h (k.derives more gs m)))

  ended_sound : (i : WrittenItem Tok Tok ℕ Tok) (is : List (ConstructFeatures Tok)) (ts : Tokens) (s : State) → Here conditions 0 s
      → Starts (has_body i) i is ts s.left → Holds (Ends i is ts s) (item_end token_leaves token_attributes (has_body i) s)
  unfolding item_end
  ended_sound i is ts s here h = ends_by i is ts s (has_body i) here h

  pub line_sound : (n : Counters) (s : State) → Here conditions 0 s → Holds (LeadsNumbered s) (line token_leaves token_attributes n s)
  unfolding line
  line_sound n s here =
      if_next kinds.Eol s _
      (λ _. read_then (on_line_sound n s here) (λ i on_line.
      let one = on_line.derived in
      read_then (ended_sound i.0.0 one.by_construct s.left i.1 one.stays one.derives) (λ b found.
      holds (items_followed one found (λ more gs m.
      subst (λ (l : List (ConstructFeatures Tok)). Items (i.0.0 ∷ (b.0 ++ more)) l s.left) (sym (append_assoc one.by_construct found.by_construct gs))
      (found.derives more gs m))))))
      (λ t rest split kind. holds (items_begin split (bare_items here (λ more cs. refl) tt a_newline (λ more gs h. g.blank kind h))))

  last_token : (n : Counters) (s : State) (rest : Tokens) (t : SignificantToken) → Here conditions 0 s → s.left ≡ t ∷ rest → IsKind kinds.Eof t
      → Holds (ReadsWholeFile Items s) (at_end token_leaves token_attributes n (at s rest))
  unfolding at_end
  last_token n s [] t here split kind = holds (items_begin split (bare_items here (λ more cs. refl) tt tt (g.end kind)))
  last_token n s (u ∷ rest) t here split kind = failed

  -- all that is left is read
  abbrev AllRead : Start token_leaves token_attributes → Read (WrittenTree × Counters) → Type 0
  AllRead x found = Here conditions 0 x.1 → Holds (ReadsWholeFile Items x.1) found

  pub items_sound : (n : Counters) (s : State) → Here conditions 0 s → Holds (ReadsWholeFile Items s) (items token_leaves token_attributes n s)
  unfolding items_from items_rule after_numbered
  items_sound n s =
      loop_has (λ x. x.1) (items_rule token_leaves token_attributes) AllRead (λ x here. failed) (λ f h x here.
      if_next kinds.Eof x.1 _
      (λ _. read_then (line_sound x.0 x.1 here) (λ l first. read_then (h (l.0.1, l.1) first.stays) (λ more rest.
      holds (items_followed first rest (first.derives more.0.0 rest.by_construct rest.derives)))))
      (λ t rest split kind. last_token x.0 x.1 rest t here split kind)) (n, s)

  whole_file : (ts : Tokens)
      → Holds (ReadsWholeFile File (start_state conditions ts)) (reader.file token_leaves token_attributes unnumbered (start_state conditions ts))
  unfolding reader.file
  whole_file ts =
      let s : State = start_state conditions ts in
      after_choose kinds.ByteOrderMark s s (λ mark. mark.1) (λ (t : State). Holds (ReadsWholeFile File s) (items token_leaves token_attributes unnumbered t))
      (λ _. weaken (items_sound unnumbered s (refl, refl)) (λ x h. items_again h (g.without_byte_order_mark h.derives)))
      (λ t rest split kind. weaken (items_sound unnumbered (at s rest) (refl, refl)) (λ x h. items_begin split (items_again h (g.with_byte_order_mark kind h.derives))))

  -- the features of a file are all that were noted
  all_noted : (items : WrittenTree) (bs : List (ConstructFeatures Tok)) (fs : List (Noted Tok)) → Note items bs fs → fs ≡ all_features (token_view conditions) items bs
  all_noted items bs fs h =
      sym (append-nil fs) ∙ sym (h [] []) ∙ ap (λ l. all_features (token_view conditions) l (bs ++ [])) (append-nil items)
      ∙ ap (λ l. all_features (token_view conditions) items l) (append-nil bs)

  pub file_sound : (ts : Tokens) → Holds (IsFile ts) (tree_of_tokens conditions ts)
  unfolding tree_of_tokens
  file_sound ts =
      read_then (whole_file ts) (λ x found. holds (record {
        by_construct = found.by_construct;
        derives = found.derives;
        features_are = found.met.noted_is ∙ all_noted x.0.0 found.by_construct found.features found.note;
        cooks = found.met.cooks;
        obeys = found.obeys;
      }))

  pub file_at : (ts : Tokens) (x : WrittenTree × List (Noted Tok)) → tree_of_tokens conditions ts ≡ Ok x → IsFile ts x
  file_at ts x is = held x is (file_sound ts)
