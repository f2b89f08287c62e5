-- Items before a cut and items after it derive together, and items with a cut derive apart.
use Rattle.std.proofs.Common.{◌≡◌, ◌⊎◌, ◌∙◌, ℕ, true, false, cond, List, [], ◌∷◌, ◌++◌, Option, Some, inl, inr, refl, sym, ap, subst, ⊎_elim}
use Rattle.std.specs.Str.{trim_end}
use Rattle.justfile_vocabulary.specs.declared.token_kind.TokenKind.{TokenKind}
use Rattle.justfile_vocabulary.specs.declared.token_kind.TokenKind.TheVariants as kinds
use Rattle.justfile_model.specs.Grammars.Docs.{Before, LineEnd, Other}
use Rattle.justfile_model.specs.Grammars.Expressions.{Tokens, IsKind}
use Rattle.justfile_model.specs.Grammars.Features.{ConstructFeatures}
use Rattle.justfile_model.specs.Grammars.Grammar as g
use Rattle.justfile_model.specs.Grammars.Grammar.{File, ItemRest, Items, TokenProjection}
use Rattle.justfile_model.specs.Lexing.SignificantTokens.{SignificantToken, is_whitespace}
use Rattle.justfile_model.specs.Trees.Tree as tree
use Rattle.justfile_model.specs.Trees.Tree.{Construct, WrittenItem}
use Rattle.justfile_model.proofs.Lists.Binds.{some_back}
use Rattle.justfile_chunks.specs.Chunks.{ends_line, line_kind, next_kind}
use Rattle.justfile_chunks.proofs.AgainAttributes as again_attributes
use Rattle.justfile_chunks.proofs.AgainItems as again_items
use Rattle.justfile_chunks.proofs.AlikeItems.{before_after}
use Rattle.justfile_chunks.proofs.DocsAppend.{AreApart, BeginsNoConstruct, TakesNone}
use Rattle.justfile_chunks.proofs.Over.{Ahead, Over, any_of, is_any, is_quiet, not_name, one, past, same, step}
use Rattle.justfile_chunks.proofs.Passes.{At, AtStart, CutAfter, CutHere, FirstQuiet, LastOpen, bare, begins_line, clash, first_attributes, first_block, first_on_line, here, later, later_of, mark_start, no_cut, none_left, onward, past_line, past_recipe, starts}

quiet_next : (k : TokenKind) (o : Option TokenKind) → is_quiet k ≡ true → cond (is_whitespace k) o (Some k) ≡ Some k
quiet_next kinds.Whitespace o q = cc
quiet_next _ o q = refl

not_quiet : (us : Tokens) → (next_kind (bare us) ≡ Some kinds.Comment) ⊎ (next_kind (bare us) ≡ Some kinds.Eol) → FirstQuiet us → ⊥
not_quiet [] c q = q
not_quiet (t ∷ us) c q = ⊎_elim (λ e. loud kinds.Comment refl e) (λ e. loud kinds.Eol refl e) c
  where
    loud : (k : TokenKind) → is_quiet k ≡ false → next_kind (bare (t ∷ us)) ≡ Some k → ⊥
    loud k l e = clash (ap is_quiet (some_back t.tok.kind k (sym (quiet_next t.tok.kind (next_kind (bare us)) q) ∙ e)) ∙ l) q

module _ {A B C S : Type 0} (projection : TokenProjection A B C S) (MayEnter : ℕ → Option SignificantToken → Type 0) where
  abbrev ManyItems : Type 0
  ManyItems = List (WrittenItem A B C S)

  abbrev ManyFeatures : Type 0
  ManyFeatures = List (ConstructFeatures B)

  -- items whose first token is no token of a construct begin with none
  begins_none : {items : ManyItems} {fs : ManyFeatures} {us : Tokens} → Items projection MayEnter items fs us → (FirstQuiet us → ⊥)
      → BeginsNoConstruct items
  begins_none (g.on_line a o r) n = absurd (n (first_attributes projection MayEnter a (first_on_line projection MayEnter o)))
  begins_none (g.block a b more) n = absurd (n (first_attributes projection MayEnter a (first_block projection MayEnter b)))
  begins_none _ n = tt

  -- ---- the items before a cut, which end at this token, and those after it

  module _ (eof : SignificantToken) (is_eof : IsKind kinds.Eof eof) (us : Tokens) where
    abbrev Before' : (earlier ts : Tokens) → Type 0
    Before' = At (CutHere us) eof []

    no_indent : (earlier : Tokens) → CutHere us earlier → IsKind kinds.Indent eof → ⊥
    no_indent earlier k e = let bad : kinds.Eof ≡ kinds.Indent = sym is_eof ∙ e in cc

    module _ (js : ManyItems) (gs : ManyFeatures) (second : Items projection MayEnter js gs us) where
      -- These items, and then the others. No item means that the cut is here. The items end in a line end, and no comment of theirs is a doc of the others.
      pub record Joined (R : ManyItems → ManyFeatures → Tokens → Type 0) (earlier : Tokens) (items : ManyItems) (fs : ManyFeatures) (part : Tokens) : Type 0 where
        pub whole : Tokens
        pub derives : R (items ++ js) (fs ++ gs) whole
        pub over : Over is_any (eof ∷ []) us part whole
        pub cut : items ≡ [] → CutHere us earlier
        pub ends : (before : Before) → (items ≡ [] → before ≡ LineEnd) → before_after before items ≡ LineEnd
        pub apart : (before : Before) → AreApart before items js

      -- the same within a line, after an item, or after a comment that begins the line or comes after an item
      record JoinedRest (R : ManyItems → ManyFeatures → Tokens → Type 0) (earlier : Tokens) (items : ManyItems) (fs : ManyFeatures) (part : Tokens) : Type 0 where
        whole : Tokens
        derives : R (items ++ js) (fs ++ gs) whole
        over : Over is_any (eof ∷ []) us part whole
        ahead : Ahead part whole
        ends : before_after Other items ≡ LineEnd
        apart : AreApart Other items js
        after_comment : (before : Before) (text : List ℕ) → (line_kind (bare earlier) ≡ Some kinds.Comment) ⊎ (before ≡ Other)
            → AreApart before (tree.Comment text ∷ items) js

      takes_none : (before : Before) → BeginsNoConstruct js → TakesNone before js
      takes_none Other h = tt
      takes_none _ h = h

      -- after the line of a comment without an item no construct comes next
      no_doc : (t : SignificantToken) (earlier : Tokens) (before : Before) → (line_kind (bare earlier) ≡ Some kinds.Comment) ⊎ (before ≡ Other)
          → CutAfter us t earlier → TakesNone before js
      no_doc t earlier before (inl line) k = takes_none before (begins_none second (not_quiet us (k.no_doc line)))
      no_doc t earlier before (inr e) k = subst (λ b. TakesNone b js) (sym e) tt

      -- a comment at the end of a line, before items
      comment_apart : (before : Before) (text : List ℕ) (items : ManyItems) → AreApart LineEnd items js → (items ≡ [] → TakesNone before js)
          → AreApart before (tree.Comment text ∷ tree.Newline ∷ items) js
      comment_apart before text [] h n = n refl
      comment_apart before text (i ∷ items) h n = h

      mutual
        pub items_joined : {items : ManyItems} {fs : ManyFeatures} {part : Tokens} → Items projection MayEnter items fs part → (earlier : Tokens)
            → Before' earlier part
            → AtStart earlier → Joined (Items projection MayEnter) earlier items fs part
        items_joined (g.end kind) earlier (here k) s =
            record { whole = us; derives = second; over = same; cut = λ e. k; ends = λ before n. n refl; apart = λ before. tt }
        items_joined (g.end kind) earlier (later at) s = elim at [ ]
        items_joined (g.blank kind more) earlier (here k) s = absurd (let bad : kinds.Eof ≡ kinds.Eol = sym is_eof ∙ kind in cc)
        items_joined (g.blank {token = t} kind more) earlier (later at) s =
            let x = items_joined more (t ∷ earlier) at (starts t earlier (ap ends_line kind)) in
            record {
              whole = t ∷ x.whole;
              derives = g.blank kind x.derives;
              over = step refl x.over;
              cut = λ e. cc;
              ends = λ before n. x.ends LineEnd (λ e. refl);
              apart = λ before. x.apart LineEnd;
            }
        items_joined (g.comment kind r) earlier (here k) s = absurd (let bad : kinds.Eof ≡ kinds.Comment = sym is_eof ∙ kind in cc)
        items_joined (g.comment {token = t} kind r) earlier (later at) s =
            let x = rest_joined r (t ∷ earlier) (ap ends_line kind) at in
            record {
              whole = t ∷ x.whole;
              derives = g.comment kind x.derives;
              over = step refl x.over;
              cut = λ e. cc;
              ends = λ before n. x.ends;
              apart = λ before. x.after_comment before (trim_end t.tok.lexeme) (inl (begins_line t earlier kinds.Comment kind refl refl s));
            }
        items_joined (g.on_line a o r) earlier at s =
            let l = later_of at (ap is_quiet is_eof) (first_attributes projection MayEnter a (first_on_line projection MayEnter o)) in
            let p = (past_line us eof [] projection MayEnter a o r earlier s at l).1 in
            let x = rest_joined r p.earlier p.unended p.at in
            let y = again_items.on_line projection MayEnter o x.ahead in
            let z = again_attributes.attribute_lines projection.leaf projection.position MayEnter a y.ahead in
            record {
              whole = z.after;
              derives = g.on_line z.derives y.derives x.derives;
              over = past (any_of z.over) (past (any_of y.over) x.over);
              cut = λ e. cc;
              ends = λ before n. x.ends;
              apart = λ before. x.apart;
            }
        items_joined (g.block a b more) earlier at s =
            let l = later_of at (ap is_quiet is_eof) (first_attributes projection MayEnter a (first_block projection MayEnter b)) in
            let p = past_recipe us eof [] no_indent projection MayEnter a b earlier s at l in
            let x = items_joined more p.earlier p.at p.start in
            let y = again_items.block projection MayEnter b x.whole in
            let z = again_attributes.attribute_lines projection.leaf projection.position MayEnter a y.ahead in
            record {
              whole = z.after;
              derives = g.block z.derives y.derives x.derives;
              over = past (any_of z.over) (past y.over x.over);
              cut = λ e. cc;
              ends = λ before n. x.ends LineEnd (λ e. refl);
              apart = λ before. x.apart LineEnd;
            }

        rest_joined : {items : ManyItems} {fs : ManyFeatures} {part : Tokens} → ItemRest projection MayEnter items fs part → (earlier : Tokens)
            → LastOpen earlier
            → Before' earlier part → JoinedRest (ItemRest projection MayEnter) earlier items fs part
        rest_joined (g.trailing {token = t} kind e) earlier o at =
            let x = end_joined e (t ∷ earlier) (ap ends_line kind) (onward at (no_cut us earlier o)) in
            let apart = x.after_comment Other (trim_end t.tok.lexeme) (inr refl) in
            record {
              whole = t ∷ x.whole;
              derives = g.trailing kind x.derives;
              over = step refl x.over;
              ahead = one (not_name t (ap is_quiet kind));
              ends = x.ends;
              apart = apart;
              after_comment = λ before text h. apart;
            }
        rest_joined (g.bare e) earlier o at =
            let x = end_joined e earlier o at in
            search (g.bare x.derives, x)

        end_joined : {items : ManyItems} {fs : ManyFeatures} {part : Tokens} → g.LineEnd projection MayEnter items fs part → (earlier : Tokens)
            → LastOpen earlier
            → Before' earlier part → JoinedRest (g.LineEnd projection MayEnter) earlier items fs part
        end_joined (g.line_end {items = items} {token = t} kind more) earlier o at =
            let x = items_joined more (t ∷ earlier) (onward at (no_cut us earlier o)) (starts t earlier (ap ends_line kind)) in
            record {
              whole = t ∷ x.whole;
              derives = g.line_end kind x.derives;
              over = step refl x.over;
              ahead = one (not_name t (ap is_quiet kind));
              ends = x.ends LineEnd (λ e. refl);
              apart = x.apart LineEnd;
              after_comment = λ before text h. comment_apart before text items (x.apart LineEnd) (λ e. no_doc t earlier before h (x.cut e));
            }
        end_joined (g.file_end kind) earlier o at = absurd (none_left (onward at (no_cut us earlier o)))

      pub file_joined : {items : ManyItems} {fs : ManyFeatures} {part : Tokens} → File projection MayEnter items fs part → Before' [] part
          → Joined (File projection MayEnter) [] items fs part
      file_joined (g.with_byte_order_mark kind more) (here k) = absurd k
      file_joined (g.with_byte_order_mark {token = t} kind more) (later at) =
          let x = items_joined more (t ∷ []) at (mark_start t kind) in
          record {
            whole = t ∷ x.whole;
            derives = g.with_byte_order_mark kind x.derives;
            over = step refl x.over;
            cut = λ e. clash (ap ends_line kind) (x.cut e).ends;
            ends = x.ends;
            apart = x.apart;
          }
      file_joined (g.without_byte_order_mark more) at =
          let x = items_joined more [] at refl in
          record { whole = x.whole; derives = g.without_byte_order_mark x.derives; over = x.over; cut = x.cut; ends = x.ends; apart = x.apart }

  -- ---- items with a cut

  module _ (u : SignificantToken) (x : Tokens) (eof : SignificantToken) (is_eof : IsKind kinds.Eof eof) where
    no_body : (earlier : Tokens) → CutHere (u ∷ x) earlier → IsKind kinds.Indent u → ⊥
    no_body [] k e = k
    no_body (t ∷ earlier) k e = k.no_body (ap (λ k. cond (is_whitespace k) (next_kind (bare x)) (Some k)) e)

    -- the items before the cut, and those after it
    pub record Split (R : ManyItems → ManyFeatures → Tokens → Type 0) (items : ManyItems) (fs : ManyFeatures) (whole : Tokens) : Type 0 where
      pub first : ManyItems
      pub second : ManyItems
      pub first_features : ManyFeatures
      pub second_features : ManyFeatures
      pub items_are : items ≡ first ++ second
      pub features_are : fs ≡ first_features ++ second_features
      pub part : Tokens
      pub first_derives : R first first_features part
      pub over : Over is_any (u ∷ x) (eof ∷ []) whole part
      pub second_derives : Items projection MayEnter second second_features (u ∷ x)

    -- a split with the same second part
    abbrev resplit : {R Q : ManyItems → ManyFeatures → Tokens → Type 0} {items all : ManyItems} {fs all_features : ManyFeatures} {ts whole part : Tokens}
        (first : ManyItems) (first_features : ManyFeatures) (y : Split R items fs ts) → all ≡ first ++ y.second
        → all_features ≡ first_features ++ y.second_features → Q first first_features part → Over is_any (u ∷ x) (eof ∷ []) whole part
        → Split Q all all_features whole
    resplit first first_features y is are d o = record {
      first = first;
      second = y.second;
      first_features = first_features;
      second_features = y.second_features;
      items_are = is;
      features_are = are;
      part = _;
      first_derives = d;
      over = o;
      second_derives = y.second_derives;
    }

    record SplitRest (R : ManyItems → ManyFeatures → Tokens → Type 0) (items : ManyItems) (fs : ManyFeatures) (whole : Tokens) : Type 0 where
      split : Split R items fs whole
      ahead : Ahead whole split.part

    mutual
      pub items_split : {items : ManyItems} {fs : ManyFeatures} {whole : Tokens} → Items projection MayEnter items fs whole → (earlier : Tokens)
          → At (CutHere (u ∷ x)) u x earlier whole → AtStart earlier → Split (Items projection MayEnter) items fs whole
      items_split {items = items} {fs = fs} i earlier (here k) s =
          record {
            first = [];
            second = items;
            first_features = [];
            second_features = fs;
            items_are = refl;
            features_are = refl;
            part = eof ∷ [];
            first_derives = g.end is_eof;
            over = same;
            second_derives = i;
          }
      items_split (g.end kind) earlier (later at) s = elim at [ ]
      items_split (g.blank {token = t} kind more) earlier (later at) s =
          let y = items_split more (t ∷ earlier) at (starts t earlier (ap ends_line kind)) in
          resplit _ _ y (ap (λ l. tree.Newline ∷ l) y.items_are) y.features_are (g.blank kind y.first_derives) (step refl y.over)
      items_split (g.comment {token = t} kind r) earlier (later at) s =
          let y = (rest_split r (t ∷ earlier) (ap ends_line kind) at).split in
          resplit _ _ y (ap (λ l. tree.Comment (trim_end t.tok.lexeme) ∷ l) y.items_are) y.features_are (g.comment kind y.first_derives) (step refl y.over)
      items_split (g.on_line {ws = ws} {c = c} {gs = gs} {cs = cs} a o r) earlier (later at) s =
          let p = (past_line (u ∷ x) u x projection MayEnter a o r earlier s (later at) tt).1 in
          let y = rest_split r p.earlier p.unended p.at in
          let z = again_items.on_line projection MayEnter o y.ahead in
          let w = again_attributes.attribute_lines projection.leaf projection.position MayEnter a z.ahead in
          resplit _ _ y.split (ap (λ l. Construct ws c ∷ l) y.split.items_are) (ap (λ l. record { attributes = gs; content = cs } ∷ l) y.split.features_are)
          (g.on_line w.derives z.derives y.split.first_derives) (past (any_of w.over) (past (any_of z.over) y.split.over))
      items_split (g.block {ws = ws} {c = c} {gs = gs} {cs = cs} a b more) earlier (later at) s =
          let p = past_recipe (u ∷ x) u x no_body projection MayEnter a b earlier s (later at) tt in
          let y = items_split more p.earlier p.at p.start in
          let z = again_items.block projection MayEnter b y.part in
          let w = again_attributes.attribute_lines projection.leaf projection.position MayEnter a z.ahead in
          resplit _ _ y (ap (λ l. Construct ws c ∷ tree.Newline ∷ l) y.items_are) (ap (λ l. record { attributes = gs; content = cs } ∷ l) y.features_are)
          (g.block w.derives z.derives y.first_derives) (past (any_of w.over) (past z.over y.over))

      rest_split : {items : ManyItems} {fs : ManyFeatures} {whole : Tokens} → ItemRest projection MayEnter items fs whole → (earlier : Tokens)
          → LastOpen earlier
          → At (CutHere (u ∷ x)) u x earlier whole → SplitRest (ItemRest projection MayEnter) items fs whole
      rest_split (g.trailing {token = t} kind e) earlier o at =
          let y = (end_split e (t ∷ earlier) (ap ends_line kind) (onward at (no_cut (u ∷ x) earlier o))).split in
          record {
            split = resplit _ _ y (ap (λ l. tree.Comment (trim_end t.tok.lexeme) ∷ l) y.items_are) y.features_are (g.trailing kind y.first_derives)
                (step refl y.over);
            ahead = one (not_name t (ap is_quiet kind));
          }
      rest_split (g.bare e) earlier o at =
          let y = end_split e earlier o at in
          record { split = resplit _ _ y.split y.split.items_are y.split.features_are (g.bare y.split.first_derives) y.split.over; ahead = y.ahead }

      end_split : {items : ManyItems} {fs : ManyFeatures} {whole : Tokens} → g.LineEnd projection MayEnter items fs whole → (earlier : Tokens)
          → LastOpen earlier
          → At (CutHere (u ∷ x)) u x earlier whole → SplitRest (g.LineEnd projection MayEnter) items fs whole
      end_split (g.line_end {token = t} kind more) earlier o at =
          let y = items_split more (t ∷ earlier) (onward at (no_cut (u ∷ x) earlier o)) (starts t earlier (ap ends_line kind)) in
          record {
            split = resplit _ _ y (ap (λ l. tree.Newline ∷ l) y.items_are) y.features_are (g.line_end kind y.first_derives) (step refl y.over);
            ahead = one (not_name t (ap is_quiet kind));
          }
      end_split (g.file_end kind) earlier o at = absurd (none_left (onward at (no_cut (u ∷ x) earlier o)))

    pub file_split : {items : ManyItems} {fs : ManyFeatures} {whole : Tokens} → File projection MayEnter items fs whole → At (CutHere (u ∷ x)) u x [] whole
        → Split (File projection MayEnter) items fs whole
    file_split (g.with_byte_order_mark kind more) (here k) = absurd k
    file_split (g.with_byte_order_mark {token = t} kind more) (later at) =
        let y = items_split more (t ∷ []) at (mark_start t kind) in
        resplit _ _ y y.items_are y.features_are (g.with_byte_order_mark kind y.first_derives) (step refl y.over)
    file_split (g.without_byte_order_mark more) at =
        let y = items_split more [] at refl in
        resplit _ _ y y.items_are y.features_are (g.without_byte_order_mark y.first_derives) y.over

  -- ---- items after a cut, with the line end before them

  -- the items without the line end that comes first
  pub record AfterEnd (items : ManyItems) (fs : ManyFeatures) (us : Tokens) : Type 0 where
    pub others : ManyItems
    pub items_are : items ≡ tree.Newline ∷ others
    pub derives : Items projection MayEnter others fs us

  pub after_end : {items : ManyItems} {fs : ManyFeatures} {t : SignificantToken} {us : Tokens} → File projection MayEnter items fs (t ∷ us) → IsKind kinds.Eol t
      → AfterEnd items fs us
  after_end (g.with_byte_order_mark kind more) e = absurd (let bad : kinds.ByteOrderMark ≡ kinds.Eol = sym kind ∙ e in cc)
  after_end (g.without_byte_order_mark (g.end kind)) e = absurd (let bad : kinds.Eof ≡ kinds.Eol = sym kind ∙ e in cc)
  after_end (g.without_byte_order_mark (g.blank kind more)) e = record { others = _; items_are = refl; derives = more }
  after_end (g.without_byte_order_mark (g.comment kind r)) e = absurd (let bad : kinds.Comment ≡ kinds.Eol = sym kind ∙ e in cc)
  after_end (g.without_byte_order_mark (g.on_line a o r)) e =
      absurd (clash (ap is_quiet e) (first_attributes projection MayEnter a (first_on_line projection MayEnter o)))
  after_end (g.without_byte_order_mark (g.block a b more)) e =
      absurd (clash (ap is_quiet e) (first_attributes projection MayEnter a (first_block projection MayEnter b)))
