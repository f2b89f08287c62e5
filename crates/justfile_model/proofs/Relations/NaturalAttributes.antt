-- The parser of attribute lines is natural in its tokens, leaves and views: for related tokens with the same views it parses related
-- attributes, or fails for the same reason.
use Rattle.std.proofs.Common.{◌≡◌, ℕ, Bool, true, false, ◌&&◌, not, List, [], ◌∷◌, ◌++◌, codes, map, Option, Some, None, Ok, is_some, refl, sym, ap, subst, ◌∙◌}
use Rattle.std.specs.Option.{option_map}
use Rattle.justfile_vocabulary.specs.AttributeKind.{kind_named, takes_keys}
use Rattle.justfile_vocabulary.specs.declared.attribute_kind.AttributeKind.{AttributeKind}
use Rattle.justfile_vocabulary.specs.declared.token_kind.TokenKind.TheVariants as kinds
use Rattle.justfile_model.specs.Readers.AttributeReader as r
use Rattle.justfile_model.specs.Readers.AttributeReader.{read_made}
use Rattle.justfile_model.specs.Meanings.Meaning.{at_key, by_key, by_position}
use Rattle.justfile_model.specs.Readers.NewAttribute.{Made, new_entry}
use Rattle.justfile_model.specs.Readers.ReaderState.{◌>>=◌, Leaves, State, Taken, comment_in}
use Rattle.justfile_model.specs.Trees.LeafView.{LeafView}
use Rattle.justfile_model.specs.Lexing.SignificantTokens.{SignificantToken}
use Rattle.justfile_model.specs.Trees.Tree.{Argument, Entry, Expr, WrittenAttribute, at_last, bare_attribute, commented}
use Rattle.justfile_model.proofs.Relations.AlikeAttributes as alike
use Rattle.justfile_model.proofs.Relations.AlikeAttributes.{AlikeArgument, AlikeEntry, AlikeKey, AlikeWritten, SeesAlike, SeesContent, keys_alike, positions_alike}
use Rattle.justfile_model.proofs.Relations.AlikeRules as rules
use Rattle.justfile_model.proofs.Lists.EachLaws.{AlikeOption, absent, each_mapped, present, same_some}
use Rattle.justfile_model.proofs.Relations.MakesAlike.{Makes, broken, made}
use Rattle.justfile_model.proofs.Relations.NaturalExpressions.{Reads, expression_natural, loop_natural}
use Rattle.justfile_model.proofs.Relations.NewAttributesAlike.{key_found, new_entry_alike}
use Rattle.justfile_model.proofs.Relations.Related as a
use Rattle.justfile_model.proofs.Relations.Related.{Alike, AlikeNext, Each, Relations, Respects, States, Takes, accepted, accepted_marked, bind, both, breaks, by_tests, each_both, each_length, expected, front_alike, neither, no_next, pick, same_comment, same_next, unexpected}

-- An attribute without a comment is what is made of it as it is written, with the kind of its name, after others.
pub record IsMade {R T A B S : Type 0} (leaves : Leaves R T A B S) (view : LeafView A B) (w : WrittenAttribute A B) (e : Entry A B) : Type 0 where
  pub name : T
  pub name_is : w.name ≡ leaves.name name
  pub comment_is : w.comment ≡ None
  pub kind : AttributeKind
  pub named : kind_named (leaves.see name).tok.lexeme ≡ Some kind
  pub before : List (Entry A B)
  pub made : new_entry view before (leaves.position name) kind (by_position w.arguments) (by_key w.arguments) ≡ Ok e

module _ {R T A B S D W R' T' A' B' S' D' W' : Type 0} (rel : Relations R T A B S D R' T' A' B' S' D') (one : Leaves R T A B S)
    (other : Leaves R' T' A' B' S') (view : R → LeafView A B) (view' : R' → LeafView A' B') (keep : WrittenAttribute A B → Entry A B → W)
    (entry_in : W → Entry A B) (keep' : WrittenAttribute A' B' → Entry A' B' → W') (entry_in' : W' → Entry A' B') (Keeps : W → W' → Type 0) where
  -- the two see the same; what they keep of an attribute is related, and its entry can be told from it
  pub record Keeping : Type 0 where
    pub sees : (run : R) (run' : R') → rel.run run run' → SeesAlike rel (view run) (view' run')
    pub contents : (run : R) (run' : R') → rel.run run run' → SeesContent rel (view run) (view' run')
    pub kept : (run : R) (run' : R') → rel.run run run' → (w : WrittenAttribute A B) (w' : WrittenAttribute A' B') (e : Entry A B) (e' : Entry A' B')
        → AlikeWritten rel w w' → AlikeEntry rel e e' → IsMade one (view run) w e → IsMade other (view' run') w' e' → Keeps (keep w e) (keep' w' e')
    pub entry : (x : W) (x' : W') → Keeps x x' → AlikeEntry rel (entry_in x) (entry_in' x')

module _ {R T A B S D W R' T' A' B' S' D' W' : Type 0} (rel : Relations R T A B S D R' T' A' B' S' D') (one : Leaves R T A B S)
    (other : Leaves R' T' A' B' S') (agree : Respects rel one other) (view : R → LeafView A B) (view' : R' → LeafView A' B')
    (keep : WrittenAttribute A B → Entry A B → W) (entry_in : W → Entry A B) (keep' : WrittenAttribute A' B' → Entry A' B' → W') (entry_in' : W' → Entry A' B')
    (Keeps : W → W' → Type 0) (keeping : Keeping rel one other view view' keep entry_in keep' entry_in' Keeps) where
  -- ---- an argument

  expression_alike : {s : State R T B} {s' : State R' T' B'} → States rel s s'
      → Reads rel (Alike rel) (r.expression one view keep entry_in s) (r.expression other view' keep' entry_in' s')
  expression_alike h = expression_natural rel one other agree false h

  placed_at_alike : {o : Option T} {o' : Option T'} (e : Expr A B × State R T B) (e' : Expr A' B' × State R' T' B') → AlikeNext rel o o' → Alike rel e.0 e'.0
      → States rel e.1 e'.1
      → Reads rel (AlikeArgument rel) (r.placed_at one view keep entry_in o e) (r.placed_at other view' keep' entry_in' o' e')
  placed_at_alike e e' a.no_next v h = neither (unexpected no_next)
  placed_at_alike e e' (a.a_next {t = t} {t' = t'} k) v h = both (alike.positional (agree.position t t' k) v) h

  pub placed_natural : {s : State R T B} {s' : State R' T' B'} → States rel s s'
      → Reads rel (AlikeArgument rel) (r.placed one view keep entry_in s) (r.placed other view' keep' entry_in' s')
  unfolding r.placed
  placed_natural h = bind rel _ _ (expression_alike h) (λ e e' v k. placed_at_alike e e' (front_alike rel h.left) v k)

  ordered_alike : (b : Bool) {x : Argument A B} {x' : Argument A' B'} {s : State R T B} {s' : State R' T' B'} → AlikeArgument rel x x' → States rel s s'
      → Reads rel (AlikeArgument rel) (r.after_keys one view keep entry_in b (x, s)) (r.after_keys other view' keep' entry_in' b (x', s'))
  ordered_alike true (alike.positional b e) h = neither (breaks (record { rule = rules.positional_follows; token = b }))
  ordered_alike true (alike.bare k) h = both (alike.bare k) h
  ordered_alike true (alike.keyed k e) h = both (alike.keyed k e) h
  ordered_alike false x h = both x h

  after_alike : (b b' : Bool) {x : Argument A B} {x' : Argument A' B'} {s : State R T B} {s' : State R' T' B'} → b ≡ b' → AlikeArgument rel x x'
      → States rel s s'
      → Reads rel (AlikeArgument rel) (r.after_keys one view keep entry_in b (x, s)) (r.after_keys other view' keep' entry_in' b' (x', s'))
  after_alike b b' {x} {x'} {s} {s'} e k h =
      subst (λ c. Reads rel (AlikeArgument rel) (r.after_keys one view keep entry_in b (x, s)) (r.after_keys other view' keep' entry_in' c (x', s'))) e
      (ordered_alike b k h)

  same_keys : {X Y : Type 0} {Q : X → Y → Type 0} {ks : List X} {ks' : List Y} → Each Q ks ks'
      → r.some_key one view keep entry_in ks ≡ r.some_key other view' keep' entry_in' ks'
  same_keys a.nil = refl
  same_keys (a.cons h hs) = refl

  positional_natural : {before : List (Argument A B)} {before' : List (Argument A' B')} {s : State R T B} {s' : State R' T' B'}
      → Each (AlikeArgument rel) before before' → States rel s s'
      → Reads rel (AlikeArgument rel) (r.positional one view keep entry_in before s) (r.positional other view' keep' entry_in' before' s')
  unfolding r.positional
  positional_natural d h = bind rel _ _ (placed_natural h) (λ x x' k j. after_alike _ _ (same_keys (keys_alike rel d)) k j)

  -- an argument with a key

  key_value_natural : {s : State R T B} {s' : State R' T' B'} → States rel s s'
      → Reads rel (AlikeOption (Alike rel)) (r.key_value one view keep entry_in s) (r.key_value other view' keep' entry_in' s')
  unfolding r.key_value
  key_value_natural h =
      pick rel _ _ (accepted rel one other agree kinds.Equals h) (both absent h)
      (λ x x' t k. bind rel _ _ (expression_alike k) (λ e e' v j. both (present v) j))

  same_repeated : {run : R} {run' : R'} {before : List (Argument A B)} {before' : List (Argument A' B')} (k : T) (k' : T') → rel.run run run'
      → Each (AlikeArgument rel) before before' → rel.token k k'
      → r.is_repeated one view keep entry_in run before k ≡ r.is_repeated other view' keep' entry_in' run' before' k'
  same_repeated {run} {run'} {before} {before'} k k' same d t =
      let same_view = keeping.sees run run' same in
      let bytes = same_view.bytes (one.name k) (other.name k') (agree.name k k' t) in
      subst (λ word. is_some (at_key (view run) ((view run).bytes (one.name k)) (by_key before)) ≡ is_some (at_key (view' run') word (by_key before'))) bytes
      (same_some (key_found rel (view run) (view' run') same_view ((view run).bytes (one.name k)) (keys_alike rel d)))

  argument_alike : (k : T) (k' : T') {o : Option (Expr A B)} {o' : Option (Expr A' B')} → rel.token k k' → AlikeOption (Alike rel) o o'
      → AlikeArgument rel (r.argument_of_key one view keep entry_in (one.name k) o) (r.argument_of_key other view' keep' entry_in' (other.name k') o')
  argument_alike k k' t absent = alike.bare (agree.name k k' t)
  argument_alike k k' t (present e) = alike.keyed (agree.name k k' t) e

  distinct_natural : (n : T) (n' : T') {before : List (Argument A B)} {before' : List (Argument A' B')} (k : T) (k' : T') (v : Option (Expr A B) × State R T B)
      (v' : Option (Expr A' B') × State R' T' B')
      → rel.token n n' → Each (AlikeArgument rel) before before' → rel.token k k' → AlikeOption (Alike rel) v.0 v'.0 → States rel v.1 v'.1
      → Reads rel (AlikeArgument rel) (r.distinct one view keep entry_in n before k v) (r.distinct other view' keep' entry_in' n' before' k' v')
  distinct_natural n n' k k' v v' t d u e h =
      let key = agree.position k k' u in
      by_tests rel _ _ (same_repeated k k' h.run d u) (neither (breaks (record { rule = rules.duplicate_key (agree.position n n' t) key; token = key })))
      (both (argument_alike k k' u e) h)

  keyed_natural : (n : T) (n' : T') {before : List (Argument A B)} {before' : List (Argument A' B')} {s : State R T B} {s' : State R' T' B'} → rel.token n n'
      → Each (AlikeArgument rel) before before' → States rel s s'
      → Reads rel (AlikeArgument rel) (r.keyed one view keep entry_in n before s) (r.keyed other view' keep' entry_in' n' before' s')
  unfolding r.keyed
  keyed_natural n n' t d h =
      bind rel _ _ (expected rel one other agree kinds.Identifier h)
      (λ k k' u j. bind rel _ _ (key_value_natural j) (λ v v' e i. distinct_natural n n' k.0 k'.0 v v' t d u e i))

  same_taken : {o : Taken R T B} {o' : Taken R' T' B'} → Takes rel o o' → is_some o ≡ is_some o'
  same_taken a.none_taken = refl
  same_taken (a.taken t h) = refl

  same_begins : {s : State R T B} {s' : State R' T' B'} → States rel s s'
      → r.begins_key one view keep entry_in s ≡ r.begins_key other view' keep' entry_in' s'
  same_begins h =
      λ i. same_next rel one other agree (kinds.Identifier ∷ []) h i && not (same_taken (accepted_marked rel one other agree (codes "x") kinds.StringToken h) i)

  argument_natural : (n : T) (n' : T') (keys : Bool) {before : List (Argument A B)} {before' : List (Argument A' B')} {s : State R T B} {s' : State R' T' B'}
      → rel.token n n' → Each (AlikeArgument rel) before before' → States rel s s'
      → Reads rel (AlikeArgument rel) (r.argument one view keep entry_in n keys before s) (r.argument other view' keep' entry_in' n' keys before' s')
  unfolding r.argument
  argument_natural n n' keys t d h = by_tests rel _ _ (λ i. keys && same_begins h i) (keyed_natural n n' t d h) (positional_natural d h)

  -- ---- arguments

  one_more : {X Y : Type 0} {Q : X → Y → Type 0} {xs : List X} {ys : List Y} {x : X} {y : Y} → Each Q xs ys → Q x y → Each Q (xs ++ x ∷ []) (ys ++ y ∷ [])
  one_more h k = each_both h (a.cons k a.nil)

  -- alike elements have been read, and the states are alike
  record Stand {X Y : Type 0} (Q : X → Y → Type 0) (x : List X × State R T B) (x' : List Y × State R' T' B') : Type 0 where
    read : Each Q x.0 x'.0
    state : States rel x.1 x'.1

  arguments_end_natural : {all : List (Argument A B)} {all' : List (Argument A' B')} {s : State R T B} {s' : State R' T' B'} → Each (AlikeArgument rel) all all'
      → States rel s s'
      → Reads rel (Each (AlikeArgument rel)) (r.arguments_end one view keep entry_in all s) (r.arguments_end other view' keep' entry_in' all' s')
  unfolding r.arguments_end
  arguments_end_natural d h = bind rel _ _ (expected rel one other agree kinds.ParenR h) (λ c c' t k. both d k)

  arguments_from_natural : (n : T) (n' : T') (keys : Bool) → rel.token n n'
      → (x : List (Argument A B) × State R T B) (x' : List (Argument A' B') × State R' T' B') → Stand (AlikeArgument rel) x x'
      → Reads rel (Each (AlikeArgument rel)) (r.arguments_from one view keep entry_in n keys x) (r.arguments_from other view' keep' entry_in' n' keys x')
  unfolding r.arguments_from
  arguments_from_natural n n' keys t =
      loop_natural rel (λ x. x.1) (λ x. x.1) (Stand (AlikeArgument rel)) (λ x x' h. h.state) (Each (AlikeArgument rel)) (r.arguments_rule one view keep entry_in n keys) (r.arguments_rule other view' keep' entry_in' n' keys) (λ f g same x x' h.
      pick rel _ _ (accepted rel one other agree kinds.ParenR h.state)
      (bind rel _ _ (argument_natural n n' keys t h.read h.state) (λ y y' k j. pick rel _ _ (accepted rel one other agree kinds.Comma j)
      (arguments_end_natural (one_more h.read k) j)
      (λ c c' u i. same (x.0 ++ y.0 ∷ [], c.1) (x'.0 ++ y'.0 ∷ [], c'.1) (record { read = one_more h.read k; state = i }))))
      (λ c c' u i. both h.read i))

  arguments_natural : (n : T) (n' : T') (keys : Bool) {s : State R T B} {s' : State R' T' B'} → rel.token n n' → States rel s s'
      → Reads rel (Each (AlikeArgument rel)) (r.arguments one view keep entry_in n keys s) (r.arguments other view' keep' entry_in' n' keys s')
  unfolding r.arguments
  arguments_natural n n' keys t h =
      pick rel _ _ (accepted rel one other agree kinds.Colon h)
      (pick rel _ _ (accepted rel one other agree kinds.ParenL h) (both a.nil h)
      (λ o o' u k. arguments_from_natural n n' keys t ([], o.1) ([], o'.1) (record { read = a.nil; state = k })))
      (λ c c' u k. bind rel _ _ (placed_natural k) (λ x x' d j. both (a.cons d a.nil) j))

  -- ---- an attribute

  -- the kind of both names
  record Kinds (n : T) (n' : T') (kind : AttributeKind) (kind' : AttributeKind) : Type 0 where
    same : kind ≡ kind'
    first : kind_named (one.see n).tok.lexeme ≡ Some kind
    second : kind_named (other.see n').tok.lexeme ≡ Some kind'

  kind_by : (n : T) (n' : T') (o : Option AttributeKind) {s : State R T B} {s' : State R' T' B'} → kind_named (one.see n).tok.lexeme ≡ o
      → kind_named (other.see n').tok.lexeme ≡ o → rel.token n n' → States rel s s'
      → Reads rel (Kinds n n') (r.kind_at one view keep entry_in n s) (r.kind_at other view' keep' entry_in' n' s')
  unfolding r.kind_at
  kind_by n n' None e e' t h = rw (e, e') (neither (breaks (record { rule = rules.unknown_attribute (agree.position n n' t); token = agree.position n n' t })))
  kind_by n n' (Some kind) e e' t h =
      let known : Kinds n n' kind kind = record { same = refl; first = e; second = e' } in
      rw (e, e') (both known h)

  kind_natural : (n : T) (n' : T') {s : State R T B} {s' : State R' T' B'} → rel.token n n' → States rel s s'
      → Reads rel (Kinds n n') (r.kind_at one view keep entry_in n s) (r.kind_at other view' keep' entry_in' n' s')
  kind_natural n n' t h =
      kind_by n n' (kind_named (one.see n).tok.lexeme) refl (ap (λ (x : SignificantToken). kind_named x.tok.lexeme) (sym (agree.see n n' t))) t h

  -- the kept part of an attribute that is made
  made_kept : (w : WrittenAttribute A B) (w' : WrittenAttribute A' B') {m : Made B (Entry A B)} {m' : Made B' (Entry A' B')} {s : State R T B} {s' : State R' T' B'}
      → Makes rel.position (AlikeEntry rel) m m' → ((e : Entry A B) (e' : Entry A' B') → m ≡ Ok e → m' ≡ Ok e' → AlikeEntry rel e e' → Keeps (keep w e) (keep' w' e'))
      → States rel s s' → Reads rel Keeps (read_made m s >>= λ e. Ok (keep w e.0, e.1)) (read_made m' s' >>= λ e. Ok (keep' w' e.0, e.1))
  made_kept w w' (made {x = e} {x' = e'} q) k h = both (k e e' refl refl q) h
  made_kept w w' (broken b) k h = neither (breaks b)

  made_natural : {before : List W} {before' : List W'} (n : T) (n' : T') (kind : AttributeKind) {all : List (Argument A B)} {all' : List (Argument A' B')}
      {s : State R T B} {s' : State R' T' B'} → kind_named (one.see n).tok.lexeme ≡ Some kind → kind_named (other.see n').tok.lexeme ≡ Some kind
      → Each Keeps before before' → rel.token n n' → Each (AlikeArgument rel) all all' → States rel s s'
      → Reads rel Keeps (r.made one view keep entry_in before n kind all s) (r.made other view' keep' entry_in' before' n' kind all' s')
  unfolding r.made
  made_natural {before} {before'} n n' kind {all} {all'} {s} {s'} first second d t k h =
      let w : WrittenAttribute A B = bare_attribute (one.name n) all in
      let w' : WrittenAttribute A' B' = bare_attribute (other.name n') all' in
      let same_view = keeping.sees s.run s'.run h.run in
      let entries = each_mapped entry_in entry_in' keeping.entry d in
      made_kept w w' (new_entry_alike rel (view s.run) (view' s'.run) same_view kind entries (agree.position n n' t) (positions_alike rel k) (keys_alike rel k))
      (λ e e' is is' j. keeping.kept s.run s'.run h.run w w' e e' (record { name = agree.name n n' t; arguments = k; comment = refl }) j
      (record { name = n; name_is = refl; comment_is = refl; kind = kind; named = first; before = map entry_in before; made = is })
      (record { name = n'; name_is = refl; comment_is = refl; kind = kind; named = second; before = map entry_in' before'; made = is' }))
      h

  -- the arguments of an attribute of this kind, and what is made of them
  of_kind : {before : List W} {before' : List W'} (kind : AttributeKind) (n : T) (n' : T') (kind' : AttributeKind) {s : State R T B} {s' : State R' T' B'}
      → Kinds n n' kind kind' → Each Keeps before before' → rel.token n n' → States rel s s'
      → Reads rel Keeps (r.arguments one view keep entry_in n (takes_keys kind) s >>= λ all. r.made one view keep entry_in before n kind all.0 all.1)
      (r.arguments other view' keep' entry_in' n' (takes_keys kind') s' >>= λ all. r.made other view' keep' entry_in' before' n' kind' all.0 all.1)
  of_kind {before} {before'} kind n n' kind' {s} {s'} e d t h =
      let second : kind_named (other.see n').tok.lexeme ≡ Some kind = e.second ∙ ap (λ (k : AttributeKind). Some k) (sym e.same) in
      subst (λ c. Reads rel Keeps (r.arguments one view keep entry_in n (takes_keys kind) s >>= λ all. r.made one view keep entry_in before n kind all.0 all.1)
      (r.arguments other view' keep' entry_in' n' (takes_keys c) s' >>= λ all. r.made other view' keep' entry_in' before' n' c all.0 all.1)) e.same
      (bind rel _ _ (arguments_natural n n' (takes_keys kind) t h) (λ all all' u i. made_natural n n' kind e.first second d t u i))

  attribute_natural : {before : List W} {before' : List W'} {s : State R T B} {s' : State R' T' B'} → Each Keeps before before' → States rel s s'
      → Reads rel Keeps (r.attribute one view keep entry_in before s) (r.attribute other view' keep' entry_in' before' s')
  unfolding r.attribute
  attribute_natural {before} {before'} d h =
      bind rel _ _ (expected rel one other agree kinds.Identifier h) (λ n n' t k. bind rel _ _ (kind_natural n.0 n'.0 t k) (λ kind kind' e j.
      of_kind kind.0 n.0 n'.0 kind'.0 e d t j))

  -- ---- the attributes of a bracket

  bracket_end_natural : {all : List W} {all' : List W'} {s : State R T B} {s' : State R' T' B'} → Each Keeps all all' → States rel s s'
      → Reads rel (Each Keeps) (r.bracket_end one view keep entry_in all s) (r.bracket_end other view' keep' entry_in' all' s')
  unfolding r.bracket_end
  bracket_end_natural d h = bind rel _ _ (expected rel one other agree kinds.BracketR h) (λ c c' t k. both d k)

  bracketed_natural : (x : List W × State R T B) (x' : List W' × State R' T' B') → Stand Keeps x x'
      → Reads rel (Each Keeps) (r.bracketed one view keep entry_in x) (r.bracketed other view' keep' entry_in' x')
  unfolding r.bracketed
  bracketed_natural =
      loop_natural rel (λ x. x.1) (λ x. x.1) (Stand Keeps) (λ x x' h. h.state) (Each Keeps) (r.bracketed_rule one view keep entry_in) (r.bracketed_rule other view' keep' entry_in') (λ f g same x x' h.
      bind rel _ _ (attribute_natural h.read h.state) (λ w w' k j. pick rel _ _ (accepted rel one other agree kinds.Comma j)
      (bracket_end_natural (one_more h.read k) j)
      (λ c c' u i. same (x.0 ++ w.0 ∷ [], c.1) (x'.0 ++ w'.0 ∷ [], c'.1) (record { read = one_more h.read k; state = i }))))

  -- ---- lines of attributes

  line_end_natural : {comment : Option T} {comment' : Option T'} → AlikeOption rel.token comment comment' → {s : State R T B} {s' : State R' T' B'}
      → States rel s s'
      → Reads rel (AlikeOption rel.token) (r.line_end_after one view keep entry_in comment s) (r.line_end_after other view' keep' entry_in' comment' s')
  unfolding r.line_end_after
  line_end_natural c h = bind rel _ _ (expected rel one other agree kinds.Eol h) (λ x x' t k. both c k)

  attributes_end_natural : {s : State R T B} {s' : State R' T' B'} → States rel s s'
      → Reads rel (AlikeOption rel.token) (r.attributes_end one view keep entry_in s) (r.attributes_end other view' keep' entry_in' s')
  unfolding r.attributes_end
  attributes_end_natural h =
      pick rel _ _ (accepted rel one other agree kinds.Comment h) (line_end_natural absent h) (λ c c' t k. line_end_natural (present t) k)

  -- adding a comment to the kept parts keeps them related
  module _ (put : List ℕ → W → W) (put' : List ℕ → W' → W') (kept : (c : List ℕ) (x : W) (x' : W') → Keeps x x' → Keeps (put c x) (put' c x')) where
    last_alike : (c : List ℕ) {ws : List W} {ws' : List W'} → Each Keeps ws ws' → Each Keeps (at_last (put c) ws) (at_last (put' c) ws')
    last_alike c a.nil = a.nil
    last_alike c (a.cons {x = x} {y = y} h a.nil) = a.cons (kept c x y h) a.nil
    last_alike c (a.cons h (a.cons k ks)) = a.cons h (last_alike c (a.cons k ks))

    same_alike : (comment : Option (List ℕ)) {ws : List W} {ws' : List W'} → Each Keeps ws ws' → Each Keeps (commented put comment ws) (commented put' comment ws')
    same_alike None h = h
    same_alike (Some c) h = last_alike c h

    commented_alike : {o : Option T} {o' : Option T'} → AlikeOption rel.token o o' → {ws : List W} {ws' : List W'} → Each Keeps ws ws'
        → Each Keeps (r.commented_by one view keep entry_in put o ws) (r.commented_by other view' keep' entry_in' put' o' ws')
    commented_alike {o = o} c {ws} {ws'} h =
        subst (λ text. Each Keeps (r.commented_by one view keep entry_in put o ws) (commented put' text ws')) (same_comment rel one other agree c)
        (same_alike (option_map (comment_in one) o) h)

    lines_from_natural : (x : List W × State R T B) (x' : List W' × State R' T' B') → Stand Keeps x x'
        → Reads rel (Each Keeps) (r.attribute_lines_from one view keep entry_in put x) (r.attribute_lines_from other view' keep' entry_in' put' x')
    unfolding r.attribute_lines_from
    lines_from_natural =
        loop_natural rel (λ x. x.1) (λ x. x.1) (Stand Keeps) (λ x x' h. h.state) (Each Keeps) (r.attribute_lines_rule one view keep entry_in put) (r.attribute_lines_rule other view' keep' entry_in' put') (λ f g same x x' h.
        pick rel _ _ (accepted rel one other agree kinds.BracketL h.state) (both h.read h.state) (λ o o' t k.
        bind rel _ _ (bracketed_natural (x.0, o.1) (x'.0, o'.1) (record { read = h.read; state = k })) (λ ws ws' d j.
        bind rel _ _ (attributes_end_natural j) (λ e e' u i.
        same (r.commented_by one view keep entry_in put e.0 ws.0, e.1) (r.commented_by other view' keep' entry_in' put' e'.0 ws'.0, e'.1)
        (record { read = commented_alike u d; state = i })))))

    -- the law
    pub attribute_lines_natural : {s : State R T B} {s' : State R' T' B'} → States rel s s'
        → Reads rel (Each Keeps) (r.attribute_lines one view keep entry_in put s) (r.attribute_lines other view' keep' entry_in' put' s')
    unfolding r.attribute_lines
    attribute_lines_natural {s} {s'} h = lines_from_natural ([], s) ([], s') (record { read = a.nil; state = h })
