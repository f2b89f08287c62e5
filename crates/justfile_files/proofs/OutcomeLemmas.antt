-- What becomes of files, one after the other.
use Rattle.std.proofs.Common.{lit<, ◌≡◌, ◌≢◌, ◌⊎◌, inl, inr, ℕ, ◌+◌, ◌<◌, ◌≤◌, max, All, Contains, List, [], ◌∷◌, ◌++◌, length, map, take, drop, get_or, Bool, true, false, true≢false, Result, Ok, Err, Option, None, Some, IfOk, IfSome, String, string_bytes, if◌then◌else◌, refl, sym, ap, subst, ◌∙◌, arith, append-nil, append_assoc}
use Rattle.std.specs.List.{AllZip, FoldsTo, flat_map}
use Rattle.std.proofs.lemmas.Grind.{flat_map-append}
use Rattle.std.proofs.lemmas.List.{map-append, take_all, take_more, take-append-drop}
use Rattle.std.proofs.lemmas.List.Elements.{All-append, All-cons, All-nil, Contains-append_cases, Contains-append_left, Contains-append_right}
use Rattle.std.proofs.lemmas.Option.{same_Some}
use Rattle.justfile_files.specs.Failure.{IsMessage, TellFailure, failure_status, message_of}
use Rattle.justfile_files.specs.FileResult.{AppliesResult, HandlesFile, HasResult, HasStatus, IsDone, IsRefused, TellResult, report_in, reported_status, result_status, unless_lost}
use Rattle.justfile_files.specs.Folder.{Files, KeepsFiles, Replaces}
use Rattle.justfile_files.specs.declared.failure.Failure.{Failure}
use Rattle.justfile_files.specs.declared.failure.Failure.TheVariants as failures
use Rattle.justfile_files.specs.Outcome.{BecomesFormatted, ChangesFiles, HasOutcome, HasOutcomes, HasReport, IsLost, IsReported, Outcome, Report, Takes, changed, changed_name, changed_names, differs, failed, formatted, greatest, lost, lost_messages, messages_of, rejected, report_of, status_of, with_report}
use Rattle.justfile_files.specs.Request.{changes_files, texts}
use Rattle.justfile_files.specs.Visible.{visible_name}
use Rattle.justfile_files.specs.declared.request.Task.{Task}
use Rattle.justfile_files.specs.declared.request.Task.TheVariants.{Check, Diff, Format, FormatAndName}
use Rattle.std.proofs.Common.{Global}
use Rattle.std.specs.declared.alloc.AllocError.{AllocError}
use Rattle.std.specs.declared.io.Error.{Error}

pub greatest-push : (xs : List ℕ) (y : ℕ) → greatest (xs ++ y ∷ []) ≡ max (greatest xs) y
greatest-push [] y = omega arith
greatest-push (x ∷ xs) y = ap (max x) (greatest-push xs y) ∙ omega arith

pub each_push : {A B : Type 0} (P Q : A → B → Type 0) (xs : List A) (ys : List B) (x : A) (y : B) → ((a : A) (b : B) → P a b → Q a b) → AllZip P xs ys → Q x y
    → AllZip Q (xs ++ x ∷ []) (ys ++ y ∷ [])
each_push P Q [] [] x y f h q = (q, tt)
each_push P Q [] (b ∷ ys) x y f h q = absurd h
each_push P Q (a ∷ xs) [] x y f h q = absurd h
each_push P Q (a ∷ xs) (b ∷ ys) x y f h q = (f a b h.0, each_push P Q xs ys x y f h.1 q)

pub texts_more : {A : Type 0} (words : List (String A)) (i : ℕ) (word : String A) (name : List ℕ) → i < length words → word ≡ get_or words i word → name ≡ string_bytes word
    → texts (take i words) ++ name ∷ [] ≡ texts (take (i + 1) words)
texts_more {A} words i word name l e n =
    ap (λ x. texts (take i words) ++ x ∷ []) (n ∙ ap (λ (s : String A). string_bytes s) e)
    ∙ sym (ap (λ (ws : List (String A)). texts ws) (take_more words i word l) ∙ map-append (λ (s : String A). string_bytes s) (take i words) (get_or words i word ∷ []))

-- steps, one after the other
pub folds_both : {P A : Type 0} (R : P → A → P → Type 0) (p q r : P) (xs ys : List A) → FoldsTo R p xs q → FoldsTo R q ys r → FoldsTo R p (xs ++ ys) r
folds_both R p q r [] ys h k = subst (λ x. FoldsTo R x ys r) (sym h) k
folds_both R p q r (x ∷ xs) ys h k = (h.0, h.1, folds_both R h.0 q r xs ys h.2 k)

pub flat_map-push : {A B : Type 0} (f : A → List B) (xs : List A) (x : A) → flat_map f (xs ++ x ∷ []) ≡ flat_map f xs ++ f x
flat_map-push f xs x = flat_map-append f xs (x ∷ []) ∙ ap (λ l. flat_map f xs ++ l) (append-nil (f x))

-- ---- failures

pub is_told : (r : Result (String Global) AllocError) (name reason : List ℕ) → IfOk r (λ m. string_bytes m ≡ message_of name reason)
    → IfOk r (λ m. IsMessage name (string_bytes m))
is_told (Ok m) name reason h = inl (reason, h)
is_told (Err e) name reason h = tt

pub one_message : {E : Type 0} (tells : E → List ℕ → E → Type 0) (name : List ℕ) (old new : E) → (message : List ℕ) × IsMessage name message × tells old message new
    → (messages : List (List ℕ)) × All (IsMessage name) messages × FoldsTo tells old messages new
one_message tells name old new m = (m.0 ∷ [], All-cons (IsMessage name) m.0 [] m.1 (All-nil (IsMessage name)), (new, m.2, refl))

-- ---- the words that are names

pub texts_split : (words : List (String Global)) (i : ℕ) (word : String Global) (name : List ℕ) → i < length words → word ≡ get_or words i word → name ≡ string_bytes word
    → texts words ≡ (texts (take i words) ++ name ∷ []) ++ texts (drop (i + 1) words)
texts_split words i word name l e n =
    let text : String Global → List ℕ = λ s. string_bytes s in
    ap texts (sym (take-append-drop (i + 1) words)) ∙ map-append text (take (i + 1) words) (drop (i + 1) words)
    ∙ ap (λ l. l ++ texts (drop (i + 1) words)) (sym (texts_more words i word name l e n))

pub texts_all : (words : List (String Global)) (i : ℕ) → length words ≤ i → texts (take i words) ≡ texts words
texts_all words i l = ap texts (take_all i words l)

-- any other failure has one message
pub other_failure : (name message : List ℕ) (failure : Failure) → ((lines : String Global) → failure ≡ failures.Rejected lines → ⊥)
    → ((error : Error) → failure ≡ failures.Writing error → ⊥) → IsMessage name message
    → (Some 3 ≡ failure_status failure) × TellFailure name failure (message ∷ [])
other_failure name message (failures.Rejected lines) r w m = absurd (r lines refl)
other_failure name message (failures.Writing error) r w m = absurd (w error refl)
other_failure name message _ r w m = (refl, (message, m, refl))

-- ---- names of files that were changed

changed-push : (P : List ℕ → Outcome → Type 0) (names : List (List ℕ)) (outcomes : List Outcome) (name : List ℕ) (o : Outcome) → AllZip P names outcomes
    → changed_names (names ++ name ∷ []) (outcomes ++ o ∷ []) ≡ changed_names names outcomes ++ changed_name name o
changed-push P [] [] name o z = append-nil (changed_name name o)
changed-push P [] (p ∷ outcomes) name o z = absurd z
changed-push P (n ∷ names) [] name o z = absurd z
changed-push P (n ∷ names) (p ∷ outcomes) name o z =
    ap (λ l. changed_name n p ++ l) (changed-push P names outcomes name o z.1) ∙ sym (append_assoc (changed_name n p) (changed_names names outcomes) (changed_name name o))

own_name : (name : List ℕ) (o : Outcome) (other : List ℕ) → Contains (changed_name name o) other → Contains (name ∷ []) other
own_name name (changed report) other h = h
own_name name _ other h = absurd (omega (arith, h.1))

own_part : (name : List ℕ) (names mine theirs : List (List ℕ)) (other : List ℕ) → (Contains mine other → Contains (name ∷ []) other)
    → (Contains theirs other → Contains names other) → Contains mine other ⊎ Contains theirs other → Contains (name ∷ names) other
own_part name names mine theirs other f g (inl c) = Contains-append_left (name ∷ []) names other (f c)
own_part name names mine theirs other f g (inr c) = Contains-append_right (name ∷ []) names other (g c)

-- they are given
own_names : (names : List (List ℕ)) (outcomes : List Outcome) (other : List ℕ) → Contains (changed_names names outcomes) other → Contains names other
own_names [] outcomes other h = h
own_names (name ∷ names) [] other h = absurd (omega (arith, h.1))
own_names (name ∷ names) (o ∷ outcomes) other h =
    own_part name names (changed_name name o) (changed_names names outcomes) other (own_name name o other) (own_names names outcomes other)
    (Contains-append_cases (changed_name name o) (changed_names names outcomes) other h)

-- ---- statuses

reported_is : (o : Outcome) (status : ℕ) → Some status ≡ reported_status o → (status ≡ status_of o) × IsReported o
reported_is (changed (lost text messages)) status e = cc
reported_is (differs (lost text messages)) status e = cc
reported_is _ status e = (same_Some status _ e, λ h. h)

lost_is : (o : Outcome) → None ≡ reported_status o → (status_of o ≡ 3) × IsLost (report_of o)
lost_is (changed (lost text messages)) e = (refl, tt)
lost_is (differs (lost text messages)) e = (refl, tt)
lost_is _ e = cc

small_of : (o : Outcome) → status_of o ≤ 3
small_of o = grind arith

pub small_status : (o : Outcome) (status : ℕ) → Some status ≡ reported_status o → status ≤ 3
small_status o status e = subst (λ s. s ≤ 3) (sym (reported_is o status e).0) (small_of o)

-- ---- bytes that are known

-- the text of a file whose bytes are known
same_known : (source bytes : List ℕ) (o : Option (List ℕ)) → o ≡ Some bytes → IfSome o (λ b. source ≡ b) → source ≡ bytes
same_known source bytes o e h = subst (λ (x : Option (List ℕ)). IfSome x (λ b. source ≡ b)) e h

is_known : (text : List ℕ) (o : Option (List ℕ)) → o ≡ Some text → IfSome o (λ b. text ≡ b)
is_known text o e = subst (λ (x : Option (List ℕ)). IfSome x (λ b. text ≡ b)) (sym e) refl

known_as : (text : List ℕ) (o p : Option (List ℕ)) → p ≡ o → IfSome o (λ b. text ≡ b) → IfSome p (λ b. text ≡ b)
known_as text o p e h = subst (λ (x : Option (List ℕ)). IfSome x (λ b. text ≡ b)) (sym e) h

-- the text of the bytes that were read is what the file holds
pub text_read : (old : Option (List ℕ)) (bytes source : List ℕ) → IfSome old (λ b. bytes ≡ b) → source ≡ bytes → IfSome old (λ b. source ≡ b)
text_read None bytes source h e = tt
text_read (Some b) bytes source h e = e ∙ h

module _ (formats : List ℕ → List ℕ → Type 0) (rejects : List ℕ → List ℕ → List ℕ → Type 0)
    (one : (source text other : List ℕ) → formats source text → formats source other → text ≡ other)
    (settled : (source text : List ℕ) → formats source text → formats text text)
    (never_both : (name source lines text : List ℕ) → rejects name source lines → formats source text → ⊥)
    (task : Task) where
  -- ---- changes, one after the other
  module _ (names : List (List ℕ)) where
    -- what was formatted is its own formatted text
    settles : (source text before after : List ℕ) (bytes : Option (List ℕ)) → formats source text → bytes ≡ Some text → bytes ≡ Some before → formats before after → after ≡ text
    settles source text before after bytes f e h g =
        one text after text (subst (λ s. formats s after) (same_Some before text (sym h ∙ e)) g) (settled source text f)

    kept-trans : (files mid : Files) (a b c : Option (List ℕ)) → ChangesFiles formats task names files mid
        → (b ≡ a) ⊎ BecomesFormatted formats task names files a b → (c ≡ b) ⊎ BecomesFormatted formats task names mid b c
        → (c ≡ a) ⊎ BecomesFormatted formats task names files a c
    kept-trans files mid a b c f p (inl q) = subst (λ new. (new ≡ a) ⊎ BecomesFormatted formats task names files a new) (sym q) p
    kept-trans files mid a b c f (inl p) (inr q) = first (f q.named)
      where
        first : (mid q.named ≡ files q.named) ⊎ BecomesFormatted formats task names files (files q.named) (mid q.named)
            → (c ≡ a) ⊎ BecomesFormatted formats task names files a c
        first (inl same) = inr (record {
          changes = q.changes;
          source = q.source;
          text = q.text;
          was = sym p ∙ q.was;
          is = q.is;
          formatted = q.formatted;
          named = q.named;
          is_given = q.is_given;
          had = sym same ∙ q.had;
        })
        first (inr r) =
            let text_is : q.text ≡ r.text = settles r.source r.text q.source q.text (mid q.named) r.formatted r.is q.had q.formatted in
            let source_is : q.source ≡ r.text = same_Some q.source r.text (sym q.had ∙ r.is) in
            inl (q.is ∙ ap Some (text_is ∙ sym source_is) ∙ sym q.was ∙ p)
    kept-trans files mid a b c f (inr p) (inr q) =
        let again = q.is ∙ ap Some (settles p.source p.text q.source q.text b p.formatted p.is q.was q.formatted) in
        subst (λ new. (new ≡ a) ⊎ BecomesFormatted formats task names files a new) (sym (again ∙ sym p.is)) (inr p)

    pub changes-trans : (a b c : Files) → ChangesFiles formats task names a b → ChangesFiles formats task names b c → ChangesFiles formats task names a c
    changes-trans a b c f g = λ name. kept-trans a b (a name) (b name) (c name) f (f name) (g name)

  -- fewer names
  pub changes-widened : (few names : List (List ℕ)) (a b : Files) → ((name : List ℕ) → Contains few name → Contains names name) → ChangesFiles formats task few a b
      → ChangesFiles formats task names a b
  changes-widened few names a b given f = λ other. widened (a other) (b other) (f other)
    where
      widened : (old new : Option (List ℕ)) → (new ≡ old) ⊎ BecomesFormatted formats task few a old new → (new ≡ old) ⊎ BecomesFormatted formats task names a old new
      widened old new (inl e) = inl e
      widened old new (inr r) = inr (record {
        changes = r.changes;
        source = r.source;
        text = r.text;
        was = r.was;
        is = r.is;
        formatted = r.formatted;
        named = r.named;
        is_given = given r.named r.is_given;
        had = r.had;
      })

  changes_none : (names : List (List ℕ)) (a b : Files) → KeepsFiles a b → ChangesFiles formats task names a b
  changes_none names a b h = λ name. inl (h name)

  becomes : (name source text : List ℕ) (files : Files) (old new : Option (List ℕ)) → IfSome (files name) (λ b. source ≡ b) → formats source text → changes_files task ≡ true
      → (new ≡ old) ⊎ ((bytes : List ℕ) × (files name ≡ Some bytes) × (old ≡ Some bytes) × (new ≡ Some text))
      → (new ≡ old) ⊎ BecomesFormatted formats task (name ∷ []) files old new
  becomes name source text files old new is f changes (inl e) = inl e
  becomes name source text files old new is f changes (inr h) = inr (record {
    changes = changes;
    source = h.0;
    text = text;
    was = h.2;
    is = h.3;
    formatted = subst (λ s. formats s text) (same_known source h.0 (files name) h.1 is) f;
    named = name;
    is_given = (0, lit< tt, refl);
    had = h.1;
  })

  changes_replaced : (name source text : List ℕ) (old new : Files) → Replaces old new name text → IfSome (old name) (λ b. source ≡ b) → formats source text
      → changes_files task ≡ true → ChangesFiles formats task (name ∷ []) old new
  changes_replaced name source text old new r is f changes = λ other. becomes name source text old (old other) (new other) is f changes (r.others other)

  -- ---- outcomes, while others become formatted

  module _ (names : List (List ℕ)) (name : List ℕ) (files : Files) where
    -- what an outcome means stays true after a later change
    stays : (old mid new : Option (List ℕ)) (o : Outcome) → (new ≡ mid) ⊎ BecomesFormatted formats task names files mid new
        → HasOutcome formats rejects task name old mid o → HasOutcome formats rejects task name old new o
    stays old mid new o (inl e) h = subst (λ b. HasOutcome formats rejects task name old b o) (sym e) h
    stays old mid new formatted (inr b) h = (b.text, is_known b.text new b.is, settled b.source b.text b.formatted)
    stays old mid new (changed report) (inr b) h =
        let text_is : h.1 ≡ b.source = same_known h.1 b.source mid b.was h.3 in
        let again : b.text ≡ h.1 = one h.1 b.text h.1 (subst (λ s. formats s b.text) (sym text_is) b.formatted) (settled h.0 h.1 h.4.formatted) in
        (h.0, h.1, h.2, is_known h.1 new (b.is ∙ ap Some again), h.4, h.5)
    stays old mid new (differs report) (inr b) h = absurd (true≢false (sym b.changes ∙ h.4))
    stays old mid new (rejected lines) (inr b) h =
        absurd (never_both (visible_name name) b.source lines b.text (subst (λ s. rejects (visible_name name) s lines) (same_known h.0 b.source mid b.was h.1) h.2) b.formatted)
    stays old mid new (failed message) (inr b) h = h

    -- a file that is changed wasn't changed before
    lifts : (old mid new : Option (List ℕ)) (o : Outcome) → (mid ≡ old) ⊎ BecomesFormatted formats task names files old mid
        → HasOutcome formats rejects task name mid new o → HasOutcome formats rejects task name old new o
    lifts old mid new o (inl e) h = subst (λ b. HasOutcome formats rejects task name b new o) e h
    lifts old mid new (changed report) (inr b) h =
        let source_is : h.0 ≡ b.text = same_known h.0 b.text mid b.is h.2 in
        let again : h.1 ≡ h.0 = one h.0 h.1 h.0 h.4.formatted (subst (λ s. formats s s) (sym source_is) (settled b.source b.text b.formatted)) in
        absurd (h.4.differs again)
    lifts old mid new _ (inr b) h = h

  module _ {O : Type 0} (writes loses : O → List ℕ → O → Type 0) {E : Type 0} (tells : E → List ℕ → E → Type 0) where
    -- All reports so far were written.
    pub record AllReported (names : List (List ℕ)) (old new : Files) (output_old output_new : O) (errors_old errors_new : E) (status : ℕ) : Type 0 where
      pub outcomes : List Outcome
      pub each : AllZip (λ name outcome. HasOutcome formats rejects task name (old name) (new name) outcome) names outcomes
      pub all : All IsReported outcomes
      pub files : ChangesFiles formats task (changed_names names outcomes) old new
      pub status_is : status ≡ greatest (map status_of outcomes)
      pub reported : FoldsTo (Takes writes loses) output_old (map report_of outcomes) output_new
      pub told : FoldsTo tells errors_old (flat_map messages_of outcomes) errors_new

    all_reported : {names : List (List ℕ)} {old new : Files} {a b : O} {errors_old errors_new : E} {status : ℕ}
        → AllReported names old new a b errors_old errors_new status → HasOutcomes formats rejects task writes loses tells names old new a b errors_old errors_new status
    all_reported {names} h = record {
      outcomes = h.outcomes;
      seen = names;
      rest = [];
      names_are = sym (append-nil names);
      each = h.each;
      ends = inl (h.all, refl);
      files = h.files;
      status_is = h.status_is;
      reported = h.reported;
      told = h.told;
    }

    -- only files that are named are changed
    pub given_alone : {names : List (List ℕ)} {old new : Files} {a b : O} {errors_old errors_new : E} {status : ℕ}
        → HasOutcomes formats rejects task writes loses tells names old new a b errors_old errors_new status → ChangesFiles formats task names old new
    given_alone {names} {old} {new} h =
        changes-widened (changed_names h.seen h.outcomes) names old new
        (λ name c. subst (λ ns. Contains ns name) (sym h.names_are) (Contains-append_left h.seen h.rest name (own_names h.seen h.outcomes name c))) h.files

    -- one file more
    module _ (names : List (List ℕ)) (name : List ℕ) (old mid new : Files) (a b c : O) (e f g : E) (status : ℕ) (result : Option ℕ)
        (so_far : AllReported names old mid a b e f status) (s : HasStatus formats rejects task writes loses tells name mid new b c f g result) where
      abbrev o : Outcome
      o = s.outcome

      each_with : AllZip (λ n p. HasOutcome formats rejects task n (old n) (new n) p) (names ++ name ∷ []) (so_far.outcomes ++ o ∷ [])
      each_with =
          each_push (λ n p. HasOutcome formats rejects task n (old n) (mid n) p) (λ n p. HasOutcome formats rejects task n (old n) (new n) p) names so_far.outcomes name o
          (λ n p. stays (changed_name name o) n mid (old n) (mid n) (new n) p (s.done.files n)) so_far.each
          (lifts (changed_names names so_far.outcomes) name old (old name) (mid name) (new name) o (so_far.files name) s.done.is)

      files_with : ChangesFiles formats task (changed_names (names ++ name ∷ []) (so_far.outcomes ++ o ∷ [])) old new
      files_with =
          let before = changed_names names so_far.outcomes in
          let all = before ++ changed_name name o in
          subst (λ ns. ChangesFiles formats task ns old new) (sym (changed-push _ names so_far.outcomes name o so_far.each))
          (changes-trans all old mid new (changes-widened before all old mid (λ n h. Contains-append_left before (changed_name name o) n h) so_far.files)
          (changes-widened (changed_name name o) all mid new (λ n h. Contains-append_right before (changed_name name o) n h) s.done.files))

      status_with : (total : ℕ) → total ≡ max status (status_of o) → total ≡ greatest (map status_of (so_far.outcomes ++ o ∷ []))
      status_with total t =
          t ∙ ap (λ x. max x (status_of o)) so_far.status_is ∙ sym (greatest-push (map status_of so_far.outcomes) (status_of o))
          ∙ ap greatest (sym (map-append status_of so_far.outcomes (o ∷ [])))

      reported_with : FoldsTo (Takes writes loses) a (map report_of (so_far.outcomes ++ o ∷ [])) c
      reported_with =
          subst (λ l. FoldsTo (Takes writes loses) a l c) (sym (map-append report_of so_far.outcomes (o ∷ [])))
          (folds_both (Takes writes loses) a b c (map report_of so_far.outcomes) (report_of o ∷ []) so_far.reported (c, s.done.reported, refl))

      told_with : FoldsTo tells e (flat_map messages_of (so_far.outcomes ++ o ∷ [])) g
      told_with =
          subst (λ l. FoldsTo tells e l g) (sym (flat_map-push messages_of so_far.outcomes o))
          (folds_both tells e f g (flat_map messages_of so_far.outcomes) (messages_of o) so_far.told s.told)

      one_more : (more total : ℕ) → result ≡ Some more → total ≡ max status more → AllReported (names ++ name ∷ []) old new a c e g total
      one_more more total r t =
          let is = reported_is o more (sym r ∙ s.status_is) in
          record {
            outcomes = so_far.outcomes ++ o ∷ [];
            each = each_with;
            all = All-append IsReported so_far.outcomes (o ∷ []) so_far.all (All-cons IsReported o [] is.1 (All-nil IsReported));
            files = files_with;
            status_is = status_with total (t ∙ ap (max status) is.0);
            reported = reported_with;
            told = told_with;
          }

      -- writing its report failed
      last_one : (all rest : List (List ℕ)) → all ≡ (names ++ name ∷ []) ++ rest → result ≡ None → max status 3 ≡ 3
          → HasOutcomes formats rejects task writes loses tells all old new a c e g 3
      last_one all rest split r t =
          let is = lost_is o (sym r ∙ s.status_is) in
          record {
            outcomes = so_far.outcomes ++ o ∷ [];
            seen = names ++ name ∷ [];
            rest = rest;
            names_are = split;
            each = each_with;
            ends = inr (so_far.outcomes, o, refl, so_far.all, is.1);
            files = files_with;
            status_is = status_with 3 (sym t ∙ ap (max status) (sym is.0));
            reported = reported_with;
            told = told_with;
          }

    -- one word more
    module _ (words : List (String Global)) (i : ℕ) (word : String Global) (name : List ℕ) (l : i < length words) (e : word ≡ get_or words i word) (n : name ≡ string_bytes word) where
      pub word_more : {old mid new : Files} {a b c : O} {errors now last : E} {status more total : ℕ}
          → AllReported (texts (take i words)) old mid a b errors now status → HasStatus formats rejects task writes loses tells name mid new b c now last (Some more)
          → total ≡ max status more → AllReported (texts (take (i + 1) words)) old new a c errors last total
      word_more {old} {mid} {new} {a} {b} {c} {errors} {now} {last} {status} {more} {total} so_far s t =
          subst (λ (ns : List (List ℕ)). AllReported ns old new a c errors last total) (texts_more words i word name l e n)
          (one_more (texts (take i words)) name old mid new a b c errors now last status (Some more) so_far s more total refl t)

      pub word_last : {old mid new : Files} {a b c : O} {errors now last : E} {status : ℕ} {result : Option ℕ}
          → AllReported (texts (take i words)) old mid a b errors now status → HasStatus formats rejects task writes loses tells name mid new b c now last result
          → result ≡ None → status ≤ 3 → HasOutcomes formats rejects task writes loses tells (texts words) old new a c errors last 3
      word_last {old} {mid} {new} {a} {b} {c} {errors} {now} {last} {status} {result} so_far s gone small =
          last_one (texts (take i words)) name old mid new a b c errors now last status result so_far s (texts words) (texts (drop (i + 1) words))
          (texts_split words i word name l e n) gone (omega arith)

    pub words_done : (words : List (String Global)) (i : ℕ) {old new : Files} {a b : O} {errors last : E} {status : ℕ} → length words ≤ i
        → AllReported (texts (take i words)) old new a b errors last status
        → HasOutcomes formats rejects task writes loses tells (texts words) old new a b errors last status
    words_done words i {old} {new} {a} {b} {errors} {last} {status} l h =
        subst (λ (ns : List (List ℕ)). HasOutcomes formats rejects task writes loses tells ns old new a b errors last status) (texts_all words i l) (all_reported h)

    -- a result after it was told
    pub result_told : {name : List ℕ} {old new : Files} {a b : O} {errors_old errors_new : E} (result : Result Bool Failure) (messages : List (List ℕ)) (status : Option ℕ)
        → HasResult formats rejects task writes loses name old new a b result → TellResult name result messages → FoldsTo tells errors_old messages errors_new
        → status ≡ result_status result → HasStatus formats rejects task writes loses tells name old new a b errors_old errors_new status
    result_told {name} {old} {new} {a} {b} {errors_old} {errors_new} result messages status h t told e =
        let r = h messages t in
        record {
          outcome = r.0;
          done = r.1;
          status_is = e ∙ sym r.3;
          told = subst (λ l. FoldsTo tells errors_old l errors_new) (sym r.2) told;
        }

  -- ---- results
  module _ {O : Type 0} (writes loses : O → List ℕ → O → Type 0) (name : List ℕ) (old new : Files) (a b : O) where
    -- a failure that leaves nothing known of the file
    pub result_nothing : (failure : Failure) → failure_status failure ≡ Some 3 → KeepsFiles old new → b ≡ a
        → HasResult formats rejects task writes loses name old new a b (Err failure)
    result_nothing failure e kept same messages t = told failure e t
      where
        one_told : (f : Failure) → failure_status f ≡ Some 3 → (message : List ℕ) × IsMessage name message × (messages ≡ message ∷ [])
            → (outcome : Outcome) × IsDone formats rejects task writes loses name old new a b outcome × (messages_of outcome ≡ messages) × (reported_status outcome ≡ failure_status f)
        one_told f e m = (
          failed m.0,
          record { is = m.1; files = changes_none [] old new kept; reported = same },
          sym m.2,
          sym e,
        )

        told : (f : Failure) → failure_status f ≡ Some 3 → TellFailure name f messages
            → (outcome : Outcome) × IsDone formats rejects task writes loses name old new a b outcome × (messages_of outcome ≡ messages) × (reported_status outcome ≡ failure_status f)
        told (failures.Rejected lines) e t = cc
        told (failures.Writing error) e t = cc
        told f e t = one_told f e t

    pub result_rejected : (source : List ℕ) (lines : String Global) → IfSome (old name) (λ x. source ≡ x) → rejects (visible_name name) source (string_bytes lines) → KeepsFiles old new
        → b ≡ a → HasResult formats rejects task writes loses name old new a b (Err (failures.Rejected lines))
    result_rejected source lines is r kept same messages t = (
      rejected (string_bytes lines),
      record { is = (source, known_as source (old name) (new name) (kept name) is, r); files = changes_none [] old new kept; reported = same },
      sym t,
      refl,
    )

    -- what the formatter refuses
    pub result_refused : (failure : Failure) (source : List ℕ) → IfSome (old name) (λ x. source ≡ x) → IsRefused (rejects (visible_name name) source) failure
        → KeepsFiles old new → b ≡ a → HasResult formats rejects task writes loses name old new a b (Err failure)
    result_refused (failures.Rejected lines) source known refused kept same = result_rejected source lines known refused kept same
    result_refused (failures.Writing error) source known refused kept same = cc
    result_refused failure source known refused kept same = result_nothing failure refused kept same

    -- the status of a report
    same_status : (report : Report) (status : ℕ) → unless_lost report (with_report report status) ≡ unless_lost report status
    same_status report status = grind arith

    in_status : (report : Option (List ℕ)) (status : ℕ) → unless_lost (report_in report) status ≡ Some status
    in_status report status = grind arith

    in_messages : (report : Option (List ℕ)) → lost_messages (report_in report) ≡ []
    in_messages report = grind arith

    replaced_known : (text : List ℕ) (mid now : Option (List ℕ))
        → (now ≡ mid) ⊎ ((bytes : List ℕ) × (mid ≡ Some bytes) × (mid ≡ Some bytes) × (now ≡ Some text))
        → IfSome mid (λ b. now ≡ Some text) → IfSome now (λ b. text ≡ b)
    replaced_known text mid now (inr h) r = is_known text now h.3
    replaced_known text None now (inl e) r = subst (λ (x : Option (List ℕ)). IfSome x (λ b. text ≡ b)) (sym e) tt
    replaced_known text (Some b) now (inl e) r = is_known text now r

    -- a file that isn't formatted
    module _ (mid : Files) (source text : List ℕ) (read : KeepsFiles old mid) (is : IfSome (old name) (λ x. source ≡ x)) (f : formats source text)
        (apart : text ≢ source) where
      -- what became of it, with this report and this status
      abbrev Becomes : Report → ℕ → Type 0
      Becomes report status =
          (outcome : Outcome) × IsDone formats rejects task writes loses name old new a b outcome × (messages_of outcome ≡ lost_messages report)
          × (reported_status outcome ≡ unless_lost report status)

      becomes_changed : (report : Report) → changes_files task ≡ true → Replaces mid new name text → IfSome (mid name) (λ x. source ≡ x) → HasReport task name source text report
          → Takes writes loses a report b → Becomes report 0
      becomes_changed report place r known reported taken = (
        changed report,
        record {
          is = (source, text, is, replaced_known text (mid name) (new name) (r.others name) r.replaced, record { formatted = f; differs = apart; reported = reported }, place);
          files =
              changes-trans (name ∷ []) old mid new (changes_none (name ∷ []) old mid read)
              (changes_replaced name source text mid new r known f place);
          reported = taken;
        },
        refl,
        same_status report 0,
      )

      becomes_different : (report : Report) → changes_files task ≡ false → KeepsFiles mid new → HasReport task name source text report → Takes writes loses a report b
          → Becomes report 1
      becomes_different report place kept reported taken = (
        differs report,
        record {
          is = (source, text, known_as source (old name) (new name) (kept name ∙ read name) is, record { formatted = f; differs = apart; reported = reported }, place);
          files = changes_none [] old new (λ n. kept n ∙ read n);
          reported = taken;
        },
        refl,
        same_status report 1,
      )

      becomes_handled : (report : Report) (t : Task) → task ≡ t → HandlesFile t name source text mid new → HasReport task name source text report
          → Takes writes loses a report b → Becomes report (if changes_files task then 0 else 1)
      becomes_handled report Format e h reported taken = subst (λ (p : Bool). Becomes report (if p then 0 else 1)) (sym (ap changes_files e)) (becomes_changed report (ap changes_files e) h.0 h.1 reported taken)
      becomes_handled report FormatAndName e h reported taken = subst (λ (p : Bool). Becomes report (if p then 0 else 1)) (sym (ap changes_files e)) (becomes_changed report (ap changes_files e) h.0 h.1 reported taken)
      becomes_handled report Check e h reported taken = subst (λ (p : Bool). Becomes report (if p then 0 else 1)) (sym (ap changes_files e)) (becomes_different report (ap changes_files e) h reported taken)
      becomes_handled report Diff e h reported taken = subst (λ (p : Bool). Becomes report (if p then 0 else 1)) (sym (ap changes_files e)) (becomes_different report (ap changes_files e) h reported taken)

      pub result_applied : (result : Result Bool Failure) → AppliesResult writes loses task name source text mid new a b result
          → HasResult formats rejects task writes loses name old new a b result
      result_applied (Ok place) h messages t =
          let done = becomes_handled (report_in h.1.0) task refl h.1.2 h.1.1 h.1.3 in (
            done.0,
            done.1,
            done.2 ∙ in_messages h.1.0 ∙ sym t,
            done.3 ∙ in_status h.1.0 (if changes_files task then 0 else 1) ∙ ap (λ x. Some (if x then 0 else 1)) (sym h.0),
          )
      result_applied (Err (failures.Writing error)) h messages t = becomes_handled (lost h.0 messages) task refl h.2 (h.1, t) h.3
      result_applied (Err failure) h messages t = result_nothing failure h.0 (λ n. h.1 n ∙ read n) h.2 messages t
