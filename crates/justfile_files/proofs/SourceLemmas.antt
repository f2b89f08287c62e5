-- Files that were read one after the other.
use Rattle.std.proofs.Common.{◌≡◌, ◌∙◌, ◌<◌, ℕ, false, List, [], ◌∷◌, ◌++◌, ◌||◌, IfSome, OnOk, Option, Result, Ok, Err, String, append-nil, append_assoc, ap, get_or, length, map, refl, string_bytes, subst, sym}
use Rattle.std.proofs.Common.{Global}
use Rattle.std.specs.List.{Contains, list_any}
use Rattle.std.specs.Str.{bytes_eq}
use Rattle.std.proofs.lemmas.List.{get_or-map, length-map}
use Rattle.std.proofs.lemmas.List.Elements.{Contains-append_left}
use Rattle.justfile_files.specs.Folder.{Files, KeepsFiles}
use Rattle.justfile_files.specs.Request.{texts}
use Rattle.justfile_files.specs.Sources.{Extends, Follow, HasText, IsNamed, IsNext, Source, has_path, is_at, source_of, sources}
use Rattle.justfile_files.specs.Visible.{visible_name}
use Rattle.justfile_files.specs.declared.sources.Found.{Found}
use Rattle.justfile_files.specs.declared.sources.Found.TheVariants.{Text}
use Rattle.justfile_files.specs.declared.sources.SourceFile.{SourceFile}

-- a text that was found
pub text_known : (known : Option (List ℕ)) (found : Found) (text : String Global) → found ≡ Text text → HasText known found → IfSome known (λ bytes. string_bytes text ≡ bytes)
text_known known found text is h = subst (HasText known) is h

-- no file has a path
any_at : (path : List ℕ) (files : List SourceFile) → list_any (is_at path) files ≡ has_path (sources files) path
any_at path [] = refl
any_at path (file ∷ files) = ap (λ b. bytes_eq (string_bytes file.path) path || b) (any_at path files)

-- an element of a list of which each has a picture
contains_map : {X Y : Type 0} (f : X → Y) (xs : List X) (k : ℕ) (x : X) → k < length xs → x ≡ get_or xs k x → Contains (map f xs) (f x)
contains_map f xs k x inside at = (k, subst (λ n. k < n) (sym (length-map xs f)) inside, get_or-map f xs k x (f x) inside ∙ ap f (sym at))

module _ (leads : (path source : List ℕ) → List (List ℕ) → Type 0) where
  named_more : (before more : List Source) (path : List ℕ) → IsNamed leads before path → IsNamed leads (before ++ more) path
  named_more before more path n = record { by = n.by; is_file = Contains-append_left before more n.by n.is_file; paths = n.paths; names = n.names; is_path = n.is_path }

  -- a path that a file names
  pub named_by : (files : List SourceFile) (k : ℕ) (file : SourceFile) (paths : List (String Global)) (i : ℕ) (word : String Global) (path : List ℕ) → k < length files → file ≡ get_or files k file
      → leads (source_of file).path (source_of file).text (texts paths) → i < length paths → word ≡ get_or paths i word → path ≡ string_bytes word → IsNamed leads (sources files) path
  named_by files k file paths i word path inside at named there is e =
      record {
        by = source_of file;
        is_file = contains_map source_of files k file inside at;
        paths = texts paths;
        names = named;
        is_path = subst (Contains (texts paths)) (sym e) (contains_map (λ (s : String Global). string_bytes s) paths i word there is);
      }

  module _ (files : Files) where
    follow_both : (before xs ys : List Source) → Follow leads files before xs → Follow leads files (before ++ xs) ys → Follow leads files before (xs ++ ys)
    follow_both before [] ys h k = subst (λ b. Follow leads files b ys) (append-nil before) k
    follow_both before (x ∷ xs) ys h k =
        (h.0, follow_both (before ++ x ∷ []) xs ys h.1 (subst (λ b. Follow leads files b ys) (sym (append_assoc before (x ∷ []) xs)) k))

    pub extends_none : (before : List Source) → Extends leads files before before
    extends_none before = record { others = []; are = sym (append-nil before); follow = tt }

    pub extends_one : (before after : List Source) (s : Source) → after ≡ before ++ s ∷ [] → IsNext leads files before s → Extends leads files before after
    extends_one before after s is h = record { others = s ∷ []; are = is; follow = (h, tt) }

    -- a file that wasn't there before
    pub extends_new : (old new : List SourceFile) (path text : List ℕ) → IsNamed leads (sources old) path → list_any (is_at path) old ≡ false → IfSome (files path) (λ bytes. text ≡ bytes)
        → sources new ≡ sources old ++ record { name = visible_name path; path = path; text = text } ∷ [] → Extends leads files (sources old) (sources new)
    extends_new old new path text named fresh is e =
        extends_one (sources old) (sources new) (record { name = visible_name path; path = path; text = text }) e
        (record { named = named; new = sym (any_at path old) ∙ fresh; shown = refl; text = is })

    pub extends_both : (a b c : List Source) → Extends leads files a b → Extends leads files b c → Extends leads files a c
    extends_both a b c h k =
        record {
          others = h.others ++ k.others;
          are = k.are ∙ ap (λ l. l ++ k.others) h.are ∙ append_assoc a h.others k.others;
          follow = follow_both a h.others k.others h.follow (subst (λ l. Follow leads files l k.others) h.are k.follow);
        }

    -- a path that files named before
    pub named_still : (before after : List Source) (path : List ℕ) → Extends leads files before after → IsNamed leads before path → IsNamed leads after path
    named_still before after path h n = subst (λ l. IsNamed leads l path) (sym h.are) (named_more before h.others path n)

    -- that one, if it was appended
    pub pushed_new : {A E : Type 0} (r : Result A E) (old new : List SourceFile) (path text : List ℕ) → IsNamed leads (sources old) path → list_any (is_at path) old ≡ false
        → IfSome (files path) (λ bytes. text ≡ bytes) → OnOk r (sources new ≡ sources old ++ record { name = visible_name path; path = path; text = text } ∷ [])
        → OnOk r (Extends leads files (sources old) (sources new))
    pushed_new (Ok x) old new path text named fresh is e = extends_new old new path text named fresh is e
    pushed_new (Err x) old new path text named fresh is e = tt

  -- files that are known alike
  pub extends_alike : (old new : Files) (a b : List Source) → KeepsFiles old new → Extends leads new a b → Extends leads old a b
  extends_alike old new a b kept h = subst (λ (files : Files). Extends leads files a b) (λ i. λ n. kept n i) h
