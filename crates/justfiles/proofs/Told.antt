-- What is told of files, and how it is shown.
use Rattle.std.proofs.Common.{◌≡◌, ◌∙◌, ◌+◌, ◌<◌, ℕ, List, [], ◌∷◌, ◌++◌, Option, Result, Ok, Err, ap, get_or, inl, length, map, refl, subst, string_bytes, sym, take}
use Rattle.std.specs.Prelude.{IfErr, IfOk, String}
use Rattle.std.specs.Global.{Global}
use Rattle.std.specs.List.{AllZip}
use Rattle.std.proofs.lemmas.List.{get_or-map, length-map, map-append, take_more}
use Rattle.std.specs.Option.{option_map}
use Rattle.module_paths.specs.Modules.{IsModulePath}
use Rattle.justfile_token.specs.Name.{name_text}
use Rattle.justfile_files.specs.Formatter.{IfRejected, IsExhausted}
use Rattle.justfile_files.specs.Request.{texts}
use Rattle.justfile_files.specs.Sources.{Source, source_of, sources}
use Rattle.justfile_files.specs.Visible.{visible_lines}
use Rattle.justfile_files.specs.declared.formatter.Refusal.{Refusal}
use Rattle.justfile_files.specs.declared.formatter.Refusal.TheVariants.{Exhausted, Rejected}
use Rattle.justfile_files.specs.declared.sources.SourceFile.{SourceFile}
use Rattle.justfile_files.proofs.OutcomeLemmas.{each_push}
use Rattle.justfile_problems.specs.declared.facts.Located.{Located}
use Rattle.justfile_problems.specs.declared.facts.LocatedModule.{LocatedModule}
use Rattle.justfile_problems.specs.declared.facts.ModuleFile.{ModuleFile}
use Rattle.justfile_problems.specs.declared.facts.Submodule.{Submodule}
use Rattle.justfile_ast.specs.declared.ast.Ast.{Ast}
use Rattle.justfile_canonical.specs.Formatting.{IsFileOf}
use Rattle.justfiles.specs.Justfile.{IsRejected}
use Rattle.justfiles.specs.Linted.{AreRejected, FindsShown, IsPart, LeadTo, NamesPaths, SaysSo, TellFiles}
use Rattle.justfiles.specs.Located.{IsAt, IsFound, IsPlaced, folder_of}

module _ (has : List ℕ → List (String Global) → Type 0) where
  -- what is told is shown
  pub shown_found : (files : List Source) (missing : List (String Global)) (told : List ℕ) (r : Result (String Global) Refusal) → TellFiles has files missing told
      → IfOk r (λ shown. string_bytes shown ≡ visible_lines told) → IfOk r (λ shown. FindsShown has files (texts missing) (string_bytes shown))
  shown_found files missing told (Ok shown) t h = record { paths = missing; are = refl; told = told; finds = t; is = h }
  shown_found files missing told (Err refusal) t h = tt

  -- one file more
  pub one_part : (files : List SourceFile) (i : ℕ) (file : SourceFile) (parts more : List ModuleFile) (part : ModuleFile) → i < length files → file ≡ get_or files i file
      → AllZip (IsPart has) (sources (take i files)) parts → IsPart has (source_of file) part → more ≡ parts ++ part ∷ [] → AllZip (IsPart has) (sources (take (i + 1) files)) more
  one_part files i file parts more part inside at so_far is e =
      subst (λ l. AllZip (IsPart has) l more)
      (sym (ap sources (take_more files i file inside ∙ ap (λ f. take i files ++ f ∷ []) (sym at)) ∙ map-append source_of (take i files) (file ∷ [])))
      (subst (AllZip (IsPart has) (sources (take i files) ++ source_of file ∷ [])) (sym e)
      (each_push (IsPart has) (IsPart has) (sources (take i files)) parts (source_of file) part (λ s f h. h) so_far is))

  -- the paths that a parsed file names
  pub named_paths : {V E : Type 0} (path source : List ℕ) (ast : Ast) (r : Result V E) (texts_of : V → List (List ℕ)) → IsFileOf source ast → IfOk r (λ v. NamesPaths has path ast (texts_of v))
      → IfOk r (λ v. LeadTo has path source (texts_of v))
  named_paths path source ast (Ok v) texts_of parsed h = inl (ast, parsed, h)
  named_paths path source ast (Err failure) texts_of parsed h = tt

  -- what a parsed file says
  pub said : {E : Type 0} (file : SourceFile) (ast : Ast) (name path text : List ℕ) (r : Result ModuleFile E) → name ≡ string_bytes file.name → path ≡ string_bytes file.path
      → text ≡ string_bytes file.text → IsFileOf text ast → IfOk r (SaysSo has ast name path text) → IfOk r (IsPart has (source_of file))
  said file ast name path text (Ok part) same_name same_path same_text parsed h = record {
    ast = ast;
    parsed = subst (λ t. IsFileOf t ast) same_text parsed;
    says =
        subst (λ t. SaysSo has ast (string_bytes file.name) (string_bytes file.path) t part) same_text
        (subst (λ p. SaysSo has ast (string_bytes file.name) p text part) same_path (subst (λ n. SaysSo has ast n path text part) same_name h));
  }
  said file ast name path text (Err failure) same_name same_path same_text parsed h = tt

  -- the place of a module's file
  pub found_at : {E : Type 0} (path : List ℕ) (m : Submodule) (folder name : List ℕ) (found : Option (List ℕ)) (r : Result Located E) → folder ≡ folder_of path → name ≡ name_text m.name
      → IsModulePath has folder name (option_map string_bytes m.path) found → IfOk r (IsAt path found) → IfOk r (IsFound has path m)
  found_at path m folder name found (Ok l) same_folder same_name is at = record {
    found = found;
    is_found =
        subst (λ f. IsModulePath has f (name_text m.name) (option_map string_bytes m.path) found) same_folder
        (subst (λ n. IsModulePath has folder n (option_map string_bytes m.path) found) same_name is);
    at = at;
  }
  found_at path m folder name found (Err failure) same_folder same_name is at = tt

  -- one module more
  pub one_placed : (path : List ℕ) (submodules : List Submodule) (i : ℕ) (submodule : Submodule) (modules more : List LocatedModule) (owner : LocatedModule) → i < length submodules
      → submodule ≡ get_or submodules i submodule → AllZip (IsPlaced has path) (take i submodules) modules → IsPlaced has path submodule owner → more ≡ modules ++ owner ∷ [] → AllZip (IsPlaced has path) (take (i + 1) submodules) more
  one_placed path submodules i submodule modules more owner inside at so_far is e =
      subst (λ l. AllZip (IsPlaced has path) l more) (sym (take_more submodules i submodule inside ∙ ap (λ m. take i submodules ++ m ∷ []) (sym at)))
      (subst (AllZip (IsPlaced has path) (take i submodules ++ submodule ∷ [])) (sym e)
      (each_push (IsPlaced has path) (IsPlaced has path) (take i submodules) modules submodule owner (λ s m h. h) so_far is))

-- a refusal for want of memory rejects no text
pub unshown : (files : List Source) (r : Result (String Global) Refusal) → IfErr r IsExhausted → IfErr r (IfRejected (AreRejected files))
unshown files (Ok shown) h = tt
unshown files (Err (Rejected lines)) h = absurd h
unshown files (Err (Exhausted what)) h = tt

-- a text that is rejected is one of theirs
pub rejected_at : (files : List SourceFile) (i : ℕ) (file : SourceFile) (refusal : Refusal) → i < length files → file ≡ get_or files i file
    → IfRejected (IsRejected (string_bytes file.name) (string_bytes file.text)) refusal → IfRejected (AreRejected (sources files)) refusal
rejected_at files i file (Rejected lines) inside at h =
    (i, source_of file, subst (λ n. i < n) (sym (length-map files source_of)) inside, get_or-map source_of files i file (source_of file) inside ∙ ap source_of (sym at), h)
rejected_at files i file (Exhausted what) inside at h = tt

-- one path more
pub one_path : (old new : List (String Global)) (path : String Global) → new ≡ old ++ path ∷ [] → map string_bytes new ≡ map string_bytes old ++ string_bytes path ∷ []
one_path old new path is = ap (map (λ (s : String Global). string_bytes s)) is ∙ map-append (λ (s : String Global). string_bytes s) old (path ∷ [])
