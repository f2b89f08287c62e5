-- The folder of an address.
use Rattle.std.proofs.Common.{◌≡◌, ◌∙◌, List, ◌∷◌, ◌++◌, ℕ, take, drop, subst, sym, ap, arith}
use Rattle.std.proofs.lemmas.List.{take-append-drop}
use Rattle.std.proofs.lemmas.Str.Pattern.{drop_at_char}
use Rattle.std.specs.Path.{slash}
use Rattle.std.specs.Str.Pattern.{RFindsChar, SplitsAroundMatch}
use Rattle.std.specs.Prelude.{Option, None, Some, Result, Ok, Err, IfOk, MatchOption, codes, option_map, String, string_bytes}
use Rattle.std.specs.Str.{IsUtf8}
use Rattle.std.specs.declared.alloc.Global.{Global}
use Rattle.std.proofs.lemmas.List.{append_cancel_left}
use Rattle.std.proofs.lemmas.Str.{IsUtf8-string_bytes}
use Rattle.percent_encoding.specs.Percent.{percent_decode}
use Rattle.editor_answers.specs.Links.{IsEncodedPath, IsFolderOf, IsPathOfFolder, before}

pub folder_before : (uri folder name : List ℕ) → SplitsAroundMatch (RFindsChar slash) uri folder name → IsFolderOf uri folder
folder_before uri folder name h =
    let i = h.0 in
    let j = h.1 in
    let joined : uri ≡ take i uri ++ slash ∷ drop j uri = sym (take-append-drop i uri) ∙ ap (λ (l : List ℕ). take i uri ++ l) (drop_at_char slash uri i j h.2.1 (omega arith)) in
    before (drop j uri) (joined ∙ ap (λ (l : List ℕ). l ++ slash ∷ drop j uri) (sym h.3)) h.2.0

-- an address that isn't that of a folder with files stands for no path
pub no_path : (folder : List ℕ) → IsEncodedPath folder None → IsPathOfFolder folder None
no_path folder none path h = none h.encoded h.is_file h.rooted

-- the path that is encoded, unless it isn't UTF-8
pub path_if : {E : Type 0} (folder encoded : List ℕ) (r : Result (Option (String Global)) E) → IsEncodedPath folder (Some encoded)
    → IfOk r (λ made. MatchOption made (IsUtf8 (percent_decode encoded) → ⊥) (λ path. string_bytes path ≡ percent_decode encoded))
    → IfOk r (λ made. IsPathOfFolder folder (option_map string_bytes made))
path_if folder encoded (Ok (Some path)) is h = record { encoded = encoded; is_file = is.0; rooted = is.1; is_decoded = h; utf8 = IsUtf8-string_bytes path }
path_if folder encoded (Ok None) is h = λ path p.
    let same : p.encoded ≡ encoded = append_cancel_left (codes "file://") p.encoded encoded (sym p.is_file ∙ is.0) in
    h (subst IsUtf8 (p.is_decoded ∙ ap percent_decode same) p.utf8)
path_if folder encoded (Err e) is h = tt
