-- What a folder in memory holds after one of its files is replaced.
use Rattle.std.proofs.Common.{◌≡◌, ◌≢◌, ◌∙◌, ◌⊎◌, inl, inr, ◌<◌, ℕ, zero, suc, Bool, true, false, List, [], ◌∷◌, length, get_or, set, true≢false, Option, Some, IfSome, refl, sym, ap, subst, arith, if◌then◌else◌}
use Rattle.std.proofs.lemmas.Bool.{false_from_ne_true}
use Rattle.std.proofs.lemmas.List.{get_or_default}
use Rattle.std.proofs.lemmas.Slice.Eq.{bytes_eq-Decides}
use Rattle.std.specs.Str.{bytes_eq}
use Rattle.justfile_files.specs.Folder.{Replaces}
use Rattle.file_cases.specs.Memory.{IsIndex, bytes_in}
use Rattle.file_cases.specs.declared.folder.MemoryFile.{MemoryFile}

same_name : (x y : List ℕ) → x ≡ y → bytes_eq x y ≡ true
same_name x y = (bytes_eq-Decides x y).1

other_name : (x y : List ℕ) → x ≢ y → bytes_eq x y ≡ false
other_name x y apart = false_from_ne_true (bytes_eq x y) (λ e. apart ((bytes_eq-Decides x y).0 e))

-- whether the file at an index has the name
pub here : (files : List MemoryFile) (i : ℕ) (file : MemoryFile) (name : List ℕ) (same : Bool) → i < length files
    → same ≡ bytes_eq (get_or files i file).name.now name → same ≡ true → (d : MemoryFile) → (get_or files i d).name.now ≡ name
here files i file name same l s t d =
    ap (λ (f : MemoryFile). f.name.now) (get_or_default files i d file l) ∙ (bytes_eq-Decides (get_or files i file).name.now name).0 (sym s ∙ t)

pub not_here : (files : List MemoryFile) (i : ℕ) (file : MemoryFile) (name : List ℕ) (same : Bool) → i < length files
    → same ≡ bytes_eq (get_or files i file).name.now name → same ≡ false → (d : MemoryFile) → (get_or files i d).name.now ≢ name
not_here files i file name same l s t d h =
    true≢false (sym (same_name (get_or files i file).name.now name (ap (λ (f : MemoryFile). f.name.now) (get_or_default files i file d l) ∙ h)) ∙ sym s ∙ t)

later : (x : MemoryFile) (xs : List MemoryFile) (name : List ℕ) (i : ℕ) → IsIndex (x ∷ xs) name (suc i) → IsIndex xs name i
later x xs name i p = record { within = omega (arith, p.within); named = p.named; first = λ k l. p.first (suc k) (omega (arith, l)) }

pub found : (files : List MemoryFile) (name : List ℕ) (i : ℕ) (file : MemoryFile) → IsIndex files name i → file ≡ get_or files i file
    → bytes_in files name ≡ Some file.bytes.items
found [] name i file p e = absurd (omega (arith, p.within))
found (x ∷ xs) name zero file p e =
    rw (same_name x.name.now name (p.named x)) (ap (λ (f : MemoryFile). Some f.bytes.items) (sym e))
found (x ∷ xs) name (suc i) file p e =
    rw (other_name x.name.now name (p.first 0 (omega arith) x)) (found xs name i file (later x xs name i p) e)

replaced : (files : List MemoryFile) (name : List ℕ) (i : ℕ) (new : MemoryFile) → IsIndex files name i → new.name.now ≡ name
    → bytes_in (set files i new) name ≡ Some new.bytes.items
replaced [] name i new p e = absurd (omega (arith, p.within))
replaced (x ∷ xs) name zero new p e = rw (same_name new.name.now name e) refl
replaced (x ∷ xs) name (suc i) new p e =
    rw (other_name x.name.now name (p.first 0 (omega arith) x)) (replaced xs name i new (later x xs name i p) e)

-- another file is as it was
others : (files : List MemoryFile) (name other : List ℕ) (i : ℕ) (new : MemoryFile) → IsIndex files name i → new.name.now ≡ name → other ≢ name
    → bytes_in (set files i new) other ≡ bytes_in files other
others [] name other i new p e apart = absurd (omega (arith, p.within))
others (x ∷ xs) name other zero new p e apart =
    rw (other_name new.name.now other (λ h. apart (sym h ∙ e))) (rw (other_name x.name.now other (λ h. apart (sym h ∙ p.named x))) refl)
others (x ∷ xs) name other (suc i) new p e apart =
    ap (λ (o : Option (List ℕ)). if bytes_eq x.name.now other then Some x.bytes.items else o) (others xs name other i new (later x xs name i p) e apart)

same_or_not : (x y : List ℕ) → (x ≡ y) ⊎ (x ≢ y)
same_or_not x y = go (bytes_eq x y) refl
  where
    go : (b : Bool) → b ≡ bytes_eq x y → (x ≡ y) ⊎ (x ≢ y)
    go true e = inl ((bytes_eq-Decides x y).0 (sym e))
    go false e = inr (λ h. cc (e, same_name x y h))

-- the folder after the file at an index was replaced by one with the same name and with this text
pub replaces : (files : List MemoryFile) (name text : List ℕ) (i : ℕ) (old new : MemoryFile) → IsIndex files name i → old ≡ get_or files i old → new.name.now ≡ name
    → new.bytes.items ≡ text → Replaces (bytes_in files) (bytes_in (set files i new)) name text
replaces files name text i old new p e n t = record {
  replaced = subst (λ (o : Option (List ℕ)). IfSome o (λ _. bytes_in (set files i new) name ≡ Some text)) (sym (found files name i old p e)) put;
  others = λ other. by_name other (same_or_not other name);
}
  where
    put : bytes_in (set files i new) name ≡ Some text
    put = replaced files name i new p n ∙ ap Some t

    by_name : (other : List ℕ) → (other ≡ name) ⊎ (other ≢ name)
        → (bytes_in (set files i new) other ≡ bytes_in files other)
        ⊎ ((bytes : List ℕ) × (bytes_in files name ≡ Some bytes) × (bytes_in files other ≡ Some bytes) × (bytes_in (set files i new) other ≡ Some text))
    by_name other (inl same) = inr (old.bytes.items, found files name i old p e, ap (bytes_in files) same ∙ found files name i old p e, ap (bytes_in (set files i new)) same ∙ put)
    by_name other (inr apart) = inl (others files name other i new p n apart)

pub reads : (files : List MemoryFile) (name bytes : List ℕ) (i : ℕ) (file : MemoryFile) → IsIndex files name i → bytes ≡ (get_or files i file).bytes.items
    → IfSome (bytes_in files name) (λ known. bytes ≡ known)
reads files name bytes i file p b =
    subst (λ (o : Option (List ℕ)). IfSome o (λ known. bytes ≡ known)) (sym (found files name i (get_or files i file) p (get_or_default files i file (get_or files i file) p.within))) b
