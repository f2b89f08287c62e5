-- What is told of files in which something may be wrong, one after the other.
use Rattle.std.proofs.Common.{◌≡◌, ◌⊎◌, inl, inr, ℕ, ◌+◌, ◌<◌, ◌≤◌, max, All, List, [], ◌∷◌, ◌++◌, length, map, take, get_or, unwrap_or, String, string_bytes, refl, sym, ap, subst, ◌∙◌}
use Rattle.std.specs.List.{FoldsTo, flat_map}
use Rattle.std.proofs.lemmas.List.{map-append}
use Rattle.std.proofs.Common.{Global}
use Rattle.justfile_files.specs.Failure.{IsMessage, TellFailure, failure_status}
use Rattle.justfile_files.specs.FileResult.{IsRefused}
use Rattle.justfile_files.specs.Folder.{Files, KeepsFiles}
use Rattle.justfile_files.specs.Lint.{AreJudged, IsJudged, IsTrueOf, IsWritten, Judge, Judgement, Leaves, failed, judged, lost, messages_of, rejected, status_of}
use Rattle.justfile_files.specs.Outcome.{greatest}
use Rattle.justfile_files.specs.Request.{texts}
use Rattle.justfile_files.specs.declared.failure.Failure.{Failure}
use Rattle.justfile_files.specs.declared.failure.Failure.TheVariants as failures
use Rattle.justfile_files.proofs.OutcomeLemmas.{each_push, flat_map-push, folds_both, greatest-push, texts_all, texts_more}

module _ (finds rejects : Judge) {O E : Type 0} (writes loses : O → List ℕ → O → Type 0) (tells : E → List ℕ → E → Type 0) where
  -- files that are known alike
  same_file : (old new : Files) (name : List ℕ) (j : Judgement) → KeepsFiles old new → IsTrueOf finds rejects new name j → IsTrueOf finds rejects old name j
  same_file old new name j kept h = subst (λ (files : Files). IsTrueOf finds rejects files name j) (λ i. λ n. kept n i) h

  -- a file more
  pub one_judged : (old mid : Files) (words : List (String Global)) (i : ℕ) (word : String Global) (name : List ℕ)
      → i < length words → word ≡ get_or words i word → name ≡ string_bytes word → KeepsFiles old mid
      → {a b c : O} {e f g : E} {status more total : ℕ}
      → AreJudged finds rejects old writes loses tells (texts (take i words)) a b e f status → IsJudged finds rejects mid writes loses tells name b c f g more → total ≡ max status more
      → AreJudged finds rejects old writes loses tells (texts (take (i + 1) words)) a c e g total
  one_judged old mid words i word name l is n kept {a} {b} {c} {e} {f} {g} {status} {more} {total} so_far s t =
      subst (λ (ns : List (List ℕ)). AreJudged finds rejects old writes loses tells ns a c e g total) (texts_more words i word name l is n)
      (record {
        judgements = so_far.judgements ++ s.judgement ∷ [];
        each =
            each_push (IsTrueOf finds rejects old) (IsTrueOf finds rejects old) (texts (take i words)) so_far.judgements name s.judgement (λ n j h. h) so_far.each
            (same_file old mid name s.judgement kept s.is_true);
        status_is =
            t ∙ ap (λ x. max x more) so_far.status_is ∙ ap (max (greatest (map status_of so_far.judgements))) s.status_is ∙ sym (greatest-push (map status_of so_far.judgements) (status_of s.judgement))
            ∙ ap greatest (sym (map-append status_of so_far.judgements (s.judgement ∷ [])));
        left = folds_both (Leaves writes loses) a b c so_far.judgements (s.judgement ∷ []) so_far.left (c, s.left, refl);
        told =
            subst (λ l. FoldsTo tells e l g) (sym (flat_map-push messages_of so_far.judgements s.judgement))
            (folds_both tells e f g (flat_map messages_of so_far.judgements) (messages_of s.judgement) so_far.told s.told);
      })

  pub all_judged : (old : Files) (words : List (String Global)) (i : ℕ) → length words ≤ i → {a b : O} {e f : E} {status : ℕ} → AreJudged finds rejects old writes loses tells (texts (take i words)) a b e f status
      → AreJudged finds rejects old writes loses tells (texts words) a b e f status
  all_judged old words i l {a} {b} {e} {f} {status} h = subst (λ (ns : List (List ℕ)). AreJudged finds rejects old writes loses tells ns a b e f status) (texts_all words i l) h

  -- a file whose lines are known
  pub written_judged : (files : Files) (name lines : List ℕ) {a b : O} {e f : E} {status : ℕ} → finds files name lines
      → IsWritten writes loses tells name lines a b e f status → IsJudged finds rejects files writes loses tells name a b e f status
  written_judged files name lines {a} {b} {e} {f} {status} h w = record { judgement = w.judgement; is_true = is_true w.judgement w.is; status_is = w.status_is; left = w.left; told = w.told }
    where
      is_true : (j : Judgement) → (j ≡ judged lines) ⊎ ((messages : List (List ℕ)) × (j ≡ lost lines messages) × All (IsMessage name) messages) → IsTrueOf finds rejects files name j
      is_true j (inl k) = subst (IsTrueOf finds rejects files name) (sym k) h
      is_true j (inr k) = subst (IsTrueOf finds rejects files name) (sym k.1) (h, k.2)

  one_failed : (files : Files) (name : List ℕ) {a : O} {e f : E} (messages : List (List ℕ)) → (message : List ℕ) × IsMessage name message × (messages ≡ message ∷ [])
      → FoldsTo tells e messages f → IsJudged finds rejects files writes loses tells name a a e f 3
  one_failed files name {a} {e} {f} messages t told =
      record { judgement = failed t.0; is_true = t.1; status_is = refl; left = refl; told = subst (λ l. FoldsTo tells e l f) t.2 told }

  -- a file for which the task failed
  pub failure_judged : (files : Files) (name : List ℕ) {a : O} {e f : E} (failure : Failure) (messages : List (List ℕ))
      → IsRefused (rejects files name) failure → TellFailure name failure messages → FoldsTo tells e messages f
      → (status : ℕ) → status ≡ unwrap_or (failure_status failure) 3 → IsJudged finds rejects files writes loses tells name a a e f status
  failure_judged files name {a} {e} {f} failure messages r t told status s = subst (IsJudged finds rejects files writes loses tells name a a e f) (sym s) (case failure r t)
    where
      case : (x : Failure) → IsRefused (rejects files name) x → TellFailure name x messages
          → IsJudged finds rejects files writes loses tells name a a e f (unwrap_or (failure_status x) 3)
      case (failures.Rejected lines) r t =
          record { judgement = rejected (string_bytes lines); is_true = r; status_is = refl; left = refl; told = subst (λ l. FoldsTo tells e l f) t told }
      case (failures.Writing error) r t = cc
      case _ r t = one_failed files name messages t told
