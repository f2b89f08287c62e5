-- Hunks, one after the other.
use Rattle.std.proofs.Common.{◌≡◌, ℕ, ◌+◌, ◌-◌, ◌≤◌, ◌<◌, List, [], ◌∷◌, ◌++◌, length, map, take, drop, get_or, All, Any, false, Result, Ok, Err, OnOk, codes, nat_eq, is_ok, if◌then◌else◌, refl, sym, ap, subst, ◌∙◌, arith, append_assoc, append-nil}
use Rattle.std.specs.List.{HoldsAt, ends_with, flat_map}
use Rattle.std.proofs.lemmas.Grind.{flat_map-append}
use Rattle.std.proofs.lemmas.List.{drop-drop, get_or_default, get_or-drop, get_or-take, length-drop, length-map, length-take, take-append-drop}
use Rattle.std.proofs.lemmas.List.Elements.{All-append, All-cons, All-head, All-nil, All-tail}
use Rattle.line_diff.specs.declared.edits.Edit.{Edit}
use Rattle.line_diff.specs.Edits.{IsChange, IsKept, new_lines, old_lines}
use Rattle.line_diff.specs.Hunks.{AreHunks, HasChange, Hunk, ended_line, Leads, hunk_text, hunks_text}

-- lines that are kept
pub kept_old : (edits : List Edit) → All IsKept edits → old_lines edits ≡ map (λ e. e.line.now) edits
kept_old [] h = refl
kept_old (e ∷ edits) h = rw (All-head IsKept e edits h) (ap (λ l. e.line.now ∷ l) (kept_old edits (All-tail IsKept e edits h)))

pub kept_new : (edits : List Edit) → All IsKept edits → new_lines edits ≡ map (λ e. e.line.now) edits
kept_new [] h = refl
kept_new (e ∷ edits) h = rw (All-head IsKept e edits h) (ap (λ l. e.line.now ∷ l) (kept_new edits (All-tail IsKept e edits h)))

-- So much of the edits is in the text, and hunks for the rest complete it.
pub record Reached (edits : List Edit) (from old_before new_before : ℕ) (text : List ℕ) : Type 0 where
  pub hunks : List Hunk
  pub leads : (more : List Hunk) → Leads old_before new_before more (old_lines (drop from edits)) (new_lines (drop from edits))
      → Leads 0 0 (hunks ++ more) (old_lines edits) (new_lines edits)
  pub changed : All HasChange hunks
  pub is : text ≡ hunks_text hunks
  pub old_small : old_before ≤ from
  pub new_small : new_before ≤ from

-- the edits from one place on are those up to another place, a hunk, and the rest
cut : (edits : List Edit) (from start finish : ℕ) → from ≤ start → start ≤ finish
    → drop from edits ≡ take (start - from) (drop from edits) ++ (take (finish - start) (drop start edits) ++ drop finish edits)
cut edits from start finish h k =
    sym (take-append-drop (start - from) (drop from edits))
    ∙ ap (λ (l : List Edit). take (start - from) (drop from edits) ++ l)
    (drop-drop (start - from) from edits ∙ ap (λ (n : ℕ). drop n edits) (omega arith)
    ∙ sym (take-append-drop (finish - start) (drop start edits))
    ∙ ap (λ (l : List Edit). take (finish - start) (drop start edits) ++ l)
    (drop-drop (finish - start) start edits ∙ ap (λ (n : ℕ). drop n edits) (omega arith)))

-- lines of three parts
parts : (part : Edit → List (List ℕ)) (all kept hunk rest : List Edit) (same : List (List ℕ)) → all ≡ kept ++ (hunk ++ rest) → flat_map part kept ≡ same
    → flat_map part all ≡ (same ++ flat_map part hunk) ++ flat_map part rest
parts part all kept hunk rest same e f = simp (e, f, flat_map-append, append_assoc)

-- a change between the two ends of a hunk
pub within_hunk : (edits : List Edit) (start at finish : ℕ) → start ≤ at → at < finish → finish ≤ length edits → HoldsAt IsChange edits at
    → Any IsChange (take (finish - start) (drop start edits))
within_hunk [] start at finish h k l change = absurd (omega arith)
within_hunk (e ∷ es) start at finish h k l change =
    let hunk = take (finish - start) (drop start (e ∷ es)) in
    let short : at - start < length hunk = omega (arith, length-take (finish - start) (drop start (e ∷ es)), length-drop start (e ∷ es)) in
    let same : get_or hunk (at - start) e ≡ get_or (e ∷ es) at e =
    get_or-take (finish - start) (drop start (e ∷ es)) (at - start) e (omega arith)
    ∙ get_or-drop start (e ∷ es) (at - start) e ∙ ap (λ (i : ℕ). get_or (e ∷ es) i e) (omega arith) in
    (at - start, get_or hunk (at - start) e, short, get_or_default hunk (at - start) (get_or hunk (at - start) e) e short, subst IsChange (sym same) (change e))

-- what is kept before a change is kept before the lines of context too
pub kept_before : (edits : List Edit) (from start at : ℕ) → start ≤ at → All IsKept (take (at - from) (drop from edits)) → All IsKept (take (start - from) (drop from edits))
kept_before edits from start at h kept k d l =
    let rest = drop from edits in
    let nearer : k < start - from = omega (arith, length-take (start - from) rest) in
    let same : get_or (take (at - from) rest) k d ≡ get_or (take (start - from) rest) k d =
    get_or-take (at - from) rest k d (omega arith) ∙ sym (get_or-take (start - from) rest k d nearer) in
    subst IsKept same (kept k d (omega (arith, length-take (at - from) rest, length-take (start - from) rest)))

-- one hunk more
module _ (edits : List Edit) (from old_before new_before : ℕ) (text : List ℕ) (start finish old_count new_count : ℕ) (new_text : List ℕ)
    (reached : Reached edits from old_before new_before text) (kept : All IsKept (take (start - from) (drop from edits)))
    (change : Any IsChange (take (finish - start) (drop start edits))) (after : from ≤ start) (some : start < finish) (within : finish ≤ length edits) where
  abbrev hunk : Hunk
  hunk = record { old_before = old_before + (start - from); new_before = new_before + (start - from); edits = take (finish - start) (drop start edits) }

  lines_kept : length (map (λ (e : Edit). e.line.now) (take (start - from) (drop from edits))) ≡ start - from
  lines_kept = length-map (take (start - from) (drop from edits)) (λ (e : Edit). e.line.now) ∙ omega (arith, length-take (start - from) (drop from edits), length-drop from edits)

  pub reached_more : new_text ≡ text ++ hunk_text (record {
    old_before = old_before + (start - from);
    new_before = new_before + (start - from);
    edits = take (finish - start) (drop start edits);
  })
      → old_count ≡ length (old_lines (take (finish - start) (drop start edits))) → new_count ≡ length (new_lines (take (finish - start) (drop start edits)))
      → old_count ≤ length (take (finish - start) (drop start edits)) → new_count ≤ length (take (finish - start) (drop start edits))
      → Reached edits finish (old_before + (start - from) + old_count) (new_before + (start - from) + new_count) new_text
  reached_more is o n om nm = record {
    hunks = reached.hunks ++ hunk ∷ [];
    leads = λ more led.
        subst (λ (hs : List Hunk). Leads 0 0 hs (old_lines edits) (new_lines edits)) (sym (append_assoc reached.hunks (hunk ∷ []) more))
        (reached.leads (hunk ∷ more) (
          map (λ (e : Edit). e.line.now) (take (start - from) (drop from edits)),
          old_lines (drop finish edits),
          new_lines (drop finish edits),
          parts _ (drop from edits) _ _ (drop finish edits) _ (cut edits from start finish after (omega arith)) (kept_old _ kept),
          parts _ (drop from edits) _ _ (drop finish edits) _ (cut edits from start finish after (omega arith)) (kept_new _ kept),
          ap (λ (k : ℕ). old_before + k) (sym lines_kept),
          ap (λ (k : ℕ). new_before + k) (sym lines_kept),
          rw (← o, ← n) led,
        ));
    changed = All-append HasChange reached.hunks (hunk ∷ []) reached.changed (All-cons HasChange hunk [] change (All-nil HasChange));
    is = is ∙ ap (λ (l : List ℕ). l ++ hunk_text hunk) reached.is
        ∙ ap (λ (l : List ℕ). hunks_text reached.hunks ++ l) (sym (append-nil (hunk_text hunk))) ∙ sym (flat_map-append hunk_text reached.hunks (hunk ∷ []));
    old_small = omega (arith, reached.old_small, length-take (finish - start) (drop start edits), length-drop start edits);
    new_small = omega (arith, reached.new_small, length-take (finish - start) (drop start edits), length-drop start edits);
  }

-- nothing changes in the rest
pub ends : (edits : List Edit) (from old_before new_before : ℕ) (text : List ℕ) → Reached edits from old_before new_before text → All IsKept (drop from edits)
    → AreHunks edits text
ends edits from o n text r kept =
    search (subst (λ hs. Leads 0 0 hs (old_lines edits) (new_lines edits)) (append-nil r.hunks) (r.leads [] (kept_old _ kept ∙ sym (kept_new _ kept))), r)

-- ---- texts

-- what the last push makes, if it succeeds
pub pushed : {A E : Type 0} (r : Result A E) (new more whole old : List ℕ) → new ≡ (if is_ok r then more else old) → more ≡ whole → OnOk r (new ≡ whole)
pushed (Ok v) new more whole old h e = h ∙ e
pushed (Err v) new more whole old h e = tt

pub unended : (line : List ℕ) → ends_with nat_eq line (codes "\n") ≡ false → line ++ codes "\n\\ No newline at end of file\n" ≡ ended_line line
unended line e = rw e refl

pub edit_written : (old mid now signed sign_text line tail ended : List ℕ) → now ≡ mid ++ line → mid ≡ old ++ signed → signed ≡ sign_text → line ++ tail ≡ ended
    → now ++ tail ≡ old ++ (sign_text ++ ended)
edit_written old mid now signed sign_text line tail ended e f g h =
    ap (λ (l : List ℕ). l ++ tail) (e ∙ ap (λ (l : List ℕ). l ++ line) (f ∙ ap (λ (l : List ℕ). old ++ l) g))
    ∙ append_assoc (old ++ sign_text) line tail
    ∙ append_assoc old sign_text (line ++ tail)
    ∙ ap (λ (l : List ℕ). old ++ (sign_text ++ l)) h
