-- The integers of what is sent.
use Rattle.std.proofs.Common.{◌≡◌, ℕ, List, Result, Ok, Err, IfOk, codes, string_bytes, subst}
use Rattle.text_edits.specs.declared.edit.Range.{Range}
use Rattle.editor_messages.specs.declared.answer.Completion.{Completion}
use Rattle.editor_messages.specs.declared.answer.Completions.{Completions}
use Rattle.editor_messages.specs.declared.answer.Diagnostic.{Diagnostic}
use Rattle.editor_json.specs.Integers.{HasIntegers, MembersHaveIntegers}
use Rattle.editor_json.specs.Sent.{completion_data, completions_data, diagnostic_data, list_data, optional, put_data, range_data, sure_data, with_related}
use Rattle.editor_json.proofs.Optional.{kind_fits, last_members, middle_members, optional_integers}

pub ok_then : {A E : Type 0} {P Q : A → Type 0} (r : Result A E) → IfOk r P → ((a : A) → P a → Q a) → IfOk r Q
ok_then (Ok a) h f = f a h
ok_then (Err e) h f = tt

pub ok_any : {A E X : Type 0} (r : Result A E) → X → IfOk r (λ _. X)
ok_any (Ok a) h = h
ok_any (Err e) h = tt

pub diagnostic_integers : (uri : List ℕ) (d : Diagnostic) → HasIntegers (range_data d.range) → MembersHaveIntegers (with_related uri d.related sure_data) → HasIntegers (diagnostic_data uri d)
diagnostic_integers uri d h k = optional_integers (codes "code") d.code.now (middle_members uri d) (tt, (h, k))

pub completion_integers : (range : Range) (c : Completion) (new : List ℕ) → HasIntegers (put_data range new) → HasIntegers (completion_data range c)
completion_integers range c new h =
    let last = last_members range c in
    optional_integers (codes "detail") (string_bytes c.detail) (optional (codes "documentation") (string_bytes c.documentation) last)
    (optional_integers (codes "documentation") (string_bytes c.documentation) last (kind_fits c.kind, (tt, (h, tt))))

pub completions_integers : (cs : Completions) (found : List Completion) → found ≡ cs.found.items → HasIntegers (list_data (completion_data cs.range) found) → HasIntegers (completions_data cs)
completions_integers cs found e h = (tt, (subst (λ xs. HasIntegers (list_data (completion_data cs.range) xs)) e h, tt))
