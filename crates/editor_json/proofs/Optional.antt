-- Members that are there only with a text.
use Rattle.std.proofs.Common.{◌≡◌, ◌∙◌, ◌++◌, ◌<◌, ◌^◌, lit<, ℕ, true, false, List, [], ◌∷◌, Option, Some, None, codes, refl, sym, ap, append_assoc, string_bytes}
use Rattle.std.specs.Prelude.{decimal}
use Rattle.std.specs.Fmt.{digits}
use Rattle.serde_json.proofs.OnLiterals.{serde_json_on_literals}
use Rattle.serde_json.specs.Data.{Members, member, no_members}
use Rattle.serde_json.specs.Written.{compact_text, members_text}
use Rattle.text_edits.specs.declared.edit.Range.{Range}
use Rattle.editor_messages.specs.Numbers.{completion_number}
use Rattle.editor_messages.specs.declared.answer.Completion.{Completion}
use Rattle.editor_messages.specs.declared.answer.CompletionKind.{CompletionKind}
use Rattle.editor_messages.specs.declared.answer.CompletionKind.TheVariants.{Constant, Function, Keyword, Property, Value, Variable}
use Rattle.editor_messages.specs.declared.answer.Diagnostic.{Diagnostic}
use Rattle.editor_messages.specs.declared.answer.Related.{Related}
use Rattle.editor_json.specs.Integers.{MembersHaveIntegers}
use Rattle.editor_json.specs.Sent.{completion_data, count_data, diagnostic_data, optional, optional_text, put_data, range_data, related_data, related_text, sure_data, text_data, with_related}

pub optional_integers : (key text : List ℕ) (others : Members) → MembersHaveIntegers others → MembersHaveIntegers (optional key text others)
optional_integers key [] others h = h
optional_integers key (c ∷ text) others h = (tt, h)

pub kind_fits : (kind : CompletionKind) → completion_number kind < 2 ^ 64
kind_fits Function = lit< tt
kind_fits Variable = lit< tt
kind_fits Property = lit< tt
kind_fits Value = lit< tt
kind_fits Keyword = lit< tt
kind_fits Constant = lit< tt

-- more members have a comma before them
abbrev HasComma : Members → Type 0
HasComma ms = members_text true ms ≡ 44 ∷ members_text false ms

comma_before : (key text : List ℕ) (ms : Members) → HasComma ms → HasComma (optional key text ms)
comma_before key [] ms h = h
comma_before key (c ∷ text) ms h = refl

joined : (a b rest : List ℕ) → a ++ 58 ∷ (b ++ 44 ∷ rest) ≡ (a ++ 58 ∷ (b ++ 44 ∷ [])) ++ rest
joined a b rest = sym (append_assoc a (58 ∷ (b ++ 44 ∷ [])) rest ∙ ap (λ (t : List ℕ). a ++ 58 ∷ t) (append_assoc b (44 ∷ []) rest))

with_optional : (key text : List ℕ) (ms : Members) → HasComma ms → members_text false (optional key text ms) ≡ optional_text key text ++ members_text false ms
with_optional key [] ms h = refl
with_optional key (c ∷ text) ms h =
    ap (λ (t : List ℕ). compact_text (text_data key) ++ 58 ∷ (compact_text (text_data (c ∷ text)) ++ t)) h
    ∙ joined (compact_text (text_data key)) (compact_text (text_data (c ∷ text))) (members_text false ms)

abbrev pub last_members : Range → Completion → Members
last_members range c = member (codes "kind") (count_data (completion_number c.kind)) (member (codes "label") (text_data (string_bytes c.label)) (member (codes "textEdit") (put_data range (string_bytes c.label)) no_members))

last_written : (range : Range) (c : Completion)
    → codes "\"kind\":" ++ (decimal (completion_number c.kind) ++ (codes ",\"label\":" ++ (compact_text (text_data (string_bytes c.label)) ++ (codes ",\"textEdit\":" ++ (compact_text (put_data range (string_bytes c.label)) ++ codes "}")))))
    ≡ members_text false (last_members range c)
unfolding serde_json_on_literals
last_written range c = refl

-- what can be written in place of a range
pub completed : (range : Range) (c : Completion) (first second label edit : List ℕ) (kind : ℕ) → first ≡ optional_text (codes "detail") (string_bytes c.detail)
    → second ≡ optional_text (codes "documentation") (string_bytes c.documentation) → kind ≡ completion_number c.kind → label ≡ compact_text (text_data (string_bytes c.label))
    → edit ≡ compact_text (put_data range (string_bytes c.label))
    → codes "{" ++ (first ++ (second ++ (codes "\"kind\":" ++ (decimal kind ++ (codes ",\"label\":" ++ (label ++ (codes ",\"textEdit\":" ++ (edit ++ codes "}"))))))))
    ≡ compact_text (completion_data range c)
completed range c first second label edit kind f s k l e =
    let last = last_members range c in
    let others = optional (codes "documentation") (string_bytes c.documentation) last in
    let comma : HasComma last = refl in
    ap (λ (t : List ℕ). 123 ∷ (t ++ (second ++ (codes "\"kind\":" ++ (decimal kind ++ (codes ",\"label\":" ++ (label ++ (codes ",\"textEdit\":" ++ (edit ++ codes "}"))))))))) f
    ∙ ap (λ (t : List ℕ). 123 ∷ (optional_text (codes "detail") (string_bytes c.detail) ++ (t ++ (codes "\"kind\":" ++ (decimal kind ++ (codes ",\"label\":" ++ (label ++ (codes ",\"textEdit\":" ++ (edit ++ codes "}"))))))))) s
    ∙ ap (λ (n : ℕ). 123 ∷ (optional_text (codes "detail") (string_bytes c.detail) ++ (optional_text (codes "documentation") (string_bytes c.documentation) ++ (codes "\"kind\":" ++ (decimal n ++ (codes ",\"label\":" ++ (label ++ (codes ",\"textEdit\":" ++ (edit ++ codes "}"))))))))) k
    ∙ ap (λ (t : List ℕ). 123 ∷ (optional_text (codes "detail") (string_bytes c.detail) ++ (optional_text (codes "documentation") (string_bytes c.documentation) ++ (codes "\"kind\":" ++ (decimal (completion_number c.kind) ++ (codes ",\"label\":" ++ (t ++ (codes ",\"textEdit\":" ++ (edit ++ codes "}"))))))))) l
    ∙ ap (λ (t : List ℕ). 123 ∷ (optional_text (codes "detail") (string_bytes c.detail) ++ (optional_text (codes "documentation") (string_bytes c.documentation) ++ (codes "\"kind\":" ++ (decimal (completion_number c.kind) ++ (codes ",\"label\":" ++ (compact_text (text_data (string_bytes c.label)) ++ (codes ",\"textEdit\":" ++ (t ++ codes "}"))))))))) e
    ∙ ap (λ (t : List ℕ). 123 ∷ (optional_text (codes "detail") (string_bytes c.detail) ++ (optional_text (codes "documentation") (string_bytes c.documentation) ++ t))) (last_written range c)
    ∙ ap (λ (t : List ℕ). 123 ∷ (optional_text (codes "detail") (string_bytes c.detail) ++ t)) (sym (with_optional (codes "documentation") (string_bytes c.documentation) last comma))
    ∙ ap (λ (t : List ℕ). 123 ∷ t) (sym (with_optional (codes "detail") (string_bytes c.detail) others (comma_before (codes "documentation") (string_bytes c.documentation) last comma)))

-- Another range of a diagnostic, before what each has.
related_comma : (uri : List ℕ) (related : Option Related) → members_text true (with_related uri related sure_data) ≡ 44 ∷ members_text false (with_related uri related sure_data)
related_comma uri None = refl
related_comma uri (Some r) = refl

related_written : (uri : List ℕ) (related : Option Related) → related_text uri related ++ codes "\"severity\":1,\"source\":\"just\"}" ≡ members_text false (with_related uri related sure_data)
unfolding serde_json_on_literals digits
related_written uri None = refl
related_written uri (Some r) =
    let sure = codes "\"severity\":1,\"source\":\"just\"}" in
    let it = compact_text (related_data uri r) in
    ap (λ (t : List ℕ). codes "\"relatedInformation\":[" ++ t) (append_assoc it (codes "],") sure ∙ sym (append_assoc it (93 ∷ []) (44 ∷ sure)))

abbrev pub middle_members : (uri : List ℕ) → Diagnostic → Members
middle_members uri d = member (codes "message") (text_data (string_bytes d.message)) (member (codes "range") (range_data d.range) (with_related uri d.related sure_data))

middle_written : (uri : List ℕ) (d : Diagnostic)
    → codes "\"message\":" ++ (compact_text (text_data (string_bytes d.message)) ++ (codes ",\"range\":" ++ (compact_text (range_data d.range) ++ (44 ∷ members_text false (with_related uri d.related sure_data)))))
    ≡ members_text false (middle_members uri d)
unfolding serde_json_on_literals
middle_written uri d =
    ap (λ (t : List ℕ). codes "\"message\":" ++ (compact_text (text_data (string_bytes d.message)) ++ (codes ",\"range\":" ++ (compact_text (range_data d.range) ++ t)))) (sym (related_comma uri d.related))

-- what is wrong in a range
pub diagnosed : (uri : List ℕ) (d : Diagnostic) (code message range related : List ℕ) → code ≡ optional_text (codes "code") d.code.now → message ≡ compact_text (text_data (string_bytes d.message))
    → range ≡ compact_text (range_data d.range) → related ≡ related_text uri d.related
    → codes "{" ++ (code ++ (codes "\"message\":" ++ (message ++ (codes ",\"range\":" ++ (range ++ (codes "," ++ (related ++ codes "\"severity\":1,\"source\":\"just\"}")))))))
    ≡ compact_text (diagnostic_data uri d)
diagnosed uri d code message range related c m r o =
    let sure = codes "\"severity\":1,\"source\":\"just\"}" in
    let first = optional_text (codes "code") d.code.now in
    let text = compact_text (text_data (string_bytes d.message)) in
    let place = compact_text (range_data d.range) in
    let middle = middle_members uri d in
    let comma : HasComma middle = refl in
    ap (λ (t : List ℕ). 123 ∷ (t ++ (codes "\"message\":" ++ (message ++ (codes ",\"range\":" ++ (range ++ (codes "," ++ (related ++ sure)))))))) c
    ∙ ap (λ (t : List ℕ). 123 ∷ (first ++ (codes "\"message\":" ++ (t ++ (codes ",\"range\":" ++ (range ++ (codes "," ++ (related ++ sure)))))))) m
    ∙ ap (λ (t : List ℕ). 123 ∷ (first ++ (codes "\"message\":" ++ (text ++ (codes ",\"range\":" ++ (t ++ (codes "," ++ (related ++ sure)))))))) r
    ∙ ap (λ (t : List ℕ). 123 ∷ (first ++ (codes "\"message\":" ++ (text ++ (codes ",\"range\":" ++ (place ++ (44 ∷ (t ++ sure)))))))) o
    ∙ ap (λ (t : List ℕ). 123 ∷ (first ++ (codes "\"message\":" ++ (text ++ (codes ",\"range\":" ++ (place ++ (44 ∷ t))))))) (related_written uri d.related)
    ∙ ap (λ (t : List ℕ). 123 ∷ (first ++ t)) (middle_written uri d)
    ∙ ap (λ (t : List ℕ). 123 ∷ t) (sym (with_optional (codes "code") d.code.now middle comma))
