-- The texts around the parts of what is sent.
use Rattle.std.proofs.Common.{◌≡◌, ◌∙◌, ◌++◌, ℕ, List, [], ◌∷◌, codes, ap, sym, append_assoc}
use Rattle.serde_json.proofs.OnLiterals.{serde_json_on_literals}
use Rattle.serde_json.specs.Data.{Data, member, no_members, object, string}
use Rattle.serde_json.specs.Written.{compact_text}

-- two values in their places
with_both : (before between : List ℕ) (x y : Data) (a b : List ℕ) → a ≡ compact_text x → b ≡ compact_text y
    → before ++ (a ++ (between ++ (b ++ codes "}"))) ≡ before ++ (compact_text x ++ (between ++ (compact_text y ++ codes "}")))
with_both before between x y a b e f =
    ap (λ (t : List ℕ). before ++ (t ++ (between ++ (b ++ codes "}")))) e
    ∙ ap (λ (t : List ℕ). before ++ (compact_text x ++ (between ++ (t ++ codes "}")))) f

pub replied : (id result : Data) (a b : List ℕ) → a ≡ compact_text id → b ≡ compact_text result
    → codes "{\"id\":" ++ (a ++ (codes ",\"jsonrpc\":\"2.0\",\"result\":" ++ (b ++ codes "}")))
    ≡ compact_text (object (member (codes "id") id (member (codes "jsonrpc") (string (codes "2.0")) (member (codes "result") result no_members))))
unfolding serde_json_on_literals
replied id result a b e f = with_both (codes "{\"id\":") (codes ",\"jsonrpc\":\"2.0\",\"result\":") id result a b e f

-- a range by its ends
pub ranged : (end start : Data) (a b : List ℕ) → a ≡ compact_text end → b ≡ compact_text start
    → codes "{\"end\":" ++ (a ++ (codes ",\"start\":" ++ (b ++ codes "}"))) ≡ compact_text (object (member (codes "end") end (member (codes "start") start no_members)))
unfolding serde_json_on_literals
ranged end start a b e f = with_both (codes "{\"end\":") (codes ",\"start\":") end start a b e f

-- a text in place of a range
pub put : (new range : Data) (a b : List ℕ) → a ≡ compact_text new → b ≡ compact_text range
    → codes "{\"newText\":" ++ (a ++ (codes ",\"range\":" ++ (b ++ codes "}"))) ≡ compact_text (object (member (codes "newText") new (member (codes "range") range no_members)))
unfolding serde_json_on_literals
put new range a b e f = with_both (codes "{\"newText\":") (codes ",\"range\":") new range a b e f

closes : (a b : List ℕ) → (a ++ 58 ∷ (b ++ 125 ∷ [])) ++ 125 ∷ [] ≡ a ++ 58 ∷ (b ++ 125 ∷ 125 ∷ [])
closes a b = append_assoc a (58 ∷ (b ++ 125 ∷ [])) (125 ∷ []) ∙ ap (λ (t : List ℕ). a ++ 58 ∷ t) (append_assoc b (125 ∷ []) (125 ∷ []))

pub changed : (uri : List ℕ) (edits : Data) (a b : List ℕ) → a ≡ compact_text (string uri) → b ≡ compact_text edits
    → codes "{\"changes\":{" ++ (a ++ (codes ":" ++ (b ++ codes "}}"))) ≡ compact_text (object (member (codes "changes") (object (member uri edits no_members)) no_members))
unfolding serde_json_on_literals
changed uri edits a b e f =
    ap (λ (t : List ℕ). codes "{\"changes\":{" ++ (t ++ (codes ":" ++ (b ++ codes "}}")))) e
    ∙ ap (λ (t : List ℕ). codes "{\"changes\":{" ++ (compact_text (string uri) ++ (codes ":" ++ (t ++ codes "}}")))) f
    ∙ ap (λ (t : List ℕ). codes "{\"changes\":{" ++ t) (sym (closes (compact_text (string uri)) (compact_text edits)))
