-- The tokens of a table.
use Rattle.std.proofs.Common.{◌≡◌, ℕ, ◌+◌, ◌<◌, ◌∙◌, ◌-◌, List, [], ◌∷◌, ◌++◌, map, take, sym, length, get_or, drop, refl, ap, add-one, arith}
use Rattle.std.proofs.Math.Seq.{drop-cons}
use Rattle.std.proofs.lemmas.List.{drop_all, map-append, take-append-drop}
use Rattle.std.proofs.lemmas.List.Elements.{Contains-get_or}
use Rattle.justfile_parse_expression.specs.Significant.{TableToken, significant_of}
use Rattle.justfile_model.specs.Lexing.SignificantTokens.{SignificantToken}
use Rattle.justfile_model.specs.Lexing.Tok.{tok_of}
use Rattle.justfile_parse_docs.specs.ParsedItems.{IsInTable}

pub in_table : (table : List TableToken) (n : ℕ) (d : TableToken) → n < length table → IsInTable table (get_or table n d).0
in_table table n d h = record { glued = (get_or table n d).1; among = Contains-get_or table n d h }

-- the last token is at the end
pub last_at : (table : List TableToken) (d : TableToken) → 0 < length table → (before : List SignificantToken) × (last : SignificantToken) × (map significant_of table ≡ before ++ last ∷ []) × (tok_of (get_or table (length table - 1) d).0 ≡ last.tok)
last_at table d h =
    let n = length table - 1 in
    let table_token = get_or table n d in
    let end : drop n table ≡ table_token ∷ [] = (rw add-one (drop-cons table n d (omega (arith, h)))) ∙ ap (λ (l : List TableToken). table_token ∷ l) (drop_all (n + 1) table (omega (arith, h))) in (
      map significant_of (take n table),
      significant_of table_token,
      ap (map significant_of) (sym (take-append-drop n table) ∙ ap (λ (l : List TableToken). take n table ++ l) end) ∙ map-append significant_of (take n table) (table_token ∷ []),
      refl,
    )
