-- What is read of the table of a part.
use Rattle.std.proofs.Common.{◌≡◌, ◌∙◌, ℕ, ◌+◌, ◌-◌, List, [], ◌∷◌, ◌++◌, length, map, All, Contains, Result, Ok, Err, refl, sym, ap, subst, arith}
use Rattle.std.specs.Prelude.{IfOk, IfSome}
use Rattle.std.specs.List.{remove}
use Rattle.std.specs.Result.{result_ok}
use Rattle.std.specs.Str.{IsUtf8}
use Rattle.std.proofs.lemmas.List.Concat.{flat_map-append}
use Rattle.std.proofs.lemmas.List.Elements.{All-contains, All-weaker}
use Rattle.justfile_token.specs.declared.fault.Fault.{Fault}
use Rattle.justfile_token.specs.declared.source.Source.{Source}
use Rattle.justfile_token.specs.declared.token.Token.{Token}
use Rattle.justfile_numbers.specs.declared.numerator.Numerator.{Numerator}
use Rattle.justfile_model.specs.Grammars.Conditions.{Conditions}
use Rattle.justfile_model.specs.Lexing.Lexed.{Lexed}
use Rattle.justfile_model.specs.Lexing.LexResult.{IsFrom}
use Rattle.justfile_model.specs.Lexing.SignificantTokens.{TableToken, significant_of}
use Rattle.justfile_model.specs.Lexing.Tok.{tok_of}
use Rattle.justfile_model.specs.Readers.TreeReader as model
use Rattle.justfile_model.specs.Trees.Tree.{lexeme}
use Rattle.justfile_ast.specs.Ast.{features_of, tree_of}
use Rattle.justfile_ast.specs.declared.ast.Ast.{Ast}
use Rattle.justfile_chunks.specs.Chunks.{text_of}
use Rattle.justfile_chunks.proofs.ChunkTokens.{whole_is}
use Rattle.justfile_lex.specs.SignificantTable.{IsTableOf}
use Rattle.justfile_lex.proofs.TableLemmas.{table_tokens_among}
use Rattle.justfile_parse_file.specs.Parsing.{IsFilledItem, IsInTable}
use Rattle.justfile_parse_file.specs.MethodResults.{IsReadFile}
use Rattle.justfile_parse_file.proofs.Parsed.{given_weaker, in_tokens, read_derives}
use Rattle.justfile_chunks.specs.PartTables.{IsCutOff}
use Rattle.justfile_parse.specs.Parts.{IsPart}
use Rattle.justfile_parse.proofs.Tables.{each_but_one}

-- a list of one element
record Single (xs : List ℕ) : Type 0 where
  element : ℕ
  is : xs ≡ element ∷ []

single : (xs : List ℕ) → length xs ≡ 1 → Single xs
single [] e = absurd (omega (arith, e))
single (x ∷ []) e = record { element = x; is = refl }
single (x ∷ y ∷ xs) e = absurd (omega (arith, e))

module _ (conditions : Conditions) (path src : List ℕ) (utf8 : IsUtf8 src) (table after : List TableToken) (t : IsTableOf path src table)
    (off : IsCutOff (map tok_of t.tokens) (map significant_of after)) (less : after ≡ remove table (length table - 2)) (source : Source) (old new : Numerator) where
  byte : Single off.next.lexeme
  byte = single off.next.lexeme off.one_byte

  src_is : src ≡ text_of off.part ++ (byte.element ∷ [])
  src_is =
      sym (whole_is src (map tok_of t.tokens) utf8 t.lexed) ∙ ap text_of off.tokens_are ∙ flat_map-append lexeme off.part (off.next ∷ off.end ∷ [])
      ∙ (λ i. text_of off.part ++ (byte.is i ++ (off.is_empty i ++ [])))

  tokens_from : (token : Token) → IsInTable after token → IsFrom path src token
  tokens_from token among =
      All-contains (IsFrom path src) t.tokens token t.sources
      (in_tokens t.tokens after (subst (λ es. All (λ table_token. Contains t.tokens table_token.0) es) (sym less)
      (each_but_one (λ (table_token : TableToken). Contains t.tokens table_token.0) table (length table - 2) (table_tokens_among t.tokens table t.significant))) token among)

  part_of : (ast : Ast) → IsReadFile conditions after source old new ast → IsPart conditions path src source.file_depth source.import_offsets.now ast
  part_of ast file = record {
    text = text_of off.part;
    next = byte.element;
    src_is = src_is;
    read = record {
      utf8 = subst IsUtf8 src_is utf8;
      tokens = off.part;
      at = off.next;
      end = off.end;
      lexed = subst (λ x. Lexed x (off.part ++ (off.next ∷ off.end ∷ []))) src_is (subst (Lexed src) off.tokens_are t.lexed);
      text_is = refl;
      cut = off.cut;
      derives =
          read_derives conditions _ file.read.written (tree_of ast) (features_of ast) (sym (ap (model.tree_of_tokens conditions) off.significant_are) ∙ file.read.read) file.read.ordered_is;
    };
    given =
        All-weaker (IsFilledItem conditions.expander (IsInTable after) source.file_depth source.import_offsets.now)
        (IsFilledItem conditions.expander (IsFrom path src) source.file_depth source.import_offsets.now)
        (given_weaker conditions.expander (IsInTable after) (IsFrom path src) tokens_from source.file_depth source.import_offsets.now) ast.items.items file.read.given.given;
  }

  pub part_if : (result : Result Ast Fault) → IfOk result (IsReadFile conditions after source old new)
      → IfSome (result_ok result) (IsPart conditions path src source.file_depth source.import_offsets.now)
  part_if (Ok ast) h = part_of ast h
  part_if (Err fault) h = tt
