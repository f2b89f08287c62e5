-- A file that is parsed derives, and obeys the conditions.
use Rattle.std.proofs.Common.{◌≡◌, List, Some, Ok}
use Rattle.justfile_model.specs.Grammars.Conditions.{Conditions}
use Rattle.justfile_model.specs.Grammars.Docs.{Nothing, documented}
use Rattle.justfile_model.specs.Grammars.Expressions.{Tokens, BelowLimit}
use Rattle.justfile_model.specs.Grammars.Features.{ConstructFeatures, Noted}
use Rattle.justfile_model.specs.Grammars.Files.{FileDerives, Obeys, all_features, all_literals, to_tokens, ordered, sets_doc}
use Rattle.justfile_model.specs.Grammars.Grammar.{File}
use Rattle.justfile_model.specs.Meanings.ReadAttribute.{token_view}
use Rattle.justfile_model.specs.Lexing.Tok.{Tok}
use Rattle.justfile_model.specs.Trees.Tree.{Tree, WrittenTree}
use Rattle.justfile_model.specs.Readers.TreeReader.{tree_of_tokens}
use Rattle.justfile_model.proofs.Derivations.CookedTexts.{texts_of}
use Rattle.justfile_model.proofs.Sound.UnbrokenItems.{all_ordered, all_unbroken, meanings}
use Rattle.justfile_model.proofs.Sound.FileSound.{file_at}

module _ (conditions : Conditions) (tokens : Tokens) where
  -- what is read derives, and obeys
  pub read_derives : (written : WrittenTree) (features : List (Noted Tok)) → tree_of_tokens conditions tokens ≡ Ok (written, features)
      → (fs : List (ConstructFeatures Tok)) × File to_tokens (BelowLimit conditions.limit) written fs tokens × Obeys conditions written
      × (features ≡ all_features (token_view conditions) written fs)
  read_derives written features is =
      let found = file_at conditions tokens (written, features) is in
      let texts = texts_of conditions.expander (all_literals written) found.cooks in (
        found.by_construct,
        found.derives,
        record { cooked = texts.0; cooks = texts.1; unbroken = all_unbroken conditions.current (token_view conditions) written found.obeys },
        found.features_are,
      )

  pub sound : (written : WrittenTree) (features : List (Noted Tok)) → tree_of_tokens conditions tokens ≡ Ok (written, features)
      → (tree : Tree) × (ordered (token_view conditions) written ≡ Some tree) × FileDerives conditions tokens tree features
  sound written features is =
      let found = read_derives written features is in
      let obeyed = (file_at conditions tokens (written, features) is).obeys in
      let meaning = all_ordered conditions.current (token_view conditions) written obeyed in (
        documented sets_doc Nothing (meanings conditions.current (token_view conditions) written obeyed),
        meaning,
        record { written = written; by_construct = found.0; derives = found.1; features_are = found.3; obeys = found.2; ordered_is = meaning },
      )
