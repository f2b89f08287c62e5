-- A file has as many features of constructs as constructs.
use Rattle.std.proofs.Common.{ℕ, List, Option}
use Rattle.justfile_model.specs.Grammars.Features.{ConstructFeatures}
use Rattle.justfile_model.specs.Grammars.Grammar as g
use Rattle.justfile_model.specs.Grammars.Grammar.{File, ItemRest, Items, LineEnd, TokenProjection}
use Rattle.justfile_model.specs.Lexing.SignificantTokens.{SignificantToken}
use Rattle.justfile_model.specs.Trees.Tree.{WrittenItem}
use Rattle.justfile_chunks.proofs.ItemsAppend.{AreFeaturesOf}

module _ {A B C S : Type 0} (projection : TokenProjection A B C S) (MayEnter : ℕ → Option SignificantToken → Type 0) where
  mutual
    pub items_features : {items : List (WrittenItem A B C S)} {fs : List (ConstructFeatures B)} {ts : List SignificantToken}
        → Items projection MayEnter items fs ts → AreFeaturesOf items fs
    items_features (g.end kind) = tt
    items_features (g.blank kind more) = items_features more
    items_features (g.comment kind more) = rest_features more
    items_features (g.on_line attributes content more) = rest_features more
    items_features (g.block attributes content more) = items_features more

    rest_features : {items : List (WrittenItem A B C S)} {fs : List (ConstructFeatures B)} {ts : List SignificantToken}
        → ItemRest projection MayEnter items fs ts → AreFeaturesOf items fs
    rest_features (g.trailing kind more) = end_features more
    rest_features (g.bare more) = end_features more

    end_features : {items : List (WrittenItem A B C S)} {fs : List (ConstructFeatures B)} {ts : List SignificantToken}
        → LineEnd projection MayEnter items fs ts → AreFeaturesOf items fs
    end_features (g.line_end kind more) = items_features more
    end_features (g.file_end kind) = tt

  pub file_features : {items : List (WrittenItem A B C S)} {fs : List (ConstructFeatures B)} {ts : List SignificantToken}
      → File projection MayEnter items fs ts → AreFeaturesOf items fs
  file_features (g.with_byte_order_mark kind more) = items_features more
  file_features (g.without_byte_order_mark more) = items_features more
