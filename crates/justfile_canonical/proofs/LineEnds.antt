-- The tree of a later part begins with the line end before it.
use Rattle.std.proofs.Common.{◌≡◌, ◌∙◌, ℕ, Bool, true, false, List, [], ◌∷◌, ◌++◌, sym, ap, subst}
use Rattle.std.specs.Prelude.{reverse}
use Rattle.std.specs.Str.{IsUtf8}
use Rattle.justfile_model.specs.Grammars.Features.{Noted}
use Rattle.justfile_model.specs.Grammars.Files.{FileDerives}
use Rattle.justfile_model.specs.Lexing.Lexed.{Lexed}
use Rattle.justfile_model.specs.Lexing.SignificantTokens.{significant_tokens}
use Rattle.justfile_model.specs.Lexing.Tok.{Tok}
use Rattle.justfile_model.specs.Trees.Tree.{Tree, shape_of}
use Rattle.justfile_round_trip.specs.RoundTrip.{TextDerives}
use Rattle.justfile_chunks.specs.Chunks.{IsCut}
use Rattle.justfile_chunks.specs.Parts.{IsRead}
use Rattle.justfile_chunks.proofs.ReadTexts.{feed_before, newline_first}
use Rattle.justfile_canonical.specs.Parts.{HasLineEnd, IsPartText}
use Rattle.justfile_canonical.specs.Root.{conditions}

-- a text that begins with a line feed, and its tokens
module _ (rest : List ℕ) (tree : Tree) (features : List (Noted Tok)) where
  after_feed : (feed : Tok) (us more : List Tok) → IsUtf8 (10 ∷ rest) → Lexed (10 ∷ rest) (feed ∷ us) → FileDerives conditions (significant_tokens (feed ∷ more)) tree features
      → HasLineEnd false (shape_of tree)
  after_feed feed us more u l d =
      let f = feed_before rest feed us u l in
      let n = newline_first conditions feed more f.kind d in
      (shape_of n.0, ap shape_of n.1)

  of_tokens : (tokens : List Tok) → IsUtf8 (10 ∷ rest) → Lexed (10 ∷ rest) tokens → FileDerives conditions (significant_tokens tokens) tree features
      → HasLineEnd false (shape_of tree)
  of_tokens [] u l d = absurd (cc (l.are))
  of_tokens (feed ∷ us) u l d = after_feed feed us us u l d

  of_part : (tokens : List Tok) (at end : Tok) → IsUtf8 (10 ∷ rest) → Lexed (10 ∷ rest) (tokens ++ (at ∷ end ∷ [])) → IsCut (reverse tokens) (at ∷ end ∷ [])
      → FileDerives conditions (significant_tokens (tokens ++ (end ∷ []))) tree features → HasLineEnd false (shape_of tree)
  of_part [] at end u l cut d = absurd cut
  of_part (feed ∷ us) at end u l cut d = after_feed feed (us ++ (at ∷ end ∷ [])) (us ++ (end ∷ [])) u l d

pub part_line_end : (is_first : Bool) (part text : List ℕ) (next : ℕ) (tree : Tree) (features : List (Noted Tok)) → IsPartText is_first part → part ≡ text ++ (next ∷ [])
    → IsRead conditions text next tree features → HasLineEnd is_first (shape_of tree)
part_line_end true part text next tree features begins is read = tt
part_line_end false part text next tree features begins is read =
    let e : text ++ (next ∷ []) ≡ 10 ∷ (begins.first ∷ begins.others) = sym is ∙ begins.are in
    of_part (begins.first ∷ begins.others) tree features read.tokens read.at read.end (subst IsUtf8 e read.utf8)
    (subst (λ x. Lexed x (read.tokens ++ (read.at ∷ read.end ∷ []))) e read.lexed) read.cut read.derives

pub rest_line_end : (rest : List ℕ) (tree : Tree) (features : List (Noted Tok)) → IsPartText false rest → TextDerives conditions rest tree features
    → HasLineEnd false (shape_of tree)
rest_line_end rest tree features begins d =
    of_tokens (begins.first ∷ begins.others) tree features d.tokens (subst IsUtf8 begins.are d.utf8) (subst (λ x. Lexed x d.tokens) begins.are d.lexed) d.file
