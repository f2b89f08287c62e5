-- The text of each part but the last one ends in a line feed.
use Rattle.std.proofs.Common.{ℕ, List, [], ◌∷◌}
use Rattle.std.specs.Str.{IsUtf8}
use Rattle.justfile_model.specs.Lexing.Lexed.{Lexed}
use Rattle.justfile_model.specs.Lexing.Tok.{Tok}
use Rattle.justfile_chunks.specs.Chunks.{AreParts, Parts, text_of}
use Rattle.justfile_chunks.proofs.ChunkTokens.{Later, first_part, from_start, next_part, onto}
use Rattle.justfile_chunks.proofs.TidyModes.{EndsInFeed}

abbrev pub Feeds : List (List Tok) → Type 0
Feeds [] = Unit {0}
Feeds (part ∷ []) = Unit {0}
Feeds (part ∷ q ∷ parts) = EndsInFeed (text_of part) × Feeds (q ∷ parts)

all_feed : (parts : List (List Tok)) (earlier later : List Tok) → Later earlier later → Parts earlier later parts → Feeds parts
all_feed [] earlier later h p = tt
all_feed (part ∷ []) earlier later h p = tt
all_feed (part ∷ q ∷ parts) earlier later h p =
    let s = first_part p in
    let n = next_part earlier later part (q ∷ parts) h s in
    (n.feeds, all_feed (q ∷ parts) (onto earlier part) s.rest n.later s.others)

pub feeds : (text : List ℕ) (tokens : List Tok) (parts : List (List Tok)) → IsUtf8 text → Lexed text tokens → AreParts tokens parts → Feeds parts
feeds text tokens parts u l p = all_feed parts [] tokens (from_start text tokens u l) p
