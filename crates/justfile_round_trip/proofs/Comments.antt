-- A comment from a text, without trailing whitespace, is a comment before any printed line end.
use Rattle.std.proofs.Common.{◌≡◌, ℕ, ◌≤◌, true, eqb, List, ◌++◌, length, get_or, drop, refl, sym, ap, ◌∙◌, arith, append_assoc, length-append}
use Rattle.std.specs.Prelude.{chars}
use Rattle.std.specs.Str.{IsUtf8, trim_end, drop_trailing_whitespace}
use Rattle.std.proofs.Math.Utf8.{encode, encodes, scalars}
use Rattle.std.proofs.lemmas.Str.{chars-encodes, encodes-chars, encodes-append, scalars-chars, chars_past_char, encode_ascii}
use Rattle.justfile_model.specs.declared.raw_text.RawText.TheVariants as raw_texts
use Rattle.justfile_model.specs.Lexing.LiteralText.{raw_len}
use Rattle.justfile_model.specs.Printed.Printing.{ends_in_return}
use Rattle.justfile_model.proofs.Lexing.CommentEnds.{ends_before_feed, no_feeds, no_return}
use Rattle.justfile_model.proofs.Printed.TrimLaws.{dropped_once, kept, kept_scalars}
use Rattle.justfile_round_trip.proofs.Good.{GoodComment}
use Rattle.justfile_round_trip.proofs.LiteralTexts.Literals.{front_byte}
use Rattle.justfile_round_trip.proofs.Values.TokenFacts.{LexedComment}

module _ (l : List ℕ) (u : IsUtf8 l) (c : LexedComment l) where
  ds : List ℕ
  ds = drop_trailing_whitespace (chars l)

  ds_scalars : scalars ds ≡ true
  unfolding ds
  ds_scalars = kept_scalars (chars l) (scalars-chars l u)

  trimmed_is : trim_end l ≡ encodes ds
  unfolding ds trim_end
  trimmed_is = refl

  trimmed_again : trim_end (trim_end l) ≡ trim_end l
  unfolding ds trim_end
  trimmed_again = ap (λ x. encodes (drop_trailing_whitespace x)) (chars-encodes ds ds_scalars) ∙ ap encodes (dropped_once (chars l))

  split : (ws : List ℕ) × (l ≡ trim_end l ++ ws)
  unfolding ds trim_end
  split = let k = kept (chars l) in (encodes k.dropped, sym (encodes-chars l u) ∙ ap encodes k.is ∙ encodes-append ds k.dropped)

  -- it begins with the number sign still
  first_byte : get_or (trim_end l) 0 0 ≡ 35
  unfolding trim_end
  first_byte =
      let is : l ≡ encode 35 ++ drop 1 l = front_byte l 35 (omega arith) (hash l c.was.first) ∙ ap (λ x. x ++ drop 1 l) (sym (encode_ascii 35 (omega arith))) in
      ap (λ x. get_or (encodes (drop_trailing_whitespace x)) 0 0) (chars_past_char l (drop 1 l) 35 u is)
      ∙ ap (λ x. get_or (x ++ encodes (drop_trailing_whitespace (chars (drop 1 l)))) 0 0) (encode_ascii 35 (omega arith))
    where
      hash : (bs : List ℕ) → get_or bs 0 0 ≡ 35 → eqb (get_or bs 0 0) 35 ≡ true
      hash bs e = ap (λ x. eqb x 35) e

  pub good_comment : GoodComment (trim_end l)
  unfolding ds
  good_comment =
      let s = split in
      let long : length (trim_end l) ≤ raw_len raw_texts.Comment (trim_end l ++ (s.0 ++ c.following)) = omega (arith, ap length s.1, length-append (trim_end l) s.0, sym (ap (raw_len raw_texts.Comment) (ap (λ x. x ++ c.following) s.1 ∙ append_assoc (trim_end l) s.0 c.following)) ∙ c.was.ends) in
      record {
        comment = record { first = first_byte; ends = ends_before_feed (trim_end l) (no_feeds (trim_end l) (s.0 ++ c.following) long) (ap ends_in_return trimmed_is ∙ no_return ds (dropped_once (chars l))) };
        trimmed = trimmed_again;
        utf8 = (ds, (ds_scalars, sym trimmed_is));
      }
