-- In any text the parts of items other than headers are good.
use Rattle.std.proofs.Common.{ℕ, false, List, ◌∷◌, None, refl}
use Rattle.justfile_round_trip.proofs.Ahead.{Ahead, Passed, lexed_name, past_token, quiet_ahead, value_good}
use Rattle.justfile_vocabulary.specs.declared.token_kind.TokenKind.TheVariants as kinds
use Rattle.justfile_model.specs.Grammars.Expressions.{Tokens, BelowLimit, Sequence}
use Rattle.justfile_model.specs.Grammars.ItemParts as g
use Rattle.justfile_model.specs.Grammars.ItemParts.{FilePath, Names, ValueOf}
use Rattle.justfile_model.specs.Grammars.Settings.{SettingForm}
use Rattle.justfile_model.specs.Trees.Tree.{lexeme, nothing}
use Rattle.justfile_round_trip.proofs.RecipeBodies.BodyGood.{IsOutside, Walked, outside_after}
use Rattle.justfile_round_trip.proofs.Canon.{Shown, Values}
use Rattle.justfile_round_trip.proofs.Items.CanonParts.{ShapeQuoted, ShapeSetting}
use Rattle.justfile_round_trip.proofs.Good.{GoodNames}
use Rattle.justfile_round_trip.proofs.Items.GoodContents.{GoodFilePath, GoodSequence, GoodSettingValue}
use Rattle.justfile_round_trip.proofs.Values.TokenFacts.{outside}
use Rattle.justfile_round_trip.proofs.Values.WrittenValues.{known_as, good_sequence, sequence_at, within}

pub file_path_good : {q : ShapeQuoted} {ts rest : Tokens} → FilePath lexeme q ts rest → Ahead outside false ts → Passed (GoodFilePath q) rest
file_path_good (g.plain {token = t} {rest = rest} kind) a = record { good = known_as t kinds.StringToken kind a.facts.0; following = past_token t rest kinds.StringToken kind refl a }
file_path_good (g.expanded {mark = m} {token = t} {rest = rest} is kind) a =
    let marked = past_token m (t ∷ rest) kinds.Identifier is.is_name refl a in
    record { good = known_as t kinds.StringToken kind marked.facts.0; following = past_token t rest kinds.StringToken kind refl marked }

-- inside parentheses, and past the closing one
pub names_good : {names : List (List ℕ)} {ts rest : Tokens} → Names lexeme names ts rest → Ahead (within outside None) false ts → Passed (GoodNames names) rest
names_good (g.none {closer = t} {rest = rest} kind) a = record { good = tt; following = past_token t rest kinds.ParenR kind refl a }
names_good (g.last {name = t} {closer = u} {rest = rest} kind kind2) a = record {
  good = (lexed_name t kind a.facts.0, tt);
  following = past_token u rest kinds.ParenR kind2 refl (past_token t (u ∷ rest) kinds.Identifier kind refl a);
}
names_good (g.more {name = t} {comma = u} {tokens = ts} kind kind2 r) a =
    let x = names_good r (past_token u ts kinds.Comma kind2 refl (past_token t (u ∷ ts) kinds.Identifier kind refl a)) in
    record { good = (lexed_name t kind a.facts.0, x.good); following = x.following }

module _ (limit : ℕ) where
  -- inside brackets, and past the closing one
  pub sequence_good : {es : Values} {fs : Shown} {ts rest : Tokens} → Sequence lexeme nothing (BelowLimit limit) kinds.BracketR 0 es fs ts rest
      → Ahead (within outside None) false ts → Passed (GoodSequence limit es) rest
  sequence_good xs a =
      let v = sequence_at (BelowLimit limit) (Walked IsOutside) (quiet_ahead outside_after) xs outside (within outside None) (λ l. refl) refl a in
      record { good = good_sequence limit xs v.good; following = v.following }

  -- after the name of a setting
  pub setting_value_good : {form : SettingForm} {v : ShapeSetting} {fs : Shown} {ts rest : Tokens} → ValueOf lexeme nothing (BelowLimit limit) form v fs ts rest
      → Ahead outside false ts → Passed (GoodSettingValue limit form v) rest
  setting_value_good (g.bare next) a = record { good = tt; following = a }
  setting_value_good (g.yes {operator = t} {word = u} {rest = rest} kind is) a =
      record { good = tt; following = past_token u rest kinds.Identifier is.is_name refl (past_token t (u ∷ rest) kinds.ColonEquals kind refl a) }
  setting_value_good (g.no {operator = t} {word = u} {rest = rest} kind is) a =
      record { good = tt; following = past_token u rest kinds.Identifier is.is_name refl (past_token t (u ∷ rest) kinds.ColonEquals kind refl a) }
  setting_value_good (g.expression {operator = t} {tokens = ts} kind x) a = value_good limit x (past_token t ts kinds.ColonEquals kind refl a)
  setting_value_good (g.plain {operator = t} {tokens = ts} kind x) a = value_good limit x (past_token t ts kinds.ColonEquals kind refl a)
  setting_value_good (g.interpreter {operator = t} {opener = u} {tokens = ts} kind kind2 xs) a =
      sequence_good xs (past_token u ts kinds.BracketL kind2 refl (past_token t (u ∷ ts) kinds.ColonEquals kind refl a))
