-- The printer's tokens for a good body derive its lines.
use Rattle.std.proofs.Common.{ℕ, Bool, true, false, List, [], ◌∷◌, ◌++◌, refl}
use Rattle.justfile_vocabulary.specs.declared.token_kind.TokenKind.TheVariants as kinds
use Rattle.justfile_model.specs.Trees.Tree.{Text, Interpolation, Line}
use Rattle.justfile_model.specs.Grammars.Grammar as g
use Rattle.justfile_round_trip.proofs.LiteralTexts.LexedModes.{Sign, sign, newline}
use Rattle.justfile_round_trip.proofs.Canon.{Shown, Fragment, ShapeLine, fragments_signs, lines_signs}
use Rattle.justfile_round_trip.proofs.Good.{GoodFragments, GoodLines, GoodBody, significant}
use Rattle.justfile_round_trip.proofs.RecipeBodies.BodyGood.{Tokens, LineOf, LinesOf}

module _ (limit : ℕ) where
  -- what derives, with its features
  line_back : (glued : Bool) (fs : List Fragment) (ts : List Sign) → GoodFragments limit fs → (ns : Shown) × LineOf limit fs ns (significant glued (fragments_signs fs (newline ∷ ts))) (significant true ts)
  line_back glued [] ts h = ([], g.line_ends refl)
  line_back glued (Text t ∷ []) ts h = let r = line_back true [] ts tt in (r.0, g.text refl r.1)
  line_back glued (Text t ∷ Text u ∷ fs) ts h = absurd h
  line_back glued (Text t ∷ Interpolation e ∷ fs) ts h = let r = line_back true (Interpolation e ∷ fs) ts h.2 in (r.0, g.text refl r.1)
  line_back glued (Interpolation e ∷ fs) ts h = let r = line_back true fs ts h.1 in (h.0.features ++ r.0, g.interpolation refl (h.0.derives false _ refl) refl r.1)

  -- a line that begins with a fragment begins with a token
  begun : {f : Fragment} {fs : List Fragment} {ls : List ShapeLine} {ns ms : Shown} {tokens between rest : Tokens} → LineOf limit (f ∷ fs) ns tokens between → LinesOf limit ls ms between rest → LinesOf limit (Line tt (f ∷ fs) ∷ ls) (ns ++ ms) tokens rest
  begun (g.text e r) k = g.some_line (g.text e r) k
  begun (g.interpolation e reads e' r) k = g.some_line (g.interpolation e reads e' r) k

  lines_back : (glued : Bool) (ind : List ℕ) (ls : List ShapeLine) (ts : List Sign) → GoodLines limit ls → (ns : Shown) × LinesOf limit ls ns (significant glued (lines_signs ind ls (sign kinds.Dedent [] ∷ ts))) (significant true ts)
  lines_back glued ind [] ts h = ([], g.no_line refl)
  lines_back glued ind (Line n [] ∷ ls) ts h = let r = lines_back true ind ls ts h.2 in (r.0, g.empty_line refl r.1)
  lines_back glued ind (Line n (f ∷ fs) ∷ ls) ts h =
      let l = line_back false (f ∷ fs) (lines_signs ind ls (sign kinds.Dedent [] ∷ ts)) h.0 in
      let r = lines_back true ind ls ts h.2 in
      (l.0 ++ r.0, begun l.1 r.1)

  -- after its Indent
  pub body_back : (ind : List ℕ) (n : Unit {0}) (fs : List Fragment) (ls : List ShapeLine) (ts : List Sign) → GoodBody limit (Line n fs ∷ ls)
      → (ns : Shown) × LinesOf limit (Line n fs ∷ ls) ns (significant true (fragments_signs fs (newline ∷ lines_signs ind ls (sign kinds.Dedent [] ∷ ts)))) (significant true ts)
  body_back ind n [] ls ts h = absurd h.0
  body_back ind n (f ∷ fs) ls ts h =
      let l = line_back true (f ∷ fs) (lines_signs ind ls (sign kinds.Dedent [] ∷ ts)) h.1 in
      let r = lines_back true ind ls ts h.2 in
      (l.0 ++ r.0, begun l.1 r.1)
