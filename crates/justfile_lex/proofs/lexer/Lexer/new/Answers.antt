use Rattle.std.proofs.Common.{rules, refl, sym, subst}
use Rattle.std.specs.Prelude.{IfSome}
use Rattle.std.proofs.lemmas.Str.{IsCharBoundary-start}
use Rattle.justfile_model.specs.Lexing.LexResult.{IsFrom}
use Rattle.justfile_lex.proofs.PlaceLemmas.{place_start}
use Rattle.justfile_lex.proofs.lexer.Lexer.new.Goals as goal

pub returns-clause-lexing : goal.returns-clause-lexing
returns-clause-lexing c = record {
  placed = record { cut = IsCharBoundary-start _ c.utf8.src; place = place_start _ };
  offset_is = refl;
  mode_is = c.new.ensures.mode;
  interpolation_is = subst (λ i. IfSome i (IsFrom c.args.path.now c.args.src.now)) (sym c.new.ensures.interpolation) (search rules);
  begins = tt;
}
