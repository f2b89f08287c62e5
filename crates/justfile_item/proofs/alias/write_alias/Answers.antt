use Rattle.std.proofs.Common.{◌≡◌, ℕ, List, ◌++◌, codes, ap, ◌∙◌, subst}
use Rattle.justfile_token.specs.Namepath.{namepath_text}
use Rattle.justfile_token.specs.Token.{lexeme_of}
use Rattle.justfile_token.specs.declared.namepath.Namepath.{Namepath}
use Rattle.justfile_model.specs.Printed.Printing.{fixed_text}
use Rattle.justfile_token.proofs.PutLemmas.{failed_at}
use Rattle.justfile_item.specs.ItemText.{alias_text_of}
use Rattle.justfile_item.specs.declared.alias.Alias.{Alias}
use Rattle.justfile_item.proofs.ItemTexts.{alias_parts}
use Rattle.justfile_item.proofs.alias.write_alias.Goals as goal

-- the written pieces are the text of the alias
written : (a : Alias Namepath) (name : List ℕ) → name ≡ lexeme_of a.name.token
    → fixed_text (codes "alias ") ++ name ++ fixed_text (codes " := ") ++ namepath_text a.target ≡ alias_text_of a
written a name e = ap (λ (n : List ℕ). fixed_text (codes "alias ") ++ n ++ fixed_text (codes " := ") ++ namepath_text a.target) e ∙ alias_parts a

pub returns-in_err-write_namepath : goal.returns-in_err-write_namepath
returns-in_err-write_namepath g c =
    let s = g.met.S.Sink in
    failed_at g.S.Sink.took g.S.Sink.failed _ c.from_residual-in_err-write_namepath.ensures.0 (subst (λ (t : List ℕ). g.S.Sink.failed c.args.sink.now t c.write_namepath.new.sink) (written c.args.alias.now c.lexeme.result.now (c.lexeme.ensures ∙ ap lexeme_of c.deref.ensures))
    (s.failed_later _ _ _ _ _ (s.took_more _ _ _ _ _ (s.took_more _ _ _ _ _ c.in_ok-put_piece.ensures c.in_ok-put.ensures.ok) c.in_ok-put_piece-2.ensures) c.in_err-write_namepath.ensures))

pub returns : goal.returns
returns g c =
    let s = g.met.S.Sink in
    subst (λ (t : List ℕ). g.S.Sink.took c.args.sink.now t c.write_namepath.new.sink) (written c.args.alias.now c.lexeme.result.now (c.lexeme.ensures ∙ ap lexeme_of c.deref.ensures))
    (s.took_more _ _ _ _ _ (s.took_more _ _ _ _ _ (s.took_more _ _ _ _ _ c.in_ok-put_piece.ensures c.in_ok-put.ensures.ok) c.in_ok-put_piece-2.ensures) c.in_ok-write_namepath.ensures)
