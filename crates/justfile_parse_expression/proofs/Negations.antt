-- The loop that takes the `!` before a value reads what the definitions read recursively.
use Rattle.std.proofs.Common.{◌≡◌, ℕ, zero, suc, Some, None, Ok, Err, refl, sym, ap}
use Rattle.justfile_vocabulary.specs.declared.token_kind.TokenKind.TheVariants as kinds
use Rattle.justfile_vocabulary.specs.declared.list_feature.ListFeature.TheVariants as features
use Rattle.justfile_model.specs.Grammars.Features.{noted}
use Rattle.justfile_model.specs.Readers.ReaderState.{◌>>=◌, with}
use Rattle.justfile_model.specs.Trees.Tree as t
use Rattle.justfile_parse_expression.specs.Chains.{Tree, bare, negated, negation}
use Rattle.justfile_parse_expression.specs.TableReader.{ReadExpr, State, accept, value}
use Rattle.justfile_parse_expression.specs.Significant.{TableToken}
use Rattle.justfile_parse_expression.proofs.Operators.{value_is}
use Rattle.justfile_parse_expression.proofs.Rules.{then_made}

-- what was taken before, and what is still read
abbrev pub with_bangs : (count : ℕ) → ReadExpr → ReadExpr
with_bangs n found = found >>= then_made (negated n)

-- nothing is taken yet
pub begins : (found : ReadExpr) → with_bangs 0 found ≡ found
begins (Ok x) = refl
begins (Err f) = refl

negated_pushed : (n : ℕ) (e : Tree) → negated n (t.Not e) ≡ negated (suc n) e
negated_pushed zero e = refl
negated_pushed (suc n) e = ap t.Not (negated_pushed n e)

regroup : (n : ℕ) (found : ReadExpr) → with_bangs n (found >>= then_made t.Not) ≡ with_bangs (suc n) found
regroup n (Ok x) = ap (λ (e : Tree). Ok (e, x.1)) (negated_pushed n x.0)
regroup n (Err f) = refl

-- where no `!` comes next
pub bare_is : (s : State) → accept kinds.Bang s ≡ None → value s ≡ bare s
unfolding bare
bare_is s h = rw (value_is s, h) refl

pub goes_on : (n : ℕ) (b : TableToken) (s rest : State) → accept kinds.Bang s ≡ Some (b, rest)
    → with_bangs (suc n) (value (with (noted features.NegationOperator b.0) rest)) ≡ with_bangs n (value s)
goes_on n b s rest h = rw (value_is s, h) (sym (regroup n (value (with (noted features.NegationOperator b.0) rest))))

pub ends : (n : ℕ) (s : State) → accept kinds.Bang s ≡ None → with_bangs n (value s) ≡ negation n s
unfolding negation
ends n s h = ap (with_bangs n) (bare_is s h)
