-- Of all texts with the same normal shape, the printed one has the least need.
use Rattle.std.proofs.Common.{◌≡◌, ℕ, ◌≤◌, true, List, sym, ap, subst, ◌∙◌}
use Rattle.justfile_vocabulary.specs.Indentation.{IsIndentation}
use Rattle.justfile_model.specs.Grammars.Conditions.{Conditions}
use Rattle.justfile_model.specs.Grammars.Features.{Noted}
use Rattle.justfile_model.specs.Grammars.Files.{FileDerives}
use Rattle.justfile_model.specs.Printed.NormalShape.{normal}
use Rattle.justfile_model.specs.Printed.Printing.{printable}
use Rattle.justfile_model.specs.Lexing.SignificantTokens.{significant_tokens}
use Rattle.justfile_model.specs.Lexing.Tok.{Tok}
use Rattle.justfile_model.specs.Trees.Tree.{Tree, shape_of}
use Rattle.justfile_model.proofs.Lexing.LexedLaws.{one_list}
use Rattle.justfile_model.proofs.Derivations.Needs.{need_of, relimited}
use Rattle.justfile_model.proofs.Printed.Normal.{normal_printable}
use Rattle.justfile_round_trip.specs.Need.{TextNeeds}
use Rattle.justfile_round_trip.specs.RoundTrip.{TextDerives, printed}
use Rattle.justfile_round_trip.proofs.RoundTrip.{alike, back}

-- a text that derives a tree has a need
pub text_need : (conditions : Conditions) (source : List ℕ) (tree : Tree) (features : List (Noted Tok)) → TextDerives conditions source tree features
    → (need : ℕ) × TextNeeds conditions source need × (need ≤ conditions.limit)
text_need conditions source tree features h =
    let x = need_of conditions (significant_tokens h.tokens) tree features h.file in
    (x.0, record { utf8 = h.utf8; tokens = h.tokens; lexed = h.lexed; is_need = x.1 }, x.2)

-- no text derives under a limit below its need
need_within : (conditions other : Conditions) (source : List ℕ) (need : ℕ) (tree twin : Tree) (features others : List (Noted Tok)) → TextNeeds conditions source need
    → TextDerives conditions source tree features → TextDerives other source twin others → need ≤ other.limit
need_within conditions other source need tree twin features others n h q =
    let here = one_list source h.tokens n.tokens h.lexed n.lexed in
    let there = one_list source q.tokens n.tokens q.lexed n.lexed in
    let derives = subst (λ ts. FileDerives conditions (significant_tokens ts) tree features) here h.file in
    let again = subst (λ ts. FileDerives other (significant_tokens ts) twin others) there q.file in
    n.is_need.least other.limit (record {
      tree = tree;
      features = features;
      derives = relimited conditions (significant_tokens n.tokens) other tree twin features others derives again;
    })

-- if another text derives the same normal shape, its limit is at least the need of the printed text, under any conditions
pub least_need : (conditions others : Conditions) (source other : List ℕ) (tree twin : Tree) (features noted : List (Noted Tok)) (indentation : List ℕ) (need : ℕ)
    → IsIndentation indentation → TextDerives conditions source tree features → printable (shape_of tree) ≡ true → TextDerives others other twin noted
    → normal (shape_of twin) ≡ normal (shape_of tree) → TextNeeds conditions (printed (shape_of tree) indentation) need → need ≤ others.limit
least_need conditions others source other tree twin features noted indentation need is h fine q same n =
    let twin_fine : printable (shape_of twin) ≡ true = sym (normal_printable (shape_of twin)) ∙ ap printable same ∙ normal_printable (shape_of tree) ∙ fine in
    let x = back conditions source tree features indentation is h fine in
    let y = back others other twin noted indentation is q twin_fine in
    let there = subst (λ (text : List ℕ). TextDerives others text y.tree y.found) (alike (shape_of twin) (shape_of tree) indentation same) y.derives in
    need_within conditions others (printed (shape_of tree) indentation) need x.tree y.tree x.found y.found n x.derives there
