use Rattle.std.proofs.Common.{◌≡◌, filter, map, take}
use Rattle.editor_language.specs.declared.mention.Mention.{Mention}
use Rattle.editor_answers.specs.Names.{is_wanted}
use Rattle.editor_answers.proofs.names.wanted_spans.Given as goal

abbrev pub invariant-loop-mention : goal.invariant-loop-mention
invariant-loop-mention l = l.spans.items ≡ map (λ (m : Mention). m.span) (filter (is_wanted l.all l.name) (take l.mention-index l.mentions))
