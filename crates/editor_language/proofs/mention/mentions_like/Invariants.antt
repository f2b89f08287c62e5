use Rattle.std.proofs.Common.{◌≡◌, take, map, filter}
use Rattle.editor_language.specs.declared.mention.Mention.{Mention}
use Rattle.editor_language.specs.Mentions.{is_like}
use Rattle.editor_language.proofs.mention.mentions_like.Given as goal

abbrev pub invariant-loop-mention : goal.invariant-loop-mention
invariant-loop-mention l = l.spans.items ≡ map (λ (m : Mention). m.span) (filter (is_like l.name) (take l.mention-index l.mentions))
