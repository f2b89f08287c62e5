-- What is offered of mentions.
use Rattle.std.proofs.Common.{◌≡◌, ℕ, List, filter, length, map, min}
use Rattle.std.specs.List.{AllZip}
use Rattle.editor_language.specs.declared.mention.Mention.{Mention}
use Rattle.editor_language.specs.declared.parts.Choices.{Choices}
use Rattle.justfile_completion.specs.Completions.{AreCompletions, told_of}
use Rattle.justfile_completion.specs.declared.found.Completions.{Completions}
use Rattle.justfile_completion.specs.declared.offer.Offer.{Offer}
use Rattle.justfile_server.specs.Choices.{AreChoices, Offers, is_offered, shown, to_show}

-- what was found, as it is shown
pub are_choices : (text : List ℕ) (mentions : List Mention) (offset : ℕ) (names : List Offer) (made : Completions) (choices : Choices) → AllZip (Offers text) (filter is_offered mentions) names
    → AreCompletions names text (min offset (length text)) made → choices.span.start ≡ made.start → choices.span.end ≡ made.end → choices.is_incomplete ≡ made.is_incomplete
    → map shown choices.found.items ≡ map to_show (map told_of made.found.items) → AreChoices text mentions offset choices
are_choices text mentions offset names made choices named are start end incomplete found =
    record { names = names; are_names = named; made = made; are = are; start_is = start; end_is = end; incomplete_is = incomplete; found_are = found }
