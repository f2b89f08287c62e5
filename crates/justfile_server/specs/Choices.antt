-- What can be written somewhere in a justfile.
use Rattle.std.specs.Prelude.{◌≡◌, ◌&&◌, ℕ, Bool, false, true, List, [], codes, filter, length, map, min, string_bytes}
use Rattle.std.specs.List.{AllZip}
use Rattle.editor_messages.specs.declared.answer.Completion.{Completion}
use Rattle.editor_messages.specs.declared.answer.CompletionKind.{CompletionKind}
use Rattle.editor_messages.specs.declared.answer.CompletionKind.TheVariants as shown_as
use Rattle.editor_language.specs.declared.mention.Mention.{Mention}
use Rattle.editor_language.specs.declared.mention.Role.{Role}
use Rattle.editor_language.specs.declared.mention.Role.TheVariants as roles
use Rattle.editor_language.specs.declared.parts.Choices.{Choices}
use Rattle.justfile_completion.specs.Completions.{AreCompletions, told_of}
use Rattle.justfile_completion.specs.Offers.{Told}
use Rattle.justfile_completion.specs.declared.found.Completions.{Completions}
use Rattle.justfile_completion.specs.declared.offer.Offer.{Offer}
use Rattle.justfile_completion.specs.declared.offer.OfferKind.{OfferKind}
use Rattle.justfile_completion.specs.declared.offer.OfferKind.TheVariants as offers
use Rattle.justfile_server.specs.Comments.{comment_above}
use Rattle.justfile_server.specs.Headers.{function_end, recipe_span}
use Rattle.justfile_server.specs.Links.{IsPart}

-- what a name is offered as
abbrev pub role_kind : Role → OfferKind
role_kind roles.Recipe = offers.Recipe
role_kind roles.Constant = offers.Variable
role_kind roles.Variable = offers.Variable
role_kind roles.Function = offers.Function
role_kind roles.Parameter = offers.Parameter

abbrev pub is_known_in_all : Role → Bool
is_known_in_all roles.Parameter = false
is_known_in_all other = true

-- a mention defines a name that is known in all items; parameters are found by the tokens
abbrev pub is_offered : Mention → Bool
is_offered m = m.defines && is_known_in_all m.role

-- what is shown beside a name that is defined at an offset: of a recipe and a function the parameters, of an alias the target
abbrev pub IsDetail : (text : List ℕ) → Role → (start : ℕ) (detail : List ℕ) → Type 0
IsDetail text roles.Recipe start detail = IsPart text (recipe_span text start).start (recipe_span text start).end detail
IsDetail text roles.Function start detail = IsPart text start (function_end text start) detail
IsDetail text roles.Constant start detail = detail ≡ codes "variable"
IsDetail text roles.Variable start detail = detail ≡ codes "variable"
IsDetail text roles.Parameter start detail = detail ≡ codes "parameter"

-- what is said of it: of a recipe the comment above it
abbrev pub IsDocumentation : (text : List ℕ) → Role → (start : ℕ) (documentation : List ℕ) → Type 0
IsDocumentation text roles.Recipe start documentation = IsPart text (comment_above text start).start (comment_above text start).end documentation
IsDocumentation text other start documentation = documentation ≡ []

-- this is offered of the name that a mention in a text defines
pub record Offers (text : List ℕ) (m : Mention) (o : Offer) : Type 0 where
  pub kind_is : o.kind ≡ role_kind m.role
  pub name_is : o.name.now ≡ string_bytes m.name
  pub detail_is : IsDetail text m.role m.span.start o.detail.now
  pub documentation_is : IsDocumentation text m.role m.span.start o.documentation.now

abbrev pub kind_of : OfferKind → CompletionKind
kind_of offers.Constant = shown_as.Constant
kind_of offers.Function = shown_as.Function
kind_of offers.Group = shown_as.Value
kind_of offers.Keyword = shown_as.Keyword
kind_of offers.Parameter = shown_as.Variable
kind_of offers.Property = shown_as.Property
kind_of offers.Recipe = shown_as.Function
kind_of offers.Variable = shown_as.Variable

-- what an editor is shown of a text
pub record Shown : Type 0 where
  pub label : List ℕ
  pub kind : CompletionKind
  pub detail : List ℕ
  pub documentation : List ℕ

abbrev pub shown : Completion → Shown
shown c = record { label = string_bytes c.label; kind = c.kind; detail = string_bytes c.detail; documentation = string_bytes c.documentation }

abbrev pub to_show : Told → Shown
to_show t = record { label = t.name; kind = kind_of t.kind; detail = t.detail; documentation = t.documentation }

-- What can be written at an offset of a text with these mentions: the names are those that they define.
pub record AreChoices (text : List ℕ) (mentions : List Mention) (offset : ℕ) (choices : Choices) : Type 0 where
  pub names : List Offer
  pub are_names : AllZip (Offers text) (filter is_offered mentions) names
  pub made : Completions
  pub are : AreCompletions names text (min offset (length text)) made
  pub start_is : choices.span.start ≡ made.start
  pub end_is : choices.span.end ≡ made.end
  pub incomplete_is : choices.is_incomplete ≡ made.is_incomplete
  pub found_are : map shown choices.found.items ≡ map to_show (map told_of made.found.items)
