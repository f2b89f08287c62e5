-- What is called where an argument of a justfile is written.
use Rattle.std.specs.Prelude.{◌≡◌, ◌-◌, ◌++◌, ℕ, Bool, true, false, List, [], Option, None, Some, drop, length, min, option_and_then, option_map, string_bytes}
use Rattle.editor_messages.specs.declared.answer.LabelPart.{LabelPart}
use Rattle.editor_messages.specs.declared.answer.Signature.{Signature}
use Rattle.editor_language.specs.declared.mention.Mention.{Mention}
use Rattle.justfile_completion.specs.Calls.{ToldCall, call_told}
use Rattle.justfile_completion.specs.Completions.{AreCompletions}
use Rattle.justfile_completion.specs.Tables.{shown_parameters}
use Rattle.justfile_completion.specs.declared.call.Call.{Call}
use Rattle.justfile_completion.specs.declared.found.Completions.{Completions}
use Rattle.justfile_signatures.specs.Known.{parameters_of}
use Rattle.justfile_signatures.specs.Label.{function_label, parts_from, recipe_label}

-- a built-in function with its parameters, if it is one
abbrev pub built_in_label : (name : List ℕ) (is_recipe : Bool) → Option (List ℕ)
built_in_label name true = None
built_in_label name false = option_map (λ shown. name ++ shown) (shown_parameters name)

abbrev pub label_by : (parameters : Option (List (List ℕ))) → (name : List ℕ) → (is_recipe : Bool) → Option (List ℕ)
label_by None name is_recipe = built_in_label name is_recipe
label_by (Some parameters) name true = Some (recipe_label name parameters)
label_by (Some parameters) name false = Some (function_label name parameters)

-- what is called, with its parameters, if they are known: what the mentions define comes before what is built in
abbrev pub label_of : List Mention → ToldCall → Option (List ℕ)
label_of mentions call = label_by (parameters_of call.name call.is_recipe mentions) call.name call.is_recipe

-- what is told of it
pub record Told : Type 0 where
  pub label : List ℕ
  pub parameters : List LabelPart
  pub active : ℕ

abbrev pub told : Signature → Told
told s = record { label = string_bytes s.label; parameters = s.parameters.items; active = s.active }

-- The parameters are the names after the first one; further arguments are for the last parameter.
abbrev pub signed : (label : List ℕ) (index : ℕ) → Told
signed label index = let parameters = drop 1 (parts_from 0 0 label) in record { label = label; parameters = parameters; active = min index (length parameters - 1) }

abbrev pub signature_of : List Mention → ToldCall → Option Told
signature_of mentions call = option_map (λ label. signed label call.index) (label_of mentions call)

-- This is called with an argument at an offset of a text with these mentions.
pub record IsSignature (text : List ℕ) (mentions : List Mention) (offset : ℕ) (signature : Option Signature) : Type 0 where
  pub made : Completions
  pub are : AreCompletions [] text (min offset (length text)) made
  pub is : option_map told signature ≡ option_and_then (λ (c : Call). signature_of mentions (call_told c)) made.call
