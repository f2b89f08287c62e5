-- The names of methods.
use Rattle.std.specs.Prelude.{ℕ, List, [], ◌∷◌, Option, codes}
use Rattle.std.specs.List.{find}
use Rattle.std.specs.Str.{bytes_eq}
use Rattle.editor_messages.specs.declared.method.Method.{Method}
use Rattle.editor_messages.specs.declared.method.Method.TheVariants as methods

abbrev pub method_name : Method → List ℕ
method_name methods.Initialize = codes "initialize"
method_name methods.Shutdown = codes "shutdown"
method_name methods.Exit = codes "exit"
method_name methods.DidOpen = codes "textDocument/didOpen"
method_name methods.DidChange = codes "textDocument/didChange"
method_name methods.DidClose = codes "textDocument/didClose"
method_name methods.DocumentSymbol = codes "textDocument/documentSymbol"
method_name methods.FoldingRange = codes "textDocument/foldingRange"
method_name methods.Formatting = codes "textDocument/formatting"
method_name methods.RangeFormatting = codes "textDocument/rangeFormatting"
method_name methods.Definition = codes "textDocument/definition"
method_name methods.References = codes "textDocument/references"
method_name methods.DocumentHighlight = codes "textDocument/documentHighlight"
method_name methods.PrepareRename = codes "textDocument/prepareRename"
method_name methods.Rename = codes "textDocument/rename"
method_name methods.Hover = codes "textDocument/hover"
method_name methods.Completion = codes "textDocument/completion"
method_name methods.CodeAction = codes "textDocument/codeAction"
method_name methods.SignatureHelp = codes "textDocument/signatureHelp"
method_name methods.CodeLens = codes "textDocument/codeLens"
method_name methods.SemanticTokens = codes "textDocument/semanticTokens/full"
method_name methods.DocumentLink = codes "textDocument/documentLink"

abbrev pub all_methods : List Method
all_methods = methods.Initialize ∷ methods.Shutdown ∷ methods.Exit ∷ methods.DidOpen ∷ methods.DidChange ∷ methods.DidClose ∷ methods.DocumentSymbol ∷ methods.FoldingRange ∷ methods.Formatting ∷ methods.RangeFormatting ∷ methods.Definition ∷ methods.References ∷ methods.DocumentHighlight ∷ methods.PrepareRename ∷ methods.Rename ∷ methods.Hover ∷ methods.Completion ∷ methods.CodeAction ∷ methods.SignatureHelp ∷ methods.CodeLens ∷ methods.SemanticTokens ∷ methods.DocumentLink ∷ []

-- the method with this name
unfoldable pub method_named : List ℕ → Option Method
method_named name = find (λ method. bytes_eq (method_name method) name) all_methods
