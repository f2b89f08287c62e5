-- The numbers that the protocol has.
use Rattle.std.specs.Prelude.{ℕ, ℤ, cond, pos, neg_ℤ}
use Rattle.editor_messages.specs.declared.answer.CompletionKind.{CompletionKind}
use Rattle.editor_messages.specs.declared.answer.CompletionKind.TheVariants as completions
use Rattle.editor_messages.specs.declared.answer.Highlight.{Highlight}
use Rattle.editor_messages.specs.declared.error_code.ErrorCode.{ErrorCode}
use Rattle.editor_messages.specs.declared.error_code.ErrorCode.TheVariants as errors
use Rattle.editor_messages.specs.declared.symbol_kind.SymbolKind.{SymbolKind}
use Rattle.editor_messages.specs.declared.symbol_kind.SymbolKind.TheVariants as symbols

abbrev pub error_number : ErrorCode → ℤ
error_number errors.ParseError = neg_ℤ (pos 32700)
error_number errors.InvalidRequest = neg_ℤ (pos 32600)
error_number errors.MethodNotFound = neg_ℤ (pos 32601)
error_number errors.InvalidParams = neg_ℤ (pos 32602)
error_number errors.InternalError = neg_ℤ (pos 32603)
error_number errors.ServerNotInitialized = neg_ℤ (pos 32002)
error_number errors.RequestFailed = neg_ℤ (pos 32803)
error_number errors.ContentModified = neg_ℤ (pos 32801)

abbrev pub symbol_number : SymbolKind → ℕ
symbol_number symbols.Module = 2
symbol_number symbols.Property = 7
symbol_number symbols.Function = 12
symbol_number symbols.Variable = 13

abbrev pub completion_number : CompletionKind → ℕ
completion_number completions.Function = 3
completion_number completions.Variable = 6
completion_number completions.Property = 10
completion_number completions.Value = 12
completion_number completions.Keyword = 14
completion_number completions.Constant = 21

-- a place where a name is written, if it defines the name, or read
abbrev pub highlight_number : Highlight → ℕ
highlight_number h = cond h.defines 3 2
