-- The symbols of a file.
pub use Rattle.justfile_outline.specs.Shown.{Shown, shown}
pub use Rattle.justfile_outline.specs.Symbols.{groups_of, item_parameters, item_symbols, item_target, set_groups, symbol_of}
pub use Rattle.justfile_canonical.specs.Reading.{HasSymbols, symbols_of}
pub use Rattle.justfile_outline.specs.declared.symbol.Symbol.{Symbol}
