-- Root files under the usual conditions.
pub use Rattle.justfile_canonical.specs.Root.{HasNoRoot, IsFromZero, IsRoot, IsRootFrom, conditions, unchanged}
