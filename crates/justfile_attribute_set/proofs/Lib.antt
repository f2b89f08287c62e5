mod CopiedAttributes
mod CopiedKeys
mod CopiedPairs
pub mod CopiedTrees
mod Firsts
mod Groups
mod LastKept
mod Named
mod PlaceMoves
mod Placed
mod ResolvedPairs
mod SeenKinds
mod Sorts
