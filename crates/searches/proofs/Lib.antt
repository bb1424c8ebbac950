pub mod Insides
mod LeafFinds
mod PageWalk
mod Searched
