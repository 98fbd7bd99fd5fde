mod Contracts
mod Named
mod Sources
mod Sinks
mod Keepers
mod Claimed
