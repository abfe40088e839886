pub mod JudgedProofs
mod Computed
mod ComputedQueries
mod ComputedMembers
mod ComputedGroups
