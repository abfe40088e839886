pub mod LeastLaws
pub mod EntryLaws
pub mod ChangeLaws
pub mod SlotLaws
pub mod LookLaws
pub mod LoopLaws
pub mod LeavingLaws
pub mod WholeLaws
pub mod MutualLaws
pub mod PlaceLaws
pub mod UnderwayLaws
pub mod ColumnLaws
pub mod HoldsLaws
pub mod DigestLaws
pub mod DoubleLaws
pub mod NearLaws
mod Computed
pub mod JoinedLists
