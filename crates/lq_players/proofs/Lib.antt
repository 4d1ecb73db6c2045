mod Apart
mod Results
pub mod Refused
mod Reported
mod TablesSeen
mod Ended
mod RowsRead
mod BackPlanned
mod BackMade
mod BackSource
mod RowsApart
mod UpdateTurns
mod UpdateMakes
mod OneStepChecked
mod SyncPlanned
mod Synced
pub mod LoadedTexts
mod Drilled
