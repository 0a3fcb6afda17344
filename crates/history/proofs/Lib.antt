mod Strikes
mod Tops
pub mod Events
pub mod Entering
pub mod Holds
mod MarkedMedium
mod DeletedMedium
mod WrittenMedium
mod WriteBurns
pub mod Agree
mod LookupStep
mod ReweightStep
mod AddServerStep
mod DeleteStep
mod WriteStep
mod CrashSteps
pub mod Batches
pub mod Run
mod Never
mod Counting
pub mod Unaltered
pub mod Theorem
pub mod LiveRule
pub mod Numbers
pub mod Example
pub mod CrashAlike
pub mod Counters
