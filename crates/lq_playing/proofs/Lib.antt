pub mod Told
mod Answering
mod Machines
mod Marks
mod Erased
mod Shown
mod Firsts
mod Falling
mod Laters
mod Failing
mod FirstFaults
mod Safely
mod SafelyLater
mod Taking
