mod Bases
mod Committed
mod Entries
mod Putting
mod Staging
