mod CurrentCopies
mod Lookups
mod Whole
