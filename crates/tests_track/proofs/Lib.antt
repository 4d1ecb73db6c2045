mod Dates
mod Whole
